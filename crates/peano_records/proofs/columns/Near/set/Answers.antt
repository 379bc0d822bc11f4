use Rattle.std.proofs.Common.{◌≡◌, ◌+◌, ◌-◌, arith, ◌∙◌, ap}
use Rattle.std.specs.Prelude.{true}
use Rattle.peano_records.specs.Columns.{record_of, slot_by}
use Rattle.peano_records.specs.Slots.{with_slot}
use Rattle.peano_records.proofs.columns.Near.set.Goals as goal

pub returns-then-n-lt4-clause-value : goal.returns-then-n-lt4-clause-value
returns-then-n-lt4-clause-value c =
    let p = c.of-pieces.result in
    c.set_near.ensures c.make_way.new.far
    ∙ ap (λ r. with_slot r c.args.n (slot_by true p.parts p.firsts p.rests)) (c.make_way.ensures.same c.args.more.now)
    ∙ ap (λ s. with_slot (record_of c.args.self.now c.args.far.now c.args.more.now) c.args.n s) c.of-pieces.ensures

pub returns-clause-value : goal.returns-clause-value
returns-clause-value c =
    let p = c.of-pieces.result in
    let k : 4 + (c.args.n - 4) ≡ c.args.n = omega (arith, c.if-n-lt4.false) in
    c.set_far.ensures
    ∙ ap (λ n. with_slot (record_of c.reach_far.new.self c.reach_far.new.far c.args.more.now) n (slot_by true p.parts p.firsts p.rests)) k
    ∙ ap (λ r. with_slot r c.args.n (slot_by true p.parts p.firsts p.rests)) (c.reach_far.ensures.same c.args.more.now ∙ c.make_way.ensures.same c.args.more.now)
    ∙ ap (λ s. with_slot (record_of c.args.self.now c.args.far.now c.args.more.now) c.args.n s) c.of-pieces.ensures
