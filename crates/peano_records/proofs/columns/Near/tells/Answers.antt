use Rattle.std.proofs.Common.{◌-◌, arith, ap, sym, ◌∙◌}
use Rattle.peano_records.specs.Tells.{slot_tells}
use Rattle.peano_records.proofs.Halves.{near_at, far_at, far_blank}
use Rattle.peano_records.proofs.columns.Near.tells.Goals as goal

pub returns-then-n-lt4 : goal.returns-then-n-lt4
returns-then-n-lt4 c = λ more. c.tells_of_four.ensures c.args.self.now.has_more more.near ∙ ap (slot_tells c.args.after) (near_at c.args.self.now c.args.far.now more c.args.n c.if-n-lt4.true)

pub returns-then-self : goal.returns-then-self
returns-then-self c = λ more.
    c.tells_of_four-then-self.ensures c.args.self.now.has_more more.far ∙ ap (slot_tells c.args.after) (far_at c.args.self.now c.args.far.now more (c.args.n - 4) c.args.n c.if-self.true (omega (arith, c.requires, c.if-n-lt4.false)) (omega (arith, c.if-n-lt4.false)))

pub returns-else-self : goal.returns-else-self
returns-else-self c = λ more. sym (ap (slot_tells c.args.after) (far_blank c.args.self.now c.args.far.now more c.args.n c.if-self.false (omega (arith, c.if-n-lt4.false)) c.requires))
