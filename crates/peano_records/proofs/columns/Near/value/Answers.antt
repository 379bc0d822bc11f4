use Rattle.std.proofs.Common.{◌-◌, arith, ap, sym, ◌∙◌}
use Rattle.peano_records.specs.declared.slot.Slot.{Slot}
use Rattle.peano_records.proofs.Halves.{near_at, far_at, far_blank}
use Rattle.peano_records.proofs.columns.Near.value.Goals as goal

pub returns-then-n-lt4 : goal.returns-then-n-lt4
returns-then-n-lt4 c = c.value_of_four.ensures ∙ ap (λ (s : Slot). s.value) (near_at c.args.self.now c.args.far.now c.args.more.now c.args.n c.if-n-lt4.true)

pub returns-then-self : goal.returns-then-self
returns-then-self c =
    c.value_of_four-then-self.ensures ∙ ap (λ (s : Slot). s.value) (far_at c.args.self.now c.args.far.now c.args.more.now (c.args.n - 4) c.args.n c.if-self.true (omega (arith, c.requires, c.if-n-lt4.false)) (omega (arith, c.if-n-lt4.false)))

pub returns-else-self : goal.returns-else-self
returns-else-self c = sym (ap (λ (s : Slot). s.value) (far_blank c.args.self.now c.args.far.now c.args.more.now c.args.n c.if-self.false (omega (arith, c.if-n-lt4.false)) c.requires))
