use Rattle.std.proofs.Common.{◌-◌, arith, ◌∙◌}
use Rattle.peano_records.proofs.Halves.{near_at, far_at}
use Rattle.peano_records.proofs.columns.Near.slot.Goals as goal

pub returns-then-n-lt4 : goal.returns-then-n-lt4
returns-then-n-lt4 c = c.slot_of_four.ensures ∙ near_at c.args.self.now c.args.far.now c.args.more.now c.args.n c.if-n-lt4.true

pub returns-then-self : goal.returns-then-self
returns-then-self c =
    c.slot_of_four-then-self.ensures ∙ far_at c.args.self.now c.args.far.now c.args.more.now (c.args.n - 4) c.args.n c.if-self.true (omega (arith, c.requires, c.if-n-lt4.false)) (omega (arith, c.if-n-lt4.false))
