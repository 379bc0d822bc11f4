use Rattle.std.proofs.Common.{subst, arith}
use Rattle.std.proofs.lemmas.Bool.Decides.{nat_tests}
use Rattle.peano_keys.specs.declared.cell.CellKey.{CellKey}
use Rattle.handed_down.specs.Across.{Surround}
use Rattle.handed_down.proofs.Inside.{is_root}
use Rattle.handed_down.proofs.surroundings.Surroundings.+of_cell.Goals as goal

pub returns-then-cell-eq0 : goal.returns-then-cell-eq0
returns-then-cell-eq0 t c = subst (λ (k : CellKey). Surround c.args.dir c.args.dim c.args.range.now c.args.depth k c.of_root.result) (is_root c.args.dim c.args.cell c.requires.cell (grind (arith, nat_tests, c.if-cell-eq0.true))) (c.of_root.ensures c.args.dir)

pub returns : goal.returns
returns t c = c.below.ensures c.args.range.now c.args.depth c.requires.above (subst (λ (k : CellKey). Surround c.args.dir c.args.dim c.args.range.now c.args.depth k c.of_cell-above.result) c.parent.ensures.value c.of_cell-above.ensures)
