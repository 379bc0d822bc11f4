use Rattle.std.proofs.Common.{ap, ◌∙◌, sym, subst, refl}
use Rattle.peano_keys.specs.declared.dim.Dim.{Dim}
use Rattle.peano_keys.specs.Cell.{IsCell}
use Rattle.peano_keys.specs.State.{count_of}
use Rattle.spacetree.proofs.Values.{count_at_cover, away_unrefined}
use Rattle.spacetree.proofs.side.side.Goals as goal

pub returns-then-has_cell-clause-parts : goal.returns-then-has_cell-clause-parts
returns-then-has_cell-clause-parts c n grid field = c.value.ensures.parts n grid field (sym c.has_cell.ensures ∙ c.if-has_cell.true)

pub returns-else-has_cell-clause-parts : goal.returns-else-has_cell-clause-parts
returns-else-has_cell-clause-parts c n grid field =
    let t = c.args.grid.now in
    let other = c.in-Some.other in
    let cell = subst (λ (d : Dim). IsCell d other) c.dim.ensures c.in-Some.ensures.cell in
    ap count_of c.covering.ensures ∙ count_at_cover other.level n t c.args.field.now other field cell (away_unrefined t other grid (sym c.has_cell.ensures ∙ c.if-has_cell.false)) refl
