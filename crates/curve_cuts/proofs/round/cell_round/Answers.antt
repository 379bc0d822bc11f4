use Rattle.std.proofs.Common.{◌≡◌, ◌-◌, ◌/◌, ◌^◌, ◌≤◌, subst, sym, arith}
use Rattle.peano_keys.specs.Cell.{IsCell, triple, at}
use Rattle.curve_cuts.specs.Round.{LiesInside, SurroundsCell}
use Rattle.curve_cuts.proofs.Around.{above_cell, above_surrounds}
use Rattle.curve_cuts.proofs.round.cell_round.Goals as goal

pub returns-then-is_inside : goal.returns-then-is_inside
returns-then-is_inside c =
    let inside : LiesInside c.args.dim (3 ^ c.loop-levels.levels) c.args.cell = subst (λ m. LiesInside c.args.dim m c.args.cell) c.extent-span.ensures.value (c.is_inside.ensures c.if-is_inside.true) in
    let le : c.loop-levels.levels ≤ c.args.cell.level = omega arith in
    record {
      cell = subst (λ m. IsCell c.args.dim (record { level = c.args.cell.level - c.loop-levels.levels; x = triple (at c.args.cell 0 / m) (at c.args.cell 1 / m) (at c.args.cell 2 / m) })) (sym c.extent-span.ensures.value) (above_cell c.args.dim c.args.cell c.loop-levels.levels c.requires le inside);
      level = omega arith;
      round = subst (λ m. SurroundsCell c.args.dim (record { level = c.args.cell.level - c.loop-levels.levels; x = triple (at c.args.cell 0 / m) (at c.args.cell 1 / m) (at c.args.cell 2 / m) }) c.args.cell) (sym c.extent-span.ensures.value) (above_surrounds c.args.dim c.args.cell c.loop-levels.levels c.requires le inside);
    }
