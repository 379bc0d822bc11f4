use Rattle.std.proofs.Common.{arith, ◌<◌, ◌/◌, ap, ◌∙◌, sym, subst}
use Rattle.std.specs.FinSet as set
use Rattle.peano_keys.specs.Grid.{Cells}
use Rattle.spacetree.specs.Build.{HasOpened}
use Rattle.spacetree.proofs.CellSets.{kept_by_insert, has_inserted}
use Rattle.spacetree.proofs.Openings.{opened_by_insert}
use Rattle.spacetree.proofs.CellCounts.{no_small_grid, too_many}
use Rattle.spacetree.proofs.build.add.Goals as goal

pub returns-then-len-from-clause-fault : goal.returns-then-len-from-clause-fault
returns-then-len-from-clause-fault c =
    let shape = c.args.shape.now in
    let refined : Cells = c.insert.new.self in
    let full : 199999 / c.child_count.result < set.len refined = omega (arith, c.if-len-from.true, c.len.ensures, ap (λ f. 199999 / f) c.from.ensures) in
    let many = too_many shape.dim (set.len refined) c.child_count.result c.child_count.ensures.power full in
    let opened : HasOpened shape refined = subst (HasOpened shape) (sym c.in_ok-insert.ensures.ok) (opened_by_insert shape c.args.cells.now c.args.key c.requires.within c.requires.opened) in
    record { refined = refined; opened = opened; many = many; grids = no_small_grid shape refined opened many }

pub returns-clause-within : goal.returns-clause-within
returns-clause-within c = subst (HasOpened c.args.shape.now) (sym c.in_ok-insert.ensures.ok) (opened_by_insert c.args.shape.now c.args.cells.now c.args.key c.requires.within c.requires.opened)

pub returns-clause-kept : goal.returns-clause-kept
returns-clause-kept c q h = ap (λ s. set.contains s q) c.in_ok-insert.ensures.ok ∙ kept_by_insert c.args.cells.now c.args.key q h

pub returns-clause-added : goal.returns-clause-added
returns-clause-added c = ap (λ s. set.contains s c.args.key) c.in_ok-insert.ensures.ok ∙ has_inserted c.args.cells.now c.args.key
