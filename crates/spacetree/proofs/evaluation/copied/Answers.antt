use Rattle.std.proofs.Common.{ap, sym, subst, ◌+◌, List, take, Some, Option}
use Rattle.std.proofs.lemmas.List.{take_all}
use Rattle.peano_keys.specs.declared.cell.CellKey.{CellKey}
use Rattle.peano_keys.specs.declared.state.State.{State}
use Rattle.peano_keys.specs.Field.{state_at}
use Rattle.spacetree.proofs.CellSets.{nowhere}
use Rattle.spacetree.proofs.Givens.{Gives, gives_none, gives_more, same_field}
use Rattle.spacetree.proofs.evaluation.copied.Goals as goal

pub loop-leaf-init : goal.loop-leaf-init
loop-leaf-init c = gives_none (λ q. Some (state_at c.args.field.now q)) c.empty-copy.result c.empty-copy.ensures

pub loop-leaf-preserved : goal.loop-leaf-preserved
loop-leaf-preserved c =
    let given : CellKey → Option State = λ q. Some (state_at c.args.field.now q) in
    let cells = c.args.leaves.now in
    subst (Gives given (take (c.loop-leaf.leaf-index + 1) cells)) (sym c.in_ok-set.ensures.ok)
    (gives_more given cells c.loop-leaf.leaf-index nowhere c.loop-leaf.copy c.state.result c.loop-leaf-test.true c.loop-leaf.invariant (ap Some (sym c.state.ensures)))

pub returns : goal.returns
returns c =
    let given : CellKey → Option State = λ q. Some (state_at c.args.field.now q) in
    let all = take_all c.loop-leaf.leaf-index c.args.leaves.now c.loop-leaf-test.false in
    same_field c.args.parts c.args.grid.now c.args.field.now c.args.leaves.now c.loop-leaf.copy c.requires.field c.requires.leaves (subst (λ (cells : List CellKey). Gives given cells c.loop-leaf.copy) all c.loop-leaf.invariant)
