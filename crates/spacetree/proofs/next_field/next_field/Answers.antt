use Rattle.std.proofs.Common.{ap, ◌∙◌, sym, subst, ◌+◌, List, get_or, take, Some, Option, refl}
use Rattle.std.proofs.lemmas.List.{take_all}
use Rattle.peano_keys.specs.declared.cell.CellKey.{CellKey}
use Rattle.peano_keys.specs.declared.dim.Dim.{Dim}
use Rattle.peano_keys.specs.declared.state.State.{State}
use Rattle.peano_keys.specs.Cell.{IsCell}
use Rattle.peano_keys.specs.Field.{value_of}
use Rattle.solver_api.specs.Step.{source_of}
use Rattle.spacetree.proofs.CellSets.{leaf_at, nowhere}
use Rattle.spacetree.proofs.Givens.{Gives, gives_none, gives_more, given_at_leaf, keys_given}
use Rattle.spacetree.proofs.next_field.next_field.Goals as goal

pub loop-leaf-init : goal.loop-leaf-init
loop-leaf-init c = gives_none (λ q. Some (value_of c.args.old.now c.args.states.now (source_of c.args.old.now q))) c.empty-after.result c.empty-after.ensures

pub inherited-requires : goal.inherited-requires
inherited-requires c =
    let cells = c.as_slice-leaf-items.result.now in
    let k : CellKey = get_or cells c.loop-leaf.leaf-index nowhere in
    subst (λ (d : Dim). IsCell d k) c.requires
    (leaf_at c.args.next.now c.in_ok-leaves.leaves.items cells c.loop-leaf.leaf-index c.in_ok-leaves.ensures c.as_slice-leaf-items.ensures.value c.loop-leaf-test.true).cell

pub loop-leaf-preserved : goal.loop-leaf-preserved
loop-leaf-preserved c =
    let cells = c.as_slice-leaf-items.result.now in
    let given : CellKey → Option State = λ q. Some (value_of c.args.old.now c.args.states.now (source_of c.args.old.now q)) in
    subst (Gives given (take (c.loop-leaf.leaf-index + 1) cells)) (sym c.in_ok-set.ensures.ok)
    (gives_more given cells c.loop-leaf.leaf-index nowhere c.loop-leaf.after c.inherited.result c.loop-leaf-test.true c.loop-leaf.invariant (ap Some (sym c.inherited.ensures)))

pub returns : goal.returns
returns c =
    let given : CellKey → Option State = λ q. Some (value_of c.args.old.now c.args.states.now (source_of c.args.old.now q)) in
    let all = take_all c.loop-leaf.leaf-index c.as_slice-leaf-items.result.now c.loop-leaf-test.false ∙ c.as_slice-leaf-items.ensures.value in
    let gives = subst (λ (cells : List CellKey). Gives given cells c.loop-leaf.after) all c.loop-leaf.invariant in
    record {
      keys = keys_given c.args.next.now given c.in_ok-leaves.leaves.items c.loop-leaf.after c.in_ok-leaves.ensures gives (λ q leaf. refl);
      values = given_at_leaf c.args.next.now given c.in_ok-leaves.leaves.items c.loop-leaf.after c.in_ok-leaves.ensures gives;
    }
