use Rattle.std.proofs.Common.{ap, ◌∙◌, sym, subst, ◌≡◌, ◌+◌, List, get_or, take, Some, Option, refl}
use Rattle.std.proofs.lemmas.List.{take_all}
use Rattle.peano_keys.specs.declared.cell.CellKey.{CellKey}
use Rattle.peano_keys.specs.declared.state.State.{State}
use Rattle.peano_keys.specs.declared.dim.Dim.{Dim}
use Rattle.peano_keys.specs.Cell.{IsCell}
use Rattle.spacetree.specs.Opening.{opening_state}
use Rattle.spacetree.proofs.CellSets.{leaf_at, nowhere}
use Rattle.spacetree.proofs.Givens.{Gives, Counts, gives_none, counts_none, gives_more, counts_more, field_on, given_at_leaf, none_elsewhere}
use Rattle.spacetree.proofs.field.Field.opening.Goals as goal

pub loop-leaf-init : goal.loop-leaf-init
loop-leaf-init c = record {
  gives = gives_none (λ q. Some (opening_state c.args.grid.now.dim c.args.fills.now c.args.parts q)) c.empty-field.result c.empty-field.ensures;
  counts = counts_none c.args.parts c.empty-field.result c.empty-field.ensures;
}

pub opening_state-requires-clause-cell : goal.opening_state-requires-clause-cell
opening_state-requires-clause-cell c =
    let k : CellKey = get_or c.as_slice-leaf-items.result.now c.loop-leaf.leaf-index nowhere in
    subst (λ (d : Dim). IsCell d k) (sym c.dim-dim.ensures)
    (leaf_at c.args.grid.now c.in_ok-leaves.leaves.items c.as_slice-leaf-items.result.now c.loop-leaf.leaf-index c.in_ok-leaves.ensures c.as_slice-leaf-items.ensures.value c.loop-leaf-test.true).cell

pub loop-leaf-preserved : goal.loop-leaf-preserved
loop-leaf-preserved c =
    let cells = c.as_slice-leaf-items.result.now in
    let k : CellKey = get_or cells c.loop-leaf.leaf-index nowhere in
    let fills = c.args.fills.now in
    let parts = c.args.parts in
    let given : CellKey → Option State = λ q. Some (opening_state c.args.grid.now.dim fills parts q) in
    let value : given k ≡ Some c.opening_state.result = ap Some (ap (λ d. opening_state d fills parts k) (sym c.dim-dim.ensures) ∙ sym c.opening_state.ensures.value) in
    let is = c.in_ok-set.ensures.ok in
    record {
      gives = subst (Gives given (take (c.loop-leaf.leaf-index + 1) cells)) (sym is) (gives_more given cells c.loop-leaf.leaf-index nowhere c.loop-leaf.field c.opening_state.result c.loop-leaf-test.true c.loop-leaf.invariant.gives value);
      counts = subst (Counts parts) (sym is) (counts_more parts c.loop-leaf.field k c.opening_state.result c.loop-leaf.invariant.counts c.opening_state.ensures.count);
    }

pub returns-clause-opening : goal.returns-clause-opening
returns-clause-opening c =
    let given : CellKey → Option State = λ q. Some (opening_state c.args.grid.now.dim c.args.fills.now c.args.parts q) in
    let all = take_all c.loop-leaf.leaf-index c.as_slice-leaf-items.result.now c.loop-leaf-test.false ∙ c.as_slice-leaf-items.ensures.value in
    let gives = subst (λ (cells : List CellKey). Gives given cells c.loop-leaf.field) all c.loop-leaf.invariant.gives in
    record {
      leaves = given_at_leaf c.args.grid.now given c.in_ok-leaves.leaves.items c.loop-leaf.field c.in_ok-leaves.ensures gives;
      others = none_elsewhere c.args.grid.now given c.in_ok-leaves.leaves.items c.loop-leaf.field c.in_ok-leaves.ensures gives;
    }

pub returns-clause-field : goal.returns-clause-field
returns-clause-field c =
    let given : CellKey → Option State = λ q. Some (opening_state c.args.grid.now.dim c.args.fills.now c.args.parts q) in
    let all = take_all c.loop-leaf.leaf-index c.as_slice-leaf-items.result.now c.loop-leaf-test.false ∙ c.as_slice-leaf-items.ensures.value in
    let gives = subst (λ (cells : List CellKey). Gives given cells c.loop-leaf.field) all c.loop-leaf.invariant.gives in
    field_on c.args.parts c.args.grid.now given c.in_ok-leaves.leaves.items c.loop-leaf.field c.in_ok-leaves.ensures gives (λ q leaf. refl) c.loop-leaf.invariant.counts
