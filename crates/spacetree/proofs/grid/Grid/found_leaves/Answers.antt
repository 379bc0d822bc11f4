use Rattle.std.proofs.Common.{arith, ◌≡◌, ◌<◌, ◌≤◌, ap, ◌∙◌, inl, inr, subst, sym, true, take, OnOk, Result, Ok, Err}
use Rattle.std.proofs.Math.Nat.{eq-or-lt_of_le}
use Rattle.std.proofs.lemmas.List.{take_all}
use Rattle.std.proofs.lemmas.Bool.{false≢true}
use Rattle.std.proofs.lemmas.Result.{IfOk-weaker}
use Rattle.std.specs.FinSet as set
use Rattle.peano_keys.specs.declared.cell.CellKey.{CellKey}
use Rattle.peano_keys.specs.Cell.{parent_of, key_cmp, root}
use Rattle.solver_api.specs.Step.{IsLeafOf}
use Rattle.spacetree.specs.Leaves.{is_among}
use Rattle.spacetree.proofs.CellSets.{among_more, listed_at, nowhere}
use Rattle.spacetree.proofs.Children.{root_is}
use Rattle.spacetree.proofs.Leaves.{leaf_there, parent_refined}
use Rattle.spacetree.proofs.grid.Grid.found_leaves.Goals as goal

pub add_leaf-requires-clause-within : goal.add_leaf-requires-clause-within
add_leaf-requires-clause-within c q h = absurd (false≢true (sym (set.contains-empty key_cmp q) ∙ ap (λ s. set.contains s q) (sym c.new-found.ensures) ∙ h))

pub add_leaves-requires-clause-refined : goal.add_leaves-requires-clause-refined
add_leaves-requires-clause-refined c =
    listed_at c.args.self.now.refined c.in_ok-parents.parents.items c.as_slice-parent-items.result.now c.loop-parent.parent-index c.in_ok-parents.ensures.cells c.as_slice-parent-items.ensures.value c.loop-parent-test.true

pub add_leaves-requires-clause-cell : goal.add_leaves-requires-clause-cell
add_leaves-requires-clause-cell c =
    c.in_ok-parents.ensures.served.grid.cells _ (listed_at c.args.self.now.refined c.in_ok-parents.parents.items c.as_slice-parent-items.result.now c.loop-parent.parent-index c.in_ok-parents.ensures.cells c.as_slice-parent-items.ensures.value c.loop-parent-test.true)

pub add_leaves-requires-clause-level : goal.add_leaves-requires-clause-level
add_leaves-requires-clause-level c =
    c.in_ok-parents.ensures.served.grid.levels _ (listed_at c.args.self.now.refined c.in_ok-parents.parents.items c.as_slice-parent-items.result.now c.loop-parent.parent-index c.in_ok-parents.ensures.cells c.as_slice-parent-items.ensures.value c.loop-parent-test.true)

pub loop-parent-preserved : goal.loop-parent-preserved
loop-parent-preserved c =
    let after = c.in_ok-add_leaves.ensures in
    record {
      within = after.within;
      root = λ h. after.kept root (c.loop-parent.invariant.root h);
      below = λ q leaf pos h. elim (among_more c.as_slice-parent-items.result.now c.loop-parent.parent-index nowhere (parent_of q) c.loop-parent-test.true h) [
        | inl e ↦ after.kept q (c.loop-parent.invariant.below q leaf pos e)
        | inr e ↦ after.children q leaf pos e
      ];
    }

on_ok : {T E : Type 0} (r : Result T E) (P : Type 0) → P → OnOk r P
on_ok (Ok x) P p = p
on_ok (Err e) P p = tt

pub returns-clause-served : goal.returns-clause-served
returns-clause-served c = on_ok c.cells.result _ c.in_ok-parents.ensures.served

pub returns-clause-leaves : goal.returns-clause-leaves
returns-clause-leaves c =
    let t = c.args.self.now in
    let found = c.loop-parent.found in
    let at_root : (q : CellKey) → IsLeafOf t q → 0 ≡ q.level → set.contains found q ≡ true =
    λ q leaf e. let same = root_is t.dim q leaf.cell (sym e) in subst (λ (k : CellKey). set.contains found k ≡ true) (sym same) (c.loop-parent.invariant.root (subst (IsLeafOf t) same leaf)) in
    let all : take c.loop-parent.parent-index c.as_slice-parent-items.result.now ≡ c.in_ok-parents.parents.items = take_all c.loop-parent.parent-index c.as_slice-parent-items.result.now c.loop-parent-test.false ∙ c.as_slice-parent-items.ensures.value in
    let below : (q : CellKey) → IsLeafOf t q → 0 < q.level → set.contains found q ≡ true =
    λ q leaf pos. c.loop-parent.invariant.below q leaf pos (ap (λ l. is_among l (parent_of q)) all ∙ c.in_ok-parents.ensures.cells.members (parent_of q) ∙ parent_refined t q pos (leaf_there t q leaf)) in
    IfOk-weaker c.cells.result _ _ (λ cells lists. record {
      members = λ q. (λ h. c.loop-parent.invariant.within q (sym (lists.members q) ∙ h), λ leaf. lists.members q ∙ (let least : 0 ≤ q.level = omega arith in elim (eq-or-lt_of_le least) [ inl e ↦ at_root q leaf e | inr pos ↦ below q leaf pos ]));
      order = lists.order;
    }) c.cells.ensures
