-- A change in which refined cells take given values, and all else is as in another one.
use Rattle.std.proofs.Common.{◌≡◌, ℕ, true, false, if◌then◌else◌, Option, Some, None, ap, sym, ◌∙◌, subst}
use Rattle.std.specs.Prelude.{IsSome, IsNone}
use Rattle.peano_keys.specs.declared.cell.CellKey.{CellKey}
use Rattle.peano_keys.specs.declared.state.State.{State}
use Rattle.peano_keys.specs.Grid.{is_refined}
use Rattle.peano_keys.specs.Field.{States}
use Rattle.peano_curve.specs.declared.order.Direction.{Direction}
use Rattle.hanging_nodes.proofs.TwoGrids.{leaf_not}
use Rattle.curve_cuts.specs.Cuts.{Cuts}
use Rattle.curve_cuts.specs.Enclave.{IsEnclave}
use Rattle.tree_automaton.specs.TreeLists.{TreeLists}
use Rattle.step_phases.specs.Change.{Change}
use Rattle.step_phases.specs.Phases.{AfterFirst}
use Rattle.step_phases.proofs.Sweeps.{says_less}
use Rattle.step_world.specs.Failing.{FailsAmong}
use Rattle.swept_slots.specs.Copies.{copies}
use Rattle.step_sweeps.specs.declared.tally.Tally.{Tally}
use Rattle.step_sweeps.specs.Kernels.{Kernel}
use Rattle.step_sweeps.specs.Sweeps.{AreNewStatesOf, IsMarked, IsTallied}

-- new values that agree on the cells of a kind fail at the same one
fails_same : (P : CellKey → Type 0) (a b : CellKey → Option State) (o : Option CellKey) → ((c : CellKey) → P c → a c ≡ b c) → FailsAmong P a o → FailsAmong P b o
fails_same P a b None same h = λ c kind. subst IsSome (same c kind) (h c kind)
fails_same P a b (Some d) same h = record { kind = h.kind; failed = subst IsNone (same d h.kind) h.failed; least = λ c kind less. subst IsSome (same c kind) (h.least c kind less) }

module _ (w : Change) (means : CellKey → Option State) where
  abbrev pub with_means : Change
  with_means = record { old = w.old; new = w.new; value = w.value; mark = w.mark; next = λ c. if is_refined w.old c then means c else w.next c; last = w.last }

  pub leaf_next : (c : CellKey) → is_refined w.old c ≡ false → with_means.next c ≡ w.next c
  leaf_next c plain = ap (λ b. if b then means c else w.next c) plain

  pub refined_next : (c : CellKey) → is_refined w.old c ≡ true → with_means.next c ≡ means c
  refined_next c refined = ap (λ b. if b then means c else w.next c) refined

  pub states_with : (parts : ℕ) (states : States) → AreNewStatesOf w parts states → AreNewStatesOf with_means parts states
  states_with parts states h = record { field = h.field; leaves = λ c leaf. leaf_next c (leaf_not w.old c leaf.leaf) ∙ h.leaves c leaf }

  pub marked_with : (kernel : Kernel) (k : Cuts) (dir : Direction) (f : States) (s : TreeLists) → IsMarked kernel k dir w f s → IsMarked kernel k dir with_means f s
  marked_with kernel k dir f s is = record {
    grid = is.grid;
    field = is.field;
    by = record { old = is.by.old; marks = is.by.marks; leaves = λ c leaf. leaf_next c (leaf_not w.old c leaf.leaf) ∙ is.by.leaves c leaf };
    change = record { values = is.change.values; grid = is.change.grid };
    tree = is.tree;
    lists = is.lists;
    says = λ v has. says_less k v (AfterFirst k w) (AfterFirst k with_means) (copies s.lanes.input v)
        (λ c x h. record { rest = h.rest; mark = h.mark; next = λ t skeleton. subst (λ o. (v : State) → o ≡ Some v → x.next ≡ v) (sym (leaf_next c (leaf_not w.old c skeleton.0.leaf))) (h.next t skeleton) })
        (is.says v has);
  }

  pub tally_without : (k : Cuts) (t : ℕ) (tally : Tally) → IsTallied k with_means t tally → IsTallied k w t tally
  tally_without k t tally h = record {
    failing = fails_same (IsEnclave k w.old t) with_means.next w.next tally.failing (λ c enclave. leaf_next c (leaf_not w.old c enclave.0.leaf)) h.failing;
    splits = h.splits;
    merges = h.merges;
  }
