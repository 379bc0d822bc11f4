-- A secondary sweep gathers a task for each enclave leaf, from the greatest number down.
use Rattle.std.proofs.Common.{◌≡◌, ℕ, ◌-◌, ◌<◌, ◌≤◌, ◌==◌, List, [], ◌∷◌, ◌++◌, length, refl, ap, sym, subst, inl, inr, arith}
use mathlib.Core.Logic.{dite}
use native.Mathlib.Decide.{ℕ_discrete}
use Rattle.stack_law.specs.Once.{IsIn}
use Rattle.peano_keys.specs.declared.cell.CellKey.{CellKey}
use Rattle.curve_cuts.specs.Cuts.{Cuts}
use Rattle.curve_cuts.specs.Enclave.{IsEnclave}
use Rattle.peano_keys.specs.Grid.{Spacetree}
use Rattle.result_table.specs.declared.view.View.{View}
use Rattle.result_table.specs.Views.{has}
use Rattle.result_table.proofs.Marked.{has_here}
use Rattle.task_pool.specs.Seen.{Collects}
use Rattle.spacetree.specs.Counts.{CountsCells}
use Rattle.std.proofs.lemmas.Bool.{or_right}
use Rattle.step_sweeps.specs.Tasks.{TasksSeen, Turns, Answers, IsCollected, CollectedAll, SpawnedAll}
use Rattle.step_sweeps.proofs.OwnCounts.{AreFound, none_found, found_more, found_same}
use Rattle.step_sweeps.proofs.SpawnCounts.{fewer_cells}

module _ {S : Type 0} where
  -- what was collected stays so
  stays : (v w : View S) (m k : ℕ) → Collects m v w → IsCollected v k → IsCollected w k
  stays v w m k (inl e) (inl h) = subst (λ x. IsCollected x k) (sym e) (inl (or_right (k == m) (has v.gathered k) h))
  stays v w m k (inl e) (inr h) = subst (λ x. IsCollected x k) (sym e) (inr h)
  stays v w m k (inr (inl e)) (inl h) = subst (λ x. IsCollected x k) (sym e) (inl h)
  stays v w m k (inr (inl e)) (inr (inl h)) = subst (λ x. IsCollected x k) (sym e) (inr (inl (or_right (k == m) (has v.idle k) h)))
  stays v w m k (inr (inl e)) (inr (inr h)) = subst (λ x. IsCollected x k) (sym e) (inr (inr h))
  stays v w m k (inr (inr e)) (inl h) = subst (λ x. IsCollected x k) (sym e) (inl h)
  stays v w m k (inr (inr e)) (inr (inl h)) = subst (λ x. IsCollected x k) (sym e) (inr (inl h))
  stays v w m k (inr (inr e)) (inr (inr h)) = subst (λ x. IsCollected x k) (sym e) (inr (inr (or_right (k == m) (has v.busy k) h)))

  -- and the number that is collected is
  collected : (v w : View S) (m : ℕ) → Collects m v w → IsCollected w m
  collected v w m (inl e) = subst (λ x. IsCollected x m) (sym e) (inl (has_here v.gathered m))
  collected v w m (inr (inl e)) = subst (λ x. IsCollected x m) (sym e) (inr (inl (has_here v.idle m)))
  collected v w m (inr (inr e)) = subst (λ x. IsCollected x m) (sym e) (inr (inr (has_here v.busy m)))

  -- as many numbers were collected as there are cells of a kind in a list, as long as one was left
  pub record HaveGathered (cells : List CellKey) (P : CellKey → Type 0) (x a : TasksSeen S) : Type 0 where
    pub found : List CellKey
    pub are : AreFound cells P found
    pub left : a.left ≡ x.left - length found
    pub all : (k : ℕ) → a.left ≤ k → k < x.left → IsCollected a.seat k

  pub none_gathered : (P : CellKey → Type 0) (x : TasksSeen S) → HaveGathered [] P x x
  none_gathered P x = record { found = []; are = none_found P; left = omega arith; all = λ k low high. absurd (omega (arith, low, high)) }

  -- with a cell more that is of another kind
  pub gathered_same : (cells : List CellKey) (P : CellKey → Type 0) (c : CellKey) (x a : TasksSeen S) → (P c → ⊥) → HaveGathered cells P x a → HaveGathered (cells ++ c ∷ []) P x a
  gathered_same cells P c x a other have = record { found = have.found; are = found_same cells have.found P c other have.are; left = have.left; all = have.all }

  -- and with one that is of the kind, and was answered
  pub gathered_more : (cells : List CellKey) (P : CellKey → Type 0) (c : CellKey) (x a b : TasksSeen S) → (IsIn c cells → ⊥) → P c → Answers a b → HaveGathered cells P x a → HaveGathered (cells ++ c ∷ []) P x b
  gathered_more cells P c x a b new kind (inl h) have =
      let next : b.left ≡ a.left - 1 = ap (λ (y : TasksSeen S). y.left) h.2 in
      let some : 0 < a.left = h.0 in
      let old = have.left in
      record {
        found = c ∷ have.found;
        are = found_more cells have.found P c new kind have.are;
        left = omega (arith, next, old);
        all = λ k low high. dite (ℕ_discrete k (a.left - 1))
            (λ e. subst (IsCollected b.seat) (sym e) (collected a.seat b.seat (a.left - 1) h.1))
            (λ not. stays a.seat b.seat (a.left - 1) k h.1 (have.all k (omega (arith, next, some, low, not)) high));
      }
  gathered_more cells P c x a b new kind (inr h) have =
      let none : a.left ≡ 0 = h.0 in
      let old = have.left in
      subst (HaveGathered (cells ++ c ∷ []) P x) (sym h.1) (record {
        found = c ∷ have.found;
        are = found_more cells have.found P c new kind have.are;
        left = omega (arith, none, old);
        all = have.all;
      })

  -- where as many were spawned as there are cells of the kind, all are collected then
  pub all_gathered : (k : Cuts) (g : Spacetree) (t : ℕ) (cells : List CellKey) (before x a : TasksSeen S) → Turns before x → SpawnedAll k g t before.left before.spawned → ((c : CellKey) → IsEnclave k g t c → IsIn c cells) → HaveGathered cells (IsEnclave k g t) x a → CollectedAll a.seat before.spawned
  all_gathered k g t cells before x a turns spawned seen have = λ n low. have.all n (omega (arith, as_many)) (omega (arith, turned turns, low))
    where
      members : CountsCells (IsEnclave k g t) (length have.found)
      members = record {
        cells = have.found;
        members = λ c. ((λ h. ((have.are.members c).0 h).1), (λ enclave. (have.are.members c).1 (seen c enclave, enclave)));
        once = have.are.once;
        count = refl;
      }

      turned : Turns before x → x.left ≡ before.spawned
      turned (inl h) = ap (λ (y : TasksSeen S). y.left) h.1
      turned (inr h) = let few = spawned.1 in let least = h.0 in let same = ap (λ (y : TasksSeen S). y.left) h.1 in omega (arith, few, least, same)

      as_many : a.left ≡ 0
      as_many = let more = fewer_cells (IsEnclave k g t) (IsEnclave k g t) before.spawned (length have.found) (λ c h. h) spawned.0 members in let left = have.left in let start = turned turns in omega (arith, more, left, start)
