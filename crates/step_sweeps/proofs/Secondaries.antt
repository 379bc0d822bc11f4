-- What the calls of the secondary visitor may do.
use Rattle.std.proofs.Common.{◌≡◌, ◌+◌, ℕ, ⊎_elim, inl, inr, subst}
use Rattle.peano_records.specs.declared.view.CellView.{CellView}
use Rattle.tree_automaton.specs.Promises.{EachSlot, IsViewIn}
use Rattle.step_sweeps.specs.Secondaries.{SecondaryWork, RefinedLeft, HasMeans, refined_intends, merging_at, sums_at, weight_in}
use Rattle.step_sweeps.proofs.OwnSlots.{Allowed, told_may, same_may}

pub refined_may : {S : Type 0} (parts : S → ℕ) (a : SecondaryWork S) (v w : CellView) (b : SecondaryWork S) → IsViewIn a.keys.dim v → RefinedLeft parts a v w b → EachSlot (λ key k x y. Allowed x y) v w
refined_may parts a v w b of left = ⊎_elim (λ h. told_may a.keys.dim (refined_intends h.next (merging_at a (v.key.level + 1))) v w h.told of) (λ h. same_may v w h.1.view) left

-- the number of values may be told another way
pub refined_by : {S : Type 0} (n : ℕ) (parts : S → ℕ) (a : SecondaryWork S) (v w : CellView) (b : SecondaryWork S) → n ≡ parts a.solver → RefinedLeft (λ _. n) a v w b → RefinedLeft parts a v w b
refined_by n parts a v w b same (inl h) = inl (record { own = h.own; next = h.next; means = subst (λ m. HasMeans m (weight_in a.keys v) (sums_at a (v.key.level + 1)) h.next) same h.means; told = h.told; counted = h.counted })
refined_by n parts a v w b same (inr h) = inr h
