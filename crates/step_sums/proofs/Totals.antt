-- The totals of shared cells over the partials of all trees.
use Rattle.std.proofs.Common.{◌≡◌, ⊎_elim, ℕ, zero, suc, ◌<◌, ℤ, pos, Bool, true, if◌then◌else◌, List, [], ◌∷◌, length, refl, sym, ap, ap₂, ◌∙◌, arith}
use Rattle.std.specs.Prelude.{◌+ℤ◌}
use Rattle.std.specs.Ordering.{eq_by_cmp}
use Rattle.std.proofs.lemmas.Int.{ints}
use Rattle.std.proofs.lemmas.Bool.{false≢true}
use Rattle.peano_keys.specs.declared.cell.CellKey.{CellKey}
use Rattle.peano_keys.specs.declared.side.Mark.{Mark}
use Rattle.peano_keys.specs.Cell.{key_cmp}
use Rattle.peano_keys.specs.Grid.{Spacetree, is_refined}
use Rattle.peano_keys.specs.Field.{States, component_of}
use Rattle.hanging_nodes.proofs.TwoGrids.{refined_there}
use Rattle.spacetree.specs.Leaves.{is_among}
use Rattle.spacetree.proofs.CellSets.{itself}
use Rattle.curve_cuts.specs.Cuts.{Cuts}
use Rattle.peano_keys.specs.Sums.{over_first, cell_weight}
use Rattle.mean_values.specs.Lists.{list_sum}
use Rattle.mean_values.proofs.Lists.{or_left, or_after}
use Rattle.tree_sums.specs.Trees.{shared_by}
use Rattle.tree_sums.specs.Partials.{correction, tree_partial, tree_total}
use Rattle.tree_sums.specs.Totals.{is_above, added_by, corrected_total}
use Rattle.tree_sums.proofs.Unheld.{unheld_is_nothing}
use Rattle.peano_records.specs.declared.partials.Partial.{Partial}
use Rattle.shared_sums.specs.Totals.{sum_in, sum_or_nothing, total_in, merging_in, corrected_in}
use Rattle.shared_sums.specs.Adding.{partials_in}
use Rattle.step_sweeps.specs.Sweeps.{IsPartialOf}
use Rattle.step_sums.specs.Laws.{AreAllPartials, PartialsMakeTotals}
use Rattle.step_sums.proofs.Found.{both, Found, found_or, partials_list_merging}

turned : (a b c : ℤ) → a +ℤ (b +ℤ c) ≡ b +ℤ (a +ℤ c)
turned a b c = omega (arith, ints)

-- a sum over the first numbers, from the front
first_apart : (n : ℕ) (f : ℕ → ℤ) → over_first (suc n) f ≡ f 0 +ℤ over_first n (λ t. f (suc t))
first_apart zero f = refl
first_apart (suc n) f = ap (λ z. f (suc n) +ℤ z) (first_apart n f) ∙ turned (f (suc n)) (f 0) (over_first n (λ t. f (suc t)))

same_first : (n : ℕ) (f g : ℕ → ℤ) → ((t : ℕ) → t < n → f t ≡ g t) → over_first n f ≡ over_first n g
same_first zero f g h = refl
same_first (suc n) f g h = ap₂ (λ a b. a +ℤ b) (h n (omega arith)) (same_first n f g (λ t below. h t (omega (arith, below))))

-- the total is the sum over the trees by number
total_by_number : (all : List (List Partial)) (i : ℕ) (c : CellKey) → total_in all i c ≡ over_first (length all) (λ t. sum_in c i (partials_in all t))
total_by_number [] i c = refl
total_by_number (ps ∷ rest) i c = ap (λ z. sum_in c i ps +ℤ z) (total_by_number rest i c) ∙ sym (first_apart (length rest) (λ t. sum_in c i (partials_in (ps ∷ rest) t)))

same_sum : (f g : CellKey → ℤ) (cells : List CellKey) → ((m : CellKey) → is_among cells m ≡ true → f m ≡ g m) → list_sum f cells ≡ list_sum g cells
same_sum f g [] h = refl
same_sum f g (c ∷ cs) h = ap₂ (λ a b. a +ℤ b) (h c (or_left (eq_by_cmp key_cmp c c) (is_among cs c) (itself c))) (same_sum f g cs (λ m x. h m (or_after (eq_by_cmp key_cmp m c) (is_among cs m) x)))

module _ (k : Cuts) (g : Spacetree) (marks : CellKey → Mark) (merging : CellKey → Bool) (states : States) (all : List (List Partial)) (are : AreAllPartials k g marks merging states all) where
  -- what a tree has of a shared cell is its partial sum
  sum_is : (t i : ℕ) (c : CellKey) → t < k.trees → i < 4 → is_refined g c ≡ true → shared_by k c ≡ true → sum_in c i (partials_in all t) ≡ tree_partial k g merging (component_of states i) t c
  sum_is t i c tree low refined shared =
      let ps = are.each t tree in
      ⊎_elim
      (λ (f : Found (IsPartialOf k g merging states t) (partials_in all t) c).
      ap (sum_or_nothing i) f.found ∙ f.is.sums i low ∙ ap (tree_partial k g merging (component_of states i) t) f.key)
      (λ n.
      ap (sum_or_nothing i) n.0 ∙ sym (unheld_is_nothing k g merging (component_of states i) t c are.grid (are.grid.grid.cells c refined) (refined_there k.depth g c are.grid.grid refined)
      (λ held. false≢true (sym n.1 ∙ (ps.cells c).1 (record { refined = refined; held = held; shared = shared })))))
      (found_or (IsPartialOf k g merging states t) (partials_in all t) c ps.each)

  pub total_is : (i : ℕ) (c : CellKey) → i < 4 → is_refined g c ≡ true → shared_by k c ≡ true → total_in all i c ≡ tree_total k g merging (component_of states i) c
  total_is i c low refined shared =
      total_by_number all i c
      ∙ ap (λ n. over_first n (λ t. sum_in c i (partials_in all t))) are.count
      ∙ same_first k.trees (λ t. sum_in c i (partials_in all t)) (λ t. tree_partial k g merging (component_of states i) t c) (λ t below. sum_is t i c below low refined shared)

  added_is : (i : ℕ) (c m : CellKey) → i < 4 → is_among (merging_in all) m ≡ true → added_by k.depth k.dim (total_in all i) c m ≡ added_by k.depth g.dim (tree_total k g merging (component_of states i)) c m
  added_is i c m low h =
      let lists = partials_list_merging k g marks merging states all are in
      let two = both (merging m) (shared_by k m) (sym (lists.members m) ∙ h) in
      ap (λ z. if is_above c m then correction z (cell_weight k.depth k.dim m) else pos 0) (total_is i m low ((are.tells m).0 two.0).refined two.1)
      ∙ ap (λ d. if is_above c m then correction (tree_total k g merging (component_of states i) m) (cell_weight k.depth d m) else pos 0) (sym are.grid.dim)

  pub corrected_is : (i : ℕ) (c : CellKey) → i < 4 → is_refined g c ≡ true → shared_by k c ≡ true → corrected_in k.depth k.dim all i c ≡ corrected_total k g merging (component_of states i) (merging_in all) c
  corrected_is i c low refined shared = ap₂ (λ a b. a +ℤ b)
      (total_is i c low refined shared)
      (same_sum (added_by k.depth k.dim (total_in all i) c) (added_by k.depth g.dim (tree_total k g merging (component_of states i)) c) (merging_in all) (λ m h. added_is i c m low h))

pub partials_make_totals : PartialsMakeTotals
partials_make_totals k g marks merging states all are i low c h = (let two = both (is_refined g c) (shared_by k c) h in corrected_is k g marks merging states all are i c low two.0 two.1)
