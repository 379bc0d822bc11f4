-- All corrections together.
use Rattle.std.proofs.Common.{◌≡◌, ℕ, zero, suc, ◌+◌, ◌-◌, ◌<◌, ◌≤◌, ℤ, pos, Bool, true, false, not, ◌&&◌, ◌||◌, if◌then◌else◌, List, [], ◌∷◌, ⊎_elim, refl, sym, ap, ◌∙◌, arith}
use Rattle.std.specs.Prelude.{◌+ℤ◌}
use Rattle.std.specs.Ordering.{eq_by_cmp}
use Rattle.std.proofs.lemmas.Int.{ints}
use Rattle.std.proofs.lemmas.Bool.{false≢true}
use Rattle.peano_keys.specs.declared.cell.CellKey.{CellKey}
use Rattle.peano_keys.specs.declared.side.Mark.{Mark}
use Rattle.peano_keys.specs.Cell.{IsCell, child_of, key_cmp}
use Rattle.peano_keys.specs.Grid.{Spacetree, IsGrid, has_cell}
use Rattle.hanging_nodes.proofs.TwoGrids.{refined_there}
use Rattle.spacetree.specs.Counts.{EachOnce}
use Rattle.spacetree.specs.Leaves.{is_among}
use Rattle.spacetree.proofs.CellSets.{itself}
use Rattle.curve_cuts.specs.Cuts.{Cuts, IsCutGrid}
use Rattle.step_phases.proofs.Grids.{level_in}
use Rattle.peano_keys.specs.Sums.{weight, cell_weight, leaf_sum}
use Rattle.mean_values.specs.NextSums.{next_sum, TellsMerges}
use Rattle.mean_values.specs.Lists.{list_sum}
use Rattle.cell_sums.proofs.Sums.{over_same, sum_plain, sum_refined}
use Rattle.mean_values.proofs.Lists.{or_left, or_after, or_one}
use Rattle.mean_values.proofs.NextSums.{false_by, next_plain, next_refined, handed_plain, next_same}
use Rattle.tree_sums.specs.Trees.{owned_by, shared_by}
use Rattle.tree_sums.specs.Partials.{alone, correction, tree_total}
use Rattle.tree_sums.specs.Totals.{is_above, added_by, corrected, corrected_total, HasLeavesAlone, TellsLowest, with_one, CorrectedTotalsAreSums}
use Rattle.tree_sums.proofs.Trees.{cuts_are_trees}
use Rattle.tree_sums.proofs.Partials.{total_is}
use Rattle.tree_sums.proofs.Corrections.{both_true, correction_adds, merging_is_lowest}

-- a cell whose children are leaves has the sum of these, by any test of such cells
last_sum : (t : Spacetree) (test : CellKey → Bool) (now : CellKey → ℤ) (n : ℕ) (m : CellKey) → TellsLowest t test → HasLeavesAlone t m → next_sum t test now n m ≡ leaf_sum t now n m
last_sum t test now zero m are last = refl
last_sum t test now (suc n) m are last =
    next_refined t test now n m last.refined
    ∙ over_same t.dim _ _ (λ k d. let p = last.plain k d in handed_plain t.dim test n (child_of m k) _ (false_by (test (child_of m k)) (λ h. false≢true (sym p ∙ (are (child_of m k) h).refined))) ∙ next_plain t test now n (child_of m k) p ∙ sym (sum_plain t now n (child_of m k) p))
    ∙ sym (sum_refined t now n m last.refined)

-- where the first of two is no cell of the list, and the list's cells pass
or_swap : (a b c : Bool) → (a || (b || c)) ≡ ((a || c) || b)
or_swap true b c = refl
or_swap false true true = refl
or_swap false true false = refl
or_swap false false true = refl
or_swap false false false = refl

or_no : (a : Bool) → a ≡ (a || false)
or_no true = refl
or_no false = refl

not_both : (m s : Bool) → (m && s) ≡ true → (m && not s) ≡ false
not_both true true h = refl
not_both true false h = absurd (false≢true h)
not_both false s h = refl

pub first_of_both : (m s : Bool) → (m && s) ≡ true → m ≡ true
first_of_both true s h = refl
first_of_both false s h = absurd (false≢true h)

one_or_other : (m s : Bool) → ((m && not s) || (m && s)) ≡ m
one_or_other true true = refl
one_or_other true false = refl
one_or_other false s = refl

module _ (depth : ℕ) (t : Spacetree) (marks : CellKey → Mark) (merging shared : CellKey → Bool) (now : CellKey → ℤ) (deep : depth ≤ 12) (grid : IsGrid depth t) (tells : TellsMerges t marks merging) where
  abbrev lone : CellKey → Bool
  lone = alone merging shared

  abbrev done_by : List CellKey → CellKey → Bool
  done_by cells q = lone q || is_among cells q

  -- what the totals of cells are
  abbrev base : CellKey → ℤ
  base c = next_sum t lone now (depth - c.level) c

  abbrev Passes : List CellKey → Type 0
  Passes cells = (c : CellKey) → is_among cells c ≡ true → (merging c && shared c) ≡ true

  lasts : (cells : List CellKey) → Passes cells → TellsLowest t (done_by cells)
  lasts cells pass c h = merging_is_lowest t marks merging tells c (⊎_elim (λ l. (both_true (merging c) (not (shared c)) l).0) (λ a. first_of_both (merging c) (shared c) (pass c a)) (or_one (lone c) (is_among cells c) h))

  lone_lasts : TellsLowest t lone
  lone_lasts c h = merging_is_lowest t marks merging tells c (both_true (merging c) (not (shared c)) h).0

  added : (cells : List CellKey) → Passes cells → EachOnce cells → (c : CellKey) → IsCell t.dim c → c.level ≤ depth → corrected depth t.dim base cells c ≡ next_sum t (done_by cells) now (depth - c.level) c
  added [] pass once c cell level = (let f : base c +ℤ pos 0 ≡ base c = omega (arith, ints) in f) ∙ next_same t lone (done_by []) now (λ q. or_no (lone q)) (depth - c.level) c
  added (m ∷ ms) pass once c cell level =
      let more : Passes ms = λ q h. pass q (or_after (eq_by_cmp key_cmp q m) (is_among ms q) h) in
      let here : (merging m && shared m) ≡ true = pass m (or_left (eq_by_cmp key_cmp m m) (is_among ms m) (itself m)) in
      let last : HasLeavesAlone t m = merging_is_lowest t marks merging tells m (first_of_both (merging m) (shared m) here) in
      let fresh : done_by ms m ≡ false = (λ i. not_both (merging m) (shared m) here i || once.0 i) in
      let rest = added ms more once.1 c cell level in
      let own : base m ≡ next_sum t (done_by ms) now (depth - m.level) m = last_sum t lone now (depth - m.level) m lone_lasts last ∙ sym (last_sum t (done_by ms) now (depth - m.level) m (lasts ms more) last) in
      let tests : next_sum t (with_one (done_by ms) m) now (depth - c.level) c ≡ next_sum t (done_by (m ∷ ms)) now (depth - c.level) c = next_same t (with_one (done_by ms) m) (done_by (m ∷ ms)) now (λ q. sym (or_swap (lone q) (eq_by_cmp key_cmp q m) (is_among ms q))) (depth - c.level) c in
      turn (base c) (added_by depth t.dim base c m) (list_sum (added_by depth t.dim base c) ms)
      ∙ ap (λ z. z +ℤ added_by depth t.dim base c m) rest
      ∙ ap (λ z. next_sum t (done_by ms) now (depth - c.level) c +ℤ (if is_above c m then correction z (weight t.dim (depth - m.level)) else pos 0)) own
      ∙ sym (correction_adds depth t (done_by ms) m now deep grid (lasts ms more) last fresh c cell level)
      ∙ tests
    where
      turn : (a x l : ℤ) → a +ℤ (x +ℤ l) ≡ (a +ℤ l) +ℤ x
      turn a x l = omega (arith, ints)

list_same : (f g : CellKey → ℤ) (cells : List CellKey) → ((c : CellKey) → is_among cells c ≡ true → f c ≡ g c) → list_sum f cells ≡ list_sum g cells
list_same f g [] e = refl
list_same f g (q ∷ qs) e = (let a = e q (or_left (eq_by_cmp key_cmp q q) (is_among qs q) (itself q)) in let b = list_same f g qs (λ c h. e c (or_after (eq_by_cmp key_cmp c q) (is_among qs c) h)) in λ i. a i +ℤ b i)

-- a total with the corrections of some shared merging cells is the sum where these, and the merging cells that are not shared, stand in place of their leaves
pub corrected_is : (k : Cuts) (g : Spacetree) (marks : CellKey → Mark) (merging : CellKey → Bool) (now : CellKey → ℤ) (cells : List CellKey) → IsCutGrid k g → TellsMerges g marks merging → EachOnce cells → ((m : CellKey) → is_among cells m ≡ true → (merging m && shared_by k m) ≡ true) → (c : CellKey) → IsCell g.dim c → has_cell g c ≡ true → corrected_total k g merging now cells c ≡ next_sum g (λ q. alone merging (shared_by k) q || is_among cells q) now (k.depth - c.level) c
corrected_is k g marks merging now cells fits tells once pass c cell there =
    let total : CellKey → ℤ = tree_total k g merging now in
    let base : CellKey → ℤ = λ q. next_sum g (alone merging (shared_by k)) now (k.depth - q.level) q in
    let are = cuts_are_trees k g fits in
    let begins : (q : CellKey) → IsCell g.dim q → has_cell g q ≡ true → total q ≡ base q = λ q inside here. total_is k.depth g marks merging (shared_by k) k.trees (owned_by k) now fits.deepest fits.grid tells are (k.depth - q.level) q inside here in
    let first : total c ≡ base c = begins c cell there in
    let rest = list_same (added_by k.depth g.dim total c) (added_by k.depth g.dim base c) cells (λ m h.
    let refined = ((tells m).0 (first_of_both (merging m) (shared_by k m) (pass m h))).refined in
    ap (λ z. if is_above c m then correction z (weight g.dim (k.depth - m.level)) else pos 0) (begins m (fits.grid.cells m refined) (refined_there k.depth g m fits.grid refined))) in
    (λ i. first i +ℤ rest i) ∙ added k.depth g marks merging (shared_by k) now fits.deepest fits.grid tells cells pass once c cell (level_in k g c fits there)

pub corrected_totals_are_sums : CorrectedTotalsAreSums
corrected_totals_are_sums k g marks merging now cells fits tells lists c cell there =
    corrected_is k g marks merging now cells fits tells lists.once (λ q h. sym (lists.members q) ∙ h) c cell there
    ∙ next_same g (λ q. alone merging (shared_by k) q || is_among cells q) merging now (λ q. ap (λ b. alone merging (shared_by k) q || b) (lists.members q) ∙ one_or_other (merging q) (shared_by k q)) (k.depth - c.level) c
