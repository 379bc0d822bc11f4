-- Partials whose numbers have 64 bits can be added.
use Rattle.std.proofs.Common.{◌≡◌, ℕ, zero, suc, ◌-◌, ◌*◌, ◌^◌, ◌<◌, ◌≤◌, ℤ, pos, negsuc, Bool, true, List, [], ◌∷◌, length, get_or, refl, sym, ap, subst, ◌∙◌, arith}
use Rattle.std.specs.Prelude.{All, unsigned_abs}
use Rattle.std.specs.Int.{w64}
use Rattle.std.specs.Int.RustNames.{FitsSigned}
use Rattle.std.proofs.lemmas.Int.{ints}
use Rattle.peano_keys.specs.declared.cell.CellKey.{CellKey}
use Rattle.peano_keys.specs.declared.side.Mark.{Mark}
use Rattle.peano_keys.specs.Cell.{IsCell}
use Rattle.peano_keys.specs.Grid.{Spacetree, is_refined}
use Rattle.peano_keys.specs.Field.{States, component_of}
use Rattle.hanging_nodes.proofs.TwoGrids.{refined_there}
use Rattle.curve_cuts.specs.Cuts.{Cuts}
use Rattle.step_phases.proofs.Grids.{level_in}
use Rattle.peano_keys.specs.Sums.{weight, cell_weight, floor_of}
use Rattle.cell_sums.specs.Bounds.{LiesBetween, WeighsBetween, AllBetween, least_word, greatest_word}
use Rattle.cell_sums.proofs.Bounds.{floor_is_between}
use Rattle.cell_sums.proofs.Sums.{weight_positive}
use Rattle.tree_sums.specs.Trees.{owned_by, shared_by, IsSharedCell}
use Rattle.tree_sums.specs.Bounds.{AreBounds}
use Rattle.tree_sums.specs.Partials.{tree_partial}
use Rattle.tree_sums.specs.Totals.{corrected_total}
use Rattle.tree_sums.proofs.Bounds.{partials_are_between, corrected_are_between}
use Rattle.peano_records.specs.declared.partials.Partial.{Partial}
use Rattle.shared_sums.specs.Totals.{merging_in, mean_in, IsPartial}
use Rattle.shared_sums.specs.Adding.{partials_in}
use Rattle.step_sweeps.specs.Sweeps.{IsPartialOf}
use Rattle.step_sums.specs.Laws.{AreAllPartials, PartialsCanBeAdded}
use Rattle.step_sums.proofs.Found.{item_among, own_is_shared, partials_list_merging}
use Rattle.step_sums.proofs.Totals.{corrected_is}

absolute : (w : ℕ) (z : ℤ) → WeighsBetween least_word greatest_word w z → unsigned_abs z ≤ 9223372036854775808 * w
absolute w (pos a) b = omega (arith, ints, b.high)
absolute w (negsuc a) b = omega (arith, ints, b.low)

word_between : (z : ℤ) → FitsSigned w64 z → LiesBetween least_word greatest_word z
word_between (pos a) f = (let h : a < 9223372036854775808 = f.sfits in record { low = omega (arith, ints); high = omega (arith, ints, h) })
word_between (negsuc a) f = (let h : a < 9223372036854775808 = f.sfits in record { low = omega (arith, ints, h); high = omega (arith, ints) })

between_word : (z : ℤ) → LiesBetween least_word greatest_word z → FitsSigned w64 z
between_word (pos a) b = record { sfits = (let h = b.high in omega (arith, ints, h)) }
between_word (negsuc a) b = record { sfits = (let h = b.low in omega (arith, ints, h)) }

module _ (k : Cuts) (g : Spacetree) (marks : CellKey → Mark) (merging : CellKey → Bool) (states : States) (all : List (List Partial)) (are : AreAllPartials k g marks merging states all) (fit : (c : CellKey) (i : ℕ) → FitsSigned w64 (component_of states i c)) where
  between : (i : ℕ) → AllBetween least_word greatest_word (component_of states i)
  between i c = word_between (component_of states i c) (fit c i)

  bounds : (i : ℕ) → AreBounds least_word greatest_word (component_of states i)
  bounds i = record { low = omega (arith, ints); high = omega (arith, ints); each = between i }

  -- each partial has small sums
  is_partial : (t : ℕ) → t < k.trees → (j : ℕ) (d : Partial) → j < length (partials_in all t) → IsPartial k.depth k.dim (get_or (partials_in all t) j d)
  is_partial t tree j d below =
      let ps = are.each t tree in
      let p = get_or (partials_in all t) j d in
      let is : IsPartialOf k g merging states t p = ps.each j d below in
      let shared : IsSharedCell k g t p.key = (ps.cells p.key).0 (item_among (partials_in all t) j d below) in
      let here = refined_there k.depth g p.key are.grid.grid shared.refined in
      record {
        cell = subst (λ q. IsCell q p.key) are.grid.dim (are.grid.grid.cells p.key shared.refined);
        level = level_in k g p.key are.grid here;
        sums = λ i low.
            let b = partials_are_between g merging (shared_by k) (owned_by k t) (component_of states i) least_word greatest_word (bounds i) (k.depth - p.key.level) p.key in
            let a = absolute (weight g.dim (k.depth - p.key.level)) (tree_partial k g merging (component_of states i) t p.key) b in
            subst (λ z. unsigned_abs z ≤ 2 ^ 63 * cell_weight k.depth k.dim p.key) (sym (is.sums i low)) (subst (λ q. unsigned_abs (tree_partial k g merging (component_of states i) t p.key) ≤ 2 ^ 63 * weight q (k.depth - p.key.level)) are.grid.dim a);
      }

  -- and the means of shared cells are numbers of 64 bits
  mean_fits : (i : ℕ) (c : CellKey) → i < 4 → is_refined g c ≡ true → shared_by k c ≡ true → FitsSigned w64 (mean_in k.depth k.dim all i c)
  mean_fits i c low refined shared =
      let lists = partials_list_merging k g marks merging states all are in
      let z = corrected_total k g merging (component_of states i) (merging_in all) c in
      let b : WeighsBetween least_word greatest_word (weight g.dim (k.depth - c.level)) z = corrected_are_between k g marks merging (component_of states i) (merging_in all) least_word greatest_word are.grid are.tells lists.once (λ m h. sym (lists.members m) ∙ h) (between i) c (are.grid.grid.cells c refined) (refined_there k.depth g c are.grid.grid refined) in
      let f = floor_is_between least_word greatest_word z (weight g.dim (k.depth - c.level)) (weight_positive g.dim (k.depth - c.level)) b in
      between_word (mean_in k.depth k.dim all i c)
      (subst (LiesBetween least_word greatest_word) (ap (λ q. floor_of z (weight q (k.depth - c.level))) are.grid.dim ∙ ap (λ y. floor_of y (weight k.dim (k.depth - c.level))) (sym (corrected_is k g marks merging states all are i c low refined shared))) f)

same_item : (xs : List (List Partial)) (t : ℕ) (d : List Partial) → t < length xs → partials_in xs t ≡ get_or xs t d
same_item [] t d h = absurd (omega (arith, h))
same_item (x ∷ xs) zero d h = refl
same_item (x ∷ xs) (suc t) d h = same_item xs t d (omega (arith, h))

pub partials_can_be_added : PartialsCanBeAdded
partials_can_be_added k g marks merging states all are fit t = record {
  trees = are.count;
  partials = λ t d inside. (let count = are.count in let low : t < k.trees = omega (arith, inside, count) in of_tree t d inside low);
  fit = λ c own i low. (let s = own_is_shared k g marks merging states all are t c own in mean_fits k g marks merging states all are fit i c low s.refined s.shared);
}
  where
    of_tree : (t : ℕ) (d : List Partial) → t < length all → t < k.trees → All (IsPartial k.depth k.dim) (get_or all t d)
    of_tree t d inside low = subst (λ (ps : List Partial). All (IsPartial k.depth k.dim) ps) (same_item all t d inside) (is_partial k g marks merging states all are fit t low)
