-- The sums of a tree by the new states of its leaves, with these cut to 64 bits: what each cell tells as it is left, and bounds.
use Rattle.std.proofs.Common.{◌≡◌, ℕ, suc, ◌+◌, ◌-◌, ◌<◌, ◌≤◌, ◌&&◌, ◌||◌, ℤ, pos, negsuc, ◌*ℤ◌, Bool, true, false, not, if◌then◌else◌, List, ◌∷◌, ◌++◌, refl, ap, ap₂, sym, ◌∙◌, subst, arith}
use Rattle.std.specs.Prelude.{unsigned_abs, min}
use Rattle.std.specs.Int.{w64, w128}
use Rattle.std.specs.Int.RustNames.{FitsSigned}
use Rattle.std.proofs.lemmas.Int.{ints, fits_signed_from_abs}
use Rattle.std.proofs.lemmas.Bool.{false≢true}
use Rattle.peano_keys.specs.declared.cell.CellKey.{CellKey}
use Rattle.peano_keys.specs.Cell.{IsCell, IsDigits, child_of, root}
use Rattle.peano_keys.specs.Grid.{Spacetree, is_refined, has_cell}
use Rattle.peano_keys.specs.Field.{States, component_of}
use Rattle.peano_curve.specs.declared.order.Direction.{Direction}
use Rattle.spacetree.proofs.Children.{child_cell, third_digit}
use Rattle.spacetree.proofs.Leaves.{child_there}
use Rattle.curve_cuts.specs.Cuts.{Cuts, Held, IsCutGrid, range_of}
use Rattle.sweep_visits.specs.Plan.{SweepPlan, is_visited, is_opened}
use Rattle.sweep_visits.specs.Visits.{Visit, leave, visits_of}
use Rattle.sweep_visits.proofs.Tests.{held_told}
use Rattle.peano_curve.specs.Run.{HoldsCell}
use Rattle.tree_automaton.specs.AtRest.{plain_plan}
use Rattle.peano_keys.specs.Sums.{over_children, cell_weight, floor_of}
use Rattle.mean_values.specs.NextSums.{rounded, handed_up, next_sum}
use Rattle.cell_sums.specs.Bounds.{LiesBetween, WeighsBetween, least_word, greatest_word}
use Rattle.cell_sums.proofs.Sums.{over_same, weight_positive}
use Rattle.mean_values.proofs.Curves.{curve_sums_children}
use Rattle.mean_values.proofs.NextSums.{handed_plain}
use Rattle.cell_sums.proofs.Bounds.{sums_stay_below, floor_is_between}
use Rattle.tree_sums.specs.Trees.{owned_by, shared_by}
use Rattle.tree_sums.specs.Partials.{alone, partial_sum, tree_partial}
use Rattle.tree_sums.proofs.Trees.{cuts_are_trees}
use Rattle.tree_sums.proofs.Partials.{handed_if, local_is, partial_plain, partial_refined}
use Rattle.tree_sums.proofs.Unheld.{unheld_is_nothing}
use Rattle.tree_sums.proofs.Bounds.{partials_are_between}
use Rattle.step_sweeps.proofs.VisitSums.{sum_after, sum_nested, given}

-- the nearest number of 64 bits
abbrev pub word : ℤ → ℤ
word (pos n) = pos (min n 9223372036854775807)
word (negsuc n) = negsuc (min n 9223372036854775807)

pub word_same : (z : ℤ) → FitsSigned w64 z → word z ≡ z
word_same (pos n) h = (let small : n < 9223372036854775808 = h.sfits in ap pos (omega (arith, small)))
word_same (negsuc n) h = (let small : n < 9223372036854775808 = h.sfits in ap negsuc (omega (arith, small)))

pub word_between : (z : ℤ) → LiesBetween least_word greatest_word (word z)
word_between (pos n) = (let h : min n 9223372036854775807 ≤ 9223372036854775807 = omega arith in record { low = omega (arith, ints); high = omega (arith, ints, h) })
word_between (negsuc n) = (let h : min n 9223372036854775807 ≤ 9223372036854775807 = omega arith in record { low = omega (arith, ints, h); high = omega (arith, ints) })

pub between_fits : (z : ℤ) → LiesBetween least_word greatest_word z → FitsSigned w64 z
between_fits (pos n) b = record { sfits = (let h : n < 9223372036854775808 = omega (arith, ints, b.high) in h) }
between_fits (negsuc n) b = record { sfits = (let h : n < 9223372036854775808 = omega (arith, ints, b.low) in h) }

module _ (k : Cuts) (g : Spacetree) (merging : CellKey → Bool) (states : States) (t : ℕ) where
  abbrev pub now : ℕ → CellKey → ℤ
  now i c = word (component_of states i c)

  -- what the tree has of a cell, and what the cell tells as it is left
  abbrev pub has : ℕ → CellKey → ℤ
  has i c = tree_partial k g merging (now i) t c

  abbrev pub tells : ℕ → CellKey → ℤ
  tells i c = handed_up g.dim (alone merging (shared_by k)) (k.depth - c.level) c (has i c)

  module _ (fits : IsCutGrid k g) (i : ℕ) (c : CellKey) where
    has_between : WeighsBetween least_word greatest_word (cell_weight k.depth g.dim c) (has i c)
    has_between = partials_are_between g merging (shared_by k) (owned_by k t) (now i) least_word greatest_word (record { low = omega (arith, ints); high = omega (arith, ints); each = λ q. word_between (component_of states i q) }) (k.depth - c.level) c

    -- so it fits, and so does its floor
    pub has_fits : FitsSigned w128 (has i c)
    has_fits = (let s = sums_stay_below g.dim (k.depth - c.level) (has i c) (let d = fits.deepest in omega (arith, d)) has_between in let small : unsigned_abs (has i c) < 170141183460469231731687303715884105728 = omega (arith, s) in fits_signed_from_abs w128 (has i c) small)

    pub floor_fits : FitsSigned w64 (floor_of (has i c) (cell_weight k.depth g.dim c))
    floor_fits = between_fits (floor_of (has i c) (cell_weight k.depth g.dim c)) (floor_is_between least_word greatest_word (has i c) (cell_weight k.depth g.dim c) (weight_positive g.dim (k.depth - c.level)) has_between)

    none_tells : has i c ≡ pos 0 → tells i c ≡ pos 0
    none_tells e = ap (handed_up g.dim (alone merging (shared_by k)) (k.depth - c.level) c) e ∙ handed_if g.dim (alone merging (shared_by k)) (k.depth - c.level) c false (pos 0)

    -- a leaf
    pub leaf_tells : is_refined g c ≡ false → merging c ≡ false → owned_by k t c ≡ true → tells i c ≡ now i c *ℤ pos (cell_weight k.depth g.dim c)
    leaf_tells plain apart owned =
        handed_plain g.dim (alone merging (shared_by k)) (k.depth - c.level) c (has i c) (ap (λ b. b && not (shared_by k c)) apart)
        ∙ (partial_plain g merging (shared_by k) (owned_by k t) (now i) (k.depth - c.level) c plain ∙ ap (λ b. if b then now i c *ℤ pos (cell_weight k.depth g.dim c) else pos 0) owned)

    pub other_leaf_tells : is_refined g c ≡ false → owned_by k t c ≡ false → tells i c ≡ pos 0
    other_leaf_tells plain owned = none_tells (partial_plain g merging (shared_by k) (owned_by k t) (now i) (k.depth - c.level) c plain ∙ ap (λ b. if b then now i c *ℤ pos (cell_weight k.depth g.dim c) else pos 0) owned)

    -- a cell that is not shared
    pub whole_tells : shared_by k c ≡ false → tells i c ≡ (if merging c then rounded (has i c) (cell_weight k.depth g.dim c) else has i c)
    whole_tells apart = ap (λ b. if b then rounded (has i c) (cell_weight k.depth g.dim c) else has i c) (lone (merging c) (shared_by k c) apart)
      where
        lone : (a s : Bool) → s ≡ false → (a && not s) ≡ a
        lone true s e = ap not e
        lone false s e = refl

    pub other_whole_tells : shared_by k c ≡ false → owned_by k t c ≡ false → tells i c ≡ pos 0
    other_whole_tells apart owned = none_tells (local_is g merging (shared_by k) k.trees (owned_by k) (now i) (cuts_are_trees k g fits) t (k.depth - c.level) c apart ∙ ap (λ b. if b then next_sum g (alone merging (shared_by k)) (now i) (k.depth - c.level) c else pos 0) owned)

    -- and a shared one
    pub shared_tells : shared_by k c ≡ true → tells i c ≡ has i c
    shared_tells shared = handed_plain g.dim (alone merging (shared_by k)) (k.depth - c.level) c (has i c) (lone (merging c) (shared_by k c) shared)
      where
        lone : (a s : Bool) → s ≡ true → (a && not s) ≡ false
        lone true s e = ap not e
        lone false s e = refl

    module _ (dir : Direction) (cell : IsCell g.dim c) (refined : is_refined g c ≡ true) where
      abbrev plan : SweepPlan
      plan = plain_plan k.depth (range_of k t) dir g

      above : c.level < k.depth
      above = fits.grid.levels c refined

      -- a child that is not visited tells nothing
      child_given : (d : List ℕ) → IsDigits g.dim d → given g.dim dir (is_visited plan) (is_opened plan) (tells i) (child_of c d) ≡ tells i (child_of c d)
      child_given d digits = by (is_visited plan q) refl
        where
          q : CellKey
          q = child_of c d

          inside : IsCell g.dim q
          inside = child_cell g.dim c d cell (let a = above in let e = fits.deepest in omega (arith, a, e)) digits

          there : has_cell g q ≡ true
          there = child_there g c d cell.shape digits.first digits.second (third_digit g.dim d digits) refined

          apart : is_visited plan q ≡ false → Held k t q → ⊥
          apart none held = false≢true (sym none ∙ ap₂ (λ a b. a && (b || b)) (held_told plan q (subst (λ e. HoldsCell e k.depth (range_of k t) q) (sym fits.dim) held)) there)

          nothing : is_visited plan q ≡ false → tells i q ≡ pos 0
          nothing none = ap (handed_up g.dim (alone merging (shared_by k)) (k.depth - q.level) q) (unheld_is_nothing k g merging (now i) t q fits inside there (apart none)) ∙ handed_if g.dim (alone merging (shared_by k)) (k.depth - q.level) q false (pos 0)

          by : (b : Bool) → is_visited plan q ≡ b → (if b then tells i q else pos 0) ≡ tells i q
          by true e = refl
          by false e = sym (nothing e)

      has_children : over_children g.dim (λ d. tells i (child_of c d)) ≡ has i c
      has_children =
          let e : k.depth - c.level ≡ suc (k.depth - (c.level + 1)) = (let a = above in omega (arith, a)) in
          sym (ap (λ n. partial_of n) e ∙ partial_refined g merging (shared_by k) (owned_by k t) (now i) (k.depth - (c.level + 1)) c refined)
        where
          partial_of : ℕ → ℤ
          partial_of n = partial_sum g merging (shared_by k) (owned_by k t) (now i) n c

      -- the sum that a refined cell finds as it is left
      pub sum_found : (before after : List Visit) → visits_of plan ≡ before ++ leave c ∷ after → (z : ℤ) → sum_after (tells i) (c.level + 1) z before ≡ has i c
      sum_found before after e z =
          sum_nested g.dim dir (is_visited plan) (is_opened plan) (tells i) c (ap (λ b. b || b) refined) k.depth k.depth root (omega arith) (λ q wide. fits.grid.levels q (either (is_refined g q) wide)) before after e z
          ∙ (curve_sums_children dir g.dim c (given g.dim dir (is_visited plan) (is_opened plan) (tells i))
          ∙ (over_same g.dim (λ d. given g.dim dir (is_visited plan) (is_opened plan) (tells i) (child_of c d)) (λ d. tells i (child_of c d)) child_given
          ∙ has_children))
        where
          either : (b : Bool) → (b || b) ≡ true → b ≡ true
          either true h = h
          either false h = h
