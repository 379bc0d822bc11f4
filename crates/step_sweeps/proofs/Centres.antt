-- At the leave of a refined cell the last centre child of the level below that was left is its own.
use Rattle.std.proofs.Common.{◌≡◌, ◌⊎◌, ℕ, ◌+◌, ◌/◌, ◌%◌, ◌<◌, ◌&&◌, ◌||◌, Bool, true, false, List, ◌∷◌, ◌++◌, Option, Some, None, refl, ap, sym, ◌∙◌, subst, inl, inr, ⊎_elim, arith}
use Rattle.std.specs.Prelude.{nat_lt}
use Rattle.std.proofs.lemmas.Bool.{ltb-true, lt-ltb, false≢true}
use Rattle.peano_keys.specs.declared.cell.CellKey.{CellKey}
use Rattle.peano_keys.specs.declared.dim.Dim.{Dim}
use Rattle.peano_keys.specs.declared.dim.Dim.TheVariants.{Two, Three}
use Rattle.peano_keys.specs.Dim.{children}
use Rattle.peano_keys.specs.Cell.{IsCell, at, triple, parent_of, centre_child, centre_digits}
use Rattle.peano_keys.specs.Grid.{Spacetree, is_refined, has_cell}
use Rattle.peano_curve.specs.declared.order.Direction.{Direction}
use Rattle.peano_curve.specs.declared.order.Direction.TheVariants.{Forward, Backward}
use Rattle.stack_law.specs.Digits.{turned}
use Rattle.peano_curve.specs.Order.{counted, nth_child, child_along, place_along}
use Rattle.peano_curve.proofs.Splits.{turned_below}
use Rattle.spacetree.proofs.Children.{child_cell, parent_of_child, third_digit}
use Rattle.spacetree.proofs.Leaves.{child_there}
use Rattle.spacetree.proofs.Values.{centre_is_digits}
use Rattle.curve_cuts.specs.Cuts.{Cuts, IsCutGrid}
use Rattle.sweep_visits.specs.Plan.{SweepPlan, IsSweepPlan, IsOldGrid, dim_of, is_refined_in, is_visited, is_opened}
use Rattle.sweep_visits.specs.Visits.{Visit, leave, visits_of}
use Rattle.sweep_visits.specs.Moves.{same_cell}
use Rattle.sweep_visits.proofs.Same.{cells_decided}
use Rattle.tree_automaton.proofs.Visited.{own_place, place_below}
use Rattle.adapt_marks.specs.Views.{IsCentre}
use Rattle.step_calls.proofs.Visitors.{own_parent, is_centre}
use Rattle.swept_slots.proofs.Nested.{HasCentre, last_left, nested}

-- whether a cell is the centre child of its parent
abbrev pub is_centre_in : Dim → CellKey → Bool
is_centre_in dim c = nat_lt 0 c.level && same_cell c (centre_child dim (parent_of c))

and_both : (a b : Bool) → (a && b) ≡ true → (a ≡ true) × (b ≡ true)
and_both true b e = (refl, e)
and_both false b e = absurd (false≢true e)

pub centre_tells : (dim : Dim) (c : CellKey) → is_centre_in dim c ≡ true → IsCentre dim c
centre_tells dim c e = let h = and_both (nat_lt 0 c.level) _ e in record { below = ltb-true 0 c.level h.0; centre = cells_decided.exact c (centre_child dim (parent_of c)) h.1 }

pub centre_told : (dim : Dim) (c : CellKey) → IsCentre dim c → is_centre_in dim c ≡ true
centre_told dim c is = ap (λ b. b && same_cell c (centre_child dim (parent_of c))) (lt-ltb 0 c.level is.below) ∙ subst (λ q. same_cell c q ≡ true) is.centre (cells_decided.reflexive c)

-- the centre child of a refined cell of a grid
pub centre_cell : (k : Cuts) (g : Spacetree) (c : CellKey) → IsCutGrid k g → IsCell k.dim c → is_refined g c ≡ true → IsCell k.dim (centre_child k.dim c)
centre_cell k g c fits cell refined = child_cell k.dim c (centre_digits k.dim) cell (omega (arith, fits.grid.levels c refined, fits.deepest)) (centre_is_digits k.dim)

pub centre_there : (k : Cuts) (g : Spacetree) (c : CellKey) → IsCell k.dim c → is_refined g c ≡ true → has_cell g (centre_child k.dim c) ≡ true
centre_there k g c cell refined = let d = centre_is_digits k.dim in child_there g c (centre_digits k.dim) cell.shape d.first d.second (third_digit k.dim (centre_digits k.dim) d) refined

counted_below : (dir : Direction) (dim : Dim) (k : ℕ) → k < children dim → counted dir dim k < children dim
counted_below Forward dim k h = h
counted_below Backward dim k h = omega (arith, h)

-- a child's parent
nth_parent : (dim : Dim) (c : CellKey) (k : ℕ) → IsCell dim c → k < children dim → parent_of (nth_child dim c k) ≡ c
nth_parent Two c k cell below =
    let first : ℕ = turned (at c 1) (k / 3) in
    parent_of_child c (triple first (turned (at c 0 + first) (k % 3)) 0) cell.shape (turned_below (at c 1) (k / 3) (omega (arith, below))) (turned_below (at c 0 + first) (k % 3) (omega arith)) (omega arith)
nth_parent Three c k cell below =
    let first : ℕ = turned (at c 1 + at c 2) (k / 9) in
    let second : ℕ = turned (at c 0 + at c 2 + first) (k / 3 % 3) in
    parent_of_child c (triple first second (turned (at c 0 + at c 1 + first + second) (k % 3))) cell.shape (turned_below (at c 1 + at c 2) (k / 9) (omega (arith, below))) (turned_below (at c 0 + at c 2 + first) (k / 3 % 3) (omega arith)) (turned_below (at c 0 + at c 1 + first + second) (k % 3) (omega arith))

along_parent : (dir : Direction) (dim : Dim) (c : CellKey) (k : ℕ) → IsCell dim c → k < children dim → parent_of (child_along dir dim c k) ≡ c
along_parent dir dim c k cell below = nth_parent dim c (counted dir dim k) cell (counted_below dir dim k below)

module _ (p : SweepPlan) (is_plan : IsSweepPlan p) (c : CellKey) (cell : IsCell (dim_of p) c) (opens : is_opened p c ≡ true) (inside : IsCell (dim_of p) (centre_child (dim_of p) c)) (there : is_visited p (centre_child (dim_of p) c) ≡ true) where
  abbrev m : CellKey
  m = centre_child (dim_of p) c

  has_centre : HasCentre (dim_of p) p.dir (is_visited p) (is_opened p) (is_centre_in (dim_of p)) c m
  has_centre =
      let centre : IsCentre (dim_of p) m = is_centre (dim_of p) c cell in
      record {
        opens = opens;
        place = place_along p.dir (dim_of p) m;
        inside = place_below p.dir (dim_of p) m;
        child = ap (λ q. child_along p.dir (dim_of p) q (place_along p.dir (dim_of p) m)) (sym (own_parent (dim_of p) c cell)) ∙ own_place p.dir (dim_of p) m inside centre.below;
        there = there;
        is_centre = centre_told (dim_of p) m centre;
        others = λ k below e. (centre_tells (dim_of p) (child_along p.dir (dim_of p) c k) e).centre ∙ ap (centre_child (dim_of p)) (along_parent p.dir (dim_of p) c k cell below);
      }

  old_deep : (o : Option Spacetree) → IsOldGrid p.depth (dim_of p) o → (q : CellKey) → is_refined_in o q ≡ true → q.level < p.depth
  old_deep None is q e = absurd (false≢true e)
  old_deep (Some g) is q e = is.0.levels q e

  either : (a b : Bool) → (a || b) ≡ true → (a ≡ true) ⊎ (b ≡ true)
  either true b e = inl refl
  either false b e = inr e

  pub last_centre : (before after : List Visit) → visits_of p ≡ before ++ leave c ∷ after → last_left (is_centre_in (dim_of p)) (c.level + 1) None before ≡ Some m
  last_centre before after e = nested (dim_of p) p.dir (is_visited p) (is_opened p) (is_centre_in (dim_of p)) c m has_centre p.depth p.depth _ (omega arith)
      (λ q wide. ⊎_elim (λ h. old_deep p.old is_plan.old q h) (λ h. is_plan.new.levels q h) (either (is_refined_in p.old q) (is_refined p.new q) wide)) before after e None
