-- The visits of a cell, step by step.
use Rattle.std.proofs.Common.{◌≡◌, ℕ, zero, suc, ◌+◌, ◌-◌, ◌/◌, ◌%◌, ◌<◌, Bool, true, false, List, [], ◌∷◌, ◌++◌, Option, Some, None, refl, ap, ap₂, sym, ◌∙◌, subst, arith, ⊎_elim}
use Rattle.std.specs.Prelude.{if◌then◌else◌, ◌||◌, ◌&&◌, ◌==◌}
use Rattle.std.proofs.lemmas.Bool.{cases_Bool, false≢true}
use Rattle.peano_keys.specs.declared.dim.Dim.{Dim}
use Rattle.peano_keys.specs.declared.dim.Dim.TheVariants.{Two, Three}
use Rattle.peano_keys.specs.declared.cell.CellKey.{CellKey}
use Rattle.peano_keys.specs.Dim.{children}
use Rattle.peano_keys.specs.Cell.{IsCell, at, parent_of, root}
use Rattle.peano_keys.specs.Grid.{Spacetree, has_cell, is_refined}
use Rattle.peano_curve.specs.declared.order.Direction.{Direction}
use Rattle.peano_curve.specs.declared.order.Direction.TheVariants.{Forward, Backward}
use Rattle.stack_law.specs.Digits.{turned}
use Rattle.peano_curve.specs.Order.{child_along, counted, nth_child, place_along, sibling_place}
use Rattle.peano_curve.proofs.Digits.{child_at_place}
use Rattle.sweep_visits.specs.Plan.{SweepPlan, IsSweepPlan, IsOldGrid, dim_of, is_cell_in, is_refined_in, is_held, is_visited, is_opened}
use Rattle.sweep_visits.specs.Visits.{Visit, enter, leave, from_child, visits_at, visits_of}
use Rattle.tree_automaton.specs.Sweep.{cell_visits}
use Rattle.tree_automaton.specs.Sweeps.{visits_below, visits_rest}

-- the visits of a cell and all below it, so many levels down
abbrev fueled : SweepPlan → ℕ → CellKey → List Visit
fueled p fuel c = visits_at (dim_of p) p.dir (is_visited p) (is_opened p) fuel c

none_at : (p : SweepPlan) (c : CellKey) (fuel : ℕ) → is_visited p c ≡ false → fueled p fuel c ≡ []
none_at p c zero e = ap (λ b. if b then enter c ∷ leave c ∷ [] else []) e
none_at p c (suc fuel) e = ap (λ b. if b then enter c ∷ ((if is_opened p c then from_child (dim_of p) p.dir (fueled p fuel) c 0 (children (dim_of p)) else []) ++ leave c ∷ []) else []) e

pub visits_none : (p : SweepPlan) (c : CellKey) → is_held p c ≡ false → cell_visits p c ≡ []
unfolding cell_visits
visits_none p c e = none_at p c (p.depth - c.level) (ap (λ b. b && (is_cell_in p.old c || has_cell p.new c)) e)

-- all visits are those of the root
pub visits_root : (p : SweepPlan) → cell_visits p root ≡ visits_of p
unfolding cell_visits
visits_root p = let e : p.depth - 0 ≡ p.depth = omega arith in ap (λ n. fueled p n root) e

pub child_level : (dir : Direction) (dim : Dim) (c : CellKey) (k : ℕ) → (child_along dir dim c k).level ≡ c.level + 1
child_level dir Two c k = refl
child_level dir Three c k = refl

-- the visits of children, by the levels that each of them has left
by_fuel : (p : SweepPlan) (c : CellKey) (fuel k more : ℕ) → fuel ≡ p.depth - (c.level + 1) → from_child (dim_of p) p.dir (fueled p fuel) c k more ≡ from_child (dim_of p) p.dir (cell_visits p) c k more
unfolding cell_visits
by_fuel p c fuel k zero e = refl
by_fuel p c fuel k (suc more) e =
    let own : fuel ≡ p.depth - (child_along p.dir (dim_of p) c k).level = e ∙ ap (λ l. p.depth - l) (sym (child_level p.dir (dim_of p) c k)) in
    ap₂ (λ x y. x ++ y) (ap (λ f. fueled p f (child_along p.dir (dim_of p) c k)) own) (by_fuel p c fuel (k + 1) more e)

old_level : (depth : ℕ) (dim : Dim) (o : Option Spacetree) (c : CellKey) → IsOldGrid depth dim o → is_refined_in o c ≡ true → c.level < depth
old_level depth dim None c grid h = absurd (false≢true h)
old_level depth dim (Some t) c grid h = grid.0.levels c h

pub opened_level : (p : SweepPlan) (c : CellKey) → IsSweepPlan p → is_opened p c ≡ true → c.level < p.depth
opened_level p c plan h = ⊎_elim
    (λ old. old_level p.depth (dim_of p) p.old c plan.old old)
    (λ not. plan.new.levels c (subst (λ b. (b || is_refined p.new c) ≡ true) not h))
    (cases_Bool (is_refined_in p.old c))

some_at : (p : SweepPlan) (c : CellKey) (fuel : ℕ) → fuel ≡ p.depth - c.level → IsSweepPlan p → is_visited p c ≡ true → fueled p fuel c ≡ enter c ∷ (visits_below p c ++ leave c ∷ [])
some_at p c zero e plan v = ap (λ b. if b then enter c ∷ leave c ∷ [] else []) v ∙ ⊎_elim
    (λ h. let l : c.level < p.depth = opened_level p c plan h in absurd (omega (arith, e, l)))
    (λ n. ap (λ b. enter c ∷ ((if b then from_child (dim_of p) p.dir (cell_visits p) c 0 (children (dim_of p)) else []) ++ leave c ∷ [])) (sym n))
    (cases_Bool (is_opened p c))
some_at p c (suc fuel) e plan v =
    ap (λ b. if b then enter c ∷ ((if is_opened p c then from_child (dim_of p) p.dir (fueled p fuel) c 0 (children (dim_of p)) else []) ++ leave c ∷ []) else []) v
    ∙ ap (λ vs. enter c ∷ ((if is_opened p c then vs else []) ++ leave c ∷ [])) (by_fuel p c fuel 0 (children (dim_of p)) (omega (arith, e)))

pub visits_some : (p : SweepPlan) (c : CellKey) → IsSweepPlan p → is_visited p c ≡ true → cell_visits p c ≡ enter c ∷ (visits_below p c ++ leave c ∷ [])
unfolding cell_visits
visits_some p c plan v = some_at p c (p.depth - c.level) refl plan v

turned_below : (s k : ℕ) → k < 3 → turned s k < 3
turned_below s k h = ⊎_elim (λ e. let P : Bool → Type 0 = λ b. (if b then k else 2 - k) < 3 in subst P (sym e) h) (λ e. let P : Bool → Type 0 = λ b. (if b then k else 2 - k) < 3 in subst P (sym e) (omega arith)) (cases_Bool (s % 2 == 0))

sibling_below : (dim : Dim) (c : CellKey) → sibling_place dim c < children dim
sibling_below Two c =
    let a = turned_below (at c 1 / 3) (at c 0 % 3) (omega arith) in
    let b = turned_below (at c 0 / 3 + at c 0 % 3) (at c 1 % 3) (omega arith) in
    omega (arith, a, b)
sibling_below Three c =
    let a = turned_below (at c 1 / 3 + at c 2 / 3) (at c 0 % 3) (omega arith) in
    let b = turned_below (at c 0 / 3 + at c 2 / 3 + at c 0 % 3) (at c 1 % 3) (omega arith) in
    let d = turned_below (at c 0 / 3 + at c 1 / 3 + at c 0 % 3 + at c 1 % 3) (at c 2 % 3) (omega arith) in
    omega (arith, a, b, d)

counted_back : (dir : Direction) (dim : Dim) (k : ℕ) → k < children dim → counted dir dim (counted dir dim k) ≡ k
counted_back Forward dim k h = refl
counted_back Backward dim k h = omega arith

pub own_place : (dir : Direction) (dim : Dim) (c : CellKey) → IsCell dim c → 0 < c.level → child_along dir dim (parent_of c) (place_along dir dim c) ≡ c
own_place dir dim c cell below = ap (nth_child dim (parent_of c)) (counted_back dir dim (sibling_place dim c) (sibling_below dim c)) ∙ child_at_place dim c cell below

pub place_below : (dir : Direction) (dim : Dim) (c : CellKey) → place_along dir dim c < children dim
place_below Forward dim c = sibling_below dim c
place_below Backward dim c = let h = sibling_below dim c in omega (arith, h)

-- the first of the siblings, and the others
pub rest_first : (p : SweepPlan) (c : CellKey) → IsCell (dim_of p) c → 0 < c.level → visits_rest p c ≡ cell_visits p c ++ from_child (dim_of p) p.dir (cell_visits p) (parent_of c) (place_along p.dir (dim_of p) c + 1) (children (dim_of p) - (place_along p.dir (dim_of p) c + 1))
rest_first p c cell below =
    let k = place_along p.dir (dim_of p) c in
    let h : k < children (dim_of p) = place_below p.dir (dim_of p) c in
    let e : children (dim_of p) - k ≡ suc (children (dim_of p) - (k + 1)) = omega (arith, h) in
    ap (λ n. from_child (dim_of p) p.dir (cell_visits p) (parent_of c) k n) e ∙ ap (λ q. cell_visits p q ++ from_child (dim_of p) p.dir (cell_visits p) (parent_of c) (k + 1) (children (dim_of p) - (k + 1))) (own_place p.dir (dim_of p) c cell below)
