-- Stops that are added one after another stand for the visits of cells.
use Rattle.std.proofs.Common.{◌≡◌, ℕ, zero, suc, ◌+◌, ◌-◌, ◌*◌, ◌<◌, ◌≤◌, Bool, true, false, if◌then◌else◌, List, [], ◌∷◌, ◌++◌, length, refl, sym, ap, subst, ◌∙◌, arith, append_assoc, Option, Some, None}
use Rattle.std.specs.Prelude.{◌||◌, ◌&&◌, ◌==◌, slice_get}
use Rattle.std.proofs.lemmas.Bool.{false≢true}
use Rattle.peano_keys.specs.declared.cell.CellKey.{CellKey}
use Rattle.peano_keys.specs.declared.dim.Dim.{Dim}
use Rattle.peano_keys.specs.declared.dim.Dim.TheVariants.{Two, Three}
use Rattle.peano_keys.specs.Dim.{children}
use Rattle.peano_keys.specs.Cell.{IsCell, parent_of}
use Rattle.peano_keys.specs.Grid.{Spacetree, has_cell, is_refined, IsGrid}
use Rattle.peano_keys.specs.Field.{States}
use Rattle.peano_curve.specs.declared.order.Direction.{Direction}
use Rattle.peano_curve.specs.Order.{place_along}
use Rattle.peano_curve.specs.Run.{HoldsCell}
use Rattle.curve_cuts.specs.Cuts.{Cuts, range_of, Held, IsCutGrid}
use Rattle.spacetree.specs.Fields.{IsFieldOn}
use Rattle.sweep_visits.specs.Plan.{SweepPlan, is_held, is_visited, is_opened}
use Rattle.sweep_visits.specs.Visits.{Visit, enter, leave, from_child}
use Rattle.sweep_visits.proofs.Tests.{held_tells, held_told}
use Rattle.tree_automaton.specs.Sweep.{cell_visits}
use Rattle.tree_automaton.specs.Sweeps.{visits_below, visits_rest}
use Rattle.tree_automaton.proofs.Visited.{visits_none, visits_some, rest_first, place_below}
use Rattle.task_core.specs.declared.stop.Stop.{Stop}
use Rattle.task_core.specs.Opening.{Each}
use Rattle.task_core.specs.Work.{IsServedStop}
use Rattle.task_core.specs.Visits.{plan_of, IsStopOf, AreStops}
use Rattle.task_core.specs.Tours.{ServedIn, Adds}
use Rattle.task_core.proofs.Lists.{none_is, some_is}
use Rattle.task_core.proofs.Begun.{plain_plan}

-- a fact of each place of a list, with one item more
pub placed_more : {X : Type 0} (P : ℕ → X → Type 0) (xs : List X) (x : X) → ((i : ℕ) (y : X) → slice_get xs i ≡ Some y → P i y) → P (length xs) x → (i : ℕ) (y : X) → slice_get (xs ++ x ∷ []) i ≡ Some y → P i y
placed_more P [] x all this zero y at = subst (P 0) (some_is x y at) this
placed_more P [] x all this (suc i) y at = absurd (none_is y at)
placed_more P (z ∷ xs) x all this zero y at = all zero y at
placed_more P (z ∷ xs) x all this (suc i) y at = placed_more (λ j. P (suc j)) xs x (λ j w e. all (suc j) w e) this i y at

module _ {X : Type 0} (P : X → Type 0) where
  pub each_none : Each P []
  each_none i x at = absurd (none_is x at)

  pub each_one : (x : X) → P x → Each P (x ∷ [])
  each_one x this zero y at = subst P (some_is x y at) this
  each_one x this (suc i) y at = absurd (none_is y at)

  pub each_join : (xs ys : List X) → Each P xs → Each P ys → Each P (xs ++ ys)
  each_join [] ys a b i y at = b i y at
  each_join (x ∷ xs) ys a b zero y at = a zero y at
  each_join (x ∷ xs) ys a b (suc i) y at = each_join xs ys (λ j z e. a (suc j) z e) b i y at

-- a grid of a depth is one of every greater depth
pub deeper : (depth : ℕ) (g : Spacetree) → IsGrid depth g → depth ≤ 12 → IsGrid 12 g
deeper depth g grid h = record { cells = grid.cells; levels = λ c refined. let l = grid.levels c refined in omega (arith, l, h); parents = grid.parents }

-- the children of a refined cell are cells of the grid
pub child_there : (g : Spacetree) (c : CellKey) → is_refined g (parent_of c) ≡ true → has_cell g c ≡ true
child_there g c h = right_or (c.level == 0) (is_refined g (parent_of c)) h
  where
    right_or : (a b : Bool) → b ≡ true → (a || b) ≡ true
    right_or true b h = refl
    right_or false b h = h

module _ (k : Cuts) (g : Spacetree) (f : States) (t : ℕ) where
  stops_join : (vs ws : List Visit) (ss ts : List Stop) → AreStops k g f t vs ss → AreStops k g f t ws ts → AreStops k g f t (vs ++ ws) (ss ++ ts)
  stops_join [] ws [] ts a b = b
  stops_join [] ws (s ∷ ss) ts a b = absurd a
  stops_join (v ∷ vs) ws [] ts a b = absurd a
  stops_join (v ∷ vs) ws (s ∷ ss) ts a b = (a.0, stops_join vs ws ss ts a.1 b)

  abbrev A : List Visit → List Stop → List Stop → Type 0
  A = Adds k g f t

  pub adds_none : (old : List Stop) → A [] old old
  adds_none old = record { stops = []; are = tt; served = λ n field. each_none (IsServedStop n); added = sym (append_nil old) }
    where
      append_nil : {X : Type 0} (xs : List X) → xs ++ [] ≡ xs
      append_nil [] = refl
      append_nil (x ∷ xs) = ap (λ ys. x ∷ ys) (append_nil xs)

  pub adds_one : (v : Visit) (s : Stop) (old new : List Stop) → IsStopOf k g f t v s → ServedIn g f (s ∷ []) → new ≡ old ++ s ∷ [] → A (v ∷ []) old new
  adds_one v s old new is served e = record { stops = s ∷ []; are = (is, tt); served = served; added = e }

  pub adds_join : (vs ws : List Visit) (a b c : List Stop) → A vs a b → A ws b c → A (vs ++ ws) a c
  adds_join vs ws a b c x y = record {
    stops = x.stops ++ y.stops;
    are = stops_join vs ws x.stops y.stops x.are y.are;
    served = λ n field. each_join (IsServedStop n) x.stops y.stops (x.served n field) (y.served n field);
    added = y.added ∙ ap (λ q. q ++ y.stops) x.added ∙ append_assoc a x.stops y.stops;
  }

  pub adds_from_none : (vs : List Visit) (new : List Stop) → A vs [] new → AreStops k g f t vs new × ServedIn g f new
  adds_from_none vs new x = (subst (AreStops k g f t vs) (sym x.added) x.are, subst (ServedIn g f) (sym x.added) x.served)

  module _ (cut : IsCutGrid k g) (dir : Direction) where
    abbrev p : SweepPlan
    p = plan_of k g t dir

    -- the test of the keys tells whether the sweep visits a cell
    held_is : (c : CellKey) → Held k t c → is_held p c ≡ true
    held_is c h = held_told p c (subst (λ d. HoldsCell d k.depth (range_of k t) c) (sym cut.dim) h)

    not_held : (c : CellKey) → (Held k t c → ⊥) → (b : Bool) → is_held p c ≡ b → is_held p c ≡ false
    not_held c apart true e = absurd (apart (subst (λ d. HoldsCell d k.depth (range_of k t) c) cut.dim (held_tells p c e)))
    not_held c apart false e = e

    -- a cell that is not held has no visits
    pub cell_none : (c : CellKey) (old : List Stop) → (Held k t c → ⊥) → A (cell_visits p c) old old
    cell_none c old apart = subst (λ vs. A vs old old) (sym (visits_none p c (not_held c apart (is_held p c) refl))) (adds_none old)

    both_true : (a b : Bool) → a ≡ true → b ≡ true → (a && (b || b)) ≡ true
    both_true true true x y = refl
    both_true true false x y = y
    both_true false b x y = x

    -- the visits of a cell: its enter, those of all below it, its leave
    pub cell_some : (c : CellKey) (a b d e : List Stop) → Held k t c → has_cell g c ≡ true → A (enter c ∷ []) a b → A (visits_below p c) b d → A (leave c ∷ []) d e → A (cell_visits p c) a e
    cell_some c a b d e held there x y z =
        subst (λ vs. A vs a e) (sym (visits_some p c (plain_plan k g t dir cut) (both_true (is_held p c) (has_cell g c) (held_is c held) there)))
        (adds_join (enter c ∷ []) (visits_below p c ++ leave c ∷ []) a b e x (adds_join (visits_below p c) (leave c ∷ []) b d e y z))

    or_same : (b : Bool) (r : Bool) → b ≡ r → (b || b) ≡ r
    or_same true r e = e
    or_same false r e = e

    -- a leaf has nothing below it
    pub below_none : (c : CellKey) (old : List Stop) → is_refined g c ≡ false → A (visits_below p c) old old
    below_none c old h = subst (λ b. A (if b then from_child g.dim dir (cell_visits p) c 0 (children g.dim) else []) old old) (sym (or_same (is_refined g c) false h)) (adds_none old)

    -- a refined cell has its children below it, from the first on
    pub below_some : (c n : CellKey) (old new : List Stop) → is_refined g c ≡ true → parent_of n ≡ c → place_along dir g.dim n ≡ 0 → A (visits_rest p n) old new → A (visits_below p c) old new
    below_some c n old new h parent first x =
        subst (λ b. A (if b then from_child g.dim dir (cell_visits p) c 0 (children g.dim) else []) old new) (sym (or_same (is_refined g c) true h))
        (subst (λ m. A (from_child g.dim dir (cell_visits p) c 0 m) old new) (minus_zero (children g.dim))
        (subst (λ i. A (from_child g.dim dir (cell_visits p) c i (children g.dim - i)) old new) first
        (subst (λ q. A (from_child g.dim dir (cell_visits p) q (place_along dir g.dim n) (children g.dim - place_along dir g.dim n)) old new) parent x)))
      where
        minus_zero : (n : ℕ) → n - 0 ≡ n
        minus_zero n = omega arith

    abbrev rest_from : CellKey → ℕ → List Visit
    rest_from c i = from_child g.dim dir (cell_visits p) (parent_of c) i (children g.dim - i)

    -- the last of the children
    pub rest_last : (c : CellKey) (old new : List Stop) → IsCell g.dim c → 0 < c.level → place_along dir g.dim c + 1 ≡ children g.dim → A (cell_visits p c) old new → A (visits_rest p c) old new
    rest_last c old new cell below last x =
        let i : ℕ = place_along dir g.dim c + 1 in
        let none : children g.dim - i ≡ 0 = omega (arith, last) in
        subst (λ vs. A vs old new) (sym (rest_first p c cell below))
        (adds_join (cell_visits p c) (rest_from c i) old new new x (subst (λ m. A (from_child g.dim dir (cell_visits p) (parent_of c) i m) new new) (sym none) (adds_none new)))

    -- and one that has siblings after it
    pub rest_more : (c n : CellKey) (a b d : List Stop) → IsCell g.dim c → 0 < c.level → parent_of n ≡ parent_of c → place_along dir g.dim n ≡ place_along dir g.dim c + 1 → A (cell_visits p c) a b → A (visits_rest p n) b d → A (visits_rest p c) a d
    rest_more c n a b d cell below parent next x y =
        subst (λ vs. A vs a d) (sym (rest_first p c cell below))
        (adds_join (cell_visits p c) (rest_from c (place_along dir g.dim c + 1)) a b d x
        (subst (λ i. A (from_child g.dim dir (cell_visits p) (parent_of c) i (children g.dim - i)) b d) next
        (subst (λ q. A (from_child g.dim dir (cell_visits p) q (place_along dir g.dim n) (children g.dim - place_along dir g.dim n)) b d) parent y)))

-- a cell has at most 27 children
pub children_most : (dim : Dim) → children dim ≤ 27
children_most Two = omega arith
children_most Three = omega arith
