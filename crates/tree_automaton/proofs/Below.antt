-- The walk of the children of a cell, one after another.
use Rattle.std.proofs.Common.{◌≡◌, ℕ, ◌+◌, ◌-◌, ◌*◌, ◌<◌, ◌≤◌, Bool, true, false, List, [], ◌++◌, Option, Some, None, refl, ap, ap₂, sym, ◌∙◌, subst, arith, ⊎_elim, append-nil, append_assoc, ne_eqb}
use Rattle.std.specs.Prelude.{if◌then◌else◌, ◌||◌}
use Rattle.std.proofs.lemmas.Bool.{cases_Bool, false≢true}
use Rattle.peano_keys.specs.declared.dim.Dim.{Dim}
use Rattle.peano_keys.specs.declared.dim.Dim.TheVariants.{Two, Three}
use Rattle.peano_keys.specs.declared.cell.CellKey.{CellKey}
use Rattle.peano_keys.specs.Dim.{children}
use Rattle.peano_keys.specs.Cell.{IsCell, parent_of}
use Rattle.peano_keys.specs.Grid.{Spacetree, has_cell, is_refined}
use Rattle.peano_records.specs.declared.view.CellView.{CellView}
use Rattle.peano_curve.specs.declared.order.Direction.{Direction}
use Rattle.peano_curve.specs.Order.{child_along, place_along}
use Rattle.vertex_stacks.specs.declared.kind.Kind.{Kind}
use Rattle.sweep_visits.specs.Plan.{SweepPlan, dim_of, is_cell_in, is_refined_in, is_opened}
use Rattle.sweep_visits.specs.Visits.{Visit, from_child}
use Rattle.tree_automaton.specs.TreeLists.{TreeLists}
use Rattle.tree_automaton.specs.Sweep.{TreeSweep, cell_visits}
use Rattle.tree_automaton.specs.Promises.{Meaning}
use Rattle.tree_automaton.specs.Story.{Story, with_calls}
use Rattle.tree_automaton.specs.Moments.{IsStoreOf}
use Rattle.tree_automaton.specs.Views.{ViewFits}
use Rattle.tree_automaton.specs.Sweeps.{BelowAsks, IsFor, VisitsGive, WasEntered, WalkAsks, visits_below, visits_rest}
use Rattle.tree_automaton.proofs.Visited.{child_level, place_below, rest_first}
use Rattle.tree_automaton.proofs.Holds.{entered_more}
use Rattle.tree_automaton.proofs.Chains.{during_next, gives_join, gives_none}

pub children_most : (dim : Dim) → children dim < 28
children_most Two = omega arith
children_most Three = omega arith

pub below_closed : {A : Type 0} (entered left : A → CellView → CellView → A → Type 0) (m : Story) (made more : List Visit) (meaning : Meaning) (key : CellKey) (view : CellView) (kind : Kind) (s : TreeLists) (x : A) → is_opened m.sweep.plan key ≡ false → BelowAsks m meaning made more key view (visits_below m.sweep.plan key) kind s → VisitsGive entered left m made (visits_below m.sweep.plan key) more s x x
below_closed entered left m made more meaning key view kind s x closed asks =
    let none : visits_below m.sweep.plan key ≡ [] = ap (λ t. if t then from_child (dim_of m.sweep.plan) m.sweep.plan.dir (cell_visits m.sweep.plan) key 0 (children (dim_of m.sweep.plan)) else []) closed in
    subst (λ vs. VisitsGive entered left m made vs more s x x) (sym none) (gives_none entered left m made more s x asks.of (during_next m made _ more s (ap (λ vs. vs ++ more) none) asks.during))

-- what is below an open cell is its first child and all after it
pub below_open : (p : SweepPlan) (key first : CellKey) → is_opened p key ≡ true → parent_of first ≡ key → place_along p.dir (dim_of p) first ≡ 0 → visits_below p key ≡ visits_rest p first
below_open p key first open_ child place =
    ap (λ t. if t then from_child (dim_of p) p.dir (cell_visits p) key 0 (children (dim_of p)) else []) open_
    ∙ (ap (λ k. from_child (dim_of p) p.dir (cell_visits p) k 0 (children (dim_of p))) (sym child) ∙ (let e : children (dim_of p) ≡ children (dim_of p) - 0 = omega arith in ap₂ (λ j n. from_child (dim_of p) p.dir (cell_visits p) (parent_of first) j n) (sym place) (e ∙ ap (λ j. children (dim_of p) - j) (sym place))))

pub asks_open : (m : Story) (made more : List Visit) (meaning : Meaning) (key first : CellKey) (view : CellView) (kind : Kind) (s : TreeLists) → is_opened m.sweep.plan key ≡ true → parent_of first ≡ key → place_along m.sweep.plan.dir (dim_of m.sweep.plan) first ≡ 0 → BelowAsks m meaning made more key view (visits_below m.sweep.plan key) kind s → BelowAsks m meaning made more key view (visits_rest m.sweep.plan first) kind s
asks_open m made more meaning key first view kind s open_ child place asks = subst (λ vs. BelowAsks m meaning made more key view vs kind s) (below_open m.sweep.plan key first open_ child place) asks

old_child : (o : Option Spacetree) (c key : CellKey) → parent_of c ≡ key → 0 < c.level → is_refined_in o key ≡ true → is_cell_in o c ≡ true
old_child None c key child below h = absurd (false≢true h)
old_child (Some t) c key child below h = let not : c.level ≡ 0 → ⊥ = λ e. omega (arith, e, below) in ap (λ b. b || is_refined t (parent_of c)) (ne_eqb c.level 0 not) ∙ (ap (λ k. is_refined t k) child ∙ h)

-- a child of an open cell is a cell of one of the grids
child_there : (p : SweepPlan) (c key : CellKey) → parent_of c ≡ key → 0 < c.level → is_opened p key ≡ true → (is_cell_in p.old c || has_cell p.new c) ≡ true
child_there p c key child below open_ = ⊎_elim
    (λ old. ap (λ b. b || has_cell p.new c) (old_child p.old c key child below old))
    (λ not. either (is_cell_in p.old c) (has_cell p.new c) (old_child (Some p.new) c key child below (subst (λ b. (b || is_refined p.new key) ≡ true) not open_)))
    (cases_Bool (is_refined_in p.old key))
  where
    either : (x y : Bool) → y ≡ true → (x || y) ≡ true
    either true y e = refl
    either false y e = e

module _ (m : Story) (made more : List Visit) (meaning : Meaning) (key c : CellKey) (view : CellView) (kind : Kind) (s : TreeLists) (asks : BelowAsks m meaning made more key view (visits_rest m.sweep.plan c) kind s) (open_ : is_opened m.sweep.plan key ≡ true) (cell : IsCell s.lanes.dim c) (child : parent_of c ≡ key) (below : 1 ≤ c.level) where
  abbrev place : ℕ
  place = place_along m.sweep.plan.dir (dim_of m.sweep.plan) c

  abbrev pub others : List Visit
  others = from_child (dim_of m.sweep.plan) m.sweep.plan.dir (cell_visits m.sweep.plan) (parent_of c) (place + 1) (children (dim_of m.sweep.plan) - (place + 1))

  up : 0 < c.level
  up = omega (arith, below)

  own_cell : IsCell (dim_of m.sweep.plan) c
  own_cell = subst (λ d. IsCell d c) asks.of.dim cell

  first_of : visits_rest m.sweep.plan c ≡ cell_visits m.sweep.plan c ++ others
  first_of = rest_first m.sweep.plan c own_cell up

  pub walk_asks : WalkAsks m meaning made (others ++ more) (Some view) c kind s
  walk_asks = record {
    before = record { served = asks.served; sweep = asks.sweep; of = asks.of; above = (up, subst (λ k. ViewFits m.sweep k view) (sym child) asks.view_is) };
    above = subst (λ k. WasEntered m k view) (sym child) asks.entered;
    for_sweep = asks.for_sweep;
    cell = child_there m.sweep.plan c key child up open_;
    during = during_next m made _ _ s (ap (λ vs. vs ++ more) first_of ∙ append_assoc (cell_visits m.sweep.plan c) others more) asks.during;
  }

  module _ {A : Type 0} (entered left : A → CellView → CellView → A → Type 0) (t : TreeLists) (x y : A) (one : VisitsGive entered left m made (cell_visits m.sweep.plan c) (others ++ more) t x y) where
    abbrev pub made_one : List Visit
    made_one = made ++ cell_visits m.sweep.plan c

    pub cell_kept : IsCell t.lanes.dim c
    cell_kept = subst (λ d. IsCell d c) (asks.of.dim ∙ sym one.of.dim) cell

    others_are : (next : CellKey) → parent_of next ≡ parent_of c → place_along m.sweep.plan.dir (dim_of m.sweep.plan) next ≡ place + 1 → others ≡ visits_rest m.sweep.plan next
    others_are next same follows = ap (λ k. from_child (dim_of m.sweep.plan) m.sweep.plan.dir (cell_visits m.sweep.plan) k (place + 1) (children (dim_of m.sweep.plan) - (place + 1))) (sym same) ∙ ap (λ j. from_child (dim_of m.sweep.plan) m.sweep.plan.dir (cell_visits m.sweep.plan) (parent_of next) j (children (dim_of m.sweep.plan) - j)) (sym follows)

    own_follows : (next : CellKey) → place_along t.dir t.lanes.dim next ≡ place_along t.dir t.lanes.dim c + 1 → place_along m.sweep.plan.dir (dim_of m.sweep.plan) next ≡ place + 1
    own_follows next follows = subst (λ d. place_along d (dim_of m.sweep.plan) next ≡ place_along d (dim_of m.sweep.plan) c + 1) one.of.dir (subst (λ d. place_along t.dir d next ≡ place_along t.dir d c + 1) one.of.dim follows)

    pub next_asks : (next : CellKey) (meaning' : Meaning) → meaning' ≡ meaning → parent_of next ≡ parent_of c → place_along t.dir t.lanes.dim next ≡ place_along t.dir t.lanes.dim c + 1 → BelowAsks (with_calls m one.calls) meaning' made_one more key view (visits_rest m.sweep.plan next) kind t
    next_asks next meaning' same parent follows = record {
      served = asks.served;
      sweep = asks.sweep;
      of = one.of;
      for_sweep = subst (IsFor m.sweep) (sym same) asks.for_sweep;
      view_is = asks.view_is;
      entered = entered_more m one.calls key view asks.entered;
      during = during_next (with_calls m one.calls) made_one _ _ t (ap (λ vs. vs ++ more) (others_are next parent (own_follows next follows))) one.during;
    }

    pub rest_gives : (next : CellKey) (u : TreeLists) (z : A) → parent_of next ≡ parent_of c → place_along t.dir t.lanes.dim next ≡ place_along t.dir t.lanes.dim c + 1 → VisitsGive entered left (with_calls m one.calls) made_one (visits_rest m.sweep.plan next) more u y z → VisitsGive entered left m made (visits_rest m.sweep.plan c) more u x z
    rest_gives next u z parent follows rest =
        let same = others_are next parent (own_follows next follows) in
        let e : cell_visits m.sweep.plan c ++ visits_rest m.sweep.plan next ≡ visits_rest m.sweep.plan c = ap (λ vs. cell_visits m.sweep.plan c ++ vs) (sym same) ∙ sym first_of in
        subst (λ vs. VisitsGive entered left m made vs more u x z) e (gives_join entered left m made (cell_visits m.sweep.plan c) (visits_rest m.sweep.plan next) (others ++ more) more t u x y z one rest)

    pub last_gives : place_along t.dir t.lanes.dim c + 1 ≡ children t.lanes.dim → VisitsGive entered left m made (visits_rest m.sweep.plan c) more t x y
    last_gives last =
        let own : place + 1 ≡ children (dim_of m.sweep.plan) = subst (λ d. place_along d (dim_of m.sweep.plan) c + 1 ≡ children (dim_of m.sweep.plan)) one.of.dir (subst (λ d. place_along t.dir d c + 1 ≡ children d) one.of.dim last) in
        let z : children (dim_of m.sweep.plan) - (place + 1) ≡ 0 = omega (arith, own) in
        let none : others ≡ [] = ap (λ n. from_child (dim_of m.sweep.plan) m.sweep.plan.dir (cell_visits m.sweep.plan) (parent_of c) (place + 1) n) z in
        let e : cell_visits m.sweep.plan c ≡ visits_rest m.sweep.plan c = sym (append-nil (cell_visits m.sweep.plan c)) ∙ (ap (λ vs. cell_visits m.sweep.plan c ++ vs) (sym none) ∙ sym first_of) in
        subst (λ vs. VisitsGive entered left m made vs more t x y) e (subst (λ vs. VisitsGive entered left m made (cell_visits m.sweep.plan c) vs t x y) (ap (λ vs. vs ++ more) none) one)

pub first_place : (p : TreeSweep) (s : TreeLists) (dir : Direction) (dim : Dim) (first : CellKey) → IsStoreOf p s → dir ≡ s.dir → dim ≡ s.lanes.dim → place_along dir dim first ≡ 0 → place_along p.plan.dir (dim_of p.plan) first ≡ 0
first_place p s dir dim first of_ a b h = subst (λ d. place_along d (dim_of p.plan) first ≡ 0) (a ∙ of_.dir) (subst (λ d. place_along dir d first ≡ 0) (b ∙ of_.dim) h)

pub place_moved : (t : TreeLists) (dir : Direction) (dim : Dim) (c next : CellKey) → dir ≡ t.dir → dim ≡ t.lanes.dim → place_along dir dim next ≡ place_along dir dim c + 1 → place_along t.dir t.lanes.dim next ≡ place_along t.dir t.lanes.dim c + 1
place_moved t dir dim c next a b h = subst (λ d. place_along d t.lanes.dim next ≡ place_along d t.lanes.dim c + 1) a (subst (λ d. place_along dir d next ≡ place_along dir d c + 1) b h)

pub last_moved : (t : TreeLists) (dir : Direction) (dim : Dim) (c : CellKey) → dir ≡ t.dir → dim ≡ t.lanes.dim → place_along dir dim c + 1 ≡ children dim → place_along t.dir t.lanes.dim c + 1 ≡ children t.lanes.dim
last_moved t dir dim c a b h = subst (λ d. place_along d t.lanes.dim c + 1 ≡ children t.lanes.dim) a (subst (λ d. place_along dir d c + 1 ≡ children d) b h)

pub next_level : (dir : Direction) (dim : Dim) (c next : CellKey) → 1 ≤ c.level → next ≡ child_along dir dim (parent_of c) (place_along dir dim c + 1) → next.level ≡ c.level
next_level dir dim c next below is = let e : next.level ≡ c.level - 1 + 1 = ap (λ k. k.level) is ∙ child_level dir dim (parent_of c) (place_along dir dim c + 1) in omega (arith, e, below)

-- fewer siblings are left
pub rest_falls : (s t : TreeLists) (c next : CellKey) → t.lanes.dim ≡ s.lanes.dim → t.dir ≡ s.dir → next.level ≡ c.level → place_along t.dir t.lanes.dim next ≡ place_along t.dir t.lanes.dim c + 1 → 64 * (13 - next.level) + 1 + (children t.lanes.dim - place_along t.dir t.lanes.dim next) < 64 * (13 - c.level) + 1 + (children s.lanes.dim - place_along s.dir s.lanes.dim c)
rest_falls s t c next dim dir level follows =
    let own : place_along s.dir s.lanes.dim next ≡ place_along s.dir s.lanes.dim c + 1 = subst (λ d. place_along d s.lanes.dim next ≡ place_along d s.lanes.dim c + 1) dir (subst (λ d. place_along t.dir d next ≡ place_along t.dir d c + 1) dim follows) in
    let most : place_along s.dir s.lanes.dim next < children s.lanes.dim = place_below s.dir s.lanes.dim next in
    let h : 64 * (13 - next.level) + 1 + (children s.lanes.dim - place_along s.dir s.lanes.dim next) < 64 * (13 - c.level) + 1 + (children s.lanes.dim - place_along s.dir s.lanes.dim c) = omega (arith, own, most, level) in
    subst (λ d. 64 * (13 - next.level) + 1 + (children t.lanes.dim - place_along d t.lanes.dim next) < 64 * (13 - c.level) + 1 + (children s.lanes.dim - place_along s.dir s.lanes.dim c)) (sym dir) (subst (λ d. 64 * (13 - next.level) + 1 + (children d - place_along s.dir d next) < 64 * (13 - c.level) + 1 + (children s.lanes.dim - place_along s.dir s.lanes.dim c)) (sym dim) h)
