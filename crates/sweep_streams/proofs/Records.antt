-- The records of cells.
use Rattle.std.proofs.Common.{◌≡◌, inl, inr, ℕ, ◌-◌, ◌*◌, ◌/◌, ◌≤◌, ◌==◌, Bool, true, false, ◌&&◌, ◌||◌, if◌then◌else◌, List, [], ◌∷◌, ◌++◌, map, reverse, flat_map, refl, sym, ap, subst, ◌∙◌, arith, eqb-true}
use Rattle.std.proofs.lemmas.List.{map-append}
use mathlib.Core.List.{reverse-cons}
use Rattle.peano_keys.specs.declared.cell.CellKey.{CellKey}
use Rattle.peano_keys.specs.declared.dim.Dim.{Dim}
use Rattle.peano_keys.specs.Dim.{axes}
use Rattle.peano_keys.specs.Cell.{IsCell, at, parent_of}
use Rattle.peano_keys.specs.Grid.{Cells, has_cell}
use Rattle.peano_curve.specs.declared.order.Direction.{Direction}
use Rattle.peano_curve.specs.declared.order.Direction.TheVariants.{Forward, Backward}
use Rattle.peano_curve.specs.Splits.{box_of}
use Rattle.stack_law.specs.Boxes as boxes
use Rattle.stack_law.specs.Boxes.{Axis, Box}
use Rattle.stack_law.specs.Children.{turned_visit as box_turned}
use Rattle.stack_law.specs.Domain.{axis_in, cell_in}
use Rattle.stack_law.specs.Domain as domain
use Rattle.stack_law.specs.Once.{IsIn, left_at}
use Rattle.stack_law.specs.Order.{IsRightVisit}
use Rattle.stack_law.specs.Stack.{AreDistinct}
use Rattle.stack_law.specs.Visits as box
use Rattle.stack_law.specs.Visits.{Faces, visits, walls}
use Rattle.stack_law.specs.Walk.{walk, HappensAtVisited}
use Rattle.stack_law.proofs.BackwardVisited.{backward_walk_is_reversed, backward_walk_of_visited}
use Rattle.stack_law.proofs.Chains.{each_in}
use Rattle.stack_law.proofs.Leaves.{left_with, TellsCell, leaves_distinct}
use Rattle.stack_law.proofs.Once.{each_cell_once}
use Rattle.stack_law.proofs.Walk.{walk_is}
use Rattle.stack_law.proofs.Ways.{ways_follow_the_order}
use Rattle.stack_walks.proofs.Ends.{in_flat}
use Rattle.stack_walks.proofs.GivenCorners.{and_true, in_some}
use Rattle.stack_walks.proofs.Handing.{and_both}
use Rattle.stack_walks.proofs.Streams.{flat_same, flat_each, flat_reversed}
use Rattle.sweep_visits.specs.Plan.{SweepPlan, IsSweepPlan, IsOldGrid, dim_of, is_held, is_cell_in, is_visited, is_opened}
use Rattle.sweep_visits.specs.Visits.{Visit, enter, leave, visits_of}
use Rattle.sweep_visits.specs.Runs.{turned_round}
use Rattle.sweep_visits.specs.Moves.{same_cell}
use Rattle.sweep_streams.specs.Records.{read_at, written_at, read_by, written_by, IsHeldCell, ListsCells, RecordsAreOfHeldCells, NextSweepReadsTheRecords, in_grids, entered_at, left_at as left_cell, EachHeldCellOnce, ParentsAreVisited, turned_visit, BackwardSweepIsReversed}
use Rattle.sweep_visits.proofs.Places.{direction_of, splits, cell_of, whole, above, inside_cell, cell_inside, cell_back}
use Rattle.sweep_visits.proofs.Keyed.{visited_at, open_at, key, walk_by_keys, visited_here}
use Rattle.sweep_visits.proofs.Parents.{or_left, or_right, parents_are_open}
use Rattle.sweep_visits.proofs.Kept.{seen_at, seen_tells, inside_flat}
use Rattle.sweep_streams.proofs.Listed.{whole_splits, cell_level}
use Rattle.sweep_visits.proofs.Same.{cells_decided}
use Rattle.sweep_visits.proofs.Sweeps.{dir, axis, is_cell, S, opened, closed, IsRight, key_of, by_boxes}
use Rattle.stack_walks.proofs.Reversed.{in_reverse, to_reverse, distinct_reverse}
use Rattle.sweep_streams.proofs.Once.{back, back_plan, turned_back}
use Rattle.sweep_streams.proofs.Streams.{after}

-- the key-level lists for any test of cells
abbrev key_left : (CellKey → Bool) → Visit → List CellKey
key_left test (enter c) = []
key_left test (leave c) = if test c then c ∷ [] else []

abbrev key_entered : (CellKey → Bool) → Visit → List CellKey
key_entered test (enter c) = if test c then c ∷ [] else []
key_entered test (leave c) = []

module _ (p : SweepPlan) (plan : IsSweepPlan p) (test : CellKey → Bool) where
  abbrev K : ℕ → Box → CellKey
  K m b = cell_of (dim_of p) p.depth m b

  abbrev all : List box.Visit
  all = visits (dir p plan) (axis p plan) (is_cell p plan) (S p plan) domain.root walls

  abbrev gift : ℕ → Box → Faces → List CellKey
  gift m b io = if seen_at p plan m b && test (K m b) then K m b ∷ [] else []

  abbrev lefts : box.Visit → List CellKey
  lefts = left_with CellKey (dir p plan) (axis p plan) (is_cell p plan) (S p plan) gift

  abbrev entered : box.Visit → List CellKey
  entered (box.enter m b io) = gift m b io
  entered (box.leave m b io) = []

  lefts_quiet : HappensAtVisited CellKey lefts (seen_at p plan)
  lefts_quiet = record { enters = λ m b io e. refl; leaves = λ m b io e. rw e refl }

  entered_quiet : HappensAtVisited CellKey entered (seen_at p plan)
  entered_quiet = record { enters = λ m b io e. rw e refl; leaves = λ m b io e. refl }

  one_left : (v : box.Visit) → IsRight p plan v → key_left test (key_of p plan v) ≡ lefts v
  one_left (box.enter m b io) r = refl
  one_left (box.leave m b io) r = ap (λ t. if t && test (K m b) then K m b ∷ [] else []) (sym r.1)

  one_entered : (v : box.Visit) → IsRight p plan v → key_entered test (key_of p plan v) ≡ entered v
  one_entered (box.enter m b io) r = ap (λ t. if t && test (K m b) then K m b ∷ [] else []) (sym r.1)
  one_entered (box.leave m b io) r = refl

  left_is : flat_map (key_left test) (visits_of p) ≡ flat_map lefts all
  left_is = by_boxes p plan (key_left test) lefts one_left ∙ walk_is (dir p plan) (axis p plan) (is_cell p plan) CellKey lefts (seen_at p plan) (opened p plan) lefts_quiet (S p plan) (closed p plan) (S p plan) domain.root walls (omega arith)

  entered_is : flat_map (key_entered test) (visits_of p) ≡ flat_map entered all
  entered_is = by_boxes p plan (key_entered test) entered one_entered ∙ walk_is (dir p plan) (axis p plan) (is_cell p plan) CellKey entered (seen_at p plan) (opened p plan) entered_quiet (S p plan) (closed p plan) (S p plan) domain.root walls (omega arith)

  -- what a cell gives tells it
  in_gift : (x : CellKey) (m : ℕ) (b : Box) (io : Faces) → IsIn x (gift m b io) → (x ≡ K m b) × (seen_at p plan m b ≡ true) × (test (K m b) ≡ true)
  in_gift x m b io k = by (seen_at p plan m b && test (K m b)) refl k
    where
      by : (t : Bool) → (seen_at p plan m b && test (K m b)) ≡ t → IsIn x (if t then K m b ∷ [] else []) → (x ≡ K m b) × (seen_at p plan m b ≡ true) × (test (K m b) ≡ true)
      by true e (inl is) = (let f = and_true _ _ e in (is, f.0, f.1))
      by true e (inr n) = absurd n
      by false e n = absurd n

  splits_back : (m : ℕ) → cell_in (axes (dim_of p)) m ≡ true → m ≤ axes (dim_of p) * p.depth → m ≡ axes (dim_of p) * (p.depth - (p.depth - m / axes (dim_of p)))
  splits_back m c l =
      let low = (above (dim_of p) p.depth m c l).1 in
      let e : m / axes (dim_of p) ≡ p.depth - (p.depth - m / axes (dim_of p)) = omega arith in
      whole (dim_of p) m c ∙ ap (λ k. axes (dim_of p) * k) e

  tells : TellsCell CellKey (dir p plan) (axis p plan) (is_cell p plan) (S p plan) gift
  tells x m b io n d jo r s h g =
      let e = sym (in_gift x m b io h).0 ∙ (in_gift x n d jo g).0 in
      (splits_back m r.cell r.level ∙ ap (λ (c : CellKey). axes (dim_of p) * (p.depth - c.level)) e ∙ sym (splits_back n s.cell s.level), λ i. record { x0 = at (e i) 0; x1 = at (e i) 1; x2 = at (e i) 2 })

  lefts_distinct : AreDistinct same_cell (flat_map lefts all)
  lefts_distinct = leaves_distinct CellKey (dir p plan) (axis p plan) (is_cell p plan) (S p plan) gift tells same_cell cells_decided (λ m b io r. by m b (seen_at p plan m b && test (K m b)))
    where
      by : (m : ℕ) (b : Box) (t : Bool) → AreDistinct same_cell (if t then K m b ∷ [] else [])
      by m b true = (refl, tt)
      by m b false = tt

  left_held : (q : CellKey) → IsIn q (flat_map lefts all) → IsHeldCell p test q
  left_held q h = (let f = in_some lefts q all h in at_visit f.0 (each_in (λ z. 0) (IsRightVisit (dir p plan) (axis p plan) (is_cell p plan) (S p plan)) f.0 all (ways_follow_the_order (dir p plan) (axis p plan) (is_cell p plan) (S p plan)) f.1) f.2)
    where
      at_visit : (v : box.Visit) → IsRightVisit (dir p plan) (axis p plan) (is_cell p plan) (S p plan) v → IsIn q (lefts v) → IsHeldCell p test q
      at_visit (box.enter m b io) r k = absurd k
      at_visit (box.leave m b io) r k =
          let g = in_gift q m b io k in
          subst (IsHeldCell p test) (sym g.0) (record { cell = inside_cell (dim_of p) p.depth m r.cell r.level plan.depth b r.inside; held = (and_true (is_held p (K m b)) _ (seen_tells p plan m b g.1)).0; passes = g.2 })

  held_left : ((q : CellKey) → test q ≡ true → (is_cell_in p.old q || has_cell p.new q) ≡ true) → (q : CellKey) → IsHeldCell p test q → IsIn q (flat_map lefts all)
  held_left in_grids q h =
      let grids = in_grids q h.passes in
      let low = cell_level p plan q grids in
      let split = whole_splits (dim_of p) p.depth q.level low in
      let m : ℕ = axes (dim_of p) * (p.depth - q.level) in
      let back = cell_back (dim_of p) p.depth m split.0 split.1 q h.cell (sym split.2) in
      let inside = cell_inside (dim_of p) p.depth m split.0 split.1 q h.cell (sym split.2) in
      let cell = subst (IsCell (dim_of p)) (sym back) h.cell in
      let seen = visited_here (dim_of p) p.depth (is_visited p) (is_opened p) m (box_of q) split.0 split.1 (inside_flat (dim_of p) p.depth m (box_of q) cell) ∙ ap (is_visited p) back ∙ and_both _ _ h.held grids in
      let passes = ap test back ∙ h.passes in
      let there = (each_cell_once (dir p plan) (axis p plan) (is_cell p plan) (S p plan) m split.0 split.1).3 (box_of q) inside in
      let f = in_some (left_at m) (box_of q) all there in
      in_flat lefts q f.0 all f.1 (at_visit m back seen passes f.0 f.2)
    where
      at_visit : (m : ℕ) → K m (box_of q) ≡ q → seen_at p plan m (box_of q) ≡ true → test (K m (box_of q)) ≡ true → (v : box.Visit) → IsIn (box_of q) (left_at m v) → IsIn q (lefts v)
      at_visit m back seen passes (box.enter n d io) k = absurd k
      at_visit m back seen passes (box.leave n d io) k = by (n == m) refl k
        where
          here : IsIn q (gift m (box_of q) io)
          here = rw (seen, passes) (inl (sym back))

          by : (t : Bool) → (n == m) ≡ t → IsIn (box_of q) (if t then d ∷ [] else []) → IsIn q (gift n d io)
          by true e (inl is) = subst (λ d. IsIn q (gift n d io)) is (subst (λ n. IsIn q (gift n (box_of q) io)) (sym (eqb-true n m e)) here)
          by true e (inr k) = absurd k
          by false e k = absurd k

  pub left_lists : ((q : CellKey) → test q ≡ true → (is_cell_in p.old q || has_cell p.new q) ≡ true) → ListsCells p test (flat_map (key_left test) (visits_of p))
  left_lists in_grids = subst (ListsCells p test) (sym left_is) (record { distinct = lefts_distinct; members = λ q. (left_held q, held_left in_grids q) })

-- entering is leaving in the sweep the other way
module _ (p : SweepPlan) (plan : IsSweepPlan p) (test : CellKey → Bool) where
  turned_lefts : (v : box.Visit) → entered p plan test (box_turned v) ≡ reverse (lefts (back p) (back_plan p plan) test v)
  turned_lefts (box.enter m b io) = refl
  turned_lefts (box.leave m b io) = by (seen_at p plan m b && test (K p plan test m b))
    where
      by : (t : Bool) → (if t then K p plan test m b ∷ [] else []) ≡ reverse (if t then K p plan test m b ∷ [] else [])
      by true = refl
      by false = refl

  pub entered_reversed : flat_map (key_entered test) (visits_of p) ≡ reverse (flat_map (key_left test) (visits_of (back p)))
  entered_reversed =
      entered_is p plan test
      ∙ sym (ap (λ d. flat_map (entered p plan test) (visits d (axis p plan) (is_cell p plan) (S p plan) domain.root walls)) (turned_back p.dir))
      ∙ ap (flat_map (entered p plan test)) (backward_walk_is_reversed (dir (back p) (back_plan p plan)) (axis p plan) (is_cell p plan) (S p plan))
      ∙ sym (flat_reversed (lefts (back p) (back_plan p plan) test) (entered p plan test) box_turned turned_lefts (all (back p) (back_plan p plan) test))
      ∙ sym (ap reverse (left_is (back p) (back_plan p plan) test))

from_back : (p : SweepPlan) (test : CellKey → Bool) (c : CellKey) → IsHeldCell (back p) test c → IsHeldCell p test c
from_back p test c h = record { cell = h.cell; held = h.held; passes = h.passes }

to_back : (p : SweepPlan) (test : CellKey → Bool) (c : CellKey) → IsHeldCell p test c → IsHeldCell (back p) test c
to_back p test c h = record { cell = h.cell; held = h.held; passes = h.passes }

reversed_cells : (p : SweepPlan) (test : CellKey → Bool) (cs : List CellKey) → ListsCells (back p) test cs → ListsCells p test (reverse cs)
reversed_cells p test cs h = record { distinct = distinct_reverse same_cell cells_decided cs h.distinct; members = λ c. (λ k. from_back p test c ((h.members c).0 (in_reverse c cs k)), λ m. to_reverse c cs ((h.members c).1 (to_back p test c m))) }

read_is : (p : SweepPlan) (v : Visit) → read_at p v ≡ key_entered (is_cell_in p.old) v
read_is p (enter c) = refl
read_is p (leave c) = refl

written_is : (p : SweepPlan) (v : Visit) → written_at p v ≡ key_left (has_cell p.new) v
written_is p (enter c) = refl
written_is p (leave c) = refl

read_entered : (p : SweepPlan) → read_by p ≡ flat_map (key_entered (is_cell_in p.old)) (visits_of p)
read_entered p = flat_same (read_at p) (key_entered (is_cell_in p.old)) (read_is p) (visits_of p)

written_left : (p : SweepPlan) → written_by p ≡ flat_map (key_left (has_cell p.new)) (visits_of p)
written_left p = flat_same (written_at p) (key_left (has_cell p.new)) (written_is p) (visits_of p)

pub records_are_of_held_cells : RecordsAreOfHeldCells
records_are_of_held_cells p plan = (
  subst (ListsCells p (is_cell_in p.old)) (sym (read_entered p ∙ entered_reversed p plan (is_cell_in p.old))) (reversed_cells p (is_cell_in p.old) _ (left_lists (back p) (back_plan p plan) (is_cell_in p.old) (λ q h. or_left _ _ h))),
  subst (ListsCells p (has_cell p.new)) (sym (written_left p)) (left_lists p plan (has_cell p.new) (λ q h. or_right _ _ h)),
)

with_true : (t : Bool) → (t && true) ≡ t
with_true true = refl
with_true false = refl

-- two sweeps that visit the same of the tested cells
twice_round : (d : Direction) → direction_of (turned_round (turned_round d)) ≡ direction_of d
twice_round Forward = refl
twice_round Backward = refl

module _ (p : SweepPlan) (plan : IsSweepPlan p) (r : Cells) (next : IsSweepPlan (after p (dim_of p) r)) where
  abbrev q : SweepPlan
  q = after p (dim_of p) r

  abbrev new : CellKey → Bool
  new = has_cell p.new

  same_seen : (m : ℕ) (b : Box) → is_cell p plan m ≡ true → m ≤ S p plan → IsCell (dim_of p) (cell_of (dim_of p) p.depth m b) → (seen_at p plan m b && new (cell_of (dim_of p) p.depth m b)) ≡ (seen_at q next m b && new (cell_of (dim_of p) p.depth m b))
  same_seen m b c l cell = by (new (cell_of (dim_of p) p.depth m b)) refl
    where
      k : CellKey
      k = cell_of (dim_of p) p.depth m b

      none : (s t : Bool) → (s && false) ≡ (t && false)
      none true true = refl
      none true false = refl
      none false true = refl
      none false false = refl

      first : new (cell_of (dim_of p) p.depth m b) ≡ true → is_visited p (cell_of (dim_of p) p.depth m b) ≡ is_held p (cell_of (dim_of p) p.depth m b)
      first e = ap (λ t. is_held p (cell_of (dim_of p) p.depth m b) && t) (or_right (is_cell_in p.old (cell_of (dim_of p) p.depth m b)) _ e) ∙ with_true (is_held p (cell_of (dim_of p) p.depth m b))

      second : new (cell_of (dim_of p) p.depth m b) ≡ true → is_visited q (cell_of (dim_of p) p.depth m b) ≡ is_held p (cell_of (dim_of p) p.depth m b)
      second e = ap (λ t. is_held p (cell_of (dim_of p) p.depth m b) && t) (or_left _ (has_cell q.new (cell_of (dim_of p) p.depth m b)) e) ∙ with_true (is_held p (cell_of (dim_of p) p.depth m b))

      by : (t : Bool) → new (cell_of (dim_of p) p.depth m b) ≡ t → (seen_at p plan m b && t) ≡ (seen_at q next m b && t)
      by false e = none (seen_at p plan m b) (seen_at q next m b)
      by true e =
          let flat = inside_flat (dim_of p) p.depth m b cell in
          ap (λ t. t && true) (visited_here (dim_of p) p.depth (is_visited p) (is_opened p) m b c l flat ∙ first e ∙ sym (second e) ∙ sym (visited_here (dim_of p) p.depth (is_visited q) (is_opened q) m b c l flat))

  same_left : (v : box.Visit) → IsRightVisit (dir p plan) (axis p plan) (is_cell p plan) (S p plan) v → lefts p plan new v ≡ lefts q next new v
  same_left (box.enter m b io) r = refl
  same_left (box.leave m b io) r = ap (λ t. if t then cell_of (dim_of p) p.depth m b ∷ [] else []) (same_seen m b r.cell r.level (inside_cell (dim_of p) p.depth m r.cell r.level plan.depth b r.inside))

  reads : reverse (written_by p) ≡ read_by q
  reads =
      ap reverse
      (written_left p
      ∙ left_is p plan new
      ∙ flat_each (IsRightVisit (dir p plan) (axis p plan) (is_cell p plan) (S p plan)) (lefts p plan new) (lefts q next new) same_left (all p plan new) (ways_follow_the_order (dir p plan) (axis p plan) (is_cell p plan) (S p plan))
      ∙ sym (ap (λ d. flat_map (lefts q next new) (visits d (axis p plan) (is_cell p plan) (S p plan) domain.root walls)) (twice_round p.dir))
      ∙ sym (left_is (back q) (back_plan q next) new))
      ∙ sym (read_entered q ∙ entered_reversed q next new)

pub next_sweep_reads_the_records : NextSweepReadsTheRecords
next_sweep_reads_the_records p q plan next follows =
    let n = q.new in
    let old = subst (λ o. IsOldGrid q.depth (dim_of q) o) follows.old next.old in
    let e : p.new.dim ≡ n.dim = old.1 in
    let is : after p n.dim n.refined ≡ q = λ i. record { depth = sym follows.depth i; range = sym follows.range i; dir = sym follows.dir i; old = sym follows.old i; new = n } in
    let base = subst (λ d. (r : Cells) → IsSweepPlan (after p d r) → reverse (written_by p) ≡ read_by (after p d r)) e (reads p plan) in
    base n.refined (subst IsSweepPlan (sym is) next) ∙ ap read_by is

-- all visited cells
entered_all : (p : SweepPlan) (plan : IsSweepPlan p) → flat_map entered_at (visits_of p) ≡ flat_map (key_entered (in_grids p)) (visits_of p)
entered_all p plan =
    by_boxes p plan entered_at (entered p plan (in_grids p)) one ∙ sym (by_boxes p plan (key_entered (in_grids p)) (entered p plan (in_grids p)) (one_entered p plan (in_grids p)))
  where
    one : (v : box.Visit) → IsRight p plan v → entered_at (key_of p plan v) ≡ entered p plan (in_grids p) v
    one (box.enter m b io) r = (let g = (and_true (is_held p (cell_of (dim_of p) p.depth m b)) _ (seen_tells p plan m b r.1)).1 in rw (r.1, g) refl)
    one (box.leave m b io) r = refl

left_all : (p : SweepPlan) (plan : IsSweepPlan p) → flat_map left_cell (visits_of p) ≡ flat_map (key_left (in_grids p)) (visits_of p)
left_all p plan =
    by_boxes p plan left_cell (lefts p plan (in_grids p)) one ∙ sym (by_boxes p plan (key_left (in_grids p)) (lefts p plan (in_grids p)) (one_left p plan (in_grids p)))
  where
    one : (v : box.Visit) → IsRight p plan v → left_cell (key_of p plan v) ≡ lefts p plan (in_grids p) v
    one (box.enter m b io) r = refl
    one (box.leave m b io) r = (let g = (and_true (is_held p (cell_of (dim_of p) p.depth m b)) _ (seen_tells p plan m b r.1)).1 in rw (r.1, g) refl)

pub each_held_cell_once : EachHeldCellOnce
each_held_cell_once p plan = (
  subst (ListsCells p (in_grids p)) (sym (entered_all p plan ∙ entered_reversed p plan (in_grids p))) (reversed_cells p (in_grids p) _ (left_lists (back p) (back_plan p plan) (in_grids p) (λ q h. h))),
  subst (ListsCells p (in_grids p)) (sym (left_all p plan)) (left_lists p plan (in_grids p) (λ q h. h)),
)

pub parents_are_visited : ParentsAreVisited
parents_are_visited p plan c pos h = and_true (is_visited p (parent_of c)) (is_opened p (parent_of c)) (parents_are_open p plan c pos h)

map_map : {U V W : Type 0} (g : V → W) (f : U → V) (xs : List U) → map g (map f xs) ≡ map (λ x. g (f x)) xs
map_map g f [] = refl
map_map g f (x ∷ xs) = ap (λ ys. g (f x) ∷ ys) (map_map g f xs)

map_same : {U V : Type 0} (f g : U → V) → ((x : U) → f x ≡ g x) → (xs : List U) → map f xs ≡ map g xs
map_same f g e [] = refl
map_same f g e (x ∷ xs) = (let h = e x in let k = map_same f g e xs in λ i. h i ∷ k i)

map_reversed : {U V : Type 0} (f : U → V) (xs : List U) → map f (reverse xs) ≡ reverse (map f xs)
map_reversed f [] = refl
map_reversed f (x ∷ xs) = ap (map f) (reverse-cons x xs) ∙ map-append f (reverse xs) (x ∷ []) ∙ ap (λ ys. ys ++ f x ∷ []) (map_reversed f xs) ∙ sym (reverse-cons (f x) (map f xs))

direction_turned : (d : Direction) → direction_of (turned_round d) ≡ boxes.turned_round (direction_of d)
direction_turned Forward = refl
direction_turned Backward = refl

pub backward_sweep_is_reversed : BackwardSweepIsReversed
backward_sweep_is_reversed p =
    let dim = dim_of p in
    let seen = visited_at dim p.depth (is_visited p) (is_opened p) in
    let opens = open_at dim p.depth (is_visited p) (is_opened p) in
    let keys = key dim p.depth (is_visited p) (is_opened p) in
    let walked = λ (d : boxes.Direction). walk d (axis_in (axes dim)) (cell_in (axes dim)) seen opens (splits dim p.depth) domain.root walls in
    sym (walk_by_keys dim (turned_round p.dir) p.depth (is_visited p) (is_opened p))
    ∙ ap (λ d. map keys (walked d)) (direction_turned p.dir)
    ∙ ap (map keys) (backward_walk_of_visited (direction_of p.dir) (axis_in (axes dim)) (cell_in (axes dim)) seen opens (splits dim p.depth))
    ∙ map_reversed keys (map box_turned (walked (direction_of p.dir)))
    ∙ ap reverse
    (map_map keys box_turned (walked (direction_of p.dir))
    ∙ map_same (λ v. keys (box_turned v)) (λ v. turned_visit (keys v)) (same dim) (walked (direction_of p.dir))
    ∙ sym (map_map turned_visit keys (walked (direction_of p.dir)))
    ∙ ap (map turned_visit) (walk_by_keys dim p.dir p.depth (is_visited p) (is_opened p)))
  where
    same : (dim : Dim) (v : box.Visit) → key dim p.depth (is_visited p) (is_opened p) (box_turned v) ≡ turned_visit (key dim p.depth (is_visited p) (is_opened p) v)
    same dim (box.enter m b io) = refl
    same dim (box.leave m b io) = refl
