-- The walks of the engine use their lanes as stacks.
use Rattle.std.proofs.Common.{◌≡◌, ℕ, zero, suc, ◌+◌, ◌-◌, Bool, true, false, not, ◌&&◌, ◌||◌, if◌then◌else◌, [], ◌∷◌, reverse, flat_map, refl, sym, ap, ◌∙◌, arith, inl, inr, ◌⊎◌}
use Rattle.stack_law.specs.Boxes.{Axis, Column, Box, Direction, turned_round, column}
use Rattle.stack_law.specs.Visits.{visits, walls}
use Rattle.stack_law.specs.Order.{rank, extent}
use Rattle.stack_law.specs.Around.{IsUnbroken}
use Rattle.stack_law.specs.Stack.{Event}
use Rattle.stack_law.specs.Passings.{over_faces}
use Rattle.stack_walks.specs.Corners.{all_corners, vertex, given_at, taken_at, by_corners, AllPass}
use Rattle.stack_walks.specs.Passing.{BoxPassing, box_passing, same_box_passing}
use Rattle.stack_walks.specs.Handing.{goes_on, came_from, ends_at, begins_at}
use Rattle.stack_walks.specs.Streams.{taken_in, given_out}
use Rattle.stack_law.specs.Walk.{IsEmpty, ClosedAreEmpty, HappensAtVisited}
use Rattle.stack_walks.specs.Grids.{is_in_grid, cells_of, IsStored, both_hold, one_holds}
use Rattle.stack_walks.specs.Instances.{lane_events, KeptVerticesUseStacks, OneGridUsesStacks, TwoGridsUseStacks, GridsAreClosed, NextWalkReadsTheOutput}
use Rattle.stack_walks.specs.Visited.{OneGridIsUnbroken, TwoGridsAreUnbroken}
use Rattle.stack_law.specs.Domain.{root}
use Rattle.stack_law.proofs.Ways.{merged_column}
use Rattle.stack_walks.proofs.Corners.{no_flat, corners_pass_along_lanes}
use Rattle.stack_walks.proofs.Vertices.{all_pass}
use Rattle.stack_law.proofs.Walk.{walk_is}
use Rattle.stack_walks.proofs.Handing.{neighbours_tell_the_run}
use Rattle.stack_walks.proofs.GivenCorners.{passings_decided, corner_lanes_hold_the_rest}
use Rattle.stack_walks.proofs.Streams.{output_turned_is_input}

-- what happens at kept corners happens at visited cells
module _ (dir : Direction) (axis : ℕ → Axis) (splits : ℕ) (visited kept : ℕ → Box → Bool) where
  pub corners_quiet : HappensAtVisited (Event BoxPassing) (by_corners BoxPassing box_passing (goes_on dir axis splits visited kept) (came_from dir axis splits visited kept)) visited
  corners_quiet = record {
    enters = λ m b io e. no_flat (λ c. over_faces (taken_at BoxPassing box_passing (goes_on dir axis splits visited kept) (came_from dir axis splits visited kept) m b c)) (λ c. rw e refl) (reverse all_corners);
    leaves = λ m b io e. no_flat (λ c. over_faces (given_at BoxPassing box_passing (goes_on dir axis splits visited kept) (came_from dir axis splits visited kept) m b c)) (λ c. rw e refl) all_corners;
  }

  pub given_quiet : (A : Type 0) (name : ℕ → Box → A) → HappensAtVisited A (given_out A name dir axis splits visited kept) visited
  given_quiet A name = record { enters = λ m b io e. refl; leaves = λ m b io e. no_flat (λ c. if ends_at dir axis splits visited kept m b c then name m (vertex b c) ∷ [] else []) (λ c. rw e refl) all_corners }

  taken_quiet : (A : Type 0) (name : ℕ → Box → A) → HappensAtVisited A (taken_in A name dir axis splits visited kept) visited
  taken_quiet A name = record { enters = λ m b io e. no_flat (λ c. if begins_at dir axis splits visited kept m b c then name m (vertex b c) ∷ [] else []) (λ c. rw e refl) (reverse all_corners); leaves = λ m b io e. refl }

pub kept_vertices_use_stacks : KeptVerticesUseStacks
kept_vertices_use_stacks dir axis is_cell splits visited is_open kept unbroken closed =
    record {
      emptied = rw same (corners_pass_along_lanes BoxPassing same_box_passing passings_decided.reflexive dir axis is_cell splits box_passing (goes_on dir axis splits visited kept) (came_from dir axis splits visited kept) pass);
      moments = λ done todo e. corner_lanes_hold_the_rest dir axis is_cell splits (goes_on dir axis splits visited kept) (came_from dir axis splits visited kept) pass done todo (sym same ∙ e);
    }
  where
    pass : AllPass dir axis is_cell splits (goes_on dir axis splits visited kept) (came_from dir axis splits visited kept)
    pass = all_pass dir axis is_cell splits visited kept (goes_on dir axis splits visited kept) (came_from dir axis splits visited kept) (neighbours_tell_the_run dir axis is_cell splits visited kept unbroken)

    same : lane_events dir axis is_cell splits visited is_open kept ≡ flat_map (by_corners BoxPassing box_passing (goes_on dir axis splits visited kept) (came_from dir axis splits visited kept)) (visits dir axis is_cell splits root walls)
    same = walk_is dir axis is_cell (Event BoxPassing) (by_corners BoxPassing box_passing (goes_on dir axis splits visited kept) (came_from dir axis splits visited kept)) visited is_open (corners_quiet dir axis splits visited kept) splits closed splits root walls (omega arith)

-- round a stored vertex nothing is missing
stored_unbroken : (place : Box → ℕ) (bound : Axis → ℕ) (visited : Box → Bool) (v : Box) → IsStored bound visited v → IsUnbroken place bound visited v
stored_unbroken place bound visited v stored a b c va vb inside touching l k = stored c inside touching

either : (a b : Bool) → (a ≡ true) ⊎ (b ≡ true) → (a || b) ≡ true
either true b h = refl
either false true h = refl
either false false (inl e) = e
either false false (inr e) = e

neither : (a b : Bool) → a ≡ false → b ≡ false → (a || b) ≡ false
neither a b e f = rw (e, f) refl

not_one : (a b : Bool) → (a || b) ≡ false → (a ≡ false) × (b ≡ false)
not_one true b e = absurd (cc)
not_one false b e = (refl, e)

not_left : (a b : Bool) → a ≡ false → (a && b) ≡ false
not_left a b e = rw e refl

not_right : (a b : Bool) → b ≡ false → (a && b) ≡ false
not_right true b e = e
not_right false b e = refl

pub not_two : (a b : Bool) → (a && b) ≡ false → (a ≡ false) ⊎ (b ≡ false)
not_two true b e = inr e
not_two false b e = inl refl

-- empty boxes
module _ (axis : ℕ → Axis) (is_cell : ℕ → Bool) where
  empty_both : (f g : ℕ → Box → Bool) (m : ℕ) (b : Box) → IsEmpty axis is_cell f m b → IsEmpty axis is_cell g m b → IsEmpty axis is_cell (one_holds f g) m b
  empty_both f g zero b e h = (λ c. neither (f zero b) (g zero b) (e c) (h c))
  empty_both f g (suc m) b e h = ((λ c. neither (f (suc m) b) (g (suc m) b) (e.0 c) (h.0 c)), (λ k. empty_both f g m (column (axis (suc m)) k b) (e.1 k) (h.1 k)))

  pub empty_left : (f g : ℕ → Box → Bool) (m : ℕ) (b : Box) → IsEmpty axis is_cell f m b → IsEmpty axis is_cell (both_hold f g) m b
  empty_left f g zero b e = (λ c. not_left (f zero b) (g zero b) (e c))
  empty_left f g (suc m) b e = ((λ c. not_left (f (suc m) b) (g (suc m) b) (e.0 c)), (λ k. empty_left f g m (column (axis (suc m)) k b) (e.1 k)))

  pub empty_right : (f g : ℕ → Box → Bool) (m : ℕ) (b : Box) → IsEmpty axis is_cell g m b → IsEmpty axis is_cell (both_hold f g) m b
  empty_right f g zero b e = (λ c. not_right (f zero b) (g zero b) (e c))
  empty_right f g (suc m) b e = ((λ c. not_right (f (suc m) b) (g (suc m) b) (e.0 c)), (λ k. empty_right f g m (column (axis (suc m)) k b) (e.1 k)))

  module _ (splits : ℕ) (refined : ℕ → Box → Bool) where
    part_of : (n m : ℕ) (k : Column) (b : Box) → is_in_grid axis is_cell refined (suc n) m (column (axis (suc m)) k b) ≡ (is_in_grid axis is_cell refined n (suc m) b && (not (is_cell (suc m)) || refined (suc m) b))
    part_of n m k b = rw (merged_column (axis (suc m)) k b) refl

    empty_below : (m n : ℕ) (b : Box) → n + m ≡ splits → is_in_grid axis is_cell refined n m b ≡ false → IsEmpty axis is_cell (cells_of axis is_cell splits refined) m b
    empty_below zero n b e f = (let at_n : splits - 0 ≡ n = omega arith in (λ c. rw at_n f))
    empty_below (suc m) n b e f =
        let at_n : splits - suc m ≡ n = omega arith in
        ((λ c. rw at_n f), (λ k. empty_below m (suc n) (column (axis (suc m)) k b) (omega arith) (rw (part_of n m k b, f) refl)))

    pub grid_closed : ClosedAreEmpty axis is_cell splits (cells_of axis is_cell splits refined) refined
    grid_closed m b k l cell closed =
        let n = splits - suc m in
        empty_below m (suc n) (column (axis (suc m)) k b) (omega arith) (rw (part_of n m k b, cell, closed) (not_right (is_in_grid axis is_cell refined n (suc m) b) false refl))

two_closed : (axis : ℕ → Axis) (is_cell : ℕ → Bool) (splits : ℕ) (old new : ℕ → Box → Bool) → ClosedAreEmpty axis is_cell splits (one_holds (cells_of axis is_cell splits old) (cells_of axis is_cell splits new)) (one_holds old new)
two_closed axis is_cell splits old new m b k l c e =
    let f = not_one (old (suc m) b) (new (suc m) b) e in
    empty_both axis is_cell (cells_of axis is_cell splits old) (cells_of axis is_cell splits new) m (column (axis (suc m)) k b) (grid_closed axis is_cell splits old m b k l c f.0) (grid_closed axis is_cell splits new m b k l c f.1)

pub grids_are_closed : GridsAreClosed
grids_are_closed = (grid_closed, two_closed)

pub one_grid_is_unbroken : OneGridIsUnbroken
one_grid_is_unbroken dir axis is_cell splits cells kept stored m v c l k = stored_unbroken (rank dir axis (splits - m) m) (extent axis (splits - m) m) (cells m) v (stored m v c l k)

pub two_grids_are_unbroken : TwoGridsAreUnbroken
two_grids_are_unbroken dir axis is_cell splits old new kept stored m v c l k = stored_unbroken (rank dir axis (splits - m) m) (extent axis (splits - m) m) (one_holds old new m) v (in_one (stored m v c l k))
  where
    in_one : IsStored (extent axis (splits - m) m) (old m) v ⊎ IsStored (extent axis (splits - m) m) (new m) v → IsStored (extent axis (splits - m) m) (one_holds old new m) v
    in_one (inl s) b inside touching = either (old m b) (new m b) (inl (s b inside touching))
    in_one (inr s) b inside touching = either (old m b) (new m b) (inr (s b inside touching))

pub one_grid_uses_stacks : OneGridUsesStacks
one_grid_uses_stacks dir axis is_cell splits refined kept stored =
    kept_vertices_use_stacks dir axis is_cell splits (cells_of axis is_cell splits refined) refined kept
    (one_grid_is_unbroken dir axis is_cell splits (cells_of axis is_cell splits refined) kept stored)
    (grid_closed axis is_cell splits refined)

pub two_grids_use_stacks : TwoGridsUseStacks
two_grids_use_stacks dir axis is_cell splits old new kept stored =
    kept_vertices_use_stacks dir axis is_cell splits (one_holds (cells_of axis is_cell splits old) (cells_of axis is_cell splits new)) (one_holds old new) kept
    (two_grids_are_unbroken dir axis is_cell splits (cells_of axis is_cell splits old) (cells_of axis is_cell splits new) kept stored)
    (two_closed axis is_cell splits old new)

pub next_walk_reads_the_output : (A : Type 0) → NextWalkReadsTheOutput A
next_walk_reads_the_output A name dir axis is_cell splits visited is_open visited' is_open' kept closed closed' agree =
    ap reverse (walk_is dir axis is_cell A (given_out A name dir axis splits visited kept) visited is_open (given_quiet dir axis splits visited kept A name) splits closed splits root walls (omega arith))
    ∙ output_turned_is_input A name dir axis is_cell splits visited visited' kept agree
    ∙ sym (walk_is (turned_round dir) axis is_cell A (taken_in A name (turned_round dir) axis splits visited' kept) visited' is_open' (taken_quiet (turned_round dir) axis splits visited' kept A name) splits closed' splits root walls (omega arith))
