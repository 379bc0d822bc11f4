-- Laws: a walk uses its lanes as stacks, whatever its cells pass to each other.
use Rattle.std.specs.Prelude.{ℕ, reverse, ◌<◌, ◌≡◌, Bool, true, List, [], ◌++◌, Some, flat_map}
use Rattle.stack_law.specs.Boxes.{Axis, Side, Box, low, opposite, coord, lane, beyond, Direction}
use Rattle.stack_law.specs.Visits.{Faces, entry, exit, wall, visits, walls}
use Rattle.stack_law.specs.Stack.{Event, Step, pushed, popped, without, AreDistinct, run, run_all, on_lane}
use Rattle.stack_law.specs.Passings.{passings}
use Rattle.stack_law.specs.Transfer.{transfer}
use Rattle.stack_law.specs.Domain.{root}
use Rattle.stack_law.specs.Moments.{TellsApart, IsNamed, HoldsTheRest}

-- a test that finds each item the same as itself
abbrev pub IsReflexive : (A : Type 0) → (A → A → Bool) → Type 0
IsReflexive A same = (x : A) → same x x ≡ true

-- what happens on all lanes in the subtree of a box
abbrev pub events : (A : Type 0) → (ℕ → Box → Axis → Side → List A) → Direction → (ℕ → Axis)
    → (ℕ → Bool) → ℕ → Box → Faces → List (Event A)
events A items dir axis is_cell m b io =
    flat_map (passings A items) (visits dir axis is_cell m b io)

-- A subtree on the lane of one of its box's faces: across a face that is entered it takes what the neighbour left, and nothing else;
-- across a face that is left it leaves its list on top of what was there; at a wall nothing is left.
abbrev pub SubtreesTakeAndLeave : Type 0 → Type 0
SubtreesTakeAndLeave A = (same : A → A → Bool) → IsReflexive A same
    → (items : ℕ → Box → Axis → Side → List A) (dir : Direction) (axis : ℕ → Axis)
    (is_cell : ℕ → Bool) (m : ℕ) (b : Box) (io : Faces) (i : Axis) (h : Side) (s : List A)
    → (io i h ≡ entry → (h ≡ low → 0 < coord i b)
    → run same (transfer A items dir axis is_cell m i (opposite h) (beyond i h b) ++ s)
    (on_lane (lane i h b) (events A items dir axis is_cell m b io))
    ≡ Some s)
    × (io i h ≡ exit
    → run same s (on_lane (lane i h b) (events A items dir axis is_cell m b io))
    ≡ Some (transfer A items dir axis is_cell m i h b ++ s))
    × (io i h ≡ wall
    → run same s (on_lane (lane i h b) (events A items dir axis is_cell m b io)) ≡ Some s)

-- On all lanes at once, a walk of the whole tree takes empty stacks to empty stacks: each pop finds the item that it wants.
abbrev pub LanesAreStacks : Type 0 → Type 0
LanesAreStacks A = (same : A → A → Bool) → IsReflexive A same
    → (items : ℕ → Box → Axis → Side → List A) (dir : Direction) (axis : ℕ → Axis)
    (is_cell : ℕ → Bool) (splits : ℕ)
    → run_all same (λ k. []) (events A items dir axis is_cell splits root walls) ≡ Some (λ k. [])

-- What succeeds as a whole succeeds at each moment.
abbrev pub NoPopFails : Type 0 → Type 0
NoPopFails A = (same : A → A → Bool) (stacks ends : ℕ → List A) (before after : List (Event A))
    → run_all same stacks (before ++ after) ≡ Some ends
    → (now : ℕ → List A) × (run_all same stacks before ≡ Some now)

-- At each moment a stack holds the items that were given and not taken, in the order in which they were given, where no item is given twice.
abbrev pub StacksHoldWhatWasNotTaken : Type 0 → Type 0
StacksHoldWhatWasNotTaken A = (same : A → A → Bool) → IsReflexive A same
    → ((x y : A) → same x y ≡ true → x ≡ y) → (steps : List (Step A)) (stack : List A)
    → run same [] steps ≡ Some stack → AreDistinct same (pushed steps)
    → stack ≡ reverse (without same (popped steps) (pushed steps))

-- At each moment of a walk each lane holds exactly what was given and not yet taken, in the order in which it was given.
abbrev pub LanesHoldTheRest : Type 0 → Type 0
LanesHoldTheRest A = (same : A → A → Bool) → TellsApart A same
    → (splits_of : A → ℕ) (receiver_of : A → Box) (items : ℕ → Box → Axis → Side → List A)
    → IsNamed A same splits_of receiver_of items
    → (dir : Direction) (axis : ℕ → Axis) (is_cell : ℕ → Bool) (splits : ℕ)
    (done todo : List (Event A))
    → events A items dir axis is_cell splits root walls ≡ done ++ todo → HoldsTheRest A same done
