-- Laws: the cells round a vertex, one after another.
use Rattle.std.specs.Prelude.{ℕ, ◌≤◌, ◌⊎◌, ◌≡◌, Bool, true}
use Rattle.stack_law.specs.Boxes.{Axis, Side, Box, beyond, Direction}
use Rattle.stack_law.specs.Order.{IsInDomain, rank, extent}
use Rattle.stack_law.specs.Around.{Touches, IsLast, Follower, IsUnbroken, IsLastVisited, NextAcross, IsNext, IsCandidate}

-- Round a vertex each cell but the last is followed by a face neighbour, across a plane of the vertex: a Gray code.
abbrev pub RunsGoAcrossFaces : Type 0
RunsGoAcrossFaces = (dir : Direction) (axis : ℕ → Axis) (n m : ℕ) (v c : Box)
    → IsInDomain (extent axis n m) c → Touches v c
    → IsLast (rank dir axis n m) (extent axis n m) v c
    ⊎ Follower (rank dir axis n m) (extent axis n m) v c

-- Where the visited cells round a vertex are unbroken, each but the last is followed by a face neighbour.
abbrev pub VisitedRunsGoAcrossFaces : Type 0
VisitedRunsGoAcrossFaces =
    (dir : Direction) (axis : ℕ → Axis) (n m : ℕ) (visited : Box → Bool) (v c : Box)
    → IsUnbroken (rank dir axis n m) (extent axis n m) visited v → IsInDomain (extent axis n m) c
    → Touches v c → visited c ≡ true
    → IsLastVisited (rank dir axis n m) (extent axis n m) visited v c
    ⊎ NextAcross (rank dir axis n m) (extent axis n m) visited v c

-- To find the next of the visited cells round v, look at the neighbours of c across the planes of v: it is the least of the later ones.
abbrev pub NextIsLeastLaterNeighbour : Type 0
NextIsLeastLaterNeighbour =
    (dir : Direction) (axis : ℕ → Axis) (n m : ℕ) (visited : Box → Bool) (v c : Box)
    → IsUnbroken (rank dir axis n m) (extent axis n m) visited v → IsInDomain (extent axis n m) c
    → Touches v c → visited c ≡ true
    → (((i : Axis) (h : Side) → IsCandidate (rank dir axis n m) (extent axis n m) visited v c i h
    → ⊥)
    → IsLastVisited (rank dir axis n m) (extent axis n m) visited v c)
    × ((i : Axis) (h : Side) → IsCandidate (rank dir axis n m) (extent axis n m) visited v c i h
    → ((j : Axis) (g : Side)
    → IsCandidate (rank dir axis n m) (extent axis n m) visited v c j g
    → rank dir axis n m (beyond i h c) ≤ rank dir axis n m (beyond j g c))
    → IsNext (rank dir axis n m) (extent axis n m) visited v c (beyond i h c))
