-- Laws: the walk, its order and its faces.
use Rattle.std.specs.Prelude.{ℕ, ◌≤◌, suc, map, reverse, ◌∷◌, ◌+◌, ◌*◌, ◌^◌, ◌-◌, ◌%◌, ◌≡◌, Bool, true, List, [], ◌++◌, flat_map, if◌then◌else◌}
use Rattle.std.specs.List.{AllByRecursion}
use Rattle.stack_law.specs.Boxes.{Axis, Box, Direction, forward, turned_round, first, second, third}
use Rattle.stack_law.specs.Visits.{Faces, Visit, enter, leave, visits, walls}
use Rattle.stack_law.specs.Order.{IsRightVisit, IsInDomain, rank, extent}
use Rattle.stack_law.specs.Once.{IsAscending, IsIn, entered_at, left_at}
use Rattle.stack_law.specs.Walk.{walk, HappensAtVisited, ClosedAreEmpty}
use Rattle.stack_law.specs.Children.{Turn, in_turn, child_two, child_three, turned_visit}
use Rattle.stack_law.specs.Digits.{rank_two, rank_three}
use Rattle.stack_law.specs.Domain.{root, cell_in, axis_in}

-- A face is entered where the neighbour across it comes before, left where it comes after, and a wall where there is none.
abbrev pub WaysFollowTheOrder : Type 0
WaysFollowTheOrder = (dir : Direction) (axis : ℕ → Axis) (is_cell : ℕ → Bool) (splits : ℕ)
    → AllByRecursion (IsRightVisit dir axis is_cell splits)
    (visits dir axis is_cell splits root walls)

-- The place of a cell of level l, by d splits for each level, is its rank by digits.
abbrev pub RanksAreOfDigits : Type 0
RanksAreOfDigits =
    ((l k x0 x1 : ℕ)
    → rank forward (axis_in 2) (2 * l) (2 * k) (record { x0 = x0; x1 = x1; x2 = 0 })
    ≡ rank_two l x0 x1)
    × ((l k x0 x1 x2 : ℕ)
    → rank forward (axis_in 3) (3 * l) (3 * k) (record { x0 = x0; x1 = x1; x2 = x2 })
    ≡ rank_three l x0 x1 x2)

-- A level has three times as many cells along each axis as the level above; in the plane there is one along the third.
abbrev pub ExtentsArePowers : Type 0
ExtentsArePowers =
    ((l k : ℕ)
    → extent (axis_in 2) (2 * l) (2 * k) first ≡ 3 ^ l
    × extent (axis_in 2) (2 * l) (2 * k) second ≡ 3 ^ l
    × extent (axis_in 2) (2 * l) (2 * k) third ≡ 1)
    × ((l k : ℕ) (i : Axis) → extent (axis_in 3) (3 * l) (3 * k) i ≡ 3 ^ l)

-- Cells of one level have different ranks.
abbrev pub RanksTellCellsApart : Type 0
RanksTellCellsApart = (dir : Direction) (axis : ℕ → Axis) (n m : ℕ) (b c : Box)
    → IsInDomain (extent axis n m) b → IsInDomain (extent axis n m) c
    → rank dir axis n m b ≡ rank dir axis n m c → b ≡ c

-- Backward, places are counted from the other end.
abbrev pub BackwardIsReversed : Type 0
BackwardIsReversed = (dir : Direction) (axis : ℕ → Axis) (n m : ℕ) (b : Box)
    → rank dir axis n m b + rank (turned_round dir) axis n m b + 1 ≡ 3 ^ n

-- A backward walk is a forward one reversed, with enters and leaves exchanged.
abbrev pub BackwardWalkIsReversed : Type 0
BackwardWalkIsReversed = (dir : Direction) (axis : ℕ → Axis) (is_cell : ℕ → Bool) (splits : ℕ)
    → visits (turned_round dir) axis is_cell splits root walls
    ≡ reverse (map turned_visit (visits dir axis is_cell splits root walls))

-- A cell is entered, then its children are walked by the digits that the curve counts, then it is left.
abbrev pub ChildrenInTurn : Type 0
ChildrenInTurn =
    ((m : ℕ) (b : Box) (io : Faces) → m % 2 ≡ 0 → b.x2 ≡ 0
    → (faces : Turn → Turn → Faces)
    × (visits forward (axis_in 2) (cell_in 2) (suc (suc m)) b io
    ≡ enter (suc (suc m)) b io
    ∷ (in_turn
    (λ s. in_turn
    (λ t. visits forward (axis_in 2) (cell_in 2) m (child_two b s t)
    (faces s t)))
    ++ (leave (suc (suc m)) b io ∷ []))))
    × ((m : ℕ) (b : Box) (io : Faces) → m % 3 ≡ 0
    → (faces : Turn → Turn → Turn → Faces)
    × (visits forward (axis_in 3) (cell_in 3) (suc (suc (suc m))) b io
    ≡ enter (suc (suc (suc m))) b io
    ∷ (in_turn
    (λ s. in_turn
    (λ t. in_turn
    (λ u. visits forward (axis_in 3) (cell_in 3) m (child_three b s t u)
    (faces s t u))))
    ++ (leave (suc (suc (suc m))) b io ∷ []))))

-- Of a walk of some cells: a cell is entered, then, where it is open, its children are walked by the digits that the curve counts, then it is
-- left; a cell that is not visited is neither entered nor left.
abbrev pub VisitedChildrenInTurn : Type 0
VisitedChildrenInTurn =
    ((visited is_open : ℕ → Box → Bool) (m : ℕ) (b : Box) (io : Faces) → m % 2 ≡ 0 → b.x2 ≡ 0
    → (faces : Turn → Turn → Faces)
    × (walk forward (axis_in 2) (cell_in 2) visited is_open (suc (suc m)) b io
    ≡ (if visited (suc (suc m)) b then enter (suc (suc m)) b io ∷ [] else [])
    ++ ((if is_open (suc (suc m)) b
    then in_turn
    (λ s. in_turn
    (λ t. walk forward (axis_in 2) (cell_in 2) visited is_open m
    (child_two b s t) (faces s t)))
    else [])
    ++ (if visited (suc (suc m)) b then leave (suc (suc m)) b io ∷ []
    else []))))
    × ((visited is_open : ℕ → Box → Bool) (m : ℕ) (b : Box) (io : Faces) → m % 3 ≡ 0
    → (faces : Turn → Turn → Turn → Faces)
    × (walk forward (axis_in 3) (cell_in 3) visited is_open (suc (suc (suc m))) b io
    ≡ (if visited (suc (suc (suc m))) b then enter (suc (suc (suc m))) b io ∷ []
    else [])
    ++ ((if is_open (suc (suc (suc m))) b
    then in_turn
    (λ s. in_turn
    (λ t. in_turn
    (λ u. walk forward (axis_in 3) (cell_in 3) visited is_open m
    (child_three b s t u) (faces s t u))))
    else [])
    ++ (if visited (suc (suc (suc m))) b
    then leave (suc (suc (suc m))) b io ∷ [] else []))))

-- A walk of some cells the other way is the same walk reversed, with enters and leaves exchanged.
abbrev pub BackwardWalkOfVisited : Type 0
BackwardWalkOfVisited = (dir : Direction) (axis : ℕ → Axis) (is_cell : ℕ → Bool)
    (visited is_open : ℕ → Box → Bool) (splits : ℕ)
    → walk (turned_round dir) axis is_cell visited is_open splits root walls
    ≡ reverse (map turned_visit (walk dir axis is_cell visited is_open splits root walls))

-- Each cell of a level is entered once and left once, in the order of the ranks.
abbrev pub EachCellOnce : Type 0
EachCellOnce = (dir : Direction) (axis : ℕ → Axis) (is_cell : ℕ → Bool) (splits k : ℕ)
    → is_cell k ≡ true → k ≤ splits
    → IsAscending (rank dir axis (splits - k) k)
    (flat_map (entered_at k) (visits dir axis is_cell splits root walls))
    × IsAscending (rank dir axis (splits - k) k)
    (flat_map (left_at k) (visits dir axis is_cell splits root walls))
    × ((c : Box) → IsInDomain (extent axis (splits - k) k) c
    → IsIn c (flat_map (entered_at k) (visits dir axis is_cell splits root walls)))
    × ((c : Box) → IsInDomain (extent axis (splits - k) k) c
    → IsIn c (flat_map (left_at k) (visits dir axis is_cell splits root walls)))

-- A walk of the visited cells, below open cells alone, does all that a walk of the full tree does, where nothing happens at other cells and
-- no visited cell lies below a closed one.
abbrev pub WalkOfVisitedDoesAll : Type 0 → Type 0
WalkOfVisitedDoesAll A = (dir : Direction) (axis : ℕ → Axis) (is_cell : ℕ → Bool) (splits : ℕ)
    (happens : Visit → List A) (visited is_open : ℕ → Box → Bool)
    → HappensAtVisited A happens visited → ClosedAreEmpty axis is_cell splits visited is_open
    → (m : ℕ) (b : Box) (io : Faces) → m ≤ splits
    → flat_map happens (walk dir axis is_cell visited is_open m b io)
    ≡ flat_map happens (visits dir axis is_cell m b io)
