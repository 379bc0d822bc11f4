-- Which cells the trees own and share, as tests.
use Rattle.std.specs.Prelude.{◌≡◌, ◌↔◌, ◌⊎◌, ℕ, zero, suc, ◌+◌, ◌/◌, ◌<◌, ◌≤◌, Bool, true, false, not, ◌&&◌, ◌||◌, nat_le, nat_lt, List, length}
use Rattle.peano_keys.specs.declared.cell.CellKey.{CellKey}
use Rattle.peano_keys.specs.Cell.{IsCell}
use Rattle.peano_keys.specs.Grid.{Spacetree, is_refined}
use Rattle.peano_curve.specs.Order.{interval_of, centre_of, rank_of, width_of}
use Rattle.spacetree.specs.Counts.{EachOnce}
use Rattle.spacetree.specs.Leaves.{is_among}
use Rattle.curve_cuts.specs.Cuts.{Cuts, AreCuts, IsCutGrid, Held, Owns}

-- whether a tree owns a cell: its range has the cell's centre
abbrev pub owned_by : Cuts → ℕ → CellKey → Bool
owned_by k t c = nat_lt t k.trees
    && (nat_le (k.start t) (centre_of k.dim c k.depth)
    && nat_lt (centre_of k.dim c k.depth) (k.start (t + 1)))

-- whether a tree's range has a cell whole
abbrev pub is_within : Cuts → ℕ → CellKey → Bool
is_within k t c = nat_le (k.start t) (interval_of k.dim c k.depth).lo
    && nat_le (interval_of k.dim c k.depth).hi (k.start (t + 1))

-- whether one of the first trees has it whole
abbrev pub some_within : ℕ → Cuts → CellKey → Bool
some_within zero k c = false
some_within (suc t) k c = is_within k t c || some_within t k c

-- whether a cell is shared: no tree has it whole
abbrev pub shared_by : Cuts → CellKey → Bool
shared_by k c = not (some_within k.trees k c)

-- whether it is a shared cell of a grid, which are refined cells alone
abbrev pub shared_cell : Cuts → Spacetree → CellKey → Bool
shared_cell k g c = is_refined g c && shared_by k c

-- the test of owners is right
abbrev pub OwnedIsTold : Type 0
OwnedIsTold = (k : Cuts) (t : ℕ) (c : CellKey) → (owned_by k t c ≡ true) ↔ Owns k t c

-- two trees hold a cell
pub record IsHeldTwice (k : Cuts) (c : CellKey) : Type 0 where
  pub first : ℕ
  pub second : ℕ
  pub order : first < second
  pub last : second < k.trees
  pub holds_first : Held k first c
  pub holds_second : Held k second c

-- a cell is shared exactly where more than one tree holds it
abbrev pub SharedIsHeldTwice : Type 0
SharedIsHeldTwice = (k : Cuts) (c : CellKey) → AreCuts k → IsCell k.dim c → c.level ≤ k.depth
    → (shared_by k c ≡ true) ↔ IsHeldTwice k c

-- a tree that holds a cell tells by its own range whether it is shared
abbrev pub SharedByOwnRange : Type 0
SharedByOwnRange = (k : Cuts) (t : ℕ) (c : CellKey) → AreCuts k → t < k.trees → Held k t c
    → shared_by k c ≡ not (is_within k t c)

-- a cell that a tree holds and shares is one of two of its level: the one with the range's start inside, and the one with its end inside
abbrev pub SharedIsOneOfTwo : Type 0
SharedIsOneOfTwo = (k : Cuts) (t : ℕ) (c : CellKey) → AreCuts k → t < k.trees → Held k t c
    → shared_by k c ≡ true
    → (rank_of k.dim c ≡ k.start t / width_of k.dim c.level k.depth)
    ⊎ (rank_of k.dim c ≡ k.start (t + 1) / width_of k.dim c.level k.depth)

-- a shared cell of a tree: a refined cell that it holds, and another tree too
pub record IsSharedCell (k : Cuts) (g : Spacetree) (t : ℕ) (c : CellKey) : Type 0 where
  pub refined : is_refined g c ≡ true
  pub held : Held k t c
  pub shared : shared_by k c ≡ true

-- of three shared cells of a tree on one level two are the same
abbrev pub AtMostTwoShared : Type 0
AtMostTwoShared = (k : Cuts) (g : Spacetree) (t : ℕ) (a b c : CellKey) → IsCutGrid k g
    → t < k.trees → a.level ≡ b.level → b.level ≡ c.level
    → IsSharedCell k g t a → IsSharedCell k g t b → IsSharedCell k g t c
    → (a ≡ b) ⊎ ((b ≡ c) ⊎ (a ≡ c))

-- so a tree has at most 24 of them, and as many partials
abbrev pub PartialsAreFew : Type 0
PartialsAreFew = (k : Cuts) (g : Spacetree) (t : ℕ) (cells : List CellKey) → IsCutGrid k g
    → t < k.trees → EachOnce cells
    → ((c : CellKey) → is_among cells c ≡ true → IsSharedCell k g t c) → length cells ≤ 24
