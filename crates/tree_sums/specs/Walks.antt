-- Sums by level in a sweep: what a visitor that keeps one sum a level finds at the leave of a cell.
use Rattle.std.specs.Prelude.{◌≡◌, ◌≢◌, ◌⊎◌, ℕ, ◌+◌, ◌<◌, ℤ, pos, ◌+ℤ◌, true, false, List}
use Rattle.peano_keys.specs.declared.dim.Dim.{Dim}
use Rattle.peano_keys.specs.declared.cell.CellKey.{CellKey}
use Rattle.peano_keys.specs.Cell.{IsCell, IsDigits, child_of}
use Rattle.step_calls.specs.Calls.{Calls, IsVisited, IsPassedOver, AreNested}
use Rattle.peano_keys.specs.Sums.{over_children}

-- one sum a level: an enter clears that of the level below, a leave adds what it tells to that of its own level, and all others stay
pub record Accumulates (s : Calls) (told : ℕ → ℤ) (sums : ℕ → ℕ → ℤ) : Type 0 where
  pub clear : (m : ℕ) → m < s.count → s.leaving m ≡ false
      → sums (m + 1) ((s.cell m).level + 1) ≡ pos 0
  pub add : (m : ℕ) → m < s.count → s.leaving m ≡ true
      → sums (m + 1) (s.cell m).level ≡ sums m (s.cell m).level +ℤ told m
  pub kept_entering : (m l : ℕ) → m < s.count → s.leaving m ≡ false → l ≢ (s.cell m).level + 1
      → sums (m + 1) l ≡ sums m l
  pub kept_leaving : (m l : ℕ) → m < s.count → s.leaving m ≡ true → l ≢ (s.cell m).level
      → sums (m + 1) l ≡ sums m l

-- a cell is visited between two calls, and tells a number at its leave
pub record TellsOnce (s : Calls) (told : ℕ → ℤ) (after before : ℕ) (x : ℤ)
    (q : CellKey) : Type 0 where
  pub enter : ℕ
  pub leave : ℕ
  pub visited : IsVisited s q enter leave
  pub later : after < enter
  pub earlier : leave < before
  pub value : told leave ≡ x

-- or it is passed over, and its number is 0
pub record TellsNothing (s : Calls) (x : ℤ) (q : CellKey) : Type 0 where
  pub passed : IsPassedOver s q
  pub value : x ≡ pos 0

-- where each child of a cell does one of these, the sum of the level below is at the cell's leave that over its children
abbrev pub WalkSumsChildren : Type 0
WalkSumsChildren = (dim : Dim) (s : Calls) (told : ℕ → ℤ) (sums : ℕ → ℕ → ℤ) (x : CellKey → ℤ)
    (p : CellKey) (enter leave : ℕ)
    → ((m : ℕ) → m < s.count → IsCell dim (s.cell m)) → AreNested s → Accumulates s told sums
    → IsVisited s p enter leave
    → ((k : List ℕ) → IsDigits dim k
    → TellsOnce s told enter leave (x (child_of p k)) (child_of p k)
    ⊎ TellsNothing s (x (child_of p k)) (child_of p k))
    → sums leave (p.level + 1) ≡ over_children dim (λ k. x (child_of p k))
