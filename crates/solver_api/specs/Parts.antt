-- How many values the states have that a solver is given.
use Rattle.std.specs.Prelude.{◌≡◌, ℕ, List, slice_index_or}
use Rattle.peano_keys.specs.declared.state.State.{State}
use Rattle.peano_keys.specs.declared.side.Side.{Side}
use Rattle.peano_keys.specs.declared.side.Side.TheVariants.{Edge, Same, Coarse}
use Rattle.peano_keys.specs.declared.side.Sides.{Sides}
use Rattle.peano_keys.specs.State.{count_of}

-- the side on an axis
abbrev pub side_on : List Side → ℕ → Side
side_on sides i = slice_index_or sides i Edge

-- the state across a face, where there is one, has `n` values
abbrev pub SideHas : ℕ → Side → Type 0
SideHas n Edge = Unit {0}
SideHas n (Same s) = count_of s ≡ n
SideHas n (Coarse s) = count_of s ≡ n

-- so on each axis
pub record SidesHave (n : ℕ) (sides : List Side) : Type 0 where
  pub first : SideHas n (side_on sides 0)
  pub second : SideHas n (side_on sides 1)
  pub third : SideHas n (side_on sides 2)

-- a cell's own state and those across its faces have `n` values
pub record HaveParts (n : ℕ) (own : State) (sides : Sides) : Type 0 where
  pub itself : count_of own ≡ n
  pub low : SidesHave n sides.low
  pub high : SidesHave n sides.high
