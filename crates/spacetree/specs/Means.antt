-- The sums that give the value of a refined cell: one for each of the four components that a state may have.
use Rattle.std.specs.Prelude.{ℕ, ℤ, pos, ◌*ℤ◌, ◌+ℤ◌, ◌^◌, ◌<◌}
use Rattle.std.specs.Int.RustNames.{unsigned_abs}
use Rattle.peano_keys.specs.declared.cell.CellKey.{CellKey}
use Rattle.peano_keys.specs.declared.state.State.{State}
use Rattle.peano_keys.specs.State.{value_at}
use Rattle.peano_keys.specs.Grid.{Spacetree}
use Rattle.peano_keys.specs.Sums.{leaf_sum}
use Rattle.peano_keys.specs.Field.{States, component_of}
use Rattle.cell_sums.specs.Bounds.{WeighsBetween, least_word, greatest_word}
use Rattle.spacetree.specs.declared.means.FourSums.{FourSums}

-- four numbers by component
abbrev pub by_component : (ℕ → ℤ) → FourSums
by_component m = record { first = m 0; second = m 1; third = m 2; fourth = m 3 }

-- the values of a state, each times a weight; a component that the state does not have is 0
abbrev pub state_sums : State → ℕ → FourSums
state_sums s w = by_component (λ i. value_at s i *ℤ pos w)

-- the sums of the components of a field over the leaves below a cell so many levels above the depth
abbrev pub field_sums : Spacetree → States → ℕ → CellKey → FourSums
field_sums t f levels c = by_component (λ i. leaf_sum t (component_of f i) levels c)

-- two sums for each component, added
abbrev pub added : FourSums → FourSums → FourSums
added a b = record {
  first = a.first +ℤ b.first;
  second = a.second +ℤ b.second;
  third = a.third +ℤ b.third;
  fourth = a.fourth +ℤ b.fourth;
}

-- all four are sums of numbers of 64 bits, which weigh so much
pub record AreSums (w : ℕ) (s : FourSums) : Type 0 where
  pub first : WeighsBetween least_word greatest_word w s.first
  pub second : WeighsBetween least_word greatest_word w s.second
  pub third : WeighsBetween least_word greatest_word w s.third
  pub fourth : WeighsBetween least_word greatest_word w s.fourth

-- and all four can be added to others
pub record AreSmall (s : FourSums) : Type 0 where
  pub first : unsigned_abs s.first < 2 ^ 126
  pub second : unsigned_abs s.second < 2 ^ 126
  pub third : unsigned_abs s.third < 2 ^ 126
  pub fourth : unsigned_abs s.fourth < 2 ^ 126
