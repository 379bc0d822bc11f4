-- What the solver of this crate computes: the greatest value that a leaf sees.
use Rattle.std.specs.Prelude.{◌≡◌, ℤ, int_le, List, [], ◌∷◌, Option, Some, IfSome, if◌then◌else◌}
use Rattle.std.proofs.Common.{subst}
use Rattle.peano_keys.specs.declared.dim.Dim.{Dim}
use Rattle.peano_keys.specs.declared.state.State.{State}
use Rattle.peano_keys.specs.declared.state.State.TheVariants.{Single}
use Rattle.peano_keys.specs.declared.side.Side.{Side}
use Rattle.peano_keys.specs.declared.side.Side.TheVariants.{Edge, Same, Coarse}
use Rattle.peano_keys.specs.declared.side.Sides.{Sides}
use Rattle.peano_keys.specs.State.{count_of, value_at}
use Rattle.solver_api.specs.Marks.{faces_of}

-- the greater of two values
abbrev pub greater : ℤ → ℤ → ℤ
greater u v = if int_le u v then v else u

-- the greater of a value and that across a face; at the domain's edge the value itself
abbrev pub raised : ℤ → Side → ℤ
raised u Edge = u
raised u (Same n) = greater u (value_at n 0)
raised u (Coarse n) = greater u (value_at n 0)

-- the greatest of a value and those across some faces
abbrev pub greatest : ℤ → List Side → ℤ
greatest u [] = u
greatest u (side ∷ sides) = greatest (raised u side) sides

-- the new state of a leaf: one value, the greatest of its own and those across all its faces
abbrev pub spread : Dim → State → Sides → Option State
spread dim own sides = Some (Single (greatest (value_at own 0) (faces_of dim sides)))

-- an answer has one value, where there is one
abbrev pub HasOne : Option State → Type 0
HasOne answer = IfSome answer (λ s. count_of s ≡ 1)

-- so the state that is answered has one
pub has_one : (answer : Option State) (new : State) → HasOne answer → answer ≡ Some new
    → count_of new ≡ 1
has_one answer new h e = subst HasOne e h
