-- States: one to four whole values.
use Rattle.std.specs.Prelude.{ℕ, ℤ, List, [], ◌∷◌, pos, slice_index_or, length, Option, Some, None}
use Rattle.peano_keys.specs.declared.state.State.{State}
use Rattle.peano_keys.specs.declared.state.State.TheVariants.{Single, Pair, Triple, Quadruple}

-- the values of a state, in order
abbrev pub values_of : State → List ℤ
values_of (Single a) = a ∷ []
values_of (Pair a b) = a ∷ b ∷ []
values_of (Triple a b c) = a ∷ b ∷ c ∷ []
values_of (Quadruple a b c d) = a ∷ b ∷ c ∷ d ∷ []

-- how many values a state has
abbrev pub count_of : State → ℕ
count_of s = length (values_of s)

-- the value of a component
abbrev pub value_at : State → ℕ → ℤ
value_at s i = slice_index_or (values_of s) i (pos 0)

-- the state of a list of values, none where it has no state's length
abbrev pub state_from : List ℤ → Option State
state_from (a ∷ []) = Some (Single a)
state_from (a ∷ b ∷ []) = Some (Pair a b)
state_from (a ∷ b ∷ c ∷ []) = Some (Triple a b c)
state_from (a ∷ b ∷ c ∷ d ∷ []) = Some (Quadruple a b c d)
state_from _ = None
