-- What a write took from the front of a piece.
use Rattle.std.specs.Prelude.{ℕ, ◌≤◌, List, length, Result, IfOk}

-- at Ok at least one byte was taken, and no more than there are
abbrev pub TakesSome : {E : Type 0} → Result ℕ E → List ℕ → Type 0
TakesSome result piece = IfOk result (λ count. (1 ≤ count) × (count ≤ length piece))
