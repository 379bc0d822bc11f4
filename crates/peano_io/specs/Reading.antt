-- What reading a source to its end takes from it. `None` stands for bytes that the source does not tell.
use Rattle.std.specs.Prelude.{◌≡◌, ◌↔◌, ℕ, zero, suc, ◌+◌, ◌≤◌, Bool, true, false, List, [], length, ⊤, Option, Some, None, Result, Ok, Err, IsErrOf}
use Rattle.std.specs.Io.KnownBytes.{Consumes}
use Rattle.peano_io.specs.declared.reading.ReadAllFault.{ReadAllFault}
use Rattle.peano_io.specs.declared.reading.ReadAllFault.TheVariants.{TooLong}

-- a read tells the end of the input where it moves no byte
abbrev pub tells_end : {E : Type 0} → Result ℕ E → Bool
tells_end (Ok zero) = true
tells_end (Ok (suc n)) = false
tells_end (Err e) = false

-- these are all the bytes that were left, and none is left now
abbrev pub ReadsToEnd : Option (List ℕ) → Option (List ℕ) → List ℕ → Type 0
ReadsToEnd None after bytes = ⊤
ReadsToEnd (Some all) after bytes = (bytes ≡ all) × (after ≡ Some [])

-- the source lost a prefix of at most `limit + 1` bytes, and exactly so many where the input was too long
pub record LosesPrefix {T : Type 0} (limit : ℕ) (before after : Option (List ℕ))
    (result : Result T ReadAllFault) : Type 0 where
  pub prefix : List ℕ
  pub lost : Consumes before after prefix
  pub most : length prefix ≤ limit + 1
  pub too_long : IsErrOf result TooLong ↔ (length prefix ≡ limit + 1)
