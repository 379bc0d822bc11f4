-- When a fault may come: counts that rise at each fault, and stand still at the end of their type.
use Rattle.std.specs.Prelude.{◌≡◌, ℕ, ◌+◌, ◌-◌, ◌^◌, ◌≤◌, min, Result, Ok, Err, OnErr, OnOk}
use Rattle.peano_io.specs.declared.reading.ReadAllFault.{ReadAllFault}
use Rattle.peano_io.specs.declared.reading.ReadAllFault.TheVariants.{ReadFault, TooLong, NoMemory}

-- a u64 count after one more: it stays at its last value
abbrev pub counted : ℕ → ℕ
counted n = min (n + 1) (2 ^ 64 - 1)

-- a count of faults rose, or stands at its last value
abbrev pub Rose : ℕ → ℕ → Type 0
Rose before now = counted before ≤ now

-- the count never falls, an Err comes only where it rose, and an Ok leaves it as it was
pub record HasCause {T E : Type 0} (before now : ℕ) (result : Result T E) : Type 0 where
  pub later : before ≤ now
  pub failed : OnErr result (Rose before now)
  pub kept : OnOk result (now ≡ before)

-- a read fault comes only where the count rose, and every other answer leaves it as it was
abbrev pub OnlyReadFaultRose : {T : Type 0} → ℕ → ℕ → Result T ReadAllFault → Type 0
OnlyReadFaultRose before now (Ok bytes) = now ≡ before
OnlyReadFaultRose before now (Err ReadFault) = Rose before now
OnlyReadFaultRose before now (Err TooLong) = now ≡ before
OnlyReadFaultRose before now (Err NoMemory) = now ≡ before
