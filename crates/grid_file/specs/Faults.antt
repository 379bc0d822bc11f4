-- Which refusal a file gets: the least code that applies, and in that code the first place.
use Rattle.std.specs.Prelude.{ℕ, Bool, List, [], ◌∷◌, ◌++◌, Option, Some, None, if◌then◌else◌, nat_le, Result, Ok, Err, ◌≡◌}
use Rattle.std.specs.Option.{option_or}
use Rattle.grid_file.specs.declared.place.Place.{Place}
use Rattle.grid_file.specs.declared.fault.Malformed.{Malformed}
use Rattle.grid_file.specs.declared.fault.PlanFault.{PlanFault}
use Rattle.grid_file.specs.declared.fault.PlanFault.TheVariants.{Malformed as Refused}

-- a place, and whether what stands there is refused
pub record Check : Type 0 where
  pub place : Place
  pub refused : Bool

-- a code at a place, and whether it applies there
pub record Fault : Type 0 where
  pub malformed : Malformed
  pub applies : Bool

-- a place with what is refused there
abbrev pub check : Place → Bool → Check
check place refused = record { place = place; refused = refused }

-- a code at a place
abbrev pub malformed : ℕ → Place → Malformed
malformed code place = record { code = code; place = place }

-- the faults of one code, in the order of its places
abbrev pub coded : ℕ → List Check → List Fault
coded code [] = []
coded code (c ∷ cs) =
    record { malformed = malformed code c.place; applies = c.refused } ∷ coded code cs

-- a code, and what is checked for it, in order
pub record Step : Type 0 where
  pub code : ℕ
  pub checks : List Check

-- a code with its checks
abbrev pub step : ℕ → List Check → Step
step code checks = record { code = code; checks = checks }

-- the faults of some codes, one code after another
abbrev pub faults_of : List Step → List Fault
faults_of [] = []
faults_of (s ∷ ss) = coded s.code s.checks ++ faults_of ss

-- of a fault and one further on in the list: that of the smaller code, the former where the codes are equal
abbrev pub lesser : Malformed → Option Malformed → Malformed
lesser m None = m
lesser m (Some n) = if nat_le m.code n.code then m else n

-- the least code that applies, and in that code the first place
abbrev pub least : List Fault → Option Malformed
least [] = None
least (f ∷ fs) = if f.applies then Some (lesser f.malformed (least fs)) else least fs

-- the first place that is refused, with a code
abbrev pub first : ℕ → List Check → Option Malformed
first code [] = None
first code (c ∷ cs) = if c.refused then Some (malformed code c.place) else first code cs

-- the first that is refused in some codes
abbrev pub first_in : List Step → Option Malformed
first_in [] = None
first_in (s ∷ ss) = option_or (first s.code s.checks) (first_in ss)

-- a value where nothing is refused, else the refusal
abbrev pub judged : {T : Type 0} → Option Malformed → T → Result T Malformed
judged None value = Ok value
judged (Some m) value = Err m

-- a refusal is the one that is said; want of memory may come at any time
abbrev pub IsRefusal : {T : Type 0} → PlanFault → Result T Malformed → Type 0
IsRefusal fault said = (m : Malformed) → fault ≡ Refused m → said ≡ Err m

-- what is returned is what is said, unless memory ran out
abbrev pub Reads : {T : Type 0} → Result T PlanFault → Result T Malformed → Type 0
Reads (Ok value) said = said ≡ Ok value
Reads (Err fault) said = IsRefusal fault said

-- a refusal of one part of a file is the one that it may get
abbrev pub IsFault : PlanFault → Option Malformed → Type 0
IsFault fault said = (m : Malformed) → fault ≡ Refused m → said ≡ Some m

-- a part of a file gives its value where nothing is refused, else the refusal, unless memory ran out
abbrev pub Gives : {T : Type 0} → Result T PlanFault → Option Malformed → T → Type 0
Gives (Ok v) said value = (said ≡ None) × (value ≡ v)
Gives (Err fault) said value = IsFault fault said
