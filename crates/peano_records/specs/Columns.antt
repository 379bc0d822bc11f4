-- What the columns of a record stand for.
use Rattle.std.specs.Prelude.{◌≡◌, ℕ, ℤ, pos, Bool, true, false, List, [], ◌∷◌, ◌++◌, slice_index_or}
use Rattle.peano_keys.specs.declared.state.State.{State}
use Rattle.peano_keys.specs.declared.state.State.TheVariants.{Single, Pair, Triple, Quadruple}
use Rattle.peano_keys.specs.declared.side.Mark.TheVariants.{Keep}
use Rattle.peano_records.specs.declared.slot.Slot.{Slot}
use Rattle.peano_records.specs.declared.slot.Status.TheVariants.{Unset}
use Rattle.peano_records.specs.declared.slot.Intent.TheVariants.{Stay}
use Rattle.peano_records.specs.declared.columns.Count.{Count}
use Rattle.peano_records.specs.declared.columns.Count.TheVariants.{One, Two, Three, Four}
use Rattle.peano_records.specs.declared.columns.SmallParts.{SmallParts}
use Rattle.peano_records.specs.declared.columns.Rest.{Rest}
use Rattle.peano_records.specs.declared.columns.Numbers.{Numbers}
use Rattle.peano_records.specs.declared.columns.FourSlots.{FourSlots}
use Rattle.peano_records.specs.declared.columns.Firsts.{Firsts}
use Rattle.peano_records.specs.declared.columns.Rests.{Rests}
use Rattle.peano_records.specs.declared.columns.Near.{Near}
use Rattle.peano_records.specs.declared.columns.More.{More}
use Rattle.peano_records.specs.Slots.{VertexRecord, blank}

-- the state of a first number and the rest, of which so many count
abbrev pub state_of : Count → ℤ → Rest → State
state_of One a r = Single a
state_of Two a r = Pair a r.second
state_of Three a r = Triple a r.second r.third
state_of Four a r = Quadruple a r.second r.third r.fourth

-- a state by its numbers
abbrev pub state_in : Numbers → State
state_in n = state_of n.count n.first n.rest

-- both states have one value
abbrev pub IsNarrow : SmallParts → Type 0
IsNarrow s = (s.value_count ≡ One) × (s.next_count ≡ One)

-- how many numbers count: one, unless the record has the rest
abbrev pub counted : Bool → Count → Count
counted true c = c
counted false c = One

-- one number of a state, or a slot, of which nothing is known
abbrev pub no_rests : Rests
no_rests =
    record {
      value = record { second = pos 0; third = pos 0; fourth = pos 0 };
      next = record { second = pos 0; third = pos 0; fourth = pos 0 };
    }

-- the first numbers of a slot of which nothing is known
abbrev pub no_firsts : Firsts
no_firsts = record { value = pos 0; next = pos 0 }

-- the small parts of such a slot
abbrev pub no_parts : SmallParts
no_parts =
    record { status = Unset; mark = Keep; intent = Stay; value_count = One; next_count = One }

-- four slots, and a vertex, of which nothing is known
abbrev pub no_slots : FourSlots
no_slots =
    record {
      firsts = no_firsts ∷ no_firsts ∷ no_firsts ∷ no_firsts ∷ [];
      parts = no_parts ∷ no_parts ∷ no_parts ∷ no_parts ∷ [];
    }

-- the near part of a vertex of which nothing is known
abbrev pub nowhere : Near
nowhere =
    record {
      key = record { level = 0; v = 0 ∷ 0 ∷ 0 ∷ [] };
      slots = no_slots;
      has_far = false;
      has_more = false;
    }

-- a slot by its parts and numbers; with `wide` its states may have more than one value
abbrev pub slot_by : Bool → SmallParts → Firsts → Rests → Slot
slot_by wide s first rest = record {
  status = s.status;
  value = state_of (counted wide s.value_count) first.value rest.value;
  next = state_of (counted wide s.next_count) first.next rest.next;
  mark = s.mark;
  intent = s.intent;
}

-- slot `k` of four
abbrev pub one_of : Bool → FourSlots → List Rests → ℕ → Slot
one_of wide four rests k = slot_by wide (slice_index_or four.parts k no_parts)
    (slice_index_or four.firsts k no_firsts) (slice_index_or rests k no_rests)

-- all four slots
abbrev pub four_of : Bool → FourSlots → List Rests → List Slot
four_of wide four rests = one_of wide four rests 0 ∷ one_of wide four rests 1
    ∷ one_of wide four rests 2 ∷ one_of wide four rests 3 ∷ []

-- slots 4 to 7: blank, unless the record has them
abbrev pub far_of : Bool → Bool → FourSlots → List Rests → List Slot
far_of true wide far rests = four_of wide far rests
far_of false wide far rests = blank Unset ∷ blank Unset ∷ blank Unset ∷ blank Unset ∷ []

-- the record that three columns hold
abbrev pub record_of : Near → FourSlots → More → VertexRecord
record_of near far more =
    record {
      key = near.key;
      slots = four_of near.has_more near.slots more.near
          ++ far_of near.has_far near.has_more far more.far;
    }
