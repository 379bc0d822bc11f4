-- What became of a task: the tool by which each step is shown to keep the rule of the desk.
use Rattle.std.specs.Prelude.{◌≡◌, ◌≢◌, ℕ, ◌+◌, ◌<◌, ◌==◌, Bool, true, false, List, length, slice_index}
use mathlib.Core.Option.{some}
use lib.ListN.{get_elem?}
use Rattle.result_table.specs.declared.updates.Updates.{Ghosts}
use Rattle.result_table.specs.declared.view.View.{View}
use Rattle.result_table.specs.declared.view.Brief.{Brief}
use Rattle.result_table.specs.declared.word.Word.{Word}
use Rattle.result_table.specs.declared.word.Word.TheVariants.{Free, Taken, Published, Collected}
use Rattle.result_table.specs.Words.{code}
use Rattle.result_table.specs.Views.{has, is_number, Homes, DeskState, IsAtHome, IsResultAtHome}

-- The number is that of the seat that claimed the task. While a result is put into the slot the slot is out with that seat; where the task was collected meanwhile it stays out.
pub data Fate : Type 0 where
  unclaimed : Fate
  claimed : ℕ → Fate
  filled : ℕ → Fate
  published : ℕ → Fate
  gathered : ℕ → Fate
  idle : Fate
  busy : ℕ → Fate
  overtaken : ℕ → Fate
  late : ℕ → Fate

abbrev pub word_of : Fate → Word
word_of unclaimed = Free
word_of (claimed s) = Taken s
word_of (filled s) = Taken s
word_of (published s) = Published
word_of (gathered s) = Collected
word_of idle = Collected
word_of (busy s) = Collected
word_of (overtaken s) = Collected
word_of (late s) = Collected

-- seat i claimed it
abbrev pub claims : Fate → ℕ → Bool
claims unclaimed i = false
claims (claimed s) i = s == i
claims (filled s) i = s == i
claims (published s) i = s == i
claims (gathered s) i = s == i
claims idle i = false
claims (busy s) i = s == i
claims (overtaken s) i = s == i
claims (late s) i = s == i

-- seat i published its result
abbrev pub publishes : Fate → ℕ → Bool
publishes unclaimed i = false
publishes (claimed s) i = false
publishes (filled s) i = false
publishes (published s) i = s == i
publishes (gathered s) i = s == i
publishes idle i = false
publishes (busy s) i = false
publishes (overtaken s) i = false
publishes (late s) i = false

-- seat i is putting a result into its slot
abbrev pub fills : Fate → ℕ → Bool
fills unclaimed i = false
fills (claimed s) i = false
fills (filled s) i = s == i
fills (published s) i = false
fills (gathered s) i = false
fills idle i = false
fills (busy s) i = false
fills (overtaken s) i = s == i
fills (late s) i = false

-- seat i found it collected when it published
abbrev pub is_late : Fate → ℕ → Bool
is_late unclaimed i = false
is_late (claimed s) i = false
is_late (filled s) i = false
is_late (published s) i = false
is_late (gathered s) i = false
is_late idle i = false
is_late (busy s) i = false
is_late (overtaken s) i = false
is_late (late s) i = s == i

abbrev pub is_gathered : Fate → Bool
is_gathered unclaimed = false
is_gathered (claimed s) = false
is_gathered (filled s) = false
is_gathered (published s) = false
is_gathered (gathered s) = true
is_gathered idle = false
is_gathered (busy s) = false
is_gathered (overtaken s) = false
is_gathered (late s) = false

abbrev pub is_idle : Fate → Bool
is_idle unclaimed = false
is_idle (claimed s) = false
is_idle (filled s) = false
is_idle (published s) = false
is_idle (gathered s) = false
is_idle idle = true
is_idle (busy s) = false
is_idle (overtaken s) = false
is_idle (late s) = false

abbrev pub is_busy : Fate → Bool
is_busy unclaimed = false
is_busy (claimed s) = false
is_busy (filled s) = false
is_busy (published s) = false
is_busy (gathered s) = false
is_busy idle = false
is_busy (busy s) = true
is_busy (overtaken s) = true
is_busy (late s) = true

-- what a view says of one task
pub record Marks : Type 0 where
  pub claimed : Bool
  pub published : Bool
  pub lost : Bool
  pub late : Bool
  pub filling : Bool
  pub gathered : Bool
  pub idle : Bool
  pub busy : Bool

abbrev pub marks : {S : Type 0} → View S → ℕ → Marks
marks v k = record { claimed = has v.claimed k; published = has v.published k; lost = has v.lost k; late = has v.late k; filling = is_number v.filling k; gathered = has v.gathered k; idle = has v.idle k; busy = has v.busy k }

-- what seat i says of a task fits its fate
pub record Fits (i : ℕ) (m : Marks) (f : Fate) : Type 0 where
  pub claimed : m.claimed ≡ claims f i
  pub published : m.published ≡ publishes f i
  pub filling : m.filling ≡ fills f i
  pub late : m.late ≡ is_late f i
  pub lost : m.lost ≡ true → word_of f ≢ Free
  pub gathered : i ≡ 0 → m.gathered ≡ is_gathered f
  pub idle : i ≡ 0 → m.idle ≡ is_idle f
  pub busy : i ≡ 0 → m.busy ≡ is_busy f

-- what seat i knows fits the fates
pub record FitsSeat {S : Type 0} (solver : S) (size made : ℕ) (fate : ℕ → Fate) (i : ℕ) (v : View S) : Type 0 where
  pub number : v.number ≡ i
  pub solver_is : v.solver ≡ solver
  pub made_is : i ≡ 0 → v.made ≡ made
  pub each : (k : ℕ) → k < size → Fits i (marks v k) (fate k)

module _ {S : Type 0} {g : Ghosts S} where
  -- where the slot of a task is at home
  abbrev pub SlotOf : S → Homes S g → ℕ → Fate → Type 0
  SlotOf solver homes k unclaimed = IsAtHome homes k
  SlotOf solver homes k (claimed s) = IsAtHome homes k
  SlotOf solver homes k (filled s) = Unit {0}
  SlotOf solver homes k (published s) = IsResultAtHome solver homes k
  SlotOf solver homes k (gathered s) = Unit {0}
  SlotOf solver homes k idle = Unit {0}
  SlotOf solver homes k (busy s) = IsAtHome homes k
  SlotOf solver homes k (overtaken s) = Unit {0}
  SlotOf solver homes k (late s) = Unit {0}

  pub record FitsTask (solver : S) (words : List ℕ) (homes : Homes S g) (k : ℕ) (f : Fate) : Type 0 where
    pub word : slice_index words (k + 1) ≡ code (word_of f)
    pub slot : SlotOf solver homes k f

  pub record Keeps (b : Brief S) (s : DeskState S g) (fate : ℕ → Fate) : Type 0 where
    pub length_is : length s.words ≡ b.size + 1
    pub zero_is : slice_index s.words 0 ≡ 0
    pub some_seat : 0 < length s.views
    pub tasks : (k : ℕ) → k < b.size → FitsTask b.solver.value s.words s.homes k (fate k)
    pub known : (k t : ℕ) → claims (fate k) t ≡ true → t < length s.views
    pub seats : (i : ℕ) (v : View S) → get_elem? s.views i ≡ some v → FitsSeat b.solver.value b.size (length s.views) fate i v

  -- each task has a fate that all that is known of it fits
  abbrev pub Holds : Brief S → DeskState S g → Type 0
  Holds b s = (fate : ℕ → Fate) × Keeps b s fate
