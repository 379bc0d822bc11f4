-- What a run does to its source and its sinks, by the answer that it ends with.
use Rattle.std.specs.Prelude.{◌≡◌, ℕ, ◌+◌, ◌<◌, ◌≤◌, Bool, true, List, [], length, take, ⊤, Option, Some, None, Result, Ok, Err}
use Rattle.std.specs.Io.KnownBytes.{Consumes, Appends}
use Rattle.peano_keys.specs.declared.dim.Dim.{Dim}
use Rattle.peano_io.specs.Causes.{Rose}
use Rattle.peano_run.specs.declared.answer.Answer.{Answer}
use Rattle.peano_run.specs.declared.answer.Answer.TheVariants.{Done, Usage, ReadFault, TooLong, Overflow, WriteFault, NoMemory}
use Rattle.peano_run.specs.declared.asked.Request.{Request}
use Rattle.peano_run.specs.declared.course.Course.{Course}
use Rattle.peano_run.specs.declared.ending.Ending.{Ending}
use Rattle.peano_run.specs.Texts.{text_of}
use Rattle.peano_run.specs.Report.{IsReport, IsRefused, OfPlan, longest_input}
use Rattle.peano_run.specs.Left.{EndsAtLast, LeavesBy}

-- the source lost a prefix of so many bytes
pub record LosesOf (P : ℕ → Type 0) (before after : Option (List ℕ)) : Type 0 where
  pub prefix : List ℕ
  pub lost : Consumes before after prefix
  pub count : P (length prefix)

-- the source was read to its end, which it told, and had no more bytes than an input may have
abbrev pub IsReadWhole : Option (List ℕ) → Option (List ℕ) → Bool → Type 0
IsReadWhole None after ended = ended ≡ true
IsReadWhole (Some bytes) after ended = (ended ≡ true) × (after ≡ Some [])
    × (length bytes ≤ longest_input)

-- What the source lost: nothing where the words are refused; at a read fault no more than an input may have; one byte more where the input is too long, and at most
-- one more where memory ran out; and else all, up to the end that it told.
abbrev pub ReadsBy : Answer → Option (List ℕ) → Option (List ℕ) → Bool → Type 0
ReadsBy Usage before after ended = after ≡ before
ReadsBy ReadFault before after ended = LosesOf (λ n. n ≤ longest_input) before after
ReadsBy TooLong before after ended = LosesOf (λ n. n ≡ longest_input + 1) before after
ReadsBy NoMemory before after ended = LosesOf (λ n. n ≤ longest_input + 1) before after
ReadsBy _ before after ended = IsReadWhole before after ended

-- what the sink took: the whole text that is due, or its first bytes where a write failed, fewer than all
abbrev pub WritesText : (List ℕ → Type 0) → Answer → Option (List ℕ) → Option (List ℕ) → Type 0
WritesText IsDue Done before after = (text : List ℕ) × IsDue text × Appends before after text
WritesText IsDue (WriteFault written) before after = (text : List ℕ) × IsDue text
    × Appends before after (take written text) × (written < length text)
WritesText IsDue _ before after = ⊤

-- the report of the input is
abbrev pub WritesOf : Request → Answer → List ℕ → Option (List ℕ) → Option (List ℕ) → Type 0
WritesOf r answer bytes = WritesText (IsReport r bytes) answer

-- so where the source tells what it had
abbrev pub WritesBy : Request → Answer → Option (List ℕ) → Option (List ℕ) → Option (List ℕ)
    → Type 0
WritesBy r answer None before after = ⊤
WritesBy r answer (Some bytes) before after = WritesOf r answer bytes before after

-- on every answer but these two nothing was written
abbrev pub WritesNothing : {K : Type 0} → Answer → K → K → Type 0
WritesNothing Done before after = ⊤
WritesNothing (WriteFault written) before after = ⊤
WritesNothing _ before after = after ≡ before

-- each refusal of the file itself has its cause in the bytes
abbrev pub RefusalOf : Request → Answer → List ℕ → Type 0
RefusalOf r Done bytes = ⊤
RefusalOf r Usage bytes = ⊤
RefusalOf r ReadFault bytes = ⊤
RefusalOf r (WriteFault written) bytes = ⊤
RefusalOf r answer bytes = IsRefused r bytes answer

-- so where the source tells what it had
abbrev pub RefusalBy : Request → Answer → Option (List ℕ) → Type 0
RefusalBy r answer None = ⊤
RefusalBy r answer (Some bytes) = RefusalOf r answer bytes

-- a read fault comes only where the source's count rose, and nothing else leaves the count risen
abbrev pub ReadFaultRose : Answer → ℕ → ℕ → Type 0
ReadFaultRose ReadFault before now = Rose before now
ReadFaultRose _ before now = now ≡ before

-- a write fault comes only where the sink's count rose, and nothing else leaves the count risen
abbrev pub WriteFaultRose : Answer → ℕ → ℕ → Type 0
WriteFaultRose (WriteFault written) before now = Rose before now
WriteFaultRose _ before now = now ≡ before

-- an answer that comes before anything is written
abbrev pub IsEarly : Answer → Type 0
IsEarly Done = ⊥
IsEarly Usage = ⊥
IsEarly (WriteFault written) = ⊥
IsEarly _ = Unit {0}

-- the dimension is that in which the file's plan names a leaf, where the answer names one
abbrev pub NamesIn : Dim → Answer → Option (List ℕ) → Type 0
NamesIn dim (Overflow step leaf) (Some bytes) = OfPlan bytes (λ plan. plan.shape.dim ≡ dim)
NamesIn dim _ input = ⊤

-- what an ending of a run says of the file: its refusal has its cause, it names a leaf in the plan's dimension, and the world is the one that is left
abbrev pub EndsBy : Request → Ending → List ℕ → Type 0
EndsBy r ending bytes = IsRefused r bytes ending.answer
    × NamesIn ending.dim ending.answer (Some bytes)
    × LeavesBy r ending.answer (Some bytes) ending.world

-- a course to the end of a file's plan: it has the report, and its world is at the last grid and field
abbrev pub EndsAtReport : Request → List ℕ → Course → Type 0
EndsAtReport r bytes course = IsReport r bytes course.text.items
    × OfPlan bytes (λ plan. EndsAtLast r.trees plan course.world)

-- reading and reporting: the course to the report of the input, where the source tells it, or the answer that stands in its place
abbrev pub Reports : Request → Option (List ℕ) → Option (List ℕ) → Bool → ℕ → ℕ
    → Result Course Ending → Type 0
Reports r None after ended faults now (Ok course) = IsReadWhole None after ended × (now ≡ faults)
Reports r (Some bytes) after ended faults now (Ok course) = EndsAtReport r bytes course
    × IsReadWhole (Some bytes) after ended × (now ≡ faults)
Reports r before after ended faults now (Err ending) = RefusalBy r ending.answer before
    × ReadsBy ending.answer before after ended × ReadFaultRose ending.answer faults now
    × IsEarly ending.answer × NamesIn ending.dim ending.answer before
    × LeavesBy r ending.answer before ending.world

-- a text was written whole, or in part where the count of faults rose
pub data Tells (text : List ℕ) (before after : Option (List ℕ)) (faults now : ℕ) : Type 0 where
  whole : Appends before after text → now ≡ faults → Tells text before after faults now
  part : (written : ℕ) → Appends before after (take written text) → Rose faults now
      → Tells text before after faults now

-- an answer's text was told, where it names a leaf in the dimension of the file's plan
pub record TellsAnswer (answer : Answer) (input before after : Option (List ℕ))
    (faults now : ℕ) : Type 0 where
  pub dim : Dim
  pub named : NamesIn dim answer input
  pub told : Tells (text_of dim answer) before after faults now
