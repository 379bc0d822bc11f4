-- The answer of a run, from what reading and reporting ensure.
use Rattle.std.proofs.Common.{◌≡◌, ℕ, ◌+◌, ◌≤◌, Bool, true, false, List, [], length, Option, Some, None, Result, Ok, Err, IfOk, IfErr, subst, sym, ◌∙◌, append-nil, arith}
use Rattle.std.proofs.lemmas.Bool.{false≢true}
use Rattle.std.specs.Prelude.{⊤}
use Rattle.std.proofs.lemmas.Option.{none-some}
use Rattle.std.specs.Io.KnownBytes.{Consumes}
use Rattle.peano_io.specs.Reading.{ReadsToEnd}
use Rattle.peano_keys.specs.declared.dim.Dim.{Dim}
use Rattle.volume_solver.specs.declared.any.AnySolver.{AnySolver}
use Rattle.step_driver.specs.Worlds.{Seen}
use Rattle.peano_run.specs.declared.answer.Answer.{Answer}
use Rattle.peano_run.specs.declared.answer.Answer.TheVariants.{Done, Usage, ReadFault, TooLong, Malformed, Limit, Crowded, Overflow, WriteFault, NoMemory}
use Rattle.peano_run.specs.declared.asked.Asked.{Asked}
use Rattle.peano_run.specs.declared.asked.Asked.TheVariants.{File, Demo}
use Rattle.peano_run.specs.declared.asked.Request.{Request}
use Rattle.peano_run.specs.declared.course.Course.{Course}
use Rattle.peano_run.specs.declared.ending.Ending.{Ending}
use Rattle.peano_run.specs.Report.{IsRefused, longest_input}
use Rattle.peano_run.specs.Left.{IsLeft, leaves_world}
use Rattle.peano_run.specs.Served.{Leaves}
use Rattle.peano_run.specs.Run.{RefusalOf, NamesIn, EndsAtReport, EndsBy, ReadFaultRose, ReadsBy, IsReadWhole, LosesOf, IsEarly, Reports}

-- what a source that was read to its end lost
lost : (before after : Option (List ℕ)) (bytes : List ℕ) → ReadsToEnd before after bytes → Consumes before after bytes
lost None after bytes read = tt
lost (Some all) None bytes read = absurd (none-some [] read.1)
lost (Some all) (Some rest) bytes read = subst (λ (o : Option (List ℕ)). Consumes (Some all) o bytes) (sym read.1) (sym read.0 ∙ sym (append-nil bytes))

lost_all : (before after : Option (List ℕ)) (bytes : List ℕ) → ReadsToEnd before after bytes → length bytes ≤ longest_input → LosesOf (λ n. n ≤ longest_input + 1) before after
lost_all before after bytes read short = record { prefix = bytes; lost = lost before after bytes read; count = omega (arith, short) }

-- it was read whole
pub whole : (before after : Option (List ℕ)) (ended : Bool) (bytes : List ℕ) → ReadsToEnd before after bytes → ended ≡ true → length bytes ≤ longest_input → IsReadWhole before after ended
whole None after ended bytes read end short = end
whole (Some all) after ended bytes read end short = (end, read.1, subst (λ (b : List ℕ). length b ≤ longest_input) read.0 short)

-- a refusal of the file comes before anything is written, and no read has failed
early : (r : Request) (bytes : List ℕ) (before after : Option (List ℕ)) (ended : Bool) (faults now : ℕ) (a : Answer) → length bytes ≤ longest_input → now ≡ faults → IsReadWhole before after ended → LosesOf (λ n. n ≤ longest_input + 1) before after → IsRefused r bytes a → RefusalOf r a bytes × ReadsBy a before after ended × ReadFaultRose a faults now × IsEarly a
early r bytes before after ended faults now Done short same read lost h = absurd h
early r bytes before after ended faults now Usage short same read lost h = absurd h
early r bytes before after ended faults now ReadFault short same read lost h = absurd h
early r bytes before after ended faults now TooLong short same read lost h = absurd (omega (arith, short, h))
early r bytes before after ended faults now (Malformed code place) short same read lost h = (h, read, same, tt)
early r bytes before after ended faults now (Limit which number) short same read lost h = (h, read, same, tt)
early r bytes before after ended faults now (Crowded step cells) short same read lost h = (h, read, same, tt)
early r bytes before after ended faults now (Overflow step leaf) short same read lost h = (h, read, same, tt)
early r bytes before after ended faults now (WriteFault written) short same read lost h = absurd h
early r bytes before after ended faults now NoMemory short same read lost h = (h, lost, same, tt)

-- where the source tells nothing, nothing is said of it
untold : (dim : Dim) (a : Answer) → NamesIn dim a None
untold dim Done = tt
untold dim Usage = tt
untold dim ReadFault = tt
untold dim TooLong = tt
untold dim (Malformed code place) = tt
untold dim (Limit which number) = tt
untold dim (Crowded step cells) = tt
untold dim (Overflow step leaf) = tt
untold dim (WriteFault written) = tt
untold dim NoMemory = tt

-- but that a world is left or is not
some_left : (P : Seen AnySolver → Type 0) (b : Bool) (world : Option (Seen AnySolver)) → IsLeft P b world → IsLeft (λ w. ⊤) b world
some_left P true (Some w) h = tt
some_left P true None h = absurd h
some_left P false world h = h

-- what is said of the bytes that were read is said of those that the source had
pub reports_from : (r : Request) (before after : Option (List ℕ)) (ended : Bool) (faults now : ℕ) (bytes slice : List ℕ) (result : Result Course Ending) → ReadsToEnd before after bytes → ended ≡ true → length bytes ≤ longest_input → slice ≡ bytes → now ≡ faults → IfOk result (EndsAtReport r slice) → IfErr result (λ ending. EndsBy r ending slice) → Reports r before after ended faults now result
reports_from r None after ended faults now bytes slice (Ok course) read end short same count ok err = (end, count)
reports_from r (Some all) after ended faults now bytes slice (Ok course) read end short same count ok err = (subst (λ (b : List ℕ). EndsAtReport r b course) (same ∙ read.0) ok, whole (Some all) after ended bytes read end short, count)
reports_from r None after ended faults now bytes slice (Err ending) read end short same count ok err =
    let ends = early r slice None after ended faults now ending.answer (subst (λ (b : List ℕ). length b ≤ longest_input) (sym same) short) count (whole None after ended bytes read end short) (lost_all None after bytes read short) err.0 in
    (tt, ends.1, ends.2, ends.3, untold ending.dim ending.answer, some_left _ (leaves_world ending.answer) ending.world err.2)
reports_from r (Some all) after ended faults now bytes slice (Err ending) read end short same count ok err =
    let said = subst (EndsBy r ending) (same ∙ read.0) err in
    let ends = early r all (Some all) after ended faults now ending.answer (subst (λ (b : List ℕ). length b ≤ longest_input) read.0 short) count (whole (Some all) after ended bytes read end short) (lost_all (Some all) after bytes read short) said.0 in
    (ends.0, ends.1, ends.2, ends.3, said.1, said.2)

-- a world is left with the answers that leave one, and with no others
none_left : (P : Seen AnySolver → Type 0) (b : Bool) (world : Option (Seen AnySolver)) → b ≡ false → IsLeft P b world → world ≡ None
none_left P true world e h = absurd (false≢true (sym e))
none_left P false world e h = h

pub no_world : (asked : Asked) (a : Answer) (input : Option (List ℕ)) (world : Option (Seen AnySolver)) → Leaves asked a input world → leaves_world a ≡ false → world ≡ None
no_world (File r) a None world h e = none_left _ (leaves_world a) world e h
no_world (File r) a (Some bytes) world h e = none_left _ (leaves_world a) world e h
no_world (Demo n trees workers) a input world h e = none_left _ (leaves_world a) world e h
