-- What a run does that is asked for: the report of a file, or a demonstration.
use Rattle.std.specs.Prelude.{ℕ, Bool, List, Option}
use Rattle.peano_run.specs.declared.asked.Asked.{Asked}
use Rattle.peano_run.specs.declared.asked.Asked.TheVariants.{File, Demo}
use Rattle.peano_run.specs.declared.asked.Request.{Request}
use Rattle.peano_run.specs.declared.answer.Answer.{Answer}
use Rattle.volume_solver.specs.declared.any.AnySolver.{AnySolver}
use Rattle.step_driver.specs.Worlds.{Seen}
use Rattle.demonstration.specs.Demo.{demo}
use Rattle.peano_run.specs.Left.{EndsAtLast, IsLeft, LeavesBy, leaves_world}
use Rattle.peano_run.specs.Run.{ReadsBy, WritesBy, WritesText, RefusalBy}
use Rattle.peano_run.specs.Demonstrated.{IsDemoSummary, IsDemoAnswer}

-- the report of a file: what the source lost, what the sink took, and the cause of a refusal, by the answer
pub record ReportsFile (r : Request) (answer : Answer) (input rest : Option (List ℕ)) (ended : Bool)
    (before after : Option (List ℕ)) : Type 0 where
  pub reading : ReadsBy answer input rest ended
  pub output : WritesBy r answer input before after
  pub refusal : RefusalBy r answer input

-- demonstration `n`: the sink took its summary, or the first bytes of it where a write failed, and no other refusal comes but want of memory
pub record Demonstrates (n : ℕ) (answer : Answer) (before after : Option (List ℕ)) : Type 0 where
  pub output : WritesText (IsDemoSummary n) answer before after
  pub answers : IsDemoAnswer answer

-- what is done for what is asked: the report of a file, or a demonstration
abbrev pub Serves : Asked → Answer → Option (List ℕ) → Option (List ℕ) → Bool → Option (List ℕ)
    → Option (List ℕ) → Type 0
Serves (File r) answer input rest ended before after =
    ReportsFile r answer input rest ended before after
Serves (Demo n trees workers) answer input rest ended before after =
    Demonstrates n answer before after

-- the world that is left of what is asked: of a file's plan, or of a demonstration's
abbrev pub Leaves : Asked → Answer → Option (List ℕ) → Option (Seen AnySolver) → Type 0
Leaves (File r) answer input = LeavesBy r answer input
Leaves (Demo n trees workers) answer input =
    IsLeft (EndsAtLast trees (demo n)) (leaves_world answer)
