-- A file has one outcome: one report, or one refusal; and a demonstration has one summary.
use Rattle.std.specs.Prelude.{◌≡◌, ◌≢◌, ◌⊎◌, ℕ, List}
use Rattle.peano_run.specs.declared.answer.Answer.{Answer}
use Rattle.peano_run.specs.declared.answer.Answer.TheVariants.{NoMemory}
use Rattle.peano_run.specs.declared.asked.Request.{Request}
use Rattle.peano_run.specs.Asked.{IsTreeCount}
use Rattle.peano_run.specs.Report.{IsReport, IsRefused}
use Rattle.peano_run.specs.Demonstrated.{IsDemoSummary}

-- a file has a report
abbrev pub HasReport : Request → List ℕ → Type 0
HasReport r bytes = (text : List ℕ) × IsReport r bytes text

-- or it is refused, and not for want of memory
abbrev pub HasRefusal : Request → List ℕ → Type 0
HasRefusal r bytes = (a : Answer) × IsRefused r bytes a × (a ≢ NoMemory)

-- one of both, for each list of bytes and each number of trees
abbrev pub EachFileHasAnOutcome : Type 0
EachFileHasAnOutcome = (r : Request) (bytes : List ℕ) → IsTreeCount r.trees
    → HasReport r bytes ⊎ HasRefusal r bytes

-- a file has at most one report, for so many trees and what is shown
abbrev pub OneReport : Type 0
OneReport = (r : Request) (bytes first second : List ℕ) → IsReport r bytes first
    → IsReport r bytes second → first ≡ second

-- a file that has a report is refused for want of memory alone
abbrev pub NoneIsBoth : Type 0
NoneIsBoth = (r : Request) (bytes text : List ℕ) (a : Answer) → IsReport r bytes text
    → IsRefused r bytes a → a ≡ NoMemory

-- a file is refused by one answer, or for want of memory
abbrev pub OneRefusal : Type 0
OneRefusal = (r : Request) (bytes : List ℕ) (a b : Answer) → IsRefused r bytes a
    → IsRefused r bytes b → (a ≡ NoMemory) ⊎ (b ≡ NoMemory) ⊎ (a ≡ b)

-- a demonstration has at most one summary
abbrev pub OneSummary : Type 0
OneSummary = (n : ℕ) (first second : List ℕ) → IsDemoSummary n first → IsDemoSummary n second
    → first ≡ second
