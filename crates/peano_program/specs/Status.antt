-- With what a program ends.
use Rattle.std.specs.Prelude.{◌≡◌, ◌⊎◌, ℕ, Bool, List, Option}
use Rattle.command_line.specs.CommandLine.{Text}
use Rattle.peano_run.specs.declared.asked.Asked.{Asked}
use Rattle.peano_run.specs.declared.answer.Answer.{Answer}
use Rattle.peano_run.specs.declared.answer.Answer.TheVariants.{Usage, NoMemory}
use Rattle.peano_run.specs.Texts.{status_of}
use Rattle.peano_run.specs.Asked.{Asks, AreRefused}
use Rattle.peano_run.specs.Served.{Serves}

-- The status of the answer to these words: the refusal of words that mean nothing, or the answer of a run that did what they
-- ask for with what its source had and its sink took.
pub record IsStatusOf (words : List Text) (input rest : Option (List ℕ)) (ended : Bool)
    (before after : Option (List ℕ)) (status : ℕ) : Type 0 where
  pub answer : Answer
  pub status_is : status ≡ status_of answer
  pub usage : answer ≡ Usage → AreRefused words
  pub refused : AreRefused words → (answer ≡ Usage) ⊎ (answer ≡ NoMemory)
  pub serves : (asked : Asked) → Asks words asked
      → Serves asked answer input rest ended before after

-- a program ends with that status for the words that it was started with, or for want of the memory that they take
pub data IsStatus (status : ℕ) : Type 0 where
  of_words : (words : List Text) (input rest : Option (List ℕ)) (ended : Bool)
      (before after : Option (List ℕ))
      → IsStatusOf words input rest ended before after status → IsStatus status
  of_memory : status ≡ status_of NoMemory → IsStatus status
