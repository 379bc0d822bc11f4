-- What the words of a command line ask for.
use Rattle.std.specs.Prelude.{◌≡◌, ℕ, ◌≤◌, List, Option, None, Some}
use Rattle.command_line.specs.declared.words.Words.{Words}
use Rattle.command_line.specs.CommandLine.{Text, Means}
use Rattle.peano_run.specs.declared.asked.Asked.{Asked}
use Rattle.peano_run.specs.declared.asked.Asked.TheVariants.{File, Demo}
use Rattle.peano_run.specs.declared.asked.Request.{Request}

-- settings ask for a file by so many trees and workers, with what is shown of it, or for the demonstration of a number by so many
abbrev pub AsksFor : Words → Asked → Type 0
AsksFor w (File r) = (w.demo ≡ None) × (r.trees ≡ w.trees) × (r.workers ≡ w.workers)
    × (r.show ≡ w.show)
AsksFor w (Demo n trees workers) = (w.demo ≡ Some n) × (trees ≡ w.trees) × (workers ≡ w.workers)

-- so do words that mean them
pub record Asks (words : List Text) (asked : Asked) : Type 0 where
  pub settings : Words
  pub means : Means words settings
  pub asks : AsksFor settings asked

-- the words ask for nothing: they mean nothing
abbrev pub AreRefused : List Text → Type 0
AreRefused words = (asked : Asked) → ¬ Asks words asked

-- they ask for no file
abbrev pub AskForNoFile : List Text → Type 0
AskForNoFile words = (r : Request) → ¬ Asks words (File r)

-- there are 1 to 64 trees
pub record IsTreeCount (n : ℕ) : Type 0 where
  pub some : 1 ≤ n
  pub most : n ≤ 64

-- and at most 16 workers
pub record IsCrew (trees workers : ℕ) : Type 0 where
  pub trees_are : IsTreeCount trees
  pub workers_are : workers ≤ 16

-- so it is of what is asked for
abbrev pub HasCrew : Asked → Type 0
HasCrew (File r) = IsCrew r.trees r.workers
HasCrew (Demo n trees workers) = IsCrew trees workers
