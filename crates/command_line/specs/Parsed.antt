-- What the parse of the words leaves, in the words of the crate that parses them.
use Rattle.std.specs.Prelude.{◌≡◌, ◌≢◌, List, [], Option, Some, Result, Ok, Err, codes, true, option_map}
use Rattle.clap.specs.Walk.{Rule, Text, first_of}
use Rattle.clap.specs.Simple.{App, new_app, new_rule, with_rule, on_top, matches_of}
use Rattle.clap.specs.Faults.{fault_of}
use Rattle.clap.specs.declared.builder.action.ArgAction.TheVariants.{Set}
use Rattle.std.specs.Borrow.{Bor}
use Rattle.command_line.specs.declared.reading.Texts.{Texts}
use Rattle.command_line.specs.declared.words.Words.{Words}
use Rattle.command_line.specs.CommandLine.{Sets}
use Rattle.command_line.specs.declared.words.WordsFault.{WordsFault}
use Rattle.command_line.specs.declared.words.WordsFault.TheVariants.{Usage, NoMemory}

-- an option with one value
abbrev pub option_rule : Text → Rule
option_rule name = record (new_rule name) { long = Some name; action = Some Set }

-- a program that has no words of its own for help or its version, and whose words come without its name
abbrev pub bare_app : App
bare_app = on_top (λ s. record s { disable_version_flag = true })
    (on_top (λ s. record s { disable_help_flag = true })
    (on_top (λ s. record s { no_binary_name = true }) (new_app (codes "peano"))))

-- with its four options
abbrev pub words_app : App
words_app = with_rule
    (with_rule
    (with_rule (with_rule bare_app (option_rule (codes "trees")))
    (option_rule (codes "workers")))
    (option_rule (codes "show")))
    (option_rule (codes "demo"))

-- the first value that the parse found for an option
abbrev pub found : Text → List Text → Option Text
found name words = first_of name (matches_of words_app words)

-- the words pass the parse, and these are the texts of the four options
pub record Found (words : List Text) (t : Texts) : Type 0 where
  pub passes : fault_of words_app words ≡ []
  pub trees : option_map (λ s. s.now) t.trees ≡ found (codes "trees") words
  pub workers : option_map (λ s. s.now) t.workers ≡ found (codes "workers") words
  pub show : option_map (λ s. s.now) t.show ≡ found (codes "show") words
  pub demo : option_map (λ s. s.now) t.demo ≡ found (codes "demo") words

-- the texts that the parse found, or its refusal
abbrev pub Parses : List Text → Result Texts WordsFault → Type 0
Parses words (Ok t) = Found words t
Parses words (Err Usage) = fault_of words_app words ≢ []
Parses words (Err NoMemory) = Unit {0}

-- a text that may be there
abbrev pub text_of : Option (Bor Text) → Option Text
text_of = option_map (λ s. s.now)

-- the texts mean these settings
abbrev pub TextsSet : Texts → Words → Type 0
TextsSet t w = Sets (text_of t.trees) (text_of t.workers) (text_of t.show) (text_of t.demo) w
