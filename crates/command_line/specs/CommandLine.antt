-- The command line: which lists of words are accepted, and what they mean.
use Rattle.std.specs.Prelude.{◌≡◌, ◌≢◌, ◌≤◌, ◌⊎◌, ◌+◌, ◌-◌, ◌*◌, ℕ, List, [], ◌∷◌, ◌++◌, length, Option, Some, None, codes, find, option_map, slice_get}
use Rattle.std.specs.Str.{bytes_eq}
use Rattle.command_line.specs.declared.words.ShowWhat.{ShowWhat}
use Rattle.command_line.specs.declared.words.ShowWhat.TheVariants.{Fields, Traffic, All}
use Rattle.command_line.specs.declared.words.Words.{Words}

-- a text by its bytes
abbrev pub Text : Type 0
Text = List ℕ

-- ---- which words are options

-- the options
pub data OptionName : Type 0 where
  trees : OptionName
  workers : OptionName
  show : OptionName
  demo : OptionName

-- their names
abbrev pub spelled : OptionName → Text
spelled trees = codes "trees"
spelled workers = codes "workers"
spelled show = codes "show"
spelled demo = codes "demo"

-- the name as a word, behind two hyphens
abbrev pub dashed : OptionName → Text
dashed name = codes "--" ++ spelled name

-- a name with its value
abbrev pub Given : Type 0
Given = OptionName × Text

-- A list of words reads as a list of options. An option is two words, `--name value`, where the value does not begin
-- with a hyphen (45), or one word, `--name=value`.
pub data ReadsAs : List Text → List Given → Type 0 where
  nothing : ReadsAs [] []
  two_words : (name : OptionName) (value : Text) (words : List Text) (options : List Given)
      → slice_get value 0 ≢ Some 45 → ReadsAs words options
      → ReadsAs (dashed name ∷ value ∷ words) ((name, value) ∷ options)
  one_word : (name : OptionName) (value : Text) (words : List Text) (options : List Given)
      → ReadsAs words options
      → ReadsAs ((dashed name ++ codes "=" ++ value) ∷ words) ((name, value) ∷ options)

-- the value that the first option of this name has
abbrev pub value_of : OptionName → List Given → Option Text
value_of name options =
    option_map (λ g. g.1) (find (λ g. bytes_eq (spelled g.0) (spelled name)) options)

-- no name comes twice
abbrev pub IsOnce : List Given → Type 0
IsOnce [] = Unit {0}
IsOnce (option ∷ options) = (value_of option.0 options ≡ None) × IsOnce options

-- ---- what the values mean

-- each byte is a digit, from `0` (48) to `9` (57)
abbrev pub AreDigits : Text → Type 0
AreDigits [] = Unit {0}
AreDigits (c ∷ text) = (48 ≤ c) × (c ≤ 57) × AreDigits text

-- the number that digits write when they follow those of n
abbrev pub decimal_after : ℕ → Text → ℕ
decimal_after n [] = n
decimal_after n (c ∷ text) = decimal_after (10 * n + (c - 48)) text

-- one to nineteen decimal digits write the number
pub record Writes (text : Text) (n : ℕ) : Type 0 where
  pub some : 1 ≤ length text
  pub most : length text ≤ 19
  pub digits : AreDigits text
  pub value : n ≡ decimal_after 0 text

-- the value is a number from `least` to `greatest`; where the option is left out, the number is `otherwise`
abbrev pub IsNumber : ℕ → ℕ → ℕ → Option Text → ℕ → Type 0
IsNumber otherwise least greatest None n = n ≡ otherwise
IsNumber otherwise least greatest (Some text) n = Writes text n × (least ≤ n) × (n ≤ greatest)

-- the value names what is shown; where the option is left out, the fields are
abbrev pub IsShown : Option Text → ShowWhat → Type 0
IsShown None what = what ≡ Fields
IsShown (Some text) Fields = text ≡ codes "fields"
IsShown (Some text) Traffic = text ≡ codes "traffic"
IsShown (Some text) All = text ≡ codes "all"

-- the value is the number of the demonstration that is asked for; where the option is left out, there is none
abbrev pub IsDemo : Option Text → Option ℕ → Type 0
IsDemo None asked = asked ≡ None
IsDemo (Some text) None = ⊥
IsDemo (Some text) (Some n) = Writes text n × (n ≤ 9999999999999999999)

-- the values of the four options mean these settings
pub record Sets (trees_text workers_text show_text demo_text : Option Text)
    (w : Words) : Type 0 where
  pub trees : IsNumber 1 1 64 trees_text w.trees
  pub workers : IsNumber 0 0 16 workers_text w.workers
  pub shown : IsShown show_text w.show
  pub demo : IsDemo demo_text w.demo
  pub not_both : (show_text ≡ None) ⊎ (demo_text ≡ None)

-- the words are accepted and mean these settings
pub record Means (words : List Text) (w : Words) : Type 0 where
  pub options : List Given
  pub read : ReadsAs words options
  pub once : IsOnce options
  pub sets : Sets (value_of trees options) (value_of workers options) (value_of show options)
      (value_of demo options) w

-- words mean one thing at most
abbrev pub OneMeaning : Type 0
OneMeaning = (words : List Text) (v w : Words) → Means words v → Means words w → v ≡ w
