-- What the parser does at one word.
use Rattle.std.proofs.Common.{◌≡◌, refl, false, List, [], ◌∷◌, ◌++◌, ℕ, codes, Option, Some, None}
use Rattle.std.specs.Prelude.{slice_get}
use Rattle.std.specs.Str.{bytes_eq, chars}
use Rattle.clap.specs.Lexer.{long_of, short_of}
use Rattle.clap.specs.Walk.{Text, Walk, Held, Row, Rule, Waiting, idle, option, walked, settled_rows, used, arg_by_long}
use Rattle.clap.specs.Simple.{built, Shape, filled}
use Rattle.clap.specs.Kinds.{Kinds, or_else}
use Rattle.clap.specs.Faults.{turn_fault, settle_fault, use_fault}
use Rattle.clap.specs.declared.error.kind.ErrorKind.TheVariants as kind
use Rattle.clap.proofs.OnLiterals.{clap_on_literals}
use Rattle.command_line.specs.CommandLine.{OptionName, trees, workers, show, demo, spelled, dashed}
use Rattle.command_line.specs.Parsed.{words_app, option_rule}

-- ---- the command as it is built

abbrev pub rule : OptionName → Rule
rule n = filled (option_rule (spelled n))

abbrev pub all_rules : List Rule
all_rules = rule trees ∷ rule workers ∷ rule show ∷ rule demo ∷ []

abbrev pub shape : Shape
shape = (built words_app).top

same_rules : shape.rules ≡ all_rules
same_rules = refl

-- ---- where the walk stands between two words

abbrev pub held : List Row → Option (Text × List Text) → Held
held rows pending = record { rows = rows; pending = pending; skip = 0 }

abbrev pub at : Waiting → Held → Walk
at waiting h = record { held = h; waiting = waiting; position = 1; is_trailing = false; stopped = None }

-- an option waits for its value
abbrev pub wants : OptionName → List Row → Walk
wants n rows = at (option (spelled n)) (held rows (Some (spelled n, [])))

abbrev pub turn : Walk → Text → Kinds
turn w word = turn_fault shape [] w word

abbrev pub next : Walk → Text → Walk
next w word = walked all_rules [] w word

abbrev pub settles : Held → Kinds
settles h = settle_fault all_rules false h

-- ---- a name

pub name_turn : (n : OptionName) (rows : List Row) (p : Option (Text × List Text)) → turn (at idle (held rows p)) (dashed n) ≡ or_else (settles (held rows p)) []
unfolding clap_on_literals
name_turn trees rows p = refl
name_turn workers rows p = refl
name_turn show rows p = refl
name_turn demo rows p = refl

pub name_next : (n : OptionName) (rows : List Row) (p : Option (Text × List Text)) → next (at idle (held rows p)) (dashed n) ≡ wants n (settled_rows all_rules p rows)
unfolding clap_on_literals
name_next trees rows p = refl
name_next workers rows p = refl
name_next show rows p = refl
name_next demo rows p = refl

-- ---- a name with its value

pub pair_turn : (n : OptionName) (v : Text) (rows : List Row) (p : Option (Text × List Text))
    → turn (at idle (held rows p)) (dashed n ++ codes "=" ++ v) ≡ or_else (or_else (settles (held rows p)) (use_fault false (rule n) (v ∷ []) (settled_rows all_rules p rows))) []
unfolding clap_on_literals
pair_turn trees v rows p = refl
pair_turn workers v rows p = refl
pair_turn show v rows p = refl
pair_turn demo v rows p = refl

pub pair_next : (n : OptionName) (v : Text) (rows : List Row) (p : Option (Text × List Text))
    → next (at idle (held rows p)) (dashed n ++ codes "=" ++ v) ≡ at idle (held (used (rule n) (v ∷ []) (settled_rows all_rules p rows)) None)
unfolding clap_on_literals
pair_next trees v rows p = refl
pair_next workers v rows p = refl
pair_next show v rows p = refl
pair_next demo v rows p = refl

-- ---- while an option waits, a name is refused

pub name_refused : (m n : OptionName) (rows : List Row) → turn (wants m rows) (dashed n) ≡ kind.InvalidValue ∷ []
unfolding clap_on_literals
name_refused trees trees rows = refl
name_refused trees workers rows = refl
name_refused trees show rows = refl
name_refused trees demo rows = refl
name_refused workers trees rows = refl
name_refused workers workers rows = refl
name_refused workers show rows = refl
name_refused workers demo rows = refl
name_refused show trees rows = refl
name_refused show workers rows = refl
name_refused show show rows = refl
name_refused show demo rows = refl
name_refused demo trees rows = refl
name_refused demo workers rows = refl
name_refused demo show rows = refl
name_refused demo demo rows = refl

pub pair_refused : (m n : OptionName) (v : Text) (rows : List Row) → turn (wants m rows) (dashed n ++ codes "=" ++ v) ≡ kind.InvalidValue ∷ []
unfolding clap_on_literals
pair_refused trees trees v rows = refl
pair_refused trees workers v rows = refl
pair_refused trees show v rows = refl
pair_refused trees demo v rows = refl
pair_refused workers trees v rows = refl
pair_refused workers workers v rows = refl
pair_refused workers show v rows = refl
pair_refused workers demo v rows = refl
pair_refused show trees v rows = refl
pair_refused show workers v rows = refl
pair_refused show show v rows = refl
pair_refused show demo v rows = refl
pair_refused demo trees v rows = refl
pair_refused demo workers v rows = refl
pair_refused demo show v rows = refl
pair_refused demo demo v rows = refl

pub wants_unsettled : (m : OptionName) (rows : List Row) → settles (held rows (Some (spelled m, []))) ≡ kind.InvalidValue ∷ []
unfolding clap_on_literals
wants_unsettled trees rows = refl
wants_unsettled workers rows = refl
wants_unsettled show rows = refl
wants_unsettled demo rows = refl

-- ---- another word

-- a word of two hyphens and a name that is none of the four
pub unknown_idle : (word : Text) (name : Text) (value : Option Text) (rows : List Row) (p : Option (Text × List Text)) → bytes_eq word (45 ∷ 45 ∷ []) ≡ false
    → long_of word ≡ Some (name, value) → arg_by_long all_rules name ≡ None → turn (at idle (held rows p)) word ≡ kind.UnknownArgument ∷ []
unfolding clap_on_literals
unknown_idle word name value rows p apart long none = rw (apart, long, none) refl

pub unknown_wants : (m : OptionName) (word : Text) (name : Text) (value : Option Text) (rows : List Row) → bytes_eq word (45 ∷ 45 ∷ []) ≡ false
    → long_of word ≡ Some (name, value) → arg_by_long all_rules name ≡ None → turn (wants m rows) word ≡ kind.UnknownArgument ∷ []
unfolding clap_on_literals
unknown_wants m word name value rows apart long none = rw (apart, long, none) refl

-- a word of one hyphen, and more after it
short_idle_at : (o : Option ℕ) (word : Text) (x : ℕ) (xs : Text) (rows : List Row) (p : Option (Text × List Text)) → bytes_eq word (45 ∷ 45 ∷ []) ≡ false
    → long_of word ≡ None → short_of word ≡ Some (x ∷ xs) → slice_get (chars (x ∷ xs)) 0 ≡ o → turn (at idle (held rows p)) word ≡ kind.UnknownArgument ∷ []
unfolding clap_on_literals
short_idle_at None word x xs rows p apart long short first = rw (apart, long, short, first) refl
short_idle_at (Some y) word x xs rows p apart long short first = rw (apart, long, short, first) refl

pub short_idle : (word : Text) (x : ℕ) (xs : Text) (rows : List Row) (p : Option (Text × List Text)) → bytes_eq word (45 ∷ 45 ∷ []) ≡ false
    → long_of word ≡ None → short_of word ≡ Some (x ∷ xs) → turn (at idle (held rows p)) word ≡ kind.UnknownArgument ∷ []
short_idle word x xs rows p apart long short = short_idle_at (slice_get (chars (x ∷ xs)) 0) word x xs rows p apart long short refl

-- a word with no hyphen before it, or a hyphen alone
pub plain_idle : (word : Text) (rows : List Row) (p : Option (Text × List Text)) → bytes_eq word (45 ∷ 45 ∷ []) ≡ false
    → long_of word ≡ None → short_of word ≡ None → turn (at idle (held rows p)) word ≡ kind.UnknownArgument ∷ []
unfolding clap_on_literals
plain_idle word rows p apart long short = rw (apart, long, short) refl

-- the word is the value of the option that waits
pub record Takes (v : Text) : Type 0 where
  pub turn_passes : (n : OptionName) (rows : List Row) → turn (wants n rows) v ≡ []
  pub next_is : (n : OptionName) (rows : List Row) → next (wants n rows) v ≡ at idle (held rows (Some (spelled n, v ∷ [])))

pub plain_turn : (v : Text) → bytes_eq v (45 ∷ 45 ∷ []) ≡ false → long_of v ≡ None → short_of v ≡ None → (n : OptionName) (rows : List Row) → turn (wants n rows) v ≡ []
unfolding clap_on_literals
plain_turn v apart long short n rows = rw (apart, long, short) refl

pub plain_next : (v : Text) → bytes_eq v (45 ∷ 45 ∷ []) ≡ false → long_of v ≡ None → short_of v ≡ None → (n : OptionName) (rows : List Row)
    → next (wants n rows) v ≡ at idle (held rows (Some (spelled n, v ∷ [])))
unfolding clap_on_literals
plain_next v apart long short trees rows = rw (apart, long, short) refl
plain_next v apart long short workers rows = rw (apart, long, short) refl
plain_next v apart long short show rows = rw (apart, long, short) refl
plain_next v apart long short demo rows = rw (apart, long, short) refl

pub plain_takes : (v : Text) → bytes_eq v (45 ∷ 45 ∷ []) ≡ false → long_of v ≡ None → short_of v ≡ None → Takes v
plain_takes v apart long short = record { turn_passes = plain_turn v apart long short; next_is = plain_next v apart long short }

-- a word of one hyphen is refused where a character follows, and else taken
pub short_wants : (m : OptionName) (v : Text) (x y : ℕ) (xs : Text) (rows : List Row) → bytes_eq v (45 ∷ 45 ∷ []) ≡ false
    → long_of v ≡ None → short_of v ≡ Some (x ∷ xs) → slice_get (chars (x ∷ xs)) 0 ≡ Some y → turn (wants m rows) v ≡ kind.UnknownArgument ∷ []
unfolding clap_on_literals
short_wants m v x y xs rows apart long short first = rw (apart, long, short, first) refl

short_turn : (v : Text) (x : ℕ) (xs : Text) → bytes_eq v (45 ∷ 45 ∷ []) ≡ false → long_of v ≡ None → short_of v ≡ Some (x ∷ xs) → slice_get (chars (x ∷ xs)) 0 ≡ None
    → (n : OptionName) (rows : List Row) → turn (wants n rows) v ≡ []
unfolding clap_on_literals
short_turn v x xs apart long short first n rows = rw (apart, long, short, first) refl

short_next : (v : Text) (x : ℕ) (xs : Text) → bytes_eq v (45 ∷ 45 ∷ []) ≡ false → long_of v ≡ None → short_of v ≡ Some (x ∷ xs) → slice_get (chars (x ∷ xs)) 0 ≡ None
    → (n : OptionName) (rows : List Row) → next (wants n rows) v ≡ at idle (held rows (Some (spelled n, v ∷ [])))
unfolding clap_on_literals
short_next v x xs apart long short first trees rows = rw (apart, long, short, first) refl
short_next v x xs apart long short first workers rows = rw (apart, long, short, first) refl
short_next v x xs apart long short first show rows = rw (apart, long, short, first) refl
short_next v x xs apart long short first demo rows = rw (apart, long, short, first) refl

pub short_takes : (v : Text) (x : ℕ) (xs : Text) → bytes_eq v (45 ∷ 45 ∷ []) ≡ false → long_of v ≡ None → short_of v ≡ Some (x ∷ xs) → slice_get (chars (x ∷ xs)) 0 ≡ None → Takes v
short_takes v x xs apart long short first =
    record { turn_passes = short_turn v x xs apart long short first; next_is = short_next v x xs apart long short first }
