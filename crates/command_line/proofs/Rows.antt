-- The rows that the parser keeps, and the options that they stand for.
use Rattle.std.proofs.Common.{◌≡◌, ◌∙◌, refl, sym, ap, true, false, true≢false, Bool, ◌||◌, List, [], ◌∷◌, ◌++◌, Some, None, cond, fold, map, option_map, append-nil}
use Rattle.std.specs.List.{find}
use Rattle.std.specs.Str.{bytes_eq}
use Rattle.std.proofs.lemmas.Slice.Eq.{bytes_eq-Decides}
use Rattle.std.proofs.lemmas.List.Recursion.{or_push}
use Rattle.std.proofs.Math.Bool.{or-false}
use Rattle.clap.specs.Walk.{Text, Row, settled_rows, used, has_row, at_row, reading_by, with_default, first_of, more_values}
use Rattle.clap.specs.Faults.{use_fault}
use Rattle.clap.specs.declared.error.kind.ErrorKind.TheVariants as kind
use Rattle.clap.specs.declared.parser.matches.ValueSource.TheVariants.{CommandLine}
use Rattle.command_line.specs.CommandLine.{OptionName, trees, workers, show, demo, spelled, Given, value_of, IsOnce}
use Rattle.command_line.proofs.Steps.{rule, all_rules, held, settles}

-- the row of an option
abbrev pub row : Given → Row
row g = record { id = spelled g.0; values = g.1 ∷ []; count = None; source = Some CommandLine; reading = reading_by (rule g.0) }

-- ---- texts that are equal

pub same_text : (a b : Text) → bytes_eq a b ≡ true → a ≡ b
same_text a b e = (bytes_eq-Decides a b).0 e

pub equal_text : (a : Text) → bytes_eq a a ≡ true
equal_text a = (bytes_eq-Decides a a).1 refl

-- ---- one use of an option

at_row-absent : (id : Text) (change : Row → List Row) (missing rows : List Row) → has_row id rows ≡ false → at_row id change missing rows ≡ rows ++ missing
at_row-absent id change missing [] e = refl
at_row-absent id change missing (r ∷ rs) e = go (bytes_eq r.id id) refl e (at_row-absent id change missing rs)
  where
    go : (t : Bool) → bytes_eq r.id id ≡ t → (t || has_row id rs) ≡ false → (has_row id rs ≡ false → at_row id change missing rs ≡ rs ++ missing)
        → at_row id change missing (r ∷ rs) ≡ (r ∷ rs) ++ missing
    go true is f rest = absurd (true≢false f)
    go false is f rest = rw is (ap (λ xs. r ∷ xs) (rest f))

pub used_is : (n : OptionName) (v : Text) (rows : List Row) → has_row (spelled n) rows ≡ false → used (rule n) (v ∷ []) rows ≡ rows ++ row (n, v) ∷ []
used_is n v rows e = rw (at_row-absent (spelled n) (λ _. []) [] rows e, append-nil rows) (at_row-absent (spelled n) (more_values CommandLine (v ∷ [])) (row (n, v) ∷ []) rows e)

use_is : (n : OptionName) (v : Text) (rows : List Row) (t : Bool) → has_row (spelled n) rows ≡ t → use_fault false (rule n) (v ∷ []) rows ≡ cond t (kind.ArgumentConflict ∷ []) []
use_is n v rows true e = rw e refl
use_is n v rows false e = rw e refl

pub use_passes : (n : OptionName) (v : Text) (rows : List Row) → has_row (spelled n) rows ≡ false → use_fault false (rule n) (v ∷ []) rows ≡ []
use_passes n v rows e = use_is n v rows false e

pub use_was_new : (n : OptionName) (v : Text) (rows : List Row) → use_fault false (rule n) (v ∷ []) rows ≡ [] → has_row (spelled n) rows ≡ false
use_was_new n v rows e = go (has_row (spelled n) rows) refl
  where
    go : (t : Bool) → has_row (spelled n) rows ≡ t → t ≡ false
    go true is = let bad : kind.ArgumentConflict ∷ [] ≡ [] = sym (use_is n v rows true is) ∙ e in cc
    go false is = refl

-- an option whose value has just been read
pub late_settles : (n : OptionName) (v : Text) (rows : List Row) → settles (held rows (Some (spelled n, v ∷ []))) ≡ use_fault false (rule n) (v ∷ []) rows
late_settles trees v rows = refl
late_settles workers v rows = refl
late_settles show v rows = refl
late_settles demo v rows = refl

pub late_rows : (n : OptionName) (v : Text) (rows : List Row) → settled_rows all_rules (Some (spelled n, v ∷ [])) rows ≡ used (rule n) (v ∷ []) rows
late_rows trees v rows = refl
late_rows workers v rows = refl
late_rows show v rows = refl
late_rows demo v rows = refl

-- ---- after the words

no_default : (rows : List Row) (n : OptionName) → with_default rows (rule n) ≡ rows
no_default rows n = go (has_row (spelled n) rows) refl
  where
    go : (t : Bool) → has_row (spelled n) rows ≡ t → with_default rows (rule n) ≡ rows
    go true e = rw e refl
    go false e = rw e refl

pub no_defaults : (rows : List Row) → fold with_default rows all_rules ≡ rows
no_defaults rows = rw (no_default rows trees, no_default rows workers, no_default rows show, no_default rows demo) refl

-- ---- an option is given once

-- each value passes
abbrev pub EachGiven : (Text → Type 0) → List Given → Type 0
EachGiven P [] = Unit {0}
EachGiven P (g ∷ gs) = P g.1 × EachGiven P gs

-- each option is new when it comes
abbrev pub OnceFrom : List Row → List Given → Type 0
OnceFrom rows [] = Unit {0}
OnceFrom rows (g ∷ gs) = (has_row (spelled g.0) rows ≡ false) × OnceFrom (rows ++ row g ∷ []) gs

pub first_of-rows : (n : OptionName) (gs : List Given) → first_of (spelled n) (map row gs) ≡ value_of n gs
first_of-rows n [] = refl
first_of-rows n (g ∷ gs) = go (bytes_eq (spelled g.0) (spelled n)) refl (first_of-rows n gs)
  where
    go : (t : Bool) → bytes_eq (spelled g.0) (spelled n) ≡ t → first_of (spelled n) (map row gs) ≡ value_of n gs → first_of (spelled n) (map row (g ∷ gs)) ≡ value_of n (g ∷ gs)
    go true e rest = rw e refl
    go false e rest = rw e rest

has_row-last : (id : Text) (rows : List Row) (r : Row) → has_row id (rows ++ r ∷ []) ≡ (has_row id rows || bytes_eq r.id id)
has_row-last id rows r = or_push (has_row id) (λ r. bytes_eq r.id id) refl (λ _ _. refl) rows r

-- the values of options by names that are spelled alike
value_of-same : (m n : OptionName) (gs : List Given) → bytes_eq (spelled n) (spelled m) ≡ true → value_of m gs ≡ value_of n gs
value_of-same m n gs e = sym (ap (λ (t : Text). option_map (λ (g : Given). g.1) (find (λ (g : Given). bytes_eq (spelled g.0) t) gs)) (same_text (spelled n) (spelled m) e))

value_of-first : (g : Given) (gs : List Given) → value_of g.0 (g ∷ gs) ≡ Some g.1
value_of-first g gs = rw (equal_text (spelled g.0)) refl

value_of-later : (m : OptionName) (g : Given) (gs : List Given) → bytes_eq (spelled g.0) (spelled m) ≡ false → value_of m (g ∷ gs) ≡ value_of m gs
value_of-later m g gs e = rw e refl

value_of-here : (m : OptionName) (g : Given) (gs : List Given) → bytes_eq (spelled g.0) (spelled m) ≡ true → value_of m (g ∷ gs) ≡ Some g.1
value_of-here m g gs e = rw e refl

-- options that are among the rows do not come again
abbrev Leaves : List Row → List Given → Type 0
Leaves rows gs = (m : OptionName) → has_row (spelled m) rows ≡ true → value_of m gs ≡ None

leaves_more : (rows : List Row) (g : Given) (gs : List Given) → Leaves rows (g ∷ gs) → value_of g.0 gs ≡ None → Leaves (rows ++ row g ∷ []) gs
leaves_more rows g gs h none m has = go (bytes_eq (spelled g.0) (spelled m)) refl
  where
    go : (t : Bool) → bytes_eq (spelled g.0) (spelled m) ≡ t → value_of m gs ≡ None
    go true e = value_of-same m g.0 gs e ∙ none
    go false e =
        let was : has_row (spelled m) rows ≡ true = sym (or-false (has_row (spelled m) rows)) ∙ ap (λ b. has_row (spelled m) rows || b) (sym e) ∙ sym (has_row-last (spelled m) rows (row g)) ∙ has in
        sym (value_of-later m g gs e) ∙ h m was

leaves_less : (rows : List Row) (g : Given) (gs : List Given) → has_row (spelled g.0) rows ≡ false → Leaves (rows ++ row g ∷ []) gs → Leaves rows (g ∷ gs)
leaves_less rows g gs absent h m has = go (bytes_eq (spelled g.0) (spelled m)) refl
  where
    go : (t : Bool) → bytes_eq (spelled g.0) (spelled m) ≡ t → value_of m (g ∷ gs) ≡ None
    go true e = absurd (true≢false (sym has ∙ ap (λ t. has_row t rows) (sym (same_text _ _ e)) ∙ absent))
    go false e = value_of-later m g gs e ∙ h m (has_row-last (spelled m) rows (row g) ∙ ap (λ b. b || bytes_eq (spelled g.0) (spelled m)) has)

pub once_of : (rows : List Row) (gs : List Given) → OnceFrom rows gs → IsOnce gs × Leaves rows gs
once_of rows [] h = (tt, λ _ _. refl)
once_of rows (g ∷ gs) h =
    let rest = once_of (rows ++ row g ∷ []) gs h.1 in
    let last : has_row (spelled g.0) (rows ++ row g ∷ []) ≡ true =
    has_row-last (spelled g.0) rows (row g) ∙ ap (λ b. has_row (spelled g.0) rows || b) (equal_text (spelled g.0)) ∙ ap (λ b. b || true) h.0 in
    ((rest.1 g.0 last, rest.0), leaves_less rows g gs h.0 rest.1)

pub once_from : (rows : List Row) (gs : List Given) → IsOnce gs → Leaves rows gs → OnceFrom rows gs
once_from rows [] once h = tt
once_from rows (g ∷ gs) once h = (absent (has_row (spelled g.0) rows) refl, once_from (rows ++ row g ∷ []) gs once.1 (leaves_more rows g gs h once.0))
  where
    absent : (t : Bool) → has_row (spelled g.0) rows ≡ t → t ≡ false
    absent true e = let bad : Some g.1 ≡ None = sym (value_of-first g gs) ∙ h g.0 e in cc
    absent false e = refl

-- each option that is given once is the one that its name finds
pub each_value : (P : Text → Type 0) (gs : List Given) → IsOnce gs → ((m : OptionName) (v : Text) → value_of m gs ≡ Some v → P v) → EachGiven P gs
each_value P [] once h = tt
each_value P (g ∷ gs) once h = (h g.0 g.1 (value_of-first g gs), each_value P gs once.1 later)
  where
    later : (m : OptionName) (v : Text) → value_of m gs ≡ Some v → P v
    later m v e = go (bytes_eq (spelled g.0) (spelled m)) refl
      where
        go : (t : Bool) → bytes_eq (spelled g.0) (spelled m) ≡ t → P v
        go true same = let bad : Some v ≡ None = sym e ∙ value_of-same m g.0 gs same ∙ once.0 in cc
        go false same = h m v (value_of-later m g gs same ∙ e)
