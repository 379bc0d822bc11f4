-- The parser passes exactly the words that read as options, each given once, and finds their values.
use Rattle.std.proofs.Common.{◌≡◌, ◌⊎◌, inl, inr, ◌≢◌, ◌∙◌, ◌≤◌, refl, sym, ap, subst, true, false, true≢false, Bool, ◌||◌, ◌==◌, List, [], ◌∷◌, ◌++◌, ℕ, codes, Option, Some, None, map, arith, Result, Ok, Err, IsErrAnd, IfOk, string_bytes, String, Global}
use Rattle.std.specs.List.{list_any}
use Rattle.std.specs.Prelude.{slice_get}
use Rattle.std.specs.Str.{bytes_eq}
use Rattle.std.specs.Option.{option_map_or}
use Rattle.std.proofs.lemmas.Bool.{or_from}
use Rattle.clap.specs.Walk.{Text, Row, idle, first_of, has_row, settled, with_default, finished}
use Rattle.clap.specs.Simple.{built}
use Rattle.clap.specs.Kinds.{Kinds, or_else}
use Rattle.clap.specs.Faults.{fault_of, entered_fault, default_fault, defaults_fault, check_fault}
use Rattle.clap.proofs.OnLiterals.{clap_on_literals}
use Rattle.command_line.specs.declared.words.ShowWhat.{ShowWhat}
use Rattle.command_line.specs.declared.words.ShowWhat.TheVariants.{Fields, Traffic, All}
use Rattle.command_line.specs.declared.words.Words.{Words}
use Rattle.command_line.specs.declared.reading.Texts.{Texts}
use Rattle.command_line.specs.declared.words.WordsFault.{WordsFault}
use Rattle.command_line.specs.declared.words.WordsFault.TheVariants.{Usage, NoMemory}
use Rattle.command_line.specs.CommandLine.{OptionName, trees, workers, show, demo, spelled, dashed, Given, ReadsAs, nothing, two_words, one_word, value_of, IsOnce, Writes, IsNumber, IsShown, IsDemo, Sets, Means, OneMeaning}
use Rattle.command_line.specs.Parsed.{words_app, found, Found, TextsSet, Parses}
use Rattle.command_line.proofs.Steps.{all_rules, at, held, rule, shape, settles, plain_takes}
use Rattle.command_line.proofs.Rows.{no_defaults, first_of-rows, once_of, once_from, EachGiven, each_value, equal_text}
use Rattle.command_line.proofs.Looks.{bare_is_plain}
use Rattle.command_line.proofs.Walks as walks
use Rattle.command_line.proofs.Walks.{Fits, IsRead, Passes, Runs, faults, walk_on, both_none, runs, back, ready}

-- ---- the whole parse

or_none : (a b : Kinds) → a ≡ [] → b ≡ [] → or_else a b ≡ []
or_none a b e f = ap (λ k. or_else k b) e ∙ f

no_subcommand : (stop : Option (Text × List Text)) → entered_fault (built words_app) stop ≡ []
no_subcommand None = refl
no_subcommand (Some p) = refl

default_none : (rows : List Row) (n : OptionName) → default_fault rows (rule n) ≡ []
default_none rows n = go (has_row (spelled n) rows) refl
  where
    go : (t : Bool) → has_row (spelled n) rows ≡ t → default_fault rows (rule n) ≡ []
    go true e = rw e refl
    go false e = rw e refl

defaults_none : (rows : List Row) → defaults_fault rows all_rules ≡ []
unfolding clap_on_literals
defaults_none rows =
    let one = with_default rows (rule trees) in
    let two = with_default one (rule workers) in
    let three = with_default two (rule show) in
    or_none _ _ (default_none rows trees) (or_none _ _ (default_none one workers) (or_none _ _ (default_none two show) (or_none _ _ (default_none three demo) refl)))

check_none : (rows : List Row) (b : Bool) → check_fault shape rows b ≡ []
check_none rows true = refl
check_none rows false = refl

passes_whole : (words : List Text) → fault_of words_app words ≡ [] → Passes (at idle (held [] None)) words
passes_whole words e =
    let walk = both_none (faults (at idle (held [] None)) words) _ e in
    let below = both_none _ _ walk.1 in
    record { passes = walk.0; ends = (both_none (settles (walk_on (at idle (held [] None)) words).held) _ below.1).0 }

whole_passes : (words : List Text) → Passes (at idle (held [] None)) words → fault_of words_app words ≡ []
whole_passes words h =
    let rows = finished all_rules (walk_on (at idle (held [] None)) words).held in
    or_none _ _ h.passes (or_none _ _ (no_subcommand _) (or_none _ _ h.ends (or_none _ _ (defaults_none _) (check_none rows _))))

found_values : (words : List Text) (gs : List Given) → Runs words [] None gs → (n : OptionName) → found (spelled n) words ≡ value_of n gs
found_values words gs run n = ap (first_of (spelled n)) (no_defaults (settled all_rules (walk_on (at idle (held [] None)) words).held).rows ∙ run.rows_are) ∙ first_of-rows n gs

-- ---- words that read as options pass

fits_of : (words : List Text) (gs : List Given) → ReadsAs words gs → Fits words gs
fits_of _ _ nothing = walks.nothing
fits_of _ _ (two_words n v words gs bare read) =
    let p = bare_is_plain v bare in walks.two_words n v words gs (plain_takes v p.0 p.1 p.2) (fits_of words gs read)
fits_of _ _ (one_word n v words gs read) = walks.one_word n v words gs (fits_of words gs read)

name_is_none : (n : OptionName) → bytes_eq (dashed n) (45 ∷ 45 ∷ []) ≡ false
name_is_none trees = refl
name_is_none workers = refl
name_is_none show = refl
name_is_none demo = refl

pair_is_none : (n : OptionName) (v : Text) → bytes_eq (dashed n ++ codes "=" ++ v) (45 ∷ 45 ∷ []) ≡ false
pair_is_none trees v = refl
pair_is_none workers v = refl
pair_is_none show v = refl
pair_is_none demo v = refl

no_hyphens : (words : List Text) (gs : List Given) → ReadsAs words gs → list_any (λ w. bytes_eq w (45 ∷ 45 ∷ [])) words ≡ false
no_hyphens _ _ nothing = refl
no_hyphens _ _ (two_words n v words gs bare read) = or_from _ _ (name_is_none n) (or_from _ _ (bare_is_plain v bare).0 (no_hyphens words gs read))
no_hyphens _ _ (one_word n v words gs read) = or_from _ _ (pair_is_none n v) (no_hyphens words gs read)

runs_of : (words : List Text) (gs : List Given) → Fits words gs → IsOnce gs → Runs words [] None gs
runs_of words gs fits once = runs words gs fits [] None refl (once_from [] gs once (λ m has. absurd (true≢false (sym has))))

pub means_no_hyphens : (words : List Text) (w : Words) → Means words w → list_any (λ w. bytes_eq w (45 ∷ 45 ∷ [])) words ≡ false
means_no_hyphens words w m = no_hyphens words m.options m.read

pub means_passes : (words : List Text) (w : Words) → Means words w → fault_of words_app words ≡ []
means_passes words w m = let run = runs_of words m.options (fits_of words m.options m.read) m.once in whole_passes words (record { passes = run.passes; ends = run.ends })

means_found : (words : List Text) (w : Words) (m : Means words w) (n : OptionName) → value_of n m.options ≡ found (spelled n) words
means_found words w m n = sym (found_values words m.options (runs_of words m.options (fits_of words m.options m.read) m.once) n)

sets_as : (a b c d a' b' c' d' : Option Text) (w : Words) → a ≡ a' → b ≡ b' → c ≡ c' → d ≡ d' → Sets a b c d w → Sets a' b' c' d' w
sets_as a b c d a' b' c' d' w e f g h s =
    subst (λ (t : Option Text). Sets a' b' c' t w) h (subst (λ (t : Option Text). Sets a' b' t d w) g (subst (λ (t : Option Text). Sets a' t c d w) f (subst (λ (t : Option Text). Sets t b c d w) e s)))

pub means_to : (words : List Text) (t : Texts) → Found words t → (w : Words) → Means words w → TextsSet t w
means_to words t f w m =
    sets_as _ _ _ _ _ _ _ _ w (means_found words w m trees ∙ sym f.trees) (means_found words w m workers ∙ sym f.workers) (means_found words w m show ∙ sym f.show)
    (means_found words w m demo ∙ sym f.demo) m.sets

-- ---- words that pass read as options

writes_bare : (v : Text) (n : ℕ) → Writes v n → slice_get v 0 ≢ Some 45
writes_bare [] n w e = cc
writes_bare (c ∷ v) n w e = let is : c ≡ 45 = cc in let digit : 48 ≤ c = w.digits.0 in absurd (omega arith)

known_bare : (v text : Text) → v ≡ text → option_map_or (λ x. x == 45) (slice_get text 0) false ≡ false → slice_get v 0 ≢ Some 45
known_bare v text is other e = true≢false (sym (ap (λ o. option_map_or (λ x. x == 45) o false) e) ∙ ap (λ t. option_map_or (λ x. x == 45) (slice_get t 0) false) is ∙ other)

shown_bare : (v : Text) (what : ShowWhat) → IsShown (Some v) what → slice_get v 0 ≢ Some 45
shown_bare v Fields is = known_bare v (codes "fields") is refl
shown_bare v Traffic is = known_bare v (codes "traffic") is refl
shown_bare v All is = known_bare v (codes "all") is refl

demo_bare : (v : Text) (asked : Option ℕ) → IsDemo (Some v) asked → slice_get v 0 ≢ Some 45
demo_bare v None is = absurd is
demo_bare v (Some n) is = writes_bare v n is.0

values_bare : (gs : List Given) (w : Words) → Sets (value_of trees gs) (value_of workers gs) (value_of show gs) (value_of demo gs) w → (m : OptionName) (v : Text)
    → value_of m gs ≡ Some v → slice_get v 0 ≢ Some 45
values_bare gs w s trees v e = let h : IsNumber 1 1 64 (Some v) w.trees = subst (λ (o : Option Text). IsNumber 1 1 64 o w.trees) e s.trees in writes_bare v w.trees h.0
values_bare gs w s workers v e = let h : IsNumber 0 0 16 (Some v) w.workers = subst (λ (o : Option Text). IsNumber 0 0 16 o w.workers) e s.workers in writes_bare v w.workers h.0
values_bare gs w s show v e = shown_bare v w.show (subst (λ (o : Option Text). IsShown o w.show) e s.shown)
values_bare gs w s demo v e = demo_bare v w.demo (subst (λ (o : Option Text). IsDemo o w.demo) e s.demo)

reads_of : (words : List Text) (gs : List Given) → Fits words gs → EachGiven (λ v. slice_get v 0 ≢ Some 45) gs → ReadsAs words gs
reads_of _ _ walks.nothing bare = nothing
reads_of _ _ (walks.two_words n v words gs takes fits) bare = two_words n v words gs bare.0 (reads_of words gs fits bare.1)
reads_of _ _ (walks.one_word n v words gs fits) bare = one_word n v words gs (reads_of words gs fits bare.1)

pub means_of : (words : List Text) (t : Texts) → list_any (λ w. bytes_eq w (45 ∷ 45 ∷ [])) words ≡ false → Found words t → (w : Words) → TextsSet t w → Means words w
means_of words t none f w s =
    let read : IsRead words [] None = back words none (ready None) [] (passes_whole words f.passes) in
    let once : IsOnce read.options = (once_of [] read.options read.once).0 in
    let value = found_values words read.options (runs_of words read.options read.fits once) in
    let sets : Sets (value_of trees read.options) (value_of workers read.options) (value_of show read.options) (value_of demo read.options) w =
    sets_as _ _ _ _ _ _ _ _ w (f.trees ∙ value trees) (f.workers ∙ value workers) (f.show ∙ value show) (f.demo ∙ value demo) s in
    record {
      options = read.options;
      read = reads_of words read.options read.fits (each_value (λ v. slice_get v 0 ≢ Some 45) read.options once (values_bare read.options w sets));
      once = once;
      sets = sets;
    }

-- ---- the answer

-- the settings that the words mean; `Usage` where they mean none
abbrev pub Answers : List Text → Result Words WordsFault → Type 0
Answers words (Ok w) = Means words w
Answers words (Err Usage) = (w : Words) → ¬ Means words w
Answers words (Err NoMemory) = Unit {0}

list_any-map : {X Y : Type 0} (f : X → Y) (test : Y → Bool) (xs : List X) → list_any test (map f xs) ≡ list_any (λ x. test (f x)) xs
list_any-map f test [] = refl
list_any-map f test (x ∷ xs) = ap (λ b. test (f x) || b) (list_any-map f test xs)

pub hyphens_among : (words : List (String Global)) → list_any (λ w. bytes_eq w (45 ∷ 45 ∷ [])) (map string_bytes words) ≡ list_any (λ s. bytes_eq (string_bytes s) (codes "--")) words
hyphens_among words = list_any-map string_bytes (λ w. bytes_eq w (45 ∷ 45 ∷ [])) words

pub refused_by_hyphens : (words : List Text) → list_any (λ w. bytes_eq w (45 ∷ 45 ∷ [])) words ≡ true → (w : Words) → ¬ Means words w
refused_by_hyphens words has w m = true≢false (sym has ∙ means_no_hyphens words w m)

refused_by_parse : (words : List Text) (e : WordsFault) → Parses words (Err e) → Answers words (Err e)
refused_by_parse words Usage h = λ w m. h (means_passes words w m)
refused_by_parse words NoMemory h = tt

pub refused_up : (words : List Text) (r : Result Words WordsFault) (e : WordsFault) → IsErrAnd r (λ y. y ≡ e) → Parses words (Err e) → Answers words r
refused_up words (Ok w) e is h = absurd is
refused_up words (Err y) e is h = subst (λ (f : WordsFault). Answers words (Err f)) (sym is) (refused_by_parse words e h)

-- ---- one meaning

same_number : (otherwise least greatest : ℕ) (text : Option Text) (m n : ℕ) → IsNumber otherwise least greatest text m → IsNumber otherwise least greatest text n → m ≡ n
same_number otherwise least greatest None m n a b = a ∙ sym b
same_number otherwise least greatest (Some text) m n a b = a.0.value ∙ sym b.0.value

differ : (a b : Text) → bytes_eq a b ≡ false → a ≡ b → ⊥
differ a b e f = true≢false (sym (equal_text b) ∙ ap (λ t. bytes_eq t b) (sym f) ∙ e)

same_shown : (text : Option Text) (a b : ShowWhat) → IsShown text a → IsShown text b → a ≡ b
same_shown None a b e f = e ∙ sym f
same_shown (Some text) Fields Fields e f = refl
same_shown (Some text) Traffic Traffic e f = refl
same_shown (Some text) All All e f = refl
same_shown (Some text) Fields Traffic e f = absurd (differ (codes "fields") (codes "traffic") refl (sym e ∙ f))
same_shown (Some text) Fields All e f = absurd (differ (codes "fields") (codes "all") refl (sym e ∙ f))
same_shown (Some text) Traffic Fields e f = absurd (differ (codes "traffic") (codes "fields") refl (sym e ∙ f))
same_shown (Some text) Traffic All e f = absurd (differ (codes "traffic") (codes "all") refl (sym e ∙ f))
same_shown (Some text) All Fields e f = absurd (differ (codes "all") (codes "fields") refl (sym e ∙ f))
same_shown (Some text) All Traffic e f = absurd (differ (codes "all") (codes "traffic") refl (sym e ∙ f))

same_demo : (text : Option Text) (a b : Option ℕ) → IsDemo text a → IsDemo text b → a ≡ b
same_demo None a b e f = e ∙ sym f
same_demo (Some text) None b e f = absurd e
same_demo (Some text) (Some m) None e f = absurd f
same_demo (Some text) (Some m) (Some n) e f = ap (λ x. Some x) (e.0.value ∙ sym f.0.value)

same_settings : (a b c d : Option Text) (v w : Words) → Sets a b c d v → Sets a b c d w → v ≡ w
same_settings a b c d v w s t =
    let e = same_number 1 1 64 a v.trees w.trees s.trees t.trees in
    let f = same_number 0 0 16 b v.workers w.workers s.workers t.workers in
    let g = same_shown c v.show w.show s.shown t.shown in
    let h = same_demo d v.demo w.demo s.demo t.demo in
    λ i. record { trees = e i; workers = f i; show = g i; demo = h i }

pub one : OneMeaning
one words v w m n =
    let same = λ (o : OptionName). means_found words v m o ∙ sym (means_found words w n o) in
    same_settings _ _ _ _ v w (sets_as _ _ _ _ _ _ _ _ v (same trees) (same workers) (same show) (same demo) m.sets) n.sets

pub answers_ok : (words : List Text) (r : Result Words WordsFault) → Answers words r → IfOk r (Means words)
answers_ok words (Ok w) h = h
answers_ok words (Err e) h = tt

pub answers_usage : (words : List Text) (r : Result Words WordsFault) → Answers words r → r ≡ Err Usage → (w : Words) → ¬ Means words w
answers_usage words (Ok v) h e w m = cc
answers_usage words (Err Usage) h e w m = h w m
answers_usage words (Err NoMemory) h e w m = cc

pub answers_accepted : (words : List Text) (r : Result Words WordsFault) → Answers words r → (w : Words) → Means words w → (r ≡ Ok w) ⊎ (r ≡ Err NoMemory)
answers_accepted words (Ok v) h w m = inl (ap (λ x. Ok x) (one words v w h m))
answers_accepted words (Err Usage) h w m = absurd (h w m)
answers_accepted words (Err NoMemory) h w m = inr refl
