-- The walk over the words passes exactly where they are options, each given once.
use Rattle.std.proofs.Common.{◌≡◌, ◌∙◌, refl, sym, ap, subst, false, true≢false, List, [], ◌∷◌, ◌++◌, ℕ, codes, Option, Some, None, fold, map, append-nil, append_assoc}
use Rattle.std.specs.List.{list_any}
use Rattle.std.specs.Prelude.{slice_get}
use Rattle.std.specs.Str.{bytes_eq, chars}
use Rattle.std.proofs.lemmas.Bool.{or_parts}
use Rattle.clap.specs.Walk.{Text, Walk, Row, idle, walked, settled, settled_rows, used}
use Rattle.clap.specs.Kinds.{Kinds, or_else}
use Rattle.clap.specs.Faults.{walk_fault, use_fault}
use Rattle.clap.specs.declared.error.kind.ErrorKind.{ErrorKind}
use Rattle.command_line.specs.CommandLine.{OptionName, spelled, dashed, Given}
use Rattle.command_line.proofs.Steps.{all_rules, at, held, wants, rule, shape, turn, next, settles, Takes, name_turn, name_next, pair_turn, pair_next, name_refused, pair_refused, wants_unsettled, unknown_idle, unknown_wants, short_idle, plain_idle, short_wants, short_takes, plain_takes}
use Rattle.command_line.proofs.Rows.{row, used_is, use_passes, use_was_new, late_settles, late_rows, OnceFrom}
use Rattle.command_line.proofs.Looks.{Looks, hyphens, a_name, a_pair, unknown, short, plain, looks}

-- the words as options, where a value in a word of its own is any that the parser takes
pub data Fits : List Text → List Given → Type 0 where
  nothing : Fits [] []
  two_words : (n : OptionName) (v : Text) (words : List Text) (gs : List Given) → Takes v → Fits words gs → Fits (dashed n ∷ v ∷ words) ((n, v) ∷ gs)
  one_word : (n : OptionName) (v : Text) (words : List Text) (gs : List Given) → Fits words gs → Fits ((dashed n ++ codes "=" ++ v) ∷ words) ((n, v) ∷ gs)

abbrev pub faults : Walk → List Text → Kinds
faults w words = walk_fault shape [] w words

abbrev pub walk_on : Walk → List Text → Walk
walk_on w words = fold (walked all_rules []) w words

-- ---- steps

pub both_none : (a b : Kinds) → or_else a b ≡ [] → (a ≡ []) × (b ≡ [])
both_none [] b e = (refl, e)
both_none (k ∷ ks) b e = cc

step_splits : (w : Walk) (word : Text) (words : List Text) → faults w (word ∷ words) ≡ or_else (turn w word) (faults (next w word) words)
unfolding walk_fault
step_splits w word words = refl

step_passes : (w after : Walk) (word : Text) (words : List Text) → turn w word ≡ [] → next w word ≡ after → faults after words ≡ [] → faults w (word ∷ words) ≡ []
step_passes w after word words now is rest = step_splits w word words ∙ ap (λ k. or_else k (faults (next w word) words)) now ∙ ap (λ x. faults x words) is ∙ rest

no_words : (w : Walk) → faults w [] ≡ []
unfolding walk_fault
no_words w = refl

-- ---- options pass

pub record Runs (words : List Text) (rows : List Row) (p : Option (Text × List Text)) (gs : List Given) : Type 0 where
  pub passes : faults (at idle (held rows p)) words ≡ []
  pub ends : settles (walk_on (at idle (held rows p)) words).held ≡ []
  pub rows_are : (settled all_rules (walk_on (at idle (held rows p)) words).held).rows ≡ settled_rows all_rules p rows ++ map row gs

pub runs : (words : List Text) (gs : List Given) → Fits words gs → (rows : List Row) (p : Option (Text × List Text)) → settles (held rows p) ≡ []
    → OnceFrom (settled_rows all_rules p rows) gs → Runs words rows p gs
runs _ _ nothing rows p before once = record { passes = no_words (at idle (held rows p)); ends = before; rows_are = sym (append-nil (settled_rows all_rules p rows)) }
runs _ _ (two_words n v words gs takes fits) rows p before once =
    let settled_now = settled_rows all_rules p rows in
    let now : turn (at idle (held rows p)) (dashed n) ≡ [] = name_turn n rows p ∙ ap (λ k. or_else k []) before in
    let after = name_next n rows p in
    let value = takes.next_is n settled_now in
    let rows_then : settled_rows all_rules (Some (spelled n, v ∷ [])) settled_now ≡ settled_now ++ row (n, v) ∷ [] = late_rows n v settled_now ∙ used_is n v settled_now once.0 in
    let rest = runs words gs fits settled_now (Some (spelled n, v ∷ [])) (late_settles n v settled_now ∙ use_passes n v settled_now once.0)
    (subst (λ r. OnceFrom r gs) (sym rows_then) once.1) in
    let way : walk_on (at idle (held rows p)) (dashed n ∷ v ∷ words) ≡ walk_on (at idle (held settled_now (Some (spelled n, v ∷ [])))) words =
    ap (λ w. walk_on w (v ∷ words)) after ∙ ap (λ w. walk_on w words) value in
    record {
      passes = step_passes _ _ _ _ now after (step_passes _ _ _ _ (takes.turn_passes n settled_now) value rest.passes);
      ends = ap (λ (w : Walk). settles w.held) way ∙ rest.ends;
      rows_are = ap (λ (w : Walk). (settled all_rules w.held).rows) way ∙ rest.rows_are ∙ ap (λ r. r ++ map row gs) rows_then ∙ append_assoc settled_now (row (n, v) ∷ []) (map row gs);
    }
runs _ _ (one_word n v words gs fits) rows p before once =
    let settled_now = settled_rows all_rules p rows in
    let now : turn (at idle (held rows p)) (dashed n ++ codes "=" ++ v) ≡ [] =
    pair_turn n v rows p ∙ ap (λ k. or_else (or_else k (use_fault false (rule n) (v ∷ []) settled_now)) []) before ∙ ap (λ k. or_else k []) (use_passes n v settled_now once.0) in
    let after = pair_next n v rows p in
    let rows_then : used (rule n) (v ∷ []) settled_now ≡ settled_now ++ row (n, v) ∷ [] = used_is n v settled_now once.0 in
    let rest = runs words gs fits (used (rule n) (v ∷ []) settled_now) None refl (subst (λ r. OnceFrom r gs) (sym rows_then) once.1) in
    let way : walk_on (at idle (held rows p)) ((dashed n ++ codes "=" ++ v) ∷ words) ≡ walk_on (at idle (held (used (rule n) (v ∷ []) settled_now) None)) words =
    ap (λ w. walk_on w words) after in
    record {
      passes = step_passes _ _ _ _ now after rest.passes;
      ends = ap (λ (w : Walk). settles w.held) way ∙ rest.ends;
      rows_are = ap (λ (w : Walk). (settled all_rules w.held).rows) way ∙ rest.rows_are ∙ ap (λ r. r ++ map row gs) rows_then ∙ append_assoc settled_now (row (n, v) ∷ []) (map row gs);
    }

-- ---- what passes is options

-- between two options, or behind a name
pub data Stand : Type 0 where
  ready : Option (Text × List Text) → Stand
  waits : OptionName → Stand

abbrev pub walk_at : Stand → List Row → Walk
walk_at (ready p) rows = at idle (held rows p)
walk_at (waits n) rows = wants n rows

pub record IsRead (words : List Text) (rows : List Row) (p : Option (Text × List Text)) : Type 0 where
  pub options : List Given
  pub fits : Fits words options
  pub before : settles (held rows p) ≡ []
  pub once : OnceFrom (settled_rows all_rules p rows) options

pub record IsReadBehind (words : List Text) (rows : List Row) (n : OptionName) : Type 0 where
  pub value : Text
  pub rest : List Text
  pub options : List Given
  pub is : words ≡ value ∷ rest
  pub takes : Takes value
  pub fits : Fits rest options
  pub once : OnceFrom rows ((n, value) ∷ options)

abbrev pub ReadAt : Stand → List Text → List Row → Type 0
ReadAt (ready p) words rows = IsRead words rows p
ReadAt (waits n) words rows = IsReadBehind words rows n

-- the words from a stand on pass
pub record Passes (w : Walk) (words : List Text) : Type 0 where
  pub passes : faults w words ≡ []
  pub ends : settles (walk_on w words).held ≡ []

passes_from : (v w : Walk) (words : List Text) → v ≡ w → Passes v words → Passes w words
passes_from v w words e h = subst (λ x. Passes x words) e h

abbrev Reads : List Text → Type 0
Reads words = (s : Stand) (rows : List Row) → Passes (walk_at s rows) words → ReadAt s words rows

no_fault : {P : Type 0} (k : ErrorKind) (t : Kinds) → t ≡ k ∷ [] → t ≡ [] → P
no_fault k t e none = let bad : k ∷ [] ≡ [] = sym e ∙ none in cc

ready_name : (n : OptionName) (words : List Text) (p : Option (Text × List Text)) (rows : List Row) → turn (at idle (held rows p)) (dashed n) ≡ []
    → Passes (next (at idle (held rows p)) (dashed n)) words → Reads words → IsRead (dashed n ∷ words) rows p
ready_name n words p rows now rest reads =
    let before = (both_none _ _ (sym (name_turn n rows p) ∙ now)).0 in
    let via : IsReadBehind words (settled_rows all_rules p rows) n = reads (waits n) (settled_rows all_rules p rows) (passes_from _ _ words (name_next n rows p) rest) in
    record {
      options = (n, via.value) ∷ via.options;
      fits = subst (λ (t : List Text). Fits (dashed n ∷ t) ((n, via.value) ∷ via.options)) (sym via.is) (two_words n via.value via.rest via.options via.takes via.fits);
      before = before;
      once = via.once;
    }

ready_pair : (n : OptionName) (v : Text) (words : List Text) (p : Option (Text × List Text)) (rows : List Row) → turn (at idle (held rows p)) (dashed n ++ codes "=" ++ v) ≡ []
    → Passes (next (at idle (held rows p)) (dashed n ++ codes "=" ++ v)) words → Reads words → IsRead ((dashed n ++ codes "=" ++ v) ∷ words) rows p
ready_pair n v words p rows now rest reads =
    let settled_now = settled_rows all_rules p rows in
    let both = both_none (settles (held rows p)) (use_fault false (rule n) (v ∷ []) settled_now) (both_none _ _ (sym (pair_turn n v rows p) ∙ now)).0 in
    let absent = use_was_new n v settled_now both.1 in
    let via : IsRead words (used (rule n) (v ∷ []) settled_now) None = reads (ready None) (used (rule n) (v ∷ []) settled_now) (passes_from _ _ words (pair_next n v rows p) rest) in
    record {
      options = (n, v) ∷ via.options;
      fits = one_word n v words via.options via.fits;
      before = both.0;
      once = (absent, subst (λ r. OnceFrom r via.options) (used_is n v settled_now absent) via.once);
    }

waits_value : (n : OptionName) (v : Text) (words : List Text) (rows : List Row) → Takes v → Passes (next (wants n rows) v) words → Reads words → IsReadBehind (v ∷ words) rows n
waits_value n v words rows takes rest reads =
    let via : IsRead words rows (Some (spelled n, v ∷ [])) = reads (ready (Some (spelled n, v ∷ []))) rows (passes_from _ _ words (takes.next_is n rows) rest) in
    let absent = use_was_new n v rows (sym (late_settles n v rows) ∙ via.before) in
    record {
      value = v;
      rest = words;
      options = via.options;
      is = refl;
      takes = takes;
      fits = via.fits;
      once = (absent, subst (λ r. OnceFrom r via.options) (late_rows n v rows ∙ used_is n v rows absent) via.once);
    }

not_hyphens : {P : Type 0} (w : Text) → w ≡ 45 ∷ 45 ∷ [] → bytes_eq w (45 ∷ 45 ∷ []) ≡ false → P
not_hyphens w e f = absurd (true≢false (sym (ap (λ t. bytes_eq t (45 ∷ 45 ∷ [])) e) ∙ f))

ready_word : (w : Text) (words : List Text) (p : Option (Text × List Text)) (rows : List Row) → Looks w → bytes_eq w (45 ∷ 45 ∷ []) ≡ false → turn (at idle (held rows p)) w ≡ []
    → Passes (next (at idle (held rows p)) w) words → Reads words → IsRead (w ∷ words) rows p
ready_word w words p rows (hyphens e) other now rest reads = not_hyphens w e other
ready_word w words p rows (a_name n e) other now rest reads =
    subst (λ (t : Text). turn (at idle (held rows p)) t ≡ [] → Passes (next (at idle (held rows p)) t) words → IsRead (t ∷ words) rows p) (sym e)
    (λ now rest. ready_name n words p rows now rest reads) now rest
ready_word w words p rows (a_pair n v e) other now rest reads =
    subst (λ (t : Text). turn (at idle (held rows p)) t ≡ [] → Passes (next (at idle (held rows p)) t) words → IsRead (t ∷ words) rows p) (sym e)
    (λ now rest. ready_pair n v words p rows now rest reads) now rest
ready_word w words p rows (unknown name value apart long none) other now rest reads = no_fault _ _ (unknown_idle w name value rows p apart long none) now
ready_word w words p rows (short x xs apart long is) other now rest reads = no_fault _ _ (short_idle w x xs rows p apart long is) now
ready_word w words p rows (plain apart long is) other now rest reads = no_fault _ _ (plain_idle w rows p apart long is) now

waits_word : (w : Text) (words : List Text) (n : OptionName) (rows : List Row) → Looks w → bytes_eq w (45 ∷ 45 ∷ []) ≡ false → turn (wants n rows) w ≡ []
    → Passes (next (wants n rows) w) words → Reads words → IsReadBehind (w ∷ words) rows n
waits_word w words n rows (hyphens e) other now rest reads = not_hyphens w e other
waits_word w words n rows (a_name m e) other now rest reads = no_fault _ _ (ap (turn (wants n rows)) e ∙ name_refused n m rows) now
waits_word w words n rows (a_pair m v e) other now rest reads = no_fault _ _ (ap (turn (wants n rows)) e ∙ pair_refused n m v rows) now
waits_word w words n rows (unknown name value apart long none) other now rest reads = no_fault _ _ (unknown_wants n w name value rows apart long none) now
waits_word w words n rows (short x xs apart long is) other now rest reads = go (slice_get (chars (x ∷ xs)) 0) refl
  where
    go : (o : Option ℕ) → slice_get (chars (x ∷ xs)) 0 ≡ o → IsReadBehind (w ∷ words) rows n
    go (Some y) first = no_fault _ _ (short_wants n w x y xs rows apart long is first) now
    go None first = waits_value n w words rows (short_takes w x xs apart long is first) rest reads
waits_word w words n rows (plain apart long is) other now rest reads = waits_value n w words rows (plain_takes w apart long is) rest reads

word : (w : Text) (words : List Text) (s : Stand) (rows : List Row) → bytes_eq w (45 ∷ 45 ∷ []) ≡ false → turn (walk_at s rows) w ≡ []
    → Passes (next (walk_at s rows) w) words → Reads words → ReadAt s (w ∷ words) rows
word w words (ready p) rows other now rest reads = ready_word w words p rows (looks w) other now rest reads
word w words (waits n) rows other now rest reads = waits_word w words n rows (looks w) other now rest reads

pub back : (words : List Text) → list_any (λ w. bytes_eq w (45 ∷ 45 ∷ [])) words ≡ false → Reads words
back [] none (ready p) rows h = record { options = []; fits = nothing; before = h.ends; once = tt }
back [] none (waits n) rows h = no_fault _ _ (wants_unsettled n rows) h.ends
back (w ∷ words) none s rows h =
    let other = or_parts (bytes_eq w (45 ∷ 45 ∷ [])) (list_any (λ w. bytes_eq w (45 ∷ 45 ∷ [])) words) none in
    let split = both_none (turn (walk_at s rows) w) (faults (next (walk_at s rows) w) words) (sym (step_splits (walk_at s rows) w words) ∙ h.passes) in
    word w words s rows other.0 split.0 (record { passes = split.1; ends = h.ends }) (back words other.1)
