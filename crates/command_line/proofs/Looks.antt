-- What a word looks like to the parser.
use Rattle.std.proofs.Common.{◌≡◌, ◌≢◌, ◌∙◌, ◌⊎◌, inl, inr, refl, sym, ap, subst, true, false, Bool, ◌==◌, [], ◌∷◌, ◌++◌, ℕ, zero, suc, codes, Option, Some, None, append_assoc, arith}
use Rattle.std.specs.Str.{bytes_eq}
use Rattle.std.specs.Prelude.{slice_get}
use Rattle.std.proofs.lemmas.Bool.Decides.{nat_tests}
use Rattle.clap.specs.Lexer.{long_of, short_of, name_and_value}
use Rattle.clap.specs.Walk.{Text, arg_by_long}
use Rattle.clap.proofs.CutLemmas.{Lacks}
use Rattle.clap.proofs.LexerLemmas.{name_and_value-at, name_and_value-without}
use Rattle.command_line.specs.CommandLine.{OptionName, trees, workers, show, demo, spelled, dashed}
use Rattle.command_line.proofs.Steps.{all_rules}
use Rattle.command_line.proofs.Rows.{same_text}

pub data Looks (word : Text) : Type 0 where
  hyphens : word ≡ 45 ∷ 45 ∷ [] → Looks word
  a_name : (n : OptionName) → word ≡ dashed n → Looks word
  a_pair : (n : OptionName) (v : Text) → word ≡ dashed n ++ codes "=" ++ v → Looks word
  unknown : (name : Text) (value : Option Text) → bytes_eq word (45 ∷ 45 ∷ []) ≡ false → long_of word ≡ Some (name, value) → arg_by_long all_rules name ≡ None → Looks word
  short : (x : ℕ) (xs : Text) → bytes_eq word (45 ∷ 45 ∷ []) ≡ false → long_of word ≡ None → short_of word ≡ Some (x ∷ xs) → Looks word
  plain : bytes_eq word (45 ∷ 45 ∷ []) ≡ false → long_of word ≡ None → short_of word ≡ None → Looks word

-- the option that a name is of
which : (name : Text) → ((n : OptionName) × (name ≡ spelled n)) ⊎ (arg_by_long all_rules name ≡ None)
which name = is_trees (bytes_eq (codes "trees") name) refl
  where
    is_demo : (t : Bool) → bytes_eq (codes "demo") name ≡ t → bytes_eq (codes "trees") name ≡ false → bytes_eq (codes "workers") name ≡ false → bytes_eq (codes "show") name ≡ false
        → ((n : OptionName) × (name ≡ spelled n)) ⊎ (arg_by_long all_rules name ≡ None)
    is_demo true e a b c = inl (demo, sym (same_text _ _ e))
    is_demo false e a b c = inr (rw (a, b, c, e) refl)

    is_show : (t : Bool) → bytes_eq (codes "show") name ≡ t → bytes_eq (codes "trees") name ≡ false → bytes_eq (codes "workers") name ≡ false
        → ((n : OptionName) × (name ≡ spelled n)) ⊎ (arg_by_long all_rules name ≡ None)
    is_show true e a b = inl (show, sym (same_text _ _ e))
    is_show false e a b = is_demo (bytes_eq (codes "demo") name) refl a b e

    is_workers : (t : Bool) → bytes_eq (codes "workers") name ≡ t → bytes_eq (codes "trees") name ≡ false
        → ((n : OptionName) × (name ≡ spelled n)) ⊎ (arg_by_long all_rules name ≡ None)
    is_workers true e a = inl (workers, sym (same_text _ _ e))
    is_workers false e a = is_show (bytes_eq (codes "show") name) refl a e

    is_trees : (t : Bool) → bytes_eq (codes "trees") name ≡ t → ((n : OptionName) × (name ≡ spelled n)) ⊎ (arg_by_long all_rules name ≡ None)
    is_trees true e = inl (trees, sym (same_text _ _ e))
    is_trees false e = is_workers (bytes_eq (codes "workers") name) refl e

-- a text with no `=` (61), or cut at the first one
pub data Cut (text : Text) : Type 0 where
  whole : Lacks 61 text → Cut text
  parts : (xs ys : Text) → text ≡ xs ++ 61 ∷ ys → Lacks 61 xs → Cut text

Lacks-more : (c x : ℕ) (xs : Text) → x ≢ c → Lacks c xs → Lacks c (x ∷ xs)
Lacks-more c x xs ne h zero lt e = ne e
Lacks-more c x xs ne h (suc i) lt e = h i (omega arith) e

cut : (text : Text) → Cut text
cut [] = whole (λ i lt. absurd (omega arith))
cut (c ∷ cs) = go (c == 61) refl (cut cs)
  where
    go : (t : Bool) → (c == 61) ≡ t → Cut cs → Cut (c ∷ cs)
    go true e rest = let is : c ≡ 61 = grind (arith, nat_tests) in parts [] cs (ap (λ n. n ∷ cs) is) (λ i lt. absurd (omega arith))
    go false e (whole lacks) = let ne : c ≢ 61 = grind (arith, nat_tests) in whole (Lacks-more 61 c cs ne lacks)
    go false e (parts xs ys is lacks) = let ne : c ≢ 61 = grind (arith, nat_tests) in parts (c ∷ xs) ys (ap (λ t. c ∷ t) is) (Lacks-more 61 c xs ne lacks)

behind_two : (c : ℕ) (cs : Text) → Looks (45 ∷ 45 ∷ c ∷ cs)
behind_two c cs = go (cut (c ∷ cs))
  where
    whole_name : Lacks 61 (c ∷ cs) → ((n : OptionName) × (c ∷ cs ≡ spelled n)) ⊎ (arg_by_long all_rules (c ∷ cs) ≡ None) → Looks (45 ∷ 45 ∷ c ∷ cs)
    whole_name lacks (inl (n, is)) = a_name n (ap (λ t. 45 ∷ 45 ∷ t) is)
    whole_name lacks (inr none) = unknown (c ∷ cs) None refl (ap (λ p. Some p) (name_and_value-without (c ∷ cs) lacks)) none

    first_part : (xs ys : Text) → c ∷ cs ≡ xs ++ 61 ∷ ys → Lacks 61 xs → ((n : OptionName) × (xs ≡ spelled n)) ⊎ (arg_by_long all_rules xs ≡ None) → Looks (45 ∷ 45 ∷ c ∷ cs)
    first_part xs ys cut lacks (inl (n, is)) =
        a_pair n ys (ap (λ t. 45 ∷ 45 ∷ t) (cut ∙ ap (λ t. t ++ 61 ∷ ys) is) ∙ ap (λ t. 45 ∷ 45 ∷ t) (sym (append_assoc (spelled n) (61 ∷ []) ys)))
    first_part xs ys cut lacks (inr none) = unknown xs (Some ys) refl (ap (λ p. Some p) (ap name_and_value cut ∙ name_and_value-at xs ys lacks)) none

    go : Cut (c ∷ cs) → Looks (45 ∷ 45 ∷ c ∷ cs)
    go (whole lacks) = whole_name lacks (which (c ∷ cs))
    go (parts xs ys is lacks) = first_part xs ys is lacks (which xs)

behind_one : (b : ℕ) (rest : Text) → Looks (45 ∷ b ∷ rest)
behind_one b rest = go (b == 45) refl
  where
    two : (rest : Text) → Looks (45 ∷ 45 ∷ rest)
    two [] = hyphens refl
    two (c ∷ cs) = behind_two c cs

    go : (t : Bool) → (b == 45) ≡ t → Looks (45 ∷ b ∷ rest)
    go true e = let is : b ≡ 45 = grind (arith, nat_tests) in subst (λ (x : ℕ). Looks (45 ∷ x ∷ rest)) (sym is) (two rest)
    go false e = short b rest (rw e refl) (rw e refl) (rw e refl)

pub looks : (word : Text) → Looks word
looks [] = plain refl refl refl
looks (a ∷ rest) = go (a == 45) refl
  where
    one : (rest : Text) → Looks (45 ∷ rest)
    one [] = plain refl refl refl
    one (b ∷ rest) = behind_one b rest

    go : (t : Bool) → (a == 45) ≡ t → Looks (a ∷ rest)
    go true e = let is : a ≡ 45 = grind (arith, nat_tests) in subst (λ (x : ℕ). Looks (x ∷ rest)) (sym is) (one rest)
    go false e = plain (rw e refl) (rw e refl) (rw e refl)

-- a word that does not begin with a hyphen
pub bare_is_plain : (v : Text) → slice_get v 0 ≢ Some 45 → (bytes_eq v (45 ∷ 45 ∷ []) ≡ false) × (long_of v ≡ None) × (short_of v ≡ None)
bare_is_plain [] ne = (refl, refl, refl)
bare_is_plain (a ∷ rest) ne = go (a == 45) refl
  where
    go : (t : Bool) → (a == 45) ≡ t → (bytes_eq (a ∷ rest) (45 ∷ 45 ∷ []) ≡ false) × (long_of (a ∷ rest) ≡ None) × (short_of (a ∷ rest) ≡ None)
    go true e = let is : a ≡ 45 = grind (arith, nat_tests) in absurd (ne (ap (λ x. Some x) is))
    go false e = (rw e refl, rw e refl, rw e refl)
