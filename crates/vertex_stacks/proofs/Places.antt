-- Places of the input: its buffer has them in reverse.
use Rattle.std.proofs.Common.{◌≡◌, ℕ, zero, suc, ◌+◌, ◌-◌, ◌<◌, List, [], ◌∷◌, ◌++◌, length, get_or, set, reverse, arith, ap, sym, ◌∙◌, length-set, refl}
use Rattle.std.proofs.Math.Seq.{set-append_seam}
use Rattle.std.proofs.lemmas.List.{length-reverse, reverse-append, set-append_left, get_or-reverse}
use Rattle.std.proofs.lemmas.Option.{slice_get-get_or}
use Rattle.std.specs.Prelude.{slice_get, slice_set, Some}
use Rattle.peano_keys.specs.declared.dim.Dim.{Dim}
use Rattle.peano_records.specs.declared.stored.Stored.{Stored}
use Rattle.vertex_stacks.specs.declared.tale.Tale.{Tale}
use Rattle.vertex_stacks.specs.Lists.{lists_seen}

-- a change at place `i` is one at place `k` of the reverse, where the two are equally far from the ends
pub reverse-set : {A : Type 0} (xs : List A) (i k : ℕ) (new : A) → k + i + 1 ≡ length xs → reverse (set xs i new) ≡ set (reverse xs) k new
reverse-set [] i k new ends = absurd (omega arith)
reverse-set (x ∷ xs) zero k new ends =
    let last : k ≡ length (reverse xs) = omega (arith, length-reverse xs) in
    reverse-append (new ∷ []) xs ∙ sym (ap (λ l. set l k new) (reverse-append (x ∷ []) xs) ∙ (ap (λ j. set (reverse xs ++ x ∷ []) j new) last ∙ set-append_seam (reverse xs) x [] new))
reverse-set (x ∷ xs) (suc i) k new ends =
    let rest : reverse (set xs i new) ≡ set (reverse xs) k new = reverse-set xs i k new (omega arith) in
    let before : k < length (reverse xs) = omega (arith, length-reverse xs) in
    reverse-append (x ∷ []) (set xs i new) ∙ (ap (λ l. l ++ x ∷ []) rest ∙ sym (ap (λ l. set l k new) (reverse-append (x ∷ []) xs) ∙ set-append_left (reverse xs) (x ∷ []) k new before))

-- what stands at a place of the reverse
pub slice_get-reverse : {A : Type 0} (xs : List A) (k : ℕ) (d : A) → k < length xs → slice_get (reverse xs) k ≡ Some (get_or xs (length xs - 1 - k) d)
slice_get-reverse xs k d h =
    let within : k < length (reverse xs) = omega (arith, length-reverse xs) in
    slice_get-get_or (reverse xs) k d within ∙ ap Some (get_or-reverse xs k d h)

-- lists as they are seen, after one vertex of the input changed
pub lists_seen-set : (dim : Dim) (pages : ℕ) (items output : List Stored) (lanes : List (List Stored)) (taken put pushed : ℕ) (tale : Tale) (i k : ℕ) (new : Stored) → k + i + 1 ≡ length items → lists_seen dim pages (reverse (set items i new)) output lanes taken put pushed tale ≡ record (lists_seen dim pages (reverse items) output lanes taken put pushed tale) { input = slice_set (reverse items) k new }
lists_seen-set dim pages items output lanes taken put pushed tale i k new ends = rw (reverse-set items i k new ends, length-set (reverse items) k new) refl
