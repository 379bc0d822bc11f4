-- A new desk, and a new seat, keep the rule.
use Rattle.std.proofs.Common.{◌≡◌, ◌≢◌, ℕ, zero, suc, ◌+◌, ◌<◌, Bool, true, false, List, [], ◌∷◌, ◌++◌, length, map, set, sym, refl, ap, subst, ◌∙◌, arith, Option, None, length-set, ⊎_elim, ◌⊎◌, inl, inr}
use Rattle.std.proofs.lemmas.Bool.{false≢true}
use Rattle.std.proofs.lemmas.List.{length-append}
use Rattle.std.specs.Prelude.{slice_index, replicate}
use mathlib.Core.Option.{some, some-ne-none, some-injective}
use lib.ListN.{get_elem?}
use Rattle.atomic_table.specs.Table.{Splits, opening}
use Rattle.atomic_table.proofs.Lists.{at_set}
use Rattle.result_table.specs.declared.updates.Updates.{Ghosts}
use Rattle.result_table.specs.Views.{newcomer, with_made}
use Rattle.result_table.proofs.Fates.{Fate, unclaimed, claimed, filled, published, gathered, idle, busy, overtaken, late, Fits, Marks, claims, publishes, fills, is_late, FitsSeat, Holds}
use Rattle.result_table.specs.declared.view.View.{View}
use Rattle.result_table.specs.declared.view.Brief.{Brief}
use Rattle.result_table.specs.Rule.{DeskRule}
use Rattle.result_table.proofs.Marked.{at_below}
use Rattle.result_table.proofs.Sentences.{rule_from}
use Rattle.result_table.proofs.Back.{fates_from}

-- what a seat says that knows nothing
abbrev blank : Marks
blank = record { claimed = false; published = false; lost = false; late = false; filling = false; gathered = false; idle = false; busy = false }

blank_fits : (i : ℕ) → Fits i blank unclaimed
blank_fits i = record { claimed = refl; published = refl; filling = refl; late = refl; lost = λ e. absurd (false≢true e); gathered = λ _. refl; idle = λ _. refl; busy = λ _. refl }

-- a seat that has not claimed a task has not published it, is not filling it in and did not find it late
claims_nothing : (f : Fate) (i : ℕ) → claims f i ≡ false → (publishes f i ≡ false) × (fills f i ≡ false) × (is_late f i ≡ false)
claims_nothing unclaimed i e = (refl, refl, refl)
claims_nothing (claimed s) i e = (refl, refl, refl)
claims_nothing (filled s) i e = (refl, e, refl)
claims_nothing (published s) i e = (e, refl, refl)
claims_nothing (gathered s) i e = (e, refl, refl)
claims_nothing idle i e = (refl, refl, refl)
claims_nothing (busy s) i e = (refl, refl, refl)
claims_nothing (overtaken s) i e = (refl, e, refl)
claims_nothing (late s) i e = (refl, refl, e)

new_fits : (i : ℕ) (f : Fate) → claims f i ≡ false → i ≢ 0 → Fits i blank f
new_fits i f fresh other =
    let nothing = claims_nothing f i fresh in
    record { claimed = sym fresh; published = sym nothing.0; filling = sym nothing.1; late = sym nothing.2; lost = λ e. absurd (false≢true e); gathered = λ z. absurd (other z); idle = λ z. absurd (other z); busy = λ z. absurd (other z) }

not_known : (b : Bool) (P : Type 0) → (b ≡ true → P) → (P → b ≡ false) → b ≡ false
not_known false P f g = refl
not_known true P f g = g (f refl)

at_new : {A : Type 0} (l : List A) (a b : A) (j : ℕ) → get_elem? (l ++ a ∷ []) j ≡ some b → (get_elem? l j ≡ some b) ⊎ ((j ≡ length l) × (a ≡ b))
at_new [] a b zero e = inr (refl, some-injective a b e)
at_new [] a b (suc j) e = absurd (some-ne-none b (sym e))
at_new (x ∷ xs) a b zero e = inl e
at_new (x ∷ xs) a b (suc j) e = ⊎_elim (λ old. inl old) (λ new. inr (omega (arith, new.0), new.1)) (at_new xs a b j e)

none_there : {A : Type 0} (size k : ℕ) → k < size → get_elem? (map some (replicate {A = Option A} size None)) k ≡ some (some None)
none_there zero k below = absurd (omega arith)
none_there (suc n) zero below = refl
none_there (suc n) (suc k) below = none_there n k (omega arith)

only : {S : Type 0} (solver : S) (i : ℕ) (v : View S) → get_elem? (newcomer solver 0 1 ∷ []) i ≡ some v → (i ≡ 0) × (newcomer solver 0 1 ≡ v)
only solver zero v e = (refl, some-injective (newcomer solver 0 1) v e)
only solver (suc i) v e = absurd (some-ne-none v (sym e))

module _ {S : Type 0} {g : Ghosts S} where
  opened : (b : Brief S) (words : List ℕ) → length words ≡ b.size + 1 → ((i : ℕ) → slice_index words i ≡ 0) → Holds {S = S} {g = g} b (opening words (replicate b.size None) (newcomer b.solver.value 0 1))
  opened b words long zeros = (
    λ _. unclaimed,
    record {
      length_is = long;
      zero_is = zeros 0;
      some_seat = omega arith;
      tasks = λ k below. record { word = zeros (k + 1); slot = (None, none_there b.size k below) };
      known = λ k t e. absurd (false≢true e);
      seats = λ i v there. let is = only b.solver.value i v there in subst (λ (p : ℕ × View S). FitsSeat b.solver.value b.size 1 (λ _. unclaimed) p.0 p.1) (λ x. (sym is.0 x, is.1 x)) (record {
        number = refl;
        solver_is = refl;
        made_is = λ _. refl;
        each = λ k small. blank_fits 0;
      });
    },
  )

  pub opens : (b : Brief S) (words : List ℕ) → length words ≡ b.size + 1 → ((i : ℕ) → slice_index words i ≡ 0) → DeskRule {S = S} {g = g} b (opening words (replicate b.size None) (newcomer b.solver.value 0 1))
  opens b words long zeros = rule_from b (opening words (replicate b.size None) (newcomer b.solver.value 0 1)) (opened b words long zeros)

  split_from : (b : Brief S) (id : ℕ) (v : View S) → v.number ≡ 0 → Splits (Holds {S = S} {g = g} b) id v (with_made v (v.made + 1)) (newcomer v.solver v.made 0)
  split_from b id v zero_number s held at =
      let fate = held.0 in
      let kept = held.1 in
      let left : View S = with_made v (v.made + 1) in
      let right : View S = newcomer v.solver v.made 0 in
      let mine = kept.seats id v at in
      let first : id ≡ 0 = sym mine.number ∙ zero_number in
      let count = length s.views in
      let made : v.made ≡ count = mine.made_is first in
      let some_view : id < count = at_below s.views id v at in
      let many : length (set s.views id left ++ right ∷ []) ≡ count + 1 = length-append (set s.views id left) (right ∷ []) ∙ omega (arith, length-set s.views id left) in (
        fate,
        record {
          length_is = kept.length_is;
          zero_is = kept.zero_is;
          some_seat = omega (arith, many);
          tasks = kept.tasks;
          known = λ k t e. let h = kept.known k t e in omega (arith, many);
          seats = λ i u there. ⊎_elim
              (λ old. ⊎_elim
              (λ here. subst (λ (p : ℕ × View S). FitsSeat b.solver.value b.size (length (set s.views id left ++ right ∷ [])) fate p.0 p.1) (λ x. (sym here.0 x, here.1 x)) (record {
                number = mine.number;
                solver_is = mine.solver_is;
                made_is = λ _. omega (arith, made, many);
                each = mine.each;
              }))
              (λ there. let fits = kept.seats i u there.1 in record {
                number = fits.number;
                solver_is = fits.solver_is;
                made_is = λ z. absurd (there.0 (z ∙ sym first));
                each = fits.each;
              })
              (at_set s.views id i left u old))
              (λ fresh.
              let at_count : i ≡ v.made = fresh.0 ∙ (length-set s.views id left ∙ sym made) in
              let not_first : v.made ≢ 0 = λ z. omega (arith, some_view, made, z) in
              subst (λ (p : ℕ × View S). FitsSeat b.solver.value b.size (length (set s.views id left ++ right ∷ [])) fate p.0 p.1) (λ x. (sym at_count x, fresh.1 x)) (record {
                number = refl;
                solver_is = mine.solver_is;
                made_is = λ z. absurd (not_first z);
                each = λ k small. new_fits v.made (fate k) (not_known (claims (fate k) v.made) (v.made < count) (kept.known k v.made) (λ h. absurd (omega (arith, h, made)))) not_first;
              }))
              (at_new (set s.views id left) right u i there);
        },
      )

  pub splits : (b : Brief S) (id : ℕ) (v : View S) → v.number ≡ 0 → Splits (DeskRule {S = S} {g = g} b) id v (with_made v (v.made + 1)) (newcomer v.solver v.made 0)
  splits b id v zero_number s rule at = rule_from b (record { words = s.words; homes = s.homes; views = set s.views id (with_made v (v.made + 1)) ++ newcomer v.solver v.made 0 ∷ [] }) (split_from b id v zero_number s (fates_from b s rule) at)

pub zero_at : (n i : ℕ) → slice_index (replicate n 0) i ≡ 0
zero_at zero i = refl
zero_at (suc n) zero = refl
zero_at (suc n) (suc i) = zero_at n i

pub length-replicate : (n : ℕ) → length (replicate {A = ℕ} n 0) ≡ n
length-replicate zero = refl
length-replicate (suc n) = ap suc (length-replicate n)
