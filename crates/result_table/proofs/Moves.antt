-- A step on one task keeps the rule, where what is known of that task fits its new fate.
use Rattle.std.proofs.Common.{◌≡◌, ◌≢◌, ℕ, ◌+◌, ◌<◌, eqb, cond, true, length, set, sym, ap, subst, ◌∙◌, ⊎_elim, arith, length-set, get_or-set_other, get_or-set_same, eq-eqb, ne_eqb}
use mathlib.Core.Option.{some}
use mathlib.Core.Logic.{dite}
use native.Mathlib.Decide.{ℕ_discrete}
use lib.ListN.{get_elem?}
use Rattle.atomic_table.proofs.Lists.{at_set}
use Rattle.result_table.specs.declared.updates.Updates.{Ghosts}
use Rattle.result_table.specs.Views.{DeskState, Homes}
use Rattle.result_table.proofs.Fates.{Fate, Fits, Marks, marks, word_of, claims, SlotOf, FitsSeat, FitsTask, Keeps, Holds}
use Rattle.result_table.specs.Words.{code}
use Rattle.result_table.specs.declared.view.View.{View}
use Rattle.result_table.specs.declared.view.Brief.{Brief}

-- the fates with another one at k
abbrev pub fate_with : (ℕ → Fate) → ℕ → Fate → ℕ → Fate
fate_with fate k f j = cond (eqb j k) f (fate j)

fate_here : (fate : ℕ → Fate) (k j : ℕ) (f : Fate) → j ≡ k → fate_with fate k f j ≡ f
fate_here fate k j f is = ap (λ b. cond b f (fate j)) (eq-eqb j k is)

fate_else : (fate : ℕ → Fate) (k j : ℕ) (f : Fate) → j ≢ k → fate_with fate k f j ≡ fate j
fate_else fate k j f not = ap (λ b. cond b f (fate j)) (ne_eqb j k not)

by_task : (P : Fate → ℕ → Type 0) (fate : ℕ → Fate) (k : ℕ) (f : Fate) (j : ℕ) → ((j ≡ k) → P f j) → (j ≢ k → P (fate j) j) → P (fate_with fate k f j) j
by_task P fate k f j at else = dite (ℕ_discrete j k) (λ is. subst (λ g. P g j) (sym (fate_here fate k j f is)) (at is)) (λ not. subst (λ g. P g j) (sym (fate_else fate k j f not)) (else not))

module _ {S : Type 0} {g : Ghosts S} where
  slot_along : (solver : S) (homes homes' : Homes S g) (j : ℕ) (f : Fate) → get_elem? homes' j ≡ get_elem? homes j → SlotOf solver homes j f → SlotOf solver homes' j f
  slot_along solver homes homes' j (Fate.unclaimed) e h = (h.0, e ∙ h.1)
  slot_along solver homes homes' j (Fate.claimed s) e h = (h.0, e ∙ h.1)
  slot_along solver homes homes' j (Fate.filled s) e h = tt
  slot_along solver homes homes' j (Fate.published s) e h = (h.0, e ∙ h.1, h.2)
  slot_along solver homes homes' j (Fate.gathered s) e h = tt
  slot_along solver homes homes' j (Fate.idle) e h = tt
  slot_along solver homes homes' j (Fate.busy s) e h = (h.0, e ∙ h.1)
  slot_along solver homes homes' j (Fate.overtaken s) e h = tt
  slot_along solver homes homes' j (Fate.late s) e h = tt

  -- the fate of task k becomes f', and the seat's view w
  pub moves : (b : Brief S) (id k : ℕ) (s : DeskState S g) (fate : ℕ → Fate) (v w : View S) (f' : Fate) (word' : ℕ) (homes' : Homes S g)
      → k < b.size → Keeps b s fate → get_elem? s.views id ≡ some v
      → word' ≡ code (word_of f') → SlotOf b.solver.value homes' k f' → ((j : ℕ) → j ≢ k → get_elem? homes' j ≡ get_elem? s.homes j)
      → ((t : ℕ) → claims f' t ≡ true → t < length s.views)
      → w.number ≡ v.number → w.solver ≡ v.solver → w.made ≡ v.made
      → ((j : ℕ) → j ≢ k → marks w j ≡ marks v j) → (Fits id (marks v k) (fate k) → Fits id (marks w k) f')
      → ((i : ℕ) (m : Marks) → i ≢ id → Fits i m (fate k) → Fits i m f')
      → Holds b record { words = set s.words (k + 1) word'; homes = homes'; views = set s.views id w }
  moves b id k s fate v w f' word' homes' below keeps at word home homes known number solver made own_else own_here others = (
    fate_with fate k f',
    record {
      length_is = length-set s.words (k + 1) word' ∙ keeps.length_is;
      zero_is = get_or-set_other s.words (k + 1) 0 word' 0 (λ e. omega arith) ∙ keeps.zero_is;
      some_seat = let l = length-set s.views id w in let h = keeps.some_seat in omega arith;
      tasks = λ j small. by_task (λ f i. FitsTask b.solver.value (set s.words (k + 1) word') homes' i f) fate k f' j
          (λ is. subst (λ i. FitsTask b.solver.value (set s.words (k + 1) word') homes' i f') (sym is) (record {
            word = get_or-set_same s.words (k + 1) word' 0 (let l = keeps.length_is in omega arith) ∙ word;
            slot = home;
          }))
          (λ not. let old = keeps.tasks j small in record {
            word = get_or-set_other s.words (k + 1) (j + 1) word' 0 (λ e. not (omega arith)) ∙ old.word;
            slot = slot_along b.solver.value s.homes homes' j (fate j) (homes j not) old.slot;
          });
      known = λ j t is. subst (λ n. t < n) (sym (length-set s.views id w)) (by_task (λ f _. claims f t ≡ true → t < length s.views) fate k f' j (λ _. known t) (λ _. keeps.known j t) is);
      seats = λ i u there. ⊎_elim
          (λ mine. let fits = keeps.seats id v at in subst (λ (p : ℕ × View S). FitsSeat b.solver.value b.size (length (set s.views id w)) (fate_with fate k f') p.0 p.1) (λ x. (sym mine.0 x, mine.1 x)) (record {
            number = number ∙ fits.number;
            solver_is = solver ∙ fits.solver_is;
            made_is = λ first. made ∙ (fits.made_is first ∙ sym (length-set s.views id w));
            each = λ j small. by_task (λ f i. Fits id (marks w i) f) fate k f' j (λ is. subst (λ n. Fits id (marks w n) f') (sym is) (own_here (fits.each k below))) (λ not. subst (λ m. Fits id m (fate j)) (sym (own_else j not)) (fits.each j small));
          }))
          (λ theirs. let fits = keeps.seats i u theirs.1 in record {
            number = fits.number;
            solver_is = fits.solver_is;
            made_is = λ first. fits.made_is first ∙ sym (length-set s.views id w);
            each = λ j small. by_task (λ f n. Fits i (marks u n) f) fate k f' j (λ is. subst (λ n. Fits i (marks u n) f') (sym is) (others i (marks u k) theirs.0 (fits.each k below))) (λ not. fits.each j small);
          })
          (at_set s.views id i w u there);
    },
  )
