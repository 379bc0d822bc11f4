-- The way back: the sentences of the rule of the desk give each task its fate. So a step that keeps fates keeps the rule.
use Rattle.std.proofs.Common.{◌≡◌, ℕ, zero, suc, ◌+◌, ◌<◌, eqb, Bool, true, false, sym, refl, ap, subst, ◌∙◌, ⊎_elim, arith, Option, eq-eqb, ne_eqb, length, inl, inr}
use Rattle.std.proofs.lemmas.Bool.{false≢true}
use Rattle.std.specs.Prelude.{slice_index}
use mathlib.Core.Option.{some-injective}
use mathlib.Core.Logic.{dite}
use native.Mathlib.Decide.{ℕ_discrete, dec_lt}
use Rattle.atomic_table.specs.Table.{Allows, Me}
use Rattle.result_table.specs.declared.updates.Updates.{Ghosts}
use Rattle.result_table.specs.Views.{DeskState, has, is_number}
use Rattle.result_table.specs.Rule.{DeskRule, IsView, IsClaimed, IsPublished, IsCollected}
use Rattle.result_table.specs.Words.{code}
use Rattle.result_table.specs.declared.view.View.{View}
use Rattle.result_table.specs.declared.view.Brief.{Brief}
use Rattle.result_table.specs.declared.done.Done.{Done}
use Rattle.result_table.proofs.Fates.{Fate, unclaimed, claimed, filled, published, gathered, idle, busy, overtaken, late, claims, Fits, marks, FitsTask, Holds}
use Rattle.result_table.proofs.Marked.{by_eqb, at_below}
use Rattle.result_table.proofs.Sentences.{there, rule_from}

pub refuted : (c : Bool) → (c ≡ true → ⊥) → c ≡ false
refuted true not = absurd (not refl)
refuted false not = refl

-- a test that only seat t passes
only_there : (t i : ℕ) (c : Bool) → (i ≡ t → c ≡ true) → (c ≡ true → i ≡ t) → c ≡ eqb t i
only_there t i c here there = dite (ℕ_discrete t i) (λ is. here (sym is) ∙ sym (eq-eqb t i is)) (λ not. refuted c (λ e. not (sym (there e))) ∙ sym (ne_eqb t i not))

by_bool : {P : Type 0} (c : Bool) → (c ≡ true → P) → (c ≡ false → P) → P
by_bool true yes_ no_ = yes_ refl
by_bool false yes_ no_ = no_ refl

module _ {S : Type 0} {g : Ghosts S} (b : Brief S) (s : DeskState S g) (rule : DeskRule b s) where
  first : (v : View S) × IsView s 0 v
  first = there s.views 0 rule.some_seat

  -- what is known of task k where its fate is f
  record About (k : ℕ) (f : Fate) : Type 0 where
    task : k < b.size → FitsTask b.solver.value s.words s.homes k f
    known : (t : ℕ) → claims f t ≡ true → t < length s.views
    each : (i : ℕ) (v : View S) → IsView s i v → k < b.size → Fits i (marks v k) f

  module _ (k : ℕ) (below : k < b.size) where
    late_claimed : (i : ℕ) (v : View S) → IsView s i v → has v.late k ≡ true → has v.claimed k ≡ true
    late_claimed i v at e = (rule.late k i v first.0 below at first.1 e).0

    pub published_is_claimed : IsPublished s k → IsClaimed s k
    published_is_claimed p = (p.0, p.1, p.2, rule.claimed_first k p.0 p.1 below p.2 p.3)

    -- what the first seat says of a task
    abbrev FirstSays : Bool → Bool → Bool → Type 0
    FirstSays gathered_ idle_ busy_ = (i : ℕ) (v : View S) → IsView s i v → i ≡ 0 → (has v.gathered k ≡ gathered_) × (has v.idle k ≡ idle_) × (has v.busy k ≡ busy_)

    uncollected : (¬ IsCollected s k) → FirstSays false false false
    uncollected not i v at z =
        let at0 : IsView s 0 v = subst (λ j. IsView s j v) z at in (
          refuted (has v.gathered k) (λ e. not (v, at0, inl e)),
          refuted (has v.idle k) (λ e. not (v, at0, inr (inl e))),
          refuted (has v.busy k) (λ e. not (v, at0, inr (inr e))),
        )

    same_view : (t : ℕ) (u : View S) → IsView s t u → (i : ℕ) (v : View S) → IsView s i v → i ≡ t → u ≡ v
    same_view t u here i v at is = some-injective u v (sym here ∙ subst (λ j. IsView s j v) is at)

    module _ (v0 : View S) (at0 : IsView s 0 v0) where
      first_gathered : has v0.gathered k ≡ true → FirstSays true false false
      first_gathered e i v at z =
          subst (λ (w : View S). (has w.gathered k ≡ true) × (has w.idle k ≡ false) × (has w.busy k ≡ false)) (same_view 0 v0 at0 i v at z) (
            e,
            refuted (has v0.idle k) (λ d. rule.idle k v0 below at0 d (published_is_claimed (rule.gathered k v0 below at0 e))),
            refuted (has v0.busy k) (λ d. (rule.busy k v0 below at0 d).1 (rule.gathered k v0 below at0 e)),
          )

      first_idle : has v0.idle k ≡ true → FirstSays false true false
      first_idle e i v at z =
          subst (λ (w : View S). (has w.gathered k ≡ false) × (has w.idle k ≡ true) × (has w.busy k ≡ false)) (same_view 0 v0 at0 i v at z) (
            refuted (has v0.gathered k) (λ d. rule.idle k v0 below at0 e (published_is_claimed (rule.gathered k v0 below at0 d))),
            e,
            refuted (has v0.busy k) (λ d. rule.idle k v0 below at0 e (rule.busy k v0 below at0 d).0),
          )

      first_busy : has v0.busy k ≡ true → FirstSays false false true
      first_busy e i v at z =
          subst (λ (w : View S). (has w.gathered k ≡ false) × (has w.idle k ≡ false) × (has w.busy k ≡ true)) (same_view 0 v0 at0 i v at z) (
            refuted (has v0.gathered k) (λ d. (rule.busy k v0 below at0 e).1 (rule.gathered k v0 below at0 d)),
            refuted (has v0.idle k) (λ d. rule.idle k v0 below at0 d (rule.busy k v0 below at0 e).0),
            e,
          )

    -- a task that nobody claimed
    module _ (none : ¬ IsClaimed s k) where
      nobody_claimed : (i : ℕ) (v : View S) → IsView s i v → has v.claimed k ≡ false
      nobody_claimed i v at = refuted (has v.claimed k) (λ e. none (i, v, at, e))

      nobody : (f : View S → Bool) → ((i : ℕ) (v : View S) → IsView s i v → f v ≡ true → has v.claimed k ≡ true) → (i : ℕ) (v : View S) → IsView s i v → f v ≡ false
      nobody f then i v at = refuted (f v) (λ e. none (i, v, at, then i v at e))

    -- a task that seat t claimed
    module _ (t : ℕ) (u : View S) (here : IsView s t u) (mine : has u.claimed k ≡ true) where
      is_owner : (i : ℕ) (v : View S) → IsView s i v → has v.claimed k ≡ true → i ≡ t
      is_owner i v at e = rule.one_claim k i t v u below at here e mine

      owner : (f : View S → Bool) → ((i : ℕ) (v : View S) → IsView s i v → f v ≡ true → has v.claimed k ≡ true) → f u ≡ true → (i : ℕ) (v : View S) → IsView s i v → f v ≡ eqb t i
      owner f then e i v at = only_there t i (f v) (λ is. ap f (sym (same_view t u here i v at is)) ∙ e) (λ d. is_owner i v at (then i v at d))

      not_owner : (f : View S → Bool) → ((i : ℕ) (v : View S) → IsView s i v → f v ≡ true → has v.claimed k ≡ true) → f u ≡ false → (i : ℕ) (v : View S) → IsView s i v → f v ≡ false
      not_owner f then e i v at = refuted (f v) (λ d. false≢true (sym e ∙ (ap f (same_view t u here i v at (is_owner i v at (then i v at d))) ∙ d)))

      owner_known : (i : ℕ) → eqb t i ≡ true → i < length s.views
      owner_known i e = by_eqb t i e (λ is. subst (λ j. j < length s.views) is (at_below s.views t u here))

      claims_it : (i : ℕ) (v : View S) → IsView s i v → has v.claimed k ≡ eqb t i
      claims_it = owner (λ v. has v.claimed k) (λ i v at e. e) mine

      publishes_it : has u.published k ≡ true → (i : ℕ) (v : View S) → IsView s i v → has v.published k ≡ eqb t i
      publishes_it = owner (λ v. has v.published k) (λ i v at e. rule.claimed_first k i v below at e)

      publishes_none : has u.published k ≡ false → (i : ℕ) (v : View S) → IsView s i v → has v.published k ≡ false
      publishes_none = not_owner (λ v. has v.published k) (λ i v at e. rule.claimed_first k i v below at e)

      fills_it : is_number u.filling k ≡ true → (i : ℕ) (v : View S) → IsView s i v → is_number v.filling k ≡ eqb t i
      fills_it = owner (λ v. is_number v.filling k) (λ i v at e. (rule.filling k i v below at e).0)

      fills_none : is_number u.filling k ≡ false → (i : ℕ) (v : View S) → IsView s i v → is_number v.filling k ≡ false
      fills_none = not_owner (λ v. is_number v.filling k) (λ i v at e. (rule.filling k i v below at e).0)

      late_it : has u.late k ≡ true → (i : ℕ) (v : View S) → IsView s i v → has v.late k ≡ eqb t i
      late_it = owner (λ v. has v.late k) late_claimed

      late_none : has u.late k ≡ false → (i : ℕ) (v : View S) → IsView s i v → has v.late k ≡ false
      late_none = not_owner (λ v. has v.late k) late_claimed

      -- a task that is not collected is not late
      not_late : (¬ IsCollected s k) → has u.late k ≡ false
      not_late not = refuted (has u.late k) (λ e. not (first.0, first.1, inr (inr (rule.late k t u first.0 below here first.1 e).1)))

      -- a published task is not being filled in
      not_filling : has u.published k ≡ true → is_number u.filling k ≡ false
      not_filling p = refuted (is_number u.filling k) (λ e. false≢true (sym (rule.filling k t u below here e).1 ∙ p))

    free_about : slice_index s.words (k + 1) ≡ 0 → About k unclaimed
    free_about w =
        let h = (rule.free k below).0 w in
        let says = uncollected h.1 in record {
          task = λ _. record { word = w; slot = rule.free_slot k below w };
          known = λ t e. absurd (false≢true e);
          each = λ i v at _. record {
            claimed = nobody_claimed h.0 i v at;
            published = nobody h.0 (λ v. has v.published k) (λ i v at e. rule.claimed_first k i v below at e) i v at;
            filling = nobody h.0 (λ v. is_number v.filling k) (λ i v at e. (rule.filling k i v below at e).0) i v at;
            late = nobody h.0 (λ v. has v.late k) late_claimed i v at;
            lost = λ e _. rule.lost k i v below at e w;
            gathered = λ z. (says i v at z).0;
            idle = λ z. (says i v at z).1;
            busy = λ z. (says i v at z).2;
          };
        }

    taken_about : (t : ℕ) → slice_index s.words (k + 1) ≡ t + 3 → (f : Fate) × About k f
    taken_about t w =
        let h = (rule.taken k t below).0 w in
        let u = h.0.0 in
        let here = h.0.1 in
        let mine = h.0.2 in
        let punctual = not_late t u here mine h.1 in
        let says = uncollected h.1 in
        by_bool (is_number u.filling k)
        (λ out. (
          filled t,
          record {
            task = λ _. record { word = w; slot = tt };
            known = owner_known t u here mine;
            each = λ i v at _. record {
              claimed = claims_it t u here mine i v at;
              published = publishes_none t u here mine h.0.3 i v at;
              filling = fills_it t u here mine out i v at;
              late = late_none t u here mine punctual i v at;
              lost = λ _ e. omega (arith, ap code e);
              gathered = λ z. (says i v at z).0;
              idle = λ z. (says i v at z).1;
              busy = λ z. (says i v at z).2;
            };
          },
        ))
        (λ rest. (
          claimed t,
          record {
            task = λ _. record { word = w; slot = rule.home k t u below here mine h.0.3 punctual rest };
            known = owner_known t u here mine;
            each = λ i v at _. record {
              claimed = claims_it t u here mine i v at;
              published = publishes_none t u here mine h.0.3 i v at;
              filling = fills_none t u here mine rest i v at;
              late = late_none t u here mine punctual i v at;
              lost = λ _ e. omega (arith, ap code e);
              gathered = λ z. (says i v at z).0;
              idle = λ z. (says i v at z).1;
              busy = λ z. (says i v at z).2;
            };
          },
        ))

    published_about : slice_index s.words (k + 1) ≡ 1 → (f : Fate) × About k f
    published_about w =
        let h = (rule.published k below).0 w in
        let t = h.0.0 in
        let u = h.0.1 in
        let here = h.0.2 in
        let mine = rule.claimed_first k t u below here h.0.3 in
        let says = uncollected h.1 in (
          published t,
          record {
            task = λ _. record { word = w; slot = rule.result k below w };
            known = owner_known t u here mine;
            each = λ i v at _. record {
              claimed = claims_it t u here mine i v at;
              published = publishes_it t u here mine h.0.3 i v at;
              filling = fills_none t u here mine (not_filling t u here mine h.0.3) i v at;
              late = late_none t u here mine (not_late t u here mine h.1) i v at;
              lost = λ _ e. omega (arith, ap code e);
              gathered = λ z. (says i v at z).0;
              idle = λ z. (says i v at z).1;
              busy = λ z. (says i v at z).2;
            };
          },
        )

    module _ (w : slice_index s.words (k + 1) ≡ 2) (v0 : View S) (at0 : IsView s 0 v0) where
      gathered_about : has v0.gathered k ≡ true → (f : Fate) × About k f
      gathered_about e =
          let p = rule.gathered k v0 below at0 e in
          let t = p.0 in
          let u = p.1 in
          let here = p.2 in
          let mine = rule.claimed_first k t u below here p.3 in
          let says = first_gathered v0 at0 e in
          let punctual = refuted (has u.late k) (λ d. (rule.busy k v0 below at0 (rule.late k t u v0 below here at0 d).1).1 p) in (
            gathered t,
            record {
              task = λ _. record { word = w; slot = tt };
              known = owner_known t u here mine;
              each = λ i v at _. record {
                claimed = claims_it t u here mine i v at;
                published = publishes_it t u here mine p.3 i v at;
                filling = fills_none t u here mine (not_filling t u here mine p.3) i v at;
                late = late_none t u here mine punctual i v at;
                lost = λ _ e. omega (arith, ap code e);
                gathered = λ z. (says i v at z).0;
                idle = λ z. (says i v at z).1;
                busy = λ z. (says i v at z).2;
              };
            },
          )

      idle_about : has v0.idle k ≡ true → (f : Fate) × About k f
      idle_about e =
          let none = rule.idle k v0 below at0 e in
          let says = first_idle v0 at0 e in (
            idle,
            record {
              task = λ _. record { word = w; slot = tt };
              known = λ t e. absurd (false≢true e);
              each = λ i v at _. record {
                claimed = nobody_claimed none i v at;
                published = nobody none (λ v. has v.published k) (λ i v at e. rule.claimed_first k i v below at e) i v at;
                filling = nobody none (λ v. is_number v.filling k) (λ i v at e. (rule.filling k i v below at e).0) i v at;
                late = nobody none (λ v. has v.late k) late_claimed i v at;
                lost = λ _ e. omega (arith, ap code e);
                gathered = λ z. (says i v at z).0;
                idle = λ z. (says i v at z).1;
                busy = λ z. (says i v at z).2;
              };
            },
          )

      busy_about : has v0.busy k ≡ true → (f : Fate) × About k f
      busy_about e =
          let c = rule.busy k v0 below at0 e in
          let t = c.0.0 in
          let u = c.0.1 in
          let here = c.0.2 in
          let mine = c.0.3 in
          let unpublished = refuted (has u.published k) (λ p. c.1 (t, u, here, p)) in
          let says = first_busy v0 at0 e in
          by_bool (has u.late k)
          (λ tardy. (
            late t,
            record {
              task = λ _. record { word = w; slot = tt };
              known = owner_known t u here mine;
              each = λ i v at _. record {
                claimed = claims_it t u here mine i v at;
                published = publishes_none t u here mine unpublished i v at;
                filling = fills_none t u here mine (refuted (is_number u.filling k) (λ d. false≢true (sym (rule.filling k t u below here d).2 ∙ tardy))) i v at;
                late = late_it t u here mine tardy i v at;
                lost = λ _ e. omega (arith, ap code e);
                gathered = λ z. (says i v at z).0;
                idle = λ z. (says i v at z).1;
                busy = λ z. (says i v at z).2;
              };
            },
          ))
          (λ punctual. by_bool (is_number u.filling k)
          (λ out. (
            overtaken t,
            record {
              task = λ _. record { word = w; slot = tt };
              known = owner_known t u here mine;
              each = λ i v at _. record {
                claimed = claims_it t u here mine i v at;
                published = publishes_none t u here mine unpublished i v at;
                filling = fills_it t u here mine out i v at;
                late = late_none t u here mine punctual i v at;
                lost = λ _ e. omega (arith, ap code e);
                gathered = λ z. (says i v at z).0;
                idle = λ z. (says i v at z).1;
                busy = λ z. (says i v at z).2;
              };
            },
          ))
          (λ rest. (
            busy t,
            record {
              task = λ _. record { word = w; slot = rule.home k t u below here mine unpublished punctual rest };
              known = owner_known t u here mine;
              each = λ i v at _. record {
                claimed = claims_it t u here mine i v at;
                published = publishes_none t u here mine unpublished i v at;
                filling = fills_none t u here mine rest i v at;
                late = late_none t u here mine punctual i v at;
                lost = λ _ e. omega (arith, ap code e);
                gathered = λ z. (says i v at z).0;
                idle = λ z. (says i v at z).1;
                busy = λ z. (says i v at z).2;
              };
            },
          )))

    about_by : (n : ℕ) → slice_index s.words (k + 1) ≡ n → (f : Fate) × About k f
    about_by zero w = (unclaimed, free_about w)
    about_by (suc zero) w = published_about w
    about_by (suc (suc zero)) w =
        let c = (rule.collected k below).0 w in
        ⊎_elim (λ e. gathered_about w c.0 c.1 e) (λ h. ⊎_elim (λ e. idle_about w c.0 c.1 e) (λ e. busy_about w c.0 c.1 e) h) c.2
    about_by (suc (suc (suc n))) w = taken_about n (w ∙ omega arith)

  -- each number's fate; a number that is no task's has none
  about : (k : ℕ) → (f : Fate) × About k f
  about k = dite (dec_lt k b.size)
      (λ below. about_by k below (slice_index s.words (k + 1)) refl)
      (λ not. (unclaimed, record { task = λ below. absurd (not below); known = λ t e. absurd (false≢true e); each = λ i v at below. absurd (not below) }))

  pub fates_from : Holds b s
  fates_from = (
    λ k. (about k).0,
    record {
      length_is = rule.words;
      zero_is = rule.extra;
      some_seat = rule.some_seat;
      tasks = λ k below. (about k).1.task below;
      known = λ k t e. (about k).1.known t e;
      seats = λ i v at. record {
        number = rule.numbers i v at;
        solver_is = rule.solver i v at;
        made_is = λ z. rule.made v (subst (λ j. IsView s j v) z at);
        each = λ k below. (about k).1.each i v at below;
      };
    },
  )

module _ {S : Type 0} {g : Ghosts S} where
  -- a step that keeps the fates keeps the rule
  pub allows_by : (b : Brief S) (slots id i : ℕ) (me : Me (Option (Done S g)) (View S)) (f : ℕ → ℕ) (then : ℕ → Me (Option (Done S g)) (View S) → Type 0)
      → Allows (Holds {S = S} {g = g} b) slots id me i f then → Allows (DeskRule {S = S} {g = g} b) slots id me i f then
  allows_by b slots id i me f then step s rule wide at fits = let next = step s (fates_from b s rule) wide at fits in (next.0, next.1, next.2, rule_from b _ next.3, next.4)
