-- A file has one outcome.
use Rattle.std.proofs.Common.{◌≡◌, ◌<◌, ◌≤◌, ◌⊎◌, inl, inr, ℕ, List, length, Result, Ok, Err, arith, ap, sym, subst, refl, ◌∙◌}
use Rattle.std.specs.Prelude.{is_ok}
use Rattle.std.proofs.lemmas.Bool.{false≢true}
use Rattle.grid_file.specs.declared.plan.Plan.{Plan}
use Rattle.grid_file.specs.declared.fault.Malformed.{Malformed as Place}
use Rattle.grid_file.specs.Plan.{plan_of}
use Rattle.peano_run.specs.declared.answer.Answer.{Answer}
use Rattle.peano_run.specs.declared.answer.Answer.TheVariants.{Done, Usage, ReadFault, TooLong, Malformed, Limit, Crowded, Overflow, WriteFault, NoMemory}
use Rattle.peano_run.specs.declared.answer.LimitKind.TheVariants.{Cells, Lines}
use Rattle.peano_run.specs.declared.asked.Request.{Request}
use Rattle.peano_run.specs.Report.{IsReport, IsReportOf, IsRefused, Moment, longest_input}
use Rattle.peano_run.proofs.Blocks.{last_moment}
use Rattle.peano_run.specs.Outcome.{OneReport, NoneIsBoth, OneRefusal}
use Rattle.peano_run.proofs.Fates.{Fate, too_large, too_long, overflows, crowded, one_moment, one_fate, no_fate}

-- what a refusal says of the bytes
data Verdict (q : Request) (bytes : List ℕ) (a : Answer) : Type 0 where
  beyond : a ≡ TooLong → longest_input < length bytes → Verdict q bytes a
  bad : (m : Place) → a ≡ Malformed m.code m.place → length bytes ≤ longest_input → plan_of bytes ≡ Err m → Verdict q bytes a
  planned : (plan : Plan) → length bytes ≤ longest_input → plan_of bytes ≡ Ok plan → Fate q plan a → Verdict q bytes a

verdict : (q : Request) (bytes : List ℕ) (a : Answer) → IsRefused q bytes a → (a ≡ NoMemory) ⊎ Verdict q bytes a
verdict q bytes Done h = absurd h
verdict q bytes Usage h = absurd h
verdict q bytes ReadFault h = absurd h
verdict q bytes TooLong h = inr (beyond refl h)
verdict q bytes (Malformed code place) h = inr (bad (record { code = code; place = place }) refl h.0 h.1)
verdict q bytes (Limit Cells number) h = inr (planned h.plan h.size h.read (too_large (ap (Limit Cells) h.holds.0) h.holds.1))
verdict q bytes (Limit Lines number) h = inr (planned h.plan h.size h.read (too_long (ap (Limit Lines) h.holds.0) h.holds.1))
verdict q bytes (Crowded step cells) h = inr (planned h.plan h.size h.read (crowded step cells refl h.holds))
verdict q bytes (Overflow step leaf) h = inr (planned h.plan h.size h.read (overflows step leaf refl h.holds))
verdict q bytes (WriteFault written) h = absurd h
verdict q bytes NoMemory h = inl refl

abbrev plan_or : Plan → Result Plan Place → Plan
plan_or other (Ok plan) = plan
plan_or other (Err m) = other

abbrev place_or : Place → Result Plan Place → Place
place_or other (Ok plan) = other
place_or other (Err m) = m

one_plan : (bytes : List ℕ) (p q : Plan) → plan_of bytes ≡ Ok p → plan_of bytes ≡ Ok q → p ≡ q
one_plan bytes p q h g = ap (plan_or p) (sym h ∙ g)

one_place : (bytes : List ℕ) (m n : Place) → plan_of bytes ≡ Err m → plan_of bytes ≡ Err n → m ≡ n
one_place bytes m n h g = ap (place_or m) (sym h ∙ g)

plan_or_place : (bytes : List ℕ) (p : Plan) (m : Place) → plan_of bytes ≡ Ok p → plan_of bytes ≡ Err m → ⊥
plan_or_place bytes p m h g = false≢true (ap is_ok (sym g ∙ h))

one_verdict : (r : Request) (bytes : List ℕ) (a b : Answer) → Verdict r bytes a → Verdict r bytes b → a ≡ b
one_verdict r bytes a b (beyond p x) (beyond q y) = p ∙ sym q
one_verdict r bytes a b (beyond p x) (bad m q y e) = absurd (omega (arith, x, y))
one_verdict r bytes a b (beyond p x) (planned plan y e fate) = absurd (omega (arith, x, y))
one_verdict r bytes a b (bad m p x e) (beyond q y) = absurd (omega (arith, x, y))
one_verdict r bytes a b (bad m p x e) (bad n q y g) = p ∙ ap (λ (k : Place). Malformed k.code k.place) (one_place bytes m n e g) ∙ sym q
one_verdict r bytes a b (bad m p x e) (planned plan y g fate) = absurd (plan_or_place bytes plan m g e)
one_verdict r bytes a b (planned plan x e fate) (beyond q y) = absurd (omega (arith, x, y))
one_verdict r bytes a b (planned plan x e fate) (bad m q y g) = absurd (plan_or_place bytes plan m e g)
one_verdict r bytes a b (planned plan x e fate) (planned other y g last) = one_fate r other a b (subst (λ (p : Plan). Fate r p a) (one_plan bytes plan other e g) fate) last

not_both : (q : Request) (bytes text : List ℕ) (a : Answer) → IsReport q bytes text → Verdict q bytes a → ⊥
not_both q bytes text a r (beyond p x) = absurd (omega (arith, x, r.size))
not_both q bytes text a r (bad m p x e) = plan_or_place bytes r.plan m r.read e
not_both q bytes text a r (planned plan x e fate) = no_fate q plan text a (subst (λ (p : Plan). IsReportOf q p text) (one_plan bytes r.plan plan r.read e) r.holds) fate

pub one_report : OneReport
one_report r bytes first second h g =
    let same : h.plan ≡ g.plan = one_plan bytes h.plan g.plan h.read g.read in
    let a = last_moment r g.plan first (subst (λ (p : Plan). IsReportOf r p first) same h.holds) in
    let b = last_moment r g.plan second g.holds in
    let last = one_moment r g.plan g.plan.steps a.0 b.0 a.1.reached b.1.reached in
    a.2 ∙ ap (λ (m : Moment). m.text) last ∙ sym b.2

pub none_is_both : NoneIsBoth
none_is_both r bytes text a report refused = elim (verdict r bytes a refused) [ inl e ↦ e | inr v ↦ absurd (not_both r bytes text a report v) ]

pub one_refusal : OneRefusal
one_refusal r bytes a b h g = elim (verdict r bytes a h) [
  | inl e ↦ inl e
  | inr v ↦ elim (verdict r bytes b g) [ inl e ↦ inr (inl e) | inr w ↦ inr (inr (one_verdict r bytes a b v w)) ]
]
