-- A plan has one fate: its moments follow from one another, and where it ends early it does so in one way.
use Rattle.std.proofs.Common.{◌≡◌, ◌<◌, ◌≤◌, ◌+◌, ◌++◌, ℕ, zero, suc, Bool, true, false, List, inl, inr, arith, ap, sym, subst, ◌∙◌}
use Rattle.std.proofs.Math.Nat.{eq-or-lt_of_le}
use Rattle.std.proofs.lemmas.Bool.{cases_lt}
use Rattle.peano_keys.specs.declared.cell.CellKey.{CellKey}
use Rattle.peano_keys.specs.Grid.{Spacetree}
use Rattle.peano_keys.specs.Field.{States}
use Rattle.solver_api.specs.Step.{Overflows}
use Rattle.volume_solver.specs.Any.{updated_by, marked_by, parts_in}
use Rattle.spacetree.specs.Opening.{OpensField}
use Rattle.spacetree.specs.Build.{IsTooLarge}
use Rattle.spacetree.specs.Evaluation.{IsServedStep, Crowds}
use Rattle.spacetree.proofs.Unique.{Both, one_opening, one_opening_field, one_step, one_leaf, one_size, served_or_over, served_or_crowded, over_or_crowded}
use Rattle.grid_file.specs.declared.plan.Plan.{Plan}
use Rattle.peano_run.specs.declared.answer.Answer.{Answer}
use Rattle.peano_run.specs.declared.answer.Answer.TheVariants.{Limit, Crowded, Overflow}
use Rattle.peano_run.specs.declared.answer.LimitKind.TheVariants.{Cells, Lines}
use Rattle.curve_cuts.specs.Cuts.{Cuts}
use Rattle.curve_cuts.specs.Keys.{CutPoints, cuts_of}
use Rattle.field_report.specs.Traffic.{traffic_block}
use Rattle.grid_file.specs.Plan.{printed}
use Rattle.step_driver.specs.Starts.{AreEqualKeys}
use Rattle.step_driver.proofs.Rests.{one_traffic}
use Rattle.peano_run.specs.declared.asked.Request.{Request}
use Rattle.peano_run.specs.Report.{Moment, Starts, IsNextMoment, Reaches, GoesOn, IsReportOf, HasManyLines, at_start, in_step, PlanOverflows, PlanCrowds, IsAdded, IsAddedIf, IsTrafficText, most_lines, shows_traffic, fields_text, added_lines}
use Rattle.peano_run.proofs.Blocks.{last_moment}
use Rattle.step_driver.specs.Notes.{recuts_in}
use Rattle.step_driver.specs.Advances.{AreKeysAfter}
use Rattle.peano_run.proofs.OneKeys.{one_keys}
use Rattle.peano_run.proofs.CutKeys.{one_keys_after}

-- how a plan that has no report ends
pub data Fate (r : Request) (plan : Plan) (a : Answer) : Type 0 where
  too_large : a ≡ Limit Cells 200000 → IsTooLarge plan.shape → Fate r plan a
  too_long : a ≡ Limit Lines most_lines → HasManyLines r plan → Fate r plan a
  overflows : (step : ℕ) (leaf : CellKey) → a ≡ Overflow step leaf → PlanOverflows r plan step leaf → Fate r plan a
  crowded : (step cells : ℕ) → a ≡ Crowded step cells → PlanCrowds r plan step cells → Fate r plan a

module _ (r : Request) (plan : Plan) where
  one_printed : (b : Bool) (k : Cuts) (step : ℕ) (g : Spacetree) (f : States) (x y : List ℕ) → IsAddedIf b r plan k step g f x → IsAddedIf b r plan k step g f y → x ≡ y
  one_printed true k step g f x y h j = h.text_is ∙ ap (λ t. fields_text r plan step f ++ t) (one_told (shows_traffic r.show) k step g h.traffic j.traffic h.told j.told) ∙ sym j.text_is
    where
      one_told : (b : Bool) (k : Cuts) (step : ℕ) (g : Spacetree) (x y : List ℕ) → IsTrafficText b k step g x → IsTrafficText b k step g y → x ≡ y
      one_told true k step g x y h j = h.2 ∙ ap (traffic_block step) (one_traffic k g h.0 j.0 h.1 j.1) ∙ sym j.2
      one_told false k step g x y h j = h ∙ sym j
  one_printed false k step g f x y h j = h ∙ sym j

  one_added : (k : Cuts) (step : ℕ) (g : Spacetree) (f : States) (x y : List ℕ) → IsAdded r plan k step g f x → IsAdded r plan k step g f y → x ≡ y
  one_added k step g f x y h j = one_printed (printed plan step) k step g f x y h j

  one_start : (m k : Moment) → Starts r plan m → Starts r plan k → m ≡ k
  one_start m k h g =
      let grids : m.grid ≡ k.grid = one_opening plan.shape m.grid k.grid h.grid g.grid in
      let fields : m.field ≡ k.field = one_opening_field k.grid plan.fills (parts_in plan.solver) m.field k.field (subst (λ (t : Spacetree). OpensField t plan.fills (parts_in plan.solver) m.field) grids h.field) g.field in
      let keys : m.keys ≡ k.keys = one_keys plan.shape.depth k.grid r.trees m.keys k.keys (subst (λ (t : Spacetree). AreEqualKeys plan.shape.depth t r.trees m.keys) grids h.keys) g.keys in
      let text = subst (λ (p : CutPoints). IsAdded r plan (cuts_of p) 0 k.grid k.field m.text) keys (subst (λ (f : States). IsAdded r plan (cuts_of m.keys) 0 k.grid f m.text) fields (subst (λ (t : Spacetree). IsAdded r plan (cuts_of m.keys) 0 t m.field m.text) grids h.text)) in
      let texts : m.text ≡ k.text = one_added (cuts_of k.keys) 0 k.grid k.field m.text k.text text g.text in
      let lines : m.lines ≡ k.lines = h.lines ∙ ap (added_lines r plan 0) fields ∙ sym g.lines in
      λ i. record { keys = keys i; grid = grids i; field = fields i; text = texts i; lines = lines i }

  one_next : (step : ℕ) (before m k : Moment) → IsNextMoment r plan step before m → IsNextMoment r plan step before k → m ≡ k
  one_next step before m k h g =
      let both : ◌≡◌ {A = Both} (m.grid, m.field) (k.grid, k.field) = one_step (updated_by plan.solver) (marked_by plan.solver) before.grid before.field m.grid m.field k.grid k.field h.taken.step g.taken.step in
      let fields : m.field ≡ k.field = ap (λ (p : Both). p.1) both in
      let recuts : Bool = recuts_in plan.recut_every step in
      let keys : m.keys ≡ k.keys = one_keys_after recuts k.grid before.keys m.keys k.keys (subst (λ (p : Both). AreKeysAfter recuts p.0 before.keys m.keys) both h.keys) g.keys in
      let shown = subst (λ (q : CutPoints). IsAdded r plan (cuts_of q) step k.grid k.field h.added) keys (subst (λ (p : Both). IsAdded r plan (cuts_of m.keys) step p.0 p.1 h.added) both h.shown) in
      let texts : m.text ≡ k.text = h.text ∙ ap (λ t. before.text ++ t) (one_added (cuts_of k.keys) step k.grid k.field h.added g.added shown g.shown) ∙ sym g.text in
      let lines : m.lines ≡ k.lines = h.lines ∙ ap (λ (f : States). before.lines + added_lines r plan step f) fields ∙ sym g.lines in
      λ i. record { keys = keys i; grid = (both i).0; field = (both i).1; text = texts i; lines = lines i }

  -- after so many steps a plan comes to one moment
  pub one_moment : (n : ℕ) (m k : Moment) → Reaches r plan n m → Reaches r plan n k → m ≡ k
  one_moment zero m k h g = one_start m k h g
  one_moment (suc n) m k h g =
      let same : h.0 ≡ g.0 = one_moment n h.0 g.0 h.1 g.1 in
      one_next (suc n) g.0 m k (subst (λ (b : Moment). IsNextMoment r plan (suc n) b m) same h.2) g.2

  opening : (n : ℕ) (m : Moment) → Reaches r plan n m → (k : Moment) × Starts r plan k
  opening zero m h = (m, h)
  opening (suc n) m h = opening n h.0 h.1

  -- on the way to a later moment a plan goes on from each earlier one
  passes : (n : ℕ) (m : Moment) (s : ℕ) → s < n → Reaches r plan n m → (b : Moment) × (a : Moment) × GoesOn r plan s b × IsNextMoment r plan (suc s) b a
  passes zero m s lt h = absurd (omega arith)
  passes (suc n) m s lt h =
      let le : s ≤ n = omega arith in
      elim (eq-or-lt_of_le le) [
        | inl e ↦ (h.0, m, subst (λ k. GoesOn r plan k h.0) (sym e) (record { reached = h.1; room = h.2.room }), subst (λ k. IsNextMoment r plan (suc k) h.0 m) (sym e) h.2)
        | inr l ↦ passes n h.0 s l h.1
      ]

  not_large : IsTooLarge plan.shape → (n : ℕ) (m : Moment) → Reaches r plan n m → ⊥
  not_large large n m h =
      let start = opening n m h in
      absurd (omega (arith, large.grids start.0.grid start.1.grid, start.1.room))

  -- a plan that goes on from a moment went on from its first one
  goes_from_start : (n : ℕ) (m : Moment) → GoesOn r plan n m → (b : Moment) × GoesOn r plan 0 b
  goes_from_start zero m h = (m, h)
  goes_from_start (suc n) m h = let part = passes (suc n) m 0 (omega arith) h.reached in (part.0, part.2)

  -- it has no more lines than there may be where it goes on
  few_at : (n : ℕ) (before : Moment) (g : Spacetree) (f : States) (m : Moment) → GoesOn r plan n before → IsServedStep (updated_by plan.solver) (marked_by plan.solver) before.grid before.field g f → most_lines < before.lines + added_lines r plan (suc n) f → GoesOn r plan (suc n) m → ⊥
  few_at n before g f m on taken many h =
      let b = h.reached.0 in
      let follows = h.reached.2 in
      let same : b ≡ before = one_moment n b before h.reached.1 on.reached in
      let next = subst (λ (k : Moment). IsNextMoment r plan (suc n) k m) same follows in
      let both : ◌≡◌ {A = Both} (m.grid, m.field) (g, f) = one_step (updated_by plan.solver) (marked_by plan.solver) before.grid before.field m.grid m.field g f next.taken.step taken.step in
      let lines : m.lines ≡ before.lines + added_lines r plan (suc n) f = next.lines ∙ ap (λ (p : Both). before.lines + added_lines r plan (suc n) p.1) both in
      let room = h.room in
      omega (arith, lines, many, room)

  -- the step at which a plan has too many lines
  abbrev long_at : HasManyLines r plan → ℕ
  long_at (at_start g f grid room field many) = 0
  long_at (in_step n before g f more on taken many) = suc n

  not_long : (long : HasManyLines r plan) (n : ℕ) (m : Moment) → GoesOn r plan n m → long_at long ≤ n → ⊥
  not_long (at_start g f grid room field many) n m h le =
      let first = goes_from_start n m h in
      let b = first.0 in
      let start = first.1.reached in
      let grids : b.grid ≡ g = one_opening plan.shape b.grid g start.grid grid in
      let fields : b.field ≡ f = one_opening_field g plan.fills (parts_in plan.solver) b.field f (subst (λ (t : Spacetree). OpensField t plan.fills (parts_in plan.solver) b.field) grids start.field) field in
      let lines : b.lines ≡ added_lines r plan 0 f = start.lines ∙ ap (added_lines r plan 0) fields in
      let low = first.1.room in
      omega (arith, lines, many, low)
  not_long (in_step k before g f more on taken many) n m h le =
      elim (eq-or-lt_of_le le) [
        | inl e ↦ few_at k before g f m on taken many (subst (λ i. GoesOn r plan i m) (sym e) h)
        | inr l ↦ (let part = passes n m (suc k) l h.reached in few_at k before g f part.0 on taken many part.2)
      ]

  not_over : (step : ℕ) (leaf : CellKey) (o : PlanOverflows r plan step leaf) (n : ℕ) (m : Moment) → Reaches r plan n m → o.before < n → ⊥
  not_over step leaf o n m h l =
      let part = passes n m o.before l h in
      let same : o.last ≡ part.0 = one_moment o.before o.last part.0 o.reached.reached part.2.reached in
      served_or_over (updated_by plan.solver) (marked_by plan.solver) part.0.grid part.0.field part.1.grid part.1.field leaf part.3.taken (subst (λ (k : Moment). Overflows (updated_by plan.solver) k.grid k.field leaf) same o.overflows)

  not_crowded : (step cells : ℕ) (c : PlanCrowds r plan step cells) (n : ℕ) (m : Moment) → Reaches r plan n m → c.before < n → ⊥
  not_crowded step cells c n m h l =
      let part = passes n m c.before l h in
      let same : c.last ≡ part.0 = one_moment c.before c.last part.0 c.reached.reached part.2.reached in
      served_or_crowded (updated_by plan.solver) (marked_by plan.solver) part.0.grid part.0.field part.1.grid part.1.field cells part.3.taken (subst (λ (k : Moment). Crowds (updated_by plan.solver) (marked_by plan.solver) k.grid k.field cells) same c.crowds)

  long_or_over : (long : HasManyLines r plan) (step : ℕ) (leaf : CellKey) → PlanOverflows r plan step leaf → ⊥
  long_or_over (at_start g f grid room field many) step leaf o = not_long (at_start g f grid room field many) o.before o.last o.reached (omega arith)
  long_or_over (in_step k before g f more on taken many) step leaf o = elim (cases_lt o.before k) [
    | inl l ↦ not_over step leaf o k before on.reached l
    | inr le ↦ elim (eq-or-lt_of_le le) [
      | inr l ↦ not_long (in_step k before g f more on taken many) o.before o.last o.reached l
      | inl e ↦ (let same : o.last ≡ before = one_moment k o.last before (subst (λ i. Reaches r plan i o.last) (sym e) o.reached.reached) on.reached in
          served_or_over (updated_by plan.solver) (marked_by plan.solver) before.grid before.field g f leaf taken (subst (λ (q : Moment). Overflows (updated_by plan.solver) q.grid q.field leaf) same o.overflows))
    ]
  ]

  long_or_crowded : (long : HasManyLines r plan) (step cells : ℕ) → PlanCrowds r plan step cells → ⊥
  long_or_crowded (at_start g f grid room field many) step cells c = not_long (at_start g f grid room field many) c.before c.last c.reached (omega arith)
  long_or_crowded (in_step k before g f more on taken many) step cells c = elim (cases_lt c.before k) [
    | inl l ↦ not_crowded step cells c k before on.reached l
    | inr le ↦ elim (eq-or-lt_of_le le) [
      | inr l ↦ not_long (in_step k before g f more on taken many) c.before c.last c.reached l
      | inl e ↦ (let same : c.last ≡ before = one_moment k c.last before (subst (λ i. Reaches r plan i c.last) (sym e) c.reached.reached) on.reached in
          served_or_crowded (updated_by plan.solver) (marked_by plan.solver) before.grid before.field g f cells taken (subst (λ (q : Moment). Crowds (updated_by plan.solver) (marked_by plan.solver) q.grid q.field cells) same c.crowds))
    ]
  ]

  large_or_long : IsTooLarge plan.shape → HasManyLines r plan → ⊥
  large_or_long large (at_start g f grid room field many) = (let more = large.grids g grid in omega (arith, more, room))
  large_or_long large (in_step k before g f more on taken many) = not_large large k before on.reached

  crowded_or_over : (step : ℕ) (leaf : CellKey) (late cells : ℕ) → PlanOverflows r plan step leaf → PlanCrowds r plan late cells → ⊥
  crowded_or_over step leaf late cells o c = elim (cases_lt o.before c.before) [
    | inl l ↦ not_over step leaf o c.before c.last c.reached.reached l
    | inr le ↦ elim (eq-or-lt_of_le le) [
      | inr l ↦ not_crowded late cells c o.before o.last o.reached.reached l
      | inl e ↦ (let same : c.last ≡ o.last = one_moment o.before c.last o.last (subst (λ k. Reaches r plan k c.last) e c.reached.reached) o.reached.reached in
          over_or_crowded (updated_by plan.solver) (marked_by plan.solver) o.last.grid o.last.field leaf cells o.overflows (subst (λ (k : Moment). Crowds (updated_by plan.solver) (marked_by plan.solver) k.grid k.field cells) same c.crowds))
    ]
  ]

  one_over : (step : ℕ) (leaf : CellKey) (late : ℕ) (other : CellKey) → PlanOverflows r plan step leaf → PlanOverflows r plan late other → Overflow step leaf ≡ Overflow late other
  one_over step leaf late other o p = elim (cases_lt o.before p.before) [
    | inl l ↦ absurd (not_over step leaf o p.before p.last p.reached.reached l)
    | inr le ↦ elim (eq-or-lt_of_le le) [
      | inr l ↦ absurd (not_over late other p o.before o.last o.reached.reached l)
      | inl e ↦ (let same : p.last ≡ o.last = one_moment o.before p.last o.last (subst (λ k. Reaches r plan k p.last) e p.reached.reached) o.reached.reached in
          let steps : step ≡ late = o.step_is ∙ ap suc (sym e) ∙ sym p.step_is in
          let leaves : leaf ≡ other = one_leaf (updated_by plan.solver) (marked_by plan.solver) o.last.grid o.last.field leaf other o.overflows (subst (λ (k : Moment). Overflows (updated_by plan.solver) k.grid k.field other) same p.overflows) in
          λ i. Overflow (steps i) (leaves i))
    ]
  ]

  one_crowd : (step cells late others : ℕ) → PlanCrowds r plan step cells → PlanCrowds r plan late others → Crowded step cells ≡ Crowded late others
  one_crowd step cells late others c d = elim (cases_lt c.before d.before) [
    | inl l ↦ absurd (not_crowded step cells c d.before d.last d.reached.reached l)
    | inr le ↦ elim (eq-or-lt_of_le le) [
      | inr l ↦ absurd (not_crowded late others d c.before c.last c.reached.reached l)
      | inl e ↦ (let same : d.last ≡ c.last = one_moment c.before d.last c.last (subst (λ k. Reaches r plan k d.last) e d.reached.reached) c.reached.reached in
          let steps : step ≡ late = c.step_is ∙ ap suc (sym e) ∙ sym d.step_is in
          let sizes : cells ≡ others = one_size (updated_by plan.solver) (marked_by plan.solver) c.last.grid c.last.field cells others c.crowds (subst (λ (k : Moment). Crowds (updated_by plan.solver) (marked_by plan.solver) k.grid k.field others) same d.crowds) in
          λ i. Crowded (steps i) (sizes i))
    ]
  ]

  -- a plan has one fate
  pub one_fate : (a b : Answer) → Fate r plan a → Fate r plan b → a ≡ b
  one_fate a b (too_large p x) (too_large q y) = p ∙ sym q
  one_fate a b (too_large p x) (too_long q y) = absurd (large_or_long x y)
  one_fate a b (too_large p x) (overflows s l q y) = absurd (not_large x y.before y.last y.reached.reached)
  one_fate a b (too_large p x) (crowded s n q y) = absurd (not_large x y.before y.last y.reached.reached)
  one_fate a b (too_long p x) (too_large q y) = absurd (large_or_long y x)
  one_fate a b (too_long p x) (too_long q y) = p ∙ sym q
  one_fate a b (too_long p x) (overflows s l q y) = absurd (long_or_over x s l y)
  one_fate a b (too_long p x) (crowded s n q y) = absurd (long_or_crowded x s n y)
  one_fate a b (overflows s l p x) (too_large q y) = absurd (not_large y x.before x.last x.reached.reached)
  one_fate a b (overflows s l p x) (too_long q y) = absurd (long_or_over y s l x)
  one_fate a b (overflows s l p x) (overflows t m q y) = p ∙ one_over s l t m x y ∙ sym q
  one_fate a b (overflows s l p x) (crowded t n q y) = absurd (crowded_or_over s l t n x y)
  one_fate a b (crowded s n p x) (too_large q y) = absurd (not_large y x.before x.last x.reached.reached)
  one_fate a b (crowded s n p x) (too_long q y) = absurd (long_or_crowded y s n x)
  one_fate a b (crowded s n p x) (overflows t l q y) = absurd (crowded_or_over t l s n y x)
  one_fate a b (crowded s n p x) (crowded t m q y) = p ∙ one_crowd s n t m x y ∙ sym q

  within : (long : HasManyLines r plan) → long_at long ≤ plan.steps
  within (at_start g f grid room field many) = omega arith
  within (in_step k before g f more on taken many) = more

  -- and none where it has a report
  pub no_fate : (text : List ℕ) (a : Answer) → IsReportOf r plan text → Fate r plan a → ⊥
  no_fate text a is (too_large p x) = let last = last_moment r plan text is in not_large x plan.steps last.0 last.1.reached
  no_fate text a is (too_long p x) = let last = last_moment r plan text is in not_long x plan.steps last.0 last.1 (within x)
  no_fate text a is (overflows s l p x) = let last = last_moment r plan text is in not_over s l x plan.steps last.0 last.1.reached (omega (arith, x.step_is, x.within))
  no_fate text a is (crowded s n p x) = let last = last_moment r plan text is in not_crowded s n x plan.steps last.0 last.1.reached (omega (arith, x.step_is, x.within))
