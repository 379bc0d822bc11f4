-- Visitors, call by call.
use Rattle.std.proofs.Common.{◌≡◌, ℕ, zero, suc, ◌+◌, ◌-◌, ◌<◌, ◌≤◌, Bool, true, false, refl, sym, ap, subst, ◌∙◌, arith}
use Rattle.std.proofs.lemmas.Bool.{false≢true}
use Rattle.peano_keys.specs.declared.cell.CellKey.{CellKey}
use Rattle.peano_keys.specs.declared.dim.Dim.{Dim}
use Rattle.peano_keys.specs.Cell.{IsCell, parent_of, centre_child, centre_digits}
use Rattle.peano_keys.specs.Grid.{is_refined}
use Rattle.peano_records.specs.declared.slot.Slot.{Slot}
use Rattle.spacetree.proofs.Children.{parent_of_child, third_digit}
use Rattle.spacetree.proofs.Values.{centre_is_digits}
use Rattle.curve_cuts.specs.Cuts.{Cuts, Owns}
use Rattle.adapt_marks.specs.Views.{IsCentre}
use Rattle.step_phases.specs.Change.{Change}
use Rattle.step_phases.specs.Phases.{HasNext}
use Rattle.step_phases.specs.Sweeps.{PrimaryChanges, IsIntentOf, SecondaryChanges}
use Rattle.step_calls.specs.Calls.{Calls}
use Rattle.step_calls.specs.Visitors.{PrimaryCall, PrimaryCalls, SecondaryCall, SecondaryCalls, Remembers, ParentFinds}
use Rattle.step_calls.proofs.Calls.{BothCalls, calls_make_sweep}

pub primary_calls : PrimaryCalls
primary_calls k w t s at fits visits made = calls_make_sweep k w.old t s (PrimaryCall k w t) (PrimaryChanges k w t) at fits visits made
    (λ c old new h. subst (PrimaryChanges k w t c old) (sym h.left) h.entered)
    (λ c old new none same. record {
      status = ap (λ (s : Slot). s.status) same;
      value = ap (λ (s : Slot). s.value) same;
      intent = ap (λ (s : Slot). s.intent) same;
      mark = λ owns. absurd (none owns);
      next = λ skeleton. absurd (none skeleton.0.owns);
    })

module _ (k : Cuts) (w : Change) (t : ℕ) (c : CellKey) (old new : Slot) (h : BothCalls (SecondaryCall k w t) c old new) where
  -- at a leaf the leave keeps what the enter did
  next_by : (b : Bool) → is_refined w.old c ≡ b → Owns k t c → HasNext w c new
  next_by true e owns = h.left.next owns e
  next_by false e owns = subst (HasNext w c) (sym (h.left.kept (λ r. false≢true (sym e ∙ r)))) (h.entered.next owns e)

  intent_by : (b : Bool) → is_refined w.old c ≡ b → Owns k t c → IsIntentOf w.old w.mark c new.intent
  intent_by true e owns = h.left.intent owns e
  intent_by false e owns = subst (λ (s : Slot). IsIntentOf w.old w.mark c s.intent) (sym (h.left.kept (λ r. false≢true (sym e ∙ r)))) (h.entered.intent owns e)

  pub secondary_at : SecondaryChanges k w t c old new
  secondary_at = record {
    status = h.left.status ∙ h.entered.status;
    value = h.left.value ∙ h.entered.value;
    mark = h.left.mark ∙ h.entered.mark;
    next = λ owns. next_by (is_refined w.old c) refl owns;
    intent = λ owns. intent_by (is_refined w.old c) refl owns;
  }

pub secondary_calls : SecondaryCalls
secondary_calls k w t s at fits visits made = calls_make_sweep k w.old t s (SecondaryCall k w t) (SecondaryChanges k w t) at fits visits made
    (λ c old new h. secondary_at k w t c old new h)
    (λ c old new none same. record {
      status = ap (λ (s : Slot). s.status) same;
      value = ap (λ (s : Slot). s.value) same;
      mark = ap (λ (s : Slot). s.mark) same;
      next = λ owns. absurd (none owns);
      intent = λ owns. absurd (none owns);
    })

-- what is remembered stands while nothing of that level is told
module _ (dim : Dim) (s : Calls) (told : ℕ → Bool) (memo : ℕ → ℕ → Bool) (rule : Remembers dim s told memo) where
  stands : (l a d : ℕ) → a + d ≤ s.count → ((m : ℕ) → a ≤ m → m < a + d → ¬ ((s.leaving m ≡ true) × IsCentre dim (s.cell m) × ((s.cell m).level ≡ l))) → memo (a + d) l ≡ memo a l
  stands l a zero h none = let e : a + 0 ≡ a = omega arith in ap (λ i. memo i l) e
  stands l a (suc d) h none =
      let e : a + suc d ≡ a + d + 1 = omega arith in
      ap (λ i. memo i l) e ∙ rule.keep (a + d) l (omega (arith, h)) (none (a + d) (omega arith) (omega arith)) ∙ stands l a d (omega (arith, h)) (λ m low high. none m low (omega (arith, high)))

pub own_parent : (dim : Dim) (p : CellKey) → IsCell dim p → parent_of (centre_child dim p) ≡ p
own_parent dim p cell = let d = centre_is_digits dim in parent_of_child p (centre_digits dim) cell.shape d.first d.second (third_digit dim (centre_digits dim) d)

pub is_centre : (dim : Dim) (p : CellKey) → IsCell dim p → IsCentre dim (centre_child dim p)
is_centre dim p cell = record { below = omega arith; centre = ap (centre_child dim) (sym (own_parent dim p cell)) }

pub parent_finds : ParentFinds
parent_finds dim s told memo p enter leave first last cell nested rule parent child after before =
    let c : CellKey = centre_child dim p in
    let put : memo (last + 1) (s.cell last).level ≡ told last = rule.put last child.within child.parting (subst (λ (q : CellKey). IsCentre dim q) (sym child.left) (is_centre dim p cell)) in
    let level : (s.cell last).level ≡ p.level + 1 = ap (λ (q : CellKey). q.level) child.left in
    let whole : last + 1 + (leave - (last + 1)) ≡ leave = omega (arith, before) in
    let still = stands dim s told memo rule (p.level + 1) (last + 1) (leave - (last + 1)) (omega (arith, whole, parent.within)) (λ m low high what.
    let inside = nested p enter leave m parent (omega (arith, after, child.order, low)) (omega (arith, high, whole)) in
    let same : s.cell m ≡ c = what.1.centre ∙ ap (centre_child dim) (inside.child what.2) in
    child.once m (omega (arith, high, whole, parent.within)) (λ e. absurd (omega (arith, e, low, child.order))) (λ e. absurd (omega (arith, e, low))) same) in
    ap (λ i. memo i (p.level + 1)) (sym whole) ∙ still ∙ ap (memo (last + 1)) (sym level) ∙ put
