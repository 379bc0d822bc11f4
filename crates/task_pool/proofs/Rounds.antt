-- The rounds of a helper, one after another.
use Rattle.std.proofs.Common.{◌≡◌, ℕ, ◌+◌, ◌<◌, ◌≤◌, cond, eqb, Bool, true, false, List, ◌∷◌, sym, ap, subst, arith}
use Rattle.task_pool.specs.declared.shift.Shift.{Shift}
use Rattle.task_pool.specs.declared.shift.Work.{Work}
use Rattle.task_pool.specs.Shifts.{GoesOn, IsOver, quiet_for, taken_in, WentOn, EndsAfter, after_round}

-- the rounds that lead to where the work stands
abbrev pub Stands : ℕ → Shift → Type 0
Stands all s = (rounds : List ℕ) × (quiet_for rounds ≡ s.quiet) × (taken_in rounds ≡ s.taken) × WentOn all rounds

-- one round more
pub stands_more : (all : ℕ) (s t : Shift) (w : Work) → Stands all s → GoesOn all s.quiet s.taken → t ≡ after_round s w → Stands all t
stands_more all s t w h goes is = subst (Stands all) (sym is) (
  w.taken ∷ h.0,
  ap (λ q. cond (eqb w.taken 0) (q + 1) 0) h.1,
  ap (λ n. n + w.taken) h.2,
  (subst (λ q. GoesOn all q (taken_in h.0)) (sym h.1) (subst (GoesOn all s.quiet) (sym h.2) goes), h.3),
)

-- the rounds of the whole call
pub ends_after : (all : ℕ) (s : Shift) → Stands all s → IsOver all s.quiet s.taken → (rounds : List ℕ) × EndsAfter all rounds × (taken_in rounds ≡ s.taken)
ends_after all s h over = (
  h.0,
  record { went = h.3; over = subst (λ q. IsOver all q (taken_in h.0)) (sym h.1) (subst (IsOver all s.quiet) (sym h.2) over) },
  h.2,
)

-- it is quiet for no longer than a helper is patient
pub patient_more : (s t : Shift) (w : Work) → s.quiet < 16384 → t ≡ after_round s w → t.quiet ≤ 16384
patient_more s t w small is = subst (λ (u : Shift). u.quiet ≤ 16384) (sym is) (by_test (eqb w.taken 0))
  where
    by_test : (b : Bool) → cond b (s.quiet + 1) 0 ≤ 16384
    by_test true = omega (arith, small)
    by_test false = omega arith
