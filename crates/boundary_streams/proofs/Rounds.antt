-- Which trees meet the intervals round a vertex, one interval after another.
use Rattle.std.proofs.Common.{◌≡◌, ℕ, ◌+◌, ◌-◌, ◌<◌, ◌≤◌, ◌==◌, ◌&&◌, ◌||◌, Bool, true, false, not, List, take, length, refl, ap, sym, ◌∙◌, arith}
use Rattle.std.proofs.lemmas.List.{take_all}
use Rattle.std.proofs.lemmas.List.Folds.{list_any_more}
use Rattle.peano_keys.specs.declared.vertex.VertexKey.{VertexKey}
use Rattle.peano_curve.specs.declared.range.Range.{Range}
use Rattle.peano_curve.specs.Run.{Holds, Meets}
use Rattle.curve_cuts.specs.Cuts.{Cuts, AreCuts, range_of}
use Rattle.curve_cuts.proofs.Cuts.{ranges_in_order, rises}
use Rattle.sweep_visits.specs.Plan.{ranges_meet}
use Rattle.boundary_streams.specs.Holders.{is_sent}
use Rattle.boundary_streams.specs.Sendings.{intervals_round, interval_in, is_any_met, is_met_before, is_met_first}
use Rattle.boundary_streams.proofs.Holders.{any_is, false_or_true, met}

none_of : (x y m : Bool) → m ≡ false → (x && (y && m)) ≡ false
none_of true true m h = h
none_of true false m h = refl
none_of false y m h = refl

module _ (k : Cuts) (s : ℕ) (rs : List Range) (n t : ℕ) where
  -- a tree whose range does not meet the interval
  not_met : (Meets (interval_in rs n) (range_of k t) → ⊥) → is_met_first k s rs n t ≡ false
  not_met none = none_of (not (t == s)) (not (is_any_met (range_of k t) (take n rs))) (ranges_meet (interval_in rs n) (range_of k t)) (false_or_true (ranges_meet (interval_in rs n) (range_of k t)) (λ h. none (met (interval_in rs n) (range_of k t) h)))

  -- no tree meets an empty interval
  pub empty_not_met : (interval_in rs n).hi ≤ (interval_in rs n).lo → is_met_first k s rs n t ≡ false
  empty_not_met empty = not_met (λ m. absurd (omega (arith, empty, m.1.0, m.1.1)))

  -- no tree before the one of the first position
  pub not_met_before : (first : ℕ) → AreCuts k → first < k.trees → Holds (range_of k first) (interval_in rs n).lo → t < first → is_met_first k s rs n t ≡ false
  not_met_before first cuts tree holds below =
      let order : (range_of k t).hi ≤ (range_of k first).lo = ranges_in_order k t first cuts below tree in
      not_met (λ m. absurd (omega (arith, order, holds.0, m.1.0, m.2.1)))

  -- none from one on whose range begins behind the last position
  pub not_met_behind : (other : ℕ) → AreCuts k → (interval_in rs n).hi ≤ (range_of k other).lo → other ≤ t → t < k.trees → is_met_first k s rs n t ≡ false
  not_met_behind other cuts behind above tree =
      let e : other + (t - other) ≡ t = omega (arith, above) in
      let later : k.start other ≤ k.start (other + (t - other)) = rises k cuts other (t - other) (omega (arith, e, tree)) in
      let at : k.start (other + (t - other)) ≡ k.start t = ap k.start e in
      not_met (λ m. absurd (omega (arith, behind, later, at, m.1.1, m.2.0)))

split : (e a m : Bool) → (e && (a || m)) ≡ ((e && a) || (e && (not a && m)))
split true true m = refl
split true false m = refl
split false a m = refl

once : (e a m : Bool) → ((e && a) && (e && (not a && m))) ≡ false
once true true m = refl
once true false m = refl
once false a m = refl

-- a tree meets one of the first intervals and the next one: one of the first, or the next one first
pub met_before_more : (k : Cuts) (s : ℕ) (rs : List Range) (n t : ℕ) → n < length rs → is_met_before k s rs (n + 1) t ≡ (is_met_before k s rs n t || is_met_first k s rs n t)
met_before_more k s rs n t inside =
    ap (λ b. not (t == s) && b) (list_any_more (λ r. ranges_meet r (range_of k t)) rs n (record { lo = 0; hi = 0 }) inside)
    ∙ split (not (t == s)) (is_any_met (range_of k t) (take n rs)) (ranges_meet (interval_in rs n) (range_of k t))

-- and not both
pub met_once : (k : Cuts) (s : ℕ) (rs : List Range) (n t : ℕ) → (is_met_before k s rs n t && is_met_first k s rs n t) ≡ false
met_once k s rs n t = once (not (t == s)) (is_any_met (range_of k t) (take n rs)) (ranges_meet (interval_in rs n) (range_of k t))

and_false : (b : Bool) → (b && false) ≡ false
and_false true = refl
and_false false = refl

-- before the first interval none is met
pub none_met_before : (k : Cuts) (s : ℕ) (rs : List Range) (t : ℕ) → is_met_before k s rs 0 t ≡ false
none_met_before k s rs t = and_false (not (t == s))

-- a vertex is sent to the trees that meet one of the intervals of all positions round it
pub sent_is_met : (k : Cuts) (s : ℕ) (v : VertexKey) (rs : List Range) (n t : ℕ) → rs ≡ intervals_round k v → length rs ≤ n → is_met_before k s rs n t ≡ is_sent k s t v
sent_is_met k s v rs n t round all =
    ap (λ xs. not (t == s) && is_any_met (range_of k t) xs) (take_all n rs all ∙ round)
    ∙ ap (λ b. not (t == s) && b) (any_is k t v)
