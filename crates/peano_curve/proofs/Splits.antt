-- One split of boxes into three along an axis: how the order of the finer places follows from that of the coarser.
use Rattle.std.proofs.Common.{◌≡◌, ◌≢◌, ◌⊎◌, inl, inr, ℕ, zero, suc, ◌+◌, ◌*◌, ◌/◌, ◌%◌, ◌<◌, arith, ⊎_elim, refl, sym, ap, subst, ◌∙◌, Option, Some, None}
use Rattle.std.proofs.lemmas.Bool.Decides.{nat_tests}
use Rattle.std.proofs.lemmas.Bool.{cases_eq, cases_lt}
use Rattle.peano_curve.specs.declared.order.Direction.{Direction}
use Rattle.peano_curve.specs.declared.order.Direction.TheVariants.{Forward, Backward}
use Rattle.stack_law.specs.Digits.{turned}
use Rattle.peano_curve.specs.Run.{Later}
use Rattle.peano_curve.specs.Passing.{UpTo, Among, IsBeside, NoneLater, NextIs, TurnsOn, Crosses}

-- order along a direction
pub later_or : (dir : Direction) (a b : ℕ) → Later dir a b ⊎ UpTo dir b a
later_or Forward a b = cases_lt a b
later_or Backward a b = cases_lt b a

pub later_up_to : (dir : Direction) (a b : ℕ) → Later dir a b → UpTo dir b a → ⊥
later_up_to Forward a b l u = absurd (omega arith)
later_up_to Backward a b l u = absurd (omega arith)

pub up_to_refl : (dir : Direction) (a b : ℕ) → a ≡ b → UpTo dir a b
up_to_refl Forward a b e = omega arith
up_to_refl Backward a b e = omega arith

pub up_to_split : (dir : Direction) (a b : ℕ) → UpTo dir a b → (a ≡ b) ⊎ Later dir a b
up_to_split Forward a b u = ⊎_elim inl (λ n. inr (omega arith)) (cases_eq a b)
up_to_split Backward a b u = ⊎_elim inl (λ n. inr (omega arith)) (cases_eq a b)

later_finer : (dir : Direction) (r s p q : ℕ) → p < 3 → q < 3 → Later dir r s → Later dir (3 * r + p) (3 * s + q)
later_finer Forward r s p q hp hq l = omega arith
later_finer Backward r s p q hp hq l = omega arith

later_inside : (dir : Direction) (r s p q : ℕ) → r ≡ s → Later dir p q → Later dir (3 * r + p) (3 * s + q)
later_inside Forward r s p q e l = omega arith
later_inside Backward r s p q e l = omega arith

up_to_finer : (dir : Direction) (r s p q : ℕ) → p < 3 → q < 3 → Later dir r s → UpTo dir (3 * r + p) (3 * s + q)
up_to_finer Forward r s p q hp hq l = omega arith
up_to_finer Backward r s p q hp hq l = omega arith

up_to_inside : (dir : Direction) (r s p q : ℕ) → r ≡ s → UpTo dir p q → UpTo dir (3 * r + p) (3 * s + q)
up_to_inside Forward r s p q e l = omega arith
up_to_inside Backward r s p q e l = omega arith

pub turned_below : (s k : ℕ) → k < 3 → turned s k < 3
turned_below s k h = grind (arith, nat_tests)

-- sums of different parity turn a digit two ways
pub turned_other : (s t k : ℕ) → (s + t) % 2 ≡ 1 → k < 3 → turned s k + turned t k ≡ 2
turned_other s t k odd h = grind (arith, nat_tests)

pub turned_same : (s t k : ℕ) → (s + t) % 2 ≡ 0 → turned s k ≡ turned t k
turned_same s t k even = grind (arith, nat_tests)

pub turned_injective : (s k j : ℕ) → k < 3 → j < 3 → turned s k ≡ turned s j → k ≡ j
turned_injective s k j hk hj e = grind (arith, nat_tests)

-- so what was not later in one order comes first in the other
turned_back : (dir : Direction) (s t k j : ℕ) → (s + t) % 2 ≡ 1 → k < 3 → j < 3 → UpTo dir (turned s j) (turned s k) → UpTo dir (turned t k) (turned t j)
turned_back Forward s t k j odd hk hj u = omega (arith, turned_other s t k odd hk, turned_other s t j odd hj)
turned_back Backward s t k j odd hk hj u = omega (arith, turned_other s t k odd hk, turned_other s t j odd hj)

-- where nothing crosses, y is not later inside the parent
abbrev pub Quiet : Direction → ℕ → ℕ → ℕ → Type 0
Quiet dir s x y = x / 3 ≡ y / 3 → UpTo dir (turned s (y % 3)) (turned s (x % 3))

pub quiet : (dir : Direction) (s x y : ℕ) → ¬ Crosses dir s x y → Quiet dir s x y
quiet dir s x y none same = ⊎_elim (λ l. absurd (none (same, l))) (λ u. u) (later_or dir (turned s (x % 3)) (turned s (y % 3)))

-- the ranks after a split on axis 0
abbrev pub split : (ℕ → ℕ → ℕ → ℕ) → ℕ → ℕ → ℕ → ℕ
split rank a b c = 3 * rank (a / 3) b c + turned (b + c) (a % 3)

-- ranks tell places apart
abbrev pub TellsApart : (ℕ → ℕ → ℕ → Type 0) → (ℕ → ℕ → ℕ → ℕ) → Type 0
TellsApart P rank = (t0 t1 t2 s0 s1 s2 : ℕ) → P t0 t1 t2 → P s0 s1 s2 → rank t0 t1 t2 ≡ rank s0 s1 s2 → (t0 ≡ s0) × (t1 ≡ s1) × (t2 ≡ s2)

split_parts : (r s p q : ℕ) → p < 3 → q < 3 → 3 * r + p ≡ 3 * s + q → (r ≡ s) × (p ≡ q)
split_parts r s p q hp hq e = (omega arith, omega arith)

pub split_apart : (P : ℕ → ℕ → ℕ → Type 0) (rank : ℕ → ℕ → ℕ → ℕ) → TellsApart P rank → TellsApart (λ a b c. P (a / 3) b c) (split rank)
split_apart P rank apart t0 t1 t2 s0 s1 s2 pt ps same =
    let parts = split_parts (rank (t0 / 3) t1 t2) (rank (s0 / 3) s1 s2) (turned (t1 + t2) (t0 % 3)) (turned (s1 + s2) (s0 % 3)) (turned_below (t1 + t2) (t0 % 3) (omega arith)) (turned_below (s1 + s2) (s0 % 3) (omega arith)) same in
    let up = apart (t0 / 3) t1 t2 (s0 / 3) s1 s2 pt ps parts.0 in
    let sums : t1 + t2 ≡ s1 + s2 = omega (arith, up.1, up.2) in
    let digits : t0 % 3 ≡ s0 % 3 = turned_injective (s1 + s2) (t0 % 3) (s0 % 3) (omega arith) (omega arith) (ap (λ z. turned z (t0 % 3)) (sym sums) ∙ parts.1) in
    (omega (arith, up.0, digits), up.1, up.2)

-- a box of places x or y, split on axis 0
module _ (dir : Direction) (P : ℕ → ℕ → ℕ → Type 0) (rank : ℕ → ℕ → ℕ → ℕ) (apart : TellsApart P rank) (x0 x1 x2 y0 y1 y2 : ℕ) (inside : (t0 t1 t2 : ℕ) → Among x0 y0 t0 → Among x1 y1 t1 → Among x2 y2 t2 → P (t0 / 3) t1 t2) where
  -- the order of two places from that of their coarser places, or from inside one of these
  climb : (t0 t1 t2 u0 u1 u2 : ℕ) → P (t0 / 3) t1 t2 → P (u0 / 3) u1 u2 → UpTo dir (rank (t0 / 3) t1 t2) (rank (u0 / 3) u1 u2) → (t0 / 3 ≡ u0 / 3 → t1 ≡ u1 → t2 ≡ u2 → UpTo dir (split rank t0 t1 t2) (split rank u0 u1 u2)) → UpTo dir (split rank t0 t1 t2) (split rank u0 u1 u2)
  climb t0 t1 t2 u0 u1 u2 pt pu up own =
      ⊎_elim (λ e. let a = apart (t0 / 3) t1 t2 (u0 / 3) u1 u2 pt pu e in own a.0 a.1 a.2)
      (λ l. up_to_finer dir (rank (t0 / 3) t1 t2) (rank (u0 / 3) u1 u2) (turned (t1 + t2) (t0 % 3)) (turned (u1 + u2) (u0 % 3)) (turned_below (t1 + t2) (t0 % 3) (omega arith)) (turned_below (u1 + u2) (u0 % 3) (omega arith)) l)
      (up_to_split dir (rank (t0 / 3) t1 t2) (rank (u0 / 3) u1 u2) up)

  abbrev here : P (x0 / 3) x1 x2
  here = inside x0 x1 x2 (inl refl) (inl refl) (inl refl)

  top : Quiet dir (x1 + x2) x0 y0 → (t0 t1 t2 : ℕ) → Among x0 y0 t0 → t0 / 3 ≡ x0 / 3 → t1 ≡ x1 → t2 ≡ x2 → UpTo dir (split rank t0 t1 t2) (split rank x0 x1 x2)
  top still t0 t1 t2 (inl e) e0 e1 e2 = up_to_refl dir _ _ (cc)
  top still t0 t1 t2 (inr e) e0 e1 e2 = up_to_inside dir (rank (t0 / 3) t1 t2) (rank (x0 / 3) x1 x2) (turned (t1 + t2) (t0 % 3)) (turned (x1 + x2) (x0 % 3)) (cc) (let same : turned (x1 + x2) (y0 % 3) ≡ turned (t1 + t2) (t0 % 3) = cc in subst (λ z. UpTo dir z (turned (x1 + x2) (x0 % 3))) same (still (omega arith)))

  abbrev up0 : (t0 t1 t2 : ℕ) → ℕ
  up0 t0 t1 t2 = rank (t0 / 3) t1 t2

  thirds : (t : ℕ) → Among x0 y0 t → Among (x0 / 3) (y0 / 3) (t / 3)
  thirds t (inl e) = inl (ap (λ z. z / 3) e)
  thirds t (inr e) = inr (ap (λ z. z / 3) e)

  -- none is later than x where none of the coarser places is and nothing crosses
  last_split : Quiet dir (x1 + x2) x0 y0 → NoneLater dir rank (x0 / 3) x1 x2 (y0 / 3) y1 y2 → NoneLater dir (split rank) x0 x1 x2 y0 y1 y2
  last_split still above = record {
    none = λ t0 t1 t2 a0 a1 a2. climb t0 t1 t2 x0 x1 x2 (inside t0 t1 t2 a0 a1 a2) here (above.none (t0 / 3) t1 t2 (thirds t0 a0) a1 a2) (top still t0 t1 t2 a0);
  }

  -- the next place inside the coarser one
  next_here : Crosses dir (x1 + x2) x0 y0 → NextIs dir (split rank) x0 x1 x2 y0 y1 y2 y0 x1 x2
  next_here crosses = record {
    later = later_inside dir (rank (x0 / 3) x1 x2) (rank (y0 / 3) x1 x2) (turned (x1 + x2) (x0 % 3)) (turned (x1 + x2) (y0 % 3)) (ap (λ z. rank z x1 x2) crosses.0) crosses.1;
    nearest = λ t0 t1 t2 a0 a1 a2. near t0 t1 t2 a0 a1 a2 (later_or dir (up0 x0 x1 x2) (up0 t0 t1 t2));
  }
    where
      there : (t0 t1 t2 : ℕ) → Among x0 y0 t0 → Among x1 y1 t1 → Among x2 y2 t2 → (t1 ≡ x1) × (t2 ≡ x2) → UpTo dir (split rank t0 t1 t2) (split rank x0 x1 x2) ⊎ UpTo dir (split rank y0 x1 x2) (split rank t0 t1 t2)
      there t0 t1 t2 (inl e) a1 a2 same = inl (up_to_refl dir (split rank t0 t1 t2) (split rank x0 x1 x2) (let e1 = same.0 in let e2 = same.1 in cc))
      there t0 t1 t2 (inr e) a1 a2 same = inr (up_to_refl dir (split rank y0 x1 x2) (split rank t0 t1 t2) (let e1 = same.0 in let e2 = same.1 in cc))

      near : (t0 t1 t2 : ℕ) → Among x0 y0 t0 → Among x1 y1 t1 → Among x2 y2 t2 → Later dir (up0 x0 x1 x2) (up0 t0 t1 t2) ⊎ UpTo dir (up0 t0 t1 t2) (up0 x0 x1 x2) → UpTo dir (split rank t0 t1 t2) (split rank x0 x1 x2) ⊎ UpTo dir (split rank y0 x1 x2) (split rank t0 t1 t2)
      near t0 t1 t2 a0 a1 a2 (inl l) = inr (up_to_finer dir (rank (y0 / 3) x1 x2) (up0 t0 t1 t2) (turned (x1 + x2) (y0 % 3)) (turned (t1 + t2) (t0 % 3)) (turned_below (x1 + x2) (y0 % 3) (omega arith)) (turned_below (t1 + t2) (t0 % 3) (omega arith)) (subst (λ z. Later dir (rank z x1 x2) (up0 t0 t1 t2)) crosses.0 l))
      near t0 t1 t2 a0 a1 a2 (inr u) = ⊎_elim
          (λ e. let a = apart (t0 / 3) t1 t2 (x0 / 3) x1 x2 (inside t0 t1 t2 a0 a1 a2) here e in there t0 t1 t2 a0 a1 a2 (a.1, a.2))
          (λ l. inl (up_to_finer dir (up0 t0 t1 t2) (up0 x0 x1 x2) (turned (t1 + t2) (t0 % 3)) (turned (x1 + x2) (x0 % 3)) (turned_below (t1 + t2) (t0 % 3) (omega arith)) (turned_below (x1 + x2) (x0 % 3) (omega arith)) l))
          (up_to_split dir (up0 t0 t1 t2) (up0 x0 x1 x2) u)

  -- the next place n in the next coarser one, where n is the first there
  next_above : (n0 n1 n2 : ℕ) → P (n0 / 3) n1 n2 → Quiet dir (x1 + x2) x0 y0 → ((t0 t1 t2 : ℕ) → Among x0 y0 t0 → n0 / 3 ≡ t0 / 3 → n1 ≡ t1 → n2 ≡ t2 → UpTo dir (split rank n0 n1 n2) (split rank t0 t1 t2)) → NextIs dir rank (x0 / 3) x1 x2 (y0 / 3) y1 y2 (n0 / 3) n1 n2 → NextIs dir (split rank) x0 x1 x2 y0 y1 y2 n0 n1 n2
  next_above n0 n1 n2 pn still first above = record {
    later = later_finer dir (up0 x0 x1 x2) (up0 n0 n1 n2) (turned (x1 + x2) (x0 % 3)) (turned (n1 + n2) (n0 % 3)) (turned_below (x1 + x2) (x0 % 3) (omega arith)) (turned_below (n1 + n2) (n0 % 3) (omega arith)) above.later;
    nearest = λ t0 t1 t2 a0 a1 a2. ⊎_elim
        (λ u. inl (climb t0 t1 t2 x0 x1 x2 (inside t0 t1 t2 a0 a1 a2) here u (top still t0 t1 t2 a0)))
        (λ u. inr (climb n0 n1 n2 t0 t1 t2 pn (inside t0 t1 t2 a0 a1 a2) u (first t0 t1 t2 a0)))
        (above.nearest (t0 / 3) t1 t2 (thirds t0 a0) a1 a2);
  }

  -- across axis 0 the next coarser place has one place alone
  next_first : Quiet dir (x1 + x2) x0 y0 → (x0 / 3 ≢ y0 / 3) → NextIs dir rank (x0 / 3) x1 x2 (y0 / 3) y1 y2 (y0 / 3) x1 x2 → NextIs dir (split rank) x0 x1 x2 y0 y1 y2 y0 x1 x2
  next_first still other above = next_above y0 x1 x2 (inside y0 x1 x2 (inr refl) (inl refl) (inl refl)) still first above
    where
      first : (t0 t1 t2 : ℕ) → Among x0 y0 t0 → y0 / 3 ≡ t0 / 3 → x1 ≡ t1 → x2 ≡ t2 → UpTo dir (split rank y0 x1 x2) (split rank t0 t1 t2)
      first t0 t1 t2 (inl e) e0 e1 e2 = absurd (other (ap (λ z. z / 3) (sym e) ∙ sym e0))
      first t0 t1 t2 (inr e) e0 e1 e2 = up_to_refl dir (split rank y0 x1 x2) (split rank t0 t1 t2) (cc)

  -- across another axis the digits turn
  turns : (n1 n2 : ℕ) → (x1 + x2 + (n1 + n2)) % 2 ≡ 1 → Quiet dir (x1 + x2) x0 y0 → (t0 t1 t2 : ℕ) → Among x0 y0 t0 → x0 / 3 ≡ t0 / 3 → n1 ≡ t1 → n2 ≡ t2 → UpTo dir (split rank x0 n1 n2) (split rank t0 t1 t2)
  turns n1 n2 odd still t0 t1 t2 (inl e) e0 e1 e2 = up_to_refl dir (split rank x0 n1 n2) (split rank t0 t1 t2) (cc)
  turns n1 n2 odd still t0 t1 t2 (inr e) e0 e1 e2 =
      let same : turned (n1 + n2) (y0 % 3) ≡ turned (t1 + t2) (t0 % 3) = cc in
      up_to_inside dir (rank (x0 / 3) n1 n2) (rank (t0 / 3) t1 t2) (turned (n1 + n2) (x0 % 3)) (turned (t1 + t2) (t0 % 3)) (cc)
      (subst (λ z. UpTo dir (turned (n1 + n2) (x0 % 3)) z) same (turned_back dir (x1 + x2) (n1 + n2) (x0 % 3) (y0 % 3) odd (omega arith) (omega arith) (still (omega arith))))

  next_second : Quiet dir (x1 + x2) x0 y0 → IsBeside x1 y1 → (x1 ≢ y1) → NextIs dir rank (x0 / 3) x1 x2 (y0 / 3) y1 y2 (x0 / 3) y1 x2 → NextIs dir (split rank) x0 x1 x2 y0 y1 y2 x0 y1 x2
  next_second still beside other above = next_above x0 y1 x2 (inside x0 y1 x2 (inl refl) (inr refl) (inl refl)) still (turns y1 x2 (omega (arith, beside.low, beside.high)) still) above

  next_third : Quiet dir (x1 + x2) x0 y0 → IsBeside x2 y2 → (x2 ≢ y2) → NextIs dir rank (x0 / 3) x1 x2 (y0 / 3) y1 y2 (x0 / 3) x1 y2 → NextIs dir (split rank) x0 x1 x2 y0 y1 y2 x0 x1 y2
  next_third still beside other above = next_above x0 x1 y2 (inside x0 x1 y2 (inl refl) (inl refl) (inr refl)) still (turns x1 y2 (omega (arith, beside.low, beside.high)) still) above

  -- the turn of x after the split
  pub turn_here : Crosses dir (x1 + x2) x0 y0 → TurnsOn dir (split rank) x0 x1 x2 y0 y1 y2 (Some 0)
  turn_here crosses = (λ e. later_up_to dir (turned (x1 + x2) (x0 % 3)) (turned (x1 + x2) (y0 % 3)) crosses.1 (up_to_refl dir _ _ (ap (λ z. turned (x1 + x2) (z % 3)) (sym e))), next_here crosses)

  pub turn_above : (o : Option ℕ) → IsBeside x1 y1 → IsBeside x2 y2 → Quiet dir (x1 + x2) x0 y0 → TurnsOn dir rank (x0 / 3) x1 x2 (y0 / 3) y1 y2 o → TurnsOn dir (split rank) x0 x1 x2 y0 y1 y2 o
  turn_above None b1 b2 still above = last_split still above
  turn_above (Some zero) b1 b2 still above = ((λ e. above.0 (ap (λ z. z / 3) e)), next_first still above.0 above.1)
  turn_above (Some (suc zero)) b1 b2 still above = (above.0, next_second still b1 above.0 above.1)
  turn_above (Some (suc (suc zero))) b1 b2 still above = (above.0, next_third still b2 above.0 above.1)
  turn_above (Some (suc (suc (suc i)))) b1 b2 still above = absurd above
