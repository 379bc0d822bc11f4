-- A level of the curve as splits along one axis after another: the next place round a vertex from that of the parents.
use Rattle.std.proofs.Common.{◌≡◌, inl, inr, ℕ, zero, suc, ◌+◌, ◌/◌, ◌%◌, ◌^◌, ◌<◌, arith, ⊎_elim, refl, sym, ap, subst, ◌∙◌, Option, Some, None}
use Rattle.std.proofs.Math.Nat.{pow-zero, pow-suc}
use Rattle.peano_keys.specs.declared.dim.Dim.{Dim}
use Rattle.peano_keys.specs.declared.dim.Dim.TheVariants.{Two, Three}
use Rattle.peano_keys.specs.Dim.{third_extent}
use Rattle.peano_curve.specs.declared.order.Direction.{Direction}
use Rattle.peano_curve.specs.Order.{rank_from}
use Rattle.peano_curve.specs.Run.{Later}
use Rattle.peano_curve.specs.Passing.{UpTo, Among, IsBeside, NextIs, TurnsOn, Crosses}
use Rattle.peano_curve.proofs.Splits.{split, split_apart, TellsApart, Quiet, turn_here, turn_above, turned_same}

-- a place of a level
abbrev pub Within : Dim → ℕ → ℕ → ℕ → ℕ → Type 0
Within dim l a b c = (a < 3 ^ l) × (b < 3 ^ l) × (c < third_extent dim (3 ^ l))

-- the ranks after splits on axes 0 and 1, and after one on axis 2 too
abbrev pub twice : (ℕ → ℕ → ℕ → ℕ) → ℕ → ℕ → ℕ → ℕ
twice rank a b c = split (λ b a c. split rank a b c) b a c

abbrev pub thrice : (ℕ → ℕ → ℕ → ℕ) → ℕ → ℕ → ℕ → ℕ
thrice rank a b c = split (λ c a b. twice rank a b c) c a b

-- other orders of the axes
swap_apart : (P : ℕ → ℕ → ℕ → Type 0) (rank : ℕ → ℕ → ℕ → ℕ) → TellsApart P rank → TellsApart (λ b a c. P a b c) (λ b a c. rank a b c)
swap_apart P rank apart t1 t0 t2 s1 s0 s2 pt ps e = let r = apart t0 t1 t2 s0 s1 s2 pt ps e in (r.1, r.0, r.2)

rotate_apart : (P : ℕ → ℕ → ℕ → Type 0) (rank : ℕ → ℕ → ℕ → ℕ) → TellsApart P rank → TellsApart (λ c a b. P a b c) (λ c a b. rank a b c)
rotate_apart P rank apart t2 t0 t1 s2 s0 s1 pt ps e = let r = apart t0 t1 t2 s0 s1 s2 pt ps e in (r.2, r.0, r.1)

unrotate_apart : (P : ℕ → ℕ → ℕ → Type 0) (rank : ℕ → ℕ → ℕ → ℕ) → TellsApart P rank → TellsApart (λ a b c. P c a b) (λ a b c. rank c a b)
unrotate_apart P rank apart t0 t1 t2 s0 s1 s2 pt ps e = let r = apart t2 t0 t1 s2 s0 s1 pt ps e in (r.1, r.2, r.0)

pub twice_apart : (P : ℕ → ℕ → ℕ → Type 0) (rank : ℕ → ℕ → ℕ → ℕ) → TellsApart P rank → TellsApart (λ a b c. P (a / 3) (b / 3) c) (twice rank)
twice_apart P rank apart =
    swap_apart (λ b a c. P (a / 3) (b / 3) c) (split (λ b a c. split rank a b c)) (split_apart (λ b a c. P (a / 3) b c) (λ b a c. split rank a b c) (swap_apart (λ a b c. P (a / 3) b c) (split rank) (split_apart P rank apart)))

pub thrice_apart : (P : ℕ → ℕ → ℕ → Type 0) (rank : ℕ → ℕ → ℕ → ℕ) → TellsApart P rank → TellsApart (λ a b c. P (a / 3) (b / 3) (c / 3)) (thrice rank)
thrice_apart P rank apart =
    unrotate_apart (λ c a b. P (a / 3) (b / 3) (c / 3)) (split (λ c a b. twice rank a b c)) (split_apart (λ c a b. P (a / 3) (b / 3) c) (λ c a b. twice rank a b c) (rotate_apart (λ a b c. P (a / 3) (b / 3) c) (twice rank) (twice_apart P rank apart)))

-- a level in splits
pub rank_thrice : (l a b c : ℕ) → rank_from Three (suc l) a b c ≡ thrice (rank_from Three l) a b c
rank_thrice l a b c =
    let e1 = turned_same (a / 3 + c / 3 + a % 3) (a + c / 3) (b % 3) (omega arith) in
    let e2 = turned_same (a / 3 + b / 3 + a % 3 + b % 3) (a + b) (c % 3) (omega arith) in
    omega arith

pub rank_twice : (l a b c : ℕ) → c ≡ 0 → rank_from Two (suc l) a b c ≡ twice (rank_from Two l) a b c
rank_twice l a b c flat =
    let e0 = turned_same (b / 3) (b / 3 + c) (a % 3) (omega arith) in
    let e1 = turned_same (a / 3 + a % 3) (a + c) (b % 3) (omega arith) in
    let up : rank_from Two l (a / 3) (b / 3) (c / 3) ≡ rank_from Two l (a / 3) (b / 3) c = ap (rank_from Two l (a / 3) (b / 3)) (omega arith) in
    omega arith

pub within_up : (dim : Dim) (l a b c : ℕ) → Within dim (suc l) a b c → Within dim l (a / 3) (b / 3) (c / 3)
within_up dim l a b c h = (omega (arith, h.0, pow-suc 3 l), omega (arith, h.1, pow-suc 3 l), third dim h.2)
  where
    third : (dim : Dim) → c < third_extent dim (3 ^ suc l) → c / 3 < third_extent dim (3 ^ l)
    third Two h = omega arith
    third Three h = omega (arith, pow-suc 3 l)

-- places of one level have different ranks
pub rank_apart : (dim : Dim) (l : ℕ) → TellsApart (Within dim l) (rank_from dim l)
rank_apart dim zero t0 t1 t2 s0 s1 s2 ht hs e = (omega (arith, ht.0, hs.0, pow-zero 3), omega (arith, ht.1, hs.1, pow-zero 3), third dim ht.2 hs.2)
  where
    third : (dim : Dim) → t2 < third_extent dim (3 ^ 0) → s2 < third_extent dim (3 ^ 0) → t2 ≡ s2
    third Two ht hs = omega arith
    third Three ht hs = omega (arith, pow-zero 3)
rank_apart Two (suc l) t0 t1 t2 s0 s1 s2 ht hs e =
    let ft : t2 ≡ 0 = omega (arith, ht.2) in
    let fs : s2 ≡ 0 = omega (arith, hs.2) in
    let ut = within_up Two l t0 t1 t2 ht in
    let us = within_up Two l s0 s1 s2 hs in
    twice_apart (Within Two l) (rank_from Two l) (rank_apart Two l) t0 t1 t2 s0 s1 s2 (ut.0, ut.1, ht.2) (us.0, us.1, hs.2) (sym (rank_twice l t0 t1 t2 ft) ∙ e ∙ rank_twice l s0 s1 s2 fs)
rank_apart Three (suc l) t0 t1 t2 s0 s1 s2 ht hs e =
    thrice_apart (Within Three l) (rank_from Three l) (rank_apart Three l) t0 t1 t2 s0 s1 s2 (within_up Three l t0 t1 t2 ht) (within_up Three l s0 s1 s2 hs) (sym (rank_thrice l t0 t1 t2) ∙ e ∙ rank_thrice l s0 s1 s2)

-- the numbers of axes 0 and 1 exchanged
abbrev swapped : Option ℕ → Option ℕ
swapped None = None
swapped (Some zero) = Some 1
swapped (Some (suc zero)) = Some 0
swapped (Some (suc (suc i))) = Some (suc (suc i))

-- the numbers of axes where axis 2 is taken first
abbrev rotated : Option ℕ → Option ℕ
rotated None = None
rotated (Some zero) = Some 1
rotated (Some (suc zero)) = Some 2
rotated (Some (suc (suc zero))) = Some 0
rotated (Some (suc (suc (suc i)))) = Some (suc (suc (suc i)))

module _ (dir : Direction) (rank : ℕ → ℕ → ℕ → ℕ) (x0 x1 x2 y0 y1 y2 : ℕ) where
  abbrev exchanged : ℕ → ℕ → ℕ → ℕ
  exchanged b a c = rank a b c

  abbrev turned_round : ℕ → ℕ → ℕ → ℕ
  turned_round c a b = rank a b c

  swap_next : (n0 n1 n2 : ℕ) → NextIs dir rank x0 x1 x2 y0 y1 y2 n0 n1 n2 → NextIs dir exchanged x1 x0 x2 y1 y0 y2 n1 n0 n2
  swap_next n0 n1 n2 h = record { later = h.later; nearest = λ t1 t0 t2 a1 a0 a2. h.nearest t0 t1 t2 a0 a1 a2 }

  unswap_next : (n0 n1 n2 : ℕ) → NextIs dir exchanged x1 x0 x2 y1 y0 y2 n1 n0 n2 → NextIs dir rank x0 x1 x2 y0 y1 y2 n0 n1 n2
  unswap_next n0 n1 n2 h = record { later = h.later; nearest = λ t0 t1 t2 a0 a1 a2. h.nearest t1 t0 t2 a1 a0 a2 }

  rotate_next : (n0 n1 n2 : ℕ) → NextIs dir rank x0 x1 x2 y0 y1 y2 n0 n1 n2 → NextIs dir turned_round x2 x0 x1 y2 y0 y1 n2 n0 n1
  rotate_next n0 n1 n2 h = record { later = h.later; nearest = λ t2 t0 t1 a2 a0 a1. h.nearest t0 t1 t2 a0 a1 a2 }

  unrotate_next : (n0 n1 n2 : ℕ) → NextIs dir turned_round x2 x0 x1 y2 y0 y1 n2 n0 n1 → NextIs dir rank x0 x1 x2 y0 y1 y2 n0 n1 n2
  unrotate_next n0 n1 n2 h = record { later = h.later; nearest = λ t0 t1 t2 a0 a1 a2. h.nearest t2 t0 t1 a2 a0 a1 }

  swap_turn : (o : Option ℕ) → TurnsOn dir rank x0 x1 x2 y0 y1 y2 o → TurnsOn dir exchanged x1 x0 x2 y1 y0 y2 (swapped o)
  swap_turn None h = record { none = λ t1 t0 t2 a1 a0 a2. h.none t0 t1 t2 a0 a1 a2 }
  swap_turn (Some zero) h = (h.0, swap_next _ _ _ h.1)
  swap_turn (Some (suc zero)) h = (h.0, swap_next _ _ _ h.1)
  swap_turn (Some (suc (suc zero))) h = (h.0, swap_next _ _ _ h.1)
  swap_turn (Some (suc (suc (suc i)))) h = absurd h

  unswap_turn : (o : Option ℕ) → TurnsOn dir exchanged x1 x0 x2 y1 y0 y2 (swapped o) → TurnsOn dir rank x0 x1 x2 y0 y1 y2 o
  unswap_turn None h = record { none = λ t0 t1 t2 a0 a1 a2. h.none t1 t0 t2 a1 a0 a2 }
  unswap_turn (Some zero) h = (h.0, unswap_next _ _ _ h.1)
  unswap_turn (Some (suc zero)) h = (h.0, unswap_next _ _ _ h.1)
  unswap_turn (Some (suc (suc zero))) h = (h.0, unswap_next _ _ _ h.1)
  unswap_turn (Some (suc (suc (suc i)))) h = absurd h

  rotate_turn : (o : Option ℕ) → TurnsOn dir rank x0 x1 x2 y0 y1 y2 o → TurnsOn dir turned_round x2 x0 x1 y2 y0 y1 (rotated o)
  rotate_turn None h = record { none = λ t2 t0 t1 a2 a0 a1. h.none t0 t1 t2 a0 a1 a2 }
  rotate_turn (Some zero) h = (h.0, rotate_next _ _ _ h.1)
  rotate_turn (Some (suc zero)) h = (h.0, rotate_next _ _ _ h.1)
  rotate_turn (Some (suc (suc zero))) h = (h.0, rotate_next _ _ _ h.1)
  rotate_turn (Some (suc (suc (suc i)))) h = absurd h

  unrotate_turn : (o : Option ℕ) → TurnsOn dir turned_round x2 x0 x1 y2 y0 y1 (rotated o) → TurnsOn dir rank x0 x1 x2 y0 y1 y2 o
  unrotate_turn None h = record { none = λ t0 t1 t2 a0 a1 a2. h.none t2 t0 t1 a2 a0 a1 }
  unrotate_turn (Some zero) h = (h.0, unrotate_next _ _ _ h.1)
  unrotate_turn (Some (suc zero)) h = (h.0, unrotate_next _ _ _ h.1)
  unrotate_turn (Some (suc (suc zero))) h = (h.0, unrotate_next _ _ _ h.1)
  unrotate_turn (Some (suc (suc (suc i)))) h = absurd h

-- equal ranks turn alike
module _ (dir : Direction) (rank other : ℕ → ℕ → ℕ → ℕ) (x0 x1 x2 y0 y1 y2 : ℕ) (like : (t0 t1 t2 : ℕ) → Among x0 y0 t0 → Among x1 y1 t1 → Among x2 y2 t2 → rank t0 t1 t2 ≡ other t0 t1 t2) where
  like_next : (n0 n1 n2 : ℕ) → Among x0 y0 n0 → Among x1 y1 n1 → Among x2 y2 n2 → NextIs dir rank x0 x1 x2 y0 y1 y2 n0 n1 n2 → NextIs dir other x0 x1 x2 y0 y1 y2 n0 n1 n2
  like_next n0 n1 n2 m0 m1 m2 h =
      let ex = like x0 x1 x2 (inl refl) (inl refl) (inl refl) in
      let en = like n0 n1 n2 m0 m1 m2 in
      record {
        later = subst (λ z. Later dir (other x0 x1 x2) z) en (subst (λ z. Later dir z (rank n0 n1 n2)) ex h.later);
        nearest = λ t0 t1 t2 a0 a1 a2. let et = like t0 t1 t2 a0 a1 a2 in
            ⊎_elim
            (λ u. inl (subst (λ z. UpTo dir (other t0 t1 t2) z) ex (subst (λ z. UpTo dir z (rank x0 x1 x2)) et u)))
            (λ u. inr (subst (λ z. UpTo dir (other n0 n1 n2) z) et (subst (λ z. UpTo dir z (rank t0 t1 t2)) en u)))
            (h.nearest t0 t1 t2 a0 a1 a2);
      }

  pub like_turn : (o : Option ℕ) → TurnsOn dir rank x0 x1 x2 y0 y1 y2 o → TurnsOn dir other x0 x1 x2 y0 y1 y2 o
  like_turn None h = record {
    none = λ t0 t1 t2 a0 a1 a2. subst (λ z. UpTo dir (other t0 t1 t2) z) (like x0 x1 x2 (inl refl) (inl refl) (inl refl)) (subst (λ z. UpTo dir z (rank x0 x1 x2)) (like t0 t1 t2 a0 a1 a2) (h.none t0 t1 t2 a0 a1 a2));
  }
  like_turn (Some zero) h = (h.0, like_next y0 x1 x2 (inr refl) (inl refl) (inl refl) h.1)
  like_turn (Some (suc zero)) h = (h.0, like_next x0 y1 x2 (inl refl) (inr refl) (inl refl) h.1)
  like_turn (Some (suc (suc zero))) h = (h.0, like_next x0 x1 y2 (inl refl) (inl refl) (inr refl) h.1)
  like_turn (Some (suc (suc (suc i)))) h = absurd h

pub below_among : (e x y t : ℕ) → x < e → y < e → Among x y t → t < e
below_among e x y t hx hy (inl h) = omega arith
below_among e x y t hx hy (inr h) = omega arith

third_among : (n x y t : ℕ) → x / 3 < n → y / 3 < n → Among x y t → t / 3 < n
third_among n x y t hx hy (inl h) = omega arith
third_among n x y t hx hy (inr h) = omega arith

pub third_beside : (x y : ℕ) → IsBeside x y → IsBeside (x / 3) (y / 3)
third_beside x y b = record { low = omega (arith, b.low); high = omega (arith, b.high) }

-- splits on axes 0 and 1 below coarser places
module _ (dir : Direction) (e f g : ℕ) (rank : ℕ → ℕ → ℕ → ℕ) (apart : TellsApart (λ a b c. (a < e) × (b < f) × (c < g)) rank) (x0 x1 x2 y0 y1 y2 : ℕ) (hx0 : x0 / 3 < e) (hy0 : y0 / 3 < e) (hx1 : x1 / 3 < f) (hy1 : y1 / 3 < f) (hx2 : x2 < g) (hy2 : y2 < g) where
  abbrev Coarse : ℕ → ℕ → ℕ → Type 0
  Coarse a b c = (a < e) × (b < f) × (c < g)

  inside_first : (t0 t1 t2 : ℕ) → Among x0 y0 t0 → Among (x1 / 3) (y1 / 3) t1 → Among x2 y2 t2 → Coarse (t0 / 3) t1 t2
  inside_first t0 t1 t2 a0 a1 a2 = (third_among e x0 y0 t0 hx0 hy0 a0, below_among f (x1 / 3) (y1 / 3) t1 hx1 hy1 a1, below_among g x2 y2 t2 hx2 hy2 a2)

  inside_second : (t1 t0 t2 : ℕ) → Among x1 y1 t1 → Among x0 y0 t0 → Among x2 y2 t2 → Coarse (t0 / 3) (t1 / 3) t2
  inside_second t1 t0 t2 a1 a0 a2 = (third_among e x0 y0 t0 hx0 hy0 a0, third_among f x1 y1 t1 hx1 hy1 a1, below_among g x2 y2 t2 hx2 hy2 a2)

  apart_first : TellsApart (λ b a c. Coarse (a / 3) b c) (λ b a c. split rank a b c)
  apart_first = swap_apart (λ a b c. Coarse (a / 3) b c) (split rank) (split_apart Coarse rank apart)

  second_split : (o : Option ℕ) → IsBeside x0 y0 → IsBeside x2 y2 → Quiet dir (x0 + x2) x1 y1 → TurnsOn dir (split rank) x0 (x1 / 3) x2 y0 (y1 / 3) y2 o → TurnsOn dir (twice rank) x0 x1 x2 y0 y1 y2 o
  second_split o b0 b2 still h =
      unswap_turn dir (twice rank) x0 x1 x2 y0 y1 y2 o
      (turn_above dir (λ b a c. Coarse (a / 3) b c) (λ b a c. split rank a b c) apart_first x1 x0 x2 y1 y0 y2 inside_second (swapped o) b0 b2 still (swap_turn dir (split rank) x0 (x1 / 3) x2 y0 (y1 / 3) y2 o h))

  pub twice_second : Crosses dir (x0 + x2) x1 y1 → TurnsOn dir (twice rank) x0 x1 x2 y0 y1 y2 (Some 1)
  twice_second crosses =
      unswap_turn dir (twice rank) x0 x1 x2 y0 y1 y2 (Some 1)
      (turn_here dir (λ b a c. Coarse (a / 3) b c) (λ b a c. split rank a b c) apart_first x1 x0 x2 y1 y0 y2 inside_second crosses)

  pub twice_first : IsBeside x0 y0 → IsBeside x2 y2 → Quiet dir (x0 + x2) x1 y1 → Crosses dir (x1 / 3 + x2) x0 y0 → TurnsOn dir (twice rank) x0 x1 x2 y0 y1 y2 (Some 0)
  twice_first b0 b2 still crosses = second_split (Some 0) b0 b2 still (turn_here dir Coarse rank apart x0 (x1 / 3) x2 y0 (y1 / 3) y2 inside_first crosses)

  pub twice_above : (o : Option ℕ) → IsBeside x0 y0 → IsBeside x1 y1 → IsBeside x2 y2 → Quiet dir (x0 + x2) x1 y1 → Quiet dir (x1 / 3 + x2) x0 y0 → TurnsOn dir rank (x0 / 3) (x1 / 3) x2 (y0 / 3) (y1 / 3) y2 o → TurnsOn dir (twice rank) x0 x1 x2 y0 y1 y2 o
  twice_above o b0 b1 b2 still1 still0 h = second_split o b0 b2 still1 (turn_above dir Coarse rank apart x0 (x1 / 3) x2 y0 (y1 / 3) y2 inside_first o (third_beside x1 y1 b1) b2 still0 h)

-- and a split on axis 2 below these
module _ (dir : Direction) (e f g : ℕ) (rank : ℕ → ℕ → ℕ → ℕ) (apart : TellsApart (λ a b c. (a < e) × (b < f) × (c < g)) rank) (x0 x1 x2 y0 y1 y2 : ℕ) (hx0 : x0 / 3 < e) (hy0 : y0 / 3 < e) (hx1 : x1 / 3 < f) (hy1 : y1 / 3 < f) (hx2 : x2 / 3 < g) (hy2 : y2 / 3 < g) where
  abbrev Fine : ℕ → ℕ → ℕ → Type 0
  Fine c a b = (a / 3 < e) × (b / 3 < f) × (c < g)

  inside_third : (t2 t0 t1 : ℕ) → Among x2 y2 t2 → Among x0 y0 t0 → Among x1 y1 t1 → Fine (t2 / 3) t0 t1
  inside_third t2 t0 t1 a2 a0 a1 = (third_among e x0 y0 t0 hx0 hy0 a0, third_among f x1 y1 t1 hx1 hy1 a1, third_among g x2 y2 t2 hx2 hy2 a2)

  apart_second : TellsApart Fine (λ c a b. twice rank a b c)
  apart_second = rotate_apart (λ a b c. (a / 3 < e) × (b / 3 < f) × (c < g)) (twice rank) (twice_apart (λ a b c. (a < e) × (b < f) × (c < g)) rank apart)

  pub thrice_third : Crosses dir (x0 + x1) x2 y2 → TurnsOn dir (thrice rank) x0 x1 x2 y0 y1 y2 (Some 2)
  thrice_third crosses =
      unrotate_turn dir (thrice rank) x0 x1 x2 y0 y1 y2 (Some 2)
      (turn_here dir Fine (λ c a b. twice rank a b c) apart_second x2 x0 x1 y2 y0 y1 inside_third crosses)

  pub thrice_above : (o : Option ℕ) → IsBeside x0 y0 → IsBeside x1 y1 → Quiet dir (x0 + x1) x2 y2 → TurnsOn dir (twice rank) x0 x1 (x2 / 3) y0 y1 (y2 / 3) o → TurnsOn dir (thrice rank) x0 x1 x2 y0 y1 y2 o
  thrice_above o b0 b1 still h =
      unrotate_turn dir (thrice rank) x0 x1 x2 y0 y1 y2 o
      (turn_above dir Fine (λ c a b. twice rank a b c) apart_second x2 x0 x1 y2 y0 y1 inside_third (rotated o) b0 b1 still (rotate_turn dir (twice rank) x0 x1 (x2 / 3) y0 y1 (y2 / 3) o h))
