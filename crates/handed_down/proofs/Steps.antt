-- Ages level by level.
use Rattle.std.proofs.Common.{◌≡◌, ◌⊎◌, inl, inr, ℕ, zero, suc, ◌+◌, ◌-◌, ◌/◌, ◌%◌, ◌^◌, ◌==◌, ◌<◌, ◌≤◌, true, false, arith, ⊎_elim, refl, sym, ap, subst, ◌∙◌}
use Rattle.std.proofs.Math.Nat.{pow-suc}
use Rattle.std.proofs.lemmas.Bool.Decides.{nat_tests}
use Rattle.std.proofs.lemmas.Bool.{cases_eq}
use Rattle.peano_curve.specs.declared.order.Direction.{Direction}
use Rattle.peano_curve.specs.declared.order.Direction.TheVariants.{Forward, Backward}
use Rattle.stack_law.specs.Digits.{turned}
use Rattle.peano_curve.specs.Run.{Later}
use Rattle.peano_curve.specs.Passing.{UpTo, Crosses}
use Rattle.peano_curve.proofs.Splits.{Quiet, later_or}
use Rattle.sweep_visits.specs.Runs.{is_before, turned_round}
use Rattle.handed_down.specs.declared.faces.Crossing.{Crossing}
use Rattle.handed_down.specs.declared.faces.Crossing.TheVariants.{In, Out}
use Rattle.handed_down.specs.Ages.{age_of, crossing_of, Rises}

later_true : (dir : Direction) (a b : ℕ) → Later dir a b → is_before dir a b ≡ true
later_true Forward a b h = grind (arith, nat_tests)
later_true Backward a b h = grind (arith, nat_tests)

later_false : (dir : Direction) (a b : ℕ) → UpTo dir b a → is_before dir a b ≡ false
later_false Forward a b h = grind (arith, nat_tests)
later_false Backward a b h = grind (arith, nat_tests)

same_true : (a b : ℕ) → a ≡ b → (a == b) ≡ true
same_true a b h = grind (arith, nat_tests)

same_false : (a b : ℕ) → (a ≡ b → ⊥) → (a == b) ≡ false
same_false a b h = grind (arith, nat_tests)

up_to_same : (dir : Direction) (a b : ℕ) → a ≡ b → UpTo dir b a
up_to_same Forward a b e = omega arith
up_to_same Backward a b e = omega arith

module _ (dir : Direction) (l p q x y : ℕ) where
  age_crossed : Crosses dir (p + q) x y → age_of dir (suc l) p q x y ≡ suc l
  age_crossed c = rw (same_true (x / 3) (y / 3) c.0, later_true dir (turned (p + q) (x % 3)) (turned (p + q) (y % 3)) c.1) refl

  age_still : x / 3 ≡ y / 3 → UpTo dir (turned (p + q) (y % 3)) (turned (p + q) (x % 3)) → age_of dir (suc l) p q x y ≡ 0
  age_still e u = rw (same_true (x / 3) (y / 3) e, later_false dir (turned (p + q) (x % 3)) (turned (p + q) (y % 3)) u) refl

  age_above : (x / 3 ≡ y / 3 → ⊥) → age_of dir (suc l) p q x y ≡ age_of dir l (p / 3) (q / 3) (x / 3) (y / 3)
  age_above n = rw (same_false (x / 3) (y / 3) n) refl

-- nothing comes later than itself
pub age_same : (dir : Direction) (l p q x y : ℕ) → x ≡ y → age_of dir l p q x y ≡ 0
age_same dir zero p q x y e = refl
age_same dir (suc l) p q x y e = age_still dir l p q x y (omega arith) (up_to_same dir _ _ (ap (λ z. turned (p + q) (z % 3)) e))

-- an age is a level
pub age_bound : (dir : Direction) (l p q x y : ℕ) → age_of dir l p q x y ≤ l
age_bound dir zero p q x y = omega arith
age_bound dir (suc l) p q x y =
    let up = age_bound dir l (p / 3) (q / 3) (x / 3) (y / 3) in
    ⊎_elim
    (λ e. ⊎_elim
    (λ h. omega (arith, age_crossed dir l p q x y (e, h)))
    (λ u. omega (arith, age_still dir l p q x y e u))
    (later_or dir (turned (p + q) (x % 3)) (turned (p + q) (y % 3))))
    (λ n. omega (arith, age_above dir l p q x y n))
    (cases_eq (x / 3) (y / 3))

-- inside one parent the curve crosses, or the age is that between the parents
pub age_step : (dir : Direction) (l p q x y : ℕ) → (Crosses dir (p + q) x y × (age_of dir (suc l) p q x y ≡ suc l)) ⊎ (Quiet dir (p + q) x y × (age_of dir (suc l) p q x y ≡ age_of dir l (p / 3) (q / 3) (x / 3) (y / 3)))
age_step dir l p q x y =
    ⊎_elim
    (λ e. ⊎_elim
    (λ h. inl ((e, h), age_crossed dir l p q x y (e, h)))
    (λ u. inr ((λ same. u), age_still dir l p q x y e u ∙ sym (age_same dir l (p / 3) (q / 3) (x / 3) (y / 3) e)))
    (later_or dir (turned (p + q) (x % 3)) (turned (p + q) (y % 3))))
    (λ n. inr ((λ same. absurd (n same)), age_above dir l p q x y n))
    (cases_eq (x / 3) (y / 3))

-- a plane on the domain's high boundary has no age
pub age_wall : (dir : Direction) (l p q x : ℕ) → x + 1 ≡ 3 ^ l → age_of dir l p q x (x + 1) ≡ 0
age_wall dir zero p q x h = refl
age_wall dir (suc l) p q x h =
    let far = pow-suc 3 l in
    let up : x / 3 + 1 ≡ 3 ^ l = omega (arith, far, h) in
    let next : (x + 1) / 3 ≡ x / 3 + 1 = omega (arith, far, h) in
    age_above dir l p q x (x + 1) (λ e. omega arith) ∙ ap (λ z. age_of dir l (p / 3) (q / 3) (x / 3) z) next ∙ age_wall dir l (p / 3) (q / 3) (x / 3) up

rises_twice : (dir : Direction) (s : ℕ) → Rises dir s → Rises (turned_round (turned_round dir)) s
rises_twice Forward s h = h
rises_twice Backward s h = h

pub rises_other : (dir : Direction) (s : ℕ) → ¬ Rises dir s → Rises (turned_round dir) s
rises_other Forward s h = omega arith
rises_other Backward s h = omega arith

later_up : (dir : Direction) (s k : ℕ) → Rises dir s → k < 2 → Later dir (turned s k) (turned s (k + 1))
later_up Forward s k h b = grind (arith, nat_tests)
later_up Backward s k h b = grind (arith, nat_tests)

still_up : (dir : Direction) (s k : ℕ) → Rises dir s → k < 2 → UpTo dir (turned s k) (turned s (k + 1))
still_up Forward s k h b = grind (arith, nat_tests)
still_up Backward s k h b = grind (arith, nat_tests)

later_down : (dir : Direction) (s k : ℕ) → Rises (turned_round dir) s → k < 2 → Later dir (turned s (k + 1)) (turned s k)
later_down Forward s k h b = grind (arith, nat_tests)
later_down Backward s k h b = grind (arith, nat_tests)

still_down : (dir : Direction) (s k : ℕ) → Rises (turned_round dir) s → k < 2 → UpTo dir (turned s (k + 1)) (turned s k)
still_down Forward s k h b = grind (arith, nat_tests)
still_down Backward s k h b = grind (arith, nat_tests)

-- the faces of a child from those of its parent
module _ (p q x : ℕ) where
  abbrev s : ℕ
  s = p + q

  low_kept : (dir : Direction) (l : ℕ) → x % 3 ≡ 0 → age_of dir (suc l) p q x (x - 1) ≡ age_of dir l (p / 3) (q / 3) (x / 3) (x / 3 - 1)
  low_kept dir l h = ⊎_elim
      (λ (z : x ≡ 0). age_same dir (suc l) p q x (x - 1) (omega arith) ∙ sym (age_same dir l (p / 3) (q / 3) (x / 3) (x / 3 - 1) (omega arith)))
      (λ n. let e : (x - 1) / 3 ≡ x / 3 - 1 = omega arith in age_above dir l p q x (x - 1) (λ same. omega arith) ∙ ap (λ z. age_of dir l (p / 3) (q / 3) (x / 3) z) e)
      (cases_eq x 0)

  high_kept : (dir : Direction) (l : ℕ) → x % 3 ≡ 2 → age_of dir (suc l) p q x (x + 1) ≡ age_of dir l (p / 3) (q / 3) (x / 3) (x / 3 + 1)
  high_kept dir l h = let e : (x + 1) / 3 ≡ x / 3 + 1 = omega arith in age_above dir l p q x (x + 1) (λ same. omega arith) ∙ ap (λ z. age_of dir l (p / 3) (q / 3) (x / 3) z) e

  low_rises : (dir : Direction) (l : ℕ) → Rises dir s → (x % 3 ≡ 0 → ⊥) → age_of dir (suc l) p q x (x - 1) ≡ 0
  low_rises dir l r h =
      let e : x % 3 ≡ (x - 1) % 3 + 1 = omega arith in
      age_still dir l p q x (x - 1) (omega arith) (subst (λ z. UpTo dir (turned s ((x - 1) % 3)) (turned s z)) (sym e) (still_up dir s ((x - 1) % 3) r (omega arith)))

  low_falls : (dir : Direction) (l : ℕ) → Rises (turned_round dir) s → (x % 3 ≡ 0 → ⊥) → age_of dir (suc l) p q x (x - 1) ≡ suc l
  low_falls dir l r h =
      let e : x % 3 ≡ (x - 1) % 3 + 1 = omega arith in
      age_crossed dir l p q x (x - 1) (omega arith, subst (λ z. Later dir (turned s z) (turned s ((x - 1) % 3))) (sym e) (later_down dir s ((x - 1) % 3) r (omega arith)))

  high_rises : (dir : Direction) (l : ℕ) → Rises dir s → (x % 3 ≡ 2 → ⊥) → age_of dir (suc l) p q x (x + 1) ≡ suc l
  high_rises dir l r h =
      let e : (x + 1) % 3 ≡ x % 3 + 1 = omega arith in
      age_crossed dir l p q x (x + 1) (omega arith, subst (λ z. Later dir (turned s (x % 3)) (turned s z)) (sym e) (later_up dir s (x % 3) r (omega arith)))

  high_falls : (dir : Direction) (l : ℕ) → Rises (turned_round dir) s → (x % 3 ≡ 2 → ⊥) → age_of dir (suc l) p q x (x + 1) ≡ 0
  high_falls dir l r h =
      let e : (x + 1) % 3 ≡ x % 3 + 1 = omega arith in
      age_still dir l p q x (x + 1) (omega arith) (subst (λ z. UpTo dir (turned s z) (turned s (x % 3))) (sym e) (still_down dir s (x % 3) r (omega arith)))

  abbrev Low : Direction → ℕ → Crossing
  Low dir l = crossing_of dir l p q x (x - 1)

  abbrev High : Direction → ℕ → Crossing
  High dir l = crossing_of dir l p q x (x + 1)

  pub low_face_kept : (dir : Direction) (l : ℕ) → 1 ≤ l → x % 3 ≡ 0 → Low dir l ≡ crossing_of dir (l - 1) (p / 3) (q / 3) (x / 3) (x / 3 - 1)
  low_face_kept dir l b h = let e : l ≡ suc (l - 1) = omega arith in ap (Low dir) e ∙ rw (low_kept dir (l - 1) h, low_kept (turned_round dir) (l - 1) h) refl

  pub high_face_kept : (dir : Direction) (l : ℕ) → 1 ≤ l → x % 3 ≡ 2 → High dir l ≡ crossing_of dir (l - 1) (p / 3) (q / 3) (x / 3) (x / 3 + 1)
  high_face_kept dir l b h = let e : l ≡ suc (l - 1) = omega arith in ap (High dir) e ∙ rw (high_kept dir (l - 1) h, high_kept (turned_round dir) (l - 1) h) refl

  pub low_face_rises : (dir : Direction) (l : ℕ) → 1 ≤ l → Rises dir s → (x % 3 ≡ 0 → ⊥) → Low dir l ≡ In l
  low_face_rises dir l b r h = let e : l ≡ suc (l - 1) = omega arith in ap (Low dir) e ∙ rw (low_rises dir (l - 1) r h, low_falls (turned_round dir) (l - 1) (rises_twice dir s r) h) refl ∙ ap In (sym e)

  pub low_face_falls : (dir : Direction) (l : ℕ) → 1 ≤ l → Rises (turned_round dir) s → (x % 3 ≡ 0 → ⊥) → Low dir l ≡ Out l
  low_face_falls dir l b r h = let e : l ≡ suc (l - 1) = omega arith in ap (Low dir) e ∙ rw (low_falls dir (l - 1) r h) refl ∙ ap Out (sym e)

  pub high_face_rises : (dir : Direction) (l : ℕ) → 1 ≤ l → Rises dir s → (x % 3 ≡ 2 → ⊥) → High dir l ≡ Out l
  high_face_rises dir l b r h = let e : l ≡ suc (l - 1) = omega arith in ap (High dir) e ∙ rw (high_rises dir (l - 1) r h) refl ∙ ap Out (sym e)

  pub high_face_falls : (dir : Direction) (l : ℕ) → 1 ≤ l → Rises (turned_round dir) s → (x % 3 ≡ 2 → ⊥) → High dir l ≡ In l
  high_face_falls dir l b r h = let e : l ≡ suc (l - 1) = omega arith in ap (High dir) e ∙ rw (high_falls dir (l - 1) r h, high_rises (turned_round dir) (l - 1) r h) refl ∙ ap In (sym e)

-- a neighbour does not come later both ways
pub age_one_way : (dir : Direction) (l p q x y : ℕ) → (age_of dir l p q x y ≡ 0) ⊎ (age_of (turned_round dir) l p q x y ≡ 0)
age_one_way dir zero p q x y = inl refl
age_one_way dir (suc l) p q x y =
    ⊎_elim
    (λ e. ⊎_elim
    (λ h. inr (age_still (turned_round dir) l p q x y e (swapped dir (turned (p + q) (x % 3)) (turned (p + q) (y % 3)) h)))
    (λ u. inl (age_still dir l p q x y e u))
    (later_or dir (turned (p + q) (x % 3)) (turned (p + q) (y % 3))))
    (λ n. ⊎_elim (λ a. inl (age_above dir l p q x y n ∙ a)) (λ a. inr (age_above (turned_round dir) l p q x y n ∙ a)) (age_one_way dir l (p / 3) (q / 3) (x / 3) (y / 3)))
    (cases_eq (x / 3) (y / 3))
  where
    swapped : (dir : Direction) (a b : ℕ) → Later dir a b → UpTo (turned_round dir) b a
    swapped Forward a b h = omega arith
    swapped Backward a b h = omega arith
