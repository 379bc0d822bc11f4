-- Sums by level in a sweep.
use Rattle.std.proofs.Common.{◌≡◌, ◌≢◌, ◌⊎◌, ℕ, zero, suc, ◌+◌, ◌-◌, ◌%◌, ◌<◌, ◌≤◌, ◌==◌, ◌&&◌, ℤ, pos, Bool, true, false, if◌then◌else◌, List, inl, inr, ⊎_elim, refl, sym, ap, subst, ◌∙◌, arith, eq-eqb, eqb-true}
use Rattle.std.specs.Prelude.{◌+ℤ◌}
use Rattle.std.specs.Ordering.{eq_by_cmp}
use Rattle.std.proofs.lemmas.Int.{ints}
use Rattle.std.proofs.lemmas.Bool.{false≢true, cases_eq}
use Rattle.peano_keys.specs.declared.dim.Dim.{Dim}
use Rattle.peano_keys.specs.declared.cell.CellKey.{CellKey}
use Rattle.peano_keys.specs.Cell.{IsCell, IsDigits, at, parent_of, child_of, key_cmp}
use Rattle.spacetree.proofs.CellSets.{same_key, itself}
use Rattle.step_calls.specs.Calls.{Calls, IsVisited, AreNested, IsBelow}
use Rattle.peano_keys.specs.Sums.{over_children, over_first}
use Rattle.cell_sums.proofs.Sums.{over_same, over_none, over_one}
use Rattle.mean_values.proofs.Digits.{digits_in, digits_are, its_own_child, digits_told}
use Rattle.mean_values.proofs.NextSums.{false_by}
use Rattle.tree_sums.specs.Walks.{Accumulates, TellsOnce, TellsNothing, WalkSumsChildren}
use Rattle.tree_sums.proofs.Partials.{over_swap}

same_below : (n : ℕ) (f g : ℕ → ℤ) → ((s : ℕ) → s < n → f s ≡ g s) → over_first n f ≡ over_first n g
same_below zero f g e = refl
same_below (suc n) f g e = (let a = e n (omega arith) in let b = same_below n f g (λ s h. e s (omega (arith, h))) in λ i. a i +ℤ b i)

none_below : (n : ℕ) (f : ℕ → ℤ) → ((s : ℕ) → s < n → f s ≡ pos 0) → over_first n f ≡ pos 0
none_below zero f e = refl
none_below (suc n) f e = (let a = e n (omega arith) in let b = none_below n f (λ s h. e s (omega (arith, h))) in λ i. a i +ℤ b i)

zero_then : (z : ℤ) → pos 0 +ℤ z ≡ z
zero_then z = omega (arith, ints)

then_zero : (z : ℤ) → z +ℤ pos 0 ≡ z
then_zero z = omega (arith, ints)

one_below : (n : ℕ) (f : ℕ → ℤ) (j : ℕ) → j < n → ((s : ℕ) → s < n → s ≢ j → f s ≡ pos 0) → over_first n f ≡ f j
one_below zero f j h e = absurd (omega (arith, h))
one_below (suc n) f j h e = ⊎_elim
    (λ same. (let b = none_below n f (λ s g. e s (omega (arith, g)) (λ q. omega (arith, q, same, g))) in ap (λ z. f n +ℤ z) b ∙ then_zero (f n) ∙ ap f (sym same)))
    (λ apart. (let a = e n (omega arith) (λ q. apart (sym q)) in let b = one_below n f j (omega (arith, h, apart)) (λ s g ne. e s (omega (arith, g)) ne) in (λ i. a i +ℤ b i) ∙ zero_then (f j)))
    (cases_eq j n)

module _ (dim : Dim) (s : Calls) (told : ℕ → ℤ) (sums : ℕ → ℕ → ℤ) (x : CellKey → ℤ) (p : CellKey) (enter leave : ℕ) (are : (m : ℕ) → m < s.count → IsCell dim (s.cell m)) (nested : AreNested s) (acc : Accumulates s told sums) (parent : IsVisited s p enter leave) where
  abbrev cell : ℕ → CellKey
  cell = s.cell

  abbrev leaving : ℕ → Bool
  leaving = s.leaving

  abbrev first : ℕ
  first = enter + 1

  -- what a call adds to the level below
  abbrev adds : ℕ → ℤ
  adds m = if leaving m && ((cell m).level == p.level + 1) then told m else pos 0

  -- and what it adds to one cell
  abbrev adds_to : ℕ → CellKey → ℤ
  adds_to m q = if leaving m && eq_by_cmp key_cmp (cell m) q then told m else pos 0

  between : (m : ℕ) → enter < m → m < leave → IsBelow p (cell m)
  between m a b = nested p enter leave m parent a b

  inside : (m : ℕ) → m < leave → m < s.count
  inside m h = omega (arith, h, parent.within)

  next_is : (m : ℕ) → enter < m → m < leave → sums (m + 1) (p.level + 1) ≡ adds m +ℤ sums m (p.level + 1)
  next_is m a b = elim (leaving m) as (λ l. leaving m ≡ l → sums (m + 1) (p.level + 1) ≡ (if l && ((cell m).level == p.level + 1) then told m else pos 0) +ℤ sums m (p.level + 1)) [
    | false ↦ λ e. acc.kept_entering m (p.level + 1) (inside m b) e (λ q. omega (arith, q, (between m a b).deeper)) ∙ sym (zero_then (sums m (p.level + 1)))
    | true ↦ λ e. elim ((cell m).level == p.level + 1) as (λ t. ((cell m).level == p.level + 1) ≡ t → sums (m + 1) (p.level + 1) ≡ (if t then told m else pos 0) +ℤ sums m (p.level + 1)) [
      | true ↦ λ t. (let l = eqb-true (cell m).level (p.level + 1) t in subst (λ n. sums (m + 1) n ≡ told m +ℤ sums m n) l (acc.add m (inside m b) e ∙ turn (sums m (cell m).level) (told m)))
      | false ↦ λ t. acc.kept_leaving m (p.level + 1) (inside m b) e (λ q. false≢true (sym t ∙ eq-eqb (cell m).level (p.level + 1) (sym q))) ∙ sym (zero_then (sums m (p.level + 1)))
    ] refl
  ] refl
    where
      turn : (a b : ℤ) → a +ℤ b ≡ b +ℤ a
      turn a b = omega (arith, ints)

  -- the sum so far
  so_far : (i : ℕ) → first + i ≤ leave → sums (first + i) (p.level + 1) ≡ over_first i (λ j. adds (first + j))
  so_far zero h = (let e : first + 0 ≡ enter + 1 = omega arith in let l : (cell enter).level + 1 ≡ p.level + 1 = ap (λ c. c.level + 1) parent.entered in ap (λ m. sums m (p.level + 1)) e ∙ subst (λ n. sums (enter + 1) n ≡ pos 0) l (acc.clear enter (omega (arith, parent.order, parent.within)) parent.entering))
  so_far (suc i) h = (let e : first + suc i ≡ first + i + 1 = omega arith in ap (λ m. sums m (p.level + 1)) e ∙ next_is (first + i) (omega arith) (omega (arith, h)) ∙ ap (λ z. adds (first + i) +ℤ z) (so_far i (omega (arith, h))))

  -- a call adds to one child what it adds
  shared_out : (m : ℕ) → enter < m → m < leave → adds m ≡ over_children dim (λ k. adds_to m (child_of p k))
  shared_out m a b = elim (leaving m) as (λ l. leaving m ≡ l → (if l && ((cell m).level == p.level + 1) then told m else pos 0) ≡ over_children dim (λ k. if l && eq_by_cmp key_cmp (cell m) (child_of p k) then told m else pos 0)) [
    | false ↦ λ e. sym (over_none dim)
    | true ↦ λ e. elim ((cell m).level == p.level + 1) as (λ t. ((cell m).level == p.level + 1) ≡ t → (if t then told m else pos 0) ≡ over_children dim (λ k. if eq_by_cmp key_cmp (cell m) (child_of p k) then told m else pos 0)) [
      | false ↦ λ t. sym (over_same dim _ (λ k. pos 0) (λ k d. ap (λ q. if q then told m else pos 0) (false_by (eq_by_cmp key_cmp (cell m) (child_of p k)) (λ s. false≢true (sym t ∙ eq-eqb (cell m).level (p.level + 1) (ap (λ c. c.level) (same_key (cell m) (child_of p k) s)))))) ∙ over_none dim)
      | true ↦ λ t.
          let l = eqb-true (cell m).level (p.level + 1) t in
          let up : parent_of (cell m) ≡ p = (between m a b).child l in
          let own_cell = are m (inside m b) in
          let own : child_of p (digits_in (cell m)) ≡ cell m = ap (λ c. child_of c (digits_in (cell m))) (sym up) ∙ its_own_child (cell m) own_cell.shape (omega (arith, l)) in
          sym (over_one dim (λ k. pos 0) (λ k. if eq_by_cmp key_cmp (cell m) (child_of p k) then told m else pos 0) (at (cell m) 0 % 3) (at (cell m) 1 % 3) (at (cell m) 2 % 3) (told m) (digits_are dim (cell m) own_cell)
          (ap (λ q. if q then told m else pos 0) (subst (λ c. eq_by_cmp key_cmp (cell m) c ≡ true) (sym own) (itself (cell m))) ∙ sym (zero_then (told m)))
          (λ k d ne. ap (λ q. if q then told m else pos 0) (false_by (eq_by_cmp key_cmp (cell m) (child_of p k)) (λ s. ne (sym (digits_told dim p k d) ∙ ap digits_in (sym (same_key (cell m) (child_of p k) s))))))
          ∙ ap (λ z. z +ℤ told m) (over_none dim) ∙ zero_then (told m))
    ] refl
  ] refl

  abbrev length_of : ℕ
  length_of = leave - first

  -- a call that is not at a cell's leave adds nothing to it
  adds_none : (m : ℕ) (q : CellKey) → (leaving m ≡ true → cell m ≡ q → ⊥) → adds_to m q ≡ pos 0
  adds_none m q apart = ap (λ b. if b then told m else pos 0) (false_by (leaving m && eq_by_cmp key_cmp (cell m) q) (λ h. both (leaving m) (eq_by_cmp key_cmp (cell m) q) h (λ a b. apart a (same_key (cell m) q b))))
    where
      both : (a b : Bool) → (a && b) ≡ true → (a ≡ true → b ≡ true → ⊥) → ⊥
      both true b h f = f refl h
      both false b h f = false≢true h

  child_has : (q : CellKey) → TellsOnce s told enter leave (x q) q ⊎ TellsNothing s (x q) q → over_first length_of (λ j. adds_to (first + j) q) ≡ x q
  child_has q (inl t) =
      let v = t.visited in
      let e : first + (t.leave - first) ≡ t.leave = omega (arith, t.later, v.order) in
      one_below length_of (λ j. adds_to (first + j) q) (t.leave - first) (omega (arith, t.later, t.earlier, v.order))
      (λ s h ne. adds_none (first + s) q (λ l c. ⊎_elim
      (λ same. false≢true (sym v.entering ∙ ap leaving (sym same) ∙ l))
      (λ apart. v.once (first + s) (inside (first + s) (omega (arith, h))) apart (λ r. ne (omega (arith, r))) c)
      (cases_eq (first + s) t.enter)))
      ∙ ap (λ m. adds_to m q) e
      ∙ (let here : (leaving t.leave && eq_by_cmp key_cmp (cell t.leave) q) ≡ true = and_true (leaving t.leave) (eq_by_cmp key_cmp (cell t.leave) q) v.parting (subst (λ c. eq_by_cmp key_cmp c q ≡ true) (sym v.left) (itself q)) in ap (λ b. if b then told t.leave else pos 0) here)
      ∙ t.value
    where
      and_true : (a b : Bool) → a ≡ true → b ≡ true → (a && b) ≡ true
      and_true true b g h = h
      and_true false b g h = absurd (false≢true g)
  child_has q (inr t) = none_below length_of (λ j. adds_to (first + j) q) (λ s h. adds_none (first + s) q (λ l c. t.passed (first + s) (inside (first + s) (omega (arith, h))) c)) ∙ sym t.value

  sums_children : ((k : List ℕ) → IsDigits dim k → TellsOnce s told enter leave (x (child_of p k)) (child_of p k) ⊎ TellsNothing s (x (child_of p k)) (child_of p k)) → sums leave (p.level + 1) ≡ over_children dim (λ k. x (child_of p k))
  sums_children all =
      let e : first + length_of ≡ leave = omega (arith, parent.order) in
      ap (λ m. sums m (p.level + 1)) (sym e)
      ∙ so_far length_of (omega (arith, e))
      ∙ same_below length_of _ _ (λ j h. shared_out (first + j) (omega arith) (omega (arith, h, e)))
      ∙ over_swap dim length_of (λ j k. adds_to (first + j) (child_of p k))
      ∙ over_same dim _ _ (λ k d. child_has (child_of p k) (all k d))

pub walk_sums_children : WalkSumsChildren
walk_sums_children dim s told sums x p enter leave are nested acc parent all = sums_children dim s told sums x p enter leave are nested acc parent all
