-- One correction after another.
use Rattle.std.proofs.Common.{◌≡◌, ◌≢◌, ◌↔◌, ℕ, zero, suc, ◌+◌, ◌-◌, ◌%◌, ◌<◌, ◌≤◌, ℤ, pos, Bool, true, false, ◌||◌, ◌&&◌, if◌then◌else◌, List, refl, sym, ap, subst, ◌∙◌, arith}
use Rattle.std.specs.Prelude.{◌+ℤ◌, ◌-ℤ◌, nat_lt}
use Rattle.std.specs.Ordering.{eq_by_cmp}
use Rattle.std.proofs.lemmas.Int.{ints}
use Rattle.std.proofs.lemmas.Bool.Decides.{nat_tests}
use Rattle.std.proofs.lemmas.Bool.{false≢true}
use Rattle.peano_keys.specs.declared.cell.CellKey.{CellKey}
use Rattle.peano_keys.specs.Cell.{IsCell, IsDigits, at, parent_of, child_of, key_cmp}
use Rattle.peano_keys.specs.Grid.{Spacetree, IsGrid, is_refined}
use Rattle.hanging_nodes.proofs.TwoGrids.{leaf_not}
use Rattle.spacetree.specs.Build.{ancestor_of}
use Rattle.spacetree.proofs.CellSets.{same_key, itself}
use Rattle.spacetree.proofs.Children.{child_cell, parent_cell, parent_of_child, third_digit}
use Rattle.peano_keys.specs.Sums.{weight}
use Rattle.mean_values.specs.NextSums.{rounded, handed_up, next_sum}
use Rattle.cell_sums.proofs.Sums.{over_same, over_one}
use Rattle.mean_values.proofs.Digits.{digits_in, digits_are, its_own_child, digits_told}
use Rattle.mean_values.proofs.Lists.{level_of}
use Rattle.mean_values.proofs.NextSums.{false_by, next_plain, next_refined, handed_plain, handed_rounded}
use Rattle.tree_sums.specs.Partials.{correction}
use Rattle.tree_sums.specs.Totals.{IsAbove, is_above, AboveIsTold, HasLeavesAlone, TellsLowest, MergingIsLowest, with_one, CorrectionAdds}

pub both_true : (a b : Bool) → (a && b) ≡ true → (a ≡ true) × (b ≡ true)
both_true true b h = (refl, h)
both_true false b h = absurd (false≢true h)

and_true : (a b : Bool) → a ≡ true → b ≡ true → (a && b) ≡ true
and_true true b g h = h
and_true false b g h = absurd (false≢true g)

lt_from : (a b : ℕ) → nat_lt a b ≡ true → a < b
lt_from a b h = grind (arith, nat_tests)

lt_to : (a b : ℕ) → a < b → nat_lt a b ≡ true
lt_to a b h = grind (arith, nat_tests)

pub above_is_told : AboveIsTold
above_is_told c m = (
  (λ h.
      let p = both_true (nat_lt c.level m.level) (eq_by_cmp key_cmp (ancestor_of (m.level - c.level) m) c) h in
      let l : c.level < m.level = lt_from c.level m.level p.0 in
      let e : m.level - c.level ≡ suc (m.level - c.level - 1) = omega (arith, l) in
      let same : ancestor_of (m.level - c.level) m ≡ c = same_key (ancestor_of (m.level - c.level) m) c p.1 in
      (m.level - c.level - 1, omega (arith, l), ap (λ j. ancestor_of j m) (sym e) ∙ same)),
  (λ a.
      let l : m.level - suc a.0 ≡ c.level = sym (level_of m (suc a.0)) ∙ ap (λ r. r.level) a.2 in
      let e : m.level - c.level ≡ suc a.0 = omega (arith, l, a.1) in
      let same : ancestor_of (m.level - c.level) m ≡ c = ap (λ j. ancestor_of j m) e ∙ a.2 in
      and_true (nat_lt c.level m.level) _ (lt_to c.level m.level (omega (arith, l, a.1))) (subst (λ r. eq_by_cmp key_cmp r c ≡ true) (sym same) (itself c))),
)

or_false : (a b : Bool) → a ≡ false → b ≡ false → (a || b) ≡ false
or_false true b g h = absurd (false≢true (sym g))
or_false false b g h = h

or_second : (a b : Bool) → b ≡ true → (a || b) ≡ true
or_second true b h = refl
or_second false b h = h

or_right_false : (a b : Bool) → b ≡ false → (a || b) ≡ a
or_right_false true b h = refl
or_right_false false b h = h

module _ (depth : ℕ) (t : Spacetree) (done : CellKey → Bool) (m : CellKey) (now : CellKey → ℤ) (deep : depth ≤ 12) (grid : IsGrid depth t) (last : TellsLowest t done) (lowest : HasLeavesAlone t m) (fresh : done m ≡ false) where
  abbrev too : CellKey → Bool
  too = with_one done m

  abbrev more : ℤ
  more = correction (next_sum t done now (depth - m.level) m) (weight t.dim (depth - m.level))

  inside : IsCell t.dim m
  inside = grid.cells m lowest.refined

  ancestor_cell : (j : ℕ) → j ≤ m.level → IsCell t.dim (ancestor_of j m)
  ancestor_cell zero h = inside
  ancestor_cell (suc j) h = parent_cell t.dim (ancestor_of j m) (ancestor_cell j (omega (arith, h))) (omega (arith, h, level_of m j))

  ancestor_refined : (j : ℕ) → j ≤ m.level → is_refined t (ancestor_of j m) ≡ true
  ancestor_refined zero h = lowest.refined
  ancestor_refined (suc j) h = grid.parents (ancestor_of j m) (ancestor_refined j (omega (arith, h))) (omega (arith, h, level_of m j))

  other : (c : CellKey) → c ≢ m → eq_by_cmp key_cmp c m ≡ false
  other c ne = false_by (eq_by_cmp key_cmp c m) (λ e. ne (same_key c m e))

  up : (c : CellKey) (k : List ℕ) → IsCell t.dim c → IsDigits t.dim k → parent_of (child_of c k) ≡ c
  up c k cell d = parent_of_child c k cell.shape d.first d.second (third_digit t.dim k d)

  -- cells that are not above it keep their sums
  untouched : (n : ℕ) (c : CellKey) → IsCell t.dim c → ¬ IsAbove c m → next_sum t too now n c ≡ next_sum t done now n c
  untouched zero c cell apart = refl
  untouched (suc n) c cell apart = elim (is_refined t c) as (λ r. is_refined t c ≡ r → next_sum t too now (suc n) c ≡ next_sum t done now (suc n) c) [
    | true ↦ λ h. next_refined t too now n c h ∙ over_same t.dim _ _ (λ k d.
        let q : CellKey = child_of c k in
        let same : next_sum t too now n q ≡ next_sum t done now n q = untouched n q (child_cell t.dim c k cell (omega (arith, grid.levels c h, deep)) d) (λ a. apart (suc a.0, deeper_still c k a.0 a.2 a.1, ap parent_of a.2 ∙ up c k cell d)) in
        let ne : q ≢ m = λ e. apart (0, omega (arith, ap (λ r. r.level) e), ap parent_of (sym e) ∙ up c k cell d) in
        let kept : too q ≡ done q = or_right_false (done q) (eq_by_cmp key_cmp q m) (other q ne) in
        λ i. if kept i then rounded (same i) (weight t.dim n) else same i) ∙ sym (next_refined t done now n c h)
    | false ↦ λ h. next_plain t too now (suc n) c h ∙ sym (next_plain t done now (suc n) c h)
  ] refl
    where
      deeper_still : (c : CellKey) (k : List ℕ) (j : ℕ) → ancestor_of (suc j) m ≡ child_of c k → j < m.level → suc j < m.level
      deeper_still c k j e h = (let l : (ancestor_of (suc j) m).level ≡ c.level + 1 = ap (λ r. r.level) e in omega (arith, l, level_of m (suc j), h))

  not_above_itself : (n : ℕ) → ¬ IsAbove m m
  not_above_itself n a = (let l : (ancestor_of (suc a.0) m).level ≡ m.level = ap (λ r. r.level) a.2 in omega (arith, l, level_of m (suc a.0), a.1))

  -- the cell itself
  itself_hands : (n : ℕ) → n ≡ depth - m.level → handed_up t.dim too n m (next_sum t too now n m) ≡ handed_up t.dim done n m (next_sum t done now n m) +ℤ more
  itself_hands n e =
      let true_now : too m ≡ true = or_second (done m) (eq_by_cmp key_cmp m m) (itself m) in
      handed_rounded t.dim too n m (next_sum t too now n m) true_now
      ∙ ap (λ z. rounded z (weight t.dim n)) (untouched n m inside (not_above_itself n))
      ∙ back (next_sum t done now n m) (rounded (next_sum t done now n m) (weight t.dim n))
      ∙ ap (λ l. next_sum t done now n m +ℤ correction (next_sum t done now l m) (weight t.dim l)) e
      ∙ ap (λ z. z +ℤ more) (sym (handed_plain t.dim done n m (next_sum t done now n m) fresh))
    where
      back : (a b : ℤ) → b ≡ a +ℤ (b -ℤ a)
      back a b = omega (arith, ints)

  -- one level up
  one_up : (j n : ℕ) → j < m.level → (ancestor_of (suc j) m).level + suc n ≡ depth → handed_up t.dim too n (ancestor_of j m) (next_sum t too now n (ancestor_of j m)) ≡ handed_up t.dim done n (ancestor_of j m) (next_sum t done now n (ancestor_of j m)) +ℤ more → next_sum t too now (suc n) (ancestor_of (suc j) m) ≡ next_sum t done now (suc n) (ancestor_of (suc j) m) +ℤ more
  one_up j n h level below =
      let q : CellKey = ancestor_of j m in
      let c : CellKey = ancestor_of (suc j) m in
      let q_cell : IsCell t.dim q = ancestor_cell j (omega (arith, h)) in
      let c_cell : IsCell t.dim c = ancestor_cell (suc j) (omega (arith, h)) in
      let refined : is_refined t c ≡ true = ancestor_refined (suc j) (omega (arith, h)) in
      let own : child_of c (digits_in q) ≡ q = its_own_child q q_cell.shape (omega (arith, h, level_of m j)) in
      next_refined t too now n c refined
      ∙ over_one t.dim (λ k. handed_up t.dim done n (child_of c k) (next_sum t done now n (child_of c k))) (λ k. handed_up t.dim too n (child_of c k) (next_sum t too now n (child_of c k))) (at q 0 % 3) (at q 1 % 3) (at q 2 % 3) more (digits_are t.dim q q_cell)
      (ap (λ r. handed_up t.dim too n r (next_sum t too now n r)) own ∙ below ∙ ap (λ r. handed_up t.dim done n r (next_sum t done now n r) +ℤ more) (sym own))
      (λ k d ne.
      let r : CellKey = child_of c k in
      let apart : r ≢ q = λ e. ne (sym (digits_told t.dim c k d) ∙ ap digits_in e) in
      let not_it : r ≢ m = λ e. apart (at_level r j 0 (omega (arith, ap (λ x. x.level) e, level_of m (suc j), h)) (sym e)) in
      let not_above : ¬ IsAbove r m = λ a. apart (at_level r j (suc a.0) (let l : (ancestor_of (suc a.0) m).level ≡ c.level + 1 = ap (λ x. x.level) a.2 in omega (arith, l, level_of m (suc a.0), level_of m (suc j), a.1, h)) a.2) in
      let same : next_sum t too now n r ≡ next_sum t done now n r = untouched n r (child_cell t.dim c k c_cell (omega (arith, level, deep)) d) not_above in
      let kept : too r ≡ done r = or_right_false (done r) (eq_by_cmp key_cmp r m) (other r not_it) in
      λ i. if kept i then rounded (same i) (weight t.dim n) else same i)
      ∙ ap (λ z. z +ℤ more) (sym (next_refined t done now n c refined))
    where
      at_level : (r : CellKey) (j i : ℕ) → i ≡ j → ancestor_of i m ≡ r → r ≡ ancestor_of j m
      at_level r j i e a = sym a ∙ ap (λ l. ancestor_of l m) e

  -- cells above it have more
  touched : (j n : ℕ) → j < m.level → (ancestor_of (suc j) m).level + suc n ≡ depth → next_sum t too now (suc n) (ancestor_of (suc j) m) ≡ next_sum t done now (suc n) (ancestor_of (suc j) m) +ℤ more
  touched zero n h level = one_up zero n h level (itself_hands n (omega (arith, level, level_of m 1, h)))
  touched (suc j) zero h level = absurd (omega (arith, level, level_of m (suc (suc j)), grid.levels m lowest.refined, h))
  touched (suc j) (suc n) h level =
      let q : CellKey = ancestor_of (suc j) m in
      let levels = level_of m (suc j) in
      let quiet : done q ≡ false = false_by (done q) (λ e. false≢true (sym ((last q e).plain (digits_in (ancestor_of j m)) (digits_are t.dim (ancestor_of j m) (ancestor_cell j (omega (arith, h))))) ∙ ap (is_refined t) (its_own_child (ancestor_of j m) (ancestor_cell j (omega (arith, h))).shape (omega (arith, h, level_of m j))) ∙ ancestor_refined j (omega (arith, h)))) in
      let apart : q ≢ m = λ e. (let l : (ancestor_of (suc j) m).level ≡ m.level = ap (λ x. x.level) e in omega (arith, l, levels, h)) in
      let quiet_too : too q ≡ false = or_false (done q) (eq_by_cmp key_cmp q m) quiet (other q apart) in
      one_up (suc j) (suc n) h level (
      handed_plain t.dim too (suc n) q (next_sum t too now (suc n) q) quiet_too
      ∙ touched j n (omega (arith, h)) (omega (arith, level, levels, level_of m (suc (suc j)), h))
      ∙ ap (λ z. z +ℤ more) (sym (handed_plain t.dim done (suc n) q (next_sum t done now (suc n) q) quiet)))

  raised : (j n : ℕ) (c : CellKey) → j < m.level → ancestor_of (suc j) m ≡ c → c.level + n ≡ depth → next_sum t too now n c ≡ next_sum t done now n c +ℤ more
  raised j zero c h e level = (let l : (ancestor_of (suc j) m).level ≡ c.level = ap (λ r. r.level) e in absurd (omega (arith, l, level, level_of m (suc j), grid.levels m lowest.refined, h)))
  raised j (suc n) c h e level = (let l : (ancestor_of (suc j) m).level ≡ c.level = ap (λ r. r.level) e in subst (λ r. next_sum t too now (suc n) r ≡ next_sum t done now (suc n) r +ℤ more) e (touched j n h (omega (arith, l, level))))

pub correction_adds : CorrectionAdds
correction_adds depth t done m now deep grid last lowest fresh c cell level = elim (is_above c m) as (λ b. is_above c m ≡ b → next_sum t (with_one done m) now (depth - c.level) c ≡ next_sum t done now (depth - c.level) c +ℤ (if b then correction (next_sum t done now (depth - m.level) m) (weight t.dim (depth - m.level)) else pos 0)) [
  | true ↦ λ h. (let a = (above_is_told c m).0 h in raised depth t done m now deep grid last lowest fresh a.0 (depth - c.level) c a.1 a.2 (omega (arith, level)))
  | false ↦ λ h. untouched depth t done m now deep grid last lowest fresh (depth - c.level) c cell (λ a. false≢true (sym h ∙ (above_is_told c m).1 a)) ∙ then_zero (next_sum t done now (depth - c.level) c)
] refl
  where
    then_zero : (z : ℤ) → z ≡ z +ℤ pos 0
    then_zero z = omega (arith, ints)

pub merging_is_lowest : MergingIsLowest
merging_is_lowest t marks merging tells c h = (let m = (tells c).0 h in record { refined = m.refined; plain = λ k d. leaf_not t (child_of c k) (m.leaves k d) })
