-- The next sum and the next field.
use Rattle.std.proofs.Common.{◌≡◌, ℕ, zero, suc, ◌+◌, ◌-◌, ◌<◌, ◌≤◌, ℤ, pos, ◌*ℤ◌, Bool, true, false, if◌then◌else◌, List, inr, ⊎_elim, refl, sym, ap, subst, ◌∙◌, arith}
use Rattle.std.proofs.lemmas.Bool.{false≢true}
use Rattle.peano_keys.specs.declared.dim.Dim.{Dim}
use Rattle.peano_keys.specs.declared.cell.CellKey.{CellKey}
use Rattle.peano_keys.specs.declared.side.Mark.{Mark}
use Rattle.peano_keys.specs.Cell.{IsCell, IsDigits, parent_of, child_of}
use Rattle.peano_keys.specs.Grid.{Spacetree, IsGrid, is_refined, has_cell}
use Rattle.peano_keys.specs.Next.{Merges, IsNextGrid}
use Rattle.solver_api.specs.Step.{IsLeafOf}
use Rattle.hanging_nodes.specs.Views.{AreOldAndNew}
use Rattle.hanging_nodes.proofs.OneGrid.{there_by_parent}
use Rattle.hanging_nodes.proofs.TwoGrids.{leaf_not, next_had}
use Rattle.spacetree.proofs.Children.{child_cell, parent_of_child, third_digit}
use Rattle.spacetree.proofs.Leaves.{child_there, leaf_from}
use Rattle.peano_keys.specs.Sums.{over_children, weight, leaf_sum, floor_of, mean_of}
use Rattle.mean_values.specs.NextSums.{rounded, handed_up, next_sum, TellsMerges, AreNextNumbers, NextIsMean, SameTestsSameSums}
use Rattle.cell_sums.proofs.Sums.{over_same, split_evenly, weight_positive, floor_exact, sum_plain, sum_refined, mean_refined, mean_plain}

pub false_by : (b : Bool) → (b ≡ true → ⊥) → b ≡ false
false_by true h = absurd (h refl)
false_by false h = refl

pub true_by : (b : Bool) → (b ≡ false → ⊥) → b ≡ true
true_by true h = refl
true_by false h = absurd (h refl)

pub next_plain : (t : Spacetree) (merging : CellKey → Bool) (now : CellKey → ℤ) (n : ℕ) (c : CellKey) → is_refined t c ≡ false → next_sum t merging now n c ≡ now c *ℤ pos (weight t.dim n)
next_plain t merging now zero c h = refl
next_plain t merging now (suc n) c h = rw h refl

pub next_refined : (t : Spacetree) (merging : CellKey → Bool) (now : CellKey → ℤ) (n : ℕ) (c : CellKey) → is_refined t c ≡ true → next_sum t merging now (suc n) c ≡ over_children t.dim (λ k. handed_up t.dim merging n (child_of c k) (next_sum t merging now n (child_of c k)))
next_refined t merging now n c h = rw h refl

pub handed_plain : (dim : Dim) (merging : CellKey → Bool) (n : ℕ) (c : CellKey) (s : ℤ) → merging c ≡ false → handed_up dim merging n c s ≡ s
handed_plain dim merging n c s h = rw h refl

pub handed_rounded : (dim : Dim) (merging : CellKey → Bool) (n : ℕ) (c : CellKey) (s : ℤ) → merging c ≡ true → handed_up dim merging n c s ≡ rounded s (weight dim n)
handed_rounded dim merging n c s h = rw h refl

-- where children are leaves that stay and do not merge, the sum is that of the leaves
module _ (depth : ℕ) (old new : Spacetree) (marks : CellKey → Mark) (merging : CellKey → Bool) (now after : CellKey → ℤ) (deep : depth ≤ 12) (old_grid : IsGrid depth old) (new_grid : IsGrid depth new) (next : IsNextGrid old marks new) (tells : TellsMerges old marks merging) (numbers : AreNextNumbers depth old new now after) where
  dims : (n : ℕ) → weight new.dim n ≡ weight old.dim n
  dims n = ap (λ d. weight d n) next.dim

  level_below : (t : Spacetree) (c : CellKey) → IsGrid depth t → is_refined t c ≡ true → c.level < depth
  level_below t c grid h = grid.levels c h

  both : AreOldAndNew depth old.dim old new
  both = record { grid = old_grid; old_dim = refl; step = inr (marks, next) }

  not_merging : (c : CellKey) → is_refined old c ≡ false → merging c ≡ false
  not_merging c h = false_by (merging c) (λ m. false≢true (sym h ∙ ((tells c).0 m).refined))

  -- a child of a cell of the old grid
  module _ (c : CellKey) (k : List ℕ) (cell : IsCell old.dim c) (room : c.level < depth) (d : IsDigits old.dim k) where
    child_inside : IsCell old.dim (child_of c k)
    child_inside = child_cell old.dim c k cell (omega (arith, room, deep)) d

    up : parent_of (child_of c k) ≡ c
    up = parent_of_child c k cell.shape d.first d.second (third_digit old.dim k d)

    child_in : (t : Spacetree) → is_refined t c ≡ true → has_cell t (child_of c k) ≡ true
    child_in t h = child_there t c k cell.shape d.first d.second (third_digit old.dim k d) h

  leaf_of_new : (c : CellKey) → IsCell old.dim c → has_cell new c ≡ true → is_refined new c ≡ false → IsLeafOf new c
  leaf_of_new c cell there plain = leaf_from new c (subst (λ d. IsCell d c) (sym next.dim) cell) there plain

  -- a merging cell has the sum of its leaves
  merging_sum : (n : ℕ) (c : CellKey) → IsCell old.dim c → merging c ≡ true → next_sum old merging now n c ≡ leaf_sum old now n c
  merging_sum zero c cell m = refl
  merging_sum (suc n) c cell m =
      let merges = (tells c).0 m in
      next_refined old merging now n c merges.refined
      ∙ over_same old.dim _ _ (λ k d. (let plain = leaf_not old (child_of c k) (merges.leaves k d) in handed_plain old.dim merging n (child_of c k) _ (not_merging (child_of c k) plain) ∙ next_plain old merging now n (child_of c k) plain ∙ sym (sum_plain old now n (child_of c k) plain)))
      ∙ sym (sum_refined old now n c merges.refined)

  -- a leaf that was split
  split_sum : (n : ℕ) (c : CellKey) → IsCell old.dim c → c.level < depth → is_refined old c ≡ false → is_refined new c ≡ true → now c *ℤ pos (weight old.dim (suc n)) ≡ leaf_sum new after (suc n) c
  split_sum n c cell room a b =
      sym (split_evenly old.dim (now c) n)
      ∙ over_same old.dim _ _ each
      ∙ ap (λ dim. over_children dim (λ k. leaf_sum new after n (child_of c k))) (sym next.dim)
      ∙ sym (sum_refined new after n c b)
    where
      each : (k : List ℕ) → IsDigits old.dim k → now c *ℤ pos (weight old.dim n) ≡ leaf_sum new after n (child_of c k)
      each k d =
          let away : has_cell old (child_of c k) ≡ false = there_by_parent old (child_of c k) (omega arith) ∙ ap (is_refined old) (up c k cell room d) ∙ a in
          let plain : is_refined new (child_of c k) ≡ false = false_by (is_refined new (child_of c k)) (λ e. false≢true (sym away ∙ next_had depth old.dim old new (child_of c k) both e)) in
          let leaf = leaf_of_new (child_of c k) (child_inside c k cell room d) (child_in c k cell room d new b) plain in
          ap (λ x. x *ℤ pos (weight old.dim n)) (sym (numbers.split (child_of c k) leaf away ∙ ap now (up c k cell room d)))
          ∙ ap (λ w. after (child_of c k) *ℤ pos w) (sym (dims n))
          ∙ sym (sum_plain new after n (child_of c k) plain)

  -- a merged cell
  merged_is : (n : ℕ) (c : CellKey) → IsCell old.dim c → has_cell new c ≡ true → c.level + n ≡ depth → is_refined old c ≡ true → is_refined new c ≡ false → (merging c ≡ true) × (after c ≡ floor_of (next_sum old merging now n c) (weight old.dim n))
  merged_is n c cell there level a b =
      let m : merging c ≡ true = true_by (merging c) (λ f. false≢true (sym b ∙ (next.refined c).1 (inr (a, λ (e : Merges old marks c). false≢true (sym f ∙ (tells c).1 e))))) in
      (m, numbers.merged c (leaf_of_new c cell there b) a ∙ ap (λ l. mean_of old now l c) (let e : depth - c.level ≡ n = omega (arith, level) in e) ∙ mean_refined old now n c a ∙ ap (λ s. floor_of s (weight old.dim n)) (sym (merging_sum n c cell m)))

  -- a cell that stays refined or splits does not merge
  stays : (c : CellKey) → is_refined new c ≡ true → merging c ≡ false
  stays c b = false_by (merging c) (λ m. ⊎_elim (λ split. false≢true (sym (leaf_not old c split.leaf) ∙ ((tells c).0 m).refined)) (λ kept. kept.1 ((tells c).0 m)) ((next.refined c).0 b))

  module _ (c : CellKey) (cell : IsCell old.dim c) (here : has_cell old c ≡ true) (there : has_cell new c ≡ true) where
    kept_is : is_refined old c ≡ false → is_refined new c ≡ false → now c ≡ after c
    kept_is a b = sym (numbers.kept c (leaf_from old c cell here a) (leaf_of_new c cell there b))

    leaf_hands : (n : ℕ) → is_refined old c ≡ false → is_refined new c ≡ false → handed_up old.dim merging n c (next_sum old merging now n c) ≡ leaf_sum new after n c
    leaf_hands n a b = handed_plain old.dim merging n c _ (not_merging c a) ∙ next_plain old merging now n c a ∙ (let w = sym (dims n) in λ i. kept_is a b i *ℤ pos (w i)) ∙ sym (sum_plain new after n c b)

    merged_hands : (n : ℕ) → c.level + n ≡ depth → is_refined old c ≡ true → is_refined new c ≡ false → handed_up old.dim merging n c (next_sum old merging now n c) ≡ leaf_sum new after n c
    merged_hands n level a b = let m = merged_is n c cell there level a b in handed_rounded old.dim merging n c _ m.0 ∙ (let w = sym (dims n) in let v = sym m.1 in λ i. v i *ℤ pos (w i)) ∙ sym (sum_plain new after n c b)

  no_more : (t : Spacetree) (c : CellKey) → IsGrid depth t → c.level + 0 ≡ depth → is_refined t c ≡ false
  no_more t c grid level = false_by (is_refined t c) (λ e. omega (arith, grid.levels c e, level))

  -- what a cell hands to its parent is the sum of the leaves of the next field
  pub handed_is : (n : ℕ) (c : CellKey) → IsCell old.dim c → has_cell old c ≡ true → has_cell new c ≡ true → c.level + n ≡ depth → handed_up old.dim merging n c (next_sum old merging now n c) ≡ leaf_sum new after n c
  handed_is zero c cell here there level = leaf_hands c cell here there zero (no_more old c old_grid level) (no_more new c new_grid level)
  handed_is (suc n) c cell here there level = elim (is_refined old c) as (λ a. is_refined old c ≡ a → handed_up old.dim merging (suc n) c (next_sum old merging now (suc n) c) ≡ leaf_sum new after (suc n) c) [
    | true ↦ λ a. elim (is_refined new c) as (λ b. is_refined new c ≡ b → handed_up old.dim merging (suc n) c (next_sum old merging now (suc n) c) ≡ leaf_sum new after (suc n) c) [
      | true ↦ λ b. deeper a b (λ k d. handed_is n (child_of c k) (child_inside c k cell (omega (arith, level)) d) (child_in c k cell (omega (arith, level)) d old a) (child_in c k cell (omega (arith, level)) d new b) (omega (arith, level)))
      | false ↦ λ b. merged_hands c cell here there (suc n) level a b
    ] refl
    | false ↦ λ a. elim (is_refined new c) as (λ b. is_refined new c ≡ b → handed_up old.dim merging (suc n) c (next_sum old merging now (suc n) c) ≡ leaf_sum new after (suc n) c) [
      | true ↦ λ b. handed_plain old.dim merging (suc n) c _ (stays c b) ∙ next_plain old merging now (suc n) c a ∙ split_sum n c cell (omega (arith, level)) a b
      | false ↦ λ b. leaf_hands c cell here there (suc n) a b
    ] refl
  ] refl
    where
      deeper : is_refined old c ≡ true → is_refined new c ≡ true → ((k : List ℕ) → IsDigits old.dim k → handed_up old.dim merging n (child_of c k) (next_sum old merging now n (child_of c k)) ≡ leaf_sum new after n (child_of c k)) → handed_up old.dim merging (suc n) c (next_sum old merging now (suc n) c) ≡ leaf_sum new after (suc n) c
      deeper a b below =
          handed_plain old.dim merging (suc n) c _ (stays c b)
          ∙ next_refined old merging now n c a
          ∙ over_same old.dim _ _ below
          ∙ ap (λ dim. over_children dim (λ k. leaf_sum new after n (child_of c k))) (sym next.dim)
          ∙ sym (sum_refined new after n c b)

  -- and its floor is the mean
  pub mean_is : (n : ℕ) (c : CellKey) → IsCell old.dim c → has_cell old c ≡ true → has_cell new c ≡ true → c.level + n ≡ depth → floor_of (next_sum old merging now n c) (weight old.dim n) ≡ mean_of new after n c
  mean_is n c cell here there level = elim (is_refined new c) as (λ b. is_refined new c ≡ b → floor_of (next_sum old merging now n c) (weight old.dim n) ≡ mean_of new after n c) [
    | true ↦ λ b. ap (λ s. floor_of s (weight old.dim n)) (sym (handed_plain old.dim merging n c _ (stays c b)) ∙ handed_is n c cell here there level) ∙ ap (λ w. floor_of (leaf_sum new after n c) w) (sym (dims n)) ∙ sym (mean_refined new after n c b)
    | false ↦ λ b. elim (is_refined old c) as (λ a. is_refined old c ≡ a → floor_of (next_sum old merging now n c) (weight old.dim n) ≡ mean_of new after n c) [
      | true ↦ λ a. sym (merged_is n c cell there level a b).1 ∙ sym (mean_plain new after n c b)
      | false ↦ λ a. ap (λ s. floor_of s (weight old.dim n)) (next_plain old merging now n c a) ∙ floor_exact (now c) (weight old.dim n) (weight_positive old.dim n) ∙ kept_is c cell here there a b ∙ sym (mean_plain new after n c b)
    ] refl
  ] refl

pub next_is_mean : NextIsMean
next_is_mean depth old new marks merging now after deep old_grid new_grid next tells numbers c cell level here there =
    mean_is depth old new marks merging now after deep old_grid new_grid next tells numbers (depth - c.level) c cell here there (omega (arith, level))

pub next_same : SameTestsSameSums
next_same t a b now e zero c = refl
next_same t a b now e (suc n) c = elim (is_refined t c) as (λ r. is_refined t c ≡ r → next_sum t a now (suc n) c ≡ next_sum t b now (suc n) c) [
  | true ↦ λ h. next_refined t a now n c h ∙ over_same t.dim _ _ (λ k d. (let p = next_same t a b now e n (child_of c k) in let q = e (child_of c k) in λ i. if q i then rounded (p i) (weight t.dim n) else p i)) ∙ sym (next_refined t b now n c h)
  | false ↦ λ h. next_plain t a now (suc n) c h ∙ sym (next_plain t b now (suc n) c h)
] refl
