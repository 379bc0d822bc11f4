-- The sums of several trees.
use Rattle.std.proofs.Common.{◌≡◌, ◌⊎◌, ℕ, zero, suc, ◌-◌, ◌<◌, ◌≤◌, ℤ, pos, ◌*ℤ◌, Bool, true, false, not, ◌&&◌, if◌then◌else◌, List, inl, inr, ⊎_elim, refl, sym, ap, subst, ◌∙◌, arith}
use Rattle.std.specs.Prelude.{◌+ℤ◌, ◌-ℤ◌}
use Rattle.std.proofs.lemmas.Int.{ints}
use Rattle.std.proofs.Math.Nat.{div-mul-le_self}
use Rattle.std.proofs.lemmas.Bool.{false≢true, cases_eq}
use Rattle.peano_keys.specs.declared.dim.Dim.{Dim}
use Rattle.peano_keys.specs.declared.cell.CellKey.{CellKey}
use Rattle.peano_keys.specs.declared.side.Mark.{Mark}
use Rattle.peano_keys.specs.Cell.{IsCell, IsDigits, child_of}
use Rattle.peano_keys.specs.Grid.{Spacetree, IsGrid, is_refined, has_cell}
use Rattle.spacetree.proofs.Children.{child_cell, third_digit}
use Rattle.spacetree.proofs.Leaves.{child_there}
use Rattle.hanging_nodes.proofs.TwoGrids.{leaf_not}
use Rattle.peano_keys.specs.Sums.{over_children, over_first, weight}
use Rattle.mean_values.specs.NextSums.{rounded, handed_up, next_sum, TellsMerges}
use Rattle.cell_sums.proofs.Sums.{over_same, over_add, over_none, first_same}
use Rattle.mean_values.proofs.NextSums.{false_by, next_plain, next_refined, handed_plain}
use Rattle.tree_sums.specs.Partials.{alone, partial_sum, total_sum, AreTreesOver, OwnersSum}
use Rattle.tree_sums.specs.Totals.{TotalsBegin}

-- the sum over children of a sum over trees
pub over_swap : (dim : Dim) (trees : ℕ) (f : ℕ → List ℕ → ℤ) → over_first trees (λ s. over_children dim (f s)) ≡ over_children dim (λ k. over_first trees (λ s. f s k))
over_swap dim zero f = sym (over_none dim)
over_swap dim (suc t) f = ap (λ z. over_children dim (f t) +ℤ z) (over_swap dim t f) ∙ sym (over_add dim (f t) (λ k. over_first t (λ s. f s k)))

-- of the trees one has a number, and the others none
nobody : (trees : ℕ) (owned : ℕ → Bool) (z : ℤ) → ((s : ℕ) → s < trees → owned s ≡ false) → over_first trees (λ s. if owned s then z else pos 0) ≡ pos 0
nobody zero owned z none = refl
nobody (suc t) owned z none = let off : owned t ≡ false = none t (omega arith) in rw off (ap (λ r. pos 0 +ℤ r) (nobody t owned z (λ s h. none s (omega (arith, h)))))

pub somebody : (trees : ℕ) (owned : ℕ → Bool) (z : ℤ) (s : ℕ) → s < trees → owned s ≡ true → ((r : ℕ) → owned r ≡ true → r ≡ s) → over_first trees (λ s. if owned s then z else pos 0) ≡ z
somebody zero owned z s h own one = absurd (omega (arith, h))
somebody (suc t) owned z s h own one = ⊎_elim
    (λ e. (let last : owned t ≡ true = subst (λ r. owned r ≡ true) e own in rw last (ap (λ r. z +ℤ r) (nobody t owned z (λ r b. false_by (owned r) (λ o. omega (arith, one r o, b, e)))) ∙ (let f : z +ℤ pos 0 ≡ z = omega (arith, ints) in f))))
    (λ apart. (let last : owned t ≡ false = false_by (owned t) (λ o. apart (sym (one t o))) in rw last (ap (λ r. pos 0 +ℤ r) (somebody t owned z s (omega (arith, h, apart)) own one) ∙ (let f : pos 0 +ℤ z ≡ z = omega (arith, ints) in f))))
    (cases_eq s t)

-- of some trees at most one has it
pub first_or_none : (trees : ℕ) (owned : ℕ → Bool) (z : ℤ) → ((s r : ℕ) → owned s ≡ true → owned r ≡ true → s ≡ r) → (over_first trees (λ s. if owned s then z else pos 0) ≡ z) ⊎ (over_first trees (λ s. if owned s then z else pos 0) ≡ pos 0)
first_or_none zero owned z one = inr refl
first_or_none (suc t) owned z one = elim (owned t) as (λ b. owned t ≡ b → ((if b then z else pos 0) +ℤ over_first t (λ s. if owned s then z else pos 0) ≡ z) ⊎ ((if b then z else pos 0) +ℤ over_first t (λ s. if owned s then z else pos 0) ≡ pos 0)) [
  | true ↦ λ e. inl (ap (λ r. z +ℤ r) (nobody t owned z (λ r b. false_by (owned r) (λ o. omega (arith, one r t o e, b)))) ∙ (let f : z +ℤ pos 0 ≡ z = omega (arith, ints) in f))
  | false ↦ λ e. ⊎_elim (λ h. inl (ap (λ r. pos 0 +ℤ r) h ∙ (let f : pos 0 +ℤ z ≡ z = omega (arith, ints) in f))) (λ h. inr (ap (λ r. pos 0 +ℤ r) h)) (first_or_none t owned z one)
] refl

pub rounded_none : (w : ℕ) → rounded (pos 0) w ≡ pos 0
rounded_none w = ap pos (omega (arith, div-mul-le_self 0 w))

pub handed_if : (dim : Dim) (merging : CellKey → Bool) (n : ℕ) (q : CellKey) (b : Bool) (z : ℤ) → handed_up dim merging n q (if b then z else pos 0) ≡ (if b then handed_up dim merging n q z else pos 0)
handed_if dim merging n q true z = refl
handed_if dim merging n q false z = none (merging q)
  where
    none : (m : Bool) → (if m then rounded (pos 0) (weight dim n) else pos 0) ≡ pos 0
    none true = rounded_none (weight dim n)
    none false = refl

over_if : (dim : Dim) (b : Bool) (f : List ℕ → ℤ) → over_children dim (λ k. if b then f k else pos 0) ≡ (if b then over_children dim f else pos 0)
over_if dim true f = refl
over_if dim false f = over_none dim

pub and_second : (a b : Bool) → (a && not b) ≡ true → b ≡ false
and_second true true h = absurd (false≢true h)
and_second true false h = refl
and_second false b h = absurd (false≢true h)

pub partial_plain : (t : Spacetree) (merging shared owned : CellKey → Bool) (now : CellKey → ℤ) (n : ℕ) (c : CellKey) → is_refined t c ≡ false → partial_sum t merging shared owned now n c ≡ (if owned c then now c *ℤ pos (weight t.dim n) else pos 0)
partial_plain t merging shared owned now zero c h = refl
partial_plain t merging shared owned now (suc n) c h = rw h refl

pub partial_refined : (t : Spacetree) (merging shared owned : CellKey → Bool) (now : CellKey → ℤ) (n : ℕ) (c : CellKey) → is_refined t c ≡ true → partial_sum t merging shared owned now (suc n) c ≡ over_children t.dim (λ k. handed_up t.dim (alone merging shared) n (child_of c k) (partial_sum t merging shared owned now n (child_of c k)))
partial_refined t merging shared owned now n c h = rw h refl

module _ (t : Spacetree) (merging shared : CellKey → Bool) (trees : ℕ) (owned : ℕ → CellKey → Bool) (now : CellKey → ℤ) (are : AreTreesOver t trees owned shared) where
  -- the sum of a cell that is not shared is its owner's, and the other trees have nothing of it
  pub local_is : (s n : ℕ) (c : CellKey) → shared c ≡ false → partial_sum t merging shared (owned s) now n c ≡ (if owned s c then next_sum t (alone merging shared) now n c else pos 0)
  local_is s zero c h = refl
  local_is s (suc n) c h = elim (is_refined t c) as (λ a. is_refined t c ≡ a → partial_sum t merging shared (owned s) now (suc n) c ≡ (if owned s c then next_sum t (alone merging shared) now (suc n) c else pos 0)) [
    | false ↦ λ a. partial_plain t merging shared (owned s) now (suc n) c a ∙ ap (λ z. if owned s c then z else pos 0) (sym (next_plain t (alone merging shared) now (suc n) c a))
    | true ↦ λ a.
        partial_refined t merging shared (owned s) now n c a
        ∙ over_same t.dim _ _ (λ k d. ap (handed_up t.dim (alone merging shared) n (child_of c k)) (local_is s n (child_of c k) (are.whole c k a d h)) ∙ handed_if t.dim (alone merging shared) n (child_of c k) (owned s (child_of c k)) (next_sum t (alone merging shared) now n (child_of c k)) ∙ ap (λ b. if b then handed_up t.dim (alone merging shared) n (child_of c k) (next_sum t (alone merging shared) now n (child_of c k)) else pos 0) (are.kept c k s a d h))
        ∙ over_if t.dim (owned s c) (λ k. handed_up t.dim (alone merging shared) n (child_of c k) (next_sum t (alone merging shared) now n (child_of c k)))
        ∙ ap (λ z. if owned s c then z else pos 0) (sym (next_refined t (alone merging shared) now n c a))
  ] refl

module _ (depth : ℕ) (t : Spacetree) (marks : CellKey → Mark) (merging shared : CellKey → Bool) (trees : ℕ) (owned : ℕ → CellKey → Bool) (now : CellKey → ℤ) (deep : depth ≤ 12) (grid : IsGrid depth t) (tells : TellsMerges t marks merging) (are : AreTreesOver t trees owned shared) where
  abbrev lone : CellKey → Bool
  lone = alone merging shared

  abbrev total : ℕ → CellKey → ℤ
  total = total_sum t merging shared trees owned now

  child_inside : (c : CellKey) (k : List ℕ) → IsCell t.dim c → is_refined t c ≡ true → IsDigits t.dim k → IsCell t.dim (child_of c k)
  child_inside c k cell h d = child_cell t.dim c k cell (omega (arith, grid.levels c h, deep)) d

  child_in : (c : CellKey) (k : List ℕ) → IsCell t.dim c → is_refined t c ≡ true → IsDigits t.dim k → has_cell t (child_of c k) ≡ true
  child_in c k cell h d = child_there t c k cell.shape d.first d.second (third_digit t.dim k d) h

  local : (s n : ℕ) (c : CellKey) → shared c ≡ false → partial_sum t merging shared (owned s) now n c ≡ (if owned s c then next_sum t lone now n c else pos 0)
  local s n c h = local_is t merging shared trees owned now are s n c h

  -- one tree owns a cell
  owners : (c : CellKey) (z : ℤ) → IsCell t.dim c → has_cell t c ≡ true → over_first trees (λ s. if owned s c then z else pos 0) ≡ z
  owners c z cell there = let o = are.owner c cell there in somebody trees (λ s. owned s c) z o.0 o.1 o.2 (λ r b. are.one c r o.0 b o.2)

  -- the total of a cell has the merging cells that are not shared in place of their leaves
  pub total_is : (n : ℕ) (c : CellKey) → IsCell t.dim c → has_cell t c ≡ true → total n c ≡ next_sum t lone now n c
  total_is zero c cell there = owners c (now c *ℤ pos (weight t.dim zero)) cell there
  total_is (suc n) c cell there = elim (is_refined t c) as (λ a. is_refined t c ≡ a → total (suc n) c ≡ next_sum t lone now (suc n) c) [
    | false ↦ λ a. first_same trees _ _ (λ s. partial_plain t merging shared (owned s) now (suc n) c a) ∙ owners c (now c *ℤ pos (weight t.dim (suc n))) cell there ∙ sym (next_plain t lone now (suc n) c a)
    | true ↦ λ a.
        first_same trees _ _ (λ s. partial_refined t merging shared (owned s) now n c a)
        ∙ over_swap t.dim trees (λ s k. handed_up t.dim lone n (child_of c k) (partial_sum t merging shared (owned s) now n (child_of c k)))
        ∙ over_same t.dim _ _ (λ k d. one_child n (child_of c k) (child_inside c k cell a d) (child_in c k cell a d) (total_is n (child_of c k) (child_inside c k cell a d) (child_in c k cell a d)))
        ∙ sym (next_refined t lone now n c a)
  ] refl
    where
      one_child : (n : ℕ) (q : CellKey) → IsCell t.dim q → has_cell t q ≡ true → total n q ≡ next_sum t lone now n q → over_first trees (λ s. handed_up t.dim lone n q (partial_sum t merging shared (owned s) now n q)) ≡ handed_up t.dim lone n q (next_sum t lone now n q)
      one_child n q inside here same = elim (lone q) as (λ b. lone q ≡ b → over_first trees (λ s. handed_up t.dim lone n q (partial_sum t merging shared (owned s) now n q)) ≡ handed_up t.dim lone n q (next_sum t lone now n q)) [
        | true ↦ λ b. first_same trees _ _ (λ s. ap (handed_up t.dim lone n q) (local s n q (and_second (merging q) (shared q) b)) ∙ handed_if t.dim lone n q (owned s q) (next_sum t lone now n q)) ∙ owners q (handed_up t.dim lone n q (next_sum t lone now n q)) inside here
        | false ↦ λ b. first_same trees _ _ (λ s. handed_plain t.dim lone n q (partial_sum t merging shared (owned s) now n q) b) ∙ same ∙ sym (handed_plain t.dim lone n q (next_sum t lone now n q) b)
      ] refl

  -- below a cell that is not shared nothing is
  lone_same : (n : ℕ) (c : CellKey) → shared c ≡ false → next_sum t lone now n c ≡ next_sum t merging now n c
  lone_same zero c h = refl
  lone_same (suc n) c h = elim (is_refined t c) as (λ a. is_refined t c ≡ a → next_sum t lone now (suc n) c ≡ next_sum t merging now (suc n) c) [
    | false ↦ λ a. next_plain t lone now (suc n) c a ∙ sym (next_plain t merging now (suc n) c a)
    | true ↦ λ a.
        next_refined t lone now n c a
        ∙ over_same t.dim _ _ (λ k d. (let apart = are.whole c k a d h in ap (handed_up t.dim lone n (child_of c k)) (lone_same n (child_of c k) apart) ∙ ap (λ b. if b then rounded (next_sum t merging now n (child_of c k)) (weight t.dim n) else next_sum t merging now n (child_of c k)) (lone_is (merging (child_of c k)) (shared (child_of c k)) apart)))
        ∙ sym (next_refined t merging now n c a)
  ] refl
    where
      lone_is : (m s : Bool) → s ≡ false → (m && not s) ≡ m
      lone_is true s h = rw h refl
      lone_is false s h = refl

  pub owners_is : (s n : ℕ) (c : CellKey) → shared c ≡ false → owned s c ≡ true → partial_sum t merging shared (owned s) now n c ≡ next_sum t merging now n c
  owners_is s n c h o = local s n c h ∙ ap (λ b. if b then next_sum t lone now n c else pos 0) o ∙ lone_same n c h

pub owners_sum : OwnersSum
owners_sum depth t marks merging shared trees owned now deep grid tells are s levels c cell there apart own = owners_is depth t marks merging shared trees owned now deep grid tells are s levels c apart own

pub totals_begin : TotalsBegin
totals_begin depth t marks merging shared trees owned now deep grid tells are n c cell there = total_is depth t marks merging shared trees owned now deep grid tells are n c cell there
