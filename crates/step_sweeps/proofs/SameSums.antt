-- What a tree has of a cell follows from the new numbers of the leaves that it owns.
use Rattle.std.proofs.Common.{◌≡◌, ℕ, zero, suc, ◌+◌, ◌-◌, ℤ, pos, ◌*ℤ◌, Bool, true, false, if◌then◌else◌, refl, ap, sym, ◌∙◌, arith}
use Rattle.peano_keys.specs.declared.cell.CellKey.{CellKey}
use Rattle.peano_keys.specs.Cell.{IsCell, child_of}
use Rattle.peano_keys.specs.Grid.{Spacetree, is_refined, has_cell}
use Rattle.spacetree.proofs.Children.{child_cell, third_digit}
use Rattle.spacetree.proofs.Leaves.{child_there}
use Rattle.hanging_nodes.proofs.TwoGrids.{leaf_of}
use Rattle.curve_cuts.specs.Cuts.{Cuts, IsCutGrid, Owns}
use Rattle.solver_api.specs.Step.{IsLeafOf}
use Rattle.step_phases.proofs.Grids.{level_in}
use Rattle.peano_keys.specs.Sums.{weight}
use Rattle.mean_values.specs.NextSums.{handed_up}
use Rattle.cell_sums.proofs.Sums.{over_same}
use Rattle.tree_sums.specs.Trees.{owned_by, shared_by}
use Rattle.tree_sums.specs.Partials.{alone, partial_sum, tree_partial}
use Rattle.tree_sums.proofs.Trees.{owned_is_told}
use Rattle.tree_sums.proofs.Partials.{partial_plain, partial_refined}

module _ (k : Cuts) (g : Spacetree) (merging : CellKey → Bool) (t : ℕ) (a b : CellKey → ℤ) (fits : IsCutGrid k g) (same : (c : CellKey) → Owns k t c → IsLeafOf g c → a c ≡ b c) where
  abbrev sum : (CellKey → ℤ) → ℕ → CellKey → ℤ
  sum now n c = partial_sum g merging (shared_by k) (owned_by k t) now n c

  leaf_same : (n : ℕ) (c : CellKey) → IsLeafOf g c → (if owned_by k t c then a c *ℤ pos (weight g.dim n) else pos 0) ≡ (if owned_by k t c then b c *ℤ pos (weight g.dim n) else pos 0)
  leaf_same n c leaf = by (owned_by k t c) refl
    where
      by : (o : Bool) → owned_by k t c ≡ o → (if o then a c *ℤ pos (weight g.dim n) else pos 0) ≡ (if o then b c *ℤ pos (weight g.dim n) else pos 0)
      by true e = ap (λ z. z *ℤ pos (weight g.dim n)) (same c ((owned_is_told k t c).0 e) leaf)
      by false e = refl

  plain_same : (n : ℕ) (c : CellKey) → IsCell g.dim c → has_cell g c ≡ true → is_refined g c ≡ false → sum a n c ≡ sum b n c
  plain_same n c cell there plain = partial_plain g merging (shared_by k) (owned_by k t) a n c plain ∙ (leaf_same n c (record { cell = cell; leaf = leaf_of g c there plain }) ∙ sym (partial_plain g merging (shared_by k) (owned_by k t) b n c plain))

  same_sums : (n : ℕ) (c : CellKey) → IsCell g.dim c → has_cell g c ≡ true → c.level + n ≡ k.depth → sum a n c ≡ sum b n c
  same_sums zero c cell there level = plain_same zero c cell there (by (is_refined g c) refl)
    where
      by : (r : Bool) → is_refined g c ≡ r → r ≡ false
      by true e = (let above = fits.grid.levels c e in absurd (omega (arith, above, level)))
      by false e = refl
  same_sums (suc n) c cell there level = by (λ q inside here deeper. same_sums n q inside here deeper) (is_refined g c) refl
    where
      by : ((q : CellKey) → IsCell g.dim q → has_cell g q ≡ true → q.level + n ≡ k.depth → sum a n q ≡ sum b n q) → (r : Bool) → is_refined g c ≡ r → sum a (suc n) c ≡ sum b (suc n) c
      by below true e =
          partial_refined g merging (shared_by k) (owned_by k t) a n c e
          ∙ (over_same g.dim _ _ (λ d digits. ap (handed_up g.dim (alone merging (shared_by k)) n (child_of c d))
          (below (child_of c d) (child_cell g.dim c d cell (let above = fits.grid.levels c e in let deep = fits.deepest in omega (arith, above, deep)) digits) (child_there g c d cell.shape digits.first digits.second (third_digit g.dim d digits) e) (omega (arith, level))))
          ∙ sym (partial_refined g merging (shared_by k) (owned_by k t) b n c e))
      by below false e = plain_same (suc n) c cell there e

  -- so two fields that agree on these leaves give the same
  pub same_partial : (c : CellKey) → IsCell g.dim c → has_cell g c ≡ true → tree_partial k g merging a t c ≡ tree_partial k g merging b t c
  same_partial c cell there = (let level = level_in k g c fits there in same_sums (k.depth - c.level) c cell there (omega (arith, level)))
