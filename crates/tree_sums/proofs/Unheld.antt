-- What a tree has of a cell that it does not hold.
use Rattle.std.proofs.Common.{◌≡◌, ℕ, zero, suc, ◌+◌, ◌-◌, ◌<◌, pos, ◌*ℤ◌, ℤ, Bool, true, false, if◌then◌else◌, refl, ap, subst, ◌∙◌, arith}
use Rattle.peano_keys.specs.declared.cell.CellKey.{CellKey}
use Rattle.peano_keys.specs.Cell.{IsCell, parent_of, child_of}
use Rattle.peano_keys.specs.Grid.{Spacetree, is_refined, has_cell}
use Rattle.spacetree.proofs.Children.{child_cell, parent_of_child, third_digit}
use Rattle.spacetree.proofs.Leaves.{child_there}
use Rattle.curve_cuts.specs.Cuts.{Cuts, Held, IsCutGrid}
use Rattle.curve_cuts.proofs.Cuts.{owner_holds, held_from_above}
use Rattle.peano_keys.specs.Sums.{weight}
use Rattle.mean_values.specs.NextSums.{handed_up}
use Rattle.cell_sums.proofs.Sums.{over_same, over_none}
use Rattle.mean_values.proofs.NextSums.{false_by}
use Rattle.tree_sums.specs.Trees.{owned_by, shared_by}
use Rattle.tree_sums.specs.Partials.{alone, partial_sum, UnheldIsNothing}
use Rattle.tree_sums.proofs.Trees.{owned_is_told}
use Rattle.tree_sums.proofs.Partials.{handed_if, partial_plain, partial_refined}

not_owned : (k : Cuts) (t : ℕ) (c : CellKey) → ¬ Held k t c → owned_by k t c ≡ false
not_owned k t c apart = false_by (owned_by k t c) (λ h. apart (owner_holds k t c ((owned_is_told k t c).0 h)))

has_nothing : (k : Cuts) (g : Spacetree) (merging : CellKey → Bool) (now : CellKey → ℤ) (t n : ℕ) (c : CellKey) → IsCutGrid k g → IsCell g.dim c → has_cell g c ≡ true → ¬ Held k t c → partial_sum g merging (shared_by k) (owned_by k t) now n c ≡ pos 0
has_nothing k g merging now t zero c fits cell there apart = ap (λ b. if b then now c *ℤ pos (weight g.dim zero) else pos 0) (not_owned k t c apart)
has_nothing k g merging now t (suc n) c fits cell there apart = elim (is_refined g c) as (λ r. is_refined g c ≡ r → partial_sum g merging (shared_by k) (owned_by k t) now (suc n) c ≡ pos 0) [
  | false ↦ λ r. partial_plain g merging (shared_by k) (owned_by k t) now (suc n) c r ∙ ap (λ b. if b then now c *ℤ pos (weight g.dim (suc n)) else pos 0) (not_owned k t c apart)
  | true ↦ λ r. partial_refined g merging (shared_by k) (owned_by k t) now n c r ∙ over_same g.dim _ (λ d. pos 0) (λ d digits.
      let inside = child_cell g.dim c d cell (omega (arith, fits.grid.levels c r, fits.deepest)) digits in
      let up : parent_of (child_of c d) ≡ c = parent_of_child c d cell.shape digits.first digits.second (third_digit g.dim d digits) in
      ap (handed_up g.dim (alone merging (shared_by k)) n (child_of c d)) (has_nothing k g merging now t n (child_of c d) fits inside (child_there g c d cell.shape digits.first digits.second (third_digit g.dim d digits) r)
      (λ held. apart (subst (Held k t) up (held_from_above k t (child_of c d) (subst (λ dim. IsCell dim (child_of c d)) fits.dim inside) (omega arith) (omega (arith, fits.grid.levels c r)) held))))
      ∙ handed_if g.dim (alone merging (shared_by k)) n (child_of c d) false (pos 0)) ∙ over_none g.dim
] refl

pub unheld_is_nothing : UnheldIsNothing
unheld_is_nothing k g merging now t c fits cell there apart = has_nothing k g merging now t (k.depth - c.level) c fits cell there apart
