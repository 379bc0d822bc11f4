-- Cells of a grid are no more than the grid has.
use Rattle.std.proofs.Common.{◌≡◌, ℕ, zero, suc, ◌+◌, ◌*◌, ◌^◌, ◌≤◌, refl, sym, ap, ◌∙◌, arith, List, [], ◌∷◌, length, length-append}
use Rattle.std.specs.FinSet as set
use Rattle.peano_keys.specs.declared.dim.Dim.{Dim}
use Rattle.peano_keys.specs.declared.cell.CellKey.{CellKey}
use Rattle.peano_keys.specs.declared.side.Mark.{Mark}
use Rattle.peano_keys.specs.Dim.{axes}
use Rattle.peano_keys.specs.Cell.{child_of, root}
use Rattle.peano_keys.specs.Grid.{Spacetree, IsGrid}
use Rattle.peano_keys.specs.Next.{Splits, Merges}
use Rattle.hanging_nodes.proofs.TwoGrids.{refined_there}
use Rattle.spacetree.specs.Counts.{CountsCells, cells_of}
use Rattle.spacetree.specs.Digits.{IsKept, digits_at}
use Rattle.spacetree.specs.Leaves.{is_among, IsCellOf}
use Rattle.spacetree.proofs.CellCounts.{len_by_kept}
use Rattle.spacetree.proofs.Leaves.{leaf_there}
use Rattle.step_world.specs.Counts.{CountsAtMost}
use Rattle.spacetree.proofs.CountedSets.{as_many, in_list, listed_once, no_more, with_all}
use Rattle.spacetree.proofs.AllCells.{upto, cells_under, listed_under}

-- the refined cells of a grid as a list
abbrev refined_cells : Spacetree → List CellKey
refined_cells g = (listed_once g.refined).0

refined_listed : (g : Spacetree) (q : CellKey) → is_among (refined_cells g) q ≡ set.contains g.refined q
refined_listed g q = (listed_once g.refined).2 q

length_refined : (g : Spacetree) → length (refined_cells g) ≡ set.len g.refined
length_refined g = (listed_once g.refined).3

-- and all its cells
abbrev all_cells : Spacetree → List CellKey
all_cells g = root ∷ cells_under g.dim (refined_cells g)

length_upto : (n : ℕ) (f : ℕ → CellKey) → length (upto n f) ≡ n
length_upto zero f = refl
length_upto (suc n) f = ap suc (length_upto n f)

length_under : (dim : Dim) (ps : List CellKey) → length (cells_under dim ps) ≡ 3 ^ axes dim * length ps
length_under dim [] = omega arith
length_under dim (p ∷ ps) =
    let fan : ℕ = 3 ^ axes dim in
    let here = length_upto fan (λ n. child_of p (digits_at dim n)) in
    let both = length-append (upto fan (λ n. child_of p (digits_at dim n))) (cells_under dim ps) in
    let rest = length_under dim ps in
    let more : fan * suc (length ps) ≡ fan + fan * length ps = grind arith in
    omega (arith, here, both, rest, more)

length_all : (g : Spacetree) → length (all_cells g) ≡ cells_of g
length_all g = omega (arith, length_under g.dim (refined_cells g), ap (λ n. 3 ^ axes g.dim * n) (length_refined g))

pub counts_at_most : CountsAtMost
counts_at_most g cells once within =
    let kept : IsKept (with_all set.empty cells) (with_all set.empty (all_cells g)) = λ c h.
    let of = within c (sym (in_list cells c) ∙ h) in
    in_list (all_cells g) c ∙ listed_under g (refined_cells g) (λ q r. refined_listed g q ∙ r) c of.cell of.there in
    omega (arith, as_many cells once, len_by_kept _ _ kept, no_more (all_cells g), length_all g)

-- so are those of a kind,
counted_at_most : (g : Spacetree) (P : CellKey → Type 0) (n : ℕ) → ((c : CellKey) → P c → IsCellOf g c) → CountsCells P n → n ≤ cells_of g
counted_at_most g P n within counted = omega (arith, counts_at_most g counted.cells counted.once (λ c h. within c ((counted.members c).0 h)), counted.count)

-- those that split
pub splits_at_most : (g : Spacetree) (marks : CellKey → Mark) (n : ℕ) → CountsCells (Splits g marks) n → n ≤ cells_of g
splits_at_most g marks n counted = counted_at_most g (Splits g marks) n (λ c s. record { cell = s.cell; there = leaf_there g c (record { cell = s.cell; leaf = s.leaf }) }) counted

-- and those that merge
pub merges_at_most : (g : Spacetree) (marks : CellKey → Mark) (n : ℕ) → IsGrid 12 g → CountsCells (Merges g marks) n → n ≤ cells_of g
merges_at_most g marks n grid counted = counted_at_most g (Merges g marks) n (λ c m. record { cell = grid.cells c m.refined; there = refined_there 12 g c grid m.refined }) counted
