-- Cells round a stored vertex, and their owners.
use Rattle.std.proofs.Common.{◌≡◌, ◌⊎◌, inl, inr, ⊎_elim, ℕ, zero, suc, ◌<◌, ◌≤◌, ◌==◌, ◌||◌, Bool, true, false, refl, sym, ap, subst, ◌∙◌, arith, Option, Some, None}
use Rattle.std.specs.Prelude.{IfSome}
use Rattle.std.proofs.lemmas.Bool.{false≢true, cases_eq}
use Rattle.std.proofs.lemmas.Bool.Decides.{nat_tests}
use Rattle.peano_keys.specs.declared.cell.CellKey.{CellKey}
use Rattle.peano_keys.specs.declared.dim.Dim.{Dim}
use Rattle.peano_keys.specs.declared.vertex.VertexKey.{VertexKey}
use Rattle.peano_keys.specs.Dim.{corners}
use Rattle.peano_keys.specs.Cell.{IsCell, parent_of}
use Rattle.peano_keys.specs.Vertex.{IsVertex, Touches, adjacent_of}
use Rattle.peano_keys.specs.Grid.{Spacetree, IsStored, is_refined, has_cell}
use Rattle.peano_keys.proofs.Positions.{adjacent_touches, position, position_below, at_position}
use Rattle.curve_cuts.specs.Cuts.{Cuts, Owns, HasVertex, IsCutGrid}
use Rattle.curve_cuts.proofs.Cuts.{owner_exists, owner_holds}

pub or_true : (a b : Bool) → (a || b) ≡ true → (a ≡ true) ⊎ (b ≡ true)
or_true true b h = inl refl
or_true false b h = inr h

-- a cell of a grid has a level down to the depth
pub level_in : (k : Cuts) (g : Spacetree) (q : CellKey) → IsCutGrid k g → has_cell g q ≡ true → q.level ≤ k.depth
level_in k g q fits there = ⊎_elim
    (λ h. let e : q.level ≡ 0 = grind (arith, nat_tests, h) in omega (arith, e))
    (λ h. omega (arith, fits.grid.levels (parent_of q) h))
    (or_true (q.level == 0) (is_refined g (parent_of q)) there)

-- what stands at a position
pub at_position_is : (dim : Dim) (v : VertexKey) (n : ℕ) (q : CellKey) → IsVertex dim v → adjacent_of dim v n ≡ Some q → IsCell dim q × Touches q v
at_position_is dim v n q vertex at = subst (λ (o : Option CellKey). IfSome o (λ c. IsCell dim c × Touches c v)) at (adjacent_touches dim v n vertex)

-- a cell at a position of a vertex that a tree has is a cell of the grid
pub cell_round : (k : Cuts) (g : Spacetree) (t n : ℕ) (v : VertexKey) (q : CellKey) → IsCutGrid k g → HasVertex k g t v → adjacent_of k.dim v n ≡ Some q → has_cell g q ≡ true
cell_round k g t n v q fits has at =
    let near = at_position_is k.dim v n q has.vertex at in
    has.stored q (subst (λ d. IsCell d q) (sym fits.dim) near.0) near.1

abbrev pub there : Spacetree → Option CellKey → Bool
there g None = true
there g (Some q) = has_cell g q

-- a Boolean test holds below a number, or fails at one
pub all_or_one : (b : ℕ → Bool) (m : ℕ) → ((j : ℕ) → j < m → b j ≡ true) ⊎ ((j : ℕ) × (j < m) × (b j ≡ false))
all_or_one b zero = inl (λ j h. absurd (omega (arith, h)))
all_or_one b (suc m) = ⊎_elim
    (λ all. by_last (b m) refl all)
    (λ one. inr (one.0, omega (arith, one.1), one.2))
    (all_or_one b m)
  where
    by_last : (x : Bool) → b m ≡ x → ((j : ℕ) → j < m → b j ≡ true) → ((j : ℕ) → j < suc m → b j ≡ true) ⊎ ((j : ℕ) × (j < suc m) × (b j ≡ false))
    by_last true e all = inl (λ j h. ⊎_elim (λ same. ap b same ∙ e) (λ other. all j (omega (arith, h, other))) (cases_eq j m))
    by_last false e all = inr (m, omega arith, e)

-- a vertex is stored or not
pub decided : (dim : Dim) (g : Spacetree) (v : VertexKey) → g.dim ≡ dim → IsVertex dim v → IsStored g v ⊎ ¬ IsStored g v
decided dim g v same vertex = ⊎_elim
    (λ all. inl (λ q cell touches. ap (there g) (sym (at_position dim v q (subst (λ d. IsCell d q) same cell) touches)) ∙ all (position dim v q) (position_below dim v q touches)))
    (λ one. inr (λ stored. missing (adjacent_of dim v one.0) stored (adjacent_touches dim v one.0 vertex) one.2))
    (all_or_one (λ j. there g (adjacent_of dim v j)) (corners dim))
  where
    missing : (o : Option CellKey) → IsStored g v → IfSome o (λ q. IsCell dim q × Touches q v) → there g o ≡ false → ⊥
    missing None stored near e = false≢true (sym e)
    missing (Some q) stored near e = false≢true (sym e ∙ stored q (subst (λ d. IsCell d q) (sym same) near.0) near.1)

-- its owner has the vertex
pub owner_has : (k : Cuts) (g : Spacetree) (t o n : ℕ) (v : VertexKey) (q : CellKey) → HasVertex k g t v → adjacent_of k.dim v n ≡ Some q → Owns k o q → HasVertex k g o v
owner_has k g t o n v q has at owns =
    let near = at_position_is k.dim v n q has.vertex at in
    record { vertex = has.vertex; stored = has.stored; corner = record { tree = owns.tree; cell = q; inside = near.0; touches = near.1; held = owner_holds k o q owns } }

-- and there is one
pub owner_of : (k : Cuts) (g : Spacetree) (t n : ℕ) (v : VertexKey) (q : CellKey) → IsCutGrid k g → HasVertex k g t v → adjacent_of k.dim v n ≡ Some q → (o : ℕ) × Owns k o q
owner_of k g t n v q fits has at = owner_exists k q fits.cuts (at_position_is k.dim v n q has.vertex at).0 (level_in k g q fits (cell_round k g t n v q fits has at))
