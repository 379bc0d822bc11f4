-- Views, their corners and their records.
use Rattle.std.proofs.Common.{◌≡◌, ◌⊎◌, ℕ, zero, suc, ◌<◌, ◌≤◌, refl, sym, ◌∙◌, subst, inl, inr, ⊎_elim, arith}
use Rattle.peano_keys.specs.declared.dim.Dim.{Dim}
use Rattle.peano_keys.specs.Dim.{corners}
use Rattle.peano_keys.specs.Vertex.{IsVertex, corner_of}
use Rattle.peano_records.specs.declared.view.Corner.{Corner}
use Rattle.peano_records.specs.declared.view.Corner.TheVariants.{Vertex, Hanging, Beyond}
use Rattle.peano_records.specs.declared.view.CellView.{CellView}
use Rattle.peano_records.specs.Slots.{VertexRecord}
use Rattle.peano_records.specs.Tells.{corner_at}
use Rattle.tree_automaton.specs.Promises.{HasKey, IsViewIn, Keeps, SameCorner}
use Rattle.tree_automaton.proofs.Decided.{corner_vertex}
use Rattle.adapt_sweep.specs.Raises.{IsOfDim}

pub lt_or_le : (n m : ℕ) → (n < m) ⊎ (m ≤ n)
lt_or_le n zero = inr (omega arith)
lt_or_le zero (suc m) = inl (omega arith)
lt_or_le (suc n) (suc m) = ⊎_elim (λ h. inl (omega (arith, h))) (λ h. inr (omega (arith, h))) (lt_or_le n m)

-- a corner that is a vertex in a view of a cell is one of the cell's
pub at_corner : (dim : Dim) (v : CellView) (n : ℕ) (s : VertexRecord) → IsViewIn dim v → corner_at v n ≡ Vertex s → n < corners dim
at_corner dim v n s of at = ⊎_elim (λ below. below) (λ above. absurd (not_beyond (sym at ∙ of.beyond n above))) (lt_or_le n (corners dim))
  where
    not_beyond : Vertex s ≡ Beyond → ⊥
    not_beyond e = cc

-- and has a key of the dimension
pub is_of_dim : (dim : Dim) (v : CellView) (n : ℕ) → IsViewIn dim v → IsOfDim dim (corner_at v n)
is_of_dim dim v n of = by (corner_at v n) refl
  where
    by : (k : Corner) → corner_at v n ≡ k → IsOfDim dim k
    by (Vertex s) at = let below = at_corner dim v n s of at in subst (IsVertex dim) (sym (subst (HasKey (corner_of v.key n)) at (of.keys n below))) (corner_vertex dim v.key n of.cell below)
    by (Hanging k) at = tt
    by Beyond at = tt

-- what is kept is the same corner
pub same_itself : (k : Corner) → SameCorner k k
same_itself (Vertex s) = (refl, refl)
same_itself (Hanging k) = refl
same_itself Beyond = tt

pub keeps_itself : (v : CellView) → Keeps v v
keeps_itself v = record { key = refl; was = refl; will = refl; sides = refl; carried = refl; shape = refl; corners_stay = λ n. same_itself (corner_at v n) }

pub same_record : (s t : VertexRecord) → Vertex s ≡ Vertex t → s ≡ t
same_record s t e = cc

-- one record at one corner
pub one_record : (k : Corner) (s t : VertexRecord) → k ≡ Vertex s → k ≡ Vertex t → t ≡ s
one_record k s t a b = same_record t s (sym b ∙ a)
