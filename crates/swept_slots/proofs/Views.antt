-- Views, their corners, and corners that are changed one after another.
use Rattle.std.proofs.Common.{◌≡◌, ℕ, ◌+◌, ◌<◌, ◌≤◌, length, set, refl, ap, sym, ◌∙◌, subst, ⊎_elim, arith, length-set}
use Rattle.std.proofs.lemmas.List.{get_or-set_same, get_or-set_other}
use Rattle.std.proofs.lemmas.Bool.{cases_lt}
use Rattle.peano_keys.specs.declared.dim.Dim.{Dim}
use Rattle.peano_keys.specs.Dim.{corners}
use Rattle.peano_records.specs.declared.view.Corner.{Corner}
use Rattle.peano_records.specs.declared.view.Corner.TheVariants.{Vertex, Hanging, Beyond}
use Rattle.peano_records.specs.declared.view.CellView.{CellView}
use Rattle.peano_records.specs.Slots.{VertexRecord}
use Rattle.peano_records.specs.Tells.{corner_at}
use Rattle.tree_automaton.specs.Promises.{IsViewIn, Keeps, SameCorner}

not_beyond : (s : VertexRecord) → Vertex s ≡ Beyond → ⊥
not_beyond s e = cc

same_record : (s t : VertexRecord) → Vertex s ≡ Vertex t → s ≡ t
same_record s t e = cc

-- one record at one corner
pub one_record : (k : Corner) (s t : VertexRecord) → k ≡ Vertex s → k ≡ Vertex t → t ≡ s
one_record k s t a b = same_record t s (sym b ∙ a)

-- a corner that is a vertex in a view of a cell is one of the cell's
pub at_corner : (dim : Dim) (v : CellView) (n : ℕ) (s : VertexRecord) → IsViewIn dim v → corner_at v n ≡ Vertex s → n < corners dim
at_corner dim v n s of at = ⊎_elim (λ below. below) (λ above. absurd (not_beyond s (sym at ∙ of.beyond n above))) (cases_lt n (corners dim))

-- what is kept is the same corner
pub same_itself : (k : Corner) → SameCorner k k
same_itself (Vertex s) = (refl, refl)
same_itself (Hanging k) = refl
same_itself Beyond = tt

pub keeps_itself : (v : CellView) → Keeps v v
keeps_itself v = record { key = refl; was = refl; will = refl; sides = refl; carried = refl; shape = refl; corners_stay = λ n. same_itself (corner_at v n) }

module _ (R : ℕ → Corner → Corner → Type 0) where
  -- the corners below a number are changed, and the others are as they were
  pub record CornersBelow (n : ℕ) (v w : CellView) : Type 0 where
    pub size : length w.corners ≡ length v.corners
    pub others : w ≡ record v { corners = w.corners }
    pub done : (j : ℕ) → j < n → R j (corner_at v j) (corner_at w j)
    pub rest : (j : ℕ) → n ≤ j → corner_at w j ≡ corner_at v j

  pub no_corner : (v : CellView) → CornersBelow 0 v v
  no_corner v = record { size = refl; others = refl; done = λ j h. absurd (omega (arith, h)); rest = λ j h. refl }

  pub next_corner : (n : ℕ) (v w : CellView) (x : Corner) → n < length w.corners → R n (corner_at w n) x → CornersBelow n v w → CornersBelow (n + 1) v (record w { corners = set w.corners n x })
  next_corner n v w x below here so_far = record {
    size = length-set w.corners n x ∙ so_far.size;
    others = ap (λ (u : CellView). record u { corners = set w.corners n x }) so_far.others;
    done = λ j h. ⊎_elim
        (λ less. subst (R j (corner_at v j)) (sym (other j (omega (arith, less)))) (so_far.done j less))
        (λ least. let e : n ≡ j = omega (arith, h, least) in subst (λ i. R i (corner_at v i) (corner_at (record w { corners = set w.corners n x }) i)) e
        (subst (R n (corner_at v n)) (sym there) (subst (λ k. R n k x) (so_far.rest n (omega arith)) here)))
        (cases_lt j n);
    rest = λ j h. other j (omega (arith, h)) ∙ so_far.rest j (omega (arith, h));
  }
    where
      there : corner_at (record w { corners = set w.corners n x }) n ≡ x
      there = get_or-set_same w.corners n x Beyond below

      other : (j : ℕ) → (j ≡ n → ⊥) → corner_at (record w { corners = set w.corners n x }) j ≡ corner_at w j
      other j apart = get_or-set_other w.corners n j x Beyond apart
