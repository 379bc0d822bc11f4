-- A view whose corners are changed one after another.
use Rattle.std.proofs.Common.{◌≡◌, ℕ, ◌+◌, ◌<◌, ◌≤◌, length, set, refl, ap, sym, ◌∙◌, subst, ⊎_elim, arith, length-set}
use Rattle.std.proofs.lemmas.List.{get_or-set_same, get_or-set_other}
use Rattle.peano_keys.specs.declared.dim.Dim.{Dim}
use Rattle.peano_keys.specs.Dim.{corners}
use Rattle.peano_keys.specs.Vertex.{slot_from}
use Rattle.peano_records.specs.declared.slot.Status.{Status}
use Rattle.peano_keys.specs.declared.state.State.{State}
use Rattle.peano_records.specs.AtRest.{status_of}
use Rattle.peano_records.specs.declared.view.Corner.{Corner}
use Rattle.peano_records.specs.declared.view.Corner.TheVariants.{Beyond}
use Rattle.peano_records.specs.declared.view.CellView.{CellView}
use Rattle.peano_records.specs.Tells.{corner_at}
use Rattle.adapt_sweep.specs.Raises.{Source, IsRaisedCorner, IsRaisedView}
use Rattle.adapt_sweep.specs.Adapts.{IsAdaptedView, refined_next, value_next, written}
use Rattle.adapt_sweep.proofs.Views.{lt_or_le}

module _ (R : ℕ → Corner → Corner → Type 0) where
  -- the corners below a number are changed, and the others are as they were
  pub record CornersBelow (n : ℕ) (v w : CellView) : Type 0 where
    pub size : length w.corners ≡ length v.corners
    pub others : w ≡ record v { corners = w.corners }
    pub done : (j : ℕ) → j < n → R j (corner_at v j) (corner_at w j)
    pub rest : (j : ℕ) → n ≤ j → corner_at w j ≡ corner_at v j

  pub no_corner : (v : CellView) → CornersBelow 0 v v
  no_corner v = record { size = refl; others = refl; done = λ j h. absurd (omega (arith, h)); rest = λ j h. refl }

  pub next_corner : (n : ℕ) (v w : CellView) (x : Corner) → n < length w.corners → R n (corner_at w n) x → CornersBelow n v w → CornersBelow (n + 1) v (record w { corners = set w.corners n x })
  next_corner n v w x below here so_far = record {
    size = length-set w.corners n x ∙ so_far.size;
    others = ap (λ (u : CellView). record u { corners = set w.corners n x }) so_far.others;
    done = λ j h. ⊎_elim
        (λ less. subst (R j (corner_at v j)) (sym (other j (omega (arith, less)))) (so_far.done j less))
        (λ least. let e : n ≡ j = omega (arith, h, least) in subst (λ i. R i (corner_at v i) (corner_at (record w { corners = set w.corners n x }) i)) e
        (subst (R n (corner_at v n)) (sym there) (subst (λ k. R n k x) (so_far.rest n (omega arith)) here)))
        (lt_or_le j n);
    rest = λ j h. other j (omega (arith, h)) ∙ so_far.rest j (omega (arith, h));
  }
    where
      there : corner_at (record w { corners = set w.corners n x }) n ≡ x
      there = get_or-set_same w.corners n x Beyond below

      other : (j : ℕ) → (j ≡ n → ⊥) → corner_at (record w { corners = set w.corners n x }) j ≡ corner_at w j
      other j apart = get_or-set_other w.corners n j x Beyond apart

-- so all corners of a view are raised
abbrev pub RaisedBelow : Source → ℕ → CellView → CellView → Type 0
RaisedBelow r = CornersBelow (λ j. IsRaisedCorner r)

pub all_raised : (r : Source) (n : ℕ) (v w : CellView) → n ≡ 8 → RaisedBelow r n v w → IsRaisedView r v w
all_raised r n v w end so_far = record {
  corners = λ j below. so_far.done j (omega (arith, below, end));
  past = λ j least. so_far.rest j (omega (arith, least, end));
  size = so_far.size;
  others = so_far.others;
}

-- or adapted
abbrev pub AdaptedBelow : Dim → Status → State → ℕ → CellView → CellView → Type 0
AdaptedBelow dim status value = CornersBelow (λ j k l. l ≡ written (slot_from dim j) status value k)

pub all_adapted : (dim : Dim) (status : Status) (value : State) (n : ℕ) (v w : CellView) → n ≡ corners dim → status ≡ status_of (refined_next dim v) → value ≡ value_next dim v → AdaptedBelow dim status value n v w → IsAdaptedView dim v w
all_adapted dim status value n v w end is_status is_value so_far = subst (λ (s : Status). AdaptedAll s value → IsAdaptedView dim v w) (sym is_status) (subst (λ (x : State). AdaptedAll (status_of (refined_next dim v)) x → IsAdaptedView dim v w) (sym is_value) all) so_far
  where
    AdaptedAll : Status → State → Type 0
    AdaptedAll s x = AdaptedBelow dim s x n v w

    all : AdaptedAll (status_of (refined_next dim v)) (value_next dim v) → IsAdaptedView dim v w
    all done = record {
      each = λ j below. done.done j (omega (arith, below, end));
      past = λ j least. done.rest j (omega (arith, least, end));
      size = done.size;
      others = done.others;
    }
