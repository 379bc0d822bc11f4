-- Raised records, corners and views.
use Rattle.std.proofs.Common.{◌≡◌, ℕ, ◌<◌, ap, sym, subst, ⊎_elim}
use Rattle.peano_keys.specs.Grid.{Spacetree}
use Rattle.peano_records.specs.declared.view.Corner.{Corner}
use Rattle.peano_records.specs.declared.view.Corner.TheVariants.{Vertex, Hanging, Beyond}
use Rattle.peano_records.specs.declared.view.CellView.{CellView}
use Rattle.peano_records.specs.Slots.{VertexRecord, slot_at}
use Rattle.peano_records.specs.Tells.{corner_at}
use Rattle.peano_records.proofs.Intents.{below_eight}
use Rattle.tree_automaton.specs.declared.kinds.Serves.TheVariants.{Raising}
use Rattle.tree_automaton.specs.Promises.{IsViewIn, Keeps, MayEnter, MayLeave, SameCorner}
use Rattle.adapt_sweep.specs.Raises.{Source, IsRaisedRecord, IsRaisedCorner, IsRaisedView}
use Rattle.adapt_sweep.proofs.Views.{lt_or_le, at_corner, same_itself, one_record}

pub leaves_all : (grid : Spacetree) (v : CellView) → MayLeave Raising grid v v
leaves_all grid v = λ n k s t at to below. let e = one_record (corner_at v n) s t at to in (ap (λ (r : VertexRecord). (slot_at r k).intent) e, ap (λ (r : VertexRecord). (slot_at r k).status) e)

module _ (r : Source) where
  corner_same : (k l : Corner) → IsRaisedCorner r k l → SameCorner k l
  corner_same (Vertex s) (Vertex t) h = (h.key, h.size)
  corner_same (Vertex s) (Hanging l) h = absurd h
  corner_same (Vertex s) Beyond h = absurd h
  corner_same (Hanging k) (Hanging l) h = h
  corner_same (Hanging k) (Vertex t) h = absurd h
  corner_same (Hanging k) Beyond h = absurd h
  corner_same Beyond Beyond h = tt
  corner_same Beyond (Vertex t) h = absurd h
  corner_same Beyond (Hanging l) h = absurd h

  -- the record at a corner of a raised view
  pub record_raised : (v w : CellView) (n : ℕ) (s t : VertexRecord) → IsRaisedView r v w → n < 8 → corner_at v n ≡ Vertex s → corner_at w n ≡ Vertex t → IsRaisedRecord r s t
  record_raised v w n s t h below at to = subst (λ x. IsRaisedCorner r x (Vertex t)) at (subst (IsRaisedCorner r (corner_at v n)) to (h.corners n below))

  pub raised_keeps : (v w : CellView) → IsRaisedView r v w → Keeps v w
  raised_keeps v w h = record {
    key = ap (λ (x : CellView). x.key) h.others;
    was = ap (λ (x : CellView). x.was) h.others;
    will = ap (λ (x : CellView). x.will) h.others;
    sides = ap (λ (x : CellView). x.sides) h.others;
    carried = ap (λ (x : CellView). x.carried) h.others;
    shape = h.size;
    corners_stay = λ n. ⊎_elim (λ below. corner_same (corner_at v n) (corner_at w n) (h.corners n below)) (λ past. subst (SameCorner (corner_at v n)) (sym (h.past n past)) (same_itself (corner_at v n))) (lt_or_le n 8);
  }

  pub raised_may : (v w : CellView) → IsViewIn r.grid.dim v → IsRaisedView r v w → MayEnter Raising r.grid v w
  raised_may v w of h = λ n k s t at to below. (
      let here = at_corner r.grid.dim v n s of at in
      let raised = record_raised v w n s t h (below_eight r.grid.dim n here) at to in
      (raised.intents k below, λ inside. (raised.inside k inside).status))
