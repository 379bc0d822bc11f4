-- What an adapting visitor's two calls at a cell make of a record round it.
use Rattle.std.proofs.Common.{◌≡◌, ◌⊎◌, ℕ, ◌<◌, List, [], Some, length, refl, ap, sym, ◌∙◌, subst, inl, inr, ⊎_elim, arith}
use Rattle.std.specs.Prelude.{IfSome}
use Rattle.std.proofs.lemmas.List.{get_or-set_same}
use Rattle.peano_keys.specs.declared.dim.Dim.{Dim}
use Rattle.peano_keys.specs.declared.cell.CellKey.{CellKey}
use Rattle.peano_keys.specs.declared.vertex.VertexKey.{VertexKey}
use Rattle.peano_keys.specs.Dim.{corners}
use Rattle.peano_keys.specs.Cell.{IsCell}
use Rattle.peano_keys.specs.Vertex.{adjacent_of, corner_of, slot_from}
use Rattle.peano_keys.proofs.Positions.{cell_stands_in_slot, position}
use Rattle.peano_records.specs.declared.slot.Slot.{Slot}
use Rattle.peano_records.specs.declared.slot.Status.TheVariants.{Unset}
use Rattle.peano_records.specs.declared.stored.Stored.{Stored}
use Rattle.peano_records.specs.declared.view.Corner.{Corner}
use Rattle.peano_records.specs.declared.view.Corner.TheVariants.{Vertex, Hanging, Beyond}
use Rattle.peano_records.specs.declared.view.CellView.{CellView}
use Rattle.peano_records.specs.Slots.{blank, slot_at, with_slot}
use Rattle.peano_records.specs.AtRest.{status_of}
use Rattle.peano_records.specs.Tells.{corner_at}
use Rattle.peano_records.proofs.Intents.{below_eight}
use Rattle.curve_cuts.specs.Cuts.{Cuts}
use Rattle.vertex_stacks.specs.declared.tale.Tale.{Tale}
use Rattle.sweep_visits.specs.Plan.{dim_of}
use Rattle.sweep_visits.specs.Visits.{Visit, enter, leave}
use Rattle.sweep_streams.proofs.Round.{position_is}
use Rattle.step_phases.proofs.Homes.{slot_below}
use Rattle.tree_automaton.specs.Sweep.{TreeSweep}
use Rattle.tree_automaton.specs.Promises.{HasKey, IsViewIn}
use Rattle.tree_automaton.specs.Story.{Call, Story, IsAmong}
use Rattle.tree_automaton.specs.Sweeps.{AllCallsFit, Chain, Stands, begun}
use Rattle.tree_automaton.specs.Views.{CornerGiven, ViewGiven}
use Rattle.tree_automaton.specs.Journeys.{CellChanged}
use Rattle.tree_automaton.proofs.Collects.{each_call}
use Rattle.swept_slots.specs.Changes.{ChangesOneCell}
use Rattle.adapt_sweep.specs.Own.{IsOwn}
use Rattle.adapt_sweep.specs.Adapts.{Adapts, IsAdaptedView, refined_next, value_next}
use Rattle.adapt_sweep.proofs.Views.{one_record}
use Rattle.adapt_sweep.proofs.Adapted.{record_adapted, slot_written}

-- a cell stands at one place round a vertex
pub one_place : (dim : Dim) (v : VertexKey) (m n : ℕ) (c : CellKey) → m < corners dim → n < corners dim → adjacent_of dim v m ≡ Some c → adjacent_of dim v n ≡ Some c → m ≡ n
one_place dim v m n c low below at to = sym (place m low at) ∙ place n below to
  where
    place : (j : ℕ) → j < corners dim → adjacent_of dim v j ≡ Some c → position dim v c ≡ j
    place j less h = subst (λ o. IfSome o (λ q. position dim v q ≡ j)) h (position_is dim v j less)

-- a corner as it is given has its key, and eight slots
given_key : (p : TreeSweep) (w : VertexKey) (k : Corner) → CornerGiven p w k → HasKey w k
given_key p w (Vertex s) g = g.0
given_key p w (Hanging k) g = g.0
given_key p w Beyond g = absurd g

pub given_eight : (p : TreeSweep) (w : VertexKey) (s : Stored) → CornerGiven p w (Vertex s) → length s.slots ≡ 8
given_eight p w s (key, inl fits) = fits.eight
given_eight p w s (key, inr made) = ap (λ (x : Stored). length x.slots) made.fresh

-- a view as it is given is of its cell
pub given_in : (p : TreeSweep) (c : CellKey) (v : CellView) → IsCell (dim_of p.plan) c → ViewGiven p c v → IsViewIn (dim_of p.plan) v
given_in p c v cell given = record {
  cell = subst (IsCell (dim_of p.plan)) (sym given.view.key) cell;
  eight = given.view.eight;
  keys = λ n below. subst (λ q. HasKey (corner_of q n) (corner_at v n)) (sym given.view.key) (given_key p (corner_of c n) (corner_at v n) (given.each n below));
  beyond = given.view.beyond;
}

-- what a call did
abbrev pub DidAdapt : Cuts → ℕ → Visit → CellView → CellView → Type 0
DidAdapt k t (enter c) v w = Adapts k t v w
DidAdapt k t (leave c) v w = w ≡ v

module _ {A : Type 0} (entered left : A → CellView → CellView → A → Type 0) (r b : A) (k : Cuts) (t : ℕ)
    (enters : (x y : A) (v w : CellView) → x ≡ r → entered x v w y → (y ≡ r) × Adapts k t v w)
    (leaves : (x y : A) (v w : CellView) → x ≡ r → left x v w y → (y ≡ r) × (w ≡ v))
    (p : TreeSweep) (start : List Stored) (tale : Tale) (calls : List Call) (fit : AllCallsFit (begun p start tale) calls) (chain : Chain entered left calls r b) where
  did : (x y : A) (visit : Visit) (v w : CellView) → x ≡ r → Stands entered left visit v w x y → (y ≡ r) × DidAdapt k t visit v w
  did x y (enter c) v w same stands = enters x y v w same stands
  did x y (leave c) v w same stands = leaves x y v w same stands

  each_did : (call : Call) → IsAmong call calls → DidAdapt k t call.visit call.given call.made
  each_did = each_call entered left (begun p start tale) (λ a. a ≡ r) (λ call. DidAdapt k t call.visit call.given call.made) (λ so_far call x y same fits stands. did x y call.visit call.given call.made same stands) [] calls r b fit chain refl

  pub at_enter : (c : CellKey) (call : Call) → IsAmong call calls → call.visit ≡ enter c → Adapts k t call.given call.made
  at_enter c call among visit = subst (λ v. DidAdapt k t v call.given call.made) visit (each_did call among)

  pub at_leave : (c : CellKey) (call : Call) → IsAmong call calls → call.visit ≡ leave c → call.made ≡ call.given
  at_leave c call among visit = subst (λ v. DidAdapt k t v call.given call.made) visit (each_did call among)

-- The two calls at a cell write status and value into the cell's own slot, where the tree owns the cell, and change nothing else.
module _ (k : Cuts) (t : ℕ) (m : Story) (dim : dim_of m.sweep.plan ≡ k.dim) (c : CellKey) (n : ℕ) (s u : Stored) (cell : IsCell (dim_of m.sweep.plan) c) (below : n < corners (dim_of m.sweep.plan)) (visit : CellChanged m c n s u)
    (entered : Adapts k t visit.entering.given visit.entering.made) (left : visit.leaving.made ≡ visit.leaving.given) where
  abbrev d : Dim
  d = dim_of m.sweep.plan

  abbrev place : ℕ
  place = slot_from d n

  abbrev pub new_slot : Slot
  new_slot = record (slot_at s place) { status = status_of (refined_next d visit.entering.given); value = value_next d visit.entering.given }

  abbrev pub Wrote : Type 0
  Wrote = (IsOwn k t visit.entering.given.key × (u ≡ with_slot s place new_slot)) ⊎ ((¬ IsOwn k t visit.entering.given.key) × (u ≡ s))

  between_is : visit.between ≡ u
  between_is = one_record (corner_at visit.leaving.made n) u visit.between visit.made (ap (λ (v : CellView). corner_at v n) (left ∙ visit.same) ∙ visit.kept)

  pub wrote : Wrote
  wrote = by entered
    where
      by : Adapts k t visit.entering.given visit.entering.made → Wrote
      by (inl own) = inl (own.0, sym between_is ∙ record_adapted m.sweep.plan.new visit.entering.given visit.entering.made (given_in m.sweep c visit.entering.given cell visit.view) (subst (λ x. IsAdaptedView x visit.entering.given visit.entering.made) (sym dim) own.1) n s visit.between visit.given visit.kept)
      by (inr guest) = inr (guest.0, sym between_is ∙ one_record (corner_at visit.entering.given n) s visit.between visit.given (ap (λ (v : CellView). corner_at v n) (sym guest.1) ∙ visit.kept))

  given_here : CornerGiven m.sweep (corner_of c n) (Vertex s)
  given_here = subst (CornerGiven m.sweep (corner_of c n)) visit.given (visit.view.each n below)

  stands : adjacent_of d s.key place ≡ Some c
  stands = subst (λ v. adjacent_of d v place ≡ Some c) (sym given_here.0) (cell_stands_in_slot d c n cell below)

  -- the cell's own slot
  pub own_slot : u ≡ with_slot s place new_slot → slot_at u place ≡ new_slot
  own_slot is = ap (λ (x : Stored). slot_at x place) is ∙ get_or-set_same s.slots place new_slot (blank Unset) (let e = given_eight m.sweep (corner_of c n) s given_here in let l = below_eight d place (slot_below d n) in omega (arith, e, l))

  -- each other slot
  other_slot : (j : ℕ) → (j ≡ place → ⊥) → slot_at u j ≡ slot_at s j
  other_slot j apart = by wrote
    where
      by : Wrote → slot_at u j ≡ slot_at s j
      by (inl own) = ap (λ (x : Stored). slot_at x j) own.1 ∙ ⊎_elim (λ same. same) (λ here. absurd (apart here.0)) (slot_written s place j new_slot)
      by (inr guest) = ap (λ (x : Stored). slot_at x j) guest.1

  pub intent_stays : (slot_at u place).intent ≡ (slot_at s place).intent
  intent_stays = by wrote
    where
      by : Wrote → (slot_at u place).intent ≡ (slot_at s place).intent
      by (inl own) = ap (λ (x : Slot). x.intent) (own_slot own.1)
      by (inr guest) = ap (λ (x : Stored). (slot_at x place).intent) guest.1

  pub one_cell : (F : Slot → Slot → Type 0) → F (slot_at s place) (slot_at u place) → ChangesOneCell d c F s u
  one_cell F here = record {
    own = λ j less at. subst (λ i. F (slot_at s i) (slot_at u i)) (one_place d s.key place j c (slot_below d n) less stands at) here;
    others = λ j less apart. other_slot j (λ e. apart (subst (λ i. adjacent_of d s.key i ≡ Some c) (sym e) stands));
    unused = λ j high eight. other_slot j (λ e. let l = slot_below d n in absurd (omega (arith, e, l, high)));
  }
