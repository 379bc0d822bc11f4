-- What a raising sweep leaves in the records of its output.
use Rattle.std.proofs.Common.{◌≡◌, ℕ, ◌<◌, List, [], ◌∷◌, ◌++◌, Some, None, refl, ap, ap₂, sym, ◌∙◌, subst, ⊎_elim, length, ◌≤◌}
use Rattle.peano_keys.specs.declared.dim.Dim.{Dim}
use Rattle.peano_keys.specs.Dim.{corners}
use Rattle.peano_records.specs.declared.slot.Slot.{Slot}
use Rattle.peano_keys.specs.declared.vertex.VertexKey.{VertexKey}
use Rattle.peano_keys.specs.Vertex.{IsVertex, adjacent_of}
use Rattle.peano_keys.specs.Grid.{Spacetree, IsStored}
use Rattle.peano_keys.specs.Field.{value_of}
use Rattle.peano_records.specs.declared.stored.Stored.{Stored}
use Rattle.peano_records.specs.declared.view.CellView.{CellView}
use Rattle.peano_records.specs.Slots.{slot_at, fresh}
use Rattle.peano_records.specs.Tells.{corner_at}
use Rattle.peano_records.proofs.Fresh.{fresh_says_outside}
use Rattle.peano_records.specs.declared.slot.Status.TheVariants.{Outside}
use Rattle.peano_records.proofs.Intents.{below_eight}
use Rattle.hanging_nodes.specs.Views.{HasSlots}
use Rattle.curve_cuts.specs.Cuts.{IsCutGrid}
use Rattle.curve_cuts.specs.Keys.{cuts_of}
use Rattle.vertex_stacks.specs.declared.tale.Tale.{Tale}
use Rattle.sweep_visits.specs.Plan.{dim_of}
use Rattle.sweep_visits.specs.Visits.{Visit, enter, leave}
use Rattle.tree_automaton.specs.Sweep.{TreeSweep, tells_new}
use Rattle.tree_automaton.specs.Story.{Call, Story, IsAmong, IsOfOutput, with_calls}
use Rattle.tree_automaton.specs.Sweeps.{AllCallsFit, Chain, Stands, begun}
use Rattle.tree_automaton.specs.Journeys.{IsJourney, IsStop, Stop}
use Rattle.tree_automaton.proofs.Collects.{each_call}
use Rattle.tree_automaton.proofs.Journeys.{each_record_has_a_journey}
use Rattle.step_phases.specs.Sweeps.{IsSweptRecord, RaiseChanges}
use Rattle.step_phases.proofs.Grids.{level_in, at_position_is}
use Rattle.adapt_sweep.specs.declared.raise.Raise.{Raise}
use Rattle.adapt_sweep.specs.Raises.{Source, source_of, IsRaisedSlot, IsRaisedRecord, IsRaisedView}
use Rattle.adapt_sweep.specs.Raising.{Raises, LeavesAsIs}
use Rattle.adapt_sweep.proofs.Raised.{record_raised}
use Rattle.adapt_sweep.proofs.Views.{one_record}

-- what a call of the visitor did, by its source
abbrev pub Did : Source → Visit → CellView → CellView → Type 0
Did r (enter c) v w = IsRaisedView r v w
Did r (leave c) v w = w ≡ v

did : (r a b : Raise) (visit : Visit) (v w : CellView) → a ≡ r → Stands Raises LeavesAsIs visit v w a b → (b ≡ r) × Did (source_of r) visit v w
did r a b (enter c) v w same stands = (stands.0 ∙ same, subst (λ x. IsRaisedView (source_of x) v w) same stands.1)
did r a b (leave c) v w same stands = (stands.0 ∙ same, stands.1)

nothing_among : {A : Type 0} (x : A) (xs : List A) → xs ≡ [] → IsAmong x xs → ⊥
nothing_among x xs none among = by among.before (sym none ∙ among.place)
  where
    by : (ys : List _) → [] ≡ ys ++ x ∷ among.after → ⊥
    by [] e = cc
    by (y ∷ ys) e = cc

-- what stays of a new record while it is raised: its key, its intents, and its slots of no cell
pub record StaysNew (dim : Dim) (w : VertexKey) (s : Stored) : Type 0 where
  pub key : s.key ≡ w
  pub eight : length s.slots ≡ 8
  pub intents : (n : ℕ) → n < 8 → (slot_at s n).intent ≡ (slot_at (fresh dim w) n).intent
  pub outside : (n : ℕ) → n < corners dim → adjacent_of dim w n ≡ None → slot_at s n ≡ slot_at (fresh dim w) n
  pub unused : (n : ℕ) → corners dim ≤ n → n < 8 → slot_at s n ≡ slot_at (fresh dim w) n

new_stays : (dim : Dim) (w : VertexKey) (s : Stored) → s ≡ fresh dim w → StaysNew dim w s
new_stays dim w s is = subst (StaysNew dim w) (sym is) (record { key = refl; eight = refl; intents = λ n below. refl; outside = λ n below none. refl; unused = λ n high below. refl })

-- a slot outside that is raised as it was made
outside_same : (r : Source) (s t made : Slot) → IsRaisedSlot r None s t → s ≡ made → made.status ≡ Outside → t ≡ made
outside_same r s t made raised same out = raised.others ∙ (ap₂ (λ x y. record s { status = x; value = y }) raised.status raised.value ∙ (ap (λ (z : Slot). record z { status = Outside }) same ∙ ap (λ x. record made { status = x }) (sym out)))

raised_stays : (r : Source) (w : VertexKey) (s t : Stored) → IsRaisedRecord r s t → StaysNew r.grid.dim w s → StaysNew r.grid.dim w t
raised_stays r w s t raised so_far = record {
  key = raised.key ∙ so_far.key;
  eight = raised.size ∙ so_far.eight;
  intents = λ n below. raised.intents n below ∙ so_far.intents n below;
  outside = λ n below none. outside_same r (slot_at s n) (slot_at t n) (slot_at (fresh r.grid.dim w) n)
      (subst (λ o. IsRaisedSlot r o (slot_at s n) (slot_at t n)) (ap (λ v. adjacent_of r.grid.dim v n) so_far.key ∙ none) (raised.inside n below))
      (so_far.outside n below none) ((fresh_says_outside r.grid.dim w n (below_eight r.grid.dim n below)).1 (below, none));
  unused = λ n high below. raised.unused n high below ∙ so_far.unused n high below;
}

-- a record of the output is a new one that a raising sweep changed
module _ (p : TreeSweep) (start : List Stored) (tale : Tale) (calls : List Call) (r b : Raise) (new : p.plan.new ≡ r.grid.now) (none : start ≡ []) (cut : IsCutGrid (cuts_of r.keys.now) r.grid.now) (fit : AllCallsFit (begun p start tale) calls) (chain : Chain Raises LeavesAsIs calls r b) where
  abbrev pub told : Story
  told = with_calls (begun p start tale) calls

  each_did : (call : Call) → IsAmong call calls → Did (source_of r) call.visit call.given call.made
  each_did = each_call Raises LeavesAsIs (begun p start tale) (λ a. a ≡ r) (λ call. Did (source_of r) call.visit call.given call.made) (λ so_far call x y same fits stands. did r x y call.visit call.given call.made same stands) [] calls r b fit chain refl

  new_dim : r.grid.now.dim ≡ dim_of p.plan
  new_dim = ap (λ (t : Spacetree). t.dim) (sym new)

  -- at each cell of its run a record is raised
  raised_there : (w : VertexKey) (stop : Stop) → IsStop told w stop → IsRaisedRecord (source_of r) stop.before stop.after
  raised_there w stop is =
      let c = is.changed in
      let entered : IsRaisedView (source_of r) c.entering.given c.entering.made = subst (λ v. Did (source_of r) v c.entering.given c.entering.made) c.enters (each_did c.entering c.entering_among) in
      let left : c.leaving.made ≡ c.leaving.given = subst (λ v. Did (source_of r) v c.leaving.given c.leaving.made) c.leaves (each_did c.leaving c.leaving_among) in
      let same : c.between ≡ stop.after = one_record (corner_at c.leaving.made stop.number) stop.after c.between c.made (ap (λ (v : CellView). corner_at v stop.number) (left ∙ c.same) ∙ c.kept) in
      subst (IsRaisedRecord (source_of r) stop.before) same (record_raised (source_of r) c.entering.given c.entering.made stop.number stop.before c.between entered (below_eight (dim_of p.plan) stop.number is.below) c.given c.kept)

  along : (w : VertexKey) (stop : Stop) (stops : List Stop) → IsJourney told w stop stops → StaysNew r.grid.now.dim w stop.before × IsStop told w stop
  along w stop [] is = (
    ⊎_elim (λ input. absurd (nothing_among stop.before start none input.among)) (λ new. new_stays r.grid.now.dim w stop.before (new ∙ ap (λ d. fresh d w) (sym new_dim))) is.2,
    is.0,
  )
  along w stop (earlier ∷ stops) is =
      let above = along w earlier stops is.3 in
      (subst (StaysNew r.grid.now.dim w) is.2 (raised_stays (source_of r) w earlier.before earlier.after (raised_there w earlier above.1) above.0), is.0)

  abbrev Swept : VertexKey → Stored → Type 0
  Swept w s = IsSweptRecord (cuts_of r.keys.now) (RaiseChanges (cuts_of r.keys.now) r.grid.now (value_of r.grid.now r.field.now) r.tree) w (fresh (cuts_of r.keys.now).dim w) s

  pub swept_raised : p.plan.old ≡ None → (w : VertexKey) (s : Stored) → IsVertex (dim_of p.plan) w → IsOfOutput told w s → Swept w s
  swept_raised old w s vertex out =
      let journey = each_record_has_a_journey p start tale calls fit w None s out.left in
      let stop : Stop = record { cell = out.left.cell; number = journey.0; before = journey.1; after = s } in
      let way = along w stop journey.2 journey.3 in
      let raised = raised_there w stop way.1 in
      let stays = raised_stays (source_of r) w stop.before s raised way.0 in
      let g = r.grid.now in
      let own : IsVertex g.dim w = subst (λ d. IsVertex d w) (sym new_dim) vertex in
      let stored : IsStored g w = subst (IsStored g) out.key (subst (λ x. IsStored x s.key) new (subst (λ o. HasSlots (dim_of p.plan) o p.plan.new (tells_new p.serves) s.key s) old out.fits.slots).0) in
      record {
        key = out.key;
        size = stays.eight;
        inside = λ n c below at.
            let here : adjacent_of g.dim w n ≡ Some c = subst (λ d. adjacent_of d w n ≡ Some c) (sym cut.dim) at in
            let low : n < corners g.dim = subst (λ d. n < corners d) (sym cut.dim) below in
            let slot = subst (λ o. IsRaisedSlot (source_of r) o (slot_at stop.before n) (slot_at s n)) (ap (λ v. adjacent_of g.dim v n) way.0.key ∙ here) (raised.inside n low) in
            let near = at_position_is g.dim w n c own here in
            let level = level_in (cuts_of r.keys.now) g c cut (stored c near.0 near.1) in
            record {
              status = slot.status;
              value = λ owns. slot.value.0 (record { level = level; owns = owns });
              intent = subst (λ d. (slot_at s n).intent ≡ (slot_at (fresh d w) n).intent) cut.dim (stays.intents n (below_eight g.dim n low));
            };
        outside = λ n below away. subst (λ d. n < corners d → adjacent_of d w n ≡ None → slot_at s n ≡ slot_at (fresh d w) n) cut.dim (stays.outside n) below away;
        unused = λ n high below. subst (λ d. corners d ≤ n → slot_at s n ≡ slot_at (fresh d w) n) cut.dim (λ least. stays.unused n least below) high;
      }
