-- Between the list of a store and its copies by their keys.
use Rattle.std.proofs.Common.{◌≡◌, ℕ, ◌<◌, List, [], ◌∷◌, map, refl, ap, sym, ◌∙◌, subst, inl, inr}
use Rattle.std.specs.Prelude.{All}
use Rattle.std.proofs.lemmas.List.Elements.{All-nil, All-cons, All-head, All-tail}
use Rattle.stack_law.specs.Once.{IsIn}
use Rattle.stack_law.specs.Stack.{AreDistinct}
use Rattle.peano_keys.specs.declared.vertex.VertexKey.{VertexKey}
use Rattle.peano_keys.specs.declared.cell.CellKey.{CellKey}
use Rattle.peano_keys.specs.Cell.{IsCell}
use Rattle.peano_keys.specs.Vertex.{IsVertex}
use Rattle.peano_keys.specs.Grid.{Spacetree}
use Rattle.peano_keys.specs.Field.{value_of}
use Rattle.peano_records.specs.declared.slot.Slot.{Slot}
use Rattle.peano_records.specs.declared.stored.Stored.{Stored}
use Rattle.peano_records.specs.AtRest.{IsAtRest, IsBeforeAdapting}
use Rattle.peano_curve.specs.declared.order.Direction.{Direction}
use Rattle.peano_curve.specs.Run.{HoldsCell}
use Rattle.curve_cuts.specs.Cuts.{Cuts, HasVertex, IsCutGrid, range_of}
use Rattle.sweep_visits.specs.Plan.{SweepPlan, IsSweepPlan}
use Rattle.sweep_visits.specs.Moves.{same_vertex, moves_of, taken_by}
use Rattle.sweep_visits.proofs.Tests.{stored_tells, stored_told}
use Rattle.sweep_streams.proofs.Lists.{in_map}
use Rattle.sweep_streams.proofs.Once.{none_taken_twice, from_map}
use Rattle.sweep_streams.proofs.Pushes.{streams_are_stored}
use Rattle.tree_automaton.specs.TreeLists.{TreeLists}
use Rattle.tree_automaton.specs.Sweeps.{key_of}
use Rattle.tree_automaton.specs.AtRest.{HasLists, plain_plan}
use Rattle.step_phases.specs.Stores.{Says, TreeSays}
use Rattle.step_phases.specs.Phases.{AtRest, AfterSecond}
use Rattle.step_phases.proofs.Lists.{says_rest, rest_is_record, second_is_record}
use Rattle.swept_slots.specs.Copies.{copies, IsCopy}
use Rattle.swept_slots.specs.Laws.{StoreHasCopies, RestIsSaid, SaidIsRest, SaidIsBefore}
use Rattle.swept_slots.proofs.Copies.{copy_is, copy_of}
use Rattle.swept_slots.proofs.Visited.{among_in, in_among}

pub all_in : {A : Type 0} (P : A → Type 0) (xs : List A) → All P xs → (x : A) → IsIn x xs → P x
all_in P [] all x h = absurd h
all_in P (y ∷ xs) all x (inl e) = subst P (sym e) (All-head P y xs all)
all_in P (y ∷ xs) all x (inr h) = all_in P xs (All-tail P y xs all) x h

all_from : {A : Type 0} (P : A → Type 0) (xs : List A) → ((x : A) → IsIn x xs → P x) → All P xs
all_from P [] each = All-nil P
all_from P (y ∷ xs) each = All-cons P y xs (each y (inl refl)) (all_from P xs (λ x h. each x (inr h)))

module _ (k : Cuts) (g : Spacetree) (t number : ℕ) (dir : Direction) (s : TreeLists) (fits : IsCutGrid k g) (lists : HasLists (plain_plan k.depth (range_of k t) dir g) number s) where
  abbrev plan : SweepPlan
  plan = plain_plan k.depth (range_of k t) dir g

  is_plan : IsSweepPlan plan
  is_plan = record { depth = fits.deepest; old = (fits.grid, refl); new = fits.grid }

  keys_differ : AreDistinct same_vertex (map key_of s.lanes.input)
  keys_differ = subst (AreDistinct same_vertex) (sym lists.input) (none_taken_twice plan is_plan).0

  is_taken : (v : VertexKey) → HasVertex k g t v → IsIn v (taken_by (moves_of plan))
  is_taken v has =
      let vertex : IsVertex g.dim v = subst (λ d. IsVertex d v) (sym fits.dim) has.vertex in
      ((streams_are_stored plan is_plan).0.members v).1 (record {
        vertex = vertex;
        passes = stored_told g v vertex has.stored;
        held = (has.corner.cell, record { cell = subst (λ d. IsCell d has.corner.cell) (sym fits.dim) has.corner.inside; touches = has.corner.touches; held = subst (λ d. HoldsCell d k.depth (range_of k t) has.corner.cell) (sym fits.dim) has.corner.held });
      })

  -- a record of the list is that of a vertex that the tree has
  pub has_vertex : t < k.trees → (r : Stored) → IsIn r s.lanes.input → HasVertex k g t r.key
  has_vertex tree r h =
      let taken : IsIn r.key (taken_by (moves_of plan)) = subst (IsIn r.key) lists.input (in_map key_of r s.lanes.input h) in
      let held = ((streams_are_stored plan is_plan).0.members r.key).0 taken in
      record {
        vertex = subst (λ d. IsVertex d r.key) fits.dim held.vertex;
        stored = stored_tells g r.key held.passes;
        corner = record {
          tree = tree;
          cell = held.held.0;
          inside = subst (λ d. IsCell d held.held.0) fits.dim held.held.1.cell;
          touches = held.held.1.touches;
          held = subst (λ d. HoldsCell d k.depth (range_of k t) held.held.0) fits.dim held.held.1.held;
        };
      }

  has_copy : (v : VertexKey) → HasVertex k g t v → IsCopy s.lanes.input v
  has_copy v has =
      let found = from_map key_of v s.lanes.input (subst (IsIn v) (sym lists.input) (is_taken v has)) in
      let same : copies s.lanes.input v ≡ found.0 = copy_of s.lanes.input keys_differ v found.0 (sym found.2) found.1 in
      record { key = ap (λ (r : Stored). r.key) same ∙ sym found.2; among = in_among (copies s.lanes.input v) s.lanes.input (subst (λ r. IsIn r s.lanes.input) (sym same) found.1) }

  -- what the copies say, each record of the list says
  pub said_each : (P : CellKey → Slot → Type 0) (Q : Stored → Type 0) → t < k.trees → TreeSays k g t P (copies s.lanes.input) → ((r : Stored) → Says g.dim r.key P r → Q r) → All Q s.lanes.input
  said_each P Q tree says is = all_from Q s.lanes.input (λ r h. is r (subst (λ d. Says d r.key P r) (sym fits.dim) (subst (Says k.dim r.key P) (copy_is s.lanes.input keys_differ r h) (says r.key (has_vertex tree r h)))))

pub store_has_copies : StoreHasCopies
store_has_copies k g t number dir s fits lists v has = has_copy k g t number dir s fits lists v has

pub rest_is_said : RestIsSaid
rest_is_said k g f t number dir s fits stands v has =
    let copy = has_copy k g t number dir s fits stands.lists v has in
    subst (λ d. Says d v (AtRest g (value_of g f)) (copies s.lanes.input v)) fits.dim (says_rest g f v (copies s.lanes.input v) copy.key (all_in (IsAtRest g f) s.lanes.input stands.slots (copies s.lanes.input v) (among_in (copies s.lanes.input v) s.lanes.input copy.among)))

pub said_is_rest : SaidIsRest
said_is_rest k g f t number dir s fits tree lists says = record {
  lists = lists;
  slots = said_each k g t number dir s fits lists (AtRest g (value_of g f)) (IsAtRest g f) tree says (λ r h. rest_is_record g f r.key r h);
}

pub said_is_before : SaidIsBefore
said_is_before k w t number dir s fits tree lists says = record {
  lists = lists;
  slots = said_each k w.old t number dir s fits lists (AfterSecond w) (IsBeforeAdapting w.old w.new) tree says (λ r h. second_is_record w r.key r h);
}
