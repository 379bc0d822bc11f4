-- The slot of a cell at a corner, as the cell's visit finds it: nothing has changed it in the sweep before.
use Rattle.std.proofs.Common.{◌≡◌, ℕ, ◌<◌, true, List, ◌++◌, ◌∷◌, Option, Some, None, map, ap, sym, ◌∙◌, subst, append_assoc}
use Rattle.peano_keys.specs.declared.cell.CellKey.{CellKey}
use Rattle.peano_keys.specs.declared.vertex.VertexKey.{VertexKey}
use Rattle.std.specs.Prelude.{MatchOption}
use Rattle.peano_keys.specs.declared.dim.Dim.{Dim}
use Rattle.peano_keys.specs.Cell.{IsCell}
use Rattle.peano_records.specs.declared.slot.Slot.{Slot}
use Rattle.peano_keys.specs.Dim.{corners}
use Rattle.peano_keys.specs.Vertex.{adjacent_of, corner_of, slot_from}
use Rattle.peano_keys.proofs.Positions.{cell_stands_in_slot}
use Rattle.stack_law.specs.Stack.{AreDistinct}
use Rattle.peano_curve.specs.Run.{CellLater, Follows, IsLast}
use Rattle.peano_records.specs.declared.stored.Stored.{Stored}
use Rattle.peano_records.specs.declared.view.Corner.TheVariants.{Vertex}
use Rattle.peano_records.specs.Slots.{slot_at}
use Rattle.peano_records.specs.Tells.{corner_at}
use Rattle.peano_records.proofs.Intents.{below_eight}
use Rattle.vertex_stacks.specs.declared.tale.Tale.{Tale}
use Rattle.sweep_visits.specs.Plan.{IsSweepPlan, dim_of, is_stored_in}
use Rattle.sweep_visits.specs.Visits.{enter, visits_of}
use Rattle.sweep_visits.specs.Runs.{previous_in_run}
use Rattle.sweep_visits.specs.Moves.{same_vertex}
use Rattle.sweep_visits.proofs.Next.{next_is_of_the_run}
use Rattle.step_phases.proofs.Homes.{slot_below}
use Rattle.tree_automaton.specs.Sweep.{TreeSweep}
use Rattle.tree_automaton.specs.Story.{Call, Story, IsAmong, WasLeft, with_calls}
use Rattle.tree_automaton.specs.Visits.{ComesFrom, CornerTaken}
use Rattle.tree_automaton.specs.Sweeps.{AllCallsFit, CallFits, IsEntered, begun, key_of, visit_of}
use Rattle.tree_automaton.proofs.Journeys.{fits_at}
use Rattle.swept_slots.specs.Changes.{EachVisitChanges}
use Rattle.swept_slots.specs.Copies.{copies}
use Rattle.swept_slots.proofs.Copies.{copy_of}
use Rattle.swept_slots.proofs.Visited.{among_in, told}
use Rattle.swept_slots.proofs.Runs.{IsAfter, after_run}

module _ (p : TreeSweep) (is_plan : IsSweepPlan p.plan) (start : List Stored) (tale : Tale) (calls : List Call) (visits_are : map visit_of calls ≡ visits_of p.plan) (fit : AllCallsFit (begun p start tale) calls)
    (distinct : AreDistinct same_vertex (map key_of start))
    (E : CellKey → Slot → Slot → Type 0) (each : EachVisitChanges (told p is_plan start tale calls visits_are fit) E) where
  abbrev m : Story
  m = told p is_plan start tale calls visits_are fit

  abbrev dim : Dim
  dim = dim_of p.plan

  some_one : (o : Option CellKey) (a b : CellKey) → o ≡ Some a → o ≡ Some b → a ≡ b
  some_one o a b h l = ap (λ (x : Option CellKey). elim x as (λ _. CellKey) [ Some y ↦ y | None ↦ a ]) (sym h ∙ l)

  more_calls : (before after : List Call) (call : Call) (w : VertexKey) (to : Option CellKey) (s : Stored) → calls ≡ before ++ call ∷ after → WasLeft (with_calls (begun p start tale) before) w to s → WasLeft m w to s
  more_calls before after call w to s place left = record {
    call = left.call;
    among = record {
      before = left.among.before;
      after = left.among.after ++ call ∷ after;
      place = place ∙ (ap (λ l. l ++ call ∷ after) left.among.place ∙ append_assoc left.among.before (left.call ∷ left.among.after) (call ∷ after));
    };
    cell = left.cell;
    visit = left.visit;
    next = left.next;
    number = left.number;
    below = left.below;
    place = left.place;
    corner = left.corner;
  }

  module _ (c : CellKey) (n : ℕ) (cell : IsCell dim c) (below : n < corners dim) (stored : is_stored_in p.plan.old (corner_of c n) ≡ true) where
    abbrev w : VertexKey
    w = corner_of c n

    abbrev k : ℕ
    k = slot_from dim n

    -- on its way along the run
    along : (s : Stored) → WasLeft m w (Some c) s → slot_at s k ≡ slot_at (copies start w) k
    along s left =
        let after : IsAfter p is_plan start tale calls visits_are fit E each w left.cell s = after_run p is_plan start tale calls visits_are fit E each w (Some c) s left in
        let follows : Follows p.plan.dir dim w p.plan.range p.plan.depth left.cell c = subst (λ o. MatchOption o (IsLast p.plan.dir dim w p.plan.range p.plan.depth left.cell) (Follows p.plan.dir dim w p.plan.range p.plan.depth left.cell)) left.next (next_is_of_the_run p.plan w left.cell after.vertex after.here).0 in
        after.stays k (below_eight dim k (slot_below dim n)) (λ passed. passed.not_later (subst (CellLater p.plan.dir dim left.cell) (some_one (adjacent_of dim w k) c passed.cell (cell_stands_in_slot dim c n cell below) passed.at) follows.later))
        ∙ ap (λ (x : Stored). slot_at x k) (sym (copy_of start distinct w after.first after.begins.key (after.begins.kept stored)))

    -- a vertex that the old grid stores comes to a cell with the slot of the cell that it had in the input
    pub arrived : (call : Call) → IsAmong call calls → call.visit ≡ enter c → (s : Stored) → corner_at call.given n ≡ Vertex s → slot_at s k ≡ slot_at (copies start w) k
    arrived call among visit s at = by (previous_in_run p.plan w c) (subst (λ b. ComesFrom so_far c w (previous_in_run p.plan w c) b s) stored taken.1)
      where
        so_far : Story
        so_far = with_calls (begun p start tale) among.before

        entered : IsEntered so_far c call.given call.made
        entered = subst (λ v. CallFits so_far v call.given call.made) visit (fits_at (begun p start tale) among.before call among.after (subst (AllCallsFit (begun p start tale)) among.place fit))

        taken : CornerTaken so_far c w (Vertex s)
        taken = subst (CornerTaken so_far c w) at (entered.taken n below)

        by : (o : Option CellKey) → ComesFrom so_far c w o true s → slot_at s k ≡ slot_at (copies start w) k
        by None from = ap (λ (x : Stored). slot_at x k) (sym (copy_of start distinct w s from.key (among_in s start from.among)))
        by (Some q) from = along s (more_calls among.before among.after call w (Some c) s among.place from.left)
