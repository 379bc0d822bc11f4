use Rattle.std.proofs.Common.{◌≡◌, ◌-◌, List}
use Rattle.std.specs.Prelude.{pos, ◌≤ℤ◌, ◌+ℤ◌}
use Rattle.std.specs.Option.{option_map}
use Rattle.sweep_visits.specs.Moves.{Move}
use Rattle.tree_automaton.specs.Story.{Story}
use Rattle.tree_automaton.specs.Visits.{vertices_in}
use Rattle.tree_automaton.proofs.Takes.{vertices_from}
use Rattle.tree_automaton.specs.Corners.{GiveAllAsks, GivenBelow, MovesVertices}
use Rattle.tree_automaton.proofs.leaving.give_corners.Given as goal

abbrev pub invariant-loop-n : goal.invariant-loop-n
invariant-loop-n l = record {
  same : l.given ≡ l.fn.given;
  so_far : (m : Story) (made more : List Move) → GiveAllAsks m made more l.course (option_map (λ v. v.now) l.parent) l.cell l.fn.given l.fn.store → GivenBelow m more l.cell l.n (l.n-end - l.n) l.store;
  others : MovesVertices l.fn.store l.store;
  spare : (l.fn.store.lanes.spare +ℤ pos (vertices_from l.n l.fn.given)) ≤ℤ (l.store.lanes.spare +ℤ pos (vertices_in l.fn.given));
}
