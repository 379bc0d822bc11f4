use Rattle.std.proofs.Common.{◌≡◌, ◌-◌, length, List}
use Rattle.std.specs.Prelude.{pos, ◌≤ℤ◌, ◌+ℤ◌}
use Rattle.std.specs.Option.{option_map}
use Rattle.sweep_visits.specs.Moves.{Move}
use Rattle.tree_automaton.specs.declared.kinds.Serves.TheVariants.{Plain}
use Rattle.tree_automaton.specs.Story.{Story}
use Rattle.peano_keys.specs.Dim.{corners}
use Rattle.tree_automaton.specs.Corners.{AreBeyond, CornersAsk, CornersGive, MovesVertices}
use Rattle.tree_automaton.proofs.Takes.{vertices_from}
use Rattle.tree_automaton.proofs.entering.take_corners.Given as goal

abbrev pub invariant-loop-k : goal.invariant-loop-k
invariant-loop-k l = record {
  eight : length l.taken ≡ 8;
  taken : (m : Story) (made more : List Move) → CornersAsk m made more l.course (option_map (λ v. v.now) l.parent) l.cell l.fn.store → CornersGive m more l.course l.cell (l.count - l.k) l.store l.taken;
  beyond : AreBeyond (corners l.course.dim) l.taken;
  others : MovesVertices l.fn.store l.store;
  spare : l.course.serves ≡ Plain → (l.fn.store.lanes.spare +ℤ pos (vertices_from (l.count - l.k) l.taken)) ≤ℤ l.store.lanes.spare;
}
