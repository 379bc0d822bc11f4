use Rattle.std.proofs.Common.{◌≤◌, ◌==◌, ap, refl, subst, sym, ◌∙◌}
use Rattle.std.specs.Option.{option_map}
use Rattle.peano_keys.specs.declared.vertex.VertexKey.{VertexKey}
use Rattle.peano_keys.specs.Vertex.{bit_of, corner_of}
use Rattle.peano_curve.specs.Run.{lane_from}
use Rattle.handed_down.proofs.Inside.{at_corner}
use Rattle.tree_automaton.proofs.Decided.{corner_vertex, level_within}
use Rattle.tree_automaton.proofs.Ways.{in_run, next_found, next_none, lane_found}
use Rattle.tree_automaton.proofs.decide.exit_of.Goals as goal

pub next_of_run-requires-clause-run : goal.next_of_run-requires-clause-run
next_of_run-requires-clause-run c = let p = c.requires.asks.0 in let d = c.requires.asks.1 in in_run p c.args.course.now (option_map (λ v. v.now) c.args.parent) c.args.cell c.args.n d c.requires.cell (corner_of c.args.cell c.args.n) refl (corner_vertex c.args.course.now.dim c.args.cell c.args.n c.requires.cell c.requires.corner) (at_corner c.args.cell c.args.n)

pub next_of_run-requires-clause-above : goal.next_of_run-requires-clause-above
next_of_run-requires-clause-above c = let p = c.requires.asks.0 in let d = c.requires.asks.1 in subst (λ x. c.args.cell.level ≤ x) d.is.depth (level_within p c.args.cell d.sweep d.there)

pub returns-in-Some-clause-value : goal.returns-in-Some-clause-value
returns-in-Some-clause-value c = λ p d kept.
    let a = c.in-Some.ensures in (
      a.next,
      next_found p c.args.course.now (option_map (λ v. v.now) c.args.parent) c.args.cell c.args.n d c.requires.cell (corner_of c.args.cell c.args.n) refl (corner_vertex c.args.course.now.dim c.args.cell c.args.n c.requires.cell c.requires.corner) (at_corner c.args.cell c.args.n) a.next a.follows,
      lane_found p c.args.course.now (option_map (λ v. v.now) c.args.parent) c.args.cell c.args.n d c.requires.cell (corner_of c.args.cell c.args.n) refl (corner_vertex c.args.course.now.dim c.args.cell c.args.n c.requires.cell c.requires.corner) (at_corner c.args.cell c.args.n) a.next c.in-Some.axis c.lane_of.result (record { in_use = a.in_use; high = bit_of c.args.n c.in-Some.axis == 1; across = a.across }) (c.lane_of.ensures.value ∙ ap (λ (w : VertexKey). lane_from w c.in-Some.axis) c.corner-v.ensures.value),
    )

pub returns-then-is_staying-clause-value : goal.returns-then-is_staying-clause-value
returns-then-is_staying-clause-value c = λ p d kept. (
  next_none p c.args.course.now (option_map (λ v. v.now) c.args.parent) c.args.cell c.args.n d c.requires.cell (corner_of c.args.cell c.args.n) refl (corner_vertex c.args.course.now.dim c.args.cell c.args.n c.requires.cell c.requires.corner) (at_corner c.args.cell c.args.n) c.in-None.ensures,
  sym (c.is_staying.ensures p d kept) ∙ c.if-is_staying.true,
)

pub returns-else-is_staying-clause-value : goal.returns-else-is_staying-clause-value
returns-else-is_staying-clause-value c = λ p d kept. (
  next_none p c.args.course.now (option_map (λ v. v.now) c.args.parent) c.args.cell c.args.n d c.requires.cell (corner_of c.args.cell c.args.n) refl (corner_vertex c.args.course.now.dim c.args.cell c.args.n c.requires.cell c.requires.corner) (at_corner c.args.cell c.args.n) c.in-None.ensures,
  sym (c.is_staying.ensures p d kept) ∙ c.if-is_staying.false,
)
