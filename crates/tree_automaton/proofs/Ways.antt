-- Where corners come from and go, from what the run of the vertex says.
use Rattle.std.proofs.Common.{◌≡◌, ℕ, Option, Some, None, ap, sym, ◌∙◌, subst}
use Rattle.std.specs.Prelude.{◌||◌}
use Rattle.peano_keys.specs.declared.cell.CellKey.{CellKey}
use Rattle.peano_keys.specs.declared.vertex.VertexKey.{VertexKey}
use Rattle.peano_keys.specs.declared.dim.Dim.{Dim}
use Rattle.peano_keys.specs.Cell.{IsCell}
use Rattle.peano_keys.specs.Vertex.{IsVertex, Touches, corner_of}
use Rattle.peano_keys.specs.Grid.{has_cell}
use Rattle.peano_records.specs.declared.view.CellView.{CellView}
use Rattle.peano_curve.specs.declared.order.Direction.{Direction}
use Rattle.peano_curve.specs.declared.range.Range.{Range}
use Rattle.peano_curve.specs.Run.{InRun, HoldsCell, Follows, IsFirst, IsLast, DifferOn, lane_from}
use Rattle.sweep_visits.specs.Plan.{dim_of, is_cell_in, is_held}
use Rattle.sweep_visits.specs.Runs.{turned_round, next_in_run, previous_in_run, lane_between}
use Rattle.sweep_visits.proofs.Tests.{held_tells}
use Rattle.sweep_visits.proofs.Next.{next_told, none_told, turned_follows}
use Rattle.sweep_visits.proofs.Corners.{first_last}
use Rattle.sweep_visits.proofs.Ways.{lane_of_axis}
use Rattle.tree_automaton.specs.declared.decide.Course.{Course}
use Rattle.tree_automaton.specs.Sweep.{TreeSweep}
use Rattle.tree_automaton.specs.Decisions.{Decides, IsCourse}
use Rattle.tree_automaton.proofs.Stored.{and_first}

-- what is right of a course is right of its plan, and the other way round
pub of_plan : (p : TreeSweep) (course : Course) (is : IsCourse p course) (P : Dim → Range → ℕ → Direction → Type 0) → P course.dim course.range course.depth course.dir → P (dim_of p.plan) p.plan.range p.plan.depth p.plan.dir
of_plan p course is P h = subst (λ x. P x p.plan.range p.plan.depth p.plan.dir) (sym is.dim) (subst (λ x. P course.dim x p.plan.depth p.plan.dir) (sym is.range) (subst (λ x. P course.dim course.range x p.plan.dir) (sym is.depth) (subst (λ x. P course.dim course.range course.depth x) (sym is.dir) h)))

pub of_course : (p : TreeSweep) (course : Course) (is : IsCourse p course) (P : Dim → Range → ℕ → Direction → Type 0) → P (dim_of p.plan) p.plan.range p.plan.depth p.plan.dir → P course.dim course.range course.depth course.dir
of_course p course is P h = subst (λ x. P x course.range course.depth course.dir) is.dim (subst (λ x. P (dim_of p.plan) x course.depth course.dir) is.range (subst (λ x. P (dim_of p.plan) p.plan.range x course.dir) is.depth (subst (λ x. P (dim_of p.plan) p.plan.range p.plan.depth x) is.dir h)))

module _ (p : TreeSweep) (course : Course) (parent : Option CellView) (c : CellKey) (n : ℕ) (d : Decides p course parent c) (cell : IsCell course.dim c) (w : VertexKey) (is : w ≡ corner_of c n) (vertex : IsVertex course.dim w) (touches : Touches c w) where
  -- the cell is in the vertex's run
  pub in_run : InRun course.dim w course.range course.depth c
  in_run = record {
    cell = cell;
    touches = touches;
    held = of_course p course d.is (λ d r n way. HoldsCell d n r c) (held_tells p.plan c (and_first (is_held p.plan c) (is_cell_in p.plan.old c || has_cell p.plan.new c) d.there));
  }

  own : InRun (dim_of p.plan) w p.plan.range p.plan.depth c
  own = of_plan p course d.is (λ d r n way. InRun d w r n c) in_run

  own_vertex : IsVertex (dim_of p.plan) w
  own_vertex = of_plan p course d.is (λ d r n way. IsVertex d w) vertex

  pub previous_found : (q : CellKey) → Follows course.dir course.dim w course.range course.depth q c → previous_in_run p.plan (corner_of c n) c ≡ Some q
  previous_found q f = ap (λ v. previous_in_run p.plan v c) (sym is) ∙ next_told p.plan w own_vertex (turned_round p.plan.dir) c own q (turned_follows p.plan.dir (dim_of p.plan) w p.plan.range p.plan.depth c q (of_plan p course d.is (λ d r n way. Follows way d w r n q c) f))

  pub previous_none : IsFirst course.dir course.dim w course.range course.depth c → previous_in_run p.plan (corner_of c n) c ≡ None
  previous_none f = ap (λ v. previous_in_run p.plan v c) (sym is) ∙ none_told p.plan w own_vertex (turned_round p.plan.dir) c own (first_last p.plan.dir (dim_of p.plan) w p.plan.range p.plan.depth c (of_plan p course d.is (λ d r n way. IsFirst way d w r n c) f))

  pub next_found : (q : CellKey) → Follows course.dir course.dim w course.range course.depth c q → next_in_run p.plan (corner_of c n) c ≡ Some q
  next_found q f = ap (λ v. next_in_run p.plan v c) (sym is) ∙ next_told p.plan w own_vertex p.plan.dir c own q (of_plan p course d.is (λ d r n way. Follows way d w r n c q) f)

  pub next_none : IsLast course.dir course.dim w course.range course.depth c → next_in_run p.plan (corner_of c n) c ≡ None
  next_none f = ap (λ v. next_in_run p.plan v c) (sym is) ∙ none_told p.plan w own_vertex p.plan.dir c own (of_plan p course d.is (λ d r n way. IsLast way d w r n c) f)

  pub lane_found : (q : CellKey) (i lane : ℕ) → DifferOn course.dim i c q → lane ≡ lane_from w i → lane ≡ lane_between (corner_of c n) c q
  lane_found q i lane on e = e ∙ (sym (lane_of_axis course.dim w c q i cell on) ∙ ap (λ v. lane_between v c q) is)
