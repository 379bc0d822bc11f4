-- The output of a sweep is the input of the next.
use Rattle.std.proofs.Common.{◌≡◌, reverse, flat_map, Some, refl, sym, ap, subst, ◌∙◌}
use Rattle.peano_keys.specs.declared.vertex.VertexKey.{VertexKey}
use Rattle.peano_keys.specs.declared.dim.Dim.{Dim}
use Rattle.peano_keys.specs.Grid.{Cells}
use Rattle.peano_curve.specs.declared.order.Direction.{Direction}
use Rattle.peano_curve.specs.declared.order.Direction.TheVariants.{Forward, Backward}
use Rattle.stack_law.specs.Boxes as boxes
use Rattle.stack_law.specs.Boxes.{Axis, Box}
use Rattle.stack_law.specs.Domain.{cell_in}
use Rattle.stack_law.specs.Domain as domain
use Rattle.stack_law.specs.Visits.{walls}
use Rattle.stack_law.specs.Walk.{walk}
use Rattle.stack_walks.specs.Streams.{taken_in, AgreeRoundKept}
use Rattle.stack_walks.proofs.Instances.{next_walk_reads_the_output}
use Rattle.stack_walks.proofs.GivenCorners.{and_true}
use Rattle.sweep_visits.specs.Plan.{SweepPlan, IsSweepPlan, IsOldGrid, dim_of, is_visited, is_opened}
use Rattle.sweep_visits.specs.Runs.{turned_round}
use Rattle.sweep_visits.specs.Moves.{moves_of, taken_by, put_by}
use Rattle.sweep_streams.specs.Streams.{NextSweepReadsTheOutput}
use Rattle.sweep_visits.proofs.Places.{direction_of, cell_of, vertex_of, inside_cell, touches_keys}
use Rattle.sweep_visits.proofs.Keyed.{is_flat, visited_here}
use Rattle.sweep_visits.proofs.Kept.{seen_at, kept_at, kept_visited, inside_flat}
use Rattle.sweep_visits.proofs.Events.{is_new, keeps_new, keeps_old}
use Rattle.sweep_visits.proofs.Sweeps.{dir, axis, is_cell, S, opened, closed, vertex_name, puts_by_boxes, takes_by_boxes}

turned_direction : (d : Direction) → boxes.turned_round (direction_of d) ≡ direction_of (turned_round d)
turned_direction Forward = refl
turned_direction Backward = refl

-- a sweep after another, to a grid of that dimension
abbrev pub after : SweepPlan → Dim → Cells → SweepPlan
after p d r = record { depth = p.depth; range = p.range; dir = turned_round p.dir; old = Some p.new; new = record { dim = d; refined = r } }

module _ (p : SweepPlan) (plan : IsSweepPlan p) (r : Cells) (next : IsSweepPlan (after p (dim_of p) r)) where
  abbrev q : SweepPlan
  q = after p (dim_of p) r

  agree : AgreeRoundKept (axis p plan) (is_cell p plan) (S p plan) (seen_at p plan) (seen_at q next) (kept_at (dim_of p) p.depth (is_new p plan))
  agree m v b c l k inside t =
      let cell = inside_cell (dim_of p) p.depth m c l plan.depth b inside in
      let flat = inside_flat (dim_of p) p.depth m b cell in
      let touching = touches_keys (dim_of p) p.depth m c l v b t in
      let stored = (and_true (is_flat (dim_of p) v) _ k).1 in
      visited_here (dim_of p) p.depth (is_visited p) (is_opened p) m b c l flat
      ∙ kept_visited p plan (vertex_of (dim_of p) p.depth m v) (cell_of (dim_of p) p.depth m b) (keeps_new p plan (vertex_of (dim_of p) p.depth m v) stored) cell touching
      ∙ sym (kept_visited q next (vertex_of (dim_of p) p.depth m v) (cell_of (dim_of p) p.depth m b) (keeps_old q next (vertex_of (dim_of p) p.depth m v) stored) cell touching)
      ∙ sym (visited_here (dim_of p) p.depth (is_visited q) (is_opened q) m b c l flat)

  reads : reverse (put_by (moves_of p)) ≡ taken_by (moves_of q)
  reads =
      ap reverse (puts_by_boxes p plan)
      ∙ next_walk_reads_the_output VertexKey (vertex_name p plan) (dir p plan) (axis p plan) (is_cell p plan) (S p plan) (seen_at p plan) (opened p plan) (seen_at q next) (opened q next) (kept_at (dim_of p) p.depth (is_new p plan)) (closed p plan) (closed q next) agree
      ∙ ap (λ d. flat_map (taken_in VertexKey (vertex_name p plan) d (axis p plan) (S p plan) (seen_at q next) (kept_at (dim_of p) p.depth (is_new p plan))) (walk d (axis p plan) (is_cell p plan) (seen_at q next) (opened q next) (S p plan) domain.root walls)) (turned_direction p.dir)
      ∙ sym (takes_by_boxes q next)

pub next_sweep_reads_the_output : NextSweepReadsTheOutput
next_sweep_reads_the_output p q plan next follows =
    let n = q.new in
    let old = subst (λ o. IsOldGrid q.depth (dim_of q) o) follows.old next.old in
    let e : p.new.dim ≡ n.dim = old.1 in
    let is : after p n.dim n.refined ≡ q = λ i. record { depth = sym follows.depth i; range = sym follows.range i; dir = sym follows.dir i; old = sym follows.old i; new = n } in
    let base = subst (λ d. (r : Cells) → IsSweepPlan (after p d r) → reverse (put_by (moves_of p)) ≡ taken_by (moves_of (after p d r))) e (reads p plan) in
    base n.refined (subst IsSweepPlan (sym is) next) ∙ ap (λ x. taken_by (moves_of x)) is
