-- Round a kept vertex the visited cells are the held ones, and unbroken.
use Rattle.std.proofs.Common.{◌≡◌, ℕ, ◌-◌, leb, Bool, true, false, ◌&&◌, ◌||◌, Option, Some, None, arith, refl, sym, subst, ◌∙◌, ⊎_elim, eq-eqb}
use Rattle.std.proofs.lemmas.Bool.{cases_lt}
use Rattle.peano_keys.specs.declared.cell.CellKey.{CellKey}
use Rattle.peano_keys.specs.declared.vertex.VertexKey.{VertexKey}
use Rattle.peano_keys.specs.declared.dim.Dim.{Dim}
use Rattle.peano_keys.specs.declared.dim.Dim.TheVariants.{Two, Three}
use Rattle.peano_keys.specs.Dim.{axes}
use Rattle.peano_keys.specs.Cell.{IsCell}
use Rattle.peano_keys.specs.Vertex.{Touches}
use Rattle.peano_keys.specs.Grid.{Spacetree, has_cell}
use Rattle.peano_curve.proofs.Held.{held_between}
use Rattle.stack_law.specs.Boxes.{Box}
use Rattle.stack_law.specs.Domain.{axis_in, cell_in}
use Rattle.stack_law.proofs.Apart.{ranks_tell_cells_apart}
use Rattle.stack_walks.specs.Handing.{KeptUnbroken}
use Rattle.stack_walks.proofs.GivenCorners.{and_true}
use Rattle.stack_walks.proofs.Handing.{and_both}
use Rattle.sweep_visits.specs.Plan.{SweepPlan, IsSweepPlan, IsOldGrid, dim_of, is_held, is_cell_in, is_visited, is_opened, is_stored_in, is_kept}
use Rattle.sweep_visits.proofs.Places.{direction_of, splits, cell_of, vertex_of, place, inside_cell, touches_keys, place_later}
use Rattle.sweep_visits.proofs.Keyed.{is_flat, visited_at, visited_here}
use Rattle.sweep_visits.proofs.Parents.{one_of, or_left, or_right}
use Rattle.sweep_visits.proofs.Tests.{held_tells, held_told, stored_tells}

-- the kept vertices, as boxes
abbrev pub kept_at : Dim → ℕ → (VertexKey → Bool) → ℕ → Box → Bool
kept_at dim depth kept m v = is_flat dim v && kept (vertex_of dim depth m v)

pub inside_flat : (dim : Dim) (depth m : ℕ) (b : Box) → IsCell dim (cell_of dim depth m b) → is_flat dim b ≡ true
inside_flat Two depth m b h = eq-eqb b.x2 0 (omega (arith, h.third))
inside_flat Three depth m b h = refl

-- a cell round a stored vertex is one of the grid
stored_old : (dim : Dim) (depth : ℕ) (old : Option Spacetree) → IsOldGrid depth dim old → (v : VertexKey) (q : CellKey) → is_stored_in old v ≡ true → IsCell dim q → Touches q v → is_cell_in old q ≡ true
stored_old dim depth None o v q h cell t = h
stored_old dim depth (Some g) o v q h cell t = stored_tells g v h q (subst (λ d. IsCell d q) (sym o.1) cell) t

module _ (p : SweepPlan) (plan : IsSweepPlan p) where
  -- round a kept vertex all cells are those of one of the grids
  pub kept_cell : (v : VertexKey) (q : CellKey) → is_kept p v ≡ true → IsCell (dim_of p) q → Touches q v → (is_cell_in p.old q || has_cell p.new q) ≡ true
  kept_cell v q h cell t = ⊎_elim (λ o. or_left _ _ (stored_old (dim_of p) p.depth p.old plan.old v q o cell t)) (λ n. or_right _ _ (stored_tells p.new v n q cell t)) (one_of (is_stored_in p.old v) _ h)

  -- so the visited ones are those that are held
  pub kept_visited : (v : VertexKey) (q : CellKey) → is_kept p v ≡ true → IsCell (dim_of p) q → Touches q v → is_visited p q ≡ is_held p q
  kept_visited v q h cell t = rw (kept_cell v q h cell t) (by (is_held p q))
    where
      by : (a : Bool) → (a && true) ≡ a
      by true = refl
      by false = refl

  abbrev pub dim : Dim
  dim = dim_of p

  abbrev pub seen_at : ℕ → Box → Bool
  seen_at = visited_at dim p.depth (is_visited p) (is_opened p)

  -- what is visited as a box
  pub seen_tells : (m : ℕ) (b : Box) → seen_at m b ≡ true → is_visited p (cell_of dim p.depth m b) ≡ true
  seen_tells m b h = (and_true (is_flat dim b) _ (and_true (leb m (splits dim p.depth)) _ (and_true (cell_in (axes dim) m) _ h).1).1).1

  pub kept_unbroken : (kept : VertexKey → Bool) → ((v : VertexKey) → kept v ≡ true → is_kept p v ≡ true) → KeptUnbroken (direction_of p.dir) (axis_in (axes dim)) (splits dim p.depth) seen_at (kept_at dim p.depth kept) (cell_in (axes dim))
  kept_unbroken kept keeps m v c l k x y z hx hy inside touching first last =
      let deep = plan.depth in
      let cell = inside_cell dim p.depth m c l deep z inside in
      let keeps_v = keeps (vertex_of dim p.depth m v) (and_true (is_flat dim v) _ k).1 in
      let in_grid = kept_cell (vertex_of dim p.depth m v) (cell_of dim p.depth m z) keeps_v cell (touches_keys dim p.depth m c l v z touching) in
      let held_x = held_tells p (cell_of dim p.depth m x) (and_true (is_held p (cell_of dim p.depth m x)) _ (seen_tells m x hx.2)).0 in
      let held_y = held_tells p (cell_of dim p.depth m y) (and_true (is_held p (cell_of dim p.depth m y)) _ (seen_tells m y hy.2)).0 in
      ⊎_elim
      (λ after_x. ⊎_elim
      (λ before_y. visited_here dim p.depth (is_visited p) (is_opened p) m z c l (inside_flat dim p.depth m z cell)
      ∙ and_both _ _ (held_told p (cell_of dim p.depth m z) (held_between dim p.depth p.range p.dir (cell_of dim p.depth m x) (cell_of dim p.depth m z) (cell_of dim p.depth m y) refl refl (place_later dim p.depth m c l deep p.dir x z hx.0 inside after_x) (place_later dim p.depth m c l deep p.dir z y inside hy.0 before_y) held_x held_y)) in_grid)
      (λ n. subst (λ b. seen_at m b ≡ true) (ranks_tell_cells_apart (direction_of p.dir) (axis_in (axes dim)) (splits dim p.depth - m) m y z hy.0 inside (omega arith)) hy.2)
      (cases_lt (place dim p.depth p.dir m z) (place dim p.depth p.dir m y)))
      (λ n. subst (λ b. seen_at m b ≡ true) (ranks_tell_cells_apart (direction_of p.dir) (axis_in (axes dim)) (splits dim p.depth - m) m x z hx.0 inside (omega arith)) hx.2)
      (cases_lt (place dim p.depth p.dir m x) (place dim p.depth p.dir m z))
