-- What a sweep takes, puts and pushes, by the vertices of the grids.
use Rattle.std.specs.Prelude.{◌≡◌, ◌↔◌, ◌-◌, Bool, true, List, [], ◌∷◌, length, flat_map}
use Rattle.std.specs.List.{sum_by}
use Rattle.peano_keys.specs.declared.cell.CellKey.{CellKey}
use Rattle.peano_keys.specs.declared.vertex.VertexKey.{VertexKey}
use Rattle.peano_keys.specs.Vertex.{IsVertex}
use Rattle.peano_curve.specs.Run.{InRun}
use Rattle.stack_law.specs.Once.{IsIn}
use Rattle.stack_law.specs.Stack.{AreDistinct}
use Rattle.sweep_visits.specs.Plan.{SweepPlan, IsSweepPlan, dim_of, is_kept, is_stored, is_stored_in}
use Rattle.sweep_visits.specs.Runs.{held_round}
use Rattle.sweep_visits.specs.Moves.{Passing, Move, take, put, pop, push, moves_of, taken_by, put_by, same_vertex, same_cell}

-- a vertex that passes a test, with a held cell round it
pub record IsHeldVertex (p : SweepPlan) (test : VertexKey → Bool) (v : VertexKey) : Type 0 where
  pub vertex : IsVertex (dim_of p) v
  pub passes : test v ≡ true
  pub held : (c : CellKey) × InRun (dim_of p) v p.range p.depth c

-- a list has each vertex of the tree that passes a test, once
pub record ListsVertices (p : SweepPlan) (test : VertexKey → Bool)
    (vs : List VertexKey) : Type 0 where
  pub distinct : AreDistinct same_vertex vs
  pub members : (v : VertexKey) → IsIn v vs ↔ IsHeldVertex p test v

-- A sweep takes each vertex of the tree that the old grid stores, and puts each that the new grid stores, once.
abbrev pub StreamsAreStored : Type 0
StreamsAreStored = (p : SweepPlan) → IsSweepPlan p
    → ListsVertices p (is_stored_in p.old) (taken_by (moves_of p))
    × ListsVertices p (is_stored p.new) (put_by (moves_of p))

-- The run of a vertex is the list of the cells that are held round it, each once.
abbrev pub RunIsHeldRound : Type 0
RunIsHeldRound = (p : SweepPlan) (v : VertexKey) → IsVertex (dim_of p) v
    → AreDistinct same_cell (held_round p v)
    × ((c : CellKey) → IsIn c (held_round p v) ↔ InRun (dim_of p) v p.range p.depth c)

-- what a move pushes
abbrev pub pushed_part : Move → List Passing
pushed_part (take v) = []
pushed_part (put v) = []
pushed_part (pop k x) = []
pushed_part (push k x) = x ∷ []

-- all passings that moves push
abbrev pub pushed_by : List Move → List Passing
pushed_by ms = flat_map pushed_part ms

-- The kept vertices of the tree can be listed, and the pushes are the sum of run length less one over them.
abbrev pub PushesAreRunsLessOne : Type 0
PushesAreRunsLessOne = (p : SweepPlan) → IsSweepPlan p
    → ((vs : List VertexKey) × ListsVertices p (is_kept p) vs)
    × ((vs : List VertexKey) → ListsVertices p (is_kept p) vs
    → length (pushed_by (moves_of p)) ≡ sum_by (λ v. length (held_round p v) - 1) vs)
