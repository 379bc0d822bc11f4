-- Laws of sweeps: lanes are stacks, each corner goes by its run, and the output is the next input.
use Rattle.std.specs.Prelude.{MatchOption}
use Rattle.peano_keys.specs.declared.cell.CellKey.{CellKey}
use Rattle.peano_keys.specs.declared.vertex.VertexKey.{VertexKey}
use Rattle.peano_keys.specs.Vertex.{IsVertex}
use Rattle.peano_curve.specs.Run.{InRun, Follows, IsLast, IsFirst}
use Rattle.stack_walks.specs.Instances.{UseStacks}
use Rattle.sweep_visits.specs.Plan.{SweepPlan, IsSweepPlan, dim_of}
use Rattle.sweep_visits.specs.Runs.{next_in_run, previous_in_run}
use Rattle.sweep_visits.specs.Moves.{Passing, same_passing, moves_of, on_lanes}

-- Lanes never mix: each pop finds its passing on top, at the end all lanes are empty, and at each moment a lane holds what was given and not taken, in the order in which it was given.
abbrev pub LanesNeverMix : Type 0
LanesNeverMix = (p : SweepPlan) → IsSweepPlan p
    → UseStacks Passing same_passing (on_lanes (moves_of p))

-- The next cell and the previous one of a held cell are those of the vertex's held run; there is none at its ends.
abbrev pub NextIsOfTheRun : Type 0
NextIsOfTheRun = (p : SweepPlan) (v : VertexKey) (c : CellKey) → IsVertex (dim_of p) v
    → InRun (dim_of p) v p.range p.depth c
    → MatchOption (next_in_run p v c) (IsLast p.dir (dim_of p) v p.range p.depth c)
    (λ q. Follows p.dir (dim_of p) v p.range p.depth c q)
    × MatchOption (previous_in_run p v c) (IsFirst p.dir (dim_of p) v p.range p.depth c)
    (λ q. Follows p.dir (dim_of p) v p.range p.depth q c)
