-- Which trees hold a position round a vertex, and so which it is sent to.
use Rattle.std.specs.Prelude.{ℕ, Bool, false, not, ◌==◌, ◌&&◌, Option, Some, None}
use Rattle.std.specs.List.{list_any}
use Rattle.peano_keys.specs.declared.cell.CellKey.{CellKey}
use Rattle.peano_keys.specs.declared.vertex.VertexKey.{VertexKey}
use Rattle.peano_keys.specs.Vertex.{adjacent_of}
use Rattle.peano_curve.specs.declared.range.Range.{Range}
use Rattle.peano_curve.specs.Order.{interval_of}
use Rattle.curve_cuts.specs.Cuts.{Cuts, range_of}
use Rattle.sweep_visits.specs.Plan.{ranges_meet, corner_numbers}

-- whether the interval of a position meets a range; none does where the position is outside the domain
abbrev pub is_met : Cuts → Range → Option CellKey → Bool
is_met k r None = false
is_met k r (Some c) = ranges_meet (interval_of k.dim c k.depth) r

-- whether a tree holds an adjacent position of a vertex
abbrev pub has_corner : Cuts → ℕ → VertexKey → Bool
has_corner k t v =
    list_any (λ n. is_met k (range_of k t) (adjacent_of k.dim v n)) (corner_numbers k.dim)

-- whether a tree sends a vertex to another one
abbrev pub is_sent : Cuts → ℕ → ℕ → VertexKey → Bool
is_sent k s t v = not (t == s) && has_corner k t v
