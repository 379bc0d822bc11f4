-- How it shows at one adjacent position of a vertex that a tree does not have it alone.
use Rattle.std.specs.Prelude.{◌⊎◌, ℕ, ◌<◌, IsSomeAnd}
use Rattle.peano_keys.specs.declared.vertex.VertexKey.{VertexKey}
use Rattle.peano_keys.specs.Vertex.{adjacent_of}
use Rattle.peano_curve.specs.declared.range.Range.{Range}
use Rattle.peano_curve.specs.Order.{interval_of}
use Rattle.curve_cuts.specs.Cuts.{Cuts, range_of}

-- a range stands out of another one: it begins before it or ends behind it
abbrev pub StandsOut : Range → Range → Type 0
StandsOut r s = (r.lo < s.lo) ⊎ (s.hi < r.hi)

-- an adjacent position of a vertex is inside the domain, and its interval stands out of the tree's range
abbrev pub IsForeign : Cuts → ℕ → VertexKey → ℕ → Type 0
IsForeign k t v n =
    IsSomeAnd (adjacent_of k.dim v n) (λ c. StandsOut (interval_of k.dim c k.depth) (range_of k t))
