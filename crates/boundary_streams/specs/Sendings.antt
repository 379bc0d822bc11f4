-- The lists of a box as they grow, and the intervals round a vertex.
use Rattle.std.specs.Prelude.{◌≡◌, ℕ, ◌<◌, ◌≤◌, ◌%◌, ◌^◌, ◌==◌, ◌&&◌, Bool, not, if◌then◌else◌, List, [], ◌∷◌, ◌++◌, Vec, map, take, length, nat_lt, Option, Some, None, slice_index_or}
use Rattle.std.specs.List.{list_any}
use Rattle.std.specs.declared.alloc.Global.{Global}
use Rattle.peano_keys.specs.declared.cell.CellKey.{CellKey}
use Rattle.peano_keys.specs.declared.dim.Dim.{Dim}
use Rattle.peano_keys.specs.declared.dim.Dim.TheVariants.{Two, Three}
use Rattle.peano_keys.specs.declared.vertex.VertexKey.{VertexKey}
use Rattle.peano_keys.specs.Dim.{corners, children}
use Rattle.peano_keys.specs.Vertex.{plane, adjacent_of}
use Rattle.peano_records.specs.declared.stored.Parcel.{Parcel}
use Rattle.peano_curve.specs.declared.range.Range.{Range}
use Rattle.peano_curve.specs.Order.{interval_of}
use Rattle.curve_cuts.specs.Cuts.{Cuts, range_of}
use Rattle.sweep_visits.specs.Plan.{ranges_meet}
use Rattle.boundary_streams.specs.Holders.{is_sent}

-- what a list of parcels holds
abbrev pub items_of : Vec Parcel Global → List Parcel
items_of list = list.items

-- so many empty lists
pub record AreEmpty (n : ℕ) (lists : List (List Parcel)) : Type 0 where
  pub count : length lists ≡ n
  pub empty : (t : ℕ) → slice_index_or lists t [] ≡ []

-- a parcel was added to the list of each tree that passes a test
pub record AddsWhere (q : ℕ → Bool) (p : Parcel) (old new : List (List Parcel)) : Type 0 where
  pub count : length new ≡ length old
  pub lists : (t : ℕ) → t < length old
      → slice_index_or new t []
      ≡ (if q t then slice_index_or old t [] ++ p ∷ [] else slice_index_or old t [])

-- a parcel was added to the list of each tree that a tree sends its vertex to
pub record HasSent (k : Cuts) (s : ℕ) (p : Parcel) (old new : List (List Parcel)) : Type 0 where
  pub count : length new ≡ length old
  pub lists : (t : ℕ) → t < k.trees
      → slice_index_or new t []
      ≡ (if is_sent k s t p.key then slice_index_or old t [] ++ p ∷ [] else slice_index_or old t [])

-- the interval of a position, empty where it lies outside the domain
abbrev pub interval_at : Cuts → Option CellKey → Range
interval_at k None = record { lo = 0; hi = 0 }
interval_at k (Some c) = interval_of k.dim c k.depth

-- the interval of adjacent position number `n` of a vertex, empty where there is none
abbrev pub interval_round : Cuts → VertexKey → ℕ → Range
interval_round k v n =
    interval_at k (if nat_lt n (corners k.dim) then adjacent_of k.dim v n else None)

-- of all eight
abbrev pub intervals_round : Cuts → VertexKey → List Range
intervals_round k v = map (interval_round k v) (0 ∷ 1 ∷ 2 ∷ 3 ∷ 4 ∷ 5 ∷ 6 ∷ 7 ∷ [])

-- whether some of these meets a range
abbrev pub is_any_met : Range → List Range → Bool
is_any_met r rs = list_any (λ s. ranges_meet s r) rs

-- intervals of positions of the depth
abbrev pub AreWithin : Cuts → List Range → Type 0
AreWithin k rs = (n : ℕ) (d : Range) → n < 8 → (slice_index_or rs n d).hi ≤ children k.dim ^ k.depth

-- interval number `n` of some
abbrev pub interval_in : List Range → ℕ → Range
interval_in rs n = slice_index_or rs n (record { lo = 0; hi = 0 })

-- whether the range of a tree that is not the sender meets one of the first `n` intervals
abbrev pub is_met_before : Cuts → ℕ → List Range → ℕ → ℕ → Bool
is_met_before k s rs n t = not (t == s) && is_any_met (range_of k t) (take n rs)

-- whether it meets interval number `n` and none before it
abbrev pub is_met_first : Cuts → ℕ → List Range → ℕ → ℕ → Bool
is_met_first k s rs n t = not (t == s)
    && (not (is_any_met (range_of k t) (take n rs))
    && ranges_meet (interval_in rs n) (range_of k t))

-- the third coordinate of a vertex lies inside a cell two levels above, or is the one of a plane
abbrev pub IsThirdInside : Dim → ℕ → Type 0
IsThirdInside Two z = Unit {0}
IsThirdInside Three z = 0 < z % 9

-- a vertex lies inside a cell two levels above
pub record IsInside (dim : Dim) (v : VertexKey) : Type 0 where
  pub level : 2 ≤ v.level
  pub first : 0 < plane v 0 % 9
  pub second : 0 < plane v 1 % 9
  pub third : IsThirdInside dim (plane v 2)
