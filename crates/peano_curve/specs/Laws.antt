-- Laws of the curve: runs, mirror images, digits, intervals and centres.
use Rattle.std.specs.Prelude.{◌≡◌, ℕ, ◌+◌, ◌*◌, ◌-◌, ◌/◌, ◌%◌, ◌^◌, ◌==◌, ◌<◌, ◌≤◌, ◌↔◌, if◌then◌else◌, List, slice_index, ◌≢◌}
use Rattle.std.specs.declared.cmp.Ordering.{Ordering}
use Rattle.std.specs.declared.cmp.Ordering.TheVariants.{Less}
use Rattle.std.specs.Ordering.{nat_cmp, ordering_then}
use Rattle.peano_keys.specs.declared.cell.CellKey.{CellKey}
use Rattle.peano_keys.specs.declared.cell.Face.{Face}
use Rattle.peano_keys.specs.declared.vertex.VertexKey.{VertexKey}
use Rattle.peano_keys.specs.declared.dim.Dim.{Dim}
use Rattle.peano_keys.specs.declared.dim.Dim.TheVariants.{Two, Three}
use Rattle.peano_keys.specs.Cell.{IsCell, IsDigits, at, triple, parent_of, child_of, centre_child}
use Rattle.peano_curve.specs.declared.order.Direction.{Direction}
use Rattle.peano_curve.specs.declared.range.Range.{Range}
use Rattle.stack_law.specs.Digits.{turned}
use Rattle.peano_curve.specs.Order.{sibling_place, rank_of, nth_child, interval_of, centre_of, curve_cmp}
use Rattle.peano_curve.specs.Run.{Holds, HoldsCell, CellLater, Follows, DifferOn}

-- consecutive cells of a run differ on one axis, by one
abbrev pub RunIsGray : Type 0
RunIsGray = (dir : Direction) (dim : Dim) (v : VertexKey) (r : Range) (depth : ℕ) (c next : CellKey)
    → Follows dir dim v r depth c next → (axis : ℕ) × DifferOn dim axis c next

-- what a range holds of a level is unbroken: a cell between two that are held is held
abbrev pub HeldAreUnbroken : Type 0
HeldAreUnbroken = (dim : Dim) (depth : ℕ) (r : Range) (dir : Direction) (c between q : CellKey)
    → c.level ≡ between.level → q.level ≡ between.level → CellLater dir dim c between
    → CellLater dir dim between q → HoldsCell dim depth r c → HoldsCell dim depth r q
    → HoldsCell dim depth r between

-- the ancestor of a level
abbrev pub ancestor_of : CellKey → ℕ → CellKey
ancestor_of c l =
    record {
      level = l;
      x = triple (at c 0 / 3 ^ (c.level - l)) (at c 1 / 3 ^ (c.level - l))
          (at c 2 / 3 ^ (c.level - l));
    }

-- a cell is another one or below it
pub record IsIn (p c : CellKey) : Type 0 where
  pub level : p.level ≤ c.level
  pub ancestor : ancestor_of c p.level ≡ p

-- a cell below another touches its face: on the face's axis it is the last or the first there
abbrev pub IsAtFace : CellKey → Face → CellKey → Type 0
IsAtFace p f c = at c f.axis
    ≡ (if f.high then (at p f.axis + 1) * 3 ^ (c.level - p.level) - 1
    else at p f.axis * 3 ^ (c.level - p.level))

-- cells of one level have different ranks
abbrev pub RanksTellApart : Type 0
RanksTellApart = (dim : Dim) (a b : CellKey) → IsCell dim a → IsCell dim b → a.level ≡ b.level
    → rank_of dim a ≡ rank_of dim b → a ≡ b

-- a cell is the child of its parent at its place
abbrev pub ChildAtPlace : Type 0
ChildAtPlace = (dim : Dim) (c : CellKey) → IsCell dim c → 0 < c.level
    → nth_child dim (parent_of c) (sibling_place dim c) ≡ c

-- the place of a child where its parent is split along one axis after another, each split turning with the other coordinates of the box that is split
abbrev pub nested_place : Dim → CellKey → List ℕ → ℕ
nested_place Two c k = 3 * turned (at c 1) (slice_index k 0)
    + turned (3 * at c 0 + slice_index k 0) (slice_index k 1)
nested_place Three c k = 9 * turned (at c 1 + at c 2) (slice_index k 0)
    + 3 * turned (3 * at c 0 + slice_index k 0 + at c 2) (slice_index k 1)
    + turned (3 * at c 0 + slice_index k 0 + (3 * at c 1 + slice_index k 1)) (slice_index k 2)

-- nested splits of a cell give the order of its children
abbrev pub SplitsOrderChildren : Type 0
SplitsOrderChildren = (dim : Dim) (c : CellKey) (k : List ℕ) → IsDigits dim k
    → sibling_place dim (child_of c k) ≡ nested_place dim c k

-- digits on one axis compare rising where the sum is even, falling where it is odd
abbrev pub digit_cmp : ℕ → ℕ → ℕ → Ordering
digit_cmp s k j = if s % 2 == 0 then nat_cmp k j else nat_cmp j k

-- digits below a cell compare at the first axis on which they differ
abbrev pub digits_cmp : Dim → CellKey → List ℕ → List ℕ → Ordering
digits_cmp Two c k j = ordering_then (digit_cmp (at c 1) (slice_index k 0) (slice_index j 0))
    (digit_cmp (at c 0 + slice_index k 0) (slice_index k 1) (slice_index j 1))
digits_cmp Three c k j =
    ordering_then (digit_cmp (at c 1 + at c 2) (slice_index k 0) (slice_index j 0))
    (ordering_then (digit_cmp (at c 0 + at c 2 + slice_index k 0) (slice_index k 1)
    (slice_index j 1))
    (digit_cmp (at c 0 + at c 1 + slice_index k 0 + slice_index k 1) (slice_index k 2)
    (slice_index j 2)))

-- two cells below different children of their last common ancestor compare as the digits of these children do
abbrev pub OrderIsByDigits : Type 0
OrderIsByDigits = (dim : Dim) (p a b : CellKey) (k j : List ℕ) → IsCell dim a → IsCell dim b
    → IsDigits dim k → IsDigits dim j → k ≢ j → IsIn (child_of p k) a → IsIn (child_of p j) b
    → curve_cmp dim a b ≡ digits_cmp dim p k j

-- an ancestor comes before its descendants
abbrev pub AncestorComesFirst : Type 0
AncestorComesFirst = (dim : Dim) (p a : CellKey) → IsCell dim p → IsCell dim a → IsIn p a
    → p.level < a.level → curve_cmp dim p a ≡ Less

-- the interval of a cell has the ranks of its descendants of that level and no others
abbrev pub IntervalIsDescendants : Type 0
IntervalIsDescendants = (dim : Dim) (p a : CellKey) → IsCell dim p → IsCell dim a
    → p.level ≤ a.level → Holds (interval_of dim p a.level) (rank_of dim a) ↔ IsIn p a

-- a cell and its centre child have one centre
abbrev pub CentreIsShared : Type 0
CentreIsShared = (dim : Dim) (c : CellKey) (depth : ℕ) → c.level < depth
    → centre_of dim (centre_child dim c) depth ≡ centre_of dim c depth
