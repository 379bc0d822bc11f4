-- Refined cells of an opening grid: their ancestors are refined too.
use Rattle.std.proofs.Common.{◌+◌, ◌-◌, ◌*◌, ◌^◌, ◌/◌, ◌<◌, ◌≤◌, min, max, arith, ◌≡◌, ℕ, zero, suc, List, refl, sym, subst, inl, inr, Any}
use Rattle.std.proofs.Math.Nat.{mul-le-mul_right}
use Rattle.std.specs.FinSet as set
use Rattle.peano_keys.specs.declared.dim.Dim.{Dim}
use Rattle.peano_keys.specs.declared.dim.Dim.TheVariants.{Two, Three}
use Rattle.peano_keys.specs.declared.cell.CellKey.{CellKey}
use Rattle.peano_keys.specs.Cell.{parent_of}
use Rattle.spacetree.proofs.Children.{extent_above, parent_cell}
use Rattle.peano_keys.specs.Grid.{Cells, Spacetree, IsGrid}
use Rattle.spacetree.specs.declared.shape.Shape.{Shape}
use Rattle.spacetree.specs.declared.shape.Zone.{Zone}
use Rattle.spacetree.specs.Opening.{Opens, OpensRefined, ZoneRefines}
use Rattle.spacetree.specs.Build.{IsZone, IsShape, HasOpened, HasAllOpened, ancestor_of}
use Rattle.spacetree.proofs.CellSets.{inserted_cases}
use Rattle.spacetree.proofs.Zones.{Meets, Overlaps, decides_zone}

-- where a cell meets an interval, its parent does: `end` is the cells above on the axis, `unit` those of the interval's level
wider : (end unit x from to : ℕ) → max (x * unit) (from * (3 * end)) < min ((x + 1) * unit) (to * (3 * end)) → max (x / 3 * unit) (from * end) < min ((x / 3 + 1) * unit) (to * end)
wider end unit x from to h =
    let y : ℕ = x / 3 in
    let low : 3 * y ≤ x = omega arith in
    let high : x + 1 ≤ 3 * y + 3 = omega arith in
    sides end unit x (x / 3) from to (mul-le-mul_right unit low) (mul-le-mul_right unit high) h where
      sides : (end unit x y from to : ℕ) → 3 * y * unit ≤ x * unit → (x + 1) * unit ≤ (3 * y + 3) * unit → max (x * unit) (from * (3 * end)) < min ((x + 1) * unit) (to * (3 * end)) → max (y * unit) (from * end) < min ((y + 1) * unit) (to * end)
      sides end unit x y from to low high h = omega arith

parent_overlaps : (l x k from to : ℕ) → 0 < l → Overlaps l x k from to → Overlaps (l - 1) (x / 3) k from to
parent_overlaps l x k from to pos h =
    wider (3 ^ (l - 1)) (3 ^ k) x from to (subst (λ (e : ℕ). max (x * 3 ^ k) (from * e) < min ((x + 1) * 3 ^ k) (to * e)) (extent_above l pos) h)

parent_meets : (dim : Dim) (z : Zone) (c : CellKey) → 0 < c.level → Meets dim z c → Meets dim z (parent_of c)
parent_meets Two z c pos h = (parent_overlaps _ _ _ _ _ pos h.0, parent_overlaps _ _ _ _ _ pos h.1)
parent_meets Three z c pos h = (parent_overlaps _ _ _ _ _ pos h.0, parent_overlaps _ _ _ _ _ pos h.1, parent_overlaps _ _ _ _ _ pos h.2)

-- a zone that refines a cell refines its parent
pub parent_zone : (dim : Dim) (c : CellKey) (z : Zone) → 0 < c.level → ZoneRefines dim c z → ZoneRefines dim (parent_of c) z
parent_zone dim c z pos h =
    let parts = (decides_zone dim c z).0 h in
    (decides_zone dim (parent_of c) z).1 (omega (arith, parts.0), parent_meets dim z c pos parts.1)

pub any_weaker : {P Q : Zone → Type 0} (zones : List Zone) → ((z : Zone) → P z → Q z) → Any P zones → Any Q zones
any_weaker zones f h = (h.0, h.1, h.2, h.3, f h.1 h.4)

-- a refined cell below the root has a refined parent
pub parent_opens : (shape : Shape) (c : CellKey) → 0 < c.level → OpensRefined shape c → OpensRefined shape (parent_of c)
parent_opens shape c pos h = record {
  cell = parent_cell shape.dim c h.cell pos;
  cause = elim h.cause [ inl l ↦ inl (omega (arith, l)) | inr some ↦ inr (any_weaker shape.zones (λ z. parent_zone shape.dim c z pos) some) ];
}

pub ancestor_level : (n : ℕ) (c : CellKey) → (ancestor_of n c).level ≡ c.level - n
ancestor_level zero c = omega arith
ancestor_level (suc n) c = omega (arith, ancestor_level n c)

pub ancestor_opens : (shape : Shape) (n : ℕ) (c : CellKey) → n ≤ c.level → OpensRefined shape c → OpensRefined shape (ancestor_of n c)
ancestor_opens shape zero c le h = h
ancestor_opens shape (suc n) c le h =
    let less : n ≤ c.level = omega arith in
    let pos : 0 < (ancestor_of n c).level = omega (arith, ancestor_level n c) in
    parent_opens shape (ancestor_of n c) pos (ancestor_opens shape n c less h)

pub ancestor_zone : (dim : Dim) (n : ℕ) (c : CellKey) (z : Zone) → n ≤ c.level → ZoneRefines dim c z → ZoneRefines dim (ancestor_of n c) z
ancestor_zone dim zero c z le h = h
ancestor_zone dim (suc n) c z le h =
    let less : n ≤ c.level = omega arith in
    let pos : 0 < (ancestor_of n c).level = omega (arith, ancestor_level n c) in
    parent_zone dim (ancestor_of n c) z pos (ancestor_zone dim n c z less h)

-- refined cells are above the depth
pub opens_above : (shape : Shape) (c : CellKey) → IsShape shape → OpensRefined shape c → c.level < shape.depth
opens_above shape c is h = elim h.cause [
  | inl l ↦ omega (arith, l, is.base)
  | inr some ↦
      let z : IsZone shape.dim shape.depth some.1 = subst (IsZone shape.dim shape.depth) some.3 (is.zones some.0 some.1 some.2) in
      omega (arith, ((decides_zone shape.dim c some.1).0 some.4).0, z.most)
]

-- a set stays within the refined cells by one of them
pub opened_by_insert : (shape : Shape) (s : Cells) (k : CellKey) → HasOpened shape s → OpensRefined shape k → HasOpened shape (set.insert s k)
opened_by_insert shape s k within new q h =
    elim (inserted_cases s k q h) [ inl e ↦ subst (OpensRefined shape) (sym e) new | inr old ↦ within q old ]

abbrev pub grid_of : Shape → Cells → Spacetree
grid_of shape s = record { dim = shape.dim; refined = s }

pub opens_of : (shape : Shape) (s : Cells) → HasOpened shape s → HasAllOpened shape s → Opens shape (grid_of shape s)
opens_of shape s within all = record { dim = refl; refined = λ c. (within c, all c) }

pub grid_of_shape : (shape : Shape) (s : Cells) (depth : ℕ) → IsShape shape → shape.depth ≤ depth → HasOpened shape s → HasAllOpened shape s → IsGrid depth (grid_of shape s)
grid_of_shape shape s depth is deep within all = record {
  cells = λ c e. (within c e).cell;
  levels = λ c e. omega (arith, deep, opens_above shape c is (within c e));
  parents = λ c e pos. all (parent_of c) (parent_opens shape c pos (within c e));
}
