-- The document of a demonstration: what a file would say that asks for the same plan.
use Rattle.std.specs.Prelude.{◌≡◌, ℕ, pos, List, [], ◌∷◌, map, codes, slice_index, Some, Ok}
use Rattle.toml.specs.Data.{Data, Items, Members, string, integer, array, table, no_items, item, no_members, member}
use Rattle.peano_keys.specs.State.{value_at}
use Rattle.spacetree.specs.declared.shape.Fill.{Fill}
use Rattle.spacetree.specs.declared.shape.Zone.{Zone}
use Rattle.grid_file.specs.Plan.{plan_of_tree}
use Rattle.demonstration.specs.Demo.{demo}

-- a number, and the two coordinates of a corner in a plane
abbrev pub number : ℕ → Data
number n = integer (pos n)

-- the two coordinates of a corner in a plane
abbrev pub corner : List ℕ → Data
corner x = array (item (number (slice_index x 0)) (item (number (slice_index x 1)) no_items))

-- the table of a fill of one value, and that of a box to refine
abbrev pub fill_table : Fill → Members
fill_table b = member (codes "from") (corner b.from)
    (member (codes "level") (number b.level)
    (member (codes "to") (corner b.to)
    (member (codes "value")
    (array (item (integer (value_at b.value 0)) no_items)) no_members)))

-- the table of a box to refine
abbrev pub zone_table : Zone → Members
zone_table z = member (codes "from") (corner z.from)
    (member (codes "level") (number z.level)
    (member (codes "to") (corner z.to) (member (codes "until") (number z.until) no_members)))

-- a list of tables
abbrev pub tables : List Members → Items
tables [] = no_items
tables (t ∷ ts) = item (table t) (tables ts)

-- the table of the criterion
abbrev pub criterion_table : Members
criterion_table = member (codes "hi") (number 100) (member (codes "lo") (number 5) no_members)

-- the keys that do not depend on the number
abbrev pub fixed_keys : Members
fixed_keys = member (codes "a") (number 1)
    (member (codes "b") (number 295245)
    (member (codes "base") (number 3)
    (member (codes "criterion") (table criterion_table)
    (member (codes "depth") (number 5)
    (member (codes "dim") (number 2)
    (member (codes "solver") (string (codes "diffuse"))
    (member (codes "steps") (number 20) no_members)))))))

-- the document of demonstration `n`: these, its fills and its boxes
abbrev pub document : ℕ → Members
document n = member (codes "fill") (array (tables (map fill_table (demo n).fills)))
    (member (codes "refine") (array (tables (map zone_table (demo n).shape.zones))) fixed_keys)

-- the plan of a demonstration is what its document means
abbrev pub IsOfDocument : Type 0
IsOfDocument = (n : ℕ) → plan_of_tree (Some (document n)) ≡ Ok (demo n)
