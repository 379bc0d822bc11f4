-- What stands in a document: its tree, numbers in a range, arrays, texts, tables and lists of tables.
use Rattle.std.specs.Prelude.{ℕ, suc, ℤ, pos, negsuc, Bool, true, false, ◌&&◌, List, Option, Some, None, nat_le, if◌then◌else◌, option_map, option_and_then, nat_eq}
use Rattle.std.specs.Borrow.{Bor}
use Rattle.std.specs.Str.{is_utf8}
use lib.Pointwise.{pointwise}
use Rattle.toml.specs.Data.{Data, Items, Members, as_integer, as_str, as_array, as_table, no_items, item}
use Rattle.toml.specs.Parse.{parse_document}
use Rattle.toml.specs.View.{view}
use Rattle.toml.specs.declared.value.Value.{Value}
use Rattle.grid_file.specs.declared.limits.TheConstants.{MOST_TABLES}

-- the tree of the bytes, none where they are no text or no document
abbrev pub tree_of : List ℕ → Option Members
tree_of bytes = if is_utf8 bytes then parse_document bytes else None

-- what the program has found in a tree, if anything, as definitions see it
abbrev pub seen : Option (Bor Value) → Option Data
seen found = option_map (λ v. view v.now) found

-- the number itself where it is a whole one from `low` to `high`
abbrev pub whole_in : ℕ → ℕ → ℤ → Option ℕ
whole_in low high (pos n) = if nat_le low n && nat_le n high then Some n else None
whole_in low high (negsuc n) = None

-- an integer from `low` to `high`
abbrev pub number_in : ℕ → ℕ → Option Data → Option ℕ
number_in low high None = None
number_in low high (Some d) = option_and_then (whole_in low high) (as_integer d)

-- an integer from `low` to `high`, or another number where the key is absent
abbrev pub number_or : ℕ → ℕ → ℕ → Option Data → Option ℕ
number_or default low high None = Some default
number_or default low high (Some d) = number_in low high (Some d)

-- whether two texts have the same bytes
abbrev pub same_text : List ℕ → List ℕ → Bool
same_text s t = pointwise nat_eq s t

-- the items, where what stands there is an array
abbrev pub items_at : Option Data → Option Items
items_at d = option_and_then as_array d

-- the text, where what stands there is one
abbrev pub string_at : Option Data → Option (List ℕ)
string_at d = option_and_then as_str d

-- the table, where what stands there is one
abbrev pub table_at : Option Data → Option Members
table_at d = option_and_then as_table d

-- how many items a list has
abbrev pub count_items : Items → ℕ
count_items no_items = 0
count_items (item d rest) = suc (count_items rest)

-- whether there is a table
abbrev pub is_table : Option Members → Bool
is_table None = false
is_table (Some t) = true

-- whether each item is one
abbrev pub are_tables : Items → Bool
are_tables no_items = true
are_tables (item d rest) = is_table (as_table d) && are_tables rest

-- at most a thousand tables
abbrev pub tables_within : Items → Option Items
tables_within items =
    if are_tables items && nat_le (count_items items) MOST_TABLES then Some items else None

-- `fill` and `refine`: absent, or an array of at most a thousand tables
abbrev pub list_in : Option Data → Option Items
list_in None = Some no_items
list_in (Some d) = option_and_then tables_within (items_at (Some d))
