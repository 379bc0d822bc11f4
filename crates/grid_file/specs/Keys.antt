-- Keys of tables: what stands at one, which are listed for a part and which it needs; the version of a file; codes 2 and 3, in each table of a file.
use Rattle.std.specs.Prelude.{ℕ, Bool, true, false, not, List, [], ◌∷◌, ◌++◌, Option, Some, None, ◌+◌, ◌&&◌, ◌||◌, unwrap_or, is_none, is_some, if◌then◌else◌}
use Rattle.toml.specs.Data.{Data, Items, Members, as_table, get_member, no_items, item, no_members, member}
use Rattle.grid_file.specs.declared.place.Part.{Part}
use Rattle.grid_file.specs.declared.place.Part.TheVariants.{Document, Criterion, Fill, Refine}
use Rattle.grid_file.specs.declared.place.KeyName.{KeyName}
use Rattle.grid_file.specs.declared.place.KeyName.TheVariants as key
use Rattle.grid_file.specs.declared.version.Version.{Version}
use Rattle.grid_file.specs.declared.version.Version.TheVariants.{First, Second}
use Rattle.grid_file.specs.Places.{spelled, place_of}
use Rattle.grid_file.specs.Faults.{Check, check}
use Rattle.grid_file.specs.Tree.{same_text, number_in, table_at, list_in}

-- what stands at a key of a table
abbrev pub at_key : KeyName → Members → Option Data
at_key key t = get_member (spelled key) t

-- the version of a document: the second where its key `version` stands for the integer 2, else the first
abbrev pub version_of : Members → Version
version_of t = if is_some (number_in 2 2 (at_key key.Version t)) then Second else First

-- a key that is refused where it has no value of its form
abbrev pub key_check : {T : Type 0} → Part → ℕ → KeyName → Option T → Check
key_check part index key value = check (place_of part index key) (is_none value)

-- the tables of a list; a list that is not of its form is passed over
abbrev pub listed : Option Data → Items
listed d = unwrap_or (list_in d) no_items

-- the checks of one table, none where there is no table
abbrev pub in_table : (ℕ → Members → List Check) → ℕ → Option Members → List Check
in_table checks n None = []
in_table checks n (Some t) = checks n t

-- those of each table of a list, numbered
abbrev pub in_each : (ℕ → Members → List Check) → ℕ → Items → List Check
in_each checks n no_items = []
in_each checks n (item d rest) = in_table checks n (as_table d) ++ in_each checks (n + 1) rest

-- those of each table of a file: the document, its criterion, and the tables of its two lists
abbrev pub in_tables : (Part → ℕ → Members → List Check) → Members → List Check
in_tables checks t =
    checks Document 0 t
    ++ (in_table (checks Criterion) 0 (table_at (at_key key.Criterion t))
    ++ (in_each (checks Fill) 0 (listed (at_key key.Fill t))
    ++ in_each (checks Refine) 0 (listed (at_key key.Refine t))))

-- code 2: a key that is not listed for its table

-- the keys that each document may have
abbrev pub common_keys : List KeyName
common_keys =
    key.Dim ∷ key.Depth ∷ key.Base ∷ key.Solver ∷ key.Version ∷ key.A ∷ key.B ∷ key.Wind
    ∷ key.Criterion ∷ key.Fill ∷ key.Refine ∷ key.Edge ∷ key.EdgeValue ∷ key.Steps
    ∷ key.PrintEvery ∷ []

-- the keys that a document of a version may have: the second has one more
abbrev pub document_keys : Version → List KeyName
document_keys First = common_keys
document_keys Second = common_keys ++ key.RecutEvery ∷ []

-- the keys that a table may have; those of a document depend on its version
abbrev pub listed_keys : Part → Members → List KeyName
listed_keys Document t = document_keys (version_of t)
listed_keys Criterion t = key.Hi ∷ key.Lo ∷ key.Watch ∷ []
listed_keys Fill t = key.Level ∷ key.From ∷ key.To ∷ key.Value ∷ []
listed_keys Refine t = key.Level ∷ key.From ∷ key.To ∷ key.Until ∷ []
listed_keys _ t = []

-- whether a text is one of these keys
unfoldable pub is_among : List KeyName → List ℕ → Bool
is_among [] text = false
is_among (k ∷ keys) text = same_text (spelled k) text || is_among keys text

-- whether each key of a table is one of these
abbrev pub has_only : List KeyName → Members → Bool
has_only keys no_members = true
has_only keys (member k d rest) = is_among keys k && has_only keys rest

-- a table is refused as a whole where it has another key
abbrev pub unlisted : Part → ℕ → Members → List Check
unlisted part n t = check (place_of part n key.Whole) (not (has_only (listed_keys part t) t)) ∷ []

-- code 3: a needed key that is missing

-- the keys that a table needs
abbrev pub needed_keys : Part → List KeyName
needed_keys Document = key.Dim ∷ key.Depth ∷ key.Base ∷ key.Solver ∷ key.B ∷ key.Steps ∷ []
needed_keys Criterion = key.Hi ∷ key.Lo ∷ []
needed_keys Fill = key.Level ∷ key.From ∷ key.To ∷ key.Value ∷ []
needed_keys Refine = key.Level ∷ key.From ∷ key.To ∷ key.Until ∷ []
needed_keys _ = []

-- each of these keys is refused where it is missing
abbrev pub missing_among : List KeyName → Part → ℕ → Members → List Check
missing_among [] part n t = []
missing_among (k ∷ keys) part n t = key_check part n k (at_key k t) ∷ missing_among keys part n t

-- and so each key that a table needs
abbrev pub missing : Part → ℕ → Members → List Check
missing part n t = missing_among (needed_keys part) part n t
