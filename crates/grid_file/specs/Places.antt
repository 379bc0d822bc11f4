-- Keys as they are spelled, and the texts of places.
use Rattle.std.specs.Prelude.{ℕ, List, [], ◌++◌, codes}
use Rattle.std.specs.Fmt.{decimal}
use Rattle.grid_file.specs.declared.place.Part.{Part}
use Rattle.grid_file.specs.declared.place.Part.TheVariants.{Document, Criterion, FillList, Fill, RefineList, Refine}
use Rattle.grid_file.specs.declared.place.KeyName.{KeyName}
use Rattle.grid_file.specs.declared.place.KeyName.TheVariants.{Whole, Version, Dim, Depth, Base, Solver, A, B, Wind, Edge, EdgeValue, Steps, PrintEvery, RecutEvery, Hi, Lo, Watch, Level, From, To, Value, Until, Criterion as CriterionKey, Fill as FillKey, Refine as RefineKey}
use Rattle.grid_file.specs.declared.place.Place.{Place}

-- a key as it is spelled in a file; the whole of a part is no key
abbrev pub spelled : KeyName → List ℕ
spelled Whole = []
spelled Version = codes "version"
spelled Dim = codes "dim"
spelled Depth = codes "depth"
spelled Base = codes "base"
spelled Solver = codes "solver"
spelled A = codes "a"
spelled B = codes "b"
spelled Wind = codes "wind"
spelled Edge = codes "edge"
spelled EdgeValue = codes "edge_value"
spelled Steps = codes "steps"
spelled PrintEvery = codes "print_every"
spelled RecutEvery = codes "recut_every"
spelled Hi = codes "hi"
spelled Lo = codes "lo"
spelled Watch = codes "watch"
spelled Level = codes "level"
spelled From = codes "from"
spelled To = codes "to"
spelled Value = codes "value"
spelled Until = codes "until"
spelled CriterionKey = codes "criterion"
spelled FillKey = codes "fill"
spelled RefineKey = codes "refine"

-- the place of a key
abbrev pub place_of : Part → ℕ → KeyName → Place
place_of part index key = record { part = part; index = index; key = key }

-- the place of a key of the document
abbrev pub document_key : KeyName → Place
document_key key = place_of Document 0 key

-- the name of a part; a table of a list is named as its list
abbrev pub part_name : Part → List ℕ
part_name Document = codes "document"
part_name Criterion = spelled CriterionKey
part_name FillList = spelled FillKey
part_name Fill = spelled FillKey
part_name RefineList = spelled RefineKey
part_name Refine = spelled RefineKey

-- a number behind a name
abbrev pub numbered : List ℕ → ℕ → List ℕ
numbered name index = (name ++ codes " ") ++ decimal index

-- a key behind a name
abbrev pub with_key : List ℕ → KeyName → List ℕ
with_key name Whole = name
with_key name key = (name ++ codes " ") ++ spelled key

-- a key of the document stands alone
abbrev pub bare_key : KeyName → List ℕ
bare_key Whole = part_name Document
bare_key key = spelled key

-- the text of a key of a part; a list has no keys
abbrev pub text_in : Part → ℕ → KeyName → List ℕ
text_in Document index key = bare_key key
text_in Criterion index key = with_key (part_name Criterion) key
text_in FillList index key = part_name FillList
text_in Fill index key = with_key (numbered (part_name Fill) index) key
text_in RefineList index key = part_name RefineList
text_in Refine index key = with_key (numbered (part_name Refine) index) key

-- the text of a place
abbrev pub place_text : Place → List ℕ
place_text place = text_in place.part place.index place.key
