-- Laws of stores at rest.
use Rattle.std.specs.Prelude.{◌≡◌, ℕ, ◌<◌, true, List, length, slice_index_or}
use Rattle.peano_keys.specs.declared.dim.Dim.{Dim}
use Rattle.peano_keys.specs.declared.cell.CellKey.{CellKey}
use Rattle.peano_keys.specs.declared.state.State.{State}
use Rattle.peano_keys.specs.declared.vertex.VertexKey.{VertexKey}
use Rattle.peano_keys.specs.Cell.{IsCell, triple}
use Rattle.peano_keys.specs.Grid.{Spacetree, is_refined, has_cell}
use Rattle.peano_keys.specs.Field.{States, value_of}
use Rattle.peano_records.specs.Slots.{VertexRecord, fresh}
use Rattle.peano_records.specs.AtRest.{IsAtRest, IsBeforeAdapting}
use Rattle.curve_cuts.specs.Cuts.{Cuts, Owns, HasVertex, IsCutGrid}
use Rattle.step_phases.specs.Stores.{Store, Stores, Says, TreeSays, AllSay, home_slot}
use Rattle.step_phases.specs.Change.{Change}
use Rattle.step_phases.specs.Phases.{AtRest, AfterSecond}

-- what two grids and the values of their cells have in common at a cell of the first
pub record IsSameCell (g h : Spacetree) (f e : CellKey → State) (c : CellKey) : Type 0 where
  pub there : has_cell h c ≡ true
  pub refined : is_refined g c ≡ is_refined h c
  pub value : f c ≡ e c

-- stores at rest stand for one grid and for one value of each of its cells
abbrev pub RestIsOne : Type 0
RestIsOne = (k : Cuts) (g h : Spacetree) (f e : CellKey → State) (stores : Stores) → IsCutGrid k g
    → IsCutGrid k h → AllSay k g (λ t. AtRest g f) stores → AllSay k h (λ t. AtRest h e) stores
    → (c : CellKey) → IsCell k.dim c → has_cell g c ≡ true → IsSameCell g h f e c

-- and for each grid and its values there are stores at rest
abbrev pub RestExists : Type 0
RestExists = (k : Cuts) (g : Spacetree) (f : CellKey → State)
    → (stores : Stores) × AllSay k g (λ t. AtRest g f) stores

-- at rest a tree sees the value of each of its own cells at the home corner
abbrev pub HomesShowValues : Type 0
HomesShowValues =
    (k : Cuts) (g : Spacetree) (f : CellKey → State) (store : Store) (t : ℕ) (c : CellKey)
    → IsCutGrid k g → TreeSays k g t (AtRest g f) store → Owns k t c → IsCell k.dim c
    → has_cell g c ≡ true → (home_slot k.dim store c).value ≡ f c

-- a record that says what is so at rest is one at rest
abbrev pub RestIsRecord : Type 0
RestIsRecord = (g : Spacetree) (f : States) (v : VertexKey) (r : VertexRecord)
    → Says g.dim v (AtRest g (value_of g f)) r → IsAtRest g f r

-- one that says what is so after the second exchange is one before an adaptation
abbrev pub SecondIsRecord : Type 0
SecondIsRecord = (w : Change) (v : VertexKey) (r : VertexRecord)
    → Says w.old.dim v (AfterSecond w) r → IsBeforeAdapting w.old w.new r

-- record number `i` of a list
abbrev pub record_at : Dim → List VertexRecord → ℕ → VertexRecord
record_at dim records i =
    slice_index_or records i (fresh dim (record { level = 0; v = triple 0 0 0 }))

-- a list has the tree's copies, each once, and nothing else
pub record ListsStore (k : Cuts) (g : Spacetree) (t : ℕ) (records : List VertexRecord)
    (store : Store) : Type 0 where
  pub has : (v : VertexKey) → HasVertex k g t v
      → (i : ℕ) × (i < length records) × (record_at k.dim records i ≡ store v)
  pub only : (i : ℕ) → i < length records
      → HasVertex k g t (record_at k.dim records i).key
      × (store (record_at k.dim records i).key ≡ record_at k.dim records i)
  pub once : (i j : ℕ) → i < length records → j < length records
      → (record_at k.dim records i).key ≡ (record_at k.dim records j).key → i ≡ j

-- where a tree's store is at rest, each record of its list is
abbrev pub ListRests : Type 0
ListRests =
    (k : Cuts) (g : Spacetree) (f : States) (t : ℕ) (records : List VertexRecord) (store : Store)
    → IsCutGrid k g → ListsStore k g t records store
    → TreeSays k g t (AtRest g (value_of g f)) store → (i : ℕ) → i < length records
    → IsAtRest g f (record_at k.dim records i)

-- and where each is, with the copies under their keys, the store is
abbrev pub RestFromList : Type 0
RestFromList =
    (k : Cuts) (g : Spacetree) (f : States) (t : ℕ) (records : List VertexRecord) (store : Store)
    → IsCutGrid k g → ListsStore k g t records store
    → ((v : VertexKey) → HasVertex k g t v → (store v).key ≡ v)
    → ((i : ℕ) → i < length records → IsAtRest g f (record_at k.dim records i))
    → TreeSays k g t (AtRest g (value_of g f)) store
