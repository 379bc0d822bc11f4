-- What a sweep did to a vertex's record, cell after cell of its run.
use Rattle.std.specs.Prelude.{◌≡◌, ◌⊎◌, ℕ, ◌<◌, List, [], ◌∷◌, Option, Some, None}
use Rattle.peano_keys.specs.declared.cell.CellKey.{CellKey}
use Rattle.peano_keys.specs.declared.vertex.VertexKey.{VertexKey}
use Rattle.peano_keys.specs.Dim.{corners}
use Rattle.peano_keys.specs.Vertex.{corner_of}
use Rattle.peano_records.specs.declared.stored.Stored.{Stored}
use Rattle.peano_records.specs.declared.view.Corner.TheVariants.{Vertex}
use Rattle.peano_records.specs.Slots.{fresh}
use Rattle.peano_records.specs.Tells.{corner_at}
use Rattle.vertex_stacks.specs.declared.tale.Tale.{Tale}
use Rattle.sweep_visits.specs.Plan.{dim_of}
use Rattle.sweep_visits.specs.Visits.{enter, leave}
use Rattle.sweep_visits.specs.Runs.{next_in_run, previous_in_run}
use Rattle.tree_automaton.specs.Sweep.{TreeSweep}
use Rattle.tree_automaton.specs.Promises.{Keeps, MayEnter, MayLeave}
use Rattle.tree_automaton.specs.Story.{Call, Story, IsAmong, IsOfInput, WasLeft, with_calls}
use Rattle.tree_automaton.specs.Views.{ViewFits, ViewGiven}
use Rattle.tree_automaton.specs.Sweeps.{AllCallsFit, begun}

-- what the two calls at a cell made of the record at one of its corners
pub record CellChanged (m : Story) (c : CellKey) (n : ℕ) (s t : Stored) : Type 0 where
  pub entering : Call
  pub entering_among : IsAmong entering m.calls
  pub enters : entering.visit ≡ enter c
  pub view : ViewGiven m.sweep c entering.given
  pub keeps : Keeps entering.given entering.made
  pub may : MayEnter m.sweep.serves m.sweep.plan.new entering.given entering.made
  pub given : corner_at entering.given n ≡ Vertex s
  pub between : Stored
  pub kept : corner_at entering.made n ≡ Vertex between
  pub leaving : Call
  pub leaving_among : IsAmong leaving m.calls
  pub leaves : leaving.visit ≡ leave c
  pub same : leaving.given ≡ entering.made
  pub view_left : ViewFits m.sweep c leaving.given
  pub keeps_left : Keeps leaving.given leaving.made
  pub may_left : MayLeave m.sweep.serves m.sweep.plan.new leaving.given leaving.made
  pub made : corner_at leaving.made n ≡ Vertex t

-- a vertex's record as it comes to the first cell of its run: one of the input, or a new one
abbrev pub IsFirstRecord : Story → VertexKey → Stored → Type 0
IsFirstRecord m w s = IsOfInput m w s ⊎ (s ≡ fresh (dim_of m.sweep.plan) w)

-- one cell of a vertex's run: at which corner the vertex is, and its record before and after
pub record Stop : Type 0 where
  pub cell : CellKey
  pub number : ℕ
  pub before : Stored
  pub after : Stored

-- the calls at a cell made of the vertex's record what a stop says
pub record IsStop (m : Story) (w : VertexKey) (stop : Stop) : Type 0 where
  pub below : stop.number < corners (dim_of m.sweep.plan)
  pub place : corner_of stop.cell stop.number ≡ w
  pub changed : CellChanged m stop.cell stop.number stop.before stop.after

-- Stops, the last first, are the cells of a vertex's run up to one: each is the next in the run, each finds the record that the one before left, and the first one finds it in the input or new.
abbrev pub IsJourney : Story → VertexKey → Stop → List Stop → Type 0
IsJourney m w stop [] = IsStop m w stop × (previous_in_run m.sweep.plan w stop.cell ≡ None)
    × IsFirstRecord m w stop.before
IsJourney m w stop (earlier ∷ stops) = IsStop m w stop
    × (next_in_run m.sweep.plan w earlier.cell ≡ Some stop.cell) × (earlier.after ≡ stop.before)
    × IsJourney m w earlier stops

-- Each record that a sweep left at a cell came there along the run of its vertex, from the input or new.
abbrev pub EachRecordHasAJourney : Type 0
EachRecordHasAJourney = (p : TreeSweep) (start : List Stored) (tale : Tale) (calls : List Call)
    → AllCallsFit (begun p start tale) calls
    → (w : VertexKey) (to : Option CellKey) (s : Stored)
    (left : WasLeft (with_calls (begun p start tale) calls) w to s)
    → (number : ℕ) × (before : Stored) × (stops : List Stop)
    × IsJourney (with_calls (begun p start tale) calls) w
    (record { cell = left.cell; number = number; before = before; after = s }) stops
