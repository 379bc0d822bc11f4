-- What a sweep asks of a store, and what it gives.
use Rattle.std.specs.Prelude.{◌≡◌, ℕ, ◌<◌, ◌≤◌, ◌-◌, ◌||◌, if◌then◌else◌, true, false, List, [], ◌∷◌, ◌++◌, map, reverse, length, count_by, Option, Some, None, pos, ◌≤ℤ◌}
use Rattle.peano_keys.specs.declared.cell.CellKey.{CellKey}
use Rattle.peano_keys.specs.declared.vertex.VertexKey.{VertexKey}
use Rattle.peano_keys.specs.declared.state.State.{State}
use Rattle.peano_keys.specs.Dim.{corners, children}
use Rattle.peano_keys.specs.Vertex.{corner_of}
use Rattle.peano_keys.specs.Grid.{has_cell, is_refined}
use Rattle.peano_keys.specs.Cell.{parent_of}
use Rattle.peano_curve.specs.Order.{place_along}
use Rattle.peano_records.specs.Tells.{corner_at}
use Rattle.peano_records.specs.declared.stored.Stored.{Stored}
use Rattle.peano_records.specs.declared.view.CellView.{CellView}
use Rattle.vertex_stacks.specs.declared.kind.Kind.{Kind}
use Rattle.vertex_stacks.specs.declared.tale.Tale.{Tale}
use Rattle.vertex_stacks.specs.Notes.{Note}
use Rattle.vertex_stacks.specs.Tales.{capped, with_note}
use Rattle.sweep_visits.specs.Plan.{SweepPlan, dim_of, is_cell_in, is_opened}
use Rattle.sweep_visits.specs.Visits.{Visit, enter, leave, visits_of, from_child}
use Rattle.sweep_visits.specs.Moves.{moves_of, taken_by, put_by}
use Rattle.sweep_streams.specs.Counts.{pushed_by}
use Rattle.sweep_streams.specs.Records.{read_by, written_by, turned_plan}
use Rattle.tree_automaton.specs.declared.kinds.Serves.{Serves}
use Rattle.tree_automaton.specs.declared.kinds.Serves.TheVariants.{Raising, Adapting, Plain}
use Rattle.tree_automaton.specs.TreeLists.{TreeLists}
use Rattle.tree_automaton.specs.Sweep.{TreeSweep, IsTreeSweep, served_by, record_in, is_owned_leaf, cell_visits}
use Rattle.tree_automaton.specs.Promises.{Keeps, MayEnter, MayLeave, Meaning}
use Rattle.tree_automaton.specs.Story.{Call, IsAmong, Story, IsOfOutput, Matched, with_calls}
use Rattle.tree_automaton.specs.Noted.{note_of}
use Rattle.tree_automaton.specs.Moments.{IsDuring, IsStoreOf, flag_of, records_of}
use Rattle.tree_automaton.specs.Views.{VertexFits, ViewFits, ViewGiven, value_at_home}
use Rattle.tree_automaton.specs.Visits.{IsBefore, CornerTaken}

-- the visit of a call
abbrev pub visit_of : Call → Visit
visit_of call = call.visit

module _ {A : Type 0} (entered left : A → CellView → CellView → A → Type 0) where
  -- a call stands in the relation of its visit
  abbrev pub Stands : Visit → CellView → CellView → A → A → Type 0
  Stands (enter c) given made a b = entered a given made b
  Stands (leave c) given made a b = left a given made b

  -- calls one after another, from one state of a visitor to another
  abbrev pub Chain : List Call → A → A → Type 0
  Chain [] a b = a ≡ b
  Chain (call ∷ calls) a b = (m : A) × Stands call.visit call.given call.made a m × Chain calls m b

-- the visitor left this view at the enter of a cell
pub record WasEntered (m : Story) (c : CellKey) (view : CellView) : Type 0 where
  pub call : Call
  pub among : IsAmong call m.calls
  pub visit : call.visit ≡ enter c
  pub same : view ≡ call.made

-- below the root a cell carries a value of its parent's view, as the visitor left that at the parent's enter
abbrev pub CarriesOfParent : Story → CellKey → State → Type 0
CarriesOfParent m c carried = 0 < c.level
    → (parent : CellView) × WasEntered m (parent_of c) parent
    × (carried ≡ value_at_home (dim_of m.sweep.plan) parent)

-- a call at the enter of a cell: the vertices of its view are as they were left last, and are changed as the kind allows
pub record IsEntered (m : Story) (c : CellKey) (given made : CellView) : Type 0 where
  pub view : ViewGiven m.sweep c given
  pub taken : (n : ℕ) → n < corners (dim_of m.sweep.plan)
      → CornerTaken m c (corner_of c n) (corner_at given n)
  pub carries : CarriesOfParent m c given.carried
  pub keeps : Keeps given made
  pub may : MayEnter m.sweep.serves m.sweep.plan.new given made

-- a call at the leave of a cell: its view is the one that the visitor left at the enter
pub record IsLeft (m : Story) (c : CellKey) (given made : CellView) : Type 0 where
  pub view : ViewFits m.sweep c given
  pub entered : WasEntered m c given
  pub keeps : Keeps given made
  pub may : MayLeave m.sweep.serves m.sweep.plan.new given made

-- a call fits what came before it: at the enter of a cell, or at its leave
abbrev pub CallFits : Story → Visit → CellView → CellView → Type 0
CallFits m (enter c) given made = IsEntered m c given made
CallFits m (leave c) given made = IsLeft m c given made

-- each call fits what came before it
abbrev pub AllCallsFit : Story → List Call → Type 0
AllCallsFit m [] = Unit {0}
AllCallsFit m (call ∷ calls) = CallFits m call.visit call.given call.made
    × AllCallsFit (with_calls m (call ∷ [])) calls

-- the visitor's new grid is the sweep's
abbrev pub GridsAgree : Serves → TreeSweep → Meaning → Type 0
GridsAgree Raising p m = p.plan.new ≡ m.new_grid
GridsAgree Adapting p m = p.plan.new ≡ m.new_grid
GridsAgree Plain p m = Unit {0}

-- a visitor is one for a sweep
pub record IsFor (p : TreeSweep) (m : Meaning) : Type 0 where
  pub serves : m.serves ≡ p.serves
  pub dim : m.dim ≡ dim_of p.plan
  pub grids : GridsAgree p.serves p m

-- the view of a parent is as the visitor left it at the parent's enter
abbrev pub ParentWasEntered : Story → CellKey → Option CellView → Type 0
ParentWasEntered m c None = Unit {0}
ParentWasEntered m c (Some view) = WasEntered m (parent_of c) view

-- what the walk of a cell and all below it asks: a cell of one of the grids, whose visits come next
pub record WalkAsks (m : Story) (meaning : Meaning) (made more : List Visit)
    (parent : Option CellView) (c : CellKey) (kind : Kind) (s : TreeLists) : Type 0 where
  pub before : IsBefore m.sweep parent c kind s
  pub above : ParentWasEntered m c parent
  pub for_sweep : IsFor m.sweep meaning
  pub cell : (is_cell_in m.sweep.plan.old c || has_cell m.sweep.plan.new c) ≡ true
  pub during : IsDuring m made (cell_visits m.sweep.plan c ++ more) s

-- the visits of all below a cell
abbrev pub visits_below : SweepPlan → CellKey → List Visit
visits_below p c = if is_opened p c
    then from_child (dim_of p) p.dir (cell_visits p) c 0 (children (dim_of p)) else []

-- the visits of a child, the siblings after it and all below them
abbrev pub visits_rest : SweepPlan → CellKey → List Visit
visits_rest p c = from_child (dim_of p) p.dir (cell_visits p) (parent_of c)
    (place_along p.dir (dim_of p) c) (children (dim_of p) - place_along p.dir (dim_of p) c)

-- what the walk of some visits below a cell asks
pub record BelowAsks (m : Story) (meaning : Meaning) (made more : List Visit) (c : CellKey)
    (view : CellView) (visits : List Visit) (kind : Kind) (s : TreeLists) : Type 0 where
  pub served : served_by kind ≡ m.sweep.serves
  pub sweep : IsTreeSweep m.sweep
  pub of : IsStoreOf m.sweep s
  pub for_sweep : IsFor m.sweep meaning
  pub view_is : ViewFits m.sweep c view
  pub entered : WasEntered m c view
  pub during : IsDuring m made (visits ++ more) s

-- what visits give: a chain of calls at the visits, and the store after them
pub record VisitsGive {A : Type 0} (entered left : A → CellView → CellView → A → Type 0) (m : Story)
    (made visits more : List Visit) (t : TreeLists) (x y : A) : Type 0 where
  pub calls : List Call
  pub visits_are : map visit_of calls ≡ visits
  pub chain : Chain entered left calls x y
  pub fit : AllCallsFit m calls
  pub of : IsStoreOf m.sweep t
  pub during : IsDuring (with_calls m calls) (made ++ visits) more t

-- a sweep of one grid, with a visitor that wants no memory, in a store that has room for all that it moves
pub record HasRoom (p : TreeSweep) (meaning : Meaning) (s : TreeLists) : Type 0 where
  pub plain : p.serves ≡ Plain
  pub wants_none : meaning.may_want ≡ false
  pub vertices : pos 0 ≤ℤ s.lanes.spare
  pub cells : length (written_by p.plan) ≤ s.cell_room

-- room stays: for cell records always, for vertices in a plain sweep
pub record KeepsRoom (kind : Kind) (s t : TreeLists) : Type 0 where
  pub cells : s.cell_room ≤ t.cell_room
  pub vertices : served_by kind ≡ Plain → s.lanes.spare ≤ℤ t.lanes.spare

-- a store that is not live stays so
abbrev pub StaysNotLive : TreeLists → TreeLists → Type 0
StaysNotLive s t = s.live ≡ false → t.live ≡ false

-- the vertex of a record
abbrev pub key_of : Stored → VertexKey
key_of s = s.key

-- each record fits a sweep
abbrev pub AllFit : TreeSweep → List Stored → Type 0
AllFit p [] = Unit {0}
AllFit p (v ∷ vs) = VertexFits p v × AllFit p vs

-- no lane holds a vertex
abbrev pub no_lanes : List (List Stored)
no_lanes = [] ∷ [] ∷ [] ∷ [] ∷ [] ∷ [] ∷ []

-- a live store at rest, before a sweep
pub record IsAtRestFor (p : TreeSweep) (s : TreeLists) : Type 0 where
  pub of : IsStoreOf p s
  pub live : s.live ≡ true
  pub cells : s.cells ≡ map (record_in p) (read_by p.plan)
  pub written : s.written ≡ []
  pub input : map key_of s.lanes.input ≡ taken_by (moves_of p.plan)
  pub fits : AllFit p s.lanes.input
  pub output : s.lanes.output ≡ []
  pub lanes : s.lanes.lanes ≡ no_lanes
  pub taken : s.lanes.taken ≡ 0
  pub put : s.lanes.put ≡ 0
  pub pushed : s.lanes.pushed ≡ 0
  pub counted : s.counted ≡ 0
  pub stored : s.stored ≡ capped (length s.lanes.input)

-- what a sweep asks
pub record SweepAsks (p : TreeSweep) (meaning : Meaning) (kind : Kind)
    (s : TreeLists) : Type 0 where
  pub served : served_by kind ≡ p.serves
  pub sweep : IsTreeSweep p
  pub for_sweep : IsFor p meaning
  pub rest : IsAtRestFor p s

-- a sweep as it begins
abbrev pub begun : TreeSweep → List Stored → Tale → Story
begun p start tale = record { sweep = p; start = start; tale = tale; calls = [] }

-- What a sweep gives: a chain of calls at all visits in order, each with a view that fits; the note of what was moved; and a store of what was left last,
-- which is read from its end, the other way.
pub record SweepGives {A : Type 0} (entered left : A → CellView → CellView → A → Type 0)
    (p : TreeSweep) (step : ℕ) (kind : Kind) (start : List Stored) (tale : Tale) (t : TreeLists)
    (x y : A) (note : Note) : Type 0 where
  pub calls : List Call
  pub visits_are : map visit_of calls ≡ visits_of p.plan
  pub chain : Chain entered left calls x y
  pub fit : AllCallsFit (begun p start tale) calls
  pub note_is : note ≡ note_of p.plan kind step p.tree
  pub cells : t.cells ≡ reverse (records_of calls)
  pub flags : map flag_of (reverse t.cells) ≡ map (is_refined p.plan.new) (written_by p.plan)
  pub written : t.written ≡ []
  pub input : Matched (IsOfOutput (with_calls (begun p start tale) calls))
      (put_by (moves_of p.plan)) (reverse t.lanes.input)
  pub output : t.lanes.output ≡ []
  pub lanes : t.lanes.lanes ≡ no_lanes
  pub taken : t.lanes.taken ≡ 0
  pub put : t.lanes.put ≡ 0
  pub pushed : t.lanes.pushed ≡ 0
  pub tale_is : t.lanes.tale ≡ with_note tale note
  pub of : IsStoreOf (record p { plan = turned_plan p.plan }) t
  pub live : t.live ≡ true
  pub stored : t.stored ≡ capped (length (put_by (moves_of p.plan)))
  pub leaves : t.leaves ≡ capped (count_by (is_owned_leaf p.plan) (written_by p.plan))
  pub counted : t.counted ≡ 0
