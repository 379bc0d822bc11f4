-- What was told to a visitor so far, and what the records of a store are by it.
use Rattle.std.specs.Prelude.{◌≡◌, ℕ, ◌<◌, List, [], ◌∷◌, ◌++◌, Option, Some, None}
use Rattle.peano_keys.specs.declared.cell.CellKey.{CellKey}
use Rattle.peano_keys.specs.declared.vertex.VertexKey.{VertexKey}
use Rattle.peano_keys.specs.Dim.{corners}
use Rattle.peano_keys.specs.Vertex.{corner_of}
use Rattle.peano_records.specs.declared.stored.Stored.{Stored}
use Rattle.peano_records.specs.declared.view.CellView.{CellView}
use Rattle.peano_records.specs.declared.view.Corner.TheVariants.{Vertex}
use Rattle.peano_records.specs.Tells.{corner_at}
use Rattle.vertex_stacks.specs.declared.tale.Tale.{Tale}
use Rattle.sweep_visits.specs.Plan.{dim_of}
use Rattle.sweep_visits.specs.Visits.{Visit, leave}
use Rattle.sweep_visits.specs.Runs.{next_in_run}
use Rattle.sweep_visits.specs.Moves.{Passing}
use Rattle.tree_automaton.specs.Sweep.{TreeSweep}
use Rattle.tree_automaton.specs.Views.{VertexFits}

-- one call of a visitor: at which visit, and the view before it and after it
pub record Call : Type 0 where
  pub visit : Visit
  pub given : CellView
  pub made : CellView

-- a sweep so far: what it is, the input and the tale as it began, and the calls that were made
pub record Story : Type 0 where
  pub sweep : TreeSweep
  pub start : List Stored
  pub tale : Tale
  pub calls : List Call

-- the story goes on
abbrev pub with_calls : Story → List Call → Story
with_calls m calls = record m { calls = m.calls ++ calls }

-- a list has an item
pub record IsAmong {A : Type 0} (x : A) (xs : List A) : Type 0 where
  pub before : List A
  pub after : List A
  pub place : xs ≡ before ++ x ∷ after

-- a cell was left with this record at a corner; from there the vertex goes to a cell, or to the output where that is none
pub record WasLeft (m : Story) (w : VertexKey) (to : Option CellKey) (s : Stored) : Type 0 where
  pub call : Call
  pub among : IsAmong call m.calls
  pub cell : CellKey
  pub visit : call.visit ≡ leave cell
  pub next : next_in_run m.sweep.plan w cell ≡ to
  pub number : ℕ
  pub below : number < corners (dim_of m.sweep.plan)
  pub place : corner_of cell number ≡ w
  pub corner : corner_at call.made number ≡ Vertex s

-- a vertex of the input, as the sweep began
pub record IsOfInput (m : Story) (w : VertexKey) (s : Stored) : Type 0 where
  pub key : s.key ≡ w
  pub fits : VertexFits m.sweep s
  pub among : IsAmong s m.start

-- a vertex on a lane, as the cell before left it
pub record IsOnLane (m : Story) (x : Passing) (s : Stored) : Type 0 where
  pub key : s.key ≡ x.vertex
  pub fits : VertexFits m.sweep s
  pub left : WasLeft m x.vertex (Some x.cell) s

-- a vertex of the output, as the last cell of its run left it
pub record IsOfOutput (m : Story) (w : VertexKey) (s : Stored) : Type 0 where
  pub key : s.key ≡ w
  pub fits : VertexFits m.sweep s
  pub left : WasLeft m w None s

-- lists whose items stand in a relation, one by one
abbrev pub Matched : {A B : Type 0} → (A → B → Type 0) → List A → List B → Type 0
Matched R [] [] = Unit {0}
Matched R (a ∷ as_) (b ∷ bs) = R a b × Matched R as_ bs
Matched R _ _ = ⊥
