-- What a solver makes of the leaf of a view, and the least leaf of which it makes nothing.
use Rattle.std.specs.Prelude.{◌≡◌, ℕ, ◌≤◌, false, Option, Some, None, if◌then◌else◌}
use Rattle.std.specs.Ordering.{is_lt}
use Rattle.peano_keys.specs.declared.cell.CellKey.{CellKey}
use Rattle.peano_keys.specs.declared.dim.Dim.{Dim}
use Rattle.peano_keys.specs.declared.state.State.{State}
use Rattle.peano_keys.specs.declared.side.Mark.{Mark}
use Rattle.peano_keys.specs.Cell.{key_cmp}
use Rattle.peano_records.specs.declared.view.CellView.{CellView}
use Rattle.curve_cuts.specs.Cuts.{Cuts, Owns}
use Rattle.solver_api.specs.Parts.{HaveParts}
use Rattle.solver_api.specs.Step.{UpdateRule, MarkRule, IsLeafOf, new_state, marks_of}
use Rattle.peano_keys.specs.Grid.{Spacetree}
use Rattle.peano_keys.specs.Field.{States}
use Rattle.step_phases.specs.Change.{Change}
use Rattle.tree_automaton.specs.Views.{value_at_home}

-- how many values the states of a solver have, and its new states and marks
pub record Kernel : Type 0 where
  pub parts : ℕ
  pub updated : UpdateRule
  pub marked : MarkRule

-- the kernel of a solver, by what its trait tells of it
abbrev pub kernel_by : {S : Type 0} → (S → ℕ) → (S → UpdateRule) → (S → MarkRule) → S → Kernel
kernel_by parts updated marked s =
    record { parts = parts s; updated = updated s; marked = marked s }

-- the new state of a leaf from its view: from its value at the home corner, its sides and its level
abbrev pub new_in : Kernel → Dim → CellView → Option State
new_in k dim v = k.updated (value_at_home dim v) v.sides v.key.level

-- and its mark
abbrev pub mark_in : Kernel → Dim → CellView → Mark
mark_in k dim v = k.marked (value_at_home dim v) v.sides v.key.level

-- a view of a leaf that a tree owns
pub record IsOwnLeaf (cuts : Cuts) (tree : ℕ) (v : CellView) : Type 0 where
  pub leaf : v.was ≡ Some false
  pub level : v.key.level ≤ cuts.depth
  pub owns : Owns cuts tree v.key

-- of which the states have the kernel's number of values
abbrev pub HasParts : Kernel → Dim → CellView → Type 0
HasParts k dim v = HaveParts k.parts (value_at_home dim v) v.sides

-- the least of a leaf and one that was found before, in key order
abbrev pub least_of : Option CellKey → CellKey → CellKey
least_of None c = c
least_of (Some b) c = if is_lt (key_cmp c b) then c else b

-- the least leaf that has no new state, with one leaf more
abbrev pub failing_with : Option CellKey → CellKey → Option State → Option CellKey
failing_with found c (Some s) = found
failing_with found c None = Some (least_of found c)

-- a change of a grid by a kernel: its marks, and the new values of leaves, are the kernel's on the field
pub record IsChangeBy (k : Kernel) (g : Spacetree) (f : States) (w : Change) : Type 0 where
  pub old : w.old ≡ g
  pub marks : (c : CellKey) → IsLeafOf g c → w.mark c ≡ marks_of k.marked g f c
  pub leaves : (c : CellKey) → IsLeafOf g c → w.next c ≡ new_state k.updated g f c
