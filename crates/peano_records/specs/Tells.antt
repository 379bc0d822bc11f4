-- What a slot tells of its cell in an adaptation, in the old grid and in the new one.
use Rattle.std.specs.Prelude.{ℕ, Bool, true, false, slice_index_or}
use Rattle.peano_records.specs.declared.slot.Slot.{Slot}
use Rattle.peano_records.specs.declared.slot.Status.{Status}
use Rattle.peano_records.specs.declared.slot.Status.TheVariants.{Unset, Outside, Leaf, Refined}
use Rattle.peano_records.specs.declared.slot.Intent.{Intent}
use Rattle.peano_records.specs.declared.slot.Intent.TheVariants.{Stay, Split, Merge}
use Rattle.peano_records.specs.declared.view.Corner.{Corner}
use Rattle.peano_records.specs.declared.view.Corner.TheVariants.{Beyond}
use Rattle.peano_records.specs.declared.view.CellView.{CellView}

-- whether a status says that a cell is refined
abbrev pub says_refined : Status → Bool
says_refined Unset = false
says_refined Outside = false
says_refined Leaf = false
says_refined Refined = true

-- whether intent and status tell that a cell is refined, in the old grid or, with `after`, in the new one: the status counts where the cell is to stay
abbrev pub tells_refined : Bool → Intent → Status → Bool
tells_refined after Stay status = says_refined status
tells_refined false Split status = false
tells_refined true Split status = true
tells_refined false Merge status = true
tells_refined true Merge status = false

-- the same of a slot
abbrev pub slot_tells : Bool → Slot → Bool
slot_tells after s = tells_refined after s.intent s.status

-- corner number `n` of a view
abbrev pub corner_at : CellView → ℕ → Corner
corner_at view n = slice_index_or view.corners n Beyond
