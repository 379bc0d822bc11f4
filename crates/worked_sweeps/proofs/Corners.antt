-- The corners of cells of the refined centre, computed.
use Rattle.std.proofs.Common.{refl}
use Rattle.worked_sweeps.specs.Corners.{MiddleLeaf, FirstLeaf, SecondLeaf, LastLeaf, RefinedCell, CutLeaf, MergedLeaf, SplitLeaf}

pub middle_leaf : MiddleLeaf
middle_leaf r h = ((rw h.centre refl, rw h.centre refl), (rw h.centre refl, rw h.centre refl))

pub first_leaf : FirstLeaf
first_leaf r h = ((rw (h.centre, h.high_middle, h.middle_high) refl, rw (h.centre, h.high_middle, h.middle_high) refl), (rw (h.centre, h.high_middle, h.middle_high) refl, rw (h.centre, h.high_middle, h.middle_high) refl))

pub second_leaf : SecondLeaf
second_leaf r h = ((rw (h.centre, h.high_middle) refl, rw (h.centre, h.high_middle) refl), (rw (h.centre, h.high_middle) refl, rw (h.centre, h.high_middle) refl))

pub last_leaf : LastLeaf
last_leaf r h = ((rw (h.centre, h.low_low, h.low_middle, h.middle_low) refl, rw (h.centre, h.low_low, h.low_middle, h.middle_low) refl), (rw (h.centre, h.low_low, h.low_middle, h.middle_low) refl, rw (h.centre, h.low_low, h.low_middle, h.middle_low) refl))

pub refined_cell : RefinedCell
refined_cell r h = ((rw h.root refl, rw h.root refl), (rw h.root refl, rw h.root refl))

pub cut_leaf : CutLeaf
cut_leaf r h = ((rw h.centre refl, rw h.centre refl), (rw h.centre refl, rw h.centre refl))

pub merged_leaf : MergedLeaf
merged_leaf r s old new = (rw old.centre refl, rw (old.centre, new.centre) refl)

pub split_leaf : SplitLeaf
split_leaf r s old new = (rw (old.centre, new.centre) refl, rw (old.centre, new.centre) refl)
