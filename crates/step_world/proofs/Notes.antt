-- Notes and evaluations.
use Rattle.std.proofs.Common.{zero, suc, refl, ◌++◌}
use Rattle.step_world.specs.Notes.{NotesAreOfEvaluation, NotesExist, by_trees, note_raised, recut_notes, showing_notes, step_notes}

pub notes_are_of_evaluation : NotesAreOfEvaluation
notes_are_of_evaluation z r updated marked g f zero h a ns has = (has.0, has.1)
notes_are_of_evaluation z r updated marked g f (suc n) h a ns has = (has.0, has.1, notes_are_of_evaluation z r updated marked g f n has.0 has.1 has.2 has.3, has.4)

pub notes_exist : NotesExist
notes_exist z r updated marked g f zero h a e = (by_trees r.trees (note_raised (z 0) 0 g) ++ showing_notes (z 0) r 0 g, (e.0, e.1, refl))
notes_exist z r updated marked g f (suc n) h a e =
    let before = notes_exist z r updated marked g f n e.0 e.1 e.2 in
    (before.0 ++ step_notes (z n) r (suc n) e.0 h ++ (recut_notes (z n) (z (suc n)) r (suc n) h ++ showing_notes (z (suc n)) r (suc n) h), (e.0, e.1, before.0, before.1, e.3, refl))
