use Rattle.step_world.proofs.Notes.{notes_are_of_evaluation}
use Rattle.step_world.proofs.note_laws.notes_are_of_evaluation.Goals as goal

pub returns : goal.returns
returns c = notes_are_of_evaluation
