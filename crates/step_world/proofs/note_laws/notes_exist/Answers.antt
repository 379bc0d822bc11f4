use Rattle.step_world.proofs.Notes.{notes_exist}
use Rattle.step_world.proofs.note_laws.notes_exist.Goals as goal

pub returns : goal.returns
returns c = notes_exist
