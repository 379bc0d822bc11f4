use Rattle.std.proofs.Common.{ℕ, ◌<◌}
use Rattle.peano_keys.specs.Vertex.{corner_of}
use Rattle.peano_records.specs.Tells.{corner_at}
use Rattle.curve_cuts.specs.Keys.{cuts_of}
use Rattle.enclave_marks.specs.Corners.{ShowsBorder}
use Rattle.enclave_marks.proofs.enclave.is_enclave.Given as goal

abbrev pub invariant-loop-n : goal.invariant-loop-n
invariant-loop-n l = (m : ℕ) → m < l.n → ¬ ShowsBorder (cuts_of l.keys) l.tree (corner_of l.view.key m) (corner_at l.view m)
