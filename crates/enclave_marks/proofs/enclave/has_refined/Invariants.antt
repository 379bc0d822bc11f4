use Rattle.std.proofs.Common.{ℕ, ◌<◌}
use Rattle.enclave_marks.specs.Corners.{TellsRefined}
use Rattle.enclave_marks.proofs.enclave.has_refined.Given as goal

abbrev pub invariant-loop-k : goal.invariant-loop-k
invariant-loop-k l = (m : ℕ) → m < l.k → ¬ TellsRefined l.dim l.vertex l.stored m
