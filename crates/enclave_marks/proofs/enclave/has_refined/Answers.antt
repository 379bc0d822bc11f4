use Rattle.std.proofs.Common.{◌∙◌, sym, below_more}
use Rattle.std.proofs.lemmas.Bool.{false≢true}
use Rattle.enclave_marks.specs.Corners.{TellsRefined}
use Rattle.enclave_marks.proofs.enclave.has_refined.Goals as goal

pub loop-k-preserved : goal.loop-k-preserved
loop-k-preserved c = below_more (λ m. ¬ TellsRefined c.args.dim c.args.vertex c.args.stored.now m) c.loop-k.k c.loop-k.invariant (λ h. false≢true (sym c.if-is_refined_at.false ∙ c.is_refined_at.ensures.1 h))
