use Rattle.std.proofs.Common.{◌∙◌, ap, sym}
use Rattle.adapt_sweep.specs.Adapts.{refined_next}
use Rattle.adapt_sweep.proofs.Adapted.{tells_next}
use Rattle.adapt_sweep.proofs.adapting.AdaptVisitor.refined_after.Goals as goal

pub returns-clause-value : goal.returns-clause-value
returns-clause-value g c = λ depth old knows.
    c.refined_next.ensures ∙ (ap (λ d. refined_next d c.args.cell.now) (c.dim.ensures ∙ sym c.args.self.now.same) ∙ tells_next depth old g.N.NewGrid.grid c.args.cell.now c.requires knows)
