use Rattle.peano_run.proofs.Leads.{first_from}
use Rattle.peano_run.proofs.begin.begin.Goals as goal

pub returns : goal.returns
returns g c =
    let field = rw (c.as_slice.ensures, c.parts.ensures.value) at c.in_ok-field.ensures.opening in
    first_from c.args.trees c.args.plan.now c.args.grid.now c.in_ok-field.field c.start.result c.requires.opens field c.start.ensures.keys c.start.ensures.at c.start.ensures.solver c.start.ensures.recut c.start.ensures.notes
