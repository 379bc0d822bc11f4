use Rattle.std.proofs.Common.{sym}
use Rattle.std.proofs.lemmas.Result.{IfOk-weaker}
use Rattle.curve_cuts.specs.Keys.{cuts_of}
use Rattle.worked_sweeps.proofs.Over.{between, can_be_adapted, adapted_over}
use Rattle.worked_sweeps.proofs.adapting.adapt.Goals as goal

pub adapt_tree-requires : goal.adapt_tree-requires
adapt_tree-requires g c = (between c.args._grid.now c.args.next.now, sym c.requires.next, can_be_adapted (cuts_of c.args.keys.now) c.args._grid.now c.args.next.now c.args.store.now c.requires.before c.requires.cut c.requires.leads)

pub returns : goal.returns
returns g c =
    let can = can_be_adapted (cuts_of c.args.keys.now) c.args._grid.now c.args.next.now c.args.store.now c.requires.before c.requires.cut c.requires.leads in
    IfOk-weaker c.adapt_tree.result _ _
    (λ note adapted. adapted_over (cuts_of c.args.keys.now) c.args._grid.now c.args.next.now 1 c.args.store.now c.adapt_tree.new.store note c.requires.cut c.requires.before.over.tree (adapted (between c.args._grid.now c.args.next.now) (sym c.requires.next) can))
    c.adapt_tree.ensures.adapted
