use Rattle.std.proofs.Common.{sym, subst}
use Rattle.curve_cuts.specs.Keys.{cuts_of}
use Rattle.shared_sums.specs.Records.{AreOwnMeans}
use Rattle.shared_sums.proofs.Added.{added_store}
use Rattle.shared_sums.proofs.Stored.{lists_stay}
use Rattle.shared_sums.proofs.adding.add_sums.Goals as goal

pub returns-clause-ok : goal.returns-clause-ok
returns-clause-ok c =
    added_store (cuts_of c.args.keys.now) c.args.all.now c.deref.result.now c.dim.result c.args.store.now c.add_all.new.store c.dim.ensures
    (subst (λ t. AreOwnMeans (cuts_of c.args.keys.now) c.args.all.now t c.deref.result.now) c.tree.ensures
    (subst (AreOwnMeans (cuts_of c.args.keys.now) c.args.all.now c.tree.result) (sym c.deref.ensures.value) c.in_ok-list.ensures.means))
    c.add_all.ensures

pub returns-clause-lists : goal.returns-clause-lists
returns-clause-lists c = λ p number lists. lists_stay c.dim.result c.deref.result.now c.args.store.now c.add_all.new.store c.add_all.ensures p number lists
