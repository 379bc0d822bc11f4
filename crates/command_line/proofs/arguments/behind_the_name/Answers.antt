use Rattle.std.proofs.Common.{refl}
use Rattle.std.specs.Vec.Iter.{into_iter_items}
use Rattle.std.proofs.lemmas.Iterator.{items_from_collect}
use Rattle.std.proofs.lemmas.Iterator.Adapters.{YieldsList-from_vec, YieldsList-from_skip}
use Rattle.std.proofs.lemmas.Iterator.Consumers.{YieldsList-at}
use Rattle.command_line.proofs.arguments.behind_the_name.Goals as goal

pub returns : goal.returns
returns c =
    let road = YieldsList-from_vec (into_iter_items c.args.args) refl c.args.args.rest.ok.0 in
    items_from_collect _ c.collect.ensures.ran (YieldsList-from_skip 1 (YieldsList-at c.skip.ensures.source road) c.skip.ensures.count)
