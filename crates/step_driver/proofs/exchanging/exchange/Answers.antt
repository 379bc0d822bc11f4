use Rattle.std.proofs.Common.{List, sym, subst}
use Rattle.std.proofs.lemmas.Result.{IfOk-weaker}
use Rattle.curve_cuts.specs.Keys.{cuts_of}
use Rattle.boundary_streams.specs.Collects.{IsCollected}
use Rattle.boundary_streams.specs.Sent.{Outgoing}
use Rattle.boundary_streams.specs.Trees.{IsTreeOf}
use Rattle.tree_automaton.specs.TreeLists.{TreeLists}
use Rattle.step_driver.specs.Boxes.{MergesBoxes}
use Rattle.step_driver.specs.Gives.{EachIs, EachMayGive}
use Rattle.step_driver.proofs.Exchanges.{merged_all}
use Rattle.step_driver.proofs.Gives.{each_given, each_is}
use Rattle.step_driver.proofs.exchanging.exchange.Goals as goal

pub collect_each-requires-after_bounds : goal.collect_each-requires-after_bounds
collect_each-requires-after_bounds g c κs within =
    let k = cuts_of c.args.keys.now in
    subst (λ (s : List TreeLists). EachIs (IsTreeOf k) s) (sym c.as_slice.ensures.value) (each_is (IsTreeOf k) k.trees c.args.stores.items c.requires.count c.requires.each)

pub merge_each-requires-after_bounds : goal.merge_each-requires-after_bounds
merge_each-requires-after_bounds g c κs within =
    let k = cuts_of c.args.keys.now in
    each_is (IsTreeOf k) k.trees c.args.stores.items c.requires.count c.requires.each

pub returns : goal.returns
returns g c =
    let k = cuts_of c.args.keys.now in
    let before = c.args.stores.items in
    let boxes = c.in_ok-boxes.boxes.items in
    let sent = subst (λ (s : List TreeLists). EachMayGive (IsCollected k) s c.in_ok-collect_each.field-0.items) c.as_slice.ensures.value c.in_ok-collect_each.ensures in
    let are = each_given (IsCollected k) before c.in_ok-collect_each.field-0.items boxes sent c.in_ok-boxes.ensures in
    let merged = subst (λ (b : List Outgoing). EachMayGive (MergesBoxes c.args.phase k b) before c.in_ok-merge_each.field-0.items) c.as_slice-2.ensures.value c.in_ok-merge_each.ensures in
    IfOk-weaker c.all_of-2.result _ _
    (λ after is. merged_all c.args.phase k boxes before after.items c.requires are (each_given (MergesBoxes c.args.phase k boxes) before c.in_ok-merge_each.field-0.items after.items merged is)) c.all_of-2.ensures
