use Rattle.std.proofs.Common.{◌≡◌, ◌+◌, ◌≤◌, ◌<◌, map, length, arith, ◌∙◌}
use Rattle.std.proofs.lemmas.List.{length-map}
use Rattle.curve_cuts.specs.Cuts.{Cuts}
use Rattle.curve_cuts.specs.Keys.{cuts_of}
use Rattle.boundary_streams.specs.Sendings.{items_of, is_met_before, is_met_first}
use Rattle.boundary_streams.proofs.Rounds.{met_before_more, met_once, none_met_before, sent_is_met}
use Rattle.boundary_streams.proofs.Sends.{added_both, added_none, sent_all}
use Rattle.boundary_streams.proofs.collecting.send.Goals as goal

pub loop-n-init : goal.loop-n-init
loop-n-init c = added_none (is_met_before (cuts_of c.args.keys.now) c.args.tree c.intervals-intervals.result 0) c.args.parcel.now (map items_of c.args.lists.now.items) (λ t inside. none_met_before (cuts_of c.args.keys.now) c.args.tree c.intervals-intervals.result t)

pub loop-n-preserved : goal.loop-n-preserved
loop-n-preserved c =
    let k : Cuts = cuts_of c.args.keys.now in
    let inside : c.loop-n.n < length c.intervals-intervals.result = omega (arith, c.intervals-intervals.ensures.eight, c.loop-n-test.true) in
    added_both (is_met_before k c.args.tree c.intervals-intervals.result c.loop-n.n) (is_met_first k c.args.tree c.intervals-intervals.result c.loop-n.n) (is_met_before k c.args.tree c.intervals-intervals.result (c.loop-n.n + 1))
    c.args.parcel.now (map items_of c.args.lists.now.items) (map items_of c.loop-n.lists.items) (map items_of c.send_round.new.lists.items)
    (λ t. met_before_more k c.args.tree c.intervals-intervals.result c.loop-n.n t inside) (λ t. met_once k c.args.tree c.intervals-intervals.result c.loop-n.n t)
    c.loop-n.invariant c.in_ok-send_round.ensures

pub returns : goal.returns
returns c =
    let k : Cuts = cuts_of c.args.keys.now in
    let all : length c.intervals-intervals.result ≤ c.loop-n.n = omega (arith, c.intervals-intervals.ensures.eight, c.loop-n-test.false) in
    sent_all k c.args.tree (is_met_before k c.args.tree c.intervals-intervals.result c.loop-n.n) c.args.parcel.now (map items_of c.args.lists.now.items) (map items_of c.loop-n.lists.items)
    (length-map c.args.lists.now.items items_of ∙ c.requires.lists)
    (λ t. sent_is_met k c.args.tree c.args.parcel.now.key c.intervals-intervals.result c.loop-n.n t c.intervals-intervals.ensures.value all)
    c.loop-n.invariant
