use Rattle.std.proofs.Common.{◌≡◌, ◌≤◌, ◌<◌, ℕ, map, length, arith, subst}
use Rattle.std.proofs.lemmas.List.{length-map}
use Rattle.peano_curve.specs.declared.range.Range.{Range}
use Rattle.curve_cuts.specs.Cuts.{Cuts, range_of}
use Rattle.curve_cuts.specs.Keys.{cuts_of}
use Rattle.boundary_streams.specs.Sendings.{items_of, interval_in, is_met_first}
use Rattle.boundary_streams.proofs.Rounds.{empty_not_met, not_met_before, not_met_behind}
use Rattle.boundary_streams.proofs.Sends.{added_all, added_from, added_more, added_none}
use Rattle.boundary_streams.proofs.collecting.send_round.Goals as goal

pub returns-then-interval : goal.returns-then-interval
returns-then-interval c = added_none (is_met_first (cuts_of c.args.keys.now) c.args.tree c.args.intervals.now c.args.n) c.args.parcel.now (map items_of c.args.lists.now.items) (λ t inside. empty_not_met (cuts_of c.args.keys.now) c.args.tree c.args.intervals.now c.args.n t c.if-interval.true)

pub loop-other-init : goal.loop-other-init
loop-other-init c =
    let k : Cuts = cuts_of c.args.keys.now in
    added_from (is_met_first k c.args.tree c.args.intervals.now c.args.n) c.args.parcel.now (map items_of c.args.lists.now.items) c.tree_of-other.result
    (λ t below. not_met_before k c.args.tree c.args.intervals.now c.args.n t c.tree_of-other.result c.trees-other-end.ensures.cuts c.tree_of-other.ensures.tree c.tree_of-other.ensures.holds below)

pub loop-other-preserved : goal.loop-other-preserved
loop-other-preserved c =
    let inside : c.loop-other.other < length (map items_of c.args.lists.now.items) = omega (arith, length-map c.args.lists.now.items items_of, c.requires.lists, c.trees-other-end.ensures.value, c.loop-other-test.true) in
    added_more (is_met_first (cuts_of c.args.keys.now) c.args.tree c.args.intervals.now c.args.n) c.args.parcel.now (map items_of c.args.lists.now.items) (map items_of c.loop-other.lists.items) (map items_of c.add.new.lists.items) c.loop-other.other c.is_met_first-wanted.result inside c.is_met_first-wanted.ensures c.in_ok-add.ensures c.loop-other.invariant

pub returns-then-interval-range : goal.returns-then-interval-range
returns-then-interval-range c =
    let k : Cuts = cuts_of c.args.keys.now in
    let behind : (interval_in c.args.intervals.now c.args.n).hi ≤ (range_of k c.loop-other.other).lo = subst (λ (r : Range). (interval_in c.args.intervals.now c.args.n).hi ≤ r.lo) c.range.ensures c.if-interval-range.true in
    added_all (is_met_first k c.args.tree c.args.intervals.now c.args.n) c.args.parcel.now (map items_of c.args.lists.now.items) (map items_of c.loop-other.lists.items) c.loop-other.other
    (λ t above inside. not_met_behind k c.args.tree c.args.intervals.now c.args.n t c.loop-other.other c.trees-other-end.ensures.cuts behind above (omega (arith, inside, length-map c.args.lists.now.items items_of, c.requires.lists)))
    c.loop-other.invariant

pub returns : goal.returns
returns c =
    added_all (is_met_first (cuts_of c.args.keys.now) c.args.tree c.args.intervals.now c.args.n) c.args.parcel.now (map items_of c.args.lists.now.items) (map items_of c.loop-other.lists.items) c.loop-other.other
    (λ t above inside. absurd (omega (arith, above, inside, length-map c.args.lists.now.items items_of, c.requires.lists, c.trees-other-end.ensures.value, c.loop-other-test.false)))
    c.loop-other.invariant
