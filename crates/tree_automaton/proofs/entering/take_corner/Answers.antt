use Rattle.std.proofs.Common.{refl, arith}
use Rattle.std.proofs.lemmas.Int.{ints}
use Rattle.std.specs.Option.{option_map}
use Rattle.tree_automaton.proofs.Takes.{lane_there, lane_gives, input_gives, made_new, left_hanging, only_lanes, none_moved, as_many_pages}
use Rattle.tree_automaton.proofs.entering.take_corner.Goals as goal

pub unreachable-requires : goal.unreachable-requires
unreachable-requires c =
    let r = c.requires.asks in
    lane_there r.0 r.1 r.2 c.args.course.now (option_map (λ v. v.now) c.args.parent) c.args.cell c.args.n c.args.store.now r.3 c.in-Lane.lane (c.in-Lane.ensures.value r.0.sweep r.3.decides) (c.pop.ensures.none c.if-not-pop.true)

pub returns-else-not-pop-clause-taken : goal.returns-else-not-pop-clause-taken
returns-else-not-pop-clause-taken c = λ m made more asks.
    let last = c.pop.ensures.last c.if-not-pop.false in
    lane_gives m made more c.args.course.now (option_map (λ v. v.now) c.args.parent) c.args.cell c.args.n c.args.store.now asks c.in-Lane.lane c.pop.new.store last.0 c.pop.new.corner last.1 (c.in-Lane.ensures.value m.sweep asks.decides) last.2 (c.pop.ensures.others c.if-not-pop.false)

pub returns-else-not-take_input-clause-taken : goal.returns-else-not-take_input-clause-taken
returns-else-not-take_input-clause-taken c = λ m made more asks.
    let first = c.take_input.ensures.first c.if-not-take_input.false in
    input_gives m made more c.args.course.now (option_map (λ v. v.now) c.args.parent) c.args.cell c.args.n c.args.store.now asks c.take_input.new.store first.0 c.take_input.new.corner first.1 (c.in-Input.ensures.value m.sweep asks.decides) first.2 (c.take_input.ensures.others c.if-not-take_input.false)

pub returns-in-Made-clause-taken : goal.returns-in-Made-clause-taken
returns-in-Made-clause-taken c = λ m made more asks.
    made_new m made more c.args.course.now (option_map (λ v. v.now) c.args.parent) c.args.cell c.args.n c.args.store.now asks c.new.result c.corner.result (c.in-Made.ensures.value m.sweep asks.decides) c.corner.ensures.value c.new.ensures

pub returns-in-Hanging-clause-taken : goal.returns-in-Hanging-clause-taken
returns-in-Hanging-clause-taken c = λ m made more asks.
    left_hanging m made more c.args.course.now (option_map (λ v. v.now) c.args.parent) c.args.cell c.args.n c.args.store.now asks c.corner-in-Hanging.result (c.in-Hanging.ensures.value m.sweep asks.decides) c.corner-in-Hanging.ensures.value

pub returns-else-not-pop-clause-others : goal.returns-else-not-pop-clause-others
returns-else-not-pop-clause-others c = only_lanes c.args.store.now c.pop.new.store _ (c.pop.ensures.others c.if-not-pop.false) refl refl (as_many_pages _ _ c.pop.ensures.pages)

pub returns-else-not-take_input-clause-others : goal.returns-else-not-take_input-clause-others
returns-else-not-take_input-clause-others c = only_lanes c.args.store.now c.take_input.new.store _ (c.take_input.ensures.others c.if-not-take_input.false) refl refl (as_many_pages _ _ c.take_input.ensures.pages)

pub returns-in-Made-clause-others : goal.returns-in-Made-clause-others
returns-in-Made-clause-others c = none_moved c.args.store.now

pub returns-in-Hanging-clause-others : goal.returns-in-Hanging-clause-others
returns-in-Hanging-clause-others c = none_moved c.args.store.now

pub returns-in-Hanging-clause-spare : goal.returns-in-Hanging-clause-spare
returns-in-Hanging-clause-spare c = λ plain. omega (arith, ints)
