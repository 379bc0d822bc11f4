use Rattle.std.proofs.Common.{◌≡◌, ◌+◌, ◌<◌, ◌≤◌, true, ◌∷◌, ◌++◌, arith, sym, ◌∙◌, ap, refl, subst}
use Rattle.std.proofs.lemmas.Bool.{false≢true}
use Rattle.std.specs.Prelude.{IsOk}
use Rattle.std.specs.Option.{option_map}
use Rattle.peano_keys.specs.Dim.{children}
use Rattle.peano_keys.specs.Cell.{IsCell}
use Rattle.sweep_visits.specs.Visits.{leave}
use Rattle.sweep_visits.specs.Plan.{is_visited}
use Rattle.tree_automaton.specs.declared.decide.Course.{Course}
use Rattle.tree_automaton.specs.Handed.{IsTold, IsToldAbove}
use Rattle.tree_automaton.specs.Sweep.{served_by}
use Rattle.tree_automaton.specs.Visits.{vertices_in}
use Rattle.tree_automaton.specs.Promises.{IsViewIn, MayEnter, MayLeave}
use Rattle.tree_automaton.specs.Story.{with_calls}
use Rattle.tree_automaton.specs.Sweeps.{HasRoom, VisitsGive}
use Rattle.tree_automaton.specs.Views.{IsPlace, HavePlaces}
use Rattle.tree_automaton.proofs.Places.{places_joined, first_place_of, other_places, place_kept, place_with_will, places_at}
use Rattle.tree_automaton.proofs.Results.{always, on_ok, on_ok_both}
use Rattle.tree_automaton.proofs.Decided.{sweep_plan, level_within}
use Rattle.tree_automaton.proofs.Promised.{taken_in, fits_in, with_will}
use Rattle.tree_automaton.proofs.Visited.{opened_level, child_level}
use Rattle.tree_automaton.proofs.Walked.{course_is, not_held, own_cell, fits, there, after_enter, made_first, enter_asks, foresees, cell_after, key_after, first_story, below_asks, last_story, made_last, last_key, last_cell, leave_asks, walked}
use Rattle.tree_automaton.proofs.Below.{children_most, below_closed, below_open, asks_open, others, made_one, walk_asks, cell_kept, next_asks, rest_gives, last_gives, first_place, place_moved, last_moved, next_level, rest_falls}
use Rattle.tree_automaton.proofs.Handed.{round_kept, round_in, child_round, child_within, looked_round, walk_level}
use Rattle.tree_automaton.proofs.Rooms.{same_again, vertices_kept, room_for_cell, room_entered, room_kept, room_walked, room_to_leave, keeps_again}
use Rattle.tree_automaton.proofs.walks.+walks.Goals as goal

pub walk-returns-then-not-is_held-clause-done : goal.walk-returns-then-not-is_held-clause-done
walk-returns-then-not-is_held-clause-done g t c = λ m made more asks. not_held m made more (g.V.Visitor.meaning c.args.visitor.now) (option_map (λ v. v.now) c.args.parent) c.args.cell c.args.kind c.args.store.now asks g.V.Visitor.entered g.V.Visitor.left c.args.visitor.now (sym (c.is_held.ensures m.sweep (course_is m.sweep c.args.store.now c.args.kind c.course-course.result asks.before.of asks.before.served c.course-course.ensures)) ∙ c.if-not-is_held.true)

pub walk-is_held-requires-clause-above : goal.walk-is_held-requires-clause-above
walk-is_held-requires-clause-above g t c = let r = c.requires.asks in subst (λ (x : Course). c.args.cell.level ≤ x.depth) (sym c.course-course.ensures) (walk_level r.0 (g.V.Visitor.meaning c.args.visitor.now) r.1 r.2 (option_map (λ v. v.now) c.args.parent) c.args.cell c.args.kind c.args.store.now r.3)

pub walk-is_held-requires-clause-depth : goal.walk-is_held-requires-clause-depth
walk-is_held-requires-clause-depth g t c = let r = c.requires.asks in subst (λ (x : Course). x.depth ≤ 12) (sym c.course-course.ensures) (subst (λ d. d ≤ 12) (sym r.3.before.of.depth) r.3.before.sweep.deep)

pub walk-is_held-requires-clause-round : goal.walk-is_held-requires-clause-round
walk-is_held-requires-clause-round g t c = round_in c.args.store.now c.args.kind c.course-course.result c.args.cell c.args.round.now c.course-course.ensures c.requires.round

pub walk-enter_into-requires-clause-asks : goal.walk-enter_into-requires-clause-asks
walk-enter_into-requires-clause-asks g t c =
    let r = c.requires.asks in
    let held = (sym (c.is_held.ensures r.0.sweep (course_is r.0.sweep c.args.store.now c.args.kind c.course-course.result r.3.before.of r.3.before.served c.course-course.ensures)) ∙ c.if-not-is_held.false) in
    (r.0, r.1, after_enter r.0 r.1 r.2 (g.V.Visitor.meaning c.args.visitor.now) (option_map (λ v. v.now) c.args.parent) c.args.cell c.args.kind c.args.store.now r.3 c.requires.cell held, enter_asks r.0 r.1 r.2 (g.V.Visitor.meaning c.args.visitor.now) (option_map (λ v. v.now) c.args.parent) c.args.cell c.args.kind c.args.store.now r.3 c.requires.cell held)

pub walk-foresee-requires : goal.walk-foresee-requires
walk-foresee-requires g t c =
    let r = c.requires.asks in
    let held = (sym (c.is_held.ensures r.0.sweep (course_is r.0.sweep c.args.store.now c.args.kind c.course-course.result r.3.before.of r.3.before.served c.course-course.ensures)) ∙ c.if-not-is_held.false) in
    let gives = c.enter_into.ensures.entered r.0 r.1 (after_enter r.0 r.1 r.2 (g.V.Visitor.meaning c.args.visitor.now) (option_map (λ v. v.now) c.args.parent) c.args.cell c.args.kind c.args.store.now r.3 c.requires.cell held) (enter_asks r.0 r.1 r.2 (g.V.Visitor.meaning c.args.visitor.now) (option_map (λ v. v.now) c.args.parent) c.args.cell c.args.kind c.args.store.now r.3 c.requires.cell held) in
    taken_in r.0 c.args.cell c.enter_into.new.view (g.V.Visitor.meaning c.args.visitor.now) r.3.before.sweep (own_cell r.0 r.1 r.2 (g.V.Visitor.meaning c.args.visitor.now) (option_map (λ v. v.now) c.args.parent) c.args.cell c.args.kind c.args.store.now r.3 c.requires.cell held) r.3.for_sweep gives.view

pub walk-enter-requires : goal.walk-enter-requires
walk-enter-requires g t c =
    let r = c.requires.asks in
    let held = (sym (c.is_held.ensures r.0.sweep (course_is r.0.sweep c.args.store.now c.args.kind c.course-course.result r.3.before.of r.3.before.served c.course-course.ensures)) ∙ c.if-not-is_held.false) in
    let gives = c.enter_into.ensures.entered r.0 r.1 (after_enter r.0 r.1 r.2 (g.V.Visitor.meaning c.args.visitor.now) (option_map (λ v. v.now) c.args.parent) c.args.cell c.args.kind c.args.store.now r.3 c.requires.cell held) (enter_asks r.0 r.1 r.2 (g.V.Visitor.meaning c.args.visitor.now) (option_map (λ v. v.now) c.args.parent) c.args.cell c.args.kind c.args.store.now r.3 c.requires.cell held) in
    let seen = taken_in r.0 c.args.cell c.enter_into.new.view (g.V.Visitor.meaning c.args.visitor.now) r.3.before.sweep (own_cell r.0 r.1 r.2 (g.V.Visitor.meaning c.args.visitor.now) (option_map (λ v. v.now) c.args.parent) c.args.cell c.args.kind c.args.store.now r.3 c.requires.cell held) r.3.for_sweep gives.view in
    subst (λ v. IsViewIn (g.V.Visitor.meaning v).dim c.foresee.new.view) (sym c.foresee.ensures.visitor) (with_will (g.V.Visitor.meaning c.args.visitor.now) c.enter_into.new.view c.foresee.new.view c.foresee.ensures.others seen)

pub walk-leave-requires : goal.walk-leave-requires
walk-leave-requires g t c =
    let r = c.requires.asks in
    let held = (sym (c.is_held.ensures r.0.sweep (course_is r.0.sweep c.args.store.now c.args.kind c.course-course.result r.3.before.of r.3.before.served c.course-course.ensures)) ∙ c.if-not-is_held.false) in
    let gives = c.enter_into.ensures.entered r.0 r.1 (after_enter r.0 r.1 r.2 (g.V.Visitor.meaning c.args.visitor.now) (option_map (λ v. v.now) c.args.parent) c.args.cell c.args.kind c.args.store.now r.3 c.requires.cell held) (enter_asks r.0 r.1 r.2 (g.V.Visitor.meaning c.args.visitor.now) (option_map (λ v. v.now) c.args.parent) c.args.cell c.args.kind c.args.store.now r.3 c.requires.cell held) in
    let will = foresees r.0 r.1 (after_enter r.0 r.1 r.2 (g.V.Visitor.meaning c.args.visitor.now) (option_map (λ v. v.now) c.args.parent) c.args.cell c.args.kind c.args.store.now r.3 c.requires.cell held) (option_map (λ v. v.now) c.args.parent) c.args.cell c.args.kind c.args.store.now c.course-course.result c.course-course.ensures (enter_asks r.0 r.1 r.2 (g.V.Visitor.meaning c.args.visitor.now) (option_map (λ v. v.now) c.args.parent) c.args.cell c.args.kind c.args.store.now r.3 c.requires.cell held) c.enter_into.new.store c.enter_into.new.view c.foresee.new.view gives (g.V.Visitor.meaning c.args.visitor.now) r.3.for_sweep (c.foresee.ensures.will r.0) in
    let keeps = c.enter.ensures.keeps in
    let may = subst (λ v. MayEnter (g.V.Visitor.meaning v).serves (g.V.Visitor.meaning v).new_grid c.foresee.new.view c.enter.new.cell) c.foresee.ensures.visitor c.enter.ensures.slots in
    let same : g.V.Visitor.meaning c.enter.new.self ≡ (g.V.Visitor.meaning c.args.visitor.now) = c.enter.ensures.same ∙ ap (λ v. g.V.Visitor.meaning v) c.foresee.ensures.visitor in
    subst (λ x. IsViewIn x.dim c.enter.new.cell) (sym (c.walk_below.ensures.same ∙ same)) (fits_in r.0.sweep c.args.cell c.enter.new.cell (g.V.Visitor.meaning c.args.visitor.now) (own_cell r.0 r.1 r.2 (g.V.Visitor.meaning c.args.visitor.now) (option_map (λ v. v.now) c.args.parent) c.args.cell c.args.kind c.args.store.now r.3 c.requires.cell held) r.3.for_sweep (fits r.0 r.1 r.2 (g.V.Visitor.meaning c.args.visitor.now) (option_map (λ v. v.now) c.args.parent) c.args.cell c.args.kind c.args.store.now r.3 c.requires.cell held c.enter_into.new.store c.enter_into.new.view c.foresee.new.view gives c.enter_into.ensures.carried c.enter_into.ensures.tree c.foresee.ensures.others will c.enter.new.cell keeps may))

pub walk-walk_below-requires : goal.walk-walk_below-requires
walk-walk_below-requires g t c κs within =
    let r = c.requires.asks in
    let held = (sym (c.is_held.ensures r.0.sweep (course_is r.0.sweep c.args.store.now c.args.kind c.course-course.result r.3.before.of r.3.before.served c.course-course.ensures)) ∙ c.if-not-is_held.false) in
    let gives = c.enter_into.ensures.entered r.0 r.1 (after_enter r.0 r.1 r.2 (g.V.Visitor.meaning c.args.visitor.now) (option_map (λ v. v.now) c.args.parent) c.args.cell c.args.kind c.args.store.now r.3 c.requires.cell held) (enter_asks r.0 r.1 r.2 (g.V.Visitor.meaning c.args.visitor.now) (option_map (λ v. v.now) c.args.parent) c.args.cell c.args.kind c.args.store.now r.3 c.requires.cell held) in
    let will = foresees r.0 r.1 (after_enter r.0 r.1 r.2 (g.V.Visitor.meaning c.args.visitor.now) (option_map (λ v. v.now) c.args.parent) c.args.cell c.args.kind c.args.store.now r.3 c.requires.cell held) (option_map (λ v. v.now) c.args.parent) c.args.cell c.args.kind c.args.store.now c.course-course.result c.course-course.ensures (enter_asks r.0 r.1 r.2 (g.V.Visitor.meaning c.args.visitor.now) (option_map (λ v. v.now) c.args.parent) c.args.cell c.args.kind c.args.store.now r.3 c.requires.cell held) c.enter_into.new.store c.enter_into.new.view c.foresee.new.view gives (g.V.Visitor.meaning c.args.visitor.now) r.3.for_sweep (c.foresee.ensures.will r.0) in
    let keeps = c.enter.ensures.keeps in
    let may = subst (λ v. MayEnter (g.V.Visitor.meaning v).serves (g.V.Visitor.meaning v).new_grid c.foresee.new.view c.enter.new.cell) c.foresee.ensures.visitor c.enter.ensures.slots in
    let same : g.V.Visitor.meaning c.enter.new.self ≡ (g.V.Visitor.meaning c.args.visitor.now) = c.enter.ensures.same ∙ ap (λ v. g.V.Visitor.meaning v) c.foresee.ensures.visitor in
    let level : c.enter.new.cell.key.level ≡ c.args.cell.level = ap (λ k. k.level) (key_after r.0 r.1 r.2 (g.V.Visitor.meaning c.args.visitor.now) (option_map (λ v. v.now) c.args.parent) c.args.cell c.args.kind c.args.store.now r.3 c.requires.cell held c.enter_into.new.store c.enter_into.new.view c.foresee.new.view gives c.enter_into.ensures.carried c.enter_into.ensures.tree c.foresee.ensures.others will c.enter.new.cell keeps may) in
    let most : c.args.cell.level ≤ r.0.sweep.plan.depth = level_within r.0.sweep c.args.cell r.3.before.sweep (there r.0 r.1 r.2 (g.V.Visitor.meaning c.args.visitor.now) (option_map (λ v. v.now) c.args.parent) c.args.cell c.args.kind c.args.store.now r.3 c.requires.cell held) in
    let deep : r.0.sweep.plan.depth ≤ 12 = r.3.before.sweep.deep in
    (omega (arith, level, most, deep, c.decreases), (within, (cell_after r.0 r.1 r.2 (g.V.Visitor.meaning c.args.visitor.now) (option_map (λ v. v.now) c.args.parent) c.args.cell c.args.kind c.args.store.now r.3 c.requires.cell held c.enter_into.new.store c.enter_into.new.view c.foresee.new.view gives c.enter_into.ensures.carried c.enter_into.ensures.tree c.foresee.ensures.others will c.enter.new.cell keeps may, (round_kept c.args.store.now c.enter_into.new.store c.args.cell c.enter.new.cell.key c.args.round.now c.enter_into.ensures.tree (c.enter.ensures.keeps.key ∙ (ap (λ v. v.key) c.foresee.ensures.others ∙ c.enter_into.ensures.key)) c.requires.round, (places_at c.args.store.now.lanes.dim c.enter_into.new.store.lanes.dim c.args.cell.level c.enter.new.cell.key.level c.args.below.now c.enter_into.ensures.tree.dim level c.requires.places, (first_story r.0 r.1 r.2 (g.V.Visitor.meaning c.args.visitor.now) (option_map (λ v. v.now) c.args.parent) c.args.cell c.args.kind c.args.store.now r.3 c.requires.cell held c.enter_into.new.store c.enter_into.new.view c.foresee.new.view gives c.enter_into.ensures.carried c.enter_into.ensures.tree c.foresee.ensures.others will c.enter.new.cell keeps may, made_first r.0 r.1 r.2 (g.V.Visitor.meaning c.args.visitor.now) (option_map (λ v. v.now) c.args.parent) c.args.cell c.args.kind c.args.store.now r.3 c.requires.cell held, leave c.args.cell ∷ r.2, below_asks r.0 r.1 r.2 (g.V.Visitor.meaning c.args.visitor.now) (option_map (λ v. v.now) c.args.parent) c.args.cell c.args.kind c.args.store.now r.3 c.requires.cell held c.enter_into.new.store c.enter_into.new.view c.foresee.new.view gives c.enter_into.ensures.carried c.enter_into.ensures.tree c.foresee.ensures.others will c.enter.new.cell keeps may (g.V.Visitor.meaning c.enter.new.self) same))))))

pub walk-leave_from-requires-clause-round : goal.walk-leave_from-requires-clause-round
walk-leave_from-requires-clause-round g t c = round_kept c.args.store.now c.walk_below.new.store c.args.cell c.leave.new.cell.key c.args.round.now (same_again c.args.store.now c.enter_into.new.store c.walk_below.new.store c.enter_into.ensures.tree c.walk_below.ensures.tree) (c.leave.ensures.keeps.key ∙ (c.enter.ensures.keeps.key ∙ (ap (λ v. v.key) c.foresee.ensures.others ∙ c.enter_into.ensures.key))) c.requires.round

pub walk-leave_from-requires-clause-told : goal.walk-leave_from-requires-clause-told
walk-leave_from-requires-clause-told g t c = subst (λ d. IsToldAbove d (served_by c.args.kind) (option_map (λ v. v.now) c.args.parent) (option_map (λ x. x.now) c.args.told)) (sym (c.walk_below.ensures.tree.dim ∙ c.enter_into.ensures.tree.dim)) c.requires.told

pub walk-leave_from-requires-clause-cell : goal.walk-leave_from-requires-clause-cell
walk-leave_from-requires-clause-cell g t c =
    let r = c.requires.asks in
    let held = (sym (c.is_held.ensures r.0.sweep (course_is r.0.sweep c.args.store.now c.args.kind c.course-course.result r.3.before.of r.3.before.served c.course-course.ensures)) ∙ c.if-not-is_held.false) in
    let gives = c.enter_into.ensures.entered r.0 r.1 (after_enter r.0 r.1 r.2 (g.V.Visitor.meaning c.args.visitor.now) (option_map (λ v. v.now) c.args.parent) c.args.cell c.args.kind c.args.store.now r.3 c.requires.cell held) (enter_asks r.0 r.1 r.2 (g.V.Visitor.meaning c.args.visitor.now) (option_map (λ v. v.now) c.args.parent) c.args.cell c.args.kind c.args.store.now r.3 c.requires.cell held) in
    let will = foresees r.0 r.1 (after_enter r.0 r.1 r.2 (g.V.Visitor.meaning c.args.visitor.now) (option_map (λ v. v.now) c.args.parent) c.args.cell c.args.kind c.args.store.now r.3 c.requires.cell held) (option_map (λ v. v.now) c.args.parent) c.args.cell c.args.kind c.args.store.now c.course-course.result c.course-course.ensures (enter_asks r.0 r.1 r.2 (g.V.Visitor.meaning c.args.visitor.now) (option_map (λ v. v.now) c.args.parent) c.args.cell c.args.kind c.args.store.now r.3 c.requires.cell held) c.enter_into.new.store c.enter_into.new.view c.foresee.new.view gives (g.V.Visitor.meaning c.args.visitor.now) r.3.for_sweep (c.foresee.ensures.will r.0) in
    let keeps = c.enter.ensures.keeps in
    let may = subst (λ v. MayEnter (g.V.Visitor.meaning v).serves (g.V.Visitor.meaning v).new_grid c.foresee.new.view c.enter.new.cell) c.foresee.ensures.visitor c.enter.ensures.slots in
    let same : g.V.Visitor.meaning c.enter.new.self ≡ (g.V.Visitor.meaning c.args.visitor.now) = c.enter.ensures.same ∙ ap (λ v. g.V.Visitor.meaning v) c.foresee.ensures.visitor in
    let called = subst (λ v. g.V.Visitor.entered v c.foresee.new.view c.enter.new.cell c.enter.new.self) c.foresee.ensures.visitor c.in_ok-enter.ensures.done in
    let below = c.in_ok-walk_below.ensures.done (first_story r.0 r.1 r.2 (g.V.Visitor.meaning c.args.visitor.now) (option_map (λ v. v.now) c.args.parent) c.args.cell c.args.kind c.args.store.now r.3 c.requires.cell held c.enter_into.new.store c.enter_into.new.view c.foresee.new.view gives c.enter_into.ensures.carried c.enter_into.ensures.tree c.foresee.ensures.others will c.enter.new.cell keeps may) (made_first r.0 r.1 r.2 (g.V.Visitor.meaning c.args.visitor.now) (option_map (λ v. v.now) c.args.parent) c.args.cell c.args.kind c.args.store.now r.3 c.requires.cell held) (leave c.args.cell ∷ r.2) (below_asks r.0 r.1 r.2 (g.V.Visitor.meaning c.args.visitor.now) (option_map (λ v. v.now) c.args.parent) c.args.cell c.args.kind c.args.store.now r.3 c.requires.cell held c.enter_into.new.store c.enter_into.new.view c.foresee.new.view gives c.enter_into.ensures.carried c.enter_into.ensures.tree c.foresee.ensures.others will c.enter.new.cell keeps may (g.V.Visitor.meaning c.enter.new.self) same) in
    let may' = subst (λ v. MayLeave v.serves v.new_grid c.enter.new.cell c.leave.new.cell) (c.walk_below.ensures.same ∙ same) c.leave.ensures.slots in
    last_cell r.0 r.1 r.2 (g.V.Visitor.meaning c.args.visitor.now) (option_map (λ v. v.now) c.args.parent) c.args.cell c.args.kind c.args.store.now r.3 c.requires.cell held c.enter_into.new.store c.enter_into.new.view c.foresee.new.view gives c.enter_into.ensures.carried c.enter_into.ensures.tree c.foresee.ensures.others will c.enter.new.cell keeps may g.V.Visitor.entered g.V.Visitor.left c.args.visitor.now c.enter.new.self c.walk_below.new.visitor c.walk_below.new.store called below c.leave.new.cell c.leave.ensures.keeps may'

pub walk-leave_from-requires-clause-asks : goal.walk-leave_from-requires-clause-asks
walk-leave_from-requires-clause-asks g t c =
    let r = c.requires.asks in
    let held = (sym (c.is_held.ensures r.0.sweep (course_is r.0.sweep c.args.store.now c.args.kind c.course-course.result r.3.before.of r.3.before.served c.course-course.ensures)) ∙ c.if-not-is_held.false) in
    let gives = c.enter_into.ensures.entered r.0 r.1 (after_enter r.0 r.1 r.2 (g.V.Visitor.meaning c.args.visitor.now) (option_map (λ v. v.now) c.args.parent) c.args.cell c.args.kind c.args.store.now r.3 c.requires.cell held) (enter_asks r.0 r.1 r.2 (g.V.Visitor.meaning c.args.visitor.now) (option_map (λ v. v.now) c.args.parent) c.args.cell c.args.kind c.args.store.now r.3 c.requires.cell held) in
    let will = foresees r.0 r.1 (after_enter r.0 r.1 r.2 (g.V.Visitor.meaning c.args.visitor.now) (option_map (λ v. v.now) c.args.parent) c.args.cell c.args.kind c.args.store.now r.3 c.requires.cell held) (option_map (λ v. v.now) c.args.parent) c.args.cell c.args.kind c.args.store.now c.course-course.result c.course-course.ensures (enter_asks r.0 r.1 r.2 (g.V.Visitor.meaning c.args.visitor.now) (option_map (λ v. v.now) c.args.parent) c.args.cell c.args.kind c.args.store.now r.3 c.requires.cell held) c.enter_into.new.store c.enter_into.new.view c.foresee.new.view gives (g.V.Visitor.meaning c.args.visitor.now) r.3.for_sweep (c.foresee.ensures.will r.0) in
    let keeps = c.enter.ensures.keeps in
    let may = subst (λ v. MayEnter (g.V.Visitor.meaning v).serves (g.V.Visitor.meaning v).new_grid c.foresee.new.view c.enter.new.cell) c.foresee.ensures.visitor c.enter.ensures.slots in
    let same : g.V.Visitor.meaning c.enter.new.self ≡ (g.V.Visitor.meaning c.args.visitor.now) = c.enter.ensures.same ∙ ap (λ v. g.V.Visitor.meaning v) c.foresee.ensures.visitor in
    let called = subst (λ v. g.V.Visitor.entered v c.foresee.new.view c.enter.new.cell c.enter.new.self) c.foresee.ensures.visitor c.in_ok-enter.ensures.done in
    let below = c.in_ok-walk_below.ensures.done (first_story r.0 r.1 r.2 (g.V.Visitor.meaning c.args.visitor.now) (option_map (λ v. v.now) c.args.parent) c.args.cell c.args.kind c.args.store.now r.3 c.requires.cell held c.enter_into.new.store c.enter_into.new.view c.foresee.new.view gives c.enter_into.ensures.carried c.enter_into.ensures.tree c.foresee.ensures.others will c.enter.new.cell keeps may) (made_first r.0 r.1 r.2 (g.V.Visitor.meaning c.args.visitor.now) (option_map (λ v. v.now) c.args.parent) c.args.cell c.args.kind c.args.store.now r.3 c.requires.cell held) (leave c.args.cell ∷ r.2) (below_asks r.0 r.1 r.2 (g.V.Visitor.meaning c.args.visitor.now) (option_map (λ v. v.now) c.args.parent) c.args.cell c.args.kind c.args.store.now r.3 c.requires.cell held c.enter_into.new.store c.enter_into.new.view c.foresee.new.view gives c.enter_into.ensures.carried c.enter_into.ensures.tree c.foresee.ensures.others will c.enter.new.cell keeps may (g.V.Visitor.meaning c.enter.new.self) same) in
    let may' = subst (λ v. MayLeave v.serves v.new_grid c.enter.new.cell c.leave.new.cell) (c.walk_below.ensures.same ∙ same) c.leave.ensures.slots in
    (last_story r.0 r.1 r.2 (g.V.Visitor.meaning c.args.visitor.now) (option_map (λ v. v.now) c.args.parent) c.args.cell c.args.kind c.args.store.now r.3 c.requires.cell held c.enter_into.new.store c.enter_into.new.view c.foresee.new.view gives c.enter_into.ensures.carried c.enter_into.ensures.tree c.foresee.ensures.others will c.enter.new.cell keeps may g.V.Visitor.entered g.V.Visitor.left c.args.visitor.now c.enter.new.self c.walk_below.new.visitor c.walk_below.new.store called below c.leave.new.cell c.leave.ensures.keeps may', made_last r.0 r.1 r.2 (g.V.Visitor.meaning c.args.visitor.now) (option_map (λ v. v.now) c.args.parent) c.args.cell c.args.kind c.args.store.now r.3 c.requires.cell held c.enter_into.new.store c.enter_into.new.view c.foresee.new.view gives c.enter_into.ensures.carried c.enter_into.ensures.tree c.foresee.ensures.others will c.enter.new.cell keeps may g.V.Visitor.entered g.V.Visitor.left c.args.visitor.now c.enter.new.self c.walk_below.new.visitor c.walk_below.new.store called below c.leave.new.cell c.leave.ensures.keeps may', r.2, leave_asks r.0 r.1 r.2 (g.V.Visitor.meaning c.args.visitor.now) (option_map (λ v. v.now) c.args.parent) c.args.cell c.args.kind c.args.store.now r.3 c.requires.cell held c.enter_into.new.store c.enter_into.new.view c.foresee.new.view gives c.enter_into.ensures.carried c.enter_into.ensures.tree c.foresee.ensures.others will c.enter.new.cell keeps may g.V.Visitor.entered g.V.Visitor.left c.args.visitor.now c.enter.new.self c.walk_below.new.visitor c.walk_below.new.store called below c.leave.new.cell c.leave.ensures.keeps may')

pub walk-returns-clause-done : goal.walk-returns-clause-done
walk-returns-clause-done g t c = on_ok c.leave_from.result (λ out m made more asks.
    let held = (sym (c.is_held.ensures m.sweep (course_is m.sweep c.args.store.now c.args.kind c.course-course.result asks.before.of asks.before.served c.course-course.ensures)) ∙ c.if-not-is_held.false) in
    let gives = c.enter_into.ensures.entered m made (after_enter m made more (g.V.Visitor.meaning c.args.visitor.now) (option_map (λ v. v.now) c.args.parent) c.args.cell c.args.kind c.args.store.now asks c.requires.cell held) (enter_asks m made more (g.V.Visitor.meaning c.args.visitor.now) (option_map (λ v. v.now) c.args.parent) c.args.cell c.args.kind c.args.store.now asks c.requires.cell held) in
    let will = foresees m made (after_enter m made more (g.V.Visitor.meaning c.args.visitor.now) (option_map (λ v. v.now) c.args.parent) c.args.cell c.args.kind c.args.store.now asks c.requires.cell held) (option_map (λ v. v.now) c.args.parent) c.args.cell c.args.kind c.args.store.now c.course-course.result c.course-course.ensures (enter_asks m made more (g.V.Visitor.meaning c.args.visitor.now) (option_map (λ v. v.now) c.args.parent) c.args.cell c.args.kind c.args.store.now asks c.requires.cell held) c.enter_into.new.store c.enter_into.new.view c.foresee.new.view gives (g.V.Visitor.meaning c.args.visitor.now) asks.for_sweep (c.foresee.ensures.will m) in
    let keeps = c.enter.ensures.keeps in
    let may = subst (λ v. MayEnter (g.V.Visitor.meaning v).serves (g.V.Visitor.meaning v).new_grid c.foresee.new.view c.enter.new.cell) c.foresee.ensures.visitor c.enter.ensures.slots in
    let same : g.V.Visitor.meaning c.enter.new.self ≡ (g.V.Visitor.meaning c.args.visitor.now) = c.enter.ensures.same ∙ ap (λ v. g.V.Visitor.meaning v) c.foresee.ensures.visitor in
    let called = subst (λ v. g.V.Visitor.entered v c.foresee.new.view c.enter.new.cell c.enter.new.self) c.foresee.ensures.visitor c.in_ok-enter.ensures.done in
    let below = c.in_ok-walk_below.ensures.done (first_story m made more (g.V.Visitor.meaning c.args.visitor.now) (option_map (λ v. v.now) c.args.parent) c.args.cell c.args.kind c.args.store.now asks c.requires.cell held c.enter_into.new.store c.enter_into.new.view c.foresee.new.view gives c.enter_into.ensures.carried c.enter_into.ensures.tree c.foresee.ensures.others will c.enter.new.cell keeps may) (made_first m made more (g.V.Visitor.meaning c.args.visitor.now) (option_map (λ v. v.now) c.args.parent) c.args.cell c.args.kind c.args.store.now asks c.requires.cell held) (leave c.args.cell ∷ more) (below_asks m made more (g.V.Visitor.meaning c.args.visitor.now) (option_map (λ v. v.now) c.args.parent) c.args.cell c.args.kind c.args.store.now asks c.requires.cell held c.enter_into.new.store c.enter_into.new.view c.foresee.new.view gives c.enter_into.ensures.carried c.enter_into.ensures.tree c.foresee.ensures.others will c.enter.new.cell keeps may (g.V.Visitor.meaning c.enter.new.self) same) in
    let may' = subst (λ v. MayLeave v.serves v.new_grid c.enter.new.cell c.leave.new.cell) (c.walk_below.ensures.same ∙ same) c.leave.ensures.slots in
    walked m made more (g.V.Visitor.meaning c.args.visitor.now) (option_map (λ v. v.now) c.args.parent) c.args.cell c.args.kind c.args.store.now asks c.requires.cell held c.enter_into.new.store c.enter_into.new.view c.foresee.new.view gives c.enter_into.ensures.carried c.enter_into.ensures.tree c.foresee.ensures.others will c.enter.new.cell keeps may g.V.Visitor.entered g.V.Visitor.left c.args.visitor.now c.enter.new.self c.walk_below.new.visitor c.walk_below.new.store called below c.leave.new.cell c.leave.ensures.keeps may' c.leave.new.self c.leave_from.new.store c.in_ok-leave.ensures.done c.leave_from.ensures.tree (out (last_story m made more (g.V.Visitor.meaning c.args.visitor.now) (option_map (λ v. v.now) c.args.parent) c.args.cell c.args.kind c.args.store.now asks c.requires.cell held c.enter_into.new.store c.enter_into.new.view c.foresee.new.view gives c.enter_into.ensures.carried c.enter_into.ensures.tree c.foresee.ensures.others will c.enter.new.cell keeps may g.V.Visitor.entered g.V.Visitor.left c.args.visitor.now c.enter.new.self c.walk_below.new.visitor c.walk_below.new.store called below c.leave.new.cell c.leave.ensures.keeps may') (made_last m made more (g.V.Visitor.meaning c.args.visitor.now) (option_map (λ v. v.now) c.args.parent) c.args.cell c.args.kind c.args.store.now asks c.requires.cell held c.enter_into.new.store c.enter_into.new.view c.foresee.new.view gives c.enter_into.ensures.carried c.enter_into.ensures.tree c.foresee.ensures.others will c.enter.new.cell keeps may g.V.Visitor.entered g.V.Visitor.left c.args.visitor.now c.enter.new.self c.walk_below.new.visitor c.walk_below.new.store called below c.leave.new.cell c.leave.ensures.keeps may') more (leave_asks m made more (g.V.Visitor.meaning c.args.visitor.now) (option_map (λ v. v.now) c.args.parent) c.args.cell c.args.kind c.args.store.now asks c.requires.cell held c.enter_into.new.store c.enter_into.new.view c.foresee.new.view gives c.enter_into.ensures.carried c.enter_into.ensures.tree c.foresee.ensures.others will c.enter.new.cell keeps may g.V.Visitor.entered g.V.Visitor.left c.args.visitor.now c.enter.new.self c.walk_below.new.visitor c.walk_below.new.store called below c.leave.new.cell c.leave.ensures.keeps may'))) c.leave_from.ensures.left

pub walk_below-returns-then-not-is_opened-clause-done : goal.walk_below-returns-then-not-is_opened-clause-done
walk_below-returns-then-not-is_opened-clause-done g t c = λ m made more asks. below_closed g.V.Visitor.entered g.V.Visitor.left m made more (g.V.Visitor.meaning c.args.visitor.now) c.args.view.now.key c.args.view.now c.args.kind c.args.store.now c.args.visitor.now (sym (c.is_opened.ensures m.sweep asks.sweep asks.view_is) ∙ c.if-not-is_opened.true) asks

pub walk_below-looked_at-around-requires-clause-cell : goal.walk_below-looked_at-around-requires-clause-cell
walk_below-looked_at-around-requires-clause-cell g t c = subst (λ d. IsCell d c.args.view.now.key) (sym c.dim-dim.ensures) c.requires.cell

pub walk_below-looked_at-around-requires-clause-above : goal.walk_below-looked_at-around-requires-clause-above
walk_below-looked_at-around-requires-clause-above g t c =
    let r = c.requires.asks in
    let open_ = sym (c.is_opened.ensures r.0.sweep r.3.sweep r.3.view_is) ∙ c.if-not-is_opened.false in
    let above : c.args.view.now.key.level < r.0.sweep.plan.depth = opened_level r.0.sweep.plan c.args.view.now.key (sweep_plan r.0.sweep r.3.sweep) open_ in
    let e : c.depth.result ≡ r.0.sweep.plan.depth = c.depth.ensures ∙ r.3.of.depth in
    omega (arith, above, e)

pub walk_below-looked_at-around-requires-clause-depth : goal.walk_below-looked_at-around-requires-clause-depth
walk_below-looked_at-around-requires-clause-depth g t c = let r = c.requires.asks in subst (λ d. d ≤ 12) (sym (c.depth.ensures ∙ r.3.of.depth)) r.3.sweep.deep

pub walk_below-told_below-told-requires-clause-cell : goal.walk_below-told_below-told-requires-clause-cell
walk_below-told_below-told-requires-clause-cell g t c = subst (λ d. IsCell d c.args.view.now.key) (sym c.dim-dim.ensures) c.requires.cell

pub walk_below-first_child-child-requires-clause-above : goal.walk_below-first_child-child-requires-clause-above
walk_below-first_child-child-requires-clause-above g t c =
    let r = c.requires.asks in
    let open_ = sym (c.is_opened.ensures r.0.sweep r.3.sweep r.3.view_is) ∙ c.if-not-is_opened.false in
    let above : c.args.view.now.key.level < r.0.sweep.plan.depth = opened_level r.0.sweep.plan c.args.view.now.key (sweep_plan r.0.sweep r.3.sweep) open_ in
    let deep : r.0.sweep.plan.depth ≤ 12 = r.3.sweep.deep in
    omega (arith, above, deep)

pub walk_below-returns-clause-places : goal.walk_below-returns-clause-places
walk_below-returns-clause-places g t c =
    let level : c.first_child-child.result.level ≡ c.args.view.now.key.level + 1 = ap (λ k. k.level) c.first_child-child.ensures.value ∙ child_level c.direction.result c.dim-dim.result c.args.view.now.key 0 in
    on_ok_both c.walk_from.result (λ first rest. places_joined c.args.store.now.lanes.dim (c.args.view.now.key.level + 1) c.walk_from.new.view c.walk_from.new.below first (subst (λ l. HavePlaces c.args.store.now.lanes.dim (l + 1) c.walk_from.new.below) level rest)) c.walk_from.ensures.place c.walk_from.ensures.places

pub walk_below-told_below-told-requires-clause-room : goal.walk_below-told_below-told-requires-clause-room
walk_below-told_below-told-requires-clause-room g t c =
    let r = c.requires.asks in
    let open_ = sym (c.is_opened.ensures r.0.sweep r.3.sweep r.3.view_is) ∙ c.if-not-is_opened.false in
    let above : c.args.view.now.key.level < r.0.sweep.plan.depth = opened_level r.0.sweep.plan c.args.view.now.key (sweep_plan r.0.sweep r.3.sweep) open_ in
    let deep : r.0.sweep.plan.depth ≤ 12 = r.3.sweep.deep in
    omega (arith, above, deep)

pub walk_below-walk_from-requires : goal.walk_below-walk_from-requires
walk_below-walk_from-requires g t c κs within =
    let r = c.requires.asks in
    let open_ = sym (c.is_opened.ensures r.0.sweep r.3.sweep r.3.view_is) ∙ c.if-not-is_opened.false in
    let above : c.args.view.now.key.level < r.0.sweep.plan.depth = opened_level r.0.sweep.plan c.args.view.now.key (sweep_plan r.0.sweep r.3.sweep) open_ in
    let deep : r.0.sweep.plan.depth ≤ 12 = r.3.sweep.deep in
    let level : c.first_child-child.result.level ≡ c.args.view.now.key.level + 1 = ap (λ k. k.level) c.first_child-child.ensures.value ∙ child_level c.direction.result c.dim-dim.result c.args.view.now.key 0 in
    let few : children c.args.store.now.lanes.dim < 28 = children_most c.args.store.now.lanes.dim in
    let own : IsCell c.args.store.now.lanes.dim c.first_child-child.result = subst (λ d. IsCell d c.first_child-child.result) c.dim-dim.ensures c.first_child-child.ensures.cell in
    (omega (arith, level, above, deep, few, c.decreases), (within, (own, (looked_round c.args.store.now c.dim-dim.result c.depth.result c.range.result c.args.view.now.key c.args.round.now c.looked_at-around.result c.dim-dim.ensures c.depth.ensures c.range.ensures c.requires.round c.looked_at-around.ensures.same, (subst (λ d. IsTold d (served_by c.args.kind) c.args.view.now c.told_below-told.result) c.dim-dim.ensures (subst (λ v. IsTold c.dim-dim.result v c.args.view.now c.told_below-told.result) c.of.ensures c.told_below-told.ensures), (first_place_of c.args.store.now.lanes.dim (c.args.view.now.key.level + 1) c.in-Some.first.now c.in-Some.below.now (subst (λ vs. HavePlaces c.args.store.now.lanes.dim (c.args.view.now.key.level + 1) vs) c.in-Some.ensures.cases.0 c.requires.places), (subst (λ l. HavePlaces c.args.store.now.lanes.dim (l + 1) c.in-Some.below.now) (sym level) (other_places c.args.store.now.lanes.dim (c.args.view.now.key.level + 1) c.in-Some.first.now c.in-Some.below.now (subst (λ vs. HavePlaces c.args.store.now.lanes.dim (c.args.view.now.key.level + 1) vs) c.in-Some.ensures.cases.0 c.requires.places)), (c.first_child-child.ensures.parent, (omega (arith, level), (r.0, r.1, r.2, asks_open r.0 r.1 r.2 (g.V.Visitor.meaning c.args.visitor.now) c.args.view.now.key c.first_child-child.result c.args.view.now c.args.kind c.args.store.now open_ c.first_child-child.ensures.parent (first_place r.0.sweep c.args.store.now c.direction.result c.dim-dim.result c.first_child-child.result r.3.of c.direction.ensures c.dim-dim.ensures c.first_child-child.ensures.first) r.3, open_))))))))))

pub walk_below-returns-clause-done : goal.walk_below-returns-clause-done
walk_below-returns-clause-done g t c = on_ok c.walk_from.result (λ out m made more asks.
    let open_ = sym (c.is_opened.ensures m.sweep asks.sweep asks.view_is) ∙ c.if-not-is_opened.false in
    let place = first_place m.sweep c.args.store.now c.direction.result c.dim-dim.result c.first_child-child.result asks.of c.direction.ensures c.dim-dim.ensures c.first_child-child.ensures.first in
    subst (λ vs. VisitsGive g.V.Visitor.entered g.V.Visitor.left m made vs more c.walk_from.new.store c.args.visitor.now c.walk_from.new.visitor) (sym (below_open m.sweep.plan c.args.view.now.key c.first_child-child.result open_ c.first_child-child.ensures.parent place))
    (out m made more (asks_open m made more (g.V.Visitor.meaning c.args.visitor.now) c.args.view.now.key c.first_child-child.result c.args.view.now c.args.kind c.args.store.now open_ c.first_child-child.ensures.parent place asks) open_)) c.walk_from.ensures.done

pub walk_below-returns-clause-memory : goal.walk_below-returns-clause-memory
walk_below-returns-clause-memory g t c = λ m made more asks has.
    let open_ = sym (c.is_opened.ensures m.sweep asks.sweep asks.view_is) ∙ c.if-not-is_opened.false in
    let place = first_place m.sweep c.args.store.now c.direction.result c.dim-dim.result c.first_child-child.result asks.of c.direction.ensures c.dim-dim.ensures c.first_child-child.ensures.first in
    c.walk_from.ensures.memory m made more (asks_open m made more (g.V.Visitor.meaning c.args.visitor.now) c.args.view.now.key c.first_child-child.result c.args.view.now c.args.kind c.args.store.now open_ c.first_child-child.ensures.parent place asks) open_ has

pub walk_from-walk-requires : goal.walk_from-walk-requires
walk_from-walk-requires g t c κs within =
    let r = c.requires.asks in
    (omega (arith, c.decreases), (within, (c.requires.cell, (child_round c.args.store.now c.dim-dim.result c.direction-dir.result c.args.cell c.args.parent.now.key c.args.above.now c.below-round.result c.dim-dim.ensures c.direction-dir.ensures c.requires.child (child_within r.0 (g.V.Visitor.meaning c.args.visitor.now) r.1 r.2 c.args.parent.now.key c.args.cell c.args.parent.now _ c.args.kind c.args.store.now r.3 r.4 c.requires.child c.requires.below) c.requires.round c.below-round.ensures, (c.requires.told, (c.requires.place, (c.requires.places, (r.0, r.1, others r.0 r.1 r.2 (g.V.Visitor.meaning c.args.visitor.now) c.args.parent.now.key c.args.cell c.args.parent.now c.args.kind c.args.store.now r.3 r.4 c.requires.cell c.requires.child c.requires.below ++ r.2, walk_asks r.0 r.1 r.2 (g.V.Visitor.meaning c.args.visitor.now) c.args.parent.now.key c.args.cell c.args.parent.now c.args.kind c.args.store.now r.3 r.4 c.requires.cell c.requires.child c.requires.below))))))))

pub walk_from-next_child-requires-clause-cell : goal.walk_from-next_child-requires-clause-cell
walk_from-next_child-requires-clause-cell g t c =
    let r = c.requires.asks in
    subst (λ d. IsCell d c.args.cell) (sym (c.dim-dim.ensures ∙ sym c.walk.ensures.tree.dim)) (cell_kept r.0 r.1 r.2 (g.V.Visitor.meaning c.args.visitor.now) c.args.parent.now.key c.args.cell c.args.parent.now c.args.kind c.args.store.now r.3 r.4 c.requires.cell c.requires.child c.requires.below g.V.Visitor.entered g.V.Visitor.left c.walk.new.store c.args.visitor.now c.walk.new.visitor (c.in_ok-walk.ensures.done r.0 r.1 (others r.0 r.1 r.2 (g.V.Visitor.meaning c.args.visitor.now) c.args.parent.now.key c.args.cell c.args.parent.now c.args.kind c.args.store.now r.3 r.4 c.requires.cell c.requires.child c.requires.below ++ r.2) (walk_asks r.0 r.1 r.2 (g.V.Visitor.meaning c.args.visitor.now) c.args.parent.now.key c.args.cell c.args.parent.now c.args.kind c.args.store.now r.3 r.4 c.requires.cell c.requires.child c.requires.below)))

pub walk_from-walk_from-requires : goal.walk_from-walk_from-requires
walk_from-walk_from-requires g t c κs within =
    let r = c.requires.asks in
    let one = (c.in_ok-walk.ensures.done r.0 r.1 (others r.0 r.1 r.2 (g.V.Visitor.meaning c.args.visitor.now) c.args.parent.now.key c.args.cell c.args.parent.now c.args.kind c.args.store.now r.3 r.4 c.requires.cell c.requires.child c.requires.below ++ r.2) (walk_asks r.0 r.1 r.2 (g.V.Visitor.meaning c.args.visitor.now) c.args.parent.now.key c.args.cell c.args.parent.now c.args.kind c.args.store.now r.3 r.4 c.requires.cell c.requires.child c.requires.below)) in
    let follows = place_moved c.walk.new.store c.direction-dir.result c.dim-dim.result c.args.cell c.in-Some.next (c.direction-dir.ensures ∙ sym c.walk.ensures.tree.dir) (c.dim-dim.ensures ∙ sym c.walk.ensures.tree.dim) c.in-Some.ensures.last in
    let own : IsCell c.walk.new.store.lanes.dim c.in-Some.next = subst (λ d. IsCell d c.in-Some.next) (c.dim-dim.ensures ∙ sym c.walk.ensures.tree.dim) c.in-Some.ensures.cell in
    let equal : c.in-Some.next.level ≡ c.args.cell.level = next_level c.direction-dir.result c.dim-dim.result c.args.cell c.in-Some.next c.requires.below c.in-Some.ensures.value in
    let falls = rest_falls c.args.store.now c.walk.new.store c.args.cell c.in-Some.next c.walk.ensures.tree.dim c.walk.ensures.tree.dir equal follows in
    (omega (arith, falls, c.decreases), (within, (own, (round_kept c.args.store.now c.walk.new.store c.args.parent.now.key c.args.parent.now.key c.args.above.now c.walk.ensures.tree refl c.requires.round, (subst (λ d. IsTold d (served_by c.args.kind) c.args.parent.now c.args.told.now) (sym c.walk.ensures.tree.dim) c.requires.told, (subst (λ d. IsPlace d c.walk.new.view) (sym c.walk.ensures.tree.dim) c.in_ok-walk.ensures.place, (places_at c.args.store.now.lanes.dim c.walk.new.store.lanes.dim c.args.cell.level c.in-Some.next.level c.walk.new.below c.walk.ensures.tree.dim equal c.in_ok-walk.ensures.places, (c.in-Some.ensures.parent ∙ c.requires.child, (omega (arith, equal, c.requires.below), (with_calls r.0 one.calls, made_one r.0 r.1 r.2 (g.V.Visitor.meaning c.args.visitor.now) c.args.parent.now.key c.args.cell c.args.parent.now c.args.kind c.args.store.now r.3 r.4 c.requires.cell c.requires.child c.requires.below g.V.Visitor.entered g.V.Visitor.left c.walk.new.store c.args.visitor.now c.walk.new.visitor one, r.2, next_asks r.0 r.1 r.2 (g.V.Visitor.meaning c.args.visitor.now) c.args.parent.now.key c.args.cell c.args.parent.now c.args.kind c.args.store.now r.3 r.4 c.requires.cell c.requires.child c.requires.below g.V.Visitor.entered g.V.Visitor.left c.walk.new.store c.args.visitor.now c.walk.new.visitor one c.in-Some.next (g.V.Visitor.meaning c.walk.new.visitor) c.walk.ensures.same c.in-Some.ensures.parent follows, r.4))))))))))

pub walk_from-returns-in-Some-clause-done : goal.walk_from-returns-in-Some-clause-done
walk_from-returns-in-Some-clause-done g t c = on_ok c.walk_from.result (λ out m made more asks open_.
    let one = (c.in_ok-walk.ensures.done m made (others m made more (g.V.Visitor.meaning c.args.visitor.now) c.args.parent.now.key c.args.cell c.args.parent.now c.args.kind c.args.store.now asks open_ c.requires.cell c.requires.child c.requires.below ++ more) (walk_asks m made more (g.V.Visitor.meaning c.args.visitor.now) c.args.parent.now.key c.args.cell c.args.parent.now c.args.kind c.args.store.now asks open_ c.requires.cell c.requires.child c.requires.below)) in
    let follows = place_moved c.walk.new.store c.direction-dir.result c.dim-dim.result c.args.cell c.in-Some.next (c.direction-dir.ensures ∙ sym c.walk.ensures.tree.dir) (c.dim-dim.ensures ∙ sym c.walk.ensures.tree.dim) c.in-Some.ensures.last in
    rest_gives m made more (g.V.Visitor.meaning c.args.visitor.now) c.args.parent.now.key c.args.cell c.args.parent.now c.args.kind c.args.store.now asks open_ c.requires.cell c.requires.child c.requires.below g.V.Visitor.entered g.V.Visitor.left c.walk.new.store c.args.visitor.now c.walk.new.visitor one c.in-Some.next c.walk_from.new.store c.walk_from.new.visitor c.in-Some.ensures.parent follows (out (with_calls m one.calls) (made_one m made more (g.V.Visitor.meaning c.args.visitor.now) c.args.parent.now.key c.args.cell c.args.parent.now c.args.kind c.args.store.now asks open_ c.requires.cell c.requires.child c.requires.below g.V.Visitor.entered g.V.Visitor.left c.walk.new.store c.args.visitor.now c.walk.new.visitor one) more (next_asks m made more (g.V.Visitor.meaning c.args.visitor.now) c.args.parent.now.key c.args.cell c.args.parent.now c.args.kind c.args.store.now asks open_ c.requires.cell c.requires.child c.requires.below g.V.Visitor.entered g.V.Visitor.left c.walk.new.store c.args.visitor.now c.walk.new.visitor one c.in-Some.next (g.V.Visitor.meaning c.walk.new.visitor) c.walk.ensures.same c.in-Some.ensures.parent follows) open_)) c.walk_from.ensures.done

pub walk_from-returns-in-None-clause-done : goal.walk_from-returns-in-None-clause-done
walk_from-returns-in-None-clause-done g t c = λ m made more asks open_. last_gives m made more (g.V.Visitor.meaning c.args.visitor.now) c.args.parent.now.key c.args.cell c.args.parent.now c.args.kind c.args.store.now asks open_ c.requires.cell c.requires.child c.requires.below g.V.Visitor.entered g.V.Visitor.left c.walk.new.store c.args.visitor.now c.walk.new.visitor (c.in_ok-walk.ensures.done m made (others m made more (g.V.Visitor.meaning c.args.visitor.now) c.args.parent.now.key c.args.cell c.args.parent.now c.args.kind c.args.store.now asks open_ c.requires.cell c.requires.child c.requires.below ++ more) (walk_asks m made more (g.V.Visitor.meaning c.args.visitor.now) c.args.parent.now.key c.args.cell c.args.parent.now c.args.kind c.args.store.now asks open_ c.requires.cell c.requires.child c.requires.below)) (last_moved c.walk.new.store c.direction-dir.result c.dim-dim.result c.args.cell (c.direction-dir.ensures ∙ sym c.walk.ensures.tree.dir) (c.dim-dim.ensures ∙ sym c.walk.ensures.tree.dim) c.in-None.ensures.last)

pub walk_from-returns-in_err-walk-clause-memory : goal.walk_from-returns-in_err-walk-clause-memory
walk_from-returns-in_err-walk-clause-memory g t c = λ m made more asks open_ has. absurd (false≢true (subst IsOk c.in_err-walk.was (c.walk.ensures.memory m made (others m made more (g.V.Visitor.meaning c.args.visitor.now) c.args.parent.now.key c.args.cell c.args.parent.now c.args.kind c.args.store.now asks open_ c.requires.cell c.requires.child c.requires.below ++ more) (walk_asks m made more (g.V.Visitor.meaning c.args.visitor.now) c.args.parent.now.key c.args.cell c.args.parent.now c.args.kind c.args.store.now asks open_ c.requires.cell c.requires.child c.requires.below) has)))

pub walk_from-returns-in-Some-clause-memory : goal.walk_from-returns-in-Some-clause-memory
walk_from-returns-in-Some-clause-memory g t c = λ m made more asks open_ has.
    let one = (c.in_ok-walk.ensures.done m made (others m made more (g.V.Visitor.meaning c.args.visitor.now) c.args.parent.now.key c.args.cell c.args.parent.now c.args.kind c.args.store.now asks open_ c.requires.cell c.requires.child c.requires.below ++ more) (walk_asks m made more (g.V.Visitor.meaning c.args.visitor.now) c.args.parent.now.key c.args.cell c.args.parent.now c.args.kind c.args.store.now asks open_ c.requires.cell c.requires.child c.requires.below)) in
    let follows = place_moved c.walk.new.store c.direction-dir.result c.dim-dim.result c.args.cell c.in-Some.next (c.direction-dir.ensures ∙ sym c.walk.ensures.tree.dir) (c.dim-dim.ensures ∙ sym c.walk.ensures.tree.dim) c.in-Some.ensures.last in
    c.walk_from.ensures.memory (with_calls m one.calls) (made_one m made more (g.V.Visitor.meaning c.args.visitor.now) c.args.parent.now.key c.args.cell c.args.parent.now c.args.kind c.args.store.now asks open_ c.requires.cell c.requires.child c.requires.below g.V.Visitor.entered g.V.Visitor.left c.walk.new.store c.args.visitor.now c.walk.new.visitor one) more (next_asks m made more (g.V.Visitor.meaning c.args.visitor.now) c.args.parent.now.key c.args.cell c.args.parent.now c.args.kind c.args.store.now asks open_ c.requires.cell c.requires.child c.requires.below g.V.Visitor.entered g.V.Visitor.left c.walk.new.store c.args.visitor.now c.walk.new.visitor one c.in-Some.next (g.V.Visitor.meaning c.walk.new.visitor) c.walk.ensures.same c.in-Some.ensures.parent follows) open_ (room_kept m.sweep (g.V.Visitor.meaning c.args.visitor.now) (g.V.Visitor.meaning c.walk.new.visitor) c.args.kind c.args.store.now c.walk.new.store asks.served c.walk.ensures.same c.in_ok-walk.ensures.room has)

pub walk_from-returns-in-Some-clause-tree : goal.walk_from-returns-in-Some-clause-tree
walk_from-returns-in-Some-clause-tree g t c = same_again c.args.store.now c.walk.new.store c.walk_from.new.store c.walk.ensures.tree c.walk_from.ensures.tree

pub walk_from-returns-in-Some-clause-room : goal.walk_from-returns-in-Some-clause-room
walk_from-returns-in-Some-clause-room g t c = on_ok c.walk_from.result (keeps_again c.args.kind c.args.store.now c.walk.new.store c.walk_from.new.store c.in_ok-walk.ensures.room) c.walk_from.ensures.room

pub walk-returns-in_err-walk_below-clause-memory : goal.walk-returns-in_err-walk_below-clause-memory
walk-returns-in_err-walk_below-clause-memory g t c = λ m made more asks has.
    let held = (sym (c.is_held.ensures m.sweep (course_is m.sweep c.args.store.now c.args.kind c.course-course.result asks.before.of asks.before.served c.course-course.ensures)) ∙ c.if-not-is_held.false) in
    let gives = c.enter_into.ensures.entered m made (after_enter m made more (g.V.Visitor.meaning c.args.visitor.now) (option_map (λ v. v.now) c.args.parent) c.args.cell c.args.kind c.args.store.now asks c.requires.cell held) (enter_asks m made more (g.V.Visitor.meaning c.args.visitor.now) (option_map (λ v. v.now) c.args.parent) c.args.cell c.args.kind c.args.store.now asks c.requires.cell held) in
    let will = foresees m made (after_enter m made more (g.V.Visitor.meaning c.args.visitor.now) (option_map (λ v. v.now) c.args.parent) c.args.cell c.args.kind c.args.store.now asks c.requires.cell held) (option_map (λ v. v.now) c.args.parent) c.args.cell c.args.kind c.args.store.now c.course-course.result c.course-course.ensures (enter_asks m made more (g.V.Visitor.meaning c.args.visitor.now) (option_map (λ v. v.now) c.args.parent) c.args.cell c.args.kind c.args.store.now asks c.requires.cell held) c.enter_into.new.store c.enter_into.new.view c.foresee.new.view gives (g.V.Visitor.meaning c.args.visitor.now) asks.for_sweep (c.foresee.ensures.will m) in
    let keeps = c.enter.ensures.keeps in
    let may = subst (λ v. MayEnter (g.V.Visitor.meaning v).serves (g.V.Visitor.meaning v).new_grid c.foresee.new.view c.enter.new.cell) c.foresee.ensures.visitor c.enter.ensures.slots in
    let same : g.V.Visitor.meaning c.enter.new.self ≡ (g.V.Visitor.meaning c.args.visitor.now) = c.enter.ensures.same ∙ ap (λ v. g.V.Visitor.meaning v) c.foresee.ensures.visitor in
    absurd (false≢true (subst IsOk c.in_err-walk_below.was (c.walk_below.ensures.memory (first_story m made more (g.V.Visitor.meaning c.args.visitor.now) (option_map (λ v. v.now) c.args.parent) c.args.cell c.args.kind c.args.store.now asks c.requires.cell held c.enter_into.new.store c.enter_into.new.view c.foresee.new.view gives c.enter_into.ensures.carried c.enter_into.ensures.tree c.foresee.ensures.others will c.enter.new.cell keeps may) (made_first m made more (g.V.Visitor.meaning c.args.visitor.now) (option_map (λ v. v.now) c.args.parent) c.args.cell c.args.kind c.args.store.now asks c.requires.cell held) (leave c.args.cell ∷ more) (below_asks m made more (g.V.Visitor.meaning c.args.visitor.now) (option_map (λ v. v.now) c.args.parent) c.args.cell c.args.kind c.args.store.now asks c.requires.cell held c.enter_into.new.store c.enter_into.new.view c.foresee.new.view gives c.enter_into.ensures.carried c.enter_into.ensures.tree c.foresee.ensures.others will c.enter.new.cell keeps may (g.V.Visitor.meaning c.enter.new.self) same) (subst (λ x. HasRoom m.sweep x c.enter_into.new.store) (sym same) (room_entered m.sweep (g.V.Visitor.meaning c.args.visitor.now) c.args.kind c.args.store.now c.enter_into.new.store c.enter_into.new.view asks.before.served c.enter_into.ensures.others c.enter_into.ensures.spare has)))))

pub walk-returns-clause-room : goal.walk-returns-clause-room
walk-returns-clause-room g t c = on_ok c.leave_from.result (λ left. room_walked c.args.kind c.args.store.now c.enter_into.new.store c.walk_below.new.store c.leave_from.new.store (vertices_in c.enter_into.new.view.corners) (vertices_in c.leave.new.cell.corners) (vertices_kept c.enter.new.cell c.leave.new.cell c.leave.ensures.keeps ∙ (vertices_kept c.foresee.new.view c.enter.new.cell c.enter.ensures.keeps ∙ ap (λ z. vertices_in z.corners) c.foresee.ensures.others)) c.enter_into.ensures.others c.enter_into.ensures.spare c.in_ok-walk_below.ensures.room c.leave_from.ensures.room left) c.leave_from.ensures.spare

pub walk-returns-clause-memory : goal.walk-returns-clause-memory
walk-returns-clause-memory g t c = λ m made more asks has.
    let held = (sym (c.is_held.ensures m.sweep (course_is m.sweep c.args.store.now c.args.kind c.course-course.result asks.before.of asks.before.served c.course-course.ensures)) ∙ c.if-not-is_held.false) in
    let gives = c.enter_into.ensures.entered m made (after_enter m made more (g.V.Visitor.meaning c.args.visitor.now) (option_map (λ v. v.now) c.args.parent) c.args.cell c.args.kind c.args.store.now asks c.requires.cell held) (enter_asks m made more (g.V.Visitor.meaning c.args.visitor.now) (option_map (λ v. v.now) c.args.parent) c.args.cell c.args.kind c.args.store.now asks c.requires.cell held) in
    let will = foresees m made (after_enter m made more (g.V.Visitor.meaning c.args.visitor.now) (option_map (λ v. v.now) c.args.parent) c.args.cell c.args.kind c.args.store.now asks c.requires.cell held) (option_map (λ v. v.now) c.args.parent) c.args.cell c.args.kind c.args.store.now c.course-course.result c.course-course.ensures (enter_asks m made more (g.V.Visitor.meaning c.args.visitor.now) (option_map (λ v. v.now) c.args.parent) c.args.cell c.args.kind c.args.store.now asks c.requires.cell held) c.enter_into.new.store c.enter_into.new.view c.foresee.new.view gives (g.V.Visitor.meaning c.args.visitor.now) asks.for_sweep (c.foresee.ensures.will m) in
    let keeps = c.enter.ensures.keeps in
    let may = subst (λ v. MayEnter (g.V.Visitor.meaning v).serves (g.V.Visitor.meaning v).new_grid c.foresee.new.view c.enter.new.cell) c.foresee.ensures.visitor c.enter.ensures.slots in
    let same : g.V.Visitor.meaning c.enter.new.self ≡ (g.V.Visitor.meaning c.args.visitor.now) = c.enter.ensures.same ∙ ap (λ v. g.V.Visitor.meaning v) c.foresee.ensures.visitor in
    let called = subst (λ v. g.V.Visitor.entered v c.foresee.new.view c.enter.new.cell c.enter.new.self) c.foresee.ensures.visitor c.in_ok-enter.ensures.done in
    let below = c.in_ok-walk_below.ensures.done (first_story m made more (g.V.Visitor.meaning c.args.visitor.now) (option_map (λ v. v.now) c.args.parent) c.args.cell c.args.kind c.args.store.now asks c.requires.cell held c.enter_into.new.store c.enter_into.new.view c.foresee.new.view gives c.enter_into.ensures.carried c.enter_into.ensures.tree c.foresee.ensures.others will c.enter.new.cell keeps may) (made_first m made more (g.V.Visitor.meaning c.args.visitor.now) (option_map (λ v. v.now) c.args.parent) c.args.cell c.args.kind c.args.store.now asks c.requires.cell held) (leave c.args.cell ∷ more) (below_asks m made more (g.V.Visitor.meaning c.args.visitor.now) (option_map (λ v. v.now) c.args.parent) c.args.cell c.args.kind c.args.store.now asks c.requires.cell held c.enter_into.new.store c.enter_into.new.view c.foresee.new.view gives c.enter_into.ensures.carried c.enter_into.ensures.tree c.foresee.ensures.others will c.enter.new.cell keeps may (g.V.Visitor.meaning c.enter.new.self) same) in
    let may' = subst (λ v. MayLeave v.serves v.new_grid c.enter.new.cell c.leave.new.cell) (c.walk_below.ensures.same ∙ same) c.leave.ensures.slots in
    let after = room_kept m.sweep (g.V.Visitor.meaning c.enter.new.self) (g.V.Visitor.meaning c.walk_below.new.visitor) c.args.kind c.enter_into.new.store c.walk_below.new.store asks.before.served c.walk_below.ensures.same c.in_ok-walk_below.ensures.room (subst (λ x. HasRoom m.sweep x c.enter_into.new.store) (sym same) (room_entered m.sweep (g.V.Visitor.meaning c.args.visitor.now) c.args.kind c.args.store.now c.enter_into.new.store c.enter_into.new.view asks.before.served c.enter_into.ensures.others c.enter_into.ensures.spare has)) in
    let kept : is_visited m.sweep.plan c.leave.new.cell.key ≡ true = subst (λ k. is_visited m.sweep.plan k ≡ true) (sym (last_key m made more (g.V.Visitor.meaning c.args.visitor.now) (option_map (λ v. v.now) c.args.parent) c.args.cell c.args.kind c.args.store.now asks c.requires.cell held c.enter_into.new.store c.enter_into.new.view c.foresee.new.view gives c.enter_into.ensures.carried c.enter_into.ensures.tree c.foresee.ensures.others will c.enter.new.cell keeps may g.V.Visitor.entered g.V.Visitor.left c.args.visitor.now c.enter.new.self c.walk_below.new.visitor c.walk_below.new.store called below c.leave.new.cell c.leave.ensures.keeps may')) (there m made more (g.V.Visitor.meaning c.args.visitor.now) (option_map (λ v. v.now) c.args.parent) c.args.cell c.args.kind c.args.store.now asks c.requires.cell held) in
    c.leave_from.ensures.memory
    (room_to_leave c.args.kind c.args.store.now c.enter_into.new.store c.walk_below.new.store (vertices_in c.enter_into.new.view.corners) (vertices_in c.leave.new.cell.corners) (asks.before.served ∙ has.plain) (vertices_kept c.enter.new.cell c.leave.new.cell c.leave.ensures.keeps ∙ (vertices_kept c.foresee.new.view c.enter.new.cell c.enter.ensures.keeps ∙ ap (λ z. vertices_in z.corners) c.foresee.ensures.others)) c.enter_into.ensures.spare c.in_ok-walk_below.ensures.room has.vertices)
    (room_for_cell (last_story m made more (g.V.Visitor.meaning c.args.visitor.now) (option_map (λ v. v.now) c.args.parent) c.args.cell c.args.kind c.args.store.now asks c.requires.cell held c.enter_into.new.store c.enter_into.new.view c.foresee.new.view gives c.enter_into.ensures.carried c.enter_into.ensures.tree c.foresee.ensures.others will c.enter.new.cell keeps may g.V.Visitor.entered g.V.Visitor.left c.args.visitor.now c.enter.new.self c.walk_below.new.visitor c.walk_below.new.store called below c.leave.new.cell c.leave.ensures.keeps may') (made_last m made more (g.V.Visitor.meaning c.args.visitor.now) (option_map (λ v. v.now) c.args.parent) c.args.cell c.args.kind c.args.store.now asks c.requires.cell held c.enter_into.new.store c.enter_into.new.view c.foresee.new.view gives c.enter_into.ensures.carried c.enter_into.ensures.tree c.foresee.ensures.others will c.enter.new.cell keeps may g.V.Visitor.entered g.V.Visitor.left c.args.visitor.now c.enter.new.self c.walk_below.new.visitor c.walk_below.new.store called below c.leave.new.cell c.leave.ensures.keeps may') more c.leave.new.cell.key c.walk_below.new.store asks.before.sweep has.plain kept (leave_asks m made more (g.V.Visitor.meaning c.args.visitor.now) (option_map (λ v. v.now) c.args.parent) c.args.cell c.args.kind c.args.store.now asks c.requires.cell held c.enter_into.new.store c.enter_into.new.view c.foresee.new.view gives c.enter_into.ensures.carried c.enter_into.ensures.tree c.foresee.ensures.others will c.enter.new.cell keeps may g.V.Visitor.entered g.V.Visitor.left c.args.visitor.now c.enter.new.self c.walk_below.new.visitor c.walk_below.new.store called below c.leave.new.cell c.leave.ensures.keeps may').during after.cells)

pub walk-returns-in_err-enter-clause-tree : goal.walk-returns-in_err-enter-clause-tree
walk-returns-in_err-enter-clause-tree g t c = c.enter_into.ensures.tree

pub walk-returns-in_err-walk_below-clause-tree : goal.walk-returns-in_err-walk_below-clause-tree
walk-returns-in_err-walk_below-clause-tree g t c = same_again c.args.store.now c.enter_into.new.store c.walk_below.new.store c.enter_into.ensures.tree c.walk_below.ensures.tree

pub walk-returns-in_err-leave-clause-tree : goal.walk-returns-in_err-leave-clause-tree
walk-returns-in_err-leave-clause-tree g t c = same_again c.args.store.now c.enter_into.new.store c.walk_below.new.store c.enter_into.ensures.tree c.walk_below.ensures.tree

pub walk-returns-clause-tree : goal.walk-returns-clause-tree
walk-returns-clause-tree g t c = same_again c.args.store.now c.walk_below.new.store c.leave_from.new.store (same_again c.args.store.now c.enter_into.new.store c.walk_below.new.store c.enter_into.ensures.tree c.walk_below.ensures.tree) c.leave_from.ensures.tree

pub walk-returns-clause-place : goal.walk-returns-clause-place
walk-returns-clause-place g t c =
    let entered = place_with_will c.args.store.now.lanes.dim c.enter_into.new.view c.foresee.new.view c.foresee.ensures.others c.enter_into.ensures.place in
    let kept = place_kept c.args.store.now.lanes.dim c.foresee.new.view c.enter.new.cell entered c.enter.ensures.keeps in
    always c.leave_from.result (subst (IsPlace c.args.store.now.lanes.dim) (sym c.leave_from.ensures.stays) (place_kept c.args.store.now.lanes.dim c.enter.new.cell c.leave.new.cell kept c.leave.ensures.keeps))

pub walk-returns-clause-places : goal.walk-returns-clause-places
walk-returns-clause-places g t c =
    let level : c.args.cell.level ≡ c.enter.new.cell.key.level = sym (ap (λ k. k.level) (c.enter.ensures.keeps.key ∙ (ap (λ v. v.key) c.foresee.ensures.others ∙ c.enter_into.ensures.key))) in
    always c.leave_from.result (places_at c.enter_into.new.store.lanes.dim c.args.store.now.lanes.dim c.enter.new.cell.key.level c.args.cell.level c.walk_below.new.views (sym c.enter_into.ensures.tree.dim) level c.in_ok-walk_below.ensures.places)
