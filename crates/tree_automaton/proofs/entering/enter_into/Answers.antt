use Rattle.std.proofs.Common.{refl, subst}
use Rattle.std.specs.Option.{option_map}
use Rattle.tree_automaton.specs.Views.{CarriesFrom}
use Rattle.tree_automaton.proofs.Entered.{decides, moved, to_move, read_asks, corners_ask, are_taken, entered}
use Rattle.tree_automaton.proofs.Handed.{round_in}
use Rattle.tree_automaton.proofs.Told.{told_in}
use Rattle.tree_automaton.proofs.Rooms.{same_again, tree_read, tree_moved}
use Rattle.tree_automaton.proofs.entering.enter_into.Goals as goal

pub read_cell-was-requires : goal.read_cell-was-requires
read_cell-was-requires c =
    let r = c.requires.asks in
    record { asks = (r.0, r.1, r.2, read_asks r.0 r.1 r.2 (option_map (λ v. v.now) c.args.parent) c.args.cell c.args.kind c.args.store.now c.course-course.result c.course-course.ensures r.3) }

pub take_corners-requires-clause-asks : goal.take_corners-requires-clause-asks
take_corners-requires-clause-asks c =
    let r = c.requires.asks in
    let gives = c.read_cell-was.ensures.read r.0 r.1 r.2 (read_asks r.0 r.1 r.2 (option_map (λ v. v.now) c.args.parent) c.args.cell c.args.kind c.args.store.now c.course-course.result c.course-course.ensures r.3) in
    (r.0, moved r.0 r.1 r.2 (option_map (λ v. v.now) c.args.parent) c.args.cell c.args.kind c.args.store.now c.course-course.result c.course-course.ensures r.3, to_move r.0 r.1 r.2 (option_map (λ v. v.now) c.args.parent) c.args.cell c.args.kind c.args.store.now c.course-course.result c.course-course.ensures r.3, corners_ask r.0 r.1 r.2 (option_map (λ v. v.now) c.args.parent) c.args.cell c.args.kind c.args.store.now c.course-course.result c.course-course.ensures r.3 c.read_cell-was.new.store c.read_cell-was.result.0 c.read_cell-was.result.1 gives c.read_cell-was.ensures.others)

pub sides_here-requires-clause-asks : goal.sides_here-requires-clause-asks
sides_here-requires-clause-asks c = let r = c.requires.asks in (r.0.sweep, decides r.0 r.1 r.2 (option_map (λ v. v.now) c.args.parent) c.args.cell c.args.kind c.args.store.now c.course-course.result c.course-course.ensures r.3)

pub carried_here-view-requires-clause-asks : goal.carried_here-view-requires-clause-asks
carried_here-view-requires-clause-asks c = let r = c.requires.asks in (r.0.sweep, decides r.0 r.1 r.2 (option_map (λ v. v.now) c.args.parent) c.args.cell c.args.kind c.args.store.now c.course-course.result c.course-course.ensures r.3)

pub returns-clause-entered : goal.returns-clause-entered
returns-clause-entered c = λ m made more asks.
    let gives = c.read_cell-was.ensures.read m made more (read_asks m made more (option_map (λ v. v.now) c.args.parent) c.args.cell c.args.kind c.args.store.now c.course-course.result c.course-course.ensures asks) in
    let taken = c.take_corners.ensures.taken m (moved m made more (option_map (λ v. v.now) c.args.parent) c.args.cell c.args.kind c.args.store.now c.course-course.result c.course-course.ensures asks) (to_move m made more (option_map (λ v. v.now) c.args.parent) c.args.cell c.args.kind c.args.store.now c.course-course.result c.course-course.ensures asks) (corners_ask m made more (option_map (λ v. v.now) c.args.parent) c.args.cell c.args.kind c.args.store.now c.course-course.result c.course-course.ensures asks c.read_cell-was.new.store c.read_cell-was.result.0 c.read_cell-was.result.1 gives c.read_cell-was.ensures.others) in
    let d = decides m made more (option_map (λ v. v.now) c.args.parent) c.args.cell c.args.kind c.args.store.now c.course-course.result c.course-course.ensures asks in
    let all = are_taken m made more (option_map (λ v. v.now) c.args.parent) c.args.cell c.args.kind c.args.store.now c.course-course.result c.course-course.ensures asks c.read_cell-was.new.store c.read_cell-was.result.0 c.read_cell-was.result.1 gives c.read_cell-was.ensures.others c.take_corners.new.store c.take_corners.new.taken c.take_corners.ensures.eight taken c.take_corners.ensures.others in
    entered m made more (option_map (λ v. v.now) c.args.parent) c.args.cell c.args.kind c.args.store.now c.course-course.result c.course-course.ensures asks c.read_cell-was.new.store c.read_cell-was.result.0 c.read_cell-was.result.1 gives c.read_cell-was.ensures.others c.take_corners.new.store c.take_corners.new.taken c.take_corners.ensures.eight taken c.take_corners.ensures.others c.take_corners.ensures.beyond _ refl refl c.first_will-view.ensures refl refl (λ plain. c.sides_here.ensures m d plain all) (λ plain below. c.carried_here-view.ensures.plain m.sweep d plain below)

pub returns-clause-carried : goal.returns-clause-carried
returns-clause-carried c = subst (λ x. CarriesFrom x.dim (option_map (λ v. v.now) c.args.parent) c.carried_here-view.result) c.course-course.ensures c.carried_here-view.ensures.at_home

pub returns-clause-tree : goal.returns-clause-tree
returns-clause-tree c = same_again c.args.store.now c.read_cell-was.new.store c.take_corners.new.store (tree_read c.args.store.now c.read_cell-was.new.store c.read_cell-was.ensures.others) (tree_moved c.read_cell-was.new.store c.take_corners.new.store c.take_corners.ensures.others)

pub take_corners-requires-clause-round : goal.take_corners-requires-clause-round
take_corners-requires-clause-round c = round_in c.args.store.now c.args.kind c.course-course.result c.args.cell c.args.round.now c.course-course.ensures c.requires.round

pub take_corners-requires-clause-told : goal.take_corners-requires-clause-told
take_corners-requires-clause-told c = told_in c.args.store.now c.args.kind c.course-course.result (option_map (λ v. v.now) c.args.parent) (option_map (λ t. t.now) c.args.told) c.course-course.ensures c.requires.told
