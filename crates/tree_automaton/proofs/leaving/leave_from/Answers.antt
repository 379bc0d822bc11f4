use Rattle.std.specs.Option.{option_map}
use Rattle.tree_automaton.proofs.Results.{on_ok_both}
use Rattle.tree_automaton.proofs.Gives.{told_with, moved, to_move, give_asks, leaves, left}
use Rattle.tree_automaton.proofs.Handed.{round_in}
use Rattle.tree_automaton.proofs.Told.{told_in}
use Rattle.tree_automaton.proofs.Rooms.{same_again, tree_moved, tree_written}
use Rattle.tree_automaton.proofs.leaving.leave_from.Goals as goal

pub give_corners-requires-clause-asks : goal.give_corners-requires-clause-asks
give_corners-requires-clause-asks c =
    let r = c.requires.asks in
    (told_with r.0 r.1 r.2 (option_map (λ v. v.now) c.args.parent) c.args.view.now.key c.args.view.now c.args.kind c.args.store.now c.course-course.result c.course-course.ensures r.3 c.args.view.now, moved r.0 r.1 r.2 (option_map (λ v. v.now) c.args.parent) c.args.view.now.key c.args.view.now c.args.kind c.args.store.now c.course-course.result c.course-course.ensures r.3, to_move r.0 r.1 r.2 (option_map (λ v. v.now) c.args.parent) c.args.view.now.key c.args.view.now c.args.kind c.args.store.now c.course-course.result c.course-course.ensures r.3, give_asks r.0 r.1 r.2 (option_map (λ v. v.now) c.args.parent) c.args.view.now.key c.args.view.now c.args.kind c.args.store.now c.course-course.result c.course-course.ensures r.3 c.args.view.now)

pub write_cell-requires-clause-asks : goal.write_cell-requires-clause-asks
write_cell-requires-clause-asks c = let r = c.requires.asks in (r.0.sweep, leaves r.0 r.1 r.2 (option_map (λ v. v.now) c.args.parent) c.args.view.now.key c.args.view.now c.args.kind c.args.store.now c.course-course.result c.course-course.ensures r.3)

pub returns-clause-left : goal.returns-clause-left
returns-clause-left c = on_ok_both c.write_cell.result (λ wrote counted m made more asks. left m made more (option_map (λ v. v.now) c.args.parent) c.args.view.now.key c.args.view.now c.args.kind c.args.store.now c.course-course.result c.course-course.ensures asks c.give_corners.new.store c.write_cell.new.store (λ given. c.in_ok-give_corners.ensures.given (told_with m made more (option_map (λ v. v.now) c.args.parent) c.args.view.now.key c.args.view.now c.args.kind c.args.store.now c.course-course.result c.course-course.ensures asks given) (moved m made more (option_map (λ v. v.now) c.args.parent) c.args.view.now.key c.args.view.now c.args.kind c.args.store.now c.course-course.result c.course-course.ensures asks) (to_move m made more (option_map (λ v. v.now) c.args.parent) c.args.view.now.key c.args.view.now c.args.kind c.args.store.now c.course-course.result c.course-course.ensures asks) (give_asks m made more (option_map (λ v. v.now) c.args.parent) c.args.view.now.key c.args.view.now c.args.kind c.args.store.now c.course-course.result c.course-course.ensures asks given)) c.give_corners.ensures.others c.write_cell.ensures.others wrote (counted m.sweep (leaves m made more (option_map (λ v. v.now) c.args.parent) c.args.view.now.key c.args.view.now c.args.kind c.args.store.now c.course-course.result c.course-course.ensures asks))) c.write_cell.ensures.written c.write_cell.ensures.counted

pub returns-clause-tree : goal.returns-clause-tree
returns-clause-tree c = same_again c.args.store.now c.give_corners.new.store c.write_cell.new.store (tree_moved c.args.store.now c.give_corners.new.store c.give_corners.ensures.others) (tree_written c.give_corners.new.store c.write_cell.new.store c.write_cell.ensures.others)

pub returns-in_err-give_corners-clause-tree : goal.returns-in_err-give_corners-clause-tree
returns-in_err-give_corners-clause-tree c = tree_moved c.args.store.now c.give_corners.new.store c.give_corners.ensures.others

pub give_corners-requires-clause-round : goal.give_corners-requires-clause-round
give_corners-requires-clause-round c = round_in c.args.store.now c.args.kind c.course-course.result c.args.view.now.key c.args.round.now c.course-course.ensures c.requires.round

pub give_corners-requires-clause-told : goal.give_corners-requires-clause-told
give_corners-requires-clause-told c = told_in c.args.store.now c.args.kind c.course-course.result (option_map (λ v. v.now) c.args.parent) (option_map (λ t. t.now) c.args.told) c.course-course.ensures c.requires.told

pub write_cell-requires-clause-round : goal.write_cell-requires-clause-round
write_cell-requires-clause-round c = round_in c.args.store.now c.args.kind c.course-course.result c.args.view.now.key c.args.round.now c.course-course.ensures c.requires.round
