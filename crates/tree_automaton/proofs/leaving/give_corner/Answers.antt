use Rattle.std.proofs.Common.{◌≡◌, subst, sym, ap, refl, arith}
use Rattle.std.proofs.lemmas.Int.{ints}
use Rattle.std.specs.Option.{option_map}
use Rattle.tree_automaton.specs.Corners.{GiveAsks}
use Rattle.tree_automaton.proofs.Results.{on_ok, either_way}
use Rattle.tree_automaton.specs.Visits.{vertex_part}
use Rattle.tree_automaton.proofs.Takes.{only_lanes, none_moved}
use Rattle.tree_automaton.specs.Corners.{MovesVertices}
use Rattle.tree_automaton.proofs.Moves.{lane_below_six}
use Rattle.tree_automaton.proofs.Gives.{to_a_lane, to_the_output, given_up, was_hanging, is_kept_here}
use Rattle.tree_automaton.proofs.leaving.give_corner.Goals as goal

pub returns-in-Lane-clause-given : goal.returns-in-Lane-clause-given
returns-in-Lane-clause-given c = on_ok c.push_from.result (λ is m made more given.
    let asks = subst (λ k. GiveAsks m made more c.args.course.now (option_map (λ v. v.now) c.args.parent) c.args.cell c.args.n k c.args.store.now) c.in-Vertex.is given in
    let goes = c.in-Lane.ensures.value m.sweep asks.decides (is_kept_here m made more c.args.course.now (option_map (λ v. v.now) c.args.parent) c.args.cell c.args.n c.args.store.now c.in-Vertex.v asks c.requires.cell c.requires.corner) in
    to_a_lane m made more c.args.course.now (option_map (λ v. v.now) c.args.parent) c.args.cell c.args.n c.args.store.now c.in-Vertex.v asks c.requires.cell c.requires.corner c.in-Lane.lane c.push_from.new.self (lane_below_six c.args.course.now.dim c.in-Lane.lane c.in-Lane.ensures.lane) goes is) c.push_from.ensures.ok

pub returns-in-Output-clause-given : goal.returns-in-Output-clause-given
returns-in-Output-clause-given c = on_ok c.put_output_from.result (λ is m made more given.
    let asks = subst (λ k. GiveAsks m made more c.args.course.now (option_map (λ v. v.now) c.args.parent) c.args.cell c.args.n k c.args.store.now) c.in-Vertex.is given in
    let goes = c.in-Output.ensures.value m.sweep asks.decides (is_kept_here m made more c.args.course.now (option_map (λ v. v.now) c.args.parent) c.args.cell c.args.n c.args.store.now c.in-Vertex.v asks c.requires.cell c.requires.corner) in
    to_the_output m made more c.args.course.now (option_map (λ v. v.now) c.args.parent) c.args.cell c.args.n c.args.store.now c.in-Vertex.v asks c.requires.cell c.requires.corner c.put_output_from.new.self goes is) c.put_output_from.ensures.ok

pub returns-in-GivenUp-clause-given : goal.returns-in-GivenUp-clause-given
returns-in-GivenUp-clause-given c = λ m made more given.
    let asks = subst (λ k. GiveAsks m made more c.args.course.now (option_map (λ v. v.now) c.args.parent) c.args.cell c.args.n k c.args.store.now) c.in-Vertex.is given in
    given_up m made more c.args.course.now (option_map (λ v. v.now) c.args.parent) c.args.cell c.args.n c.args.store.now c.in-Vertex.v asks c.requires.cell c.requires.corner (c.in-GivenUp.ensures.value m.sweep asks.decides (is_kept_here m made more c.args.course.now (option_map (λ v. v.now) c.args.parent) c.args.cell c.args.n c.args.store.now c.in-Vertex.v asks c.requires.cell c.requires.corner))

pub returns-in_default-clause-given : goal.returns-in_default-clause-given
returns-in_default-clause-given c = λ m made more asks. was_hanging m made more c.args.course.now (option_map (λ v. v.now) c.args.parent) c.args.cell c.args.n c.args.store.now c.args.given.now c.in_default.not-Vertex c.requires.cell c.requires.corner asks

pub returns-in-Lane-clause-others : goal.returns-in-Lane-clause-others
returns-in-Lane-clause-others c = either_way c.push_from.result (λ is. only_lanes c.args.store.now c.push_from.new.self _ is refl refl c.push_from.ensures.pages) (λ is. subst (MovesVertices c.args.store.now) (sym is) (none_moved c.args.store.now)) c.push_from.ensures.ok c.push_from.ensures.err

pub returns-in-Lane-clause-memory : goal.returns-in-Lane-clause-memory
returns-in-Lane-clause-memory c = λ room. let one : vertex_part c.args.given.now ≡ 1 = ap vertex_part c.in-Vertex.is in c.push_from.ensures.room (omega (arith, ints, one, room))

pub returns-in-Output-clause-others : goal.returns-in-Output-clause-others
returns-in-Output-clause-others c = either_way c.put_output_from.result (λ is. only_lanes c.args.store.now c.put_output_from.new.self _ is refl refl c.put_output_from.ensures.pages) (λ is. subst (MovesVertices c.args.store.now) (sym is) (none_moved c.args.store.now)) c.put_output_from.ensures.ok c.put_output_from.ensures.err

pub returns-in-Output-clause-memory : goal.returns-in-Output-clause-memory
returns-in-Output-clause-memory c = λ room. let one : vertex_part c.args.given.now ≡ 1 = ap vertex_part c.in-Vertex.is in c.put_output_from.ensures.room (omega (arith, ints, one, room))

pub returns-in-GivenUp-clause-spare : goal.returns-in-GivenUp-clause-spare
returns-in-GivenUp-clause-spare c = omega (arith, ints)

pub returns-in_default-clause-spare : goal.returns-in_default-clause-spare
returns-in_default-clause-spare c = omega (arith, ints)
