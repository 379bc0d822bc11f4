use Rattle.std.proofs.Common.{◌≡◌, suc, ◌+◌, ◌-◌, ◌<◌, length, get_or, set, arith, subst, ap, ◌∙◌, refl}
use Rattle.std.proofs.lemmas.List.{set-get_or}
use Rattle.std.proofs.lemmas.Int.{ints}
use Rattle.std.proofs.lemmas.Bool.{false≢true}
use Rattle.std.specs.Prelude.{IsOk}
use Rattle.std.specs.Option.{option_map}
use Rattle.peano_keys.specs.Dim.{corners}
use Rattle.peano_records.specs.declared.view.Corner.TheVariants.{Beyond}
use Rattle.tree_automaton.specs.Visits.{vertices_in}
use Rattle.tree_automaton.specs.Corners.{GivenBelow}
use Rattle.tree_automaton.proofs.Takes.{vertices_from, none_moved, moved_again}
use Rattle.tree_automaton.proofs.Gives.{begin_giving, next_gives, one_given, after, get_or_any, spare_kept, room_for_one}
use Rattle.tree_automaton.proofs.leaving.give_corners.Goals as goal

pub loop-n-init : goal.loop-n-init
loop-n-init c = record {
  same = refl;
  so_far = λ m made more asks. subst (λ j. GivenBelow m more c.args.cell 0 j c.args.store.now) (let e : corners c.args.course.now.dim ≡ c.corner_count-n-end.result - 0 = omega (arith, c.corner_count-n-end.ensures.value) in e) (begin_giving m made more c.args.course.now (option_map (λ v. v.now) c.args.parent) c.args.cell c.args.given.now c.args.store.now asks);
  others = none_moved c.args.store.now;
  spare = (let all : vertices_from 0 c.args.given.now ≡ vertices_in c.args.given.now = refl in omega (arith, ints, all));
}

pub give_corner-requires-clause-asks : goal.give_corner-requires-clause-asks
give_corner-requires-clause-asks c =
    let r = c.requires.asks in
    let more = c.corner_count-n-end.result - (c.loop-n.n + 1) in
    let e : c.corner_count-n-end.result - c.loop-n.n ≡ suc more = omega arith in
    let inside : c.loop-n.n < length c.loop-n.given = omega (arith, ap length c.loop-n.invariant.same, c.requires.eight, c.corner_count-n-end.ensures.most) in
    let below : c.loop-n.n < corners c.args.course.now.dim = omega (arith, c.corner_count-n-end.ensures.value) in
    let so_far = subst (λ j. GivenBelow r.0 r.2 c.args.cell c.loop-n.n j c.loop-n.store) e (c.loop-n.invariant.so_far r.0 r.1 r.2 r.3) in
    let next = next_gives r.0 r.1 r.2 c.args.course.now (option_map (λ v. v.now) c.args.parent) c.args.cell c.loop-n.n more c.args.given.now c.args.store.now c.loop-n.store r.3 below c.loop-n.invariant.others.dim so_far _ (get_or_any c.loop-n.given c.loop-n.n _ Beyond inside ∙ ap (λ cs. get_or cs c.loop-n.n Beyond) c.loop-n.invariant.same) in
    (r.0, so_far.made, after r.0 r.1 r.2 c.args.course.now (option_map (λ v. v.now) c.args.parent) c.args.cell c.loop-n.n more c.args.given.now c.args.store.now c.loop-n.store r.3 below c.loop-n.invariant.others.dim so_far, next)

pub loop-n-preserved : goal.loop-n-preserved
loop-n-preserved c =
    let more = c.corner_count-n-end.result - (c.loop-n.n + 1) in
    let e : c.corner_count-n-end.result - c.loop-n.n ≡ suc more = omega arith in
    let inside : c.loop-n.n < length c.loop-n.given = omega (arith, ap length c.loop-n.invariant.same, c.requires.eight, c.corner_count-n-end.ensures.most) in
    let within : c.loop-n.n < length c.args.given.now = omega (arith, c.requires.eight, c.corner_count-n-end.ensures.most) in
    let below : c.loop-n.n < corners c.args.course.now.dim = omega (arith, c.corner_count-n-end.ensures.value) in
    record {
      same = ap (set c.loop-n.given c.loop-n.n) c.give_corner.ensures.left ∙ (set-get_or c.loop-n.given c.loop-n.n _ ∙ c.loop-n.invariant.same);
      so_far = λ m made more_ asks.
          let so_far = subst (λ j. GivenBelow m more_ c.args.cell c.loop-n.n j c.loop-n.store) e (c.loop-n.invariant.so_far m made more_ asks) in
          let next = next_gives m made more_ c.args.course.now (option_map (λ v. v.now) c.args.parent) c.args.cell c.loop-n.n more c.args.given.now c.args.store.now c.loop-n.store asks below c.loop-n.invariant.others.dim so_far _ (get_or_any c.loop-n.given c.loop-n.n _ Beyond inside ∙ ap (λ cs. get_or cs c.loop-n.n Beyond) c.loop-n.invariant.same) in
          one_given m made more_ c.args.course.now (option_map (λ v. v.now) c.args.parent) c.args.cell c.loop-n.n more c.args.given.now c.args.store.now c.loop-n.store asks below c.loop-n.invariant.others.dim so_far c.give_corner.new.store (c.in_ok-give_corner.ensures.given m so_far.made (after m made more_ c.args.course.now (option_map (λ v. v.now) c.args.parent) c.args.cell c.loop-n.n more c.args.given.now c.args.store.now c.loop-n.store asks below c.loop-n.invariant.others.dim so_far) next);
      others = moved_again c.args.store.now c.loop-n.store c.give_corner.new.store c.loop-n.invariant.others c.give_corner.ensures.others;
      spare = spare_kept c.args.given.now c.loop-n.n _ c.args.store.now.lanes.spare c.loop-n.store.lanes.spare c.give_corner.new.store.lanes.spare (vertices_in c.args.given.now) within (get_or_any c.loop-n.given c.loop-n.n _ Beyond inside ∙ ap (λ cs. get_or cs c.loop-n.n Beyond) c.loop-n.invariant.same) c.loop-n.invariant.spare c.in_ok-give_corner.ensures.spare;
    }

pub returns-clause-given : goal.returns-clause-given
returns-clause-given c = λ m made more asks.
    let e : c.corner_count-n-end.result - c.loop-n.n ≡ 0 = omega arith in
    let f : c.loop-n.n ≡ corners c.args.course.now.dim = omega (arith, c.corner_count-n-end.ensures.value) in
    subst (λ n. GivenBelow m more c.args.cell n 0 c.loop-n.store) f (subst (λ j. GivenBelow m more c.args.cell c.loop-n.n j c.loop-n.store) e (c.loop-n.invariant.so_far m made more asks))

pub returns-clause-spare : goal.returns-clause-spare
returns-clause-spare c = let old = c.loop-n.invariant.spare in omega (arith, ints, old)

pub returns-in_err-give_corner-clause-memory : goal.returns-in_err-give_corner-clause-memory
returns-in_err-give_corner-clause-memory c = λ room.
    let inside : c.loop-n.n < length c.loop-n.given = omega (arith, ap length c.loop-n.invariant.same, c.requires.eight, c.corner_count-n-end.ensures.most) in
    let within : c.loop-n.n < length c.args.given.now = omega (arith, c.requires.eight, c.corner_count-n-end.ensures.most) in
    absurd (false≢true (subst IsOk c.in_err-give_corner.was (c.give_corner.ensures.memory (room_for_one c.args.given.now c.loop-n.n _ c.args.store.now.lanes.spare c.loop-n.store.lanes.spare (vertices_in c.args.given.now) within (get_or_any c.loop-n.given c.loop-n.n _ Beyond inside ∙ ap (λ cs. get_or cs c.loop-n.n Beyond) c.loop-n.invariant.same) c.loop-n.invariant.spare room))))

pub returns-in_err-give_corner-clause-others : goal.returns-in_err-give_corner-clause-others
returns-in_err-give_corner-clause-others c = moved_again c.args.store.now c.loop-n.store c.give_corner.new.store c.loop-n.invariant.others c.give_corner.ensures.others
