use Rattle.std.proofs.Common.{◌≡◌, suc, ◌+◌, ◌-◌, ◌<◌, length, set, arith, subst, ◌∙◌, length-set, ap, sym}
use Rattle.std.proofs.lemmas.Int.{ints}
use Rattle.std.specs.Option.{option_map}
use Rattle.peano_keys.specs.Dim.{corners}
use Rattle.tree_automaton.specs.Visits.{vertex_part}
use Rattle.tree_automaton.specs.Corners.{CornersGive}
use Rattle.tree_automaton.proofs.Takes.{begin_taking, next_asks, rest, one_taken, vertices_from, none_beyond, one_counted, beyond_stays, none_moved, moved_again}
use Rattle.tree_automaton.proofs.entering.take_corners.Goals as goal

pub loop-k-init : goal.loop-k-init
loop-k-init c =
    let count : corners c.args.course.now.dim ≡ c.corner_count-count.result - 0 = omega (arith, c.corner_count-count.ensures.value) in
    record {
      eight = c.requires.eight;
      taken = λ m made more asks. subst (λ k. CornersGive m more c.args.course.now c.args.cell k c.args.store.now c.args.taken.now) count (begin_taking m made more c.args.course.now (option_map (λ v. v.now) c.args.parent) c.args.cell c.args.store.now c.args.taken.now asks);
      beyond = c.requires.beyond;
      others = none_moved c.args.store.now;
      spare = λ plain. let none : vertices_from (c.corner_count-count.result - 0) c.args.taken.now ≡ 0 = ap (λ n. vertices_from n c.args.taken.now) (sym count) ∙ none_beyond (corners c.args.course.now.dim) c.args.taken.now c.requires.beyond in omega (arith, ints, none);
    }

pub take_corner-requires-clause-asks : goal.take_corner-requires-clause-asks
take_corner-requires-clause-asks c =
    let r = c.requires.asks in
    let k = c.corner_count-count.result - 1 - c.loop-k.k in
    let e : c.corner_count-count.result - c.loop-k.k ≡ suc k = omega arith in
    let so_far = subst (λ j. CornersGive r.0 r.2 c.args.course.now c.args.cell j c.loop-k.store c.loop-k.taken) e (c.loop-k.invariant.taken r.0 r.1 r.2 r.3) in
    (r.0, so_far.made, rest r.0 r.2 c.args.course.now c.args.cell k c.loop-k.store c.loop-k.taken so_far, next_asks r.0 r.2 c.args.course.now c.args.cell k c.loop-k.store c.loop-k.taken so_far (option_map (λ v. v.now) c.args.parent) r.3.decides (c.loop-k.invariant.others.dim ∙ r.3.dim))

pub loop-k-preserved : goal.loop-k-preserved
loop-k-preserved c =
    let k = c.corner_count-count.result - 1 - c.loop-k.k in
    let e : c.corner_count-count.result - c.loop-k.k ≡ suc k = omega arith in
    let f : k ≡ c.corner_count-count.result - (c.loop-k.k + 1) = omega arith in
    let inside : k < length c.loop-k.taken = omega (arith, c.loop-k.invariant.eight, c.corner_count-count.ensures.most) in
    let below : k < corners c.args.course.now.dim = omega (arith, c.corner_count-count.ensures.value) in
    let corner = c.take_corner.new.corner in
    record {
      eight = length-set c.loop-k.taken k corner ∙ c.loop-k.invariant.eight;
      taken = λ m made more asks.
          let so_far = subst (λ j. CornersGive m more c.args.course.now c.args.cell j c.loop-k.store c.loop-k.taken) e (c.loop-k.invariant.taken m made more asks) in
          let next = next_asks m more c.args.course.now c.args.cell k c.loop-k.store c.loop-k.taken so_far (option_map (λ v. v.now) c.args.parent) asks.decides (c.loop-k.invariant.others.dim ∙ asks.dim) in
          subst (λ j. CornersGive m more c.args.course.now c.args.cell j c.take_corner.new.store (set c.loop-k.taken k corner)) f (one_taken m more c.args.course.now c.args.cell k c.loop-k.store c.loop-k.taken so_far c.take_corner.new.store corner inside (c.take_corner.ensures.taken m so_far.made (rest m more c.args.course.now c.args.cell k c.loop-k.store c.loop-k.taken so_far) next));
      beyond = beyond_stays (corners c.args.course.now.dim) c.loop-k.taken k corner below c.loop-k.invariant.beyond;
      others = moved_again c.args.store.now c.loop-k.store c.take_corner.new.store c.loop-k.invariant.others c.take_corner.ensures.others;
      spare = λ plain.
          let one = c.take_corner.ensures.spare plain in
          let old = c.loop-k.invariant.spare plain in
          let before : vertices_from (c.corner_count-count.result - c.loop-k.k) c.loop-k.taken ≡ vertices_from (k + 1) c.loop-k.taken = ap (λ n. vertices_from n c.loop-k.taken) (let g : c.corner_count-count.result - c.loop-k.k ≡ k + 1 = omega arith in g) in
          let now : vertices_from (c.corner_count-count.result - (c.loop-k.k + 1)) (set c.loop-k.taken k corner) ≡ vertex_part corner + vertices_from (k + 1) c.loop-k.taken = ap (λ n. vertices_from n (set c.loop-k.taken k corner)) (sym f) ∙ one_counted c.loop-k.taken k corner inside in
          omega (arith, ints, one, old, before, now);
    }

pub returns-clause-taken : goal.returns-clause-taken
returns-clause-taken c = λ m made more asks.
    let e : c.corner_count-count.result - c.loop-k.k ≡ 0 = omega arith in
    subst (λ k. CornersGive m more c.args.course.now c.args.cell k c.loop-k.store c.loop-k.taken) e (c.loop-k.invariant.taken m made more asks)

pub returns-clause-spare : goal.returns-clause-spare
returns-clause-spare c = λ plain.
    let e : c.corner_count-count.result - c.loop-k.k ≡ 0 = omega arith in
    let all : vertices_from (c.corner_count-count.result - c.loop-k.k) c.loop-k.taken ≡ vertices_from 0 c.loop-k.taken = ap (λ n. vertices_from n c.loop-k.taken) e in
    let old = c.loop-k.invariant.spare plain in
    omega (arith, ints, all, old)
