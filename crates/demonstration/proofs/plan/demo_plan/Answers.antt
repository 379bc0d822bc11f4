use Rattle.std.proofs.Common.{◌≡◌, ℕ, ◌++◌, [], ◌∷◌, map, refl, sym, ap, ◌∙◌, arith, subst}
use Rattle.std.proofs.lemmas.List.FromFn.{map-range_with_len_more}
use Rattle.std.specs.List.{range_with_len}
use Rattle.grid_file.specs.Valid.{IsPlan}
use Rattle.demonstration.specs.Draws.{number_after}
use Rattle.demonstration.specs.Demo.{fill_at, zone_at}
use Rattle.demonstration.proofs.LaterDraws.{next_fill, past_fill, next_zone, past_zone}
use Rattle.demonstration.proofs.Plans.{is_valid, same_plan}
use Rattle.demonstration.proofs.plan.demo_plan.Goals as goal

pub loop-fill-init : goal.loop-fill-init
unfolding number_after
loop-fill-init c = record { moved = refl; fills = c.in_ok-fills.ensures.items }

pub loop-fill-preserved : goal.loop-fill-preserved
loop-fill-preserved c =
    let n : ℕ = c.args.n in
    let i : ℕ = c.loop-fill._fill in
    let s : ℕ = c.loop-fill.draws.number in
    let old = c.loop-fill.invariant in
    let fresh = c.fill.ensures.value ∙ next_fill n i s old.moved in
    let more = map-range_with_len_more (fill_at n) 0 i i (omega arith) in
    record {
      moved = c.fill.ensures.moved ∙ past_fill n i s old.moved;
      fills = c.in_ok-push.ensures.items ∙ (λ k. old.fills k ++ fresh k ∷ []) ∙ sym more;
    }

pub loop-zone-preserved : goal.loop-zone-preserved
loop-zone-preserved c =
    let n : ℕ = c.args.n in
    let j : ℕ = c.loop-zone._zone in
    let s : ℕ = c.loop-zone.draws.number in
    let old = c.loop-zone.invariant in
    let fresh = c.zone.ensures.value ∙ next_zone n j s old.moved in
    let more = map-range_with_len_more (zone_at n) 0 j j (omega arith) in
    record {
      moved = c.zone.ensures.moved ∙ past_zone n j s old.moved;
      fills = old.fills;
      zones = c.in_ok-push-2.ensures.items ∙ (λ k. old.zones k ++ fresh k ∷ []) ∙ sym more;
    }

pub returns-clause-value : goal.returns-clause-value
returns-clause-value c =
    let n : ℕ = c.args.n in
    let all : c.loop-zone._zone ≡ 8 = omega (arith, c.loop-zone-test.false, c.loop-zone.auto._zone-end) in
    same_plan n c.new-2.result c.new.result c.solver.result (c.new-2.ensures ∙ c.loop-zone.invariant.fills) (c.new.ensures ∙ c.loop-zone.invariant.zones ∙ ap (λ k. map (zone_at n) (range_with_len 0 k)) all) c.solver.ensures

pub returns-clause-valid : goal.returns-clause-valid
returns-clause-valid c =
    let n : ℕ = c.args.n in
    let all : c.loop-zone._zone ≡ 8 = omega (arith, c.loop-zone-test.false, c.loop-zone.auto._zone-end) in
    subst IsPlan (sym (same_plan n c.new-2.result c.new.result c.solver.result (c.new-2.ensures ∙ c.loop-zone.invariant.fills) (c.new.ensures ∙ c.loop-zone.invariant.zones ∙ ap (λ k. map (zone_at n) (range_with_len 0 k)) all) c.solver.ensures)) (is_valid n)
