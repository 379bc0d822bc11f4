use Rattle.std.proofs.Common.{◌≡◌, ◌<◌, List, length, sym, subst, arith}
use Rattle.spacetree.specs.declared.row.Row.{Row}
use Rattle.peano_run.specs.Led.{IsLed}
use Rattle.peano_run.proofs.DemoWorlds.{last_world, ends_at_last, shows_row, sums_up}
use Rattle.peano_run.proofs.demo.summary.Goals as goal

pub summary_text-requires : goal.summary_text-requires
summary_text-requires g c =
    let plan = c.in_ok-plan.plan in
    let same = c.in_ok-plan.ensures.value in
    let w = c.loop-step.world in
    let whole : c.loop-step.step ≡ plan.steps = omega (arith, c.loop-step-test.false, c.loop-step.auto.step-end) in
    let led : IsLed c.args.trees plan plan.steps w = subst (λ k. IsLed c.args.trees plan k w) whole c.loop-step.invariant in
    subst (λ (rows : List Row). 0 < length rows) (sym c.as_slice.ensures.value)
    (shows_row c.args.number plan same c.args.trees w led c.show.new.self c.in_ok-shown.shown (c.in_ok-shown.ensures.shown led.grid led.field (last_world c.args.number plan same c.args.trees w led)) c.in_ok-shown.ensures.keys)

pub returns-clause-text : goal.returns-clause-text
returns-clause-text g c =
    let plan = c.in_ok-plan.plan in
    let same = c.in_ok-plan.ensures.value in
    let w = c.loop-step.world in
    let whole : c.loop-step.step ≡ plan.steps = omega (arith, c.loop-step-test.false, c.loop-step.auto.step-end) in
    let led : IsLed c.args.trees plan plan.steps w = subst (λ k. IsLed c.args.trees plan k w) whole c.loop-step.invariant in
    sums_up c.args.number plan same c.args.trees w led c.show.new.self c.in_ok-shown.shown (c.in_ok-shown.ensures.shown led.grid led.field (last_world c.args.number plan same c.args.trees w led)) c.in_ok-shown.ensures.keys
    c.in_ok-text.text.items (rw (c.as_slice.ensures.value, c.cell_count.ensures) at c.in_ok-text.ensures)

pub returns-clause-world : goal.returns-clause-world
returns-clause-world g c =
    let plan = c.in_ok-plan.plan in
    let same = c.in_ok-plan.ensures.value in
    let w = c.loop-step.world in
    let whole : c.loop-step.step ≡ plan.steps = omega (arith, c.loop-step-test.false, c.loop-step.auto.step-end) in
    let led : IsLed c.args.trees plan plan.steps w = subst (λ k. IsLed c.args.trees plan k w) whole c.loop-step.invariant in
    ends_at_last c.args.number plan same c.args.trees w led c.show.new.self c.in_ok-shown.shown (c.in_ok-shown.ensures.shown led.grid led.field (last_world c.args.number plan same c.args.trees w led)) c.in_ok-shown.ensures.keys
