use Rattle.std.proofs.Common.{subst}
use Rattle.std.proofs.lemmas.Result.{IfOk-weaker}
use Rattle.spacetree.specs.Build.{IsTooLarge}
use Rattle.grid_file.specs.declared.plan.Plan.{Plan}
use Rattle.demonstration.proofs.Openings.{never_too_large}
use Rattle.peano_run.proofs.DemoWorlds.{first_led}
use Rattle.peano_run.proofs.demo.opened.Goals as goal

pub returns-in-Ok : goal.returns-in-Ok
returns-in-Ok g c = IfOk-weaker c.begin.result _ _ (λ w h. first_led c.args.trees c.args.plan.now c.in-Ok.grid w h) c.begin.ensures

pub unreachable-requires : goal.unreachable-requires
unreachable-requires g c =
    let fault = rw c.in-Err-TooMany.field-0-is at c.in-Err-TooMany.ensures.fault in
    let demo = c.requires.demo in
    never_too_large demo.0 (subst (λ (p : Plan). IsTooLarge p.shape) demo.1 fault)
