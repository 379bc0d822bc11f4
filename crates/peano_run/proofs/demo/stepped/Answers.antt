use Rattle.peano_run.proofs.DemoWorlds.{own_world, led_on, goes_on, has_room}
use Rattle.peano_run.proofs.demo.stepped.Goals as goal

pub returns-in-Ok : goal.returns-in-Ok
returns-in-Ok g c =
    let demo = c.requires.demo in
    let led = c.requires.led in
    led_on demo.0 c.args.plan.now demo.1 c.args.trees c.args.step c.args.world led c.requires.more c.advance.new.self
    (c.in-Ok.ensures.advanced led.grid led.field (own_world demo.0 c.args.plan.now demo.1 c.args.trees c.args.step c.args.world led c.requires.more)) c.in-Ok.ensures.solver c.in-Ok.ensures.recut

pub unreachable-requires : goal.unreachable-requires
unreachable-requires g c =
    let demo = c.requires.demo in
    let led = c.requires.led in
    goes_on demo.0 c.args.plan.now demo.1 c.args.trees c.args.step c.args.world led c.requires.more c.advance.new.self _ _
    (rw c.in-Err-Overflow.field-0-is at (c.in-Err-Overflow.ensures.advanced led.grid led.field (own_world demo.0 c.args.plan.now demo.1 c.args.trees c.args.step c.args.world led c.requires.more)))

pub unreachable-requires-in-Err-Crowded : goal.unreachable-requires-in-Err-Crowded
unreachable-requires-in-Err-Crowded g c =
    let demo = c.requires.demo in
    let led = c.requires.led in
    has_room demo.0 c.args.plan.now demo.1 c.args.trees c.args.step c.args.world led c.requires.more c.advance.new.self _ _
    (rw c.in-Err-Crowded.field-0-is at (c.in-Err-Crowded.ensures.advanced led.grid led.field (own_world demo.0 c.args.plan.now demo.1 c.args.trees c.args.step c.args.world led c.requires.more)))
