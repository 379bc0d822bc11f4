use Rattle.peano_run.proofs.Showings.{own_parts, counted_refused, printed_shows}
use Rattle.peano_run.proofs.course.print.Goals as goal

pub returns-in_default : goal.returns-in_default
returns-in_default g c = λ m h.
    let at = own_parts c.args.plan.now c.args.course.world.step c.args.course m h.stands in
    counted_refused c.args.request c.args.plan.now c.args.course m h c.requires.printed c.with.result c.with.ensures (c.in_default.ensures _ _ m.grid m.field at)

pub returns : goal.returns
returns g c = λ m h.
    let at = own_parts c.args.plan.now c.args.course.world.step c.args.course m h.stands in
    printed_shows c.args.request c.args.plan.now c.args.course m h c.requires.printed c.show.new.self c.in_ok-shown.shown (c.in_ok-shown.ensures.shown m.grid m.field at) c.add_traffic.new.text c.in-Some.lines c.add_fields.new.text.items
    c.in_ok-shown.ensures.solver c.in_ok-shown.ensures.recut c.in_ok-shown.ensures.keys (c.in-Some.ensures _ _ m.grid m.field at) c.in_ok-add_fields.ensures c.in_ok-add_traffic.ensures
