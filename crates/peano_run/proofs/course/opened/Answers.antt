use Rattle.std.proofs.Common.{refl}
use Rattle.peano_run.proofs.Courses.{first_moment, opening_course, opening_refused}
use Rattle.peano_run.proofs.Showings.{shown_ok, shown_err}
use Rattle.peano_run.proofs.course.opened.Goals as goal

pub show-requires-clause-way : goal.show-requires-clause-way
show-requires-clause-way g c κs within =
    let w = c.in_ok-begin.ensures in (
      first_moment c.in_ok-begin.field-0.keys c.in-Ok.grid w.field,
      record { at = w.at; solver = w.solver; recut = w.recut; keys = refl; text = c.new.ensures.items; lines = refl },
    )

pub returns-clause-ok : goal.returns-clause-ok
returns-clause-ok g c =
    let plan = c.args.plan.now in
    let w = c.in_ok-begin.ensures in
    let keys = c.in_ok-begin.field-0.keys in
    let first = first_moment keys c.in-Ok.grid w.field in
    shown_ok c.args.request plan 0 first c.show.result _
    (c.show.ensures first (record { stands = record { at = w.at; solver = w.solver; recut = w.recut; keys = refl; text = c.new.ensures.items; lines = refl }; noted = w.noted }))
    (λ after h. opening_course c.args.request plan keys c.in-Ok.grid w.field after c.in-Ok.ensures.opening c.in-Ok.ensures.small w.noted.begun.field w.noted.shares h)

pub returns-clause-err : goal.returns-clause-err
returns-clause-err g c =
    let plan = c.args.plan.now in
    let w = c.in_ok-begin.ensures in
    let keys = c.in_ok-begin.field-0.keys in
    let first = first_moment keys c.in-Ok.grid w.field in
    shown_err c.args.request plan 0 first c.show.result _
    (c.show.ensures first (record { stands = record { at = w.at; solver = w.solver; recut = w.recut; keys = refl; text = c.new.ensures.items; lines = refl }; noted = w.noted }))
    (λ a h. opening_refused c.args.request plan keys c.in-Ok.grid w.field a c.in-Ok.ensures.opening c.in-Ok.ensures.small w.noted.begun.field h)
