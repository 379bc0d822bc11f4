use Rattle.std.proofs.Common.{◌+◌, sym, subst, add-one}
use Rattle.volume_solver.specs.Any.{adapting_in}
use Rattle.peano_run.specs.Course.{IsCourse, ShowsStep, ShowFails}
use Rattle.peano_run.proofs.Courses.{after_step, next_course, next_refused}
use Rattle.peano_run.proofs.Showings.{shown_ok, shown_err, own_step, serves_plan, plan_keys, stands_after, refused_overflow, refused_crowded}
use Rattle.peano_run.proofs.course.stepped.Goals as goal

pub show-requires-clause-way : goal.show-requires-clause-way
show-requires-clause-way g c κs within =
    let m = c.requires.course.moment in
    let h = c.requires.course.shown in
    let a = (c.in-Ok.ensures.advanced m.grid m.field (own_step c.args.plan.now c.args.step c.args.course m h.stands)) in
    (after_step m c.advance.new.self.keys a.grid a.field, (stands_after c.args.request c.args.plan.now c.args.step c.args.course m h c.advance.new.self a c.in-Ok.ensures.solver c.in-Ok.ensures.recut).stands)

pub returns-in-Ok-clause-ok : goal.returns-in-Ok-clause-ok
returns-in-Ok-clause-ok g c =
    let plan = c.args.plan.now in
    let m = c.requires.course.moment in
    let h = c.requires.course.shown in
    let a = (c.in-Ok.ensures.advanced m.grid m.field (own_step c.args.plan.now c.args.step c.args.course m h.stands)) in
    let stands = stands_after c.args.request plan c.args.step c.args.course m h c.advance.new.self a c.in-Ok.ensures.solver c.in-Ok.ensures.recut in
    let taken = serves_plan c.args.request plan c.args.step c.args.course m h (adapting_in c.args.course.world.solver) c.advance.new.self a in
    let cut = plan_keys c.args.request plan c.args.step c.args.course m h c.advance.new.self a in
    shown_ok c.args.request plan (c.args.step + 1) (after_step m c.advance.new.self.keys a.grid a.field) c.show.result _ (c.show.ensures (after_step m c.advance.new.self.keys a.grid a.field) stands)
    (λ after shows. subst (λ n. IsCourse c.args.request plan n after) (sym (add-one c.args.step))
    (next_course c.args.request plan c.args.step m c.advance.new.self.keys a.grid a.field c.requires.course.reached taken cut after (subst (λ n. ShowsStep c.args.request plan n (after_step m c.advance.new.self.keys a.grid a.field) after) (add-one c.args.step) shows)))

pub returns-in-Ok-clause-err : goal.returns-in-Ok-clause-err
returns-in-Ok-clause-err g c =
    let plan = c.args.plan.now in
    let m = c.requires.course.moment in
    let h = c.requires.course.shown in
    let a = (c.in-Ok.ensures.advanced m.grid m.field (own_step c.args.plan.now c.args.step c.args.course m h.stands)) in
    let stands = stands_after c.args.request plan c.args.step c.args.course m h c.advance.new.self a c.in-Ok.ensures.solver c.in-Ok.ensures.recut in
    let taken = serves_plan c.args.request plan c.args.step c.args.course m h (adapting_in c.args.course.world.solver) c.advance.new.self a in
    let cut = plan_keys c.args.request plan c.args.step c.args.course m h c.advance.new.self a in
    shown_err c.args.request plan (c.args.step + 1) (after_step m c.advance.new.self.keys a.grid a.field) c.show.result _ (c.show.ensures (after_step m c.advance.new.self.keys a.grid a.field) stands)
    (λ refused fails. next_refused c.args.request plan c.args.step m c.advance.new.self.keys a.grid a.field c.requires.course.reached taken cut refused c.requires.more (subst (λ n. ShowFails c.args.request plan n (after_step m c.advance.new.self.keys a.grid a.field) refused) (add-one c.args.step) fails))

pub returns-in-Err-Overflow-clause-err : goal.returns-in-Err-Overflow-clause-err
returns-in-Err-Overflow-clause-err g c =
    let m = c.requires.course.moment in
    let h = c.requires.course.shown in
    refused_overflow c.args.request c.args.plan.now c.args.step c.args.course m h c.advance.new.self c.in-Err-Overflow.step c.in-Err-Overflow.key c.with.result (rw c.in-Err-Overflow.field-0-is at c.with.ensures) c.requires.course.reached c.requires.more
    (rw c.in-Err-Overflow.field-0-is at (c.in-Err-Overflow.ensures.advanced m.grid m.field (own_step c.args.plan.now c.args.step c.args.course m h.stands)))

pub returns-in-Err-Crowded-clause-err : goal.returns-in-Err-Crowded-clause-err
returns-in-Err-Crowded-clause-err g c =
    let m = c.requires.course.moment in
    let h = c.requires.course.shown in
    refused_crowded c.args.request c.args.plan.now c.args.step c.args.course m h c.advance.new.self c.in-Err-Crowded.step c.in-Err-Crowded.cells c.with-in-Err-Crowded.result (rw c.in-Err-Crowded.field-0-is at c.with-in-Err-Crowded.ensures) c.requires.course.reached c.requires.more
    (rw c.in-Err-Crowded.field-0-is at (c.in-Err-Crowded.ensures.advanced m.grid m.field (own_step c.args.plan.now c.args.step c.args.course m h.stands)))
