use Rattle.std.proofs.Common.{arith, ◌∙◌, sym, subst}
use Rattle.std.proofs.lemmas.Bool.{false≢true}
use Rattle.peano_keys.specs.Field.{States, state_at, sides_of}
use Rattle.solver_api.specs.Step.{marks_of}
use Rattle.spacetree.specs.Evaluation.{StepFails}
use Rattle.spacetree.proofs.NextGrids.{next_is_grid, field_on_next, step_to_next}
use Rattle.spacetree.proofs.Steps.{err_and, next_fails, none_marked, step_unmarked, updates_made}
use Rattle.spacetree.proofs.evaluation.advance.Goals as goal

pub returns-then-keeps_all-clause-ok : goal.returns-then-keeps_all-clause-ok
returns-then-keeps_all-clause-ok g c =
    let update = c.in_ok-update.ensures in
    record {
      step = step_unmarked (g.S.Solver.updated c.args.solver.now) (g.S.Solver.marked c.args.solver.now) (g.S.Solver.parts_of c.args.solver.now) c.args.grid c.args.field.now c.in_ok-update.update.states c.in_ok-update.update.refine c.in_ok-update.update.coarsen
          c.in_ok-leaves.ensures.served.grid update.field update.states update.marks (c.keeps_all.ensures.0 c.if-keeps_all.true);
      room = c.in_ok-leaves.ensures.served.room;
    }

pub returns-in_err-next-clause-err : goal.returns-in_err-next-clause-err
returns-in_err-next-clause-err g c =
    let updated = g.S.Solver.updated c.args.solver.now in
    let marked = g.S.Solver.marked c.args.solver.now in
    let f : States = c.args.field.now in
    let update = c.in_ok-update.ensures in
    err_and c.from_residual-in_err-next.result _ _ (λ fault e.
    subst (StepFails updated marked c.args.grid f c.args.step) (sym e)
    (next_fails updated marked c.args.grid f c.args.step c.in_err-next.field-0.0 (updates_made updated (g.S.Solver.parts_of c.args.solver.now) c.args.grid f c.in_ok-update.update.states update.field update.states)
    (c.in_err-next.ensures.err (marks_of marked c.args.grid f) update.marks))) c.from_residual-in_err-next.ensures.1

pub next_field-requires : goal.next_field-requires
next_field-requires g c = (c.in_ok-next.ensures.ok (marks_of (g.S.Solver.marked c.args.solver.now) c.args.grid c.args.field.now) c.in_ok-update.ensures.marks).dim

pub returns-clause-ok : goal.returns-clause-ok
returns-clause-ok g c =
    let marked = g.S.Solver.marked c.args.solver.now in
    let f : States = c.args.field.now in
    let update = c.in_ok-update.ensures in
    record {
      step = step_to_next (g.S.Solver.updated c.args.solver.now) marked (g.S.Solver.parts_of c.args.solver.now) c.args.grid f c.in_ok-next.next c.in_ok-update.update.states c.in_ok-after.after c.in_ok-leaves.ensures.served.grid (c.in_ok-next.ensures.ok (marks_of marked c.args.grid f) update.marks) update.field update.states c.in_ok-after.ensures;
      room = c.in_ok-next.ensures.room;
    }

pub returns-clause-field : goal.returns-clause-field
returns-clause-field g c =
    let marks = marks_of (g.S.Solver.marked c.args.solver.now) c.args.grid c.args.field.now in
    let update = c.in_ok-update.ensures in
    field_on_next (g.S.Solver.parts_of c.args.solver.now) c.args.grid c.in_ok-next.next marks c.in_ok-update.update.states c.in_ok-after.after c.in_ok-leaves.ensures.served.grid (c.in_ok-next.ensures.ok marks update.marks) update.field c.in_ok-after.ensures

pub returns-clause-grid : goal.returns-clause-grid
returns-clause-grid g c depth h grid =
    let f : States = c.args.field.now in
    let marks = marks_of (g.S.Solver.marked c.args.solver.now) c.args.grid f in
    next_is_grid depth c.args.grid c.in_ok-next.next marks grid (c.in_ok-next.ensures.ok marks c.in_ok-update.ensures.marks)
    (λ q e. omega (arith, (g.met.S.Solver g.world.𝓛 g.world.𝓜 g.world.𝓡 ((λ s x. x), (λ x. x), (λ x. x), λ x. x)).refines_above c.args.solver.now (state_at f q) (sides_of c.args.grid f q) q.level e, h))

pub returns-clause-served : goal.returns-clause-served
returns-clause-served g c = returns-clause-grid g c 12 c.requires.deepest c.in_ok-leaves.ensures.served.grid

-- without a criterion no leaf is marked
pub returns-clause-stays : goal.returns-clause-stays
returns-clause-stays g c fixed =
    let f : States = c.args.field.now in
    let kept = none_marked c.args.grid (marks_of (g.S.Solver.marked c.args.solver.now) c.args.grid f) c.in_ok-update.update.refine c.in_ok-update.update.coarsen c.in_ok-update.ensures.marks
    (λ q. (g.met.S.Solver g.world.𝓛 g.world.𝓜 g.world.𝓡 ((λ s x. x), (λ x. x), (λ x. x), λ x. x)).keeps_all c.args.solver.now (state_at f q) (sides_of c.args.grid f q) q.level fixed) in
    absurd (false≢true (sym c.if-keeps_all.false ∙ c.keeps_all.ensures.1 kept))

pub next_grid-requires-clause-marks : goal.next_grid-requires-clause-marks
next_grid-requires-clause-marks g c =
    let f : States = c.args.field.now in
    record {
      marks = marks_of (g.S.Solver.marked c.args.solver.now) c.args.grid f;
      marked = c.in_ok-update.ensures.marks;
      above = λ q e. omega (arith, (g.met.S.Solver g.world.𝓛 g.world.𝓜 g.world.𝓡 ((λ s x. x), (λ x. x), (λ x. x), λ x. x)).refines_above c.args.solver.now (state_at f q) (sides_of c.args.grid f q) q.level e, c.requires.deepest);
    }
