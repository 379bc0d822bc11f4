use Rattle.std.proofs.Common.{arith, ◌≤◌, ◌∙◌, sym, subst}
use Rattle.peano_keys.specs.Grid.{Spacetree, IsGrid}
use Rattle.peano_keys.specs.Field.{States}
use Rattle.spacetree.specs.Fields.{IsFieldOn}
use Rattle.spacetree.specs.Evaluation.{EndsIn}
use Rattle.spacetree.proofs.Steps.{evaluates_more, ends_in, err_and}
use Rattle.spacetree.proofs.Unique.{never_overflows, never_crowds}
use Rattle.spacetree.proofs.evaluation.evaluate.Goals as goal

pub loop-step-init : goal.loop-step-init
loop-step-init g c =
    let parts = g.S.Solver.parts_of c.args.solver.now in
    let same = c.in_ok-tree.ensures.grid in
    record {
      told = (same, c.in_ok-states.ensures);
      field = subst (λ (t : Spacetree). IsFieldOn parts t c.in_ok-states.states) (sym same) (subst (λ (f : States). IsFieldOn parts c.args.grid.now f) (sym c.in_ok-states.ensures) c.requires.field);
      grid = λ depth h e. subst (IsGrid depth) (sym same) e;
      room = c.in_ok-tree.ensures.room;
      stays = λ _. same;
    }

pub returns-in_err-next-clause-err : goal.returns-in_err-next-clause-err
returns-in_err-next-clause-err g c =
    let updated = g.S.Solver.updated c.args.solver.now in
    let marked = g.S.Solver.marked c.args.solver.now in
    err_and c.from_residual-in_err-next.result _ _ (λ fault e.
    subst (EndsIn updated marked c.args.grid.now c.args.field.now c.args.steps) (sym e)
    (ends_in updated marked c.args.grid.now c.args.field.now c.loop-step.step c.args.steps c.loop-step.tree c.loop-step.states c.in_err-next.field-0.0 c.loop-step-test.true c.loop-step.invariant.told c.in_err-next.ensures.err)) c.from_residual-in_err-next.ensures.1

pub loop-step-preserved : goal.loop-step-preserved
loop-step-preserved g c =
    let old = c.loop-step.invariant in
    let step = c.in_ok-next.ensures in
    record {
      told = evaluates_more (g.S.Solver.updated c.args.solver.now) (g.S.Solver.marked c.args.solver.now) c.args.grid.now c.args.field.now c.loop-step.step c.loop-step.tree c.loop-step.states c.in_ok-next.next c.in_ok-next.after old.told step.ok;
      field = step.field;
      grid = λ depth h e. step.grid depth h (old.grid depth h e);
      room = step.ok.room;
      stays = λ e. step.stays e ∙ old.stays e;
    }

pub returns-clause-through : goal.returns-clause-through
returns-clause-through g c s key h =
    let reached : s ≤ c.loop-step.step = omega (arith, h, c.loop-step-test.false) in
    never_overflows (g.S.Solver.updated c.args.solver.now) (g.S.Solver.marked c.args.solver.now) c.args.grid.now c.args.field.now c.loop-step.step c.loop-step.tree c.loop-step.states s key c.loop-step.invariant.told reached

pub returns-clause-room : goal.returns-clause-room
returns-clause-room g c s cells h =
    let reached : s ≤ c.loop-step.step = omega (arith, h, c.loop-step-test.false) in
    never_crowds (g.S.Solver.updated c.args.solver.now) (g.S.Solver.marked c.args.solver.now) c.args.grid.now c.args.field.now c.loop-step.step c.loop-step.tree c.loop-step.states s cells c.loop-step.invariant.told reached
