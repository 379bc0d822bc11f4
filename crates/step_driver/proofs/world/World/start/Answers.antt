use Rattle.std.proofs.Common.{refl, arith}
use Rattle.curve_cuts.specs.Keys.{cuts_of}
use Rattle.step_driver.proofs.Advances.{starts_at}
use Rattle.step_driver.proofs.world.World.start.Goals as goal

pub invariant_of-result : goal.invariant_of-result
invariant_of-result g c = (
  (let same = c.in_ok-keys.ensures.first.2.depth in let deepest = c.requires.deepest in omega (arith, same, deepest)),
  c.requires.recut,
  λ live. (
    c.args.grid.now,
    c.args.field.now,
    starts_at (g.S.Solver.parts_of c.args.solver) (cuts_of c.in_ok-keys.keys) c.args.grid.now c.args.field.now c.in_ok-forest.forest.stores.items c.in_ok-forest.forest.notes.items c.cell_count.result
        (let size = c.in_ok-keys.ensures.first.2.trees in let most = c.requires.most in omega (arith, size, most)) c.in_ok-keys.ensures.fits c.requires.field c.tale_of_notes_grows.ensures c.in_ok-forest.ensures c.cell_count.ensures.value (let value = c.cell_count.ensures.value in let limit = c.cell_count.ensures.limit in omega (arith, value, limit)),
  ),
)

pub returns-clause-at : goal.returns-clause-at
returns-clause-at g c = record {
  live = refl;
  step_is = refl;
  trees = starts_at (g.S.Solver.parts_of c.args.solver) (cuts_of c.in_ok-keys.keys) c.args.grid.now c.args.field.now c.in_ok-forest.forest.stores.items c.in_ok-forest.forest.notes.items c.cell_count.result
      (let size = c.in_ok-keys.ensures.first.2.trees in let most = c.requires.most in omega (arith, size, most)) c.in_ok-keys.ensures.fits c.requires.field c.tale_of_notes_grows.ensures c.in_ok-forest.ensures c.cell_count.ensures.value (let value = c.cell_count.ensures.value in let limit = c.cell_count.ensures.limit in omega (arith, value, limit));
}

pub plant-requires-clause-field : goal.plant-requires-clause-field
plant-requires-clause-field g c κs within = (g.S.Solver.parts_of c.args.solver, c.requires.field)
