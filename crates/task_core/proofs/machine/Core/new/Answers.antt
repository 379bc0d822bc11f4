use Rattle.std.proofs.Common.{refl, sym, ap, subst, arith}
use Rattle.peano_keys.specs.Grid.{IsGrid}
use Rattle.curve_cuts.specs.Cuts.{IsCutGrid}
use Rattle.curve_cuts.specs.Keys.{cuts_of}
use Rattle.task_core.specs.declared.event.Sweep.TheVariants.{First}
use Rattle.task_core.specs.Core.{Core}
use Rattle.task_core.specs.Work.{Trees, AreServed}
use Rattle.task_core.proofs.Begun.{opens, covers, begun_core}
use Rattle.task_core.proofs.machine.Core.new.Goals as goal

pub of-requires : goal.of-requires
of-requires g c = subst (λ n. AreServed n c.in_ok-trees.trees.items) (sym c.parts.ensures.value) (c.in_ok-trees.ensures.served (g.S.Solver.parts_of c.args.solver) c.requires.field)

pub returns-clause-begins : goal.returns-clause-begins
returns-clause-begins g c =
    let d : Core = record { sweep = First; trees = c.of.result.trees; answers = c.empty.result } in
    begun_core (cuts_of c.args.keys.now) c.args.grid.now c.args.field.now c.args.dir d c.in_ok-trees.trees.items refl (ap (λ (v : Trees). v.trees) c.of.ensures) c.in_ok-trees.ensures.count c.in_ok-trees.ensures.begin c.empty.ensures

pub returns-clause-opens : goal.returns-clause-opens
returns-clause-opens g c =
    let k = cuts_of c.args.keys.now in
    let d : Core = record { sweep = First; trees = c.of.result.trees; answers = c.empty.result } in
    opens k c.args.grid.now c.args.field.now c.args.dir d (begun_core k c.args.grid.now c.args.field.now c.args.dir d c.in_ok-trees.trees.items refl (ap (λ (v : Trees). v.trees) c.of.ensures) c.in_ok-trees.ensures.count c.in_ok-trees.ensures.begin c.empty.ensures)

pub returns-clause-covers : goal.returns-clause-covers
returns-clause-covers g c =
    let k = cuts_of c.args.keys.now in
    let d : Core = record { sweep = First; trees = c.of.result.trees; answers = c.empty.result } in
    let cut : IsCutGrid k c.args.grid.now = record {
      cuts = c.trees.ensures.cuts;
      deepest = omega (arith, c.requires.keys, c.requires.depth);
      dim = c.requires.dim;
      grid = subst (λ n. IsGrid n c.args.grid.now) (sym c.requires.keys) c.requires.grid;
    } in
    covers k c.args.grid.now c.args.field.now c.args.dir d (begun_core k c.args.grid.now c.args.field.now c.args.dir d c.in_ok-trees.trees.items refl (ap (λ (v : Trees). v.trees) c.of.ensures) c.in_ok-trees.ensures.count c.in_ok-trees.ensures.begin c.empty.ensures) cut
