use Rattle.std.proofs.Common.{◌≡◌, subst, arith, length, vec_len}
use Rattle.task_pool.specs.Built.{IsBuilt}
use Rattle.task_pool.proofs.Built.{hands_are, helpers_are}
use Rattle.task_pool.proofs.parts.Pool.new.Goals as goal

pub returns-clause-hands : goal.returns-clause-hands
returns-clause-hands g c =
    let kept = c.trees.invariant in
    let all : vec_len c.trees.building.trees ≡ length c.args.tasks.now = let end = c.trees-test.false in let is = c.len.ensures in omega (arith, end, is, kept.within) in
    let built = subst (λ n. IsBuilt c.args.tasks.now c.args.workers c.args.solver.now n c.trees.building) all kept.built in
    hands_are c.args.tasks.now c.args.workers c.args.solver.now (length c.args.tasks.now) c.trees.building built c.requires.some c.requires.few c.of.result c.of.ensures

pub returns-clause-helpers : goal.returns-clause-helpers
returns-clause-helpers g c =
    let kept = c.trees.invariant in
    let all : vec_len c.trees.building.trees ≡ length c.args.tasks.now = let end = c.trees-test.false in let is = c.len.ensures in omega (arith, end, is, kept.within) in
    let built = subst (λ n. IsBuilt c.args.tasks.now c.args.workers c.args.solver.now n c.trees.building) all kept.built in
    helpers_are c.args.tasks.now c.args.workers c.args.solver.now (length c.args.tasks.now) c.trees.building built c.requires.some c.requires.few c.of.result c.of.ensures
