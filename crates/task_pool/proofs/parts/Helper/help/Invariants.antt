use Rattle.std.proofs.Common.{◌≡◌, ◌+◌, ◌≤◌, ◌-◌, ◌*◌}
use Rattle.task_pool.specs.Seen.{IsHelperOf, published_by, taken_by, tree_count}
use Rattle.task_pool.proofs.Rounds.{Stands}
use Rattle.task_pool.proofs.parts.Helper.help.Given as goal

abbrev pub invariant-rounds : goal.invariant-rounds
invariant-rounds g l = record {
  helper : IsHelperOf l.pool l.self;
  patient : l.shift.quiet ≤ 16384;
  few : l.shift.published ≤ l.shift.taken;
  most : l.shift.taken ≤ l.pool.total + tree_count l.pool;
  published : published_by l.self ≡ published_by l.initial.self + l.shift.published;
  rounds : Stands l.pool.total l.shift;
  taken : taken_by l.self ≡ taken_by l.initial.self + l.shift.taken;
}

abbrev pub decreases-rounds : goal.decreases-rounds
decreases-rounds g l = (l.pool.total - l.shift.taken) * 16385 + (16384 - l.shift.quiet)
