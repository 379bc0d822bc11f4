use Rattle.std.proofs.Common.{◌≡◌, ◌+◌, ◌≤◌, ◌-◌, vec_len}
use Rattle.task_pool.specs.Seen.{IsHelperOf, published_by, taken_by}
use Rattle.task_pool.proofs.parts.Helper.round.Given as goal

abbrev pub invariant-loop-tree : goal.invariant-loop-tree
invariant-loop-tree g l = record {
  helper : IsHelperOf l.pool l.self;
  within : l.tree ≤ vec_len l.pool.trees;
  few : l.published ≤ l.taken;
  most : l.taken ≤ l.tree;
  published : published_by l.self ≡ published_by l.initial.self + l.published;
  taken : taken_by l.self ≡ taken_by l.initial.self + l.taken;
}

abbrev pub decreases-loop-tree : goal.decreases-loop-tree
decreases-loop-tree g l = vec_len l.pool.trees - l.tree
