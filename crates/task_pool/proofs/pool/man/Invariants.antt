use Rattle.std.proofs.Common.{◌≡◌, ◌+◌, ◌<◌, ◌≤◌, ◌-◌, ℕ, vec_len, slice_index_or}
use Rattle.result_table.specs.declared.parts.DeskSeat.{DeskSeat}
use Rattle.task_pool.specs.declared.parts.Tree.{Tree}
use Rattle.task_pool.specs.declared.parts.Helper.{Helper}
use Rattle.task_pool.specs.Built.{IsFreshSeat, IsPlaced}
use Rattle.task_pool.proofs.pool.man.Given as goal

abbrev pub invariant-loop-at : goal.invariant-loop-at
invariant-loop-at g l = record {
  within : l.at ≤ vec_len l.helpers;
  len : vec_len l.helpers ≡ vec_len l.initial.helpers;
  left : vec_len l.seats + l.at ≡ vec_len l.initial.helpers + 1;
  first : (d : DeskSeat g.row.S.Denot g.S.Updates) → slice_index_or l.seats.items 0 d ≡ slice_index_or l.initial.seats.items 0 d;
  seats : (i : ℕ) (x : Tree g.row.S.Denot g.S.Updates) (d : DeskSeat g.row.S.Denot g.S.Updates) → i < vec_len l.seats → IsFreshSeat (slice_index_or l.trees l.tree x) (slice_index_or l.seats.items i d);
  placed : (j : ℕ) (h : Helper g.row.S.Denot g.S.Updates) → j < l.at → IsPlaced l.trees (l.tree + 1) (slice_index_or l.helpers.items j h);
  others : (j : ℕ) (h : Helper g.row.S.Denot g.S.Updates) → l.at ≤ j → j < vec_len l.helpers → IsPlaced l.trees l.tree (slice_index_or l.helpers.items j h);
}

abbrev pub decreases-loop-at : goal.decreases-loop-at
decreases-loop-at g l = vec_len l.helpers - l.at
