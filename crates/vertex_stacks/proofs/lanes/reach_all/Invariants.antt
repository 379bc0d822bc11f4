use Rattle.std.proofs.Common.{◌≡◌, ◌<◌, ◌≤◌, ℕ, map, length, get_or}
use Rattle.vertex_stacks.specs.Piles.{PileSeen, Reach, items_of}
use Rattle.vertex_stacks.proofs.lanes.reach_all.Given as goal

abbrev pub invariant-loop-i : goal.invariant-loop-i
invariant-loop-i l = record {
  count : length l.piles ≡ 6;
  items : map items_of l.piles ≡ map items_of l.fn.piles;
  kept : (had : ℕ) → Reach had l.fn.piles → Reach had l.piles;
  done : (k : ℕ) (d : PileSeen) → k < l.i → l.pages ≤ (get_or l.piles k d).reach;
}
