use Rattle.std.proofs.Common.{◌≡◌, ◌+◌}
use Rattle.std.specs.Prelude.{vec_len, vec_capacity}
use Rattle.vertex_stacks.specs.Piles.{AreWhole}
use Rattle.vertex_stacks.proofs.page.Pool.grow.Given as goal

abbrev pub invariant-loop-i : goal.invariant-loop-i
invariant-loop-i l = record {
  had : l.had ≡ l.fn.self.count;
  len : vec_len l.self-inside.pages ≡ l.had + l.i;
  capacity : vec_capacity l.self-inside.pages ≡ l.fn.self.reach;
  whole : AreWhole l.self-inside.pages.items;
}
