use Rattle.std.proofs.Common.{◌+◌, ◌^◌, ◌<◌, arith}
use Rattle.std.proofs.Common.{rules}
use Rattle.vertex_stacks.proofs.Sound.{held-le-pages}
use Rattle.vertex_stacks.proofs.lanes.Lanes.held.Goals as goal

pub count-requires : goal.count-requires
count-requires c =
    let i = c.self.inside in
    let most = held-le-pages i.dim i.pages i.pool i.input i.output i.lanes c.self.invariant in
    omega (arith, most)

pub overflow_add-result-2 : goal.overflow_add-result-2
overflow_add-result-2 c =
    let i = c.self.inside in
    let most = held-le-pages i.dim i.pages i.pool i.input i.output i.lanes c.self.invariant in
    let sum : c.len.result + c.len-2.result + c.count.result < 2 ^ 64 = omega (arith, most, c.len.ensures, c.len-2.ensures, c.count.ensures) in
    search (rules, sum)
