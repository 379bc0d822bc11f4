use Rattle.std.proofs.Common.{arith}
use Rattle.boundary_streams.specs.Sendings.{IsInside}
use Rattle.boundary_streams.proofs.WithinCell.{coarse_cell, surrounds}
use Rattle.boundary_streams.proofs.inner.cell_inside.Goals as goal

pub returns : goal.returns
returns c =
    let h : IsInside c.args.dim c.args.vertex = c.is_inside.ensures c.if-not-is_inside.false in
    record {
      cell = coarse_cell c.args.dim c.args.vertex c.requires h;
      level = omega arith;
      round = surrounds c.args.dim c.args.vertex c.requires h;
    }
