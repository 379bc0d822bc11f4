-- The plan of a demonstration, by its number.
use Rattle.std.specs.Prelude.{ℕ, pos, ◌+◌, ◌*◌, ◌-ℤ◌, map, Some, None}
use Rattle.std.specs.List.{range_with_len}
use Rattle.peano_keys.specs.declared.dim.Dim.TheVariants.{Two}
use Rattle.peano_keys.specs.declared.state.State.TheVariants.{Single}
use Rattle.peano_keys.specs.Cell.{triple}
use Rattle.volume_solver.specs.declared.any.AnySolver.{AnySolver}
use Rattle.volume_solver.specs.declared.any.AnySolver.TheVariants.{Diffuse}
use Rattle.volume_solver.specs.declared.edge.EdgeRule.TheVariants.{Copy}
use Rattle.spacetree.specs.declared.shape.Fill.{Fill}
use Rattle.spacetree.specs.declared.shape.Zone.{Zone}
use Rattle.grid_file.specs.declared.plan.Plan.{Plan}
use Rattle.demonstration.specs.Draws.{draw}

-- a fill of two by two cells of level 3 from the cell at `x` and `y` on, with a value from -1000 on
abbrev pub fill_by : ℕ → ℕ → ℕ → Fill
fill_by x y v =
    record {
      level = 3;
      from = triple x y 0;
      to = triple (x + 2) (y + 2) 0;
      value = Single (pos v -ℤ pos 1000);
    }

-- the box of the one cell of level 3 at `x` and `y`, refined down to level 5
abbrev pub zone_by : ℕ → ℕ → Zone
zone_by x y = record { level = 3; from = triple x y 0; to = triple (x + 1) (y + 1) 0; until = 5 }

-- the fill and the box that the next draws from a number of the generator on make
abbrev pub drawn_fill : ℕ → Fill
drawn_fill s = fill_by (draw s 0 25) (draw s 1 25) (draw s 2 2001)

-- the box to refine that the next draws make
abbrev pub drawn_zone : ℕ → Zone
drawn_zone s = zone_by (draw s 0 27) (draw s 1 27)

-- fill number `i`: three draws each, from the first draw on
abbrev pub fill_at : ℕ → ℕ → Fill
fill_at n i = fill_by (draw n (3 * i) 25) (draw n (3 * i + 1) 25) (draw n (3 * i + 2) 2001)

-- box number `j` to refine: two draws each, behind the 36 draws of the fills
abbrev pub zone_at : ℕ → ℕ → Zone
zone_at n j = zone_by (draw n (36 + 2 * j) 27) (draw n (36 + 2 * j + 1) 27)

-- the solver: diffusion in a plane, by 1 / (5 * 9 ^ 5), with a copied edge, down to level 5
abbrev pub demo_solver : AnySolver
demo_solver = Diffuse (record {
  dim = Two;
  a = pos 1;
  b = pos 295245;
  edge = Copy;
  watch = Some (record { hi = pos 100; lo = pos 5; watch = 0; depth = 5 });
})

-- the plan of demonstration `n`: 12 fills and 8 boxes on a grid of base 3 and depth 5, 20 steps, of which the last is printed
abbrev pub demo : ℕ → Plan
demo n = record {
  shape = record { dim = Two; depth = 5; base = 3; zones = map (zone_at n) (range_with_len 0 8) };
  fills = map (fill_at n) (range_with_len 0 12);
  solver = demo_solver;
  steps = 20;
  print_every = None;
  recut_every = None;
}
