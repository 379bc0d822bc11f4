-- The plan of a demonstration is within its ranges.
use Rattle.std.proofs.Common.{◌≡◌, ℕ, ◌+◌, ◌*◌, ◌<◌, arith, refl, sym, subst, map, List, None}
use Rattle.std.proofs.lemmas.List.FromFn.{length-map-range_with_len, get_or-map-range_with_len}
use Rattle.std.specs.Prelude.{All}
use Rattle.std.specs.List.{range_with_len}
use Rattle.peano_keys.specs.declared.dim.Dim.TheVariants.{Two}
use Rattle.spacetree.specs.declared.shape.Fill.{Fill}
use Rattle.spacetree.specs.declared.shape.Zone.{Zone}
use Rattle.volume_solver.specs.declared.any.AnySolver.{AnySolver}
use Rattle.spacetree.specs.Opening.{IsFill}
use Rattle.spacetree.specs.Build.{IsZone, IsShape}
use Rattle.demonstration.specs.Draws.{draw}
use Rattle.demonstration.specs.Demo.{fill_by, zone_by, fill_at, zone_at, demo, demo_solver}
use Rattle.demonstration.specs.Laws.{IsValid}
use Rattle.demonstration.proofs.LaterDraws.{draw_below}

-- what is said of each item of a list by number
pub each : {X : Type 0} (P : X → Type 0) (f : ℕ → X) (n : ℕ) → ((i : ℕ) → P (f i)) → All P (map f (range_with_len 0 n))
each P f n h k d below =
    let inside : k < n = subst (λ (l : ℕ). k < l) (length-map-range_with_len f 0 n) below in
    subst P (sym (get_or-map-range_with_len f 0 n k k d inside (omega arith))) (h k)

fill_fits : (x y v : ℕ) → x < 25 → y < 25 → IsFill 1 (fill_by x y v)
fill_fits x y v h g = record {
  box = record { level = omega arith; first = omega arith; first_order = omega arith; second = omega arith; second_order = omega arith; third = omega arith; third_order = omega arith };
  count = refl;
}

pub zone_fits : (x y : ℕ) → x < 27 → y < 27 → IsZone Two 5 (zone_by x y)
zone_fits x y h g = record {
  level = omega arith;
  first = record { order = omega arith; end = omega arith };
  second = record { order = omega arith; end = omega arith };
  third = tt;
  least = omega arith;
  most = omega arith;
}

pub zones_fit : (n : ℕ) → All (IsZone Two 5) (map (zone_at n) (range_with_len 0 8))
zones_fit n = each (IsZone Two 5) (zone_at n) 8 (λ j. zone_fits (draw n (36 + 2 * j) 27) (draw n (36 + 2 * j + 1) 27) (draw_below n (36 + 2 * j) 27 (omega arith)) (draw_below n (36 + 2 * j + 1) 27 (omega arith)))

pub fills_fit : (n : ℕ) → All (IsFill 1) (map (fill_at n) (range_with_len 0 12))
fills_fit n = each (IsFill 1) (fill_at n) 12 (λ i. fill_fits (draw n (3 * i) 25) (draw n (3 * i + 1) 25) (draw n (3 * i + 2) 2001) (draw_below n (3 * i) 25 (omega arith)) (draw_below n (3 * i + 1) 25 (omega arith)))

pub shape_fits : (n : ℕ) → IsShape (demo n).shape
shape_fits n = record { depth = omega arith; base = omega arith; zones = zones_fit n }

pub is_valid : IsValid
is_valid n = record { shape = shape_fits n; depth = omega arith; fills = fills_fit n; deepest = omega arith; steps = omega arith; recut_least = tt; recut_most = tt }

-- a plan of these parts is the demonstration's
pub same_plan : (n : ℕ) (fills : List Fill) (zones : List Zone) (solver : AnySolver) → fills ≡ map (fill_at n) (range_with_len 0 12) → zones ≡ map (zone_at n) (range_with_len 0 8) → solver ≡ demo_solver → record { shape = record { dim = Two; depth = 5; base = 3; zones = zones }; fills = fills; solver = solver; steps = 20; print_every = None; recut_every = None } ≡ demo n
same_plan n fills zones solver e g h = λ i. record { shape = record { dim = Two; depth = 5; base = 3; zones = g i }; fills = e i; solver = h i; steps = 20; print_every = None; recut_every = None }
