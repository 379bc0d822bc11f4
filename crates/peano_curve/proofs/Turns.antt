-- The next place round a vertex, level by level, in both dimensions.
use Rattle.std.proofs.Common.{◌≡◌, ℕ, suc, ◌+◌, ◌/◌, ◌%◌, ◌^◌, ◌<◌, arith, sym, ap, subst, Option, Some}
use Rattle.std.proofs.Math.Nat.{pow-suc}
use Rattle.peano_keys.specs.declared.dim.Dim.{Dim}
use Rattle.peano_keys.specs.declared.dim.Dim.TheVariants.{Two, Three}
use Rattle.peano_curve.specs.declared.order.Direction.{Direction}
use Rattle.stack_law.specs.Digits.{turned}
use Rattle.peano_curve.specs.Order.{rank_from}
use Rattle.peano_curve.specs.Passing.{IsBeside, TurnsOn, Crosses}
use Rattle.peano_curve.proofs.Splits.{Quiet, later_up_to, up_to_refl}
use Rattle.peano_curve.proofs.Levels.{Within, twice, thrice, rank_thrice, rank_twice, rank_apart, like_turn, below_among, third_beside, twice_second, twice_first, twice_above, thrice_third, thrice_above}

module _ (dir : Direction) (l x0 x1 x2 y0 y1 y2 : ℕ) (b0 : IsBeside x0 y0) (b1 : IsBeside x1 y1) (b2 : IsBeside x2 y2) where
  up3 : (x : ℕ) → x < 3 ^ suc l → x / 3 < 3 ^ l
  up3 x h = omega (arith, pow-suc 3 l)

  -- in space a level is three splits
  abbrev space : ℕ → ℕ → ℕ → ℕ
  space = rank_from Three l

  module _ (hx : Within Three (suc l) x0 x1 x2) (hy : Within Three (suc l) y0 y1 y2) where
    in_space : (o : Option ℕ) → TurnsOn dir (thrice space) x0 x1 x2 y0 y1 y2 o → TurnsOn dir (rank_from Three (suc l)) x0 x1 x2 y0 y1 y2 o
    in_space o h = like_turn dir (thrice space) (rank_from Three (suc l)) x0 x1 x2 y0 y1 y2 (λ t0 t1 t2 a0 a1 a2. sym (rank_thrice l t0 t1 t2)) o h

    space_third : Crosses dir (x0 + x1) x2 y2 → TurnsOn dir (rank_from Three (suc l)) x0 x1 x2 y0 y1 y2 (Some 2)
    space_third c = in_space (Some 2) (thrice_third dir (3 ^ l) (3 ^ l) (3 ^ l) space (rank_apart Three l) x0 x1 x2 y0 y1 y2 (up3 x0 hx.0) (up3 y0 hy.0) (up3 x1 hx.1) (up3 y1 hy.1) (up3 x2 hx.2) (up3 y2 hy.2) c)

    space_more : (o : Option ℕ) → Quiet dir (x0 + x1) x2 y2 → TurnsOn dir (twice space) x0 x1 (x2 / 3) y0 y1 (y2 / 3) o → TurnsOn dir (rank_from Three (suc l)) x0 x1 x2 y0 y1 y2 o
    space_more o still h = in_space o (thrice_above dir (3 ^ l) (3 ^ l) (3 ^ l) space (rank_apart Three l) x0 x1 x2 y0 y1 y2 (up3 x0 hx.0) (up3 y0 hy.0) (up3 x1 hx.1) (up3 y1 hy.1) (up3 x2 hx.2) (up3 y2 hy.2) o b0 b1 still h)

    space_second : Quiet dir (x0 + x1) x2 y2 → Crosses dir (x0 + x2 / 3) x1 y1 → TurnsOn dir (rank_from Three (suc l)) x0 x1 x2 y0 y1 y2 (Some 1)
    space_second still c = space_more (Some 1) still (twice_second dir (3 ^ l) (3 ^ l) (3 ^ l) space (rank_apart Three l) x0 x1 (x2 / 3) y0 y1 (y2 / 3) (up3 x0 hx.0) (up3 y0 hy.0) (up3 x1 hx.1) (up3 y1 hy.1) (up3 x2 hx.2) (up3 y2 hy.2) c)

    space_first : Quiet dir (x0 + x1) x2 y2 → Quiet dir (x0 + x2 / 3) x1 y1 → Crosses dir (x1 / 3 + x2 / 3) x0 y0 → TurnsOn dir (rank_from Three (suc l)) x0 x1 x2 y0 y1 y2 (Some 0)
    space_first still more c = space_more (Some 0) still (twice_first dir (3 ^ l) (3 ^ l) (3 ^ l) space (rank_apart Three l) x0 x1 (x2 / 3) y0 y1 (y2 / 3) (up3 x0 hx.0) (up3 y0 hy.0) (up3 x1 hx.1) (up3 y1 hy.1) (up3 x2 hx.2) (up3 y2 hy.2) b0 (third_beside x2 y2 b2) more c)

    space_above : (o : Option ℕ) → Quiet dir (x0 + x1) x2 y2 → Quiet dir (x0 + x2 / 3) x1 y1 → Quiet dir (x1 / 3 + x2 / 3) x0 y0 → TurnsOn dir space (x0 / 3) (x1 / 3) (x2 / 3) (y0 / 3) (y1 / 3) (y2 / 3) o → TurnsOn dir (rank_from Three (suc l)) x0 x1 x2 y0 y1 y2 o
    space_above o still more most h = space_more o still (twice_above dir (3 ^ l) (3 ^ l) (3 ^ l) space (rank_apart Three l) x0 x1 (x2 / 3) y0 y1 (y2 / 3) (up3 x0 hx.0) (up3 y0 hy.0) (up3 x1 hx.1) (up3 y1 hy.1) (up3 x2 hx.2) (up3 y2 hy.2) o b0 b1 (third_beside x2 y2 b2) more most h)

  -- in a plane it is two, and axis 2 has the one coordinate 0
  abbrev flat : ℕ → ℕ → ℕ → ℕ
  flat = rank_from Two l

  module _ (hx : Within Two (suc l) x0 x1 x2) (hy : Within Two (suc l) y0 y1 y2) where
    in_plane : (o : Option ℕ) → TurnsOn dir (twice flat) x0 x1 (x2 / 3) y0 y1 (y2 / 3) o → TurnsOn dir (rank_from Two (suc l)) x0 x1 x2 y0 y1 y2 o
    in_plane o h =
        let ex : x2 / 3 ≡ x2 = omega (arith, hx.2) in
        let ey : y2 / 3 ≡ y2 = omega (arith, hy.2) in
        like_turn dir (twice flat) (rank_from Two (suc l)) x0 x1 x2 y0 y1 y2 (λ t0 t1 t2 a0 a1 a2. let z = below_among 1 x2 y2 t2 hx.2 hy.2 a2 in sym (rank_twice l t0 t1 t2 (omega arith))) o
        (subst (λ w. TurnsOn dir (twice flat) x0 x1 x2 y0 y1 w o) ey (subst (λ w. TurnsOn dir (twice flat) x0 x1 w y0 y1 (y2 / 3) o) ex h))

    flat_x : x2 / 3 < 1
    flat_x = omega (arith, hx.2)

    flat_y : y2 / 3 < 1
    flat_y = omega (arith, hy.2)

    plane_third : Crosses dir (x0 + x1) x2 y2 → TurnsOn dir (rank_from Two (suc l)) x0 x1 x2 y0 y1 y2 (Some 2)
    plane_third c = let e : y2 ≡ x2 = omega (arith, hx.2, hy.2) in absurd (later_up_to dir (turned (x0 + x1) (x2 % 3)) (turned (x0 + x1) (y2 % 3)) c.1 (up_to_refl dir (turned (x0 + x1) (y2 % 3)) (turned (x0 + x1) (x2 % 3)) (ap (λ z. turned (x0 + x1) (z % 3)) e)))

    plane_second : Crosses dir (x0 + x2 / 3) x1 y1 → TurnsOn dir (rank_from Two (suc l)) x0 x1 x2 y0 y1 y2 (Some 1)
    plane_second c = in_plane (Some 1) (twice_second dir (3 ^ l) (3 ^ l) 1 flat (rank_apart Two l) x0 x1 (x2 / 3) y0 y1 (y2 / 3) (up3 x0 hx.0) (up3 y0 hy.0) (up3 x1 hx.1) (up3 y1 hy.1) flat_x flat_y c)

    plane_first : Quiet dir (x0 + x2 / 3) x1 y1 → Crosses dir (x1 / 3 + x2 / 3) x0 y0 → TurnsOn dir (rank_from Two (suc l)) x0 x1 x2 y0 y1 y2 (Some 0)
    plane_first more c = in_plane (Some 0) (twice_first dir (3 ^ l) (3 ^ l) 1 flat (rank_apart Two l) x0 x1 (x2 / 3) y0 y1 (y2 / 3) (up3 x0 hx.0) (up3 y0 hy.0) (up3 x1 hx.1) (up3 y1 hy.1) flat_x flat_y b0 (third_beside x2 y2 b2) more c)

    plane_above : (o : Option ℕ) → Quiet dir (x0 + x2 / 3) x1 y1 → Quiet dir (x1 / 3 + x2 / 3) x0 y0 → TurnsOn dir flat (x0 / 3) (x1 / 3) (x2 / 3) (y0 / 3) (y1 / 3) (y2 / 3) o → TurnsOn dir (rank_from Two (suc l)) x0 x1 x2 y0 y1 y2 o
    plane_above o more most h = in_plane o (twice_above dir (3 ^ l) (3 ^ l) 1 flat (rank_apart Two l) x0 x1 (x2 / 3) y0 y1 (y2 / 3) (up3 x0 hx.0) (up3 y0 hy.0) (up3 x1 hx.1) (up3 y1 hy.1) flat_x flat_y o b0 b1 (third_beside x2 y2 b2) more most h)

  -- both dimensions at once
  pub next_third : (dim : Dim) → Within dim (suc l) x0 x1 x2 → Within dim (suc l) y0 y1 y2 → Crosses dir (x0 + x1) x2 y2 → TurnsOn dir (rank_from dim (suc l)) x0 x1 x2 y0 y1 y2 (Some 2)
  next_third Two hx hy = plane_third hx hy
  next_third Three hx hy = space_third hx hy

  pub next_second : (dim : Dim) → Within dim (suc l) x0 x1 x2 → Within dim (suc l) y0 y1 y2 → Quiet dir (x0 + x1) x2 y2 → Crosses dir (x0 + x2 / 3) x1 y1 → TurnsOn dir (rank_from dim (suc l)) x0 x1 x2 y0 y1 y2 (Some 1)
  next_second Two hx hy still c = plane_second hx hy c
  next_second Three hx hy still c = space_second hx hy still c

  pub next_first : (dim : Dim) → Within dim (suc l) x0 x1 x2 → Within dim (suc l) y0 y1 y2 → Quiet dir (x0 + x1) x2 y2 → Quiet dir (x0 + x2 / 3) x1 y1 → Crosses dir (x1 / 3 + x2 / 3) x0 y0 → TurnsOn dir (rank_from dim (suc l)) x0 x1 x2 y0 y1 y2 (Some 0)
  next_first Two hx hy still more c = plane_first hx hy more c
  next_first Three hx hy still more c = space_first hx hy still more c

  pub next_above : (dim : Dim) → Within dim (suc l) x0 x1 x2 → Within dim (suc l) y0 y1 y2 → (o : Option ℕ) → Quiet dir (x0 + x1) x2 y2 → Quiet dir (x0 + x2 / 3) x1 y1 → Quiet dir (x1 / 3 + x2 / 3) x0 y0 → TurnsOn dir (rank_from dim l) (x0 / 3) (x1 / 3) (x2 / 3) (y0 / 3) (y1 / 3) (y2 / 3) o → TurnsOn dir (rank_from dim (suc l)) x0 x1 x2 y0 y1 y2 o
  next_above Two hx hy o still more most h = plane_above hx hy o more most h
  next_above Three hx hy o still more most h = space_above hx hy o still more most h
