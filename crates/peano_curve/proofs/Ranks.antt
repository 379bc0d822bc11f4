-- Ranks among the cells of a level: bounds, one step, and intervals.
use Rattle.std.proofs.Common.{◌≡◌, ℕ, zero, suc, ◌+◌, ◌*◌, ◌/◌, ◌%◌, ◌^◌, ◌-◌, ◌<◌, ◌≤◌, arith, lit<, refl, sub-one}
use Rattle.std.proofs.Math.Nat.{pow-suc, pow-le-pow_right, one-le-pow, mul-le-mul_left, mul-le-mul_right}
use Rattle.std.proofs.lemmas.Nat.{pow-add}
use Rattle.peano_keys.specs.declared.cell.CellKey.{CellKey}
use Rattle.peano_keys.specs.declared.dim.Dim.{Dim}
use Rattle.peano_keys.specs.declared.dim.Dim.TheVariants.{Two, Three}
use Rattle.peano_keys.specs.Dim.{children}
use Rattle.peano_keys.specs.Cell.{at, parent_of}
use Rattle.peano_curve.specs.Order.{place_of, sibling_place, rank_from, rank_of}

-- as many cells as a level has at most
pub children_pow_12 : (dim : Dim) (l : ℕ) → l ≤ 12 → children dim ^ l ≤ 150094635296999121
children_pow_12 Two l h = omega (arith, let most : 9 ^ l ≤ 9 ^ 12 = pow-le-pow_right (lit< tt) h in most)
children_pow_12 Three l h = pow-le-pow_right (lit< tt) h

-- a rank among the cells of the next level stays below their number
pub rank_below : (n r p l : ℕ) → 0 < l → r < n ^ (l - 1) → p < n → n * r + p < n ^ l
rank_below n r p zero h hr hp = absurd (omega arith)
rank_below n r p (suc l) h hr hp =
    let row : n * suc r ≤ n * n ^ l = mul-le-mul_left n (rw sub-one at hr) in
    rw pow-suc (omega arith)

-- the rank from that of the parent
rank_from-step : (dim : Dim) (l x0 x1 x2 : ℕ) → 0 < l → rank_from dim l x0 x1 x2 ≡ children dim * rank_from dim (l - 1) (x0 / 3) (x1 / 3) (x2 / 3) + place_of dim (x0 / 3) (x1 / 3) (x2 / 3) (x0 % 3) (x1 % 3) (x2 % 3)
rank_from-step dim zero x0 x1 x2 h = absurd (omega arith)
rank_from-step dim (suc l) x0 x1 x2 h = rw (sub-one) refl

pub rank_of-step : (dim : Dim) (c : CellKey) → 0 < c.level → rank_of dim c ≡ children dim * rank_of dim (parent_of c) + sibling_place dim c
rank_of-step dim c h = rank_from-step dim c.level (at c 0) (at c 1) (at c 2) h

pub ruleset steps = (rank_of-step)

pub width_positive : (dim : Dim) (k : ℕ) → 0 < children dim ^ k
width_positive Two k = one-le-pow k 9 (lit< tt)
width_positive Three k = one-le-pow k 27 (lit< tt)

-- an interval ends inside the positions of its depth
pub interval_within : (n r l depth : ℕ) → l ≤ depth → r < n ^ l → r * n ^ (depth - l) + n ^ (depth - l) ≤ n ^ depth
interval_within n r l depth h below =
    let row : suc r * n ^ (depth - l) ≤ n ^ l * n ^ (depth - l) = mul-le-mul_right (n ^ (depth - l)) below in
    let whole = pow-add n l (depth - l) in
    let sum : l + (depth - l) ≡ depth = omega arith in
    let all : n ^ depth ≡ n ^ l * n ^ (depth - l) = rw sum at whole in
    omega arith
