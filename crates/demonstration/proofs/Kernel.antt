-- A leaf's new value lies where it and what it sees do.
use Rattle.std.proofs.Common.{◌≡◌, ℕ, ◌*◌, ◌^◌, ◌<◌, ◌≤◌, arith, lit<, ap, cond, Some, None, slice_index_or}
use Rattle.std.proofs.Math.Nat.{pow-le-pow_right}
use Rattle.std.proofs.lemmas.Int.{ints}
use Rattle.std.specs.Prelude.{ℤ, pos, negsuc, ◌≤ℤ◌, ◌+ℤ◌, ◌*ℤ◌}
use Rattle.std.specs.Int.{w64, int_div_euclid}
use Rattle.std.specs.Int.RustNames.{FitsSigned}
use borrow.Author.Tests.{lt-ltb}
use Rattle.peano_keys.specs.declared.dim.Dim.TheVariants.{Two}
use Rattle.peano_keys.specs.declared.state.State.{State}
use Rattle.peano_keys.specs.declared.state.State.TheVariants.{Single}
use Rattle.peano_keys.specs.declared.side.Side.{Side}
use Rattle.peano_keys.specs.declared.side.Side.TheVariants.{Edge, Same, Coarse}
use Rattle.peano_keys.specs.State.{value_at}
use Rattle.solver_api.specs.Marks.{faces_of}
use Rattle.volume_solver.specs.declared.edge.EdgeRule.TheVariants.{Copy}
use Rattle.volume_solver.specs.Kernel.{across, fitted, single_of}
use Rattle.demonstration.specs.Laws.{IsWithin, SeesWithin, StaysBetween}
use Rattle.demonstration.proofs.Floors.{rises_to, moves_at_most, moves_at_least}

-- the state across a face, the leaf's own at the domain's edge
across_within : (low high : ℤ) (own : State) (side : Side) → IsWithin low high own → SeesWithin low high side → IsWithin low high (across Copy own side)
across_within low high own Edge itself seen = itself
across_within low high own (Same s) itself seen = seen
across_within low high own (Coarse s) itself seen = seen

-- a number between two that fit does so too
fits_between : (low high z : ℤ) → FitsSigned w64 low → FitsSigned w64 high → low ≤ℤ z → z ≤ℤ high → fitted z ≡ Some z
fits_between low high (pos n) fl fh l h =
    let below : n < 2 ^ 63 = omega (arith, ints, fh) in
    ap (λ b. cond b (Some (pos n)) None) (lt-ltb _ _ below)
fits_between low high (negsuc n) fl fh l h =
    let below : n < 2 ^ 63 = omega (arith, ints, fl) in
    ap (λ b. cond b (Some (negsuc n)) None) (lt-ltb _ _ below)

pub stays_between : StaysBetween
stays_between low high own sides level fl fh shallow itself seen =
    let u : ℤ = value_at own 0 in
    let at : ℕ → ℤ = λ i. value_at (across Copy own (side_of i)) 0 in
    let k : ℕ = 1 * 9 ^ level in
    let power : 9 ^ level ≤ 9 ^ 5 = pow-le-pow_right (lit< tt) shallow in
    let few : 4 * k ≤ 295245 = omega (arith, power) in
    let w : (i : ℕ) → i < 4 → IsWithin low high (across Copy own (side_of i)) = λ i h. across_within low high own (side_of i) itself (seen i Edge h) in
    let a = w 0 (omega arith) in
    let b = w 1 (omega arith) in
    let c = w 2 (omega arith) in
    let d = w 3 (omega arith) in
    let new : ℤ = u +ℤ int_div_euclid (pos k *ℤ rises_to u (at 0) (at 1) (at 2) (at 3)) (pos 295245) in
    let most = moves_at_most high u (at 0) (at 1) (at 2) (at 3) k 295245 (omega arith) few itself.most a.most b.most c.most d.most in
    let least = moves_at_least low u (at 0) (at 1) (at 2) (at 3) k 295245 (omega arith) few itself.least a.least b.least c.least d.least in
    (Single new, ap single_of (fits_between low high new fl fh least most), record { least = least; most = most }) where
      side_of : ℕ → Side
      side_of i = slice_index_or (faces_of Two sides) i Edge
