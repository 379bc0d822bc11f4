-- One axis of storedness from above.
use Rattle.std.proofs.Common.{◌≡◌, ℕ, ◌+◌, ◌-◌, ◌*◌, ◌/◌, ◌<◌, ◌≤◌, ◌==◌, ◌||◌, if◌then◌else◌, arith}
use Rattle.std.proofs.lemmas.Bool.Decides.{nat_tests}
use Rattle.hanging_nodes.specs.Above.{plane_above}

-- a cell's place next to a plane
abbrev pub Near : ℕ → ℕ → Type 0
Near q v = (q ≤ v) × (v ≤ q + 1)

-- a cell's place whose children reach a plane
abbrev pub Spans : ℕ → ℕ → Type 0
Spans z v = (3 * z ≤ v) × (v ≤ 3 * z + 3)

-- the parent of a place next to v is next to the plane above, and spans v
pub up_near : (x v q : ℕ) → Spans x v → Near q v → Near (q / 3) (plane_above x v)
up_near x v q s n = grind (arith, nat_tests)

pub up_spans : (x v q : ℕ) → Spans x v → Near q v → Spans (q / 3) v
up_spans x v q s n = omega arith

-- a place below z that is next to v
abbrev pub under : ℕ → ℕ → ℕ
under z v = if v == 3 * z then v else v - 1

pub under_near : (z v : ℕ) → Spans z v → Near (under z v) v
under_near z v s = grind (arith, nat_tests)

pub under_parent : (z v : ℕ) → Spans z v → under z v / 3 ≡ z
under_parent z v s = grind (arith, nat_tests)

-- a place next to the plane above, moved inside its parent to one that spans v
abbrev pub turned : ℕ → ℕ → ℕ → ℕ
turned x v y = if v == 3 * x || v == 3 * x + 3 then y else x

pub turned_near : (x v y : ℕ) → Spans x v → Near y (plane_above x v) → Near (turned x v y) (plane_above x v)
turned_near x v y s n = grind (arith, nat_tests)

pub turned_spans : (x v y : ℕ) → Spans x v → Near y (plane_above x v) → Spans (turned x v y) v
turned_spans x v y s n = grind (arith, nat_tests)

pub turned_parent : (x v y : ℕ) → Spans x v → Near y (plane_above x v) → turned x v y / 3 ≡ y / 3
turned_parent x v y s n = grind (arith, nat_tests)

pub turned_below : (e x v y : ℕ) → x < e → y < e → turned x v y < e
turned_below e x v y l m = grind (arith, nat_tests)
