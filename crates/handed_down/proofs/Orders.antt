-- Faces tell the order of neighbours.
use Rattle.std.proofs.Common.{◌≡◌, ◌↔◌, inl, inr, ℕ, zero, suc, ◌+◌, ◌-◌, ◌/◌, ◌^◌, ◌<◌, Bool, true, false, if◌then◌else◌, arith, ⊎_elim, refl, sym, subst, Some, None}
use Rattle.std.proofs.lemmas.Bool.{cases_lt}
use Rattle.peano_keys.specs.declared.cell.CellKey.{CellKey}
use Rattle.peano_keys.specs.declared.dim.Dim.{Dim}
use Rattle.peano_keys.specs.declared.dim.Dim.TheVariants.{Two, Three}
use Rattle.peano_keys.specs.Dim.{axes}
use Rattle.peano_keys.specs.Cell.{IsCell, at}
use Rattle.peano_keys.proofs.Faces.{Next, with_x, placed, neighbour_next}
use Rattle.peano_curve.specs.declared.order.Direction.{Direction}
use Rattle.peano_curve.specs.declared.order.Direction.TheVariants.{Forward, Backward}
use Rattle.peano_curve.specs.Order.{rank_from}
use Rattle.peano_curve.specs.Run.{Later, CellLater}
use Rattle.peano_curve.specs.Passing.{IsBeside}
use Rattle.peano_curve.proofs.Splits.{later_up_to}
use Rattle.peano_curve.proofs.Levels.{Within}
use Rattle.sweep_visits.specs.Runs.{turned_round}
use Rattle.handed_down.specs.declared.faces.Crossing.{Crossing}
use Rattle.handed_down.specs.Ages.{age_of, crossing_of, faces_of, age_in, age_out}
use Rattle.handed_down.specs.Laws.{face_on_side, FacesTellOrder}
use Rattle.handed_down.proofs.Steps.{age_same, age_one_way}
use Rattle.handed_down.proofs.Turns.{youngest_turn}
use Rattle.handed_down.proofs.Rounds.{out_by, in_by}

same_beside : (x : ℕ) → IsBeside x x
same_beside x = record { low = omega arith; high = omega arith }

module _ (dir : Direction) (dim : Dim) (l x0 x1 x2 y : ℕ) (hx : Within dim l x0 x1 x2) where
  abbrev rank : ℕ → ℕ → ℕ → ℕ
  rank = rank_from dim l

  first_order : IsBeside x0 y → Within dim l y x1 x2 → (0 < age_of dir l (x1 / 3) (x2 / 3) x0 y) ↔ Later dir (rank x0 x1 x2) (rank y x1 x2)
  first_order b hy =
      let z1 = age_same dir l x0 (x2 / 3) x1 x1 refl in
      let z2 = age_same dir l x0 x1 x2 x2 refl in (
        λ h. (youngest_turn dir dim l x0 x1 x2 y x1 x2 b (same_beside x1) (same_beside x2) hx hy (Some 0) (h, omega (arith, z1, h), omega (arith, z2, h))).1.later,
        λ later. ⊎_elim (λ h. h) (λ u. absurd (later_up_to dir (rank x0 x1 x2) (rank y x1 x2) later ((youngest_turn dir dim l x0 x1 x2 y x1 x2 b (same_beside x1) (same_beside x2) hx hy None (omega (arith, u), z1, z2)).none y x1 x2 (inr refl) (inl refl) (inl refl)))) (cases_lt 0 (age_of dir l (x1 / 3) (x2 / 3) x0 y)),
      )

  second_order : IsBeside x1 y → Within dim l x0 y x2 → (0 < age_of dir l x0 (x2 / 3) x1 y) ↔ Later dir (rank x0 x1 x2) (rank x0 y x2)
  second_order b hy =
      let z0 = age_same dir l (x1 / 3) (x2 / 3) x0 x0 refl in
      let z2 = age_same dir l x0 x1 x2 x2 refl in (
        λ h. (youngest_turn dir dim l x0 x1 x2 x0 y x2 (same_beside x0) b (same_beside x2) hx hy (Some 1) (h, omega (arith, z0), omega (arith, z2, h))).1.later,
        λ later. ⊎_elim (λ h. h) (λ u. absurd (later_up_to dir (rank x0 x1 x2) (rank x0 y x2) later ((youngest_turn dir dim l x0 x1 x2 x0 y x2 (same_beside x0) b (same_beside x2) hx hy None (z0, omega (arith, u), z2)).none x0 y x2 (inl refl) (inr refl) (inl refl)))) (cases_lt 0 (age_of dir l x0 (x2 / 3) x1 y)),
      )

  third_order : IsBeside x2 y → Within dim l x0 x1 y → (0 < age_of dir l x0 x1 x2 y) ↔ Later dir (rank x0 x1 x2) (rank x0 x1 y)
  third_order b hy =
      let z0 = age_same dir l (x1 / 3) (x2 / 3) x0 x0 refl in
      let z1 = age_same dir l x0 (x2 / 3) x1 x1 refl in (
        λ h. (youngest_turn dir dim l x0 x1 x2 x0 x1 y (same_beside x0) (same_beside x1) b hx hy (Some 2) (h, omega (arith, z0), omega (arith, z1))).1.later,
        λ later. ⊎_elim (λ h. h) (λ u. absurd (later_up_to dir (rank x0 x1 x2) (rank x0 x1 y) later ((youngest_turn dir dim l x0 x1 x2 x0 x1 y (same_beside x0) (same_beside x1) b hx hy None (z0, z1, omega (arith, u))).none x0 x1 y (inl refl) (inl refl) (inr refl)))) (cases_lt 0 (age_of dir l x0 x1 x2 y)),
      )

-- a crossing tells which of two cells comes later
abbrev Told : Direction → Dim → CellKey → CellKey → Crossing → Type 0
Told dir dim c n x = ((0 < age_out x) ↔ CellLater dir dim c n) × ((0 < age_in x) ↔ CellLater dir dim n c)

back : (dir : Direction) (dim : Dim) (c n : CellKey) (a : ℕ) → (0 < a) ↔ CellLater (turned_round dir) dim c n → (0 < a) ↔ CellLater dir dim n c
back Forward dim c n a h = h
back Backward dim c n a h = h

told : (dir : Direction) (dim : Dim) (c n : CellKey) (l p q x y : ℕ) → ((d : Direction) → (0 < age_of d l p q x y) ↔ CellLater d dim c n) → Told dir dim c n (crossing_of dir l p q x y)
told dir dim c n l p q x y h =
    let later : ℕ = age_of dir l p q x y in
    let earlier : ℕ = age_of (turned_round dir) l p q x y in (
      subst (λ z. (0 < z) ↔ CellLater dir dim c n) (sym (out_by later earlier)) (h dir),
      subst (λ z. (0 < z) ↔ CellLater dir dim n c) (sym (in_by later earlier (age_one_way dir l p q x y))) (back dir dim c n earlier (h (turned_round dir))),
    )

-- the next place on an axis, by its side
on_side : (dir : Direction) (l p q x e y : ℕ) (P : Crossing → Type 0) (up : Bool) → Next up e x y → P (crossing_of dir l p q x y) → P (if up then crossing_of dir l p q x (x + 1) else crossing_of dir l p q x (x - 1))
on_side dir l p q x e y P true next h = subst (λ z. P (crossing_of dir l p q x z)) next.0 h
on_side dir l p q x e y P false next h = let z : y ≡ x - 1 = omega (arith, next) in subst (λ z. P (crossing_of dir l p q x z)) z h

beside_of : (up : Bool) (e x y : ℕ) → x < e → Next up e x y → IsBeside x y × (y < e)
beside_of true e x y h n = (record { low = omega (arith, n.0); high = omega (arith, n.0) }, n.1)
beside_of false e x y h n = (record { low = omega (arith, n); high = omega (arith, n) }, omega (arith, n))

by_axis : (dir : Direction) (dim : Dim) (c n : CellKey) (i : ℕ) (up : Bool) (y : ℕ) → IsCell dim c → i < axes dim → Next up (3 ^ c.level) (at c i) y → n ≡ with_x c (placed c i y) → Told dir dim c n (face_on_side (faces_of dir dim c) i up)
by_axis dir dim c n zero up y cell used next is =
    let k : CellKey = with_x c (placed c 0 y) in
    let b = beside_of up (3 ^ c.level) (at c 0) y cell.first next in
    let w = told dir dim c k c.level (at c 1 / 3) (at c 2 / 3) (at c 0) y (λ d. first_order d dim c.level (at c 0) (at c 1) (at c 2) y (cell.first, cell.second, cell.third) b.0 (b.1, cell.second, cell.third)) in
    subst (λ (k : CellKey). Told dir dim c k (face_on_side (faces_of dir dim c) 0 up)) (sym is) (on_side dir c.level (at c 1 / 3) (at c 2 / 3) (at c 0) (3 ^ c.level) y (Told dir dim c k) up next w)
by_axis dir dim c n (suc zero) up y cell used next is =
    let k : CellKey = with_x c (placed c 1 y) in
    let b = beside_of up (3 ^ c.level) (at c 1) y cell.second next in
    let w = told dir dim c k c.level (at c 0) (at c 2 / 3) (at c 1) y (λ d. second_order d dim c.level (at c 0) (at c 1) (at c 2) y (cell.first, cell.second, cell.third) b.0 (cell.first, b.1, cell.third)) in
    subst (λ (k : CellKey). Told dir dim c k (face_on_side (faces_of dir dim c) 1 up)) (sym is) (on_side dir c.level (at c 0) (at c 2 / 3) (at c 1) (3 ^ c.level) y (Told dir dim c k) up next w)
by_axis dir Two c n (suc (suc zero)) up y cell used next is = absurd (omega arith)
by_axis dir Three c n (suc (suc zero)) up y cell used next is =
    let k : CellKey = with_x c (placed c 2 y) in
    let b = beside_of up (3 ^ c.level) (at c 2) y cell.third next in
    let w = told dir Three c k c.level (at c 0) (at c 1) (at c 2) y (λ d. third_order d Three c.level (at c 0) (at c 1) (at c 2) y (cell.first, cell.second, cell.third) b.0 (cell.first, cell.second, b.1)) in
    subst (λ (k : CellKey). Told dir Three c k (face_on_side (faces_of dir Three c) 2 up)) (sym is) (on_side dir c.level (at c 0) (at c 1) (at c 2) (3 ^ c.level) y (Told dir Three c k) up next w)
by_axis dir Two c n (suc (suc (suc i))) up y cell used next is = absurd (omega arith)
by_axis dir Three c n (suc (suc (suc i))) up y cell used next is = absurd (omega arith)

pub faces_tell : FacesTellOrder
faces_tell dir dim c n i up cell used found = let r = neighbour_next up i c n cell.shape found in by_axis dir dim c n i up r.0 cell used r.1 r.2
