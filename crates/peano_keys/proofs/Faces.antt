-- Neighbours across faces, axis by axis.
use Rattle.std.proofs.Common.{◌≡◌, ℕ, ◌+◌, ◌-◌, ◌^◌, ◌<◌, Bool, true, false, if◌then◌else◌, List, length, Option, Some, None, refl, sym, ap, ◌∙◌, lt-ltb, arith}
use Rattle.std.specs.Prelude.{slice_set}
use Rattle.std.proofs.lemmas.Bool.Decides.{nat_tests}
use Rattle.std.proofs.lemmas.Bool.{false≢true}
use Rattle.peano_keys.specs.declared.cell.CellKey.{CellKey}
use Rattle.peano_keys.specs.Cell.{at, triple, neighbour_of}
use Rattle.peano_keys.specs.Field.{face_on}
use Rattle.peano_keys.proofs.Positions.{three}

-- the next place on an axis, below `e`
abbrev pub Next : Bool → ℕ → ℕ → ℕ → Type 0
Next true e x y = (y ≡ x + 1) × (y < e)
Next false e x y = (y + 1 ≡ x)

-- a cell at other coordinates
abbrev pub with_x : CellKey → List ℕ → CellKey
with_x c xs = record { level = c.level; x = xs }

-- the coordinates with another one on an axis
abbrev pub placed : CellKey → ℕ → ℕ → List ℕ
placed c i y = slice_set (triple (at c 0) (at c 1) (at c 2)) i y

set_place : (c : CellKey) (i y : ℕ) → length c.x ≡ 3 → slice_set c.x i y ≡ placed c i y
set_place c i y shape = ap (λ (xs : List ℕ). slice_set xs i y) (sym (three c.x shape))

if_some : (b : Bool) (x y : CellKey) → (if b then Some x else None) ≡ Some y → (b ≡ true) × (y ≡ x)
if_some true x y h = (refl, sym (ap (λ (o : Option CellKey). elim o as (λ _. CellKey) [ Some z ↦ z | None ↦ x ]) h))
if_some false x y h = absurd (false≢true (ap (λ (o : Option CellKey). elim o as (λ _. Bool) [ Some z ↦ true | None ↦ false ]) h))

-- a neighbour across a face: the next place on the face's axis, and all else as it was
pub neighbour_next : (up : Bool) (i : ℕ) (c n : CellKey) → length c.x ≡ 3 → neighbour_of c (face_on i up) ≡ Some n → (y : ℕ) × Next up (3 ^ c.level) (at c i) y × (n ≡ with_x c (placed c i y))
neighbour_next true i c n shape h = let r = if_some _ _ n h in (at c i + 1, (refl, grind (arith, nat_tests, r.0)), r.1 ∙ ap (with_x c) (set_place c i (at c i + 1) shape))
neighbour_next false i c n shape h = let r = if_some _ _ n h in (at c i - 1, grind (arith, nat_tests, r.0), r.1 ∙ ap (with_x c) (set_place c i (at c i - 1) shape))

-- and the other way round
pub next_neighbour : (up : Bool) (i : ℕ) (c : CellKey) (y : ℕ) → length c.x ≡ 3 → Next up (3 ^ c.level) (at c i) y → neighbour_of c (face_on i up) ≡ Some (with_x c (placed c i y))
next_neighbour true i c y shape h = rw (lt-ltb (at c i + 1) (3 ^ c.level) (omega (arith, h.0, h.1)), set_place c i (at c i + 1) shape, sym h.0) refl
next_neighbour false i c y shape h = let e : at c i - 1 ≡ y = omega (arith, h) in rw (lt-ltb 0 (at c i) (omega (arith, h)), set_place c i (at c i - 1) shape, e) refl
