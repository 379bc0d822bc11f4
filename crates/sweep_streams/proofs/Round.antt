-- The cells that are held round a vertex, each once.
use Rattle.std.proofs.Common.{◌≡◌, inl, inr, ℕ, ◌+◌, ◌-◌, ◌^◌, ◌<◌, ◌≤◌, Bool, true, false, ◌&&◌, leb, leb-true, if◌then◌else◌, List, [], ◌∷◌, Option, Some, None, refl, ap, ◌∙◌, arith, ⊎_elim}
use Rattle.std.specs.Prelude.{IfSome}
use Rattle.peano_keys.specs.declared.cell.CellKey.{CellKey}
use Rattle.peano_keys.specs.declared.vertex.VertexKey.{VertexKey}
use Rattle.peano_keys.specs.declared.dim.Dim.{Dim}
use Rattle.peano_keys.specs.declared.dim.Dim.TheVariants.{Two, Three}
use Rattle.peano_keys.specs.Dim.{corners}
use Rattle.peano_keys.specs.Cell.{triple}
use Rattle.peano_keys.specs.Vertex.{plane, bit_of, number_of, moved, cell_at, adjacent_of}
use Rattle.peano_keys.proofs.Positions.{position}
use Rattle.stack_law.specs.Once.{IsIn}
use Rattle.stack_law.specs.Stack.{AreDistinct}
use Rattle.stack_law.proofs.Distinct.{in_either, distinct_append}
use Rattle.sweep_visits.specs.Plan.{SweepPlan, dim_of, is_held, corner_numbers}
use Rattle.sweep_visits.specs.Runs.{held_cell, held_at, held_round}
use Rattle.sweep_visits.specs.Moves.{same_cell}
use Rattle.sweep_visits.proofs.Same.{cells_decided}

-- a coordinate that was moved
moved_back : (v s e x : ℕ) → moved v s e ≡ Some x → x + 1 - v ≡ s
moved_back v s e x h = by (leb 1 (v + s)) (leb (v + s) e) refl h
  where
    by : (a b : Bool) → leb 1 (v + s) ≡ a → (if a && b then Some (v + s - 1) else None) ≡ Some x → x + 1 - v ≡ s
    by true true f g = (let l = leb-true 1 (v + s) f in let k = ap (λ (o : Option ℕ). elim o as (λ _. ℕ) [ Some y ↦ y | None ↦ 0 ]) g in omega arith)
    by true false f g = absurd (cc)
    by false b f g = absurd (cc)

number_back : (dim : Dim) (n : ℕ) → n < corners dim → number_of dim (bit_of n 0) (bit_of n 1) (bit_of n 2) ≡ n
number_back Two n h = omega arith
number_back Three n h = omega arith

by_places : (P : CellKey → Type 0) (l : ℕ) (a b c : Option ℕ) → ((x y z : ℕ) → a ≡ Some x → b ≡ Some y → c ≡ Some z → P (record { level = l; x = triple x y z })) → IfSome (cell_at l a b c) P
by_places P l (Some x) (Some y) (Some z) f = f x y z refl refl refl
by_places P l None b c f = tt
by_places P l (Some x) None c f = tt
by_places P l (Some x) (Some y) None f = tt

-- a cell at a position tells its number
pub position_is : (dim : Dim) (v : VertexKey) (n : ℕ) → n < corners dim → IfSome (adjacent_of dim v n) (λ q. position dim v q ≡ n)
position_is Two v n h = by_places (λ q. position Two v q ≡ n) v.level _ _ _ (λ x y z hx hy hz.
    let a = moved_back (plane v 0) (bit_of n 0) (3 ^ v.level) x hx in
    let b = moved_back (plane v 1) (bit_of n 1) (3 ^ v.level) y hy in
    rw (a, b) (number_back Two n h))
position_is Three v n h = by_places (λ q. position Three v q ≡ n) v.level _ _ _ (λ x y z hx hy hz.
    let a = moved_back (plane v 0) (bit_of n 0) (3 ^ v.level) x hx in
    let b = moved_back (plane v 1) (bit_of n 1) (3 ^ v.level) y hy in
    let c = moved_back (plane v 2) (bit_of n 2) (3 ^ v.level) z hz in
    rw (a, b, c) (number_back Three n h))

module _ (dim : Dim) (held : CellKey → Bool) (v : VertexKey) where
  position_of : (n : ℕ) (q : CellKey) → n < corners dim → IsIn q (held_cell held (adjacent_of dim v n)) → position dim v q ≡ n
  position_of n q h k = by (adjacent_of dim v n) (position_is dim v n h) k
    where
      by : (o : Option CellKey) → IfSome o (λ q. position dim v q ≡ n) → IsIn q (held_cell held o) → position dim v q ≡ n
      by None f g = absurd g
      by (Some r) f g = one (held r) g
        where
          one : (t : Bool) → IsIn q (if t then r ∷ [] else []) → position dim v q ≡ n
          one true (inl e) = ap (position dim v) e ∙ f
          one true (inr k) = absurd k
          one false k = absurd k

  -- all are numbers of corners, and later ones are greater
  abbrev AreNumbers : ℕ → List ℕ → Type 0
  AreNumbers least [] = Unit {0}
  AreNumbers least (n ∷ ns) = (least ≤ n) × (n < corners dim) × AreNumbers (n + 1) ns

  later_number : (least : ℕ) (ns : List ℕ) (q : CellKey) → AreNumbers least ns → IsIn q (held_at dim held v ns) → least ≤ position dim v q
  later_number least [] q a k = absurd k
  later_number least (n ∷ ns) q a k =
      ⊎_elim
      (λ here. (let e = position_of n q a.1 here in omega (arith, a.0)))
      (λ there. (let l = later_number (n + 1) ns q a.2 there in omega (arith, a.0)))
      (in_either q (held_cell held (adjacent_of dim v n)) (held_at dim held v ns) k)

  one_distinct : (o : Option CellKey) → AreDistinct same_cell (held_cell held o)
  one_distinct None = tt
  one_distinct (Some r) = by (held r)
    where
      by : (t : Bool) → AreDistinct same_cell (if t then r ∷ [] else [])
      by true = (refl, tt)
      by false = tt

  held_distinct : (least : ℕ) (ns : List ℕ) → AreNumbers least ns → AreDistinct same_cell (held_at dim held v ns)
  held_distinct least [] a = tt
  held_distinct least (n ∷ ns) a =
      distinct_append CellKey same_cell cells_decided.reflexive cells_decided.exact (held_cell held (adjacent_of dim v n)) (held_at dim held v ns) (one_distinct (adjacent_of dim v n)) (held_distinct (n + 1) ns a.2)
      (λ q f g. (let e = position_of n q a.1 f in let l = later_number (n + 1) ns q a.2 g in absurd (omega arith)))

are_numbers : (dim : Dim) (held : CellKey → Bool) (v : VertexKey) → AreNumbers dim held v 0 (corner_numbers dim)
are_numbers Two held v = ((omega arith), omega arith, (omega arith, omega arith, (omega arith, omega arith, (omega arith, omega arith, tt))))
are_numbers Three held v = ((omega arith), omega arith, (omega arith, omega arith, (omega arith, omega arith, (omega arith, omega arith, (omega arith, omega arith, (omega arith, omega arith, (omega arith, omega arith, (omega arith, omega arith, tt))))))))

pub round_distinct : (p : SweepPlan) (v : VertexKey) → AreDistinct same_cell (held_round p v)
round_distinct p v = held_distinct (dim_of p) (is_held p) v 0 (corner_numbers (dim_of p)) (are_numbers (dim_of p) (is_held p) v)
