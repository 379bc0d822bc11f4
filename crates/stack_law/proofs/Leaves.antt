-- What cells give when they are left is given once, where an item tells the cell that gives it.
use Rattle.std.proofs.Common.{◌≡◌, ℕ, ◌-◌, ◌<◌, ◌≤◌, Bool, true, List, [], ◌∷◌, ◌++◌, flat_map, refl, arith, ⊎_elim, inl, eq-eqb}
use Rattle.std.specs.List.{AllByRecursion}
use Rattle.stack_law.specs.Boxes.{Axis, Box, Direction}
use Rattle.stack_law.specs.Domain.{root}
use Rattle.stack_law.specs.Visits.{Faces, Visit, enter, leave, visits, walls}
use Rattle.stack_law.specs.Order.{rank, IsRightCell, IsRightVisit}
use Rattle.stack_law.specs.Once.{IsAscending, IsIn, left_at}
use Rattle.stack_law.specs.Stack.{AreDistinct}
use Rattle.stack_law.specs.Moments.{TellsApart}
use Rattle.stack_law.proofs.Chains.{each_in, in_right}
use Rattle.stack_law.proofs.Distinct.{in_either, distinct_append}
use Rattle.stack_law.proofs.Ways.{ways_follow_the_order}
use Rattle.stack_law.proofs.Once.{each_cell_once}

ascending_right : (place : Box → ℕ) (xs ys : List Box) → IsAscending place (xs ++ ys) → IsAscending place ys
ascending_right place [] ys h = h
ascending_right place (x ∷ xs) ys h = ascending_right place xs ys h.1

module _ (A : Type 0) (dir : Direction) (axis : ℕ → Axis) (is_cell : ℕ → Bool) (splits : ℕ) (gift : ℕ → Box → Faces → List A) where
  abbrev pub left_with : Visit → List A
  left_with (enter m b io) = []
  left_with (leave m b io) = gift m b io

  abbrev pub Right : ℕ → Box → Faces → Type 0
  Right = IsRightCell dir axis is_cell splits

  -- the item tells its cell
  abbrev pub TellsCell : Type 0
  TellsCell = (x : A) (m : ℕ) (b : Box) (io : Faces) (n : ℕ) (c : Box) (jo : Faces) → Right m b io → Right n c jo → IsIn x (gift m b io) → IsIn x (gift n c jo) → (m ≡ n) × (b ≡ c)

  record Found (x : A) (vs : List Visit) : Type 0 where
    pub m : ℕ
    pub b : Box
    pub io : Faces
    pub right : Right m b io
    pub gives : IsIn x (gift m b io)
    pub there : IsIn b (flat_map (left_at m) vs)

  found : (x : A) (vs : List Visit) → AllByRecursion (IsRightVisit dir axis is_cell splits) vs → IsIn x (flat_map left_with vs) → Found x vs
  found x [] r h = absurd h
  found x (enter m b io ∷ vs) r h = (let f = found x vs r.1 h in record { m = f.m; b = f.b; io = f.io; right = f.right; gives = f.gives; there = f.there })
  found x (leave m b io ∷ vs) r h =
      ⊎_elim
      (λ g. record { m = m; b = b; io = io; right = r.0; gives = g; there = rw (eq-eqb m m refl) (inl refl) })
      (λ g. (let f = found x vs r.1 g in record { m = f.m; b = f.b; io = f.io; right = f.right; gives = f.gives; there = in_right (λ z. 0) f.b (left_at f.m (leave m b io)) (flat_map (left_at f.m) vs) f.there }))
      (in_either x (gift m b io) (flat_map left_with vs) h)

  abbrev Ascends : List Visit → Type 0
  Ascends vs = (j : ℕ) → is_cell j ≡ true → j ≤ splits → IsAscending (rank dir axis (splits - j) j) (flat_map (left_at j) vs)

  module _ (tells : TellsCell) where
    not_again : (x : A) (m : ℕ) (b : Box) (io : Faces) (vs : List Visit) → Right m b io → AllByRecursion (IsRightVisit dir axis is_cell splits) vs → Ascends (leave m b io ∷ vs) → IsIn x (gift m b io) → IsIn x (flat_map left_with vs) → ⊥
    not_again x m b io vs r rs up h g =
        let f = found x vs rs g in
        let same_cell = tells x m b io f.m f.b f.io r f.right h f.gives in
        let there = rw (← same_cell.0, ← same_cell.1) at f.there in
        let order = rw (eq-eqb m m refl) at (up m r.cell r.level) in
        let before = each_in (rank dir axis (splits - m) m) (λ y. rank dir axis (splits - m) m b < rank dir axis (splits - m) m y) b (flat_map (left_at m) vs) order.0 there in
        omega arith

    module _ (same : A → A → Bool) (decides : TellsApart A same) (distinct : (m : ℕ) (b : Box) (io : Faces) → Right m b io → AreDistinct same (gift m b io)) where
      all_distinct : (vs : List Visit) → AllByRecursion (IsRightVisit dir axis is_cell splits) vs → Ascends vs → AreDistinct same (flat_map left_with vs)
      all_distinct [] r up = tt
      all_distinct (enter m b io ∷ vs) r up = all_distinct vs r.1 (λ j c l. up j c l)
      all_distinct (leave m b io ∷ vs) r up =
          distinct_append A same decides.reflexive decides.exact (gift m b io) (flat_map left_with vs)
          (distinct m b io r.0)
          (all_distinct vs r.1 (λ j c l. ascending_right (rank dir axis (splits - j) j) (left_at j (leave m b io)) (flat_map (left_at j) vs) (up j c l)))
          (λ x h g. not_again x m b io vs r.0 r.1 up h g)

      pub leaves_distinct : AreDistinct same (flat_map left_with (visits dir axis is_cell splits root walls))
      leaves_distinct = all_distinct (visits dir axis is_cell splits root walls) (ways_follow_the_order dir axis is_cell splits) (λ j c l. (each_cell_once dir axis is_cell splits j c l).1)
