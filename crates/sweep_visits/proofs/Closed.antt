-- Below a cell that is not visited, or has no visits below, no cell is visited.
use Rattle.std.proofs.Common.{◌≡◌, ℕ, zero, suc, ◌+◌, ◌-◌, ◌*◌, ◌/◌, ◌%◌, ◌<◌, ◌≤◌, ◌==◌, leb, Bool, true, false, ◌&&◌, arith, refl, subst, eqb-true}
use Rattle.peano_keys.specs.declared.cell.CellKey.{CellKey}
use Rattle.peano_keys.specs.declared.dim.Dim.{Dim}
use Rattle.peano_keys.specs.declared.dim.Dim.TheVariants.{Two, Three}
use Rattle.peano_keys.specs.Dim.{axes}
use Rattle.peano_keys.specs.Cell.{triple, parent_of}
use Rattle.stack_law.specs.Boxes.{Box, Column, first, second, third, column, digit}
use Rattle.stack_law.specs.Domain.{axis_in, cell_in}
use Rattle.stack_law.specs.Walk.{IsEmpty, ClosedAreEmpty}
use Rattle.stack_law.proofs.Ways.{digit_below}
use Rattle.stack_law.proofs.Digits.{two_first, two_second, three_first, three_second, three_third}
use Rattle.stack_law.proofs.Children.{no_cell}
use Rattle.stack_law.proofs.Held.{false_if}
use Rattle.stack_walks.proofs.GivenCorners.{and_true}
use Rattle.sweep_visits.proofs.Places.{splits, cell_of}
use Rattle.sweep_visits.proofs.Keyed.{visited_at, open_at}

-- the parent of a visited cell is visited and has visits below
abbrev pub ParentsAreOpen : (CellKey → Bool) → (CellKey → Bool) → Type 0
ParentsAreOpen visited opened = (c : CellKey) → 0 < c.level → visited c ≡ true → (visited (parent_of c) && opened (parent_of c)) ≡ true

not_and : (a b : Bool) → a ≡ false → (a && b) ≡ false
not_and a b e = rw e refl

yes_no : (a : Bool) → a ≡ true → a ≡ false → ⊥
yes_no a e f = absurd (cc)

module _ (depth : ℕ) (visited opened : CellKey → Bool) (open_above : ParentsAreOpen visited opened) where
  abbrev IsEmptyInPlane : ℕ → Box → Type 0
  IsEmptyInPlane = IsEmpty (axis_in 2) (cell_in 2) (visited_at Two depth visited opened)

  none_two : (m : ℕ) (b : Box) → (b.x2 ≡ 0 → visited (cell_of Two depth m b) ≡ false) → visited_at Two depth visited opened m b ≡ false
  none_two m b none = false_if _ (λ t.
      let f = and_true (leb m (splits Two depth)) _ (and_true (cell_in 2 m) _ t).1 in
      let g = and_true (b.x2 == 0) _ f.1 in
      yes_no _ g.1 (none (eqb-true b.x2 0 g.0)))

  two_parent : (m : ℕ) (b : Box) (k j : Column) → m % 2 ≡ 0 → b.x2 ≡ 0 → parent_of (cell_of Two depth m (column second j (column first k b))) ≡ cell_of Two depth (suc (suc m)) b
  two_parent m b k j e flat =
      let h = digit_below k in
      let g = digit_below j in
      let r : depth - m / 2 - 1 ≡ depth - suc (suc m) / 2 = omega arith in
      let p : (3 * b.x0 + digit k) / 3 ≡ b.x0 = omega arith in
      let q : (3 * b.x1 + digit j) / 3 ≡ b.x1 = omega arith in
      let z : b.x2 / 3 ≡ b.x2 = omega arith in
      λ i. record { level = r i; x = triple (p i) (q i) (z i) }

  two_child : (m : ℕ) (b : Box) (k j : Column) → m % 2 ≡ 0 → m / 2 < depth → (b.x2 ≡ 0 → open_at Two depth visited opened (suc (suc m)) b ≡ false) → b.x2 ≡ 0 → visited (cell_of Two depth m (column second j (column first k b))) ≡ false
  two_child m b k j e deep closed flat = false_if _ (λ t. yes_no _ (subst (λ c. (visited c && opened c) ≡ true) (two_parent m b k j e flat) (open_above (cell_of Two depth m (column second j (column first k b))) (omega arith) t)) (closed flat))

  two_bar : (m : ℕ) (b : Box) (k : Column) → m % 2 ≡ 0 → ((j : Column) → IsEmptyInPlane m (column second j (column first k b))) → IsEmptyInPlane (suc m) (column first k b)
  two_bar m b k e h = rw (two_second (suc m) (omega arith), no_cell 2 (suc m) (λ f. omega arith)) ((λ c. absurd (cc)), h)

  two_empty : (n m : ℕ) → m ≡ 2 * n → n ≤ depth → (b : Box) → (b.x2 ≡ 0 → visited (cell_of Two depth m b) ≡ false) → IsEmptyInPlane m b
  two_empty zero zero e l b none = λ c. none_two 0 b none
  two_empty zero (suc m) e l b none = absurd (omega arith)
  two_empty (suc n) zero e l b none = absurd (omega arith)
  two_empty (suc n) (suc zero) e l b none = absurd (omega arith)
  two_empty (suc n) (suc (suc m)) e l b none =
      rw (two_first (suc (suc m)) (omega arith))
      ((λ c. none_two (suc (suc m)) b none), (λ k. two_bar m b k (omega arith) (λ j. two_empty n m (omega arith) (omega arith) (column second j (column first k b)) (two_child m b k j (omega arith) (omega arith) (λ flat. not_and _ _ (none flat))))))

  two_closed : ClosedAreEmpty (axis_in 2) (cell_in 2) (2 * depth) (visited_at Two depth visited opened) (open_at Two depth visited opened)
  two_closed zero b k l c e = absurd (let h = eqb-true (1 % 2) 0 c in omega arith)
  two_closed (suc m) b k l c e =
      let h = eqb-true (suc (suc m) % 2) 0 c in
      rw (two_first (suc (suc m)) (omega arith))
      (two_bar m b k (omega arith) (λ j. two_empty (m / 2) m (omega arith) (omega arith) (column second j (column first k b)) (two_child m b k j (omega arith) (omega arith) (λ flat. e))))

  abbrev IsEmptyInSpace : ℕ → Box → Type 0
  IsEmptyInSpace = IsEmpty (axis_in 3) (cell_in 3) (visited_at Three depth visited opened)

  none_three : (m : ℕ) (b : Box) → visited (cell_of Three depth m b) ≡ false → visited_at Three depth visited opened m b ≡ false
  none_three m b none = false_if _ (λ t. (let f = and_true (leb m (splits Three depth)) _ (and_true (cell_in 3 m) _ t).1 in yes_no _ f.1 none))

  abbrev child_at : Box → Column → Column → Column → Box
  child_at b k j i = column third i (column second j (column first k b))

  three_parent : (m : ℕ) (b : Box) (k j i : Column) → m % 3 ≡ 0 → parent_of (cell_of Three depth m (child_at b k j i)) ≡ cell_of Three depth (suc (suc (suc m))) b
  three_parent m b k j n e =
      let h = digit_below k in
      let g = digit_below j in
      let f = digit_below n in
      let r : depth - m / 3 - 1 ≡ depth - suc (suc (suc m)) / 3 = omega arith in
      let p : (3 * b.x0 + digit k) / 3 ≡ b.x0 = omega arith in
      let q : (3 * b.x1 + digit j) / 3 ≡ b.x1 = omega arith in
      let z : (3 * b.x2 + digit n) / 3 ≡ b.x2 = omega arith in
      λ i. record { level = r i; x = triple (p i) (q i) (z i) }

  three_child : (m : ℕ) (b : Box) (k j i : Column) → m % 3 ≡ 0 → m / 3 < depth → open_at Three depth visited opened (suc (suc (suc m))) b ≡ false → visited (cell_of Three depth m (child_at b k j i)) ≡ false
  three_child m b k j i e deep closed = false_if _ (λ t. yes_no _ (subst (λ c. (visited c && opened c) ≡ true) (three_parent m b k j i e) (open_above (cell_of Three depth m (child_at b k j i)) (omega arith) t)) closed)

  three_bar : (m : ℕ) (b : Box) (k : Column) → m % 3 ≡ 0 → ((j i : Column) → IsEmptyInSpace m (child_at b k j i)) → IsEmptyInSpace (suc (suc m)) (column first k b)
  three_bar m b k e h =
      rw (three_second (suc (suc m)) (omega arith), no_cell 3 (suc (suc m)) (λ f. omega arith))
      ((λ c. absurd (cc)), (λ j. rw (three_third (suc m) (omega arith), no_cell 3 (suc m) (λ f. omega arith)) ((λ c. absurd (cc)), h j)))

  three_empty : (n m : ℕ) → m ≡ 3 * n → n ≤ depth → (b : Box) → visited (cell_of Three depth m b) ≡ false → IsEmptyInSpace m b
  three_empty zero zero e l b none = λ c. none_three 0 b none
  three_empty zero (suc m) e l b none = absurd (omega arith)
  three_empty (suc n) zero e l b none = absurd (omega arith)
  three_empty (suc n) (suc zero) e l b none = absurd (omega arith)
  three_empty (suc n) (suc (suc zero)) e l b none = absurd (omega arith)
  three_empty (suc n) (suc (suc (suc m))) e l b none =
      rw (three_first (suc (suc (suc m))) (omega arith))
      ((λ c. none_three (suc (suc (suc m))) b none), (λ k. three_bar m b k (omega arith) (λ j i. three_empty n m (omega arith) (omega arith) (child_at b k j i) (three_child m b k j i (omega arith) (omega arith) (not_and _ _ none)))))

  three_closed : ClosedAreEmpty (axis_in 3) (cell_in 3) (3 * depth) (visited_at Three depth visited opened) (open_at Three depth visited opened)
  three_closed zero b k l c e = absurd (let h = eqb-true (1 % 3) 0 c in omega arith)
  three_closed (suc zero) b k l c e = absurd (let h = eqb-true (2 % 3) 0 c in omega arith)
  three_closed (suc (suc m)) b k l c e =
      let h = eqb-true (suc (suc (suc m)) % 3) 0 c in
      rw (three_first (suc (suc (suc m))) (omega arith))
      (three_bar m b k (omega arith) (λ j i. three_empty (m / 3) m (omega arith) (omega arith) (child_at b k j i) (three_child m b k j i (omega arith) (omega arith) e)))

pub closed_are_empty : (dim : Dim) (depth : ℕ) (visited opened : CellKey → Bool) → ParentsAreOpen visited opened → ClosedAreEmpty (axis_in (axes dim)) (cell_in (axes dim)) (splits dim depth) (visited_at dim depth visited opened) (open_at dim depth visited opened)
closed_are_empty Two depth visited opened h = two_closed depth visited opened h
closed_are_empty Three depth visited opened h = three_closed depth visited opened h
