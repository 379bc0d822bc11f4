-- The walk of the visited cells over boxes, seen by keys.
use Rattle.std.proofs.Common.{◌≡◌, ℕ, zero, suc, ◌+◌, ◌-◌, ◌*◌, ◌/◌, ◌%◌, ◌≤◌, ◌==◌, leb, le-leb, Bool, true, ◌&&◌, if◌then◌else◌, List, [], ◌∷◌, ◌++◌, map, arith, refl, sym, ap, ◌∙◌, eq-eqb}
use Rattle.peano_keys.specs.declared.cell.CellKey.{CellKey}
use Rattle.peano_keys.specs.declared.dim.Dim.{Dim}
use Rattle.peano_keys.specs.declared.dim.Dim.TheVariants.{Two, Three}
use Rattle.peano_keys.specs.Dim.{axes}
use Rattle.peano_keys.specs.Cell.{triple, root}
use Rattle.peano_curve.specs.declared.order.Direction.{Direction}
use Rattle.stack_law.specs.Digits.{turned}
use Rattle.peano_curve.specs.Order.{nth_from}
use Rattle.peano_curve.proofs.Splits.{turned_same}
use Rattle.stack_law.specs.Boxes.{Box, first, second, third, lower, middle, upper, column, moved}
use Rattle.stack_law.specs.Visits as box
use Rattle.stack_law.specs.Visits.{Faces, in_order, walls}
use Rattle.stack_law.specs.Domain.{axis_in, cell_in}
use Rattle.stack_law.specs.Domain as domain
use Rattle.stack_law.specs.Walk.{walk}
use Rattle.stack_law.proofs.Children.{no_cell}
use Rattle.stack_law.proofs.Digits.{two_first, two_second, three_first, three_second, three_third}
use Rattle.sweep_visits.specs.Visits.{Visit, enter, leave, visits_at}
use Rattle.sweep_visits.proofs.Places.{direction_of, splits, cell_of}
use Rattle.sweep_visits.proofs.Walks.{in_three, three_each, turned_order, two_children, three_children, seen, parts, bar, cell_step, cell_end}

-- a box that has no third coordinate in the plane
abbrev pub is_flat : Dim → Box → Bool
is_flat Two b = b.x2 == 0
is_flat Three b = true

module _ (dim : Dim) (depth : ℕ) (visited opened : CellKey → Bool) where
  -- the visited cells, as boxes
  abbrev pub visited_at : ℕ → Box → Bool
  visited_at m b = cell_in (axes dim) m && (leb m (splits dim depth) && (is_flat dim b && visited (cell_of dim depth m b)))

  -- those with visits below
  abbrev pub open_at : ℕ → Box → Bool
  open_at m b = visited (cell_of dim depth m b) && opened (cell_of dim depth m b)

  -- a visit of a box by its key
  abbrev pub key : box.Visit → Visit
  key (box.enter m b io) = enter (cell_of dim depth m b)
  key (box.leave m b io) = leave (cell_of dim depth m b)

  pub visited_here : (m : ℕ) (b : Box) → cell_in (axes dim) m ≡ true → m ≤ splits dim depth → is_flat dim b ≡ true → visited_at m b ≡ visited (cell_of dim depth m b)
  visited_here m b c l flat = rw (c, le-leb m (axes dim * depth) l, flat) refl

order_each : {V : Type 0} (up : Bool) (xs xs' ys ys' zs zs' : List V) → xs ≡ xs' → ys ≡ ys' → zs ≡ zs' → in_order up xs ys zs ≡ in_order up xs' ys' zs'
order_each up xs xs' ys ys' zs zs' e f g = rw (e, f, g) refl

-- in the plane
module _ (dir : Direction) (depth : ℕ) (visited opened : CellKey → Bool) where
  abbrev seen_in_plane : ℕ → Box → Faces → List Visit
  seen_in_plane = seen (key Two depth visited opened) (direction_of dir) (axis_in 2) (cell_in 2) (visited_at Two depth visited opened) (open_at Two depth visited opened)

  abbrev visits_in_plane : ℕ → CellKey → List Visit
  visits_in_plane = visits_at Two dir visited opened

  module _ (k m : ℕ) (e : m ≡ 2 * k) (l : suc k ≤ depth) (ih : (b : Box) (io : Faces) → b.x2 ≡ 0 → seen_in_plane m b io ≡ visits_in_plane k (cell_of Two depth m b)) where
    two_bar : (b : Box) (io : Faces) → b.x2 ≡ 0 → seen_in_plane (suc m) b io ≡ in_three dir (λ t. visits_in_plane k (cell_of Two depth m (moved second (3 * b.x1 + turned (b.x0 + b.x2) t) b)))
    two_bar b io flat =
        bar (key Two depth visited opened) (direction_of dir) (axis_in 2) (cell_in 2) (visited_at Two depth visited opened) (open_at Two depth visited opened) m second b io (two_second (suc m) (omega arith)) (no_cell 2 (suc m) (λ f. omega arith))
        ∙ order_each _ _ _ _ _ _ _ (ih (column second lower b) _ flat) (ih (column second middle b) _ flat) (ih (column second upper b) _ flat)
        ∙ turned_order dir (b.x0 + b.x2) (λ t. visits_in_plane k (cell_of Two depth m (moved second (3 * b.x1 + t) b)))

    two_child : (b : Box) (a t : ℕ) → b.x2 ≡ 0 → cell_of Two depth m (moved second (3 * b.x1 + turned (3 * b.x0 + turned (b.x1 + b.x2) a + b.x2) t) (moved first (3 * b.x0 + turned (b.x1 + b.x2) a) b)) ≡ nth_from Two (cell_of Two depth (suc (suc m)) b) (turned b.x1 a) t 0
    two_child b a t flat =
        let p = turned_same (b.x1 + b.x2) b.x1 a (omega arith) in
        let q = turned_same (3 * b.x0 + turned (b.x1 + b.x2) a + b.x2) (b.x0 + turned b.x1 a) t (omega arith) in
        let r : depth - m / 2 ≡ depth - suc (suc m) / 2 + 1 = omega arith in
        let z : b.x2 ≡ 3 * b.x2 + 0 = omega arith in
        λ i. record { level = r i; x = triple (3 * b.x0 + p i) (3 * b.x1 + q i) (z i) }

    two_parts : (b : Box) (io : Faces) → b.x2 ≡ 0 → parts (key Two depth visited opened) (direction_of dir) (axis_in 2) (cell_in 2) (visited_at Two depth visited opened) (open_at Two depth visited opened) (suc m) first b io ≡ in_three dir (λ a. in_three dir (λ t. visits_in_plane k (nth_from Two (cell_of Two depth (suc (suc m)) b) (turned b.x1 a) t 0)))
    two_parts b io flat =
        order_each _ _ _ _ _ _ _ (two_bar (column first lower b) _ flat) (two_bar (column first middle b) _ flat) (two_bar (column first upper b) _ flat)
        ∙ turned_order dir (b.x1 + b.x2) (λ a. in_three dir (λ t. visits_in_plane k (cell_of Two depth m (moved second (3 * b.x1 + turned (3 * b.x0 + a + b.x2) t) (moved first (3 * b.x0 + a) b)))))
        ∙ three_each dir _ _ (λ a. three_each dir _ _ (λ t. ap (visits_in_plane k) (two_child b a t flat)))

    two_step : (b : Box) (io : Faces) → b.x2 ≡ 0 → seen_in_plane (suc (suc m)) b io ≡ visits_in_plane (suc k) (cell_of Two depth (suc (suc m)) b)
    two_step b io flat =
        let one = eq-eqb (suc (suc m) % 2) 0 (omega arith) in
        let c = cell_of Two depth (suc (suc m)) b in
        cell_step (key Two depth visited opened) (direction_of dir) (axis_in 2) (cell_in 2) (visited_at Two depth visited opened) (open_at Two depth visited opened) (suc m) first b io (visited c) (opened c) (two_first (suc (suc m)) (omega arith)) one (visited_here Two depth visited opened (suc (suc m)) b one (omega arith) (eq-eqb b.x2 0 flat)) refl
        ∙ ap (λ vs. if visited c then enter c ∷ ((if opened c then vs else []) ++ leave c ∷ []) else []) (two_parts b io flat ∙ sym (two_children dir (visits_in_plane k) c))

  two_walk : (k m : ℕ) → m ≡ 2 * k → k ≤ depth → (b : Box) (io : Faces) → b.x2 ≡ 0 → seen_in_plane m b io ≡ visits_in_plane k (cell_of Two depth m b)
  two_walk zero zero e l b io flat = cell_end (key Two depth visited opened) (direction_of dir) (axis_in 2) (cell_in 2) (visited_at Two depth visited opened) (open_at Two depth visited opened) b io (visited (cell_of Two depth 0 b)) refl (visited_here Two depth visited opened 0 b refl (omega arith) (eq-eqb b.x2 0 flat))
  two_walk zero (suc m) e l b io flat = absurd (omega arith)
  two_walk (suc k) zero e l b io flat = absurd (omega arith)
  two_walk (suc k) (suc zero) e l b io flat = absurd (omega arith)
  two_walk (suc k) (suc (suc m)) e l b io flat = two_step k m (omega arith) l (two_walk k m (omega arith) (omega arith)) b io flat

-- in space
module _ (dir : Direction) (depth : ℕ) (visited opened : CellKey → Bool) where
  abbrev seen_in_space : ℕ → Box → Faces → List Visit
  seen_in_space = seen (key Three depth visited opened) (direction_of dir) (axis_in 3) (cell_in 3) (visited_at Three depth visited opened) (open_at Three depth visited opened)

  abbrev visits_in_space : ℕ → CellKey → List Visit
  visits_in_space = visits_at Three dir visited opened

  module _ (k m : ℕ) (e : m ≡ 3 * k) (l : suc k ≤ depth) (ih : (b : Box) (io : Faces) → seen_in_space m b io ≡ visits_in_space k (cell_of Three depth m b)) where
    last_bar : (b : Box) (io : Faces) → seen_in_space (suc m) b io ≡ in_three dir (λ u. visits_in_space k (cell_of Three depth m (moved third (3 * b.x2 + turned (b.x0 + b.x1) u) b)))
    last_bar b io =
        bar (key Three depth visited opened) (direction_of dir) (axis_in 3) (cell_in 3) (visited_at Three depth visited opened) (open_at Three depth visited opened) m third b io (three_third (suc m) (omega arith)) (no_cell 3 (suc m) (λ f. omega arith))
        ∙ order_each _ _ _ _ _ _ _ (ih (column third lower b) _) (ih (column third middle b) _) (ih (column third upper b) _)
        ∙ turned_order dir (b.x0 + b.x1) (λ u. visits_in_space k (cell_of Three depth m (moved third (3 * b.x2 + u) b)))

    abbrev second_part : Box → ℕ → Box
    second_part b t = moved second (3 * b.x1 + t) b

    abbrev third_part : Box → ℕ → Box
    third_part b u = moved third (3 * b.x2 + turned (b.x0 + b.x1) u) b

    middle_bar : (b : Box) (io : Faces) → seen_in_space (suc (suc m)) b io ≡ in_three dir (λ t. in_three dir (λ u. visits_in_space k (cell_of Three depth m (third_part (second_part b (turned (b.x0 + b.x2) t)) u))))
    middle_bar b io =
        bar (key Three depth visited opened) (direction_of dir) (axis_in 3) (cell_in 3) (visited_at Three depth visited opened) (open_at Three depth visited opened) (suc m) second b io (three_second (suc (suc m)) (omega arith)) (no_cell 3 (suc (suc m)) (λ f. omega arith))
        ∙ order_each _ _ _ _ _ _ _ (last_bar (column second lower b) _) (last_bar (column second middle b) _) (last_bar (column second upper b) _)
        ∙ turned_order dir (b.x0 + b.x2) (λ t. in_three dir (λ u. visits_in_space k (cell_of Three depth m (third_part (second_part b t) u))))

    abbrev first_part : Box → ℕ → Box
    first_part b a = moved first (3 * b.x0 + a) b

    three_child : (b : Box) (a t u : ℕ) → cell_of Three depth m (third_part (second_part (first_part b (turned (b.x1 + b.x2) a)) (turned (3 * b.x0 + turned (b.x1 + b.x2) a + b.x2) t)) u) ≡ nth_from Three (cell_of Three depth (suc (suc (suc m))) b) (turned (b.x1 + b.x2) a) t u
    three_child b a t u =
        let k0 : ℕ = turned (b.x1 + b.x2) a in
        let q = turned_same (3 * b.x0 + k0 + b.x2) (b.x0 + b.x2 + k0) t (omega arith) in
        let k1 : ℕ = turned (b.x0 + b.x2 + k0) t in
        let s = turned_same (3 * b.x0 + k0 + (3 * b.x1 + turned (3 * b.x0 + k0 + b.x2) t)) (b.x0 + b.x1 + k0 + k1) u (omega arith) in
        let r : depth - m / 3 ≡ depth - suc (suc (suc m)) / 3 + 1 = omega arith in
        λ i. record { level = r i; x = triple (3 * b.x0 + k0) (3 * b.x1 + q i) (3 * b.x2 + s i) }

    three_parts : (b : Box) (io : Faces) → parts (key Three depth visited opened) (direction_of dir) (axis_in 3) (cell_in 3) (visited_at Three depth visited opened) (open_at Three depth visited opened) (suc (suc m)) first b io ≡ in_three dir (λ a. in_three dir (λ t. in_three dir (λ u. visits_in_space k (nth_from Three (cell_of Three depth (suc (suc (suc m))) b) (turned (b.x1 + b.x2) a) t u))))
    three_parts b io =
        order_each _ _ _ _ _ _ _ (middle_bar (column first lower b) _) (middle_bar (column first middle b) _) (middle_bar (column first upper b) _)
        ∙ turned_order dir (b.x1 + b.x2) (λ a. in_three dir (λ t. in_three dir (λ u. visits_in_space k (cell_of Three depth m (third_part (second_part (first_part b a) (turned (3 * b.x0 + a + b.x2) t)) u)))))
        ∙ three_each dir _ _ (λ a. three_each dir _ _ (λ t. three_each dir _ _ (λ u. ap (visits_in_space k) (three_child b a t u))))

    three_step : (b : Box) (io : Faces) → seen_in_space (suc (suc (suc m))) b io ≡ visits_in_space (suc k) (cell_of Three depth (suc (suc (suc m))) b)
    three_step b io =
        let one = eq-eqb (suc (suc (suc m)) % 3) 0 (omega arith) in
        let c = cell_of Three depth (suc (suc (suc m))) b in
        cell_step (key Three depth visited opened) (direction_of dir) (axis_in 3) (cell_in 3) (visited_at Three depth visited opened) (open_at Three depth visited opened) (suc (suc m)) first b io (visited c) (opened c) (three_first (suc (suc (suc m))) (omega arith)) one (visited_here Three depth visited opened (suc (suc (suc m))) b one (omega arith) refl) refl
        ∙ ap (λ vs. if visited c then enter c ∷ ((if opened c then vs else []) ++ leave c ∷ []) else []) (three_parts b io ∙ sym (three_children dir (visits_in_space k) c))

  three_walk : (k m : ℕ) → m ≡ 3 * k → k ≤ depth → (b : Box) (io : Faces) → seen_in_space m b io ≡ visits_in_space k (cell_of Three depth m b)
  three_walk zero zero e l b io = cell_end (key Three depth visited opened) (direction_of dir) (axis_in 3) (cell_in 3) (visited_at Three depth visited opened) (open_at Three depth visited opened) b io (visited (cell_of Three depth 0 b)) refl (visited_here Three depth visited opened 0 b refl (omega arith) refl)
  three_walk zero (suc m) e l b io = absurd (omega arith)
  three_walk (suc k) zero e l b io = absurd (omega arith)
  three_walk (suc k) (suc zero) e l b io = absurd (omega arith)
  three_walk (suc k) (suc (suc zero)) e l b io = absurd (omega arith)
  three_walk (suc k) (suc (suc (suc m))) e l b io = three_step k m (omega arith) l (three_walk k m (omega arith) (omega arith)) b io

-- the visits of the keys are those of the boxes
pub walk_by_keys : (dim : Dim) (dir : Direction) (depth : ℕ) (visited opened : CellKey → Bool) → map (key dim depth visited opened) (walk (direction_of dir) (axis_in (axes dim)) (cell_in (axes dim)) (visited_at dim depth visited opened) (open_at dim depth visited opened) (splits dim depth) domain.root walls) ≡ visits_at dim dir visited opened depth root
walk_by_keys Two dir depth visited opened = two_walk dir depth visited opened depth (2 * depth) refl (omega arith) domain.root walls refl ∙ ap (visits_at Two dir visited opened depth) (λ i. record { level = (let e : depth - 2 * depth / 2 ≡ 0 = omega arith in e) i; x = triple 0 0 0 })
walk_by_keys Three dir depth visited opened = three_walk dir depth visited opened depth (3 * depth) refl (omega arith) domain.root walls ∙ ap (visits_at Three dir visited opened depth) (λ i. record { level = (let e : depth - 3 * depth / 3 ≡ 0 = omega arith in e) i; x = triple 0 0 0 })
