-- The children of a cell in turn, in a walk of some cells.
use Rattle.std.proofs.Common.{◌≡◌, ℕ, suc, ◌%◌, Bool, true, false, not, if◌then◌else◌, List, [], ◌∷◌, ◌++◌, refl, ap, ◌∙◌, append-nil, arith, eq-eqb, subst}
use Rattle.stack_law.specs.Boxes.{Axis, Box, forward, first, second, third, column, ascends}
use Rattle.stack_law.specs.Visits.{Faces, Visit, enter, leave, handed_down, visits}
use Rattle.stack_law.specs.Children.{in_turn, part, part_faces, child_two, child_three}
use Rattle.stack_law.specs.Domain.{axis_in, cell_in}
use Rattle.stack_law.specs.Walk.{walk}
use Rattle.stack_law.specs.WalkLaws.{VisitedChildrenInTurn, ChildrenInTurn}
use mathlib.Core.Path.{fun_ext}
use Rattle.stack_law.proofs.Walk.{all, walk_all}
use Rattle.stack_law.proofs.Digits.{two_first, two_second, three_first, three_second, three_third}
use Rattle.stack_law.proofs.Children.{order_turn, turn_each, child_two_is, child_three_is, no_cell, faces_two, faces_three}

module _ (axis : ℕ → Axis) (is_cell : ℕ → Bool) (visited is_open : ℕ → Box → Bool) where
  bar : (m : ℕ) (a : Axis) (b : Box) (io : Faces) → axis (suc m) ≡ a → is_cell (suc m) ≡ false → walk forward axis is_cell visited is_open (suc m) b io ≡ in_turn (λ t. walk forward axis is_cell visited is_open m (part forward a t b) (part_faces forward a t b io))
  bar m a b io at_a none = rw (at_a, none, append-nil) (order_turn (ascends forward a b) (λ k. walk forward axis is_cell visited is_open m (column a k b) (handed_down (ascends forward a b) a k io)))

  opened : {V : Type 0} (o : Bool) (xs : List V) → (if not o then [] else xs) ≡ (if o then xs else [])
  opened true xs = refl
  opened false xs = refl

  cell : (m : ℕ) (a : Axis) (b : Box) (io : Faces) → axis (suc m) ≡ a → is_cell (suc m) ≡ true → walk forward axis is_cell visited is_open (suc m) b io ≡ (if visited (suc m) b then enter (suc m) b io ∷ [] else []) ++ ((if is_open (suc m) b then in_turn (λ t. walk forward axis is_cell visited is_open m (part forward a t b) (part_faces forward a t b io)) else []) ++ (if visited (suc m) b then leave (suc m) b io ∷ [] else []))
  cell m a b io at_a one =
      rw (at_a, one, opened (is_open (suc m) b))
      (ap (λ vs. (if visited (suc m) b then enter (suc m) b io ∷ [] else []) ++ ((if is_open (suc m) b then vs else []) ++ (if visited (suc m) b then leave (suc m) b io ∷ [] else []))) (order_turn (ascends forward a b) (λ k. walk forward axis is_cell visited is_open m (column a k b) (handed_down (ascends forward a b) a k io))))

  abbrev wrapped : ℕ → Box → Faces → List Visit → List Visit
  wrapped m b io vs = (if visited m b then enter m b io ∷ [] else []) ++ ((if is_open m b then vs else []) ++ (if visited m b then leave m b io ∷ [] else []))

two_in_turn : (visited is_open : ℕ → Box → Bool) (m : ℕ) (b : Box) (io : Faces) → m % 2 ≡ 0 → b.x2 ≡ 0 → walk forward (axis_in 2) (cell_in 2) visited is_open (suc (suc m)) b io ≡ wrapped (axis_in 2) (cell_in 2) visited is_open (suc (suc m)) b io (in_turn (λ s. in_turn (λ t. walk forward (axis_in 2) (cell_in 2) visited is_open m (child_two b s t) (faces_two b io s t))))
two_in_turn visited is_open m b io e flat =
    cell (axis_in 2) (cell_in 2) visited is_open (suc m) first b io (two_first (suc (suc m)) (omega arith)) (eq-eqb (suc (suc m) % 2) 0 (omega arith))
    ∙ ap (wrapped (axis_in 2) (cell_in 2) visited is_open (suc (suc m)) b io)
    (turn_each _ _
    (λ s. bar (axis_in 2) (cell_in 2) visited is_open m second (part forward first s b) (part_faces forward first s b io) (two_second (suc m) (omega arith)) (no_cell 2 (suc m) (λ f. omega arith))
    ∙ turn_each _ _ (λ t. ap (λ c. walk forward (axis_in 2) (cell_in 2) visited is_open m c (faces_two b io s t)) (child_two_is b s t flat))))

three_in_turn : (visited is_open : ℕ → Box → Bool) (m : ℕ) (b : Box) (io : Faces) → m % 3 ≡ 0 → walk forward (axis_in 3) (cell_in 3) visited is_open (suc (suc (suc m))) b io ≡ wrapped (axis_in 3) (cell_in 3) visited is_open (suc (suc (suc m))) b io (in_turn (λ s. in_turn (λ t. in_turn (λ u. walk forward (axis_in 3) (cell_in 3) visited is_open m (child_three b s t u) (faces_three b io s t u)))))
three_in_turn visited is_open m b io e =
    cell (axis_in 3) (cell_in 3) visited is_open (suc (suc m)) first b io (three_first (suc (suc (suc m))) (omega arith)) (eq-eqb (suc (suc (suc m)) % 3) 0 (omega arith))
    ∙ ap (wrapped (axis_in 3) (cell_in 3) visited is_open (suc (suc (suc m))) b io)
    (turn_each _ _
    (λ s. bar (axis_in 3) (cell_in 3) visited is_open (suc m) second (part forward first s b) (part_faces forward first s b io) (three_second (suc (suc m)) (omega arith)) (no_cell 3 (suc (suc m)) (λ f. omega arith))
    ∙ turn_each _ _
    (λ t. bar (axis_in 3) (cell_in 3) visited is_open m third (part forward second t (part forward first s b)) (part_faces forward second t (part forward first s b) (part_faces forward first s b io)) (three_third (suc m) (omega arith)) (no_cell 3 (suc m) (λ f. omega arith))
    ∙ turn_each _ _ (λ u. ap (λ c. walk forward (axis_in 3) (cell_in 3) visited is_open m c (faces_three b io s t u)) (child_three_is b s t u)))))

pub visited_children_in_turn : VisitedChildrenInTurn
visited_children_in_turn = ((λ visited is_open m b io e flat. (faces_two b io, two_in_turn visited is_open m b io e flat)), (λ visited is_open m b io e. (faces_three b io, three_in_turn visited is_open m b io e)))

-- all cells visited, and all open
all_walks : (axis : ℕ → Axis) (is_cell : ℕ → Bool) → walk forward axis is_cell (all forward axis is_cell) (all forward axis is_cell) ≡ visits forward axis is_cell
all_walks axis is_cell = fun_ext (λ m. fun_ext (λ b. fun_ext (λ io. walk_all forward axis is_cell m b io)))

pub children_in_turn : ChildrenInTurn
children_in_turn = (
  (λ m b io e flat. (faces_two b io, subst (λ w. w (suc (suc m)) b io ≡ enter (suc (suc m)) b io ∷ (in_turn (λ s. in_turn (λ t. w m (child_two b s t) (faces_two b io s t))) ++ (leave (suc (suc m)) b io ∷ []))) (all_walks (axis_in 2) (cell_in 2)) (two_in_turn (all forward (axis_in 2) (cell_in 2)) (all forward (axis_in 2) (cell_in 2)) m b io e flat))),
  (λ m b io e. (faces_three b io, subst (λ w. w (suc (suc (suc m))) b io ≡ enter (suc (suc (suc m))) b io ∷ (in_turn (λ s. in_turn (λ t. in_turn (λ u. w m (child_three b s t u) (faces_three b io s t u)))) ++ (leave (suc (suc (suc m))) b io ∷ []))) (all_walks (axis_in 3) (cell_in 3)) (three_in_turn (all forward (axis_in 3) (cell_in 3)) (all forward (axis_in 3) (cell_in 3)) m b io e))),
)
