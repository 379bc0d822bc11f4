-- The backward walk of some cells.
use Rattle.std.proofs.Common.{◌≡◌, ℕ, zero, suc, Bool, true, false, not, ◌&&◌, if◌then◌else◌, List, [], ◌∷◌, refl, sym, ap, ◌∙◌}
use Rattle.stack_law.specs.Boxes.{Direction, Axis, Column, Box, turned_round, lower, middle, upper, column, ascends, other_coords}
use Rattle.stack_law.specs.Visits.{Faces, Visit, enter, leave, handed_down, in_order, walls}
use Rattle.stack_law.specs.Children.{turned_faces, turned_visit}
use Rattle.stack_law.specs.Domain.{root}
use Rattle.stack_law.specs.Walk.{walk, at_visited}
use Rattle.stack_law.specs.WalkLaws.{BackwardWalkOfVisited, BackwardWalkIsReversed}
use Rattle.stack_law.proofs.Walk.{all, walk_all}
use Rattle.stack_law.proofs.Backward.{other_parity, handed_turned, backed, backed_append, backed_order, backed_wrapped}

module _ (dir : Direction) (axis : ℕ → Axis) (is_cell : ℕ → Bool) (visited is_open : ℕ → Box → Bool) where
  visited_backed : (m : ℕ) (b : Box) (v : Visit) → at_visited (turned_round dir) axis is_cell visited is_open m b (turned_visit v) ≡ backed (at_visited dir axis is_cell visited is_open m b v)
  visited_backed m b v = by_test (is_cell m && visited m b)
    where
      by_test : (t : Bool) → (if t then turned_visit v ∷ [] else []) ≡ backed (if t then v ∷ [] else [])
      by_test true = refl
      by_test false = refl

  closed_backed : (t : Bool) (xs ys : List Visit) → xs ≡ backed ys → (if t then [] else xs) ≡ backed (if t then [] else ys)
  closed_backed true xs ys e = refl
  closed_backed false xs ys e = e

  walk_backed : (m : ℕ) (b : Box) (io : Faces) → walk (turned_round dir) axis is_cell visited is_open m b (turned_faces io) ≡ backed (walk dir axis is_cell visited is_open m b io)
  walk_backed zero b io = rw (visited_backed zero b (leave zero b io), visited_backed zero b (enter zero b io)) (sym (backed_append (at_visited dir axis is_cell visited is_open zero b (enter zero b io)) (at_visited dir axis is_cell visited is_open zero b (leave zero b io))))
  walk_backed (suc m) b io =
      let a = axis (suc m) in
      let up = ascends dir a b in
      let part = λ (k : Column). (ap (walk (turned_round dir) axis is_cell visited is_open m (column a k b)) (handed_turned up a k io) ∙ walk_backed m (column a k b) (handed_down up a k io)) in
      let below = λ (k : Column). walk dir axis is_cell visited is_open m (column a k b) (handed_down up a k io) in
      let closed = is_cell (suc m) && not (is_open (suc m) b) in
      let enters = at_visited dir axis is_cell visited is_open (suc m) b (enter (suc m) b io) in
      let leaves = at_visited dir axis is_cell visited is_open (suc m) b (leave (suc m) b io) in
      rw
      (other_parity dir (other_coords a b), part lower, part middle, part upper, visited_backed (suc m) b (leave (suc m) b io), visited_backed (suc m) b (enter (suc m) b io), closed_backed closed (in_order (not up) (backed (below lower)) (backed (below middle)) (backed (below upper))) (in_order up (below lower) (below middle) (below upper)) (backed_order up (below lower) (below middle) (below upper)))
      (sym (backed_wrapped enters (if closed then [] else in_order up (below lower) (below middle) (below upper)) leaves))

pub backward_walk_of_visited : BackwardWalkOfVisited
backward_walk_of_visited dir axis is_cell visited is_open splits = walk_backed dir axis is_cell visited is_open splits root walls

pub backward_walk_is_reversed : BackwardWalkIsReversed
backward_walk_is_reversed dir axis is_cell splits =
    sym (walk_all (turned_round dir) axis is_cell splits root walls)
    ∙ walk_backed dir axis is_cell (all dir axis is_cell) (all dir axis is_cell) splits root walls
    ∙ ap backed (walk_all dir axis is_cell splits root walls)
