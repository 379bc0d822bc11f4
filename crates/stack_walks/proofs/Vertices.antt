-- Kept vertices pass along the lanes.
use Rattle.std.proofs.Common.{◌≡◌, ℕ, ◌-◌, ◌<◌, Bool, true, false, refl, sym, ap, ◌∙◌, subst, arith}
use Rattle.stack_law.specs.Boxes.{Direction, Axis, Side, Box, first, second, third, low, high, opposite, coord, beyond}
use Rattle.stack_law.specs.Order.{IsInner, IsInDomain, rank, extent}
use Rattle.stack_walks.specs.Corners.{Corner, mate, Passes, PassesToNext, AllPass, AllPassToNext}
use Rattle.stack_walks.specs.CornerLaws.{VerticesPassAlongLanes}
use Rattle.stack_walks.proofs.Corners.{corners_pass_along_lanes, neighbour_inside, vertex_across, side_on_mate}
use Rattle.stack_law.proofs.Across.{there_and_back}

same_answer : (s t : Bool) → (s ≡ true → t ≡ true) → (t ≡ true → s ≡ true) → s ≡ t
same_answer true t f g = sym (f refl)
same_answer false true f g = g refl
same_answer false false f g = refl

inner_back : (i : Axis) (h : Side) (b : Box) (e : ℕ) → coord i b < e → IsInner h (coord i b) e → IsInner (opposite h) (coord i (beyond i h b)) e
inner_back first low b e f l = omega arith
inner_back first high b e f l = omega arith
inner_back second low b e f l = omega arith
inner_back second high b e f l = omega arith
inner_back third low b e f l = omega arith
inner_back third high b e f l = omega arith

module _ (place : Box → ℕ) (bound : Axis → ℕ) (visited kept : Box → Bool) (goes comes : Box → Corner → Axis → Side → Bool) where
  passes : (b : Box) → IsInDomain bound b → ((n : Box) → IsInDomain bound n → PassesToNext place bound visited kept goes comes n) → Passes place bound goes comes b
  passes b inside all =
      record {
        goes_own = λ c i h e. (((all b inside).to_next c i h).0 e).1;
        comes_own = λ c i h e. (((all b inside).from_before c i h).0 e).1;
        goes_later = λ c i h e. (let f = ((all b inside).to_next c i h).0 e in (f.2, f.3.later));
        comes_earlier = λ c i h e. (let f = ((all b inside).from_before c i h).0 e in (f.2, f.3.later));
        comes_from = λ c i h s l before.
            (let n = beyond i h b in
            let there = neighbour_inside bound b i h inside l in
            let at_vertex = vertex_across b c i h (bound i) s l in
            let back = there_and_back i h b (bound i) l in
            same_answer (comes b c i h) (goes n (mate i c) i (opposite h))
            (λ t. (let f = ((all b inside).from_before c i h).0 t in ((all n there).to_next (mate i c) i (opposite h)).1 (subst (λ w. kept w ≡ true) at_vertex f.0, side_on_mate i c ∙ ap opposite s, inner_back i h b (bound i) (inside i) l, rw (← at_vertex, back) f.3)))
            (λ t. (let f = ((all n there).to_next (mate i c) i (opposite h)).0 t in ((all b inside).from_before c i h).1 (subst (λ w. kept w ≡ true) (sym at_vertex) f.0, s, l, rw (← at_vertex, back) at f.3))));
      }

pub all_pass : (dir : Direction) (axis : ℕ → Axis) (is_cell : ℕ → Bool) (splits : ℕ) (visited kept : ℕ → Box → Bool) (goes comes : ℕ → Box → Corner → Axis → Side → Bool) → AllPassToNext dir axis is_cell splits visited kept goes comes → AllPass dir axis is_cell splits goes comes
all_pass dir axis is_cell splits visited kept goes comes pass m b cell level inside = passes (rank dir axis (splits - m) m) (extent axis (splits - m) m) (visited m) (kept m) (goes m) (comes m) b inside (λ n there. pass m n cell level there)

pub vertices_pass_along_lanes : (A : Type 0) → VerticesPassAlongLanes A
vertices_pass_along_lanes A same same_self dir axis is_cell splits name visited kept goes comes pass = corners_pass_along_lanes A same same_self dir axis is_cell splits name goes comes (all_pass dir axis is_cell splits visited kept goes comes pass)
