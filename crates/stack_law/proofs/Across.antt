-- Across a face and back, and the face of a box on a lane.
use Rattle.std.proofs.Common.{◌≡◌, ℕ, zero, suc, ◌+◌, ◌*◌, ◌-◌, ◌%◌, ◌<◌, ap, arith, ⊎_elim}
use Rattle.std.proofs.lemmas.Bool.{cases_eq}
use Rattle.stack_law.specs.Boxes.{Axis, Side, Box, first, second, third, low, high, opposite, number, coord, moved, beyond, lane}
use Rattle.stack_law.specs.Order.{IsInner}

pub there_and_back : (i : Axis) (h : Side) (b : Box) (e : ℕ) → IsInner h (coord i b) e → beyond i (opposite h) (beyond i h b) ≡ b
there_and_back first low b e l = ap (λ w. moved first w b) (let q : b.x0 - 1 + 1 ≡ b.x0 = omega arith in q)
there_and_back first high b e l = ap (λ w. moved first w b) (let q : b.x0 + 1 - 1 ≡ b.x0 = omega arith in q)
there_and_back second low b e l = ap (λ w. moved second w b) (let q : b.x1 - 1 + 1 ≡ b.x1 = omega arith in q)
there_and_back second high b e l = ap (λ w. moved second w b) (let q : b.x1 + 1 - 1 ≡ b.x1 = omega arith in q)
there_and_back third low b e l = ap (λ w. moved third w b) (let q : b.x2 - 1 + 1 ≡ b.x2 = omega arith in q)
there_and_back third high b e l = ap (λ w. moved third w b) (let q : b.x2 + 1 - 1 ≡ b.x2 = omega arith in q)

-- the face of a box on a lane
at_axis : (i : Axis) (b : Box) (q : ℕ) → q < 2 → (h : Side) × (lane i h b ≡ 2 * number i + q)
at_axis i b q l = ⊎_elim (λ e. (low, omega arith)) (λ n. (high, omega arith)) (cases_eq (coord i b % 2) q)

pub face_of : (b : Box) (k : ℕ) → k < 6 → (i : Axis) × (h : Side) × (lane i h b ≡ k)
face_of b zero l = let f = at_axis first b 0 (omega arith) in (first, f.0, f.1)
face_of b (suc zero) l = let f = at_axis first b 1 (omega arith) in (first, f.0, f.1)
face_of b (suc (suc zero)) l = let f = at_axis second b 0 (omega arith) in (second, f.0, f.1)
face_of b (suc (suc (suc zero))) l = let f = at_axis second b 1 (omega arith) in (second, f.0, f.1)
face_of b (suc (suc (suc (suc zero)))) l = let f = at_axis third b 0 (omega arith) in (third, f.0, f.1)
face_of b (suc (suc (suc (suc (suc zero))))) l = let f = at_axis third b 1 (omega arith) in (third, f.0, f.1)
face_of b (suc (suc (suc (suc (suc (suc k)))))) l = absurd (omega arith)
