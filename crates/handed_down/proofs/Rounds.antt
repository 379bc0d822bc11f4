-- The next cell round a corner, in keys.
use Rattle.std.proofs.Common.{◌≡◌, ◌≢◌, ◌⊎◌, inl, inr, ℕ, zero, suc, ◌+◌, ◌-◌, ◌/◌, ◌^◌, ◌==◌, ◌<◌, ◌≤◌, if◌then◌else◌, Bool, true, false, arith, ⊎_elim, refl, sym, ap, subst, ◌∙◌, Option, Some, None}
use Rattle.std.specs.Prelude.{MatchOption}
use Rattle.std.proofs.lemmas.Bool.{cases_eq, cases_lt}
use Rattle.peano_keys.specs.declared.cell.CellKey.{CellKey}
use Rattle.peano_keys.specs.declared.dim.Dim.{Dim}
use Rattle.peano_keys.specs.declared.dim.Dim.TheVariants.{Two, Three}
use Rattle.peano_keys.specs.Dim.{axes, corners, third_extent}
use Rattle.peano_keys.specs.Cell.{IsCell, at, triple}
use Rattle.peano_keys.specs.Vertex.{Touches, bit_of, corner_of}
use Rattle.peano_keys.proofs.Faces.{Next, with_x, next_neighbour}
use Rattle.peano_curve.specs.declared.order.Direction.{Direction}
use Rattle.peano_curve.specs.Order.{rank_from, rank_of}
use Rattle.peano_curve.specs.Passing.{UpTo, IsBeside, NextIs, TurnsOn, NoneLaterRound, NextRound, SpanRound}
use Rattle.peano_curve.proofs.Sides.{Both, span_round}
use Rattle.handed_down.specs.declared.faces.Faces.{Faces}
use Rattle.handed_down.specs.declared.faces.Crossing.{Crossing}
use Rattle.sweep_visits.specs.Runs.{turned_round}
use Rattle.handed_down.specs.Ages.{age_of, crossing_by, crossing_of, third_crossing, faces_of, face_at, age_out, age_in, IsYoungest}
use Rattle.handed_down.specs.Across.{NextAcross}
use Rattle.handed_down.proofs.Steps.{age_same, age_wall, age_one_way}
use Rattle.handed_down.proofs.Turns.{youngest_like, youngest_turn}

-- the coordinate on the other side of a corner's plane, or the same one where that is outside
pub record Beyond (dir : Direction) (l p q x b e a y : ℕ) : Type 0 where
  pub beside : IsBeside x y
  pub inside : y < e
  pub low : y ≤ x + b
  pub high : x + b ≤ y + 1
  pub both : Both (x + b) x y e
  pub age : age_of dir l p q x y ≡ a
  pub next : x ≢ y → Next (b == 1) e x y

module _ (dir : Direction) (l p q x e : ℕ) (inside : x < e) where
  beyond_low : Beyond dir l p q x 0 e (age_of dir l p q x (x - 1)) (x - 1)
  beyond_low = record { beside = record { low = omega arith; high = omega arith }; inside = omega arith; low = omega arith; high = omega arith; both = λ r hr rl rh. grind arith; age = refl; next = λ apart. ⊎_elim (λ (z : x ≡ 0). absurd (apart (omega arith))) (λ n. omega arith) (cases_eq x 0) }

  beyond_high : e ≡ 3 ^ l → (y : ℕ) × Beyond dir l p q x 1 e (age_of dir l p q x (x + 1)) y
  beyond_high end = ⊎_elim
      (λ room. (x + 1, record { beside = record { low = omega arith; high = omega arith }; inside = room; low = omega arith; high = omega arith; both = λ r hr rl rh. grind arith; age = refl; next = λ apart. (refl, room) }))
      (λ wall. (x, record { beside = record { low = omega arith; high = omega arith }; inside = inside; low = omega arith; high = omega arith; both = λ r hr rl rh. inl (omega arith); age = age_same dir l p q x x refl ∙ sym (age_wall dir l p q x (omega arith)); next = λ apart. absurd (apart refl) }))
      (cases_lt (x + 1) e)

  beyond : (b : ℕ) → b ≤ 1 → e ≡ 3 ^ l → (y : ℕ) × Beyond dir l p q x b e (if b == 1 then age_of dir l p q x (x + 1) else age_of dir l p q x (x - 1)) y
  beyond zero h end = (x - 1, beyond_low)
  beyond (suc zero) h end = beyond_high end
  beyond (suc (suc b)) h end = absurd (omega arith)

-- on axis 2 a plane has no age
abbrev third_age : Dim → ℕ → ℕ
third_age Two a = 0
third_age Three a = a

-- on axis 2 a plane has one place, and no age
third_beyond : (dir : Direction) (dim : Dim) (l p q x n : ℕ) → x < third_extent dim (3 ^ l) → n < corners dim → (y : ℕ) × Beyond dir l p q x (bit_of n 2) (third_extent dim (3 ^ l)) (if bit_of n 2 == 1 then third_age dim (age_of dir l p q x (x + 1)) else third_age dim (age_of dir l p q x (x - 1))) y
third_beyond dir Two l p q x n inside below =
    let b : bit_of n 2 ≡ 0 = omega arith in
    (x, record { beside = record { low = omega arith; high = omega arith }; inside = inside; low = omega arith; high = omega arith; both = λ r hr rl rh. inl (omega arith); age = rw b (age_same dir l p q x x refl); next = λ apart. absurd (apart refl) })
third_beyond dir Three l p q x n inside below = beyond dir l p q x (3 ^ l) inside (bit_of n 2) (omega arith) refl

module _ (dir : Direction) (dim : Dim) (c : CellKey) (n : ℕ) (cell : IsCell dim c) (e0 e1 e2 a0 a1 a2 y0 y1 y2 : ℕ) (h0 : e0 ≡ 3 ^ c.level) (h1 : e1 ≡ 3 ^ c.level) (h2 : e2 ≡ third_extent dim (3 ^ c.level)) (s0 : Beyond dir c.level (at c 1 / 3) (at c 2 / 3) (at c 0) (bit_of n 0) e0 a0 y0) (s1 : Beyond dir c.level (at c 0) (at c 2 / 3) (at c 1) (bit_of n 1) e1 a1 y1) (s2 : Beyond dir c.level (at c 0) (at c 1) (at c 2) (bit_of n 2) e2 a2 y2) where
  touches : Touches c (corner_of c n)
  touches = record { level = refl; first_low = omega arith; first_high = omega arith; second_low = omega arith; second_high = omega arith; third_low = omega arith; third_high = omega arith }

  span : SpanRound dim (corner_of c n) c (with_x c (triple y0 y1 y2))
  span = span_round dim (corner_of c n) c y0 y1 y2 (3 ^ c.level) (third_extent dim (3 ^ c.level)) refl refl refl (subst (λ e. Both (at c 0 + bit_of n 0) (at c 0) y0 e) h0 s0.both) (subst (λ e. Both (at c 1 + bit_of n 1) (at c 1) y1 e) h1 s1.both) (subst (λ e. Both (at c 2 + bit_of n 2) (at c 2) y2 e) h2 s2.both)

  rank_round : (q : CellKey) → Touches q (corner_of c n) → rank_of dim q ≡ rank_from dim c.level (at q 0) (at q 1) (at q 2)
  rank_round q t = ap (λ l. rank_from dim l (at q 0) (at q 1) (at q 2)) t.level

  none_round : TurnsOn dir (rank_from dim c.level) (at c 0) (at c 1) (at c 2) y0 y1 y2 None → NoneLaterRound dir dim (corner_of c n) c
  none_round h q cq tq = let s = span q cq tq in subst (λ z. UpTo dir z (rank_of dim c)) (sym (rank_round q tq)) (h.none (at q 0) (at q 1) (at q 2) s.0 s.1 s.2)

  next_round : (n0 n1 n2 : ℕ) → IsCell dim (with_x c (triple n0 n1 n2)) → Touches (with_x c (triple n0 n1 n2)) (corner_of c n) → NextIs dir (rank_from dim c.level) (at c 0) (at c 1) (at c 2) y0 y1 y2 n0 n1 n2 → NextRound dir dim (corner_of c n) c (with_x c (triple n0 n1 n2))
  next_round n0 n1 n2 there near h = record {
    cell = there;
    touches = near;
    later = h.later;
    nearest = λ q cq tq. let s = span q cq tq in subst (λ z. UpTo dir z (rank_of dim c) ⊎ UpTo dir (rank_from dim c.level n0 n1 n2) z) (sym (rank_round q tq)) (h.nearest (at q 0) (at q 1) (at q 2) s.0 s.1 s.2);
  }

  in0 : y0 < 3 ^ c.level
  in0 = omega (arith, s0.inside)

  in1 : y1 < 3 ^ c.level
  in1 = omega (arith, s1.inside)

  in2 : y2 < third_extent dim (3 ^ c.level)
  in2 = subst (λ e. y2 < e) h2 s2.inside

  used0 : (dim : Dim) → 0 < axes dim
  used0 Two = omega arith
  used0 Three = omega arith

  used1 : (dim : Dim) → 1 < axes dim
  used1 Two = omega arith
  used1 Three = omega arith

  used2 : (dim : Dim) → at c 2 < third_extent dim (3 ^ c.level) → y2 < third_extent dim (3 ^ c.level) → at c 2 ≢ y2 → 2 < axes dim
  used2 Two hx hy apart = absurd (apart (omega arith))
  used2 Three hx hy apart = omega arith

  wide : (dim : Dim) → at c 0 < 3 ^ c.level → third_extent dim (3 ^ c.level) ≤ 3 ^ c.level
  wide Two h = omega arith
  wide Three h = omega arith

  widened : (b : Bool) → Next b e2 (at c 2) y2 → Next b (3 ^ c.level) (at c 2) y2
  widened true h = (h.0, omega (arith, h.1, h2, wide dim cell.first))
  widened false h = h

  by_turn : (o : Option ℕ) → TurnsOn dir (rank_from dim c.level) (at c 0) (at c 1) (at c 2) y0 y1 y2 o → MatchOption o (NoneLaterRound dir dim (corner_of c n) c) (λ i. NextAcross dir dim c n i)
  by_turn None h = none_round h
  by_turn (Some zero) h = record {
    next = with_x c (triple y0 (at c 1) (at c 2));
    in_use = used0 dim;
    across = next_neighbour (bit_of n 0 == 1) 0 c y0 cell.shape (subst (λ e. Next (bit_of n 0 == 1) e (at c 0) y0) h0 (s0.next h.0));
    round = next_round y0 (at c 1) (at c 2) (record { shape = refl; level = cell.level; first = in0; second = cell.second; third = cell.third }) (record { level = refl; first_low = s0.low; first_high = s0.high; second_low = touches.second_low; second_high = touches.second_high; third_low = touches.third_low; third_high = touches.third_high }) h.1;
  }
  by_turn (Some (suc zero)) h = record {
    next = with_x c (triple (at c 0) y1 (at c 2));
    in_use = used1 dim;
    across = next_neighbour (bit_of n 1 == 1) 1 c y1 cell.shape (subst (λ e. Next (bit_of n 1 == 1) e (at c 1) y1) h1 (s1.next h.0));
    round = next_round (at c 0) y1 (at c 2) (record { shape = refl; level = cell.level; first = cell.first; second = in1; third = cell.third }) (record { level = refl; first_low = touches.first_low; first_high = touches.first_high; second_low = s1.low; second_high = s1.high; third_low = touches.third_low; third_high = touches.third_high }) h.1;
  }
  by_turn (Some (suc (suc zero))) h = record {
    next = with_x c (triple (at c 0) (at c 1) y2);
    in_use = used2 dim cell.third in2 h.0;
    across = next_neighbour (bit_of n 2 == 1) 2 c y2 cell.shape (widened (bit_of n 2 == 1) (s2.next h.0));
    round = next_round (at c 0) (at c 1) y2 (record { shape = refl; level = cell.level; first = cell.first; second = cell.second; third = in2 }) (record { level = refl; first_low = touches.first_low; first_high = touches.first_high; second_low = touches.second_low; second_high = touches.second_high; third_low = s2.low; third_high = s2.high }) h.1;
  }
  by_turn (Some (suc (suc (suc i)))) h = absurd h

  by_ages : (o : Option ℕ) → IsYoungest a0 a1 a2 o → MatchOption o (NoneLaterRound dir dim (corner_of c n) c) (λ i. NextAcross dir dim c n i)
  by_ages o h = by_turn o (youngest_turn dir dim c.level (at c 0) (at c 1) (at c 2) y0 y1 y2 s0.beside s1.beside s2.beside (cell.first, cell.second, cell.third) (in0, in1, in2) o
      (youngest_like a0 a1 a2 (age_of dir c.level (at c 1 / 3) (at c 2 / 3) (at c 0) y0) (age_of dir c.level (at c 0) (at c 2 / 3) (at c 1) y1) (age_of dir c.level (at c 0) (at c 1) (at c 2) y2) (sym s0.age) (sym s1.age) (sym s2.age) o h))

-- a face tells its age on the side to which the curve goes on
pub out_by : (later earlier : ℕ) → age_out (crossing_by later earlier) ≡ later
out_by zero zero = refl
out_by zero (suc e) = refl
out_by (suc a) e = refl

-- and on the other, as no neighbour comes both later and earlier
pub in_by : (later earlier : ℕ) → (later ≡ 0) ⊎ (earlier ≡ 0) → age_in (crossing_by later earlier) ≡ earlier
in_by zero zero h = refl
in_by zero (suc e) h = refl
in_by (suc a) e (inl h) = absurd (omega arith)
in_by (suc a) zero (inr h) = refl
in_by (suc a) (suc e) (inr h) = absurd (omega arith)

-- the age between x and the next place at a corner's plane
abbrev pub age_at : Direction → ℕ → ℕ → ℕ → ℕ → ℕ → ℕ
age_at dir b l p q x = if b == 1 then age_of dir l p q x (x + 1) else age_of dir l p q x (x - 1)

abbrev crossing_at : Direction → ℕ → ℕ → ℕ → ℕ → ℕ → Crossing
crossing_at dir b l p q x = if b == 1 then crossing_of dir l p q x (x + 1) else crossing_of dir l p q x (x - 1)

corner_out : (dir : Direction) (b l p q x : ℕ) → b ≤ 1 → age_out (crossing_at dir b l p q x) ≡ age_at dir b l p q x
corner_out dir zero l p q x h = out_by _ _
corner_out dir (suc zero) l p q x h = out_by _ _
corner_out dir (suc (suc b)) l p q x h = absurd (omega arith)

corner_in : (dir : Direction) (b l p q x : ℕ) → b ≤ 1 → age_in (crossing_at dir b l p q x) ≡ age_at (turned_round dir) b l p q x
corner_in dir zero l p q x h = in_by _ _ (age_one_way dir l p q x (x - 1))
corner_in dir (suc zero) l p q x h = in_by _ _ (age_one_way dir l p q x (x + 1))
corner_in dir (suc (suc b)) l p q x h = absurd (omega arith)

abbrev third_age_at : Direction → Dim → ℕ → ℕ → ℕ → ℕ → ℕ → ℕ
third_age_at dir dim b l p q x = if b == 1 then third_age dim (age_of dir l p q x (x + 1)) else third_age dim (age_of dir l p q x (x - 1))

abbrev third_at : Direction → Dim → ℕ → ℕ → ℕ → ℕ → ℕ → Crossing
third_at dir dim b l p q x = if b == 1 then third_crossing dim (crossing_of dir l p q x (x + 1)) else third_crossing dim (crossing_of dir l p q x (x - 1))

third_out : (dir : Direction) (dim : Dim) (l p q x n : ℕ) → n < corners dim → age_out (third_at dir dim (bit_of n 2) l p q x) ≡ third_age_at dir dim (bit_of n 2) l p q x
third_out dir Two l p q x n h = let b : bit_of n 2 ≡ 0 = omega arith in rw b refl
third_out dir Three l p q x n h = corner_out dir (bit_of n 2) l p q x (omega arith)

third_in : (dir : Direction) (dim : Dim) (l p q x n : ℕ) → n < corners dim → age_in (third_at dir dim (bit_of n 2) l p q x) ≡ third_age_at (turned_round dir) dim (bit_of n 2) l p q x
third_in dir Two l p q x n h = let b : bit_of n 2 ≡ 0 = omega arith in rw b refl
third_in dir Three l p q x n h = corner_in dir (bit_of n 2) l p q x (omega arith)

module _ (dir : Direction) (dim : Dim) (c : CellKey) (n : ℕ) (cell : IsCell dim c) (below : n < corners dim) where
  next_by : (a0 a1 a2 : ℕ) → a0 ≡ age_at dir (bit_of n 0) c.level (at c 1 / 3) (at c 2 / 3) (at c 0) → a1 ≡ age_at dir (bit_of n 1) c.level (at c 0) (at c 2 / 3) (at c 1) → a2 ≡ third_age_at dir dim (bit_of n 2) c.level (at c 0) (at c 1) (at c 2) → (o : Option ℕ) → IsYoungest a0 a1 a2 o → MatchOption o (NoneLaterRound dir dim (corner_of c n) c) (λ i. NextAcross dir dim c n i)
  next_by a0 a1 a2 k0 k1 k2 o h =
      let s0 = beyond dir c.level (at c 1 / 3) (at c 2 / 3) (at c 0) (3 ^ c.level) cell.first (bit_of n 0) (omega arith) refl in
      let s1 = beyond dir c.level (at c 0) (at c 2 / 3) (at c 1) (3 ^ c.level) cell.second (bit_of n 1) (omega arith) refl in
      let s2 = third_beyond dir dim c.level (at c 0) (at c 1) (at c 2) n cell.third below in
      by_ages dir dim c n cell (3 ^ c.level) (3 ^ c.level) (third_extent dim (3 ^ c.level)) _ _ _ s0.0 s1.0 s2.0 refl refl refl s0.1 s1.1 s2.1 o
      (youngest_like a0 a1 a2 _ _ _ k0 k1 k2 o h)

pub next_by_faces : (dir : Direction) (dim : Dim) (c : CellKey) (n : ℕ) → IsCell dim c → n < corners dim → (a : Faces) → a ≡ faces_of dir dim c → (a0 a1 a2 : ℕ) → a0 ≡ age_out (face_at a n 0) → a1 ≡ age_out (face_at a n 1) → a2 ≡ age_out (face_at a n 2) → (o : Option ℕ) → IsYoungest a0 a1 a2 o → MatchOption o (NoneLaterRound dir dim (corner_of c n) c) (λ i. NextAcross dir dim c n i)
next_by_faces dir dim c n cell below a is a0 a1 a2 e0 e1 e2 o h =
    next_by dir dim c n cell below (age_out (face_at (faces_of dir dim c) n 0)) (age_out (face_at (faces_of dir dim c) n 1)) (age_out (face_at (faces_of dir dim c) n 2))
    (corner_out dir (bit_of n 0) c.level (at c 1 / 3) (at c 2 / 3) (at c 0) (omega arith))
    (corner_out dir (bit_of n 1) c.level (at c 0) (at c 2 / 3) (at c 1) (omega arith))
    (third_out dir dim c.level (at c 0) (at c 1) (at c 2) n below)
    o (youngest_like a0 a1 a2 _ _ _ (e0 ∙ ap (λ (z : Faces). age_out (face_at z n 0)) is) (e1 ∙ ap (λ (z : Faces). age_out (face_at z n 1)) is) (e2 ∙ ap (λ (z : Faces). age_out (face_at z n 2)) is) o h)

pub previous_by_faces : (dir : Direction) (dim : Dim) (c : CellKey) (n : ℕ) → IsCell dim c → n < corners dim → (a : Faces) → a ≡ faces_of dir dim c → (a0 a1 a2 : ℕ) → a0 ≡ age_in (face_at a n 0) → a1 ≡ age_in (face_at a n 1) → a2 ≡ age_in (face_at a n 2) → (o : Option ℕ) → IsYoungest a0 a1 a2 o → MatchOption o (NoneLaterRound (turned_round dir) dim (corner_of c n) c) (λ i. NextAcross (turned_round dir) dim c n i)
previous_by_faces dir dim c n cell below a is a0 a1 a2 e0 e1 e2 o h =
    next_by (turned_round dir) dim c n cell below (age_in (face_at (faces_of dir dim c) n 0)) (age_in (face_at (faces_of dir dim c) n 1)) (age_in (face_at (faces_of dir dim c) n 2))
    (corner_in dir (bit_of n 0) c.level (at c 1 / 3) (at c 2 / 3) (at c 0) (omega arith))
    (corner_in dir (bit_of n 1) c.level (at c 0) (at c 2 / 3) (at c 1) (omega arith))
    (third_in dir dim c.level (at c 0) (at c 1) (at c 2) n below)
    o (youngest_like a0 a1 a2 _ _ _ (e0 ∙ ap (λ (z : Faces). age_in (face_at z n 0)) is) (e1 ∙ ap (λ (z : Faces). age_in (face_at z n 1)) is) (e2 ∙ ap (λ (z : Faces). age_in (face_at z n 2)) is) o h)
