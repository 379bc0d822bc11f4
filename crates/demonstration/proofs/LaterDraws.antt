-- Draws from a later number of the generator on.
use Rattle.std.proofs.Common.{◌≡◌, ℕ, zero, suc, ◌+◌, ◌*◌, ◌<◌, ap, ◌∙◌, arith}
use Rattle.std.proofs.lemmas.Nat.{mod_below}
use Rattle.demonstration.specs.Draws.{next_number, number_after, drawn, draw}
use Rattle.demonstration.specs.Demo.{fill_by, zone_by, drawn_fill, drawn_zone, fill_at, zone_at}

pub after_after : (s a b : ℕ) → number_after (number_after s a) b ≡ number_after s (a + b)
unfolding number_after
after_after s a zero = ap (number_after s) (omega arith)
after_after s a (suc b) =
    let e : suc (a + b) ≡ a + suc b = omega arith in
    ap next_number (after_after s a b) ∙ ap (number_after s) e

-- a draw from a later number on is a later draw
draw_after : (n a k bound : ℕ) → draw (number_after n a) k bound ≡ draw n (a + k) bound
draw_after n a k bound =
    let e : a + (k + 1) ≡ a + k + 1 = omega arith in
    ap (drawn bound) (after_after n a (k + 1) ∙ ap (number_after n) e)

-- the first of them
first_after : (n a bound : ℕ) → draw (number_after n a) 0 bound ≡ draw n a bound
first_after n a bound =
    let e : a + 0 ≡ a = omega arith in
    draw_after n a 0 bound ∙ ap (λ k. draw n k bound) e

pub draw_below : (n k bound : ℕ) → 0 < bound → draw n k bound < bound
draw_below n k bound h = mod_below _ bound h

-- the fill that the next draws make
pub next_fill : (n i s : ℕ) → s ≡ number_after n (3 * i) → drawn_fill s ≡ fill_at n i
next_fill n i s e =
    ap drawn_fill e
    ∙ (λ j. fill_by (first_after n (3 * i) 25 j) (draw_after n (3 * i) 1 25 j) (draw_after n (3 * i) 2 2001 j))

pub past_fill : (n i s : ℕ) → s ≡ number_after n (3 * i) → number_after s 3 ≡ number_after n (3 * (i + 1))
past_fill n i s e =
    let k : 3 * i + 3 ≡ 3 * (i + 1) = omega arith in
    ap (λ (k : ℕ). number_after k 3) e ∙ after_after n (3 * i) 3 ∙ ap (number_after n) k

-- and the box
pub next_zone : (n j s : ℕ) → s ≡ number_after n (36 + 2 * j) → drawn_zone s ≡ zone_at n j
next_zone n j s e =
    ap drawn_zone e
    ∙ (λ i. zone_by (first_after n (36 + 2 * j) 27 i) (draw_after n (36 + 2 * j) 1 27 i))

pub past_zone : (n j s : ℕ) → s ≡ number_after n (36 + 2 * j) → number_after s 2 ≡ number_after n (36 + 2 * (j + 1))
past_zone n j s e =
    let k : 36 + 2 * j + 2 ≡ 36 + 2 * (j + 1) = omega arith in
    ap (λ (k : ℕ). number_after k 2) e ∙ after_after n (36 + 2 * j) 2 ∙ ap (number_after n) k
