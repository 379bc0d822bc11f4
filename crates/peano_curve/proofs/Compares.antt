-- Comparison along the curve in numbers.
use Rattle.std.proofs.Common.{◌≡◌, ℕ, ◌+◌, ◌-◌, ◌/◌, ◌^◌, ◌<◌, ◌≤◌, min, arith, refl, sym, ap, ◌∙◌, ⊎_elim}
use Rattle.std.specs.declared.cmp.Ordering.{Ordering}
use Rattle.std.specs.declared.cmp.Ordering.TheVariants.{Less, Equal, Greater}
use Rattle.std.specs.Ordering.{nat_cmp, ordering_then, ordering_reverse}
use Rattle.std.specs.Cmp.{nat_cmp_is}
use Rattle.std.proofs.lemmas.Bool.{cases_lt, cases_eq}
use Rattle.std.proofs.Math.Nat.{pow-zero}
use Rattle.peano_keys.specs.declared.cell.CellKey.{CellKey}
use Rattle.peano_keys.specs.declared.dim.Dim.{Dim}
use Rattle.peano_keys.specs.Dim.{children}
use Rattle.peano_curve.specs.Order.{rank_of, rank_at, curve_cmp}

pub cmp_less : (a b : ℕ) → a < b → nat_cmp a b ≡ Less
cmp_less a b h = sym (nat_cmp_is a b Less h)

pub cmp_equal : (a b : ℕ) → a ≡ b → nat_cmp a b ≡ Equal
cmp_equal a b h = sym (nat_cmp_is a b Equal h)

pub cmp_greater : (a b : ℕ) → b < a → nat_cmp a b ≡ Greater
cmp_greater a b h = sym (nat_cmp_is a b Greater h)

pub then_equal : (o p : Ordering) → p ≡ Equal → ordering_then o p ≡ o
then_equal Less p h = refl
then_equal Equal p h = h
then_equal Greater p h = refl

rank_at_own : (dim : Dim) (a : CellKey) (l : ℕ) → a.level ≤ l → rank_at dim a l ≡ rank_of dim a
rank_at_own dim a l h =
    let e : a.level - l ≡ 0 = omega arith in
    let one : children dim ^ (a.level - l) ≡ 1 = ap (λ k. children dim ^ k) e ∙ pow-zero (children dim) in
    ap (λ w. rank_of dim a / w) one ∙ omega arith

-- cells of one level compare as their ranks
pub level_cmp : (dim : Dim) (a b : CellKey) → a.level ≡ b.level → curve_cmp dim a b ≡ nat_cmp (rank_of dim a) (rank_of dim b)
level_cmp dim a b level =
    let ea = rank_at_own dim a (min a.level b.level) (omega arith) in
    let eb = rank_at_own dim b (min a.level b.level) (omega arith) in
    then_equal (nat_cmp (rank_at dim a (min a.level b.level)) (rank_at dim b (min a.level b.level))) (nat_cmp a.level b.level) (cmp_equal a.level b.level level)
    ∙ ap (λ r. nat_cmp r (rank_at dim b (min a.level b.level))) ea ∙ ap (nat_cmp (rank_of dim a)) eb

-- numbers that stand as far from the end as two others from the start compare the other way round
pub cmp_mirrored : (w s t a b c d : ℕ) → a + c + 1 ≡ w → b + d + 1 ≡ w → nat_cmp (t + c) (t + d) ≡ ordering_reverse (nat_cmp (s + a) (s + b))
cmp_mirrored w s t a b c d ha hb =
    ⊎_elim
    (λ less. cmp_greater (t + c) (t + d) (omega arith) ∙ sym (ap ordering_reverse (cmp_less (s + a) (s + b) (omega arith))))
    (λ le. ⊎_elim
    (λ same. cmp_equal (t + c) (t + d) (omega arith) ∙ sym (ap ordering_reverse (cmp_equal (s + a) (s + b) (omega arith))))
    (λ other. cmp_less (t + c) (t + d) (omega arith) ∙ sym (ap ordering_reverse (cmp_greater (s + a) (s + b) (omega arith))))
    (cases_eq a b))
    (cases_lt a b)
