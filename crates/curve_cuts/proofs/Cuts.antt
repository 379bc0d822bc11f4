-- Owners and holders.
use Rattle.std.proofs.Common.{◌≡◌, ◌⊎◌, inl, inr, ⊎_elim, ℕ, zero, suc, ◌+◌, ◌-◌, ◌*◌, ◌/◌, ◌^◌, ◌<◌, ◌≤◌, refl, sym, ap, subst, ◌∙◌, arith}
use Rattle.std.proofs.Math.Nat.{pow-suc, mul-le-mul_right}
use Rattle.peano_keys.specs.declared.cell.CellKey.{CellKey}
use Rattle.peano_keys.specs.declared.dim.Dim.{Dim}
use Rattle.peano_keys.specs.declared.dim.Dim.TheVariants.{Two, Three}
use Rattle.peano_keys.specs.Dim.{children}
use Rattle.peano_keys.specs.Cell.{at, parent_of}
use Rattle.peano_curve.specs.Order.{sibling_place, rank_of, centre_of}
use Rattle.peano_curve.specs.Run.{Holds}
use Rattle.peano_curve.proofs.Ranks.{rank_of-step, width_positive, interval_within}
use Rattle.peano_curve.proofs.Ancestors.{rank_bound}
use Rattle.peano_curve.proofs.Digits.{centre_is_shared}
use Rattle.curve_cuts.specs.Cuts.{Cuts, AreCuts, range_of, HasPosition}
use Rattle.curve_cuts.specs.Laws.{PositionHasTree, PositionHasOneTree, RangesInOrder, OwnerExists, OwnerIsOne, OwnerHolds, CentreKeepsOwner, HeldFromAbove, SharedIsHadToo}

pub lt_or_le : (n m : ℕ) → (n < m) ⊎ (m ≤ n)
lt_or_le n zero = inr (omega arith)
lt_or_le zero (suc m) = inl (omega arith)
lt_or_le (suc n) (suc m) = ⊎_elim (λ h. inl (omega (arith, h))) (λ h. inr (omega (arith, h))) (lt_or_le n m)

-- of ranges one after another one has the position
find : (start : ℕ → ℕ) (p n : ℕ) → start 0 ≤ p → p < start n → (t : ℕ) × (t < n) × (start t ≤ p) × (p < start (t + 1))
find start p zero low high = absurd (omega (arith, low, high))
find start p (suc n) low high = ⊎_elim
    (λ below. let r = find start p n low below in (r.0, omega (arith, r.1), r.2, r.3))
    (λ above. let e : suc n ≡ n + 1 = omega arith in (n, omega arith, above, subst (λ m. p < start m) e high))
    (lt_or_le p (start n))

centre_within : (w : ℕ) → 0 < w → w / 2 < w
centre_within w h = omega arith

rank_within : (dim : Dim) (c : CellKey) → rank_of dim c < children dim ^ c.level
rank_within dim c = rank_bound dim c.level (at c 0) (at c 1) (at c 2)

pub position_has_tree : PositionHasTree
position_has_tree k p cuts below =
    let r = find k.start p k.trees (omega (arith, cuts.first)) (omega (arith, cuts.end, below)) in
    (r.0, record { tree = r.1; holds = (r.2, r.3) })

-- the middle of a cell's interval is a position
pub centre_position : (dim : Dim) (c : CellKey) (depth : ℕ) → c.level ≤ depth → centre_of dim c depth < children dim ^ depth
centre_position dim c depth level =
    let w : ℕ = children dim ^ (depth - c.level) in
    let whole : rank_of dim c * w + w ≤ children dim ^ depth = interval_within (children dim) (rank_of dim c) c.level depth level (rank_within dim c) in
    let half : w / 2 < w = centre_within w (width_positive dim (depth - c.level)) in
    omega (arith, whole, half)

pub owner_exists : OwnerExists
owner_exists k c cuts cell level =
    let r = position_has_tree k (centre_of k.dim c k.depth) cuts (centre_position k.dim c k.depth level) in
    (r.0, record { tree = r.1.tree; centre = r.1.holds })

-- ranges rise
pub rises : (k : Cuts) → AreCuts k → (t j : ℕ) → t + j ≤ k.trees → k.start t ≤ k.start (t + j)
rises k cuts t zero h = let e : t + 0 ≡ t = omega arith in omega (arith, ap k.start e)
rises k cuts t (suc j) h =
    let e : t + suc j ≡ t + j + 1 = omega arith in
    omega (arith, rises k cuts t j (omega (arith, h)), cuts.rising (t + j) (omega (arith, h)), ap k.start e)

pub ranges_in_order : RangesInOrder
ranges_in_order k t s cuts h below =
    let e : t + 1 + (s - (t + 1)) ≡ s = omega arith in
    omega (arith, rises k cuts (t + 1) (s - (t + 1)) (omega (arith, h, below)), ap k.start e)

apart : (k : Cuts) (t s p : ℕ) → AreCuts k → HasPosition k t p → HasPosition k s p → t < s → ⊥
apart k t s p cuts a b h =
    absurd (omega (arith, ranges_in_order k t s cuts h b.tree, a.holds.1, b.holds.0))

pub position_has_one_tree : PositionHasOneTree
position_has_one_tree k t s p cuts a b = ⊎_elim
    (λ h. absurd (apart k t s p cuts a b h))
    (λ h. ⊎_elim (λ g. absurd (apart k s t p cuts b a g)) (λ g. omega (arith, h, g)) (lt_or_le s t))
    (lt_or_le t s)

pub owner_is_one : OwnerIsOne
owner_is_one k t s c cuts a b = position_has_one_tree k t s (centre_of k.dim c k.depth) cuts (record { tree = a.tree; holds = a.centre }) (record { tree = b.tree; holds = b.centre })

pub owner_holds : OwnerHolds
owner_holds k t c owns =
    let w : ℕ = children k.dim ^ (k.depth - c.level) in
    let half : w / 2 < w = centre_within w (width_positive k.dim (k.depth - c.level)) in
    (centre_of k.dim c k.depth, (omega arith, omega (arith, half)), owns.centre)

pub centre_keeps_owner : CentreKeepsOwner
centre_keeps_owner k t c below =
    let e = centre_is_shared k.dim c k.depth below in (
      λ o. record { tree = o.tree; centre = subst (λ p. Holds (range_of k t) p) (sym e) o.centre },
      λ o. record { tree = o.tree; centre = subst (λ p. Holds (range_of k t) p) e o.centre },
    )

-- a child's part of its parent's positions
part : (n w r p q : ℕ) → q < n → r ≡ n * p + q → (p * (n * w) ≤ r * w) × (r * w + w ≤ p * (n * w) + n * w)
part n w r p q below e =
    let r1 : r * w ≡ p * (n * w) + q * w = rw e (grind arith) in
    let last : suc q * w ≤ n * w = mul-le-mul_right w below in
    let more : suc q * w ≡ q * w + w = grind arith in
    (omega arith, omega arith)

one_level : (dim : Dim) → children dim ^ 1 ≡ children dim
one_level Two = refl
one_level Three = refl

place_within : (dim : Dim) (c : CellKey) → sibling_place dim c < children dim
place_within dim c = omega (arith, one_level dim, rank_bound dim 1 (at c 0) (at c 1) (at c 2))

pub held_from_above : HeldFromAbove
held_from_above k t c cell pos level held =
    let n : ℕ = children k.dim in
    let w : ℕ = n ^ (k.depth - c.level) in
    let up : k.depth - (c.level - 1) ≡ suc (k.depth - c.level) = omega (arith, pos, level) in
    let wide : n ^ (k.depth - (c.level - 1)) ≡ n * w = ap (λ m. n ^ m) up ∙ (rw pow-suc (grind arith)) in
    let b = part n w (rank_of k.dim c) (rank_of k.dim (parent_of c)) (sibling_place k.dim c) (place_within k.dim c) (rank_of-step k.dim c pos) in
    let row : rank_of k.dim (parent_of c) * n ^ (k.depth - (c.level - 1)) ≡ rank_of k.dim (parent_of c) * (n * w) = ap (λ m. rank_of k.dim (parent_of c) * m) wide in
    (held.0, (omega (arith, held.1.0, b.0, row), omega (arith, held.1.1, b.1, row, wide)), held.2)

pub shared_is_had_too : SharedIsHadToo
shared_is_had_too k g t v has = (
  λ shared. (shared.other, shared.apart, record { vertex = has.vertex; stored = has.stored; corner = shared.corner }),
  λ too. record { other = too.0; apart = too.1; corner = too.2.corner },
)
