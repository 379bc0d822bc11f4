-- The sums of the components of a field, child by child.
use Rattle.std.proofs.Common.{◌≡◌, ℕ, suc, ◌+◌, ◌-◌, ◌*◌, ◌^◌, ◌<◌, ◌≤◌, ℤ, pos, negsuc, to_z, of_z, true, false, sym, ap, subst, ◌∙◌, add-one, arith}
use Rattle.std.specs.Prelude.{◌+ℤ◌}
use Rattle.std.specs.Int.{w128}
use Rattle.std.specs.Int.RustNames.{unsigned_abs, FitsSigned}
use Rattle.std.proofs.lemmas.Int.{ints, to_z-of_z}
use Rattle.std.proofs.lemmas.Nat.{mul-le}
use Rattle.std.proofs.Math.Nat.{pow-suc}
use Rattle.peano_keys.specs.declared.dim.Dim.{Dim}
use Rattle.peano_keys.specs.declared.dim.Dim.TheVariants.{Two, Three}
use Rattle.peano_keys.specs.declared.cell.CellKey.{CellKey}
use Rattle.peano_keys.specs.declared.state.State.{State}
use Rattle.peano_keys.specs.Dim.{children}
use Rattle.peano_keys.specs.Cell.{child_of}
use Rattle.peano_keys.specs.Grid.{Spacetree, is_refined}
use Rattle.peano_keys.specs.Sums.{over_first, weight, cell_weight, leaf_sum, floor_of}
use Rattle.peano_keys.specs.Field.{States, state_at, centre_state, state_like, component_of, value_of}
use Rattle.cell_sums.specs.Bounds.{WeighsBetween, least_word, greatest_word}
use Rattle.cell_sums.specs.Digits.{digits_at}
use Rattle.cell_sums.proofs.Sums.{sum_plain, sum_refined}
use Rattle.cell_sums.proofs.Means.{value_refined}
use Rattle.cell_sums.proofs.SumLaws.{numbers_sum_children}
use Rattle.cell_sums.proofs.Bounds.{absolute}
use Rattle.spacetree.specs.declared.means.FourSums.{FourSums}
use Rattle.spacetree.specs.Means.{AreSums, AreSmall, added, by_component, field_sums, state_sums}

same_by : (m p : ℕ → ℤ) → ((i : ℕ) → m i ≡ p i) → by_component m ≡ by_component p
same_by m p e = λ j. by_component (λ i. e i j)

-- the sums of a leaf
pub plain_sums : (t : Spacetree) (f : States) (levels : ℕ) (c : CellKey) → is_refined t c ≡ false → state_sums (state_at f c) (weight t.dim levels) ≡ field_sums t f levels c
plain_sums t f levels c h = same_by _ _ (λ i. sym (sum_plain t (component_of f i) levels c h))

-- the sums over the first children of a cell, each so many levels above the depth
abbrev pub first_sums : Spacetree → States → ℕ → CellKey → ℕ → FourSums
first_sums t f levels c n = by_component (λ i. over_first n (λ k. leaf_sum t (component_of f i) levels (child_of c (digits_at t.dim k))))

-- and those of one child more
pub one_child_more : (t : Spacetree) (f : States) (levels : ℕ) (c q : CellKey) (n : ℕ) (total one : FourSums) → q ≡ child_of c (digits_at t.dim n) → 12 - q.level ≡ levels → one ≡ field_sums t f (12 - q.level) q → total ≡ first_sums t f levels c n → added one total ≡ first_sums t f levels c (n + 1)
one_child_more t f levels c q n total one key level is rest =
    (λ j. added ((is ∙ (λ i. field_sums t f (level i) (key i))) j) (rest j)) ∙ ap (first_sums t f levels c) (sym (add-one n))

-- all children make the cell
pub all_children : (t : Spacetree) (f : States) (levels : ℕ) (c : CellKey) (n : ℕ) → is_refined t c ≡ true → n ≡ children t.dim → first_sums t f levels c n ≡ field_sums t f (suc levels) c
all_children t f levels c n refined e =
    ap (first_sums t f levels c) e ∙ same_by _ _ (λ i. numbers_sum_children t.dim c (λ q. leaf_sum t (component_of f i) levels q) ∙ sym (sum_refined t (component_of f i) levels c refined))

-- weights of sums that are added
weighs_more : (w v : ℕ) (x y : ℤ) → WeighsBetween least_word greatest_word w x → WeighsBetween least_word greatest_word v y → WeighsBetween least_word greatest_word (v + w) (x +ℤ y)
weighs_more w v x y a b = record {
  low = omega (arith, ints, a.low, b.low);
  high = omega (arith, ints, a.high, b.high);
}

pub sums_added : (w v : ℕ) (a b : FourSums) → AreSums w a → AreSums v b → AreSums (v + w) (added a b)
sums_added w v a b h g = record {
  first = weighs_more w v a.first b.first h.first g.first;
  second = weighs_more w v a.second b.second h.second g.second;
  third = weighs_more w v a.third b.third h.third g.third;
  fourth = weighs_more w v a.fourth b.fourth h.fourth g.fourth;
}

-- nothing weighs nothing
none_weighs : (w : ℕ) → WeighsBetween least_word greatest_word (0 * w) (pos 0)
none_weighs w = (let e : 0 * w ≡ 0 = omega arith in subst (λ v. WeighsBetween least_word greatest_word v (pos 0)) (sym e) (record { low = omega (arith, ints); high = omega (arith, ints) }))

pub none_sums : (w : ℕ) → AreSums (0 * w) (by_component (λ i. pos 0))
none_sums w = (let n = none_weighs w in record { first = n; second = n; third = n; fourth = n })

-- a sum of two such numbers has room
pub has_room : (z : ℤ) → unsigned_abs z < 2 ^ 127 → FitsSigned w128 z
has_room (pos a) h = record { sfits = (let r : a < 170141183460469231731687303715884105728 = omega (arith, h) in r) }
has_room (negsuc a) h = record { sfits = (let r : a < 170141183460469231731687303715884105728 = omega (arith, h) in r) }

-- so a number of 128 bits keeps it
pub kept : (z : ℤ) → unsigned_abs z < 2 ^ 127 → to_z w128 (of_z w128 z) ≡ z
kept z h = to_z-of_z w128 z (has_room z h)

-- and what two of them make
pub added_kept : (x y z : ℤ) → unsigned_abs x < 2 ^ 126 → unsigned_abs y < 2 ^ 126 → unsigned_abs z < 2 ^ 127 → z ≡ to_z w128 (of_z w128 x) +ℤ to_z w128 (of_z w128 y) → to_z w128 (of_z w128 z) ≡ x +ℤ y
added_kept x y z hx hy hz e = kept z hz ∙ e ∙ (let p = kept x (omega (arith, hx)) in let q = kept y (omega (arith, hy)) in λ i. p i +ℤ q i)

-- sums of at most 27 cells stay small
small_one : (w n : ℕ) (z : ℤ) → w ≤ 150094635296999121 → n ≤ 27 → WeighsBetween least_word greatest_word (n * w) z → unsigned_abs z < 2 ^ 126
small_one w n z h g b = (let a = absolute (n * w) z b in let m : n * w ≤ 27 * 150094635296999121 = mul-le n w 27 150094635296999121 g h in omega (arith, a, m))

pub small_sums : (w n : ℕ) (s : FourSums) → w ≤ 150094635296999121 → n ≤ 27 → AreSums (n * w) s → AreSmall s
small_sums w n s h g b = record { first = small_one w n s.first h g b.first; second = small_one w n s.second h g b.second; third = small_one w n s.third h g b.third; fourth = small_one w n s.fourth h g b.fourth }

pub small_alone : (w : ℕ) (s : FourSums) → w ≤ 150094635296999121 → AreSums w s → AreSmall s
small_alone w s h b = small_sums w 1 s h (omega arith) (let e : w ≡ 1 * w = omega arith in subst (λ v. AreSums v s) e b)

pub children_most : (dim : Dim) → children dim ≤ 27
children_most Two = omega arith
children_most Three = omega arith

-- all children weigh as much as the cell
pub whole_weight : (dim : Dim) (level n : ℕ) → level < 12 → n ≡ children dim → n * weight dim (11 - level) ≡ weight dim (12 - level)
whole_weight dim level n h e =
    let up : 12 - level ≡ suc (11 - level) = omega (arith, h) in
    let turn : children dim * weight dim (11 - level) ≡ weight dim (11 - level) * children dim = omega arith in
    ap (λ k. k * weight dim (11 - level)) e ∙ turn ∙ sym (pow-suc (children dim) (11 - level)) ∙ ap (weight dim) (sym up)

-- the means of a refined cell are its value
pub means_give_value : (t : Spacetree) (f : States) (c : CellKey) (like s : State) (w : ℕ) → is_refined t c ≡ true → like ≡ centre_state (12 - c.level) t f c → w ≡ cell_weight 12 t.dim c → s ≡ state_like like (λ i. floor_of (leaf_sum t (component_of f i) (12 - c.level) c) w) → s ≡ value_of t f c
means_give_value t f c like s w h l e g = g ∙ (λ j. state_like (l j) (λ i. floor_of (leaf_sum t (component_of f i) (12 - c.level) c) (e j))) ∙ sym (value_refined 12 t f c h)
