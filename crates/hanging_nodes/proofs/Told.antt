-- Laws of storedness and sides from above.
use Rattle.std.proofs.Common.{◌≡◌, ◌↔◌, ℕ, ◌+◌, ◌*◌, ◌^◌, ◌<◌, ◌≤◌, ◌==◌, if◌then◌else◌, Bool, true, false, inl, Some, List, slice_index, refl, sym, ap, ◌∙◌, subst, arith}
use Rattle.std.specs.Prelude.{IfSome, Option}
use Rattle.std.proofs.lemmas.Bool.{false≢true}
use Rattle.std.proofs.lemmas.Bool.Decides.{nat_tests}
use Rattle.peano_keys.specs.declared.dim.Dim.{Dim}
use Rattle.peano_keys.specs.declared.dim.Dim.TheVariants.{Two, Three}
use Rattle.peano_keys.specs.declared.cell.CellKey.{CellKey}
use Rattle.peano_keys.specs.Dim.{corners, third_extent}
use Rattle.peano_keys.specs.Cell.{IsCell, IsDigits, at, child_of, centre_child, centre_digits}
use Rattle.peano_keys.specs.Vertex.{Touches, plane, corner_of, adjacent_of, number_of}
use Rattle.peano_keys.specs.Grid.{Spacetree, is_refined, has_cell}
use Rattle.peano_keys.proofs.Positions.{same_cell, position, position_below, at_position, adjacent_touches}
use Rattle.peano_keys.proofs.Anchors.{anchor_is_stored, corner_by_bits, vertex_by}
use Rattle.peano_keys.proofs.Bits.{number_below}
use Rattle.peano_records.specs.declared.slot.Slot.{Slot}
use Rattle.peano_records.specs.declared.slot.Status.TheVariants.{Refined}
use Rattle.peano_records.specs.declared.slot.Intent.TheVariants.{Split, Merge}
use Rattle.peano_records.specs.AtRest.{status_of, intent_between, HoldsIntent}
use Rattle.peano_records.specs.Slots.{slot_at}
use Rattle.peano_records.specs.Tells.{says_refined}
use Rattle.hanging_nodes.specs.Views.{IsOldSlot}
use Rattle.hanging_nodes.specs.Laws.{ChildCornersHeld, StorednessFromAbove, NextStandsOnOld, AnchorTellsNeighbour, CentreIsStored, SiblingsRoundCentre, RestIsShown}
use Rattle.hanging_nodes.proofs.OneGrid.{stored_refined, refined_stored, there_stored, pow3_next, cell_by}
use Rattle.hanging_nodes.proofs.TwoGrids.{refined_there, stored_above, leaf_of, leaf_not, stay_not_split, stay_not_merge, split_not_merge}
use Rattle.hanging_nodes.proofs.Anchors.{is_neighbour, anchor_tells}

pub child_corners_held : ChildCornersHeld
child_corners_held dim c k n digits = record { level = refl; first_low = omega arith; first_high = omega (arith, digits.first); second_low = omega arith; second_high = omega (arith, digits.second); third_low = omega arith; third_high = omega (arith, third_digit dim digits.third) }
  where
    third_digit : (dim : Dim) → slice_index k 2 < third_extent dim 3 → slice_index k 2 < 3
    third_digit Two h = omega arith
    third_digit Three h = h

pub storedness_from_above : StorednessFromAbove
storedness_from_above depth t c v grid cell vertex holds = (
  λ stored. let refined = stored_refined t c v vertex holds stored in (there_stored t c v cell holds (λ z decider. refined_there depth t z grid (refined z decider)), refined),
  λ h. refined_stored t c v holds h.1,
)

pub next_stands_on_old : NextStandsOnOld
next_stands_on_old depth dim old new c v grids cell vertex holds stored = stored_above depth dim old new c v cell vertex holds grids true stored

pub anchor_tells_neighbour : AnchorTellsNeighbour
anchor_tells_neighbour t c n f cell below axis found here =
    let a = is_neighbour t.dim c n f cell below axis found in
    (anchor_tells t c n f cell a.cell axis found, anchor_is_stored t c n f cell axis found here)

digits_of_centre : (dim : Dim) → IsDigits dim (centre_digits dim)
digits_of_centre Two = record { shape = refl; first = omega arith; second = omega arith; third = omega arith }
digits_of_centre Three = record { shape = refl; first = omega arith; second = omega arith; third = omega arith }

-- on axis 2 the centre lies inside, or there is one place alone
centre_third : (dim : Dim) (c z : CellKey) (n : ℕ) → IsCell dim c → IsCell dim z → 3 * at z 2 ≤ plane (corner_of (centre_child dim c) n) 2 → plane (corner_of (centre_child dim c) n) 2 ≤ 3 * at z 2 + 3 → at c 2 ≡ at z 2
centre_third Two c z n cell there l h = omega (arith, cell.third, there.third)
centre_third Three c z n cell there l h = omega (arith, l, h)

centre_first : (dim : Dim) (c z : CellKey) (n : ℕ) → 3 * at z 0 ≤ plane (corner_of (centre_child dim c) n) 0 → plane (corner_of (centre_child dim c) n) 0 ≤ 3 * at z 0 + 3 → at c 0 ≡ at z 0
centre_first Two c z n l h = omega (arith, l, h)
centre_first Three c z n l h = omega (arith, l, h)

centre_second : (dim : Dim) (c z : CellKey) (n : ℕ) → 3 * at z 1 ≤ plane (corner_of (centre_child dim c) n) 1 → plane (corner_of (centre_child dim c) n) 1 ≤ 3 * at z 1 + 3 → at c 1 ≡ at z 1
centre_second Two c z n l h = omega (arith, l, h)
centre_second Three c z n l h = omega (arith, l, h)

pub centre_is_stored : CentreIsStored
centre_is_stored t c n cell refined = refined_stored t c (corner_of (centre_child t.dim c) n) (child_corners_held t.dim c (centre_digits t.dim) n (digits_of_centre t.dim)) (λ z decider.
    let h = decider.holds in
    let e0 = centre_first t.dim c z n h.first_low h.first_high in
    let e1 = centre_second t.dim c z n h.second_low h.second_high in
    let e2 = centre_third t.dim c z n cell decider.cell h.third_low h.third_high in
    let same : cell_by c.level (at c 0) (at c 1) (at c 2) ≡ z = same_cell z c.level _ _ _ decider.cell.shape (omega (arith, h.level)) e0 e1 e2 in
    ap (is_refined t) (sym same ∙ same_cell c c.level _ _ _ cell.shape refl refl refl refl) ∙ refined)

-- the bit of the centre's corner that a child with this digit touches
abbrev side_bit : ℕ → ℕ
side_bit k = if k == 2 then 1 else 0

bit_low : (x k : ℕ) → k < 3 → 3 * x + k ≤ 3 * x + 1 + side_bit k
bit_low x k h = grind (arith, nat_tests)

bit_high : (x k : ℕ) → 3 * x + 1 + side_bit k ≤ 3 * x + k + 1
bit_high x k = grind (arith, nat_tests)

bit_small : (k : ℕ) → side_bit k ≤ 1
bit_small k = grind (arith, nat_tests)

module _ (c : CellKey) (k : List ℕ) where
  abbrev beside : Dim → ℕ
  beside dim = number_of dim (side_bit (slice_index k 0)) (side_bit (slice_index k 1)) (side_bit (slice_index k 2))

  planes : (dim : Dim) → corner_of (centre_child dim c) (beside dim) ≡ vertex_by dim (centre_child dim c) (side_bit (slice_index k 0)) (side_bit (slice_index k 1)) (side_bit (slice_index k 2))
  planes dim = corner_by_bits dim (centre_child dim c) _ _ _ (bit_small (slice_index k 0)) (bit_small (slice_index k 1)) (bit_small (slice_index k 2))

  touches : (dim : Dim) → IsDigits dim k → Touches (child_of c k) (vertex_by dim (centre_child dim c) (side_bit (slice_index k 0)) (side_bit (slice_index k 1)) (side_bit (slice_index k 2)))
  touches Two d = record { level = refl; first_low = bit_low (at c 0) (slice_index k 0) d.first; first_high = bit_high (at c 0) (slice_index k 0); second_low = bit_low (at c 1) (slice_index k 1) d.second; second_high = bit_high (at c 1) (slice_index k 1); third_low = omega (arith, d.third); third_high = omega (arith, d.third) }
  touches Three d = record { level = refl; first_low = bit_low (at c 0) (slice_index k 0) d.first; first_high = bit_high (at c 0) (slice_index k 0); second_low = bit_low (at c 1) (slice_index k 1) d.second; second_high = bit_high (at c 1) (slice_index k 1); third_low = bit_low (at c 2) (slice_index k 2) d.third; third_high = bit_high (at c 2) (slice_index k 2) }

  third_inside : (dim : Dim) → IsCell dim c → IsDigits dim k → 3 * at c 2 + slice_index k 2 < third_extent dim (3 * 3 ^ c.level)
  third_inside Two cell d = omega (arith, cell.third, d.third)
  third_inside Three cell d = omega (arith, cell.third, d.third)

  child_is_cell : (dim : Dim) → IsCell dim c → c.level < 12 → IsDigits dim k → IsCell dim (child_of c k)
  child_is_cell dim cell room d =
      let far : 3 ^ (c.level + 1) ≡ 3 * 3 ^ c.level = pow3_next c.level in
      record { shape = refl; level = omega (arith, room); first = omega (arith, cell.first, d.first, far); second = omega (arith, cell.second, d.second, far); third = subst (λ e. 3 * at c 2 + slice_index k 2 < third_extent dim e) (sym far) (third_inside dim cell d) }

pub siblings_round_centre : SiblingsRoundCentre
siblings_round_centre dim c k cell room digits =
    let near = subst (Touches (child_of c k)) (sym (planes c k dim)) (touches c k dim digits) in
    let v = corner_of (centre_child dim c) (beside c k dim) in
    let there = child_is_cell c k dim cell room digits in
    (beside c k dim, number_below dim _ _ _ (bit_small (slice_index k 0)) (bit_small (slice_index k 1)) (bit_small (slice_index k 2)), (position dim v (child_of c k), position_below dim v (child_of c k) near, at_position dim v (child_of c k) there near))

-- what an intent between two grids says of them
splits_are : (a b : Bool) → (intent_between a b ≡ Split) ↔ ((a ≡ false) × (b ≡ true))
splits_are false true = ((λ e. (refl, refl)), (λ e. refl))
splits_are false false = ((λ e. absurd (stay_not_split e)), (λ e. absurd (false≢true e.1)))
splits_are true true = ((λ e. absurd (stay_not_split e)), (λ e. absurd (false≢true (sym e.0))))
splits_are true false = ((λ e. absurd (split_not_merge (sym e))), (λ e. absurd (false≢true e.1)))

merges_are : (a b : Bool) → (intent_between a b ≡ Merge) ↔ ((a ≡ true) × (b ≡ false))
merges_are true false = ((λ e. (refl, refl)), (λ e. refl))
merges_are true true = ((λ e. absurd (stay_not_merge e)), (λ e. absurd (false≢true (sym e.1))))
merges_are false false = ((λ e. absurd (stay_not_merge e)), (λ e. absurd (false≢true e.0)))
merges_are false true = ((λ e. absurd (split_not_merge e)), (λ e. absurd (false≢true e.0)))

pub refined_is : (a : Bool) → (status_of a ≡ Refined) ↔ (a ≡ true)
refined_is true = ((λ e. refl), (λ e. refl))
refined_is false = ((λ e. ap says_refined e), (λ e. absurd (false≢true e)))

-- a slot before an adaptation is one of a vertex that is stored in the old grid
pub old_slot_of : (old new : Spacetree) (after : Bool) (q : CellKey) (s : Slot) → has_cell old q ≡ true → HoldsIntent old new q s → IsOldSlot old new after q s
old_slot_of old new after q s there h =
    let splits = splits_are (is_refined old q) (is_refined new q) in
    let merges = merges_are (is_refined old q) (is_refined new q) in
    record {
      split = λ e. leaf_of old q there (splits.0 (sym h.intent ∙ e)).0;
      merge = λ e. (merges.0 (sym h.intent ∙ e)).0;
      stay = λ e. ((λ r. (refined_is (is_refined old q)).0 (sym h.status ∙ r)), (λ r. h.status ∙ (refined_is (is_refined old q)).1 r));
      splits = λ a. ((λ e. let w = splits.0 (sym h.intent ∙ e) in (leaf_of old q there w.0, w.1)), (λ w. h.intent ∙ splits.1 (leaf_not old q w.0, w.1)));
      merges = λ a. ((λ e. merges.0 (sym h.intent ∙ e)), (λ w. h.intent ∙ merges.1 w));
    }

pub rest_is_shown : RestIsShown
rest_is_shown dim old new after s same vertex stored rest = (
  inl stored,
  (λ again n q below at. old_slot_of old new after q (slot_at s n) (has n q at) (rest.inside n q (subst (λ d. n < corners d) (sym same) below) (subst (λ d. adjacent_of d s.key n ≡ Some q) (sym same) at))),
  (λ none. absurd (none stored)),
)
  where
    has : (n : ℕ) (q : CellKey) → adjacent_of dim s.key n ≡ Some q → has_cell old q ≡ true
    has n q at = let near = subst (λ (o : Option CellKey). IfSome o (λ q. IsCell dim q × Touches q s.key)) at (adjacent_touches dim s.key n vertex) in stored q (subst (λ d. IsCell d q) (sym same) near.0) near.1
