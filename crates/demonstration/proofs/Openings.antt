-- The opening grid of a demonstration: how many cells it has, and from where to where its values lie.
use Rattle.std.proofs.Common.{◌≡◌, ℕ, zero, suc, ◌+◌, ◌*◌, ◌<◌, ◌≤◌, Bool, true, false, cond, List, ◌∷◌, ◌++◌, length, length-append, map, filter, sym, ◌∙◌, subst, arith, inl, inr, unwrap_or}
use Rattle.std.proofs.lemmas.Bool.{cases_lt, cases_eq}
use Rattle.std.proofs.lemmas.Int.{ints}
use Rattle.std.proofs.lemmas.List.FromFn.{length-map-range_with_len, get_or-map-range_with_len}
use Rattle.std.specs.Prelude.{pos, negsuc, ◌-ℤ◌}
use Rattle.std.specs.FinSet as set
use Rattle.std.specs.List.{range_with_len}
use Rattle.peano_keys.specs.declared.dim.Dim.{Dim}
use Rattle.peano_keys.specs.declared.dim.Dim.TheVariants.{Two}
use Rattle.peano_keys.specs.declared.cell.CellKey.{CellKey}
use Rattle.peano_keys.specs.declared.state.State.{State}
use Rattle.peano_keys.specs.declared.state.State.TheVariants.{Single}
use Rattle.peano_keys.specs.Cell.{IsCell, at}
use Rattle.peano_keys.specs.Grid.{Spacetree, IsGrid}
use Rattle.spacetree.specs.declared.shape.Fill.{Fill}
use Rattle.spacetree.specs.declared.shape.Zone.{Zone}
use Rattle.spacetree.specs.Leaves.{is_among}
use Rattle.spacetree.specs.Opening.{Opens, OpensRefined, ZoneRefines, last_value, lies_in}
use Rattle.spacetree.proofs.Openings.{parent_opens, opens_above}
use Rattle.spacetree.proofs.Zones.{Overlaps, decides_zone}
use Rattle.demonstration.specs.Draws.{draw}
use Rattle.demonstration.specs.Demo.{demo, fill_at, zone_at, zone_by}
use Rattle.demonstration.specs.Laws.{OpensSmall, NeverTooLarge, OpensWithin, IsWithin}
use Rattle.demonstration.proofs.LaterDraws.{draw_below}
use Rattle.demonstration.proofs.Plans.{shape_fits}
use Rattle.demonstration.proofs.Covers.{block, length_block, above, length_above_3, among_above, covered, among_first, among_second, len_at_most, cells_at_most}

-- ---- the cells that the boxes refine

-- on one axis, a cell of level 3 that meets one of them is that
meets_own : (c x : ℕ) → Overlaps 3 c 3 x (x + 1) → c ≡ x
meets_own c x h = omega (arith, h)

-- and one of level 4 is a child of it
meets_children : (c x : ℕ) → Overlaps 4 c 3 x (x + 1) → (3 * x ≤ c) × (c < 3 * x + 3)
meets_children c x h = (omega (arith, h), omega (arith, h))

-- the cell of level 3 at `x` and `y`, and its children
abbrev cell_and_children : ℕ → ℕ → List CellKey
cell_and_children x y = block 3 x y 1 1 ++ block 4 (3 * x) (3 * y) 3 3

length_family : (x y : ℕ) → length (cell_and_children x y) ≡ 10
length_family x y = length-append (block 3 x y 1 1) (block 4 (3 * x) (3 * y) 3 3) ∙ (λ i. length_block 3 x y 1 1 i + length_block 4 (3 * x) (3 * y) 3 3 i)

-- a cell below the base that a box refines is one of these
in_family : (x y : ℕ) (c : CellKey) → IsCell Two c → 3 ≤ c.level → ZoneRefines Two c (zone_by x y) → is_among (cell_and_children x y) c ≡ true
in_family x y c cell deep refines = let h = (decides_zone Two c (zone_by x y)).0 refines in elim (cases_eq c.level 3) [
  | inl e ↦
      let first : at c 0 ≡ x = meets_own (at c 0) x (subst (λ (l : ℕ). Overlaps l (at c 0) 3 x (x + 1)) e h.1.0) in
      let second : at c 1 ≡ y = meets_own (at c 1) y (subst (λ (l : ℕ). Overlaps l (at c 1) 3 y (y + 1)) e h.1.1) in
      among_first (block 3 x y 1 1) (block 4 (3 * x) (3 * y) 3 3) c (covered 3 x y 1 1 c cell e (omega arith) (omega arith) (omega arith) (omega arith))
  | inr apart ↦
      let e : c.level ≡ 4 = omega (arith, apart, h.0) in
      let first = meets_children (at c 0) x (subst (λ (l : ℕ). Overlaps l (at c 0) 3 x (x + 1)) e h.1.0) in
      let second = meets_children (at c 1) y (subst (λ (l : ℕ). Overlaps l (at c 1) 3 y (y + 1)) e h.1.1) in
      among_second (block 3 x y 1 1) (block 4 (3 * x) (3 * y) 3 3) c (covered 4 (3 * x) (3 * y) 3 3 c cell e first.0 first.1 second.0 second.1)
]

-- the cells of the first `k` boxes of a demonstration
unfoldable families : ℕ → ℕ → List CellKey
families n zero = above 3
families n (suc k) = cell_and_children (draw n (36 + 2 * k) 27) (draw n (36 + 2 * k + 1) 27) ++ families n k

length_families : (n k : ℕ) → length (families n k) ≡ 91 + 10 * k
unfolding families
length_families n zero = length_above_3
length_families n (suc k) =
    let x : ℕ = draw n (36 + 2 * k) 27 in
    let y : ℕ = draw n (36 + 2 * k + 1) 27 in
    let e : 10 + (91 + 10 * k) ≡ 91 + 10 * suc k = omega arith in
    length-append (cell_and_children x y) (families n k) ∙ (λ i. length_family x y i + length_families n k i) ∙ e

above_in_families : (n k : ℕ) (c : CellKey) → IsCell Two c → c.level < 3 → is_among (families n k) c ≡ true
unfolding families
above_in_families n zero c cell h = among_above 3 c cell h
above_in_families n (suc k) c cell h = among_second (cell_and_children (draw n (36 + 2 * k) 27) (draw n (36 + 2 * k + 1) 27)) (families n k) c (above_in_families n k c cell h)

in_families : (n k j : ℕ) (c : CellKey) → j < k → IsCell Two c → 3 ≤ c.level → ZoneRefines Two c (zone_at n j) → is_among (families n k) c ≡ true
unfolding families
in_families n zero j c h cell deep refines = absurd (omega arith)
in_families n (suc k) j c h cell deep refines =
    let x : ℕ = draw n (36 + 2 * k) 27 in
    let y : ℕ = draw n (36 + 2 * k + 1) 27 in
    elim (cases_eq j k) [
      | inl e ↦ among_first (cell_and_children x y) (families n k) c (in_family x y c cell deep (subst (λ (i : ℕ). ZoneRefines Two c (zone_at n i)) e refines))
      | inr apart ↦ among_second (cell_and_children x y) (families n k) c (in_families n k j c (omega (arith, apart)) cell deep refines)
    ]

opened_in_families : (n : ℕ) (c : CellKey) → OpensRefined (demo n).shape c → is_among (families n 8) c ≡ true
opened_in_families n c opened = elim (cases_lt c.level 3) [
  | inl high ↦ above_in_families n 8 c opened.cell high
  | inr deep ↦ elim opened.cause [
    | inl h ↦ above_in_families n 8 c opened.cell h
    | inr some ↦
        let j : ℕ = some.0 in
        let inside : j < 8 = subst (λ (l : ℕ). j < l) (length-map-range_with_len (zone_at n) 0 8) some.2 in
        let same : some.1 ≡ zone_at n j = sym some.3 ∙ get_or-map-range_with_len (zone_at n) 0 8 j j some.1 inside (omega arith) in
        in_families n 8 j c inside opened.cell deep (subst (λ (z : Zone). ZoneRefines Two c z) same some.4)
  ]
]

pub opens_small : OpensSmall
opens_small n t opens =
    let few : set.len t.refined ≤ length (families n 8) = len_at_most t.refined (families n 8) (λ c h. opened_in_families n c ((opens.refined c).0 h)) in
    cells_at_most t 171 opens.dim (omega (arith, few, length_families n 8))

pub never_too_large : NeverTooLarge
never_too_large n large =
    let few : set.len large.refined ≤ length (families n 8) = len_at_most large.refined (families n 8) (λ c h. opened_in_families n c (large.opened c h)) in
    absurd (omega (arith, few, length_families n 8, large.many))

-- the opening grid is a grid of depth 5
pub opening_grid : (n : ℕ) (t : Spacetree) → Opens (demo n).shape t → IsGrid 5 t
opening_grid n t opens = record {
  cells = λ c e. subst (λ (d : Dim). IsCell d c) (sym opens.dim) ((opens.refined c).0 e).cell;
  levels = λ c e. opens_above (demo n).shape c (shape_fits n) ((opens.refined c).0 e);
  parents = λ c e pos. (opens.refined _).1 (parent_opens (demo n).shape c pos ((opens.refined c).0 e));
}

-- ---- the opening values

value_within : (v : ℕ) → v < 2001 → IsWithin (negsuc 999) (pos 1000) (Single (pos v -ℤ pos 1000))
value_within v h = record { least = omega (arith, ints); most = omega (arith, ints) }

-- the last value of some fills that a test picks
last_within : (n a k : ℕ) (test : Fill → Bool) (s : State) → IsWithin (negsuc 999) (pos 1000) s → IsWithin (negsuc 999) (pos 1000) (last_value s (filter test (map (fill_at n) (range_with_len a k))))
last_within n a zero test s h = h
last_within n a (suc k) test s h =
    let b : Fill = fill_at n a in
    let more : List Fill = filter test (map (fill_at n) (range_with_len (a + 1) k)) in
    elim (test b) as (λ picked. IsWithin (negsuc 999) (pos 1000) (last_value s (cond picked (b ∷ more) more))) [
      | true ↦ last_within n (a + 1) k test b.value (value_within (draw n (3 * a + 2) 2001) (draw_below n (3 * a + 2) 2001 (omega arith)))
      | false ↦ last_within n (a + 1) k test s h
    ]

pub opens_within : OpensWithin
opens_within n t f begins c leaf =
    let zero_within : IsWithin (negsuc 999) (pos 1000) (Single (pos 0)) = record { least = omega (arith, ints); most = omega (arith, ints) } in
    subst (λ o. IsWithin (negsuc 999) (pos 1000) (unwrap_or o (Single (pos 0)))) (sym (begins.field.leaves c leaf)) (last_within n 0 12 (lies_in t.dim c) (Single (pos 0)) zero_within)
