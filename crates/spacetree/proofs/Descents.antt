-- Zones handed down, and cells below a cell.
use Rattle.std.proofs.Common.{◌<◌, ◌≤◌, arith, ◌≡◌, ℕ, zero, suc, List, [], ◌∷◌, Bool, true, false, cond, refl, ap, sym, ◌∙◌, subst, ◌⊎◌, inl, inr, length, get_or, filter, Any, All}
use Rattle.std.specs.FinSet as set
use Rattle.std.proofs.lemmas.List.Elements.{filter_passes}
use Rattle.std.proofs.lemmas.Bool.{false≢true}
use Rattle.peano_keys.specs.declared.dim.Dim.{Dim}
use Rattle.peano_keys.specs.declared.cell.CellKey.{CellKey}
use Rattle.peano_keys.specs.Cell.{IsCell, parent_of, root}
use Rattle.peano_keys.specs.Grid.{Cells}
use Rattle.spacetree.specs.declared.shape.Shape.{Shape}
use Rattle.spacetree.specs.declared.shape.Zone.{Zone}
use Rattle.spacetree.specs.Opening.{OpensRefined, ZoneRefines, zone_refines}
use Rattle.spacetree.specs.Build.{IsZone, IsUnder, HasOpenedUnder, StandsFor, ancestor_of}
use Rattle.spacetree.proofs.Children.{root_is}
use Rattle.spacetree.proofs.Children.{parent_cell}
use Rattle.spacetree.proofs.Openings.{ancestor_level, ancestor_opens, ancestor_zone}

module _ {X : Type 0} (P : X → Type 0) where
  pub any_cons : (x : X) (xs : List X) → P x ⊎ Any P xs → Any P (x ∷ xs)
  any_cons x xs (inl h) = (0, x, omega arith, refl, h)
  any_cons x xs (inr h) = (suc h.0, h.1, omega (arith, h.2), h.3, h.4)

  pub any_cases : (x : X) (xs : List X) → Any P (x ∷ xs) → P x ⊎ Any P xs
  any_cases x xs h = cases h.0 h.1 h.2 h.3 h.4 where
    cases : (k : ℕ) (y : X) → k < length (x ∷ xs) → get_or (x ∷ xs) k y ≡ y → P y → P x ⊎ Any P xs
    cases zero y lt e p = inl (subst P (sym e) p)
    cases (suc k) y lt e p = inr (k, y, omega arith, e, p)

  pub none_of_empty : Any P [] → ⊥
  none_of_empty h = absurd (omega (arith, h.2))

  all_cons : (x : X) (xs : List X) → P x → All P xs → All P (x ∷ xs)
  all_cons x xs p h zero d lt = p
  all_cons x xs p h (suc k) d lt = h k d (omega arith)

  all_rest : (x : X) (xs : List X) → All P (x ∷ xs) → All P xs
  all_rest x xs h k d lt = h (suc k) d (omega arith)

  any_of_kept : (b : Bool) (x : X) (ys xs : List X) → (Any P ys → Any P xs) → Any P (cond b (x ∷ ys) ys) → Any P (x ∷ xs)
  any_of_kept true x ys xs rest h = any_cons x xs (elim (any_cases x ys h) [ inl p ↦ inl p | inr r ↦ inr (rest r) ])
  any_of_kept false x ys xs rest h = any_cons x xs (inr (rest h))

  any_in_kept : (b : Bool) (x : X) (ys xs : List X) → (P x → b ≡ true) → (Any P xs → Any P ys) → P x ⊎ Any P xs → Any P (cond b (x ∷ ys) ys)
  any_in_kept true x ys xs passes rest (inl p) = any_cons x ys (inl p)
  any_in_kept true x ys xs passes rest (inr r) = any_cons x ys (inr (rest r))
  any_in_kept false x ys xs passes rest (inl p) = absurd (false≢true (passes p))
  any_in_kept false x ys xs passes rest (inr r) = rest r

  all_kept : (b : Bool) (x : X) (ys : List X) → P x → All P ys → All P (cond b (x ∷ ys) ys)
  all_kept true x ys p h = all_cons x ys p h
  all_kept false x ys p h = h

  -- what holds of some kept element holds of some element
  pub any_of_filter : (test : X → Bool) (xs : List X) → Any P (filter test xs) → Any P xs
  any_of_filter test [] h = h
  any_of_filter test (x ∷ xs) h = any_of_kept (test x) x (filter test xs) xs (any_of_filter test xs) h

  -- what implies the test and holds of some element holds of some kept one
  pub any_in_filter : (test : X → Bool) → ((x : X) → P x → test x ≡ true) → (xs : List X) → Any P xs → Any P (filter test xs)
  any_in_filter test passes [] h = h
  any_in_filter test passes (x ∷ xs) h = any_in_kept (test x) x (filter test xs) xs (passes x) (any_in_filter test passes xs) (any_cases x xs h)

  -- what holds of all elements holds of all kept ones
  pub all_filter : (test : X → Bool) (xs : List X) → All P xs → All P (filter test xs)
  all_filter test [] h = h
  all_filter test (x ∷ xs) h = all_kept (test x) x (filter test xs) (h 0 x (omega arith)) (all_filter test xs (all_rest x xs h))

pub under_itself : (c : CellKey) → IsUnder c c
under_itself c = (0, omega arith, refl)

-- a cell below another is below that one's parent
pub under_parent : (c r p : CellKey) → 0 < r.level → parent_of r ≡ p → IsUnder r c → IsUnder p c
under_parent c r p pos up (n, le, e) = (suc n, (omega (arith, ancestor_level n c, ap (λ q. q.level) e)), ap parent_of e ∙ up)

some_of : {X : Type 0} (P : X → Type 0) (xs : List X) → 0 < length xs → All P xs → Any P xs
some_of P [] pos h = absurd (omega arith)
some_of P (x ∷ xs) pos h = (0, x, pos, refl, h 0 x pos)

-- where some of the zones refine a cell, some zone of the shape does
pub some_zone : (shape : Shape) (top : CellKey) (zones here : List Zone) → StandsFor shape top zones → here ≡ filter (zone_refines shape.dim top) zones → 0 < length here → Any (ZoneRefines shape.dim top) shape.zones
some_zone shape top zones here stands is pos =
    let test : Zone → Bool = zone_refines shape.dim top in
    let many : 0 < length (filter test zones) = omega (arith, ap length is) in
    let kept : Any (λ z. test z ≡ true) (filter test zones) = some_of (λ z. test z ≡ true) (filter test zones) many (filter_passes test zones) in
    stands.within top (any_of_filter (λ z. test z ≡ true) test zones kept)

-- where no zone refines a cell of a level from the base on, no cell below it is refined
pub none_under : (shape : Shape) (top : CellKey) (zones here : List Zone) → StandsFor shape top zones → here ≡ filter (zone_refines shape.dim top) zones → length here ≡ 0 → shape.base ≤ top.level → (c : CellKey) → OpensRefined shape c → IsUnder top c → ⊥
none_under shape top zones here stands is none high c h (n, le, e) =
    let opened : OpensRefined shape top = subst (OpensRefined shape) e (ancestor_opens shape n c le h) in
    elim opened.cause [
      | inl l ↦ absurd (omega arith)
      | inr some ↦
          let kept = any_in_filter (ZoneRefines shape.dim top) (zone_refines shape.dim top) (λ z h. h) zones (stands.all top (under_itself top) some) in
          absurd (omega (arith, kept.2, ap length is))
    ]

-- the zones that refine a cell stand for all below each of its children
pub stands_for_child : (shape : Shape) (top r : CellKey) (zones here : List Zone) → StandsFor shape top zones → here ≡ filter (zone_refines shape.dim top) zones → 0 < r.level → parent_of r ≡ top → StandsFor shape r here
stands_for_child shape top r zones here stands is pos up = subst (StandsFor shape r) (sym is) record {
  valid = all_filter (IsZone shape.dim shape.depth) (zone_refines shape.dim top) zones stands.valid;
  within = λ c some. stands.within c (any_of_filter (ZoneRefines shape.dim c) (zone_refines shape.dim top) zones some);
  all = λ c under some.
      let below : IsUnder top c = under_parent c r top pos up under in
      any_in_filter (ZoneRefines shape.dim c) (zone_refines shape.dim top) (λ z refines. subst (λ (q : CellKey). ZoneRefines shape.dim q z) below.2 (ancestor_zone shape.dim below.0 c z below.1 refines)) zones (stands.all c below some);
}

-- a set that has a cell and all that is refined below its children has all that is refined below it
pub under_from_children : (shape : Shape) (top : CellKey) (s : Cells) → set.contains s top ≡ true → ((r : CellKey) → IsCell shape.dim r → 0 < r.level → parent_of r ≡ top → HasOpenedUnder shape r s) → HasOpenedUnder shape top s
under_from_children shape top s has below c h (zero, le, e) = ap (set.contains s) e ∙ has
under_from_children shape top s has below c h (suc n, le, e) =
    let less : n ≤ c.level = omega arith in
    let pos : 0 < (ancestor_of n c).level = omega (arith, ancestor_level n c) in
    below (ancestor_of n c) (ancestor_opens shape n c less h).cell pos e c h (n, less, refl)

ancestor_cell : (dim : Dim) (n : ℕ) (c : CellKey) → n ≤ c.level → IsCell dim c → IsCell dim (ancestor_of n c)
ancestor_cell dim zero c le h = h
ancestor_cell dim (suc n) c le h =
    let less : n ≤ c.level = omega arith in
    let pos : 0 < (ancestor_of n c).level = omega (arith, ancestor_level n c) in
    parent_cell dim (ancestor_of n c) (ancestor_cell dim n c less h) pos

-- each cell lies below the root
pub under_root : (dim : Dim) (c : CellKey) → IsCell dim c → IsUnder root c
under_root dim c h =
    let all : c.level ≤ c.level = omega arith in
    (c.level, all, root_is dim (ancestor_of c.level c) (ancestor_cell dim c.level c all h) (omega (arith, ancestor_level c.level c)))
