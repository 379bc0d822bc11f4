-- What a tree holds and what stands at its borders can be told.
use Rattle.std.proofs.Common.{◌≡◌, inl, inr, ℕ, ◌<◌, ◌≤◌, max, min, true, Option, Some, None, refl, sym, subst, arith}
use Rattle.std.specs.Prelude.{IsSomeAnd}
use Rattle.std.proofs.lemmas.Bool.{cases_eq}
use Rattle.peano_keys.specs.declared.cell.CellKey.{CellKey}
use Rattle.peano_keys.specs.declared.vertex.VertexKey.{VertexKey}
use Rattle.peano_keys.specs.Dim.{corners}
use Rattle.peano_keys.specs.Cell.{IsCell}
use Rattle.peano_keys.specs.Vertex.{IsVertex, Touches, adjacent_of, corner_of}
use Rattle.peano_keys.specs.Grid.{Spacetree, IsGridCorner, IsHanging, IsStored, has_cell, is_leaf, is_refined}
use Rattle.peano_keys.proofs.Positions.{touching_cells}
use Rattle.peano_curve.specs.declared.range.Range.{Range}
use Rattle.peano_curve.specs.Order.{centre_of, interval_of}
use Rattle.peano_curve.specs.Run.{Holds, Meets}
use Rattle.sweep_visits.specs.Plan.{is_stored}
use Rattle.sweep_visits.proofs.Tests.{stored_tells, stored_told}
use Rattle.curve_cuts.specs.Cuts.{Cuts, HasCorner, Held, IsShared, Owns, range_of}
use Rattle.curve_cuts.specs.Enclave.{HasBorder, HasRefined, IsAtBorder, OwnsLeaf, hangs, shared, refined}
use Rattle.spacetree.proofs.Told.{Told, below, at_most, both_told, cell_told, not_told, some_told, true_told}
use Rattle.showing_sweep.specs.Sent.{HoldsRound, IsOther, IsVertexOf}
use Rattle.showing_sweep.proofs.Sends.{corner_if, corner_round}

meets_told : (r s : Range) → Told (Meets r s)
meets_told r s = elim (below (max r.lo s.lo) (min r.hi s.hi)) [
  | inl h ↦ inl (max r.lo s.lo, (omega (arith, h), omega (arith, h)), (omega (arith, h), omega (arith, h)))
  | inr apart ↦ inr (λ m. let low = m.1.0 in let high = m.1.1 in let under = m.2.0 in let over = m.2.1 in apart (omega (arith, low, high, under, over)))
]

held_told : (k : Cuts) (s : ℕ) (c : CellKey) → Told (Held k s c)
held_told k s c = meets_told (interval_of k.dim c k.depth) (range_of k s)

holds_told : (r : Range) (p : ℕ) → Told (Holds r p)
holds_told r p = both_told (r.lo ≤ p) (p < r.hi) (at_most r.lo p) (below p r.hi)

owns_told : (k : Cuts) (t : ℕ) (c : CellKey) → Told (Owns k t c)
owns_told k t c = elim (below t k.trees) [
  | inr apart ↦ inr (λ h. apart h.tree)
  | inl tree ↦ elim (holds_told (range_of k t) (centre_of k.dim c k.depth)) [ inr apart ↦ inr (λ h. apart h.centre) | inl centre ↦ inl record { tree = tree; centre = centre } ]
]

pub own_told : (k : Cuts) (g : Spacetree) (t : ℕ) (c : CellKey) → Told (OwnsLeaf k g t c)
own_told k g t c = elim (cell_told k.dim c) [
  | inr apart ↦ inr (λ h. apart h.cell)
  | inl cell ↦ elim (true_told (is_leaf g c)) [
    | inr apart ↦ inr (λ h. apart h.leaf)
    | inl leaf ↦ elim (owns_told k t c) [ inr apart ↦ inr (λ h. apart h.owns) | inl owns ↦ inl record { cell = cell; leaf = leaf; owns = owns } ]
  ]
]

-- something of the cell at a position, where there is one
one_told : (P : CellKey → Type 0) → ((c : CellKey) → Told (P c)) → (o : Option CellKey) → Told (IsSomeAnd o P)
one_told P told None = inr (λ h. h)
one_told P told (Some c) = told c

some_with : (P : CellKey → Type 0) (o : Option CellKey) → IsSomeAnd o P → (c : CellKey) × (o ≡ Some c) × P c
some_with P None h = absurd h
some_with P (Some c) h = (c, refl, h)

module _ (k : Cuts) (v : VertexKey) (of : IsVertexOf k v) where
  corner_told : (s : ℕ) → Told (HasCorner k s v)
  corner_told s = elim (below s k.trees) [
    | inr apart ↦ inr (λ h. apart h.tree)
    | inl tree ↦ elim (some_told (corners k.dim) (HoldsRound k s v) (λ n h. one_told (Held k s) (held_told k s) (adjacent_of k.dim v n))) [
      | inl some ↦ inl (corner_if k s v some.0 of tree some.1 some.2)
      | inr none ↦ inr (λ h. none (corner_round k s v of h))
    ]
  ]

  pub other_told : (t s : ℕ) → Told (IsOther k t v s)
  other_told t s = elim (cases_eq s t) [
    | inl same ↦ inr (λ h. h.apart same)
    | inr apart ↦ elim (corner_told s) [ inr none ↦ inr (λ h. none h.corner) | inl corner ↦ inl record { apart = apart; corner = corner } ]
  ]

  shared_told : (t : ℕ) → Told (IsShared k t v)
  shared_told t = elim (some_told k.trees (IsOther k t v) (λ s h. other_told t s)) [
    | inl some ↦ inl record { other = some.0; apart = some.2.apart; corner = some.2.corner }
    | inr none ↦ inr (λ h. none (h.other, h.corner.tree, record { apart = h.apart; corner = h.corner }))
  ]

-- a cell of some kind round a vertex
abbrev RoundIs : Spacetree → VertexKey → (CellKey → Type 0) → ℕ → Type 0
RoundIs g v P n = IsSomeAnd (adjacent_of g.dim v n) P

module _ (g : Spacetree) (v : VertexKey) (vertex : IsVertex g.dim v) (P : CellKey → Type 0) (told : (c : CellKey) → Told (P c)) where
  abbrev Round : Type 0
  Round = (q : CellKey) × IsCell g.dim q × Touches q v × P q

  round_told : Told Round
  round_told = elim (some_told (corners g.dim) (RoundIs g v P) (λ n h. one_told P told (adjacent_of g.dim v n))) [
    | inl some ↦ inl (let found = some_with P (adjacent_of g.dim v some.0) some.2 in let is = (touching_cells g.dim v found.0 vertex).1 (some.0, some.1, found.1) in (found.0, is.0, is.1, found.2))
    | inr none ↦ inr (λ h. let at = (touching_cells g.dim v h.0 vertex).0 (h.1, h.2) in none (at.0, at.1, subst (λ o. IsSomeAnd o P) (sym at.2) h.3))
  ]

hanging_told : (g : Spacetree) (v : VertexKey) → IsVertex g.dim v → Told (IsHanging g v)
hanging_told g v vertex = both_told (IsGridCorner g v) (¬ IsStored g v) (round_told g v vertex (λ q. has_cell g q ≡ true) (λ q. true_told (has_cell g q)))
    (not_told (IsStored g v) (elim (true_told (is_stored g v)) [ inl h ↦ inl (stored_tells g v h) | inr apart ↦ inr (λ h. apart (stored_told g v vertex h)) ]))

refined_told : (g : Spacetree) (v : VertexKey) → IsVertex g.dim v → Told (HasRefined g v)
refined_told g v vertex = elim (round_told g v vertex (λ q. is_refined g q ≡ true) (λ q. true_told (is_refined g q))) [
  | inl h ↦ inl record { cell = h.0; inside = h.1; touches = h.2; refined = h.3 }
  | inr none ↦ inr (λ h. none (h.cell, h.inside, h.touches, h.refined))
]

border_told : (k : Cuts) (g : Spacetree) (t : ℕ) (v : VertexKey) → IsVertex g.dim v → IsVertexOf k v → Told (IsAtBorder k g t v)
border_told k g t v vertex of = elim (hanging_told g v vertex) [
  | inl h ↦ inl (hangs h)
  | inr no_hanging ↦ elim (shared_told k v of t) [
    | inl h ↦ inl (shared h)
    | inr no_sharing ↦ elim (refined_told g v vertex) [
      | inl h ↦ inl (refined h)
      | inr no_refined ↦ inr (λ h. none no_hanging no_sharing no_refined h)
    ]
  ]
]
  where
    none : ¬ IsHanging g v → ¬ IsShared k t v → ¬ HasRefined g v → IsAtBorder k g t v → ⊥
    none a b c (hangs h) = a h
    none a b c (shared h) = b h
    none a b c (refined h) = c h

pub has_border_told : (k : Cuts) (g : Spacetree) (t : ℕ) (c : CellKey) → ((n : ℕ) → n < corners k.dim → IsVertex g.dim (corner_of c n) × IsVertexOf k (corner_of c n)) → Told (HasBorder k g t c)
has_border_told k g t c vertices = some_told (corners k.dim) (λ n. IsAtBorder k g t (corner_of c n)) (λ n h. let v = vertices n h in border_told k g t (corner_of c n) v.0 v.1)
