-- When another tree holds an adjacent position of a vertex.
use Rattle.std.proofs.Common.{◌≡◌, ◌≢◌, ◌⊎◌, inl, inr, ⊎_elim, ℕ, ◌-◌, ◌<◌, ◌≤◌, arith, refl, sym, subst, Option, Some, None}
use Rattle.std.specs.Prelude.{IsSomeAnd}
use Rattle.peano_keys.specs.declared.cell.CellKey.{CellKey}
use Rattle.peano_keys.specs.declared.vertex.VertexKey.{VertexKey}
use Rattle.peano_keys.specs.Dim.{corners, children}
use Rattle.peano_keys.specs.Cell.{IsCell, at}
use Rattle.peano_keys.specs.Vertex.{IsVertex, adjacent_of}
use Rattle.peano_keys.proofs.Positions.{touching_cells}
use Rattle.peano_curve.specs.Order.{rank_of, interval_of}
use Rattle.peano_curve.proofs.Ranks.{width_positive, interval_within}
use Rattle.peano_curve.proofs.Ancestors.{rank_bound}
use Rattle.curve_cuts.specs.Cuts.{Cuts, AreCuts, range_of, HasPosition, IsShared}
use Rattle.curve_cuts.specs.Foreign.{StandsOut, IsForeign}
use Rattle.curve_cuts.proofs.Cuts.{position_has_tree, position_has_one_tree, lt_or_le}

-- some adjacent position is foreign
abbrev pub SomeForeign : Cuts → ℕ → VertexKey → Type 0
SomeForeign k t v = (n : ℕ) × (n < corners k.dim) × IsForeign k t v n

foreign_at : (k : Cuts) (t : ℕ) (o : Option CellKey) → IsSomeAnd o (λ c. StandsOut (interval_of k.dim c k.depth) (range_of k t)) → (c : CellKey) × (o ≡ Some c) × StandsOut (interval_of k.dim c k.depth) (range_of k t)
foreign_at k t None h = absurd h
foreign_at k t (Some c) h = (c, refl, h)

module _ (k : Cuts) (t : ℕ) (v : VertexKey) (cuts : AreCuts k) (own : t < k.trees) (vertex : IsVertex k.dim v) (level : v.level ≤ k.depth) where
  -- a position of a cell that is not the tree's
  outside : (c : CellKey) → IsCell k.dim c → c.level ≤ k.depth → (p : ℕ) → (interval_of k.dim c k.depth).lo ≤ p → p < (interval_of k.dim c k.depth).hi → ((p < (range_of k t).lo) ⊎ ((range_of k t).hi ≤ p)) → (s : ℕ) × (s ≢ t) × HasPosition k s p
  outside c cell deep p low high away =
      let whole = interval_within (children k.dim) (rank_of k.dim c) c.level k.depth deep (rank_bound k.dim c.level (at c 0) (at c 1) (at c 2)) in
      let r = position_has_tree k p cuts (omega (arith, whole, high)) in
      (r.0, (λ e. let own : HasPosition k t p = subst (λ s. HasPosition k s p) e r.1 in ⊎_elim (λ l. absurd (omega (arith, l, own.holds.0))) (λ g. absurd (omega (arith, g, own.holds.1))) away), r.1)

  other : (c : CellKey) → IsCell k.dim c → c.level ≤ k.depth → StandsOut (interval_of k.dim c k.depth) (range_of k t) → (p : ℕ) × ((interval_of k.dim c k.depth).lo ≤ p) × (p < (interval_of k.dim c k.depth).hi) × ((s : ℕ) × (s ≢ t) × HasPosition k s p)
  other c cell deep l =
      let wide = width_positive k.dim (k.depth - c.level) in
      let lo : ℕ = (interval_of k.dim c k.depth).lo in
      let hi : ℕ = (interval_of k.dim c k.depth).hi in
      ⊎_elim
      (λ below. (lo, omega arith, omega (arith, wide), outside c cell deep lo (omega arith) (omega (arith, wide)) (inl below)))
      (λ above. (hi - 1, omega (arith, wide), omega (arith, wide), outside c cell deep (hi - 1) (omega (arith, wide)) (omega (arith, wide)) (inr (omega (arith, above)))))
      l

  pub shared_from_foreign : SomeForeign k t v → IsShared k t v
  shared_from_foreign f =
      let a = foreign_at k t (adjacent_of k.dim v f.0) f.2 in
      let c : CellKey = a.0 in
      let stands = (touching_cells k.dim v c vertex).1 (f.0, f.1, a.1) in
      let deep : c.level ≤ k.depth = omega (arith, stands.1.level, level) in
      let o = other c stands.0 deep a.2 in
      record { other = o.3.0; apart = o.3.1; corner = record { tree = o.3.2.tree; cell = c; inside = stands.0; touches = stands.1; held = (o.0, (o.1, o.2), o.3.2.holds) } }

  pub foreign_from_shared : IsShared k t v → SomeForeign k t v
  foreign_from_shared h =
      let c : CellKey = h.corner.cell in
      let at = (touching_cells k.dim v c vertex).0 (h.corner.inside, h.corner.touches) in
      let p : ℕ = h.corner.held.0 in
      let there : HasPosition k h.other p = record { tree = h.corner.tree; holds = h.corner.held.2 } in
      let out : StandsOut (interval_of k.dim c k.depth) (range_of k t) = ⊎_elim
      (λ below. inl (omega (arith, below, h.corner.held.1.0)))
      (λ low. ⊎_elim
      (λ inside. absurd (h.apart (position_has_one_tree k h.other t p cuts there (record { tree = own; holds = (low, inside) }))))
      (λ above. inr (omega (arith, above, h.corner.held.1.1)))
      (lt_or_le p (range_of k t).hi))
      (lt_or_le p (range_of k t).lo) in
      (at.0, at.1, subst (λ o. IsSomeAnd o (λ c. StandsOut (interval_of k.dim c k.depth) (range_of k t))) (sym at.2) out)
