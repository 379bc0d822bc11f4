-- The tests of vertices, cells and passings tell them apart.
use Rattle.std.proofs.Common.{◌≡◌, ℕ, ◌==◌, true, List, [], ◌∷◌, refl, eq-eqb, eqb-true}
use Rattle.peano_keys.specs.declared.cell.CellKey.{CellKey}
use Rattle.peano_keys.specs.declared.vertex.VertexKey.{VertexKey}
use Rattle.stack_law.specs.Moments.{TellsApart}
use Rattle.stack_walks.proofs.GivenCorners.{and_true}
use Rattle.sweep_visits.specs.Moves.{Passing, same_coords, same_vertex, same_cell, same_passing}

coords_self : (xs : List ℕ) → same_coords xs xs ≡ true
coords_self [] = refl
coords_self (x ∷ xs) = rw (eq-eqb x x refl, coords_self xs) refl

coords_exact : (xs ys : List ℕ) → same_coords xs ys ≡ true → xs ≡ ys
coords_exact [] [] h = refl
coords_exact [] (y ∷ ys) h = absurd (cc)
coords_exact (x ∷ xs) [] h = absurd (cc)
coords_exact (x ∷ xs) (y ∷ ys) h =
    let f = and_true (x == y) _ h in
    let e = eqb-true x y f.0 in
    let g = coords_exact xs ys f.1 in
    λ i. e i ∷ g i

pub vertices_decided : TellsApart VertexKey same_vertex
vertices_decided = record {
  reflexive = λ v. rw (eq-eqb v.level v.level refl, coords_self v.v) refl;
  exact = λ v w h.
      let f = and_true (v.level == w.level) _ h in
      let e = eqb-true v.level w.level f.0 in
      let g = coords_exact v.v w.v f.1 in
      λ i. record { level = e i; v = g i };
}

pub cells_decided : TellsApart CellKey same_cell
cells_decided = record {
  reflexive = λ c. rw (eq-eqb c.level c.level refl, coords_self c.x) refl;
  exact = λ c q h.
      let f = and_true (c.level == q.level) _ h in
      let e = eqb-true c.level q.level f.0 in
      let g = coords_exact c.x q.x f.1 in
      λ i. record { level = e i; x = g i };
}

pub passings_decided : TellsApart Passing same_passing
passings_decided = record {
  reflexive = λ x. rw (vertices_decided.reflexive x.vertex, cells_decided.reflexive x.cell) refl;
  exact = λ x y h.
      let f = and_true (same_vertex x.vertex y.vertex) _ h in
      let e = vertices_decided.exact x.vertex y.vertex f.0 in
      let g = cells_decided.exact x.cell y.cell f.1 in
      λ i. record { vertex = e i; cell = g i };
}
