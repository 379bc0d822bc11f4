-- What the views of a sweep that changes no grid show of its grid and its field.
use Rattle.std.proofs.Common.{◌≡◌, ℕ, ◌↔◌, ◌&&◌, ◌||◌, Bool, true, false, Option, Some, None, if◌then◌else◌, refl, ap, sym, ◌∙◌, subst, ⊎_elim}
use Rattle.std.specs.Prelude.{not, IsTrue, IsFalse}
use Rattle.std.proofs.lemmas.Bool.{false≢true}
use Rattle.peano_keys.specs.declared.cell.CellKey.{CellKey}
use Rattle.peano_keys.specs.declared.vertex.VertexKey.{VertexKey}
use Rattle.peano_keys.specs.Cell.{IsCell}
use Rattle.peano_keys.specs.Vertex.{adjacent_of, corner_of, home_of, slot_from}
use Rattle.peano_keys.specs.Grid.{Spacetree, has_cell, is_refined, is_leaf}
use Rattle.peano_keys.specs.Field.{value_of}
use Rattle.peano_keys.proofs.Anchors.{home_is_stored}
use Rattle.peano_records.specs.declared.view.Corner.{Corner}
use Rattle.peano_records.specs.declared.view.Corner.TheVariants.{Vertex, Hanging, Beyond}
use Rattle.peano_records.specs.declared.view.CellView.{CellView}
use Rattle.peano_records.specs.Tells.{corner_at}
use Rattle.hanging_nodes.specs.Views.{IsStoredBefore, Shows}
use Rattle.curve_cuts.specs.Cuts.{Cuts}
use Rattle.curve_cuts.specs.Enclave.{OwnsLeaf, IsEnclave, IsSkeleton}
use Rattle.sweep_visits.specs.Plan.{is_cell_in}
use Rattle.tree_automaton.specs.declared.kinds.Serves.TheVariants.{Plain}
use Rattle.tree_automaton.specs.Sweep.{TreeSweep, flag_in, tells_new}
use Rattle.tree_automaton.specs.Views.{CornerFits, CornerGiven, HasValues, ViewFits, ViewGiven, value_in, value_at_home}
use Rattle.tree_automaton.proofs.Decided.{shows}
use Rattle.step_phases.proofs.Homes.{home_below, home_stands, slot_below}
use Rattle.step_sweeps.specs.Enclaves.{DecidesEnclave}

both_true : (a b : Bool) → (a && b) ≡ true → (a ≡ true) × (b ≡ true)
both_true true b e = (refl, e)
both_true false b e = absurd (false≢true e)

not_true : (b : Bool) → not b ≡ true → b ≡ false
not_true false e = refl
not_true true e = absurd (false≢true e)

flag_says : (g : Spacetree) (c : CellKey) (there refined : Bool) → has_cell g c ≡ there → is_refined g c ≡ refined → flag_in (Some g) c ≡ (if there then Some refined else None)
flag_says g c there refined a b = ap (λ x. if x then Some (is_refined g c) else None) a ∙ ap (λ x. if there then Some x else None) b

leaf_shown_by : (there refined : Bool) → (if there then Some refined else None) ≡ Some false → (there && not refined) ≡ true
leaf_shown_by true false e = refl
leaf_shown_by true true e = absurd (cc)
leaf_shown_by false refined e = absurd (cc)

refined_shown_by : (there refined : Bool) → (if there then Some refined else None) ≡ Some true → refined ≡ true
refined_shown_by true true e = refl
refined_shown_by true false e = absurd (cc)
refined_shown_by false refined e = absurd (cc)

-- a cell of the old or the new grid is one of the grid, where both are one
pub there_in : (old : Option Spacetree) (new : Spacetree) (c : CellKey) → old ≡ Some new → (is_cell_in old c || has_cell new c) ≡ true → has_cell new c ≡ true
there_in old new c one h = twice (has_cell new c) (subst (λ o. (is_cell_in o c || has_cell new c) ≡ true) one h)
  where
    twice : (b : Bool) → (b || b) ≡ true → b ≡ true
    twice true e = e
    twice false e = e

module _ (p : TreeSweep) (serves : p.serves ≡ Plain) (one : p.plan.old ≡ Some p.plan.new) where
  abbrev g : Spacetree
  g = p.plan.new

  -- no vertex is made, so each corner fits
  fits_here : (w : VertexKey) (k : Corner) → CornerGiven p w k → CornerFits p w k
  fits_here w (Vertex s) h = (h.0, ⊎_elim (λ fits. fits) (λ made. absurd (made.first (subst (λ o. IsStoredBefore o w) (sym one) made.stored))) h.1)
  fits_here w (Hanging k) h = h
  fits_here w Beyond h = h

  pub view_fits : (c : CellKey) (v : CellView) → ViewGiven p c v → ViewFits p c v
  view_fits c v given = record { view = given.view; each = λ n below. fits_here (corner_of c n) (corner_at v n) (given.each n below) }

  module _ (c : CellKey) (v : CellView) (fits : ViewFits p c v) where
    was_is : v.was ≡ flag_in (Some g) c
    was_is = subst (λ o. v.was ≡ flag_in o c) one fits.view.was

    -- a leaf's view says so
    pub leaf_shown : v.was ≡ Some false → is_leaf g c ≡ true
    leaf_shown e = leaf_shown_by (has_cell g c) (is_refined g c) (sym was_is ∙ e)

    pub leaf_seen : is_leaf g c ≡ true → v.was ≡ Some false
    leaf_seen leaf = let h = both_true (has_cell g c) (not (is_refined g c)) leaf in was_is ∙ flag_says g c true false h.0 (not_true (is_refined g c) h.1)

    pub refined_seen : has_cell g c ≡ true → is_refined g c ≡ true → v.was ≡ Some true
    refined_seen there refined = was_is ∙ flag_says g c true true there refined

    pub refined_shown : v.was ≡ Some true → is_refined g c ≡ true
    refined_shown e = refined_shown_by (has_cell g c) (is_refined g c) (sym was_is ∙ e)

    -- and has the cell's value at the home corner
    pub home_shows : IsCell g.dim c → has_cell g c ≡ true → value_at_home g.dim v ≡ value_of g p.field c
    home_shows cell there = ap (λ k. value_in g.dim (home_of g.dim k) (corner_at v (home_of g.dim k))) fits.view.key ∙ by (corner_at v (home_of g.dim c)) (fits.each (home_of g.dim c) (home_below g.dim c))
      where
        by : (k : Corner) → CornerFits p (corner_of c (home_of g.dim c)) k → value_in g.dim (home_of g.dim c) k ≡ value_of g p.field c
        by (Vertex s) h =
            let values = subst (λ x. HasValues x p s) serves h.1.values in
            (values (slot_from g.dim (home_of g.dim c)) c (slot_below g.dim (home_of g.dim c)) (subst (λ w. adjacent_of g.dim w (slot_from g.dim (home_of g.dim c)) ≡ Some c) (sym h.0) (home_stands g.dim c cell))).value
        by (Hanging k) h = absurd (h.1 (subst (λ o. IsStoredBefore o (corner_of c (home_of g.dim c))) (sym one) (home_is_stored g c cell there)))
        by Beyond h = absurd h

    -- it shows the grid
    pub shows_grid : Shows g.dim (Some g) g false v
    shows_grid = subst (λ s. Shows g.dim (Some g) g (tells_new s) v) serves (subst (λ o. Shows g.dim o g (tells_new p.serves) v) one (shows p c v fits))

    -- so that of a leaf of a tree decides whether the leaf is an enclave
    module _ (k : Cuts) (t : ℕ) (dim : g.dim ≡ k.dim) (owns : OwnsLeaf k g t c) (b : Bool) (decides : DecidesEnclave k t v b) where
      told : Shows k.dim (Some g) g false v
      told = subst (λ d. Shows d (Some g) g false v) dim shows_grid

      by_key : OwnsLeaf k g t v.key
      by_key = subst (OwnsLeaf k g t) (sym fits.view.key) owns

      pub decides_enclave : IsTrue b ↔ IsEnclave k g t c
      decides_enclave = subst (λ q. IsTrue b ↔ IsEnclave k g t q) fits.view.key (decides.enclave g dim told by_key)

      pub decides_skeleton : IsFalse b ↔ IsSkeleton k g t c
      decides_skeleton = subst (λ q. IsFalse b ↔ IsSkeleton k g t q) fits.view.key (decides.skeleton g dim told by_key)
