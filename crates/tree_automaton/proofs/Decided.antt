-- What the parent's view and the curve tell of a corner.
use Rattle.std.proofs.Common.{◌≡◌, ◌↔◌, ◌⊎◌, ℕ, ◌-◌, ◌<◌, ◌≤◌, Bool, true, false, Option, Some, None, refl, ap, sym, ◌∙◌, subst, arith, ⊎_elim, inl, inr, eq-eqb, ne_eqb}
use Rattle.std.specs.Prelude.{◌||◌}
use Rattle.std.proofs.lemmas.Bool.{cases_eq, cases_Bool, false≢true}
use Rattle.peano_keys.specs.declared.dim.Dim.{Dim}
use Rattle.peano_keys.specs.declared.dim.Dim.TheVariants.{Two, Three}
use Rattle.peano_keys.specs.declared.cell.CellKey.{CellKey}
use Rattle.peano_keys.specs.declared.vertex.VertexKey.{VertexKey}
use Rattle.peano_keys.specs.Dim.{corners}
use Rattle.peano_keys.specs.Cell.{IsCell, parent_of}
use Rattle.peano_keys.specs.Vertex.{IsVertex, bit_of, corner_of}
use Rattle.peano_keys.specs.Grid.{Spacetree, IsGrid, IsStored, has_cell, is_refined}
use Rattle.peano_records.specs.declared.view.CellView.{CellView}
use Rattle.peano_records.specs.declared.view.Corner.{Corner}
use Rattle.peano_records.specs.declared.view.Corner.TheVariants.{Vertex, Hanging, Beyond}
use Rattle.peano_records.specs.Slots.{VertexRecord}
use Rattle.peano_records.specs.Tells.{corner_at}
use Rattle.hanging_nodes.specs.Views.{AreGrids, AreOldAndNew, HasSlots, IsShown, Shows, IsStoredBefore, IsStoredIn}
use Rattle.sweep_visits.specs.Plan.{IsSweepPlan, IsOldGrid, dim_of, is_cell_in, is_held, is_visited, is_stored, is_stored_in}
use Rattle.sweep_visits.proofs.Tests.{stored_told}
use Rattle.tree_automaton.specs.declared.kinds.Serves.{Serves}
use Rattle.tree_automaton.specs.declared.kinds.Serves.TheVariants.{Raising, Adapting, Plain}
use Rattle.tree_automaton.specs.declared.decide.Course.{Course}
use Rattle.tree_automaton.specs.Sweep.{TreeSweep, IsTreeSweep, GridsServe, tells_new}
use Rattle.tree_automaton.specs.Views.{CornerFits, ViewFits}
use Rattle.tree_automaton.specs.Decisions.{Decides}
use Rattle.tree_automaton.proofs.Stored.{and_second, stored_as}

-- slots that tell both grids tell the old one
slots_less : (dim : Dim) (t new : Spacetree) (after : Bool) (w : VertexKey) (s : VertexRecord) → HasSlots dim (Some t) new after w s → HasSlots dim (Some t) new false w s
slots_less dim t new after w s h = (
  h.0,
  (λ stored n q below here. let o = h.1 stored n q below here in record {
    split = o.split;
    merge = o.merge;
    stay = o.stay;
    splits = λ e. absurd (false≢true e);
    merges = λ e. absurd (false≢true e);
  }),
  h.2,
)

module _ (p : TreeSweep) where
  shown_corner : (w : VertexKey) (k : Corner) → CornerFits p w k → IsShown (dim_of p.plan) p.plan.old p.plan.new (tells_new p.serves) w k
  shown_corner w (Vertex s) fits = (fits.0, subst (λ v. HasSlots (dim_of p.plan) p.plan.old p.plan.new (tells_new p.serves) v s) fits.0 fits.1.slots)
  shown_corner w (Hanging k) fits = fits
  shown_corner w Beyond fits = fits

  -- a view that fits shows the grids
  pub shows : (c : CellKey) (v : CellView) → ViewFits p c v → Shows (dim_of p.plan) p.plan.old p.plan.new (tells_new p.serves) v
  shows c v fits n below = shown_corner (corner_of v.key n) (corner_at v n) (subst (λ k. CornerFits p (corner_of k n) (corner_at v n)) (sym fits.view.key) (fits.each n below))

shown_less : (dim : Dim) (o : Option Spacetree) (t new : Spacetree) (after : Bool) (w : VertexKey) (k : Corner) → o ≡ Some t → IsShown dim o new after w k → IsShown dim o new false w k
shown_less dim None t new after w k e h = cc
shown_less dim (Some u) t new after w (Vertex s) e h = (h.0, slots_less dim u new after w s h.1)
shown_less dim (Some u) t new after w (Hanging l) e h = h
shown_less dim (Some u) t new after w Beyond e h = h

grids_less : (depth : ℕ) (dim : Dim) (o : Option Spacetree) (t new : Spacetree) (after : Bool) → o ≡ Some t → AreGrids depth dim o new after → AreGrids depth dim o new false
grids_less depth dim None t new after e h = cc
grids_less depth dim (Some u) t new after e h = h

grids_some : (depth : ℕ) (dim : Dim) (o : Option Spacetree) (t new : Spacetree) (after : Bool) → o ≡ Some t → AreGrids depth dim o new after → AreOldAndNew depth dim t new
grids_some depth dim o t new after e h = subst (λ x. AreGrids depth dim x new after) e h

-- the old grid, where there is one
pub old_of : (p : TreeSweep) (serves : Serves) → p.serves ≡ serves → (serves ≡ Raising → ⊥) → GridsServe p.serves p.plan → (t : Spacetree) × (p.plan.old ≡ Some t)
old_of p serves is not grids = by (λ e. not (sym is ∙ e)) p.serves refl grids
  where
    by : (p.serves ≡ Raising → ⊥) → (s : Serves) → p.serves ≡ s → GridsServe s p.plan → (t : Spacetree) × (p.plan.old ≡ Some t)
    by not Raising e g = absurd (not e)
    by not Adapting e g = g
    by not Plain e g = (p.plan.new, g)

pub has_level : (depth : ℕ) (t : Spacetree) (c : CellKey) → IsGrid depth t → has_cell t c ≡ true → c.level ≤ depth
has_level depth t c grid has = ⊎_elim
    (λ zero. omega (arith, zero))
    (λ other. let r : is_refined t (parent_of c) ≡ true = subst (λ b. (b || is_refined t (parent_of c)) ≡ true) (ne_eqb c.level 0 other) has in let l : c.level - 1 < depth = grid.levels (parent_of c) r in omega (arith, l))
    (cases_eq c.level 0)

-- the old grid is a grid of the plan's dimension and depth
pub old_grid : (p : TreeSweep) (t : Spacetree) → IsTreeSweep p → p.plan.old ≡ Some t → AreOldAndNew p.plan.depth (dim_of p.plan) t p.plan.new
old_grid p t plan e = grids_some p.plan.depth (dim_of p.plan) p.plan.old t p.plan.new (tells_new p.serves) e plan.grids

level_in : (p : TreeSweep) (c : CellKey) (o : Option Spacetree) → p.plan.old ≡ o → IsTreeSweep p → is_cell_in o c ≡ true → c.level ≤ p.plan.depth
level_in p c None e plan has = absurd (false≢true has)
level_in p c (Some t) e plan has = has_level p.plan.depth t c (old_grid p t plan e).grid has

-- a cell of one of the grids lies within the depth
pub level_there : (p : TreeSweep) (c : CellKey) → IsTreeSweep p → (is_cell_in p.plan.old c || has_cell p.plan.new c) ≡ true → c.level ≤ p.plan.depth
level_there p c plan there = ⊎_elim
    (λ old. level_in p c p.plan.old refl plan old)
    (λ not. has_level p.plan.depth p.plan.new c plan.new_grid (subst (λ b. (b || has_cell p.plan.new c) ≡ true) not there))
    (cases_Bool (is_cell_in p.plan.old c))

pub level_within : (p : TreeSweep) (c : CellKey) → IsTreeSweep p → is_visited p.plan c ≡ true → c.level ≤ p.plan.depth
level_within p c plan there = level_there p c plan (and_second (is_held p.plan c) (is_cell_in p.plan.old c || has_cell p.plan.new c) there)

-- a corner of the root is stored in every grid
pub root_stored : (t : Spacetree) (c : CellKey) (n : ℕ) → c.level ≡ 0 → IsStored t (corner_of c n)
root_stored t c n e q cell touches = let z : q.level ≡ 0 = touches.level ∙ e in subst (λ b. (b || is_refined t (parent_of q)) ≡ true) (sym (eq-eqb q.level 0 z)) refl

module _ (p : TreeSweep) (course : Course) (c : CellKey) (n : ℕ) (b : Bool) (vertex : IsVertex course.dim (corner_of c n)) where
  in_dim : (d : Dim) → d ≡ course.dim → IsVertex d (corner_of c n)
  in_dim d e = subst (λ x. IsVertex x (corner_of c n)) (sym e) vertex

  -- storedness in the old grid, from the parent's view
  pub old_told : (view : CellView) → Decides p course (Some view) c → (course.serves ≡ Raising → ⊥) → ((depth : ℕ) (old : Option Spacetree) (new : Spacetree) → AreGrids depth course.dim old new false → Shows course.dim old new false view → (b ≡ true) ↔ IsStoredIn false old new (corner_of c n)) → b ≡ is_stored_in p.plan.old (corner_of c n)
  old_told view d not told =
      let t = old_of p course.serves d.is.serves not d.sweep.serve in
      let tell = subst (λ x. AreGrids p.plan.depth x p.plan.old p.plan.new false → Shows x p.plan.old p.plan.new false view → (b ≡ true) ↔ IsStoredIn false p.plan.old p.plan.new (corner_of c n)) (sym d.is.dim) (told p.plan.depth p.plan.old p.plan.new) in
      let known = tell (grids_less p.plan.depth (dim_of p.plan) p.plan.old t.0 p.plan.new (tells_new p.serves) t.1 d.sweep.grids) (λ k below. shown_less (dim_of p.plan) p.plan.old t.0 p.plan.new (tells_new p.serves) (corner_of view.key k) (corner_at view k) t.1 (shows p (parent_of c) view d.above.1 k below)) in
      let one : (b ≡ true) ↔ IsStored t.0 (corner_of c n) = subst (λ o. (b ≡ true) ↔ IsStoredIn false o p.plan.new (corner_of c n)) t.1 known in
      stored_as t.0 (corner_of c n) b (in_dim t.0.dim ((old_grid p t.0 d.sweep t.1).old_dim ∙ d.is.dim)) one ∙ ap (λ o. is_stored_in o (corner_of c n)) (sym t.1)

  told_new : (s : Serves) → GridsServe s p.plan → IsStoredIn (tells_new s) p.plan.old p.plan.new (corner_of c n) ↔ IsStored p.plan.new (corner_of c n)
  told_new Raising g = (λ x. x, λ x. x)
  told_new Adapting g = (λ x. x, λ x. x)
  told_new Plain g = (λ x. subst (λ o. IsStoredBefore o (corner_of c n)) g x, λ x. subst (λ o. IsStoredBefore o (corner_of c n)) (sym g) x)

  -- storedness in the new grid, from the parent's view
  pub new_told : (view : CellView) (after : Bool) → after ≡ tells_new course.serves → Decides p course (Some view) c → ((depth : ℕ) (old : Option Spacetree) (new : Spacetree) → AreGrids depth course.dim old new after → Shows course.dim old new after view → (b ≡ true) ↔ IsStoredIn after old new (corner_of c n)) → b ≡ is_stored p.plan.new (corner_of c n)
  new_told view after is d told =
      let same : after ≡ tells_new p.serves = is ∙ ap tells_new (sym d.is.serves) in
      let tell = subst (λ a. AreGrids p.plan.depth (dim_of p.plan) p.plan.old p.plan.new a → Shows (dim_of p.plan) p.plan.old p.plan.new a view → (b ≡ true) ↔ IsStoredIn a p.plan.old p.plan.new (corner_of c n)) same (subst (λ x. AreGrids p.plan.depth x p.plan.old p.plan.new after → Shows x p.plan.old p.plan.new after view → (b ≡ true) ↔ IsStoredIn after p.plan.old p.plan.new (corner_of c n)) (sym d.is.dim) (told p.plan.depth p.plan.old p.plan.new)) in
      let known = tell d.sweep.grids (shows p (parent_of c) view d.above.1) in
      let back = told_new p.serves d.sweep.serve in
      stored_as p.plan.new (corner_of c n) b (in_dim (dim_of p.plan) d.is.dim) (λ e. back.0 (known.0 e), λ stored. known.1 (back.1 stored))

  pub old_at_root : Decides p course None c → (course.serves ≡ Raising → ⊥) → true ≡ is_stored_in p.plan.old (corner_of c n)
  old_at_root d not =
      let t = old_of p course.serves d.is.serves not d.sweep.serve in
      sym (ap (λ o. is_stored_in o (corner_of c n)) t.1 ∙ stored_told t.0 (corner_of c n) (in_dim t.0.dim ((old_grid p t.0 d.sweep t.1).old_dim ∙ d.is.dim)) (root_stored t.0 c n d.above))

  pub new_at_root : Decides p course None c → true ≡ is_stored p.plan.new (corner_of c n)
  new_at_root d = sym (stored_told p.plan.new (corner_of c n) (in_dim (dim_of p.plan) d.is.dim) (root_stored p.plan.new c n d.above))

-- nothing is stored before a raising sweep
pub raising_none : (p : TreeSweep) (course : Course) (parent : Option CellView) (c : CellKey) (v : VertexKey) → Decides p course parent c → course.serves ≡ Raising → false ≡ is_stored_in p.plan.old v
raising_none p course parent c v d e =
    let none : p.plan.old ≡ None = subst (λ s. GridsServe s p.plan) (d.is.serves ∙ e) d.sweep.serve in
    sym (ap (λ o. is_stored_in o v) none)

-- in a plain sweep one grid is asked
pub plain_kept : (p : TreeSweep) (course : Course) (parent : Option CellView) (c : CellKey) (v : VertexKey) (b : Bool) → Decides p course parent c → course.serves ≡ Plain → b ≡ is_stored_in p.plan.old v → b ≡ (is_stored_in p.plan.old v || is_stored p.plan.new v)
plain_kept p course parent c v b d e is =
    let one : p.plan.old ≡ Some p.plan.new = subst (λ s. GridsServe s p.plan) (d.is.serves ∙ e) d.sweep.serve in
    is ∙ (twice (is_stored_in p.plan.old v) ∙ ap (λ x. is_stored_in p.plan.old v || x) (ap (λ o. is_stored_in o v) one))
  where
    twice : (a : Bool) → a ≡ (a || a)
    twice true = refl
    twice false = refl

pub corner_vertex : (dim : Dim) (c : CellKey) (n : ℕ) → IsCell dim c → n < corners dim → IsVertex dim (corner_of c n)
corner_vertex Two c n cell below =
    let a : bit_of n 0 ≤ 1 = omega arith in
    let b : bit_of n 1 ≤ 1 = omega arith in
    let d : bit_of n 2 ≡ 0 = omega arith in
    record { shape = refl; level = cell.level; first = omega (arith, cell.first, a); second = omega (arith, cell.second, b); third = omega (arith, cell.third, d) }
corner_vertex Three c n cell below =
    let a : bit_of n 0 ≤ 1 = omega arith in
    let b : bit_of n 1 ≤ 1 = omega arith in
    let d : bit_of n 2 ≤ 1 = omega arith in
    record { shape = refl; level = cell.level; first = omega (arith, cell.first, a); second = omega (arith, cell.second, b); third = omega (arith, cell.third, d) }

pub not_raising : (s : Serves) → (s ≡ Adapting) ⊎ (s ≡ Plain) → s ≡ Raising → ⊥
not_raising s (inl a) e = adapting (sym a ∙ e)
  where
    adapting : Adapting ≡ Raising → ⊥
    adapting e = cc
not_raising s (inr a) e = plain (sym a ∙ e)
  where
    plain : Plain ≡ Raising → ⊥
    plain e = cc

pub kept_old : (p : TreeSweep) (v : VertexKey) (b : Bool) → b ≡ true → b ≡ is_stored_in p.plan.old v → true ≡ (is_stored_in p.plan.old v || is_stored p.plan.new v)
kept_old p v b t e = ap (λ x. x || is_stored p.plan.new v) (sym t ∙ e)

pub kept_new : (p : TreeSweep) (v : VertexKey) (b x : Bool) → b ≡ false → b ≡ is_stored_in p.plan.old v → x ≡ is_stored p.plan.new v → x ≡ (is_stored_in p.plan.old v || is_stored p.plan.new v)
kept_new p v b x t e is = is ∙ ap (λ y. y || is_stored p.plan.new v) (sym t ∙ e)

-- in a plain sweep a kept corner stays
pub plain_stays : (p : TreeSweep) (course : Course) (parent : Option CellView) (c : CellKey) (v : VertexKey) → Decides p course parent c → course.serves ≡ Plain → (is_stored_in p.plan.old v || is_stored p.plan.new v) ≡ true → true ≡ is_stored p.plan.new v
plain_stays p course parent c v d e kept =
    let one : p.plan.old ≡ Some p.plan.new = subst (λ s. GridsServe s p.plan) (d.is.serves ∙ e) d.sweep.serve in
    sym (once (is_stored p.plan.new v) (subst (λ o. (is_stored_in o v || is_stored p.plan.new v) ≡ true) one kept))
  where
    once : (a : Bool) → (a || a) ≡ true → a ≡ true
    once true h = refl
    once false h = h

old_plan : (p : TreeSweep) (o : Option Spacetree) → p.plan.old ≡ o → IsTreeSweep p → IsOldGrid p.plan.depth (dim_of p.plan) o
old_plan p None e sweep = tt
old_plan p (Some t) e sweep = let g = old_grid p t sweep e in (g.grid, g.old_dim)

-- the plan of a sweep is one
pub sweep_plan : (p : TreeSweep) → IsTreeSweep p → IsSweepPlan p.plan
sweep_plan p sweep = record { depth = sweep.deep; old = old_plan p p.plan.old refl sweep; new = sweep.new_grid }
