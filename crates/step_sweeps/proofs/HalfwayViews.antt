-- What the views of a secondary sweep show at each of its moments.
use Rattle.std.proofs.Common.{◌≡◌, ℕ, ◌<◌, ◌||◌, Bool, true, false, refl, ap, sym, ◌∙◌, subst}
use Rattle.std.proofs.lemmas.Bool.{false≢true}
use Rattle.peano_keys.specs.declared.cell.CellKey.{CellKey}
use Rattle.peano_keys.specs.declared.vertex.VertexKey.{VertexKey}
use Rattle.peano_keys.specs.declared.state.State.{State}
use Rattle.peano_keys.specs.Dim.{corners}
use Rattle.peano_keys.specs.Cell.{IsCell}
use Rattle.peano_keys.specs.Vertex.{corner_of, home_of, slot_from}
use Rattle.peano_keys.specs.Grid.{Spacetree, IsStored, has_cell}
use Rattle.peano_keys.specs.Field.{States}
use Rattle.peano_keys.proofs.Anchors.{home_is_stored}
use Rattle.peano_curve.specs.declared.order.Direction.{Direction}
use Rattle.peano_records.specs.declared.stored.Stored.{Stored}
use Rattle.peano_records.specs.declared.view.Corner.{Corner}
use Rattle.peano_records.specs.declared.view.Corner.TheVariants.{Vertex, Hanging, Beyond}
use Rattle.peano_records.specs.declared.view.CellView.{CellView}
use Rattle.peano_records.specs.Slots.{slot_at, fresh}
use Rattle.peano_records.specs.AtRest.{SaysOfCells}
use Rattle.peano_records.specs.Tells.{corner_at}
use Rattle.curve_cuts.specs.Cuts.{Cuts, IsCutGrid, range_of}
use Rattle.adapt_marks.specs.Views.{ShowsMarks}
use Rattle.sweep_visits.specs.Plan.{IsSweepPlan, is_kept, is_stored_in}
use Rattle.tree_automaton.specs.declared.kinds.Serves.TheVariants.{Plain}
use Rattle.tree_automaton.specs.Sweep.{TreeSweep}
use Rattle.tree_automaton.specs.Promises.{Keeps, SameCorner}
use Rattle.tree_automaton.specs.Views.{CornerFits, ViewFits}
use Rattle.tree_automaton.specs.AtRest.{plain_plan}
use Rattle.step_phases.specs.Change.{Change}
use Rattle.step_phases.specs.Moments.{InSecondary, CornerSays}
use Rattle.step_phases.proofs.Moments.{secondary_views_show}
use Rattle.step_phases.proofs.Homes.{home_below}
use Rattle.swept_slots.specs.Changes.{ChangesOneCell}
use Rattle.swept_slots.proofs.Given.{EachVertex}
use Rattle.step_sweeps.specs.Secondaries.{next_in, next_at_home}
use Rattle.step_sweeps.proofs.HalfwaySlots.{Halfway, Works, changed_says}

-- a sweep of one of the trees of some cuts over a grid and a field, which changes neither
abbrev pub plain_sweep : Cuts → ℕ → Direction → Spacetree → States → ℕ → (CellKey → ℕ) → TreeSweep
plain_sweep k t dir g f number task = record { serves = Plain; plan = plain_plan k.depth (range_of k t) dir g; tree = number; field = f; task = task }

pub plain_is_plan : (k : Cuts) (t : ℕ) (dir : Direction) (g : Spacetree) → IsCutGrid k g → IsSweepPlan (plain_plan k.depth (range_of k t) dir g)
plain_is_plan k t dir g fits = record { depth = fits.deepest; old = (fits.grid, refl); new = fits.grid }

-- a record of a vertex that the grid stores, at a moment of a secondary sweep
pub record IsKnown (k : Cuts) (w : Change) (s : Stored) : Type 0 where
  pub stored : IsStored w.old s.key
  pub says : SaysOfCells w.old.dim s (Halfway k w)

-- such a sweep makes no vertex
not_made : (b : Bool) → (b || b) ≡ true → b ≡ false → ⊥
not_made true e none = false≢true (sym none)
not_made false e none = false≢true e

module _ (k : Cuts) (w : Change) (t : ℕ) (dir : Direction) (f : States) (number : ℕ) (task : CellKey → ℕ) where
  abbrev p : TreeSweep
  p = plain_sweep k t dir w.old f number task

  pub none_new : (v : VertexKey) → is_kept p.plan v ≡ true → is_stored_in p.plan.old v ≡ false → IsKnown k w (fresh w.old.dim v)
  none_new v kept none = absurd (not_made (is_stored_in p.plan.old v) kept none)

  module _ (c : CellKey) (v u : CellView) (fits : ViewFits p c v) (keeps : Keeps v u) (cell : IsCell w.old.dim c) where
    same_beyond : (y : Corner) → SameCorner Beyond y → y ≡ Beyond
    same_beyond (Vertex s) h = absurd h
    same_beyond (Hanging q) h = absurd h
    same_beyond Beyond h = refl

    corner_says : (n : ℕ) → n < corners w.old.dim → EachVertex p (IsKnown k w) u → (x y : Corner) → corner_at u n ≡ y → SameCorner x y → CornerFits p (corner_of c n) x → CornerSays w.old (InSecondary w) (corner_of c n) y
    corner_says n below each (Vertex s) (Vertex r) e same h = let known = each n r below e in (same.0 ∙ h.0, subst (IsStored w.old) (same.0 ∙ h.0) known.stored, λ j q inside at. (known.says j q inside at).shows)
    corner_says n below each (Vertex s) (Hanging b) e same h = absurd same
    corner_says n below each (Vertex s) Beyond e same h = absurd same
    corner_says n below each (Hanging a) (Vertex r) e same h = absurd same
    corner_says n below each (Hanging a) (Hanging b) e same h = (same ∙ h.0, h.2)
    corner_says n below each (Hanging a) Beyond e same h = absurd same
    corner_says n below each Beyond y e same h = absurd h

    -- a view whose records are known shows the grid and the marks
    pub shows_marks : EachVertex p (IsKnown k w) u → ShowsMarks w.old w.mark u
    shows_marks each = secondary_views_show w u (record {
      cell = subst (IsCell w.old.dim) (sym key) cell;
      corner = λ n below. subst (λ q. CornerSays w.old (InSecondary w) (corner_of q n) (corner_at u n)) (sym key) (corner_says n below each (corner_at v n) (corner_at u n) refl (keeps.corners_stay n) (fits.each n below));
      beyond = λ n past high. same_beyond (corner_at u n) (subst (λ x. SameCorner x (corner_at u n)) (fits.view.beyond n past) (keeps.corners_stay n));
    })
      where
        key : u.key ≡ c
        key = keeps.key ∙ fits.view.key

    -- a call that works in the slots of its cell leaves known records
    pub works_leave : (leaving : Bool) → EachVertex p (IsKnown k w) v → ((n : ℕ) (s r : Stored) → n < corners w.old.dim → corner_at v n ≡ Vertex s → corner_at u n ≡ Vertex r → ChangesOneCell w.old.dim c (Works k w t leaving c) s r) → EachVertex p (IsKnown k w) u
    works_leave leaving each works n r below to = by (corner_at v n) refl (subst (SameCorner (corner_at v n)) to (keeps.corners_stay n))
      where
        by : (x : Corner) → corner_at v n ≡ x → SameCorner x (Vertex r) → IsKnown k w r
        by (Vertex s) at same =
            let known = each n s below at in
            record {
              stored = subst (IsStored w.old) (sym same.0) known.stored;
              says = changed_says w.old.dim c (Halfway k w) (Works k w t leaving c) s r (works n s r below at to) same.0 known.says (λ x y half work. (work half).0);
            }
        by (Hanging q) at same = absurd same
        by Beyond at same = absurd same

    -- what holds of the cell's slot at the home corner holds of the new value there
    pub next_from_home : has_cell w.old c ≡ true → (P : State → Type 0) → ((s r : Stored) → corner_at v (home_of w.old.dim c) ≡ Vertex s → corner_at u (home_of w.old.dim c) ≡ Vertex r → P (slot_at r (slot_from w.old.dim (home_of w.old.dim c))).next) → P (next_at_home w.old.dim u)
    next_from_home there P each = subst P (sym at_cell) (by (corner_at v home) (corner_at u home) refl refl (keeps.corners_stay home) (fits.each home (home_below w.old.dim c)))
      where
        home : ℕ
        home = home_of w.old.dim c

        at_cell : next_at_home w.old.dim u ≡ next_in w.old.dim home (corner_at u home)
        at_cell = ap (λ q. next_in w.old.dim (home_of w.old.dim q) (corner_at u (home_of w.old.dim q))) (keeps.key ∙ fits.view.key)

        by : (x y : Corner) → corner_at v home ≡ x → corner_at u home ≡ y → SameCorner x y → CornerFits p (corner_of c home) x → P (next_in w.old.dim home y)
        by (Vertex s) (Vertex r) at to same h = each s r at to
        by (Vertex s) (Hanging b) at to same h = absurd same
        by (Vertex s) Beyond at to same h = absurd same
        by (Hanging a) y at to same h = absurd (h.1 (home_is_stored w.old c cell there))
        by Beyond y at to same h = absurd h
