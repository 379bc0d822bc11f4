-- What lists of a tree's cells and vertices tell of its traffic.
use Rattle.std.proofs.Common.{◌≡◌, ◌↔◌, ℕ, ◌<◌, ◌||◌, List, [], ◌∷◌, Some, length, refl, ap, sym, subst}
use Rattle.std.specs.Prelude.{flat_map}
use Rattle.stack_law.specs.Once.{IsIn}
use Rattle.stack_law.specs.Stack.{AreDistinct}
use Rattle.stack_law.proofs.Distinct.{not_in}
use Rattle.sweep_streams.proofs.Lists.{same_length}
use Rattle.sweep_streams.proofs.Pushes.{streams_are_stored}
use Rattle.sweep_streams.specs.Counts.{ListsVertices, IsHeldVertex}
use Rattle.sweep_streams.specs.Records.{ListsCells, in_grids, entered_at, left_at}
use Rattle.sweep_streams.proofs.Records.{each_held_cell_once}
use Rattle.peano_keys.specs.declared.cell.CellKey.{CellKey}
use Rattle.peano_keys.specs.declared.vertex.VertexKey.{VertexKey}
use Rattle.peano_keys.specs.Dim.{corners}
use Rattle.peano_keys.specs.Cell.{IsCell}
use Rattle.peano_keys.specs.Vertex.{IsVertex, corner_of}
use Rattle.peano_keys.specs.Grid.{Spacetree}
use Rattle.peano_curve.specs.declared.order.Direction.{Direction}
use Rattle.peano_curve.specs.Run.{HoldsCell}
use Rattle.curve_cuts.specs.Cuts.{Cuts, HasVertex, IsCutGrid, range_of}
use Rattle.curve_cuts.specs.Enclave.{OwnsLeaf}
use Rattle.curve_cuts.proofs.Cuts.{owner_holds}
use Rattle.spacetree.proofs.Leaves.{leaf_there}
use Rattle.sweep_visits.specs.Plan.{SweepPlan, IsSweepPlan, is_stored}
use Rattle.sweep_visits.specs.Moves.{moves_of, taken_by, put_by, same_vertex}
use Rattle.sweep_visits.specs.Visits.{visits_of}
use Rattle.sweep_visits.proofs.Same.{vertices_decided}
use Rattle.sweep_visits.proofs.Tests.{held_tells, held_told, stored_tells, stored_told}
use Rattle.sweep_visits.proofs.Ways.{corners_have_runs}
use Rattle.tree_automaton.specs.AtRest.{plain_plan}
use Rattle.step_sweeps.proofs.HalfwayViews.{plain_is_plan}
use Rattle.step_sweeps.proofs.Plain.{there_in}
use Rattle.showing_sweep.specs.Counts.{AreSoMany, ListsAll, NoneTwice}
use Rattle.showing_sweep.specs.Sent.{IsPairOf}
use Rattle.showing_sweep.specs.Shown.{HasHanging, HoldsCellOf, IsHadToo}
use Rattle.showing_sweep.proofs.Found.{all_at, all_found, distinct_cells}
use Rattle.showing_sweep.proofs.Hanging.{HangsAt, cell_of, hanging_at, hanging_found}

distinct_vertices : (vs : List VertexKey) → AreDistinct same_vertex vs → NoneTwice vs
distinct_vertices [] d = tt
distinct_vertices (v ∷ vs) d = (not_in VertexKey same_vertex vertices_decided.reflexive vertices_decided.exact v vs d.0, distinct_vertices vs d.1)

-- the same things, told in other words
pub told_else : {A : Type 0} (P Q : A → Type 0) (n : ℕ) → ((x : A) → P x ↔ Q x) → AreSoMany P n → AreSoMany Q n
told_else P Q n is many = record {
  things = many.things;
  lists = record { once = many.lists.once; members = λ x. ((λ h. (is x).0 ((many.lists.members x).0 h)), (λ h. (many.lists.members x).1 ((is x).1 h))) };
  count = many.count;
}

module _ (k : Cuts) (t : ℕ) (dir : Direction) (g : Spacetree) (fits : IsCutGrid k g) (tree : t < k.trees) where
  abbrev pub plan : SweepPlan
  plan = plain_plan k.depth (range_of k t) dir g

  is_plan : IsSweepPlan plan
  is_plan = plain_is_plan k t dir g fits

  abbrev pub left : List CellKey
  left = flat_map left_at (visits_of plan)

  lists : ListsCells plan (in_grids plan) left
  lists = (each_held_cell_once plan is_plan).1

  -- the cells that are left are those that the tree holds
  pub holds : (c : CellKey) → IsIn c left → HoldsCellOf k g t c
  holds c h =
      let held = (lists.members c).0 h in
      record {
        cell = subst (λ d. IsCell d c) fits.dim held.cell;
        there = there_in (Some g) g c refl held.passes;
        held = subst (λ d. HoldsCell d k.depth (range_of k t) c) fits.dim (held_tells plan c held.held);
      }

  pub is_left : (c : CellKey) → HoldsCellOf k g t c → IsIn c left
  is_left c h = (lists.members c).1 (record {
    cell = subst (λ d. IsCell d c) (sym fits.dim) h.cell;
    held = held_told plan c (subst (λ d. HoldsCell d k.depth (range_of k t) c) (sym fits.dim) h.held);
    passes = ap (λ b. b || b) h.there;
  })

  -- a corner of such a cell is a vertex
  pub corner_vertex : (c : CellKey) (n : ℕ) → HoldsCellOf k g t c → n < corners g.dim → IsVertex g.dim (corner_of c n)
  corner_vertex c n h below = let held = (lists.members c).0 (is_left c h) in (corners_have_runs plan c n held.cell held.held below).0

  -- none is left twice
  pub left_once : NoneTwice left
  left_once = distinct_cells left lists.distinct

  pub cells_many : AreSoMany (HoldsCellOf k g t) (length left)
  cells_many = record { things = left; lists = record { once = left_once; members = λ c. (holds c, is_left c) }; count = refl }

  -- a leaf that the tree owns is one of them
  pub own_left : (c : CellKey) → OwnsLeaf k g t c → IsIn c left
  own_left c owned = is_left c (record { cell = owned.cell; there = leaf_there g c (record { cell = subst (λ d. IsCell d c) (sym fits.dim) owned.cell; leaf = owned.leaf }); held = owner_holds k t c owned.owns })

  -- and it is entered
  pub own_entered : (c : CellKey) → OwnsLeaf k g t c → IsIn c (flat_map entered_at (visits_of plan))
  own_entered c owned = ((each_held_cell_once plan is_plan).0.members c).1 ((lists.members c).0 (own_left c owned))

  -- the corners that hang
  pub hanging_many : AreSoMany (HasHanging k g t) (length (flat_map (hanging_at g) left))
  hanging_many = record {
    things = flat_map (hanging_at g) left;
    lists = all_found (cell_of g) (HangsAt g) (HasHanging k g t) left (flat_map (hanging_at g) left)
        (all_at (cell_of g) (HangsAt g) (hanging_at g) left (distinct_cells left lists.distinct) (λ c h.
        let held = (lists.members c).0 h in
        hanging_found g c held.cell (there_in (Some g) g c refl held.passes) (λ n below. (corners_have_runs plan c n held.cell held.held below).0)))
        (λ x. (
          (λ h. record { holds = holds x.0 h.0; corner = subst (λ d. x.1 < corners d) fits.dim h.1.0; hangs = h.1.1 }),
          (λ h. (is_left x.0 h.holds, (subst (λ d. x.1 < corners d) (sym fits.dim) h.corner, h.hangs))),
        ));
    count = refl;
  }

  -- the vertices that a sweep takes, and those that it puts, are those that the tree has
  vertices_listed : (vs : List VertexKey) → ListsVertices plan (is_stored g) vs → ListsAll (HasVertex k g t) vs
  vertices_listed vs of = record { once = distinct_vertices vs of.distinct; members = λ v. ((λ h. has v ((of.members v).0 h)), (λ h. (of.members v).1 (held v h))) }
    where
      has : (v : VertexKey) → IsHeldVertex plan (is_stored g) v → HasVertex k g t v
      has v h = record {
        vertex = subst (λ d. IsVertex d v) fits.dim h.vertex;
        stored = stored_tells g v h.passes;
        corner = record {
          tree = tree;
          cell = h.held.0;
          inside = subst (λ d. IsCell d h.held.0) fits.dim h.held.1.cell;
          touches = h.held.1.touches;
          held = subst (λ d. HoldsCell d k.depth (range_of k t) h.held.0) fits.dim h.held.1.held;
        };
      }

      held : (v : VertexKey) → HasVertex k g t v → IsHeldVertex plan (is_stored g) v
      held v h =
          let vertex : IsVertex g.dim v = subst (λ d. IsVertex d v) (sym fits.dim) h.vertex in
          record {
            vertex = vertex;
            passes = stored_told g v vertex h.stored;
            held = (
              h.corner.cell,
              record {
                cell = subst (λ d. IsCell d h.corner.cell) (sym fits.dim) h.corner.inside;
                touches = h.corner.touches;
                held = subst (λ d. HoldsCell d k.depth (range_of k t) h.corner.cell) (sym fits.dim) h.corner.held;
              },
            );
          }

  pub put_many : AreSoMany (HasVertex k g t) (length (put_by (moves_of plan)))
  put_many = record { things = put_by (moves_of plan); lists = vertices_listed (put_by (moves_of plan)) (streams_are_stored plan is_plan).1; count = refl }

  pub taken_listed : ListsAll (HasVertex k g t) (taken_by (moves_of plan))
  taken_listed = vertices_listed (taken_by (moves_of plan)) (streams_are_stored plan is_plan).0

  -- so many are taken as are put
  pub taken_is_put : length (taken_by (moves_of plan)) ≡ length (put_by (moves_of plan))
  taken_is_put =
      let one = (streams_are_stored plan is_plan).0 in
      let two = (streams_are_stored plan is_plan).1 in
      same_length same_vertex vertices_decided (taken_by (moves_of plan)) (put_by (moves_of plan)) one.distinct two.distinct (λ v h. (two.members v).1 ((one.members v).0 h)) (λ v h. (one.members v).1 ((two.members v).0 h))

  -- the pairs of a vertex that is taken and another tree
  pub sent_many : (n : ℕ) → AreSoMany (IsPairOf k t (taken_by (moves_of plan))) n → AreSoMany (IsHadToo k g t) n
  sent_many n many = told_else (IsPairOf k t (taken_by (moves_of plan))) (IsHadToo k g t) n (λ x. (
    (λ h. let has = (taken_listed.members x.0).0 h.listed in record { has = has; apart = h.other.apart; too = record { vertex = has.vertex; stored = has.stored; corner = h.other.corner } }),
    (λ h. record { listed = (taken_listed.members x.0).1 h.has; other = record { apart = h.apart; corner = h.too.corner } }),
  )) many
