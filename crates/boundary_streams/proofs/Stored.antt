-- What lies in a store: from the lists that a sweep reads, and after a merge.
use Rattle.std.proofs.Common.{◌≡◌, ◌↔◌, ℕ, zero, suc, ◌<◌, ◌≤◌, true, List, [], ◌∷◌, Some, map, length, get_or, arith, refl, sym, ap, ap₂, subst, ◌∙◌, inl, inr}
use Rattle.std.specs.Prelude.{All}
use Rattle.peano_keys.specs.declared.vertex.VertexKey.{VertexKey}
use Rattle.peano_keys.specs.Cell.{IsCell}
use Rattle.peano_keys.specs.Vertex.{IsVertex}
use Rattle.peano_keys.specs.Grid.{Spacetree, has_cell}
use Rattle.peano_curve.specs.Run.{HoldsCell}
use Rattle.peano_records.specs.declared.stored.Stored.{Stored}
use Rattle.peano_records.specs.Slots.{VertexRecord}
use Rattle.curve_cuts.specs.Cuts.{Cuts, range_of, HasVertex, IsCutGrid}
use Rattle.stack_law.specs.Once.{IsIn}
use Rattle.stack_law.specs.Stack.{AreDistinct}
use Rattle.sweep_visits.specs.Plan.{SweepPlan, IsSweepPlan, dim_of, is_stored_in}
use Rattle.sweep_visits.specs.Moves.{moves_of, same_vertex, taken_by}
use Rattle.sweep_visits.proofs.Tests.{stored_tells, stored_told}
use Rattle.sweep_streams.specs.Counts.{IsHeldVertex}
use Rattle.sweep_streams.proofs.Pushes.{streams_are_stored}
use Rattle.step_phases.specs.declared.phase.Phase.{Phase}
use Rattle.step_phases.proofs.Grids.{level_in}
use Rattle.vertex_stacks.specs.Tales.{capped}
use Rattle.tree_automaton.specs.TreeLists.{TreeLists}
use Rattle.tree_automaton.specs.Sweeps.{key_of}
use Rattle.tree_automaton.specs.Moments.{flag_of}
use Rattle.tree_automaton.specs.AtRest.{plain_plan}
use Rattle.boundary_streams.specs.Sent.{Mail}
use Rattle.boundary_streams.specs.Trees.{IsKeyOf, IsTreeOf, HoldsVertices}
use Rattle.boundary_streams.specs.Merges.{IsMerged}
use Rattle.boundary_streams.specs.Laws.{ListsHoldVertices, MergeKeepsLists}

-- what holds of each item's key holds of each item
each_item : (P : VertexKey → Type 0) (xs : List Stored) → ((v : VertexKey) → IsIn v (map key_of xs) → P v) → All (λ (s : Stored). P s.key) xs
each_item P [] h = λ i d below. absurd (omega (arith, below))
each_item P (x ∷ xs) h = λ i d below. by i (each_item P xs (λ v k. h v (inr k))) d below
  where
    by : (i : ℕ) → All (λ (s : Stored). P s.key) xs → (d : Stored) → i < suc (length xs) → P (get_or (x ∷ xs) i d).key
    by zero rest d below = h x.key (inl refl)
    by (suc i) rest d below = rest i d (omega (arith, below))

module _ (k : Cuts) (g : Spacetree) (t : ℕ) (fits : IsCutGrid k g) where
  -- a held vertex of a sweep is one that the tree has
  has : (p : SweepPlan) → p.new ≡ g → p.old ≡ Some g → p.depth ≡ k.depth → p.range ≡ range_of k t → t < k.trees → (v : VertexKey) → IsHeldVertex p (is_stored_in p.old) v → HasVertex k g t v
  has p new old depth range tree v h =
      let dim : dim_of p ≡ k.dim = ap (λ (s : Spacetree). s.dim) new ∙ fits.dim in
      let c = h.held.0 in
      record {
        vertex = subst (λ d. IsVertex d v) dim h.vertex;
        stored = stored_tells g v (ap (λ o. is_stored_in o v) (sym old) ∙ h.passes);
        corner = record {
          tree = tree;
          cell = c;
          inside = subst (λ d. IsCell d c) dim h.held.1.cell;
          touches = h.held.1.touches;
          held = subst (λ r. HoldsCell k.dim k.depth r c) range (subst (λ n. HoldsCell k.dim n p.range c) depth (subst (λ d. HoldsCell d p.depth p.range c) dim h.held.1.held));
        };
      }

  held : (p : SweepPlan) → p.new ≡ g → p.old ≡ Some g → p.depth ≡ k.depth → p.range ≡ range_of k t → (v : VertexKey) → HasVertex k g t v → IsHeldVertex p (is_stored_in p.old) v
  held p new old depth range v h =
      let dim : k.dim ≡ dim_of p = sym (ap (λ (s : Spacetree). s.dim) new ∙ fits.dim) in
      let c = h.corner.cell in
      record {
        vertex = subst (λ d. IsVertex d v) dim h.vertex;
        passes = ap (λ o. is_stored_in o v) old ∙ stored_told g v (subst (λ d. IsVertex d v) (sym fits.dim) h.vertex) h.stored;
        held = (
          c,
          record {
            cell = subst (λ d. IsCell d c) dim h.corner.inside;
            touches = h.corner.touches;
            held = subst (λ d. HoldsCell d p.depth p.range c) dim (subst (λ n. HoldsCell k.dim n p.range c) (sym depth) (subst (λ r. HoldsCell k.dim k.depth r c) (sym range) h.corner.held));
          },
        );
      }

  -- a vertex that a tree has is of a level down to the depth
  level : (v : VertexKey) → HasVertex k g t v → v.level ≤ k.depth
  level v h =
      let there : has_cell g h.corner.cell ≡ true = h.stored h.corner.cell (subst (λ d. IsCell d h.corner.cell) (sym fits.dim) h.corner.inside) h.corner.touches in
      omega (arith, level_in k g h.corner.cell fits there, h.corner.touches.level)

pub lists_hold_vertices : ListsHoldVertices
lists_hold_vertices k g t dir s fits tree lists =
    let p : SweepPlan = plain_plan k.depth (range_of k t) dir g in
    let plan : IsSweepPlan p = record { depth = fits.deepest; old = (fits.grid, refl); new = fits.grid } in
    let taken = (streams_are_stored p plan).0 in
    let input : map key_of s.lanes.input ≡ taken_by (moves_of p) = lists.input in
    let member : (v : VertexKey) → IsIn v (map key_of s.lanes.input) → HasVertex k g t v = λ v h. has k g t fits p refl refl refl refl tree v ((taken.members v).0 (subst (IsIn v) input h)) in (
      record {
        live = lists.live;
        dim = lists.dim ∙ fits.dim;
        depth = lists.depth;
        tree = subst (λ n. n < k.trees) (sym lists.tree) tree;
        range = lists.range ∙ ap (range_of k) (sym lists.tree);
        keys = each_item (IsKeyOf k) s.lanes.input (λ v h. let m = member v h in record { vertex = m.vertex; level = level k g t fits v m });
      },
      record {
        tree = lists.tree;
        distinct = subst (AreDistinct same_vertex) (sym input) taken.distinct;
        members = λ v. (member v, λ h. subst (IsIn v) (sym input) ((taken.members v).1 (held k g t fits p refl refl refl refl v h)));
      },
    )

-- a merge keeps the keys
same_keys : (xs ys : List Stored) → length ys ≡ length xs → ((i : ℕ) (d : VertexRecord) → i < length xs → (get_or ys i d).key ≡ (get_or xs i d).key) → map key_of ys ≡ map key_of xs
same_keys [] [] e same = refl
same_keys [] (y ∷ ys) e same = absurd (omega (arith, e))
same_keys (x ∷ xs) [] e same = absurd (omega (arith, e))
same_keys (x ∷ xs) (y ∷ ys) e same = ap₂ (λ v vs. v ∷ vs) (same 0 x (omega arith)) (same_keys xs ys (omega (arith, e)) (λ i d below. same (suc i) d (omega (arith, below))))

module _ (phase : Phase) (k : Cuts) (mail : Mail) (old new : TreeLists) (h : IsMerged phase k mail old new) where
  pub keys_stay : map key_of new.lanes.input ≡ map key_of old.lanes.input
  keys_stay = same_keys old.lanes.input new.lanes.input h.count (λ i d below. (h.records i d below).key)

  pub holds_still : (g : Spacetree) (t : ℕ) → HoldsVertices k g t old → HoldsVertices k g t new
  holds_still g t v = record {
    tree = ap (λ (s : TreeLists). s.tree) h.rest ∙ v.tree;
    distinct = subst (AreDistinct same_vertex) (sym keys_stay) v.distinct;
    members = λ w. subst (λ vs. IsIn w vs ↔ HasVertex k g t w) (sym keys_stay) (v.members w);
  }

  pub tree_still : IsTreeOf k old → IsTreeOf k new
  tree_still v = record {
    live = ap (λ (s : TreeLists). s.live) h.rest ∙ v.live;
    dim = ap (λ (s : TreeLists). s.lanes.dim) h.rest ∙ v.dim;
    depth = ap (λ (s : TreeLists). s.depth) h.rest ∙ v.depth;
    tree = subst (λ n. n < k.trees) (sym (ap (λ (s : TreeLists). s.tree) h.rest)) v.tree;
    range = ap (λ (s : TreeLists). s.range) h.rest ∙ v.range ∙ ap (λ (s : TreeLists). range_of k s.tree) (sym h.rest);
    keys = λ i d below.
        let inside : i < length old.lanes.input = omega (arith, below, h.count) in
        subst (IsKeyOf k) (sym (h.records i d inside).key) (v.keys i d inside);
  }

pub merge_keeps_lists : MergeKeepsLists
merge_keeps_lists phase k mail p number old new h l = record {
  dim = ap (λ (s : TreeLists). s.lanes.dim) h.rest ∙ l.dim;
  depth = ap (λ (s : TreeLists). s.depth) h.rest ∙ l.depth;
  range = ap (λ (s : TreeLists). s.range) h.rest ∙ l.range;
  dir = ap (λ (s : TreeLists). s.dir) h.rest ∙ l.dir;
  tree = ap (λ (s : TreeLists). s.tree) h.rest ∙ l.tree;
  live = ap (λ (s : TreeLists). s.live) h.rest ∙ l.live;
  cells = ap (λ (s : TreeLists). map flag_of s.cells) h.rest ∙ l.cells;
  written = ap (λ (s : TreeLists). s.written) h.rest ∙ l.written;
  input = keys_stay phase k mail old new h ∙ l.input;
  output = ap (λ (s : TreeLists). s.lanes.output) h.rest ∙ l.output;
  lanes = ap (λ (s : TreeLists). s.lanes.lanes) h.rest ∙ l.lanes;
  taken = ap (λ (s : TreeLists). s.lanes.taken) h.rest ∙ l.taken;
  put = ap (λ (s : TreeLists). s.lanes.put) h.rest ∙ l.put;
  pushed = ap (λ (s : TreeLists). s.lanes.pushed) h.rest ∙ l.pushed;
  counted = ap (λ (s : TreeLists). s.counted) h.rest ∙ l.counted;
  stored = ap (λ (s : TreeLists). s.stored) h.rest ∙ l.stored ∙ ap capped (sym h.count);
  leaves = ap (λ (s : TreeLists). s.leaves) h.rest ∙ l.leaves;
}
