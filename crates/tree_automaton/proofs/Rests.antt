-- A store at rest: after a sweep, and before one.
use Rattle.std.proofs.Common.{◌≡◌, ℕ, suc, ◌<◌, Bool, true, false, List, [], ◌∷◌, Option, Some, None, map, length, refl, ap, ap₂, sym, ◌∙◌, subst, arith, inl, inr}
use Rattle.std.specs.Prelude.{◌&&◌, ◌||◌, not, nat_le, nat_lt, reverse, count_by, if◌then◌else◌, All}
use Rattle.std.proofs.lemmas.List.{reverse-reverse, length-map}
use Rattle.std.proofs.lemmas.List.{length-reverse}
use Rattle.std.proofs.lemmas.Bool.{false≢true}
use Rattle.stack_law.specs.Once.{IsIn}
use Rattle.stack_law.specs.Stack.{AreDistinct, among}
use Rattle.peano_keys.specs.declared.cell.CellKey.{CellKey}
use Rattle.peano_keys.specs.declared.vertex.VertexKey.{VertexKey}
use Rattle.peano_keys.specs.declared.dim.Dim.{Dim}
use Rattle.peano_keys.specs.Dim.{corners}
use Rattle.peano_keys.specs.Vertex.{IsVertex, adjacent_of}
use Rattle.peano_records.specs.declared.slot.Status.TheVariants.{Outside}
use Rattle.peano_keys.specs.Grid.{Spacetree, IsStored, is_refined}
use Rattle.peano_curve.specs.declared.order.Direction.{Direction}
use Rattle.peano_curve.specs.declared.order.Direction.TheVariants.{Forward, Backward}
use Rattle.peano_curve.specs.declared.range.Range.{Range}
use Rattle.peano_curve.specs.Order.{centre_of}
use Rattle.peano_records.specs.declared.stored.Stored.{Stored}
use Rattle.peano_records.specs.declared.view.CellRecord.{CellRecord}
use Rattle.peano_records.specs.declared.view.CellView.{CellView}
use Rattle.peano_records.specs.Slots.{slot_at}
use Rattle.peano_records.specs.AtRest.{IsAtRest, IsBeforeAdapting}
use Rattle.peano_records.proofs.Intents.{rest_intends_nothing}
use Rattle.hanging_nodes.specs.Views.{HasSlots}
use Rattle.hanging_nodes.proofs.Told.{rest_is_shown}
use Rattle.vertex_stacks.specs.declared.kind.Kind.{Kind}
use Rattle.vertex_stacks.specs.declared.tale.Tale.{Tale}
use Rattle.vertex_stacks.specs.Notes.{Note}
use Rattle.vertex_stacks.specs.Tales.{capped}
use Rattle.sweep_visits.specs.Plan.{SweepPlan, IsSweepPlan, IsOldGrid, dim_of, is_refined_in, is_stored_in}
use Rattle.sweep_visits.specs.Runs.{turned_round}
use Rattle.sweep_visits.specs.Moves.{same_cell, moves_of, put_by, taken_by}
use Rattle.sweep_visits.proofs.Tests.{stored_tells}
use Rattle.sweep_visits.proofs.Same.{cells_decided}
use Rattle.sweep_streams.specs.Streams.{ComesAfter}
use Rattle.sweep_streams.specs.Records.{read_by, written_by}
use Rattle.sweep_streams.proofs.Streams.{next_sweep_reads_the_output}
use Rattle.sweep_streams.proofs.Records.{next_sweep_reads_the_records, records_are_of_held_cells}
use Rattle.sweep_streams.proofs.Pushes.{streams_are_stored}
use Rattle.tree_automaton.specs.declared.kinds.Serves.TheVariants.{Raising, Adapting, Plain}
use Rattle.tree_automaton.specs.TreeLists.{TreeLists}
use Rattle.tree_automaton.specs.Sweep.{TreeSweep, IsTreeSweep, is_owned, is_owned_leaf, record_in, tells_new}
use Rattle.tree_automaton.specs.Story.{IsOfOutput, with_calls}
use Rattle.tree_automaton.specs.Moments.{flag_of}
use Rattle.tree_automaton.specs.Views.{VertexFits, HasValues}
use Rattle.tree_automaton.specs.Sweeps.{AllFit, SweepGives, begun, key_of}
use Rattle.tree_automaton.specs.AtRest.{HasLists, StoreCanBeSwept, StoreCanBeAdapted, StoreCanBeRaised, FittingIsAtRest, plain_plan, raising_plan}
use Rattle.tree_automaton.proofs.Decided.{sweep_plan}
use Rattle.tree_automaton.proofs.Lists.{map-reverse, count-reverse, matched_keys, map_in, no_items}

-- whether a cell is a leaf of a grid that a tree owns, by what that rests on
leaf_of : Dim → ℕ → Range → Option Spacetree → CellKey → Bool
leaf_of d n r o c = not (is_refined_in o c) && (nat_le r.lo (centre_of d c n) && nat_lt (centre_of d c n) r.hi)

module _ {A : Type 0} (entered left : A → CellView → CellView → A → Type 0) (p : TreeSweep) (step : ℕ) (kind : Kind) (start : List Stored) (tale : Tale) (t : TreeLists) (x y : A) (note : Note) (sweep : IsTreeSweep p) (gives : SweepGives entered left p step kind start tale t x y note) (q : SweepPlan) (next : IsSweepPlan q) (after : ComesAfter p.plan q) where
  keys : map key_of (reverse t.lanes.input) ≡ put_by (moves_of p.plan)
  keys = matched_keys key_of (IsOfOutput (with_calls (begun p start tale) gives.calls)) (λ k s i. i.key) (put_by (moves_of p.plan)) (reverse t.lanes.input) gives.input

  same_dim : dim_of p.plan ≡ dim_of q
  same_dim = (subst (IsOldGrid q.depth (dim_of q)) after.old next.old).1

  records : reverse (written_by p.plan) ≡ read_by q
  records = next_sweep_reads_the_records p.plan q (sweep_plan p sweep) next after

  -- after a sweep the store has the lists that the next sweep reads
  pub next_at_rest : HasLists q p.tree t
  unfolding leaf_of
  next_at_rest = record {
    dim = gives.of.dim ∙ same_dim;
    depth = gives.of.depth ∙ sym after.depth;
    range = gives.of.range ∙ sym after.range;
    dir = gives.of.dir ∙ sym after.dir;
    tree = gives.of.tree;
    live = gives.live;
    cells = ap (map flag_of) (sym (reverse-reverse t.cells)) ∙ (map-reverse flag_of (reverse t.cells) ∙ (ap (λ l. reverse l) gives.flags ∙ (sym (map-reverse (is_refined p.plan.new) (written_by p.plan)) ∙ (ap (map (is_refined p.plan.new)) records ∙ ap (λ o. map (is_refined_in o) (read_by q)) (sym after.old)))));
    written = gives.written;
    input = ap (map key_of) (sym (reverse-reverse t.lanes.input)) ∙ (map-reverse key_of (reverse t.lanes.input) ∙ (ap (λ l. reverse l) keys ∙ next_sweep_reads_the_output p.plan q (sweep_plan p sweep) next after));
    output = gives.output;
    lanes = gives.lanes;
    taken = gives.taken;
    put = gives.put;
    pushed = gives.pushed;
    counted = gives.counted;
    stored = gives.stored ∙ ap capped (ap length (sym keys) ∙ (length-map (reverse t.lanes.input) key_of ∙ length-reverse t.lanes.input));
    leaves = gives.leaves ∙ ap capped (sym (count-reverse (is_owned_leaf p.plan) (written_by p.plan)) ∙ (ap (count_by (is_owned_leaf p.plan)) records ∙ leaves_same));
  }
    where
      leaves_same : count_by (is_owned_leaf p.plan) (read_by q) ≡ count_by (λ c. not (is_refined_in q.old c) && is_owned q c) (read_by q)
      leaves_same = ap (λ d. count_by (leaf_of d p.plan.depth p.plan.range (Some p.plan.new)) (read_by q)) same_dim ∙ (ap (λ n. count_by (leaf_of (dim_of q) n p.plan.range (Some p.plan.new)) (read_by q)) (sym after.depth) ∙ (ap (λ r. count_by (leaf_of (dim_of q) q.depth r (Some p.plan.new)) (read_by q)) (sym after.range) ∙ ap (λ o. count_by (leaf_of (dim_of q) q.depth q.range o) (read_by q)) (sym after.old)))

-- the task of a cell, from the records of a list of cells
task_at : List CellKey → List CellRecord → CellKey → ℕ
task_at [] rs c = 0
task_at (k ∷ ks) [] c = 0
task_at (k ∷ ks) (r ∷ rs) c = if same_cell k c then r.task else task_at ks rs c

not_among : (k : CellKey) (ks : List CellKey) → among same_cell k ks ≡ false → (c : CellKey) → IsIn c ks → same_cell k c ≡ false
not_among k (x ∷ ks) none c (inl e) = subst (λ y. same_cell k y ≡ false) (sym e) (first (same_cell k x) (among same_cell k ks) none)
  where
    first : (a b : Bool) → (a || b) ≡ false → a ≡ false
    first true b e = e
    first false b e = refl
not_among k (x ∷ ks) none c (inr h) = not_among k ks (second (same_cell k x) (among same_cell k ks) none) c h
  where
    second : (a b : Bool) → (a || b) ≡ false → b ≡ false
    second true b e = absurd (false≢true (sym e))
    second false b e = e
not_among k [] none c h = absurd h

-- records with the flags of distinct cells are those of the cells, with their tasks
tasks_are : (f : CellKey → Bool) (ks : List CellKey) (rs : List CellRecord) → AreDistinct same_cell ks → map flag_of rs ≡ map f ks → rs ≡ map (λ c. record { refined = f c; task = task_at ks rs c }) ks
unfolding task_at
tasks_are f [] [] distinct e = refl
tasks_are f [] (r ∷ rs) distinct e = cc
tasks_are f (k ∷ ks) [] distinct e = cc
tasks_are f (k ∷ ks) (r ∷ rs) distinct e =
    let head : r.refined ≡ f k = cc in
    let tail : map flag_of rs ≡ map f ks = cc in
    let own : task_at (k ∷ ks) (r ∷ rs) k ≡ r.task = ap (λ b. if b then r.task else task_at ks rs k) (cells_decided.reflexive k) in
    ap₂ (λ x xs. x ∷ xs) (ap₂ (λ b n. record { refined = b; task = n }) head (sym own))
    (tasks_are f ks rs distinct.1 tail ∙ map_in (λ c. record { refined = f c; task = task_at ks rs c }) (λ c. record { refined = f c; task = task_at (k ∷ ks) (r ∷ rs) c }) ks (λ c h. ap (λ n. record { refined = f c; task = n }) (sym (ap (λ b. if b then r.task else task_at ks rs c) (not_among k ks distinct.0 c h)))))

-- the vertices of the input are those that the old grid stores
input_stored : (p : SweepPlan) → IsSweepPlan p → (v : VertexKey) → IsIn v (taken_by (moves_of p)) → IsVertex (dim_of p) v × (is_stored_in p.old v ≡ true)
input_stored p plan v h = let k = ((streams_are_stored p plan).0.members v).0 h in (k.vertex, k.passes)

all_fit : (p : TreeSweep) (P : Stored → Type 0) (xs : List Stored) (vs : List VertexKey) → map key_of xs ≡ vs → ((s : Stored) → IsIn s.key vs → P s → VertexFits p s) → All P xs → AllFit p xs
all_fit p P [] vs e fits all = tt
all_fit p P (x ∷ xs) [] e fits all = cc
all_fit p P (x ∷ xs) (v ∷ vs) e fits all =
    let head : x.key ≡ v = cc in
    let tail : map key_of xs ≡ vs = cc in (
      fits x (inl head) (all 0 x (omega arith)),
      all_fit p P xs vs tail (λ s h one. fits s (inr h) one) (λ k d h. all (suc k) d (omega (arith, h))),
    )

-- a record at rest fits a sweep that changes no grid
rest_fits : (p : TreeSweep) (s : Stored) → p.serves ≡ Plain → p.plan.old ≡ Some p.plan.new → IsVertex (dim_of p.plan) s.key → IsStored p.plan.new s.key → IsAtRest p.plan.new p.field s → VertexFits p s
rest_fits p s plain one vertex stored rest = record {
  eight = rest.eight;
  slots = subst (λ o. HasSlots (dim_of p.plan) o p.plan.new (tells_new p.serves) s.key s) (sym one) (rest_is_shown (dim_of p.plan) p.plan.new p.plan.new (tells_new p.serves) s refl vertex stored (rest_intends_nothing p.plan.new p.field s rest));
  outside = rest.outside;
  values = subst (λ v. HasValues v p s) (sym plain) rest.inside;
}

-- a record before an adaptation fits it
before_fits : (p : TreeSweep) (old : Spacetree) (s : Stored) → p.serves ≡ Adapting → p.plan.old ≡ Some old → old.dim ≡ dim_of p.plan → IsVertex (dim_of p.plan) s.key → IsStored old s.key → IsBeforeAdapting old p.plan.new s → VertexFits p s
before_fits p old s adapting one dim vertex stored before = record {
  eight = before.eight;
  slots = subst (λ o. HasSlots (dim_of p.plan) o p.plan.new (tells_new p.serves) s.key s) (sym one) (rest_is_shown (dim_of p.plan) old p.plan.new (tells_new p.serves) s dim vertex stored before);
  outside = subst (λ d. (n : ℕ) → n < corners d → adjacent_of d s.key n ≡ None → (slot_at s n).status ≡ Outside) dim before.outside;
  values = subst (λ v. HasValues v p s) (sym adapting) tt;
}

pub fitting_is_at_rest : FittingIsAtRest
fitting_is_at_rest p s plain fits stay = record { eight = fits.eight; outside = fits.outside; inside = subst (λ v. HasValues v p s) plain fits.values; stay = stay }

pub store_can_be_swept : StoreCanBeSwept
store_can_be_swept depth range number dir t f s meaning kind deep grid stands served for_plain dim =
    let plan = plain_plan depth range dir t in
    let is_plan : IsSweepPlan plan = record { depth = deep; old = (grid, refl); new = grid } in
    let l = stands.lists in
    let p : TreeSweep = record { serves = Plain; plan = plan; tree = number; field = f; task = task_at (read_by plan) s.cells } in
    record {
      sweep = p;
      plan_is = refl;
      tree_is = refl;
      field_is = refl;
      asks = record {
        served = served;
        sweep = record { deep = deep; grids = record { grid = grid; old_dim = refl; step = inl refl }; new_grid = grid; serve = refl };
        for_sweep = record { serves = for_plain; dim = dim; grids = tt };
        rest = record {
          of = record { dim = l.dim; depth = l.depth; range = l.range; dir = l.dir; tree = l.tree };
          live = l.live;
          cells = tasks_are (is_refined_in (Some t)) (read_by plan) s.cells (records_are_of_held_cells plan is_plan).0.distinct l.cells;
          written = l.written;
          input = l.input;
          fits = all_fit p (IsAtRest t f) s.lanes.input (taken_by (moves_of plan)) l.input (λ v h rest. let k = input_stored plan is_plan v.key h in rest_fits p v refl refl k.0 (stored_tells t v.key k.1) rest) stands.slots;
          output = l.output;
          lanes = l.lanes;
          taken = l.taken;
          put = l.put;
          pushed = l.pushed;
          counted = l.counted;
          stored = l.stored;
        };
      };
    }

pub store_can_be_adapted : StoreCanBeAdapted
store_can_be_adapted depth range number dir old new f s meaning deep grids grid stands for_adapting dim new_is =
    let plan : SweepPlan = record { depth = depth; range = range; dir = dir; old = Some old; new = new } in
    let is_plan : IsSweepPlan plan = record { depth = deep; old = (grids.grid, grids.old_dim); new = grid } in
    let before : SweepPlan = plain_plan depth range dir old in
    let is_before : IsSweepPlan before = record { depth = deep; old = (grids.grid, refl); new = grids.grid } in
    let earlier : SweepPlan = plain_plan depth range (turned_round dir) old in
    let is_earlier : IsSweepPlan earlier = record { depth = deep; old = (grids.grid, refl); new = grids.grid } in
    let to_before : ComesAfter earlier before = record { depth = refl; range = refl; dir = sym (turned_twice dir); old = refl } in
    let to_plan : ComesAfter earlier plan = record { depth = refl; range = refl; dir = sym (turned_twice dir); old = refl } in
    let same_read : read_by before ≡ read_by plan = sym (next_sweep_reads_the_records earlier before is_earlier is_before to_before) ∙ next_sweep_reads_the_records earlier plan is_earlier is_plan to_plan in
    let same_taken : taken_by (moves_of before) ≡ taken_by (moves_of plan) = sym (next_sweep_reads_the_output earlier before is_earlier is_before to_before) ∙ next_sweep_reads_the_output earlier plan is_earlier is_plan to_plan in
    let l = stands.lists in
    let input : map key_of s.lanes.input ≡ taken_by (moves_of plan) = l.input ∙ same_taken in
    let p : TreeSweep = record { serves = Adapting; plan = plan; tree = number; field = f; task = task_at (read_by plan) s.cells } in
    record {
      sweep = p;
      plan_is = refl;
      tree_is = refl;
      field_is = refl;
      asks = record {
        served = refl;
        sweep = record { deep = deep; grids = grids; new_grid = grid; serve = (old, refl) };
        for_sweep = record { serves = for_adapting; dim = dim; grids = sym new_is };
        rest = record {
          of = record { dim = l.dim ∙ grids.old_dim; depth = l.depth; range = l.range; dir = l.dir; tree = l.tree };
          live = l.live;
          cells = tasks_are (is_refined_in (Some old)) (read_by plan) s.cells (records_are_of_held_cells plan is_plan).0.distinct (l.cells ∙ ap (map (is_refined_in (Some old))) same_read);
          written = l.written;
          input = input;
          fits = all_fit p (IsBeforeAdapting old new) s.lanes.input (taken_by (moves_of plan)) input (λ v h rest. let k = input_stored plan is_plan v.key h in before_fits p old v refl refl grids.old_dim k.0 (stored_tells old v.key k.1) rest) stands.slots;
          output = l.output;
          lanes = l.lanes;
          taken = l.taken;
          put = l.put;
          pushed = l.pushed;
          counted = l.counted;
          stored = l.stored;
        };
      };
    }
  where
    turned_twice : (d : Direction) → turned_round (turned_round d) ≡ d
    turned_twice Forward = refl
    turned_twice Backward = refl

pub store_can_be_raised : StoreCanBeRaised
store_can_be_raised depth range number t f s meaning deep grid empty for_raising dim new_is =
    let plan = raising_plan depth range Forward t in
    let is_plan : IsSweepPlan plan = record { depth = deep; old = tt; new = grid } in
    let none_read : read_by plan ≡ [] = no_items (read_by plan) (λ c h. false≢true (((records_are_of_held_cells plan is_plan).0.members c).0 h).passes) in
    let none_taken : taken_by (moves_of plan) ≡ [] = no_items (taken_by (moves_of plan)) (λ v h. false≢true (input_stored plan is_plan v h).1) in
    let p : TreeSweep = record { serves = Raising; plan = plan; tree = number; field = f; task = λ _. 0 } in
    record {
      sweep = p;
      plan_is = refl;
      tree_is = refl;
      field_is = refl;
      asks = record {
        served = refl;
        sweep = record { deep = deep; grids = (refl, refl, grid); new_grid = grid; serve = refl };
        for_sweep = record { serves = for_raising; dim = dim; grids = sym new_is };
        rest = record {
          of = record { dim = empty.dim_is; depth = empty.depth_is; range = empty.range_is; dir = empty.dir; tree = empty.tree };
          live = empty.live;
          cells = empty.cells ∙ ap (map (record_in p)) (sym none_read);
          written = empty.written;
          input = ap (map key_of) empty.input ∙ sym none_taken;
          fits = subst (AllFit p) (sym empty.input) tt;
          output = empty.output;
          lanes = empty.lanes;
          taken = empty.taken;
          put = empty.put;
          pushed = empty.pushed;
          counted = empty.counted;
          stored = empty.stored ∙ ap (λ vs. capped (length vs)) (sym empty.input);
        };
      };
    }
