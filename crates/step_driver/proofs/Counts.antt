-- What sweeps of a tree move, whichever way they go.
use Rattle.std.proofs.Common.{◌≡◌, ℕ, ◌≤◌, ◌||◌, Bool, true, false, List, length, refl, ap, sym, subst, ◌∙◌}
use Rattle.std.specs.Prelude.{Some}
use Rattle.std.proofs.lemmas.Bool.{false≢true}
use Rattle.peano_keys.specs.declared.vertex.VertexKey.{VertexKey}
use Rattle.peano_keys.specs.Grid.{Spacetree, IsGrid}
use Rattle.peano_curve.specs.declared.order.Direction.{Direction}
use Rattle.peano_curve.specs.declared.order.Direction.TheVariants.{Forward}
use Rattle.peano_curve.specs.declared.range.Range.{Range}
use Rattle.curve_cuts.specs.Cuts.{Cuts, IsCutGrid, range_of}
use Rattle.vertex_stacks.specs.declared.kind.Kind.{Kind}
use Rattle.vertex_stacks.specs.declared.kind.Kind.TheVariants.{Raise, Adapt}
use Rattle.vertex_stacks.specs.Notes.{Note}
use Rattle.vertex_stacks.specs.Tales.{capped}
use Rattle.sweep_visits.specs.Plan.{SweepPlan, IsSweepPlan, is_kept, is_stored, is_stored_in}
use Rattle.sweep_visits.specs.Moves.{moves_of, taken_by, put_by, same_vertex}
use Rattle.sweep_visits.proofs.Same.{vertices_decided}
use Rattle.sweep_streams.specs.Counts.{IsHeldVertex, ListsVertices, pushed_by}
use Rattle.sweep_streams.proofs.Lists.{same_length}
use Rattle.sweep_streams.proofs.Pushes.{streams_are_stored, pushes_are_runs_less_one}
use Rattle.tree_automaton.specs.AtRest.{plain_plan, raising_plan}
use Rattle.tree_automaton.proofs.Lists.{no_items}
use Rattle.tree_automaton.specs.Noted.{note_of}
use Rattle.adapt_sweep.specs.Adapting.{adapting_plan}
use Rattle.peano_keys.specs.declared.cell.CellKey.{CellKey}
use Rattle.peano_keys.specs.Vertex.{IsVertex}
use Rattle.peano_curve.specs.Run.{InRun}
use Rattle.step_world.specs.Notes.{note_over, note_raised, note_adapted}
use Rattle.step_driver.specs.Notes.{sizes_of}

-- two lists of the same vertices have the same length
same_many : (p q : SweepPlan) (test other : VertexKey → Bool) (xs ys : List VertexKey) → ListsVertices p test xs → ListsVertices q other ys → ((v : VertexKey) → IsHeldVertex p test v → IsHeldVertex q other v) → ((v : VertexKey) → IsHeldVertex q other v → IsHeldVertex p test v) → length xs ≡ length ys
same_many p q test other xs ys one two to from = same_length same_vertex vertices_decided xs ys one.distinct two.distinct (λ v at. (two.members v).1 (to v ((one.members v).0 at))) (λ v at. (one.members v).1 (from v ((two.members v).0 at)))

or_same : (b : Bool) → (b || b) ≡ b
or_same true = refl
or_same false = refl

module _ (depth : ℕ) (range : Range) (g : Spacetree) (deep : depth ≤ 12) (grid : IsGrid depth g) where
  abbrev plain : Direction → SweepPlan
  plain dir = plain_plan depth range dir g

  abbrev raising : SweepPlan
  raising = raising_plan depth range Forward g

  is_plain : (dir : Direction) → IsSweepPlan (plain dir)
  is_plain dir = record { depth = deep; old = (grid, refl); new = grid }

  is_raising : IsSweepPlan raising
  is_raising = record { depth = deep; old = tt; new = grid }

  -- a sweep over the grid takes and puts as many vertices either way
  takes_alike : (dir : Direction) → length (taken_by (moves_of (plain dir))) ≡ length (taken_by (moves_of (plain Forward)))
  takes_alike dir = same_many (plain dir) (plain Forward) (is_stored_in (Some g)) (is_stored_in (Some g)) _ _ (streams_are_stored (plain dir) (is_plain dir)).0 (streams_are_stored (plain Forward) (is_plain Forward)).0
      (λ v h. record { vertex = h.vertex; passes = h.passes; held = h.held }) (λ v h. record { vertex = h.vertex; passes = h.passes; held = h.held })

  puts_alike : (dir : Direction) → length (put_by (moves_of (plain dir))) ≡ length (taken_by (moves_of (plain Forward)))
  puts_alike dir = same_many (plain dir) (plain Forward) (is_stored g) (is_stored_in (Some g)) _ _ (streams_are_stored (plain dir) (is_plain dir)).1 (streams_are_stored (plain Forward) (is_plain Forward)).0
      (λ v h. record { vertex = h.vertex; passes = h.passes; held = h.held }) (λ v h. record { vertex = h.vertex; passes = h.passes; held = h.held })

  -- and pushes as many
  kept_alike : (dir : Direction) (vs : List VertexKey) → ListsVertices (plain dir) (is_kept (plain dir)) vs → ListsVertices (plain Forward) (is_kept (plain Forward)) vs
  kept_alike dir vs l = record {
    distinct = l.distinct;
    members = λ v. (λ at. let h = (l.members v).0 at in record { vertex = h.vertex; passes = h.passes; held = h.held }, λ h. (l.members v).1 (record { vertex = h.vertex; passes = h.passes; held = h.held }));
  }

  pushes_alike : (dir : Direction) → length (pushed_by (moves_of (plain dir))) ≡ length (pushed_by (moves_of (plain Forward)))
  pushes_alike dir =
      let one = pushes_are_runs_less_one (plain dir) (is_plain dir) in
      let two = pushes_are_runs_less_one (plain Forward) (is_plain Forward) in
      one.1 one.0.0 one.0.1 ∙ sym (two.1 one.0.0 (kept_alike dir one.0.0 one.0.1))

  -- a raising sweep takes none,
  raising_takes : length (taken_by (moves_of raising)) ≡ 0
  raising_takes = ap length (no_items (taken_by (moves_of raising)) (λ v at. false≢true (((streams_are_stored raising is_raising).0.members v).0 at).passes))

  -- and puts and pushes as many as a sweep over the grid
  raising_puts : length (put_by (moves_of raising)) ≡ length (taken_by (moves_of (plain Forward)))
  raising_puts = same_many raising (plain Forward) (is_stored g) (is_stored_in (Some g)) _ _ (streams_are_stored raising is_raising).1 (streams_are_stored (plain Forward) (is_plain Forward)).0
      (λ v h. record { vertex = h.vertex; passes = h.passes; held = h.held }) (λ v h. record { vertex = h.vertex; passes = h.passes; held = h.held })

  raised_kept : (vs : List VertexKey) → ListsVertices raising (is_kept raising) vs → ListsVertices (plain Forward) (is_kept (plain Forward)) vs
  raised_kept vs l = record {
    distinct = l.distinct;
    members = λ v. (λ at. let h = (l.members v).0 at in record { vertex = h.vertex; passes = or_same (is_stored g v) ∙ h.passes; held = h.held }, λ h. (l.members v).1 (record { vertex = h.vertex; passes = sym (or_same (is_stored g v)) ∙ h.passes; held = h.held }));
  }

  raising_pushes : length (pushed_by (moves_of raising)) ≡ length (pushed_by (moves_of (plain Forward)))
  raising_pushes =
      let one = pushes_are_runs_less_one raising is_raising in
      let two = pushes_are_runs_less_one (plain Forward) (is_plain Forward) in
      one.1 one.0.0 one.0.1 ∙ sym (two.1 one.0.0 (raised_kept one.0.0 one.0.1))

abbrev numbers : ℕ → Kind → ℕ → ℕ → ℕ → ℕ → Note
numbers step kind t a b c = record { step = step; kind = kind; tree = t; taken = capped a; put = capped b; pushed = capped c }

same_note : (step : ℕ) (kind : Kind) (t a b c x y z : ℕ) → a ≡ x → b ≡ y → c ≡ z → numbers step kind t a b c ≡ numbers step kind t x y z
same_note step kind t a b c x y z e f g = rw (e, f, g) refl

-- the note of a sweep over a grid
pub note_plain : (k : Cuts) (g : Spacetree) (dir : Direction) (kind : Kind) (step t : ℕ) → IsCutGrid k g → note_of (plain_plan k.depth (range_of k t) dir g) kind step t ≡ note_over (sizes_of k) step kind g t
note_plain k g dir kind step t fits = same_note step kind t _ _ _ _ _ _ (takes_alike k.depth (range_of k t) g fits.deepest fits.grid dir) (puts_alike k.depth (range_of k t) g fits.deepest fits.grid dir) (pushes_alike k.depth (range_of k t) g fits.deepest fits.grid dir)

-- and of a raising sweep
pub note_raising : (k : Cuts) (g : Spacetree) (step t : ℕ) → IsCutGrid k g → note_of (raising_plan k.depth (range_of k t) Forward g) Raise step t ≡ note_raised (sizes_of k) step g t
note_raising k g step t fits = same_note step Raise t _ _ _ _ _ _ (raising_takes k.depth (range_of k t) g fits.deepest fits.grid) (raising_puts k.depth (range_of k t) g fits.deepest fits.grid) (raising_pushes k.depth (range_of k t) g fits.deepest fits.grid)

-- so of a sweep from one grid to another
module _ (depth : ℕ) (range : Range) (old new : Spacetree) (deep : depth ≤ 12) (old_grid : IsGrid depth old) (new_grid : IsGrid depth new) (same : old.dim ≡ new.dim) where
  abbrev adapting : Direction → SweepPlan
  adapting dir = adapting_plan depth range dir old new

  is_adapting : (dir : Direction) → IsSweepPlan (adapting dir)
  is_adapting dir = record { depth = deep; old = (old_grid, same); new = new_grid }

  is_old : IsSweepPlan (plain_plan depth range Forward old)
  is_old = record { depth = deep; old = (old_grid, refl); new = old_grid }

  is_new : IsSweepPlan (plain_plan depth range Forward new)
  is_new = record { depth = deep; old = (new_grid, refl); new = new_grid }

  in_old : (dir : Direction) (v : VertexKey) → IsHeldVertex (adapting dir) (is_stored_in (Some old)) v → IsHeldVertex (plain_plan depth range Forward old) (is_stored_in (Some old)) v
  in_old dir v h = record { vertex = subst (λ dim. IsVertex dim v) (sym same) h.vertex; passes = h.passes; held = subst (λ dim. (c : CellKey) × InRun dim v range depth c) (sym same) h.held }

  from_old : (dir : Direction) (v : VertexKey) → IsHeldVertex (plain_plan depth range Forward old) (is_stored_in (Some old)) v → IsHeldVertex (adapting dir) (is_stored_in (Some old)) v
  from_old dir v h = record { vertex = subst (λ dim. IsVertex dim v) same h.vertex; passes = h.passes; held = subst (λ dim. (c : CellKey) × InRun dim v range depth c) same h.held }

  adapting_takes : (dir : Direction) → length (taken_by (moves_of (adapting dir))) ≡ length (taken_by (moves_of (plain_plan depth range Forward old)))
  adapting_takes dir = same_many (adapting dir) (plain_plan depth range Forward old) (is_stored_in (Some old)) (is_stored_in (Some old)) _ _ (streams_are_stored (adapting dir) (is_adapting dir)).0 (streams_are_stored (plain_plan depth range Forward old) is_old).0
      (in_old dir) (from_old dir)

  adapting_puts : (dir : Direction) → length (put_by (moves_of (adapting dir))) ≡ length (taken_by (moves_of (plain_plan depth range Forward new)))
  adapting_puts dir = same_many (adapting dir) (plain_plan depth range Forward new) (is_stored new) (is_stored_in (Some new)) _ _ (streams_are_stored (adapting dir) (is_adapting dir)).1 (streams_are_stored (plain_plan depth range Forward new) is_new).0
      (λ v h. record { vertex = h.vertex; passes = h.passes; held = h.held }) (λ v h. record { vertex = h.vertex; passes = h.passes; held = h.held })

  adapting_kept : (dir : Direction) (vs : List VertexKey) → ListsVertices (adapting dir) (is_kept (adapting dir)) vs → ListsVertices (adapting Forward) (is_kept (adapting Forward)) vs
  adapting_kept dir vs l = record {
    distinct = l.distinct;
    members = λ v. (λ at. let h = (l.members v).0 at in record { vertex = h.vertex; passes = h.passes; held = h.held }, λ h. (l.members v).1 (record { vertex = h.vertex; passes = h.passes; held = h.held }));
  }

  adapting_pushes : (dir : Direction) → length (pushed_by (moves_of (adapting dir))) ≡ length (pushed_by (moves_of (adapting Forward)))
  adapting_pushes dir =
      let one = pushes_are_runs_less_one (adapting dir) (is_adapting dir) in
      let two = pushes_are_runs_less_one (adapting Forward) (is_adapting Forward) in
      one.1 one.0.0 one.0.1 ∙ sym (two.1 one.0.0 (adapting_kept dir one.0.0 one.0.1))

-- the note of an adaptation sweep
pub note_adapting : (k : Cuts) (old new : Spacetree) (dir : Direction) (step t : ℕ) → IsCutGrid k old → IsCutGrid k new → note_of (adapting_plan k.depth (range_of k t) dir old new) Adapt step t ≡ note_adapted (sizes_of k) step old new t
note_adapting k old new dir step t fits next =
    let same : old.dim ≡ new.dim = fits.dim ∙ sym next.dim in
    same_note step Adapt t _ _ _ _ _ _ (adapting_takes k.depth (range_of k t) old new fits.deepest fits.grid next.grid same dir) (adapting_puts k.depth (range_of k t) old new fits.deepest fits.grid next.grid same dir) (adapting_pushes k.depth (range_of k t) old new fits.deepest fits.grid next.grid same dir)
