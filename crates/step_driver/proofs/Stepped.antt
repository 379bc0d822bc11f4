-- What trees stand for after the computing part of a step that is not refused, and after its adaptation.
use Rattle.std.proofs.Common.{append_assoc, ◌≡◌, ◌↔◌, ℕ, zero, suc, ◌<◌, ◌≤◌, Bool, false, true, pos, List, ◌++◌, Option, None, unwrap_or, refl, ap, sym, subst, ◌∙◌, inl, inr, arith}
use Rattle.std.specs.FinMap as map
use Rattle.std.specs.Int.{w64}
use Rattle.std.specs.Int.RustNames.{FitsSigned}
use Rattle.std.proofs.lemmas.Bool.{false≢true}
use Rattle.std.proofs.lemmas.List.{append-nil}
use Rattle.peano_keys.specs.declared.cell.CellKey.{CellKey}
use Rattle.peano_keys.specs.declared.state.State.{State}
use Rattle.peano_keys.specs.declared.state.State.TheVariants.{Single}
use Rattle.peano_keys.specs.declared.side.Mark.{Mark}
use Rattle.peano_keys.specs.Cell.{IsCell}
use Rattle.peano_keys.specs.State.{value_at}
use Rattle.peano_keys.specs.Grid.{Spacetree, IsGrid}
use Rattle.peano_keys.specs.Next.{Merges}
use Rattle.peano_keys.specs.Field.{States, state_at, component_of, sides_of}
use Rattle.peano_curve.specs.declared.order.Direction.{Direction}
use Rattle.peano_records.specs.declared.partials.Partial.{Partial}
use Rattle.solver_api.specs.Step.{IsLeafOf, IsStep, marks_of, new_state}
use Rattle.spacetree.specs.Counts.{cells_of}
use Rattle.spacetree.proofs.Exists.{merges_told}
use Rattle.spacetree.proofs.Leaves.{leaf_there}
use Rattle.spacetree.proofs.Told.{Told, leaf_told}
use Rattle.curve_cuts.specs.Cuts.{Cuts, IsCutGrid, Owns, range_of}
use Rattle.curve_cuts.proofs.Cuts.{owner_exists}
use Rattle.vertex_stacks.specs.declared.kind.Kind.TheVariants.{Primary, Secondary}
use Rattle.vertex_stacks.specs.Notes.{Note}
use Rattle.vertex_stacks.specs.Tales.{TaleGrows}
use Rattle.sweep_visits.specs.Runs.{turned_round}
use Rattle.tree_automaton.specs.TreeLists.{TreeLists}
use Rattle.tree_automaton.specs.AtRest.{StandsBefore}
use Rattle.step_phases.specs.declared.phase.Phase.TheVariants.{First, Second, Third}
use Rattle.step_phases.specs.Change.{Change}
use Rattle.step_phases.specs.Phases.{AfterFirst, AfterSecond}
use Rattle.step_phases.specs.Sweeps.{IsSwept}
use Rattle.step_phases.specs.Stores.{TreeSays, AllSay}
use Rattle.step_phases.specs.SweepLaws.{Steps}
use Rattle.step_phases.proofs.Exchanges.{second_exchange}
use Rattle.step_phases.proofs.Grids.{level_in}
use Rattle.step_phases.proofs.Sweeps.{secondary_sweep}
use Rattle.swept_slots.specs.Copies.{copies}
use Rattle.step_values.specs.Values.{change_of}
use Rattle.step_values.proofs.Values.{leaf_takes_new_state, leaf_has_state}
use Rattle.mean_values.specs.NextSums.{TellsMerges}
use Rattle.tree_sums.specs.Changes.{MeanStep, IsTreeStep, MeanSecondaryChanges, AddedChanges}
use Rattle.tree_sums.proofs.Changes.{means_make_secondary}
use Rattle.shared_sums.specs.Totals.{merging_in}
use Rattle.shared_sums.specs.Adding.{partials_in}
use Rattle.step_sums.specs.Laws.{AreAllPartials, HaveValues}
use Rattle.step_sums.proofs.Found.{partials_list_merging}
use Rattle.step_sums.proofs.Fits.{partials_can_be_added}
use Rattle.step_sums.proofs.Added.{sums_are_added}
use Rattle.swept_slots.proofs.Stores.{said_is_before}
use Rattle.boundary_streams.specs.Trees.{HoldsVertices, copies_of}
use Rattle.boundary_streams.proofs.Stored.{lists_hold_vertices}
use Rattle.step_sweeps.specs.Kernels.{Kernel, IsChangeBy}
use Rattle.step_sweeps.specs.Sweeps.{IsToFinish, AreNewStatesOf, ArePartialsOf, SummedChanges, IsSummed}
use Rattle.step_world.specs.Notes.{by_trees, computing_notes, note_over, note_adapted}
use Rattle.step_world.specs.Steps.{KeepsParts}
use Rattle.step_world.specs.Worlds.{StandFor, KeepsAll, RefinesAbove}
use Rattle.step_world.proofs.Parts.{new_states_are_field, step_keeps_parts}
use Rattle.step_world.proofs.Worlds.{deep_grid, kept_grid_stays, step_stands, plain_step_stands}
use Rattle.step_driver.specs.declared.finishing.Findings.{Findings}
use Rattle.step_driver.specs.Stores.{store_of, AllHaveLists}
use Rattle.step_driver.specs.Notes.{notes_of, sizes_of, TellsSinceRaised, HaveTales}
use Rattle.step_driver.specs.Computing.{AllStandOn}
use Rattle.step_driver.specs.Finishing.{AllMarked, AreFinished}
use Rattle.step_driver.specs.Adapting.{AllCanAdapt}
use Rattle.step_driver.specs.Stepping.{IsComputedStep, IsAdaptedStep, TookStep}
use Rattle.step_driver.specs.Summing.{AllTakeSums, IsSettled}
use Rattle.step_driver.specs.Worlds.{AreAt}
use Rattle.step_driver.proofs.Began.{stand_on, finished_lists, finished_trees, adapted_lists, both_noted}
use Rattle.step_driver.proofs.Summed.{added_lists, added_tale}
use Rattle.step_driver.proofs.Exchanges.{lists_after, owners_taken, tale_stays}
use Rattle.step_driver.proofs.Marked.{computed_lists, marked}
use Rattle.step_driver.proofs.NextTold.{told_grid, told_is_next}
use Rattle.step_driver.proofs.Notes.{tales_grow}
use Rattle.step_driver.proofs.Standing.{all_stand, copies_stand}

-- what is told, as a test
abbrev as_test : (P : Type 0) → Told P → Bool
as_test P (inl h) = true
as_test P (inr h) = false

test_tells : (P : Type 0) (t : Told P) → (as_test P t ≡ true) ↔ P
test_tells P (inl h) = ((λ e. h), (λ e. refl))
test_tells P (inr h) = ((λ e. absurd (false≢true e)), (λ e. absurd (h e)))

-- whether a cell merges
abbrev merging_by : (g : Spacetree) (marks : CellKey → Mark) → IsGrid 12 g → CellKey → Bool
merging_by g marks grid c = as_test (Merges g marks c) (merges_told g marks grid c)

zero_fits : (i : ℕ) → FitsSigned w64 (value_at (Single (pos 0)) i)
zero_fits zero = record { sfits = omega arith }
zero_fits (suc i) = record { sfits = omega arith }

none_fits : (o : Option State) (i : ℕ) → o ≡ None → FitsSigned w64 (value_at (unwrap_or o (Single (pos 0))) i)
none_fits o i e = subst (λ (q : Option State). FitsSigned w64 (value_at (unwrap_or q (Single (pos 0))) i)) (sym e) (zero_fits i)

module _ (kernel : Kernel) (k : Cuts) (g : Spacetree) (f : States) (step : ℕ) (before finished : List TreeLists) (partials : List (List Partial)) (old new : List Note) (found : Findings) (cells : ℕ)
    (at : AreAt kernel.parts k before old cells g f) (h : IsComputedStep kernel k at.dir g f step before finished partials old new found) (later : Spacetree) (field : States) (is : IsStep kernel.updated kernel.marked g f later field) (fits : IsCutGrid k later)
    (parts : KeepsParts kernel.parts kernel.updated) where
  abbrev w : Change
  w = change_of kernel.updated kernel.marked g f later field

  abbrev swept_dir : Direction
  swept_dir = turned_round at.dir

  abbrev dir : Direction
  dir = turned_round (turned_round at.dir)

  abbrev marks : CellKey → Mark
  marks = marks_of kernel.marked g f

  all : AllStandOn k kernel.parts at.dir g f before
  all = stand_on kernel.parts k before old cells g f at

  takes_new_state : (c : CellKey) → IsLeafOf g c → w.next c ≡ new_state kernel.updated g f c
  takes_new_state = leaf_takes_new_state kernel.updated kernel.marked g f later field (deep_grid k g at.fits) (deep_grid k later fits) is

  by : IsChangeBy kernel g f w
  by = record { old = refl; marks = λ c leaf. refl; leaves = takes_new_state }

  to_finish : IsToFinish w f
  to_finish = record { values = λ c. refl; grid = is.grid }

  are_marked : AllMarked kernel k swept_dir w f h.marked
  are_marked = marked kernel k at.dir w f step at.fits by to_finish before h.swept old h.noted h.early all h.primary h.marked h.first

  done : AreFinished k kernel.parts swept_dir w step h.marked finished partials h.noted new h.late
  done = h.secondary w are_marked

  swept_lists : AllHaveLists k swept_dir g h.swept
  swept_lists = computed_lists kernel k at.dir w f step at.fits by to_finish before h.swept old h.noted h.early all h.primary

  lists : AllHaveLists k dir g finished
  lists = finished_lists k kernel.parts swept_dir w step h.marked finished partials h.noted new h.late done

  -- the field of new states, and the step by means
  new_states : AreNewStatesOf w kernel.parts is.states
  new_states = record {
    field = new_states_are_field kernel.parts kernel.updated g f is.states (deep_grid k g at.fits) at.field parts is.made;
    leaves = leaf_has_state kernel.updated kernel.marked g f later field (deep_grid k g at.fits) (deep_grid k later fits) is;
  }

  abbrev merging : CellKey → Bool
  merging = merging_by g marks (deep_grid k g at.fits)

  tells : TellsMerges g marks merging
  tells c = test_tells (Merges g marks c) (merges_told g marks (deep_grid k g at.fits) c)

  summed : (t : ℕ) → t < k.trees → IsSummed k kernel.parts w merging is.states (store_of h.marked t) (store_of finished t) (partials_in partials t)
  summed t below = (done.trees.changed t below).summed is.states merging new_states tells

  all_partials : AreAllPartials k g marks merging is.states partials
  all_partials = record {
    grid = at.fits;
    tells = tells;
    count = done.handed;
    each = λ t below. subst (λ n. ArePartialsOf k g merging is.states n (partials_in partials t)) (are_marked.number t below) (summed t below).handed;
  }

  -- each tree can take the sums
  words : (c : CellKey) (i : ℕ) → FitsSigned w64 (component_of is.states i c)
  words c i = elim (leaf_told g c) [
    | inl leaf ↦ (
        let cell : IsCell k.dim c = subst (λ d. IsCell d c) at.fits.dim leaf.cell in
        let o = owner_exists k c at.fits.cuts cell (level_in k g c at.fits (leaf_there g c leaf)) in
        let own : Owns k (store_of h.marked o.0).tree c = subst (λ n. Owns k n c) (sym (are_marked.number o.0 o.1.tree)) o.1 in
        (summed o.0 o.1.tree).words c own leaf i)
    | inr apart ↦ none_fits (map.get is.states c) i (is.made.others c apart)
  ]

  pub takes_sums : AllTakeSums k partials finished
  takes_sums = record {
    trees = finished_trees k kernel.parts swept_dir w step h.marked finished partials h.noted new h.late at.fits done;
    each = λ t below. partials_can_be_added k g marks merging is.states partials all_partials words t;
  }

  abbrev means : MeanStep
  means = record {
    parts = kernel.parts;
    updated = kernel.updated;
    marked = kernel.marked;
    old = g;
    before = f;
    states = is.states;
    new = later;
    after = field;
    merging = merging;
    cells = merging_in partials;
  }

  tree_step : IsTreeStep k means
  tree_step = record {
    fits = at.fits;
    step = record { deepest = at.fits.deepest; old_grid = at.fits.grid; new_grid = fits.grid; made = is.made; step = is };
    field = new_states.field;
    tells = tells;
    lists = partials_list_merging k g marks merging is.states partials all_partials;
  }

  abbrev primary_notes : List Note
  primary_notes = by_trees k.trees (note_over (sizes_of k) step Primary g)

  abbrev secondary_notes : List Note
  secondary_notes = by_trees k.trees (note_over (sizes_of k) step Secondary g)

  computing_noted : new ≡ old ++ computing_notes (sizes_of k) k.trees step g
  computing_noted = both_noted old h.noted new primary_notes secondary_notes h.primary.told.noted done.counted.noted

  module _ (after : List TreeLists) (settled : IsSettled k partials finished after) where
    sums_lists : AllHaveLists k dir g settled.added
    sums_lists = added_lists k partials finished settled.added settled.sums dir g lists

    pub after_lists : AllHaveLists k dir g after
    after_lists = lists_after Second k dir g settled.added after sums_lists settled.second

    first_says : (t : ℕ) → TreeSays k g t (AfterFirst k w) (copies_of (store_of h.marked) t)
    first_says t v has = subst (λ n. TreeSays k g n (AfterFirst k w) (copies_of (store_of h.marked) t)) (are_marked.number t has.corner.tree) (are_marked.each t has.corner.tree).says v has

    -- what a secondary sweep changes, and the sums after it
    secondary_changes : (t : ℕ) → IsSwept k g t (MeanSecondaryChanges k means t) (copies_of (store_of h.marked) t) (copies_of (store_of finished) t)
    secondary_changes t v has =
        let s = summed t has.corner.tree in
        let a = subst (λ n. IsSwept k g n (SummedChanges k kernel.parts w merging is.states n) (copies_of (store_of h.marked) t) (copies_of (store_of finished) t)) (are_marked.number t has.corner.tree) s.slots v has in
        record {
          key = a.key;
          size = a.size;
          inside = λ n c below there.
              let x = a.inside n c below there in
              record {
                status = x.status;
                value = x.value;
                mark = x.mark;
                leaf = λ owns leaf. inr (x.leaf owns leaf);
                refined = λ owns refined apart. x.refined owns refined;
                intent = x.intent;
              };
          outside = a.outside;
          unused = a.unused;
        }

    holds : (t : ℕ) → t < k.trees → HoldsVertices k g t (store_of finished t)
    holds t below = (lists_hold_vertices k g t dir (store_of finished t) at.fits below (lists.each t below)).1

    values : (t : ℕ) → t < k.trees → HaveValues k g kernel.parts t (copies (store_of finished t).lanes.input)
    values t below v n c has low there owns refined =
        let s = summed t below in
        let a = subst (λ m. IsSwept k g m (SummedChanges k kernel.parts w merging is.states m) (copies_of (store_of h.marked) t) (copies_of (store_of finished) t)) (are_marked.number t below) s.slots v has in
        ((a.inside n c low there).refined owns refined).count

    added_changes : (t : ℕ) → IsSwept k g t (AddedChanges k means t) (copies_of (store_of finished) t) (copies_of (store_of settled.added) t)
    added_changes t v has = sums_are_added k means marks partials t (store_of finished t) (store_of settled.added t) all_partials refl (holds t has.corner.tree) (values t has.corner.tree) (settled.sums.each t has.corner.tree) v has

    moves : Steps k w (copies_of (store_of before)) (copies_of (store_of h.swept)) (copies_of (store_of h.marked)) (copies_of (store_of settled.added)) (copies_of (store_of after))
    moves = record {
      primary = λ t v has. (h.primary.trees.changed t has.corner.tree).slots w by v has;
      first = owners_taken First k swept_dir g h.swept h.marked at.fits swept_lists h.first;
      secondary = λ t. means_make_secondary k means t (copies_of (store_of h.marked) t) (copies_of (store_of finished) t) (copies_of (store_of settled.added) t) tree_step (first_says t) (secondary_changes t) (added_changes t);
      second = owners_taken Second k dir g settled.added after at.fits sums_lists settled.second;
    }

    stands_before : StandFor k (copies_of (store_of before)) g f
    stands_before = copies_stand k at.dir g f before at.fits at.field.leaves at.stand

    module _ (grows : TaleGrows) where
      swept_tales : HaveTales k.trees h.swept h.noted
      swept_tales = subst (HaveTales k.trees h.swept) (sym h.primary.told.noted)
          (tales_grow (note_over (sizes_of k) step Primary g) (λ s. refl) grows (λ s e. absurd (omega (arith, e))) k.trees before h.swept old at.tales (λ t below. (h.primary.trees.changed t below).tale))

      finished_tales : HaveTales k.trees finished new
      finished_tales = subst (HaveTales k.trees finished) (sym done.counted.noted)
          (tales_grow (note_over (sizes_of k) step Secondary g) (λ s. refl) grows (λ s e. absurd (omega (arith, e))) k.trees h.marked finished h.noted
          (λ t below. subst (TellsSinceRaised (notes_of t h.noted)) (sym (tale_stays First k h.swept h.marked t below h.first)) (swept_tales t below)) (λ t below. (done.trees.changed t below).tale))

      tales : HaveTales k.trees after new
      tales t below = subst (TellsSinceRaised (notes_of t new)) (sym (tale_stays Second k settled.added after t below settled.second ∙ added_tale k partials finished settled.added settled.sums t below)) (finished_tales t below)

      -- without a criterion the trees are at the next field then
      pub took_plain : KeepsAll kernel.marked → (size : ℕ) → size ≡ cells_of later → cells_of later ≤ 200000 → TookStep kernel false k g f step after old new size
      took_plain keeps size counted room =
          let same : later ≡ g = kept_grid_stays g later (marks_of kernel.marked g f) (λ c. keeps (state_at f c) (sides_of g f c) c.level) is.grid in
          record {
            grid = later;
            field = field;
            served = record { step = is; room = room };
            at = record {
              few = at.few;
              fits = fits;
              field = step_keeps_parts kernel.parts kernel.updated kernel.marked g f later field (deep_grid k g at.fits) at.field parts is;
              dir = dir;
              stand = all_stand k dir later field after (subst (λ t. AllHaveLists k dir t after) (sym same) after_lists)
                  (plain_step_stands kernel.updated kernel.marked k g f later field (copies_of (store_of before)) (copies_of (store_of h.swept)) (copies_of (store_of h.marked)) (copies_of (store_of settled.added)) (copies_of (store_of after)) stands_before keeps is moves);
              tales = tales;
              counted = counted;
              room = room;
            };
            noted = computing_noted ∙ ap (λ xs. old ++ xs) (sym (append-nil (computing_notes (sizes_of k) k.trees step g)));
          }

    says : AllSay k g (λ t. AfterSecond w) (copies_of (store_of after))
    says = second_exchange k w (copies_of (store_of settled.added)) (copies_of (store_of after)) at.fits (λ t. secondary_sweep k w t (copies_of (store_of h.marked) t) (copies_of (store_of settled.added) t) is.grid (first_says t) (moves.secondary t)) moves.second

    stands : (t : ℕ) → t < k.trees → StandsBefore k.depth (range_of k t) t dir g later (store_of after t)
    stands t below = said_is_before k w t t dir (store_of after t) at.fits below (after_lists.each t below) (says t)

    -- with one they can be adapted,
    pub can_adapt : AllCanAdapt k dir w after
    can_adapt = record {
      grid = fits;
      count = after_lists.count;
      number = λ t below. (after_lists.each t below).tree;
      way = λ t below. (after_lists.each t below).dir;
      each = λ t below.
          let number : (store_of after t).tree ≡ t = (after_lists.each t below).tree in
          record {
            old_grid = at.fits;
            new_grid = fits;
            step = record { grid = at.fits.grid; old_dim = at.fits.dim; step = inr (marks_of kernel.marked g f, is.grid) };
            tree = omega (arith, below, number);
            before = subst (λ n. StandsBefore k.depth (range_of k n) n (store_of after t).dir g later (store_of after t)) (sym number)
                (subst (λ d. StandsBefore k.depth (range_of k t) t d g later (store_of after t)) (sym (after_lists.each t below).dir) (stands t below));
          };
    }

    -- to the grid that their slots tell,
    pub told_later : later ≡ told_grid k.dim after
    told_later = sym (told_is_next k w dir after at.fits fits is.grid after_lists.count stands)

    module _ (grows : TaleGrows) (last : List TreeLists) (noted : List Note) (a : IsAdaptedStep k dir w step after last new noted) where
      new_lists : AllHaveLists k (turned_round dir) later a.adapted
      new_lists = adapted_lists k dir w step after a.adapted new noted can_adapt a.sweeps

      last_stand : RefinesAbove kernel.marked k.depth → StandFor k (copies_of (store_of last)) later field
      last_stand deep = step_stands kernel.updated kernel.marked k g f later field (copies_of (store_of before)) (copies_of (store_of h.swept)) (copies_of (store_of h.marked)) (copies_of (store_of settled.added)) (copies_of (store_of after))
          (copies_of (store_of a.adapted)) (copies_of (store_of last)) stands_before deep is moves
          (λ t v has. (a.sweeps.trees.changed t has.corner.tree).slots v has) (owners_taken Third k (turned_round dir) later a.adapted last fits new_lists a.third)

      adapted_tales : HaveTales k.trees a.adapted noted
      adapted_tales = subst (HaveTales k.trees a.adapted) (sym a.sweeps.noted)
          (tales_grow (note_adapted (sizes_of k) step g later) (λ s. refl) grows (λ s e. absurd (omega (arith, e))) k.trees after a.adapted new (tales grows) (λ t below. (a.sweeps.trees.changed t below).tale))

      -- and are at the next grid and field then
      pub took_adapting : RefinesAbove kernel.marked k.depth → (size : ℕ) → size ≡ cells_of later → cells_of later ≤ 200000 → TookStep kernel true k g f step last old noted size
      took_adapting deep size counted room = record {
        grid = later;
        field = field;
        served = record { step = is; room = room };
        at = record {
          few = at.few;
          fits = fits;
          field = step_keeps_parts kernel.parts kernel.updated kernel.marked g f later field (deep_grid k g at.fits) at.field parts is;
          dir = turned_round dir;
          stand = all_stand k (turned_round dir) later field last (lists_after Third k (turned_round dir) later a.adapted last new_lists a.third) (last_stand deep);
          tales = λ t below. subst (TellsSinceRaised (notes_of t noted)) (sym (tale_stays Third k a.adapted last t below a.third)) (adapted_tales t below);
          counted = counted;
          room = room;
        };
        noted = a.sweeps.noted ∙ ap (λ xs. xs ++ by_trees k.trees (note_adapted (sizes_of k) step g later)) computing_noted ∙ append_assoc old (computing_notes (sizes_of k) k.trees step g) (by_trees k.trees (note_adapted (sizes_of k) step g later));
      }
