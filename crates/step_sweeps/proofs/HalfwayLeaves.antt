-- What the secondary visitor does as a cell is entered: a leaf of the tree's own is told its new value, if it is an enclave, and whether it splits.
use Rattle.std.proofs.Common.{◌≡◌, ◌⊎◌, ℕ, true, false, List, [], ◌∷◌, ◌++◌, Option, None, refl, ap, sym, ◌∙◌, subst, inl, inr, ⊎_elim}
use Rattle.std.specs.Prelude.{unwrap_or}
use Rattle.std.proofs.lemmas.Bool.{false≢true}
use Rattle.peano_keys.specs.declared.cell.CellKey.{CellKey}
use Rattle.peano_keys.specs.declared.state.State.{State}
use Rattle.peano_keys.specs.Cell.{IsCell}
use Rattle.peano_keys.specs.Grid.{has_cell, is_leaf}
use Rattle.peano_keys.specs.Field.{States, value_of}
use Rattle.peano_keys.specs.Next.{Splits, IsNextGrid}
use Rattle.peano_curve.specs.declared.order.Direction.{Direction}
use Rattle.peano_records.specs.declared.slot.Slot.{Slot}
use Rattle.peano_records.specs.declared.view.CellView.{CellView}
use Rattle.hanging_nodes.proofs.TwoGrids.{leaf_of}
use Rattle.curve_cuts.specs.Cuts.{Cuts, IsCutGrid, Owns}
use Rattle.curve_cuts.specs.Enclave.{OwnsLeaf, IsEnclave, IsSkeleton}
use Rattle.curve_cuts.specs.Keys.{CutPoints, cuts_of}
use Rattle.spacetree.specs.Fields.{IsFieldOn}
use Rattle.tree_automaton.specs.Sweep.{TreeSweep}
use Rattle.tree_automaton.specs.Promises.{Keeps}
use Rattle.tree_automaton.specs.Views.{ViewFits, value_at_home}
use Rattle.step_phases.specs.Change.{Change, Gives}
use Rattle.step_world.specs.Failing.{FailsAmong}
use Rattle.swept_slots.proofs.Given.{EachVertex}
use Rattle.step_sweeps.specs.Told.{IsTold}
use Rattle.step_sweeps.specs.Enclaves.{DecidesEnclave}
use Rattle.step_sweeps.specs.Kernels.{Kernel, HasParts, IsChangeBy, new_in, failing_with}
use Rattle.step_sweeps.specs.Secondaries.{SecondaryWork, CellFinished, LeafFinished, leaf_intends, one_if}
use Rattle.step_sweeps.proofs.Plain.{home_shows, leaf_shown, leaf_seen, decides_enclave, decides_skeleton}
use Rattle.step_sweeps.proofs.Primaries.{computes, is_new}
use Rattle.step_sweeps.proofs.LeastFailing.{Among, other_more, leaf_more}
use Rattle.step_sweeps.specs.Tasks.{Answers}
use Rattle.step_sweeps.proofs.OwnCounts.{IsCounted}
use Rattle.step_sweeps.proofs.GatherCounts.{HaveGathered, gathered_more, gathered_same}
use Rattle.stack_law.specs.Once.{IsIn}
use Rattle.step_sweeps.proofs.HalfwaySlots.{Halfway, Works, leaf_works}
use Rattle.step_sweeps.proofs.HalfwayViews.{IsKnown, plain_sweep}
use Rattle.step_sweeps.proofs.HalfwayCalls.{KeepsMemory, KeepsSums, IsSame, EachChanges, kept_by, dim_is, told_works, passed_by, own_leaf, leaf_own, split_is}

module _ {S : Type 0} (kernel : S → Kernel) where
  -- finishing a leaf changes what was found alone
  finish_keeps : (a : SecondaryWork S) (v : CellView) (next : Option State) (m : SecondaryWork S) → LeafFinished kernel a v next m → KeepsMemory a m × KeepsSums a m × (m.splits ≡ a.splits) × (m.merges ≡ a.merges)
  finish_keeps a v next m (inl h) = (kept_by a m _ h.found (refl, refl, refl, refl), (ap (λ (x : SecondaryWork S). x.sums) h.found, ap (λ (x : SecondaryWork S). x.partials) h.found), ap (λ (x : SecondaryWork S). x.splits) h.found, ap (λ (x : SecondaryWork S). x.merges) h.found)
  finish_keeps a v next m (inr h) = (kept_by a m a h.same (refl, refl, refl, refl), (ap (λ (x : SecondaryWork S). x.sums) h.same, ap (λ (x : SecondaryWork S). x.partials) h.same), ap (λ (x : SecondaryWork S). x.splits) h.same, ap (λ (x : SecondaryWork S). x.merges) h.same)

  pub enter_keeps : (a : SecondaryWork S) (v u : CellView) (b : SecondaryWork S) → CellFinished kernel a v u b → KeepsMemory a b × KeepsSums a b
  enter_keeps a v u b (inl h) =
      let kept = finish_keeps a v h.next h.after h.finished in
      (kept_by a b _ h.counted kept.0, (ap (λ (x : SecondaryWork S). x.sums) h.counted ∙ kept.1.0, ap (λ (x : SecondaryWork S). x.partials) h.counted ∙ kept.1.1))
  enter_keeps a v u b (inr h) = (kept_by a b a h.1.same (refl, refl, refl, refl), (ap (λ (x : SecondaryWork S). x.sums) h.1.same, ap (λ (x : SecondaryWork S). x.partials) h.1.same))

module _ {S : Type 0} (kernel : S → Kernel) (start : SecondaryWork S) (w : Change) (dir : Direction) (f : States) (number : ℕ) (task : CellKey → ℕ)
    (fits : IsCutGrid (cuts_of start.keys) w.old) (change : IsNextGrid w.old w.mark w.new) (field : IsFieldOn (kernel start.solver).parts w.old f) (by : IsChangeBy (kernel start.solver) w.old f w) where
  abbrev k : Cuts
  k = cuts_of start.keys

  abbrev t : ℕ
  t = start.tree

  abbrev p : TreeSweep
  p = plain_sweep k t dir w.old f number task

  abbrev made_with : Kernel
  made_with = kernel start.solver

  module _ (c : CellKey) (v u : CellView) (view : ViewFits p c v) (keeps : Keeps v u) (cell : IsCell w.old.dim c) (there : has_cell w.old c ≡ true) (known : EachVertex p (IsKnown k w) v) where
    shown : is_leaf w.old c ≡ true → value_at_home k.dim v ≡ value_of w.old f c
    shown leaf = subst (λ d. value_at_home d v ≡ value_of w.old f c) fits.dim (home_shows p refl refl c v view cell there)

    -- what the solver makes of the view of a leaf is its new value
    new_is : is_leaf w.old c ≡ true → new_in made_with k.dim v ≡ w.next c
    new_is leaf = is_new made_with k t w f by fits field c v view.view.key view.view.field.0 shown (leaf_shown p refl refl c v view) (leaf_seen p refl refl c v view) cell leaf ∙ sym (by.leaves c (record { cell = cell; leaf = leaf }))

    has_parts : Owns k t c → is_leaf w.old c ≡ true → HasParts made_with k.dim v
    has_parts owns leaf = (computes made_with k t w f by fits field c v view.view.key view.view.field.0 shown (leaf_shown p refl refl c v view) (leaf_seen p refl refl c v view) cell owns leaf there).parts

    owns_leaf : Owns k t c → is_leaf w.old c ≡ true → OwnsLeaf k w.old t c
    owns_leaf owns leaf = record { cell = subst (λ d. IsCell d c) fits.dim cell; leaf = leaf; owns = owns }

    -- which kind of leaf it is
    pub Finished : SecondaryWork S → Option State → SecondaryWork S → Type 0
    Finished a next m = (IsEnclave k w.old t c × (next ≡ w.next c) × (m.failing ≡ failing_with a.failing c (w.next c)) × Answers a.tasks m.tasks) ⊎ (IsSkeleton k w.old t c × (next ≡ None) × (m.failing ≡ a.failing) × (m.tasks ≡ a.tasks))

    finished_is : (a m : SecondaryWork S) (next : Option State) → IsSame start w dir f number task a → Owns k t c → is_leaf w.old c ≡ true → LeafFinished kernel a v next m → Finished a next m
    unfolding Finished
    finished_is a m next same owns leaf (inl h) =
        let decides : DecidesEnclave k t v true = subst (λ n. DecidesEnclave k n v true) same.1 (subst (λ (x : CutPoints). DecidesEnclave (cuts_of x) a.tree v true) same.0 h.enclave) in
        let new : new_in (kernel a.solver) a.keys.dim v ≡ w.next c = ap (λ (x : S). new_in (kernel x) a.keys.dim v) same.3 ∙ (ap (λ (x : CutPoints). new_in made_with x.dim v) same.0 ∙ new_is leaf) in
        inl (
          (decides_enclave p refl refl c v view k t fits.dim (owns_leaf owns leaf) true decides).0 refl,
          h.next_is ∙ new,
          ap (λ (x : SecondaryWork S). x.failing) h.found ∙ (ap (λ q. failing_with a.failing q (new_in (kernel a.solver) a.keys.dim v)) view.view.key ∙ ap (failing_with a.failing c) new),
          h.answered,
        )
    finished_is a m next same owns leaf (inr h) = inr (
      ⊎_elim
          (λ skeleton.
          let decides : DecidesEnclave k t v false = subst (λ n. DecidesEnclave k n v false) same.1 (subst (λ (x : CutPoints). DecidesEnclave (cuts_of x) a.tree v false) same.0 skeleton) in
          (decides_skeleton p refl refl c v view k t fits.dim (owns_leaf owns leaf) false decides).0 refl)
          (λ other. absurd (other (subst (λ (x : S). HasParts (kernel x) a.keys.dim v) (sym same.3) (subst (λ (x : CutPoints). HasParts made_with x.dim v) (sym same.0) (has_parts owns leaf)))))
          h.other,
      h.none,
      ap (λ (x : SecondaryWork S). x.failing) h.same,
      ap (λ (x : SecondaryWork S). x.tasks) h.same,
    )

    -- what a leaf is told gives its new value
    gives : (a m : SecondaryWork S) (next : Option State) → Finished a next m → (x : Slot) → Halfway k w c x → Gives (w.next c) (unwrap_or next x.next)
    unfolding Finished
    gives a m next (inl h) x half z is = ap (λ o. unwrap_or o x.next) (h.1 ∙ is)
    gives a m next (inr h) x half z is = ap (λ o. unwrap_or o x.next) h.1 ∙ half.next t h.0 z is

    -- as a cell is entered
    pub enter_works : (a b : SecondaryWork S) → IsSame start w dir f number task a → CellFinished kernel a v u b → EachChanges start w dir f number task c (Works k w t false c) v u
    enter_works a b same (inl h) =
        let own = leaf_own start w dir f number task fits change c v u view keeps cell there known a same h.own in
        let kind = finished_is a h.after h.next same own.0 own.1 h.finished in
        told_works start w dir f number task fits change c v u view keeps cell there known false (leaf_intends h.next h.split) (subst (λ d. IsTold d (leaf_intends h.next h.split) v u) (dim_is start w dir f number task fits change a same.0) h.told)
        (leaf_works k w t change c h.next h.split (gives a h.after h.next kind) (split_is start w dir f number task fits change c v u view keeps cell there known h.split h.decides) own.1)
    enter_works a b same (inr h) = passed_by start w dir f number task fits change c v u view keeps cell there known false h.1.view (λ owns plain. h.0 (own_leaf start w dir f number task fits change c v u view keeps cell there known a same owns (leaf_of w.old c there plain)))

    -- a leaf of the tree's own that splits is counted
    pub enter_counts : (a b : SecondaryWork S) → IsSame start w dir f number task a → CellFinished kernel a v u b → IsCounted (Owns k t c × Splits w.old w.mark c) a.splits b.splits × (b.merges ≡ a.merges)
    enter_counts a b same (inl h) =
        let own = leaf_own start w dir f number task fits change c v u view keeps cell there known a same h.own in
        let splits = split_is start w dir f number task fits change c v u view keeps cell there known h.split h.decides in
        let kept = finish_keeps kernel a v h.next h.after h.finished in (
          record { passes = h.split; is = ((λ e. (own.0, splits.0 e)), (λ s. splits.1 s.1)); count = ap (λ (x : SecondaryWork S). x.splits) h.counted ∙ ap (one_if h.split) kept.2 },
          ap (λ (x : SecondaryWork S). x.merges) h.counted ∙ kept.3,
        )
    enter_counts a b same (inr h) = (
      record { passes = false; is = ((λ e. absurd (false≢true e)), (λ s. absurd (h.0 (own_leaf start w dir f number task fits change c v u view keeps cell there known a same s.0 s.1.leaf)))); count = ap (λ (x : SecondaryWork S). x.splits) h.1.same },
      ap (λ (x : SecondaryWork S). x.merges) h.1.same,
    )

    -- and an enclave leaf that has no new value may be the least
    pub enter_finds : (a b : SecondaryWork S) (cells : List CellKey) → IsSame start w dir f number task a → CellFinished kernel a v u b → FailsAmong (Among cells (IsEnclave k w.old t)) w.next a.failing → FailsAmong (Among (cells ++ c ∷ []) (IsEnclave k w.old t)) w.next b.failing
    unfolding Finished
    enter_finds a b cells same (inl h) least =
        let own = leaf_own start w dir f number task fits change c v u view keeps cell there known a same h.own in
        subst (λ o. FailsAmong (Among (cells ++ c ∷ []) (IsEnclave k w.old t)) w.next o) (sym (ap (λ (x : SecondaryWork S). x.failing) h.counted)) (by_kind (finished_is a h.after h.next same own.0 own.1 h.finished))
      where
        by_kind : Finished a h.next h.after → FailsAmong (Among (cells ++ c ∷ []) (IsEnclave k w.old t)) w.next h.after.failing
        by_kind (inl e) = subst (λ o. FailsAmong (Among (cells ++ c ∷ []) (IsEnclave k w.old t)) w.next o) (sym e.2) (leaf_more w.next cells (IsEnclave k w.old t) c a.failing e.0 least)
        by_kind (inr e) = subst (λ o. FailsAmong (Among (cells ++ c ∷ []) (IsEnclave k w.old t)) w.next o) (sym e.2) (other_more w.next cells (IsEnclave k w.old t) c a.failing (λ enclave. enclave.1 e.0.1) least)
    enter_finds a b cells same (inr h) least =
        subst (λ o. FailsAmong (Among (cells ++ c ∷ []) (IsEnclave k w.old t)) w.next o) (sym (ap (λ (x : SecondaryWork S). x.failing) h.1.same))
        (other_more w.next cells (IsEnclave k w.old t) c a.failing (λ enclave. h.0 (own_leaf start w dir f number task fits change c v u view keeps cell there known a same enclave.0.owns enclave.0.leaf)) least)

    -- and an enclave leaf gathers a task
    pub enter_gathers : (a b : SecondaryWork S) (cells : List CellKey) → (IsIn c cells → ⊥) → IsSame start w dir f number task a → CellFinished kernel a v u b → HaveGathered cells (IsEnclave k w.old t) start.tasks a.tasks → HaveGathered (cells ++ c ∷ []) (IsEnclave k w.old t) start.tasks b.tasks
    unfolding Finished
    enter_gathers a b cells new same (inl h) have =
        let own = leaf_own start w dir f number task fits change c v u view keeps cell there known a same h.own in
        subst (HaveGathered (cells ++ c ∷ []) (IsEnclave k w.old t) start.tasks) (sym (ap (λ (x : SecondaryWork S). x.tasks) h.counted)) (by_kind (finished_is a h.after h.next same own.0 own.1 h.finished))
      where
        by_kind : Finished a h.next h.after → HaveGathered (cells ++ c ∷ []) (IsEnclave k w.old t) start.tasks h.after.tasks
        by_kind (inl e) = gathered_more cells (IsEnclave k w.old t) c start.tasks a.tasks h.after.tasks new e.0 e.3 have
        by_kind (inr e) = subst (HaveGathered (cells ++ c ∷ []) (IsEnclave k w.old t) start.tasks) (sym e.3) (gathered_same cells (IsEnclave k w.old t) c start.tasks a.tasks (λ enclave. enclave.1 e.0.1) have)
    enter_gathers a b cells new same (inr h) have =
        subst (HaveGathered (cells ++ c ∷ []) (IsEnclave k w.old t) start.tasks) (sym (ap (λ (x : SecondaryWork S). x.tasks) h.1.same))
        (gathered_same cells (IsEnclave k w.old t) c start.tasks a.tasks (λ enclave. h.0 (own_leaf start w dir f number task fits change c v u view keeps cell there known a same enclave.0.owns enclave.0.leaf)) have)
