-- What a cell adds to the sums as it is left, and what is handed out of it.
use Rattle.std.proofs.Common.{◌≡◌, ◌↔◌, ℕ, ◌+◌, ◌<◌, ◌≤◌, ◌&&◌, ℤ, pos, ◌*ℤ◌, Bool, true, false, not, if◌then◌else◌, List, [], ◌∷◌, ◌++◌, length, refl, ap, sym, ◌∙◌, subst, inl, inr, arith, length-set}
use Rattle.std.specs.Prelude.{IsTrue, slice_set}
use Rattle.std.specs.Int.{w128, int_wrap}
use Rattle.std.proofs.lemmas.Int.{int_wrap_fits, SFits-int_wrap}
use Rattle.std.proofs.lemmas.Bool.{false≢true}
use Rattle.stack_law.specs.Once.{IsIn}
use Rattle.peano_keys.specs.declared.cell.CellKey.{CellKey}
use Rattle.peano_keys.specs.declared.dim.Dim.{Dim}
use Rattle.peano_keys.specs.declared.state.State.{State}
use Rattle.peano_keys.specs.Cell.{IsCell}
use Rattle.peano_keys.specs.State.{value_at}
use Rattle.peano_keys.specs.Grid.{has_cell, is_leaf, is_refined}
use Rattle.peano_keys.specs.Field.{States, state_at}
use Rattle.peano_keys.specs.Next.{Merges, IsNextGrid}
use Rattle.peano_curve.specs.declared.order.Direction.{Direction}
use Rattle.peano_records.specs.declared.view.CellView.{CellView}
use Rattle.hanging_nodes.proofs.TwoGrids.{leaf_not, leaf_of}
use Rattle.curve_cuts.specs.Cuts.{Cuts, IsCutGrid, Held, Owns}
use Rattle.curve_cuts.specs.Keys.{CutPoints, cuts_of}
use Rattle.sweep_visits.specs.Visits.{Visit, leave}
use Rattle.tree_automaton.specs.Sweep.{TreeSweep}
use Rattle.tree_automaton.specs.Promises.{Keeps}
use Rattle.tree_automaton.specs.Views.{ViewFits}
use Rattle.step_phases.specs.Change.{Change, Gives}
use Rattle.swept_slots.proofs.Given.{EachVertex}
use Rattle.peano_keys.specs.Sums.{cell_weight}
use Rattle.mean_values.specs.NextSums.{rounded, TellsMerges}
use Rattle.tree_sums.specs.Trees.{owned_by, shared_by, is_within, IsSharedCell}
use Rattle.tree_sums.proofs.Trees.{owned_is_told, shared_by_own_range}
use Rattle.peano_records.specs.declared.partials.Partial.{Partial}
use Rattle.step_sweeps.specs.Kernels.{IsOwnLeaf}
use Rattle.step_sweeps.specs.Secondaries.{SecondaryWork, SumsLeft, LeafAdds, IsOwnRefined, IsRefinedView, HasWords, sum_of, sums_at, merging_at, added, weighed, all_rounded, weight_in, is_whole, next_at_home}
use Rattle.step_sweeps.specs.Sweeps.{AreNewStatesOf}
use Rattle.step_sweeps.proofs.OwnCounts.{false_by}
use Rattle.step_sweeps.proofs.Plain.{refined_shown, refined_seen}
use Rattle.step_sweeps.proofs.HalfwayViews.{IsKnown, plain_sweep}
use Rattle.step_sweeps.proofs.HalfwayCalls.{KeepsMemory, IsSame, own_leaf, leaf_own, own_refined, refined_own}
use Rattle.step_sweeps.proofs.TreeSums.{word_same, has, tells, leaf_tells, other_leaf_tells, whole_tells, other_whole_tells, shared_tells}
use Rattle.step_sweeps.proofs.LevelSums.{HaveSums, AddsTold, four_at, sums_left, sums_passed}
use Rattle.step_sweeps.proofs.HandedOut.{HaveHanded, handed_same, handed_more}

-- adding to the sums changes nothing else
pub record KeepsRest {S : Type 0} (m n : SecondaryWork S) : Type 0 where
  pub memory : KeepsMemory m n
  pub levels : length n.sums ≡ length m.sums
  pub splits : n.splits ≡ m.splits
  pub merges : n.merges ≡ m.merges
  pub failing : n.failing ≡ m.failing
  pub tasks : n.tasks ≡ m.tasks

rest_by : {S : Type 0} (m n e : SecondaryWork S) → n ≡ e → KeepsRest m e → KeepsRest m n
rest_by m n e is h = subst (KeepsRest m) (sym is) h

pub sums_keep : {S : Type 0} (m : SecondaryWork S) (u : CellView) (n : SecondaryWork S) → SumsLeft m u n → KeepsRest m n
sums_keep m u n (inl h) = rest_by m n _ h.adds (record { memory = (refl, refl, refl, refl); levels = length-set m.sums u.key.level _; splits = refl; merges = refl; failing = refl; tasks = refl })
sums_keep m u n (inr (inl h)) = rest_by m n _ h.adds (record { memory = (refl, refl, refl, refl); levels = length-set m.sums u.key.level _; splits = refl; merges = refl; failing = refl; tasks = refl })
sums_keep m u n (inr (inr (inl h))) = rest_by m n _ h.adds (record { memory = (refl, refl, refl, refl); levels = length-set m.sums u.key.level _; splits = refl; merges = refl; failing = refl; tasks = refl })
sums_keep m u n (inr (inr (inr h))) = rest_by m n m h.same (record { memory = (refl, refl, refl, refl); levels = refl; splits = refl; merges = refl; failing = refl; tasks = refl })

-- two tests of one thing agree
pub same_test : (a b : Bool) (P : Type 0) → (IsTrue a ↔ P) → ((b ≡ true) ↔ P) → b ≡ a
same_test true true P x y = refl
same_test true false P x y = y.1 (x.0 refl)
same_test false true P x y = sym (x.1 (y.0 refl))
same_test false false P x y = refl

wraps_twice : (z : ℤ) → int_wrap w128 (int_wrap w128 z) ≡ int_wrap w128 z
wraps_twice z = int_wrap_fits w128 (int_wrap w128 z) (SFits-int_wrap w128 z)

module _ {S : Type 0} (start : SecondaryWork S) (w : Change) (dir : Direction) (f : States) (number : ℕ) (task : CellKey → ℕ)
    (fits : IsCutGrid (cuts_of start.keys) w.old) (change : IsNextGrid w.old w.mark w.new) (tree : start.tree < (cuts_of start.keys).trees)
    (parts : ℕ) (merging : CellKey → Bool) (states : States) (new_states : AreNewStatesOf w parts states) (merges : TellsMerges w.old w.mark merging) where
  abbrev k : Cuts
  k = cuts_of start.keys

  abbrev t : ℕ
  t = start.tree

  abbrev dim : Dim
  dim = w.old.dim

  abbrev p : TreeSweep
  p = plain_sweep k t dir w.old f number task

  abbrev pub has_of : ℕ → CellKey → ℤ
  has_of i c = has k w.old merging states t i c

  abbrev pub tells_of : ℕ → CellKey → ℤ
  tells_of i c = tells k w.old merging states t i c

  -- what is so as a cell was left
  pub record AddedUp (c : CellKey) (so_far : List Visit) (cells : List CellKey) (n : SecondaryWork S) : Type 0 where
    pub sums : HaveSums tells_of (so_far ++ leave c ∷ []) n.sums
    pub partials : HaveHanded k w.old merging t has_of (cells ++ c ∷ []) n.partials
    pub words : Owns k t c → is_leaf w.old c ≡ true → HasWords (state_at states c)

  module _ (c : CellKey) (v u : CellView) (view : ViewFits p c v) (keeps : Keeps v u) (cell : IsCell dim c) (there : has_cell w.old c ≡ true) (known : EachVertex p (IsKnown k w) v) (held : Held k t c)
      (so_far : List Visit) (cells : List CellKey) (new : IsIn c cells → ⊥) (m : SecondaryWork S) (same : IsSame start w dir f number task m) (levels : length m.sums ≡ 14)
      (leaf_next : Owns k t c → is_refined w.old c ≡ false → Gives (w.next c) (next_at_home dim u))
      (flag : is_refined w.old c ≡ true → Owns k t c → IsTrue (merging_at m (c.level + 1)) ↔ Merges w.old w.mark c)
      (found : is_refined w.old c ≡ true → (i : ℕ) → i < 4 → sum_of (sums_at m (c.level + 1)) i ≡ has_of i c)
      (have : HaveSums tells_of so_far m.sums) (handed : HaveHanded k w.old merging t has_of cells m.partials) where
    key : u.key ≡ c
    key = keeps.key ∙ view.view.key

    leaf_here : IsOwnLeaf (cuts_of m.keys) m.tree u → Owns k t c × (is_leaf w.old c ≡ true)
    leaf_here h = leaf_own start w dir f number task fits change c v u view keeps cell there known m same (record {
      leaf = sym keeps.was ∙ h.leaf;
      level = subst (λ (q : CellKey). q.level ≤ (cuts_of m.keys).depth) keeps.key h.level;
      owns = subst (Owns (cuts_of m.keys) m.tree) keeps.key h.owns;
    })

    leaf_there : Owns k t c → is_leaf w.old c ≡ true → IsOwnLeaf (cuts_of m.keys) m.tree u
    leaf_there owns leaf =
        let h = own_leaf start w dir f number task fits change c v u view keeps cell there known m same owns leaf in
        record {
          leaf = keeps.was ∙ h.leaf;
          level = subst (λ (q : CellKey). q.level ≤ (cuts_of m.keys).depth) (sym keeps.key) h.level;
          owns = subst (Owns (cuts_of m.keys) m.tree) (sym keeps.key) h.owns;
        }

    refined_here : IsOwnRefined (cuts_of m.keys) m.tree u → Owns k t c × (is_refined w.old c ≡ true)
    refined_here h = refined_own start w dir f number task fits change c v u view keeps cell there known m same (record {
      refined = sym keeps.was ∙ h.refined;
      level = subst (λ (q : CellKey). q.level < (cuts_of m.keys).depth) keeps.key h.level;
      owns = subst (Owns (cuts_of m.keys) m.tree) keeps.key h.owns;
    })

    refined_there : Owns k t c → is_refined w.old c ≡ true → IsOwnRefined (cuts_of m.keys) m.tree u
    refined_there owns refined =
        let h = own_refined start w dir f number task fits change c v u view keeps cell there known m same owns refined in
        record {
          refined = keeps.was ∙ h.refined;
          level = subst (λ (q : CellKey). q.level < (cuts_of m.keys).depth) (sym keeps.key) h.level;
          owns = subst (Owns (cuts_of m.keys) m.tree) (sym keeps.key) h.owns;
        }

    view_refined : IsRefinedView (cuts_of m.keys) u → is_refined w.old c ≡ true
    view_refined h = refined_shown p refl refl c v view (sym keeps.was ∙ h.refined)

    refined_view : is_refined w.old c ≡ true → IsRefinedView (cuts_of m.keys) u
    refined_view refined = record {
      refined = keeps.was ∙ refined_seen p refl refl c v view there refined;
      level = subst (λ (x : CutPoints). u.key.level < x.depth) (sym same.0) (subst (λ (q : CellKey). q.level < k.depth) (sym key) (fits.grid.levels c refined));
    }

    -- the words of the visitor, in those of the sweep
    weight_is : weight_in m.keys u ≡ cell_weight k.depth dim c
    weight_is = ap (λ (x : CutPoints). weight_in x u) same.0 ∙ (ap (λ d. cell_weight k.depth d u.key) (sym fits.dim) ∙ ap (cell_weight k.depth dim) key)

    whole_is : is_whole m.keys m.tree u ≡ is_within k t c
    whole_is = ap (λ (x : CutPoints). is_whole x m.tree u) same.0 ∙ (ap (λ n. is_whole start.keys n u) same.1 ∙ ap (is_within k t) key)

    shared_is : shared_by k c ≡ not (is_whole m.keys m.tree u)
    shared_is = shared_by_own_range k t c fits.cuts tree held ∙ ap not (sym whole_is)

    sums_is : sums_at m (u.key.level + 1) ≡ sums_at m (c.level + 1)
    sums_is = ap (λ (q : CellKey). sums_at m (q.level + 1)) key

    flag_is : merging_at m (u.key.level + 1) ≡ merging_at m (c.level + 1)
    flag_is = ap (λ (q : CellKey). merging_at m (q.level + 1)) key

    found_here : is_refined w.old c ≡ true → (i : ℕ) → i < 4 → sum_of (sums_at m (u.key.level + 1)) i ≡ has_of i c
    found_here refined i h = ap (λ x. sum_of x i) sums_is ∙ found refined i h

    merging_is : is_refined w.old c ≡ true → Owns k t c → merging c ≡ merging_at m (u.key.level + 1)
    merging_is refined owns = same_test (merging_at m (c.level + 1)) (merging c) (Merges w.old w.mark c) (flag refined owns) (merges c) ∙ sym flag_is

    owned_told : Owns k t c → owned_by k t c ≡ true
    owned_told owns = (owned_is_told k t c).1 owns

    not_owned : (Owns k t c → ⊥) → owned_by k t c ≡ false
    not_owned none = false_by (owned_by k t c) (λ h. none ((owned_is_told k t c).0 h))

    leaf_stays : is_leaf w.old c ≡ true → merging c ≡ false
    leaf_stays leaf = false_by (merging c) (λ h. false≢true (sym (leaf_not w.old c leaf) ∙ ((merges c).0 h).refined))

    -- a leaf of the tree's own
    home_next : (n : SecondaryWork S) → LeafAdds m u n → next_at_home m.keys.dim u ≡ state_at states c
    home_next n h =
        let own = leaf_here h.own in
        ap (λ (x : CutPoints). next_at_home x.dim u) same.0 ∙ (ap (λ d. next_at_home d u) (sym fits.dim) ∙ leaf_next own.0 (leaf_not w.old c own.1) (state_at states c) (new_states.leaves c (record { cell = cell; leaf = own.1 })))

    leaf_words : (n : SecondaryWork S) (h : LeafAdds m u n) → HasWords (state_at states c)
    leaf_words n h = subst HasWords (home_next n h) h.words

    leaf_adds : (n : SecondaryWork S) (h : LeafAdds m u n) → AddsTold tells_of c (weighed (next_at_home m.keys.dim u) (weight_in m.keys u))
    leaf_adds n h i small =
        let own = leaf_here h.own in
        let s : State = state_at states c in
        ap (int_wrap w128) (ap (λ x. sum_of x i) (ap (λ x. weighed x (weight_in m.keys u)) (home_next n h) ∙ ap (weighed s) weight_is)
        ∙ (four_at (λ j. value_at s j *ℤ pos (cell_weight k.depth dim c)) i small
        ∙ (ap (λ z. z *ℤ pos (cell_weight k.depth dim c)) (sym (word_same (value_at s i) (leaf_words n h i)))
        ∙ sym (leaf_tells k w.old merging states t fits i c (leaf_not w.old c own.1) (leaf_stays own.1) (owned_told own.0)))))

    -- a refined cell that the tree has whole
    whole_adds : is_refined w.old c ≡ true → Owns k t c → is_whole m.keys m.tree u ≡ true → AddsTold tells_of c (if merging_at m (u.key.level + 1) then all_rounded (sums_at m (u.key.level + 1)) (weight_in m.keys u) else sums_at m (u.key.level + 1))
    whole_adds refined owns whole i small = by (merging_at m (u.key.level + 1)) (merging_is refined owns)
      where
        told : tells_of i c ≡ (if merging c then rounded (has_of i c) (cell_weight k.depth dim c) else has_of i c)
        told = whole_tells k w.old merging states t fits i c (shared_is ∙ ap not whole)

        by : (b : Bool) → merging c ≡ b → int_wrap w128 (sum_of (if b then all_rounded (sums_at m (u.key.level + 1)) (weight_in m.keys u) else sums_at m (u.key.level + 1)) i) ≡ int_wrap w128 (tells_of i c)
        by true e =
            ap (int_wrap w128) (four_at (λ j. int_wrap w128 (rounded (sum_of (sums_at m (u.key.level + 1)) j) (weight_in m.keys u))) i small)
            ∙ (wraps_twice (rounded (sum_of (sums_at m (u.key.level + 1)) i) (weight_in m.keys u))
            ∙ ap (int_wrap w128) (ap (λ z. rounded z (weight_in m.keys u)) (found_here refined i small) ∙ (ap (rounded (has_of i c)) weight_is ∙ (sym (ap (λ b. if b then rounded (has_of i c) (cell_weight k.depth dim c) else has_of i c) e) ∙ sym told))))
        by false e = ap (int_wrap w128) (found_here refined i small ∙ (sym (ap (λ b. if b then rounded (has_of i c) (cell_weight k.depth dim c) else has_of i c) e) ∙ sym told))

    -- a shared one
    shared_adds : is_refined w.old c ≡ true → is_whole m.keys m.tree u ≡ false → AddsTold tells_of c (sums_at m (u.key.level + 1))
    shared_adds refined shared i small = ap (int_wrap w128) (found_here refined i small ∙ sym (shared_tells k w.old merging states t fits i c (shared_is ∙ ap not shared)))

    shared_cell : is_refined w.old c ≡ true → is_whole m.keys m.tree u ≡ false → IsSharedCell k w.old t c
    shared_cell refined shared = record { refined = refined; held = held; shared = shared_is ∙ ap not shared }

    whole_cell : is_whole m.keys m.tree u ≡ true → IsSharedCell k w.old t c → ⊥
    whole_cell whole is = false≢true (sym (shared_is ∙ ap not whole) ∙ is.shared)

    leaf_cell : is_leaf w.old c ≡ true → IsSharedCell k w.old t c → ⊥
    leaf_cell leaf is = false≢true (sym (leaf_not w.old c leaf) ∙ is.refined)

    room : c.level < length m.sums
    room = (let deep = cell.level in omega (arith, levels, deep))

    sums_more : (n : SecondaryWork S) (x : List ℤ) → n.sums ≡ slice_set m.sums u.key.level (added (sums_at m u.key.level) x) → AddsTold tells_of c x → HaveSums tells_of (so_far ++ leave c ∷ []) n.sums
    sums_more n x is adds = subst (HaveSums tells_of (so_far ++ leave c ∷ [])) (sym (is ∙ ap (λ (q : CellKey). slice_set m.sums q.level (added (sums_at m q.level) x)) key)) (sums_left tells_of so_far m.sums c have x room adds)

    partials_stay : (n : SecondaryWork S) → n.partials ≡ m.partials → (IsSharedCell k w.old t c → ⊥) → HaveHanded k w.old merging t has_of (cells ++ c ∷ []) n.partials
    partials_stay n is other = subst (HaveHanded k w.old merging t has_of (cells ++ c ∷ [])) (sym is) (handed_same k w.old merging t has_of cells c m.partials other handed)

    not_leaf : is_refined w.old c ≡ true → is_leaf w.old c ≡ true → ⊥
    not_leaf refined leaf = false≢true (sym (leaf_not w.old c leaf) ∙ refined)

    and_same : (a b x y : Bool) → a ≡ b → (b ≡ true → x ≡ y) → (a && x) ≡ (b && y)
    and_same true true x y e h = h refl
    and_same true false x y e h = absurd (false≢true (sym e))
    and_same false true x y e h = absurd (false≢true e)
    and_same false false x y e h = refl

    pub cell_adds : (n : SecondaryWork S) → SumsLeft m u n → AddedUp c so_far cells n
    cell_adds n (inl h) =
        let own = leaf_here h.own in
        record {
          sums = sums_more n (weighed (next_at_home m.keys.dim u) (weight_in m.keys u)) (ap (λ (x : SecondaryWork S). x.sums) h.adds) (leaf_adds n h);
          partials = partials_stay n (ap (λ (x : SecondaryWork S). x.partials) h.adds) (leaf_cell own.1);
          words = λ owns leaf. leaf_words n h;
        }
    cell_adds n (inr (inl h)) =
        let own = refined_here h.own in
        record {
          sums = sums_more n (if merging_at m (u.key.level + 1) then all_rounded (sums_at m (u.key.level + 1)) (weight_in m.keys u) else sums_at m (u.key.level + 1)) (ap (λ (x : SecondaryWork S). x.sums) h.adds) (whole_adds own.1 own.0 h.whole);
          partials = partials_stay n (ap (λ (x : SecondaryWork S). x.partials) h.adds) (whole_cell h.whole);
          words = λ owns leaf. absurd (not_leaf own.1 leaf);
        }
    cell_adds n (inr (inr (inl h))) =
        let refined = view_refined h.refined in
        let owned : IsTrue h.owned ↔ Owns k t c = subst (λ q. IsTrue h.owned ↔ Owns k t q) key (subst (λ i. IsTrue h.owned ↔ Owns k i u.key) same.1 (subst (λ (x : CutPoints). IsTrue h.owned ↔ Owns (cuts_of x) m.tree u.key) same.0 h.owns)) in
        let made : Partial = record { key = u.key; sums = sums_at m (u.key.level + 1); merges = h.owned && merging_at m (u.key.level + 1) } in
        let is_owned : h.owned ≡ owned_by k t c = sym (same_test h.owned (owned_by k t c) (Owns k t c) owned (owned_is_told k t c)) in
        record {
          sums = sums_more n (sums_at m (u.key.level + 1)) (ap (λ (x : SecondaryWork S). x.sums) h.adds) (shared_adds refined h.shared);
          partials = subst (HaveHanded k w.old merging t has_of (cells ++ c ∷ [])) (sym (ap (λ (x : SecondaryWork S). x.partials) h.adds))
              (handed_more k w.old merging t has_of fits tree cells c m.partials made new (shared_cell refined h.shared) key
              (record {
                shared = subst (IsSharedCell k w.old t) (sym key) (shared_cell refined h.shared);
                sums = λ i small. found_here refined i small ∙ ap (has_of i) (sym key);
                merges = and_same h.owned (owned_by k t c) (merging_at m (u.key.level + 1)) (merging c) is_owned (λ o. sym (merging_is refined ((owned_is_told k t c).0 o))) ∙ ap (λ q. owned_by k t q && merging q) (sym key);
              })
              handed);
          words = λ owns leaf. absurd (not_leaf refined leaf);
        }
    cell_adds n (inr (inr (inr h))) = by (is_refined w.old c) refl
      where
        by : (b : Bool) → is_refined w.old c ≡ b → AddedUp c so_far cells n
        by true refined =
            let whole = h.shared (refined_view refined) in
            record {
              sums = subst (HaveSums tells_of (so_far ++ leave c ∷ [])) (sym (ap (λ (x : SecondaryWork S). x.sums) h.same)) (sums_passed tells_of so_far m.sums c have (λ i small. other_whole_tells k w.old merging states t fits i c (shared_is ∙ ap not whole) (not_owned (λ owns. h.whole (refined_there owns refined)))));
              partials = partials_stay n (ap (λ (x : SecondaryWork S). x.partials) h.same) (whole_cell whole);
              words = λ owns leaf. absurd (not_leaf refined leaf);
            }
        by false plain =
            let leaf = leaf_of w.old c there plain in
            record {
              sums = subst (HaveSums tells_of (so_far ++ leave c ∷ [])) (sym (ap (λ (x : SecondaryWork S). x.sums) h.same)) (sums_passed tells_of so_far m.sums c have (λ i small. other_leaf_tells k w.old merging states t fits i c plain (not_owned (λ owns. h.leaf (leaf_there owns leaf)))));
              partials = partials_stay n (ap (λ (x : SecondaryWork S). x.partials) h.same) (leaf_cell leaf);
              words = λ owns is. absurd (h.leaf (leaf_there owns is));
            }
