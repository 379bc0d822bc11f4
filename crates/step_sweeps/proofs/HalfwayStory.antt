-- The calls of a secondary sweep, one after another.
use Rattle.std.proofs.Common.{◌≡◌, ◌↔◌, ℕ, ◌+◌, ◌<◌, ◌≤◌, ◌&&◌, pos, ℤ, ◌||◌, Bool, true, false, List, [], ◌∷◌, ◌++◌, Option, Some, None, map, length, refl, ap, ap₂, sym, ◌∙◌, subst, inl, inr, ⊎_elim, length-set, append_assoc, append-nil, arith}
use Rattle.std.specs.Prelude.{IsTrue, slice_set, slice_index_or, flat_map, replicate}
use Rattle.std.specs.Int.{w64, w128, int_wrap}
use Rattle.std.specs.Int.RustNames.{FitsSigned}
use Rattle.std.proofs.lemmas.Int.{int_wrap_fits}
use Rattle.std.proofs.lemmas.List.{map-append}
use Rattle.stack_law.specs.Once.{IsIn}
use Rattle.stack_law.specs.Stack.{AreDistinct}
use Rattle.stack_law.proofs.Distinct.{in_either}
use Rattle.peano_keys.specs.declared.cell.CellKey.{CellKey}
use Rattle.peano_keys.specs.declared.dim.Dim.{Dim}
use Rattle.peano_keys.specs.Cell.{IsCell, centre_child}
use Rattle.peano_keys.specs.declared.state.State.{State}
use Rattle.peano_keys.specs.declared.state.State.TheVariants.{Single, Pair, Triple, Quadruple}
use Rattle.peano_keys.specs.State.{count_of}
use Rattle.peano_keys.specs.Grid.{has_cell, is_leaf, is_refined}
use Rattle.peano_keys.specs.Field.{States, state_at}
use Rattle.peano_keys.specs.Next.{Splits, Merges, IsNextGrid}
use Rattle.peano_curve.specs.declared.order.Direction.{Direction}
use Rattle.peano_curve.specs.Run.{HoldsCell}
use Rattle.peano_records.specs.declared.stored.Stored.{Stored}
use Rattle.peano_records.specs.declared.view.CellView.{CellView}
use Rattle.curve_cuts.specs.Cuts.{Cuts, Held, IsCutGrid, Owns, range_of}
use Rattle.curve_cuts.specs.Enclave.{IsEnclave}
use Rattle.curve_cuts.specs.Keys.{CutPoints, cuts_of}
use Rattle.spacetree.specs.Fields.{IsFieldOn}
use Rattle.curve_cuts.proofs.Cuts.{owner_holds, centre_keeps_owner}
use Rattle.adapt_marks.specs.Views.{IsCentre}
use Rattle.vertex_stacks.specs.declared.tale.Tale.{Tale}
use Rattle.sweep_visits.specs.Plan.{SweepPlan, is_held, is_visited}
use Rattle.sweep_visits.specs.Moves.{same_cell}
use Rattle.sweep_visits.specs.Visits.{Visit, enter, leave, visits_of}
use Rattle.sweep_visits.proofs.Tests.{held_told, held_tells}
use Rattle.sweep_streams.specs.Records.{IsHeldCell, in_grids, entered_at, left_at}
use Rattle.sweep_streams.proofs.Records.{each_held_cell_once}
use Rattle.tree_automaton.specs.Sweep.{TreeSweep}
use Rattle.tree_automaton.specs.Promises.{Keeps}
use Rattle.tree_automaton.specs.Story.{Call, Story, IsAmong, with_calls}
use Rattle.tree_automaton.specs.Sweeps.{AllCallsFit, CallFits, Chain, Stands, begun, visit_of}
use Rattle.tree_automaton.specs.Views.{ViewFits}
use Rattle.step_phases.specs.Change.{Change, Gives}
use Rattle.step_calls.specs.Visitors.{SecondaryCall}
use Rattle.peano_keys.specs.Sums.{cell_weight, floor_of}
use Rattle.mean_values.specs.NextSums.{TellsMerges}
use Rattle.mean_values.specs.Steps.{HasFloors}
use Rattle.cell_sums.proofs.Means.{same_state}
use Rattle.swept_slots.proofs.Given.{EachVertex, given_hold, along_places}
use Rattle.swept_slots.proofs.Visited.{among_in, in_among, enter_held}
use Rattle.step_sweeps.specs.Kernels.{Kernel, IsChangeBy}
use Rattle.step_sweeps.specs.Secondaries.{SecondaryWork, SecondaryEnters, SecondaryLeaves, CentreLeft, HasMeans, HasWords, merging_at, sums_at, sum_of, cleared, no_sums}
use Rattle.step_sweeps.specs.Sweeps.{AreNewStatesOf}
use Rattle.step_sweeps.proofs.Plain.{view_fits, there_in}
use Rattle.step_sweeps.proofs.Centres.{is_centre_in, centre_told, centre_tells, centre_cell, centre_there, last_centre}
use Rattle.step_sweeps.proofs.HalfwaySlots.{Halfway, Works, changed_said}
use Rattle.step_sweeps.proofs.HalfwayViews.{IsKnown, plain_sweep, plain_is_plan, none_new, works_leave}
use Rattle.step_sweeps.proofs.HalfwayCalls.{IsSame, HasLeafNext, HasMemory, EachChanges, MeansGive, Tells, same_kept, refined_keeps, leaf_has, leaf_at_home, leave_works, centre_is, leave_counts, merge_is}
use Rattle.step_sweeps.proofs.HalfwayLeaves.{enter_keeps, enter_works, enter_counts, enter_finds, enter_gathers}
use Rattle.step_sweeps.proofs.HalfwayMemory.{memory_entered, memory_passed, memory_told}
use Rattle.step_sweeps.proofs.HalfwaySums.{AddedUp, cell_adds, sums_keep}
use Rattle.step_sweeps.proofs.TreeSums.{has, tells, has_fits, floor_fits, sum_found}
use Rattle.step_sweeps.proofs.LevelSums.{HaveSums, sums_begin, sums_entered}
use Rattle.step_sweeps.proofs.HandedOut.{HaveHanded, none_handed}
use Rattle.step_world.specs.Failing.{FailsAmong}
use Rattle.step_sweeps.proofs.LeastFailing.{Among, none_fails}
use Rattle.step_sweeps.proofs.GatherCounts.{HaveGathered, none_gathered}
use Rattle.step_sweeps.proofs.OwnCounts.{HaveCounted, none_counted, counted_more, not_before, flat_at, false_by}

-- what is so of each call of a list and of one more
pub each_more : (P : Call → Type 0) (xs : List Call) (x : Call) → ((call : Call) → IsAmong call xs → P call) → P x → (call : Call) → IsAmong call (xs ++ x ∷ []) → P call
each_more P xs x old new call among = ⊎_elim (λ h. old call (in_among call xs h)) (λ h. ⊎_elim (λ e. subst P (sym e) new) (λ none. absurd none) h) (in_either call xs (x ∷ []) (among_in call (xs ++ x ∷ []) among))

-- the cell that is entered is one, and none that is left
same_enter : (c q : CellKey) → enter c ≡ enter q → c ≡ q
same_enter c q e = ap (λ (v : Visit). elim v as (λ _. CellKey) [ enter x ↦ x | leave x ↦ x ]) e

not_enter : (c q : CellKey) → leave c ≡ enter q → ⊥
not_enter c q e = cc

-- what a centre child tells changes no count and no sum
centre_counts : {S : Type 0} (m : SecondaryWork S) (u : CellView) (b : SecondaryWork S) → CentreLeft m u b → (b.splits ≡ m.splits) × (b.merges ≡ m.merges) × (b.failing ≡ m.failing) × (b.tasks ≡ m.tasks) × (b.sums ≡ m.sums) × (b.partials ≡ m.partials)
centre_counts m u b (inl h) = (ap (λ (x : SecondaryWork _). x.splits) h.told, ap (λ (x : SecondaryWork _). x.merges) h.told, ap (λ (x : SecondaryWork _). x.failing) h.told, ap (λ (x : SecondaryWork _). x.tasks) h.told, ap (λ (x : SecondaryWork _). x.sums) h.told, ap (λ (x : SecondaryWork _). x.partials) h.told)
centre_counts m u b (inr h) = (ap (λ (x : SecondaryWork _). x.splits) h.1, ap (λ (x : SecondaryWork _). x.merges) h.1, ap (λ (x : SecondaryWork _). x.failing) h.1, ap (λ (x : SecondaryWork _). x.tasks) h.1, ap (λ (x : SecondaryWork _). x.sums) h.1, ap (λ (x : SecondaryWork _). x.partials) h.1)

-- a visitor as a sweep begins
pub record HasBegun {S : Type 0} (a : SecondaryWork S) : Type 0 where
  pub levels : length a.merging ≡ 14
  pub sums : a.sums ≡ replicate 14 no_sums
  pub splits : a.splits ≡ 0
  pub merges : a.merges ≡ 0
  pub partials : a.partials ≡ []
  pub failing : a.failing ≡ None

-- a state has at most four values
few_values : (s : State) → count_of s ≤ 4
few_values (Single a) = omega arith
few_values (Pair a b) = omega arith
few_values (Triple a b c) = omega arith
few_values (Quadruple a b c d) = omega arith

-- whether all leaves of a change have new states, and a test tells which cells merge
abbrev pub IsServed : Change → ℕ → (CellKey → Bool) → States → Type 0
IsServed w parts merging states = AreNewStatesOf w parts states × TellsMerges w.old w.mark merging

-- a refined cell has a new value only where all leaves have new states: the floors of what the tree has of it
abbrev pub TakesSums : Cuts → ℕ → Change → ℕ → (CellKey → Bool) → States → Type 0
TakesSums k t w parts merging states = (c : CellKey) (s : State) → is_refined w.old c ≡ true → w.next c ≡ Some s → IsServed w parts merging states × HasFloors parts (cell_weight k.depth w.old.dim c) (λ i. has k w.old merging states t i c) s

module _ {S : Type 0} (kernel : S → Kernel) (start : SecondaryWork S) (w : Change) (dir : Direction) (f : States) (number : ℕ) (task : CellKey → ℕ)
    (fits : IsCutGrid (cuts_of start.keys) w.old) (next : IsNextGrid w.old w.mark w.new) (tree : start.tree < (cuts_of start.keys).trees) (merging : CellKey → Bool) (states : States) (takes : TakesSums (cuts_of start.keys) start.tree w (kernel start.solver).parts merging states) (field : IsFieldOn (kernel start.solver).parts w.old f) (by : IsChangeBy (kernel start.solver) w.old f w)
    (fresh : HasBegun start)
    (first : List Stored) (tale : Tale) (calls : List Call) (visits_are : map visit_of calls ≡ visits_of (plain_sweep (cuts_of start.keys) start.tree dir w.old f number task).plan)
    (fit : AllCallsFit (begun (plain_sweep (cuts_of start.keys) start.tree dir w.old f number task) first tale) calls) (input : (s : Stored) → IsAmong s first → IsKnown (cuts_of start.keys) w s) where
  abbrev k : Cuts
  k = cuts_of start.keys

  abbrev t : ℕ
  t = start.tree

  abbrev dim : Dim
  dim = w.old.dim

  abbrev p : TreeSweep
  p = plain_sweep k t dir w.old f number task

  abbrev plan : SweepPlan
  plan = p.plan

  abbrev begins : Story
  begins = begun p first tale

  -- what a call changed in the slots round its cell
  abbrev pub Did : Visit → CellView → CellView → Type 0
  Did (enter c) v u = EachChanges start w dir f number task c (SecondaryCall k w t false c) v u
  Did (leave c) v u = EachChanges start w dir f number task c (SecondaryCall k w t true c) v u

  -- the cells that calls entered, and those that they left
  abbrev pub seen : (Visit → List CellKey) → List Call → List CellKey
  seen g so_far = flat_map g (map visit_of so_far)

  abbrev parts : ℕ
  parts = (kernel start.solver).parts

  abbrev parts_of : S → ℕ
  parts_of x = (kernel x).parts

  abbrev pub Served : Type 0
  Served = IsServed w parts merging states

  abbrev has_of : ℕ → CellKey → ℤ
  has_of i c = has k w.old merging states t i c

  abbrev tells_of : ℕ → CellKey → ℤ
  tells_of i c = tells k w.old merging states t i c

  -- after some calls the visitor is the same but for its memory and its counts, which are right; each record is known, and each call did what it is to do
  pub record IsSoFar (so_far : List Call) (a : SecondaryWork S) : Type 0 where
    pub same : IsSame start w dir f number task a
    pub known : (call : Call) → IsAmong call so_far → EachVertex p (IsKnown (cuts_of start.keys) w) call.made
    pub did : (call : Call) → IsAmong call so_far → Did call.visit call.given call.made
    pub told : (call : Call) → IsAmong call so_far → (c : CellKey) → call.visit ≡ enter c → HasLeafNext start w dir f number task c call.made
    pub memory : HasMemory start w dir f number task (map visit_of so_far) a
    pub splits : HaveCounted (seen entered_at so_far) (λ c. Owns k t c × Splits w.old w.mark c) a.splits
    pub merges : HaveCounted (seen left_at so_far) (λ c. Owns k t c × Merges w.old w.mark c) a.merges
    pub failing : FailsAmong (Among (seen entered_at so_far) (IsEnclave k w.old t)) w.next a.failing
    pub gathered : HaveGathered (seen entered_at so_far) (IsEnclave k w.old t) start.tasks a.tasks
    pub levels : length a.sums ≡ 14
    pub sums : Served → HaveSums tells_of (map visit_of so_far) a.sums
    pub handed : Served → HaveHanded k w.old merging t has_of (seen left_at so_far) a.partials
    pub words : Served → (c : CellKey) → IsIn c (seen left_at so_far) → Owns k t c → is_leaf w.old c ≡ true → HasWords (state_at states c)

  held_cell : (c : CellKey) → IsHeldCell plan (in_grids plan) c → IsCell dim c × (has_cell w.old c ≡ true)
  held_cell c held = (held.cell, there_in (Some w.old) w.old c refl held.passes)

  -- the centre child of a refined cell that the tree owns is visited, and the tree owns it
  centre_own : (c : CellKey) → IsCell dim c → is_refined w.old c ≡ true → Owns k t c → IsCell dim (centre_child dim c) × Owns k t (centre_child dim c) × (is_visited plan (centre_child dim c) ≡ true)
  centre_own c cell refined owns =
      let in_cuts : IsCell k.dim c = subst (λ d. IsCell d c) fits.dim cell in
      let inside : IsCell dim (centre_child dim c) = subst (λ d. IsCell d (centre_child d c)) (sym fits.dim) (centre_cell k w.old c fits in_cuts refined) in
      let own : Owns k t (centre_child dim c) = subst (λ d. Owns k t (centre_child d c)) (sym fits.dim) ((centre_keeps_owner k t c (fits.grid.levels c refined)).0 owns) in
      let there : has_cell w.old (centre_child dim c) ≡ true = subst (λ d. has_cell w.old (centre_child d c) ≡ true) (sym fits.dim) (centre_there k w.old c in_cuts refined) in
      let held : is_held plan (centre_child dim c) ≡ true = held_told plan (centre_child dim c) (subst (λ d. HoldsCell d k.depth (range_of k t) (centre_child dim c)) (sym fits.dim) (owner_holds k t (centre_child dim c) own)) in
      (inside, own, ap₂ (λ a b. a && (b || b)) held there)

  visits_at : (so_far : List Call) (call : Call) (after : List Call) (c : CellKey) → calls ≡ so_far ++ call ∷ after → call.visit ≡ leave c → visits_of plan ≡ map visit_of so_far ++ leave c ∷ map visit_of after
  visits_at so_far call after c place is = sym visits_are ∙ (ap (map visit_of) place ∙ (map-append visit_of so_far (call ∷ after) ∙ ap (λ v. map visit_of so_far ++ v ∷ map visit_of after) is))

  -- so a refined cell finds in the memory what its centre child told
  found : (so_far : List Call) (call : Call) (after : List Call) (a : SecondaryWork S) (c : CellKey) → calls ≡ so_far ++ call ∷ after → call.visit ≡ leave c → IsCell dim c → HasMemory start w dir f number task (map visit_of so_far) a → is_refined w.old c ≡ true → Owns k t c → Tells start w dir f number task (centre_child dim c) (merging_at a (c.level + 1))
  found so_far call after a c place is cell memory refined owns =
      let own = centre_own c cell refined owns in
      let visits = visits_at so_far call after c place is in
      memory (c.level + 1) (centre_child dim c) (last_centre plan (plain_is_plan k t dir w.old fits) c cell (ap (λ b. b || b) refined) own.0 own.2 (map visit_of so_far) (map visit_of after) visits) own.1

  -- and in the sums what the tree has of it
  sum_is : (so_far : List Call) (call : Call) (after : List Call) (a : SecondaryWork S) (c : CellKey) → calls ≡ so_far ++ call ∷ after → call.visit ≡ leave c → IsCell dim c → HaveSums tells_of (map visit_of so_far) a.sums → is_refined w.old c ≡ true → (i : ℕ) → i < 4 → sum_of (sums_at a (c.level + 1)) i ≡ has_of i c
  sum_is so_far call after a c place is cell sums refined i small =
      sums (c.level + 1) i small
      ∙ (ap (int_wrap w128) (sum_found k w.old merging states t fits i c dir cell refined (map visit_of so_far) (map visit_of after) (visits_at so_far call after c place is) (pos 0))
      ∙ int_wrap_fits w128 (has_of i c) (has_fits k w.old merging states t fits i c))

  -- so its means are its new value
  means_are : (a : SecondaryWork S) (c : CellKey) (s : State) → a.keys ≡ start.keys → a.solver ≡ start.solver → (Served → is_refined w.old c ≡ true → (i : ℕ) → i < 4 → sum_of (sums_at a (c.level + 1)) i ≡ has_of i c) → is_refined w.old c ≡ true → HasMeans (parts_of a.solver) (cell_weight a.keys.depth a.keys.dim c) (sums_at a (c.level + 1)) s → Gives (w.next c) s
  means_are a c s keys solver sums refined means r e =
      let told = takes c r refined e in
      let floors = told.1 in
      let sum_here = sums told.0 refined in
      let many : parts_of a.solver ≡ parts = ap parts_of solver in
      let weight_is : cell_weight a.keys.depth a.keys.dim c ≡ cell_weight k.depth dim c = ap (λ (x : CutPoints). cell_weight x.depth x.dim c) keys ∙ ap (λ d. cell_weight k.depth d c) (sym fits.dim) in
      let count : count_of s ≡ parts = means.count ∙ many in
      same_state s r (count ∙ sym floors.count) (λ i below.
      let few = few_values s in
      let within : i < parts_of a.solver = subst (λ n. i < n) means.count below in
      let here : i < parts = subst (λ n. i < n) count below in
      let floor_is : floor_of (sum_of (sums_at a (c.level + 1)) i) (cell_weight a.keys.depth a.keys.dim c) ≡ floor_of (has_of i c) (cell_weight k.depth dim c) = ap (λ z. floor_of z (cell_weight a.keys.depth a.keys.dim c)) (sum_here i (omega (arith, below, few))) ∙ ap (floor_of (has_of i c)) weight_is in
      means.each i within (subst (FitsSigned w64) (sym floor_is) (floor_fits k w.old merging states t fits i c)) ∙ (floor_is ∙ sym (floors.each i here)))

  -- what works in the slots of known records changes them as is asked
  changes : (leaving : Bool) (c : CellKey) (v u : CellView) → EachVertex p (IsKnown (cuts_of start.keys) w) v → EachChanges start w dir f number task c (Works k w t leaving c) v u → EachChanges start w dir f number task c (SecondaryCall k w t leaving c) v u
  changes leaving c v u known works n s r below at to = changed_said dim c (Halfway k w) (Works k w t leaving c) (SecondaryCall k w t leaving c) s r (works n s r below at to) (known n s below at).says (λ x y half work. (work half).1)

  -- the memory after the leave of a cell
  memory_left : (so_far : List Visit) (c : CellKey) (v u : CellView) (view : ViewFits p c v) (keeps : Keeps v u) (cell : IsCell dim c) (there : has_cell w.old c ≡ true) (known : EachVertex p (IsKnown (cuts_of start.keys) w) v) → EachChanges start w dir f number task c (Works k w t true c) v u → (m b : SecondaryWork S) → IsSame start w dir f number task m → CentreLeft m u b → HasMemory start w dir f number task so_far m → IsSame start w dir f number task b × HasMemory start w dir f number task (so_far ++ leave c ∷ []) b
  memory_left so_far c v u view keeps cell there known works m b same left memory = ⊎_elim
      (λ h.
      let x : Bool = h.merges in
      let key : u.key ≡ c = keeps.key ∙ view.view.key in
      let set_is : b.merging ≡ slice_set m.merging c.level x = ap (λ (y : SecondaryWork S). y.merging) h.told ∙ ap (λ (q : CellKey). slice_set m.merging q.level x) key in
      let centre : is_centre_in dim c ≡ true = centre_told dim c (subst (IsCentre dim) key (subst (λ d. IsCentre d u.key) (ap (λ (y : CutPoints). y.dim) same.0 ∙ sym fits.dim) h.centre)) in (
        (ap (λ (y : SecondaryWork S). y.keys) h.told ∙ same.0, ap (λ (y : SecondaryWork S). y.tree) h.told ∙ same.1, ap (λ (l : List Bool). length l) set_is ∙ (length-set m.merging c.level x ∙ same.2), ap (λ (y : SecondaryWork S). y.solver) h.told ∙ same.3),
        memory_told start w dir f number task so_far c m b x set_is same.2 cell.level centre (λ owns. centre_is start w dir f number task fits next c v u view keeps cell there known works m b same.0 h) memory,
      ))
      (λ h.
      let key : u.key ≡ c = keeps.key ∙ view.view.key in
      let none : is_centre_in dim c ≡ false = false_by (is_centre_in dim c) (λ e. h.0 (subst (λ d. IsCentre d u.key) (sym (ap (λ (y : CutPoints). y.dim) same.0 ∙ sym fits.dim)) (subst (IsCentre dim) (sym key) (centre_tells dim c e)))) in (
        subst (IsSame start w dir f number task) (sym h.1) same,
        memory_passed start w dir f number task so_far c m b (ap (λ (y : SecondaryWork S). y.keys) h.1, ap (λ (y : SecondaryWork S). y.tree) h.1, ap (λ (y : SecondaryWork S). y.merging) h.1, ap (λ (y : SecondaryWork S). y.solver) h.1) none memory,
      ))
      left

  -- a cell is not seen twice
  not_seen : (g : Visit → List CellKey) (so_far : List Call) (call : Call) (after : List Call) (c : CellKey) (v : Visit) → AreDistinct same_cell (flat_map g (visits_of plan)) → calls ≡ so_far ++ call ∷ after → call.visit ≡ v → g v ≡ c ∷ [] → IsIn c (seen g so_far) → ⊥
  not_seen g so_far call after c v distinct place is gives = not_before (seen g so_far) (flat_map g (map visit_of after)) c
      (subst (AreDistinct same_cell) (ap (flat_map g) (sym visits_are) ∙ (ap (λ l. flat_map g (map visit_of l)) place ∙ (flat_at g so_far call v after is ∙ ap (λ l. seen g so_far ++ (l ++ flat_map g (map visit_of after))) gives))) distinct)

  -- what one call more adds to the cells that are seen
  seen_more : (g : Visit → List CellKey) (so_far : List Call) (call : Call) (v : Visit) → call.visit ≡ v → seen g (so_far ++ call ∷ []) ≡ seen g so_far ++ (g v ++ [])
  seen_more g so_far call v is = flat_at g so_far call v [] is

  -- one call more
  step_at : (so_far : List Call) (call : Call) (after : List Call) (a b : SecondaryWork S) (visit : Visit) → call.visit ≡ visit → calls ≡ so_far ++ call ∷ after → IsSoFar so_far a → CallFits (with_calls begins so_far) visit call.given call.made → Stands (SecondaryEnters kernel) (SecondaryLeaves parts_of) visit call.given call.made a b → IsSoFar (so_far ++ call ∷ []) b
  step_at so_far call after a b (enter c) is place holds entered stands =
      let v = call.given in
      let u = call.made in
      let view : ViewFits p c v = view_fits p refl refl c v entered.view in
      let here_is = held_cell c (enter_held p (plain_is_plan k t dir w.old fits) first tale calls visits_are fit c call (record { before = so_far; after = after; place = place }) is) in
      let known : EachVertex p (IsKnown (cuts_of start.keys) w) v = given_hold p first tale (IsKnown (cuts_of start.keys) w) input (none_new k w t dir f number task) so_far holds.known (enter c) v u entered in
      let e : SecondaryWork S = cleared a v.key.level in
      let works = enter_works kernel start w dir f number task fits next field by c v u view entered.keeps here_is.0 here_is.1 known e b holds.same stands in
      let made = changes false c v u known works in
      let kept = enter_keeps kernel e v u b stands in
      let counts = enter_counts kernel start w dir f number task fits next field by c v u view entered.keeps here_is.0 here_is.1 known e b holds.same stands in
      let deep = here_is.0.level in
      let levels = holds.levels in
      let sums_are : b.sums ≡ slice_set a.sums (c.level + 1) no_sums = kept.1.0 ∙ ap (λ (q : CellKey). slice_set a.sums (q.level + 1) no_sums) view.view.key in
      let left_same : seen left_at (so_far ++ call ∷ []) ≡ seen left_at so_far = seen_more left_at so_far call (enter c) is ∙ append-nil (seen left_at so_far) in
      record {
        same = same_kept start w dir f number task e b holds.same kept.0;
        known = each_more (λ (x : Call). EachVertex p (IsKnown (cuts_of start.keys) w) x.made) so_far call holds.known (works_leave k w t dir f number task c v u view entered.keeps here_is.0 false known works);
        did = each_more (λ (x : Call). Did x.visit x.given x.made) so_far call holds.did (subst (λ x. Did x v u) (sym is) made);
        told = each_more (λ (x : Call). (q : CellKey) → x.visit ≡ enter q → HasLeafNext start w dir f number task q x.made) so_far call holds.told
            (λ q here. subst (λ x. HasLeafNext start w dir f number task x u) (same_enter c q (sym is ∙ here)) (leaf_has start w dir f number task fits next c v u view entered.keeps here_is.0 here_is.1 known made));
        memory = subst (λ l. HasMemory start w dir f number task l b) (sym (map-append visit_of so_far (call ∷ []) ∙ ap (λ x. map visit_of so_far ++ x ∷ []) is)) (memory_entered start w dir f number task (map visit_of so_far) c e b kept.0 holds.memory);
        splits = subst (λ l. HaveCounted l (λ q. Owns k t q × Splits w.old w.mark q) b.splits) (sym (seen_more entered_at so_far call (enter c) is))
            (counted_more (seen entered_at so_far) (λ q. Owns k t q × Splits w.old w.mark q) c a.splits b.splits (not_seen entered_at so_far call after c (enter c) (each_held_cell_once plan (plain_is_plan k t dir w.old fits)).0.distinct place is refl) holds.splits counts.0);
        merges = subst (λ n. HaveCounted (seen left_at (so_far ++ call ∷ [])) (λ q. Owns k t q × Merges w.old w.mark q) n) (sym counts.1)
            (subst (λ l. HaveCounted l (λ q. Owns k t q × Merges w.old w.mark q) a.merges) (sym (seen_more left_at so_far call (enter c) is ∙ append-nil (seen left_at so_far))) holds.merges);
        failing = subst (λ l. FailsAmong (Among l (IsEnclave k w.old t)) w.next b.failing) (sym (seen_more entered_at so_far call (enter c) is))
            (enter_finds kernel start w dir f number task fits next field by c v u view entered.keeps here_is.0 here_is.1 known e b (seen entered_at so_far) holds.same stands holds.failing);
        gathered = subst (λ l. HaveGathered l (IsEnclave k w.old t) start.tasks b.tasks) (sym (seen_more entered_at so_far call (enter c) is))
            (enter_gathers kernel start w dir f number task fits next field by c v u view entered.keeps here_is.0 here_is.1 known e b (seen entered_at so_far)
            (not_seen entered_at so_far call after c (enter c) (each_held_cell_once plan (plain_is_plan k t dir w.old fits)).0.distinct place is refl) holds.same stands holds.gathered);
        levels = ap (λ (l : List (List ℤ)). length l) sums_are ∙ (length-set a.sums (c.level + 1) no_sums ∙ levels);
        sums = λ served. subst (λ l. HaveSums tells_of l b.sums) (sym (map-append visit_of so_far (call ∷ []) ∙ ap (λ x. map visit_of so_far ++ x ∷ []) is)) (subst (HaveSums tells_of (map visit_of so_far ++ enter c ∷ [])) (sym sums_are) (sums_entered tells_of (map visit_of so_far) a.sums c (holds.sums served) (omega (arith, levels, deep))));
        handed = λ served. subst (λ l. HaveHanded k w.old merging t has_of l b.partials) (sym left_same) (subst (HaveHanded k w.old merging t has_of (seen left_at so_far)) (sym kept.1.1) (holds.handed served));
        words = λ served q at. holds.words served q (subst (IsIn q) left_same at);
      }
  step_at so_far call after a b (leave c) is place holds gone stands =
      let v = call.given in
      let u = call.made in
      let entering : Call = gone.entered.call in
      let among : IsAmong entering so_far = gone.entered.among in
      let held_here = enter_held p (plain_is_plan k t dir w.old fits) first tale calls visits_are fit c entering
      (record { before = among.before; after = among.after ++ call ∷ after; place = place ∙ (ap (λ l. l ++ call ∷ after) among.place ∙ append_assoc among.before (entering ∷ among.after) (call ∷ after)) }) gone.entered.visit in
      let here = held_cell c held_here in
      let held : Held k t c = subst (λ d. HoldsCell d k.depth (range_of k t) c) fits.dim (held_tells plan c held_here.held) in
      let known : EachVertex p (IsKnown (cuts_of start.keys) w) v = given_hold p first tale (IsKnown (cuts_of start.keys) w) input (none_new k w t dir f number task) so_far holds.known (leave c) v u gone in
      let m : SecondaryWork S = stands.0 in
      let n : SecondaryWork S = stands.1 in
      let flag_at = found so_far call after a c place is here.0 holds.memory in
      let means : MeansGive start w dir f number task fits next c v u gone.view gone.keeps here.0 here.1 known parts_of a = λ s refined owns given.
      means_are a c s holds.same.0 holds.same.3 (λ served. sum_is so_far call after a c place is here.0 (holds.sums served)) refined
      (subst (λ (q : CellKey). HasMeans (parts_of a.solver) (cell_weight a.keys.depth a.keys.dim q) (sums_at a (q.level + 1)) s) gone.view.view.key given) in
      let works = leave_works start w dir f number task fits next c v u gone.view gone.keeps here.0 here.1 known parts_of a m holds.same flag_at means stands.2 in
      let keeps = refined_keeps parts_of a v u m stands.2 in
      let kept = keeps.0 in
      let same = same_kept start w dir f number task a m holds.same kept in
      let rest = sums_keep m u n stands.3 in
      let same_there = same_kept start w dir f number task m n same rest.memory in
      let memory : HasMemory start w dir f number task (map visit_of so_far) n = λ l q e owns. subst (λ cs. Tells start w dir f number task q (merging_at (record n { merging = cs }) l)) (sym (rest.memory.2 ∙ kept.2)) (holds.memory l q e owns) in
      let counts = leave_counts start w dir f number task fits next c v u gone.view gone.keeps here.0 here.1 known parts_of a m holds.same flag_at stands.2 in
      let stay = centre_counts n u b stands.4 in
      let has_next : HasLeafNext start w dir f number task c v = subst (HasLeafNext start w dir f number task c) (sym gone.entered.same) (holds.told entering among c gone.entered.visit) in
      let left = memory_left (map visit_of so_far) c v u gone.view gone.keeps here.0 here.1 known works n b same_there stands.4 memory in
      let new_left = not_seen left_at so_far call after c (leave c) (each_held_cell_once plan (plain_is_plan k t dir w.old fits)).1.distinct place is refl in
      let levels_m : length m.sums ≡ 14 = ap (λ (l : List (List ℤ)). length l) keeps.1.0 ∙ holds.levels in
      let flag : is_refined w.old c ≡ true → Owns k t c → IsTrue (merging_at m (c.level + 1)) ↔ Merges w.old w.mark c = λ refined owns.
      merge_is start w dir f number task fits next c v u gone.view gone.keeps here.0 here.1 known (merging_at m (c.level + 1)) (subst (λ cs. Tells start w dir f number task (centre_child dim c) (merging_at (record m { merging = cs }) (c.level + 1))) (sym kept.2) (flag_at refined owns)) in
      let sum_m : Served → is_refined w.old c ≡ true → (i : ℕ) → i < 4 → sum_of (sums_at m (c.level + 1)) i ≡ has_of i c = λ served refined i small.
      ap (λ cs. sum_of (slice_index_or cs (c.level + 1) no_sums) i) keeps.1.0 ∙ sum_is so_far call after a c place is here.0 (holds.sums served) refined i small in
      let sums_m : Served → HaveSums tells_of (map visit_of so_far) m.sums = λ served. subst (HaveSums tells_of (map visit_of so_far)) (sym keeps.1.0) (holds.sums served) in
      let handed_m : Served → HaveHanded k w.old merging t has_of (seen left_at so_far) m.partials = λ served. subst (HaveHanded k w.old merging t has_of (seen left_at so_far)) (sym keeps.1.1) (holds.handed served) in
      let adds : (served : Served) → AddedUp start w dir f number task fits next tree parts merging states served.0 served.1 c (map visit_of so_far) (seen left_at so_far) n = λ served.
      cell_adds start w dir f number task fits next tree parts merging states served.0 served.1 c v u gone.view gone.keeps here.0 here.1 known held (map visit_of so_far) (seen left_at so_far) new_left m same levels_m
      (leaf_at_home start w dir f number task fits next c v u gone.view gone.keeps here.0 here.1 known has_next works) flag (sum_m served) (sums_m served) (handed_m served) n stands.3 in
      let left_more : seen left_at (so_far ++ call ∷ []) ≡ seen left_at so_far ++ c ∷ [] = seen_more left_at so_far call (leave c) is in
      record {
        same = left.0;
        known = each_more (λ (x : Call). EachVertex p (IsKnown (cuts_of start.keys) w) x.made) so_far call holds.known (works_leave k w t dir f number task c v u gone.view gone.keeps here.0 true known works);
        did = each_more (λ (x : Call). Did x.visit x.given x.made) so_far call holds.did (subst (λ x. Did x v u) (sym is) (changes true c v u known works));
        told = each_more (λ (x : Call). (q : CellKey) → x.visit ≡ enter q → HasLeafNext start w dir f number task q x.made) so_far call holds.told
            (λ q here. absurd (not_enter c q (sym is ∙ here)));
        memory = subst (λ l. HasMemory start w dir f number task l b) (sym (map-append visit_of so_far (call ∷ []) ∙ ap (λ x. map visit_of so_far ++ x ∷ []) is)) left.1;
        splits = subst (λ n. HaveCounted (seen entered_at (so_far ++ call ∷ [])) (λ q. Owns k t q × Splits w.old w.mark q) n) (sym (stay.0 ∙ (rest.splits ∙ counts.1)))
            (subst (λ l. HaveCounted l (λ q. Owns k t q × Splits w.old w.mark q) a.splits) (sym (seen_more entered_at so_far call (leave c) is ∙ append-nil (seen entered_at so_far))) holds.splits);
        merges = subst (λ l. HaveCounted l (λ q. Owns k t q × Merges w.old w.mark q) b.merges) (sym (seen_more left_at so_far call (leave c) is))
            (subst (λ n. HaveCounted (seen left_at so_far ++ c ∷ []) (λ q. Owns k t q × Merges w.old w.mark q) n) (sym (stay.1 ∙ rest.merges))
            (counted_more (seen left_at so_far) (λ q. Owns k t q × Merges w.old w.mark q) c a.merges m.merges (not_seen left_at so_far call after c (leave c) (each_held_cell_once plan (plain_is_plan k t dir w.old fits)).1.distinct place is refl) holds.merges counts.0));
        failing = subst (λ o. FailsAmong (Among (seen entered_at (so_far ++ call ∷ [])) (IsEnclave k w.old t)) w.next o) (sym (stay.2 ∙ (rest.failing ∙ keeps.2)))
            (subst (λ l. FailsAmong (Among l (IsEnclave k w.old t)) w.next a.failing) (sym (seen_more entered_at so_far call (leave c) is ∙ append-nil (seen entered_at so_far))) holds.failing);
        gathered = subst (HaveGathered (seen entered_at (so_far ++ call ∷ [])) (IsEnclave k w.old t) start.tasks) (sym (stay.3 ∙ (rest.tasks ∙ keeps.3)))
            (subst (λ l. HaveGathered l (IsEnclave k w.old t) start.tasks a.tasks) (sym (seen_more entered_at so_far call (leave c) is ∙ append-nil (seen entered_at so_far))) holds.gathered);
        levels = ap (λ (l : List (List ℤ)). length l) stay.4 ∙ (rest.levels ∙ levels_m);
        sums = λ served. subst (λ l. HaveSums tells_of l b.sums) (sym (map-append visit_of so_far (call ∷ []) ∙ ap (λ x. map visit_of so_far ++ x ∷ []) is)) (subst (HaveSums tells_of (map visit_of so_far ++ leave c ∷ [])) (sym stay.4) (adds served).sums);
        handed = λ served. subst (λ l. HaveHanded k w.old merging t has_of l b.partials) (sym left_more) (subst (HaveHanded k w.old merging t has_of (seen left_at so_far ++ c ∷ [])) (sym stay.5) (adds served).partials);
        words = λ served q at owns leaf. ⊎_elim
            (λ old. holds.words served q old owns leaf)
            (λ last. ⊎_elim (λ e. subst (λ x. HasWords (state_at states x)) (sym e) ((adds served).words (subst (Owns k t) e owns) (subst (λ x. is_leaf w.old x ≡ true) e leaf))) (λ none. absurd none) last)
            (in_either q (seen left_at so_far) (c ∷ []) (subst (IsIn q) left_more at));
      }

  no_call : (call : Call) → IsAmong call [] → ⊥
  no_call call among = among_in call [] among

  -- so it is after all calls
  pub all_told : (end : SecondaryWork S) → Chain (SecondaryEnters kernel) (SecondaryLeaves parts_of) calls start end → IsSoFar calls end
  all_told end chain = along_places (SecondaryEnters kernel) (SecondaryLeaves parts_of) begins calls IsSoFar
      (λ so_far call after a b place holds fitting stands. step_at so_far call after a b call.visit refl place holds fitting stands)
      [] calls start end refl fit chain
      (record { same = (refl, refl, fresh.levels, refl); known = λ call among. absurd (no_call call among); did = λ call among. absurd (no_call call among); told = λ call among. absurd (no_call call among); memory = λ l m e owns. absurd (none_some m e); splits = none_counted (λ c. Owns k t c × Splits w.old w.mark c) start.splits fresh.splits; merges = none_counted (λ c. Owns k t c × Merges w.old w.mark c) start.merges fresh.merges; failing = subst (λ o. FailsAmong (Among [] (IsEnclave k w.old t)) w.next o) (sym fresh.failing) (none_fails w.next (Among [] (IsEnclave k w.old t)) (λ c h. h.0)); gathered = none_gathered (IsEnclave k w.old t) start.tasks; levels = ap (λ (l : List (List ℤ)). length l) fresh.sums; sums = λ served. subst (HaveSums tells_of []) (sym fresh.sums) (sums_begin tells_of 14); handed = λ served. subst (HaveHanded k w.old merging t has_of []) (sym fresh.partials) (none_handed k w.old merging t has_of); words = λ served c at. absurd at })
    where
      none_some : (m : CellKey) → ◌≡◌ {A = Option CellKey} None (Some m) → ⊥
      none_some m e = cc
