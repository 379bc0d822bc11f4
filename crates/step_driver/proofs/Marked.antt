-- From primary sweeps and the first exchange to stores that secondary sweeps can finish.
use Rattle.std.proofs.Common.{ℕ, ◌<◌, List, sym, subst, ◌∙◌, arith}
use Rattle.std.specs.Prelude.{Option}
use Rattle.peano_keys.specs.declared.cell.CellKey.{CellKey}
use Rattle.peano_keys.specs.Field.{States, value_of}
use Rattle.peano_curve.specs.declared.order.Direction.{Direction}
use Rattle.curve_cuts.specs.Cuts.{Cuts, IsCutGrid, range_of}
use Rattle.vertex_stacks.specs.Notes.{Note}
use Rattle.sweep_visits.specs.Runs.{turned_round}
use Rattle.tree_automaton.specs.TreeLists.{TreeLists}
use Rattle.tree_automaton.specs.AtRest.{HasLists, StandsFor, plain_plan}
use Rattle.step_phases.specs.declared.phase.Phase.TheVariants.{First}
use Rattle.step_phases.specs.Stores.{TreeSays, AllSay}
use Rattle.step_phases.specs.Change.{Change}
use Rattle.step_phases.specs.Phases.{AtRest, AfterPrimary, AfterFirst}
use Rattle.step_phases.proofs.Sweeps.{primary_sweep, says_less}
use Rattle.step_phases.proofs.Exchanges.{first_exchange}
use Rattle.swept_slots.specs.Copies.{copies}
use Rattle.swept_slots.proofs.Stores.{rest_is_said}
use Rattle.boundary_streams.specs.Trees.{copies_of}
use Rattle.step_sweeps.specs.Kernels.{Kernel, IsChangeBy}
use Rattle.step_sweeps.specs.Sweeps.{IsToFinish}
use Rattle.step_driver.specs.Stores.{store_of, AllMerged, AllHaveLists}
use Rattle.step_driver.specs.Computing.{AllStandOn, AreComputed}
use Rattle.step_driver.specs.Finishing.{AllMarked}
use Rattle.step_driver.proofs.Exchanges.{lists_after, owners_taken}

module _ (kernel : Kernel) (k : Cuts) (dir : Direction) (w : Change) (f : States) (step : ℕ) (fits : IsCutGrid k w.old) (change : IsChangeBy kernel w.old f w) (finish : IsToFinish w f)
    (before swept : List TreeLists) (old notes : List Note) (failing : Option CellKey) (all : AllStandOn k kernel.parts dir w.old f before) (h : AreComputed kernel k dir w.old f step before swept old notes failing) where
  -- the swept stores have the lists of the grid
  pub computed_lists : AllHaveLists k (turned_round dir) w.old swept
  computed_lists = record {
    count = h.trees.count;
    each = λ t below.
        let tree = h.trees.changed t below in
        subst (λ n. HasLists (plain_plan k.depth (range_of k n) (turned_round dir) w.old) n (store_of swept t)) tree.number tree.stands.stands.lists;
  }

  rests : (t : ℕ) → t < k.trees → TreeSays k w.old t (AtRest w.old w.value) (copies (store_of before t).lanes.input)
  rests t below v has =
      let stands : StandsFor k.depth (range_of k t) t dir w.old f (store_of before t) = subst (λ n. StandsFor k.depth (range_of k n) n dir w.old f (store_of before t)) (all.number t below) (all.each t below).stands in
      says_less k v (AtRest w.old (value_of w.old f)) (AtRest w.old w.value) (copies (store_of before t).lanes.input v) (λ c s r. record { status = r.status; value = r.value ∙ sym (finish.values c); stay = r.stay })
      (rest_is_said k w.old f t t dir (store_of before t) fits stands v has)

  primary : AllSay k w.old (AfterPrimary k w) (copies_of (store_of swept))
  primary t v has = primary_sweep k w t (copies (store_of before t).lanes.input) (copies (store_of swept t).lanes.input) (rests t has.corner.tree) ((h.trees.changed t has.corner.tree).slots w change) v has

  -- and after the exchange all copies have the marks of all leaves and the new values of the skeleton leaves
  pub marked : (after : List TreeLists) → AllMerged First k swept after → AllMarked kernel k (turned_round dir) w f after
  marked after merged =
      let lists = lists_after First k (turned_round dir) w.old swept after computed_lists merged in
      let says = first_exchange k w (copies_of (store_of swept)) (copies_of (store_of after)) fits primary (owners_taken First k (turned_round dir) w.old swept after fits computed_lists merged) in
      record {
        count = lists.count;
        number = λ t below. (lists.each t below).tree;
        each = λ t below.
            let number = (lists.each t below).tree in
            record {
              grid = fits;
              field = (all.each t below).field;
              by = change;
              change = finish;
              tree = omega (arith, below, number);
              lists = subst (λ n. HasLists (plain_plan k.depth (range_of k n) (turned_round dir) w.old) n (store_of after t)) (sym number) (lists.each t below);
              says = subst (λ n. TreeSays k w.old n (AfterFirst k w) (copies (store_of after t).lanes.input)) (sym number) (says t);
            };
      }
