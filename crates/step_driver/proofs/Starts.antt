-- Trees as they start.
use Rattle.std.proofs.Common.{◌≡◌, ℕ, ◌<◌, true, List, [], length, map, refl, ap, sym, subst, ◌∙◌, arith}
use Rattle.std.specs.Prelude.{pos, Result, Ok, slice_index_or}
use Rattle.std.proofs.lemmas.List.{get_or-map, length-map}
use Rattle.peano_keys.specs.declared.dim.Dim.{Dim}
use Rattle.peano_keys.specs.Grid.{Spacetree}
use Rattle.peano_keys.specs.Field.{States, value_of}
use Rattle.peano_curve.specs.declared.order.Direction.TheVariants.{Forward, Backward}
use Rattle.peano_curve.specs.declared.range.Range.{Range}
use Rattle.spacetree.specs.Fields.{HasLeaves}
use Rattle.curve_cuts.specs.Cuts.{Cuts, IsCutGrid, range_of}
use Rattle.vertex_stacks.specs.Lists.{nothing_moved}
use Rattle.vertex_stacks.specs.Notes.{Note}
use Rattle.vertex_stacks.specs.Tales.{no_tale, with_note}
use Rattle.tree_automaton.specs.TreeLists.{TreeLists}
use Rattle.step_phases.specs.declared.phase.Phase.TheVariants.{Opening}
use Rattle.step_phases.specs.Sweeps.{IsRaised}
use Rattle.boundary_streams.specs.Trees.{copies_of}
use Rattle.adapt_sweep.specs.Raising.{CanBeRaised, IsRaisedTree}
use Rattle.step_world.specs.Notes.{note_raised, by_trees}
use Rattle.step_world.proofs.Worlds.{start_stands}
use Rattle.step_driver.specs.declared.beside.Swept.{Swept}
use Rattle.step_driver.specs.Stores.{no_store, store_of, AllMerged, AllHaveLists}
use Rattle.step_driver.specs.Notes.{sizes_of}
use Rattle.step_driver.specs.Starts.{IsRaisedStore, IsRaisedWith, MayBeRaised, AreRaised, AreStarted}
use Rattle.step_driver.proofs.Gives.{all_there, one_there, some_item}
use Rattle.step_driver.proofs.Counts.{note_raising}
use Rattle.step_driver.proofs.Exchanges.{lists_after, owners_taken, tale_stays}
use Rattle.step_driver.proofs.Standing.{all_stand}

-- a store as it is made
abbrev pub new_store : Dim → ℕ → Range → ℕ → TreeLists
new_store dim depth range t = record {
  cells = [];
  written = [];
  lanes = nothing_moved dim (pos 0);
  depth = depth;
  range = range;
  tree = t;
  dir = Forward;
  live = true;
  cell_room = 0;
  stored = 0;
  leaves = 0;
  counted = 0;
}

-- for one of the trees
pub made_for : (k : Cuts) (t : ℕ) (dim : Dim) (depth : ℕ) (range : Range) (s : TreeLists) → dim ≡ k.dim → depth ≡ k.depth → range ≡ range_of k t → s ≡ new_store dim depth range t → s ≡ new_store k.dim k.depth (range_of k t) t
made_for k t dim depth range s d e r is = is ∙ rw (d, e, r) refl

-- can be raised
pub can_be_raised : (k : Cuts) (g : Spacetree) (t : ℕ) (s : TreeLists) → IsCutGrid k g → t < k.trees → s ≡ new_store k.dim k.depth (range_of k t) t → CanBeRaised k g s
can_be_raised k g t s fits below is = subst (CanBeRaised k g) (sym is) (record {
  grid = fits;
  tree = below;
  empty = record { dim_is = sym fits.dim; depth_is = refl; range_is = refl; tree = refl; dir = refl; live = refl; cells = refl; written = refl; input = refl; output = refl; lanes = refl; taken = refl; put = refl; pushed = refl; counted = refl; stored = refl };
})

-- and then stands as one that is raised
pub raised_store : (k : Cuts) (g : Spacetree) (f : States) (step t : ℕ) (s : TreeLists) (r : Swept Unit) → IsCutGrid k g → s ≡ new_store k.dim k.depth (range_of k t) t → IsRaisedTree k g f step s r.store r.note → IsRaisedWith k g f step t r
raised_store k g f step t s r fits is h =
    let raised : IsRaisedTree k g f step (new_store k.dim k.depth (range_of k t) t) r.store r.note = subst (λ z. IsRaisedTree k g f step z r.store r.note) is h in
    let noted : r.note ≡ note_raised (sizes_of k) step g t = raised.noted.counts ∙ note_raising k g step t fits in
    record { store = record { lists = raised.lists; slots = raised.slots; tale = raised.noted.tale ∙ ap (with_note no_tale) noted }; noted = noted }

module _ {E : Type 0} (k : Cuts) (g : Spacetree) (f : States) (step : ℕ) (given : List (Result (Swept Unit) E)) (swept : List (Swept Unit)) (may : MayBeRaised k g f step given) (is : given ≡ map Ok swept) where
  pub raised_at : (t : ℕ) (e : Swept Unit) → t < k.trees → IsRaisedWith k g f step t (slice_index_or swept t e)
  raised_at t e below =
      let count = all_there given swept k.trees is may.count in
      one_there (IsRaisedWith k g f step t) given swept t e is (omega (arith, below, count)) (may.each t (Ok e) below)

  -- all trees are raised
  pub all_raised : (stores : List TreeLists) (notes : List Note) → stores ≡ map (λ (r : Swept Unit). r.store) swept → notes ≡ by_trees k.trees (note_raised (sizes_of k) step g) → AreRaised k g f step k.trees stores notes
  all_raised stores notes are noted =
      let count = all_there given swept k.trees is may.count in
      record {
        count = ap length are ∙ length-map swept (λ (r : Swept Unit). r.store) ∙ count;
        each = λ t below.
            let there : t < length swept = omega (arith, below, count) in
            let e = some_item swept t there in
            subst (IsRaisedStore k g f step t) (sym (ap (λ xs. store_of xs t) are ∙ get_or-map (λ (r : Swept Unit). r.store) swept t e no_store there)) (raised_at t e below).store;
        noted = noted;
      }

module _ (k : Cuts) (g : Spacetree) (f : States) (step : ℕ) (stores : List TreeLists) (notes : List Note) (fits : IsCutGrid k g) (field : HasLeaves g f) (h : AreRaised k g f step k.trees stores notes) where
  pub raised_lists : AllHaveLists k Backward g stores
  raised_lists = record { count = h.count; each = λ t below. (h.each t below).lists }

  each_raised : (t : ℕ) → IsRaised k g (value_of g f) t (copies_of (store_of stores) t)
  each_raised t v has = (h.each t has.corner.tree).slots v has

  -- raised trees that exchanged
  pub started : (after : List TreeLists) → AllMerged Opening k stores after → AreStarted k g f step after notes
  started after merged = record {
    stand = all_stand k Backward g f after (lists_after Opening k Backward g stores after raised_lists merged)
        (start_stands k g f (copies_of (store_of stores)) (copies_of (store_of after)) fits field each_raised (owners_taken Opening k Backward g stores after fits raised_lists merged));
    tales = λ t below. tale_stays Opening k stores after t below merged ∙ (h.each t below).tale;
    noted = h.noted;
  }
