-- The adaptation sweeps of all trees, and their notes, tree after tree.
use Rattle.std.proofs.Common.{◌≡◌, ℕ, ◌+◌, ◌<◌, List, [], ◌∷◌, ◌++◌, map, refl, ap, subst, ◌∙◌}
use Rattle.peano_curve.specs.declared.order.Direction.{Direction}
use Rattle.curve_cuts.specs.Cuts.{Cuts, range_of}
use Rattle.vertex_stacks.specs.Notes.{Note}
use Rattle.vertex_stacks.specs.Tales.{with_note}
use Rattle.sweep_visits.specs.Runs.{turned_round}
use Rattle.tree_automaton.specs.TreeLists.{TreeLists}
use Rattle.tree_automaton.specs.AtRest.{HasLists, plain_plan}
use Rattle.step_phases.specs.Change.{Change}
use Rattle.adapt_sweep.specs.Adapting.{CanBeAdapted, IsAdaptedTree}
use Rattle.step_world.specs.Notes.{note_adapted, by_trees}
use Rattle.step_driver.specs.declared.beside.Swept.{Swept}
use Rattle.step_driver.specs.Gives.{EachGives}
use Rattle.step_driver.specs.Stores.{store_of, ChangesEach}
use Rattle.step_driver.specs.Notes.{sizes_of}
use Rattle.step_driver.specs.Adapting.{AllCanAdapt, Adapts, IsAdaptedStore}
use Rattle.step_driver.proofs.Gives.{each_changes}
use Rattle.step_driver.proofs.Counts.{note_adapting}
use Rattle.step_driver.proofs.Notes.{one_noted}

module _ (k : Cuts) (dir : Direction) (w : Change) (step : ℕ) where
  abbrev mine : ℕ → Note
  mine t = note_adapted (sizes_of k) step w.old w.new t

  -- what one tree's sweep gives, by the tree's number
  record GivesAdapted (t : ℕ) (x y : TreeLists) (note : Note) : Type 0 where
    pub tree : IsAdaptedStore k dir w step t x y
    pub note_is : note ≡ mine t

  gives_own : (x y : TreeLists) (note : Note) → x.dir ≡ dir → CanBeAdapted k w x → IsAdaptedTree k w step x y note → GivesAdapted x.tree x y note
  gives_own x y note way can h =
      let noted : note ≡ mine x.tree = h.noted.counts ∙ note_adapting k w.old w.new x.dir step x.tree can.old_grid can.new_grid in
      record {
        tree = record {
          lists = subst (λ d. HasLists (plain_plan k.depth (range_of k x.tree) (turned_round d) w.new) x.tree y) way h.lists;
          slots = h.slots;
          tale = h.noted.tale ∙ ap (with_note x.lanes.tale) noted;
        };
        note_is = noted;
      }

  gives_at : (before : List TreeLists) (m : ℕ) (r : Swept Unit) → AllCanAdapt k dir w before → m < k.trees → Adapts k w.new step (store_of before m) r → GivesAdapted m (store_of before m) r.store r.note
  gives_at before m r all below adapts =
      let can = all.each m below in
      subst (λ n. GivesAdapted n (store_of before m) r.store r.note) (all.number m below) (gives_own (store_of before m) r.store r.note (all.way m below) can (adapts w refl can))

  -- the stores of all trees
  pub stores_adapted : (before after : List TreeLists) (swept : List (Swept Unit)) → AllCanAdapt k dir w before → EachGives (Adapts k w.new step) before swept → after ≡ map (λ (r : Swept Unit). r.store) swept → ChangesEach (IsAdaptedStore k dir w step) k.trees before after
  stores_adapted before after swept all gives is = each_changes (Adapts k w.new step) (IsAdaptedStore k dir w step) (λ (r : Swept Unit). r.store) k.trees before after swept all.count gives is (λ t r below adapts. (gives_at before t r all below adapts).tree)

  -- and one note more
  pub noted_more : (m : ℕ) (before : List TreeLists) (old notes : List Note) (r : Swept Unit) → AllCanAdapt k dir w before → m < k.trees → notes ≡ old ++ by_trees m mine → Adapts k w.new step (store_of before m) r → notes ++ r.note ∷ [] ≡ old ++ by_trees (m + 1) mine
  noted_more m before old notes r all below noted adapts = ap (λ (xs : List Note). xs ++ r.note ∷ []) noted ∙ one_noted mine m old r.note (gives_at before m r all below adapts).note_is
