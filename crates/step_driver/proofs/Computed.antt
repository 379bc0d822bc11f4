-- The primary sweeps of all trees, and what they tell, tree after tree.
use Rattle.std.proofs.Common.{◌≡◌, ℕ, ◌+◌, ◌<◌, List, [], ◌∷◌, ◌++◌, map, refl, ap, sym, subst, ◌∙◌, ⊎_elim, append-nil, arith}
use Rattle.std.specs.Prelude.{Option, None, Result, Ok, Err, IfOk}
use Rattle.std.proofs.lemmas.Bool.{cases_eq}
use Rattle.peano_keys.specs.declared.cell.CellKey.{CellKey}
use Rattle.peano_keys.specs.Grid.{Spacetree}
use Rattle.peano_keys.specs.Field.{States}
use Rattle.peano_curve.specs.declared.order.Direction.{Direction}
use Rattle.curve_cuts.specs.Cuts.{Cuts, IsCutGrid}
use Rattle.curve_cuts.specs.Enclave.{IsSkeleton}
use Rattle.solver_api.specs.Step.{new_state}
use Rattle.vertex_stacks.specs.declared.kind.Kind.TheVariants.{Primary}
use Rattle.vertex_stacks.specs.Notes.{Note}
use Rattle.vertex_stacks.specs.Tales.{with_note}
use Rattle.tree_automaton.specs.TreeLists.{TreeLists}
use Rattle.step_world.specs.Failing.{FailsAmong}
use Rattle.step_world.specs.Notes.{note_over}
use Rattle.step_sweeps.specs.declared.tally.Tally.{Tally}
use Rattle.step_sweeps.specs.Kernels.{Kernel}
use Rattle.step_sweeps.specs.Sweeps.{IsPrimarySwept}
use Rattle.step_driver.specs.declared.beside.Swept.{Swept}
use Rattle.step_driver.specs.Gives.{EachGives}
use Rattle.step_driver.specs.Stores.{store_of, ChangesEach}
use Rattle.step_driver.specs.Notes.{sizes_of}
use Rattle.step_driver.specs.Computing.{AllStandOn, Computes, IsComputedTree, ToldFirst, least_with}
use Rattle.step_driver.proofs.Gives.{each_changes}
use Rattle.step_driver.proofs.Counts.{note_plain}
use Rattle.step_driver.proofs.Notes.{one_noted}
use Rattle.step_driver.proofs.Least.{found_with, here, there, least_more}

-- what is so of an answer that is there
pub if_ok : {A E : Type 0} (r : Result A E) (P Q : A → Type 0) → ((a : A) → P a → Q a) → IfOk r P → IfOk r Q
if_ok (Ok a) P Q f h = f a h
if_ok (Err e) P Q f h = tt

module _ (kernel : Kernel) (k : Cuts) (step : ℕ) where
  -- to begin with nothing is told
  pub none_told : (g : Spacetree) (f : States) (old : List Note) → ToldFirst kernel k g f step 0 old old None
  none_told g f old = record { noted = sym (append-nil old); found = λ t. None; tells = λ t below. absurd (omega (arith, below)); least = λ s below. refl }

  module _ (dir : Direction) (g : Spacetree) (f : States) (fits : IsCutGrid k g) where
    abbrev mine : ℕ → Note
    mine t = note_over (sizes_of k) step Primary g t

    -- what one tree's sweep gives, by the tree's number
    pub record GivesTree (t : ℕ) (x y : TreeLists) (note : Note) (tally : Tally) : Type 0 where
      pub tree : IsComputedTree kernel k dir g f step t x y
      pub note_is : note ≡ mine t
      pub failing : FailsAmong (IsSkeleton k g t) (new_state kernel.updated g f) tally.failing

    gives_own : (x y : TreeLists) (note : Note) (tally : Tally) → IsPrimarySwept kernel k dir g f step x y note tally → GivesTree x.tree x y note tally
    gives_own x y note tally h =
        let noted : note ≡ mine x.tree = h.noted.counts ∙ note_plain k g dir Primary step x.tree fits in
        record {
          tree = record { number = h.tree; stands = h.stands; slots = h.slots; tale = h.noted.tale ∙ ap (with_note x.lanes.tale) noted };
          note_is = noted;
          failing = h.failing;
        }

    pub gives_tree : (t : ℕ) (x y : TreeLists) (note : Note) (tally : Tally) → x.tree ≡ t → IsPrimarySwept kernel k dir g f step x y note tally → GivesTree t x y note tally
    gives_tree t x y note tally is h = subst (λ n. GivesTree n x y note tally) is (gives_own x y note tally h)

    gives_at : (before : List TreeLists) (m : ℕ) (r : Swept Tally) → AllStandOn k kernel.parts dir g f before → m < k.trees → Computes kernel k step (store_of before m) r → GivesTree m (store_of before m) r.store r.note r.found
    gives_at before m r all below computes = gives_tree m (store_of before m) r.store r.note r.found (all.number m below) (computes dir g f (all.each m below))

    -- the stores of all trees
    pub stores_computed : (before after : List TreeLists) (swept : List (Swept Tally)) → AllStandOn k kernel.parts dir g f before → EachGives (Computes kernel k step) before swept → after ≡ map (λ (r : Swept Tally). r.store) swept → ChangesEach (IsComputedTree kernel k dir g f step) k.trees before after
    stores_computed before after swept all gives is = each_changes (Computes kernel k step) (IsComputedTree kernel k dir g f step) (λ (r : Swept Tally). r.store) k.trees before after swept all.count gives is (λ t r below computes. (gives_at before t r all below computes).tree)

    -- and what one tree more tells
    pub told_more : (m : ℕ) (before : List TreeLists) (old notes : List Note) (r : Swept Tally) (failing : Option CellKey) → AllStandOn k kernel.parts dir g f before → m < k.trees →
        ToldFirst kernel k g f step m old notes failing → Computes kernel k step (store_of before m) r → ToldFirst kernel k g f step (m + 1) old (notes ++ r.note ∷ []) (least_with failing r.found.failing)
    told_more m before old notes r failing all below h computes =
        let gives = gives_at before m r all below computes in
        record {
          noted = ap (λ (xs : List Note). xs ++ r.note ∷ []) h.noted ∙ one_noted mine m old r.note gives.note_is;
          found = found_with m r.found.failing h.found;
          tells = λ t inside. ⊎_elim
              (λ e. subst (λ n. FailsAmong (IsSkeleton k g n) (new_state kernel.updated g f) (found_with m r.found.failing h.found n)) (sym e) (subst (λ (o : Option CellKey). FailsAmong (IsSkeleton k g m) (new_state kernel.updated g f) o) (sym (here m r.found.failing h.found)) gives.failing))
              (λ apart. subst (λ (o : Option CellKey). FailsAmong (IsSkeleton k g t) (new_state kernel.updated g f) o) (sym (there m r.found.failing h.found t apart)) (h.tells t (omega (arith, inside, apart))))
              (cases_eq t m);
          least = least_more m h.found failing r.found.failing h.least;
        }
