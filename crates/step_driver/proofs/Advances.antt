-- One step of a world, from one step of its trees.
use Rattle.std.proofs.Common.{◌≡◌, ℕ, ◌+◌, ◌≤◌, Bool, true, false, if◌then◌else◌, List, [], ◌++◌, Option, take, drop, length, refl, ap, sym, subst, ◌∙◌}
use Rattle.std.proofs.lemmas.List.{append-nil}
use Rattle.std.proofs.Math.Seq.{take-append_seam}
use Rattle.std.specs.Prelude.{Result, Ok, Err}
use Rattle.std.specs.Result.{IsErrAnd}
use Rattle.peano_keys.specs.Grid.{Spacetree}
use Rattle.peano_keys.specs.Field.{States, state_at, sides_of}
use Rattle.spacetree.specs.declared.fault.EvalFault.{EvalFault}
use Rattle.spacetree.specs.declared.fault.EvalFault.TheVariants.{Overflow, Crowded, NoMemory}
use Rattle.peano_curve.specs.declared.order.Direction.TheVariants.{Backward}
use Rattle.solver_api.specs.Step.{marks_of}
use Rattle.spacetree.specs.Counts.{cells_of}
use Rattle.spacetree.specs.Fields.{IsFieldOn}
use Rattle.curve_cuts.specs.Cuts.{Cuts, IsCutGrid}
use Rattle.curve_cuts.specs.Keys.{CutPoints, cuts_of}
use Rattle.vertex_stacks.specs.declared.kind.Kind.TheVariants.{Show}
use Rattle.vertex_stacks.specs.Notes.{Note}
use Rattle.vertex_stacks.specs.Tales.{TaleGrows}
use Rattle.step_world.specs.Notes.{note_raised}
use Rattle.step_world.specs.Worlds.{RefinesAbove}
use Rattle.step_world.proofs.Worlds.{next_is_cut}
use Rattle.tree_automaton.specs.TreeLists.{TreeLists}
use Rattle.step_sweeps.specs.Kernels.{Kernel}
use Rattle.step_driver.specs.Advances.{Advanced, AreKeysAfter, IsCutInTurn, IsAdvanced, IsNotCut, Stopped, Took, is_cut_next}
use Rattle.step_driver.specs.Notes.{added_notes, recut_added, recuts_in, sizes_of, AddsFirst, HaveTales}
use Rattle.step_driver.specs.Recutting.{AreCutAnew, AreNotCut, AreSharesAfter, cut_notes}
use Rattle.step_driver.specs.declared.recutting.NewTrees.{NewTrees}
use Rattle.step_driver.specs.Stepping.{TookStep, StoppedStep}
use Rattle.step_driver.specs.declared.showing.Shown.{Shown}
use Rattle.step_driver.specs.Showing.{ShowTrees, IsShown}
use Rattle.step_driver.specs.Starts.{AreStarted}
use Rattle.step_driver.specs.Worlds.{Seen, IsAt, AreAt}
use Rattle.step_driver.proofs.Began.{adds_more, adds_after, both_noted}
use Rattle.step_driver.proofs.KeysExist.{equal_keys_exist}
use Rattle.step_driver.proofs.Notes.{tales_begin}
use Rattle.step_driver.proofs.Recuts.{some_trees}

-- a list that is written back whole
pub written_back : {A : Type 0} (before after : List A) (len : ℕ) → len ≡ length before → length after ≡ length before → after ≡ take len (after ++ drop (length after) before)
written_back before after len is same = sym (subst (λ n. take n (after ++ drop (length after) before) ≡ after) (same ∙ sym is) (take-append_seam after (drop (length after) before)))

module _ {S : Type 0} (kernel : Kernel) (adapts : Bool) (g : Spacetree) (f : States) (w : Seen S) where
  pub took : (stores : List TreeLists) (notes : List Note) (cells : ℕ) → IsAt kernel.parts w g f w.step → TookStep kernel adapts (cuts_of w.keys) g f (w.step + 1) stores w.notes notes cells →
      Took kernel adapts g f w (record { solver = w.solver; recut = w.recut; keys = w.keys; stores = stores; cells = cells; step = w.step + 1; notes = notes; live = w.live })
  took stores notes cells at h = record {
    grid = h.grid;
    field = h.field;
    served = h.served;
    keys = refl;
    at = record { live = at.live; step_is = refl; trees = h.at };
    noted = h.noted;
  }

-- keys after a step, by whether the trees are cut anew then
shares_there : (b : Bool) (g : Spacetree) (old new : CutPoints) → b ≡ true → AreSharesAfter old g new → AreKeysAfter b g old new
shares_there b g old new e shares = subst (λ c. AreKeysAfter c g old new) (sym e) shares

stays_there : (b : Bool) (g : Spacetree) (old : CutPoints) → b ≡ false → AreKeysAfter b g old old
stays_there b g old e = subst (λ c. AreKeysAfter c g old old) (sym e) refl

added_there : (recut : Option ℕ) (old new : CutPoints) (step : ℕ) (g : Spacetree) → recuts_in recut step ≡ true → recut_added recut old new step g ≡ cut_notes old new step g
added_there recut old new step g e = ap (λ b. if b then cut_notes old new step g else []) e

nothing_added : (recut : Option ℕ) (old new : CutPoints) (step : ℕ) (g : Spacetree) → recuts_in recut step ≡ false → recut_added recut old new step g ≡ []
nothing_added recut old new step g e = ap (λ b. if b then cut_notes old new step g else []) e

module _ {S : Type 0} (parts : ℕ) (g : Spacetree) (f : States) (w : Seen S) where
  -- where the step asks for nothing, a world stays as it is
  pub not_cut_here : recuts_in w.recut w.step ≡ false → IsAt parts w g f w.step → IsCutInTurn parts g f w w
  not_cut_here e at = record {
    keys = stays_there (recuts_in w.recut w.step) g w.keys e;
    at = at;
    noted = sym (append-nil w.notes) ∙ ap (λ ns. w.notes ++ ns) (sym (nothing_added w.recut w.keys w.keys w.step g e));
  }

  pub cut_here : (notes : List Note) (trees : NewTrees) → recuts_in w.recut w.step ≡ true → IsAt parts w g f w.step → AreCutAnew parts w.keys g f w.step w.cells w.notes notes trees →
      IsCutInTurn parts g f w (record { solver = w.solver; recut = w.recut; keys = trees.keys; stores = trees.stores.items; cells = w.cells; step = w.step; notes = notes; live = w.live })
  cut_here notes trees e at h = record {
    keys = shares_there (recuts_in w.recut w.step) g w.keys trees.keys e h.shares;
    at = record { live = at.live; step_is = refl; trees = h.at };
    noted = h.noted ∙ ap (λ ns. w.notes ++ ns) (sym (added_there w.recut w.keys trees.keys w.step g e));
  }

  pub not_cut : (stores : List TreeLists) (notes : List Note) → recuts_in w.recut w.step ≡ true → AreNotCut w.keys g w.step w.notes notes →
      IsNotCut g w (record { solver = w.solver; recut = w.recut; keys = w.keys; stores = stores; cells = w.cells; step = w.step; notes = notes; live = false })
  not_cut stores notes e h = record {
    live = refl;
    keys = refl;
    cut = h.cut;
    shares = shares_there (recuts_in w.recut w.step) g w.keys h.cut e h.shares;
    noted = subst (AddsFirst w.notes notes) (sym (added_there w.recut w.keys h.cut w.step g e)) h.noted;
  }

-- keys after a step that was not taken exist
pub keys_after_exist : (b : Bool) (keys : CutPoints) (h : Spacetree) → IsCutGrid (cuts_of keys) h → (cuts_of keys).trees ≤ 64 → (new : CutPoints) × AreKeysAfter b h keys new
keys_after_exist true keys h fits few =
    let found = equal_keys_exist keys.depth h (cuts_of keys).trees fits.deepest fits.grid (some_trees (cuts_of keys) fits.cuts) few in
    (found.0, found.1)
keys_after_exist false keys h fits few = (keys, refl)

-- A step of a world: the step of its trees, and then the turn to cut them anew
module _ {S : Type 0} (kernel : Kernel) (adapts : Bool) (g : Spacetree) (f : States) (before mid after : Seen S) (same : mid.recut ≡ before.recut) (t : Took kernel adapts g f before mid) where
  abbrev at_step : ℕ
  at_step = before.step + 1

  here : (recuts_in mid.recut mid.step ≡ is_cut_next before)
  here = (λ i. recuts_in (same i) (t.at.step_is i))

  added_here : (new : CutPoints) → recut_added mid.recut mid.keys new mid.step t.grid ≡ recut_added before.recut before.keys new at_step t.grid
  added_here new = λ i. recut_added (same i) (t.keys i) new (t.at.step_is i) t.grid

  keys_here : (new : CutPoints) → AreKeysAfter (recuts_in mid.recut mid.step) t.grid mid.keys new → AreKeysAfter (is_cut_next before) t.grid before.keys new
  keys_here new h = subst (λ k. AreKeysAfter (is_cut_next before) t.grid k new) t.keys (subst (λ b. AreKeysAfter b t.grid mid.keys new) here h)

  pub advanced : IsCutInTurn kernel.parts t.grid t.field mid after → Advanced kernel adapts g f before after
  advanced h = record {
    grid = t.grid;
    field = t.field;
    served = t.served;
    keys = keys_here after.keys h.keys;
    at = subst (IsAt kernel.parts after t.grid t.field) t.at.step_is h.at;
    noted = both_noted before.notes mid.notes after.notes (added_notes (cuts_of before.keys) adapts at_step g t.grid) (recut_added before.recut before.keys after.keys at_step t.grid) t.noted
        (h.noted ∙ ap (λ ns. mid.notes ++ ns) (added_here after.keys));
  }

  pub cut_short : IsNotCut t.grid mid after → Stopped kernel adapts g f before after NoMemory
  cut_short h = record {
    live = h.live;
    keys = h.keys ∙ t.keys;
    fails = record {
      grid = t.grid;
      next = t.served.step.grid;
      keys = h.cut;
      after = keys_here h.cut h.shares;
      noted = adds_after before.notes mid.notes after.notes (added_notes (cuts_of before.keys) adapts at_step g t.grid) (recut_added before.recut before.keys h.cut at_step t.grid) t.noted
          (subst (AddsFirst mid.notes after.notes) (added_here h.cut) h.noted);
    };
  }

-- a step that its trees did not take
module _ {S : Type 0} (kernel : Kernel) (adapts : Bool) (g : Spacetree) (f : States) (w : Seen S) (stores : List TreeLists) (notes : List Note) where
  abbrev spent : Seen S
  spent = record { solver = w.solver; recut = w.recut; keys = w.keys; stores = stores; cells = w.cells; step = w.step; notes = notes; live = false }

  pub stopped : (fault : EvalFault) → RefinesAbove kernel.marked w.keys.depth → IsAt kernel.parts w g f w.step → StoppedStep kernel adapts (cuts_of w.keys) g f (w.step + 1) w.notes notes fault → Stopped kernel adapts g f w spent fault
  stopped (Overflow s c) deep at fails = record { live = refl; keys = refl; fails = fails }
  stopped (Crowded s n) deep at fails = record { live = refl; keys = refl; fails = fails }
  stopped NoMemory deep at fails =
      let next : Spacetree = fails.0 in
      let new = keys_after_exist (is_cut_next w) w.keys next (next_is_cut (cuts_of w.keys) g next (marks_of kernel.marked g f) at.trees.fits fails.1 (λ c e. deep (state_at f c) (sides_of g f c) c.level e)) at.trees.few in
      record {
        live = refl;
        keys = refl;
        fails = record {
          grid = next;
          next = fails.1;
          keys = new.0;
          after = new.1;
          noted = adds_more w.notes notes (added_notes (cuts_of w.keys) adapts (w.step + 1) g next) (recut_added w.recut w.keys new.0 (w.step + 1) next) fails.2;
        };
      }

-- a refusal that is handed on
pub refused_as : {S : Type 0} (kernel : Kernel) (adapts : Bool) (g : Spacetree) (f : States) (before after : Seen S) (r : Result Unit EvalFault) (Q : EvalFault → Type 0) (fault : EvalFault) → ((e : EvalFault) → Q e → e ≡ fault) → IsErrAnd r Q →
    Stopped kernel adapts g f before after fault → IsAdvanced kernel adapts g f before after r
refused_as kernel adapts g f before after (Ok u) Q fault to h stopped = absurd h
refused_as kernel adapts g f before after (Err e) Q fault to h stopped = subst (Stopped kernel adapts g f before after) (sym (to e h)) stopped

-- trees as they start are at the grid and the field
pub starts_at : (parts : ℕ) (k : Cuts) (g : Spacetree) (f : States) (stores : List TreeLists) (notes : List Note) (cells : ℕ) → k.trees ≤ 64 → IsCutGrid k g → IsFieldOn parts g f → TaleGrows → AreStarted k g f 0 stores notes → cells ≡ cells_of g → cells_of g ≤ 200000 → AreAt parts k stores notes cells g f
starts_at parts k g f stores notes cells few fits field grows h counted room = record {
  few = few;
  fits = fits;
  field = field;
  dir = Backward;
  stand = h.stand;
  tales = subst (HaveTales k.trees stores) (sym h.noted) (tales_begin (note_raised (sizes_of k) 0 g) (λ s. refl) grows (λ s. refl) k.trees stores [] h.tales);
  counted = counted;
  room = room;
}

-- a world that was shown
pub world_shown : {S : Type 0} (parts : ℕ) (g : Spacetree) (f : States) (w : Seen S) (stores : List TreeLists) (notes : List Note) (shown : Shown) → IsAt parts w g f w.step → ShowTrees parts (cuts_of w.keys) g f w.step Show w.cells stores w.notes notes shown →
    IsShown parts g f w (record { solver = w.solver; recut = w.recut; keys = w.keys; stores = stores; cells = w.cells; step = w.step; notes = notes; live = w.live }) shown
world_shown parts g f w stores notes shown at h = record {
  step_is = h.step_is;
  rows = h.rows;
  traffic = h.traffic;
  at = record { live = at.live; step_is = refl; trees = h.at };
  noted = h.noted;
}
