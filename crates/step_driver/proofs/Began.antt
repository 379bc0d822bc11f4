-- The part of a step that computes: each sweep and exchange leads to what the next one asks, and what is noted where it stops.
use Rattle.std.proofs.Common.{append_assoc, ◌≡◌, ℕ, zero, suc, ◌≤◌, List, [], ◌∷◌, ◌++◌, refl, ap, sym, subst, ◌∙◌, ⊎_elim, arith}
use Rattle.std.specs.Prelude.{Option, Result, Ok, Err, OnErr}
use Rattle.std.proofs.lemmas.Bool.{cases_eq}
use Rattle.std.proofs.lemmas.List.{append-nil}
use Rattle.peano_keys.specs.declared.cell.CellKey.{CellKey}
use Rattle.peano_keys.specs.Grid.{Spacetree}
use Rattle.peano_keys.specs.Field.{States}
use Rattle.peano_keys.specs.Next.{IsNextGrid}
use Rattle.peano_curve.specs.declared.order.Direction.{Direction}
use Rattle.solver_api.specs.Step.{marks_of}
use Rattle.curve_cuts.specs.Cuts.{Cuts, IsCutGrid, range_of}
use Rattle.peano_records.specs.declared.partials.Partial.{Partial}
use Rattle.vertex_stacks.specs.Notes.{Note}
use Rattle.sweep_visits.specs.Runs.{turned_round}
use Rattle.tree_automaton.specs.TreeLists.{TreeLists}
use Rattle.tree_automaton.specs.AtRest.{StandsFor}
use Rattle.step_phases.specs.declared.phase.Phase.TheVariants.{First}
use Rattle.step_phases.specs.Change.{Change}
use Rattle.step_sweeps.specs.Kernels.{Kernel, IsChangeBy}
use Rattle.step_sweeps.specs.Sweeps.{IsToFinish}
use Rattle.step_world.specs.Notes.{by_trees}
use Rattle.spacetree.proofs.Exists.{next_grid_exists}
use Rattle.step_world.proofs.Worlds.{deep_grid}
use Rattle.step_driver.specs.declared.finishing.Findings.{Findings}
use Rattle.step_driver.specs.Stores.{store_of, AreTrees, AllMerged, AllHaveLists}
use Rattle.step_driver.specs.Notes.{AddsFirst}
use Rattle.step_driver.specs.Computing.{AllStandOn, AreComputed}
use Rattle.step_driver.specs.Finishing.{AllMarked, AllCanFinish, AreFinished}
use Rattle.step_driver.specs.Adapting.{AllCanAdapt, AreAdapted}
use Rattle.step_driver.specs.Pending.{pending}
use Rattle.step_driver.specs.Worlds.{AreAt}
use Rattle.step_driver.proofs.Exchanges.{trees_from_lists}
use Rattle.step_driver.proofs.Marked.{computed_lists, marked}
use Rattle.step_driver.proofs.Pend.{pending_by, pending_to_finish}

-- what is so anyway is so of a refusal
pub on_err : {A E : Type 0} (P : Type 0) (r : Result A E) → P → OnErr r P
on_err P (Ok a) p = tt
on_err P (Err e) p = p

-- the notes of the first trees are the first of the notes of all
pub first_notes : (f : ℕ → Note) (m n : ℕ) → m ≤ n → (rest : List Note) × (by_trees n f ≡ by_trees m f ++ rest)
first_notes f m zero below =
    let none : m ≡ 0 = omega (arith, below) in
    ([], sym (append-nil (by_trees m f) ∙ ap (λ i. by_trees i f) none))
first_notes f m (suc n) below = ⊎_elim
    (λ e. ([], sym (append-nil (by_trees m f) ∙ ap (λ i. by_trees i f) e)))
    (λ apart.
    let rest = first_notes f m n (omega (arith, below, apart)) in
    (rest.0 ++ f n ∷ [], ap (λ xs. xs ++ f n ∷ []) rest.1 ∙ append_assoc (by_trees m f) rest.0 (f n ∷ [])))
    (cases_eq m (suc n))

-- so where a sweep of some tree stops, the notes so far are the first of all
pub adds_trees : (f : ℕ → Note) (m n : ℕ) (old now : List Note) → m ≤ n → now ≡ old ++ by_trees m f → AddsFirst old now (by_trees n f)
adds_trees f m n old now below noted =
    let rest = first_notes f m n below in
    (by_trees m f, rest.0, noted, rest.1)

-- more may be to come,
pub adds_more : (old now first then : List Note) → AddsFirst old now first → AddsFirst old now (first ++ then)
adds_more old now first then h = (h.0, h.1 ++ then, h.2, ap (λ xs. xs ++ then) h.3 ∙ append_assoc h.0 h.1 then)

-- or some came before,
pub adds_after : (old mid now first then : List Note) → mid ≡ old ++ first → AddsFirst mid now then → AddsFirst old now (first ++ then)
adds_after old mid now first then before h = (
  first ++ h.0,
  h.1,
  h.2 ∙ ap (λ xs. xs ++ h.0) before ∙ append_assoc old first h.0,
  ap (λ xs. first ++ xs) h.3 ∙ sym (append_assoc first h.0 h.1),
)

-- or none were added,
pub adds_none : (old all : List Note) → AddsFirst old old all
adds_none old all = ([], all, sym (append-nil old), refl)

-- or all are there
pub adds_all : (old now all : List Note) → now ≡ old ++ all → AddsFirst old now all
adds_all old now all noted = (all, [], noted, sym (append-nil all))

-- what is noted after two parts
pub both_noted : (old mid now first then : List Note) → mid ≡ old ++ first → now ≡ mid ++ then → now ≡ old ++ (first ++ then)
both_noted old mid now first then a b = b ∙ ap (λ xs. xs ++ then) a ∙ append_assoc old first then

-- trees at a grid and a field can be computed
pub stand_on : (parts : ℕ) (k : Cuts) (stores : List TreeLists) (notes : List Note) (cells : ℕ) (g : Spacetree) (f : States) → (at : AreAt parts k stores notes cells g f) → AllStandOn k parts at.dir g f stores
stand_on parts k stores notes cells g f at = record {
  grid = at.fits;
  count = at.stand.count;
  number = λ t below. (at.stand.each t below).lists.tree;
  each = λ t below.
      let stands = at.stand.each t below in
      let number : (store_of stores t).tree ≡ t = stands.lists.tree in
      record {
        grid = at.fits;
        field = at.field;
        tree = omega (arith, below, number);
        stands = subst (λ n. StandsFor k.depth (range_of k n) n at.dir g f (store_of stores t)) (sym number) stands;
      };
}

module _ (kernel : Kernel) (k : Cuts) (dir : Direction) (g : Spacetree) (f : States) (step : ℕ) (before : List TreeLists) (all : AllStandOn k kernel.parts dir g f before) where
  pub grid_exists : (new : Spacetree) × IsNextGrid g (marks_of kernel.marked g f) new
  grid_exists = next_grid_exists g (marks_of kernel.marked g f) (deep_grid k g all.grid)

  module _ (swept : List TreeLists) (old noted : List Note) (failing : Option CellKey) (h : AreComputed kernel k dir g f step before swept old noted failing) where
    abbrev new : Spacetree
    new = grid_exists.0

    by : IsChangeBy kernel g f (pending kernel g f new)
    by = pending_by kernel g f new

    to_finish : IsToFinish (pending kernel g f new) f
    to_finish = pending_to_finish kernel g f new grid_exists.1

    -- the swept stores can exchange
    pub swept_trees : AreTrees k swept
    swept_trees = trees_from_lists k (turned_round dir) g swept all.grid (computed_lists kernel k dir (pending kernel g f new) f step all.grid by to_finish before swept old noted failing all h)

    -- and then be finished
    pub are_marked : (after : List TreeLists) → AllMerged First k swept after → AllMarked kernel k (turned_round dir) (pending kernel g f new) f after
    are_marked after merged = marked kernel k dir (pending kernel g f new) f step all.grid by to_finish before swept old noted failing all h after merged

    pub can_finish : (after : List TreeLists) → AllMerged First k swept after → AllCanFinish kernel k after
    can_finish after merged = (turned_round dir, pending kernel g f new, f, are_marked after merged)

-- finished stores have the lists of the grid,
pub finished_lists : (k : Cuts) (parts : ℕ) (dir : Direction) (w : Change) (step : ℕ) (before after : List TreeLists) (partials : List (List Partial)) (old noted : List Note) (found : Findings) →
    AreFinished k parts dir w step before after partials old noted found → AllHaveLists k (turned_round dir) w.old after
finished_lists k parts dir w step before after partials old noted found h = record { count = h.trees.count; each = λ t below. (h.trees.changed t below).lists }

-- and can exchange
pub finished_trees : (k : Cuts) (parts : ℕ) (dir : Direction) (w : Change) (step : ℕ) (before after : List TreeLists) (partials : List (List Partial)) (old noted : List Note) (found : Findings) → IsCutGrid k w.old →
    AreFinished k parts dir w step before after partials old noted found → AreTrees k after
finished_trees k parts dir w step before after partials old noted found fits h = trees_from_lists k (turned_round dir) w.old after fits (finished_lists k parts dir w step before after partials old noted found h)

-- so do adapted ones those of the new grid,
pub adapted_lists : (k : Cuts) (dir : Direction) (w : Change) (step : ℕ) (before after : List TreeLists) (old noted : List Note) → AllCanAdapt k dir w before → AreAdapted k dir w step before after old noted → AllHaveLists k (turned_round dir) w.new after
adapted_lists k dir w step before after old noted all h = record { count = h.trees.count; each = λ t below. (h.trees.changed t below).lists }

-- and can exchange
pub adapted_trees : (k : Cuts) (dir : Direction) (w : Change) (step : ℕ) (before after : List TreeLists) (old noted : List Note) → AllCanAdapt k dir w before → AreAdapted k dir w step before after old noted → AreTrees k after
adapted_trees k dir w step before after old noted all h = trees_from_lists k (turned_round dir) w.new after all.grid (adapted_lists k dir w step before after old noted all h)
