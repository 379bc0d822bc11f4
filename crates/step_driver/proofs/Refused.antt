-- Why a step is refused, by what the trees found and counted.
use Rattle.std.proofs.Common.{◌≡◌, ◌⊎◌, ℕ, ◌≤◌, List, sym, subst, inl, inr, ⊎_elim, arith}
use Rattle.std.specs.Prelude.{Option, Some, None, IsSome}
use Rattle.peano_keys.specs.declared.dim.Dim.{Dim}
use Rattle.peano_keys.specs.declared.cell.CellKey.{CellKey}
use Rattle.peano_keys.specs.Cell.{IsCell}
use Rattle.peano_keys.specs.Grid.{Spacetree}
use Rattle.peano_keys.specs.Field.{States}
use Rattle.peano_keys.specs.Next.{IsNextGrid}
use Rattle.peano_curve.specs.declared.order.Direction.{Direction}
use Rattle.solver_api.specs.Step.{UpdateRule, MarkRule, IsLeafOf, marks_of, new_state}
use Rattle.spacetree.specs.declared.fault.EvalFault.{EvalFault}
use Rattle.spacetree.specs.declared.fault.EvalFault.TheVariants.{Overflow, Crowded, NoMemory}
use Rattle.spacetree.specs.Counts.{cells_of}
use Rattle.spacetree.specs.Evaluation.{StepFails, Crowds}
use Rattle.curve_cuts.specs.Cuts.{Cuts, IsCutGrid}
use Rattle.peano_records.specs.declared.partials.Partial.{Partial}
use Rattle.curve_cuts.specs.Enclave.{OwnsLeaf, IsSkeleton, IsEnclave}
use Rattle.curve_cuts.proofs.Cuts.{owner_exists}
use Rattle.vertex_stacks.specs.Notes.{Note}
use Rattle.tree_automaton.specs.TreeLists.{TreeLists}
use Rattle.step_world.specs.Failing.{Fails, FailsAmong}
use Rattle.step_phases.specs.Change.{Change}
use Rattle.step_phases.proofs.Grids.{level_in}
use Rattle.spacetree.proofs.Leaves.{leaf_there}
use Rattle.step_sweeps.specs.Kernels.{Kernel, IsChangeBy}
use Rattle.step_sweeps.proofs.LeastFailing.{served_join}
use Rattle.step_driver.specs.declared.finishing.Findings.{Findings}
use Rattle.step_driver.specs.declared.finishing.Turnover.{Turnover}
use Rattle.step_driver.specs.Computing.{AreComputed, least_with}
use Rattle.step_driver.specs.Finishing.{AreFinished}
use Rattle.step_driver.specs.Sizes.{IsTurnover, IsSizeAfter}
use Rattle.step_driver.specs.Refusing.{IsRefusal}
use Rattle.step_driver.proofs.Among.{Some_tree, trees_fail, same_next, either_found}
use Rattle.step_driver.proofs.Sizes.{size_is_next, size_crowds}

-- what is told of all leaves
all_fail : (updated : UpdateRule) (g : Spacetree) (f : States) (o : Option CellKey) → FailsAmong (IsLeafOf g) (new_state updated g f) o → Fails updated g f o
all_fail updated g f None h = h
all_fail updated g f (Some c) h = record { leaf = h.kind; failed = h.failed; least = h.least }

-- what the primary sweeps of all trees found of skeleton leaves and the secondary ones of enclaves is so of all leaves
pub both_fail : (kernel : Kernel) (k : Cuts) (dir back : Direction) (w : Change) (f : States) (step : ℕ) (before swept marked after : List TreeLists) (partials : List (List Partial)) (old noted new : List Note) (early : Option CellKey) (late : Findings) → IsCutGrid k w.old → IsChangeBy kernel w.old f w →
    AreComputed kernel k dir w.old f step before swept old noted early → AreFinished k kernel.parts back w step marked after partials noted new late → Fails kernel.updated w.old f (least_with early late.failing)
both_fail kernel k dir back w f step before swept marked after partials old noted new early late fits by primary secondary =
    let next = new_state kernel.updated w.old f in
    let leaf : (t : ℕ) (c : CellKey) → OwnsLeaf k w.old t c → IsLeafOf w.old c = λ t c owns. record { cell = subst (λ d. IsCell d c) (sym fits.dim) owns.cell; leaf = owns.leaf } in
    let skeleton : FailsAmong (Some_tree k.trees (IsSkeleton k w.old)) next early = trees_fail (IsSkeleton k w.old) next k.trees primary.told.found primary.told.tells early primary.told.least in
    let enclave : FailsAmong (Some_tree k.trees (IsEnclave k w.old)) next late.failing = same_next (Some_tree k.trees (IsEnclave k w.old)) w.next next late.failing (λ c is. by.leaves c (leaf is.0 c is.2.0)) (trees_fail (IsEnclave k w.old) w.next k.trees secondary.counted.failing secondary.counted.tells late.failing secondary.counted.least) in
    all_fail kernel.updated w.old f (least_with early late.failing)
    (served_join next (λ c. Some_tree k.trees (IsSkeleton k w.old) c ⊎ Some_tree k.trees (IsEnclave k w.old) c) (IsLeafOf w.old) (least_with early late.failing)
    (λ c either. ⊎_elim (λ is. leaf is.0 c is.2.0) (λ is. leaf is.0 c is.2.0) either)
    (λ c is none no.
    let cell : IsCell k.dim c = subst (λ d. IsCell d c) fits.dim is.cell in
    let owner = owner_exists k c fits.cuts cell (level_in k w.old c fits (leaf_there w.old c is)) in
    let owns : OwnsLeaf k w.old owner.0 c = record { cell = cell; leaf = is.leaf; owns = owner.1 } in
    no (inr (owner.0, owner.1.tree, (owns, λ border. no (inl (owner.0, owner.1.tree, (owns, border)))))))
    (either_found (Some_tree k.trees (IsSkeleton k w.old)) (Some_tree k.trees (IsEnclave k w.old)) next early late.failing skeleton enclave))

module _ (updated : UpdateRule) (marked : MarkRule) (g : Spacetree) (f : States) (dim : Dim) (cells : ℕ) (turnover : Turnover) (h : IsTurnover dim cells g (marks_of marked g f) turnover)
    (failing : Option CellKey) (fails : Fails updated g f failing) (size : ℕ) (after : IsSizeAfter dim cells turnover size) (step : ℕ) where
  none_fails : failing ≡ None → (c : CellKey) → IsLeafOf g c → IsSome (new_state updated g f c)
  none_fails none = subst (Fails updated g f) none fails

  -- a refusal has its cause
  pub step_fails : (fault : EvalFault) → IsRefusal failing size step (Some fault) → StepFails updated marked g f step fault
  step_fails (Overflow s c) why = (why.0, subst (Fails updated g f) why.1 fails)
  step_fails (Crowded s n) why = (why.0, subst (Crowds updated marked g f) (sym why.1) (size_crowds updated marked g f dim cells turnover size h after (none_fails why.2) why.3))
  step_fails NoMemory why = absurd why

  -- where there is none, each leaf has a new state and the next grid is served
  pub step_served : IsRefusal failing size step None → ((c : CellKey) → IsLeafOf g c → IsSome (new_state updated g f c)) × ((new : Spacetree) → IsNextGrid g (marks_of marked g f) new → (size ≡ cells_of new) × (cells_of new ≤ 200000))
  step_served none = (
    none_fails none.0,
    λ new next. let is = size_is_next dim cells g (marks_of marked g f) turnover h size new after next in (is, omega (arith, is, none.1)),
  )
