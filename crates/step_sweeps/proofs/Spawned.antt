-- A primary sweep spawns tasks, and does nothing else with them.
use Rattle.std.proofs.Common.{◌≡◌, ℕ, ◌+◌, List, [], ◌∷◌, ap, sym, ◌∙◌, subst, inl, inr}
use Rattle.peano_records.specs.declared.view.CellView.{CellView}
use Rattle.sweep_visits.specs.Visits.{Visit, enter, leave}
use Rattle.tree_automaton.specs.Story.{Call}
use Rattle.tree_automaton.specs.Sweeps.{Chain, Stands}
use Rattle.step_sweeps.specs.Kernels.{Kernel}
use Rattle.step_sweeps.specs.Primaries.{PrimaryWork, PrimaryEnters, PrimaryLeaves}
use Rattle.step_sweeps.specs.Tasks.{TasksSeen, Offers, Spawns}

-- an offer spawns a task or does nothing
pub offers_spawn : {S : Type 0} (x a b : TasksSeen S) (number : ℕ) → Spawns x a → Offers a number b → Spawns x b
offers_spawn x a b number same (inl h) = h.2 ∙ (ap (λ (y : TasksSeen _). record y { spawned = a.spawned + 1 }) same ∙ ap (λ n. record x { spawned = n }) (sym (ap (λ (y : TasksSeen _). y.spawned) h.2)))
offers_spawn x a b number same (inr h) = subst (Spawns x) (sym h.2) same

module _ {S : Type 0} (kernel : S → Kernel) (tasks : TasksSeen S) where
  kept : (a b : PrimaryWork S) → b.tasks ≡ a.tasks → Spawns tasks a.tasks → Spawns tasks b.tasks
  kept a b same h = subst (Spawns tasks) (sym same) h

  step : (a b : PrimaryWork S) (visit : Visit) (v w : CellView) → Spawns tasks a.tasks → Stands (PrimaryEnters kernel) (PrimaryLeaves kernel) visit v w a b → Spawns tasks b.tasks
  step a b (enter c) v w same (inl h) = offers_spawn tasks a.tasks b.tasks w.task same h.offered
  step a b (enter c) v w same (inr (inl h)) = kept a b (ap (λ (x : PrimaryWork S). x.tasks) h.found) same
  step a b (enter c) v w same (inr (inr h)) = kept a b (ap (λ (x : PrimaryWork S). x.tasks) h.same) same
  step a b (leave c) v w same h = kept a b (ap (λ (x : PrimaryWork S). x.tasks) h.1) same

  pub spawned_alone : (calls : List Call) (a end : PrimaryWork S) → Spawns tasks a.tasks → Chain (PrimaryEnters kernel) (PrimaryLeaves kernel) calls a end → Spawns tasks end.tasks
  spawned_alone [] a end same chain = subst (λ (x : PrimaryWork S). Spawns tasks x.tasks) chain same
  spawned_alone (call ∷ calls) a end same chain = spawned_alone calls chain.0 end (step a chain.0 call.visit call.given call.made same chain.1) chain.2
