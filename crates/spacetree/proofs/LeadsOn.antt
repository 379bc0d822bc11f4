-- From a grid and a field a step is served, or overflows, or is crowded.
use Rattle.std.proofs.Common.{◌⊎◌, inl, inr, refl, sym, arith, Option, Some, None, IsSome}
use Rattle.std.specs.Prelude.{IsNone}
use Rattle.std.proofs.lemmas.Bool.{false≢true}
use Rattle.peano_keys.specs.declared.cell.CellKey.{CellKey}
use Rattle.peano_keys.specs.declared.state.State.{State}
use Rattle.peano_keys.specs.Grid.{Spacetree}
use Rattle.peano_keys.specs.Field.{States}
use Rattle.solver_api.specs.Step.{UpdateRule, IsLeafOf, Overflows, new_state}
use Rattle.spacetree.specs.Counts.{cells_of}
use Rattle.spacetree.specs.Laws.{EachStepLeadsOn, HasUpdates}
use Rattle.spacetree.proofs.Collected.{least_of}
use Rattle.spacetree.proofs.Exists.{step_exists}
use Rattle.spacetree.proofs.Leaves.{leaf_there}
use Rattle.spacetree.proofs.AllCells.{all_cells, listed}
use Rattle.spacetree.proofs.Told.{Told, at_most, leaf_told, both_told}

none_told : (o : Option State) → Told (IsNone o)
none_told None = inl refl
none_told (Some s) = inr (λ h. none_and_some (Some s) h refl) where
  none_and_some : (o : Option State) → IsNone o → IsSome o → ⊥
  none_and_some None h g = false≢true g
  none_and_some (Some s) h g = false≢true (sym h)

some_if : (o : Option State) → ¬ (IsNone o) → IsSome o
some_if None h = absurd (h refl)
some_if (Some s) h = refl

module _ (updated : UpdateRule) (t : Spacetree) (f : States) where
  -- a leaf that has no new state
  abbrev Fails : CellKey → Type 0
  Fails c = IsLeafOf t c × IsNone (new_state updated t f c)

  fails_told : (c : CellKey) → Told (Fails c)
  fails_told c = both_told (IsLeafOf t c) (IsNone (new_state updated t f c)) (leaf_told t c) (none_told (new_state updated t f c))

  -- some leaf is the first that fails, or none fails
  pub first_failing : ((c : CellKey) × Overflows updated t f c) ⊎ HasUpdates updated t f
  first_failing = elim (least_of Fails fails_told (all_cells t)) [
    | inl some ↦ inl (
      some.0,
      record {
        leaf = some.1.holds.0;
        failed = some.1.holds.1;
        least = λ b leaf less. some_if (new_state updated t f b) (λ none. some.1.least b (listed t b leaf.cell (leaf_there t b leaf)) (leaf, none) less);
      },
    )
    | inr none ↦ inr (λ c leaf. some_if (new_state updated t f c) (λ fails. none c (listed t c leaf.cell (leaf_there t c leaf)) (leaf, fails)))
  ]

pub each_step_leads_on : EachStepLeadsOn
each_step_leads_on updated marked t f grid = elim (first_failing updated t f) [
  | inl over ↦ inr (inl over)
  | inr updates ↦
      let step = step_exists updated marked t f grid updates in
      elim (at_most (cells_of step.0) 200000) [
        | inl room ↦ inl (step.0, step.1, record { step = step.2; room = room })
        | inr apart ↦ inr (inr (cells_of step.0, record { updates = updates; grid = record { next = (step.0, step.2.grid, refl); crowded = omega (arith, apart) } }))
      ]
]
