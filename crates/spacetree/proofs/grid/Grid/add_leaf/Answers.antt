use Rattle.std.proofs.Common.{subst, sym, ap, ◌∙◌, inl, inr}
use Rattle.std.specs.FinSet as set
use Rattle.peano_keys.specs.declared.cell.CellKey.{CellKey}
use Rattle.solver_api.specs.Step.{IsLeafOf}
use Rattle.spacetree.proofs.CellSets.{kept_by_insert, has_inserted, inserted_cases}
use Rattle.spacetree.proofs.Leaves.{leaf_from, not_leaf}
use Rattle.spacetree.proofs.grid.Grid.add_leaf.Goals as goal

pub returns-then-is_refined-clause-added : goal.returns-then-is_refined-clause-added
returns-then-is_refined-clause-added c leaf = absurd (not_leaf c.args.self.now c.args.key (sym c.is_refined.ensures ∙ c.if-is_refined.true) leaf)

pub returns-clause-within : goal.returns-clause-within
returns-clause-within c q h =
    let leaf = leaf_from c.args.self.now c.args.key c.requires.cell c.requires.there (sym c.is_refined.ensures ∙ c.if-is_refined.false) in
    elim (inserted_cases c.args.found.now c.args.key q (ap (λ s. set.contains s q) (sym c.in_ok-insert.ensures.ok) ∙ h)) [
      | inl e ↦ subst (λ (k : CellKey). IsLeafOf c.args.self.now k) (sym e) leaf
      | inr e ↦ c.requires.within q e
    ]

pub returns-clause-kept : goal.returns-clause-kept
returns-clause-kept c q h = ap (λ s. set.contains s q) c.in_ok-insert.ensures.ok ∙ kept_by_insert c.args.found.now c.args.key q h

pub returns-clause-added : goal.returns-clause-added
returns-clause-added c leaf = ap (λ s. set.contains s c.args.key) c.in_ok-insert.ensures.ok ∙ has_inserted c.args.found.now c.args.key
