-- Whether a sweep goes below a cell, from its view.
use Rattle.std.proofs.Common.{◌≡◌, Bool, true, false, Option, Some, None, refl, ap, sym, ◌∙◌}
use Rattle.std.specs.Prelude.{◌||◌, if◌then◌else◌}
use Rattle.peano_keys.specs.declared.cell.CellKey.{CellKey}
use Rattle.peano_keys.specs.Grid.{Spacetree, has_cell, is_refined}
use Rattle.peano_records.specs.declared.view.CellView.{CellView}
use Rattle.hanging_nodes.proofs.TwoGrids.{refined_there}
use Rattle.sweep_visits.specs.Plan.{is_refined_in, is_opened}
use Rattle.tree_automaton.specs.Sweep.{TreeSweep, IsTreeSweep, flag_in}
use Rattle.tree_automaton.specs.Views.{ViewFits, says}
use Rattle.tree_automaton.proofs.Decided.{old_grid}

says_if : (h r : Bool) → (r ≡ true → h ≡ true) → says (if h then Some r else None) ≡ r
says_if true r there = refl
says_if false true there = there refl
says_if false false there = refl

-- the flag of a cell tells whether it is refined
says_old : (p : TreeSweep) (c : CellKey) (o : Option Spacetree) → IsTreeSweep p → p.plan.old ≡ o → says (flag_in o c) ≡ is_refined_in o c
says_old p c None plan e = refl
says_old p c (Some t) plan e = says_if (has_cell t c) (is_refined t c) (refined_there p.plan.depth t c (old_grid p t plan e).grid)

says_new : (p : TreeSweep) (c : CellKey) → IsTreeSweep p → says (flag_in (Some p.plan.new) c) ≡ is_refined p.plan.new c
says_new p c plan = says_if (has_cell p.plan.new c) (is_refined p.plan.new c) (refined_there p.plan.depth p.plan.new c plan.new_grid)

pub opens_by_will : (p : TreeSweep) (v : CellView) → IsTreeSweep p → ViewFits p v.key v → (a b : Bool) → a ≡ false → a ≡ says v.was → b ≡ says v.will → b ≡ is_opened p.plan v.key
opens_by_will p v plan fits a b not was will =
    let old : is_refined_in p.plan.old v.key ≡ false = sym (says_old p v.key p.plan.old plan refl) ∙ (ap says (sym fits.view.was) ∙ (sym was ∙ not)) in
    will ∙ (ap says fits.view.will ∙ (says_new p v.key plan ∙ ap (λ x. x || is_refined p.plan.new v.key) (sym old)))
