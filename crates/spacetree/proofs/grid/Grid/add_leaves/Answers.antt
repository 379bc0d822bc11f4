use Rattle.std.proofs.Common.{◌≡◌, ap, ◌∙◌, inl, inr, subst, sym, true}
use Rattle.std.specs.FinSet as set
use Rattle.peano_keys.specs.declared.dim.Dim.{Dim}
use Rattle.peano_keys.specs.declared.cell.CellKey.{CellKey}
use Rattle.peano_keys.specs.Cell.{IsDigits, child_of}
use Rattle.peano_keys.specs.Grid.{has_cell}
use Rattle.solver_api.specs.Step.{IsLeafOf}
use Rattle.spacetree.specs.Digits.{digits_at, number_in}
use Rattle.spacetree.proofs.Children.{child_by_number, third_digit}
use Rattle.spacetree.proofs.Leaves.{child_there}
use Rattle.spacetree.proofs.CellSets.{below_or_at}
use Rattle.spacetree.proofs.grid.Grid.add_leaves.Goals as goal

pub add_leaf-requires-clause-cell : goal.add_leaf-requires-clause-cell
add_leaf-requires-clause-cell c =
    c.child.ensures.cell c.args.self.now.dim c.requires.cell (subst (λ (d : Dim). IsDigits d c.nth_digits.result) c.dim-dim.ensures c.nth_digits.ensures.digits)

pub add_leaf-requires-clause-there : goal.add_leaf-requires-clause-there
add_leaf-requires-clause-there c =
    let k = c.nth_digits.result in
    let digits = c.nth_digits.ensures.digits in
    ap (has_cell c.args.self.now) c.child.ensures.value ∙ child_there c.args.self.now c.args.parent k c.requires.cell.shape digits.first digits.second (third_digit c.dim-dim.result k digits) c.requires.refined

pub loop-n-preserved : goal.loop-n-preserved
loop-n-preserved c =
    let t = c.args.self.now in
    let after = c.in_ok-add_leaf.ensures in
    let key : c.child.result ≡ child_of c.args.parent (digits_at t.dim c.loop-n.n) =
    c.child.ensures.value ∙ ap (child_of c.args.parent) (c.nth_digits.ensures.value ∙ ap (λ d. digits_at d c.loop-n.n) c.dim-dim.ensures) in
    record {
      within = after.within;
      kept = λ q h. after.kept q (c.loop-n.invariant.kept q h);
      children = λ q leaf pos up lt. elim (below_or_at (number_in t.dim q) c.loop-n.n lt) [
        | inl l ↦ after.kept q (c.loop-n.invariant.children q leaf pos up l)
        | inr e ↦
            let same : q ≡ c.child.result = child_by_number t.dim q c.args.parent c.loop-n.n leaf.cell pos up e ∙ sym key in
            subst (λ (k : CellKey). set.contains c.add_leaf.new.found k ≡ true) (sym same) (after.added (subst (IsLeafOf t) same leaf))
      ];
    }
