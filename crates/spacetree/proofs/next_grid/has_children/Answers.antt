use Rattle.std.proofs.Common.{arith, ◌≡◌, ap, ◌∙◌, inl, inr, refl, sym, true}
use Rattle.std.proofs.lemmas.Bool.{false≢true}
use Rattle.std.specs.FinSet as set
use Rattle.peano_keys.specs.Cell.{child_of}
use Rattle.spacetree.specs.Digits.{number_in}
use Rattle.spacetree.proofs.CellSets.{below_or_at}
use Rattle.spacetree.proofs.Children.{child_by_number, child_cell, number_bound, parent_of_child, third_digit}
use Rattle.spacetree.proofs.next_grid.has_children.Goals as goal

pub returns-then-not-contains : goal.returns-then-not-contains
returns-then-not-contains c = (
  λ h. absurd (false≢true h),
  λ has.
      let there : set.contains c.args.cells.now c.child.result ≡ true = ap (set.contains c.args.cells.now) c.child.ensures.value ∙ has c.nth_digits.result c.nth_digits.ensures.digits in
      absurd (false≢true (sym c.if-not-contains.true ∙ c.contains.ensures ∙ there)),
)

pub loop-n-preserved : goal.loop-n-preserved
loop-n-preserved c q cell pos up lt =
    elim (below_or_at (number_in c.args.dim q) c.loop-n.n lt) [
      | inl l ↦ c.loop-n.invariant q cell pos up l
      | inr e ↦
          let same : q ≡ c.child.result = child_by_number c.args.dim q c.args.key c.loop-n.n cell pos up e ∙ ap (child_of c.args.key) (sym c.nth_digits.ensures.value) ∙ sym c.child.ensures.value in
          ap (set.contains c.args.cells.now) same ∙ sym c.contains.ensures ∙ c.if-not-contains.false
    ]

pub returns : goal.returns
returns c = (
  λ _ k digits.
      let child = child_of c.args.key k in
      c.loop-n.invariant child (child_cell c.args.dim c.args.key k c.requires.cell c.requires.room digits) (omega arith)
      (parent_of_child c.args.key k c.requires.cell.shape digits.first digits.second (third_digit c.args.dim k digits))
      (omega (arith, number_bound c.args.dim child, c.child_count-n-end.ensures.power, c.loop-n-test.false)),
  λ _. refl,
)
