use Rattle.std.proofs.Common.{ap, length, sym, subst, ◌∙◌}
use Rattle.std.specs.List.Sorted.{IsStrictlySortedBy}
use Rattle.std.proofs.lemmas.List.{length-map}
use Rattle.peano_keys.specs.Cell.{key_cmp}
use Rattle.spacetree.specs.LeafLists.{IsGridOf, LeavesFail}
use Rattle.spacetree.specs.Leaves.{ListsLeaves}
use Rattle.spacetree.specs.declared.row.Row.{Row}
use Rattle.spacetree.proofs.LeafLists.{deeper}
use Rattle.step_driver.proofs.Recuts.{grid_of_rows, keys_are, rows_list, states_are}
use Rattle.step_driver.proofs.recutting.gather.Goals as goal

pub of_states-requires-clause-lengths : goal.of_states-requires-clause-lengths
of_states-requires-clause-lengths c =
    ap length (c.as_slice.ensures.value ∙ c.in_ok-leaves.ensures) ∙ length-map c.args.rows.now (λ (r : Row). r.key)
    ∙ sym (ap length (c.as_slice-2.ensures.value ∙ c.in_ok-states.ensures) ∙ length-map c.args.rows.now (λ (r : Row). r.value))

pub of_states-requires-clause-order : goal.of_states-requires-clause-order
of_states-requires-clause-order c =
    let h = c.requires.rows in
    subst (IsStrictlySortedBy key_cmp) (sym (c.as_slice.ensures.value ∙ c.in_ok-leaves.ensures)) (rows_list c.args.dim c.args.depth h.0 h.1 c.args.rows.now h.2).order

pub returns-in-Ok : goal.returns-in-Ok
returns-in-Ok c = λ g f are.
    let leaves = c.as_slice-3.ensures.value ∙ c.in_ok-leaves.ensures in (
      sym (c.in-Ok.ensures.one g are.axes (deeper c.args.depth 12 g c.requires.depth are.grid) (subst (ListsLeaves g) (sym leaves) (rows_list c.args.dim c.args.depth g f c.args.rows.now are))),
      c.in_ok-field.ensures.same f (c.as_slice.ensures.value ∙ c.in_ok-leaves.ensures ∙ keys_are c.args.dim c.args.depth g f c.args.rows.now are) (c.as_slice-2.ensures.value ∙ c.in_ok-states.ensures ∙ states_are c.args.dim c.args.depth g f c.args.rows.now are),
    )

pub unreachable-requires : goal.unreachable-requires
unreachable-requires c =
    let h = c.requires.rows in
    let leaves = c.as_slice-3.ensures.value ∙ c.in_ok-leaves.ensures in
    subst (LeavesFail c.args.dim c.args.depth c.as_slice-3.result.now) c.in-Err-NotLeaves.field-0-is c.in-Err-NotLeaves.ensures.fault h.0
    (subst (λ cells. IsGridOf c.args.dim c.args.depth cells h.0) (sym leaves) (grid_of_rows c.args.dim c.args.depth h.0 h.1 c.args.rows.now h.2))
