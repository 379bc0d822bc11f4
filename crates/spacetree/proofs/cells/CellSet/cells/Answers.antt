use Rattle.std.proofs.Common.{ap, ◌∙◌, sym, subst}
use Rattle.std.specs.FinSet as set
use Rattle.std.specs.List.Sorted.{IsStrictlySortedBy}
use Rattle.std.proofs.lemmas.Result.{IfOk-weaker}
use Rattle.peano_keys.specs.Cell.{key_cmp}
use Rattle.spacetree.specs.Leaves.{is_among}
use Rattle.spacetree.proofs.CellMaps.{contains_cell}
use Rattle.spacetree.proofs.cells.CellSet.cells.Goals as goal

pub returns : goal.returns
returns c =
    IfOk-weaker c.in_order.result _ _ (λ cells e. record {
      members = λ q. ap (λ ks. is_among ks q) e ∙ sym (contains_cell c.self.inside.keys.keys q) ∙ ap (λ s. set.contains s q) c.self.view_is;
      order = subst (IsStrictlySortedBy key_cmp) (sym e) c.in_order.ensures.order;
    }) c.in_order.ensures.value
