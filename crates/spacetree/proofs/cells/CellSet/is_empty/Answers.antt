use Rattle.std.proofs.Common.{ap, eqb-true, nat_eq, sym, ◌∙◌}
use Rattle.std.specs.FinSet as set
use Rattle.peano_keys.specs.Cell.{key_cmp}
use Rattle.spacetree.proofs.cells.CellSet.is_empty.Goals as goal

pub returns : goal.returns
returns c = (
  λ h. set.empty_of_len c.args.self.now (sym c.len.ensures ∙ eqb-true c.len.result 0 h),
  λ e. ap (λ n. nat_eq n 0) (c.len.ensures ∙ ap set.len e ∙ set.len-empty key_cmp),
)
