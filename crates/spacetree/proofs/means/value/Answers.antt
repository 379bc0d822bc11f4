use Rattle.std.proofs.Common.{◌≡◌, ◌-◌, ap, ◌∙◌, sym, true, arith}
use Rattle.peano_keys.specs.declared.dim.Dim.{Dim}
use Rattle.peano_keys.specs.State.{count_of}
use Rattle.peano_keys.specs.Grid.{is_refined}
use Rattle.peano_keys.specs.Sums.{weight, leaf_sum}
use Rattle.peano_keys.specs.Field.{component_of}
use Rattle.spacetree.proofs.Totals.{means_give_value}
use Rattle.spacetree.proofs.Values.{count_of_value}
use Rattle.spacetree.proofs.means.value.Goals as goal

pub returns-clause-value : goal.returns-clause-value
returns-clause-value c =
    let t = c.args.grid.now in
    let f = c.args.field.now in
    let key = c.args.key in
    let refined : is_refined t key ≡ true = sym c.is_refined.ensures ∙ c.if-not-is_refined.false in
    means_give_value t f key c.centre.result c.means.result c.weight-weight.result refined c.centre.ensures
    (c.weight-weight.ensures.value ∙ ap (λ (d : Dim). weight d (12 - key.level)) c.dim.ensures)
    (c.means.ensures (λ i. leaf_sum t (component_of f i) (12 - key.level) key) c.sums.ensures.value)

pub returns-clause-parts : goal.returns-clause-parts
returns-clause-parts c n grid field there =
    ap count_of (returns-clause-value c) ∙ count_of_value 12 n c.args.grid.now c.args.field.now c.args.key (omega arith) grid field c.requires there
