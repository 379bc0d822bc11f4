use Rattle.std.proofs.Common.{[], ◌∷◌, sym, subst, rules}
use Rattle.toml.specs.View.{table_view}
use Rattle.grid_file.specs.declared.place.Part.TheVariants.{Fill}
use Rattle.grid_file.specs.declared.place.KeyName.TheVariants.{Value}
use Rattle.grid_file.specs.Faults.{Gives}
use Rattle.grid_file.specs.Values.{state_in}
use Rattle.grid_file.specs.Keys.{at_key, key_check}
use Rattle.grid_file.specs.Boxes.{box_checks, fill_from}
use Rattle.grid_file.proofs.Searches.{first_append}
use Rattle.grid_file.proofs.boxes.FillRow.read.Goals as goal

pub returns-in_err-level : goal.returns-in_err-level
returns-in_err-level c =
    let head = c.args.head in
    let t = table_view c.args.table.now in
    let value = key_check Fill c.args.index Value (state_in head.solver (at_key Value t)) in
    subst (λ o. Gives c.from_residual.result o (fill_from head.dim head.depth head.solver t))
    (sym (first_append 10 (box_checks head.dim head.depth Fill c.args.index t) (value ∷ [])))
    (search rules)
