use Rattle.std.proofs.Common.{[], ◌∷◌, sym, subst, rules}
use Rattle.toml.specs.View.{table_view}
use Rattle.grid_file.specs.declared.place.Part.TheVariants.{Refine}
use Rattle.grid_file.specs.declared.place.KeyName.TheVariants.{Until}
use Rattle.grid_file.specs.Faults.{Gives}
use Rattle.grid_file.specs.Keys.{key_check}
use Rattle.grid_file.specs.Boxes.{box_checks, zone_from, until_in}
use Rattle.grid_file.proofs.Searches.{first_append}
use Rattle.grid_file.proofs.boxes.ZoneRow.read.Goals as goal

pub returns-in_err-level : goal.returns-in_err-level
returns-in_err-level c =
    let head = c.args.head in
    let t = table_view c.args.table.now in
    let until = key_check Refine c.args.index Until (until_in head.depth t) in
    subst (λ o. Gives c.from_residual.result o (zone_from head.dim head.depth t))
    (sym (first_append 11 (box_checks head.dim head.depth Refine c.args.index t) (until ∷ [])))
    (search rules)
