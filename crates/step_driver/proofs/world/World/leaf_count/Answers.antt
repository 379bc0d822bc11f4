use Rattle.std.proofs.Common.{sym, ap, ◌∙◌}
use Rattle.curve_cuts.specs.Keys.{cuts_of}
use Rattle.step_world.proofs.Worlds.{deep_grid}
use Rattle.step_driver.specs.Worlds.{Seen}
use Rattle.spacetree.proofs.LeafCounts.{rows_are_leaves}
use Rattle.step_driver.proofs.LeafCounts.{leaves_told}
use Rattle.step_driver.proofs.world.World.leaf_count.Goals as goal

pub returns-clause-leaves : goal.returns-clause-leaves
returns-clause-leaves g c = λ parts t f step at.
    leaves_told t c.dim.result c.self.inside.cells c.leaves_among.result (ap (λ (x : Seen _). x.cells) c.self.view_is ∙ at.trees.counted) (at.trees.fits.dim ∙ ap (λ (x : Seen _). x.keys.dim) (sym c.self.view_is) ∙ sym c.dim.ensures) c.leaves_among.ensures

pub returns-clause-rows : goal.returns-clause-rows
returns-clause-rows g c = λ parts t f step at.
    returns-clause-leaves g c parts t f step at ∙ sym (rows_are_leaves parts t f (deep_grid (cuts_of c.args.self.now.keys) t at.trees.fits) at.trees.field)
