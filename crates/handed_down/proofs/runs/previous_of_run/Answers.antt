use Rattle.sweep_visits.specs.Runs.{turned_round}
use Rattle.handed_down.proofs.Inside.{previous_held_by, other_way}
use Rattle.handed_down.proofs.runs.previous_of_run.Goals as goal

pub returns-then-around : goal.returns-then-around
returns-then-around c = previous_held_by c.args.dir c.args.dim c.args.depth c.args.range.now c.args.cell c.args.n c.requires.run.cell (c.requires.around.whole c.if-around.true) c.previous_axis-previous.result (c.previous_axis-previous.ensures c.args.dir c.args.dim c.args.cell c.requires.run.cell c.requires.corner c.requires.around.faces)

pub returns-else-around : goal.returns-else-around
returns-else-around c = other_way c.args.dir c.args.dim c.args.depth c.args.range.now c.args.cell c.args.n c.held_across.result (c.held_across.ensures (turned_round c.args.dir) (c.previous_axis-previous.ensures c.args.dir c.args.dim c.args.cell c.requires.run.cell c.requires.corner c.requires.around.faces))
