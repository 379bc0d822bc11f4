use Rattle.handed_down.proofs.Inside.{next_held_by}
use Rattle.handed_down.proofs.runs.next_of_run.Goals as goal

pub returns-then-around : goal.returns-then-around
returns-then-around c = next_held_by c.args.dir c.args.dim c.args.depth c.args.range.now c.args.cell c.args.n c.requires.run.cell (c.requires.around.whole c.if-around.true) c.next_axis-next.result (c.next_axis-next.ensures c.args.dir c.args.dim c.args.cell c.requires.run.cell c.requires.corner c.requires.around.faces)
