use Rattle.peano_records.proofs.Halves.{far_set}
use Rattle.peano_records.specs.Columns.{slot_by}
use Rattle.std.specs.Prelude.{true}
use Rattle.peano_records.proofs.columns.Near.set_far.Goals as goal

pub returns : goal.returns
returns c = far_set c.args.self.now c.set_in_four.new.four c.args.far.now c.args.more.now c.set_in_four.new.rests c.args.k (slot_by true c.args.slot.now.parts c.args.slot.now.firsts c.args.slot.now.rests) c.requires.far c.set_in_four.ensures
