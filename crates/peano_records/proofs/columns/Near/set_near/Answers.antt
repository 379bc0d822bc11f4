use Rattle.peano_records.proofs.Halves.{near_set}
use Rattle.peano_records.specs.Columns.{slot_by}
use Rattle.std.specs.Prelude.{true}
use Rattle.peano_records.proofs.columns.Near.set_near.Goals as goal

pub returns : goal.returns
returns c = λ far. near_set c.args.self.now c.set_in_four.new.four far c.args.more.now c.set_in_four.new.rests c.args.n (slot_by true c.args.slot.now.parts c.args.slot.now.firsts c.args.slot.now.rests) c.requires.place c.set_in_four.ensures
