use Rattle.std.proofs.Common.{rules, ◌∙◌, ap}
use Rattle.std.specs.Prelude.{slice_set}
use Rattle.peano_records.specs.Columns.{four_of, slot_by}
use Rattle.peano_records.proofs.Halves.{set_of_four, set_narrow}
use Rattle.peano_records.proofs.columns.set_in_four.Goals as goal

pub returns-then-wide : goal.returns-then-wide
returns-then-wide c =
    let s = c.args.slot.now in
    set_of_four c.args.wide c.args.four.now.parts c.args.four.now.firsts c.args.rests.now c.args.k s.parts s.firsts s.rests (search rules) (search rules) (search rules) c.requires.place
    ∙ ap (λ b. slice_set (four_of c.args.wide c.args.four.now c.args.rests.now) c.args.k (slot_by b s.parts s.firsts s.rests)) c.if-wide.true

pub returns-else-wide : goal.returns-else-wide
returns-else-wide c =
    let s = c.args.slot.now in
    set_narrow c.args.wide c.args.four.now.parts c.args.four.now.firsts c.args.rests.now c.args.k s.parts s.firsts s.rests (search rules) (search rules) (search rules) c.requires.place c.if-wide.false (c.requires.narrow c.if-wide.false)
