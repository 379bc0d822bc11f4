use Rattle.std.specs.Ordering.{ordering_reverse}
use Rattle.std.proofs.Common.{sym, ap, ◌∙◌}
use Rattle.peano_curve.proofs.Images.{mirrored, has_image}
use Rattle.peano_curve.proofs.laws.mirror.Goals as goal

pub returns-clause-first_image : goal.returns-clause-first_image
returns-clause-first_image c = has_image c.args.dim c.args.p c.args.a c.args.face c.requires.cell c.requires.first c.requires.neighbour c.requires.first_in c.requires.first_at

pub returns-clause-second_image : goal.returns-clause-second_image
returns-clause-second_image c = has_image c.args.dim c.args.p c.args.b c.args.face c.requires.cell c.requires.second c.requires.neighbour c.requires.second_in c.requires.second_at

pub returns-clause-mirror : goal.returns-clause-mirror
returns-clause-mirror c = λ n m found_n found_m.
    mirrored c.args.dim c.args.p c.args.a c.args.b n m c.args.face c.requires.cell c.requires.first c.requires.second c.requires.level c.requires.axis c.requires.neighbour c.requires.first_in c.requires.second_in c.requires.first_at c.requires.second_at found_n found_m
    ∙ sym (ap ordering_reverse c.compare.ensures)
