use Rattle.std.proofs.Common.{arith, sym, subst, ◌∙◌, ◌-◌, ◌/◌}
use Rattle.std.proofs.lemmas.Bool.{false≢true}
use Rattle.peano_keys.specs.declared.cell.CellKey.{CellKey}
use Rattle.peano_keys.specs.Cell.{at}
use Rattle.peano_curve.specs.Order.{rank_from}
use Rattle.peano_curve.specs.Passing.{TurnsOn}
use Rattle.peano_curve.proofs.Splits.{quiet}
use Rattle.peano_curve.proofs.Rounds.{turn_third, turn_second, turn_first, turn_up}
use Rattle.peano_curve.proofs.passing.+passing_axis.Goals as goal

pub returns-then-crosses-clause-turn : goal.returns-then-crosses-clause-turn
returns-then-crosses-clause-turn t c = turn_third c.args.dir c.args.dim c.args.cell c.args.other c.requires.cell c.requires.other c.requires.beside (omega arith) (c.crosses.ensures.0 c.if-crosses.true)

pub returns-then-crosses-2-clause-turn : goal.returns-then-crosses-2-clause-turn
returns-then-crosses-2-clause-turn t c =
    turn_second c.args.dir c.args.dim c.args.cell c.args.other c.requires.cell c.requires.other c.requires.beside (omega arith)
    (quiet c.args.dir _ _ _ (λ h. false≢true (sym c.if-crosses.false ∙ c.crosses.ensures.1 h)))
    (c.crosses-2.ensures.0 c.if-crosses-2.true)

pub returns-then-crosses-3-clause-turn : goal.returns-then-crosses-3-clause-turn
returns-then-crosses-3-clause-turn t c =
    turn_first c.args.dir c.args.dim c.args.cell c.args.other c.requires.cell c.requires.other c.requires.beside (omega arith)
    (quiet c.args.dir _ _ _ (λ h. false≢true (sym c.if-crosses.false ∙ c.crosses.ensures.1 h)))
    (quiet c.args.dir _ _ _ (λ h. false≢true (sym c.if-crosses-2.false ∙ c.crosses-2.ensures.1 h)))
    (c.crosses-3.ensures.0 c.if-crosses-3.true)

pub returns-clause-turn : goal.returns-clause-turn
returns-clause-turn t c =
    turn_up c.args.dir c.args.dim c.args.cell c.args.other c.requires.cell c.requires.other c.requires.beside (omega arith) c.passing_axis.result
    (quiet c.args.dir _ _ _ (λ h. false≢true (sym c.if-crosses.false ∙ c.crosses.ensures.1 h)))
    (quiet c.args.dir _ _ _ (λ h. false≢true (sym c.if-crosses-2.false ∙ c.crosses-2.ensures.1 h)))
    (quiet c.args.dir _ _ _ (λ h. false≢true (sym c.if-crosses-3.false ∙ c.crosses-3.ensures.1 h)))
    (subst (λ (q : CellKey). TurnsOn c.args.dir (rank_from c.args.dim (c.args.cell.level - 1)) (at c.args.cell 0 / 3) (at c.args.cell 1 / 3) (at c.args.cell 2 / 3) (at q 0) (at q 1) (at q 2) c.passing_axis.result) c.parent-2.ensures.value
    (subst (λ (q : CellKey). TurnsOn c.args.dir (rank_from c.args.dim q.level) (at q 0) (at q 1) (at q 2) (at c.parent-2.result 0) (at c.parent-2.result 1) (at c.parent-2.result 2) c.passing_axis.result) c.parent.ensures.value c.passing_axis.ensures.turn))
