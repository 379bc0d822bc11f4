use Rattle.std.proofs.Common.{sym, ◌∙◌, subst, arith}
use Rattle.std.proofs.lemmas.Bool.{false≢true}
use Rattle.sweep_visits.specs.Runs.{turned_round}
use Rattle.handed_down.specs.Ages.{Rises}
use Rattle.handed_down.proofs.Steps.{rises_other, low_face_kept, low_face_rises, low_face_falls}
use Rattle.handed_down.proofs.ages.low_below.Goals as goal

pub returns-then-x-eq0 : goal.returns-then-x-eq0
returns-then-x-eq0 c = λ p q sum above. above ∙ sym (low_face_kept p q c.args.x c.args.dir c.args.level c.requires.below_root (omega arith))

pub returns-then-rises : goal.returns-then-rises
returns-then-rises c = λ p q sum above. sym (low_face_rises p q c.args.x c.args.dir c.args.level c.requires.below_root (subst (λ z. Rises c.args.dir z) (sym sum) (c.rises.ensures.0 c.if-rises.true)) (λ h. omega arith))

pub returns-else-rises : goal.returns-else-rises
returns-else-rises c = λ p q sum above. sym (low_face_falls p q c.args.x c.args.dir c.args.level c.requires.below_root (subst (λ z. Rises (turned_round c.args.dir) z) (sym sum) (rises_other c.args.dir c.args.sum (λ r. false≢true (sym c.if-rises.false ∙ c.rises.ensures.1 r)))) (λ h. omega arith))
