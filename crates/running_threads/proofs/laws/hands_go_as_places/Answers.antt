use Rattle.running_threads.proofs.Hands.{offers_at, turns_keep, answers_at}
use Rattle.running_threads.proofs.laws.hands_go_as_places.Goals as goal

pub returns-clause-offers : goal.returns-clause-offers
returns-clause-offers g c y n a l at sees room offers = offers_at c.args.tasks.now y a n l at sees room offers

pub returns-clause-turns : goal.returns-clause-turns
returns-clause-turns g c y a sees whole most turns = turns_keep c.args.tasks.now y a sees whole most turns

pub returns-clause-answers : goal.returns-clause-answers
returns-clause-answers g c y a l at sees more answers = answers_at c.args.tasks.now y a l at sees more answers
