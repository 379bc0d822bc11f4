use Rattle.std.proofs.Common.{sym, subst}
use Rattle.std.proofs.lemmas.Bool.{false≢true}
use Rattle.tree_automaton.specs.Handed.{IsTold}
use Rattle.tree_automaton.specs.declared.kinds.Serves.{Serves}
use Rattle.tree_automaton.specs.declared.kinds.Serves.TheVariants.{Raising, Adapting, Plain}
use Rattle.tree_automaton.proofs.Told.{is_told}
use Rattle.tree_automaton.proofs.decide.told_below.Goals as goal

pub returns-in-Raising : goal.returns-in-Raising
returns-in-Raising c = subst (λ (s : Serves). IsTold c.args.dim s c.args.view.now (record { old_grid = c.untold.result; new_grid = c.stored_below.result })) (sym c.in-Raising.is) (is_told c.args.dim Raising c.args.view.now (record { old_grid = c.untold.result; new_grid = c.stored_below.result }) c.untold.ensures c.stored_below.ensures.shape (λ e. absurd (false≢true e)) (λ e. c.stored_below.ensures.told))

pub returns-in-Adapting : goal.returns-in-Adapting
returns-in-Adapting c = subst (λ (s : Serves). IsTold c.args.dim s c.args.view.now (record { old_grid = c.stored_below-in-Adapting.result; new_grid = c.stored_below-in-Adapting-2.result })) (sym c.in-Adapting.is) (is_told c.args.dim Adapting c.args.view.now (record { old_grid = c.stored_below-in-Adapting.result; new_grid = c.stored_below-in-Adapting-2.result }) c.stored_below-in-Adapting.ensures.shape c.stored_below-in-Adapting-2.ensures.shape (λ e. c.stored_below-in-Adapting.ensures.told) (λ e. c.stored_below-in-Adapting-2.ensures.told))

pub returns-in-Plain : goal.returns-in-Plain
returns-in-Plain c = subst (λ (s : Serves). IsTold c.args.dim s c.args.view.now (record { old_grid = c.stored_below-in-Plain.result; new_grid = c.untold-in-Plain.result })) (sym c.in-Plain.is) (is_told c.args.dim Plain c.args.view.now (record { old_grid = c.stored_below-in-Plain.result; new_grid = c.untold-in-Plain.result }) c.stored_below-in-Plain.ensures.shape c.untold-in-Plain.ensures (λ e. c.stored_below-in-Plain.ensures.told) (λ e. absurd (false≢true e)))
