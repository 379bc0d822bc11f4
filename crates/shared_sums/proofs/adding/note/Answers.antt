use Rattle.std.proofs.Common.{sym, ap, subst, ◌∙◌}
use Rattle.std.specs.Prelude.{IsSome, List}
use Rattle.peano_keys.specs.declared.cell.CellKey.{CellKey}
use Rattle.sweep_visits.specs.Moves.{same_cell}
use Rattle.sweep_visits.proofs.Same.{cells_decided}
use Rattle.shared_sums.specs.declared.adding.Means.{Means}
use Rattle.shared_sums.specs.Records.{means_of}
use Rattle.shared_sums.proofs.Found.{finds_still, finds_last}
use Rattle.shared_sums.proofs.adding.note.Goals as goal

pub returns-clause-kept : goal.returns-clause-kept
returns-clause-kept c = λ q h. subst (λ (xs : List Means). IsSome (means_of q xs)) (sym c.in_ok-push.ensures.items) (finds_still (λ (m : Means). same_cell m.key q) c.args.list.now.items _ h)

pub returns-clause-has : goal.returns-clause-has
returns-clause-has c = λ owns.
    subst (λ (xs : List Means). IsSome (means_of c.args.key xs)) (sym c.in_ok-push.ensures.items)
    (finds_last (λ (m : Means). same_cell m.key c.args.key) c.args.list.now.items c.means_for.result
    (ap (λ (q : CellKey). same_cell q c.args.key) c.means_for.ensures.key ∙ cells_decided.reflexive c.args.key))
