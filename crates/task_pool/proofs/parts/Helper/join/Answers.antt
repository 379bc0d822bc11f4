use Rattle.std.proofs.Common.{sym, ap, ◌∙◌}
use Rattle.std.proofs.lemmas.Bool.{false≢true}
use Rattle.result_table.specs.Views.{has}
use Rattle.task_pool.proofs.Moves.{admits}
use Rattle.task_pool.proofs.parts.Helper.join.Goals as goal

pub pass-pass-requires : goal.pass-pass-requires
pass-pass-requires g c = admits

pub returns : goal.returns
returns g c = (
  record { seat = c.args.seat; pass = c.pass-pass.result },
  c.in_ok-push.ensures.items,
  λ n. record {
    seat = c.requires.0;
    pass = c.pass-pass.ensures.0;
    claimed = λ k e. absurd (false≢true (sym (ap (λ l. has l k) c.requires.1) ∙ e));
  },
)
