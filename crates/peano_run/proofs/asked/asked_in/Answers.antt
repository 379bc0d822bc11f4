use Rattle.std.proofs.Common.{Err, ap, map, string_bytes}
use Rattle.peano_run.proofs.AskedFor.{refused_words}
use Rattle.peano_run.proofs.asked.asked_in.Goals as goal

pub returns-in_err-settings-clause-usage : goal.returns-in_err-settings-clause-usage
returns-in_err-settings-clause-usage c = refused_words (map string_bytes c.args.words.now) c.from_residual.result c.in_err-settings.field-0.0 _ (λ e same. same) c.from_residual.ensures.1 (λ usage. c.in_err-settings.ensures.usage (ap Err usage))
