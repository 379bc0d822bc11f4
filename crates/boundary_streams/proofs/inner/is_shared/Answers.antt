use Rattle.std.proofs.Common.{sym, ◌∙◌}
use Rattle.std.proofs.lemmas.Bool.{false≢true}
use Rattle.curve_cuts.specs.Keys.{cuts_of}
use Rattle.curve_cuts.proofs.Around.{one_shares_nothing}
use Rattle.boundary_streams.proofs.inner.is_shared.Goals as goal

pub returns-then-is_inner : goal.returns-then-is_inner
returns-then-is_inner c = (λ h. absurd (false≢true h), λ h. absurd (c.is_inner.ensures c.if-is_inner.true h))
