use Rattle.std.proofs.Common.{ap, ◌∙◌}
use Rattle.peano_records.specs.Slots.{slot_at}
use Rattle.peano_records.specs.Tells.{slot_tells}
use Rattle.peano_records.proofs.stored.Stored.tells.Goals as goal

pub returns : goal.returns
returns c = c.tells.ensures c.self.inside.more ∙ ap (λ r. slot_tells c.args.after (slot_at r c.args.n)) c.self.view_is
