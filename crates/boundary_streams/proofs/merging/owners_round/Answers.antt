use Rattle.boundary_streams.specs.Mails.{IsOwnerAt}
use Rattle.curve_cuts.specs.Keys.{cuts_of}
use Rattle.boundary_streams.proofs.Merges.{each_of_eight}
use Rattle.boundary_streams.proofs.merging.owners_round.Goals as goal

pub returns-clause-each : goal.returns-clause-each
returns-clause-each c = each_of_eight (λ n o. IsOwnerAt (cuts_of c.args.keys.now) c.args.tree c.args.vertex n o) _ _ _ _ _ _ _ _ c.owner_at.ensures c.owner_at-2.ensures c.owner_at-3.ensures c.owner_at-4.ensures c.owner_at-5.ensures c.owner_at-6.ensures c.owner_at-7.ensures c.owner_at-8.ensures
