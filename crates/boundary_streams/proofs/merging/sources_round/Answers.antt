use Rattle.std.specs.Prelude.{None, slice_index_or}
use Rattle.curve_cuts.specs.Keys.{cuts_of}
use Rattle.boundary_streams.specs.Mails.{mail_of}
use Rattle.boundary_streams.proofs.Merges.{source_is}
use Rattle.boundary_streams.proofs.merging.sources_round.Goals as goal

pub returns-clause-each : goal.returns-clause-each
returns-clause-each c = λ n below. source_is (cuts_of c.args.keys.now) (mail_of c.args.received.now) c.args.tree c.args.vertex c.owners_round-owners.result n (slice_index_or c.sources.result n None) (c.owners_round-owners.ensures.each n below) (c.sources.ensures.each n below)
