use Rattle.std.specs.Prelude.{None, slice_index_or}
use Rattle.curve_cuts.specs.Keys.{cuts_of}
use Rattle.boundary_streams.specs.Mails.{mail_of}
use Rattle.boundary_streams.proofs.Merges.{merged_by}
use Rattle.boundary_streams.proofs.merging.merge_record.Goals as goal

pub returns : goal.returns
returns c =
    merged_by c.args.phase (cuts_of c.args.keys.now) (mail_of c.args.received.now) c.args.k c.key_at-vertex.result (λ n. slice_index_or c.sources_round-found.result n None)
    c.args.store.now c.exchange_record.new.store c.key_at-vertex.ensures c.exchange_record.ensures c.tree.result c.tree.ensures c.sources_round-found.ensures.each
