use Rattle.std.proofs.Common.{◌<◌, ◌≤◌, length, arith, ap, ◌∙◌}
use Rattle.curve_cuts.specs.Keys.{cuts_of}
use Rattle.boundary_streams.specs.Sent.{sent_to}
use Rattle.boundary_streams.specs.Mails.{mail_of}
use Rattle.boundary_streams.proofs.Progress.{merged_more, merged_all}
use Rattle.boundary_streams.proofs.Stored.{merge_keeps_lists}
use Rattle.boundary_streams.proofs.merging.merge.Goals as goal

pub loop-k-preserved : goal.loop-k-preserved
loop-k-preserved c =
    let inside : c.loop-k.k < length c.args.store.now.lanes.input = omega (arith, c.input_count-k-end.ensures) in
    merged_more c.args.phase (cuts_of c.args.keys.now) (mail_of c.in_ok-received.received) c.args.store.now c.loop-k.store c.merge_record.new.store c.loop-k.k inside c.loop-k.invariant c.merge_record.ensures

pub returns-clause-ok : goal.returns-clause-ok
returns-clause-ok c =
    let all : length c.args.store.now.lanes.input ≤ c.loop-k.k = omega (arith, c.input_count-k-end.ensures) in
    merged_all c.args.phase (cuts_of c.args.keys.now) (mail_of c.in_ok-received.received) (sent_to c.args.boxes.now c.args.store.now.tree) c.args.store.now c.loop-k.store c.loop-k.k all
    (λ s v. c.in_ok-received.ensures.received (record { sender = s; vertex = v }) ∙ ap (λ t. sent_to c.args.boxes.now t s v) c.tree.ensures) c.loop-k.invariant

pub returns-clause-lists : goal.returns-clause-lists
returns-clause-lists c = λ p number lists. merge_keeps_lists c.args.phase (cuts_of c.args.keys.now) (sent_to c.args.boxes.now c.args.store.now.tree) p number c.args.store.now c.loop-k.store (returns-clause-ok c) lists
