use Rattle.std.proofs.Common.{ap, refl}
use Rattle.curve_cuts.specs.Keys.{cuts_of}
use Rattle.showing_sweep.specs.declared.counts.CellCounts.{CellCounts}
use Rattle.showing_sweep.specs.Shows.{ShowWork}
use Rattle.showing_sweep.proofs.Swept.{can_show, gathering_is_plain, same_traffic, showing_meaning, vertices_of}
use Rattle.showing_sweep.proofs.Whole.{shown_told}
use Rattle.showing_sweep.proofs.shown.show_tree.Goals as goal

pub sent_from-sent-requires-clause-vertices : goal.sent_from-sent-requires-clause-vertices
sent_from-sent-requires-clause-vertices c = let h = c.requires.store in vertices_of (cuts_of c.args.keys.now) h.0 h.1.0 h.1.1 h.1.2 c.args.store.now h.1.3

pub sweep-requires : goal.sweep-requires
sweep-requires c =
    let h = c.requires.store in
    let can = can_show (cuts_of c.args.keys.now) h.0 h.1.0 h.1.1 h.1.2 c.args.kind c.args.store.now (showing_meaning c.new-visitor.result.keys.dim) c.requires.kind h.1.3 refl (ap (λ (x : ShowWork). x.keys.dim) c.new-visitor.ensures) in
    record { asks = (can.sweep, can.asks) }

pub returns-clause-shown : goal.returns-clause-shown
returns-clause-shown c = λ parts dir grid field on.
    shown_told c.new-visitor.result c.sweep.new.visitor _ dir grid field parts c.args.step c.args.kind c.args.store.now c.sweep.new.store c.in_ok-note.note _ c.sent_from-sent.result
    c.requires.kind c.new-visitor.ensures refl refl c.tree-tree.ensures on c.in_ok-note.ensures.done c.in_ok-note.ensures.rest c.sent_from-sent.ensures c.into_rows.ensures
    (same_traffic _ _ c.tree-tree.ensures (ap (λ (n : CellCounts). n.cells) c.counts-counts.ensures) c.put.ensures c.pushed.ensures (ap (λ (n : CellCounts). n.hanging) c.counts-counts.ensures) (ap (λ (n : CellCounts). n.enclave) c.counts-counts.ensures) (ap (λ (n : CellCounts). n.skeleton) c.counts-counts.ensures) refl)

pub returns-clause-roomy : goal.returns-clause-roomy
returns-clause-roomy c =
    let h = c.requires.store in
    let can = can_show (cuts_of c.args.keys.now) h.0 h.1.0 h.1.1 h.1.2 c.args.kind c.args.store.now (showing_meaning c.new-visitor.result.keys.dim) c.requires.kind h.1.3 refl (ap (λ (x : ShowWork). x.keys.dim) c.new-visitor.ensures) in
    c.in_ok-note.ensures.roomy can.sweep can.asks (gathering_is_plain c.args.kind c.requires.kind)
