use Rattle.std.proofs.Common.{map, sym, ◌∙◌, subst}
use Rattle.std.proofs.lemmas.Bool.{false≢true}
use Rattle.curve_cuts.specs.Keys.{cuts_of}
use Rattle.curve_cuts.specs.Cuts.{IsShared}
use Rattle.boundary_streams.specs.Sendings.{items_of}
use Rattle.boundary_streams.specs.Trees.{IsKeyOf}
use Rattle.boundary_streams.proofs.Sends.{none_at, key_in, key_at}
use Rattle.boundary_streams.proofs.collecting.send_at.Goals as goal

pub returns-then-not-is_shared : goal.returns-then-not-is_shared
returns-then-not-is_shared c =
    let k = cuts_of c.args.keys.now in
    let input = c.args.store.now.lanes.input in
    none_at k c.args.store.now.tree input c.args.k c.key_at-vertex.result (map items_of c.args.lists.now.items) c.key_at-vertex.ensures
    (key_at (IsKeyOf k) input c.args.k c.key_at-vertex.result c.requires.store.keys c.requires.place c.key_at-vertex.ensures).vertex
    (λ h. false≢true (sym c.if-not-is_shared.true ∙ c.is_shared.ensures.1 (subst (λ t. IsShared k t c.key_at-vertex.result) (sym c.tree-tree.ensures) h)))

pub send-requires-clause-key : goal.send-requires-clause-key
send-requires-clause-key c = key_in (IsKeyOf (cuts_of c.args.keys.now)) c.args.store.now.lanes.input c.args.k c.parcel_at-parcel.result c.requires.store.keys c.requires.place c.parcel_at-parcel.ensures.vertex
