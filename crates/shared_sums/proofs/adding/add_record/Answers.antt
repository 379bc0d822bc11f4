use Rattle.std.proofs.Common.{◌≡◌, ◌≢◌, suc, ◌+◌, arith, subst}
use Rattle.std.specs.Prelude.{All}
use Rattle.peano_keys.specs.declared.vertex.VertexKey.{VertexKey}
use Rattle.peano_records.specs.Slots.{VertexRecord}
use Rattle.boundary_streams.proofs.Written.{read_at}
use Rattle.shared_sums.specs.declared.adding.Means.{Means}
use Rattle.shared_sums.specs.Records.{changed_slot}
use Rattle.shared_sums.proofs.Written.{one_more_slot, all_written, all_stay}
use Rattle.shared_sums.proofs.Lacking.{lacking}
use Rattle.shared_sums.proofs.adding.add_record.Goals as goal

pub loop-n-preserved : goal.loop-n-preserved
loop-n-preserved c =
    let e : c.loop-n.n + 1 ≡ suc c.loop-n.n = omega arith in
    one_more_slot (changed_slot c.args.dim c.args.list.now c.key_at-vertex.result) c.args.k c.args.store.now c.requires.place c.loop-n.n (c.loop-n.n + 1) c.loop-n.store c.add_slot.new.store e c.loop-n.invariant c.add_slot.ensures

pub returns : goal.returns
returns c =
    let e : c.loop-n.n ≡ 8 = omega arith in
    all_written c.args.dim c.args.list.now c.args.k c.key_at-vertex.result c.args.store.now c.loop-n.store c.loop-n.n c.requires.place
    (read_at c.args.store.now.lanes.input c.args.k (λ (v : VertexRecord). c.key_at-vertex.result ≡ v.key) c.key_at-vertex.ensures) e c.loop-n.invariant

pub returns-then-lacks_level : goal.returns-then-lacks_level
returns-then-lacks_level c =
    let lacks : All (λ (m : Means). m.key.level ≢ c.key_at-vertex.result.level) c.args.list.now = c.lacks_level.ensures c.if-lacks_level.true in
    all_stay c.args.dim c.args.list.now c.args.k c.args.store.now c.requires.place
    (λ d n x. subst (λ (v : VertexKey). changed_slot c.args.dim c.args.list.now v n x ≡ x) (read_at c.args.store.now.lanes.input c.args.k (λ (v : VertexRecord). c.key_at-vertex.result ≡ v.key) c.key_at-vertex.ensures d) (lacking c.args.dim c.args.list.now c.key_at-vertex.result lacks n x))
