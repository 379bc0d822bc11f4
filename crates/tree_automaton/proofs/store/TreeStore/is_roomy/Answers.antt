use Rattle.std.proofs.Common.{◌-◌, ◌^◌, ◌<◌, ◌≤◌, sym, ap, ◌∙◌, subst, arith}
use Rattle.std.specs.Prelude.{length}
use Rattle.std.proofs.lemmas.Bool.{false≢true, leb-true, le-leb}
use Rattle.vertex_stacks.specs.Lists.{room_of}
use Rattle.tree_automaton.specs.TreeLists.{TreeLists}
use Rattle.tree_automaton.proofs.Pages.{too_few, roomy_from, streams_have_room}
use Rattle.tree_automaton.proofs.store.TreeStore.is_roomy.Goals as goal

pub returns-then-room-self : goal.returns-then-room-self
returns-then-room-self c = (
  λ e. absurd (false≢true e),
  λ r. absurd (too_few c.args.self.now c.room.result (c.room.ensures.value ∙ ap (λ (z : TreeLists). room_of z.lanes) c.self.view_is) (subst (λ (z : TreeLists). c.room.result < z.stored) c.self.view_is c.if-room-self.true) r),
)

pub returns : goal.returns
returns c =
    let both = streams_have_room c.self.inside.cells c.self.inside.written c.len.result c.capacity.result c.len.ensures c.capacity.ensures in
    let room = c.room.ensures.value ∙ ap (λ (z : TreeLists). room_of z.lanes) c.self.view_is in (
      λ e. roomy_from c.args.self.now c.room.result room
          (subst (λ (z : TreeLists). z.stored ≤ c.room.result) c.self.view_is c.if-room-self.false)
          (subst (λ (z : TreeLists). z.stored < 2 ^ 64 - 1) c.self.view_is (omega arith))
          (subst (λ (z : TreeLists). length z.cells ≤ z.cell_room) c.self.view_is (both.1 (leb-true c.len.result c.capacity.result e))),
      λ r. le-leb c.len.result c.capacity.result (both.0 (subst (λ (z : TreeLists). length z.cells ≤ z.cell_room) (sym c.self.view_is) r.records)),
    )
