use Rattle.std.proofs.Common.{refl, sym, subst}
use Rattle.std.specs.Prelude.{IsOk, ◌≤◌}
use Rattle.std.proofs.lemmas.Bool.{false≢true}
use Rattle.vertex_stacks.specs.Lists.{held, room_of}
use Rattle.tree_automaton.specs.TreeLists.{TreeLists, page_count, room_in}
use Rattle.tree_automaton.proofs.Pages.{roomy_reserved, reserved_room}
use Rattle.tree_automaton.proofs.Results.{always}
use Rattle.tree_automaton.proofs.store.TreeStore.reserve.Goals as goal

pub returns-in_err-reserve_live-clause-memory : goal.returns-in_err-reserve_live-clause-memory
returns-in_err-reserve_live-clause-memory c = λ roomy few none. absurd (false≢true (subst IsOk c.in_err-reserve_live.was (c.reserve_live.ensures.covered (subst (λ (z : TreeLists). z.stored ≤ room_of z.lanes) (sym c.self.view_is) (roomy_reserved c.args.self.now roomy))).0))

pub returns-clause-room : goal.returns-clause-room
returns-clause-room c = always c.reserve-2.result (λ few. subst (λ (z : TreeLists). z.stored ≤ room_in z.lanes.dim (page_count c.reserve.new.self)) c.self.view_is (reserved_room c.self.inside.lanes c.reserve_live.new.self c.reserve.new.self c.self.inside.stored (room_of c.reserve_live.new.self) c.reserve_live.new.self.spare c.in_ok-reserve_live.ensures.lists refl c.in_ok-reserve_live.ensures.room c.in_ok-reserve_live.ensures.spare (λ spare. (c.reserve.ensures.covered spare).1) (subst (λ (z : TreeLists). held z.lanes ≤ z.stored) (sym c.self.view_is) few)))
