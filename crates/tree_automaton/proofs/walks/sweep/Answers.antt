use Rattle.std.proofs.Common.{◌≡◌, [], length, ◌+◌, ◌≤◌, sym, subst, ◌∙◌, ap, arith}
use Rattle.std.specs.Prelude.{None, IsOk}
use Rattle.std.proofs.lemmas.Bool.{false≢true}
use Rattle.tree_automaton.specs.Views.{HavePlaces}
use Rattle.tree_automaton.specs.TreeLists.{TreeLists, IsRoomy, page_count, room_in}
use Rattle.vertex_stacks.specs.Lists.{held}
use Rattle.tree_automaton.specs.Sweep.{cell_visits}
use Rattle.tree_automaton.specs.Sweeps.{VisitsGive, WalkAsks}
use Rattle.tree_automaton.proofs.Handed.{root_round}
use Rattle.tree_automaton.proofs.Results.{on_err}
use Rattle.tree_automaton.proofs.Swept.{start, walk_asks, has_room, drained, all_read, swept, held_is_stored, roomy_after}
use Rattle.tree_automaton.proofs.Rests.{next_at_rest}
use Rattle.tree_automaton.proofs.walks.sweep.Goals as goal

pub walk-requires-clause-asks : goal.walk-requires-clause-asks
walk-requires-clause-asks g c =
    let r = c.requires.asks in
    (start r.0 (g.V.Visitor.meaning c.args.visitor.now) c.args.kind c.args.store.now r.1 c.reserve.new.self (c.reserve.ensures.lists ∙ ap (λ (z : TreeLists). record z { lanes = record z.lanes { spare = c.reserve.new.self.lanes.spare }; cell_room = c.reserve.new.self.cell_room }) c.stop.ensures), [], [], subst (λ q. WalkAsks (start r.0 (g.V.Visitor.meaning c.args.visitor.now) c.args.kind c.args.store.now r.1 c.reserve.new.self (c.reserve.ensures.lists ∙ ap (λ (z : TreeLists). record z { lanes = record z.lanes { spare = c.reserve.new.self.lanes.spare }; cell_room = c.reserve.new.self.cell_room }) c.stop.ensures)) (g.V.Visitor.meaning c.args.visitor.now) [] [] None q c.args.kind c.reserve.new.self) (sym c.root.ensures) (walk_asks r.0 (g.V.Visitor.meaning c.args.visitor.now) c.args.kind c.args.store.now r.1 c.reserve.new.self (c.reserve.ensures.lists ∙ ap (λ (z : TreeLists). record z { lanes = record z.lanes { spare = c.reserve.new.self.lanes.spare }; cell_room = c.reserve.new.self.cell_room }) c.stop.ensures)))

pub turn-requires-clause-drained : goal.turn-requires-clause-drained
turn-requires-clause-drained g c = let r = c.requires.asks in drained r.0 (g.V.Visitor.meaning c.args.visitor.now) c.args.kind c.args.store.now r.1 c.reserve.new.self (c.reserve.ensures.lists ∙ ap (λ (z : TreeLists). record z { lanes = record z.lanes { spare = c.reserve.new.self.lanes.spare }; cell_room = c.reserve.new.self.cell_room }) c.stop.ensures) g.V.Visitor.entered g.V.Visitor.left c.walk.new.store c.args.visitor.now c.walk.new.visitor (subst (λ q. VisitsGive g.V.Visitor.entered g.V.Visitor.left (start r.0 (g.V.Visitor.meaning c.args.visitor.now) c.args.kind c.args.store.now r.1 c.reserve.new.self (c.reserve.ensures.lists ∙ ap (λ (z : TreeLists). record z { lanes = record z.lanes { spare = c.reserve.new.self.lanes.spare }; cell_room = c.reserve.new.self.cell_room }) c.stop.ensures)) [] (cell_visits r.0.plan q) [] c.walk.new.store c.args.visitor.now c.walk.new.visitor) c.root.ensures (c.in_ok-walk.ensures.done (start r.0 (g.V.Visitor.meaning c.args.visitor.now) c.args.kind c.args.store.now r.1 c.reserve.new.self (c.reserve.ensures.lists ∙ ap (λ (z : TreeLists). record z { lanes = record z.lanes { spare = c.reserve.new.self.lanes.spare }; cell_room = c.reserve.new.self.cell_room }) c.stop.ensures)) [] [] (subst (λ q. WalkAsks (start r.0 (g.V.Visitor.meaning c.args.visitor.now) c.args.kind c.args.store.now r.1 c.reserve.new.self (c.reserve.ensures.lists ∙ ap (λ (z : TreeLists). record z { lanes = record z.lanes { spare = c.reserve.new.self.lanes.spare }; cell_room = c.reserve.new.self.cell_room }) c.stop.ensures)) (g.V.Visitor.meaning c.args.visitor.now) [] [] None q c.args.kind c.reserve.new.self) (sym c.root.ensures) (walk_asks r.0 (g.V.Visitor.meaning c.args.visitor.now) c.args.kind c.args.store.now r.1 c.reserve.new.self (c.reserve.ensures.lists ∙ ap (λ (z : TreeLists). record z { lanes = record z.lanes { spare = c.reserve.new.self.lanes.spare }; cell_room = c.reserve.new.self.cell_room }) c.stop.ensures)))))

pub turn-requires-clause-read : goal.turn-requires-clause-read
turn-requires-clause-read g c = let r = c.requires.asks in all_read r.0 (g.V.Visitor.meaning c.args.visitor.now) c.args.kind c.args.store.now r.1 c.reserve.new.self (c.reserve.ensures.lists ∙ ap (λ (z : TreeLists). record z { lanes = record z.lanes { spare = c.reserve.new.self.lanes.spare }; cell_room = c.reserve.new.self.cell_room }) c.stop.ensures) g.V.Visitor.entered g.V.Visitor.left c.walk.new.store c.args.visitor.now c.walk.new.visitor (subst (λ q. VisitsGive g.V.Visitor.entered g.V.Visitor.left (start r.0 (g.V.Visitor.meaning c.args.visitor.now) c.args.kind c.args.store.now r.1 c.reserve.new.self (c.reserve.ensures.lists ∙ ap (λ (z : TreeLists). record z { lanes = record z.lanes { spare = c.reserve.new.self.lanes.spare }; cell_room = c.reserve.new.self.cell_room }) c.stop.ensures)) [] (cell_visits r.0.plan q) [] c.walk.new.store c.args.visitor.now c.walk.new.visitor) c.root.ensures (c.in_ok-walk.ensures.done (start r.0 (g.V.Visitor.meaning c.args.visitor.now) c.args.kind c.args.store.now r.1 c.reserve.new.self (c.reserve.ensures.lists ∙ ap (λ (z : TreeLists). record z { lanes = record z.lanes { spare = c.reserve.new.self.lanes.spare }; cell_room = c.reserve.new.self.cell_room }) c.stop.ensures)) [] [] (subst (λ q. WalkAsks (start r.0 (g.V.Visitor.meaning c.args.visitor.now) c.args.kind c.args.store.now r.1 c.reserve.new.self (c.reserve.ensures.lists ∙ ap (λ (z : TreeLists). record z { lanes = record z.lanes { spare = c.reserve.new.self.lanes.spare }; cell_room = c.reserve.new.self.cell_room }) c.stop.ensures)) (g.V.Visitor.meaning c.args.visitor.now) [] [] None q c.args.kind c.reserve.new.self) (sym c.root.ensures) (walk_asks r.0 (g.V.Visitor.meaning c.args.visitor.now) c.args.kind c.args.store.now r.1 c.reserve.new.self (c.reserve.ensures.lists ∙ ap (λ (z : TreeLists). record z { lanes = record z.lanes { spare = c.reserve.new.self.lanes.spare }; cell_room = c.reserve.new.self.cell_room }) c.stop.ensures)))))

pub returns-clause-done : goal.returns-clause-done
returns-clause-done g c = λ p asks. swept p (g.V.Visitor.meaning c.args.visitor.now) c.args.kind c.args.store.now asks c.reserve.new.self (c.reserve.ensures.lists ∙ ap (λ (z : TreeLists). record z { lanes = record z.lanes { spare = c.reserve.new.self.lanes.spare }; cell_room = c.reserve.new.self.cell_room }) c.stop.ensures) g.V.Visitor.entered g.V.Visitor.left c.walk.new.store c.args.visitor.now c.walk.new.visitor (subst (λ q. VisitsGive g.V.Visitor.entered g.V.Visitor.left (start p (g.V.Visitor.meaning c.args.visitor.now) c.args.kind c.args.store.now asks c.reserve.new.self (c.reserve.ensures.lists ∙ ap (λ (z : TreeLists). record z { lanes = record z.lanes { spare = c.reserve.new.self.lanes.spare }; cell_room = c.reserve.new.self.cell_room }) c.stop.ensures)) [] (cell_visits p.plan q) [] c.walk.new.store c.args.visitor.now c.walk.new.visitor) c.root.ensures (c.in_ok-walk.ensures.done (start p (g.V.Visitor.meaning c.args.visitor.now) c.args.kind c.args.store.now asks c.reserve.new.self (c.reserve.ensures.lists ∙ ap (λ (z : TreeLists). record z { lanes = record z.lanes { spare = c.reserve.new.self.lanes.spare }; cell_room = c.reserve.new.self.cell_room }) c.stop.ensures)) [] [] (subst (λ q. WalkAsks (start p (g.V.Visitor.meaning c.args.visitor.now) c.args.kind c.args.store.now asks c.reserve.new.self (c.reserve.ensures.lists ∙ ap (λ (z : TreeLists). record z { lanes = record z.lanes { spare = c.reserve.new.self.lanes.spare }; cell_room = c.reserve.new.self.cell_room }) c.stop.ensures)) (g.V.Visitor.meaning c.args.visitor.now) [] [] None q c.args.kind c.reserve.new.self) (sym c.root.ensures) (walk_asks p (g.V.Visitor.meaning c.args.visitor.now) c.args.kind c.args.store.now asks c.reserve.new.self (c.reserve.ensures.lists ∙ ap (λ (z : TreeLists). record z { lanes = record z.lanes { spare = c.reserve.new.self.lanes.spare }; cell_room = c.reserve.new.self.cell_room }) c.stop.ensures))))) c.args.step c.turn.new.self c.turn.result c.turn.ensures.note c.turn.ensures.lists

pub returns-clause-rest : goal.returns-clause-rest
returns-clause-rest g c = λ p asks. next_at_rest g.V.Visitor.entered g.V.Visitor.left p c.args.step c.args.kind c.args.store.now.lanes.input c.args.store.now.lanes.tale c.turn.new.self c.args.visitor.now c.walk.new.visitor c.turn.result asks.sweep (swept p (g.V.Visitor.meaning c.args.visitor.now) c.args.kind c.args.store.now asks c.reserve.new.self (c.reserve.ensures.lists ∙ ap (λ (z : TreeLists). record z { lanes = record z.lanes { spare = c.reserve.new.self.lanes.spare }; cell_room = c.reserve.new.self.cell_room }) c.stop.ensures) g.V.Visitor.entered g.V.Visitor.left c.walk.new.store c.args.visitor.now c.walk.new.visitor (subst (λ q. VisitsGive g.V.Visitor.entered g.V.Visitor.left (start p (g.V.Visitor.meaning c.args.visitor.now) c.args.kind c.args.store.now asks c.reserve.new.self (c.reserve.ensures.lists ∙ ap (λ (z : TreeLists). record z { lanes = record z.lanes { spare = c.reserve.new.self.lanes.spare }; cell_room = c.reserve.new.self.cell_room }) c.stop.ensures)) [] (cell_visits p.plan q) [] c.walk.new.store c.args.visitor.now c.walk.new.visitor) c.root.ensures (c.in_ok-walk.ensures.done (start p (g.V.Visitor.meaning c.args.visitor.now) c.args.kind c.args.store.now asks c.reserve.new.self (c.reserve.ensures.lists ∙ ap (λ (z : TreeLists). record z { lanes = record z.lanes { spare = c.reserve.new.self.lanes.spare }; cell_room = c.reserve.new.self.cell_room }) c.stop.ensures)) [] [] (subst (λ q. WalkAsks (start p (g.V.Visitor.meaning c.args.visitor.now) c.args.kind c.args.store.now asks c.reserve.new.self (c.reserve.ensures.lists ∙ ap (λ (z : TreeLists). record z { lanes = record z.lanes { spare = c.reserve.new.self.lanes.spare }; cell_room = c.reserve.new.self.cell_room }) c.stop.ensures)) (g.V.Visitor.meaning c.args.visitor.now) [] [] None q c.args.kind c.reserve.new.self) (sym c.root.ensures) (walk_asks p (g.V.Visitor.meaning c.args.visitor.now) c.args.kind c.args.store.now asks c.reserve.new.self (c.reserve.ensures.lists ∙ ap (λ (z : TreeLists). record z { lanes = record z.lanes { spare = c.reserve.new.self.lanes.spare }; cell_room = c.reserve.new.self.cell_room }) c.stop.ensures))))) c.args.step c.turn.new.self c.turn.result c.turn.ensures.note c.turn.ensures.lists)

pub returns-in_err-walk-clause-first : goal.returns-in_err-walk-clause-first
returns-in_err-walk-clause-first g c = on_err c.from_residual-in_err-walk.result (λ plain wants.
    let r = c.requires.asks in
    absurd (false≢true (subst IsOk c.in_err-walk.was (c.walk.ensures.memory (start r.0 (g.V.Visitor.meaning c.args.visitor.now) c.args.kind c.args.store.now r.1 c.reserve.new.self (c.reserve.ensures.lists ∙ ap (λ (z : TreeLists). record z { lanes = record z.lanes { spare = c.reserve.new.self.lanes.spare }; cell_room = c.reserve.new.self.cell_room }) c.stop.ensures)) [] [] (subst (λ q. WalkAsks (start r.0 (g.V.Visitor.meaning c.args.visitor.now) c.args.kind c.args.store.now r.1 c.reserve.new.self (c.reserve.ensures.lists ∙ ap (λ (z : TreeLists). record z { lanes = record z.lanes { spare = c.reserve.new.self.lanes.spare }; cell_room = c.reserve.new.self.cell_room }) c.stop.ensures)) (g.V.Visitor.meaning c.args.visitor.now) [] [] None q c.args.kind c.reserve.new.self) (sym c.root.ensures) (walk_asks r.0 (g.V.Visitor.meaning c.args.visitor.now) c.args.kind c.args.store.now r.1 c.reserve.new.self (c.reserve.ensures.lists ∙ ap (λ (z : TreeLists). record z { lanes = record z.lanes { spare = c.reserve.new.self.lanes.spare }; cell_room = c.reserve.new.self.cell_room }) c.stop.ensures))) (has_room r.0 (g.V.Visitor.meaning c.args.visitor.now) c.args.kind c.args.store.now r.1 c.reserve.new.self (c.reserve.ensures.lists ∙ ap (λ (z : TreeLists). record z { lanes = record z.lanes { spare = c.reserve.new.self.lanes.spare }; cell_room = c.reserve.new.self.cell_room }) c.stop.ensures) plain wants c.in_ok-reserve.ensures.vertices (subst (λ (z : TreeLists). length z.cells ≤ c.reserve.new.self.cell_room) c.stop.ensures c.in_ok-reserve.ensures.cells))))))

pub returns-in_err-walk-clause-memory : goal.returns-in_err-walk-clause-memory
returns-in_err-walk-clause-memory g c = λ p asks plain wants roomy.
    let r = c.requires.asks in
    absurd (false≢true (subst IsOk c.in_err-walk.was (c.walk.ensures.memory (start r.0 (g.V.Visitor.meaning c.args.visitor.now) c.args.kind c.args.store.now r.1 c.reserve.new.self (c.reserve.ensures.lists ∙ ap (λ (z : TreeLists). record z { lanes = record z.lanes { spare = c.reserve.new.self.lanes.spare }; cell_room = c.reserve.new.self.cell_room }) c.stop.ensures)) [] [] (subst (λ q. WalkAsks (start r.0 (g.V.Visitor.meaning c.args.visitor.now) c.args.kind c.args.store.now r.1 c.reserve.new.self (c.reserve.ensures.lists ∙ ap (λ (z : TreeLists). record z { lanes = record z.lanes { spare = c.reserve.new.self.lanes.spare }; cell_room = c.reserve.new.self.cell_room }) c.stop.ensures)) (g.V.Visitor.meaning c.args.visitor.now) [] [] None q c.args.kind c.reserve.new.self) (sym c.root.ensures) (walk_asks r.0 (g.V.Visitor.meaning c.args.visitor.now) c.args.kind c.args.store.now r.1 c.reserve.new.self (c.reserve.ensures.lists ∙ ap (λ (z : TreeLists). record z { lanes = record z.lanes { spare = c.reserve.new.self.lanes.spare }; cell_room = c.reserve.new.self.cell_room }) c.stop.ensures))) (has_room r.0 (g.V.Visitor.meaning c.args.visitor.now) c.args.kind c.args.store.now r.1 c.reserve.new.self (c.reserve.ensures.lists ∙ ap (λ (z : TreeLists). record z { lanes = record z.lanes { spare = c.reserve.new.self.lanes.spare }; cell_room = c.reserve.new.self.cell_room }) c.stop.ensures) plain wants c.in_ok-reserve.ensures.vertices (subst (λ (z : TreeLists). length z.cells ≤ c.reserve.new.self.cell_room) c.stop.ensures c.in_ok-reserve.ensures.cells)))))

pub returns-in_err-reserve-clause-memory : goal.returns-in_err-reserve-clause-memory
returns-in_err-reserve-clause-memory g c = λ p asks plain wants roomy.
    let ready : IsRoomy c.stop.new.self = subst IsRoomy (sym c.stop.ensures) (record { exact = roomy.exact; vertices = roomy.vertices; records = roomy.records }) in
    let few : held c.stop.new.self.lanes ≤ c.stop.new.self.stored = subst (λ (z : TreeLists). held z.lanes ≤ z.stored) (sym c.stop.ensures) (held_is_stored p c.args.store.now asks.rest roomy.exact) in
    absurd (false≢true (subst IsOk c.in_err-reserve.was (c.reserve.ensures.memory ready few (ap (λ z. z.written) c.stop.ensures ∙ asks.rest.written))))

pub returns-clause-roomy : goal.returns-clause-roomy
returns-clause-roomy g c = λ p asks plain few.
    let all = swept p (g.V.Visitor.meaning c.args.visitor.now) c.args.kind c.args.store.now asks c.reserve.new.self (c.reserve.ensures.lists ∙ ap (λ (z : TreeLists). record z { lanes = record z.lanes { spare = c.reserve.new.self.lanes.spare }; cell_room = c.reserve.new.self.cell_room }) c.stop.ensures) g.V.Visitor.entered g.V.Visitor.left c.walk.new.store c.args.visitor.now c.walk.new.visitor (subst (λ q. VisitsGive g.V.Visitor.entered g.V.Visitor.left (start p (g.V.Visitor.meaning c.args.visitor.now) c.args.kind c.args.store.now asks c.reserve.new.self (c.reserve.ensures.lists ∙ ap (λ (z : TreeLists). record z { lanes = record z.lanes { spare = c.reserve.new.self.lanes.spare }; cell_room = c.reserve.new.self.cell_room }) c.stop.ensures)) [] (cell_visits p.plan q) [] c.walk.new.store c.args.visitor.now c.walk.new.visitor) c.root.ensures (c.in_ok-walk.ensures.done (start p (g.V.Visitor.meaning c.args.visitor.now) c.args.kind c.args.store.now asks c.reserve.new.self (c.reserve.ensures.lists ∙ ap (λ (z : TreeLists). record z { lanes = record z.lanes { spare = c.reserve.new.self.lanes.spare }; cell_room = c.reserve.new.self.cell_room }) c.stop.ensures)) [] [] (subst (λ q. WalkAsks (start p (g.V.Visitor.meaning c.args.visitor.now) c.args.kind c.args.store.now asks c.reserve.new.self (c.reserve.ensures.lists ∙ ap (λ (z : TreeLists). record z { lanes = record z.lanes { spare = c.reserve.new.self.lanes.spare }; cell_room = c.reserve.new.self.cell_room }) c.stop.ensures)) (g.V.Visitor.meaning c.args.visitor.now) [] [] None q c.args.kind c.reserve.new.self) (sym c.root.ensures) (walk_asks p (g.V.Visitor.meaning c.args.visitor.now) c.args.kind c.args.store.now asks c.reserve.new.self (c.reserve.ensures.lists ∙ ap (λ (z : TreeLists). record z { lanes = record z.lanes { spare = c.reserve.new.self.lanes.spare }; cell_room = c.reserve.new.self.cell_room }) c.stop.ensures))))) c.args.step c.turn.new.self c.turn.result c.turn.ensures.note c.turn.ensures.lists in
    let lanes : c.reserve.new.self.lanes.dim ≡ c.args.store.now.lanes.dim = ap (λ z. z.lanes.dim) c.reserve.ensures.lists ∙ ap (λ z. z.lanes.dim) c.stop.ensures in
    roomy_after p c.args.store.now c.reserve.new.self c.turn.new.self asks.sweep (sym asks.served ∙ plain) asks.rest few
    (subst (λ (z : TreeLists). length z.cells ≤ c.reserve.new.self.cell_room) c.stop.ensures c.in_ok-reserve.ensures.cells)
    (let a = c.in_ok-walk.ensures.room.cells in let b = c.turn.ensures.room in omega (arith, a, b))
    (subst (λ (z : TreeLists). z.stored ≤ room_in z.lanes.dim (page_count c.reserve.new.self.lanes)) c.stop.ensures (c.in_ok-reserve.ensures.room (subst (λ (z : TreeLists). held z.lanes ≤ z.stored) (sym c.stop.ensures) (held_is_stored p c.args.store.now asks.rest few))))
    (let a = c.walk.ensures.tree.pages in let b = c.turn.ensures.pages in omega (arith, a, b))
    (ap (λ z. z.lanes.dim) c.turn.ensures.lists ∙ (c.walk.ensures.tree.dim ∙ lanes)) all.stored all.flags

pub walk-requires-clause-place : goal.walk-requires-clause-place
walk-requires-clause-place g c = c.blank_view-view.ensures c.reserve.new.self.lanes.dim

pub walk-requires-clause-places : goal.walk-requires-clause-places
walk-requires-clause-places g c = subst (λ q. HavePlaces c.reserve.new.self.lanes.dim (q.level + 1) c.blank_views-below.result) (sym c.root.ensures) (c.blank_views-below.ensures c.reserve.new.self.lanes.dim)

pub of_root-round-requires : goal.of_root-round-requires
of_root-round-requires g c = let r = c.requires.asks in record { depth = subst (λ d. d ≤ 12) (sym (c.depth.ensures ∙ (ap (λ z. z.depth) c.reserve.ensures.lists ∙ (ap (λ z. z.depth) c.stop.ensures ∙ r.1.rest.of.depth)))) r.1.sweep.deep }

pub walk-requires-clause-round : goal.walk-requires-clause-round
walk-requires-clause-round g c = root_round c.reserve.new.self c.dim.result c.depth.result c.range.result c.root.result c.of_root-round.result c.dim.ensures c.depth.ensures c.range.ensures c.root.ensures c.of_root-round.ensures
