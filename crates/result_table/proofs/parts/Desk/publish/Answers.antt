use Rattle.std.proofs.Common.{◌≡◌, ◌+◌, ◌-◌, sym, ◌∙◌, ap, arith, Some, ◌∷◌}
use Rattle.result_table.proofs.Publishes.{fetches_as, publishes_as, late_slots}
use Rattle.result_table.specs.Plays.{Mine}
use Rattle.atomic_table.specs.Table.{rest}
use Rattle.result_table.proofs.parts.Desk.publish.Goals as goal

pub load-requires : goal.load-requires
load-requires g c =
    let sized = c.args.self.now.sized in (
      c.requires.seat.table,
      rw sized.0 (let b = c.requires.task in omega arith),
      fetches_as c.args.self.now.table.shared.key c.args.seat.now.seat.id c.args.k c.args.self.now.size c.args.self.now.table.shared.table_id.slots c.args.seat.now.seat.me.0 c.args.seat.now.seat.me.1
          c.requires.task sized.2 sized.1 c.requires.seat.rest c.requires.claimed c.requires.fresh.0 c.requires.fresh.1,
    )

pub compare_exchange-found-requires : goal.compare_exchange-found-requires
compare_exchange-found-requires g c =
    let sized = c.args.self.now.sized in
    let load = c.load.ensures in
    let ex = c.exchange-before.ensures in (
      ex.0 ∙ load.0 ∙ c.requires.seat.table,
      rw sized.0 (let b = c.requires.task in omega arith),
      publishes_as c.args.self.now.table.shared.key c.exchange-before.new.seat.id c.args.k c.args.self.now.size c.args.self.now.table.shared.table_id.slots c.args.seat.now.number c.code-taken.result c.args.seat.now.seat.me.0 c.exchange-before.new.seat.me.0 c.args.done c.exchange-before.new.seat.me.1 (rest c.load.new.seat.me.1)
          c.requires.task sized.2 sized.1 c.requires.done.0 c.requires.done.1 c.args.seat.now.numbered c.code-taken.ensures
          (ap (λ (m : Mine g.row.S.Denot g.S.Updates). m.0) ex.3 ∙ load.2.0)
          (ap (λ (m : Mine g.row.S.Denot g.S.Updates). m.1) ex.3),
    )

pub exchange-late-requires : goal.exchange-late-requires
exchange-late-requires g c =
    let load = c.load.ensures in
    let ex = c.exchange-before.ensures in
    let ce = c.compare_exchange-found.ensures in
    let kept : c.compare_exchange-found.new.seat.me.1 ≡ c.exchange-before.new.seat.me.1 = late_slots c.compare_exchange-found.result c.code-taken.result (c.args.k + 1 - 1) c.exchange-before.new.seat.me c.compare_exchange-found.new.seat.me c.if-found-taken.false ce.2 in
    let carried : c.compare_exchange-found.new.seat.me.1 ≡ (c.args.k, Some c.args.done) ∷ rest c.load.new.seat.me.1 = kept ∙ ap (λ (m : Mine g.row.S.Denot g.S.Updates). m.1) ex.3 in (
      ce.0 ∙ ex.0 ∙ load.0 ∙ c.requires.seat.table,
      (Some c.args.done, carried ∙ ap (λ l. (c.args.k, Some c.args.done) ∷ rest l) (sym carried)),
    )
