use Rattle.std.proofs.Common.{arith, refl}
use Rattle.result_table.proofs.Claims.{claims_as}
use Rattle.result_table.proofs.parts.Desk.claim.Goals as goal

pub compare_exchange-found-requires : goal.compare_exchange-found-requires
compare_exchange-found-requires g c =
    let sized = c.args.self.now.sized in (
      c.requires.seat.table,
      rw sized.0 (let b = c.requires.task in omega arith),
      claims_as c.args.self.now.table.shared.key c.args.seat.now.seat.id c.args.k c.args.self.now.size c.args.self.now.table.shared.table_id.slots 0 c.code-taken.result c.args.seat.now.number c.args.seat.now.seat.me.0 c.args.seat.now.seat.me.1
          c.requires.task sized.2 sized.1 refl c.code-taken.ensures c.args.seat.now.numbered,
    )
