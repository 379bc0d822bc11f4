use Rattle.std.proofs.Common.{subst, sym, ◌∙◌}
use Rattle.peano_keys.specs.Cell.{IsCell}
use Rattle.curve_cuts.specs.Cuts.{AreCuts}
use Rattle.curve_cuts.specs.Keys.{cuts_of}
use Rattle.curve_cuts.proofs.Around.{no_corner_shared, one_shares_nothing}
use Rattle.curve_cuts.proofs.keys.Keys.has_round.Goals as goal

pub returns-in-Some : goal.returns-in-Some
returns-in-Some c = λ h.
    let cuts : AreCuts (cuts_of c.args.self.now) = rw (← c.self.view_is) c.self.invariant.cuts in
    no_corner_shared (cuts_of c.args.self.now) c.args.tree c.args.cell c.in-Some.around cuts c.requires.tree (rw (← c.self.view_is) c.in-Some.ensures.cell) (rw (← c.self.view_is) c.in-Some.ensures.round) c.requires.level (c.is_whole.ensures h)
