use Rattle.std.proofs.Common.{◌≡◌, subst, sym, arith}
use Rattle.curve_cuts.specs.Cuts.{Cuts, range_of}
use Rattle.curve_cuts.specs.Keys.{cuts_of}
use Rattle.tree_automaton.specs.AtRest.{StandsFor}
use Rattle.worked_sweeps.proofs.rows.show.Goals as goal

pub show_tree-requires-clause-store : goal.show_tree-requires-clause-store
show_tree-requires-clause-store c =
    let k : Cuts = cuts_of c.args.keys.now in
    let s = c.args.store.now in
    let g = c.args._grid.now in
    let f = c.args._field.now in
    let first : c.args.store.now.tree ≡ 0 = c.requires.stands.lists.tree in (
      1,
      (
        s.dir,
        g,
        f,
        record {
          grid = c.requires.cut;
          field = c.requires.field;
          tree = omega (arith, first, c.requires.alone);
          stands = subst (λ t. StandsFor c.args.keys.now.depth (range_of k t) t s.dir g f s) (sym first) (subst (λ d. StandsFor d (range_of k 0) 0 s.dir g f s) (sym c.requires.depth) c.requires.stands);
        },
      ),
    )
