-- A raised tree that has all stands for its grid and its field.
use Rattle.std.proofs.Common.{◌≡◌, ℕ, sym, subst}
use Rattle.peano_keys.specs.Grid.{Spacetree}
use Rattle.peano_keys.specs.Field.{States}
use Rattle.peano_curve.specs.declared.order.Direction.TheVariants.{Backward}
use Rattle.curve_cuts.specs.Cuts.{Cuts, range_of}
use Rattle.tree_automaton.specs.TreeLists.{TreeLists}
use Rattle.tree_automaton.specs.AtRest.{StandsFor}

-- by the depth and the number that are known, and whichever way it is read
pub raised_stands : (k : Cuts) (g : Spacetree) (f : States) (depth number : ℕ) (s t : TreeLists) → k.depth ≡ depth → s.tree ≡ number → StandsFor k.depth (range_of k s.tree) s.tree Backward g f t → StandsFor depth (range_of k number) number t.dir g f t
raised_stands k g f depth number s t deep tree stands =
    subst (λ d. StandsFor d (range_of k number) number t.dir g f t) deep
    (subst (λ n. StandsFor k.depth (range_of k n) n t.dir g f t) tree
    (subst (λ d. StandsFor k.depth (range_of k s.tree) s.tree d g f t) (sym stands.lists.dir) stands))
