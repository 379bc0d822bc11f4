-- Stores by their lists and by their copies, and the one grid and field of a world.
use Rattle.std.proofs.Common.{List, sym, ◌∙◌}
use Rattle.peano_keys.specs.Grid.{Spacetree}
use Rattle.peano_keys.specs.Field.{States}
use Rattle.peano_curve.specs.declared.order.Direction.{Direction}
use Rattle.spacetree.specs.Fields.{HasLeaves}
use Rattle.curve_cuts.specs.Cuts.{Cuts, IsCutGrid}
use Rattle.curve_cuts.specs.Keys.{cuts_of}
use Rattle.tree_automaton.specs.TreeLists.{TreeLists}
use Rattle.swept_slots.proofs.Stores.{rest_is_said, said_is_rest}
use Rattle.boundary_streams.specs.Trees.{copies_of}
use Rattle.step_world.specs.Worlds.{StandFor}
use Rattle.step_world.proofs.Worlds.{stand_for_one}
use Rattle.step_driver.specs.Stores.{store_of, AllHaveLists, AllStandFor}
use Rattle.step_driver.specs.Worlds.{WorldIsAtOne, WorldStands}

-- what lies in the stores and what their copies say is what they stand for
pub all_stand : (k : Cuts) (dir : Direction) (g : Spacetree) (f : States) (stores : List TreeLists) → AllHaveLists k dir g stores → StandFor k (copies_of (store_of stores)) g f → AllStandFor k dir g f stores
all_stand k dir g f stores lists stand = record {
  count = lists.count;
  each = λ t below. said_is_rest k g f t t dir (store_of stores t) stand.fits below (lists.each t below) (stand.rest t);
}

-- and the other way round
pub copies_stand : (k : Cuts) (dir : Direction) (g : Spacetree) (f : States) (stores : List TreeLists) → IsCutGrid k g → HasLeaves g f → AllStandFor k dir g f stores → StandFor k (copies_of (store_of stores)) g f
copies_stand k dir g f stores fits field stand = record {
  fits = fits;
  field = field;
  rest = λ t v has. rest_is_said k g f t t dir (store_of stores t) fits (stand.each t has.corner.tree) v has;
}

pub world_stands : {S : Type 0} → WorldStands S
world_stands parts w g f step at = copies_stand (cuts_of w.keys) at.trees.dir g f w.stores at.trees.fits at.trees.field.leaves at.trees.stand

pub world_is_at_one : {S : Type 0} → WorldIsAtOne S
world_is_at_one parts w g h f e m n one two =
    let same = stand_for_one (cuts_of w.keys) (copies_of (store_of w.stores)) g h f e (world_stands parts w g f m one) (world_stands parts w h e n two) in
    (same.0, same.1, sym one.step_is ∙ two.step_is)
