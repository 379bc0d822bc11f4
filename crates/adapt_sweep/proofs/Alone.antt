-- Where one tree holds everything, its raised store is at rest.
use Rattle.std.proofs.Common.{◌≡◌, ℕ, ◌<◌, Some, ap, ◌∙◌, subst, arith}
use Rattle.peano_keys.specs.Vertex.{adjacent_of}
use Rattle.peano_keys.specs.Grid.{Spacetree}
use Rattle.peano_keys.specs.Field.{States, value_of}
use Rattle.peano_curve.specs.declared.order.Direction.TheVariants.{Backward}
use Rattle.peano_records.specs.declared.slot.Slot.{Slot}
use Rattle.peano_records.proofs.Fresh.{fresh_slot_at}
use Rattle.peano_records.proofs.Intents.{below_eight}
use Rattle.curve_cuts.specs.Cuts.{Cuts, IsCutGrid, Owns, range_of}
use Rattle.step_phases.specs.Stores.{Store, TreeSays}
use Rattle.step_phases.specs.Phases.{AtRest}
use Rattle.step_phases.specs.Sweeps.{IsRaised}
use Rattle.step_phases.proofs.Grids.{owner_of}
use Rattle.step_phases.proofs.Sweeps.{raise_sweep}
use Rattle.tree_automaton.specs.TreeLists.{TreeLists}
use Rattle.tree_automaton.specs.AtRest.{StandsFor}
use Rattle.swept_slots.proofs.Stores.{said_is_rest}
use Rattle.adapt_sweep.specs.Raising.{IsRaisedTree}
use Rattle.vertex_stacks.specs.Notes.{Note}

alone_says : (k : Cuts) (g : Spacetree) (f : States) (t : ℕ) (store : Store) → IsCutGrid k g → t < k.trees → k.trees ≡ 1 → IsRaised k g (value_of g f) t store → TreeSays k g t (AtRest g (value_of g f)) store
alone_says k g f t store cut tree one raised v has =
    let says = raise_sweep k g (value_of g f) t store raised v has in
    record {
      key = says.key;
      eight = says.eight;
      outside = says.outside;
      inside = λ n c below at.
          let slot = says.inside n c below at in
          let here : adjacent_of k.dim v n ≡ Some c = subst (λ w. adjacent_of k.dim w n ≡ Some c) says.key at in
          let owner = owner_of k g t n v c cut has here in
          let own : Owns k t c = subst (λ o. Owns k o c) (let mine = owner.1.tree in omega (arith, mine, tree, one)) owner.1 in
          record {
            status = slot.status;
            value = slot.own.value own;
            stay = ((raised v has).inside n c below here).intent ∙ ap (λ (s : Slot). s.intent) (fresh_slot_at k.dim v n (below_eight k.dim n below));
          };
      idle = says.idle;
      unused = says.unused;
    }

pub alone_stands : (k : Cuts) (g : Spacetree) (f : States) (step : ℕ) (s u : TreeLists) (note : Note) → IsCutGrid k g → s.tree < k.trees → k.trees ≡ 1 → IsRaisedTree k g f step s u note → StandsFor k.depth (range_of k s.tree) s.tree Backward g f u
alone_stands k g f step s u note cut tree one raised = said_is_rest k g f s.tree s.tree Backward u cut tree raised.lists (alone_says k g f s.tree _ cut tree one raised.slots)
