-- A raised tree that holds the whole domain stands for its grid and its field.
use Rattle.std.proofs.Common.{◌≡◌, ℕ, ◌<◌, sym, ap, subst, ◌∙◌, arith}
use Rattle.peano_keys.specs.declared.cell.CellKey.{CellKey}
use Rattle.peano_keys.specs.declared.dim.Dim.{Dim}
use Rattle.peano_keys.specs.declared.state.State.{State}
use Rattle.peano_keys.specs.Grid.{Spacetree}
use Rattle.peano_keys.specs.Field.{States, value_of}
use Rattle.peano_curve.specs.declared.order.Direction.TheVariants.{Backward}
use Rattle.peano_records.specs.Slots.{fresh}
use Rattle.peano_records.specs.declared.slot.Intent.TheVariants.{Stay}
use Rattle.peano_records.proofs.Fresh.{fresh_slot_at}
use Rattle.peano_records.proofs.Intents.{below_eight}
use Rattle.vertex_stacks.specs.Notes.{Note}
use Rattle.curve_cuts.specs.Cuts.{Cuts, IsCutGrid, Owns, range_of}
use Rattle.step_phases.specs.Stores.{Store, TreeSays}
use Rattle.step_phases.specs.Phases.{AtRest}
use Rattle.step_phases.specs.Sweeps.{IsRaised, RaiseChanges}
use Rattle.step_phases.proofs.Grids.{owner_of}
use Rattle.step_phases.proofs.Sweeps.{swept_says, fresh_says, Nothing}
use Rattle.swept_slots.proofs.Stores.{said_is_rest}
use Rattle.tree_automaton.specs.TreeLists.{TreeLists}
use Rattle.tree_automaton.specs.AtRest.{HasLists, StandsFor, plain_plan}
use Rattle.swept_slots.specs.Copies.{copies}
use Rattle.peano_records.specs.declared.slot.Slot.{Slot}
use Rattle.adapt_sweep.specs.Raising.{IsRaisedTree}

-- the one tree owns all cells
own : (k : Cuts) (c : CellKey) → k.trees ≡ 1 → (t : ℕ) → Owns k t c → Owns k 0 c
own k c one t owns = subst (λ n. Owns k n c) (let h = owns.tree in let e : t ≡ 0 = omega (arith, one, h) in e) owns

raised_rests : (k : Cuts) (g : Spacetree) (f : CellKey → State) (store : Store) → IsCutGrid k g → k.trees ≡ 1 → IsRaised k g f 0 store → TreeSays k g 0 (AtRest g f) store
raised_rests k g f store fits one raised = λ v has. swept_says k v Nothing (AtRest g f) (RaiseChanges k g f 0) (fresh k.dim v) (store v) (fresh_says k.dim v) (raised v has) (λ n c below at p e.
    let owner = owner_of k g 0 n v c fits has at in
    record {
      status = e.status;
      value = e.value (own k c one owner.0 owner.1);
      stay = e.intent ∙ ap (λ (s : Slot). s.intent) (fresh_slot_at k.dim v n (below_eight k.dim n below));
    })

pub stands : (k : Cuts) (g : Spacetree) (f : States) (step : ℕ) (s t : TreeLists) (note : Note) → IsCutGrid k g → k.trees ≡ 1 → s.tree ≡ 0 → IsRaisedTree k g f step s t note → StandsFor k.depth (range_of k 0) 0 Backward g f t
stands k g f step s t note fits one number raised =
    let lists = subst (λ n. HasLists (plain_plan k.depth (range_of k n) Backward g) n t) number raised.lists in
    let slots = subst (λ n. IsRaised k g (value_of g f) n (copies t.lanes.input)) number raised.slots in
    said_is_rest k g f 0 0 Backward t fits (let h : 0 < k.trees = omega (arith, one) in h) lists (raised_rests k g (value_of g f) (copies t.lanes.input) fits one slots)
