-- A tree's adaptation sweep, from its store before it to the one after it.
use Rattle.std.proofs.Common.{◌≡◌, ◌⊎◌, ℕ, Bool, true, false, map, refl, ap, sym, ◌∙◌, subst, inl, inr, ⊎_elim}
use Rattle.std.specs.FinMap as fin
use Rattle.std.specs.FinSet as set
use Rattle.std.proofs.lemmas.Bool.{false≢true}
use Rattle.peano_keys.specs.declared.cell.CellKey.{CellKey}
use Rattle.peano_keys.specs.declared.vertex.VertexKey.{VertexKey}
use Rattle.stack_law.specs.Stack.{AreDistinct}
use Rattle.peano_curve.specs.declared.order.Direction.TheVariants.{Forward}
use Rattle.peano_records.specs.declared.slot.Slot.{Slot}
use Rattle.peano_records.specs.declared.view.CellView.{CellView}
use Rattle.hanging_nodes.specs.Views.{AreOldAndNew, IsStoredBefore}
use Rattle.curve_cuts.specs.Cuts.{Cuts, Held, HasVertex, range_of}
use Rattle.curve_cuts.proofs.Cuts.{owner_holds}
use Rattle.vertex_stacks.specs.declared.kind.Kind.TheVariants as kind
use Rattle.vertex_stacks.specs.Notes.{Note}
use Rattle.sweep_visits.specs.Plan.{SweepPlan, IsSweepPlan, is_held}
use Rattle.sweep_visits.proofs.Tests.{held_tells, held_told}
use Rattle.sweep_visits.specs.Moves.{same_vertex}
use Rattle.sweep_visits.specs.Runs.{turned_round}
use Rattle.sweep_streams.specs.Streams.{ComesAfter}
use Rattle.sweep_streams.proofs.Once.{none_taken_twice}
use Rattle.step_phases.specs.Change.{Change}
use Rattle.step_phases.specs.Sweeps.{AdaptChanges, IsAdapted}
use Rattle.tree_automaton.specs.declared.kinds.Serves.TheVariants.{Adapting}
use Rattle.tree_automaton.specs.TreeLists.{TreeLists}
use Rattle.tree_automaton.specs.Promises.{Meaning}
use Rattle.tree_automaton.specs.Sweeps.{SweepGives, key_of}
use Rattle.tree_automaton.specs.AtRest.{CanSweep, HasLists, plain_plan}
use Rattle.tree_automaton.proofs.Decided.{sweep_plan}
use Rattle.tree_automaton.proofs.Rests.{store_can_be_adapted}
use Rattle.swept_slots.specs.Changes.{IfHeld, IsSweepOf, IsSweptVertex}
use Rattle.swept_slots.specs.Laws.{IsSweptTree}
use Rattle.swept_slots.specs.Copies.{copies}
use Rattle.swept_slots.proofs.Swept.{swept_less, swept_vertices}
use Rattle.tree_automaton.specs.Noted.{note_of}
use Rattle.adapt_sweep.specs.Adapts.{Adapts}
use Rattle.adapt_sweep.specs.Adapting.{CanBeAdapted, IsAdaptedTree, adapting_plan}
use Rattle.adapt_sweep.proofs.Changed.{each_adapts}

-- a cell is held or it is not, and where the slots of held cells change so and others stay, all change as an adaptation does
abbrev held_plan : Cuts → ℕ → SweepPlan
held_plan k t = plain_plan k.depth (range_of k t) Forward (record { dim = k.dim; refined = set.empty })

held_or_not : (k : Cuts) (t : ℕ) (c : CellKey) → Held k t c ⊎ ¬ Held k t c
held_or_not k t c = by (is_held (held_plan k t) c) refl
  where
    by : (b : Bool) → is_held (held_plan k t) c ≡ b → Held k t c ⊎ ¬ Held k t c
    by true e = inl (held_tells (held_plan k t) c e)
    by false e = inr (λ held. false≢true (sym e ∙ held_told (held_plan k t) c held))

all_adapt : (k : Cuts) (w : Change) (before : VertexKey → _) (t : ℕ) (c : CellKey) (a b : Slot) → IfHeld k t (AdaptChanges k w before t) c a b → AdaptChanges k w before t c a b
all_adapt k w before t c a b h = ⊎_elim
    (λ held. h.held held)
    (λ away. record {
      intent = ap (λ (s : Slot). s.intent) (h.away away);
      status = λ owns. absurd (away (owner_holds k t c owns));
      value = λ owns. absurd (away (owner_holds k t c owns));
    })
    (held_or_not k t c)

-- a store that stands before an adaptation can be asked for it
pub can_adapt : (k : Cuts) (w : Change) (s : TreeLists) (meaning : Meaning) → CanBeAdapted k w s → meaning.serves ≡ Adapting → meaning.dim ≡ w.new.dim → meaning.new_grid ≡ w.new → CanSweep (adapting_plan k.depth (range_of k s.tree) s.dir w.old w.new) s.tree fin.empty meaning kind.Adapt s
can_adapt k w s meaning can serves dim new = store_can_be_adapted k.depth (range_of k s.tree) s.tree s.dir w.old w.new fin.empty s meaning can.old_grid.deepest (subst (λ d. AreOldAndNew k.depth d w.old w.new) (sym can.new_grid.dim) can.step) can.new_grid.grid can.before serves dim new

module _ {A : Type 0} (entered left : A → CellView → CellView → A → Type 0) (r b : A) (k : Cuts) (w : Change) (s u : TreeLists) (meaning : Meaning) (can : CanBeAdapted k w s) (serves : meaning.serves ≡ Adapting) (dim : meaning.dim ≡ w.new.dim) (new : meaning.new_grid ≡ w.new)
    (enters : (x y : A) (v z : CellView) → x ≡ r → entered x v z y → (y ≡ r) × Adapts k s.tree v z)
    (leaves : (x y : A) (v z : CellView) → x ≡ r → left x v z y → (y ≡ r) × (z ≡ v)) where
  abbrev pub asked : CanSweep (adapting_plan k.depth (range_of k s.tree) s.dir w.old w.new) s.tree fin.empty meaning kind.Adapt s
  asked = can_adapt k w s meaning can serves dim new

  abbrev plan : SweepPlan
  plan = asked.sweep.plan

  is_plan : IsSweepPlan plan
  is_plan = sweep_plan asked.sweep asked.asks.sweep

  of : IsSweepOf k s.tree plan
  of = record {
    dim = ap (λ (p : SweepPlan). p.new.dim) asked.plan_is ∙ can.new_grid.dim;
    depth = ap (λ (p : SweepPlan). p.depth) asked.plan_is;
    range = ap (λ (p : SweepPlan). p.range) asked.plan_is;
  }

  distinct : AreDistinct same_vertex (map key_of s.lanes.input)
  distinct = subst (AreDistinct same_vertex) (sym asked.asks.rest.input) (none_taken_twice plan is_plan).0

  module _ (step : ℕ) (note : Note) (gives : SweepGives entered left asked.sweep step kind.Adapt s.lanes.input s.lanes.tale u r b note) where
    swept : IsSweptTree entered left k s.tree asked.sweep step kind.Adapt s u r b note
    swept = record { sweep = asked.asks.sweep; tree = of; keys = asked.asks.rest.input; gives = gives }

    vertex : (v : VertexKey) → HasVertex k w.new s.tree v → IsSweptVertex k plan (IfHeld k s.tree (AdaptChanges k w (copies s.lanes.input) s.tree)) s.lanes.input u.lanes.input v
    unfolding swept
    vertex v has = swept_vertices entered left k s.tree asked.sweep step kind.Adapt s u r b note (AdaptChanges k w (copies s.lanes.input) s.tree) swept
        (each_adapts entered left r b k s.tree enters leaves asked.sweep is_plan s.lanes.input s.lanes.tale gives.calls gives.visits_are gives.fit gives.chain distinct w of (ap (λ (p : SweepPlan). p.old) asked.plan_is) (ap (λ (p : SweepPlan). p.new) asked.plan_is) can.old_grid can.new_grid can.step)
        v (subst (λ g. HasVertex k g s.tree v) (sym (ap (λ (p : SweepPlan). p.new) asked.plan_is)) has)

    adapted : IsAdapted k w s.tree (copies s.lanes.input) (copies u.lanes.input)
    adapted v has =
        let one = vertex v has in
        let less = all_adapt k w (copies s.lanes.input) s.tree in
        record {
          kept = λ stored. swept_less k _ _ v _ _ less (one.kept (subst (λ o. IsStoredBefore o v) (sym (ap (λ (p : SweepPlan). p.old) asked.plan_is)) stored));
          made = λ none. swept_less k _ _ v _ _ less (one.made (λ stored. none (subst (λ o. IsStoredBefore o v) (ap (λ (p : SweepPlan). p.old) asked.plan_is) stored)));
        }

    comes_after : (p : SweepPlan) → p ≡ adapting_plan k.depth (range_of k s.tree) s.dir w.old w.new → ComesAfter p (plain_plan k.depth (range_of k s.tree) (turned_round s.dir) w.new)
    comes_after p e = subst (λ x. ComesAfter x (plain_plan k.depth (range_of k s.tree) (turned_round s.dir) w.new)) (sym e) (record { depth = refl; range = refl; dir = refl; old = refl })

    pub adapted_tree : ((q : SweepPlan) → IsSweepPlan q → ComesAfter plan q → HasLists q asked.sweep.tree u) → IsAdaptedTree k w step s u note
    adapted_tree rest = record {
      lists = subst (λ n. HasLists (plain_plan k.depth (range_of k s.tree) (turned_round s.dir) w.new) n u) asked.tree_is (rest (plain_plan k.depth (range_of k s.tree) (turned_round s.dir) w.new) (record { depth = can.new_grid.deepest; old = (can.new_grid.grid, refl); new = can.new_grid.grid }) (comes_after plan asked.plan_is));
      slots = adapted;
      noted = record {
        counts = gives.note_is ∙ (ap (λ (p : SweepPlan). note_of p kind.Adapt step asked.sweep.tree) asked.plan_is ∙ ap (note_of (adapting_plan k.depth (range_of k s.tree) s.dir w.old w.new) kind.Adapt step) asked.tree_is);
        tale = gives.tale_is;
      };
    }
