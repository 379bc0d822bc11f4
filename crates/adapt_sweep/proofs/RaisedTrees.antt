-- A tree's raising sweep, from its empty store to the raised one.
use Rattle.std.proofs.Common.{◌≡◌, ℕ, List, [], ◌∷◌, refl, ap, sym, ◌∙◌, subst, inl, inr}
use Rattle.std.specs.Prelude.{reverse, All, IfOk}
use Rattle.std.specs.declared.result.Result.{Result}
use Rattle.std.specs.declared.result.Result.TheVariants.{Ok, Err}
use Rattle.std.proofs.lemmas.List.{reverse-reverse}
use Rattle.std.proofs.lemmas.List.Elements.{All-nil, All-cons, All-append, All-head, All-tail}
use mathlib.Core.List.{reverse-cons}
use Rattle.peano_keys.specs.declared.vertex.VertexKey.{VertexKey}
use Rattle.peano_keys.specs.Vertex.{IsVertex}
use Rattle.peano_keys.specs.Grid.{Spacetree}
use Rattle.peano_keys.specs.Field.{States, value_of}
use Rattle.peano_records.specs.declared.stored.Stored.{Stored}
use Rattle.peano_records.specs.Slots.{fresh}
use Rattle.peano_curve.specs.declared.order.Direction.TheVariants.{Forward, Backward}
use Rattle.stack_law.specs.Once.{IsIn}
use Rattle.curve_cuts.specs.Cuts.{Cuts, IsCutGrid, range_of}
use Rattle.curve_cuts.specs.Keys.{cuts_of}
use Rattle.vertex_stacks.specs.declared.kind.Kind.TheVariants as kind
use Rattle.vertex_stacks.specs.Notes.{Note}
use Rattle.sweep_visits.specs.Plan.{SweepPlan, IsSweepPlan, dim_of}
use Rattle.sweep_visits.specs.Moves.{moves_of, put_by}
use Rattle.sweep_streams.specs.Streams.{ComesAfter}
use Rattle.sweep_streams.proofs.Pushes.{streams_are_stored}
use Rattle.tree_automaton.specs.declared.kinds.Serves.TheVariants.{Raising}
use Rattle.tree_automaton.specs.Promises.{Meaning}
use Rattle.tree_automaton.specs.Story.{IsOfOutput, Matched, with_calls}
use Rattle.tree_automaton.specs.Sweeps.{SweepGives, begun}
use Rattle.tree_automaton.specs.TreeLists.{TreeLists}
use Rattle.tree_automaton.specs.AtRest.{CanSweep, HasLists, plain_plan, raising_plan}
use Rattle.tree_automaton.proofs.Rests.{store_can_be_raised}
use Rattle.swept_slots.specs.Copies.{copies}
use Rattle.swept_slots.proofs.Stores.{all_in, store_has_copies}
use Rattle.swept_slots.proofs.Visited.{among_in}
use Rattle.adapt_sweep.specs.declared.raise.Raise.{Raise}
use Rattle.tree_automaton.specs.Noted.{note_of}
use Rattle.adapt_sweep.specs.Raising.{Raises, LeavesAsIs, CanBeRaised, IsRaisedTree}
use Rattle.step_phases.specs.Sweeps.{IsRaised, IsSweptRecord, RaiseChanges}
use Rattle.adapt_sweep.proofs.Outputs.{swept_raised}

pub if_both : {T E : Type 0} {P Q R : T → Type 0} (r : Result T E) → ((x : T) → P x → Q x → R x) → IfOk r P → IfOk r Q → IfOk r R
if_both (Ok x) f a b = f x a b
if_both (Err e) f a b = tt

all_reversed : {A : Type 0} (P : A → Type 0) (xs : List A) → All P xs → All P (reverse xs)
all_reversed P [] h = h
all_reversed P (x ∷ xs) h = subst (All P) (sym (reverse-cons x xs)) (All-append P (reverse xs) (x ∷ []) (all_reversed P xs (All-tail P x xs h)) (All-cons P x [] (All-head P x xs h) (All-nil P)))

matched_all : {K A : Type 0} (P : A → Type 0) (R : K → A → Type 0) (ks : List K) (xs : List A) → ((k : K) (x : A) → IsIn k ks → R k x → P x) → Matched R ks xs → All P xs
matched_all P R [] [] f m = All-nil P
matched_all P R (k ∷ ks) (x ∷ xs) f m = All-cons P x xs (f k x (inl refl) m.0) (matched_all P R ks xs (λ j y at. f j y (inr at)) m.1)
matched_all P R [] (x ∷ xs) f m = absurd m
matched_all P R (k ∷ ks) [] f m = absurd m

-- an empty store can be asked for a raising sweep
pub can_raise : (k : Cuts) (g : Spacetree) (f : States) (s : TreeLists) (meaning : Meaning) → CanBeRaised k g s → meaning.serves ≡ Raising → meaning.dim ≡ g.dim → meaning.new_grid ≡ g → CanSweep (raising_plan k.depth (range_of k s.tree) Forward g) s.tree f meaning kind.Raise s
can_raise k g f s meaning can serves dim new = store_can_be_raised k.depth (range_of k s.tree) s.tree g f s meaning can.grid.deepest can.grid.grid can.empty serves dim new

module _ (k : Cuts) (g : Spacetree) (f : States) (s t : TreeLists) (r b : Raise) (meaning : Meaning) (can : CanBeRaised k g s) (serves : meaning.serves ≡ Raising) (dim : meaning.dim ≡ g.dim) (new : meaning.new_grid ≡ g) (cuts : cuts_of r.keys.now ≡ k) (grid : r.grid.now ≡ g) (field : r.field.now ≡ f) (tree : r.tree ≡ s.tree) where
  abbrev pub asked : CanSweep (raising_plan k.depth (range_of k s.tree) Forward g) s.tree f meaning kind.Raise s
  asked = can_raise k g f s meaning can serves dim new

  abbrev plain : SweepPlan
  plain = plain_plan k.depth (range_of k s.tree) Backward g

  raising_is_plan : IsSweepPlan (raising_plan k.depth (range_of k s.tree) Forward g)
  raising_is_plan = record { depth = can.grid.deepest; old = tt; new = can.grid.grid }

  comes_after : (p : SweepPlan) → p ≡ raising_plan k.depth (range_of k s.tree) Forward g → ComesAfter p plain
  comes_after p e = subst (λ x. ComesAfter x plain) (sym e) (record { depth = refl; range = refl; dir = refl; old = refl })

  is_vertex_put : (p : SweepPlan) (w : VertexKey) → p ≡ raising_plan k.depth (range_of k s.tree) Forward g → IsIn w (put_by (moves_of p)) → IsVertex (dim_of p) w
  is_vertex_put p w e at = (((streams_are_stored p (subst IsSweepPlan (sym e) raising_is_plan)).1.members w).0 at).vertex

  pub raised_tree : (step : ℕ) (note : Note) → SweepGives Raises LeavesAsIs asked.sweep step kind.Raise s.lanes.input s.lanes.tale t r b note → ((q : SweepPlan) → IsSweepPlan q → ComesAfter asked.sweep.plan q → HasLists q asked.sweep.tree t) → IsRaisedTree k g f step s t note
  raised_tree step note gives rest = record {
    lists = lists;
    slots = is_raised;
    noted = record {
      counts = gives.note_is ∙ (ap (λ (p : SweepPlan). note_of p kind.Raise step asked.sweep.tree) asked.plan_is ∙ ap (note_of (raising_plan k.depth (range_of k s.tree) Forward g) kind.Raise step) asked.tree_is);
      tale = gives.tale_is;
    };
  }
    where
      lists : HasLists plain s.tree t
      lists = subst (λ n. HasLists plain n t) asked.tree_is (rest plain (record { depth = can.grid.deepest; old = (can.grid.grid, refl); new = can.grid.grid }) (comes_after asked.sweep.plan asked.plan_is))

      DoneBy : Cuts → Spacetree → States → ℕ → Stored → Type 0
      DoneBy k g f n v = IsSweptRecord k (RaiseChanges k g (value_of g f) n) v.key (fresh k.dim v.key) v

      Done' : VertexKey → Stored → Type 0
      Done' w v = IsSweptRecord (cuts_of r.keys.now) (RaiseChanges (cuts_of r.keys.now) r.grid.now (value_of r.grid.now r.field.now) r.tree) w (fresh (cuts_of r.keys.now).dim w) v

      Done : Stored → Type 0
      Done = DoneBy k g f s.tree

      each : (w : VertexKey) (v : Stored) → IsIn w (put_by (moves_of asked.sweep.plan)) → IsOfOutput (with_calls (begun asked.sweep s.lanes.input s.lanes.tale) gives.calls) w v → Done v
      each w v at out = subst (λ x. DoneBy x g f s.tree v) cuts (subst (λ x. DoneBy (cuts_of r.keys.now) x f s.tree v) grid (subst (λ x. DoneBy (cuts_of r.keys.now) r.grid.now x s.tree v) field (subst (λ x. DoneBy (cuts_of r.keys.now) r.grid.now r.field.now x v) tree
          (subst (λ z. Done' z v) (sym out.key) (swept_raised asked.sweep s.lanes.input s.lanes.tale gives.calls r b
          (ap (λ (p : SweepPlan). p.new) asked.plan_is ∙ sym grid)
          can.empty.input
          (subst (λ x. IsCutGrid x r.grid.now) (sym cuts) (subst (IsCutGrid k) (sym grid) can.grid))
          gives.fit gives.chain
          (ap (λ (p : SweepPlan). p.old) asked.plan_is) w v (is_vertex_put asked.sweep.plan w asked.plan_is at) out)))))

      all_done : All Done t.lanes.input
      all_done = subst (All Done) (reverse-reverse t.lanes.input) (all_reversed Done (reverse t.lanes.input) (matched_all Done (IsOfOutput (with_calls (begun asked.sweep s.lanes.input s.lanes.tale) gives.calls)) (put_by (moves_of asked.sweep.plan)) (reverse t.lanes.input) each gives.input))

      is_raised : IsRaised k g (value_of g f) s.tree (copies t.lanes.input)
      is_raised v has =
          let copy = store_has_copies k g s.tree s.tree Backward t can.grid lists v has in
          subst (λ w. IsSweptRecord k (RaiseChanges k g (value_of g f) s.tree) w (fresh k.dim w) (copies t.lanes.input v)) copy.key (all_in Done t.lanes.input all_done (copies t.lanes.input v) (among_in (copies t.lanes.input v) t.lanes.input copy.among))
