-- Every answer is the kernel's on the opening field.
use Rattle.std.proofs.Common.{◌≡◌, ℕ, Bool, true, false, List, sym, ap, subst, ◌∙◌, ⊎_elim, Option, Some}
use Rattle.std.specs.Prelude.{slice_get, is_some, if◌then◌else◌}
use Rattle.std.specs.FinMap as fin
use Rattle.peano_keys.specs.declared.cell.CellKey.{CellKey}
use Rattle.peano_keys.specs.declared.state.State.{State}
use Rattle.peano_keys.specs.Cell.{key_cmp}
use Rattle.peano_keys.specs.Grid.{Spacetree}
use Rattle.peano_keys.specs.Field.{States}
use Rattle.solver_api.specs.Step.{UpdateRule, new_state}
use Rattle.task_core.specs.declared.stop.Leaf.{Leaf}
use Rattle.task_core.specs.declared.stop.Stop.{Stop}
use Rattle.task_core.specs.declared.stop.Stop.TheVariants.{Pass, Compute, Offer}
use Rattle.task_core.specs.declared.event.Event.{Event}
use Rattle.task_core.specs.declared.event.Sweep.{Sweep}
use Rattle.task_core.specs.declared.event.Sweep.TheVariants.{First, Second, Over}
use Rattle.task_core.specs.declared.stop.Offered.{Offered}
use Rattle.task_core.specs.Core.{Answers, Tree, Core, stops, tasks_after, rewound, answer_of, put, answers_after, stepped, or_skipped, run}
use Rattle.task_core.specs.Opening.{Each, IsOpeningLeaf, IsOpeningStop, Opens}
use Rattle.task_core.proofs.Lists.{none_is, some_is, each_set, each_append, each_map}
use Rattle.task_core.proofs.Events.{by_event, by_events}
use Rattle.task_core.proofs.Keys.{by_key}

module _ (updated : UpdateRule) (g : Spacetree) (f : States) where
  -- each answer is that of its leaf in the opening field
  abbrev AreKernels : Answers → Type 0
  AreKernels a = (k : CellKey) (v : Option State) → fin.get a k ≡ Some v → v ≡ new_state updated g f k

  record SoundTree (t : Tree) : Type 0 where
    first : Each (IsOpeningStop g f) t.first
    second : Each (IsOpeningStop g f) t.second
    tasks : Each (λ (o : Offered). IsOpeningLeaf g f o.leaf) t.tasks

  record Sound (c : Core) : Type 0 where
    trees : Each SoundTree c.trees
    answers : AreKernels c.answers

  answer_is : (l : Leaf) → IsOpeningLeaf g f l → answer_of updated l ≡ new_state updated g f l.key
  answer_is l h = λ i. updated (h.own i) (h.sides i) l.key.level

  put_keeps : (a : Answers) (l : Leaf) → AreKernels a → IsOpeningLeaf g f l → AreKernels (put updated a l)
  put_keeps a l all h k v e = by_key a l.key (answer_of updated l) k
      (λ is here. subst (λ q. v ≡ new_state updated g f q) (sym is) (some_is v (answer_of updated l) (sym e ∙ here) ∙ answer_is l h))
      (λ old. all k v (sym old ∙ e))

  missing_keeps : (b : Bool) (a : Answers) (l : Leaf) → AreKernels a → IsOpeningLeaf g f l → AreKernels (if b then a else put updated a l)
  missing_keeps true a l all h = all
  missing_keeps false a l all h = put_keeps a l all h

  answers_keep : (s : Sweep) (a : Answers) (x : Stop) → AreKernels a → IsOpeningStop g f x → AreKernels (answers_after updated s a x)
  answers_keep First a Pass all h = all
  answers_keep First a (Compute l) all h = put_keeps a l all h
  answers_keep First a (Offer l) all h = all
  answers_keep Second a Pass all h = all
  answers_keep Second a (Compute l) all h = all
  answers_keep Second a (Offer l) all h = missing_keeps (is_some (fin.get a l.key)) a l all h
  answers_keep Over a x all h = all

  tasks_keep : (s : Sweep) (ts : List Offered) (x : Stop) → Each (λ (o : Offered). IsOpeningLeaf g f o.leaf) ts → IsOpeningStop g f x → Each (λ (o : Offered). IsOpeningLeaf g f o.leaf) (tasks_after s ts x)
  tasks_keep First ts Pass all h = all
  tasks_keep First ts (Compute l) all h = all
  tasks_keep First ts (Offer l) all h = each_append (λ (o : Offered). IsOpeningLeaf g f o.leaf) ts _ all h
  tasks_keep Second ts x all h = all
  tasks_keep Over ts x all h = all

  stop_is : (s : Sweep) (t : Tree) (n : ℕ) (x : Stop) → slice_get (stops s t) n ≡ Some x → SoundTree t → IsOpeningStop g f x
  stop_is First t n x e h = h.first n x e
  stop_is Second t n x e h = h.second n x e
  stop_is Over t n x e h = absurd (none_is x e)

  step : (c : Core) (e : Event) → Sound c → Sound (or_skipped updated c (stepped updated c e))
  step c e h = by_event updated Sound c h
      (λ i t x at next. let tree = h.trees i t at in let stop = stop_is c.sweep t t.made x next tree in record {
        trees = each_set SoundTree c.trees i _ h.trees (record { first = tree.first; second = tree.second; tasks = tasks_keep c.sweep t.tasks x tree.tasks stop });
        answers = answers_keep c.sweep c.answers x h.answers stop;
      })
      (λ i k t o w m is at there moved. let tree = h.trees i t at in let leaf = tree.tasks k o there in record {
        trees = each_set SoundTree c.trees i _ h.trees (record { first = tree.first; second = tree.second; tasks = each_set (λ (o : Offered). IsOpeningLeaf g f o.leaf) t.tasks k _ tree.tasks leaf });
        answers = ⊎_elim (λ same. subst AreKernels (sym same) h.answers) (λ new. subst AreKernels (sym new) (put_keeps c.answers o.leaf h.answers leaf)) (is.answers c.answers o.leaf);
      })
      (λ _ _. record { trees = each_map SoundTree rewound c.trees (λ i t at. let tree = h.trees i t at in record { first = tree.first; second = tree.second; tasks = tree.tasks }); answers = h.answers })
      (λ _ _. record { trees = each_map SoundTree rewound c.trees (λ i t at. let tree = h.trees i t at in record { first = tree.first; second = tree.second; tasks = tree.tasks }); answers = h.answers })
      e

  opening : (c : Core) → Opens g f c → Sound c
  opening c h = record {
    trees = λ i t at. let tree = h.trees i t at in record {
      first = tree.first;
      second = tree.second;
      tasks = subst (Each (λ (o : Offered). IsOpeningLeaf g f o.leaf)) (sym tree.tasks) (λ j o e. absurd (none_is o e));
    };
    answers = λ k v e. absurd (none_is v (sym (ap (λ a. fin.get a k) h.answers ∙ fin.get-empty key_cmp k) ∙ e));
  }

  pub answers_are : (c : Core) (events : List Event) → Opens g f c → (k : CellKey) (v : Option State) → fin.get (run updated c events).answers k ≡ Some v → v ≡ new_state updated g f k
  answers_are c events h = (by_events updated Sound step c events (opening c h)).answers
