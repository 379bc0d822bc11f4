-- After the second exchange each leaf has an answer.
use Rattle.std.proofs.Common.{◌≡◌, ℕ, zero, suc, ◌<◌, ◌&&◌, eqb, Bool, true, false, List, [], ◌∷◌, length, map, set, sym, refl, ap, subst, ◌∙◌, arith, Option, Some, None, ⊎_elim}
use Rattle.std.proofs.lemmas.Bool.{false≢true}
use Rattle.std.specs.Prelude.{slice_get, is_some, if◌then◌else◌}
use Rattle.std.specs.FinMap as fin
use Rattle.peano_keys.specs.declared.cell.CellKey.{CellKey}
use Rattle.peano_keys.specs.declared.state.State.{State}
use Rattle.peano_keys.specs.Grid.{Spacetree}
use Rattle.peano_keys.specs.Field.{States}
use Rattle.solver_api.specs.Step.{UpdateRule, IsLeafOf, new_state}
use Rattle.result_table.proofs.Marked.{by_eqb}
use Rattle.task_core.specs.declared.stop.Leaf.{Leaf}
use Rattle.task_core.specs.declared.stop.Stop.{Stop}
use Rattle.task_core.specs.declared.stop.Stop.TheVariants.{Pass, Compute, Offer}
use Rattle.task_core.specs.declared.event.Event.{Event}
use Rattle.task_core.specs.declared.event.Sweep.{Sweep}
use Rattle.task_core.specs.declared.event.Sweep.TheVariants.{First, Second, Over}
use Rattle.task_core.specs.declared.stop.Offered.{Offered}
use Rattle.task_core.specs.Core.{Answers, Tree, Core, stops, all_made, rewound, answer_of, put, answers_after, stepped, or_skipped, run}
use Rattle.task_core.specs.Opening.{Each, Opens, CoversAll}
use Rattle.task_core.proofs.Lists.{none_is, some_is, get_here, get_else, get_map, below, each_set, each_map, by_place}
use Rattle.task_core.proofs.Keys.{by_key, get_new}
use Rattle.task_core.proofs.Events.{by_event, by_events, tree_visited, tree_moved}
use Rattle.task_core.proofs.Sound.{answers_are}

-- a leaf has an answer
abbrev Has : Answers → CellKey → Type 0
Has a k = is_some (fin.get a k) ≡ true

-- the computed leaves among the first n visits of a tree's first sweep have answers
abbrev Computed : Answers → Tree → ℕ → Type 0
Computed a t n = (j : ℕ) (l : Leaf) → j < n → slice_get t.first j ≡ Some (Compute l) → Has a l.key

-- and the offered ones of its second
abbrev Gathered : Answers → Tree → ℕ → Type 0
Gathered a t n = (j : ℕ) (l : Leaf) → j < n → slice_get t.second j ≡ Some (Offer l) → Has a l.key

abbrev Progress : Sweep → Answers → Tree → Type 0
Progress First a t = Computed a t t.made
Progress Second a t = Computed a t (length t.first) × Gathered a t t.made
Progress Over a t = Computed a t (length t.first) × Gathered a t (length t.second)

abbrev Covered : Core → Type 0
Covered c = Each (Progress c.sweep c.answers) c.trees

more : (s : Sweep) (a b : Answers) (t : Tree) → ((k : CellKey) → Has a k → Has b k) → Progress s a t → Progress s b t
more First a b t keeps h = λ j l small at. keeps l.key (h j l small at)
more Second a b t keeps h = (λ j l small at. keeps l.key (h.0 j l small at), λ j l small at. keeps l.key (h.1 j l small at))
more Over a b t keeps h = (λ j l small at. keeps l.key (h.0 j l small at), λ j l small at. keeps l.key (h.1 j l small at))

both : (a b : Bool) → (a && b) ≡ true → (a ≡ true) × (b ≡ true)
both true b e = (refl, e)
both false b e = absurd (false≢true e)

each_made : (s : Sweep) (ts : List Tree) → all_made s ts ≡ true → Each (λ (t : Tree). t.made ≡ length (stops s t)) ts
each_made s [] all i t at = absurd (none_is t at)
each_made s (u ∷ ts) all zero t at = let h = both (eqb u.made (length (stops s u))) (all_made s ts) all in subst (λ (v : Tree). v.made ≡ length (stops s v)) (some_is u t at) (by_eqb u.made (length (stops s u)) h.0 (λ e. e))
each_made s (u ∷ ts) all (suc i) t at = each_made s ts (both (eqb u.made (length (stops s u))) (all_made s ts) all).1 i t at

is_answered : (o : Option (Option State)) → is_some o ≡ true → (v : Option State) × (o ≡ Some v)
is_answered None e = absurd (false≢true e)
is_answered (Some v) e = (v, refl)

-- a tree with the visits of another
record SameRoute (t u : Tree) : Type 0 where
  first : u.first ≡ t.first
  second : u.second ≡ t.second

-- the trees of a core have the visits that they had
abbrev KeepsRoutes : List Tree → Core → Type 0
KeepsRoutes ts c = (i : ℕ) (t : Tree) → slice_get ts i ≡ Some t → (u : Tree) × (slice_get c.trees i ≡ Some u) × SameRoute t u

routes_set : (ts us : List Tree) (i : ℕ) (old new : Tree) → slice_get us i ≡ Some old → SameRoute old new → ((j : ℕ) (t : Tree) → slice_get ts j ≡ Some t → (u : Tree) × (slice_get us j ≡ Some u) × SameRoute t u)
    → (j : ℕ) (t : Tree) → slice_get ts j ≡ Some t → (u : Tree) × (slice_get (set us i new) j ≡ Some u) × SameRoute t u
routes_set ts us i old new at same all j t there =
    let kept = all j t there in
    by_place i j
    (λ is.
    let one : kept.0 ≡ old = some_is kept.0 old (sym kept.1 ∙ (ap (slice_get us) is ∙ at)) in (
      new,
      subst (λ n. slice_get (set us i new) n ≡ Some new) (sym is) (get_here us i old new at),
      record { first = same.first ∙ (ap (λ (u : Tree). u.first) (sym one) ∙ kept.2.first); second = same.second ∙ (ap (λ (u : Tree). u.second) (sym one) ∙ kept.2.second) },
    ))
    (λ other. (kept.0, get_else us i j new other ∙ kept.1, kept.2))

module _ (updated : UpdateRule) where
  put_has : (a : Answers) (l : Leaf) → Has (put updated a l) l.key
  put_has a l = ap is_some (get_new a l.key (answer_of updated l))

  put_more : (a : Answers) (l : Leaf) (k : CellKey) → Has a k → Has (put updated a l) k
  put_more a l k h = by_key a l.key (answer_of updated l) k (λ _ here. ap is_some here) (λ old. ap is_some old ∙ h)

  missing_more : (b : Bool) (a : Answers) (l : Leaf) (k : CellKey) → Has a k → Has (if b then a else put updated a l) k
  missing_more true a l k h = h
  missing_more false a l k h = put_more a l k h

  missing_has : (b : Bool) (a : Answers) (l : Leaf) → is_some (fin.get a l.key) ≡ b → Has (if b then a else put updated a l) l.key
  missing_has true a l e = e
  missing_has false a l e = put_has a l

  visit_more : (s : Sweep) (a : Answers) (x : Stop) (k : CellKey) → Has a k → Has (answers_after updated s a x) k
  visit_more First a Pass k h = h
  visit_more First a (Compute l) k h = put_more a l k h
  visit_more First a (Offer l) k h = h
  visit_more Second a Pass k h = h
  visit_more Second a (Compute l) k h = h
  visit_more Second a (Offer l) k h = missing_more (is_some (fin.get a l.key)) a l k h
  visit_more Over a x k h = h

  visit_progress : (s : Sweep) (a : Answers) (t : Tree) (x : Stop) → slice_get (stops s t) t.made ≡ Some x → Progress s a t → Progress s (answers_after updated s a x) (tree_visited updated s t x)
  visit_progress First a t x next h = λ j l small at. by_place t.made j
      (λ is. subst (λ y. Has (answers_after updated First a y) l.key) (sym (some_is x (Compute l) (sym next ∙ (ap (slice_get t.first) (sym is) ∙ at)))) (put_has a l))
      (λ other. visit_more First a x l.key (h j l (omega (arith, small, other)) at))
  visit_progress Second a t x next h = (
    λ j l small at. visit_more Second a x l.key (h.0 j l small at),
    λ j l small at. by_place t.made j
        (λ is. subst (λ y. Has (answers_after updated Second a y) l.key) (sym (some_is x (Offer l) (sym next ∙ (ap (slice_get t.second) (sym is) ∙ at)))) (missing_has (is_some (fin.get a l.key)) a l refl))
        (λ other. visit_more Second a x l.key (h.1 j l (omega (arith, small, other)) at)),
  )
  visit_progress Over a t x next h = absurd (none_is x next)

  move_progress : (s : Sweep) (a : Answers) (t : Tree) (ts : List Offered) → Progress s a t → Progress s a (record { first = t.first; second = t.second; made = t.made; tasks = ts })
  move_progress First a t ts h = h
  move_progress Second a t ts h = h
  move_progress Over a t ts h = h

  step : (c : Core) (e : Event) → Covered c → Covered (or_skipped updated c (stepped updated c e))
  step c e h = by_event updated Covered c h
      (λ i t x at next. each_set (Progress c.sweep (answers_after updated c.sweep c.answers x)) c.trees i (tree_visited updated c.sweep t x)
      (λ j u there. more c.sweep c.answers (answers_after updated c.sweep c.answers x) u (visit_more c.sweep c.answers x) (h j u there))
      (visit_progress c.sweep c.answers t x next (h i t at)))
      (λ i k t o w m is at there moved.
      let a = m.answers c.answers o.leaf in
      let keeps : (q : CellKey) → Has c.answers q → Has a q = λ q old. ⊎_elim (λ same. subst (λ b. Has b q) (sym same) old) (λ new. subst (λ b. Has b q) (sym new) (put_more c.answers o.leaf q old)) (is.answers c.answers o.leaf) in
      each_set (Progress c.sweep a) c.trees i (tree_moved updated t k o w)
      (λ j u there. more c.sweep c.answers a u keeps (h j u there))
      (more c.sweep c.answers a (tree_moved updated t k o w) keeps (move_progress c.sweep c.answers t (set t.tasks k (record { leaf = o.leaf; word = w })) (h i t at))))
      (λ is all. each_map (Progress Second c.answers) rewound c.trees (λ i t at.
      let made = each_made First c.trees all i t at in
      let computed : Computed c.answers t t.made = subst (λ s. Each (Progress s c.answers) c.trees) is h i t at in
      (subst (Computed c.answers t) made computed, λ j l small _. absurd (omega (arith, small)))))
      (λ is all. each_map (Progress Over c.answers) rewound c.trees (λ i t at.
      let made = each_made Second c.trees all i t at in
      let done : Computed c.answers t (length t.first) × Gathered c.answers t t.made = subst (λ s. Each (Progress s c.answers) c.trees) is h i t at in
      (done.0, subst (Gathered c.answers t) made done.1)))
      e

  routes : (ts : List Tree) (c : Core) (e : Event) → KeepsRoutes ts c → KeepsRoutes ts (or_skipped updated c (stepped updated c e))
  routes ts c e h = by_event updated (KeepsRoutes ts) c h
      (λ i t x at next. routes_set ts c.trees i t (tree_visited updated c.sweep t x) at (record { first = refl; second = refl }) h)
      (λ i k t o w m is at there moved. routes_set ts c.trees i t (tree_moved updated t k o w) at (record { first = refl; second = refl }) h)
      (λ _ _. rewinds) (λ _ _. rewinds) e
    where
      rewinds : (i : ℕ) (t : Tree) → slice_get ts i ≡ Some t → (u : Tree) × (slice_get (map rewound c.trees) i ≡ Some u) × SameRoute t u
      rewinds i t at = let kept = h i t at in (rewound kept.0, get_map rewound c.trees i kept.0 kept.1, record { first = kept.2.first; second = kept.2.second })

  module _ (g : Spacetree) (f : States) where
    opening : (c : Core) → Opens g f c → Covered c
    opening c h = subst (λ s. Each (Progress s c.answers) c.trees) (sym h.sweep) (λ i t at j l small _. let made = (h.trees i t at).made in absurd (omega (arith, small, made)))

    pub answered : (c : Core) (events : List Event) → Opens g f c → CoversAll g f c → (run updated c events).sweep ≡ Over
        → (k : CellKey) → IsLeafOf g k → fin.get (run updated c events).answers k ≡ Some (new_state updated g f k)
    answered c events h covers over k leaf =
        let d : Core = run updated c events in
        let cover = covers k leaf in
        let kept = by_events updated (KeepsRoutes c.trees) (routes c.trees) c events (λ i t at. (t, at, record { first = refl; second = refl })) cover.is.0 cover.tree cover.is.1 in
        let done : Computed d.answers kept.0 (length kept.0.first) × Gathered d.answers kept.0 (length kept.0.second) = subst (λ s. Each (Progress s d.answers) d.trees) over (by_events updated Covered step c events (opening c h)) cover.is.0 kept.0 kept.1 in
        let has : Has d.answers k = subst (Has d.answers) cover.key (⊎_elim
        (λ s. let at : slice_get kept.0.first s.0 ≡ Some (Compute cover.leaf) = ap (λ l. slice_get l s.0) kept.2.first ∙ s.1 in done.0 s.0 cover.leaf (below kept.0.first s.0 (Compute cover.leaf) at) at)
        (λ s. let at : slice_get kept.0.second s.0 ≡ Some (Offer cover.leaf) = ap (λ l. slice_get l s.0) kept.2.second ∙ s.1 in done.1 s.0 cover.leaf (below kept.0.second s.0 (Offer cover.leaf) at) at)
        cover.stop) in
        let some_answer = is_answered (fin.get d.answers k) has in
        some_answer.1 ∙ ap Some (answers_are updated g f c events h k some_answer.0 some_answer.1)
