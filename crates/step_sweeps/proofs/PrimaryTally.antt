-- The least skeleton leaf of a tree that has no new state, call by call.
use Rattle.std.proofs.Common.{◌≡◌, ℕ, true, false, List, [], ◌∷◌, ◌++◌, Option, None, map, refl, ap, sym, ◌∙◌, subst, inl, inr, append-nil}
use Rattle.std.specs.Prelude.{flat_map}
use Rattle.peano_keys.specs.declared.cell.CellKey.{CellKey}
use Rattle.peano_keys.specs.declared.state.State.{State}
use Rattle.peano_records.specs.declared.stored.Stored.{Stored}
use Rattle.peano_records.specs.declared.view.CellView.{CellView}
use Rattle.curve_cuts.specs.Cuts.{Cuts}
use Rattle.curve_cuts.specs.Keys.{cuts_of}
use Rattle.sweep_visits.specs.Visits.{Visit, enter, leave}
use Rattle.sweep_streams.specs.Records.{entered_at}
use Rattle.tree_automaton.specs.Story.{Call, IsAmong}
use Rattle.tree_automaton.specs.Sweep.{TreeSweep}
use Rattle.tree_automaton.specs.Sweeps.{AllCallsFit, Chain, Stands, begun, visit_of}
use Rattle.vertex_stacks.specs.declared.tale.Tale.{Tale}
use Rattle.swept_slots.proofs.Given.{along_places}
use Rattle.step_world.specs.Failing.{FailsAmong}
use Rattle.step_sweeps.specs.Enclaves.{DecidesEnclave}
use Rattle.step_sweeps.specs.Kernels.{Kernel, new_in, failing_with}
use Rattle.step_sweeps.specs.Primaries.{PrimaryWork, Computes, PrimaryEnters, PrimaryLeaves}
use Rattle.step_sweeps.proofs.LeastFailing.{Among, none_fails, other_more, leaf_more}
use Rattle.step_sweeps.proofs.OwnCounts.{flat_at}
use Rattle.step_sweeps.proofs.Primaries.{Same, did}

-- the view of a cell as it is entered tells whether the cell is of a kind, and then its new value
pub record IsJudged (k : Kernel) (cuts : Cuts) (t : ℕ) (P : CellKey → Type 0) (next : CellKey → Option State) (c : CellKey) (v : CellView) : Type 0 where
  pub key : v.key ≡ c
  pub enclave : Computes k cuts t v → DecidesEnclave cuts t v true → P c → ⊥
  pub skeleton : Computes k cuts t v → DecidesEnclave cuts t v false → P c
  pub computed : P c → Computes k cuts t v
  pub new : P c → new_in k cuts.dim v ≡ next c

-- the cells that calls entered
abbrev pub seen : List Call → List CellKey
seen so_far = flat_map entered_at (map visit_of so_far)

module _ {S : Type 0} (kernel : S → Kernel) (start : PrimaryWork S) (calls : List Call) (P : CellKey → Type 0) (next : CellKey → Option State)
    (judged : (call : Call) → IsAmong call calls → (c : CellKey) → call.visit ≡ enter c → IsJudged (kernel start.solver) (cuts_of start.keys) start.tree P next c call.given) where
  Holds : List Call → PrimaryWork S → Type 0
  Holds so_far a = Same kernel start a × FailsAmong (Among (seen so_far) P) next a.failing

  entered_more : (so_far : List Call) (call : Call) (c : CellKey) (o : Option CellKey) → call.visit ≡ enter c → FailsAmong (Among (seen so_far ++ c ∷ []) P) next o → FailsAmong (Among (seen (so_far ++ call ∷ [])) P) next o
  entered_more so_far call c o is h = subst (λ l. FailsAmong (Among l P) next o) (sym (flat_at entered_at so_far call (enter c) [] is)) h

  step : (so_far : List Call) (call : Call) (after : List Call) (a b : PrimaryWork S) (visit : Visit) → call.visit ≡ visit → calls ≡ so_far ++ call ∷ after → Holds so_far a → Stands (PrimaryEnters kernel) (PrimaryLeaves kernel) visit call.given call.made a b → Holds (so_far ++ call ∷ []) b
  unfolding Holds
  step so_far call after a b (enter c) is place holds (inl h) =
      let judge = judged call (record { before = so_far; after = after; place = place }) c is in
      let made = did kernel start a b (enter c) call.given call.made holds.0 (inl h) in
      let computed : Computes (kernel start.solver) (cuts_of start.keys) start.tree call.given = subst (λ (x : PrimaryWork S). Computes (kernel x.solver) (cuts_of x.keys) x.tree call.given) holds.0 h.computed in
      let decides : DecidesEnclave (cuts_of start.keys) start.tree call.given true = subst (λ (x : PrimaryWork S). DecidesEnclave (cuts_of x.keys) x.tree call.given true) holds.0 h.enclave in
      (made.0, entered_more so_far call c b.failing is (subst (λ o. FailsAmong (Among (seen so_far ++ c ∷ []) P) next o) (sym (ap (λ (x : PrimaryWork S). x.failing) h.same)) (other_more next (seen so_far) P c a.failing (judge.enclave computed decides) holds.1)))
  step so_far call after a b (enter c) is place holds (inr (inl h)) =
      let judge = judged call (record { before = so_far; after = after; place = place }) c is in
      let made = did kernel start a b (enter c) call.given call.made holds.0 (inr (inl h)) in
      let computed : Computes (kernel start.solver) (cuts_of start.keys) start.tree call.given = subst (λ (x : PrimaryWork S). Computes (kernel x.solver) (cuts_of x.keys) x.tree call.given) holds.0 h.computed in
      let decides : DecidesEnclave (cuts_of start.keys) start.tree call.given false = subst (λ (x : PrimaryWork S). DecidesEnclave (cuts_of x.keys) x.tree call.given false) holds.0 h.skeleton in
      let kind = judge.skeleton computed decides in
      let new : new_in (kernel a.solver) a.keys.dim call.given ≡ next c = ap (λ (x : PrimaryWork S). new_in (kernel x.solver) x.keys.dim call.given) holds.0 ∙ judge.new kind in
      let found : b.failing ≡ failing_with a.failing c (next c) = ap (λ (x : PrimaryWork S). x.failing) h.found ∙ (ap (λ q. failing_with a.failing q (new_in (kernel a.solver) a.keys.dim call.given)) judge.key ∙ ap (failing_with a.failing c) new) in
      (made.0, entered_more so_far call c b.failing is (subst (λ o. FailsAmong (Among (seen so_far ++ c ∷ []) P) next o) (sym found) (leaf_more next (seen so_far) P c a.failing kind holds.1)))
  step so_far call after a b (enter c) is place holds (inr (inr h)) =
      let judge = judged call (record { before = so_far; after = after; place = place }) c is in
      let made = did kernel start a b (enter c) call.given call.made holds.0 (inr (inr h)) in
      let other : P c → ⊥ = λ kind. h.other (subst (λ (x : PrimaryWork S). Computes (kernel x.solver) (cuts_of x.keys) x.tree call.given) (sym holds.0) (judge.computed kind)) in
      (made.0, entered_more so_far call c b.failing is (subst (λ o. FailsAmong (Among (seen so_far ++ c ∷ []) P) next o) (sym (ap (λ (x : PrimaryWork S). x.failing) h.same)) (other_more next (seen so_far) P c a.failing other holds.1)))
  step so_far call after a b (leave c) is place holds h = (
    (did kernel start a b (leave c) call.given call.made holds.0 h).0,
    subst (λ l. FailsAmong (Among l P) next b.failing) (sym (flat_at entered_at so_far call (leave c) [] is ∙ append-nil (seen so_far)))
        (subst (λ o. FailsAmong (Among (seen so_far) P) next o) (sym (ap (λ (x : PrimaryWork S). x.failing) h.1)) holds.1),
  )

  -- after all calls the visitor has found the least that failed
  pub least_found : (p : TreeSweep) (first : List Stored) (tale : Tale) (end : PrimaryWork S) → start.failing ≡ None → AllCallsFit (begun p first tale) calls → Chain (PrimaryEnters kernel) (PrimaryLeaves kernel) calls start end → FailsAmong (Among (seen calls) P) next end.failing
  unfolding Holds
  least_found p first tale end none fit chain =
      (along_places (PrimaryEnters kernel) (PrimaryLeaves kernel) (begun p first tale) calls Holds (λ so_far call after a b place holds fits stands. step so_far call after a b call.visit refl place holds stands) [] calls start end refl fit chain
      (refl, subst (λ o. FailsAmong (Among [] P) next o) (sym none) (none_fails next (Among [] P) (λ c h. h.0)))).1
