-- A primary sweep spawns a task for each enclave leaf, where the desk has places enough.
use Rattle.std.proofs.Common.{◌≡◌, ℕ, ◌+◌, ◌-◌, ◌≤◌, true, false, List, [], ◌∷◌, ◌++◌, map, length, refl, ap, sym, ◌∙◌, subst, inl, inr, append-nil, arith}
use Rattle.std.specs.Prelude.{flat_map}
use Rattle.std.specs.FinSet as set
use Rattle.stack_law.specs.Once.{IsIn}
use Rattle.stack_law.specs.Stack.{AreDistinct}
use Rattle.peano_keys.specs.declared.cell.CellKey.{CellKey}
use Rattle.peano_records.specs.declared.stored.Stored.{Stored}
use Rattle.peano_records.specs.declared.view.CellView.{CellView}
use Rattle.spacetree.specs.Digits.{IsKept}
use Rattle.spacetree.proofs.CellCounts.{len_by_kept}
use Rattle.curve_cuts.specs.Cuts.{Cuts}
use Rattle.curve_cuts.specs.Keys.{cuts_of}
use Rattle.vertex_stacks.specs.declared.tale.Tale.{Tale}
use Rattle.sweep_visits.specs.Moves.{same_cell}
use Rattle.sweep_visits.specs.Visits.{Visit, enter, leave, visits_of}
use Rattle.sweep_streams.specs.Records.{entered_at}
use Rattle.tree_automaton.specs.Story.{Call, IsAmong}
use Rattle.tree_automaton.specs.Sweep.{TreeSweep}
use Rattle.tree_automaton.specs.Sweeps.{AllCallsFit, Chain, Stands, begun, visit_of}
use Rattle.swept_slots.proofs.Given.{along_places}
use Rattle.spacetree.specs.Counts.{CountsCells}
use Rattle.spacetree.proofs.CountedSets.{in_list, as_many, no_more, with_all}
use Rattle.step_sweeps.specs.Enclaves.{DecidesEnclave}
use Rattle.step_sweeps.specs.Kernels.{Kernel}
use Rattle.step_sweeps.specs.Primaries.{PrimaryWork, Computes, PrimaryEnters, PrimaryLeaves}
use Rattle.step_sweeps.specs.Tasks.{TasksSeen, Offers, Spawns}
use Rattle.step_sweeps.proofs.OwnCounts.{AreFound, none_found, found_more, found_same, not_before, flat_at}
use Rattle.step_sweeps.proofs.Primaries.{Same, did}
use Rattle.step_sweeps.proofs.PrimaryTally.{seen}
use Rattle.step_sweeps.proofs.Spawned.{offers_spawn}

-- cells of a kind are no more than those of a wider one
pub fewer_cells : (P Q : CellKey → Type 0) (n m : ℕ) → ((c : CellKey) → P c → Q c) → CountsCells P n → CountsCells Q m → n ≤ m
fewer_cells P Q n m within some more =
    let kept : IsKept (with_all set.empty some.cells) (with_all set.empty more.cells) = λ c h. in_list more.cells c ∙ (more.members c).1 (within c ((some.members c).0 (sym (in_list some.cells c) ∙ h))) in
    omega (arith, as_many some.cells some.once, len_by_kept _ _ kept, no_more more.cells, some.count, more.count)

-- the cells of a list that are of a kind were spawned, as long as there was a place
pub record HaveSpawned (cells : List CellKey) (P : CellKey → Type 0) (size n : ℕ) : Type 0 where
  pub found : List CellKey
  pub are : AreFound cells P found
  pub count : n + (length found - size) ≡ length found

-- the view of a cell as it is entered tells whether the cell is of the kind that is spawned
pub record IsSorted (k : Kernel) (cuts : Cuts) (t : ℕ) (P : CellKey → Type 0) (c : CellKey) (v : CellView) : Type 0 where
  pub enclave : Computes k cuts t v → DecidesEnclave cuts t v true → P c
  pub skeleton : Computes k cuts t v → DecidesEnclave cuts t v false → P c → ⊥
  pub computed : P c → Computes k cuts t v

offered_more : {S : Type 0} (a b : TasksSeen S) (number size many : ℕ) → a.size ≡ size → a.spawned + (many - size) ≡ many → Offers a number b → b.spawned + (many + 1 - size) ≡ many + 1
offered_more a b number size many same count (inl h) = let next = ap (λ (x : TasksSeen _). x.spawned) h.2 in let low = h.0 in omega (arith, same, count, next, low)
offered_more a b number size many same count (inr h) = let next = ap (λ (x : TasksSeen _). x.spawned) h.2 in let full = h.0 in omega (arith, same, count, next, full)

module _ {S : Type 0} (kernel : S → Kernel) (start : PrimaryWork S) (p : TreeSweep) (calls : List Call) (visits_are : map visit_of calls ≡ visits_of p.plan) (distinct : AreDistinct same_cell (flat_map entered_at (visits_of p.plan))) (P : CellKey → Type 0)
    (sorted : (call : Call) → IsAmong call calls → (c : CellKey) → call.visit ≡ enter c → IsSorted (kernel start.solver) (cuts_of start.keys) start.tree P c call.given) where
  record Holds (so_far : List Call) (a : PrimaryWork S) : Type 0 where
    same : Same kernel start a
    spawns : Spawns start.tasks a.tasks
    have : HaveSpawned (seen so_far) P start.tasks.size a.tasks.spawned

  new : (so_far : List Call) (call : Call) (after : List Call) (c : CellKey) → calls ≡ so_far ++ call ∷ after → call.visit ≡ enter c → IsIn c (seen so_far) → ⊥
  new so_far call after c place is = not_before (seen so_far) (flat_map entered_at (map visit_of after)) c
      (subst (AreDistinct same_cell) (ap (flat_map entered_at) (sym visits_are) ∙ (ap (λ l. flat_map entered_at (map visit_of l)) place ∙ flat_at entered_at so_far call (enter c) after is)) distinct)

  -- a cell that is entered and of another kind
  other_entered : (so_far : List Call) (call : Call) (c : CellKey) (n : ℕ) → call.visit ≡ enter c → (P c → ⊥) → HaveSpawned (seen so_far) P start.tasks.size n → HaveSpawned (seen (so_far ++ call ∷ [])) P start.tasks.size n
  other_entered so_far call c n is other have = subst (λ l. HaveSpawned l P start.tasks.size n) (sym (flat_at entered_at so_far call (enter c) [] is)) (record { found = have.found; are = found_same (seen so_far) have.found P c other have.are; count = have.count })

  step : (so_far : List Call) (call : Call) (after : List Call) (a b : PrimaryWork S) (visit : Visit) → call.visit ≡ visit → calls ≡ so_far ++ call ∷ after → Holds so_far a → Stands (PrimaryEnters kernel) (PrimaryLeaves kernel) visit call.given call.made a b → Holds (so_far ++ call ∷ []) b
  step so_far call after a b (enter c) is place holds (inl h) =
      let sort = sorted call (record { before = so_far; after = after; place = place }) c is in
      let computed : Computes (kernel start.solver) (cuts_of start.keys) start.tree call.given = subst (λ (x : PrimaryWork S). Computes (kernel x.solver) (cuts_of x.keys) x.tree call.given) holds.same h.computed in
      let decides : DecidesEnclave (cuts_of start.keys) start.tree call.given true = subst (λ (x : PrimaryWork S). DecidesEnclave (cuts_of x.keys) x.tree call.given true) holds.same h.enclave in
      record {
        same = (did kernel start a b (enter c) call.given call.made holds.same (inl h)).0;
        spawns = offers_spawn start.tasks a.tasks b.tasks call.made.task holds.spawns h.offered;
        have = subst (λ l. HaveSpawned l P start.tasks.size b.tasks.spawned) (sym (flat_at entered_at so_far call (enter c) [] is)) (record {
          found = c ∷ holds.have.found;
          are = found_more (seen so_far) holds.have.found P c (new so_far call after c place is) (sort.enclave computed decides) holds.have.are;
          count = let more = offered_more a.tasks b.tasks call.made.task start.tasks.size (length holds.have.found) (ap (λ (x : TasksSeen S). x.size) holds.spawns) holds.have.count h.offered in omega (arith, more);
        });
      }
  step so_far call after a b (enter c) is place holds (inr (inl h)) =
      let sort = sorted call (record { before = so_far; after = after; place = place }) c is in
      let computed : Computes (kernel start.solver) (cuts_of start.keys) start.tree call.given = subst (λ (x : PrimaryWork S). Computes (kernel x.solver) (cuts_of x.keys) x.tree call.given) holds.same h.computed in
      let decides : DecidesEnclave (cuts_of start.keys) start.tree call.given false = subst (λ (x : PrimaryWork S). DecidesEnclave (cuts_of x.keys) x.tree call.given false) holds.same h.skeleton in
      let tasks : b.tasks ≡ a.tasks = ap (λ (x : PrimaryWork S). x.tasks) h.found in
      record {
        same = (did kernel start a b (enter c) call.given call.made holds.same (inr (inl h))).0;
        spawns = subst (Spawns start.tasks) (sym tasks) holds.spawns;
        have = subst (λ (x : TasksSeen S). HaveSpawned (seen (so_far ++ call ∷ [])) P start.tasks.size x.spawned) (sym tasks) (other_entered so_far call c a.tasks.spawned is (sort.skeleton computed decides) holds.have);
      }
  step so_far call after a b (enter c) is place holds (inr (inr h)) =
      let sort = sorted call (record { before = so_far; after = after; place = place }) c is in
      let other : P c → ⊥ = λ kind. h.other (subst (λ (x : PrimaryWork S). Computes (kernel x.solver) (cuts_of x.keys) x.tree call.given) (sym holds.same) (sort.computed kind)) in
      let tasks : b.tasks ≡ a.tasks = ap (λ (x : PrimaryWork S). x.tasks) h.same in
      record {
        same = (did kernel start a b (enter c) call.given call.made holds.same (inr (inr h))).0;
        spawns = subst (Spawns start.tasks) (sym tasks) holds.spawns;
        have = subst (λ (x : TasksSeen S). HaveSpawned (seen (so_far ++ call ∷ [])) P start.tasks.size x.spawned) (sym tasks) (other_entered so_far call c a.tasks.spawned is other holds.have);
      }
  step so_far call after a b (leave c) is place holds h =
      let tasks : b.tasks ≡ a.tasks = ap (λ (x : PrimaryWork S). x.tasks) h.1 in
      record {
        same = (did kernel start a b (leave c) call.given call.made holds.same h).0;
        spawns = subst (Spawns start.tasks) (sym tasks) holds.spawns;
        have = subst (λ (x : TasksSeen S). HaveSpawned (seen (so_far ++ call ∷ [])) P start.tasks.size x.spawned) (sym tasks)
            (subst (λ l. HaveSpawned l P start.tasks.size a.tasks.spawned) (sym (flat_at entered_at so_far call (leave c) [] is ∙ append-nil (seen so_far))) holds.have);
      }

  -- after all calls those that were entered were spawned, as long as there was a place
  pub all_spawned : (first : List Stored) (tale : Tale) (end : PrimaryWork S) → start.tasks.spawned ≡ 0 → AllCallsFit (begun p first tale) calls → Chain (PrimaryEnters kernel) (PrimaryLeaves kernel) calls start end → HaveSpawned (seen calls) P start.tasks.size end.tasks.spawned
  all_spawned first tale end none fit chain =
      (along_places (PrimaryEnters kernel) (PrimaryLeaves kernel) (begun p first tale) calls Holds (λ so_far call after a b place holds fits stands. step so_far call after a b call.visit refl place holds stands) [] calls start end refl fit chain
      (record { same = refl; spawns = refl; have = record { found = []; are = none_found P; count = omega (arith, none) } })).have
