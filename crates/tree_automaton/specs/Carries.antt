-- From the chain of a visitor's calls to what they leave together, so that no visitor's own proof goes over visits.
use Rattle.std.specs.Prelude.{◌≡◌, List, ◌++◌, flat_map}
use Rattle.peano_records.specs.declared.view.CellView.{CellView}
use Rattle.tree_automaton.specs.Story.{Call, Story, with_calls}
use Rattle.tree_automaton.specs.Sweeps.{AllCallsFit, CallFits, Chain, Stands}

module _ {A : Type 0} (entered left : A → CellView → CellView → A → Type 0) where
  -- something holds of each call that fits what came before it and stands in the visitor's relation
  abbrev pub EachStep : Story → (List Call → Call → A → A → Type 0) → Type 0
  EachStep m P = (so_far : List Call) (call : Call) (a b : A)
      → CallFits (with_calls m so_far) call.visit call.given call.made
      → Stands entered left call.visit call.given call.made a b → P so_far call a b

  -- Where each call keeps one part of a visitor and adds to a list of it, the calls together keep that part and add, in order, what each of them adds.
  abbrev pub Collects : {K R : Type 0} → (A → K) → (A → List R) → (K → Call → List R) → Type 0
  Collects kept list adds = (m : Story)
      → EachStep m (λ so_far call a b. (kept b ≡ kept a) × (list b ≡ list a ++ adds (kept a) call))
      → (calls : List Call) (a b : A) → AllCallsFit m calls → Chain entered left calls a b
      → (kept b ≡ kept a) × (list b ≡ list a ++ flat_map (adds (kept a)) calls)
