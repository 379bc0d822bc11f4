-- A store whose slots are written keeps its lists.
use Rattle.std.proofs.Common.{◌≡◌, ℕ, zero, suc, List, [], ◌∷◌, Some, map, length, refl, sym, ap, ◌∙◌}
use Rattle.std.specs.Prelude.{IsSomeAnd, Option, None, slice_get, slice_set}
use Rattle.std.proofs.lemmas.List.{length-set}
use Rattle.peano_records.specs.declared.slot.Slot.{Slot}
use Rattle.peano_records.specs.declared.stored.Stored.{Stored}
use Rattle.peano_records.specs.Slots.{with_slot}
use Rattle.vertex_stacks.specs.Tales.{capped}
use Rattle.sweep_visits.specs.Plan.{SweepPlan}
use Rattle.tree_automaton.specs.TreeLists.{TreeLists}
use Rattle.tree_automaton.specs.Sweeps.{key_of}
use Rattle.tree_automaton.specs.Moments.{flag_of}
use Rattle.tree_automaton.specs.AtRest.{HasLists}

-- a record whose key is that of the one at its place
same_keys : (xs : List Stored) (k : ℕ) (v w : Stored) → slice_get xs k ≡ Some v → w.key ≡ v.key → map key_of (slice_set xs k w) ≡ map key_of xs
same_keys [] k v w at key = refl
same_keys (x ∷ xs) zero v w at key =
    let is : x ≡ v = cc in
    ap (λ a. a ∷ map key_of xs) (key ∙ ap (λ (s : Stored). s.key) (sym is))
same_keys (x ∷ xs) (suc k) v w at key = ap (λ l. x.key ∷ l) (same_keys xs k v w at key)

-- a store with another input of the same keys
with_input : (s t : TreeLists) (xs : List Stored) → t ≡ record s { lanes = record s.lanes { input = xs } } → map key_of xs ≡ map key_of s.lanes.input → length xs ≡ length s.lanes.input → (p : SweepPlan) (number : ℕ) → HasLists p number s → HasLists p number t
with_input s t xs is keys size p number l = record {
  dim = ap (λ (u : TreeLists). u.lanes.dim) is ∙ l.dim;
  depth = ap (λ (u : TreeLists). u.depth) is ∙ l.depth;
  range = ap (λ (u : TreeLists). u.range) is ∙ l.range;
  dir = ap (λ (u : TreeLists). u.dir) is ∙ l.dir;
  tree = ap (λ (u : TreeLists). u.tree) is ∙ l.tree;
  live = ap (λ (u : TreeLists). u.live) is ∙ l.live;
  cells = ap (λ (u : TreeLists). map flag_of u.cells) is ∙ l.cells;
  written = ap (λ (u : TreeLists). u.written) is ∙ l.written;
  input = ap (λ (u : TreeLists). map key_of u.lanes.input) is ∙ keys ∙ l.input;
  output = ap (λ (u : TreeLists). u.lanes.output) is ∙ l.output;
  lanes = ap (λ (u : TreeLists). u.lanes.lanes) is ∙ l.lanes;
  taken = ap (λ (u : TreeLists). u.lanes.taken) is ∙ l.taken;
  put = ap (λ (u : TreeLists). u.lanes.put) is ∙ l.put;
  pushed = ap (λ (u : TreeLists). u.lanes.pushed) is ∙ l.pushed;
  counted = ap (λ (u : TreeLists). u.counted) is ∙ l.counted;
  stored = ap (λ (u : TreeLists). u.stored) is ∙ l.stored ∙ ap capped (sym size) ∙ ap (λ (u : TreeLists). capped (length u.lanes.input)) (sym is);
  leaves = ap (λ (u : TreeLists). u.leaves) is ∙ l.leaves;
}

-- a store one slot of which was written
abbrev pub IsWritten : ℕ → ℕ → Slot → TreeLists → TreeLists → Type 0
IsWritten k n slot s t = IsSomeAnd (slice_get s.lanes.input k) (λ v. t ≡ record s { lanes = record s.lanes { input = slice_set s.lanes.input k (with_slot v n slot) } })

at_place : (o : Option Stored) (P : Stored → Type 0) → IsSomeAnd o P → (v : Stored) × (o ≡ Some v) × P v
at_place None P h = absurd h
at_place (Some v) P h = (v, refl, h)

pub lists_stay : (k n : ℕ) (slot : Slot) (s t : TreeLists) → IsWritten k n slot s t → (p : SweepPlan) (number : ℕ) → HasLists p number s → HasLists p number t
lists_stay k n slot s t h p number l =
    let at = at_place (slice_get s.lanes.input k) (λ v. t ≡ record s { lanes = record s.lanes { input = slice_set s.lanes.input k (with_slot v n slot) } }) h in
    with_input s t (slice_set s.lanes.input k (with_slot at.0 n slot)) at.2
    (same_keys s.lanes.input k at.0 (with_slot at.0 n slot) at.1 refl)
    (length-set s.lanes.input k (with_slot at.0 n slot)) p number l
