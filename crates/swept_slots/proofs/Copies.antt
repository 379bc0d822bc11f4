-- The copy of a key is the one record that has it.
use Rattle.std.proofs.Common.{◌≡◌, Bool, true, false, List, [], ◌∷◌, map, if◌then◌else◌, refl, ap, sym, subst, inl, inr}
use Rattle.peano_keys.specs.declared.vertex.VertexKey.{VertexKey}
use Rattle.peano_records.specs.declared.stored.Stored.{Stored}
use Rattle.stack_law.specs.Once.{IsIn}
use Rattle.stack_law.specs.Stack.{AreDistinct}
use Rattle.stack_law.proofs.Distinct.{not_in}
use Rattle.sweep_visits.specs.Moves.{same_vertex}
use Rattle.sweep_visits.proofs.Same.{vertices_decided}
use Rattle.sweep_streams.proofs.Lists.{in_map}
use Rattle.tree_automaton.specs.Sweeps.{key_of}
use Rattle.swept_slots.specs.Copies.{copies}

-- among records of different keys, each is the copy of its key
pub copy_is : (xs : List Stored) → AreDistinct same_vertex (map key_of xs) → (s : Stored) → IsIn s xs → copies xs s.key ≡ s
copy_is [] distinct s h = absurd h
copy_is (x ∷ xs) distinct s (inl e) = subst (λ z. copies (x ∷ xs) z.key ≡ z) (sym e) (ap (λ b. if b then x else copies xs x.key) (vertices_decided.reflexive x.key))
copy_is (x ∷ xs) distinct s (inr h) = by (copy_is xs distinct.1 s h) (same_vertex x.key s.key) refl
  where
    by : copies xs s.key ≡ s → (b : Bool) → same_vertex x.key s.key ≡ b → (if b then x else copies xs s.key) ≡ s
    by later false e = later
    by later true e =
        let same : x.key ≡ s.key = vertices_decided.exact x.key s.key e in
        absurd (not_in VertexKey same_vertex vertices_decided.reflexive vertices_decided.exact x.key (map key_of xs) distinct.0 (subst (λ k. IsIn k (map key_of xs)) (sym same) (in_map key_of s xs h)))

-- under the key itself
pub copy_of : (xs : List Stored) → AreDistinct same_vertex (map key_of xs) → (v : VertexKey) (s : Stored) → s.key ≡ v → IsIn s xs → copies xs v ≡ s
copy_of xs distinct v s key h = subst (λ k. copies xs k ≡ s) key (copy_is xs distinct s h)
