-- Slots that tell a grid and intend the next one, of one vertex and of all.
use Rattle.std.proofs.Common.{◌≡◌, ⊎_elim, ℕ, ◌+◌, ◌<◌, ◌≤◌, length, get_or, refl, sym, subst, arith}
use Rattle.std.specs.Prelude.{All, IsSomeAnd, slice_get, List, Option, Some, None}
use Rattle.std.proofs.lemmas.Bool.{cases_eq}
use Rattle.std.proofs.lemmas.Option.{get_or_from_slice_get}
use Rattle.peano_keys.specs.declared.vertex.VertexKey.{VertexKey}
use Rattle.peano_keys.specs.Dim.{corners}
use Rattle.peano_keys.specs.Vertex.{adjacent_of}
use Rattle.peano_keys.specs.Grid.{Spacetree}
use Rattle.peano_records.specs.declared.slot.Slot.{Slot}
use Rattle.peano_records.specs.declared.stored.Stored.{Stored}
use Rattle.peano_records.specs.Slots.{slot_at}
use Rattle.peano_records.specs.declared.slot.Intent.TheVariants.{Stay}
use Rattle.peano_records.specs.AtRest.{IsBeforeAdapting}
use Rattle.peano_records.proofs.Intents.{below_eight}
use Rattle.tree_automaton.specs.TreeLists.{TreeLists}
use Rattle.worked_sweeps.specs.Told.{IsPositionTold, IsTold, vertex_at}

-- a slot of no position, and one of a position
pub told_past : (g next : Spacetree) (v : VertexKey) (n : ℕ) (s : Slot) → corners g.dim ≤ n → s.intent ≡ Stay → IsTold g next v n s
told_past g next v n s past stay = record { position = λ below. absurd (omega (arith, past, below)); unused = λ _. stay }

pub told_position : (g next : Spacetree) (v : VertexKey) (n : ℕ) (s : Slot) → n < corners g.dim → IsPositionTold g next (adjacent_of g.dim v n) s → IsTold g next v n s
told_position g next v n s below told = record { position = λ _. told; unused = λ past. absurd (omega (arith, past, below)) }

-- what holds of the record at a place, whatever stands where there is none
read_at : (xs : List Stored) (k : ℕ) (P : Stored → Type 0) → IsSomeAnd (slice_get xs k) P → (d : Stored) → P (get_or xs k d)
read_at xs k P h d = by (slice_get xs k) refl h
  where
    by : (o : Option Stored) → slice_get xs k ≡ o → IsSomeAnd o P → P (get_or xs k d)
    by None e h = absurd h
    by (Some v) e h = subst P (sym (get_or_from_slice_get xs k v d e)) h

-- the first `n` slots of a vertex are told, and where there is one there are eight
pub record FirstAreTold (g next : Spacetree) (key : VertexKey) (s : TreeLists) (k n : ℕ) : Type 0 where
  pub each : (i : ℕ) (d : Stored) → i < n → IsTold g next key i (slot_at (vertex_at s k d) i)
  pub eight : (d : Stored) → 0 < n → length (vertex_at s k d).slots ≡ 8

pub none_told : (g next : Spacetree) (key : VertexKey) (s : TreeLists) (k : ℕ) → FirstAreTold g next key s k 0
none_told g next key s k = record { each = λ i d below. absurd (omega (arith, below)); eight = λ d below. absurd (omega (arith, below)) }

pub one_more_told : (g next : Spacetree) (key : VertexKey) (s : TreeLists) (k n : ℕ) (slot : Slot) → IsSomeAnd (slice_get s.lanes.input k) (λ v. slot ≡ slot_at v n) → IsSomeAnd (slice_get s.lanes.input k) (λ (v : Stored). length v.slots ≡ 8) → IsTold g next key n slot → FirstAreTold g next key s k n → FirstAreTold g next key s k (n + 1)
one_more_told g next key s k n slot is eight told first = record {
  each = λ i d below. ⊎_elim
      (λ e. subst (λ j. IsTold g next key j (slot_at (vertex_at s k d) j)) (sym e) (subst (IsTold g next key n) (read_at s.lanes.input k (λ v. slot ≡ slot_at v n) is d) told))
      (λ apart. first.each i d (omega (arith, below, apart)))
      (cases_eq i n);
  eight = λ d _. read_at s.lanes.input k (λ (v : Stored). length v.slots ≡ 8) eight d;
}

-- a vertex whose eight slots are told stands before an adaptation
pub all_told : (g next : Spacetree) (key : VertexKey) (s : TreeLists) (k n : ℕ) → 8 ≤ n → IsSomeAnd (slice_get s.lanes.input k) (λ (v : Stored). key ≡ v.key) → FirstAreTold g next key s k n → (d : Stored) → IsBeforeAdapting g next (vertex_at s k d)
all_told g next key s k n all is first d =
    let v : Stored = vertex_at s k d in
    let own : (i : ℕ) → i < 8 → IsTold g next v.key i (slot_at v i) = λ i below. subst (λ w. IsTold g next w i (slot_at v i)) (read_at s.lanes.input k (λ (u : Stored). key ≡ u.key) is d) (first.each i d (omega (arith, all, below))) in
    record {
      eight = first.eight d (omega (arith, all));
      outside = λ i h none. (subst (λ o. IsPositionTold g next o (slot_at v i)) none ((own i (below_eight g.dim i h)).position h)).0;
      inside = λ i c h at. subst (λ o. IsPositionTold g next o (slot_at v i)) at ((own i (below_eight g.dim i h)).position h);
      idle = λ i h none. (subst (λ o. IsPositionTold g next o (slot_at v i)) none ((own i (below_eight g.dim i h)).position h)).1;
      unused = λ i h below. (own i below).unused h;
    }

-- so far all vertices do
pub record FirstAreBefore (g next : Spacetree) (s : TreeLists) (k : ℕ) : Type 0 where
  pub each : (i : ℕ) (d : Stored) → i < k → IsBeforeAdapting g next (vertex_at s i d)

pub none_before : (g next : Spacetree) (s : TreeLists) → FirstAreBefore g next s 0
none_before g next s = record { each = λ i d below. absurd (omega (arith, below)) }

pub one_more_before : (g next : Spacetree) (s : TreeLists) (k : ℕ) → ((d : Stored) → IsBeforeAdapting g next (vertex_at s k d)) → FirstAreBefore g next s k → FirstAreBefore g next s (k + 1)
one_more_before g next s k here first = record {
  each = λ i d below. ⊎_elim
      (λ e. subst (λ j. IsBeforeAdapting g next (vertex_at s j d)) (sym e) (here d))
      (λ apart. first.each i d (omega (arith, below, apart)))
      (cases_eq i k);
}

pub all_before : (g next : Spacetree) (s : TreeLists) (k : ℕ) → length s.lanes.input ≤ k → FirstAreBefore g next s k → All (IsBeforeAdapting g next) s.lanes.input
all_before g next s k all first = λ i d below. first.each i d (omega (arith, all, below))
