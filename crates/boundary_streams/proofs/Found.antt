-- What a tree finds of a vertex among the boxes: the copy of the sender.
use Rattle.std.proofs.Common.{◌≡◌, ◌≢◌, ◌⊎◌, inl, inr, ⊎_elim, ℕ, suc, ◌<◌, ◌==◌, Bool, true, false, if◌then◌else◌, List, [], ◌∷◌, map, filter, flat_map, reverse, Some, length, get_or, arith, refl, sym, ap, subst, ◌∙◌, eq-eqb}
use Rattle.std.specs.List.{find}
use Rattle.std.proofs.lemmas.Bool.{false≢true, eqb-true}
use Rattle.peano_keys.specs.declared.vertex.VertexKey.{VertexKey}
use Rattle.peano_keys.specs.Grid.{Spacetree}
use Rattle.peano_records.specs.declared.stored.Stored.{Stored}
use Rattle.peano_records.specs.declared.stored.Parcel.{Parcel}
use Rattle.peano_records.specs.Slots.{VertexRecord}
use Rattle.vertex_stacks.specs.Lists.{parcel_of}
use Rattle.curve_cuts.specs.Cuts.{Cuts, HasVertex}
use Rattle.stack_law.specs.Once.{IsIn}
use Rattle.stack_law.specs.Stack.{AreDistinct}
use Rattle.stack_law.proofs.Distinct.{in_either}
use Rattle.stack_walks.proofs.Ends.{in_flat}
use Rattle.stack_walks.proofs.Reversed.{in_reverse, to_reverse}
use Rattle.sweep_visits.specs.Moves.{same_vertex}
use Rattle.sweep_visits.proofs.Same.{vertices_decided}
use Rattle.sweep_streams.proofs.Once.{from_map}
use Rattle.sweep_streams.proofs.Lists.{in_map}
use Rattle.tree_automaton.specs.TreeLists.{TreeLists}
use Rattle.tree_automaton.specs.Sweeps.{key_of}
use Rattle.swept_slots.specs.Copies.{copies}
use Rattle.swept_slots.proofs.Copies.{copy_of}
use Rattle.boundary_streams.specs.Sent.{Outgoing, parcels_for, letters, last_of, sent_to}
use Rattle.boundary_streams.specs.Holders.{is_sent}
use Rattle.boundary_streams.specs.Trees.{HoldsVertices}
use Rattle.boundary_streams.specs.Collects.{IsCollected, sent_from}
use Rattle.boundary_streams.specs.Exchanges.{AreBoxes}
use Rattle.boundary_streams.proofs.Holders.{sends_to_holders}

-- the copy of a key, by the first record of a list
copy_with : (v : VertexKey) (x : Stored) (xs : List Stored) (b : Bool) → same_vertex x.key v ≡ b → copies (x ∷ xs) v ≡ (if b then x else copies xs v)
copy_with v x xs b e = ap (λ t. if t then x else copies xs v) e

tells : (v : VertexKey) (x : Stored) → (same_vertex x.key v ≡ true) ⊎ (same_vertex x.key v ≡ false)
tells v x = by (same_vertex x.key v) refl
  where
    by : (b : Bool) → same_vertex x.key v ≡ b → (same_vertex x.key v ≡ true) ⊎ (same_vertex x.key v ≡ false)
    by true e = inl e
    by false e = inr e

-- what holds of the records of two lists, place by place, where keys stay, holds of the copies
pub related_copies : (M : VertexRecord → VertexRecord → Type 0) → ((x y : VertexRecord) → M x y → y.key ≡ x.key) → (v : VertexKey) (xs ys : List Stored) → length ys ≡ length xs → ((i : ℕ) (d : VertexRecord) → i < length xs → M (get_or xs i d) (get_or ys i d)) → IsIn v (map key_of xs) → M (copies xs v) (copies ys v)
related_copies M keys v [] ys len rel h = absurd h
related_copies M keys v (x ∷ xs) [] len rel h = absurd (omega (arith, len))
related_copies M keys v (x ∷ xs) (y ∷ ys) len rel h =
    let here : M x y = rel 0 x (omega arith) in
    let same : same_vertex y.key v ≡ same_vertex x.key v = ap (λ (w : VertexKey). same_vertex w v) (keys x y here) in
    ⊎_elim
    (λ e. subst (λ a. M a (copies (y ∷ ys) v)) (sym (copy_with v x xs true e)) (subst (λ a. M x a) (sym (copy_with v y ys true (same ∙ e))) here))
    (λ e.
    let there : IsIn v (map key_of xs) = ⊎_elim (λ f. absurd (false≢true (sym e ∙ ap (λ w. same_vertex w v) (sym f) ∙ vertices_decided.reflexive v))) (λ k. k) h in
    subst (λ a. M a (copies (y ∷ ys) v)) (sym (copy_with v x xs false e)) (subst (λ a. M (copies xs v) a) (sym (copy_with v y ys false (same ∙ e)))
    (related_copies M keys v xs ys (omega (arith, len)) (λ i d below. rel (suc i) d (omega (arith, below))) there)))
    (tells v x)

-- items that pass a test
in_filter : (q : Stored → Bool) (x : Stored) (xs : List Stored) → IsIn x xs → q x ≡ true → IsIn x (filter q xs)
in_filter q x [] h e = h
in_filter q x (y ∷ ys) (inl f) e = subst (λ b. IsIn x (if b then y ∷ filter q ys else filter q ys)) (sym (ap q (sym f) ∙ e)) (inl f)
in_filter q x (y ∷ ys) (inr h) e = by (q y) (in_filter q x ys h e)
  where
    by : (b : Bool) → IsIn x (filter q ys) → IsIn x (if b then y ∷ filter q ys else filter q ys)
    by true k = inr k
    by false k = k

from_filter : (q : Stored → Bool) (x : Stored) (xs : List Stored) → IsIn x (filter q xs) → IsIn x xs
from_filter q x [] h = h
from_filter q x (y ∷ ys) h = by (from_filter q x ys) (q y) h
  where
    by : (IsIn x (filter q ys) → IsIn x ys) → (b : Bool) → IsIn x (if b then y ∷ filter q ys else filter q ys) → IsIn x (y ∷ ys)
    by rest true (inl e) = inl e
    by rest true (inr k) = inr (rest k)
    by rest false k = inr (rest k)

-- a list that has an item of a vertex gives one
found_in : (v : VertexKey) (p : Parcel) (ps : List Parcel) → IsIn p ps → same_vertex p.key v ≡ true → (q : Parcel) × (find (λ (r : Parcel). same_vertex r.key v) ps ≡ Some q) × IsIn q ps × (same_vertex q.key v ≡ true)
found_in v p [] h e = absurd h
found_in v p (r ∷ rs) (inl same) e =
    let told : same_vertex r.key v ≡ true = ap (λ (q : Parcel). same_vertex q.key v) (sym same) ∙ e in
    (r, ap (λ b. if b then Some r else find (λ (q : Parcel). same_vertex q.key v) rs) told, inl refl, told)
found_in v p (r ∷ rs) (inr h) e = by (found_in v p rs h e) (same_vertex r.key v) refl
  where
    by : (q : Parcel) × (find (λ (s : Parcel). same_vertex s.key v) rs ≡ Some q) × IsIn q rs × (same_vertex q.key v ≡ true) → (b : Bool) → same_vertex r.key v ≡ b → (q : Parcel) × (find (λ (s : Parcel). same_vertex s.key v) (r ∷ rs) ≡ Some q) × IsIn q (r ∷ rs) × (same_vertex q.key v ≡ true)
    by f true told = (r, ap (λ b. if b then Some r else find (λ (q : Parcel). same_vertex q.key v) rs) told, inl refl, told)
    by f false told = (f.0, ap (λ b. if b then Some r else find (λ (q : Parcel). same_vertex q.key v) rs) told ∙ f.1, inr f.2, f.3)

pub last_found : (v : VertexKey) (p : Parcel) (ps : List Parcel) → IsIn p ps → same_vertex p.key v ≡ true → (q : Parcel) × (last_of v ps ≡ Some q) × IsIn q ps × (same_vertex q.key v ≡ true)
last_found v p ps h e = let f = found_in v p (reverse ps) (to_reverse p ps h) e in (f.0, f.1, in_reverse f.0 ps f.2, f.3)

-- an item of joined lists is one of some of them
pub from_flat : {V W : Type 0} (f : V → List W) (x : W) (vs : List V) → IsIn x (flat_map f vs) → (v : V) × IsIn v vs × IsIn x (f v)
from_flat f x [] h = absurd h
from_flat f x (v ∷ vs) h = ⊎_elim (λ k. (v, inl refl, k)) (λ k. let r = from_flat f x vs k in (r.0, inr r.1, r.2)) (in_either x (f v) (flat_map f vs) h)

mine : (o : Outgoing) (s t : ℕ) (p : Parcel) → IsIn p (if o.sender == s then parcels_for o t else []) → (o.sender ≡ s) × IsIn p (parcels_for o t)
mine o s t p h = by (o.sender == s) refl h
  where
    by : (b : Bool) → (o.sender == s) ≡ b → IsIn p (if b then parcels_for o t else []) → (o.sender ≡ s) × IsIn p (parcels_for o t)
    by true e h = (eqb-true o.sender s e, h)
    by false e h = absurd h

-- a box of a store that has a vertex: its one parcel of the vertex is of the copy
module _ (k : Cuts) (g : Spacetree) (s t : ℕ) (store : TreeLists) (o : Outgoing) (tree : t < k.trees) (holds : HoldsVertices k g s store) (box : IsCollected k store o) (v : VertexKey) where
  pub parcel_is : (p : Parcel) → IsIn p (parcels_for o t) → p.key ≡ v → p ≡ parcel_of (copies store.lanes.input v)
  parcel_is p h key =
      let there : IsIn p (sent_from k store.tree t store.lanes.input) = subst (IsIn p) (box.parcels t tree) h in
      let r = from_map parcel_of p (filter (λ (w : Stored). is_sent k store.tree t w.key) store.lanes.input) there in
      let keys : r.0.key ≡ v = ap (λ (q : Parcel). q.key) (sym r.2) ∙ key in
      r.2 ∙ ap (λ (w : Stored). parcel_of w) (sym (copy_of store.lanes.input holds.distinct v r.0 keys (from_filter (λ (w : Stored). is_sent k store.tree t w.key) r.0 store.lanes.input r.1)))

  pub has_parcel : HasVertex k g s v → HasVertex k g t v → t ≢ s → (p : Parcel) × IsIn p (parcels_for o t) × (p.key ≡ v)
  has_parcel theirs ours apart =
      let r = from_map key_of v store.lanes.input ((holds.members v).1 theirs) in
      let sent : is_sent k s t v ≡ true = (sends_to_holders k s t v ours.vertex tree).1 (apart, ours.corner) in
      let passes : is_sent k store.tree t r.0.key ≡ true = ap (λ n. is_sent k n t r.0.key) holds.tree ∙ ap (is_sent k s t) (sym r.2) ∙ sent in
      let there = in_map parcel_of r.0 (filter (λ (w : Stored). is_sent k store.tree t w.key) store.lanes.input) (in_filter (λ (w : Stored). is_sent k store.tree t w.key) r.0 store.lanes.input r.1 passes) in
      (parcel_of r.0, subst (IsIn (parcel_of r.0)) (sym (box.parcels t tree)) there, sym r.2)

-- of each other tree that has a vertex too, a tree finds that tree's copy, as it was before or after that tree's merge
pub mail_is : (k : Cuts) (g : Spacetree) (before after : ℕ → TreeLists) (s t : ℕ) (boxes : List Outgoing) (v : VertexKey) → HoldsVertices k g s (before s) → HoldsVertices k g s (after s) → AreBoxes k before after t boxes → HasVertex k g s v → HasVertex k g t v → t ≢ s →
    (p : Parcel) × (sent_to boxes t s v ≡ Some p) × ((p ≡ parcel_of (copies (before s).lanes.input v)) ⊎ (p ≡ parcel_of (copies (after s).lanes.input v)))
mail_is k g before after s t boxes v had has are theirs ours apart =
    let tree : t < k.trees = ours.corner.tree in
    let box = are.all s theirs.corner.tree (λ e. apart (sym e)) in
    let collected = (are.sent box.0 box.1).collected in
    let one : (p : Parcel) × IsIn p (parcels_for box.0 t) × (p.key ≡ v) = ⊎_elim
    (λ c. has_parcel k g s t (before s) box.0 tree had (subst (λ n. IsCollected k (before n) box.0) box.2 c) v theirs ours apart)
    (λ c. has_parcel k g s t (after s) box.0 tree has (subst (λ n. IsCollected k (after n) box.0) box.2 c) v theirs ours apart)
    collected in
    let in_letters : IsIn one.0 (letters boxes t s) = in_flat (λ (o : Outgoing). if o.sender == s then parcels_for o t else []) one.0 box.0 boxes box.1 (subst (λ b. IsIn one.0 (if b then parcels_for box.0 t else [])) (sym (eq-eqb box.0.sender s box.2)) one.1) in
    let last = last_found v one.0 (letters boxes t s) in_letters (ap (λ w. same_vertex w v) one.2 ∙ vertices_decided.reflexive v) in
    let p : Parcel = last.0 in
    let key : p.key ≡ v = vertices_decided.exact p.key v last.3 in
    let from = from_flat (λ (o : Outgoing). if o.sender == s then parcels_for o t else []) p boxes last.2 in
    let own = mine from.0 s t p from.2 in (
      p,
      last.1,
      ⊎_elim
          (λ c. inl (parcel_is k g s t (before s) from.0 tree had (subst (λ n. IsCollected k (before n) from.0) own.0 c) v p own.1 key))
          (λ c. inr (parcel_is k g s t (after s) from.0 tree has (subst (λ n. IsCollected k (after n) from.0) own.0 c) v p own.1 key))
          (are.sent from.0 from.1).collected,
    )
