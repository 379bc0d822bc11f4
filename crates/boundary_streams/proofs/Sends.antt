-- Lists of parcels, as they grow.
use Rattle.std.proofs.Common.{◌≡◌, ◌≢◌, ⊎_elim, ℕ, zero, suc, ◌+◌, ◌-◌, ◌<◌, ◌≤◌, ◌&&◌, ◌||◌, Bool, true, false, if◌then◌else◌, List, [], ◌∷◌, ◌++◌, Vec, map, filter, take, length, get_or, refl, sym, ap, subst, ◌∙◌, arith}
use Rattle.std.specs.Prelude.{Option, Some, None, slice_get, slice_index_or, slice_set, IsSomeAnd, All}
use Rattle.std.proofs.lemmas.Option.{get_or_from_slice_get}
use Rattle.std.specs.declared.alloc.Global.{Global}
use Rattle.std.proofs.lemmas.Bool.{cases_eq, cases_lt, false≢true}
use Rattle.std.proofs.lemmas.List.Elements.{filter-append}
use Rattle.std.proofs.lemmas.List.{map-set, get_or-map, map-append, length-append, length-set, get_or_append_left, get_or-append_right, get_or-set_same, get_or-set_other, take_more, take_all, append-nil}
use Rattle.peano_keys.specs.declared.vertex.VertexKey.{VertexKey}
use Rattle.peano_keys.specs.Vertex.{IsVertex}
use Rattle.peano_records.specs.declared.stored.Stored.{Stored}
use Rattle.peano_records.specs.declared.stored.Parcel.{Parcel}
use Rattle.peano_records.specs.Slots.{untold}
use Rattle.vertex_stacks.specs.Lists.{parcel_of}
use Rattle.curve_cuts.specs.Cuts.{Cuts, IsShared}
use Rattle.tree_automaton.specs.TreeLists.{TreeLists}
use Rattle.boundary_streams.specs.Sent.{Outgoing}
use Rattle.boundary_streams.specs.Holders.{is_sent}
use Rattle.boundary_streams.specs.Collects.{IsCollected, sent_from}
use Rattle.boundary_streams.specs.Sendings.{AddsWhere, items_of, AreEmpty, HasSent}
use Rattle.boundary_streams.proofs.Holders.{not_sent}
use Rattle.boundary_streams.proofs.Written.{some_at, read_at}

nothing_at : (none : List Parcel) (n : ℕ) → get_or (none ∷ []) n none ≡ none
nothing_at none zero = refl
nothing_at none (suc n) = refl

-- one more empty list
pub empty_more : (n : ℕ) (lists : List (Vec Parcel Global)) (list : Vec Parcel Global) → list.items ≡ [] → AreEmpty n (map items_of lists) → AreEmpty (n + 1) (map items_of (lists ++ list ∷ []))
empty_more n lists list none h =
    let e : map items_of (lists ++ list ∷ []) ≡ map items_of lists ++ [] ∷ [] = map-append items_of lists (list ∷ []) ∙ ap (λ (xs : List Parcel). map items_of lists ++ xs ∷ []) none in
    subst (AreEmpty (n + 1)) (sym e) (record {
      count = length-append (map items_of lists) ([] ∷ []) ∙ ap (λ k. k + 1) h.count;
      empty = λ t. ⊎_elim
          (λ inside. get_or_append_left (map items_of lists) ([] ∷ []) [] t inside ∙ h.empty t)
          (λ beyond. get_or-append_right (map items_of lists) ([] ∷ []) (length (map items_of lists)) t [] refl beyond ∙ nothing_at [] (t - length (map items_of lists)))
          (cases_lt t (length (map items_of lists)));
    })

-- one more parcel in a list
pub added : (lists : List (Vec Parcel Global)) (i : ℕ) (old new : Vec Parcel Global) (p : Parcel) → i < length lists → old ≡ get_or lists i old → new.items ≡ old.items ++ p ∷ [] → map items_of (slice_set lists i new) ≡ slice_set (map items_of lists) i (slice_index_or (map items_of lists) i [] ++ p ∷ [])
added lists i old new p inside is more =
    map-set items_of lists i new
    ∙ ap (λ (xs : List Parcel). slice_set (map items_of lists) i xs) (more ∙ ap (λ (xs : List Parcel). xs ++ p ∷ []) (ap items_of is ∙ sym (get_or-map items_of lists i old [] inside)))

-- the lists of the first trees have a parcel more, where they pass a test
pub record IsAddedUpTo (q : ℕ → Bool) (p : Parcel) (old new : List (List Parcel)) (m : ℕ) : Type 0 where
  pub count : length new ≡ length old
  pub done : (t : ℕ) → t < m → slice_index_or new t [] ≡ (if q t then slice_index_or old t [] ++ p ∷ [] else slice_index_or old t [])
  pub left : (t : ℕ) → m ≤ t → slice_index_or new t [] ≡ slice_index_or old t []

-- a list at a place, after one more parcel where it is wanted
abbrev pub with_parcel : List (List Parcel) → ℕ → Parcel → Bool → List (List Parcel)
with_parcel lists i p wanted = if wanted then slice_set lists i (slice_index_or lists i [] ++ p ∷ []) else lists

count_with : (lists : List (List Parcel)) (i : ℕ) (p : Parcel) (wanted : Bool) → length (with_parcel lists i p wanted) ≡ length lists
count_with lists i p true = length-set lists i (get_or lists i [] ++ p ∷ [])
count_with lists i p false = refl

here_with : (lists : List (List Parcel)) (i : ℕ) (p : Parcel) (wanted : Bool) → i < length lists → slice_index_or (with_parcel lists i p wanted) i [] ≡ (if wanted then slice_index_or lists i [] ++ p ∷ [] else slice_index_or lists i [])
here_with lists i p true h = get_or-set_same lists i (get_or lists i [] ++ p ∷ []) [] h
here_with lists i p false h = refl

there_with : (lists : List (List Parcel)) (i t : ℕ) (p : Parcel) (wanted : Bool) → t ≢ i → slice_index_or (with_parcel lists i p wanted) t [] ≡ slice_index_or lists t []
there_with lists i t p true h = get_or-set_other lists i t (get_or lists i [] ++ p ∷ []) [] h
there_with lists i t p false h = refl

pub added_more : (q : ℕ → Bool) (p : Parcel) (old mid new : List (List Parcel)) (m : ℕ) (wanted : Bool) → m < length old → wanted ≡ q m → new ≡ with_parcel mid m p wanted → IsAddedUpTo q p old mid m → IsAddedUpTo q p old new (m + 1)
added_more q p old mid new m wanted inside is made h =
    let here : m < length mid = omega (arith, inside, h.count) in
    record {
      count = ap length made ∙ count_with mid m p wanted ∙ h.count;
      done = λ t below. ⊎_elim
          (λ e.
          ap (λ ls. get_or ls t []) made
          ∙ ap (λ i. get_or (with_parcel mid m p wanted) i []) e
          ∙ here_with mid m p wanted here
          ∙ ap (λ (xs : List Parcel). if wanted then xs ++ p ∷ [] else xs) (h.left m (omega arith))
          ∙ ap (λ b. if b then get_or old m [] ++ p ∷ [] else get_or old m []) is
          ∙ ap (λ i. if q i then get_or old i [] ++ p ∷ [] else get_or old i []) (sym e))
          (λ apart. ap (λ ls. get_or ls t []) made ∙ there_with mid m t p wanted apart ∙ h.done t (omega arith))
          (cases_eq t m);
      left = λ t above.
          let apart : t ≢ m = omega arith in
          ap (λ ls. get_or ls t []) made ∙ there_with mid m t p wanted apart ∙ h.left t (omega arith);
    }

unpassed : (q : ℕ → Bool) (p : Parcel) (old : List (List Parcel)) (t : ℕ) → q t ≡ false → slice_index_or old t [] ≡ (if q t then slice_index_or old t [] ++ p ∷ [] else slice_index_or old t [])
unpassed q p old t none = ap (λ b. if b then get_or old t [] ++ p ∷ [] else get_or old t []) (sym none)

-- it begins with a tree before which none passes
pub added_from : (q : ℕ → Bool) (p : Parcel) (old : List (List Parcel)) (m : ℕ) → ((t : ℕ) → t < m → q t ≡ false) → IsAddedUpTo q p old old m
added_from q p old m none = record { count = refl; done = λ t below. unpassed q p old t (none t below); left = λ t above. refl }

-- and ends with one from which on none passes
pub added_all : (q : ℕ → Bool) (p : Parcel) (old new : List (List Parcel)) (m : ℕ) → ((t : ℕ) → m ≤ t → t < length old → q t ≡ false) → IsAddedUpTo q p old new m → AddsWhere q p old new
added_all q p old new m none h = record {
  count = h.count;
  lists = λ t inside. ⊎_elim (λ below. h.done t below) (λ above. h.left t above ∙ unpassed q p old t (none t above inside)) (cases_lt t m);
}

-- a test that no tree passes
pub added_none : (q : ℕ → Bool) (p : Parcel) (old : List (List Parcel)) → ((t : ℕ) → t < length old → q t ≡ false) → AddsWhere q p old old
added_none q p old none = record { count = refl; lists = λ t inside. unpassed q p old t (none t inside) }

one_of : (p : Parcel) (xs : List Parcel) (x y : Bool) → (x && y) ≡ false → (if y then (if x then xs ++ p ∷ [] else xs) ++ p ∷ [] else (if x then xs ++ p ∷ [] else xs)) ≡ (if x || y then xs ++ p ∷ [] else xs)
one_of p xs true true h = absurd (false≢true (sym h))
one_of p xs true false h = refl
one_of p xs false true h = refl
one_of p xs false false h = refl

-- two tests that no tree passes both
pub added_both : (q r b : ℕ → Bool) (p : Parcel) (old mid new : List (List Parcel)) → ((t : ℕ) → b t ≡ (q t || r t)) → ((t : ℕ) → (q t && r t) ≡ false) → AddsWhere q p old mid → AddsWhere r p mid new → AddsWhere b p old new
added_both q r b p old mid new is apart one two = record {
  count = two.count ∙ one.count;
  lists = λ t inside.
      two.lists t (omega (arith, inside, one.count))
      ∙ ap (λ (xs : List Parcel). if r t then xs ++ p ∷ [] else xs) (one.lists t inside)
      ∙ one_of p (get_or old t []) (q t) (r t) (apart t)
      ∙ ap (λ c. if c then get_or old t [] ++ p ∷ [] else get_or old t []) (sym (is t));
}

pub sent_all : (k : Cuts) (s : ℕ) (q : ℕ → Bool) (p : Parcel) (old new : List (List Parcel)) → length old ≡ k.trees → ((t : ℕ) → q t ≡ is_sent k s t p.key) → AddsWhere q p old new → HasSent k s p old new
sent_all k s q p old new trees is h = record {
  count = h.count;
  lists = λ t below. h.lists t (omega (arith, below, trees)) ∙ ap (λ c. if c then get_or old t [] ++ p ∷ [] else get_or old t []) (is t);
}

-- a vertex that is not shared adds nothing
pub sent_none : (k : Cuts) (s : ℕ) (p : Parcel) (old : List (List Parcel)) → IsVertex k.dim p.key → ¬ IsShared k s p.key → HasSent k s p old old
sent_none k s p old vertex alone = record {
  count = refl;
  lists = λ t below. ap (λ b. if b then get_or old t [] ++ p ∷ [] else get_or old t []) (sym (not_sent k s t p.key vertex below alone));
}

tail : {A B : Type 0} (f : A → B) (x : A) (ys : List B) (b : Bool) → ys ++ map f (if b then x ∷ [] else []) ≡ (if b then ys ++ f x ∷ [] else ys)
tail f x ys true = refl
tail f x ys false = append-nil ys

-- what passes of one element more
push_filtered : {A B : Type 0} (f : A → B) (q : A → Bool) (xs : List A) (x : A) → map f (filter q (xs ++ x ∷ [])) ≡ (if q x then map f (filter q xs) ++ f x ∷ [] else map f (filter q xs))
push_filtered f q xs x =
    ap (map f) (filter-append q xs (x ∷ []))
    ∙ map-append f (filter q xs) (filter q (x ∷ []))
    ∙ tail f x (map f (filter q xs)) (q x)

-- the lists have what is sent of the first vertices
pub record IsCollectedUpTo (k : Cuts) (s : ℕ) (vs : List Stored) (lists : List (List Parcel)) (m : ℕ) : Type 0 where
  pub count : length lists ≡ k.trees
  pub lists_are : (t : ℕ) → t < k.trees → slice_index_or lists t [] ≡ sent_from k s t (take m vs)

pub collected_more : (k : Cuts) (s : ℕ) (vs : List Stored) (mid new : List (List Parcel)) (m : ℕ) (p : Parcel) (v : Stored) → m < length vs → get_or vs m v ≡ v → p ≡ parcel_of v → HasSent k s p mid new → IsCollectedUpTo k s vs mid m → IsCollectedUpTo k s vs new (m + 1)
collected_more k s vs mid new m p v inside at is sent h =
    let e : take (m + 1) vs ≡ take m vs ++ v ∷ [] = take_more vs m v inside ∙ ap (λ (x : Stored). take m vs ++ x ∷ []) at in
    record {
      count = sent.count ∙ h.count;
      lists_are = λ t below.
          sent.lists t below
          ∙ ap (λ (xs : List Parcel). if is_sent k s t p.key then xs ++ p ∷ [] else xs) (h.lists_are t below)
          ∙ ap (λ (x : Parcel). if is_sent k s t x.key then sent_from k s t (take m vs) ++ x ∷ [] else sent_from k s t (take m vs)) is
          ∙ sym (push_filtered parcel_of (λ (w : Stored). is_sent k s t w.key) (take m vs) v)
          ∙ ap (λ xs. sent_from k s t xs) (sym e);
    }

-- one more vertex of the stream
pub collected_at : (k : Cuts) (s : ℕ) (vs : List Stored) (mid new : List (List Parcel)) (m : ℕ) → m < length vs → IsSomeAnd (slice_get vs m) (λ v. HasSent k s (parcel_of v) mid new) → IsCollectedUpTo k s vs mid m → IsCollectedUpTo k s vs new (m + 1)
collected_at k s vs mid new m inside sent h =
    let v = some_at (slice_get vs m) (λ (w : Stored). HasSent k s (parcel_of w) mid new) sent in
    collected_more k s vs mid new m (parcel_of v.0) v.0 inside (get_or_from_slice_get vs m v.0 v.0 v.1) refl v.2 h

pub collected_all : (k : Cuts) (s : TreeLists) (o : Outgoing) (m : ℕ) → length s.lanes.input ≤ m → o.sender ≡ s.tree → IsCollectedUpTo k s.tree s.lanes.input o.parcels m → IsCollected k s o
collected_all k s o m all sender h = record {
  sender = sender;
  trees = h.count;
  parcels = λ t below. h.lists_are t below ∙ ap (λ xs. sent_from k s.tree t xs) (take_all m s.lanes.input all);
}

-- what is sent of the vertex at a place
pub sent_at : (k : Cuts) (s : ℕ) (vs : List Stored) (i : ℕ) (p : Parcel) (old new : List (List Parcel)) → IsSomeAnd (slice_get vs i) (λ v. p ≡ parcel_of v) → HasSent k s p old new → IsSomeAnd (slice_get vs i) (λ v. HasSent k s (parcel_of v) old new)
sent_at k s vs i p old new is sent = by (slice_get vs i) is
  where
    by : (o : Option Stored) → IsSomeAnd o (λ v. p ≡ parcel_of v) → IsSomeAnd o (λ v. HasSent k s (parcel_of v) old new)
    by None h = h
    by (Some v) h = subst (λ q. HasSent k s q old new) h sent

pub none_at : (k : Cuts) (s : ℕ) (vs : List Stored) (i : ℕ) (vertex : VertexKey) (old : List (List Parcel)) → IsSomeAnd (slice_get vs i) (λ v. vertex ≡ v.key) → IsVertex k.dim vertex → ¬ IsShared k s vertex → IsSomeAnd (slice_get vs i) (λ v. HasSent k s (parcel_of v) old old)
none_at k s vs i vertex old is inside alone = by (slice_get vs i) is
  where
    by : (o : Option Stored) → IsSomeAnd o (λ v. vertex ≡ v.key) → IsSomeAnd o (λ v. HasSent k s (parcel_of v) old old)
    by None h = h
    by (Some v) h = sent_none k s (parcel_of v) old (subst (λ (w : VertexKey). IsVertex k.dim w) h inside) (subst (λ (w : VertexKey). ¬ IsShared k s w) h alone)

-- the key of a parcel is one of the store's
pub key_in : (P : VertexKey → Type 0) (vs : List Stored) (i : ℕ) (p : Parcel) → All (λ (v : Stored). P v.key) vs → i < length vs → IsSomeAnd (slice_get vs i) (λ v. p ≡ parcel_of v) → P p.key
key_in P vs i p all inside is =
    let e : p ≡ parcel_of (get_or vs i untold) = read_at vs i (λ (v : Stored). p ≡ parcel_of v) is untold in
    subst (λ (q : Parcel). P q.key) (sym e) (all i untold inside)

pub key_at : (P : VertexKey → Type 0) (vs : List Stored) (i : ℕ) (w : VertexKey) → All (λ (v : Stored). P v.key) vs → i < length vs → IsSomeAnd (slice_get vs i) (λ v. w ≡ v.key) → P w
key_at P vs i w all inside is = subst P (sym (read_at vs i (λ (v : Stored). w ≡ v.key) is untold)) (all i untold inside)
