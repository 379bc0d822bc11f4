-- The other trees of vertices, counted vertex by vertex.
use Rattle.std.proofs.Common.{◌≡◌, ◌↔◌, ◌⊎◌, ℕ, zero, suc, ◌+◌, ◌<◌, ◌≤◌, List, [], ◌∷◌, ◌++◌, map, length, get_or, take, refl, ap, sym, ◌∙◌, subst, inl, inr, ⊎_elim, arith, length-append}
use Rattle.std.specs.Prelude.{Option, Some, None, slice_get, IsSomeAnd, All}
use Rattle.std.proofs.lemmas.Bool.{cases_lt}
use Rattle.std.proofs.lemmas.List.{length-map, get_or-map, take_more, take_all}
use Rattle.stack_law.specs.Once.{IsIn}
use Rattle.stack_law.proofs.Distinct.{in_either}
use Rattle.stack_law.proofs.Chains.{in_left, in_right}
use Rattle.sweep_streams.proofs.Lists.{in_map}
use Rattle.sweep_streams.proofs.Once.{from_map}
use Rattle.peano_keys.specs.declared.cell.CellKey.{CellKey}
use Rattle.peano_keys.specs.declared.vertex.VertexKey.{VertexKey}
use Rattle.peano_keys.specs.Dim.{corners}
use Rattle.peano_keys.specs.Vertex.{adjacent_of}
use Rattle.peano_keys.proofs.Positions.{touching_cells}
use Rattle.peano_records.specs.declared.stored.Stored.{Stored}
use Rattle.peano_records.specs.Slots.{untold}
use Rattle.curve_cuts.specs.Cuts.{Cuts, Held, HasCorner, IsShared}
use Rattle.vertex_stacks.specs.Tales.{capped}
use Rattle.tree_automaton.specs.Sweeps.{key_of}
use Rattle.showing_sweep.specs.Counts.{NoneTwice, AreSoMany, Counts}
use Rattle.showing_sweep.specs.Sent.{HoldsRound, IsOther, IsPairOf, IsVertexOf}
use Rattle.showing_sweep.proofs.Found.{capped_more, none_twice_in_both}
use Rattle.showing_sweep.proofs.Hanging.{map_once}

some_held : (k : Cuts) (t : ℕ) (o : Option CellKey) → IsSomeAnd o (Held k t) → (c : CellKey) × (o ≡ Some c) × Held k t c
some_held k t None h = absurd h
some_held k t (Some c) h = (c, refl, h)

-- a tree holds a position of a vertex where it holds the cell at one of them
pub corner_if : (k : Cuts) (t : ℕ) (v : VertexKey) (n : ℕ) → IsVertexOf k v → t < k.trees → n < corners k.dim → HoldsRound k t v n → HasCorner k t v
corner_if k t v n of tree below h =
    let c = some_held k t (adjacent_of k.dim v n) h in
    let touch = (touching_cells k.dim v c.0 of.vertex).1 (n, below, c.1) in
    record { tree = tree; cell = c.0; inside = touch.0; touches = touch.1; held = c.2 }

pub corner_round : (k : Cuts) (t : ℕ) (v : VertexKey) → IsVertexOf k v → HasCorner k t v → (n : ℕ) × (n < corners k.dim) × HoldsRound k t v n
corner_round k t v of h =
    let stands = (touching_cells k.dim v h.cell of.vertex).0 (h.inside, h.touches) in
    (stands.0, stands.1, subst (λ o. IsSomeAnd o (Held k t)) (sym stands.2) h.held)

-- the other trees below a number
pub record OthersBelow (k : Cuts) (t : ℕ) (v : VertexKey) (n count : ℕ) : Type 0 where
  pub found : List ℕ
  pub once : NoneTwice found
  pub members : (s : ℕ) → IsIn s found ↔ ((s < n) × IsOther k t v s)
  pub count_is : length found ≡ count
  pub bound : count ≤ n

pub none_below : (k : Cuts) (t : ℕ) (v : VertexKey) → OthersBelow k t v 0 0
none_below k t v = record { found = []; once = tt; members = λ s. ((λ h. absurd h), (λ h. absurd (let below = h.0 in omega arith))); count_is = refl; bound = omega arith }

pub one_below : (k : Cuts) (t : ℕ) (v : VertexKey) (n count : ℕ) → IsOther k t v n → OthersBelow k t v n count → OthersBelow k t v (n + 1) (count + 1)
one_below k t v n count other b = record {
  found = n ∷ b.found;
  once = ((λ h. absurd (let m = ((b.members n).0 h).0 in omega arith)), b.once);
  members = λ s. (
    (λ h. ⊎_elim (λ e. (omega (arith, e), subst (IsOther k t v) (sym e) other)) (λ old. let m = (b.members s).0 old in (omega (arith, m.0), m.1)) h),
    (λ h. ⊎_elim (λ less. inr ((b.members s).1 (less, h.1))) (λ least. inl (let below = h.0 in omega arith)) (cases_lt s n)),
  );
  count_is = let e = b.count_is in omega arith;
  bound = let e = b.bound in omega arith;
}

pub not_below : (k : Cuts) (t : ℕ) (v : VertexKey) (n count : ℕ) → (IsOther k t v n → ⊥) → OthersBelow k t v n count → OthersBelow k t v (n + 1) count
not_below k t v n count none b = record {
  found = b.found;
  once = b.once;
  members = λ s. (
    (λ h. let m = (b.members s).0 h in (omega (arith, m.0), m.1)),
    (λ h. ⊎_elim (λ less. (b.members s).1 (less, h.1)) (λ least. let e : s ≡ n = (let below = h.0 in omega arith) in absurd (none (subst (IsOther k t v) e h.1))) (cases_lt s n)),
  );
  count_is = b.count_is;
  bound = let e = b.bound in omega arith;
}

pub all_below : (k : Cuts) (t : ℕ) (v : VertexKey) (n count : ℕ) → k.trees ≤ n → OthersBelow k t v n count → AreSoMany (IsOther k t v) count
all_below k t v n count all b = record {
  things = b.found;
  lists = record { once = b.once; members = λ s. ((λ h. ((b.members s).0 h).1), (λ h. (b.members s).1 (let tree = h.corner.tree in omega arith, h))) };
  count = b.count_is;
}

-- a vertex that is not shared has none
pub none_shared : (k : Cuts) (t : ℕ) (v : VertexKey) → (IsShared k t v → ⊥) → AreSoMany (IsOther k t v) 0
none_shared k t v none = record {
  things = [];
  lists = record { once = tt; members = λ s. ((λ h. absurd h), (λ h. none (record { other = s; apart = h.apart; corner = h.corner }))) };
  count = refl;
}

-- a vertex with another tree
abbrev pub with_tree : VertexKey → ℕ → VertexKey × ℕ
with_tree v s = (v, s)

pub no_pairs : (k : Cuts) (t : ℕ) → Counts (IsPairOf k t []) 0
no_pairs k t = record { many = 0; are = record { things = []; lists = record { once = tt; members = λ x. ((λ h. absurd h), (λ h. absurd h.listed)) }; count = refl }; told = refl }

-- the pairs of one vertex more
pub pairs_more : (k : Cuts) (t : ℕ) (vs : List VertexKey) (v : VertexKey) (n m : ℕ) → (IsIn v vs → ⊥) → Counts (IsPairOf k t vs) n → AreSoMany (IsOther k t v) m → Counts (IsPairOf k t (vs ++ v ∷ [])) (capped (n + m))
pairs_more k t vs v n m new old more = record {
  many = old.many + m;
  are = record {
    things = old.are.things ++ map (with_tree v) more.things;
    lists = record {
      once = none_twice_in_both old.are.things (map (with_tree v) more.things) old.are.lists.once (map_once (with_tree v) more.things (λ a b e. ap (λ (x : VertexKey × ℕ). x.1) e) more.lists.once)
          (λ x h k. new (subst (λ w. IsIn w vs) (of_new x k).0 ((old.are.lists.members x).0 h).listed));
      members = λ x. ((λ h. ⊎_elim (λ a. from_old x a) (λ b. from_new x b) (in_either x old.are.things (map (with_tree v) more.things) h)), (λ h. to x h (in_either x.0 vs (v ∷ []) h.listed)));
    };
    count = length-append old.are.things (map (with_tree v) more.things) ∙ (let a = old.are.count in let b = length-map more.things (with_tree v) ∙ more.count in omega (arith, a, b));
  };
  told = ap (λ i. capped (i + m)) old.told ∙ capped_more old.many m;
}
  where
    of_new : (x : VertexKey × ℕ) → IsIn x (map (with_tree v) more.things) → (x.0 ≡ v) × IsOther k t v x.1
    of_new x h =
        let found = from_map (with_tree v) x more.things h in
        (ap (λ (y : VertexKey × ℕ). y.0) found.2, subst (λ (y : VertexKey × ℕ). IsOther k t v y.1) (sym found.2) ((more.lists.members found.0).0 found.1))

    from_old : (x : VertexKey × ℕ) → IsIn x old.are.things → IsPairOf k t (vs ++ v ∷ []) x
    from_old x h = let is = (old.are.lists.members x).0 h in record { listed = in_left (λ z. 0) x.0 vs (v ∷ []) is.listed; other = is.other }

    from_new : (x : VertexKey × ℕ) → IsIn x (map (with_tree v) more.things) → IsPairOf k t (vs ++ v ∷ []) x
    from_new x h = let is = of_new x h in record { listed = in_right (λ z. 0) x.0 vs (v ∷ []) (inl is.0); other = subst (λ w. IsOther k t w x.1) (sym is.0) is.1 }

    to : (x : VertexKey × ℕ) → IsPairOf k t (vs ++ v ∷ []) x → IsIn x.0 vs ⊎ IsIn x.0 (v ∷ []) → IsIn x (old.are.things ++ map (with_tree v) more.things)
    to x h (inl a) = in_left (λ z. 0) x old.are.things (map (with_tree v) more.things) ((old.are.lists.members x).1 (record { listed = a; other = h.other }))
    to x h (inr (inl e)) = in_right (λ z. 0) x old.are.things (map (with_tree v) more.things) (subst (λ w. IsIn (w, x.1) (map (with_tree v) more.things)) (sym e) (in_map (with_tree v) x.1 more.things ((more.lists.members x.1).1 (subst (λ w. IsOther k t w x.1) e h.other))))
    to x h (inr (inr none)) = absurd none

-- the vertex at a place of a store's stream
read_key : (input : List Stored) (i : ℕ) (w : VertexKey) → IsSomeAnd (slice_get input i) (λ s. w ≡ s.key) → w ≡ key_of (get_or input i untold)
read_key [] i w h = absurd h
read_key (s ∷ input) zero w h = h
read_key (s ∷ input) (suc i) w h = read_key input i w h

pub vertex_at : (P : VertexKey → Type 0) (input : List Stored) (i : ℕ) (w : VertexKey) → All (λ (s : Stored). P s.key) input → i < length input → IsSomeAnd (slice_get input i) (λ s. w ≡ s.key) → P w
vertex_at P input i w all below is = subst P (sym (read_key input i w is)) (all i untold below)

take_keys : (input : List Stored) (i : ℕ) (w : VertexKey) → i < length input → IsSomeAnd (slice_get input i) (λ s. w ≡ s.key) → take (i + 1) (map key_of input) ≡ take i (map key_of input) ++ w ∷ []
take_keys input i w below is = take_more (map key_of input) i w (let e = length-map input key_of in omega (arith, e, below)) ∙ ap (λ v. take i (map key_of input) ++ v ∷ []) (get_or-map key_of input i untold w below ∙ sym (read_key input i w is))

in_taken : {A : Type 0} (ys : List A) (j : ℕ) (y : A) → IsIn y (take j ys) → IsIn y ys
in_taken ys zero y h = absurd h
in_taken [] (suc j) y h = absurd h
in_taken (z ∷ ys) (suc j) y (inl e) = inl e
in_taken (z ∷ ys) (suc j) y (inr h) = inr (in_taken ys j y h)

first_once : {A : Type 0} (xs : List A) (i : ℕ) → NoneTwice xs → NoneTwice (take i xs)
first_once xs zero d = tt
first_once [] (suc i) d = tt
first_once (x ∷ xs) (suc i) d = ((λ h. d.0 (in_taken xs i x h)), first_once xs i d.1)

last_new : {A : Type 0} (xs : List A) (x : A) → NoneTwice (xs ++ x ∷ []) → IsIn x xs → ⊥
last_new [] x d h = h
last_new (y ∷ xs) x d (inl e) = d.0 (in_right (λ z. 0) y xs (x ∷ []) (inl (sym e)))
last_new (y ∷ xs) x d (inr h) = last_new xs x d.1 h

-- one vertex more of a stream
pub stream_more : (k : Cuts) (t : ℕ) (input : List Stored) (i : ℕ) (w : VertexKey) (n m : ℕ) → i < length input → IsSomeAnd (slice_get input i) (λ s. w ≡ s.key) → NoneTwice (map key_of input) → Counts (IsPairOf k t (take i (map key_of input))) n → AreSoMany (IsOther k t w) m → Counts (IsPairOf k t (take (i + 1) (map key_of input))) (capped (n + m))
stream_more k t input i w n m below is once old more =
    let more_keys = take_keys input i w below is in
    subst (λ vs. Counts (IsPairOf k t vs) (capped (n + m))) (sym more_keys)
    (pairs_more k t (take i (map key_of input)) w n m (last_new (take i (map key_of input)) w (subst NoneTwice more_keys (first_once (map key_of input) (i + 1) once))) old more)

pub stream_all : (k : Cuts) (t : ℕ) (input : List Stored) (i n : ℕ) → length input ≤ i → Counts (IsPairOf k t (take i (map key_of input))) n → Counts (IsPairOf k t (map key_of input)) n
stream_all k t input i n all counts = subst (λ vs. Counts (IsPairOf k t vs) n) (take_all i (map key_of input) (let e = length-map input key_of in omega (arith, e, all))) counts
