-- Lists in pages: one of them changes, or all get more pages.
use Rattle.std.proofs.Common.{◌≡◌, ℕ, zero, suc, ◌+◌, ◌*◌, ◌^◌, ◌<◌, ◌≤◌, List, [], ◌∷◌, ◌++◌, length, get_or, set, map, reverse, arith, refl, ap, sym, ◌∙◌, length-set, ⊎_elim, subst}
use Rattle.std.specs.Prelude.{All}
use Rattle.std.proofs.lemmas.Bool.{cases_eq}
use Rattle.std.proofs.lemmas.List.{map-set, get_or-map, get_or-set_same, set-get_or, get_or-set_other, length-map, length-reverse, length_push}
use Rattle.peano_keys.specs.declared.dim.Dim.{Dim}
use Rattle.peano_keys.specs.declared.dim.Dim.TheVariants.{Two, Three}
use Rattle.peano_keys.specs.Dim.{axes}
use Rattle.peano_records.specs.declared.stored.Stored.{Stored}
use Rattle.vertex_stacks.specs.Lists.{held_by, lists_seen, pages_for, pages_in, pages_of, pages_used, places_of}
use Rattle.vertex_stacks.specs.declared.tale.Tale.{Tale}
use Rattle.vertex_stacks.specs.Piles.{PileSeen, PoolSeen, Reach, AreInPages, items_of}
use Rattle.vertex_stacks.proofs.Counts.{held_by-le-pages_in, page_left, pages_for-le-pages_in, pages_in-bound, pages_in-le-held_by, pages_in-set, pages_seen}

-- a lane that a dimension uses is one of the six
pub lane_within : (dim : Dim) (lane n : ℕ) → n ≡ 6 → lane < 2 * axes dim → lane < n
lane_within Two lane n six h = omega arith
lane_within Three lane n six h = omega arith

-- a lane is what its pile holds
pub lane_is : (piles : List PileSeen) (i : ℕ) (d : PileSeen) → i < length piles → get_or (map items_of piles) i [] ≡ (get_or piles i d).items
lane_is piles i d h = get_or-map items_of piles i d [] h

-- a pile takes the place of one that holds the same
pub lanes_kept : (piles : List PileSeen) (i : ℕ) (new d : PileSeen) → i < length piles → new.items ≡ (get_or piles i d).items → map items_of (set piles i new) ≡ map items_of piles
lanes_kept piles i new d h same = map-set items_of piles i new ∙ (ap (λ list. set (map items_of piles) i list) (same ∙ sym (lane_is piles i d h)) ∙ set-get_or (map items_of piles) i [])

-- one pile got more room
pub room_kept : (room : ℕ) (piles : List PileSeen) (i : ℕ) (new d : PileSeen) → i < length piles → (get_or piles i d).reach ≤ new.reach → Reach room piles → Reach room (set piles i new)
room_kept room piles i new d h grows all = λ k e below. ⊎_elim
    (λ same. let P : ℕ → Type 0 = λ n. room ≤ (get_or (set piles i new) n e).reach in subst P (sym same) (rw (get_or-set_same piles i new e h) (let old : room ≤ (get_or piles i d).reach = all i d h in omega arith)))
    (λ other. rw (get_or-set_other piles i k new e other) (all k e (let n : length (set piles i new) ≡ length piles = length-set piles i new in omega arith)))
    (cases_eq k i)

-- the first piles have room, and one more got it
pub room_spreads : (room : ℕ) (piles : List PileSeen) (i : ℕ) (new : PileSeen) → i < length piles → room ≤ new.reach → ((k : ℕ) (d : PileSeen) → k < i → room ≤ (get_or piles k d).reach) → (k : ℕ) (d : PileSeen) → k < i + 1 → room ≤ (get_or (set piles i new) k d).reach
room_spreads room piles i new h enough before k d below = ⊎_elim
    (λ same. let P : ℕ → Type 0 = λ n. room ≤ (get_or (set piles i new) n d).reach in subst P (sym same) (rw (get_or-set_same piles i new d h) enough))
    (λ other. rw (get_or-set_other piles i k new d other) (before k d (omega arith)))
    (cases_eq k i)

-- less room is enough
pub less_room : (a b : ℕ) (piles : List PileSeen) → a ≤ b → Reach b piles → Reach a piles
less_room a b piles h all = λ k d below. let one : b ≤ (get_or piles k d).reach = all k d below in omega (arith, h, one)

-- one lane changed
pub moved_lane : (dim : Dim) (pages : ℕ) (pool new_pool : PoolSeen) (input output : PileSeen) (piles : List PileSeen) (lane : ℕ) (d new : PileSeen) → AreInPages dim pages pool input output piles → lane < 2 * axes dim → (new.reach ≡ (get_or piles lane d).reach) × (new_pool.reach ≡ pool.reach) → new_pool.count + pages_for (length new.items) ≡ pool.count + pages_for (length (get_or piles lane d).items) → AreInPages dim pages new_pool input output (set piles lane new)
moved_lane dim pages pool new_pool input output piles lane d new s used same pages_same =
    let h : lane < length piles = lane_within dim lane (length piles) s.six used in
    let inside : lane < length (map items_of piles) = rw (length-map piles items_of) h in
    let count : pages_in (set (map items_of piles) lane new.items) + pages_for (length (get_or (map items_of piles) lane [])) ≡ pages_in (map items_of piles) + pages_for (length new.items) = pages_in-set (map items_of piles) lane new.items inside in
    let is : pages_for (length (get_or (map items_of piles) lane [])) ≡ pages_for (length (get_or piles lane d).items) = ap (λ l. pages_for (length l)) (lane_is piles lane d h) in
    let all : pages_in (map items_of (set piles lane new)) ≡ pages_in (set (map items_of piles) lane new.items) = ap pages_in (map-set items_of piles lane new) in
    record {
      six = length-set piles lane new ∙ s.six;
      unused = λ n past. rw (map-set items_of piles lane new, get_or-set_other (map items_of piles) lane n new.items [] (λ e. absurd (omega (arith, e, past, used)))) (s.unused n past);
      count = omega (arith, s.count, count, is, all, pages_same);
      most = s.most;
      in_pool = rw (same.1) s.in_pool;
      in_input = s.in_input;
      in_output = s.in_output;
      in_lanes = room_kept pages piles lane new d h (omega (arith, same.0)) s.in_lanes;
    }

-- all got more pages
pub grown : (dim : Dim) (pages more total : ℕ) (pool new_pool : PoolSeen) (input new_input output new_output : PileSeen) (piles new_piles : List PileSeen) → AreInPages dim pages pool input output piles → total ≡ pages + more → total ≤ 2 ^ 50 → new_pool.count ≡ pool.count + more → total ≤ new_pool.reach → new_input.items ≡ input.items → total ≤ new_input.reach → new_output.items ≡ output.items → total ≤ new_output.reach → length new_piles ≡ 6 → map items_of new_piles ≡ map items_of piles → Reach total new_piles → AreInPages dim total new_pool new_input new_output new_piles
grown dim pages more total pool new_pool input new_input output new_output piles new_piles s sum most count in_pool input_same in_input output_same in_output six same in_lanes = record {
  six = six;
  unused = λ n past. rw same (s.unused n past);
  count = rw (input_same, output_same, same) (omega (arith, s.count, sum, count));
  most = most;
  in_pool = in_pool;
  in_input = in_input;
  in_output = in_output;
  in_lanes = in_lanes;
}

-- all lists hold no more than their pages have places
pub held-le-pages : (dim : Dim) (pages : ℕ) (pool : PoolSeen) (input output : PileSeen) (piles : List PileSeen) → AreInPages dim pages pool input output piles → length input.items + length output.items + held_by (map items_of piles) ≤ 2 ^ 56
held-le-pages dim pages pool input output piles s = omega (arith, s.count, s.most, held_by-le-pages_in (map items_of piles))

-- where there is place to spare the pool has a page
pub free_page : (dim : Dim) (pages : ℕ) (pool : PoolSeen) (input output : PileSeen) (piles : List PileSeen) → AreInPages dim pages pool input output piles → length input.items + length output.items + held_by (map items_of piles) < places_of dim pages → 0 < pool.count
free_page dim pages pool input output piles s few =
    let left = page_left dim pages (length input.items) (length output.items) (held_by (map items_of piles)) (pages_in (map items_of piles)) few (pages_in-le-held_by (map items_of piles)) (pages_in-bound (map items_of piles) (2 * axes dim) s.unused) in
    omega (arith, left, s.count)

-- the pool has room for a page of a lane that holds a vertex
pub pool_has_room : (dim : Dim) (pages : ℕ) (pool : PoolSeen) (input output : PileSeen) (piles : List PileSeen) (lane : ℕ) (d : PileSeen) → AreInPages dim pages pool input output piles → lane < 2 * axes dim → 0 < length (get_or piles lane d).items → pool.count < pool.reach
pool_has_room dim pages pool input output piles lane d s used some =
    let h : lane < length piles = lane_within dim lane (length piles) s.six used in
    let is : length (get_or (map items_of piles) lane []) ≡ length (get_or piles lane d).items = ap length (lane_is piles lane d h) in
    let one : pages_for (length (get_or (map items_of piles) lane [])) ≤ pages_in (map items_of piles) = pages_for-le-pages_in (map items_of piles) lane in
    omega (arith, s.count, s.in_pool, is, one, some)

-- a lane has room for a page where one is free
pub lane_has_room : (dim : Dim) (pages : ℕ) (pool : PoolSeen) (input output : PileSeen) (piles : List PileSeen) (lane : ℕ) (d : PileSeen) → AreInPages dim pages pool input output piles → lane < 2 * axes dim → pages_for (length input.items) + pages_for (length output.items) + pages_in (map items_of piles) < pages → (0 < pool.count) × (pages_for (length (get_or piles lane d).items) < (get_or piles lane d).reach)
lane_has_room dim pages pool input output piles lane d s used free =
    let h : lane < length piles = lane_within dim lane (length piles) s.six used in
    let is : length (get_or (map items_of piles) lane []) ≡ length (get_or piles lane d).items = ap length (lane_is piles lane d h) in
    let one : pages_for (length (get_or (map items_of piles) lane [])) ≤ pages_in (map items_of piles) = pages_for-le-pages_in (map items_of piles) lane in
    let reach : pages ≤ (get_or piles lane d).reach = s.in_lanes lane d h in
    (omega (arith, s.count, free), omega (arith, is, one, reach, free))

-- what is asked of lists as they are seen, of their pages
pub ready_means : (dim : Dim) (pages : ℕ) (input output : List Stored) (lanes : List (List Stored)) (taken put pushed : ℕ) (tale : Tale) → pages_used (lists_seen dim pages (reverse input) output lanes taken put pushed tale) < pages_of (lists_seen dim pages (reverse input) output lanes taken put pushed tale) → pages_for (length input) + pages_for (length output) + pages_in lanes < pages
ready_means dim pages input output lanes taken put pushed tale h = rw (pages_seen dim pages (reverse input) output lanes taken put pushed tale, length-reverse input) at h

-- a list that got one vertex more takes a page more or none
pub used_lane : (lists : List (List Stored)) (i : ℕ) (v : Stored) → i < length lists → pages_in (set lists i (get_or lists i [] ++ v ∷ [])) + pages_for (length (get_or lists i [])) ≡ pages_in lists + pages_for (length (get_or lists i []) + 1)
used_lane lists i v h = rw (← length_push (get_or lists i []) v) (pages_in-set lists i (get_or lists i [] ++ v ∷ []) h)

-- where each pile is empty no lane has a vertex, and the other way round
pub lanes_empty : (piles : List PileSeen) → All (λ pile. pile.items ≡ []) piles → (n : ℕ) → get_or (map items_of piles) n [] ≡ []
lanes_empty [] all n = refl
lanes_empty (pile ∷ piles) all zero = all 0 pile (omega arith)
lanes_empty (pile ∷ piles) all (suc n) = lanes_empty piles (λ k d h. all (suc k) d (omega arith)) n

pub piles_empty : (piles : List PileSeen) → length piles ≡ 6 → ((n : ℕ) → n < 6 → get_or (map items_of piles) n [] ≡ []) → All (λ pile. pile.items ≡ []) piles
piles_empty piles six none k d h = sym (lane_is piles k d h) ∙ none k (omega arith)

-- the input holds as many as before
pub input_kept : (dim : Dim) (pages : ℕ) (pool : PoolSeen) (input new output : PileSeen) (piles : List PileSeen) → AreInPages dim pages pool input output piles → length new.items ≡ length input.items → new.reach ≡ input.reach → AreInPages dim pages pool new output piles
input_kept dim pages pool input new output piles s same reach = record {
  six = s.six;
  unused = s.unused;
  count = rw same s.count;
  most = s.most;
  in_pool = s.in_pool;
  in_input = rw reach s.in_input;
  in_output = s.in_output;
  in_lanes = s.in_lanes;
}
