-- Pages and places, as numbers.
use Rattle.std.proofs.Common.{◌≡◌, ℕ, zero, suc, ◌+◌, ◌-◌, ◌*◌, ◌/◌, ◌<◌, ◌≤◌, List, [], ◌∷◌, ◌++◌, length, get_or, set, arith, refl, ap, ◌∙◌, length-append, pos, ◌-ℤ◌, ◌+ℤ◌, ◌≤ℤ◌, ◌<ℤ◌, max}
use Rattle.std.proofs.lemmas.Int.{ints}
use Rattle.std.specs.Prelude.{unsigned_abs}
use Rattle.peano_keys.specs.declared.dim.Dim.{Dim}
use Rattle.peano_keys.specs.declared.dim.Dim.TheVariants.{Two, Three}
use Rattle.peano_keys.specs.Dim.{axes}
use Rattle.peano_records.specs.declared.stored.Stored.{Stored}
use Rattle.vertex_stacks.specs.declared.tale.Tale.{Tale}
use Rattle.vertex_stacks.specs.Lists.{held, held_by, lists_of, lists_seen, pages_at, pages_for, pages_in, pages_live, pages_of, places_of}

-- what all lists hold, after one of them changed
pub held_by-set : (lists : List (List Stored)) (i : ℕ) (new : List Stored) → i < length lists → held_by (set lists i new) + length (get_or lists i []) ≡ held_by lists + length new
held_by-set [] i new h = absurd (omega arith)
held_by-set (list ∷ lists) zero new h = omega arith
held_by-set (list ∷ lists) (suc i) new h = let rest : held_by (set lists i new) + length (get_or lists i []) ≡ held_by lists + length new = held_by-set lists i new (omega arith) in omega arith

-- a list lost its last vertex
pub held_by-popped : (lists : List (List Stored)) (i : ℕ) (new : List Stored) (v : Stored) → i < length lists → get_or lists i [] ≡ new ++ v ∷ [] → held_by (set lists i new) + 1 ≡ held_by lists
held_by-popped lists i new v h popped = let moved = held_by-set lists i new h in omega (arith, moved, ap length popped, length-append new (v ∷ []))

-- a list got one vertex more
pub held_by-pushed : (lists : List (List Stored)) (i : ℕ) (v : Stored) → i < length lists → held_by (set lists i (get_or lists i [] ++ v ∷ [])) ≡ held_by lists + 1
held_by-pushed lists i v h = let moved = held_by-set lists i (get_or lists i [] ++ v ∷ []) h in omega (arith, moved, length-append (get_or lists i []) (v ∷ []))

-- how many pages lists take, after one of them changed
pub pages_in-set : (lists : List (List Stored)) (i : ℕ) (new : List Stored) → i < length lists → pages_in (set lists i new) + pages_for (length (get_or lists i [])) ≡ pages_in lists + pages_for (length new)
pages_in-set [] i new h = absurd (omega arith)
pages_in-set (list ∷ lists) zero new h = omega arith
pages_in-set (list ∷ lists) (suc i) new h = let rest : pages_in (set lists i new) + pages_for (length (get_or lists i [])) ≡ pages_in lists + pages_for (length new) = pages_in-set lists i new (omega arith) in omega arith

-- one list takes no more pages than all
pub pages_for-le-pages_in : (lists : List (List Stored)) (i : ℕ) → pages_for (length (get_or lists i [])) ≤ pages_in lists
pages_for-le-pages_in [] i = omega arith
pages_for-le-pages_in (list ∷ lists) zero = omega arith
pages_for-le-pages_in (list ∷ lists) (suc i) = let rest : pages_for (length (get_or lists i [])) ≤ pages_in lists = pages_for-le-pages_in lists i in omega arith

-- a page holds one vertex at least, and 64 at most
pub pages_in-le-held_by : (lists : List (List Stored)) → pages_in lists ≤ held_by lists
pages_in-le-held_by [] = omega arith
pages_in-le-held_by (list ∷ lists) = let rest : pages_in lists ≤ held_by lists = pages_in-le-held_by lists in omega arith

pub held_by-le-pages_in : (lists : List (List Stored)) → held_by lists ≤ 64 * pages_in lists
held_by-le-pages_in [] = omega arith
held_by-le-pages_in (list ∷ lists) = let rest : held_by lists ≤ 64 * pages_in lists = held_by-le-pages_in lists in omega arith

-- all pages are full but for one of each list that is in use
pub pages_in-bound : (lists : List (List Stored)) (used : ℕ) → ((n : ℕ) → used ≤ n → get_or lists n [] ≡ []) → 64 * pages_in lists ≤ held_by lists + 63 * used
pages_in-bound [] used none = omega arith
pages_in-bound (list ∷ lists) zero none =
    let rest : 64 * pages_in lists ≤ held_by lists + 63 * 0 = pages_in-bound lists 0 (λ n h. none (suc n) (omega arith)) in
    let first : length list ≡ 0 = ap length (none 0 (omega arith)) in
    omega (arith, rest, first)
pages_in-bound (list ∷ lists) (suc used) none =
    let rest : 64 * pages_in lists ≤ held_by lists + 63 * used = pages_in-bound lists used (λ n h. none (suc n) (omega (arith, h))) in
    omega (arith, rest)

-- places tell the pages
pages_at-places : (dim : Dim) (pages : ℕ) → pages_at dim (places_of dim pages) ≡ pages
pages_at-places Two pages = omega arith
pages_at-places Three pages = omega arith

-- a difference and what was taken away
pub taken_back : (a b : ℕ) → unsigned_abs ((pos a -ℤ pos b) +ℤ pos b) ≡ a
taken_back a b = let back : ((pos a -ℤ pos b) +ℤ pos b) ≡ pos a = omega (arith, ints) in rw back refl

-- lists as they are seen tell the number of pages
pub pages_seen : (dim : Dim) (pages : ℕ) (input output : List Stored) (lanes : List (List Stored)) (taken put pushed : ℕ) (tale : Tale) → pages_of (lists_seen dim pages input output lanes taken put pushed tale) ≡ pages
pages_seen dim pages input output lanes taken put pushed tale =
    ap (λ n. pages_at dim n) (taken_back (places_of dim pages) (length input + length output + held_by lanes)) ∙ pages_at-places dim pages

-- more pages have more places
pub places_grow : (dim : Dim) (a b : ℕ) → a ≤ b → places_of dim a ≤ places_of dim b
places_grow Two a b h = omega (arith, h)
places_grow Three a b h = omega (arith, h)

-- what has room has places
pub room-le-places : (dim : Dim) (pages : ℕ) → 64 * (pages - lists_of dim) ≤ places_of dim pages
room-le-places Two pages = omega arith
room-le-places Three pages = omega arith

-- while fewer vertices are held than there are places, a page is free
pub page_left : (dim : Dim) (pages a b held taken : ℕ) → a + b + held < places_of dim pages → taken ≤ held → 64 * taken ≤ held + 63 * (2 * axes dim) → pages_for a + pages_for b + taken < pages
page_left Two pages a b held taken h few most = omega (arith, h, few, most)
page_left Three pages a b held taken h few most = omega (arith, h, few, most)

-- a positive difference
pub spare_means : (places held : ℕ) → pos 0 <ℤ (pos places -ℤ pos held) → held < places
spare_means places held h = omega (arith, ints, h)

-- one vertex less is held
pub spare_rises : (places a b old new : ℕ) → new + 1 ≡ old → ((pos places -ℤ pos (a + b + old)) +ℤ pos 1) ≤ℤ (pos places -ℤ pos (a + b + new))
spare_rises places a b old new one = omega (arith, ints)

-- one vertex more is held
pub spare_falls : (places a b old new : ℕ) → new ≡ old + 1 → (pos places -ℤ pos (a + b + old)) ≡ ((pos places -ℤ pos (a + b + new)) +ℤ pos 1)
spare_falls places a b old new one = omega (arith, ints)

-- the pages that are missing for vertices that have no room
pub live_pages : (dim : Dim) (pages vertices : ℕ) → 64 * (pages - lists_of dim) < vertices → pages + (((vertices - 1) / 64 + 1 + lists_of dim) - pages) ≡ max pages (pages_live dim vertices)
live_pages dim pages zero h = absurd (omega (arith, h))
live_pages Two pages (suc n) h = omega (arith, h)
live_pages Three pages (suc n) h = omega (arith, h)

pub live_room : (dim : Dim) (pages vertices : ℕ) → 64 * (pages - lists_of dim) < vertices → vertices ≤ 64 * ((pages + (((vertices - 1) / 64 + 1 + lists_of dim) - pages)) - lists_of dim)
live_room Two pages vertices h = omega (arith, h)
live_room Three pages vertices h = omega (arith, h)
