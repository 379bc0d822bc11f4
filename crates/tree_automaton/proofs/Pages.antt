-- Pages of the lists of a sweep.
use Rattle.std.proofs.Common.{Result, Ok, Err, ◌≡◌, ℕ, ◌≤◌, ℤ, refl, sym, ap, ◌∙◌, subst, arith}
use Rattle.std.specs.Prelude.{Vec, vec_len, vec_capacity, reverse, min, OnOk, OnErr, ◌↔◌, max, ◌-◌, ◌^◌, ◌<◌, length, pos, ◌≤ℤ◌, ◌-ℤ◌}
use Rattle.std.proofs.lemmas.Int.{ints}
use Rattle.std.proofs.lemmas.List.{length-reverse}
use Rattle.std.specs.declared.alloc.Global.{Global}
use Rattle.peano_records.specs.declared.view.CellRecord.{CellRecord}
use Rattle.vertex_stacks.specs.Lists.{SweepLists, held, pages_of, room_of}
use Rattle.tree_automaton.specs.TreeLists.{TreeLists, IsRoomy, page_count, room_in}

pub same_pages : (a b : SweepLists) → pages_of b ≡ pages_of a → page_count b ≡ page_count a
unfolding page_count
same_pages a b e = e

grown : (a b u : ℕ) → b ≡ max a u → a ≤ b
grown a b u e = omega (arith, e)

equal : (a b : ℕ) → b ≡ a → a ≤ b
equal a b e = omega (arith, e)

-- a list that grew has no fewer pages, and where it did not all is as before
pub more_pages : {T E : Type 0} (r : Result T E) (a b : SweepLists) (u : ℕ) → OnOk r (pages_of b ≡ max (pages_of a) u) → OnErr r (b ≡ a) → page_count a ≤ page_count b
unfolding page_count
more_pages (Ok x) a b u grows same = grown (pages_of a) (pages_of b) u grows
more_pages (Err e) a b u grows same = equal (pages_of a) (pages_of b) (ap pages_of same)

pub room_is : (l : SweepLists) → room_of l ≡ room_in l.dim (page_count l)
unfolding page_count
room_is l = refl

pub roomy_reserved : (s : TreeLists) → IsRoomy s → s.stored ≤ room_of s.lanes
roomy_reserved s r = subst (λ n. s.stored ≤ n) (sym (room_is s.lanes)) r.vertices

-- pages for the stored vertices are pages for all that lists hold which hold no more
pub reserved_room : (a b d : SweepLists) (stored room : ℕ) (spare : ℤ) → b ≡ record a { spare = b.spare } → room ≡ room_of b → stored ≤ room → (pos room -ℤ pos (held b)) ≤ℤ b.spare → (pos 0 ≤ℤ b.spare → d ≡ b) → held a ≤ stored → stored ≤ room_in a.dim (page_count d)
reserved_room a b d stored room spare lists is enough left still few =
    let own : held b ≤ stored = subst (λ (l : SweepLists). held l ≤ stored) (sym lists) few in
    let none : pos 0 ≤ℤ b.spare = with_room (held b) stored room b.spare own enough left in
    let dim : b.dim ≡ a.dim = ap (λ z. z.dim) lists in
    subst (λ n. stored ≤ room_in n (page_count d)) dim (subst (λ l. stored ≤ room_in b.dim (page_count l)) (sym (still none)) (subst (λ n. stored ≤ n) (is_room is) enough))
  where
    with_room : (h stored room : ℕ) (spare : ℤ) → h ≤ stored → stored ≤ room → (pos room -ℤ pos h) ≤ℤ spare → pos 0 ≤ℤ spare
    with_room h stored room spare x y z = omega (arith, ints, x, y, z)

    is_room : room ≡ room_of b → room ≡ room_in b.dim (page_count b)
    is_room e = e ∙ room_is b

-- a store is not roomy where its count of vertices is at its end, or where there are too few pages; else it is where its streams have room
pub not_exact : (s : TreeLists) → s.stored ≡ 2 ^ 64 - 1 → IsRoomy s → ⊥
not_exact s e r = (let h = r.exact in omega (arith, e, h))

pub too_few : (s : TreeLists) (room : ℕ) → room ≡ room_of s.lanes → room < s.stored → IsRoomy s → ⊥
too_few s room is few r = (let h : s.stored ≤ room = subst (λ n. s.stored ≤ n) (sym is) (roomy_reserved s r) in omega (arith, h, few))

pub roomy_from : (s : TreeLists) (room : ℕ) → room ≡ room_of s.lanes → s.stored ≤ room → s.stored < 2 ^ 64 - 1 → length s.cells ≤ s.cell_room → IsRoomy s
roomy_from s room is enough exact records = record { exact = exact; vertices = subst (λ n. s.stored ≤ n) (is ∙ room_is s.lanes) enough; records = records }

-- the stream of written records has room for those to be read exactly where both streams have
pub streams_have_room : (cells written : Vec CellRecord Global) (n cap : ℕ) → n ≡ vec_len cells → cap ≡ vec_capacity written → (length (reverse cells.items) ≤ min (vec_capacity cells) (vec_capacity written)) ↔ (n ≤ cap)
streams_have_room cells written n cap e f =
    let many : length (reverse cells.items) ≡ vec_len cells = length-reverse cells.items ∙ sym cells.ok.0 in
    let fits : vec_len cells ≤ vec_capacity cells = cells.ok.1 in
    (λ h. omega (arith, many, e, f, h), λ h. omega (arith, many, fits, e, f, h))
