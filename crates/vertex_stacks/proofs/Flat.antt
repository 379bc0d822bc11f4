-- Pages as one list.
use Rattle.std.proofs.Common.{◌≡◌, ℕ, zero, suc, Bool, true, false, ◌+◌, ◌-◌, ◌*◌, ◌/◌, ◌%◌, ◌<◌, ◌≤◌, List, [], ◌∷◌, ◌++◌, length, get_or, take, set, arith, refl, ap, sym, ◌∙◌, length-append, length-set, ⊎_elim, subst}
use Rattle.std.proofs.lemmas.List.{set-append_left, set-append_right, get_or_append_left, get_or-append_right, take-append-le, take_more, take_more_set, append_assoc, append-nil, length-take-le, get_or-take, get_or-set_same, get_or-set_other}
use Rattle.peano_records.specs.declared.columns.Near.{Near}
use Rattle.peano_records.specs.declared.columns.FourSlots.{FourSlots}
use Rattle.peano_records.specs.declared.columns.More.{More}
use Rattle.peano_records.specs.declared.stored.Stored.{Stored}
use Rattle.peano_records.specs.Columns.{record_of, four_of, far_of}
use Rattle.std.proofs.lemmas.Bool.{cases_eq}
use Rattle.peano_records.specs.declared.stored.Parcel.{Parcel}
use Rattle.vertex_stacks.specs.Lists.{pages_for, parcel_of}
use Rattle.vertex_stacks.specs.Piles.{records_of, flat, AreWhole}

-- columns of one length hold so many records
pub length-records_of : (n : ℕ) (nears : List Near) (fars : List FourSlots) (mores : List More) → length nears ≡ n → length fars ≡ n → length mores ≡ n → length (records_of nears fars mores) ≡ n
length-records_of n [] fars mores hn hf hm = hn
length-records_of n (near ∷ nears) [] mores hn hf hm = absurd (omega (arith, hn, hf))
length-records_of n (near ∷ nears) (far ∷ fars) [] hn hf hm = absurd (omega (arith, hn, hm))
length-records_of n (near ∷ nears) (far ∷ fars) (more ∷ mores) hn hf hm =
    let rest : length (records_of nears fars mores) ≡ n - 1 = length-records_of (n - 1) nears fars mores (omega (arith, hn)) (omega (arith, hf)) (omega (arith, hm)) in
    omega (arith, rest, hn)

-- the record of one place
pub get_or-records_of : (nears : List Near) (fars : List FourSlots) (mores : List More) (i : ℕ) (a : Near) (b : FourSlots) (c : More) (d : Stored) → i < length nears → i < length fars → i < length mores → get_or (records_of nears fars mores) i d ≡ record_of (get_or nears i a) (get_or fars i b) (get_or mores i c)
get_or-records_of (near ∷ nears) (far ∷ fars) (more ∷ mores) zero a b c d hn hf hm = refl
get_or-records_of (near ∷ nears) (far ∷ fars) (more ∷ mores) (suc i) a b c d hn hf hm = get_or-records_of nears fars mores i a b c d (omega (arith, hn)) (omega (arith, hf)) (omega (arith, hm))
get_or-records_of [] fars mores i a b c d hn hf hm = absurd (omega (arith, hn))
get_or-records_of (near ∷ nears) [] mores i a b c d hn hf hm = absurd (omega (arith, hf))
get_or-records_of (near ∷ nears) (far ∷ fars) [] i a b c d hn hf hm = absurd (omega (arith, hm))

-- a change of one place in each column is one of that record
pub records_of-set : (nears : List Near) (fars : List FourSlots) (mores : List More) (i : ℕ) (a : Near) (b : FourSlots) (c : More) → length nears ≡ length fars → length nears ≡ length mores → records_of (set nears i a) (set fars i b) (set mores i c) ≡ set (records_of nears fars mores) i (record_of a b c)
records_of-set [] fars mores i a b c hf hm = refl
records_of-set (near ∷ nears) [] mores i a b c hf hm = absurd (omega (arith, hf))
records_of-set (near ∷ nears) (far ∷ fars) [] i a b c hf hm = absurd (omega (arith, hm))
records_of-set (near ∷ nears) (far ∷ fars) (more ∷ mores) zero a b c hf hm = refl
records_of-set (near ∷ nears) (far ∷ fars) (more ∷ mores) (suc i) a b c hf hm = ap (λ l. record_of near far more ∷ l) (records_of-set nears fars mores i a b c (omega (arith, hf)) (omega (arith, hm)))

-- the tail of whole pages is whole
whole_tail : (page : List Stored) (pages : List (List Stored)) → AreWhole (page ∷ pages) → AreWhole pages
whole_tail page pages w = λ k d h. w (suc k) d (omega (arith, h))

whole_head : (page : List Stored) (pages : List (List Stored)) → AreWhole (page ∷ pages) → length page ≡ 64
whole_head page pages w = w 0 [] (omega arith)

-- whole pages have 64 vertices each
pub length-flat : (pages : List (List Stored)) → AreWhole pages → length (flat pages) ≡ 64 * length pages
length-flat [] w = refl
length-flat (page ∷ pages) w =
    let rest : length (flat pages) ≡ 64 * length pages = length-flat pages (whole_tail page pages w) in
    let one : length page ≡ 64 = whole_head page pages w in
    omega (arith, length-append page (flat pages), rest, one)

-- pages that get one more
pub flat-push : (pages : List (List Stored)) (page : List Stored) → flat (pages ++ page ∷ []) ≡ flat pages ++ page
flat-push [] page = append-nil page
flat-push (first ∷ pages) page = ap (λ l. first ++ l) (flat-push pages page) ∙ sym (append_assoc first (flat pages) page)

-- the vertex at a place of a page
pub get_or-flat : (pages : List (List Stored)) (i q j : ℕ) (e : List Stored) (d : Stored) → AreWhole pages → i < length pages → q < 64 → j ≡ 64 * i + q → get_or (flat pages) j d ≡ get_or (get_or pages i e) q d
get_or-flat [] i q j e d w h hq same = absurd (omega (arith, h))
get_or-flat (page ∷ pages) zero q j e d w h hq same =
    let one : length page ≡ 64 = whole_head page pages w in
    let at : j ≡ q = omega (arith, same) in
    rw at (get_or_append_left page (flat pages) d q (omega (arith, one, hq)))
get_or-flat (page ∷ pages) (suc i) q j e d w h hq same =
    let one : length page ≡ 64 = whole_head page pages w in
    get_or-append_right page (flat pages) 64 j d one (omega (arith, same)) ∙ get_or-flat pages i q (j - 64) e d (whole_tail page pages w) (omega (arith, h)) hq (omega (arith, same))

-- a change of a place of a page
pub flat-set : (pages : List (List Stored)) (i q j : ℕ) (e : List Stored) (v : Stored) → AreWhole pages → i < length pages → q < 64 → j ≡ 64 * i + q → flat (set pages i (set (get_or pages i e) q v)) ≡ set (flat pages) j v
flat-set [] i q j e v w h hq same = absurd (omega (arith, h))
flat-set (page ∷ pages) zero q j e v w h hq same =
    let one : length page ≡ 64 = whole_head page pages w in
    let at : j ≡ q = omega (arith, same) in
    rw at (sym (set-append_left page (flat pages) q v (omega (arith, one, hq))))
flat-set (page ∷ pages) (suc i) q j e v w h hq same =
    let one : length page ≡ 64 = whole_head page pages w in
    let rest : flat (set pages i (set (get_or pages i e) q v)) ≡ set (flat pages) (j - 64) v = flat-set pages i q (j - 64) e v (whole_tail page pages w) (omega (arith, h)) hq (omega (arith, same)) in
    ap (λ l. page ++ l) rest ∙ sym (set-append_right page (flat pages) 64 j v one (omega (arith, same)))

-- one page takes the place of another
pub whole-set : (pages : List (List Stored)) (i : ℕ) (page : List Stored) → AreWhole pages → i < length pages → length page ≡ 64 → AreWhole (set pages i page)
whole-set pages i page w h n = λ k d below. ⊎_elim
    (λ same. let P : ℕ → Type 0 = λ j. length (get_or (set pages i page) j d) ≡ 64 in subst P (sym same) (rw (get_or-set_same pages i page d h) n))
    (λ other. rw (get_or-set_other pages i k page d other) (w k d (let e : length (set pages i page) ≡ length pages = length-set pages i page in omega arith)))
    (cases_eq k i)

-- the first pages of whole ones are whole
whole_init : (pages : List (List Stored)) (page : List Stored) → AreWhole (pages ++ page ∷ []) → AreWhole pages
whole_init pages page w = λ k d h. rw (get_or_append_left pages (page ∷ []) d k h) at (w k d (omega (arith, h, length-append pages (page ∷ []))))

-- a list in pages has as many vertices as it counts
pub length-seen : (pages : List (List Stored)) (count : ℕ) → AreWhole pages → length pages ≡ pages_for count → length (take count (flat pages)) ≡ count
length-seen pages count w n = length-take-le count (flat pages) (omega (arith, length-flat pages w, n))

-- one more page, of which nothing counts yet
pub opened : (pages : List (List Stored)) (page : List Stored) (count : ℕ) → AreWhole pages → count ≤ 64 * length pages → take count (flat (pages ++ page ∷ [])) ≡ take count (flat pages)
opened pages page count w n = ap (λ l. take count l) (flat-push pages page) ∙ take-append-le count (flat pages) page (omega (arith, length-flat pages w, n))

-- one page less, of which nothing counts any more
pub closed : (old new : List (List Stored)) (page : List Stored) (count : ℕ) → AreWhole old → old ≡ new ++ page ∷ [] → length old ≡ count / 64 + 1 → count % 64 ≡ 0 → take count (flat new) ≡ take count (flat old)
closed old new page count w same n full =
    let whole : AreWhole new = whole_init new page (subst AreWhole same w) in
    let len : length old ≡ length new + 1 = ap length same ∙ length-append new (page ∷ []) in
    sym (ap (λ l. take count (flat l)) same ∙ opened new page count whole (omega (arith, len, n, full)))

-- a vertex is written behind the last one
pub pushed : (pages : List (List Stored)) (count : ℕ) (page d : List Stored) (v : Stored) → AreWhole pages → length pages ≡ count / 64 + 1 → page ≡ set (get_or pages (count / 64) d) (count % 64) v → take (count + 1) (flat (set pages (count / 64) page)) ≡ take count (flat pages) ++ v ∷ []
pushed pages count page d v w n is =
    let inside : count / 64 < length pages = omega (arith, n) in
    let within : count < length (flat pages) = omega (arith, length-flat pages w, n) in
    let place : count % 64 < 64 = omega arith in
    let at : count ≡ 64 * (count / 64) + count % 64 = omega arith in
    ap (λ p. take (count + 1) (flat (set pages (count / 64) p))) is
    ∙ (ap (λ l. take (count + 1) l) (flat-set pages (count / 64) (count % 64) count d v w inside place at)
    ∙ take_more_set (flat pages) count v within)

-- a vertex is read from the end
pub popped : (pages new : List (List Stored)) (count k : ℕ) (e : List Stored) (v : Stored) → AreWhole pages → length pages ≡ pages_for count → count ≡ k + 1 → ((d : Stored) → v ≡ get_or (get_or pages (k / 64) e) (k % 64) d) → take k (flat new) ≡ take k (flat pages) → take count (flat pages) ≡ take k (flat new) ++ v ∷ []
popped pages new count k e v w n one is rest =
    let inside : k / 64 < length pages = omega (arith, n, one) in
    let within : k < length (flat pages) = omega (arith, length-flat pages w, n, one) in
    let place : k % 64 < 64 = omega arith in
    let at : k ≡ 64 * (k / 64) + k % 64 = omega arith in
    let read : get_or (flat pages) k v ≡ v = get_or-flat pages (k / 64) (k % 64) k e v w inside place at ∙ sym (is v) in
    rw one (take_more (flat pages) k v within ∙ (ap (λ x. take k (flat pages) ++ x ∷ []) read ∙ ap (λ l. l ++ v ∷ []) (sym rest)))

-- a change within the first vertices
take-set_within : {A : Type 0} (n : ℕ) (xs : List A) (i : ℕ) (x : A) → take n (set xs i x) ≡ set (take n xs) i x
take-set_within zero xs i x = refl
take-set_within (suc n) [] i x = refl
take-set_within (suc n) (y ∷ xs) zero x = refl
take-set_within (suc n) (y ∷ xs) (suc i) x = ap (λ l. y ∷ l) (take-set_within n xs i x)

-- the vertex at a place
pub seen_at : (pages : List (List Stored)) (count i : ℕ) (e : List Stored) (d : Stored) → AreWhole pages → length pages ≡ pages_for count → i < count → get_or (take count (flat pages)) i d ≡ get_or (get_or pages (i / 64) e) (i % 64) d
seen_at pages count i e d w n h =
    let inside : i / 64 < length pages = omega (arith, n, h) in
    let place : i % 64 < 64 = omega arith in
    let at : i ≡ 64 * (i / 64) + i % 64 = omega arith in
    get_or-take count (flat pages) i d h ∙ get_or-flat pages (i / 64) (i % 64) i e d w inside place at

-- the vertex at a place is written over
pub seen-set : (pages : List (List Stored)) (count i : ℕ) (e page : List Stored) (v : Stored) → AreWhole pages → length pages ≡ pages_for count → i < count → page ≡ set (get_or pages (i / 64) e) (i % 64) v → take count (flat (set pages (i / 64) page)) ≡ set (take count (flat pages)) i v
seen-set pages count i e page v w n h is =
    let inside : i / 64 < length pages = omega (arith, n, h) in
    let place : i % 64 < 64 = omega arith in
    let at : i ≡ 64 * (i / 64) + i % 64 = omega arith in
    ap (λ p. take count (flat (set pages (i / 64) p))) is
    ∙ (ap (λ l. take count l) (flat-set pages (i / 64) (i % 64) i e v w inside place at)
    ∙ take-set_within count (flat pages) i v)

-- the record of one place, by what is read there
pub read_records_of : (nears : List Near) (fars : List FourSlots) (mores : List More) (i : ℕ) (a : Near) (b : FourSlots) (c : More) (d : Stored) → length nears ≡ 64 → length fars ≡ 64 → length mores ≡ 64 → i < 64 → a ≡ get_or nears i a → b ≡ get_or fars i b → c ≡ get_or mores i c → record_of a b c ≡ get_or (records_of nears fars mores) i d
read_records_of nears fars mores i a b c d hn hf hm h ea eb ec = sym (get_or-records_of nears fars mores i a b c d (omega (arith, hn, h)) (omega (arith, hf, h)) (omega (arith, hm, h)) ∙ (ap (λ x. record_of x (get_or fars i b) (get_or mores i c)) (sym ea) ∙ (ap (λ x. record_of a x (get_or mores i c)) (sym eb) ∙ ap (λ x. record_of a b x) (sym ec))))

-- a record in columns has eight slots
pub record_eight : (near : Near) (far : FourSlots) (more : More) → length (record_of near far more).slots ≡ 8
record_eight near far more = by near.has_far
  where
    by : (b : Bool) → length (four_of near.has_more near.slots more.near ++ far_of b near.has_more far more.far) ≡ 8
    by true = refl
    by false = refl

-- a parcel is its key and its slots
pub parcel_is : (p : Parcel) (near : Near) (far : FourSlots) (more : More) → p.key ≡ near.key → p.slots ≡ (record_of near far more).slots → p ≡ parcel_of (record_of near far more)
parcel_is p near far more k s = ap (λ x. record { key = x; slots = p.slots }) k ∙ ap (λ x. record { key = near.key; slots = x }) s
