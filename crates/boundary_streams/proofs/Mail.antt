-- The last parcel of a vertex, as one parcel comes after another.
use Rattle.std.proofs.Common.{◌≡◌, ℕ, Bool, true, false, ◌&&◌, ◌==◌, cond, if◌then◌else◌, List, [], ◌∷◌, ◌++◌, Option, Some, None, nat_eq, reverse, refl, sym, ap, ◌∙◌}
use Rattle.std.specs.Cmp.Lexicographic.{pointwise}
use Rattle.std.specs.List.{find}
use Rattle.std.specs.Option.{option_or}
use Rattle.std.proofs.lemmas.Bool.{false≢true}
use Rattle.std.proofs.lemmas.Grind.{flat_map-append}
use Rattle.std.proofs.lemmas.List.{reverse-append, append-nil}
use Rattle.std.proofs.lemmas.List.Folds.{find-append}
use Rattle.peano_keys.specs.declared.vertex.VertexKey.{VertexKey}
use Rattle.peano_records.specs.declared.stored.Parcel.{Parcel}
use Rattle.sweep_visits.specs.Moves.{same_coords, same_vertex}
use Rattle.boundary_streams.specs.declared.received.Address.{Address}
use Rattle.boundary_streams.specs.Sent.{Outgoing, parcels_for, letters, last_of, sent_to}
use Rattle.boundary_streams.specs.Mails.{is_vertex_key, is_address}

-- the two tests of keys agree
coords_same : (xs ys : List ℕ) → pointwise nat_eq xs ys ≡ same_coords xs ys
coords_same [] [] = refl
coords_same [] (y ∷ ys) = refl
coords_same (x ∷ xs) [] = refl
coords_same (x ∷ xs) (y ∷ ys) = ap (λ b. (x == y) && b) (coords_same xs ys)

pub keys_same : (a b : VertexKey) → is_vertex_key a b ≡ same_vertex a b
keys_same a b = ap (λ t. (a.level == b.level) && t) (coords_same a.v b.v)

pub last_of-push : (v : VertexKey) (ps : List Parcel) (p : Parcel) → last_of v (ps ++ p ∷ []) ≡ (if same_vertex p.key v then Some p else last_of v ps)
last_of-push v ps p = ap (find (λ (q : Parcel). same_vertex q.key v)) (reverse-append ps (p ∷ []))

last_of-append : (v : VertexKey) (ps qs : List Parcel) → last_of v (ps ++ qs) ≡ option_or (last_of v qs) (last_of v ps)
last_of-append v ps qs =
    ap (find (λ (q : Parcel). same_vertex q.key v)) (reverse-append ps qs)
    ∙ find-append (λ (q : Parcel). same_vertex q.key v) (reverse qs) (reverse ps)

letters-push : (os : List Outgoing) (o : Outgoing) (t s : ℕ) → letters (os ++ o ∷ []) t s ≡ letters os t s ++ (if o.sender == s then parcels_for o t else [])
letters-push os o t s =
    flat_map-append (λ (q : Outgoing). if q.sender == s then parcels_for q t else []) os (o ∷ [])
    ∙ ap (λ ps. letters os t s ++ ps) (append-nil (if o.sender == s then parcels_for o t else []))

sent-push : (os : List Outgoing) (o : Outgoing) (t s : ℕ) (v : VertexKey) → sent_to (os ++ o ∷ []) t s v ≡ (if o.sender == s then option_or (last_of v (parcels_for o t)) (sent_to os t s v) else sent_to os t s v)
sent-push os o t s v =
    ap (last_of v) (letters-push os o t s)
    ∙ last_of-append v (letters os t s) (if o.sender == s then parcels_for o t else [])
    ∙ by (o.sender == s)
  where
    by : (b : Bool) → option_or (last_of v (if b then parcels_for o t else [])) (sent_to os t s v) ≡ (if b then option_or (last_of v (parcels_for o t)) (sent_to os t s v) else sent_to os t s v)
    by true = refl
    by false = refl

step : (mine same : Bool) (p : Parcel) (was before : Option Parcel) → cond (mine && same) (Some p) (if mine then option_or was before else before) ≡ (if mine then option_or (if same then Some p else was) before else before)
step true true p was before = refl
step true false p was before = refl
step false same p was before = refl

-- one more parcel of a sender
pub note_step : (s : ℕ) (a : Address) (p : Parcel) (ps : List Parcel) (before was now : Option Parcel) → now ≡ (if is_address (record { sender = s; vertex = p.key }) a then Some p else was) →
    was ≡ (if s == a.sender then option_or (last_of a.vertex ps) before else before) → now ≡ (if s == a.sender then option_or (last_of a.vertex (ps ++ p ∷ [])) before else before)
note_step s a p ps before was now e h =
    e ∙ ap (λ w. if is_address (record { sender = s; vertex = p.key }) a then Some p else w) h
    ∙ ap (λ b. cond ((s == a.sender) && b) (Some p) (if s == a.sender then option_or (last_of a.vertex ps) before else before)) (keys_same p.key a.vertex)
    ∙ step (s == a.sender) (same_vertex p.key a.vertex) p (last_of a.vertex ps) before
    ∙ ap (λ w. if s == a.sender then option_or w before else before) (sym (last_of-push a.vertex ps p))

-- one more box
pub receive_step : (t : ℕ) (a : Address) (o p : Outgoing) (os : List Outgoing) (s : ℕ) (list : List Parcel) (was now : Option Parcel) → o ≡ p → s ≡ o.sender → list ≡ parcels_for o t →
    now ≡ (if s == a.sender then option_or (last_of a.vertex list) was else was) → was ≡ sent_to os t a.sender a.vertex → now ≡ sent_to (os ++ p ∷ []) t a.sender a.vertex
receive_step t a o p os s list was now same sender parcels e h =
    e
    ∙ ap (λ n. if n == a.sender then option_or (last_of a.vertex list) was else was) (sender ∙ ap (λ (x : Outgoing). x.sender) same)
    ∙ ap (λ ps. if p.sender == a.sender then option_or (last_of a.vertex ps) was else was) (parcels ∙ ap (λ (x : Outgoing). parcels_for x t) same)
    ∙ ap (λ w. if p.sender == a.sender then option_or (last_of a.vertex (parcels_for p t)) w else w) h
    ∙ sym (sent-push os p t a.sender a.vertex)

outside : (one other : Bool) → (if other then true else one) ≡ false → (other ≡ false) × (one ≡ false)
outside one true h = absurd (false≢true (sym h))
outside one false h = (refl, h)

no_address : (s : ℕ) (a : Address) (p : Parcel) → is_vertex_key p.key a.vertex ≡ false → is_address (record { sender = s; vertex = p.key }) a ≡ false
no_address s a p e = ap (λ b. (s == a.sender) && b) e ∙ by (s == a.sender)
  where
    by : (b : Bool) → (b && false) ≡ false
    by true = refl
    by false = refl

-- one more parcel, of a vertex that was noted
pub covers_step : (s : ℕ) (a : Address) (p : Parcel) (was now : Option Parcel) (before after : Bool) → now ≡ (if is_address (record { sender = s; vertex = p.key }) a then Some p else was) → after ≡ (if is_vertex_key p.key a.vertex then true else before) → (before ≡ false → was ≡ None) → after ≡ false → now ≡ None
covers_step s a p was now before after e f h out =
    let o = outside before (is_vertex_key p.key a.vertex) (sym f ∙ out) in
    e ∙ ap (λ b. if b then Some p else was) (no_address s a p o.0) ∙ h o.1
