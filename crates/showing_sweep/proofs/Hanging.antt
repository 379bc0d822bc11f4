-- The corners of a held cell that hang, by its view and by the grid.
use Rattle.std.proofs.Common.{◌≡◌, ℕ, zero, suc, ◌+◌, ◌<◌, ◌≤◌, Bool, true, false, if◌then◌else◌, List, [], ◌∷◌, ◌++◌, map, length, get_or, refl, ap, sym, ◌∙◌, subst, inl, inr, ⊎_elim, arith}
use Rattle.std.specs.Prelude.{not, cond, count_by, Option, Some, None}
use Rattle.std.proofs.lemmas.Bool.{cases_lt, false≢true}
use Rattle.std.proofs.lemmas.List.{length-map}
use Rattle.stack_law.specs.Once.{IsIn}
use Rattle.sweep_streams.proofs.Lists.{sum-cons, chosen, chosen_in, in_chosen, in_map}
use Rattle.sweep_streams.proofs.Once.{from_map}
use Rattle.peano_keys.specs.declared.cell.CellKey.{CellKey}
use Rattle.peano_keys.specs.declared.dim.Dim.{Dim}
use Rattle.peano_keys.specs.declared.dim.Dim.TheVariants.{Two, Three}
use Rattle.peano_keys.specs.Dim.{corners}
use Rattle.peano_keys.specs.Cell.{IsCell}
use Rattle.peano_keys.specs.Vertex.{IsVertex, corner_of}
use Rattle.peano_keys.specs.Grid.{Spacetree, IsHanging, IsStored, has_cell}
use Rattle.peano_records.specs.declared.view.Corner.{Corner}
use Rattle.peano_records.specs.declared.view.Corner.TheVariants.{Vertex, Hanging, Beyond}
use Rattle.peano_records.specs.declared.view.CellView.{CellView}
use Rattle.peano_records.specs.Tells.{corner_at}
use Rattle.peano_records.specs.Slots.{VertexRecord}
use Rattle.hanging_nodes.specs.Views.{HasSlots}
use Rattle.hanging_nodes.proofs.Anchors.{touches_corner}
use Rattle.sweep_visits.specs.Plan.{corner_numbers, is_stored}
use Rattle.sweep_visits.proofs.Tests.{stored_tells, stored_told}
use Rattle.tree_automaton.specs.declared.kinds.Serves.TheVariants.{Plain}
use Rattle.tree_automaton.specs.Sweep.{TreeSweep, tells_new}
use Rattle.tree_automaton.specs.Views.{CornerFits, ViewFits}
use Rattle.step_sweeps.proofs.OwnSlots.{some_same}
use Rattle.step_sweeps.proofs.OwnCounts.{false_by}
use Rattle.showing_sweep.specs.Counts.{NoneTwice}
use Rattle.showing_sweep.specs.Shows.{is_hanging, hanging_in}
use Rattle.showing_sweep.proofs.Found.{AreFound}

-- so many numbers from one on
abbrev pub numbers : ℕ → ℕ → List ℕ
numbers m zero = []
numbers m (suc k) = m ∷ numbers (m + 1) k

pub in_numbers : (m k n : ℕ) → IsIn n (numbers m k) → (m ≤ n) × (n < m + k)
in_numbers m zero n h = absurd h
in_numbers m (suc k) n (inl e) = (omega (arith, e), omega (arith, e))
in_numbers m (suc k) n (inr h) = let r = in_numbers (m + 1) k n h in (omega (arith, r.0), omega (arith, r.1))

pub from_between : (m k n : ℕ) → m ≤ n → n < m + k → IsIn n (numbers m k)
from_between m zero n low high = absurd (omega (arith, low, high))
from_between m (suc k) n low high = ⊎_elim (λ above. inr (from_between (m + 1) k n (omega (arith, above)) (omega (arith, high)))) (λ least. inl (omega (arith, low, least))) (cases_lt m n)

pub numbers_once : (m k : ℕ) → NoneTwice (numbers m k)
numbers_once m zero = tt
numbers_once m (suc k) = ((λ h. absurd (let r = in_numbers (m + 1) k m h in omega (arith, r.0))), numbers_once (m + 1) k)

-- the numbers of corners
corners_are : (dim : Dim) → corner_numbers dim ≡ numbers 0 (corners dim)
corners_are Two = refl
corners_are Three = refl

pub below_in : (dim : Dim) (n : ℕ) → IsIn n (corner_numbers dim) → n < corners dim
below_in dim n h = let r = in_numbers 0 (corners dim) n (subst (IsIn n) (corners_are dim) h) in omega (arith, r.1)

pub in_below : (dim : Dim) (n : ℕ) → n < corners dim → IsIn n (corner_numbers dim)
in_below dim n h = subst (IsIn n) (sym (corners_are dim)) (from_between 0 (corners dim) n (omega arith) (omega (arith, h)))

corners_once : (dim : Dim) → NoneTwice (corner_numbers dim)
corners_once dim = subst NoneTwice (sym (corners_are dim)) (numbers_once 0 (corners dim))

-- lists that are chosen and named
chosen_once : {A : Type 0} (f : A → Bool) (xs : List A) → NoneTwice xs → NoneTwice (chosen f xs)
chosen_once f [] d = tt
chosen_once f (x ∷ xs) d = by (f x) (chosen_once f xs d.1)
  where
    by : (b : Bool) → NoneTwice (chosen f xs) → NoneTwice ((if b then x ∷ [] else []) ++ chosen f xs)
    by true rest = ((λ h. d.0 (chosen_in f x xs h).0), rest)
    by false rest = rest

pub map_once : {A B : Type 0} (f : A → B) (xs : List A) → ((x y : A) → f x ≡ f y → x ≡ y) → NoneTwice xs → NoneTwice (map f xs)
map_once f [] apart d = tt
map_once f (x ∷ xs) apart d = ((λ h. let y = from_map f (f x) xs h in d.0 (subst (λ z. IsIn z xs) (sym (apart x y.0 y.2)) y.1)), map_once f xs apart d.1)

chosen_same : {A : Type 0} (f g : A → Bool) (xs : List A) → ((x : A) → IsIn x xs → f x ≡ g x) → chosen f xs ≡ chosen g xs
chosen_same f g [] same = refl
chosen_same f g (x ∷ xs) same = ap (λ b. (if b then x ∷ [] else []) ++ chosen f xs) (same x (inl refl)) ∙ ap (λ l. (if g x then x ∷ [] else []) ++ l) (chosen_same f g xs (λ y h. same y (inr h)))

-- a count of items is one of their numbers
counted_by_number : {A : Type 0} (p : A → Bool) (d : A) (xs : List A) (m : ℕ) (f : ℕ → Bool) → ((i j : ℕ) → i < length xs → j ≡ m + i → f j ≡ p (get_or xs i d)) → count_by p xs ≡ length (chosen f (numbers m (length xs)))
counted_by_number p d [] m f same = refl
counted_by_number p d (x ∷ xs) m f same =
    sum-cons (λ y. cond (p y) 1 0) x xs
    ∙ (ap (λ n. cond (p x) 1 0 + n) (counted_by_number p d xs (m + 1) f (λ i j below e. same (suc i) j (omega (arith, below)) (omega (arith, e))))
    ∙ (by (p x)
    ∙ ap (λ b. length ((if b then m ∷ [] else []) ++ chosen f (numbers (m + 1) (length xs)))) (sym (same 0 m (omega arith) (omega arith)))))
  where
    by : (b : Bool) → cond b 1 0 + length (chosen f (numbers (m + 1) (length xs))) ≡ length ((if b then m ∷ [] else []) ++ chosen f (numbers (m + 1) (length xs)))
    by true = omega arith
    by false = omega arith

-- of eight corners none hangs past those of the dimension
chosen_below : (dim : Dim) (f : ℕ → Bool) → ((n : ℕ) → corners dim ≤ n → f n ≡ false) → chosen f (numbers 0 8) ≡ chosen f (corner_numbers dim)
chosen_below Two f past = rw (past 4 (omega arith), past 5 (omega arith), past 6 (omega arith), past 7 (omega arith)) refl
chosen_below Three f past = refl

pub hanging_by_number : (dim : Dim) (v : CellView) → length v.corners ≡ 8 → ((n : ℕ) → corners dim ≤ n → corner_at v n ≡ Beyond) → hanging_in v ≡ length (chosen (λ n. is_hanging (corner_at v n)) (corner_numbers dim))
hanging_by_number dim v eight beyond =
    counted_by_number is_hanging Beyond v.corners 0 (λ n. is_hanging (corner_at v n)) (λ i j below e. ap (λ n. is_hanging (corner_at v n)) (let same : j ≡ i = omega (arith, e) in same))
    ∙ (ap (λ k. length (chosen (λ n. is_hanging (corner_at v n)) (numbers 0 k))) eight
    ∙ ap length (chosen_below dim (λ n. is_hanging (corner_at v n)) (λ n past. ap is_hanging (beyond n past))))

module _ (g : Spacetree) where
  -- whether a corner of a cell of the grid hangs
  abbrev pub hangs : CellKey → ℕ → Bool
  hangs c n = not (is_stored g (corner_of c n))

  -- a cell with the number of a corner
  abbrev pub at_corner : CellKey → ℕ → CellKey × ℕ
  at_corner c n = (c, n)

  -- the corners of a cell that hang
  abbrev pub hanging_at : CellKey → List (CellKey × ℕ)
  hanging_at c = map (at_corner c) (chosen (hangs c) (corner_numbers g.dim))

  abbrev pub cell_of : CellKey × ℕ → CellKey
  cell_of x = x.0

  abbrev pub HangsAt : CellKey × ℕ → Type 0
  HangsAt x = (x.1 < corners g.dim) × IsHanging g (corner_of x.0 x.1)

  not_false : (b : Bool) → not b ≡ true → b ≡ false
  not_false false e = refl
  not_false true e = absurd (false≢true e)

  false_not : (b : Bool) → (b ≡ true → ⊥) → not b ≡ true
  false_not true h = absurd (h refl)
  false_not false h = refl

  pub hanging_found : (c : CellKey) → IsCell g.dim c → has_cell g c ≡ true → ((n : ℕ) → n < corners g.dim → IsVertex g.dim (corner_of c n)) → AreFound cell_of HangsAt (c ∷ []) (hanging_at c)
  hanging_found c cell there vertex = record {
    once = map_once (at_corner c) (chosen (hangs c) (corner_numbers g.dim)) (λ a b e. ap (λ (x : CellKey × ℕ). x.1) e) (chosen_once (hangs c) (corner_numbers g.dim) (corners_once g.dim));
    members = λ x. ((λ h. here x h), (λ h. ⊎_elim (λ e. listed x e h.1) (λ no. absurd no) h.0));
  }
    where
      here : (x : CellKey × ℕ) → IsIn x (hanging_at c) → IsIn x.0 (c ∷ []) × HangsAt x
      here x h =
          let found = from_map (at_corner c) x (chosen (hangs c) (corner_numbers g.dim)) h in
          let is = chosen_in (hangs c) found.0 (corner_numbers g.dim) found.1 in
          let below : found.0 < corners g.dim = below_in g.dim found.0 is.0 in
          subst (λ (y : CellKey × ℕ). IsIn y.0 (c ∷ []) × HangsAt y) (sym found.2) (
            inl refl,
            (
              below,
              (
                (c, cell, touches_corner g.dim c found.0, there),
                (λ stored. false≢true (sym (not_false (is_stored g (corner_of c found.0)) is.1) ∙ stored_told g (corner_of c found.0) (vertex found.0 below) stored)),
              ),
            ),
          )

      listed : (x : CellKey × ℕ) → x.0 ≡ c → HangsAt x → IsIn x (hanging_at c)
      listed x e h = subst (λ q. IsIn (q, x.1) (hanging_at c)) (sym e) (in_map (at_corner c) x.1 (chosen (hangs c) (corner_numbers g.dim)) (in_chosen (hangs c) x.1 (corner_numbers g.dim) (in_below g.dim x.1 h.0)
          (false_not (is_stored g (corner_of c x.1)) (λ stored. h.1.1 (subst (λ q. IsStored g (corner_of q x.1)) (sym e) (stored_tells g (corner_of c x.1) stored))))))

-- a view of a cell shows which of them hang
module _ (p : TreeSweep) (serves : p.serves ≡ Plain) (one : p.plan.old ≡ Some p.plan.new) where
  abbrev g : Spacetree
  g = p.plan.new

  shows_hanging : (c : CellKey) (n : ℕ) (k : Corner) → IsVertex g.dim (corner_of c n) → CornerFits p (corner_of c n) k → is_hanging k ≡ hangs g c n
  shows_hanging c n (Vertex s) vertex h = ap not (sym (stored_told g (corner_of c n) vertex (subst (IsStored g) h.0 (stored_either p.plan.old s one h.1.slots))))
    where
      stored_either : (old : Option Spacetree) (s : VertexRecord) → old ≡ Some g → HasSlots g.dim old g (tells_new p.serves) s.key s → IsStored g s.key
      stored_either None s e h = h.0
      stored_either (Some o) s e h = ⊎_elim (λ a. subst (λ x. IsStored x s.key) (some_same o g e) a) (λ b. b) h.0
  shows_hanging c n (Hanging k) vertex h = ap not (sym (false_by (is_stored g (corner_of c n)) (λ e. h.2 (stored_tells g (corner_of c n) e))))
  shows_hanging c n Beyond vertex h = absurd h

  -- so a view counts the corners that hang
  pub counts_hanging : (c : CellKey) (v : CellView) → ViewFits p c v → ((n : ℕ) → n < corners g.dim → IsVertex g.dim (corner_of c n)) → hanging_in v ≡ length (hanging_at g c)
  counts_hanging c v fits vertex =
      hanging_by_number g.dim v fits.view.eight fits.view.beyond
      ∙ (ap length (chosen_same (λ n. is_hanging (corner_at v n)) (hangs g c) (corner_numbers g.dim) (λ n h. let below = below_in g.dim n h in shows_hanging c n (corner_at v n) (vertex n below) (fits.each n below)))
      ∙ sym (length-map (chosen (hangs g c) (corner_numbers g.dim)) (at_corner g c)))
