-- What the means of a tree's own shared cells make of a record.
use Rattle.std.proofs.Common.{◌≡◌, ℕ, ◌<◌, Bool, true, false, List, Option, Some, None, get_or, refl, ap, ap₂, subst, ◌∙◌, arith}
use Rattle.std.specs.Prelude.{ℤ, nat_lt, if◌then◌else◌}
use Rattle.std.proofs.lemmas.Bool.Decides.{nat_tests}
use Rattle.peano_keys.specs.declared.cell.CellKey.{CellKey}
use Rattle.peano_keys.specs.declared.dim.Dim.{Dim}
use Rattle.peano_keys.specs.declared.dim.Dim.TheVariants.{Two, Three}
use Rattle.peano_keys.specs.declared.vertex.VertexKey.{VertexKey}
use Rattle.peano_keys.specs.declared.state.State.{State}
use Rattle.peano_keys.specs.declared.state.State.TheVariants.{Single, Pair, Triple, Quadruple}
use Rattle.peano_keys.specs.Dim.{corners}
use Rattle.peano_keys.specs.Vertex.{adjacent_of}
use Rattle.peano_records.specs.declared.slot.Slot.{Slot}
use Rattle.peano_records.specs.Slots.{VertexRecord, slot_at}
use Rattle.curve_cuts.specs.Cuts.{Cuts}
use Rattle.sweep_visits.specs.Moves.{same_cell}
use Rattle.sweep_visits.proofs.Same.{cells_decided}
use Rattle.tree_automaton.specs.TreeLists.{TreeLists}
use Rattle.peano_records.specs.declared.partials.Partial.{Partial}
use Rattle.shared_sums.specs.declared.adding.Means.{Means}
use Rattle.peano_keys.specs.Field.{state_like}
use Rattle.shared_sums.specs.Totals.{mean_in}
use Rattle.shared_sums.specs.Adding.{IsOwnShared, with_means, RecordTakesMeans, TakesMeans}
use Rattle.shared_sums.specs.Records.{number_in, IsOwnMeans, means_of, AreOwnMeans, cell_of, slot_with, means_at, IsRecordBy, IsStoreBy}
use Rattle.shared_sums.proofs.Sums.{found}
use Rattle.shared_sums.proofs.Found.{some_of, found_passes}

-- numbers that agree give one state
state_same : (s : State) (f g : ℕ → ℤ) → ((i : ℕ) → i < 4 → f i ≡ g i) → state_like s f ≡ state_like s g
state_same (Single a) f g h = ap Single (h 0 (omega arith))
state_same (Pair a b) f g h = ap₂ Pair (h 0 (omega arith)) (h 1 (omega arith))
state_same (Triple a b c) f g h =
    let p = h 0 (omega arith) in
    let q = h 1 (omega arith) in
    let r = h 2 (omega arith) in
    λ j. Triple (p j) (q j) (r j)
state_same (Quadruple a b c d) f g h =
    let p = h 0 (omega arith) in
    let q = h 1 (omega arith) in
    let r = h 2 (omega arith) in
    let s = h 3 (omega arith) in
    λ j. Quadruple (p j) (q j) (r j) (s j)

cell_below : (dim : Dim) (v : VertexKey) (n : ℕ) → n < corners dim → cell_of dim v n ≡ adjacent_of dim v n
cell_below dim v n h = (let t : nat_lt n (corners dim) ≡ true = grind (arith, nat_tests) in rw t refl)

pub cell_found : (dim : Dim) (v : VertexKey) (n : ℕ) (c : CellKey) → cell_of dim v n ≡ Some c → (n < corners dim) × (adjacent_of dim v n ≡ Some c)
cell_found dim v n c = by (nat_lt n (corners dim)) refl
  where
    by : (b : Bool) → nat_lt n (corners dim) ≡ b → (if b then adjacent_of dim v n else None) ≡ Some c → (n < corners dim) × (adjacent_of dim v n ≡ Some c)
    by true t e = (grind (arith, nat_tests), e)
    by false t e = absurd (cc)

small : (dim : Dim) (n : ℕ) → n < corners dim → n < 8
small Two n h = omega (arith, h)
small Three n h = omega (arith, h)

module _ (k : Cuts) (all : List (List Partial)) (t : ℕ) (ms : List Means) (own : AreOwnMeans k all t ms) where
  -- means that are found are those of the cell
  is_own : (c : CellKey) (m : Means) → means_of c ms ≡ Some m → (m.key ≡ c) × IsOwnMeans k all t m
  is_own c m e = (
    cells_decided.exact m.key c (found_passes (λ (x : Means). same_cell x.key c) ms m e),
    found (IsOwnMeans k all t) (λ (x : Means). same_cell x.key c) ms m e own.sound,
  )

  own_slot : (c : CellKey) (s : Slot) → IsOwnShared k all t c → slot_with (means_of c ms) s ≡ with_means k all c s
  own_slot c s h =
      let f = some_of (means_of c ms) (own.complete c h) in
      let is = is_own c f.0 f.1 in
      ap (λ o. slot_with o s) f.1
      ∙ ap (λ n. record s { next = n }) (state_same s.next (number_in f.0.values) (λ i. mean_in k.depth k.dim all i c) (λ i below. is.1.values i below ∙ ap (λ q. mean_in k.depth k.dim all i q) is.0))

  other_slot : (o : Option CellKey) (s : Slot) → ((c : CellKey) → o ≡ Some c → ¬ IsOwnShared k all t c) → slot_with (means_at ms o) s ≡ s
  other_slot None s h = refl
  other_slot (Some c) s h = by (means_of c ms) refl
    where
      by : (m : Option Means) → means_of c ms ≡ m → slot_with m s ≡ s
      by None e = refl
      by (Some m) e = (let is = is_own c m e in absurd (h c refl (subst (IsOwnShared k all t) is.0 is.1.own)))

  added_record : (old new : VertexRecord) → IsRecordBy k.dim ms old new → RecordTakesMeans k all t old new
  added_record old new h = record {
    key = h.key;
    size = h.size;
    own = λ n c below at shared.
        h.slots n (small k.dim n below)
        ∙ ap (λ o. slot_with (means_at ms o) (slot_at old n)) (cell_below k.dim old.key n below ∙ at)
        ∙ own_slot c (slot_at old n) shared;
    others = λ n below none. h.slots n below ∙ other_slot (cell_of k.dim old.key n) (slot_at old n) (λ c e. let f = cell_found k.dim old.key n c e in none c f.0 f.1);
  }

pub added_store : (k : Cuts) (all : List (List Partial)) (ms : List Means) (dim : Dim) (old new : TreeLists) → dim ≡ k.dim → AreOwnMeans k all old.tree ms → IsStoreBy dim ms old new → TakesMeans k all old new
added_store k all ms dim old new e own h = by (subst (λ d. IsStoreBy d ms old new) e h)
  where
    by : IsStoreBy k.dim ms old new → TakesMeans k all old new
    by s = record { rest = s.rest; count = s.count; records = λ i d inside. added_record k all old.tree ms own (get_or old.lanes.input i d) (get_or new.lanes.input i d) (s.records i d inside) }
