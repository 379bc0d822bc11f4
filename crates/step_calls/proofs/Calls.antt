-- The calls of a tree make a sweep.
use Rattle.std.proofs.Common.{◌≡◌, ◌≢◌, ⊎_elim, ℕ, zero, suc, ◌+◌, ◌-◌, ◌<◌, ◌≤◌, Bool, true, false, refl, sym, ap, subst, ◌∙◌, arith, length, Some}
use Rattle.peano_keys.specs.declared.cell.CellKey.{CellKey}
use Rattle.peano_keys.specs.declared.vertex.VertexKey.{VertexKey}
use Rattle.peano_keys.specs.Dim.{corners}
use Rattle.peano_keys.specs.Vertex.{adjacent_of}
use Rattle.peano_keys.specs.Grid.{Spacetree}
use Rattle.peano_records.specs.declared.slot.Slot.{Slot}
use Rattle.peano_records.specs.Slots.{VertexRecord, slot_at}
use Rattle.curve_cuts.specs.Cuts.{Cuts, Owns, HasVertex, IsCutGrid}
use Rattle.step_phases.specs.Stores.{Store}
use Rattle.step_phases.specs.Sweeps.{IsSwept}
use Rattle.step_phases.proofs.Grids.{cell_round}
use Rattle.step_calls.specs.Calls.{Calls, CallChanges, AreMade, IsVisited, IsPassedOver, AreVisits}

-- what the enter and the leave of a cell do one after the other
pub record BothCalls (E : Bool → CellKey → Slot → Slot → Type 0) (c : CellKey) (old new : Slot) : Type 0 where
  pub mid : Slot
  pub entered : E false c old mid
  pub left : E true c mid new

module _ (k : Cuts) (g : Spacetree) (t : ℕ) (s : Calls) (E : Bool → CellKey → Slot → Slot → Type 0) (at : ℕ → Store) (made : AreMade k g t s E at) (v : VertexKey) (has : HasVertex k g t v) where
  -- what each call keeps of a record
  kept : {A : Type 0} (read : VertexRecord → A) → ((m : ℕ) → m < s.count → read (at (m + 1) v) ≡ read (at m v)) → (n : ℕ) → n ≤ s.count → read (at n v) ≡ read (at 0 v)
  kept read step zero h = refl
  kept read step (suc n) h =
      let e : suc n ≡ n + 1 = omega arith in
      ap (λ i. read (at i v)) e ∙ step n (omega (arith, h)) ∙ kept read step n (omega (arith, h))

  module _ (n : ℕ) (c : CellKey) (below : n < corners k.dim) (stands : adjacent_of k.dim v n ≡ Some c) where
    one : (m : ℕ) → m < s.count → CallChanges (s.cell m) (E (s.leaving m) (s.cell m)) c (slot_at (at m v) n) (slot_at (at (m + 1) v) n)
    one m h = (made.step m v h has).inside n c below stands

    -- between two moments without a call at the cell its slot stays
    quiet : (a d : ℕ) → a + d ≤ s.count → ((m : ℕ) → a ≤ m → m < a + d → s.cell m ≢ c) → slot_at (at (a + d) v) n ≡ slot_at (at a v) n
    quiet a zero h apart = let e : a + 0 ≡ a = omega arith in ap (λ i. slot_at (at i v) n) e
    quiet a (suc d) h apart =
        let e : a + suc d ≡ a + d + 1 = omega arith in
        ap (λ i. slot_at (at i v) n) e ∙ (one (a + d) (omega (arith, h))).away (apart (a + d) (omega arith) (omega arith)) ∙ quiet a d (omega (arith, h)) (λ m l u. apart m l (omega (arith, u)))

    -- in other words
    still : (a b : ℕ) → a ≤ b → b ≤ s.count → ((m : ℕ) → a ≤ m → m < b → s.cell m ≢ c) → slot_at (at b v) n ≡ slot_at (at a v) n
    still a b l h apart =
        let e : a + (b - a) ≡ b = omega (arith, l) in
        ap (λ i. slot_at (at i v) n) (sym e) ∙ quiet a (b - a) (omega (arith, e, h)) (λ m low high. apart m low (omega (arith, e, high)))

    over : IsPassedOver s c → slot_at (at s.count v) n ≡ slot_at (at 0 v) n
    over never = still 0 s.count (omega arith) (omega arith) (λ m l u. never m u)

    called : (m : ℕ) (b : Bool) → m < s.count → s.cell m ≡ c → s.leaving m ≡ b → E b c (slot_at (at m v) n) (slot_at (at (m + 1) v) n)
    called m b h here is =
        subst (λ (q : CellKey). E b q (slot_at (at m v) n) (slot_at (at (m + 1) v) n)) here
        (subst (λ x. E x (s.cell m) (slot_at (at m v) n) (slot_at (at (m + 1) v) n)) is ((one m h).here here))

    both : (enter leave : ℕ) → IsVisited s c enter leave → BothCalls E c (slot_at (at 0 v) n) (slot_at (at s.count v) n)
    both enter leave x =
        let before : slot_at (at enter v) n ≡ slot_at (at 0 v) n = still 0 enter (omega arith) (omega (arith, x.order, x.within)) (λ m l u. x.once m (omega (arith, u, x.order, x.within)) (λ e. absurd (omega (arith, e, u))) (λ e. absurd (omega (arith, e, u, x.order)))) in
        let between : slot_at (at leave v) n ≡ slot_at (at (enter + 1) v) n = still (enter + 1) leave (omega (arith, x.order)) (omega (arith, x.within)) (λ m l u. x.once m (omega (arith, u, x.within)) (λ e. absurd (omega (arith, e, l))) (λ e. absurd (omega (arith, e, u)))) in
        let after : slot_at (at s.count v) n ≡ slot_at (at (leave + 1) v) n = still (leave + 1) s.count (omega (arith, x.within)) (omega arith) (λ m l u. x.once m u (λ e. absurd (omega (arith, e, l, x.order))) (λ e. absurd (omega (arith, e, l)))) in
        record {
          mid = slot_at (at (enter + 1) v) n;
          entered = subst (λ o. E false c o (slot_at (at (enter + 1) v) n)) before (called enter false (omega (arith, x.order, x.within)) x.entered x.entering);
          left = subst (λ o. E true c o (slot_at (at s.count v) n)) between (subst (λ o. E true c (slot_at (at leave v) n) o) (sym after) (called leave true x.within x.left x.parting));
        }

-- a sweep whose calls do something at each cell that is visited, and which asks nothing of cells that the tree does not own
pub calls_make_sweep : (k : Cuts) (g : Spacetree) (t : ℕ) (s : Calls) (E : Bool → CellKey → Slot → Slot → Type 0) (F : CellKey → Slot → Slot → Type 0) (at : ℕ → Store) → IsCutGrid k g → AreVisits k g t s → AreMade k g t s E at → ((c : CellKey) (old new : Slot) → BothCalls E c old new → F c old new) → ((c : CellKey) (old new : Slot) → ¬ Owns k t c → new ≡ old → F c old new) → IsSwept k g t F (at 0) (at s.count)
calls_make_sweep k g t s E F at fits visits made visited passed = λ v has. record {
  key = kept k g t s E at made v has (λ r. r.key) (λ m h. (made.step m v h has).key) s.count (omega arith);
  size = kept k g t s E at made v has (λ r. length r.slots) (λ m h. (made.step m v h has).size) s.count (omega arith);
  inside = λ n c below stands. ⊎_elim
      (λ h. visited c (slot_at (at 0 v) n) (slot_at (at s.count v) n) (both k g t s E at made v has n c below stands h.enter h.leave h.visited))
      (λ never. passed c (slot_at (at 0 v) n) (slot_at (at s.count v) n) (λ owns. visits.owned c owns (cell_round k g t n v c fits has stands) never) (over k g t s E at made v has n c below stands never))
      (visits.each c);
  outside = λ n below stands. kept k g t s E at made v has (λ r. slot_at r n) (λ m h. (made.step m v h has).outside n below stands) s.count (omega arith);
  unused = λ n low high. kept k g t s E at made v has (λ r. slot_at r n) (λ m h. (made.step m v h has).unused n low high) s.count (omega arith);
}
