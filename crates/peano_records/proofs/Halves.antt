-- Columns: one slot of four changes, and what that does to the record.
use Rattle.std.proofs.Common.{◌≡◌, ℕ, zero, suc, ◌+◌, ◌-◌, ◌<◌, ◌≤◌, subst, List, [], ◌∷◌, ◌++◌, length, set, refl, arith, Bool, true, false, sym, ◌∙◌, ap}
use Rattle.std.proofs.lemmas.Bool.{false≢true}
use Rattle.std.proofs.lemmas.List.{set-append_left}
use Rattle.peano_records.specs.declared.slot.Slot.{Slot}
use Rattle.peano_records.specs.declared.columns.SmallParts.{SmallParts}
use Rattle.peano_records.specs.declared.columns.Firsts.{Firsts}
use Rattle.peano_records.specs.declared.columns.Rests.{Rests}
use Rattle.peano_records.specs.declared.columns.FourSlots.{FourSlots}
use Rattle.peano_records.specs.declared.columns.Near.{Near}
use Rattle.peano_records.specs.declared.columns.More.{More}
use Rattle.peano_records.specs.declared.slot.Status.TheVariants.{Unset}
use Rattle.peano_records.specs.Columns.{slot_by, IsNarrow, one_of, four_of, far_of, record_of}
use Rattle.peano_records.specs.Slots.{slot_at, with_slot, blank}

-- one of four slots changes
set_by_cases : (wide : Bool) (p0 p1 p2 p3 p : SmallParts) (f0 f1 f2 f3 f : Firsts) (r0 r1 r2 r3 r : Rests) (k : ℕ) → k < 4 → four_of wide (record { firsts = set (f0 ∷ f1 ∷ f2 ∷ f3 ∷ []) k f; parts = set (p0 ∷ p1 ∷ p2 ∷ p3 ∷ []) k p }) (set (r0 ∷ r1 ∷ r2 ∷ r3 ∷ []) k r) ≡ set (four_of wide (record { firsts = f0 ∷ f1 ∷ f2 ∷ f3 ∷ []; parts = p0 ∷ p1 ∷ p2 ∷ p3 ∷ [] }) (r0 ∷ r1 ∷ r2 ∷ r3 ∷ [])) k (slot_by wide p f r)
set_by_cases wide p0 p1 p2 p3 p f0 f1 f2 f3 f r0 r1 r2 r3 r zero h = refl
set_by_cases wide p0 p1 p2 p3 p f0 f1 f2 f3 f r0 r1 r2 r3 r (suc zero) h = refl
set_by_cases wide p0 p1 p2 p3 p f0 f1 f2 f3 f r0 r1 r2 r3 r (suc (suc zero)) h = refl
set_by_cases wide p0 p1 p2 p3 p f0 f1 f2 f3 f r0 r1 r2 r3 r (suc (suc (suc zero))) h = refl
set_by_cases wide p0 p1 p2 p3 p f0 f1 f2 f3 f r0 r1 r2 r3 r (suc (suc (suc (suc k)))) h = absurd (omega (arith, h))

pub set_of_four : (wide : Bool) (parts : List SmallParts) (firsts : List Firsts) (rests : List Rests) (k : ℕ) (p : SmallParts) (f : Firsts) (r : Rests) → length parts ≡ 4 → length firsts ≡ 4 → length rests ≡ 4 → k < 4 → four_of wide (record { firsts = set firsts k f; parts = set parts k p }) (set rests k r) ≡ set (four_of wide (record { firsts = firsts; parts = parts }) rests) k (slot_by wide p f r)
set_of_four wide (p0 ∷ p1 ∷ p2 ∷ p3 ∷ []) (f0 ∷ f1 ∷ f2 ∷ f3 ∷ []) (r0 ∷ r1 ∷ r2 ∷ r3 ∷ []) k p f r hp hf hr h = set_by_cases wide p0 p1 p2 p3 p f0 f1 f2 f3 f r0 r1 r2 r3 r k h
set_of_four wide _ _ _ k p f r hp hf hr h = absurd (omega arith)

-- a slot of one value a state is the same without the rest
pub narrow_slot : (p : SmallParts) (f : Firsts) (r : Rests) → IsNarrow p → slot_by false p f r ≡ slot_by true p f r
narrow_slot p f r n = rw (n.0, n.1) refl

-- a change of one value a state leaves the rest as it is
pub set_narrow : (wide : Bool) (parts : List SmallParts) (firsts : List Firsts) (rests : List Rests) (k : ℕ) (p : SmallParts) (f : Firsts) (r : Rests) → length parts ≡ 4 → length firsts ≡ 4 → length rests ≡ 4 → k < 4 → wide ≡ false → IsNarrow p → four_of wide (record { firsts = set firsts k f; parts = set parts k p }) rests ≡ set (four_of wide (record { firsts = firsts; parts = parts }) rests) k (slot_by true p f r)
set_narrow true parts firsts rests k p f r hp hf hr h e n = absurd (false≢true (sym e))
set_narrow false parts firsts rests k p f r hp hf hr h e n = set_of_four false parts firsts rests k p f r hp hf hr h ∙ ap (λ s. set (four_of false (record { firsts = firsts; parts = parts }) rests) k s) (narrow_slot p f r n)

-- a record that gets the rest of its states, all of one value
pub widened : (near : Near) (four far new_far : FourSlots) (more : More) → near.has_more ≡ false → ((wide : Bool) (rests : List Rests) → four_of wide four rests ≡ four_of false near.slots rests) → ((wide : Bool) (rests : List Rests) → four_of wide new_far rests ≡ four_of false far rests) → record_of (record { key = near.key; slots = four; has_far = near.has_far; has_more = true }) new_far more ≡ record_of near far more
widened near four far new_far more e same same_far = rw e (ap (λ l. record { key = near.key; slots = l ++ far_of near.has_far true new_far more.far }) (same true more.near) ∙ ap (λ l. record { key = near.key; slots = four_of false near.slots more.near ++ l }) (others near.has_far))
  where
    others : (b : Bool) → far_of b true new_far more.far ≡ far_of b false far more.far
    others true = same_far true more.far
    others false = refl

-- slot `n` of a record, of the first four or of the others
pub near_at : (near : Near) (far : FourSlots) (more : More) (n : ℕ) → n < 4 → one_of near.has_more near.slots more.near n ≡ slot_at (record_of near far more) n
near_at near far more zero h = refl
near_at near far more (suc zero) h = refl
near_at near far more (suc (suc zero)) h = refl
near_at near far more (suc (suc (suc zero))) h = refl
near_at near far more (suc (suc (suc (suc n)))) h = absurd (omega (arith, h))

far_there : (near : Near) (far : FourSlots) (more : More) (k : ℕ) → near.has_far ≡ true → k < 4 → one_of near.has_more far more.far k ≡ slot_at (record_of near far more) (4 + k)
far_there near far more zero e h = rw e refl
far_there near far more (suc zero) e h = rw e refl
far_there near far more (suc (suc zero)) e h = rw e refl
far_there near far more (suc (suc (suc zero))) e h = rw e refl
far_there near far more (suc (suc (suc (suc k)))) e h = absurd (omega (arith, h))

pub far_at : (near : Near) (far : FourSlots) (more : More) (k n : ℕ) → near.has_far ≡ true → k < 4 → 4 + k ≡ n → one_of near.has_more far more.far k ≡ slot_at (record_of near far more) n
far_at near far more k n e h same = rw (← same) (far_there near far more k e h)

-- one of the first four slots of a record changes, or one of the others
pub near_set : (near : Near) (four : FourSlots) (far : FourSlots) (more : More) (rests : List Rests) (n : ℕ) (s : Slot) → n < 4 → four_of near.has_more four rests ≡ set (four_of near.has_more near.slots more.near) n s → record_of (record { key = near.key; slots = four; has_far = near.has_far; has_more = near.has_more }) far (record { near = rests; far = more.far }) ≡ with_slot (record_of near far more) n s
near_set near four far more rests n s h changed =
    let old = four_of near.has_more near.slots more.near in
    let others = far_of near.has_far near.has_more far more.far in
    ap (λ l. record { key = near.key; slots = l ++ others }) changed ∙ ap (λ l. record { key = near.key; slots = l }) (sym (set-append_left old others n s h))

set_after_four : {A : Type 0} (a b c d : A) (ys : List A) (k : ℕ) (s : A) → set (a ∷ b ∷ c ∷ d ∷ ys) (4 + k) s ≡ a ∷ b ∷ c ∷ d ∷ set ys k s
set_after_four a b c d ys k s = let past : 4 + k ≡ suc (suc (suc (suc k))) = omega arith in rw past refl

pub far_set : (near : Near) (four : FourSlots) (far : FourSlots) (more : More) (rests : List Rests) (k : ℕ) (s : Slot) → near.has_far ≡ true → four_of near.has_more four rests ≡ set (four_of near.has_more far more.far) k s → record_of near four (record { near = more.near; far = rests }) ≡ with_slot (record_of near far more) (4 + k) s
far_set near four far more rests k s has changed =
    let first : List Slot → List Slot = λ l. four_of near.has_more near.slots more.near ++ l in
    let one = λ (i : ℕ). one_of near.has_more near.slots more.near i in
    rw (has) (ap (λ l. record { key = near.key; slots = first l }) changed ∙ ap (λ l. record { key = near.key; slots = l }) (sym (set_after_four (one 0) (one 1) (one 2) (one 3) (four_of near.has_more far more.far) k s)))

-- a record has eight slots
pub eight_slots : (near : Near) (far : FourSlots) (more : More) → length (record_of near far more).slots ≡ 8
eight_slots near far more = eight near.has_far
  where
    eight : (b : Bool) → length (four_of near.has_more near.slots more.near ++ far_of b near.has_more far more.far) ≡ 8
    eight true = refl
    eight false = refl

-- where a record has not slots 4 to 7, they are blank
pub far_blank : (near : Near) (far : FourSlots) (more : More) (n : ℕ) → near.has_far ≡ false → 4 ≤ n → n < 8 → slot_at (record_of near far more) n ≡ blank Unset
far_blank near far more n e least most = let k : 4 + (n - 4) ≡ n = omega (arith, least) in subst (λ i. slot_at (record_of near far more) i ≡ blank Unset) k (by (n - 4) (omega (arith, most)))
  where
    by : (k : ℕ) → k < 4 → slot_at (record_of near far more) (4 + k) ≡ blank Unset
    by zero h = rw e refl
    by (suc zero) h = rw e refl
    by (suc (suc zero)) h = rw e refl
    by (suc (suc (suc zero))) h = rw e refl
    by (suc (suc (suc (suc k)))) h = absurd (omega (arith, h))
