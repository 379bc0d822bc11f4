-- The rule of the desk: seven sentences on its words, its slots and what the seats know, which hold between any two steps.
use Rattle.std.specs.Prelude.{◌≡◌, ◌↔◌, ◌⊎◌, ℕ, ◌+◌, ◌<◌, true, false, length, slice_index}
use mathlib.Core.Option.{some}
use lib.ListN.{get_elem?}
use Rattle.result_table.specs.declared.updates.Updates.{Ghosts}
use Rattle.result_table.specs.declared.view.View.{View}
use Rattle.result_table.specs.declared.view.Brief.{Brief}
use Rattle.result_table.specs.declared.word.Word.{Word}
use Rattle.result_table.specs.declared.word.Word.TheVariants.{Free, Taken, Published, Collected}
use Rattle.result_table.specs.Words.{code}
use Rattle.result_table.specs.Views.{DeskState, has, is_number, IsAtHome, IsResultAtHome}

module _ {S : Type 0} {g : Ghosts S} where
  -- the word of task k; the table has one word more before those of the tasks
  abbrev pub IsWord : DeskState S g → ℕ → Word → Type 0
  IsWord s k w = slice_index s.words (k + 1) ≡ code w

  -- what seat i knows
  abbrev pub IsView : DeskState S g → ℕ → View S → Type 0
  IsView s i v = get_elem? s.views i ≡ some v

  -- some seat has claimed k
  abbrev pub IsClaimed : DeskState S g → ℕ → Type 0
  IsClaimed s k = (i : ℕ) × (v : View S) × IsView s i v × (has v.claimed k ≡ true)

  -- some seat has published k
  abbrev pub IsPublished : DeskState S g → ℕ → Type 0
  IsPublished s k = (i : ℕ) × (v : View S) × IsView s i v × (has v.published k ≡ true)

  -- seat t has claimed k and not published it
  abbrev pub IsHeldBy : DeskState S g → ℕ → ℕ → Type 0
  IsHeldBy s k t = (v : View S) × IsView s t v × (has v.claimed k ≡ true)
      × (has v.published k ≡ false)

  -- the first seat has gathered k, or found it idle or busy
  abbrev pub IsCollected : DeskState S g → ℕ → Type 0
  IsCollected s k = (v : View S) × IsView s 0 v
      × ((has v.gathered k ≡ true) ⊎ ((has v.idle k ≡ true) ⊎ (has v.busy k ≡ true)))

  -- what holds of a desk at each moment
  pub record DeskRule (b : Brief S) (s : DeskState S g) : Type 0 where
    -- the table has one word more than tasks, which stays 0, and a first seat
    pub words : length s.words ≡ b.size + 1
    pub extra : slice_index s.words 0 ≡ 0
    pub some_seat : 0 < length s.views
    -- 1. numbers of seats differ, and are below the number that the first seat knows to have been made; each view's solver is the desk's
    pub numbers : (i : ℕ) (v : View S) → IsView s i v → v.number ≡ i
    pub made : (w : View S) → IsView s 0 w → w.made ≡ length s.views
    pub below : (i : ℕ) (v w : View S) → IsView s i v → IsView s 0 w → v.number < w.made
    pub solver : (i : ℕ) (v : View S) → IsView s i v → v.solver ≡ b.solver.value
    -- 2. a word is Free exactly where no view has claimed the task and it is not collected; its slot is at home then
    pub free : (k : ℕ) → k < b.size → (IsWord s k Free ↔ (¬ IsClaimed s k × ¬ IsCollected s k))
    pub free_slot : (k : ℕ) → k < b.size → IsWord s k Free → IsAtHome s.homes k
    -- 3. it is Taken by a seat exactly where that seat's view has claimed and not published the task, and it is not collected; at most one view has claimed it
    pub taken : (k t : ℕ) → k < b.size
        → (IsWord s k (Taken t) ↔ (IsHeldBy s k t × ¬ IsCollected s k))
    pub one_claim : (k i j : ℕ) (v w : View S) → k < b.size → IsView s i v → IsView s j w
        → has v.claimed k ≡ true → has w.claimed k ≡ true → i ≡ j
    -- 4. it is Published exactly where some view has published the task and it is not collected; the slot has its result then. A view has published only what it claimed
    pub published : (k : ℕ) → k < b.size
        → (IsWord s k Published ↔ (IsPublished s k × ¬ IsCollected s k))
    pub claimed_first : (k i : ℕ) (v : View S) → k < b.size → IsView s i v
        → has v.published k ≡ true → has v.claimed k ≡ true
    pub result : (k : ℕ) → k < b.size → IsWord s k Published
        → IsResultAtHome b.solver.value s.homes k
    -- 5. it is Collected exactly where the task is collected
    pub collected : (k : ℕ) → k < b.size → (IsWord s k Collected ↔ IsCollected s k)
    -- 6. a gathered task was published by some view; an idle one was claimed by none; a busy one was claimed by some and published by none
    pub gathered : (k : ℕ) (v : View S) → k < b.size → IsView s 0 v → has v.gathered k ≡ true
        → IsPublished s k
    pub idle : (k : ℕ) (v : View S) → k < b.size → IsView s 0 v → has v.idle k ≡ true
        → ¬ IsClaimed s k
    pub busy : (k : ℕ) (v : View S) → k < b.size → IsView s 0 v → has v.busy k ≡ true
        → IsClaimed s k × ¬ IsPublished s k
    -- 7. where a view has lost a task its word is not Free; where a view found it late, it claimed it, and it is busy
    pub lost : (k i : ℕ) (v : View S) → k < b.size → IsView s i v → has v.lost k ≡ true
        → ¬ IsWord s k Free
    pub late : (k i : ℕ) (v w : View S) → k < b.size → IsView s i v → IsView s 0 w
        → has v.late k ≡ true → (has v.claimed k ≡ true) × (has w.busy k ≡ true)
    -- inside a publication: a seat fills the slot of a task that it claimed and has neither published nor found late. The slot of such a task is at home until then
    pub filling : (k i : ℕ) (v : View S) → k < b.size → IsView s i v → is_number v.filling k ≡ true
        → (has v.claimed k ≡ true) × (has v.published k ≡ false) × (has v.late k ≡ false)
    pub home : (k i : ℕ) (v : View S) → k < b.size → IsView s i v → has v.claimed k ≡ true
        → has v.published k ≡ false → has v.late k ≡ false → is_number v.filling k ≡ false
        → IsAtHome s.homes k
