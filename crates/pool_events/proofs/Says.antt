-- The word of a task is told by what seats know of it: where they know the same, the word is the same.
use Rattle.std.proofs.Common.{◌≡◌, ℕ, ◌+◌, ◌<◌, sym, refl, ◌∙◌, ⊎_elim, inl, inr}
use Rattle.std.specs.Prelude.{slice_index}
use Rattle.result_table.specs.declared.updates.Updates.{Ghosts}
use Rattle.result_table.specs.declared.view.View.{View}
use Rattle.result_table.specs.declared.view.Brief.{Brief}
use Rattle.result_table.specs.declared.word.Word.{Word}
use Rattle.result_table.specs.declared.word.Word.TheVariants.{Free, Taken, Published, Collected}
use Rattle.result_table.specs.Views.{DeskState, has}
use Rattle.result_table.specs.Rule.{DeskRule, IsWord, IsView, IsClaimed, IsPublished, IsHeldBy, IsCollected}
use Rattle.result_table.proofs.Fates.{word_of}
use Rattle.result_table.proofs.Back.{fates_from}

module _ {S : Type 0} where
  -- two views say the same of a task
  pub record SayAlike (v w : View S) (k : ℕ) : Type 0 where
    pub claimed : has v.claimed k ≡ has w.claimed k
    pub published : has v.published k ≡ has w.published k
    pub gathered : has v.gathered k ≡ has w.gathered k
    pub idle : has v.idle k ≡ has w.idle k
    pub busy : has v.busy k ≡ has w.busy k

  pub alike : (v : View S) (k : ℕ) → SayAlike v v k
  alike v k = record { claimed = refl; published = refl; gathered = refl; idle = refl; busy = refl }

  pub turned : (v w : View S) (k : ℕ) → SayAlike v w k → SayAlike w v k
  turned v w k a = record { claimed = sym a.claimed; published = sym a.published; gathered = sym a.gathered; idle = sym a.idle; busy = sym a.busy }

module _ {S : Type 0} {g : Ghosts S} where
  -- what each seat says of a task in one state, it says in the other
  abbrev pub SaysOn : ℕ → DeskState S g → DeskState S g → Type 0
  SaysOn k m n = (i : ℕ) (v : View S) → IsView m i v → (w : View S) × IsView n i w × SayAlike v w k

  module _ (k : ℕ) (m n : DeskState S g) (on : SaysOn k m n) where
    claimed_on : IsClaimed m k → IsClaimed n k
    claimed_on c = let o = on c.0 c.1 c.2 in (c.0, o.0, o.1, sym o.2.claimed ∙ c.3)

    published_on : IsPublished m k → IsPublished n k
    published_on c = let o = on c.0 c.1 c.2 in (c.0, o.0, o.1, sym o.2.published ∙ c.3)

    held_on : (t : ℕ) → IsHeldBy m k t → IsHeldBy n k t
    held_on t c = let o = on t c.0 c.1 in (o.0, o.1, sym o.2.claimed ∙ c.2, sym o.2.published ∙ c.3)

    pub collected_on : IsCollected m k → IsCollected n k
    collected_on c = let o = on 0 c.0 c.1 in (
      o.0,
      o.1,
      ⊎_elim (λ e. inl (sym o.2.gathered ∙ e)) (λ h. ⊎_elim (λ e. inr (inl (sym o.2.idle ∙ e))) (λ e. inr (inr (sym o.2.busy ∙ e))) h) c.2,
    )

  -- each task has a word
  pub word_there : (b : Brief S) (s : DeskState S g) → DeskRule b s → (k : ℕ) → k < b.size → (w : Word) × IsWord s k w
  word_there b s rule k below = let h = fates_from b s rule in (word_of (h.0 k), (h.1.tasks k below).word)

  module _ (b : Brief S) (m n : DeskState S g) (before : DeskRule b m) (after : DeskRule b n) (k : ℕ) (below : k < b.size) (on : SaysOn k m n) (back : SaysOn k n m) where
    pub word_on : (w : Word) → IsWord m k w → IsWord n k w
    word_on Free e = let h = (before.free k below).0 e in (after.free k below).1 ((λ c. h.0 (claimed_on k n m back c)), (λ c. h.1 (collected_on k n m back c)))
    word_on (Taken t) e = let h = (before.taken k t below).0 e in (after.taken k t below).1 (held_on k m n on t h.0, (λ c. h.1 (collected_on k n m back c)))
    word_on Published e = let h = (before.published k below).0 e in (after.published k below).1 (published_on k m n on h.0, (λ c. h.1 (collected_on k n m back c)))
    word_on Collected e = (after.collected k below).1 (collected_on k m n on ((before.collected k below).0 e))

    pub word_same : slice_index n.words (k + 1) ≡ slice_index m.words (k + 1)
    word_same = let w = word_there b m before k below in word_on w.0 w.1 ∙ sym w.1
