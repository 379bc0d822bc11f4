-- A desk beside a core: each step on a word of the desk is an event of the core.
use Rattle.std.specs.Prelude.{◌≡◌, ◌≢◌, ℕ, ◌+◌, ◌<◌, ◌==◌, Bool, not, List, length, slice_index, slice_set, Option, Some, None, IsSome, is_some}
use Rattle.solver_api.specs.Step.{UpdateRule}
use Rattle.result_table.specs.declared.word.Word.{Word}
use Rattle.result_table.specs.declared.word.Word.TheVariants.{Free, Taken, Published, Collected}
use Rattle.result_table.specs.Words.{code, exchanged}
use Rattle.task_core.specs.declared.event.Event.{Event}
use Rattle.task_core.specs.declared.event.Event.TheVariants.{Take, Publish, Collect}
use Rattle.task_core.specs.declared.event.Sweep.TheVariants.{Second, Over}
use Rattle.task_core.specs.Core.{Core, stepped, or_skipped}
use Rattle.task_core.specs.Replies.{word_at}

-- a word, or Free where there is none
abbrev pub or_free : Option Word → Word
or_free None = Free
or_free (Some w) = w

-- the words of a desk are those of a tree's tasks; a task that the tree has not added is Free
abbrev pub SharesWords : Core → ℕ → List ℕ → Type 0
SharesWords c i words = (k : ℕ) → k + 1 < length words
    → slice_index words (k + 1) ≡ code (or_free (word_at c i k))

-- a task that the tree has added, beside a desk that shares its words
pub record HasTask (c : Core) (i k : ℕ) (words : List ℕ) : Type 0 where
  pub added : IsSome (word_at c i k)
  pub within : k + 1 < length words
  pub shared : SharesWords c i words

-- a step of the desk is an event: it succeeds exactly where the event is legal, and the desk shares the words of the core after the event
pub record IsEvent (updated : UpdateRule) (c : Core) (i : ℕ) (e : Event) (won : Bool)
    (words : List ℕ) : Type 0 where
  pub legal : won ≡ is_some (stepped updated c e)
  pub shared : SharesWords (or_skipped updated c (stepped updated c e)) i words

-- the words after a compare and exchange of that of task k
abbrev pub exchanged_at : List ℕ → ℕ → ℕ → ℕ → List ℕ
exchanged_at words k old new =
    slice_set words (k + 1) (exchanged (slice_index words (k + 1)) old new)

-- until the step is over, the compare and exchange of a claim is Take
abbrev pub ClaimsAreTakes : Type 0
ClaimsAreTakes = (updated : UpdateRule) (c : Core) (i k seat : ℕ) (words : List ℕ)
    → HasTask c i k words → c.sweep ≢ Over
    → IsEvent updated c i (Take seat i k) (slice_index words (k + 1) == code Free)
    (exchanged_at words k (code Free) (code (Taken seat)))

-- and that of a publication is Publish
abbrev pub PublicationsArePublish : Type 0
PublicationsArePublish = (updated : UpdateRule) (c : Core) (i k seat : ℕ) (words : List ℕ)
    → HasTask c i k words → c.sweep ≢ Over
    → IsEvent updated c i (Publish seat i k) (slice_index words (k + 1) == code (Taken seat))
    (exchanged_at words k (code (Taken seat)) (code Published))

-- in the second sweep the exchange of a collection is Collect; it is legal once
abbrev pub CollectionsAreCollect : Type 0
CollectionsAreCollect = (updated : UpdateRule) (c : Core) (i k : ℕ) (words : List ℕ)
    → HasTask c i k words → c.sweep ≡ Second
    → IsEvent updated c i (Collect i k) (not (slice_index words (k + 1) == code Collected))
    (slice_set words (k + 1) (code Collected))
