-- The word of a task, and how each event moves it.
use Rattle.std.specs.Prelude.{◌≡◌, ℕ, ◌+◌, ◌≤◌, ◌==◌, Option, Some, None, if◌then◌else◌}
use Rattle.result_table.specs.declared.word.Word.{Word}
use Rattle.result_table.specs.declared.word.Word.TheVariants.{Free, Taken, Published, Collected}

-- an actor takes a task: its word was Free
abbrev pub taken : ℕ → Word → Option Word
taken actor Free = Some (Taken actor)
taken actor (Taken s) = None
taken actor Published = None
taken actor Collected = None

-- an actor publishes a result: the word was Taken by it
abbrev pub published : ℕ → Word → Option Word
published actor Free = None
published actor (Taken s) = if s == actor then Some Published else None
published actor Published = None
published actor Collected = None

-- a task is collected: the word was anything else than Collected
abbrev pub collected : Word → Option Word
collected Free = Some Collected
collected (Taken s) = Some Collected
collected Published = Some Collected
collected Collected = None

-- an event that is not legal is skipped
abbrev pub after : Word → Option Word → Word
after w None = w
after w (Some u) = u

-- the place of a word in the list Free, Taken, Published, Collected
abbrev pub place_of : Word → ℕ
place_of Free = 0
place_of (Taken s) = 1
place_of Published = 2
place_of Collected = 3

-- the number that stands for a word in a desk
abbrev pub code : Word → ℕ
code Free = 0
code Published = 1
code Collected = 2
code (Taken s) = s + 3

-- what a compare and exchange leaves of a number
abbrev pub exchanged : ℕ → ℕ → ℕ → ℕ
exchanged found old new = if found == old then new else found

-- a claim's compare and exchange from Free moves a word as taking does
abbrev pub ClaimIsTake : Type 0
ClaimIsTake = (seat : ℕ) (w : Word)
    → exchanged (code w) (code Free) (code (Taken seat)) ≡ code (after w (taken seat w))

-- a publication's compare and exchange from Taken moves a word as publishing does
abbrev pub PublicationIsPublish : Type 0
PublicationIsPublish = (seat : ℕ) (w : Word)
    → exchanged (code w) (code (Taken seat)) (code Published) ≡ code (after w (published seat w))

-- a collection's exchange by Collected moves a word as collecting does
abbrev pub CollectionIsCollect : Type 0
CollectionIsCollect = (w : Word) → code Collected ≡ code (after w (collected w))

-- no event moves a word back
pub record MovesForward (w : Word) : Type 0 where
  pub take : (actor : ℕ) → place_of w ≤ place_of (after w (taken actor w))
  pub publish : (actor : ℕ) → place_of w ≤ place_of (after w (published actor w))
  pub collect : place_of w ≤ place_of (after w (collected w))
