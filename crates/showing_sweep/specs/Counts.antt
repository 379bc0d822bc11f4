-- How many things of a kind there are.
use Rattle.std.specs.Prelude.{◌≡◌, ◌↔◌, ℕ, List, [], ◌∷◌, length}
use Rattle.stack_law.specs.Once.{IsIn}
use Rattle.vertex_stacks.specs.Tales.{capped}

-- nothing stands twice in a list
abbrev pub NoneTwice : {A : Type 0} → List A → Type 0
NoneTwice [] = Unit {0}
NoneTwice (x ∷ xs) = (¬ IsIn x xs) × NoneTwice xs

-- a list has each thing of a kind, once, and nothing else
pub record ListsAll {A : Type 0} (P : A → Type 0) (xs : List A) : Type 0 where
  pub once : NoneTwice xs
  pub members : (x : A) → IsIn x xs ↔ P x

-- there are so many things of a kind
pub record AreSoMany {A : Type 0} (P : A → Type 0) (n : ℕ) : Type 0 where
  pub things : List A
  pub lists : ListsAll P things
  pub count : length things ≡ n

-- a count tells how many there are; it stands at its last value once it is there
pub record Counts {A : Type 0} (P : A → Type 0) (n : ℕ) : Type 0 where
  pub many : ℕ
  pub are : AreSoMany P many
  pub told : n ≡ capped many
