-- Stops that are left, and the leaves of tasks by number.
use Rattle.std.proofs.Common.{◌≡◌, ℕ, zero, suc, ◌+◌, ◌<◌, List, [], ◌∷◌, ◌++◌, length, set, refl, sym, ap, ◌∙◌, arith, append_assoc, Option, Some, None}
use Rattle.std.proofs.lemmas.List.{append-nil, length_push}
use Rattle.std.specs.Prelude.{slice_get}
use Rattle.peano_keys.specs.declared.cell.CellKey.{CellKey}
use Rattle.result_table.specs.declared.word.Word.{Word}
use Rattle.task_core.specs.declared.stop.Offered.{Offered}
use Rattle.task_core.proofs.Lists.{none_is, some_is}

module _ {X : Type 0} where
  -- what stands after the first items of a list
  pub get_after : (xs : List X) (y : X) (ys : List X) → slice_get (xs ++ y ∷ ys) (length xs) ≡ Some y
  get_after [] y ys = refl
  get_after (x ∷ xs) y ys = get_after xs y ys

  -- what stands at a place of a list that is long enough
  pub there : (xs : List X) (i : ℕ) → i < length xs → (x : X) × (slice_get xs i ≡ Some x)
  there [] i h = absurd (omega arith)
  there (x ∷ xs) zero h = (x, refl)
  there (x ∷ xs) (suc i) h = there xs i (omega arith)

  -- items of a list that are left after so many
  pub record Left (xs : List X) (n : ℕ) (rest : List X) : Type 0 where
    pub done : List X
    pub whole : xs ≡ done ++ rest
    pub number : n ≡ length done

  pub left_all : (xs : List X) (n : ℕ) → n ≡ 0 → Left xs n xs
  left_all xs n e = record { done = []; whole = refl; number = e }

  pub left_next : (xs : List X) (n : ℕ) (x : X) (rest : List X) → Left xs n (x ∷ rest) → slice_get xs n ≡ Some x
  left_next xs n x rest l = ap (slice_get xs) l.number ∙ ap (λ ys. slice_get ys (length l.done)) l.whole ∙ get_after l.done x rest

  pub left_on : (xs : List X) (n : ℕ) (x : X) (rest : List X) → Left xs n (x ∷ rest) → Left xs (n + 1) rest
  left_on xs n x rest l = record { done = l.done ++ x ∷ []; whole = l.whole ∙ sym (append_assoc l.done (x ∷ []) rest); number = ap (λ q. q + 1) l.number ∙ sym (length_push l.done x) }

  pub left_end : (xs : List X) (n : ℕ) → Left xs n [] → n ≡ length xs
  left_end xs n l = l.number ∙ ap length (sym (append-nil l.done)) ∙ ap length (sym l.whole)

-- the leaves of tasks
abbrev pub keys : List Offered → List CellKey
keys [] = []
keys (o ∷ os) = o.leaf.key ∷ keys os

-- at most one leaf as a list
abbrev pub listed : Option CellKey → List CellKey
listed None = []
listed (Some c) = c ∷ []

pub keys_length : (os : List Offered) → length (keys os) ≡ length os
keys_length [] = refl
keys_length (o ∷ os) = ap suc (keys_length os)

pub keys_push : (os : List Offered) (o : Offered) → keys (os ++ o ∷ []) ≡ keys os ++ o.leaf.key ∷ []
keys_push [] o = refl
keys_push (p ∷ os) o = ap (λ cs. p.leaf.key ∷ cs) (keys_push os o)

pub keys_set : (os : List Offered) (j : ℕ) (o : Offered) (w : Word) → slice_get os j ≡ Some o → keys (set os j (record { leaf = o.leaf; word = w })) ≡ keys os
keys_set [] j o w e = refl
keys_set (p ∷ os) zero o w e = ap (λ (q : Offered). q.leaf.key ∷ keys os) (sym (some_is p o e))
keys_set (p ∷ os) (suc j) o w e = ap (λ cs. p.leaf.key ∷ cs) (keys_set os j o w e)

-- a task of a number is of this leaf
pub record TaskOf (os : List Offered) (n : ℕ) (c : CellKey) : Type 0 where
  pub task : Offered
  pub there : slice_get os n ≡ Some task
  pub leaf : task.leaf.key ≡ c

pub task_at : (os : List Offered) (n : ℕ) (c : CellKey) → slice_get (keys os) n ≡ Some c → TaskOf os n c
task_at [] n c e = absurd (none_is c e)
task_at (o ∷ os) zero c e = record { task = o; there = refl; leaf = some_is o.leaf.key c e }
task_at (o ∷ os) (suc n) c e = let rest = task_at os n c e in record { task = rest.task; there = rest.there; leaf = rest.leaf }

-- so where its leaf stands after so many others
pub task_after : (os : List Offered) (n : ℕ) (before : List CellKey) (c : CellKey) (after : List CellKey) → keys os ≡ before ++ c ∷ after → n ≡ length before → TaskOf os n c
task_after os n before c after is number = task_at os n c (ap (slice_get (keys os)) number ∙ ap (λ cs. slice_get cs (length before)) is ∙ get_after before c after)
