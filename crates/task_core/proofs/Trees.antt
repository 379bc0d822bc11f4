-- Trees changed in a place: what is served stays served, and what is written back unchanged stays.
use Rattle.std.proofs.Common.{◌≡◌, ℕ, zero, suc, ◌+◌, ◌<◌, ◌≤◌, List, [], ◌∷◌, ◌++◌, length, map, set, get_or, refl, sym, ap, subst, ◌∙◌, arith, Option, Some, None, IsSome, IfSome}
use Rattle.std.proofs.lemmas.Bool.{false≢true}
use Rattle.std.proofs.lemmas.Option.{slice_get-get_or, slice_get_within, get_or_from_slice_get}
use Rattle.std.specs.Prelude.{slice_get, is_some}
use Rattle.task_core.specs.declared.stop.Leaf.{Leaf}
use Rattle.task_core.specs.declared.stop.Offered.{Offered}
use Rattle.task_core.specs.declared.stop.Stop.{Stop}
use Rattle.task_core.specs.declared.event.Sweep.{Sweep}
use Rattle.task_core.specs.declared.event.Sweep.TheVariants.{First, Second, Over}
use Rattle.task_core.specs.Core.{Tree, stops, rewound}
use Rattle.task_core.specs.Opening.{Each}
use Rattle.task_core.specs.Work.{IsServed, IsServedStop, IsServedTask, IsServedTree, AreServed, next_in, task_in, passed, offering, with_task, changed_at}
use Rattle.task_core.proofs.Lists.{none_is, some_is, each_set, each_append, each_map}

-- what is found at a place of a list stands there
pub some_at : {X : Type 0} (o : Option X) → IsSome o → (x : X) × (o ≡ Some x)
some_at None h = absurd (false≢true h)
some_at (Some x) h = (x, refl)

-- a tree of which something is known is there
pub next_there : (s : Sweep) (o : Option Tree) → IsSome (next_in s o) → (t : Tree) × (o ≡ Some t)
next_there s None h = absurd (false≢true h)
next_there s (Some t) h = (t, refl)

pub task_there : (o : Option Tree) (k : ℕ) → IsSome (task_in o k) → (t : Tree) × (o ≡ Some t)
task_there None k h = absurd (false≢true h)
task_there (Some t) k h = (t, refl)

-- a change of the tree that stands in a place
pub changed_there : (f : Tree → Tree) (ts : List Tree) (i : ℕ) (t u : Tree) → slice_get ts i ≡ Some t → u ≡ f t → set ts i u ≡ changed_at f ts i (slice_get ts i)
changed_there f ts i t u at is = ap (set ts i) is ∙ sym (ap (changed_at f ts i) at)

module _ {X : Type 0} where
  -- a list with what stands there written in a place
  pub set_same : (xs : List X) (i : ℕ) (x : X) → slice_get xs i ≡ Some x → set xs i x ≡ xs
  set_same [] i x e = refl
  set_same (y ∷ xs) zero x e = ap (λ z. z ∷ xs) (sym (some_is y x e))
  set_same (y ∷ xs) (suc i) x e = ap (λ zs. y ∷ zs) (set_same xs i x e)

-- tasks do not change the visits
pub stops_stay : (s : Sweep) (t : Tree) (ts : List Offered) → stops s (record t { tasks = ts }) ≡ stops s t
stops_stay First t ts = refl
stops_stay Second t ts = refl
stops_stay Over t ts = refl

module _ (n : ℕ) where
  -- the next visit of a served tree is served
  pub next_served : (s : Sweep) (ts : List Tree) (i : ℕ) (t : Tree) (o : Option Stop) → AreServed n ts → slice_get ts i ≡ Some t → o ≡ slice_get (stops s t) t.made → IfSome o (IsServedStop n)
  next_served s ts i t o all at is = by_stop s o (all i t at) is
    where
      each : (xs : List Stop) (o : Option Stop) → Each (IsServedStop n) xs → o ≡ slice_get xs t.made → IfSome o (IsServedStop n)
      each xs None h e = tt
      each xs (Some x) h e = h t.made x (sym e)

      by_stop : (s : Sweep) (o : Option Stop) → IsServedTree n t → o ≡ slice_get (stops s t) t.made → IfSome o (IsServedStop n)
      by_stop First o h e = each t.first o h.first e
      by_stop Second o h e = each t.second o h.second e
      by_stop Over o h e = each [] o (λ j x at. absurd (none_is x at)) e

  -- and so is its task
  pub task_served : (ts : List Tree) (i k : ℕ) (t : Tree) (o : Option Offered) → AreServed n ts → slice_get ts i ≡ Some t → o ≡ slice_get t.tasks k → IfSome o (IsServedTask n)
  task_served ts i k t None all at is = tt
  task_served ts i k t (Some x) all at is = (all i t at).tasks k x (sym is)

  tree_passed : (t : Tree) → IsServedTree n t → IsServedTree n (passed t)
  tree_passed t h = record { first = h.first; second = h.second; tasks = h.tasks }

  -- trees stay served
  pub pass_served : (ts : List Tree) (i : ℕ) (t : Tree) → AreServed n ts → slice_get ts i ≡ Some t → AreServed n (set ts i (passed t))
  pass_served ts i t all at = each_set (IsServedTree n) ts i (passed t) all (tree_passed t (all i t at))

  pub offer_served : (ts : List Tree) (i : ℕ) (t : Tree) (l : Leaf) → AreServed n ts → IsServed n l → slice_get ts i ≡ Some t → AreServed n (set ts i (passed (offering l t)))
  offer_served ts i t l all leaf at = let h = all i t at in each_set (IsServedTree n) ts i (passed (offering l t)) all (record { first = h.first; second = h.second; tasks = each_append (IsServedTask n) t.tasks _ h.tasks leaf })

  pub replace_served : (ts : List Tree) (i k : ℕ) (t : Tree) (o : Offered) → AreServed n ts → IsServedTask n o → slice_get ts i ≡ Some t → AreServed n (set ts i (with_task k o t))
  replace_served ts i k t o all leaf at = let h = all i t at in each_set (IsServedTree n) ts i (with_task k o t) all (record { first = h.first; second = h.second; tasks = each_set (IsServedTask n) t.tasks k o h.tasks leaf })

  pub rewind_served : (ts : List Tree) → AreServed n ts → AreServed n (map rewound ts)
  rewind_served ts all = each_map (IsServedTree n) rewound ts (λ i t at. let h = all i t at in record { first = h.first; second = h.second; tasks = h.tasks })

-- the first trees rewound, and the others as they were
abbrev pub rewound_below : ℕ → List Tree → List Tree
rewound_below zero ts = ts
rewound_below (suc n) [] = []
rewound_below (suc n) (t ∷ ts) = rewound t ∷ rewound_below n ts

pub rewound_length : (n : ℕ) (ts : List Tree) → length (rewound_below n ts) ≡ length ts
rewound_length zero ts = refl
rewound_length (suc n) [] = refl
rewound_length (suc n) (t ∷ ts) = ap suc (rewound_length n ts)

-- one more tree
pub rewound_next : (n : ℕ) (ts : List Tree) (d : Tree) → n < length ts → set (rewound_below n ts) n (rewound (get_or (rewound_below n ts) n d)) ≡ rewound_below (n + 1) ts
rewound_next n ts d h = step n ts h ∙ ap (λ m. rewound_below m ts) (one n)
  where
    one : (n : ℕ) → suc n ≡ n + 1
    one n = omega arith

    step : (n : ℕ) (ts : List Tree) → n < length ts → set (rewound_below n ts) n (rewound (get_or (rewound_below n ts) n d)) ≡ rewound_below (suc n) ts
    step n [] h = absurd (omega arith)
    step zero (t ∷ ts) h = refl
    step (suc n) (t ∷ ts) h = ap (λ us. rewound t ∷ us) (step n ts (omega arith))

-- all trees
pub rewound_all : (n : ℕ) (ts : List Tree) → length ts ≤ n → rewound_below n ts ≡ map rewound ts
rewound_all zero [] h = refl
rewound_all zero (t ∷ ts) h = absurd (omega arith)
rewound_all (suc n) [] h = refl
rewound_all (suc n) (t ∷ ts) h = ap (λ us. rewound t ∷ us) (rewound_all n ts (omega arith))

-- a tree that was read at a place where one stands
pub read_at : (us ts : List Tree) (i : ℕ) (t u : Tree) → us ≡ ts → slice_get ts i ≡ Some u → t ≡ get_or us i t → slice_get us i ≡ Some t
read_at us ts i t u same there read = let at : slice_get us i ≡ Some u = ap (λ (q : List Tree). slice_get q i) same ∙ there in at ∙ ap Some (sym (read ∙ get_or_from_slice_get us i u t at))

-- it has a next visit
pub next_of : (s : Sweep) (us ts : List Tree) (i : ℕ) (t : Tree) → us ≡ ts → IsSome (next_in s (slice_get ts i)) → slice_get us i ≡ Some t → IsSome (slice_get (stops s t) t.made)
next_of s us ts i t same has at = subst (λ o. IsSome (next_in s o)) (sym (ap (λ (q : List Tree). slice_get q i) same) ∙ at) has

-- and still has it after it offered a leaf
pub next_offering : (s : Sweep) (l : Leaf) (t u : Tree) → u ≡ offering l t → IsSome (slice_get (stops s t) t.made) → IsSome (slice_get (stops s u) u.made)
next_offering s l t u is has = subst (λ (v : Tree). IsSome (slice_get (stops s v) v.made)) (sym is) (subst (λ xs. IsSome (slice_get xs t.made)) (sym (stops_stay s t (offering l t).tasks)) has)
