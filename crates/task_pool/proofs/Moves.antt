-- Each use of a deque keeps its rule.
use Rattle.std.proofs.Common.{◌≡◌, ℕ, zero, suc, ◌+◌, ◌≤◌, eqb, cond, Bool, true, false, List, [], ◌∷◌, ◌++◌, set, sym, refl, ap, ◌∙◌, ⊎_elim, arith, eq-eqb, ne_eqb}
use Rattle.std.proofs.lemmas.Bool.{false≢true}
use mathlib.Core.Option.{some, some-ne-none, some-injective}
use mathlib.Core.Logic.{dite}
use native.Mathlib.Decide.{ℕ_discrete}
use lib.ListN.{get_elem?}
use Rattle.crossbeam_deque.specs.Tasks.{Pushes, Takes, Admits}
use Rattle.crossbeam_deque.proofs.Lists.{at_set, at_snoc}
use Rattle.task_pool.specs.declared.log.Log.{Log}
use Rattle.task_pool.specs.declared.job.Job.{Job}
use Rattle.std.specs.Prelude.{Result, Ok, Err, MatchResult}
use Rattle.task_pool.specs.Deque.{log, count, has_number, total, Keeps, IsFair}

pub count-append : (p : Job → Bool) (xs ys : List Job) → count p (xs ++ ys) ≡ count p xs + count p ys
count-append p [] ys = omega arith
count-append p (y ∷ xs) ys = omega (arith, count-append p xs ys)

total_set : (f : Log → ℕ) (views : List Log) (port : ℕ) (v w : Log) → get_elem? views port ≡ some v → total f (set views port w) + f v ≡ total f views + f w
total_set f [] port v w e = absurd (some-ne-none v (sym e))
total_set f (u ∷ views) zero v w e = let same : f u ≡ f v = ap f (some-injective u v e) in omega (arith, same)
total_set f (u ∷ views) (suc port) v w e = omega (arith, total_set f views port v w e)

total_snoc : (f : Log → ℕ) (views : List Log) (w : Log) → total f (views ++ w ∷ []) ≡ total f views + f w
total_snoc f [] w = omega arith
total_snoc f (u ∷ views) w = omega (arith, total_snoc f views w)

-- the list with a task of a new number has no number twice
once_more : (n : ℕ) (x : Job) (spawned : List Job) → count (has_number n) spawned ≤ 1 → count (has_number x.task.task) spawned ≡ 0 → count (has_number n) (spawned ++ x ∷ []) ≤ 1
once_more n x spawned once none = dite (ℕ_discrete x.task.task n)
    (λ is. let zero_n : count (has_number n) spawned ≡ 0 = ap (λ y. count (has_number y) spawned) (sym is) ∙ none in let one : ◌≡◌ {A = ℕ} (cond (eqb x.task.task n) 1 0) 1 = ap (λ b. cond b 1 0) (eq-eqb x.task.task n is) in omega (arith, count-append (has_number n) spawned (x ∷ []), zero_n, one))
    (λ not. let none_here : ◌≡◌ {A = ℕ} (cond (eqb x.task.task n) 1 0) 0 = ap (λ b. cond b 1 0) (ne_eqb x.task.task n not) in omega (arith, count-append (has_number n) spawned (x ∷ []), none_here, once))

pub begins : IsFair [] (log true [] [] ∷ [])
begins = (
  [],
  record {
    owner = λ port v at s. one port v at s;
    once = λ n. omega arith;
    balance = λ p. refl;
  },
)
  where
    one : (port : ℕ) (v : Log) → get_elem? (log true [] [] ∷ []) port ≡ some v → v.spawns ≡ true → (port ≡ 0) × (v.spawned ≡ [])
    one zero v at s = (refl, ap (λ (u : Log). u.spawned) (sym (some-injective (log true [] []) v at)))
    one (suc port) v at s = absurd (some-ne-none v (sym at))

pub spawns : (port : ℕ) (x : Job) (v : Log) → v.spawns ≡ true → count (has_number x.task.task) v.spawned ≡ 0 → Pushes IsFair port v (x ∷ []) (λ w. w ≡ log v.spawns (v.spawned ++ x ∷ []) v.taken)
spawns port x v may fresh items views held at =
    let w : Log = log v.spawns (v.spawned ++ x ∷ []) v.taken in
    let kept = held.1 in
    let mine = kept.owner port v at may in
    let all = held.0 ++ x ∷ [] in (
      w,
      (
        all,
        record {
          owner = λ other u there s. ⊎_elim
              (λ m. (m.0 ∙ mine.0, ap (λ (y : Log). y.spawned) (sym m.1) ∙ ap (λ l. l ++ x ∷ []) mine.1))
              (λ t. let theirs = kept.owner other u t.1 s in absurd (t.0 (theirs.0 ∙ sym mine.0)))
              (at_set views port other w u there);
          once = λ n. once_more n x held.0 (kept.once n) (ap (count (has_number x.task.task)) (sym mine.1) ∙ fresh);
          balance = λ p. omega (arith, count-append p held.0 (x ∷ []), count-append p items (x ∷ []), total_set (λ u. count p u.taken) views port v w at, kept.balance p);
        },
      ),
      refl,
    )

pub takes : (port : ℕ) (v : Log) → Takes IsFair port v 1 (λ xs w. w ≡ log v.spawns v.spawned (v.taken ++ xs))
takes port v xs items views _ _ held at =
    let w : Log = log v.spawns v.spawned (v.taken ++ xs) in
    let kept = held.1 in (
      w,
      (
        held.0,
        record {
          owner = λ other u there s. ⊎_elim
              (λ m. let old = kept.owner port v at (ap (λ (y : Log). y.spawns) m.1 ∙ s) in (m.0 ∙ old.0, ap (λ (y : Log). y.spawned) (sym m.1) ∙ old.1))
              (λ t. kept.owner other u t.1 s)
              (at_set views port other w u there);
          once = kept.once;
          balance = λ p. omega (arith, count-append p v.taken xs, count-append p xs items, total_set (λ u. count p u.taken) views port v w at, kept.balance p);
        },
      ),
      refl,
    )

pub admits : Admits IsFair (log false [] [])
admits items views held = (
  held.0,
  record {
    owner = λ port u there s. ⊎_elim (λ old. held.1.owner port u old s) (λ is. absurd (false≢true (ap (λ (y : Log). y.spawns) is ∙ s))) (at_snoc views (log false [] []) u port there);
    once = held.1.once;
    balance = λ p. omega (arith, total_snoc (λ u. count p u.taken) views (log false [] []), held.1.balance p);
  },
)

-- a later number is not among those spawned
later : (n : ℕ) (x : Job) (spawned : List Job) → ((y : ℕ) → x.task.task ≤ y → count (has_number y) spawned ≡ 0) → x.task.task + 1 ≤ n → count (has_number n) (spawned ++ x ∷ []) ≡ 0
later n x spawned none above =
    let other : ◌≡◌ {A = ℕ} (cond (eqb x.task.task n) 1 0) 0 = ap (λ b. cond b 1 0) (ne_eqb x.task.task n (λ e. omega (arith, above, e))) in
    omega (arith, count-append (has_number n) spawned (x ∷ []), other, none n (omega (arith, above)))

pub after_push : (x : Job) (v w : Log) (r : Result (Unit {0}) Job) (F G H : Type 0) → ((y : ℕ) → x.task.task ≤ y → count (has_number y) v.spawned ≡ 0) → v.spawns ≡ true
    → MatchResult r (λ _. (w ≡ log v.spawns (v.spawned ++ x ∷ []) v.taken) × F) (λ y. (y ≡ x) × (w ≡ v) × G × H)
    → (w.spawns ≡ true) × ((n : ℕ) → x.task.task + 1 ≤ n → count (has_number n) w.spawned ≡ 0)
after_push x v w (Ok u) F G H none may told = (ap (λ (y : Log). y.spawns) told.0 ∙ may, λ n above. ap (λ (y : Log). count (has_number n) y.spawned) told.0 ∙ later n x v.spawned none above)
after_push x v w (Err y) F G H none may told = (ap (λ (y : Log). y.spawns) told.1 ∙ may, λ n above. ap (λ (y : Log). count (has_number n) y.spawned) told.1 ∙ none n (omega (arith, above)))

-- what one user of a deque has is no more than what all have
one_of_all : (f : Log → ℕ) (views : List Log) (port : ℕ) (v : Log) → get_elem? views port ≡ some v → f v ≤ total f views
one_of_all f [] port v at = absurd (some-ne-none v (sym at))
one_of_all f (u ∷ views) zero v at = let same : f u ≡ f v = ap f (some-injective u v at) in omega (arith, same)
one_of_all f (u ∷ views) (suc port) v at = omega (arith, one_of_all f views port v at)

pub taken_spawned : (items : List Job) (views : List Log) (spawned : List Job) (port : ℕ) (v : Log) (p : Job → Bool) → Keeps items views spawned → get_elem? views port ≡ some v → count p v.taken ≤ count p spawned
taken_spawned items views spawned port v p kept at = omega (arith, kept.balance p, one_of_all (λ u. count p u.taken) views port v at)

pub taken_once : (items : List Job) (views : List Log) (spawned : List Job) (n : ℕ) → Keeps items views spawned → total (λ v. count (has_number n) v.taken) views ≤ 1
taken_once items views spawned n kept = omega (arith, kept.balance (has_number n), kept.once n)
