-- A helper after one of its places worked.
use Rattle.std.proofs.Common.{◌≡◌, ℕ, zero, suc, ◌+◌, ◌<◌, eqb, cond, Bool, true, ◌||◌, ◌&&◌, List, [], ◌∷◌, ◌++◌, length, get_or, set, sym, refl, ap, subst, ◌∙◌, arith, vec_len, eq-eqb, ne_eqb}
use Rattle.std.proofs.lemmas.List.{get_or_read_under, get_or-set_other}
use Rattle.std.proofs.lemmas.Grind.{get_or-set_at}
use Rattle.std.specs.Vec.{with_item}
use mathlib.Core.Logic.{dite}
use native.Mathlib.Decide.{ℕ_discrete}
use Rattle.result_table.specs.declared.updates.Updates.{Ghosts}
use Rattle.result_table.specs.Seats.{view_of}
use Rattle.result_table.specs.Views.{has}
use Rattle.crossbeam_deque.specs.Handles.{view}
use Rattle.task_pool.specs.declared.job.Job.{Job}
use Rattle.task_pool.specs.declared.parts.Tree.{Tree}
use Rattle.task_pool.specs.declared.parts.Pool.{Pool}
use Rattle.task_pool.specs.declared.parts.Post.{Post}
use Rattle.task_pool.specs.declared.parts.Helper.{Helper}
use Rattle.task_pool.specs.Deque.{count, is_task}
use Rattle.task_pool.specs.Seen.{IsHelperOf, IsPostAt, published_at, taken_at}
use Rattle.task_pool.proofs.Moves.{count-append}

-- the task that was taken last is among those taken
pub taken_here : (job : Job) (taken : List Job) → 0 < count (is_task job.task.tree job.task.task) (taken ++ job ∷ [])
taken_here job taken =
    let one : ◌≡◌ {A = ℕ} (cond (eqb job.task.tree job.task.tree && eqb job.task.task job.task.task) 1 0) 1 = ap (λ b. cond (b && eqb job.task.task job.task.task) 1 0) (eq-eqb job.task.tree job.task.tree refl) ∙ ap (λ b. cond b 1 0) (eq-eqb job.task.task job.task.task refl) in
    omega (arith, count-append (is_task job.task.tree job.task.task) taken (job ∷ []), one)

-- and those taken before stay among them
pub taken_before : (p : Job → Bool) (job : Job) (taken : List Job) → 0 < count p taken → 0 < count p (taken ++ job ∷ [])
taken_before p job taken some = omega (arith, count-append p taken (job ∷ []))

-- each number of a list that was claimed one number more was taken
pub claimed_more : (tree k : ℕ) (claimed : List ℕ) (taken : List Job) → 0 < count (is_task tree k) taken → ((j : ℕ) → has claimed j ≡ true → 0 < count (is_task tree j) taken) → (j : ℕ) → has (k ∷ claimed) j ≡ true → 0 < count (is_task tree j) taken
claimed_more tree k claimed taken this old j e = dite (ℕ_discrete j k)
    (λ is. subst (λ n. 0 < count (is_task tree n) taken) (sym is) this)
    (λ not. old j (sym (ap (λ b. b || has claimed j) (ne_eqb j k not)) ∙ e))

module _ {S : Type 0} {g : Ghosts S} where
  published_set : (ps : List (Post S g)) (i n : ℕ) (old new : Post S g) → i < length ps → old ≡ get_or ps i old → length (view_of new.seat).published ≡ length (view_of old.seat).published + n → published_at (set ps i new) ≡ published_at ps + n
  published_set [] i n old new h e more = absurd (omega arith)
  published_set (p ∷ ps) zero n old new h e more = let same : length (view_of old.seat).published ≡ length (view_of p.seat).published = ap (λ (q : Post S g). length (view_of q.seat).published) e in omega (arith, same, more)
  published_set (p ∷ ps) (suc i) n old new h e more = omega (arith, published_set ps i n old new (omega arith) e more)

  taken_set : (ps : List (Post S g)) (i n : ℕ) (old new : Post S g) → i < length ps → old ≡ get_or ps i old → length (view new.pass).taken ≡ length (view old.pass).taken + n → taken_at (set ps i new) ≡ taken_at ps + n
  taken_set [] i n old new h e more = absurd (omega arith)
  taken_set (p ∷ ps) zero n old new h e more = let same : length (view old.pass).taken ≡ length (view p.pass).taken = ap (λ (q : Post S g). length (view q.pass).taken) e in omega (arith, same, more)
  taken_set (p ∷ ps) (suc i) n old new h e more = omega (arith, taken_set ps i n old new (omega arith) e more)

  -- how many results the helper published, once its place at tree i published n
  pub published_more : (h : Helper S g) (i n : ℕ) (old new : Post S g) → i < vec_len h.posts → old ≡ get_or h.posts.items i old → length (view_of new.seat).published ≡ length (view_of old.seat).published + n → published_at (with_item h.posts i new).items ≡ published_at h.posts.items + n
  published_more h i n old new below e more = published_set h.posts.items i n old new (subst (λ m. i < m) h.posts.ok.0 below) e more

  -- and how many tasks it took
  pub taken_more : (h : Helper S g) (i n : ℕ) (old new : Post S g) → i < vec_len h.posts → old ≡ get_or h.posts.items i old → length (view new.pass).taken ≡ length (view old.pass).taken + n → taken_at (with_item h.posts i new).items ≡ taken_at h.posts.items + n
  taken_more h i n old new below e more = taken_set h.posts.items i n old new (subst (λ m. i < m) h.posts.ok.0 below) e more

  pub helper_stays : (p : Pool S g) (h : Helper S g) (i : ℕ) (t : Tree S g) (new : Post S g) → IsHelperOf p h → i < vec_len p.trees → t ≡ get_or p.trees.items i t → IsPostAt t i new → IsHelperOf p (record { posts = with_item h.posts i new })
  helper_stays p h i t new is below at_tree stays =
      let long : i < vec_len h.posts = omega (arith, below, is.all) in
      let within : i < length h.posts.items = subst (λ m. i < m) h.posts.ok.0 long in
      record {
        pool = is.pool;
        all = is.all;
        posts = λ j x y small. dite (ℕ_discrete j i)
            (λ same. subst (λ q. IsPostAt (get_or p.trees.items j x) j q) (sym (get_or-set_at h.posts.items i j new y same within))
            (subst (λ k. IsPostAt (get_or p.trees.items k x) k new) (sym same)
            (subst (λ q. IsPostAt q i new) (get_or_read_under p.trees.items i (vec_len p.trees) t x at_tree below p.trees.ok.0) stays)))
            (λ other. subst (λ q. IsPostAt (get_or p.trees.items j x) j q) (sym (get_or-set_other h.posts.items i j new y other)) (is.posts j x y small));
      }

  -- the place of tree i, as the helper has it
  pub post_there : (p : Pool S g) (h : Helper S g) (i : ℕ) (t : Tree S g) (old : Post S g) → IsHelperOf p h → i < vec_len p.trees → t ≡ get_or p.trees.items i t → old ≡ get_or h.posts.items i old → IsPostAt t i old
  post_there p h i t old is below at_tree at_post =
      subst (λ (q : Tree S g × Post S g). IsPostAt q.0 i q.1) (λ x. (sym at_tree x, sym at_post x)) (is.posts i t old below)
