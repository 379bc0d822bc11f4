-- A pool while its trees are added.
use Rattle.std.proofs.Common.{◌≡◌, ℕ, ◌+◌, ◌*◌, ◌^◌, ◌<◌, ◌≤◌, List, [], ◌∷◌, ◌++◌, length, get_or, set, sym, ap, subst, ◌∙◌, arith, vec_len, ◌-◌, Option, Some, None}
use Rattle.std.proofs.lemmas.List.{get_or-set_other, get_or_append_left, length-append}
use Rattle.std.proofs.Math.Seq.{get_or-append_seam}
use Rattle.std.proofs.lemmas.Grind.{get_or-set_at}
use mathlib.Core.Logic.{dite}
use native.Mathlib.Decide.{ℕ_discrete}
use Rattle.std.specs.Prelude.{slice_index}
use Rattle.result_table.specs.declared.updates.Updates.{Ghosts}
use Rattle.result_table.specs.declared.view.View.{View}
use Rattle.result_table.specs.declared.witness.Witness.{Witness}
use Rattle.result_table.specs.Seats.{IsSeatOf, size_of, desk_solver}
use Rattle.result_table.specs.Views.{newcomer}
use Rattle.crossbeam_deque.specs.Handles.{stealer_deque, worker_deque}
use Rattle.task_pool.specs.declared.parts.Tree.{Tree}
use Rattle.task_pool.specs.declared.parts.Post.{Post}
use Rattle.task_pool.specs.declared.parts.Helper.{Helper}
use Rattle.task_pool.specs.declared.parts.TreeHand.{TreeHand}
use Rattle.task_pool.specs.declared.parts.Pool.{Pool}
use Rattle.task_pool.specs.declared.pool.Building.{Building}
use Rattle.task_pool.specs.Seen.{IsPostAt, IsPool, IsHandOf, IsHelperOf, tasks_in, tree_of, spawned_of, hand_view}
use Rattle.task_pool.specs.Built.{IsPlaced, IsNewHand, IsBuilt}

an_element : {A : Type 0} (l : List A) → 0 < length l → A
an_element [] some = absurd (omega arith)
an_element (x ∷ xs) some = x

module _ {A : Type 0} where
  pub snoc_last : (xs : List A) (a d : A) (n : ℕ) → length xs ≡ n → get_or (xs ++ a ∷ []) n d ≡ a
  snoc_last xs a d n e = subst (λ m. get_or (xs ++ a ∷ []) m d ≡ a) e (get_or-append_seam xs a [] d)

  -- what holds of each place of a list and of a new last one holds of each place of the longer list
  pub each_snoc : (P : ℕ → A → Type 0) (xs : List A) (a : A) (n : ℕ) → length xs ≡ n → ((i : ℕ) (d : A) → i < n → P i (get_or xs i d)) → P n a → (i : ℕ) (d : A) → i < n + 1 → P i (get_or (xs ++ a ∷ []) i d)
  each_snoc P xs a n e all last i d below = dite (ℕ_discrete i n)
      (λ is. subst (λ k. P k (get_or (xs ++ a ∷ []) k d)) (sym is) (subst (P n) (sym (snoc_last xs a d n e)) last))
      (λ not. let small : i < n = omega (arith, below, not) in subst (P i) (sym (get_or_append_left xs (a ∷ []) d i (subst (λ m. i < m) (sym e) small))) (all i d small))

module _ {S : Type 0} {g : Ghosts S} where
  -- a helper that took a place at the next tree
  pub placed_more : (trees : List (Tree S g)) (n : ℕ) (d : Tree S g) (h h' : Helper S g) (p : Post S g) → IsPlaced trees n h → ((x : Tree S g) → get_or trees n x ≡ d) → h'.posts.items ≡ h.posts.items ++ p ∷ [] → IsPostAt d n p → IsPlaced trees (n + 1) h'
  placed_more trees n d h h' p is here items last =
      let long : length h.posts.items ≡ n = sym h.posts.ok.0 ∙ is.all in
      record {
        all = h'.posts.ok.0 ∙ ap length items ∙ length-append h.posts.items (p ∷ []) ∙ omega (arith, long);
        posts = λ i x y below. subst (λ l. IsPostAt (get_or trees i x) i (get_or l i y)) (sym items)
            (each_snoc (λ k q. IsPostAt (get_or trees k x) k q) h.posts.items p n long (λ k q small. is.posts k x q small) (subst (λ e. IsPostAt e n p) (sym (here x)) last) i y below);
      }

  -- more trees change nothing for it
  pub placed_on : (trees : List (Tree S g)) (more : List (Tree S g)) (n : ℕ) (h : Helper S g) → n ≤ length trees → IsPlaced trees n h → IsPlaced (trees ++ more) n h
  placed_on trees more n h enough is = record {
    all = is.all;
    posts = λ i x y below. subst (λ d. IsPostAt d i (get_or h.posts.items i y)) (sym (get_or_append_left trees more x i (omega (arith, below, enough)))) (is.posts i x y below);
  }

  -- helper `at` of several took its place, and those before it
  pub placed_at : (trees : List (Tree S g)) (tree at n : ℕ) (helpers : List (Helper S g)) (new : Helper S g) → at < length helpers → n ≡ length helpers
      → IsPlaced trees (tree + 1) new
      → ((j : ℕ) (h : Helper S g) → j < at → IsPlaced trees (tree + 1) (get_or helpers j h))
      → (j : ℕ) (h : Helper S g) → j < at + 1 → IsPlaced trees (tree + 1) (get_or (set helpers at new) j h)
  placed_at trees tree at n helpers new within is placed before j h below = dite (ℕ_discrete j at)
      (λ same. subst (IsPlaced trees (tree + 1)) (sym (get_or-set_at helpers at j new h same within)) placed)
      (λ other. subst (IsPlaced trees (tree + 1)) (sym (get_or-set_other helpers at j new h other)) (before j h (omega (arith, below, other))))

  pub placed_after : (trees : List (Tree S g)) (tree at : ℕ) (helpers : List (Helper S g)) (new : Helper S g) (n : ℕ)
      → ((j : ℕ) (h : Helper S g) → at ≤ j → j < n → IsPlaced trees tree (get_or helpers j h))
      → (j : ℕ) (h : Helper S g) → at + 1 ≤ j → j < n → IsPlaced trees tree (get_or (set helpers at new) j h)
  placed_after trees tree at helpers new n rest j h later below = subst (IsPlaced trees tree) (sym (get_or-set_other helpers at j new h (λ e. omega (arith, later, e)))) (rest j h (omega (arith, later)) below)

abbrev value_or : {A : Type 0} → A → Option A → A
value_or d None = d
value_or d (Some x) = x

-- what was popped of a list of one
pub popped : {A : Type 0} (x d : A) (r : Option A) (l : List A) (n : ℕ) → r ≡ Some x → n ≡ 1 → r ≡ Some (get_or l (n - 1) d) → x ≡ get_or l 0 d
popped x d r l n is one at = ap (value_or d) (sym is ∙ at) ∙ ap (λ m. get_or l (m - 1) d) one

-- what was popped of a list
pub popped_last : {A : Type 0} (x d : A) (r : Option A) (l : List A) (n k : ℕ) → r ≡ Some x → n ≡ k + 1 → r ≡ Some (get_or l (n - 1) d) → x ≡ get_or l k d
popped_last x d r l n k is long at = let last : n - 1 ≡ k = omega (arith, long) in ap (value_or d) (sym is ∙ at) ∙ ap (λ m. get_or l m d) last

-- a list without its last element
pub less_last : {A : Type 0} (P : A → Type 0) (all short last : List A) (n : ℕ) → all ≡ short ++ last → n ≡ length short → (i : ℕ) (d : A) → i < n → P (get_or all i d) → P (get_or short i d)
less_last P all short last n is long i d below h = subst P (ap (λ l. get_or l i d) is ∙ get_or_append_left short last d i (subst (λ m. i < m) long below)) h

module _ {S : Type 0} {g : Ghosts S} where
  tasks_in-append : (ts : List (Tree S g)) (t : Tree S g) → tasks_in (ts ++ t ∷ []) ≡ tasks_in ts + size_of t.desk
  tasks_in-append [] t = omega arith
  tasks_in-append (x ∷ ts) t = omega (arith, tasks_in-append ts t)

  -- one tree more
  pub built_more : (tasks : List ℕ) (workers : ℕ) (solver : S) (n : ℕ) (b b' : Building S g) (t : Tree S g) (h : TreeHand S g) → IsBuilt tasks workers solver n b
      → b'.trees.items ≡ b.trees.items ++ t ∷ [] → b'.hands.items ≡ b.hands.items ++ h ∷ [] → b'.total ≡ b.total + slice_index tasks n → slice_index tasks n ≤ 2 ^ 32
      → size_of t.desk ≡ slice_index tasks n → desk_solver t.desk ≡ solver → IsNewHand t n solver workers h
      → vec_len b'.helpers ≡ workers → ((j : ℕ) (x : Helper S g) → j < workers → IsPlaced b'.trees.items (n + 1) (get_or b'.helpers.items j x)) → IsBuilt tasks workers solver (n + 1) b'
  built_more tasks workers solver n b b' t h is trees hands total small size of_solver new helpers helper =
      let long : length b.trees.items ≡ n = sym b.trees.ok.0 ∙ is.trees in
      let many : length b.hands.items ≡ n = sym b.hands.ok.0 ∙ is.hands in
      record {
        trees = b'.trees.ok.0 ∙ ap length trees ∙ length-append b.trees.items (t ∷ []) ∙ omega (arith, long);
        sizes = λ i x below. subst (λ l. size_of (get_or l i x).desk ≡ slice_index tasks i) (sym trees) (each_snoc (λ k (e : Tree S g). size_of e.desk ≡ slice_index tasks k) b.trees.items t n long is.sizes size i x below);
        solvers = λ i x below. subst (λ l. desk_solver (get_or l i x).desk ≡ solver) (sym trees) (each_snoc (λ k (e : Tree S g). desk_solver e.desk ≡ solver) b.trees.items t n long is.solvers of_solver i x below);
        total = total ∙ omega (arith, is.total, size, tasks_in-append b.trees.items t) ∙ sym (ap tasks_in trees);
        most = omega (arith, total, is.most, small);
        hands = b'.hands.ok.0 ∙ ap length hands ∙ length-append b.hands.items (h ∷ []) ∙ omega (arith, many);
        hand = λ i x y below. subst (λ l. IsNewHand (get_or b'.trees.items i x) i solver workers (get_or l i y)) (sym hands)
            (each_snoc (λ k e. IsNewHand (get_or b'.trees.items k x) k solver workers e) b.hands.items h n many
            (λ k e small. subst (λ l. IsNewHand (get_or l k x) k solver workers (get_or b.hands.items k e)) (sym trees) (subst (λ q. IsNewHand q k solver workers (get_or b.hands.items k e)) (sym (get_or_append_left b.trees.items (t ∷ []) x k (omega (arith, small, long)))) (is.hand k x e small)))
            (subst (λ l. IsNewHand (get_or l n x) n solver workers h) (sym trees) (subst (λ q. IsNewHand q n solver workers h) (sym (snoc_last b.trees.items t x n long)) new))
            i y below);
        helpers = helpers;
        helper = helper;
      }

  module _ (tasks : List ℕ) (workers : ℕ) (solver : S) (n : ℕ) (b : Building S g) (is : IsBuilt tasks workers solver n b) (some : 1 ≤ n) (few : n ≤ 64) (brief : Witness S) (of_solver : brief.value ≡ solver) where
    abbrev made : Pool S g
    made = record { trees = b.trees; total = b.total; solver = brief }

    pool_is : IsPool made
    pool_is = record {
      some = omega (arith, some, is.trees);
      few = omega (arith, few, is.trees);
      total = is.total;
      most = subst (λ m. b.total ≤ m * 2 ^ 32) (sym is.trees) is.most;
      solver = λ i x below. is.solvers i x (omega (arith, below, is.trees)) ∙ sym of_solver;
    }

    -- a new hand of a tree is a hand of the pool
    hand_is : (hand : TreeHand S g) (k : ℕ) → k < n → ((x : Tree S g) → IsNewHand (get_or b.trees.items k x) k solver workers hand) → IsHandOf made hand × (tree_of hand ≡ k) × (spawned_of hand ≡ 0) × (hand_view hand ≡ newcomer solver 0 (workers + 1))
    hand_is hand k below new =
        let some_tree = an_element b.trees.items (omega (arith, some, is.trees, b.trees.ok.0)) in
        let one = new some_tree in (
          record {
            pool = pool_is;
            tree = omega (arith, one.tree_is, below, is.trees);
            first = ap (λ (v : View S). v.number) one.view;
            idle = ap (λ (v : View S). v.claimed) one.view;
            seat = λ x. subst (λ m. IsSeatOf (get_or b.trees.items m x).desk hand.seat) (sym one.tree_is) (new x).seat;
            deque = λ x. subst (λ m. worker_deque hand.worker ≡ stealer_deque (get_or b.trees.items m x).stealer) (sym one.tree_is) (new x).deque;
          },
          one.tree_is,
          one.none,
          one.view,
        )

    pub hands_are : (k : ℕ) (h : TreeHand S g) → k < n → IsHandOf made (get_or b.hands.items k h) × (tree_of (get_or b.hands.items k h) ≡ k) × (spawned_of (get_or b.hands.items k h) ≡ 0) × (hand_view (get_or b.hands.items k h) ≡ newcomer solver 0 (workers + 1))
    hands_are k h below =
        let hand : TreeHand S g = get_or b.hands.items k h in
        let new : (x : Tree S g) → IsNewHand (get_or b.trees.items k x) k solver workers hand = λ x. is.hand k x h below in
        hand_is hand k below new

    pub helpers_are : (j : ℕ) (h : Helper S g) → j < workers → IsHelperOf made (get_or b.helpers.items j h)
    helpers_are j h below = let placed = is.helper j h below in record {
      pool = pool_is;
      all = placed.all ∙ sym is.trees;
      posts = λ i x y small. placed.posts i x y (omega (arith, small, is.trees));
    }
