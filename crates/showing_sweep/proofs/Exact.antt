-- The numbers of a tree are one, and in a served grid none of them is large.
use Rattle.std.proofs.Common.{◌≡◌, ℕ, zero, suc, ◌+◌, ◌*◌, ◌<◌, ◌≤◌, true, List, [], ◌∷◌, map, length, refl, ap, sym, ◌∙◌, subst, inl, inr, ⊎_elim, arith, length-append}
use Rattle.std.specs.Prelude.{flat_map}
use Rattle.std.specs.Ordering.{eq_by_cmp}
use Rattle.std.proofs.lemmas.Bool.{false≢true, or_cases}
use Rattle.std.proofs.lemmas.List.{length-map}
use Rattle.stack_law.specs.Once.{IsIn}
use Rattle.stack_law.proofs.Chains.{in_left, in_right}
use Rattle.sweep_streams.proofs.Lists.{in_map}
use Rattle.peano_keys.specs.declared.cell.CellKey.{CellKey}
use Rattle.peano_keys.specs.declared.vertex.VertexKey.{VertexKey}
use Rattle.peano_keys.specs.declared.dim.Dim.{Dim}
use Rattle.peano_keys.specs.declared.dim.Dim.TheVariants.{Two, Three}
use Rattle.peano_keys.specs.Dim.{corners}
use Rattle.peano_keys.specs.Cell.{IsCell, key_cmp}
use Rattle.peano_keys.specs.Grid.{Spacetree}
use Rattle.curve_cuts.specs.Cuts.{Cuts}
use Rattle.curve_cuts.specs.Enclave.{IsEnclave, IsSkeleton, OwnsLeaf}
use Rattle.curve_cuts.proofs.Cuts.{owner_holds}
use Rattle.spacetree.specs.Counts.{EachOnce, cells_of}
use Rattle.spacetree.specs.Leaves.{is_among}
use Rattle.spacetree.proofs.CellSets.{same_key}
use Rattle.spacetree.proofs.Leaves.{leaf_there}
use Rattle.vertex_stacks.specs.Tales.{capped}
use Rattle.step_world.proofs.AtMost.{counts_at_most}
use Rattle.step_sweeps.proofs.OwnCounts.{false_by}
use Rattle.showing_sweep.specs.Counts.{AreSoMany, NoneTwice}
use Rattle.showing_sweep.specs.Laws.{AmountsAreOne, TrafficIsExact, amounts_in}
use Rattle.showing_sweep.specs.Shown.{Amounts, AreAmounts, HoldsCellOf}
use Rattle.showing_sweep.proofs.Hanging.{numbers, from_between}
use Rattle.showing_sweep.proofs.Sends.{with_tree}

-- a list without one of its items
without : {A : Type 0} (x : A) (ys : List A) → IsIn x ys → List A
without x [] h = absurd h
without x (y ∷ ys) (inl e) = ys
without x (y ∷ ys) (inr h) = y ∷ without x ys h

shorter : {A : Type 0} (x : A) (ys : List A) (h : IsIn x ys) → length ys ≡ suc (length (without x ys h))
unfolding without
shorter x [] h = absurd h
shorter x (y ∷ ys) (inl e) = refl
shorter x (y ∷ ys) (inr h) = ap suc (shorter x ys h)

in_rest : {A : Type 0} (x z : A) (ys : List A) (h : IsIn x ys) → IsIn z ys → (z ≡ x → ⊥) → IsIn z (without x ys h)
unfolding without
in_rest x z [] h k apart = absurd h
in_rest x z (y ∷ ys) (inl e) (inl f) apart = absurd (apart (f ∙ sym e))
in_rest x z (y ∷ ys) (inl e) (inr k) apart = k
in_rest x z (y ∷ ys) (inr h) (inl f) apart = inl f
in_rest x z (y ∷ ys) (inr h) (inr k) apart = inr (in_rest x z ys h k apart)

-- a list in which nothing stands twice is no longer than one that has all its items
no_longer : {A : Type 0} (xs ys : List A) → NoneTwice xs → ((x : A) → IsIn x xs → IsIn x ys) → length xs ≤ length ys
no_longer [] ys once there = omega arith
no_longer (x ∷ xs) ys once there =
    let h = there x (inl refl) in
    let rest = no_longer xs (without x ys h) once.1 (λ z k. in_rest x z ys h (there z (inr k)) (λ e. once.0 (subst (λ w. IsIn w xs) e k))) in
    let one = shorter x ys h in
    omega (arith, rest, one)

fewer : {A : Type 0} (P Q : A → Type 0) (n m : ℕ) → ((x : A) → P x → Q x) → AreSoMany P n → AreSoMany Q m → n ≤ m
fewer P Q n m all some more =
    let at_most = no_longer some.things more.things some.lists.once (λ x h. (more.lists.members x).1 (all x ((some.lists.members x).0 h))) in
    omega (arith, at_most, some.count, more.count)

as_many : {A : Type 0} (P : A → Type 0) (n m : ℕ) → AreSoMany P n → AreSoMany P m → n ≡ m
as_many P n m a b = let low = fewer P P n m (λ x h. h) a b in let high = fewer P P m n (λ x h. h) b a in omega (arith, low, high)

same_amounts : (a b : Amounts) → a.cells ≡ b.cells → a.stored ≡ b.stored → a.pushes ≡ b.pushes → a.hanging ≡ b.hanging → a.enclave ≡ b.enclave → a.skeleton ≡ b.skeleton → a.sent ≡ b.sent → a ≡ b
same_amounts a b cells stored pushes hanging enclave skeleton sent =
    ap (λ x. record a { cells = x }) cells
    ∙ (ap (λ x. record a { cells = b.cells; stored = x }) stored
    ∙ (ap (λ x. record a { cells = b.cells; stored = b.stored; pushes = x }) pushes
    ∙ (ap (λ x. record b { hanging = x; enclave = a.enclave; skeleton = a.skeleton; sent = a.sent }) hanging
    ∙ (ap (λ x. record b { enclave = x; skeleton = a.skeleton; sent = a.sent }) enclave
    ∙ (ap (λ x. record b { skeleton = x; sent = a.sent }) skeleton
    ∙ ap (λ x. record b { sent = x }) sent)))))

pub amounts_are_one : AmountsAreOne
amounts_are_one k g t n m a b =
    let cells = as_many _ n.cells m.cells a.cells b.cells in
    let stored = as_many _ n.stored m.stored a.stored b.stored in
    let hanging = as_many _ n.hanging m.hanging a.hanging b.hanging in
    let corners_same : n.cells * corners k.dim ≡ m.cells * corners k.dim = ap (λ i. i * corners k.dim) cells in
    same_amounts n m cells stored (omega (arith, stored, hanging, corners_same, a.pushes, b.pushes)) hanging
    (as_many _ n.enclave m.enclave a.enclave b.enclave) (as_many _ n.skeleton m.skeleton a.skeleton b.skeleton) (as_many _ n.sent m.sent a.sent b.sent)

-- cells of a list, in the words of counts over grids
among_in : (cs : List CellKey) (q : CellKey) → is_among cs q ≡ true → IsIn q cs
among_in [] q e = absurd (false≢true e)
among_in (c ∷ cs) q e = ⊎_elim (λ h. inl (same_key q c h)) (λ h. inr (among_in cs q h)) (or_cases (eq_by_cmp key_cmp q c) (is_among cs q) e)

each_once : (cs : List CellKey) → NoneTwice cs → EachOnce cs
each_once [] once = tt
each_once (c ∷ cs) once = (false_by (is_among cs c) (λ e. once.0 (among_in cs c e)), each_once cs once.1)

-- each vertex with each of so many trees
pairs : ℕ → List VertexKey → List (VertexKey × ℕ)
pairs m vs = flat_map (λ v. map (with_tree v) (numbers 0 m)) vs

length_numbers : (m k : ℕ) → length (numbers m k) ≡ k
length_numbers m zero = refl
length_numbers m (suc k) = ap suc (length_numbers (m + 1) k)

length_pairs : (m : ℕ) (vs : List VertexKey) → length (pairs m vs) ≡ m * length vs
unfolding pairs
length_pairs m [] = omega arith
length_pairs m (v ∷ vs) =
    let both = length-append (map (with_tree v) (numbers 0 m)) (pairs m vs) in
    let here = length-map (numbers 0 m) (with_tree v) ∙ length_numbers 0 m in
    let rest = length_pairs m vs in
    let more : m * suc (length vs) ≡ m + m * length vs = grind arith in
    omega (arith, both, here, rest, more)

in_pairs : (m : ℕ) (vs : List VertexKey) (v : VertexKey) (s : ℕ) → IsIn v vs → s < m → IsIn (with_tree v s) (pairs m vs)
unfolding pairs
in_pairs m [] v s h below = absurd h
in_pairs m (w ∷ vs) v s (inl e) below = in_left (λ z. 0) (with_tree v s) (map (with_tree w) (numbers 0 m)) (pairs m vs) (subst (λ u. IsIn (with_tree v s) (map (with_tree u) (numbers 0 m))) e (in_map (with_tree v) s (numbers 0 m) (from_between 0 m s (omega arith) (omega (arith, below)))))
in_pairs m (w ∷ vs) v s (inr h) below = in_right (λ z. 0) (with_tree v s) (map (with_tree w) (numbers 0 m)) (pairs m vs) (in_pairs m vs v s h below)

module _ (k : Cuts) (g : Spacetree) (t : ℕ) (n : Amounts) (dim : g.dim ≡ k.dim) (trees : k.trees ≤ 64) (size : cells_of g ≤ 200000) (are : AreAmounts k g t n) where
  cells_few : n.cells ≤ 200000
  cells_few =
      let cs = are.cells in
      let at_most = counts_at_most g cs.things (each_once cs.things cs.lists.once) (λ c h. let holds = (cs.lists.members c).0 (among_in cs.things c h) in record { cell = subst (λ d. IsCell d c) (sym dim) holds.cell; there = holds.there }) in
      omega (arith, at_most, cs.count, size)

  owns_holds : (c : CellKey) → OwnsLeaf k g t c → HoldsCellOf k g t c
  owns_holds c owned = record { cell = owned.cell; there = leaf_there g c (record { cell = subst (λ d. IsCell d c) (sym dim) owned.cell; leaf = owned.leaf }); held = owner_holds k t c owned.owns }

  enclave_few : n.enclave ≤ 200000
  enclave_few = let less = fewer (IsEnclave k g t) (HoldsCellOf k g t) n.enclave n.cells (λ c h. owns_holds c h.0) are.enclave are.cells in omega (arith, less, cells_few)

  skeleton_few : n.skeleton ≤ 200000
  skeleton_few = let less = fewer (IsSkeleton k g t) (HoldsCellOf k g t) n.skeleton n.cells (λ c h. owns_holds c h.0) are.skeleton are.cells in omega (arith, less, cells_few)

  corners_few : n.pushes + n.hanging + n.stored ≤ 1600000
  corners_few = by k.dim are.pushes
    where
      by : (d : Dim) → n.pushes + n.hanging + n.stored ≡ n.cells * corners d → n.pushes + n.hanging + n.stored ≤ 1600000
      by Two e = omega (arith, e, cells_few)
      by Three e = omega (arith, e, cells_few)

  sent_few : n.sent ≤ 102400000
  sent_few =
      let at_most = no_longer are.sent.things (pairs 64 are.stored.things) are.sent.lists.once (λ x h.
      let is = (are.sent.lists.members x).0 h in
      let tree = is.too.corner.tree in
      in_pairs 64 are.stored.things x.0 x.1 ((are.stored.lists.members x.0).1 is.has) (omega (arith, tree, trees))) in
      let size = length_pairs 64 are.stored.things in
      omega (arith, at_most, size, are.sent.count, are.stored.count, corners_few)

  small : (i : ℕ) → i ≤ 102400000 → capped i ≡ i
  small i few = omega (arith, few)

  pub told_exactly : record { cells = capped n.cells; stored = capped n.stored; pushes = capped n.pushes; hanging = capped n.hanging; enclave = capped n.enclave; skeleton = capped n.skeleton; sent = capped n.sent } ≡ n
  told_exactly = same_amounts _ n (small n.cells (omega (arith, cells_few))) (small n.stored (omega (arith, corners_few))) (small n.pushes (omega (arith, corners_few))) (small n.hanging (omega (arith, corners_few))) (small n.enclave (omega (arith, enclave_few))) (small n.skeleton (omega (arith, skeleton_few))) (small n.sent sent_few)

pub traffic_is_exact : TrafficIsExact
traffic_is_exact k g t x dim trees size is = subst (AreAmounts k g t) (sym (ap amounts_in is.told ∙ told_exactly k g t is.amounts dim trees size is.are)) is.are
