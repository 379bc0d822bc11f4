-- Values of cells as means.
use Rattle.std.proofs.Common.{◌≡◌, ℕ, zero, suc, ◌+◌, ◌-◌, ◌<◌, ◌≤◌, true, false, if◌then◌else◌, refl, sym, ap, ◌∙◌, ℤ, pos, arith}
use Rattle.peano_keys.specs.declared.cell.CellKey.{CellKey}
use Rattle.peano_keys.specs.declared.state.State.{State}
use Rattle.peano_keys.specs.declared.state.State.TheVariants.{Single, Pair, Triple, Quadruple}
use Rattle.peano_keys.specs.Cell.{centre_child}
use Rattle.peano_keys.specs.State.{count_of, value_at}
use Rattle.peano_keys.specs.Grid.{Spacetree, is_refined}
use Rattle.peano_keys.specs.Sums.{mean_of}
use Rattle.peano_keys.specs.Field.{States, state_at, centre_state, state_like, component_of, component_mean, mean_under, value_of}
use Rattle.cell_sums.specs.SumLaws.{ValueByAnyDepth, ComponentsAreMeans}
use Rattle.cell_sums.proofs.Sums.{mean_refined}
use Rattle.cell_sums.proofs.SumLaws.{mean_by_any_depth}

pub count_of_like : (s : State) (m : ℕ → ℤ) → count_of (state_like s m) ≡ count_of s
count_of_like (Single a) m = refl
count_of_like (Pair a b) m = refl
count_of_like (Triple a b c) m = refl
count_of_like (Quadruple a b c d) m = refl

pub like_at : (s : State) (m : ℕ → ℤ) (i : ℕ) → i < count_of (state_like s m) → value_at (state_like s m) i ≡ m i
like_at (Single a) m zero h = refl
like_at (Single a) m (suc i) h = absurd (omega (arith, h))
like_at (Pair a b) m zero h = refl
like_at (Pair a b) m (suc zero) h = refl
like_at (Pair a b) m (suc (suc i)) h = absurd (omega (arith, h))
like_at (Triple a b c) m zero h = refl
like_at (Triple a b c) m (suc zero) h = refl
like_at (Triple a b c) m (suc (suc zero)) h = refl
like_at (Triple a b c) m (suc (suc (suc i))) h = absurd (omega (arith, h))
like_at (Quadruple a b c d) m zero h = refl
like_at (Quadruple a b c d) m (suc zero) h = refl
like_at (Quadruple a b c d) m (suc (suc zero)) h = refl
like_at (Quadruple a b c d) m (suc (suc (suc zero))) h = refl
like_at (Quadruple a b c d) m (suc (suc (suc (suc i)))) h = absurd (omega (arith, h))

pub like_itself : (s : State) → state_like s (λ i. value_at s i) ≡ s
like_itself (Single a) = refl
like_itself (Pair a b) = refl
like_itself (Triple a b c) = refl
like_itself (Quadruple a b c d) = refl

-- beyond its values a state has none
pub beyond : (s : State) (i : ℕ) → count_of s ≤ i → value_at s i ≡ pos 0
beyond (Single a) zero h = absurd (omega (arith, h))
beyond (Single a) (suc i) h = refl
beyond (Pair a b) zero h = absurd (omega (arith, h))
beyond (Pair a b) (suc zero) h = absurd (omega (arith, h))
beyond (Pair a b) (suc (suc i)) h = refl
beyond (Triple a b c) zero h = absurd (omega (arith, h))
beyond (Triple a b c) (suc zero) h = absurd (omega (arith, h))
beyond (Triple a b c) (suc (suc zero)) h = absurd (omega (arith, h))
beyond (Triple a b c) (suc (suc (suc i))) h = refl
beyond (Quadruple a b c d) zero h = absurd (omega (arith, h))
beyond (Quadruple a b c d) (suc zero) h = absurd (omega (arith, h))
beyond (Quadruple a b c d) (suc (suc zero)) h = absurd (omega (arith, h))
beyond (Quadruple a b c d) (suc (suc (suc zero))) h = absurd (omega (arith, h))
beyond (Quadruple a b c d) (suc (suc (suc (suc i)))) h = refl

-- states with the same values are the same
pub same_state : (s r : State) → count_of s ≡ count_of r → ((i : ℕ) → i < count_of s → value_at s i ≡ value_at r i) → s ≡ r
same_state (Single a) (Single x) n e = (let p = e 0 (omega arith) in λ i. Single (p i))
same_state (Pair a b) (Pair x y) n e = (let p = e 0 (omega arith) in let q = e 1 (omega arith) in λ i. Pair (p i) (q i))
same_state (Triple a b c) (Triple x y z) n e = (let p = e 0 (omega arith) in let q = e 1 (omega arith) in let r = e 2 (omega arith) in λ i. Triple (p i) (q i) (r i))
same_state (Quadruple a b c d) (Quadruple x y z w) n e = (let p = e 0 (omega arith) in let q = e 1 (omega arith) in let r = e 2 (omega arith) in let s = e 3 (omega arith) in λ i. Quadruple (p i) (q i) (r i) (s i))
same_state (Single a) (Pair x y) n e = absurd (omega (arith, n))
same_state (Single a) (Triple x y z) n e = absurd (omega (arith, n))
same_state (Single a) (Quadruple x y z w) n e = absurd (omega (arith, n))
same_state (Pair a b) (Single x) n e = absurd (omega (arith, n))
same_state (Pair a b) (Triple x y z) n e = absurd (omega (arith, n))
same_state (Pair a b) (Quadruple x y z w) n e = absurd (omega (arith, n))
same_state (Triple a b c) (Single x) n e = absurd (omega (arith, n))
same_state (Triple a b c) (Pair x y) n e = absurd (omega (arith, n))
same_state (Triple a b c) (Quadruple x y z w) n e = absurd (omega (arith, n))
same_state (Quadruple a b c d) (Single x) n e = absurd (omega (arith, n))
same_state (Quadruple a b c d) (Pair x y) n e = absurd (omega (arith, n))
same_state (Quadruple a b c d) (Triple x y z) n e = absurd (omega (arith, n))

-- each component of a value under a depth is the mean of that component
pub component_is : (depth : ℕ) (t : Spacetree) (f : States) (c : CellKey) (i : ℕ) → i < count_of (mean_under depth t f c) → value_at (mean_under depth t f c) i ≡ mean_of t (component_of f i) (depth - c.level) c
component_is depth t f c i = elim (is_refined t c) as (λ b. i < count_of (if b then state_like (centre_state (12 - c.level) t f c) (component_mean depth t f c) else state_at f c) → value_at (if b then state_like (centre_state (12 - c.level) t f c) (component_mean depth t f c) else state_at f c) i ≡ (if b then component_mean depth t f c i else component_of f i c)) [
  | true ↦ λ h. like_at (centre_state (12 - c.level) t f c) (component_mean depth t f c) i h
  | false ↦ λ h. refl
]

pub value_refined : (depth : ℕ) (t : Spacetree) (f : States) (c : CellKey) → is_refined t c ≡ true → mean_under depth t f c ≡ state_like (centre_state (12 - c.level) t f c) (component_mean depth t f c)
value_refined depth t f c h = rw h refl

pub value_plain : (depth : ℕ) (t : Spacetree) (f : States) (c : CellKey) → is_refined t c ≡ false → mean_under depth t f c ≡ state_at f c
value_plain depth t f c h = rw h refl

pub centre_plain : (n : ℕ) (t : Spacetree) (f : States) (c : CellKey) → is_refined t c ≡ false → centre_state n t f c ≡ state_at f c
centre_plain zero t f c h = refl
centre_plain (suc n) t f c h = rw h refl

pub centre_refined : (n : ℕ) (t : Spacetree) (f : States) (c : CellKey) → is_refined t c ≡ true → centre_state (suc n) t f c ≡ centre_state n t f (centre_child t.dim c)
centre_refined n t f c h = rw h refl

pub value_by_any_depth : ValueByAnyDepth
value_by_any_depth depth t f c deep grid level = elim (is_refined t c) as (λ b. is_refined t c ≡ b → value_of t f c ≡ mean_under depth t f c) [
  | false ↦ λ h. value_plain 12 t f c h ∙ sym (value_plain depth t f c h)
  | true ↦ λ h.
      let twelve : depth + (12 - depth) - c.level ≡ 12 - c.level = omega (arith, deep) in
      let same : (i : ℕ) → component_mean 12 t f c i ≡ component_mean depth t f c i =
      λ i. sym (mean_refined t (component_of f i) (12 - c.level) c h) ∙ ap (λ n. mean_of t (component_of f i) n c) (sym twelve) ∙ mean_by_any_depth depth (12 - depth) t (component_of f i) c grid level ∙ mean_refined t (component_of f i) (depth - c.level) c h in
      value_refined 12 t f c h ∙ (λ j. state_like (centre_state (12 - c.level) t f c) (λ i. same i j)) ∙ sym (value_refined depth t f c h)
] refl

pub components_are_means : ComponentsAreMeans
components_are_means depth t f c i deep grid level below =
    let same = value_by_any_depth depth t f c deep grid level in
    ap (λ s. value_at s i) same ∙ component_is depth t f c i (let e : count_of (value_of t f c) ≡ count_of (mean_under depth t f c) = ap count_of same in omega (arith, below, e))
