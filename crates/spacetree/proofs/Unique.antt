-- A step and an evaluation lead to one grid and one field, so an evaluation that goes through is refused in none of its steps.
use Rattle.std.proofs.Common.{List, zero, suc, ◌<◌, ◌≤◌, arith, ◌≡◌, ℕ, refl, ap, sym, ◌∙◌, subst, inl, inr, Option, Some, None, IsSome, IsNone}
use Rattle.std.proofs.Math.Nat.{eq-or-lt_of_le}
use Rattle.std.proofs.lemmas.Bool.{false≢true}
use Rattle.std.specs.Cmp.{both_ways}
use Rattle.std.specs.Ordering.{ordering_reverse}
use Rattle.std.specs.declared.cmp.Ordering.TheVariants.{Less, Equal, Greater}
use Rattle.std.specs.FinMap as map
use Rattle.std.specs.FinSet as set
use Rattle.peano_keys.specs.declared.cell.CellKey.{CellKey}
use Rattle.peano_keys.specs.declared.state.State.{State}
use Rattle.peano_keys.specs.declared.side.Mark.{Mark}
use Rattle.peano_keys.specs.Cell.{key_cmp}
use Rattle.peano_keys.specs.Grid.{Spacetree, is_refined}
use Rattle.peano_keys.specs.Field.{States, value_of}
use Rattle.peano_keys.specs.Next.{IsNextGrid}
use Rattle.solver_api.specs.Step.{UpdateRule, MarkRule, AreNewStates, IsStep, Overflows, marks_of, new_state, source_of}
use Rattle.spacetree.specs.Counts.{cells_of}
use Rattle.spacetree.specs.declared.shape.Shape.{Shape}
use Rattle.spacetree.specs.declared.shape.Fill.{Fill}
use Rattle.spacetree.specs.Opening.{Opens, OpensField}
use Rattle.spacetree.specs.Evaluation.{Evaluates, OverflowsIn, CrowdsIn, Crowds, IsServedStep}
use Rattle.spacetree.proofs.CellMaps.{cells_total, exact_cells}
use Rattle.spacetree.proofs.Told.{leaf_told}

-- a grid is told by its refined cells
pub same_grid : (a b : Spacetree) → a.dim ≡ b.dim → ((c : CellKey) → is_refined a c ≡ is_refined b c) → a ≡ b
same_grid a b dims refined =
    let sets : a.refined ≡ b.refined = set.same_set cells_total exact_cells a.refined b.refined refined in
    λ i. record { dim = dims i; refined = sets i }

-- a shape opens one grid
pub one_opening : (shape : Shape) (a b : Spacetree) → Opens shape a → Opens shape b → a ≡ b
one_opening shape a b h g = same_grid a b (h.dim ∙ sym g.dim) (λ c. both_ways (is_refined a c) (is_refined b c) (λ e. (g.refined c).1 ((h.refined c).0 e)) (λ e. (h.refined c).1 ((g.refined c).0 e)))

-- fills open one field on it
pub one_opening_field : (t : Spacetree) (fills : List Fill) (parts : ℕ) (a b : States) → OpensField t fills parts a → OpensField t fills parts b → a ≡ b
one_opening_field t fills parts a b h g = map.same_map cells_total exact_cells a b (λ c. elim (leaf_told t c) [
  | inl leaf ↦ h.leaves c leaf ∙ sym (g.leaves c leaf)
  | inr apart ↦ h.others c apart ∙ sym (g.others c apart)
])

-- marks make one next grid
one_grid : (old : Spacetree) (marks : CellKey → Mark) (a b : Spacetree) → IsNextGrid old marks a → IsNextGrid old marks b → a ≡ b
one_grid old marks a b h g = same_grid a b (h.dim ∙ sym g.dim) (λ c. both_ways (is_refined a c) (is_refined b c) (λ e. (g.refined c).1 ((h.refined c).0 e)) (λ e. (h.refined c).1 ((g.refined c).0 e)))

-- a field has one field of new states
one_states : (updated : UpdateRule) (t : Spacetree) (f a b : States) → AreNewStates updated t f a → AreNewStates updated t f b → a ≡ b
one_states updated t f a b h g = map.same_map cells_total exact_cells a b (λ c. elim (leaf_told t c) [
  | inl leaf ↦ h.leaves c leaf ∙ sym (g.leaves c leaf)
  | inr apart ↦ h.others c apart ∙ sym (g.others c apart)
])

one_field : (updated : UpdateRule) (marked : MarkRule) (t : Spacetree) (f : States) (new : Spacetree) (a b : States) → IsStep updated marked t f new a → IsStep updated marked t f new b → a ≡ b
one_field updated marked t f new a b h g = map.same_map cells_total exact_cells a b (λ c. elim (leaf_told new c) [
  | inl leaf ↦ h.leaves c leaf ∙ ap (λ (s : States). Some (value_of t s (source_of t c))) (one_states updated t f h.states g.states h.made g.made) ∙ sym (g.leaves c leaf)
  | inr apart ↦ h.others c apart ∙ sym (g.others c apart)
])

-- a grid and its field
abbrev pub Both : Type 0
Both = Spacetree × States

-- a step leads to one grid and field
pub one_step : (updated : UpdateRule) (marked : MarkRule) (t : Spacetree) (f : States) (u : Spacetree) (a : States) (v : Spacetree) (b : States) → IsStep updated marked t f u a → IsStep updated marked t f v b → ◌≡◌ {A = Both} (u, a) (v, b)
one_step updated marked t f u a v b h g =
    let grids : u ≡ v = one_grid t (marks_of marked t f) u v h.grid g.grid in
    let fields : a ≡ b = one_field updated marked t f v a b (subst (λ (w : Spacetree). IsStep updated marked t f w a) grids h) g in
    λ i. (grids i, fields i)

-- so many steps lead to one grid and field
pub one_end : (updated : UpdateRule) (marked : MarkRule) (t : Spacetree) (f : States) (n : ℕ) (u : Spacetree) (a : States) (v : Spacetree) (b : States) → Evaluates updated marked t f n u a → Evaluates updated marked t f n v b → ◌≡◌ {A = Both} (u, a) (v, b)
one_end updated marked t f zero u a v b h g = λ i. ((h.0 ∙ sym g.0) i, (h.1 ∙ sym g.1) i)
one_end updated marked t f (suc n) u a v b h g =
    let same : ◌≡◌ {A = Both} (h.0, h.1) (g.0, g.1) = one_end updated marked t f n h.0 h.1 g.0 g.1 h.2 g.2 in
    one_step updated marked g.0 g.1 u a v b (subst (λ (p : Both). IsStep updated marked p.0 p.1 u a) same h.3.step) g.3.step

-- the steps before the last one of an evaluation
earlier : (updated : UpdateRule) (marked : MarkRule) (t : Spacetree) (f : States) (n : ℕ) (u : Spacetree) (a : States) (s : ℕ) → s < n → Evaluates updated marked t f n u a → (v : Spacetree) × (b : States) × (w : Spacetree) × (d : States) × Evaluates updated marked t f s v b × IsServedStep updated marked v b w d
earlier updated marked t f zero u a s h told = absurd (omega arith)
earlier updated marked t f (suc n) u a s h told =
    let le : s ≤ n = omega arith in
    elim (eq-or-lt_of_le le) [
      | inl e ↦ (told.0, told.1, u, a, subst (λ k. Evaluates updated marked t f k told.0 told.1) (sym e) told.2, told.3)
      | inr l ↦ earlier updated marked t f n told.0 told.1 s l told.2
    ]

some_and_none : (o : Option State) → IsSome o → IsNone o → ⊥
some_and_none None h g = absurd (false≢true h)
some_and_none (Some s) h g = absurd (false≢true (sym g))

module _ (updated : UpdateRule) (marked : MarkRule) (t : Spacetree) (f : States) where
  -- a step that is served overflows at no leaf
  pub served_or_over : (u : Spacetree) (g : States) (c : CellKey) → IsServedStep updated marked t f u g → Overflows updated t f c → ⊥
  served_or_over u g c served over = some_and_none (new_state updated t f c) (served.step.made.updates c over.leaf) over.failed

  -- and is not crowded
  pub served_or_crowded : (u : Spacetree) (g : States) (cells : ℕ) → IsServedStep updated marked t f u g → Crowds updated marked t f cells → ⊥
  served_or_crowded u g cells served crowd =
      let next = crowd.grid.next in
      let grids : next.0 ≡ u = one_grid t (marks_of marked t f) next.0 u next.1 served.step.grid in
      absurd (omega (arith, ap cells_of grids, next.2, served.room, crowd.grid.crowded))

  -- nor is one that overflows
  pub over_or_crowded : (c : CellKey) (cells : ℕ) → Overflows updated t f c → Crowds updated marked t f cells → ⊥
  over_or_crowded c cells over crowd = some_and_none (new_state updated t f c) (crowd.updates c over.leaf) over.failed

  -- a step overflows at one leaf
  pub one_leaf : (c d : CellKey) → Overflows updated t f c → Overflows updated t f d → c ≡ d
  one_leaf c d h g = elim (key_cmp c d) as (λ o. key_cmp c d ≡ o → c ≡ d) [
    | Less ↦ λ e. absurd (some_and_none (new_state updated t f c) (g.least c h.leaf e) h.failed)
    | Equal ↦ λ e. exact_cells c d e
    | Greater ↦ λ e. absurd (some_and_none (new_state updated t f d) (h.least d g.leaf (cells_total.antisymm d c ∙ ap ordering_reverse e)) g.failed)
  ] refl

  -- and is crowded by one number of cells
  pub one_size : (n m : ℕ) → Crowds updated marked t f n → Crowds updated marked t f m → n ≡ m
  one_size n m h g = sym h.grid.next.2 ∙ ap cells_of (one_grid t (marks_of marked t f) h.grid.next.0 g.grid.next.0 h.grid.next.1 g.grid.next.1) ∙ g.grid.next.2

-- an evaluation that goes through overflows in none of its steps
pub never_overflows : (updated : UpdateRule) (marked : MarkRule) (t : Spacetree) (f : States) (n : ℕ) (u : Spacetree) (a : States) (s : ℕ) (c : CellKey) → Evaluates updated marked t f n u a → s ≤ n → OverflowsIn updated marked t f s c → ⊥
never_overflows updated marked t f n u a zero c told h fails = fails
never_overflows updated marked t f n u a (suc s) c told h fails =
    let part = earlier updated marked t f n u a s (omega arith) told in
    let same = one_end updated marked t f s fails.0 fails.1 part.0 part.1 fails.2 part.4 in
    served_or_over updated marked part.0 part.1 part.2 part.3 c part.5 (subst (λ (p : Both). Overflows updated p.0 p.1 c) same fails.3)

-- and it is crowded in none of them
pub never_crowds : (updated : UpdateRule) (marked : MarkRule) (t : Spacetree) (f : States) (n : ℕ) (u : Spacetree) (a : States) (s cells : ℕ) → Evaluates updated marked t f n u a → s ≤ n → CrowdsIn updated marked t f s cells → ⊥
never_crowds updated marked t f n u a zero cells told h fails = fails
never_crowds updated marked t f n u a (suc s) cells told h fails =
    let part = earlier updated marked t f n u a s (omega arith) told in
    let same = one_end updated marked t f s fails.0 fails.1 part.0 part.1 fails.2 part.4 in
    served_or_crowded updated marked part.0 part.1 part.2 part.3 cells part.5 (subst (λ (p : Both). Crowds updated marked p.0 p.1 cells) same fails.3)
