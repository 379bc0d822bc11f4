-- The parent of a visited cell is visited, and the sweep goes below it.
use Rattle.std.proofs.Common.{◌≡◌, ◌⊎◌, inl, inr, ℕ, suc, ◌+◌, ◌-◌, ◌*◌, ◌/◌, ◌%◌, ◌^◌, ◌<◌, ◌≤◌, ◌==◌, ltb, min, max, Bool, true, false, ◌&&◌, ◌||◌, Option, Some, None, arith, refl, sym, ap, subst, ◌∙◌, ⊎_elim, eq-eqb, ne_eqb}
use Rattle.std.proofs.lemmas.Bool.{cases_eq, ltb-true, lt-ltb}
use Rattle.std.proofs.lemmas.Bool.Decides.{nat_tests}
use Rattle.std.proofs.Math.Nat.{pow-succ', mul-le-mul_right}
use Rattle.peano_keys.specs.declared.cell.CellKey.{CellKey}
use Rattle.peano_keys.specs.declared.dim.Dim.{Dim}
use Rattle.peano_keys.specs.declared.dim.Dim.TheVariants.{Two, Three}
use Rattle.peano_keys.specs.Dim.{children}
use Rattle.peano_keys.specs.Cell.{at, parent_of}
use Rattle.peano_keys.specs.Grid.{Spacetree, has_cell, is_refined, IsGrid}
use Rattle.peano_curve.specs.Order.{place_of, sibling_place, rank_of}
use Rattle.peano_curve.proofs.Ranks.{rank_of-step}
use Rattle.stack_walks.proofs.GivenCorners.{and_true}
use Rattle.stack_walks.proofs.Handing.{and_both}
use Rattle.sweep_visits.specs.Plan.{SweepPlan, IsSweepPlan, IsOldGrid, dim_of, is_held, is_cell_in, is_refined_in, is_visited, is_opened}
use Rattle.sweep_visits.proofs.Closed.{ParentsAreOpen}

pub one_of : (a b : Bool) → (a || b) ≡ true → (a ≡ true) ⊎ (b ≡ true)
one_of true b e = inl refl
one_of false b e = inr e

pub or_left : (a b : Bool) → a ≡ true → (a || b) ≡ true
or_left a b e = rw e refl

pub or_right : (a b : Bool) → b ≡ true → (a || b) ≡ true
or_right true b e = refl
or_right false b e = e

place_below : (dim : Dim) (x0 x1 x2 k0 k1 k2 : ℕ) → k0 < 3 → k1 < 3 → k2 < 3 → place_of dim x0 x1 x2 k0 k1 k2 < children dim
place_below Two x0 x1 x2 k0 k1 k2 h0 h1 h2 = grind (arith, nat_tests)
place_below Three x0 x1 x2 k0 k1 k2 h0 h1 h2 = grind (arith, nat_tests)

held_up : (n r q w lo hi : ℕ) → q < n → ltb (max ((n * r + q) * w) lo) (min ((n * r + q) * w + w) hi) ≡ true → ltb (max (r * (n * w)) lo) (min (r * (n * w) + n * w) hi) ≡ true
held_up n r q w lo hi below t =
    let h = ltb-true (max ((n * r + q) * w) lo) (min ((n * r + q) * w + w) hi) t in
    let row : suc q * w ≤ n * w = mul-le-mul_right w below in
    lt-ltb (max (r * (n * w)) lo) (min (r * (n * w) + n * w) hi) (omega arith)

module _ (p : SweepPlan) where
  parent_held : (c : CellKey) → 0 < c.level → c.level ≤ p.depth → is_held p c ≡ true → is_held p (parent_of c) ≡ true
  parent_held c pos low h =
      let dim = dim_of p in
      let w : ℕ = children dim ^ (p.depth - c.level) in
      let e : p.depth - (c.level - 1) ≡ suc (p.depth - c.level) = omega arith in
      let wide : children dim ^ (p.depth - (c.level - 1)) ≡ children dim * w = ap (λ k. children dim ^ k) e ∙ pow-succ' (children dim) (p.depth - c.level) in
      let step = rank_of-step dim c pos in
      let below = place_below dim (at c 0 / 3) (at c 1 / 3) (at c 2 / 3) (at c 0 % 3) (at c 1 % 3) (at c 2 % 3) (omega arith) (omega arith) (omega arith) in
      let up = held_up (children dim) (rank_of dim (parent_of c)) (sibling_place dim c) w p.range.lo p.range.hi below (subst (λ r. ltb (max (r * w) p.range.lo) (min (r * w + w) p.range.hi) ≡ true) step h) in
      subst (λ v. ltb (max (rank_of dim (parent_of c) * v) p.range.lo) (min (rank_of dim (parent_of c) * v + v) p.range.hi) ≡ true) (sym wide) up

-- in a grid
pub record AboveIn (depth : ℕ) (t : Spacetree) (c : CellKey) : Type 0 where
  refined : is_refined t (parent_of c) ≡ true
  cell : has_cell t (parent_of c) ≡ true
  pub level : c.level ≤ depth

pub above_in : (depth : ℕ) (t : Spacetree) (c : CellKey) → IsGrid depth t → 0 < c.level → has_cell t c ≡ true → AboveIn depth t c
above_in depth t c grid pos h =
    let r : is_refined t (parent_of c) ≡ true = rw (ne_eqb c.level 0 (λ e. omega arith)) at h in
    record {
      refined = r;
      cell = ⊎_elim (λ e. or_left (c.level - 1 == 0) _ (eq-eqb (c.level - 1) 0 e)) (λ n. or_right _ _ (grid.parents (parent_of c) r (omega arith))) (cases_eq (c.level - 1) 0);
      level = omega (arith, grid.levels (parent_of c) r);
    }

module _ (p : SweepPlan) (plan : IsSweepPlan p) (c : CellKey) (pos : 0 < c.level) where
  record Above : Type 0 where
    refined : is_opened p (parent_of c) ≡ true
    cell : (is_cell_in p.old (parent_of c) || has_cell p.new (parent_of c)) ≡ true
    level : c.level ≤ p.depth

  from_old : (old : Option Spacetree) → IsOldGrid p.depth (dim_of p) old → is_cell_in old c ≡ true → (is_refined_in old (parent_of c) ≡ true) × (is_cell_in old (parent_of c) ≡ true) × (c.level ≤ p.depth)
  from_old None o h = absurd (cc)
  from_old (Some t) o h = (let a = above_in p.depth t c o.0 pos h in (a.refined, a.cell, a.level))

  above : (is_cell_in p.old c ≡ true) ⊎ (has_cell p.new c ≡ true) → Above
  above (inl h) = (let a = from_old p.old plan.old h in record { refined = or_left _ _ a.0; cell = or_left _ _ a.1; level = a.2 })
  above (inr h) = (let a = above_in p.depth p.new c plan.new pos h in record { refined = or_right _ _ a.refined; cell = or_right _ _ a.cell; level = a.level })

  parent_open : is_visited p c ≡ true → (is_visited p (parent_of c) && is_opened p (parent_of c)) ≡ true
  parent_open h =
      let f = and_true (is_held p c) _ h in
      let a = above (one_of _ _ f.1) in
      and_both _ _ (and_both _ _ (parent_held p c pos a.level f.0) a.cell) a.refined

pub parents_are_open : (p : SweepPlan) → IsSweepPlan p → ParentsAreOpen (is_visited p) (is_opened p)
parents_are_open p plan c pos h = parent_open p plan c pos h
