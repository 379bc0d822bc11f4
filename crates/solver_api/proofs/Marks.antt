-- What marks by a criterion always are.
use Rattle.std.proofs.Common.{◌≡◌, refl, sym, subst, ℕ, ◌<◌, Bool, true, false, ◌&&◌, if◌then◌else◌, nat_lt, arith}
use Rattle.std.specs.Prelude.{Option, None, Some}
use Rattle.std.proofs.lemmas.Bool.Decides.{nat_tests}
use Rattle.std.specs.List.{list_any, list_all}
use Rattle.peano_keys.specs.declared.dim.Dim.{Dim}
use Rattle.peano_keys.specs.declared.state.State.{State}
use Rattle.peano_keys.specs.declared.side.Sides.{Sides}
use Rattle.peano_keys.specs.declared.side.Mark.TheVariants.{Keep, Refine, Coarsen}
use Rattle.peano_keys.specs.State.{count_of}
use Rattle.solver_api.specs.declared.criterion.Criterion.{Criterion}
use Rattle.solver_api.specs.Parts.{HaveParts}
use Rattle.solver_api.specs.Marks.{mark_by, has_criterion, depth_of, differences, is_at_least, is_below}

-- states that have `n` values have as many as the leaf's own
pub have_own_parts : (n : ℕ) (own : State) (sides : Sides) → HaveParts n own sides → HaveParts (count_of own) own sides
have_own_parts n own sides h = subst (λ m. HaveParts m own sides) (sym h.itself) h

-- without a criterion each leaf is kept
pub kept_without : (dim : Dim) (watch : Option Criterion) (own : State) (sides : Sides) (level : ℕ) → has_criterion watch ≡ false → mark_by dim watch own sides level ≡ Keep
kept_without dim None own sides level h = refl
kept_without dim (Some c) own sides level h = cc

-- and the depth is 0
pub depth_without : (watch : Option Criterion) → has_criterion watch ≡ false → depth_of watch ≡ 0
depth_without None h = refl
depth_without (Some c) h = cc

-- a choice that is `Refine` has passed both its tests
refined_by : (a b c : Bool) → (if a && b then Refine else (if c then Coarsen else Keep)) ≡ Refine → b ≡ true
refined_by true true c e = refl
refined_by true false true e = cc
refined_by true false false e = cc
refined_by false b true e = cc
refined_by false b false e = cc

below_by_test : (a b : ℕ) → nat_lt a b ≡ true → a < b
below_by_test a b h = grind (arith, nat_tests)

-- a leaf that is refined is of a level above the depth
pub refined_above : (dim : Dim) (watch : Option Criterion) (own : State) (sides : Sides) (level : ℕ) → mark_by dim watch own sides level ≡ Refine → level < depth_of watch
refined_above dim None own sides level e = cc
refined_above dim (Some c) own sides level e = below_by_test level c.depth (refined_by (list_any (is_at_least c.hi) (differences dim c.watch own sides)) (nat_lt level c.depth) (list_all (is_below c.lo) (differences dim c.watch own sides)) e)
