-- The meanings of any of the solvers, by which of them it is, and their laws.
use Rattle.std.specs.Prelude.{◌≡◌, ℕ, ◌<◌, Bool, false, Option, Some}
use Rattle.peano_keys.specs.declared.dim.Dim.{Dim}
use Rattle.peano_keys.specs.declared.state.State.{State}
use Rattle.peano_keys.specs.declared.side.Sides.{Sides}
use Rattle.peano_keys.specs.declared.side.Mark.{Mark}
use Rattle.peano_keys.specs.declared.side.Mark.TheVariants.{Keep, Refine}
use Rattle.peano_keys.specs.State.{count_of}
use Rattle.solver_api.specs.declared.criterion.Criterion.{Criterion}
use Rattle.solver_api.specs.Parts.{HaveParts}
use Rattle.solver_api.specs.Marks.{mark_by, has_criterion, depth_of}
use Rattle.solver_api.proofs.Marks.{kept_without, depth_without, refined_above}
use Rattle.volume_solver.specs.declared.any.AnySolver.{AnySolver}
use Rattle.volume_solver.specs.declared.any.AnySolver.TheVariants.{Diffuse, Advect, Wave}
use Rattle.volume_solver.specs.Kernel.{diffused, advected, waved}
use Rattle.volume_solver.specs.Counts.{single_has_one, pair_has_two, new_has}

-- how many values a state has: two in a wave, else one
abbrev pub parts_in : AnySolver → ℕ
parts_in (Diffuse k) = 1
parts_in (Advect k) = 1
parts_in (Wave k) = 2

-- the new state of a leaf
abbrev pub updated_by : AnySolver → State → Sides → ℕ → Option State
updated_by (Diffuse k) = diffused k
updated_by (Advect k) = advected k
updated_by (Wave k) = waved k

-- the dimension
abbrev pub dim_in : AnySolver → Dim
dim_in (Diffuse k) = k.dim
dim_in (Advect k) = k.dim
dim_in (Wave k) = k.dim

-- the criterion, where there is one
abbrev pub watch_in : AnySolver → Option Criterion
watch_in (Diffuse k) = k.watch
watch_in (Advect k) = k.watch
watch_in (Wave k) = k.watch

-- the mark of a leaf
abbrev pub marked_by : AnySolver → State → Sides → ℕ → Mark
marked_by s = mark_by (dim_in s) (watch_in s)

-- whether there is a criterion
abbrev pub adapting_in : AnySolver → Bool
adapting_in s = has_criterion (watch_in s)

-- the criterion's depth, and 0 without one
abbrev pub deepest_in : AnySolver → ℕ
deepest_in s = depth_of (watch_in s)

pub parts_stay_in : (s : AnySolver) (own : State) (sides : Sides) (level : ℕ) (new : State)
    → HaveParts (parts_in s) own sides → updated_by s own sides level ≡ Some new
    → count_of new ≡ parts_in s
parts_stay_in (Diffuse k) own sides level new _ e = new_has 1 _ new (single_has_one _) e
parts_stay_in (Advect k) own sides level new _ e = new_has 1 _ new (single_has_one _) e
parts_stay_in (Wave k) own sides level new _ e = new_has 2 _ new (pair_has_two _ _) e

pub kept_in : (s : AnySolver) (own : State) (sides : Sides) (level : ℕ) → adapting_in s ≡ false
    → marked_by s own sides level ≡ Keep
kept_in s own sides level h = kept_without (dim_in s) (watch_in s) own sides level h

pub no_depth_in : (s : AnySolver) → adapting_in s ≡ false → deepest_in s ≡ 0
no_depth_in s h = depth_without (watch_in s) h

pub refined_in : (s : AnySolver) (own : State) (sides : Sides) (level : ℕ)
    → marked_by s own sides level ≡ Refine → level < deepest_in s
refined_in s own sides level e = refined_above (dim_in s) (watch_in s) own sides level e
