-- Whole steps by means.
use Rattle.std.proofs.Common.{ℕ, ◌≤◌, ◌∙◌, arith}
use Rattle.peano_keys.specs.Grid.{Spacetree, IsGrid}
use Rattle.curve_cuts.specs.Cuts.{Cuts, IsCutGrid}
use Rattle.step_phases.specs.Stores.{Stores, AllSay}
use Rattle.step_phases.specs.Phases.{AtRest, AfterPrimary, AfterFirst}
use Rattle.step_phases.specs.SweepLaws.{Steps}
use Rattle.step_phases.proofs.Exchanges.{first_exchange}
use Rattle.step_phases.proofs.Sweeps.{primary_sweep, whole_step, plain_step}
use Rattle.peano_keys.specs.Field.{value_of}
use Rattle.step_values.proofs.Values.{step_is_change}
use Rattle.tree_sums.specs.Changes.{MeanStep, IsTreeStep, mean_change}
use Rattle.tree_sums.specs.Steps.{MeanMoves, MeanWholeStep, MeanPlainStep}
use Rattle.tree_sums.proofs.Changes.{means_make_secondary}

deep_grid : (depth : ℕ) (g : Spacetree) → depth ≤ 12 → IsGrid depth g → IsGrid 12 g
deep_grid depth g deep grid = record { cells = grid.cells; levels = λ c h. omega (arith, grid.levels c h, deep); parents = grid.parents }

-- the moves of a step by means are those of a step by its change
are_steps : (k : Cuts) (s : MeanStep) (s0 s1 s2 s3 s4 s5 : Stores) → IsTreeStep k s → AllSay k s.old (λ t. AtRest s.old (value_of s.old s.before)) s0 → MeanMoves k s s0 s1 s2 s3 s4 s5 → Steps k (mean_change s) s0 s1 s2 s4 s5
are_steps k s s0 s1 s2 s3 s4 s5 is rest moves =
    let w = mean_change s in
    let primary : AllSay k s.old (AfterPrimary k w) s1 = λ t. primary_sweep k w t (s0 t) (s1 t) (rest t) (moves.primary t) in
    let first : AllSay k s.old (λ t. AfterFirst k w) s2 = first_exchange k w s1 s2 is.fits primary moves.first in
    record {
      primary = moves.primary;
      first = moves.first;
      secondary = λ t. means_make_secondary k s t (s2 t) (s3 t) (s4 t) is (first t) (moves.secondary t) (moves.added t);
      second = moves.second;
    }

pub mean_whole_step : MeanWholeStep
mean_whole_step k s s0 s1 s2 s3 s4 s5 s6 s7 is rest moves adapted third =
    let change = step_is_change s.updated s.marked s.old s.before s.new s.after (deep_grid k.depth s.old is.step.deepest is.step.old_grid) (deep_grid k.depth s.new is.step.deepest is.step.new_grid) is.step.step in
    let new_fits : IsCutGrid k s.new = record { cuts = is.fits.cuts; deepest = is.fits.deepest; dim = is.step.step.grid.dim ∙ is.fits.dim; grid = is.step.new_grid } in
    whole_step k (mean_change s) s0 s1 s2 s4 s5 s6 s7 is.fits new_fits change rest (are_steps k s s0 s1 s2 s3 s4 s5 is rest moves) adapted third

pub mean_plain_step : MeanPlainStep
mean_plain_step k s s0 s1 s2 s3 s4 s5 is same rest moves =
    let change = step_is_change s.updated s.marked s.old s.before s.new s.after (deep_grid k.depth s.old is.step.deepest is.step.old_grid) (deep_grid k.depth s.new is.step.deepest is.step.new_grid) is.step.step in
    plain_step k (mean_change s) s0 s1 s2 s4 s5 is.fits change same rest (are_steps k s s0 s1 s2 s3 s4 s5 is rest moves)
