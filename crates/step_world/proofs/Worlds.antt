-- What stores stand for, and where a step leads them.
use Rattle.std.proofs.Common.{◌≡◌, inr, ⊎_elim, suc, pos, unwrap_or, ◌+◌, true, refl, sym, ap, subst, ◌∙◌, arith, Option, Some, None, IsSome}
use Rattle.std.proofs.lemmas.Bool.{false≢true}
use Rattle.std.specs.FinMap as map
use Rattle.std.specs.FinSet as set
use Rattle.std.specs.Cmp.{both_ways}
use Rattle.peano_keys.specs.declared.cell.CellKey.{CellKey}
use Rattle.peano_keys.specs.declared.state.State.{State}
use Rattle.peano_keys.specs.declared.state.State.TheVariants.{Single}
use Rattle.peano_keys.specs.declared.side.Mark.{Mark}
use Rattle.peano_keys.specs.declared.side.Mark.TheVariants.{Keep, Refine, Coarsen}
use Rattle.peano_keys.specs.Cell.{IsCell, centre_digits, child_of}
use Rattle.peano_keys.specs.Grid.{Spacetree, IsGrid, is_refined}
use Rattle.peano_keys.specs.Field.{States, state_at, sides_of, value_of}
use Rattle.peano_keys.specs.Next.{Merges}
use Rattle.solver_api.specs.Step.{UpdateRule, MarkRule, IsStep, marks_of, source_of}
use Rattle.spacetree.specs.Evaluation.{Evaluates, OverflowsIn, CrowdsIn}
use Rattle.spacetree.specs.declared.fault.EvalFault.TheVariants.{Overflow, Crowded, NoMemory}
use Rattle.spacetree.specs.Fields.{HasLeaves}
use Rattle.hanging_nodes.proofs.TwoGrids.{refined_there}
use Rattle.spacetree.proofs.CellMaps.{cells_total, exact_cells}
use Rattle.spacetree.proofs.Leaves.{leaf_there}
use Rattle.spacetree.proofs.NextGrids.{next_is_grid}
use Rattle.spacetree.proofs.Values.{centre_is_digits}
use Rattle.curve_cuts.specs.Cuts.{Cuts, IsCutGrid}
use Rattle.step_phases.specs.Stores.{Stores}
use Rattle.step_phases.proofs.Sweeps.{start_rests, whole_step, plain_step}
use Rattle.step_phases.proofs.Rests.{rest_is_one}
use Rattle.step_values.specs.Values.{change_of}
use Rattle.step_values.proofs.Values.{step_is_change, value_shows_leaves}
use Rattle.step_world.specs.Steps.{NextIsCut, KeptGridStays}
use Rattle.step_world.specs.Worlds.{StandFor, StandForOne, StartStands, StepStands, PlainStepStands, RunGoesOn, RunEnds}
use Rattle.spacetree.proofs.Told.{is_refine, is_coarsen, leaf_told}

pub next_is_cut : NextIsCut
next_is_cut k old new marks fits next deep = record {
  cuts = fits.cuts;
  deepest = fits.deepest;
  dim = next.dim ∙ fits.dim;
  grid = next_is_grid k.depth old new marks fits.grid next deep;
}

-- a grid is told by its refined cells, a field by its leaves
grid_is : (g h : Spacetree) → g.dim ≡ h.dim → ((c : CellKey) → is_refined g c ≡ is_refined h c) → g ≡ h
grid_is g h dims refined =
    let sets : g.refined ≡ h.refined = set.same_set cells_total exact_cells g.refined h.refined refined in
    λ i. record { dim = dims i; refined = sets i }

keep_refine : (m : Mark) → m ≡ Keep → m ≡ Refine → ⊥
keep_refine m a b = false≢true (ap is_refine (sym a ∙ b))

keep_coarsen : (m : Mark) → m ≡ Keep → m ≡ Coarsen → ⊥
keep_coarsen m a b = false≢true (ap is_coarsen (sym a ∙ b))

pub kept_grid_stays : KeptGridStays
kept_grid_stays g new marks keeps next = grid_is new g next.dim (λ c. both_ways (is_refined new c) (is_refined g c)
    (λ h. ⊎_elim (λ s. absurd (keep_refine (marks c) (keeps c) s.marked)) (λ k. k.0) ((next.refined c).0 h))
    (λ h. (next.refined c).1 (inr (h, λ (m : Merges g marks c). keep_coarsen (marks (child_of c (centre_digits g.dim))) (keeps (child_of c (centre_digits g.dim))) (m.marked (centre_digits g.dim) (centre_is_digits g.dim))))))

-- a grid for trees is one of the deepest level
pub deep_grid : (k : Cuts) (g : Spacetree) → IsCutGrid k g → IsGrid 12 g
deep_grid k g fits = record { cells = fits.grid.cells; levels = λ c h. omega (arith, fits.grid.levels c h, fits.deepest); parents = fits.grid.parents }

pub start_stands : StartStands
start_stands k g f before after fits field raised given = record { fits = fits; field = field; rest = start_rests k g (value_of g f) before after fits raised given }

pub is_there : (o p : Option State) → o ≡ p → IsSome p → IsSome o
is_there o p e h = subst (λ q. IsSome q) (sym e) h

pub is_not : (o : Option State) → o ≡ None → IsSome o → ⊥
is_not o e h = false≢true (subst (λ q. IsSome q) e h)

-- the field of a step is one on the next grid
pub field_of_next : (updated : UpdateRule) (marked : MarkRule) (g : Spacetree) (f : States) (new : Spacetree) (after : States) → IsGrid 12 g → IsStep updated marked g f new after → HasLeaves new after
field_of_next updated marked g f new after grid step c = (
  λ some. ⊎_elim (λ leaf. leaf) (λ apart. absurd (is_not (map.get after c) (step.others c apart) some)) (leaf_told new c),
  λ leaf. is_there (map.get after c) (Some (value_of g step.states (source_of g c))) (step.leaves c leaf) refl,
)

pub step_stands : StepStands
step_stands updated marked k g f new after s0 s1 s2 s3 s4 s5 s6 stands deep step moves adapted third =
    let grid = deep_grid k g stands.fits in
    let fits : IsCutGrid k new = next_is_cut k g new (marks_of marked g f) stands.fits step.grid (λ c h. deep (state_at f c) (sides_of g f c) c.level h) in
    let change = step_is_change updated marked g f new after grid (deep_grid k new fits) step in
    record {
      fits = fits;
      field = field_of_next updated marked g f new after grid step;
      rest = whole_step k (change_of updated marked g f new after) s0 s1 s2 s3 s4 s5 s6 stands.fits fits change stands.rest moves adapted third;
    }

pub plain_step_stands : PlainStepStands
plain_step_stands updated marked k g f new after s0 s1 s2 s3 s4 stands keeps step moves =
    let grid = deep_grid k g stands.fits in
    let same : new ≡ g = kept_grid_stays g new (marks_of marked g f) (λ c. keeps (state_at f c) (sides_of g f c) c.level) step.grid in
    let fits : IsCutGrid k new = subst (λ (t : Spacetree). IsCutGrid k t) (sym same) stands.fits in
    let change = step_is_change updated marked g f new after grid (deep_grid k new fits) step in
    record {
      fits = fits;
      field = field_of_next updated marked g f new after grid step;
      rest = plain_step k (change_of updated marked g f new after) s0 s1 s2 s3 s4 stands.fits change same stands.rest moves;
    }

module _ (k : Cuts) (stores : Stores) (g h : Spacetree) (f e : States) (a : StandFor k stores g f) (b : StandFor k stores h e) where
  refined_too : (c : CellKey) → is_refined g c ≡ true → is_refined h c ≡ true
  refined_too c r =
      let cell = subst (λ d. IsCell d c) a.fits.dim (a.fits.grid.cells c r) in
      let same = rest_is_one k g h (value_of g f) (value_of h e) stores a.fits b.fits a.rest b.rest c cell (refined_there k.depth g c a.fits.grid r) in
      sym same.refined ∙ r

some_equal : (o p : Option State) (d : State) → IsSome o → IsSome p → unwrap_or o d ≡ unwrap_or p d → o ≡ p
some_equal None p d h i e = absurd (false≢true h)
some_equal (Some s) None d h i e = absurd (false≢true i)
some_equal (Some s) (Some t) d h i e = ap Some e

none_if : (o : Option State) → ¬ (IsSome o) → o ≡ None
none_if None h = refl
none_if (Some s) h = absurd (h refl)

module _ (k : Cuts) (stores : Stores) (g : Spacetree) (f e : States) (a : StandFor k stores g f) (b : StandFor k stores g e) where
  same_field : f ≡ e
  same_field = map.same_map cells_total exact_cells f e (λ c. ⊎_elim
      (λ leaf.
      let cell = subst (λ d. IsCell d c) a.fits.dim leaf.cell in
      let same = rest_is_one k g g (value_of g f) (value_of g e) stores a.fits b.fits a.rest b.rest c cell (leaf_there g c leaf) in
      some_equal (map.get f c) (map.get e c) (Single (pos 0)) ((a.field c).1 leaf) ((b.field c).1 leaf) (sym (value_shows_leaves g f c leaf.leaf) ∙ same.value ∙ value_shows_leaves g e c leaf.leaf))
      (λ apart. none_if (map.get f c) (λ s. apart ((a.field c).0 s)) ∙ sym (none_if (map.get e c) (λ s. apart ((b.field c).0 s))))
      (leaf_told g c))

pub stand_for_one : StandForOne
stand_for_one k stores g h f e a b =
    let same : g ≡ h = grid_is g h (a.fits.dim ∙ sym b.fits.dim) (λ c. both_ways (is_refined g c) (is_refined h c) (refined_too k stores g h f e a b c) (refined_too k stores h g e f b a c)) in
    (same, same_field k stores g f e a (subst (λ (t : Spacetree). StandFor k stores t e) (sym same) b))

pub run_goes_on : RunGoesOn
run_goes_on updated marked k g f steps before after reached one =
    let more = one reached.0 reached.1 reached.3 in
    let next : suc steps ≡ steps + 1 = omega arith in
    (more.0, more.1, subst (λ i. Evaluates updated marked g f i more.0 more.1) next (reached.0, reached.1, reached.2, more.2), more.3)

pub run_ends : RunEnds
run_ends updated marked k g f steps all stores (Overflow s c) reached room fails =
    let h = fails reached.0 reached.1 reached.3 in
    let at : s ≡ suc steps = h.0 ∙ omega arith in
    (omega (arith, at, room), subst (λ i. OverflowsIn updated marked g f i c) (sym at) (reached.0, reached.1, reached.2, h.1))
run_ends updated marked k g f steps all stores (Crowded s cells) reached room fails =
    let h = fails reached.0 reached.1 reached.3 in
    let at : s ≡ suc steps = h.0 ∙ omega arith in
    (omega (arith, at, room), subst (λ i. CrowdsIn updated marked g f i cells) (sym at) (reached.0, reached.1, reached.2, h.1))
run_ends updated marked k g f steps all stores NoMemory reached room fails = tt
