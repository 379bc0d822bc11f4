-- Through all steps of a demonstration its values stay within their bounds, and no step is refused.
use Rattle.std.proofs.Common.{◌≡◌, ℕ, zero, suc, ◌≤◌, ◌-◌, Bool, true, false, cond, [], ◌∷◌, length, sym, ◌∙◌, subst, arith, inl, inr, lit<, Option, Some, None, IsNone, unwrap_or}
use Rattle.std.proofs.lemmas.Bool.{cases_lt, false≢true}
use Rattle.std.proofs.lemmas.Int.{ints, by_lt_z}
use Rattle.std.specs.Prelude.{ℤ, pos, negsuc, ◌≤ℤ◌, All}
use Rattle.std.specs.FinMap as map
use Rattle.std.specs.FinSet as set
use Rattle.std.specs.Int.{w64}
use Rattle.std.specs.Int.RustNames.{FitsSigned}
use Rattle.peano_keys.specs.declared.dim.Dim.TheVariants.{Two}
use Rattle.peano_keys.specs.declared.cell.CellKey.{CellKey}
use Rattle.peano_keys.specs.declared.state.State.{State}
use Rattle.peano_keys.specs.declared.state.State.TheVariants.{Single, Pair, Triple, Quadruple}
use Rattle.peano_keys.specs.declared.side.Mark.{Mark}
use Rattle.peano_keys.specs.declared.side.Side.{Side}
use Rattle.peano_keys.specs.declared.side.Side.TheVariants.{Same, Coarse}
use Rattle.peano_keys.specs.Cell.{IsCell, parent_of}
use Rattle.peano_keys.specs.Grid.{Spacetree, IsGrid, is_refined, has_cell}
use Rattle.peano_keys.specs.Sums.{weight, leaf_sum}
use Rattle.peano_keys.specs.Field.{States, state_at, centre_state, state_like, component_of, component_mean, value_of, covering_state, side_at, sides_of, face_on}
use Rattle.peano_keys.specs.Cell.{neighbour_of}
use Rattle.peano_keys.specs.Next.{IsNextGrid}
use Rattle.solver_api.specs.Step.{IsLeafOf, marks_of, new_state, source_of}
use Rattle.volume_solver.specs.Any.{updated_by, marked_by, refined_in}
use Rattle.spacetree.specs.Counts.{cells_of}
use Rattle.spacetree.specs.Evaluation.{OverflowsIn, CrowdsIn, IsServedStep}
use Rattle.spacetree.proofs.Leaves.{leaf_there, parent_refined}
use Rattle.cell_sums.specs.Bounds.{LiesBetween}
use Rattle.cell_sums.proofs.Sums.{weight_positive}
use Rattle.cell_sums.proofs.Bounds.{floor_is_between, means_are_between}
use Rattle.spacetree.proofs.NextGrids.{next_is_grid}
use Rattle.demonstration.specs.Demo.{demo_solver}
use Rattle.demonstration.specs.Laws.{IsWithin, SeesWithin, HasWithin, Begins, Leads, StaysThroughout, NeverRefused}
use Rattle.demonstration.proofs.Kernel.{stays_between}
use Rattle.demonstration.proofs.Covers.{above, length_above_5, among_above, len_at_most, cells_at_most}
use Rattle.demonstration.proofs.Openings.{opening_grid, opens_within}

-- what holds where a fact does, and where it does not
either_way : (P : Type 0) (a b : ℤ) → (P → a ≤ℤ b) → (¬ P → a ≤ℤ b) → a ≤ℤ b
either_way P a b there apart = by_lt_z b a (λ below. apart (λ p. let h = there p in absurd (omega (arith, ints, below, h)))) (λ h. h)

within_either_way : (P : Type 0) (low high : ℤ) (s : State) → (P → IsWithin low high s) → (¬ P → IsWithin low high s) → IsWithin low high s
within_either_way P low high s there apart = record { least = either_way P _ _ (λ p. (there p).least) (λ p. (apart p).least); most = either_way P _ _ (λ p. (there p).most) (λ p. (apart p).most) }

-- the marks of a demonstration's field
abbrev marks : Spacetree → States → CellKey → Mark
marks t f = marks_of (marked_by demo_solver) t f

module _ (low high : ℤ) (fl : FitsSigned w64 low) (fh : FitsSigned w64 high) (below : low ≤ℤ pos 0) (beyond : pos 0 ≤ℤ high) where
  -- the state of each cell lies within
  abbrev Everywhere : States → Type 0
  Everywhere f = (c : CellKey) → IsWithin low high (state_at f c)

  -- that of a cell that the field does not have is 0
  everywhere : (t : Spacetree) (f : States) → HasWithin low high t f → ((c : CellKey) → ¬ IsLeafOf t c → map.get f c ≡ None) → Everywhere f
  everywhere t f has others c =
      let nothing : IsWithin low high (Single (pos 0)) = record { least = below; most = beyond } in
      within_either_way (IsLeafOf t c) low high (state_at f c) (has c) (λ apart. subst (λ (o : Option State). IsWithin low high (unwrap_or o (Single (pos 0)))) (sym (others c apart)) nothing)

  like_within : (s : State) (m : ℕ → ℤ) → LiesBetween low high (m 0) → IsWithin low high (state_like s m)
  like_within (Single a) m b = record { least = b.low; most = b.high }
  like_within (Pair a c) m b = record { least = b.low; most = b.high }
  like_within (Triple a c d) m b = record { least = b.low; most = b.high }
  like_within (Quadruple a c d e) m b = record { least = b.low; most = b.high }

  value_within : (t : Spacetree) (f : States) (c : CellKey) → Everywhere f → IsWithin low high (value_of t f c)
  value_within t f c all =
      let n : ℕ = 12 - c.level in
      let sums = (means_are_between t (component_of f 0) low high (λ q. record { low = (all q).least; high = (all q).most }) n c).0 in
      elim (is_refined t c) as (λ b. IsWithin low high (cond b (state_like (centre_state n t f c) (component_mean 12 t f c)) (state_at f c))) [
        | true ↦ like_within (centre_state n t f c) (component_mean 12 t f c) (floor_is_between low high (leaf_sum t (component_of f 0) n c) (weight t.dim n) (weight_positive t.dim n) sums)
        | false ↦ all c
      ]

  cover_within : (levels : ℕ) (t : Spacetree) (f : States) (c : CellKey) → Everywhere f → IsWithin low high (covering_state levels t f c)
  cover_within zero t f c all = all c
  cover_within (suc levels) t f c all = elim (has_cell t c) as (λ b. IsWithin low high (cond b (state_at f c) (covering_state levels t f (parent_of c)))) [
    | true ↦ all c
    | false ↦ cover_within levels t f (parent_of c) all
  ]

  side_within : (t : Spacetree) (f : States) (place : Option CellKey) → Everywhere f → SeesWithin low high (side_at t f place)
  side_within t f None all = tt
  side_within t f (Some n) all = elim (has_cell t n) as (λ b. SeesWithin low high (cond b (Same (value_of t f n)) (Coarse (covering_state n.level t f n)))) [
    | true ↦ value_within t f n all
    | false ↦ cover_within n.level t f n all
  ]

  all_four : (a b c d : Side) → SeesWithin low high a → SeesWithin low high b → SeesWithin low high c → SeesWithin low high d → All (SeesWithin low high) (a ∷ b ∷ c ∷ d ∷ [])
  all_four a b c d p q r s zero x h = p
  all_four a b c d p q r s (suc zero) x h = q
  all_four a b c d p q r s (suc (suc zero)) x h = r
  all_four a b c d p q r s (suc (suc (suc zero))) x h = s
  all_four a b c d p q r s (suc (suc (suc (suc k)))) x h = absurd (omega (arith, h))

  -- a moment of a demonstration
  record IsMoment (t : Spacetree) (f : States) : Type 0 where
    dim : t.dim ≡ Two
    grid : IsGrid 5 t
    all : Everywhere f

  -- each leaf has a new state, which lies within
  updates : (t : Spacetree) (f : States) (c : CellKey) → Everywhere f → c.level ≤ 5 → (new : State) × (new_state (updated_by demo_solver) t f c ≡ Some new) × IsWithin low high new
  updates t f c all shallow = stays_between low high (state_at f c) (sides_of t f c) c.level fl fh shallow (all c)
      (all_four _ _ _ _ (side_within t f (place 0 false) all) (side_within t f (place 0 true) all) (side_within t f (place 1 false) all) (side_within t f (place 1 true) all)) where
        place : ℕ → Bool → Option CellKey
        place i up = neighbour_of c (face_on i up)

  leaf_level : (t : Spacetree) (c : CellKey) → IsGrid 5 t → IsLeafOf t c → c.level ≤ 5
  leaf_level t c grid leaf = elim (cases_lt 0 c.level) [
    | inl deep ↦ omega (arith, grid.levels (parent_of c) (parent_refined t c deep (leaf_there t c leaf)))
    | inr root ↦ omega (arith, root)
  ]

  deeper : (t : Spacetree) → IsGrid 5 t → IsGrid 12 t
  deeper t grid = record { cells = grid.cells; levels = λ c e. omega (arith, grid.levels c e); parents = grid.parents }

  next_grid : (t : Spacetree) (f : States) (u : Spacetree) → IsMoment t f → IsNextGrid t (marks t f) u → IsGrid 5 u
  next_grid t f u m next = next_is_grid 5 t u (marks t f) m.grid next (λ c e. refined_in demo_solver (state_at f c) (sides_of t f c) c.level e)

  next_moment : (t : Spacetree) (f : States) (u : Spacetree) (g : States) → IsMoment t f → IsServedStep (updated_by demo_solver) (marked_by demo_solver) t f u g → IsMoment u g
  next_moment t f u g m served = record {
    dim = served.step.grid.dim ∙ m.dim;
    grid = next_grid t f u m served.step.grid;
    all = everywhere u g (λ c leaf. subst (λ (o : Option State). IsWithin low high (unwrap_or o (Single (pos 0)))) (sym (served.step.leaves c leaf)) (value_within t served.step.states (source_of t c) (made t f u g m served))) served.step.others;
  } where
    made : (t : Spacetree) (f : States) (u : Spacetree) (g : States) (m : IsMoment t f) (served : IsServedStep (updated_by demo_solver) (marked_by demo_solver) t f u g) → Everywhere served.step.states
    made t f u g m served = everywhere t served.step.states (λ c leaf.
        let new = updates t f c m.all (leaf_level t c m.grid leaf) in
        subst (λ (o : Option State). IsWithin low high (unwrap_or o (Single (pos 0)))) (sym (served.step.made.leaves c leaf ∙ new.1)) new.2) served.step.made.others

  moments : (t : Spacetree) (f : States) (steps : ℕ) (u : Spacetree) (g : States) → IsMoment t f → Leads t f steps u g → IsMoment u g
  moments t f zero u g m told = subst (λ (h : States). IsMoment u h) (sym told.1) (subst (λ (s : Spacetree). IsMoment s f) (sym told.0) m)
  moments t f (suc n) u g m told = next_moment told.0 told.1 u g (moments t f n told.0 told.1 m told.2) told.3

  first_moment : (n : ℕ) (t : Spacetree) (f : States) → Begins n t f → HasWithin low high t f → IsMoment t f
  first_moment n t f begins has = record { dim = begins.grid.dim; grid = opening_grid n t begins.grid; all = everywhere t f has begins.field.others }

  has_no_state : (o : Option State) (s : State) → o ≡ Some s → IsNone o → ⊥
  has_no_state o s e none = false≢true (sym (subst (λ (o : Option State). IsNone o) e none))

  no_overflow : (t : Spacetree) (f : States) (step : ℕ) (c : CellKey) → IsMoment t f → ¬ OverflowsIn (updated_by demo_solver) (marked_by demo_solver) t f step c
  no_overflow t f zero c m over = over
  no_overflow t f (suc n) c m over =
      let last = moments t f n over.0 over.1 m over.2 in
      let made = updates over.0 over.1 c last.all (leaf_level over.0 c last.grid over.3.leaf) in
      has_no_state (new_state (updated_by demo_solver) over.0 over.1 c) made.0 made.1 over.3.failed

  -- a grid of depth 5 in the plane has at most 66,430 cells
  few_cells : (t : Spacetree) → t.dim ≡ Two → IsGrid 5 t → cells_of t ≤ 66430
  few_cells t plane grid =
      let few : set.len t.refined ≤ length (above 5) = len_at_most t.refined (above 5) (λ c h. among_above 5 c (subst (λ d. IsCell d c) plane (grid.cells c h)) (grid.levels c h)) in
      cells_at_most t 7381 plane (omega (arith, few, length_above_5))

  no_crowd : (t : Spacetree) (f : States) (step cells : ℕ) → IsMoment t f → ¬ CrowdsIn (updated_by demo_solver) (marked_by demo_solver) t f step cells
  no_crowd t f zero cells m crowd = crowd
  no_crowd t f (suc n) cells m crowd =
      let last = moments t f n crowd.0 crowd.1 m crowd.2 in
      let next = crowd.3.grid.next in
      let size = few_cells next.0 (next.1.dim ∙ last.dim) (next_grid crowd.0 crowd.1 next.0 last next.1) in
      absurd (omega (arith, size, next.2, crowd.3.grid.crowded))

pub stays_throughout : StaysThroughout
stays_throughout n steps low high t f u g fl fh below beyond begins has told c leaf =
    (moments low high fl fh below beyond t f steps u g (first_moment low high fl fh below beyond n t f begins has) told).all c

pub never_refused : NeverRefused
never_refused n steps t f begins =
    let fl : FitsSigned w64 (negsuc 999) = record { sfits = lit< tt } in
    let fh : FitsSigned w64 (pos 1000) = record { sfits = lit< tt } in
    let below : negsuc 999 ≤ℤ pos 0 = omega (arith, ints) in
    let beyond : pos 0 ≤ℤ pos 1000 = omega (arith, ints) in
    let start = first_moment (negsuc 999) (pos 1000) fl fh below beyond n t f begins (opens_within n t f begins) in
    (λ s c h. no_overflow (negsuc 999) (pos 1000) fl fh below beyond t f s c start, λ s cells h. no_crowd (negsuc 999) (pos 1000) fl fh below beyond t f s cells start)
