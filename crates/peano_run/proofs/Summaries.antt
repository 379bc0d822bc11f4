-- A demonstration has one summary.
use Rattle.std.proofs.Common.{◌≡◌, ℕ, List, [], ◌∷◌, ◌++◌, length, sym, ◌∙◌, subst, arith}
use Rattle.std.proofs.lemmas.Int.{ints}
use Rattle.std.specs.Prelude.{ℤ, ◌≤ℤ◌, All, Contains}
use Rattle.std.specs.List.{flat_map}
use Rattle.peano_keys.specs.Grid.{Spacetree}
use Rattle.peano_keys.specs.Field.{States}
use Rattle.volume_solver.specs.Any.{updated_by, marked_by}
use Rattle.spacetree.specs.declared.row.Row.{Row}
use Rattle.spacetree.specs.Counts.{cells_of}
use Rattle.spacetree.specs.Fields.{rows_of}
use Rattle.spacetree.specs.Opening.{OpensField}
use Rattle.spacetree.proofs.Unique.{Both, one_opening, one_opening_field, one_end}
use Rattle.field_report.specs.Summary.{IsLow, IsHigh, IsSummary, first_values, level_line, demo_lines, count_lines, range_lines}
use Rattle.demonstration.specs.Demo.{demo, demo_solver}
use Rattle.demonstration.specs.Laws.{Leads}
use Rattle.peano_run.specs.Outcome.{OneSummary}

-- what holds of each number of a list holds of one that it contains
all_from : (P : ℤ → Type 0) (xs : List ℤ) (v : ℤ) → Contains xs v → All P xs → P v
all_from P xs v some all = subst P some.2 (all some.0 v some.1)

one_low : (rows : List Row) (v w : ℤ) → IsLow rows v → IsLow rows w → v ≡ w
one_low rows v w h g =
    let below : v ≤ℤ w = all_from (λ u. v ≤ℤ u) (first_values rows) w g.among h.least in
    let beyond : w ≤ℤ v = all_from (λ u. w ≤ℤ u) (first_values rows) v h.among g.least in
    omega (arith, ints, below, beyond)

one_high : (rows : List Row) (v w : ℤ) → IsHigh rows v → IsHigh rows w → v ≡ w
one_high rows v w h g =
    let below : w ≤ℤ v = all_from (λ u. u ≤ℤ v) (first_values rows) w g.among h.greatest in
    let beyond : v ≤ℤ w = all_from (λ u. u ≤ℤ w) (first_values rows) v h.among g.greatest in
    omega (arith, ints, below, beyond)

one_text : (n cells : ℕ) (rows : List Row) (first second : List ℕ) → IsSummary n cells rows first → IsSummary n cells rows second → first ≡ second
one_text n cells rows first second h g =
    let low = one_low rows h.low g.low h.is_low g.is_low in
    let high = one_high rows h.high g.high h.is_high g.is_high in
    h.lines ∙ (λ i. demo_lines n ++ count_lines cells (length rows) ++ range_lines (low i) (high i) ++ flat_map (level_line rows) (0 ∷ 1 ∷ 2 ∷ 3 ∷ 4 ∷ 5 ∷ [])) ∙ sym g.lines

pub one_summary : OneSummary
one_summary n first second h g =
    let grids : h.grid ≡ g.grid = one_opening (demo n).shape h.grid g.grid h.begins.grid g.begins.grid in
    let opened = subst (λ (t : Spacetree). OpensField t (demo n).fills 1 h.field) grids h.begins.field in
    let fields : h.field ≡ g.field = one_opening_field g.grid (demo n).fills 1 h.field g.field opened g.begins.field in
    let leads = subst (λ (f : States). Leads g.grid f 20 h.last_grid h.last_field) fields (subst (λ (t : Spacetree). Leads t h.field 20 h.last_grid h.last_field) grids h.leads) in
    let ends : ◌≡◌ {A = Both} (h.last_grid, h.last_field) (g.last_grid, g.last_field) = one_end (updated_by demo_solver) (marked_by demo_solver) g.grid g.field 20 h.last_grid h.last_field g.last_grid g.last_field leads g.leads in
    one_text n (cells_of g.last_grid) (rows_of g.last_field) first second (subst (λ (p : Both). IsSummary n (cells_of p.0) (rows_of p.1) first) ends h.summary) g.summary
