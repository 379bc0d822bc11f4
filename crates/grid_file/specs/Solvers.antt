-- The solver of a file: its numbers, its criterion and its rule at the domain's edge; codes 8, 9 and 12.
use Rattle.std.specs.Prelude.{ℕ, ℤ, pos, Bool, true, false, List, [], ◌∷◌, Option, Some, None, ◌-◌, unwrap_or}
use Rattle.toml.specs.Data.{Data, Members}
use Rattle.peano_keys.specs.declared.dim.Dim as dims
use Rattle.solver_api.specs.declared.criterion.Criterion as criteria
use Rattle.volume_solver.specs.declared.edge.EdgeRule.{EdgeRule}
use Rattle.volume_solver.specs.declared.edge.EdgeRule.TheVariants.{Copy}
use Rattle.volume_solver.specs.declared.any.AnySolver.{AnySolver}
use Rattle.volume_solver.specs.declared.any.AnySolver.TheVariants.{Diffuse as Diffusing, Advect as Advecting, Wave as Waving}
use Rattle.grid_file.specs.declared.limits.TheConstants.{MOST_RATE, MOST_DIVISOR, MOST_DIFFERENCE}
use Rattle.grid_file.specs.declared.place.Part.TheVariants.{Document, Criterion}
use Rattle.grid_file.specs.declared.place.KeyName.TheVariants as key
use Rattle.grid_file.specs.declared.solver.SolverName.{SolverName}
use Rattle.grid_file.specs.declared.solver.SolverName.TheVariants.{Diffuse, Advect, Wave}
use Rattle.grid_file.specs.declared.solver.Rates.{Rates}
use Rattle.grid_file.specs.Places.{place_of}
use Rattle.grid_file.specs.Faults.{Check, check}
use Rattle.grid_file.specs.Tree.{number_in, number_or, table_at}
use Rattle.grid_file.specs.Values.{parts_of, wind_in, fixed_in, edge_in}
use Rattle.grid_file.specs.Keys.{at_key, key_check}

-- code 8: the numbers of the solver

-- `a`, 0 where it is absent
abbrev pub a_in : Members → Option ℕ
a_in t = number_or 0 0 MOST_RATE (at_key key.A t)

-- the `a` that the solver has, 0 where none is right
abbrev pub a_of : Members → ℕ
a_of t = unwrap_or (a_in t) 0

-- `b`
abbrev pub b_in : Members → Option ℕ
b_in t = number_in 1 MOST_DIVISOR (at_key key.B t)

-- the `b` that the solver has, 1 where none is right
abbrev pub b_of : Members → ℕ
b_of t = unwrap_or (b_in t) 1

-- the wind, none on any axis where it is absent
abbrev pub wind_of : dims.Dim → Members → List ℤ
wind_of dim t = unwrap_or (wind_in dim (at_key key.Wind t)) (pos 0 ∷ pos 0 ∷ pos 0 ∷ [])

-- these numbers
abbrev pub rates_of : dims.Dim → Members → Rates
rates_of dim t = record { a = pos (a_of t); b = pos (b_of t); wind = wind_of dim t }

-- each of them is checked behind the version, which is 1 or 2, and 1 where it is absent
abbrev pub rate_checks : dims.Dim → Members → List Check
rate_checks dim t =
    key_check Document 0 key.Version (number_or 1 1 2 (at_key key.Version t))
    ∷ key_check Document 0 key.A (a_in t)
    ∷ key_check Document 0 key.B (b_in t)
    ∷ key_check Document 0 key.Wind (wind_in dim (at_key key.Wind t))
    ∷ []

-- code 9: the criterion

-- the difference from which on a leaf is refined
abbrev pub hi_in : Members → Option ℕ
hi_in c = number_in 1 MOST_DIFFERENCE (at_key key.Hi c)

-- the `hi` that the criterion has, 1 where none is right
abbrev pub hi_of : Members → ℕ
hi_of c = unwrap_or (hi_in c) 1

-- the difference below which a leaf is coarsened
abbrev pub lo_in : ℕ → Members → Option ℕ
lo_in hi c = number_in 0 hi (at_key key.Lo c)

-- which value of a state is watched
abbrev pub watch_in : SolverName → Members → Option ℕ
watch_in solver c = number_or 0 0 (parts_of solver - 1) (at_key key.Watch c)

-- its keys, in a table
abbrev pub criterion_keys : SolverName → Members → List Check
criterion_keys solver c =
    key_check Criterion 0 key.Hi (hi_in c)
    ∷ key_check Criterion 0 key.Lo (lo_in (hi_of c) c)
    ∷ key_check Criterion 0 key.Watch (watch_in solver c)
    ∷ []

-- it is refused as a whole where it is no table
abbrev pub criterion_form : SolverName → Option Members → List Check
criterion_form solver None = check (place_of Criterion 0 key.Whole) true ∷ []
criterion_form solver (Some c) = criterion_keys solver c

-- and not at all where it is absent
abbrev pub criterion_checks : SolverName → Option Data → List Check
criterion_checks solver None = []
criterion_checks solver (Some d) = criterion_form solver (table_at (Some d))

-- the criterion that a table says, for a grid of a depth
abbrev pub criterion_with : ℕ → SolverName → Members → criteria.Criterion
criterion_with depth solver c = record {
  hi = pos (hi_of c);
  lo = pos (unwrap_or (lo_in (hi_of c) c) 0);
  watch = unwrap_or (watch_in solver c) 0;
  depth = depth;
}

-- the criterion of a table, none where there is no table
abbrev pub criterion_from : ℕ → SolverName → Option Members → Option criteria.Criterion
criterion_from depth solver None = None
criterion_from depth solver (Some c) = Some (criterion_with depth solver c)

-- none where it is absent
abbrev pub criterion_of : ℕ → SolverName → Option Data → Option criteria.Criterion
criterion_of depth solver d = criterion_from depth solver (table_at d)

-- code 12: the rule at the domain's edge

-- whether the edge is fixed
abbrev pub fixed_of : Members → Bool
fixed_of t = unwrap_or (fixed_in (at_key key.Edge t)) false

-- the rule
abbrev pub rule_in : SolverName → Members → Option EdgeRule
rule_in solver t = edge_in solver (fixed_of t) (at_key key.EdgeValue t)

-- the rule at the edge that the solver has, to copy where none is right
abbrev pub edge_of : SolverName → Members → EdgeRule
edge_of solver t = unwrap_or (rule_in solver t) Copy

-- its two keys
abbrev pub edge_checks : SolverName → Members → List Check
edge_checks solver t =
    key_check Document 0 key.Edge (fixed_in (at_key key.Edge t))
    ∷ key_check Document 0 key.EdgeValue (rule_in solver t)
    ∷ []

-- the solver of a name with its numbers; `diffuse` and `wave` take `a`, `advect` takes `wind`
abbrev pub solver_from :
    SolverName → dims.Dim → Rates → EdgeRule → Option criteria.Criterion → AnySolver
solver_from Diffuse dim r edge watch =
    Diffusing (record { dim = dim; a = r.a; b = r.b; edge = edge; watch = watch })
solver_from Advect dim r edge watch =
    Advecting (record { dim = dim; wind = r.wind; b = r.b; edge = edge; watch = watch })
solver_from Wave dim r edge watch =
    Waving (record { dim = dim; a = r.a; b = r.b; edge = edge; watch = watch })

-- the solver of a document
abbrev pub solver_with : dims.Dim → ℕ → SolverName → Members → AnySolver
solver_with dim depth solver t =
    solver_from solver dim (rates_of dim t) (edge_of solver t)
    (criterion_of depth solver (at_key key.Criterion t))
