-- What a file says first, and what is refused there: codes 4 to 7. Where a key is refused no plan is asked for, and its value is any.
use Rattle.std.specs.Prelude.{ℕ, Bool, true, false, not, List, [], ◌∷◌, Option, unwrap_or, is_some}
use Rattle.toml.specs.Data.{Members}
use Rattle.peano_keys.specs.declared.dim.Dim as dims
use Rattle.peano_keys.specs.declared.dim.Dim.TheVariants.{Two}
use Rattle.grid_file.specs.declared.limits.TheConstants.{DEEPEST, DEEPEST_OF_FIRST}
use Rattle.grid_file.specs.declared.place.Part.TheVariants.{Document}
use Rattle.grid_file.specs.declared.place.KeyName.TheVariants as key
use Rattle.grid_file.specs.declared.solver.SolverName.{SolverName}
use Rattle.grid_file.specs.declared.solver.SolverName.TheVariants.{Diffuse}
use Rattle.grid_file.specs.declared.version.Version.{Version}
use Rattle.grid_file.specs.declared.version.Version.TheVariants.{First, Second}
use Rattle.grid_file.specs.Places.{document_key}
use Rattle.grid_file.specs.Faults.{Check, check}
use Rattle.grid_file.specs.Tree.{number_in}
use Rattle.grid_file.specs.Values.{dimension_in, solver_in, takes_a, takes_wind}
use Rattle.grid_file.specs.Keys.{at_key, key_check, version_of}

-- the dimension
abbrev pub dim_of : Members → dims.Dim
dim_of t = unwrap_or (dimension_in (at_key key.Dim t)) Two

-- the deepest level that a document of a version may ask for
abbrev pub deepest_of : Version → ℕ
deepest_of First = DEEPEST_OF_FIRST
deepest_of Second = DEEPEST

-- the depth, at most the deepest level of the version
abbrev pub depth_in : Members → Option ℕ
depth_in t = number_in 0 (deepest_of (version_of t)) (at_key key.Depth t)

-- the depth that the document has, 0 where none is right
abbrev pub depth_of : Members → ℕ
depth_of t = unwrap_or (depth_in t) 0

-- the base, at most the depth
abbrev pub base_in : ℕ → Members → Option ℕ
base_in depth t = number_in 0 depth (at_key key.Base t)

-- the base that the document has, 0 where none is right
abbrev pub base_of : ℕ → Members → ℕ
base_of depth t = unwrap_or (base_in depth t) 0

-- the solver's name
abbrev pub solver_of : Members → SolverName
solver_of t = unwrap_or (solver_in (at_key key.Solver t)) Diffuse

-- whether one of two is so, and the other not
abbrev pub differ : Bool → Bool → Bool
differ true b = not b
differ false b = b

-- codes 4 to 6: each key by itself
abbrev pub dim_checks : Members → List Check
dim_checks t = key_check Document 0 key.Dim (dimension_in (at_key key.Dim t)) ∷ []

-- code 5: the depth
abbrev pub depth_checks : Members → List Check
depth_checks t = key_check Document 0 key.Depth (depth_in t) ∷ []

-- code 6: the base
abbrev pub base_checks : ℕ → Members → List Check
base_checks depth t = key_check Document 0 key.Base (base_in depth t) ∷ []

-- code 7: the solver, then `a` and `wind`, each missing or surplus
abbrev pub solver_checks : Members → List Check
solver_checks t =
    let solver = solver_of t in
    key_check Document 0 key.Solver (solver_in (at_key key.Solver t))
    ∷ check (document_key key.A) (differ (takes_a solver) (is_some (at_key key.A t)))
    ∷ check (document_key key.Wind) (differ (takes_wind solver) (is_some (at_key key.Wind t)))
    ∷ []
