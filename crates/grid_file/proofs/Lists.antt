-- Lists that are too short, too long, or hold something else.
use Rattle.std.proofs.Common.{◌≡◌, ◌<◌, ◌≤◌, List, [], ◌∷◌, length, Some, None, true, false, refl, ap, ◌∙◌, arith}
use Rattle.std.proofs.lemmas.Bool.Decides.{nat_tests}
use Rattle.toml.specs.View.{items_view}
use Rattle.toml.specs.declared.value.Value.{Value}
use Rattle.peano_keys.specs.declared.dim.Dim.TheVariants.{Two, Three}
use Rattle.grid_file.specs.declared.solver.SolverName.{SolverName}
use Rattle.grid_file.specs.declared.solver.SolverName.TheVariants.{Diffuse, Advect, Wave}
use Rattle.grid_file.specs.Tree.{are_tables, tables_within}
use Rattle.grid_file.specs.Values.{axes_in, values_in}
use Rattle.grid_file.proofs.Trees.{count_items-view}

-- fewer or more items than there are axes

pub axes_in-flat-short : (vs : List Value) → length vs < 2 → axes_in Two (items_view vs) ≡ None
axes_in-flat-short [] h = refl
axes_in-flat-short (v ∷ []) h = refl
axes_in-flat-short (v ∷ w ∷ vs) h = absurd (omega arith)

pub axes_in-flat-long : (vs : List Value) → 3 ≤ length vs → axes_in Two (items_view vs) ≡ None
axes_in-flat-long [] h = absurd (omega arith)
axes_in-flat-long (v ∷ []) h = absurd (omega arith)
axes_in-flat-long (v ∷ w ∷ []) h = absurd (omega arith)
axes_in-flat-long (v ∷ w ∷ u ∷ vs) h = refl

pub axes_in-solid-short : (vs : List Value) → length vs < 3 → axes_in Three (items_view vs) ≡ None
axes_in-solid-short [] h = refl
axes_in-solid-short (v ∷ []) h = refl
axes_in-solid-short (v ∷ w ∷ []) h = refl
axes_in-solid-short (v ∷ w ∷ u ∷ vs) h = absurd (omega arith)

pub axes_in-solid-long : (vs : List Value) → 4 ≤ length vs → axes_in Three (items_view vs) ≡ None
axes_in-solid-long [] h = absurd (omega arith)
axes_in-solid-long (v ∷ []) h = absurd (omega arith)
axes_in-solid-long (v ∷ w ∷ []) h = absurd (omega arith)
axes_in-solid-long (v ∷ w ∷ u ∷ []) h = absurd (omega arith)
axes_in-solid-long (v ∷ w ∷ u ∷ t ∷ vs) h = refl

-- fewer or more items than a state has values

pair_short : (vs : List Value) → length vs < 2 → values_in Wave (items_view vs) ≡ None
pair_short [] h = refl
pair_short (v ∷ []) h = refl
pair_short (v ∷ w ∷ vs) h = absurd (omega arith)

pair_long : (vs : List Value) → 3 ≤ length vs → values_in Wave (items_view vs) ≡ None
pair_long [] h = absurd (omega arith)
pair_long (v ∷ []) h = absurd (omega arith)
pair_long (v ∷ w ∷ []) h = absurd (omega arith)
pair_long (v ∷ w ∷ u ∷ vs) h = refl

pub values_in-Wave-short : (s : SolverName) (vs : List Value) → s ≡ Wave → length vs < 2 → values_in s (items_view vs) ≡ None
values_in-Wave-short s vs e h = ap (λ n. values_in n (items_view vs)) e ∙ pair_short vs h

pub values_in-Wave-long : (s : SolverName) (vs : List Value) → s ≡ Wave → 3 ≤ length vs → values_in s (items_view vs) ≡ None
values_in-Wave-long s vs e h = ap (λ n. values_in n (items_view vs)) e ∙ pair_long vs h

pub values_in-long : (s : SolverName) (vs : List Value) → (s ≡ Wave → ⊥) → 2 ≤ length vs → values_in s (items_view vs) ≡ None
values_in-long s [] n h = absurd (omega arith)
values_in-long s (v ∷ []) n h = absurd (omega arith)
values_in-long Diffuse (v ∷ w ∷ vs) n h = refl
values_in-long Advect (v ∷ w ∷ vs) n h = refl
values_in-long Wave (v ∷ w ∷ vs) n h = absurd (n refl)

-- lists of tables

pub tables_within-many : (vs : List Value) → 1000 < length vs → tables_within (items_view vs) ≡ None
tables_within-many vs h = grind (arith, nat_tests, count_items-view vs)

pub tables_within-others : (vs : List Value) → are_tables (items_view vs) ≡ false → tables_within (items_view vs) ≡ None
tables_within-others vs e = rw e refl

pub tables_within-few : (vs : List Value) → length vs ≤ 1000 → are_tables (items_view vs) ≡ true → tables_within (items_view vs) ≡ Some (items_view vs)
tables_within-few vs h e = rw e (grind (arith, nat_tests, count_items-view vs))
