-- What a document says is in its range wherever it is not refused, so a plan with nothing refused is within its ranges.
use Rattle.std.proofs.Common.{◌≡◌, ℕ, ℤ, pos, negsuc, ◌+◌, ◌-◌, ◌^◌, ◌≤◌, ◌&&◌, List, [], ◌∷◌, ◌++◌, Option, Some, None, Bool, true, false, cond, Result, Ok, Err, IfSome, IfOk, All, nat_le, unwrap_or, slice_index, refl, sym, subst, ◌∙◌, arith}
use Rattle.std.specs.Option.{option_or, option_and_then, option_map}
use Rattle.std.proofs.lemmas.Option.{none-some}
use Rattle.std.proofs.lemmas.Bool.Decides.{nat_tests}
use Rattle.std.proofs.lemmas.List.Elements.{All-nil, All-cons}
use Rattle.toml.specs.Data.{Data, Items, Members, as_integer, as_table, no_items, item}
use Rattle.peano_keys.specs.declared.dim.Dim as dims
use Rattle.peano_keys.specs.declared.dim.Dim.TheVariants.{Two, Three}
use Rattle.peano_keys.specs.declared.state.State.{State}
use Rattle.peano_keys.specs.declared.state.State.TheVariants.{Single}
use Rattle.peano_keys.specs.Cell.{triple}
use Rattle.peano_keys.specs.State.{count_of}
use Rattle.solver_api.specs.declared.criterion.Criterion.{Criterion}
use Rattle.solver_api.specs.Marks.{depth_of as watched_depth}
use Rattle.volume_solver.specs.declared.edge.EdgeRule.{EdgeRule}
use Rattle.volume_solver.specs.Any.{parts_in, deepest_in}
use Rattle.spacetree.specs.declared.shape.Fill as filled
use Rattle.spacetree.specs.Build.{IsZone, IsSpan, IsThirdSpan}
use Rattle.spacetree.specs.Opening.{IsFill, IsBox}
use Rattle.grid_file.specs.declared.place.Part.{Part}
use Rattle.grid_file.specs.declared.place.Part.TheVariants.{Document, FillList, Fill, RefineList, Refine}
use Rattle.grid_file.specs.declared.place.KeyName.{KeyName}
use Rattle.grid_file.specs.declared.place.KeyName.TheVariants.{Whole, Depth, Base, Steps, RecutEvery, Level, From, To, Value, Until, Criterion as CriterionKey, Fill as FillKey, Refine as RefineKey}
use Rattle.grid_file.specs.declared.fault.PlanFault.{PlanFault}
use Rattle.grid_file.specs.declared.solver.SolverName.{SolverName}
use Rattle.grid_file.specs.declared.solver.SolverName.TheVariants.{Diffuse, Advect, Wave}
use Rattle.grid_file.specs.declared.plan.Plan.{Plan}
use Rattle.grid_file.specs.declared.limits.TheConstants.{DEEPEST, MOST_STEPS}
use Rattle.grid_file.specs.declared.solver.Rates.{Rates}
use Rattle.grid_file.specs.declared.version.Version.{Version}
use Rattle.grid_file.specs.declared.version.Version.TheVariants.{First, Second}
use Rattle.grid_file.specs.Tree.{whole_in, number_in, number_or, items_at, table_at, list_in}
use Rattle.grid_file.specs.Faults.{Check, first, Gives}
use Rattle.grid_file.specs.Values.{parts_of, corner_from, corner_within, from_in, to_in, beyond, single_from, pair_from, values_in, state_in, every_in}
use Rattle.grid_file.specs.Keys.{at_key, key_check, version_of, in_table, in_each, listed}
use Rattle.grid_file.specs.Head.{deepest_of, depth_in, depth_of, base_in, base_of, dim_of, solver_of}
use Rattle.grid_file.specs.Solvers.{criterion_from, edge_checks, solver_from}
use Rattle.grid_file.specs.Boxes.{put_before, read_each, list_checks, level_in, level_of, lower_in, lower_of, upper_in, upper_of, box_checks, fill_checks, fill_from, until_in, zone_checks, zone_from}
use Rattle.grid_file.specs.Plan.{steps_in, steps_of, recut_every_of, steps_checks, print_checks, recut_checks, plan_from, plan_in}
use Rattle.grid_file.specs.Stages.{head_fault, tail_fault, body_fault, first_fault}
use Rattle.grid_file.specs.Valid.{IsPlan}
use Rattle.grid_file.proofs.Searches.{first_append}

-- searches that find nothing

both_none : {T : Type 0} (a b : Option T) → option_or a b ≡ None → (a ≡ None) × (b ≡ None)
both_none (Some x) b h = absurd (none-some x (sym h))
both_none None b h = (refl, h)

-- the last of four
last_none : {T : Type 0} (a b c d : Option T) → option_or a (option_or b (option_or c (option_or d None))) ≡ None → d ≡ None
last_none a b c d h =
    let left = both_none a (option_or b (option_or c (option_or d None))) h in
    let more = both_none b (option_or c (option_or d None)) left.1 in
    (both_none d None (both_none c (option_or d None) more.1).1).0

key_rest : {T : Type 0} (code : ℕ) (part : Part) (n : ℕ) (key : KeyName) (o : Option T) (cs : List Check) → first code (key_check part n key o ∷ cs) ≡ None → first code cs ≡ None
key_rest code part n key (Some x) cs h = h
key_rest code part n key None cs h = absurd (none-some _ (sym h))

-- a key that is not refused has a value, which is as each of its values is
key_range : {T : Type 0} (P : T → Type 0) (code : ℕ) (part : Part) (n : ℕ) (key : KeyName) (o : Option T) (d : T) (cs : List Check) → IfSome o P → first code (key_check part n key o ∷ cs) ≡ None → P (unwrap_or o d)
key_range P code part n key (Some x) d cs p h = p
key_range P code part n key None d cs p h = absurd (none-some _ (sym h))

-- numbers

abbrev IsBetween : ℕ → ℕ → ℕ → Type 0
IsBetween low high n = (low ≤ n) × (n ≤ high)

and_then_range : {A B : Type 0} (P : B → Type 0) (f : A → Option B) (o : Option A) → ((a : A) → IfSome (f a) P) → IfSome (option_and_then f o) P
and_then_range P f (Some a) h = h a
and_then_range P f None h = tt

tested_range : (low high n : ℕ) (b : Bool) → (nat_le low n && nat_le n high) ≡ b → IfSome (cond b (Some n) None) (IsBetween low high)
tested_range low high n true e = (grind (arith, nat_tests), grind (arith, nat_tests))
tested_range low high n false e = tt

whole_range : (low high : ℕ) (z : ℤ) → IfSome (whole_in low high z) (IsBetween low high)
whole_range low high (pos n) = tested_range low high n (nat_le low n && nat_le n high) refl
whole_range low high (negsuc n) = tt

number_range : (low high : ℕ) (o : Option Data) → IfSome (number_in low high o) (IsBetween low high)
number_range low high (Some d) = and_then_range (IsBetween low high) (whole_in low high) (as_integer d) (whole_range low high)
number_range low high None = tt

-- corners

-- a coordinate on axis 2, which a plane has none of
abbrev IsThird : dims.Dim → ℕ → ℕ → ℕ → Type 0
IsThird Two low high x = x ≡ 0
IsThird Three low high x = IsBetween low high x

-- a corner from `low` to `high` on each axis
record IsCorner (dim : dims.Dim) (low : List ℕ) (high : ℕ) (x : List ℕ) : Type 0 where
  pub first : IsBetween (slice_index low 0) high (slice_index x 0)
  pub second : IsBetween (slice_index low 1) high (slice_index x 1)
  pub third : IsThird dim (slice_index low 2) high (slice_index x 2)

corner_from_range : (dim : dims.Dim) (low : List ℕ) (high : ℕ) (a b c : Option ℕ) → IfSome a (IsBetween (slice_index low 0) high) → IfSome b (IsBetween (slice_index low 1) high) → IfSome c (IsThird dim (slice_index low 2) high) → IfSome (corner_from a b c) (IsCorner dim low high)
corner_from_range dim low high (Some x) (Some y) (Some z) a b c = record { first = a; second = b; third = c }
corner_from_range dim low high (Some x) (Some y) None a b c = tt
corner_from_range dim low high (Some x) None c' a b c = tt
corner_from_range dim low high None b' c' a b c = tt

corner_range : (dim : dims.Dim) (low : List ℕ) (high : ℕ) (items : Items) → IfSome (corner_within dim low high items) (IsCorner dim low high)
corner_range Two low high (item x (item y no_items)) = corner_from_range Two low high (number_in (slice_index low 0) high (Some x)) (number_in (slice_index low 1) high (Some y)) (number_or 0 (slice_index low 2) high None) (number_range (slice_index low 0) high (Some x)) (number_range (slice_index low 1) high (Some y)) refl
corner_range Two low high no_items = tt
corner_range Two low high (item x no_items) = tt
corner_range Two low high (item x (item y (item z more))) = tt
corner_range Three low high (item x (item y (item z no_items))) = corner_from_range Three low high (number_in (slice_index low 0) high (Some x)) (number_in (slice_index low 1) high (Some y)) (number_or 0 (slice_index low 2) high (Some z)) (number_range (slice_index low 0) high (Some x)) (number_range (slice_index low 1) high (Some y)) (number_range (slice_index low 2) high (Some z))
corner_range Three low high no_items = tt
corner_range Three low high (item x no_items) = tt
corner_range Three low high (item x (item y no_items)) = tt
corner_range Three low high (item x (item y (item z (item w more)))) = tt

from_range : (dim : dims.Dim) (level : ℕ) (o : Option Data) → IfSome (from_in dim level o) (IsCorner dim (triple 0 0 0) (3 ^ level - 1))
from_range dim level o = and_then_range (IsCorner dim (triple 0 0 0) (3 ^ level - 1)) (corner_within dim (triple 0 0 0) (3 ^ level - 1)) (items_at o) (corner_range dim (triple 0 0 0) (3 ^ level - 1))

to_range : (dim : dims.Dim) (level : ℕ) (from : List ℕ) (o : Option Data) → IfSome (to_in dim level from o) (IsCorner dim (beyond from) (3 ^ level))
to_range dim level from o = and_then_range (IsCorner dim (beyond from) (3 ^ level)) (corner_within dim (beyond from) (3 ^ level)) (items_at o) (corner_range dim (beyond from) (3 ^ level))

span : (extent from to : ℕ) → IsBetween (from + 1) extent to → IsSpan extent from to
span extent from to h = record { order = omega (arith, h.0); end = h.1 }

third_span : (dim : dims.Dim) (extent from to : ℕ) → IsThird dim (from + 1) extent to → IsThirdSpan dim extent from to
third_span Two extent from to h = tt
third_span Three extent from to h = span extent from to h

third_end : (dim : dims.Dim) (low extent x : ℕ) → IsThird dim low extent x → x ≤ extent
third_end Two low extent x h = omega (arith, h)
third_end Three low extent x h = h.1

third_order : (dim : dims.Dim) (extent from to : ℕ) → IsThird dim 0 (extent - 1) from → IsThird dim (from + 1) extent to → from ≤ to
third_order Two extent from to h k = omega (arith, h)
third_order Three extent from to h k = omega (arith, k.0)

-- boxes

-- what a fill and a box to refine share
record IsBoxOf (dim : dims.Dim) (depth level : ℕ) (from to : List ℕ) : Type 0 where
  pub top : level ≤ depth
  pub low : IsCorner dim (triple 0 0 0) (3 ^ level - 1) from
  pub high : IsCorner dim (beyond from) (3 ^ level) to

abbrev HasBox : dims.Dim → ℕ → Members → Type 0
HasBox dim depth t = IsBoxOf dim depth (level_of depth t) (lower_of dim (level_of depth t) t) (upper_of dim (level_of depth t) (lower_of dim (level_of depth t) t) t)

box_range : (code : ℕ) (dim : dims.Dim) (depth : ℕ) (part : Part) (n : ℕ) (t : Members) (cs : List Check) → first code (box_checks dim depth part n t ++ cs) ≡ None → HasBox dim depth t × (first code cs ≡ None)
box_range code dim depth part n t cs h =
    let level = level_of depth t in
    let from = lower_of dim level t in
    let to_checks = key_check part n To (upper_in dim level from t) ∷ cs in
    let from_checks = key_check part n From (lower_in dim level t) ∷ to_checks in
    let after_level : first code from_checks ≡ None = key_rest code part n Level (level_in depth t) from_checks h in
    let after_from : first code to_checks ≡ None = key_rest code part n From (lower_in dim level t) to_checks after_level in (
      record {
        top = (key_range (IsBetween 0 depth) code part n Level (level_in depth t) 0 from_checks (number_range 0 depth (at_key Level t)) h).1;
        low = key_range (IsCorner dim (triple 0 0 0) (3 ^ level - 1)) code part n From (lower_in dim level t) (triple 0 0 0) to_checks (from_range dim level (at_key From t)) after_level;
        high = key_range (IsCorner dim (beyond from) (3 ^ level)) code part n To (upper_in dim level from t) (triple 0 0 0) cs (to_range dim level from (at_key To t)) after_from;
      },
      key_rest code part n To (upper_in dim level from t) cs after_from,
    )

box_served : (dim : dims.Dim) (depth : ℕ) (b : filled.Fill) → depth ≤ DEEPEST → IsBoxOf dim depth b.level b.from b.to → IsBox b
box_served dim depth b deep box = record {
  level = omega (arith, deep, box.top);
  first = box.high.first.1;
  first_order = omega (arith, box.high.first.0);
  second = box.high.second.1;
  second_order = omega (arith, box.high.second.0);
  third = third_end dim (slice_index b.from 2 + 1) (3 ^ b.level) (slice_index b.to 2) box.high.third;
  third_order = third_order dim (3 ^ b.level) (slice_index b.from 2) (slice_index b.to 2) box.low.third box.high.third;
}

-- states

abbrev HasParts : ℕ → State → Type 0
HasParts parts s = count_of s ≡ parts

single_range : (x : Option ℤ) → IfSome (single_from x) (HasParts 1)
single_range (Some x) = refl
single_range None = tt

pair_range : (x y : Option ℤ) → IfSome (pair_from x y) (HasParts 2)
pair_range (Some x) (Some y) = refl
pair_range (Some x) None = tt
pair_range None y = tt

values_range : (solver : SolverName) (items : Items) → IfSome (values_in solver items) (HasParts (parts_of solver))
values_range Wave (item x (item y no_items)) = pair_range (as_integer x) (as_integer y)
values_range Wave no_items = tt
values_range Wave (item x no_items) = tt
values_range Wave (item x (item y (item z more))) = tt
values_range Diffuse (item x no_items) = single_range (as_integer x)
values_range Diffuse no_items = tt
values_range Diffuse (item x (item y more)) = tt
values_range Advect (item x no_items) = single_range (as_integer x)
values_range Advect no_items = tt
values_range Advect (item x (item y more)) = tt

state_range : (solver : SolverName) (o : Option Data) → IfSome (state_in solver o) (HasParts (parts_of solver))
state_range solver o = and_then_range (HasParts (parts_of solver)) (values_in solver) (items_at o) (values_range solver)

-- fills, and boxes to refine

fill_range : (dim : dims.Dim) (depth : ℕ) (solver : SolverName) → depth ≤ DEEPEST → (n : ℕ) (t : Members) → first 10 (fill_checks dim depth solver n t) ≡ None → IsFill (parts_of solver) (fill_from dim depth solver t)
fill_range dim depth solver deep n t h =
    let box = box_range 10 dim depth Fill n t (key_check Fill n Value (state_in solver (at_key Value t)) ∷ []) h in
    record {
      box = box_served dim depth (fill_from dim depth solver t) deep box.0;
      count = key_range (HasParts (parts_of solver)) 10 Fill n Value (state_in solver (at_key Value t)) (Single (pos 0)) [] (state_range solver (at_key Value t)) box.1;
    }

zone_range : (dim : dims.Dim) (depth n : ℕ) (t : Members) → first 11 (zone_checks dim depth n t) ≡ None → IsZone dim depth (zone_from dim depth t)
zone_range dim depth n t h =
    let zone = zone_from dim depth t in
    let box = box_range 11 dim depth Refine n t (key_check Refine n Until (until_in depth t) ∷ []) h in
    let until = key_range (IsBetween 1 depth) 11 Refine n Until (until_in depth t) 0 [] (number_range 1 depth (at_key Until t)) box.1 in
    record {
      level = box.0.top;
      first = span (3 ^ zone.level) (slice_index zone.from 0) (slice_index zone.to 0) box.0.high.first;
      second = span (3 ^ zone.level) (slice_index zone.from 1) (slice_index zone.to 1) box.0.high.second;
      third = third_span dim (3 ^ zone.level) (slice_index zone.from 2) (slice_index zone.to 2) box.0.high.third;
      least = until.0;
      most = until.1;
    }

-- lists of tables

one_range : {T : Type 0} (P : T → Type 0) (code : ℕ) (checks : ℕ → Members → List Check) (read : Members → T) → ((n : ℕ) (t : Members) → first code (checks n t) ≡ None → P (read t)) → (n : ℕ) (o : Option Members) (xs : List T) → first code (in_table checks n o) ≡ None → All P xs → All P (put_before read o xs)
one_range P code checks read each n (Some t) xs h all = All-cons P (read t) xs (each n t h) all
one_range P code checks read each n None xs h all = all

each_range : {T : Type 0} (P : T → Type 0) (code : ℕ) (checks : ℕ → Members → List Check) (read : Members → T) → ((n : ℕ) (t : Members) → first code (checks n t) ≡ None → P (read t)) → (n : ℕ) (items : Items) → first code (in_each checks n items) ≡ None → All P (read_each read items)
each_range P code checks read each n no_items h = All-nil P
each_range P code checks read each n (item d rest) h =
    let both = both_none (first code (in_table checks n (as_table d))) (first code (in_each checks (n + 1) rest)) (sym (first_append code (in_table checks n (as_table d)) (in_each checks (n + 1) rest)) ∙ h) in
    one_range P code checks read each n (as_table d) (read_each read rest) both.0 (each_range P code checks read each (n + 1) rest both.1)

list_range : {T : Type 0} (P : T → Type 0) (code : ℕ) (part : Part) (checks : ℕ → Members → List Check) (read : Members → T) → ((n : ℕ) (t : Members) → first code (checks n t) ≡ None → P (read t)) → (d : Option Data) → first code (list_checks part checks d) ≡ None → All P (read_each read (listed d))
list_range P code part checks read each d h = each_range P code checks read each 0 (listed d) (key_rest code part 0 Whole (list_in d) (in_each checks 0 (listed d)) h)

-- the solver

solver_parts : (s : SolverName) (dim : dims.Dim) (r : Rates) (edge : EdgeRule) (watch : Option Criterion) → parts_in (solver_from s dim r edge watch) ≡ parts_of s
solver_parts Diffuse dim r edge watch = refl
solver_parts Advect dim r edge watch = refl
solver_parts Wave dim r edge watch = refl

solver_deepest : (s : SolverName) (dim : dims.Dim) (r : Rates) (edge : EdgeRule) (watch : Option Criterion) → deepest_in (solver_from s dim r edge watch) ≡ watched_depth watch
solver_deepest Diffuse dim r edge watch = refl
solver_deepest Advect dim r edge watch = refl
solver_deepest Wave dim r edge watch = refl

watch_range : (depth : ℕ) (s : SolverName) (o : Option Members) → watched_depth (criterion_from depth s o) ≤ depth
watch_range depth s (Some c) = omega arith
watch_range depth s None = omega arith

-- the document

-- no version goes deeper than the deepest level
deepest_served : (v : Version) (depth : ℕ) → depth ≤ deepest_of v → depth ≤ DEEPEST
deepest_served First depth h = omega (arith, h)
deepest_served Second depth h = h

depth_range : (t : Members) → head_fault t ≡ None → depth_of t ≤ DEEPEST
depth_range t h =
    let deepest = deepest_of (version_of t) in
    let dim = both_none _ _ h in
    let depth = both_none _ _ dim.1 in
    deepest_served (version_of t) (depth_of t) (key_range (IsBetween 0 deepest) 5 Document 0 Depth (depth_in t) 0 [] (number_range 0 deepest (at_key Depth t)) depth.0).1

base_range : (t : Members) → head_fault t ≡ None → base_of (depth_of t) t ≤ depth_of t
base_range t h =
    let dim = both_none _ _ h in
    let depth = both_none _ _ dim.1 in
    let base = both_none _ _ depth.1 in
    (key_range (IsBetween 0 (depth_of t)) 6 Document 0 Base (base_in (depth_of t) t) 0 [] (number_range 0 (depth_of t) (at_key Base t)) base.0).1

steps_range : (solver : SolverName) (t : Members) → tail_fault solver t ≡ None → steps_of t ≤ MOST_STEPS
steps_range solver t h =
    let edge = both_none _ _ h in
    let steps = both_none _ _ edge.1 in
    (key_range (IsBetween 0 MOST_STEPS) 13 Document 0 Steps (steps_in t) 0 [] (number_range 0 MOST_STEPS (at_key Steps t)) steps.0).1

-- a number of steps that a key says, where it stands
abbrev IsEvery : Option ℕ → Type 0
IsEvery every = IfSome every (λ n. 1 ≤ n) × IfSome every (λ n. n ≤ MOST_STEPS)

known_every : (o : Option ℕ) → IfSome o (IsBetween 1 MOST_STEPS) → IfSome (option_map Some o) IsEvery
known_every (Some n) h = h
known_every None h = tt

every_range : (o : Option Data) → IfSome (every_in o) IsEvery
every_range (Some d) = known_every (number_in 1 MOST_STEPS (Some d)) (number_range 1 MOST_STEPS (Some d))
every_range None = (tt, tt)

recut_range : (solver : SolverName) (t : Members) → tail_fault solver t ≡ None → IsEvery (recut_every_of t)
recut_range solver t h =
    key_range IsEvery 15 Document 0 RecutEvery (every_in (at_key RecutEvery t)) None [] (every_range (at_key RecutEvery t))
    (last_none (first 12 (edge_checks solver t)) (first 13 (steps_checks t)) (first 14 (print_checks t)) (first 15 (recut_checks t)) h)

parts_range : (dim : dims.Dim) (depth : ℕ) (solver : SolverName) (t : Members) → parts_in (plan_from dim depth solver t).solver ≡ parts_of solver
parts_range dim depth solver t = solver_parts solver dim _ _ _

deepest_range : (dim : dims.Dim) (depth : ℕ) (solver : SolverName) (t : Members) → deepest_in (plan_from dim depth solver t).solver ≤ depth
deepest_range dim depth solver t = subst (λ n. n ≤ depth) (sym (solver_deepest solver dim _ _ _)) (watch_range depth solver (table_at (at_key CriterionKey t)))

deep_served : (depth : ℕ) → depth ≤ DEEPEST → depth ≤ 12
deep_served depth deep = omega (arith, deep)

body_range : (dim : dims.Dim) (depth : ℕ) (solver : SolverName) (t : Members) → depth ≤ DEEPEST → base_of depth t ≤ depth → body_fault dim depth solver t ≡ None → IsPlan (plan_from dim depth solver t)
body_range dim depth solver t deep base h =
    let rates = both_none _ _ h in
    let criterion = both_none _ _ rates.1 in
    let fills = both_none _ _ criterion.1 in
    let zones = both_none _ _ fills.1 in
    record {
      shape = record {
        depth = deep_served depth deep;
        base = base;
        zones = list_range (IsZone dim depth) 11 RefineList (zone_checks dim depth) (zone_from dim depth) (zone_range dim depth) (at_key RefineKey t) zones.0;
      };
      depth = deep;
      fills = subst (λ parts. All (IsFill parts) (read_each (fill_from dim depth solver) (listed (at_key FillKey t)))) (sym (parts_range dim depth solver t)) (list_range (IsFill (parts_of solver)) 10 FillList (fill_checks dim depth solver) (fill_from dim depth solver) (fill_range dim depth solver deep) (at_key FillKey t) fills.0);
      deepest = deepest_range dim depth solver t;
      steps = steps_range solver t zones.1;
      recut_least = (recut_range solver t zones.1).0;
      recut_most = (recut_range solver t zones.1).1;
    }

-- the plan of a document in which nothing is refused
pub plan_range : (t : Members) → first_fault t ≡ None → IsPlan (plan_in t)
plan_range t h =
    let unlisted = both_none _ _ h in
    let missing = both_none _ _ unlisted.1 in
    let head = both_none _ _ missing.1 in
    body_range (dim_of t) (depth_of t) (solver_of t) t (depth_range t head.0) (base_range t head.0) head.1

-- a plan that is given is within its ranges
pub given_plan : (t : Members) (r : Result Plan PlanFault) → Gives r (first_fault t) (plan_in t) → IfOk r IsPlan
given_plan t (Ok p) h = subst IsPlan h.1 (plan_range t h.0)
given_plan t (Err fault) h = tt
