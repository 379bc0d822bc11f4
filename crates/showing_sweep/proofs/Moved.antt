-- Of the corners of the cells that a sweep leaves each hangs, or its vertex is put or pushed.
use Rattle.std.proofs.Common.{◌≡◌, ℕ, suc, ◌+◌, ◌*◌, ◌||◌, Bool, true, false, if◌then◌else◌, List, [], ◌∷◌, ◌++◌, length, refl, ap, ◌∙◌, arith, length-append}
use Rattle.std.specs.Prelude.{not, flat_map, reverse, Option, Some, None}
use Rattle.std.proofs.lemmas.Grind.{flat_map-append}
use Rattle.std.proofs.lemmas.List.{length-map}
use Rattle.peano_keys.specs.declared.cell.CellKey.{CellKey}
use Rattle.peano_keys.specs.declared.vertex.VertexKey.{VertexKey}
use Rattle.peano_keys.specs.declared.dim.Dim.{Dim}
use Rattle.peano_keys.specs.declared.dim.Dim.TheVariants.{Two, Three}
use Rattle.peano_keys.specs.Dim.{corners}
use Rattle.peano_keys.specs.Vertex.{corner_of}
use Rattle.peano_keys.specs.Grid.{Spacetree}
use Rattle.peano_curve.specs.declared.order.Direction.{Direction}
use Rattle.peano_curve.specs.declared.range.Range.{Range}
use Rattle.sweep_visits.specs.Plan.{SweepPlan, corner_numbers, is_stored}
use Rattle.sweep_visits.specs.Runs.{next_in_run, previous_in_run}
use Rattle.sweep_visits.specs.Moves.{Move, arrives, departs, corner_in, corner_out, moves_at, moves_of, output_part, put_by}
use Rattle.sweep_visits.specs.Visits.{Visit, enter, leave, visits_of}
use Rattle.sweep_streams.specs.Counts.{pushed_part, pushed_by}
use Rattle.sweep_streams.specs.Records.{left_at}
use Rattle.sweep_streams.proofs.Lists.{chosen}
use Rattle.tree_automaton.specs.AtRest.{plain_plan}
use Rattle.showing_sweep.proofs.Hanging.{hangs, at_corner, hanging_at}

-- how many vertices moves put and push
abbrev out : List Move → ℕ
out ms = length (put_by ms) + length (pushed_by ms)

out_both : (xs ys : List Move) → out (xs ++ ys) ≡ out xs + out ys
out_both xs ys =
    let puts = ap length (flat_map-append output_part xs ys) ∙ length-append (put_by xs) (put_by ys) in
    let pushes = ap length (flat_map-append pushed_part xs ys) ∙ length-append (pushed_by xs) (pushed_by ys) in
    omega (arith, puts, pushes)

as_number : (b : Bool) (n : ℕ) → length (if b then n ∷ [] else []) ≡ (if b then 1 else 0)
as_number true n = refl
as_number false n = refl

numbers_of : (dim : Dim) → length (corner_numbers dim) ≡ corners dim
numbers_of Two = refl
numbers_of Three = refl

none_more : (dim : Dim) → 0 ≡ 0 * corners dim
none_more Two = refl
none_more Three = refl

one_more : (dim : Dim) (n : ℕ) → suc n * corners dim ≡ corners dim + n * corners dim
one_more Two n = omega arith
one_more Three n = omega arith

module _ (depth : ℕ) (range : Range) (dir : Direction) (g : Spacetree) where
  abbrev p : SweepPlan
  p = plain_plan depth range dir g

  -- a corner of a cell that is left
  one_out : (v : VertexKey) (c : CellKey) (o : Option CellKey) (b : Bool) → is_stored g v ≡ b → out (if b || b then departs p v c o else []) + (if not b then 1 else 0) ≡ 1
  one_out v c (Some q) true e = refl
  one_out v c None true e = rw e refl
  one_out v c o false e = refl

  all_out : (c : CellKey) (ns : List ℕ) → out (flat_map (λ n. corner_out p c (corner_of c n)) ns) + length (chosen (hangs g c) ns) ≡ length ns
  all_out c [] = refl
  all_out c (n ∷ ns) =
      let here = one_out (corner_of c n) c (next_in_run p (corner_of c n) c) (is_stored g (corner_of c n)) refl in
      let rest = all_out c ns in
      let both = out_both (corner_out p c (corner_of c n)) (flat_map (λ m. corner_out p c (corner_of c m)) ns) in
      let listed = length-append (if hangs g c n then n ∷ [] else []) (chosen (hangs g c) ns) ∙ ap (λ m. m + length (chosen (hangs g c) ns)) (as_number (hangs g c n) n) in
      omega (arith, here, rest, both, listed)

  -- a corner of a cell that is entered
  one_in : (v : VertexKey) (c : CellKey) (o : Option CellKey) (b : Bool) → is_stored g v ≡ b → out (if b || b then arrives p v c o else []) ≡ 0
  one_in v c (Some q) true e = refl
  one_in v c None true e = rw e refl
  one_in v c o false e = refl

  none_out : (c : CellKey) (ns : List ℕ) → out (flat_map (λ n. corner_in p c (corner_of c n)) ns) ≡ 0
  none_out c [] = refl
  none_out c (n ∷ ns) =
      let here = one_in (corner_of c n) c (previous_in_run p (corner_of c n) c) (is_stored g (corner_of c n)) refl in
      let rest = none_out c ns in
      let both = out_both (corner_in p c (corner_of c n)) (flat_map (λ m. corner_in p c (corner_of c m)) ns) in
      omega (arith, here, rest, both)

  -- all visits
  along : (vs : List Visit) → out (flat_map (moves_at p) vs) + length (flat_map (hanging_at g) (flat_map left_at vs)) ≡ length (flat_map left_at vs) * corners g.dim
  along [] = none_more g.dim
  along (enter c ∷ vs) =
      let here = none_out c (reverse (corner_numbers g.dim)) in
      let rest = along vs in
      let both = out_both (moves_at p (enter c)) (flat_map (moves_at p) vs) in
      omega (arith, here, rest, both)
  along (leave c ∷ vs) =
      let here = all_out c (corner_numbers g.dim) ∙ numbers_of g.dim in
      let rest = along vs in
      let both = out_both (moves_at p (leave c)) (flat_map (moves_at p) vs) in
      let listed = length-append (hanging_at g c) (flat_map (hanging_at g) (flat_map left_at vs)) ∙ ap (λ m. m + length (flat_map (hanging_at g) (flat_map left_at vs))) (length-map (chosen (hangs g c) (corner_numbers g.dim)) (at_corner g c)) in
      let more = one_more g.dim (length (flat_map left_at vs)) in
      omega (arith, here, rest, both, listed, more)

  -- of the corners of all cells each hangs, or it is that of a vertex that is put or pushed
  pub corners_add_up : length (pushed_by (moves_of p)) + length (flat_map (hanging_at g) (flat_map left_at (visits_of p))) + length (put_by (moves_of p)) ≡ length (flat_map left_at (visits_of p)) * corners g.dim
  corners_add_up = let all = along (visits_of p) in omega (arith, all)
