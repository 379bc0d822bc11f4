-- Small sweeps compute, once the set of refined cells is replaced by a test.
use Rattle.std.proofs.Common.{◌≡◌, ℕ, ◌==◌, Bool, true, false, ◌&&◌, ◌||◌, if◌then◌else◌, List, [], ◌∷◌, Option, Some, None, reverse, flat_map, length, refl, ap, ◌∙◌}
use Rattle.peano_keys.specs.declared.cell.CellKey.{CellKey}
use Rattle.peano_keys.specs.declared.vertex.VertexKey.{VertexKey}
use Rattle.peano_keys.specs.declared.dim.Dim.{Dim}
use Rattle.peano_keys.specs.declared.dim.Dim.TheVariants.{Two, Three}
use Rattle.peano_keys.specs.Cell.{root, parent_of}
use Rattle.peano_keys.specs.Vertex.{adjacent_of, corner_of}
use Rattle.peano_keys.specs.Grid.{Cells}
use Rattle.peano_curve.specs.declared.order.Direction.{Direction}
use Rattle.peano_curve.specs.declared.order.Direction.TheVariants.{Forward, Backward}
use Rattle.stack_law.specs.Stack.{among, on_lane, pushed}
use Rattle.stack_walks.specs.Grids.{all_of}
use Rattle.sweep_visits.specs.Plan.{SweepPlan, is_held, corner_numbers}
use Rattle.sweep_visits.specs.Visits.{Visit, enter, leave, visits_at, visits_of}
use Rattle.sweep_visits.specs.Runs.{next_in_run, previous_in_run, lane_between}
use Rattle.sweep_visits.specs.Moves.{Move, take, put, pop, push, passing, same_cell, moves_at, moves_of, on_lanes, taken_by, put_by}
use Rattle.sweep_streams.specs.Records.{entered_at}
use Rattle.sweep_streams.specs.Counts.{pushed_by}
use Rattle.sweep_visits.specs.Checks.{cell}
use Rattle.sweep_streams.specs.Checks.{AreRefined, grid, sweep, Moves, centre, NineCells, RefinedCentre, RaisedCentre, CutCentre, OneMergesOneSplits, TwentySevenCells, LanesOfNineCells, CentreFindsItsVertices}

-- a sweep by tests of refined cells; where the old test is none, nothing is old
module _ (dim : Dim) (dir : Direction) (depth : ℕ) (p : SweepPlan) (old : Option (CellKey → Bool)) (new : CellKey → Bool) where
  abbrev cell_by : Option (CellKey → Bool) → CellKey → Bool
  cell_by None c = false
  cell_by (Some f) c = (c.level == 0) || f (parent_of c)

  abbrev refined_by : Option (CellKey → Bool) → CellKey → Bool
  refined_by None c = false
  refined_by (Some f) c = f c

  abbrev visits_by : List Visit
  visits_by = visits_at dim dir (λ c. is_held p c && (cell_by old c || cell_by (Some new) c)) (λ c. refined_by old c || new c) depth root

  abbrev settled_by : (CellKey → Bool) → Option CellKey → Bool
  settled_by f None = true
  settled_by f (Some c) = (c.level == 0) || f (parent_of c)

  abbrev stored_by : (CellKey → Bool) → VertexKey → Bool
  stored_by f v = all_of (λ n. settled_by f (adjacent_of dim v n)) (corner_numbers dim)

  abbrev stored_in : Option (CellKey → Bool) → VertexKey → Bool
  stored_in None v = false
  stored_in (Some f) v = stored_by f v

  abbrev arrives_by : VertexKey → CellKey → Option CellKey → List Move
  arrives_by v c (Some q) = pop (lane_between v c q) (passing v c) ∷ []
  arrives_by v c None = if stored_in old v then take v ∷ [] else []

  abbrev departs_by : VertexKey → CellKey → Option CellKey → List Move
  departs_by v c (Some q) = push (lane_between v c q) (passing v q) ∷ []
  departs_by v c None = if stored_by new v then put v ∷ [] else []

  abbrev moves_by : Visit → List Move
  moves_by (enter c) = flat_map (λ n. (if stored_in old (corner_of c n) || stored_by new (corner_of c n) then arrives_by (corner_of c n) c (previous_in_run p (corner_of c n) c) else [])) (reverse (corner_numbers dim))
  moves_by (leave c) = flat_map (λ n. (if stored_in old (corner_of c n) || stored_by new (corner_of c n) then departs_by (corner_of c n) c (next_in_run p (corner_of c n) c) else [])) (corner_numbers dim)

  abbrev all_moves : List Move
  all_moves = flat_map moves_by visits_by

-- the counts of a sweep from those of its visits and moves by tests
counted : (p : SweepPlan) (vs : List Visit) (ms : List Move) → visits_of p ≡ vs → moves_of p ≡ ms → (cells taken given pushed : ℕ) → length (flat_map entered_at vs) ≡ cells → length (taken_by ms) ≡ taken → length (put_by ms) ≡ given → length (pushed_by ms) ≡ pushed → Moves p cells taken given pushed
counted p vs ms e f cells taken given pushed a b c d = record {
  cells_are = ap (λ v. length (flat_map entered_at v)) e ∙ a;
  taken_are = ap (λ m. length (taken_by m)) f ∙ b;
  put_are = ap (λ m. length (put_by m)) f ∙ c;
  pushed_are = ap (λ m. length (pushed_by m)) f ∙ d;
}

-- a plain sweep over the grid with these refined cells
module _ (dim : Dim) (dir : Direction) (depth lo hi : ℕ) (cs : List CellKey) (r : Cells) (h : AreRefined r cs) where
  abbrev test : CellKey → Bool
  test c = among same_cell c cs

  abbrev plain : SweepPlan
  plain = sweep (Some (grid dim r)) (grid dim r) depth lo hi dir

  abbrev raising : SweepPlan
  raising = sweep None (grid dim r) depth lo hi dir

  plain_visits : visits_of plain ≡ visits_by dim dir depth plain (Some test) test
  plain_visits = λ i. visits_by dim dir depth plain (Some (λ c. h c i)) (λ c. h c i)

  plain_moves : moves_of plain ≡ all_moves dim dir depth plain (Some test) test
  plain_moves = λ i. all_moves dim dir depth plain (Some (λ c. h c i)) (λ c. h c i)

  raising_visits : visits_of raising ≡ visits_by dim dir depth raising None test
  raising_visits = λ i. visits_by dim dir depth raising None (λ c. h c i)

  raising_moves : moves_of raising ≡ all_moves dim dir depth raising None test
  raising_moves = λ i. all_moves dim dir depth raising None (λ c. h c i)

pub nine_cells : NineCells
nine_cells r h = (let cs = root ∷ [] in counted (plain Two Forward 1 0 9 cs r h) _ _ (plain_visits Two Forward 1 0 9 cs r h) (plain_moves Two Forward 1 0 9 cs r h) 10 20 20 20 refl refl refl refl)

pub refined_centre : RefinedCentre
refined_centre r h =
    let cs = root ∷ centre ∷ [] in
    (counted (plain Two Forward 2 0 81 cs r h) _ _ (plain_visits Two Forward 2 0 81 cs r h) (plain_moves Two Forward 2 0 81 cs r h) 19 24 24 32 refl refl refl refl, counted (plain Two Backward 2 0 81 cs r h) _ _ (plain_visits Two Backward 2 0 81 cs r h) (plain_moves Two Backward 2 0 81 cs r h) 19 24 24 32 refl refl refl refl)

pub raised_centre : RaisedCentre
raised_centre r h = (let cs = root ∷ centre ∷ [] in counted (raising Two Forward 2 0 81 cs r h) _ _ (raising_visits Two Forward 2 0 81 cs r h) (raising_moves Two Forward 2 0 81 cs r h) 19 0 24 32 refl refl refl refl)

pub cut_centre : CutCentre
cut_centre r h = (let cs = root ∷ centre ∷ [] in counted (plain Two Forward 2 0 40 cs r h) _ _ (plain_visits Two Forward 2 0 40 cs r h) (plain_moves Two Forward 2 0 40 cs r h) 10 18 18 12 refl refl refl refl)

pub twenty_seven_cells : TwentySevenCells
twenty_seven_cells r h = (let cs = root ∷ [] in counted (plain Three Forward 1 0 27 cs r h) _ _ (plain_visits Three Forward 1 0 27 cs r h) (plain_moves Three Forward 1 0 27 cs r h) 28 72 72 152 refl refl refl refl)

pub one_merges_one_splits : OneMergesOneSplits
one_merges_one_splits old new h g =
    let p = sweep (Some (grid Two old)) (grid Two new) 2 0 81 Forward in
    let t = λ (c : CellKey). among same_cell c (root ∷ cell 1 0 0 ∷ []) in
    let u = λ (c : CellKey). among same_cell c (root ∷ cell 1 0 1 ∷ []) in
    let vs : visits_of p ≡ visits_by Two Forward 2 p (Some t) u = λ i. visits_by Two Forward 2 p (Some (λ c. h c i)) (λ c. g c i) in
    let ms : moves_of p ≡ all_moves Two Forward 2 p (Some t) u = λ i. all_moves Two Forward 2 p (Some (λ c. h c i)) (λ c. g c i) in
    counted p _ _ vs ms 28 29 26 50 refl refl refl refl

pub lanes_of_nine_cells : LanesOfNineCells
lanes_of_nine_cells r h =
    let e = plain_moves Two Forward 1 0 9 (root ∷ []) r h in
    (ap (λ m. pushed (on_lane 0 (on_lanes m))) e ∙ refl, ap (λ m. pushed (on_lane 1 (on_lanes m))) e ∙ refl, ap (λ m. pushed (on_lane 2 (on_lanes m))) e ∙ refl, ap (λ m. pushed (on_lane 3 (on_lanes m))) e ∙ refl)

pub centre_finds_its_vertices : CentreFindsItsVertices
centre_finds_its_vertices r h =
    let p = plain Two Forward 2 0 81 (root ∷ centre ∷ []) r h in
    let t = λ (c : CellKey). among same_cell c (root ∷ centre ∷ []) in
    let e : moves_at p (enter centre) ≡ moves_by Two Forward 2 p (Some t) t (enter centre) = λ i. moves_by Two Forward 2 p (Some (λ c. h c i)) (λ c. h c i) (enter centre) in
    e ∙ refl
