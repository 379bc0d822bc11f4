-- Where the calls of a sweep are: at the held cells of its grids, with a vertex's record as the run brings it.
use Rattle.std.proofs.Common.{◌≡◌, ℕ, ◌<◌, true, false, List, [], ◌∷◌, ◌++◌, None, map, length, refl, ap, sym, ◌∙◌, subst, inl, inr}
use Rattle.stack_law.specs.Once.{IsIn}
use Rattle.stack_walks.proofs.Ends.{in_flat}
use Rattle.stack_walks.proofs.GivenCorners.{in_some}
use Rattle.sweep_streams.proofs.Once.{from_map}
use Rattle.peano_keys.specs.declared.cell.CellKey.{CellKey}
use Rattle.peano_keys.specs.declared.vertex.VertexKey.{VertexKey}
use Rattle.peano_keys.specs.Dim.{corners}
use Rattle.peano_keys.specs.Vertex.{IsVertex, corner_of}
use Rattle.peano_records.specs.declared.stored.Stored.{Stored}
use Rattle.peano_records.specs.declared.view.CellView.{CellView}
use Rattle.peano_records.specs.declared.view.Corner.{Corner}
use Rattle.peano_records.specs.declared.view.Corner.TheVariants.{Vertex}
use Rattle.peano_records.specs.Slots.{fresh}
use Rattle.peano_records.specs.Tells.{corner_at}
use Rattle.peano_curve.specs.Run.{InRun}
use Rattle.vertex_stacks.specs.declared.tale.Tale.{Tale}
use Rattle.sweep_visits.specs.Plan.{IsSweepPlan, dim_of, is_stored_in}
use Rattle.sweep_visits.specs.Visits.{Visit, enter, leave, visits_of}
use Rattle.sweep_visits.specs.Runs.{previous_in_run}
use Rattle.sweep_visits.proofs.Ways.{corners_have_runs}
use Rattle.sweep_streams.specs.Records.{IsHeldCell, in_grids, entered_at}
use Rattle.sweep_streams.proofs.Records.{each_held_cell_once}
use Rattle.sweep_streams.proofs.Lists.{in_map}
use Rattle.tree_automaton.specs.Sweep.{TreeSweep}
use Rattle.tree_automaton.specs.Promises.{SameCorner}
use Rattle.tree_automaton.specs.Story.{Call, Story, IsAmong, with_calls}
use Rattle.tree_automaton.specs.Visits.{ComesFrom, CornerTaken}
use Rattle.tree_automaton.specs.Sweeps.{AllCallsFit, CallFits, IsEntered, begun, visit_of}
use Rattle.tree_automaton.specs.Journeys.{CellChanged}
use Rattle.tree_automaton.specs.Views.{CornerGiven, ViewGiven}
use Rattle.tree_automaton.proofs.Journeys.{fits_at}

-- what is among a list is in it
pub among_in : {A : Type 0} (x : A) (xs : List A) → IsAmong x xs → IsIn x xs
among_in x xs among = subst (IsIn x) (sym among.place) (at among.before)
  where
    at : (ys : List _) → IsIn x (ys ++ x ∷ among.after)
    at [] = inl refl
    at (y ∷ ys) = inr (at ys)

pub in_among : {A : Type 0} (x : A) (xs : List A) → IsIn x xs → IsAmong x xs
in_among x [] h = absurd h
in_among x (y ∷ xs) (inl e) = record { before = []; after = xs; place = ap (λ z. z ∷ xs) (sym e) }
in_among x (y ∷ xs) (inr h) = let rest = in_among x xs h in record { before = y ∷ rest.before; after = rest.after; place = ap (λ zs. y ∷ zs) rest.place }

-- the record with which a vertex begins: one of the input where the old grid stores it, else a new one
pub record Begins (p : TreeSweep) (start : List Stored) (w : VertexKey) (s : Stored) : Type 0 where
  pub key : s.key ≡ w
  pub kept : is_stored_in p.plan.old w ≡ true → IsIn s start
  pub made : is_stored_in p.plan.old w ≡ false → s ≡ fresh (dim_of p.plan) w

module _ (p : TreeSweep) (is_plan : IsSweepPlan p.plan) (start : List Stored) (tale : Tale) (calls : List Call) (visits_are : map visit_of calls ≡ visits_of p.plan) (fit : AllCallsFit (begun p start tale) calls) where
  abbrev pub told : Story
  told = with_calls (begun p start tale) calls

  entered_held : (c : CellKey) → IsIn (enter c) (map visit_of calls) → IsHeldCell p.plan (in_grids p.plan) c
  entered_held c at = ((each_held_cell_once p.plan is_plan).0.members c).0 (in_flat entered_at c (enter c) (visits_of p.plan) (subst (IsIn (enter c)) visits_are at) (inl refl))

  among_calls : (c : CellKey) (call : Call) → IsAmong call calls → call.visit ≡ enter c → IsIn (enter c) (map visit_of calls)
  among_calls c call among visit = subst (λ v. IsIn v (map visit_of calls)) visit (in_map visit_of call calls (among_in call calls among))

  module _ (c : CellKey) (n : ℕ) (s t : Stored) (below : n < corners (dim_of p.plan)) (changed : CellChanged told c n s t) where
    -- the calls are at a cell that is visited
    pub cell_held : IsHeldCell p.plan (in_grids p.plan) c
    cell_held = entered_held c (among_calls c changed.entering changed.entering_among changed.enters)

    -- of the run of its corner
    pub in_run : IsVertex (dim_of p.plan) (corner_of c n) × InRun (dim_of p.plan) (corner_of c n) p.plan.range p.plan.depth c
    in_run = corners_have_runs p.plan c n cell_held.cell cell_held.held below

    given_key : (k : Corner) → k ≡ Vertex s → CornerGiven p (corner_of c n) k → s.key ≡ corner_of c n
    given_key k e g = (subst (CornerGiven p (corner_of c n)) e g).0

    pub key_is : s.key ≡ corner_of c n
    key_is = given_key (corner_at changed.entering.given n) changed.given (changed.view.each n below)

    -- the calls keep its key and the number of its slots
    stays_vertex : (k l : Corner) (a b : Stored) → k ≡ Vertex a → l ≡ Vertex b → SameCorner k l → (b.key ≡ a.key) × (length b.slots ≡ length a.slots)
    stays_vertex k l a b e f same = subst (λ x. SameCorner (Vertex a) x) f (subst (λ x. SameCorner x l) e same)

    kept_twice : (t.key ≡ s.key) × (length t.slots ≡ length s.slots)
    kept_twice =
        let one = stays_vertex (corner_at changed.entering.given n) (corner_at changed.entering.made n) s changed.between changed.given changed.kept (changed.keeps.corners_stay n) in
        let two = stays_vertex (corner_at changed.leaving.given n) (corner_at changed.leaving.made n) changed.between t (ap (λ (v : CellView). corner_at v n) changed.same ∙ changed.kept) changed.made (changed.keeps_left.corners_stay n) in
        (two.0 ∙ one.0, two.1 ∙ one.1)

    pub key_kept : t.key ≡ s.key
    key_kept = kept_twice.0

    pub size_kept : length t.slots ≡ length s.slots
    size_kept = kept_twice.1

    -- at the first cell of the run it is the record with which the vertex begins
    pub begins : previous_in_run p.plan (corner_of c n) c ≡ None → Begins p start (corner_of c n) s
    begins none =
        let a = changed.entering_among in
        let e : Call = changed.entering in
        let m = with_calls (begun p start tale) a.before in
        let entered : IsEntered m c e.given e.made = subst (λ v. CallFits m v e.given e.made) changed.enters (fits_at (begun p start tale) a.before e a.after (subst (AllCallsFit (begun p start tale)) a.place fit)) in
        let taken : CornerTaken m c (corner_of c n) (Vertex s) = subst (CornerTaken m c (corner_of c n)) changed.given (entered.taken n below) in
        let from : ComesFrom m c (corner_of c n) None (is_stored_in p.plan.old (corner_of c n)) s = subst (λ o. ComesFrom m c (corner_of c n) o (is_stored_in p.plan.old (corner_of c n)) s) none taken.1 in
        record {
          key = key_is;
          kept = λ old. among_in s start (subst (λ b. ComesFrom m c (corner_of c n) None b s) old from).among;
          made = λ new. subst (λ b. ComesFrom m c (corner_of c n) None b s) new from;
        }

  -- a call at the enter of a cell is at one that is held, and finds the cell's view
  pub enter_held : (c : CellKey) (call : Call) → IsAmong call calls → call.visit ≡ enter c → IsHeldCell p.plan (in_grids p.plan) c
  enter_held c call among visit = entered_held c (among_calls c call among visit)

  pub enter_view : (c : CellKey) (call : Call) → IsAmong call calls → call.visit ≡ enter c → ViewGiven p c call.given
  enter_view c call among visit = (subst (λ v. CallFits (with_calls (begun p start tale) among.before) v call.given call.made) visit (fits_at (begun p start tale) among.before call among.after (subst (AllCallsFit (begun p start tale)) among.place fit))).view

  -- and there is one for each cell that is held
  entered_is : (c : CellKey) (v : Visit) → IsIn c (entered_at v) → v ≡ enter c
  entered_is c (enter q) (inl e) = ap enter (sym e)
  entered_is c (enter q) (inr h) = absurd h
  entered_is c (leave q) h = absurd h

  pub enter_of : (c : CellKey) → IsHeldCell p.plan (in_grids p.plan) c → (call : Call) × IsAmong call calls × (call.visit ≡ enter c)
  enter_of c held =
      let visit = in_some entered_at c (visits_of p.plan) (((each_held_cell_once p.plan is_plan).0.members c).1 held) in
      let found = from_map visit_of visit.0 calls (subst (IsIn visit.0) (sym visits_are) visit.1) in
      (found.0, in_among found.0 calls found.1, sym found.2 ∙ entered_is c visit.0 visit.2)
