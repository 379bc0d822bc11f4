-- The moves of one corner, from where it comes and where it goes.
use Rattle.std.proofs.Common.{◌≡◌, ℕ, ◌<◌, ◌*◌, true, false, List, [], ◌∷◌, ◌++◌, Option, Some, None, ap, sym, ◌∙◌, subst, arith, append-nil}
use Rattle.std.proofs.lemmas.List.{append_cancel_right}
use Rattle.std.proofs.lemmas.Grind.{flat_map-append}
use Rattle.std.specs.Prelude.{if◌then◌else◌}
use Rattle.peano_keys.specs.declared.dim.Dim.{Dim}
use Rattle.peano_keys.specs.declared.dim.Dim.TheVariants.{Two, Three}
use Rattle.peano_keys.specs.declared.cell.CellKey.{CellKey}
use Rattle.peano_keys.specs.declared.vertex.VertexKey.{VertexKey}
use Rattle.peano_keys.specs.Dim.{axes, corners}
use Rattle.vertex_stacks.specs.Lists.{SweepLists}
use Rattle.sweep_visits.specs.Plan.{SweepPlan, dim_of, is_kept, is_stored, is_stored_in}
use Rattle.sweep_visits.specs.Visits.{Visit, enter, leave, visits_of}
use Rattle.sweep_visits.specs.Runs.{next_in_run, previous_in_run, lane_between}
use Rattle.sweep_visits.specs.Moves.{Move, take, put, pop, push, passing, arrives, departs, corner_in, corner_out, moves_at, moves_of}
use Rattle.sweep_visits.specs.Moments.{moves_by, arrivals_below, departures_from}
use Rattle.sweep_visits.proofs.Moments.{corners_in_turn, visits_split_moves}
use Rattle.tree_automaton.specs.Story.{Story}
use Rattle.tree_automaton.specs.Moments.{HoldsVertices}

module _ (p : SweepPlan) (c : CellKey) (w : VertexKey) where
  arriving : (o : Option CellKey) → is_kept p w ≡ true → previous_in_run p w c ≡ o → corner_in p c w ≡ arrives p w c o
  arriving o kept e = ap (λ b. if b then arrives p w c (previous_in_run p w c) else []) kept ∙ ap (arrives p w c) e

  pub comes_by_lane : (q : CellKey) (k : ℕ) → is_kept p w ≡ true → previous_in_run p w c ≡ Some q → k ≡ lane_between w c q → corner_in p c w ≡ pop k (passing w c) ∷ []
  comes_by_lane q k kept e lane = arriving (Some q) kept e ∙ ap (λ l. pop l (passing w c) ∷ []) (sym lane)

  pub comes_by_input : is_kept p w ≡ true → previous_in_run p w c ≡ None → is_stored_in p.old w ≡ true → corner_in p c w ≡ take w ∷ []
  comes_by_input kept e stored = arriving None kept e ∙ ap (λ b. if b then take w ∷ [] else []) stored

  pub comes_new : is_kept p w ≡ true → previous_in_run p w c ≡ None → is_stored_in p.old w ≡ false → corner_in p c w ≡ []
  comes_new kept e stored = arriving None kept e ∙ ap (λ b. if b then take w ∷ [] else []) stored

  pub comes_not : is_kept p w ≡ false → corner_in p c w ≡ []
  comes_not kept = ap (λ b. if b then arrives p w c (previous_in_run p w c) else []) kept

  departing : (o : Option CellKey) → is_kept p w ≡ true → next_in_run p w c ≡ o → corner_out p c w ≡ departs p w c o
  departing o kept e = ap (λ b. if b then departs p w c (next_in_run p w c) else []) kept ∙ ap (departs p w c) e

  pub goes_by_lane : (q : CellKey) (k : ℕ) → is_kept p w ≡ true → next_in_run p w c ≡ Some q → k ≡ lane_between w c q → corner_out p c w ≡ push k (passing w q) ∷ []
  goes_by_lane q k kept e lane = departing (Some q) kept e ∙ ap (λ l. push l (passing w q) ∷ []) (sym lane)

  pub goes_to_output : is_kept p w ≡ true → next_in_run p w c ≡ None → is_stored p.new w ≡ true → corner_out p c w ≡ put w ∷ []
  goes_to_output kept e stored = departing None kept e ∙ ap (λ b. if b then put w ∷ [] else []) stored

  pub goes_nowhere : is_kept p w ≡ true → next_in_run p w c ≡ None → is_stored p.new w ≡ false → corner_out p c w ≡ []
  goes_nowhere kept e stored = departing None kept e ∙ ap (λ b. if b then put w ∷ [] else []) stored

  pub goes_not : is_kept p w ≡ false → corner_out p c w ≡ []
  goes_not kept = ap (λ b. if b then departs p w c (next_in_run p w c) else []) kept

module _ (m : Story) (l : SweepLists) where
  -- what comes next, by an equation
  pub comes_next : (made more xs ys : List Move) → xs ≡ ys → HoldsVertices m made (xs ++ more) l → HoldsVertices m made (ys ++ more) l
  comes_next made more xs ys e h = subst (λ zs. HoldsVertices m made (zs ++ more) l) e h

  -- what was made, by an equation
  pub was_made : (made more xs ys : List Move) → xs ≡ ys → HoldsVertices m (made ++ xs) more l → HoldsVertices m (made ++ ys) more l
  was_made made more xs ys e h = subst (λ zs. HoldsVertices m (made ++ zs) more l) e h

  -- nothing moves
  pub nothing_moves : (made more xs : List Move) → xs ≡ [] → HoldsVertices m made (xs ++ more) l → HoldsVertices m (made ++ xs) more l
  nothing_moves made more xs e h = subst (λ zs. HoldsVertices m (made ++ zs) more l) (sym e) (subst (λ zs. HoldsVertices m zs more l) (sym (append-nil made)) (comes_next made more xs [] e h))

  -- what was made is what is not to come
  pub made_is : (made other more : List Move) → moves_of m.sweep.plan ≡ other ++ more → HoldsVertices m made more l → HoldsVertices m other more l
  made_is made other more e h = subst (λ zs. HoldsVertices m zs more l) (append_cancel_right made other more (sym h.moves ∙ e)) h

module _ (p : SweepPlan) where
  -- the moves of visits that were made, with one visit more
  pub moves_more : (made : List Visit) (v : Visit) → moves_by p (made ++ v ∷ []) ≡ moves_by p made ++ moves_at p v
  moves_more made v = flat_map-append (moves_at p) made (v ∷ []) ∙ ap (λ ms. moves_by p made ++ ms) (append-nil (moves_at p v))

  pub moves_split : (made more : List Visit) → visits_of p ≡ made ++ more → moves_of p ≡ moves_by p made ++ moves_by p more
  moves_split made more e = visits_split_moves p made more e

  pub enter_moves : (c : CellKey) → moves_at p (enter c) ≡ arrivals_below p c (corners (dim_of p))
  enter_moves c = (corners_in_turn p c).0

  pub leave_moves : (c : CellKey) → moves_at p (leave c) ≡ departures_from p c 0 (corners (dim_of p))
  leave_moves c = (corners_in_turn p c).1

pub lane_below_six : (dim : Dim) (k : ℕ) → k < 2 * axes dim → k < 6
lane_below_six Two k h = omega (arith, h)
lane_below_six Three k h = h
