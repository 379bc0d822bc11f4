-- Along the run of a vertex.
use Rattle.std.proofs.Common.{◌≡◌, ℕ, zero, suc, ◌+◌, ◌<◌, Bool, true, false, List, [], ◌∷◌, ◌++◌, Option, Some, None, length, refl, ap, sym, ◌∙◌, subst, arith, inl, inr, append_assoc, append-nil, length-append}
use Rattle.peano_keys.specs.declared.cell.CellKey.{CellKey}
use Rattle.peano_keys.specs.declared.vertex.VertexKey.{VertexKey}
use Rattle.peano_keys.specs.Dim.{corners}
use Rattle.peano_keys.specs.Vertex.{corner_of}
use Rattle.peano_records.specs.declared.stored.Stored.{Stored}
use Rattle.peano_records.specs.declared.view.Corner.{Corner}
use Rattle.peano_records.specs.declared.view.Corner.TheVariants.{Vertex, Hanging, Beyond}
use Rattle.peano_records.specs.Tells.{corner_at}
use Rattle.vertex_stacks.specs.declared.tale.Tale.{Tale}
use Rattle.sweep_visits.specs.Plan.{dim_of, is_stored_in}
use Rattle.sweep_visits.specs.Visits.{leave}
use Rattle.sweep_visits.specs.Runs.{next_in_run, previous_in_run}
use Rattle.tree_automaton.specs.Sweep.{TreeSweep}
use Rattle.tree_automaton.specs.Promises.{SameCorner}
use Rattle.tree_automaton.specs.Story.{Call, Story, WasLeft, with_calls}
use Rattle.tree_automaton.specs.Visits.{ComesFrom, CornerTaken}
use Rattle.tree_automaton.specs.Sweeps.{AllCallsFit, CallFits, IsEntered, IsLeft, begun}
use Rattle.tree_automaton.specs.Journeys.{CellChanged, EachRecordHasAJourney, IsFirstRecord, IsJourney, Stop}

-- a call fits the calls before it
pub fits_at : (m : Story) (before : List Call) (call : Call) (after : List Call) → AllCallsFit m (before ++ call ∷ after) → CallFits (with_calls m before) call.visit call.given call.made
fits_at m [] call after fit = subst (λ l. CallFits (record m { calls = l }) call.visit call.given call.made) (sym (append-nil m.calls)) fit.0
fits_at m (first ∷ before) call after fit = subst (λ l. CallFits (record m { calls = l }) call.visit call.given call.made) (append_assoc m.calls (first ∷ []) before) (fits_at (with_calls m (first ∷ [])) before call after fit.1)

-- a corner that is a vertex was one before
was_vertex : (k l : Corner) (t : Stored) → SameCorner k l → l ≡ Vertex t → (s : Stored) × (k ≡ Vertex s)
was_vertex (Vertex s) l t same e = (s, refl)
was_vertex (Hanging k) l t same e = absurd (subst (SameCorner (Hanging k)) e same)
was_vertex Beyond l t same e = absurd (subst (SameCorner Beyond) e same)

module _ (p : TreeSweep) (start : List Stored) (tale : Tale) (calls : List Call) (fit : AllCallsFit (begun p start tale) calls) (w : VertexKey) where
  abbrev m : Story
  m = begun p start tale

  abbrev told : Story
  told = with_calls m calls

  module _ (P : CellKey → Stored → Type 0)
      (at_first : (c : CellKey) (n : ℕ) (s t : Stored) → n < corners (dim_of p.plan) → corner_of c n ≡ w → previous_in_run p.plan w c ≡ None → IsFirstRecord told w s → CellChanged told c n s t → P c t)
      (at_next : (b c : CellKey) (n : ℕ) (s t : Stored) → n < corners (dim_of p.plan) → corner_of c n ≡ w → next_in_run p.plan w b ≡ Some c → P b s → CellChanged told c n s t → P c t) where
    -- what is known of the calls with fewer before them
    abbrev Earlier : ℕ → Type 0
    Earlier fuel = (before : List Call) (call : Call) (after : List Call) → calls ≡ before ++ call ∷ after → length before < fuel → (c : CellKey) → call.visit ≡ leave c → (n : ℕ) → n < corners (dim_of p.plan) → corner_of c n ≡ w → (t : Stored) → corner_at call.made n ≡ Vertex t → P c t

    -- at a call that leaves a cell, where all calls with fewer before them are done
    at_leave : (fuel : ℕ) (before : List Call) (call : Call) (after : List Call) → calls ≡ before ++ call ∷ after → length before < fuel → (c : CellKey) → call.visit ≡ leave c → (n : ℕ) → n < corners (dim_of p.plan) → corner_of c n ≡ w → (t : Stored) → corner_at call.made n ≡ Vertex t → P c t
    at_leave zero before call after place few c visit n below corner t made = absurd (omega arith)
    at_leave (suc fuel) before call after place few c visit n below corner t made =
        let left : IsLeft (with_calls m before) c call.given call.made = subst (λ v. CallFits (with_calls m before) v call.given call.made) visit (fits_at m before call after (subst (AllCallsFit m) place fit)) in
        let e = left.entered.call in
        let b1 = left.entered.among.before in
        let rest = left.entered.among.after ++ call ∷ after in
        let e_place : calls ≡ b1 ++ e ∷ rest = place ∙ (ap (λ l. l ++ call ∷ after) left.entered.among.place ∙ append_assoc b1 (e ∷ left.entered.among.after) (call ∷ after)) in
        let entered : IsEntered (with_calls m b1) c e.given e.made = subst (λ v. CallFits (with_calls m b1) v e.given e.made) left.entered.visit (fits_at m b1 e rest (subst (AllCallsFit m) e_place fit)) in
        let u = was_vertex (corner_at call.given n) (corner_at call.made n) t (left.keeps.corners_stay n) made in
        let u_made : corner_at e.made n ≡ Vertex u.0 = ap (λ v. corner_at v n) (sym left.entered.same) ∙ u.1 in
        let s = was_vertex (corner_at e.given n) (corner_at e.made n) u.0 (entered.keeps.corners_stay n) u_made in
        let taken : CornerTaken (with_calls m b1) c w (Vertex s.0) = subst (λ k. CornerTaken (with_calls m b1) c w k) s.1 (subst (λ v. CornerTaken (with_calls m b1) c v (corner_at e.given n)) corner (entered.taken n below)) in
        let changed : CellChanged told c n s.0 t = record {
          entering = e;
          entering_among = record { before = b1; after = rest; place = e_place };
          enters = left.entered.visit;
          view = entered.view;
          keeps = entered.keeps;
          may = entered.may;
          given = s.1;
          between = u.0;
          kept = u_made;
          leaving = call;
          leaving_among = record { before = before; after = after; place = place };
          leaves = visit;
          same = left.entered.same;
          view_left = left.view;
          keeps_left = left.keeps;
          may_left = left.may;
          made = made;
        } in
        let fewer : length b1 < length before = (let h : length before ≡ length b1 + length (e ∷ left.entered.among.after) = ap length left.entered.among.place ∙ length-append b1 (e ∷ left.entered.among.after) in omega (arith, h)) in
        by (λ before' call' after' place' few' c' visit' n' below' corner' t' made'. at_leave fuel before' call' after' place' few' c' visit' n' below' corner' t' made') s.0 changed b1 e rest e_place (omega (arith, few, fewer)) (previous_in_run p.plan w c) (is_stored_in p.plan.old w) refl taken.1
      where
        by : Earlier fuel → (s : Stored) → CellChanged told c n s t → (b1 : List Call) (e : Call) (rest : List Call) → calls ≡ b1 ++ e ∷ rest → length b1 < fuel → (o : Option CellKey) (b : Bool) → previous_in_run p.plan w c ≡ o → ComesFrom (with_calls m b1) c w o b s → P c t
        by earlier s changed b1 e rest e_place few (Some q) b o from =
            let l = from.left in
            let before' = l.among.before in
            let place' : calls ≡ before' ++ l.call ∷ (l.among.after ++ e ∷ rest) = e_place ∙ (ap (λ x. x ++ e ∷ rest) l.among.place ∙ append_assoc before' (l.call ∷ l.among.after) (e ∷ rest)) in
            let fewer : length before' < fuel = (let h : length b1 ≡ length before' + length (l.call ∷ l.among.after) = ap length l.among.place ∙ length-append before' (l.call ∷ l.among.after) in omega (arith, h, few)) in
            at_next l.cell c n s t below corner l.next (earlier before' l.call (l.among.after ++ e ∷ rest) place' fewer l.cell l.visit l.number l.below l.place s l.corner) changed
        by earlier s changed b1 e rest e_place few None true o from = at_first c n s t below corner o (inl (record { key = from.key; fits = from.fits; among = from.among })) changed
        by earlier s changed b1 e rest e_place few None false o from = at_first c n s t below corner o (inr from) changed

    -- What holds of a vertex's record after the first cell of its run, and is carried from each cell to the next, holds of it wherever it was left.
    pub along_run : (to : Option CellKey) (s : Stored) (left : WasLeft told w to s) → P left.cell s
    along_run to s left = at_leave (suc (length left.among.before)) left.among.before left.call left.among.after left.among.place (omega arith) left.cell left.visit left.number left.below left.place s left.corner

  abbrev HasJourney : CellKey → Stored → Type 0
  HasJourney c s = (number : ℕ) × (before : Stored) × (stops : List Stop) × IsJourney told w (record { cell = c; number = number; before = before; after = s }) stops

  first_stop : (c : CellKey) (n : ℕ) (s t : Stored) → n < corners (dim_of p.plan) → corner_of c n ≡ w → previous_in_run p.plan w c ≡ None → IsFirstRecord told w s → CellChanged told c n s t → HasJourney c t
  first_stop c n s t below corner none first changed = (n, s, [], (record { below = below; place = corner; changed = changed }, none, first))

  next_stop : (b c : CellKey) (n : ℕ) (s t : Stored) → n < corners (dim_of p.plan) → corner_of c n ≡ w → next_in_run p.plan w b ≡ Some c → HasJourney b s → CellChanged told c n s t → HasJourney c t
  next_stop b c n s t below corner next earlier changed = (n, s, record { cell = b; number = earlier.0; before = earlier.1; after = s } ∷ earlier.2, (record { below = below; place = corner; changed = changed }, next, refl, earlier.3))

pub each_record_has_a_journey : EachRecordHasAJourney
each_record_has_a_journey p start tale calls fit w to s left = along_run p start tale calls fit w (HasJourney p start tale calls fit w) (first_stop p start tale calls fit w) (next_stop p start tale calls fit w) to s left
