-- One move more was made.
use Rattle.std.proofs.Common.{◌≡◌, ◌≢◌, ℕ, ◌+◌, ◌<◌, List, [], ◌∷◌, ◌++◌, length, set, Option, ap, sym, ◌∙◌, subst, arith, append_assoc, append-nil, length-set, ⊎_elim}
use Rattle.std.proofs.lemmas.Bool.{cases_eq}
use Rattle.std.proofs.lemmas.Grind.{flat_map-append}
use Rattle.std.proofs.lemmas.List.{get_or-set_same, get_or-set_other}
use Rattle.peano_keys.specs.declared.cell.CellKey.{CellKey}
use Rattle.peano_keys.specs.declared.vertex.VertexKey.{VertexKey}
use Rattle.peano_records.specs.declared.stored.Stored.{Stored}
use Rattle.peano_records.specs.declared.view.CellView.{CellView}
use Rattle.vertex_stacks.specs.Lists.{SweepLists, lane_at}
use Rattle.vertex_stacks.specs.Tales.{capped}
use Rattle.sweep_visits.specs.Plan.{IsSweepPlan}
use Rattle.sweep_visits.specs.Moves.{Move, Passing, take, pop, push, put, taken_by, put_by, input_part, output_part}
use Rattle.sweep_visits.specs.Moments.{passings_on}
use Rattle.sweep_streams.specs.Counts.{pushed_by, pushed_part}
use Rattle.tree_automaton.specs.Story.{Call, Story, IsAmong, IsOfInput, IsOfOutput, IsOnLane, Matched, WasLeft, with_calls}
use Rattle.tree_automaton.specs.Moments.{HoldsVertices}
use Rattle.tree_automaton.specs.Sweeps.{WasEntered}
use Rattle.tree_automaton.proofs.Matches.{matched_last, matched_more, matched_none, matched_no_first, matched_along, one_more, none_more}
use Rattle.tree_automaton.proofs.Passings.{take_stays, put_stays, pop_finds, pop_stays, push_gives, push_stays}

module _ (m : Story) (plan : IsSweepPlan m.sweep.plan) (made more : List Move) (l : SweepLists) where
  module _ (x : Move) (holds : HoldsVertices m made (x ∷ more) l) (k : SweepLists) where
    -- the lists after one move more
    record Moved : Type 0 where
      pub input : Matched (IsOfInput m) (taken_by more) k.input
      pub output : Matched (IsOfOutput m) (put_by made ++ output_part x) k.output
      pub six : length k.lanes ≡ 6
      pub lanes : (n : ℕ) → Matched (IsOnLane m) (passings_on (made ++ x ∷ []) n) (lane_at k n)
      pub taken : k.taken ≡ capped (length (taken_by made ++ input_part x))
      pub put : k.put ≡ capped (length (put_by made ++ output_part x))
      pub pushed : k.pushed ≡ capped (length (pushed_by made ++ pushed_part x))
      pub tale : k.tale ≡ m.tale

    moved : Moved → HoldsVertices m (made ++ x ∷ []) more k
    moved h = record {
      moves = holds.moves ∙ sym (append_assoc made (x ∷ []) more);
      input = h.input;
      output = subst (λ vs. Matched (IsOfOutput m) vs k.output) (sym (flat_map-append output_part made (x ∷ []) ∙ ap (λ vs. put_by made ++ vs) (append-nil (output_part x)))) h.output;
      six = h.six;
      lanes = h.lanes;
      taken = h.taken ∙ ap (λ vs. capped (length vs)) (sym (flat_map-append input_part made (x ∷ []) ∙ ap (λ vs. taken_by made ++ vs) (append-nil (input_part x))));
      put = h.put ∙ ap (λ vs. capped (length vs)) (sym (flat_map-append output_part made (x ∷ []) ∙ ap (λ vs. put_by made ++ vs) (append-nil (output_part x))));
      pushed = h.pushed ∙ ap (λ vs. capped (length vs)) (sym (flat_map-append pushed_part made (x ∷ []) ∙ ap (λ vs. pushed_by made ++ vs) (append-nil (pushed_part x))));
      tale = h.tale;
    }

  pub take_there : (w : VertexKey) → HoldsVertices m made (take w ∷ more) l → l.input ≡ [] → ⊥
  take_there w holds none = matched_no_first (IsOfInput m) w (taken_by more) (subst (Matched (IsOfInput m) (w ∷ taken_by more)) none holds.input)

  -- the first vertex of the input is the one that is wanted
  pub taken : (w : VertexKey) (k : SweepLists) (v : Stored) → HoldsVertices m made (take w ∷ more) l → l.input ≡ v ∷ k.input → k ≡ record l { input = k.input; spare = k.spare; taken = capped (l.taken + 1) } → HoldsVertices m (made ++ take w ∷ []) more k × IsOfInput m w v
  taken w k v holds first others =
      let all : Matched (IsOfInput m) (w ∷ taken_by more) (v ∷ k.input) = subst (Matched (IsOfInput m) (w ∷ taken_by more)) first holds.input in (
        moved (take w) holds k (record {
          input = all.1;
          output = subst (λ vs. Matched (IsOfOutput m) vs k.output) (sym (append-nil (put_by made))) (subst (Matched (IsOfOutput m) (put_by made)) (sym (ap (λ z. z.output) others)) holds.output);
          six = ap (λ z. length z.lanes) others ∙ holds.six;
          lanes = λ n. subst (λ vs. Matched (IsOnLane m) vs (lane_at k n)) (sym (take_stays m.sweep.plan plan made more w holds.moves n)) (subst (Matched (IsOnLane m) (passings_on made n)) (sym (ap (λ z. lane_at z n) others)) (holds.lanes n));
          taken = ap (λ z. z.taken) others ∙ one_more l.taken (taken_by made) w holds.taken;
          put = none_more k.put (put_by made) (ap (λ z. z.put) others ∙ holds.put);
          pushed = none_more k.pushed (pushed_by made) (ap (λ z. z.pushed) others ∙ holds.pushed);
          tale = ap (λ z. z.tale) others ∙ holds.tale;
        }),
        all.0,
      )

  pub pop_there : (lane : ℕ) (y : Passing) → HoldsVertices m made (pop lane y ∷ more) l → lane_at l lane ≡ [] → ⊥
  pop_there lane y holds none = matched_none (IsOnLane m) (passings_on (made ++ pop lane y ∷ []) lane) y (subst (Matched (IsOnLane m) (passings_on (made ++ pop lane y ∷ []) lane ++ y ∷ [])) none (subst (λ vs. Matched (IsOnLane m) vs (lane_at l lane)) (pop_finds m.sweep.plan plan made more lane y holds.moves) (holds.lanes lane)))

  -- a lane by its number, where one lane changed
  lane_by : (lane n : ℕ) (P : ℕ → Type 0) → P lane → (n ≢ lane → P n) → P n
  lane_by lane n P here other = ⊎_elim (λ e. subst P (sym e) here) other (cases_eq n lane)

  -- the last vertex of a lane is the one that is wanted
  pub popped : (lane : ℕ) (y : Passing) (k : SweepLists) (v : Stored) → HoldsVertices m made (pop lane y ∷ more) l → lane_at l lane ≡ lane_at k lane ++ v ∷ [] → k ≡ record l { lanes = set l.lanes lane (lane_at k lane); spare = k.spare } → HoldsVertices m (made ++ pop lane y ∷ []) more k × IsOnLane m y v
  popped lane y k v holds last others =
      let names = passings_on (made ++ pop lane y ∷ []) lane in
      let all = matched_last (IsOnLane m) names y (lane_at k lane) v (subst (Matched (IsOnLane m) (names ++ y ∷ [])) last (subst (λ vs. Matched (IsOnLane m) vs (lane_at l lane)) (pop_finds m.sweep.plan plan made more lane y holds.moves) (holds.lanes lane))) in
      let other : (n : ℕ) → n ≢ lane → lane_at k n ≡ lane_at l n = λ n d. ap (λ z. lane_at z n) others ∙ get_or-set_other l.lanes lane n (lane_at k lane) [] d in (
        moved (pop lane y) holds k (record {
          input = subst (Matched (IsOfInput m) (taken_by more)) (sym (ap (λ z. z.input) others)) holds.input;
          output = subst (λ vs. Matched (IsOfOutput m) vs k.output) (sym (append-nil (put_by made))) (subst (Matched (IsOfOutput m) (put_by made)) (sym (ap (λ z. z.output) others)) holds.output);
          six = ap (λ z. length z.lanes) others ∙ (length-set l.lanes lane (lane_at k lane) ∙ holds.six);
          lanes = λ n. lane_by lane n (λ n. Matched (IsOnLane m) (passings_on (made ++ pop lane y ∷ []) n) (lane_at k n)) all.0 (λ d. subst (λ vs. Matched (IsOnLane m) vs (lane_at k n)) (sym (pop_stays m.sweep.plan plan made more lane y holds.moves n d)) (subst (Matched (IsOnLane m) (passings_on made n)) (sym (other n d)) (holds.lanes n)));
          taken = none_more k.taken (taken_by made) (ap (λ z. z.taken) others ∙ holds.taken);
          put = none_more k.put (put_by made) (ap (λ z. z.put) others ∙ holds.put);
          pushed = none_more k.pushed (pushed_by made) (ap (λ z. z.pushed) others ∙ holds.pushed);
          tale = ap (λ z. z.tale) others ∙ holds.tale;
        }),
        all.1,
      )

  -- a vertex is put behind the output
  pub was_put : (w : VertexKey) (k : SweepLists) (v : Stored) → HoldsVertices m made (put w ∷ more) l → IsOfOutput m w v → k ≡ record l { output = l.output ++ v ∷ []; spare = k.spare; put = capped (l.put + 1) } → HoldsVertices m (made ++ put w ∷ []) more k
  was_put w k v holds one others =
      moved (put w) holds k (record {
        input = subst (Matched (IsOfInput m) (taken_by more)) (sym (ap (λ z. z.input) others)) holds.input;
        output = subst (Matched (IsOfOutput m) (put_by made ++ w ∷ [])) (sym (ap (λ z. z.output) others)) (matched_more (IsOfOutput m) (put_by made) w l.output v holds.output one);
        six = ap (λ z. length z.lanes) others ∙ holds.six;
        lanes = λ n. subst (λ vs. Matched (IsOnLane m) vs (lane_at k n)) (sym (put_stays m.sweep.plan plan made more w holds.moves n)) (subst (Matched (IsOnLane m) (passings_on made n)) (sym (ap (λ z. lane_at z n) others)) (holds.lanes n));
        taken = none_more k.taken (taken_by made) (ap (λ z. z.taken) others ∙ holds.taken);
        put = ap (λ z. z.put) others ∙ one_more l.put (put_by made) w holds.put;
        pushed = none_more k.pushed (pushed_by made) (ap (λ z. z.pushed) others ∙ holds.pushed);
        tale = ap (λ z. z.tale) others ∙ holds.tale;
      })

  -- a vertex is put on a lane
  pub was_pushed : (lane : ℕ) (y : Passing) (k : SweepLists) (v : Stored) → lane < 6 → HoldsVertices m made (push lane y ∷ more) l → IsOnLane m y v → k ≡ record l { lanes = set l.lanes lane (lane_at l lane ++ v ∷ []); spare = k.spare; pushed = capped (l.pushed + 1) } → HoldsVertices m (made ++ push lane y ∷ []) more k
  was_pushed lane y k v six holds one others =
      let inside : lane < length l.lanes = omega (arith, holds.six, six) in
      let here : lane_at k lane ≡ lane_at l lane ++ v ∷ [] = ap (λ z. lane_at z lane) others ∙ get_or-set_same l.lanes lane (lane_at l lane ++ v ∷ []) [] inside in
      let other : (n : ℕ) → n ≢ lane → lane_at k n ≡ lane_at l n = λ n d. ap (λ z. lane_at z n) others ∙ get_or-set_other l.lanes lane n (lane_at l lane ++ v ∷ []) [] d in
      moved (push lane y) holds k (record {
        input = subst (Matched (IsOfInput m) (taken_by more)) (sym (ap (λ z. z.input) others)) holds.input;
        output = subst (λ vs. Matched (IsOfOutput m) vs k.output) (sym (append-nil (put_by made))) (subst (Matched (IsOfOutput m) (put_by made)) (sym (ap (λ z. z.output) others)) holds.output);
        six = ap (λ z. length z.lanes) others ∙ (length-set l.lanes lane (lane_at l lane ++ v ∷ []) ∙ holds.six);
        lanes = λ n. lane_by lane n (λ n. Matched (IsOnLane m) (passings_on (made ++ push lane y ∷ []) n) (lane_at k n))
            (subst (λ vs. Matched (IsOnLane m) vs (lane_at k lane)) (sym (push_gives m.sweep.plan plan made more lane y holds.moves)) (subst (Matched (IsOnLane m) (passings_on made lane ++ y ∷ [])) (sym here) (matched_more (IsOnLane m) (passings_on made lane) y (lane_at l lane) v (holds.lanes lane) one)))
            (λ d. subst (λ vs. Matched (IsOnLane m) vs (lane_at k n)) (sym (push_stays m.sweep.plan plan made more lane y holds.moves n d)) (subst (Matched (IsOnLane m) (passings_on made n)) (sym (other n d)) (holds.lanes n)));
        taken = none_more k.taken (taken_by made) (ap (λ z. z.taken) others ∙ holds.taken);
        put = none_more k.put (put_by made) (ap (λ z. z.put) others ∙ holds.put);
        pushed = ap (λ z. z.pushed) others ∙ one_more l.pushed (pushed_by made) y holds.pushed;
        tale = ap (λ z. z.tale) others ∙ holds.tale;
      })

-- what was left stays left
module _ (m : Story) (calls : List Call) where
  pub among_more : (call : Call) → IsAmong call m.calls → IsAmong call (m.calls ++ calls)
  among_more call h = record { before = h.before; after = h.after ++ calls; place = ap (λ l. l ++ calls) h.place ∙ append_assoc h.before (call ∷ h.after) calls }

  pub entered_more : (c : CellKey) (view : CellView) → WasEntered m c view → WasEntered (with_calls m calls) c view
  entered_more c view h = record { call = h.call; among = among_more h.call h.among; visit = h.visit; same = h.same }

  pub left_more : (w : VertexKey) (to : Option CellKey) (s : Stored) → WasLeft m w to s → WasLeft (with_calls m calls) w to s
  left_more w to s h = record { call = h.call; among = among_more h.call h.among; cell = h.cell; visit = h.visit; next = h.next; number = h.number; below = h.below; place = h.place; corner = h.corner }

  pub holds_more : (made more : List Move) (l : SweepLists) → HoldsVertices m made more l → HoldsVertices (with_calls m calls) made more l
  holds_more made more l h = record {
    moves = h.moves;
    input = matched_along (IsOfInput m) (IsOfInput (with_calls m calls)) (λ w s i. record { key = i.key; fits = i.fits; among = i.among }) (taken_by more) l.input h.input;
    output = matched_along (IsOfOutput m) (IsOfOutput (with_calls m calls)) (λ w s i. record { key = i.key; fits = i.fits; left = left_more w _ s i.left }) (put_by made) l.output h.output;
    six = h.six;
    lanes = λ n. matched_along (IsOnLane m) (IsOnLane (with_calls m calls)) (λ x s i. record { key = i.key; fits = i.fits; left = left_more x.vertex _ s i.left }) (passings_on made n) (lane_at l n) (h.lanes n);
    taken = h.taken;
    put = h.put;
    pushed = h.pushed;
    tale = h.tale;
  }
