-- The leaves that a tree's stops offer, in the order of its sweep: the sweep the other way offers them in the reverse order.
use Rattle.std.proofs.Common.{◌≡◌, ◌⊎◌, inl, inr, ℕ, zero, suc, ◌+◌, Bool, true, false, not, ◌&&◌, if◌then◌else◌, List, [], ◌∷◌, ◌++◌, map, reverse, refl, sym, ap, subst, ◌∙◌, append_assoc}
use Rattle.std.proofs.lemmas.Bool.{false≢true}
use Rattle.std.proofs.lemmas.List.{append-nil, reverse-append}
use Rattle.std.specs.Prelude.{◌||◌}
use mathlib.Core.List.{reverse-cons}
use Rattle.peano_keys.specs.declared.cell.CellKey.{CellKey}
use Rattle.peano_keys.specs.declared.dim.Dim.{Dim}
use Rattle.peano_keys.specs.Dim.{children}
use Rattle.peano_keys.specs.Cell.{root}
use Rattle.peano_keys.specs.Grid.{Spacetree, has_cell, is_refined}
use Rattle.peano_keys.specs.Field.{States}
use Rattle.peano_curve.specs.declared.order.Direction.{Direction}
use Rattle.peano_curve.specs.Order.{child_along}
use Rattle.curve_cuts.specs.Cuts.{Cuts}
use Rattle.curve_cuts.specs.Enclave.{IsEnclave}
use Rattle.sweep_visits.specs.Plan.{SweepPlan, is_visited}
use Rattle.sweep_visits.specs.Visits.{Visit, enter, leave, from_child, visits_at, visits_of}
use Rattle.sweep_visits.specs.Runs.{turned_round}
use Rattle.sweep_streams.specs.Records.{turned_visit}
use Rattle.sweep_streams.proofs.Records.{backward_sweep_is_reversed}
use Rattle.task_core.specs.declared.stop.Leaf.{Leaf}
use Rattle.task_core.specs.declared.stop.Stop.{Stop}
use Rattle.task_core.specs.declared.stop.Stop.TheVariants.{Pass, Compute, Offer}
use Rattle.task_core.specs.Visits.{plan_of, AreStops}

-- the leaves that some stops offer
abbrev pub offers : List Stop → List CellKey
offers [] = []
offers (Pass ∷ ss) = offers ss
offers (Compute l ∷ ss) = offers ss
offers (Offer l ∷ ss) = l.key ∷ offers ss

module _ (opened : CellKey → Bool) where
  -- a cell, where the sweep goes below it not
  abbrev if_leaf : CellKey → List CellKey
  if_leaf c = if opened c then [] else c ∷ []

  -- the leaves that are entered, and those that are left
  abbrev entered : List Visit → List CellKey
  entered [] = []
  entered (enter c ∷ vs) = if_leaf c ++ entered vs
  entered (leave c ∷ vs) = entered vs

  abbrev left : List Visit → List CellKey
  left [] = []
  left (enter c ∷ vs) = left vs
  left (leave c ∷ vs) = if_leaf c ++ left vs

  entered_join : (vs ws : List Visit) → entered (vs ++ ws) ≡ entered vs ++ entered ws
  entered_join [] ws = refl
  entered_join (enter c ∷ vs) ws = ap (λ xs. if_leaf c ++ xs) (entered_join vs ws) ∙ sym (append_assoc (if_leaf c) (entered vs) (entered ws))
  entered_join (leave c ∷ vs) ws = entered_join vs ws

  left_join : (vs ws : List Visit) → left (vs ++ ws) ≡ left vs ++ left ws
  left_join [] ws = refl
  left_join (enter c ∷ vs) ws = left_join vs ws
  left_join (leave c ∷ vs) ws = ap (λ xs. if_leaf c ++ xs) (left_join vs ws) ∙ sym (append_assoc (if_leaf c) (left vs) (left ws))

  -- leaves are left in the order in which they are entered
  abbrev Alike : List Visit → Type 0
  Alike vs = entered vs ≡ left vs

  alike_join : (vs ws : List Visit) → Alike vs → Alike ws → Alike (vs ++ ws)
  alike_join vs ws a b = entered_join vs ws ∙ ap (λ xs. xs ++ entered ws) a ∙ ap (λ xs. left vs ++ xs) b ∙ sym (left_join vs ws)

  module _ (dim : Dim) (dir : Direction) (visited : CellKey → Bool) where
    children_alike : (each : CellKey → List Visit) → ((c : CellKey) → Alike (each c)) → (c : CellKey) (k n : ℕ) → Alike (from_child dim dir each c k n)
    children_alike each all c k zero = refl
    children_alike each all c k (suc n) = alike_join (each (child_along dir dim c k)) (from_child dim dir each c (k + 1) n) (all (child_along dir dim c k)) (children_alike each all c (k + 1) n)

    cell_alike : (c : CellKey) (vs : List Visit) → Alike vs → (o : Bool) → opened c ≡ o → Alike (enter c ∷ ((if o then vs else []) ++ leave c ∷ []))
    cell_alike c vs a true e =
        let none : if_leaf c ≡ [] = ap (λ b. if b then [] else c ∷ []) e in
        ap (λ xs. xs ++ entered (vs ++ leave c ∷ [])) none
        ∙ entered_join vs (leave c ∷ [])
        ∙ ap (λ xs. xs ++ []) a
        ∙ ap (λ xs. left vs ++ (xs ++ [])) (sym none)
        ∙ sym (left_join vs (leave c ∷ []))
    cell_alike c vs a false e = refl

    seen_alike : (b : Bool) (vs : List Visit) → Alike vs → Alike (if b then vs else [])
    seen_alike true vs a = a
    seen_alike false vs a = refl

    visits_alike : (levels : ℕ) (c : CellKey) → Alike (visits_at dim dir visited opened levels c)
    visits_alike zero c = seen_alike (visited c) (enter c ∷ leave c ∷ []) refl
    visits_alike (suc levels) c = seen_alike (visited c) _ (cell_alike c (from_child dim dir (visits_at dim dir visited opened levels) c 0 (children dim)) (children_alike (visits_at dim dir visited opened levels) (visits_alike levels) c 0 (children dim)) (opened c) refl)

  one_turned : (c : CellKey) (b : Bool) → ◌≡◌ {A = List CellKey} ((if b then [] else c ∷ []) ++ []) (reverse (if b then [] else c ∷ []))
  one_turned c true = refl
  one_turned c false = refl

  entered_turned : (vs : List Visit) → entered (reverse (map turned_visit vs)) ≡ reverse (left vs)
  entered_turned [] = refl
  entered_turned (enter c ∷ vs) =
      ap entered (reverse-cons (leave c) (map turned_visit vs))
      ∙ entered_join (reverse (map turned_visit vs)) (leave c ∷ [])
      ∙ append-nil (entered (reverse (map turned_visit vs)))
      ∙ entered_turned vs
  entered_turned (leave c ∷ vs) =
      ap entered (reverse-cons (enter c) (map turned_visit vs))
      ∙ entered_join (reverse (map turned_visit vs)) (enter c ∷ [])
      ∙ ap (λ xs. xs ++ (if_leaf c ++ [])) (entered_turned vs)
      ∙ ap (λ xs. reverse (left vs) ++ xs) (one_turned c (opened c))
      ∙ sym (reverse-append (if_leaf c) (left vs))

module _ (P : CellKey → Type 0) where
  -- a list begins with a cell of which something holds, and goes on as a rest does
  record Takes (c : CellKey) (os : List CellKey) (Rest : List CellKey → Type 0) : Type 0 where
    rest : List CellKey
    here : P c
    is : os ≡ c ∷ rest
    more : Rest rest

  -- those cells of a list of which something holds
  abbrev Picks : List CellKey → List CellKey → Type 0
  Picks [] os = os ≡ []
  Picks (c ∷ cs) os = Takes c os (Picks cs) ⊎ ((¬ P c) × Picks cs os)

  picks_same : (cs os ps : List CellKey) → Picks cs os → Picks cs ps → os ≡ ps
  picks_same [] os ps a b = a ∙ sym b
  picks_same (c ∷ cs) os ps (inl a) (inl b) = a.is ∙ ap (λ xs. c ∷ xs) (picks_same cs a.rest b.rest a.more b.more) ∙ sym b.is
  picks_same (c ∷ cs) os ps (inl a) (inr b) = absurd (b.0 a.here)
  picks_same (c ∷ cs) os ps (inr a) (inl b) = absurd (a.0 b.here)
  picks_same (c ∷ cs) os ps (inr a) (inr b) = picks_same cs os ps a.1 b.1

  picks_join : (cs ds os ps : List CellKey) → Picks cs os → Picks ds ps → Picks (cs ++ ds) (os ++ ps)
  picks_join [] ds os ps a b = subst (λ xs. Picks ds (xs ++ ps)) (sym a) b
  picks_join (c ∷ cs) ds os ps (inl a) b = inl (record { rest = a.rest ++ ps; here = a.here; is = ap (λ xs. xs ++ ps) a.is; more = picks_join cs ds a.rest ps a.more b })
  picks_join (c ∷ cs) ds os ps (inr a) b = inr (a.0, picks_join cs ds os ps a.1 b)

  picks_turned : (cs os : List CellKey) → Picks cs os → Picks (reverse cs) (reverse os)
  picks_turned [] os a = ap reverse a
  picks_turned (c ∷ cs) os (inl a) =
      subst (λ xs. Picks xs (reverse os)) (sym (reverse-cons c cs))
      (subst (Picks (reverse cs ++ c ∷ [])) (sym (ap reverse a.is ∙ reverse-cons c a.rest))
      (picks_join (reverse cs) (c ∷ []) (reverse a.rest) (c ∷ []) (picks_turned cs a.rest a.more) (inl (record { rest = []; here = a.here; is = refl; more = refl }))))
  picks_turned (c ∷ cs) os (inr a) =
      subst (λ xs. Picks xs (reverse os)) (sym (reverse-cons c cs))
      (subst (Picks (reverse cs ++ c ∷ [])) (append-nil (reverse os))
      (picks_join (reverse cs) (c ∷ []) (reverse os) [] (picks_turned cs os a.1) (inr (a.0, refl))))

-- a leaf is not refined
leaf_closed : (a b : Bool) → (a && not b) ≡ true → (b || b) ≡ true → ⊥
leaf_closed true true leaf e = false≢true leaf
leaf_closed true false leaf e = false≢true e
leaf_closed false b leaf e = false≢true leaf

module _ (k : Cuts) (g : Spacetree) (f : States) (t : ℕ) where
  abbrev opened : CellKey → Bool
  opened c = is_refined g c || is_refined g c

  -- stops offer the enclave leaves among those that are entered
  stops_pick : (vs : List Visit) (ss : List Stop) → AreStops k g f t vs ss → Picks (IsEnclave k g t) (entered opened vs) (offers ss)
  stops_pick [] [] are = refl
  stops_pick [] (s ∷ ss) are = absurd are
  stops_pick (v ∷ vs) [] are = absurd are
  stops_pick (enter c ∷ vs) (s ∷ ss) are = by_test (stops_pick vs ss are.1) (opened c) refl s (are.0, tt)
    where
      by_test : Picks (IsEnclave k g t) (entered opened vs) (offers ss) → (b : Bool) → opened c ≡ b → (s : Stop) → AreStops k g f t (enter c ∷ []) (s ∷ []) → Picks (IsEnclave k g t) ((if b then [] else c ∷ []) ++ entered opened vs) (offers (s ∷ ss))
      by_test more true e Pass is = more
      by_test more true e (Compute l) is = more
      by_test more true e (Offer l) is = absurd (leaf_closed (has_cell g c) (is_refined g c) is.0.0.0.leaf e)
      by_test more false e Pass is = inr (λ enclave. is.0 enclave.0, more)
      by_test more false e (Compute l) is = inr (λ enclave. enclave.1 is.0.0.1, more)
      by_test more false e (Offer l) is = inl (record { rest = offers ss; here = is.0.0; is = ap (λ (x : Leaf). x.key ∷ offers ss) is.0.1; more = more })
  stops_pick (leave c ∷ vs) (s ∷ ss) are = subst (λ x. Picks (IsEnclave k g t) (entered opened vs) (offers (x ∷ ss))) (sym are.0) (stops_pick vs ss are.1)

  -- the sweep the other way offers the same leaves from the last to the first
  pub offers_turned : (dir : Direction) (ss ts : List Stop) → AreStops k g f t (visits_of (plan_of k g t dir)) ss → AreStops k g f t (visits_of (plan_of k g t (turned_round dir))) ts → offers ts ≡ reverse (offers ss)
  offers_turned dir ss ts there back =
      let p : SweepPlan = plan_of k g t dir in
      let vs : List Visit = visits_of p in
      let turned : entered opened (visits_of (plan_of k g t (turned_round dir))) ≡ reverse (entered opened vs) =
      ap (entered opened) (backward_sweep_is_reversed p)
      ∙ entered_turned opened vs
      ∙ ap reverse (sym (visits_alike opened g.dim dir (is_visited p) k.depth root)) in
      picks_same (IsEnclave k g t) (reverse (entered opened vs)) (offers ts) (reverse (offers ss))
      (subst (λ cs. Picks (IsEnclave k g t) cs (offers ts)) turned (stops_pick (visits_of (plan_of k g t (turned_round dir))) ts back))
      (picks_turned (IsEnclave k g t) (entered opened vs) (offers ss) (stops_pick vs ss there))
