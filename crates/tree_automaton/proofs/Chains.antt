-- Visits after visits.
use Rattle.std.proofs.Common.{◌≡◌, List, [], ◌∷◌, ◌++◌, refl, ap, ap₂, sym, ◌∙◌, subst, append-nil, append_assoc}
use Rattle.std.proofs.lemmas.List.{map-append}
use Rattle.peano_keys.specs.declared.cell.CellKey.{CellKey}
use Rattle.peano_records.specs.declared.view.CellView.{CellView}
use Rattle.sweep_visits.specs.Visits.{Visit, enter}
use Rattle.sweep_visits.specs.Moments.{moves_by}
use Rattle.tree_automaton.specs.TreeLists.{TreeLists}
use Rattle.tree_automaton.specs.Story.{Call, Story, with_calls}
use Rattle.tree_automaton.specs.Moments.{IsDuring, IsStoreOf, records_of}
use Rattle.tree_automaton.specs.Sweeps.{AllCallsFit, CallFits, Chain, VisitsGive, visit_of}
use Rattle.tree_automaton.proofs.Holds.{holds_more}
use Rattle.tree_automaton.proofs.Gives.{records_more}

pub story_join : (m : Story) (xs ys : List Call) → with_calls (with_calls m xs) ys ≡ with_calls m (xs ++ ys)
story_join m xs ys = ap (λ l. record m { calls = l }) (append_assoc m.calls xs ys)

pub fits_join : (m : Story) (xs ys : List Call) → AllCallsFit m xs → AllCallsFit (with_calls m xs) ys → AllCallsFit m (xs ++ ys)
fits_join m [] ys x y = subst (λ l. AllCallsFit (record m { calls = l }) ys) (append-nil m.calls) y
fits_join m (call ∷ xs) ys x y = (x.0, fits_join (with_calls m (call ∷ [])) xs ys x.1 (subst (λ n. AllCallsFit n ys) (sym (story_join m (call ∷ []) xs)) y))

-- the call at an enter
abbrev pub entered_with : CellKey → CellView → CellView → Call
entered_with c given made = record { visit = enter c; given = given; made = made }

-- an enter writes no record
pub entered_during : (m : Story) (c : CellKey) (given view : CellView) (made more : List Visit) (s : TreeLists) → IsDuring m made more s → IsDuring (with_calls m (entered_with c given view ∷ [])) made more s
entered_during m c given view made more s h = record {
  visits = h.visits;
  vertices = holds_more m (entered_with c given view ∷ []) (moves_by m.sweep.plan made) (moves_by m.sweep.plan more) s.lanes h.vertices;
  records = record {
    cells = h.records.cells;
    flags = h.records.flags;
    written = h.records.written ∙ (sym (append-nil (records_of m.calls)) ∙ sym (records_more m.calls (entered_with c given view ∷ [])));
    counted = h.records.counted;
  };
}

-- the visits that were made, joined anew
pub during_joined : (m : Story) (made made' more : List Visit) (s : TreeLists) → made ≡ made' → IsDuring m made more s → IsDuring m made' more s
during_joined m made made' more s e h = subst (λ vs. IsDuring m vs more s) e h

pub during_next : (m : Story) (made more more' : List Visit) (s : TreeLists) → more ≡ more' → IsDuring m made more s → IsDuring m made more' s
during_next m made more more' s e h = subst (λ vs. IsDuring m made vs s) e h

module _ {A : Type 0} (entered left : A → CellView → CellView → A → Type 0) where
  chain_join : (xs ys : List Call) (a b c : A) → Chain entered left xs a b → Chain entered left ys b c → Chain entered left (xs ++ ys) a c
  chain_join [] ys a b c x y = subst (λ m. Chain entered left ys m c) (sym x) y
  chain_join (call ∷ xs) ys a b c x y = (x.0, x.1, chain_join xs ys x.0 b c x.2 y)

  pub gives_none : (m : Story) (made more : List Visit) (t : TreeLists) (x : A) → IsStoreOf m.sweep t → IsDuring m made more t → VisitsGive entered left m made [] more t x x
  gives_none m made more t x of_ during = record {
    calls = [];
    visits_are = refl;
    chain = refl;
    fit = tt;
    of = of_;
    during = during_joined (with_calls m []) made (made ++ []) more t (sym (append-nil made)) (subst (λ l. IsDuring (record m { calls = l }) made more t) (sym (append-nil m.calls)) during);
  }

  pub gives_join : (m : Story) (made vs ws next more : List Visit) (t u : TreeLists) (x y z : A) (one : VisitsGive entered left m made vs next t x y) → VisitsGive entered left (with_calls m one.calls) (made ++ vs) ws more u y z → VisitsGive entered left m made (vs ++ ws) more u x z
  gives_join m made vs ws next more t u x y z one two = record {
    calls = one.calls ++ two.calls;
    visits_are = map-append visit_of one.calls two.calls ∙ ap₂ (λ l k. l ++ k) one.visits_are two.visits_are;
    chain = chain_join one.calls two.calls x y z one.chain two.chain;
    fit = fits_join m one.calls two.calls one.fit two.fit;
    of = two.of;
    during = during_joined (with_calls m (one.calls ++ two.calls)) ((made ++ vs) ++ ws) (made ++ (vs ++ ws)) more u (append_assoc made vs ws) (subst (λ n. IsDuring n ((made ++ vs) ++ ws) more u) (story_join m one.calls two.calls) two.during);
  }

  abbrev pub gives_call : (m : Story) (made more : List Visit) (call : Call) (t : TreeLists) (x y : A) → Chain entered left (call ∷ []) x y → CallFits m call.visit call.given call.made → IsStoreOf m.sweep t → IsDuring (with_calls m (call ∷ [])) (made ++ call.visit ∷ []) more t → VisitsGive entered left m made (call.visit ∷ []) more t x y
  gives_call m made more call t x y chain fit of_ during = record { calls = call ∷ []; visits_are = refl; chain = chain; fit = (fit, tt); of = of_; during = during }
