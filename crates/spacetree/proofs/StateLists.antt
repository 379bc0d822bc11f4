-- Fields from the lists of their leaves and states.
use Rattle.std.proofs.Common.{◌≡◌, ℕ, zero, suc, ◌+◌, ◌<◌, List, [], ◌∷◌, length, min, take, get_or, map, Some, None, Option, Bool, true, false, ◌||◌, cond, refl, ap, sym, ◌∙◌, subst, arith}
use Rattle.std.specs.FinMap as fin
use Rattle.std.specs.List.{zip, IsDistinct}
use Rattle.std.specs.List.Sorted.{IsStrictlySortedBy}
use Rattle.std.specs.Ordering.{eq_by_cmp}
use Rattle.std.proofs.lemmas.Bool.{false≢true}
use Rattle.std.proofs.lemmas.List.{take_all}
use Rattle.std.proofs.lemmas.Map.Keys.{IsDistinct-from_sorted}
use Rattle.std.proofs.lemmas.Slice.Zip.{firsts-zip}
use Rattle.peano_keys.specs.declared.cell.CellKey.{CellKey}
use Rattle.peano_keys.specs.declared.state.State.{State}
use Rattle.peano_keys.specs.Cell.{key_cmp}
use Rattle.peano_keys.specs.Field.{States}
use Rattle.spacetree.specs.Fields.{IsMadeAgain}
use Rattle.spacetree.specs.Leaves.{is_among}
use Rattle.spacetree.proofs.CellMaps.{cells_total, exact_cells, entry_at, entries_in_order, get_cell, none_of}
use Rattle.spacetree.proofs.CellSets.{among_at, itself, nowhere, same_key}
use Rattle.spacetree.proofs.Givens.{Gives, gives_more}

-- the state beside a key
abbrev pub beside : List CellKey → List State → CellKey → Option State
beside keys states q = entry_at (zip keys states) q

chosen : {X : Type 0} (b : Bool) (x y z : X) → b ≡ true → x ≡ z → cond b x y ≡ z
chosen true x y z h e = e
chosen false x y z h e = absurd (false≢true h)

passed : {X : Type 0} (b : Bool) (x y z : X) → (b ≡ true → ⊥) → y ≡ z → cond b x y ≡ z
passed true x y z h e = absurd (h refl)
passed false x y z h e = e

at_place : (keys : List CellKey) (states : List State) (i : ℕ) (d : CellKey) (e : State) → IsDistinct (eq_by_cmp key_cmp) keys → i < length keys → i < length states → beside keys states (get_or keys i d) ≡ Some (get_or states i e)
unfolding IsDistinct
at_place [] states i d e once h g = absurd (omega (arith, h))
at_place (k ∷ keys) [] i d e once h g = absurd (omega (arith, g))
at_place (k ∷ keys) (s ∷ states) zero d e once h g = chosen (eq_by_cmp key_cmp k k) (Some s) (beside keys states k) (Some s) (itself k) refl
at_place (k ∷ keys) (s ∷ states) (suc i) d e once h g =
    let q : CellKey = get_or keys i d in
    passed (eq_by_cmp key_cmp q k) (Some s) (beside keys states q) (Some (get_or states i e))
    (λ same. false≢true (sym (none_of k keys once.0) ∙ ap (is_among keys) (sym (same_key q k same)) ∙ among_at keys i d (omega (arith, h))))
    (at_place keys states i d e once.1 (omega (arith, h)) (omega (arith, g)))

-- the state beside each key
pub state_beside : (keys : List CellKey) (states : List State) (i : ℕ) (d : CellKey) (e : State) → IsStrictlySortedBy key_cmp keys → i < length keys → i < length states → beside keys states (get_or keys i d) ≡ Some (get_or states i e)
state_beside keys states i d e order = at_place keys states i d e (IsDistinct-from_sorted key_cmp keys order)

none_at : (b : Bool) (w : Option State) → w ≡ None → cond b w None ≡ w
none_at true w h = refl
none_at false w h = sym h

-- and none beside another cell
none_beside : (keys : List CellKey) (states : List State) (q : CellKey) → cond (is_among keys q) (beside keys states q) None ≡ beside keys states q
none_beside [] states q = refl
none_beside (k ∷ keys) [] q = none_at (is_among (k ∷ keys) q) None refl
none_beside (k ∷ keys) (s ∷ states) q = by (eq_by_cmp key_cmp q k) (is_among keys q) (Some s) (beside keys states q) (none_beside keys states q) where
  by : (b a : Bool) (v w : Option State) → cond a w None ≡ w → cond (b || a) (cond b v w) None ≡ cond b v w
  by true a v w h = refl
  by false a v w h = h

-- a map that gives each key the state beside it has these entries
pub entries_beside : (keys : List CellKey) (states : List State) (m : States) → length keys ≡ length states → IsStrictlySortedBy key_cmp keys → Gives (beside keys states) keys m → fin.entries m ≡ zip keys states
entries_beside keys states m long order gives =
    let es : List (CellKey × State) = zip keys states in
    let same : m ≡ fin.from_entries {R = key_cmp} es = fin.same_map cells_total exact_cells m (fin.from_entries {R = key_cmp} es) (λ q. gives q ∙ none_beside keys states q ∙ sym (get_cell es q)) in
    ap fin.entries same ∙ entries_in_order es (subst (IsStrictlySortedBy key_cmp) (sym (firsts-zip keys states (sym long))) order)

zip_parts : (es : List (CellKey × State)) → zip (map (λ (e : CellKey × State). e.0) es) (map (λ (e : CellKey × State). e.1) es) ≡ es
zip_parts [] = refl
zip_parts (e ∷ es) = ap (λ (l : List (CellKey × State)). e ∷ l) (zip_parts es)

pub made_again : (keys : List CellKey) (states : List State) (m : States) → fin.entries m ≡ zip keys states → IsMadeAgain keys states m
made_again keys states m is f first second = fin.same_entries_map m f (is ∙ (λ i. zip (first i) (second i)) ∙ zip_parts (fin.entries f))

module _ (keys : List CellKey) (states : List State) (long : length keys ≡ length states) (order : IsStrictlySortedBy key_cmp keys) where
  -- the next key is given the state beside it
  pub gives_next : (i n : ℕ) (old new : States) (k : CellKey) (s : State) → i < length keys → i < length states → ((d : CellKey) → k ≡ get_or keys i d) → ((d : State) → s ≡ get_or states i d) → n ≡ i + 1 → Gives (beside keys states) (take i keys) old → new ≡ fin.insert old k s → Gives (beside keys states) (take n keys) new
  gives_next i n old new k s h g key state next gives is =
      let given = beside keys states in
      let value : given (get_or keys i nowhere) ≡ Some s = state_beside keys states i nowhere s order h g ∙ ap Some (sym (state s)) in
      let more : Gives given (take (i + 1) keys) (fin.insert old (get_or keys i nowhere) s) = gives_more given keys i nowhere old s h gives value in
      subst (λ (m : ℕ). Gives given (take m keys) new) (sym next)
      (subst (Gives given (take (i + 1) keys)) (ap (λ (c : CellKey). fin.insert old c s) (sym (key nowhere)) ∙ sym is) more)

  -- once all are
  pub all_given : (n : ℕ) (m : States) → n ≡ min (length keys) (length states) → Gives (beside keys states) (take n keys) m → fin.entries m ≡ zip keys states
  all_given n m all gives = entries_beside keys states m long order (subst (λ (l : List CellKey). Gives (beside keys states) l m) (take_all n keys (omega (arith, all, long))) gives)
