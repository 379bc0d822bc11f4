-- Counts of the cells that pass a test, as calls go over them one by one.
use Rattle.std.proofs.Common.{◌≡◌, ◌↔◌, ℕ, suc, ◌+◌, Bool, true, false, List, [], ◌∷◌, ◌++◌, length, map, refl, ap, sym, ◌∙◌, subst, inl, inr, ⊎_elim, arith}
use Rattle.std.specs.Prelude.{IsTrue, flat_map}
use Rattle.std.specs.Ordering.{eq_by_cmp}
use Rattle.std.proofs.lemmas.Bool.{false≢true, or_left, or_right, or_cases}
use Rattle.std.proofs.lemmas.Grind.{flat_map-append}
use Rattle.std.proofs.lemmas.List.{map-append}
use Rattle.stack_law.specs.Once.{IsIn}
use Rattle.stack_law.specs.Stack.{AreDistinct}
use Rattle.stack_law.proofs.Distinct.{in_either, not_in}
use Rattle.stack_law.proofs.Chains.{in_left, in_right}
use Rattle.peano_keys.specs.declared.cell.CellKey.{CellKey}
use Rattle.peano_keys.specs.Cell.{key_cmp}
use Rattle.spacetree.specs.Leaves.{is_among}
use Rattle.spacetree.proofs.CellSets.{same_key, itself}
use Rattle.vertex_stacks.specs.Tales.{capped}
use Rattle.sweep_visits.specs.Moves.{same_cell}
use Rattle.sweep_visits.specs.Visits.{Visit}
use Rattle.sweep_visits.proofs.Same.{cells_decided}
use Rattle.tree_automaton.specs.Story.{Call}
use Rattle.tree_automaton.specs.Sweeps.{visit_of}
use Rattle.spacetree.specs.Counts.{EachOnce}
use Rattle.step_sweeps.specs.Secondaries.{one_if}

-- a count goes on by one where something holds
pub record IsCounted (P : Type 0) (before after : ℕ) : Type 0 where
  pub passes : Bool
  pub is : IsTrue passes ↔ P
  pub count : after ≡ one_if passes before

-- what was found are the cells of a list that are of a kind, each once
pub record AreFound (cells : List CellKey) (P : CellKey → Type 0) (found : List CellKey) : Type 0 where
  pub members : (c : CellKey) → (is_among found c ≡ true) ↔ (IsIn c cells × P c)
  pub once : EachOnce found

pub none_found : (P : CellKey → Type 0) → AreFound [] P []
none_found P = record { members = λ c. ((λ h. absurd (false≢true h)), (λ h. absurd h.0)); once = tt }

pub false_by : (b : Bool) → (b ≡ true → ⊥) → b ≡ false
false_by true h = absurd (h refl)
false_by false h = refl

-- with a cell more that is of the kind
pub found_more : (cells found : List CellKey) (P : CellKey → Type 0) (c : CellKey) → (IsIn c cells → ⊥) → P c → AreFound cells P found → AreFound (cells ++ c ∷ []) P (c ∷ found)
found_more cells found P c new kind so_far = record {
  members = λ q. (
    (λ h. ⊎_elim
        (λ e. let same : q ≡ c = same_key q c e in subst (λ x. IsIn x (cells ++ c ∷ []) × P x) (sym same) (in_right (λ z. 0) c cells (c ∷ []) (inl refl), kind))
        (λ e. let old = (so_far.members q).0 e in (in_left (λ z. 0) q cells (c ∷ []) old.0, old.1))
        (or_cases (eq_by_cmp key_cmp q c) (is_among found q) h)),
    (λ h. ⊎_elim
        (λ old. or_right (eq_by_cmp key_cmp q c) (is_among found q) ((so_far.members q).1 (old, h.1)))
        (λ last. ⊎_elim (λ e. or_left (eq_by_cmp key_cmp q c) (is_among found q) (subst (λ x. eq_by_cmp key_cmp q x ≡ true) e (itself q))) (λ none. absurd none) last)
        (in_either q cells (c ∷ []) h.0)),
  );
  once = (false_by (is_among found c) (λ e. new ((so_far.members c).0 e).0), so_far.once);
}

-- and with one that is not
pub found_same : (cells found : List CellKey) (P : CellKey → Type 0) (c : CellKey) → (P c → ⊥) → AreFound cells P found → AreFound (cells ++ c ∷ []) P found
found_same cells found P c other so_far = record {
  members = λ q. (
    (λ h. let old = (so_far.members q).0 h in (in_left (λ z. 0) q cells (c ∷ []) old.0, old.1)),
    (λ h. ⊎_elim
        (λ old. (so_far.members q).1 (old, h.1))
        (λ last. ⊎_elim (λ e. absurd (other (subst P e h.1))) (λ none. absurd none) last)
        (in_either q cells (c ∷ []) h.0)),
  );
  once = so_far.once;
}

-- the cells of a list that are of a kind were counted, each once
pub record HaveCounted (cells : List CellKey) (P : CellKey → Type 0) (n : ℕ) : Type 0 where
  pub found : List CellKey
  pub are : AreFound cells P found
  pub count : n ≡ capped (length found)

pub none_counted : (P : CellKey → Type 0) (n : ℕ) → n ≡ 0 → HaveCounted [] P n
none_counted P n none = record { found = []; are = none_found P; count = none }

capped_next : (n : ℕ) → capped (capped n + 1) ≡ capped (suc n)
capped_next n = omega arith

-- so it is with a cell more
pub counted_more : (cells : List CellKey) (P : CellKey → Type 0) (c : CellKey) (before after : ℕ) → (IsIn c cells → ⊥) → HaveCounted cells P before → IsCounted (P c) before after → HaveCounted (cells ++ c ∷ []) P after
counted_more cells P c before after new so_far more = by more.passes more.is more.count
  where
    by : (b : Bool) → (IsTrue b ↔ P c) → after ≡ one_if b before → HaveCounted (cells ++ c ∷ []) P after
    by true is count = record {
      found = c ∷ so_far.found;
      are = found_more cells so_far.found P c new (is.0 refl) so_far.are;
      count = count ∙ (ap (λ n. capped (n + 1)) so_far.count ∙ capped_next (length so_far.found));
    }
    by false is count = record {
      found = so_far.found;
      are = found_same cells so_far.found P c (λ kind. false≢true (is.1 kind)) so_far.are;
      count = count ∙ so_far.count;
    }

-- an item of a list of different ones does not stand before itself
pub not_before : (xs ys : List CellKey) (c : CellKey) → AreDistinct same_cell (xs ++ c ∷ ys) → IsIn c xs → ⊥
not_before [] ys c distinct h = h
not_before (x ∷ xs) ys c distinct (inl e) = not_in CellKey same_cell cells_decided.reflexive cells_decided.exact x (xs ++ c ∷ ys) distinct.0 (in_right (λ z. 0) x xs (c ∷ ys) (inl (sym e)))
not_before (x ∷ xs) ys c distinct (inr h) = not_before xs ys c distinct.1 h

-- what the visits of calls add to a list
pub flat_at : (g : Visit → List CellKey) (so_far : List Call) (call : Call) (v : Visit) (after : List Call) → call.visit ≡ v → flat_map g (map visit_of (so_far ++ call ∷ after)) ≡ flat_map g (map visit_of so_far) ++ (g v ++ flat_map g (map visit_of after))
flat_at g so_far call v after is = ap (flat_map g) (map-append visit_of so_far (call ∷ after)) ∙ (flat_map-append g (map visit_of so_far) (call.visit ∷ map visit_of after) ∙ ap (λ x. flat_map g (map visit_of so_far) ++ (g x ++ flat_map g (map visit_of after))) is)
