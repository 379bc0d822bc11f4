-- Things that are found cell by cell, each once.
use Rattle.std.proofs.Common.{◌≡◌, ◌↔◌, ℕ, ◌+◌, List, [], ◌∷◌, ◌++◌, length, refl, ap, sym, ◌∙◌, subst, inl, inr, ⊎_elim, arith, append-nil, length-append}
use Rattle.std.specs.Prelude.{flat_map}
use Rattle.stack_law.specs.Once.{IsIn}
use Rattle.stack_law.specs.Stack.{AreDistinct}
use Rattle.stack_law.proofs.Distinct.{in_either, not_in}
use Rattle.stack_law.proofs.Chains.{in_left, in_right}
use Rattle.peano_keys.specs.declared.cell.CellKey.{CellKey}
use Rattle.vertex_stacks.specs.Tales.{capped}
use Rattle.sweep_visits.specs.Moves.{same_cell}
use Rattle.sweep_visits.proofs.Same.{cells_decided}
use Rattle.showing_sweep.specs.Counts.{NoneTwice, ListsAll}

-- two lists with nothing in common
pub none_twice_in_both : {A : Type 0} (xs ys : List A) → NoneTwice xs → NoneTwice ys → ((x : A) → IsIn x xs → IsIn x ys → ⊥) → NoneTwice (xs ++ ys)
none_twice_in_both [] ys d e apart = e
none_twice_in_both (x ∷ xs) ys d e apart = ((λ h. ⊎_elim d.0 (apart x (inl refl)) (in_either x xs ys h)), none_twice_in_both xs ys d.1 e (λ z h k. apart z (inr h) k))

-- the things of a kind at some cells, each once
pub record AreFound {A : Type 0} (home : A → CellKey) (P : A → Type 0) (cells : List CellKey) (things : List A) : Type 0 where
  pub once : NoneTwice things
  pub members : (x : A) → IsIn x things ↔ (IsIn (home x) cells × P x)

pub none_found : {A : Type 0} (home : A → CellKey) (P : A → Type 0) → AreFound home P [] []
none_found home P = record { once = tt; members = λ x. ((λ h. absurd h), (λ h. absurd h.0)) }

-- those at one cell more
pub found_more : {A : Type 0} (home : A → CellKey) (P : A → Type 0) (cells : List CellKey) (c : CellKey) (things more : List A) → (IsIn c cells → ⊥) → AreFound home P cells things → AreFound home P (c ∷ []) more → AreFound home P (cells ++ c ∷ []) (things ++ more)
found_more home P cells c things more new old here = record {
  once = none_twice_in_both things more old.once here.once (λ x h k. ⊎_elim (λ e. new (subst (λ q. IsIn q cells) e ((old.members x).0 h).0)) (λ none. absurd none) ((here.members x).0 k).0);
  members = λ x. (
    (λ h. ⊎_elim
        (λ a. let m = (old.members x).0 a in (in_left (λ z. 0) (home x) cells (c ∷ []) m.0, m.1))
        (λ b. let m = (here.members x).0 b in (in_right (λ z. 0) (home x) cells (c ∷ []) m.0, m.1))
        (in_either x things more h)),
    (λ h. ⊎_elim
        (λ a. in_left (λ z. 0) x things more ((old.members x).1 (a, h.1)))
        (λ b. in_right (λ z. 0) x things more ((here.members x).1 (b, h.1)))
        (in_either (home x) cells (c ∷ []) h.0)),
  );
}

-- nothing at a cell, or one thing
pub nothing_here : {A : Type 0} (home : A → CellKey) (P : A → Type 0) (c : CellKey) → ((x : A) → home x ≡ c → P x → ⊥) → AreFound home P (c ∷ []) []
nothing_here home P c none = record { once = tt; members = λ x. ((λ h. absurd h), (λ h. ⊎_elim (λ e. none x e h.1) (λ no. absurd no) h.0)) }

pub one_here : {A : Type 0} (home : A → CellKey) (P : A → Type 0) (c : CellKey) (x : A) → home x ≡ c → P x → ((y : A) → home y ≡ c → P y → y ≡ x) → AreFound home P (c ∷ []) (x ∷ [])
one_here home P c x at is alone = record {
  once = ((λ h. absurd h), tt);
  members = λ y. (
    (λ h. ⊎_elim (λ e. (inl (ap home e ∙ at), subst P (sym e) is)) (λ no. absurd no) h),
    (λ h. ⊎_elim (λ e. inl (alone y e h.1)) (λ no. absurd no) h.0),
  );
}

-- a count of things that were found
pub record AreCounted {A : Type 0} (home : A → CellKey) (P : A → Type 0) (cells : List CellKey) (n : ℕ) : Type 0 where
  pub things : List A
  pub found : AreFound home P cells things
  pub told : n ≡ capped (length things)

pub none_counted : {A : Type 0} (home : A → CellKey) (P : A → Type 0) (n : ℕ) → n ≡ 0 → AreCounted home P [] n
none_counted home P n none = record { things = []; found = none_found home P; told = none }

pub capped_more : (n m : ℕ) → capped (capped n + m) ≡ capped (n + m)
capped_more n m = omega arith

pub counted_more : {A : Type 0} (home : A → CellKey) (P : A → Type 0) (cells : List CellKey) (c : CellKey) (more : List A) (before after : ℕ) → (IsIn c cells → ⊥) → AreCounted home P cells before → AreFound home P (c ∷ []) more → after ≡ capped (before + length more) → AreCounted home P (cells ++ c ∷ []) after
counted_more home P cells c more before after new old here is = record {
  things = old.things ++ more;
  found = found_more home P cells c old.things more new old.found here;
  told = is ∙ (ap (λ n. capped (n + length more)) old.told ∙ (capped_more (length old.things) (length more) ∙ ap capped (sym (length-append old.things more))));
}

-- a count that stays
pub counted_none : {A : Type 0} (home : A → CellKey) (P : A → Type 0) (cells : List CellKey) (c : CellKey) (before after : ℕ) → (IsIn c cells → ⊥) → AreCounted home P cells before → ((x : A) → home x ≡ c → P x → ⊥) → after ≡ before → AreCounted home P (cells ++ c ∷ []) after
counted_none home P cells c before after new old none is = record {
  things = old.things ++ [];
  found = found_more home P cells c old.things [] new old.found (nothing_here home P c none);
  told = is ∙ (old.told ∙ ap capped (let e : length old.things ≡ length old.things + 0 = omega arith in e ∙ sym (length-append old.things [])));
}

-- all that were found at the cells of some kind
pub all_found : {A : Type 0} (home : A → CellKey) (P Q : A → Type 0) (cells : List CellKey) (things : List A) → AreFound home P cells things → ((x : A) → (IsIn (home x) cells × P x) ↔ Q x) → ListsAll Q things
all_found home P Q cells things found is = record { once = found.once; members = λ x. ((λ h. (is x).0 ((found.members x).0 h)), (λ h. (found.members x).1 ((is x).1 h))) }

-- a list of different cells has none twice
pub distinct_cells : (cs : List CellKey) → AreDistinct same_cell cs → NoneTwice cs
distinct_cells [] d = tt
distinct_cells (c ∷ cs) d = (not_in CellKey same_cell cells_decided.reflexive cells_decided.exact c cs d.0, distinct_cells cs d.1)

-- the things at the cells of a list, found one cell after another
pub all_at : {A : Type 0} (home : A → CellKey) (P : A → Type 0) (things : CellKey → List A) (cells : List CellKey) → NoneTwice cells → ((c : CellKey) → IsIn c cells → AreFound home P (c ∷ []) (things c)) → AreFound home P cells (flat_map things cells)
all_at home P things [] once each = none_found home P
all_at home P things (c ∷ cells) once each =
    let here = each c (inl refl) in
    let rest = all_at home P things cells once.1 (λ q h. each q (inr h)) in
    record {
      once = none_twice_in_both (things c) (flat_map things cells) here.once rest.once (λ x h k. ⊎_elim (λ e. once.0 (subst (λ q. IsIn q cells) e ((rest.members x).0 k).0)) (λ none. absurd none) ((here.members x).0 h).0);
      members = λ x. (
        (λ h. ⊎_elim
            (λ a. let m = (here.members x).0 a in (⊎_elim (λ e. inl e) (λ none. absurd none) m.0, m.1))
            (λ b. let m = (rest.members x).0 b in (inr m.0, m.1))
            (in_either x (things c) (flat_map things cells) h)),
        (λ h. ⊎_elim
            (λ e. in_left (λ z. 0) x (things c) (flat_map things cells) ((here.members x).1 (inl e, h.1)))
            (λ b. in_right (λ z. 0) x (things c) (flat_map things cells) ((rest.members x).1 (b, h.1)))
            h.0),
      );
    }

-- nothing more at one cell more
pub found_none : {A : Type 0} (home : A → CellKey) (P : A → Type 0) (cells : List CellKey) (c : CellKey) (things : List A) → (IsIn c cells → ⊥) → AreFound home P cells things → ((x : A) → home x ≡ c → P x → ⊥) → AreFound home P (cells ++ c ∷ []) things
found_none home P cells c things new old none = subst (AreFound home P (cells ++ c ∷ [])) (append-nil things) (found_more home P cells c things [] new old (nothing_here home P c none))
