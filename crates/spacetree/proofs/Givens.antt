-- Maps that give each cell of a list its state, and no other cell one.
use Rattle.std.proofs.Common.{◌+◌, ◌<◌, length, take, get_or, ◌≡◌, ℕ, List, [], Some, None, Option, Bool, true, false, ◌||◌, cond, refl, ap, sym, ◌∙◌, subst, IsSome, IfSome, is_some, unwrap_or}
use Rattle.std.specs.FinMap as map
use Rattle.std.specs.Ordering.{eq_by_cmp}
use Rattle.std.proofs.lemmas.Bool.{false≢true}
use Rattle.peano_keys.specs.declared.cell.CellKey.{CellKey}
use Rattle.peano_keys.specs.declared.state.State.{State}
use Rattle.peano_keys.specs.State.{count_of}
use Rattle.peano_keys.specs.Cell.{key_cmp}
use Rattle.peano_keys.specs.Grid.{Spacetree}
use Rattle.peano_keys.specs.Field.{States, state_at}
use Rattle.solver_api.specs.Step.{IsLeafOf}
use Rattle.spacetree.specs.Leaves.{is_among, ListsLeaves}
use Rattle.spacetree.specs.Fields.{HasLeaves, IsFieldOn}
use Rattle.spacetree.proofs.CellMaps.{cells_total, exact_cells}
use Rattle.spacetree.proofs.CellSets.{same_key, among_next}

-- the map has, at each cell of the list, what a function gives there, and nothing elsewhere
abbrev pub Gives : (CellKey → Option State) → List CellKey → States → Type 0
Gives given cells m = (q : CellKey) → map.get m q ≡ cond (is_among cells q) (given q) None

-- each state of a map has so many values
abbrev pub Counts : ℕ → States → Type 0
Counts parts m = (q : CellKey) → IfSome (map.get m q) (λ s. count_of s ≡ parts)

pub gives_none : (given : CellKey → Option State) (m : States) → m ≡ map.empty → Gives given [] m
gives_none given m e q = ap (λ f. map.get f q) e ∙ map.get-empty key_cmp q

pub counts_none : (parts : ℕ) (m : States) → m ≡ map.empty → Counts parts m
counts_none parts m e q = subst (λ o. IfSome o (λ s. count_of s ≡ parts)) (sym (ap (λ f. map.get f q) e ∙ map.get-empty key_cmp q)) tt

pick : {X : Type 0} (b a : Bool) (v w : Option X) → (b ≡ true → v ≡ w) → cond b v (cond a w None) ≡ cond (b || a) w None
pick true a v w h = h refl
pick false a v w h = refl

-- a map to which the next cell of the list is given
pub gives_more : (given : CellKey → Option State) (xs : List CellKey) (i : ℕ) (d : CellKey) (m : States) (v : State) → i < length xs → Gives given (take i xs) m → given (get_or xs i d) ≡ Some v → Gives given (take (i + 1) xs) (map.insert m (get_or xs i d) v)
gives_more given xs i d m v h old is q =
    let k = get_or xs i d in
    map.get-insert cells_total m k v q
    ∙ ap (cond (eq_by_cmp key_cmp q k) (Some v)) (old q)
    ∙ pick (eq_by_cmp key_cmp q k) (is_among (take i xs) q) (Some v) (given q) (λ e. sym is ∙ ap given (sym (same_key q k e)))
    ∙ ap (λ b. cond b (given q) None) (sym (among_next xs i d q h))

counted : (b : Bool) (parts : ℕ) (v : State) (o : Option State) → count_of v ≡ parts → IfSome o (λ s. count_of s ≡ parts) → IfSome (cond b (Some v) o) (λ s. count_of s ≡ parts)
counted true parts v o h g = h
counted false parts v o h g = g

pub counts_more : (parts : ℕ) (m : States) (k : CellKey) (v : State) → Counts parts m → count_of v ≡ parts → Counts parts (map.insert m k v)
counts_more parts m k v old h q = subst (λ o. IfSome o (λ s. count_of s ≡ parts)) (sym (map.get-insert cells_total m k v q)) (counted (eq_by_cmp key_cmp q k) parts v (map.get m q) h (old q))

some_among : (b : Bool) (o : Option State) → is_some (cond b o None) ≡ true → b ≡ true
some_among true o h = refl
some_among false o h = absurd (false≢true h)

not_among : (b : Bool) → (b ≡ true → ⊥) → b ≡ false
not_among true h = absurd (h refl)
not_among false h = refl

-- such a map of the leaves of a grid has them as its keys
pub keys_given : (t : Spacetree) (given : CellKey → Option State) (cells : List CellKey) (m : States) → ListsLeaves t cells → Gives given cells m → ((q : CellKey) → IsLeafOf t q → IsSome (given q)) → HasLeaves t m
keys_given t given cells m lists gives some q = (
  λ h. (lists.members q).0 (some_among (is_among cells q) (given q) (ap is_some (sym (gives q)) ∙ h)),
  λ leaf. ap is_some (gives q) ∙ ap (λ b. is_some (cond b (given q) None)) ((lists.members q).1 leaf) ∙ some q leaf,
)

-- the leaves of a grid and their states make a field on it
pub field_on : (parts : ℕ) (t : Spacetree) (given : CellKey → Option State) (cells : List CellKey) (m : States) → ListsLeaves t cells → Gives given cells m → ((q : CellKey) → IsLeafOf t q → IsSome (given q)) → Counts parts m → IsFieldOn parts t m
field_on parts t given cells m lists gives some counts = record { leaves = keys_given t given cells m lists gives some; counts = counts }

-- what such a map has at a leaf
pub given_at_leaf : (t : Spacetree) (given : CellKey → Option State) (cells : List CellKey) (m : States) → ListsLeaves t cells → Gives given cells m → (q : CellKey) → IsLeafOf t q → map.get m q ≡ given q
given_at_leaf t given cells m lists gives q leaf = gives q ∙ ap (λ b. cond b (given q) None) ((lists.members q).1 leaf)

-- and at another cell
pub none_elsewhere : (t : Spacetree) (given : CellKey → Option State) (cells : List CellKey) (m : States) → ListsLeaves t cells → Gives given cells m → (q : CellKey) → ¬ IsLeafOf t q → map.get m q ≡ None
none_elsewhere t given cells m lists gives q apart = gives q ∙ ap (λ b. cond b (given q) None) (not_among (is_among cells q) (λ e. apart ((lists.members q).0 e)))

-- what a map has at a leaf of its own
pub there : (o : Option State) (d : State) → is_some o ≡ true → Some (unwrap_or o d) ≡ o
there None d h = absurd (false≢true h)
there (Some s) d h = refl

-- and at another cell
pub away : (o : Option State) → (is_some o ≡ true → ⊥) → o ≡ None
away None h = refl
away (Some s) h = absurd (h refl)

-- a map that gives each leaf its state in a field is that field
pub same_field : (parts : ℕ) (t : Spacetree) (f : States) (cells : List CellKey) (m : States) → IsFieldOn parts t f → ListsLeaves t cells → Gives (λ q. Some (state_at f q)) cells m → m ≡ f
same_field parts t f cells m field lists gives = map.same_map cells_total exact_cells m f (λ q. gives q ∙ go q (is_among cells q) refl) where
  go : (q : CellKey) (b : Bool) → is_among cells q ≡ b → cond b (Some (state_at f q)) None ≡ map.get f q
  go q true h = there (map.get f q) _ ((field.leaves q).1 ((lists.members q).0 h))
  go q false h = sym (away (map.get f q) (λ e. false≢true (sym h ∙ (lists.members q).1 ((field.leaves q).0 e))))
