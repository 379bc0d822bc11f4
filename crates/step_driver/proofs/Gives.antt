-- What trees give that are beside each other.
use Rattle.std.proofs.Common.{◌≡◌, ℕ, ◌<◌, ◌≤◌, List, [], ◌∷◌, length, map, ap, sym, subst, ◌∙◌, arith}
use Rattle.std.specs.Prelude.{Result, Ok, IfOk, slice_index_or}
use Rattle.std.proofs.lemmas.List.{get_or-map, get_or_default, length-map}
use Rattle.tree_automaton.specs.TreeLists.{TreeLists}
use Rattle.step_driver.specs.Gives.{EachGives, EachMayGive, EachIs}
use Rattle.step_driver.specs.Stores.{no_store, store_of, ChangesEach}

-- where none was refused, all are there
pub all_there : {Y E : Type 0} (given : List (Result Y E)) (all : List Y) (n : ℕ) → given ≡ map Ok all → length given ≡ n → length all ≡ n
all_there given all n is count = sym (length-map all Ok) ∙ ap length (sym is) ∙ count

-- and each is what may be given
pub one_there : {Y E : Type 0} (P : Y → Type 0) (given : List (Result Y E)) (all : List Y) (t : ℕ) (e : Y) → given ≡ map Ok all → t < length all → IfOk (slice_index_or given t (Ok e)) P → P (slice_index_or all t e)
one_there P given all t e is there may = subst (λ r. IfOk r P) (ap (λ g. slice_index_or g t (Ok e)) is ∙ get_or-map Ok all t e (Ok e) there) may

-- so each gave it
pub each_given : {X Y E : Type 0} (R : X → Y → Type 0) (xs : List X) (given : List (Result Y E)) (all : List Y) → EachMayGive R xs given → given ≡ map Ok all → EachGives R xs all
each_given R xs given all may is =
    let count : length all ≡ length xs = all_there given all (length xs) is may.count in
    record {
      count = count;
      each = λ t d e inside. one_there (R (slice_index_or xs t d)) given all t e is (omega (arith, inside, count)) (may.each t d (Ok e) inside);
    }

-- an item of a list that has one
pub some_item : {Y : Type 0} (all : List Y) (t : ℕ) → t < length all → Y
some_item [] t h = absurd (omega (arith, h))
some_item (y ∷ ys) t h = y

-- what each store and what it gave lead to is so of the stores that were given
pub each_changes : {Y : Type 0} (R : TreeLists → Y → Type 0) (P : ℕ → TreeLists → TreeLists → Type 0) (store : Y → TreeLists) (trees : ℕ) (before after : List TreeLists) (all : List Y) →
    length before ≡ trees → EachGives R before all → after ≡ map store all → ((t : ℕ) (y : Y) → t < trees → R (store_of before t) y → P t (store_of before t) (store y)) → ChangesEach P trees before after
each_changes R P store trees before after all count gives is leads = record {
  count = ap length is ∙ length-map all store ∙ gives.count ∙ count;
  changed = λ t below.
      let inside : t < length before = omega (arith, below, count) in
      let there : t < length all = omega (arith, inside, gives.count) in
      let e = some_item all t there in
      subst (P t (store_of before t)) (sym (ap (λ xs. store_of xs t) is ∙ get_or-map store all t e no_store there)) (leads t (slice_index_or all t e) below (gives.each t no_store e inside));
}

-- so where this says something of the place in the list, too
pub each_changes_at : {Y : Type 0} (R : TreeLists → Y → Type 0) (P : ℕ → TreeLists → TreeLists → Type 0) (store : Y → TreeLists) (trees : ℕ) (before after : List TreeLists) (all : List Y) →
    length before ≡ trees → EachGives R before all → after ≡ map store all → ((t : ℕ) (e : Y) → t < trees → t < length all → R (store_of before t) (slice_index_or all t e) → P t (store_of before t) (store (slice_index_or all t e))) → ChangesEach P trees before after
each_changes_at R P store trees before after all count gives is leads = record {
  count = ap length is ∙ length-map all store ∙ gives.count ∙ count;
  changed = λ t below.
      let inside : t < length before = omega (arith, below, count) in
      let there : t < length all = omega (arith, inside, gives.count) in
      let e = some_item all t there in
      subst (P t (store_of before t)) (sym (ap (λ xs. store_of xs t) is ∙ get_or-map store all t e no_store there)) (leads t e below there (gives.each t no_store e inside));
}

-- what stands at a place gave what was read there
pub gives_item : {X Y : Type 0} (R : X → Y → Type 0) (xs : List X) (ys : List Y) (t : ℕ) (d : X) (y : Y) → EachGives R xs ys → t < length xs → y ≡ slice_index_or ys t y → R (slice_index_or xs t d) y
gives_item R xs ys t d y gives inside read = subst (R (slice_index_or xs t d)) (sym read) (gives.each t d y inside)

-- what is so of the store of each tree is so of each of the list
pub each_is : (P : TreeLists → Type 0) (trees : ℕ) (stores : List TreeLists) → length stores ≡ trees → ((t : ℕ) → t < trees → P (store_of stores t)) → EachIs P stores
each_is P trees stores count all = λ t d inside. subst P (sym (get_or_default stores t d no_store inside)) (all t (omega (arith, inside, count)))

-- a place in the list of what all gave is the number of a tree
pub below_trees : {Y E : Type 0} (given : List (Result Y E)) (all read : List Y) (t trees : ℕ) → given ≡ map Ok all → length given ≡ trees → read ≡ all → t < length read → t < trees
below_trees given all read t trees is count same inside =
    let whole = all_there given all trees is count in
    let long : length read ≡ length all = ap length same in
    omega (arith, whole, long, inside)

-- and the end of that list is that of the trees
pub all_trees : {Y E : Type 0} (given : List (Result Y E)) (all read : List Y) (t trees : ℕ) → given ≡ map Ok all → length given ≡ trees → read ≡ all → length read ≤ t → t ≤ length read → t ≡ trees
all_trees given all read t trees is count same over within =
    let whole = all_there given all trees is count in
    let long : length read ≡ length all = ap length same in
    omega (arith, whole, long, over, within)

-- a place in a list of as many as there are trees is the number of a tree
pub below_read : {Y : Type 0} (all read : List Y) (t trees : ℕ) → length all ≡ trees → read ≡ all → t < length read → t < trees
below_read all read t trees count same inside =
    let long : length read ≡ length all = ap length same in
    omega (arith, count, long, inside)

-- and its end is that of the trees
pub all_read : {Y : Type 0} (all read : List Y) (t trees : ℕ) → length all ≡ trees → read ≡ all → length read ≤ t → t ≤ length read → t ≡ trees
all_read all read t trees count same over within =
    let long : length read ≡ length all = ap length same in
    omega (arith, count, long, over, within)
