-- One item of a list of tables: what it adds to the checks, and to the list that is read.
use Rattle.std.proofs.Common.{◌≡◌, ℕ, ◌+◌, ◌<◌, suc, List, [], ◌∷◌, ◌++◌, length, get_or, drop, Option, Some, None, ap, sym, ◌∙◌, add-one, append_assoc}
use Rattle.std.proofs.Math.Seq.{drop-cons}
use Rattle.std.specs.Option.{option_or}
use Rattle.toml.specs.Data.{Members, as_table}
use Rattle.toml.specs.View.{view, items_view}
use Rattle.toml.specs.declared.value.Value.{Value}
use Rattle.grid_file.specs.declared.fault.Malformed.{Malformed}
use Rattle.grid_file.specs.declared.fault.PlanFault.{PlanFault}
use Rattle.grid_file.specs.Faults.{Check, first, IsFault}
use Rattle.grid_file.specs.Keys.{in_table, in_each}
use Rattle.grid_file.specs.Boxes.{put_before, read_each}
use Rattle.grid_file.proofs.Searches.{first_append}

-- the items from one on
item_on : (vs : List Value) (i : ℕ) (v : Value) → i < length vs → v ≡ get_or vs i v → drop i vs ≡ v ∷ drop (i + 1) vs
item_on vs i v h e = drop-cons vs i v h ∙ ap (λ w. w ∷ drop (suc i) vs) (sym e) ∙ ap (λ n. v ∷ drop n vs) (sym (add-one i))

-- the checks from a table on
checks_on : (code : ℕ) (f : ℕ → Members → List Check) (vs : List Value) (i : ℕ) (v : Value) (t : Members) → i < length vs → v ≡ get_or vs i v → Some t ≡ as_table (view v) → first code (in_each f i (items_view (drop i vs))) ≡ option_or (first code (f i t)) (first code (in_each f (i + 1) (items_view (drop (i + 1) vs))))
checks_on code f vs i v t h e s =
    ap (λ ws. first code (in_each f i (items_view ws))) (item_on vs i v h e)
    ∙ ap (λ o. first code (in_table f i o ++ in_each f (i + 1) (items_view (drop (i + 1) vs)))) (sym s)
    ∙ first_append code (f i t) (in_each f (i + 1) (items_view (drop (i + 1) vs)))

-- a table in which nothing is refused
pub nothing_refused : (code : ℕ) (f : ℕ → Members → List Check) (vs : List Value) (i : ℕ) (v : Value) (t : Members) (all : Option Malformed) → i < length vs → v ≡ get_or vs i v → Some t ≡ as_table (view v) → first code (f i t) ≡ None → first code (in_each f i (items_view (drop i vs))) ≡ all → first code (in_each f (i + 1) (items_view (drop (i + 1) vs))) ≡ all
nothing_refused code f vs i v t all h e s n a =
    sym (ap (λ o. option_or o (first code (in_each f (i + 1) (items_view (drop (i + 1) vs))))) n) ∙ sym (checks_on code f vs i v t h e s) ∙ a

-- a table in which something is refused
pub something_refused : (code : ℕ) (f : ℕ → Members → List Check) (vs : List Value) (i : ℕ) (v : Value) (t : Members) (all : Option Malformed) (fault : PlanFault) → i < length vs → v ≡ get_or vs i v → Some t ≡ as_table (view v) → IsFault fault (first code (f i t)) → first code (in_each f i (items_view (drop i vs))) ≡ all → IsFault fault all
something_refused code f vs i v t all fault h e s n a m r =
    sym a ∙ checks_on code f vs i v t h e s ∙ ap (λ o. option_or o (first code (in_each f (i + 1) (items_view (drop (i + 1) vs))))) (n m r)

-- a table that is read
pub one_read : {T : Type 0} (read : Members → T) (vs : List Value) (i : ℕ) (v : Value) (t : Members) (x : T) (xs all : List T) → i < length vs → v ≡ get_or vs i v → Some t ≡ as_table (view v) → read t ≡ x → xs ++ read_each read (items_view (drop i vs)) ≡ all → (xs ++ x ∷ []) ++ read_each read (items_view (drop (i + 1) vs)) ≡ all
one_read read vs i v t x xs all h e s r a =
    append_assoc xs (x ∷ []) (read_each read (items_view (drop (i + 1) vs)))
    ∙ ap (λ y. xs ++ y ∷ read_each read (items_view (drop (i + 1) vs))) (sym r)
    ∙ ap (λ o. xs ++ put_before read o (read_each read (items_view (drop (i + 1) vs)))) s
    ∙ ap (λ ws. xs ++ read_each read (items_view ws)) (sym (item_on vs i v h e))
    ∙ a
