-- Partials by their cells, and the cells that merge by them.
use Rattle.std.proofs.Common.{◌≡◌, ◌⊎◌, inl, inr, ⊎_elim, ℕ, zero, suc, ◌<◌, ◌||◌, ◌&&◌, Bool, true, false, List, [], ◌∷◌, ◌++◌, Option, Some, None, length, get_or, refl, sym, ap, subst, ◌∙◌, arith}
use Rattle.std.specs.Prelude.{All, IsSome}
use Rattle.std.specs.Ordering.{eq_by_cmp}
use Rattle.std.proofs.lemmas.Bool.{false≢true}
use Rattle.peano_keys.specs.declared.cell.CellKey.{CellKey}
use Rattle.peano_keys.specs.declared.side.Mark.{Mark}
use Rattle.peano_keys.specs.Cell.{IsCell, key_cmp}
use Rattle.peano_keys.specs.Grid.{Spacetree}
use Rattle.peano_keys.specs.Field.{States}
use Rattle.hanging_nodes.proofs.TwoGrids.{refined_there}
use Rattle.spacetree.specs.Counts.{EachOnce}
use Rattle.spacetree.specs.Leaves.{is_among}
use Rattle.spacetree.proofs.CellSets.{same_key, itself}
use Rattle.sweep_visits.specs.Moves.{same_cell}
use Rattle.sweep_visits.proofs.Same.{cells_decided}
use Rattle.curve_cuts.specs.Cuts.{Cuts}
use Rattle.curve_cuts.proofs.Cuts.{owner_exists, owner_holds, owner_is_one}
use Rattle.step_phases.proofs.Grids.{level_in}
use Rattle.mean_values.proofs.Lists.{or_left, or_after, or_one}
use Rattle.mean_values.proofs.NextSums.{false_by}
use Rattle.tree_sums.specs.Trees.{owned_by, shared_by, IsSharedCell}
use Rattle.tree_sums.proofs.Trees.{owned_is_told}
use Rattle.peano_records.specs.declared.partials.Partial.{Partial}
use Rattle.shared_sums.specs.Totals.{partial_of, merging_of, merging_in}
use Rattle.shared_sums.specs.Adding.{partials_in, IsOwnShared}
use Rattle.step_sweeps.specs.Sweeps.{IsPartialOf, keys_of}
use Rattle.step_sums.specs.Laws.{AreAllPartials, PartialsListMerging}

pub both : (a b : Bool) → (a && b) ≡ true → (a ≡ true) × (b ≡ true)
both true b h = (refl, h)
both false b h = absurd (false≢true h)

pub and_true : (a b : Bool) → a ≡ true → b ≡ true → (a && b) ≡ true
and_true true b g h = h
and_true false b g h = absurd (false≢true g)

same_truth : (a b : Bool) → (a ≡ true → b ≡ true) → (b ≡ true → a ≡ true) → a ≡ b
same_truth true b f g = sym (f refl)
same_truth false true f g = g refl
same_truth false false f g = refl

none_some : (p : Partial) → ◌≡◌ {A = Option Partial} None (Some p) → ⊥
none_some p e = cc

some_one : (p q : Partial) → ◌≡◌ {A = Option Partial} (Some p) (Some q) → p ≡ q
some_one p q e = cc

neither : (a b : Bool) → a ≡ false → b ≡ false → (a || b) ≡ false
neither a b g h = rw g h

-- a partial of a cell that stands in a list
pub record Found (R : Partial → Type 0) (ps : List Partial) (c : CellKey) : Type 0 where
  pub one : Partial
  pub found : partial_of c ps ≡ Some one
  pub is : R one
  pub key : one.key ≡ c

-- one stands there, or the cell is none of the keys
pub found_or : (R : Partial → Type 0) (ps : List Partial) (c : CellKey) → All R ps → Found R ps c ⊎ ((partial_of c ps ≡ None) × (is_among (keys_of ps) c ≡ false))
found_or R [] c h = inr (refl, refl)
found_or R (p ∷ ps) c h = elim (same_cell p.key c) as (λ b. same_cell p.key c ≡ b → Found R (p ∷ ps) c ⊎ ((partial_of c (p ∷ ps) ≡ None) × (is_among (keys_of (p ∷ ps)) c ≡ false))) [
  | true ↦ λ e. inl (record { one = p; found = rw e refl; is = h 0 p (omega arith); key = cells_decided.exact p.key c e })
  | false ↦ λ e.
      let step : partial_of c (p ∷ ps) ≡ partial_of c ps = rw e refl in
      let away : eq_by_cmp key_cmp c p.key ≡ false = false_by (eq_by_cmp key_cmp c p.key) (λ y. let s = same_key c p.key y in false≢true (sym e ∙ ap (λ q. same_cell p.key q) s ∙ cells_decided.reflexive p.key)) in
      ⊎_elim
      (λ f. inl (record { one = f.one; found = step ∙ f.found; is = f.is; key = f.key }))
      (λ n. inr (step ∙ n.0, neither (eq_by_cmp key_cmp c p.key) (is_among (keys_of ps) c) away n.1))
      (found_or R ps c (λ i d below. h (suc i) d (omega (arith, below))))
] refl

-- the cells that merge are some of the keys
merging_are_keys : (ps : List Partial) (c : CellKey) → is_among (merging_of ps) c ≡ true → is_among (keys_of ps) c ≡ true
merging_are_keys [] c h = h
merging_are_keys (p ∷ ps) c given = elim p.merges as (λ b. p.merges ≡ b → is_among (keys_of (p ∷ ps)) c ≡ true) [
  | true ↦ λ e.
      let is : is_among (merging_of (p ∷ ps)) c ≡ (eq_by_cmp key_cmp c p.key || is_among (merging_of ps) c) = rw e refl in
      ⊎_elim (or_left (eq_by_cmp key_cmp c p.key) (is_among (keys_of ps) c)) (λ y. or_after (eq_by_cmp key_cmp c p.key) (is_among (keys_of ps) c) (merging_are_keys ps c y)) (or_one (eq_by_cmp key_cmp c p.key) (is_among (merging_of ps) c) (sym is ∙ given))
  | false ↦ λ e.
      let is : is_among (merging_of (p ∷ ps)) c ≡ is_among (merging_of ps) c = rw e refl in
      or_after (eq_by_cmp key_cmp c p.key) (is_among (keys_of ps) c) (merging_are_keys ps c (sym is ∙ given))
] refl

once_merging : (ps : List Partial) → EachOnce (keys_of ps) → EachOnce (merging_of ps)
once_merging [] o = tt
once_merging (p ∷ ps) o = elim p.merges as (λ b. p.merges ≡ b → EachOnce (merging_of (p ∷ ps))) [
  | true ↦ λ e.
      let is : p.key ∷ merging_of ps ≡ merging_of (p ∷ ps) = rw e refl in
      subst (λ cs. EachOnce cs) is (false_by (is_among (merging_of ps) p.key) (λ h. false≢true (sym o.0 ∙ merging_are_keys ps p.key h)), once_merging ps o.1)
  | false ↦ λ e.
      let is : merging_of ps ≡ merging_of (p ∷ ps) = rw e refl in
      subst (λ cs. EachOnce cs) is (once_merging ps o.1)
] refl

-- a partial that says so of a cell
record Says (R : Partial → Type 0) (c : CellKey) : Type 0 where
  pub one : Partial
  pub is : R one
  pub key : one.key ≡ c
  pub merges : one.merges ≡ true

merging_says : (R : Partial → Type 0) (ps : List Partial) (c : CellKey) → All R ps → is_among (merging_of ps) c ≡ true → Says R c
merging_says R [] c all h = absurd (false≢true h)
merging_says R (p ∷ ps) c all given = elim p.merges as (λ b. p.merges ≡ b → Says R c) [
  | true ↦ λ e.
      let is : is_among (merging_of (p ∷ ps)) c ≡ (eq_by_cmp key_cmp c p.key || is_among (merging_of ps) c) = rw e refl in
      ⊎_elim (λ y. record { one = p; is = all 0 p (omega arith); key = sym (same_key c p.key y); merges = e }) (merging_says R ps c (λ i d below. all (suc i) d (omega (arith, below)))) (or_one (eq_by_cmp key_cmp c p.key) (is_among (merging_of ps) c) (sym is ∙ given))
  | false ↦ λ e.
      let is : is_among (merging_of (p ∷ ps)) c ≡ is_among (merging_of ps) c = rw e refl in
      merging_says R ps c (λ i d below. all (suc i) d (omega (arith, below))) (sym is ∙ given)
] refl

says_merging : (ps : List Partial) (c : CellKey) (p : Partial) → partial_of c ps ≡ Some p → p.merges ≡ true → is_among (merging_of ps) c ≡ true
says_merging [] c p f m = absurd (none_some p f)
says_merging (q ∷ ps) c p f m = elim (same_cell q.key c) as (λ b. same_cell q.key c ≡ b → is_among (merging_of (q ∷ ps)) c ≡ true) [
  | true ↦ λ e.
      let step : partial_of c (q ∷ ps) ≡ Some q = rw e refl in
      let same : q ≡ p = some_one q p (sym step ∙ f) in
      let here : q.merges ≡ true = ap (λ (x : Partial). x.merges) same ∙ m in
      let is : is_among (merging_of (q ∷ ps)) c ≡ (eq_by_cmp key_cmp c q.key || is_among (merging_of ps) c) = rw here refl in
      is ∙ or_left (eq_by_cmp key_cmp c q.key) (is_among (merging_of ps) c) (ap (eq_by_cmp key_cmp c) (cells_decided.exact q.key c e) ∙ itself c)
  | false ↦ λ e.
      let step : partial_of c (q ∷ ps) ≡ partial_of c ps = rw e refl in
      more q.merges refl (says_merging ps c p (sym step ∙ f) m)
] refl
  where
    more : (b : Bool) → q.merges ≡ b → is_among (merging_of ps) c ≡ true → is_among (merging_of (q ∷ ps)) c ≡ true
    more true e h = (let is : is_among (merging_of (q ∷ ps)) c ≡ (eq_by_cmp key_cmp c q.key || is_among (merging_of ps) c) = rw e refl in is ∙ or_after (eq_by_cmp key_cmp c q.key) (is_among (merging_of ps) c) h)
    more false e h = (let is : is_among (merging_of (q ∷ ps)) c ≡ is_among (merging_of ps) c = rw e refl in is ∙ h)

-- lists one after another
among_either : (xs ys : List CellKey) (q : CellKey) → is_among (xs ++ ys) q ≡ true → (is_among xs q ≡ true) ⊎ (is_among ys q ≡ true)
among_either [] ys q h = inr h
among_either (x ∷ xs) ys q h = ⊎_elim (λ a. inl (or_left (eq_by_cmp key_cmp q x) (is_among xs q) a)) (λ b. ⊎_elim (λ c. inl (or_after (eq_by_cmp key_cmp q x) (is_among xs q) c)) (λ d. inr d) (among_either xs ys q b)) (or_one (eq_by_cmp key_cmp q x) (is_among (xs ++ ys) q) h)

among_first : (xs ys : List CellKey) (q : CellKey) → is_among xs q ≡ true → is_among (xs ++ ys) q ≡ true
among_first [] ys q h = absurd (false≢true h)
among_first (x ∷ xs) ys q h = ⊎_elim (or_left (eq_by_cmp key_cmp q x) (is_among (xs ++ ys) q)) (λ a. or_after (eq_by_cmp key_cmp q x) (is_among (xs ++ ys) q) (among_first xs ys q a)) (or_one (eq_by_cmp key_cmp q x) (is_among xs q) h)

among_second : (xs ys : List CellKey) (q : CellKey) → is_among ys q ≡ true → is_among (xs ++ ys) q ≡ true
among_second [] ys q h = h
among_second (x ∷ xs) ys q h = or_after (eq_by_cmp key_cmp q x) (is_among (xs ++ ys) q) (among_second xs ys q h)

joined : (xs ys : List CellKey) → EachOnce xs → EachOnce ys → ((c : CellKey) → is_among xs c ≡ true → is_among ys c ≡ true → ⊥) → EachOnce (xs ++ ys)
joined [] ys a b apart = b
joined (x ∷ xs) ys a b apart = (
  false_by (is_among (xs ++ ys) x) (λ h. ⊎_elim (λ i. false≢true (sym a.0 ∙ i)) (λ j. apart x (or_left (eq_by_cmp key_cmp x x) (is_among xs x) (itself x)) j) (among_either xs ys x h)),
  joined xs ys a.1 b (λ c h i. apart c (or_after (eq_by_cmp key_cmp c x) (is_among xs c) h) i),
)

-- a tree of which a merging cell is
record InTree (all : List (List Partial)) (c : CellKey) : Type 0 where
  pub tree : ℕ
  pub below : tree < length all
  pub there : is_among (merging_of (partials_in all tree)) c ≡ true

in_tree : (all : List (List Partial)) (c : CellKey) → is_among (merging_in all) c ≡ true → InTree all c
in_tree [] c h = absurd (false≢true h)
in_tree (ps ∷ rest) c h = ⊎_elim
    (λ a. record { tree = 0; below = omega arith; there = a })
    (λ b. let r = in_tree rest c b in record { tree = suc r.tree; below = (let l = r.below in omega (arith, l)); there = r.there })
    (among_either (merging_of ps) (merging_in rest) c h)

of_tree : (all : List (List Partial)) (c : CellKey) (t : ℕ) → t < length all → is_among (merging_of (partials_in all t)) c ≡ true → is_among (merging_in all) c ≡ true
of_tree [] c t below h = absurd (omega (arith, below))
of_tree (ps ∷ rest) c zero below h = among_first (merging_of ps) (merging_in rest) c h
of_tree (ps ∷ rest) c (suc t) below h = among_second (merging_of ps) (merging_in rest) c (of_tree rest c t (omega (arith, below)) h)

once_all : (all : List (List Partial)) → ((t : ℕ) → t < length all → EachOnce (merging_of (partials_in all t))) →
    ((t s : ℕ) (c : CellKey) → t < length all → s < length all → is_among (merging_of (partials_in all t)) c ≡ true → is_among (merging_of (partials_in all s)) c ≡ true → t ≡ s) → EachOnce (merging_in all)
once_all [] each apart = tt
once_all (ps ∷ rest) each apart = joined (merging_of ps) (merging_in rest) (each 0 (omega arith))
    (once_all rest (λ t below. each (suc t) (omega (arith, below))) (λ t s c a b x y. let e = apart (suc t) (suc s) c (omega (arith, a)) (omega (arith, b)) x y in omega (arith, e)))
    (λ c x y. let r = in_tree rest c y in let l = r.below in let e = apart 0 (suc r.tree) c (omega arith) (omega (arith, l)) x r.there in omega (arith, e))

some_none : (o : Option Partial) → IsSome o → o ≡ None → ⊥
some_none None h e = false≢true h
some_none (Some p) h e = cc

-- an item is among the keys of its list
pub item_among : (ps : List Partial) (i : ℕ) (d : Partial) → i < length ps → is_among (keys_of ps) (get_or ps i d).key ≡ true
item_among [] i d below = absurd (omega (arith, below))
item_among (p ∷ ps) zero d below = or_left (eq_by_cmp key_cmp p.key p.key) (is_among (keys_of ps) p.key) (itself p.key)
item_among (p ∷ ps) (suc i) d below = or_after (eq_by_cmp key_cmp (get_or ps i d).key p.key) (is_among (keys_of ps) (get_or ps i d).key) (item_among ps i d (omega (arith, below)))

module _ (k : Cuts) (g : Spacetree) (marks : CellKey → Mark) (merging : CellKey → Bool) (states : States) (all : List (List Partial)) (are : AreAllPartials k g marks merging states all) where
  -- a cell that merges by the partials of a tree is the tree's own, and does
  pub own_merging : (t : ℕ) (c : CellKey) → t < length all → is_among (merging_of (partials_in all t)) c ≡ true → (owned_by k t c ≡ true) × (merging c ≡ true) × (shared_by k c ≡ true)
  own_merging t c below h =
      let count = are.count in
      let ps = are.each t (omega (arith, below, count)) in
      let says = merging_says (IsPartialOf k g merging states t) (partials_in all t) c ps.each h in
      let two = both (owned_by k t c) (merging c) (ap (λ q. owned_by k t q && merging q) (sym says.key) ∙ sym says.is.merges ∙ says.merges) in
      (two.0, two.1, ((ps.cells c).0 (merging_are_keys (partials_in all t) c h)).shared)

  -- and each is there
  owner_names : (c : CellKey) → merging c ≡ true → shared_by k c ≡ true → is_among (merging_in all) c ≡ true
  owner_names c m shared =
      let merges = (are.tells c).0 m in
      let cell : IsCell k.dim c = subst (λ d. IsCell d c) are.grid.dim (are.grid.grid.cells c merges.refined) in
      let here = refined_there k.depth g c are.grid.grid merges.refined in
      let owner = owner_exists k c are.grid.cuts cell (level_in k g c are.grid here) in
      let t = owner.0 in
      let count = are.count in
      let tree = owner.1.tree in
      let ps = are.each t tree in
      let among = (ps.cells c).1 (record { refined = merges.refined; held = owner_holds k t c owner.1; shared = shared }) in
      ⊎_elim
      (λ (f : Found (IsPartialOf k g merging states t) (partials_in all t) c).
      of_tree all c t (omega (arith, count, tree)) (says_merging (partials_in all t) c f.one f.found (f.is.merges ∙ and_true (owned_by k t f.one.key) (merging f.one.key) (ap (owned_by k t) f.key ∙ (owned_is_told k t c).1 owner.1) (ap merging f.key ∙ m))))
      (λ n. absurd (false≢true (sym n.1 ∙ among)))
      (found_or (IsPartialOf k g merging states t) (partials_in all t) c ps.each)

  -- a cell of which its owner has a partial is a shared cell
  pub own_is_shared : (t : ℕ) (c : CellKey) → IsOwnShared k all t c → IsSharedCell k g t c
  own_is_shared t c own =
      let tree = own.owns.tree in
      let ps = are.each t tree in
      ⊎_elim
      (λ (f : Found (λ p. is_among (keys_of (partials_in all t)) p.key ≡ true) (partials_in all t) c). (ps.cells c).0 (subst (λ q. is_among (keys_of (partials_in all t)) q ≡ true) f.key f.is))
      (λ n. absurd (some_none (partial_of c (partials_in all t)) own.partial n.0))
      (found_or (λ p. is_among (keys_of (partials_in all t)) p.key ≡ true) (partials_in all t) c (item_among (partials_in all t)))

pub partials_list_merging : PartialsListMerging
partials_list_merging k g marks merging states all are = record {
  once = once_all all
      (λ t below. let count = are.count in once_merging (partials_in all t) (are.each t (omega (arith, below, count))).once)
      (λ t s c a b x y. owner_is_one k t s c are.grid.cuts ((owned_is_told k t c).0 (own_merging k g marks merging states all are t c a x).0) ((owned_is_told k s c).0 (own_merging k g marks merging states all are s c b y).0));
  members = λ c. same_truth (is_among (merging_in all) c) (merging c && shared_by k c)
      (λ h.
      let r = in_tree all c h in
      let o = own_merging k g marks merging states all are r.tree c r.below r.there in
      and_true (merging c) (shared_by k c) o.1 o.2)
      (λ h.
      let two = both (merging c) (shared_by k c) h in
      owner_names k g marks merging states all are c two.0 two.1);
}
