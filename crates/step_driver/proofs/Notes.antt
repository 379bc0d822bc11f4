-- The notes of trees, and the tales that they make.
use Rattle.std.proofs.Common.{append_assoc, ◌≡◌, ◌≢◌, ℕ, zero, suc, ◌+◌, ◌<◌, ◌≤◌, ◌==◌, Bool, true, false, cond, List, [], ◌∷◌, ◌++◌, refl, ap, ap₂, sym, subst, ◌∙◌, ⊎_elim, arith}
use Rattle.std.proofs.lemmas.Bool.{cases_eq, eq-eqb, ne_eqb}
use Rattle.std.proofs.lemmas.List.{append-nil}
use Rattle.std.proofs.lemmas.List.Elements.{filter-append, All-nil, All-cons, All-append}
use Rattle.vertex_stacks.specs.declared.kind.Kind.{Kind}
use Rattle.vertex_stacks.specs.declared.kind.Kind.TheVariants.{Raise}
use Rattle.vertex_stacks.specs.declared.tale.Tale.{Tale}
use Rattle.vertex_stacks.specs.Notes.{Note}
use Rattle.vertex_stacks.specs.Tales.{TaleGrows, no_tale, place_of, tale_of, with_note}
use Rattle.tree_automaton.specs.TreeLists.{TreeLists}
use Rattle.step_world.specs.Notes.{by_trees}
use Rattle.step_driver.specs.Stores.{store_of}
use Rattle.step_driver.specs.Notes.{notes_of, TellsSinceRaised, HaveTales}

one_note : (t : ℕ) (x : Note) (b : Bool) → (x.tree == t) ≡ b → notes_of t (x ∷ []) ≡ cond b (x ∷ []) []
one_note t x b e = ap (λ b. cond b (x ∷ []) []) e

split : (t : ℕ) (xs ys : List Note) → notes_of t (xs ++ ys) ≡ notes_of t xs ++ notes_of t ys
split t xs ys = filter-append (λ (m : Note). m.tree == t) xs ys

not_raising : (k : Kind) → place_of k ≢ 0 → k ≢ Raise
not_raising k apart e = apart (ap place_of e)

-- a tale with one more note, of no raising
tells_more : TaleGrows → (all : List Note) (tale : Tale) (x : Note) → x.kind ≢ Raise → TellsSinceRaised all tale → TellsSinceRaised (all ++ x ∷ []) (with_note tale x)
tells_more grows all tale x other h =
    let since = h.0 in
    let is = h.1 in (
      since ++ x ∷ [],
      record {
        earlier = is.earlier;
        raised = is.raised;
        later = is.later ++ x ∷ [];
        all_are = ap (λ (ns : List Note). ns ++ x ∷ []) is.all_are ∙ append_assoc is.earlier since (x ∷ []);
        since_are = ap (λ (ns : List Note). ns ++ x ∷ []) is.since_are;
        raising = is.raising;
        last = All-append (λ (m : Note). m.kind ≢ Raise) is.later (x ∷ []) is.last (All-cons (λ (m : Note). m.kind ≢ Raise) x [] other (All-nil (λ (m : Note). m.kind ≢ Raise)));
      },
      ap (λ t. with_note t x) h.2 ∙ sym (grows.1 since x),
    )

-- a tale of the note of a raising alone
tells_raised : TaleGrows → (all : List Note) (x : Note) → x.kind ≡ Raise → TellsSinceRaised (all ++ x ∷ []) (with_note no_tale x)
tells_raised grows all x raising = (
  x ∷ [],
  record {
    earlier = all;
    raised = x;
    later = [];
    all_are = refl;
    since_are = refl;
    raising = raising;
    last = All-nil (λ (m : Note). m.kind ≢ Raise);
  },
  ap (λ t. with_note t x) (sym grows.0) ∙ sym (grows.1 [] x),
)

module _ (f : ℕ → Note) (number : (s : ℕ) → (f s).tree ≡ s) where
  mine : (t : ℕ) → notes_of t (f t ∷ []) ≡ f t ∷ []
  mine t = one_note t (f t) true (eq-eqb (f t).tree t (number t))

  other : (s t : ℕ) → s ≢ t → notes_of t (f s ∷ []) ≡ []
  other s t apart = one_note t (f s) false (ne_eqb (f s).tree t (λ e. apart (sym (number s) ∙ e)))

  beyond : (n t : ℕ) → n ≤ t → notes_of t (by_trees n f) ≡ []
  beyond zero t h = refl
  beyond (suc n) t h =
      let apart : n ≢ t = omega (arith, h) in
      split t (by_trees n f) (f n ∷ []) ∙ ap₂ (λ xs ys. xs ++ ys) (beyond n t (omega (arith, h))) (other n t apart)

  -- among one note of each tree there is one of each tree
  pub one_each : (n t : ℕ) → t < n → notes_of t (by_trees n f) ≡ f t ∷ []
  one_each zero t h = absurd (omega (arith, h))
  one_each (suc n) t h = ⊎_elim
      (λ e.
      let above : n ≤ t = omega arith in
      split t (by_trees n f) (f n ∷ []) ∙ ap₂ (λ xs ys. xs ++ ys) (beyond n t above) (ap (λ s. notes_of t (f s ∷ [])) (sym e) ∙ mine t))
      (λ apart.
      let away : n ≢ t = λ e. apart (sym e) in
      let below : t < n = omega (arith, h, apart) in
      split t (by_trees n f) (f n ∷ []) ∙ ap₂ (λ xs ys. xs ++ ys) (one_each n t below) (other n t away) ∙ append-nil (f t ∷ []))
      (cases_eq t n)

  -- the notes of a tree, with one more of each
  with_own : (n t : ℕ) (ns : List Note) → t < n → notes_of t (ns ++ by_trees n f) ≡ notes_of t ns ++ f t ∷ []
  with_own n t ns below = split t ns (by_trees n f) ∙ ap (λ xs. notes_of t ns ++ xs) (one_each n t below)

  -- where each tree's tale takes its note, which is of no raising, tales stay those of notes
  pub tales_grow : TaleGrows → ((s : ℕ) → place_of (f s).kind ≢ 0) → (n : ℕ) (before after : List TreeLists) (ns : List Note) → HaveTales n before ns → ((t : ℕ) → t < n → (store_of after t).lanes.tale ≡ with_note (store_of before t).lanes.tale (f t)) → HaveTales n after (ns ++ by_trees n f)
  tales_grow grows other n before after ns were takes t below =
      subst (λ xs. TellsSinceRaised xs (store_of after t).lanes.tale) (sym (with_own n t ns below))
      (subst (TellsSinceRaised (notes_of t ns ++ f t ∷ [])) (sym (takes t below)) (tells_more grows (notes_of t ns) (store_of before t).lanes.tale (f t) (not_raising (f t).kind (other t)) (were t below)))

  -- where each tree's tale has the note of a raising alone, they are those of notes, whatever stood before
  pub tales_begin : TaleGrows → ((s : ℕ) → (f s).kind ≡ Raise) → (n : ℕ) (stores : List TreeLists) (ns : List Note) → ((t : ℕ) → t < n → (store_of stores t).lanes.tale ≡ with_note no_tale (f t)) → HaveTales n stores (ns ++ by_trees n f)
  tales_begin grows raising n stores ns takes t below =
      subst (λ xs. TellsSinceRaised xs (store_of stores t).lanes.tale) (sym (with_own n t ns below))
      (subst (TellsSinceRaised (notes_of t ns ++ f t ∷ [])) (sym (takes t below)) (tells_raised grows (notes_of t ns) (f t) (raising t)))

pub next : (n : ℕ) → suc n ≡ n + 1
next n = omega arith

-- the notes of one tree more
pub one_noted : (f : ℕ → Note) (m : ℕ) (old : List Note) (x : Note) → x ≡ f m → (old ++ by_trees m f) ++ x ∷ [] ≡ old ++ by_trees (m + 1) f
one_noted f m old x e =
    let last : old ++ (by_trees m f ++ x ∷ []) ≡ old ++ by_trees (suc m) f = ap (λ (y : Note). old ++ (by_trees m f ++ y ∷ [])) e in
    append_assoc old (by_trees m f) (x ∷ []) ∙ (last ∙ ap (λ n. old ++ by_trees n f) (next m))
