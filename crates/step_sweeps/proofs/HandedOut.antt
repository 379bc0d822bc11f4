-- The partials that a tree hands out, cell by cell: one of each shared cell that was left.
use Rattle.std.proofs.Common.{◌≡◌, ℕ, ◌+◌, ◌<◌, ◌&&◌, ◌||◌, ℤ, Bool, true, false, if◌then◌else◌, List, [], ◌∷◌, ◌++◌, length, refl, ap, sym, ◌∙◌, subst, inl, ⊎_elim, arith}
use Rattle.std.specs.Prelude.{All}
use Rattle.std.specs.Ordering.{eq_by_cmp}
use Rattle.std.proofs.lemmas.Bool.{false≢true, lt-ltb, or_left, or_right, or_cases}
use Rattle.std.proofs.lemmas.List.{map-append, length-append, length-map}
use Rattle.std.proofs.lemmas.List.Elements.{All-nil, All-push}
use Rattle.std.proofs.lemmas.List.Folds.{list_any-append}
use Rattle.stack_law.specs.Once.{IsIn}
use Rattle.stack_law.proofs.Distinct.{in_either}
use Rattle.stack_law.proofs.Chains.{in_left, in_right}
use Rattle.peano_keys.specs.declared.cell.CellKey.{CellKey}
use Rattle.peano_keys.specs.Cell.{key_cmp}
use Rattle.peano_keys.specs.Grid.{Spacetree}
use Rattle.spacetree.specs.Counts.{EachOnce}
use Rattle.spacetree.specs.Leaves.{is_among}
use Rattle.spacetree.proofs.CellSets.{same_key, itself}
use Rattle.curve_cuts.specs.Cuts.{Cuts, IsCutGrid}
use Rattle.tree_sums.specs.Trees.{owned_by, IsSharedCell}
use Rattle.tree_sums.proofs.Trees.{partials_are_few}
use Rattle.peano_records.specs.declared.partials.Partial.{Partial}
use Rattle.step_sweeps.specs.Secondaries.{sum_of, with_partial}
use Rattle.step_sweeps.specs.Sweeps.{keys_of}
use Rattle.step_sweeps.proofs.OwnCounts.{false_by}

or_none : (b : Bool) → (b || false) ≡ b
or_none true = refl
or_none false = refl

-- a list with a cell more behind it
among_more : (xs : List CellKey) (c q : CellKey) → is_among (xs ++ c ∷ []) q ≡ (is_among xs q || eq_by_cmp key_cmp q c)
among_more xs c q = list_any-append (eq_by_cmp key_cmp q) xs (c ∷ []) ∙ ap (λ b. is_among xs q || b) (or_none (eq_by_cmp key_cmp q c))

once_more : (xs : List CellKey) (c : CellKey) → EachOnce xs → is_among xs c ≡ false → EachOnce (xs ++ c ∷ [])
once_more [] c once new = (refl, tt)
once_more (x ∷ xs) c once new = (
  false_by (is_among (xs ++ c ∷ []) x) (λ h. ⊎_elim
      (λ old. false≢true (sym once.0 ∙ old))
      (λ e. let same : x ≡ c = same_key x c e in false≢true (sym new ∙ or_left (eq_by_cmp key_cmp c x) (is_among xs c) (subst (λ y. eq_by_cmp key_cmp c y ≡ true) (sym same) (itself c))))
      (or_cases (is_among xs x) (eq_by_cmp key_cmp x c) (sym (among_more xs c x) ∙ h))),
  once_more xs c once.1 (false_by (is_among xs c) (λ h. false≢true (sym new ∙ or_right (eq_by_cmp key_cmp c x) (is_among xs c) h))),
)

keys_more : (ps : List Partial) (p : Partial) → keys_of (ps ++ p ∷ []) ≡ keys_of ps ++ p.key ∷ []
keys_more ps p = map-append (λ (x : Partial). x.key) ps (p ∷ [])

module _ (k : Cuts) (g : Spacetree) (merging : CellKey → Bool) (t : ℕ) (has : ℕ → CellKey → ℤ) where
  -- a partial tells what the tree has of its cell
  pub record TellsCell (p : Partial) : Type 0 where
    pub shared : IsSharedCell k g t p.key
    pub sums : (i : ℕ) → i < 4 → sum_of p.sums i ≡ has i p.key
    pub merges : p.merges ≡ (owned_by k t p.key && merging p.key)

  pub record HaveHanded (cells : List CellKey) (ps : List Partial) : Type 0 where
    pub once : EachOnce (keys_of ps)
    pub here : (c : CellKey) → is_among (keys_of ps) c ≡ true → IsIn c cells × IsSharedCell k g t c
    pub all : (c : CellKey) → IsIn c cells → IsSharedCell k g t c → is_among (keys_of ps) c ≡ true
    pub each : All TellsCell ps

  pub none_handed : HaveHanded [] []
  none_handed = record { once = tt; here = λ c h. absurd (false≢true h); all = λ c h. absurd h; each = All-nil TellsCell }

  -- a cell more that is not shared
  pub handed_same : (cells : List CellKey) (c : CellKey) (ps : List Partial) → (IsSharedCell k g t c → ⊥) → HaveHanded cells ps → HaveHanded (cells ++ c ∷ []) ps
  handed_same cells c ps other have = record {
    once = have.once;
    here = λ q h. (let old = have.here q h in (in_left (λ z. 0) q cells (c ∷ []) old.0, old.1));
    all = λ q at shared. ⊎_elim
        (λ old. have.all q old shared)
        (λ last. ⊎_elim (λ e. absurd (other (subst (IsSharedCell k g t) e shared))) (λ none. absurd none) last)
        (in_either q cells (c ∷ []) at);
    each = have.each;
  }

  module _ (fits : IsCutGrid k g) (tree : t < k.trees) (cells : List CellKey) (c : CellKey) (ps : List Partial) (p : Partial) (new : IsIn c cells → ⊥) (shared : IsSharedCell k g t c) (key : p.key ≡ c) (tells : TellsCell p) (have : HaveHanded cells ps) where
    abbrev keys_after : List CellKey
    keys_after = keys_of ps ++ c ∷ []

    keys_are : keys_of (ps ++ p ∷ []) ≡ keys_after
    keys_are = keys_more ps p ∙ ap (λ q. keys_of ps ++ q ∷ []) key

    not_yet : is_among (keys_of ps) c ≡ false
    not_yet = false_by (is_among (keys_of ps) c) (λ h. new (have.here c h).0)

    once_after : EachOnce keys_after
    once_after = once_more (keys_of ps) c have.once not_yet

    among_after : (q : CellKey) → is_among keys_after q ≡ true → IsIn q (cells ++ c ∷ []) × IsSharedCell k g t q
    among_after q h = ⊎_elim
        (λ old. let o = have.here q old in (in_left (λ z. 0) q cells (c ∷ []) o.0, o.1))
        (λ e. let same : q ≡ c = same_key q c e in subst (λ x. IsIn x (cells ++ c ∷ []) × IsSharedCell k g t x) (sym same) (in_right (λ z. 0) c cells (c ∷ []) (inl refl), shared))
        (or_cases (is_among (keys_of ps) q) (eq_by_cmp key_cmp q c) (sym (among_more (keys_of ps) c q) ∙ h))

    room : length ps < 24
    room =
        let few = partials_are_few k g t keys_after fits tree once_after (λ q h. (among_after q h).1) in
        let count : length keys_after ≡ length ps + 1 = length-append (keys_of ps) (c ∷ []) ∙ ap (λ n. n + 1) (length-map ps (λ (x : Partial). x.key)) in
        omega (arith, few, count)

    has_room : with_partial ps p ≡ ps ++ p ∷ []
    has_room = ap (λ b. if b then ps ++ p ∷ [] else ps) (lt-ltb (length ps) 24 room)

    handed_after : HaveHanded (cells ++ c ∷ []) (ps ++ p ∷ [])
    handed_after = record {
      once = subst EachOnce (sym keys_are) once_after;
      here = λ q h. among_after q (ap (λ ks. is_among ks q) (sym keys_are) ∙ h);
      all = λ q at is_shared. ap (λ ks. is_among ks q) keys_are ∙ (among_more (keys_of ps) c q ∙ ⊎_elim
          (λ old. or_left (is_among (keys_of ps) q) (eq_by_cmp key_cmp q c) (have.all q old is_shared))
          (λ last. ⊎_elim (λ e. or_right (is_among (keys_of ps) q) (eq_by_cmp key_cmp q c) (subst (λ x. eq_by_cmp key_cmp q x ≡ true) e (itself q))) (λ none. absurd none) last)
          (in_either q cells (c ∷ []) at));
      each = All-push TellsCell ps p have.each tells;
    }

    -- and one that is
    pub handed_more : HaveHanded (cells ++ c ∷ []) (with_partial ps p)
    handed_more = subst (HaveHanded (cells ++ c ∷ [])) (sym has_room) handed_after
