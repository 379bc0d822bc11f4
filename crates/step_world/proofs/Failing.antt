-- The least failing leaf.
use Rattle.std.proofs.Common.{◌≡◌, ℕ, ◌<◌, refl, sym, ap, subst, ◌∙◌, Option, Some, None, IsSome}
use Rattle.std.specs.Prelude.{IsNone}
use Rattle.std.specs.Ordering.{ordering_reverse}
use Rattle.std.specs.declared.cmp.Ordering.{Ordering}
use Rattle.std.specs.declared.cmp.Ordering.TheVariants.{Less, Equal, Greater}
use Rattle.std.proofs.lemmas.Bool.{false≢true}
use Rattle.peano_keys.specs.declared.cell.CellKey.{CellKey}
use Rattle.peano_keys.specs.declared.state.State.{State}
use Rattle.peano_keys.specs.Cell.{IsCell, key_cmp}
use Rattle.peano_keys.specs.Grid.{Spacetree}
use Rattle.peano_keys.specs.Field.{States}
use Rattle.solver_api.specs.Step.{UpdateRule, IsLeafOf, new_state}
use Rattle.spacetree.proofs.CellMaps.{cells_total, exact_cells}
use Rattle.spacetree.proofs.Leaves.{leaf_there}
use Rattle.curve_cuts.specs.Cuts.{Cuts, Owns, IsCutGrid}
use Rattle.curve_cuts.proofs.Cuts.{owner_exists}
use Rattle.step_phases.proofs.Grids.{level_in}
use Rattle.step_world.specs.Failing.{FailsInTree, LeastOverTrees}

some_if : (o : Option State) → ¬ (IsNone o) → IsSome o
some_if None h = absurd (h refl)
some_if (Some s) h = refl

not_both : (o : Option State) → IsSome o → IsNone o → ⊥
not_both None h i = false≢true h
not_both (Some s) h i = false≢true (sym i)

module _ (k : Cuts) (updated : UpdateRule) (g : Spacetree) (f : States) (found : ℕ → Option CellKey) (fits : IsCutGrid k g) (each : (t : ℕ) → t < k.trees → FailsInTree k updated g f t (found t)) where
  owner_of : (b : CellKey) → IsLeafOf g b → (t : ℕ) × Owns k t b
  owner_of b leaf = owner_exists k b fits.cuts (subst (λ d. IsCell d b) fits.dim leaf.cell) (level_in k g b fits (leaf_there g b leaf))

  told : (t : ℕ) (o : Option CellKey) → t < k.trees → found t ≡ o → FailsInTree k updated g f t o
  told t o tree is = subst (λ (p : Option CellKey). FailsInTree k updated g f t p) is (each t tree)

  module _ (c : CellKey) (least : (s : ℕ) (b : CellKey) → s < k.trees → found s ≡ Some b → ¬ (key_cmp b c ≡ Less)) where
    by_order : (b d : CellKey) (r : Ordering) → key_cmp b d ≡ r → key_cmp b c ≡ Less → ¬ (key_cmp d c ≡ Less) → key_cmp b d ≡ Less
    by_order b d Less e less not = e
    by_order b d Equal e less not = absurd (not (subst (λ (q : CellKey). key_cmp q c ≡ Less) (exact_cells b d e) less))
    by_order b d Greater e less not = absurd (not (cells_total.trans d b c (cells_total.antisymm d b ∙ ap ordering_reverse e) less))

    by_found : (b : CellKey) → IsLeafOf g b → key_cmp b c ≡ Less → (s : ℕ) → Owns k s b → IsNone (new_state updated g f b) → (o : Option CellKey) → found s ≡ o → ⊥
    by_found b leaf less s owns fails None e = not_both (new_state updated g f b) (told s None owns.tree e b leaf owns) fails
    by_found b leaf less s owns fails (Some d) e = not_both (new_state updated g f b) ((told s (Some d) owns.tree e).least b leaf owns (by_order b d (key_cmp b d) refl less (least s d owns.tree e))) fails

    before_least : (b : CellKey) → IsLeafOf g b → key_cmp b c ≡ Less → IsSome (new_state updated g f b)
    before_least b leaf less = let owner = owner_of b leaf in some_if (new_state updated g f b) (λ fails. by_found b leaf less owner.0 owner.1 fails (found owner.0) refl)

pub least_over_trees : LeastOverTrees
least_over_trees k updated g f found None fits each none = λ b leaf.
    let owner = owner_of k updated g f found fits each b leaf in
    told k updated g f found fits each owner.0 None owner.1.tree (none owner.0 owner.1.tree) b leaf owner.1
least_over_trees k updated g f found (Some c) fits each is =
    let own = told k updated g f found fits each is.0.0 (Some c) is.0.1 is.0.2 in
    record { leaf = own.leaf; failed = own.failed; least = before_least k updated g f found fits each c is.1 }
