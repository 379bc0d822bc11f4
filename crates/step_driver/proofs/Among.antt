-- The least failing leaf of the trees together, and of two kinds of leaves.
use Rattle.std.proofs.Common.{◌≡◌, ◌⊎◌, ℕ, ◌<◌, Option, Some, None, IsSome, refl, subst, inl, ⊎_elim}
use Rattle.std.specs.Prelude.{IsNone}
use Rattle.std.specs.declared.cmp.Ordering.TheVariants.{Less}
use Rattle.peano_keys.specs.declared.cell.CellKey.{CellKey}
use Rattle.peano_keys.specs.declared.state.State.{State}
use Rattle.peano_keys.specs.Cell.{key_cmp}
use Rattle.step_world.specs.Failing.{FailsAmong, IsLeastFound, IsLeastOf}
use Rattle.step_sweeps.proofs.LeastFailing.{below_both, either_fails, served_join, not_both}
use Rattle.step_driver.specs.Computing.{least_with}

-- a cell of a kind in one of the first trees
abbrev pub Some_tree : ℕ → (ℕ → CellKey → Type 0) → CellKey → Type 0
Some_tree m P c = (t : ℕ) × (t < m) × P t c

module _ (P : ℕ → CellKey → Type 0) (next : CellKey → Option State) (m : ℕ) (found : ℕ → Option CellKey) (tells : (t : ℕ) → t < m → FailsAmong (P t) next (found t)) where
  told : (t : ℕ) (o : Option CellKey) → t < m → found t ≡ o → FailsAmong (P t) next o
  told t o below is = subst (λ (p : Option CellKey). FailsAmong (P t) next p) is (tells t below)

  -- the least of those that trees found is the least of the trees
  pub trees_fail : (o : Option CellKey) → IsLeastFound m found o → FailsAmong (Some_tree m P) next o
  trees_fail None none = λ c is. told is.0 None is.1 (none is.0 is.1) c is.2
  trees_fail (Some c) h =
      let own : IsLeastOf (P h.0.0) next c = told h.0.0 (Some c) h.0.1 h.0.2 in
      record {
        kind = (h.0.0, h.0.1, own.kind);
        failed = own.failed;
        least = λ b is less. before b is less (found is.0) refl;
      }
    where
      before : (b : CellKey) → (is : Some_tree m P b) → key_cmp b c ≡ Less → (o : Option CellKey) → found is.0 ≡ o → IsSome (next b)
      before b is less None e = told is.0 None is.1 e b is.2
      before b is less (Some d) e = (told is.0 (Some d) is.1 e).least b is.2 (below_both b d c less (h.1 is.0 d is.1 e))

-- so by other new values that are the same for the kind
pub same_next : (P : CellKey → Type 0) (a b : CellKey → Option State) (o : Option CellKey) → ((c : CellKey) → P c → a c ≡ b c) → FailsAmong P a o → FailsAmong P b o
same_next P a b None same h = λ c p. subst (λ o. IsSome o) (same c p) (h c p)
same_next P a b (Some d) same h = record {
  kind = h.kind;
  failed = subst (λ o. IsNone o) (same d h.kind) h.failed;
  least = λ c p less. subst (λ o. IsSome o) (same c p) (h.least c p less);
}

-- of two kinds together the least is the lesser of both
pub either_found : (P Q : CellKey → Type 0) (next : CellKey → Option State) (o p : Option CellKey) → FailsAmong P next o → FailsAmong Q next p → FailsAmong (λ c. P c ⊎ Q c) next (least_with o p)
either_found P Q next o None g h = served_join next P (λ c. P c ⊎ Q c) o (λ c is. inl is) (λ c either none no. ⊎_elim (λ is. no is) (λ is. not_both (next c) none (h c is)) either) g
either_found P Q next o (Some c) g h = either_fails next P Q o c g h
