-- The least cell of some kind that has no new value, with more cells or more kinds.
use Rattle.std.proofs.Common.{◌≡◌, ◌⊎◌, Bool, true, false, List, [], ◌∷◌, ◌++◌, Option, Some, None, if◌then◌else◌, refl, sym, ap, ◌∙◌, subst, inl, inr, ⊎_elim, IsSome}
use Rattle.std.specs.Prelude.{IsNone}
use Rattle.std.specs.Ordering.{is_lt, ordering_reverse}
use Rattle.std.specs.declared.cmp.Ordering.{Ordering}
use Rattle.std.specs.declared.cmp.Ordering.TheVariants.{Less, Equal, Greater}
use Rattle.std.proofs.lemmas.Cmp.{tied_itself}
use Rattle.std.proofs.lemmas.Bool.{false≢true}
use Rattle.stack_law.specs.Once.{IsIn}
use Rattle.stack_law.proofs.Distinct.{in_either}
use Rattle.stack_law.proofs.Chains.{in_left, in_right}
use Rattle.peano_keys.specs.declared.cell.CellKey.{CellKey}
use Rattle.peano_keys.specs.declared.state.State.{State}
use Rattle.peano_keys.specs.Cell.{key_cmp}
use Rattle.spacetree.proofs.CellMaps.{cells_total, exact_cells}
use Rattle.step_world.specs.Failing.{FailsAmong, IsLeastOf}
use Rattle.step_sweeps.specs.Kernels.{failing_with, least_of}

pub some_unless : (o : Option State) → (o ≡ None → ⊥) → IsSome o
some_unless None h = absurd (h refl)
some_unless (Some s) h = refl

pub not_both : (o : Option State) → o ≡ None → IsSome o → ⊥
not_both o none some = false≢true (subst (λ p. IsSome p) none some)

none_is : (o : Option State) → o ≡ None → IsNone o
none_is o e = subst (λ p. IsNone p) (sym e) refl

never_less : (c : CellKey) → ¬ (key_cmp c c ≡ Less)
never_less c e = let same = tied_itself cells_total c in cc

less_is : (r : Ordering) → is_lt r ≡ true → r ≡ Less
less_is Less e = refl
less_is Equal e = absurd (false≢true e)
less_is Greater e = absurd (false≢true e)

-- what is less than a cell that is not above another one is less than that
pub below_both : (b c d : CellKey) → key_cmp b d ≡ Less → ¬ (key_cmp c d ≡ Less) → key_cmp b c ≡ Less
below_both b c d less not = by (key_cmp b c) refl
  where
    by : (r : Ordering) → key_cmp b c ≡ r → key_cmp b c ≡ Less
    by Less e = e
    by Equal e = absurd (not (subst (λ (q : CellKey). key_cmp q d ≡ Less) (exact_cells b c e) less))
    by Greater e = absurd (not (cells_total.trans c b d (cells_total.antisymm c b ∙ ap ordering_reverse e) less))

-- cells of a list, of some kind
abbrev pub Among : List CellKey → (CellKey → Type 0) → CellKey → Type 0
Among cells P c = IsIn c cells × P c

was_in : (cells : List CellKey) (P : CellKey → Type 0) (c q : CellKey) → Among cells P q → Among (cells ++ c ∷ []) P q
was_in cells P c q h = (in_left (λ z. 0) q cells (c ∷ []) h.0, h.1)

module _ (next : CellKey → Option State) where
  -- of a kind of which there is no cell none fails
  pub none_fails : (P : CellKey → Type 0) → ((c : CellKey) → P c → ⊥) → FailsAmong P next None
  none_fails P none = λ c p. absurd (none c p)

  -- cells that have new values may join the kind
  pub served_join : (P Q : CellKey → Type 0) (o : Option CellKey) → ((c : CellKey) → P c → Q c) → ((c : CellKey) → Q c → (next c ≡ None) → ¬ ¬ P c) → FailsAmong P next o → FailsAmong Q next o
  served_join P Q None in_q in_p h = λ c q. some_unless (next c) (λ none. in_p c q none (λ p. not_both (next c) none (h c p)))
  served_join P Q (Some d) in_q in_p h = record {
    kind = in_q d h.kind;
    failed = h.failed;
    least = λ b q less. some_unless (next b) (λ none. in_p b q none (λ p. not_both (next b) none (h.least b p less)));
  }

  -- of two kinds together the least is the lesser of both
  pub either_fails : (P Q : CellKey → Type 0) (o : Option CellKey) (c : CellKey) → FailsAmong P next o → FailsAmong Q next (Some c) → FailsAmong (λ q. P q ⊎ Q q) next (Some (least_of o c))
  either_fails P Q None c g h = record {
    kind = inr h.kind;
    failed = h.failed;
    least = λ b kind less. ⊎_elim (λ p. g b p) (λ q. h.least b q less) kind;
  }
  either_fails P Q (Some d) c g h = by (is_lt (key_cmp c d)) refl
    where
      by : (b : Bool) → is_lt (key_cmp c d) ≡ b → IsLeastOf (λ q. P q ⊎ Q q) next (if b then c else d)
      by true e = record {
        kind = inr h.kind;
        failed = h.failed;
        least = λ b kind less. ⊎_elim (λ p. g.least b p (cells_total.trans b c d less (less_is (key_cmp c d) e))) (λ q. h.least b q less) kind;
      }
      by false e = record {
        kind = inl g.kind;
        failed = g.failed;
        least = λ b kind less. ⊎_elim (λ p. g.least b p less) (λ q. h.least b q (below_both b c d less (λ low. false≢true (sym e ∙ ap is_lt low)))) kind;
      }

  -- one cell more that is of another kind
  pub other_more : (cells : List CellKey) (P : CellKey → Type 0) (c : CellKey) (o : Option CellKey) → (P c → ⊥) → FailsAmong (Among cells P) next o → FailsAmong (Among (cells ++ c ∷ []) P) next o
  other_more cells P c o other h = served_join (Among cells P) (Among (cells ++ c ∷ []) P) o (was_in cells P c)
      (λ q in_more fails no. ⊎_elim (λ old. no (old, in_more.1)) (λ last. ⊎_elim (λ e. other (subst P e in_more.1)) (λ n. absurd n) last) (in_either q cells (c ∷ []) in_more.0)) h

  -- and one that is of the kind
  pub leaf_more : (cells : List CellKey) (P : CellKey → Type 0) (c : CellKey) (o : Option CellKey) → P c → FailsAmong (Among cells P) next o → FailsAmong (Among (cells ++ c ∷ []) P) next (failing_with o c (next c))
  leaf_more cells P c o kind h = by (next c) refl
    where
      by : (n : Option State) → next c ≡ n → FailsAmong (Among (cells ++ c ∷ []) P) next (failing_with o c n)
      by (Some s) e = served_join (Among cells P) (Among (cells ++ c ∷ []) P) o (was_in cells P c)
          (λ q in_more fails no. ⊎_elim (λ old. no (old, in_more.1)) (λ last. ⊎_elim (λ is. there (sym e ∙ (sym (ap next is) ∙ fails))) (λ n. absurd n) last) (in_either q cells (c ∷ []) in_more.0)) h
        where
          there : ◌≡◌ {A = Option State} (Some s) None → ⊥
          there e = cc
      by None e =
          let own : IsLeastOf (λ q. q ≡ c) next c = record { kind = refl; failed = none_is (next c) e; least = λ b is less. absurd (never_less c (subst (λ (q : CellKey). key_cmp q c ≡ Less) is less)) } in
          served_join (λ q. Among cells P q ⊎ (q ≡ c)) (Among (cells ++ c ∷ []) P) (Some (least_of o c))
          (λ q either. ⊎_elim (was_in cells P c q) (λ is. (in_right (λ z. 0) q cells (c ∷ []) (inl is), subst P (sym is) kind)) either)
          (λ q in_more fails no. ⊎_elim (λ old. no (inl (old, in_more.1))) (λ last. ⊎_elim (λ is. no (inr is)) (λ n. absurd n) last) (in_either q cells (c ∷ []) in_more.0))
          (either_fails (Among cells P) (λ q. q ≡ c) o c h own)
