-- The least leaf of those that trees found, tree after tree.
use Rattle.std.proofs.Common.{◌≡◌, ◌≢◌, ℕ, ◌+◌, Bool, true, false, if◌then◌else◌, refl, ap, sym, subst, ◌∙◌, ⊎_elim, arith}
use Rattle.std.specs.Prelude.{Option, Some, None, unwrap_or, is_some, ◌==◌}
use Rattle.std.specs.declared.cmp.Ordering.{Ordering}
use Rattle.std.specs.declared.cmp.Ordering.TheVariants.{Less, Equal, Greater}
use Rattle.std.specs.Ordering.{is_lt, is_eq}
use Rattle.std.specs.Cmp.{eq_by_cmp_equiv}
use Rattle.std.proofs.lemmas.Bool.{cases_eq, eq-eqb, ne_eqb, false≢true}
use Rattle.peano_keys.specs.declared.cell.CellKey.{CellKey}
use Rattle.peano_keys.specs.Cell.{key_cmp}
use Rattle.spacetree.proofs.CellMaps.{cells_total}
use Rattle.step_world.specs.Failing.{IsLeastFound}
use Rattle.step_driver.specs.Computing.{least_with}

-- what one tree more found
abbrev pub found_with : ℕ → Option CellKey → (ℕ → Option CellKey) → ℕ → Option CellKey
found_with m b found t = if t == m then b else found t

pub here : (m : ℕ) (b : Option CellKey) (found : ℕ → Option CellKey) → found_with m b found m ≡ b
here m b found = ap (λ (q : Bool). if q then b else found m) (eq-eqb m m refl)

pub there : (m : ℕ) (b : Option CellKey) (found : ℕ → Option CellKey) (t : ℕ) → t ≢ m → found_with m b found t ≡ found t
there m b found t apart = ap (λ (q : Bool). if q then b else found t) (ne_eqb t m apart)

is_less : (r : Ordering) → is_lt r ≡ true → r ≡ Less
is_less Less e = refl
is_less Equal e = absurd (false≢true e)
is_less Greater e = absurd (false≢true e)

not_less : (c : CellKey) → ¬ (key_cmp c c ≡ Less)
not_less c e = false≢true (sym (ap is_eq e) ∙ (eq_by_cmp_equiv cells_total).refl c)

not_some : (c : CellKey) → ¬ (None ≡ Some c)
not_some c e = false≢true (ap is_some e)

same_some : (b c : CellKey) → Some b ≡ Some c → b ≡ c
same_some b c e = ap (λ (o : Option CellKey). unwrap_or o b) e

pub least_more : (m : ℕ) (found : ℕ → Option CellKey) (a b : Option CellKey) → IsLeastFound m found a → IsLeastFound (m + 1) (found_with m b found) (least_with a b)
least_more m found None None h = λ s below. ⊎_elim
    (λ e. ap (found_with m None found) e ∙ here m None found)
    (λ apart. there m None found s apart ∙ h s (omega (arith, below, apart)))
    (cases_eq s m)
least_more m found None (Some b) h = (
  (m, omega arith, here m (Some b) found),
  λ s c below e less. ⊎_elim
      (λ is. not_less b (subst (λ (x : CellKey). key_cmp x b ≡ Less) (sym (same_some b c (sym (ap (found_with m (Some b) found) is ∙ here m (Some b) found) ∙ e))) less))
      (λ apart. not_some c (sym (h s (omega (arith, below, apart))) ∙ (sym (there m (Some b) found s apart) ∙ e)))
      (cases_eq s m),
)
least_more m found (Some a) None h = (
  (h.0.0, omega (arith, h.0.1), there m None found h.0.0 (λ e. omega (arith, h.0.1, e)) ∙ h.0.2),
  λ s c below e less. ⊎_elim
      (λ is. not_some c (sym (ap (found_with m None found) is ∙ here m None found) ∙ e))
      (λ apart. h.1 s c (omega (arith, below, apart)) (sym (there m None found s apart) ∙ e) less)
      (cases_eq s m),
)
least_more m found (Some a) (Some b) h = by (is_lt (key_cmp b a)) refl
  where
    at_new : (c : CellKey) (s : ℕ) → s ≡ m → found_with m (Some b) found s ≡ Some c → b ≡ c
    at_new c s is e = same_some b c (sym (ap (found_with m (Some b) found) is ∙ here m (Some b) found) ∙ e)

    at_old : (c : CellKey) (s : ℕ) → s ≢ m → found_with m (Some b) found s ≡ Some c → found s ≡ Some c
    at_old c s apart e = sym (there m (Some b) found s apart) ∙ e

    by : (q : Bool) → is_lt (key_cmp b a) ≡ q → IsLeastFound (m + 1) (found_with m (Some b) found) (Some (if q then b else a))
    by true lower = (
      (m, omega arith, here m (Some b) found),
      λ s c below e less. ⊎_elim
          (λ is. not_less b (subst (λ (x : CellKey). key_cmp x b ≡ Less) (sym (at_new c s is e)) less))
          (λ apart. h.1 s c (omega (arith, below, apart)) (at_old c s apart e) (cells_total.trans c b a less (is_less (key_cmp b a) lower)))
          (cases_eq s m),
    )
    by false lower = (
      (h.0.0, omega (arith, h.0.1), there m (Some b) found h.0.0 (λ e. omega (arith, h.0.1, e)) ∙ h.0.2),
      λ s c below e less. ⊎_elim
          (λ is. false≢true (sym lower ∙ ap is_lt (subst (λ (x : CellKey). key_cmp x a ≡ Less) (sym (at_new c s is e)) less)))
          (λ apart. h.1 s c (omega (arith, below, apart)) (at_old c s apart e) less)
          (cases_eq s m),
    )
