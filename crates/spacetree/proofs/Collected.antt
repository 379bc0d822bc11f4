-- The cells of a list of which something is true, as a set and as a map, and the least of them.
use Rattle.std.proofs.Common.{◌≡◌, ◌↔◌, ◌⊎◌, inl, inr, ⊎_elim, Bool, true, false, cond, refl, sym, ap, subst, ◌∙◌, List, [], ◌∷◌, Option, Some, None}
use Rattle.std.specs.FinMap as map
use Rattle.std.specs.FinSet as set
use Rattle.std.specs.Ordering.{eq_by_cmp}
use Rattle.std.specs.Cmp.{tied_itself}
use Rattle.std.specs.declared.cmp.Ordering.{Ordering}
use Rattle.std.specs.declared.cmp.Ordering.TheVariants.{Less, Equal, Greater}
use Rattle.std.proofs.lemmas.Bool.{false≢true, or_left, or_right, or_cases}
use Rattle.peano_keys.specs.declared.cell.CellKey.{CellKey}
use Rattle.peano_keys.specs.declared.state.State.{State}
use Rattle.peano_keys.specs.Cell.{key_cmp}
use Rattle.peano_keys.specs.Grid.{Cells}
use Rattle.peano_keys.specs.Field.{States}
use Rattle.spacetree.specs.Leaves.{is_among}
use Rattle.spacetree.proofs.CellMaps.{cells_total}
use Rattle.spacetree.proofs.CellSets.{same_key}
use Rattle.spacetree.proofs.Told.{Told}

-- the set of those cells of a list of which something is true
abbrev pub Collects : (CellKey → Type 0) → List CellKey → Cells → Type 0
Collects P ks s = (c : CellKey) → (set.contains s c ≡ true) ↔ ((is_among ks c ≡ true) × P c)

pub collect : (P : CellKey → Type 0) → ((c : CellKey) → Told (P c)) → (ks : List CellKey) → (s : Cells) × Collects P ks s
collect P told [] = (set.empty, λ c. ((λ h. absurd (false≢true (sym (set.contains-empty key_cmp c) ∙ h))), (λ h. absurd (false≢true h.0))))
collect P told (k ∷ ks) =
    let rest = collect P told ks in
    elim (told k) [
      | inl here ↦ (
        set.insert rest.0 k,
        λ c. (
          (λ h. ⊎_elim
              (λ e. (or_left (eq_by_cmp key_cmp c k) (is_among ks c) e, subst P (sym (same_key c k e)) here))
              (λ e. let r = (rest.1 c).0 e in (or_right (eq_by_cmp key_cmp c k) (is_among ks c) r.0, r.1))
              (or_cases (eq_by_cmp key_cmp c k) (set.contains rest.0 c) (sym (set.contains-insert cells_total rest.0 k c) ∙ h))),
          (λ h. set.contains-insert cells_total rest.0 k c ∙ ⊎_elim
              (λ e. or_left (eq_by_cmp key_cmp c k) (set.contains rest.0 c) e)
              (λ e. or_right (eq_by_cmp key_cmp c k) (set.contains rest.0 c) ((rest.1 c).1 (e, h.1)))
              (or_cases (eq_by_cmp key_cmp c k) (is_among ks c) h.0)),
        ),
      )
      | inr apart ↦ (
        rest.0,
        λ c. (
          (λ h. let r = (rest.1 c).0 h in (or_right (eq_by_cmp key_cmp c k) (is_among ks c) r.0, r.1)),
          (λ h. ⊎_elim
              (λ e. absurd (apart (subst P (same_key c k e) h.1)))
              (λ e. (rest.1 c).1 (e, h.1))
              (or_cases (eq_by_cmp key_cmp c k) (is_among ks c) h.0)),
        ),
      )
    ]

-- and the map from them to values
pub record Maps (P : CellKey → Type 0) (v : CellKey → State) (ks : List CellKey) (m : States) : Type 0 where
  pub has : (c : CellKey) → is_among ks c ≡ true → P c → map.get m c ≡ Some (v c)
  pub none : (c : CellKey) → ¬ P c → map.get m c ≡ None

chosen : (b : Bool) (x y z : Option State) → (b ≡ true → x ≡ z) → (b ≡ false → y ≡ z) → cond b x y ≡ z
chosen true x y z f g = f refl
chosen false x y z f g = g refl

pub tabulate : (P : CellKey → Type 0) → ((c : CellKey) → Told (P c)) → (v : CellKey → State) (ks : List CellKey) → (m : States) × Maps P v ks m
tabulate P told v [] = (map.empty, record { has = λ c h p. absurd (false≢true h); none = λ c p. map.get-empty {X = State} key_cmp c })
tabulate P told v (k ∷ ks) =
    let rest = tabulate P told v ks in
    elim (told k) [
      | inl here ↦ (
        map.insert rest.0 k (v k),
        record {
          has = λ c h p. map.get-insert cells_total rest.0 k (v k) c ∙ chosen (eq_by_cmp key_cmp c k) (Some (v k)) (map.get rest.0 c) (Some (v c)) (λ e. ap (λ q. Some (v q)) (sym (same_key c k e))) (λ e. rest.1.has c (⊎_elim (λ a. absurd (false≢true (sym e ∙ a))) (λ b. b) (or_cases (eq_by_cmp key_cmp c k) (is_among ks c) h)) p);
          none = λ c p. map.get-insert cells_total rest.0 k (v k) c ∙ chosen (eq_by_cmp key_cmp c k) (Some (v k)) (map.get rest.0 c) None (λ e. absurd (p (subst P (sym (same_key c k e)) here))) (λ e. rest.1.none c p);
        },
      )
      | inr apart ↦ (
        rest.0,
        record {
          has = λ c h p. ⊎_elim (λ a. absurd (apart (subst P (same_key c k a) p))) (λ b. rest.1.has c b p) (or_cases (eq_by_cmp key_cmp c k) (is_among ks c) h);
          none = rest.1.none;
        },
      )
    ]

-- of a list a cell of which something is true, and of none before it in key order
pub record IsLeastOf (P : CellKey → Type 0) (ks : List CellKey) (c : CellKey) : Type 0 where
  pub holds : P c
  pub least : (b : CellKey) → is_among ks b ≡ true → P b → ¬ (key_cmp b c ≡ Less)

less_equal : (o : Ordering) → o ≡ Less → o ≡ Equal → ⊥
less_equal o h g = cc

less_greater : (o : Ordering) → o ≡ Less → o ≡ Greater → ⊥
less_greater o h g = cc

not_before : (c : CellKey) → ¬ (key_cmp c c ≡ Less)
not_before c h = less_equal (key_cmp c c) h (tied_itself cells_total c)

less_told : (o : Ordering) → Told (o ≡ Less)
less_told Less = inl refl
less_told Equal = inr (λ e. less_equal Equal e refl)
less_told Greater = inr (λ e. less_greater Greater e refl)

-- there is one, or it is true of no cell of the list
pub least_of : (P : CellKey → Type 0) → ((c : CellKey) → Told (P c)) → (ks : List CellKey) → ((c : CellKey) × IsLeastOf P ks c) ⊎ ((c : CellKey) → is_among ks c ≡ true → ¬ P c)
least_of P told [] = inr (λ c h. absurd (false≢true h))
least_of P told (k ∷ ks) = elim (least_of P told ks) [
  | inr none ↦ elim (told k) [
    | inl here ↦ inl (k, record { holds = here; least = λ b h p. ⊎_elim (λ e. subst (λ (q : CellKey). ¬ (key_cmp q k ≡ Less)) (sym (same_key b k e)) (not_before k)) (λ r. absurd (none b r p)) (or_cases (eq_by_cmp key_cmp b k) (is_among ks b) h) })
    | inr apart ↦ inr (λ c h p. ⊎_elim (λ e. apart (subst P (same_key c k e) p)) (λ r. none c r p) (or_cases (eq_by_cmp key_cmp c k) (is_among ks c) h))
  ]
  | inl rest ↦ elim (told k) [
    | inr apart ↦ inl (rest.0, record { holds = rest.1.holds; least = λ b h p. ⊎_elim (λ e. absurd (apart (subst P (same_key b k e) p))) (λ r. rest.1.least b r p) (or_cases (eq_by_cmp key_cmp b k) (is_among ks b) h) })
    | inl here ↦ elim (less_told (key_cmp k rest.0)) [
      | inr later ↦ inl (rest.0, record { holds = rest.1.holds; least = λ b h p. ⊎_elim (λ e. subst (λ (q : CellKey). ¬ (key_cmp q rest.0 ≡ Less)) (sym (same_key b k e)) later) (λ r. rest.1.least b r p) (or_cases (eq_by_cmp key_cmp b k) (is_among ks b) h) })
      | inl first ↦ inl (k, record { holds = here; least = λ b h p less. ⊎_elim (λ e. not_before k (subst (λ (q : CellKey). key_cmp q k ≡ Less) (same_key b k e) less)) (λ r. rest.1.least b r p (cells_total.trans b k rest.0 less first)) (or_cases (eq_by_cmp key_cmp b k) (is_among ks b) h) })
    ]
  ]
]
