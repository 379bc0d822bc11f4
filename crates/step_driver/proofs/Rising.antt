-- Lists of cells along which a number rises: what they tell of places, and that the cells of a list can be put so.
use Rattle.std.proofs.Common.{◌≡◌, ◌⊎◌, ◌↔◌, inl, inr, ⊎_elim, ℕ, zero, suc, ◌<◌, true, List, [], ◌∷◌, length, get_or, refl, sym, subst, arith}
use Rattle.std.specs.Ordering.{eq_by_cmp}
use Rattle.std.proofs.lemmas.Bool.{cases_lt, cases_eq, false≢true, or_left, or_right, or_cases}
use Rattle.stack_law.specs.Once.{IsIn}
use Rattle.peano_keys.specs.declared.dim.Dim.{Dim}
use Rattle.peano_keys.specs.declared.cell.CellKey.{CellKey}
use Rattle.peano_keys.specs.Cell.{key_cmp}
use Rattle.peano_curve.specs.Order.{interval_start}
use Rattle.curve_cuts.specs.Leaves.{RiseAlong}
use Rattle.spacetree.specs.Leaves.{is_among}
use Rattle.spacetree.proofs.CellSets.{same_key, itself}
use Rattle.spacetree.proofs.Told.{Told}
use Rattle.step_driver.proofs.Places.{in_place, place_in}

-- a number rises from item to item
abbrev pub Rises : (CellKey → ℕ) → List CellKey → Type 0
Rises f [] = Unit {0}
Rises f (x ∷ xs) = ((c : CellKey) → IsIn c xs → f x < f c) × Rises f xs

pub rises : (dim : Dim) (depth : ℕ) (xs : List CellKey) → RiseAlong dim depth xs → Rises (λ c. interval_start dim c depth) xs
rises dim depth [] h = tt
rises dim depth (x ∷ xs) h = (
  λ c there.
      let p = in_place c c xs there in
      let inside = p.1 in
      subst (λ z. interval_start dim x depth < interval_start dim z depth) p.2 (h 0 (suc p.0) c (omega arith) (omega (arith, inside))),
  rises dim depth xs (λ i j d below inside. h (suc i) (suc j) d (omega (arith, below)) (omega (arith, inside))),
)

-- so it does from place to place
pub rises_along : (f : CellKey → ℕ) (xs : List CellKey) → Rises f xs → (i j : ℕ) (d : CellKey) → i < j → j < length xs → f (get_or xs i d) < f (get_or xs j d)
rises_along f [] h i j d less inside = absurd (omega (arith, inside))
rises_along f (x ∷ xs) h i zero d less inside = absurd (omega (arith, less))
rises_along f (x ∷ xs) h zero (suc j) d less inside = h.0 (get_or xs j d) (place_in d xs j (omega (arith, inside)))
rises_along f (x ∷ xs) h (suc i) (suc j) d less inside = rises_along f xs h.1 i j d (omega (arith, less)) (omega (arith, inside))

module _ (f : CellKey → ℕ) (P : CellKey → Type 0) (apart : (a b : CellKey) → P a → P b → f a ≡ f b → a ≡ b) where
  -- a list with one cell more
  pub record HasOneMore (x : CellKey) (xs ys : List CellKey) : Type 0 where
    pub rise : Rises f ys
    pub members : (c : CellKey) → IsIn c ys ↔ ((c ≡ x) ⊎ IsIn c xs)

  placed : (x : CellKey) (xs : List CellKey) → P x → ((c : CellKey) → IsIn c xs → P c) → Rises f xs → (ys : List CellKey) × HasOneMore x xs ys
  placed x [] here all rise = (x ∷ [], record { rise = ((λ c h. absurd h), tt); members = λ c. ((λ h. h), (λ h. h)) })
  placed x (y ∷ xs) here all rise = elim (cases_lt (f x) (f y)) [
    | inl less ↦ (
      x ∷ y ∷ xs,
      record {
        rise = ((λ c h. ⊎_elim (λ e. subst (λ z. f x < f z) (sym e) less) (λ more. let up = rise.0 c more in omega (arith, less, up)) h), rise);
        members = λ c. ((λ h. h), (λ h. h));
      },
    )
    | inr least ↦ elim (cases_eq (f x) (f y)) [
      | inl same ↦
          let one : x ≡ y = apart x y here (all y (inl refl)) same in
          (y ∷ xs, record { rise = rise; members = λ c. ((λ h. inr h), (λ h. ⊎_elim (λ e. inl (subst (λ z. c ≡ z) one e)) (λ old. old) h)) })
      | inr other ↦
          let rest = placed x xs here (λ c h. all c (inr h)) rise.1 in (
            y ∷ rest.0,
            record {
              rise = ((λ c h. ⊎_elim (λ e. subst (λ z. f y < f z) (sym e) (omega (arith, least, other))) (λ old. rise.0 c old) ((rest.1.members c).0 h)), rest.1.rise);
              members = λ c. (
                (λ h. ⊎_elim (λ e. inr (inl e)) (λ more. ⊎_elim (λ e. inl e) (λ old. inr (inr old)) ((rest.1.members c).0 more)) h),
                (λ h. ⊎_elim (λ e. inr ((rest.1.members c).1 (inl e))) (λ old. ⊎_elim (λ e. inl e) (λ more. inr ((rest.1.members c).1 (inr more))) old) h),
              );
            },
          )
    ]
  ]

  -- the cells of a list of which something is true, put so that the number rises
  pub record ArePut (ks xs : List CellKey) : Type 0 where
    pub rise : Rises f xs
    pub members : (c : CellKey) → IsIn c xs ↔ ((is_among ks c ≡ true) × P c)

  pub put_along : ((c : CellKey) → Told (P c)) → (ks : List CellKey) → (xs : List CellKey) × ArePut ks xs
  put_along told [] = ([], record { rise = tt; members = λ c. ((λ h. absurd h), (λ h. absurd (false≢true h.0))) })
  put_along told (k ∷ ks) =
      let rest = put_along told ks in
      elim (told k) [
        | inl here ↦
            let more = placed k rest.0 here (λ c h. ((rest.1.members c).0 h).1) rest.1.rise in (
              more.0,
              record {
                rise = more.1.rise;
                members = λ c. (
                  (λ h. ⊎_elim
                      (λ e. (or_left (eq_by_cmp key_cmp c k) (is_among ks c) (subst (λ z. eq_by_cmp key_cmp z k ≡ true) (sym e) (itself k)), subst P (sym e) here))
                      (λ old. let m = (rest.1.members c).0 old in (or_right (eq_by_cmp key_cmp c k) (is_among ks c) m.0, m.1))
                      ((more.1.members c).0 h)),
                  (λ h. (more.1.members c).1 (⊎_elim (λ e. inl (same_key c k e)) (λ old. inr ((rest.1.members c).1 (old, h.1))) (or_cases (eq_by_cmp key_cmp c k) (is_among ks c) h.0))),
                );
              },
            )
        | inr none ↦ (
          rest.0,
          record {
            rise = rest.1.rise;
            members = λ c. (
              (λ h. let m = (rest.1.members c).0 h in (or_right (eq_by_cmp key_cmp c k) (is_among ks c) m.0, m.1)),
              (λ h. ⊎_elim (λ e. absurd (none (subst P (same_key c k e) h.1))) (λ old. (rest.1.members c).1 (old, h.1)) (or_cases (eq_by_cmp key_cmp c k) (is_among ks c) h.0)),
            );
          },
        )
      ]
