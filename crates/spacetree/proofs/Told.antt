-- What can be told: a fact holds or it does not, found by trying.
use Rattle.std.proofs.Common.{◌≡◌, ◌⊎◌, inl, inr, ⊎_elim, ℕ, zero, suc, ◌^◌, ◌<◌, ◌≤◌, Bool, true, false, sym, ap, subst, refl, arith, List, [], ◌∷◌, length, Any}
use Rattle.std.proofs.lemmas.Bool.{cases_lt, false≢true, cases_eq}
use Rattle.peano_keys.specs.declared.dim.Dim.{Dim}
use Rattle.peano_keys.specs.declared.cell.CellKey.{CellKey}
use Rattle.peano_keys.specs.declared.side.Mark.{Mark}
use Rattle.peano_keys.specs.declared.side.Mark.TheVariants.{Keep, Refine, Coarsen}
use Rattle.peano_keys.specs.Dim.{third_extent}
use Rattle.peano_keys.specs.Cell.{IsCell, at}
use Rattle.peano_keys.specs.Grid.{Spacetree, is_leaf}
use Rattle.solver_api.specs.Step.{IsLeafOf}
use Rattle.spacetree.proofs.Descents.{any_cons, any_cases, none_of_empty}

-- what can be told
abbrev pub Told : Type 0 → Type 0
Told P = P ⊎ ¬ P

pub below : (a b : ℕ) → Told (a < b)
below a b = elim (cases_lt a b) [ inl h ↦ inl h | inr h ↦ inr (λ g. absurd (omega arith)) ]

pub at_most : (a b : ℕ) → Told (a ≤ b)
at_most a b = elim (cases_lt b a) [ inl h ↦ inr (λ g. absurd (omega arith)) | inr h ↦ inl h ]

-- whether a key is a cell of the domain
pub cell_told : (dim : Dim) (c : CellKey) → Told (IsCell dim c)
cell_told dim c =
    elim (cases_eq (length c.x) 3) [
      | inr apart ↦ inr (λ h. absurd (omega (arith, apart, h.shape)))
      | inl shape ↦ elim (at_most c.level 12) [
        | inr apart ↦ inr (λ h. apart h.level)
        | inl level ↦ elim (below (at c 0) (3 ^ c.level)) [
          | inr apart ↦ inr (λ h. apart h.first)
          | inl first ↦ elim (below (at c 1) (3 ^ c.level)) [
            | inr apart ↦ inr (λ h. apart h.second)
            | inl second ↦ elim (below (at c 2) (third_extent dim (3 ^ c.level))) [
              | inr apart ↦ inr (λ h. apart h.third)
              | inl third ↦ inl record { shape = shape; level = level; first = first; second = second; third = third }
            ]
          ]
        ]
      ]
    ]

pub true_told : (b : Bool) → Told (b ≡ true)
true_told true = inl refl
true_told false = inr (λ h. false≢true h)

-- marks as tests
abbrev pub is_refine : Mark → Bool
is_refine Keep = false
is_refine Refine = true
is_refine Coarsen = false

abbrev pub is_coarsen : Mark → Bool
is_coarsen Keep = false
is_coarsen Refine = false
is_coarsen Coarsen = true

pub refine_told : (m : Mark) → Told (m ≡ Refine)
refine_told Keep = inr (λ h. false≢true (ap is_refine h))
refine_told Refine = inl refl
refine_told Coarsen = inr (λ h. false≢true (ap is_refine h))

pub coarsen_told : (m : Mark) → Told (m ≡ Coarsen)
coarsen_told Keep = inr (λ h. false≢true (ap is_coarsen h))
coarsen_told Refine = inr (λ h. false≢true (ap is_coarsen h))
coarsen_told Coarsen = inl refl

pub leaf_told : (g : Spacetree) (c : CellKey) → Told (IsLeafOf g c)
leaf_told g c =
    elim (cell_told g.dim c) [
      | inr apart ↦ inr (λ h. apart h.cell)
      | inl cell ↦ elim (true_told (is_leaf g c)) [ inr apart ↦ inr (λ h. apart h.leaf) | inl leaf ↦ inl record { cell = cell; leaf = leaf } ]
    ]

pub both_told : (P Q : Type 0) → Told P → Told Q → Told (P × Q)
both_told P Q (inl p) (inl q) = inl (p, q)
both_told P Q (inl p) (inr q) = inr (λ h. q h.1)
both_told P Q (inr p) q = inr (λ h. p h.0)

pub either_told : (P Q : Type 0) → Told P → Told Q → Told (P ⊎ Q)
either_told P Q (inl p) q = inl (inl p)
either_told P Q (inr p) (inl q) = inl (inr q)
either_told P Q (inr p) (inr q) = inr (λ h. ⊎_elim p q h)

pub not_told : (P : Type 0) → Told P → Told (¬ P)
not_told P (inl p) = inr (λ h. h p)
not_told P (inr p) = inl p

pub each_told : (n : ℕ) (P : ℕ → Type 0) → ((i : ℕ) → Told (P i)) → Told ((i : ℕ) → i < n → P i)
each_told zero P told = inl (λ i h. absurd (omega (arith, h)))
each_told (suc n) P told = elim (told n) [
  | inr apart ↦ inr (λ all. apart (all n (omega arith)))
  | inl here ↦ elim (each_told n P told) [
    | inr apart ↦ inr (λ all. apart (λ i h. all i (omega (arith, h))))
    | inl all ↦ inl (λ i h. ⊎_elim (λ e. subst P (sym e) here) (λ other. all i (omega (arith, h, other))) (cases_eq i n))
  ]
]

pub some_told : (n : ℕ) (P : ℕ → Type 0) → ((i : ℕ) → i < n → Told (P i)) → Told ((i : ℕ) × (i < n) × P i)
some_told zero P told = inr (λ h. absurd (let below = h.1 in omega arith))
some_told (suc n) P told = elim (told n (omega arith)) [
  | inl here ↦ inl (n, omega arith, here)
  | inr apart ↦ elim (some_told n P (λ i h. told i (omega (arith, h)))) [
    | inl more ↦ inl (more.0, omega (arith, more.1), more.2)
    | inr none ↦ inr (λ h. ⊎_elim (λ e. apart (subst P e h.2)) (λ other. none (h.0, (let below = h.1 in omega (arith, below, other)), h.2)) (cases_eq h.0 n))
  ]
]

-- whether something is true of one of a list
pub any_told : {X : Type 0} (P : X → Type 0) → ((x : X) → Told (P x)) → (xs : List X) → Told (Any P xs)
any_told P told [] = inr (λ h. none_of_empty P h)
any_told P told (x ∷ xs) = elim (told x) [
  | inl here ↦ inl (any_cons P x xs (inl here))
  | inr apart ↦ elim (any_told P told xs) [
    | inl more ↦ inl (any_cons P x xs (inr more))
    | inr none ↦ inr (λ h. ⊎_elim apart none (any_cases P x xs h))
  ]
]
