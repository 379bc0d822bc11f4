-- The sums that the secondary visitor keeps by level, visit by visit.
use Rattle.std.proofs.Common.{◌≡◌, ◌≢◌, ℕ, zero, suc, ◌+◌, ◌<◌, ℤ, pos, List, [], ◌∷◌, ◌++◌, length, refl, ap, sym, ◌∙◌, subst, ⊎_elim, arith}
use Rattle.std.specs.Prelude.{◌+ℤ◌, slice_set, slice_index_or, replicate}
use Rattle.std.specs.Int.{w128, int_wrap}
use Rattle.std.proofs.lemmas.Int.{ints, int_wrap_fits, int_wrap-add_left, int_wrap-add_right}
use Rattle.std.proofs.lemmas.Bool.{cases_eq}
use Rattle.std.proofs.lemmas.List.{get_or-set_same, get_or-set_other}
use Rattle.peano_keys.specs.declared.cell.CellKey.{CellKey}
use Rattle.sweep_visits.specs.Visits.{Visit, enter, leave}
use Rattle.step_sweeps.specs.Secondaries.{no_sums, sum_of, four_of, added}
use Rattle.step_sweeps.proofs.VisitSums.{sum_after, sum_append, sum_entered, sum_left, entered_here, entered_there, left_here, left_there}

-- a component of four
pub four_at : (f : ℕ → ℤ) (i : ℕ) → i < 4 → sum_of (four_of f) i ≡ f i
four_at f zero h = refl
four_at f (suc zero) h = refl
four_at f (suc (suc zero)) h = refl
four_at f (suc (suc (suc zero))) h = refl
four_at f (suc (suc (suc (suc i)))) h = absurd (omega (arith, h))

pub none_at : (i : ℕ) → i < 4 → sum_of no_sums i ≡ pos 0
none_at zero h = refl
none_at (suc zero) h = refl
none_at (suc (suc zero)) h = refl
none_at (suc (suc (suc zero))) h = refl
none_at (suc (suc (suc (suc i)))) h = absurd (omega (arith, h))

pub nothing_wraps : int_wrap w128 (pos 0) ≡ pos 0
nothing_wraps = int_wrap_fits w128 (pos 0) (record { sfits = (let h : 0 < 170141183460469231731687303715884105728 = omega arith in h) })

-- so many levels without sums
pub all_none : (n l : ℕ) → slice_index_or (replicate n no_sums) l no_sums ≡ no_sums
all_none zero l = refl
all_none (suc n) zero = refl
all_none (suc n) (suc l) = all_none n l

module _ (tells : ℕ → CellKey → ℤ) where
  -- the sums of all levels are those of the visits so far, as they stand in 128 bits
  abbrev pub HaveSums : List Visit → List (List ℤ) → Type 0
  HaveSums so_far sums = (l i : ℕ) → i < 4 → sum_of (slice_index_or sums l no_sums) i ≡ int_wrap w128 (sum_after (tells i) l (pos 0) so_far)

  -- what a cell adds is what it tells
  abbrev pub AddsTold : CellKey → List ℤ → Type 0
  AddsTold c x = (i : ℕ) → i < 4 → int_wrap w128 (sum_of x i) ≡ int_wrap w128 (tells i c)

  pub sums_begin : (n : ℕ) → HaveSums [] (replicate n no_sums)
  sums_begin n l i h = ap (λ x. sum_of x i) (all_none n l) ∙ (none_at i h ∙ sym nothing_wraps)

  module _ (so_far : List Visit) (sums : List (List ℤ)) (c : CellKey) (have : HaveSums so_far sums) where
    after_enter : (i l : ℕ) → sum_after (tells i) l (pos 0) (so_far ++ enter c ∷ []) ≡ sum_entered (tells i) l c (sum_after (tells i) l (pos 0) so_far)
    after_enter i l = sum_append (tells i) l (pos 0) so_far (enter c ∷ [])

    after_leave : (i l : ℕ) → sum_after (tells i) l (pos 0) (so_far ++ leave c ∷ []) ≡ sum_left (tells i) l c (sum_after (tells i) l (pos 0) so_far)
    after_leave i l = sum_append (tells i) l (pos 0) so_far (leave c ∷ [])

    -- as a cell is entered the level below it is cleared
    pub sums_entered : c.level + 1 < length sums → HaveSums (so_far ++ enter c ∷ []) (slice_set sums (c.level + 1) no_sums)
    sums_entered room l i h = ⊎_elim here there (cases_eq (c.level + 1) l)
      where
        here : c.level + 1 ≡ l → sum_of (slice_index_or (slice_set sums (c.level + 1) no_sums) l no_sums) i ≡ int_wrap w128 (sum_after (tells i) l (pos 0) (so_far ++ enter c ∷ []))
        here e =
            let is : slice_index_or (slice_set sums (c.level + 1) no_sums) l no_sums ≡ no_sums = subst (λ n. slice_index_or (slice_set sums (c.level + 1) no_sums) n no_sums ≡ no_sums) e (get_or-set_same sums (c.level + 1) no_sums no_sums room) in
            ap (λ x. sum_of x i) is ∙ (none_at i h ∙ (sym nothing_wraps ∙ ap (int_wrap w128) (sym (after_enter i l ∙ entered_here (tells i) l c (sum_after (tells i) l (pos 0) so_far) e))))

        there : c.level + 1 ≢ l → sum_of (slice_index_or (slice_set sums (c.level + 1) no_sums) l no_sums) i ≡ int_wrap w128 (sum_after (tells i) l (pos 0) (so_far ++ enter c ∷ []))
        there apart = ap (λ x. sum_of x i) (get_or-set_other sums (c.level + 1) l no_sums no_sums (λ e. apart (sym e))) ∙ (have l i h ∙ ap (int_wrap w128) (sym (after_enter i l ∙ entered_there (tells i) l c (sum_after (tells i) l (pos 0) so_far) apart)))

    -- and as it is left its own level has what it tells besides
    pub sums_left : (x : List ℤ) → c.level < length sums → AddsTold c x → HaveSums (so_far ++ leave c ∷ []) (slice_set sums c.level (added (slice_index_or sums c.level no_sums) x))
    sums_left x room adds l i h = ⊎_elim here there (cases_eq c.level l)
      where
        before : List ℤ
        before = slice_index_or sums c.level no_sums

        total : ℤ
        total = sum_after (tells i) c.level (pos 0) so_far

        more : int_wrap w128 (sum_of before i +ℤ sum_of x i) ≡ int_wrap w128 (total +ℤ tells i c)
        more = ap (λ z. int_wrap w128 (z +ℤ sum_of x i)) (have c.level i h)
            ∙ (int_wrap-add_left w128 total (sum_of x i)
            ∙ (sym (int_wrap-add_right w128 total (sum_of x i))
            ∙ (ap (λ z. int_wrap w128 (total +ℤ z)) (adds i h)
            ∙ int_wrap-add_right w128 total (tells i c))))

        here : c.level ≡ l → sum_of (slice_index_or (slice_set sums c.level (added before x)) l no_sums) i ≡ int_wrap w128 (sum_after (tells i) l (pos 0) (so_far ++ leave c ∷ []))
        here e = subst (λ n. sum_of (slice_index_or (slice_set sums c.level (added before x)) n no_sums) i ≡ int_wrap w128 (sum_after (tells i) n (pos 0) (so_far ++ leave c ∷ []))) e
            (ap (λ y. sum_of y i) (get_or-set_same sums c.level (added before x) no_sums room)
            ∙ (four_at (λ j. int_wrap w128 (sum_of before j +ℤ sum_of x j)) i h
            ∙ (more ∙ ap (int_wrap w128) (sym (after_leave i c.level ∙ left_here (tells i) c.level c total refl)))))

        there : c.level ≢ l → sum_of (slice_index_or (slice_set sums c.level (added before x)) l no_sums) i ≡ int_wrap w128 (sum_after (tells i) l (pos 0) (so_far ++ leave c ∷ []))
        there apart = ap (λ y. sum_of y i) (get_or-set_other sums c.level l (added before x) no_sums (λ e. apart (sym e))) ∙ (have l i h ∙ ap (int_wrap w128) (sym (after_leave i l ∙ left_there (tells i) l c (sum_after (tells i) l (pos 0) so_far) apart)))

    -- a cell that tells nothing changes none
    pub sums_passed : ((i : ℕ) → i < 4 → tells i c ≡ pos 0) → HaveSums (so_far ++ leave c ∷ []) sums
    sums_passed none l i h = have l i h ∙ ap (int_wrap w128) (sym (after_leave i l ∙ ⊎_elim
        (λ e. left_here (tells i) l c (sum_after (tells i) l (pos 0) so_far) e ∙ (ap (λ z. sum_after (tells i) l (pos 0) so_far +ℤ z) (none i h) ∙ no_more (sum_after (tells i) l (pos 0) so_far)))
        (λ apart. left_there (tells i) l c (sum_after (tells i) l (pos 0) so_far) apart)
        (cases_eq c.level l)))
      where
        no_more : (z : ℤ) → z +ℤ pos 0 ≡ z
        no_more z = omega (arith, ints)
