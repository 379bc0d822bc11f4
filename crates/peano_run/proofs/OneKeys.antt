-- The first keys of a grid are one.
use Rattle.std.proofs.Common.{◌≡◌, ℕ, ◌<◌, true, List, [], ◌∷◌, refl, ap, ap₂, sym, subst, ◌∙◌, ⊎_elim, arith, inl, inr}
use Rattle.std.specs.Prelude.{slice_index, Contains}
use Rattle.std.proofs.lemmas.Bool.{cases_eq}
use Rattle.std.proofs.lemmas.Grind.{same_number_lists}
use Rattle.std.proofs.lemmas.List.Elements.{All-contains}
use Rattle.stack_law.specs.Once.{IsIn}
use Rattle.peano_keys.specs.declared.dim.Dim.{Dim}
use Rattle.peano_keys.specs.declared.cell.CellKey.{CellKey}
use Rattle.peano_keys.specs.Cell.{IsCell}
use Rattle.peano_keys.specs.Grid.{Spacetree, is_leaf}
use Rattle.peano_curve.specs.Order.{interval_start}
use Rattle.curve_cuts.specs.Keys.{CutPoints, first_leaf}
use Rattle.curve_cuts.specs.Leaves.{AreLeaves}
use Rattle.step_driver.specs.Starts.{AreEqualKeys}
use Rattle.step_driver.proofs.Places.{in_place, place_in}
use Rattle.step_driver.proofs.Rising.{Rises, rises}

-- such lists of the same items are one
rise_same : (f : CellKey → ℕ) (xs ys : List CellKey) → Rises f xs → Rises f ys → ((c : CellKey) → IsIn c xs → IsIn c ys) → ((c : CellKey) → IsIn c ys → IsIn c xs) → xs ≡ ys
rise_same f [] [] a b to fro = refl
rise_same f [] (y ∷ ys) a b to fro = absurd (fro y (inl refl))
rise_same f (x ∷ xs) [] a b to fro = absurd (to x (inl refl))
rise_same f (x ∷ xs) (y ∷ ys) a b to fro =
    let same : x ≡ y = ⊎_elim (λ e. e) (λ later. ⊎_elim (λ e. sym e) (λ back. absurd (let up = b.0 x later in let down = a.0 y back in omega (arith, up, down))) (fro y (inl refl))) (to x (inl refl)) in
    ap₂ (λ z zs. z ∷ zs) same (rise_same f xs ys a.1 b.1
    (λ c h. ⊎_elim (λ e. absurd (let up = a.0 c h in let at : f c ≡ f x = ap f (e ∙ sym same) in omega (arith, up, at))) (λ k. k) (to c (inr h)))
    (λ c h. ⊎_elim (λ e. absurd (let up = b.0 c h in let at : f c ≡ f y = ap f (e ∙ same) in omega (arith, up, at))) (λ k. k) (fro c (inr h))))

contains_in : (c : CellKey) (xs : List CellKey) → Contains xs c → IsIn c xs
contains_in c xs h = subst (λ z. IsIn z xs) h.2 (place_in c xs h.0 h.1)

-- the leaves of a grid along the curve are one list
one_list : (dim : Dim) (depth : ℕ) (g : Spacetree) (xs ys : List CellKey) → AreLeaves dim depth g xs → AreLeaves dim depth g ys → xs ≡ ys
one_list dim depth g xs ys a b = rise_same (λ c. interval_start dim c depth) xs ys (rises dim depth xs a.order) (rises dim depth ys b.order)
    (λ c h. let leaf = All-contains (λ (q : CellKey). IsCell dim q × (is_leaf g q ≡ true)) xs c a.only (in_place c c xs h) in contains_in c ys (b.all c leaf.0 leaf.1))
    (λ c h. let leaf = All-contains (λ (q : CellKey). IsCell dim q × (is_leaf g q ≡ true)) ys c b.only (in_place c c ys h) in contains_in c xs (a.all c leaf.0 leaf.1))

pub one_keys : (depth : ℕ) (g : Spacetree) (trees : ℕ) (p q : CutPoints) → AreEqualKeys depth g trees p → AreEqualKeys depth g trees q → p ≡ q
one_keys depth g trees p q a b =
    let leaves = one_list g.dim depth g a.0 b.0 a.1 b.1 in
    let starts : p.starts ≡ q.starts = same_number_lists p.starts q.starts (a.2.trees ∙ sym b.2.trees) (λ t below. ⊎_elim
    (λ e. ap (slice_index p.starts) e ∙ a.2.end ∙ sym b.2.end ∙ ap (slice_index q.starts) (sym e))
    (λ apart.
    let count = a.2.trees in
    let low : t < trees = omega (arith, below, count, apart) in
    a.2.start t low ∙ ap (λ ls. interval_start g.dim (first_leaf ls trees t) depth) leaves ∙ sym (b.2.start t low))
    (cases_eq t trees)) in
    let dims = a.2.dim ∙ sym b.2.dim in
    let depths = a.2.depth ∙ sym b.2.depth in
    λ i. record { dim = dims i; depth = depths i; starts = starts i }
