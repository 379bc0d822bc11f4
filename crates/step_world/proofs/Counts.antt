-- Counts of cells.
use Rattle.std.proofs.Common.{◌≡◌, ◌⊎◌, inl, inr, ⊎_elim, ℕ, zero, suc, ◌+◌, ◌*◌, ◌^◌, ◌<◌, ◌≤◌, ◌||◌, true, refl, sym, ap, subst, ◌∙◌, arith, List, [], ◌∷◌, ◌++◌, length-append}
use Rattle.std.specs.FinSet as set
use Rattle.std.specs.Cmp.{both_ways}
use Rattle.std.specs.Ordering.{eq_by_cmp}
use Rattle.std.proofs.lemmas.Bool.{false≢true, cases_eq, or_left, or_right, or_cases}
use Rattle.peano_keys.specs.declared.cell.CellKey.{CellKey}
use Rattle.peano_keys.specs.Dim.{axes}
use Rattle.peano_keys.specs.Cell.{IsCell, key_cmp}
use Rattle.peano_keys.specs.Grid.{Spacetree, is_refined, has_cell}
use Rattle.peano_keys.specs.Next.{Splits, Merges}
use Rattle.hanging_nodes.proofs.TwoGrids.{leaf_not, refined_there}
use Rattle.solver_api.specs.Step.{IsLeafOf, marks_of}
use Rattle.spacetree.specs.Leaves.{is_among}
use Rattle.spacetree.proofs.CellMaps.{cells_total, exact_cells}
use Rattle.spacetree.proofs.Leaves.{leaf_there}
use Rattle.curve_cuts.specs.Cuts.{Cuts, Owns, IsCutGrid}
use Rattle.step_world.specs.Counts.{total, LeavesAddUp, SplitsAddUp, MergesAddUp, NextSize, SizeDecides}
use Rattle.curve_cuts.proofs.Cuts.{owner_exists, owner_is_one}
use Rattle.step_phases.proofs.Grids.{level_in}
use Rattle.spacetree.specs.Counts.{CountsCells, EachOnce}
use Rattle.spacetree.proofs.AllCells.{among_first, among_second}
use Rattle.spacetree.proofs.CountedSets.{false_by, has_all, itself_first, many, with_all}
use Rattle.spacetree.proofs.Exists.{merges_told, next_grid_exists}

pub next_size : NextSize
next_size g new marks splits merges grid next s m =
    let left = many new.refined m.cells m.once (λ c h i. let gone = (m.members c).0 h in ⊎_elim (λ split. false≢true (sym (leaf_not g c split.leaf) ∙ gone.refined)) (λ kept. kept.1 gone) ((next.refined c).0 i)) in
    let right = many g.refined s.cells s.once (λ c h i. let split = (s.members c).0 h in false≢true (sym (leaf_not g c split.leaf) ∙ i)) in
    let same : with_all new.refined m.cells ≡ with_all g.refined s.cells = set.same_set cells_total exact_cells _ _ (λ c. has_all new.refined m.cells c ∙ both_ways (is_refined new c || is_among m.cells c) (is_refined g c || is_among s.cells c)
    (λ h. ⊎_elim
    (λ a. ⊎_elim (λ split. or_right (is_refined g c) (is_among s.cells c) ((s.members c).1 split)) (λ kept. or_left (is_refined g c) (is_among s.cells c) kept.0) ((next.refined c).0 a))
    (λ b. or_left (is_refined g c) (is_among s.cells c) ((m.members c).0 b).refined)
    (or_cases (is_refined new c) (is_among m.cells c) h))
    (λ h. ⊎_elim
    (λ a. ⊎_elim (λ gone. or_right (is_refined new c) (is_among m.cells c) ((m.members c).1 gone)) (λ stays. or_left (is_refined new c) (is_among m.cells c) ((next.refined c).1 (inr (a, stays)))) (merges_told g marks grid c))
    (λ b. or_left (is_refined new c) (is_among m.cells c) ((next.refined c).1 (inl ((s.members c).0 b))))
    (or_cases (is_refined g c) (is_among s.cells c) h))
    ∙ sym (has_all g.refined s.cells c)) in
    let sizes : set.len new.refined + merges ≡ set.len g.refined + splits = omega (arith, left, right, ap set.len same, m.count, s.count) in
    let fan : ℕ = 3 ^ axes g.dim in
    let dims : 3 ^ axes new.dim ≡ fan = ap (λ d. 3 ^ axes d) next.dim in
    let row : fan * (set.len new.refined + merges) ≡ fan * (set.len g.refined + splits) = ap (λ n. fan * n) sizes in
    let a : fan * (set.len new.refined + merges) ≡ fan * set.len new.refined + fan * merges = grind arith in
    let b : fan * (set.len g.refined + splits) ≡ fan * set.len g.refined + fan * splits = grind arith in
    let c : 3 ^ axes new.dim * set.len new.refined ≡ fan * set.len new.refined = ap (λ n. n * set.len new.refined) dims in
    omega (arith, row, a, b, c)

-- lists one after another
among_either : (xs ys : List CellKey) (q : CellKey) → is_among (xs ++ ys) q ≡ true → (is_among xs q ≡ true) ⊎ (is_among ys q ≡ true)
among_either [] ys q h = inr h
among_either (x ∷ xs) ys q h = ⊎_elim (λ a. inl (or_left (eq_by_cmp key_cmp q x) (is_among xs q) a)) (λ b. ⊎_elim (λ c. inl (or_right (eq_by_cmp key_cmp q x) (is_among xs q) c)) (λ d. inr d) (among_either xs ys q b)) (or_cases (eq_by_cmp key_cmp q x) (is_among (xs ++ ys) q) h)

joined : (xs ys : List CellKey) → EachOnce xs → EachOnce ys → ((c : CellKey) → is_among xs c ≡ true → is_among ys c ≡ true → ⊥) → EachOnce (xs ++ ys)
joined [] ys a b apart = b
joined (x ∷ xs) ys a b apart = (
  false_by (is_among (xs ++ ys) x) (λ h. ⊎_elim (λ i. false≢true (sym a.0 ∙ i)) (λ j. apart x (itself_first x xs) j) (among_either xs ys x h)),
  joined xs ys a.1 b (λ c h i. apart c (or_right (eq_by_cmp key_cmp c x) (is_among xs c) h) i),
)

-- counts of trees, one after another
module _ (k : Cuts) (g : Spacetree) (P : CellKey → Type 0) (n : ℕ → ℕ) (fits : IsCutGrid k g) (each : (t : ℕ) → t < k.trees → CountsCells (λ c. Owns k t c × P c) (n t)) where
  abbrev OwnedBelow : ℕ → CellKey → Type 0
  OwnedBelow t c = (s : ℕ) × (s < t) × Owns k s c × P c

  below_trees : (t : ℕ) → t ≤ k.trees → CountsCells (OwnedBelow t) (total t n)
  below_trees zero h = record { cells = []; members = λ c. ((λ e. absurd (false≢true e)), (λ o. absurd (omega (arith, o.1)))); once = tt; count = refl }
  below_trees (suc t) h =
      let mine = each t (omega (arith, h)) in
      let rest = below_trees t (omega (arith, h)) in
      record {
        cells = mine.cells ++ rest.cells;
        members = λ c. (
          (λ e. ⊎_elim
              (λ a. let o = (mine.members c).0 a in (t, omega arith, o.0, o.1))
              (λ b. let o = (rest.members c).0 b in (o.0, omega (arith, o.1), o.2, o.3))
              (among_either mine.cells rest.cells c e)),
          (λ o. ⊎_elim
              (λ e. among_first mine.cells rest.cells c ((mine.members c).1 (subst (λ i. Owns k i c) e o.2, o.3)))
              (λ other. among_second mine.cells rest.cells c ((rest.members c).1 (o.0, omega (arith, o.1, other), o.2, o.3)))
              (cases_eq o.0 t)),
        );
        once = joined mine.cells rest.cells mine.once rest.once (λ c a b. let x = (mine.members c).0 a in let y = (rest.members c).0 b in absurd (omega (arith, owner_is_one k t y.0 c fits.cuts x.0 y.2, y.1)));
        count = length-append mine.cells rest.cells ∙ (λ i. mine.count i + rest.count i);
      }

  pub add_up : ((c : CellKey) → P c → IsCell k.dim c × (has_cell g c ≡ true)) → CountsCells P (total k.trees n)
  add_up there =
      let all = below_trees k.trees (omega arith) in
      record {
        cells = all.cells;
        members = λ c. (
          (λ e. ((all.members c).0 e).3),
          (λ p. let h = there c p in let owner = owner_exists k c fits.cuts h.0 (level_in k g c fits h.1) in (all.members c).1 (owner.0, owner.1.tree, owner.1, p)),
        );
        once = all.once;
        count = all.count;
      }

pub splits_add_up : SplitsAddUp
splits_add_up k g marks n fits each = add_up k g (Splits g marks) n fits each (λ c s. (subst (λ d. IsCell d c) fits.dim s.cell, leaf_there g c (record { cell = s.cell; leaf = s.leaf })))

pub merges_add_up : MergesAddUp
merges_add_up k g marks n fits each = add_up k g (Merges g marks) n fits each (λ c m. (subst (λ d. IsCell d c) fits.dim (fits.grid.cells c m.refined), refined_there k.depth g c fits.grid m.refined))

pub leaves_add_up : LeavesAddUp
leaves_add_up k g n fits each = add_up k g (IsLeafOf g) n fits each (λ c leaf. (subst (λ d. IsCell d c) fits.dim leaf.cell, leaf_there g c leaf))

pub size_decides : SizeDecides
size_decides updated marked g f splits merges cells grid updates s m size over =
    let next = next_grid_exists g (marks_of marked g f) grid in
    let whole = next_size g next.0 (marks_of marked g f) splits merges grid next.1 s m in
    record { updates = updates; grid = record { next = (next.0, next.1, omega (arith, whole, size)); crowded = over } }
