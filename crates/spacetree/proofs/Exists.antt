-- Next grids and next fields exist: made cell by cell from the list of the cells of a grid.
use Rattle.std.proofs.Common.{◌≡◌, ◌⊎◌, inl, inr, ⊎_elim, ℕ, pos, ◌^◌, ◌<◌, true, refl, sym, subst, ◌∙◌, arith, List, Option, Some, None, IsSome, unwrap_or}
use Rattle.std.proofs.lemmas.Bool.{false≢true}
use Rattle.peano_keys.specs.declared.dim.Dim.{Dim}
use Rattle.peano_keys.specs.declared.dim.Dim.TheVariants.{Two, Three}
use Rattle.peano_keys.specs.declared.cell.CellKey.{CellKey}
use Rattle.peano_keys.specs.declared.state.State.{State}
use Rattle.peano_keys.specs.declared.state.State.TheVariants.{Single}
use Rattle.peano_keys.specs.declared.side.Mark.{Mark}
use Rattle.peano_keys.specs.declared.side.Mark.TheVariants.{Coarsen}
use Rattle.peano_keys.specs.Dim.{axes}
use Rattle.peano_keys.specs.Cell.{IsCell, IsDigits, child_of}
use Rattle.peano_keys.specs.Grid.{Spacetree, IsGrid, is_refined, is_leaf}
use Rattle.peano_keys.specs.Field.{value_of}
use Rattle.peano_keys.specs.Next.{Splits, Merges}
use Rattle.solver_api.specs.Step.{IsLeafOf, new_state, marks_of, source_of}
use Rattle.spacetree.specs.Digits.{digits_at, number_in}
use Rattle.spacetree.specs.Laws.{NextGridExists, StepExists}
use Rattle.spacetree.proofs.Children.{child_cell, child_by_number, number_bound, parent_of_child, third_digit}
use Rattle.spacetree.proofs.Collected.{collect, tabulate}
use Rattle.spacetree.proofs.Leaves.{leaf_there, refined_there}
use Rattle.spacetree.proofs.AllCells.{all_cells, listed}
use Rattle.spacetree.proofs.Told.{Told, true_told, refine_told, coarsen_told, leaf_told, both_told, each_told}

digits_at_are : (dim : Dim) (n : ℕ) → n < 3 ^ axes dim → IsDigits dim (digits_at dim n)
digits_at_are Two n h = record { shape = refl; first = omega (arith, h); second = omega arith; third = omega arith }
digits_at_are Three n h = record { shape = refl; first = omega (arith, h); second = omega arith; third = omega arith }

-- a child is the one at its number
by_number : (dim : Dim) (c : CellKey) (k : List ℕ) → IsCell dim c → c.level < 12 → IsDigits dim k → child_of c k ≡ child_of c (digits_at dim (number_in dim (child_of c k)))
by_number dim c k cell room d = child_by_number dim (child_of c k) c (number_in dim (child_of c k)) (child_cell dim c k cell room d) (omega arith) (parent_of_child c k cell.shape d.first d.second (third_digit dim k d)) refl

module _ (g : Spacetree) (marks : CellKey → Mark) (grid : IsGrid 12 g) where
  abbrev Lets : CellKey → CellKey → Type 0
  Lets c q = (is_leaf g q ≡ true) × (marks q ≡ Coarsen)

  lets_told : (c q : CellKey) → Told (Lets c q)
  lets_told c q = both_told (is_leaf g q ≡ true) (marks q ≡ Coarsen) (true_told (is_leaf g q)) (coarsen_told (marks q))

  pub merges_told : (c : CellKey) → Told (Merges g marks c)
  merges_told c = elim (true_told (is_refined g c)) [
    | inr apart ↦ inr (λ m. apart m.refined)
    | inl refined ↦ elim (each_told (3 ^ axes g.dim) (λ i. Lets c (child_of c (digits_at g.dim i))) (λ i. lets_told c (child_of c (digits_at g.dim i)))) [
      | inr apart ↦ inr (λ m. apart (λ i h. let d = digits_at_are g.dim i h in (m.leaves (digits_at g.dim i) d, m.marked (digits_at g.dim i) d)))
      | inl all ↦ inl (
          let lets : (k : List ℕ) → IsDigits g.dim k → Lets c (child_of c k) = λ k d. subst (Lets c) (sym (by_number g.dim c k (grid.cells c refined) (grid.levels c refined) d)) (all (number_in g.dim (child_of c k)) (number_bound g.dim (child_of c k))) in
          record { refined = refined; leaves = λ k d. (lets k d).0; marked = λ k d. (lets k d).1 })
    ]
  ]

  splits_told : (c : CellKey) → Told (Splits g marks c)
  splits_told c = elim (leaf_told g c) [
    | inr apart ↦ inr (λ s. apart (record { cell = s.cell; leaf = s.leaf }))
    | inl leaf ↦ elim (refine_told (marks c)) [
      | inr apart ↦ inr (λ s. apart s.marked)
      | inl marked ↦ inl record { cell = leaf.cell; leaf = leaf.leaf; marked = marked }
    ]
  ]

  -- what a cell that is refined in the next grid is
  abbrev Becomes : CellKey → Type 0
  Becomes c = Splits g marks c ⊎ ((is_refined g c ≡ true) × ¬ Merges g marks c)

  becomes_told : (c : CellKey) → Told (Becomes c)
  becomes_told c = elim (splits_told c) [
    | inl s ↦ inl (inl s)
    | inr none ↦ elim (true_told (is_refined g c)) [
      | inr apart ↦ inr (λ b. ⊎_elim none (λ r. apart r.0) b)
      | inl refined ↦ elim (merges_told c) [
        | inl m ↦ inr (λ b. ⊎_elim none (λ r. r.1 m) b)
        | inr stays ↦ inl (inr (refined, stays))
      ]
    ]
  ]

pub next_grid_exists : NextGridExists
next_grid_exists g marks grid =
    let s = collect (Becomes g marks grid) (becomes_told g marks grid) (all_cells g) in (
      record { dim = g.dim; refined = s.0 },
      record {
        dim = refl;
        refined = λ c. (
          (λ h. ((s.1 c).0 h).1),
          (λ b. (s.1 c).1 (⊎_elim (λ split. listed g c split.cell (leaf_there g c (record { cell = split.cell; leaf = split.leaf }))) (λ r. listed g c (grid.cells c r.0) (refined_there 12 g c grid r.0)) b, b)),
        );
      },
    )

some_of : (o : Option State) (d : State) → IsSome o → Some (unwrap_or o d) ≡ o
some_of None d h = absurd (false≢true h)
some_of (Some s) d h = refl

pub step_exists : StepExists
step_exists updated marked g f grid updates =
    let next = next_grid_exists g (marks_of marked g f) grid in
    let v : CellKey → State = λ c. unwrap_or (new_state updated g f c) (Single (pos 0)) in
    let s = tabulate (IsLeafOf g) (leaf_told g) v (all_cells g) in
    let w : CellKey → State = λ c. value_of g s.0 (source_of g c) in
    let m = tabulate (IsLeafOf next.0) (leaf_told next.0) w (all_cells next.0) in (
      next.0,
      m.0,
      record {
        states = s.0;
        made = record {
          updates = updates;
          leaves = λ c leaf. s.1.has c (listed g c leaf.cell (leaf_there g c leaf)) leaf ∙ some_of (new_state updated g f c) (Single (pos 0)) (updates c leaf);
          others = λ c apart. s.1.none c apart;
        };
        grid = next.1;
        leaves = λ c leaf. m.1.has c (listed next.0 c leaf.cell (leaf_there next.0 c leaf)) leaf;
        others = λ c apart. m.1.none c apart;
      },
    )
