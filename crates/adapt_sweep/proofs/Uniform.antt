-- Fields from which each cell of a grid has a value.
use Rattle.std.proofs.Common.{◌≡◌, ℕ, zero, suc, ◌+◌, Bool, true, false, pos, refl, sym, ap, subst, ◌∙◌, arith, Option, Some, None, unwrap_or, IsSome, IfSome, SomeIff}
use Rattle.std.proofs.lemmas.Bool.{false≢true}
use Rattle.std.specs.FinMap as map
use Rattle.peano_keys.specs.declared.dim.Dim.{Dim}
use Rattle.peano_keys.specs.declared.dim.Dim.TheVariants.{Two, Three}
use Rattle.peano_keys.specs.declared.cell.CellKey.{CellKey}
use Rattle.peano_keys.specs.declared.state.State.{State}
use Rattle.peano_keys.specs.declared.state.State.TheVariants.{Single}
use Rattle.peano_keys.specs.Cell.{IsCell, centre_child, centre_digits, root}
use Rattle.peano_keys.specs.State.{count_of}
use Rattle.peano_keys.specs.Grid.{Spacetree, IsGrid, is_refined, has_cell}
use Rattle.peano_keys.specs.Field.{States, state_at, value_of}
use Rattle.cell_sums.proofs.Means.{value_plain}
use Rattle.solver_api.specs.Step.{IsLeafOf}
use Rattle.spacetree.specs.Fields.{IsFieldOn}
use Rattle.spacetree.specs.Leaves.{IsCellOf}
use Rattle.spacetree.proofs.Children.{child_cell, third_digit}
use Rattle.spacetree.proofs.Leaves.{leaf_from, leaf_there, child_there}
use Rattle.spacetree.proofs.Values.{centre_is_digits, away_unrefined}
use Rattle.adapt_sweep.specs.Uniform.{IsUniformField}

if_known : (o : Option State) (s : State) (P : State → Type 0) → o ≡ Some s → IfSome o P → P s
if_known o s P e h = subst (λ p. IfSome p P) e h

-- a field whose states have so many values is such a field
pub uniform_by : (parts : ℕ) (t : Spacetree) (f : States) → IsGrid 12 t → IsFieldOn parts t f → IsUniformField t f
uniform_by parts t f grid field = record {
  grid = grid;
  leaves = field.leaves;
  counts = λ c d s r at there. if_known (map.get f c) s (λ q. count_of q ≡ parts) at (field.counts c) ∙ sym (if_known (map.get f d) r (λ q. count_of q ≡ parts) there (field.counts d));
}

end_plain : (t : Spacetree) (c : CellKey) → IsGrid 12 t → c.level + 0 ≡ 12 → (b : Bool) → is_refined t c ≡ b → is_refined t c ≡ false
end_plain t c grid e true h = absurd (omega (arith, grid.levels c h, e))
end_plain t c grid e false h = h

-- below each cell of a grid there is a leaf
leaf_below : (levels : ℕ) (t : Spacetree) (c : CellKey) → IsGrid 12 t → IsCell t.dim c → has_cell t c ≡ true → c.level + levels ≡ 12 → (d : CellKey) × IsLeafOf t d
leaf_below zero t c grid cell there e = (c, leaf_from t c cell there (end_plain t c grid e (is_refined t c) refl))
leaf_below (suc levels) t c grid cell there e = elim (is_refined t c) as (λ b. is_refined t c ≡ b → (d : CellKey) × IsLeafOf t d) [
  | true ↦ λ refined.
      let digits = centre_is_digits t.dim in
      leaf_below levels t (centre_child t.dim c) grid
      (child_cell t.dim c (centre_digits t.dim) cell (grid.levels c refined) digits)
      (child_there t c (centre_digits t.dim) cell.shape digits.first digits.second (third_digit t.dim (centre_digits t.dim) digits) refined)
      (omega (arith, e))
  | false ↦ λ plain. (c, leaf_from t c cell there plain)
] refl

root_cell : (dim : Dim) → IsCell dim root
root_cell Two = record { shape = refl; level = omega arith; first = omega arith; second = omega arith; third = omega arith }
root_cell Three = record { shape = refl; level = omega arith; first = omega arith; second = omega arith; third = omega arith }

is_known : (o : Option State) (d : State) → IsSome o → o ≡ Some (unwrap_or o d)
is_known None d h = absurd (false≢true h)
is_known (Some s) d h = refl

if_each : (o : Option State) (P : State → Type 0) → ((s : State) → o ≡ Some s → P s) → IfSome o P
if_each None P f = tt
if_each (Some s) P f = f s refl

-- and the other way round: as many values as some leaf has
pub on_field : (t : Spacetree) (f : States) → IsUniformField t f → (parts : ℕ) × IsFieldOn parts t f
on_field t f u =
    let leaf = leaf_below 12 t root u.grid (root_cell t.dim) refl refl in
    let d : CellKey = leaf.0 in (
      count_of (state_at f d),
      record {
        leaves = u.leaves;
        counts = λ c. if_each (map.get f c) (λ s. count_of s ≡ count_of (state_at f d)) (λ s at. u.counts c d s (state_at f d) at (is_known (map.get f d) (Single (pos 0)) ((u.leaves d).1 leaf.1)));
      },
    )

not_there : (b : Bool) → (b ≡ true → ⊥) → b ≡ false
not_there true h = absurd (h refl)
not_there false h = refl

none_if : (o : Option State) → (IsSome o → ⊥) → o ≡ None
none_if None h = refl
none_if (Some s) h = absurd (h refl)

-- a cell of the domain that the grid does not have is given one zero
value_away : (t : Spacetree) (f : States) (c : CellKey) → IsUniformField t f → IsCell t.dim c → ¬ IsCellOf t c → value_of t f c ≡ Single (pos 0)
value_away t f c u cell apart =
    let away : has_cell t c ≡ false = not_there (has_cell t c) (λ there. apart (record { cell = cell; there = there })) in
    value_plain 12 t f c (away_unrefined t c u.grid away)
    ∙ ap (λ (o : Option State). unwrap_or o (Single (pos 0))) (none_if (map.get f c) (λ some. false≢true (sym away ∙ leaf_there t c ((u.leaves c).0 some))))

-- so what is told of a cell of the domain, or one zero, is its value
pub value_told : (t : Spacetree) (f : States) (c : CellKey) (o : Option State) → IsUniformField t f → IsCell t.dim c → SomeIff o (IsCellOf t c) (value_of t f c) → unwrap_or o (Single (pos 0)) ≡ value_of t f c
value_told t f c None u cell told = sym (value_away t f c u cell told)
value_told t f c (Some s) u cell told = told.1
