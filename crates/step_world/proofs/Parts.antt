-- The next field has states with as many values.
use Rattle.std.proofs.Common.{◌≡◌, ⊎_elim, ℕ, zero, suc, ◌<◌, Bool, true, false, if◌then◌else◌, refl, sym, subst, arith, Option, Some, None}
use Rattle.std.specs.Prelude.{IfSome}
use Rattle.std.specs.FinMap as map
use Rattle.peano_keys.specs.declared.dim.Dim.{Dim}
use Rattle.peano_keys.specs.declared.dim.Dim.TheVariants.{Two, Three}
use Rattle.peano_keys.specs.declared.cell.CellKey.{CellKey}
use Rattle.peano_keys.specs.declared.state.State.{State}
use Rattle.peano_keys.specs.declared.side.Side.TheVariants.{Same, Coarse}
use Rattle.peano_keys.specs.Dim.{axes}
use Rattle.peano_keys.specs.Cell.{IsCell, neighbour_of}
use Rattle.peano_keys.specs.State.{count_of}
use Rattle.peano_keys.specs.Grid.{Spacetree, IsGrid, has_cell}
use Rattle.peano_keys.specs.Field.{States, state_at, value_of, covering_state, side_at, side_of, face_on, third_side, sides_on, sides_of}
use Rattle.peano_keys.proofs.Faces.{Next, neighbour_next}
use Rattle.solver_api.specs.Parts.{SideHas, SidesHave, HaveParts}
use Rattle.solver_api.specs.Step.{IsLeafOf, marks_of, new_state, source_of}
use Rattle.spacetree.specs.Fields.{IsFieldOn}
use Rattle.spacetree.proofs.Values.{count_at_leaf, count_of_value, count_at_cover, away_unrefined}
use Rattle.spacetree.proofs.NextGrids.{source_is_cell}
use Rattle.step_world.specs.Steps.{NewStatesAreField, StepKeepsParts}
use Rattle.spacetree.proofs.Told.{leaf_told}
use Rattle.step_world.proofs.Worlds.{field_of_next, is_there, is_not}

next_within : (up : Bool) (e x y : ℕ) → x < e → Next up e x y → y < e
next_within true e x y h next = next.1
next_within false e x y h next = omega (arith, h, next)

-- a neighbour across a face is a cell of the domain
neighbour_cell : (dim : Dim) (c n : CellKey) (i : ℕ) (up : Bool) → IsCell dim c → i < axes dim → neighbour_of c (face_on i up) ≡ Some n → IsCell dim n
neighbour_cell dim c n zero up cell axis h = let next = neighbour_next up 0 c n cell.shape h in subst (IsCell dim) (sym next.2) (record { shape = refl; level = cell.level; first = next_within up _ _ _ cell.first next.1; second = cell.second; third = cell.third })
neighbour_cell dim c n (suc zero) up cell axis h = let next = neighbour_next up 1 c n cell.shape h in subst (IsCell dim) (sym next.2) (record { shape = refl; level = cell.level; first = cell.first; second = next_within up _ _ _ cell.second next.1; third = cell.third })
neighbour_cell Three c n (suc (suc zero)) up cell axis h = let next = neighbour_next up 2 c n cell.shape h in subst (IsCell Three) (sym next.2) (record { shape = refl; level = cell.level; first = cell.first; second = cell.second; third = next_within up _ _ _ cell.third next.1 })
neighbour_cell Two c n (suc (suc zero)) up cell axis h = absurd (omega (arith, axis))
neighbour_cell Two c n (suc (suc (suc i))) up cell axis h = absurd (omega (arith, axis))
neighbour_cell Three c n (suc (suc (suc i))) up cell axis h = absurd (omega (arith, axis))

two_axes : (dim : Dim) → 1 < axes dim
two_axes Two = omega arith
two_axes Three = omega arith

module _ (parts : ℕ) (g : Spacetree) (f : States) (grid : IsGrid 12 g) (field : IsFieldOn parts g f) where
  side_has : (o : Option CellKey) → ((q : CellKey) → o ≡ Some q → IsCell g.dim q) → SideHas parts (side_at g f o)
  side_has None there = tt
  side_has (Some q) there =
      let cell = there q refl in
      elim (has_cell g q) as (λ b. has_cell g q ≡ b → SideHas parts (if b then Same (value_of g f q) else Coarse (covering_state q.level g f q))) [
        | true ↦ λ h. count_of_value 12 parts g f q (omega arith) grid field cell h
        | false ↦ λ h. count_at_cover q.level parts g f q field cell (away_unrefined g q grid h) refl
      ] refl

  module _ (c : CellKey) (cell : IsCell g.dim c) where
    face_has : (i : ℕ) (up : Bool) → i < axes g.dim → SideHas parts (side_of g f c (face_on i up))
    face_has i up axis = side_has (neighbour_of c (face_on i up)) (λ q e. neighbour_cell g.dim c q i up cell axis e)

    third_has : (d : Dim) (up : Bool) → g.dim ≡ d → SideHas parts (third_side d g f c up)
    third_has Two up e = tt
    third_has Three up e = face_has 2 up (subst (λ d. 2 < axes d) (sym e) (omega arith))

    sides_have : (up : Bool) → SidesHave parts (sides_on g f c up)
    sides_have up = record { first = face_has 0 up (omega (arith, two_axes g.dim)); second = face_has 1 up (two_axes g.dim); third = third_has g.dim up refl }

  pub leaf_has : (c : CellKey) → IsLeafOf g c → HaveParts parts (state_at f c) (sides_of g f c)
  leaf_has c leaf = record { itself = count_at_leaf parts g f c field leaf; low = sides_have c leaf.cell false; high = sides_have c leaf.cell true }

if_none : (o : Option State) (P : State → Type 0) → o ≡ None → IfSome o P
if_none o P e = subst (λ p. IfSome p P) (sym e) tt

if_new : (o p : Option State) (P : State → Type 0) → o ≡ p → ((s : State) → p ≡ Some s → P s) → IfSome o P
if_new o None P e each = subst (λ p. IfSome p P) (sym e) tt
if_new o (Some s) P e each = subst (λ p. IfSome p P) (sym e) (each s refl)

pub new_states_are_field : NewStatesAreField
new_states_are_field parts updated g f states grid field keeps made = record {
  leaves = λ c. (
    λ some. ⊎_elim (λ leaf. leaf) (λ apart. absurd (is_not (map.get states c) (made.others c apart) some)) (leaf_told g c),
    λ leaf. is_there (map.get states c) (new_state updated g f c) (made.leaves c leaf) (made.updates c leaf),
  );
  counts = λ c. ⊎_elim
      (λ leaf. if_new (map.get states c) (new_state updated g f c) (λ s. count_of s ≡ parts) (made.leaves c leaf) (λ s e. keeps (state_at f c) (sides_of g f c) c.level s (leaf_has parts g f grid field c leaf) e))
      (λ apart. if_none (map.get states c) (λ s. count_of s ≡ parts) (made.others c apart))
      (leaf_told g c);
}

pub step_keeps_parts : StepKeepsParts
step_keeps_parts parts updated marked g f new after grid field keeps step = record {
  leaves = field_of_next updated marked g f new after grid step;
  counts = λ c. ⊎_elim
      (λ leaf.
      let q : CellKey = source_of g c in
      let from = source_is_cell g new (marks_of marked g f) c step.grid leaf in
      let states = new_states_are_field parts updated g f step.states grid field keeps step.made in
      subst (λ o. IfSome o (λ s. count_of s ≡ parts)) (sym (step.leaves c leaf)) (count_of_value 12 parts g step.states q (omega arith) grid states from.cell from.there))
      (λ apart. if_none (map.get after c) (λ s. count_of s ≡ parts) (step.others c apart))
      (leaf_told new c);
}
