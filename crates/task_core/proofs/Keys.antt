-- A map of leaves after one more entry.
use Rattle.std.proofs.Common.{◌≡◌, Bool, true, false, cond, refl, ap, ◌∙◌, Option, Some}
use Rattle.std.specs.FinMap as fin
use Rattle.std.specs.Ordering.{is_eq, eq_by_cmp}
use Rattle.std.specs.declared.cmp.Ordering.{Ordering}
use Rattle.std.specs.declared.cmp.Ordering.TheVariants.{Less, Equal, Greater}
use Rattle.std.proofs.lemmas.Bool.{false≢true}
use Rattle.peano_keys.specs.declared.cell.CellKey.{CellKey}
use Rattle.peano_keys.specs.declared.state.State.{State}
use Rattle.peano_keys.specs.Cell.{key_cmp}
use Rattle.spacetree.proofs.CellMaps.{cells_total, exact_cells}
use Rattle.spacetree.proofs.CellSets.{itself}
use Rattle.task_core.specs.Core.{Answers}

equal_from : (o : Ordering) → is_eq o ≡ true → o ≡ Equal
equal_from Less e = absurd (false≢true e)
equal_from Equal e = refl
equal_from Greater e = absurd (false≢true e)

by_test : {P : Type 0} (b : Bool) → (b ≡ true → P) → (b ≡ false → P) → P
by_test true here other = here refl
by_test false here other = other refl

module _ {P : Type 0} (a : Answers) (key : CellKey) (v : Option State) (q : CellKey) where
  -- the entry is that of the new key, or an old one
  pub by_key : (q ≡ key → fin.get (fin.insert a key v) q ≡ Some v → P) → (fin.get (fin.insert a key v) q ≡ fin.get a q → P) → P
  by_key here other = by_test (eq_by_cmp key_cmp q key)
      (λ e. here (exact_cells q key (equal_from (key_cmp q key) e)) (fin.get-insert cells_total a key v q ∙ ap (λ b. cond b (Some v) (fin.get a q)) e))
      (λ e. other (fin.get-insert cells_total a key v q ∙ ap (λ b. cond b (Some v) (fin.get a q)) e))

-- the new key has the new entry
pub get_new : (a : Answers) (key : CellKey) (v : Option State) → fin.get (fin.insert a key v) key ≡ Some v
get_new a key v = fin.get-insert cells_total a key v key ∙ ap (λ b. cond b (Some v) (fin.get a key)) (itself key)
