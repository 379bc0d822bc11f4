-- The next grid is a grid, and each of its leaves comes from a cell of the old one.
use Rattle.std.proofs.Common.{zero, suc, ◌%◌, ◌<◌, ◌==◌, ◌&&◌, not, length, arith, ◌≡◌, ℕ, List, Bool, true, false, cond, refl, sym, ◌∙◌, subst, inl, inr, Option, Some, IsSome, IfSome, None}
use Rattle.std.specs.FinMap as map
use Rattle.std.proofs.lemmas.Bool.{false≢true, or_parts}
use Rattle.peano_keys.specs.declared.dim.Dim.{Dim}
use Rattle.peano_keys.specs.declared.dim.Dim.TheVariants.{Two, Three}
use Rattle.peano_keys.specs.declared.cell.CellKey.{CellKey}
use Rattle.peano_keys.specs.declared.state.State.{State}
use Rattle.peano_keys.specs.declared.side.Mark.{Mark}
use Rattle.peano_keys.specs.declared.side.Mark.TheVariants.{Refine, Coarsen}
use Rattle.peano_keys.specs.State.{count_of}
use Rattle.peano_keys.specs.Cell.{IsCell, IsDigits, at, triple, parent_of, child_of}
use Rattle.peano_keys.specs.Grid.{Cells, Spacetree, IsGrid, is_refined, has_cell, is_leaf}
use Rattle.peano_keys.specs.Field.{States, value_of}
use Rattle.peano_keys.specs.Next.{Merges, IsNextGrid}
use Rattle.solver_api.specs.Step.{UpdateRule, MarkRule, IsLeafOf, IsStep, marks_of, source_of}
use Rattle.spacetree.specs.Leaves.{IsCellOf, ListsCells}
use Rattle.spacetree.specs.Fields.{IsFieldOn}
use Rattle.spacetree.specs.Marked.{AreMarked, HasChildren, HasNewStates, Inherits}
use Rattle.spacetree.proofs.Children.{child_cell, key_from_parts}
use Rattle.spacetree.proofs.Givens.{away}
use Rattle.spacetree.proofs.Leaves.{leaf_there, parent_refined}
use Rattle.spacetree.proofs.Sifts.{Sifts}
use Rattle.spacetree.proofs.Steps.{new_states}
use Rattle.spacetree.proofs.Values.{count_of_value}

-- the digits of a cell in its parent
abbrev digits_in : CellKey → List ℕ
digits_in c = triple (at c 0 % 3) (at c 1 % 3) (at c 2 % 3)

digits_are : (dim : Dim) (c : CellKey) → IsCell dim c → IsDigits dim (digits_in c)
digits_are Two c h = let third : at c 2 < 1 = h.third in record { shape = refl; first = omega arith; second = omega arith; third = omega arith }
digits_are Three c h = record { shape = refl; first = omega arith; second = omega arith; third = omega arith }

its_own_child : (c : CellKey) → length c.x ≡ 3 → 0 < c.level → child_of (parent_of c) (digits_in c) ≡ c
its_own_child c h pos = sym (key_from_parts c _ _ _ _ h (omega arith) (omega arith) (omega arith) (omega arith))

refine_coarsens : (m : Mark) → m ≡ Refine → m ≡ Coarsen → ⊥
refine_coarsens m h g = cc

stable : (b : Bool) → ((b ≡ true → ⊥) → ⊥) → b ≡ true
stable true h = refl
stable false h = absurd (h (λ e. false≢true e))

-- the cell whose child does not merge with its siblings does not merge
pub stays_if_child : (t : Spacetree) (marks : CellKey → Mark) (c : CellKey) → IsCell t.dim c → 0 < c.level → ((is_leaf t c ≡ true) × (marks c ≡ Coarsen) → ⊥) → Merges t marks (parent_of c) → ⊥
stays_if_child t marks c cell pos apart m =
    let digits = digits_are t.dim c cell in
    let same = its_own_child c cell.shape pos in
    apart (subst (λ (k : CellKey). is_leaf t k ≡ true) same (m.leaves (digits_in c) digits), subst (λ (k : CellKey). marks k ≡ Coarsen) same (m.marked (digits_in c) digits))

pub leaf_refined : (t : Spacetree) (c : CellKey) → is_refined t c ≡ true → is_leaf t c ≡ true → ⊥
leaf_refined t c h = go (has_cell t c) (is_refined t c) h where
  go : (a b : Bool) → b ≡ true → (a && not b) ≡ true → ⊥
  go true true h e = false≢true e
  go false true h e = false≢true e
  go a false h e = false≢true h

-- the next grid is a grid, as deep as the old one or as leaves are refined
pub next_is_grid : (depth : ℕ) (t new : Spacetree) (marks : CellKey → Mark) → IsGrid depth t → IsNextGrid t marks new → ((c : CellKey) → marks c ≡ Refine → c.level < depth) → IsGrid depth new
next_is_grid depth t new marks grid next deep = record {
  cells = λ c e. subst (λ (d : Dim). IsCell d c) (sym next.dim) (elim ((next.refined c).0 e) [ inl split ↦ split.cell | inr old ↦ grid.cells c old.0 ]);
  levels = λ c e. elim ((next.refined c).0 e) [ inl split ↦ deep c split.marked | inr old ↦ grid.levels c old.0 ];
  parents = λ c e pos. elim ((next.refined c).0 e) [
    | inl split ↦
        let leaf : IsLeafOf t c = record { cell = split.cell; leaf = split.leaf } in
        (next.refined (parent_of c)).1 (inr (parent_refined t c pos (leaf_there t c leaf), stays_if_child t marks c split.cell pos (λ both. refine_coarsens (marks c) split.marked both.1)))
    | inr old ↦ (next.refined (parent_of c)).1 (inr (grid.parents c old.0 pos, stays_if_child t marks c (grid.cells c old.0) pos (λ both. leaf_refined t c old.0 both.0)))
  ];
}

-- the refined cells that a grid keeps, and the leaves that split, are those of the next grid
pub next_from_sets : (t : Spacetree) (marks : CellKey → Mark) (refine coarsen s : Cells) (parents : List CellKey) → IsGrid 12 t → ListsCells t.refined parents → AreMarked t marks refine coarsen → Sifts (λ q. HasChildren t.dim coarsen q → ⊥) parents refine s → IsNextGrid t marks (record { dim = t.dim; refined = s })
next_from_sets t marks refine coarsen s parents grid lists marked sifts = record {
  dim = refl;
  refined = λ c. (
    λ e. elim ((sifts c).0 e) [
      | inl r ↦ let m = (marked.refine c).0 r in inl (record { cell = m.0.cell; leaf = m.0.leaf; marked = m.1 })
      | inr a ↦
          let old : is_refined t c ≡ true = sym (lists.members c) ∙ a.0 in
          inr (old, λ (m : Merges t marks c). a.1 (λ k digits. (marked.coarsen (child_of c k)).1 (record { cell = child_cell t.dim c k (grid.cells c old) (grid.levels c old) digits; leaf = m.leaves k digits }, m.marked k digits)))
    ],
    λ e. elim e [
      | inl split ↦ (sifts c).1 (inl ((marked.refine c).1 (record { cell = split.cell; leaf = split.leaf }, split.marked)))
      | inr old ↦ (sifts c).1 (inr (
        lists.members c ∙ old.0,
        λ (has : HasChildren t.dim coarsen c). old.1 (record {
          refined = old.0;
          leaves = λ k digits. ((marked.coarsen (child_of c k)).0 (has k digits)).0.leaf;
          marked = λ k digits. ((marked.coarsen (child_of c k)).0 (has k digits)).1;
        }),
      ))
    ],
  );
}

-- a leaf of the next grid that the old one does not have comes from its parent, a leaf of the old one
pub was_split : (t new : Spacetree) (marks : CellKey → Mark) (c : CellKey) → IsNextGrid t marks new → IsLeafOf new c → has_cell t c ≡ false → IsLeafOf t (parent_of c)
was_split t new marks c next leaf away =
    let parts = or_parts (c.level == 0) (is_refined t (parent_of c)) away in
    elim ((next.refined (parent_of c)).0 (parent_refined new c (pos (c.level) parts.0) (leaf_there new c leaf))) [
      | inl split ↦ record { cell = split.cell; leaf = split.leaf }
      | inr old ↦ absurd (false≢true (sym parts.1 ∙ old.0))
    ] where
      pos : (l : ℕ) → (l == 0) ≡ false → 0 < l
      pos zero h = absurd (false≢true (sym h))
      pos (suc l) h = omega arith

-- so the source of a leaf of the next grid is a cell of the old one
pub source_is_cell : (t new : Spacetree) (marks : CellKey → Mark) (c : CellKey) → IsNextGrid t marks new → IsLeafOf new c → IsCellOf t (source_of t c)
source_is_cell t new marks c next leaf = elim (has_cell t c) as (λ b. has_cell t c ≡ b → IsCellOf t (cond b c (parent_of c))) [
  | true ↦ λ here. record { cell = subst (λ (d : Dim). IsCell d c) next.dim leaf.cell; there = here }
  | false ↦ λ away. let up = was_split t new marks c next leaf away in record { cell = up.cell; there = leaf_there t (parent_of c) up }
] refl

if_some : (o : Option State) (P : State → Type 0) (v : State) → (IsSome o → (o ≡ Some v) × P v) → IfSome o P
if_some None P v f = tt
if_some (Some s) P v f = let known = f refl in subst (λ o. IfSome o P) (sym known.0) known.1

-- the field that takes the new states over is one on the next grid
pub field_on_next : (parts : ℕ) (t new : Spacetree) (marks : CellKey → Mark) (states after : States) → IsGrid 12 t → IsNextGrid t marks new → IsFieldOn parts t states → Inherits t new states after → IsFieldOn parts new after
field_on_next parts t new marks states after grid next field inherits = record {
  leaves = inherits.keys;
  counts = λ c. if_some (map.get after c) (λ s. count_of s ≡ parts) (value_of t states (source_of t c)) (λ some.
      let leaf = (inherits.keys c).0 some in
      let source = source_is_cell t new marks c next leaf in
      (inherits.values c leaf, count_of_value 12 parts t states (source_of t c) (omega arith) grid field source.cell source.there));
}

-- and the next field
pub step_to_next : (updated : UpdateRule) (marked : MarkRule) (parts : ℕ) (t : Spacetree) (f : States) (new : Spacetree) (states after : States) → IsGrid 12 t → IsNextGrid t (marks_of marked t f) new → IsFieldOn parts t states → HasNewStates updated t f states → Inherits t new states after → IsStep updated marked t f new after
step_to_next updated marked parts t f new states after grid next field has inherits = record {
  states = states;
  made = new_states updated parts t f states field has;
  grid = next;
  leaves = inherits.values;
  others = λ c apart. away (map.get after c) (λ e. apart ((inherits.keys c).0 e));
}
