-- What is told of the children of a cell.
use Rattle.std.proofs.Common.{◌≡◌, ◌⊎◌, Bool, true, false, Option, length, refl, sym, subst, inl, inr}
use Rattle.std.specs.Prelude.{not}
use Rattle.peano_keys.specs.declared.dim.Dim.{Dim}
use Rattle.peano_records.specs.declared.view.CellView.{CellView}
use Rattle.handed_down.specs.declared.stored.ChildVertices.{ChildVertices}
use Rattle.handed_down.specs.Stored.{told_of}
use Rattle.vertex_stacks.specs.declared.kind.Kind.{Kind}
use Rattle.tree_automaton.specs.declared.kinds.Serves.{Serves}
use Rattle.tree_automaton.specs.declared.kinds.Serves.TheVariants.{Raising, Adapting, Plain}
use Rattle.tree_automaton.specs.declared.decide.Course.{Course}
use Rattle.tree_automaton.specs.TreeLists.{TreeLists}
use Rattle.tree_automaton.specs.Sweep.{served_by, tells_new}
use Rattle.tree_automaton.specs.Handed.{asks_for, Tells, IsTold, IsToldAbove}

-- the old grid is asked but in raising sweeps
pub asks_old : (s : Serves) → (s ≡ Adapting) ⊎ (s ≡ Plain) → asks_for s false ≡ true
asks_old s (inl e) = subst (λ x. asks_for x false ≡ true) (sym e) refl
asks_old s (inr e) = subst (λ x. asks_for x false ≡ true) (sym e) refl

-- what tells of the new grid is asked
pub asks_new : (s : Serves) (after : Bool) → after ≡ tells_new s → asks_for s after ≡ true
asks_new Raising after e = e
asks_new Adapting after e = refl
asks_new Plain after e = subst (λ x. not x ≡ true) (sym e) refl

-- from what is told of each grid
pub is_told : (dim : Dim) (serves : Serves) (v : CellView) (told : ChildVertices) → length told.old_grid ≡ 64 → length told.new_grid ≡ 64 → (asks_for serves false ≡ true → Tells dim false v told) → (asks_for serves true ≡ true → Tells dim true v told) → IsTold dim serves v told
is_told dim serves v told old_shape new_shape old new = record { shape = shape_of; each = each_of }
  where
    shape_of : (after : Bool) → length (told_of told after) ≡ 64
    shape_of true = new_shape
    shape_of false = old_shape

    each_of : (after : Bool) → asks_for serves after ≡ true → Tells dim after v told
    each_of true = new
    each_of false = old

-- it is right in the course of a store
pub told_in : (s : TreeLists) (kind : Kind) (course : Course) (parent : Option CellView) (told : Option ChildVertices) → course ≡ record { dim = s.lanes.dim; depth = s.depth; range = s.range; dir = s.dir; serves = served_by kind } → IsToldAbove s.lanes.dim (served_by kind) parent told → IsToldAbove course.dim course.serves parent told
told_in s kind course parent told is h = subst (λ x. IsToldAbove x.dim x.serves parent told) (sym is) h
