-- Tests of storedness, from what a program tells.
use Rattle.std.proofs.Common.{◌≡◌, ◌↔◌, Bool, true, false, Option, Some, None, refl, sym, ◌∙◌}
use Rattle.std.specs.Prelude.{◌&&◌, ◌||◌}
use Rattle.std.proofs.lemmas.Bool.{false≢true}
use Rattle.peano_keys.specs.declared.vertex.VertexKey.{VertexKey}
use Rattle.peano_keys.specs.Vertex.{IsVertex}
use Rattle.peano_keys.specs.Grid.{Spacetree, IsStored}
use Rattle.hanging_nodes.specs.Views.{IsStoredBefore}
use Rattle.sweep_visits.specs.Plan.{SweepPlan, dim_of, is_kept, is_stored, is_stored_in}
use Rattle.sweep_visits.proofs.Tests.{stored_tells, stored_told}

pub and_first : (a b : Bool) → (a && b) ≡ true → a ≡ true
and_first true b e = refl
and_first false b e = absurd (false≢true e)

pub and_second : (a b : Bool) → (a && b) ≡ true → b ≡ true
and_second true b e = e
and_second false b e = absurd (false≢true e)

pub and_both : (a b : Bool) → a ≡ true → b ≡ true → (a && b) ≡ true
and_both true b x y = y
and_both false b x y = absurd (false≢true x)

-- a test that tells whether something is, by its answer
pub told_as : (b c : Bool) (P : Type 0) → (b ≡ true) ↔ P → (c ≡ true → P) → (P → c ≡ true) → b ≡ c
told_as true c P told to from = sym (from (told.0 refl))
told_as false true P told to from = absurd (false≢true (told.1 (to refl)))
told_as false false P told to from = refl

pub stored_as : (t : Spacetree) (v : VertexKey) (b : Bool) → IsVertex t.dim v → (b ≡ true) ↔ IsStored t v → b ≡ is_stored t v
stored_as t v b vertex told = told_as b (is_stored t v) (IsStored t v) told (stored_tells t v) (stored_told t v vertex)

-- a vertex that is not kept is stored in neither grid
pub not_kept : (p : SweepPlan) (v : VertexKey) → IsVertex (dim_of p) v → is_kept p v ≡ false → ¬ IsStored p.new v
not_kept p v vertex e stored = or_second (is_stored_in p.old v) (is_stored p.new v) e (stored_told p.new v vertex stored)
  where
    or_second : (a b : Bool) → (a || b) ≡ false → b ≡ true → ⊥
    or_second true b x y = false≢true (sym x)
    or_second false b x y = false≢true (sym x ∙ y)

stored_before_from : (o : Option Spacetree) (v : VertexKey) → ((t : Spacetree) → o ≡ Some t → IsVertex t.dim v) → IsStoredBefore o v → is_stored_in o v ≡ true
stored_before_from None v vertex stored = absurd stored
stored_before_from (Some t) v vertex stored = stored_told t v (vertex t refl) stored

pub not_kept_before : (p : SweepPlan) (v : VertexKey) → ((t : Spacetree) → p.old ≡ Some t → IsVertex t.dim v) → is_kept p v ≡ false → ¬ IsStoredBefore p.old v
not_kept_before p v vertex e stored = or_first (is_stored_in p.old v) (is_stored p.new v) e (stored_before_from p.old v vertex stored)
  where
    or_first : (a b : Bool) → (a || b) ≡ false → a ≡ true → ⊥
    or_first true b x y = false≢true (sym x)
    or_first false b x y = false≢true y
