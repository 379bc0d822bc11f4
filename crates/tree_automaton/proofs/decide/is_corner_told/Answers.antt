use Rattle.std.proofs.Common.{◌≡◌, ℕ, sym, subst, true}
use Rattle.std.specs.Prelude.{Option, Some, ◌↔◌}
use Rattle.std.specs.Option.{option_map}
use Rattle.peano_keys.specs.declared.vertex.VertexKey.{VertexKey}
use Rattle.peano_keys.specs.Grid.{Spacetree}
use Rattle.hanging_nodes.specs.Views.{AreGrids, Shows, IsStoredIn}
use Rattle.handed_down.specs.Stored.{TellsAll}
use Rattle.tree_automaton.specs.Handed.{IsToldAbove}
use Rattle.tree_automaton.proofs.decide.is_corner_told.Goals as goal

pub is_corner_stored-requires-clause-shape : goal.is_corner_stored-requires-clause-shape
is_corner_stored-requires-clause-shape c = (subst (λ o. IsToldAbove c.args.course.now.dim c.args.course.now.serves (Some c.args.parent.now) (option_map (λ t. t.now) o)) c.in-Some.is c.requires.told).shape c.args.after

pub returns-in-Some : goal.returns-in-Some
returns-in-Some c = λ depth old new grids shows.
    let told = subst (λ o. IsToldAbove c.args.course.now.dim c.args.course.now.serves (Some c.args.parent.now) (option_map (λ t. t.now) o)) c.in-Some.is c.requires.told in
    c.is_corner_stored.ensures old new (subst (λ k. TellsAll c.args.course.now.dim c.args.after old new k c.in-Some.told.now) (sym c.requires.child) (told.each c.args.after c.requires.grid depth old new grids shows))

pub returns-in-None : goal.returns-in-None
returns-in-None c = subst (λ (w : VertexKey). (depth : ℕ) (old : Option Spacetree) (new : Spacetree) → AreGrids depth c.args.course.now.dim old new c.args.after → Shows c.args.course.now.dim old new c.args.after c.args.parent.now → (c.stored_here.result ≡ true) ↔ IsStoredIn c.args.after old new w) c.corner.ensures.value c.stored_here.ensures
