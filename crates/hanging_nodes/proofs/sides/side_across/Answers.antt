use Rattle.std.proofs.Common.{◌∙◌, sym, ap}
use Rattle.std.specs.Prelude.{slice_index_or}
use Rattle.peano_keys.specs.Vertex.{anchor_of, slot_from}
use Rattle.peano_keys.specs.declared.side.Side.TheVariants.{Same}
use Rattle.peano_records.specs.Slots.{slot_at}
use Rattle.peano_records.specs.declared.view.Corner.TheVariants.{Beyond}
use Rattle.hanging_nodes.specs.Sides.{coarsened}
use Rattle.hanging_nodes.proofs.Across.{across_vertex, across_other}
use Rattle.hanging_nodes.proofs.sides.side_across.Goals as goal

pub returns-in-Vertex : goal.returns-in-Vertex
returns-in-Vertex c = λ t f dim refined corners_are above.
    let found = sym c.neighbour.ensures.value ∙ c.in-Some.is in
    let number = c.anchor_corner-2.ensures.value in
    let is = sym (ap (λ n. slice_index_or c.args.corners.now n Beyond) number) ∙ sym c.corner_in.ensures ∙ c.in-Vertex.is in
    let place = c.slot_of-slot.ensures.value ∙ ap (slot_from c.args.dim) (c.anchor_corner.ensures.value ∙ ap (anchor_of c.args.dim c.in-Some.other) c.turned_round.ensures) in
    ap Same (c.value.ensures ∙ ap (λ k. (slot_at c.in-Vertex.stored k).value) place)
    ∙ across_vertex t f c.args.child c.in-Some.other c.args.face c.args.corners.now c.requires.below found corners_are c.args.dim dim c.in-Vertex.stored c.requires.cell c.requires.axis is

pub returns-in_default-corner_in : goal.returns-in_default-corner_in
returns-in_default-corner_in c = λ t f dim refined corners_are above.
    let found = sym c.neighbour.ensures.value ∙ c.in-Some.is in
    let there = ap (λ n. slice_index_or c.args.corners.now n Beyond) c.anchor_corner-2.ensures.value in
    c.coarse.ensures ∙ ap coarsened above
    ∙ across_other t f c.args.child c.in-Some.other c.args.face c.args.corners.now c.requires.below found corners_are refined c.args.dim dim c.requires.cell c.requires.axis (λ s is. c.in_default-corner_in.not-Vertex s (c.corner_in.ensures ∙ there ∙ is))
