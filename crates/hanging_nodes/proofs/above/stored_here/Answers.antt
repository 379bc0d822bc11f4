use Rattle.std.proofs.Common.{◌∙◌, sym}
use Rattle.std.proofs.lemmas.Bool.{false≢true}
use Rattle.hanging_nodes.proofs.TwoGrids.{shown_vertex, shown_other, vertex_law, hanging_law}
use Rattle.hanging_nodes.proofs.above.stored_here.Goals as goal

pub returns-in-Vertex : goal.returns-in-Vertex
returns-in-Vertex c = λ depth old new grids shows.
    let has = shown_vertex c.args.dim old new c.args.after c.args.parent.now c.args.fine.now c.number_above-n.result c.in-Vertex.stored c.number_above-n.ensures.number c.number_above-n.ensures.corner (sym c.corner_in.ensures ∙ c.in-Vertex.is) shows in
    let law = vertex_law depth c.args.dim old new c.args.after c.args.parent.now.key c.args.fine.now c.in-Vertex.stored c.requires.cell c.requires.vertex c.requires.inside grids has.0 has.1 in
    (λ told. law.0 (c.all_allow.ensures.0 told), λ stored. c.all_allow.ensures.1 (law.1 stored))

pub returns-in_default : goal.returns-in_default
returns-in_default c = λ depth old new grids shows.
    let none = shown_other c.args.dim old new c.args.after c.args.parent.now c.args.fine.now c.number_above-n.result c.number_above-n.ensures.number c.number_above-n.ensures.corner (λ s is. c.in_default.not-Vertex s (c.corner_in.ensures ∙ is)) shows in
    let law = hanging_law depth c.args.dim old new c.args.after c.args.parent.now.key c.args.fine.now c.requires.cell c.requires.vertex c.requires.inside grids none.0 none.1 in
    (λ told. absurd (false≢true told), λ stored. absurd (law stored))
