use Rattle.std.proofs.Common.{◌≡◌, ◌∙◌, [], get_or, arith, ap, sym}
use Rattle.peano_records.specs.declared.columns.More.{More}
use Rattle.peano_records.specs.declared.columns.Near.{Near}
use Rattle.peano_records.specs.declared.stored.Stored.{Stored}
use Rattle.peano_records.specs.Columns.{no_slots}
use Rattle.vertex_stacks.proofs.Flat.{get_or-records_of}
use Rattle.vertex_stacks.proofs.page.Page.key.Goals as goal

abbrev no_more : More
no_more = record { near = []; far = [] }

pub returns : goal.returns
returns c = λ d.
    let i = c.self.inside in
    let near : Near = c.index.result.now in
    let at = get_or-records_of i.near.items i.far.items i.more.items c.args.place near no_slots no_more d (omega (arith, c.self.invariant.0, c.requires)) (omega (arith, c.self.invariant.1, c.requires)) (omega (arith, c.self.invariant.2, c.requires)) in
    rw (← c.self.view_is) (ap (λ (n : Near). n.key) c.index.ensures ∙ ap (λ (s : Stored). s.key) (sym at))
