use Rattle.std.proofs.Common.{◌≡◌, if◌then◌else◌, length, ap, sym, ◌∙◌, arith}
use Rattle.spacetree.specs.Fields.{rows_of}
use Rattle.peano_run.specs.Report.{shows_fields}
use Rattle.peano_run.proofs.course.counted.Goals as goal

pub returns-then-leaves-course : goal.returns-then-leaves-course
returns-then-leaves-course c = λ parts n g f at.
    let leaves = c.leaf_count-leaves.ensures.rows parts g f n at in
    let all : (if shows_fields c.args.request.show then length (rows_of f) else 0) ≡ length (rows_of f) = ap (λ b. if b then length (rows_of f) else 0) (sym c.shows_fields.ensures ∙ c.if-not-shows_fields.false) in
    let many = c.if-leaves-course.true in
    omega (arith, leaves, all, many)

pub returns-else-leaves-course : goal.returns-else-leaves-course
returns-else-leaves-course c = λ parts n g f at.
    let leaves = c.leaf_count-leaves.ensures.rows parts g f n at in
    let all : (if shows_fields c.args.request.show then length (rows_of f) else 0) ≡ length (rows_of f) = ap (λ b. if b then length (rows_of f) else 0) (sym c.shows_fields.ensures ∙ c.if-not-shows_fields.false) in
    let few = c.if-leaves-course.false in
    let room = c.requires in
    (omega (arith, leaves, all), omega (arith, few, room))
