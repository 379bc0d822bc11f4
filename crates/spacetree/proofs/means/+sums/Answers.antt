use Rattle.std.proofs.Common.{◌≡◌, suc, ◌+◌, ◌-◌, ◌*◌, ◌<◌, ◌≤◌, ap, ◌∙◌, sym, subst, true, arith}
use Rattle.std.proofs.lemmas.Bool.Decides.{nat_tests}
use Rattle.peano_keys.specs.declared.dim.Dim.{Dim}
use Rattle.peano_keys.specs.declared.cell.CellKey.{CellKey}
use Rattle.peano_keys.specs.Dim.{children}
use Rattle.peano_keys.specs.Cell.{child_of}
use Rattle.peano_keys.specs.Grid.{is_refined}
use Rattle.peano_keys.specs.Sums.{weight}
use Rattle.cell_sums.specs.Digits.{digits_at}
use Rattle.cell_sums.proofs.Bounds.{weight_most}
use Rattle.spacetree.specs.Means.{AreSums, added, field_sums}
use Rattle.spacetree.proofs.Totals.{all_children, children_most, one_child_more, small_alone, small_sums, sums_added, whole_weight}
use Rattle.spacetree.proofs.means.+sums.Goals as goal

pub with-total-requires-clause-own : goal.with-total-requires-clause-own
with-total-requires-clause-own t c =
    let d = c.args.grid.now.dim in
    small_alone (weight d (12 - c.child.result.level)) c.sums.result (weight_most d (12 - c.child.result.level) (omega arith)) c.sums.ensures.sums

pub with-total-requires-clause-other : goal.with-total-requires-clause-other
with-total-requires-clause-other t c =
    let d = c.args.grid.now.dim in
    let end : c.child_count-n-end.result ≡ children d = c.child_count-n-end.ensures.value ∙ ap children c.dim-dim.ensures in
    let few : c.loop-n.n ≤ 27 = omega (arith, c.loop-n-test.true, end, children_most d) in
    small_sums (weight d (11 - c.args.key.level)) c.loop-n.n c.loop-n.total (weight_most d (11 - c.args.key.level) (omega arith)) few c.loop-n.invariant.sums

pub loop-n-preserved : goal.loop-n-preserved
loop-n-preserved t c =
    let d = c.args.grid.now.dim in
    let n = c.loop-n.n in
    let w = weight d (11 - c.args.key.level) in
    let key : c.child.result ≡ child_of c.args.key (digits_at d n) = c.child.ensures.value ∙ ap (child_of c.args.key) (c.nth_digits.ensures.value ∙ ap (λ (e : Dim). digits_at e n) c.dim-dim.ensures) in
    let down : c.child.result.level ≡ c.args.key.level + 1 = ap (λ (q : CellKey). q.level) key in
    let level : 12 - c.child.result.level ≡ 11 - c.args.key.level = omega (arith, down) in
    let own : AreSums w c.sums.result = subst (λ l. AreSums (weight d l) c.sums.result) level c.sums.ensures.sums in
    let more : n * w + w ≡ (n + 1) * w = omega arith in
    record {
      value = c.with-total.ensures ∙ one_child_more c.args.grid.now c.args.field.now (11 - c.args.key.level) c.args.key c.child.result n c.loop-n.total c.sums.result key level c.sums.ensures.value c.loop-n.invariant.value;
      sums = subst (λ s. AreSums ((n + 1) * w) s) (sym c.with-total.ensures) (subst (λ v. AreSums v (added c.sums.result c.loop-n.total)) more (sums_added w (n * w) c.sums.result c.loop-n.total own c.loop-n.invariant.sums));
    }

pub returns-clause-value : goal.returns-clause-value
returns-clause-value t c =
    let g = c.args.grid.now in
    let key = c.args.key in
    let refined : is_refined g key ≡ true = sym c.is_refined.ensures ∙ c.if-not-is_refined.false in
    let room : key.level < 12 = grind (arith, nat_tests, c.if-key-eq12.false, c.requires.level) in
    let end : c.loop-n.n ≡ children g.dim = (let e : c.child_count-n-end.result ≡ children g.dim = c.child_count-n-end.ensures.value ∙ ap children c.dim-dim.ensures in omega (arith, c.loop-n-test.false, c.loop-n.auto.n-end, e)) in
    let up : suc (11 - key.level) ≡ 12 - key.level = omega (arith, room) in
    c.loop-n.invariant.value ∙ all_children g c.args.field.now (11 - key.level) key c.loop-n.n refined end ∙ ap (λ l. field_sums g c.args.field.now l key) up

pub returns-clause-sums : goal.returns-clause-sums
returns-clause-sums t c =
    let g = c.args.grid.now in
    let room : c.args.key.level < 12 = grind (arith, nat_tests, c.if-key-eq12.false, c.requires.level) in
    let end : c.loop-n.n ≡ children g.dim = (let e : c.child_count-n-end.result ≡ children g.dim = c.child_count-n-end.ensures.value ∙ ap children c.dim-dim.ensures in omega (arith, c.loop-n-test.false, c.loop-n.auto.n-end, e)) in
    subst (λ w. AreSums w c.loop-n.total) (whole_weight g.dim c.args.key.level c.loop-n.n room end) c.loop-n.invariant.sums
