use Rattle.std.proofs.Common.{arith, ◌≡◌, ◌<◌, ◌+◌, ap, ◌∙◌, sym, subst, inl, inr, length, vec_len, eqb-true, ◌==◌}
use Rattle.std.proofs.lemmas.Bool.Decides.{Decides-eqb, not_from_Decides}
use Rattle.peano_keys.specs.declared.cell.CellKey.{CellKey}
use Rattle.peano_keys.specs.Cell.{parent_of, child_of}
use Rattle.spacetree.specs.Digits.{digits_at, number_in}
use Rattle.spacetree.specs.Build.{HasOpenedUnder, StandsFor}
use Rattle.spacetree.proofs.CellSets.{below_or_at}
use Rattle.spacetree.proofs.Children.{child_by_number, number_bound, parent_of_child, third_digit}
use Rattle.spacetree.proofs.Openings.{opens_above}
use Rattle.spacetree.proofs.Descents.{none_under, some_zone, stands_for_child, under_from_children}
use Rattle.spacetree.proofs.build.+add_under.Goals as goal
use Rattle.spacetree.proofs.build.+add_under.Goals.{else-key-shape-via-then-key-shape+else-is_empty, else-key-shape-via-else-key-shape}

pub returns-then-is_empty-clause-under : goal.returns-then-is_empty-clause-under
returns-then-is_empty-clause-under t c q opened under =
    let here = c.in_ok-here.here.items in
    let v = c.in_ok-here.here in
    let none : length here ≡ 0 = omega (arith, eqb-true (vec_len v) 0 (sym c.is_empty.ensures ∙ c.if-is_empty.true), v.ok.0) in
    absurd (none_under c.args.shape.now c.args.key c.args.zones.now here c.requires.zones c.in_ok-here.ensures none c.if-key-shape.true q opened under)

pub add-requires-clause-opened : goal.add-requires-clause-opened
add-requires-clause-opened t c =
    let here = c.in_ok-here.here.items in
    record {
      cell = c.requires.cell;
      cause = elim c.else-key-shape.branch [
        | else-key-shape-via-then-key-shape+else-is_empty w ↦
            let v = c.in_ok-here.here in
            let some : ¬ (vec_len v ≡ 0) = not_from_Decides (vec_len v == 0) (Decides-eqb (vec_len v) 0) (sym w.is_empty.ensures ∙ w.if-is_empty.false) in
            let many : 0 < length here = omega (arith, v.ok.0) in
            inr (some_zone c.args.shape.now c.args.key c.args.zones.now here c.requires.zones c.in_ok-here.ensures many)
        | else-key-shape-via-else-key-shape w ↦ inl w.if-key-shape.false
      ];
    }

pub add_under-requires : goal.add_under-requires
add_under-requires t c =
    let shape = c.args.shape.now in
    let key = c.args.key in
    let k = c.nth_digits.result in
    let digits = c.nth_digits.ensures.digits in
    let deep : key.level < shape.depth = opens_above shape key c.requires.shape (c.loop-n.invariant.within key c.loop-n.invariant.top) in
    let level : c.child.result.level ≡ key.level + 1 = ap (λ (q : CellKey). q.level) c.child.ensures.value in
    let up : parent_of c.child.result ≡ key = ap parent_of c.child.ensures.value ∙ parent_of_child key k c.requires.cell.shape digits.first digits.second (third_digit shape.dim k digits) in
    let stands = stands_for_child shape key c.child.result c.args.zones.now c.in_ok-here.here.items c.requires.zones c.in_ok-here.ensures (omega (arith, level)) up in
    (omega (arith, deep, level), (c.requires.shape, (c.child.ensures.cell shape.dim c.requires.cell digits, (subst (StandsFor shape c.child.result) (sym c.as_slice.ensures.value) stands, (c.loop-n.invariant.within, c.loop-n.invariant.fits)))))

pub loop-n-preserved : goal.loop-n-preserved
loop-n-preserved t c =
    let shape = c.args.shape.now in
    let old = c.loop-n.invariant in
    let after = c.in_ok-add_under.ensures in
    let key : c.child.result ≡ child_of c.args.key (digits_at shape.dim c.loop-n.n) = c.child.ensures.value ∙ ap (child_of c.args.key) c.nth_digits.ensures.value in
    record {
      within = after.within;
      kept = λ q h. after.kept q (old.kept q h);
      top = after.kept c.args.key old.top;
      children = λ r cell pos up lt. elim (below_or_at (number_in shape.dim r) c.loop-n.n lt) [
        | inl l ↦ λ q opened under. after.kept q (old.children r cell pos up l q opened under)
        | inr e ↦ subst (λ (p : CellKey). HasOpenedUnder shape p c.add_under.new.cells) (key ∙ sym (child_by_number shape.dim r c.args.key c.loop-n.n cell pos up e)) after.under
      ];
      fits = after.fits;
    }

pub returns-clause-under : goal.returns-clause-under
returns-clause-under t c =
    let shape = c.args.shape.now in
    under_from_children shape c.args.key c.loop-n.cells c.loop-n.invariant.top
    (λ r cell pos up. c.loop-n.invariant.children r cell pos up (omega (arith, number_bound shape.dim r, c.loop-n-test.false, c.child_count-n-end.ensures.power)))
