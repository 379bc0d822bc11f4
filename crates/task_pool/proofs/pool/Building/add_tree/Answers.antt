use Rattle.std.proofs.Common.{◌≡◌, ◌<◌, ◌+◌, ◌-◌, ◌^◌, sym, refl, ap, ◌∙◌, subst, arith, get_or, vec_len}
use Rattle.result_table.specs.Seats.{IsSeatOf, view_of}
use Rattle.result_table.specs.declared.view.View.{View}
use Rattle.task_pool.specs.Built.{IsFreshSeat, IsPlaced, IsBuilt}
use Rattle.task_pool.proofs.Built.{placed_on, built_more, popped, snoc_last}
use Rattle.task_pool.proofs.pool.Building.add_tree.Goals as goal

pub man-requires-clause-seats : goal.man-requires-clause-seats
man-requires-clause-seats g c =
    let old = c.args.self.now in
    let is = c.deref.ensures.value ∙ c.in_ok-push.ensures.items in
    let tree : c.len-tree.result ≡ vec_len old.trees = c.len-tree.ensures in
    let made = c.in_ok-desk.ensures in
    λ i x d below.
    let told = made.each i d (omega (arith, below, made.count)) in
    let long : c.len-tree.result ≡ vec_len old.trees = tree in
    subst (λ t. IsFreshSeat t (get_or c.in_ok-desk.seats.items i d)) (sym (ap (λ l. get_or l c.len-tree.result x) is ∙ snoc_last old.trees.items _ x c.len-tree.result (sym old.trees.ok.0 ∙ sym tree))) (told.0, ap (λ (v : View g.row.S.Denot). v.claimed) told.1)

pub man-requires-clause-placed : goal.man-requires-clause-placed
man-requires-clause-placed g c =
    let built = c.requires.built in
    let old = c.args.self.now in
    let is = c.deref.ensures.value ∙ c.in_ok-push.ensures.items in
    let tree : c.len-tree.result ≡ vec_len old.trees = c.len-tree.ensures in
    λ j h below. subst (λ l. IsPlaced l c.len-tree.result (get_or old.helpers.items j h)) (sym is)
    (placed_on old.trees.items _ c.len-tree.result (get_or old.helpers.items j h) (let ok = old.trees.ok.0 in omega (arith, tree, ok))
    (subst (λ n. IsPlaced old.trees.items n (get_or old.helpers.items j h)) (sym tree) (built.helper j h (omega (arith, below, built.helpers)))))

pub returns : goal.returns
returns g c =
    let built = c.requires.built in
    let old = c.args.self.now in
    let tree : c.len-tree.result ≡ vec_len old.trees = c.len-tree.ensures in
    let made = c.in_ok-desk.ensures in
    let manned = c.in_ok-man.ensures in
    let seat = c.unwrap-seat.result in
    let desk = c.in_ok-desk.desk in
    let first = made.each 0 seat (omega arith) in
    let at : seat ≡ get_or c.in_ok-desk.seats.items 0 seat = popped seat seat c.pop.result c.man.new.seats.items (vec_len c.man.new.seats) c.unwrap-seat.ensures manned.seats.0 (c.pop.ensures.value seat (let one = manned.seats.0 in omega (arith, one))) ∙ manned.seats.1 seat in
    subst (λ n. IsBuilt c.args.tasks.now c.args.workers c.args.solver.now (n + 1) (record { trees = c.push.new.self; hands = c.push-2.new.self; helpers = c.man.new.helpers; total = old.total + get_or c.args.tasks.now c.len-tree.result 0 })) tree
    (built_more c.args.tasks.now c.args.workers c.args.solver.now c.len-tree.result old _ (record { desk = desk; stealer = c.in_ok-stealer.stealer }) _ (subst (λ n. IsBuilt c.args.tasks.now c.args.workers c.args.solver.now n old) (sym tree) built)
    c.in_ok-push.ensures.items
    c.in_ok-push-2.ensures.items
    refl
    (let small = subst (λ n. get_or c.args.tasks.now n 0 < 2 ^ 32 - 1) (sym tree) c.requires.small in omega (arith, small))
    made.desk.0
    made.desk.1
    (record { tree_is = refl; seat = subst (IsSeatOf desk) (sym at) first.0; view = ap view_of at ∙ first.1; deque = sym c.in_ok-stealer.ensures.0; none = refl })
    (manned.helpers.0 ∙ built.helpers)
    (λ j x below. subst (λ l. IsPlaced l (c.len-tree.result + 1) (get_or c.man.new.helpers.items j x)) c.deref.ensures.value (manned.helpers.1 j x (omega (arith, below, built.helpers)))))
