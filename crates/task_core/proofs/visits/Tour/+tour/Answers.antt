use Rattle.std.proofs.Common.{◌≡◌, ◌+◌, ◌<◌, refl, sym, subst, ◌∙◌, arith}
use Rattle.std.proofs.lemmas.Bool.{false≢true}
use Rattle.std.proofs.lemmas.Result.{on_ok_weaker}
use Rattle.peano_keys.specs.Dim.{children}
use Rattle.peano_curve.specs.Order.{place_along}
use Rattle.sweep_visits.specs.Visits.{enter, leave}
use Rattle.task_core.specs.declared.stop.Stop.TheVariants.{Pass}
use Rattle.task_core.specs.Work.{IsServedStop}
use Rattle.task_core.specs.Tours.{cuts_in}
use Rattle.task_core.proofs.Toured.{each_one, adds_one, cell_none, cell_some, rest_last, rest_more}
use Rattle.task_core.proofs.visits.Tour.+tour.Goals as goal

pub add_cell-returns-then-not-held : goal.add_cell-returns-then-not-held
add_cell-returns-then-not-held t c =
    let r = c.args.self.now in
    cell_none (cuts_in r) r.grid.now r.field.now r.tree c.requires.tour.grid r.dir c.args.cell c.args.stops.now.items (λ held. false≢true (sym c.if-not-held.true ∙ c.held.ensures.1 held))

pub add_cell-returns : goal.add_cell-returns
add_cell-returns t c =
    let r = c.args.self.now in
    let first = c.args.stops.now.items in
    let entered = c.push.new.self.items in
    let below = c.add_below.new.stops.items in
    let last = c.push-2.new.self.items in
    cell_some (cuts_in r) r.grid.now r.field.now r.tree c.requires.tour.grid r.dir c.args.cell first entered below last (c.held.ensures.0 c.if-not-held.false) c.requires.there
    (adds_one (cuts_in r) r.grid.now r.field.now r.tree (enter c.args.cell) c.stop_at.result first entered c.stop_at.ensures.stop c.stop_at.ensures.served c.in_ok-push.ensures.items)
    c.in_ok-add_below.ensures
    (adds_one (cuts_in r) r.grid.now r.field.now r.tree (leave c.args.cell) Pass below last refl (λ n field. each_one (IsServedStop n) Pass tt) c.in_ok-push-2.ensures.items)

pub add_from-returns-in-Some : goal.add_from-returns-in-Some
add_from-returns-in-Some t c =
    let r = c.args.self.now in
    let deep : 0 < c.args.child.level = omega (arith, c.requires.below) in
    let next = subst (λ d. place_along r.dir d c.in-Some.next ≡ place_along r.dir d c.args.child + 1) c.dim.ensures c.in-Some.ensures.last in
    on_ok_weaker c.add_from.result
    (λ more. rest_more (cuts_in r) r.grid.now r.field.now r.tree c.requires.tour.grid r.dir c.args.child c.in-Some.next c.args.stops.now.items c.add_cell.new.stops.items c.add_from.new.stops.items c.requires.cell deep c.in-Some.ensures.parent next c.in_ok-add_cell.ensures more)
    c.add_from.ensures

pub add_from-returns-in-None : goal.add_from-returns-in-None
add_from-returns-in-None t c =
    let r = c.args.self.now in
    let deep : 0 < c.args.child.level = omega (arith, c.requires.below) in
    let end = subst (λ d. place_along r.dir d c.args.child + 1 ≡ children d) c.dim.ensures c.in-None.ensures.last in
    rest_last (cuts_in r) r.grid.now r.field.now r.tree c.requires.tour.grid r.dir c.args.child c.args.stops.now.items c.add_cell.new.stops.items c.requires.cell deep end c.in_ok-add_cell.ensures
