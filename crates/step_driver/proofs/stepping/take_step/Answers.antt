use Rattle.std.proofs.Common.{◌≡◌, true, false, List, refl, sym, subst, ◌∙◌, arith}
use Rattle.peano_records.specs.declared.partials.Partial.{Partial}
use Rattle.curve_cuts.specs.Cuts.{Cuts}
use Rattle.curve_cuts.specs.Keys.{cuts_of}
use Rattle.solver_api.specs.Step.{marks_of}
use Rattle.spacetree.specs.declared.fault.EvalFault.TheVariants.{NoMemory}
use Rattle.step_values.specs.Values.{change_of}
use Rattle.step_sweeps.specs.Kernels.{Kernel}
use Rattle.step_world.specs.Steps.{KeepsParts}
use Rattle.step_world.specs.Worlds.{KeepsAll, RefinesAbove}
use Rattle.sweep_visits.specs.Runs.{turned_round}
use Rattle.step_driver.specs.Computing.{AllCanStep}
use Rattle.step_driver.specs.Sizes.{IsSizeAfter}
use Rattle.step_driver.specs.Stepping.{TookStep, StoppedStep}
use Rattle.step_driver.specs.Summing.{AllTakeSums, IsSettled}
use Rattle.step_driver.proofs.Began.{stand_on}
use Rattle.step_driver.proofs.Taken.{stopped_computing, stopped_settling, stopped_adapting, wants_memory, turnover_is, refused, serves}
use Rattle.step_driver.proofs.Stepped.{takes_sums, took_plain, took_adapting, can_adapt, told_later}
use Rattle.step_driver.proofs.stepping.take_step.Goals as goal

pub compute-requires-clause-stores : goal.compute-requires-clause-stores
compute-requires-clause-stores g c κs within =
    let h = c.requires.at in
    let all : AllCanStep (cuts_of c.args.keys.now) (g.S.Solver.parts_of c.args.solver.now) c.args.stores.items = (h.2.dir, h.0, h.1, stand_on (g.S.Solver.parts_of c.args.solver.now) (cuts_of c.args.keys.now) c.args.stores.items c.args.notes.now.items c.args.cells h.0 h.1 h.2) in
    all

pub returns-in_err-worked : goal.returns-in_err-worked
returns-in_err-worked g c = λ grid f at.
    let kernel : Kernel = record { parts = g.S.Solver.parts_of c.args.solver.now; updated = g.S.Solver.updated c.args.solver.now; marked = g.S.Solver.marked c.args.solver.now } in
    let k : Cuts = cuts_of c.args.keys.now in
    wants_memory kernel (g.S.Solver.adapting c.args.solver.now) k grid f c.args.step c.args.notes.now.items c.compute.new.notes.items c.from_residual.result _ (λ e h. h) c.from_residual.ensures.1
    (stopped_computing kernel (g.S.Solver.adapting c.args.solver.now) k grid f c.args.step c.args.stores.items c.args.notes.now.items c.compute.new.notes.items c.args.cells at
    (c.in_err-worked.ensures.stopped at.dir grid f (stand_on kernel.parts k c.args.stores.items c.args.notes.now.items c.args.cells grid f at)))

pub size_after-cells-requires-clause-turnover : goal.size_after-cells-requires-clause-turnover
size_after-cells-requires-clause-turnover g c =
    let kernel : Kernel = record { parts = g.S.Solver.parts_of c.args.solver.now; updated = g.S.Solver.updated c.args.solver.now; marked = g.S.Solver.marked c.args.solver.now } in
    let k : Cuts = cuts_of c.args.keys.now in
    let grid = c.requires.at.0 in
    let f = c.requires.at.1 in
    let at = c.requires.at.2 in
    let computed = c.in_ok-worked.ensures.computed at.dir grid f (stand_on kernel.parts k c.args.stores.items c.args.notes.now.items c.args.cells grid f at) in
    (grid, marks_of kernel.marked grid f, turnover_is kernel k grid f c.args.step c.args.stores.items c.in_ok-worked.worked.stores.items c.in_ok-worked.worked.partials.items c.args.notes.now.items c.compute.new.notes.items c.in_ok-worked.worked.found c.args.cells at computed c.dim.result (sym c.dim.ensures))

pub returns-in-Some : goal.returns-in-Some
returns-in-Some g c = λ grid f at.
    let kernel : Kernel = record { parts = g.S.Solver.parts_of c.args.solver.now; updated = g.S.Solver.updated c.args.solver.now; marked = g.S.Solver.marked c.args.solver.now } in
    let k : Cuts = cuts_of c.args.keys.now in
    let computed = c.in_ok-worked.ensures.computed at.dir grid f (stand_on kernel.parts k c.args.stores.items c.args.notes.now.items c.args.cells grid f at) in
    let sized : IsSizeAfter c.args.keys.now.dim c.args.cells c.in_ok-worked.worked.found.turnover c.size_after-cells.result = subst (λ d. IsSizeAfter d c.args.cells c.in_ok-worked.worked.found.turnover c.size_after-cells.result) c.dim.ensures c.size_after-cells.ensures in
    refused kernel k grid f c.args.step c.args.stores.items c.in_ok-worked.worked.stores.items c.in_ok-worked.worked.partials.items c.args.notes.now.items c.compute.new.notes.items c.in_ok-worked.worked.found c.args.cells at computed c.args.keys.now.dim refl c.size_after-cells.result sized (g.S.Solver.adapting c.args.solver.now) c.in-Some.fault c.in-Some.ensures

pub settle-requires-after_bounds : goal.settle-requires-after_bounds
settle-requires-after_bounds g c κs within =
    let kernel : Kernel = record { parts = g.S.Solver.parts_of c.args.solver.now; updated = g.S.Solver.updated c.args.solver.now; marked = g.S.Solver.marked c.args.solver.now } in
    let k : Cuts = cuts_of c.args.keys.now in
    let grid = c.requires.at.0 in
    let f = c.requires.at.1 in
    let at = c.requires.at.2 in
    let computed = c.in_ok-worked.ensures.computed at.dir grid f (stand_on kernel.parts k c.args.stores.items c.args.notes.now.items c.args.cells grid f at) in
    let sized : IsSizeAfter c.args.keys.now.dim c.args.cells c.in_ok-worked.worked.found.turnover c.size_after-cells.result = subst (λ d. IsSizeAfter d c.args.cells c.in_ok-worked.worked.found.turnover c.size_after-cells.result) c.dim.ensures c.size_after-cells.ensures in
    let deep : RefinesAbove (g.S.Solver.marked c.args.solver.now) k.depth = (λ own sides level e. let low = (g.met.S.Solver g.world.𝓛 g.world.𝓜 g.world.𝓡 ((λ s x. x), (λ x. x), (λ x. x), λ x. x)).refines_above c.args.solver.now own sides level e in let deepest = c.requires.deepest in omega (arith, low, deepest)) in
    let parts : KeepsParts (g.S.Solver.parts_of c.args.solver.now) (g.S.Solver.updated c.args.solver.now) = (λ own sides level new have e. (g.met.S.Solver g.world.𝓛 g.world.𝓜 g.world.𝓡 ((λ s x. x), (λ x. x), (λ x. x), λ x. x)).parts_stay c.args.solver.now own sides level new have e) in
    let s = serves kernel k grid f c.args.step c.args.stores.items c.in_ok-worked.worked.stores.items c.in_ok-worked.worked.partials.items c.args.notes.now.items c.compute.new.notes.items c.in_ok-worked.worked.found c.args.cells at computed c.args.keys.now.dim refl c.size_after-cells.result sized deep c.in_default.ensures in
    subst (λ (ps : List (List Partial)). AllTakeSums k ps c.in_ok-worked.worked.stores.items) (sym c.as_slice.ensures.value) (takes_sums kernel k grid f c.args.step c.args.stores.items c.in_ok-worked.worked.stores.items c.in_ok-worked.worked.partials.items c.args.notes.now.items c.compute.new.notes.items c.in_ok-worked.worked.found c.args.cells at computed s.later s.field s.step s.fits parts)

pub returns-in_err-settled : goal.returns-in_err-settled
returns-in_err-settled g c = λ grid f at.
    let kernel : Kernel = record { parts = g.S.Solver.parts_of c.args.solver.now; updated = g.S.Solver.updated c.args.solver.now; marked = g.S.Solver.marked c.args.solver.now } in
    let k : Cuts = cuts_of c.args.keys.now in
    let computed = c.in_ok-worked.ensures.computed at.dir grid f (stand_on kernel.parts k c.args.stores.items c.args.notes.now.items c.args.cells grid f at) in
    wants_memory kernel (g.S.Solver.adapting c.args.solver.now) k grid f c.args.step c.args.notes.now.items c.compute.new.notes.items c.from_residual-in_err-settled.result _ (λ e h. h) c.from_residual-in_err-settled.ensures.1
    (stopped_settling kernel k grid f c.args.step c.args.stores.items c.in_ok-worked.worked.stores.items c.in_ok-worked.worked.partials.items c.args.notes.now.items c.compute.new.notes.items c.in_ok-worked.worked.found c.args.cells at computed (g.S.Solver.adapting c.args.solver.now))

pub returns-then-not-adapts : goal.returns-then-not-adapts
returns-then-not-adapts g c = λ grid f at.
    let kernel : Kernel = record { parts = g.S.Solver.parts_of c.args.solver.now; updated = g.S.Solver.updated c.args.solver.now; marked = g.S.Solver.marked c.args.solver.now } in
    let k : Cuts = cuts_of c.args.keys.now in
    let computed = c.in_ok-worked.ensures.computed at.dir grid f (stand_on kernel.parts k c.args.stores.items c.args.notes.now.items c.args.cells grid f at) in
    let sized : IsSizeAfter c.args.keys.now.dim c.args.cells c.in_ok-worked.worked.found.turnover c.size_after-cells.result = subst (λ d. IsSizeAfter d c.args.cells c.in_ok-worked.worked.found.turnover c.size_after-cells.result) c.dim.ensures c.size_after-cells.ensures in
    let deep : RefinesAbove (g.S.Solver.marked c.args.solver.now) k.depth = (λ own sides level e. let low = (g.met.S.Solver g.world.𝓛 g.world.𝓜 g.world.𝓡 ((λ s x. x), (λ x. x), (λ x. x), λ x. x)).refines_above c.args.solver.now own sides level e in let deepest = c.requires.deepest in omega (arith, low, deepest)) in
    let parts : KeepsParts (g.S.Solver.parts_of c.args.solver.now) (g.S.Solver.updated c.args.solver.now) = (λ own sides level new have e. (g.met.S.Solver g.world.𝓛 g.world.𝓜 g.world.𝓡 ((λ s x. x), (λ x. x), (λ x. x), λ x. x)).parts_stay c.args.solver.now own sides level new have e) in
    let plain : g.S.Solver.adapting c.args.solver.now ≡ false = sym c.adapts.ensures ∙ c.if-not-adapts.true in
    let keeps : KeepsAll (g.S.Solver.marked c.args.solver.now) = (λ own sides level. (g.met.S.Solver g.world.𝓛 g.world.𝓜 g.world.𝓡 ((λ s x. x), (λ x. x), (λ x. x), λ x. x)).keeps_all c.args.solver.now own sides level plain) in
    let s = serves kernel k grid f c.args.step c.args.stores.items c.in_ok-worked.worked.stores.items c.in_ok-worked.worked.partials.items c.args.notes.now.items c.compute.new.notes.items c.in_ok-worked.worked.found c.args.cells at computed c.args.keys.now.dim refl c.size_after-cells.result sized deep c.in_default.ensures in
    let settled = subst (λ (ps : List (List Partial)). IsSettled k ps c.in_ok-worked.worked.stores.items c.in_ok-settled.settled.items) c.as_slice.ensures.value c.in_ok-settled.ensures in
    subst (λ b. TookStep kernel b k grid f c.args.step c.in_ok-settled.settled.items c.args.notes.now.items c.compute.new.notes.items c.size_after-cells.result) (sym plain)
    (took_plain kernel k grid f c.args.step c.args.stores.items c.in_ok-worked.worked.stores.items c.in_ok-worked.worked.partials.items c.args.notes.now.items c.compute.new.notes.items c.in_ok-worked.worked.found c.args.cells at computed s.later s.field s.step s.fits parts c.in_ok-settled.settled.items settled c.tale_of_notes_grows.ensures keeps c.size_after-cells.result s.counted s.room)

pub adapt-requires-after_bounds : goal.adapt-requires-after_bounds
adapt-requires-after_bounds g c κs within =
    let kernel : Kernel = record { parts = g.S.Solver.parts_of c.args.solver.now; updated = g.S.Solver.updated c.args.solver.now; marked = g.S.Solver.marked c.args.solver.now } in
    let k : Cuts = cuts_of c.args.keys.now in
    let grid = c.requires.at.0 in
    let f = c.requires.at.1 in
    let at = c.requires.at.2 in
    let computed = c.in_ok-worked.ensures.computed at.dir grid f (stand_on kernel.parts k c.args.stores.items c.args.notes.now.items c.args.cells grid f at) in
    let sized : IsSizeAfter c.args.keys.now.dim c.args.cells c.in_ok-worked.worked.found.turnover c.size_after-cells.result = subst (λ d. IsSizeAfter d c.args.cells c.in_ok-worked.worked.found.turnover c.size_after-cells.result) c.dim.ensures c.size_after-cells.ensures in
    let deep : RefinesAbove (g.S.Solver.marked c.args.solver.now) k.depth = (λ own sides level e. let low = (g.met.S.Solver g.world.𝓛 g.world.𝓜 g.world.𝓡 ((λ s x. x), (λ x. x), (λ x. x), λ x. x)).refines_above c.args.solver.now own sides level e in let deepest = c.requires.deepest in omega (arith, low, deepest)) in
    let parts : KeepsParts (g.S.Solver.parts_of c.args.solver.now) (g.S.Solver.updated c.args.solver.now) = (λ own sides level new have e. (g.met.S.Solver g.world.𝓛 g.world.𝓜 g.world.𝓡 ((λ s x. x), (λ x. x), (λ x. x), λ x. x)).parts_stay c.args.solver.now own sides level new have e) in
    let s = serves kernel k grid f c.args.step c.args.stores.items c.in_ok-worked.worked.stores.items c.in_ok-worked.worked.partials.items c.args.notes.now.items c.compute.new.notes.items c.in_ok-worked.worked.found c.args.cells at computed c.args.keys.now.dim refl c.size_after-cells.result sized deep c.in_default.ensures in
    let settled = subst (λ (ps : List (List Partial)). IsSettled k ps c.in_ok-worked.worked.stores.items c.in_ok-settled.settled.items) c.as_slice.ensures.value c.in_ok-settled.ensures in
    (turned_round (turned_round at.dir), change_of kernel.updated kernel.marked grid f s.later s.field, told_later kernel k grid f c.args.step c.args.stores.items c.in_ok-worked.worked.stores.items c.in_ok-worked.worked.partials.items c.args.notes.now.items c.compute.new.notes.items c.in_ok-worked.worked.found c.args.cells at computed s.later s.field s.step s.fits parts c.in_ok-settled.settled.items settled, can_adapt kernel k grid f c.args.step c.args.stores.items c.in_ok-worked.worked.stores.items c.in_ok-worked.worked.partials.items c.args.notes.now.items c.compute.new.notes.items c.in_ok-worked.worked.found c.args.cells at computed s.later s.field s.step s.fits parts c.in_ok-settled.settled.items settled)

pub returns-in_err-stores : goal.returns-in_err-stores
returns-in_err-stores g c = λ grid f at.
    let kernel : Kernel = record { parts = g.S.Solver.parts_of c.args.solver.now; updated = g.S.Solver.updated c.args.solver.now; marked = g.S.Solver.marked c.args.solver.now } in
    let k : Cuts = cuts_of c.args.keys.now in
    let computed = c.in_ok-worked.ensures.computed at.dir grid f (stand_on kernel.parts k c.args.stores.items c.args.notes.now.items c.args.cells grid f at) in
    let sized : IsSizeAfter c.args.keys.now.dim c.args.cells c.in_ok-worked.worked.found.turnover c.size_after-cells.result = subst (λ d. IsSizeAfter d c.args.cells c.in_ok-worked.worked.found.turnover c.size_after-cells.result) c.dim.ensures c.size_after-cells.ensures in
    let deep : RefinesAbove (g.S.Solver.marked c.args.solver.now) k.depth = (λ own sides level e. let low = (g.met.S.Solver g.world.𝓛 g.world.𝓜 g.world.𝓡 ((λ s x. x), (λ x. x), (λ x. x), λ x. x)).refines_above c.args.solver.now own sides level e in let deepest = c.requires.deepest in omega (arith, low, deepest)) in
    let parts : KeepsParts (g.S.Solver.parts_of c.args.solver.now) (g.S.Solver.updated c.args.solver.now) = (λ own sides level new have e. (g.met.S.Solver g.world.𝓛 g.world.𝓜 g.world.𝓡 ((λ s x. x), (λ x. x), (λ x. x), λ x. x)).parts_stay c.args.solver.now own sides level new have e) in
    let s = serves kernel k grid f c.args.step c.args.stores.items c.in_ok-worked.worked.stores.items c.in_ok-worked.worked.partials.items c.args.notes.now.items c.compute.new.notes.items c.in_ok-worked.worked.found c.args.cells at computed c.args.keys.now.dim refl c.size_after-cells.result sized deep c.in_default.ensures in
    let settled = subst (λ (ps : List (List Partial)). IsSettled k ps c.in_ok-worked.worked.stores.items c.in_ok-settled.settled.items) c.as_slice.ensures.value c.in_ok-settled.ensures in
    let adapts : g.S.Solver.adapting c.args.solver.now ≡ true = sym c.adapts.ensures ∙ c.if-not-adapts.false in
    let w = change_of kernel.updated kernel.marked grid f s.later s.field in
    wants_memory kernel (g.S.Solver.adapting c.args.solver.now) k grid f c.args.step c.args.notes.now.items c.adapt.new.notes.items c.from_residual-in_err-stores.result _ (λ e h. h) c.from_residual-in_err-stores.ensures.1
    (subst (λ b. StoppedStep kernel b k grid f c.args.step c.args.notes.now.items c.adapt.new.notes.items NoMemory) (sym adapts)
    (stopped_adapting kernel k grid f c.args.step c.args.stores.items c.in_ok-worked.worked.stores.items c.in_ok-worked.worked.partials.items c.args.notes.now.items c.compute.new.notes.items c.in_ok-worked.worked.found c.args.cells at computed s.later c.adapt.new.notes.items s.step.grid
    (c.in_err-stores.ensures.stopped (turned_round (turned_round at.dir)) w (told_later kernel k grid f c.args.step c.args.stores.items c.in_ok-worked.worked.stores.items c.in_ok-worked.worked.partials.items c.args.notes.now.items c.compute.new.notes.items c.in_ok-worked.worked.found c.args.cells at computed s.later s.field s.step s.fits parts c.in_ok-settled.settled.items settled) (can_adapt kernel k grid f c.args.step c.args.stores.items c.in_ok-worked.worked.stores.items c.in_ok-worked.worked.partials.items c.args.notes.now.items c.compute.new.notes.items c.in_ok-worked.worked.found c.args.cells at computed s.later s.field s.step s.fits parts c.in_ok-settled.settled.items settled))))

pub returns : goal.returns
returns g c = λ grid f at.
    let kernel : Kernel = record { parts = g.S.Solver.parts_of c.args.solver.now; updated = g.S.Solver.updated c.args.solver.now; marked = g.S.Solver.marked c.args.solver.now } in
    let k : Cuts = cuts_of c.args.keys.now in
    let computed = c.in_ok-worked.ensures.computed at.dir grid f (stand_on kernel.parts k c.args.stores.items c.args.notes.now.items c.args.cells grid f at) in
    let sized : IsSizeAfter c.args.keys.now.dim c.args.cells c.in_ok-worked.worked.found.turnover c.size_after-cells.result = subst (λ d. IsSizeAfter d c.args.cells c.in_ok-worked.worked.found.turnover c.size_after-cells.result) c.dim.ensures c.size_after-cells.ensures in
    let deep : RefinesAbove (g.S.Solver.marked c.args.solver.now) k.depth = (λ own sides level e. let low = (g.met.S.Solver g.world.𝓛 g.world.𝓜 g.world.𝓡 ((λ s x. x), (λ x. x), (λ x. x), λ x. x)).refines_above c.args.solver.now own sides level e in let deepest = c.requires.deepest in omega (arith, low, deepest)) in
    let parts : KeepsParts (g.S.Solver.parts_of c.args.solver.now) (g.S.Solver.updated c.args.solver.now) = (λ own sides level new have e. (g.met.S.Solver g.world.𝓛 g.world.𝓜 g.world.𝓡 ((λ s x. x), (λ x. x), (λ x. x), λ x. x)).parts_stay c.args.solver.now own sides level new have e) in
    let s = serves kernel k grid f c.args.step c.args.stores.items c.in_ok-worked.worked.stores.items c.in_ok-worked.worked.partials.items c.args.notes.now.items c.compute.new.notes.items c.in_ok-worked.worked.found c.args.cells at computed c.args.keys.now.dim refl c.size_after-cells.result sized deep c.in_default.ensures in
    let settled = subst (λ (ps : List (List Partial)). IsSettled k ps c.in_ok-worked.worked.stores.items c.in_ok-settled.settled.items) c.as_slice.ensures.value c.in_ok-settled.ensures in
    let adapts : g.S.Solver.adapting c.args.solver.now ≡ true = sym c.adapts.ensures ∙ c.if-not-adapts.false in
    let w = change_of kernel.updated kernel.marked grid f s.later s.field in
    let adapted = c.in_ok-stores.ensures.adapted (turned_round (turned_round at.dir)) w (told_later kernel k grid f c.args.step c.args.stores.items c.in_ok-worked.worked.stores.items c.in_ok-worked.worked.partials.items c.args.notes.now.items c.compute.new.notes.items c.in_ok-worked.worked.found c.args.cells at computed s.later s.field s.step s.fits parts c.in_ok-settled.settled.items settled) (can_adapt kernel k grid f c.args.step c.args.stores.items c.in_ok-worked.worked.stores.items c.in_ok-worked.worked.partials.items c.args.notes.now.items c.compute.new.notes.items c.in_ok-worked.worked.found c.args.cells at computed s.later s.field s.step s.fits parts c.in_ok-settled.settled.items settled) in
    subst (λ b. TookStep kernel b k grid f c.args.step c.in_ok-stores.stores.items c.args.notes.now.items c.adapt.new.notes.items c.size_after-cells.result) (sym adapts)
    (took_adapting kernel k grid f c.args.step c.args.stores.items c.in_ok-worked.worked.stores.items c.in_ok-worked.worked.partials.items c.args.notes.now.items c.compute.new.notes.items c.in_ok-worked.worked.found c.args.cells at computed s.later s.field s.step s.fits parts c.in_ok-settled.settled.items settled c.tale_of_notes_grows.ensures c.in_ok-stores.stores.items c.adapt.new.notes.items adapted deep c.size_after-cells.result s.counted s.room)
