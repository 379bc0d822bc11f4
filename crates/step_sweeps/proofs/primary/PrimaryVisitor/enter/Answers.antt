use Rattle.std.proofs.Common.{◌≡◌, Some, None, refl, ap, sym, ◌∙◌, subst, inl, inr}
use Rattle.peano_records.specs.declared.view.CellView.{CellView}
use Rattle.curve_cuts.specs.Keys.{cuts_of}
use Rattle.tree_automaton.specs.Promises.{IsViewIn}
use Rattle.tree_automaton.specs.Views.{value_at_home}
use Rattle.step_sweeps.specs.Enclaves.{DecidesEnclave}
use Rattle.step_sweeps.specs.Kernels.{failing_with}
use Rattle.step_sweeps.specs.Primaries.{PrimaryWork, PrimaryEnters}
use Rattle.step_sweeps.proofs.OwnSlots.{told_may}
use Rattle.step_sweeps.proofs.Entered.{have_by, told_by, told_numbered}
use Rattle.step_sweeps.proofs.primary.PrimaryVisitor.enter.Goals as goal

pub returns-then-is_enclave-clause-slots : goal.returns-then-is_enclave-clause-slots
returns-then-is_enclave-clause-slots g c = told_may c.dim-dim.result c.marked.result c.args.cell.now c.in_view.new.cell c.in_view.ensures (subst (λ d. IsViewIn d c.args.cell.now) (ap (λ (x : PrimaryWork _). x.keys.dim) (sym c.self.view_is) ∙ sym c.dim-dim.ensures) c.requires)

pub returns-then-is_enclave-clause-done : goal.returns-then-is_enclave-clause-done
returns-then-is_enclave-clause-done g c =
    let v = c.args.cell.now in
    let k = cuts_of c.self.inside.keys.now in
    let own_is : c.home_value-own.result ≡ value_at_home k.dim v = c.home_value-own.ensures ∙ ap (λ d. value_at_home d v) c.dim-dim.ensures in
    subst (λ (x : PrimaryWork _). PrimaryEnters (λ s. record { parts = g.S.Solver.parts_of s; updated = g.S.Solver.updated s; marked = g.S.Solver.marked s }) x v (record c.in_view.new.cell { task = c.offer-number.result })
    (record { solver = c.self.inside.solver.now; keys = c.self.inside.keys.now; tree = c.self.inside.tree; failing = c.self.inside.failing; tasks = c.offer-number.new.self })) c.self.view_is (inl (record {
      computed = record { own = c.is_own_leaf.ensures.0 c.if-not-is_own_leaf.false; parts = have_by c.parts-parts.result (g.S.Solver.parts_of c.self.inside.solver.now) c.home_value-own.result (value_at_home k.dim v) v.sides c.parts-parts.ensures.value own_is (c.have_parts.ensures.0 c.if-not-have_parts.false) };
      enclave = subst (DecidesEnclave k c.self.inside.tree v) c.if-is_enclave.true (record { enclave = c.is_enclave.ensures.enclave; skeleton = c.is_enclave.ensures.skeleton });
      told = told_numbered k.dim (record { mark = Some (g.S.Solver.marked c.self.inside.solver.now (value_at_home k.dim v) v.sides v.key.level); next = None; intent = None }) v c.in_view.new.cell c.offer-number.result
          (told_by c.dim-dim.result k.dim c.marked.result (record { mark = Some (g.S.Solver.marked c.self.inside.solver.now (value_at_home k.dim v) v.sides v.key.level); next = None; intent = None }) v c.in_view.new.cell c.dim-dim.ensures
          (c.marked.ensures ∙ ap (λ m. record { mark = Some m; next = None; intent = None }) (c.mark-mark.ensures ∙ ap (λ s. g.S.Solver.marked c.self.inside.solver.now s v.sides v.key.level) own_is)) c.in_view.ensures);
      offered = c.offer-number.ensures;
      same = refl;
    }))

pub returns-clause-slots : goal.returns-clause-slots
returns-clause-slots g c = told_may c.dim-dim.result (record { mark = Some c.mark-mark.result; next = c.update-next.result; intent = None }) c.args.cell.now c.in_view-2.new.cell c.in_view-2.ensures (subst (λ d. IsViewIn d c.args.cell.now) (ap (λ (x : PrimaryWork _). x.keys.dim) (sym c.self.view_is) ∙ sym c.dim-dim.ensures) c.requires)

pub returns-clause-done : goal.returns-clause-done
returns-clause-done g c =
    let v = c.args.cell.now in
    let k = cuts_of c.self.inside.keys.now in
    let own_is : c.home_value-own.result ≡ value_at_home k.dim v = c.home_value-own.ensures ∙ ap (λ d. value_at_home d v) c.dim-dim.ensures in
    let new_is : c.update-next.result ≡ g.S.Solver.updated c.self.inside.solver.now (value_at_home k.dim v) v.sides v.key.level = c.update-next.ensures.value ∙ ap (λ s. g.S.Solver.updated c.self.inside.solver.now s v.sides v.key.level) own_is in
    let mark_is : c.mark-mark.result ≡ g.S.Solver.marked c.self.inside.solver.now (value_at_home k.dim v) v.sides v.key.level = c.mark-mark.ensures ∙ ap (λ s. g.S.Solver.marked c.self.inside.solver.now s v.sides v.key.level) own_is in
    subst (λ (x : PrimaryWork _). PrimaryEnters (λ s. record { parts = g.S.Solver.parts_of s; updated = g.S.Solver.updated s; marked = g.S.Solver.marked s }) x v c.in_view-2.new.cell (record { solver = c.self.inside.solver.now; keys = c.self.inside.keys.now; tree = c.self.inside.tree; failing = c.failing-self-inside.result; tasks = c.self.inside.tasks })) c.self.view_is (inr (inl (record {
      computed = record { own = c.is_own_leaf.ensures.0 c.if-not-is_own_leaf.false; parts = have_by c.parts-parts.result (g.S.Solver.parts_of c.self.inside.solver.now) c.home_value-own.result (value_at_home k.dim v) v.sides c.parts-parts.ensures.value own_is (c.have_parts.ensures.0 c.if-not-have_parts.false) };
      skeleton = subst (DecidesEnclave k c.self.inside.tree v) c.if-is_enclave.false (record { enclave = c.is_enclave.ensures.enclave; skeleton = c.is_enclave.ensures.skeleton });
      told = told_by c.dim-dim.result k.dim (record { mark = Some c.mark-mark.result; next = c.update-next.result; intent = None })
          (record { mark = Some (g.S.Solver.marked c.self.inside.solver.now (value_at_home k.dim v) v.sides v.key.level); next = g.S.Solver.updated c.self.inside.solver.now (value_at_home k.dim v) v.sides v.key.level; intent = None }) v c.in_view-2.new.cell c.dim-dim.ensures
          (ap (λ m. record { mark = Some m; next = c.update-next.result; intent = None }) mark_is ∙ ap (λ n. record { mark = Some (g.S.Solver.marked c.self.inside.solver.now (value_at_home k.dim v) v.sides v.key.level); next = n; intent = None }) new_is) c.in_view-2.ensures;
      found = ap (λ o. record { solver = c.self.inside.solver.now; keys = c.self.inside.keys.now; tree = c.self.inside.tree; failing = o; tasks = c.self.inside.tasks })
          (c.failing-self-inside.ensures ∙ (ap (λ q. failing_with c.self.inside.failing q c.update-next.result) (ap (λ (x : CellView). x.key) c.in_view-2.ensures.others) ∙ ap (failing_with c.self.inside.failing v.key) new_is));
    })))
