use Rattle.std.proofs.Common.{◌≡◌, false, None, refl, ap, sym, ◌∙◌, subst, inl, inr}
use Rattle.std.proofs.lemmas.Bool.{false≢true}
use Rattle.curve_cuts.specs.Keys.{cuts_of}
use Rattle.tree_automaton.specs.Promises.{IsViewIn}
use Rattle.tree_automaton.specs.Views.{value_at_home}
use Rattle.step_sweeps.specs.Enclaves.{DecidesEnclave}
use Rattle.step_sweeps.specs.Kernels.{HasParts, IsOwnLeaf, failing_with}
use Rattle.step_sweeps.specs.Secondaries.{SecondaryWork, CellFinished, leaf_intends}
use Rattle.step_sweeps.proofs.Entered.{have_back}
use Rattle.step_sweeps.proofs.OwnSlots.{told_may}
use Rattle.step_sweeps.proofs.secondary.SecondaryVisitor.enter.Goals as goal

pub returns-then-not-is_enclave-clause-slots : goal.returns-then-not-is_enclave-clause-slots
returns-then-not-is_enclave-clause-slots g c = told_may c.clear.new.self.keys.dim (leaf_intends None c.splits-split.result) c.args.cell.now c.intend.new.cell c.intend.ensures.told (subst (λ d. IsViewIn d c.args.cell.now) (ap (λ (x : SecondaryWork _). x.keys.dim) (sym c.clear.ensures)) c.requires)

pub returns-then-not-is_enclave-clause-done : goal.returns-then-not-is_enclave-clause-done
returns-then-not-is_enclave-clause-done g c =
    let v = c.args.cell.now in
    subst (λ (x : SecondaryWork _). CellFinished (λ s. record { parts = g.S.Solver.parts_of s; updated = g.S.Solver.updated s; marked = g.S.Solver.marked s }) x v c.intend.new.cell c.intend.new.self) c.clear.ensures (inl (record {
      own = subst (λ (x : SecondaryWork _). IsOwnLeaf (cuts_of x.keys) x.tree v) c.self.view_is (c.is_own_leaf.ensures.0 c.if-not-is_own_leaf.false);
      next = None;
      after = c.clear.new.self;
      finished = inr (record {
        other = inl (subst (λ (x : SecondaryWork _). DecidesEnclave (cuts_of x.keys) x.tree v false) c.self.view_is
            (subst (DecidesEnclave (cuts_of c.self.inside.keys.now) c.self.inside.tree v) c.if-not-is_enclave.true (record { enclave = c.is_enclave.ensures.enclave; skeleton = c.is_enclave.ensures.skeleton })));
        none = refl;
        same = refl;
      });
      split = c.splits-split.result;
      decides = c.splits-split.ensures;
      told = c.intend.ensures.told;
      counted = c.intend.ensures.counted;
    }))

pub returns-then-not-have_parts-clause-slots : goal.returns-then-not-have_parts-clause-slots
returns-then-not-have_parts-clause-slots g c = told_may c.clear.new.self.keys.dim (leaf_intends None c.splits-split.result) c.args.cell.now c.intend-then-not-have_parts.new.cell c.intend-then-not-have_parts.ensures.told (subst (λ d. IsViewIn d c.args.cell.now) (ap (λ (x : SecondaryWork _). x.keys.dim) (sym c.clear.ensures)) c.requires)

pub returns-then-not-have_parts-clause-done : goal.returns-then-not-have_parts-clause-done
returns-then-not-have_parts-clause-done g c =
    let v = c.args.cell.now in
    let own_is : c.home_value-own.result ≡ value_at_home c.self.inside.keys.now.dim v = c.home_value-own.ensures ∙ ap (λ d. value_at_home d v) c.dim.ensures in
    subst (λ (x : SecondaryWork _). CellFinished (λ s. record { parts = g.S.Solver.parts_of s; updated = g.S.Solver.updated s; marked = g.S.Solver.marked s }) x v c.intend-then-not-have_parts.new.cell c.intend-then-not-have_parts.new.self) c.clear.ensures (inl (record {
      own = subst (λ (x : SecondaryWork _). IsOwnLeaf (cuts_of x.keys) x.tree v) c.self.view_is (c.is_own_leaf.ensures.0 c.if-not-is_own_leaf.false);
      next = None;
      after = c.clear.new.self;
      finished = inr (record {
        other = inr (λ have.
            false≢true (sym c.if-not-have_parts.true ∙ c.have_parts.ensures.1 (have_back c.parts.result (g.S.Solver.parts_of c.self.inside.solver.now) c.home_value-own.result (value_at_home c.self.inside.keys.now.dim v) v.sides c.parts.ensures.value own_is
            (subst (λ (x : SecondaryWork _). HasParts (record { parts = g.S.Solver.parts_of x.solver; updated = g.S.Solver.updated x.solver; marked = g.S.Solver.marked x.solver }) x.keys.dim v) (sym c.self.view_is) have))));
        none = refl;
        same = refl;
      });
      split = c.splits-split.result;
      decides = c.splits-split.ensures;
      told = c.intend-then-not-have_parts.ensures.told;
      counted = c.intend-then-not-have_parts.ensures.counted;
    }))

pub returns-clause-slots : goal.returns-clause-slots
returns-clause-slots g c = told_may c.self.inside.keys.now.dim (leaf_intends c.answer-next.result c.splits-split.result) c.args.cell.now c.intend-2.new.cell c.intend-2.ensures.told (subst (λ d. IsViewIn d c.args.cell.now) (ap (λ (x : SecondaryWork _). x.keys.dim) (sym (c.self.view_is ∙ c.clear.ensures))) c.requires)

pub returns-clause-done : goal.returns-clause-done
returns-clause-done g c =
    let v = c.args.cell.now in
    let k = cuts_of c.self.inside.keys.now in
    let own_is : c.home_value-own.result ≡ value_at_home k.dim v = c.home_value-own.ensures ∙ ap (λ d. value_at_home d v) c.dim.ensures in
    let new_is : c.answer-next.result ≡ g.S.Solver.updated c.self.inside.solver.now (value_at_home k.dim v) v.sides v.key.level = c.answer-next.ensures.value ∙ (ap (λ x. g.S.Solver.updated x c.home_value-own.result v.sides v.key.level) c.self.invariant.3 ∙ ap (λ s. g.S.Solver.updated c.self.inside.solver.now s v.sides v.key.level) own_is) in
    subst (λ (x : SecondaryWork _). CellFinished (λ s. record { parts = g.S.Solver.parts_of s; updated = g.S.Solver.updated s; marked = g.S.Solver.marked s }) x v c.intend-2.new.cell c.intend-2.new.self) (c.self.view_is ∙ c.clear.ensures) (inl (record {
      own = c.is_own_leaf.ensures.0 c.if-not-is_own_leaf.false;
      next = c.answer-next.result;
      after = record { solver = c.self.inside.solver.now; keys = c.self.inside.keys.now; tree = c.self.inside.tree; sums = c.self.inside.sums; merging = c.self.inside.merging; splits = c.self.inside.splits; merges = c.self.inside.merges; partials = c.self.inside.partials; failing = c.failing-self-inside.result; tasks = c.answer-next.new.self };
      finished = inl (record {
        enclave = subst (DecidesEnclave k c.self.inside.tree v) c.if-not-is_enclave.false (record { enclave = c.is_enclave.ensures.enclave; skeleton = c.is_enclave.ensures.skeleton });
        next_is = new_is;
        answered = c.answer-next.ensures.answers;
        found = ap (λ o. record { solver = c.self.inside.solver.now; keys = c.self.inside.keys.now; tree = c.self.inside.tree; sums = c.self.inside.sums; merging = c.self.inside.merging; splits = c.self.inside.splits; merges = c.self.inside.merges; partials = c.self.inside.partials; failing = o; tasks = c.answer-next.new.self })
            (c.failing-self-inside.ensures ∙ ap (failing_with c.self.inside.failing v.key) new_is);
      });
      split = c.splits-split.result;
      decides = c.splits-split.ensures;
      told = c.intend-2.ensures.told;
      counted = c.intend-2.ensures.counted;
    }))
