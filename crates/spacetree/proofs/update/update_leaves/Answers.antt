use Rattle.std.proofs.Common.{arith, ap, ◌∙◌, sym, subst, ◌≡◌, ◌+◌, List, get_or, take, Some, Option, refl, inl, inr, IfSome, IsSome}
use Rattle.std.specs.FinSet as set
use Rattle.std.proofs.lemmas.Bool.{false≢true}
use Rattle.std.proofs.lemmas.List.{take_all}
use Rattle.peano_keys.specs.declared.cell.CellKey.{CellKey}
use Rattle.peano_keys.specs.declared.state.State.{State}
use Rattle.peano_keys.specs.declared.side.Mark.{Mark}
use Rattle.peano_keys.specs.declared.side.Mark.TheVariants.{Refine, Coarsen}
use Rattle.peano_keys.specs.State.{count_of}
use Rattle.peano_keys.specs.Cell.{key_cmp}
use Rattle.solver_api.specs.Step.{marks_of, new_state}
use Rattle.spacetree.specs.Leaves.{is_among}
use Rattle.spacetree.specs.Marked.{IsAddedWhere}
use Rattle.spacetree.proofs.CellSets.{among_more, leaf_at, nowhere}
use Rattle.spacetree.proofs.Givens.{Gives, Counts, gives_none, counts_none, gives_more, counts_more, field_on, given_at_leaf}
use Rattle.spacetree.proofs.Sifts.{Sifts, sifts_none, sifts_more, len_by_added, marked_by}
use Rattle.spacetree.proofs.Steps.{fails_at}
use Rattle.spacetree.proofs.update.update_leaves.Goals as goal

pub loop-leaf-init : goal.loop-leaf-init
loop-leaf-init g c =
    let marks : CellKey → Mark = marks_of (g.S.Solver.marked c.args.solver.now) c.args.grid.now c.args.field.now in
    let empty = c.empty-update.ensures in
    record {
      gives = gives_none (new_state (g.S.Solver.updated c.args.solver.now) c.args.grid.now c.args.field.now) c.empty-update.result.states empty.states;
      counts = counts_none (g.S.Solver.parts_of c.args.solver.now) c.empty-update.result.states empty.states;
      made = λ q h. absurd (false≢true h);
      refine = sifts_none (λ q. marks q ≡ Refine) set.empty c.empty-update.result.refine empty.refine;
      coarsen = sifts_none (λ q. marks q ≡ Coarsen) set.empty c.empty-update.result.coarsen empty.coarsen;
      few = omega (arith, ap set.len empty.refine, set.len-empty key_cmp);
    }

pub update_leaf-told-requires-clause-leaf : goal.update_leaf-told-requires-clause-leaf
update_leaf-told-requires-clause-leaf g c κs within =
    leaf_at c.args.grid.now c.args.leaves.now c.args.leaves.now c.loop-leaf.leaf-index c.requires.leaves refl c.loop-leaf-test.true

pub returns-in-None-clause-err : goal.returns-in-None-clause-err
returns-in-None-clause-err g c =
    (refl, fails_at (g.S.Solver.updated c.args.solver.now) c.args.grid.now c.args.field.now c.args.leaves.now c.loop-leaf.leaf-index nowhere c.requires.leaves c.loop-leaf-test.true c.loop-leaf.invariant.made (sym c.in-None.is ∙ c.update_leaf-told.ensures.state))

pub loop-leaf-preserved : goal.loop-leaf-preserved
loop-leaf-preserved g c =
    let cells = c.args.leaves.now in
    let i = c.loop-leaf.leaf-index in
    let k : CellKey = get_or cells i nowhere in
    let parts = g.S.Solver.parts_of c.args.solver.now in
    let given : CellKey → Option State = new_state (g.S.Solver.updated c.args.solver.now) c.args.grid.now c.args.field.now in
    let marks : CellKey → Mark = marks_of (g.S.Solver.marked c.args.solver.now) c.args.grid.now c.args.field.now in
    let old = c.loop-leaf.update in
    let new = c.add.new.self in
    let told = c.update_leaf-told.ensures in
    let value : given k ≡ Some c.in-Some.state = sym told.state ∙ c.in-Some.is in
    let count = subst (λ (o : Option State). IfSome o (λ s. count_of s ≡ parts)) c.in-Some.is told.count in
    let after = c.in_ok-add-in-Some.ensures in
    let refine : IsAddedWhere (marks k ≡ Refine) k old.refine new.refine = subst (λ (m : Mark). IsAddedWhere (m ≡ Refine) k old.refine new.refine) told.mark after.refine in
    let coarsen : IsAddedWhere (marks k ≡ Coarsen) k old.coarsen new.coarsen = subst (λ (m : Mark). IsAddedWhere (m ≡ Coarsen) k old.coarsen new.coarsen) told.mark after.coarsen in
    record {
      gives = subst (Gives given (take (i + 1) cells)) (sym after.states) (gives_more given cells i nowhere old.states c.in-Some.state c.loop-leaf-test.true c.loop-leaf.invariant.gives value);
      counts = subst (Counts parts) (sym after.states) (counts_more parts old.states k c.in-Some.state c.loop-leaf.invariant.counts count);
      made = λ q h. elim (among_more cells i nowhere q c.loop-leaf-test.true h) [
        | inl e ↦ c.loop-leaf.invariant.made q e
        | inr e ↦ subst (λ (o : Option State). IsSome o) (sym (ap given e ∙ value)) refl
      ];
      refine = sifts_more (λ q. marks q ≡ Refine) cells i nowhere set.empty old.refine new.refine c.loop-leaf-test.true c.loop-leaf.invariant.refine refine;
      coarsen = sifts_more (λ q. marks q ≡ Coarsen) cells i nowhere set.empty old.coarsen new.coarsen c.loop-leaf-test.true c.loop-leaf.invariant.coarsen coarsen;
      few = omega (arith, len_by_added (marks k ≡ Refine) k old.refine new.refine refine, c.loop-leaf.invariant.few);
    }

pub returns-clause-states : goal.returns-clause-states
returns-clause-states g c =
    let given : CellKey → Option State = new_state (g.S.Solver.updated c.args.solver.now) c.args.grid.now c.args.field.now in
    let all = take_all c.loop-leaf.leaf-index c.args.leaves.now c.loop-leaf-test.false in
    given_at_leaf c.args.grid.now given c.args.leaves.now c.loop-leaf.update.states c.requires.leaves (subst (λ (cells : List CellKey). Gives given cells c.loop-leaf.update.states) all c.loop-leaf.invariant.gives)

pub returns-clause-field : goal.returns-clause-field
returns-clause-field g c =
    let given : CellKey → Option State = new_state (g.S.Solver.updated c.args.solver.now) c.args.grid.now c.args.field.now in
    let all = take_all c.loop-leaf.leaf-index c.args.leaves.now c.loop-leaf-test.false in
    field_on (g.S.Solver.parts_of c.args.solver.now) c.args.grid.now given c.args.leaves.now c.loop-leaf.update.states c.requires.leaves
    (subst (λ (cells : List CellKey). Gives given cells c.loop-leaf.update.states) all c.loop-leaf.invariant.gives)
    (λ q leaf. c.loop-leaf.invariant.made q (ap (λ l. is_among l q) all ∙ (c.requires.leaves.members q).1 leaf))
    c.loop-leaf.invariant.counts

pub returns-clause-marks : goal.returns-clause-marks
returns-clause-marks g c =
    let marks : CellKey → Mark = marks_of (g.S.Solver.marked c.args.solver.now) c.args.grid.now c.args.field.now in
    let all = take_all c.loop-leaf.leaf-index c.args.leaves.now c.loop-leaf-test.false in
    let told = c.loop-leaf.update in
    record {
      refine = marked_by c.args.grid.now marks Refine c.args.leaves.now told.refine c.requires.leaves (subst (λ (cells : List CellKey). Sifts (λ q. marks q ≡ Refine) cells set.empty told.refine) all c.loop-leaf.invariant.refine);
      coarsen = marked_by c.args.grid.now marks Coarsen c.args.leaves.now told.coarsen c.requires.leaves (subst (λ (cells : List CellKey). Sifts (λ q. marks q ≡ Coarsen) cells set.empty told.coarsen) all c.loop-leaf.invariant.coarsen);
    }
