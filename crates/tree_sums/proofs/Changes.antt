-- Sums in a step.
use Rattle.std.proofs.Common.{◌≡◌, ◌⊎◌, ℕ, ◌-◌, ◌<◌, ◌==◌, ◌||◌, ◌&&◌, Bool, true, false, if◌then◌else◌, inr, ⊎_elim, refl, sym, ap, subst, ◌∙◌, arith, Option, Some, None, unwrap_or}
use Rattle.std.proofs.lemmas.Bool.{false≢true, cases_eq}
use Rattle.std.proofs.lemmas.Bool.Decides.{nat_tests}
use Rattle.peano_keys.specs.declared.cell.CellKey.{CellKey}
use Rattle.peano_keys.specs.declared.state.State.{State}
use Rattle.peano_keys.specs.declared.vertex.VertexKey.{VertexKey}
use Rattle.peano_keys.specs.declared.side.Mark.{Mark}
use Rattle.peano_keys.specs.Cell.{IsCell, parent_of}
use Rattle.peano_keys.specs.Vertex.{adjacent_of}
use Rattle.peano_keys.specs.Grid.{Spacetree, IsGrid, is_refined, has_cell, is_leaf}
use Rattle.peano_keys.specs.Next.{Merges, IsNextGrid}
use Rattle.peano_records.specs.declared.slot.Slot.{Slot}
use Rattle.peano_records.specs.Slots.{slot_at}
use Rattle.solver_api.specs.Step.{marks_of, new_state}
use Rattle.hanging_nodes.proofs.OneGrid.{there_by_parent}
use Rattle.hanging_nodes.proofs.TwoGrids.{leaf_not, leaf_of, refined_there}
use Rattle.curve_cuts.specs.Cuts.{Cuts, Owns, HasVertex, IsCutGrid}
use Rattle.step_phases.specs.Stores.{Store, TreeSays}
use Rattle.step_phases.specs.Change.{Gives}
use Rattle.step_phases.specs.Phases.{HasNext, AfterFirst}
use Rattle.step_phases.specs.Sweeps.{IsIntentOf}
use Rattle.step_phases.proofs.Grids.{at_position_is, cell_round, level_in}
use Rattle.step_phases.proofs.Sweeps.{swept_says, intent_between_grids}
use Rattle.step_values.specs.Sums.{AfterPart}
use Rattle.peano_keys.specs.Sums.{weight, floor_of}
use Rattle.peano_keys.specs.Field.{component_of, value_of}
use Rattle.mean_values.specs.Steps.{HasFloors}
use Rattle.mean_values.proofs.Digits.{digits_in, digits_are, its_own_child}
use Rattle.mean_values.proofs.Steps.{sums_give_value}
use Rattle.tree_sums.specs.Trees.{owned_by, shared_by, shared_cell}
use Rattle.tree_sums.specs.Changes.{MeanStep, IsTreeStep, IsInBoth, mean_change, totals_of, partials_of, MeanSecondaryChanges, AddedChanges, TotalsGiveValue, OwnersGiveValue, MeansLeaveOutShared, AddedGiveShared, MeansMakeSecondary}
use Rattle.tree_sums.proofs.Trees.{owned_is_told, cuts_are_trees}
use Rattle.tree_sums.proofs.Partials.{owners_sum}
use Rattle.tree_sums.proofs.Totals.{corrected_totals_are_sums}

pub totals_give_value : TotalsGiveValue
totals_give_value k s is c v both floors =
    let level = level_in k s.old c is.fits both.here in
    sums_give_value k.depth s.parts s.updated s.marked s.old s.before s.states s.new s.after s.merging is.step is.field is.tells c v both.cell level both.here both.there (record {
      count = floors.count;
      each = λ i h. floors.each i h ∙ ap (λ z. floor_of z (weight s.old.dim (k.depth - c.level))) (corrected_totals_are_sums k s.old (marks_of s.marked s.old s.before) s.merging (component_of s.states i) s.cells is.fits is.tells is.lists c both.cell both.here);
    })

pub owners_give_value : OwnersGiveValue
owners_give_value k s is t c v both owns apart floors =
    let level = level_in k s.old c is.fits both.here in
    sums_give_value k.depth s.parts s.updated s.marked s.old s.before s.states s.new s.after s.merging is.step is.field is.tells c v both.cell level both.here both.there (record {
      count = floors.count;
      each = λ i h. floors.each i h ∙ ap (λ z. floor_of z (weight s.old.dim (k.depth - c.level))) (owners_sum k.depth s.old (marks_of s.marked s.old s.before) s.merging (shared_by k) k.trees (owned_by k) (component_of s.states i) is.fits.deepest is.fits.grid is.tells (cuts_are_trees k s.old is.fits) t (k.depth - c.level) c both.cell both.here apart ((owned_is_told k t c).1 owns));
    })

-- a refined cell is one of the next grid: its parent does not merge
refined_stays : (g new : Spacetree) (marks : CellKey → Mark) (depth : ℕ) (c : CellKey) → IsGrid depth g → IsNextGrid g marks new → is_refined g c ≡ true → has_cell new c ≡ true
refined_stays g new marks depth c grid next refined = ⊎_elim
    (λ root. let e : (c.level == 0) ≡ true = grind (arith, nat_tests, root) in ap (λ b. b || is_refined new (parent_of c)) e)
    (λ apart.
    let above : 0 < c.level = omega (arith, apart) in
    let cell : IsCell g.dim c = grid.cells c refined in
    there_by_parent new c above ∙ (next.refined (parent_of c)).1 (inr (grid.parents c refined above, λ (m : Merges g marks (parent_of c)). false≢true (sym (leaf_not g c (subst (λ q. is_leaf g q ≡ true) (its_own_child c cell.shape above) (m.leaves (digits_in c) (digits_are g.dim c cell)))) ∙ refined))))
    (cases_eq c.level 0)

some_same : (a b : State) → Some a ≡ Some b → a ≡ b
some_same a b e = ap (λ (o : Option State). unwrap_or o a) e

and_both : (a b : Bool) → a ≡ true → b ≡ true → (a && b) ≡ true
and_both true b g h = h
and_both false b g h = absurd (false≢true g)

and_none : (a b : Bool) → b ≡ false → (a && b) ≡ false
and_none true b h = h
and_none false b h = refl

and_parts : (a b : Bool) → (a && b) ≡ true → (a ≡ true) × (b ≡ true)
and_parts true b h = (refl, h)
and_parts false b h = absurd (false≢true h)

and_off : (a b : Bool) → a ≡ true → (a && b) ≡ false → b ≡ false
and_off true b g h = h
and_off false b g h = absurd (false≢true g)

module _ (k : Cuts) (s : MeanStep) (is : IsTreeStep k s) where
  refined_in_both : (c : CellKey) → is_refined s.old c ≡ true → IsInBoth s c
  refined_in_both c h = record {
    cell = is.fits.grid.cells c h;
    here = refined_there k.depth s.old c is.fits.grid h;
    there = refined_stays s.old s.new (marks_of s.marked s.old s.before) k.depth c is.fits.grid is.step.step.grid h;
  }

  -- a refined cell's slot with the right next value has what the change asks
  given : (c : CellKey) (v : State) → is_refined s.old c ≡ true → v ≡ value_of s.new s.after c → Gives ((mean_change s).next c) v
  given c v refined same x e = same ∙ some_same (value_of s.new s.after c) x (sym (ap (λ b. if b then Some (value_of s.new s.after c) else new_state s.updated s.old s.before c) (refined_in_both c refined).there) ∙ e)

  -- shared cells after the sums
  added_next : (t : ℕ) (c : CellKey) (a b : Slot) → AddedChanges k s t c a b → Owns k t c → shared_cell k s.old c ≡ true → HasNext (mean_change s) c b
  added_next t c a b y owns h =
      let refined = (and_parts (is_refined s.old c) (shared_by k c) h).0 in
      given c b.next refined (totals_give_value k s is c b.next (refined_in_both c refined) (y.added owns h))

  -- every other cell after the secondary sweep
  own_next : (t : ℕ) (c : CellKey) (a b : Slot) → has_cell s.old c ≡ true → AfterFirst k (mean_change s) c a → MeanSecondaryChanges k s t c a b → Owns k t c → shared_cell k s.old c ≡ false → HasNext (mean_change s) c b
  own_next t c a b here p x owns h = elim (is_refined s.old c) as (λ r. is_refined s.old c ≡ r → HasNext (mean_change s) c b) [
    | true ↦ λ r. given c b.next r (owners_give_value k s is t c b.next (refined_in_both c r) owns (and_off (is_refined s.old c) (shared_by k c) r h) (x.refined owns r (and_off (is_refined s.old c) (shared_by k c) r h)))
    | false ↦ λ r. ⊎_elim (λ kept. λ v e. kept.1 ∙ p.next t kept.0 v e) (λ n. n) (x.leaf owns (leaf_of s.old c here r))
  ] refl

pub means_leave_out_shared : MeansLeaveOutShared
means_leave_out_shared k s t before after is all swept = λ v has. swept_says k v (AfterFirst k (mean_change s)) (AfterPart k (mean_change s) (shared_cell k s.old) t) (MeanSecondaryChanges k s t) (before v) (after v) (all v has) (swept v has) (λ n c below at p e. record {
  status = e.status ∙ p.rest.status;
  value = e.value ∙ p.rest.value;
  mark = λ leaf. e.mark ∙ p.mark leaf;
  next = λ owns h. own_next k s is t c (slot_at (before v) n) (slot_at (after v) n) (cell_round k s.old t n v c is.fits has at) p e owns h;
  intent = λ owns. intent_between_grids s.old s.new (marks_of s.marked s.old s.before) c (slot_at (after v) n).intent is.step.step.grid (e.intent owns);
})

pub added_give_shared : AddedGiveShared
added_give_shared k s t before after is swept = λ v has.
    let a = swept v has in
    record {
      key = a.key;
      size = a.size;
      inside = λ n c below at.
          let y = a.inside n c below at in
          record {
            status = y.status;
            value = y.value;
            mark = y.mark;
            intent = y.intent;
            kept = y.kept;
            added = added_next k s is t c (slot_at (before v) n) (slot_at (after v) n) y;
          };
      outside = a.outside;
      unused = a.unused;
    }

pub means_make_secondary : MeansMakeSecondary
means_make_secondary k s t s0 s1 s2 is all first second = λ v has.
    let a = first v has in
    let b = second v has in
    let says = all v has in
    record {
      key = b.key ∙ a.key;
      size = b.size ∙ a.size;
      inside = λ n c below at.
          let x = a.inside n c below at in
          let y = b.inside n c below at in
          let p = says.inside n c below (subst (λ (w : VertexKey). adjacent_of k.dim w n ≡ Some c) (sym says.key) at) in
          record {
            status = y.status ∙ x.status;
            value = y.value ∙ x.value;
            mark = y.mark ∙ x.mark;
            next = λ owns. elim (shared_cell k s.old c) as (λ h. shared_cell k s.old c ≡ h → HasNext (mean_change s) c (slot_at (s2 v) n)) [
              | true ↦ λ h. added_next k s is t c (slot_at (s1 v) n) (slot_at (s2 v) n) y owns h
              | false ↦ λ h. λ u e. y.kept h ∙ own_next k s is t c (slot_at (s0 v) n) (slot_at (s1 v) n) (cell_round k s.old t n v c is.fits has at) p x owns h u e
            ] refl;
            intent = λ owns. subst (IsIntentOf s.old (marks_of s.marked s.old s.before) c) (sym y.intent) (x.intent owns);
          };
      outside = λ n below at. b.outside n below at ∙ a.outside n below at;
      unused = λ n low high. b.unused n low high ∙ a.unused n low high;
    }
