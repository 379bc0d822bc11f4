-- Slots at the moments inside sweeps.
use Rattle.std.proofs.Common.{◌≡◌, inl, ⊎_elim, ℕ, ◌<◌, Bool, true, false, if◌then◌else◌, lt-ltb, refl, sym, ap, subst, ◌∙◌, Option, Some, None}
use Rattle.std.proofs.lemmas.Bool.{false≢true}
use Rattle.peano_keys.specs.declared.cell.CellKey.{CellKey}
use Rattle.peano_keys.specs.declared.vertex.VertexKey.{VertexKey}
use Rattle.peano_keys.specs.Dim.{corners}
use Rattle.peano_keys.specs.Vertex.{corner_of, adjacent_of}
use Rattle.peano_keys.specs.Grid.{IsStored, is_refined, has_cell}
use Rattle.peano_records.specs.declared.slot.Slot.{Slot}
use Rattle.peano_records.specs.declared.slot.Status.TheVariants.{Unset, Refined}
use Rattle.peano_records.specs.declared.slot.Intent.TheVariants.{Stay, Split, Merge}
use Rattle.peano_records.specs.declared.view.Corner.{Corner}
use Rattle.peano_records.specs.declared.view.Corner.TheVariants.{Vertex, Hanging, Beyond}
use Rattle.peano_records.specs.declared.view.CellView.{CellView}
use Rattle.peano_records.specs.Slots.{VertexRecord, slot_at, first_status}
use Rattle.peano_records.specs.AtRest.{intent_between, SaysOfCells}
use Rattle.peano_records.specs.Tells.{corner_at, says_refined}
use Rattle.peano_records.proofs.Fresh.{fresh_slot_at}
use Rattle.peano_records.proofs.Intents.{below_eight}
use Rattle.hanging_nodes.specs.Views.{IsOldSlot, IsShown}
use Rattle.hanging_nodes.proofs.Told.{refined_is, old_slot_of}
use Rattle.hanging_nodes.proofs.TwoGrids.{leaf_of, stay_not_split, stay_not_merge, split_not_merge}
use Rattle.adapt_marks.specs.Views.{HasMark}
use Rattle.step_phases.specs.Change.{Change}
use Rattle.step_phases.specs.Moments.{InSecondary, CornerSays, ViewSays, SecondaryBegins, SecondaryViewsShow, AdaptBegins, MadeTellsNew, MovedTellsBoth, MovedTellsNew}
use Rattle.step_phases.proofs.Grids.{at_position_is}
use Rattle.step_phases.proofs.Homes.{corner_is_vertex}

stay_same : (a b : Bool) → intent_between a b ≡ Stay → a ≡ b
stay_same true true h = refl
stay_same false false h = refl
stay_same true false h = absurd (stay_not_merge (sym h))
stay_same false true h = absurd (stay_not_split (sym h))

split_from_plain : (a b : Bool) → intent_between a b ≡ Split → a ≡ false
split_from_plain true true h = absurd (stay_not_split h)
split_from_plain true false h = absurd (split_not_merge (sym h))
split_from_plain false b h = refl

merge_from_refined : (a b : Bool) → intent_between a b ≡ Merge → a ≡ true
merge_from_refined true b h = refl
merge_from_refined false true h = absurd (split_not_merge h)
merge_from_refined false false h = absurd (stay_not_merge h)

pub secondary_begins : SecondaryBegins
secondary_begins k w c s h = record { status = h.rest.status; mark = h.mark; intent = inl h.rest.stay }

-- a slot in a secondary sweep tells the old grid
old_slot_in : (w : Change) (c : CellKey) (s : Slot) → has_cell w.old c ≡ true → InSecondary w c s → IsOldSlot w.old w.old false c s
old_slot_in w c s there h = record {
  split = λ e. ⊎_elim (λ stay. absurd (stay_not_split (sym stay ∙ e))) (λ between. leaf_of w.old c there (split_from_plain (is_refined w.old c) (is_refined w.new c) (sym between ∙ e))) h.intent;
  merge = λ e. ⊎_elim (λ stay. absurd (stay_not_merge (sym stay ∙ e))) (λ between. merge_from_refined (is_refined w.old c) (is_refined w.new c) (sym between ∙ e)) h.intent;
  stay = λ e. ((λ r. (refined_is (is_refined w.old c)).0 (sym h.status ∙ r)), (λ r. h.status ∙ (refined_is (is_refined w.old c)).1 r));
  splits = λ a. absurd (false≢true a);
  merges = λ a. absurd (false≢true a);
}

module _ (w : Change) (view : CellView) (says : ViewSays w.old (InSecondary w) view) where
  -- a cell at a position of a stored corner is one of the grid
  cell_at : (n j : ℕ) (c : CellKey) → n < corners w.old.dim → IsStored w.old (corner_of view.key n) → adjacent_of w.old.dim (corner_of view.key n) j ≡ Some c → has_cell w.old c ≡ true
  cell_at n j c below stored at = let near = at_position_is w.old.dim (corner_of view.key n) j c (corner_is_vertex w.old.dim view.key n below says.cell) at in stored c near.0 near.1

  shown : (n : ℕ) (o : Corner) → n < corners w.old.dim → CornerSays w.old (InSecondary w) (corner_of view.key n) o → IsShown w.old.dim (Some w.old) w.old false (corner_of view.key n) o
  shown n (Vertex s) below h = (
    h.0,
    (
      inl h.1,
      λ stored j c inside at. old_slot_in w c (slot_at s j) (cell_at n j c below stored (subst (λ (v : VertexKey). adjacent_of w.old.dim v j ≡ Some c) h.0 at)) (h.2 j c inside at),
      λ hangs. absurd (hangs h.1),
    ),
  )
  shown n (Hanging key) below h = (h.0, h.1, h.1)
  shown n Beyond below h = absurd h

  marked : (n : ℕ) (s : VertexRecord) → n < corners w.old.dim → corner_at view n ≡ Vertex s → SaysOfCells w.old.dim s (HasMark w.old w.mark)
  marked n s below is = let h = subst (CornerSays w.old (InSecondary w) (corner_of view.key n)) is (says.corner n below) in λ j c inside at. (h.2 j c inside at).mark

pub secondary_views_show : SecondaryViewsShow
secondary_views_show w view says = record {
  cell = says.cell;
  grid = λ n below. shown w view says n (corner_at view n) below (says.corner n below);
  marked = marked w view says;
  beyond = says.beyond;
}

pub adapt_begins : AdaptBegins
adapt_begins w c s h = record { status = h.status; intent = h.intent }

first_is_no_refined : (o : Option CellKey) → first_status o ≡ Refined → ⊥
first_is_no_refined None e = false≢true (ap says_refined e)
first_is_no_refined (Some q) e = false≢true (ap says_refined e)

pub made_tells_new : MadeTellsNew
made_tells_new dim new v n c below = record {
  stay = ap (λ (s : Slot). s.intent) (fresh_slot_at dim v n (below_eight dim n below));
  refined = λ r. absurd (first_is_no_refined (adjacent_of dim v n) (sym (ap (λ (s : Slot). s.status) (fresh_slot_at dim v n (below_eight dim n below)) ∙ ap (λ b. if b then first_status (adjacent_of dim v n) else Unset) (lt-ltb n (corners dim) below)) ∙ r));
}

pub moved_tells_both : MovedTellsBoth
moved_tells_both k old new t c before now there h m =
    let base = old_slot_of old new true c before there h in
    record {
      split = λ e. base.split (sym m.intent ∙ e);
      merge = λ e. base.merge (sym m.intent ∙ e);
      stay = λ e. ⊎_elim
          (λ same. ((λ r. (base.stay (sym m.intent ∙ e)).0 (sym same ∙ r)), (λ r. same ∙ (base.stay (sym m.intent ∙ e)).1 r)))
          (λ visited.
          let ab : is_refined old c ≡ is_refined new c = stay_same (is_refined old c) (is_refined new c) (sym h.intent ∙ sym m.intent ∙ e) in
          ((λ r. ab ∙ (refined_is (is_refined new c)).0 (sym visited.1 ∙ r)), (λ r. visited.1 ∙ (refined_is (is_refined new c)).1 (sym ab ∙ r))))
          m.status;
      splits = λ a. ((λ e. (base.splits a).0 (sym m.intent ∙ e)), (λ w. m.intent ∙ (base.splits a).1 w));
      merges = λ a. ((λ e. (base.merges a).0 (sym m.intent ∙ e)), (λ w. m.intent ∙ (base.merges a).1 w));
    }

pub moved_tells_new : MovedTellsNew
moved_tells_new k new t c before now base m = record {
  stay = m.intent ∙ base.stay;
  refined = λ r. ⊎_elim (λ same. base.refined (sym same ∙ r)) (λ visited. (refined_is (is_refined new c)).0 (sym visited.1 ∙ r)) m.status;
}
