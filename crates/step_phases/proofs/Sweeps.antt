-- What sweeps do to what slots say, and whole steps.
use Rattle.std.proofs.Common.{◌≡◌, inr, ⊎_elim, ℕ, ◌<◌, ◌≤◌, ◌==◌, ◌||◌, Bool, true, false, if◌then◌else◌, refl, sym, ap, subst, ◌∙◌, arith, Option, Some, None}
use Rattle.std.proofs.lemmas.Bool.{false≢true}
use Rattle.std.proofs.lemmas.Bool.Decides.{nat_tests}
use Rattle.peano_keys.specs.declared.cell.CellKey.{CellKey}
use Rattle.peano_keys.specs.declared.dim.Dim.{Dim}
use Rattle.peano_keys.specs.declared.vertex.VertexKey.{VertexKey}
use Rattle.peano_keys.specs.declared.side.Mark.{Mark}
use Rattle.peano_keys.specs.Dim.{corners}
use Rattle.peano_keys.specs.Cell.{IsCell, parent_of}
use Rattle.peano_keys.specs.Vertex.{adjacent_of}
use Rattle.peano_keys.specs.Grid.{Spacetree, is_refined, has_cell}
use Rattle.peano_keys.specs.Next.{Splits, Merges, IsNextGrid}
use Rattle.peano_records.specs.declared.slot.Slot.{Slot}
use Rattle.peano_records.specs.declared.slot.Intent.{Intent}
use Rattle.peano_records.specs.declared.slot.Intent.TheVariants.{Stay, Split, Merge}
use Rattle.peano_records.specs.Slots.{VertexRecord, slot_at, fresh}
use Rattle.peano_records.specs.AtRest.{status_of, intent_between}
use Rattle.peano_records.specs.Tells.{slot_tells, tells_refined}
use Rattle.peano_records.proofs.Fresh.{fresh_says_outside, fresh_slot_at}
use Rattle.peano_records.proofs.Intents.{intents_follow_marks, below_eight}
use Rattle.hanging_nodes.specs.Views.{AreOldAndNew}
use Rattle.hanging_nodes.proofs.OneGrid.{there_by_parent, parent_is_cell}
use Rattle.hanging_nodes.proofs.TwoGrids.{next_had, stay_not_split, stay_not_merge, split_not_merge}
use Rattle.curve_cuts.specs.Cuts.{Cuts, Owns, HasVertex, IsCutGrid}
use Rattle.curve_cuts.proofs.Cuts.{owner_holds, held_from_above}
use Rattle.step_phases.specs.Stores.{Store, Stores, Says, TreeSays, AllSay, home_slot}
use Rattle.step_phases.specs.Change.{Change, IsChange, carrier}
use Rattle.step_phases.specs.Phases.{AtRest, HasOwn, AfterRaise, AfterPrimary, AfterFirst, AfterSecondary, AfterSecond, AfterAdapt}
use Rattle.step_phases.specs.Sweeps.{IsSweptRecord, RaiseChanges, PrimaryChanges, IsIntentOf, SecondaryChanges, AdaptChanges, refined_in}
use Rattle.step_phases.specs.SweepLaws.{Steps, RaiseSweep, PrimarySweep, SecondarySweep, AdaptSweep, StartRests, WholeStep, PlainStep}
use Rattle.step_phases.proofs.Grids.{decided, cell_round, at_position_is, level_in}
use Rattle.step_phases.proofs.Homes.{home_says}
use Rattle.step_phases.proofs.Exchanges.{opening_rests, first_exchange, second_exchange, third_exchange, second_rests}

-- a record whose cells' slots were changed
pub swept_says : (k : Cuts) (v : VertexKey) (P Q : CellKey → Slot → Type 0) (E : CellKey → Slot → Slot → Type 0) (old new : VertexRecord) → Says k.dim v P old → IsSweptRecord k E v old new → ((n : ℕ) (c : CellKey) → n < corners k.dim → adjacent_of k.dim v n ≡ Some c → P c (slot_at old n) → E c (slot_at old n) (slot_at new n) → Q c (slot_at new n)) → Says k.dim v Q new
swept_says k v P Q E old new says swept step =
    let there : (n : ℕ) (o : Option CellKey) → adjacent_of k.dim new.key n ≡ o → adjacent_of k.dim v n ≡ o = λ n o h. subst (λ (w : VertexKey). adjacent_of k.dim w n ≡ o) (swept.key ∙ says.key) h in
    let back : (n : ℕ) (o : Option CellKey) → adjacent_of k.dim v n ≡ o → adjacent_of k.dim old.key n ≡ o = λ n o h. subst (λ (w : VertexKey). adjacent_of k.dim w n ≡ o) (sym says.key) h in
    record {
      key = swept.key ∙ says.key;
      eight = swept.size ∙ says.eight;
      outside = λ n below at. ap (λ (s : Slot). s.status) (swept.outside n below (there n None at)) ∙ says.outside n below (back n None (there n None at));
      inside = λ n c below at. let here = there n (Some c) at in step n c below here (says.inside n c below (back n (Some c) here)) (swept.inside n c below here);
      idle = λ n below at. ap (λ (s : Slot). s.intent) (swept.outside n below (there n None at)) ∙ says.idle n below (back n None (there n None at));
      unused = λ n low high. ap (λ (s : Slot). s.intent) (swept.unused n low high) ∙ says.unused n low high;
    }

pub primary_sweep : PrimarySweep
primary_sweep k w t before after all swept = λ v has. swept_says k v (AtRest w.old w.value) (AfterPrimary k w t) (PrimaryChanges k w t) (before v) (after v) (all v has) (swept v has) (λ n c below at p e. record {
  rest = record { status = e.status ∙ p.status; value = e.value ∙ p.value; stay = e.intent ∙ p.stay };
  mark = e.mark;
  next = e.next;
})

-- an intent that is not another one is the same
intent_stable : (a b : Intent) → ¬ ¬ (a ≡ b) → a ≡ b
intent_stable Stay Stay h = refl
intent_stable Split Split h = refl
intent_stable Merge Merge h = refl
intent_stable Stay Split h = absurd (h stay_not_split)
intent_stable Stay Merge h = absurd (h stay_not_merge)
intent_stable Split Stay h = absurd (h (λ e. stay_not_split (sym e)))
intent_stable Merge Stay h = absurd (h (λ e. stay_not_merge (sym e)))
intent_stable Split Merge h = absurd (h split_not_merge)
intent_stable Merge Split h = absurd (h (λ e. split_not_merge (sym e)))

-- the intent by the marks is the one between the grids
pub intent_between_grids : (old new : Spacetree) (marks : CellKey → Mark) (c : CellKey) (i : Intent) → IsNextGrid old marks new → IsIntentOf old marks c i → i ≡ intent_between (is_refined old c) (is_refined new c)
intent_between_grids old new marks c i next is =
    let follows = intents_follow_marks old new marks c next in
    intent_stable i (intent_between (is_refined old c) (is_refined new c)) (λ apart.
    let no_split : ¬ Splits old marks c = λ s. apart (is.split s ∙ sym (follows.split s)) in
    let no_merge : ¬ Merges old marks c = λ m. apart (is.merge m ∙ sym (follows.merge m)) in
    apart (is.stay no_split no_merge ∙ sym (follows.stay no_split no_merge)))

-- and it is one by the marks
pub between_is_intent : (old new : Spacetree) (marks : CellKey → Mark) (c : CellKey) → IsNextGrid old marks new → IsIntentOf old marks c (intent_between (is_refined old c) (is_refined new c))
between_is_intent old new marks c next = let follows = intents_follow_marks old new marks c next in record { split = follows.split; merge = follows.merge; stay = follows.stay }

pub secondary_sweep : SecondarySweep
secondary_sweep k w t before after next all swept = λ v has. swept_says k v (AfterFirst k w) (AfterSecondary k w t) (SecondaryChanges k w t) (before v) (after v) (all v has) (swept v has) (λ n c below at p e. record {
  status = e.status ∙ p.rest.status;
  value = e.value ∙ p.rest.value;
  mark = λ leaf. e.mark ∙ p.mark leaf;
  next = e.next;
  intent = λ owns. intent_between_grids w.old w.new w.mark c (slot_at (after v) n).intent next (e.intent owns);
})

-- what a slot before an adaptation tells of the new grid
tells_new : (a b : Bool) → tells_refined true (intent_between a b) (status_of a) ≡ b
tells_new true true = refl
tells_new true false = refl
tells_new false true = refl
tells_new false false = refl

abbrev pub Nothing : CellKey → Slot → Type 0
Nothing c s = Unit {0}

-- a new record says nothing of cells
pub fresh_says : (dim : Dim) (v : VertexKey) → Says dim v Nothing (fresh dim v)
fresh_says dim v = record {
  key = refl;
  eight = refl;
  outside = λ n below at. (fresh_says_outside dim v n (below_eight dim n below)).1 (below, at);
  inside = λ n c below at. tt;
  idle = λ n below at. ap (λ (s : Slot). s.intent) (fresh_slot_at dim v n (below_eight dim n below));
  unused = λ n low high. ap (λ (s : Slot). s.intent) (fresh_slot_at dim v n high);
}

module _ (k : Cuts) (w : Change) (t : ℕ) (before : Store) (fits : IsCutGrid k w.old) (change : IsChange w) (all : TreeSays k w.old t (AfterSecond w) before) where
  both : AreOldAndNew k.depth k.dim w.old w.new
  both = record { grid = fits.grid; old_dim = fits.dim; step = inr (w.mark, change.grid) }

  module _ (c : CellKey) (owns : Owns k t c) (cell : IsCell k.dim c) (level : c.level ≤ k.depth) (there : has_cell w.new c ≡ true) where
    -- a cell of the new grid that the old one does not have is the child of a leaf that was split
    parent_there : has_cell w.old c ≡ false → (0 < c.level) × (has_cell w.old (parent_of c) ≡ true)
    parent_there away =
        let below : 0 < c.level = by_level (c.level == 0) refl in
        (below, next_had k.depth k.dim w.old w.new (parent_of c) both (sym (there_by_parent w.new c below) ∙ there))
      where
        by_level : (b : Bool) → (c.level == 0) ≡ b → 0 < c.level
        by_level true e = absurd (false≢true (sym away ∙ ap (λ b. b || is_refined w.old (parent_of c)) e))
        by_level false e = grind (arith, nat_tests, e)

    -- the cell from which it takes its value is a cell of the old grid that the tree holds
    carrier_says : AfterSecond w (carrier w.old c) (home_slot k.dim before (carrier w.old c))
    carrier_says = elim (has_cell w.old c) as (λ b. has_cell w.old c ≡ b → AfterSecond w (if b then c else parent_of c) (home_slot k.dim before (if b then c else parent_of c))) [
      | true ↦ λ here. home_says k w.old (AfterSecond w) before t c fits all owns.tree cell (owner_holds k t c owns) here
      | false ↦ λ away. let up = parent_there away in home_says k w.old (AfterSecond w) before t (parent_of c) fits all owns.tree (parent_is_cell k.dim c cell up.0) (held_from_above k t c cell up.0 level (owner_holds k t c owns)) up.1
    ] refl

    value_right : (home_slot k.dim before (carrier w.old c)).value ≡ w.last c
    value_right = carrier_says.value (w.last c) (change.values c (subst (λ d. IsCell d c) (sym fits.dim) cell) there)

    status_right : refined_in k w before c ≡ is_refined w.new c
    status_right = elim (has_cell w.old c) as (λ b. has_cell w.old c ≡ b → (if b then slot_tells true (home_slot k.dim before c) else false) ≡ is_refined w.new c) [
      | true ↦ λ here.
          let h = home_says k w.old (AfterSecond w) before t c fits all owns.tree cell (owner_holds k t c owns) here in
          ap (λ (i : Intent). tells_refined true i (home_slot k.dim before c).status) h.intent ∙ ap (λ s. tells_refined true (intent_between (is_refined w.old c) (is_refined w.new c)) s) h.status ∙ tells_new (is_refined w.old c) (is_refined w.new c)
      | false ↦ λ away. sym (plain (is_refined w.new c) refl away)
    ] refl
      where
        plain : (b : Bool) → is_refined w.new c ≡ b → has_cell w.old c ≡ false → is_refined w.new c ≡ false
        plain false e away = e
        plain true e away = absurd (false≢true (sym away ∙ next_had k.depth k.dim w.old w.new c both e))

pub adapt_sweep : AdaptSweep
adapt_sweep k w t before after fits new_fits change all adapted = λ v has.
    let made = adapted v has in
    let right : (n : ℕ) (c : CellKey) (old new : Slot) → adjacent_of k.dim v n ≡ Some c → AdaptChanges k w before t c old new → AfterAdapt k w t c new = λ n c old new at e.
    let there = cell_round k w.new t n v c new_fits has at in
    let cell = (at_position_is k.dim v n c has.vertex at).0 in
    let level = level_in k w.new c new_fits there in
    record {
      status = λ owns. e.status owns ∙ ap status_of (status_right k w t before fits change all c owns cell level there);
      value = λ owns. e.value owns ∙ value_right k w t before fits change all c owns cell level there;
    } in
    ⊎_elim
    (λ stored.
    let was : HasVertex k w.old t v = record { vertex = has.vertex; stored = stored; corner = has.corner } in
    swept_says k v (AfterSecond w) (AfterAdapt k w t) (AdaptChanges k w before t) (before v) (after v) (all v was) (made.kept stored) (λ n c below at p e. right n c (slot_at (before v) n) (slot_at (after v) n) at e))
    (λ hung. swept_says k v Nothing (AfterAdapt k w t) (AdaptChanges k w before t) (fresh k.dim v) (after v) (fresh_says k.dim v) (made.made hung) (λ n c below at p e. right n c (slot_at (fresh k.dim v) n) (slot_at (after v) n) at e))
    (decided k.dim w.old v fits.dim has.vertex)

pub raise_sweep : RaiseSweep
raise_sweep k g f t store raised = λ v has. swept_says k v Nothing (AfterRaise k g f t) (RaiseChanges k g f t) (fresh k.dim v) (store v) (fresh_says k.dim v) (raised v has) (λ n c below at p e. record { status = e.status; own = record { status = λ owns. e.status; value = e.value } })

-- what slots say says less, too
pub says_less : (k : Cuts) (v : VertexKey) (P Q : CellKey → Slot → Type 0) (r : VertexRecord) → ((c : CellKey) (s : Slot) → P c s → Q c s) → Says k.dim v P r → Says k.dim v Q r
says_less k v P Q r less says = record { key = says.key; eight = says.eight; outside = says.outside; inside = λ n c below at. less c (slot_at r n) (says.inside n c below at); idle = says.idle; unused = says.unused }

pub start_rests : StartRests
start_rests k g f before after fits raised given = opening_rests k g f before after fits (λ t v has. says_less k v (AfterRaise k g f t) (HasOwn k g f t) (before t v) (λ c s h. h.own) (raise_sweep k g f t (before t) (raised t) v has)) given

-- four moves to the second exchange
to_second : (k : Cuts) (w : Change) (s0 s1 s2 s3 s4 : Stores) → IsCutGrid k w.old → IsChange w → AllSay k w.old (λ t. AtRest w.old w.value) s0 → Steps k w s0 s1 s2 s3 s4 → AllSay k w.old (λ t. AfterSecond w) s4
to_second k w s0 s1 s2 s3 s4 fits change rest moves =
    let primary : AllSay k w.old (AfterPrimary k w) s1 = λ t. primary_sweep k w t (s0 t) (s1 t) (rest t) (moves.primary t) in
    let first = first_exchange k w s1 s2 fits primary moves.first in
    let secondary : AllSay k w.old (AfterSecondary k w) s3 = λ t. secondary_sweep k w t (s2 t) (s3 t) change.grid (first t) (moves.secondary t) in
    second_exchange k w s3 s4 fits secondary moves.second

pub whole_step : WholeStep
whole_step k w s0 s1 s2 s3 s4 s5 s6 fits new_fits change rest moves adapted third =
    let moved = to_second k w s0 s1 s2 s3 s4 fits change rest moves in
    third_exchange k w s5 s6 new_fits (λ t. adapt_sweep k w t (s4 t) (s5 t) fits new_fits change (moved t) (adapted t)) third

pub plain_step : PlainStep
plain_step k w s0 s1 s2 s3 s4 fits change same rest moves = second_rests k w s4 fits change same (to_second k w s0 s1 s2 s3 s4 fits change rest moves)
