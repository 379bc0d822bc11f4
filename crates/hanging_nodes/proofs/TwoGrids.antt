-- Storedness from above, in the old and the new grid of a sweep.
use Rattle.std.proofs.Common.{◌≡◌, ℕ, ◌<◌, ◌==◌, ◌&&◌, not, ◌↔◌, Bool, true, false, Option, Some, None, refl, sym, ap, ◌∙◌, subst, arith, ⊎_elim}
use Rattle.std.specs.Prelude.{IfSome}
use Rattle.std.proofs.lemmas.Bool.Decides.{nat_tests}
use Rattle.std.proofs.lemmas.Bool.{false≢true, cases_eq}
use Rattle.peano_keys.specs.declared.dim.Dim.{Dim}
use Rattle.peano_keys.specs.declared.cell.CellKey.{CellKey}
use Rattle.peano_keys.specs.declared.vertex.VertexKey.{VertexKey}
use Rattle.peano_keys.specs.Dim.{corners}
use Rattle.peano_keys.specs.Cell.{IsCell}
use Rattle.peano_keys.specs.Vertex.{IsVertex, adjacent_of, corner_of}
use Rattle.peano_keys.specs.Grid.{Spacetree, IsGrid, IsStored, is_refined, has_cell, is_leaf}
use Rattle.peano_keys.proofs.Positions.{position, position_below, at_position}
use Rattle.peano_records.specs.declared.slot.Slot.{Slot}
use Rattle.peano_records.specs.declared.slot.Status.{Status}
use Rattle.peano_records.specs.declared.slot.Status.TheVariants.{Unset, Outside, Leaf, Refined}
use Rattle.peano_records.specs.declared.slot.Intent.{Intent}
use Rattle.peano_records.specs.declared.slot.Intent.TheVariants.{Stay, Split, Merge}
use Rattle.peano_records.specs.declared.view.Corner.{Corner}
use Rattle.peano_records.specs.declared.view.Corner.TheVariants.{Vertex, Hanging, Beyond}
use Rattle.peano_records.specs.declared.view.CellView.{CellView}
use Rattle.peano_records.specs.Slots.{VertexRecord, slot_at}
use Rattle.peano_records.specs.AtRest.{SaysOfCells}
use Rattle.peano_records.specs.Tells.{says_refined, tells_refined, slot_tells, corner_at}
use Rattle.hanging_nodes.specs.Above.{HoldsVertex, corner_above, IsDecider, AllAllow}
use Rattle.hanging_nodes.specs.Views.{AreOldAndNew, AreGrids, IsStoredBefore, IsStoredIn, IsOldSlot, IsNewSlot, IsFirstSlot, HasSlots, IsShown, Shows}
use Rattle.hanging_nodes.proofs.OneGrid.{stored_refined, refined_stored, there_stored, there_by_parent}

same_truth : (a b : Bool) → (a ≡ true → b ≡ true) → (b ≡ true → a ≡ true) → a ≡ b
same_truth true true f g = refl
same_truth true false f g = sym (f refl)
same_truth false true f g = g refl
same_truth false false f g = refl

says_gives : (s : Status) → says_refined s ≡ true → s ≡ Refined
says_gives Unset h = absurd (false≢true h)
says_gives Outside h = absurd (false≢true h)
says_gives Leaf h = absurd (false≢true h)
says_gives Refined h = refl

says_is : (s : Status) → s ≡ Refined → says_refined s ≡ true
says_is s h = ap says_refined h

-- the variants of an intent differ
abbrev intent_code : Intent → ℕ
intent_code Stay = 0
intent_code Split = 1
intent_code Merge = 2

pub stay_not_split : Stay ≡ Split → ⊥
stay_not_split e = let n : 0 ≡ 1 = ap intent_code e in omega (arith, n)

pub stay_not_merge : Stay ≡ Merge → ⊥
stay_not_merge e = let n : 0 ≡ 2 = ap intent_code e in omega (arith, n)

pub split_not_merge : Split ≡ Merge → ⊥
split_not_merge e = let n : 1 ≡ 2 = ap intent_code e in omega (arith, n)

pub leaf_not : (t : Spacetree) (q : CellKey) → is_leaf t q ≡ true → is_refined t q ≡ false
leaf_not t q h = second_not (has_cell t q) (is_refined t q) h
  where
    second_not : (a b : Bool) → (a && not b) ≡ true → b ≡ false
    second_not true true h = sym h
    second_not true false h = refl
    second_not false true h = absurd (false≢true h)
    second_not false false h = refl

-- a refined cell is a cell
pub refined_there : (depth : ℕ) (t : Spacetree) (q : CellKey) → IsGrid depth t → is_refined t q ≡ true → has_cell t q ≡ true
refined_there depth t q g h = ⊎_elim
    (λ root. let e : (q.level == 0) ≡ true = grind (arith, nat_tests, root) in rw e refl)
    (λ below. let up : 0 < q.level = omega (arith, below) in there_by_parent t q up ∙ g.parents q h up)
    (cases_eq q.level 0)

leaf_there : (t : Spacetree) (q : CellKey) → is_leaf t q ≡ true → has_cell t q ≡ true
leaf_there t q h = first_and (has_cell t q) (not (is_refined t q)) h
  where
    first_and : (a b : Bool) → (a && b) ≡ true → a ≡ true
    first_and true b h = refl
    first_and false b h = h

pub leaf_of : (t : Spacetree) (q : CellKey) → has_cell t q ≡ true → is_refined t q ≡ false → is_leaf t q ≡ true
leaf_of t q h n = rw (h, n) refl

-- what a slot says of the old grid
old_slot : (old : Bool) (i : Intent) (s : Status) → (i ≡ Split → old ≡ false) → (i ≡ Merge → old ≡ true) → (i ≡ Stay → (s ≡ Refined) ↔ (old ≡ true)) → tells_refined false i s ≡ old
old_slot old Stay s split merge stay = same_truth (says_refined s) old (λ h. (stay refl).0 (says_gives s h)) (λ h. says_is s ((stay refl).1 h))
old_slot old Split s split merge stay = sym (split refl)
old_slot old Merge s split merge stay = sym (merge refl)

pub slot_tells_old : (old new : Spacetree) (after : Bool) (q : CellKey) (s : Slot) → IsOldSlot old new after q s → slot_tells false s ≡ is_refined old q
slot_tells_old old new after q s h = old_slot (is_refined old q) s.intent s.status (λ e. leaf_not old q (h.split e)) h.merge h.stay

-- what a slot says of the new grid
new_slot : (had old new : Bool) (i : Intent) (s : Status) → (new ≡ true → had ≡ true) → (i ≡ Stay → (s ≡ Refined) ↔ (old ≡ true)) → (i ≡ Split → new ≡ true) → (had ≡ true → old ≡ false → new ≡ true → i ≡ Split) → (i ≡ Merge → new ≡ false) → (old ≡ true → new ≡ false → i ≡ Merge) → tells_refined true i s ≡ new
new_slot had old new Split s kept stay to_split splits to_merge merges = sym (to_split refl)
new_slot had old new Merge s kept stay to_split splits to_merge merges = sym (to_merge refl)
new_slot had true true Stay s kept stay to_split splits to_merge merges = says_is s ((stay refl).1 refl)
new_slot had true false Stay s kept stay to_split splits to_merge merges = absurd (stay_not_merge (merges refl refl))
new_slot had false true Stay s kept stay to_split splits to_merge merges = absurd (stay_not_split (splits (kept refl) refl refl))
new_slot had false false Stay s kept stay to_split splits to_merge merges = same_truth (says_refined s) false (λ h. (stay refl).0 (says_gives s h)) (λ h. absurd (false≢true h))

pub slot_tells_new : (old new : Spacetree) (q : CellKey) (s : Slot) → (is_refined new q ≡ true → has_cell old q ≡ true) → IsOldSlot old new true q s → slot_tells true s ≡ is_refined new q
slot_tells_new old new q s kept h = new_slot (has_cell old q) (is_refined old q) (is_refined new q) s.intent s.status kept h.stay
    (λ e. ((h.splits refl).0 e).1) (λ had was will. (h.splits refl).1 (leaf_of old q had was, will))
    (λ e. ((h.merges refl).0 e).1) (λ was will. (h.merges refl).1 (was, will))

-- a slot that is to stay and tells of a refined cell has the status `Refined`
stays_refined : (after : Bool) (i : Intent) (s : Status) → i ≡ Stay → tells_refined after i s ≡ true → s ≡ Refined
stays_refined after i s e h = says_gives s (subst (λ j. tells_refined after j s ≡ true) e h)

-- that a vertex is stored can be shown by a contradiction
stored_stable : (t : Spacetree) (v : VertexKey) → ¬ ¬ IsStored t v → IsStored t v
stored_stable t v h = λ q cell touches. decide (has_cell t q) (λ n. h (λ stored. false≢true (sym n ∙ stored q cell touches)))
  where
    decide : (b : Bool) → (b ≡ false → ⊥) → b ≡ true
    decide true f = refl
    decide false f = absurd (f refl)

-- what the record of the corner above tells of the cells that decide
module _ (dim : Dim) (c : CellKey) (v : VertexKey) (s : VertexRecord) (after : Bool) (own : s.key ≡ corner_above c v) where
  told : AllAllow dim c v s after (corners dim) → (z : CellKey) → IsDecider dim c v z → slot_tells after (slot_at s (position dim (corner_above c v) z)) ≡ true
  told all z decider = subst (λ (o : Option CellKey). IfSome o (λ q. IsDecider dim c v q → slot_tells after (slot_at s (position dim (corner_above c v) z)) ≡ true)) (at_position dim (corner_above c v) z decider.cell decider.touches) (all (position dim (corner_above c v) z) (position_below dim (corner_above c v) z decider.touches)) decider

  abbrev SaysAbove : (CellKey → Slot → Type 0) → VertexKey → Type 0
  SaysAbove P w = (n : ℕ) (q : CellKey) → n < corners dim → adjacent_of dim w n ≡ Some q → P q (slot_at s n)

  slot_right : (P : CellKey → Slot → Type 0) → SaysOfCells dim s P → (z : CellKey) → IsDecider dim c v z → P z (slot_at s (position dim (corner_above c v) z))
  slot_right P says z decider = subst (SaysAbove P) own says (position dim (corner_above c v) z) z (position_below dim (corner_above c v) z decider.touches) (at_position dim (corner_above c v) z decider.cell decider.touches)

  tell_all : (P : CellKey → Slot → Type 0) → SaysOfCells dim s P → ((q : CellKey) (x : Slot) → IsDecider dim c v q → P q x → slot_tells after x ≡ true) → AllAllow dim c v s after (corners dim)
  tell_all P says use_it = λ k below. by_case k below (adjacent_of dim (corner_above c v) k) refl
    where
      by_case : (k : ℕ) → k < corners dim → (o : Option CellKey) → adjacent_of dim (corner_above c v) k ≡ o → IfSome o (λ q. IsDecider dim c v q → slot_tells after (slot_at s k) ≡ true)
      by_case k below None e = tt
      by_case k below (Some q) e = λ decider. use_it q (slot_at s k) decider (subst (SaysAbove P) own says k q below e)

-- a cell that is refined in the next grid is a cell of the old one
pub next_had : (depth : ℕ) (dim : Dim) (old new : Spacetree) (q : CellKey) → AreOldAndNew depth dim old new → is_refined new q ≡ true → has_cell old q ≡ true
next_had depth dim old new q g h = ⊎_elim
    (λ same. refined_there depth old q g.grid (subst (λ (t : Spacetree). is_refined t q ≡ true) same h))
    (λ made. ⊎_elim (λ s. leaf_there old q s.leaf) (λ kept. refined_there depth old q g.grid kept.0) ((made.1.refined q).0 h))
    g.step

pub next_dim : (depth : ℕ) (dim : Dim) (old new : Spacetree) → AreOldAndNew depth dim old new → new.dim ≡ dim
next_dim depth dim old new g = ⊎_elim
    (λ same. ap (λ (t : Spacetree). t.dim) same ∙ g.old_dim)
    (λ made. made.1.dim ∙ g.old_dim)
    g.step

-- what is refined in one of two grids shows that the corner above is stored in the old one
module _ (depth : ℕ) (dim : Dim) (old new : Spacetree) (c : CellKey) (v : VertexKey) (cell : IsCell dim c) (vertex : IsVertex dim v) (holds : HoldsVertex c v) (grids : AreOldAndNew depth dim old new) where
  -- the cells that decide are refined
  abbrev Decide : Spacetree → Type 0
  Decide t = (z : CellKey) → IsDecider dim c v z → is_refined t z ≡ true

  new_dim : new.dim ≡ dim
  new_dim = next_dim depth dim old new grids

  stored_by : (t : Spacetree) → t.dim ≡ dim → Decide t → IsStored t v
  stored_by t e f = refined_stored t c v holds (λ z decider. f z (subst (λ d. IsDecider d c v z) e decider))

  decide_by : (t : Spacetree) → t.dim ≡ dim → IsStored t v → Decide t
  decide_by t e f = λ z decider. stored_refined t c v (subst (λ d. IsVertex d v) (sym e) vertex) holds f z (subst (λ d. IsDecider d c v z) (sym e) decider)

  had : (z : CellKey) → is_refined new z ≡ true → has_cell old z ≡ true
  had z h = next_had depth dim old new z grids h

  above_from : ((z : CellKey) → IsDecider dim c v z → has_cell old z ≡ true) → IsStored old (corner_above c v)
  above_from f = there_stored old c v (subst (λ d. IsCell d c) (sym grids.old_dim) cell) holds (λ z decider. f z (subst (λ d. IsDecider d c v z) grids.old_dim decider))

  above_of_old : Decide old → IsStored old (corner_above c v)
  above_of_old f = above_from (λ z decider. refined_there depth old z grids.grid (f z decider))

  above_of_new : Decide new → IsStored old (corner_above c v)
  above_of_new f = above_from (λ z decider. had z (f z decider))

  pub stored_above : (after : Bool) → IsStoredIn after (Some old) new v → IsStored old (corner_above c v)
  stored_above false stored = above_of_old (decide_by old grids.old_dim stored)
  stored_above true stored = above_of_new (decide_by new new_dim stored)

  module _ (s : VertexRecord) (own : s.key ≡ corner_above c v) where
    -- where all slots tell of refined cells, the corner above is stored in the old grid
    above_of_told : (after : Bool) → HasSlots dim (Some old) new after (corner_above c v) s → AllAllow dim c v s after (corners dim) → IsStored old (corner_above c v)
    above_of_told after has all = stored_stable old (corner_above c v) (λ not_stored. not_stored (above_of_new (λ z decider.
        let slot = slot_right dim c v s after own (IsNewSlot new) (has.2 not_stored) z decider in
        slot.refined (stays_refined after _ _ slot.stay (told dim c v s after own all z decider)))))

    pub told_stored : (after : Bool) → HasSlots dim (Some old) new after (corner_above c v) s → AllAllow dim c v s after (corners dim) → IsStoredIn after (Some old) new v
    told_stored false has all = stored_by old grids.old_dim (λ z decider.
        let slot = slot_right dim c v s false own (IsOldSlot old new false) (has.1 (above_of_told false has all)) z decider in
        sym (slot_tells_old old new false z _ slot) ∙ told dim c v s false own all z decider)
    told_stored true has all = stored_by new new_dim (λ z decider.
        let slot = slot_right dim c v s true own (IsOldSlot old new true) (has.1 (above_of_told true has all)) z decider in
        sym (slot_tells_new old new z _ (had z) slot) ∙ told dim c v s true own all z decider)

    pub stored_told : (after : Bool) → HasSlots dim (Some old) new after (corner_above c v) s → IsStoredIn after (Some old) new v → AllAllow dim c v s after (corners dim)
    stored_told false has stored =
        let refined = decide_by old grids.old_dim stored in
        tell_all dim c v s false own (IsOldSlot old new false) (has.1 (above_of_old refined)) (λ q x decider slot. slot_tells_old old new false q x slot ∙ refined q decider)
    stored_told true has stored =
        let refined = decide_by new new_dim stored in
        tell_all dim c v s true own (IsOldSlot old new true) (has.1 (above_of_new refined)) (λ q x decider slot. slot_tells_new old new q x (had q) slot ∙ refined q decider)

-- a corner that is a vertex decides by its slots
pub vertex_law : (depth : ℕ) (dim : Dim) (old : Option Spacetree) (new : Spacetree) (after : Bool) (c : CellKey) (v : VertexKey) (s : VertexRecord) → IsCell dim c → IsVertex dim v → HoldsVertex c v → AreGrids depth dim old new after → s.key ≡ corner_above c v → HasSlots dim old new after (corner_above c v) s → AllAllow dim c v s after (corners dim) ↔ IsStoredIn after old new v
vertex_law depth dim (Some old) new after c v s cell vertex holds grids own has = (told_stored depth dim old new c v cell vertex holds grids s own after has, stored_told depth dim old new c v cell vertex holds grids s own after has)
vertex_law depth dim None new false c v s cell vertex holds grids own has = absurd (false≢true grids.0)
vertex_law depth dim None new true c v s cell vertex holds grids own has = (
  λ all. refined_stored new c v holds (λ z decider_new. let decider = subst (λ d. IsDecider d c v z) grids.1 decider_new in
      let slot = slot_right dim c v s true own (IsFirstSlot new) has.1 z decider in
      slot.refined.0 (stays_refined true _ _ slot.stay (told dim c v s true own all z decider))),
  λ stored. tell_all dim c v s true own (IsFirstSlot new) has.1 (λ q x decider slot.
      let refined = stored_refined new c v (subst (λ d. IsVertex d v) (sym grids.1) vertex) holds stored q (subst (λ d. IsDecider d c v q) (sym grids.1) decider) in
      subst (λ i. tells_refined true i x.status ≡ true) (sym slot.stay) (says_is x.status (slot.refined.1 refined))),
)

-- a corner that hangs decides that nothing is stored
pub hanging_law : (depth : ℕ) (dim : Dim) (old : Option Spacetree) (new : Spacetree) (after : Bool) (c : CellKey) (v : VertexKey) → IsCell dim c → IsVertex dim v → HoldsVertex c v → AreGrids depth dim old new after → ¬ IsStoredBefore old (corner_above c v) → ¬ IsStored new (corner_above c v) → ¬ IsStoredIn after old new v
hanging_law depth dim (Some old) new after c v cell vertex holds grids no_old no_new = λ stored. no_old (stored_above depth dim old new c v cell vertex holds grids after stored)
hanging_law depth dim None new false c v cell vertex holds grids no_old no_new = absurd (false≢true grids.0)
hanging_law depth dim None new true c v cell vertex holds grids no_old no_new = λ stored.
    no_new (there_stored new c v (subst (λ d. IsCell d c) (sym grids.1) cell) holds (λ z decider. refined_there depth new z grids.2 (stored_refined new c v (subst (λ d. IsVertex d v) (sym grids.1) vertex) holds stored z decider)))

-- what a view shows at the corner above
shown : (dim : Dim) (old : Option Spacetree) (new : Spacetree) (after : Bool) (view : CellView) (v : VertexKey) (n : ℕ) → n < corners dim → corner_of view.key n ≡ corner_above view.key v → Shows dim old new after view → IsShown dim old new after (corner_above view.key v) (corner_at view n)
shown dim old new after view v n below same shows = subst (λ w. IsShown dim old new after w (corner_at view n)) same (shows n below)

pub shown_vertex : (dim : Dim) (old : Option Spacetree) (new : Spacetree) (after : Bool) (view : CellView) (v : VertexKey) (n : ℕ) (s : VertexRecord) → n < corners dim → corner_of view.key n ≡ corner_above view.key v → corner_at view n ≡ Vertex s → Shows dim old new after view → (s.key ≡ corner_above view.key v) × HasSlots dim old new after (corner_above view.key v) s
shown_vertex dim old new after view v n s below same is shows = subst (IsShown dim old new after (corner_above view.key v)) is (shown dim old new after view v n below same shows)

no_vertex : (dim : Dim) (old : Option Spacetree) (new : Spacetree) (after : Bool) (w : VertexKey) (o : Corner) → ((s : VertexRecord) → o ≡ Vertex s → ⊥) → IsShown dim old new after w o → (¬ IsStoredBefore old w) × (¬ IsStored new w)
no_vertex dim old new after w (Vertex s) other is = absurd (other s refl)
no_vertex dim old new after w (Hanging k) other is = (is.1, is.2)
no_vertex dim old new after w Beyond other is = absurd is

pub shown_other : (dim : Dim) (old : Option Spacetree) (new : Spacetree) (after : Bool) (view : CellView) (v : VertexKey) (n : ℕ) → n < corners dim → corner_of view.key n ≡ corner_above view.key v → ((s : VertexRecord) → corner_at view n ≡ Vertex s → ⊥) → Shows dim old new after view → (¬ IsStoredBefore old (corner_above view.key v)) × (¬ IsStored new (corner_above view.key v))
shown_other dim old new after view v n below same other shows = no_vertex dim old new after (corner_above view.key v) (corner_at view n) other (shown dim old new after view v n below same shows)
