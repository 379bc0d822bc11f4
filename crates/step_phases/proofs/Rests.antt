-- Stores at rest: they stand for one grid, and there are some for each.
use Rattle.std.proofs.Common.{◌≡◌, ℕ, zero, suc, ◌<◌, ◌==◌, ◌||◌, Bool, true, false, refl, sym, ap, subst, ◌∙◌, arith, List, [], ◌∷◌, map, Option, Some, None}
use Rattle.std.specs.Prelude.{slice_index_or}
use Rattle.std.proofs.lemmas.Bool.Decides.{nat_tests}
use Rattle.peano_keys.specs.declared.cell.CellKey.{CellKey}
use Rattle.peano_keys.specs.declared.state.State.{State}
use Rattle.peano_keys.specs.declared.vertex.VertexKey.{VertexKey}
use Rattle.peano_keys.specs.declared.side.Mark.TheVariants.{Keep}
use Rattle.peano_keys.specs.Cell.{IsCell, parent_of}
use Rattle.peano_keys.specs.Vertex.{adjacent_of}
use Rattle.peano_keys.specs.Grid.{Spacetree, is_refined, has_cell}
use Rattle.peano_records.specs.declared.slot.Slot.{Slot}
use Rattle.peano_records.specs.declared.slot.Status.TheVariants.{Outside}
use Rattle.peano_records.specs.declared.slot.Intent.TheVariants.{Stay}
use Rattle.peano_records.specs.Slots.{blank, slot_at}
use Rattle.peano_records.specs.AtRest.{status_of}
use Rattle.peano_records.specs.Tells.{says_refined}
use Rattle.peano_records.proofs.Intents.{below_eight}
use Rattle.hanging_nodes.proofs.OneGrid.{there_by_parent, parent_is_cell}
use Rattle.hanging_nodes.proofs.TwoGrids.{refined_there}
use Rattle.curve_cuts.specs.Cuts.{Cuts, IsCutGrid}
use Rattle.step_phases.specs.Stores.{Stores, AllSay}
use Rattle.step_phases.specs.Phases.{AtRest}
use Rattle.step_phases.specs.StoreLaws.{IsSameCell, RestIsOne, RestExists, HomesShowValues}
use Rattle.curve_cuts.proofs.Cuts.{owner_exists, owner_holds}
use Rattle.step_phases.proofs.Grids.{level_in}
use Rattle.step_phases.proofs.Homes.{home_says}

told : (b : Bool) → says_refined (status_of b) ≡ b
told true = refl
told false = refl

module _ (k : Cuts) (g h : Spacetree) (f e : CellKey → State) (stores : Stores) (fits : IsCutGrid k g) (other : IsCutGrid k h) (all : AllSay k g (λ t. AtRest g f) stores) (also : AllSay k h (λ t. AtRest h e) stores) where
  same_at : (c : CellKey) → IsCell k.dim c → has_cell g c ≡ true → has_cell h c ≡ true → IsSameCell g h f e c
  same_at c cell here there =
      let owner = owner_exists k c fits.cuts cell (level_in k g c fits here) in
      let held = owner_holds k owner.0 c owner.1 in
      let a = home_says k g (AtRest g f) (stores owner.0) owner.0 c fits (all owner.0) owner.1.tree cell held here in
      let b = home_says k h (AtRest h e) (stores owner.0) owner.0 c other (also owner.0) owner.1.tree cell held there in
      record {
        there = there;
        refined = sym (told (is_refined g c)) ∙ ap says_refined (sym a.status ∙ b.status) ∙ told (is_refined h c);
        value = sym a.value ∙ b.value;
      }

  same_from : (n : ℕ) (c : CellKey) → c.level ≡ n → IsCell k.dim c → has_cell g c ≡ true → IsSameCell g h f e c
  same_from zero c level cell here =
      let root : (c.level == 0) ≡ true = grind (arith, nat_tests, level) in
      same_at c cell here (ap (λ b. b || is_refined h (parent_of c)) root)
  same_from (suc n) c level cell here =
      let below : 0 < c.level = omega (arith, level) in
      let up = (sym (there_by_parent g c below) ∙ here) in
      let p = same_from n (parent_of c) (omega (arith, level)) (parent_is_cell k.dim c cell below) (refined_there k.depth g (parent_of c) fits.grid up) in
      same_at c cell here (there_by_parent h c below ∙ sym p.refined ∙ up)

pub rest_is_one : RestIsOne
rest_is_one k g h f e stores fits other all also c cell here = same_from k g h f e stores fits other all also c.level c refl cell here

pub homes_show_values : HomesShowValues
homes_show_values k g f store t c fits all owns cell there = (home_says k g (AtRest g f) store t c fits all owns.tree cell (owner_holds k t c owns) there).value

-- the places of eight things
abbrev eight : {A : Type 0} → (ℕ → A) → List A
eight f = map f (0 ∷ 1 ∷ 2 ∷ 3 ∷ 4 ∷ 5 ∷ 6 ∷ 7 ∷ [])

eight_at : {A : Type 0} (f : ℕ → A) (d : A) (n : ℕ) → n < 8 → slice_index_or (eight f) n d ≡ f n
eight_at f d zero h = refl
eight_at f d (suc zero) h = refl
eight_at f d (suc (suc zero)) h = refl
eight_at f d (suc (suc (suc zero))) h = refl
eight_at f d (suc (suc (suc (suc zero)))) h = refl
eight_at f d (suc (suc (suc (suc (suc zero))))) h = refl
eight_at f d (suc (suc (suc (suc (suc (suc zero)))))) h = refl
eight_at f d (suc (suc (suc (suc (suc (suc (suc zero))))))) h = refl
eight_at f d (suc (suc (suc (suc (suc (suc (suc (suc n)))))))) h = absurd (omega (arith, h))

module _ (k : Cuts) (g : Spacetree) (f : CellKey → State) where
  abbrev said : Option CellKey → Slot
  said None = blank Outside
  said (Some c) = record { status = status_of (is_refined g c); value = f c; next = f c; mark = Keep; intent = Stay }

  stays : (o : Option CellKey) → (said o).intent ≡ Stay
  stays None = refl
  stays (Some c) = refl

  abbrev made : Stores
  made t v = record { key = v; slots = eight (λ n. said (adjacent_of k.dim v n)) }

  made_at : (t : ℕ) (v : VertexKey) (n : ℕ) → n < 8 → slot_at (made t v) n ≡ said (adjacent_of k.dim v n)
  made_at t v n h = eight_at (λ n. said (adjacent_of k.dim v n)) _ n h

  made_rests : AllSay k g (λ t. AtRest g f) made
  made_rests t v has = record {
    key = refl;
    eight = refl;
    outside = λ n below at. ap (λ (s : Slot). s.status) (made_at t v n (below_eight k.dim n below) ∙ ap said at);
    inside = λ n c below at. subst (AtRest g f c) (sym (made_at t v n (below_eight k.dim n below) ∙ ap said at)) (record { status = refl; value = refl; stay = refl });
    idle = λ n below at. ap (λ (s : Slot). s.intent) (made_at t v n (below_eight k.dim n below)) ∙ stays (adjacent_of k.dim v n);
    unused = λ n low high. ap (λ (s : Slot). s.intent) (made_at t v n high) ∙ stays (adjacent_of k.dim v n);
  }

pub rest_exists : RestExists
rest_exists k g f = (made k g f, made_rests k g f)
