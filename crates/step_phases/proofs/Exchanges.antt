-- What exchanges do to what slots say.
use Rattle.std.proofs.Common.{◌≡◌, ℕ, Bool, true, false, refl, sym, ap, subst, ◌∙◌, Option, Some, None}
use Rattle.peano_keys.specs.declared.cell.CellKey.{CellKey}
use Rattle.peano_keys.specs.declared.vertex.VertexKey.{VertexKey}
use Rattle.peano_keys.specs.Vertex.{adjacent_of}
use Rattle.peano_keys.specs.Cell.{IsCell}
use Rattle.peano_keys.specs.Grid.{Spacetree, is_refined, has_cell}
use Rattle.peano_records.specs.declared.slot.Slot.{Slot}
use Rattle.peano_records.specs.declared.slot.Intent.TheVariants.{Stay}
use Rattle.peano_records.specs.Slots.{slot_at}
use Rattle.peano_records.specs.AtRest.{status_of, intent_between}
use Rattle.step_phases.specs.declared.phase.Phase.{Phase}
use Rattle.step_phases.specs.declared.phase.Phase.TheVariants.{First, Second, Third, Opening}
use Rattle.curve_cuts.specs.Cuts.{Cuts, Owns, HasVertex, IsCutGrid}
use Rattle.curve_cuts.specs.Enclave.{IsSkeleton}
use Rattle.curve_cuts.proofs.Cuts.{owner_is_one}
use Rattle.step_phases.specs.Stores.{Stores, AllSay}
use Rattle.step_phases.specs.Change.{Change, IsChange, carrier}
use Rattle.step_phases.specs.Phases.{AtRest, HasOwn, AfterPrimary, AfterFirst, AfterSecondary, AfterSecond, AfterAdapt}
use Rattle.step_phases.specs.Exchange.{exchanged, finished, IsExchanged, AgreeBefore, AgreeAfter}
use Rattle.step_phases.specs.ExchangeLaws.{OwnerHasVertex, ExchangeAgrees, OpeningRests, FirstExchange, SecondExchange, ThirdExchange, SecondRests}
use Rattle.step_phases.proofs.Grids.{owner_has, owner_of, cell_round, at_position_is}

pub owner_has_vertex : OwnerHasVertex
owner_has_vertex k g t o n v q has below at owns = owner_has k g t o n v q has at owns

-- a phase's last act keeps a status, and that nothing is intended
finished_status : (phase : Phase) (s : Slot) → (finished phase s).status ≡ s.status
finished_status First s = refl
finished_status Second s = refl
finished_status Third s = refl
finished_status Opening s = refl

finished_stay : (phase : Phase) (s : Slot) → s.intent ≡ Stay → (finished phase s).intent ≡ Stay
finished_stay First s h = h
finished_stay Second s h = h
finished_stay Third s h = refl
finished_stay Opening s h = refl

-- from what trees say of a cell, its owner's slot makes what all say
module _ (phase : Phase) (k : Cuts) (g : Spacetree) (P : ℕ → CellKey → Slot → Type 0) (Q : CellKey → Slot → Type 0) (fits : IsCutGrid k g) (step : (t o : ℕ) (c : CellKey) (theirs ours : Slot) → Owns k o c → P o c theirs → P t c ours → Q c (exchanged phase theirs ours)) (before after : Stores) (all : AllSay k g P before) (given : IsExchanged phase k g before after) where
  pub exchange_takes : AllSay k g (λ t. Q) after
  exchange_takes t v has =
      let old = all t v has in
      let e = given t v has in
      let there : (n : ℕ) (o : Option CellKey) → adjacent_of k.dim (after t v).key n ≡ o → adjacent_of k.dim v n ≡ o = λ n o h. subst (λ (w : VertexKey). adjacent_of k.dim w n ≡ o) (e.key ∙ old.key) h in
      let back : (s n : ℕ) (o : Option CellKey) → HasVertex k g s v → adjacent_of k.dim v n ≡ o → adjacent_of k.dim (before s v).key n ≡ o = λ s n o h at. subst (λ (w : VertexKey). adjacent_of k.dim w n ≡ o) (sym (all s v h).key) at in
      record {
        key = e.key ∙ old.key;
        eight = e.size ∙ old.eight;
        outside = λ n below at. ap (λ (s : Slot). s.status) (e.outside n below (there n None at)) ∙ finished_status phase (slot_at (before t v) n) ∙ old.outside n below (back t n None has (there n None at));
        inside = λ n c below at.
            let here = there n (Some c) at in
            let owner = owner_of k g t n v c fits has here in
            let theirs = owner_has k g t owner.0 n v c has here owner.1 in
            subst (Q c) (sym (e.inside n owner.0 c below here owner.1)) (step t owner.0 c (slot_at (before owner.0 v) n) (slot_at (before t v) n) owner.1 ((all owner.0 v theirs).inside n c below (back owner.0 n (Some c) theirs here)) (old.inside n c below (back t n (Some c) has here)));
        idle = λ n below at. ap (λ (s : Slot). s.intent) (e.outside n below (there n None at)) ∙ finished_stay phase (slot_at (before t v) n) (old.idle n below (back t n None has (there n None at)));
        unused = λ n low high. ap (λ (s : Slot). s.intent) (e.unused n low high) ∙ finished_stay phase (slot_at (before t v) n) (old.unused n low high);
      }

agree : (phase : Phase) (theirs ours : Slot) → AgreeBefore phase theirs ours → AgreeAfter phase (exchanged phase theirs theirs) (exchanged phase theirs ours)
agree First theirs ours h = (h.0, h.1, refl, refl)
agree Second theirs ours h = (h, refl, refl, refl)
agree Third theirs ours h = (refl, refl)
agree Opening theirs ours h = (refl, refl)

pub exchange_agrees : ExchangeAgrees
exchange_agrees phase k g before after given same t o n v q has below at owns =
    let own = owner_has k g t o n v q has at owns in
    subst (λ s. AgreeAfter phase s (slot_at (after t v) n)) (sym ((given o v own).inside n o q below at owns))
    (subst (λ s. AgreeAfter phase (exchanged phase (slot_at (before o v) n) (slot_at (before o v) n)) s) (sym ((given t v has).inside n o q below at owns))
    (agree phase (slot_at (before o v) n) (slot_at (before t v) n) (same t o n v q has below at owns)))

pub opening_rests : OpeningRests
opening_rests k g f before after fits all given = exchange_takes Opening k g (HasOwn k g f) (AtRest g f) fits (λ t o c theirs ours owns a b. record { status = a.status owns; value = a.value owns; stay = refl }) before after all given

pub first_exchange : FirstExchange
first_exchange k w before after fits all given = exchange_takes First k w.old (AfterPrimary k w) (AfterFirst k w) fits (λ t o c theirs ours owns a b. record { rest = record { status = b.rest.status; value = b.rest.value; stay = b.rest.stay }; mark = a.mark owns; next = λ s skeleton. a.next (subst (λ n. IsSkeleton k w.old n c) (owner_is_one k s o c fits.cuts skeleton.0.owns owns) skeleton) }) before after all given

pub second_exchange : SecondExchange
second_exchange k w before after fits all given = exchange_takes Second k w.old (AfterSecondary k w) (AfterSecond w) fits (λ t o c theirs ours owns a b. record { status = b.status; intent = a.intent owns; value = a.next owns }) before after all given

pub third_exchange : ThirdExchange
third_exchange k w before after fits all given = exchange_takes Third k w.new (AfterAdapt k w) (AtRest w.new w.last) fits (λ t o c theirs ours owns a b. record { status = a.status owns; value = a.value owns; stay = refl }) before after all given

no_change : (b : Bool) → intent_between b b ≡ Stay
no_change true = refl
no_change false = refl

carried_here : (g : Spacetree) (c : CellKey) → has_cell g c ≡ true → carrier g c ≡ c
carried_here g c h = rw h refl

rest_again : (k : Cuts) (w : Change) (stores : Stores) → IsCutGrid k w.old → IsChange w → (c : CellKey) → w.new ≡ w.old → (s : Slot) → IsCell w.old.dim c → has_cell w.old c ≡ true → AfterSecond w c s → AtRest w.new w.last c s
rest_again k w stores fits change c same s cell there h = record {
  status = h.status ∙ ap (λ (g : Spacetree). status_of (is_refined g c)) (sym same);
  value = h.value (w.last c) (ap w.next (sym (carried_here w.old c there)) ∙ change.values c cell (ap (λ (g : Spacetree). has_cell g c) same ∙ there));
  stay = h.intent ∙ ap (λ (g : Spacetree). intent_between (is_refined w.old c) (is_refined g c)) same ∙ no_change (is_refined w.old c);
}

pub second_rests : SecondRests
second_rests k w stores fits change same all = λ t v has.
    let before : HasVertex k w.old t v = subst (λ g. HasVertex k g t v) same has in
    let old = all t v before in
    record {
      key = old.key;
      eight = old.eight;
      outside = old.outside;
      inside = λ n c below at.
          let here = subst (λ (u : VertexKey). adjacent_of k.dim u n ≡ Some c) old.key at in
          rest_again k w stores fits change c same (slot_at (stores t v) n) (subst (λ d. IsCell d c) (sym fits.dim) (at_position_is k.dim v n c before.vertex here).0) (cell_round k w.old t n v c fits before here) (old.inside n c below at);
      idle = old.idle;
      unused = old.unused;
    }
