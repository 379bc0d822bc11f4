-- What an exchange between all trees does.
use Rattle.std.proofs.Common.{◌≡◌, ◌≢◌, ⊎_elim, ℕ, ◌<◌, Option, Some, None, refl, sym, ap, subst, ◌∙◌, arith}
use Rattle.std.proofs.lemmas.Bool.{cases_eq, cases_lt}
use Rattle.peano_keys.specs.declared.cell.CellKey.{CellKey}
use Rattle.peano_keys.specs.declared.vertex.VertexKey.{VertexKey}
use Rattle.peano_keys.specs.declared.dim.Dim.{Dim}
use Rattle.peano_keys.specs.declared.dim.Dim.TheVariants.{Two, Three}
use Rattle.peano_keys.specs.Dim.{corners}
use Rattle.peano_keys.specs.Vertex.{adjacent_of}
use Rattle.peano_keys.specs.Grid.{Spacetree}
use Rattle.peano_records.specs.declared.slot.Slot.{Slot}
use Rattle.peano_records.specs.declared.stored.Parcel.{Parcel}
use Rattle.peano_records.specs.Slots.{VertexRecord, slot_at}
use Rattle.curve_cuts.specs.Cuts.{Cuts, Owns, HasVertex, IsCutGrid}
use Rattle.curve_cuts.proofs.Cuts.{owner_is_one}
use Rattle.step_phases.specs.declared.phase.Phase.{Phase}
use Rattle.step_phases.specs.declared.phase.Phase.TheVariants.{First, Second, Third, Opening}
use Rattle.step_phases.specs.Exchange.{overwritten, finished, exchanged, IsExchangedRecord}
use Rattle.step_phases.proofs.Grids.{owner_has, owner_of}
use Rattle.step_phases.proofs.Exchanges as phases
use Rattle.tree_automaton.specs.TreeLists.{TreeLists}
use Rattle.sweep_streams.proofs.Once.{from_map}
use Rattle.tree_automaton.specs.Sweeps.{key_of}
use Rattle.boundary_streams.specs.Sent.{sent_to}
use Rattle.boundary_streams.specs.Trees.{HoldsVertices, copies_of}
use Rattle.boundary_streams.specs.Merges.{OwnsSlot, taken, IsMergedRecord}
use Rattle.boundary_streams.specs.Exchanges.{IsExchange}
use Rattle.boundary_streams.specs.Laws.{ExchangeTakesOwners, WhenSentIsFree, CopiesAgree, OpeningRests, FirstSpreads, SecondSpreads, ThirdRests}
use Rattle.boundary_streams.proofs.Stored.{holds_still}
use Rattle.boundary_streams.proofs.Found.{related_copies, mail_is}
use Rattle.swept_slots.proofs.Copies.{copy_of}

overwritten_self : (phase : Phase) (s : Slot) → overwritten phase s s ≡ s
overwritten_self First s = refl
overwritten_self Second s = refl
overwritten_self Third s = refl
overwritten_self Opening s = refl

-- what a phase takes from an owner's slot it leaves there
overwritten_finished : (phase : Phase) (theirs ours : Slot) → overwritten phase (finished phase theirs) ours ≡ overwritten phase theirs ours
overwritten_finished First theirs ours = refl
overwritten_finished Second theirs ours = refl
overwritten_finished Third theirs ours = refl
overwritten_finished Opening theirs ours = refl

same_cell : (o : Option CellKey) (a b : CellKey) → o ≡ Some a → o ≡ Some b → a ≡ b
same_cell o a b e h = cc

none_at : (o : Option CellKey) (c : CellKey) → o ≡ None → o ≡ Some c → ⊥
none_at o c e h = cc

within : (dim : Dim) (n : ℕ) → n < corners dim → n < 8
within Two n h = omega (arith, h)
within Three n h = omega (arith, h)

module _ (phase : Phase) (k : Cuts) (g : Spacetree) (before after : ℕ → TreeLists) (fits : IsCutGrid k g) (e : IsExchange phase k g before after) where
  had : (t : ℕ) → t < k.trees → HoldsVertices k g t (before t)
  had = e.holds

  has : (t : ℕ) → t < k.trees → HoldsVertices k g t (after t)
  has t tree = (let m = e.merges t tree in holds_still phase k (sent_to m.boxes t) (before t) (after t) m.merged g t (had t tree))

  copy_key : (t : ℕ) (v : VertexKey) → HasVertex k g t v → (copies_of before t v).key ≡ v
  copy_key t v h =
      let hold = had t h.corner.tree in
      let r = from_map key_of v (before t).lanes.input ((hold.members v).1 h) in
      ap (λ (s : VertexRecord). s.key) (copy_of (before t).lanes.input hold.distinct v r.0 (sym r.2) r.1) ∙ sym r.2

  merged_copy : (t : ℕ) (v : VertexKey) (h : HasVertex k g t v) → IsMergedRecord phase k (sent_to (e.merges t h.corner.tree).boxes t) t (copies_of before t v) (copies_of after t v)
  merged_copy t v h =
      let m = e.merges t h.corner.tree in
      let hold = had t h.corner.tree in
      subst (λ s. IsMergedRecord phase k (sent_to m.boxes t) s (copies_of before t v) (copies_of after t v)) hold.tree
      (related_copies (IsMergedRecord phase k (sent_to m.boxes t) (before t).tree) (λ x y r. r.key) v (before t).lanes.input (after t).lanes.input m.merged.count m.merged.records ((hold.members v).1 h))

  -- whose slot it is
  owners_are : (t n : ℕ) (v w : VertexKey) (q : CellKey) → w ≡ v → adjacent_of k.dim v n ≡ Some q → Owns k t q → (s : ℕ) → OwnsSlot k s w n → s ≡ t
  owners_are t n v w q same at owns s own =
      let cell : own.cell ≡ q = same_cell (adjacent_of k.dim v n) own.cell q (ap (λ (u : VertexKey). adjacent_of k.dim u n) (sym same) ∙ own.at) at in
      owner_is_one k s t q fits.cuts (subst (Owns k s) cell own.owns) owns

  own_slot : (t n : ℕ) (v : VertexKey) (q : CellKey) → HasVertex k g t v → n < 8 → adjacent_of k.dim v n ≡ Some q → Owns k t q → slot_at (copies_of after t v) n ≡ finished phase (slot_at (copies_of before t v) n)
  own_slot t n v q h below at owns = (merged_copy t v h).own n below (owners_are t n v (copies_of before t v).key q (copy_key t v h) at owns)

  -- the fields that a phase takes are those of the owner's slot before its own merge
  taken_is : (t o n : ℕ) (v : VertexKey) (q : CellKey) (ours : Slot) (h : HasVertex k g t v) → n < 8 → adjacent_of k.dim v n ≡ Some q → Owns k o q → o ≢ t → taken phase n (sent_to (e.merges t h.corner.tree).boxes t o v) ours ≡ overwritten phase (slot_at (copies_of before o v) n) ours
  taken_is t o n v q ours h below at owns apart =
      let m = e.merges t h.corner.tree in
      let theirs : HasVertex k g o v = owner_has k g t o n v q h at owns in
      let found = mail_is k g before after o t m.boxes v (had o theirs.corner.tree) (has o theirs.corner.tree) m.are_boxes theirs h (λ f. apart (sym f)) in
      ap (λ (x : Option Parcel). taken phase n x ours) found.1
      ∙ ⊎_elim
      (λ f. ap (λ (p : Parcel). overwritten phase (slot_at (record { key = p.key; slots = p.slots }) n) ours) f)
      (λ f.
      ap (λ (p : Parcel). overwritten phase (slot_at (record { key = p.key; slots = p.slots }) n) ours) f
      ∙ ap (λ s. overwritten phase s ours) (own_slot o n v q theirs below at owns)
      ∙ overwritten_finished phase (slot_at (copies_of before o v) n) ours)
      found.2

  pub exchanged_copy : (t : ℕ) (v : VertexKey) → HasVertex k g t v → IsExchangedRecord phase k (copies_of before) v (copies_of before t v) (copies_of after t v)
  exchanged_copy t v h =
      let m = merged_copy t v h in
      let key = copy_key t v h in
      let none : (n : ℕ) → ((c : CellKey) → n < corners k.dim → adjacent_of k.dim v n ≡ Some c → ⊥) → (s : ℕ) → OwnsSlot k s (copies_of before t v).key n → s ≡ t = λ n no s own. absurd (no own.cell own.below (ap (λ (u : VertexKey). adjacent_of k.dim u n) (sym key) ∙ own.at)) in
      record {
        key = m.key;
        size = m.size;
        inside = λ n o q below at owns.
            let small : n < 8 = within k.dim n below in
            ⊎_elim
            (λ same.
            own_slot t n v q h small at (subst (λ s. Owns k s q) same owns)
            ∙ ap (finished phase) (sym (overwritten_self phase (slot_at (copies_of before t v) n)))
            ∙ ap (λ s. exchanged phase (slot_at (copies_of before s v) n) (slot_at (copies_of before t v) n)) (sym same))
            (λ apart.
            let there : adjacent_of k.dim (copies_of before t v).key n ≡ Some q = ap (λ (u : VertexKey). adjacent_of k.dim u n) key ∙ at in
            m.others n o (record { cell = q; below = below; at = there; owns = owns }) apart
            ∙ ap (λ (u : VertexKey). finished phase (taken phase n (sent_to (e.merges t h.corner.tree).boxes t o u) (slot_at (copies_of before t v) n))) key
            ∙ ap (finished phase) (taken_is t o n v q (slot_at (copies_of before t v) n) h small at owns apart))
            (cases_eq o t);
        outside = λ n below out. m.own n (within k.dim n below) (none n (λ c b at. none_at (adjacent_of k.dim v n) c out at));
        unused = λ n high below. m.own n below (none n (λ c b at. absurd (omega (arith, high, b))));
      }

pub exchange_takes_owners : ExchangeTakesOwners
exchange_takes_owners phase k g before after fits e t v h = exchanged_copy phase k g before after fits e t v h

pub when_sent_is_free : WhenSentIsFree
when_sent_is_free phase k g before one other fits e f t n v h below =
    let a = exchanged_copy phase k g before one fits e t v h in
    let b = exchanged_copy phase k g before other fits f t v h in
    ⊎_elim
    (λ used. by phase k g before one other fits t n v h used a b (adjacent_of k.dim v n) refl)
    (λ high. a.unused n high below ∙ sym (b.unused n high below))
    (cases_lt n (corners k.dim))
  where
    by : (phase : Phase) (k : Cuts) (g : Spacetree) (before one other : ℕ → TreeLists) → IsCutGrid k g → (t n : ℕ) (v : VertexKey) → HasVertex k g t v → n < corners k.dim → IsExchangedRecord phase k (copies_of before) v (copies_of before t v) (copies_of one t v) → IsExchangedRecord phase k (copies_of before) v (copies_of before t v) (copies_of other t v) → (c : Option CellKey) → adjacent_of k.dim v n ≡ c → slot_at (copies_of one t v) n ≡ slot_at (copies_of other t v) n
    by phase k g before one other fits t n v h used a b None at = a.outside n used at ∙ sym (b.outside n used at)
    by phase k g before one other fits t n v h used a b (Some q) at = (let o = owner_of k g t n v q fits h at in a.inside n o.0 q used at o.1 ∙ sym (b.inside n o.0 q used at o.1))

pub copies_agree : CopiesAgree
copies_agree phase k g before after fits e same = phases.exchange_agrees phase k g (copies_of before) (copies_of after) (exchange_takes_owners phase k g before after fits e) same

pub opening_rests : OpeningRests
opening_rests k g f before after fits e own = phases.opening_rests k g f (copies_of before) (copies_of after) fits own (exchange_takes_owners Opening k g before after fits e)

pub first_spreads : FirstSpreads
first_spreads k w before after fits e own = phases.first_exchange k w (copies_of before) (copies_of after) fits own (exchange_takes_owners First k w.old before after fits e)

pub second_spreads : SecondSpreads
second_spreads k w before after fits e own = phases.second_exchange k w (copies_of before) (copies_of after) fits own (exchange_takes_owners Second k w.old before after fits e)

pub third_rests : ThirdRests
third_rests k w before after fits e own = phases.third_exchange k w (copies_of before) (copies_of after) fits own (exchange_takes_owners Third k w.new before after fits e)
