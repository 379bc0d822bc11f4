-- A store of which the first records are changed.
use Rattle.std.proofs.Common.{◌≡◌, ◌≢◌, ⊎_elim, ℕ, ◌+◌, ◌<◌, ◌≤◌, length, get_or, arith, refl, sym, ap, subst, ◌∙◌}
use Rattle.std.specs.Prelude.{List, All, slice_index_or, slice_set}
use Rattle.std.proofs.lemmas.Bool.{cases_eq, cases_lt}
use Rattle.std.proofs.lemmas.List.{get_or-set_same, get_or-set_other, length-set}
use Rattle.peano_keys.specs.declared.dim.Dim.{Dim}
use Rattle.peano_keys.specs.Vertex.{IsVertex}
use Rattle.peano_records.specs.declared.stored.Stored.{Stored}
use Rattle.peano_records.specs.declared.slot.Slot.{Slot}
use Rattle.peano_records.specs.Slots.{VertexRecord, slot_at}
use Rattle.tree_automaton.specs.TreeLists.{TreeLists}
use Rattle.shared_sums.specs.declared.adding.Means.{Means}
use Rattle.shared_sums.specs.Records.{changed_slot, IsRecordBy, IsPlaceBy, IsStoreBy}

pub record IsStoreByUpTo (dim : Dim) (ms : List Means) (old new : TreeLists) (m : ℕ) : Type 0 where
  pub rest : new ≡ record old { lanes = record old.lanes { input = new.lanes.input } }
  pub count : length new.lanes.input ≡ length old.lanes.input
  pub done : (i : ℕ) (d : VertexRecord) → i < m → IsRecordBy dim ms (slice_index_or old.lanes.input i d) (slice_index_or new.lanes.input i d)
  pub same : (i : ℕ) (d : VertexRecord) → m ≤ i → slice_index_or new.lanes.input i d ≡ slice_index_or old.lanes.input i d

pub begun_store : (dim : Dim) (ms : List Means) (s : TreeLists) → IsStoreByUpTo dim ms s s 0
begun_store dim ms s = record { rest = refl; count = refl; done = λ i d below. absurd (omega (arith, below)); same = λ i d above. refl }

-- one more record
pub one_more_record : (dim : Dim) (ms : List Means) (old mid new : TreeLists) (m : ℕ) → m < length old.lanes.input → IsStoreByUpTo dim ms old mid m → IsPlaceBy dim ms m mid new → IsStoreByUpTo dim ms old new (m + 1)
one_more_record dim ms old mid new m inside h step =
    let input : new.lanes.input ≡ slice_set mid.lanes.input m step.next = ap (λ (s : TreeLists). s.lanes.input) step.rest in
    let here : m < length mid.lanes.input = omega (arith, inside, h.count) in
    record {
      rest = step.rest
          ∙ ap (λ (s : TreeLists). record s { lanes = record s.lanes { input = slice_set mid.lanes.input m step.next } }) h.rest
          ∙ ap (λ xs. record old { lanes = record old.lanes { input = xs } }) (sym input);
      count = ap length input ∙ length-set mid.lanes.input m step.next ∙ h.count;
      done = λ i d below. ⊎_elim
          (λ e.
          let read : get_or new.lanes.input i d ≡ step.next = ap (λ j. get_or new.lanes.input j d) e ∙ ap (λ xs. get_or xs m d) input ∙ get_or-set_same mid.lanes.input m step.next d here in
          let was : get_or mid.lanes.input m d ≡ get_or old.lanes.input i d = h.same m d (omega arith) ∙ ap (λ j. get_or old.lanes.input j d) (sym e) in
          subst (λ x. IsRecordBy dim ms (get_or old.lanes.input i d) x) (sym read)
          (subst (λ x. IsRecordBy dim ms x step.next) was (step.record_by d)))
          (λ apart.
          let read : get_or new.lanes.input i d ≡ get_or mid.lanes.input i d = ap (λ xs. get_or xs i d) input ∙ get_or-set_other mid.lanes.input m i step.next d apart in
          subst (λ x. IsRecordBy dim ms (get_or old.lanes.input i d) x) (sym read) (h.done i d (omega arith)))
          (cases_eq i m);
      same = λ i d above.
          let apart : i ≢ m = omega arith in
          ap (λ xs. get_or xs i d) input ∙ get_or-set_other mid.lanes.input m i step.next d apart ∙ h.same i d (omega arith);
    }

-- all records
pub all_records : (dim : Dim) (ms : List Means) (old new : TreeLists) (m : ℕ) → length old.lanes.input ≤ m → IsStoreByUpTo dim ms old new m → IsStoreBy dim ms old new
all_records dim ms old new m all h = record { rest = h.rest; count = h.count; records = λ i d inside. h.done i d (omega arith) }

-- where no slot changes
pub store_stays : (dim : Dim) (ms : List Means) (s : TreeLists) → ((v : VertexRecord) (n : ℕ) (x : Slot) → changed_slot dim ms v.key n x ≡ x) → IsStoreBy dim ms s s
store_stays dim ms s stays = record { rest = refl; count = refl; records = λ i d inside. record { key = refl; size = refl; slots = λ n below. sym (stays (get_or s.lanes.input i d) n (slot_at (get_or s.lanes.input i d) n)) } }

-- vertices stay vertices
pub vertices_stay : (dim : Dim) (ms : List Means) (old mid : TreeLists) (m : ℕ) → IsStoreByUpTo dim ms old mid m → All (λ (v : Stored). IsVertex dim v.key) old.lanes.input → All (λ (v : Stored). IsVertex dim v.key) mid.lanes.input
vertices_stay dim ms old mid m h v i d below =
    let inside : i < length old.lanes.input = omega (arith, below, h.count) in
    ⊎_elim
    (λ early. subst (IsVertex dim) (sym (h.done i d early).key) (v i d inside))
    (λ late. subst (λ (x : VertexRecord). IsVertex dim x.key) (sym (h.same i d late)) (v i d inside))
    (cases_lt i m)
