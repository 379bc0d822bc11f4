-- Records at rest, and lists of a tree's copies.
use Rattle.std.proofs.Common.{◌≡◌, ⊎_elim, ℕ, ◌<◌, refl, sym, subst, Option, Some, None}
use Rattle.peano_keys.specs.declared.cell.CellKey.{CellKey}
use Rattle.peano_keys.specs.declared.dim.Dim.{Dim}
use Rattle.peano_keys.specs.declared.vertex.VertexKey.{VertexKey}
use Rattle.peano_keys.specs.Dim.{corners}
use Rattle.peano_keys.specs.Vertex.{adjacent_of}
use Rattle.peano_keys.specs.Grid.{Spacetree}
use Rattle.peano_keys.specs.Field.{States, value_of}
use Rattle.peano_records.specs.declared.slot.Slot.{Slot}
use Rattle.peano_records.specs.declared.slot.Intent.TheVariants.{Stay}
use Rattle.peano_records.specs.Slots.{VertexRecord, slot_at}
use Rattle.peano_records.specs.AtRest.{IsAtRest}
use Rattle.peano_records.proofs.Intents.{below_eight}
use Rattle.curve_cuts.proofs.Cuts.{lt_or_le}
use Rattle.step_phases.specs.Stores.{Says}
use Rattle.step_phases.specs.Phases.{AtRest}
use Rattle.step_phases.specs.StoreLaws.{RestIsRecord, SecondIsRecord, record_at, ListRests, RestFromList}

module _ (dim : Dim) (v : VertexKey) (P : CellKey → Slot → Type 0) (r : VertexRecord) (says : Says dim v P r) (stay : (c : CellKey) (s : Slot) → P c s → s.intent ≡ Stay) where
  stays_at : (n : ℕ) (o : Option CellKey) → n < corners dim → adjacent_of dim r.key n ≡ o → (slot_at r n).intent ≡ Stay
  stays_at n None below at = says.idle n below at
  stays_at n (Some c) below at = stay c (slot_at r n) (says.inside n c below at)

  all_stay : (n : ℕ) → n < 8 → (slot_at r n).intent ≡ Stay
  all_stay n high = ⊎_elim (λ below. stays_at n (adjacent_of dim r.key n) below refl) (λ low. says.unused n low high) (lt_or_le n (corners dim))

pub rest_is_record : RestIsRecord
rest_is_record g f v r says = record {
  eight = says.eight;
  outside = says.outside;
  inside = λ n c below at. let h = says.inside n c below at in record { status = h.status; value = h.value };
  stay = all_stay g.dim v (AtRest g (value_of g f)) r says (λ c s h. h.stay);
}

pub second_is_record : SecondIsRecord
second_is_record w v r says = record {
  eight = says.eight;
  outside = says.outside;
  inside = λ n c below at. let h = says.inside n c below at in record { status = h.status; intent = h.intent };
  idle = says.idle;
  unused = says.unused;
}

-- a record at rest says so
pub says_rest : (g : Spacetree) (f : States) (v : VertexKey) (r : VertexRecord) → r.key ≡ v → IsAtRest g f r → Says g.dim v (AtRest g (value_of g f)) r
says_rest g f v r key h = record {
  key = key;
  eight = h.eight;
  outside = h.outside;
  inside = λ n c below at. let s = h.inside n c below at in record { status = s.status; value = s.value; stay = h.stay n (below_eight g.dim n below) };
  idle = λ n below at. h.stay n (below_eight g.dim n below);
  unused = λ n low high. h.stay n high;
}

pub list_rests : ListRests
list_rests k g f t records store fits lists says i below =
    let o = lists.only i below in
    let r : VertexRecord = record_at k.dim records i in
    subst (IsAtRest g f) o.1 (rest_is_record g f r.key (store r.key) (subst (λ d. Says d r.key (AtRest g (value_of g f)) (store r.key)) (sym fits.dim) (says r.key o.0)))

pub rest_from_list : RestFromList
rest_from_list k g f t records store fits lists keys each v has =
    let p = lists.has v has in
    subst (λ d. Says d v (AtRest g (value_of g f)) (store v)) fits.dim (says_rest g f v (store v) (keys v has) (subst (IsAtRest g f) p.2 (each p.0 p.1)))
