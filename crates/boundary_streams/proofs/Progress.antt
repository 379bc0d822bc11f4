-- A store of which the first records are merged.
use Rattle.std.proofs.Common.{◌≡◌, ◌≢◌, ⊎_elim, ℕ, ◌+◌, ◌<◌, ◌≤◌, length, get_or, arith, sym, ap, subst, ◌∙◌}
use Rattle.std.specs.Prelude.{slice_index_or, slice_set}
use Rattle.std.proofs.lemmas.Bool.{cases_eq}
use Rattle.std.proofs.lemmas.List.{get_or-set_same, get_or-set_other, length-set}
use Rattle.peano_keys.specs.declared.vertex.VertexKey.{VertexKey}
use Rattle.peano_records.specs.Slots.{VertexRecord}
use Rattle.curve_cuts.specs.Cuts.{Cuts}
use Rattle.step_phases.specs.declared.phase.Phase.{Phase}
use Rattle.tree_automaton.specs.TreeLists.{TreeLists}
use Rattle.boundary_streams.specs.Sent.{Mail}
use Rattle.boundary_streams.specs.Merges.{IsMergedRecord, IsMerged}
use Rattle.boundary_streams.specs.Records.{MergesAt}
use Rattle.boundary_streams.proofs.Merges.{same_mail}

pub record IsMergedUpTo (phase : Phase) (k : Cuts) (mail : Mail) (old new : TreeLists) (m : ℕ) : Type 0 where
  pub rest : new ≡ record old { lanes = record old.lanes { input = new.lanes.input } }
  pub count : length new.lanes.input ≡ length old.lanes.input
  pub merged : (i : ℕ) (d : VertexRecord) → i < m → IsMergedRecord phase k mail old.tree (slice_index_or old.lanes.input i d) (slice_index_or new.lanes.input i d)
  pub same : (i : ℕ) (d : VertexRecord) → m ≤ i → slice_index_or new.lanes.input i d ≡ slice_index_or old.lanes.input i d

-- one more record
pub merged_more : (phase : Phase) (k : Cuts) (mail : Mail) (old mid new : TreeLists) (m : ℕ) → m < length old.lanes.input → IsMergedUpTo phase k mail old mid m → MergesAt phase k mail m mid new → IsMergedUpTo phase k mail old new (m + 1)
merged_more phase k mail old mid new m inside h step =
    let input : new.lanes.input ≡ slice_set mid.lanes.input m step.next = ap (λ (s : TreeLists). s.lanes.input) step.rest in
    let tree : mid.tree ≡ old.tree = ap (λ (s : TreeLists). s.tree) h.rest in
    let here : m < length mid.lanes.input = omega (arith, inside, h.count) in
    record {
      rest = step.rest
          ∙ ap (λ (s : TreeLists). record s { lanes = record s.lanes { input = slice_set mid.lanes.input m step.next } }) h.rest
          ∙ ap (λ xs. record old { lanes = record old.lanes { input = xs } }) (sym input);
      count = ap length input ∙ length-set mid.lanes.input m step.next ∙ h.count;
      merged = λ i d below. ⊎_elim
          (λ e.
          let read : get_or new.lanes.input i d ≡ step.next = ap (λ j. get_or new.lanes.input j d) e ∙ ap (λ xs. get_or xs m d) input ∙ get_or-set_same mid.lanes.input m step.next d here in
          let was : get_or mid.lanes.input m d ≡ get_or old.lanes.input i d = h.same m d (omega arith) ∙ ap (λ j. get_or old.lanes.input j d) (sym e) in
          subst (λ x. IsMergedRecord phase k mail old.tree (get_or old.lanes.input i d) x) (sym read)
          (subst (λ x. IsMergedRecord phase k mail old.tree x step.next) was
          (subst (λ t. IsMergedRecord phase k mail t (get_or mid.lanes.input m d) step.next) tree (step.merged d))))
          (λ apart.
          let read : get_or new.lanes.input i d ≡ get_or mid.lanes.input i d = ap (λ xs. get_or xs i d) input ∙ get_or-set_other mid.lanes.input m i step.next d apart in
          subst (λ x. IsMergedRecord phase k mail old.tree (get_or old.lanes.input i d) x) (sym read) (h.merged i d (omega arith)))
          (cases_eq i m);
      same = λ i d above.
          let apart : i ≢ m = omega arith in
          ap (λ xs. get_or xs i d) input ∙ get_or-set_other mid.lanes.input m i step.next d apart ∙ h.same i d (omega arith);
    }

-- all records
pub merged_all : (phase : Phase) (k : Cuts) (mail other : Mail) (old new : TreeLists) (m : ℕ) → length old.lanes.input ≤ m → ((s : ℕ) (v : VertexKey) → mail s v ≡ other s v) → IsMergedUpTo phase k mail old new m → IsMerged phase k other old new
merged_all phase k mail other old new m all same h = record {
  rest = h.rest;
  count = h.count;
  records = λ i d inside. same_mail phase k mail other old.tree (get_or old.lanes.input i d) (get_or new.lanes.input i d) same (h.merged i d (omega arith));
}
