-- What a merge makes of a record, from what is found for its slots.
use Rattle.std.proofs.Common.{◌≡◌, ◌≢◌, ⊎_elim, ℕ, zero, suc, ◌<◌, ◌≤◌, List, [], ◌∷◌, Option, None, arith, refl, sym, ap, subst, ◌∙◌, eq-eqb}
use Rattle.std.specs.Prelude.{slice_index, slice_get, IsSomeAnd}
use Rattle.std.proofs.lemmas.Bool.Decides.{eqb_tells}
use Rattle.peano_keys.specs.declared.vertex.VertexKey.{VertexKey}
use Rattle.peano_keys.specs.declared.dim.Dim.{Dim}
use Rattle.peano_keys.specs.declared.dim.Dim.TheVariants.{Two, Three}
use Rattle.peano_keys.specs.Dim.{corners}
use Rattle.peano_records.specs.declared.stored.Parcel.{Parcel}
use Rattle.peano_records.specs.Slots.{VertexRecord, slot_at}
use Rattle.curve_cuts.specs.Cuts.{Cuts}
use Rattle.step_phases.specs.declared.phase.Phase.{Phase}
use Rattle.step_phases.specs.Exchange.{finished}
use Rattle.tree_automaton.specs.TreeLists.{TreeLists}
use Rattle.boundary_streams.specs.Sent.{Mail}
use Rattle.boundary_streams.specs.Merges.{taken, IsMergedRecord}
use Rattle.boundary_streams.specs.Mails.{source_of, IsSource, IsOwnerAt}
use Rattle.boundary_streams.specs.Records.{record_at, IsRecordExchanged, MergesAt}
use Rattle.boundary_streams.proofs.Written.{read_at}

-- what holds of eight numbers one by one holds of each
pub each_of_eight : (P : ℕ → ℕ → Type 0) (a b c d e f g h : ℕ) → P 0 a → P 1 b → P 2 c → P 3 d → P 4 e → P 5 f → P 6 g → P 7 h → (n : ℕ) → n < 8 → P n (slice_index (a ∷ b ∷ c ∷ d ∷ e ∷ f ∷ g ∷ h ∷ []) n)
each_of_eight P a b c d e f g h pa pb pc pd pe pf pg ph zero l = pa
each_of_eight P a b c d e f g h pa pb pc pd pe pf pg ph (suc zero) l = pb
each_of_eight P a b c d e f g h pa pb pc pd pe pf pg ph (suc (suc zero)) l = pc
each_of_eight P a b c d e f g h pa pb pc pd pe pf pg ph (suc (suc (suc zero))) l = pd
each_of_eight P a b c d e f g h pa pb pc pd pe pf pg ph (suc (suc (suc (suc zero)))) l = pe
each_of_eight P a b c d e f g h pa pb pc pd pe pf pg ph (suc (suc (suc (suc (suc zero))))) l = pf
each_of_eight P a b c d e f g h pa pb pc pd pe pf pg ph (suc (suc (suc (suc (suc (suc zero)))))) l = pg
each_of_eight P a b c d e f g h pa pb pc pd pe pf pg ph (suc (suc (suc (suc (suc (suc (suc zero))))))) l = ph
each_of_eight P a b c d e f g h pa pb pc pd pe pf pg ph (suc (suc (suc (suc (suc (suc (suc (suc n)))))))) l = absurd (omega arith)

own_source : (mail : Mail) (owners : List ℕ) (t : ℕ) (v : VertexKey) (n : ℕ) → slice_index owners n ≡ t → source_of mail owners t v n ≡ None
own_source mail owners t v n e = rw (eq-eqb (slice_index owners n) t e) refl

other_source : (mail : Mail) (owners : List ℕ) (t o : ℕ) (v : VertexKey) (n : ℕ) → slice_index owners n ≡ o → o ≢ t → source_of mail owners t v n ≡ mail o v
other_source mail owners t o v n e apart = ⊎_elim
    (λ same. absurd (apart (sym e ∙ same.1)))
    (λ other. rw other.0 (ap (λ s. mail s v) e))
    (eqb_tells (slice_index owners n) t)

-- sources by owners
pub source_is : (k : Cuts) (mail : Mail) (t : ℕ) (v : VertexKey) (owners : List ℕ) (n : ℕ) (found : Option Parcel) → IsOwnerAt k t v n (slice_index owners n) → found ≡ source_of mail owners t v n → IsSource k mail t v n found
source_is k mail t v owners n found owned e = record {
  others = λ o owns apart. e ∙ other_source mail owners t o v n (sym (owned.one o owns)) apart;
  own = λ all. e ∙ ⊎_elim
      (λ same. own_source mail owners t v n same.1)
      (λ other. absurd (other.1 (all (slice_index owners n) (owned.other other.1))))
      (eqb_tells (slice_index owners n) t);
}

corners_within : (dim : Dim) → corners dim ≤ 8
corners_within Two = omega arith
corners_within Three = omega arith

-- a record whose slots are exchanged with what their owners sent is merged
module _ (phase : Phase) (k : Cuts) (mail : Mail) (i : ℕ) (vertex : VertexKey) (found : ℕ → Option Parcel) (old new : TreeLists) (key : IsSomeAnd (slice_get old.lanes.input i) (λ v. vertex ≡ v.key)) (h : IsRecordExchanged phase i found old new) where
  of_key : (d : VertexRecord) (P : VertexKey → Type 0) → P vertex → P (record_at old i d).key
  of_key d P p = subst P (read_at old.lanes.input i (λ (v : VertexRecord). vertex ≡ v.key) key d) p

  slot_is : (d : VertexRecord) (n : ℕ) (o : Option Parcel) → n < 8 → found n ≡ o → slot_at h.next n ≡ finished phase (taken phase n o (slot_at (record_at old i d) n))
  slot_is d n o below e = h.slots d n below ∙ ap (λ x. finished phase (taken phase n x (slot_at (record_at old i d) n))) e

  pub merged_by : (t : ℕ) → t ≡ old.tree → ((n : ℕ) → n < 8 → IsSource k mail t vertex n (found n)) → MergesAt phase k mail i old new
  merged_by t tree given = record {
    next = h.next;
    rest = h.rest;
    merged = λ d. record {
      key = h.key d;
      size = h.size d;
      others = λ n o owns apart.
          let below : n < 8 = omega (arith, owns.below, corners_within k.dim) in
          let sources : IsSource k mail t (record_at old i d).key n (found n) = of_key d (λ v. IsSource k mail t v n (found n)) (given n below) in
          slot_is d n (mail o (record_at old i d).key) below (sources.others o owns (λ e. apart (e ∙ tree)));
      own = λ n below all.
          let sources : IsSource k mail t (record_at old i d).key n (found n) = of_key d (λ v. IsSource k mail t v n (found n)) (given n below) in
          slot_is d n None below (sources.own (λ o owns. all o owns ∙ sym tree));
    };
  }

-- nothing is found for any slot of a vertex that no tree sent
pub none_found : (k : Cuts) (mail : Mail) (t : ℕ) (v : VertexKey) (n : ℕ) → ((o : ℕ) → mail o v ≡ None) → IsSource k mail t v n None
none_found k mail t v n none = record { others = λ o owns apart. sym (none o); own = λ all. refl }

-- mail that is the same gives the same record
pub same_mail : (phase : Phase) (k : Cuts) (mail other : Mail) (t : ℕ) (old new : VertexRecord) → ((s : ℕ) (v : VertexKey) → mail s v ≡ other s v) → IsMergedRecord phase k mail t old new → IsMergedRecord phase k other t old new
same_mail phase k mail other t old new same h = record {
  key = h.key;
  size = h.size;
  others = λ n o owns apart. h.others n o owns apart ∙ ap (λ x. finished phase (taken phase n x (slot_at old n))) (same o old.key);
  own = h.own;
}
