-- The first vertices of a stream have keys of a kind.
use Rattle.std.proofs.Common.{◌≡◌, ⊎_elim, ℕ, ◌+◌, ◌<◌, ◌≤◌, List, length, get_or, sym, subst, arith}
use Rattle.std.specs.Prelude.{slice_get, IsSomeAnd, All}
use Rattle.std.proofs.lemmas.Bool.{cases_eq}
use Rattle.peano_keys.specs.declared.vertex.VertexKey.{VertexKey}
use Rattle.peano_records.specs.Slots.{VertexRecord}
use Rattle.boundary_streams.proofs.Written.{read_at}

-- so many of the first ones do
pub record FirstAre (P : VertexKey → Type 0) (vs : List VertexRecord) (m : ℕ) : Type 0 where
  pub each : (i : ℕ) (d : VertexRecord) → i < m → P (get_or vs i d).key

pub none_first : (P : VertexKey → Type 0) (vs : List VertexRecord) → FirstAre P vs 0
none_first P vs = record { each = λ i d below. absurd (omega (arith, below)) }

pub one_more : (P : VertexKey → Type 0) (vs : List VertexRecord) (m : ℕ) (w : VertexKey) → IsSomeAnd (slice_get vs m) (λ v. w ≡ v.key) → P w → FirstAre P vs m → FirstAre P vs (m + 1)
one_more P vs m w is holds first = record {
  each = λ i d below. ⊎_elim
      (λ e. subst (λ j. P (get_or vs j d).key) (sym e) (subst P (read_at vs m (λ (v : VertexRecord). w ≡ v.key) is d) holds))
      (λ apart. first.each i d (omega (arith, below, apart)))
      (cases_eq i m);
}

pub all_are : (P : VertexKey → Type 0) (vs : List VertexRecord) (m : ℕ) → length vs ≤ m → FirstAre P vs m → All (λ (v : VertexRecord). P v.key) vs
all_are P vs m all first = λ i d below. first.each i d (omega (arith, all, below))
