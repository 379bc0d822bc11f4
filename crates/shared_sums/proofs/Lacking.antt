-- Slots that no means are for.
use Rattle.std.proofs.Common.{◌≡◌, ◌≢◌, ℕ, List, [], ◌∷◌, Option, Some, None, refl, sym, ap, ◌∙◌, arith}
use Rattle.std.specs.Prelude.{All}
use Rattle.peano_keys.specs.declared.cell.CellKey.{CellKey}
use Rattle.peano_keys.specs.declared.dim.Dim.{Dim}
use Rattle.peano_keys.specs.declared.vertex.VertexKey.{VertexKey}
use Rattle.peano_keys.specs.Vertex.{cell_at}
use Rattle.peano_records.specs.declared.slot.Slot.{Slot}
use Rattle.sweep_visits.specs.Moves.{same_cell}
use Rattle.sweep_visits.proofs.Same.{cells_decided}
use Rattle.shared_sums.specs.declared.adding.Means.{Means}
use Rattle.shared_sums.specs.Records.{means_of, cell_of, slot_with, means_at, changed_slot}
use Rattle.shared_sums.proofs.Sums.{found}
use Rattle.shared_sums.proofs.Found.{found_passes}
use Rattle.shared_sums.proofs.Added.{cell_found}

cell_level : (l : ℕ) (a b c : Option ℕ) (q : CellKey) → cell_at l a b c ≡ Some q → q.level ≡ l
cell_level l None b c q e = absurd (cc)
cell_level l (Some a) None c q e = absurd (cc)
cell_level l (Some a) (Some b) None q e = absurd (cc)
cell_level l (Some a) (Some b) (Some c) q e = (let same : record { level = l; x = a ∷ b ∷ c ∷ [] } ≡ q = cc in ap (λ (x : CellKey). x.level) (sym same))

-- no slot of a vertex changes where no means are for its level
module _ (dim : Dim) (ms : List Means) (v : VertexKey) (lacks : All (λ (m : Means). m.key.level ≢ v.level) ms) where
  none_there : (c : CellKey) (s : Slot) (o : Option Means) → c.level ≡ v.level → means_of c ms ≡ o → slot_with o s ≡ s
  none_there c s None l e = refl
  none_there c s (Some m) l e =
      let same : m.key ≡ c = cells_decided.exact m.key c (found_passes (λ (x : Means). same_cell x.key c) ms m e) in
      absurd (found (λ (x : Means). x.key.level ≢ v.level) (λ (x : Means). same_cell x.key c) ms m e lacks (ap (λ (q : CellKey). q.level) same ∙ l))

  cell_stays : (n : ℕ) (s : Slot) (o : Option CellKey) → cell_of dim v n ≡ o → slot_with (means_at ms o) s ≡ s
  cell_stays n s None e = refl
  cell_stays n s (Some c) e = none_there c s (means_of c ms) (cell_level v.level _ _ _ c (cell_found dim v n c e).1) refl

  pub lacking : (n : ℕ) (s : Slot) → changed_slot dim ms v n s ≡ s
  lacking n s = cell_stays n s (cell_of dim v n) refl

-- nor where there are none
pub no_means : (dim : Dim) (v : VertexKey) (n : ℕ) (s : Slot) → changed_slot dim [] v n s ≡ s
no_means dim v n s = lacking dim [] v (λ i d below. absurd (omega (arith, below))) n s
