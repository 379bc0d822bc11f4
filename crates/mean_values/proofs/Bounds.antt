-- Bounds on next sums.
use Rattle.std.proofs.Common.{◌≡◌, ℕ, zero, suc, ◌<◌, ℤ, Bool, true, false, if◌then◌else◌, refl, sym, subst}
use Rattle.peano_keys.specs.declared.dim.Dim.{Dim}
use Rattle.peano_keys.specs.declared.cell.CellKey.{CellKey}
use Rattle.peano_keys.specs.Cell.{child_of}
use Rattle.peano_keys.specs.Grid.{is_refined}
use Rattle.peano_keys.specs.Sums.{weight, floor_of}
use Rattle.cell_sums.specs.Bounds.{WeighsBetween}
use Rattle.cell_sums.proofs.Sums.{weight_positive}
use Rattle.cell_sums.proofs.Bounds.{product_rises, floor_is_between, weighed, one_up}
use Rattle.mean_values.specs.NextSums.{rounded, handed_up, next_sum, NextSumsAreBetween}
use Rattle.mean_values.proofs.NextSums.{next_plain, next_refined}

rounded_between : (lo hi s : ℤ) (w : ℕ) → 0 < w → WeighsBetween lo hi w s → WeighsBetween lo hi w (rounded s w)
rounded_between lo hi s w h b = (let f = floor_is_between lo hi s w h b in record { low = product_rises lo (floor_of s w) w f.low; high = product_rises (floor_of s w) hi w f.high })

pub handed_between : (dim : Dim) (test : CellKey → Bool) (lo hi : ℤ) (n : ℕ) (q : CellKey) (s : ℤ) → WeighsBetween lo hi (weight dim n) s → WeighsBetween lo hi (weight dim n) (handed_up dim test n q s)
handed_between dim test lo hi n q s b = go (test q)
  where
    go : (m : Bool) → WeighsBetween lo hi (weight dim n) (if m then rounded s (weight dim n) else s)
    go true = rounded_between lo hi s (weight dim n) (weight_positive dim n) b
    go false = b

pub next_sums_are_between : NextSumsAreBetween
next_sums_are_between t test now lo hi b zero c = weighed lo hi (now c) (weight t.dim zero) (b c)
next_sums_are_between t test now lo hi b (suc n) c = elim (is_refined t c) as (λ r. is_refined t c ≡ r → WeighsBetween lo hi (weight t.dim (suc n)) (next_sum t test now (suc n) c)) [
  | true ↦ λ h. subst (WeighsBetween lo hi (weight t.dim (suc n))) (sym (next_refined t test now n c h)) (one_up t.dim lo hi n _ (λ k d. handed_between t.dim test lo hi n (child_of c k) (next_sum t test now n (child_of c k)) (next_sums_are_between t test now lo hi b n (child_of c k))))
  | false ↦ λ h. subst (WeighsBetween lo hi (weight t.dim (suc n))) (sym (next_plain t test now (suc n) c h)) (weighed lo hi (now c) (weight t.dim (suc n)) (b c))
] refl
