-- Which leaves of a tree are enclaves, by their views.
use Rattle.std.specs.Prelude.{◌≡◌, ◌↔◌, ℕ, Bool, false, IsTrue, IsFalse, Some}
use Rattle.peano_keys.specs.Grid.{Spacetree}
use Rattle.peano_records.specs.declared.view.CellView.{CellView}
use Rattle.hanging_nodes.specs.Views.{Shows}
use Rattle.curve_cuts.specs.Cuts.{Cuts}
use Rattle.curve_cuts.specs.Enclave.{OwnsLeaf, IsEnclave, IsSkeleton}

-- whether a leaf of the tree is an enclave, as its view decides
pub record DecidesEnclave (k : Cuts) (t : ℕ) (v : CellView) (b : Bool) : Type 0 where
  pub enclave : (g : Spacetree) → g.dim ≡ k.dim → Shows k.dim (Some g) g false v
      → OwnsLeaf k g t v.key → IsTrue b ↔ IsEnclave k g t v.key
  pub skeleton : (g : Spacetree) → g.dim ≡ k.dim → Shows k.dim (Some g) g false v
      → OwnsLeaf k g t v.key → IsFalse b ↔ IsSkeleton k g t v.key
