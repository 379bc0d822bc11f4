-- Zones: which cells they refine, as bounds on each axis.
use Rattle.std.proofs.Common.{◌+◌, ◌*◌, ◌^◌, ◌<◌, min, max, ℕ, slice_index}
use Rattle.std.specs.Bool.{Decides}
use Rattle.std.proofs.lemmas.Bool.Decides.{Decides-and, Decides-ltb, Decides-like}
use Rattle.peano_keys.specs.declared.dim.Dim.{Dim}
use Rattle.peano_keys.specs.declared.dim.Dim.TheVariants.{Two, Three}
use Rattle.peano_keys.specs.declared.cell.CellKey.{CellKey}
use Rattle.peano_keys.specs.Cell.{at}
use Rattle.spacetree.specs.declared.shape.Zone.{Zone}
use Rattle.spacetree.specs.Opening.{overlaps, meets, zone_refines}

-- the inside of a cell meets an interval of cells: the later begin lies before the earlier end
abbrev pub Overlaps : ℕ → ℕ → ℕ → ℕ → ℕ → Type 0
Overlaps l x k from to = max (x * 3 ^ k) (from * 3 ^ l) < min ((x + 1) * 3 ^ k) (to * 3 ^ l)

abbrev pub OverlapsOn : ℕ → Zone → CellKey → Type 0
OverlapsOn i z c = Overlaps c.level (at c i) z.level (slice_index z.from i) (slice_index z.to i)

-- it meets a box on each axis in use
abbrev pub Meets : Dim → Zone → CellKey → Type 0
Meets Two z c = OverlapsOn 0 z c × OverlapsOn 1 z c
Meets Three z c = OverlapsOn 0 z c × OverlapsOn 1 z c × OverlapsOn 2 z c

decides_overlaps : (l x k from to : ℕ) → Decides (overlaps l x k from to) (Overlaps l x k from to)
decides_overlaps l x k from to = Decides-ltb _ _

decides_meets : (dim : Dim) (z : Zone) (c : CellKey) → Decides (meets dim z c) (Meets dim z c)
decides_meets Two z c = Decides-and _ _ (decides_overlaps _ _ _ _ _) (decides_overlaps _ _ _ _ _)
decides_meets Three z c = Decides-like _ (λ h. (h.0.0, h.0.1, h.1)) (λ h. ((h.0, h.1), h.2)) (Decides-and _ _ (Decides-and _ _ (decides_overlaps _ _ _ _ _) (decides_overlaps _ _ _ _ _)) (decides_overlaps _ _ _ _ _))

-- a zone refines the cells of a level below its own last one whose inside meets its box
pub decides_zone : (dim : Dim) (c : CellKey) (z : Zone) → Decides (zone_refines dim c z) ((c.level < z.until) × Meets dim z c)
decides_zone dim c z = Decides-and _ _ (Decides-ltb _ _) (decides_meets dim z c)
