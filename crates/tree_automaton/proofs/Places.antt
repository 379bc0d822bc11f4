-- Views as places: one for each level below the root.
use Rattle.std.proofs.Common.{◌≡◌, ℕ, zero, suc, ◌+◌, ◌<◌, List, [], ◌∷◌, length, sym, ◌∙◌, subst, arith}
use Rattle.std.specs.Prelude.{All}
use Rattle.peano_keys.specs.declared.dim.Dim.{Dim}
use Rattle.peano_records.specs.declared.view.CellView.{CellView}
use Rattle.peano_records.specs.Tells.{corner_at}
use Rattle.tree_automaton.specs.Promises.{Keeps}
use Rattle.tree_automaton.specs.Views.{IsPlace, HavePlaces}
use Rattle.tree_automaton.proofs.Promised.{beyond_kept}

-- a visitor keeps a place
pub place_kept : (dim : Dim) (v w : CellView) → IsPlace dim v → Keeps v w → IsPlace dim w
place_kept dim v w is keeps = record { eight = keeps.shape ∙ is.eight; beyond = λ n least. beyond_kept (corner_at v n) (corner_at w n) (keeps.corners_stay n) (is.beyond n least) }

-- and so it is where `will` was set
pub place_with_will : (dim : Dim) (v w : CellView) → w ≡ record v { will = w.will } → IsPlace dim v → IsPlace dim w
place_with_will dim v w is h = subst (IsPlace dim) (sym is) (record { eight = h.eight; beyond = h.beyond })

pub places_at : (dim dim' : Dim) (level level' : ℕ) (views : List CellView) → dim' ≡ dim → level' ≡ level → HavePlaces dim (level + 1) views → HavePlaces dim' (level' + 1) views
places_at dim dim' level level' views same equal h = subst (λ d. HavePlaces d (level' + 1) views) (sym same) (subst (λ l. HavePlaces dim (l + 1) views) (sym equal) h)

-- the first place is the level's, and the others are for the levels below
pub first_place_of : (dim : Dim) (level : ℕ) (v : CellView) (views : List CellView) → HavePlaces dim level (v ∷ views) → IsPlace dim v
first_place_of dim level v views h = h.each 0 v (omega arith)

pub other_places : (dim : Dim) (level : ℕ) (v : CellView) (views : List CellView) → HavePlaces dim level (v ∷ views) → HavePlaces dim (level + 1) views
other_places dim level v views h = record { enough = (let e = h.enough in omega (arith, e)); each = λ k d below. h.each (suc k) d (omega (arith, below)) }

-- no level lies below the last
pub no_places : (dim : Dim) → HavePlaces dim 13 []
no_places dim = record { enough = omega arith; each = λ k d below. absurd (omega (arith, below)) }

pub places_joined : (dim : Dim) (level : ℕ) (v : CellView) (views : List CellView) → IsPlace dim v → HavePlaces dim (level + 1) views → HavePlaces dim level (v ∷ views)
places_joined dim level v views first others = record { enough = (let e = others.enough in omega (arith, e)); each = each_one }
  where
    each_one : All (IsPlace dim) (v ∷ views)
    each_one zero d below = first
    each_one (suc k) d below = others.each k d (omega (arith, below))

-- there is a place for each level that a cell may have
pub a_place : (dim : Dim) (level : ℕ) (views : List CellView) → HavePlaces dim (level + 1) views → level < 12 → length views ≡ 0 → ⊥
a_place dim level views h below none = (let e = h.enough in omega (arith, e, none, below))
