-- How a list lies in pages.
use Rattle.std.specs.Prelude.{◌≡◌, ℕ, ◌+◌, ◌≤◌, List, [], ◌∷◌, ◌++◌, length, map, All, ◌*◌, ◌^◌, slice_index_or}
use Rattle.peano_keys.specs.declared.dim.Dim.{Dim}
use Rattle.peano_keys.specs.Dim.{axes}
use Rattle.vertex_stacks.specs.Lists.{pages_for, pages_in}
use Rattle.peano_records.specs.declared.columns.Near.{Near}
use Rattle.peano_records.specs.declared.columns.FourSlots.{FourSlots}
use Rattle.peano_records.specs.declared.columns.More.{More}
use Rattle.peano_records.specs.declared.stored.Stored.{Stored}
use Rattle.peano_records.specs.Columns.{record_of}

-- the records of three columns
abbrev pub records_of : List Near → List FourSlots → List More → List Stored
records_of (near ∷ nears) (far ∷ fars) (more ∷ mores) = record_of near far more
    ∷ records_of nears fars mores
records_of [] fars mores = []
records_of (near ∷ nears) [] mores = []
records_of (near ∷ nears) (far ∷ fars) [] = []

-- the vertices of pages, page after page
abbrev pub flat : List (List Stored) → List Stored
flat [] = []
flat (page ∷ pages) = page ++ flat pages

-- each page has 64 places
abbrev pub AreWhole : List (List Stored) → Type 0
AreWhole pages = All (λ page. length page ≡ 64) pages

-- a list in pages: its vertices, oldest first, and how many pages it can have with no more memory
pub record PileSeen : Type 0 where
  pub items : List Stored
  pub reach : ℕ

-- free pages: how many there are, and how many there can be with no more memory
pub record PoolSeen : Type 0 where
  pub count : ℕ
  pub reach : ℕ

-- the vertices of a list
abbrev pub items_of : PileSeen → List Stored
items_of pile = pile.items

-- each list can have so many pages
abbrev pub Reach : ℕ → List PileSeen → Type 0
Reach pages piles = All (λ pile. pages ≤ pile.reach) piles

-- pages in lists and in the pool are all pages, each of them has room for all, and lanes that the dimension has not are empty
pub record AreInPages (dim : Dim) (pages : ℕ) (pool : PoolSeen) (input output : PileSeen)
    (lanes : List PileSeen) : Type 0 where
  pub six : length lanes ≡ 6
  pub unused : (n : ℕ) → 2 * axes dim ≤ n → slice_index_or (map items_of lanes) n [] ≡ []
  pub count : pages
      ≡ pool.count
      + (pages_for (length input.items) + pages_for (length output.items)
      + pages_in (map items_of lanes))
  pub most : pages ≤ 2 ^ 50
  pub in_pool : pages ≤ pool.reach
  pub in_input : pages ≤ input.reach
  pub in_output : pages ≤ output.reach
  pub in_lanes : Reach pages lanes
