-- The lists of a sweep, as contracts see them.
use Rattle.std.specs.Prelude.{◌≡◌, ℕ, ℤ, zero, suc, pos, ◌+◌, ◌-◌, ◌*◌, ◌/◌, ◌<◌, ◌-ℤ◌, ◌+ℤ◌, List, [], ◌∷◌, length, min, unsigned_abs, slice_index_or}
use Rattle.peano_keys.specs.declared.dim.Dim.{Dim}
use Rattle.peano_keys.specs.Dim.{axes}
use Rattle.peano_records.specs.declared.stored.Stored.{Stored}
use Rattle.peano_records.specs.declared.stored.Parcel.{Parcel}
use Rattle.vertex_stacks.specs.declared.tale.Tale.{Tale}
use Rattle.vertex_stacks.specs.Tales.{no_tale}

-- the lists: the input begins with the vertex that is taken next, every other list is oldest first;
-- there are six lanes, of which a plane uses four;
-- while `spare` is positive, a vertex is put or pushed with no want of memory
pub record SweepLists : Type 0 where
  pub dim : Dim
  pub input : List Stored
  pub output : List Stored
  pub lanes : List (List Stored)
  pub spare : ℤ
  pub taken : ℕ
  pub put : ℕ
  pub pushed : ℕ
  pub tale : Tale

-- a lane by its number, oldest first
abbrev pub lane_at : SweepLists → ℕ → List Stored
lane_at s n = slice_index_or s.lanes n []

-- lists that hold nothing, with nothing counted and nothing told
abbrev pub nothing_moved : Dim → ℤ → SweepLists
nothing_moved dim spare = record {
  dim = dim;
  input = [];
  output = [];
  lanes = [] ∷ [] ∷ [] ∷ [] ∷ [] ∷ [] ∷ [];
  spare = spare;
  taken = 0;
  put = 0;
  pushed = 0;
  tale = no_tale;
}

-- the input and all lanes are empty
pub record IsDrained (s : SweepLists) : Type 0 where
  pub input : s.input ≡ []
  pub lanes : (n : ℕ) → n < 6 → lane_at s n ≡ []

-- how many vertices lists hold together
abbrev pub held_by : List (List Stored) → ℕ
held_by [] = 0
held_by (list ∷ lists) = length list + held_by lists

-- how many vertices the input, the output and all lanes hold
abbrev pub held : SweepLists → ℕ
held s = length s.input + length s.output + held_by s.lanes

-- how many lists may hold vertices: the lanes of the dimension, the input and the output
abbrev pub lists_of : Dim → ℕ
lists_of dim = 2 * axes dim + 2

-- how many pages of 64 vertices a list of so many takes
abbrev pub pages_for : ℕ → ℕ
pages_for n = (n + 63) / 64

-- how many pages lists take together
abbrev pub pages_in : List (List Stored) → ℕ
pages_in [] = 0
pages_in (list ∷ lists) = pages_for (length list) + pages_in lists

-- how many pages the input, the output and all lanes take
abbrev pub pages_used : SweepLists → ℕ
pages_used s = pages_for (length s.input) + pages_for (length s.output) + pages_in s.lanes

-- the least number of vertices that can take so many pages: one in the last page of each list, 64 in every other page
abbrev pub places_of : Dim → ℕ → ℕ
places_of dim pages = min pages (lists_of dim) + 64 * (pages - lists_of dim)

-- how many pages there are where so many places are: `places_of` the other way
abbrev pub pages_at : Dim → ℕ → ℕ
pages_at dim places = min places (lists_of dim) + (places - lists_of dim) / 64

-- how many pages there are: places are those of held vertices and the spare ones
abbrev pub pages_of : SweepLists → ℕ
pages_of s = pages_at s.dim (unsigned_abs (s.spare +ℤ pos (held s)))

-- how many vertices have room however they lie: all pages are full but for one of each list
abbrev pub room_of : SweepLists → ℕ
room_of s = 64 * (pages_of s - lists_of s.dim)

-- how many pages make room for so many vertices
abbrev pub pages_live : Dim → ℕ → ℕ
pages_live dim zero = 0
pages_live dim (suc n) = pages_for (suc n) + lists_of dim

-- lists as they are seen, with so many pages
abbrev pub lists_seen : Dim → ℕ → List Stored → List Stored → List (List Stored) → ℕ → ℕ → ℕ → Tale
    → SweepLists
lists_seen dim pages input output lanes taken put pushed tale = record {
  dim = dim;
  input = input;
  output = output;
  lanes = lanes;
  spare = pos (places_of dim pages) -ℤ pos (length input + length output + held_by lanes);
  taken = taken;
  put = put;
  pushed = pushed;
  tale = tale;
}

-- a vertex as plain data
abbrev pub parcel_of : Stored → Parcel
parcel_of v = record { key = v.key; slots = v.slots }
