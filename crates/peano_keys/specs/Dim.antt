-- How many axes there are, and what an unused axis has.
use Rattle.std.specs.Prelude.{ℕ, Bool, true, false, refl, ◌≡◌}
use Rattle.std.specs.Coded.{Coded, code_by, coded_bool}
use Rattle.peano_keys.specs.declared.dim.Dim.{Dim}
use Rattle.peano_keys.specs.declared.dim.Dim.TheVariants.{Two, Three}

-- the number of axes
abbrev pub axes : Dim → ℕ
axes Two = 2
axes Three = 3

-- the number of corners of a cell, which is also that of adjacent positions of a vertex
abbrev pub corners : Dim → ℕ
corners Two = 4
corners Three = 8

-- how many children a refined cell has
abbrev pub children : Dim → ℕ
children Two = 9
children Three = 27

-- how many coordinates axis 2 has where the other axes have `n`: in a plane one, which is 0
abbrev pub third_extent : Dim → ℕ → ℕ
third_extent Two n = 1
third_extent Three n = n

-- the greatest vertex coordinate on axis 2 where that of the other axes is `n`
abbrev pub third_end : Dim → ℕ → ℕ
third_end Two n = 0
third_end Three n = n

-- whether a dimension is that of the plane
abbrev pub is_plane : Dim → Bool
is_plane Two = true
is_plane Three = false

-- the dimension by that truth value
abbrev pub dim_from : Bool → Dim
dim_from true = Two
dim_from false = Three

pub dim_from-is_plane : (d : Dim) → dim_from (is_plane d) ≡ d
dim_from-is_plane Two = refl
dim_from-is_plane Three = refl

-- a dimension as a truth value
abbrev pub coded_dim : Coded Dim
coded_dim = code_by Bool coded_bool is_plane dim_from dim_from-is_plane
