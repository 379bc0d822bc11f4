-- The tale of a list of notes, as numbers of notes and sums, and what one more note makes of it.
use Rattle.std.specs.Prelude.{◌≡◌, ℕ, ◌+◌, ◌-◌, ◌^◌, ◌==◌, List, [], ◌∷◌, ◌++◌, min, count_by, sum_by, slice_set, slice_index}
use Rattle.vertex_stacks.specs.declared.kind.Kind.{Kind}
use Rattle.vertex_stacks.specs.declared.kind.Kind.TheVariants.{Raise, Show, Primary, Secondary, Adapt, Recut}
use Rattle.vertex_stacks.specs.declared.tale.Tale.{Tale}
use Rattle.vertex_stacks.specs.Notes.{Note}

-- a number that stands at the last value of a count once it is there
abbrev pub capped : ℕ → ℕ
capped n = min n (2 ^ 64 - 1)

-- the place of a kind in a tale
abbrev pub place_of : Kind → ℕ
place_of Raise = 0
place_of Show = 1
place_of Primary = 2
place_of Secondary = 3
place_of Adapt = 4
place_of Recut = 5

-- how many notes are of the kind at a place
abbrev pub sweeps_at : List Note → ℕ → ℕ
sweeps_at ns place = capped (count_by (λ n. place_of n.kind == place) ns)

-- the tale of a list of notes
abbrev pub tale_of : List Note → Tale
tale_of ns =
    record {
      sweeps = sweeps_at ns 0 ∷ sweeps_at ns 1 ∷ sweeps_at ns 2 ∷ sweeps_at ns 3
          ∷ sweeps_at ns 4 ∷ sweeps_at ns 5 ∷ [];
      taken = capped (sum_by (λ n. n.taken) ns);
      put = capped (sum_by (λ n. n.put) ns);
      pushed = capped (sum_by (λ n. n.pushed) ns);
    }

-- the tale of no notes: every number is 0
abbrev pub no_tale : Tale
no_tale = record { sweeps = 0 ∷ 0 ∷ 0 ∷ 0 ∷ 0 ∷ 0 ∷ []; taken = 0; put = 0; pushed = 0 }

-- a tale with one more note
abbrev pub with_note : Tale → Note → Tale
with_note t n =
    record {
      sweeps = slice_set t.sweeps (place_of n.kind)
          (capped (slice_index t.sweeps (place_of n.kind) + 1));
      taken = capped (t.taken + n.taken);
      put = capped (t.put + n.put);
      pushed = capped (t.pushed + n.pushed);
    }

-- the tale of a longer list is the tale with one more note
abbrev pub TaleGrows : Type 0
TaleGrows = (tale_of [] ≡ no_tale)
    × ((ns : List Note) (n : Note) → tale_of (ns ++ n ∷ []) ≡ with_note (tale_of ns) n)
