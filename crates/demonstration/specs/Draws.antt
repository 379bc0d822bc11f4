-- The draws of a demonstration: the numbers of a generator, and what is drawn from them.
use Rattle.std.specs.Prelude.{ℕ, zero, suc, ◌+◌, ◌*◌, ◌/◌, ◌%◌, ◌^◌}

-- the generator's number that follows another one
unfoldable pub next_number : ℕ → ℕ
next_number s = (s * 6364136223846793005 + 1442695040888963407) % 2 ^ 64

-- its number so many draws later
unfoldable pub number_after : ℕ → ℕ → ℕ
number_after s zero = s
number_after s (suc draws) = next_number (number_after s draws)

-- what is drawn below a bound where the generator has come to a number: the number's upper 31 bits, by the bound
abbrev pub drawn : ℕ → ℕ → ℕ
drawn bound s = s / 2 ^ 33 % bound

-- draw number `k`, from 0, below a bound: each draw first moves the generator on, which begins at `n`
abbrev pub draw : ℕ → ℕ → ℕ → ℕ
draw n k bound = drawn bound (number_after n (k + 1))
