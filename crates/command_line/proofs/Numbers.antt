-- The numbers that texts write.
use Rattle.std.proofs.Common.{◌≢◌, ◌≤◌, ◌<◌, ◌^◌, ℕ, List, length, get_or, Result, Ok, Err, MatchOption, rules, arith}
use Rattle.std.specs.Result.{OkIff, result_ok}
use Rattle.std.specs.Str.Parse.{ParsesUnsigned}
use Rattle.std.proofs.lemmas.Str.Parse.{IsNumeralModel, numerals_by_fold, parse_plain, digits_value_short}
use Rattle.command_line.specs.CommandLine.{AreDigits, decimal_after, Writes}

own : IsNumeralModel AreDigits (decimal_after 0)
own = numerals_by_fold AreDigits (search rules) decimal_after (search rules)

-- what is read of a text of one to nineteen bytes with no plus before it
pub parsed : {E : Type 0} (bs : List ℕ) (r : Result ℕ E) → ParsesUnsigned 64 10 bs r → get_or bs 0 0 ≢ 43 → 1 ≤ length bs → length bs ≤ 19
    → MatchOption (result_ok r) ((n : ℕ) → ¬ Writes bs n) (Writes bs)
parsed {E} bs r h plain some most = go r (parse_plain own 64 bs r h plain)
  where
    go : (r : Result ℕ E) → OkIff r (AreDigits bs × (0 < length bs) × (decimal_after 0 bs < 2 ^ 64)) (decimal_after 0 bs)
        → MatchOption (result_ok r) ((n : ℕ) → ¬ Writes bs n) (Writes bs)
    go (Ok n) (p, e) = record { some = some; most = most; digits = p.0; value = e }
    go (Err e) none = λ n w. none (w.digits, omega arith, omega (arith, digits_value_short own bs 19 w.digits most))

-- nineteen digits write a number of nineteen digits
pub written_fits : (text : List ℕ) (n : ℕ) → Writes text n → n ≤ 9999999999999999999
written_fits text n w = omega (arith, digits_value_short own text 19 w.digits w.most, w.value)
