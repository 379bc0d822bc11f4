use Rattle.std.proofs.Common.{◌≢◌, ◌≤◌, ℕ, arith, MatchOption, length, get_or, sym, subst, Option}
use Rattle.std.proofs.lemmas.Grind.{common_steps}
use Rattle.command_line.specs.CommandLine.{Writes}
use Rattle.command_line.proofs.Numbers.{parsed}
use Rattle.command_line.proofs.reading.number.Goals as goal

pub returns : goal.returns
returns c =
    let plain : get_or c.args.text.now 0 0 ≢ 43 = grind (arith, common_steps) in
    let some : 1 ≤ length c.args.text.now = grind (arith, common_steps) in
    let most : length c.args.text.now ≤ 19 = grind (arith, common_steps) in
    let h = parsed c.args.text.now c.parse.result c.parse.ensures.value.0 plain some most in
    subst (λ (o : Option ℕ). MatchOption o ((n : ℕ) → ¬ Writes c.args.text.now n) (Writes c.args.text.now)) (sym c.ok.ensures.value) h
