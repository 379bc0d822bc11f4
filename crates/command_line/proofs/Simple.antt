-- The command is a simple one.
use Rattle.std.proofs.Common.{◌≡◌, refl, true}
use Rattle.clap.specs.Simple.{is_simple}
use Rattle.clap.specs.Faults.{is_simple_and_free}
use Rattle.clap.proofs.OnLiterals.{clap_on_literals}
use Rattle.command_line.specs.Parsed.{words_app}

pub simple : is_simple words_app ≡ true
unfolding clap_on_literals
simple = refl

pub simple_and_free : is_simple_and_free words_app ≡ true
unfolding clap_on_literals
simple_and_free = refl
