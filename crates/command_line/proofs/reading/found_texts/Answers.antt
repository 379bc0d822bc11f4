use Rattle.std.proofs.Common.{ap, ◌∙◌, sym, codes, map, string_bytes}
use Rattle.clap.specs.Simple.{is_simple, matches_of}
use Rattle.clap.specs.Faults.{is_simple_and_free, fault_of}
use Rattle.clap.specs.Matches.{found_of}
use Rattle.clap.specs.Walk.{first_of}
use Rattle.clap.proofs.WalkLemmas.{first_value-rows}
use Rattle.command_line.proofs.Simple.{simple, simple_and_free}
use Rattle.command_line.proofs.reading.found_texts.Goals as goal

pub returns-in-Ok-try_get_matches_from : goal.returns-in-Ok-try_get_matches_from
returns-in-Ok-try_get_matches_from c =
    let parse = c.in-Ok-try_get_matches_from.ensures in
    let app = c.in-Ok.ensures in
    let ws = map string_bytes c.args.words.now in
    let m = c.in-Ok-try_get_matches_from.matches in
    let rows = (parse.matches (ap is_simple app ∙ simple)).0 ∙ ap (λ a. matches_of a ws) app in
    record {
      passes = ap (λ a. fault_of a ws) (sym app) ∙ parse.kinds (ap is_simple_and_free app ∙ simple_and_free);
      trees = c.get_str.ensures ∙ first_value-rows (found_of m) (codes "trees") ∙ ap (first_of (codes "trees")) rows;
      workers = c.get_str-in-Ok-try_get_matches_from.ensures ∙ first_value-rows (found_of m) (codes "workers") ∙ ap (first_of (codes "workers")) rows;
      show = c.get_str-in-Ok-try_get_matches_from-2.ensures ∙ first_value-rows (found_of m) (codes "show") ∙ ap (first_of (codes "show")) rows;
      demo = c.get_str-in-Ok-try_get_matches_from-3.ensures ∙ first_value-rows (found_of m) (codes "demo") ∙ ap (first_of (codes "demo")) rows;
    }
