use Rattle.std.proofs.Common.{ℕ, List, [], ◌∷◌, ap, sym, ◌∙◌, ◌++◌, take, string_bytes}
use Rattle.std.specs.Prelude.{slice_index_or}
use Rattle.std.proofs.lemmas.List.{flat_map_more, take_more}
use Rattle.std.specs.List.{flat_map}
use Rattle.field_report.specs.Summary.{level_line}
use Rattle.field_report.proofs.summary.push_levels.Goals as goal

abbrev levels : List ℕ
levels = 0 ∷ 1 ∷ 2 ∷ 3 ∷ 4 ∷ 5 ∷ []

pub loop-level-preserved : goal.loop-level-preserved
loop-level-preserved c =
    let rows = c.args.rows.now in
    let i = c.loop-level.level-index in
    let level = slice_index_or levels i 0 in
    let before = string_bytes c.args.text.now in
    c.in_ok-push_level.ensures
    ∙ ap (λ (x : List ℕ). x ++ level_line rows level) c.loop-level.invariant
    ∙ flat_map_more (level_line rows) before (take i levels) level
    ∙ ap (λ (xs : List ℕ). before ++ flat_map (level_line rows) xs) (sym (take_more levels i 0 c.loop-level-test.true))
