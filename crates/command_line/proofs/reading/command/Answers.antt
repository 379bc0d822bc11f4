use Rattle.std.proofs.Common.{◌≡◌, true, ap, ap₂, ◌∙◌}
use Rattle.clap.specs.Simple.{app_of, app_of_fields, with_rule, on_top}
use Rattle.command_line.specs.Parsed.{bare_app}
use Rattle.command_line.proofs.reading.command.Goals as goal

pub returns : goal.returns
returns c =
    let bare : app_of c.disable_version_flag-bare.result ≡ bare_app =
    ap app_of_fields c.disable_version_flag-bare.ensures
    ∙ ap (on_top (λ s. record s { disable_version_flag = true })) (ap app_of_fields c.disable_help_flag.ensures
    ∙ ap (on_top (λ s. record s { disable_help_flag = true })) (ap app_of_fields c.no_binary_name.ensures
    ∙ ap (on_top (λ s. record s { no_binary_name = true })) c.new.ensures.app)) in
    let one = c.in_ok-arg.ensures.shape c.option-trees.ensures.local ∙ ap₂ with_rule bare c.option-trees.ensures.rule in
    let two = c.in_ok-arg-2.ensures.shape c.option-workers.ensures.local ∙ ap₂ with_rule one c.option-workers.ensures.rule in
    let three = c.in_ok-arg-3.ensures.shape c.option-show.ensures.local ∙ ap₂ with_rule two c.option-show.ensures.rule in
    c.in_ok-arg-4.ensures.shape c.option-demo.ensures.local ∙ ap₂ with_rule three c.option-demo.ensures.rule
