use Rattle.std.proofs.Common.{◌∙◌, sym, map, string_bytes, Ok, Err}
use Rattle.command_line.specs.declared.words.WordsFault.TheVariants.{Usage}
use Rattle.command_line.proofs.Meaning.{Answers, answers_ok, answers_usage, answers_accepted, hyphens_among, refused_by_hyphens, refused_up, means_of, means_to}
use Rattle.command_line.proofs.reading.read_words.Goals as goal

pub returns-then-has_hyphens : goal.returns-then-has_hyphens
returns-then-has_hyphens c =
    let words = map string_bytes c.args.words.now in
    let h : Answers words (Err Usage) = refused_by_hyphens words (hyphens_among c.args.words.now ∙ sym c.has_hyphens.ensures ∙ c.if-has_hyphens.true) in
    record { ok = answers_ok words (Err Usage) h; usage = answers_usage words (Err Usage) h; accepted = answers_accepted words (Err Usage) h }

pub returns-in_err-texts : goal.returns-in_err-texts
returns-in_err-texts c =
    let words = map string_bytes c.args.words.now in
    let h : Answers words c.from_residual.result = refused_up words _ _ c.from_residual.ensures.1 c.in_err-texts.ensures in
    record { ok = answers_ok words c.from_residual.result h; usage = answers_usage words c.from_residual.result h; accepted = answers_accepted words c.from_residual.result h }

pub returns-in-Some : goal.returns-in-Some
returns-in-Some c =
    let words = map string_bytes c.args.words.now in
    let h : Answers words (Ok c.in-Some.words) =
    means_of words _ (hyphens_among c.args.words.now ∙ sym c.has_hyphens.ensures ∙ c.if-has_hyphens.false) c.in_ok-texts.ensures c.in-Some.words c.in-Some.ensures in
    record { ok = answers_ok words (Ok c.in-Some.words) h; usage = answers_usage words (Ok c.in-Some.words) h; accepted = answers_accepted words (Ok c.in-Some.words) h }

pub returns-in-None : goal.returns-in-None
returns-in-None c =
    let words = map string_bytes c.args.words.now in
    let h : Answers words (Err Usage) = λ w m. c.in-None.ensures w (means_to words _ c.in_ok-texts.ensures w m) in
    record { ok = answers_ok words (Err Usage) h; usage = answers_usage words (Err Usage) h; accepted = answers_accepted words (Err Usage) h }
