use Rattle.std.proofs.Common.{◌≡◌, ◌<◌, length, arith, ◌∙◌}
use Rattle.std.specs.Prelude.{[], false}
use Rattle.std.proofs.lemmas.Bool.{false≢true}
use Rattle.curve_cuts.specs.Keys.{cuts_of}
use Rattle.shared_sums.specs.Adding.{partials_in}
use Rattle.shared_sums.proofs.Found.{any_default}
use Rattle.shared_sums.proofs.Own.{has_partial, all_noted}
use Rattle.shared_sums.proofs.adding.own_means.Goals as goal

pub note-requires-clause-partial : goal.note-requires-clause-partial
note-requires-clause-partial c =
    let tree : c.args.tree < length c.args.all.now = omega (arith, c.requires.tree, c.requires.sums.trees) in
    let mine : c.as_slice-own.result.now ≡ partials_in c.args.all.now c.args.tree = c.as_slice-own.ensures.value ∙ c.index-all-tree.is ∙ any_default c.args.all.now c.args.tree _ [] tree in
    has_partial c.as_slice-own.result.now (partials_in c.args.all.now c.args.tree) c.loop-partial.partial-index _ mine (omega arith)

pub returns-in_err-note-clause-memory : goal.returns-in_err-note-clause-memory
returns-in_err-note-clause-memory c = λ none.
    let tree : c.args.tree < length c.args.all.now = omega (arith, c.requires.tree, c.requires.sums.trees) in
    let mine : c.as_slice-own.result.now ≡ partials_in c.args.all.now c.args.tree = c.as_slice-own.ensures.value ∙ c.index-all-tree.is ∙ any_default c.args.all.now c.args.tree _ [] tree in
    let partial = has_partial c.as_slice-own.result.now (partials_in c.args.all.now c.args.tree) c.loop-partial.partial-index (record { key = record { level = 0; x = [] }; sums = []; merges = false }) mine (omega arith) in
    absurd (false≢true (c.in_err-note.ensures.memory (λ owns. none _ (record { partial = partial; owns = owns }))))

pub returns-clause-means : goal.returns-clause-means
returns-clause-means c =
    let tree : c.args.tree < length c.args.all.now = omega (arith, c.requires.tree, c.requires.sums.trees) in
    let mine : c.as_slice-own.result.now ≡ partials_in c.args.all.now c.args.tree = c.as_slice-own.ensures.value ∙ c.index-all-tree.is ∙ any_default c.args.all.now c.args.tree _ [] tree in
    all_noted (cuts_of c.args.keys.now) c.args.all.now c.args.tree c.as_slice-own.result.now c.loop-partial.list.items mine c.loop-partial.invariant.sound
    (λ j d below. c.loop-partial.invariant.complete j d (omega arith))
