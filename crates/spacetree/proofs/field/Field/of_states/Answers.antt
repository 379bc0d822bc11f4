use Rattle.std.proofs.Common.{◌∷◌, [], ap, ◌∙◌, length-append}
use Rattle.std.proofs.lemmas.Slice.Zip.{zip_end, zip_turn}
use Rattle.spacetree.proofs.Givens.{gives_none}
use Rattle.spacetree.proofs.StateLists.{all_given, beside, gives_next, made_again}
use Rattle.spacetree.proofs.field.Field.of_states.Goals as goal

pub loop-key-init : goal.loop-key-init
loop-key-init c = gives_none (beside c.args.keys.now c.args.states.now) c.empty-field.result c.empty-field.ensures

pub loop-key-preserved : goal.loop-key-preserved
loop-key-preserved c =
    let keys = c.args.keys.now in
    let states = c.args.states.now in
    let so_far = c.loop-key.yielded in
    let first = ap (λ z. z.a.rest.now) c.into_iter-key-iterator.ensures.into_iter_gives ∙ ap (λ i. i.rest.now) c.zip-key-items.ensures.first ∙ c.iter.ensures.rest in
    let second = ap (λ z. z.b.rest.now) c.into_iter-key-iterator.ensures.into_iter_gives ∙ c.zip-key-items.ensures.second.0 in
    let turn = zip_turn keys states so_far c.into_iter-key-iterator.result c.loop-key.key-iterator c.next.new.self c.next.result first second c.loop-key.yielded_by (c.in-Some.key, c.in-Some.state) c.in-Some.is c.next.ensures.steps in
    gives_next keys states c.requires.lengths c.requires.order _ _ c.loop-key.field c.set.new.self c.in-Some.key.now c.in-Some.state.now turn.0 turn.1 turn.2 turn.3 (length-append so_far ((c.in-Some.key, c.in-Some.state) ∷ [])) c.loop-key.invariant c.in_ok-set.ensures.ok

pub returns-clause-entries : goal.returns-clause-entries
returns-clause-entries c =
    let keys = c.args.keys.now in
    let states = c.args.states.now in
    let first = ap (λ z. z.a.rest.now) c.into_iter-key-iterator.ensures.into_iter_gives ∙ ap (λ i. i.rest.now) c.zip-key-items.ensures.first ∙ c.iter.ensures.rest in
    let second = ap (λ z. z.b.rest.now) c.into_iter-key-iterator.ensures.into_iter_gives ∙ c.zip-key-items.ensures.second.0 in
    all_given keys states c.requires.lengths c.requires.order _ c.loop-key.field (zip_end keys states c.loop-key.yielded c.into_iter-key-iterator.result c.loop-key.key-iterator c.next.new.self c.next.result first second c.loop-key.yielded_by c.in-None.is c.next.ensures.steps) c.loop-key.invariant

pub returns-clause-same : goal.returns-clause-same
returns-clause-same c = made_again c.args.keys.now c.args.states.now c.loop-key.field (returns-clause-entries c)
