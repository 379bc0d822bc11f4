use Rattle.std.proofs.Common.{◌∙◌, rules, tests, string_bytes, ap}
use Rattle.std.specs.List.{list_all}
use Rattle.std.proofs.lemmas.Iterator.Search.{all_from_yields_List}
use Rattle.toml.specs.View.{table_view}
use Rattle.grid_file.specs.Keys.{is_among, listed_keys}
use Rattle.grid_file.proofs.Trees.{has_only-keys, keys_chain}
use Rattle.grid_file.proofs.keys.has_only_listed.Goals as goal

pub returns : goal.returns
returns c =
    let keys = listed_keys c.args.part (table_view c.args.table.now) in
    let each = all_from_yields_List (λ k. is_among keys (string_bytes k)) _ _ c.all.result c.all.ensures.ran (keys_chain c.keys.result) (λ x b q k. search (rules, tests)) in
    each ∙ ap (λ ks. list_all (λ k. is_among keys (string_bytes k)) ks) c.keys.ensures.rest ∙ has_only-keys keys c.args.table.now.entries
