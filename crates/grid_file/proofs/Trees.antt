-- The tree that `toml` gives, beside the definitions over it.
use Rattle.std.proofs.Common.{◌≡◌, ℕ, List, [], ◌∷◌, length, Some, None, true, false, cond, ◌&&◌, String, Global, string_bytes, refl, ap, suc}
use Rattle.std.specs.List.{list_all}
use Rattle.std.specs.Map.{keys_of}
use Rattle.std.specs.Map.Iter.{TakesFirst, deref}
use Rattle.std.proofs.lemmas.Iterator.{YieldsList}
use Rattle.std.proofs.lemmas.Iterator.Consumers.{YieldsList-from_shown}
use Rattle.std.specs.Str.{IsUtf8, is_utf8}
use Rattle.std.proofs.lemmas.Str.{IsUtf8-from_is_utf8, is_utf8-from_IsUtf8}
use Rattle.toml.specs.Data.{Members}
use Rattle.toml.specs.Parse.{parse_document}
use Rattle.toml.specs.View.{items_view, members_view}
use Rattle.toml.specs.declared.value.Value.{Value}
use Rattle.grid_file.specs.Tree.{tree_of, count_items}
use Rattle.grid_file.specs.declared.place.KeyName.{KeyName}
use Rattle.grid_file.specs.Keys.{has_only, is_among}

pub no_tree : (bs : List ℕ) → (IsUtf8 bs → parse_document bs ≡ None) → tree_of bs ≡ None
no_tree bs h = elim (is_utf8 bs) as (λ b. is_utf8 bs ≡ b → cond b (parse_document bs) None ≡ None) [ true ↦ λ e. h (IsUtf8-from_is_utf8 bs e) | false ↦ λ e. refl ] refl

pub this_tree : (bs : List ℕ) (t : Members) → IsUtf8 bs → parse_document bs ≡ Some t → tree_of bs ≡ Some t
this_tree bs t u p = rw (is_utf8-from_IsUtf8 bs u) p

-- a test of each key of a map is a test of each key of its members
pub has_only-keys : (keys : List KeyName) (es : List (String Global × Value)) → list_all (λ k. is_among keys (string_bytes k)) (keys_of es) ≡ has_only keys (members_view es)
has_only-keys keys [] = refl
has_only-keys keys (e ∷ es) = ap (λ b. is_among keys (string_bytes e.0) && b) (has_only-keys keys es)

-- the keys of a map come in order
pub keys_chain : (ks : List (String Global)) → YieldsList (TakesFirst deref) deref ks ks
keys_chain ks = YieldsList-from_shown (TakesFirst deref) deref (λ s. s) (λ s t h. ap length h.0) (λ s x t h. h) ks

pub count_items-view : (vs : List Value) → count_items (items_view vs) ≡ length vs
count_items-view [] = refl
count_items-view (v ∷ vs) = ap suc (count_items-view vs)
