-- What the contracts of a desk's calls say is a deed.
use Rattle.std.proofs.Common.{◌≡◌, ℕ, Bool, true, false, refl}
use Rattle.std.specs.Prelude.{MatchBool}
use Rattle.result_table.specs.declared.updates.Updates.{Ghosts}
use Rattle.result_table.specs.declared.view.View.{View}
use Rattle.result_table.specs.declared.parts.Gathered.{Gathered}
use Rattle.result_table.specs.declared.parts.Gathered.TheVariants as found
use Rattle.result_table.specs.Views.{has, with_claimed, with_lost, with_filling, with_published, with_late}
use Rattle.result_table.specs.Plays.{IsFresh}
use Rattle.result_table.specs.Seats.{IsUncollected, Found}
use Rattle.pool_events.specs.Calls.{Did, DidPublish, claim_as, collection_as}

pub claim_did : {S : Type 0} (won : Bool) (s k : ℕ) (v w : View S) → MatchBool won (w ≡ with_claimed v k) (w ≡ with_lost v k) → (won ≡ true → IsFresh v k) → Did (claim_as won s k) v w
claim_did true s k v w is fresh = record { knew = fresh refl; knows_more = is }
claim_did false s k v w is fresh = record { knew = tt; knows_more = is }

pub publish_did : {S : Type 0} (won : Bool) (s k : ℕ) (v w : View S) → MatchBool won (w ≡ with_published v k) (w ≡ with_late v k) → has v.claimed k ≡ true → has v.published k ≡ false → DidPublish won s k v w
publish_did true s k v w is mine new = record { fetched = with_filling v k; fetches = record { knew = tt; knows_more = refl }; ends = record { knew = (mine, new); knows_more = is } }
publish_did false s k v w is mine new = record { fetched = with_filling v k; fetches = record { knew = tt; knows_more = refl }; ends = record { knew = tt; knows_more = is } }

pub collect_did : {S : Type 0} {g : Ghosts S} (k : ℕ) (r : Gathered S g) (v w : View S) → Found k v w r → IsUncollected v k → Did (collection_as k r) v w
collect_did k (found.Taken d) v w is none = record { knew = none; knows_more = is.0 }
collect_did k found.Free v w is none = record { knew = none; knows_more = is }
collect_did k found.Running v w is none = record { knew = none; knows_more = is }
