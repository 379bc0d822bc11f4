-- What each call keeps of the records round its cell, it finds too.
use Rattle.std.proofs.Common.{◌≡◌, ℕ, ◌<◌, Bool, true, false, List, [], ◌∷◌, ◌++◌, Option, Some, None, refl, ap, sym, ◌∙◌, subst, append-nil, append_assoc}
use Rattle.peano_keys.specs.declared.cell.CellKey.{CellKey}
use Rattle.peano_keys.specs.declared.vertex.VertexKey.{VertexKey}
use Rattle.peano_keys.specs.Dim.{corners}
use Rattle.peano_keys.specs.Vertex.{corner_of}
use Rattle.peano_records.specs.declared.stored.Stored.{Stored}
use Rattle.peano_records.specs.declared.view.CellView.{CellView}
use Rattle.peano_records.specs.declared.view.Corner.TheVariants.{Vertex}
use Rattle.peano_records.specs.Slots.{fresh}
use Rattle.peano_records.specs.Tells.{corner_at}
use Rattle.vertex_stacks.specs.declared.tale.Tale.{Tale}
use Rattle.sweep_visits.specs.Plan.{dim_of, is_kept, is_stored_in}
use Rattle.sweep_visits.specs.Visits.{Visit, enter, leave}
use Rattle.sweep_visits.specs.Runs.{previous_in_run}
use Rattle.tree_automaton.specs.Sweep.{TreeSweep}
use Rattle.tree_automaton.specs.Story.{Call, Story, IsAmong, with_calls}
use Rattle.tree_automaton.specs.Visits.{ComesFrom, CornerTaken}
use Rattle.tree_automaton.specs.Sweeps.{AllCallsFit, CallFits, Chain, Stands, begun}

-- something holds of each vertex of a view
abbrev pub EachVertex : TreeSweep → (Stored → Type 0) → CellView → Type 0
EachVertex p I v = (n : ℕ) (s : Stored) → n < corners (dim_of p.plan) → corner_at v n ≡ Vertex s → I s

module _ (p : TreeSweep) (start : List Stored) (tale : Tale) (I : Stored → Type 0) (input : (s : Stored) → IsAmong s start → I s)
    (new : (w : VertexKey) → is_kept p.plan w ≡ true → is_stored_in p.plan.old w ≡ false → I (fresh (dim_of p.plan) w)) where
  -- What holds of the records of the input and of new ones, and of all that earlier calls left, holds of what a call finds.
  pub given_hold : (so_far : List Call) → ((call : Call) → IsAmong call so_far → EachVertex p I call.made) → (visit : Visit) (given made : CellView) → CallFits (with_calls (begun p start tale) so_far) visit given made → EachVertex p I given
  given_hold so_far holds (enter c) given made fits n s below is =
      let taken : CornerTaken (with_calls (begun p start tale) so_far) c (corner_of c n) (Vertex s) = subst (CornerTaken (with_calls (begun p start tale) so_far) c (corner_of c n)) is (fits.taken n below) in
      by (previous_in_run p.plan (corner_of c n) c) (is_stored_in p.plan.old (corner_of c n)) refl taken.1
    where
      by : (o : Option CellKey) (b : Bool) → is_stored_in p.plan.old (corner_of c n) ≡ b → ComesFrom (with_calls (begun p start tale) so_far) c (corner_of c n) o b s → I s
      by (Some q) b e from = holds from.left.call from.left.among from.left.number s from.left.below from.left.corner
      by None true e from = input s from.among
      by None false e from = subst I (sym from) (new (corner_of c n) (subst (CornerTaken (with_calls (begun p start tale) so_far) c (corner_of c n)) is (fits.taken n below)).0 e)
  given_hold so_far holds (leave c) given made fits n s below is = holds fits.entered.call fits.entered.among n s below (ap (λ v. corner_at v n) (sym fits.entered.same) ∙ is)

module _ {A : Type 0} (entered left : A → CellView → CellView → A → Type 0) (m : Story) (all : List Call) (I : List Call → A → Type 0)
    (step : (so_far : List Call) (call : Call) (after : List Call) (a b : A) → all ≡ so_far ++ call ∷ after → I so_far a → CallFits (with_calls m so_far) call.visit call.given call.made → Stands entered left call.visit call.given call.made a b → I (so_far ++ call ∷ []) b) where
  -- What holds as the calls begin and is kept by each call in its place among all of them holds after them.
  pub along_places : (so_far calls : List Call) (a b : A) → all ≡ so_far ++ calls → AllCallsFit (with_calls m so_far) calls → Chain entered left calls a b → I so_far a → I all b
  along_places so_far [] a b place fit chain holds = subst (λ l. I l b) (sym (place ∙ append-nil so_far)) (subst (I so_far) chain holds)
  along_places so_far (call ∷ calls) a b place fit chain holds =
      along_places (so_far ++ call ∷ []) calls chain.0 b (place ∙ sym (append_assoc so_far (call ∷ []) calls)) (subst (λ l. AllCallsFit (record m { calls = l }) calls) (append_assoc m.calls so_far (call ∷ [])) fit.1) chain.2
      (step so_far call calls a chain.0 place holds fit.0 chain.1)
