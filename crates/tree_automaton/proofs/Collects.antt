-- From the chain of calls to what they leave together.
use Rattle.std.proofs.Common.{◌≡◌, List, [], ◌∷◌, ◌++◌, refl, ap, sym, ◌∙◌, subst, append-nil, append_assoc}
use Rattle.std.specs.Prelude.{flat_map}
use Rattle.std.proofs.lemmas.Grind.{flat_map-append}
use Rattle.peano_records.specs.declared.view.CellView.{CellView}
use Rattle.tree_automaton.specs.Story.{Call, Story, IsAmong, with_calls}
use Rattle.tree_automaton.specs.Sweeps.{AllCallsFit, CallFits, Chain, Stands}
use Rattle.tree_automaton.specs.Carries.{Collects}

module _ {A : Type 0} (entered left : A → CellView → CellView → A → Type 0) where
  -- What holds as the calls begin and is kept by each call, which fits what came before it, holds after them.
  pub along_calls : (m : Story) (I : List Call → A → Type 0) → ((so_far : List Call) (call : Call) (a b : A) → I so_far a → CallFits (with_calls m so_far) call.visit call.given call.made → Stands entered left call.visit call.given call.made a b → I (so_far ++ call ∷ []) b) → (so_far calls : List Call) (a b : A) → AllCallsFit (with_calls m so_far) calls → Chain entered left calls a b → I so_far a → I (so_far ++ calls) b
  along_calls m I step so_far [] a b fit chain holds = subst (λ l. I l b) (sym (append-nil so_far)) (subst (I so_far) chain holds)
  along_calls m I step so_far (call ∷ calls) a b fit chain holds =
      subst (λ l. I l b) (append_assoc so_far (call ∷ []) calls)
      (along_calls m I step (so_far ++ call ∷ []) calls chain.0 b (subst (λ l. AllCallsFit (record m { calls = l }) calls) (append_assoc m.calls so_far (call ∷ [])) fit.1) chain.2 (step so_far call a chain.0 holds fit.0 chain.1))

  -- Where each call keeps one part and adds to a list, all of them do.
  pub calls_collect : {K R : Type 0} (kept : A → K) (list : A → List R) (adds : K → Call → List R) → Collects entered left kept list adds
  calls_collect kept list adds m step calls a b fit chain =
      along_calls m (λ so_far x. (kept x ≡ kept a) × (list x ≡ list a ++ flat_map (adds (kept a)) so_far))
      (λ so_far call x y holds fits stands.
      let one = step so_far call x y fits stands in (
        one.0 ∙ holds.0,
        one.1 ∙ (ap (λ k. list x ++ adds k call) holds.0 ∙ (ap (λ l. l ++ adds (kept a) call) holds.1 ∙ (append_assoc (list a) (flat_map (adds (kept a)) so_far) (adds (kept a) call) ∙ ap (λ l. list a ++ l) (sym (flat_map-append (adds (kept a)) so_far (call ∷ []) ∙ ap (λ l. flat_map (adds (kept a)) so_far ++ l) (append-nil (adds (kept a) call))))))),
      ))
      [] calls a b (subst (λ l. AllCallsFit (record m { calls = l }) calls) (sym (append-nil m.calls)) fit) chain (refl, sym (append-nil (list a)))

  -- What each call says of its own views, whatever the visitor then is, holds of every call.
  pub each_call : (m : Story) (Same : A → Type 0) (P : Call → Type 0) → ((so_far : List Call) (call : Call) (a b : A) → Same a → CallFits (with_calls m so_far) call.visit call.given call.made → Stands entered left call.visit call.given call.made a b → Same b × P call) → (so_far calls : List Call) (a b : A) → AllCallsFit (with_calls m so_far) calls → Chain entered left calls a b → Same a → (call : Call) → IsAmong call calls → P call
  each_call m Same P step so_far [] a b fit chain same call among = absurd (nothing among.before among.place)
    where
      nothing : (xs : List Call) → [] ≡ xs ++ call ∷ among.after → ⊥
      nothing [] e = cc
      nothing (x ∷ xs) e = cc
  each_call m Same P step so_far (one ∷ calls) a b fit chain same call among =
      let first = step so_far one a chain.0 same fit.0 chain.1 in
      by among.before among.place first.1 (λ rest. each_call m Same P step (so_far ++ one ∷ []) calls chain.0 b (subst (λ l. AllCallsFit (record m { calls = l }) calls) (append_assoc m.calls so_far (one ∷ [])) fit.1) chain.2 first.0 call rest)
    where
      by : (xs : List Call) → one ∷ calls ≡ xs ++ call ∷ among.after → P one → (IsAmong call calls → P call) → P call
      by [] e here later = subst P (let h : one ≡ call = cc in h) here
      by (x ∷ xs) e here later = later (record { before = xs; after = among.after; place = (let h : calls ≡ xs ++ call ∷ among.after = cc in h) })
