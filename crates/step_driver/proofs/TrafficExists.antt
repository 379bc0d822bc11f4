-- The traffic of all trees exists: that of each tree, one after another.
use Rattle.std.proofs.Common.{◌≡◌, ⊎_elim, ℕ, zero, suc, ◌<◌, ◌≤◌, List, [], ◌∷◌, ◌++◌, length, length-append, refl, sym, ap, ◌∙◌, subst, arith}
use Rattle.std.specs.Prelude.{slice_index_or}
use Rattle.std.proofs.lemmas.Bool.{cases_lt}
use Rattle.std.proofs.lemmas.List.{get_or_append_left}
use Rattle.std.proofs.Math.Seq.{get_or-append_seam}
use Rattle.peano_keys.specs.Grid.{Spacetree}
use Rattle.curve_cuts.specs.Cuts.{Cuts, IsCutGrid}
use Rattle.field_report.specs.declared.traffic.Traffic.{Traffic}
use Rattle.showing_sweep.specs.Shown.{Amounts, AreAmounts}
use Rattle.showing_sweep.proofs.AmountsExist.{amounts_exist}
use Rattle.step_driver.specs.Showing.{TellsTraffic, TrafficExists}

module _ (k : Cuts) (g : Spacetree) (fits : IsCutGrid k g) where
  -- of the first trees
  pub record TellFirst (m : ℕ) (list : List Traffic) : Type 0 where
    pub count : length list ≡ m
    pub each : (t : ℕ) (d : Traffic) → t < m → TellsTraffic k g t (slice_index_or list t d)

  abbrev traffic_of : ℕ → Amounts → Traffic
  traffic_of t n = record { tree = t; cells = n.cells; stored = n.stored; pushes = n.pushes; hanging = n.hanging; enclave = n.enclave; skeleton = n.skeleton; sent = n.sent }

  first_told : (m : ℕ) → m ≤ k.trees → (list : List Traffic) × TellFirst m list
  first_told zero h = ([], record { count = refl; each = λ t d below. absurd (omega (arith, below)) })
  first_told (suc m) h =
      let rest = first_told m (omega (arith, h)) in
      let amounts = amounts_exist k g m fits (omega (arith, h)) in
      let last : Traffic = traffic_of m amounts.0 in
      let count = rest.1.count in (
        rest.0 ++ last ∷ [],
        record {
          count = length-append rest.0 (last ∷ []) ∙ (omega (arith, count));
          each = λ t d below. ⊎_elim
              (λ old. subst (TellsTraffic k g t) (sym (get_or_append_left rest.0 (last ∷ []) d t (omega (arith, old, count)))) (rest.1.each t d old))
              (λ new.
              let e : t ≡ m = omega (arith, below, new) in
              let is : slice_index_or (rest.0 ++ last ∷ []) t d ≡ last = ap (λ i. slice_index_or (rest.0 ++ last ∷ []) i d) (e ∙ sym count) ∙ get_or-append_seam rest.0 last [] d in
              subst (TellsTraffic k g t) (sym is) (record { tree = sym e; amounts = subst (λ i. AreAmounts k g i amounts.0) (sym e) amounts.1 }))
              (cases_lt t m);
        },
      )

pub traffic_exists : TrafficExists
traffic_exists k g fits =
    let all = first_told k g fits k.trees (omega arith) in
    (all.0, record { count = all.1.count; each = all.1.each })
