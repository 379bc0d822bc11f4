-- The keys that trees have after a step: they are one, and how those after one step follow those before it.
use Rattle.std.proofs.Common.{◌≡◌, ℕ, zero, suc, ◌-◌, ◌%◌, ◌==◌, ◌<◌, ◌≤◌, Bool, true, false, Option, Some, None, refl, ap, sym, subst, ◌∙◌, ⊎_elim, arith}
use Rattle.std.proofs.Math.Nat.{eq-or-lt_of_le, mod-zero, mod-lt, mod-eq_of_lt, mod_self, suc-mod}
use Rattle.std.proofs.lemmas.Bool.{false≢true}
use Rattle.std.proofs.lemmas.Bool.Decides.{eqb_tells}
use Rattle.peano_keys.specs.Grid.{Spacetree}
use Rattle.peano_keys.specs.Field.{States}
use Rattle.volume_solver.specs.Any.{updated_by, marked_by}
use Rattle.spacetree.specs.Evaluation.{Evaluates}
use Rattle.spacetree.proofs.Unique.{Both, one_end}
use Rattle.curve_cuts.specs.Keys.{CutPoints, cuts_of}
use Rattle.step_driver.specs.Notes.{recuts_in}
use Rattle.step_driver.specs.Starts.{AreEqualKeys}
use Rattle.step_driver.specs.Advances.{AreKeysAfter}
use Rattle.grid_file.specs.declared.plan.Plan.{Plan}
use Rattle.peano_run.specs.Report.{AreKeysAt, last_cut}
use Rattle.peano_run.proofs.OneKeys.{one_keys}

-- a remainder goes up by one where it does not fall to 0
goes_up : (n m : ℕ) → (suc n % m ≡ 0 → ⊥) → suc n % m ≡ suc (n % m)
goes_up n zero apart = mod-zero (suc n) ∙ ap suc (sym (mod-zero n))
goes_up n (suc k) apart =
    let low : suc (n % suc k) ≤ suc k = (let l = mod-lt n {m = suc k} (omega arith) in omega (arith, l)) in
    ⊎_elim (λ e. absurd (apart (suc-mod n (suc k) ∙ ap (λ x. x % suc k) e ∙ mod_self (suc k)))) (λ l. suc-mod n (suc k) ∙ mod-eq_of_lt l) (eq-or-lt_of_le low)

less_both : (a b : ℕ) → suc a - suc b ≡ a - b
less_both a b = omega arith

less_none : (a b : ℕ) → b ≡ 0 → a - b ≡ a
less_none a b e = omega (arith, e)

is_zero : (n : ℕ) → (n == 0) ≡ true → n ≡ 0
is_zero n e = ⊎_elim (λ same. same.1) (λ other. absurd (false≢true (sym other.0 ∙ e))) (eqb_tells n 0)

no_zero : (n : ℕ) → (n == 0) ≡ false → n ≡ 0 → ⊥
no_zero n e = ⊎_elim (λ same _. false≢true (sym e ∙ same.0)) (λ other. other.1) (eqb_tells n 0)

-- the last step after which trees were cut is that step,
cut_here : (every : Option ℕ) (n : ℕ) → recuts_in every n ≡ true → last_cut every n ≡ n
cut_here None n e = absurd (false≢true e)
cut_here (Some m) n e = less_none n (n % m) (is_zero (n % m) e)

-- or that of the step before it
not_cut : (every : Option ℕ) (n : ℕ) → recuts_in every (suc n) ≡ false → last_cut every (suc n) ≡ last_cut every n
not_cut None n e = refl
not_cut (Some m) n e = ap (λ x. suc n - x) (goes_up n m (no_zero (suc n % m) e)) ∙ less_both n (n % m)

cut_first : (every : Option ℕ) → last_cut every 0 ≡ 0
cut_first None = refl
cut_first (Some m) = omega arith

-- after a step trees have one list of keys
pub one_keys_after : (b : Bool) (g : Spacetree) (old p q : CutPoints) → AreKeysAfter b g old p → AreKeysAfter b g old q → p ≡ q
one_keys_after true g old p q h j = one_keys old.depth g (cuts_of old).trees p q h j
one_keys_after false g old p q h j = h ∙ sym j

-- equal shares are of so many trees, and of the depth
pub shares_count : (depth : ℕ) (g : Spacetree) (trees : ℕ) (keys : CutPoints) → AreEqualKeys depth g trees keys → (cuts_of keys).trees ≡ trees
shares_count depth g trees keys h = let count = h.2.trees in omega (arith, count)

pub shares_after : (depth : ℕ) (g : Spacetree) (trees : ℕ) (old new : CutPoints) → old.depth ≡ depth → (cuts_of old).trees ≡ trees → AreEqualKeys old.depth g (cuts_of old).trees new → AreEqualKeys depth g trees new
shares_after depth g trees old new deep count h = subst (λ n. AreEqualKeys depth g n new) count (subst (λ l. AreEqualKeys l g (cuts_of old).trees new) deep h)

pub shares_before : (depth : ℕ) (g : Spacetree) (trees : ℕ) (old new : CutPoints) → old.depth ≡ depth → (cuts_of old).trees ≡ trees → AreEqualKeys depth g trees new → AreEqualKeys old.depth g (cuts_of old).trees new
shares_before depth g trees old new deep count h = subst (λ n. AreEqualKeys old.depth g n new) (sym count) (subst (λ l. AreEqualKeys l g trees new) (sym deep) h)

module _ (trees : ℕ) (plan : Plan) (g : Spacetree) (f : States) where
  abbrev Leads : ℕ → Spacetree → States → Type 0
  Leads n h a = Evaluates (updated_by plan.solver) (marked_by plan.solver) g f n h a

  abbrev KeysAt : ℕ → CutPoints → Type 0
  KeysAt n keys = AreKeysAt trees plan g f n keys

  -- what the evaluation leads to in the same number of steps is the same grid
  same_shares : (n : ℕ) (h : Spacetree) (a : States) (u : Spacetree) (b : States) (keys : CutPoints) → Leads n h a → Leads n u b → AreEqualKeys plan.shape.depth h trees keys → AreEqualKeys plan.shape.depth u trees keys
  same_shares n h a u b keys first second shares =
      let same : ◌≡◌ {A = Both} (h, a) (u, b) = one_end (updated_by plan.solver) (marked_by plan.solver) g f n h a u b first second in
      subst (λ (x : Both). AreEqualKeys plan.shape.depth x.0 trees keys) same shares

  pub one_keys_at : (s : ℕ) (p q : CutPoints) → KeysAt s p → KeysAt s q → p ≡ q
  one_keys_at s p q a b = one_keys plan.shape.depth b.grid trees p q (same_shares (last_cut plan.recut_every s) a.grid a.field b.grid b.field p a.led b.led a.shares) b.shares

  pub depth_at : (s : ℕ) (p : CutPoints) → KeysAt s p → p.depth ≡ plan.shape.depth
  depth_at s p h = h.shares.2.depth

  pub count_at : (s : ℕ) (p : CutPoints) → KeysAt s p → (cuts_of p).trees ≡ trees
  count_at s p h = shares_count plan.shape.depth h.grid trees p h.shares

  -- those of the opening grid,
  pub keys_first : (p : CutPoints) → AreEqualKeys plan.shape.depth g trees p → KeysAt 0 p
  keys_first p h = record { grid = g; field = f; led = subst (λ n. Leads n g f) (sym (cut_first plan.recut_every)) (refl, refl); shares = h }

  pub first_shares : (p : CutPoints) → KeysAt 0 p → AreEqualKeys plan.shape.depth g trees p
  first_shares p h = same_shares (last_cut plan.recut_every 0) h.grid h.field g f p h.led (subst (λ n. Leads n g f) (sym (cut_first plan.recut_every)) (refl, refl)) h.shares

  module _ (n : ℕ) (h : Spacetree) (a : States) (leads : Leads (suc n) h a) (old new : CutPoints) (at : KeysAt n old) where
    next_if : (b : Bool) → recuts_in plan.recut_every (suc n) ≡ b → AreKeysAfter b h old new → KeysAt (suc n) new
    next_if true e after = record {
      grid = h;
      field = a;
      led = subst (λ i. Leads i h a) (sym (cut_here plan.recut_every (suc n) e)) leads;
      shares = shares_after plan.shape.depth h trees old new (depth_at n old at) (count_at n old at) after;
    }
    next_if false e after = subst (KeysAt (suc n)) (sym after) (record {
      grid = at.grid;
      field = at.field;
      led = subst (λ i. Leads i at.grid at.field) (sym (not_cut plan.recut_every n e)) at.led;
      shares = at.shares;
    })

    -- those after a step, from those before it,
    pub keys_next : AreKeysAfter (recuts_in plan.recut_every (suc n)) h old new → KeysAt (suc n) new
    keys_next after = next_if (recuts_in plan.recut_every (suc n)) refl after

    back_if : (b : Bool) → recuts_in plan.recut_every (suc n) ≡ b → KeysAt (suc n) new → AreKeysAfter b h old new
    back_if true e next = shares_before plan.shape.depth h trees old new (depth_at n old at) (count_at n old at)
        (same_shares (suc n) next.grid next.field h a new (subst (λ i. Leads i next.grid next.field) (cut_here plan.recut_every (suc n) e) next.led) leads next.shares)
    back_if false e next = one_keys_at n new old (record {
      grid = next.grid;
      field = next.field;
      led = subst (λ i. Leads i next.grid next.field) (not_cut plan.recut_every n e) next.led;
      shares = next.shares;
    }) at

    -- and back
    pub keys_back : KeysAt (suc n) new → AreKeysAfter (recuts_in plan.recut_every (suc n)) h old new
    keys_back next = back_if (recuts_in plan.recut_every (suc n)) refl next
