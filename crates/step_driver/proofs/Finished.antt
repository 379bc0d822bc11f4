-- The secondary sweeps of all trees, and what they count, tree after tree.
use Rattle.std.proofs.Common.{◌≡◌, ◌≢◌, ℕ, zero, suc, ◌+◌, ◌<◌, ◌==◌, Bool, List, [], ◌∷◌, ◌++◌, map, if◌then◌else◌, refl, ap, ap₂, sym, subst, ◌∙◌, ⊎_elim, append-nil, arith}
use Rattle.std.specs.Prelude.{Option, None, slice_index_or}
use Rattle.std.proofs.lemmas.List.{get_or-map}
use Rattle.std.proofs.lemmas.Bool.{cases_eq, eq-eqb, ne_eqb}
use Rattle.peano_keys.specs.declared.cell.CellKey.{CellKey}
use Rattle.peano_keys.specs.Field.{States}
use Rattle.peano_keys.specs.Next.{Splits, Merges}
use Rattle.peano_curve.specs.declared.order.Direction.{Direction}
use Rattle.curve_cuts.specs.Cuts.{Cuts, Owns, IsCutGrid}
use Rattle.curve_cuts.specs.Enclave.{IsEnclave}
use Rattle.peano_records.specs.declared.partials.Partial.{Partial}
use Rattle.vertex_stacks.specs.declared.kind.Kind.TheVariants.{Secondary}
use Rattle.vertex_stacks.specs.Notes.{Note}
use Rattle.vertex_stacks.specs.Tales.{capped, with_note}
use Rattle.tree_automaton.specs.TreeLists.{TreeLists}
use Rattle.step_phases.specs.Change.{Change}
use Rattle.spacetree.specs.Counts.{CountsCells}
use Rattle.step_world.specs.Counts.{total}
use Rattle.step_world.specs.Failing.{FailsAmong, IsLeastFound}
use Rattle.step_world.specs.Notes.{note_over}
use Rattle.step_sweeps.specs.declared.tally.Tally.{Tally}
use Rattle.step_sweeps.specs.Kernels.{Kernel}
use Rattle.step_sweeps.specs.Sweeps.{CountsOwn, IsSecondarySwept}
use Rattle.shared_sums.specs.Adding.{partials_in}
use Rattle.step_driver.specs.declared.finishing.Findings.{Findings}
use Rattle.step_driver.specs.declared.finishing.TreeFindings.{TreeFindings}
use Rattle.step_driver.specs.declared.beside.Swept.{Swept}
use Rattle.step_driver.specs.Gives.{EachGives}
use Rattle.step_driver.specs.Stores.{store_of, ChangesEach}
use Rattle.step_driver.specs.Notes.{sizes_of}
use Rattle.step_driver.specs.Computing.{least_with}
use Rattle.step_driver.specs.Finishing.{AllMarked, Finishes, IsFinishedTree, CountsFirst, CountedFirst}
use Rattle.step_driver.proofs.Gives.{each_changes_at}
use Rattle.step_driver.proofs.Counts.{note_plain}
use Rattle.step_driver.proofs.Least.{found_with, here, there, least_more}
use Rattle.step_driver.proofs.Notes.{next, one_noted}

-- sums of the same numbers
total_same : (m : ℕ) (a b : ℕ → ℕ) → ((t : ℕ) → t < m → a t ≡ b t) → total m a ≡ total m b
total_same zero a b same = refl
total_same (suc m) a b same = ap₂ (λ x y. x + y) (same m (omega arith)) (total_same m a b (λ t below. same t (omega (arith, below))))

capped_sum : (a b : ℕ) → capped (capped a + capped b) ≡ capped (b + a)
capped_sum a b = omega arith

module _ (k : Cuts) (P : CellKey → Type 0) where
  none_counted : CountsFirst k P 0 0
  none_counted = record { counts = λ t. 0; each = λ t below. absurd (omega (arith, below)); told = refl }

  module _ (m n x : ℕ) (h : CountsFirst k P m n) (own : CountsOwn k m P x) where
    abbrev counts : ℕ → ℕ
    counts t = if t == m then own.count else h.counts t

    at : counts m ≡ own.count
    at = ap (λ (q : Bool). if q then own.count else h.counts m) (eq-eqb m m refl)

    off : (t : ℕ) → t ≢ m → counts t ≡ h.counts t
    off t apart = ap (λ (q : Bool). if q then own.count else h.counts t) (ne_eqb t m apart)

    sum : total (suc m) counts ≡ own.count + total m h.counts
    sum = ap₂ (λ a b. a + b) at (total_same m counts h.counts (λ t below. off t (λ e. omega (arith, below, e))))

    -- one tree more
    counted_more : CountsFirst k P (m + 1) (capped (n + x))
    counted_more = record {
      counts = counts;
      each = λ t below. ⊎_elim
          (λ e. subst (λ (s : ℕ). CountsCells (λ c. Owns k s c × P c) (counts s)) (sym e) (subst (λ (q : ℕ). CountsCells (λ c. Owns k m c × P c) q) (sym at) own.counts))
          (λ apart. subst (λ (q : ℕ). CountsCells (λ c. Owns k t c × P c) q) (sym (off t apart)) (h.each t (omega (arith, below, apart))))
          (cases_eq t m);
      told = ap₂ (λ a b. capped (a + b)) h.told own.told ∙ capped_sum (total m h.counts) own.count ∙ ap capped (sym sum ∙ ap (λ q. total q counts) (next m));
    }

module _ (kernel : Kernel) (k : Cuts) (step : ℕ) where
  -- to begin with nothing is counted
  pub none_finished : (w : Change) (old : List Note) → CountedFirst k w step 0 old old (record { failing = None; turnover = record { splits = 0; merges = 0 } })
  none_finished w old = record {
    noted = sym (append-nil old);
    splits = none_counted k (Splits w.old w.mark);
    merges = none_counted k (Merges w.old w.mark);
    failing = λ t. None;
    tells = λ t below. absurd (omega (arith, below));
    least = λ s below. refl;
  }

  module _ (dir : Direction) (w : Change) (f : States) where
    abbrev mine : ℕ → Note
    mine t = note_over (sizes_of k) step Secondary w.old t

    -- what one tree's sweep gives, by the tree's number
    pub record GivesFinished (t : ℕ) (x y : TreeLists) (note : Note) (tally : Tally) (partials : List Partial) : Type 0 where
      pub tree : IsFinishedTree k kernel.parts dir w step t x y partials
      pub note_is : note ≡ mine t
      pub splits : CountsOwn k t (Splits w.old w.mark) tally.splits
      pub merges : CountsOwn k t (Merges w.old w.mark) tally.merges
      pub failing : FailsAmong (IsEnclave k w.old t) w.next tally.failing

    gives_own : (x y : TreeLists) (note : Note) (tally : Tally) (partials : List Partial) → IsCutGrid k w.old → IsSecondarySwept k kernel.parts dir w step x y note tally partials → GivesFinished x.tree x y note tally partials
    gives_own x y note tally partials fits h =
        let noted : note ≡ mine x.tree = h.noted.counts ∙ note_plain k w.old dir Secondary step x.tree fits in
        record {
          tree = record { lists = h.lists; summed = h.summed; tale = h.noted.tale ∙ ap (with_note x.lanes.tale) noted };
          note_is = noted;
          splits = h.tallied.splits;
          merges = h.tallied.merges;
          failing = h.tallied.failing;
        }

    gives_finished : (t : ℕ) (x y : TreeLists) (note : Note) (tally : Tally) (partials : List Partial) → IsCutGrid k w.old → x.tree ≡ t → IsSecondarySwept k kernel.parts dir w step x y note tally partials → GivesFinished t x y note tally partials
    gives_finished t x y note tally partials fits is h = subst (λ n. GivesFinished n x y note tally partials) is (gives_own x y note tally partials fits h)

    gives_at : (before : List TreeLists) (m : ℕ) (r : Swept TreeFindings) → AllMarked kernel k dir w f before → m < k.trees → Finishes kernel k step (store_of before m) r → GivesFinished m (store_of before m) r.store r.note r.found.tally r.found.partials
    gives_at before m r all below finishes = gives_finished m (store_of before m) r.store r.note r.found.tally r.found.partials (all.each m below).grid (all.number m below) (finishes dir w f (all.each m below))

    -- the stores of all trees, and their partials
    pub stores_finished : (before after : List TreeLists) (partials : List (List Partial)) (swept : List (Swept TreeFindings)) → AllMarked kernel k dir w f before → EachGives (Finishes kernel k step) before swept → after ≡ map (λ (r : Swept TreeFindings). r.store) swept → partials ≡ map (λ (r : Swept TreeFindings). r.found.partials) swept →
        ChangesEach (λ t x y. IsFinishedTree k kernel.parts dir w step t x y (partials_in partials t)) k.trees before after
    stores_finished before after partials swept all gives is are = each_changes_at (Finishes kernel k step) (λ t x y. IsFinishedTree k kernel.parts dir w step t x y (partials_in partials t)) (λ (r : Swept TreeFindings). r.store) k.trees before after swept all.count gives is
        (λ t e below there finishes.
        let r = slice_index_or swept t e in
        subst (IsFinishedTree k kernel.parts dir w step t (store_of before t) r.store) (sym (ap (λ xs. partials_in xs t) are ∙ get_or-map (λ (x : Swept TreeFindings). x.found.partials) swept t e [] there)) (gives_at before t r all below finishes).tree)

    -- and what one tree more counts
    pub finished_more : (m : ℕ) (before : List TreeLists) (old notes : List Note) (r : Swept TreeFindings) (found after : Findings) → AllMarked kernel k dir w f before → m < k.trees →
        CountedFirst k w step m old notes found → Finishes kernel k step (store_of before m) r → after.failing ≡ least_with found.failing r.found.tally.failing →
        after.turnover.splits ≡ capped (found.turnover.splits + r.found.tally.splits) → after.turnover.merges ≡ capped (found.turnover.merges + r.found.tally.merges) →
        CountedFirst k w step (m + 1) old (notes ++ r.note ∷ []) after
    finished_more m before old notes r found after all below h finishes failing splits merges =
        let gives = gives_at before m r all below finishes in
        record {
          noted = ap (λ (xs : List Note). xs ++ r.note ∷ []) h.noted ∙ one_noted mine m old r.note gives.note_is;
          splits = subst (λ (n : ℕ). CountsFirst k (Splits w.old w.mark) (m + 1) n) (sym splits) (counted_more k (Splits w.old w.mark) m found.turnover.splits r.found.tally.splits h.splits gives.splits);
          merges = subst (λ (n : ℕ). CountsFirst k (Merges w.old w.mark) (m + 1) n) (sym merges) (counted_more k (Merges w.old w.mark) m found.turnover.merges r.found.tally.merges h.merges gives.merges);
          failing = found_with m r.found.tally.failing h.failing;
          tells = λ t inside. ⊎_elim
              (λ e. subst (λ n. FailsAmong (IsEnclave k w.old n) w.next (found_with m r.found.tally.failing h.failing n)) (sym e) (subst (λ (o : Option CellKey). FailsAmong (IsEnclave k w.old m) w.next o) (sym (here m r.found.tally.failing h.failing)) gives.failing))
              (λ apart. subst (λ (o : Option CellKey). FailsAmong (IsEnclave k w.old t) w.next o) (sym (there m r.found.tally.failing h.failing t apart)) (h.tells t (omega (arith, inside, apart))))
              (cases_eq t m);
          least = subst (IsLeastFound (m + 1) (found_with m r.found.tally.failing h.failing)) (sym failing) (least_more m h.failing found.failing r.found.tally.failing h.least);
        }
