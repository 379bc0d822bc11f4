-- A report by the blocks of its steps is the one that a run comes to, moment by moment.
use Rattle.std.proofs.Common.{◌≡◌, ⊎_elim, ℕ, zero, suc, ◌+◌, ◌≤◌, List, [], ◌∷◌, ◌++◌, length, take, length-append, append-nil, refl, sym, ap, subst, ◌∙◌, arith, add-one}
use Rattle.std.specs.Prelude.{slice_index_or}
use Rattle.std.proofs.lemmas.Bool.{cases_lt}
use Rattle.std.proofs.lemmas.Grind.{flat_map-append}
use Rattle.std.proofs.lemmas.List.{get_or_append_left, take_all, take_more}
use Rattle.std.proofs.Math.Seq.{get_or-append_seam}
use Rattle.peano_keys.specs.Grid.{Spacetree}
use Rattle.peano_keys.specs.Field.{States}
use Rattle.volume_solver.specs.Any.{updated_by, marked_by}
use Rattle.spacetree.specs.Evaluation.{Evaluates, IsServedStep}
use Rattle.spacetree.proofs.Unique.{Both, one_end}
use Rattle.curve_cuts.specs.Keys.{cuts_of}
use Rattle.grid_file.specs.declared.plan.Plan.{Plan}
use Rattle.peano_run.specs.declared.asked.Request.{Request}
use Rattle.peano_run.specs.Report.{AreKeysAt, Block, BlockOf, GoesOn, IsAdded, IsReportOf, Moment, OpensRun, Reaches, added_lines, lines_in, texts_in}
use Rattle.peano_run.proofs.CutKeys.{keys_first, first_shares, keys_next, keys_back}

no_block : Block
no_block = record { text = []; lines = 0 }

texts_more : (bs : List Block) (b : Block) → texts_in (bs ++ b ∷ []) ≡ texts_in bs ++ b.text
texts_more bs b = flat_map-append (λ (x : Block). x.text) bs (b ∷ []) ∙ ap (λ t. texts_in bs ++ t) (append-nil b.text)

lines_more : (bs : List Block) (b : Block) → lines_in (bs ++ b ∷ []) ≡ lines_in bs + b.lines
lines_more [] b = omega arith
lines_more (x ∷ bs) b = let rest = lines_more bs b in omega (arith, rest)

lines_first : (n : ℕ) (bs : List Block) → lines_in (take n bs) ≤ lines_in bs
lines_first zero bs = omega arith
lines_first (suc n) [] = omega arith
lines_first (suc n) (b ∷ bs) = let rest = lines_first n bs in omega (arith, rest)

module _ (r : Request) (plan : Plan) where
  -- a moment, told by the blocks up to it
  pub record ToldBy (n : ℕ) (m : Moment) : Type 0 where
    pub grid : Spacetree
    pub field : States
    pub opens : OpensRun plan grid field
    pub led : Evaluates (updated_by plan.solver) (marked_by plan.solver) grid field n m.grid m.field
    pub cut : AreKeysAt r.trees plan grid field n m.keys
    pub blocks : List Block
    pub count : length blocks ≡ n + 1
    pub each : (s : ℕ) (d : Block) → s ≤ n → BlockOf r plan grid field s (slice_index_or blocks s d)
    pub text : m.text ≡ texts_in blocks
    pub lines : m.lines ≡ lines_in blocks

  told_by : (n : ℕ) (m : Moment) → Reaches r plan n m → ToldBy n m
  told_by zero m h =
      let first : Block = record { text = m.text; lines = m.lines } in
      let cut = keys_first r.trees plan m.grid m.field m.keys h.keys in
      record {
        grid = m.grid;
        field = m.field;
        opens = record { grid = h.grid; room = h.room; field = h.field };
        led = (refl, refl);
        cut = cut;
        blocks = first ∷ [];
        count = refl;
        each = λ s d low. subst (λ i. BlockOf r plan m.grid m.field i (slice_index_or (first ∷ []) i d)) (let e : 0 ≡ s = omega (arith, low) in e) (record { grid = m.grid; field = m.field; keys = m.keys; led = (refl, refl); cut = cut; told = h.text; counted = h.lines });
        text = sym (append-nil m.text);
        lines = omega arith;
      }
  told_by (suc n) m h =
      let before : Moment = h.0 in
      let rest = told_by n before h.1 in
      let step = h.2 in
      let last : Block = record { text = step.added; lines = added_lines r plan (suc n) m.field } in
      let count = rest.count in
      let led : Evaluates (updated_by plan.solver) (marked_by plan.solver) rest.grid rest.field (suc n) m.grid m.field = (before.grid, before.field, rest.led, step.taken) in
      let cut = keys_next r.trees plan rest.grid rest.field n m.grid m.field led before.keys m.keys rest.cut step.keys in
      record {
        grid = rest.grid;
        field = rest.field;
        opens = rest.opens;
        led = led;
        cut = cut;
        blocks = rest.blocks ++ last ∷ [];
        count = length-append rest.blocks (last ∷ []) ∙ omega (arith, count);
        each = λ s d low. ⊎_elim
            (λ old. subst (λ b. BlockOf r plan rest.grid rest.field s b) (sym (get_or_append_left rest.blocks (last ∷ []) d s (omega (arith, old, count)))) (rest.each s d (omega (arith, old))))
            (λ new.
            let e : s ≡ suc n = omega (arith, low, new) in
            let is : slice_index_or (rest.blocks ++ last ∷ []) s d ≡ last = ap (λ i. slice_index_or (rest.blocks ++ last ∷ []) i d) (let f : s ≡ length rest.blocks = omega (arith, e, count) in f) ∙ get_or-append_seam rest.blocks last [] d in
            subst (λ b. BlockOf r plan rest.grid rest.field s b) (sym is) (subst (λ i. BlockOf r plan rest.grid rest.field i last) (sym e) (record { grid = m.grid; field = m.field; keys = m.keys; led = led; cut = cut; told = step.shown; counted = refl })))
            (cases_lt s (suc n));
        text = step.text ∙ ap (λ t. t ++ step.added) rest.text ∙ sym (texts_more rest.blocks last);
        lines = step.lines ∙ ap (λ k. k + added_lines r plan (suc n) m.field) rest.lines ∙ sym (lines_more rest.blocks last);
      }

  -- the moment after the last step has the report
  pub report_of : (m : Moment) (text : List ℕ) → GoesOn r plan plan.steps m → text ≡ m.text → IsReportOf r plan text
  report_of m text h e =
      let all = told_by plan.steps m h.reached in
      let lines = all.lines in
      let room = h.room in
      record {
        grid = all.grid;
        field = all.field;
        opens = all.opens;
        blocks = all.blocks;
        count = all.count;
        each = all.each;
        text_is = e ∙ all.text;
        room = omega (arith, lines, room);
      }

  module _ (text : List ℕ) (h : IsReportOf r plan text) where
    -- and back: the moments that the blocks tell of
    pub record ComesBy (n : ℕ) : Type 0 where
      pub moment : Moment
      pub reached : Reaches r plan n moment
      pub cut : AreKeysAt r.trees plan h.grid h.field n moment.keys
      pub led : Evaluates (updated_by plan.solver) (marked_by plan.solver) h.grid h.field n moment.grid moment.field
      pub text_is : moment.text ≡ texts_in (take (n + 1) h.blocks)
      pub lines : moment.lines ≡ lines_in (take (n + 1) h.blocks)

    abbrev block_at : ℕ → Block
    block_at s = slice_index_or h.blocks s no_block

    taken : (n : ℕ) → n ≤ plan.steps → take (n + 1) h.blocks ≡ take n h.blocks ++ block_at n ∷ []
    taken n low = take_more h.blocks n no_block (let count = h.count in omega (arith, low, count))

    texts_at : (n : ℕ) → n ≤ plan.steps → texts_in (take (n + 1) h.blocks) ≡ texts_in (take n h.blocks) ++ (block_at n).text
    texts_at n low = ap texts_in (taken n low) ∙ texts_more (take n h.blocks) (block_at n)

    lines_at : (n : ℕ) → n ≤ plan.steps → lines_in (take (n + 1) h.blocks) ≡ lines_in (take n h.blocks) + (block_at n).lines
    lines_at n low = ap lines_in (taken n low) ∙ lines_more (take n h.blocks) (block_at n)

    comes_by : (n : ℕ) → n ≤ plan.steps → ComesBy n
    comes_by zero low =
        let b = h.each 0 no_block low in
        let told : IsAdded r plan (cuts_of b.keys) 0 h.grid h.field (block_at 0).text =
        subst (λ (f : States). IsAdded r plan (cuts_of b.keys) 0 h.grid f (block_at 0).text) b.led.1 (subst (λ (g : Spacetree). IsAdded r plan (cuts_of b.keys) 0 g b.field (block_at 0).text) b.led.0 b.told) in
        record {
          moment = record { keys = b.keys; grid = h.grid; field = h.field; text = (block_at 0).text; lines = (block_at 0).lines };
          reached = record { grid = h.opens.grid; room = h.opens.room; field = h.opens.field; keys = first_shares r.trees plan h.grid h.field b.keys b.cut; text = told; lines = b.counted ∙ ap (added_lines r plan 0) b.led.1 };
          cut = b.cut;
          led = (refl, refl);
          text_is = sym (texts_at 0 low);
          lines = (let all = lines_at 0 low in omega (arith, all));
        }
    comes_by (suc n) low =
        let rest = comes_by n (omega (arith, low)) in
        let b = h.each (suc n) no_block low in
        let last : Block = block_at (suc n) in
        let same : ◌≡◌ {A = Both} (b.led.0, b.led.1) (rest.moment.grid, rest.moment.field) = one_end (updated_by plan.solver) (marked_by plan.solver) h.grid h.field n b.led.0 b.led.1 rest.moment.grid rest.moment.field b.led.2 rest.led in
        let served = subst (λ (p : Both). IsServedStep (updated_by plan.solver) (marked_by plan.solver) p.0 p.1 b.grid b.field) same b.led.3 in
        let led : Evaluates (updated_by plan.solver) (marked_by plan.solver) h.grid h.field (suc n) b.grid b.field = (rest.moment.grid, rest.moment.field, rest.led, served) in
        let few = lines_first (n + 1) h.blocks in
        let lines = rest.lines in
        let texts_before = rest.text_is ∙ ap (λ i. texts_in (take i h.blocks)) (add-one n) in
        let lines_before = rest.lines ∙ ap (λ i. lines_in (take i h.blocks)) (add-one n) in
        let room = h.room in
        record {
          moment = record { keys = b.keys; grid = b.grid; field = b.field; text = rest.moment.text ++ last.text; lines = rest.moment.lines + last.lines };
          reached = (
            rest.moment,
            rest.reached,
            record {
              room = omega (arith, few, lines, room);
              keys = keys_back r.trees plan h.grid h.field n b.grid b.field led rest.moment.keys b.keys rest.cut b.cut;
              taken = served;
              added = last.text;
              shown = b.told;
              text = refl;
              lines = ap (λ k. rest.moment.lines + k) b.counted;
            },
          );
          cut = b.cut;
          led = led;
          text_is = ap (λ t. t ++ last.text) texts_before ∙ sym (texts_at (suc n) low);
          lines = (let all = lines_at (suc n) low in omega (arith, all, lines_before));
        }

    -- a report is that of the moment after the last step
    pub last_moment : (m : Moment) × GoesOn r plan plan.steps m × (text ≡ m.text)
    last_moment =
        let last = comes_by plan.steps (omega arith) in
        let all : take (plan.steps + 1) h.blocks ≡ h.blocks = take_all (plan.steps + 1) h.blocks (let count = h.count in omega (arith, count)) in
        let lines = last.lines in
        let same = ap lines_in all in
        let room = h.room in
        (last.moment, record { reached = last.reached; room = omega (arith, lines, same, room) }, h.text_is ∙ ap texts_in (sym all) ∙ sym last.text_is)
