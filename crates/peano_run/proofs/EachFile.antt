-- Each file has an outcome: a plan is led from step to step, until it has its report or is refused.
use Rattle.std.proofs.Common.{◌≡◌, ◌⊎◌, inl, inr, ℕ, zero, suc, ◌+◌, ◌<◌, ◌≤◌, ◌++◌, Bool, true, false, List, [], length, Result, Ok, Err, refl, sym, ap, ◌∙◌, subst, arith}
use Rattle.std.specs.FinSet as set
use Rattle.std.proofs.lemmas.Bool.{cases_lt, false≢true}
use Rattle.peano_keys.specs.declared.cell.CellKey.{CellKey}
use Rattle.peano_keys.specs.declared.dim.Dim.{Dim}
use Rattle.peano_keys.specs.declared.side.Mark.TheVariants.{Refine}
use Rattle.peano_keys.specs.Grid.{Spacetree, IsGrid}
use Rattle.peano_keys.specs.Field.{States, state_at, sides_of}
use Rattle.solver_api.specs.Step.{marks_of}
use Rattle.volume_solver.specs.Any.{updated_by, marked_by, parts_in, refined_in}
use Rattle.spacetree.specs.Build.{IsTooLarge, HasOpened}
use Rattle.spacetree.specs.Counts.{cells_for, cells_of}
use Rattle.spacetree.specs.Evaluation.{IsServedStep}
use Rattle.spacetree.specs.Opening.{Opens}
use Rattle.spacetree.proofs.CellCounts.{no_small_grid}
use Rattle.spacetree.proofs.LeadsOn.{each_step_leads_on}
use Rattle.spacetree.proofs.OpeningExists.{each_shape_opens, fills_open, opening_is_grid}
use Rattle.spacetree.proofs.Told.{at_most}
use Rattle.curve_cuts.specs.Cuts.{Cuts, IsCutGrid}
use Rattle.curve_cuts.specs.Keys.{CutPoints, cuts_of}
use Rattle.field_report.specs.Traffic.{traffic_block}
use Rattle.step_world.proofs.Worlds.{deep_grid, next_is_cut}
use Rattle.step_driver.specs.Notes.{recuts_in}
use Rattle.step_driver.specs.Advances.{AreKeysAfter}
use Rattle.step_driver.proofs.KeysExist.{equal_keys_exist}
use Rattle.step_driver.proofs.TrafficExists.{traffic_exists}
use Rattle.grid_file.specs.declared.plan.Plan.{Plan}
use Rattle.grid_file.specs.declared.fault.Malformed.{Malformed as Place}
use Rattle.grid_file.specs.Plan.{plan_of, printed}
use Rattle.grid_file.specs.Valid.{IsPlan}
use Rattle.grid_file.proofs.FileRange.{file_range}
use Rattle.peano_run.specs.declared.answer.Answer.{Answer}
use Rattle.peano_run.specs.declared.answer.Answer.TheVariants.{TooLong, Malformed, Limit, Crowded, Overflow, NoMemory}
use Rattle.peano_run.specs.declared.answer.LimitKind.TheVariants.{Cells, Lines}
use Rattle.peano_run.specs.declared.asked.Request.{Request}
use Rattle.peano_run.specs.Asked.{IsTreeCount}
use Rattle.peano_run.specs.Outcome.{EachFileHasAnOutcome, HasRefusal, HasReport}
use Rattle.peano_run.specs.Report.{Moment, GoesOn, IsReportOf, IsAdded, IsAddedIf, IsTrafficText, at_start, in_step, added_lines, fields_text, longest_input, most_lines, shows_traffic}
use Rattle.peano_run.proofs.CutKeys.{shares_before, shares_count}
use Rattle.peano_run.proofs.Blocks.{report_of}
use Rattle.peano_run.proofs.Fates.{Fate, too_large, too_long, overflows, crowded}

module _ (r : Request) (plan : Plan) where
  -- what a step shows exists
  traffic_text : (b : Bool) (k : Cuts) (step : ℕ) (g : Spacetree) → IsCutGrid k g → (text : List ℕ) × IsTrafficText b k step g text
  traffic_text true k step g fits = let all = traffic_exists k g fits in (traffic_block step all.0, (all.0, all.1, refl))
  traffic_text false k step g fits = ([], refl)

  added_if : (b : Bool) (k : Cuts) (step : ℕ) (g : Spacetree) (f : States) → IsCutGrid k g → (text : List ℕ) × IsAddedIf b r plan k step g f text
  added_if true k step g f fits = let traffic = traffic_text (shows_traffic r.show) k step g fits in (fields_text r plan step f ++ traffic.0, record { traffic = traffic.0; told = traffic.1; text_is = refl })
  added_if false k step g f fits = ([], refl)

  added : (k : Cuts) (step : ℕ) (g : Spacetree) (f : States) → IsCutGrid k g → (text : List ℕ) × IsAdded r plan k step g f text
  added k step g f fits = added_if (printed plan step) k step g f fits

  module _ (is : IsPlan plan) (trees : IsTreeCount r.trees) where
    -- a plan has come to a moment, whose grid is one for its trees
    pub record Comes (n : ℕ) : Type 0 where
      pub moment : Moment
      pub on : GoesOn r plan n moment
      pub fits : IsCutGrid (cuts_of moment.keys) moment.grid
      pub depth : moment.keys.depth ≡ plan.shape.depth
      pub count : (cuts_of moment.keys).trees ≡ r.trees

    -- or it has another fate
    abbrev pub HasFate : Type 0
    HasFate = (a : Answer) × Fate r plan a

    large : (g : Spacetree) → Opens plan.shape g → 200000 < cells_of g → IsTooLarge plan.shape
    large g opens many =
        let opened : HasOpened plan.shape g.refined = λ c e. (opens.refined c).0 e in
        let whole : 200000 < cells_for plan.shape.dim (set.len g.refined) = subst (λ (d : Dim). 200000 < cells_for d (set.len g.refined)) opens.dim many in
        record { refined = g.refined; opened = opened; many = whole; grids = no_small_grid plan.shape g.refined opened whole }

    module _ (g : Spacetree) (opens : Opens plan.shape g) (room : cells_of g ≤ 200000) where
      grid : IsGrid plan.shape.depth g
      grid = opening_is_grid plan.shape g is.shape opens

      begins_at : Comes 0 ⊎ HasFate
      begins_at =
          let f = fills_open g plan.fills (parts_in plan.solver) in
          let keys = equal_keys_exist plan.shape.depth g r.trees is.shape.depth grid trees.some trees.most in
          let text = added (cuts_of keys.0) 0 g f.0 keys.2 in
          let lines : ℕ = added_lines r plan 0 f.0 in
          elim (at_most lines most_lines) [
            | inl few ↦ inl record {
              moment = record { keys = keys.0; grid = g; field = f.0; text = text.0; lines = lines };
              on = record { reached = record { grid = opens; room = room; field = f.1; keys = keys.1; text = text.1; lines = refl }; room = few };
              fits = keys.2;
              depth = keys.1.2.depth;
              count = shares_count plan.shape.depth g r.trees keys.0 keys.1;
            }
            | inr many ↦ inr (Limit Lines most_lines, too_long refl (at_start g f.0 opens room f.1 (omega (arith, many))))
          ]

    begins : Comes 0 ⊎ HasFate
    begins =
        let g = each_shape_opens plan.shape in
        elim (at_most (cells_of g.0) 200000) [
          | inl room ↦ begins_at g.0 g.1 room
          | inr many ↦ inr (Limit Cells 200000, too_large refl (large g.0 g.1 (omega (arith, many))))
        ]

    module _ (n : ℕ) (more : n < plan.steps) (at : Comes n) where
      abbrev m : Moment
      m = at.moment

      -- the keys after a step to a grid, which is one for its trees
      pub record HasKeys (g : Spacetree) : Type 0 where
        pub keys : CutPoints
        pub after : AreKeysAfter (recuts_in plan.recut_every (suc n)) g m.keys keys
        pub fits : IsCutGrid (cuts_of keys) g
        pub depth : keys.depth ≡ plan.shape.depth
        pub count : (cuts_of keys).trees ≡ r.trees

      has_keys : (g : Spacetree) → IsCutGrid (cuts_of m.keys) g → HasKeys g
      has_keys g stays = of (recuts_in plan.recut_every (suc n)) refl where
        of : (b : Bool) → recuts_in plan.recut_every (suc n) ≡ b → HasKeys g
        of true e =
            let new = equal_keys_exist plan.shape.depth g r.trees is.shape.depth (subst (λ l. IsGrid l g) at.depth stays.grid) trees.some trees.most in
            record {
              keys = new.0;
              after = subst (λ b. AreKeysAfter b g m.keys new.0) (sym e) (shares_before plan.shape.depth g r.trees m.keys new.0 at.depth at.count new.1);
              fits = new.2;
              depth = new.1.2.depth;
              count = shares_count plan.shape.depth g r.trees new.0 new.1;
            }
        of false e = record {
          keys = m.keys;
          after = subst (λ b. AreKeysAfter b g m.keys m.keys) (sym e) refl;
          fits = stays;
          depth = at.depth;
          count = at.count;
        }

      served : (g : Spacetree) (f : States) → IsServedStep (updated_by plan.solver) (marked_by plan.solver) m.grid m.field g f → Comes (suc n) ⊎ HasFate
      served g f taken =
          let refines : (c : CellKey) → marks_of (marked_by plan.solver) m.grid m.field c ≡ Refine → c.level < m.keys.depth =
          λ c e. (let low = refined_in plan.solver (state_at m.field c) (sides_of m.grid m.field c) c.level e in let deepest = is.deepest in let deep = at.depth in omega (arith, low, deepest, deep)) in
          let new = has_keys g (next_is_cut (cuts_of m.keys) m.grid g (marks_of (marked_by plan.solver) m.grid m.field) at.fits taken.step.grid refines) in
          let text = added (cuts_of new.keys) (suc n) g f new.fits in
          let lines : ℕ = m.lines + added_lines r plan (suc n) f in
          elim (at_most lines most_lines) [
            | inl few ↦ inl record {
              moment = record { keys = new.keys; grid = g; field = f; text = m.text ++ text.0; lines = lines };
              on = record { reached = (m, at.on.reached, record { room = at.on.room; keys = new.after; taken = taken; added = text.0; shown = text.1; text = refl; lines = refl }); room = few };
              fits = new.fits;
              depth = new.depth;
              count = new.count;
            }
            | inr many ↦ inr (Limit Lines most_lines, too_long refl (in_step n m g f more at.on taken (omega (arith, many))))
          ]

      goes_on : Comes (suc n) ⊎ HasFate
      goes_on = elim (each_step_leads_on (updated_by plan.solver) (marked_by plan.solver) m.grid m.field (deep_grid (cuts_of m.keys) m.grid at.fits)) [
        | inl step ↦ served step.0 step.1 step.2
        | inr refused ↦ elim refused [
          | inl over ↦ inr (Overflow (suc n) over.0, overflows (suc n) over.0 refl (record { before = n; last = m; step_is = refl; within = omega (arith, more); reached = at.on; overflows = over.1 }))
          | inr crowd ↦ inr (Crowded (suc n) crowd.0, crowded (suc n) crowd.0 refl (record { before = n; last = m; step_is = refl; within = omega (arith, more); reached = at.on; crowds = crowd.1 }))
        ]
      ]

    comes : (n : ℕ) → n ≤ plan.steps → Comes n ⊎ HasFate
    comes zero h = begins
    comes (suc n) h = elim (comes n (omega (arith, h))) [ inl at ↦ goes_on n (omega (arith, h)) at | inr fate ↦ inr fate ]

    -- a plan has a report or another fate
    pub ends : ((text : List ℕ) × IsReportOf r plan text) ⊎ HasFate
    ends = elim (comes plan.steps (omega arith)) [
      | inl at ↦ inl (at.moment.text, report_of r plan at.moment at.moment.text at.on refl)
      | inr fate ↦ inr fate
    ]

-- an answer that is no want of memory
abbrev is_memory : Answer → Bool
is_memory NoMemory = true
is_memory _ = false

other : (a : Answer) → is_memory a ≡ false → a ≡ NoMemory → ⊥
other a h e = false≢true (sym h ∙ ap is_memory e)

-- a plan's fate is a refusal of its file
refused_by : (r : Request) (bytes : List ℕ) (plan : Plan) (a : Answer) → length bytes ≤ longest_input → plan_of bytes ≡ Ok plan → Fate r plan a → HasRefusal r bytes
refused_by r bytes plan a size read (too_large e h) = (Limit Cells 200000, record { size = size; plan = plan; read = read; holds = (refl, h) }, other (Limit Cells 200000) refl)
refused_by r bytes plan a size read (too_long e h) = (Limit Lines most_lines, record { size = size; plan = plan; read = read; holds = (refl, h) }, other (Limit Lines most_lines) refl)
refused_by r bytes plan a size read (overflows s leaf e h) = (Overflow s leaf, record { size = size; plan = plan; read = read; holds = h }, other (Overflow s leaf) refl)
refused_by r bytes plan a size read (crowded s cells e h) = (Crowded s cells, record { size = size; plan = plan; read = read; holds = h }, other (Crowded s cells) refl)

read_file : (r : Request) (bytes : List ℕ) (read : Result Plan Place) → IsTreeCount r.trees → length bytes ≤ longest_input → plan_of bytes ≡ read → HasReport r bytes ⊎ HasRefusal r bytes
read_file r bytes (Err m) trees size e = inr (Malformed m.code m.place, (size, e), other (Malformed m.code m.place) refl)
read_file r bytes (Ok plan) trees size e = elim (ends r plan (file_range bytes plan e) trees) [
  | inl report ↦ inl (report.0, record { size = size; plan = plan; read = e; holds = report.1 })
  | inr fate ↦ inr (refused_by r bytes plan fate.0 size e fate.1)
]

pub each_file_has_an_outcome : EachFileHasAnOutcome
each_file_has_an_outcome r bytes trees = elim (cases_lt longest_input (length bytes)) [
  | inl long ↦ inr (TooLong, long, other TooLong refl)
  | inr size ↦ read_file r bytes (plan_of bytes) trees size refl
]
