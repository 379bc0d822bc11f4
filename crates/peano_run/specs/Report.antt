-- The course of a run, step by step, and what it comes to: the report of a file, or the cause of a refusal.
use Rattle.std.specs.Prelude.{◌≡◌, ℕ, zero, suc, ◌+◌, ◌-◌, ◌%◌, ◌<◌, ◌≤◌, ◌&&◌, Bool, true, false, List, [], ◌∷◌, ◌++◌, length, flat_map, slice_index_or, if◌then◌else◌, Option, None, Some, Ok, Err}
use Rattle.peano_keys.specs.declared.cell.CellKey.{CellKey}
use Rattle.peano_keys.specs.Grid.{Spacetree}
use Rattle.peano_keys.specs.Field.{States}
use Rattle.solver_api.specs.Step.{Overflows}
use Rattle.volume_solver.specs.Any.{updated_by, marked_by, parts_in}
use Rattle.spacetree.specs.declared.limits.TheConstants.{MOST_CELLS}
use Rattle.spacetree.specs.Opening.{Opens, OpensField}
use Rattle.spacetree.specs.Build.{IsTooLarge}
use Rattle.spacetree.specs.Counts.{cells_of}
use Rattle.spacetree.specs.Evaluation.{Evaluates, IsServedStep, Crowds}
use Rattle.spacetree.specs.Fields.{rows_of}
use Rattle.grid_file.specs.declared.plan.Plan.{Plan}
use Rattle.peano_run.specs.declared.answer.Answer.{Answer}
use Rattle.peano_run.specs.declared.answer.Answer.TheVariants.{TooLong, Malformed, Limit, Crowded, Overflow, NoMemory}
use Rattle.peano_run.specs.declared.answer.LimitKind.TheVariants.{Cells, Lines}
use Rattle.grid_file.specs.Plan.{plan_of, printed}
use Rattle.field_report.specs.Block.{field_block}
use Rattle.field_report.specs.Traffic.{traffic_block}
use Rattle.field_report.specs.declared.traffic.Traffic.{Traffic}
use Rattle.curve_cuts.specs.Cuts.{Cuts}
use Rattle.curve_cuts.specs.Keys.{CutPoints, cuts_of}
use Rattle.command_line.specs.declared.words.ShowWhat.{ShowWhat}
use Rattle.command_line.specs.declared.words.ShowWhat.TheVariants.{Fields, Traffic as TrafficAlone, All}
use Rattle.step_driver.specs.Notes.{recuts_in}
use Rattle.step_driver.specs.Showing.{TellTraffic}
use Rattle.step_driver.specs.Starts.{AreEqualKeys}
use Rattle.step_driver.specs.Advances.{AreKeysAfter}
use Rattle.peano_run.specs.declared.asked.Request.{Request}

-- the longest input that is read
abbrev pub longest_input : ℕ
longest_input = 1048576

-- the most leaf lines of a report
abbrev pub most_lines : ℕ
most_lines = 500000

-- a moment of a run, after some of its steps: the keys of its trees, the grid, the field, the report so far, and how many leaf lines it has
pub record Moment : Type 0 where
  pub keys : CutPoints
  pub grid : Spacetree
  pub field : States
  pub text : List ℕ
  pub lines : ℕ

-- the greatest step up to one after which the trees are cut anew, a multiple of a number; 0 where they never are
abbrev pub last_cut : Option ℕ → ℕ → ℕ
last_cut None step = 0
last_cut (Some every) step = step - step % every

-- the keys that so many trees have after a step of a plan's run from an opening grid and field: those of equal shares of the grid to which the evaluation leads in the last step up to it after which they are cut
pub record AreKeysAt (trees : ℕ) (plan : Plan) (g : Spacetree) (f : States) (step : ℕ)
    (keys : CutPoints) : Type 0 where
  pub grid : Spacetree
  pub field : States
  pub led : Evaluates (updated_by plan.solver) (marked_by plan.solver)
      g f (last_cut plan.recut_every step) grid field
  pub shares : AreEqualKeys plan.shape.depth grid trees keys

-- whether fields are shown, and whether traffic is
abbrev pub shows_fields : ShowWhat → Bool
shows_fields Fields = true
shows_fields TrafficAlone = false
shows_fields All = true

-- whether traffic is shown
abbrev pub shows_traffic : ShowWhat → Bool
shows_traffic Fields = false
shows_traffic TrafficAlone = true
shows_traffic All = true

-- the field block of a printed step, where fields are shown
abbrev pub fields_text : Request → Plan → ℕ → States → List ℕ
fields_text r plan step f = if shows_fields r.show then field_block plan.shape.dim step (rows_of f)
    else []

-- a text is the traffic block of a printed step, where traffic is shown
abbrev pub IsTrafficText : Bool → Cuts → ℕ → Spacetree → List ℕ → Type 0
IsTrafficText true k step g text = (list : List Traffic) × TellTraffic k g list
    × (text ≡ traffic_block step list)
IsTrafficText false k step g text = text ≡ []

-- a text is what a printed step shows: the field block, then the traffic block
pub record IsPrintedText (r : Request) (plan : Plan) (k : Cuts) (step : ℕ) (g : Spacetree)
    (f : States) (text : List ℕ) : Type 0 where
  pub traffic : List ℕ
  pub told : IsTrafficText (shows_traffic r.show) k step g traffic
  pub text_is : text ≡ fields_text r plan step f ++ traffic

-- what a step adds to the report: that, where it is printed
abbrev pub IsAddedIf : Bool → Request → Plan → Cuts → ℕ → Spacetree → States → List ℕ → Type 0
IsAddedIf true r plan k step g f text = IsPrintedText r plan k step g f text
IsAddedIf false r plan k step g f text = text ≡ []

-- what a step adds to the report: its text where the plan has it printed, else nothing
abbrev pub IsAdded : Request → Plan → Cuts → ℕ → Spacetree → States → List ℕ → Type 0
IsAdded r plan k step g f text = IsAddedIf (printed plan step) r plan k step g f text

-- and how many leaf lines
abbrev pub added_lines : Request → Plan → ℕ → States → ℕ
added_lines r plan step f = if printed plan step && shows_fields r.show then length (rows_of f)
    else 0

-- the moment before the first step: the opening grid and the opening field, cut into trees of equal shares
pub record Starts (r : Request) (plan : Plan) (m : Moment) : Type 0 where
  pub grid : Opens plan.shape m.grid
  pub room : cells_of m.grid ≤ MOST_CELLS
  pub field : OpensField m.grid plan.fills (parts_in plan.solver) m.field
  pub keys : AreEqualKeys plan.shape.depth m.grid r.trees m.keys
  pub text : IsAdded r plan (cuts_of m.keys) 0 m.grid m.field m.text
  pub lines : m.lines ≡ added_lines r plan 0 m.field

-- one moment follows another by a step that is not refused
pub record IsNextMoment (r : Request) (plan : Plan) (step : ℕ)
    (before after : Moment) : Type 0 where
  pub room : before.lines ≤ most_lines
  pub keys : AreKeysAfter (recuts_in plan.recut_every step) after.grid before.keys after.keys
  pub taken : IsServedStep (updated_by plan.solver)
      (marked_by plan.solver) before.grid before.field after.grid after.field
  pub added : List ℕ
  pub shown : IsAdded r plan (cuts_of after.keys) step after.grid after.field added
  pub text : after.text ≡ before.text ++ added
  pub lines : after.lines ≡ before.lines + added_lines r plan step after.field

-- a run of a plan comes to a moment in so many steps; only the lines of the last of them are not tested yet
abbrev pub Reaches : Request → Plan → ℕ → Moment → Type 0
Reaches r plan zero m = Starts r plan m
Reaches r plan (suc n) m = (before : Moment) × Reaches r plan n before
    × IsNextMoment r plan (suc n) before m

-- so that a next step is taken: with no more lines than there may be
pub record GoesOn (r : Request) (plan : Plan) (n : ℕ) (m : Moment) : Type 0 where
  pub reached : Reaches r plan n m
  pub room : m.lines ≤ most_lines

-- a run of a plan opens: with the opening grid and the opening field
pub record OpensRun (plan : Plan) (g : Spacetree) (f : States) : Type 0 where
  pub grid : Opens plan.shape g
  pub room : cells_of g ≤ MOST_CELLS
  pub field : OpensField g plan.fills (parts_in plan.solver) f

-- what a step adds to a report: a text, and how many leaf lines it has
pub record Block : Type 0 where
  pub text : List ℕ
  pub lines : ℕ

-- the block of a step shows the grid and the field to which the evaluation leads in it, and the traffic of trees with the keys that they have then
pub record BlockOf (r : Request) (plan : Plan) (g : Spacetree) (f : States) (step : ℕ)
    (b : Block) : Type 0 where
  pub grid : Spacetree
  pub field : States
  pub keys : CutPoints
  pub led : Evaluates (updated_by plan.solver) (marked_by plan.solver) g f step grid field
  pub cut : AreKeysAt r.trees plan g f step keys
  pub told : IsAdded r plan (cuts_of keys) step grid field b.text
  pub counted : b.lines ≡ added_lines r plan step field

-- the texts of blocks, one after another
abbrev pub texts_in : List Block → List ℕ
texts_in bs = flat_map (λ (b : Block). b.text) bs

-- and the sum of their lines
abbrev pub lines_in : List Block → ℕ
lines_in [] = 0
lines_in (b ∷ bs) = b.lines + lines_in bs

-- a text is the report of a plan: the blocks of its steps from 0 to the last, in order, with no more lines together than there may be
pub record IsReportOf (r : Request) (plan : Plan) (text : List ℕ) : Type 0 where
  pub grid : Spacetree
  pub field : States
  pub opens : OpensRun plan grid field
  pub blocks : List Block
  pub count : length blocks ≡ plan.steps + 1
  pub each : (s : ℕ) (d : Block) → s ≤ plan.steps
      → BlockOf r plan grid field s (slice_index_or blocks s d)
  pub text_is : text ≡ texts_in blocks
  pub room : lines_in blocks ≤ most_lines

-- a plan has too many lines: with those of the opening field, or with those of the field to which a step leads
pub data HasManyLines (r : Request) (plan : Plan) : Type 0 where
  at_start : (g : Spacetree) (f : States) → Opens plan.shape g → cells_of g ≤ MOST_CELLS
      → OpensField g plan.fills (parts_in plan.solver) f → most_lines < added_lines r plan 0 f
      → HasManyLines r plan
  in_step : (n : ℕ) (before : Moment) (g : Spacetree) (f : States) → n < plan.steps
      → GoesOn r plan n before
      → IsServedStep (updated_by plan.solver) (marked_by plan.solver) before.grid before.field g f
      → most_lines < before.lines + added_lines r plan (suc n) f → HasManyLines r plan

-- a plan overflows in a step, at the least leaf that fails
pub record PlanOverflows (r : Request) (plan : Plan) (step : ℕ) (leaf : CellKey) : Type 0 where
  pub before : ℕ
  pub last : Moment
  pub step_is : step ≡ suc before
  pub within : step ≤ plan.steps
  pub reached : GoesOn r plan before last
  pub overflows : Overflows (updated_by plan.solver) last.grid last.field leaf

-- a plan is crowded in a step: no leaf fails, and the next grid has so many cells, more than there may be
pub record PlanCrowds (r : Request) (plan : Plan) (step cells : ℕ) : Type 0 where
  pub before : ℕ
  pub last : Moment
  pub step_is : step ≡ suc before
  pub within : step ≤ plan.steps
  pub reached : GoesOn r plan before last
  pub crowds : Crowds (updated_by plan.solver) (marked_by plan.solver) last.grid last.field cells

-- something of the plan of a file that is not too long
pub record OfPlan (bytes : List ℕ) (P : Plan → Type 0) : Type 0 where
  pub size : length bytes ≤ longest_input
  pub plan : Plan
  pub read : plan_of bytes ≡ Ok plan
  pub holds : P plan

-- a text is the report of a file
abbrev pub IsReport : Request → List ℕ → List ℕ → Type 0
IsReport r bytes text = OfPlan bytes (λ plan. IsReportOf r plan text)

-- why a plan has no report: its opening grid has too many cells, its report too many lines, or a step of it is refused
abbrev pub Refuses : Request → Plan → Answer → Type 0
Refuses r plan (Limit Cells number) = (number ≡ MOST_CELLS) × IsTooLarge plan.shape
Refuses r plan (Limit Lines number) = (number ≡ most_lines) × HasManyLines r plan
Refuses r plan (Crowded step cells) = PlanCrowds r plan step cells
Refuses r plan (Overflow step leaf) = PlanOverflows r plan step leaf
Refuses r plan NoMemory = Unit {0}
Refuses r plan _ = ⊥

-- why a file has no report: it is too long, or malformed by a code at a place, or its plan has none
abbrev pub IsRefused : Request → List ℕ → Answer → Type 0
IsRefused r bytes TooLong = longest_input < length bytes
IsRefused r bytes (Malformed code place) = (length bytes ≤ longest_input)
    × (plan_of bytes ≡ Err (record { code = code; place = place }))
IsRefused r bytes (Limit which number) = OfPlan bytes (λ plan. Refuses r plan (Limit which number))
IsRefused r bytes (Crowded step cells) = OfPlan bytes (λ plan. Refuses r plan (Crowded step cells))
IsRefused r bytes (Overflow step leaf) = OfPlan bytes (λ plan. Refuses r plan (Overflow step leaf))
IsRefused r bytes NoMemory = Unit {0}
IsRefused r bytes _ = ⊥
