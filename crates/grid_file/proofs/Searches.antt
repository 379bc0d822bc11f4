-- Searches over lists of checks, and the least fault of a list whose codes rise.
use Rattle.std.proofs.lemmas.Bool.{false≢true}
use Rattle.std.specs.Option.{option_or, is_some}
use Rattle.std.proofs.Common.{◌≡◌, ℕ, ◌≤◌, List, [], ◌∷◌, ◌++◌, Option, Some, None, Bool, true, false, cond, refl, ap, sym, ◌∙◌, arith, nat_le, IfSome, ◌&&◌, Result, Ok, Err}
use Rattle.std.proofs.lemmas.Bool.Decides.{nat_tests}
use Rattle.grid_file.specs.declared.fault.Malformed.{Malformed}
use Rattle.grid_file.specs.declared.fault.PlanFault.{PlanFault}
use Rattle.grid_file.specs.declared.plan.Plan.{Plan}
use Rattle.grid_file.specs.Faults.{Check, Fault, Step, first, first_in, malformed, coded, faults_of, least, lesser, judged, Gives, Reads}
use Rattle.toml.specs.Data.{Members}
use Rattle.grid_file.specs.Keys.{in_tables, unlisted, missing}
use Rattle.grid_file.specs.Head.{dim_checks, depth_checks, base_checks, solver_checks, dim_of, depth_of, solver_of}
use Rattle.grid_file.specs.Plan.{steps, faults, plan_in}
use Rattle.grid_file.specs.Stages.{first_fault, body_fault}

pub first_append : (code : ℕ) (a b : List Check) → first code (a ++ b) ≡ option_or (first code a) (first code b)
first_append code [] b = refl
first_append code (c ∷ a) b = elim c.refused as (λ r. cond r (Some (malformed code c.place)) (first code (a ++ b)) ≡ option_or (cond r (Some (malformed code c.place)) (first code a)) (first code b)) [ true ↦ refl | false ↦ first_append code a b ]

-- a fault that is found stays the first of a longer list
pub first-found : (code : ℕ) (a b : List Check) (m : Option Malformed) → is_some m ≡ true → m ≡ first code a → m ≡ first code (a ++ b)
first-found code a b (Some m) s e = ap (λ o. option_or o (first code b)) e ∙ sym (first_append code a b)
first-found code a b None s e = absurd (false≢true s)

-- each code of a list is at least a number
abbrev pub CodesFrom : ℕ → List Fault → Type 0
CodesFrom low [] = Unit {0}
CodesFrom low (f ∷ fs) = (low ≤ f.malformed.code) × CodesFrom low fs

-- the lesser of two faults has a code no smaller than theirs
lesser_from : (low : ℕ) (m : Malformed) (o : Option Malformed) → low ≤ m.code → IfSome o (λ n. low ≤ n.code) → low ≤ (lesser m o).code
lesser_from low m None h k = h
lesser_from low m (Some n) h k = elim (nat_le m.code n.code) as (λ b. low ≤ (cond b m n).code) [ true ↦ h | false ↦ k ]

least_from : (low : ℕ) (fs : List Fault) → CodesFrom low fs → IfSome (least fs) (λ n. low ≤ n.code)
least_from low [] h = tt
least_from low (f ∷ fs) h = elim f.applies as (λ b. IfSome (cond b (Some (lesser f.malformed (least fs))) (least fs)) (λ n. low ≤ n.code)) [ true ↦ lesser_from low f.malformed (least fs) h.0 (least_from low fs h.1) | false ↦ least_from low fs h.1 ]

lesser_of_greater : (m : Malformed) (o : Option Malformed) → IfSome o (λ n. m.code ≤ n.code) → lesser m o ≡ m
lesser_of_greater m None h = refl
lesser_of_greater m (Some n) h = grind (arith, nat_tests)

codes_from_coded : (low code : ℕ) (cs : List Check) (rest : List Fault) → low ≤ code → CodesFrom low rest → CodesFrom low (coded code cs ++ rest)
codes_from_coded low code [] rest h k = k
codes_from_coded low code (c ∷ cs) rest h k = (h, codes_from_coded low code cs rest h k)

code_itself : (n : ℕ) → n ≤ n
code_itself n = omega arith

lower : (low next : ℕ) (fs : List Fault) → low ≤ next → CodesFrom next fs → CodesFrom low fs
lower low next [] h k = tt
lower low next (f ∷ fs) h k = (omega (arith, h, k.0), lower low next fs h k.1)

both_first : (a b : Bool) → (a && b) ≡ true → a ≡ true
both_first true b h = refl
both_first false b h = h

both_second : (a b : Bool) → (a && b) ≡ true → b ≡ true
both_second true b h = h
both_second false b h = absurd (false≢true h)

le_of_nat_le : (m n : ℕ) → nat_le m n ≡ true → m ≤ n
le_of_nat_le m n h = grind (arith, nat_tests)

-- the faults of one code before those of greater codes
least_coded : (code : ℕ) (cs : List Check) (rest : List Fault) → CodesFrom code rest → least (coded code cs ++ rest) ≡ option_or (first code cs) (least rest)
least_coded code [] rest h = refl
least_coded code (c ∷ cs) rest h = elim c.refused as (λ b. cond b (Some (lesser (malformed code c.place) (least (coded code cs ++ rest)))) (least (coded code cs ++ rest)) ≡ option_or (cond b (Some (malformed code c.place)) (first code cs)) (least rest)) [ true ↦ ap Some (lesser_of_greater (malformed code c.place) (least (coded code cs ++ rest)) (least_from code (coded code cs ++ rest) (codes_from_coded code code cs rest (code_itself code) h))) | false ↦ least_coded code cs rest h ]

-- whether the codes rise from a number on
abbrev pub rise : ℕ → List Step → Bool
rise low [] = true
rise low (s ∷ ss) = nat_le low s.code && rise s.code ss

codes_rise : (low : ℕ) (ss : List Step) → rise low ss ≡ true → CodesFrom low (faults_of ss)
codes_rise low [] h = tt
codes_rise low (s ∷ ss) h =
    let le : low ≤ s.code = le_of_nat_le low s.code (both_first (nat_le low s.code) (rise s.code ss) h) in
    codes_from_coded low s.code s.checks (faults_of ss) le (lower low s.code (faults_of ss) le (codes_rise s.code ss (both_second (nat_le low s.code) (rise s.code ss) h)))

-- where the codes rise, the least fault is the first
pub least_rising : (low : ℕ) (ss : List Step) → rise low ss ≡ true → least (faults_of ss) ≡ first_in ss
least_rising low [] h = refl
least_rising low (s ∷ ss) h =
    let more = both_second (nat_le low s.code) (rise s.code ss) h in
    least_coded s.code s.checks (faults_of ss) (codes_rise s.code ss more) ∙ ap (option_or (first s.code s.checks)) (least_rising s.code ss more)

-- four options before another
pub four_before : {T : Type 0} (a b c d e : Option T) → option_or a (option_or b (option_or c (option_or d e))) ≡ option_or (option_or a (option_or b (option_or c (option_or d None)))) e
four_before (Some x) b c d e = refl
four_before None (Some x) c d e = refl
four_before None None (Some x) d e = refl
four_before None None None (Some x) e = refl
four_before None None None None e = refl

-- the least fault of a document is the first that is looked for
pub least_is_first : (t : Members) → least (faults t) ≡ first_fault t
least_is_first t =
    least_rising 0 (steps (dim_of t) (depth_of t) (solver_of t) t) refl
    ∙ ap (λ o. option_or (first 2 (in_tables unlisted t)) (option_or (first 3 (in_tables missing t)) o))
    (four_before (first 4 (dim_checks t)) (first 5 (depth_checks t)) (first 6 (base_checks (depth_of t) t)) (first 7 (solver_checks t)) (body_fault (dim_of t) (depth_of t) (solver_of t) t))

-- what a document gives by the first fault, it gives by the least
pub reads_least : (t : Members) (r : Result Plan PlanFault) → Gives r (first_fault t) (plan_in t) → Reads r (judged (least (faults t)) (plan_in t))
reads_least t (Ok p) h = ap (λ o. judged o (plan_in t)) (least_is_first t ∙ h.0) ∙ ap Ok h.1
reads_least t (Err fault) h = λ m e. ap (λ o. judged o (plan_in t)) (least_is_first t ∙ h m e)
