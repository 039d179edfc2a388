-- Why a job that is solved with the safe limit isn't given up for its turns.
use Rattle.std.proofs.Common.{◌≡◌, ◌∙◌, ◌≢◌, ℕ, zero, suc, ◌+◌, ◌^◌, ◌≤◌, ◌⊎◌, inl, inr, Bool, true, false, Option, None, Some, List, [], ◌∷◌, map, drop, Result, Ok, Err, length, refl, sym, ap, ap₂, subst, arith}
use Rattle.std.specs.Prelude.{IfOk, IfErr, option_map}
use Rattle.std.specs.List.{All}
use Rattle.std.proofs.Math.Nat.{pow-le-pow_right}
use Rattle.std.proofs.lemmas.List.{length-map}
use Rattle.std.proofs.lemmas.Option.{none-some}
use Rattle.rational.specs.Ratio.{Ratio}
use Rattle.evidence.specs.ProvedBounds.{ProvedBound}
use Rattle.evidence.specs.Instance.{Instance, IsInstance, Goal, Problem, alone, width, height}
use Rattle.fraction.specs.declared.frac.Frac.{Frac}
use Rattle.instance.specs.Parts.{Parts}
use Rattle.instance.specs.Program.{program, problem, variable, row, goal}
use Rattle.certificate.specs.declared.causes.Cause.{Cause}
use Rattle.certificate.specs.declared.causes.Cause.TheVariants.{Killed, NodeLimit, TurnLimit, Gap, TimeLimit, Wide, Length, Memory}
use Rattle.certificate.specs.declared.claims.Claim.{Claim}
use Rattle.certificate.specs.declared.claims.Claim.TheVariants.{Optimal, Infeasible, Unbounded, BestSoFar, Unsure}
use Rattle.simplex_rules.specs.Ends.{Terms, Clock}
use Rattle.search_rules.specs.Search as ends
use Rattle.search_rules.specs.Search.{Found, Outcome, SearchMoment, early}
use Rattle.search_rules.specs.Bounds.{Carried}
use Rattle.search_rules.specs.Beginnings.{ComesFrom, begins, goes_on, IsAnswerFrom, searched}
use Rattle.search_rules.specs.Asked.{Asked, ComesAsked, asked_first, asked_on, asked_level, EndsAsked, near, ends as ends_so, AskedSearch}
use Rattle.search_rules.specs.Outcomes.{HaveOneRange, IsPlain}
use Rattle.branch_bound.specs.Claims.{cause_of, claimed_cause}
use Rattle.osol_grammar.specs.declared.options.Options.{Options}
use Rattle.osol_grammar.specs.declared.fault.OsolFault.{OsolFault}
use Rattle.osol_grammar.specs.declared.fault.OsolFault.TheVariants as options_faults
use Rattle.osol_grammar.specs.Back.{ComesBack}
use Rattle.osol_grammar.specs.Limits as limits
use Rattle.osol_grammar.specs.Meaning.{IsOptionsText}
use Rattle.osol_grammar.specs.Options.{amount}
use Rattle.osol_grammar.specs.Reading.{DecodeFails}
use Rattle.osol_grammar.specs.Writing.{options_text}
use Rattle.osol_grammar.proofs.LimitTable.{each_limit}
use Rattle.osil_grammar.specs.declared.fault.OsilFault.{OsilFault}
use Rattle.osil_grammar.specs.declared.fault.OsilFault.TheVariants as instance_faults
use Rattle.osil_grammar.specs.Reading.{IsInstanceText}
use Rattle.osil_grammar.specs.Reading as instances
use Rattle.osrl_writing.specs.declared.report.Report.{Report}
use Rattle.osrl_writing.specs.Writing.{told_text}
use Rattle.certificate.specs.GivenUp.{given_up, without_bound}
use Rattle.solve_run.specs.declared.closing.Judged.{Judged}
use Rattle.solve_run.specs.declared.closing.Judged.TheVariants.{Width, Bound}
use Rattle.solve_run.specs.Judging.{checked, wide_check}
use Rattle.solve_run.specs.Asking.{job_asked}
use Rattle.solve_run.specs.RowForms.{claim_of_rows}
use Rattle.solve_run.specs.Closings.{claim_report, IsToldOf, IsFitted, IsFormed}
use Rattle.solve_run.specs.JobAnswers.{AnswersJob, AnswersBeside, IsBestOfSearch, TakesHanded, Solved, no_options, no_instance, handed, solved, gave_up}
use Rattle.solve_run.proofs.Texts.{noted_claim}
use Rattle.handed_results.specs.declared.handed.Handed.{Handed}
use Rattle.handed_results.specs.declared.handed.Handed.TheVariants.{Nothing, Once}
use Rattle.handed_results.specs.Reading.{HandsIn}
use Rattle.solve_run.specs.Untils.{job_terms, by_time, renamed}
use Rattle.no_cycles.specs.Beginning.{BeginsFeasible}
use Rattle.no_cycles.specs.Limit.{safe_limit}
use Rattle.no_cycles.specs.Searches.{is_out_of_turns, is_turn_limit}
use Rattle.no_cycles.proofs.SafeLimits.{limit_is, has_limit}
use Rattle.no_cycles.proofs.OneCaseSearches.{early_is}
use Rattle.os_app.specs.Safe.{IsSafeText, HasNoSafeText, TakesOptions, claims_turn_limit, says_turn_limit}
use Rattle.os_app.specs.Safe as safe
use Rattle.os_io.specs.Files.{Held, Holds, MayHold}
use Rattle.command_answers.specs.Outputs.{IsTold}
use Rattle.command_line.specs.Words.{Command, Compact, Session, Solve, Call, asks, IsSolve, IsNoCommand}
use Rattle.os_app.specs.Besides.{HandInNothing, one_handed}
use Rattle.os_app.specs.Solves.{IsDocumentAbout}
use Rattle.os_app.specs.Runs.{ProgramRun, StoresRun, RunEnds, IsDue, IsUsageDue, IsAnswerDue, IsUnsent, WritesWithinTurns, asks_to_serve, served, answered, called, hosted, misused, file_fault, unsent, unheard}
use Rattle.disks.specs.declared.disk.Disk.{Ghosts}
use Rattle.os_app.specs.StoredRuns.{StoredRunEnds, kept}
use Rattle.os_app.specs.StoredRuns as stored
use Rattle.os_app.proofs.Words.{one_command}

-- ---- options

-- each of a list, one behind the other
abbrev EachOf : {X : Type 0} (P : X → Type 0) → List X → Type 0
EachOf P [] = Unit {0}
EachOf P (x ∷ xs) = P x × EachOf P xs

each : {X : Type 0} (P : X → Type 0) → ((x : X) → P x) → (xs : List X) → EachOf P xs
each P f [] = tt
each P f (x ∷ xs) = (f x, each P f xs)

all_of : {X : Type 0} (P : X → Type 0) (xs : List X) → EachOf P xs → All P xs
all_of P [] h k d l = absurd (omega (arith, l))
all_of P (x ∷ xs) h zero d l = h.0
all_of P (x ∷ xs) h (suc k) d l = all_of P xs h.1 k d (omega (arith, l))

-- options with a safe limit are read back
with_limit : (o : Options) (limit k : ℕ) → ComesBack o → limit ≡ 4 ^ k → k ≤ 13 → ComesBack (record o { turns = limit })
with_limit o limit k back is few =
    let least : 0 ≤ k = omega arith in
    let low : 4 ^ 0 ≤ 4 ^ k = pow-le-pow_right (omega arith) least in
    let high : 4 ^ k ≤ 4 ^ 13 = pow-le-pow_right (omega arith) few in
    let above = each (λ l. (limits.limit_row l).least ≤ amount o l) back.above limits.all in
    let below = each (λ l. amount o l ≤ (limits.limit_row l).most) back.below limits.all in
    record {
      job = back.job;
      seconds = back.seconds;
      first = back.first;
      gap = back.gap;
      above = each_limit (λ l. (limits.limit_row l).least ≤ amount (record o { turns = limit }) l) (all_of (λ l. (limits.limit_row l).least ≤ amount (record o { turns = limit }) l) limits.all (above.0, (omega (arith, is, low), above.1.1)));
      below = each_limit (λ l. amount (record o { turns = limit }) l ≤ (limits.limit_row l).most) (all_of (λ l. amount (record o { turns = limit }) l ≤ (limits.limit_row l).most) limits.all (below.0, (omega (arith, is, high), below.1.1)));
    }

-- ---- claims

-- a search was given up for its turns, if it was given up
abbrev turned : Option Cause → Bool
turned None = false
turned (Some k) = is_turn_limit k

outcome_turned : (o : Outcome) → is_out_of_turns o ≡ turned (cause_of o)
outcome_turned (ends.Optimal x vs cs) = refl
outcome_turned (ends.Infeasible cert) = refl
outcome_turned (ends.Unbounded x vs cs r) = refl
outcome_turned (ends.BestSoFar x vs k) = refl
outcome_turned (ends.Unsure k) = refl

claim_turned : (c : Claim) → claims_turn_limit c ≡ turned (claimed_cause c)
claim_turned (Optimal x vs cs) = refl
claim_turned (Infeasible cert) = refl
claim_turned (Unbounded x vs cs r) = refl
claim_turned (BestSoFar x vs k b) = refl
claim_turned (Unsure k b) = refl

told_turned : (c : Claim) (o : Outcome) → claimed_cause c ≡ cause_of o → claims_turn_limit c ≡ is_out_of_turns o
told_turned c o cause = claim_turned c ∙ ap turned cause ∙ sym (outcome_turned o)

-- a time that was over is no limit of turns
by_time_is : (s : Frac) (k : Cause) → is_turn_limit (by_time s k) ≡ is_turn_limit k
by_time_is s Killed = refl
by_time_is s (NodeLimit n) = refl
by_time_is s (TurnLimit n) = refl
by_time_is s Gap = refl
by_time_is s (TimeLimit x) = refl
by_time_is s (Wide p) = refl
by_time_is s Length = refl
by_time_is s Memory = refl

renamed_within : (timed : Option Frac) (o : Outcome) → is_out_of_turns o ≡ false → is_out_of_turns (renamed timed o) ≡ false
renamed_within None o within = within
renamed_within (Some s) (ends.Optimal x vs cs) within = refl
renamed_within (Some s) (ends.Infeasible cert) within = refl
renamed_within (Some s) (ends.Unbounded x vs cs r) within = refl
renamed_within (Some s) (ends.BestSoFar x vs c) within = by_time_is s c ∙ within
renamed_within (Some s) (ends.Unsure c) within = by_time_is s c ∙ within

given_up_is : (c : Claim) (k : Cause) → claims_turn_limit (given_up c k) ≡ is_turn_limit k
given_up_is (Optimal x vs cs) k = refl
given_up_is (Infeasible cert) k = refl
given_up_is (Unbounded x vs cs r) k = refl
given_up_is (BestSoFar x vs c b) k = refl
given_up_is (Unsure c b) k = refl

-- a bound is no cause
without_is : (c : Claim) → claims_turn_limit (without_bound c) ≡ claims_turn_limit c
without_is (Optimal x vs cs) = refl
without_is (Infeasible cert) = refl
without_is (Unbounded x vs cs r) = refl
without_is (BestSoFar x vs c b) = refl
without_is (Unsure c b) = refl

checked_is : (found : Claim) (turns : ℕ) (verdict : Judged) → claims_turn_limit found ≡ false → claims_turn_limit (checked found turns verdict) ≡ false
checked_is found turns (Width None) within = within
checked_is found turns (Width (Some n)) within = given_up_is found (wide_check n turns)
checked_is found turns (Bound true) within = within
checked_is found turns (Bound false) within = without_is found ∙ within

fitted_is : (job : Option (List ℕ)) (found told : Claim) → IsFitted job found told → claims_turn_limit found ≡ false → claims_turn_limit told ≡ false
fitted_is job found told (inl (short, is)) within = ap claims_turn_limit is ∙ within
fitted_is job found told (inr (inl (long, short, is))) within = ap claims_turn_limit is ∙ without_is found ∙ within
fitted_is job found told (inr (inr (long, longer, is))) within = ap claims_turn_limit is ∙ given_up_is found _

-- the same claim, of rows alone, ends for the same cause
rows_are : (n : ℕ) (c : Claim) → claims_turn_limit (claim_of_rows n c) ≡ claims_turn_limit c
rows_are n (Optimal x vs cs) = refl
rows_are n (Infeasible cert) = refl
rows_are n (Unbounded x vs cs r) = refl
rows_are n (BestSoFar x vs k b) = refl
rows_are n (Unsure k b) = refl

formed_is : (p : Parts) (job : Option (List ℕ)) (form : ℕ) (c formed : Claim) → IsFormed p job form c formed → claims_turn_limit c ≡ false → claims_turn_limit formed ≡ false
formed_is p job form c formed (inl (one, fine, is)) within = ap claims_turn_limit is ∙ rows_are (length p.vars) c ∙ within
formed_is p job form c formed (inr (other_form, is)) within = ap claims_turn_limit is ∙ within

closed_is : (p : Parts) (job : Option (List ℕ)) (form turns : ℕ) (found told : Claim) → IsToldOf p job form turns found told → claims_turn_limit found ≡ false → claims_turn_limit told ≡ false
closed_is p job form turns found told closed within = fitted_is job closed.formed told closed.fitted (formed_is p job form _ closed.formed closed.forms (checked_is found turns closed.verdict within))

gave_up_is : (osil osol : List ℕ) (c : Claim) → (c ≡ Unsure Memory None) ⊎ IsBestOfSearch osil osol c → claims_turn_limit c ≡ false
gave_up_is osil osol c (inl is) = ap claims_turn_limit is
gave_up_is osil osol c (inr best) = told_turned c (early best.moment.best Memory) best.tells.cause ∙ early_is is_turn_limit best.moment.best Memory

-- ---- the laws of the crates below

pub record Laws : Type 0 where
  pub numbers : (p : Parts) → IsInstance (program p)
  pub within : (I : Instance) (t : Terms) (start : Option Found) (o : Outcome) (c : Clock) (l : ℕ) → IsInstance I → IsPlain I → HaveOneRange I → BeginsFeasible I → safe_limit (width I) (height I) ≡ Some l → l ≤ t.turns → IsAnswerFrom (alone I) t start o c → is_out_of_turns o ≡ false
  pub once : (bytes : List ℕ) (p q : Parts) → IsInstanceText bytes p → IsInstanceText bytes q → p ≡ q
  pub back : (o : Options) (r : Result Options OsolFault) → ComesBack o → IfOk r (IsOptionsText (options_text o)) → IfErr r (DecodeFails (options_text o)) → r ≢ Err options_faults.Memory → r ≡ Ok o
  pub written : (bytes : List ℕ) (o : Options) → IsOptionsText bytes o → ComesBack o
  pub nothing : (o : Options) (h : Handed) → ComesBack o → HandsIn (options_text o) h → h ≡ Nothing
  pub read_options : (bytes : List ℕ) (o : Options) (f : OsolFault) → IsOptionsText bytes o → DecodeFails bytes f → f ≡ options_faults.Memory
  pub read_instance : (bytes : List ℕ) (p : Parts) (f : OsilFault) → IsInstanceText bytes p → instances.DecodeFails bytes f → f ≡ instance_faults.Memory

-- whatever is asked of a search, its moments are those of one of which nothing is
comes_from : (P : Problem) (t : Terms) (a : Asked) (start : Option Found) (m : SearchMoment) (ks : List Carried) (xs : List (Option Ratio)) → ComesAsked P t a start m ks xs → ComesFrom P t start m
comes_from P t a start m ks xs asked_first = begins
comes_from P t a start m ks xs (asked_on {m = before} {k} {ks = ls} {x} {xs = ys} c far v new is) = goes_on (comes_from P t a start before (k ∷ ls) (x ∷ ys) c) (inr (inr v))
comes_from P t a start m ks xs (asked_level {m = before} c none next) = goes_on (comes_from P t a start before [] [] c) next

-- so it ends as that one does, or near enough to its bound
asked_within : (P : Problem) (t : Terms) (a : Asked) (start : Option Found) (o : Outcome) (b : Option ProvedBound) (c : Clock) → (IsAnswerFrom P t start o c → is_out_of_turns o ≡ false) → AskedSearch P t a start o b c → is_out_of_turns o ≡ false
asked_within P t a start o b c within s = by s.ends within
  where
    by : {p : Outcome} {d : Clock} → EndsAsked P t a s.last s.numbers p d → (IsAnswerFrom P t start p d → is_out_of_turns p ≡ false) → is_out_of_turns p ≡ false
    by (near n) within = early_is is_turn_limit s.last.best Gap
    by (ends_so far next) within = within (searched (record { last = s.last; comes = comes_from P t a start s.last s.carried s.numbers s.comes; ends = next }))

ok_or_not : (a : Options) (f : OsolFault) → ◌≡◌ {A = Result Options OsolFault} (Ok a) (Err f) → ⊥
ok_or_not a f e = cc

same_ok : (a b : Options) → ◌≡◌ {A = Result Options OsolFault} (Ok a) (Ok b) → a ≡ b
same_ok a b e = cc

-- the problem of an instance with one goal
none_later : (gs : List Goal) → length gs ≡ 1 → drop 1 gs ≡ []
none_later [] e = absurd (omega arith)
none_later (g ∷ []) e = refl
none_later (g ∷ h ∷ gs) e = absurd (omega arith)

alone_is : (p : Parts) → length p.goals ≡ 1 → problem p ≡ alone (program p)
alone_is p one = ap (λ (gs : List Goal). let P : Problem = record { program = program p; later = gs } in P) (none_later (map goal p.goals) (length-map p.goals goal ∙ one))

module _ (laws : Laws) (osil osol taken : List ℕ) (p : Parts) (text : IsInstanceText osil p) (single : length p.goals ≡ 1) (plain : IsPlain (program p)) (ranges : HaveOneRange (program p)) (feasible : BeginsFeasible (program p)) (few : length p.vars + length p.rows ≤ 13) where
  -- the options that are taken, which can be written
  taken_back : (s : IsSafeText osil osol taken) → ComesBack (record s.options { turns = s.limit })
  taken_back s =
      let limit = limit_is (length s.parts.vars) (length s.parts.rows) s.limit s.enough in
      with_limit s.options s.limit _ (laws.written osol s.options s.said) limit.1 limit.0

  -- their limit
  turns_are : (o : Options) → IsOptionsText taken o → (s : IsSafeText osil osol taken) → o.turns ≡ s.limit
  turns_are o said s =
      let back = laws.back (record s.options { turns = s.limit }) (Ok o) (taken_back s) (subst (λ (t : List ℕ). IsOptionsText t o) s.is said) tt (ok_or_not o options_faults.Memory) in
      ap (λ (x : Options). x.turns) (same_ok o (record s.options { turns = s.limit }) back)

  -- where options and an instance are read, there is such a text
  is_safe : (o : Options) → IsOptionsText taken o → TakesOptions true osil osol taken → IsSafeText osil osol taken
  is_safe o said (inl s) = s
  is_safe o said (inr (none, is)) = absurd (by none)
    where
      by : HasNoSafeText osil osol → ⊥
      by (safe.no_options f other fails) = other (laws.read_options osol o f (subst (λ (t : List ℕ). IsOptionsText t o) is said) fails)
      by (safe.no_instance f other fails) = other (laws.read_instance osil p f text fails)
      by (safe.no_limit q found none) =
          let same : q ≡ p = laws.once osil q p found text in
          let told = subst (λ (x : Parts). safe_limit (length x.vars) (length x.rows) ≡ None) same none in
          none-some (4 ^ (length p.vars + length p.rows)) (sym told ∙ has_limit (length p.vars) (length p.rows) few)

  solved_within : (stop : Option ℕ) (timed : Option Frac) (looks : ℕ) (r : Report) → TakesOptions true osil osol taken → Solved osil taken stop timed looks r → says_turn_limit r.claim ≡ false
  solved_within stop timed looks r takes s =
      let same : p ≡ s.given.parts = laws.once osil p s.given.parts text s.given.instance_text in
      let its = is_safe s.given.options s.given.options_text takes in
      let own : its.parts ≡ s.given.parts = laws.once osil its.parts s.given.parts its.instance s.given.instance_text in
      let told : safe_limit (length s.given.parts.vars) (length s.given.parts.rows) ≡ Some its.limit = subst (λ (x : Parts). safe_limit (length x.vars) (length x.rows) ≡ Some its.limit) own its.enough in
      let wide : width (program s.given.parts) ≡ length s.given.parts.vars = length-map s.given.parts.vars variable in
      let high : height (program s.given.parts) ≡ length s.given.parts.rows = length-map s.given.parts.rows row in
      let enough : safe_limit (width (program s.given.parts)) (height (program s.given.parts)) ≡ Some its.limit = ap₂ safe_limit wide high ∙ told in
      let turns : s.given.options.turns ≡ its.limit = turns_are s.given.options s.given.options_text its in
      let found : is_out_of_turns s.outcome ≡ false =
      asked_within (alone (program s.given.parts)) (job_terms s.given.options stop) (job_asked s.given.options) s.start s.outcome s.bound _
      (laws.within (program s.given.parts) (job_terms s.given.options stop) s.start s.outcome _ its.limit (laws.numbers s.given.parts) (subst (λ (x : Parts). IsPlain (program x)) same plain) (subst (λ (x : Parts). HaveOneRange (program x)) same ranges) (subst (λ (x : Parts). BeginsFeasible (program x)) same feasible) enough (omega (arith, turns)))
      (subst (λ (P : Problem). AskedSearch P (job_terms s.given.options stop) (job_asked s.given.options) s.start s.outcome s.bound (record { turns = s.turns; looks = looks })) (alone_is s.given.parts (subst (λ (x : Parts). length x.goals ≡ 1) same single)) s.ends) in
      ap (λ (x : Report). says_turn_limit x.claim) s.is ∙ ap says_turn_limit (noted_claim s.note (claim_report s.given.options.job s.told)) ∙ closed_is s.given.parts s.given.options.job s.given.options.form s.turns s.found s.told s.closed (told_turned s.found (renamed timed s.outcome) s.tells.cause ∙ renamed_within timed s.outcome found)

  -- no result is handed in
  handed_within : (r : Report) → TakesOptions true osil osol taken → TakesHanded osil taken r → says_turn_limit r.claim ≡ false
  handed_within r takes h =
      let s = is_safe h.given.options h.given.options_text takes in
      let none = laws.nothing (record s.options { turns = s.limit }) h.handed.handed (taken_back s) (subst (λ (t : List ℕ). HandsIn t h.handed.handed) s.is h.handed.hands) in
      let clash : Nothing ≡ Once h.handed.taken.text = sym none ∙ h.handed.taken.one in
      absurd (cc)

  pub answers_within : (asked : Bool) (r : Report) → TakesOptions true osil osol taken → AnswersJob osil taken asked r → says_turn_limit r.claim ≡ false
  answers_within asked r takes (no_options h) = ap (λ (x : Report). says_turn_limit x.claim) h.is
  answers_within asked r takes (no_instance h) = ap (λ (x : Report). says_turn_limit x.claim) h.is
  answers_within asked r takes (handed h) = handed_within r takes h
  answers_within asked r takes (solved stop looks timed may s) = solved_within stop timed looks r takes s
  answers_within asked r takes (gave_up g) = ap (λ (x : Report). says_turn_limit x.claim) g.is ∙ ap says_turn_limit (noted_claim g.note (claim_report g.job g.claim)) ∙ gave_up_is osil taken g.claim g.claims

-- ---- a run

module _ (laws : Laws) (status : ℕ) (run : ProgramRun) (osil_name : List ℕ) (options_name : Option (List ℕ)) (osil : List ℕ) (p : Parts) (halt_name : Option (List ℕ)) (seconds : Option ℕ) (solve : IsSolve run.words osil_name options_name None halt_name seconds true) (nothing : HandInNothing (option_map run.held options_name)) (holds : run.held osil_name ≡ Holds osil) (text : IsInstanceText osil p) (single : length p.goals ≡ 1) (plain : IsPlain (program p)) (ranges : HaveOneRange (program p)) (feasible : BeginsFeasible (program p)) (few : length p.vars + length p.rows ≤ 13) where
  due_within : (it : Command) (due : ℕ) (line : List ℕ) → it ≡ Solve osil_name options_name None halt_name seconds true → IsDue run.held it due line → IsTold due line status run.output run.output_after → WritesWithinTurns status run
  due_within it due line is asked told =
      let about : IsDocumentAbout (run.held osil_name) (option_map run.held options_name) None (option_map run.held halt_name) seconds true due line = subst (λ (x : Command). IsDue run.held x due line) is asked in
      let file : about.osil ≡ osil = subst (λ (h : Held). MayHold h about.osil) holds about.instance_file in
      let its : IsTold due (told_text about.written.names about.report) status run.output run.output_after = subst (λ (t : List ℕ). IsTold due t status run.output run.output_after) about.written.is told in
      let bare : about.beside ≡ None = about.result_file.2 ∙ ap one_handed (nothing about.osol about.result_file.0 about.options_file about.result_file.1) in
      inr (record {
        report = about.report;
        names = about.written.names;
        told = subst (λ (d : ℕ). IsTold d (told_text about.written.names about.report) status run.output run.output_after) about.status_is its;
        within = answers_within laws about.osil about.timed about.taken p (subst (λ (t : List ℕ). IsInstanceText t p) (sym file) text) single plain ranges feasible few about.asked about.report about.takes (subst (λ (b : Option (List ℕ)). AnswersBeside b about.osil about.taken about.asked about.report) bare about.answers);
      })

  one : (it : Command) → asks run.words ≡ Some it → it ≡ Solve osil_name options_name None halt_name seconds true
  one it asked = one_command _ it (Solve osil_name options_name None halt_name seconds true) asked solve

  a_command : IsNoCommand run.words → ⊥
  a_command other = none-some (Solve osil_name options_name None halt_name seconds true) (sym other ∙ solve)

  unsent_within : (u : IsUnsent run) → status ≡ 4 → IsUsageDue run u.text ⊎ IsAnswerDue run u.text → WritesWithinTurns status run
  unsent_within u is (inl d) = absurd (a_command d.other)
  unsent_within u is (inr d) = due_within d.asked.command d.status u.text (one d.asked.command d.asked.asked) d.asked.due (inr (is, u.breaks_off))

  ends_within : RunEnds status run → WritesWithinTurns status run
  ends_within (served how is s) = let e = one (Session None) s.session in absurd (cc)
  ends_within (answered a) = due_within a.asked.command status a.text (one a.asked.command a.asked.asked) a.asked.due (inl (refl, a.sent))
  ends_within (called c) = let e = one (Call c.kind c.host c.port c.osil c.osol c.ospl) c.asked in absurd (cc)
  ends_within (hosted how is h) = let e = one (asks_to_serve h.host h.port h.setup None) h.asked in absurd (cc)
  ends_within (misused is m) = absurd (a_command m.other)
  ends_within (file_fault is f) = inl f.unwritten
  ends_within (unsent is u) = unsent_within u is u.due
  ends_within (unheard is u) = inl u.unwritten

  -- nor of words that name a journal
  pub run_within : {D : Type 0} (g : Ghosts D) (stores : StoresRun)
      → {Untouched : Type 0} → (RunEnds status run × Untouched) ⊎ StoredRunEnds g status run stores → WritesWithinTurns status run
  run_within g stores (inl (ends, same)) = ends_within ends
  run_within g stores (inr (kept name asked ends)) = let e = one (Session (Some name)) asked in absurd (cc)
  run_within g stores (inr (stored.hosted host port setup name asked ends input)) = let e = one (asks_to_serve host port setup (Some name)) asked in absurd (cc)
  run_within g stores (inr (stored.compacted from to asked ends untaken)) = let e = one (Compact from to) asked in absurd (cc)
