-- What the run of a job tells.
use Rattle.std.proofs.Common.{◌≡◌, ◌∙◌, ℕ, zero, suc, ◌+◌, ◌≤◌, inl, inr, Bool, true, false, Option, None, Some, Result, Ok, List, [], ◌∷◌, ◌++◌, length, slice_index_or, arith, refl, ap, sym, subst}
use Rattle.std.specs.Prelude.{IfOk}
use Rattle.std.specs.List.{All}
use Rattle.std.proofs.lemmas.Result.{IfOk-weaker}
use Rattle.std.proofs.lemmas.List.{length-map, get_or-map}
use Rattle.os_io.specs.Looks.{stops_of}
use Rattle.evidence.specs.Instance.{IsProblem}
use Rattle.evidence.specs.ProvedBounds.{ProvedBound}
use Rattle.evidence.specs.Rounds.{Certificate}
use Rattle.fraction.specs.declared.frac.Frac.{Frac}
use Rattle.instance.specs.Parts.{Parts, IsValid}
use Rattle.instance.specs.Program.{problem}
use Rattle.certificate.specs.Nodes.{certs_of}
use Rattle.certificate.specs.declared.nodes.Cert.{Cert}
use Rattle.certificate.specs.Meanings as Means
use Rattle.certificate.specs.declared.causes.Cause.TheVariants.{Memory}
use Rattle.certificate.specs.declared.claims.Claim.{Claim}
use Rattle.certificate.specs.declared.claims.Claim.TheVariants as Has
use Rattle.simplex_rules.specs.Ends.{Clock}
use Rattle.simplex_rules.specs.Looks.{answers, went_on, looks_after, stop_after}
use Rattle.search_rules.specs.Search.{Found, Outcome, SearchMoment, early}
use Rattle.search_rules.specs.Bounds.{Carried}
use Rattle.search_rules.specs.Asked.{ComesAsked, AskedSearch, IsAskedAnswer, asked as searched, gave_up as gave_up_at, gave_up_after, gave_up_closing}
use Rattle.rational.specs.Ratio.{Ratio}
use Rattle.solve_run.specs.Firsts.{IsFirstOf, IsNoteFrom}
use Rattle.search_rules.specs.Outcomes.{IsShown}
use Rattle.branch_bound.specs.Claims.{ClaimTells, ClaimTellsWith}
use Rattle.osol_grammar.specs.declared.options.Options.{Options}
use Rattle.osol_grammar.specs.declared.fault.OsolFault.{OsolFault}
use Rattle.osol_grammar.specs.Meaning.{IsOptionsText}
use Rattle.osol_grammar.specs.Back.{IsNameOrNone}
use Rattle.osol_grammar.specs.Reading as options
use Rattle.osol_grammar.specs.Texts as options_texts
use Rattle.osil_grammar.specs.declared.fault.OsilFault.{OsilFault}
use Rattle.osil_grammar.specs.Reading.{IsInstanceText}
use Rattle.osil_grammar.specs.Reading as instances
use Rattle.osrl_writing.specs.declared.told_names.NameLists.{NameLists}
use Rattle.osrl_writing.specs.declared.report.Report.{Report}
use Rattle.solve_run.specs.declared.document.Document.{Document}
use Rattle.solve_run.specs.declared.closing.Judged.{Judged}
use Rattle.solve_run.specs.declared.closing.Judged.TheVariants.{Width, Bound}
use Rattle.solve_run.specs.Judging.{IsShownClaim, AreFewRounds, HasFewRounds, IsFinal, is_bounded, IsJudged, checked}
use Rattle.solve_run.specs.Asking.{job_asked}
use Rattle.solve_run.specs.Closings.{claim_report, error_report, noted, IsShort, IsFitted, IsFormed, IsToldOf}
use Rattle.solve_run.specs.Handing.{HandsInClaim}
use Rattle.solve_run.specs.Untils.{job_terms, stop_by, looks_by, MayTime, renamed, FindsUntil}
use Rattle.solve_run.specs.JobAnswers.{AreJobTexts, IsJobOf, MayStop, MayEnd, AnswersBeside, Right}
use Rattle.solve_run.specs.JobAnswers as right
use Rattle.solve_run.specs.Runs.{MayTimeOut, Reports, no_options, no_instance, handed, solved, gave_up, OutcomeBeside, TellsOutcome, TellsText, TellsDocument, RightBeside, IsRight, Ran, ClosesClaim, IsClaimTold, IsFittedDocument, IsMemoryDocument, IsErrorDocument, AreDueNames}
use Rattle.solve_run.proofs.Lengths.{IsShortName, best_short, unsure_short}
use Rattle.solve_run.proofs.Names.{short_name}
use Rattle.solve_run.proofs.ToldNames.{nameless, named_answer}
use Rattle.solve_run.proofs.WidthRefusals.{IsDecided, decided, few_values}
use Rattle.solve_run.proofs.ClaimNodes.{said_certificates, carried}
use Rattle.solve_run.proofs.PartialClaims.{AskedAreShown, BoundIsShown, bound_shown, plain_told, renamed_says, renamed_shown, memory_tells, with_none}
use Rattle.solve_run.proofs.FewRounds.{answer_few}

-- ---- claims that are given up

-- the document of a claim that isn't final and has no bound isn't too long
pub claim_short : (p : Parts) (job : Option (List ℕ)) (c : Claim) → IsValid p → IsShortName job → IsShownClaim p c → (IsFinal c → ⊥) → is_bounded c ≡ false → IsShort job c
claim_short p job (Has.Optimal x vs cs) valid name s other plain = absurd (other tt)
claim_short p job (Has.Infeasible cert) valid name s other plain = absurd (other tt)
claim_short p job (Has.Unbounded x vs cs r) valid name s other plain = absurd (other tt)
claim_short p job (Has.BestSoFar x vs c None) valid name s other plain = let (few, asked) = few_values p x vs c valid s in best_short job name x vs c few asked
claim_short p job (Has.BestSoFar x vs c (Some b)) valid name s other plain = absurd (cc)
claim_short p job (Has.Unsure c None) valid name s other plain = unsure_short job name c
claim_short p job (Has.Unsure c (Some b)) valid name s other plain = absurd (cc)

-- what is told of it is the claim itself
kept : (p : Parts) (job : Option (List ℕ)) (form turns : ℕ) (found told : Claim) → (IsFinal found → ⊥) → is_bounded found ≡ false → IsShort job found → IsToldOf p job form turns found told → told ≡ found
kept p job form turns found told other plain short c = by c.verdict c.judged c.forms c.fitted
  where
    by : (verdict : Judged) → IsJudged p found verdict → IsFormed p job form (checked found turns verdict) c.formed → IsFitted job c.formed told → told ≡ found
    by (Width None) judged (inl (one, fine, is)) fitted = absurd (other fine.0)
    by (Width None) judged (inr (other_form, is)) (inl (s, same)) = same ∙ is
    by (Width None) judged (inr (other_form, is)) (inr (inl (long, few, same))) = absurd (long (subst (IsShort job) (sym is) short))
    by (Width None) judged (inr (other_form, is)) (inr (inr (long, longer, same))) = absurd (long (subst (IsShort job) (sym is) short))
    by (Width (Some n)) judged forms fitted = absurd (other judged.0)
    by (Bound true) judged forms fitted = let clash : true ≡ false = sym judged.0 ∙ plain in absurd (cc)
    by (Bound false) judged forms fitted = let clash : true ≡ false = sym judged.0 ∙ plain in absurd (cc)

-- a claim for want of memory isn't final
pub wanting : (c : Claim) (best : Option Found) → ClaimTells c (early best Memory) → IsFinal c → ⊥
wanting c best t final = early_open best (decided c (early best Memory) None final t.says)
  where
    early_open : (best : Option Found) → IsDecided (early best Memory) → ⊥
    early_open None d = d
    early_open (Some f) d = d

-- and has no bound
pub wanting_plain : (c : Claim) (best : Option Found) → ClaimTells c (early best Memory) → is_bounded c ≡ false
wanting_plain c best t = plain_told c (early best Memory) t.says

-- ---- what is reported

abbrev clock_after : (turns looks : ℕ) → Clock
clock_after turns looks = record { turns = turns; looks = looks }

module _ (beside : Option (List ℕ)) (osil osol : List ℕ) (o : Options) (p : Parts) (valid : IsValid p) (options_text : IsOptionsText osol o) (name : IsNameOrNone o.job) (instance_text : IsInstanceText osil p) (ns : NameLists) (due : AreDueNames osil o ns) (start : Option Found) (first : IsFirstOf (problem p) o start) (note : Option (List ℕ)) (noting : IsNoteFrom beside osol o p start note) where
  abbrev given : AreJobTexts osil osol
  given = record { options = o; options_text = options_text; parts = p; valid = valid; instance_text = instance_text }

  -- the options that say the time are those of the job
  may_out : (killed : Bool) (timed : Option Frac) → MayTime o killed timed → MayTimeOut osol killed timed
  may_out killed None may = tt
  may_out killed (Some s) (says, went) = ((o, options_text, says), went)

  module _ (found : Claim) (turns n : ℕ) (doc : Document) (killed : Bool) where
    -- memory was wanting in the search: the claim of its moment is told
    wanted : (timed : Option Frac) (m : SearchMoment) (ks : List Carried) (xs : List (Option Ratio)) → ClaimTellsWith found (renamed timed (early m.best Memory)) None → IsShown (problem p) (early m.best Memory) → ComesAsked (problem p) (job_terms o (stop_by n killed timed)) (job_asked o) start m ks xs → ClosesClaim p ns note o.job o.form turns found doc → OutcomeBeside beside osil osol n killed doc
    wanted timed m ks xs tells shown comes closes =
        let told : ClaimTells found (early m.best Memory) = memory_tells found timed m.best tells in
        let other = wanting found m.best told in
        let plain = wanting_plain found m.best told in
        let whole : IsShownClaim p found = record { outcome = early m.best Memory; bound = None; tells = with_none found (early m.best Memory) told; shown = shown; bounded = tt } in
        let same = kept p o.job o.form turns found closes.told other plain (claim_short p o.job found valid (short_name o.job name) whole other plain) closes.closed in
        record {
          report = noted note (claim_report o.job closes.told);
          reports = gave_up (record {
            job = o.job;
            whose = inr (o, options_text, refl);
            claim = closes.told;
            claims = inr (record {
              given = given;
              start = start;
              first = first;
              stop = stop_by n killed timed;
              moment = m;
              carried = ks;
              numbers = xs;
              comes = comes;
              tells = subst (λ (c : Claim). ClaimTells c (early m.best Memory)) (sym same) told;
            });
            note = note;
            noting = inr (record { given = given; start = start; first = first; noting = noting });
            is = refl;
          });
          is = named_answer osil osol o options_text p instance_text ns due (noted note (claim_report o.job closes.told)) doc closes.is;
        }

    module _ (timed : Option Frac) (may : MayTime o killed timed) where
      ended : (oc : Outcome) (b : Option ProvedBound) (c : Clock) → c ≡ clock_after turns (looks_by n killed timed) → ClaimTellsWith found (renamed timed oc) b → AskedSearch (problem p) (job_terms o (stop_by n killed timed)) (job_asked o) start oc b c → ClosesClaim p ns note o.job o.form turns found doc → OutcomeBeside beside osil osol n killed doc
      ended oc b c at tells ends closes = record {
        report = noted note (claim_report o.job closes.told);
        reports = solved timed (may_out killed timed may) (record {
          given = given;
          turns = turns;
          start = start;
          first = first;
          outcome = oc;
          bound = b;
          ends = subst (λ (x : Clock). AskedSearch (problem p) (job_terms o (stop_by n killed timed)) (job_asked o) start oc b x) at ends;
          found = found;
          tells = tells;
          told = closes.told;
          closed = closes.closed;
          numbers = closes.numbers;
          note = note;
          noting = noting;
          is = refl;
        });
        is = named_answer osil osol o options_text p instance_text ns due (noted note (claim_report o.job closes.told)) doc closes.is;
      }

      answered : (oc : Outcome) (b : Option ProvedBound) (c : Clock) → c ≡ clock_after turns (looks_by n killed timed) → ClaimTellsWith found (renamed timed oc) b → IsShown (problem p) oc → IsAskedAnswer (problem p) (job_terms o (stop_by n killed timed)) (job_asked o) start oc b c → ClosesClaim p ns note o.job o.form turns found doc → OutcomeBeside beside osil osol n killed doc
      answered oc b c at tells shown (searched s) closes = ended oc b c at tells s closes
      answered oc b c at tells shown (gave_up_at {m} {ks} {xs} h) closes = wanted timed m ks xs tells shown h closes
      answered oc b c at tells shown (gave_up_after {m} {ks} {xs} h r) closes = wanted timed m ks xs tells shown h closes
      answered oc b c at tells shown (gave_up_closing {m} {ks} {xs} asks h over) closes = wanted timed m ks xs tells shown h closes

-- nothing is told for want of memory, of this job
untold : (beside : Option (List ℕ)) (osil osol : List ℕ) (n : ℕ) (killed : Bool) (job : Option (List ℕ)) (doc : Document) → IsJobOf osol job → IsMemoryDocument job doc → OutcomeBeside beside osil osol n killed doc
untold beside osil osol n killed job doc whose is = record {
  report = claim_report job (Has.Unsure Memory None);
  reports = gave_up (record { job = job; whose = whose; claim = Has.Unsure Memory None; claims = inl refl; note = None; noting = inl refl; is = refl });
  is = nameless osil osol (claim_report job (Has.Unsure Memory None)) doc (λ ns. refl) is;
}

-- the run of an instance
module _ (p : Parts) (o : Options) (start : Option Found) (first : IsFirstOf (problem p) o start) (Came : List Bool → Type 0) (found : Claim) (turns : ℕ) (f : FindsUntil p o start Came found turns) where
  -- what was found is shown, and so is its bound
  abbrev pub FoundIsShown : Type 0
  FoundIsShown = IsShown (problem p) f.outcome × BoundIsShown (problem p) f.bound

  pub ran : {E : Type 0} (beside : Option (List ℕ)) (osil osol : List ℕ) (ns : NameLists) (note : Option (List ℕ)) (result : Result Document E)
      → IsValid p → IsNameOrNone o.job → IsOptionsText osol o → IsInstanceText osil p → AreDueNames osil o ns → IsNoteFrom beside osol o p start note → FoundIsShown
      → IfOk result (IsClaimTold p ns note o.job o.form turns found) → Ran Came osil osol (TellsDocument beside osil osol result)
  ran {E} beside osil osol ns note result valid name options_text instance_text due noting shown told =
      record {
        went_on = f.went_on;
        killed = f.killed;
        came = f.came;
        looks = inr (record { given = given beside osil osol o p valid options_text name instance_text ns due start first note noting; turns = turns; start = start; first = first; outcome = f.outcome; timed = f.timed; may = f.may; bound = f.bound; answers = f.answer });
        tells = IfOk-weaker result (IsClaimTold p ns note o.job o.form turns found) (OutcomeBeside beside osil osol f.went_on f.killed) by told;
      }
    where
      by : (doc : Document) → IsClaimTold p ns note o.job o.form turns found doc → OutcomeBeside beside osil osol f.went_on f.killed doc
      by doc (inl closes) = answered beside osil osol o p valid options_text name instance_text ns due start first note noting found turns f.went_on doc f.killed f.timed f.may f.outcome f.bound (clock_after turns (looks_by f.went_on f.killed f.timed)) refl f.tells shown.0 f.answer closes
      by doc (inr memory) = untold beside osil osol f.went_on f.killed o.job doc (inr (o, options_text, refl)) memory

  pub shown_by : AskedAreShown → ((q : Parts) → IsProblem (problem q)) → FoundIsShown
  shown_by shows numbers =
      (shows.outcome (problem p) _ _ _ start f.outcome f.bound _ (numbers p) first f.answer, bound_shown shows (problem p) _ _ _ start f.outcome f.bound _ (numbers p) first f.answer)

  pub claim_shown : FoundIsShown → IsShownClaim p found
  claim_shown shown = record { outcome = renamed f.timed f.outcome; bound = f.bound; tells = f.tells; shown = renamed_shown (problem p) f.timed f.outcome shown.0; bounded = shown.1 }

  -- with no more rounds than the options ask for
  pub few_by : AreFewRounds o.rounds → HasFewRounds found
  few_by asked i d h =
      let few = answer_few (problem p) (job_terms o (stop_by f.went_on f.killed f.timed)) (job_asked o) start f.outcome f.bound _ f.answer in
      let same = sym (ap said_certificates (renamed_says f.timed f.outcome f.bound)) ∙ carried found (renamed f.timed f.outcome) f.bound f.tells in
      let each : All (λ (c : Certificate). length c.rounds ≤ o.rounds) (Means.certificates (certs_of found)) = subst (All (λ (c : Certificate). length c.rounds ≤ o.rounds)) same few in
      let cert : Cert = slice_index_or (certs_of found) i d in
      let less = each i (Means.certificate d) (omega (arith, h, length-map (certs_of found) Means.certificate)) in
      omega (arith, asked, less, ap (λ (c : Certificate). length c.rounds) (get_or-map Means.certificate (certs_of found) i d (Means.certificate d) h), length-map cert.rounds Means.round)

-- ---- no search

-- without looks
pub quiet : {E : Type 0} (Came : List Bool → Type 0) (beside : Option (List ℕ)) (osil osol : List ℕ) (result : Result Document E) → Came [] → IfOk result (OutcomeBeside beside osil osol 0 false) → Ran Came osil osol (TellsDocument beside osil osol result)
quiet {E} Came beside osil osol result came tells = record { went_on = 0; killed = false; came = came; looks = inl (refl, refl); tells = tells }

pub quiet_memory : {E : Type 0} (Came : List Bool → Type 0) (beside : Option (List ℕ)) (osil osol : List ℕ) (job : Option (List ℕ)) (result : Result Document E) → Came [] → IsJobOf osol job → IfOk result (IsMemoryDocument job) → Ran Came osil osol (TellsDocument beside osil osol result)
quiet_memory {E} Came beside osil osol job result came whose is =
    quiet Came beside osil osol result came (IfOk-weaker result (IsMemoryDocument job) (OutcomeBeside beside osil osol 0 false) (λ doc memory. untold beside osil osol 0 false job doc whose memory) is)

message_of : {E : Type 0} (message : Result (List ℕ) E) (P : List ℕ → Type 0) (m : List ℕ) → message ≡ Ok m → IfOk message P → P m
message_of {E} message P m is h = subst (λ (r : Result (List ℕ) E). IfOk r P) is h

pub quiet_options : {E : Type 0} (Came : List Bool → Type 0) (beside : Option (List ℕ)) (osil osol : List ℕ) (fault : OsolFault) (message : Result (List ℕ) E) (result : Result Document E) → Came [] → options.DecodeFails osol fault → IfOk message (options_texts.IsFaultText fault) → IfOk result (IsErrorDocument None message) → Ran Came osil osol (TellsDocument beside osil osol result)
quiet_options {E} Came beside osil osol fault message result came fails says is =
    quiet Came beside osil osol result came (IfOk-weaker result (IsErrorDocument None message) (OutcomeBeside beside osil osol 0 false) by is)
  where
    by : (doc : Document) → IsErrorDocument None message doc → OutcomeBeside beside osil osol 0 false doc
    by doc (inl (m, same, written)) = record {
      report = error_report None m;
      reports = no_options (record { fault = fault; fails = fails; message = m; says = message_of message (options_texts.IsFaultText fault) m same says; is = refl });
      is = nameless osil osol (error_report None m) doc (λ ns. refl) written;
    }
    by doc (inr memory) = untold beside osil osol 0 false None doc (inl refl) memory

pub quiet_instance : {E : Type 0} (Came : List Bool → Type 0) (beside : Option (List ℕ)) (osil osol : List ℕ) (o : Options) (fault : OsilFault) (message : Result (List ℕ) E) (result : Result Document E) → Came [] → IsOptionsText osol o → instances.DecodeFails osil fault → IfOk message (instances.IsFaultText fault) → IfOk result (IsErrorDocument o.job message) → Ran Came osil osol (TellsDocument beside osil osol result)
quiet_instance {E} Came beside osil osol o fault message result came options_text fails says is =
    quiet Came beside osil osol result came (IfOk-weaker result (IsErrorDocument o.job message) (OutcomeBeside beside osil osol 0 false) by is)
  where
    by : (doc : Document) → IsErrorDocument o.job message doc → OutcomeBeside beside osil osol 0 false doc
    by doc (inl (m, same, written)) = record {
      report = error_report o.job m;
      reports = no_instance (record { options = o; options_text = options_text; fault = fault; fails = fails; message = m; says = message_of message (instances.IsFaultText fault) m same says; is = refl });
      is = nameless osil osol (error_report o.job m) doc (λ ns. refl) written;
    }
    by doc (inr memory) = untold beside osil osol 0 false o.job doc (inr (o, options_text, refl)) memory

-- the claim of a result that is handed in is told
pub quiet_handed : {E : Type 0} (Came : List Bool → Type 0) (beside : Option (List ℕ)) (osil osol : List ℕ) (o : Options) (p : Parts) (ns : NameLists) (c : Claim) (result : Result Document E) → Came [] → IsValid p → IsOptionsText osol o → IsInstanceText osil p → AreDueNames osil o ns → HandsInClaim beside osol p c → IfOk result (IsFittedDocument ns None o.job c) → Ran Came osil osol (TellsDocument beside osil osol result)
quiet_handed {E} Came beside osil osol o p ns c result came valid options_text instance_text due hands is =
    quiet Came beside osil osol result came (IfOk-weaker result (IsFittedDocument ns None o.job c) (OutcomeBeside beside osil osol 0 false) by is)
  where
    by : (doc : Document) → IsFittedDocument ns None o.job c doc → OutcomeBeside beside osil osol 0 false doc
    by doc (inl (told, fitted, written)) = record {
      report = claim_report o.job told;
      reports = handed (record { given = record { options = o; options_text = options_text; parts = p; valid = valid; instance_text = instance_text }; claim = c; handed = hands; told = told; fitted = fitted; is = refl });
      is = named_answer osil osol o options_text p instance_text ns due (claim_report o.job told) doc written;
    }
    by doc (inr memory) = untold beside osil osol 0 false o.job doc (inr (o, options_text, refl)) memory

-- ---- the verdict

one_stop : (n : ℕ) → stops_of (went_on n ++ true ∷ []) ≡ 1
one_stop zero = refl
one_stop (suc n) = one_stop n

abbrev Asked : (killed asked : Bool) → Type 0
Asked killed asked = killed ≡ true → asked ≡ true

answers_right : (beside : Option (List ℕ)) (osil osol : List ℕ) (n : ℕ) (killed asked : Bool) (r : Report) → Asked killed asked → Reports beside osil osol n killed r → AnswersBeside beside osil osol asked r
answers_right beside osil osol n killed asked r only (no_options h) = right.no_options h
answers_right beside osil osol n killed asked r only (no_instance h) = right.no_instance h
answers_right beside osil osol n killed asked r only (handed h) = right.handed h
answers_right beside osil osol n killed asked r only (solved timed may h) = right.solved (stop_by n killed timed) (looks_by n killed timed) timed (ends timed may) h
  where
    stops : (k : Bool) → Asked k asked → MayStop asked (stop_after n k) (looks_after 0 n k)
    stops false only = inl refl
    stops true only = inr (only refl, ap Some (omega arith))

    ends : (timed : Option Frac) → MayTimeOut osol killed timed → MayEnd osol asked (stop_by n killed timed) (looks_by n killed timed) timed
    ends None may = stops killed only
    ends (Some s) (says, went) = (says, refl)
answers_right beside osil osol n killed asked r only (gave_up h) = right.gave_up h

-- only a look that says so asks a job to stop
only_asked : (Came : List Bool → Type 0) (before after n : ℕ) → ((answers : List Bool) → Came answers → after ≡ before + stops_of answers)
    → (killed : Bool) → Came (answers n killed) → (asked : Bool) → (asked ≡ false → after ≡ before) → Asked killed asked
only_asked Came before after n counts k came true same e = refl
only_asked Came before after n counts true came false same e = let one = one_stop n in let all = counts (answers n true) came in let still = same refl in absurd (omega (arith, one, all, still))
only_asked Came before after n counts false came false same e = absurd (cc)

-- a document is right, the job being asked to stop where a look said so
pub right_documents : {E : Type 0} (Came : List Bool → Type 0) (beside : Option (List ℕ)) (osil osol : List ℕ) (result : Result Document E) (before after : ℕ) → ((answers : List Bool) → Came answers → after ≡ before + stops_of answers)
    → Ran Came osil osol (TellsDocument beside osil osol result) → (asked : Bool) → (asked ≡ false → after ≡ before) → IfOk result (RightBeside beside osil osol asked)
right_documents {E} Came beside osil osol result before after counts ran asked stayed =
    IfOk-weaker result (OutcomeBeside beside osil osol ran.went_on ran.killed) (RightBeside beside osil osol asked) (λ doc t. (t.report, answers_right beside osil osol ran.went_on ran.killed asked t.report only t.reports, t.is)) ran.tells
  where
    only : Asked ran.killed asked
    only = only_asked Came before after ran.went_on counts ran.killed ran.came asked stayed

-- and so is its text
pub right_text : (osil osol : List ℕ) (asked : Bool) (doc : Document) → IsRight osil osol asked doc → Right osil osol asked (Some doc.text)
right_text osil osol asked doc (r, answers, is) = (r, answers, is.text)

-- a run that tells a document tells its text
pub text_of : (Came : List Bool → Type 0) (osil osol : List ℕ) (doc : Document) → Ran Came osil osol (λ n killed. TellsOutcome osil osol n killed doc) → Ran Came osil osol (λ n killed. TellsText osil osol n killed doc.text)
text_of Came osil osol doc ran = record { went_on = ran.went_on; killed = ran.killed; came = ran.came; looks = ran.looks; tells = (doc.is_error, ran.tells) }
