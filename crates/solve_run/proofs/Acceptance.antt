-- What a report claims is accepted, from the report's own text.
use Rattle.std.proofs.Common.{◌≡◌, ◌∙◌, ℕ, ◌⊎◌, inl, inr, Bool, true, false, cond, Option, None, Some, List, length, arith, refl, ap, sym, subst}
use Rattle.std.specs.Prelude.{nat_le}
use Rattle.std.proofs.lemmas.Bool.{leb-true}
use Rattle.document_tags.specs.Texts.{document_limit}
use Rattle.evidence.specs.Instance.{IsProblem}
use Rattle.evidence.specs.Claim.{Accepts}
use Rattle.fraction.specs.declared.frac.Frac.{Frac}
use Rattle.instance.specs.Parts.{Parts, IsValid}
use Rattle.instance.specs.Program.{problem}
use Rattle.certificate.specs.Meanings as Means
use Rattle.certificate.specs.declared.causes.Cause.{Cause}
use Rattle.certificate.specs.declared.causes.Cause.TheVariants as causes
use Rattle.certificate.specs.declared.claims.Claim.{Claim}
use Rattle.certificate.specs.declared.claims.Claim.TheVariants as Has
use Rattle.search_rules.specs.Search.{early}
use Rattle.search_rules.specs.Asked.{asked as searched, gave_up as gave_up_at}
use Rattle.osol_grammar.specs.declared.options.Options.{Options}
use Rattle.osol_grammar.specs.Meaning.{IsOptionsText}
use Rattle.osol_grammar.specs.Back.{IsNameOrNone}
use Rattle.osil_grammar.specs.Reading.{IsInstanceText}
use Rattle.osrl_writing.specs.declared.report.Report.{Report}
use Rattle.osrl_writing.specs.Writing.{report_text}
use Rattle.osrl_grammar.specs.Reading.{IsReportText}
use Rattle.osrl_grammar.specs.Back.{IsBareOrNone, CauseComesBack, ClaimComesBack, ComesBack}
use Rattle.document_checker.specs.declared.documents.Kind.{Kind}
use Rattle.document_checker.specs.Documents.{kind, IsAcceptedText}
use Rattle.certificate.specs.GivenUp.{given_up, without_bound}
use Rattle.solve_run.specs.declared.closing.Judged.{Judged}
use Rattle.solve_run.specs.declared.closing.Judged.TheVariants.{Width, Bound}
use Rattle.solve_run.specs.Asking.{job_asked}
use Rattle.solve_run.specs.Judging.{IsShownClaim, HasFewRounds, IsFinal, is_bounded, IsJudged, wide_check, checked}
use Rattle.solve_run.specs.RowForms.{claim_of_rows}
use Rattle.solve_run.proofs.RowForms.{rows_given, rows_final}
use Rattle.solve_run.specs.Closings.{error_report, claim_report, with_message, noted, IsShort, IsFitted, IsFormed, IsToldOf}
use Rattle.solve_run.specs.JobAnswers.{TakesBeside, SolvedBeside, IsNoteOfJob, IsJobOf, IsBestOfSearch, AnswersBeside, no_options, no_instance, handed, solved, gave_up}
use Rattle.solve_run.specs.Untils.{job_terms, renamed}
use Rattle.solve_run.proofs.Lengths.{IsShortName, unsure_short, error_short}
use Rattle.solve_run.proofs.Texts.{noted_claim}
use Rattle.solve_run.proofs.HandedMessages.{whole_bare}
use Rattle.solve_run.proofs.HandedClaims.{left_accepted, without_accepted, left_short}
use Rattle.solve_run.proofs.Closings.{fitted_back}
use Rattle.solve_run.proofs.InkedTexts.{IsMessage}
use Rattle.solve_run.proofs.FaultMessages.{options_message, instance_message}
use Rattle.solve_run.proofs.Names.{short_name, bare_name}
use Rattle.solve_run.proofs.PartialClaims.{AskedAreShown, bound_shown, given_other, given_plain, given_shown, without_shown, final_whole, bounded_other, renamed_shown, with_none}
use Rattle.solve_run.proofs.WidthRefusals.{best_accepted}
use Rattle.solve_run.proofs.RoundTrips.{shown_back, wanting_causes}
use Rattle.solve_run.proofs.Runs.{claim_short, wanting, wanting_plain}

-- ---- claims

-- it is accepted, if it claims something, and its document isn't too long
pub record IsGood (p : Parts) (job : Option (List ℕ)) (c : Claim) : Type 0 where
  pub accepted : (k : Kind) → kind c ≡ Some k → Accepts (problem p) (Means.claim c)
  pub short : IsShort job c

-- a claim that is shown, which isn't final and has no bound, is accepted if it claims something
plain_accepted : (p : Parts) (c : Claim) (k : Kind) → IsShownClaim p c → (IsFinal c → ⊥) → is_bounded c ≡ false → kind c ≡ Some k → Accepts (problem p) (Means.claim c)
plain_accepted p (Has.Optimal x vs cs) k s other plain is = absurd (other tt)
plain_accepted p (Has.Infeasible cert) k s other plain is = absurd (other tt)
plain_accepted p (Has.Unbounded x vs cs r) k s other plain is = absurd (other tt)
plain_accepted p (Has.BestSoFar x vs c None) k s other plain is = best_accepted p x vs c s
plain_accepted p (Has.BestSoFar x vs c (Some b)) k s other plain is = absurd (cc)
plain_accepted p (Has.Unsure c None) k s other plain is = absurd (cc)
plain_accepted p (Has.Unsure c (Some b)) k s other plain is = absurd (cc)

-- where a final one is accepted, so is each without a bound
shown_accepted : (p : Parts) (c : Claim) (k : Kind) → IsShownClaim p c → is_bounded c ≡ false → (IsFinal c → Accepts (problem p) (Means.claim c)) → kind c ≡ Some k → Accepts (problem p) (Means.claim c)
shown_accepted p (Has.Optimal x vs cs) k s plain final is = final tt
shown_accepted p (Has.Infeasible cert) k s plain final is = final tt
shown_accepted p (Has.Unbounded x vs cs r) k s plain final is = final tt
shown_accepted p (Has.BestSoFar x vs c b) k s plain final is = plain_accepted p (Has.BestSoFar x vs c b) k s (λ f. f) plain is
shown_accepted p (Has.Unsure c b) k s plain final is = plain_accepted p (Has.Unsure c b) k s (λ f. f) plain is

-- without its bound it is accepted, whether or not it is with it
without_good : (p : Parts) (c : Claim) (k : Kind) → IsShownClaim p c → ((j : Kind) → IsFinal c → kind c ≡ Some j → Accepts (problem p) (Means.claim c)) → kind (without_bound c) ≡ Some k → Accepts (problem p) (Means.claim (without_bound c))
without_good p (Has.Optimal x vs cs) k s final is = final k tt is
without_good p (Has.Infeasible cert) k s final is = final k tt is
without_good p (Has.Unbounded x vs cs r) k s final is = final k tt is
without_good p (Has.BestSoFar x vs c b) k s final is = best_accepted p x vs c (without_shown p (Has.BestSoFar x vs c b) s)
without_good p (Has.Unsure c b) k s final is = absurd (cc)

-- a claim of a search that isn't final and has no bound carries no certificate
no_certificates : (c : Claim) → (IsFinal c → ⊥) → is_bounded c ≡ false → HasFewRounds c
no_certificates (Has.Optimal x vs cs) other plain = absurd (other tt)
no_certificates (Has.Infeasible cert) other plain = absurd (other tt)
no_certificates (Has.Unbounded x vs cs r) other plain = absurd (other tt)
no_certificates (Has.BestSoFar x vs c None) other plain = λ k d h. absurd (omega (arith, h))
no_certificates (Has.BestSoFar x vs c (Some b)) other plain = absurd (cc)
no_certificates (Has.Unsure c None) other plain = λ k d h. absurd (omega (arith, h))
no_certificates (Has.Unsure c (Some b)) other plain = absurd (cc)

module _ (p : Parts) (job : Option (List ℕ)) (valid : IsValid p) (name : IsShortName job) where
  -- a claim that isn't final, without a bound
  pub other_good : (c : Claim) → IsShownClaim p c → (IsFinal c → ⊥) → is_bounded c ≡ false → IsGood p job c
  other_good c s other plain = record { accepted = λ k is. plain_accepted p c k s other plain is; short = claim_short p job c valid name s other plain }

  given_good : (c : Claim) (cause : Cause) → IsShownClaim p c → IsGood p job (given_up c cause)
  given_good c cause s = other_good (given_up c cause) (given_shown p c cause s) (given_other c cause) (given_plain c cause)

  fitted_good : (c told : Claim) → IsShownClaim p c → ((k : Kind) → kind c ≡ Some k → Accepts (problem p) (Means.claim c)) → IsFitted job c told → IsGood p job told
  fitted_good c told s accepted (inl (short, same)) = subst (IsGood p job) (sym same) (record { accepted = accepted; short = short })
  fitted_good c told s accepted (inr (inl (long, short, same))) = subst (IsGood p job) (sym same) (record { accepted = λ k is. without_good p c k s (λ j final says. accepted j says) is; short = short })
  fitted_good c told s accepted (inr (inr (long, longer, same))) = subst (IsGood p job) (sym same) (given_good c causes.Length s)

  -- with rows alone, where it is accepted so
  rows_good : (c told : Claim) → IsShownClaim p c → IsFinal c → Accepts (problem p) (Means.claim (claim_of_rows (length p.vars) c)) → IsFitted job (claim_of_rows (length p.vars) c) told → IsGood p job told
  rows_good c told s final fine (inl (short, same)) = subst (IsGood p job) (sym same) (record { accepted = λ k is. fine; short = short })
  rows_good c told s final fine (inr (inl (long, short, same))) = absurd (long (subst (IsShort job) (final_whole (claim_of_rows (length p.vars) c) (rows_final (length p.vars) c final)) short))
  rows_good c told s final fine (inr (inr (long, longer, same))) = subst (IsGood p job) (sym (same ∙ rows_given (length p.vars) c causes.Length)) (given_good c causes.Length s)

  formed_good : (form : ℕ) (c formed told : Claim) → IsShownClaim p c → ((k : Kind) → kind c ≡ Some k → Accepts (problem p) (Means.claim c)) → IsFormed p job form c formed → IsFitted job formed told → IsGood p job told
  formed_good form c formed told s accepted (inl (one, fine, same)) fitted = rows_good c told s fine.0 fine.1 (subst (λ (d : Claim). IsFitted job d told) same fitted)
  formed_good form c formed told s accepted (inr (other_form, same)) fitted = fitted_good c told s accepted (subst (λ (d : Claim). IsFitted job d told) same fitted)

  pub closed_good : (form turns : ℕ) (found told : Claim) → IsShownClaim p found → IsToldOf p job form turns found told → IsGood p job told
  closed_good form turns found told s c = by c.verdict c.judged c.forms
    where
      by : (verdict : Judged) → IsJudged p found verdict → IsFormed p job form (checked found turns verdict) c.formed → IsGood p job told
      by (Width None) judged forms = formed_good form found c.formed told s (λ k is. shown_accepted p found k s judged.0 judged.1 is) forms c.fitted
      by (Width (Some n)) judged forms =
          let cause = wide_check n turns in
          let g = given_good found cause s in
          formed_good form (given_up found cause) c.formed told (given_shown p found cause s) g.accepted forms c.fitted
      by (Bound true) judged forms = formed_good form found c.formed told s (λ k is. judged.1) forms c.fitted
      by (Bound false) judged forms =
          let other = bounded_other found judged.0 in
          formed_good form (without_bound found) c.formed told (without_shown p found s) (λ k is. without_good p found k s (λ j final says. absurd (other final)) is) forms c.fitted

-- a claim that is taken, or what is told of it, is accepted, and not too long
told_good : (p : Parts) (job : Option (List ℕ)) (c told : Claim) → IsValid p → IsShortName job → Accepts (problem p) (Means.claim c) → IsFitted job c told → ((k : Kind) → kind told ≡ Some k → Accepts (problem p) (Means.claim told)) × IsShort job told
told_good p job c told valid name accepted (inl (short, same)) = (λ k says. subst (λ (d : Claim). Accepts (problem p) (Means.claim d)) (sym same) accepted, subst (IsShort job) (sym same) short)
told_good p job c told valid name accepted (inr (inl (long, short, same))) =
    (λ k says. subst (λ (d : Claim). Accepts (problem p) (Means.claim d)) (sym same) (without_accepted (problem p) c k accepted (ap kind (sym same) ∙ says)), subst (IsShort job) (sym same) short)
told_good p job c told valid name accepted (inr (inr (long, longer, same))) =
    (λ k says. subst (λ (d : Claim). Accepts (problem p) (Means.claim d)) (sym same) (left_accepted (problem p) c causes.Length k accepted (ap kind (sym same) ∙ says)), subst (IsShort job) (sym same) (left_short p job valid name c causes.Length accepted))

-- ---- reports

module _ (names : (bytes : List ℕ) (o : Options) → IsOptionsText bytes o → IsNameOrNone o.job)
    (numbers : (p : Parts) → IsProblem (problem p))
    (shows : AskedAreShown)
    (comes_back : (r : Report) → ComesBack r → IsReportText (report_text r) r)
    (read_back : (bytes : List ℕ) (r : Report) (c : Claim) → IsReportText bytes r → r.claim ≡ Some c → ClaimComesBack (Some c)) (beside : Option (List ℕ)) where
  -- a report of a good claim is read from its own text, and accepted
  record IsGoodReport (osil : List ℕ) (r : Report) : Type 0 where
    pub job : Option (List ℕ)
    pub bare : IsBareOrNone job
    pub parts : Parts
    pub instance_text : IsInstanceText osil parts
    pub claim : Claim
    pub back : ClaimComesBack (Some claim)
    pub accepted : (k : Kind) → kind claim ≡ Some k → Accepts (problem parts) (Means.claim claim)
    pub short : IsShort job claim
    pub note : Option (List ℕ)
    pub note_bare : IsBareOrNone note
    pub is : r ≡ noted note (claim_report job claim)

  solved_good : (osil osol : List ℕ) (stop : Option ℕ) (timed : Option Frac) (looks : ℕ) (r : Report) → SolvedBeside beside osil osol stop timed looks r → IsGoodReport osil r
  solved_good osil osol stop timed looks r s =
      let g = s.given in
      let shown = shows.outcome (problem g.parts) (job_terms g.options stop) (job_asked g.options) _ s.start s.outcome s.bound _ (numbers g.parts) s.first (searched s.ends) in
      let bounded = bound_shown shows (problem g.parts) (job_terms g.options stop) (job_asked g.options) _ s.start s.outcome s.bound _ (numbers g.parts) s.first (searched s.ends) in
      let good = closed_good g.parts g.options.job g.valid (short_name g.options.job (names osol g.options g.options_text)) g.options.form s.turns s.found s.told (record { outcome = renamed timed s.outcome; bound = s.bound; tells = s.tells; shown = renamed_shown (problem g.parts) timed s.outcome shown; bounded = bounded }) s.closed in
      record {
        job = g.options.job;
        bare = bare_name g.options.job (names osol g.options g.options_text);
        parts = g.parts;
        instance_text = g.instance_text;
        claim = s.told;
        back = s.numbers;
        accepted = good.accepted;
        short = good.short;
        note = s.note;
        note_bare = whole_bare beside osol g.options g.parts s.start s.note s.noting;
        is = s.is;
      }

  -- a claim that is taken, or what is told of it
  handed_good : (osil osol : List ℕ) (r : Report) → TakesBeside beside osil osol r → IsGoodReport osil r
  handed_good osil osol r h =
      let g = h.given in
      let shown = h.handed.taken.shown in
      let name = names osol g.options g.options_text in
      let parts = told_good g.parts g.options.job h.claim h.told g.valid (short_name g.options.job name) shown.accepted h.fitted in
      record {
        job = g.options.job;
        bare = bare_name g.options.job name;
        parts = g.parts;
        instance_text = g.instance_text;
        claim = h.told;
        back = fitted_back g.options.job h.claim h.told h.fitted (read_back h.handed.taken.text shown.report h.claim shown.report_text shown.stands);
        accepted = parts.0;
        short = parts.1;
        note = None;
        note_bare = tt;
        is = h.is;
      }

  job_note_bare : (osil osol : List ℕ) (note : Option (List ℕ)) → IsNoteOfJob beside osil osol note → IsBareOrNone note
  job_note_bare osil osol note (inl none) = subst IsBareOrNone (sym none) tt
  job_note_bare osil osol note (inr h) = whole_bare beside osol h.given.options h.given.parts h.start note h.noting

  job_bare : (osol : List ℕ) (job : Option (List ℕ)) → IsJobOf osol job → IsBareOrNone job × IsShortName job
  job_bare osol job (inl none) = (subst IsBareOrNone (sym none) tt, subst IsShortName (sym none) tt)
  job_bare osol job (inr (o, text, same)) = (subst IsBareOrNone (sym same) (bare_name o.job (names osol o text)), subst IsShortName (sym same) (short_name o.job (names osol o text)))

  best_good : (osil osol : List ℕ) (job note : Option (List ℕ)) (c : Claim) (r : Report) → IsJobOf osol job → IsNoteOfJob beside osil osol note → IsBestOfSearch osil osol c → r ≡ noted note (claim_report job c) → IsGoodReport osil r
  best_good osil osol job note c r whose noting b is =
      let g = b.given in
      let named = job_bare osol job whose in
      let shown = shows.outcome (problem g.parts) (job_terms g.options b.stop) (job_asked g.options) _ b.start (early b.moment.best causes.Memory) None b.moment.clock (numbers g.parts) b.first (gave_up_at b.comes) in
      let claimed : IsShownClaim g.parts c = record { outcome = early b.moment.best causes.Memory; bound = None; tells = with_none c (early b.moment.best causes.Memory) b.tells; shown = shown; bounded = tt } in
      let plain = wanting_plain c b.moment.best b.tells in
      let good = other_good g.parts job g.valid named.1 c claimed (wanting c b.moment.best b.tells) plain in
      record {
        job = job;
        bare = named.0;
        parts = g.parts;
        instance_text = g.instance_text;
        claim = c;
        back = shown_back g.parts c g.valid claimed (no_certificates c (wanting c b.moment.best b.tells) plain) (wanting_causes c b.moment.best b.tells.cause);
        accepted = good.accepted;
        short = good.short;
        note = note;
        note_bare = job_note_bare osil osol note noting;
        is = is;
      }

  -- the claim of a report
  same_claim : (r : Report) (job note : Option (List ℕ)) (c d : Claim) → r ≡ noted note (claim_report job c) → r.claim ≡ Some d → c ≡ d
  same_claim r job note c d is stands = let q : ◌≡◌ {A = Option Claim} (Some c) (Some d) = sym (noted_claim note (claim_report job c)) ∙ sym (ap (λ (s : Report). s.claim) is) ∙ stands in cc

  claims_nothing : (r : Report) (c : Claim) → r.claim ≡ None → r.claim ≡ Some c → ⊥
  claims_nothing r c none some = cc

  -- with a message or without
  noted_read : (note job : Option (List ℕ)) (c : Claim) → IsBareOrNone note → IsBareOrNone job → IsShort job c → ClaimComesBack (Some c) → IsReportText (report_text (noted note (claim_report job c))) (noted note (claim_report job c))
  noted_read None job c bare named short back = comes_back (claim_report job c) (record { short = short; job = named; message = tt; claim = back })
  noted_read (Some m) job c bare named short back = by (nat_le (length (report_text (with_message m (claim_report job c)))) document_limit) refl
    where
      by : (b : Bool) → nat_le (length (report_text (with_message m (claim_report job c)))) document_limit ≡ b
          → IsReportText (report_text (cond b (with_message m (claim_report job c)) (claim_report job c))) (cond b (with_message m (claim_report job c)) (claim_report job c))
      by true few = comes_back (with_message m (claim_report job c)) (record { short = leb-true (length (report_text (with_message m (claim_report job c)))) document_limit few; job = named; message = bare; claim = back })
      by false many = comes_back (claim_report job c) (record { short = short; job = named; message = tt; claim = back })

  good_read : (osil : List ℕ) (r : Report) → IsGoodReport osil r → IsReportText (report_text r) r
  good_read osil r g =
      subst (λ (s : Report). IsReportText (report_text s) s) (sym g.is) (noted_read g.note g.job g.claim g.note_bare g.bare g.short g.back)

  good_accepted : (osil : List ℕ) (r : Report) (text : List ℕ) (c : Claim) (k : Kind) → IsReportText text r → r.claim ≡ Some c → kind c ≡ Some k → IsGoodReport osil r → IsAcceptedText osil text k
  good_accepted osil r text c k said stands says g =
      let same = same_claim r g.job g.note g.claim c g.is stands in
      record {
        parts = g.parts;
        report = r;
        instance_text = g.instance_text;
        report_text = said;
        accepts = record {
          claim = c;
          stands = stands;
          says = says;
          accepted = subst (λ (d : Claim). Accepts (problem g.parts) (Means.claim d)) same (g.accepted k (ap kind same ∙ says));
        };
      }

  -- a report that claims something is good
  answer_good : (osil osol : List ℕ) (asked : Bool) (r : Report) (c : Claim) (k : Kind) → AnswersBeside beside osil osol asked r → r.claim ≡ Some c → kind c ≡ Some k → IsGoodReport osil r
  answer_good osil osol asked r c k (no_options a) stands says = absurd (claims_nothing r c (ap (λ (s : Report). s.claim) a.is) stands)
  answer_good osil osol asked r c k (no_instance a) stands says = absurd (claims_nothing r c (ap (λ (s : Report). s.claim) a.is) stands)
  answer_good osil osol asked r c k (handed h) stands says = handed_good osil osol r h
  answer_good osil osol asked r c k (solved stop looks timed may s) stands says = solved_good osil osol stop timed looks r s
  answer_good osil osol asked r c k (gave_up a) stands says = by a.claims
    where
      by : (a.claim ≡ Has.Unsure causes.Memory None) ⊎ IsBestOfSearch osil osol a.claim → IsGoodReport osil r
      by (inl unsure) =
          let same = same_claim r a.job a.note a.claim c a.is stands in
          let told : kind c ≡ None = ap kind (sym same ∙ unsure) in
          absurd (cc)
      by (inr best) = best_good osil osol a.job a.note a.claim r a.whose a.noting best a.is

  -- the report of an error is read too
  error_read : (job : Option (List ℕ)) (message : List ℕ) (r : Report) → IsBareOrNone job → IsShortName job → IsMessage message → r ≡ error_report job message → IsReportText (report_text r) r
  error_read job message r bare short told is =
      subst (λ (s : Report). IsReportText (report_text s) s) (sym is)
      (comes_back (error_report job message) (record { short = error_short job short message told.short; job = bare; message = told.bare; claim = tt }))

  -- and so is one that tells nothing
  unsure_read : (job note : Option (List ℕ)) (c : Cause) (r : Report) → IsBareOrNone note → IsBareOrNone job → IsShortName job → CauseComesBack c → r ≡ noted note (claim_report job (Has.Unsure c None)) → IsReportText (report_text r) r
  unsure_read job note c r told bare short back is =
      subst (λ (s : Report). IsReportText (report_text s) s) (sym is) (noted_read note job (Has.Unsure c None) told bare (unsure_short job short c) (back, tt))

  pub answer_read : (osil osol : List ℕ) (asked : Bool) (r : Report) → AnswersBeside beside osil osol asked r → IsReportText (report_text r) r
  answer_read osil osol asked r (no_options a) = error_read None a.message r tt tt (options_message a.fault a.message a.says) a.is
  answer_read osil osol asked r (no_instance a) =
      let name = names osol a.options a.options_text in
      error_read a.options.job a.message r (bare_name a.options.job name) (short_name a.options.job name) (instance_message osil a.fault a.message a.fails a.says) a.is
  answer_read osil osol asked r (handed h) = good_read osil r (handed_good osil osol r h)
  answer_read osil osol asked r (solved stop looks timed may s) = good_read osil r (solved_good osil osol stop timed looks r s)
  answer_read osil osol asked r (gave_up a) = by a.claims
    where
      by : (a.claim ≡ Has.Unsure causes.Memory None) ⊎ IsBestOfSearch osil osol a.claim → IsReportText (report_text r) r
      by (inl unsure) =
          let named = job_bare osol a.job a.whose in
          unsure_read a.job a.note causes.Memory r (job_note_bare osil osol a.note a.noting) named.0 named.1 tt (a.is ∙ ap (λ (c : Claim). noted a.note (claim_report a.job c)) unsure)
      by (inr best) = good_read osil r (best_good osil osol a.job a.note a.claim r a.whose a.noting best a.is)

  -- from each text that is read as it
  pub text_accepted : (osil osol : List ℕ) (asked : Bool) (r : Report) (text : List ℕ) (c : Claim) (k : Kind) → AnswersBeside beside osil osol asked r → IsReportText text r → r.claim ≡ Some c → kind c ≡ Some k → IsAcceptedText osil text k
  text_accepted osil osol asked r text c k a said stands says = good_accepted osil r text c k said stands says (answer_good osil osol asked r c k a stands says)

  pub answer_accepted : (osil osol : List ℕ) (asked : Bool) (r : Report) (c : Claim) (k : Kind) → AnswersBeside beside osil osol asked r → r.claim ≡ Some c → kind c ≡ Some k → IsAcceptedText osil (report_text r) k
  answer_accepted osil osol asked r c k a stands says = text_accepted osil osol asked r (report_text r) c k a (answer_read osil osol asked r a) stands says
