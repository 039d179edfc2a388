-- A job is answered by one report, but for want of memory and for the look that stops it.
use Rattle.std.proofs.Common.{◌≡◌, ◌≢◌, ◌∙◌, ℕ, ◌⊎◌, inl, inr, true, false, Option, None, Some, List, refl, ap, ap₂, sym, subst}
use Rattle.fraction.specs.declared.frac.Frac.{Frac}
use Rattle.evidence.specs.ProvedBounds.{ProvedBound}
use Rattle.evidence.specs.Claim.{Accepts}
use Rattle.instance.specs.Parts.{Parts}
use Rattle.instance.specs.Program.{problem}
use Rattle.certificate.specs.Meanings as Means
use Rattle.certificate.specs.declared.claims.Claim.{Claim}
use Rattle.simplex_rules.specs.Ends.{Clock}
use Rattle.search_rules.specs.Search.{Found, Outcome}
use Rattle.search_rules.specs.Asked.{AskedSearch}
use Rattle.solve_run.specs.Firsts.{IsFirstOf, first_note, both_notes, IsNoteFrom}
use Rattle.branch_bound.specs.Claims.{ClaimTellsWith}
use Rattle.cert_checker.specs.declared.refused.Refused.{Refused}
use Rattle.cert_checker.specs.Refusals.{IsRefusedFor}
use Rattle.osol_grammar.specs.declared.options.Options.{Options}
use Rattle.osol_grammar.specs.declared.fault.OsolFault.{OsolFault}
use Rattle.osol_grammar.specs.declared.fault.OsolFault.TheVariants as options_faults
use Rattle.osol_grammar.specs.Meaning.{IsOptionsText}
use Rattle.osol_grammar.specs.Texts as options_texts
use Rattle.osil_grammar.specs.declared.fault.OsilFault.{OsilFault}
use Rattle.osil_grammar.specs.declared.fault.OsilFault.TheVariants as instance_faults
use Rattle.osil_grammar.specs.Reading.{IsInstanceText}
use Rattle.osil_grammar.specs.Reading as instances
use Rattle.osrl_writing.specs.declared.report.Report.{Report}
use Rattle.solve_run.specs.declared.closing.Judged.{Judged}
use Rattle.solve_run.specs.declared.closing.Judged.TheVariants.{Width, Bound}
use Rattle.solve_run.specs.Asking.{job_asked}
use Rattle.solve_run.specs.Judging.{IsWideAt, is_bounded, IsJudged, checked}
use Rattle.solve_run.proofs.PartialClaims.{bounded_other}
use Rattle.solve_run.proofs.RowForms.{formed_once}
use Rattle.solve_run.specs.Closings.{error_report, claim_report, noted, IsShort, IsFitted, IsFormed, IsToldOf}
use Rattle.solve_run.specs.Handing.{HandsInClaim, HandsInNone}
use Rattle.solve_run.specs.JobAnswers.{RefusesOptions, RefusesInstance, AreJobTexts, TakesBeside, SolvedBeside, GaveUpBeside, MayStop, AnswersBeside, no_options, no_instance, handed, solved, gave_up}
use Rattle.solve_run.specs.Untils.{job_terms, renamed}
use Rattle.document_checker.specs.Grounds.{InstancesAreOne}
use Rattle.solve_run.specs.Grounds.{OptionsAreOne, SearchesAreOne, HandedAreOne}
use Rattle.solve_run.proofs.OneClaim.{claim_once}
use Rattle.solve_run.proofs.OneHanding.{claim_handed_once, note_once, claim_or_note}

-- want of memory is told in no text
untold_options : (f : OsolFault) (text : List ℕ) → options_texts.IsFaultText f text → f ≢ options_faults.Memory
untold_options f text says = λ is. subst (λ (g : OsolFault). options_texts.IsFaultText g text) is says

untold_instance : (f : OsilFault) (text : List ℕ) → instances.IsFaultText f text → f ≢ instance_faults.Memory
untold_instance f text says = λ is. subst (λ (g : OsilFault). instances.IsFaultText g text) is says

-- ---- refusals

module _ (options : OptionsAreOne) (instances_one : InstancesAreOne) (beside : Option (List ℕ)) where
  no_options_given : (osol : List ℕ) (o : Options) (r : Report) → RefusesOptions osol r → IsOptionsText osol o → ⊥
  no_options_given osol o r a text = untold_options a.fault a.message a.says (options.apart osol o a.fault text a.fails)

  no_instance_given : (osil osol : List ℕ) (p : Parts) (r : Report) → RefusesInstance osil osol r → IsInstanceText osil p → ⊥
  no_instance_given osil osol p r a text = untold_instance a.fault a.message a.says (instances_one.apart osil p a.fault text a.fails)

  pub options_instance : (osil osol : List ℕ) (r s : Report) → RefusesOptions osol r → RefusesInstance osil osol s → ⊥
  options_instance osil osol r s a b = no_options_given osol b.options r a b.options_text

  pub options_search : (osil osol : List ℕ) (stop : Option ℕ) (timed : Option Frac) (looks : ℕ) (r s : Report) → RefusesOptions osol r → SolvedBeside beside osil osol stop timed looks s → ⊥
  options_search osil osol stop timed looks r s a b = no_options_given osol b.given.options r a b.given.options_text

  pub instance_search : (osil osol : List ℕ) (stop : Option ℕ) (timed : Option Frac) (looks : ℕ) (r s : Report) → RefusesInstance osil osol r → SolvedBeside beside osil osol stop timed looks s → ⊥
  instance_search osil osol stop timed looks r s a b = no_instance_given osil osol b.given.parts r a b.given.instance_text

  pub options_handed : (osil osol : List ℕ) (r s : Report) → RefusesOptions osol r → TakesBeside beside osil osol s → ⊥
  options_handed osil osol r s a b = no_options_given osol b.given.options r a b.given.options_text

  pub instance_handed : (osil osol : List ℕ) (r s : Report) → RefusesInstance osil osol r → TakesBeside beside osil osol s → ⊥
  instance_handed osil osol r s a b = no_instance_given osil osol b.given.parts r a b.given.instance_text

  pub handed_search : HandedAreOne → (osil osol : List ℕ) (stop : Option ℕ) (timed : Option Frac) (looks : ℕ) (r s : Report) → TakesBeside beside osil osol r → SolvedBeside beside osil osol stop timed looks s → ⊥
  handed_search laws osil osol stop timed looks r s a b =
      let parts = instances_one.once osil b.given.parts a.given.parts b.given.instance_text a.given.instance_text in
      claim_or_note laws osil a.given.parts a.given.instance_text beside osol a.given.options a.given.options_text a.claim b.noting.handed a.handed (subst (λ (p : Parts). HandsInNone beside osol p b.noting.handed) parts b.noting.none_handed)

  pub options_once : (osol : List ℕ) (r s : Report) → RefusesOptions osol r → RefusesOptions osol s → r ≡ s
  options_once osol r s a b =
      let same = options.refused osol a.fault b.fault (untold_options a.fault a.message a.says) (untold_options b.fault b.message b.says) a.fails b.fails in
      let message = options.told b.fault a.message b.message (subst (λ (f : OsolFault). options_texts.IsFaultText f a.message) same a.says) b.says in
      a.is ∙ ap (error_report None) message ∙ sym b.is

  pub instance_once : (osil osol : List ℕ) (r s : Report) → RefusesInstance osil osol r → RefusesInstance osil osol s → r ≡ s
  instance_once osil osol r s a b =
      let job = ap (λ (o : Options). o.job) (options.once osol a.options b.options a.options_text b.options_text) in
      let message = instances_one.told osil a.fault b.fault a.message b.message a.fails b.fails a.says b.says in
      a.is ∙ ap₂ error_report job message ∙ sym b.is

-- ---- what is told of a search

module _ (laws : SearchesAreOne) (beside : Option (List ℕ)) where
  judged_once : (p : Parts) (c : Claim) (a b : Judged) → IsJudged p c a → IsJudged p c b → a ≡ b
  judged_once p c (Width None) (Width None) j k = refl
  judged_once p c (Width None) (Width (Some m)) j (final, r, refused, wide) = absurd (laws.apart (problem p) (Means.claim c) r (laws.numbers p) refused (j.1 final))
  judged_once p c (Width (Some n)) (Width None) (final, r, refused, wide) k = absurd (laws.apart (problem p) (Means.claim c) r (laws.numbers p) refused (k.1 final))
  judged_once p c (Width (Some n)) (Width (Some m)) (final, r, refused, (level, is)) (final_too, s, refused_too, (level_too, is_too)) =
      let same = laws.refusal (problem p) (Means.claim c) r s (laws.numbers p) refused refused_too in
      let number : n ≡ m = cc in
      ap (λ (k : ℕ). Width (Some k)) number
  judged_once p c (Width None) (Bound true) j k = let clash : false ≡ true = sym j.0 ∙ k.0 in absurd (cc)
  judged_once p c (Width None) (Bound false) j k = let clash : false ≡ true = sym j.0 ∙ k.0 in absurd (cc)
  judged_once p c (Width (Some n)) (Bound true) j k = absurd (bounded_other c k.0 j.0)
  judged_once p c (Width (Some n)) (Bound false) j k = absurd (bounded_other c k.0 j.0)
  judged_once p c (Bound true) (Width None) j k = let clash : true ≡ false = sym j.0 ∙ k.0 in absurd (cc)
  judged_once p c (Bound false) (Width None) j k = let clash : true ≡ false = sym j.0 ∙ k.0 in absurd (cc)
  judged_once p c (Bound true) (Width (Some n)) j k = absurd (bounded_other c j.0 k.0)
  judged_once p c (Bound false) (Width (Some n)) j k = absurd (bounded_other c j.0 k.0)
  judged_once p c (Bound true) (Bound true) j k = refl
  judged_once p c (Bound true) (Bound false) j k = absurd (k.1 j.1)
  judged_once p c (Bound false) (Bound true) j k = absurd (j.1 k.1)
  judged_once p c (Bound false) (Bound false) j k = refl

  fitted_once : (job : Option (List ℕ)) (c s t : Claim) → IsFitted job c s → IsFitted job c t → s ≡ t
  fitted_once job c s t (inl (short, same)) (inl (short_too, same_too)) = same ∙ sym same_too
  fitted_once job c s t (inl (short, same)) (inr (inl (long, less, same_too))) = absurd (long short)
  fitted_once job c s t (inl (short, same)) (inr (inr (long, longer, same_too))) = absurd (long short)
  fitted_once job c s t (inr (inl (long, less, same))) (inl (short, same_too)) = absurd (long short)
  fitted_once job c s t (inr (inl (long, less, same))) (inr (inl (long_too, less_too, same_too))) = same ∙ sym same_too
  fitted_once job c s t (inr (inl (long, less, same))) (inr (inr (long_too, longer, same_too))) = absurd (longer less)
  fitted_once job c s t (inr (inr (long, longer, same))) (inl (short, same_too)) = absurd (long short)
  fitted_once job c s t (inr (inr (long, longer, same))) (inr (inl (long_too, less, same_too))) = absurd (longer less)
  fitted_once job c s t (inr (inr (long, longer, same))) (inr (inr (long_too, longer_too, same_too))) = same ∙ sym same_too

  closed_once : (p : Parts) (job : Option (List ℕ)) (form turns : ℕ) (c s t : Claim) → IsToldOf p job form turns c s → IsToldOf p job form turns c t → s ≡ t
  closed_once p job form turns c s t a b =
      let verdict = judged_once p c a.verdict b.verdict a.judged b.judged in
      let formed = formed_once p job form (checked c turns b.verdict) a.formed b.formed (subst (λ (w : Judged). IsFormed p job form (checked c turns w) a.formed) verdict a.forms) b.forms in
      fitted_once job b.formed s t (subst (λ (d : Claim). IsFitted job d s) formed a.fitted) b.fitted

  -- a search of an instance that ended, and what is told of it
  record Ended (osol : List ℕ) (o : Options) (p : Parts) (stop : Option ℕ) (timed : Option Frac) (looks : ℕ) (r : Report) : Type 0 where
    turns : ℕ
    start : Option Found
    first : IsFirstOf (problem p) o start
    outcome : Outcome
    bound : Option ProvedBound
    ends : AskedSearch (problem p) (job_terms o stop) (job_asked o) start outcome bound (record { turns = turns; looks = looks })
    found : Claim
    tells : ClaimTellsWith found (renamed timed outcome) bound
    told : Claim
    closed : IsToldOf p o.job o.form turns found told
    note : Option (List ℕ)
    noting : IsNoteFrom beside osol o p start note
    is : r ≡ noted note (claim_report o.job told)

  ended : (osil osol : List ℕ) (stop : Option ℕ) (timed : Option Frac) (looks : ℕ) (r : Report) (s : SolvedBeside beside osil osol stop timed looks r) → Ended osol s.given.options s.given.parts stop timed looks r
  ended osil osol stop timed looks r s = record { turns = s.turns; start = s.start; first = s.first; outcome = s.outcome; bound = s.bound; ends = s.ends; found = s.found; tells = s.tells; told = s.told; closed = s.closed; note = s.note; noting = s.noting; is = s.is }

  ended_once : (osol : List ℕ) (o : Options) (p : Parts) (stop : Option ℕ) (timed : Option Frac) (looks more : ℕ) (r s : Report) → ((n m : Option (List ℕ)) → HandsInNone beside osol p n → HandsInNone beside osol p m → n ≡ m) → Ended osol o p stop timed looks r → Ended osol o p stop timed more s → (r ≡ s) × (looks ≡ more)
  ended_once osol o p stop timed looks more r s once a b =
      let (outcome, bound, clock) = laws.once (problem p) (job_terms o stop) (job_asked o) _ a.start b.start a.outcome b.outcome a.bound b.bound _ _ (laws.numbers p) a.first b.first a.ends b.ends in
      let start = laws.first (problem p) _ a.start b.start (laws.numbers p) a.first b.first in
      let note : a.note ≡ b.note = a.noting.is ∙ ap₂ (λ (h : Option (List ℕ)) (s : Option Found). both_notes h (first_note o.first s)) (once a.noting.handed b.noting.handed a.noting.none_handed b.noting.none_handed) start ∙ sym b.noting.is in
      let tells = subst (λ (h : Option ProvedBound). ClaimTellsWith a.found (renamed timed b.outcome) h) bound (subst (λ (c : Outcome). ClaimTellsWith a.found (renamed timed c) a.bound) outcome a.tells) in
      let found = claim_once laws.fractions a.found b.found (renamed timed b.outcome) b.bound tells b.tells in
      let turns = ap (λ (c : Clock). c.turns) clock in
      let closed : IsToldOf p o.job o.form b.turns b.found a.told = subst (λ (t : ℕ). IsToldOf p o.job o.form t b.found a.told) turns (subst (λ (c : Claim). IsToldOf p o.job o.form a.turns c a.told) found a.closed) in
      let told = closed_once p o.job o.form b.turns b.found a.told b.told closed b.closed in
      (a.is ∙ ap₂ noted note (ap (claim_report o.job) told) ∙ sym b.is, ap (λ (c : Clock). c.looks) clock)

  module _ (options : OptionsAreOne) (instances_one : InstancesAreOne) (handed_one : HandedAreOne) where
    moved : (osil osol : List ℕ) (g h : AreJobTexts osil osol) (stop : Option ℕ) (timed : Option Frac) (looks : ℕ) (r : Report) → Ended osol g.options g.parts stop timed looks r → Ended osol h.options h.parts stop timed looks r
    moved osil osol g h stop timed looks r e =
        subst (λ (o : Options). Ended osol o h.parts stop timed looks r) (options.once osol g.options h.options g.options_text h.options_text)
        (subst (λ (p : Parts). Ended osol g.options p stop timed looks r) (instances_one.once osil g.parts h.parts g.instance_text h.instance_text) e)

    pub search_once : (osil osol : List ℕ) (stop : Option ℕ) (timed : Option Frac) (looks more : ℕ) (r s : Report) → SolvedBeside beside osil osol stop timed looks r → SolvedBeside beside osil osol stop timed more s → (r ≡ s) × (looks ≡ more)
    search_once osil osol stop timed looks more r s a b =
        ended_once osol b.given.options b.given.parts stop timed looks more r s (note_once handed_one osil b.given.parts b.given.instance_text beside osol b.given.options b.given.options_text) (moved osil osol a.given b.given stop timed looks r (ended osil osol stop timed looks r a)) (ended osil osol stop timed more s b)

    pub handed_once : (osil osol : List ℕ) (r s : Report) → TakesBeside beside osil osol r → TakesBeside beside osil osol s → r ≡ s
    handed_once osil osol r s a b =
        let job = ap (λ (o : Options). o.job) (options.once osol a.given.options b.given.options a.given.options_text b.given.options_text) in
        let parts = instances_one.once osil a.given.parts b.given.parts a.given.instance_text b.given.instance_text in
        let claim = claim_handed_once handed_one osil b.given.parts b.given.instance_text beside osol b.given.options b.given.options_text a.claim b.claim (subst (λ (p : Parts). HandsInClaim beside osol p a.claim) parts a.handed) b.handed in
        let fitted : IsFitted b.given.options.job b.claim a.told = subst (λ (c : Claim). IsFitted b.given.options.job c a.told) claim (subst (λ (j : Option (List ℕ)). IsFitted j a.claim a.told) job a.fitted) in
        a.is ∙ ap₂ claim_report job (fitted_once b.given.options.job b.claim a.told b.told fitted b.fitted) ∙ sym b.is

    -- a search that ends with a claim that is refused for no width, and isn't too long in its form, is told
    complete : (osil osol : List ℕ) (o : Options) (p : Parts) (start : Option Found) (oc : Outcome) (b : Option ProvedBound) (found formed : Claim) (c : Clock) (r : Report) → IsOptionsText osol o → IsInstanceText osil p → IsFirstOf (problem p) o start → AskedSearch (problem p) (job_terms o None) (job_asked o) start oc b c → ClaimTellsWith found oc b
        → ((q : Refused) (n : ℕ) → IsRefusedFor (problem p) (Means.claim found) q → IsWideAt q n → ⊥) → (is_bounded found ≡ true → Accepts (problem p) (Means.claim found)) → IsFormed p o.job o.form found formed → IsShort o.job formed → (looks : ℕ) → SolvedBeside beside osil osol None None looks r → (note : Option (List ℕ)) × IsNoteFrom beside osol o p start note × (r ≡ noted note (claim_report o.job formed))
    complete osil osol o p start oc b found formed c r options_text instance_text first ends tells fits holds forms short looks s =
        let here = ended osil osol None None looks r s in
        let moved_here = subst (λ (x : Options). Ended osol x p None None looks r) (options.once osol s.given.options o s.given.options_text options_text)
        (subst (λ (q : Parts). Ended osol s.given.options q None None looks r) (instances_one.once osil s.given.parts p s.given.instance_text instance_text) here) in
        let (outcome, bound, clock) = laws.once (problem p) (job_terms o None) (job_asked o) _ moved_here.start start moved_here.outcome oc moved_here.bound b _ c (laws.numbers p) moved_here.first first moved_here.ends ends in
        let begun = laws.first (problem p) _ moved_here.start start (laws.numbers p) moved_here.first first in
        let its = subst (λ (h : Option ProvedBound). ClaimTellsWith moved_here.found oc h) bound (subst (λ (x : Outcome). ClaimTellsWith moved_here.found x moved_here.bound) outcome moved_here.tells) in
        let same = claim_once laws.fractions moved_here.found found oc b its tells in
        let closed : IsToldOf p o.job o.form moved_here.turns found moved_here.told = subst (λ (x : Claim). IsToldOf p o.job o.form moved_here.turns x moved_here.told) same moved_here.closed in
        (moved_here.note, subst (λ (x : Option Found). IsNoteFrom beside osol o p x moved_here.note) begun moved_here.noting, moved_here.is ∙ ap (λ (c : Claim). noted moved_here.note (claim_report o.job c)) (by moved_here.turns moved_here.told closed.verdict closed.formed closed.judged closed.forms closed.fitted))
      where
        as_formed : (told shaped : Claim) → IsFormed p o.job o.form found shaped → IsFitted o.job shaped told → told ≡ formed
        as_formed told shaped form (inl (few, same)) = same ∙ formed_once p o.job o.form found shaped formed form forms
        as_formed told shaped form (inr (inl (long, few, same))) = absurd (long (subst (IsShort o.job) (sym (formed_once p o.job o.form found shaped formed form forms)) short))
        as_formed told shaped form (inr (inr (long, longer, same))) = absurd (long (subst (IsShort o.job) (sym (formed_once p o.job o.form found shaped formed form forms)) short))

        by : (turns : ℕ) (told : Claim) (verdict : Judged) (shaped : Claim) → IsJudged p found verdict → IsFormed p o.job o.form (checked found turns verdict) shaped → IsFitted o.job shaped told → told ≡ formed
        by turns told (Width None) shaped judged form fitted = as_formed told shaped form fitted
        by turns told (Width (Some n)) shaped (final, q, refused, wide) form fitted = absurd (fits q n refused wide)
        by turns told (Bound true) shaped judged form fitted = as_formed told shaped form fitted
        by turns told (Bound false) shaped judged form fitted = absurd (judged.1 (holds judged.0))

    pub told_at_end : (osil osol : List ℕ) (o : Options) (p : Parts) (start : Option Found) (oc : Outcome) (b : Option ProvedBound) (found formed : Claim) (c : Clock) (r : Report) → IsOptionsText osol o → IsInstanceText osil p → IsFirstOf (problem p) o start → AskedSearch (problem p) (job_terms o None) (job_asked o) start oc b c → ClaimTellsWith found oc b → ((q : Refused) (n : ℕ) → IsRefusedFor (problem p) (Means.claim found) q → IsWideAt q n → ⊥) → (is_bounded found ≡ true → Accepts (problem p) (Means.claim found)) → IsFormed p o.job o.form found formed → IsShort o.job formed → AnswersBeside beside osil osol false r
        → ((note : Option (List ℕ)) × IsNoteFrom beside osol o p start note × (r ≡ noted note (claim_report o.job formed))) ⊎ TakesBeside beside osil osol r ⊎ GaveUpBeside beside osil osol r ⊎ ((s : Frac) × (looks : ℕ) × (o.seconds ≡ Some s) × SolvedBeside beside osil osol (Some looks) (Some s) looks r)
    told_at_end osil osol o p start oc b found formed c r options_text instance_text first ends tells fits holds forms short (no_options a) = absurd (no_options_given options instances_one beside osol o r a options_text)
    told_at_end osil osol o p start oc b found formed c r options_text instance_text first ends tells fits holds forms short (no_instance a) = absurd (no_instance_given options instances_one beside osil osol p r a instance_text)
    told_at_end osil osol o p start oc b found formed c r options_text instance_text first ends tells fits holds forms short (handed h) = inr (inl h)
    told_at_end osil osol o p start oc b found formed c r options_text instance_text first ends tells fits holds forms short (solved stop looks None may s) = inl (complete osil osol o p start oc b found formed c r options_text instance_text first ends tells fits holds forms short looks (subst (λ (x : Option ℕ). SolvedBeside beside osil osol x None looks r) (none may) s))
      where
        none : MayStop false stop looks → stop ≡ None
        none (inl is) = is
        none (inr (asked, is)) = absurd (cc)
    told_at_end osil osol o p start oc b found formed c r options_text instance_text first ends tells fits holds forms short (solved stop looks (Some x) (says, at) s) =
        let its = options.once osol says.0 o says.1 options_text in
        inr (inr (inr (x, looks, sym (ap (λ (q : Options). q.seconds) its) ∙ says.2, subst (λ (k : Option ℕ). SolvedBeside beside osil osol k (Some x) looks r) at s)))
    told_at_end osil osol o p start oc b found formed c r options_text instance_text first ends tells fits holds forms short (gave_up a) = inr (inr (inl a))
