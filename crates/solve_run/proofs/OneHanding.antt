-- What becomes of a result that the options hand in is one thing.
use Rattle.std.proofs.Common.{◌≡◌, ◌∙◌, ℕ, inl, inr, Option, Some, Err, List, ap, sym, subst, None}
use Rattle.instance.specs.Parts.{Parts}
use Rattle.certificate.specs.declared.claims.Claim.{Claim}
use Rattle.osol_grammar.specs.declared.options.Options.{Options}
use Rattle.osol_grammar.specs.Meaning.{IsOptionsText}
use Rattle.osil_grammar.specs.Reading.{IsInstanceText}
use Rattle.osrl_writing.specs.declared.report.Report.{Report}
use Rattle.document_checker.specs.declared.fault.CheckFault.{CheckFault}
use Rattle.document_checker.specs.Documents.{IsAcceptedText, DocsRefuse, IsShownIn, IsUnshownIn}
use Rattle.document_checker.specs.Texts.{IsCheckFaultText}
use Rattle.handed_results.specs.declared.handed.Handed.{Handed}
use Rattle.handed_results.specs.declared.handed.Handed.TheVariants.{Nothing, Once, Twice}
use Rattle.solve_run.specs.Grounds.{HandedAreOne}
use Rattle.solve_run.specs.Handing.{about_handed, IsHandedIn, IsTaken, IsNoteOf, HandsInClaim, HandsInNone}

-- both documents say what is said of the instance
accepted_with : (osil text : List ℕ) (p : Parts) (c : Claim) → IsInstanceText osil p → (s : IsShownIn p text c) → IsAcceptedText osil text s.what
accepted_with osil text p c instance s = record { parts = p; report = s.report; instance_text = instance; report_text = s.report_text; accepts = record { claim = c; stands = s.stands; says = s.says; accepted = s.accepted } }

refused_with : (osil text : List ℕ) (p : Parts) (f : CheckFault) → IsInstanceText osil p → IsUnshownIn p text f → DocsRefuse osil text f
refused_with osil text p f instance (inl missing) = inr (inl (record { parts = p; instance_text = instance; no_report = missing }))
refused_with osil text p f instance (inr (inl h)) = inr (inr (inl (record { parts = p; report = h.report; instance_text = instance; report_text = h.report_text; refuses = h.refuses })))
refused_with osil text p f instance (inr (inr none)) = inr (inr (inr none))

module _ (laws : HandedAreOne) (osil : List ℕ) (p : Parts) (instance : IsInstanceText osil p) where
  claims_once : (text : List ℕ) (c d : Claim) → IsShownIn p text c → IsShownIn p text d → c ≡ d
  claims_once text c d s t =
      let same : s.report ≡ t.report = laws.report text s.report t.report s.report_text t.report_text in
      let both : ◌≡◌ {A = Option Claim} (Some c) (Some d) = sym s.stands ∙ ap (λ (r : Report). r.claim) same ∙ t.stands in
      cc

  taken_once : (h : Handed) (c d : Claim) → IsTaken p h c → IsTaken p h d → c ≡ d
  taken_once h c d a b =
      let both : Once a.text ≡ Once b.text = sym a.one ∙ b.one in
      let same : a.text ≡ b.text = cc in
      claims_once b.text c d (subst (λ (t : List ℕ). IsShownIn p t c) same a.shown) b.shown

  notes_once : (h : Handed) (n m : Option (List ℕ)) → IsNoteOf p h n → IsNoteOf p h m → n ≡ m
  notes_once Nothing n m a b = a ∙ sym b
  notes_once (Once text) n m (words, r, is) (more, q, also) =
      let same : words ≡ more = laws.answer osil text (Err r.fault) (Err q.fault) words more (refused_with osil text p r.fault instance r.unshown) (refused_with osil text p q.fault instance q.unshown) r.says q.says in
      is ∙ ap (λ (w : List ℕ). Some (about_handed w)) same ∙ sym also
  notes_once Twice n m a b = a ∙ sym b

  not_both : (h : Handed) (c : Claim) (n : Option (List ℕ)) → IsTaken p h c → IsNoteOf p h n → ⊥
  not_both h c n t note = by (subst (λ (k : Handed). IsNoteOf p k n) t.one note)
    where
      by : IsNoteOf p (Once t.text) n → ⊥
      by (words, r, is) =
          let none = laws.apart osil t.text t.shown.what r.fault (accepted_with osil t.text p c instance t.shown) (refused_with osil t.text p r.fault instance r.unshown) in
          subst (λ (f : CheckFault). IsCheckFaultText f words) none r.says

  module _ (beside : Option (List ℕ)) (osol : List ℕ) (o : Options) (options : IsOptionsText osol o) where
    one_thing : (h k : Handed) → IsHandedIn beside osol h → IsHandedIn beside osol k → h ≡ k
    one_thing = by beside
      where
        by : (b : Option (List ℕ)) (h k : Handed) → IsHandedIn b osol h → IsHandedIn b osol k → h ≡ k
        by None h k p q = laws.once osol o h k options p q
        by (Some text) h k p q = p ∙ sym q

    pub claim_handed_once : (c d : Claim) → HandsInClaim beside osol p c → HandsInClaim beside osol p d → c ≡ d
    claim_handed_once c d a b = taken_once b.handed c d (subst (λ (h : Handed). IsTaken p h c) (one_thing a.handed b.handed a.hands b.hands) a.taken) b.taken

    pub note_once : (n m : Option (List ℕ)) → HandsInNone beside osol p n → HandsInNone beside osol p m → n ≡ m
    note_once n m a b = notes_once b.handed n m (subst (λ (h : Handed). IsNoteOf p h n) (one_thing a.handed b.handed a.hands b.hands) a.notes) b.notes

    pub claim_or_note : (c : Claim) (n : Option (List ℕ)) → HandsInClaim beside osol p c → HandsInNone beside osol p n → ⊥
    claim_or_note c n a b = not_both b.handed c n (subst (λ (h : Handed). IsTaken p h c) (one_thing a.handed b.handed a.hands b.hands) a.taken) b.notes
