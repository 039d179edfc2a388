-- The documents of reports.
use Rattle.std.proofs.Common.{◌≡◌, ◌∙◌, ℕ, ◌<◌, ◌≤◌, inl, inr, Bool, true, false, cond, Option, None, Some, Result, Ok, List, length, arith, refl, ap, sym, subst}
use Rattle.std.specs.Prelude.{nat_le, not, is_some}
use Rattle.std.proofs.lemmas.Bool.{leb-true, leb-false}
use Rattle.document_tags.specs.Texts.{document_limit}
use Rattle.certificate.specs.declared.causes.Cause.TheVariants as causes
use Rattle.certificate.specs.declared.claims.Claim.{Claim}
use Rattle.osrl_writing.specs.declared.report.Report.{Report}
use Rattle.osrl_writing.specs.declared.told_names.NameLists.{NameLists}
use Rattle.osrl_writing.specs.Labels.{no_names}
use Rattle.osrl_writing.specs.Writing.{report_text, named_text, told_text}
use Rattle.solve_run.specs.declared.document.Document.{Document}
use Rattle.certificate.specs.GivenUp.{given_up, without_bound}
use Rattle.solve_run.specs.Closings.{error_report, claim_report, with_message, noted, IsShort, IsFitted}
use Rattle.solve_run.proofs.PartialClaims.{without_given}
use Rattle.solve_run.specs.Runs.{IsDocumentOf, IsTextOf, IsNamedTextOf, IsNotedTextOf, IsMemoryDocument, IsErrorDocument, IsFittedDocument}

-- of the same report
pub same_document : (r s : Report) (doc : Document) → r ≡ s → IsDocumentOf r doc → IsDocumentOf s doc
same_document r s doc same is = subst (λ (q : Report). IsDocumentOf q doc) same is

same_text : (r s : Report) (doc : Document) → r ≡ s → IsTextOf r doc → IsTextOf s doc
same_text r s doc same is = subst (λ (q : Report). IsTextOf q doc) same is

pub refusal_of : {E : Type 0} (r : Report) (job : Option (List ℕ)) (message : Result (List ℕ) E) (m : List ℕ) (doc : Document) → r ≡ error_report job m → message ≡ Ok m → IsTextOf r doc → IsErrorDocument job message doc
refusal_of {E} r job message m doc is said told = by (same_text r (error_report job m) doc is told)
  where
    by : IsTextOf (error_report job m) doc → IsErrorDocument job message doc
    by (inl written) = inl (m, said, written)
    by (inr memory) = inr memory

-- without names the text is that of the report
same_either : (b : Bool) (x y : List ℕ) → x ≡ y → cond b x y ≡ y
same_either true x y same = same
same_either false x y same = refl

pub told_plainly : (ns : NameLists) (r : Report) → named_text ns r ≡ report_text r → told_text ns r ≡ report_text r
told_plainly ns r same = same_either (nat_le (length (named_text ns r)) document_limit) (named_text ns r) (report_text r) same

told_without : (ns : NameLists) (r : Report) → ns ≡ no_names → told_text ns r ≡ report_text r
told_without ns r none = told_plainly ns r (ap (λ (ms : NameLists). named_text ms r) none)

-- there is no message
pub is_silent : (message : Option (List ℕ)) (b : Bool) → is_some message ≡ not b → b ≡ true → message ≡ None
is_silent None b seen is = refl
is_silent (Some m) b seen is = let clash : true ≡ false = seen ∙ ap not is in absurd (cc)

-- not too long: it is told, without names and a message
pub fitted_short : (ns : NameLists) (note : Option (List ℕ)) (r : Report) (job : Option (List ℕ)) (c : Claim) (doc : Document) → ns ≡ no_names → note ≡ None → r ≡ claim_report job c → IsDocumentOf r doc → length doc.text ≤ document_limit → IsFittedDocument ns note job c doc
fitted_short ns note r job c doc none silent is written few =
    let whole = same_document r (claim_report job c) doc is written in
    subst (λ (n : Option (List ℕ)). IsFittedDocument ns n job c doc) (sym silent)
    (inl (c, inl (subst (λ (t : List ℕ). length t ≤ document_limit) whole.text few, refl), record { text = whole.text ∙ sym (told_without ns (claim_report job c) none); error = whole.error }))

same_noted : (ns : NameLists) (note : Option (List ℕ)) (r s : Report) (doc : Document) → r ≡ s → IsNotedTextOf ns note r doc → IsNotedTextOf ns note s doc
same_noted ns note r s doc same is = subst (λ (q : Report). IsNotedTextOf ns note q doc) same is

noted_of : (ns : NameLists) (note job : Option (List ℕ)) (c told : Claim) (doc : Document) → IsFitted job c told → IsNotedTextOf ns note (claim_report job told) doc → IsFittedDocument ns note job c doc
noted_of ns note job c told doc fits (inl is) = inl (told, fits, is)
noted_of ns note job c told doc fits (inr memory) = inr memory

-- or with them
pub fitted_noted : (ns : NameLists) (note : Option (List ℕ)) (r : Report) (job : Option (List ℕ)) (c : Claim) (text : List ℕ) (doc : Document) → r ≡ claim_report job c → text ≡ report_text r → length text ≤ document_limit → IsNotedTextOf ns note r doc → IsFittedDocument ns note job c doc
fitted_noted ns note r job c text doc is written few told =
    let short : IsShort job c = subst (λ (t : List ℕ). length t ≤ document_limit) (written ∙ ap report_text is) few in
    noted_of ns note job c c doc (inl (short, refl)) (same_noted ns note r (claim_report job c) doc is told)

-- a document that is too long
pub too_long : (r : Report) (job : Option (List ℕ)) (c : Claim) (long : List ℕ) → r ≡ claim_report job c → long ≡ report_text r → document_limit < length long → IsShort job c → ⊥
too_long r job c long is written many few = let size = ap length (written ∙ ap report_text is) in omega (arith, few, many, size)

-- it is told without its bound
pub fitted_without : (ns : NameLists) (note : Option (List ℕ)) (r : Report) (job : Option (List ℕ)) (c : Claim) (text : List ℕ) (doc : Document) → (IsShort job c → ⊥) → r ≡ claim_report job (without_bound c) → text ≡ report_text r → length text ≤ document_limit → IsNotedTextOf ns note r doc → IsFittedDocument ns note job c doc
fitted_without ns note r job c text doc long is written few told =
    let short : IsShort job (without_bound c) = subst (λ (t : List ℕ). length t ≤ document_limit) (written ∙ ap report_text is) few in
    noted_of ns note job c (without_bound c) doc (inr (inl (long, short, refl))) (same_noted ns note r (claim_report job (without_bound c)) doc is told)

-- or, too long so too, what is left of it
pub fitted_long : (ns : NameLists) (note : Option (List ℕ)) (r s : Report) (job : Option (List ℕ)) (c : Claim) (text : List ℕ) (doc : Document) → (IsShort job c → ⊥) → r ≡ claim_report job (without_bound c) → text ≡ report_text r → document_limit < length text → s ≡ claim_report job (given_up (without_bound c) causes.Length) → IsNotedTextOf ns note s doc → IsFittedDocument ns note job c doc
fitted_long ns note r s job c text doc long is written many left told =
    let whole : s ≡ claim_report job (given_up c causes.Length) = left ∙ ap (claim_report job) (without_given c causes.Length) in
    noted_of ns note job c (given_up c causes.Length) doc (inr (inr (long, too_long r job (without_bound c) text is written many, refl))) (same_noted ns note s (claim_report job (given_up c causes.Length)) doc whole told)

pub fitted_memory_without : (ns : NameLists) (note : Option (List ℕ)) (r : Report) (job : Option (List ℕ)) (c : Claim) (doc : Document) → r ≡ claim_report job (without_bound c) → IsMemoryDocument r.job doc → IsFittedDocument ns note job c doc
fitted_memory_without ns note r job c doc is memory = inr (subst (λ (j : Option (List ℕ)). IsMemoryDocument j doc) (ap (λ (q : Report). q.job) is) memory)

pub fitted_memory : (ns : NameLists) (note : Option (List ℕ)) (r : Report) (job : Option (List ℕ)) (c : Claim) (doc : Document) → r ≡ claim_report job c → IsMemoryDocument r.job doc → IsFittedDocument ns note job c doc
fitted_memory ns note r job c doc is memory = inr (subst (λ (j : Option (List ℕ)). IsMemoryDocument j doc) (ap (λ (q : Report). q.job) is) memory)

-- ---- messages

-- with a message, where that isn't too long
pub kept_note : (m : List ℕ) (plain : Report) (bytes : ℕ) → bytes ≡ length (report_text (with_message m plain)) → bytes ≤ document_limit → with_message m plain ≡ noted (Some m) plain
kept_note m plain bytes size few = by (nat_le (length (report_text (with_message m plain))) document_limit) refl
  where
    by : (b : Bool) → nat_le (length (report_text (with_message m plain))) document_limit ≡ b → with_message m plain ≡ cond b (with_message m plain) plain
    by true short = refl
    by false many = let long = leb-false (length (report_text (with_message m plain))) document_limit many in absurd (omega (arith, long, few, size))

-- and else without
pub dropped_note : (m : List ℕ) (plain : Report) (bytes : ℕ) → plain.message ≡ None → bytes ≡ length (report_text (with_message m plain)) → document_limit < bytes → record plain { message = None } ≡ noted (Some m) plain
dropped_note m plain bytes none size many = ap (λ (o : Option (List ℕ)). let r : Report = record plain { message = o } in r) (sym none) ∙ by (nat_le (length (report_text (with_message m plain))) document_limit) refl
  where
    by : (b : Bool) → nat_le (length (report_text (with_message m plain))) document_limit ≡ b → plain ≡ cond b (with_message m plain) plain
    by true short = let fits = leb-true (length (report_text (with_message m plain))) document_limit short in absurd (omega (arith, fits, many, size))
    by false long = refl

-- who has a message keeps job and claim
pub noted_job : (note : Option (List ℕ)) (r : Report) → (noted note r).job ≡ r.job
noted_job None r = refl
noted_job (Some m) r = either (nat_le (length (report_text (with_message m r))) document_limit)
  where
    either : (b : Bool) → (cond b (with_message m r) r).job ≡ r.job
    either true = refl
    either false = refl

pub noted_claim : (note : Option (List ℕ)) (r : Report) → (noted note r).claim ≡ r.claim
noted_claim None r = refl
noted_claim (Some m) r = either (nat_le (length (report_text (with_message m r))) document_limit)
  where
    either : (b : Bool) → (cond b (with_message m r) r).claim ≡ r.claim
    either true = refl
    either false = refl

pub noted_of_named : (ns : NameLists) (note : Option (List ℕ)) (r : Report) (doc : Document) → IsNamedTextOf ns (noted note r) doc → IsNotedTextOf ns note r doc
noted_of_named ns note r doc (inl is) = inl is
noted_of_named ns note r doc (inr memory) = inr (subst (λ (j : Option (List ℕ)). IsMemoryDocument j doc) (noted_job note r) memory)
