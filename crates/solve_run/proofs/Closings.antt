-- What is told of a claim has numbers of its types.
use Rattle.std.proofs.Common.{ℕ, ◌^◌, ◌<◌, inl, inr, true, false, Option, None, Some, List, sym, subst}
use Rattle.std.specs.Prelude.{length}
use Rattle.std.proofs.lemmas.List.Elements.{All-nil}
use Rattle.instance.specs.Parts.{Parts, IsValid}
use Rattle.certificate.specs.declared.nodes.Cert.{Cert}
use Rattle.certificate.specs.declared.causes.Cause.{Cause}
use Rattle.certificate.specs.declared.causes.Cause.TheVariants as causes
use Rattle.certificate.specs.declared.claims.Claim.{Claim}
use Rattle.certificate.specs.declared.claims.Claim.TheVariants.{Optimal, Infeasible, Unbounded, BestSoFar, Unsure}
use Rattle.osrl_writing.specs.declared.told_names.NameLists.{NameLists}
use Rattle.osrl_grammar.specs.Back.{CauseComesBack, ClaimComesBack}
use Rattle.solve_run.specs.declared.document.Document.{Document}
use Rattle.certificate.specs.GivenUp.{given_up, without_bound}
use Rattle.solve_run.specs.declared.closing.Judged.{Judged}
use Rattle.solve_run.specs.declared.closing.Judged.TheVariants.{Width, Bound}
use Rattle.solve_run.specs.Judging.{IsShownClaim, AreFewRounds, HasFewRounds, wide_check, IsJudged, HasSmallNode, checked}
use Rattle.solve_run.specs.Closings.{IsFitted, IsFormed}
use Rattle.solve_run.specs.Runs.{HasCauses, IsFittedDocument, IsClaimTold}
use Rattle.solve_run.proofs.PartialClaims.{given_shown, without_shown}
use Rattle.solve_run.proofs.RoundTrips.{shown_back}
use Rattle.solve_run.proofs.RowForms.{formed_back}

given_back : (c : Claim) (cause : Cause) → CauseComesBack cause → ClaimComesBack (Some c) → ClaimComesBack (Some (given_up c cause))
given_back (Optimal x vs cs) cause h back = (back.0, h, tt)
given_back (Infeasible cert) cause h back = (h, tt)
given_back (Unbounded x vs cs r) cause h back = (back.0, h, tt)
given_back (BestSoFar x vs old b) cause h back = (back.0, h, tt)
given_back (Unsure old b) cause h back = (h, tt)

without_back : (c : Claim) → ClaimComesBack (Some c) → ClaimComesBack (Some (without_bound c))
without_back (Optimal x vs cs) back = back
without_back (Infeasible cert) back = back
without_back (Unbounded x vs cs r) back = back
without_back (BestSoFar x vs c b) back = (back.0, back.1, tt)
without_back (Unsure c b) back = (back.0, tt)

checked_back : (c : Claim) (turns : ℕ) (verdict : Judged) → turns < 2 ^ 64 → HasSmallNode verdict → ClaimComesBack (Some c) → ClaimComesBack (Some (checked c turns verdict))
checked_back c turns (Width None) few node h = h
checked_back c turns (Width (Some n)) few node h = given_back c (wide_check n turns) (node, few) h
checked_back c turns (Bound true) few node h = h
checked_back c turns (Bound false) few node h = without_back c h

pub fitted_back : (job : Option (List ℕ)) (c told : Claim) → IsFitted job c told → ClaimComesBack (Some c) → ClaimComesBack (Some told)
fitted_back job c told (inl (short, same)) h = subst (λ (d : Claim). ClaimComesBack (Some d)) (sym same) h
fitted_back job c told (inr (inl (long, short, same))) h = subst (λ (d : Claim). ClaimComesBack (Some d)) (sym same) (without_back c h)
fitted_back job c told (inr (inr (long, longer, same))) h = subst (λ (d : Claim). ClaimComesBack (Some d)) (sym same) (given_back c causes.Length tt h)

-- what is checked of a claim that is shown is shown, and of few rounds where it is
pub checked_shown : (p : Parts) (c : Claim) (turns : ℕ) (verdict : Judged) → IsShownClaim p c → IsShownClaim p (checked c turns verdict)
checked_shown p c turns (Width None) s = s
checked_shown p c turns (Width (Some n)) s = given_shown p c (wide_check n turns) s
checked_shown p c turns (Bound true) s = s
checked_shown p c turns (Bound false) s = without_shown p c s

given_few : (c : Claim) (cause : Cause) → HasFewRounds (given_up c cause)
given_few (Optimal x vs cs) cause = All-nil (λ (cert : Cert). AreFewRounds (length cert.rounds))
given_few (Infeasible cert) cause = All-nil (λ (cert : Cert). AreFewRounds (length cert.rounds))
given_few (Unbounded x vs cs r) cause = All-nil (λ (cert : Cert). AreFewRounds (length cert.rounds))
given_few (BestSoFar x vs old b) cause = All-nil (λ (cert : Cert). AreFewRounds (length cert.rounds))
given_few (Unsure old b) cause = All-nil (λ (cert : Cert). AreFewRounds (length cert.rounds))

without_few : (c : Claim) → HasFewRounds c → HasFewRounds (without_bound c)
without_few (Optimal x vs cs) few = few
without_few (Infeasible cert) few = few
without_few (Unbounded x vs cs r) few = few
without_few (BestSoFar x vs c b) few = All-nil (λ (cert : Cert). AreFewRounds (length cert.rounds))
without_few (Unsure c b) few = All-nil (λ (cert : Cert). AreFewRounds (length cert.rounds))

pub checked_few : (c : Claim) (turns : ℕ) (verdict : Judged) → HasFewRounds c → HasFewRounds (checked c turns verdict)
checked_few c turns (Width None) few = few
checked_few c turns (Width (Some n)) few = given_few c (wide_check n turns)
checked_few c turns (Bound true) few = few
checked_few c turns (Bound false) few = without_few c few

-- a claim that is shown, of few rounds, checked, formed and fitted is told
pub told : (p : Parts) (ns : NameLists) (note job : Option (List ℕ)) (form turns : ℕ) (found : Claim) (verdict : Judged) (formed : Claim) (doc : Document)
    → IsValid p → IsShownClaim p found → HasFewRounds found → HasCauses found → turns < 2 ^ 64 → HasSmallNode verdict
    → IsJudged p found verdict → IsFormed p job form (checked found turns verdict) formed → IsFittedDocument ns note job formed doc → IsClaimTold p ns note job form turns found doc
told p ns note job form turns found verdict formed doc valid shown fewer causes few node judged forms (inl (c, fitted, is)) = inl (record {
  told = c;
  closed = record { verdict = verdict; judged = judged; formed = formed; forms = forms; fitted = fitted };
  numbers = fitted_back job formed c fitted (formed_back p job form (checked found turns verdict) formed forms (checked_back found turns verdict few node (shown_back p found valid shown fewer causes)));
  is = is;
})
told p ns note job form turns found verdict formed doc valid shown fewer causes few node judged forms (inr memory) = inr memory
