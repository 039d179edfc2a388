-- What a search found whose watch was wrapped in one that a time may stop.
use Rattle.std.proofs.Common.{◌≡◌, ◌≢◌, ◌∙◌, ℕ, zero, suc, ◌+◌, ◌⊎◌, inl, inr, Bool, true, false, Option, None, Some, List, [], ◌∷◌, map, refl, sym, ap, subst, nat_eq, nat_lt, arith}
use Rattle.fraction.specs.declared.frac.Frac.{Frac}
use Rattle.os_io.specs.Looks.{stops_of}
use Rattle.stop_reasons.specs.Reasons.{CameUntil, says_stop, says_killed, says_time}
use Rattle.stop_reasons.specs.declared.until.Reason.{Reason}
use Rattle.stop_reasons.specs.declared.until.Reason.TheVariants.{Killed, Time}
use Rattle.evidence.specs.Instance.{Problem}
use Rattle.evidence.specs.ProvedBounds.{ProvedBound}
use Rattle.simplex_rules.specs.Ends.{Terms, Clock}
use Rattle.search_rules.specs.Gaps as gaps
use Rattle.instance.specs.Parts.{Parts}
use Rattle.instance.specs.Program.{problem}
use Rattle.certificate.specs.declared.claims.Claim.{Claim}
use Rattle.simplex_rules.specs.Looks.{answers, went_on, AgreesWith as Agrees, looks_after, stop_after}
use Rattle.simplex_rules.proofs.Looks.{agrees}
use Rattle.search_rules.specs.Search.{Found, Outcome}
use Rattle.search_rules.specs.Asked.{IsAskedAnswer}
use Rattle.branch_bound.specs.Claims.{ClaimTellsWith}
use Rattle.osol_grammar.specs.declared.options.Options.{Options}
use Rattle.solve_run.specs.Asking.{search_gap, job_asked}
use Rattle.solve_run.specs.Untils.{job_terms, named, timed_claim, FindsUntil}
use Rattle.solve_run.proofs.PartialClaims.{timed_tells}

-- ---- looks

-- none stopped
quiet_told : (told : List (Option Reason)) (n : ℕ) → map says_stop told ≡ went_on n → (map says_killed told ≡ went_on n) × (stops_of (map says_time told) ≡ 0)
quiet_told [] zero e = (refl, refl)
quiet_told [] (suc n) e = absurd (cc)
quiet_told (x ∷ told) zero e = absurd (cc)
quiet_told (None ∷ told) (suc n) e =
    let rest : map says_stop told ≡ went_on n = cc in
    let (a, b) = quiet_told told n rest in
    (ap (λ (l : List Bool). false ∷ l) a, b)
quiet_told (Some why ∷ told) (suc n) e = absurd (cc)

-- the last one stopped: the watch inside, or the time
abbrev Stopped : (told : List (Option Reason)) → ℕ → Type 0
Stopped told n =
    ((map says_killed told ≡ answers n true) × (stops_of (map says_time told) ≡ 0))
    ⊎ ((map says_killed told ≡ went_on (suc n)) × (stops_of (map says_time told) ≡ 1))

one_more : (told : List (Option Reason)) (n : ℕ) → Stopped told n → Stopped (None ∷ told) (suc n)
one_more told n (inl (a, b)) = inl (ap (λ (l : List Bool). false ∷ l) a, b)
one_more told n (inr (a, b)) = inr (ap (λ (l : List Bool). false ∷ l) a, b)

last_told : (told : List (Option Reason)) (n : ℕ) → map says_stop told ≡ answers n true → Stopped told n
last_told [] zero e = absurd (cc)
last_told [] (suc n) e = absurd (cc)
last_told (None ∷ told) zero e = absurd (cc)
last_told (Some Killed ∷ []) zero e = inl (refl, refl)
last_told (Some Time ∷ []) zero e = inr (refl, refl)
last_told (Some why ∷ x ∷ told) zero e = absurd (cc)
last_told (None ∷ told) (suc n) e =
    let rest : map says_stop told ≡ answers n true = cc in
    one_more told n (last_told told n rest)
last_told (Some why ∷ told) (suc n) e = absurd (cc)

-- ---- what is asked

pub gap_asked : (P : Problem) (t : Terms) (o : Options) (start : Option Found) (oc : Outcome) (bound : Option ProvedBound) (c : Clock) (gap : Option gaps.Gap) → gap ≡ search_gap o.gap → IsAskedAnswer P t (record { bound = nat_eq o.bound 1; gap = gap }) start oc bound c → IsAskedAnswer P t (job_asked o) start oc bound c
gap_asked P t o start oc bound c gap is answer = subst (λ (x : Option gaps.Gap). IsAskedAnswer P t (record { bound = nat_eq o.bound 1; gap = x }) start oc bound c) is answer

-- ---- what was found

module _ (p : Parts) (o : Options) (start : Option Found) (Came : List Bool → Type 0) (claim : Claim) (turns n : ℕ) (stopped : Bool) (oc : Outcome) (bound : Option ProvedBound) (tells : ClaimTellsWith claim oc bound)
    (answer : (stop : Option ℕ) → Agrees stop 0 n stopped → IsAskedAnswer (problem p) (job_terms o stop) (job_asked o) start oc bound (record { turns = turns; looks = looks_after 0 n stopped })) where
  answer_as : (b : Bool) → stopped ≡ b → IsAskedAnswer (problem p) (job_terms o (stop_after n b)) (job_asked o) start oc bound (record { turns = turns; looks = looks_after 0 n b })
  answer_as b is = subst (λ (k : Bool). IsAskedAnswer (problem p) (job_terms o (stop_after n k)) (job_asked o) start oc bound (record { turns = turns; looks = looks_after 0 n k })) is (answer (stop_after n stopped) (agrees n stopped))

  -- the time was never over at a look
  untimed : (b : Bool) → stopped ≡ b → Came (answers n b) → FindsUntil p o start Came claim turns
  untimed b is came = record { went_on = n; killed = b; timed = None; may = tt; came = came; outcome = oc; bound = bound; answer = answer_as b is; tells = tells }

  -- or it was at the last one
  timed : (s : Frac) → stopped ≡ true → o.seconds ≡ Some s → Came (went_on (suc n)) → FindsUntil p o start Came (timed_claim s claim) turns
  timed s is says came =
      let stop : n + 1 ≡ suc n = omega arith in
      let looks : 0 + n + 1 ≡ suc n = omega arith in
      record {
        went_on = suc n;
        killed = false;
        timed = Some s;
        may = (says, refl);
        came = came;
        outcome = oc;
        bound = bound;
        answer = subst (λ (k : ℕ). IsAskedAnswer (problem p) (job_terms o (Some (suc n))) (job_asked o) start oc bound (record { turns = turns; looks = k })) looks
            (subst (λ (k : ℕ). IsAskedAnswer (problem p) (job_terms o (Some k)) (job_asked o) start oc bound (record { turns = turns; looks = 0 + n + 1 })) stop (answer_as true is));
        tells = timed_tells claim oc bound s tells;
      }

  -- by how often it was the time
  never : (times : ℕ) → times ≡ 0 → FindsUntil p o start Came claim turns → FindsUntil p o start Came (named (nat_lt 0 times) o.seconds claim) turns
  never times none f = subst (λ (k : ℕ). FindsUntil p o start Came (named (nat_lt 0 k) o.seconds claim) turns) (sym none) f

  once : (times : ℕ) → times ≡ 1 → stopped ≡ true → Came (went_on (suc n)) → o.seconds ≢ None → FindsUntil p o start Came (named (nat_lt 0 times) o.seconds claim) turns
  once times one is came limited = subst (λ (k : ℕ). FindsUntil p o start Came (named (nat_lt 0 k) o.seconds claim) turns) (sym one) (by o.seconds refl)
    where
      by : (seconds : Option Frac) → o.seconds ≡ seconds → FindsUntil p o start Came (named true seconds claim) turns
      by None none = absurd (limited none)
      by (Some s) says = timed s is says came

  pub ends_until : (limit : Option Frac) (times : ℕ) → limit ≡ o.seconds → CameUntil Came limit 0 times (answers n stopped) → FindsUntil p o start Came (named (nat_lt 0 times) o.seconds claim) turns
  ends_until limit times same c = by stopped refl
    where
      by : (b : Bool) → stopped ≡ b → FindsUntil p o start Came (named (nat_lt 0 times) o.seconds claim) turns
      by false is =
          let (a, quiet) = quiet_told c.told n (sym c.are ∙ ap (answers n) is) in
          never times (c.counted ∙ ap (λ (k : ℕ). 0 + k) quiet) (untimed false is (subst Came a c.came))
      by true is = ended (last_told c.told n (sym c.are ∙ ap (answers n) is))
        where
          ended : Stopped c.told n → FindsUntil p o start Came (named (nat_lt 0 times) o.seconds claim) turns
          ended (inl (a, quiet)) = never times (c.counted ∙ ap (λ (k : ℕ). 0 + k) quiet) (untimed true is (subst Came a c.came))
          ended (inr (a, one)) = once times (c.counted ∙ ap (λ (k : ℕ). 0 + k) one) is (subst Came a c.came) (λ none. let quiet = c.limited (same ∙ none) in omega (arith, quiet, one))
