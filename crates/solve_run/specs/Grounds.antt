-- What the laws of the crates below say of all options, instances, searches, claims and reports.
use Rattle.std.specs.Prelude.{◌≡◌, ◌≢◌, ℕ, Option, Result, MatchResult, List}
use Rattle.rational.specs.Ratio.{Ratio, IsSame}
use Rattle.fraction.specs.Frac.{ratio}
use Rattle.fraction.specs.declared.frac.Frac.{Frac}
use Rattle.evidence.specs.Instance.{Problem, IsProblem}
use Rattle.evidence.specs.ProvedBounds.{ProvedBound}
use Rattle.evidence.specs.Claim as Says
use Rattle.evidence.specs.Claim.{Accepts}
use Rattle.instance.specs.Parts.{Parts}
use Rattle.instance.specs.Program.{problem}
use Rattle.simplex_rules.specs.Ends.{Terms, Clock}
use Rattle.search_rules.specs.Search.{Found, Outcome}
use Rattle.search_rules.specs.Beginnings.{IsFirstBest}
use Rattle.search_rules.specs.Asked.{Asked, AskedSearch}
use Rattle.cert_checker.specs.declared.refused.Refused.{Refused}
use Rattle.cert_checker.specs.Refusals.{IsRefusedFor}
use Rattle.osol_grammar.specs.declared.options.Options.{Options}
use Rattle.osol_grammar.specs.declared.fault.OsolFault.{OsolFault}
use Rattle.osol_grammar.specs.declared.fault.OsolFault.TheVariants as options_faults
use Rattle.osol_grammar.specs.Meaning.{IsOptionsText}
use Rattle.osol_grammar.specs.Reading as options
use Rattle.osol_grammar.specs.Texts as options_texts
use Rattle.osrl_writing.specs.declared.report.Report.{Report}
use Rattle.osrl_grammar.specs.Reading.{IsReportText}
use Rattle.document_checker.specs.declared.documents.Kind.{Kind}
use Rattle.document_checker.specs.declared.fault.CheckFault.{CheckFault}
use Rattle.document_checker.specs.declared.fault.CheckFault.TheVariants as check_faults
use Rattle.document_checker.specs.Documents.{IsAcceptedText, DocsRefuse}
use Rattle.document_checker.specs.Texts.{IsAnswerText}
use Rattle.handed_results.specs.declared.handed.Handed.{Handed}
use Rattle.handed_results.specs.Reading.{HandsIn}

-- texts are one kind of options, or are refused in one text
pub record OptionsAreOne : Type 0 where
  pub once : (bytes : List ℕ) (o p : Options) → IsOptionsText bytes o → IsOptionsText bytes p → o ≡ p
  pub apart : (bytes : List ℕ) (o : Options) (f : OsolFault) → IsOptionsText bytes o → options.DecodeFails bytes f → f ≡ options_faults.Memory
  pub refused : (bytes : List ℕ) (f g : OsolFault) → f ≢ options_faults.Memory → g ≢ options_faults.Memory → options.DecodeFails bytes f → options.DecodeFails bytes g → f ≡ g
  pub told : (f : OsolFault) (s t : List ℕ) → options_texts.IsFaultText f s → options_texts.IsFaultText f t → s ≡ t

-- a search has one outcome, and one bound or none, and its claim is checked with one answer
pub record SearchesAreOne : Type 0 where
  pub numbers : (p : Parts) → IsProblem (problem p)
  pub first : (P : Problem) (gs : Option (List (Option Ratio))) (a b : Option Found) → IsProblem P → IsFirstBest P gs a → IsFirstBest P gs b → a ≡ b
  pub once : (P : Problem) (t : Terms) (a : Asked) (gs : Option (List (Option Ratio))) (i j : Option Found) (o p : Outcome) (b d : Option ProvedBound) (c e : Clock) → IsProblem P → IsFirstBest P gs i → IsFirstBest P gs j → AskedSearch P t a i o b c → AskedSearch P t a j p d e → (o ≡ p) × (b ≡ d) × (c ≡ e)
  pub fractions : (x y : Frac) → IsSame (ratio x) (ratio y) → x ≡ y
  pub refusal : (P : Problem) (claim : Says.Claim) (r s : Refused) → IsProblem P → IsRefusedFor P claim r → IsRefusedFor P claim s → r ≡ s
  pub apart : (P : Problem) (claim : Says.Claim) (r : Refused) → IsProblem P → IsRefusedFor P claim r → Accepts P claim → ⊥

-- options hand in one thing, a result document is one report, and with an instance's document it has one answer
pub record HandedAreOne : Type 0 where
  pub once : (bytes : List ℕ) (o : Options) (h k : Handed) → IsOptionsText bytes o → HandsIn bytes h → HandsIn bytes k → h ≡ k
  pub report : (bytes : List ℕ) (r s : Report) → IsReportText bytes r → IsReportText bytes s → r ≡ s
  pub apart : (osil osrl : List ℕ) (k : Kind) (f : CheckFault) → IsAcceptedText osil osrl k → DocsRefuse osil osrl f → f ≡ check_faults.Memory
  pub answer : (osil osrl : List ℕ) (a b : Result Kind CheckFault) (s t : List ℕ) → MatchResult a (IsAcceptedText osil osrl) (DocsRefuse osil osrl) → MatchResult b (IsAcceptedText osil osrl) (DocsRefuse osil osrl) → IsAnswerText a s → IsAnswerText b t → s ≡ t
