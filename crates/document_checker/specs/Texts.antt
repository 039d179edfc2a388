-- The texts of answers.
use Rattle.std.specs.Prelude.{◌≡◌, ℕ, Option, None, Some, Result, Ok, Err, List, [], ◌∷◌, ◌++◌, codes}
use Rattle.fraction.specs.Frac.{ratio}
use Rattle.fraction.specs.declared.frac.Frac.{Frac}
use Rattle.decimal_text.specs.Exact.{ratio_text}
use Rattle.osil_grammar.specs.Reading as instances
use Rattle.osrl_grammar.specs.Texts as results
use Rattle.document_checker.specs.declared.documents.Kind.{Kind}
use Rattle.document_checker.specs.declared.documents.Kind.TheVariants.{Optimal, Infeasible, Unbounded, BestSoFar, Unsure}
use Rattle.cert_checker.specs.declared.refused.Refused.{Refused}
use Rattle.cert_checker.specs.Words.{refused_words}
use Rattle.document_checker.specs.declared.fault.CheckFault.{CheckFault}
use Rattle.document_checker.specs.declared.fault.CheckFault.TheVariants as faults

-- how good a point can be at most, where that is known
abbrev pub within_words : Option Frac → List ℕ
within_words None = []
within_words (Some bound) = codes " within " ++ ratio_text (ratio bound)

-- a kind by its word, as a solution's status has it
abbrev pub kind_words : Kind → List ℕ
kind_words Optimal = codes "optimal"
kind_words Infeasible = codes "infeasible"
kind_words Unbounded = codes "unbounded"
kind_words (BestSoFar bound) = codes "bestSoFar" ++ within_words bound
kind_words (Unsure bound) = codes "unsure" ++ within_words (Some bound)

abbrev pub reason : List ℕ → List ℕ
reason words = codes "refused " ++ words

-- a document's name, and what its own text says
abbrev pub quoted : (name : List ℕ) → List ℕ → List ℕ
quoted name told = reason name ++ (32 ∷ told)

-- the text of a reason for which a claim is refused
abbrev pub refused_text : Refused → List ℕ
refused_text r = reason (refused_words r)

-- the text of why documents aren't accepted; want of memory has none
abbrev pub IsCheckFaultText : CheckFault → List ℕ → Type 0
IsCheckFaultText (faults.Instance f) text = (told : List ℕ) × instances.IsFaultText f told × (text ≡ quoted (codes "Instance") told)
IsCheckFaultText (faults.Result f) text = (told : List ℕ) × results.IsFaultText f told × (text ≡ quoted (codes "Result") told)
IsCheckFaultText (faults.Claim r) text = text ≡ refused_text r
IsCheckFaultText faults.Memory text = ⊥

abbrev pub IsAnswerText : Result Kind CheckFault → List ℕ → Type 0
IsAnswerText (Ok k) text = text ≡ codes "accepted " ++ kind_words k
IsAnswerText (Err f) text = IsCheckFaultText f text
