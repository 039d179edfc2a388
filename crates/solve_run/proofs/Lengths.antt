-- The document of a claim that is given up isn't too long.
use Rattle.std.proofs.Common.{ℕ, suc, ◌+◌, ◌*◌, ◌/◌, ◌%◌, ◌^◌, ◌≤◌, ◌==◌, ℤ, pos, negsuc, Bool, true, false, cond, Option, None, Some, List, [], ◌∷◌, ◌++◌, drop, length, length-append, length-drop, arith}
use Rattle.std.specs.Prelude.{IfSome, codes, decimal, reverse}
use Rattle.std.specs.Fmt.{signed_decimal}
use Rattle.std.proofs.lemmas.List.{length-reverse}
use Rattle.rational.specs.Ratio.{Ratio}
use Rattle.fraction.specs.Frac.{ratio}
use Rattle.fraction.specs.declared.frac.Frac.{Frac}
use Rattle.document_tags.proofs.Lengths.{decimal_size, nodes_size, text_size, written_short}
use Rattle.decimal_text.specs.Sign.{optional}
use Rattle.decimal_text.specs.Plain.{point_text}
use Rattle.decimal_text.specs.Exact.{ratio_text, denominator_text}
use Rattle.certificate.specs.declared.causes.Step.{Step}
use Rattle.certificate.specs.declared.causes.Step.TheVariants as steps
use Rattle.certificate.specs.declared.causes.Cause.{Cause}
use Rattle.certificate.specs.declared.causes.Cause.TheVariants as causes
use Rattle.certificate.specs.declared.claims.Claim.{Claim}
use Rattle.certificate.specs.declared.claims.Claim.TheVariants.{BestSoFar, Unsure}
use Rattle.osrl_writing.specs.Cuts.{cut_size, without_zeros, decimals, has_sign, cut_text}
use Rattle.osrl_grammar.specs.Items.{step_text}
use Rattle.osrl_writing.specs.Writing.{variable_values, goal_values, cause_text, item_nodes, fraction_texts, report_element, report_text, claim_nodes}
use Rattle.osrl_writing.specs.Labels.{no_names}
use Rattle.document_tags.specs.Texts.{document_limit}
use Rattle.solve_run.specs.Closings.{claim_report, error_report, IsShort}

-- a job's name, if there is one, has at most 256 bytes
abbrev pub IsShortName : Option (List ℕ) → Type 0
IsShortName job = IfSome job (λ name. length name ≤ 256)

-- ---- numbers

sign_size : (b : Bool) → length (optional 45 b) ≤ 1
sign_size true = omega arith
sign_size false = omega arith

zeros_size : (ds : List ℕ) → length (without_zeros ds) ≤ length ds
zeros_size [] = omega arith
zeros_size (c ∷ cs) = by (c == 48) (zeros_size cs)
  where
    by : (b : Bool) → length (without_zeros cs) ≤ length cs → length (cond b (without_zeros cs) (c ∷ cs)) ≤ suc (length cs)
    by true rest = omega (arith, rest)
    by false rest = omega arith

decimals_size : (n : ℕ) → length (decimals n) ≤ 64
decimals_size n =
    let digits = drop 1 (decimal (10 ^ 12 + n)) in
    let a = decimal_size (10 ^ 12 + n) in
    let b = length-drop 1 (decimal (10 ^ 12 + n)) in
    let c = length-reverse digits in
    let d = zeros_size (reverse digits) in
    let e = length-reverse (without_zeros (reverse digits)) in
    omega (arith, a, b, c, d, e)

point_size : (ds : List ℕ) → length (point_text ds) ≤ 1 + length ds
point_size [] = omega arith
point_size (d ∷ ds) = omega arith

cut_text_size : (x : Ratio) → length (cut_text x) ≤ 130
cut_text_size x =
    let sign = optional 45 (has_sign x.num (cut_size x)) in
    let whole = decimal (cut_size x / 10 ^ 12) in
    let point = point_text (decimals (cut_size x % 10 ^ 12)) in
    let a = sign_size (has_sign x.num (cut_size x)) in
    let b = decimal_size (cut_size x / 10 ^ 12) in
    let c = point_size (decimals (cut_size x % 10 ^ 12)) in
    let d = decimals_size (cut_size x % 10 ^ 12) in
    omega (arith, a, b, c, d, length-append sign (whole ++ point), length-append whole point)

signed_size : (z : ℤ) → length (signed_decimal z) ≤ 65
signed_size (pos n) = let a = decimal_size n in omega (arith, a)
signed_size (negsuc n) = let a = decimal_size (suc n) in omega (arith, a)

under_size : (d : ℕ) → length (denominator_text d) ≤ 65
under_size d = by (d == 1)
  where
    by : (b : Bool) → length (cond b [] (47 ∷ decimal d)) ≤ 65
    by true = omega arith
    by false = let a = decimal_size d in omega (arith, a)

ratio_size : (x : Ratio) → length (ratio_text x) ≤ 130
ratio_size x =
    let a = signed_size x.num in
    let b = under_size x.den in
    omega (arith, a, b, length-append (signed_decimal x.num) (denominator_text x.den))

step_size : (s : Step) → length (step_text s) ≤ 6
step_size steps.Values = omega arith
step_size steps.Ratio = omega arith
step_size steps.Pivot = omega arith
step_size steps.Point = omega arith
step_size steps.Ray = omega arith
step_size steps.Round = omega arith
step_size steps.Check = omega arith

cause_size : (c : Cause) → length (cause_text c) ≤ 150
cause_size causes.Killed = omega arith
cause_size (causes.NodeLimit n) = let a = decimal_size n in omega (arith, a, length-append (codes "nodeLimit ") (decimal n))
cause_size (causes.TurnLimit n) = let a = decimal_size n in omega (arith, a, length-append (codes "turnLimit ") (decimal n))
cause_size (causes.TimeLimit x) = let a = ratio_size (ratio x) in omega (arith, a, length-append (codes "timeLimit ") (ratio_text (ratio x)))
cause_size causes.Gap = omega arith
cause_size (causes.Wide p) =
    let a = decimal_size p.node in
    let b = decimal_size p.turn in
    let c = step_size p.step in
    let last = 32 ∷ step_text p.step in
    let turn = 32 ∷ (decimal p.turn ++ last) in
    omega (arith, a, b, c, length-append (codes "wide ") (decimal p.node ++ turn), length-append (decimal p.node) turn, length-append (decimal p.turn) last)
cause_size causes.Length = omega arith
cause_size causes.Memory = omega arith

-- ---- parts of a document

values_size : (j : ℕ) (xs : List Frac) → nodes_size (variable_values [] j xs) ≤ 1200 * length xs
values_size j [] = omega arith
values_size j (x ∷ xs) =
    let rest = values_size (j + 1) xs in
    let index = decimal_size j in
    let text = text_size (cut_text (ratio x)) in
    let cut = cut_text_size (ratio x) in
    omega (arith, rest, index, text, cut)

goals_size : (k : ℕ) (vs : List Frac) → nodes_size (goal_values k vs) ≤ 1200 * length vs
goals_size k [] = omega arith
goals_size k (v ∷ vs) =
    let rest = goals_size (k + 1) vs in
    let index = decimal_size k in
    let text = text_size (cut_text (ratio v)) in
    let cut = cut_text_size (ratio v) in
    omega (arith, rest, index, text, cut)

items_size : (xs : List Frac) → nodes_size (item_nodes (fraction_texts xs)) ≤ 800 * length xs
items_size [] = omega arith
items_size (x ∷ xs) =
    let rest = items_size xs in
    let text = text_size (ratio_text (ratio x)) in
    let one = ratio_size (ratio x) in
    omega (arith, rest, text, one)

module _ (job : Option (List ℕ)) (short : IsShortName job) where
  -- the document is its claim's nodes and little more
  around : (c : Claim) → nodes_size (report_element (claim_report job c)).children ≤ 3000 + nodes_size (claim_nodes no_names c)
  around c = by job short
    where
      by : (j : Option (List ℕ)) → IsShortName j → nodes_size (report_element (claim_report j c)).children ≤ 3000 + nodes_size (claim_nodes no_names c)
      by None s = omega arith
      by (Some name) s = let text = text_size name in omega (arith, text, s)

  whole_size : (c : Claim) → nodes_size (claim_nodes no_names c) ≤ 4000000 → IsShort job c
  whole_size c few =
      let all = written_short (report_element (claim_report job c)) in
      let most = around c in
      omega (arith, all, most, few)

  unsure_size : (c : Cause) → nodes_size (claim_nodes no_names (Unsure c None)) ≤ 4000000
  unsure_size c =
      let text = text_size (cause_text c) in
      let cause = cause_size c in
      omega (arith, text, cause)

  best_size : (x vs : List Frac) (c : Cause) → length x ≤ 1000 → length vs ≤ 8 → nodes_size (claim_nodes no_names (BestSoFar x vs c None)) ≤ 4000000
  best_size x vs c few asked =
      let text = text_size (cause_text c) in
      let cause = cause_size c in
      omega (arith, text, cause, values_size 0 x, items_size x, goals_size 1 vs, items_size vs, few, asked)

  pub unsure_short : (c : Cause) → IsShort job (Unsure c None)
  unsure_short c = whole_size (Unsure c None) (unsure_size c)

  pub best_short : (x vs : List Frac) (c : Cause) → length x ≤ 1000 → length vs ≤ 8 → IsShort job (BestSoFar x vs c None)
  best_short x vs c few asked = whole_size (BestSoFar x vs c None) (best_size x vs c few asked)

  -- the document of an error with a short message isn't either
  error_size : (message : List ℕ) → length message ≤ 300 → nodes_size (report_element (error_report job message)).children ≤ 10000
  error_size message few = by job short
    where
      by : (j : Option (List ℕ)) → IsShortName j → nodes_size (report_element (error_report j message)).children ≤ 10000
      by None s = let said = text_size message in omega (arith, said, few)
      by (Some name) s = let text = text_size name in let said = text_size message in omega (arith, text, s, said, few)

  pub error_short : (message : List ℕ) → length message ≤ 300 → length (report_text (error_report job message)) ≤ document_limit
  error_short message few =
      let all = written_short (report_element (error_report job message)) in
      let most = error_size message few in
      omega (arith, all, most)
