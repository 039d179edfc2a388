-- The text of options is a document that isn't blank.
use Rattle.std.proofs.Common.{◌≡◌, ◌∙◌, ℕ, zero, suc, ◌+◌, ◌*◌, ◌≤◌, ◌==◌, ℤ, pos, negsuc, Bool, true, false, cond, Option, None, Some, List, [], ◌∷◌, ◌++◌, length, length-append, drop, reverse, leb, refl, ap, sym, arith, lit≤, lit<}
use Rattle.std.specs.Prelude.{codes, decimal, filter}
use Rattle.std.specs.Fmt.{signed_decimal}
use Rattle.std.specs.List.{list_all}
use Rattle.std.proofs.lemmas.Bool.{leb-true}
use Rattle.std.proofs.lemmas.List.{reverse-append, reverse-reverse}
use Rattle.tree_grammar.specs.Elements as tree
use Rattle.tree_grammar.specs.Elements.{none}
use Rattle.tree_grammar.proofs.XmlTexts.{Printable, is_printable, text_append}
use Rattle.tree_grammar.specs.Characters.{IsXmlText}
use Rattle.fraction.specs.Frac.{ratio}
use Rattle.fraction.specs.declared.frac.Frac.{Frac}
use Rattle.decimal_text.specs.Exact.{denominator_text, ratio_text}
use Rattle.decimal_text.specs.Space.{is_space, without_leading_space, trimmed}
use Rattle.document_tags.specs.Texts.{document_limit, IsDocument}
use Rattle.document_tags.specs.Writing.{text_nodes, leaf, group, bare_root}
use Rattle.document_tags.proofs.PrintableTexts.{fixed_text, number_text, digits_printable, printable_text}
use Rattle.document_tags.proofs.XmlNodes.{AreFlat, none_flat, text_flat, element_flat, still_flat, root_is_document}
use Rattle.document_tags.proofs.Lengths.{nodes_size, text_size, decimal_size, written_short}
use Rattle.osol_grammar.specs.declared.gaps.Gap.{Gap}
use Rattle.osol_grammar.specs.declared.limit.Limit.{Limit}
use Rattle.osol_grammar.specs.declared.limit.Limit.TheVariants.{Nodes, Turns, Rounds, Names, Form, Bound}
use Rattle.osol_grammar.specs.declared.options.Options.{Options}
use Rattle.osol_grammar.specs.Limits.{all, limit_row, amount_text}
use Rattle.osol_grammar.specs.Options.{amount}
use Rattle.osol_grammar.specs.Gaps.{percent, gap_text}
use Rattle.osol_grammar.specs.Writing.{is_told, told_limits, job_nodes, time_nodes, values_nodes, first_nodes, option_node, option_nodes, gap_nodes, limit_nodes, options_nodes, options_element, options_text}
use Rattle.osol_grammar.specs.Back.{IsNameOrNone, AreFirstOrNone, ComesBack}
use Rattle.osol_grammar.proofs.LimitTable.{each_passes}
use Rattle.osol_grammar.proofs.SaidGaps.{ratio_each}

amount_xml : (l : Limit) (n : ℕ) → IsXmlText (amount_text l n)
amount_xml Form zero = fixed_text (codes "whole") refl
amount_xml Form (suc n) = fixed_text (codes "rows") refl
amount_xml Nodes n = number_text n
amount_xml Turns n = number_text n
amount_xml Rounds n = number_text n
amount_xml Names n = number_text n
amount_xml Bound n = number_text n

amount_size : (l : Limit) (n : ℕ) → length (amount_text l n) ≤ 64
amount_size Form zero = omega arith
amount_size Form (suc n) = omega arith
amount_size Nodes n = decimal_size n
amount_size Turns n = decimal_size n
amount_size Rounds n = decimal_size n
amount_size Names n = decimal_size n
amount_size Bound n = decimal_size n

ratio_xml : (s : Frac) → IsXmlText (ratio_text (ratio s))
ratio_xml s = printable_text (ratio_text (ratio s)) (ratio_each Printable digits_printable (lit≤ tt, lit< tt) (lit≤ tt, lit< tt) s)

percent_xml : (b : Bool) → IsXmlText (percent b)
percent_xml true = fixed_text (codes "%") refl
percent_xml false = fixed_text [] refl

-- an option whose name and value are texts of XML, and then more
option_flat : (name value : List ℕ) (more : tree.Nodes) → IsXmlText name → IsXmlText value → AreFlat 1 more more → AreFlat 1 (option_node name value more) (option_node name value more)
option_flat name value more is_name is_value rest = element_flat 0 (codes "solverOption") _ none more none more refl (is_name, (is_value, (fixed_text (codes "os_cert") refl, tt))) (none_flat 0) rest

limits_flat : (o : Options) (ls : List Limit) (more : tree.Nodes) → AreFlat 1 more more → AreFlat 1 (option_nodes o ls more) (option_nodes o ls more)
limits_flat o [] more rest = rest
limits_flat o (l ∷ ls) more rest = option_flat (limit_row l).name (amount_text l (amount o l)) (option_nodes o ls more) (fixed_text (limit_row l).name (each_passes (λ k. list_all is_printable (limit_row k).name) refl l)) (amount_xml l (amount o l)) (limits_flat o ls more rest)

gap_flat : (gap : Option Gap) → AreFlat 1 (gap_nodes gap none) (gap_nodes gap none)
gap_flat None = none_flat 1
gap_flat (Some g) = option_flat (codes "gap") (gap_text g) none (fixed_text (codes "gap") refl) (text_append (ratio_text (ratio g.number)) (percent g.is_percent) (ratio_xml g.number) (percent_xml g.is_percent)) (none_flat 1)

-- the options that are told
abbrev pub told_nodes : Options → tree.Nodes
told_nodes o = limit_nodes o (gap_nodes o.gap none)

-- what stands behind the job's name and the time
abbrev pub optimization : Options → tree.Nodes
optimization o = group (codes "optimization") (first_nodes o.first (group (codes "solverOptions") (told_nodes o) none)) none

-- the first values
values_flat : (n : ℕ) (vs : List (Option Frac)) → AreFlat 1 (values_nodes n vs) (values_nodes n vs)
values_flat n [] = none_flat 1
values_flat n (None ∷ vs) = values_flat (n + 1) vs
values_flat n (Some x ∷ vs) = element_flat 0 (codes "var") _ none (values_nodes (n + 1) vs) none (values_nodes (n + 1) vs) refl (number_text n, (ratio_xml x, tt)) (none_flat 0) (values_flat (n + 1) vs)

first_flat : (first : Option (List (Option Frac))) (more : tree.Nodes) → AreFlat 3 more more → AreFlat 3 (first_nodes first more) (first_nodes first more)
first_flat None more rest = rest
first_flat (Some vs) more rest =
    let inner = element_flat 1 (codes "initialVariableValues") [] (values_nodes 0 vs) none (values_nodes 0 vs) none refl tt (values_flat 0 vs) (none_flat 2) in
    element_flat 2 (codes "variables") [] (group (codes "initialVariableValues") (values_nodes 0 vs) none) more (group (codes "initialVariableValues") (values_nodes 0 vs) none) more refl tt inner rest

optimization_flat : (o : Options) → AreFlat 4 (optimization o) (optimization o)
optimization_flat o =
    let limits = group (codes "solverOptions") (told_nodes o) none in
    let inner = element_flat 2 (codes "solverOptions") [] (told_nodes o) none (told_nodes o) none refl tt (still_flat 1 2 (told_nodes o) (told_nodes o) (lit≤ tt) (limits_flat o (told_limits o) (gap_nodes o.gap none) (gap_flat o.gap))) (none_flat 3) in
    element_flat 3 (codes "optimization") [] (first_nodes o.first limits) none (first_nodes o.first limits) none refl tt (first_flat o.first limits inner) (none_flat 4)

time_flat : (seconds : Option Frac) (more : tree.Nodes) → AreFlat 4 more more → AreFlat 4 (time_nodes seconds more) (time_nodes seconds more)
time_flat None more rest = rest
time_flat (Some s) more rest =
    let text = ratio_text (ratio s) in
    let inner = element_flat 2 (codes "maxTime") [] (text_nodes text) none (text_nodes text) none refl tt (text_flat 2 text (ratio_xml s)) (none_flat 3) in
    element_flat 3 (codes "job") [] (leaf (codes "maxTime") text none) more (leaf (codes "maxTime") text none) more refl tt inner rest

signed_size : (z : ℤ) → length (signed_decimal z) ≤ 65
signed_size (pos n) = let a = decimal_size n in omega (arith, a)
signed_size (negsuc n) = let a = decimal_size (suc n) in omega (arith, a)

under_size : (b : Bool) (d : ℕ) → length (cond b [] (47 ∷ decimal d)) ≤ 65
under_size true d = omega arith
under_size false d = let a = decimal_size d in omega (arith, a)

ratio_size : (s : Frac) → length (ratio_text (ratio s)) ≤ 130
ratio_size s = let a = signed_size s.numer in let b = under_size (s.denom == 1) s.denom in omega (arith, a, b, length-append (signed_decimal s.numer) (denominator_text s.denom))

time_size : (seconds : Option Frac) (more : tree.Nodes) → nodes_size (time_nodes seconds more) ≤ 2000 + nodes_size more
time_size None more = omega arith
time_size (Some s) more = let text = text_size (ratio_text (ratio s)) in let short = ratio_size s in omega (arith, text, short)

values_size : (n : ℕ) (vs : List (Option Frac)) → nodes_size (values_nodes n vs) ≤ 2000 * length vs
values_size n [] = omega arith
values_size n (None ∷ vs) = let rest = values_size (n + 1) vs in omega (arith, rest)
values_size n (Some x ∷ vs) =
    let rest = values_size (n + 1) vs in
    let index = decimal_size n in
    let value = ratio_size x in
    omega (arith, rest, index, value)

first_size : (first : Option (List (Option Frac))) (more : tree.Nodes) → AreFirstOrNone first → nodes_size (first_nodes first more) ≤ 2010000 + nodes_size more
first_size None more are = omega arith
first_size (Some vs) more are = let values = values_size 0 vs in let few = are.few in omega (arith, values, few)

job_flat : (job : Option (List ℕ)) (more : tree.Nodes) → IsNameOrNone job → AreFlat 4 more more → AreFlat 4 (job_nodes job more) (job_nodes job more)
job_flat None more is rest = rest
job_flat (Some job) more is rest =
    let inner = element_flat 2 (codes "jobID") [] (text_nodes job) none (text_nodes job) none refl tt (text_flat 2 job is.characters) (none_flat 3) in
    element_flat 3 (codes "general") [] (leaf (codes "jobID") job none) more (leaf (codes "jobID") job none) more refl tt inner rest

job_size : (job : Option (List ℕ)) (more : tree.Nodes) → IsNameOrNone job → nodes_size (job_nodes job more) ≤ 2000 + nodes_size more
job_size None more is = omega arith
job_size (Some job) more is = let text = text_size job in let short = is.short in omega (arith, text, short)

-- a name of a limit has at most 50 bytes, so each option has at most 1000
limits_size : (o : Options) (ls : List Limit) (more : tree.Nodes) → nodes_size (option_nodes o ls more) ≤ 1000 * length ls + nodes_size more
limits_size o [] more = omega arith
limits_size o (l ∷ ls) more =
    let rest = limits_size o ls more in
    let name = leb-true (length (limit_row l).name) 50 (each_passes (λ k. leb (length (limit_row k).name) 50) refl l) in
    let said = amount_size l (amount o l) in
    omega (arith, rest, name, said)

percent_size : (b : Bool) → length (percent b) ≤ 1
percent_size true = omega arith
percent_size false = omega arith

gap_size : (gap : Option Gap) → nodes_size (gap_nodes gap none) ≤ 2000
gap_size None = omega arith
gap_size (Some g) =
    let number = ratio_size g.number in
    let sign = percent_size g.is_percent in
    omega (arith, number, sign, length-append (ratio_text (ratio g.number)) (percent g.is_percent))

-- no more are told than there are
filter_few : {X : Type 0} (test : X → Bool) (xs : List X) → length (filter test xs) ≤ length xs
filter_few test [] = omega arith
filter_few {X} test (x ∷ xs) = by_test (test x) (filter_few test xs)
  where
    by_test : (b : Bool) → length (filter test xs) ≤ length xs → length (cond b (x ∷ filter test xs) (filter test xs)) ≤ suc (length xs)
    by_test true few = omega (arith, few)
    by_test false few = omega (arith, few)

text_short : (o : Options) → ComesBack o → length (options_text o) ≤ document_limit
text_short o back =
    let whole = written_short (options_element o) in
    let job = job_size o.job (time_nodes o.seconds (optimization o)) back.job in
    let time = time_size o.seconds (optimization o) in
    let first = first_size o.first (group (codes "solverOptions") (told_nodes o) none) back.first in
    let limits = limits_size o (told_limits o) (gap_nodes o.gap none) in
    let gap = gap_size o.gap in
    let few = filter_few (is_told o) all in
    omega (arith, whole, job, time, first, limits, gap, few)

pub text_document : (o : Options) → ComesBack o → IsDocument (options_text o) (bare_root (codes "osol") (options_nodes o))
text_document o back =
    root_is_document (codes "osol") (options_nodes o) refl refl (still_flat 4 31 (options_nodes o) (options_nodes o) (lit≤ tt) (job_flat o.job (time_nodes o.seconds (optimization o)) back.job (time_flat o.seconds (optimization o) (optimization_flat o)))) (text_short o back)

-- a text that doesn't begin with white space
still_some : (b : Bool) (x : ℕ) (xs rest : List ℕ) → (rest ≡ [] → ⊥) → cond b rest (x ∷ xs) ≡ [] → ⊥
still_some true x xs rest some e = some e
still_some false x xs rest some e = cc

letter_stays : (xs : List ℕ) → without_leading_space (xs ++ 60 ∷ []) ≡ [] → ⊥
letter_stays [] e = cc
letter_stays (x ∷ xs) e = still_some (is_space x) x (xs ++ 60 ∷ []) (without_leading_space (xs ++ 60 ∷ [])) (letter_stays xs) e

not_blank : (s : List ℕ) → trimmed (60 ∷ s) ≡ [] → ⊥
not_blank s e = letter_stays (reverse s) (ap without_leading_space (sym (reverse-append (60 ∷ []) s)) ∙ sym (reverse-reverse (without_leading_space (reverse (60 ∷ s)))) ∙ ap reverse e)

pub text_not_blank : (o : Options) → trimmed (options_text o) ≡ [] → ⊥
text_not_blank o e = not_blank (drop 1 (options_text o)) e
