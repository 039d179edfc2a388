-- A `var`: what it says is one variable; a variable is written with its attributes, which are XML and are read back.
use Rattle.osil_grammar.proofs.Words.{◌≡◌, ◌∙◌, ◌+◌, ◌≤◌, ℕ, inl, inr, Bool, cond, true, false, List, [], ◌∷◌, length, refl, ap, sym, subst, arith, lit<, Option, Some, bytes_eq, codes, IsXmlText, Attribute, Nodes, none, element, Close, Start, IsNumber, AllPass, ratio, End, NegInf, At, Inf, SaysEnd, only_inf, only_neg_inf, Var, AreEnds, IsVar, AreTooMany, Domain, Continuous, Integer, Binary, SemiContinuous, SemiInteger, raised, lowered, nought, letters, IsLetterOf, IsOfDomain, SaysTimes, SaysLow, SaysHigh, SaysVar, EndHasText, WritesVar, type_text, var_attributes, State, begins, tests, Fails, WriteVars, EndAttributes, with_attribute}
use Rattle.evidence.specs.Sums as evidence
use Rattle.tree_writing.specs.Awaiting.{WritesEvent, BeginsTag, AddsAttributes}
use Rattle.tree_writing.specs.declared.text_writer.TextWriter.{TextWriter}
use Rattle.document_tags.proofs.XmlNodes.{IsTag, tag_by}
use Rattle.document_tags.proofs.PrintableTexts.{printable_text, fixed_text}
use Rattle.osil_grammar.specs.declared.elements.Place.TheVariants as places
use Rattle.osil_grammar.specs.declared.elements.Led.TheVariants as led
use Rattle.osil_grammar.proofs.Places.{number_either}
use Rattle.osil_grammar.proofs.Tellings.{adds_one}
use Rattle.osil_grammar.proofs.Parts.{AddsOne, ToldSome, empty_wrote}
use Rattle.osil_grammar.proofs.TagNumbers.{bound_read, bound_once, end_at_once}
use Rattle.osil_grammar.proofs.StartTagTests.{said_once, domain_known, said_ends, not_end}
use Rattle.osil_grammar.proofs.PrintableTexts.{end_shown}
use Rattle.osil_grammar.proofs.RoundTrips.{end_bound}

-- the numbers of a start tag: its ends, and for how many it stands
abbrev pub VarNumbers : Type 0
VarNumbers = (End × End) × ℕ

abbrev pub AreVarNumbers : List Attribute → VarNumbers → Type 0
AreVarNumbers as' x = (SaysLow as' x.0.0 × SaysHigh as' x.0.1) × SaysTimes as' x.1

-- WHAT IT SAYS IS ONE VARIABLE
raised_number : (x : End) → IsNumber (raised x)
raised_number (At f) = number_either (evidence.is_below (ratio f) evidence.none) evidence.none (ratio f) (lit< tt) f.above
raised_number x = lit< tt

lowered_number : (x : End) → IsNumber (lowered x)
lowered_number (At f) = number_either (evidence.is_below (lowered Inf) (ratio f)) (lowered Inf) (ratio f) (lit< tt) f.above
lowered_number x = lit< tt

abbrev made : (lb ub : End) (whole zero : Bool) → Var
made lb ub whole zero = record { lb = lb; ub = ub; whole = whole; zero = zero }

same_var : (v w : Var) → v.lb ≡ w.lb → v.ub ≡ w.ub → v.whole ≡ w.whole → v.zero ≡ w.zero → v ≡ w
same_var v w a b c d = ap (λ (x : End). made x v.ub v.whole v.zero) a ∙ ap (λ (x : End). made w.lb x v.whole v.zero) b ∙ ap (λ (x : Bool). made w.lb w.ub x v.zero) c ∙ ap (λ (x : Bool). made w.lb w.ub w.whole x) d

as_said : (lb ub : End) (whole semi : Bool) (v w : Var) → (v.lb ≡ lb) × (v.ub ≡ ub) × (v.whole ≡ whole) × (v.zero ≡ semi) → (w.lb ≡ lb) × (w.ub ≡ ub) × (w.whole ≡ whole) × (w.zero ≡ semi) → v ≡ w
as_said lb ub whole semi v w a b = same_var v w (a.0 ∙ sym b.0) (a.1 ∙ sym b.1) (a.2 ∙ sym b.2) (a.3 ∙ sym b.3)

of_domain_once : (d : Domain) (lb ub : End) (v w : Var) → IsOfDomain d lb ub v → IsOfDomain d lb ub w → v ≡ w
of_domain_once Continuous lb ub v w a b = as_said lb ub false false v w a b
of_domain_once Integer lb ub v w a b = as_said lb ub true false v w a b
of_domain_once Binary lb ub v w a b = same_var v w (end_at_once (raised lb) (raised_number lb) v.lb w.lb a.0 b.0) (end_at_once (lowered ub) (lowered_number ub) v.ub w.ub a.1 b.1) (a.2 ∙ sym b.2) (a.3 ∙ sym b.3)
of_domain_once SemiContinuous lb ub v w a b = as_said lb ub false true v w a b
of_domain_once SemiInteger lb ub v w a b = as_said lb ub true true v w a b

abbrev letter_read : List ℕ → Option Domain
letter_read t = cond (bytes_eq t (codes "C")) (Some Continuous) (cond (bytes_eq t (codes "B")) (Some Binary) (cond (bytes_eq t (codes "I")) (Some Integer) (cond (bytes_eq t (codes "D")) (Some SemiContinuous) (Some SemiInteger))))

letter_is : (t : List ℕ) (d : Domain) → IsLetterOf letters t d → letter_read t ≡ Some d
letter_is t d (inl a) = ap letter_read a.0 ∙ ap (λ (x : Domain). Some x) (sym a.1)
letter_is t d (inr (inl a)) = ap letter_read a.0 ∙ ap (λ (x : Domain). Some x) (sym a.1)
letter_is t d (inr (inr (inl a))) = ap letter_read a.0 ∙ ap (λ (x : Domain). Some x) (sym a.1)
letter_is t d (inr (inr (inr (inl a)))) = ap letter_read a.0 ∙ ap (λ (x : Domain). Some x) (sym a.1)
letter_is t d (inr (inr (inr (inr (inl a))))) = ap letter_read a.0 ∙ ap (λ (x : Domain). Some x) (sym a.1)
letter_is t d (inr (inr (inr (inr (inr a))))) = absurd a

letter_once : (t : List ℕ) (d e : Domain) → IsLetterOf letters t d → IsLetterOf letters t e → d ≡ e
letter_once t d e a b = let same = sym (letter_is t d a) ∙ letter_is t e b in cc

pub var_once : (as' : List Attribute) (v w : Var) → SaysVar as' v → SaysVar as' w → v ≡ w
var_once as' v w a b =
    let low = said_once as' (codes "lb") (At nought) SaysEnd bound_once a.lb b.lb a.low b.low in
    let high = said_once as' (codes "ub") Inf SaysEnd bound_once a.ub b.ub a.high b.high in
    let type = said_once as' (codes "type") Continuous (λ t d. IsLetterOf letters t d) letter_once a.domain b.domain a.type b.type in
    let first : IsOfDomain b.domain a.lb a.ub v = subst (λ (d : Domain). IsOfDomain d a.lb a.ub v) type a.is in
    let second : IsOfDomain b.domain b.lb a.ub v = subst (λ (x : End). IsOfDomain b.domain x a.ub v) low first in
    of_domain_once b.domain b.lb b.ub v w (subst (λ (x : End). IsOfDomain b.domain b.lb x v) high second) b.is

-- IT IS ONE OF AN INSTANCE, and there is room for it, where all tests pass
domain_ends : (d : Domain) (lb ub : End) (v : Var) → IsOfDomain d lb ub v → AreEnds lb ub → AreEnds v.lb v.ub
domain_ends Binary lb ub v is both = (not_end Inf (λ f e. absurd (cc)) v.lb (raised lb) is.0, not_end NegInf (λ f e. absurd (cc)) v.ub (lowered ub) is.1)
domain_ends d lb ub v is both = ((λ e. both.0 (sym is.0 ∙ e)), (λ e. both.1 (sym is.1 ∙ e)))

pub var_fits : (s : State) (name : List ℕ) (as' : List Attribute) (v : Var) → AllPass (Fails s (Start name as')) (tests (begins (led.To places.Var))) → SaysVar as' v → IsVar v × (AreTooMany s as' places.Var → ⊥)
var_fits s name as' v pass says =
    let others = pass.1.1.1.1.1.1.1 in
    let both = said_ends as' (λ x. x ≡ At nought) (λ x. x ≡ Inf) (λ e. absurd (cc)) (λ e. absurd (cc)) says.lb says.ub says.low says.high others.0 others.1.0 in
    (domain_ends says.domain says.lb says.ub v says.is both, others.1.1.0)

-- WRITTEN by its type and its ends
pub var_told : (v : Var) (a b c d e : TextWriter) (kind : List ℕ) (more : List Attribute) → kind ≡ type_text v.whole v.zero → BeginsTag a b (codes "var") → AddsOne b c (codes "type") kind → EndAttributes v.lb v.ub more → AddsAttributes c d more → WritesEvent d e (Close (codes "var")) → ToldSome (WriteVars (v ∷ [])) a e
var_told v a b c d e kind more is starts type ends adds closes =
    let first : AddsOne b c (codes "type") (type_text v.whole v.zero) = subst (AddsOne b c (codes "type")) is type in
    let all : AddsAttributes b d (var_attributes v ends.0 ends.1) = adds_one b c d (record { name = codes "type"; value = type_text v.whole v.zero }) (with_attribute (codes "lb") ends.0 (with_attribute (codes "ub") ends.1 [])) first (subst (AddsAttributes c d) ends.4 adds) in
    (element (codes "var") (var_attributes v ends.0 ends.1) none none, (none, refl, record { lb = ends.0; ub = ends.1; is_lb = ends.2; is_ub = ends.3; says = refl }), empty_wrote a b d e (codes "var") (var_attributes v ends.0 ends.1) starts all closes)

-- ITS ATTRIBUTES ARE XML
type_xml : (whole semi : Bool) → IsXmlText (type_text whole semi)
type_xml true true = fixed_text (codes "J") refl
type_xml true false = fixed_text (codes "I") refl
type_xml false true = fixed_text (codes "D") refl
type_xml false false = fixed_text (codes "C") refl

pub var_tag : (v : Var) (more nodes : Nodes) (is : WritesVar v more nodes) → IsTag (codes "var") (var_attributes v is.lb is.ub)
var_tag v more nodes is =
    tag_by (codes "var") (var_attributes v is.lb is.ub) refl (type_xml v.whole v.zero, (printable_text is.lb (end_shown v.lb is.lb is.is_lb).printable, (printable_text is.ub (end_shown v.ub is.ub is.is_ub).printable, tt)))

-- IT MAY STAND before others
pub var_before : (v : Var) (more nodes rest : Nodes) (is : WritesVar v more nodes) → WritesVar v rest (element (codes "var") (var_attributes v is.lb is.ub) none rest)
var_before v more nodes rest is = record { lb = is.lb; ub = is.ub; is_lb = is.is_lb; is_ub = is.is_ub; says = refl }

-- AND ARE READ BACK
typed : (v : Var) (w z : Bool) → v.whole ≡ w → v.zero ≡ z → (d : Domain) × IsLetterOf letters (type_text w z) d × IsOfDomain d v.lb v.ub v
typed v false false whole semi = (Continuous, inl (refl, refl), (refl, refl, whole, semi))
typed v true false whole semi = (Integer, inr (inr (inl (refl, refl))), (refl, refl, whole, semi))
typed v false true whole semi = (SemiContinuous, inr (inr (inr (inl (refl, refl)))), (refl, refl, whole, semi))
typed v true true whole semi = (SemiInteger, inr (inr (inr (inr (inl (refl, refl))))), (refl, refl, whole, semi))

pub var_comes_back : (s : State) (v : Var) (more nodes : Nodes) (is : WritesVar v more nodes) → EndHasText v.lb × EndHasText v.ub → IsVar v → length s.vars + 1 ≤ 1000 → AllPass (Fails s (Start (codes "var") (var_attributes v is.lb is.ub))) (tests (begins (led.To places.Var))) × SaysVar (var_attributes v is.lb is.ub) v
var_comes_back s v more nodes is has ends few =
    let low = end_bound v.lb is.lb has.0 is.is_lb in
    let high = end_bound v.ub is.ub has.1 is.is_ub in
    let l = bound_read is.lb v.lb low in
    let h = bound_read is.ub v.ub high in
    let type = typed v v.whole v.zero refl refl in (
      (λ b. b l.0, (λ b. b h.0, (λ b. b, (λ w. l.1 w, (λ w. h.1 w, (λ w. w, (λ o. domain_known (var_attributes v is.lb is.ub) type.0 type.1 o, (λ i. ends.0 (only_inf is.lb v.lb low i), (λ i. ends.1 (only_neg_inf is.ub v.ub high i), (λ m. let one = m.1 in let many = m.2 in omega (arith, one, many, few), tt)))))))))),
      record { lb = v.lb; ub = v.ub; domain = type.0; low = low; high = high; type = type.1; is = type.2 },
    )
