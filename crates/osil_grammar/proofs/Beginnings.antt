-- A start tag is gone past, or refused, in the state that the code holds.
use Rattle.osil_grammar.proofs.Words.{◌≡◌, ◌∙◌, ◌+◌, ℕ, ℤ, List, [], ◌++◌, length, replicate, refl, ap, ap₂, sym, subst, Option, codes, Result, Ok, Err, Attribute, Start, Finish, Frac, Row, Sense, AllPass, FirstFails, first_with, Stop, Place, Listing, Values, Led, told_refusal, Refusal, nought, SaysCount, SaysTimes, SaysConstant, SaysSense, SaysStep, SaysWholeStep, SaysVar, SaysRow, SaysIndex, State, begins, ToldRefusal, tests, refusal, leads, Fails, into, SaysRun, Begins, BeginsAt, EndsAt, StepsAt}
use Rattle.instance.specs.declared.parts.Var.{Var as Variable}
use Rattle.osil_grammar.specs.declared.fault.Refusal as code
use Rattle.osil_grammar.specs.declared.stop.Refused as kept
use Rattle.tag_tests.specs.declared.marks.Stop.TheVariants.{Refused, Memory}
use Rattle.osil_grammar.specs.declared.elements.Place.TheVariants as places
use Rattle.osil_grammar.specs.declared.elements.Led.TheVariants as led

-- a refusal at a start tag
pub begin_refused : (s z : State) (name : List ℕ) (as' : List Attribute) (p : Place) (r : code.Refusal) (n : ℕ) (stop : Stop) → stop ≡ Refused (record { refusal = r; at = n }) → n ≡ s.count + 1 → FirstFails (Fails s (Start name as')) (refusal s (Start name as')) (tests (begins (led.To p))) (told_refusal r) → BeginsAt {X = Unit {0}} s name as' (led.To p) z (Err stop)
begin_refused s z name as' p r n stop is at h =
    subst (λ (f : Stop). BeginsAt {X = Unit {0}} s name as' (led.To p) z (Err f)) (sym (is ∙ ap (λ (k : ℕ). let told : kept.Refused = record { refusal = r; at = k } in Refused told) at))
    (first_with (Fails s (Start name as')) (refusal s (Start name as')) (λ (q : Refusal). let t : ToldRefusal = record { refusal = q; at = s.count + 1 } in t) (tests (begins (led.To p))) (told_refusal r) h)

-- all tests pass, and the state is left that the code made of its own, which is that before
pub begun : (s now : State) → s ≡ now → (name : List ℕ) (as' : List Attribute) (p : Place) (z : State) → AllPass (Fails now (Start name as')) (tests (begins (led.To p))) → Begins s (Start name as') p z → BeginsAt {X = Unit {0}} now name as' (led.To p) z (Ok tt)
begun s now same name as' p z pass h = (pass, subst (λ (t : State). Begins t (Start name as') p z) same h)

pub var_begun : (s now : State) → s ≡ now → (name : List ℕ) (as' : List Attribute) (v : Variable) (n : ℕ) (vs : List Variable) (z : State) → z ≡ record (into s places.Var) { vars = vs } → vs ≡ s.vars ++ replicate n v → AllPass (Fails now (Start name as')) (tests (begins (led.To places.Var))) × (SaysVar as' v × SaysTimes as' n) → BeginsAt {X = Unit {0}} now name as' (led.To places.Var) z (Ok tt)
var_begun s now same name as' v n vs z is more h = begun s now same name as' places.Var z h.0 (v, n, h.1.0, h.1.1, is ∙ ap (λ (l : List Variable). let y : State = record (into s places.Var) { vars = l } in y) more)

pub row_begun : (s now : State) → s ≡ now → (name : List ℕ) (as' : List Attribute) (r : Row) (n : ℕ) (rs : List Row) (z : State) → z ≡ record (into s places.Con) { rows = rs } → rs ≡ s.rows ++ replicate n r → AllPass (Fails now (Start name as')) (tests (begins (led.To places.Con))) × (SaysRow as' r × SaysTimes as' n) → BeginsAt {X = Unit {0}} now name as' (led.To places.Con) z (Ok tt)
row_begun s now same name as' r n rs z is more h = begun s now same name as' places.Con z h.0 (r, n, h.1.0, h.1.1, is ∙ ap (λ (l : List Row). let y : State = record (into s places.Con) { rows = l } in y) more)

pub coef_begun : (s now : State) → s ≡ now → (name : List ℕ) (as' : List Attribute) (j : ℕ) (t : List ℕ) (z : State) → z ≡ record (into s places.Coef) { coefs = s.coefs + 1; variable = j; text = t } → t ≡ [] → AllPass (Fails now (Start name as')) (tests (begins (led.To places.Coef))) × SaysIndex as' j → BeginsAt {X = Unit {0}} now name as' (led.To places.Coef) z (Ok tt)
coef_begun s now same name as' j t z is none h = begun s now same name as' places.Coef z h.0 (j, h.1, is ∙ ap (λ (l : List ℕ). let y : State = record (into s places.Coef) { coefs = s.coefs + 1; variable = j; text = l } in y) none)

pub value_begun : (s now : State) → s ≡ now → (name : List ℕ) (as' : List Attribute) (n : ℕ) (d : Frac) (t : List ℕ) (z : State) → z ≡ record (into s (places.El Values)) { times = n; step = d; text = t } → t ≡ [] → AllPass (Fails now (Start name as')) (tests (begins (led.To (places.El Values)))) × (SaysTimes as' n × SaysStep as' d) → BeginsAt {X = Unit {0}} now name as' (led.To (places.El Values)) z (Ok tt)
value_begun s now same name as' n d t z is none h = begun s now same name as' (places.El Values) z h.0 (n, d, h.1.0, h.1.1, is ∙ ap (λ (l : List ℕ). let y : State = record (into s (places.El Values)) { times = n; step = d; text = l } in y) none)

says_whole : (l : Listing) → (l ≡ Values → ⊥) → (as' : List Attribute) (s z : State) → (n : ℕ) × (d : ℤ) × SaysTimes as' n × SaysWholeStep as' d × (z ≡ record s { times = n; whole_step = d; text = [] }) → SaysRun l as' s z
says_whole Values other as' s z h = absurd (other refl)
says_whole l other as' s z h = h

pub whole_begun : (s now : State) → s ≡ now → (name : List ℕ) (as' : List Attribute) (l : Listing) → (l ≡ Values → ⊥) → (n : ℕ) (d : ℤ) (t : List ℕ) (z : State) → z ≡ record (into s (places.El l)) { times = n; whole_step = d; text = t } → t ≡ [] → AllPass (Fails now (Start name as')) (tests (begins (led.To (places.El l)))) × (SaysTimes as' n × SaysWholeStep as' d) → BeginsAt {X = Unit {0}} now name as' (led.To (places.El l)) z (Ok tt)
whole_begun s now same name as' l other n d t z is none h = begun s now same name as' (places.El l) z h.0 (says_whole l other as' (into s (places.El l)) z (n, d, h.1.0, h.1.1, is ∙ ap (λ (u : List ℕ). let y : State = record (into s (places.El l)) { times = n; whole_step = d; text = u } in y) none))

pub obj_begun : (s now : State) → s ≡ now → (name : List ℕ) (as' : List Attribute) (g : Sense) (c : Frac) (d : Option ℕ) (n : ℕ) (x : Frac) (w : ℕ) (old cs : List Frac) (z : State) → z ≡ record (into s places.Obj) { obj_at = s.count + 1; times = n; coefs = 0; declared_coefs = d; sense = g; constant = c; costs = cs } → cs ≡ old ++ replicate w x → old ≡ [] → w ≡ length s.vars → x ≡ nought
    → AllPass (Fails now (Start name as')) (tests (begins (led.To places.Obj))) × (SaysSense as' g × SaysConstant as' c × SaysCount as' (codes "numberOfObjCoef") d × SaysTimes as' n) → BeginsAt {X = Unit {0}} now name as' (led.To places.Obj) z (Ok tt)
obj_begun s now same name as' g c d n x w old cs z is more none width zero h =
    let zeros : cs ≡ replicate (length s.vars) nought = more ∙ ap (λ (l : List Frac). l ++ replicate w x) none ∙ ap₂ (λ (k : ℕ) (y : Frac). replicate k y) width zero in
    begun s now same name as' places.Obj z h.0 (g, c, d, n, h.1.0, h.1.1, h.1.2, h.1.3, is ∙ ap (λ (l : List Frac). let y : State = record (into s places.Obj) { obj_at = s.count + 1; times = n; coefs = 0; declared_coefs = d; sense = g; constant = c; costs = l } in y) zeros)

-- a start tag by where it leads
pub at_begin : {X : Type 0} (s : State) (name : List ℕ) (as' : List Attribute) (l : Led) (z : State) (r : Result X Stop) → leads s.place name ≡ l → BeginsAt s name as' l z r → StepsAt s (Start name as') z r
at_begin {X} s name as' l z (Ok x) there h = subst (λ (k : Led). BeginsAt {X = X} s name as' k z (Ok x)) (sym there) h
at_begin {X} s name as' l z (Err (Refused q)) there h = subst (λ (k : Led). BeginsAt {X = X} s name as' k z (Err (Refused q))) (sym there) h
at_begin {X} s name as' l z (Err Memory) there h = tt

-- an end tag by the element that the marks before end in
pub at_end : {X : Type 0} (s z : State) (name : List ℕ) (r : Result X Stop) → EndsAt s s.place z r → StepsAt s (Finish name) z r
at_end s z name (Ok x) h = h name
at_end s z name (Err (Refused q)) h = h name
at_end s z name (Err Memory) h = tt
