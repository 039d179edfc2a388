-- What is found in an envelope is the call in it, or why there is none.
use Rattle.std.proofs.Common.{◌≡◌, ◌⊎◌, inl, inr, ◌∙◌, ℕ, Bool, true, false, ◌&&◌, cond, bytes_eq, Option, None, Some, Result, Ok, Err, List, [], ◌∷◌, ◌++◌, refl, ap, sym, subst, append_assoc, append-nil}
use Rattle.std.specs.Prelude.{codes, IfOk, IfErr, IsSome, IsSomeAnd}
use Rattle.std.proofs.lemmas.Bool.{and_parts}
use Rattle.std.proofs.lemmas.Option.{none-some}
use Rattle.std.proofs.lemmas.Slice.Eq.{bytes_eq-Decides}
use Rattle.tree_grammar.specs.Elements.{Nodes, none, element, chars, Element}
use Rattle.document_tags.specs.Documents.{OfDocument}
use Rattle.document_tags.specs.Elements.{named, children_named, characters}
use Rattle.document_tags.specs.Faults.{told_name}
use Rattle.document_tags.specs.OneChild.{only_one, only_element, unless_elements, plain_text}
use Rattle.document_tags.specs.Rests.{child_elements}
use Rattle.document_tags.specs.Texts.{IsDocument}
use Rattle.six_calls.specs.declared.call.CallKind.{CallKind}
use Rattle.six_calls.specs.declared.part.Part.{Part}
use Rattle.six_calls.specs.declared.part.Part.TheVariants.{Osil, Osol, Ospl}
use Rattle.six_calls.specs.Names.{kind_text, kind_named, part_text, is_needed, has}
use Rattle.six_calls.proofs.Names.{is_named}
use Rattle.soap_calls.specs.declared.call.SoapCall.{SoapCall}
use Rattle.soap_calls.specs.declared.fault.SoapFault.{SoapFault}
use Rattle.soap_calls.specs.declared.fault.SoapFault.TheVariants as faults
use Rattle.soap_calls.specs.declared.parse_state.Told.{Told}
use Rattle.soap_calls.specs.declared.parse_state.Told.TheVariants.{Nothing, Plainly, Badly}
use Rattle.soap_calls.specs.declared.parse_state.PartsTold.{PartsTold}
use Rattle.soap_calls.specs.declared.parse_state.Found.{Found}
use Rattle.soap_calls.specs.declared.parse_state.Found.TheVariants.{NoBody, NoElement, Other, Call, NoEnvelope}
use Rattle.soap_calls.specs.Envelope.{held_in, held}
use Rattle.soap_calls.specs.Calls.{text_among, part_of_call, IsCall, IsCallText}
use Rattle.soap_calls.specs.Refusals.{IsElementRefused, CallFails}
use Rattle.soap_calls.specs.Leaving.{FindsIn}
use Rattle.soap_calls.specs.Marked.{begun, longer, spoilt, told_of, changed, nothing_told, is_part, part_named, element_of, element_named, body_begun, element_begun, text_told, part_told, parts_of, call_of_parts, call_found}
use Rattle.soap_calls.proofs.Walks.{part_nodes, child_nodes, element_nodes, body_nodes, envelope_child, envelope_nodes, root_left}

-- ---- a part

abbrev told_nodes : Told → Nodes → Told
told_nodes t none = t
told_nodes t (chars text more) = told_nodes (longer text t) more
told_nodes t (element name as' inside more) = told_nodes Badly more

changed_twice : (p : Part) (f g : Told → Told) (t : PartsTold) → changed p g (changed p f t) ≡ changed p (λ x. g (f x)) t
changed_twice Osil f g t = refl
changed_twice Osol f g t = refl
changed_twice Ospl f g t = refl

-- a part of the call that was found goes by its nodes
part_of_nodes : (ns : Nodes) (p : Part) (f : Told → Told) (kind : CallKind) (t : PartsTold) → part_nodes p (Call kind (changed p f t)) ns ≡ Call kind (changed p (λ x. told_nodes (f x) ns) t)
part_of_nodes none p f kind t = refl
part_of_nodes (chars text more) p f kind t = ap (λ (u : PartsTold). part_nodes p (Call kind u) more) (changed_twice p f (longer text) t) ∙ part_of_nodes more p (λ x. longer text (f x)) kind t
part_of_nodes (element name as' inside more) p f kind t = ap (λ (u : PartsTold). part_nodes p (Call kind u) more) (changed_twice p f spoilt t) ∙ part_of_nodes more p (λ x. Badly) kind t

badly_nodes : (ns : Nodes) → told_nodes Badly ns ≡ Badly
badly_nodes none = refl
badly_nodes (chars text more) = badly_nodes more
badly_nodes (element name as' inside more) = badly_nodes more

-- a text where there is one
abbrev told_text : Option (List ℕ) → Told
told_text None = Badly
told_text (Some text) = Plainly text

plain_nodes : (ns : Nodes) (before : List ℕ) → told_nodes (Plainly before) ns ≡ told_text (unless_elements (child_elements ns) (before ++ characters ns))
plain_nodes none before = ap (λ (x : List ℕ). Plainly x) (sym (append-nil before))
plain_nodes (chars text more) before = plain_nodes more (before ++ text) ∙ ap (λ (x : List ℕ). told_text (unless_elements (child_elements more) x)) (append_assoc before text (characters more))
plain_nodes (element name as' inside more) before = badly_nodes more

-- ---- several elements of one part

abbrev told_children : Told → List Element → Told
told_children t [] = t
told_children t (e ∷ es) = told_children (told_nodes (begun t) e.children) es

badly_children : (es : List Element) → told_children Badly es ≡ Badly
badly_children [] = refl
badly_children (e ∷ es) = ap (λ (t : Told). told_children t es) (badly_nodes e.children) ∙ badly_children es

again : (o : Option (List ℕ)) → begun (told_text o) ≡ Badly
again None = refl
again (Some text) = refl

text_of_told : (needed : Bool) (o : Option (List ℕ)) → text_told needed (told_text o) ≡ o
text_of_told needed None = refl
text_of_told needed (Some text) = refl

told_among : (needed : Bool) (es : List Element) → text_told needed (told_children Nothing es) ≡ text_among needed es
told_among needed [] = refl
told_among needed (e ∷ []) = ap (text_told needed) (plain_nodes e.children []) ∙ text_of_told needed (plain_text e)
told_among needed (e ∷ f ∷ es) =
    ap (λ (t : Told). text_told needed (told_children (told_nodes (begun t) f.children) es)) (plain_nodes e.children [])
    ∙ ap (λ (t : Told). text_told needed (told_children (told_nodes t f.children) es)) (again (plain_text e))
    ∙ ap (text_told needed) (badly_children (f ∷ es))

-- ---- all child elements of a call

abbrev with_child : Option Part → Nodes → PartsTold → PartsTold
with_child None inside t = t
with_child (Some p) inside t = changed p (λ x. told_nodes (begun x) inside) t

abbrev all_children : CallKind → PartsTold → List Element → PartsTold
all_children kind t [] = t
all_children kind t (e ∷ es) = all_children kind (with_child (part_named kind e.name) e.children t) es

child_is : (o : Option Part) (inside : Nodes) (kind : CallKind) (t : PartsTold) → child_nodes o (Call kind t) inside ≡ Call kind (with_child o inside t)
child_is None inside kind t = refl
child_is (Some p) inside kind t = part_of_nodes inside p begun kind t

call_nodes : (ns : Nodes) (kind : CallKind) (t : PartsTold) → element_nodes (Call kind t) ns ≡ Call kind (all_children kind t (child_elements ns))
call_nodes none kind t = refl
call_nodes (chars text more) kind t = call_nodes more kind t
call_nodes (element name as' inside more) kind t =
    ap (λ (f : Found). element_nodes f more) (child_is (part_named kind name) inside kind t) ∙ call_nodes more kind (with_child (part_named kind name) inside t)

-- which part an element is
abbrev same_part : Part → Part → Bool
same_part Osil Osil = true
same_part Osol Osol = true
same_part Ospl Ospl = true
same_part p q = false

told_changed : (p q : Part) (f : Told → Told) (t : PartsTold) → told_of p (changed q f t) ≡ cond (same_part p q) (f (told_of p t)) (told_of p t)
told_changed Osil Osil f t = refl
told_changed Osil Osol f t = refl
told_changed Osil Ospl f t = refl
told_changed Osol Osil f t = refl
told_changed Osol Osol f t = refl
told_changed Osol Ospl f t = refl
told_changed Ospl Osil f t = refl
told_changed Ospl Osol f t = refl
told_changed Ospl Ospl f t = refl

and_false : (b : Bool) → b && false ≡ false
and_false true = refl
and_false false = refl

other_part : (kind : CallKind) (name : List ℕ) (p q : Part) → bytes_eq (part_text p) (part_text q) ≡ false → is_part kind name p ≡ true → is_part kind name q ≡ false
other_part kind name p q other is =
    let called : name ≡ part_text p = (bytes_eq-Decides name (part_text p)).0 (and_parts (has kind p) (bytes_eq name (part_text p)) is).1 in
    ap (λ (n : List ℕ). has kind q && bytes_eq n (part_text q)) called ∙ ap (λ (b : Bool). has kind q && b) other ∙ and_false (has kind q)

-- one of three tests that passes alone
abbrev test_of : Part → Bool → Bool → Bool → Bool
test_of Osil a b c = a
test_of Osol a b c = b
test_of Ospl a b c = c

abbrev first_of : Bool → Bool → Bool → Option Part
first_of a b c = cond a (Some Osil) (cond b (Some Osol) (cond c (Some Ospl) None))

first_told : (p : Part) (a b c : Bool) (inside : Nodes) (t : PartsTold) → (a ≡ true → b ≡ false) → (a ≡ true → c ≡ false) → (b ≡ true → c ≡ false)
    → told_of p (with_child (first_of a b c) inside t) ≡ cond (test_of p a b c) (told_nodes (begun (told_of p t)) inside) (told_of p t)
first_told Osil true b c inside t ab ac bc = refl
first_told Osol true b c inside t ab ac bc = ap (λ (x : Bool). cond x (told_nodes (begun t.osol) inside) t.osol) (sym (ab refl))
first_told Ospl true b c inside t ab ac bc = ap (λ (x : Bool). cond x (told_nodes (begun t.ospl) inside) t.ospl) (sym (ac refl))
first_told Osil false true c inside t ab ac bc = refl
first_told Osol false true c inside t ab ac bc = refl
first_told Ospl false true c inside t ab ac bc = ap (λ (x : Bool). cond x (told_nodes (begun t.ospl) inside) t.ospl) (sym (bc refl))
first_told Osil false false true inside t ab ac bc = refl
first_told Osol false false true inside t ab ac bc = refl
first_told Ospl false false true inside t ab ac bc = refl
first_told Osil false false false inside t ab ac bc = refl
first_told Osol false false false inside t ab ac bc = refl
first_told Ospl false false false inside t ab ac bc = refl

test_is : (p : Part) (kind : CallKind) (name : List ℕ) → test_of p (is_part kind name Osil) (is_part kind name Osol) (is_part kind name Ospl) ≡ is_part kind name p
test_is Osil kind name = refl
test_is Osol kind name = refl
test_is Ospl kind name = refl

-- a child element says what is told of the part that it is, and nothing else
child_told : (p : Part) (kind : CallKind) (name : List ℕ) (inside : Nodes) (t : PartsTold) → told_of p (with_child (part_named kind name) inside t) ≡ cond (is_part kind name p) (told_nodes (begun (told_of p t)) inside) (told_of p t)
child_told p kind name inside t =
    first_told p (is_part kind name Osil) (is_part kind name Osol) (is_part kind name Ospl) inside t (other_part kind name Osil Osol refl) (other_part kind name Osil Ospl refl) (other_part kind name Osol Ospl refl)
    ∙ ap (λ (x : Bool). cond x (told_nodes (begun (told_of p t)) inside) (told_of p t)) (test_is p kind name)

same_either : {X : Type 0} (b : Bool) (x : X) → x ≡ cond b x x
same_either true x = refl
same_either false x = refl

one_child : (had is : Bool) (u : Told) (e : Element) (more : List Element)
    → cond had (told_children (cond (had && is) (told_nodes (begun u) e.children) u) more) (cond (had && is) (told_nodes (begun u) e.children) u) ≡ cond had (told_children u (cond is (e ∷ more) more)) u
one_child true true u e more = refl
one_child true false u e more = refl
one_child false is u e more = refl

children_told : (p : Part) (kind : CallKind) (es : List Element) (t : PartsTold) → told_of p (all_children kind t es) ≡ cond (has kind p) (told_children (told_of p t) (named (part_text p) es)) (told_of p t)
children_told p kind [] t = same_either (has kind p) (told_of p t)
children_told p kind (e ∷ es) t =
    let more : List Element = named (part_text p) es in
    children_told p kind es (with_child (part_named kind e.name) e.children t)
    ∙ ap (λ (u : Told). cond (has kind p) (told_children u more) u) (child_told p kind e.name e.children t)
    ∙ one_child (has kind p) (bytes_eq e.name (part_text p)) (told_of p t) e more

nothing_of : (p : Part) → told_of p nothing_told ≡ Nothing
nothing_of Osil = refl
nothing_of Osol = refl
nothing_of Ospl = refl

where_had : (had needed : Bool) (t u : Told) → cond had (text_told needed (cond had t u)) (Some []) ≡ cond had (text_told needed t) (Some [])
where_had true needed t u = refl
where_had false needed t u = refl

-- what is told of a part in the end is what stands there
part_is : (p : Part) (kind : CallKind) (e : Element) → part_told kind p (told_of p (all_children kind nothing_told (child_elements e.children))) ≡ part_of_call kind e p
part_is p kind e =
    ap (part_told kind p) (children_told p kind (child_elements e.children) nothing_told)
    ∙ where_had (has kind p) (is_needed p) (told_children (told_of p nothing_told) (children_named (part_text p) e)) (told_of p nothing_told)
    ∙ ap (λ (t : Told). cond (has kind p) (text_told (is_needed p) (told_children t (children_named (part_text p) e))) (Some [])) (nothing_of p)
    ∙ ap (λ (o : Option (List ℕ)). cond (has kind p) o (Some [])) (told_among (is_needed p) (children_named (part_text p) e))

-- ---- the element in a body

-- the call that an element is, or why it is none
abbrev OfElement : Element → Result SoapCall SoapFault → Type 0
OfElement e r = IfOk r (IsCall e) × IfErr r (IsElementRefused e)

some_text : (o : Option (List ℕ)) (text : List ℕ) → Some text ≡ o → IsSome o
some_text o text is = subst (λ (x : Option (List ℕ)). IsSome x) is refl

parts_answer : (kind : CallKind) (e : Element) (osil osol ospl : Option (List ℕ)) → e.name ≡ kind_text kind → osil ≡ part_of_call kind e Osil → osol ≡ part_of_call kind e Osol → ospl ≡ part_of_call kind e Ospl
    → OfElement e (call_of_parts kind (parts_of osil osol ospl))
parts_answer kind e None osol ospl called a b c = (tt, (kind, called, sym a))
parts_answer kind e (Some osil) None ospl called a b c = (tt, (kind, called, (some_text _ osil a, sym b)))
parts_answer kind e (Some osil) (Some osol) None called a b c = (tt, (kind, called, (some_text _ osil a, some_text _ osol b, sym c)))
parts_answer kind e (Some osil) (Some osol) (Some ospl) called a b c = (record { named = called; are = record { osil = sym a; osol = sym b; ospl = sym c } }, tt)

other_nodes : (ns : Nodes) (name : List ℕ) → element_nodes (Other name) ns ≡ Other name
other_nodes none name = refl
other_nodes (chars text more) name = other_nodes more name
other_nodes (element called as' inside more) name = other_nodes more name

element_answer : (e : Element) (o : Option CallKind) → kind_named e.name ≡ o → OfElement e (call_found (element_nodes (element_of e.name o) e.children))
element_answer e None is =
    subst (λ (f : Found). OfElement e (call_found f)) (sym (other_nodes e.children (told_name e.name))) (tt, (λ k called. none-some k (sym is ∙ (is_named e.name k).1 called), refl))
element_answer e (Some kind) is =
    subst (λ (f : Found). OfElement e (call_found f)) (sym (call_nodes e.children kind nothing_told))
    (parts_answer kind e _ _ _ ((is_named e.name kind).0 is) (part_is Osil kind e) (part_is Osol kind e) (part_is Ospl kind e))

-- ---- the body

-- the call that what is held is, or why there is none
abbrev OfHeld : Option Element → Result SoapCall SoapFault → Type 0
OfHeld o r = IfOk r (λ c. IsSomeAnd o (λ e. IsCall e c)) × IfErr r (λ f. ((f ≡ faults.Envelope) × (o ≡ None)) ⊎ IsSomeAnd o (λ e. IsElementRefused e f))

some_held : (e : Element) (r : Result SoapCall SoapFault) → OfElement e r → OfHeld (Some e) r
some_held e (Ok c) is = (is.0, tt)
some_held e (Err f) is = (tt, inr is.1)

none_held : (f : Found) → f ≡ NoEnvelope → OfHeld None (call_found f)
none_held f is = subst (λ (x : Found). OfHeld None (call_found x)) (sym is) (tt, inl (refl, refl))

no_element_nodes : (ns : Nodes) → element_nodes NoEnvelope ns ≡ NoEnvelope
no_element_nodes none = refl
no_element_nodes (chars text more) = no_element_nodes more
no_element_nodes (element called as' inside more) = no_element_nodes more

abbrev body_elements : Found → List Element → Found
body_elements f [] = f
body_elements f (e ∷ es) = body_elements (element_nodes (element_begun (element_named e.name) f) e.children) es

body_is : (ns : Nodes) (f : Found) → body_nodes f ns ≡ body_elements f (child_elements ns)
body_is none f = refl
body_is (chars text more) f = body_is more f
body_is (element name as' inside more) f = body_is more (element_nodes (element_begun (element_named name) f) inside)

no_body_elements : (es : List Element) → body_elements NoEnvelope es ≡ NoEnvelope
no_body_elements [] = refl
no_body_elements (e ∷ es) = ap (λ (f : Found). body_elements f es) (no_element_nodes e.children) ∙ no_body_elements es

-- behind an element another one, or another body, is no envelope
second_element : (ns : Nodes) (name : List ℕ) (o : Option CallKind) (e : Found) → element_begun e (element_nodes (element_of name o) ns) ≡ NoEnvelope
second_element ns name None e = ap (element_begun e) (other_nodes ns (told_name name))
second_element ns name (Some kind) e = ap (element_begun e) (call_nodes ns kind nothing_told)

second_body : (ns : Nodes) (name : List ℕ) (o : Option CallKind) → body_begun (element_nodes (element_of name o) ns) ≡ NoEnvelope
second_body ns name None = ap body_begun (other_nodes ns (told_name name))
second_body ns name (Some kind) = ap body_begun (call_nodes ns kind nothing_told)

several_elements : (e f : Element) (es : List Element) → body_elements NoElement (e ∷ f ∷ es) ≡ NoEnvelope
several_elements e f es =
    ap (λ (x : Found). body_elements (element_nodes x f.children) es) (second_element e.children e.name (kind_named e.name) (element_named f.name)) ∙ no_body_elements (f ∷ es)

elements_held : (es : List Element) → OfHeld (only_one es) (call_found (body_elements NoElement es))
elements_held [] = (tt, inl (refl, refl))
elements_held (e ∷ []) = some_held e (call_found (element_nodes (element_named e.name) e.children)) (element_answer e (kind_named e.name) refl)
elements_held (e ∷ f ∷ es) = none_held (body_elements NoElement (e ∷ f ∷ es)) (several_elements e f es)

body_held : (b : Element) → OfHeld (only_element b) (call_found (body_nodes NoElement b.children))
body_held b = subst (λ (f : Found). OfHeld (only_element b) (call_found f)) (sym (body_is b.children NoElement)) (elements_held (child_elements b.children))

-- ---- the envelope

no_body_nodes : (ns : Nodes) → body_nodes NoEnvelope ns ≡ NoEnvelope
no_body_nodes ns = body_is ns NoEnvelope ∙ no_body_elements (child_elements ns)

behind_elements : (es : List Element) → body_begun (body_elements NoElement es) ≡ NoEnvelope
behind_elements [] = refl
behind_elements (e ∷ []) = second_body e.children e.name (kind_named e.name)
behind_elements (e ∷ f ∷ es) = ap body_begun (several_elements e f es)

behind_body : (ns : Nodes) → body_begun (body_nodes NoElement ns) ≡ NoEnvelope
behind_body ns = ap body_begun (body_is ns NoElement) ∙ behind_elements (child_elements ns)

abbrev envelope_bodies : Found → List Element → Found
envelope_bodies f [] = f
envelope_bodies f (b ∷ bs) = envelope_bodies (body_nodes (body_begun f) b.children) bs

one_of_envelope : (is : Bool) (f : Found) (e : Element) (more : List Element) → envelope_bodies (envelope_child is f e.children) more ≡ envelope_bodies f (cond is (e ∷ more) more)
one_of_envelope true f e more = refl
one_of_envelope false f e more = refl

envelope_is : (ns : Nodes) (f : Found) → envelope_nodes f ns ≡ envelope_bodies f (named (codes "Body") (child_elements ns))
envelope_is none f = refl
envelope_is (chars text more) f = envelope_is more f
envelope_is (element name as' inside more) f =
    envelope_is more (envelope_child (bytes_eq name (codes "Body")) f inside)
    ∙ one_of_envelope (bytes_eq name (codes "Body")) f (record { name = name; attributes = as'; children = inside }) (named (codes "Body") (child_elements more))

no_bodies : (bs : List Element) → envelope_bodies NoEnvelope bs ≡ NoEnvelope
no_bodies [] = refl
no_bodies (b ∷ bs) = ap (λ (f : Found). envelope_bodies f bs) (no_body_nodes b.children) ∙ no_bodies bs

bodies_held : (bs : List Element) → OfHeld (held_in (only_one bs)) (call_found (envelope_bodies NoBody bs))
bodies_held [] = (tt, inl (refl, refl))
bodies_held (b ∷ []) = body_held b
bodies_held (b ∷ c ∷ bs) =
    none_held (envelope_bodies NoBody (b ∷ c ∷ bs)) (ap (λ (f : Found). envelope_bodies (body_nodes f c.children) bs) (behind_body b.children) ∙ no_bodies (c ∷ bs))

root_held : (ns : Nodes) (is : Bool) → OfHeld (cond is (held_in (only_one (named (codes "Body") (child_elements ns)))) None) (call_found (envelope_nodes (cond is NoBody NoEnvelope) ns))
root_held ns true = subst (λ (f : Found). OfHeld (held_in (only_one (named (codes "Body") (child_elements ns)))) (call_found f)) (sym (envelope_is ns NoBody)) (bodies_held (named (codes "Body") (child_elements ns)))
root_held ns false = none_held (envelope_nodes NoEnvelope ns) (envelope_is ns NoEnvelope ∙ no_bodies (named (codes "Body") (child_elements ns)))

-- what is found in a document is the call in it, or why there is none
pub root_says : (root : Element) (f : Found) → FindsIn root f → OfHeld (held root) (call_found f)
root_says root f is = subst (λ (x : Found). OfHeld (held root) (call_found x)) (sym (is ∙ root_left root)) (root_held root.children (bytes_eq root.name (codes "Envelope")))

ok_says : (bytes : List ℕ) (root : Element) (r : Result SoapCall SoapFault) → IsDocument bytes root → OfHeld (held root) r → IfOk r (IsCallText bytes)
ok_says bytes root (Ok c) document says = record { root = root; document = document; is = says.0 }
ok_says bytes root (Err f) document says = tt

err_says : (bytes : List ℕ) (root : Element) (r : Result SoapCall SoapFault) → IsDocument bytes root → OfHeld (held root) r → IfErr r (CallFails bytes)
err_says bytes root (Ok c) document says = tt
err_says bytes root (Err f) document says = inr (inr (record { root = root; document = document; is = says.1 }))

pub found_says : (bytes : List ℕ) (f : Found) (r : Result SoapCall SoapFault) → r ≡ call_found f → OfDocument FindsIn bytes f → IfOk r (IsCallText bytes)
found_says bytes f r is finds = subst (λ (x : Result SoapCall SoapFault). IfOk x (IsCallText bytes)) (sym is) (ok_says bytes finds.root (call_found f) finds.document (root_says finds.root f finds.is))

pub found_fails : (bytes : List ℕ) (f : Found) (r : Result SoapCall SoapFault) → r ≡ call_found f → OfDocument FindsIn bytes f → IfErr r (CallFails bytes)
found_fails bytes f r is finds = subst (λ (x : Result SoapCall SoapFault). IfErr x (CallFails bytes)) (sym is) (err_says bytes finds.root (call_found f) finds.document (root_says finds.root f finds.is))
