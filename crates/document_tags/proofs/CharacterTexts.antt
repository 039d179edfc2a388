-- A document's names, values and texts are of characters of XML.
use Rattle.std.proofs.Common.{◌≡◌, ℕ, ◌<◌, inl, inr, ◌==◌, Bool, true, false, cond, List, [], ◌∷◌, ◌++◌, refl, ap, sym, subst, arith, append-nil, lit<, lit≤}
use Rattle.std.specs.Prelude.{codes}
use Rattle.std.specs.Str.Parse.{digits_value}
use Rattle.tree_grammar.specs.Characters.{Each, Some1, IsXmlChar, IsXmlText, IsSpace, IsQName, behind_colon, local_part, Reference, reference_text, named, decimal, hexadecimal, amp, lt, gt, quot, apos, reference_chars}
use Rattle.tree_grammar.specs.Tags.{IsQuote, Equals, equals_text, Value, value_over, value_plain, value_white, value_reference, value_text, value_chars, Attributes, no_attribute, attribute, attributes_text, attribute_list, is_kept, Tag, tag_text}
use Rattle.tree_grammar.specs.Elements.{Attribute, Nodes, none, element, chars, Element}
use Rattle.tree_grammar.specs.Content.{Comment, comment_over, comment_plain, comment_dash, comment_text, Instruction, bare, with_text, instruction_text, Content, nothing, char, reference, section, comment, instruction, empty, nested, content_text, content_nodes, end_text, put_char, put_chars, Body, closed, opened, body_text, body_nodes, Misc, misc_over, misc_space, misc_comment, misc_instruction, misc_text}
use Rattle.tree_grammar.specs.Declaration.{Declaration, no_declaration, declared, declaration_text, Encoding, no_encoding, encoded, encoding_text, Standalone, no_standalone, standing, standalone_text, Version, version_text}
use Rattle.tree_grammar.specs.Document.{Document, document_text, document_element, mark_text, Doc}
use Rattle.tree_grammar.proofs.XmlTexts.{Printable, qname_printable, list_printable, text_append}
use Rattle.document_tags.specs.Characters.{AttributesOfCharacters, NodesOfCharacters, IsOfCharacters}
use Rattle.document_tags.specs.Elements.{characters, own_text}
use Rattle.document_tags.proofs.PrintableTexts.{printable_text}
use Rattle.doc_tree.proofs.Utf8.{no_text}
use Rattle.document_tags.proofs.TextCuts.{cut, char_text, low_text, behind_one, behind_printable, behind_space, low_space, one_more, one_less, lines_text}

low_quote : (c : ℕ) → IsQuote c → c < 128
low_quote c (inl e) = omega arith
low_quote c (inr e) = omega arith

-- what stands behind each part of a document's text is such a text
reference_behind : (r : Reference) (k : List ℕ) → IsXmlText (reference_text r k) → IsXmlText k
reference_behind (named amp) k text = (cut (codes "amp") 59 k (lit< tt) text).behind_it
reference_behind (named lt) k text = (cut (codes "lt") 59 k (lit< tt) text).behind_it
reference_behind (named gt) k text = (cut (codes "gt") 59 k (lit< tt) text).behind_it
reference_behind (named quot) k text = (cut (codes "quot") 59 k (lit< tt) text).behind_it
reference_behind (named apos) k text = (cut (codes "apos") 59 k (lit< tt) text).behind_it
reference_behind (decimal digits n c) k text = (cut (35 ∷ digits) 59 k (lit< tt) text).behind_it
reference_behind (hexadecimal digits n c) k text = (cut (35 ∷ 120 ∷ digits) 59 k (lit< tt) text).behind_it

plain_char : (c : ℕ) → Printable c → IsXmlChar c
plain_char c is = let l = is.0 in let h = is.1 in inr (inr (inr (inl (l, omega (arith, h)))))

plain_text : (c : ℕ) → Printable c → IsXmlText (c ∷ [])
plain_text c is = low_text c is.1 (plain_char c is)

reference_is : (r : Reference) → IsXmlText (reference_chars r)
reference_is (named amp) = plain_text 38 (lit≤ tt, lit< tt)
reference_is (named lt) = plain_text 60 (lit≤ tt, lit< tt)
reference_is (named gt) = plain_text 62 (lit≤ tt, lit< tt)
reference_is (named quot) = plain_text 34 (lit≤ tt, lit< tt)
reference_is (named apos) = plain_text 39 (lit≤ tt, lit< tt)
reference_is (decimal digits n c) = char_text (digits_value 10 digits) c
reference_is (hexadecimal digits n c) = char_text (digits_value 16 digits) c

comment_behind : (t : Comment) (before k : List ℕ) → IsXmlText (before ++ comment_text t k) → IsXmlText k
comment_behind comment_over before k text = behind_one 62 k (lit< tt) (behind_one 45 (62 ∷ k) (lit< tt) (cut before 45 (45 ∷ 62 ∷ k) (lit< tt) text).behind_it)
comment_behind (comment_plain c o t) before k text = comment_behind t (before ++ (c ∷ [])) k (one_more before c (comment_text t k) text)
comment_behind (comment_dash c o t) before k text = comment_behind t (c ∷ []) k (cut before 45 (c ∷ comment_text t k) (lit< tt) text).behind_it

instruction_behind : (i : Instruction) (k : List ℕ) → IsXmlText (instruction_text i k) → IsXmlText k
instruction_behind (bare name is x) k text = behind_one 62 k (lit< tt) (cut name 63 (62 ∷ k) (lit< tt) text).behind_it
instruction_behind (with_text name is x c s inside t) k text =
    behind_one 62 k (lit< tt) (cut inside 63 (62 ∷ k) (lit< tt) (cut name c (inside ++ (63 ∷ 62 ∷ k)) (low_space c s) text).behind_it).behind_it

-- behind `=` and the character that follows
equals_behind : (e : Equals) (c : ℕ) (k : List ℕ) → c < 128 → IsXmlText (equals_text e (c ∷ k)) → IsXmlText k
equals_behind e c k low text = (cut e.after c k low (cut e.before 61 (e.after ++ (c ∷ k)) (lit< tt) text).behind_it).behind_it

-- what a value says behind this much of it, and what stands behind it
value_on : {quote : ℕ} (v : Value quote) (before k : List ℕ) → quote < 128 → IsXmlText (before ++ value_text v k) → IsXmlText (before ++ value_chars v) × IsXmlText k
value_on {quote} value_over before k low text = let parts = cut before quote k low text in (subst IsXmlText (sym (append-nil before)) parts.before_it, parts.behind_it)
value_on {quote} (value_plain c q l a s more) before k low text =
    let rest = value_on more (before ++ (c ∷ [])) k low (one_more before c (value_text more k) text) in
    (one_less before c (value_chars more) rest.0, rest.1)
value_on {quote} (value_white c s more) before k low text =
    let parts = cut before c (value_text more k) (low_space c s) text in
    let rest = value_on more [] k low parts.behind_it in
    (text_append before (32 ∷ value_chars more) parts.before_it (text_append (32 ∷ []) (value_chars more) (plain_text 32 (lit≤ tt, lit< tt)) rest.0), rest.1)
value_on {quote} (value_reference r more) before k low text =
    let parts = cut before 38 (reference_text r (value_text more k)) (lit< tt) text in
    let rest = value_on more [] k low (reference_behind r (value_text more k) parts.behind_it) in
    (text_append before (reference_chars r ++ value_chars more) parts.before_it (text_append (reference_chars r) (value_chars more) (reference_is r) rest.0), rest.1)

kept_of : (b : Bool) (a : Attribute) (more : List Attribute) → IsXmlText a.name → IsXmlText a.value → AttributesOfCharacters more → AttributesOfCharacters (cond b (a ∷ more) more)
kept_of true a more name value rest = (name, value, rest)
kept_of false a more name value rest = rest

attributes_on : (list : Attributes) (k : List ℕ) → IsXmlText (attributes_text list k) → AttributesOfCharacters (attribute_list list) × IsXmlText k
attributes_on no_attribute k text = (tt, text)
attributes_on (attribute [] name s is e quote q v more) k text = absurd s
attributes_on (attribute (c ∷ space) name s is e quote q v more) k text =
    let low = low_quote quote q in
    let name_on = behind_space space _ s.1 (behind_one c _ (low_space c s.0) text) in
    let value = value_on v [] (attributes_text more k) low (equals_behind e quote (value_text v (attributes_text more k)) low (behind_printable name _ (qname_printable name is) name_on)) in
    let rest = attributes_on more k value.1 in
    (kept_of (is_kept name) (record { name = name; value = value_chars v }) (attribute_list more) (printable_text name (qname_printable name is)) value.0 rest.0, rest.1)

tag_on : (t : Tag) (k : List ℕ) → IsXmlText (tag_text t k) → AttributesOfCharacters (attribute_list t.attributes) × IsXmlText k
tag_on t k text =
    let attributes = attributes_on t.attributes (t.space ++ k) (behind_printable t.name _ (qname_printable t.name t.named) text) in
    (attributes.0, behind_space t.space k t.spaced attributes.1)

end_behind : (name space k : List ℕ) → IsQName name → Each IsSpace space → IsXmlText (end_text name space k) → IsXmlText k
end_behind name space k is spaced text =
    behind_one 62 k (lit< tt) (behind_space space _ spaced (behind_printable name _ (qname_printable name is) (behind_one 47 _ (lit< tt) (behind_one 60 _ (lit< tt) text))))

colon_printable : (whole rest : List ℕ) → Each Printable whole → Each Printable rest → Each Printable (behind_colon whole rest)
colon_printable whole [] is h = is
colon_printable whole (c ∷ cs) is h = each_of (c == 58) cs (behind_colon whole cs) h.1 (colon_printable whole cs is h.1)
  where
    each_of : (b : Bool) (xs ys : List ℕ) → Each Printable xs → Each Printable ys → Each Printable (cond b xs ys)
    each_of true xs ys h k = h
    each_of false xs ys h k = k

local_text : (t : Tag) → IsXmlText (local_part t.name)
local_text t = let is = qname_printable t.name t.named in printable_text (local_part t.name) (colon_printable t.name t.name is is)

-- characters before nodes
put_more : (cs : List ℕ) (c : ℕ) (nodes : Nodes) → put_chars (cs ++ (c ∷ [])) nodes ≡ put_chars cs (put_char c nodes)
put_more [] c nodes = refl
put_more (d ∷ ds) c nodes = ap (put_char d) (put_more ds c nodes)

put_none : (c : ℕ) (cs : List ℕ) → put_chars (c ∷ cs) none ≡ chars (c ∷ cs) none
put_none c [] = refl
put_none c (d ∷ ds) = ap (put_char c) (put_none d ds)

put_element : (c : ℕ) (cs name : List ℕ) (attributes : List Attribute) (children more : Nodes) → put_chars (c ∷ cs) (element name attributes children more) ≡ chars (c ∷ cs) (element name attributes children more)
put_element c [] name attributes children more = refl
put_element c (d ∷ ds) name attributes children more = ap (put_char c) (put_element d ds name attributes children more)

put_text : (cs text : List ℕ) (more : Nodes) → put_chars cs (chars text more) ≡ chars (cs ++ text) more
put_text [] text more = refl
put_text (c ∷ cs) text more = ap (put_char c) (put_text cs text more)

put_on : (cs : List ℕ) (nodes : Nodes) → IsXmlText cs → NodesOfCharacters nodes → NodesOfCharacters (put_chars cs nodes)
put_on [] nodes text is = is
put_on (c ∷ cs) none text is = subst NodesOfCharacters (sym (put_none c cs)) (text, tt)
put_on (c ∷ cs) (element name attributes children more) text is = subst NodesOfCharacters (sym (put_element c cs name attributes children more)) (text, is)
put_on (c ∷ cs) (chars run more) text is = subst NodesOfCharacters (sym (put_text (c ∷ cs) run more)) (text_append (c ∷ cs) run text is.0, is.1)

-- the content's nodes behind these characters, and the end tag behind it
content_on : (inner : Content) (before k : List ℕ) → IsXmlText (before ++ content_text inner (60 ∷ k)) → NodesOfCharacters (put_chars before (content_nodes inner)) × IsXmlText (60 ∷ k)
content_on nothing before k text = let parts = cut before 60 k (lit< tt) text in (put_on before none parts.before_it tt, parts.from_it)
content_on (char c l a more) before k text =
    let rest = content_on more (before ++ (c ∷ [])) k (one_more before c (content_text more (60 ∷ k)) text) in
    (subst NodesOfCharacters (put_more before c (content_nodes more)) rest.0, rest.1)
content_on (reference r more) before k text =
    let parts = cut before 38 (reference_text r (content_text more (60 ∷ k))) (lit< tt) text in
    let rest = content_on more [] k (reference_behind r (content_text more (60 ∷ k)) parts.behind_it) in
    (put_on before _ parts.before_it (put_on (reference_chars r) (content_nodes more) (reference_is r) rest.0), rest.1)
content_on (section run t more) before k text =
    let behind = content_text more (60 ∷ k) in
    let parts = cut before 60 (codes "![CDATA[" ++ (run ++ (93 ∷ 93 ∷ 62 ∷ behind))) (lit< tt) text in
    let inside = cut run 93 (93 ∷ 62 ∷ behind) (lit< tt) (behind_printable (codes "![CDATA[") (run ++ (93 ∷ 93 ∷ 62 ∷ behind)) (list_printable (codes "![CDATA[") refl) parts.behind_it) in
    let rest = content_on more [] k (behind_one 62 behind (lit< tt) (behind_one 93 (62 ∷ behind) (lit< tt) inside.behind_it)) in
    (put_on before _ parts.before_it (put_on run (content_nodes more) inside.before_it rest.0), rest.1)
content_on (comment t more) before k text =
    let parts = cut before 60 (33 ∷ 45 ∷ 45 ∷ comment_text t (content_text more (60 ∷ k))) (lit< tt) text in
    let rest = content_on more [] k (comment_behind t (33 ∷ 45 ∷ 45 ∷ []) (content_text more (60 ∷ k)) parts.behind_it) in
    (put_on before _ parts.before_it rest.0, rest.1)
content_on (instruction i more) before k text =
    let parts = cut before 60 (63 ∷ instruction_text i (content_text more (60 ∷ k))) (lit< tt) text in
    let rest = content_on more [] k (instruction_behind i (content_text more (60 ∷ k)) (behind_one 63 _ (lit< tt) parts.behind_it)) in
    (put_on before _ parts.before_it rest.0, rest.1)
content_on (empty t more) before k text =
    let behind = content_text more (60 ∷ k) in
    let parts = cut before 60 (tag_text t (47 ∷ 62 ∷ behind)) (lit< tt) text in
    let tag = tag_on t (47 ∷ 62 ∷ behind) parts.behind_it in
    let rest = content_on more [] k (behind_one 62 behind (lit< tt) (behind_one 47 (62 ∷ behind) (lit< tt) tag.1)) in
    (put_on before _ parts.before_it (local_text t, tag.0, tt, rest.0), rest.1)
content_on (nested t inner space s more) before k text =
    let behind = content_text more (60 ∷ k) in
    let ended = end_text t.name space behind in
    let parts = cut before 60 (tag_text t (62 ∷ content_text inner ended)) (lit< tt) text in
    let tag = tag_on t (62 ∷ content_text inner ended) parts.behind_it in
    let inside = content_on inner [] (47 ∷ (t.name ++ (space ++ (62 ∷ behind)))) (behind_one 62 _ (lit< tt) tag.1) in
    let rest = content_on more [] k (end_behind t.name space behind t.named s inside.1) in
    (put_on before _ parts.before_it (local_text t, tag.0, inside.0, rest.0), rest.1)

body_on : (b : Body) (name k : List ℕ) → IsXmlText (body_text b name k) → NodesOfCharacters (body_nodes b)
body_on closed name k text = tt
body_on (opened inner space s) name k text = (content_on inner [] (47 ∷ (name ++ (space ++ (62 ∷ k)))) (behind_one 62 _ (lit< tt) text)).0

-- up to the root, whatever stands before
misc_behind : (m : Misc) (before k : List ℕ) → IsXmlText (before ++ misc_text m (60 ∷ k)) → IsXmlText k
misc_behind misc_over before k text = (cut before 60 k (lit< tt) text).behind_it
misc_behind (misc_space c s more) before k text = misc_behind more [] k (cut before c (misc_text more (60 ∷ k)) (low_space c s) text).behind_it
misc_behind (misc_comment t more) before k text =
    let parts = cut before 60 (33 ∷ 45 ∷ 45 ∷ comment_text t (misc_text more (60 ∷ k))) (lit< tt) text in
    misc_behind more [] k (comment_behind t (33 ∷ 45 ∷ 45 ∷ []) (misc_text more (60 ∷ k)) parts.behind_it)
misc_behind (misc_instruction i more) before k text =
    let parts = cut before 60 (63 ∷ instruction_text i (misc_text more (60 ∷ k))) (lit< tt) text in
    misc_behind more [] k (instruction_behind i (misc_text more (60 ∷ k)) (behind_one 63 _ (lit< tt) parts.behind_it))

-- behind a word, `=` and a quoted value
quoted_behind : (word : List ℕ) → Each Printable word → (e : Equals) (quote : ℕ) → IsQuote quote → (value k : List ℕ) → IsXmlText (word ++ equals_text e (quote ∷ (value ++ (quote ∷ k)))) → IsXmlText k
quoted_behind word is e quote q value k text =
    let low = low_quote quote q in
    (cut value quote k low (equals_behind e quote (value ++ (quote ∷ k)) low (behind_printable word _ is text))).behind_it

spaces : (xs : List ℕ) → Some1 IsSpace xs → Each IsSpace xs
spaces [] h = absurd h
spaces (x ∷ xs) h = h

version_behind : (v : Version) (k : List ℕ) → IsXmlText (version_text v k) → IsXmlText k
version_behind v k text = quoted_behind (codes "version") (list_printable (codes "version") refl) v.equals v.quote v.quoted (49 ∷ 46 ∷ v.digits) k (behind_space v.space _ (spaces v.space v.spaced) text)

encoding_behind : (e : Encoding) (k : List ℕ) → IsXmlText (encoding_text e k) → IsXmlText k
encoding_behind no_encoding k text = text
encoding_behind (encoded space s e quote q name is) k text = quoted_behind (codes "encoding") (list_printable (codes "encoding") refl) e quote q name k (behind_space space _ (spaces space s) text)

standalone_behind : (a : Standalone) (k : List ℕ) → IsXmlText (standalone_text a k) → IsXmlText k
standalone_behind no_standalone k text = text
standalone_behind (standing space s e quote q word w) k text = quoted_behind (codes "standalone") (list_printable (codes "standalone") refl) e quote q word k (behind_space space _ (spaces space s) text)

declaration_behind : (d : Declaration) (before k : List ℕ) → IsXmlText (before ++ declaration_text d k) → (b : List ℕ) × IsXmlText (b ++ k)
declaration_behind no_declaration before k text = (before, text)
declaration_behind (declared v e a space sp) before k text =
    let last = 63 ∷ 62 ∷ k in
    let parts = cut before 60 (codes "?xml" ++ version_text v (encoding_text e (standalone_text a (space ++ last)))) (lit< tt) text in
    let first = behind_printable (codes "?xml") (version_text v (encoding_text e (standalone_text a (space ++ last)))) (list_printable (codes "?xml") refl) parts.behind_it in
    let gap = standalone_behind a (space ++ last) (encoding_behind e _ (version_behind v _ first)) in
    ([], behind_one 62 k (lit< tt) (cut space 63 (62 ∷ k) (lit< tt) gap).behind_it)

mark_behind : (b : Bool) (k : List ℕ) → IsXmlText (mark_text b k) → (before : List ℕ) × IsXmlText (before ++ k)
mark_behind false k text = ([], text)
mark_behind true k text = (239 ∷ 187 ∷ 191 ∷ [], text)

document_on : (d : Document) → IsXmlText (document_text d) → IsOfCharacters (document_element d)
document_on d text =
    let rest = body_text d.body d.tag.name (misc_text d.after []) in
    let root = 60 ∷ tag_text d.tag rest in
    let mark = mark_behind d.mark (declaration_text d.declaration (misc_text d.before root)) text in
    let declaration = declaration_behind d.declaration mark.0 (misc_text d.before root) mark.1 in
    let tag = tag_on d.tag rest (misc_behind d.before declaration.0 (tag_text d.tag rest) declaration.1) in
    record { name = local_text d.tag; attributes = tag.0; children = body_on d.body d.tag.name (misc_text d.after []) tag.1 }

-- all of a document
pub document_of : (bytes : List ℕ) (root : Element) → Doc bytes root → IsOfCharacters root
document_of bytes root doc = subst IsOfCharacters (sym doc.says) (document_on doc.document (subst IsXmlText doc.text (lines_text [] bytes doc.characters)))

-- an element's own text
characters_of : (nodes : Nodes) → NodesOfCharacters nodes → IsXmlText (characters nodes)
characters_of none is = no_text
characters_of (element name attributes children more) is = characters_of more is.3
characters_of (chars text more) is = text_append text (characters more) is.0 (characters_of more is.1)

pub own_of : (e : Element) → IsOfCharacters e → IsXmlText (own_text e)
own_of e is = characters_of e.children is.children
