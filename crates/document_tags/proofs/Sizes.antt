-- A document has more bytes than elements.
use Rattle.std.proofs.Common.{◌≡◌, ◌∙◌, ℕ, suc, ◌+◌, ◌<◌, ◌≤◌, ◌==◌, Bool, true, false, cond, List, [], ◌∷◌, ◌++◌, length, refl, ap, arith}
use Rattle.std.specs.Prelude.{codes}
use Rattle.std.proofs.lemmas.List.{length-append}
use Rattle.tree_grammar.specs.Characters.{normal_lines, begins_with_line_feed, Reference, reference_text, named, decimal, hexadecimal, Entity, entity_text, amp, lt, gt, quot, apos, reference_chars}
use Rattle.tree_grammar.specs.Tags.{Equals, equals_text, Value, value_over, value_plain, value_white, value_reference, value_text, Attributes, no_attribute, attribute, attributes_text, Tag, tag_text}
use Rattle.tree_grammar.specs.Elements.{Nodes, none, element, chars, Element}
use Rattle.tree_grammar.specs.Content.{Comment, comment_over, comment_plain, comment_dash, comment_text, Instruction, bare, with_text, instruction_text, Content, nothing, char, reference, section, comment, instruction, empty, nested, content_text, content_nodes, end_text, put_char, put_chars, Body, closed, opened, body_text, body_nodes, Misc, misc_over, misc_space, misc_comment, misc_instruction, misc_text}
use Rattle.tree_grammar.specs.Declaration.{Declaration, no_declaration, declared, declaration_text, Encoding, no_encoding, encoded, encoding_text, Standalone, no_standalone, standing, standalone_text, Version, version_text}
use Rattle.tree_grammar.specs.Document.{Document, document_text, document_element, mark_text, Doc}
use Rattle.document_tags.specs.Elements.{elements_in}

-- so many bytes stand behind others
behind : (xs ys : List ℕ) (n : ℕ) → n ≤ length ys → n ≤ length (xs ++ ys)
behind xs ys n few = let e = length-append xs ys in omega (arith, e, few)

entity_behind : (e : Entity) (k : List ℕ) (n : ℕ) → n ≤ length k → n ≤ length (entity_text e k)
entity_behind amp k n few = omega (arith, few)
entity_behind lt k n few = omega (arith, few)
entity_behind gt k n few = omega (arith, few)
entity_behind quot k n few = omega (arith, few)
entity_behind apos k n few = omega (arith, few)

one_more : (m n : ℕ) → n ≤ m → n ≤ suc m
one_more m n few = omega (arith, few)

reference_behind : (r : Reference) (k : List ℕ) (n : ℕ) → n ≤ length k → n ≤ length (reference_text r k)
reference_behind (named e) k n few = entity_behind e k n few
reference_behind (decimal digits d c) k n few = one_more _ n (behind digits (59 ∷ k) n (one_more _ n few))
reference_behind (hexadecimal digits d c) k n few = one_more _ n (one_more _ n (behind digits (59 ∷ k) n (one_more _ n few)))

comment_behind : (t : Comment) (k : List ℕ) (n : ℕ) → n ≤ length k → n ≤ length (comment_text t k)
comment_behind comment_over k n few = omega (arith, few)
comment_behind (comment_plain c o t) k n few = one_more _ n (comment_behind t k n few)
comment_behind (comment_dash c o t) k n few = one_more _ n (one_more _ n (comment_behind t k n few))

instruction_behind : (i : Instruction) (k : List ℕ) (n : ℕ) → n ≤ length k → n ≤ length (instruction_text i k)
instruction_behind (bare name is x) k n few = behind name (63 ∷ 62 ∷ k) n (one_more _ n (one_more _ n few))
instruction_behind (with_text name is x c s text t) k n few = behind name _ n (one_more _ n (behind text (63 ∷ 62 ∷ k) n (one_more _ n (one_more _ n few))))

equals_behind : (e : Equals) (k : List ℕ) (n : ℕ) → n ≤ length k → n ≤ length (equals_text e k)
equals_behind e k n few = behind e.before _ n (one_more _ n (behind e.after k n few))

value_behind : {quote : ℕ} (v : Value quote) (k : List ℕ) (n : ℕ) → n ≤ length k → n ≤ length (value_text v k)
value_behind {quote} value_over k n few = one_more _ n few
value_behind {quote} (value_plain c q l a s more) k n few = one_more _ n (value_behind more k n few)
value_behind {quote} (value_white c s more) k n few = one_more _ n (value_behind more k n few)
value_behind {quote} (value_reference r more) k n few = one_more _ n (reference_behind r _ n (value_behind more k n few))

attributes_behind : (list : Attributes) (k : List ℕ) (n : ℕ) → n ≤ length k → n ≤ length (attributes_text list k)
attributes_behind no_attribute k n few = few
attributes_behind (attribute space name s is e quote q v more) k n few =
    behind space _ n (behind name _ n (equals_behind e _ n (one_more _ n (value_behind v _ n (attributes_behind more k n few)))))

tag_behind : (t : Tag) (k : List ℕ) (n : ℕ) → n ≤ length k → n ≤ length (tag_text t k)
tag_behind t k n few = behind t.name _ n (attributes_behind t.attributes _ n (behind t.space k n few))

end_behind : (name space k : List ℕ) (n : ℕ) → n ≤ length k → n ≤ length (end_text name space k)
end_behind name space k n few = one_more _ n (one_more _ n (behind name _ n (behind space _ n (one_more _ n few))))

misc_behind : (m : Misc) (k : List ℕ) (n : ℕ) → n ≤ length k → n ≤ length (misc_text m k)
misc_behind misc_over k n few = few
misc_behind (misc_space c s more) k n few = one_more _ n (misc_behind more k n few)
misc_behind (misc_comment t more) k n few = let h = comment_behind t _ n (misc_behind more k n few) in omega (arith, h)
misc_behind (misc_instruction i more) k n few = let h = instruction_behind i _ n (misc_behind more k n few) in omega (arith, h)

version_behind : (v : Version) (k : List ℕ) (n : ℕ) → n ≤ length k → n ≤ length (version_text v k)
version_behind v k n few =
    let digits : n ≤ length (v.digits ++ (v.quote ∷ k)) = behind v.digits _ n (one_more _ n few) in
    behind v.space _ n (behind (codes "version") _ n (equals_behind v.equals _ n (omega (arith, digits))))

encoding_behind : (e : Encoding) (k : List ℕ) (n : ℕ) → n ≤ length k → n ≤ length (encoding_text e k)
encoding_behind no_encoding k n few = few
encoding_behind (encoded space s e quote q name is) k n few = behind space _ n (behind (codes "encoding") _ n (equals_behind e _ n (one_more _ n (behind name _ n (one_more _ n few)))))

standalone_behind : (a : Standalone) (k : List ℕ) (n : ℕ) → n ≤ length k → n ≤ length (standalone_text a k)
standalone_behind no_standalone k n few = few
standalone_behind (standing space s e quote q word w) k n few = behind space _ n (behind (codes "standalone") _ n (equals_behind e _ n (one_more _ n (behind word _ n (one_more _ n few)))))

declaration_behind : (d : Declaration) (k : List ℕ) (n : ℕ) → n ≤ length k → n ≤ length (declaration_text d k)
declaration_behind no_declaration k n few = few
declaration_behind (declared v e a space sp) k n few = behind (codes "<?xml") _ n (version_behind v _ n (encoding_behind e _ n (standalone_behind a _ n (behind space _ n (one_more _ n (one_more _ n few))))))

mark_behind : (b : Bool) (k : List ℕ) (n : ℕ) → n ≤ length k → n ≤ length (mark_text b k)
mark_behind false k n few = few
mark_behind true k n few = omega (arith, few)

-- characters are no elements
char_none : (c : ℕ) (nodes : Nodes) → elements_in (put_char c nodes) ≡ elements_in nodes
char_none c none = refl
char_none c (element name attributes children more) = refl
char_none c (chars text more) = refl

chars_none : (cs : List ℕ) (nodes : Nodes) → elements_in (put_chars cs nodes) ≡ elements_in nodes
chars_none [] nodes = refl
chars_none (c ∷ cs) nodes = char_none c (put_chars cs nodes) ∙ chars_none cs nodes

-- each element of the content has a byte of its own
content_behind : (c : Content) (k : List ℕ) (n : ℕ) → n ≤ length k → elements_in (content_nodes c) + n ≤ length (content_text c k)
content_behind nothing k n few = omega (arith, few)
content_behind (char c l a more) k n few = let h = content_behind more k n few in let e = char_none c (content_nodes more) in omega (arith, h, e)
content_behind (reference r more) k n few =
    let h = reference_behind r (content_text more k) (elements_in (content_nodes more) + n) (content_behind more k n few) in
    let e = chars_none (reference_chars r) (content_nodes more) in
    omega (arith, h, e)
content_behind (section text t more) k n few =
    let h = content_behind more k n few in
    let i : elements_in (content_nodes more) + n ≤ length (text ++ (93 ∷ 93 ∷ 62 ∷ content_text more k)) = behind text _ (elements_in (content_nodes more) + n) (omega (arith, h)) in
    let j = behind (codes "<![CDATA[") (text ++ (93 ∷ 93 ∷ 62 ∷ content_text more k)) (elements_in (content_nodes more) + n) i in
    let e = chars_none text (content_nodes more) in
    omega (arith, j, e)
content_behind (comment t more) k n few = let h = comment_behind t (content_text more k) (elements_in (content_nodes more) + n) (content_behind more k n few) in omega (arith, h)
content_behind (instruction i more) k n few = let h = instruction_behind i (content_text more k) (elements_in (content_nodes more) + n) (content_behind more k n few) in omega (arith, h)
content_behind (empty t more) k n few =
    let h = content_behind more k n few in
    let i = tag_behind t (47 ∷ 62 ∷ content_text more k) (elements_in (content_nodes more) + n) (omega (arith, h)) in
    omega (arith, i)
content_behind (nested t inner space s more) k n few =
    let h = end_behind t.name space (content_text more k) (elements_in (content_nodes more) + n) (content_behind more k n few) in
    let i = content_behind inner (end_text t.name space (content_text more k)) (elements_in (content_nodes more) + n) h in
    let j = tag_behind t (62 ∷ content_text inner (end_text t.name space (content_text more k))) (elements_in (content_nodes inner) + (elements_in (content_nodes more) + n)) (omega (arith, i)) in
    omega (arith, j)

body_behind : (b : Body) (name k : List ℕ) → elements_in (body_nodes b) ≤ length (body_text b name k)
body_behind closed name k = omega arith
body_behind (opened inner space s) name k = let h = content_behind inner (end_text name space k) 0 (omega arith) in omega (arith, h)

document_behind : (d : Document) → elements_in (document_element d).children < length (document_text d)
document_behind d =
    let n = elements_in (body_nodes d.body) in
    let rest = body_text d.body d.tag.name (misc_text d.after []) in
    let tag = tag_behind d.tag rest n (body_behind d.body d.tag.name (misc_text d.after [])) in
    mark_behind d.mark _ (suc n) (declaration_behind d.declaration _ (suc n) (misc_behind d.before (60 ∷ tag_text d.tag rest) (suc n) (omega (arith, tag))))

-- normal line ends are no longer
kept_lines : (b : Bool) (xs ys : List ℕ) (n : ℕ) → length xs ≤ n → length ys ≤ n → length (cond b xs ys) ≤ n
kept_lines true xs ys n h k = h
kept_lines false xs ys n h k = k

lines_shorter : (bytes : List ℕ) → length (normal_lines bytes) ≤ length bytes
lines_shorter [] = omega arith
lines_shorter (c ∷ cs) =
    let h = lines_shorter cs in
    kept_lines (c == 13) _ _ (suc (length cs)) (kept_lines (begins_with_line_feed cs) _ _ (suc (length cs)) (omega (arith, h)) (omega (arith, h))) (omega (arith, h))

pub fewer_elements : (bytes : List ℕ) (root : Element) → Doc bytes root → elements_in root.children < length bytes
fewer_elements bytes root doc =
    let h = document_behind doc.document in
    let shorter = lines_shorter bytes in
    let same : length (normal_lines bytes) ≡ length (document_text doc.document) = ap (λ (l : List ℕ). length l) doc.text in
    let says : elements_in root.children ≡ elements_in (document_element doc.document).children = ap (λ (e : Element). elements_in e.children) doc.says in
    omega (arith, h, shorter, same, says)
