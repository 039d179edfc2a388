-- How long the text of nodes is at most.
use Rattle.std.proofs.Common.{ℕ, zero, suc, ◌+◌, ◌*◌, ◌/◌, ◌%◌, ◌≤◌, ◌==◌, Bool, true, false, cond, List, [], ◌∷◌, ◌++◌, length, length-append, arith}
use Rattle.std.specs.Prelude.{flat_map, decimal}
use Rattle.std.specs.Fmt.{digits, digits_onto, digit_glyph}
use Rattle.tree_grammar.specs.Elements.{Attribute, Nodes, none, element, chars, Element}
use Rattle.document_tags.specs.Writing.{text_nodes}
use Rattle.tree_grammar.specs.WrittenText.{escaped_char, escaped_value_char, escaped, escaped_value, written_attributes, children_begin, children_end, written_nodes, written_element, written_declaration, written}

onto_by : (b : Bool) (one more : List ℕ) (n : ℕ) → length one ≤ n → length more ≤ n → length (cond b one more) ≤ n
onto_by true one more n h k = h
onto_by false one more n h k = k

onto_size : (k n : ℕ) (acc : List ℕ) → length (digits_onto k 10 false n acc) ≤ k + length acc
onto_size zero n acc = omega arith
onto_size (suc k) n acc =
    let rest = onto_size k (n / 10) (digit_glyph false (n % 10) ∷ acc) in
    onto_by (n / 10 == 0) (digit_glyph false (n % 10) ∷ acc) (digits_onto k 10 false (n / 10) (digit_glyph false (n % 10) ∷ acc)) (suc k + length acc) (omega arith) (omega (arith, rest))

-- a number has at most 64 digits
pub decimal_size : (n : ℕ) → length (decimal n) ≤ 64
unfolding digits
decimal_size n = onto_size 64 n []

one_of : (b : Bool) (n : ℕ) (xs ys : List ℕ) → length xs ≤ n → length ys ≤ n → length (cond b xs ys) ≤ n
one_of true n xs ys h k = h
one_of false n xs ys h k = k

char_size : (c : ℕ) → length (escaped_char c) ≤ 6
char_size c =
    one_of (c == 38) 6 _ _ (omega arith) (one_of (c == 60) 6 _ _ (omega arith) (one_of (c == 62) 6 _ _ (omega arith) (one_of (c == 13) 6 _ (c ∷ []) (omega arith) (omega arith))))

value_char_size : (c : ℕ) → length (escaped_value_char c) ≤ 6
value_char_size c =
    one_of (c == 34) 6 _ _ (omega arith) (one_of (c == 9) 6 _ _ (omega arith) (one_of (c == 10) 6 _ (escaped_char c) (omega arith) (char_size c)))

flat_size : (f : ℕ → List ℕ) → ((c : ℕ) → length (f c) ≤ 6) → (text : List ℕ) → length (flat_map f text) ≤ 6 * length text
flat_size f small [] = omega arith
flat_size f small (c ∷ cs) =
    let one = small c in
    let rest = flat_size f small cs in
    omega (arith, one, rest, length-append (f c) (flat_map f cs))

-- at most so many bytes
abbrev pub attributes_size : List Attribute → ℕ
attributes_size [] = 0
attributes_size (a ∷ more) = 4 + length a.name + 6 * length a.value + attributes_size more

abbrev pub nodes_size : Nodes → ℕ
nodes_size none = 0
nodes_size (element name attributes children more) = 5 + 2 * length name + attributes_size attributes + nodes_size children + nodes_size more
nodes_size (chars text more) = 6 * length text + nodes_size more

pub text_size : (text : List ℕ) → nodes_size (text_nodes text) ≤ 6 * length text
text_size [] = omega arith
text_size (c ∷ cs) = omega arith

attributes_short : (attributes : List Attribute) (k : List ℕ) → length (written_attributes attributes k) ≤ attributes_size attributes + length k
attributes_short [] k = omega arith
attributes_short (a ∷ more) k =
    let rest = attributes_short more k in
    let value = flat_size escaped_value_char value_char_size a.value in
    omega (arith, rest, value, length-append a.name (61 ∷ 34 ∷ (escaped_value a.value ++ (34 ∷ written_attributes more k))), length-append (escaped_value a.value) (34 ∷ written_attributes more k))

begin_short : (children : Nodes) (k : List ℕ) → length (children_begin children k) ≤ 1 + length k
begin_short none k = omega arith
begin_short (element name attributes children more) k = omega arith
begin_short (chars text more) k = omega arith

end_short : (children : Nodes) (name k : List ℕ) → length (children_end children name k) ≤ 3 + length name + length k
end_short none name k = omega arith
end_short (element n attributes children more) name k = omega (arith, length-append name (62 ∷ k))
end_short (chars text more) name k = omega (arith, length-append name (62 ∷ k))

nodes_short : (nodes : Nodes) (k : List ℕ) → length (written_nodes nodes k) ≤ nodes_size nodes + length k
nodes_short none k = omega arith
nodes_short (element name attributes children more) k =
    let behind = written_nodes more k in
    let last = children_end children name behind in
    let inside = written_nodes children last in
    let a = nodes_short more k in
    let b = end_short children name behind in
    let c = nodes_short children last in
    let d = begin_short children inside in
    let e = attributes_short attributes (children_begin children inside) in
    omega (arith, a, b, c, d, e, length-append name (written_attributes attributes (children_begin children inside)))
nodes_short (chars text more) k =
    let rest = nodes_short more k in
    let first = flat_size escaped_char char_size text in
    omega (arith, rest, first, length-append (escaped text) (written_nodes more k))

-- so is the text of an element
pub written_short : (e : Element) → length (written e) ≤ 43 + 2 * length e.name + attributes_size e.attributes + nodes_size e.children
written_short e =
    let all = nodes_short (element e.name e.attributes e.children none) [] in
    omega (arith, all, length-append written_declaration (written_element e))
