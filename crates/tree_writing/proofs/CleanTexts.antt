-- Written texts are texts of XML, without carriage returns.
use Rattle.std.proofs.Common.{◌≡◌, ◌≢◌, ℕ, ◌<◌, ◌≤◌, eqb, ltb, codes, List, [], ◌∷◌, ◌++◌, flat_map, refl, ap, arith, ◌∙◌, sym, subst, append-nil, lit<, lit≤}
use Rattle.std.proofs.lemmas.Bool.{eqb-true, eqb-false, ne_eqb, ltb-true, ltb-false}
use Rattle.std.proofs.lemmas.Str.{encode_ascii}
use Rattle.std.proofs.lemmas.Grind.{flat_map-append}
use Rattle.std.specs.Char.{encode_utf8}
use Rattle.std.specs.Prelude.{encode_utf8_all}
use Rattle.tree_grammar.specs.Characters.{IsXmlChar, IsXmlText, Each, IsQName}
use Rattle.tree_grammar.specs.Elements.{Attribute, Nodes, none, element, chars}
use Rattle.tree_grammar.specs.WrittenText.{escaped_char, escaped, escaped_value_char, escaped_value, written_attributes, children_begin, children_end, written_nodes}
use Rattle.tree_grammar.proofs.XmlTexts.{Clean, clean_append, clean_nothing, clean_one, clean_ascii, qname_printable, clean_fixed, clean_low, high_bytes}
use Rattle.tree_writing.specs.WritableElements.{AreWritable, NodesWritable}
use Rattle.tree_writing.proofs.WrittenParts.{choose, Other, text_plain, value_as_is}

-- A way to write characters: bytes past ASCII as they are, and texts without carriage returns for the others.
pub record Escape (f : ℕ → List ℕ) : Type 0 where
  pub high : (b : ℕ) → 128 ≤ b → f b ≡ b ∷ []
  pub low : (c : ℕ) → c < 128 → IsXmlChar c → Clean (f c)

pub high_kept : (f : ℕ → List ℕ) → Escape f → (bytes : List ℕ) → Each (λ b. 128 ≤ b) bytes → flat_map f bytes ≡ bytes
high_kept f e [] h = refl
high_kept f e (b ∷ bs) h = ap (λ z. z ++ flat_map f bs) (e.high b h.0) ∙ ap (λ z. b ∷ z) (high_kept f e bs h.1)

pub high_lines : (bytes : List ℕ) → Each (λ b. 128 ≤ b) bytes → Each (λ c. c ≢ 13) bytes
high_lines [] h = tt
high_lines (b ∷ bs) h = ((λ e. (let g = h.0 in absurd (omega arith))), high_lines bs h.1)

pub clean_char : (f : ℕ → List ℕ) → Escape f → (c : ℕ) → IsXmlChar c → Clean (flat_map f (encode_utf8 c))
clean_char f e c x =
    choose (ltb c 128)
    (λ t. let low : c < 128 = ltb-true c 128 t in
    subst Clean (sym (append-nil (f c)) ∙ ap (flat_map f) (sym (encode_ascii c low))) (e.low c low x))
    (λ n. let high : 128 ≤ c = ltb-false c 128 n in
    let bytes = high_bytes c high in
    subst Clean (sym (high_kept f e (encode_utf8 c) bytes)) (record {
      text = record { characters = c ∷ []; each = (x, tt); encoded = sym (append-nil (encode_utf8 c)) };
      lines = high_lines (encode_utf8 c) bytes;
    }))

pub clean_chars : (f : ℕ → List ℕ) → Escape f → (cs : List ℕ) → Each IsXmlChar cs → Clean (flat_map f (encode_utf8_all cs))
clean_chars f e [] x = clean_nothing
clean_chars f e (c ∷ cs) x = subst Clean (sym (flat_map-append f (encode_utf8 c) (encode_utf8_all cs))) (clean_append (flat_map f (encode_utf8 c)) (flat_map f (encode_utf8_all cs)) (clean_char f e c x.0) (clean_chars f e cs x.1))

pub clean_escaped : (f : ℕ → List ℕ) → Escape f → (text : List ℕ) → IsXmlText text → Clean (flat_map f text)
clean_escaped f e text t = subst (λ z. Clean (flat_map f z)) (sym t.encoded) (clean_chars f e t.characters t.each)

pub far : (b d : ℕ) → 128 ≤ b → d < 128 → Other b d
far b d h l = ne_eqb b d (λ e. omega arith)

pub text_escape : Escape escaped_char
text_escape = record {
  high = λ b h. text_plain b (far b 38 h (lit< tt)) (far b 60 h (lit< tt)) (far b 62 h (lit< tt)) (far b 13 h (lit< tt));
  low = λ c l x. low_text c l x;
}
  where
    low_text : (c : ℕ) → c < 128 → IsXmlChar c → Clean (escaped_char c)
    low_text c l x =
        let Goal : ℕ → Type 0 = λ z. Clean (escaped_char z) in
        choose (eqb c 38) (λ e. subst Goal (sym (eqb-true c 38 e)) (clean_fixed (codes "&amp;") refl)) (λ a.
        choose (eqb c 60) (λ e. subst Goal (sym (eqb-true c 60 e)) (clean_fixed (codes "&lt;") refl)) (λ b.
        choose (eqb c 62) (λ e. subst Goal (sym (eqb-true c 62 e)) (clean_fixed (codes "&gt;") refl)) (λ d.
        choose (eqb c 13) (λ e. subst Goal (sym (eqb-true c 13 e)) (clean_fixed (codes "&#13;") refl)) (λ e.
        subst Clean (sym (text_plain c a b d e)) (clean_low c l x (eqb-false c 13 e))))))

pub value_escape : Escape escaped_value_char
value_escape = record {
  high = λ b h. value_as_is b (far b 34 h (lit< tt)) (far b 9 h (lit< tt)) (far b 10 h (lit< tt)) (far b 38 h (lit< tt)) (far b 60 h (lit< tt)) (far b 62 h (lit< tt)) (far b 13 h (lit< tt));
  low = λ c l x. low_value c l x;
}
  where
    low_value : (c : ℕ) → c < 128 → IsXmlChar c → Clean (escaped_value_char c)
    low_value c l x =
        let Goal : ℕ → Type 0 = λ z. Clean (escaped_value_char z) in
        choose (eqb c 34) (λ e. subst Goal (sym (eqb-true c 34 e)) (clean_fixed (codes "&quot;") refl)) (λ q.
        choose (eqb c 9) (λ e. subst Goal (sym (eqb-true c 9 e)) (clean_fixed (codes "&#9;") refl)) (λ t.
        choose (eqb c 10) (λ e. subst Goal (sym (eqb-true c 10 e)) (clean_fixed (codes "&#10;") refl)) (λ n.
        subst Clean (sym (rw (q, t, n) refl)) (text_escape.low c l x))))

pub clean_attributes : (list : List Attribute) (k : List ℕ) → AreWritable list → Clean k → Clean (written_attributes list k)
clean_attributes [] k w c = c
clean_attributes (a ∷ more) k w c =
    let rest = clean_attributes more k w.2 c in
    let quoted = clean_append (escaped_value a.value) (34 ∷ written_attributes more k) (clean_escaped escaped_value_char value_escape a.value w.1) (clean_one 34 (written_attributes more k) (lit≤ tt, lit< tt) rest) in
    clean_one 32 _ (lit≤ tt, lit< tt) (clean_ascii a.name _ (qname_printable a.name w.0) (clean_ascii (61 ∷ 34 ∷ []) _ ((lit≤ tt, lit< tt), ((lit≤ tt, lit< tt), tt)) quoted))

pub clean_begin : (children : Nodes) (k : List ℕ) → Clean k → Clean (children_begin children k)
clean_begin none k c = c
clean_begin (element n l i m) k c = clean_one 62 k (lit≤ tt, lit< tt) c
clean_begin (chars t m) k c = clean_one 62 k (lit≤ tt, lit< tt) c

pub clean_close : (name k : List ℕ) → IsQName name → Clean k → Clean (60 ∷ 47 ∷ (name ++ (62 ∷ k)))
clean_close name k q c = clean_ascii (60 ∷ 47 ∷ []) _ ((lit≤ tt, lit< tt), ((lit≤ tt, lit< tt), tt)) (clean_ascii name _ (qname_printable name q) (clean_one 62 k (lit≤ tt, lit< tt) c))

pub clean_end : (children : Nodes) (name k : List ℕ) → IsQName name → Clean k → Clean (children_end children name k)
clean_end none name k q c = clean_ascii (47 ∷ 62 ∷ []) k ((lit≤ tt, lit< tt), ((lit≤ tt, lit< tt), tt)) c
clean_end (element n l i m) name k q c = clean_close name k q c
clean_end (chars t m) name k q c = clean_close name k q c

pub clean_nodes : (nodes : Nodes) (k : List ℕ) → NodesWritable nodes → Clean k → Clean (written_nodes nodes k)
clean_nodes none k w c = c
clean_nodes (chars text more) k w c = clean_append (escaped text) (written_nodes more k) (clean_escaped escaped_char text_escape text w.1) (clean_nodes more k w.3 c)
clean_nodes (element name list children more) k w c =
    let rest = clean_nodes more k w.2 c in
    let inner = clean_nodes children _ w.1 (clean_end children name (written_nodes more k) w.0.0 rest) in
    clean_one 60 _ (lit≤ tt, lit< tt) (clean_ascii name _ (qname_printable name w.0.0) (clean_attributes list _ w.0.1 (clean_begin children _ inner)))
