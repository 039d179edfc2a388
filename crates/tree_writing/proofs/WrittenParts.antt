-- Documents of written elements: attributes, tags and content that have the written text.
use Rattle.std.proofs.Common.{◌≡◌, ℕ, ◌⊎◌, inl, inr, Bool, true, false, cond, eqb, List, [], ◌∷◌, ◌++◌, map, refl, ap, ◌∙◌, sym, subst, append_assoc, lit<}
use Rattle.std.specs.Char.{encode_utf8}
use Rattle.std.specs.Str.Parse.{IsNumeral}
use Rattle.std.proofs.lemmas.Bool.{eqb-true, eqb-false}
use Rattle.tree_grammar.specs.Characters.{IsSpace, IsQName, local_part, named, decimal, amp, lt, gt, quot}
use Rattle.tree_grammar.specs.Elements.{Attribute, Nodes, none, element, chars}
use Rattle.tree_grammar.specs.Tags.{Equals, Value, value_over, value_plain, value_white, value_reference, value_text, value_chars, Attributes, no_attribute, attribute, attributes_text, attribute_list, IsAmong, AreUniqueNames, is_kept, Tag, tag_text}
use Rattle.tree_grammar.specs.Content.{Content, nothing, char, reference, empty, nested, content_text, content_nodes, IsClear, put_char, put_chars}
use Rattle.tree_grammar.specs.WrittenText.{escaped_char, escaped, escaped_value_char, escaped_value, written_attributes, written_nodes}
use Rattle.tree_writing.specs.WritableElements.{AreWritable, NamesDiffer, BeginsApart, NodesWritable, kept_attributes, local_nodes}

-- a choice by a test
pub choose : {A : Type 0} (b : Bool) → (b ≡ true → A) → (b ≡ false → A) → A
choose true f g = f refl
choose false f g = g refl

-- a character that no test has found
abbrev pub Other : ℕ → ℕ → Type 0
Other c d = eqb c d ≡ false

-- a character of text that is written as it is
pub text_plain : (c : ℕ) → Other c 38 → Other c 60 → Other c 62 → Other c 13 → escaped_char c ≡ c ∷ []
text_plain c a b d e = rw (a, b, d, e) refl

-- the characters that are written as numbers
pub encode_9 : encode_utf8 9 ≡ 9 ∷ []
unfolding encode_utf8
encode_9 = refl

pub encode_10 : encode_utf8 10 ≡ 10 ∷ []
unfolding encode_utf8
encode_10 = refl

pub encode_13 : encode_utf8 13 ≡ 13 ∷ []
unfolding encode_utf8
encode_13 = refl

pub numeral_9 : IsNumeral 10 (57 ∷ [])
numeral_9 = (lit< tt, (lit< tt, tt))

pub numeral_10 : IsNumeral 10 (49 ∷ 48 ∷ [])
numeral_10 = (lit< tt, (lit< tt, (lit< tt, tt)))

pub numeral_13 : IsNumeral 10 (49 ∷ 51 ∷ [])
numeral_13 = (lit< tt, (lit< tt, (lit< tt, tt)))

-- Content with these nodes and this text, that may stand behind any `]`.
pub record Shown (nodes : Nodes) (text : List ℕ → List ℕ) : Type 0 where
  pub content : Content
  pub text_is : (k : List ℕ) → content_text content k ≡ text k
  pub nodes_are : content_nodes content ≡ nodes
  pub clear : (count : ℕ) → IsClear count content

pub shown_char : (c : ℕ) (nodes : Nodes) (text : List ℕ → List ℕ) → Shown nodes text → Shown (put_char c nodes) (λ k. escaped_char c ++ text k)
shown_char c nodes text more =
    let Goal : ℕ → Type 0 = λ z. Shown (put_char z nodes) (λ k. escaped_char z ++ text k) in
    choose (eqb c 38) (λ e. subst Goal (sym (eqb-true c 38 e)) (record {
      content = reference (named amp) more.content;
      text_is = λ k. ap (λ z. 38 ∷ 97 ∷ 109 ∷ 112 ∷ 59 ∷ z) (more.text_is k);
      nodes_are = ap (put_char 38) more.nodes_are;
      clear = λ count. more.clear 0;
    })) (λ a.
    choose (eqb c 60) (λ e. subst Goal (sym (eqb-true c 60 e)) (record {
      content = reference (named lt) more.content;
      text_is = λ k. ap (λ z. 38 ∷ 108 ∷ 116 ∷ 59 ∷ z) (more.text_is k);
      nodes_are = ap (put_char 60) more.nodes_are;
      clear = λ count. more.clear 0;
    })) (λ b.
    choose (eqb c 62) (λ e. subst Goal (sym (eqb-true c 62 e)) (record {
      content = reference (named gt) more.content;
      text_is = λ k. ap (λ z. 38 ∷ 103 ∷ 116 ∷ 59 ∷ z) (more.text_is k);
      nodes_are = ap (put_char 62) more.nodes_are;
      clear = λ count. more.clear 0;
    })) (λ d.
    choose (eqb c 13) (λ e. subst Goal (sym (eqb-true c 13 e)) (record {
      content = reference (decimal (49 ∷ 51 ∷ []) numeral_13 (inr (inr (inl refl)))) more.content;
      text_is = λ k. ap (λ z. 38 ∷ 35 ∷ 49 ∷ 51 ∷ 59 ∷ z) (more.text_is k);
      nodes_are = ap (λ z. put_chars z (content_nodes more.content)) encode_13 ∙ ap (put_char 13) more.nodes_are;
      clear = λ count. more.clear 0;
    })) (λ e. record {
      content = char c (eqb-false c 60 b) (eqb-false c 38 a) more.content;
      text_is = λ k. ap (λ z. c ∷ z) (more.text_is k) ∙ ap (λ z. z ++ text k) (sym (text_plain c a b d e));
      nodes_are = ap (put_char c) more.nodes_are;
      clear = λ count. ((λ h. eqb-false c 62 d), more.clear _);
    }))))

pub shown_text : (cs : List ℕ) (nodes : Nodes) (text : List ℕ → List ℕ) → Shown nodes text → Shown (put_chars cs nodes) (λ k. escaped cs ++ text k)
shown_text [] nodes text more = record { content = more.content; text_is = more.text_is; nodes_are = more.nodes_are; clear = more.clear }
shown_text (c ∷ cs) nodes text more =
    let r = shown_char c (put_chars cs nodes) (λ k. escaped cs ++ text k) (shown_text cs nodes text more) in
    record {
      content = r.content;
      text_is = λ k. r.text_is k ∙ sym (append_assoc (escaped_char c) (escaped cs) (text k));
      nodes_are = r.nodes_are;
      clear = r.clear;
    }

-- characters before nodes that don't begin with characters
pub one_run : (c : ℕ) (cs : List ℕ) (nodes : Nodes) → BeginsApart nodes → put_chars (c ∷ cs) (local_nodes nodes) ≡ chars (c ∷ cs) (local_nodes nodes)
one_run c [] none a = refl
one_run c [] (element name attributes children more) a = refl
one_run c [] (chars text more) a = absurd a
one_run c (d ∷ cs) nodes a = ap (put_char c) (one_run d cs nodes a)

-- A value in double quotes with this text.
pub record Valued (value : List ℕ) : Type 0 where
  pub said : Value 34
  pub text_is : (k : List ℕ) → value_text said k ≡ escaped_value value ++ (34 ∷ k)
  pub chars_are : value_chars said ≡ value

pub value_as_is : (c : ℕ) → Other c 34 → Other c 9 → Other c 10 → Other c 38 → Other c 60 → Other c 62 → Other c 13 → escaped_value_char c ≡ c ∷ []
value_as_is c q t n a b d e = rw (q, t, n) (text_plain c a b d e)

pub no_space : (c : ℕ) → Other c 32 → Other c 9 → Other c 10 → Other c 13 → IsSpace c → ⊥
no_space c s t n e (inl h) = eqb-false c 32 s h
no_space c s t n e (inr (inl h)) = eqb-false c 9 t h
no_space c s t n e (inr (inr (inl h))) = eqb-false c 10 n h
no_space c s t n e (inr (inr (inr h))) = eqb-false c 13 e h

pub valued_char : (c : ℕ) (value : List ℕ) → Valued value → Valued (c ∷ value)
valued_char c value more =
    let Goal : ℕ → Type 0 = λ z. Valued (z ∷ value) in
    choose (eqb c 34) (λ e. subst Goal (sym (eqb-true c 34 e)) (record {
      said = value_reference (named quot) more.said;
      text_is = λ k. ap (λ z. 38 ∷ 113 ∷ 117 ∷ 111 ∷ 116 ∷ 59 ∷ z) (more.text_is k);
      chars_are = ap (λ z. 34 ∷ z) more.chars_are;
    })) (λ q.
    choose (eqb c 9) (λ e. subst Goal (sym (eqb-true c 9 e)) (record {
      said = value_reference (decimal (57 ∷ []) numeral_9 (inl refl)) more.said;
      text_is = λ k. ap (λ z. 38 ∷ 35 ∷ 57 ∷ 59 ∷ z) (more.text_is k);
      chars_are = ap (λ z. z ++ value_chars more.said) encode_9 ∙ ap (λ z. 9 ∷ z) more.chars_are;
    })) (λ t.
    choose (eqb c 10) (λ e. subst Goal (sym (eqb-true c 10 e)) (record {
      said = value_reference (decimal (49 ∷ 48 ∷ []) numeral_10 (inr (inl refl))) more.said;
      text_is = λ k. ap (λ z. 38 ∷ 35 ∷ 49 ∷ 48 ∷ 59 ∷ z) (more.text_is k);
      chars_are = ap (λ z. z ++ value_chars more.said) encode_10 ∙ ap (λ z. 10 ∷ z) more.chars_are;
    })) (λ n.
    choose (eqb c 38) (λ e. subst Goal (sym (eqb-true c 38 e)) (record {
      said = value_reference (named amp) more.said;
      text_is = λ k. ap (λ z. 38 ∷ 97 ∷ 109 ∷ 112 ∷ 59 ∷ z) (more.text_is k);
      chars_are = ap (λ z. 38 ∷ z) more.chars_are;
    })) (λ a.
    choose (eqb c 60) (λ e. subst Goal (sym (eqb-true c 60 e)) (record {
      said = value_reference (named lt) more.said;
      text_is = λ k. ap (λ z. 38 ∷ 108 ∷ 116 ∷ 59 ∷ z) (more.text_is k);
      chars_are = ap (λ z. 60 ∷ z) more.chars_are;
    })) (λ b.
    choose (eqb c 62) (λ e. subst Goal (sym (eqb-true c 62 e)) (record {
      said = value_reference (named gt) more.said;
      text_is = λ k. ap (λ z. 38 ∷ 103 ∷ 116 ∷ 59 ∷ z) (more.text_is k);
      chars_are = ap (λ z. 62 ∷ z) more.chars_are;
    })) (λ d.
    choose (eqb c 13) (λ e. subst Goal (sym (eqb-true c 13 e)) (record {
      said = value_reference (decimal (49 ∷ 51 ∷ []) numeral_13 (inr (inr (inl refl)))) more.said;
      text_is = λ k. ap (λ z. 38 ∷ 35 ∷ 49 ∷ 51 ∷ 59 ∷ z) (more.text_is k);
      chars_are = ap (λ z. z ++ value_chars more.said) encode_13 ∙ ap (λ z. 13 ∷ z) more.chars_are;
    })) (λ e.
    choose (eqb c 32) (λ s. subst Goal (sym (eqb-true c 32 s)) (record {
      said = value_white 32 (inl refl) more.said;
      text_is = λ k. ap (λ z. 32 ∷ z) (more.text_is k);
      chars_are = ap (λ z. 32 ∷ z) more.chars_are;
    })) (λ s. record {
      said = value_plain c (eqb-false c 34 q) (eqb-false c 60 b) (eqb-false c 38 a) (no_space c s t n e) more.said;
      text_is = λ k. ap (λ z. c ∷ z) (more.text_is k) ∙ ap (λ z. z ++ (escaped_value value ++ (34 ∷ k))) (sym (value_as_is c q t n a b d e)) ∙ sym (append_assoc (escaped_value_char c) (escaped_value value) (34 ∷ k));
      chars_are = ap (λ z. c ∷ z) more.chars_are;
    }))))))))

pub valued : (value : List ℕ) → Valued value
valued [] = record { said = value_over; text_is = λ k. refl; chars_are = refl }
valued (c ∷ cs) = valued_char c cs (valued cs)

-- No attribute has one of these names.
abbrev pub Apart : List (List ℕ) → List Attribute → Type 0
Apart before [] = Unit {0}
Apart before (a ∷ more) = (IsAmong a.name before → ⊥) × Apart before more

pub among_split : (name last : List ℕ) (before : List (List ℕ)) → IsAmong name (before ++ last ∷ []) → IsAmong name before ⊎ (name ≡ last)
among_split name last [] (inl e) = inr e
among_split name last [] (inr h) = absurd h
among_split name last (n ∷ before) (inl e) = inl (inl e)
among_split name last (n ∷ before) (inr h) = elim (among_split name last before h) [ inl i ↦ inl (inr i) | inr e ↦ inr e ]

pub apart_on : (name : List ℕ) (before : List (List ℕ)) (more : List Attribute) → (IsAmong name (map (λ b. b.name) more) → ⊥) → Apart before more → Apart (before ++ name ∷ []) more
apart_on name before [] f a = tt
apart_on name before (b ∷ more) f a =
    ((λ h. elim (among_split b.name name before h) [ inl i ↦ a.0 i | inr e ↦ f (inl (sym e)) ]), apart_on name before more (λ h. f (inr h)) a.1)

pub apart_first : (attributes : List Attribute) → Apart [] attributes
apart_first [] = tt
apart_first (a ∷ more) = ((λ h. h), apart_first more)

-- Attributes with this text, all fresh behind others.
pub record Listed (list : List Attribute) : Type 0 where
  pub attributes : Attributes
  pub text_is : (k : List ℕ) → attributes_text attributes k ≡ written_attributes list k
  pub list_is : attribute_list attributes ≡ kept_attributes list
  pub fresh : (before : List (List ℕ)) → Apart before list → AreUniqueNames before attributes

abbrev pub no_equals : Equals
no_equals = record { before = []; spaced_before = tt; after = []; spaced_after = tt }

pub listed : (list : List Attribute) → AreWritable list → NamesDiffer list → Listed list
listed [] w d = record { attributes = no_attribute; text_is = λ k. refl; list_is = refl; fresh = λ before a. tt }
listed (a ∷ more) w d =
    let rest = listed more w.2 d.1 in
    let v = valued a.value in
    let one : Attribute = record { name = a.name; value = a.value } in
    record {
      attributes = attribute (32 ∷ []) a.name (inl refl, tt) w.0 no_equals 34 (inl refl) v.said rest.attributes;
      text_is = λ k. ap (λ z. 32 ∷ (a.name ++ (61 ∷ 34 ∷ z))) (v.text_is (attributes_text rest.attributes k) ∙ ap (λ z. escaped_value a.value ++ (34 ∷ z)) (rest.text_is k));
      list_is = ap (λ z. cond (is_kept a.name) (record { name = a.name; value = z } ∷ attribute_list rest.attributes) (attribute_list rest.attributes)) v.chars_are ∙ ap (λ z. cond (is_kept a.name) (a ∷ z) z) rest.list_is;
      fresh = λ before h. (h.0, rest.fresh (before ++ a.name ∷ []) (apart_on a.name before more d.0 h.1));
    }

-- A tag with this text.
pub record Tagged (name : List ℕ) (list : List Attribute) : Type 0 where
  pub tag : Tag
  pub named_so : tag.name ≡ name
  pub text_is : (k : List ℕ) → tag_text tag k ≡ name ++ written_attributes list k
  pub list_is : attribute_list tag.attributes ≡ kept_attributes list

pub tagged : (name : List ℕ) (list : List Attribute) → IsQName name × AreWritable list × NamesDiffer list → Tagged name list
tagged name list w =
    let l = listed list w.1 w.2 in
    record {
      tag = record { name = name; named = w.0; attributes = l.attributes; fresh = l.fresh [] (apart_first list); space = []; spaced = tt };
      named_so = refl;
      text_is = λ k. ap (λ z. name ++ z) (l.text_is k);
      list_is = l.list_is;
    }

-- a childless element
pub shown_empty : (name : List ℕ) (list : List Attribute) (nodes : Nodes) (text : List ℕ → List ℕ) → Tagged name list → Shown nodes text → Shown (element (local_part name) (kept_attributes list) none nodes) (λ k. 60 ∷ (name ++ written_attributes list (47 ∷ 62 ∷ text k)))
shown_empty name list nodes text t more = record {
  content = empty t.tag more.content;
  text_is = λ k. ap (λ z. 60 ∷ z) (t.text_is (47 ∷ 62 ∷ content_text more.content k) ∙ ap (λ z. name ++ written_attributes list (47 ∷ 62 ∷ z)) (more.text_is k));
  nodes_are = ap (λ z. element (local_part z) (attribute_list t.tag.attributes) none (content_nodes more.content)) t.named_so ∙ (ap (λ z. element (local_part name) z none (content_nodes more.content)) t.list_is ∙ ap (element (local_part name) (kept_attributes list) none) more.nodes_are);
  clear = λ count. more.clear 0;
}

-- an element with children
pub shown_nested : (name : List ℕ) (list : List Attribute) (inner nodes : Nodes) (inside text : List ℕ → List ℕ) → Tagged name list → Shown inner inside → Shown nodes text → Shown (element (local_part name) (kept_attributes list) inner nodes) (λ k. 60 ∷ (name ++ written_attributes list (62 ∷ inside (60 ∷ 47 ∷ (name ++ (62 ∷ text k))))))
shown_nested name list inner nodes inside text t i more = record {
  content = nested t.tag i.content [] tt more.content;
  text_is = λ k. ap (λ z. 60 ∷ z) (t.text_is (62 ∷ content_text i.content (60 ∷ 47 ∷ (t.tag.name ++ (62 ∷ content_text more.content k)))) ∙ ap (λ z. name ++ written_attributes list (62 ∷ z)) (i.text_is (60 ∷ 47 ∷ (t.tag.name ++ (62 ∷ content_text more.content k))) ∙ ap inside (ap (λ z. 60 ∷ 47 ∷ (z ++ (62 ∷ content_text more.content k))) t.named_so ∙ ap (λ z. 60 ∷ 47 ∷ (name ++ (62 ∷ z))) (more.text_is k))));
  nodes_are = ap (λ z. element (local_part z) (attribute_list t.tag.attributes) (content_nodes i.content) (content_nodes more.content)) t.named_so ∙ (ap (λ z. element (local_part name) z (content_nodes i.content) (content_nodes more.content)) t.list_is ∙ (ap (λ z. element (local_part name) (kept_attributes list) z (content_nodes more.content)) i.nodes_are ∙ ap (element (local_part name) (kept_attributes list) inner) more.nodes_are));
  clear = λ count. (i.clear 0, more.clear 0);
}

-- nodes as they are written
pub shown_nodes : (nodes : Nodes) → NodesWritable nodes → Shown (local_nodes nodes) (written_nodes nodes)
shown_nodes none w = record { content = nothing; text_is = λ k. refl; nodes_are = refl; clear = λ count. tt }
shown_nodes (chars [] more) w = absurd (w.0 refl)
shown_nodes (chars (c ∷ cs) more) w =
    let r = shown_text (c ∷ cs) (local_nodes more) (written_nodes more) (shown_nodes more w.3) in
    record { content = r.content; text_is = r.text_is; nodes_are = r.nodes_are ∙ one_run c cs more w.2; clear = r.clear }
shown_nodes (element name list none more) w =
    shown_empty name list (local_nodes more) (written_nodes more) (tagged name list w.0) (shown_nodes more w.2)
shown_nodes (element name list (element n l c m) more) w =
    shown_nested name list (local_nodes (element n l c m)) (local_nodes more) (written_nodes (element n l c m)) (written_nodes more) (tagged name list w.0) (shown_nodes (element n l c m) w.1) (shown_nodes more w.2)
shown_nodes (element name list (chars x m) more) w =
    shown_nested name list (local_nodes (chars x m)) (local_nodes more) (written_nodes (chars x m)) (written_nodes more) (tagged name list w.0) (shown_nodes (chars x m) w.1) (shown_nodes more w.2)
