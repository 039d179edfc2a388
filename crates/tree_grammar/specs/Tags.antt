-- Start tags: names, attributes and their values (XML 1.0, sections 2.3, 3.1 and 3.3.3).
use Rattle.std.specs.Prelude.{◌≡◌, ◌≢◌, ℕ, ◌⊎◌, Bool, cond, not, ◌||◌, List, [], ◌∷◌, ◌++◌, codes, bytes_eq}
use Rattle.tree_grammar.specs.Elements.{Attribute}
use Rattle.tree_grammar.specs.Characters.{IsSpace, Each, Some1, IsQName, has_prefix, Reference, reference_text, reference_chars}

-- A quote: `"` or `'`.
abbrev pub IsQuote : ℕ → Type 0
IsQuote c = (c ≡ 34) ⊎ (c ≡ 39)

-- Production 25: `=`, with white space round it.
pub record Equals : Type 0 where
  pub before : List ℕ
  pub spaced_before : Each IsSpace before
  pub after : List ℕ
  pub spaced_after : Each IsSpace after

-- Its bytes, and then k.
abbrev pub equals_text : Equals → List ℕ → List ℕ
equals_text e k = e.before ++ (61 ∷ (e.after ++ k))

-- Production 10: characters other than the quote, `<` and `&`, and references.
pub data Value (quote : ℕ) : Type 0 where
  value_over : Value quote
  value_plain : (c : ℕ) → c ≢ quote → c ≢ 60 → c ≢ 38 → (IsSpace c → ⊥) → Value quote → Value quote
  value_white : (c : ℕ) → IsSpace c → Value quote → Value quote
  value_reference : Reference → Value quote → Value quote

-- The value's bytes with the closing quote, and then k.
abbrev pub value_text : {quote : ℕ} → Value quote → List ℕ → List ℕ
value_text {quote} value_over k = quote ∷ k
value_text {quote} (value_plain c q l a s more) k = c ∷ value_text more k
value_text {quote} (value_white c s more) k = c ∷ value_text more k
value_text {quote} (value_reference r more) k = 38 ∷ reference_text r (value_text more k)

-- What it says (section 3.3.3): white space becomes a space, but not where a reference gives it.
abbrev pub value_chars : {quote : ℕ} → Value quote → List ℕ
value_chars {quote} value_over = []
value_chars {quote} (value_plain c q l a s more) = c ∷ value_chars more
value_chars {quote} (value_white c s more) = 32 ∷ value_chars more
value_chars {quote} (value_reference r more) = reference_chars r ++ value_chars more

-- Production 41, each attribute after white space.
pub data Attributes : Type 0 where
  no_attribute : Attributes
  attribute : (space name : List ℕ) → Some1 IsSpace space → IsQName name → Equals → (quote : ℕ) → IsQuote quote → Value quote → Attributes → Attributes

-- Their bytes, and then k.
abbrev pub attributes_text : Attributes → List ℕ → List ℕ
attributes_text no_attribute k = k
attributes_text (attribute space name s n e quote q v more) k = space ++ (name ++ equals_text e (quote ∷ value_text v (attributes_text more k)))

-- Whether an attribute belongs to the tree: a namespace (Namespaces in XML 1.0, section 3) and one with a prefix don't.
abbrev pub is_kept : List ℕ → Bool
is_kept name = not (has_prefix name || bytes_eq name (codes "xmlns"))

-- Those that belong to the tree, in their order.
abbrev pub attribute_list : Attributes → List Attribute
attribute_list no_attribute = []
attribute_list (attribute space name s n e quote q v more) = cond (is_kept name) (record { name = name; value = value_chars v } ∷ attribute_list more) (attribute_list more)

-- The name is one of these.
abbrev pub IsAmong : List ℕ → List (List ℕ) → Type 0
IsAmong name [] = ⊥
IsAmong name (n ∷ names) = (name ≡ n) ⊎ IsAmong name names

-- Well-formedness constraint "Unique Att Spec": no qualified name comes twice, nor one of those before.
abbrev pub AreUniqueNames : List (List ℕ) → Attributes → Type 0
AreUniqueNames before no_attribute = Unit {0}
AreUniqueNames before (attribute space name s n e quote q v more) = (IsAmong name before → ⊥) × AreUniqueNames (before ++ (name ∷ [])) more

-- Productions 40 and 44 between `<` and `>` or `/>`: a qualified name, attributes, white space.
pub record Tag : Type 0 where
  pub name : List ℕ
  pub named : IsQName name
  pub attributes : Attributes
  pub fresh : AreUniqueNames [] attributes
  pub space : List ℕ
  pub spaced : Each IsSpace space

-- Its bytes, and then k.
abbrev pub tag_text : Tag → List ℕ → List ℕ
tag_text tag k = tag.name ++ attributes_text tag.attributes (tag.space ++ k)
