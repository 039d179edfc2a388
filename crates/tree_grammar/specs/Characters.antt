-- Characters, white space, names, line ends and references of XML 1.0. Names are ASCII here.
use Rattle.std.specs.Prelude.{◌≡◌, ℕ, ◌≤◌, ◌⊎◌, Bool, true, false, cond, ◌==◌, List, [], ◌∷◌, ◌++◌, encode_utf8, encode_utf8_all}
use Rattle.std.specs.Str.Parse.{IsNumeral, digits_value}

-- A character of XML (production 2).
abbrev pub IsXmlChar : ℕ → Type 0
IsXmlChar c = (c ≡ 9) ⊎ ((c ≡ 10) ⊎ ((c ≡ 13) ⊎ (((32 ≤ c) × (c ≤ 55295)) ⊎ (((57344 ≤ c) × (c ≤ 65533)) ⊎ ((65536 ≤ c) × (c ≤ 1114111))))))

-- White space: space, tab, line feed, carriage return (production 3).
abbrev pub IsSpace : ℕ → Type 0
IsSpace c = (c ≡ 32) ⊎ ((c ≡ 9) ⊎ ((c ≡ 10) ⊎ (c ≡ 13)))

-- each is of the kind
abbrev pub Each : (ℕ → Type 0) → List ℕ → Type 0
Each P [] = Unit {0}
Each P (c ∷ cs) = P c × Each P cs

-- one at least, and each of the kind
abbrev pub Some1 : (ℕ → Type 0) → List ℕ → Type 0
Some1 P [] = ⊥
Some1 P (c ∷ cs) = P c × Each P cs

-- The bytes are the UTF-8 (RFC 3629, section 3) of characters of XML.
pub record IsXmlText (bytes : List ℕ) : Type 0 where
  pub characters : List ℕ
  pub each : Each IsXmlChar characters
  pub encoded : bytes ≡ encode_utf8_all characters

-- A line feed stands first.
abbrev pub begins_with_line_feed : List ℕ → Bool
begins_with_line_feed [] = false
begins_with_line_feed (c ∷ cs) = c == 10

-- Line ends (section 2.11): a carriage return before a line feed is dropped, any other becomes a line feed.
abbrev pub normal_lines : List ℕ → List ℕ
normal_lines [] = []
normal_lines (c ∷ cs) = cond (c == 13) (cond (begins_with_line_feed cs) (normal_lines cs) (10 ∷ normal_lines cs)) (c ∷ normal_lines cs)

-- a letter of ASCII
abbrev pub IsLetter : ℕ → Type 0
IsLetter c = ((65 ≤ c) × (c ≤ 90)) ⊎ ((97 ≤ c) × (c ≤ 122))

-- a digit of ASCII
abbrev pub IsDigit : ℕ → Type 0
IsDigit c = (48 ≤ c) × (c ≤ 57)

-- what a name begins with (production 4, its ASCII part): a letter or `_`
abbrev pub IsNameStart : ℕ → Type 0
IsNameStart c = IsLetter c ⊎ (c ≡ 95)

-- what a name goes on with (production 4a, its ASCII part): a letter, a digit, `_`, `-` or `.`
abbrev pub IsNameChar : ℕ → Type 0
IsNameChar c = IsNameStart c ⊎ (IsDigit c ⊎ ((c ≡ 45) ⊎ (c ≡ 46)))

-- A name without `:` (Namespaces in XML 1.0, production 4, its ASCII part).
abbrev pub IsName : List ℕ → Type 0
IsName [] = ⊥
IsName (c ∷ cs) = IsNameStart c × Each IsNameChar cs

-- the rest of a name, and then nothing, or `:` and a name
abbrev pub IsQNameRest : List ℕ → Type 0
IsQNameRest [] = Unit {0}
IsQNameRest (c ∷ cs) = (IsNameChar c × IsQNameRest cs) ⊎ ((c ≡ 58) × IsName cs)

-- A qualified name: a name, or two with `:` between (Namespaces in XML 1.0, production 7).
abbrev pub IsQName : List ℕ → Type 0
IsQName [] = ⊥
IsQName (c ∷ cs) = IsNameStart c × IsQNameRest cs

-- what stands behind the first `:`, or else the whole
abbrev pub behind_colon : List ℕ → List ℕ → List ℕ
behind_colon whole [] = whole
behind_colon whole (c ∷ cs) = cond (c == 58) cs (behind_colon whole cs)

-- The local part of a qualified name (Namespaces in XML 1.0, production 11).
abbrev pub local_part : List ℕ → List ℕ
local_part name = behind_colon name name

-- Whether a qualified name has a prefix.
abbrev pub has_prefix : List ℕ → Bool
has_prefix [] = false
has_prefix (c ∷ cs) = cond (c == 58) true (has_prefix cs)

-- The five entities that need no declaration (section 4.6).
pub data Entity : Type 0 where
  amp : Entity
  lt : Entity
  gt : Entity
  quot : Entity
  apos : Entity

-- An entity's name with `;`, and then k.
abbrev pub entity_text : Entity → List ℕ → List ℕ
entity_text amp k = 97 ∷ 109 ∷ 112 ∷ 59 ∷ k
entity_text lt k = 108 ∷ 116 ∷ 59 ∷ k
entity_text gt k = 103 ∷ 116 ∷ 59 ∷ k
entity_text quot k = 113 ∷ 117 ∷ 111 ∷ 116 ∷ 59 ∷ k
entity_text apos k = 97 ∷ 112 ∷ 111 ∷ 115 ∷ 59 ∷ k

-- The character that an entity stands for.
abbrev pub entity_char : Entity → ℕ
entity_char amp = 38
entity_char lt = 60
entity_char gt = 62
entity_char quot = 34
entity_char apos = 39

-- A reference (section 4.1, productions 66 to 68): to an entity, or to a character by its decimal or hexadecimal digits.
pub data Reference : Type 0 where
  named : Entity → Reference
  decimal : (digits : List ℕ) → IsNumeral 10 digits → IsXmlChar (digits_value 10 digits) → Reference
  hexadecimal : (digits : List ℕ) → IsNumeral 16 digits → IsXmlChar (digits_value 16 digits) → Reference

-- The reference's bytes behind its `&`, and then k.
abbrev pub reference_text : Reference → List ℕ → List ℕ
reference_text (named e) k = entity_text e k
reference_text (decimal digits n c) k = 35 ∷ (digits ++ (59 ∷ k))
reference_text (hexadecimal digits n c) k = 35 ∷ 120 ∷ (digits ++ (59 ∷ k))

-- The bytes of the character that it stands for.
abbrev pub reference_chars : Reference → List ℕ
reference_chars (named e) = entity_char e ∷ []
reference_chars (decimal digits n c) = encode_utf8 (digits_value 10 digits)
reference_chars (hexadecimal digits n c) = encode_utf8 (digits_value 16 digits)
