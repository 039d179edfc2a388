-- The declaration (XML 1.0, sections 2.8, 2.9 and 4.3.3).
use Rattle.std.specs.Prelude.{◌≡◌, ℕ, ◌⊎◌, List, [], ◌∷◌, ◌++◌, map, codes}
use Rattle.std.specs.Char.{to_ascii_lowercase}
use Rattle.tree_grammar.specs.Characters.{IsSpace, Each, Some1, IsLetter, IsDigit}
use Rattle.tree_grammar.specs.Tags.{IsQuote, Equals, equals_text}

-- Productions 24 and 26: `version`, and `1.` and digits.
pub record Version : Type 0 where
  pub space : List ℕ
  pub spaced : Some1 IsSpace space
  pub equals : Equals
  pub quote : ℕ
  pub quoted : IsQuote quote
  pub digits : List ℕ
  pub numbered : Some1 IsDigit digits

-- Its bytes, and then k.
abbrev pub version_text : Version → List ℕ → List ℕ
version_text v k = v.space ++ (codes "version" ++ equals_text v.equals (v.quote ∷ 49 ∷ 46 ∷ (v.digits ++ (v.quote ∷ k))))

-- what an encoding's name goes on with (production 81): a letter, a digit, `.`, `_` or `-`
abbrev pub IsEncodingChar : ℕ → Type 0
IsEncodingChar c = IsLetter c ⊎ (IsDigit c ⊎ ((c ≡ 46) ⊎ ((c ≡ 95) ⊎ (c ≡ 45))))

-- an encoding's name (production 81): a letter, and then these
abbrev pub IsEncodingName : List ℕ → Type 0
IsEncodingName [] = ⊥
IsEncodingName (c ∷ cs) = IsLetter c × Each IsEncodingChar cs

-- Production 80.
pub data Encoding : Type 0 where
  no_encoding : Encoding
  encoded : (space : List ℕ) → Some1 IsSpace space → Equals → (quote : ℕ) → IsQuote quote → (name : List ℕ) → IsEncodingName name → Encoding

-- Its bytes, and then k.
abbrev pub encoding_text : Encoding → List ℕ → List ℕ
encoding_text no_encoding k = k
encoding_text (encoded space s e quote q name n) k = space ++ (codes "encoding" ++ equals_text e (quote ∷ (name ++ (quote ∷ k))))

-- An encoding that is read: UTF-8, or US-ASCII, which is a part of it, without regard to case.
abbrev pub IsUtf8Name : List ℕ → Type 0
IsUtf8Name name = (map to_ascii_lowercase name ≡ codes "utf-8") ⊎ (map to_ascii_lowercase name ≡ codes "us-ascii")

-- Of another encoding no document is read.
abbrev pub IsReadable : Encoding → Type 0
IsReadable no_encoding = Unit {0}
IsReadable (encoded space s e quote q name n) = IsUtf8Name name

-- what stands in a standalone declaration
abbrev pub IsYesOrNo : List ℕ → Type 0
IsYesOrNo word = (word ≡ codes "yes") ⊎ (word ≡ codes "no")

-- Production 32.
pub data Standalone : Type 0 where
  no_standalone : Standalone
  standing : (space : List ℕ) → Some1 IsSpace space → Equals → (quote : ℕ) → IsQuote quote → (word : List ℕ) → IsYesOrNo word → Standalone

-- Its bytes, and then k.
abbrev pub standalone_text : Standalone → List ℕ → List ℕ
standalone_text no_standalone k = k
standalone_text (standing space s e quote q word w) k = space ++ (codes "standalone" ++ equals_text e (quote ∷ (word ++ (quote ∷ k))))

-- Production 23, or none.
pub data Declaration : Type 0 where
  no_declaration : Declaration
  declared : Version → Encoding → Standalone → (space : List ℕ) → Each IsSpace space → Declaration

-- Its bytes, and then k.
abbrev pub declaration_text : Declaration → List ℕ → List ℕ
declaration_text no_declaration k = k
declaration_text (declared v e s space sp) k = codes "<?xml" ++ version_text v (encoding_text e (standalone_text s (space ++ (63 ∷ 62 ∷ k))))

-- The declaration names no other encoding.
abbrev pub IsDeclarationReadable : Declaration → Type 0
IsDeclarationReadable no_declaration = Unit {0}
IsDeclarationReadable (declared v e s space sp) = IsReadable e
