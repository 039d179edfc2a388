-- The numbers of a certificate's items, all in the form of exact numbers (see Numbers): columns, nodes and limits, turns, whole numbers, and fractions.
use Rattle.std.specs.Prelude.{◌≡◌, ◌≢◌, ℕ, ◌^◌, ◌<◌, pos, unsigned_abs, List}
use Rattle.std.specs.List.{All}
use Rattle.tag_tests.specs.declared.numbers.Unread.{Unread}
use Rattle.tag_tests.specs.declared.numbers.Unread.TheVariants.{NotNumber, Wide}
use Rattle.rational.specs.Ratio.{Ratio, whole}
use Rattle.rational.specs.Width.{IsReduced, IsWithin}
use Rattle.decimal_text.specs.Exact.{RatioText}

pub data NumberKind : Type 0 where
  Index : NumberKind
  Turn : NumberKind
  Whole : NumberKind
  Exact : NumberKind

-- the numbers of a kind, of any size: from 0 on and whole, whole, or all
abbrev pub IsOfKind : NumberKind → Ratio → Type 0
IsOfKind Index x = (n : ℕ) × (x ≡ whole (pos n))
IsOfKind Turn x = (n : ℕ) × (x ≡ whole (pos n))
IsOfKind Whole x = x.den ≡ 1
IsOfKind Exact x = Unit {0}

-- it isn't too great for its kind
abbrev pub FitsKind : NumberKind → Ratio → Type 0
FitsKind Index x = unsigned_abs x.num < 2 ^ 32
FitsKind Turn x = unsigned_abs x.num < 2 ^ 64
FitsKind Whole x = IsWithin x
FitsKind Exact x = IsWithin x

-- the text writes a number of this kind, of any size; one within the width in lowest terms
pub record WritesNumber (kind : NumberKind) (text : List ℕ) (x : Ratio) : Type 0 where
  pub form : RatioText text x
  pub of_kind : IsOfKind kind x
  pub reduced : IsWithin x → IsReduced x

-- the text is this number
abbrev pub IsNumberText : NumberKind → List ℕ → Ratio → Type 0
IsNumberText kind text x = WritesNumber kind text x × FitsKind kind x

-- a text in place of a number
pub record Field : Type 0 where
  pub kind : NumberKind
  pub text : List ℕ

-- the text is of the grammar of its kind
abbrev pub IsWritten : Field → Type 0
IsWritten f = (x : Ratio) × WritesNumber f.kind f.text x

-- it isn't, or the number is too great
abbrev pub IsBad : Field → Type 0
IsBad f = IsWritten f → ⊥

abbrev pub IsTooGreat : Field → Type 0
IsTooGreat f = (x : Ratio) × WritesNumber f.kind f.text x × (FitsKind f.kind x → ⊥)

-- why the text isn't a number of this kind
abbrev pub IsNot : NumberKind → List ℕ → Unread → Type 0
IsNot kind text NotNumber = (x : Ratio) → WritesNumber kind text x → ⊥
IsNot kind text Wide = (x : Ratio) × WritesNumber kind text x × (FitsKind kind x → ⊥)

-- a text without this byte
abbrev pub IsFree : ℕ → List ℕ → Type 0
IsFree byte text = All (λ b. b ≢ byte) text
