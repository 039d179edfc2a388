-- The lines of a request's head (RFC 9112, sections 2.1 and 2.2).
use Rattle.std.specs.Prelude.{◌≡◌, ℕ, ◌⊎◌, length, List, [], ◌∷◌, ◌++◌, All, ◌≢◌}
use Rattle.std.specs.List.{flat_map}
use Rattle.httparse.specs.Ascii.{carriage_return, line_feed}

-- what stands before a line's LF has no LF itself
abbrev pub IsLine : List ℕ → Type 0
IsLine line = All (λ b. b ≢ line_feed) line

-- an empty line has nothing before its LF, or a CR, which belongs to the line's end
abbrev pub IsEmptyLine : List ℕ → Type 0
IsEmptyLine line = (line ≡ []) ⊎ (line ≡ carriage_return ∷ [])

-- a line that isn't empty
pub record IsFullLine (text : List ℕ) : Type 0 where
  pub line : IsLine text
  pub full : ¬ (IsEmptyLine text)

-- the lines, each with its LF
abbrev pub print_lines : List (List ℕ) → List ℕ
print_lines lines = flat_map (λ line. line ++ line_feed ∷ []) lines

-- the bytes are whole empty lines, or none
abbrev pub AreEmptyLines : List ℕ → Type 0
AreEmptyLines bytes = (lines : List (List ℕ)) × All IsEmptyLine lines × (bytes ≡ print_lines lines)

-- empty lines, the request line, the field lines, and the empty line that ends the head
pub record HeadLines : Type 0 where
  pub before : List (List ℕ)
  pub request : List ℕ
  pub fields : List (List ℕ)
  pub last : List ℕ

-- the head's bytes
abbrev pub print_head : HeadLines → List ℕ
print_head h = print_lines (h.before ++ (h.request ∷ h.fields) ++ h.last ∷ [])

-- the first empty line after the request line is the last line
pub record AreHeadLines (h : HeadLines) : Type 0 where
  pub before : All IsEmptyLine h.before
  pub request : IsFullLine h.request
  pub fields : All IsFullLine h.fields
  pub last : IsEmptyLine h.last

-- the bytes begin with no whole head
abbrev pub HasNoHead : List ℕ → Type 0
HasNoHead bytes = (h : HeadLines) (rest : List ℕ) → AreHeadLines h → ¬ (bytes ≡ print_head h ++ rest)

-- a head that has begun: empty lines, full lines, and a line whose LF is still to come
pub record IsOpenHead (bytes : List ℕ) (start lines : ℕ) : Type 0 where
  pub before : List (List ℕ)
  pub full : List (List ℕ)
  pub line : List ℕ
  pub are_empty : All IsEmptyLine before
  pub are_full : All IsFullLine full
  pub no_feed : IsLine line
  pub bytes_are : bytes ≡ print_lines (before ++ full) ++ line
  pub start_is : start ≡ length (print_lines (before ++ full))
  pub lines_are : lines ≡ length full

-- a head that is whole, with so many lines between its request line and the empty one
abbrev pub IsWholeHead : List ℕ → ℕ → Type 0
IsWholeHead bytes lines =
    (h : HeadLines) × AreHeadLines h × (bytes ≡ print_head h) × (lines ≡ length h.fields)
