-- Bytes that the machine takes together, as the steps over them one by one.
use Rattle.std.specs.Prelude.{◌≡◌, ◌≢◌, ◌≤◌, ◌<◌, ℕ, Bool, false, List, [], ◌∷◌, ◌++◌}
use Rattle.tree_grammar.specs.Tags.{IsQuote}
use Rattle.doc_tree.specs.Completions.{MachineState, RestsAt, FollowsByte}

-- a byte of ASCII that is no control character: a character by itself, and no line end
abbrev pub IsAlone : ℕ → Type 0
IsAlone b = (32 ≤ b) × (b < 128)

-- The machine goes from one state to another over these bytes, which are such, one by one.
abbrev pub Walks : MachineState → List ℕ → MachineState → Type 0
Walks s [] t = t ≡ s
Walks s (b ∷ bytes) t = (mid : MachineState) × IsAlone b × FollowsByte s.marks (RestsAt s.place s) b mid × Walks mid bytes t

-- whether a carriage return stands just before, behind bytes of which none is one
abbrev pub returned_behind : List ℕ → Bool → Bool
returned_behind [] returned = returned
returned_behind (b ∷ bytes) returned = false

-- a character that stands for itself in content, whatever stands beside it: not `<`, `&`, `]` or `>` (XML 1.0, section 2.4)
abbrev pub IsPlainText : ℕ → Type 0
IsPlainText b = (32 ≤ b) × (b < 128) × (b ≢ 60) × (b ≢ 38) × (b ≢ 93) × (b ≢ 62)

-- a character that stands for itself in a value between such quotes (production 10)
abbrev pub IsPlainValue : ℕ → ℕ → Type 0
IsPlainValue quote b = (32 < b) × (b < 128) × (b ≢ quote) × (b ≢ 60) × (b ≢ 38)

-- `=` and a quote stand first.
abbrev pub IsQuoted : List ℕ → Type 0
IsQuoted bytes = (quote : ℕ) × (more : List ℕ) × IsQuote quote × (bytes ≡ 61 ∷ quote ∷ more)

-- The name stands first, and `>` behind it.
abbrev pub IsClosed : List ℕ → List ℕ → Type 0
IsClosed name bytes = (more : List ℕ) × (bytes ≡ name ++ (62 ∷ more))

-- Behind its `</` the innermost element's end tag goes on so.
pub record IsEndTag (names : List (List ℕ)) (bytes : List ℕ) : Type 0 where
  pub name : List ℕ
  pub outer : List (List ℕ)
  pub innermost : names ≡ name ∷ outer
  pub some : name ≢ []
  pub closed : IsClosed name bytes
