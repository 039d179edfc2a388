-- The content of elements, and what stands round the root (XML 1.0, sections 2.4 to 2.8 and 3.1).
use Rattle.std.specs.Prelude.{◌≡◌, ◌≢◌, ℕ, ◌+◌, ◌≤◌, min, cond, ◌==◌, List, [], ◌∷◌, ◌++◌, map, codes}
use Rattle.std.specs.Char.{to_ascii_lowercase}
use Rattle.tree_grammar.specs.Elements.{Nodes, none, element, chars}
use Rattle.tree_grammar.specs.Characters.{IsSpace, Each, IsName, local_part, Reference, reference_text, reference_chars}
use Rattle.tree_grammar.specs.Tags.{Tag, tag_text, attribute_list}

-- Production 15: characters other than `-`, and `-` with another character after it.
pub data Comment : Type 0 where
  comment_over : Comment
  comment_plain : (c : ℕ) → c ≢ 45 → Comment → Comment
  comment_dash : (c : ℕ) → c ≢ 45 → Comment → Comment

-- A comment's bytes behind `<!--`, and then k.
abbrev pub comment_text : Comment → List ℕ → List ℕ
comment_text comment_over k = 45 ∷ 45 ∷ 62 ∷ k
comment_text (comment_plain c other t) k = c ∷ comment_text t k
comment_text (comment_dash c other t) k = 45 ∷ c ∷ comment_text t k

-- the character stands first
abbrev pub BeginsWith : ℕ → List ℕ → Type 0
BeginsWith x [] = ⊥
BeginsWith x (c ∷ cs) = c ≡ x

-- a text without `?>`
abbrev pub IsInstructionText : List ℕ → Type 0
IsInstructionText [] = Unit {0}
IsInstructionText (c ∷ cs) = (c ≡ 63 → BeginsWith 62 cs → ⊥) × IsInstructionText cs

-- Production 16: a name other than `xml` in any case, and nothing, or white space and a text without `?>`.
pub data Instruction : Type 0 where
  bare : (name : List ℕ) → IsName name → map to_ascii_lowercase name ≢ codes "xml" → Instruction
  with_text : (name : List ℕ) → IsName name → map to_ascii_lowercase name ≢ codes "xml" → (c : ℕ) → IsSpace c → (text : List ℕ) → IsInstructionText text → Instruction

-- An instruction's bytes behind `<?`, and then k.
abbrev pub instruction_text : Instruction → List ℕ → List ℕ
instruction_text (bare name n x) k = name ++ (63 ∷ 62 ∷ k)
instruction_text (with_text name n x c s text t) k = name ++ (c ∷ (text ++ (63 ∷ 62 ∷ k)))

-- how many `]` (up to two) stand just behind this character, where so many stood just before it
abbrev pub brackets : ℕ → ℕ → ℕ
brackets count c = cond (c == 93) (min 2 (count + 1)) 0

-- a text without `]]>`, behind so many `]`
abbrev pub IsSectionText : ℕ → List ℕ → Type 0
IsSectionText count [] = Unit {0}
IsSectionText count (c ∷ cs) = (2 ≤ count → c ≢ 62) × IsSectionText (brackets count c) cs

-- Production 43: character data (14), elements (39), references (67), CDATA sections (18), instructions (16), comments (15).
pub data Content : Type 0 where
  nothing : Content
  char : (c : ℕ) → c ≢ 60 → c ≢ 38 → Content → Content
  reference : Reference → Content → Content
  section : (text : List ℕ) → IsSectionText 0 text → Content → Content
  comment : Comment → Content → Content
  instruction : Instruction → Content → Content
  empty : Tag → Content → Content
  nested : Tag → Content → (space : List ℕ) → Each IsSpace space → Content → Content

-- The bytes of `</name space>`, and then k (production 42).
abbrev pub end_text : List ℕ → List ℕ → List ℕ → List ℕ
end_text name space k = 60 ∷ 47 ∷ (name ++ (space ++ (62 ∷ k)))

-- The content's bytes, and then k.
abbrev pub content_text : Content → List ℕ → List ℕ
content_text nothing k = k
content_text (char c l a more) k = c ∷ content_text more k
content_text (reference r more) k = 38 ∷ reference_text r (content_text more k)
content_text (section text t more) k = codes "<![CDATA[" ++ (text ++ (93 ∷ 93 ∷ 62 ∷ content_text more k))
content_text (comment t more) k = 60 ∷ 33 ∷ 45 ∷ 45 ∷ comment_text t (content_text more k)
content_text (instruction i more) k = 60 ∷ 63 ∷ instruction_text i (content_text more k)
content_text (empty tag more) k = 60 ∷ tag_text tag (47 ∷ 62 ∷ content_text more k)
content_text (nested tag inner space s more) k = 60 ∷ tag_text tag (62 ∷ content_text inner (end_text tag.name space (content_text more k)))

-- Production 14: no `]]>` stands in a run of character data; so many `]` of the run stand just before.
abbrev pub IsClear : ℕ → Content → Type 0
IsClear count nothing = Unit {0}
IsClear count (char c l a more) = (2 ≤ count → c ≢ 62) × IsClear (brackets count c) more
IsClear count (reference r more) = IsClear 0 more
IsClear count (section text t more) = IsClear 0 more
IsClear count (comment t more) = IsClear 0 more
IsClear count (instruction i more) = IsClear 0 more
IsClear count (empty tag more) = IsClear 0 more
IsClear count (nested tag inner space s more) = IsClear 0 inner × IsClear 0 more

-- A character before these nodes: text that touches is one.
abbrev pub put_char : ℕ → Nodes → Nodes
put_char c none = chars (c ∷ []) none
put_char c (element name attributes children more) = chars (c ∷ []) (element name attributes children more)
put_char c (chars text more) = chars (c ∷ text) more

-- Characters before these nodes.
abbrev pub put_chars : List ℕ → Nodes → Nodes
put_chars [] nodes = nodes
put_chars (c ∷ cs) nodes = put_char c (put_chars cs nodes)

-- The nodes of the content: comments and instructions vanish, and an element has its name without a prefix.
abbrev pub content_nodes : Content → Nodes
content_nodes nothing = none
content_nodes (char c l a more) = put_char c (content_nodes more)
content_nodes (reference r more) = put_chars (reference_chars r) (content_nodes more)
content_nodes (section text t more) = put_chars text (content_nodes more)
content_nodes (comment t more) = content_nodes more
content_nodes (instruction i more) = content_nodes more
content_nodes (empty tag more) = element (local_part tag.name) (attribute_list tag.attributes) none (content_nodes more)
content_nodes (nested tag inner space s more) = element (local_part tag.name) (attribute_list tag.attributes) (content_nodes inner) (content_nodes more)

-- What stands behind a start tag's name, attributes and white space (productions 39 and 44).
pub data Body : Type 0 where
  closed : Body
  opened : Content → (space : List ℕ) → Each IsSpace space → Body

-- Its bytes, and then k; `name` is the start tag's.
abbrev pub body_text : Body → List ℕ → List ℕ → List ℕ
body_text closed name k = 47 ∷ 62 ∷ k
body_text (opened inner space s) name k = 62 ∷ content_text inner (end_text name space k)

-- The nodes in it.
abbrev pub body_nodes : Body → Nodes
body_nodes closed = none
body_nodes (opened inner space s) = content_nodes inner

-- No `]]>` stands in a run of its character data.
abbrev pub IsBodyClear : Body → Type 0
IsBodyClear closed = Unit {0}
IsBodyClear (opened inner space s) = IsClear 0 inner

-- Production 27: comments, instructions and white space, before and after the root.
pub data Misc : Type 0 where
  misc_over : Misc
  misc_space : (c : ℕ) → IsSpace c → Misc → Misc
  misc_comment : Comment → Misc → Misc
  misc_instruction : Instruction → Misc → Misc

-- Its bytes, and then k.
abbrev pub misc_text : Misc → List ℕ → List ℕ
misc_text misc_over k = k
misc_text (misc_space c s more) k = c ∷ misc_text more k
misc_text (misc_comment t more) k = 60 ∷ 33 ∷ 45 ∷ 45 ∷ comment_text t (misc_text more k)
misc_text (misc_instruction i more) k = 60 ∷ 63 ∷ instruction_text i (misc_text more k)
