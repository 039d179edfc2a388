-- What an options document says, and which documents are refused (Optimization Services option language).
use Rattle.std.specs.Prelude.{◌≡◌, ◌⊎◌, ℕ, List, []}
use Rattle.tree_grammar.specs.Elements.{Element}
use Rattle.document_tags.specs.Documents.{OfDocument}
use Rattle.decimal_text.specs.Space.{trimmed}
use Rattle.tag_tests.specs.Forms.{AreTaken, AreRefused}
use Rattle.tag_tests.specs.Readers.{marks}
use Rattle.osol_grammar.specs.declared.fault.Refusal.{Refusal}
use Rattle.osol_grammar.specs.declared.options.Options.{Options}
use Rattle.osol_grammar.specs.declared.parse_state.ParseState.{ParseState as State}
use Rattle.osol_grammar.specs.Options.{no_options}
use Rattle.osol_grammar.specs.Table.{start}
use Rattle.osol_grammar.specs.Marked.{osol}

-- the options of the document with this root: all its marks are taken, and say them
abbrev pub IsOptions : Element → Options → Type 0
IsOptions root o = (z : State) × AreTaken osol start (marks root) z × (o ≡ z.options)

-- the document with this root is refused, at the element with this ordinal: the first of its marks that isn't taken refuses so
abbrev pub IsRefused : Element → Refusal → ℕ → Type 0
IsRefused root r n = AreRefused osol start (marks root) (record { refusal = r; at = n })

-- there are no options
abbrev pub IsNoOptions : Options → Type 0
IsNoOptions o = o ≡ no_options

-- white space alone, or nothing
abbrev pub IsBlank : List ℕ → Type 0
IsBlank bytes = trimmed bytes ≡ []

-- the bytes say these options: they are blank and there are none, or else they are a document of them
abbrev pub IsOptionsText : List ℕ → Options → Type 0
IsOptionsText bytes o = (IsBlank bytes × IsNoOptions o) ⊎ ((IsBlank bytes → ⊥) × OfDocument IsOptions bytes o)
