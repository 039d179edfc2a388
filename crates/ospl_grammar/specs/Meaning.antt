-- What a process document says (Optimization Services process language).
use Rattle.std.specs.Prelude.{◌≡◌, ℕ, Option, None, Some, List}
use Rattle.tree_grammar.specs.Elements.{Element}
use Rattle.document_tags.specs.Documents.{OfDocument}
use Rattle.tag_tests.specs.Forms.{AreTaken}
use Rattle.tag_tests.specs.Readers.{marks}
use Rattle.ospl_grammar.specs.declared.process.Process.{Process}
use Rattle.ospl_grammar.specs.declared.process.Process.TheVariants.{Ask}
use Rattle.ospl_grammar.specs.declared.parse_state.ParseState.{ParseState}
use Rattle.ospl_grammar.specs.Table.{start}
use Rattle.ospl_grammar.specs.Marked.{ospl}

-- what the first request asks, if there is one, and else the first whole statistics, if there are some
abbrev pub asked_or_told : Option (List ℕ) → Option Process → Option Process
asked_or_told (Some action) told = Some (Ask action)
asked_or_told None told = told

-- all marks of a document with this root are taken, and say this, or nothing
abbrev pub RootSays : Element → Option Process → Type 0
RootSays root o = (z : ParseState) × AreTaken ospl start (marks root) z × (o ≡ asked_or_told z.asked z.told)

-- the document with this root says this
abbrev pub IsProcess : Element → Process → Type 0
IsProcess root p = RootSays root (Some p)

-- the bytes are the document of a process
abbrev pub IsProcessText : List ℕ → Process → Type 0
IsProcessText bytes p = OfDocument IsProcess bytes p
