-- Which documents are refused as processes, and why.
use Rattle.std.specs.Prelude.{◌≡◌, ◌⊎◌, ℕ, None, List}
use Rattle.tree_grammar.specs.Elements.{Element}
use Rattle.document_tags.specs.Documents.{FailsAsDocument}
use Rattle.tag_tests.specs.Forms.{AreRefused}
use Rattle.tag_tests.specs.Readers.{marks}
use Rattle.ospl_grammar.specs.declared.fault.OsplFault.{OsplFault}
use Rattle.ospl_grammar.specs.declared.fault.OsplFault.TheVariants.{Tree, Root, Missing, Memory}
use Rattle.ospl_grammar.specs.Table.{start}
use Rattle.ospl_grammar.specs.Marked.{ospl}
use Rattle.ospl_grammar.specs.Meaning.{RootSays}

-- the document with this root is refused: a mark isn't taken, or all are and nothing is said; the tree's own refusals come before, and want of memory is none
abbrev pub IsRefused : Element → OsplFault → Type 0
IsRefused root (Tree f) = ⊥
IsRefused root Root = AreRefused ospl start (marks root) tt
IsRefused root Missing = RootSays root None
IsRefused root Memory = ⊥

-- why bytes say no process: they are no document, or one that is refused; or there was no memory
abbrev pub DecodeFails : List ℕ → OsplFault → Type 0
DecodeFails bytes f = (f ≡ Memory) ⊎ FailsAsDocument Tree IsRefused bytes f
