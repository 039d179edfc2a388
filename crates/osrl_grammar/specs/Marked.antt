-- Result documents by their marks: the form, which roots report what, and which are refused.
use Rattle.std.specs.Prelude.{◌≡◌}
use Rattle.tree_grammar.specs.Elements.{Element}
use Rattle.doc_tree.specs.Marks.{Mark}
use Rattle.tag_tests.specs.Forms.{Form, AreTaken, AreRefused}
pub use Rattle.tag_tests.specs.Readers.{marks}
use Rattle.osrl_writing.specs.declared.report.Report.{Report}
use Rattle.osrl_grammar.specs.declared.fault.OsrlFault.{OsrlFault}
use Rattle.osrl_grammar.specs.ParseState.{State, start}
use Rattle.osrl_grammar.specs.Table.{Test, kind, tests, told}
use Rattle.osrl_grammar.specs.Failing.{Fails}
use Rattle.osrl_grammar.specs.Leaving.{Leaves}

-- THE FORM of result documents: the table, when its tests fail, and what a mark leaves
abbrev pub osrl : Form State Mark Test OsrlFault
osrl = record { tests = λ s m. tests (kind s m); Fails = λ s m. Fails s; told = λ s m. told s; Becomes = λ s m z. Leaves s (kind s m) z }

-- all are taken, and this is what they say
abbrev pub IsReport : Element → Report → Type 0
IsReport root r = (z : State) × AreTaken osrl start (marks root) z × (r ≡ z.report)

-- the first that isn't taken refuses so
abbrev pub IsRefused : Element → OsrlFault → Type 0
IsRefused root f = AreRefused osrl start (marks root) f
