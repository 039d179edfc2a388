-- Process documents by their marks: the form.
use Rattle.doc_tree.specs.Marks.{Mark}
use Rattle.tag_tests.specs.Forms.{Form}
use Rattle.tag_tests.specs.Kinds.{Kinds, form}
use Rattle.tag_tests.specs.Places.{Kind}
use Rattle.ospl_grammar.specs.declared.place.Place.{Place}
use Rattle.ospl_grammar.specs.declared.parse_state.ParseState.{ParseState}
use Rattle.ospl_grammar.specs.Table.{Test, kind, tests, Leaves}

abbrev pub by_kinds : Kinds ParseState Mark (Kind Place) Test (Unit {0})
by_kinds = record { kind = kind; tests = tests; Fails = λ s k t. Unit {0}; told = λ s t. tt; Leaves = Leaves }

abbrev pub ospl : Form ParseState Mark Test (Unit {0})
ospl = form by_kinds
