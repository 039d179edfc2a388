-- Options documents by their marks: the form.
use Rattle.doc_tree.specs.Marks.{Mark}
use Rattle.tag_tests.specs.Forms.{Form}
use Rattle.tag_tests.specs.Kinds.{Kinds, form}
use Rattle.tag_tests.specs.Places.{Kind}
use Rattle.osol_grammar.specs.declared.fault.Refusal.{Refusal}
use Rattle.osol_grammar.specs.declared.place.Place.{Place}
use Rattle.osol_grammar.specs.declared.parse_state.ParseState.{ParseState as State}
use Rattle.osol_grammar.specs.declared.parse_state.Refused.{Refused}
use Rattle.osol_grammar.specs.Table.{kind, tests, Fails, told, Leaves}

abbrev pub by_kinds : Kinds State Mark (Kind Place) Refusal Refused
by_kinds = record { kind = kind; tests = tests; Fails = Fails; told = told; Leaves = Leaves }

abbrev pub osol : Form State Mark Refusal Refused
osol = form by_kinds
