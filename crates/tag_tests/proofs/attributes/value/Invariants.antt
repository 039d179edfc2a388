use Rattle.std.proofs.Common.{◌≡◌, drop}
use Rattle.document_tags.specs.Elements.{value_of}
use Rattle.tag_tests.proofs.attributes.value.Given as goal

abbrev pub invariant-loop-k : goal.invariant-loop-k
invariant-loop-k l = value_of l.name (drop l.k l.attributes) ≡ value_of l.name l.attributes
