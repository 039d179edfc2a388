-- What the reader promises.
use Rattle.std.specs.Prelude.{◌≡◌, ◌⊎◌, ℕ, List}
use Rattle.tree_grammar.specs.Elements.{Element}
use Rattle.document_tags.specs.Documents.{FailsAsDocument}
use Rattle.osol_grammar.specs.declared.fault.OsolFault.{OsolFault}
use Rattle.osol_grammar.specs.declared.fault.OsolFault.TheVariants.{Tree, Refused, Memory}
use Rattle.osol_grammar.specs.Meaning.{IsRefused, IsBlank}

-- the fault is the refusal of the document with this root
abbrev pub IsRefusalOfRoot : Element → OsolFault → Type 0
IsRefusalOfRoot root (Tree f) = ⊥
IsRefusalOfRoot root (Refused r n) = IsRefused root r n
IsRefusalOfRoot root Memory = ⊥

-- why bytes say no options: they aren't blank, and are no document or one that is refused; or there was no memory
abbrev pub DecodeFails : List ℕ → OsolFault → Type 0
DecodeFails bytes f = (f ≡ Memory) ⊎ ((IsBlank bytes → ⊥) × FailsAsDocument Tree IsRefusalOfRoot bytes f)
