-- The processes that come back from their texts.
use Rattle.std.specs.Prelude.{◌≤◌, ◌<◌, ◌^◌, length}
use Rattle.std.specs.List.{All}
use Rattle.tree_grammar.specs.Characters.{IsXmlText}
use Rattle.document_tags.specs.Texts.{document_limit}
use Rattle.decimal_text.specs.Count.{most_count}
use Rattle.ospl_grammar.specs.declared.process.Process.{Process}
use Rattle.ospl_grammar.specs.declared.process.Process.TheVariants.{Ask, Statistics}
use Rattle.ospl_grammar.specs.Writing.{process_text}

-- texts are characters of XML, and numbers within their limits
abbrev pub IsReadableProcess : Process → Type 0
IsReadableProcess (Ask text) = IsXmlText text
IsReadableProcess (Statistics busy current total jobs) = (current < 2 ^ 32) × (total ≤ most_count) × All (λ j. IsXmlText j.id) jobs

-- and the text isn't too long
pub record ComesBack (p : Process) : Type 0 where
  pub readable : IsReadableProcess p
  pub short : length (process_text p) ≤ document_limit
