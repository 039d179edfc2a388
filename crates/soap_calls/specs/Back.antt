-- The calls that come back from their texts.
use Rattle.std.specs.Prelude.{◌≡◌, false, []}
use Rattle.tree_grammar.specs.Characters.{IsXmlText}
use Rattle.six_calls.specs.declared.part.Part.{Part}
use Rattle.six_calls.specs.Names.{has}
use Rattle.soap_calls.specs.declared.call.SoapCall.{SoapCall}
use Rattle.soap_calls.specs.Calls.{text_of}

-- the call has no text of a part that isn't its own, and each text is of characters of XML
pub record AreTexts (c : SoapCall) : Type 0 where
  pub own : (p : Part) → has c.kind p ≡ false → text_of c.parts p ≡ []
  pub xml : (p : Part) → IsXmlText (text_of c.parts p)
