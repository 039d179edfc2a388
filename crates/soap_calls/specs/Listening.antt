-- One who hears of an envelope in pieces.
use Rattle.std.specs.Prelude.{Option}
use Rattle.doc_tree.specs.Feeding.{Feeding}
use Rattle.doc_tree.specs.declared.fault.TreeFault.{TreeFault}
use Rattle.soap_calls.specs.declared.parse_state.ParseState.{ParseState}

-- where it stands in the bytes, what the marks so far left, and why it takes no more bytes
pub record Listening : Type 0 where
  pub reading : Feeding
  pub parse_state : ParseState
  pub refusal : Option TreeFault

abbrev pub listening : Feeding → ParseState → Listening
listening reading parse_state = record { reading = reading; parse_state = parse_state; refusal = reading.refusal }
