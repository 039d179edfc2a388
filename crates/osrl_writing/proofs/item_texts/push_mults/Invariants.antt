use Rattle.osrl_writing.proofs.Names.{◌≡◌, ◌++◌, drop, flat_map, mult_text}
use Rattle.osrl_writing.proofs.item_texts.push_mults.Given as goal

abbrev pub invariant-loop-mult : goal.invariant-loop-mult
invariant-loop-mult l = l.text ++ flat_map mult_text (drop l.mult-index l.mults) ≡ l.fn.text ++ flat_map mult_text l.mults
