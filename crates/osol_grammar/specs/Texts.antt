-- The texts of refusals, as a reply or a message tells them.
use Rattle.std.specs.Prelude.{◌≡◌, ℕ, List, ◌++◌, codes}
use Rattle.doc_tree.specs.Words.{tree_words}
use Rattle.document_tags.specs.Faults.{refusal_at, IsTreeText}
use Rattle.osol_grammar.specs.declared.fault.Refusal.{Refusal}
use Rattle.osol_grammar.specs.declared.fault.Refusal.TheVariants.{Root, JobTwice, TimeTwice, BadUnit, BadTime, BadIndex, IndexTwice, BadValue, BadLimit, BadGap, LongJob}
use Rattle.osol_grammar.specs.declared.fault.OsolFault.{OsolFault}
use Rattle.osol_grammar.specs.declared.fault.OsolFault.TheVariants.{Tree, Refused, Memory}

abbrev pub refusal_name : Refusal → List ℕ
refusal_name Root = codes "Root"
refusal_name JobTwice = codes "JobTwice"
refusal_name TimeTwice = codes "TimeTwice"
refusal_name BadUnit = codes "BadUnit"
refusal_name BadTime = codes "BadTime"
refusal_name BadIndex = codes "BadIndex"
refusal_name IndexTwice = codes "IndexTwice"
refusal_name BadValue = codes "BadValue"
refusal_name BadLimit = codes "BadLimit"
refusal_name BadGap = codes "BadGap"
refusal_name LongJob = codes "LongJob"

-- what a fault displays
abbrev pub fault_words : OsolFault → List ℕ
fault_words (Tree f) = codes "osol " ++ tree_words f
fault_words (Refused r n) = refusal_at (codes "osol") (refusal_name r) n
fault_words Memory = codes "there was no memory"

-- the text of a fault; want of memory has none
abbrev pub IsFaultText : OsolFault → List ℕ → Type 0
IsFaultText (Tree f) text = IsTreeText (codes "osol") f text
IsFaultText (Refused r n) text = text ≡ refusal_at (codes "osol") (refusal_name r) n
IsFaultText Memory text = ⊥
