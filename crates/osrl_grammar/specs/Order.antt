-- The places of refusals in the order in which they are told, where several are decided at one mark. A tree's and want of memory are decided at none.
use Rattle.std.specs.Prelude.{ℕ}
use Rattle.osrl_grammar.specs.declared.fault.OsrlFault.{OsrlFault}
use Rattle.osrl_grammar.specs.declared.fault.OsrlFault.TheVariants.{Tree, Root, Missing, Item, Count, Number, Wide, Memory}

abbrev pub number : OsrlFault → ℕ
number (Tree f) = 0
number Root = 1
number (Item n) = 2
number (Number n) = 3
number (Wide n) = 4
number Count = 5
number Missing = 6
number Memory = 7
