-- What the reader promises on its way.
use Rattle.std.specs.Prelude.{◌≡◌, ℕ, List, [], ◌++◌, Some}
use Rattle.doc_tree.specs.declared.fault.TreeFault.{TreeFault}
use Rattle.doc_tree.specs.declared.fault.TreeFault.TheVariants as tree
use Rattle.os_io.specs.Bodies.{TakesBehind, behind_none, behind_both}
use Rattle.soap_calls.specs.declared.calling.CallReader.{CallReader}
use Rattle.soap_calls.specs.declared.fault.SoapFault.{SoapFault}
use Rattle.soap_calls.specs.declared.fault.SoapFault.TheVariants.{Envelope, Memory}
use Rattle.soap_calls.specs.Leaving.{WasHeard}

-- the reader of a call took these bytes
pub record HasTaken (r : CallReader) (bytes : List ℕ) : Type 0 where
  pub heard : WasHeard r.reader bytes

-- a tree's refusal as it is told
abbrev pub tree_fault : TreeFault → SoapFault
tree_fault tree.Memory = Memory
tree_fault f = Envelope

-- these bytes were taken behind all others, and a refusal, or want of memory, stays
pub record TakesMore (old new : CallReader) (bytes : List ℕ) : Type 0 where
  pub behind : TakesBehind HasTaken old new bytes
  pub stays : (fault : TreeFault) → old.reader.refusal ≡ Some fault → new.reader.refusal ≡ Some fault

-- without a byte it stays
pub more_none : (a : CallReader) → TakesMore a a []
more_none a = record { behind = behind_none HasTaken a; stays = λ fault is. is }

-- bytes behind bytes are both
pub more_both : (a b c : CallReader) (first second : List ℕ) → TakesMore a b first → TakesMore b c second → TakesMore a c (first ++ second)
more_both a b c first second p q = record {
  behind = behind_both HasTaken a b c first second p.behind q.behind;
  stays = λ fault is. q.stays fault (p.stays fault is);
}
