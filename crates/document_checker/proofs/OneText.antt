-- Why documents aren't accepted has one text.
use Rattle.std.proofs.Common.{◌≡◌, ◌∙◌, ℕ, List, ap, sym}
use Rattle.std.specs.Prelude.{codes}
use Rattle.osil_grammar.specs.Reading as instances
use Rattle.osil_grammar.specs.declared.fault.OsilFault.{OsilFault}
use Rattle.osil_grammar.specs.declared.fault.OsilFault.TheVariants as instance_faults
use Rattle.osrl_grammar.specs.Texts as results
use Rattle.osrl_grammar.specs.declared.fault.OsrlFault.{OsrlFault}
use Rattle.osrl_grammar.specs.declared.fault.OsrlFault.TheVariants as result_faults
use Rattle.document_checker.specs.declared.fault.CheckFault.{CheckFault}
use Rattle.document_checker.specs.declared.fault.CheckFault.TheVariants as faults
use Rattle.document_checker.specs.Texts.{quoted, IsCheckFaultText}
use Rattle.document_checker.specs.Grounds.{TreeFaultsAreToldOnce}

pub same_quote : (name s t text other : List ℕ) → s ≡ t → text ≡ quoted name s → other ≡ quoted name t → text ≡ other
same_quote name s t text other same h k = h ∙ ap (quoted name) same ∙ sym k

module _ (once : TreeFaultsAreToldOnce) where
  pub instance_told : (f : OsilFault) (s t : List ℕ) → instances.IsFaultText f s → instances.IsFaultText f t → s ≡ t
  instance_told (instance_faults.Tree f) s t h k = once (codes "osil") f s t h k
  instance_told (instance_faults.Refused r at) s t h k = h ∙ sym k
  instance_told instance_faults.Memory s t h k = absurd h

  pub result_told : (f : OsrlFault) (s t : List ℕ) → results.IsFaultText f s → results.IsFaultText f t → s ≡ t
  result_told (result_faults.Tree f) s t h k = once (codes "osrl") f s t h k
  result_told result_faults.Root s t h k = h ∙ sym k
  result_told result_faults.Missing s t h k = h ∙ sym k
  result_told (result_faults.Item n) s t h k = h ∙ sym k
  result_told result_faults.Count s t h k = h ∙ sym k
  result_told (result_faults.Number n) s t h k = h ∙ sym k
  result_told (result_faults.Wide n) s t h k = h ∙ sym k
  result_told result_faults.Memory s t h k = absurd h

  pub fault_told : (f : CheckFault) (s t : List ℕ) → IsCheckFaultText f s → IsCheckFaultText f t → s ≡ t
  fault_told (faults.Instance f) s t (told, h, e) (said, k, d) = same_quote (codes "Instance") told said s t (instance_told f told said h k) e d
  fault_told (faults.Result f) s t (told, h, e) (said, k, d) = same_quote (codes "Result") told said s t (result_told f told said h k) e d
  fault_told (faults.Claim r) s t h k = h ∙ sym k
  fault_told faults.Memory s t h k = absurd h
