-- What is known of all documents that are read: each stands for one thing, or is refused in one way.
use Rattle.std.specs.Prelude.{◌≡◌, ◌≢◌, ℕ, List}
use Rattle.doc_tree.specs.declared.fault.TreeFault.{TreeFault}
use Rattle.document_tags.specs.Faults.{IsTreeText}
use Rattle.instance.specs.Parts.{Parts}
use Rattle.osil_grammar.specs.declared.fault.OsilFault.{OsilFault}
use Rattle.osil_grammar.specs.declared.fault.OsilFault.TheVariants as instance_faults
use Rattle.osil_grammar.specs.Reading as instances
use Rattle.osrl_writing.specs.declared.report.Report.{Report}
use Rattle.osrl_grammar.specs.declared.fault.OsrlFault.{OsrlFault}
use Rattle.osrl_grammar.specs.declared.fault.OsrlFault.TheVariants as result_faults
use Rattle.osrl_grammar.specs.Reading as results

-- bytes are one instance, or are refused by one text
pub record InstancesAreOne : Type 0 where
  pub once : (bytes : List ℕ) (p q : Parts) → instances.IsInstanceText bytes p → instances.IsInstanceText bytes q → p ≡ q
  pub apart : (bytes : List ℕ) (p : Parts) (f : OsilFault) → instances.IsInstanceText bytes p → instances.DecodeFails bytes f → f ≡ instance_faults.Memory
  pub told : (bytes : List ℕ) (f g : OsilFault) (s t : List ℕ) → instances.DecodeFails bytes f → instances.DecodeFails bytes g → instances.IsFaultText f s → instances.IsFaultText g t → s ≡ t

-- what is wrong with a document's tree has one text
abbrev pub TreeFaultsAreToldOnce : Type 0
TreeFaultsAreToldOnce = (document : List ℕ) (f : TreeFault) (s t : List ℕ) → IsTreeText document f s → IsTreeText document f t → s ≡ t

-- bytes are one report, or are refused in one way
pub record ReportsAreOne : Type 0 where
  pub once : (bytes : List ℕ) (r s : Report) → results.IsReportText bytes r → results.IsReportText bytes s → r ≡ s
  pub apart : (bytes : List ℕ) (r : Report) (f : OsrlFault) → results.IsReportText bytes r → results.DecodeFails bytes f → f ≡ result_faults.Memory
  pub refused : (bytes : List ℕ) (f g : OsrlFault) → f ≢ result_faults.Memory → g ≢ result_faults.Memory → results.DecodeFails bytes f → results.DecodeFails bytes g → f ≡ g
