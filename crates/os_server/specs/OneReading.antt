-- Bytes are read in one way: what the laws of requests, of calls and of their parts say of it.
use Rattle.std.specs.Prelude.{◌≡◌, ◌≢◌, ℕ, Bool, List, ◌++◌, Result, Err}
use Rattle.doc_tree.specs.declared.fault.TreeFault.{TreeFault}
use Rattle.document_tags.specs.Faults.{IsTreeText}
use Rattle.http_link.specs.declared.refusal.Refusal.{Refusal}
use Rattle.http_link.specs.declared.checks.Accepted.{Accepted}
use Rattle.http_link.specs.Checks.{Head}
use Rattle.http_link.specs.Requests.{IsRequest, IsCut, EndedBetween}
use Rattle.soap_calls.specs.declared.call.SoapCall.{SoapCall}
use Rattle.soap_calls.specs.declared.fault.SoapFault.{SoapFault}
use Rattle.soap_calls.specs.declared.fault.SoapFault.TheVariants as soap
use Rattle.soap_calls.specs.Calls.{IsCallText}
use Rattle.soap_calls.specs.Refusals.{CallFails}
use Rattle.osol_grammar.specs.declared.options.Options.{Options}
use Rattle.osol_grammar.specs.declared.fault.OsolFault.{OsolFault}
use Rattle.osol_grammar.specs.declared.fault.OsolFault.TheVariants as osol
use Rattle.osol_grammar.specs.Meaning.{IsOptionsText}
use Rattle.osol_grammar.specs.Reading as options
use Rattle.ospl_grammar.specs.declared.process.Process.{Process}
use Rattle.ospl_grammar.specs.declared.fault.OsplFault.{OsplFault}
use Rattle.ospl_grammar.specs.declared.fault.OsplFault.TheVariants as ospl
use Rattle.ospl_grammar.specs.Meaning.{IsProcessText}
use Rattle.ospl_grammar.specs.Refusals as processes

-- bytes begin with one head at most and with one request at most, and bytes that end there with none
pub record Requests : Type 0 where
  pub heads : (head other rest more : List ℕ) (outcome again : Result Accepted Refusal) → Head head outcome → Head other again
      → head ++ rest ≡ other ++ more → head ≡ other
  pub outcomes : (head other rest more : List ℕ) (outcome again : Result Accepted Refusal) → Head head outcome → Head other again
      → head ++ rest ≡ other ++ more → outcome ≡ again
  pub requests : (request other rest more body again : List ℕ) (close shut : Bool) → IsRequest request close body → IsRequest other shut again
      → request ++ rest ≡ other ++ more → request ≡ other
  pub bodies : (request other rest more body again : List ℕ) (close shut : Bool) → IsRequest request close body → IsRequest other shut again
      → request ++ rest ≡ other ++ more → body ≡ again
  pub closes : (request other rest more body again : List ℕ) (close shut : Bool) → IsRequest request close body → IsRequest other shut again
      → request ++ rest ≡ other ++ more → close ≡ shut
  pub apart : (request head rest more body : List ℕ) (close : Bool) (refusal : Refusal) → IsRequest request close body → Head head (Err refusal)
      → request ++ rest ≡ head ++ more → ⊥
  pub cut_whole : (bytes request rest body : List ℕ) (close : Bool) → IsCut bytes → IsRequest request close body → bytes ≡ request ++ rest → ⊥
  pub cut_refused : (bytes head rest : List ℕ) (refusal : Refusal) → IsCut bytes → Head head (Err refusal) → bytes ≡ head ++ rest → ⊥
  pub cut_ended : (bytes : List ℕ) → IsCut bytes → EndedBetween bytes → ⊥
  pub ended_whole : (bytes request rest body : List ℕ) (close : Bool) → EndedBetween bytes → IsRequest request close body → bytes ≡ request ++ rest → ⊥
  pub ended_refused : (bytes head rest : List ℕ) (refusal : Refusal) → EndedBetween bytes → Head head (Err refusal) → bytes ≡ head ++ rest → ⊥

-- bytes are one call at most and say one kind of options, those that do aren't refused, as those that say a process aren't, and
-- others are refused in one way, told in one text
pub record Bodies : Type 0 where
  pub call : (bytes : List ℕ) (c d : SoapCall) → IsCallText bytes c → IsCallText bytes d → c ≡ d
  pub options_read : (bytes : List ℕ) (o p : Options) → IsOptionsText bytes o → IsOptionsText bytes p → o ≡ p
  pub options_refusals : (bytes : List ℕ) (f g : OsolFault) → f ≢ osol.Memory → g ≢ osol.Memory → options.DecodeFails bytes f
      → options.DecodeFails bytes g → f ≡ g
  pub options_apart : (bytes : List ℕ) (o : Options) (f : OsolFault) → IsOptionsText bytes o → options.DecodeFails bytes f → f ≡ osol.Memory
  pub process_refusals : (bytes : List ℕ) (f g : OsplFault) → f ≢ ospl.Memory → g ≢ ospl.Memory → processes.DecodeFails bytes f
      → processes.DecodeFails bytes g → f ≡ g
  pub process_apart : (bytes : List ℕ) (p : Process) (f : OsplFault) → IsProcessText bytes p → processes.DecodeFails bytes f → f ≡ ospl.Memory
  pub refusals : (bytes : List ℕ) (f g : SoapFault) → f ≢ soap.Memory → g ≢ soap.Memory → CallFails bytes f → CallFails bytes g → f ≡ g
  pub apart : (bytes : List ℕ) (c : SoapCall) (f : SoapFault) → IsCallText bytes c → CallFails bytes f → f ≡ soap.Memory
  pub tree_texts : (document : List ℕ) (f : TreeFault) (s t : List ℕ) → IsTreeText document f s → IsTreeText document f t → s ≡ t
