-- How a run of `call` ends.
use Rattle.std.proofs.Common.{◌≡◌, ℕ, ◌≤◌, Bool, true, false, List, Result, Ok, Err, inl, inr, arith, refl, sym, ap, subst}
use Rattle.std.specs.Prelude.{◌&&◌, if◌then◌else◌, bytes_eq, codes}
use Rattle.os_io.specs.Streams.{Tells}
use Rattle.command_answers.specs.Outputs.{IsTold}
use Rattle.six_calls.specs.declared.call.CallKind.{CallKind}
use Rattle.soap_calls.specs.declared.call.SoapCall.{SoapCall}
use Rattle.six_calls.specs.Names.{kind_text}
use Rattle.soap_calls.specs.Writing.{call_text}
use Rattle.os_client.specs.declared.fault.CallFault.{CallFault}
use Rattle.os_client.specs.declared.fault.CallFault.TheVariants.{ReadFault, WriteFault, Memory, Refused, Http, NoReply}
use Rattle.os_client.specs.LinkCalls.{SendsRequest, Hears, Calls}
use Rattle.os_client.specs.Outputs.{IsOutputDue, is_send, returned_status, fault_line, http_line}
use Rattle.os_client.specs.Telling.{EndsSilent, TellsOf}
use Rattle.os_client.specs.Runs.{CallRun, NamesNone, ReadsCall, Links, Hearing, Making, MayLackMemory, CallEnds, answered, unsent, unheard, unasked, no_file, no_link, no_memory}

abbrev Outcome : Type 0
Outcome = Result (List ℕ) CallFault

-- ---- a whole run

module _ (run : CallRun) (call : SoapCall) (brought : ReadsCall run call) (link link_after : Tells) (links : Links run.host run.port run.net run.net_after link link_after) where
  same_name : kind_text call.kind ≡ kind_text run.kind
  same_name = ap (λ (c : SoapCall). kind_text c.kind) brought.call_of.is

  hearing : (outcome : Outcome) → SendsRequest (call_text call) link link_after × Hears (kind_text call.kind) outcome link link_after → Hearing outcome run
  hearing outcome (asks, hears) = record {
    call = call;
    brought = brought;
    link = link;
    link_after = link_after;
    links = links;
    asks = asks;
    hears = subst (λ (name : List ℕ). Hears name outcome link link_after) same_name hears;
  }

  making : (outcome : Outcome) → Calls call outcome link link_after → Making outcome run
  making outcome calls = record { call = call; brought = brought; link = link; link_after = link_after; links = links; calls = calls }

  -- what is due was sent, or not whole
  told_due : (status would : ℕ) (outcome : Outcome) (due : List ℕ) → SendsRequest (call_text call) link link_after × Hears (kind_text call.kind) outcome link link_after → IsOutputDue run.kind outcome would due → IsTold would due status run.output run.output_after
      → CallEnds status run
  told_due status would outcome due heard is (inl (same, sent)) =
      answered outcome due (hearing outcome heard) (subst (λ (s : ℕ). IsOutputDue run.kind outcome s due) (sym same) is) sent
  told_due status would outcome due heard is (inr (four, off)) = unsent outcome would due four (hearing outcome heard) is off

  lacking : (status : ℕ) (outcome : Outcome) → MayLackMemory outcome → Calls call outcome link link_after → EndsSilent 5 status run.output run.output_after → CallEnds status run
  lacking status outcome may calls (five, silent) =
      no_memory five (record { no_file_fault = brought.all_read; made = inr (outcome, may, making outcome calls); silent = silent })

  -- the answer was told
  pub told : (status : ℕ) (outcome : Outcome) → Calls call outcome link link_after → TellsOf run.kind outcome status run.output run.output_after → CallEnds status run
  told status (Ok text) calls tells = told_due status (returned_status run.kind text) (Ok text) text calls (refl, refl) tells
  told status (Err (Refused code text)) calls (inl tells) = told_due status 1 (Err (Refused code text)) (fault_line code text) calls (refl, refl) tells
  told status (Err (Refused code text)) calls (inr none) = lacking status (Err (Refused code text)) tt calls none
  told status (Err (Http came)) calls (inl tells) = told_due status 1 (Err (Http came)) (http_line came) calls (refl, refl) tells
  told status (Err (Http came)) calls (inr none) = lacking status (Err (Http came)) tt calls none
  told status (Err (NoReply bytes)) calls tells = told_due status 7 (Err (NoReply bytes)) bytes calls (refl, refl) tells
  told status (Err ReadFault) calls (three, silent) = unheard three (making (Err ReadFault) calls) silent
  told status (Err WriteFault) calls (four, silent) = unasked four (making (Err WriteFault) calls) silent
  told status (Err Memory) calls none = lacking status (Err Memory) tt calls none

-- ---- the statuses

at_most_one : (b : Bool) → (if b then 1 else 0) ≤ 1
at_most_one true = omega arith
at_most_one false = omega arith

due_status : (kind : CallKind) (outcome : Outcome) (status : ℕ) (due : List ℕ) → IsOutputDue kind outcome status due → (status ≡ 2) → ⊥
due_status kind (Ok text) status due (is, same) two = omega (arith, is, two, at_most_one (is_send kind && bytes_eq text (codes "false")))
due_status kind (Err (Refused code text)) status due (is, same) two = omega (arith, is, two)
due_status kind (Err (Http came)) status due (is, same) two = omega (arith, is, two)
due_status kind (Err (NoReply bytes)) status due (is, same) two = omega (arith, is, two)
due_status kind (Err ReadFault) status due none two = none
due_status kind (Err WriteFault) status due none two = none
due_status kind (Err Memory) status due none two = none

-- a run of `call` doesn't end as one whose words are no command's
pub never_misused : (status : ℕ) (run : CallRun) → CallEnds status run → status ≡ 2 → ⊥
never_misused status run (answered outcome due h is sent) two = due_status run.kind outcome status due is two
never_misused status run (unsent outcome would due four h is off) two = omega (arith, four, two)
never_misused status run (unheard three m s) two = omega (arith, three, two)
never_misused status run (unasked four m s) two = omega (arith, four, two)
never_misused status run (no_file three f) two = omega (arith, three, two)
never_misused status run (no_link six l) two = omega (arith, six, two)
never_misused status run (no_memory five l) two = omega (arith, five, two)

-- ---- the files

-- where no file is named, none failed to be read
pub none_failed : (status : ℕ) (run : CallRun) → CallEnds status run → NamesNone run.names → run.file_faults_after ≡ run.file_faults
none_failed status run (answered outcome due h is sent) none = h.brought.all_read
none_failed status run (unsent outcome would due four h is off) none = h.brought.all_read
none_failed status run (unheard three m s) none = m.brought.all_read
none_failed status run (unasked four m s) none = m.brought.all_read
none_failed status run (no_file three f) none = absurd (f.named none)
none_failed status run (no_link six l) none = l.brought.all_read
none_failed status run (no_memory five l) none = l.no_file_fault
