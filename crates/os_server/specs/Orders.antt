-- What the body of a request asks of the table of jobs, or why it asks nothing (SOAP 1.1, sections 4 and 4.4, and the calls of the Optimization Services).
use Rattle.std.specs.Prelude.{◌≡◌, ◌≢◌, ◌⊎◌, ℕ, ◌<◌, ◌^◌, List, [], ◌++◌, Option, None, Some, codes}
use Rattle.job_table.specs.Ids.{id_text}
use Rattle.six_calls.specs.declared.part.Part as given
use Rattle.soap_calls.specs.declared.call.SoapCall.{SoapCall}
use Rattle.soap_calls.specs.declared.fault.SoapFault.TheVariants as soap
use Rattle.six_calls.specs.Names.{part_text}
use Rattle.soap_calls.specs.Calls.{IsCallText}
use Rattle.soap_calls.specs.Refusals.{CallFails}
use Rattle.osol_grammar.specs.declared.options.Options.{Options}
use Rattle.osol_grammar.specs.declared.fault.OsolFault.{OsolFault}
use Rattle.osol_grammar.specs.Meaning.{IsOptionsText}
use Rattle.osol_grammar.specs.Reading as osol_reading
use Rattle.osol_grammar.specs.Texts as osol_texts
use Rattle.ospl_grammar.specs.declared.process.Process.{Process}
use Rattle.ospl_grammar.specs.declared.fault.OsplFault.{OsplFault}
use Rattle.ospl_grammar.specs.Meaning.{IsProcessText}
use Rattle.ospl_grammar.specs.Refusals as ospl
use Rattle.ospl_grammar.specs.Table.{text_or_none}
use Rattle.ospl_grammar.specs.Texts as ospl_texts
use Rattle.os_server.specs.declared.order.Order.{Order}
use Rattle.os_server.specs.declared.fault.FaultCode.{FaultCode}
use Rattle.os_server.specs.declared.fault.FaultCode.TheVariants as codes_of
use Rattle.os_server.specs.declared.fault.OrderFault.{OrderFault}
use Rattle.os_server.specs.declared.fault.OrderFault.TheVariants as no

-- a text names the job with this number, or none
abbrev pub Names : List ℕ → Option ℕ → Type 0
Names id (Some n) = (n < 2 ^ 64) × (id ≡ id_text n)
Names id None = (m : ℕ) → m < 2 ^ 64 → id ≡ id_text m → ⊥

-- the job that options name, whose name is empty where they have none
abbrev pub NamesJob : Options → Option ℕ → Type 0
NamesJob o job = Names (text_or_none o.job) job

-- what a call asks of this job, or of none
abbrev pub order_of : SoapCall → Option ℕ → Order
order_of call job = record { kind = call.kind; job = job; osil = call.parts.osil; osol = call.parts.osol }

-- a call with these options asks this, of the job that they name
abbrev pub IsAsked : SoapCall → Options → Order → Type 0
IsAsked call o order = (job : Option ℕ) × NamesJob o job × (order ≡ order_of call job)

-- the text of a process is empty, as that of each call is that has none, or says one, whatever it asks
abbrev pub SaysProcess : List ℕ → Type 0
SaysProcess text = (text ≡ []) ⊎ ((p : Process) × IsProcessText text p)

-- a call asks this: its options and its process are read, and nothing of them is refused
pub record Orders (call : SoapCall) (order : Order) : Type 0 where
  pub options : Options
  pub said : IsOptionsText call.parts.osol options
  pub process : SaysProcess call.parts.ospl
  pub asked : IsAsked call options order

-- a body asks this
pub record Asks (body : List ℕ) (order : Order) : Type 0 where
  pub call : SoapCall
  pub is_call : IsCallText body call
  pub orders : Orders call order

-- the code of a fault, behind `soap:`
abbrev pub code_text : FaultCode → List ℕ
code_text codes_of.Call = codes "Client.Call"
code_text codes_of.Part = codes "Client.Part"
code_text codes_of.Options = codes "Client.Options"
code_text codes_of.Process = codes "Client.Process"
code_text codes_of.Full = codes "Server.Full"
code_text codes_of.Spent = codes "Server.Spent"
code_text codes_of.Disk = codes "Server.Disk"

-- a call's options are refused, and this text says why
abbrev pub SaysOptionsRefused : SoapCall → List ℕ → Type 0
SaysOptionsRefused call text =
    (f : OsolFault) × osol_reading.DecodeFails call.parts.osol f × osol_texts.IsFaultText f text

-- the options of a call are read, its process isn't empty and is refused, and this text says why
pub record RefusesProcess (call : SoapCall) (text : List ℕ) : Type 0 where
  pub said : Options
  pub says : IsOptionsText call.parts.osol said
  pub full : call.parts.ospl ≢ []
  pub fault : OsplFault
  pub fails : ospl.DecodeFails call.parts.ospl fault
  pub told : ospl_texts.IsFaultText fault text

-- the options of a call are refused, or else its process
abbrev pub RefusesCall : SoapCall → FaultCode → List ℕ → Type 0
RefusesCall call codes_of.Call text = ⊥
RefusesCall call codes_of.Part text = ⊥
RefusesCall call codes_of.Options text = SaysOptionsRefused call text
RefusesCall call codes_of.Process text = RefusesProcess call text
RefusesCall call codes_of.Full text = ⊥
RefusesCall call codes_of.Spent text = ⊥
RefusesCall call codes_of.Disk text = ⊥

-- a body is an envelope whose call is refused, with this code and this text. Of the codes the first that fits is told
abbrev pub Faults : List ℕ → FaultCode → List ℕ → Type 0
Faults body codes_of.Call text =
    (name : List ℕ) × CallFails body (soap.Call name) × (text ≡ codes "unknown call " ++ name)
Faults body codes_of.Part text =
    (p : given.Part) × CallFails body (soap.Part p) × (text ≡ codes "part " ++ part_text p)
Faults body codes_of.Options text = (c : SoapCall) × IsCallText body c × RefusesCall c codes_of.Options text
Faults body codes_of.Process text = (c : SoapCall) × IsCallText body c × RefusesCall c codes_of.Process text
Faults body codes_of.Full text = ⊥
Faults body codes_of.Spent text = ⊥
Faults body codes_of.Disk text = ⊥

-- why a body asks nothing: it is no envelope of a call, or one of a call that is refused, or there was no memory
abbrev pub AsksNothing : List ℕ → OrderFault → Type 0
AsksNothing body no.Envelope = CallFails body soap.Envelope
AsksNothing body (no.Fault code text) = Faults body code text
AsksNothing body no.Memory = Unit {0}

-- the same of a call that was read
abbrev pub OrdersNothing : SoapCall → OrderFault → Type 0
OrdersNothing call no.Envelope = ⊥
OrdersNothing call (no.Fault code text) = RefusesCall call code text
OrdersNothing call no.Memory = Unit {0}
