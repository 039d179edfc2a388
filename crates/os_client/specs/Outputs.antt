-- What is written of what a call answered, and with which status.
use Rattle.std.specs.Prelude.{◌≡◌, ℕ, ◌+◌, ◌/◌, ◌%◌, Bool, ◌&&◌, if◌then◌else◌, List, [], ◌∷◌, ◌++◌, bytes_eq, codes, Result, Ok, Err}
use Rattle.six_calls.specs.declared.call.CallKind.{CallKind}
use Rattle.six_calls.specs.Names.{kind_text}
use Rattle.os_client.specs.declared.fault.CallFault.{CallFault}
use Rattle.os_client.specs.declared.fault.CallFault.TheVariants.{ReadFault, WriteFault, Memory, Refused, Http, NoReply}

-- the call that returns `true` or `false`
abbrev pub is_send : CallKind → Bool
is_send kind = bytes_eq (kind_text kind) (codes "send")

-- 1 where `send` returns `false`, and else 0
abbrev pub returned_status : CallKind → List ℕ → ℕ
returned_status kind text = if is_send kind && bytes_eq text (codes "false") then 1 else 0

-- the line that tells a fault: its code and its text
abbrev pub fault_line : List ℕ → List ℕ → List ℕ
fault_line code text = codes "fault " ++ (code ++ (codes " " ++ (text ++ codes "\n")))

-- the digits of a number below 1000, three of them
abbrev pub three_digits : ℕ → List ℕ
three_digits n = (48 + n / 100 % 10) ∷ (48 + n / 10 % 10) ∷ (48 + n % 10) ∷ []

-- the line that tells a status of HTTP (RFC 9110, section 15: it has three digits)
abbrev pub http_line : ℕ → List ℕ
http_line status = codes "http " ++ (three_digits status ++ codes "\n")

-- the text that is due to what a call answered, and the status of the run that writes it: the text that it returns, a line for a
-- fault or another status of HTTP, or the bytes that came where they are no reply. Nothing is due where there is no answer
abbrev pub IsOutputDue : CallKind → Result (List ℕ) CallFault → (status : ℕ) → (due : List ℕ) → Type 0
IsOutputDue kind (Ok text) status due = (status ≡ returned_status kind text) × (due ≡ text)
IsOutputDue kind (Err (Refused code text)) status due = (status ≡ 1) × (due ≡ fault_line code text)
IsOutputDue kind (Err (Http came)) status due = (status ≡ 1) × (due ≡ http_line came)
IsOutputDue kind (Err (NoReply bytes)) status due = (status ≡ 7) × (due ≡ bytes)
IsOutputDue kind (Err ReadFault) status due = ⊥
IsOutputDue kind (Err WriteFault) status due = ⊥
IsOutputDue kind (Err Memory) status due = ⊥
