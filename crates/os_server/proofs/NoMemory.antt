-- A conversation for which there was no memory before anything was read.
use Rattle.std.proofs.Common.{◌≡◌, ℕ, List, [], ◌∷◌, ◌++◌, Some, Ok, Err, refl, sym, ◌∙◌, ap, inl, arith}
use Rattle.os_io.specs.Streams.{Tells, Sends}
use Rattle.os_io.specs.declared.streams.Failed.{Failed}
use Rattle.http_link.specs.Requests.{IsHeadPart}
use Rattle.http_link.specs.Lines.{print_head}
use Rattle.job_table.specs.History.{MoveEntry}
use Rattle.os_server.specs.declared.reply.HttpReply.TheVariants.{NoMemory}
use Rattle.os_server.specs.declared.serve.Served.{Served}
use Rattle.os_server.specs.declared.serve.Served.TheVariants.{WriteFault, Memory}
use Rattle.os_server.specs.Talk.{text_of_reply, Serves, both_ends}
use Rattle.os_server.specs.Serving.{ComesOnLink, ServesOne}
use Rattle.os_server.proofs.Steps.{read_none}
use Rattle.job_runs.proofs.Judgements.{Made}
use Rattle.os_server.proofs.Pieces.{Wakes}
use Rattle.os_server.proofs.Rounds.{followed, unwritten, sends_between, none_yet, last_one}

-- no move was made
abbrev None : List MoveEntry → Type 0
None es = es ≡ []

none_then : (a b : List MoveEntry) → None a → None b → None (a ++ b)
none_then a b p q = ap (λ s. s ++ b) p ∙ q

nothing_left : (a b : List ℕ) → [] ≡ a ++ b → b ≡ []
nothing_left [] b is = sym is
nothing_left (x ∷ a) b is = cc

nothing_is_part : IsHeadPart []
nothing_is_part = record { fits = omega arith; nothing_past = λ h rest are is. nothing_left (print_head h) rest is }

nothing_came : (made : Made) (wakes : Wakes) (i o : Tells) → ComesOnLink made wakes None (Ok NoMemory) (both_ends i o) (both_ends i o)
nothing_came made wakes i o = record {
  taken = [];
  own = [];
  shows = inl (nothing_is_part, refl);
  moves = refl;
  read = read_none i.left;
  counted = refl;
  output = record { written = refl; handed_on = refl; write_faults = refl };
}

module _ (made : Made) (wakes : Wakes) (i o p : Tells) where
  alone : (end : Served) → ServesOne made wakes None (Some end) (both_ends i o) (both_ends i p) → Serves made wakes None end (both_ends i o) (both_ends i p)
  alone end one =
      last_one made wakes None None None end 0 (both_ends i o) (both_ends i o) (both_ends i p) none_then (omega arith) (none_yet made wakes None (both_ends i o) refl) one

  -- 503 was sent
  pub turned : (x : Unit {0}) → Sends {X = Unit {0}} {E = Failed} (Ok x) (text_of_reply NoMemory) o p → Serves made wakes None Memory (both_ends i o) (both_ends i p)
  turned x sent = alone Memory
      (followed made wakes None None None NoMemory (Some Memory) x (both_ends i o) (both_ends i o) (both_ends i p) none_then (nothing_came made wakes i o)
      (sends_between _ _ i o p sent) ([], refl, (refl, refl)))

  -- or a first part of it
  pub cut_off : (e : Failed) → Sends {X = Unit {0}} {E = Failed} (Err e) (text_of_reply NoMemory) o p → Serves made wakes None WriteFault (both_ends i o) (both_ends i p)
  cut_off e sent = alone WriteFault
      (unwritten made wakes None NoMemory e (both_ends i o) (both_ends i o) (both_ends i p) (nothing_came made wakes i o) (sends_between _ _ i o p sent))
