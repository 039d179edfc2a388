-- One request after another.
use Rattle.std.proofs.Common.{◌≡◌, ℕ, ◌+◌, ◌<◌, true, false, List, [], ◌∷◌, ◌++◌, length, Option, Some, None, Result, Ok, Err, refl, sym, ◌∙◌, ap, subst, inl, inr, length-append, append-nil}
use Rattle.std.specs.Prelude.{All}
use Rattle.std.proofs.lemmas.List.Elements.{All-nil, All-push}
use Rattle.os_io.specs.Streams.{Tells, BothTold, IsPart, Appends, AppendsPart, Grows, HasRisen, SameInput, SameOutput, Sends}
use Rattle.os_io.specs.declared.streams.Failed.{Failed}
use Rattle.os_io.proofs.Pieces.{grows_same, grows_on}
use Rattle.http_link.specs.declared.requests.Incoming.{Incoming}
use Rattle.http_link.specs.declared.requests.Incoming.TheVariants as incoming
use Rattle.http_link.specs.declared.requests.Head.{Head}
use Rattle.http_link.specs.declared.requests.LinkFault.{LinkFault}
use Rattle.http_link.specs.declared.requests.LinkFault.TheVariants as lost
use Rattle.http_link.specs.Pieces.{TakesPieces}
use Rattle.http_link.specs.Requests.{CountsFault, ShowsTaken, EndsWith, AnswersTaken as Reading}
use Rattle.soap_calls.specs.declared.calling.CallReader.{CallReader}
use Rattle.http_link.proofs.OneRequest.{begun_alone}
use Rattle.http_link.proofs.Pieces.{pieces_taken}
use Rattle.soap_calls.specs.Reading.{HasTaken, TakesMore, more_none, more_both}
use Rattle.job_table.specs.History.{MoveEntry}
use Rattle.os_server.specs.declared.reply.HttpReply.{HttpReply}
use Rattle.os_server.specs.declared.reply.HttpReply.TheVariants.{Answer, Refused, NoMemory}
use Rattle.os_server.specs.declared.serve.Served.{Served}
use Rattle.os_server.specs.declared.serve.Served.TheVariants.{Ended, CutShort, ReadFault, WriteFault, Memory}
use Rattle.os_server.specs.Talk.{Part, part, then, all_of, ReadsBytes, AtEnd, most_requests, text_of_reply, IsReplyDue, IsExchange, EndsTalk, HandsOnAll, Accounts, Serves, both_ends}
use Rattle.os_server.specs.Serving.{IsReplied, AnswersCame, IsFinished, AnswersOne, FollowsReply, CameWithDue, CountsCame, ComesOnLink, AccountsOne, ServesOne}
use Rattle.job_runs.proofs.Judgements.{Made, Joins}
use Rattle.os_server.proofs.Pieces.{Wakes}
use Rattle.os_server.proofs.Steps.{read_then, wrote_then, at_end_then, read_none, wrote_none, read_of, hands_then, then_none, all_more}
use Rattle.os_server.proofs.Replies.{due}

abbrev Bytes : Type 0
Bytes = Option (List ℕ)

-- ---- what came

-- a request that is whole, and whose body was read as it came
whole_comes : (made : Made) (wakes : Wakes) (did : List MoveEntry → Type 0) (To : List ℕ → Type 0) (read : CallReader) (head : Head) (reply : HttpReply)
    (old new : Tells) → ((bytes : List ℕ) → To bytes → HasTaken read bytes) → Reading To (Ok (incoming.Whole head)) old.left new.left
    → new.read_faults ≡ old.read_faults → SameOutput old new
    → ((bytes : List ℕ) → HasTaken read bytes → (own : List MoveEntry) × did own × IsReplied made wakes bytes head.close own reply)
    → ComesOnLink made wakes did (Ok reply) old new
whole_comes made wakes did To read head reply old new took whole counted output replied =
    let body = whole.1.0 in
    let done = replied body (took body whole.1.3) in
    record {
      taken = whole.0;
      own = done.0;
      shows = due made wakes whole.0 body head.close done.0 reply whole.1.1 done.2;
      moves = done.1;
      read = read_of _ old.left new.left whole.0 whole.2;
      counted = counted;
      output = output;
    }

end_of : (came : Result Incoming LinkFault) (x y : Bytes) (taken : List ℕ) → BothTold x y (λ before after. (before ≡ taken ++ after) × EndsWith came after)
    → BothTold x y (λ before after. EndsWith came after)
end_of came None y taken p = tt
end_of came (Some x) None taken p = p
end_of came (Some x) (Some y) taken p = p.1

-- what asks nothing, and how it is answered
quiet_comes : (made : Made) (wakes : Wakes) (did : List MoveEntry → Type 0) (To : List ℕ → Type 0) (came : Result Incoming LinkFault) (quiet answer : Result HttpReply Served)
    (old new : Tells) → did [] × (answer ≡ quiet) → Reading To came old.left new.left → SameOutput old new → CountsCame quiet old.read_faults new.read_faults
    → ((taken : List ℕ) → ShowsTaken To came taken → BothTold old.left new.left (λ before after. EndsWith came after) → CameWithDue made wakes quiet (AtEnd old.left new.left) taken [])
    → ComesOnLink made wakes did answer old new
quiet_comes made wakes did To came quiet answer old new (stays, is) got output counted shows =
    subst (λ (r : Result HttpReply Served). ComesOnLink made wakes did r old new) (sym is)
    (record {
      taken = got.0;
      own = [];
      shows = shows got.0 got.1 (end_of came old.left new.left got.0 got.2);
      moves = stays;
      read = read_of _ old.left new.left got.0 got.2;
      counted = counted;
      output = output;
    })

-- what was read, with a body that had taken nothing before, and how it is answered
pub comes : (made : Made) (wakes : Wakes) (did : List MoveEntry → Type 0) (fresh read : CallReader) (came : Result Incoming LinkFault) (answer : Result HttpReply Served)
    (old new : Tells) → HasTaken fresh [] → Reading (TakesPieces TakesMore fresh read) came old.left new.left → CountsFault came old.read_faults new.read_faults → SameOutput old new
    → AnswersCame made wakes did read came answer → ComesOnLink made wakes did answer old new
comes made wakes did fresh read (Ok (incoming.Whole head)) (Ok reply) old new none got counted output replied =
    whole_comes made wakes did (TakesPieces TakesMore fresh read) read head reply old new (λ bytes pieces. (pieces_taken TakesMore more_none more_both fresh pieces).behind [] none) got counted output replied
comes made wakes did fresh read (Ok (incoming.Whole head)) (Err end) old new none got counted output replied = absurd replied
comes made wakes did fresh read (Ok (incoming.Refused refusal)) answer old new none got counted output quiet =
    quiet_comes made wakes did (TakesPieces TakesMore fresh read) (Ok (incoming.Refused refusal)) (Ok (Refused refusal)) answer old new quiet got output counted
    (λ taken shows end. (inl shows.0, refl))
comes made wakes did fresh read (Ok incoming.Cut) answer old new none got counted output quiet =
    quiet_comes made wakes did (TakesPieces TakesMore fresh read) (Ok incoming.Cut) (Err CutShort) answer old new quiet got output counted
    (λ taken shows end. ((shows.0, begun_alone (TakesPieces TakesMore fresh read) taken shows.1), refl, end))
comes made wakes did fresh read (Ok incoming.Ended) answer old new none got counted output quiet =
    quiet_comes made wakes did (TakesPieces TakesMore fresh read) (Ok incoming.Ended) (Err Ended) answer old new quiet got output counted
    (λ taken shows end. (shows.0, refl, end))
comes made wakes did fresh read (Err lost.ReadFault) answer old new none got counted output quiet =
    quiet_comes made wakes did (TakesPieces TakesMore fresh read) (Err lost.ReadFault) (Err ReadFault) answer old new quiet got output counted
    (λ taken shows end. (begun_alone (TakesPieces TakesMore fresh read) taken shows, refl))
comes made wakes did fresh read (Err lost.Memory) answer old new none got counted output quiet =
    quiet_comes made wakes did (TakesPieces TakesMore fresh read) (Err lost.Memory) (Ok NoMemory) answer old new quiet got output counted
    (λ taken shows end. inl (shows.0, refl))

-- ---- one request

-- no moves after these
without_more : (made : Made) (wakes : Wakes) (taken : List ℕ) (own after : List MoveEntry) (reply : HttpReply) → after ≡ [] → IsReplyDue made wakes taken own reply
    → IsReplyDue made wakes taken (own ++ after) reply
without_more made wakes taken own after reply none is_due =
    subst (λ (es : List MoveEntry). IsReplyDue made wakes taken es reply) (sym (ap (λ s. own ++ s) none ∙ append-nil own)) is_due

-- a reply that was written, and what followed
answered : (made : Made) (wakes : Wakes) (AtEnd : Type 0) (reply : HttpReply) (end : Option Served) (taken : List ℕ) (own after : List MoveEntry)
    → IsReplyDue made wakes taken own reply → FollowsReply made wakes reply after end
    → AnswersOne made wakes end AtEnd (part taken (own ++ after) (text_of_reply reply))
answered made wakes AtEnd (Answer said true as_worker) end taken own after is_due (works, end_is) =
    subst (λ (e : Option Served). AnswersOne made wakes e AtEnd (part taken (own ++ after) (text_of_reply (Answer said true as_worker)))) (sym end_is)
    (inr (inl (record {
      said = said;
      as_worker = as_worker;
      given = works.0;
      own = own;
      after = after;
      answered = is_due;
      works = works.1;
      entries = refl;
      out = refl;
    })))
answered made wakes AtEnd (Answer said false as_worker) end taken own after is_due (works, end_is) =
    subst (λ (e : Option Served). AnswersOne made wakes e AtEnd (part taken (own ++ after) (text_of_reply (Answer said false as_worker)))) (sym end_is)
    (record {
      said = said;
      as_worker = as_worker;
      given = works.0;
      own = own;
      after = after;
      answered = is_due;
      works = works.1;
      entries = refl;
      out = refl;
    })
answered made wakes AtEnd (Refused refusal) end taken own after is_due (none, end_is) =
    subst (λ (e : Option Served). AnswersOne made wakes e AtEnd (part taken (own ++ after) (text_of_reply (Refused refusal)))) (sym end_is)
    (inr (inr (refusal, without_more made wakes taken own after (Refused refusal) none is_due, refl)))
answered made wakes AtEnd NoMemory end taken own after is_due (none, end_is) =
    subst (λ (e : Option Served). AnswersOne made wakes e AtEnd (part taken (own ++ after) (text_of_reply NoMemory))) (sym end_is)
    (without_more made wakes taken own after NoMemory none is_due, refl)

-- no count rose, and what was written is handed on
abbrev WentWell : Tells → Tells → Type 0
WentWell old new = (new.read_faults ≡ old.read_faults) × (new.write_faults ≡ old.write_faults) × HandsOnAll old new

settled : (made : Made) (wakes : Wakes) (reply : HttpReply) (end : Option Served) (after : List MoveEntry) (old new : Tells) → FollowsReply made wakes reply after end
    → WentWell old new → AccountsOne end old new
settled made wakes (Answer said true as_worker) end after old new f w = subst (λ (e : Option Served). AccountsOne e old new) (sym f.1) w
settled made wakes (Answer said false as_worker) end after old new f w = subst (λ (e : Option Served). AccountsOne e old new) (sym f.1) w
settled made wakes (Refused refusal) end after old new f w = subst (λ (e : Option Served). AccountsOne e old new) (sym f.1) w
settled made wakes NoMemory end after old new f w = subst (λ (e : Option Served). AccountsOne e old new) (sym f.1) w

-- a reply that was sent, and what followed
pub followed : (made : Made) (wakes : Wakes) (did did' both : List MoveEntry → Type 0) (reply : HttpReply) (end : Option Served) (x : Unit {0}) (old mid new : Tells)
    → Joins did did' both → ComesOnLink made wakes did (Ok reply) old mid → Sends {X = Unit {0}} {E = Failed} (Ok x) (text_of_reply reply) mid new
    → ((after : List MoveEntry) × did' after × FollowsReply made wakes reply after end) → ServesOne made wakes both end old new
followed made wakes did did' both reply end x old mid new joins came sent (after, moves, follows) = record {
  part = part came.taken (came.own ++ after) (text_of_reply reply);
  answers = answered made wakes (AtEnd old.left new.left) reply end came.taken came.own after came.shows follows;
  moves = joins came.own after came.moves moves;
  read = subst (λ (b : Bytes). ReadsBytes came.taken old.left b) (sym sent.writes.input.left) came.read;
  wrote = subst (λ (b : Bytes). BothTold b new.written (Appends (text_of_reply reply))) came.output.written sent.writes.written;
  accounts = settled made wakes reply end after old new follows
      (sent.writes.input.read_faults ∙ came.counted, sent.writes.counted ∙ came.output.write_faults, inl sent.handed_on);
  grew = subst (λ (b : Bytes). Grows b new.handed_on) came.output.handed_on sent.writes.handed_on;
}

part_written : (x y : Bytes) (text : List ℕ) → BothTold x y (AppendsPart text)
    → (out : List ℕ) × IsPart text out × BothTold x y (Appends out)
part_written None y text p = ([], (text, refl), tt)
part_written (Some x) None text p = absurd p
part_written (Some x) (Some y) text (out, is, wrote) = (out, is, wrote)

-- a reply of which a first part was written
pub unwritten : (made : Made) (wakes : Wakes) (did : List MoveEntry → Type 0) (reply : HttpReply) (e : Failed) (old mid new : Tells)
    → ComesOnLink made wakes did (Ok reply) old mid → Sends {X = Unit {0}} {E = Failed} (Err e) (text_of_reply reply) mid new
    → ServesOne made wakes did (Some WriteFault) old new
unwritten made wakes did reply e old mid new came sent =
    let (out, is_part, wrote) = part_written mid.written new.written (text_of_reply reply) sent.writes.written in
    let grew = subst (λ (b : Bytes). Grows b new.handed_on) came.output.handed_on sent.writes.handed_on in
    record {
      part = part came.taken came.own out;
      answers = (reply, came.shows, is_part);
      moves = came.moves;
      read = subst (λ (b : Bytes). ReadsBytes came.taken old.left b) (sym sent.writes.input.left) came.read;
      wrote = subst (λ (b : Bytes). BothTold b new.written (Appends out)) came.output.written wrote;
      accounts = (
        sent.writes.input.read_faults ∙ came.counted,
        subst (λ (n : ℕ). HasRisen n new.write_faults) came.output.write_faults sent.writes.counted,
        grew,
      );
      grew = grew;
    }

ended_with : (made : Made) (wakes : Wakes) (end : Served) (A : Type 0) (taken : List ℕ) (own : List MoveEntry) → CameWithDue made wakes (Err end) A taken own
    → AnswersOne made wakes (Some end) A (part taken own [])
ended_with made wakes Ended A taken own (ended, none, at) = inl (ended, (none, refl), at)
ended_with made wakes CutShort A taken own (cut, none, at) = (cut, (none, refl), at)
ended_with made wakes ReadFault A taken own (begun, none) = (begun, (none, refl))
ended_with made wakes WriteFault A taken own p = absurd p
ended_with made wakes Memory A taken own p = absurd p

silent_accounts : (made : Made) (wakes : Wakes) (did : List MoveEntry → Type 0) (end : Served) (old new : Tells) → ComesOnLink made wakes did (Err end) old new
    → Accounts end old new
silent_accounts made wakes did Ended old new came = (came.counted, came.output.write_faults, inr (came.output.written, came.output.handed_on))
silent_accounts made wakes did CutShort old new came = (came.counted, came.output.write_faults, inr (came.output.written, came.output.handed_on))
silent_accounts made wakes did ReadFault old new came = (came.counted, came.output.write_faults, inr (came.output.written, came.output.handed_on))
silent_accounts made wakes did WriteFault old new came = absurd came.counted
silent_accounts made wakes did Memory old new came = absurd came.counted

-- no request came, and nothing was written
silent : (made : Made) (wakes : Wakes) (did : List MoveEntry → Type 0) (end : Served) (old new : Tells) → ComesOnLink made wakes did (Err end) old new
    → ServesOne made wakes did (Some end) old new
silent made wakes did end old new came = record {
  part = part came.taken came.own [];
  answers = ended_with made wakes end (AtEnd old.left new.left) came.taken came.own came.shows;
  moves = came.moves;
  read = came.read;
  wrote = subst (λ (b : Bytes). BothTold old.written b (Appends [])) (sym came.output.written) (wrote_none old.written);
  accounts = silent_accounts made wakes did end old new came;
  grew = subst (λ (b : Bytes). Grows old.handed_on b) (sym came.output.handed_on) (grows_same old.handed_on);
}

-- of the moves for what came something else may be said
comes_so : (made : Made) (wakes : Wakes) (did said : List MoveEntry → Type 0) (answer : Result HttpReply Served) (old new : Tells) → (c : ComesOnLink made wakes did answer old new)
    → said c.own → ComesOnLink made wakes said answer old new
comes_so made wakes did said answer old new c is = record {
  taken = c.taken;
  own = c.own;
  shows = c.shows;
  moves = is;
  read = c.read;
  counted = c.counted;
  output = c.output;
}

-- without moves behind them
made_alone : (did did' both : List MoveEntry → Type 0) (own after : List MoveEntry) → Joins did did' both → did own → did' after → after ≡ [] → both own
made_alone did did' both own after joins p q none = subst both (ap (λ s. own ++ s) none ∙ append-nil own) (joins own after p q)

-- what came was answered, and the answer written
pub one_request : (made : Made) (wakes : Wakes) (did did' both : List MoveEntry → Type 0) (answer : Result HttpReply Served) (end : Option Served) (after : List MoveEntry) (old mid new : Tells)
    → Joins did did' both → ComesOnLink made wakes did answer old mid → did' after → IsFinished made wakes answer after end mid new → ServesOne made wakes both end old new
one_request made wakes did did' both (Ok reply) end after old mid new joins came moves (inl (x, sent, follows)) =
    followed made wakes did did' both reply end x old mid new joins came sent (after, moves, follows)
one_request made wakes did did' both (Ok reply) end after old mid new joins came moves (inr (e, sent, none, is)) =
    subst (λ (s : Option Served). ServesOne made wakes both s old new) (sym is)
    (unwritten made wakes both reply e old mid new (comes_so made wakes did both (Ok reply) old mid came (made_alone did did' both came.own after joins came.moves moves none)) sent)
one_request made wakes did did' both (Err ended) end after old mid new joins came moves (same, none, is) =
    subst (λ (z : Tells × Option Served). ServesOne made wakes both z.1 old z.0) (λ i. (sym same i, sym is i))
    (silent made wakes both ended old mid (comes_so made wakes did both (Err ended) old mid came (made_alone did did' both came.own after joins came.moves moves none)))

-- ---- two ends

-- nothing of the way out, or of the way in, is touched by either of two calls
pub output_then : (a b c : Tells) → SameOutput a b → SameOutput b c → SameOutput a c
output_then a b c p q = record {
  written = q.written ∙ p.written;
  handed_on = q.handed_on ∙ p.handed_on;
  write_faults = q.write_faults ∙ p.write_faults;
}

-- what came on an input that is one of two ends
pub comes_between : (made : Made) (wakes : Wakes) (did : List MoveEntry → Type 0) (came : Result HttpReply Served) (i j o : Tells) → ComesOnLink made wakes did came i j
    → ComesOnLink made wakes did came (both_ends i o) (both_ends j o)
comes_between made wakes did came i j o c = record {
  taken = c.taken;
  own = c.own;
  shows = c.shows;
  moves = c.moves;
  read = c.read;
  counted = c.counted;
  output = record { written = refl; handed_on = refl; write_faults = refl };
}

-- what was sent to an output that is one of two ends
pub sends_between : (r : Result (Unit {0}) Failed) (text : List ℕ) (i o p : Tells) → Sends r text o p
    → Sends r text (both_ends i o) (both_ends i p)
sends_between r text i o p s = record {
  writes = record {
    written = s.writes.written;
    handed_on = s.writes.handed_on;
    counted = s.writes.counted;
    input = record { left = refl; read_faults = refl };
  };
  handed_on = s.handed_on;
}

-- how it was finished on an output that is one of two ends
pub finished_between : (made : Made) (wakes : Wakes) (answer : Result HttpReply Served) (after : List MoveEntry) (end : Option Served) (i o p : Tells)
    → IsFinished made wakes answer after end o p → IsFinished made wakes answer after end (both_ends i o) (both_ends i p)
finished_between made wakes (Ok reply) after end i o p (inl (x, sent, follows)) = inl (x, sends_between _ _ i o p sent, follows)
finished_between made wakes (Ok reply) after end i o p (inr (e, sent, none, is)) = inr (e, sends_between _ _ i o p sent, none, is)
finished_between made wakes (Err how) after end i o p (same, none, is) = (ap (both_ends i) same, none, is)

-- and nothing of its way in is touched
pub finished_out : (made : Made) (wakes : Wakes) (answer : Result HttpReply Served) (after : List MoveEntry) (end : Option Served) (o p : Tells)
    → IsFinished made wakes answer after end o p → SameInput o p
finished_out made wakes (Ok reply) after end o p (inl (x, sent, follows)) = sent.writes.input
finished_out made wakes (Ok reply) after end o p (inr (e, sent, none, is)) = sent.writes.input
finished_out made wakes (Err how) after end o p (same, none, is) =
    record { left = ap (λ (t : Tells). t.left) same; read_faults = ap (λ (t : Tells). t.read_faults) same }

-- ---- many requests

-- the requests so far, all of which were answered
pub record SoFar (made : Made) (wakes : Wakes) (did : List MoveEntry → Type 0) (count : ℕ) (old new : Tells) : Type 0 where
  pub done : List Part
  pub exchanges : All (IsExchange made wakes false) done
  pub length_is : length done ≡ count
  pub moves : did (all_of done).entries
  pub read : ReadsBytes (all_of done).taken old.left new.left
  pub wrote : BothTold old.written new.written (Appends (all_of done).out)
  pub accounts : WentWell old new
  pub grew : Grows old.handed_on new.handed_on

pub none_yet : (made : Made) (wakes : Wakes) (did : List MoveEntry → Type 0) (t : Tells) → did [] → SoFar made wakes did 0 t t
none_yet made wakes did t stays = record {
  done = [];
  exchanges = All-nil (IsExchange made wakes false);
  length_is = refl;
  moves = stays;
  read = read_none t.left;
  wrote = wrote_none t.written;
  accounts = (refl, refl, inr (refl, refl));
  grew = grows_same t.handed_on;
}

well_then : (a b c : Tells) → WentWell a b → WentWell b c → WentWell a c
well_then a b c p q = (q.0 ∙ p.0, q.1 ∙ p.1, hands_then a b c p.2 q.2)

pub one_more : (made : Made) (wakes : Wakes) (did did' both : List MoveEntry → Type 0) (count : ℕ) (a b c : Tells) → Joins did did' both
    → SoFar made wakes did count a b → ServesOne made wakes did' None b c → SoFar made wakes both (count + 1) a c
one_more made wakes did did' both count a b c joins s r = record {
  done = s.done ++ r.part ∷ [];
  exchanges = All-push (IsExchange made wakes false) s.done r.part s.exchanges r.answers;
  length_is = length-append s.done (r.part ∷ []) ∙ ap (λ n. n + 1) s.length_is;
  moves = subst (λ (p : Part). both p.entries) (sym (all_more s.done r.part)) (joins _ _ s.moves r.moves);
  read = subst (λ (p : Part). ReadsBytes p.taken a.left c.left) (sym (all_more s.done r.part)) (read_then a.left b.left c.left _ _ s.read r.read);
  wrote = subst (λ (p : Part). BothTold a.written c.written (Appends p.out)) (sym (all_more s.done r.part)) (wrote_then a.written b.written c.written _ _ s.wrote r.wrote);
  accounts = well_then a b c s.accounts r.accounts;
  grew = grows_on a.handed_on b.handed_on c.handed_on s.grew r.grew;
}

-- the input's end is that of the whole
ends_at : (made : Made) (wakes : Wakes) (end : Served) (A B : Type 0) (p : Part) → (A → B) → EndsTalk made wakes end A p → EndsTalk made wakes end B p
ends_at made wakes Ended A B p f (inl (ended, silence, at)) = inl (ended, silence, f at)
ends_at made wakes Ended A B p f (inr e) = inr e
ends_at made wakes CutShort A B p f (cut, silence, at) = (cut, silence, f at)
ends_at made wakes ReadFault A B p f e = e
ends_at made wakes WriteFault A B p f e = e
ends_at made wakes Memory A B p f e = e

accounts_then : (end : Served) (a b c : Tells) → WentWell a b → Grows a.handed_on b.handed_on → Accounts end b c → Accounts end a c
accounts_then Ended a b c w grew q = well_then a b c w q
accounts_then CutShort a b c w grew q = well_then a b c w q
accounts_then ReadFault a b c w grew q =
    (subst (λ (n : ℕ). HasRisen n c.read_faults) w.0 q.0, q.1 ∙ w.1, hands_then a b c w.2 q.2)
accounts_then WriteFault a b c w grew q = (
  q.0 ∙ w.0,
  subst (λ (n : ℕ). HasRisen n c.write_faults) w.1 q.1,
  grows_on a.handed_on b.handed_on c.handed_on grew q.2,
)
accounts_then Memory a b c w grew q = well_then a b c w q

pub last_one : (made : Made) (wakes : Wakes) (did did' both : List MoveEntry → Type 0) (end : Served) (count : ℕ) (a b c : Tells)
    → Joins did did' both → count < most_requests
    → SoFar made wakes did count a b → ServesOne made wakes did' (Some end) b c → Serves made wakes both end a c
last_one made wakes did did' both end count a b c joins most s r = record {
  part = then (all_of s.done) r.part;
  talk = record {
    done = s.done;
    last = r.part;
    exchanges = s.exchanges;
    ends = inl (
      subst (λ (n : ℕ). n < most_requests) (sym s.length_is) most,
      ends_at made wakes end _ _ r.part (at_end_then a.left b.left c.left _ s.read) r.answers,
    );
    whole = refl;
  };
  moves = joins _ _ s.moves r.moves;
  read = read_then a.left b.left c.left _ _ s.read r.read;
  wrote = wrote_then a.written b.written c.written _ _ s.wrote r.wrote;
  accounts = accounts_then end a b c s.accounts s.grew r.accounts;
}

pub all_done : (made : Made) (wakes : Wakes) (did : List MoveEntry → Type 0) (count : ℕ) (a b : Tells) → count ≡ most_requests
    → SoFar made wakes did count a b → Serves made wakes did Ended a b
all_done made wakes did count a b full s = record {
  part = all_of s.done;
  talk = record {
    done = s.done;
    last = part [] [] [];
    exchanges = s.exchanges;
    ends = inr (refl, s.length_is ∙ full, refl);
    whole = sym (then_none (all_of s.done));
  };
  moves = s.moves;
  read = s.read;
  wrote = s.wrote;
  accounts = s.accounts;
}

-- of the moves of a conversation something else may be said
abbrev pub serves_so : (made : Made) (wakes : Wakes) (did said : List MoveEntry → Type 0) (end : Served) (old new : Tells) → (s : Serves made wakes did end old new)
    → said s.part.entries → Serves made wakes said end old new
serves_so made wakes did said end old new s is = record {
  part = s.part;
  talk = s.talk;
  moves = is;
  read = s.read;
  wrote = s.wrote;
  accounts = s.accounts;
}
