-- The bytes to come and the replies to the moves decide the bytes written.
use Rattle.std.proofs.Common.{◌≡◌, ◌≢◌, ℕ, ◌+◌, Bool, true, false, List, [], ◌∷◌, ◌++◌, length, refl, sym, ◌∙◌, ap, subst, inl, inr, ◌⊎◌, arith, append_assoc, Option, None, Some, Err, codes, decimal}
use Rattle.std.specs.Prelude.{All}
use Rattle.std.proofs.lemmas.List.{append_cancel_left, map-append}
use Rattle.std.proofs.lemmas.List.Elements.{All-head, All-tail}
use Rattle.std.proofs.lemmas.Fmt.{decimal_injective}
use Rattle.http_link.specs.declared.refusal.Refusal.{Refusal}
use Rattle.http_link.specs.Responses.{refusal_bytes}
use Rattle.http_link.proofs.Lines.{cons_same}
use Rattle.soap_calls.specs.declared.call.SoapCall.{SoapCall}
use Rattle.soap_calls.specs.declared.fault.SoapFault.{SoapFault}
use Rattle.soap_calls.specs.declared.fault.SoapFault.TheVariants as soap
use Rattle.soap_calls.specs.Calls.{IsCallText}
use Rattle.six_calls.specs.Names.{part_text}
use Rattle.soap_calls.specs.Refusals.{CallFails}
use Rattle.osol_grammar.specs.declared.options.Options.{Options}
use Rattle.osol_grammar.specs.declared.fault.OsolFault.{OsolFault}
use Rattle.osol_grammar.specs.declared.fault.OsolFault.TheVariants as osol
use Rattle.osol_grammar.specs.Meaning.{IsOptionsText}
use Rattle.osol_grammar.specs.Texts as osol_texts
use Rattle.ospl_grammar.specs.declared.fault.OsplFault.{OsplFault}
use Rattle.ospl_grammar.specs.declared.fault.OsplFault.TheVariants as ospl
use Rattle.ospl_grammar.specs.Texts as ospl_texts
use Rattle.effects.specs.declared.store.NotStored.{NotStored}
use Rattle.job_table.specs.declared.job.Job.{Job}
use Rattle.job_table.specs.declared.entries.TableMove.{TableMove}
use Rattle.job_table.specs.declared.entries.TableMove.TheVariants as tables
use Rattle.job_table.specs.declared.entries.Finishing.{Finishing}
use Rattle.job_table.specs.declared.entries.Reply.{Reply}
use Rattle.job_table.specs.declared.entries.Reply.TheVariants as reply
use Rattle.job_table.specs.Looks.{looks}
use Rattle.job_table.specs.History.{MoveEntry, entry_of_move}
use Rattle.job_runs.specs.Runs.{IsJobRun, RunsGiven, Works, end_reply}
use Rattle.job_runs.specs.Solves.{IsRetrieved, RunsAndShows, Solves}
use Rattle.os_server.specs.declared.order.Order.{Order}
use Rattle.os_server.specs.declared.fault.FaultCode.{FaultCode}
use Rattle.os_server.specs.declared.fault.FaultCode.TheVariants as codes_of
use Rattle.os_server.specs.declared.saying.ReplyEnvelope.{ReplyEnvelope}
use Rattle.os_server.specs.declared.serve.Served.{Served}
use Rattle.ospl_grammar.specs.Table.{text_or_none}
use Rattle.os_server.specs.Orders.{Names, order_of, SaysProcess, IsAsked, Orders, Asks, SaysOptionsRefused, RefusesProcess, Faults}
use Rattle.os_server.specs.Answers.{said_by, fault_said, number_for, Doing, Moves, RunsAtOnce, doing_of, DoesSo, Does}
use Rattle.os_server.specs.Talk.{Part, all_of, IsBodyAnswered, IsRefusedAs, IsExchange, response_text, Talk}
use Rattle.os_server.specs.Laws.{HasNoFault, takens, replies}
use Rattle.os_server.specs.OneReading.{Requests, Bodies}
use Rattle.job_runs.proofs.Judgements.{Made}
use Rattle.os_server.proofs.Pieces.{Wakes}
use Rattle.os_server.proofs.RequestCuts.{Front, Whole, Refuses, Between, Inside, Brings, ShowsLast, shows_once, last_shows, cut_one_way, whole_bytes}

-- what a body asks

names_once : (id : List ℕ) (a b : Option ℕ) → Names id a → Names id b → a ≡ b
names_once id (Some n) (Some m) (small, is) (small', is') =
    ap Some (decimal_injective n m small small' (append_cancel_left (codes "os-") (decimal n) (decimal m) (sym is ∙ is')))
names_once id (Some n) None (small, is) unnamed = absurd (unnamed n small is)
names_once id None (Some m) unnamed (small, is) = absurd (unnamed m small is)
names_once id None None unnamed unnamed' = refl

asked_once : (call : SoapCall) (o p : Options) (x y : Order) → p ≡ o → IsAsked call o x → IsAsked call p y → x ≡ y
asked_once call o p x y same (job, named, is) (other, named', is') =
    is ∙ ap (order_of call) (names_once (text_or_none o.job) job other named (subst (λ (q : Options). Names (text_or_none q.job) other) same named')) ∙ sym is'

-- why a body asks nothing: it is refused as a call, or its call is refused
abbrev said_of : SoapFault → FaultCode × List ℕ
said_of (soap.Call name) = (codes_of.Call, codes "unknown call " ++ name)
said_of (soap.Part p) = (codes_of.Part, codes "part " ++ part_text p)
said_of soap.Envelope = (codes_of.Call, [])
said_of soap.Memory = (codes_of.Call, [])

abbrev IsUnread : List ℕ → FaultCode × List ℕ → Type 0
IsUnread body said = (f : SoapFault) × (f ≢ soap.Memory) × CallFails body f × (said ≡ said_of f)

abbrev IsRefusedCall : SoapCall → FaultCode × List ℕ → Type 0
IsRefusedCall call said =
    ((said.0 ≡ codes_of.Options) × SaysOptionsRefused call said.1) ⊎ ((said.0 ≡ codes_of.Process) × RefusesProcess call said.1)

why : (body : List ℕ) (code : FaultCode) (text : List ℕ) → Faults body code text
    → IsUnread body (code, text) ⊎ ((call : SoapCall) × IsCallText body call × IsRefusedCall call (code, text))
why body codes_of.Call text (name, fails, is) = inl (soap.Call name, (λ e. cc), fails, ap (λ t. (codes_of.Call, t)) is)
why body codes_of.Part text (p, fails, is) = inl (soap.Part p, (λ e. cc), fails, ap (λ t. (codes_of.Part, t)) is)
why body codes_of.Options text (call, is, refuses) = inr (call, is, inl (refl, refuses))
why body codes_of.Process text (call, is, refuses) = inr (call, is, inr (refl, refuses))
why body codes_of.Full text p = absurd p
why body codes_of.Spent text p = absurd p
why body codes_of.Disk text p = absurd p

-- a refusal has a text, and want of memory none
has_osol_text : (t : List ℕ) (f : OsolFault) → osol_texts.IsFaultText f t → f ≢ osol.Memory
has_osol_text t f is e = subst (λ (g : OsolFault). osol_texts.IsFaultText g t) e is

has_ospl_text : (t : List ℕ) (f : OsplFault) → ospl_texts.IsFaultText f t → f ≢ ospl.Memory
has_ospl_text t f is e = subst (λ (g : OsplFault). ospl_texts.IsFaultText g t) e is

module _ (says : Bodies) where
  orders_once : (call : SoapCall) (x y : Order) → Orders call x → Orders call y → x ≡ y
  orders_once call x y p q =
      asked_once call p.options q.options x y (says.options_read call.parts.osol q.options p.options q.said p.said) p.asked q.asked

  asks_once : (body : List ℕ) (x y : Order) → Asks body x → Asks body y → x ≡ y
  asks_once body x y p q =
      orders_once p.call x y p.orders (subst (λ (call : SoapCall). Orders call y) (says.call body q.call p.call q.is_call p.is_call) q.orders)

  -- a refusal has one text
  osol_text_once : (t u : List ℕ) (f : OsolFault) → osol_texts.IsFaultText f t → osol_texts.IsFaultText f u → t ≡ u
  osol_text_once t u (osol.Tree f) p q = says.tree_texts (codes "osol") f t u p q
  osol_text_once t u (osol.Refused r n) p q = p ∙ sym q
  osol_text_once t u osol.Memory p q = absurd p

  ospl_text_once : (t u : List ℕ) (f : OsplFault) → ospl_texts.IsFaultText f t → ospl_texts.IsFaultText f u → t ≡ u
  ospl_text_once t u (ospl.Tree f) p q = says.tree_texts (codes "ospl") f t u p q
  ospl_text_once t u ospl.Root p q = p ∙ sym q
  ospl_text_once t u ospl.Missing p q = p ∙ sym q
  ospl_text_once t u ospl.Memory p q = absurd p

  options_once : (call : SoapCall) (t u : List ℕ) → SaysOptionsRefused call t → SaysOptionsRefused call u → t ≡ u
  options_once call t u (f, fails, is) (g, fails', is') =
      let same = says.options_refusals call.parts.osol f g (has_osol_text t f is) (has_osol_text u g is') fails fails' in
      osol_text_once t u f is (subst (λ (h : OsolFault). osol_texts.IsFaultText h u) (sym same) is')

  process_once : (call : SoapCall) (t u : List ℕ) → RefusesProcess call t → RefusesProcess call u → t ≡ u
  process_once call t u p q =
      let same = says.process_refusals call.parts.ospl p.fault q.fault (has_ospl_text t p.fault p.told) (has_ospl_text u q.fault q.told) p.fails q.fails in
      ospl_text_once t u p.fault p.told (subst (λ (h : OsplFault). ospl_texts.IsFaultText h u) (sym same) q.told)

  -- options that are read aren't refused, and neither is a process
  no_options : (call : SoapCall) (o : Options) (t : List ℕ) → IsOptionsText call.parts.osol o → SaysOptionsRefused call t → ⊥
  no_options call o t said (f, fails, is) = has_osol_text t f is (says.options_apart call.parts.osol o f said fails)

  no_process : (call : SoapCall) (t : List ℕ) → SaysProcess call.parts.ospl → RefusesProcess call t → ⊥
  no_process call t (inl none) p = p.full none
  no_process call t (inr (q, is)) p = has_ospl_text t p.fault p.told (says.process_apart call.parts.ospl q p.fault is p.fails)

  -- a call whose options are refused isn't one whose process is
  not_both : (call : SoapCall) (t u : List ℕ) → SaysOptionsRefused call t → RefusesProcess call u → ⊥
  not_both call t u p q = no_options call q.said t q.says p

  both : (x y : FaultCode × List ℕ) (code : FaultCode) → x.0 ≡ code → y.0 ≡ code → x.1 ≡ y.1 → x ≡ y
  both (c, t) (d, u) code p q e = ap (λ k. (k, t)) (p ∙ sym q) ∙ ap (λ v. (d, v)) e

  refused_once : (call : SoapCall) (x y : FaultCode × List ℕ) → IsRefusedCall call x → IsRefusedCall call y → x ≡ y
  refused_once call x y (inl (is, p)) (inl (is', q)) = both x y codes_of.Options is is' (options_once call x.1 y.1 p q)
  refused_once call x y (inl (is, p)) (inr (is', q)) = absurd (not_both call x.1 y.1 p q)
  refused_once call x y (inr (is, p)) (inl (is', q)) = absurd (not_both call y.1 x.1 q p)
  refused_once call x y (inr (is, p)) (inr (is', q)) = both x y codes_of.Process is is' (process_once call x.1 y.1 p q)

  abbrev Why : List ℕ → FaultCode × List ℕ → Type 0
  Why body said = IsUnread body said ⊎ ((call : SoapCall) × IsCallText body call × IsRefusedCall call said)

  why_once : (body : List ℕ) (x y : FaultCode × List ℕ) → Why body x → Why body y → x ≡ y
  why_once body x y (inl (f, some, fails, is)) (inl (g, some', fails', is')) =
      is ∙ ap said_of (says.refusals body f g some some' fails fails') ∙ sym is'
  why_once body x y (inl (f, some, fails, is)) (inr (call, is_call, refused)) = absurd (some (says.apart body call f is_call fails))
  why_once body x y (inr (call, is_call, refused)) (inl (f, some, fails, is)) = absurd (some (says.apart body call f is_call fails))
  why_once body x y (inr (call, is_call, refused)) (inr (other, is_other, refused')) =
      refused_once call x y refused
      (subst (λ (c : SoapCall). IsRefusedCall c y) (says.call body other call is_other is_call) refused')

  -- what asks something isn't refused
  not_asked : (call : SoapCall) (o : Order) (said : FaultCode × List ℕ) → Orders call o → IsRefusedCall call said → ⊥
  not_asked call o said p (inl (is, refuses)) = no_options call p.options said.1 p.said refuses
  not_asked call o said p (inr (is, refuses)) = no_process call said.1 p.process refuses

  why_not : (body : List ℕ) (o : Order) (said : FaultCode × List ℕ) → Asks body o → Why body said → ⊥
  why_not body o said p (inl (f, some, fails, is)) = some (says.apart body p.call f p.is_call fails)
  why_not body o said p (inr (call, is_call, refused)) =
      not_asked p.call o said p.orders
      (subst (λ (c : SoapCall). IsRefusedCall c said) (says.call body call p.call is_call p.is_call) refused)

-- replies, one after another

replies_of : (own : List MoveEntry) (es : List MoveEntry) (x : List Reply) → own ≡ es → replies own ++ x ≡ replies es ++ x
replies_of own es x is = ap (λ k. replies k ++ x) is

replies_then : (a b : List MoveEntry) (x : List Reply) → replies (a ++ b) ++ x ≡ replies a ++ (replies b ++ x)
replies_then a b x = ap (λ r. r ++ x) (map-append (λ (e : MoveEntry). e.reply) a b) ∙ append_assoc (replies a) (replies b) x

abbrev is_look_reply : Reply → Bool
is_look_reply (reply.Marked b) = true
is_look_reply _ = false

look_is_not : (b : Bool) (e : Reply) → is_look_reply e ≡ false → e ≡ reply.Marked b → ⊥
look_is_not b e other is = let wrong : true ≡ false = sym (ap is_look_reply is) ∙ other in cc

end_is_no_look : (fault : Option NotStored) (end : Finishing) → is_look_reply (end_reply fault end) ≡ false
end_is_no_look None end = refl
end_is_no_look (Some fault) end = refl

-- looks and what is no look end at one place
past_looks : (n m : ℕ) (s t : List Bool) (e f : Reply) (x y : List Reply) → is_look_reply e ≡ false → is_look_reply f ≡ false
    → replies (looks n s) ++ (e ∷ x) ≡ replies (looks m t) ++ (f ∷ y) → (e ≡ f) × (x ≡ y)
past_looks n m [] [] e f x y other other' h = cons_same e f x y h
past_looks n m [] (b ∷ t) e f x y other other' h = absurd (look_is_not b e other (cons_same e (reply.Marked b) x (replies (looks m t) ++ (f ∷ y)) h).0)
past_looks n m (a ∷ s) [] e f x y other other' h = absurd (look_is_not a f other' (sym (cons_same (reply.Marked a) f (replies (looks n s) ++ (e ∷ x)) y h).0))
past_looks n m (a ∷ s) (b ∷ t) e f x y other other' h =
    past_looks n m s t e f x y other other'
    (cons_same (reply.Marked a) (reply.Marked b) (replies (looks n s) ++ (e ∷ x)) (replies (looks m t) ++ (f ∷ y)) h).1

module _ (made : Made) where
  run_replies : (j : Job) (fault : Option NotStored) (run : List MoveEntry) (r : IsJobRun made j fault run) (x : List Reply)
      → replies run ++ x ≡ replies (looks j.number r.answers) ++ (end_reply fault r.end ∷ x)
  run_replies j fault run r x =
      let finish = entry_of_move (tables.Finish j r.asked r.document) (end_reply fault r.end) in
      replies_of run (looks j.number r.answers ++ finish ∷ []) x r.are ∙ replies_then (looks j.number r.answers) (finish ∷ []) x

  past_run : (j k : Job) (fault fault' : Option NotStored) (run again : List MoveEntry) (x y : List Reply) (p : IsJobRun made j fault run) (q : IsJobRun made k fault' again)
      → replies run ++ x ≡ replies again ++ y → (end_reply fault p.end ≡ end_reply fault' q.end) × (x ≡ y)
  past_run j k fault fault' run again x y p q h =
      past_looks j.number k.number p.answers q.answers (end_reply fault p.end) (end_reply fault' q.end) x y (end_is_no_look fault p.end) (end_is_no_look fault' q.end)
      (sym (run_replies j fault run p x) ∙ h ∙ run_replies k fault' again q y)

  past_given : (g h : Option Job) (run again : List MoveEntry) (x y : List Reply) → RunsGiven made g run → RunsGiven made h again
      → g ≡ h → replies run ++ x ≡ replies again ++ y → x ≡ y
  past_given None None run again x y p q same e = sym (replies_of run [] x p) ∙ e ∙ replies_of again [] y q
  past_given None (Some k) run again x y p q same e = cc
  past_given (Some j) None run again x y p q same e = cc
  past_given (Some j) (Some k) run again x y p q same e = (past_run j k p.0 q.0 run again x y p.1 q.1 e).1

  -- a claim and the run of the job that it gave
  past_work : (w v : Bool) (g h : Option Job) (a b : List MoveEntry) (x y : List Reply) → Works made w g a → Works made v h b
      → replies a ++ x ≡ replies b ++ y → x ≡ y
  past_work w v g h a b x y p q e =
      let same = cons_same (reply.Gave g) (reply.Gave h) (replies p.run ++ x) (replies q.run ++ y)
      (sym (replies_of a (entry_of_move (tables.Claim w) (reply.Gave g) ∷ p.run) x p.are) ∙ e ∙ replies_of b (entry_of_move (tables.Claim v) (reply.Gave h) ∷ q.run) y q.are) in
      let given : g ≡ h = let gave = same.0 in cc in
      past_given g h p.run q.run x y p.ran q.ran given same.1

  past_one : (c d : TableMove) (l m : Reply) (own again : List MoveEntry) (x y : List Reply) → own ≡ entry_of_move c l ∷ [] → again ≡ entry_of_move d m ∷ []
      → replies own ++ x ≡ replies again ++ y → (l ≡ m) × (x ≡ y)
  past_one c d l m own again x y p q e =
      cons_same l m x y (sym (replies_of own (entry_of_move c l ∷ []) x p) ∙ e ∙ replies_of again (entry_of_move d m ∷ []) y q)

  module _ (osil osol : List ℕ) where
    solved_replies : (said : Reply) (own : List MoveEntry) (r : IsRetrieved made osil osol said own) (x : List Reply)
        → replies own ++ x ≡ reply.Gave (Some r.job) ∷ (replies r.later ++ x)
    solved_replies said own r x = replies_of own (entry_of_move (tables.Enter osil osol) (reply.Gave (Some r.job)) ∷ r.later) x r.are

    -- a job that was turned away, and one that was given
    no_job : (l : Reply) (j : Job) → (l ≡ reply.Full) ⊎ ((l ≡ reply.Spent) ⊎ ((fault : NotStored) × (l ≡ reply.NotStored fault))) → l ≡ reply.Gave (Some j) → ⊥
    no_job l j (inl full) e = cc
    no_job l j (inr (inl spent)) e = cc
    no_job l j (inr (inr (fault, refused))) e = cc

    shown_replies : (n : ℕ) (l : Reply) (run later : List MoveEntry) (x : List Reply) → later ≡ run ++ entry_of_move (tables.Retrieve n) l ∷ [] → replies later ++ x ≡ replies run ++ (l ∷ x)
    shown_replies n l run later x are = replies_of later (run ++ entry_of_move (tables.Retrieve n) l ∷ []) x are ∙ replies_then run (entry_of_move (tables.Retrieve n) l ∷ []) x

    past_shows : (j k : Job) (l m : Reply) (later again : List MoveEntry) (x y : List Reply) → RunsAndShows made j l later → RunsAndShows made k m again
        → replies later ++ x ≡ replies again ++ y → (l ≡ m) × (x ≡ y)
    past_shows j k l m later again x y (inl (run, shown, p, is, are)) (inl (run', shown', q, is', are')) e =
        cons_same l m x y (past_run j k None None run run' (l ∷ x) (m ∷ y) p q (sym (shown_replies j.number l run later x are) ∙ e ∙ shown_replies k.number m run' again y are')).1
    past_shows j k l m later again x y (inl (run, shown, p, is, are)) (inr (fault, q, is')) e =
        let wrong = (past_run j k None (Some fault) run again (l ∷ x) y p q (sym (shown_replies j.number l run later x are) ∙ e)).0 in absurd cc
    past_shows j k l m later again x y (inr (fault, p, is)) (inl (run', shown', q, is', are')) e =
        let wrong = (past_run j k (Some fault) None later run' x (m ∷ y) p q (e ∙ shown_replies k.number m run' again y are')).0 in absurd cc
    past_shows j k l m later again x y (inr (fault, p, is)) (inr (fault', q, is')) e =
        let past = past_run j k (Some fault) (Some fault') later again x y p q e in (is ∙ past.0 ∙ sym is', past.1)

    past_solve : (l m : Reply) (own again : List MoveEntry) (x y : List Reply) → Solves made osil osol l own → Solves made osil osol m again
        → replies own ++ x ≡ replies again ++ y → (l ≡ m) × (x ≡ y)
    past_solve l m own again x y (inl p) (inl q) e = past_one (tables.Enter osil osol) (tables.Enter osil osol) l m own again x y p.0 q.0 e
    past_solve l m own again x y (inl p) (inr q) e =
        absurd (no_job l q.job p.1
        (cons_same l (reply.Gave (Some q.job)) x (replies q.later ++ y)
        (sym (replies_of own (entry_of_move (tables.Enter osil osol) l ∷ []) x p.0) ∙ e ∙ solved_replies m again q y)).0)
    past_solve l m own again x y (inr p) (inl q) e =
        absurd (no_job m p.job q.1
        (sym (cons_same (reply.Gave (Some p.job)) m (replies p.later ++ x) y
        (sym (solved_replies l own p x) ∙ e ∙ replies_of again (entry_of_move (tables.Enter osil osol) m ∷ []) y q.0)).0))
    past_solve l m own again x y (inr p) (inr q) e =
        past_shows p.job q.job l m p.later q.later x y p.shows q.shows
        (cons_same (reply.Gave (Some p.job)) (reply.Gave (Some q.job)) (replies p.later ++ x) (replies q.later ++ y)
        (sym (solved_replies l own p x) ∙ e ∙ solved_replies m again q y)).1

  -- the moves that do what is asked
  past_doing : (d : Doing) (l m : Reply) (own again : List MoveEntry) (x y : List Reply) → DoesSo made d l own → DoesSo made d m again
      → replies own ++ x ≡ replies again ++ y → (l ≡ m) × (x ≡ y)
  past_doing (Moves move) l m own again x y p q e = past_one move move l m own again x y p q e
  past_doing (RunsAtOnce osil osol) l m own again x y p q e = past_solve osil osol l m own again x y p q e

-- the replies of one part before the rest
regrouped : (a b l : List MoveEntry) → replies ((a ++ b) ++ l) ≡ replies a ++ replies (b ++ l)
regrouped a b l = ap replies (append_assoc a b l) ∙ map-append (λ (e : MoveEntry). e.reply) a (b ++ l)

-- parts with the same bytes have the same bytes together
all_taken_once : (ps qs : List Part) → takens ps ≡ takens qs → (all_of ps).taken ≡ (all_of qs).taken
all_taken_once [] [] e = refl
all_taken_once [] (q ∷ qs) e = cc
all_taken_once (p ∷ ps) [] e = cc
all_taken_once (p ∷ ps) (q ∷ qs) e =
    let here : p.taken ≡ q.taken = cc in
    let there : takens ps ≡ takens qs = cc in
    ap (λ t. t ++ (all_of ps).taken) here ∙ ap (λ t. q.taken ++ t) (all_taken_once ps qs there)

module _ (made : Made) (wakes : Wakes) (by : Requests) (says : Bodies) where
  some_once : (a b : ReplyEnvelope) → Some a ≡ Some b → a ≡ b
  some_once a b e = cc

  -- an answer and the moves for it
  past_answer : (body : List ℕ) (own again : List MoveEntry) (s t : ReplyEnvelope) (w v : Bool) (x y : List Reply) → IsBodyAnswered made wakes body own s w
      → IsBodyAnswered made wakes body again t v → replies own ++ x ≡ replies again ++ y → (s ≡ t) × (x ≡ y)
  past_answer body own again s t w v x y (inl p) (inl q) e =
      let same = asks_once says body q.order p.order q.asks p.asks in
      let past = past_doing made (doing_of p.order) p.last q.last own again x y p.does
      (subst (λ (o : Order). Does made o q.last again) same q.does) e in (
        some_once s t (sym p.says ∙ ap (λ r. said_by p.order.kind (number_for p.order.job) r) past.0
            ∙ subst (λ (o : Order). said_by o.kind (number_for o.job) q.last ≡ Some t) same q.says),
        past.1,
      )
  past_answer body own again s t w v x y (inl p) (inr q) e =
      absurd (why_not says body p.order (q.code, q.text) p.asks (why body q.code q.text q.faults))
  past_answer body own again s t w v x y (inr p) (inl q) e =
      absurd (why_not says body q.order (p.code, p.text) q.asks (why body p.code p.text p.faults))
  past_answer body own again s t w v x y (inr p) (inr q) e = (
    p.says ∙ ap (λ (k : FaultCode × List ℕ). fault_said k.0 k.1)
        (why_once says body (p.code, p.text) (q.code, q.text) (why body p.code p.text p.faults) (why body q.code q.text q.faults)) ∙ sym q.says,
    sym (replies_of own [] x p.none) ∙ e ∙ replies_of again [] y q.none,
  )

  past_exchange : (c d : Bool) (p q : Part) (x y : List Reply) → IsExchange made wakes c p → IsExchange made wakes d q → p.taken ≡ q.taken
      → replies p.entries ++ x ≡ replies q.entries ++ y → (p.out ≡ q.out) × (x ≡ y)
  past_exchange c d p q x y f g same e =
      let body = by.bodies p.taken q.taken [] [] f.answered.0 g.answered.0 c d f.answered.1 g.answered.1 (ap (λ t. t ++ []) same) in
      let past = past_answer f.answered.0 f.own g.own f.said g.said f.as_worker g.as_worker (replies f.after ++ x) (replies g.after ++ y)
      f.answered.2 (subst (λ (b : List ℕ). IsBodyAnswered made wakes b g.own g.said g.as_worker) (sym body) g.answered.2)
      (sym (replies_then f.own f.after x) ∙ sym (replies_of p.entries (f.own ++ f.after) x f.entries) ∙ e
      ∙ replies_of q.entries (g.own ++ g.after) y g.entries ∙ replies_then g.own g.after y) in (
        f.out ∙ ap response_text past.0 ∙ sym g.out,
        past_work made f.as_worker g.as_worker f.given g.given f.after g.after x y f.works g.works past.1,
      )

  refusal_once : (a b : List ℕ) (r s : Refusal) → a ≡ b → IsRefusedAs a r → IsRefusedAs b s → r ≡ s
  refusal_once a b r s same (inl head) (inl again) =
      let once = by.outcomes a b [] [] (Err r) (Err s) head again (ap (λ t. t ++ []) same) in cc
  refusal_once a b r s same (inl head) (inr (close, body, request, fails, is)) =
      absurd (by.apart b a [] [] body close r request head (ap (λ t. t ++ []) (sym same)))
  refusal_once a b r s same (inr (close, body, request, fails, is)) (inl head) =
      absurd (by.apart a b [] [] body close s request head (ap (λ t. t ++ []) same))
  refusal_once a b r s same (inr (close, body, request, fails, is)) (inr (shut, text, again, fails', is')) = is ∙ sym is'

  -- what one front brings is written
  brings_once : (k : Front) (l m : Part) → Brings made wakes k l → Brings made wakes k m → l.taken ≡ m.taken → replies l.entries ≡ replies m.entries
      → l.out ≡ m.out
  brings_once (Whole close) l m p q same e =
      (past_exchange close close l m [] [] p q same (ap (λ r. r ++ []) e)).0
  brings_once Refuses l m (refusal, due, out) (other, due', out') same e =
      out ∙ ap refusal_bytes (refusal_once l.taken m.taken refusal other same due.0 due'.0) ∙ sym out'
  brings_once Between l m p q same e = p.1 ∙ sym q.1
  brings_once Inside l m p q same e = p.1 ∙ sym q.1

  last_once : (end other : Served) (n : ℕ) (l m : Part) (x y : List ℕ) → ShowsLast made wakes end n l x → ShowsLast made wakes other n m y
      → l.taken ++ x ≡ m.taken ++ y → replies l.entries ≡ replies m.entries → l.out ≡ m.out
  last_once end other n l m x y (inl (few, k, another, is, shows, brings)) (inl (few', k', another', is', shows', brings')) e h =
      let once = shows_once by k k' l.taken m.taken x y shows shows' e in
      brings_once k l m brings (subst (λ (f : Front). Brings made wakes f m) (sym once.0) brings') once.1 h
  last_once end other n l m x y (inl (few, k, another, is, shows, brings)) (inr (is', full, none)) e h = absurd (omega (arith, few, full))
  last_once end other n l m x y (inr (is, full, none)) (inl (few, k, another, is', shows, brings)) e h = absurd (omega (arith, few, full))
  last_once end other n l m x y (inr (is, full, none)) (inr (is', full', none')) e h = ap (λ p. p.out) none ∙ sym (ap (λ p. p.out) none')

  -- all parts, one after another
  outs_once : (n : ℕ) (ps qs : List Part) (end other : Served) (l m : Part) (x y : List ℕ)
      → All (IsExchange made wakes false) ps → All (IsExchange made wakes false) qs
      → ShowsLast made wakes end (n + length ps) l x → ShowsLast made wakes other (n + length qs) m y → takens ps ≡ takens qs
      → l.taken ++ x ≡ m.taken ++ y → replies ((all_of ps).entries ++ l.entries) ≡ replies ((all_of qs).entries ++ m.entries)
      → (all_of ps).out ++ l.out ≡ (all_of qs).out ++ m.out
  outs_once n [] [] end other l m x y es fs s t cut e h = last_once end other (n + 0) l m x y s t e h
  outs_once n [] (q ∷ qs) end other l m x y es fs s t cut e h = cc
  outs_once n (p ∷ ps) [] end other l m x y es fs s t cut e h = cc
  outs_once n (p ∷ ps) (q ∷ qs) end other l m x y es fs s t cut e h =
      let here : p.taken ≡ q.taken = cc in
      let there : takens ps ≡ takens qs = cc in
      let past = past_exchange false false p q (replies ((all_of ps).entries ++ l.entries)) (replies ((all_of qs).entries ++ m.entries))
      (All-head (IsExchange made wakes false) p ps es) (All-head (IsExchange made wakes false) q qs fs) here
      (sym (regrouped p.entries (all_of ps).entries l.entries) ∙ h ∙ regrouped q.entries (all_of qs).entries m.entries) in
      append_assoc p.out (all_of ps).out l.out
      ∙ ap (λ o. o ++ ((all_of ps).out ++ l.out)) past.0
      ∙ ap (λ o. q.out ++ o)
      (outs_once (n + 1) ps qs end other l m x y (All-tail (IsExchange made wakes false) p ps es) (All-tail (IsExchange made wakes false) q qs fs)
      (subst (λ (c : ℕ). ShowsLast made wakes end c l x) (omega arith) s) (subst (λ (c : ℕ). ShowsLast made wakes other c m y) (omega arith) t) there e past.1)
      ∙ sym (append_assoc q.out (all_of qs).out m.out)

  pub written_once : (end other : Served) (bytes left rest : List ℕ) (p q : Part)
      (t : Talk made wakes end (left ≡ []) p) (u : Talk made wakes other (rest ≡ []) q)
      → HasNoFault end → HasNoFault other → bytes ≡ p.taken ++ left → bytes ≡ q.taken ++ rest
      → replies p.entries ≡ replies q.entries → p.out ≡ q.out
  written_once end other bytes left rest p q t u free free' e f h =
      let cut = cut_one_way made wakes by says end other bytes left rest p q t u free free' e f in
      ap (λ k. k.out) t.whole
      ∙ outs_once 0 t.done u.done end other t.last u.last left rest t.exchanges u.exchanges
      (subst (λ (c : ℕ). ShowsLast made wakes end c t.last left) (omega arith) (last_shows made wakes by says end (length t.done) t.last left free t.ends))
      (subst (λ (c : ℕ). ShowsLast made wakes other c u.last rest) (omega arith) (last_shows made wakes by says other (length u.done) u.last rest free' u.ends))
      cut.1
      (append_cancel_left (all_of t.done).taken (t.last.taken ++ left) (u.last.taken ++ rest)
      (sym (whole_bytes made wakes by says bytes left p (all_of t.done) t.last t.whole e) ∙ whole_bytes made wakes by says bytes rest q (all_of u.done) u.last u.whole f
      ∙ ap (λ a. a ++ (u.last.taken ++ rest)) (sym (all_taken_once t.done u.done cut.1))))
      (ap (λ k. replies k.entries) (sym t.whole) ∙ h ∙ ap (λ k. replies k.entries) u.whole)
      ∙ sym (ap (λ k. k.out) u.whole)
