-- Bytes are cut into requests in one way.
use Rattle.std.proofs.Common.{◌≡◌, ◌≢◌, ℕ, suc, ◌+◌, ◌<◌, Bool, true, false, List, [], ◌∷◌, ◌++◌, length, refl, sym, ◌∙◌, ap, subst, inl, inr, ◌⊎◌, arith, append_assoc, append-nil, Err}
use Rattle.std.specs.Prelude.{All}
use Rattle.std.proofs.lemmas.List.{append_cancel_left}
use Rattle.std.proofs.lemmas.List.Elements.{All-head, All-tail}
use Rattle.http_link.specs.declared.refusal.Refusal.{Refusal}
use Rattle.http_link.specs.Requests.{IsRequest, IsCut, EndedBetween}
use Rattle.soap_calls.specs.declared.fault.SoapFault.TheVariants as soap
use Rattle.soap_calls.specs.Refusals.{CallFails}
use Rattle.os_server.specs.OneReading.{Requests, Bodies}
use Rattle.job_table.specs.History.{MoveEntry}
use Rattle.os_server.specs.declared.fault.FaultCode.{FaultCode}
use Rattle.os_server.specs.declared.fault.FaultCode.TheVariants as codes_of
use Rattle.os_server.specs.declared.saying.ReplyEnvelope.{ReplyEnvelope}
use Rattle.os_server.specs.declared.serve.Served.{Served}
use Rattle.os_server.specs.declared.serve.Served.TheVariants.{Ended, CutShort, ReadFault, WriteFault, Memory}
use Rattle.os_server.specs.Orders.{Faults}
use Rattle.os_server.specs.Talk.{Part, part, all_of, then, most_requests, IsBodyAnswered, IsRefusedAs, IsExchange, IsSilentPart, IsRefusedRequest, EndsTalk, IsLastPart, Talk}
use Rattle.os_server.specs.Laws.{HasNoFault, takens}
use Rattle.job_runs.proofs.Judgements.{Made}
use Rattle.os_server.proofs.Pieces.{Wakes}

-- what stands at the front of bytes: a request that is answered, one that is refused, the end between requests, or inside one
pub data Front : Type 0 where
  Whole : Bool → Front
  Refuses : Front
  Between : Front
  Inside : Front

abbrev Shows : Front → List ℕ → List ℕ → Type 0
Shows (Whole close) taken rest = (body : List ℕ) × IsRequest taken close body × (CallFails body soap.Envelope → ⊥)
Shows Refuses taken rest = (refusal : Refusal) × IsRefusedAs taken refusal
Shows Between taken rest = EndedBetween taken × (rest ≡ [])
Shows Inside taken rest = IsCut taken × (rest ≡ [])

all_taken : (a b x y : List ℕ) → x ≡ [] → y ≡ [] → a ++ x ≡ b ++ y → a ≡ b
all_taken a b x y p q e =
    sym (append-nil a) ∙ ap (λ s. a ++ s) (sym p) ∙ e ∙ ap (λ s. b ++ s) q ∙ append-nil b

no_rest : (a b x y : List ℕ) → y ≡ [] → a ++ x ≡ b ++ y → b ≡ a ++ x
no_rest a b x y q e = sym (append-nil b) ∙ ap (λ s. b ++ s) (sym q) ∙ sym e

module _ (by : Requests) where
  both_whole : (c d : Bool) (a b x y : List ℕ) → Shows (Whole c) a x → Shows (Whole d) b y → a ++ x ≡ b ++ y → (Whole c ≡ Whole d) × (a ≡ b)
  both_whole c d a b x y (body, request, called) (other, again, called') e =
      (ap (λ k. Whole k) (by.closes a b x y body other c d request again e), by.requests a b x y body other c d request again e)

  whole_refuses : (c : Bool) (a b x y : List ℕ) → Shows (Whole c) a x → Shows Refuses b y → a ++ x ≡ b ++ y → ⊥
  whole_refuses c a b x y (body, request, called) (refusal, inl head) e = by.apart a b x y body c refusal request head e
  whole_refuses c a b x y (body, request, called) (refusal, inr (close, other, again, fails, is)) e =
      called (subst (λ (t : List ℕ). CallFails t soap.Envelope) (sym (by.bodies a b x y body other c close request again e)) fails)

  both_refuse : (a b x y : List ℕ) → Shows Refuses a x → Shows Refuses b y → a ++ x ≡ b ++ y → a ≡ b
  both_refuse a b x y (refusal, inl head) (other, inl again) e = by.heads a b x y (Err refusal) (Err other) head again e
  both_refuse a b x y (refusal, inl head) (other, inr (close, body, request, fails, is)) e =
      absurd (by.apart b a y x body close refusal request head (sym e))
  both_refuse a b x y (refusal, inr (close, body, request, fails, is)) (other, inl head) e =
      absurd (by.apart a b x y body close other request head e)
  both_refuse a b x y (refusal, inr (close, body, request, fails, is)) (other, inr (shut, text, again, fails', is')) e =
      by.requests a b x y body text close shut request again e

  -- bytes that end between requests or inside one have no request and no refused head at their front
  whole_ends : (c : Bool) (a b x y : List ℕ) → Shows (Whole c) a x → EndedBetween b ⊎ IsCut b → y ≡ [] → a ++ x ≡ b ++ y → ⊥
  whole_ends c a b x y (body, request, called) (inl ended) none e = by.ended_whole b a x body c ended request (no_rest a b x y none e)
  whole_ends c a b x y (body, request, called) (inr cut) none e = by.cut_whole b a x body c cut request (no_rest a b x y none e)

  refuses_ends : (a b x y : List ℕ) → Shows Refuses a x → EndedBetween b ⊎ IsCut b → y ≡ [] → a ++ x ≡ b ++ y → ⊥
  refuses_ends a b x y (refusal, inl head) (inl ended) none e = by.ended_refused b a x refusal ended head (no_rest a b x y none e)
  refuses_ends a b x y (refusal, inl head) (inr cut) none e = by.cut_refused b a x refusal cut head (no_rest a b x y none e)
  refuses_ends a b x y (refusal, inr (close, body, request, fails, is)) (inl ended) none e =
      by.ended_whole b a x body close ended request (no_rest a b x y none e)
  refuses_ends a b x y (refusal, inr (close, body, request, fails, is)) (inr cut) none e =
      by.cut_whole b a x body close cut request (no_rest a b x y none e)

  between_inside : (a b x y : List ℕ) → Shows Between a x → Shows Inside b y → a ++ x ≡ b ++ y → ⊥
  between_inside a b x y (ended, none) (cut, none') e =
      by.cut_ended b cut (subst (λ (t : List ℕ). EndedBetween t) (all_taken a b x y none none' e) ended)

  -- the same bytes show one thing at their front
  pub shows_once : (k l : Front) (a b x y : List ℕ) → Shows k a x → Shows l b y → a ++ x ≡ b ++ y → (k ≡ l) × (a ≡ b)
  shows_once (Whole c) (Whole d) a b x y p q e = both_whole c d a b x y p q e
  shows_once (Whole c) Refuses a b x y p q e = absurd (whole_refuses c a b x y p q e)
  shows_once (Whole c) Between a b x y p q e = absurd (whole_ends c a b x y p (inl q.0) q.1 e)
  shows_once (Whole c) Inside a b x y p q e = absurd (whole_ends c a b x y p (inr q.0) q.1 e)
  shows_once Refuses (Whole d) a b x y p q e = absurd (whole_refuses d b a y x q p (sym e))
  shows_once Refuses Refuses a b x y p q e = (refl, both_refuse a b x y p q e)
  shows_once Refuses Between a b x y p q e = absurd (refuses_ends a b x y p (inl q.0) q.1 e)
  shows_once Refuses Inside a b x y p q e = absurd (refuses_ends a b x y p (inr q.0) q.1 e)
  shows_once Between (Whole d) a b x y p q e = absurd (whole_ends d b a y x q (inl p.0) p.1 (sym e))
  shows_once Between Refuses a b x y p q e = absurd (refuses_ends b a y x q (inl p.0) p.1 (sym e))
  shows_once Between Between a b x y p q e = (refl, all_taken a b x y p.1 q.1 e)
  shows_once Between Inside a b x y p q e = absurd (between_inside a b x y p q e)
  shows_once Inside (Whole d) a b x y p q e = absurd (whole_ends d b a y x q (inr p.0) p.1 (sym e))
  shows_once Inside Refuses a b x y p q e = absurd (refuses_ends b a y x q (inr p.0) p.1 (sym e))
  shows_once Inside Between a b x y p q e = absurd (between_inside b a y x q p (sym e))
  shows_once Inside Inside a b x y p q e = (refl, all_taken a b x y p.1 q.1 e)

-- the end that a front brings, other than that of a request after which the next comes
abbrev end_of : Front → Served
end_of (Whole close) = Ended
end_of Refuses = Ended
end_of Between = Ended
end_of Inside = CutShort

-- a body that is an envelope of a call, refused or not, isn't refused as one
faults_call : (by : Bodies) (body : List ℕ) (code : FaultCode) (text : List ℕ) → Faults body code text → CallFails body soap.Envelope → ⊥
faults_call by body codes_of.Call text (name, fails, is) none =
    let same : soap.Call name ≡ soap.Envelope = by.refusals body (soap.Call name) soap.Envelope (λ e. cc) (λ e. cc) fails none in cc
faults_call by body codes_of.Part text (p, fails, is) none =
    let same : soap.Part p ≡ soap.Envelope = by.refusals body (soap.Part p) soap.Envelope (λ e. cc) (λ e. cc) fails none in cc
faults_call by body codes_of.Options text (call, is, refuses) none =
    let same : soap.Envelope ≡ soap.Memory = by.apart body call soap.Envelope is none in cc
faults_call by body codes_of.Process text (call, is, refuses) none =
    let same : soap.Envelope ≡ soap.Memory = by.apart body call soap.Envelope is none in cc
faults_call by body codes_of.Full text p none = p
faults_call by body codes_of.Spent text p none = p
faults_call by body codes_of.Disk text p none = p

module _ (made : Made) (wakes : Wakes) where
  -- what a front brings
  abbrev pub Brings : Front → Part → Type 0
  Brings (Whole close) p = IsExchange made wakes close p
  Brings Refuses p = IsRefusedRequest made wakes p
  Brings Between p = IsSilentPart made wakes p
  Brings Inside p = IsSilentPart made wakes p

  -- the last part of a conversation without a fault
  abbrev pub ShowsLast : Served → ℕ → Part → List ℕ → Type 0
  ShowsLast end count l rest =
      ((count < most_requests) × (k : Front) × (k ≢ Whole false) × (end ≡ end_of k) × Shows k l.taken rest × Brings k l)
      ⊎ ((end ≡ Ended) × (count ≡ most_requests) × (l ≡ part [] [] []))

module _ (made : Made) (wakes : Wakes) (by : Requests) (says : Bodies) where
  answers_call : (body : List ℕ) (own : List MoveEntry) (said : ReplyEnvelope) (as_worker : Bool) → IsBodyAnswered made wakes body own said as_worker
      → CallFails body soap.Envelope → ⊥
  answers_call body own said as_worker (inl d) none =
      let same : soap.Envelope ≡ soap.Memory = says.apart body d.asks.call soap.Envelope d.asks.is_call none in cc
  answers_call body own said as_worker (inr f) none = faults_call says body f.code f.text f.faults none

  exchange_shows : (close : Bool) (p : Part) (rest : List ℕ) → IsExchange made wakes close p → Shows (Whole close) p.taken rest
  exchange_shows close p rest x =
      (x.answered.0, x.answered.1, answers_call x.answered.0 x.own x.said x.as_worker x.answered.2)

  ends_show : (end : Served) (count : ℕ) (l : Part) (rest : List ℕ) → HasNoFault end → count < most_requests → EndsTalk made wakes end (rest ≡ []) l
      → ShowsLast made wakes end count l rest
  ends_show Ended count l rest free few (inl (ended, silence, at)) = inl (few, Between, (λ e. cc), refl, (ended, at), silence)
  ends_show Ended count l rest free few (inr (inl x)) = inl (few, Whole true, (λ e. cc), refl, exchange_shows true l rest x, x)
  ends_show Ended count l rest free few (inr (inr (refusal, is_due, out))) = inl (few, Refuses, (λ e. cc), refl, (refusal, is_due.0), (refusal, is_due, out))
  ends_show CutShort count l rest free few (cut, silence, at) = inl (few, Inside, (λ e. cc), refl, (cut, at), silence)
  ends_show ReadFault count l rest free few p = absurd free
  ends_show WriteFault count l rest free few p = absurd free
  ends_show Memory count l rest free few p = absurd free

  pub last_shows : (end : Served) (count : ℕ) (l : Part) (rest : List ℕ) → HasNoFault end → IsLastPart made wakes end count (rest ≡ []) l
      → ShowsLast made wakes end count l rest
  last_shows end count l rest free (inl (few, ends)) = ends_show end count l rest free few ends
  last_shows end count l rest free (inr full) = inr full

  -- a last part and a request after which the next comes
  never_last : (end : Served) (count other : ℕ) (l q : Part) (rest more : List ℕ) → ShowsLast made wakes end count l rest → count < other
      → (other < most_requests) ⊎ (other ≡ most_requests) → IsExchange made wakes false q → l.taken ++ rest ≡ q.taken ++ more → ⊥
  never_last end count other l q rest more (inl (few, k, another, is, shows, brings)) less most x e =
      another (shows_once by k (Whole false) l.taken q.taken rest more shows (exchange_shows false q more x) e).0
  never_last end count other l q rest more (inr (is, full, none)) less (inl most) x e = omega (arith, full, less, most)
  never_last end count other l q rest more (inr (is, full, none)) less (inr most) x e = omega (arith, full, less, most)

  few_or_full : (end : Served) (count : ℕ) (l : Part) (rest : List ℕ) → ShowsLast made wakes end count l rest
      → (count < most_requests) ⊎ (count ≡ most_requests)
  few_or_full end count l rest (inl p) = inl p.0
  few_or_full end count l rest (inr p) = inr p.1

  lasts_once : (end other : Served) (count : ℕ) (l m : Part) (x y : List ℕ) → ShowsLast made wakes end count l x → ShowsLast made wakes other count m y
      → l.taken ++ x ≡ m.taken ++ y → (end ≡ other) × (l.taken ≡ m.taken)
  lasts_once end other count l m x y (inl (few, k, another, is, shows, brings)) (inl (few', k', another', is', shows', brings')) e =
      let once = shows_once by k k' l.taken m.taken x y shows shows' e in (is ∙ ap end_of once.0 ∙ sym is', once.1)
  lasts_once end other count l m x y (inl (few, k, another, is, shows, brings)) (inr (is', full, none)) e = absurd (omega (arith, few, full))
  lasts_once end other count l m x y (inr (is, full, none)) (inl (few, k, another, is', shows, brings)) e = absurd (omega (arith, few, full))
  lasts_once end other count l m x y (inr (is, full, none)) (inr (is', full', none')) e =
      (is ∙ sym is', ap (λ p. p.taken) none ∙ sym (ap (λ p. p.taken) none'))

  -- a first part is put before the rest
  regroup : (a b l x : List ℕ) → (a ++ b) ++ (l ++ x) ≡ a ++ (b ++ (l ++ x))
  regroup a b l x = append_assoc a b (l ++ x)

  cut_once : (n : ℕ) (ps qs : List Part) (end other : Served) (l m : Part) (x y : List ℕ)
      → All (IsExchange made wakes false) ps → All (IsExchange made wakes false) qs
      → ShowsLast made wakes end (n + length ps) l x → ShowsLast made wakes other (n + length qs) m y
      → (all_of ps).taken ++ (l.taken ++ x) ≡ (all_of qs).taken ++ (m.taken ++ y)
      → (end ≡ other) × (takens ps ≡ takens qs) × (l.taken ≡ m.taken)
  cut_once n [] [] end other l m x y es fs s t e =
      let once = lasts_once end other (n + 0) l m x y s t e in (once.0, refl, once.1)
  cut_once n [] (q ∷ qs) end other l m x y es fs s t e =
      absurd (never_last end (n + 0) (n + suc (length qs)) l q x ((all_of qs).taken ++ (m.taken ++ y)) s (omega arith)
      (few_or_full other (n + suc (length qs)) m y t) (All-head (IsExchange made wakes false) q qs fs)
      (e ∙ regroup q.taken (all_of qs).taken m.taken y))
  cut_once n (p ∷ ps) [] end other l m x y es fs s t e =
      absurd (never_last other (n + 0) (n + suc (length ps)) m p y ((all_of ps).taken ++ (l.taken ++ x)) t (omega arith)
      (few_or_full end (n + suc (length ps)) l x s) (All-head (IsExchange made wakes false) p ps es)
      (sym e ∙ regroup p.taken (all_of ps).taken l.taken x))
  cut_once n (p ∷ ps) (q ∷ qs) end other l m x y es fs s t e =
      let bytes : p.taken ++ ((all_of ps).taken ++ (l.taken ++ x)) ≡ q.taken ++ ((all_of qs).taken ++ (m.taken ++ y)) =
      sym (regroup p.taken (all_of ps).taken l.taken x) ∙ e ∙ regroup q.taken (all_of qs).taken m.taken y in
      let once = both_whole by false false p.taken q.taken _ _
      (exchange_shows false p ((all_of ps).taken ++ (l.taken ++ x)) (All-head (IsExchange made wakes false) p ps es))
      (exchange_shows false q ((all_of qs).taken ++ (m.taken ++ y)) (All-head (IsExchange made wakes false) q qs fs)) bytes in
      let rests = append_cancel_left p.taken ((all_of ps).taken ++ (l.taken ++ x)) ((all_of qs).taken ++ (m.taken ++ y))
      (bytes ∙ ap (λ a. a ++ ((all_of qs).taken ++ (m.taken ++ y))) (sym once.1)) in
      let more = cut_once (n + 1) ps qs end other l m x y (All-tail (IsExchange made wakes false) p ps es) (All-tail (IsExchange made wakes false) q qs fs)
      (subst (λ (c : ℕ). ShowsLast made wakes end c l x) (omega arith) s) (subst (λ (c : ℕ). ShowsLast made wakes other c m y) (omega arith) t) rests in
      (more.0, (λ i. once.1 i ∷ more.1 i), more.2)

  -- the bytes of a conversation, and what is left
  pub whole_bytes : (bytes left : List ℕ) (p d l : Part) → p ≡ then d l → bytes ≡ p.taken ++ left
      → bytes ≡ d.taken ++ (l.taken ++ left)
  whole_bytes bytes left p d l is e =
      e ∙ ap (λ q. q.taken ++ left) is ∙ append_assoc d.taken l.taken left

  pub cut_one_way : (end other : Served) (bytes left rest : List ℕ) (p q : Part)
      (t : Talk made wakes end (left ≡ []) p) (u : Talk made wakes other (rest ≡ []) q)
      → HasNoFault end → HasNoFault other → bytes ≡ p.taken ++ left → bytes ≡ q.taken ++ rest
      → (end ≡ other) × (takens t.done ≡ takens u.done) × (t.last.taken ≡ u.last.taken)
  cut_one_way end other bytes left rest p q t u free free' e f =
      cut_once 0 t.done u.done end other t.last u.last left rest t.exchanges u.exchanges
      (subst (λ (c : ℕ). ShowsLast made wakes end c t.last left) (omega arith) (last_shows end (length t.done) t.last left free t.ends))
      (subst (λ (c : ℕ). ShowsLast made wakes other c u.last rest) (omega arith) (last_shows other (length u.done) u.last rest free' u.ends))
      (sym (whole_bytes bytes left p (all_of t.done) t.last t.whole e) ∙ whole_bytes bytes rest q (all_of u.done) u.last u.whole f)
