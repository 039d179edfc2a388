-- What a server writes is told as it meant it.
use Rattle.std.proofs.Common.{◌≡◌, ◌∙◌, ℕ, ◌≤◌, List, [], ◌∷◌, ◌++◌, Option, Some, None, Result, inl, inr, arith, sym, ap, subst}
use Rattle.os_io.specs.Links as links
use Rattle.os_io.specs.Streams.{Tells}
use Rattle.http_link.specs.Replies.{BytesCome, IsReadWhole, EndsReading}
use Rattle.six_calls.specs.Names.{kind_text}
use Rattle.os_client.specs.declared.fault.CallFault.{CallFault}
use Rattle.os_client.specs.Answers.{SaysToCall}
use Rattle.os_client.specs.LinkCalls.{Hears}
use Rattle.command_answers.specs.Outputs.{IsSent}
use Rattle.os_client.specs.Outputs.{IsOutputDue}
use Rattle.os_client.specs.Runs.{CallRun, CallEnds, answered, unsent, unheard, unasked, no_file, no_link, no_memory}
use Rattle.os_client.specs.Laws.{GivesFirst, HasAnswered}

abbrev Outcome : Type 0
Outcome = Result (List ℕ) CallFault

-- bytes say one thing
abbrev pub OneAnswer : Type 0
OneAnswer = (name bytes : List ℕ) (r s : Outcome) → SaysToCall name bytes r → SaysToCall name bytes s → r ≡ s

-- the bytes that come decide which of them are read
abbrev pub OneFirst : Type 0
OneFirst = (came other rest more : List ℕ) → EndsReading came (rest ≡ []) → EndsReading other (more ≡ []) → came ++ rest ≡ other ++ more → came ≡ other

-- the bytes that are read of those that come are the first that nothing is read behind
came_is : OneFirst → (wire rest bytes : List ℕ) (left : Option (List ℕ)) → IsReadWhole wire → BytesCome bytes (Some (wire ++ rest)) left → bytes ≡ wire
came_is first wire rest bytes None done came = absurd came.taken
came_is first wire rest bytes (Some after) done came = first bytes wire after rest came.ends (inl done) (sym came.taken)

heard_is : OneAnswer → OneFirst → (name wire rest : List ℕ) (said outcome : Outcome) (link link_after : Tells) → IsReadWhole wire → SaysToCall name wire said → link.left ≡ Some (wire ++ rest)
    → Hears name outcome link link_after → outcome ≡ said
heard_is one first name wire rest said outcome link link_after done says left h =
    let is = came_is first wire rest h.bytes link_after.left done (subst (λ (l : Option (List ℕ)). BytesCome h.bytes l link_after.left) left h.came) in
    one name wire outcome said (subst (λ (b : List ℕ). SaysToCall name b outcome) is h.says) says

-- the link that comes is the net's next one
next_is : (link more-link : Tells) (more : List Tells) (coming : Option (List Tells)) → links.Comes (Some (link ∷ more)) coming more-link → more-link ≡ link
next_is link next more None came = absurd came
next_is link next more (Some after) came = let e : link ∷ more ≡ next ∷ after = came in cc

-- the statuses at which nothing is answered
unanswered : (status n : ℕ) → status ≡ n → 2 ≤ n → n ≤ 6 → HasAnswered status → ⊥
unanswered status n is low high (inl zero) = omega (arith, is, low, zero)
unanswered status n is low high (inr (inl one)) = omega (arith, is, low, one)
unanswered status n is low high (inr (inr seven)) = omega (arith, is, high, seven)

pub told_of : OneAnswer → OneFirst → (status : ℕ) (run : CallRun) (wire : List ℕ) (said : Outcome) → IsReadWhole wire → SaysToCall (kind_text run.kind) wire said → GivesFirst run wire → CallEnds status run → HasAnswered status
    → (due : List ℕ) × IsOutputDue run.kind said status due × IsSent due run.output run.output_after
told_of one first status run wire said done says (link, more, rest, coming, left) (answered outcome due h is sent) which =
    let same = next_is link h.link more run.net_after.coming (subst (λ (c : Option (List Tells)). links.Comes c run.net_after.coming h.link) coming h.links.came) in
    let heard = heard_is one first (kind_text run.kind) wire rest said outcome h.link h.link_after done says (ap (λ (t : Tells). t.left) same ∙ left) h.hears in
    (due, subst (λ (r : Outcome). IsOutputDue run.kind r status due) heard is, sent)
told_of one first status run wire said done says gives (unsent outcome would due four h is off) which = absurd (unanswered status 4 four (omega arith) (omega arith) which)
told_of one first status run wire said done says gives (unheard three m s) which = absurd (unanswered status 3 three (omega arith) (omega arith) which)
told_of one first status run wire said done says gives (unasked four m s) which = absurd (unanswered status 4 four (omega arith) (omega arith) which)
told_of one first status run wire said done says gives (no_file three f) which = absurd (unanswered status 3 three (omega arith) (omega arith) which)
told_of one first status run wire said done says gives (no_link six l) which = absurd (unanswered status 6 six (omega arith) (omega arith) which)
told_of one first status run wire said done says gives (no_memory five l) which = absurd (unanswered status 5 five (omega arith) (omega arith) which)

-- what is due by another name
pub due_is : (status due : ℕ) (text other : List ℕ) (old new : Tells) → (status ≡ due) × (other ≡ text) → IsSent other old new → (status ≡ due) × IsSent text old new
due_is status due text other old new (is, same) sent = (is, subst (λ (t : List ℕ). IsSent t old new) same sent)
