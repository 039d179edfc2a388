-- What the steps of reading a reply show.
use Rattle.std.proofs.Common.{◌≡◌, ℕ, ◌<◌, ◌≤◌, inl, inr, List, [], ◌++◌, length, Option, Some, None, Ok, Err, refl, sym, ap, ◌∙◌, subst, arith}
use Rattle.std.specs.Prelude.{⊤, Result, IfOk, IfErr}
use Rattle.std.proofs.lemmas.Bool.{cases_lt}
use Rattle.os_io.specs.Streams.{BothTold}
use Rattle.os_io.specs.declared.streams.Failed.{Failed}
use Rattle.http_link.specs.declared.requests.HeadRead.TheVariants.{Whole, TooLarge, Cut as CutHead, Ended as NoHead}
use Rattle.http_link.specs.declared.requests.LinkFault.{LinkFault}
use Rattle.http_link.specs.declared.requests.LinkFault.TheVariants.{ReadFault, Memory}
use Rattle.http_link.specs.declared.replies.ReplyHead.{ReplyHead}
use Rattle.http_link.specs.declared.replies.Came.{Came}
use Rattle.http_link.specs.Lines.{HasNoHead}
use Rattle.http_link.specs.Requests.{IsHeadBegun, EndedBetween, AnswersHead, AnswersBody}
use Rattle.http_link.specs.Replies.{ReadsReply, HeadSays, most_of, BytesCome, Brings}
use Rattle.http_link.proofs.OneRequest.{ended_head_begun}
use Rattle.http_link.proofs.LinkReads.{took_both, took_so, took_alone}

abbrev Left : Type 0
Left = Option (List ℕ)

-- the rest, without what was taken
rest_alone : (x y : Left) (taken : List ℕ) (Q : List ℕ → Type 0) → BothTold x y (λ before after. (before ≡ taken ++ after) × Q after)
    → BothTold x y (λ before after. Q after)
rest_alone None y taken Q t = tt
rest_alone (Some x) None taken Q t = t
rest_alone (Some x) (Some y) taken Q t = t.1

taken_as : (x y : Left) (t u : List ℕ) → t ≡ u → BothTold x y (λ before after. before ≡ t ++ after) → BothTold x y (λ before after. before ≡ u ++ after)
taken_as x y t u e told = subst (λ (v : List ℕ). BothTold x y (λ before after. before ≡ v ++ after)) e told

-- ---- heads

-- what a whole head says
pub head_says : (head : List ℕ) (lines : ℕ) (x y : Left) (says : Option ReplyHead) → AnswersHead (Ok (Whole head lines)) x y
    → ReadsReply head says → HeadSays head says
head_says head lines x y says a reads =
    let whole = a.1.1 in
    inr (whole.0, whole.1, a.1.0 ∙ whole.2, omega (arith, a.1.2, ap length a.1.0), reads)

-- bytes that are too many for a head are refused
pub large_says : (text : List ℕ) (x y : Left) → AnswersHead (Ok (TooLarge text)) x y → HeadSays text None
large_says text x y a = inl (ap length a.1.0 ∙ a.1.1, subst HasNoHead (sym a.1.0) a.1.2, refl)

-- a head that is cut has begun, and so have empty lines
pub cut_begun : (text : List ℕ) (x y : Left) → AnswersHead (Ok (CutHead text)) x y → IsHeadBegun text
cut_begun text x y a = subst IsHeadBegun (sym a.1.0) a.1.2

pub blank_begun : (text : List ℕ) (x y : Left) → AnswersHead (Ok (NoHead text)) x y → IsHeadBegun text
blank_begun text x y a = ended_head_begun text (subst EndedBetween (sym a.1.0) a.1.1)

-- ---- what came

pub comes_refused : (head : List ℕ) (lines : ℕ) (x y : Left) → AnswersHead (Ok (Whole head lines)) x y → ReadsReply head None
    → BytesCome head x y
comes_refused head lines x y a reads = record {
  taken = taken_as x y a.0 head (sym a.1.0) (took_alone x y a.0 (λ _. ⊤) a.2);
  ends = inl (inl (head_says head lines x y None a reads));
}

pub comes_large : (text : List ℕ) (x y : Left) → AnswersHead (Ok (TooLarge text)) x y → BytesCome text x y
comes_large text x y a = record {
  taken = taken_as x y a.0 text (sym a.1.0) (took_alone x y a.0 (λ _. ⊤) a.2);
  ends = inl (inl (large_says text x y a));
}

pub comes_cut : (text : List ℕ) (x y : Left) → AnswersHead (Ok (CutHead text)) x y → BytesCome text x y
comes_cut text x y a = record {
  taken = taken_as x y a.0 text (sym a.1.0) (took_alone x y a.0 (λ rest. rest ≡ []) a.2);
  ends = inr (inl (cut_begun text x y a), rest_alone x y a.0 (λ rest. rest ≡ []) a.2);
}

pub comes_blank : (text : List ℕ) (x y : Left) → AnswersHead (Ok (NoHead text)) x y → BytesCome text x y
comes_blank text x y a = record {
  taken = taken_as x y a.0 text (sym a.1.0) (took_alone x y a.0 (λ rest. rest ≡ []) a.2);
  ends = inr (inl (blank_begun text x y a), rest_alone x y a.0 (λ rest. rest ≡ []) a.2);
}

-- a head, and what was read behind it
both_taken : (head : List ℕ) (lines : ℕ) (taken body : List ℕ) (Q : List ℕ → Type 0) (x y z : Left) → AnswersHead (Ok (Whole head lines)) x y
    → taken ≡ body → BothTold y z (λ before after. (before ≡ taken ++ after) × Q after)
    → BothTold x z (λ before after. (before ≡ (head ++ body) ++ after) × Q after)
both_taken head lines taken body Q x y z a is told =
    subst (λ (v : List ℕ). BothTold x z (λ before after. (before ≡ v ++ after) × Q after)) (λ i. sym a.1.0 i ++ is i)
    (took_both x y z a.0 taken (λ _. ⊤) Q a.2 told)

pub comes_behind : (To : List ℕ → Type 0) (head : List ℕ) (lines count : ℕ) (body : List ℕ) (says : ReplyHead) (x y z : Left)
    → AnswersHead (Ok (Whole head lines)) x y → HeadSays head (Some says) → (b : AnswersBody To (most_of says) (Ok count) y z) → b.0 ≡ body
    → BytesCome (head ++ body) x z
comes_behind To head lines count body says x y z a heads b is =
    let told = both_taken head lines b.0 body (λ rest. count < most_of says → rest ≡ []) x y z a is b.2 in
    record {
      taken = took_alone x z (head ++ body) (λ rest. count < most_of says → rest ≡ []) told;
      ends =
          elim (cases_lt count (most_of says)) [
            | inl less ↦
                inr (
                  inr (head, body, says, heads, refl, omega (arith, less, b.1.1, ap length is)),
                  rest_alone x z (head ++ body) (λ rest. rest ≡ []) (took_so x z (head ++ body) (λ rest. count < most_of says → rest ≡ []) (λ rest. rest ≡ []) (λ rest ends. ends less) told),
                )
            | inr full ↦ inl (inr (head, body, says, heads, refl, omega (arith, full, b.1.1, b.1.2, ap length is)))
          ];
    }

-- the same bytes by another name
pub comes_as : (bytes named : List ℕ) (x y : Left) → named ≡ bytes → BytesCome bytes x y → BytesCome named x y
comes_as bytes named x y e came = subst (λ (b : List ℕ). BytesCome b x y) (sym e) came

-- ---- what was lost

-- all that came is a part of it
pub comes_lost : (head body : List ℕ) (says : ReplyHead) (x z : Left) → HeadSays head (Some says)
    → length body ≤ most_of says → BytesCome (head ++ body) x z → Brings (Err Memory) x z
comes_lost head body says x z heads less came = (head ++ body, inr (head, body, says, heads, refl, less), came.taken)

pub brings_body_fault : (To : List ℕ → Type 0) (head : List ℕ) (lines : ℕ) (says : ReplyHead) (failed : Failed) (x y z : Left) → AnswersHead (Ok (Whole head lines)) x y
    → HeadSays head (Some says) → AnswersBody To (most_of says) (Err failed) y z → Brings (Err ReadFault) x z
brings_body_fault To head lines says failed x y z a heads b = (
  head ++ b.0,
  inr (head, b.0, says, heads, refl, b.1.1),
  took_alone x z (head ++ b.0) (λ _. ⊤) (both_taken head lines b.0 b.0 (λ _. ⊤) x y z a refl b.2),
)

-- a head and its body put together
pub brings_joined : (head body : List ℕ) (says : ReplyHead) (r : Result Came LinkFault) (x z : Left) → HeadSays head (Some says)
    → length body ≤ most_of says → BytesCome (head ++ body) x z → IfOk r (λ came. came.bytes ≡ head ++ body) → IfErr r (λ f. f ≡ Memory)
    → Brings r x z
brings_joined head body says (Ok came) x z heads less comes bytes lost = comes_as (head ++ body) came.bytes x z bytes comes
brings_joined head body says (Err ReadFault) x z heads less comes bytes lost = absurd (cc)
brings_joined head body says (Err Memory) x z heads less comes bytes lost = comes_lost head body says x z heads less comes

-- an answer under a pattern, and what a slice says of its text
pub reads_of : (slice text : List ℕ) (v w : Option ReplyHead) → slice ≡ text → v ≡ w → ReadsReply slice v → ReadsReply text w
reads_of slice text v w e f reads = subst (λ (o : Option ReplyHead). ReadsReply text o) f (subst (λ (b : List ℕ). ReadsReply b v) e reads)

pub body_of : (To : List ℕ → Type 0) (m n : ℕ) (r : Result ℕ Failed) (x y : Left) → m ≡ n → AnswersBody To m r x y → AnswersBody To n r x y
body_of To m n r x y e a = subst (λ (k : ℕ). AnswersBody To k r x y) e a
