-- What the steps of reading a request show.
use Rattle.std.proofs.Common.{◌≡◌, ℕ, ◌+◌, ◌<◌, ◌≤◌, Bool, inl, inr, List, [], ◌∷◌, ◌++◌, length, Option, Some, None, Ok, Err, refl, sym, ◌∙◌, subst, arith, length-append}
use Rattle.std.specs.Prelude.{⊤, MatchOption, Result}
use Rattle.os_io.specs.Streams.{BothTold}
use Rattle.os_io.specs.declared.streams.Failed.{Failed}
use Rattle.http_link.specs.declared.refusal.Refusal.{Refusal}
use Rattle.http_link.specs.declared.refusal.Refusal.TheVariants.{HeadTooLarge}
use Rattle.http_link.specs.declared.requests.Incoming.TheVariants.{Whole as WholeRequest, Refused, Cut, Ended}
use Rattle.http_link.specs.declared.requests.HeadRead.{HeadRead}
use Rattle.http_link.specs.declared.requests.HeadRead.TheVariants.{Whole, TooLarge, Cut as CutHead, Ended as NoHead}
use Rattle.http_link.specs.declared.requests.LinkFault.{LinkFault}
use Rattle.http_link.specs.declared.requests.LinkFault.TheVariants.{ReadFault, Memory}
use Rattle.http_link.specs.Lines.{AreEmptyLines, IsOpenHead, IsWholeHead}
use Rattle.http_link.specs.Checks.{most_head, accepted, Head}
use Rattle.http_link.specs.Pieces.{most_piece}
use Rattle.http_link.specs.Requests.{AnswersTaken, AnswersHead, BodyEnds, AnswersBody, GivesPiece, TakesByte}
use Rattle.http_link.proofs.Lines.{open_has_no_head, whole_not_blank}
use Rattle.http_link.proofs.OneRequest.{open_part}
use Rattle.http_link.proofs.LinkReads.{took_none, took_with, took_same, took_all, took_both, took_so, took_alone}

abbrev Left : Type 0
Left = Option (List ℕ)

-- the bytes taken so far
abbrev Took : Left → Left → List ℕ → Type 0
Took x y taken = BothTold x y (λ before after. before ≡ taken ++ after)

abbrev IsEnd : Left → Left → Type 0
IsEnd y z = BothTold y z (λ before after. (before ≡ []) × (after ≡ []))

-- an answer under a pattern
pub head_at : (v w : HeadRead) (x y : Left) → v ≡ w → AnswersHead (Ok v) x y → AnswersHead (Ok w) x y
head_at v w x y e a = subst (λ (u : HeadRead). AnswersHead (Ok u) x y) e a

pub byte_at : (v w : Option ℕ) (x y : Left) → v ≡ w → BothTold x y (TakesByte v) → BothTold x y (TakesByte w)
byte_at v w x y e a = subst (λ (u : Option ℕ). BothTold x y (TakesByte u)) e a

pub pushed_at : (v w : Option ℕ) (text : List ℕ) (start lines : ℕ) → v ≡ w
    → MatchOption v (IsOpenHead text start lines) (λ n. IsWholeHead text n)
    → MatchOption w (IsOpenHead text start lines) (λ n. IsWholeHead text n)
pushed_at v w text start lines e a =
    subst (λ (u : Option ℕ). MatchOption u (IsOpenHead text start lines) (λ n. IsWholeHead text n)) e a

-- the bytes taken by another name
pub took_as : (x y : Left) (t u : List ℕ) → t ≡ u → Took x y u → Took x y t
took_as x y t u e took = subst (λ (v : List ℕ). Took x y v) (sym e) took

-- no byte is the end
pub end_at : (v : Option ℕ) (x y : Left) → ((b : ℕ) → v ≡ Some b → ⊥) → BothTold x y (TakesByte v) → IsEnd x y
end_at None x y none a = a
end_at (Some b) x y none a = absurd (none b refl)

-- ---- a head

pub head_fault : (text : List ℕ) (start lines : ℕ) (x y z : Left) → IsOpenHead text start lines → length text < most_head
    → Took x y text → z ≡ y → AnswersHead (Err ReadFault) x z
head_fault text start lines x y z o fits took same =
    (text, record { fits = fits; no_head = open_has_no_head text start lines o }, took_same x y z text took same)

pub head_cut : (text : List ℕ) (start lines : ℕ) (x y z : Left) → IsOpenHead text start lines → ¬ (AreEmptyLines text)
    → length text < most_head → Took x y text → IsEnd y z → AnswersHead (Ok (CutHead text)) x z
head_cut text start lines x y z o full fits took end = (
  text,
  (refl, full, record { fits = fits; no_head = open_has_no_head text start lines o }),
  took_all x y z text took end,
)

pub head_large : (text : List ℕ) (start lines : ℕ) (x y : Left) → IsOpenHead text start lines → length text ≤ most_head
    → most_head ≤ length text → Took x y text → AnswersHead (Ok (TooLarge text)) x y
head_large text start lines x y o fits full took =
    (text, (refl, omega (arith, fits, full), open_has_no_head text start lines o), took_with x y text took)

pub head_found : (text : List ℕ) (lines : ℕ) (x y : Left) → IsWholeHead text lines → length text ≤ most_head
    → Took x y text → AnswersHead (Ok (Whole text lines)) x y
head_found text lines x y whole fits took = (text, (refl, whole, fits), took_with x y text took)

-- a head that had begun before its last byte
pub head_lost : (text : List ℕ) (b start lines : ℕ) (x y : Left) → IsOpenHead text start lines → length text < most_head
    → Took x y (text ++ b ∷ []) → AnswersHead (Err Memory) x y
head_lost text b start lines x y o fits took =
    (text ++ b ∷ [], open_part text b start lines o fits, took_with x y (text ++ b ∷ []) took)

-- ---- a body

-- so many bytes were taken, and went where bodies go
pub record Went (To : List ℕ → Type 0) (count : ℕ) (x y : Left) : Type 0 where
  pub taken : List ℕ
  pub to : To taken
  pub counted : length taken ≡ count
  pub told : Took x y taken

pub none_went : (To : List ℕ → Type 0) (x : Left) → To [] → Went To 0 x x
none_went To x stays = record { taken = []; to = stays; counted = refl; told = took_none x }

-- a piece that went behind others
abbrev Joins : (To More Both : List ℕ → Type 0) → Type 0
Joins To More Both = (a b : List ℕ) → To a → length b ≤ most_piece → More b → Both (a ++ b)

pub more_went : (To More Both : List ℕ → Type 0) (count more most : ℕ) (x y z : Left) → Joins To More Both → Went To count x y
    → GivesPiece More y z most more → Went Both (count + more) x z
more_went To More Both count more most x y z joins w (piece, to, size, fits, few, told) = record {
  taken = w.taken ++ piece;
  to = joins w.taken piece w.to (omega (arith, size, few)) to;
  counted = length-append w.taken piece ∙ (λ i. w.counted i + size i);
  told = took_alone x z (w.taken ++ piece) (λ rest. more ≡ 0 → rest ≡ [])
      (took_both x y z w.taken piece (λ _. ⊤) (λ rest. more ≡ 0 → rest ≡ []) (took_with x y w.taken w.told) told);
}

-- all of a body came
pub body_whole : (To : List ℕ → Type 0) (count len : ℕ) (x y : Left) → Went To count x y → count ≤ len → len ≤ count
    → AnswersBody To len (Ok count) x y
body_whole To count len x y w fits full = (
  w.taken,
  (w.to, w.counted, fits),
  took_so x y w.taken (λ _. ⊤) (λ rest. count < len → rest ≡ []) (λ rest _ less. absurd (omega (arith, less, full))) (took_with x y w.taken w.told),
)

-- the input ended before
pub body_ended : (To More Both : List ℕ → Type 0) (count len more most : ℕ) (x y z : Left) → Joins To More Both → Went To count x y
    → GivesPiece More y z most more → more ≡ 0 → count ≤ len → AnswersBody Both len (Ok count) x z
body_ended To More Both count len more most x y z joins w (piece, to, size, fits, few, told) none less = (
  w.taken ++ piece,
  (joins w.taken piece w.to (omega (arith, size, few)) to, omega (arith, length-append w.taken piece, w.counted, size, none), less),
  took_so x z (w.taken ++ piece) (λ rest. more ≡ 0 → rest ≡ []) (λ rest. count < len → rest ≡ []) (λ rest ends _. ends none)
      (took_both x y z w.taken piece (λ _. ⊤) (λ rest. more ≡ 0 → rest ≡ []) (took_with x y w.taken w.told) told),
)

pub body_fault : (To Both : List ℕ → Type 0) (count len : ℕ) (failed : Failed) (x y z : Left) → ((bytes : List ℕ) → To bytes → Both bytes)
    → Went To count x y → count < len → z ≡ y → AnswersBody Both len (Err failed) x z
body_fault To Both count len failed x y z stays w less same =
    (w.taken, (stays w.taken w.to, omega (arith, w.counted, less)), took_same x y z w.taken w.told same)

-- ---- a request

pub answer_refused : (To : List ℕ → Type 0) (head : List ℕ) (lines : ℕ) (refusal : Refusal) (x y : Left) → To [] → AnswersHead (Ok (Whole head lines)) x y
    → Head head (Err refusal) → AnswersTaken To (Ok (Refused refusal)) x y
answer_refused To head lines refusal x y stays a refused =
    (a.0, (subst (λ (h : List ℕ). Head h (Err refusal)) a.1.0 refused, stays), a.2)

-- a head, and what came behind it
head_and_body : (To : List ℕ → Type 0) (head : List ℕ) (lines len : ℕ) (r : Result ℕ Failed) (Q : List ℕ → Type 0) (x y z : Left)
    → ((rest : List ℕ) → BodyEnds len r rest → Q rest) → (a : AnswersHead (Ok (Whole head lines)) x y) → (b : AnswersBody To len r y z)
    → BothTold x z (λ before after. (before ≡ (a.0 ++ b.0) ++ after) × Q after)
head_and_body To head lines len r Q x y z f a b =
    took_both x y z a.0 b.0 (λ _. ⊤) Q a.2 (took_so y z b.0 (λ rest. BodyEnds len r rest) Q f b.2)

pub answer_whole : (To : List ℕ → Type 0) (head : List ℕ) (lines len count : ℕ) (close : Bool) (x y z : Left) → AnswersHead (Ok (Whole head lines)) x y
    → Head head (Ok (accepted len close)) → AnswersBody To len (Ok count) y z → len ≤ count
    → AnswersTaken To (Ok (WholeRequest (record { close = close; length = count }))) x z
answer_whole To head lines len count close x y z a taken b full =
    let all : len ≡ length b.0 = omega (arith, b.1.1, b.1.2, full) in (
      a.0 ++ b.0,
      (
        b.0,
        (head, subst (λ (n : ℕ). Head head (Ok (accepted n close))) all taken, λ i. sym a.1.0 i ++ b.0),
        b.1.1,
        b.1.0,
      ),
      head_and_body To head lines len (Ok count) (λ _. ⊤) x y z (λ rest _. tt) a b,
    )

pub answer_cut : (To : List ℕ → Type 0) (head : List ℕ) (lines len count : ℕ) (close : Bool) (x y z : Left) → AnswersHead (Ok (Whole head lines)) x y
    → Head head (Ok (accepted len close)) → AnswersBody To len (Ok count) y z → count < len → AnswersTaken To (Ok Cut) x z
answer_cut To head lines len count close x y z a taken b less = (
  a.0 ++ b.0,
  (
    whole_not_blank a.0 lines b.0 a.1.1,
    inr (b.0, (head, len, close, taken, (λ i. sym a.1.0 i ++ b.0), omega (arith, b.1.1, less)), b.1.0),
  ),
  head_and_body To head lines len (Ok count) (λ rest. rest ≡ []) x y z (λ rest ends. ends less) a b,
)

pub answer_fault : (To : List ℕ → Type 0) (head : List ℕ) (lines len : ℕ) (close : Bool) (failed : Failed) (x y z : Left) → AnswersHead (Ok (Whole head lines)) x y
    → Head head (Ok (accepted len close)) → AnswersBody To len (Err failed) y z → AnswersTaken To (Err ReadFault) x z
answer_fault To head lines len close failed x y z a taken b = (
  a.0 ++ b.0,
  inr (b.0, (head, len, close, taken, (λ i. sym a.1.0 i ++ b.0), b.1.1), b.1.0),
  head_and_body To head lines len (Err failed) (λ _. ⊤) x y z (λ rest _. tt) a b,
)

pub answer_large : (To : List ℕ → Type 0) (text : List ℕ) (x y : Left) → To [] → AnswersHead (Ok (TooLarge text)) x y → AnswersTaken To (Ok (Refused HeadTooLarge)) x y
answer_large To text x y stays a = (a.0, (inl (a.1.1, a.1.2, refl), stays), a.2)

pub answer_cut_head : (To : List ℕ → Type 0) (text : List ℕ) (x y : Left) → To [] → AnswersHead (Ok (CutHead text)) x y → AnswersTaken To (Ok Cut) x y
answer_cut_head To text x y stays a = (a.0, (a.1.1, inl (a.1.2, stays)), a.2)

pub answer_ended : (To : List ℕ → Type 0) (text : List ℕ) (x y : Left) → To [] → AnswersHead (Ok (NoHead text)) x y → AnswersTaken To (Ok Ended) x y
answer_ended To text x y stays a = (a.0, (a.1.1, stays), a.2)

pub answer_head_fault : (To : List ℕ → Type 0) (fault : LinkFault) (x y : Left) → To [] → AnswersHead (Err fault) x y → AnswersTaken To (Err fault) x y
answer_head_fault To ReadFault x y stays a = (a.0, inl (a.1, stays), a.2)
answer_head_fault To Memory x y stays a = (a.0, (a.1, stays), a.2)
