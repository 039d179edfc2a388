-- The bytes that come begin with one head, and so with one request, or with none.
use Rattle.std.proofs.Common.{◌≡◌, ◌≢◌, ℕ, Bool, ◌<◌, ◌≤◌, ◌⊎◌, inl, inr, List, [], ◌∷◌, ◌++◌, length, Ok, Err, refl, sym, ap, ◌∙◌, subst, arith, append_assoc, append-nil, length-append}
use Rattle.std.specs.Prelude.{All, Result}
use Rattle.std.proofs.lemmas.List.Elements.{All-nil}
use Rattle.std.proofs.lemmas.Bool.{cases_lt}
use Rattle.httparse.proofs.GrammarLemmas.{request_unique}
use Rattle.http_link.specs.declared.refusal.Refusal.{Refusal}
use Rattle.http_link.specs.Lines.{IsEmptyLine, IsFullLine, HeadLines, AreHeadLines, IsOpenHead, print_lines, print_head}
use Rattle.http_link.specs.declared.checks.Accepted.{Accepted}
use Rattle.http_link.specs.Checks.{most_head, accepted, outcome_of, ReadsHead, ReadsLines, Head}
use Rattle.http_link.specs.Requests.{IsRequest, IsHeadBegun, IsBegun, IsBegunInto, IsHeadPart, EndedBetween}
use Rattle.http_link.proofs.Lines.{first_lines, head_lines_all, open_has_no_head, no_more}
use Rattle.http_link.proofs.Extents.{IsHeadExtent, extents_same, begun_extent, last_of, push_same, longer, front_same, regroup, append_cancel}
use Rattle.http_link.proofs.Fields.{after_full}

-- ---- one head

head_extent : (a : List ℕ) (o : Result Accepted Refusal) → Head a o → IsHeadExtent a
head_extent a o (inl (full, none, is)) = inl (full, none)
head_extent a o (inr (h, are, is, fits, lines)) = inr (h, are, is, fits)

-- heads at the front of the same bytes are one
heads_same : (a b x y : List ℕ) (o p : Result Accepted Refusal) → Head a o → Head b p → a ++ x ≡ b ++ y → a ≡ b
heads_same a b x y o p q r e = extents_same a b x y (head_extent a o q) (head_extent b p r) e

fields_same : (h k : HeadLines) → AreHeadLines h → AreHeadLines k → print_head h ≡ print_head k → length h.fields ≡ length k.fields
fields_same h k a b e =
    let front = first_lines (h.before ++ (h.request ∷ h.fields) ++ h.last ∷ []) (k.before ++ (k.request ∷ k.fields) ++ k.last ∷ []) [] []
    (head_lines_all h a) (head_lines_all k b) (All-nil (λ c. ¬ (c ≡ 10)))
    (append-nil _ ∙ e ∙ sym (append-nil _)) in
    let end = no_more front.0 [] front.2 in
    let same = sym (append_assoc k.before (k.request ∷ k.fields) (k.last ∷ [])) ∙ front.1
    ∙ ap (λ n. (h.before ++ (h.request ∷ h.fields) ++ h.last ∷ []) ++ n) end.0 ∙ append-nil _
    ∙ append_assoc h.before (h.request ∷ h.fields) (h.last ∷ []) in
    let rest = after_full k.before h.before k.request h.request (k.fields ++ k.last ∷ []) (h.fields ++ h.last ∷ [])
    b.before a.before b.request a.request same in
    omega (arith, ap length rest, length-append k.fields (k.last ∷ []), length-append h.fields (h.last ∷ []))

reads_same : (a : List ℕ) (o p : Result Accepted Refusal) → ReadsHead a o → ReadsHead a p → o ≡ p
reads_same a o p (inl (none, is)) (inl (none', is')) = is ∙ sym is'
reads_same a o p (inl (none, is)) (inr (h, reads, is')) = absurd (none h reads)
reads_same a o p (inr (h, reads, is)) (inl (none, is')) = absurd (none h reads)
reads_same a o p (inr (h, reads, is)) (inr (k, reads', is')) =
    is ∙ ap outcome_of (request_unique a h k [] [] reads reads').0 ∙ sym is'

lines_same : (n m : ℕ) (a : List ℕ) (o p : Result Accepted Refusal) → n ≡ m → ReadsLines n a o → ReadsLines m a p → o ≡ p
lines_same n m a o p e (inl (many, is)) (inl (many', is')) = is ∙ sym is'
lines_same n m a o p e (inl (many, is)) (inr (few, reads)) = absurd (omega (arith, e, many, few))
lines_same n m a o p e (inr (few, reads)) (inl (many, is)) = absurd (omega (arith, e, many, few))
lines_same n m a o p e (inr (few, reads)) (inr (few', reads')) = reads_same a o p reads reads'

-- one thing comes of a head
outcome_same : (a : List ℕ) (o p : Result Accepted Refusal) → Head a o → Head a p → o ≡ p
outcome_same a o p (inl (full, none, is)) (inl (full', none', is')) = is ∙ sym is'
outcome_same a o p (inl (full, none, err)) (inr (h, are, is, fits, lines)) =
    absurd (none h [] are (is ∙ sym (append-nil (print_head h))))
outcome_same a o p (inr (h, are, is, fits, lines)) (inl (full, none, err)) =
    absurd (none h [] are (is ∙ sym (append-nil (print_head h))))
outcome_same a o p (inr (h, are, is, fits, lines)) (inr (k, are', is', fits', lines')) =
    lines_same (length h.fields) (length k.fields) a o p (fields_same h k are are' (sym is ∙ is')) lines lines'

-- the same bytes begin with one head, of which one thing comes
pub head_once : (a b x y : List ℕ) (o p : Result Accepted Refusal) → Head a o → Head b p → a ++ x ≡ b ++ y → (a ≡ b) × (o ≡ p)
head_once a b x y o p q r e =
    let same = heads_same a b x y o p q r e in
    (same, outcome_same b o p (subst (λ (c : List ℕ). Head c o) same q) r)

-- ---- one request

abbrev accepted_as : ℕ → Bool → Result Accepted Refusal
accepted_as n c = Ok (accepted n c)

accepted_same : (n m : ℕ) (c d : Bool) → accepted_as n c ≡ accepted_as m d → (n ≡ m) × (c ≡ d)
accepted_same n m c d e = let same : accepted n c ≡ accepted m d = cc in (ap (λ a. a.len) same, ap (λ a. a.close) same)

never_both : (a : Accepted) (refusal : Refusal) → Ok a ≡ Err refusal → ⊥
never_both a refusal e = cc

-- requests at the front of the same bytes are one
pub request_once : (a b x y body other : List ℕ) (c d : Bool) → IsRequest a c body → IsRequest b d other → a ++ x ≡ b ++ y
    → (a ≡ b) × (body ≡ other) × (c ≡ d)
request_once a b x y body other c d (head, taken, is) (head', taken', is') e =
    let split : head ++ (body ++ x) ≡ head' ++ (other ++ y) = sym (regroup a head body x is) ∙ e ∙ regroup b head' other y is' in
    let once = head_once head head' (body ++ x) (other ++ y) (Ok (accepted (length body) c)) (Ok (accepted (length other) d)) taken taken' split in
    let said = accepted_same (length body) (length other) c d once.1 in
    let rests = append_cancel head (body ++ x) (other ++ y) (split ∙ ap (λ h. h ++ (other ++ y)) (sym once.0)) in
    let same = front_same body other x y said.0 rests in
    (is ∙ (λ i. once.0 i ++ same i) ∙ sym is', same, said.1)

pub request_not_refused : (a b x y body : List ℕ) (c : Bool) (refusal : Refusal) → IsRequest a c body → Head b (Err refusal)
    → a ++ x ≡ b ++ y → ⊥
request_not_refused a b x y body c refusal (head, taken, is) refused e =
    never_both (accepted (length body) c) refusal
    (head_once head b (body ++ x) y (Ok (accepted (length body) c)) (Err refusal) taken refused (sym (regroup a head body x is) ∙ e)).1

-- ---- no request

begun_head : (whole a x : List ℕ) (o : Result Accepted Refusal) → IsHeadBegun whole → Head a o → whole ≡ a ++ x → ⊥
begun_head whole a x o begun q e = begun_extent whole a x begun (head_extent a o q) e

-- bytes that have begun with a request have no whole one
pub begun_no_request : (whole a x body : List ℕ) (c : Bool) → IsBegun whole → IsRequest a c body → whole ≡ a ++ x → ⊥
begun_no_request whole a x body c (inl begun) (head, taken, is) e =
    begun_head whole head (body ++ x) (Ok (accepted (length body) c)) begun taken (e ∙ regroup a head body x is)
begun_no_request whole a x body c (inr (part, (head', most, d, taken', is', less))) (head, taken, is) e =
    let split : head' ++ part ≡ head ++ (body ++ x) = sym is' ∙ e ∙ regroup a head body x is in
    let once = head_once head' head part (body ++ x) (Ok (accepted most d)) (Ok (accepted (length body) c)) taken' taken split in
    let rest = append_cancel head' part (body ++ x) (split ∙ ap (λ h. h ++ (body ++ x)) (sym once.0)) in
    omega (arith, less, (accepted_same most (length body) d c once.1).0, ap length rest, length-append body x)

pub begun_not_refused : (whole a x : List ℕ) (refusal : Refusal) → IsBegun whole → Head a (Err refusal) → whole ≡ a ++ x → ⊥
begun_not_refused whole a x refusal (inl begun) refused e = begun_head whole a x (Err refusal) begun refused e
begun_not_refused whole a x refusal (inr (part, (head, most, c, taken, is, less))) refused e =
    never_both (accepted most c) refusal
    (head_once head a part x (Ok (accepted most c)) (Err refusal) taken refused (sym is ∙ e)).1

-- empty lines are no head
lines_begun : (lines : List (List ℕ)) (whole : List ℕ) → All IsEmptyLine lines → whole ≡ print_lines lines
    → (start : ℕ) × IsOpenHead whole start 0
lines_begun lines whole empty is = (
  _,
  record {
    before = lines;
    full = [];
    line = [];
    are_empty = empty;
    are_full = All-nil IsFullLine;
    no_feed = All-nil (λ b. b ≢ 10);
    bytes_are = is ∙ ap print_lines (sym (append-nil lines)) ∙ sym (append-nil _);
    start_is = refl;
    lines_are = refl;
  },
)

-- ---- a first part of a request, or all of it

-- one byte behind a head that has begun is no byte past a head
pub open_part : (text : List ℕ) (b start lines : ℕ) → IsOpenHead text start lines → length text < most_head
    → IsHeadPart (text ++ b ∷ [])
open_part text b start lines o less = record {
  fits = omega (arith, less, length-append text (b ∷ []));
  nothing_past = λ h rest are e.
      elim (last_of rest) [
        | inl none ↦ none
        | inr found ↦
            let bytes = push_same text (print_head h ++ found.0) b found.1
            (e ∙ ap (λ t. print_head h ++ t) found.2 ∙ sym (append_assoc (print_head h) found.0 (found.1 ∷ []))) in
            absurd (open_has_no_head text start lines o h found.0 are bytes)
      ];
}

-- a head that has begun is a first part of one
begun_part : (bytes : List ℕ) → IsHeadBegun bytes → IsHeadPart bytes
begun_part bytes begun = record {
  fits = omega (arith, begun.fits);
  nothing_past = λ h rest are e. absurd (begun.no_head h rest are e);
}

-- what has begun, and whose body went somewhere, has begun
pub begun_alone : (Took : List ℕ → Type 0) (bytes : List ℕ) → IsBegunInto Took bytes → IsBegun bytes
begun_alone Took bytes (inl head) = inl head.0
begun_alone Took bytes (inr body) = inr (body.0, body.1)

part_of_head : (part a z : List ℕ) (o : Result Accepted Refusal) → IsHeadPart part → Head a o → part ≡ a ++ z → length part ≤ length a
part_of_head part a z o p (inl (full, none, is)) e = omega (arith, p.fits, full)
part_of_head part a z o p (inr (h, are, is, fits, lines)) e =
    omega (arith, ap length e, length-append a z, ap length (p.nothing_past h z are (e ∙ ap (λ t. t ++ z) is)))

head_within : (part a x y : List ℕ) (o : Result Accepted Refusal) → IsHeadPart part → Head a o → part ++ x ≡ a ++ y
    → length part ≤ length a
head_within part a x y o p q e =
    elim (cases_lt (length a) (length part)) [
      | inl less ↦
          let more = longer a part y x (sym e) (omega (arith, less)) in
          part_of_head part a more.0 o p q more.1
      | inr less ↦ less
    ]

-- a part of a head has no more bytes than the request at the front of the same bytes
part_within : (part a x y body : List ℕ) (c : Bool) → IsHeadPart part → IsRequest a c body → part ++ x ≡ a ++ y → length part ≤ length a
part_within part a x y body c p (head, taken, is) e =
    let within = head_within part head x (body ++ y) (Ok (accepted (length body) c)) p taken (e ∙ regroup a head body y is) in
    omega (arith, within, ap length is, length-append head body)

-- nor has what has begun
begun_within : (part a x y body : List ℕ) (c : Bool) → IsBegun part → IsRequest a c body → part ++ x ≡ a ++ y → length part ≤ length a
begun_within part a x y body c (inl begun) request e = part_within part a x y body c (begun_part part begun) request e
begun_within part a x y body c (inr (body', (head', most, d, taken', is', less))) (head, taken, is) e =
    let split : head' ++ (body' ++ x) ≡ head ++ (body ++ y) = sym (regroup part head' body' x is') ∙ e ∙ regroup a head body y is in
    let once = head_once head' head (body' ++ x) (body ++ y) (Ok (accepted most d)) (Ok (accepted (length body) c)) taken' taken split in
    omega (
      arith,
      less,
      (accepted_same most (length body) d c once.1).0,
      ap length once.0,
      ap length is,
      ap length is',
      length-append head body,
      length-append head' body',
    )

-- nor than a refused head there
begun_within_head : (part a x y : List ℕ) (refusal : Refusal) → IsBegun part → Head a (Err refusal) → part ++ x ≡ a ++ y → length part ≤ length a
begun_within_head part a x y refusal (inl begun) refused e = head_within part a x y (Err refusal) (begun_part part begun) refused e
begun_within_head part a x y refusal (inr (body, (head, most, c, taken, is, less))) refused e =
    absurd (never_both (accepted most c) refusal
    (head_once head a (body ++ x) y (Ok (accepted most c)) (Err refusal) taken refused (sym (regroup part head body x is) ∙ e)).1)

front_of : (part a x y : List ℕ) → part ++ x ≡ a ++ y → length part ≤ length a → (z : List ℕ) × (a ≡ part ++ z) × (x ≡ z ++ y)
front_of part a x y e less =
    let more = longer part a x y e less in
    (more.0, more.1, append_cancel part x (more.0 ++ y) (e ∙ ap (λ t. t ++ y) more.1 ∙ append_assoc part more.0 y))

-- so both are first parts of that request, or of that head
pub part_of_request : (part a x y body : List ℕ) (c : Bool) → IsHeadPart part ⊎ IsBegun part → IsRequest a c body → part ++ x ≡ a ++ y
    → (z : List ℕ) × (a ≡ part ++ z) × (x ≡ z ++ y)
part_of_request part a x y body c (inl p) q e = front_of part a x y e (part_within part a x y body c p q e)
part_of_request part a x y body c (inr p) q e = front_of part a x y e (begun_within part a x y body c p q e)

pub part_of_refused : (part a x y : List ℕ) (refusal : Refusal) → IsHeadPart part ⊎ IsBegun part → Head a (Err refusal) → part ++ x ≡ a ++ y
    → (z : List ℕ) × (a ≡ part ++ z) × (x ≡ z ++ y)
part_of_refused part a x y refusal (inl p) q e = front_of part a x y e (head_within part a x y (Err refusal) p q e)
part_of_refused part a x y refusal (inr p) q e = front_of part a x y e (begun_within_head part a x y refusal p q e)

pub ended_head_begun : (whole : List ℕ) → EndedBetween whole → IsHeadBegun whole
ended_head_begun whole ended =
    let begun = lines_begun ended.empty.0 whole ended.empty.1 ended.empty.2 in
    record { fits = ended.fits; no_head = open_has_no_head whole begun.0 0 begun.1 }

pub ended_begun : (whole : List ℕ) → EndedBetween whole → IsBegun whole
ended_begun whole ended = inl (ended_head_begun whole ended)
