-- What a server writes is read by a client as it was written.
use Rattle.std.proofs.Common.{◌≡◌, ℕ, ◌<◌, ◌≤◌, ◌^◌, inr, Bool, true, false, List, [], ◌∷◌, ◌++◌, length, reverse, Option, Some, Ok, Err, refl, sym, ap, ◌∙◌, subst, arith, append_assoc, append-nil, length-append}
use Rattle.std.specs.Prelude.{All, IsTrue, codes, decimal, nat_lt, if◌then◌else◌, ◌==◌, ◌&&◌, not}
use Rattle.std.specs.List.{list_all}
use Rattle.std.specs.Char.{is_ascii_digit, digit_value}
use Rattle.std.specs.Str.Parse.{AllDigits, digits_value}
use Rattle.std.proofs.lemmas.Fmt.{decimal_is_IsNumeral, length-decimal-le}
use Rattle.std.proofs.lemmas.Bool.Decides.{nat_tests}
use Rattle.std.proofs.lemmas.Str.Parse.{digit_from_value}
use Rattle.std.proofs.lemmas.List.Elements.{All-nil, All-cons, All-head, All-weaker}
use Rattle.httparse.specs.Grammar.{is_token_byte, is_token, is_value_byte, is_ows, AllPass, crlf, print_end, skip_ows, trim_ows, Field, IsField, ResponseHead, IsResponseHead, print_response}
use Rattle.httparse.proofs.TrimLemmas.{AllPass-reverse, trim_ows_space}
use Rattle.httparse.proofs.GrammarLemmas.{print_response-append}
use Rattle.http_link.specs.declared.refusal.Refusal.{Refusal}
use Rattle.http_link.specs.declared.refusal.Refusal.TheVariants.{BadRequest, MethodNotAllowed, LengthRequired, ContentTooLarge, HeadTooLarge, NotImplemented, ServiceUnavailable}
use Rattle.http_link.specs.declared.replies.ReplyHead.{ReplyHead}
use Rattle.http_link.specs.Checks.{most_head, most_fields, is_number, writes_number, length_by}
use Rattle.http_link.specs.Responses.{behind, head_end, refusal_bytes}
use Rattle.os_io.specs.Limits.{most_reply}
use Rattle.http_link.specs.Replies.{says_by, says_of, HeadSays, has_body, most_of, is_whole, IsReply, IsReadWhole, code_of}
use Rattle.http_link.proofs.Numbers.{both_parts}
use Rattle.http_link.proofs.Fields.{response_is, status_line, status_full, head_lines, are_head_lines}

-- ---- bytes that pass a test

pub all_pass : (test : ℕ → Bool) (bytes : List ℕ) → list_all test bytes ≡ true → AllPass test bytes
all_pass test [] h = All-nil (λ b. IsTrue (test b))
all_pass test (b ∷ bytes) h =
    let parts = both_parts (test b) (list_all test bytes) h in
    All-cons (λ c. IsTrue (test c)) b bytes parts.0 (all_pass test bytes parts.1)

and_true : (a b : Bool) → a ≡ true → b ≡ true → (a && b) ≡ true
and_true a b p q = (λ i. p i && q i)

above_test : (n : ℕ) → nat_lt 0 n ≡ true → 0 < n
above_test n h = grind (arith, nat_tests)

pub field_valid : (f : Field) → is_token f.name ≡ true → AllPass is_value_byte f.raw → IsField f
field_valid f name raw =
    let parts = both_parts (nat_lt 0 (length f.name)) (list_all is_token_byte f.name) name in
    record { name = (above_test (length f.name) parts.0, all_pass is_token_byte f.name parts.1); raw = raw }

-- ---- digits

digit_test : (c : ℕ) → digit_value c < 10 → is_ascii_digit c ≡ true
digit_test c h = let range = digit_from_value c h in grind (arith, nat_tests)

digit_no_space : (c : ℕ) → is_ascii_digit c ≡ true → is_ows c ≡ false
digit_no_space c h = grind (arith, nat_tests)

digit_in_value : (c : ℕ) → is_ascii_digit c ≡ true → is_value_byte c ≡ true
digit_in_value c h = grind (arith, nat_tests)

digits_pass : (ds : List ℕ) → AllDigits 10 ds → list_all is_ascii_digit ds ≡ true
digits_pass [] h = refl
digits_pass (d ∷ ds) h = and_true (is_ascii_digit d) (list_all is_ascii_digit ds) (digit_test d h.0) (digits_pass ds h.1)

-- digits don't begin with white space
digits_stay : (ds : List ℕ) → AllPass is_ascii_digit ds → skip_ows ds ≡ ds
digits_stay [] h = refl
digits_stay (d ∷ ds) h =
    let other = digit_no_space d (All-head (λ c. IsTrue (is_ascii_digit c)) d ds h) in
    (λ i. if other i then skip_ows ds else d ∷ ds)

digits_trimmed : (ds : List ℕ) → AllPass is_ascii_digit ds → trim_ows (32 ∷ ds) ≡ ds
digits_trimmed ds h = trim_ows_space ds (digits_stay ds h) (digits_stay (reverse ds) (AllPass-reverse is_ascii_digit ds h))

-- a number within 2^64, in digits
pub record IsWritten (n : ℕ) (ds : List ℕ) : Type 0 where
  pub some : 0 < length ds
  pub few : length ds ≤ 20
  pub digits : list_all is_ascii_digit ds ≡ true
  pub value : digits_value 10 ds ≡ n

pub decimal_written : (n : ℕ) → n < 2 ^ 64 → IsWritten n (decimal n)
decimal_written n h =
    let is = decimal_is_IsNumeral n h in
    record {
      some = is.0.0;
      few = length-decimal-le 20 n (omega arith) (omega (arith, h)) h;
      digits = digits_pass (decimal n) is.0.1;
      value = is.1;
    }

above_zero : (n : ℕ) → 0 < n → not (n == 0) ≡ true
above_zero n h = grind (arith, nat_tests)

same_test : (n : ℕ) → (n == n) ≡ true
same_test n = grind (arith, nat_tests)

not_above : (most n : ℕ) → n ≤ most → nat_lt most n ≡ false
not_above most n h = grind (arith, nat_tests)

-- the length that Content-Length gives
pub length_given : (most n : ℕ) (ds : List ℕ) → IsWritten n ds → n ≤ most → length_by most (trim_ows (32 ∷ ds) ∷ []) ≡ Ok n
length_given most n ds is less =
    ap (λ v. length_by most (v ∷ [])) (digits_trimmed ds (all_pass is_ascii_digit ds is.digits)) ∙ (λ i. if writes i then (if within i then Err ContentTooLarge else Ok (is.value i)) else Err BadRequest)
  where
    number : is_number ds ≡ true
    number = and_true (not (length ds == 0)) (list_all is_ascii_digit ds) (above_zero (length ds) is.some) is.digits

    writes : list_all (writes_number (digits_value 10 ds)) (ds ∷ []) ≡ true
    writes = and_true (writes_number (digits_value 10 ds) ds) true (and_true (is_number ds) (digits_value 10 ds == digits_value 10 ds) number (same_test (digits_value 10 ds))) refl

    within : nat_lt most (digits_value 10 ds) ≡ false
    within = not_above most (digits_value 10 ds) (omega (arith, is.value, less))

-- ---- a printed head

-- a head that is printed, what it says
says_printed : (bytes : List ℕ) (h : ResponseHead) → IsResponseHead h → bytes ≡ print_response h ++ [] → length bytes ≤ most_head
    → length h.fields ≤ most_fields → HeadSays bytes (says_of h)
says_printed bytes h valid is fits few =
    inr (head_lines h.blank (status_line h) h.fields h.last, are_head_lines h.blank (status_line h) h.fields h.last (status_full h valid) valid.fields, is ∙ response_is h, fits, inr (h, (valid, is), few, refl))

-- a head that says a status and a length, with as many bytes behind it
back : (head body : List ℕ) (says : ReplyHead) → HeadSays head (Some says) → IsTrue (is_whole says (length body))
    → length body ≡ most_of says → IsReply (head ++ body) says.status body × IsReadWhole (head ++ body)
back head body says heads whole all = ((head, says, heads, refl, refl, whole), inr (head, body, says, heads, refl, all))

-- ---- answers

abbrev pub content_type : Field
content_type = record { name = codes "Content-Type"; raw = codes " text/xml; charset=utf-8"; end = crlf }

abbrev pub content_length : List ℕ → Field
content_length ds = record { name = codes "Content-Length"; raw = 32 ∷ ds; end = crlf }

abbrev answer_response : (digits phrase ds : List ℕ) → ResponseHead
answer_response digits phrase ds = record {
  blank = [];
  minor = 1;
  digits = digits;
  reason = Some phrase;
  line_end = crlf;
  fields = content_type ∷ (content_length ds ∷ []);
  last = crlf;
}

pub length_field : (ds : List ℕ) → list_all is_ascii_digit ds ≡ true → IsField (content_length ds)
unfolding is_token_byte
length_field ds h =
    field_valid (content_length ds) refl (All-cons (λ b. IsTrue (is_value_byte b)) 32 ds refl
    (All-weaker (λ b. IsTrue (is_ascii_digit b)) (λ b. IsTrue (is_value_byte b)) digit_in_value ds (all_pass is_ascii_digit ds h)))

type_field : IsField content_type
unfolding is_token_byte
type_field = field_valid content_type refl (all_pass is_value_byte content_type.raw refl)

answer_valid : (digits phrase ds : List ℕ) → length digits ≡ 3 → list_all is_ascii_digit digits ≡ true → list_all is_value_byte phrase ≡ true
    → list_all is_ascii_digit ds ≡ true → IsResponseHead (answer_response digits phrase ds)
answer_valid digits phrase ds three code reason number = record {
  minor = omega arith;
  digits = (three, all_pass is_ascii_digit digits code);
  reason = all_pass is_value_byte phrase reason;
  fields = All-cons IsField content_type (content_length ds ∷ []) type_field
      (All-cons IsField (content_length ds) [] (length_field ds number) (All-nil IsField));
}

-- what stands behind the phrase and before the length
abbrev length_front : List ℕ
length_front = codes "\r\nContent-Type: text/xml; charset=utf-8\r\nContent-Length: "

abbrev answer_front : (digits phrase : List ℕ) → List ℕ
answer_front digits phrase = codes "HTTP/1.1 " ++ (digits ++ 32 ∷ (phrase ++ length_front))

answer_is : (digits phrase ds : List ℕ) → answer_front digits phrase ++ (ds ++ head_end) ≡ print_response (answer_response digits phrase ds) ++ []
answer_is digits phrase ds =
    ap (λ t. codes "HTTP/1.1 " ++ t) (append_assoc digits (32 ∷ (phrase ++ length_front)) (ds ++ head_end)
    ∙ ap (λ t. digits ++ 32 ∷ t) (append_assoc phrase length_front (ds ++ head_end) ∙ ap (λ t. phrase ++ (length_front ++ t)) (ends ds)))
    ∙ sym (print_response-append (answer_response digits phrase ds) [])
  where
    ends : (ds : List ℕ) → ds ++ head_end ≡ (((ds ++ print_end crlf) ++ []) ++ print_end crlf) ++ []
    ends ds = simp (append_assoc, append-nil)

-- an answer's text is read as its status and its body
pub answer_back : (digits phrase body : List ℕ) → length digits ≡ 3 → list_all is_ascii_digit digits ≡ true → list_all is_value_byte phrase ≡ true
    → length phrase ≤ 99 → has_body (digits_value 10 digits) ≡ true → length body ≤ most_reply
    → IsReply (behind (answer_front digits phrase) head_end body) (digits_value 10 digits) body × IsReadWhole (behind (answer_front digits phrase) head_end body)
answer_back digits phrase body three code reason short has less =
    let n = length body in
    let ds = decimal n in
    let is : IsWritten n ds = decimal_written n (omega (arith, less)) in
    let h = answer_response digits phrase ds in
    let head = answer_front digits phrase ++ (ds ++ head_end) in
    let said : says_of h ≡ Some (record { status = digits_value 10 digits; len = Some n }) =
    ap (says_by (digits_value 10 digits)) (length_given most_reply n ds is less) in
    let heads = subst (λ (s : Option ReplyHead). HeadSays head s) said
    (says_printed head h (answer_valid digits phrase ds three code reason is.digits) (answer_is digits phrase ds) (fits digits phrase ds three short is.few) (omega arith)) in
    subst (λ (bytes : List ℕ). IsReply bytes (digits_value 10 digits) body × IsReadWhole bytes) (regroup (answer_front digits phrase) ds head_end body)
    (back head body (record { status = digits_value 10 digits; len = Some n }) heads (whole n) (all n))
  where
    whole : (n : ℕ) → is_whole (record { status = digits_value 10 digits; len = Some n }) n ≡ true
    whole n = (λ i. if has i then same_test n i else (n == 0))

    all : (n : ℕ) → n ≡ most_of (record { status = digits_value 10 digits; len = Some n })
    all n = (λ i. if sym has i then n else 0)

    regroup : (f d e b : List ℕ) → (f ++ (d ++ e)) ++ b ≡ f ++ (d ++ (e ++ b))
    regroup f d e b = simp append_assoc

    fits : (digits phrase ds : List ℕ) → length digits ≡ 3 → length phrase ≤ 99 → length ds ≤ 20
        → length (answer_front digits phrase ++ (ds ++ head_end)) ≤ most_head
    fits digits phrase ds three short few =
        omega (
          arith,
          three,
          short,
          few,
          length-append (answer_front digits phrase) (ds ++ head_end),
          length-append ds head_end,
          length-append digits (32 ∷ (phrase ++ length_front)),
          length-append phrase length_front,
        )

-- ---- refusals

-- a head that says a status without a body
closed_back : (bytes : List ℕ) (h : ResponseHead) (status : ℕ) → IsResponseHead h → bytes ≡ print_response h ++ [] → length bytes ≤ most_head
    → length h.fields ≤ most_fields → says_of h ≡ Some (record { status = status; len = Some 0 }) → has_body status ≡ false
    → IsReply bytes status [] × IsReadWhole bytes
closed_back bytes h status valid is fits few said none =
    let says : ReplyHead = record { status = status; len = Some 0 } in
    let heads = subst (λ (s : Option ReplyHead). HeadSays bytes s) said (says_printed bytes h valid is fits few) in
    subst (λ (b : List ℕ). IsReply b status [] × IsReadWhole b) (append-nil bytes)
    (back bytes [] says heads (λ i. if none i then true else true) (λ i. if sym none i then 0 else 0))

abbrev refusal_fields : List Field
refusal_fields =
    record { name = codes "Connection"; raw = codes " close"; end = crlf }
    ∷ (record { name = codes "Content-Length"; raw = codes " 0"; end = crlf } ∷ [])

abbrev allow_field : Field
allow_field = record { name = codes "Allow"; raw = codes " POST"; end = crlf }

abbrev refusal_response : (digits phrase : List ℕ) → List Field → ResponseHead
refusal_response digits phrase fields =
    record { blank = []; minor = 1; digits = digits; reason = Some phrase; line_end = crlf; fields = fields; last = crlf }

abbrev field_test : Field → Bool
field_test f = is_token f.name && list_all is_value_byte f.raw

pub fields_valid : (fields : List Field) → list_all field_test fields ≡ true → All IsField fields
fields_valid [] h = All-nil IsField
fields_valid (f ∷ fields) h =
    let parts = both_parts (field_test f) (list_all field_test fields) h in
    let own = both_parts (is_token f.name) (list_all is_value_byte f.raw) parts.0 in
    All-cons IsField f fields (field_valid f own.0 (all_pass is_value_byte f.raw own.1)) (fields_valid fields parts.1)

refusal_valid : (digits phrase : List ℕ) (fields : List Field) → length digits ≡ 3 → list_all is_ascii_digit digits ≡ true
    → list_all is_value_byte phrase ≡ true → list_all field_test fields ≡ true → IsResponseHead (refusal_response digits phrase fields)
refusal_valid digits phrase fields three code reason all = record {
  minor = omega arith;
  digits = (three, all_pass is_ascii_digit digits code);
  reason = all_pass is_value_byte phrase reason;
  fields = fields_valid fields all;
}

-- a refusal's text is read as its status
pub refusal_back : (refusal : Refusal) → IsReply (refusal_bytes refusal) (code_of refusal) [] × IsReadWhole (refusal_bytes refusal)
unfolding print_response is_token_byte trim_ows
refusal_back BadRequest =
    closed_back (refusal_bytes BadRequest) (refusal_response (codes "400") (codes "Bad Request") refusal_fields) 400
    (refusal_valid (codes "400") (codes "Bad Request") refusal_fields refl refl refl refl) refl (omega arith) (omega arith) refl refl
refusal_back MethodNotAllowed =
    closed_back (refusal_bytes MethodNotAllowed) (refusal_response (codes "405") (codes "Method Not Allowed") (allow_field ∷ refusal_fields)) 405
    (refusal_valid (codes "405") (codes "Method Not Allowed") (allow_field ∷ refusal_fields) refl refl refl refl) refl (omega arith) (omega arith) refl refl
refusal_back LengthRequired =
    closed_back (refusal_bytes LengthRequired) (refusal_response (codes "411") (codes "Length Required") refusal_fields) 411
    (refusal_valid (codes "411") (codes "Length Required") refusal_fields refl refl refl refl) refl (omega arith) (omega arith) refl refl
refusal_back ContentTooLarge =
    closed_back (refusal_bytes ContentTooLarge) (refusal_response (codes "413") (codes "Content Too Large") refusal_fields) 413
    (refusal_valid (codes "413") (codes "Content Too Large") refusal_fields refl refl refl refl) refl (omega arith) (omega arith) refl refl
refusal_back HeadTooLarge =
    closed_back (refusal_bytes HeadTooLarge) (refusal_response (codes "431") (codes "Request Header Fields Too Large") refusal_fields) 431
    (refusal_valid (codes "431") (codes "Request Header Fields Too Large") refusal_fields refl refl refl refl) refl (omega arith) (omega arith) refl refl
refusal_back NotImplemented =
    closed_back (refusal_bytes NotImplemented) (refusal_response (codes "501") (codes "Not Implemented") refusal_fields) 501
    (refusal_valid (codes "501") (codes "Not Implemented") refusal_fields refl refl refl refl) refl (omega arith) (omega arith) refl refl
refusal_back ServiceUnavailable =
    closed_back (refusal_bytes ServiceUnavailable) (refusal_response (codes "503") (codes "Service Unavailable") refusal_fields) 503
    (refusal_valid (codes "503") (codes "Service Unavailable") refusal_fields refl refl refl refl) refl (omega arith) (omega arith) refl refl
