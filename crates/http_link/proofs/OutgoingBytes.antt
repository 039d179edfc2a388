-- What a client writes is a request that a server accepts.
use Rattle.std.proofs.Common.{◌≡◌, ℕ, ◌≤◌, inr, true, List, [], ◌∷◌, ◌++◌, length, Ok, refl, sym, ap, ◌∙◌, arith, rules, append_assoc, append-nil, length-append}
use Rattle.std.specs.Prelude.{All, codes, decimal}
use Rattle.std.specs.List.{list_all}
use Rattle.std.specs.Char.{is_ascii_digit}
use Rattle.std.proofs.lemmas.List.Elements.{All-cons, All-append}
use Rattle.std.proofs.lemmas.Str.{IsUtf8-from_ascii}
use Rattle.httparse.specs.Grammar.{is_token_byte, is_uri_byte, crlf, print_end, trim_ows, Field, IsField, RequestHead, IsRequestHead, print_request}
use Rattle.httparse.proofs.GrammarLemmas.{print_request-append}
use Rattle.http_link.specs.Checks.{most_head, most_body, accepted, accepted_if, outcome_of}
use Rattle.http_link.specs.Requests.{IsRequest}
use Rattle.http_link.specs.Outgoing.{request_front, request_end, request_text}
use Rattle.http_link.proofs.Fields.{request_is, request_line, request_full, head_lines, are_head_lines}
use Rattle.http_link.proofs.ReadBacks.{IsWritten, decimal_written, length_given, all_pass, content_type, content_length, length_field, fields_valid}

-- the fields before the length
abbrev front_fields : List Field
front_fields =
    record { name = codes "Host"; raw = codes " os"; end = crlf }
    ∷ (record { name = codes "SOAPAction"; raw = codes " \"\""; end = crlf } ∷ (content_type ∷ []))

abbrev close_field : Field
close_field = record { name = codes "Connection"; raw = codes " close"; end = crlf }

abbrev asked : List ℕ → RequestHead
asked ds = record {
  blank = [];
  method = codes "POST";
  target = codes "/os";
  minor = 1;
  line_end = crlf;
  fields = front_fields ++ (content_length ds ∷ (close_field ∷ []));
  last = crlf;
}

asked_fields : (ds : List ℕ) → list_all is_ascii_digit ds ≡ true → All IsField (asked ds).fields
unfolding is_token_byte
asked_fields ds number =
    All-append IsField front_fields (content_length ds ∷ (close_field ∷ [])) (fields_valid front_fields refl)
    (All-cons IsField (content_length ds) (close_field ∷ []) (length_field ds number) (fields_valid (close_field ∷ []) refl))

asked_valid : (ds : List ℕ) → list_all is_ascii_digit ds ≡ true → IsRequestHead (asked ds)
unfolding is_token_byte
asked_valid ds number = record {
  method = (omega arith, all_pass is_token_byte (codes "POST") refl);
  target = (omega arith, all_pass is_uri_byte (codes "/os") refl);
  target_text = IsUtf8-from_ascii (codes "/os") (search rules);
  minor = omega arith;
  fields = asked_fields ds number;
}

asked_is : (ds : List ℕ) → request_front ++ (ds ++ request_end) ≡ print_request (asked ds) ++ []
asked_is ds = ap (λ t. request_front ++ t) (ends ds) ∙ sym (print_request-append (asked ds) [])
  where
    ends : (ds : List ℕ) → ds ++ request_end ≡ (((ds ++ print_end crlf) ++ codes "Connection: close\r\n") ++ print_end crlf) ++ []
    ends ds = simp (append_assoc, append-nil)

asked_outcome : (n : ℕ) (ds : List ℕ) → IsWritten n ds → n ≤ most_body → outcome_of (asked ds) ≡ Ok (accepted n true)
unfolding trim_ows
asked_outcome n ds is less = ap (λ l. accepted_if l true) (length_given most_body n ds is less)

-- so it is one request, which asks to close
pub asked_back : (body : List ℕ) → length body ≤ most_body → IsRequest (request_text body) true body
asked_back body less =
    let n = length body in
    let ds = decimal n in
    let is : IsWritten n ds = decimal_written n (omega (arith, less)) in
    let h = asked ds in
    let head = request_front ++ (ds ++ request_end) in (
      head,
      inr (
        head_lines [] (request_line h) h.fields crlf,
        are_head_lines [] (request_line h) h.fields crlf (request_full h (asked_valid ds is.digits)) (asked_fields ds is.digits),
        asked_is ds ∙ request_is h,
        fits ds is.few,
        inr (omega arith, inr (h, (asked_valid ds is.digits, asked_is ds), sym (asked_outcome n ds is less))),
      ),
      regroup request_front ds request_end body,
    )
  where
    regroup : (f d e b : List ℕ) → f ++ (d ++ (e ++ b)) ≡ (f ++ (d ++ e)) ++ b
    regroup f d e b = simp append_assoc

    fits : (ds : List ℕ) → length ds ≤ 20 → length (request_front ++ (ds ++ request_end)) ≤ most_head
    fits ds few = omega (arith, few, length-append request_front (ds ++ request_end), length-append ds request_end)
