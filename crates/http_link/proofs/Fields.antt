-- A head of the grammar has the lines that it is printed in.
use Rattle.std.proofs.Common.{◌≡◌, ◌≢◌, ℕ, ◌+◌, ◌<◌, ◌≤◌, inl, inr, Bool, true, false, List, [], ◌∷◌, ◌++◌, length, map, refl, sym, ap, ◌∙◌, subst, arith, append_assoc, append-nil, length-append}
use Rattle.std.specs.Prelude.{All, IsTrue, Option, None, Some}
use Rattle.std.specs.Char.{is_ascii_digit}
use Rattle.std.specs.List.{flat_map}
use Rattle.std.proofs.lemmas.List.{length-map}
use Rattle.std.proofs.lemmas.Grind.{flat_map-append}
use Rattle.std.proofs.lemmas.List.Elements.{All-nil, All-cons, All-head, All-tail, All-append, All-weaker, All-from_recursion}
use Rattle.httparse.specs.Grammar.{is_token_byte, is_uri_byte, is_value_byte, AllPass, LineEnd, crlf, lf, print_end, print_blank, print_version, Field, IsField, print_field, print_section, RequestHead, IsRequestHead, print_request, ReadsRequest, print_reason, reason_phrase, ResponseHead, IsResponseHead, print_response}
use Rattle.httparse.proofs.GrammarLemmas.{print_request-append, print_response-append, cons-append}
use Rattle.http_link.specs.Lines.{IsLine, IsEmptyLine, IsFullLine, print_lines, HeadLines, print_head, AreHeadLines}
use Rattle.http_link.proofs.Lines.{cons_same, first_lines, print_push, head_lines_all, no_more, empty_are_lines}

-- what a line end has before its LF
abbrev pub end_text : LineEnd → List ℕ
end_text crlf = 13 ∷ []
end_text lf = []

pub end_is : (end : LineEnd) → print_end end ≡ end_text end ++ 10 ∷ []
end_is crlf = refl
end_is lf = refl

pub end_empty : (end : LineEnd) → IsEmptyLine (end_text end)
end_empty crlf = inr refl
end_empty lf = inl refl

pub end_line : (end : LineEnd) → IsLine (end_text end)
end_line crlf = All-cons (λ b. b ≢ 10) 13 [] (omega arith) (All-nil (λ b. b ≢ 10))
end_line lf = All-nil (λ b. b ≢ 10)

pub blank_is : (ends : List LineEnd) → print_blank ends ≡ print_lines (map end_text ends)
blank_is [] = refl
blank_is (e ∷ es) = (λ i. end_is e i ++ blank_is es i)

pub blank_empty : (ends : List LineEnd) → All IsEmptyLine (map end_text ends)
blank_empty [] = All-nil IsEmptyLine
blank_empty (e ∷ es) = All-cons IsEmptyLine (end_text e) (map end_text es) (end_empty e) (blank_empty es)

abbrev pub field_line : Field → List ℕ
field_line f = f.name ++ 58 ∷ (f.raw ++ end_text f.end)

field_is : (f : Field) → print_field f ≡ field_line f ++ 10 ∷ []
field_is f = regroup f.name f.raw (print_end f.end) (end_text f.end) (end_is f.end)
  where
    regroup : (n r e t : List ℕ) → e ≡ t ++ 10 ∷ [] → n ++ 58 ∷ r ++ e ≡ (n ++ 58 ∷ (r ++ t)) ++ 10 ∷ []
    regroup n r e t is = rw is (simp (append_assoc, cons-append))

pub fields_are : (fields : List Field) → flat_map print_field fields ≡ print_lines (map field_line fields)
fields_are [] = refl
fields_are (f ∷ fs) = (λ i. field_is f i ++ fields_are fs i)

abbrev pub request_line : RequestHead → List ℕ
request_line h = h.method ++ 32 ∷ (h.target ++ 32 ∷ (print_version h.minor ++ end_text h.line_end))

-- the head's lines
abbrev lines_of : RequestHead → List (List ℕ)
lines_of h = (map end_text h.blank ++ (request_line h ∷ map field_line h.fields)) ++ end_text h.last ∷ []

-- a head as its lines, behind its first one
parts_are : (blank : List LineEnd) (start : List ℕ) (fields : List Field) (last : LineEnd)
    → print_blank blank ++ ((start ++ 10 ∷ []) ++ ((flat_map print_field fields ++ print_end last) ++ []))
    ≡ print_lines ((map end_text blank ++ (start ∷ map field_line fields)) ++ end_text last ∷ [])
parts_are blank start fields last =
    regroup (print_blank blank) (print_lines (map end_text blank)) start (flat_map print_field fields) (print_lines (map field_line fields))
    (print_end last) (end_text last) (blank_is blank) (fields_are fields) (end_is last)
    ∙ sym (print_push (map end_text blank ++ (start ∷ map field_line fields)) (end_text last)
    ∙ ap (λ s. (s ++ end_text last) ++ 10 ∷ []) (flat_map-append (λ l. l ++ 10 ∷ []) (map end_text blank) (start ∷ map field_line fields)))
  where
    regroup : (b pb s f pf l pl : List ℕ) → b ≡ pb → f ≡ pf → l ≡ pl ++ 10 ∷ []
        → b ++ ((s ++ 10 ∷ []) ++ ((f ++ l) ++ [])) ≡ ((pb ++ ((s ++ 10 ∷ []) ++ pf)) ++ pl) ++ 10 ∷ []
    regroup b pb s f pf l pl bs fs ls = rw (bs, fs, ls) (simp (append_assoc, cons-append, append-nil))

pub request_is : (h : RequestHead) → print_request h ++ [] ≡ print_lines (lines_of h)
request_is h =
    print_request-append h []
    ∙ regroup (print_blank h.blank) h.method h.target (print_version h.minor) (print_end h.line_end) (end_text h.line_end)
    (print_section h.fields h.last ++ []) (end_is h.line_end)
    ∙ parts_are h.blank (request_line h) h.fields h.last
  where
    regroup : (b m t v e pe r : List ℕ) → e ≡ pe ++ 10 ∷ []
        → b ++ (m ++ 32 ∷ (t ++ 32 ∷ (v ++ (e ++ r)))) ≡ b ++ (((m ++ 32 ∷ (t ++ 32 ∷ (v ++ pe))) ++ 10 ∷ []) ++ r)
    regroup b m t v e pe r es = rw es (simp (append_assoc, cons-append))

abbrev pub status_line : ResponseHead → List ℕ
status_line h = print_version h.minor ++ 32 ∷ (h.digits ++ (print_reason h.reason ++ end_text h.line_end))

pub response_is : (h : ResponseHead) → print_response h ++ []
    ≡ print_lines ((map end_text h.blank ++ (status_line h ∷ map field_line h.fields)) ++ end_text h.last ∷ [])
response_is h =
    print_response-append h []
    ∙ regroup (print_blank h.blank) (print_version h.minor) h.digits (print_reason h.reason) (print_end h.line_end) (end_text h.line_end)
    (print_section h.fields h.last ++ []) (end_is h.line_end)
    ∙ parts_are h.blank (status_line h) h.fields h.last
  where
    regroup : (b v d p e pe r : List ℕ) → e ≡ pe ++ 10 ∷ []
        → b ++ (v ++ 32 ∷ (d ++ (p ++ (e ++ r)))) ≡ b ++ (((v ++ 32 ∷ (d ++ (p ++ pe))) ++ 10 ∷ []) ++ r)
    regroup b v d p e pe r es = rw es (simp (append_assoc, cons-append))

-- ---- no line has an LF

pub feed_free : (test : ℕ → Bool) (bytes : List ℕ) → test 10 ≡ false → AllPass test bytes → IsLine bytes
feed_free test bytes never = All-weaker (λ b. IsTrue (test b)) (λ b. b ≢ 10) (λ b yes e.
    let at : test 10 ≡ true = subst (λ (n : ℕ). test n ≡ true) e yes in cc) bytes

pub join : (xs ys : List ℕ) → IsLine xs → IsLine ys → IsLine (xs ++ ys)
join xs ys p q = All-append (λ b. b ≢ 10) xs ys p q

pub keep : (b : ℕ) (xs : List ℕ) → b ≢ 10 → IsLine xs → IsLine (b ∷ xs)
keep b xs p q = All-cons (λ c. c ≢ 10) b xs p q

token_line : (bytes : List ℕ) → AllPass is_token_byte bytes → IsLine bytes
unfolding is_token_byte
token_line bytes p = feed_free is_token_byte bytes refl p

pub version_line : (minor : ℕ) → IsLine (print_version minor)
version_line minor =
    let other : (n : ℕ) → 10 < n → n ≢ 10 = λ n above e. omega (arith, above, e) in
    All-from_recursion (λ b. b ≢ 10) (print_version minor) (
      other 72 (omega arith),
      (
        other 84 (omega arith),
        (
          other 84 (omega arith),
          (
            other 80 (omega arith),
            (
              other 47 (omega arith),
              (other 49 (omega arith), (other 46 (omega arith), (other (48 + minor) (omega arith), tt))),
            ),
          ),
        ),
      ),
    )

request_line_all : (h : RequestHead) → IsRequestHead h → IsLine (request_line h)
request_line_all h a =
    join h.method (32 ∷ (h.target ++ 32 ∷ (print_version h.minor ++ end_text h.line_end))) (token_line h.method a.method.1)
    (keep 32 (h.target ++ 32 ∷ (print_version h.minor ++ end_text h.line_end)) (omega arith)
    (join h.target (32 ∷ (print_version h.minor ++ end_text h.line_end)) (feed_free is_uri_byte h.target refl a.target.1)
    (keep 32 (print_version h.minor ++ end_text h.line_end) (omega arith)
    (join (print_version h.minor) (end_text h.line_end) (version_line h.minor) (end_line h.line_end)))))

pub field_line_all : (f : Field) → IsField f → IsLine (field_line f)
field_line_all f a =
    join f.name (58 ∷ (f.raw ++ end_text f.end)) (token_line f.name a.name.1)
    (keep 58 (f.raw ++ end_text f.end) (omega arith)
    (join f.raw (end_text f.end) (feed_free is_value_byte f.raw refl a.raw) (end_line f.end)))

pub field_lines_all : (fields : List Field) → All IsField fields → All IsLine (map field_line fields)
field_lines_all [] p = All-nil IsLine
field_lines_all (f ∷ fs) p =
    All-cons IsLine (field_line f) (map field_line fs) (field_line_all f (All-head IsField f fs p))
    (field_lines_all fs (All-tail IsField f fs p))

-- a text with two bytes is no empty line
pub long_is_full : (line : List ℕ) → 2 ≤ length line → ¬ (IsEmptyLine line)
long_is_full line long (inl e) = omega (arith, long, ap length e)
long_is_full line long (inr e) = omega (arith, long, ap length e)

pub request_full : (h : RequestHead) → IsRequestHead h → IsFullLine (request_line h)
request_full h a = record {
  line = request_line_all h a;
  full = long_is_full (request_line h) (omega (arith, a.method.0, length-append h.method (32 ∷ (h.target ++ 32 ∷ (print_version h.minor ++ end_text h.line_end)))));
}

reason_line : (reason : Option (List ℕ)) → AllPass is_value_byte (reason_phrase reason) → IsLine (print_reason reason)
reason_line None p = All-nil (λ b. b ≢ 10)
reason_line (Some phrase) p = keep 32 phrase (omega arith) (feed_free is_value_byte phrase refl p)

pub status_full : (h : ResponseHead) → IsResponseHead h → IsFullLine (status_line h)
status_full h a = record {
  line = join (print_version h.minor) (32 ∷ (h.digits ++ (print_reason h.reason ++ end_text h.line_end))) (version_line h.minor)
      (keep 32 (h.digits ++ (print_reason h.reason ++ end_text h.line_end)) (omega arith)
      (join h.digits (print_reason h.reason ++ end_text h.line_end) (feed_free is_ascii_digit h.digits refl a.digits.1)
      (join (print_reason h.reason) (end_text h.line_end) (reason_line h.reason a.reason) (end_line h.line_end))));
  full = long_is_full (status_line h) (omega (arith, length-append (print_version h.minor) (32 ∷ (h.digits ++ (print_reason h.reason ++ end_text h.line_end)))));
}

fields_full : (fields : List Field) → All IsField fields → All IsFullLine (map field_line fields)
fields_full [] p = All-nil IsFullLine
fields_full (f ∷ fs) p =
    All-cons IsFullLine (field_line f) (map field_line fs) (field_full f (All-head IsField f fs p))
    (fields_full fs (All-tail IsField f fs p))
  where
    field_full : (f : Field) → IsField f → IsFullLine (field_line f)
    field_full f a = record {
      line = field_line_all f a;
      full = long_is_full (field_line f) (omega (arith, a.name.0, length-append f.name (58 ∷ (f.raw ++ end_text f.end))));
    }

-- the head's lines
abbrev pub head_lines : List LineEnd → List ℕ → List Field → LineEnd → HeadLines
head_lines blank start fields last =
    record { before = map end_text blank; request = start; fields = map field_line fields; last = end_text last }

pub are_head_lines : (blank : List LineEnd) (start : List ℕ) (fields : List Field) (last : LineEnd) → IsFullLine start
    → All IsField fields → AreHeadLines (head_lines blank start fields last)
are_head_lines blank start fields last full all = record {
  before = blank_empty blank;
  request = full;
  fields = fields_full fields all;
  last = end_empty last;
}

-- what comes after the first full line
pub after_full : (es bs : List (List ℕ)) (f g : List ℕ) (xs ys : List (List ℕ)) → All IsEmptyLine es → All IsEmptyLine bs
    → IsFullLine f → IsFullLine g → es ++ f ∷ xs ≡ bs ++ g ∷ ys → xs ≡ ys
after_full [] [] f g xs ys p q r s e = (cons_same _ _ _ _ e).1
after_full [] (b ∷ bs) f g xs ys p q r s e =
    absurd (r.full (subst IsEmptyLine (sym (cons_same _ _ _ _ e).0) (All-head IsEmptyLine b bs q)))
after_full (x ∷ es) [] f g xs ys p q r s e =
    absurd (s.full (subst IsEmptyLine (cons_same _ _ _ _ e).0 (All-head IsEmptyLine x es p)))
after_full (x ∷ es) (b ∷ bs) f g xs ys p q r s e =
    after_full es bs f g xs ys (All-tail IsEmptyLine x es p) (All-tail IsEmptyLine b bs q) r s (cons_same _ _ _ _ e).1

-- as many fields as lines between the request line and the empty one
pub fields_counted : (h : RequestHead) (t : HeadLines) → AreHeadLines t → ReadsRequest (print_head t) h []
    → length h.fields ≡ length t.fields
fields_counted h t a reads =
    let valid = reads.0 in
    let blanks = map end_text h.blank in
    let fields = map field_line h.fields in
    let all = All-append IsLine (blanks ++ (request_line h ∷ fields)) (end_text h.last ∷ [])
    (All-append IsLine blanks (request_line h ∷ fields) (empty_are_lines blanks (blank_empty h.blank))
    (All-cons IsLine (request_line h) fields (request_line_all h valid) (field_lines_all h.fields valid.fields)))
    (All-cons IsLine (end_text h.last) [] (end_line h.last) (All-nil IsLine)) in
    let front = first_lines (lines_of h) (t.before ++ (t.request ∷ t.fields) ++ t.last ∷ []) [] [] all
    (head_lines_all t a) (All-nil (λ b. b ≢ 10)) (append-nil _ ∙ sym (request_is h) ∙ sym reads.1 ∙ sym (append-nil _)) in
    let end = no_more front.0 [] front.2 in
    let same = sym (append_assoc t.before (t.request ∷ t.fields) (t.last ∷ [])) ∙ front.1 ∙ ap (λ n. lines_of h ++ n) end.0 ∙ append-nil (lines_of h)
    ∙ append_assoc blanks (request_line h ∷ fields) (end_text h.last ∷ []) in
    let rest = after_full t.before blanks t.request (request_line h) (t.fields ++ t.last ∷ []) (fields ++ end_text h.last ∷ [])
    a.before (blank_empty h.blank) a.request (request_full h valid) same in
    omega (arith, ap length rest, length-append t.fields (t.last ∷ []), length-append fields (end_text h.last ∷ []), length-map h.fields field_line)
