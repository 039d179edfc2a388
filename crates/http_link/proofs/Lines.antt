-- How bytes fall into lines, and where a head ends.
use Rattle.std.proofs.Common.{◌≡◌, ◌≢◌, ℕ, ◌+◌, ◌-◌, ◌<◌, ◌≤◌, ◌⊎◌, inl, inr, List, [], ◌∷◌, ◌++◌, length, drop, refl, sym, ap, ◌∙◌, subst, arith, append_assoc, append-nil, length-append}
use Rattle.std.specs.Prelude.{All, IsTrue, ◌↔◌, ◌==◌}
use Rattle.std.proofs.lemmas.Bool.{cases_lt}
use Rattle.std.proofs.lemmas.Bool.Decides.{Decides-eqb}
use Rattle.std.proofs.Math.Seq.{drop-append_seam}
use Rattle.std.proofs.lemmas.Grind.{flat_map-append}
use Rattle.std.proofs.lemmas.List.Elements.{All-nil, All-cons, All-head, All-tail, All-append, All-push}
use Rattle.http_link.specs.Lines.{IsLine, IsEmptyLine, IsFullLine, print_lines, AreEmptyLines, HeadLines, AreHeadLines, HasNoHead, IsOpenHead, IsWholeHead}

-- ---- lists of lines

pub cons_same : {X : Type 0} (a b : X) (x y : List X) → a ∷ x ≡ b ∷ y → (a ≡ b) × (x ≡ y)
cons_same a b x y e = (cc, cc)

all_left : {X : Type 0} (P : X → Type 0) (xs ys : List X) → All P (xs ++ ys) → All P xs
all_left P [] ys p = All-nil P
all_left P (x ∷ xs) ys p =
    All-cons P x xs (All-head P x (xs ++ ys) p) (all_left P xs ys (All-tail P x (xs ++ ys) p))

all_right : {X : Type 0} (P : X → Type 0) (xs ys : List X) → All P (xs ++ ys) → All P ys
all_right P [] ys p = p
all_right P (x ∷ xs) ys p = all_right P xs ys (All-tail P x (xs ++ ys) p)

-- no line has an LF
no_feed : (line rest text : List ℕ) → IsLine text → text ≡ line ++ 10 ∷ rest → ⊥
no_feed [] rest text p e = All-head (λ b. b ≢ 10) 10 rest (subst IsLine e p) refl
no_feed (b ∷ line) rest [] p e = cc
no_feed (b ∷ line) rest (c ∷ text) p e =
    no_feed line rest text (All-tail (λ b. b ≢ 10) c text p) (cons_same _ _ _ _ e).1

-- the first line ends at the first LF
line_same : (l m x y : List ℕ) → IsLine l → IsLine m → l ++ 10 ∷ x ≡ m ++ 10 ∷ y → (l ≡ m) × (x ≡ y)
line_same [] [] x y p q e = (refl, (cons_same _ _ _ _ e).1)
line_same [] (b ∷ m) x y p q e =
    absurd (All-head (λ b. b ≢ 10) b m q (sym (cons_same _ _ _ _ e).0))
line_same (a ∷ l) [] x y p q e = absurd (All-head (λ b. b ≢ 10) a l p (cons_same _ _ _ _ e).0)
line_same (a ∷ l) (b ∷ m) x y p q e =
    let parts = cons_same _ _ _ _ e in
    let rest = line_same l m x y (All-tail (λ b. b ≢ 10) a l p) (All-tail (λ b. b ≢ 10) b m q) parts.1 in
    let first : a ≡ b = parts.0 in
    let others : l ≡ m = rest.0 in
    (cc, rest.1)

print_step : (line : List ℕ) (lines : List (List ℕ)) (rest : List ℕ)
    → print_lines (line ∷ lines) ++ rest ≡ line ++ 10 ∷ (print_lines lines ++ rest)
print_step line lines rest = append_assoc (line ++ 10 ∷ []) (print_lines lines) rest ∙ append_assoc line (10 ∷ []) (print_lines lines ++ rest)

-- whole lines at the front of the bytes are the first of all their lines
pub first_lines : (ls ms : List (List ℕ)) (rest line : List ℕ) → All IsLine ls → All IsLine ms → IsLine line
    → print_lines ls ++ rest ≡ print_lines ms ++ line
    → (ns : List (List ℕ)) × (ms ≡ ls ++ ns) × (rest ≡ print_lines ns ++ line)
first_lines [] ms rest line p q r e = (ms, refl, e)
first_lines (l ∷ ls) [] rest line p q r e =
    absurd (no_feed l (print_lines ls ++ rest) line r (sym e ∙ print_step l ls rest))
first_lines (l ∷ ls) (m ∷ ms) rest line p q r e =
    let parts = line_same l m (print_lines ls ++ rest) (print_lines ms ++ line)
    (All-head IsLine l ls p) (All-head IsLine m ms q)
    (sym (print_step l ls rest) ∙ e ∙ print_step m ms line) in
    let more = first_lines ls ms rest line (All-tail IsLine l ls p) (All-tail IsLine m ms q) r parts.1 in
    let first : l ≡ m = parts.0 in
    let others : ms ≡ ls ++ more.0 = more.1 in
    (more.0, cc, more.2)

-- ---- empty and full lines

empty_is_line : (line : List ℕ) → IsEmptyLine line → IsLine line
empty_is_line line (inl e) = subst IsLine (sym e) (All-nil (λ b. b ≢ 10))
empty_is_line line (inr e) =
    subst IsLine (sym e) (All-cons (λ b. b ≢ 10) 13 [] (omega arith) (All-nil (λ b. b ≢ 10)))

pub empty_are_lines : (lines : List (List ℕ)) → All IsEmptyLine lines → All IsLine lines
empty_are_lines [] p = All-nil IsLine
empty_are_lines (l ∷ ls) p =
    All-cons IsLine l ls (empty_is_line l (All-head IsEmptyLine l ls p)) (empty_are_lines ls (All-tail IsEmptyLine l ls p))

full_are_lines : (lines : List (List ℕ)) → All IsFullLine lines → All IsLine lines
full_are_lines [] p = All-nil IsLine
full_are_lines (l ∷ ls) p =
    All-cons IsLine l ls (All-head IsFullLine l ls p).line (full_are_lines ls (All-tail IsFullLine l ls p))

-- among empty and then full lines, no empty line comes after a full one
no_empty_after : (es fs bs : List (List ℕ)) (full : List ℕ) (gs : List (List ℕ)) (last : List ℕ) (ns : List (List ℕ))
    → All IsEmptyLine es → All IsFullLine fs → All IsEmptyLine bs → IsFullLine full → IsEmptyLine last
    → es ++ fs ≡ bs ++ full ∷ (gs ++ last ∷ ns) → ⊥
no_empty_after [] fs bs full gs last ns p q r f l e =
    let all = subst (All IsFullLine) e q in
    let tail = all_right IsFullLine bs (full ∷ (gs ++ last ∷ ns)) all in
    let after = all_right IsFullLine gs (last ∷ ns) (All-tail IsFullLine full (gs ++ last ∷ ns) tail) in
    (All-head IsFullLine last ns after).full l
no_empty_after (x ∷ es) fs [] full gs last ns p q r f l e =
    f.full (subst IsEmptyLine (cons_same _ _ _ _ e).0 (All-head IsEmptyLine x es p))
no_empty_after (x ∷ es) fs (b ∷ bs) full gs last ns p q r f l e =
    no_empty_after es fs bs full gs last ns (All-tail IsEmptyLine x es p) q (All-tail IsEmptyLine b bs r) f l (cons_same _ _ _ _ e).1

-- ---- a head that has begun

open_lines : (bytes : List ℕ) (start lines : ℕ) → (o : IsOpenHead bytes start lines) → All IsLine (o.before ++ o.full)
open_lines bytes start lines o =
    All-append IsLine o.before o.full (empty_are_lines o.before o.are_empty) (full_are_lines o.full o.are_full)

pub head_lines_all : (h : HeadLines) → AreHeadLines h → All IsLine (h.before ++ (h.request ∷ h.fields) ++ h.last ∷ [])
head_lines_all h a =
    All-append IsLine (h.before ++ (h.request ∷ h.fields)) (h.last ∷ [])
    (All-append IsLine h.before (h.request ∷ h.fields) (empty_are_lines h.before a.before)
    (All-cons IsLine h.request h.fields a.request.line (full_are_lines h.fields a.fields)))
    (All-cons IsLine h.last [] (empty_is_line h.last a.last) (All-nil IsLine))

-- it is no whole head
pub open_has_no_head : (bytes : List ℕ) (start lines : ℕ) → IsOpenHead bytes start lines → HasNoHead bytes
open_has_no_head bytes start lines o h rest a e =
    let front = first_lines (h.before ++ (h.request ∷ h.fields) ++ h.last ∷ []) (o.before ++ o.full) rest o.line
    (head_lines_all h a) (open_lines bytes start lines o) o.no_feed (sym e ∙ o.bytes_are) in
    no_empty_after o.before o.full h.before h.request h.fields h.last front.0 o.are_empty o.are_full a.before a.request a.last
    (front.1 ∙ regroup h.before (h.request ∷ h.fields) h.last front.0)
  where
    regroup : (b f : List (List ℕ)) (l : List ℕ) (n : List (List ℕ)) → (b ++ f ++ l ∷ []) ++ n ≡ b ++ (f ++ l ∷ n)
    regroup b f l n = append_assoc (b ++ f) (l ∷ []) n ∙ append_assoc b f (l ∷ n)

-- the lines, and one more
pub print_push : (lines : List (List ℕ)) (line : List ℕ)
    → print_lines (lines ++ line ∷ []) ≡ (print_lines lines ++ line) ++ 10 ∷ []
print_push lines line =
    flat_map-append (λ l. l ++ 10 ∷ []) lines (line ∷ [])
    ∙ ap (λ rest. print_lines lines ++ rest) (append-nil (line ++ 10 ∷ []))
    ∙ sym (append_assoc (print_lines lines) line (10 ∷ []))

-- the line that has begun stands at the end
open_line : (bytes : List ℕ) (start lines : ℕ) → (o : IsOpenHead bytes start lines) → drop start bytes ≡ o.line
open_line bytes start lines o =
    (λ i. drop (o.start_is i) (o.bytes_are i)) ∙ drop-append_seam (print_lines (o.before ++ o.full)) o.line

pub nothing : {X : Type 0} (xs : List X) → length xs ≡ 0 → xs ≡ []
nothing [] e = refl
nothing (x ∷ xs) e = absurd (omega arith)

-- nothing has come yet
pub open_none : IsOpenHead [] 0 0
open_none = record {
  before = [];
  full = [];
  line = [];
  are_empty = All-nil IsEmptyLine;
  are_full = All-nil IsFullLine;
  no_feed = All-nil (λ b. b ≢ 10);
  bytes_are = refl;
  start_is = refl;
  lines_are = refl;
}

-- a byte that is no LF
open_byte : (bytes : List ℕ) (start lines b : ℕ) → IsOpenHead bytes start lines → b ≢ 10
    → IsOpenHead (bytes ++ b ∷ []) start lines
open_byte bytes start lines b o other = record {
  before = o.before;
  full = o.full;
  line = o.line ++ b ∷ [];
  are_empty = o.are_empty;
  are_full = o.are_full;
  no_feed = All-push (λ c. c ≢ 10) o.line b o.no_feed other;
  bytes_are = ap (λ s. s ++ b ∷ []) o.bytes_are ∙ append_assoc (print_lines (o.before ++ o.full)) o.line (b ∷ []);
  start_is = o.start_is;
  lines_are = o.lines_are;
}

-- bytes that are whole lines
whole_lines : (bytes : List ℕ) (start lines : ℕ) → (o : IsOpenHead bytes start lines) → (ls : List (List ℕ))
    → ls ≡ (o.before ++ o.full) ++ o.line ∷ [] → bytes ++ 10 ∷ [] ≡ print_lines ls
whole_lines bytes start lines o ls e =
    ap (λ s. s ++ 10 ∷ []) o.bytes_are ∙ sym (ap print_lines e ∙ print_push (o.before ++ o.full) o.line)

-- an LF after a line that isn't empty
open_full : (bytes : List ℕ) (start lines : ℕ) → IsOpenHead bytes start lines → ¬ (IsEmptyLine (drop start bytes))
    → IsOpenHead (bytes ++ 10 ∷ []) (length (bytes ++ 10 ∷ [])) (lines + 1)
open_full bytes start lines o full =
    let now = whole_lines bytes start lines o (o.before ++ (o.full ++ o.line ∷ [])) (sym (append_assoc o.before o.full (o.line ∷ []))) in
    let is_full : IsFullLine o.line = record {
      line = o.no_feed;
      full = subst (λ (l : List ℕ). ¬ (IsEmptyLine l)) (open_line bytes start lines o) full;
    } in record {
      before = o.before;
      full = o.full ++ o.line ∷ [];
      line = [];
      are_empty = o.are_empty;
      are_full = All-push IsFullLine o.full o.line o.are_full is_full;
      no_feed = All-nil (λ b. b ≢ 10);
      bytes_are = now ∙ sym (append-nil _);
      start_is = ap length now;
      lines_are = omega (arith, length-append o.full (o.line ∷ []), o.lines_are);
    }

-- an LF after an empty line, before the request line
open_empty : (bytes : List ℕ) (start : ℕ) → IsOpenHead bytes start 0 → IsEmptyLine (drop start bytes)
    → IsOpenHead (bytes ++ 10 ∷ []) (length (bytes ++ 10 ∷ [])) 0
open_empty bytes start o empty =
    let none = nothing o.full (sym o.lines_are) in
    let now = whole_lines bytes start 0 o ((o.before ++ o.line ∷ []) ++ [])
    (append-nil _ ∙ ap (λ s. s ++ o.line ∷ []) (sym (append-nil o.before) ∙ ap (λ s. o.before ++ s) (sym none))) in
    record {
      before = o.before ++ o.line ∷ [];
      full = [];
      line = [];
      are_empty = All-push IsEmptyLine o.before o.line o.are_empty (subst IsEmptyLine (open_line bytes start 0 o) empty);
      are_full = All-nil IsFullLine;
      no_feed = All-nil (λ b. b ≢ 10);
      bytes_are = now ∙ sym (append-nil _);
      start_is = ap length now;
      lines_are = refl;
    }

-- an LF after an empty line, after the request line
head_whole : (bytes : List ℕ) (start lines : ℕ) → IsOpenHead bytes start lines → 0 < lines
    → IsEmptyLine (drop start bytes) → IsWholeHead (bytes ++ 10 ∷ []) (lines - 1)
head_whole bytes start lines o some empty =
    closes o.full refl
  where
    closes : (full : List (List ℕ)) → o.full ≡ full → IsWholeHead (bytes ++ 10 ∷ []) (lines - 1)
    closes [] e = absurd (omega (arith, some, o.lines_are, ap length e))
    closes (request ∷ fields) e =
        let all = subst (All IsFullLine) e o.are_full in (
          record { before = o.before; request = request; fields = fields; last = o.line },
          record {
            before = o.are_empty;
            request = All-head IsFullLine request fields all;
            fields = All-tail IsFullLine request fields all;
            last = subst IsEmptyLine (open_line bytes start lines o) empty;
          },
          whole_lines bytes start lines o ((o.before ++ (request ∷ fields)) ++ o.line ∷ [])
              (ap (λ f. (o.before ++ f) ++ o.line ∷ []) (sym e)),
          omega (arith, o.lines_are, ap length e),
        )

-- whole empty lines alone
open_blank : (bytes : List ℕ) (start : ℕ) → IsOpenHead bytes start 0 → start ≡ length bytes → AreEmptyLines bytes
open_blank bytes start o all =
    let none = nothing o.full (sym o.lines_are) in
    let size = length-append (print_lines (o.before ++ o.full)) o.line in
    let rest = nothing o.line (omega (arith, size, ap length o.bytes_are, o.start_is, all)) in (
      o.before,
      o.are_empty,
      o.bytes_are ∙ ap (λ l. print_lines (o.before ++ o.full) ++ l) rest ∙ append-nil _
          ∙ ap print_lines (ap (λ f. o.before ++ f) none ∙ append-nil o.before),
    )

pub no_more : (lines : List (List ℕ)) (line : List ℕ) → [] ≡ print_lines lines ++ line → (lines ≡ []) × (line ≡ [])
no_more [] line e = (refl, sym e)
no_more (l ∷ ls) line e =
    absurd (omega (arith, ap length (e ∙ print_step l ls line), length-append l (10 ∷ (print_lines ls ++ line))))

-- anything else
pub open_not_blank : (bytes : List ℕ) (start lines : ℕ) → IsOpenHead bytes start lines → (0 < lines) ⊎ (start < length bytes)
    → ¬ (AreEmptyLines bytes)
open_not_blank bytes start lines o more blank =
    let front = first_lines blank.0 (o.before ++ o.full) [] o.line (empty_are_lines blank.0 blank.1)
    (open_lines bytes start lines o) o.no_feed (append-nil _ ∙ sym blank.2 ∙ o.bytes_are) in
    let end = no_more front.0 o.line front.2 in
    let same = front.1 ∙ ap (λ n. blank.0 ++ n) end.0 ∙ append-nil blank.0 in
    let empty = all_right IsEmptyLine o.before o.full (subst (All IsEmptyLine) (sym same) blank.1) in
    elim more [
      | inl some ↦ both o.full empty o.are_full (omega (arith, some, o.lines_are))
      | inr less ↦ omega (arith, less, o.start_is, ap length o.bytes_are, ap length end.1, length-append (print_lines (o.before ++ o.full)) o.line)
    ]
  where
    both : (ls : List (List ℕ)) → All IsEmptyLine ls → All IsFullLine ls → 0 < length ls → ⊥
    both [] p q some = omega arith
    both (l ∷ ls) p q some = (All-head IsFullLine l ls q).full (All-head IsEmptyLine l ls p)

-- no more lines than bytes
count_lines : (lines : List (List ℕ)) → length lines ≤ length (print_lines lines)
count_lines [] = omega arith
count_lines (l ∷ ls) =
    omega (arith, count_lines ls, length-append (l ++ 10 ∷ []) (print_lines ls), length-append l (10 ∷ []))

pub open_count : (bytes : List ℕ) (start lines : ℕ) → IsOpenHead bytes start lines → lines ≤ length bytes
open_count bytes start lines o =
    omega (
      arith,
      count_lines (o.before ++ o.full),
      length-append o.before o.full,
      o.lines_are,
      ap length o.bytes_are,
      length-append (print_lines (o.before ++ o.full)) o.line,
    )

-- the head is blank where it has no full line, and no line has begun
pub open_is_blank : (bytes : List ℕ) (start lines : ℕ) → IsOpenHead bytes start lines → lines ≡ 0
    → (n : ℕ) → n ≡ length bytes → IsTrue (start == n) ↔ AreEmptyLines bytes
open_is_blank bytes start lines o none n size = (
  λ yes. open_blank bytes start (subst (λ (k : ℕ). IsOpenHead bytes start k) none o) ((Decides-eqb start n).0 yes ∙ size),
  λ blank. elim (cases_lt start (length bytes)) [
    | inl less ↦ absurd (open_not_blank bytes start lines o (inr less) blank)
    | inr ge ↦ (Decides-eqb start n).1 (omega (arith, size, ge, o.start_is, ap length o.bytes_are, length-append (print_lines (o.before ++ o.full)) o.line))
  ],
)

-- the same calls where the bytes after them have a name
pub push_byte : (bytes after : List ℕ) (start lines b : ℕ) → IsOpenHead bytes start lines → after ≡ bytes ++ b ∷ []
    → b ≢ 10 → IsOpenHead after start lines
push_byte bytes after start lines b o e other =
    subst (λ (s : List ℕ). IsOpenHead s start lines) (sym e) (open_byte bytes start lines b o other)

feed_after : (bytes after : List ℕ) (b : ℕ) → after ≡ bytes ++ b ∷ [] → b ≡ 10 → bytes ++ 10 ∷ [] ≡ after
feed_after bytes after b e feed = sym (e ∙ ap (λ c. bytes ++ c ∷ []) feed)

pub push_full : (bytes after : List ℕ) (start lines b n : ℕ) → IsOpenHead bytes start lines → after ≡ bytes ++ b ∷ []
    → b ≡ 10 → n ≡ length after → ¬ (IsEmptyLine (drop start bytes)) → IsOpenHead after n (lines + 1)
push_full bytes after start lines b n o e feed size full =
    let now = feed_after bytes after b e feed in
    subst (λ (k : ℕ). IsOpenHead after k (lines + 1)) (sym size)
    (subst (λ (s : List ℕ). IsOpenHead s (length s) (lines + 1)) now (open_full bytes start lines o full))

pub push_empty : (bytes after : List ℕ) (start lines b n : ℕ) → IsOpenHead bytes start lines → after ≡ bytes ++ b ∷ []
    → b ≡ 10 → n ≡ length after → IsEmptyLine (drop start bytes) → lines ≤ 0 → IsOpenHead after n lines
push_empty bytes after start lines b n o e feed size empty none =
    let zero : lines ≡ 0 = omega (arith, none) in
    let now = feed_after bytes after b e feed in
    subst (λ (k : ℕ). IsOpenHead after k lines) (sym size)
    (subst (λ (k : ℕ). IsOpenHead after (length after) k) (sym zero)
    (subst (λ (s : List ℕ). IsOpenHead s (length s) 0) now
    (open_empty bytes start (subst (λ (k : ℕ). IsOpenHead bytes start k) zero o) empty)))

pub push_whole : (bytes after : List ℕ) (start lines b : ℕ) → IsOpenHead bytes start lines → after ≡ bytes ++ b ∷ []
    → b ≡ 10 → IsEmptyLine (drop start bytes) → 0 < lines → IsWholeHead after (lines - 1)
push_whole bytes after start lines b o e feed empty some =
    subst (λ (s : List ℕ). IsWholeHead s (lines - 1)) (feed_after bytes after b e feed)
    (head_whole bytes start lines o some empty)

-- a whole head, whatever follows, is more than empty lines
pub whole_not_blank : (head : List ℕ) (lines : ℕ) (rest : List ℕ) → IsWholeHead head lines → ¬ (AreEmptyLines (head ++ rest))
whole_not_blank head lines rest whole blank =
    let h = whole.0 in
    let a = whole.1 in
    let front = first_lines (h.before ++ (h.request ∷ h.fields) ++ h.last ∷ []) blank.0 rest [] (head_lines_all h a)
    (empty_are_lines blank.0 blank.1) (All-nil (λ b. b ≢ 10))
    (ap (λ s. s ++ rest) (sym whole.2) ∙ blank.2 ∙ sym (append-nil _)) in
    let all = subst (All IsEmptyLine) front.1 blank.1 in
    let some = all_left IsEmptyLine (h.before ++ (h.request ∷ h.fields) ++ h.last ∷ []) front.0 all in
    let lines = all_right IsEmptyLine h.before (h.request ∷ h.fields)
    (all_left IsEmptyLine (h.before ++ (h.request ∷ h.fields)) (h.last ∷ []) some) in
    a.request.full (All-head IsEmptyLine h.request h.fields lines)
