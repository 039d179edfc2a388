-- Texts that are written part by part.
use Rattle.std.proofs.Common.{◌≡◌, ℕ, ◌+◌, List, [], ◌++◌, take, drop, Option, Ok, Err, Result, refl, sym, ◌∙◌, ap, subst, append_assoc, append-nil}
use Rattle.std.specs.Prelude.{IsErrAnd, OnOk}
use Rattle.std.proofs.lemmas.List.{take-append-drop, drop-drop}
use Rattle.os_io.specs.Streams.{Tells, BothTold, IsPart, Appends, AppendsPart, Grows, HasRisen, Counts, SameInput, Writes, Sends}
use Rattle.os_io.specs.Laws.{part_whole}
use Rattle.os_io.proofs.Tellings.{tells_same, tells_on, tells_map}

-- ---- first parts

-- nothing is a first part
pub part_none : (a : List ℕ) → IsPart a []
part_none a = (a, refl)

-- a first part of a first part
pub part_on : (a b c : List ℕ) → IsPart b a → IsPart c b → IsPart c a
part_on a b c (r, p) (s, q) = (r ++ s, q ∙ ap (λ k. k ++ s) p ∙ append_assoc a r s)

-- a first part of a longer text
pub part_more : (t u part : List ℕ) → IsPart t part → IsPart (t ++ u) part
part_more t u part (rest, p) = (rest ++ u, ap (λ k. k ++ u) p ∙ append_assoc part rest u)

-- a text, and a first part of what stands behind it
pub part_behind : (t u part : List ℕ) → IsPart u part → IsPart (t ++ u) (t ++ part)
part_behind t u part (rest, p) = (rest, ap (λ k. t ++ k) p ∙ sym (append_assoc t part rest))

-- what grows not at all grows
pub grows_same : (x : Option (List ℕ)) → Grows x x
grows_same x = tells_same x (λ a b. IsPart b a) part_whole

-- what grows goes on growing
pub grows_on : (x y z : Option (List ℕ)) → Grows x y → Grows y z → Grows x z
grows_on x y z = tells_on x y z (λ a b. IsPart b a) (λ a b. IsPart b a) (λ a b. IsPart b a) part_on

-- nothing of the way in is touched by either of two calls
pub input_on : (a b c : Tells) → SameInput a b → SameInput b c → SameInput a c
input_on a b c p q = record { left = q.left ∙ p.left; read_faults = q.read_faults ∙ p.read_faults }

-- a text after a text
pub appends_more : (t u a b c : List ℕ) → Appends t a b → Appends u b c → Appends (t ++ u) a c
appends_more t u a b c p q = q ∙ ap (λ k. k ++ u) p ∙ append_assoc a t u

-- a first part of a text after a text
pub appends_part : (t u a b c : List ℕ) → Appends t a b → AppendsPart u b c → AppendsPart (t ++ u) a c
appends_part t u a b c p (part, is, q) = (t ++ part, part_behind t u part is, appends_more t part a b c p q)

-- a first part of a first text
pub part_of_first : (t u a b : List ℕ) → AppendsPart t a b → AppendsPart (t ++ u) a b
part_of_first t u a b (part, is, q) = (part, part_more t u part is, q)

-- ---- one call after another

module _ {X E : Type 0} where
  -- nothing is written
  pub writes_nothing : (x : X) (t : Tells) → Writes {X = X} {E = E} (Ok x) [] t t
  writes_nothing x t = record {
    written = tells_same t.written (Appends []) (λ a. sym (append-nil a));
    handed_on = grows_same t.handed_on;
    counted = refl;
    input = record { left = refl; read_faults = refl };
  }

  -- the same text, put otherwise
  pub writes_same : (result : Result X E) (t u : List ℕ) {a b : Tells} → t ≡ u → Writes result t a b → Writes result u a b
  writes_same result t u {a} {b} e w = subst (λ k. Writes result k a b) e w

module _ {X Y E : Type 0} where
  -- a write after one that went well
  pub writes_then : (x : Y) (result : Result X E) (t u : List ℕ) {a b c : Tells} → Writes {X = Y} {E = E} (Ok x) t a b → Writes result u b c → Writes result (t ++ u) a c
  writes_then x (Ok y) t u {a} {b} {c} v w = record {
    written = tells_on _ _ _ (Appends t) (Appends u) (Appends (t ++ u)) (appends_more t u) v.written w.written;
    handed_on = grows_on a.handed_on b.handed_on c.handed_on v.handed_on w.handed_on;
    counted = w.counted ∙ v.counted;
    input = input_on a b c v.input w.input;
  }
  writes_then x (Err e) t u {a} {b} {c} v w = record {
    written = tells_on _ _ _ (Appends t) (AppendsPart u) (AppendsPart (t ++ u)) (appends_part t u) v.written w.written;
    handed_on = grows_on a.handed_on b.handed_on c.handed_on v.handed_on w.handed_on;
    counted = subst (λ n. HasRisen n c.write_faults) v.counted w.counted;
    input = input_on a b c v.input w.input;
  }

  -- a write that failed, of a first text
  pub writes_part : (R : E → Type 0) (result : Result X E) → IsErrAnd result R → (e : E) (t u : List ℕ) {a b : Tells} → Writes {X = Y} {E = E} (Err e) t a b → Writes result (t ++ u) a b
  writes_part R (Ok x) is e t u w = absurd is
  writes_part R (Err y) is e t u w = record {
    written = tells_map _ _ (AppendsPart t) (AppendsPart (t ++ u)) (part_of_first t u) w.written;
    handed_on = w.handed_on;
    counted = w.counted;
    input = w.input;
  }

  -- a write that went well, whatever it answers
  pub writes_well : (x : X) (y : Y) (t : List ℕ) {a b : Tells} → Writes {X = Y} {E = E} (Ok y) t a b → Writes {X = X} {E = E} (Ok x) t a b
  writes_well x y t w =
      record { written = w.written; handed_on = w.handed_on; counted = w.counted; input = w.input }

  -- a flush after a write that went well
  pub sends_flushed : (y : Y) (result : Result X E) (t : List ℕ) {a b c : Tells} → Writes {X = Y} {E = E} (Ok y) t a b → c.written ≡ b.written → OnOk result (c.handed_on ≡ c.written) → Grows b.handed_on c.handed_on → Counts result b.write_faults c.write_faults → SameInput b c → Sends result t a c
  sends_flushed y (Ok x) t {a} {b} {c} w same all grows counted input = record {
    writes = record {
      written = subst (λ k. BothTold a.written k (Appends t)) (sym same) w.written;
      handed_on = grows_on a.handed_on b.handed_on c.handed_on w.handed_on grows;
      counted = counted ∙ w.counted;
      input = input_on a b c w.input input;
    };
    handed_on = all;
  }
  sends_flushed y (Err e) t {a} {b} {c} w same all grows counted input = record {
    writes = record {
      written = tells_map _ _ (Appends t) (AppendsPart t) (λ m n p. (t, part_whole t, p)) (subst (λ k. BothTold a.written k (Appends t)) (sym same) w.written);
      handed_on = grows_on a.handed_on b.handed_on c.handed_on w.handed_on grows;
      counted = subst (λ n. HasRisen n c.write_faults) w.counted counted;
      input = input_on a b c w.input input;
    };
    handed_on = tt;
  }

-- ---- a whole text, part by part

-- a whole text that goes on by a part
pub goes_on : (whole done rest part behind : List ℕ) → whole ≡ done ++ rest → rest ≡ part ++ behind → whole ≡ (done ++ part) ++ behind
goes_on whole done rest part behind p q = p ∙ ap (λ z. done ++ z) q ∙ sym (append_assoc done part behind)

-- so much of a whole text was written, and this is to come
abbrev pub SoFar : (E : Type 0) (whole rest : List ℕ) (a b : Tells) → Type 0
SoFar E whole rest a b = (done : List ℕ) × Writes {X = Unit {0}} {E = E} (Ok tt) done a b × (whole ≡ done ++ rest)

module _ {E : Type 0} where
  -- nothing is written yet
  pub so_far_nothing : (whole : List ℕ) (t : Tells) → SoFar E whole whole t t
  so_far_nothing whole t = ([], writes_nothing tt t, refl)

  -- all is written
  pub so_far_all : (whole rest : List ℕ) {a b : Tells} → SoFar E whole rest a b → rest ≡ [] → Writes {X = Unit {0}} {E = E} (Ok tt) whole a b
  so_far_all whole rest (done, w, same) none =
      writes_same (Ok tt) done whole (sym (same ∙ ap (λ z. done ++ z) none ∙ append-nil done)) w

module _ {Y E : Type 0} where
  -- a part more
  pub so_far_more : (y : Y) (whole rest part behind : List ℕ) {a b c : Tells} → SoFar E whole rest a b → rest ≡ part ++ behind → Writes {X = Y} {E = E} (Ok y) part b c → SoFar E whole behind a c
  so_far_more y whole rest part behind (done, w, same) more v =
      (done ++ part, writes_then tt (Ok tt) done part w (writes_well tt y part v), goes_on whole done rest part behind same more)

module _ {X Y E : Type 0} where
  -- a part more that failed
  pub so_far_fails : (R : E → Type 0) (result : Result X E) → IsErrAnd result R → (e : E) (whole rest part behind : List ℕ) {a b c : Tells} → SoFar E whole rest a b → rest ≡ part ++ behind → Writes {X = Y} {E = E} (Err e) part b c → Writes result whole a c
  so_far_fails R result is e whole rest part behind (done, w, same) more v =
      writes_same result (done ++ (part ++ behind)) whole (sym (same ∙ ap (λ z. done ++ z) more))
      (writes_then tt result done (part ++ behind) w (writes_part R result is e part behind v))

-- ---- a write of a first part

module _ {X E : Type 0} where
  -- a first part was written
  pub wrote_first : (x : X) (t : List ℕ) {a b : Tells} → BothTold a.written b.written (Appends t) → Grows a.handed_on b.handed_on → b.write_faults ≡ a.write_faults → SameInput a b → Writes {X = X} {E = E} (Ok x) t a b
  wrote_first x t written grows counted input =
      record { written = written; handed_on = grows; counted = counted; input = input }

  -- nothing was written
  pub wrote_none : (e : E) (t : List ℕ) {a b : Tells} → b.written ≡ a.written → Grows a.handed_on b.handed_on → HasRisen a.write_faults b.write_faults → SameInput a b → Writes {X = X} {E = E} (Err e) t a b
  wrote_none e t {a} {b} same grows counted input = record {
    written = subst (λ k. BothTold a.written k (AppendsPart t)) (sym same) (tells_same a.written (AppendsPart t) (λ m. ([], part_none t, sym (append-nil m))));
    handed_on = grows;
    counted = counted;
    input = input;
  }

-- what is still to be written goes on behind the first n bytes of it
pub rest_behind : (bytes : List ℕ) (i n : ℕ) → drop i bytes ≡ take n (drop i bytes) ++ drop (i + n) bytes
rest_behind bytes i n =
    sym (take-append-drop n (drop i bytes)) ∙ ap (λ k. take n (drop i bytes) ++ k) (drop-drop n i bytes)
