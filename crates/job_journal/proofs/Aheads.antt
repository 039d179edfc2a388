-- What is held of a file, beside the whole rest of it.
use Rattle.std.proofs.Common.{◌≡◌, ◌⊎◌, inl, inr, ⊎_elim, ℕ, suc, ◌+◌, ◌-◌, ◌<◌, ◌≤◌, true, false, List, [], ◌∷◌, ◌++◌, length, get_or, take, drop, refl, sym, ◌∙◌, ap, subst, arith, length-append, length-take, length-drop, append_assoc, append-nil, take-append-drop}
use Rattle.std.specs.Prelude.{Some, None}
use Rattle.std.specs.Int.{w32, to_be_bytes}
use Rattle.std.proofs.lemmas.Bool.{cases_lt}
use Rattle.std.proofs.lemmas.List.{drop_at, drop-drop, drop-take, drop-append-le, take-append-le, nil_from_length}
use Rattle.effects.specs.Records.{Deed, Issue, Send, Enter, Finish, Killed, Marked, GivenUp, Begin, number, text, body, records, Fits}
use Rattle.effects.specs.Fold.{Ledger, nothing}
use Rattle.job_journal.specs.Ahead.{IsAhead, IsReadOn}
use Rattle.job_journal.specs.declared.scanning.OpenFault.{OpenFault}
use Rattle.job_journal.specs.declared.scanning.OpenFault.TheVariants.{ReadFault, WriteFault, Damaged, Memory}
use Rattle.job_journal.specs.Opening.{CutsRecord, TakesRecord, TakesOn, StopsAt, IsReadUpTo, ReadsRecords, DamagedIn, WasMade}
use Rattle.job_journal.proofs.Scans.{folds_push, one_more, ends_at}

text_length : (t : List ℕ) → length (text t) ≡ 4 + length t
text_length t = length-append (to_be_bytes w32 (length t)) t

-- no record is longer
pub body_short : (d : Deed) → Fits d → length (body d) ≤ 8388625
body_short Issue fits = omega arith
body_short (Send n t u) fits = omega (arith, fits.1, fits.2, length-append (number n) (text t ++ text u), length-append (text t) (text u), text_length t, text_length u)
body_short (Enter t u) fits = omega (arith, fits.0, fits.1, length-append (text t) (text u), text_length t, text_length u)
body_short (Finish n None) fits = omega (arith, length-append (number n) (0 ∷ []))
body_short (Finish n (Some t)) fits = omega (arith, fits.1, length-append (number n) (1 ∷ text t), text_length t)
body_short (Killed n) fits = omega arith
body_short (Marked n) fits = omega arith
body_short (GivenUp n) fits = omega arith
body_short (Begin n) fits = omega arith

-- a list that goes on past the front of another one, and is as it up to some place
cut_front : (a r b : List ℕ) (g : ℕ) (s : List ℕ) → length b < length a → a ++ r ≡ b ++ g ∷ s → (more : List ℕ) × (a ≡ b ++ g ∷ more)
cut_front [] r b g s lt e = absurd (omega arith)
cut_front (x ∷ a) r [] g s lt e = let same : x ≡ g = ap (λ (l : List ℕ). get_or l 0 0) e in (a, ap (λ (y : ℕ). y ∷ a) same)
cut_front (x ∷ a) r (y ∷ b) g s lt e =
    let same : x ≡ y = ap (λ (l : List ℕ). get_or l 0 0) e in
    let (more, are) = cut_front a r b g s (omega arith) (ap (λ (l : List ℕ). drop 1 l) e) in
    (more, λ i. same i ∷ are i)

-- the rest of the file begins with what is held
pub rest_is : (file : List ℕ) (place : ℕ) (held : List ℕ) (a : IsAhead file place held) → drop place file ≡ held ++ a.behind
rest_is file place held a = ap (λ (l : List ℕ). drop place l) a.is ∙ drop_at a.passed (held ++ a.behind) place (sym a.at)

module _ (accepted : List ℕ → List ℕ → Type 0) where
  -- a record that what is held begins with is the file's next one
  pub taken : (held behind after : List ℕ) (old new : Ledger) → CutsRecord accepted held old after new → CutsRecord accepted (held ++ behind) old (after ++ behind) new
  taken held behind after old new t = record {
    deed = t.deed;
    fits = t.fits;
    is = ap (λ (l : List ℕ). l ++ behind) t.is ∙ append_assoc (body t.deed) after behind;
    steps = t.steps;
    some = omega (arith, t.some, length-append after behind);
  }

  -- and where none is among what is held, the file has none there
  pub none_taken : (held behind : List ℕ) (old other : Ledger) → (behind ≡ []) ⊎ (8388626 ≤ length held) → TakesRecord accepted held old None other → TakesRecord accepted (held ++ behind) old None other
  none_taken held behind old other (inl none) t =
      subst (λ (l : List ℕ). TakesRecord accepted l old None other) (sym (ap (λ (l : List ℕ). held ++ l) none ∙ append-nil held)) t
  none_taken held behind old other (inr enough) t = λ d gate after fits is.
      let (more, are) = cut_front held behind (body d) gate after (omega (arith, enough, body_short d fits)) is in
      t d gate more fits are

-- ---- the room

-- what stands between two places of the room
abbrev pub between : List ℕ → ℕ → ℕ → List ℕ
between room from to = take (to - from) (drop from room)

pub held_length : (room : List ℕ) (from to : ℕ) → to ≤ length room → length (between room from to) ≡ to - from
held_length room from to within = omega (arith, within, length-take (to - from) (drop from room), length-drop from room)

pub held_passed : (room : List ℕ) (from to n : ℕ) → n ≤ to - from → between room (from + n) to ≡ drop n (between room from to)
held_passed room from to n le =
    let m = to - (from + n) in
    let same : to - from ≡ n + m = omega (arith, le) in
    sym (ap (λ (k : ℕ). drop n (take k (drop from room))) same ∙ drop-take n m (drop from room) ∙ ap (λ (l : List ℕ). take m l) (drop-drop n from room))

-- a piece is written behind it
pub held_more : (room new piece rest : List ℕ) (from to n : ℕ) → from ≤ to → to ≤ length room → n ≤ length piece → new ≡ take to room ++ (piece ++ rest) → between new from (to + n) ≡ between room from to ++ take n piece
held_more room new piece rest from to n ordered within le is =
    let m = to - from in
    let whole : to ≡ from + m = omega (arith, ordered) in
    let front : drop from (take to room) ≡ between room from to = ap (λ (k : ℕ). drop from (take k room)) whole ∙ drop-take from m room in
    let long : from ≤ length (take to room) = omega (arith, ordered, within, length-take to room) in
    let behind : drop from new ≡ between room from to ++ (piece ++ rest) =
    ap (λ (l : List ℕ). drop from l) is ∙ drop-append-le from (take to room) (piece ++ rest) long ∙ ap (λ (l : List ℕ). l ++ (piece ++ rest)) front in
    let size : (to + n) - from ≡ length (between room from to) + n = omega (arith, ordered, held_length room from to within) in
    ap (λ (k : ℕ). take k (drop from new)) size
    ∙ ap (λ (l : List ℕ). take (length (between room from to) + n) l) behind
    ∙ take_past (between room from to) (piece ++ rest) n
    ∙ ap (λ (l : List ℕ). between room from to ++ l) (take-append-le n piece rest le)
  where
    take_past : (a b : List ℕ) (k : ℕ) → take (length a + k) (a ++ b) ≡ a ++ take k b
    take_past [] b k = let none : 0 + k ≡ k = omega arith in ap (λ (n : ℕ). take n b) none
    take_past (x ∷ a) b k =
        let one : length (x ∷ a) + k ≡ suc (length a + k) = omega arith in
        ap (λ (n : ℕ). take n (x ∷ (a ++ b))) one ∙ ap (λ (l : List ℕ). x ∷ l) (take_past a b k)

-- so more of the file is held
pub more_ahead : (file : List ℕ) (place : ℕ) (held piece : List ℕ) (n at : ℕ) → at ≡ place + length held → take n piece ≡ take n (drop at file) → IsAhead file place held → IsAhead file place (held ++ take n piece)
more_ahead file place held piece n at at_is read a =
    let behind : drop at file ≡ a.behind =
    ap (λ (k : ℕ). drop k file) at_is ∙ sym (drop-drop (length held) place file) ∙ ap (λ (l : List ℕ). drop (length held) l) (rest_is file place held a) ∙ drop_at held a.behind (length held) refl in
    record {
      passed = a.passed;
      behind = drop n a.behind;
      is = a.is
          ∙ ap (λ (l : List ℕ). a.passed ++ (held ++ l)) (sym (take-append-drop n a.behind) ∙ ap (λ (l : List ℕ). l ++ drop n a.behind) (sym (read ∙ ap (λ (l : List ℕ). take n l) behind)))
          ∙ ap (λ (l : List ℕ). a.passed ++ l) (sym (append_assoc held (take n piece) (drop n a.behind)));
      at = a.at;
    }

-- nothing is held yet
pub at_front : (file : List ℕ) → IsAhead file 0 []
at_front file = record { passed = []; behind = file; is = refl; at = refl }

-- as much as a record can have is held, or all that is left
pub enough_read : (file : List ℕ) (place len : ℕ) (held : List ℕ) → len ≡ length file → IsAhead file place held → (length held < 8388627 → len ≤ place + length held) → IsReadOn file place held
enough_read file place len held long a all = record {
  ahead = a;
  enough = ⊎_elim
      (λ (few : length held < 8388627). inl (nil_from_length a.behind (omega (arith, all few, long, a.at, ap length a.is, length-append a.passed (held ++ a.behind), length-append held a.behind))))
      (λ (many : 8388627 ≤ length held). inr many)
      (cases_lt (length held) 8388627);
}

-- ---- what is held, passed

-- some bytes of what is held are passed
pub passes_on : (file : List ℕ) (place : ℕ) (held : List ℕ) (n : ℕ) (a : IsAhead file place held) → n ≤ length held → IsAhead file (place + n) (drop n held)
passes_on file place held n a le = record {
  passed = a.passed ++ take n held;
  behind = a.behind;
  is = a.is
      ∙ ap (λ (l : List ℕ). a.passed ++ l) (ap (λ (l : List ℕ). l ++ a.behind) (sym (take-append-drop n held)) ∙ append_assoc (take n held) (drop n held) a.behind)
      ∙ sym (append_assoc a.passed (take n held) (drop n held ++ a.behind));
  at = omega (arith, a.at, length-append a.passed (take n held), length-take n held);
}

-- a gate and a record behind it are passed
past : (held b front after : List ℕ) (n : ℕ) → held ≡ 1 ∷ b → b ≡ front ++ after → n ≡ 1 + (length b - length after) → drop n held ≡ after
past held b front after n is_open is size =
    let size_is : n ≡ length (1 ∷ front) = omega (arith, size, ap length is, length-append front after) in
    ap (λ (l : List ℕ). drop n l) (is_open ∙ ap (λ (l : List ℕ). 1 ∷ l) is) ∙ drop_at (1 ∷ front) after n (sym size_is)

module _ (file : List ℕ) (place : ℕ) (held : List ℕ) (r : IsReadOn file place held) where
  rest : List ℕ
  rest = r.ahead.behind

  -- behind the gate of the file stands what is held behind it, and more
  opens : (b : List ℕ) → held ≡ 1 ∷ b → drop place file ≡ 1 ∷ (b ++ rest)
  unfolding rest
  opens b is_open = rest_is file place held r.ahead ∙ ap (λ (l : List ℕ). l ++ r.ahead.behind) is_open

  pub opened : (b : List ℕ) → held ≡ 1 ∷ b → drop place file ≡ 1 ∷ (b ++ r.ahead.behind)
  unfolding rest
  opened b is_open = opens b is_open

  -- the rest of the file behind a record
  later : (b front after : List ℕ) (n : ℕ) → held ≡ 1 ∷ b → b ≡ front ++ after → n ≡ 1 + (length b - length after) → drop (place + n) file ≡ after ++ rest
  unfolding rest passes_on
  later b front after n is_open is size =
      let within : n ≤ length held = omega (arith, size, ap length is_open, ap length is, length-append front after) in
      let a = passes_on file place held n r.ahead within in
      rest_is file (place + n) (drop n held) a ∙ ap (λ (l : List ℕ). l ++ a.behind) (past held b front after n is_open is size)

  -- a record and what follows it, as the file has them
  pub record_there : (b front after : List ℕ) (n : ℕ) → held ≡ 1 ∷ b → b ≡ front ++ after → n ≡ 1 + (length b - length after) → drop place file ≡ 1 ∷ (front ++ drop (place + n) file)
  record_there b front after n is_open is size =
      opens b is_open
      ∙ ap (λ (l : List ℕ). 1 ∷ l) (ap (λ (l : List ℕ). l ++ rest) is ∙ append_assoc front after rest ∙ ap (λ (l : List ℕ). front ++ l) (sym (later b front after n is_open is size)))

  -- where what is held has no record, the file has none
  pub no_record : (b : List ℕ) → held ≡ 1 ∷ b → ((d : Deed) (after : List ℕ) → Fits d → b ≡ body d ++ after → ⊥) → (d : Deed) (gate : ℕ) (more : List ℕ) → Fits d → drop place file ≡ 1 ∷ (body d ++ gate ∷ more) → ⊥
  unfolding rest
  no_record b is_open none d gate more fits there =
      let is : b ++ r.ahead.behind ≡ body d ++ gate ∷ more = ap (λ (l : List ℕ). drop 1 l) (sym (opens b is_open) ∙ there) in
      ⊎_elim
      (λ (no_more : r.ahead.behind ≡ []). none d (gate ∷ more) fits (sym (append-nil b) ∙ ap (λ (l : List ℕ). b ++ l) (sym no_more) ∙ is))
      (λ (many : 8388627 ≤ length held).
      let cut = cut_front b r.ahead.behind (body d) gate more (omega (arith, many, ap length is_open, body_short d fits)) is in
      none d (gate ∷ cut.0) fits cut.1)
      r.enough

  -- a gate that isn't open
  shut_by : (l : List ℕ) → ((b : List ℕ) → l ≡ 1 ∷ b → ⊥) → (rest ≡ []) ⊎ (8388627 ≤ length l) → (behind : List ℕ) → l ++ rest ≡ 1 ∷ behind → ⊥
  shut_by [] none (inl no_more) behind is = omega (arith, ap length (sym no_more ∙ is))
  shut_by [] none (inr enough) behind is = omega (arith, enough)
  shut_by (x ∷ l) none enough behind is = none l (ap (λ (y : ℕ). y ∷ l) (ap (λ (k : List ℕ). get_or k 0 0) is))

  pub shut : ((b : List ℕ) → held ≡ 1 ∷ b → ⊥) → (behind : List ℕ) → drop place file ≡ 1 ∷ behind → ⊥
  unfolding rest
  shut none behind is = shut_by held none r.enough behind (sym (rest_is file place held r.ahead) ∙ is)

  module _ (accepted : List ℕ → List ℕ → Type 0) where
    pub takes_on : (b after : List ℕ) (n : ℕ) (old new : Ledger) → held ≡ 1 ∷ b → CutsRecord accepted b old after new → n ≡ 1 + (length b - length after)
        → TakesOn accepted file place old true (place + n) new
    takes_on b after n old new is_open t size = (
      b ++ rest,
      opens b is_open,
      subst (λ (l : List ℕ). CutsRecord accepted (b ++ rest) old l new) (sym (later b (body t.deed) after n is_open t.is size)) (taken accepted b rest after old new t),
    )

    pub stops_at : (b : List ℕ) (old other : Ledger) → held ≡ 1 ∷ b → TakesRecord accepted b old None other → StopsAt accepted file place old (Damaged place)
    unfolding rest
    stops_at b old other is_open none =
        let enough : (r.ahead.behind ≡ []) ⊎ (8388626 ≤ length b) = ⊎_elim (λ no_more. inl no_more) (λ many. inr (omega (arith, many, ap length is_open))) r.enough in
        (refl, (b ++ r.ahead.behind, opens b is_open, none_taken accepted b r.ahead.behind old old enough none))

-- how far a file was read: its records up to the gate at that place, as `scan` goes from gate to gate
module _ (accepted : List ℕ → List ℕ → Type 0) where
  pub reads_on : (file : List ℕ) (place next : ℕ) (old new : Ledger) → IsReadUpTo accepted file (drop place file) old → TakesOn accepted file place old true next new → IsReadUpTo accepted file (drop next file) new
  reads_on file place next old new so_far (behind, is, cuts) = one_more accepted file (drop place file) behind (drop next file) old new so_far is cuts

  pub ends_on : (file : List ℕ) (place next : ℕ) (old new : Ledger) → place ≤ length file → IsReadUpTo accepted file (drop place file) old → TakesOn accepted file place old false next new → ReadsRecords accepted file next new
  ends_on file place next old new within so_far (same, stays, shut) =
      subst (λ (n : ℕ). ReadsRecords accepted file n new) (sym same)
      (subst (λ (l : Ledger). ReadsRecords accepted file place l) (sym stays)
      (ends_at accepted file (drop place file) old place so_far shut (omega (arith, within, length-drop place file))))

  -- a gate that is open and has no record behind it is where the file is damaged
  pub damaged_on : (file : List ℕ) (place : ℕ) (old : Ledger) (fault : OpenFault) → 1 < length file → place ≤ length file → IsReadUpTo accepted file (drop place file) old → StopsAt accepted file place old fault → DamagedIn accepted file fault
  damaged_on file place old (Damaged at) long within so_far (same, (behind, is, none)) = record {
    long = long;
    deeds = so_far.deeds;
    fit = so_far.fit;
    ledger = old;
    folds = so_far.folds;
    behind = behind;
    is = so_far.is ∙ ap (λ (l : List ℕ). records so_far.deeds ++ l) is;
    at = omega (arith, same, within, length-drop place file, ap length so_far.is, length-append (records so_far.deeds) (drop place file));
    none = none;
  }
  damaged_on file place old ReadFault long within so_far stops = tt
  damaged_on file place old WriteFault long within so_far stops = tt
  damaged_on file place old Memory long within so_far stops = tt

  -- what an effect leaves was made too
  pub made_on : (bytes after : List ℕ) (old new : Ledger) → TakesRecord accepted bytes old (Some after) new → WasMade accepted old → WasMade accepted new
  made_on bytes after old new takes (deeds, folds) = (deeds ++ takes.deed ∷ [], folds_push accepted nothing deeds old takes.deed new folds takes.steps)
