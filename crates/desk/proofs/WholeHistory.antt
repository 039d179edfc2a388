-- The whole history of a desk that is closed: what its first seat had seen at some time, and that seat's moves since, where all that it met
-- had been met by then.
use Rattle.std.proofs.Common.{◌≡◌, ◌≢◌, ℕ, zero, suc, ◌⊎◌, eqb, eq-eqb, eqb-true, cond, Bool, true, false, List, [], ◌∷◌, ◌++◌, refl, sym, ap, ◌∙◌, subst, inl, inr, ⊎_elim, append_assoc}
use Rattle.std.proofs.lemmas.List.{append_cancel_left, map-append}
use mathlib.Core.Option.{some, some-injective, some-ne-none}
use lib.ListN.{get_elem?}
use Rattle.job_table.specs.History as table
use Rattle.desk.specs.declared.view.SeatEntry.{SeatEntry}
use Rattle.desk.specs.declared.view.Met.{Met}
use Rattle.desk.specs.declared.view.View.{View}
use Rattle.desk.specs.History.{moves_in, entries_by, by}
use Rattle.desk.specs.Rule.{HasMet}
use Rattle.desk.specs.SeatMoves.{ClosesBy}
use Rattle.desk.specs.SeatHistory.{AskedBy}
use Rattle.desk.proofs.Histories.{entries_append, none_before, none_behind}

false_is_not : false ≡ true → ⊥
false_is_not e = cc

not_nil : (e : SeatEntry) (es : List SeatEntry) → e ∷ es ≡ [] → ⊥
not_nil e es is = cc

-- ---- one seat's moves

pub moves_by_one : (n : ℕ) (said : List table.MoveEntry) → moves_in (by n said) ≡ said
moves_by_one n [] = refl
moves_by_one n (s ∷ ss) = ap (λ (l : List table.MoveEntry). s ∷ l) (moves_by_one n ss)

pub moves_then : (log : List SeatEntry) (n : ℕ) (said : List table.MoveEntry) → moves_in (log ++ by n said) ≡ moves_in log ++ said
moves_then log n said =
    map-append (λ (e : SeatEntry). table.entry_of_move e.table_move e.reply) log (by n said) ∙ ap (λ (es : List table.MoveEntry). moves_in log ++ es) (moves_by_one n said)

-- nobody but the first seat made moves
abbrev Nobody : List SeatEntry → Type 0
Nobody log = (k : ℕ) → k ≢ 0 → entries_by k log ≡ []

-- who made a move isn't nobody
made_one : (e : SeatEntry) (es : List SeatEntry) (own : Bool) → own ≡ true → cond own (e ∷ es) es ≡ [] → ⊥
made_one e es true own none = not_nil e es none
made_one e es false own none = false_is_not own

none_later : (e : SeatEntry) (es : List SeatEntry) (own : Bool) → cond own (e ∷ es) es ≡ [] → es ≡ []
none_later e es true none = absurd (not_nil e es none)
none_later e es false none = none

own_first : (e : SeatEntry) (es log : List SeatEntry) (own : Bool) → eqb e.seat 0 ≡ own → Nobody (e ∷ log) → es ≡ log → cond own (e ∷ es) es ≡ e ∷ log
own_first e es log true same nobody rest = ap (λ (l : List SeatEntry). e ∷ l) rest
own_first e es log false other nobody rest =
    absurd (made_one e (entries_by e.seat log) (eqb e.seat e.seat) (eq-eqb e.seat e.seat refl) (nobody e.seat (λ same. false_is_not (sym other ∙ eq-eqb e.seat 0 same))))

all_own : (log : List SeatEntry) → Nobody log → entries_by 0 log ≡ log
all_own [] nobody = refl
all_own (e ∷ log) nobody =
    own_first e (entries_by 0 log) log (eqb e.seat 0) refl nobody (all_own log (λ k other. none_later e (entries_by k log) (eqb e.seat k) (nobody k other)))

-- ---- whether a seat was met

abbrev WasMet : ℕ → List Met → Type 0
WasMet k met = (i : ℕ) × (m : Met) × (get_elem? met i ≡ some m) × (m.seat ≡ k)

abbrev NotMet : ℕ → List Met → Type 0
NotMet k met = (i : ℕ) (m : Met) → get_elem? met i ≡ some m → m.seat ≢ k

not_met_more : (k : ℕ) (m : Met) (ms : List Met) → m.seat ≢ k → NotMet k ms → NotMet k (m ∷ ms)
not_met_more k m ms other none zero n there = λ same. other (ap (λ (x : Met). x.seat) (some-injective m n there) ∙ same)
not_met_more k m ms other none (suc i) n there = none i n there

met_step : (k : ℕ) (m : Met) (ms : List Met) (is : Bool) → eqb m.seat k ≡ is → WasMet k ms ⊎ NotMet k ms → WasMet k (m ∷ ms) ⊎ NotMet k (m ∷ ms)
met_step k m ms true same rest = inl (zero, m, refl, eqb-true m.seat k same)
met_step k m ms false other (inl (i, n, there, same)) = inl (suc i, n, there, same)
met_step k m ms false other (inr none) = inr (not_met_more k m ms (λ same. false_is_not (sym other ∙ eq-eqb m.seat k same)) none)

met_or_not : (k : ℕ) (met : List Met) → WasMet k met ⊎ NotMet k met
met_or_not k [] = inr (λ i m there. absurd (some-ne-none m (sym there)))
met_or_not k (m ∷ ms) = met_step k m ms (eqb m.seat k) refl (met_or_not k ms)

-- ---- a desk that is closed

module _ {is_legal makes : List SeatEntry → Type 0} (v w : View) (said : List table.MoveEntry) (asked : AskedBy is_legal v w said) (first : v.number ≡ 0)
    (stand : entries_by v.number v.seen ≡ v.mine) (known : HasMet v.seen v.met) (c : ClosesBy makes w) where
  -- what stands behind all that had been seen
  later : List SeatEntry
  later = asked.seen.0 ++ c.begins.0

  log_is : c.log ≡ v.seen ++ later
  unfolding later
  log_is = c.begins.1 ∙ ap (λ (l : List SeatEntry). l ++ c.begins.0) asked.seen.1 ∙ append_assoc v.seen asked.seen.0 c.begins.0

  own_later : entries_by 0 later ≡ by 0 said
  own_later = append_cancel_left v.mine (entries_by 0 later) (by 0 said)
      (ap (λ (l : List SeatEntry). l ++ entries_by 0 later) (sym (subst (λ (n : ℕ). entries_by n v.seen ≡ v.mine) first stand))
      ∙ sym (entries_append 0 v.seen later) ∙ ap (entries_by 0) (sym log_is) ∙ c.mine ∙ asked.mine ∙ ap (λ (n : ℕ). v.mine ++ by n said) first)

  behind : (k : ℕ) (mine : List SeatEntry) → entries_by k v.seen ≡ mine → entries_by k c.log ≡ mine → entries_by k later ≡ []
  behind k mine there all = none_behind k v.seen later mine there (ap (entries_by k) (sym log_is) ∙ all)

  met_later : (k : ℕ) → WasMet k v.met → entries_by k later ≡ []
  met_later k (i, m, there, same) = subst (λ (n : ℕ). entries_by n later ≡ []) same
      (behind m.seat m.entries (known i m there) (c.met i m (subst (λ (ms : List Met). get_elem? ms i ≡ some m) (sym asked.stays.met) there)))

  strange_later : (k : ℕ) → k ≢ 0 → NotMet k v.met → entries_by k later ≡ []
  strange_later k other none =
      let nothing : entries_by k c.log ≡ [] = c.no_others k other (λ i m there. none i m (subst (λ (ms : List Met). get_elem? ms i ≡ some m) asked.stays.met there)) in
      behind k [] (none_before k c.log v.seen (later, log_is) nothing) nothing

  -- the history is what had been seen, and these moves
  pub whole_history : c.log ≡ v.seen ++ by 0 said
  whole_history =
      let nobody : Nobody later = λ k other. ⊎_elim (met_later k) (strange_later k other) (met_or_not k v.met) in
      log_is ∙ ap (λ (l : List SeatEntry). v.seen ++ l) (sym (all_own later nobody) ∙ own_later)
