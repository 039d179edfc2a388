-- What a history of moves over a store says of that store.
use Rattle.std.proofs.Common.{◌≡◌, ◌≢◌, ◌⊎◌, inl, inr, ⊎_elim, ℕ, ◌||◌, cond, Bool, true, false, List, [], ◌∷◌, ◌++◌, Option, Some, None, Result, Ok, Err, IfOk, IfErr, IfSome, IfNone, refl, sym, ap, ◌∙◌, subst, append_assoc, append-nil, arith}
use Rattle.std.specs.Prelude.{◌↔◌}
use Rattle.os_io.specs.Streams.{HasRisen}
use Rattle.effects.specs.Records.{Deed}
use Rattle.effects.specs.declared.store.NotStored.{NotStored}
use Rattle.effects.specs.declared.store.NotStored.TheVariants.{Disk, Broken, Long}
use Rattle.effects.specs.Stores.{CountsDisk, PutsIf}
use Rattle.job_table.specs.declared.entries.TableMove.{TableMove}
use Rattle.job_table.specs.declared.entries.TableMove.TheVariants as asks
use Rattle.job_table.specs.declared.entries.Reply.{Reply}
use Rattle.job_table.specs.declared.entries.Reply.TheVariants as replies
use Rattle.job_table.specs.Jobs.{Register}
use Rattle.job_table.specs.Steps.{MoveOutcome, Step, May, row_of_move, fits}
use Rattle.job_table.specs.Plans.{planned, may_have_effect}
use Rattle.job_table.specs.History.{LeadsStepwise, LeadsOn, entry_of_move}
use Rattle.desk.specs.declared.held.Stored.{Stored}
use Rattle.desk.specs.declared.view.SeatEntry.{SeatEntry}
use Rattle.job_table.specs.Kept.{KeptBy, said_in}
use Rattle.desk.specs.Kinds.{Moves}
use Rattle.desk.specs.Stores.{was_made, made_moves, says_disk, has_disk, after_entry, after_entries, listed, deeds_of, AnsweredSo, StoresSo, LeadsStored, ClosesStored}
use Rattle.desk.specs.History.{moves_in}
use Rattle.desk.proofs.Histories.{makes_split}

-- ---- replies

not_fitting : (move : TableMove) (f : NotStored) → fits move (replies.NotStored f) ≡ false
not_fitting asks.Issue f = refl
not_fitting (asks.Send n osil osol) f = refl
not_fitting (asks.Enter osil osol) f = refl
not_fitting (asks.Claim worker) f = refl
not_fitting (asks.Look n) f = refl
not_fitting (asks.Finish j asked document) f = refl
not_fitting (asks.Kill n) f = refl
not_fitting (asks.Retrieve n) f = refl
not_fitting asks.Knock f = refl
not_fitting asks.Enlist f = refl
not_fitting asks.Leave f = refl

-- a reply that fits is that of a move that was made
fitting_made : (move : TableMove) (reply : Reply) → fits move reply ≡ true → was_made reply ≡ true
fitting_made move (replies.Issued n) is = refl
fitting_made move replies.Full is = refl
fitting_made move replies.Spent is = refl
fitting_made move (replies.Sent taken) is = refl
fitting_made move (replies.Gave given) is = refl
fitting_made move (replies.Marked marked) is = refl
fitting_made move (replies.Finish end) is = refl
fitting_made move (replies.Killing told) is = refl
fitting_made move (replies.Retrieved shown) is = refl
fitting_made move (replies.Statistics told) is = refl
fitting_made move replies.Done is = refl
fitting_made move (replies.NotStored f) is = sym (not_fitting move f) ∙ is

-- a move that was made wasn't answered so
made_not : (reply : Reply) (f : NotStored) → was_made reply ≡ true → reply ≡ replies.NotStored f → ⊥
made_not reply f made is = let wrong : true ≡ false = sym made ∙ ap was_made is in cc

disk_not_made : (reply : Reply) → says_disk reply ≡ true → was_made reply ≡ false
disk_not_made (replies.NotStored f) is = refl
disk_not_made (replies.Issued n) is = sym is
disk_not_made replies.Full is = sym is
disk_not_made replies.Spent is = sym is
disk_not_made (replies.Sent taken) is = sym is
disk_not_made (replies.Gave given) is = sym is
disk_not_made (replies.Marked marked) is = sym is
disk_not_made (replies.Finish end) is = sym is
disk_not_made (replies.Killing told) is = sym is
disk_not_made (replies.Retrieved shown) is = sym is
disk_not_made (replies.Statistics told) is = sym is
disk_not_made replies.Done is = sym is

-- ---- counts that rise

rises_on : (a b c : ℕ) → HasRisen a b → (c ≡ b) ⊎ HasRisen b c → HasRisen a c
rises_on a b c risen (inl same) = subst (λ (k : ℕ). HasRisen a k) (sym same) risen
rises_on a b c (inl (more, most)) (inr (inl (more', most'))) = inl (omega (arith, more, more'), most')
rises_on a b c (inl (more, most)) (inr (inr (is, is'))) = inl (omega (arith, more, is, is'), omega (arith, is'))
rises_on a b c (inr (is, is')) (inr (inl (more, most))) = absurd (omega (arith, is', more, most))
rises_on a b c (inr (is, is')) (inr (inr (at, at'))) = inr (is, at')

same_bools : (a b : Bool) → ((a ≡ true) ↔ (b ≡ true)) → a ≡ b
same_bools true b both = sym (both.0 refl)
same_bools false true both = both.1 refl
same_bools false false both = refl

-- the reply says why an effect wasn't stored
abbrev fault_in : Reply → Option NotStored
fault_in (replies.NotStored f) = Some f
fault_in _ = None

some_fault : (f g : NotStored) → replies.NotStored f ≡ replies.NotStored g → Some f ≡ Some g
some_fault f g is = ap fault_in is

abbrev or_fault : NotStored → Option NotStored → NotStored
or_fault f None = f
or_fault f (Some g) = g

says_fault : (f g : NotStored) → Some f ≡ Some g → replies.NotStored f ≡ replies.NotStored g
says_fault f g is = ap (λ (o : Option NotStored). replies.NotStored (or_fault f o)) is

-- a refusal says Disk, or another fault
disk_of : (f : NotStored) → (Some f ≡ Some Disk) ↔ (says_disk (replies.NotStored f) ≡ true)
disk_of Disk = (λ _. refl, λ _. refl)
disk_of Broken = (λ wrong. absurd cc, λ wrong. absurd cc)
disk_of Long = (λ wrong. absurd cc, λ wrong. absurd cc)

-- the same answer by tests that say the same
tests_as : (due : Option Deed) (disk : Bool) (test test' : Deed → Bool) (reply : Reply) → ((d : Deed) → test d ≡ test' d) → AnsweredSo due disk test reply → AnsweredSo due disk test' reply
tests_as None disk test test' reply same a = a
tests_as (Some d) disk test test' reply same a = (a.0, (λ is. let l = a.1.0 is in (l.0, sym (same d) ∙ l.1), λ l. a.1.1 (l.0, same d ∙ l.1)))

answered_as : (due due' : Option Deed) (disk disk' : Bool) (test test' : Deed → Bool) (reply : Reply) → due ≡ due' → disk ≡ disk' → ((d : Deed) → test d ≡ test' d)
    → AnsweredSo due disk test reply → AnsweredSo due' disk' test' reply
answered_as due due' disk disk' test test' reply same same_disk same_test a =
    tests_as due' disk' test test' reply same_test (subst (λ (z : Option Deed × Bool). AnsweredSo z.0 z.1 test reply) (λ i. (same i, same_disk i)) a)

-- whether a move says Disk, by whether the count rose
says_by : (fault : Option NotStored) (says : Bool) (a b : ℕ) → ((b ≡ a) × (fault ≢ Some Disk)) ⊎ (HasRisen a b × (fault ≡ Some Disk)) → ((fault ≡ Some Disk) ↔ (says ≡ true))
    → ((b ≡ a) × (says ≡ false)) ⊎ (HasRisen a b × (says ≡ true))
says_by fault false a b (inl (same, other)) both = inl (same, refl)
says_by fault true a b (inl (same, other)) both = absurd (other (both.1 refl))
says_by fault says a b (inr (risen, is)) both = inr (risen, both.0 is)

abbrev stored_deeds : Option Deed → Option NotStored → List Deed
stored_deeds due None = listed due
stored_deeds due (Some f) = []

module _ {S : Type 0} (keeps : S → List Deed → Type 0) (passes : S → S → List Deed → Deed → Type 0) (too_long : S → List Deed → Deed → Bool) (broken : S → Bool) (faults : S → ℕ) where
  -- what one move does to the store, where these effects of it were stored
  record Turns (fault : Option NotStored) (done : List Deed) (old new : S) : Type 0 where
    kept : (deeds : List Deed) → keeps old deeds → keeps new (deeds ++ done)
    counts : CountsDisk fault (faults old) (faults new)
    breaks : (broken new ≡ true) ↔ ((broken old ≡ true) ⊎ (fault ≡ Some Disk))
    long : (more : List Deed) (d : Deed) → too_long new more d ≡ too_long old (done ++ more) d

  turns : (due : Option Deed) (fault : Option NotStored) (old new : S) → PutsIf keeps passes too_long broken faults due old fault new → Turns fault (stored_deeds due fault) old new
  turns None None old new (none, same) = record {
    kept = λ deeds k. subst (λ (z : S × List Deed). keeps z.0 z.1) (λ i. (sym same i, sym (append-nil deeds) i)) k;
    counts = ap faults same;
    breaks = (λ is. inl (sym (ap broken same) ∙ is), ⊎_elim (λ was. ap broken same ∙ was) (λ wrong. absurd cc));
    long = λ more d. ap (λ (s : S). too_long s more d) same;
  }
  turns None (Some f) old new (none, same) = absurd cc
  turns (Some d) None old new puts = record { kept = puts.stored; counts = puts.counts; breaks = puts.breaks; long = puts.longer }
  turns (Some d) (Some f) old new puts = record {
    kept = λ deeds k. subst (keeps new) (sym (append-nil deeds)) (puts.stays deeds k);
    counts = puts.counts;
    breaks = puts.breaks;
    long = puts.as_long;
  }

  answers_made : (due : Option Deed) (reply : Reply) (old new : S) → was_made reply ≡ true → PutsIf keeps passes too_long broken faults due old None new
      → AnsweredSo due (broken old) (too_long old []) reply
  answers_made None reply old new made puts = made
  answers_made (Some d) reply old new made puts = (
    (λ is. absurd (made_not reply Broken made is), λ was. let wrong = puts.when_broken.1 was in absurd cc),
    (λ is. absurd (made_not reply Long made is), λ was. let wrong = puts.when_long.1 was in absurd cc),
  )

  answers_refused : (due : Option Deed) (f : NotStored) (old new : S) → PutsIf keeps passes too_long broken faults due old (Some f) new
      → AnsweredSo due (broken old) (too_long old []) (replies.NotStored f)
  answers_refused None f old new (none, same) = absurd cc
  answers_refused (Some d) f old new puts = (
    (λ is. puts.when_broken.0 (some_fault f Broken is), λ was. says_fault f Broken (puts.when_broken.1 was)),
    (λ is. puts.when_long.0 (some_fault f Long is), λ was. says_fault f Long (puts.when_long.1 was)),
  )

  module _ (right : List ℕ → List ℕ → Bool → Option (List ℕ) → Type 0) where
    -- what one entry of a history does
    record Goes (e : SeatEntry) (old new : Register × S) : Type 0 where
      fault : Option NotStored
      table : new.0 ≡ after_entry old.0 e
      turn : Turns fault (cond (was_made e.reply) (listed (planned e.table_move old.0)) []) old.1 new.1
      disk : (fault ≡ Some Disk) ↔ (says_disk e.reply ≡ true)
      answered : AnsweredSo (planned e.table_move old.0) (broken old.1) (too_long old.1 []) e.reply

    goes : (e : SeatEntry) (old new : Register × S) → Moves right keeps passes too_long broken faults old e.table_move e.reply new → Goes e old new
    goes e old new (inl m) =
        let made = fitting_made e.table_move e.reply m.fitting in
        let due = planned e.table_move old.0 in record {
          fault = None;
          table = sym (ap (λ (o : MoveOutcome). o.after) m.step.is) ∙ ap (λ (b : Bool). cond b (row_of_move e.table_move old.0).after old.0) (sym made);
          turn = subst (λ (b : Bool). Turns None (cond b (listed due) []) old.1 new.1) (sym made) (turns due None old.1 new.1 m.puts);
          disk = (λ wrong. absurd cc, λ is. let wrong : true ≡ false = sym made ∙ disk_not_made e.reply is in absurd cc);
          answered = answers_made due e.reply old.1 new.1 made m.puts;
        }
    goes e old new (inr r) =
        let due = planned e.table_move old.0 in
        let refused : was_made e.reply ≡ false = ap was_made r.says in record {
          fault = Some r.fault;
          table = r.stays ∙ ap (λ (b : Bool). cond b (row_of_move e.table_move old.0).after old.0) (sym refused);
          turn = subst (λ (b : Bool). Turns (Some r.fault) (cond b (listed due) []) old.1 new.1) (sym refused) (turns due (Some r.fault) old.1 new.1 r.puts);
          disk = subst (λ (said : Reply). (Some r.fault ≡ Some Disk) ↔ (says_disk said ≡ true)) (sym r.says) (disk_of r.fault);
          answered = subst (λ (said : Reply). AnsweredSo due (broken old.1) (too_long old.1 []) said) (sym r.says) (answers_refused due r.fault old.1 new.1 r.puts);
        }

    counted : (fault : Option NotStored) (a b : ℕ) → CountsDisk fault a b → ((b ≡ a) × (fault ≢ Some Disk)) ⊎ (HasRisen a b × (fault ≡ Some Disk))
    counted None a b c = inl (c, λ is. cc)
    counted (Some Disk) a b c = inr (c, refl)
    counted (Some Broken) a b c = inl (c, λ is. cc)
    counted (Some Long) a b c = inl (c, λ is. cc)

    -- what a history does
    record Led (first : Register) (start : S) (log : List SeatEntry) (table : Register) (store : S) : Type 0 where
      table_is : table ≡ after_entries first log
      kept : (deeds : List Deed) → keeps start deeds → keeps store (deeds ++ deeds_of first log)
      counts : ((faults store ≡ faults start) × (has_disk log ≡ false)) ⊎ (HasRisen (faults start) (faults store) × (has_disk log ≡ true))
      breaks : (broken store ≡ true) ↔ ((broken start ≡ true) ⊎ (has_disk log ≡ true))
      long : (more : List Deed) (d : Deed) → too_long store more d ≡ too_long start (deeds_of first log ++ more) d

    counts_then : (a b c : ℕ) (x y : Bool) → ((b ≡ a) × (x ≡ false)) ⊎ (HasRisen a b × (x ≡ true)) → ((c ≡ b) × (y ≡ false)) ⊎ (HasRisen b c × (y ≡ true))
        → ((c ≡ a) × ((x || y) ≡ false)) ⊎ (HasRisen a c × ((x || y) ≡ true))
    counts_then a b c x y (inl (same, none)) (inl (same', none')) = inl (same' ∙ same, ap (λ (t : Bool). t || y) none ∙ none')
    counts_then a b c x y (inl (same, none)) (inr (risen, some)) = inr (subst (λ (k : ℕ). HasRisen k c) same risen, ap (λ (t : Bool). t || y) none ∙ some)
    counts_then a b c x y (inr (risen, some)) (inl (same, none)) = inr (rises_on a b c risen (inl same), ap (λ (t : Bool). t || y) some)
    counts_then a b c x y (inr (risen, some)) (inr (risen', some')) = inr (rises_on a b c risen (inr risen'), ap (λ (t : Bool). t || y) some)

    either_true : (x y : Bool) → (x || y) ≡ true → (x ≡ true) ⊎ (y ≡ true)
    either_true true y is = inl refl
    either_true false y is = inr is

    true_either : (x y : Bool) → (x ≡ true) ⊎ (y ≡ true) → (x || y) ≡ true
    true_either true y is = refl
    true_either false true is = refl
    true_either false false (inl is) = is
    true_either false false (inr is) = is

    says_so : (fault : Option NotStored) (says : Bool) (a b : ℕ) → ((fault ≡ Some Disk) ↔ (says ≡ true)) → CountsDisk fault a b
        → ((b ≡ a) × (says ≡ false)) ⊎ (HasRisen a b × (says ≡ true))
    says_so fault says a b both c = says_by fault says a b (counted fault a b c) both

    led : (log : List SeatEntry) (start held : Register × S) → LeadsStored right keeps passes too_long broken faults start log held
        → Led start.0 start.1 log held.0 held.1
    led [] start held same = record {
      table_is = ap (λ (h : Register × S). h.0) same;
      kept = λ deeds k. subst (λ (z : S × List Deed). keeps z.0 z.1) (λ i. ((sym same i).1, sym (append-nil deeds) i)) k;
      counts = inl (ap (λ (h : Register × S). faults h.1) same, refl);
      breaks = (λ is. inl (sym (ap (λ (h : Register × S). broken h.1) same) ∙ is), ⊎_elim (λ was. ap (λ (h : Register × S). broken h.1) same ∙ was) (λ wrong. absurd cc));
      long = λ more d. ap (λ (h : Register × S). too_long h.1 more d) same;
    }
    led (e ∷ es) start held (next, moved, rest) =
        let g = goes e start next moved in
        let t = g.turn in
        let done : List Deed = cond (was_made e.reply) (listed (planned e.table_move start.0)) [] in
        let l = subst (λ (r : Register). Led r next.1 es held.0 held.1) g.table (led es next held rest) in
        let later : List Deed = deeds_of (after_entry start.0 e) es in record {
          table_is = l.table_is;
          kept = λ deeds k. subst (keeps held.1) (append_assoc deeds done later) (l.kept (deeds ++ done) (t.kept deeds k));
          counts = counts_then _ _ _ (says_disk e.reply) (has_disk es) (says_so g.fault (says_disk e.reply) _ _ g.disk t.counts) l.counts;
          breaks = (
            λ is. ⊎_elim
                (λ mid. ⊎_elim (λ was. inl was) (λ f. inr (true_either (says_disk e.reply) (has_disk es) (inl (g.disk.0 f)))) (t.breaks.0 mid))
                (λ some. inr (true_either (says_disk e.reply) (has_disk es) (inr some)))
                (l.breaks.0 is),
            ⊎_elim
                (λ was. l.breaks.1 (inl (t.breaks.1 (inl was))))
                (λ some. ⊎_elim (λ says. l.breaks.1 (inl (t.breaks.1 (inr (g.disk.1 says))))) (λ later. l.breaks.1 (inr later)) (either_true (says_disk e.reply) (has_disk es) some)),
          );
          long = λ more d. l.long more d ∙ t.long (later ++ more) d ∙ ap (λ (x : List Deed). too_long start.1 x d) (sym (append_assoc done later more));
        }

    -- each move is answered as the effects before it say
    answered_each : (log : List SeatEntry) (start held : Register × S) → broken start.1 ≡ false → LeadsStored right keeps passes too_long broken faults start log held
        → (before : List SeatEntry) (e : SeatEntry) (behind : List SeatEntry) → log ≡ before ++ e ∷ behind
        → AnsweredSo (planned e.table_move (after_entries start.0 before)) (has_disk before) (too_long start.1 (deeds_of start.0 before)) e.reply
    answered_each log start held sound leads before e behind is =
        let (mid, first, last) = makes_split (Moves right keeps passes too_long broken faults) start held before (e ∷ behind)
        (subst (λ (es : List SeatEntry). LeadsStored right keeps passes too_long broken faults start es held) is leads) in
        let l = led before start mid first in
        let g = goes e mid last.0 last.1 in
        let same : broken mid.1 ≡ has_disk before = same_bools (broken mid.1) (has_disk before)
        (λ b. ⊎_elim (λ was. let wrong : false ≡ true = sym sound ∙ was in absurd cc) (λ some. some) (l.breaks.0 b), λ some. l.breaks.1 (inr some)) in
        let tests : (d : Deed) → too_long mid.1 [] d ≡ too_long start.1 (deeds_of start.0 before) d = λ d.
        l.long [] d ∙ ap (λ (x : List Deed). too_long start.1 x d) (append-nil (deeds_of start.0 before)) in
        answered_as (planned e.table_move mid.0) (planned e.table_move (after_entries start.0 before)) (broken mid.1) (has_disk before) (too_long mid.1 []) (too_long start.1 (deeds_of start.0 before)) e.reply
        (ap (λ (r : Register). planned e.table_move r) l.table_is) same tests g.answered

    pub stores_so : (log : List SeatEntry) (start held : Register × S) → LeadsStored right keeps passes too_long broken faults start log held → broken start.1 ≡ false
        → StoresSo keeps too_long faults start.0 start.1 log held.1
    stores_so log start held leads sound =
        let l = led log start held leads in record {
          kept = l.kept;
          risen = λ some. ⊎_elim (λ (z : (faults held.1 ≡ faults start.1) × (has_disk log ≡ false)). let wrong : false ≡ true = sym z.1 ∙ some in absurd cc) (λ z. z.0) l.counts;
          still = λ none. ⊎_elim (λ z. z.0) (λ (z : HasRisen (faults start.1) (faults held.1) × (has_disk log ≡ true)). let wrong : true ≡ false = sym z.1 ∙ none in absurd cc) l.counts;
          each = answered_each log start held sound leads;
        }

-- the moves that were made lead from table to table
module _ {S : Type 0} (right : List ℕ → List ℕ → Bool → Option (List ℕ) → Type 0) (keeps : S → List Deed → Type 0) (passes : S → S → List Deed → Deed → Type 0) (too_long : S → List Deed → Deed → Bool) (broken : S → Bool) (faults : S → ℕ) where
  -- and all moves, of which those that weren't made leave it
  pub all_lead : (log : List SeatEntry) (start held : Register × S) → LeadsStored right keeps passes too_long broken faults start log held → LeadsOn right start.0 (moves_in log) held.0
  all_lead [] start held same = ap (λ (h : Register × S). h.0) same
  all_lead (e ∷ es) start held (next, inl m, rest) = (next.0, inl m.step, all_lead es next held rest)
  all_lead (e ∷ es) start held (next, inr r, rest) = (next.0, inr (r.fault, r.says, r.may, r.stays), all_lead es next held rest)

  pub made_lead : (log : List SeatEntry) (start held : Register × S) → LeadsStored right keeps passes too_long broken faults start log held
      → LeadsStepwise right start.0 (made_moves log) held.0
  made_lead [] start held same = ap (λ (h : Register × S). h.0) same
  made_lead (e ∷ es) start held (next, inl m, rest) =
      subst (λ (b : Bool). LeadsStepwise right start.0 (cond b (entry_of_move e.table_move e.reply ∷ made_moves es) (made_moves es)) held.0) (sym (fitting_made e.table_move e.reply m.fitting))
      (next.0, m.step, made_lead es next held rest)
  made_lead (e ∷ es) start held (next, inr r, rest) =
      subst (λ (b : Bool). LeadsStepwise right start.0 (cond b (entry_of_move e.table_move e.reply ∷ made_moves es) (made_moves es)) held.0) (sym (ap was_made r.says))
      (subst (λ (t : Register). LeadsStepwise right t (made_moves es) held.0) r.stays (made_lead es next held rest))

  -- a desk at which nobody made a move
  pub closes_nothing : (first : Register) (start : S) → ClosesStored right keeps passes too_long broken faults first start [] first start
  closes_nothing first start = record {
    leads = refl;
    moves = refl;
    made = refl;
    stores = λ sound. stores_so keeps passes too_long broken faults right [] (first, start) (first, start) refl sound;
  }

-- what a move that is made behind the put of its effect makes of a table and its store
module _ {A S : Type 0} (right : List ℕ → List ℕ → Bool → Option (List ℕ) → Type 0) (keeps : S → List Deed → Type 0) (passes : S → S → List Deed → Deed → Type 0) (too_long : S → List Deed → Deed → Bool) (broken : S → Bool) (faults : S → ℕ)
    (said : A → Option Reply) (move : TableMove) where
  moves_by : (o : Option Reply) (old new : Register × S) → IfSome o (λ reply. Step right old.0 move reply new.0) → IfSome o (λ reply. fits move reply ≡ true)
      → KeptBy keeps passes too_long broken faults (planned move old.0) old.1 o new.1 → IfSome o (λ reply. Moves right keeps passes too_long broken faults old move reply new)
  moves_by None old new stp fit kept = tt
  moves_by (Some reply) old new stp fit kept = inl record { fitting = fit; step = stp; puts = kept }

  pub moves_of : May right move → (res : Result A NotStored) (old new : Register × S) → IfOk res (λ answer. IfSome (said answer) (λ reply. Step right old.0 move reply new.0))
      → IfOk res (λ answer. IfSome (said answer) (λ reply. fits move reply ≡ true))
      → IfOk res (λ answer. KeptBy keeps passes too_long broken faults (planned move old.0) old.1 (said answer) new.1)
      → IfErr res (λ fault. (new.0 ≡ old.0) × PutsIf keeps passes too_long broken faults (planned move old.0) old.1 (Some fault) new.1)
      → IfSome (said_in said res) (λ reply. Moves right keeps passes too_long broken faults old move reply new)
  moves_of may (Ok answer) old new stp fit kept refused = moves_by (said answer) old new stp fit kept
  moves_of may (Err fault) old new stp fit kept refused = inr record { fault = fault; says = refl; may = may; stays = refused.0; puts = refused.1 }

  both_stay : {J : Type 0} (o : Option Reply) (due : Option Deed) (old new : Stored J S) → IfNone o (new.table ≡ old.table) → KeptBy keeps passes too_long broken faults due old.store o new.store
      → IfNone o (new ≡ old)
  both_stay None due old new table store = λ i. record { table = table i; store = store i }
  both_stay (Some reply) due old new table store = tt

  pub stays_of : {J : Type 0} (res : Result A NotStored) (due : Option Deed) (old new : Stored J S) → IfOk res (λ answer. IfNone (said answer) (new.table ≡ old.table))
      → IfOk res (λ answer. KeptBy keeps passes too_long broken faults due old.store (said answer) new.store) → IfNone (said_in said res) (new ≡ old)
  stays_of (Ok answer) due old new table store = both_stay (said answer) due old new table store
  stays_of (Err fault) due old new table store = tt

  pub lacks_of : (res : Result A NotStored) (P : Type 0) → IfOk res (λ answer. IfNone (said answer) P) → IfNone (said_in said res) P
  lacks_of (Ok answer) P p = p
  lacks_of (Err fault) P p = tt

-- it may refuse
pub may_refuse : {A : Type 0} (res : Result A NotStored) → IfErr res (λ _. Unit {0})
may_refuse (Ok answer) = tt
may_refuse (Err fault) = tt

-- where a move may have no effect, it has none
no_effect : (move : TableMove) (r : Register) → may_have_effect move ≡ false → planned move r ≡ None
no_effect asks.Issue r none = absurd cc
no_effect (asks.Send n osil osol) r none = absurd cc
no_effect (asks.Enter osil osol) r none = absurd cc
no_effect (asks.Claim worker) r none = refl
no_effect (asks.Look n) r none = refl
no_effect (asks.Finish j asked document) r none = absurd cc
no_effect (asks.Kill n) r none = absurd cc
no_effect (asks.Retrieve n) r none = refl
no_effect asks.Knock r none = refl
no_effect asks.Enlist r none = refl
no_effect asks.Leave r none = refl

module _ {S : Type 0} (keeps : S → List Deed → Type 0) (passes : S → S → List Deed → Deed → Type 0) (too_long : S → List Deed → Deed → Bool) (broken : S → Bool) (faults : S → ℕ) where
  -- only a move that may have one is refused
  refused_may : (move : TableMove) (r : Register) (old new : S) (f : NotStored) (may : Bool) → may_have_effect move ≡ may → PutsIf keeps passes too_long broken faults (planned move r) old (Some f) new → may ≡ true
  refused_may move r old new f true is puts = refl
  refused_may move r old new f false is puts =
      let none = subst (λ (due : Option Deed). PutsIf keeps passes too_long broken faults due old (Some f) new) (no_effect move r is) puts in
      let wrong : Some f ≡ None = none.0 in absurd cc

  pub has_effect : {A : Type 0} (res : Result A NotStored) (move : TableMove) (r r' : Register) (old new : S)
      → IfErr res (λ fault. (r' ≡ r) × PutsIf keeps passes too_long broken faults (planned move r) old (Some fault) new) → IfErr res (λ _. may_have_effect move ≡ true)
  has_effect (Ok answer) move r r' old new refused = tt
  has_effect (Err fault) move r r' old new refused = refused_may move r old new fault (may_have_effect move) refl refused.1
