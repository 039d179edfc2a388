-- The finishes of many movers, each of whom finishes only the job that it has in hand, are kept, where they are stored.
use Rattle.std.proofs.Common.{◌≡◌, ◌≢◌, ℕ, eqb, eq-eqb, eqb-true, ne_eqb, cond, Bool, true, false, List, [], ◌∷◌, ◌++◌, Option, Some, None, refl, sym, ◌∙◌, ap, subst, inl, inr}
use Rattle.std.proofs.lemmas.List.Elements.{All-nil, All-cons}
use Rattle.job_table.specs.declared.job.Job.{Job}
use Rattle.job_table.specs.declared.entries.TableMove.{TableMove}
use Rattle.job_table.specs.declared.entries.TableMove.TheVariants.{Enter, Claim, Look, Finish}
use Rattle.job_table.specs.declared.entries.Reply as replies
use Rattle.job_table.specs.declared.entries.Reply.TheVariants as reply
use Rattle.job_table.specs.Jobs.{Register, Rises}
use Rattle.job_table.specs.Steps.{Step}
use Rattle.job_table.specs.History.{MoveEntry as Said, entry_of_move, LeadsOn, MovesOn, chains_then, NoFinish, is_finish_of, IsGiving, WasTold}
use Rattle.job_table.specs.Laws.{WasGiven, FirstFinishIsKept, NumbersAreGivenOnce}
use Rattle.job_runs.specs.Laws.{IsKeptIfStored, AreKeptIfStored}
use Rattle.job_runs.proofs.Judgements.{Judgement}
use Rattle.job_runs.proofs.Histories.{ends_so, gave_made}
use Rattle.desk.specs.declared.view.SeatEntry.{SeatEntry}
use Rattle.desk.specs.History.{moves_in, entries_by}
use Rattle.serving.proofs.Hands.{Hand, after_gave, after_look, then_in_hand, Allows, IsOrderly}

false_is_not : false ≡ true → ⊥
false_is_not e = cc

none_is_not_some : (h : Hand) → None ≡ Some h → ⊥
none_is_not_some h e = cc

-- the number of the job in hand, and 0 where there is none
abbrev number_in : Option Hand → ℕ
number_in None = 0
number_in (Some h) = h.job.number

-- ---- one more move

no_finish_more : (n : ℕ) (es : List Said) (e : Said) → NoFinish n es → is_finish_of n e.table_move ≡ false → NoFinish n (es ++ e ∷ [])
no_finish_more n [] e none other = (other, tt)
no_finish_more n (x ∷ xs) e none other = (none.0, no_finish_more n xs e none.1 other)

told_more : (n : ℕ) (es more : List Said) → WasTold n es → WasTold n (es ++ more)
told_more n [] more told = absurd told
told_more n (x ∷ xs) more (inl here) = inl here
told_more n (x ∷ xs) more (inr later) = inr (told_more n xs more later)

told_now : (n : ℕ) (es : List Said) → WasTold n (es ++ entry_of_move (Look n) (reply.Marked true) ∷ [])
told_now n [] = inl refl
told_now n (x ∷ xs) = inr (told_now n xs)

module _ (right : Judgement) where
  -- the job in hand was given, and no finish of it stands since; where a look said that it is to stop, that look stands there
  record Holds (now : Register) (h : Hand) : Type 0 where
    before : List Said
    entries : List Said
    given : WasGiven right h.job before entries now
    unfinished : NoFinish h.job.number entries
    told : h.told ≡ true → WasTold h.job.number entries

  abbrev HoldsAny : Register → Option Hand → Type 0
  HoldsAny now None = Unit {0}
  HoldsAny now (Some h) = Holds now h

  given_more : (j : Job) (before entries : List Said) (now next : Register) (e : Said) → WasGiven right j before entries now → MovesOn right now e.table_move e.reply next
      → WasGiven right j before (entries ++ e ∷ []) next
  given_more j before entries now next e g step = record {
    start = g.start;
    rises = g.rises;
    old = g.old;
    new = g.new;
    table_move = g.table_move;
    runs = g.runs;
    giving = g.giving;
    gave = g.gave;
    rest = chains_then (MovesOn right) g.new now next entries (e ∷ []) g.rest (next, step, refl);
  }

  holds_more : (now next : Register) (h : Hand) (move : TableMove) (said : replies.Reply) → Holds now h → MovesOn right now move said next → is_finish_of h.job.number move ≡ false → Holds next h
  holds_more now next h move said holds step other = record {
    before = holds.before;
    entries = holds.entries ++ entry_of_move move said ∷ [];
    given = given_more h.job holds.before holds.entries now next (entry_of_move move said) holds.given step;
    unfinished = no_finish_more h.job.number holds.entries (entry_of_move move said) holds.unfinished other;
    told = λ told. told_more h.job.number holds.entries (entry_of_move move said ∷ []) (holds.told told);
  }

  module _ (start : Register) (rises : Rises start) (before : List Said) (now next : Register) (first : LeadsOn right start before now) where
    gave_holds : (move : TableMove) (said : replies.Reply) (h : Option Hand) → IsGiving move → ((n : ℕ) → is_finish_of n move ≡ false) → HoldsAny now h → MovesOn right now move said next
        → HoldsAny next (after_gave said h)
    gave_holds move (reply.Gave (Some j)) h giving other holds step = record {
      before = before;
      entries = [];
      given = record { start = start; rises = rises; old = now; new = next; table_move = move; runs = first; giving = giving; gave = gave_made right move j now next step; rest = refl };
      unfinished = tt;
      told = λ told. absurd (false_is_not told);
    }
    gave_holds move said None giving other holds step = tt
    gave_holds move said (Some h) giving other holds step = holds_more now next h move said holds step (other h.job.number)

    look_holds : (n : ℕ) (said : replies.Reply) (h : Option Hand) → Allows h (Look n) → HoldsAny now h → MovesOn right now (Look n) said next → HoldsAny next (after_look said h)
    look_holds n (reply.Marked true) (Some h) is holds step =
        let said : Said = entry_of_move (Look n) (reply.Marked true) in record {
          before = holds.before;
          entries = holds.entries ++ said ∷ [];
          given = given_more h.job holds.before holds.entries now next said holds.given step;
          unfinished = no_finish_more h.job.number holds.entries said holds.unfinished refl;
          told = λ told. subst (λ (m : ℕ). WasTold h.job.number (holds.entries ++ entry_of_move (Look m) (reply.Marked true) ∷ [])) (sym is) (told_now h.job.number holds.entries);
        }
    look_holds n said None is holds step = absurd is
    look_holds n said (Some h) is holds step = holds_more now next h (Look n) said holds step refl

    -- who makes a move holds then what it has in hand
    move_holds : (move : TableMove) (said : replies.Reply) (h : Option Hand) → Allows h move → HoldsAny now h → MovesOn right now move said next → HoldsAny next (then_in_hand move said h)
    move_holds (Enter o p) said h is holds step = gave_holds (Enter o p) said h tt (λ n. refl) holds step
    move_holds (Claim w) said h is holds step = gave_holds (Claim w) said h tt (λ n. refl) holds step
    move_holds (Look n) said h is holds step = look_holds n said h is holds step
    move_holds (Finish j asked document) said h is holds step = tt
    move_holds move said None is holds step = tt
    move_holds move said (Some h) is holds step = holds_more now next h move said holds step refl

    module _ (law : FirstFinishIsKept right) where
      finish_kept : (move : TableMove) (said : replies.Reply) (h : Option Hand) → Allows h move → HoldsAny now h → MovesOn right now move said next → IsKeptIfStored (entry_of_move move said)
      finish_kept (Finish j asked document) said None is holds step = absurd is
      finish_kept (Finish j asked document) said (Some h) is holds step = ends_so right j asked document said now next step
          (λ made. law h.job holds.before holds.entries now next asked document said holds.given holds.unfinished (λ was. holds.told (is.1 was))
          (subst (λ (i : Job). Step right now (Finish i asked document) said next) is.0 made))
      finish_kept move said h is holds step = inl refl

  -- a move of another finishes another job
  finishes_another : (move : TableMove) (mine : Option Hand) (h : Hand) → Allows mine move → ((i : Hand) → mine ≡ Some i → h.job.number ≢ i.job.number) → is_finish_of h.job.number move ≡ false
  finishes_another (Finish j asked document) None h is apart = absurd is
  finishes_another (Finish j asked document) (Some i) h is apart = ne_eqb h.job.number j.number (λ same. apart i refl (same ∙ ap (λ (k : Job). k.number) is.0))
  finishes_another move mine h is apart = refl

  module _ (numbers : NumbersAreGivenOnce right) where
    -- what is in hand after a move is another job than that of someone else
    gave_another : (now next : Register) (move : TableMove) (said : replies.Reply) (mine : Option Hand) (h i : Hand) → IsGiving move → after_gave said mine ≡ Some h → Holds now i → MovesOn right now move said next
        → ((k : Hand) → mine ≡ Some k → k.job.number ≢ i.job.number) → h.job.number ≢ i.job.number
    gave_another now next move (reply.Gave (Some j)) mine h i giving is holds step apart = λ same.
        false_is_not (sym (numbers i.job j holds.before holds.entries now next move holds.given giving (gave_made right move j now next step))
        ∙ eq-eqb i.job.number j.number (sym (ap number_in is ∙ same)))
    gave_another now next move said mine h i giving is holds step apart = apart h is

    move_another : (now next : Register) (move : TableMove) (said : replies.Reply) (mine : Option Hand) (h i : Hand) → then_in_hand move said mine ≡ Some h → Holds now i → MovesOn right now move said next
        → ((k : Hand) → mine ≡ Some k → k.job.number ≢ i.job.number) → h.job.number ≢ i.job.number
    move_another now next (Enter o p) said mine h i is holds step apart = gave_another now next (Enter o p) said mine h i tt is holds step apart
    move_another now next (Claim w) said mine h i is holds step apart = gave_another now next (Claim w) said mine h i tt is holds step apart
    move_another now next (Look n) (reply.Marked true) (Some k) h i is holds step apart = subst (λ (m : ℕ). m ≢ i.job.number) (ap number_in is) (apart k refl)
    move_another now next (Look n) said mine h i is holds step apart = apart h is
    move_another now next (Finish j asked document) said mine h i is holds step apart = absurd (none_is_not_some h is)
    move_another now next move said mine h i is holds step apart = apart h is

    -- what is in everybody's hands after a move
    hands_after : SeatEntry → (ℕ → Option Hand) → ℕ → Option Hand
    hands_after e hands k = cond (eqb e.seat k) (then_in_hand e.table_move e.reply (hands e.seat)) (hands k)

    abbrev Apart : (ℕ → Option Hand) → Type 0
    Apart hands = (k m : ℕ) (h i : Hand) → k ≢ m → hands k ≡ Some h → hands m ≡ Some i → h.job.number ≢ i.job.number

    -- everybody holds what is in hand, which are different jobs
    record AllHold (now : Register) (hands : ℕ → Option Hand) : Type 0 where
      holds : (k : ℕ) → HoldsAny now (hands k)
      apart : Apart hands

    module _ (start : Register) (rises : Rises start) (e : SeatEntry) (hands : ℕ → Option Hand) (before : List Said) (now next : Register) (first : LeadsOn right start before now) (all : AllHold now hands)
        (is : Allows (hands e.seat) e.table_move) (step : MovesOn right now e.table_move e.reply next) where
      -- of another one's hand
      other_holds : (k : ℕ) → e.seat ≢ k → (h : Option Hand) → hands k ≡ h → HoldsAny now h → HoldsAny next h
      other_holds k other None at holds = tt
      other_holds k other (Some h) at holds = holds_more now next h e.table_move e.reply holds step
          (finishes_another e.table_move (hands e.seat) h is (λ i mine. all.apart k e.seat h i (λ same. other (sym same)) at mine))

      every_holds : (k : ℕ) (own : Bool) → eqb e.seat k ≡ own → HoldsAny next (cond own (then_in_hand e.table_move e.reply (hands e.seat)) (hands k))
      every_holds k true same = move_holds start rises before now next first e.table_move e.reply (hands e.seat) is (all.holds e.seat) step
      every_holds k false other = other_holds k (λ same. false_is_not (sym other ∙ eq-eqb e.seat k same)) (hands k) refl (all.holds k)

      mine_apart : (m : ℕ) (h i : Hand) → e.seat ≢ m → then_in_hand e.table_move e.reply (hands e.seat) ≡ Some h → hands m ≡ Some i → h.job.number ≢ i.job.number
      mine_apart m h i other mine at = move_another now next e.table_move e.reply (hands e.seat) h i mine (subst (λ (o : Option Hand). HoldsAny now o) at (all.holds m)) step
          (λ k held. all.apart e.seat m k i other held at)

      every_apart : (k m : ℕ) (h i : Hand) (own owns : Bool) → eqb e.seat k ≡ own → eqb e.seat m ≡ owns → k ≢ m
          → cond own (then_in_hand e.table_move e.reply (hands e.seat)) (hands k) ≡ Some h → cond owns (then_in_hand e.table_move e.reply (hands e.seat)) (hands m) ≡ Some i → h.job.number ≢ i.job.number
      every_apart k m h i true true p q other at at' = absurd (other (sym (eqb-true e.seat k p) ∙ eqb-true e.seat m q))
      every_apart k m h i true false p q other at at' = mine_apart m h i (λ same. false_is_not (sym q ∙ eq-eqb e.seat m same)) at at'
      every_apart k m h i false true p q other at at' = λ same. mine_apart k i h (λ same'. false_is_not (sym p ∙ eq-eqb e.seat k same')) at' at (sym same)
      every_apart k m h i false false p q other at at' = all.apart k m h i other at at'

      all_hold_after : AllHold next (hands_after e hands)
      unfolding hands_after
      all_hold_after = record {
        holds = λ k. every_holds k (eqb e.seat k) refl;
        apart = λ k m h i other at at'. every_apart k m h i (eqb e.seat k) (eqb e.seat m) refl refl other at at';
      }

    -- what is still to come of somebody's moves
    head_allowed : (h : Option Hand) (e : SeatEntry) (es : List SeatEntry) (own : Bool) → own ≡ true → IsOrderly h (moves_in (cond own (e ∷ es) es)) → Allows h e.table_move
    head_allowed h e es true own is = is.0
    head_allowed h e es false own is = absurd (false_is_not own)

    tail_orderly : (e : SeatEntry) (hands : ℕ → Option Hand) (k : ℕ) (es : List SeatEntry) (own : Bool) → eqb e.seat k ≡ own → IsOrderly (hands k) (moves_in (cond own (e ∷ es) es))
        → IsOrderly (cond own (then_in_hand e.table_move e.reply (hands e.seat)) (hands k)) (moves_in es)
    tail_orderly e hands k es true same is =
        subst (λ (m : ℕ). IsOrderly (then_in_hand e.table_move e.reply (hands m)) (moves_in es)) (sym (eqb-true e.seat k same)) is.1
    tail_orderly e hands k es false other is = is

    module _ (law : FirstFinishIsKept right) where
      rest_kept : (start : Register) → Rises start → (log : List SeatEntry) (hands : ℕ → Option Hand) (before : List Said) (now table : Register) → LeadsOn right start before now
          → LeadsOn right now (moves_in log) table → AllHold now hands → ((k : ℕ) → IsOrderly (hands k) (moves_in (entries_by k log))) → AreKeptIfStored (moves_in log)
      unfolding hands_after
      rest_kept start rises [] hands before now table first runs all orderly = All-nil IsKeptIfStored
      rest_kept start rises (e ∷ log) hands before now table first (next, step, runs) all orderly =
          let said : Said = entry_of_move e.table_move e.reply in
          let is : Allows (hands e.seat) e.table_move = head_allowed (hands e.seat) e (entries_by e.seat log) (eqb e.seat e.seat) (eq-eqb e.seat e.seat refl) (orderly e.seat) in
          All-cons IsKeptIfStored said (moves_in log) (finish_kept start rises before now next first law e.table_move e.reply (hands e.seat) is (all.holds e.seat) step)
          (rest_kept start rises log (hands_after e hands) (before ++ said ∷ []) next table (chains_then (MovesOn right) start now next before (said ∷ []) first (next, step, refl)) runs
          (all_hold_after start rises e hands before now next first all is step)
          (λ k. tail_orderly e hands k (entries_by k log) (eqb e.seat k) refl (orderly k)))

      -- every finish in a history of orderly movers
      pub kept_beside : (start : Register) → Rises start → (log : List SeatEntry) (table : Register) → LeadsOn right start (moves_in log) table → ((k : ℕ) → IsOrderly None (moves_in (entries_by k log)))
          → AreKeptIfStored (moves_in log)
      kept_beside start rises log table leads orderly = rest_kept start rises log (λ k. None) [] start table refl leads
          (record { holds = λ k. tt; apart = λ k m h i other at at'. absurd (none_is_not_some h at) }) orderly
