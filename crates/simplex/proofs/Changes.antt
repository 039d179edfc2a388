-- Changes of a run's state, one behind the other.
use Rattle.std.proofs.Common.{◌≡◌, ℕ, ◌+◌, ◌<◌, ◌≤◌, Bool, Option, None, Some, IfSome, List, [], ◌++◌, arith, refl, sym, ◌∙◌, subst}
use Rattle.fraction.specs.declared.frac.Frac.{Frac}
use Rattle.evidence.specs.Instance.{Instance}
use Rattle.bases.specs.Dictionary.{Entries, Values}
use Rattle.bases.specs.Program.{rows_with_goal}
use Rattle.simplex_rules.specs.declared.columns.Status.{Status}
use Rattle.simplex_rules.specs.Ends.{Terms, Clock}
use Rattle.simplex_rules.specs.Looks.{went_on, answers, AgreesWith, looks_after}
use Rattle.simplex_rules.specs.Runs.{Moment, ComesInRun, IsNext, goes_on}
use Rattle.dictionary.specs.declared.dict.Dict.{Dict}
use Rattle.dictionary.specs.Dict.{Holds, HaveOneSize, place_values}
use Rattle.simplex.specs.declared.answer.Turns.{Turns}
use Rattle.simplex.specs.declared.ends.Ends.{Ends}
use Rattle.simplex.specs.declared.finish.Finish.{Finish}
use Rattle.simplex.specs.declared.finish.Finish.TheVariants as Has
use Rattle.simplex.specs.declared.work.Work.{Work}
use Rattle.simplex.specs.Memory.{statuses_in, entries_in, point_in}
use Rattle.simplex.specs.Cuts.{AreEndsOf, ranges_in}
use Rattle.simplex.specs.Tables.{AreHeld, values_in}
use Rattle.simplex.specs.Values.{AreResting, AreKnown}
use Rattle.simplex.specs.Finishes.{next_at, stops_at, CountsTurn, KeepsBasis, KeepsAt, IsLeft, IsLeftAt}
use Rattle.simplex.specs.States.{IsUnderWay, IsOf, ComesThrough, HasCounted, Changes}
use Rattle.simplex.proofs.Looks.{answers_more, after_less, tells_less, after_more}

-- a turn is counted, and none where the run finishes
pub turn_counted : (a b : Turns) (r : Option Finish) → b.most ≡ a.most → CountsTurn a b r → HasCounted a b
turn_counted a b None m (x, y) = record { most = m; more = omega arith; within = λ h. omega arith }
turn_counted a b (Some f) m (x, y) = record { most = m; more = x; within = y }

-- from a moment to the next one, or to the end
pub goes_through : (I : Instance) (zeroed : Bool) (t : Terms) (c d : Clock) (m : Moment) (ss : List Status) (u : Entries) (w : Values) (r : Option Finish) → IfSome r (λ f. KeepsBasis f (m.statuses ≡ ss)) → IsNext I zeroed t m (next_at I ss u w d r) → ComesInRun I zeroed t c m → ComesThrough I zeroed t c ss u w d r
goes_through I zeroed t c d m ss u w None stays next here = goes_on here next
goes_through I zeroed t c d m ss u w (Some f) stays next here = record { last = m; comes = here; ends = next; basis = stays }

-- the same moments, with statuses and values that are stored otherwise
pub next_same : (I : Instance) (zeroed : Bool) (t : Terms) (c d : Clock) (u : Entries) (r : Option Finish) (ss ss' zs zs' : List Status) (vs vs' : List Frac) → ss ≡ ss' → zs ≡ zs' → vs ≡ vs' → IsNext I zeroed t (record { statuses = ss; clock = c }) (next_at I zs u (values_in vs) d r) → IsNext I zeroed t (record { statuses = ss'; clock = c }) (next_at I zs' u (values_in vs') d r)
next_same I zeroed t c d u r ss ss' zs zs' vs vs' p q v next =
    subst (λ (xs : List Frac). IsNext I zeroed t (record { statuses = ss'; clock = c }) (next_at I zs' u (values_in xs) d r)) v
    (subst (λ (xs : List Status). IsNext I zeroed t (record { statuses = ss'; clock = c }) (next_at I xs u (values_in vs) d r)) q
    (subst (λ (xs : List Status). IsNext I zeroed t (record { statuses = xs; clock = c }) (next_at I zs u (values_in vs) d r)) p next))

keeps_map : (r : Option Finish) (P Q : Type 0) → (P → Q) → KeepsAt r P → KeepsAt r Q
keeps_map None P Q f p = f p
keeps_map (Some (Has.Empty m)) P Q f p = f p
keeps_map (Some (Has.Best b)) P Q f p = f p
keeps_map (Some (Has.Endless m)) P Q f p = f p
keeps_map (Some Has.TurnLimit) P Q f p = tt
keeps_map (Some (Has.Wide s)) P Q f p = tt
keeps_map (Some Has.Stopped) P Q f p = tt

-- what the run stands at is what a finish leaves
pub some_left : {L : _} {G : _} (d : Dict L G) (ss zs : List Status) (r : Option Finish) → ss ≡ zs → IsLeftAt d ss r → IfSome r (λ f. IsLeft d zs f)
some_left d ss zs None e h = tt
some_left d ss zs (Some f) e h = subst (λ (xs : List Status). IsLeft d xs f) e h

-- the state, by lists that are stored elsewhere
pub under_way : {L : _} {G : _} (s : Work L G) (es : List Ends) (ss : List Status) (vs : List Frac) → es ≡ s.ends.items → ss ≡ statuses_in s → vs ≡ s.values.items → AreHeld s.dict ss → AreResting (ranges_in es) ss (place_values s.rest) → AreKnown s.dict s.rest ss vs s.unknown → IsUnderWay s
under_way s es ss vs e p v held resting known = record {
  held = subst (λ (xs : List Status). AreHeld s.dict xs) p held;
  resting =
      subst (λ (xs : List Ends). AreResting (ranges_in xs) (statuses_in s) (place_values s.rest)) e
      (subst (λ (xs : List Status). AreResting (ranges_in es) xs (place_values s.rest)) p resting);
  known =
      subst (λ (xs : List Frac). AreKnown s.dict s.rest (statuses_in s) xs s.unknown) v
      (subst (λ (xs : List Status). AreKnown s.dict s.rest xs vs s.unknown) p known);
}

module _ {L : _} {G : _} {start : Option Frac} where
  -- one turn, or the end
  pub turned : {Came : List Bool → Type 0} (s u : Work L G) (a b : Turns) (r : Option Finish) → HaveOneSize s.dict u.dict → HasCounted a b → u.ends.items ≡ s.ends.items → ((A : Entries) → Holds A s.dict → KeepsAt r (Holds A u.dict)) → IfSome r (λ f. KeepsBasis f (statuses_in s ≡ statuses_in u)) → ((n : ℕ) × Came (answers n (stops_at r)) × ((I : Instance) (zeroed : Bool) (t : Terms) (l : ℕ) → IsOf I zeroed start s → t.turns ≡ a.most → AgreesWith t.stop l n (stops_at r) → IsNext I zeroed t (record { statuses = statuses_in s; clock = record { turns = a.done; looks = l } }) (next_at I (statuses_in u) (entries_in u) (point_in u) (record { turns = b.done; looks = looks_after l n (stops_at r) }) r))) → Changes start Came s u a b r
  turned s u a b r size turns ends holds stays (n, came, next) = record {
    size = size;
    turns = turns;
    of = λ I zeroed is. keeps_map r (Holds (rows_with_goal zeroed I) u.dict) (IsOf I zeroed start u)
        (λ rows. record { ends = subst (λ (xs : List Ends). AreEndsOf I xs) (sym ends) is.ends; size = record { width = size.width ∙ is.size.width; height = size.height ∙ is.size.height }; begun = is.begun; rows = rows })
        (holds (rows_with_goal zeroed I) is.rows);
    looks = n;
    came = came;
    carries = λ I zeroed t c l is most tells here.
        let d : Clock = record { turns = b.done; looks = looks_after l n (stops_at r) } in
        goes_through I zeroed t c d (record { statuses = statuses_in s; clock = record { turns = a.done; looks = l } }) (statuses_in u) (entries_in u) (point_in u) r stays (next I zeroed t l is most tells) here;
  }

  -- without a turn
  pub unchanged : {Came : List Bool → Type 0} (s : Work L G) (a : Turns) → Came [] → Changes start Came s s a a None
  unchanged s a stays = record {
    size = record { width = refl; height = refl };
    turns = record { most = refl; more = omega arith; within = λ h. h };
    of = λ I zeroed is. is;
    looks = 0;
    came = stays;
    carries = λ I zeroed t c l is most tells here.
        let k : l ≡ l + 0 = omega arith in
        subst (λ j. ComesInRun I zeroed t c (record { statuses = statuses_in s; clock = record { turns = a.done; looks = j } })) k here;
  }

  pub joined : {First Second Both : List Bool → Type 0} {s u v : Work L G} {a b d : Turns} {r : Option Finish} → Changes start First s u a b None → Changes start Second u v b d r → ((xs ys : List Bool) → First xs → Second ys → Both (xs ++ ys)) → Changes start Both s v a d r
  joined {First} {Second} {Both} {s} {u} {v} {a} {b} {d} {r} first second join = record {
    size = record { width = second.size.width ∙ first.size.width; height = second.size.height ∙ first.size.height };
    turns = record {
      most = second.turns.most ∙ first.turns.most;
      more = let x = first.turns.more in let y = second.turns.more in omega arith;
      within = λ h. let x = first.turns.within h in let y = first.turns.most in let z = second.turns.within (omega arith) in omega arith;
    };
    of = λ I zeroed is. second.of I zeroed (first.of I zeroed is);
    looks = first.looks + second.looks;
    came = subst Both (answers_more first.looks second.looks (stops_at r)) (join (went_on first.looks) (answers second.looks (stops_at r)) first.came second.came);
    carries = λ I zeroed t c l is most tells here.
        let on = first.carries I zeroed t c l is most (after_less l first.looks second.looks (stops_at r) t.stop tells) here in
        subst (λ j. ComesThrough I zeroed t c (statuses_in v) (entries_in v) (point_in v) (record { turns = d.done; looks = j }) r) (after_more l first.looks second.looks (stops_at r))
        (second.carries I zeroed t c (l + first.looks) (first.of I zeroed is) (most ∙ sym first.turns.most) (tells_less l first.looks second.looks (stops_at r) t.stop tells) on);
  }
