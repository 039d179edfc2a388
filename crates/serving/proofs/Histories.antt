-- What a desk's history is behind the serving of links.
use mathlib.Core.Option.{some, some-injective, some-ne-none}
use lib.ListN.{get_elem?}
use Rattle.std.proofs.Common.{◌≡◌, ◌≢◌, ℕ, zero, suc, ◌+◌, eqb, eq-eqb, eqb-true, Bool, true, false, length, List, [], ◌∷◌, ◌++◌, map, Option, None, Some, Result, refl, sym, ◌∙◌, ap, subst, inl, inr, ⊎_elim, arith}
use Rattle.std.specs.Prelude.{◌⊎◌, All, IsPermutation}
use Rattle.std.proofs.lemmas.List.Elements.{All-nil, All-cons, All-append, All-head, All-tail, All-weaker}
use Rattle.std.proofs.lemmas.List.Sorted.{IsPermutation-refl, IsPermutation-sym, IsPermutation-map, IsPermutation-append_left, All-permutation}
use Rattle.os_io.specs.Streams.{Tells}
use Rattle.os_io.specs.Links.{NetTells, SameLinks}
use Rattle.job_table.specs.declared.entries.TableMove.TheVariants.{Retrieve}
use Rattle.job_table.specs.declared.entries.Retrieved.TheVariants as shown
use Rattle.job_table.specs.declared.entries.Reply.TheVariants as reply
use Rattle.job_table.specs.Jobs.{Register, Rises, beginning, waiting_jobs}
use Rattle.job_table.specs.History.{MoveEntry as Said, entry_of_move, LeadsOn, MovesOn, on_stepwise}
use Rattle.job_table.specs.Laws.{FirstFinishIsKept, NumbersAreGivenOnce}
use Rattle.job_runs.specs.Laws.{IsFinishKept, AreKeptIfStored}
use Rattle.job_runs.proofs.Histories.{kept_stepwise}
use Rattle.desk.specs.declared.view.SeatEntry.{SeatEntry}
use Rattle.desk.specs.declared.view.Met.{Met}
use Rattle.desk.specs.declared.view.View.{View}
use Rattle.desk.specs.History.{LeadsTo, moves_in, entries_by, by}
use Rattle.desk.specs.Rule.{first_view, HasMet}
use Rattle.desk.specs.SeatMoves.{Closes, ClosesBy}
use Rattle.desk.specs.SeatHistory.{Asked, AskedBy}
use Rattle.desk.proofs.Histories.{starts_grown}
use Rattle.desk.proofs.WholeHistory.{moves_by_one, moves_then, whole_history}
use Rattle.job_table.proofs.Histories.{chains_split}
use Rattle.workers.specs.Shifts.{WorksThrough}
use Rattle.workers.specs.Bells.{Untold}
use Rattle.workers.proofs.Shifts.{shift_leaves_none}
use Rattle.server_threads.proofs.Rounds.{came_none, back_none}
use Rattle.server_threads.specs.declared.means.ServeFault.{ServeFault}
use Rattle.server_threads.specs.Talks.{LinkTalk, Shift, talk_met, shift_met, Came, GivenBack, AllTalked, IsShift, AllWorked}
use Rattle.server_threads.specs.Serving as threads
use Rattle.server_threads.specs.Serving.{Opens, AtOnce}
use Rattle.solve_run.specs.JobAnswers.{Right}
use Rattle.job_solver.specs.Runs.{MakesDocument}
use Rattle.job_solver.specs.ProvedDocuments.{ShownAreProved}
use Rattle.os_server.proofs.Pieces.{talk_so}
use Rattle.serving.specs.declared.setup.Setup.{Setup}
use Rattle.serving.specs.Serving.{Converses, movers, IsShared, IsHistory, HostsBy, given_in}
use Rattle.serving.proofs.Hands.{IsOrderly}
use Rattle.serving.proofs.Finishes.{kept_beside}
use Rattle.serving.proofs.Order.{IsNeat, neat, shift_neat}
use Rattle.serving.proofs.NumberCounts.{all_counted}

false_is_not : false ≡ true → ⊥
false_is_not e = cc

-- ---- lists, place by place

module _ {A : Type 0} (P : A → Type 0) where
  all_by_place : (xs : List A) → ((i : ℕ) (x : A) → get_elem? xs i ≡ some x → P x) → All P xs
  all_by_place [] at = All-nil P
  all_by_place (x ∷ xs) at = All-cons P x xs (at zero x refl) (all_by_place xs (λ i y there. at (suc i) y there))

  place_of_all : (xs : List A) → All P xs → (i : ℕ) (x : A) → get_elem? xs i ≡ some x → P x
  place_of_all [] all i x there = absurd (some-ne-none x (sym there))
  place_of_all (y ∷ ys) all zero x there = subst P (some-injective y x there) (All-head P y ys all)
  place_of_all (y ∷ ys) all (suc i) x there = place_of_all ys (All-tail P y ys all) i x there

-- the one with that number, or none has it
module _ (P Q : Met → Type 0) (n : ℕ) where
  abbrev Sits : List Met → Type 0
  Sits ms = ((m : Met) × P m × Q m × (m.seat ≡ n)) ⊎ All (λ m. m.seat ≢ n) ms

  sits_more : (m : Met) (ms : List Met) (is : Bool) → eqb m.seat n ≡ is → P m → Q m → Sits ms → Sits (m ∷ ms)
  sits_more m ms true same p q rest = inl (m, p, q, eqb-true m.seat n same)
  sits_more m ms false other p q (inl found) = inl found
  sits_more m ms false other p q (inr none) = inr (All-cons (λ m. m.seat ≢ n) m ms (λ same. false_is_not (sym other ∙ eq-eqb m.seat n same)) none)

  sits : (ms : List Met) → All P ms → All Q ms → Sits ms
  sits [] p q = inr (All-nil (λ m. m.seat ≢ n))
  sits (m ∷ ms) p q = sits_more m ms (eqb m.seat n) refl (All-head P m ms p) (All-head Q m ms q) (sits ms (All-tail P m ms p) (All-tail Q m ms q))

-- ---- the moves of each are orderly

abbrev IsOrderlyMet : Met → Type 0
IsOrderlyMet m = IsOrderly None (moves_in m.entries)

neat_met : (n : ℕ) (said : List Said) → IsNeat said → IsOrderly None (moves_in (by n said))
neat_met n said is = subst (λ (es : List Said). IsOrderly None es) (sym (moves_by_one n said)) is.0

conversation_neat : (came back : Tells) (said : List Said) (short : Bool) → Converses Untold came said back short → IsNeat said
conversation_neat came back said short (end, s, is) = subst IsNeat s.moves (talk_so MakesDocument IsNeat (neat MakesDocument) Untold end _ s.part s.talk)

shift_so : (said : List Said) → IsShift MakesDocument said → IsNeat said
shift_so said (inl none) = subst IsNeat (sym none) (tt, refl)
shift_so said (inr works) = shift_neat MakesDocument said works

talks_orderly : (n : ℕ) (links : List LinkTalk) → AllTalked (Converses Untold) n links → All IsOrderlyMet (map talk_met links)
talks_orderly n [] all = All-nil IsOrderlyMet
talks_orderly n (t ∷ ts) all =
    All-cons IsOrderlyMet (talk_met t) (map talk_met ts) (neat_met t.seat t.said (conversation_neat t.came t.back t.said t.short all.1)) (talks_orderly (n + 1) ts all.2)

shifts_orderly : (n : ℕ) (staff : List Shift) → AllWorked MakesDocument n staff → All IsOrderlyMet (map shift_met staff)
shifts_orderly n [] all = All-nil IsOrderlyMet
shifts_orderly n (s ∷ ss) all =
    All-cons IsOrderlyMet (shift_met s) (map shift_met ss) (neat_met s.seat s.said (shift_so s.said all.1)) (shifts_orderly (n + 1) ss all.2)

-- ---- one mover more, behind the first ones

module _ {A : Type 0} (P : A → Type 0) (x : A) where
  all_with : (xs ys : List A) → P x → All P (xs ++ ys) → All P (xs ++ x ∷ ys)
  all_with [] ys p all = All-cons P x ys p all
  all_with (y ∷ xs) ys p all = All-cons P y (xs ++ x ∷ ys) (All-head P y (xs ++ ys) all) (all_with xs ys p (All-tail P y (xs ++ ys) all))

  all_without : (xs ys : List A) → All P (xs ++ x ∷ ys) → P x × All P (xs ++ ys)
  all_without [] ys all = (All-head P x ys all, All-tail P x ys all)
  all_without (y ∷ xs) ys all =
      let (p, rest) = all_without xs ys (All-tail P y (xs ++ x ∷ ys) all) in
      (p, All-cons P y (xs ++ ys) (All-head P y (xs ++ x ∷ ys) all) rest)

-- ---- the history

-- what the desk's first seat knows, and what the listener tells
abbrev pub stood : View → NetTells → threads.Stand
stood v net = record { view = v; coming = net.coming; given_back = net.given_back; reached = net.reached }

-- what came behind other moves still does in a longer history
at_once_grown : (servers : ℕ) (log more : List SeatEntry) (links : List LinkTalk) → AtOnce servers log links → AtOnce servers (log ++ more) links
at_once_grown servers log more links =
    All-weaker (λ t. (seen : List SeatEntry) × Opens servers log links t.seat seen) (λ t. (seen : List SeatEntry) × Opens servers (log ++ more) links t.seat seen)
    (λ t is. (is.0, record { out = is.1.out; few = is.1.few; begins = starts_grown log is.0 more is.1.begins; none = is.1.none; earlier = is.1.earlier })) links

-- what lies behind the closing shift: no job waits
pub none_waits_behind : (start table : Register) (seen log : List SeatEntry) (own : List Said) → log ≡ seen ++ by 0 own → WorksThrough MakesDocument own → LeadsOn Right start (moves_in log) table → waiting_jobs table.jobs ≡ 0
none_waits_behind start table seen log own whole works leads =
    let all : moves_in log ≡ moves_in seen ++ own = ap moves_in whole ∙ moves_then seen 0 own in
    let (mid, earlier, shift) = chains_split (MovesOn Right) start table (moves_in seen) own (subst (λ (es : List Said). LeadsOn Right start es table) all leads) in
    shift_leaves_none MakesDocument Right mid table own works shift

module _ (kept : FirstFinishIsKept Right) (numbers : NumbersAreGivenOnce Right) where
  -- each finish in a history that links and workers share is kept, where it is stored
  pub shared_kept : (start : Register) → Rises start → (servers : ℕ) (links : List LinkTalk) (staff : List Shift) (closer : Shift) (log : List SeatEntry) (table : Register) → LeadsOn Right start (moves_in log) table
      → IsShared servers links staff closer log → AreKeptIfStored (moves_in log)
  shared_kept start rises servers links staff closer log table leads h =
      let found : (n : ℕ) → Sits (λ m. entries_by m.seat log ≡ m.entries) IsOrderlyMet n (movers links (closer ∷ staff)) → IsOrderly None (moves_in (entries_by n log)) =
      λ n sat. ⊎_elim (λ m. subst (λ (k : ℕ). IsOrderly None (moves_in (entries_by k log))) m.3 (subst (λ (es : List SeatEntry). IsOrderly None (moves_in es)) (sym m.1) m.2))
      (λ none. subst (λ (es : List SeatEntry). IsOrderly None (moves_in es)) (sym (h.no_others n none)) tt) sat in
      let orderly = All-append IsOrderlyMet (map talk_met links) (map shift_met (closer ∷ staff)) (talks_orderly (1 + length staff) links h.talked)
      (shifts_orderly 0 (closer ∷ staff) h.worked) in
      kept_beside Right numbers kept start rises log table leads
      (λ n. found n (sits (λ m. entries_by m.seat log ≡ m.entries) IsOrderlyMet n (movers links (closer ∷ staff)) h.made orderly))

-- links that were served by moves of a new desk, whose first seat worked off what waited then and closed it: what its history makes, and what the movers made of it, says what holds of it
module _ (History : List LinkTalk → List Shift → Shift → List SeatEntry → Type 0) (E : List LinkTalk → List SeatEntry → Type 0) (setup : Setup) (old new : NetTells) {is_legal makes : List SeatEntry → Type 0}
    (story : (links : List LinkTalk) (staff : List Shift) (own : List Said) (seen log : List SeatEntry) → makes log → log ≡ seen ++ by 0 own → WorksThrough MakesDocument own
    → IsShared setup.limits.servers links staff (record { seat = 0; said = own }) log → History links staff (record { seat = 0; said = own }) log) where
  pub hosts_of : (v w last : View) (links : List LinkTalk) (own : List Said)
      → (s : threads.ServesLinks MakesDocument (Converses Untold) setup.limits.servers setup.limits.workers (stood v old) (stood w new) links) → v ≡ first_view → entries_by w.number w.seen ≡ w.mine
      → HasMet w.seen w.met → (asked : AskedBy is_legal w last own) → WorksThrough MakesDocument own → (c : ClosesBy makes last) → E links c.log
      → HostsBy History E setup old new
  hosts_of v w last links own s fresh stand known asked works c ends =
      let closer : Shift = record { seat = 0; said = own } in
      let talks = map talk_met links in
      let shifts = map shift_met s.shifts in
      let back = movers s.returned s.shifts in
      let same : IsPermutation back (talks ++ shifts) =
      IsPermutation-append_left shifts (map talk_met s.returned) talks (IsPermutation-map talk_met s.returned links (IsPermutation-sym links s.returned s.all_back)) in
      let number : w.number ≡ 0 = s.number ∙ ap (λ (x : View). x.number) fresh in
      let met : last.met ≡ back = asked.stays.met ∙ s.met ∙ ap (λ (x : View). x.met ++ back) fresh in
      let given : v.given ≡ 1 = ap (λ (x : View). x.given) fresh in
      let before : w.mine ≡ [] = s.mine ∙ ap (λ (x : View). x.mine) fresh in
      let mine : entries_by 0 c.log ≡ by 0 own = c.mine ∙ asked.mine ∙ ap (λ (es : List SeatEntry). es ++ by w.number own) before ∙ ap (λ (n : ℕ). by n own) number in
      let whole : c.log ≡ w.seen ++ by 0 own = whole_history w last own asked number stand known c in
      record {
        links = links;
        returned = s.returned;
        staff = s.shifts;
        closer = closer;
        log = c.log;
        all_back = s.all_back;
        few = s.staff;
        came = s.came;
        back = s.back;
        history = story links s.shifts own w.seen c.log c.leads whole works record {
          worked = (refl, inr works, subst (λ (n : ℕ). AllWorked MakesDocument n s.shifts) given s.worked);
          talked = subst (λ (n : ℕ). AllTalked (Converses Untold) (n + length s.shifts) links) given s.all_talked;
          made = all_with (λ m. entries_by m.seat c.log ≡ m.entries) (shift_met closer) talks shifts mine
              (All-permutation (λ m. entries_by m.seat c.log ≡ m.entries) back (talks ++ shifts) same
              (subst (λ (ms : List Met). All (λ m. entries_by m.seat c.log ≡ m.entries) ms) met (all_by_place (λ m. entries_by m.seat c.log ≡ m.entries) last.met c.met)));
          no_others = λ n none. let (other, rest) = all_without (λ m. m.seat ≢ n) (shift_met closer) talks shifts none in
              c.no_others n (λ is. other (sym is)) (place_of_all (λ m. m.seat ≢ n) last.met (subst (λ (ms : List Met). All (λ m. m.seat ≢ n) ms) (sym met)
              (All-permutation (λ m. m.seat ≢ n) (talks ++ shifts) back (IsPermutation-sym back (talks ++ shifts) same) rest)));
          closes = inr (record { others = w.seen; worked = works; none = subst (λ (n : ℕ). entries_by n w.seen ≡ []) number (stand ∙ before); last = whole });
          at_once = subst (λ (es : List SeatEntry). AtOnce setup.limits.servers es links) (sym whole) (at_once_grown setup.limits.servers w.seen (by 0 own) links s.at_once);
        };
        ends = ends;
      }

-- of a desk of a table alone
module _ (kept : FirstFinishIsKept Right) (numbers : NumbersAreGivenOnce Right) (shown_proved : ShownAreProved) where
  plain_story : (first servers : ℕ) (table : Register) → table.first ≡ first → (links : List LinkTalk) (staff : List Shift) (own : List Said) (seen log : List SeatEntry) → LeadsTo Right log table
      → log ≡ seen ++ by 0 own → WorksThrough MakesDocument own → IsShared servers links staff (record { seat = 0; said = own }) log → IsHistory first servers links staff (record { seat = 0; said = own }) log
  plain_story first servers table begins links staff own seen log leads whole works shared =
      let start = beginning table.first in
      let runs = on_stepwise Right start table (moves_in log) leads in record {
        table = table;
        begins = begins;
        runs = leads;
        shared = shared;
        kept = kept_stepwise Right start table (moves_in log) leads (shared_kept kept numbers start (omega arith) servers links staff (record { seat = 0; said = own }) log table runs shared);
        proved = shown_proved (moves_in log) table leads;
        none_waits = none_waits_behind start table seen log own whole works runs;
      }

  -- the same of what serving answered, and of how many numbers the table gave that was closed
  pub hosted : (setup : Setup) (given : ℕ) (served : Result ℕ ServeFault) (old new : NetTells) (v w last : View) (own : List Said) (table : Register)
      → (o : (links : List LinkTalk) × threads.ServesLinks MakesDocument (Converses Untold) setup.limits.servers setup.limits.workers (stood v old) (stood w new) links × threads.EndsServing served setup.limits.connections links old.faults new.faults) → v ≡ first_view → entries_by w.number w.seen ≡ w.mine
      → HasMet w.seen w.met → Asked Right w last own → WorksThrough MakesDocument own → table.first ≡ setup.first → Closes Right last table → given ≡ table.issued
      → HostsBy (λ links staff closer log. IsHistory setup.first setup.limits.servers links staff closer log)
      (λ links log. (given ≡ given_in log) × threads.EndsServing served setup.limits.connections links old.faults new.faults) setup old new
  hosted setup given served old new v w last own table o fresh stand known asked works begins c is =
      hosts_of (λ links staff closer log. IsHistory setup.first setup.limits.servers links staff closer log)
      (λ links log. (given ≡ given_in log) × threads.EndsServing served setup.limits.connections links old.faults new.faults) setup old new
      (plain_story setup.first setup.limits.servers table begins) v w last o.0 own o.1
      fresh stand known asked works c (is ∙ all_counted Right table (moves_in c.log) c.leads, o.2)

-- ---- where no link came

pub not_nil : (before after : List Said) (e : Said) → [] ≡ before ++ e ∷ after → ⊥
not_nil [] after e is = cc
not_nil (x ∷ before) after e is = cc

pub no_closer : Shift
no_closer = record { seat = 0; said = [] }

-- nobody made a move
pub none_shared : (servers : ℕ) → IsShared servers [] [] no_closer []
unfolding no_closer
none_shared servers = record {
  worked = (refl, inl refl, tt);
  talked = tt;
  made = All-cons (λ m. entries_by m.seat [] ≡ m.entries) (shift_met no_closer) [] refl (All-nil (λ m. entries_by m.seat [] ≡ m.entries));
  no_others = λ n none. refl;
  closes = inl refl;
  at_once = All-nil (λ t. (seen : List SeatEntry) × Opens servers [] [] t.seat seen);
}

pub no_history : (first servers : ℕ) → IsHistory first servers [] [] no_closer []
no_history first servers = record {
  table = beginning first;
  begins = refl;
  runs = refl;
  shared = none_shared servers;
  kept = All-nil IsFinishKept;
  proved = λ n document before after are. absurd (not_nil before after (entry_of_move (Retrieve n) (reply.Retrieved (shown.Finished (Some document)))) are);
  none_waits = refl;
}

-- nothing came and nothing was given back
pub hosts_none : (History : List LinkTalk → List Shift → Shift → List SeatEntry → Type 0) → History [] [] no_closer [] → (E : List LinkTalk → List SeatEntry → Type 0) (setup : Setup) (old new : NetTells)
    → SameLinks old new → E [] [] → HostsBy History E setup old new
hosts_none History nothing E setup old new same ends = record {
  links = [];
  returned = [];
  staff = [];
  closer = no_closer;
  log = [];
  all_back = IsPermutation-refl [];
  few = omega arith;
  came = subst (λ (l : Option (List Tells)). Came old.coming l []) (sym same.coming) (came_none old.coming);
  back = subst (λ (l : Option (List Tells)). GivenBack old.given_back l []) (sym same.given_back) (back_none old.given_back);
  history = nothing;
  ends = ends;
}

-- what else holds of the links and the history may be said otherwise, and the listener may have told the same links before
pub hosts_so : (History : List LinkTalk → List Shift → Shift → List SeatEntry → Type 0) (E F : List LinkTalk → List SeatEntry → Type 0) (setup : Setup) (first old new : NetTells) → SameLinks first old
    → ((links : List LinkTalk) (log : List SeatEntry) → E links log → F links log) → HostsBy History E setup old new → HostsBy History F setup first new
hosts_so History E F setup first old new same so h = record {
  links = h.links;
  returned = h.returned;
  staff = h.staff;
  closer = h.closer;
  log = h.log;
  all_back = h.all_back;
  few = h.few;
  came = subst (λ (l : Option (List Tells)). Came l new.coming (map (λ t. t.came) h.links)) same.coming h.came;
  back = subst (λ (l : Option (List Tells)). GivenBack l new.given_back (map (λ t. t.back) h.returned)) same.given_back h.back;
  history = h.history;
  ends = so h.links h.log h.ends;
}
