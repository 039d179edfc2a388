-- The moves of a conversation and those of a shift are orderly, and leave nothing in hand.
use Rattle.std.proofs.Common.{◌≡◌, Bool, true, false, List, [], ◌∷◌, ◌++◌, Option, Some, None, refl, sym, ◌∙◌, ap, subst}
use Rattle.effects.specs.declared.store.NotStored.{NotStored}
use Rattle.job_table.specs.declared.job.Job.{Job}
use Rattle.job_table.specs.declared.entries.TableMove.{TableMove}
use Rattle.job_table.specs.declared.entries.TableMove.TheVariants.{Enter, Claim, Look, Finish, Enlist, Leave}
use Rattle.job_table.specs.declared.entries.Reply as replies
use Rattle.job_table.specs.declared.entries.Reply.TheVariants as reply
use Rattle.job_table.specs.History.{MoveEntry, entry_of_move, IsGiving}
use Rattle.job_table.specs.Looks.{looks}
use Rattle.job_runs.specs.Runs.{stop_if, IsJobRun, end_reply}
use Rattle.workers.specs.Shifts.{WorkOff, WorksThrough}
use Rattle.job_runs.proofs.Judgements.{Made}
use Rattle.os_server.proofs.Pieces.{is_plain, Builds, works_so}
use Rattle.serving.proofs.Hands.{Hand, hand, after_gave, then_in_hand, IsOrderly, in_hand_after}

false_is_not : false ≡ true → ⊥
false_is_not e = cc

-- moves are orderly from empty hands to empty hands
abbrev pub IsNeat : List MoveEntry → Type 0
IsNeat es = IsOrderly None es × (in_hand_after None es ≡ None)

orderly_then : (h : Option Hand) (a b : List MoveEntry) → IsOrderly h a → IsOrderly (in_hand_after h a) b → IsOrderly h (a ++ b)
orderly_then h [] b p q = q
orderly_then h (e ∷ a) b p q = (p.0, orderly_then (then_in_hand e.table_move e.reply h) a b p.1 q)

in_hand_then : (h : Option Hand) (a b : List MoveEntry) → in_hand_after h (a ++ b) ≡ in_hand_after (in_hand_after h a) b
in_hand_then h [] b = refl
in_hand_then h (e ∷ a) b = in_hand_then (then_in_hand e.table_move e.reply h) a b

neat_then : (a b : List MoveEntry) → IsNeat a → IsNeat b → IsNeat (a ++ b)
neat_then a b p q = (
  orderly_then None a b p.0 (subst (λ (h : Option Hand). IsOrderly h b) (sym p.1) q.0),
  in_hand_then None a b ∙ ap (λ (h : Option Hand). in_hand_after h b) p.1 ∙ q.1,
)

gave_none : (move : TableMove) (said : replies.Reply) → is_plain (Claim true) said ≡ true → after_gave said None ≡ None
gave_none move (reply.Gave (Some j)) plain = absurd (false_is_not plain)
gave_none move said plain = refl

plain_neat : (move : TableMove) (said : replies.Reply) → is_plain move said ≡ true → IsNeat (entry_of_move move said ∷ [])
plain_neat (Enter o p) said plain = ((tt, tt), gave_none (Enter o p) said plain)
plain_neat (Claim worker) said plain = ((tt, tt), gave_none (Claim worker) said plain)
plain_neat (Look n) said plain = absurd (false_is_not plain)
plain_neat (Finish j asked document) said plain = absurd (false_is_not plain)
plain_neat move said plain = ((tt, tt), refl)

-- ---- a run

-- whether a look said to stop, of these answers or before
abbrev told_after : Bool → List Bool → Bool
told_after told [] = told
told_after told (true ∷ answers) = told_after true answers
told_after told (false ∷ answers) = told_after told answers

told_last : (told : Bool) (before : List Bool) → told_after told (before ++ true ∷ []) ≡ true
told_last told [] = refl
told_last told (true ∷ before) = told_last true before
told_last told (false ∷ before) = told_last told before

told_if : (asked : Bool) (before : List Bool) → asked ≡ true → told_after false (before ++ stop_if asked) ≡ true
told_if true before is = told_last false before
told_if false before is = absurd (false_is_not is)

looks_orderly : (j : Job) (told : Bool) (answers : List Bool) → IsOrderly (Some (hand j told)) (looks j.number answers)
looks_orderly j told [] = tt
looks_orderly j told (true ∷ answers) = (refl, looks_orderly j true answers)
looks_orderly j told (false ∷ answers) = (refl, looks_orderly j told answers)

looks_leave : (j : Job) (told : Bool) (answers : List Bool) → in_hand_after (Some (hand j told)) (looks j.number answers) ≡ Some (hand j (told_after told answers))
looks_leave j told [] = refl
looks_leave j told (true ∷ answers) = looks_leave j true answers
looks_leave j told (false ∷ answers) = looks_leave j told answers

module _ (made : Made) where
  -- the run of the job in hand
  run_orderly : (j : Job) (fault : Option NotStored) (run : List MoveEntry) → IsJobRun made j fault run → IsOrderly (Some (hand j false)) run × (in_hand_after (Some (hand j false)) run ≡ None)
  run_orderly j fault run r =
      let finish : MoveEntry = entry_of_move (Finish j r.asked r.document) (end_reply fault r.end) in
      let told : r.asked ≡ true → told_after false r.answers ≡ true =
      λ asked. ap (λ (l : List Bool). told_after false l) r.looked.are ∙ told_if r.asked r.looked.before asked in
      let left = looks_leave j false r.answers in
      let ends : IsOrderly (in_hand_after (Some (hand j false)) (looks j.number r.answers)) (finish ∷ []) =
      subst (λ (h : Option Hand). IsOrderly h (finish ∷ [])) (sym left) ((refl, told), tt) in
      subst (λ (es : List MoveEntry). IsOrderly (Some (hand j false)) es × (in_hand_after (Some (hand j false)) es ≡ None)) (sym r.are)
      (orderly_then (Some (hand j false)) (looks j.number r.answers) (finish ∷ []) (looks_orderly j false r.answers) ends, in_hand_then (Some (hand j false)) (looks j.number r.answers) (finish ∷ []))

  given_neat : (j : Job) (move : TableMove) (fault : Option NotStored) (run : List MoveEntry) → IsGiving move → IsJobRun made j fault run → IsNeat (entry_of_move move (reply.Gave (Some j)) ∷ run)
  given_neat j (Enter o p) fault run giving is = let r = run_orderly j fault run is in ((tt, r.0), r.1)
  given_neat j (Claim worker) fault run giving is = let r = run_orderly j fault run is in ((tt, r.0), r.1)
  given_neat j move fault run giving is = absurd giving

  pub neat : Builds made IsNeat
  neat = record { none = (tt, refl); both = neat_then; plain = plain_neat; given = given_neat }

  -- ---- a shift

  work_off_neat : (given : List (Option Job)) (es : List MoveEntry) → WorkOff made given es → IsNeat es
  work_off_neat [] es none = subst IsNeat (sym none) (tt, refl)
  work_off_neat (g ∷ later) es (own, rest, worked, off, are) =
      subst IsNeat (sym are) (neat_then own rest (works_so made IsNeat neat true g own worked) (work_off_neat later rest off))

  -- of all moves of a worker
  pub shift_neat : (es : List MoveEntry) → WorksThrough made es → IsNeat es
  shift_neat es w =
      let r = w.rests in
      let claim : MoveEntry = entry_of_move (Claim true) (reply.Gave None) in
      let rested : IsNeat w.shift = subst IsNeat (sym r.are) (neat_then r.before (claim ∷ []) (work_off_neat r.given r.before r.worked) (plain_neat (Claim true) (reply.Gave None) refl)) in
      subst IsNeat (sym w.are) (neat_then (entry_of_move Enlist reply.Done ∷ []) (w.shift ++ entry_of_move Leave reply.Done ∷ []) (plain_neat Enlist reply.Done refl)
      (neat_then w.shift (entry_of_move Leave reply.Done ∷ []) rested (plain_neat Leave reply.Done refl)))
