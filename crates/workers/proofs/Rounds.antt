-- Rounds of a worker, one after another.
use Rattle.std.proofs.Common.{◌≡◌, Bool, true, false, List, [], ◌∷◌, ◌++◌, Option, Some, None, refl, sym, ap, ◌∙◌, subst, append_assoc, append-nil, IsTrue, ◌↔◌, IsSome}
use Rattle.job_table.specs.declared.job.Job.{Job}
use Rattle.job_table.specs.declared.entries.TableMove.TheVariants.{Claim, Enlist, Leave}
use Rattle.job_table.specs.declared.entries.Reply.TheVariants as reply
use Rattle.job_table.specs.History.{MoveEntry, entry_of_move}
use Rattle.job_runs.specs.Runs.{Works}
use Rattle.job_runs.proofs.Judgements.{Made, Joins}
use Rattle.workers.specs.Shifts.{WorkOff, WorksUntilNone, WorksThrough}

false_is_not : false ≡ true → ⊥
false_is_not e = cc

some_is_not_none : (j : Job) → Some j ≡ None → ⊥
some_is_not_none j e = cc

-- a round that found nothing had a claim that gave none
pub none_given : (worked : Bool) (given : Option Job) → worked ≡ false → (IsTrue worked ↔ IsSome given) → given ≡ None
none_given worked None none same = refl
none_given worked (Some j) none same = absurd (false_is_not (sym none ∙ same.1 refl))

-- rounds after rounds
pub work_on : (made : Made) (a b : List (Option Job)) (xs ys : List MoveEntry) → WorkOff made a xs → WorkOff made b ys → WorkOff made (a ++ b) (xs ++ ys)
work_on made [] b xs ys none more = subst (λ (es : List MoveEntry). WorkOff made b (es ++ ys)) (sym none) more
work_on made (given ∷ a) b xs ys (own, rest, worked, later, are) more =
    (own, rest ++ ys, worked, work_on made a b rest ys later more, ap (λ (es : List MoveEntry). es ++ ys) are ∙ append_assoc own rest ys)

abbrev pub Claimed : Made → (List MoveEntry → Type 0) → Type 0
Claimed made did = (given : List (Option Job)) × (own : List MoveEntry) × did own × WorkOff made given own

abbrev pub Rested : Made → (List MoveEntry → Type 0) → Type 0
Rested made did = (own : List MoveEntry) × did own × WorksUntilNone made own

-- a claim that gave none is all of its round
gave_none : (made : Made) (given : Option Job) (own : List MoveEntry) → Works made true given own → given ≡ None → own ≡ entry_of_move (Claim true) (reply.Gave None) ∷ []
gave_none made None own worked none = worked.are ∙ ap (λ (run : List MoveEntry). entry_of_move (Claim true) (reply.Gave None) ∷ run) worked.ran
gave_none made (Some j) own worked none = absurd (some_is_not_none j none)

-- a worker rests, works on and rests again
rests_then : (made : Made) (a b : List MoveEntry) → WorksUntilNone made a → WorksUntilNone made b → WorksUntilNone made (a ++ b)
rests_then made a b x y =
    let last : List MoveEntry = entry_of_move (Claim true) (reply.Gave None) ∷ [] in
    let round : Works made true None last = record { run = []; ran = refl; are = refl } in record {
      given = x.given ++ None ∷ y.given;
      before = x.before ++ (last ++ y.before);
      worked = work_on made x.given (None ∷ y.given) x.before (last ++ y.before) x.worked (last, y.before, round, y.worked, refl);
      are = ap (λ (es : List MoveEntry). es ++ b) x.are ∙ ap (λ (es : List MoveEntry). (x.before ++ last) ++ es) y.are
          ∙ append_assoc x.before last (y.before ++ last) ∙ ap (λ (es : List MoveEntry). x.before ++ es) (sym (append_assoc last y.before last))
          ∙ sym (append_assoc x.before (last ++ y.before) last);
    }

module _ (made : Made) (did did' both : List MoveEntry → Type 0) (joins : Joins did did' both) where
  -- one round more
  pub round_more : Claimed made did → (given : Option Job) (own : List MoveEntry) → did' own → Works made true given own → Claimed made both
  round_more (before, claims, did_so, off) given own now worked = (
    before ++ given ∷ [],
    claims ++ own,
    joins claims own did_so now,
    work_on made before (given ∷ []) claims own off (own, [], worked, refl, sym (append-nil own)),
  )

  -- a claim that gave none
  pub round_last : Claimed made did → (given : Option Job) (own : List MoveEntry) → did' own → Works made true given own → given ≡ None → Rested made both
  round_last (before, claims, did_so, off) given own now worked none = (
    claims ++ own,
    joins claims own did_so now,
    record { given = before; before = claims; worked = off; are = ap (λ (es : List MoveEntry). claims ++ es) (gave_none made given own worked none) },
  )

  -- rest after rest
  pub rest_again : Rested made did → Rested made did' → Rested made both
  rest_again (a, did_a, rests_a) (b, did_b, rests_b) = (a ++ b, joins a b did_a did_b, rests_then made a b rests_a rests_b)

-- a worker comes, rests and goes
pub comes_and_goes : (made : Made) (came rested both went all : List MoveEntry → Type 0) → Joins came rested both → Joins both went all
    → came (entry_of_move Enlist reply.Done ∷ []) → Rested made rested → went (entry_of_move Leave reply.Done ∷ []) → (own : List MoveEntry) × all own × WorksThrough made own
comes_and_goes made came rested both went all join joined comes (shift, worked, rests) goes = (
  (entry_of_move Enlist reply.Done ∷ shift) ++ entry_of_move Leave reply.Done ∷ [],
  joined (entry_of_move Enlist reply.Done ∷ shift) (entry_of_move Leave reply.Done ∷ []) (join (entry_of_move Enlist reply.Done ∷ []) shift comes worked) goes,
  record { shift = shift; rests = rests; are = refl },
)
