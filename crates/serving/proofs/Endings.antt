-- How a server ends, by what its parts answered.
use Rattle.std.proofs.Common.{◌≡◌, ℕ, ◌<◌, nat_eq, eqb-true, Bool, true, false, List, [], Result, Ok, Err, refl, sym, ◌∙◌, subst, arith, inl, inr}
use Rattle.os_io.specs.Streams.{Tells, HasRisen}
use Rattle.os_io.specs.Links.{NetTells, ListenedAt, IsReached, SameLinks}
use Rattle.desk.specs.declared.view.SeatEntry.{SeatEntry}
use Rattle.server_threads.specs.declared.means.ServeFault.{ServeFault}
use Rattle.server_threads.specs.declared.means.ServeFault.TheVariants.{Failed, Memory}
use Rattle.server_threads.specs.Talks.{LinkTalk, Shift, short_of}
use Rattle.server_threads.specs.Serving as threads
use Rattle.serving.specs.declared.setup.Setup.{Setup}
use Rattle.serving.specs.declared.ending.Ending.{Ending}
use Rattle.serving.specs.declared.ending.Ending.TheVariants.{ListenFault, AnnounceFault, NoMemory, ReportFault}
use Rattle.serving.specs.Lines.{listening, jobs_line}
use Rattle.command_answers.specs.Outputs.{IsSent, BreaksOff}
use Rattle.serving.specs.Serving.{HostsBy, Unbegun, TellsEnd, done_if, ending_of, IsRunOf}
use Rattle.serving.proofs.Histories.{hosts_none, hosts_so, no_closer}

some_short : (k n : ℕ) → nat_eq k 0 ≡ false → k ≡ n → 0 < n
some_short k n other is = grind (arith, other, is)

-- what is told at the end, by what serving answered
pub told_by : (served answer : Result ℕ ServeFault) (given : ℕ) (how : Ending) (output output' : Tells) → served ≡ answer → TellsEnd answer given how output output' → TellsEnd served given how output output'
told_by served answer given how output output' is tells = subst (λ (r : Result ℕ ServeFault). TellsEnd r given how output output') (sym is) tells

module _ (given_by : List SeatEntry → ℕ) (History : List LinkTalk → List Shift → Shift → List SeatEntry → Type 0) (host : List ℕ) (port : ℕ) (setup : Setup) where
  abbrev Run : Ending → (old new : NetTells) → (output output' : Tells) → Type 0
  Run how old new output output' = IsRunOf given_by History how host port setup old new output output'

  -- no link came: the listener doesn't listen
  pub unheard : (nothing : History [] [] no_closer []) (old new : NetTells) (output : Tells) → new.reached ≡ old.reached → SameLinks old new → HasRisen old.faults new.faults → Run ListenFault old new output output
  unheard nothing old new output reached same risen = record { listened = reached; hosts = hosts_none History nothing _ setup old new same (refl, risen, refl) }

  -- the listener listens
  module _ (first old : NetTells) (reached : IsReached first.reached old.reached (ListenedAt host port setup.patience)) (same : SameLinks first old) (counted : old.faults ≡ first.faults)
      (output said : Tells) where
    -- no link came: the first line wasn't written whole
    pub unsaid : (nothing : History [] [] no_closer []) → BreaksOff listening output said → Run AnnounceFault first old output said
    unsaid nothing breaks = record { listened = reached; hosts = hosts_none History nothing _ setup first old same (refl, counted, breaks) }

    -- or there was no memory for a desk
    pub unopened : (nothing : History [] [] no_closer []) → IsSent listening output said → Run NoMemory first old output said
    unopened nothing listens = record { listened = reached; hosts = hosts_none History nothing _ setup first old same (refl, counted, listens) }

    -- what serving a desk's links answered
    module _ (listens : IsSent listening output said) (new : NetTells) (stayed : new.reached ≡ old.reached) where
      abbrev Answered : ℕ → Result ℕ ServeFault → Type 0
      Answered given served =
          HostsBy History (λ links log. (given ≡ given_by log) × threads.EndsServing served setup.limits.connections links old.faults new.faults) setup old new

      still : IsReached first.reached new.reached (ListenedAt host port setup.patience)
      still = subst (λ r. IsReached first.reached r (ListenedAt host port setup.patience)) (sym stayed) reached

      risen : HasRisen old.faults new.faults → HasRisen first.faults new.faults
      risen is = subst (λ (n : ℕ). HasRisen n new.faults) counted is

      told_so : (k given : ℕ) (output' : Tells) (none : Bool) → nat_eq k 0 ≡ none → IsSent (jobs_line given) said output' → Answered given (Ok k)
          → Run (done_if none) first new output output'
      told_so k given output' true is tells h = record {
        listened = still;
        hosts = hosts_so History _ _ setup first old new same
            (λ links log e. ((e.1.1, e.1.2 ∙ counted), sym e.1.0 ∙ eqb-true k 0 is, (said, listens, subst (λ (n : ℕ). IsSent (jobs_line n) said output') e.0 tells))) h;
      }
      told_so k given output' false is tells h = record {
        listened = still;
        hosts = hosts_so History _ _ setup first old new same
            (λ links log e. ((e.1.1, e.1.2 ∙ counted), some_short k (short_of links) is e.1.0, (said, listens, subst (λ (n : ℕ). IsSent (jobs_line n) said output') e.0 tells))) h;
      }

      -- all links came, and the last line was written
      pub all_told : (how : Ending) (served : Result ℕ ServeFault) (k given : ℕ) (output' : Tells) → how ≡ done_if (nat_eq k 0) → served ≡ Ok k → IsSent (jobs_line given) said output'
          → Answered given served → Run how first new output output'
      all_told how served k given output' is answers tells h =
          subst (λ (e : Ending). Run e first new output output') (sym is)
          (told_so k given output' (nat_eq k 0) refl tells (subst (λ (r : Result ℕ ServeFault). Answered given r) answers h))

      -- or it wasn't
      pub unreported : (served : Result ℕ ServeFault) (k given : ℕ) (output' : Tells) → served ≡ Ok k → BreaksOff (jobs_line given) said output' → Answered given served
          → Run ReportFault first new output output'
      unreported served k given output' answers breaks h = record {
        listened = still;
        hosts = hosts_so History _ _ setup first old new same
            (λ links log e. ((e.1.1, e.1.2 ∙ counted), (said, listens, subst (λ (n : ℕ). BreaksOff (jobs_line n) said output') e.0 breaks)))
            (subst (λ (r : Result ℕ ServeFault). Answered given r) answers h);
      }

      -- it was broken off: the listener took no further link, or there was no memory
      broken_so : (fault : ServeFault) (given : ℕ) → Answered given (Err fault) → Run (ending_of fault) first new output said
      broken_so Failed given h = record {
        listened = still;
        hosts = hosts_so History _ _ setup first old new same (λ links log e. (e.1.0, risen e.1.1, listens)) h;
      }
      broken_so Memory given h = record {
        listened = still;
        hosts = hosts_so History _ _ setup first old new same (λ links log e. (e.1.0, e.1.1 ∙ counted, listens)) h;
      }

      pub broken_off : (how : Ending) (served : Result ℕ ServeFault) (fault : ServeFault) (given : ℕ) → how ≡ ending_of fault → served ≡ Err fault → Answered given served
          → Run how first new output said
      broken_off how served fault given is answers h =
          subst (λ (e : Ending). Run e first new output said) (sym is) (broken_so fault given (subst (λ (r : Result ℕ ServeFault). Answered given r) answers h))

      -- by what was told at the end
      pub ended : (how : Ending) (served : Result ℕ ServeFault) (given : ℕ) (output' : Tells) → TellsEnd served given how said output' → Answered given served → Run how first new output output'
      ended how (Ok k) given output' (inl (is, tells)) h = all_told how (Ok k) k given output' is refl tells h
      ended how (Ok k) given output' (inr (is, breaks)) h = subst (λ (e : Ending). Run e first new output output') (sym is) (unreported (Ok k) k given output' refl breaks h)
      ended how (Err fault) given output' (is, stays) h = subst (λ (o : Tells). Run how first new output o) (sym stays) (broken_off how (Err fault) fault given is refl h)

  -- it didn't begin
  pub unbegun : (nothing : History [] [] no_closer []) (how : Ending) (old new : NetTells) (output output' : Tells) → Unbegun how host port setup.patience old new output output' → Run how old new output output'
  unbegun nothing how old new output output' (inl (is, reached, same, risen, stays)) =
      subst (λ (z : Ending × Tells). Run z.0 old new output z.1) (λ i. (sym is i, sym stays i)) (unheard nothing old new output reached same risen)
  unbegun nothing how old new output output' (inr (is, reached, same, counted, breaks)) =
      subst (λ (e : Ending). Run e old new output output') (sym is) (unsaid old new reached same counted output output' nothing breaks)
