-- The jobs that are held in places, of which some are empty.
use Rattle.std.proofs.Common.{◌≡◌, ℕ, ◌+◌, nat_eq, Bool, true, false, cond, filter, length, [], ◌∷◌, ◌++◌, Option, Some, None, IsSome, refl, sym, ◌∙◌, ap, arith, ◌≤◌}
use Rattle.std.proofs.lemmas.Bool.Decides.{nat_tests}
use Rattle.std.specs.List.{IsDistinct, AllByRecursion}
use Rattle.std.specs.Map.{lookup, keys_of}
use Rattle.indexmap.specs.IndexMap.{insert_entry}
use Rattle.job_table.specs.declared.job.Phase.{Phase}
use Rattle.job_table.specs.Jobs.{HeldJobs, phase_of, with_phase, without}
use Rattle.job_table.specs.Places.{Places, with_held, held_in, has_phase}
use Rattle.job_table.proofs.JobLists.{not_first}

-- what stands in a place, if there is one
abbrev content : Option (Option Phase) → Option Phase
content (Some place) = place
content None = None

other_apart : (n k m : ℕ) → nat_eq n k ≡ true → nat_eq k m ≡ false → nat_eq n m ≡ false
other_apart n k m is apart = grind (arith, nat_tests)

gone_step : (n k : ℕ) (o : Option Phase) (jobs : HeldJobs) → nat_eq n k ≡ false → phase_of n jobs ≡ None → phase_of n (with_held k o jobs) ≡ None
gone_step n k None jobs apart h = h
gone_step n k (Some x) jobs apart h = ap (λ b. cond b (Some x) (phase_of n jobs)) apart ∙ h

-- a number that has an empty place has no other
gone_is : (n k : ℕ) (places : Places) → nat_eq n k ≡ true → AllByRecursion (λ m. nat_eq k m ≡ false) (keys_of places) → phase_of n (held_in places) ≡ None
gone_is n k [] is apart = refl
gone_is n k (p ∷ ps) is apart =
    gone_step n p.0 p.1 (held_in ps) (other_apart n k p.0 is apart.0) (gone_is n k ps is apart.1)

at_step : (n k : ℕ) (o : Option Phase) (b : Bool) (jobs : HeldJobs) (q : Option (Option Phase)) → nat_eq n k ≡ b → (b ≡ true → phase_of n jobs ≡ None)
    → phase_of n jobs ≡ content q → phase_of n (with_held k o jobs) ≡ content (cond b (Some o) q)
at_step n k None true jobs q is gone h = gone refl
at_step n k None false jobs q is gone h = h
at_step n k (Some x) true jobs q is gone h = ap (λ b. cond b (Some x) (phase_of n jobs)) is
at_step n k (Some x) false jobs q is gone h = ap (λ b. cond b (Some x) (phase_of n jobs)) is ∙ h

-- a job's phase is what stands in its place
content_is : (n : ℕ) (places : Places) → IsDistinct nat_eq (keys_of places) → phase_of n (held_in places) ≡ content (lookup (nat_eq n) places)
unfolding IsDistinct
content_is n [] apart = refl
content_is n (p ∷ ps) apart =
    at_step n p.0 p.1 (nat_eq n p.0) (held_in ps) (lookup (nat_eq n) ps) refl (λ is. gone_is n p.0 ps is apart.0) (content_is n ps apart.1)

-- a place has what is there, where a job is held
place_is : (q : Option (Option Phase)) (r : Option Phase) (x : Phase) → r ≡ content q → r ≡ Some x → q ≡ Some (Some x)
place_is (Some (Some y)) r x is at = cc
place_is (Some None) r x is at = cc
place_is None r x is at = cc

-- what is read at a place is the job's phase
pub phase_found : (n : ℕ) (places : Places) (jobs : HeldJobs) → IsDistinct nat_eq (keys_of places) → held_in places ≡ jobs → (o : Option Phase)
    → lookup (nat_eq n) places ≡ Some o → phase_of n jobs ≡ o
phase_found n places jobs apart same o at = sym (ap (phase_of n) same) ∙ content_is n places apart ∙ ap content at

pub phase_missed : (n : ℕ) (places : Places) (jobs : HeldJobs) → IsDistinct nat_eq (keys_of places) → held_in places ≡ jobs
    → lookup (nat_eq n) places ≡ None → phase_of n jobs ≡ None
phase_missed n places jobs apart same at = sym (ap (phase_of n) same) ∙ content_is n places apart ∙ ap content at

put_step : (n k : ℕ) (o : Option Phase) (x w : Phase) (b : Bool) (ps : Places) → nat_eq n k ≡ b
    → (lookup (nat_eq n) ps ≡ Some (Some x) → held_in (insert_entry nat_eq ps n (Some w)) ≡ with_phase n w (held_in ps))
    → cond b (Some o) (lookup (nat_eq n) ps) ≡ Some (Some x)
    → held_in (cond b ((k, Some w) ∷ ps) ((k, o) ∷ insert_entry nat_eq ps n (Some w))) ≡ with_phase n w (with_held k o (held_in ps))
put_step n k None x w true ps is h at = cc
put_step n k (Some y) x w true ps is h at = sym (ap (λ b. cond b ((k, w) ∷ held_in ps) ((k, y) ∷ with_phase n w (held_in ps))) is)
put_step n k None x w false ps is h at = h at
put_step n k (Some y) x w false ps is h at =
    ap (λ jobs. (k, y) ∷ jobs) (h at) ∙ sym (ap (λ b. cond b ((k, w) ∷ held_in ps) ((k, y) ∷ with_phase n w (held_in ps))) is)

-- another phase in its place is another phase for the job
put_in : (n : ℕ) (x w : Phase) (places : Places) → lookup (nat_eq n) places ≡ Some (Some x)
    → held_in (insert_entry nat_eq places n (Some w)) ≡ with_phase n w (held_in places)
put_in n x w [] at = cc
put_in n x w (p ∷ ps) at = put_step n p.0 p.1 x w (nat_eq n p.0) ps refl (put_in n x w ps) at

out_step : (n k : ℕ) (o : Option Phase) (x : Phase) (b : Bool) (ps : Places) → nat_eq n k ≡ b
    → (lookup (nat_eq n) ps ≡ Some (Some x) → held_in (insert_entry nat_eq ps n None) ≡ without n (held_in ps))
    → cond b (Some o) (lookup (nat_eq n) ps) ≡ Some (Some x)
    → held_in (cond b ((k, None) ∷ ps) ((k, o) ∷ insert_entry nat_eq ps n None)) ≡ without n (with_held k o (held_in ps))
out_step n k None x true ps is h at = cc
out_step n k (Some y) x true ps is h at = sym (ap (λ b. cond b (held_in ps) ((k, y) ∷ without n (held_in ps))) is)
out_step n k None x false ps is h at = h at
out_step n k (Some y) x false ps is h at =
    ap (λ jobs. (k, y) ∷ jobs) (h at) ∙ sym (ap (λ b. cond b (held_in ps) ((k, y) ∷ without n (held_in ps))) is)

-- a place that is emptied has no job
out_of : (n : ℕ) (x : Phase) (places : Places) → lookup (nat_eq n) places ≡ Some (Some x)
    → held_in (insert_entry nat_eq places n None) ≡ without n (held_in places)
out_of n x [] at = cc
out_of n x (p ∷ ps) at = out_step n p.0 p.1 x (nat_eq n p.0) ps refl (out_of n x ps) at

some_place : (o : Option Phase) → IsSome (Some o)
some_place o = refl

module _ (n : ℕ) (places : Places) (apart : IsDistinct nat_eq (keys_of places)) where
  there : (x : Phase) → phase_of n (held_in places) ≡ Some x → lookup (nat_eq n) places ≡ Some (Some x)
  there x at = place_is (lookup (nat_eq n) places) (phase_of n (held_in places)) x (content_is n places apart) at

  some_there : (q : Option (Option Phase)) (x : Phase) → q ≡ Some (Some x) → IsSome q
  some_there (Some o) x at = some_place o
  some_there None x at = cc

  -- a job that is held has a place
  pub has_place : IsSome (phase_of n (held_in places)) → IsSome (lookup (nat_eq n) places)
  has_place some = by (phase_of n (held_in places)) refl some
    where
      by : (r : Option Phase) → phase_of n (held_in places) ≡ r → IsSome r → IsSome (lookup (nat_eq n) places)
      by (Some x) is some = some_there (lookup (nat_eq n) places) x (there x is)
      by None is some = cc

  pub put_where_held : (w : Phase) → IsSome (phase_of n (held_in places)) → held_in (insert_entry nat_eq places n (Some w)) ≡ with_phase n w (held_in places)
  put_where_held w some = by (phase_of n (held_in places)) refl some
    where
      by : (r : Option Phase) → phase_of n (held_in places) ≡ r → IsSome r → held_in (insert_entry nat_eq places n (Some w)) ≡ with_phase n w (held_in places)
      by (Some x) is some = put_in n x w places (there x is)
      by None is some = cc

  pub out_where_held : IsSome (phase_of n (held_in places)) → held_in (insert_entry nat_eq places n None) ≡ without n (held_in places)
  out_where_held some = by (phase_of n (held_in places)) refl some
    where
      by : (r : Option Phase) → phase_of n (held_in places) ≡ r → IsSome r → held_in (insert_entry nat_eq places n None) ≡ without n (held_in places)
      by (Some x) is some = out_of n x places (there x is)
      by None is some = cc

more_step : (k : ℕ) (o : Option Phase) (jobs more : HeldJobs) (ps : HeldJobs) → jobs ≡ ps ++ more → with_held k o jobs ≡ with_held k o ps ++ more
more_step k None jobs more ps h = h
more_step k (Some x) jobs more ps h = ap (λ js. (k, x) ∷ js) h

-- a place behind all others has a job behind all others
pub behind_all : (n : ℕ) (w : Phase) (places : Places) → held_in (places ++ (n, Some w) ∷ []) ≡ held_in places ++ (n, w) ∷ []
behind_all n w [] = refl
behind_all n w (p ∷ ps) = more_step p.0 p.1 (held_in (ps ++ (n, Some w) ∷ [])) ((n, w) ∷ []) (held_in ps) (behind_all n w ps)

swept_step : (k : ℕ) (o : Option Phase) (ps swept : Places) → held_in swept ≡ held_in ps
    → held_in (cond (has_phase (k, o)) ((k, o) ∷ swept) swept) ≡ with_held k o (held_in ps)
swept_step k None ps swept h = h
swept_step k (Some x) ps swept h = ap (λ jobs. (k, x) ∷ jobs) h

-- the places that are not empty have all jobs
pub swept_is : (places : Places) → held_in (filter has_phase places) ≡ held_in places
swept_is [] = refl
swept_is (p ∷ ps) = swept_step p.0 p.1 ps (filter has_phase ps) (swept_is ps)

new_step : (n k : ℕ) (o : Option Phase) (ps swept : Places) → (phase_of n (held_in ps) ≡ None → lookup (nat_eq n) swept ≡ None)
    → phase_of n (with_held k o (held_in ps)) ≡ None → lookup (nat_eq n) (cond (has_phase (k, o)) ((k, o) ∷ swept) swept) ≡ None
new_step n k None ps swept h none = h none
new_step n k (Some x) ps swept h none =
    let apart = not_first (nat_eq n k) x (phase_of n (held_in ps)) none in
    ap (λ b. cond b (Some (Some x)) (lookup (nat_eq n) swept)) apart.0 ∙ h apart.1

-- and none with a number that no job has
pub swept_new : (n : ℕ) (places : Places) → phase_of n (held_in places) ≡ None → lookup (nat_eq n) (filter has_phase places) ≡ None
swept_new n [] none = refl
swept_new n (p ∷ ps) none = new_step n p.0 p.1 ps (filter has_phase ps) (swept_new n ps) none

held_step : (k : ℕ) (o : Option Phase) (ps : Places) → length (held_in ps) ≤ length ps → length (with_held k o (held_in ps)) ≤ length ((k, o) ∷ ps)
held_step k None ps few = omega (arith, few)
held_step k (Some x) ps few = omega (arith, few)

-- there are not more jobs than places
pub held_few : (places : Places) → length (held_in places) ≤ length places
held_few [] = omega arith
held_few (p ∷ ps) = held_step p.0 p.1 ps (held_few ps)

long_step : (b : Bool) (e : ℕ × Phase) (w : Phase) (es rest : HeldJobs) → length rest ≡ length es → length (cond b ((e.0, w) ∷ es) (e ∷ rest)) ≡ length (e ∷ es)
long_step true e w es rest h = refl
long_step false e w es rest h = omega (arith, h)

-- as many jobs
pub as_many : (n : ℕ) (w : Phase) (jobs : HeldJobs) → length (with_phase n w jobs) ≡ length jobs
as_many n w [] = refl
as_many n w (e ∷ es) = long_step (nat_eq n e.0) e w es (with_phase n w es) (as_many n w es)

fewer_step : (b : Bool) (e : ℕ × Phase) (es rest : HeldJobs) (q : Option Phase) → (IsSome q → length rest + 1 ≡ length es) → IsSome (cond b (Some e.1) q)
    → length (cond b es (e ∷ rest)) + 1 ≡ length (e ∷ es)
fewer_step true e es rest q h some = omega arith
fewer_step false e es rest q h some = omega (arith, h some)

-- one job less
pub one_less : (n : ℕ) (jobs : HeldJobs) → IsSome (phase_of n jobs) → length (without n jobs) + 1 ≡ length jobs
one_less n [] some = cc
one_less n (e ∷ es) some = fewer_step (nat_eq n e.0) e es (without n es) (phase_of n es) (one_less n es) some
