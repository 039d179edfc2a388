-- A mark is taken, or refused, by the kind that it is of in the state that the code holds.
use Rattle.osrl_grammar.proofs.Names.{◌≡◌, ℕ, zero, suc, ◌+◌, ◌-◌, ◌<◌, ◌≤◌, false, List, refl, sym, subst, arith, Result, Ok, Err, Attribute, Start, Finish, AllPass, FirstFails, TakesMark, OsrlFault, Stop, Refused, Led, To, Over, Kind, begins, ends_over, end_kind, led_from, State, tests, told, leads, Fails, keeps, begun, Leaves, osrl, EndsAt}
use Rattle.tag_tests.specs.declared.marks.Stop.TheVariants.{Memory}
use Rattle.tag_tests.specs.Readers.{StepsBy}
use Rattle.tag_tests.proofs.EndKinds.{end_here}
use Rattle.osrl_grammar.specs.declared.elements.Place.{Place}

-- in an element that is passed over all is, and characters aren't kept
over_from : (d : ℕ) (l : Led Place) → 0 < d → led_from d l ≡ Over
over_from zero l deep = absurd (omega (arith, deep))
over_from (suc d) l deep = refl

over_ends : (d : ℕ) (p : Place) → 0 < d → ends_over ≡ end_kind d p
over_ends zero p deep = absurd (omega (arith, deep))
over_ends (suc d) p deep = refl

pub over_keeps : (d : ℕ) (p : Place) → 0 < d → keeps d p ≡ false
over_keeps zero p deep = absurd (omega (arith, deep))
over_keeps (suc d) p deep = refl

-- where a start tag leads
abbrev pub led_at : State → List ℕ → List Attribute → Led Place
led_at s name as' = led_from s.depth (leads s.place name as')

pub led_over : (s : State) (name : List ℕ) (as' : List Attribute) → 0 < s.depth → led_at s name as' ≡ Over
led_over s name as' deep = over_from s.depth (leads s.place name as') deep

abbrev IsTakenAs : State → State → Kind Place → Type 0
IsTakenAs s z k = AllPass (Fails s) (tests k) × Leaves s k z

-- a start tag of an element that is read, and of one that is passed over
pub start_in : (s : State) (name : List ℕ) (as' : List Attribute) (p : Place) → led_at s name as' ≡ To p → (z : State) → z ≡ begun s as' p → TakesMark osrl s (Start name as') z
start_in s name as' p is z h = subst (λ (l : Led Place). IsTakenAs s z (begins l as')) (sym is) (tt, h)

pub start_over : (s : State) (name : List ℕ) (as' : List Attribute) → led_at s name as' ≡ Over → TakesMark osrl s (Start name as') (record s { depth = s.depth + 1 })
start_over s name as' is = subst (λ (l : Led Place). IsTakenAs s (record s { depth = s.depth + 1 }) (begins l as')) (sym is) (tt, refl)

-- an end tag, of an element that is passed over
pub end_over : (s : State) (name : List ℕ) → 0 < s.depth → TakesMark osrl s (Finish name) (record s { depth = s.depth - 1 })
end_over s name deep = subst (IsTakenAs s (record s { depth = s.depth - 1 })) (over_ends s.depth s.place deep) (tt, refl)

-- and of one that is read
pub end_in : {X : Type 0} (s z : State) (name : List ℕ) (r : Result X (Stop OsrlFault)) → s.depth ≤ 0 → EndsAt s s.place z r → StepsBy osrl s (Finish name) z r
end_in s z name (Ok x) flat h = subst (IsTakenAs s z) (end_here s.depth s.place flat) h
end_in s z name (Err Memory) flat h = tt
end_in s z name (Err (Refused f)) flat h = subst (λ (k : Kind Place). FirstFails {R = OsrlFault} (Fails s) (told s) (tests k) f) (end_here s.depth s.place flat) h

-- the same of what the code holds, which is that state
pub end_at : {X : Type 0} (s u now z : State) (name : List ℕ) (r : Result X (Stop OsrlFault)) → s ≡ now → u ≡ now → s.depth ≤ 0 → EndsAt now u.place z r → StepsBy osrl now (Finish name) z r
end_at {X} s u now z name r same also flat h = end_in now z name r (subst (λ (n : State). n.depth ≤ 0) same flat) (subst (λ (n : State). EndsAt {X = X} now n.place z r) also h)
