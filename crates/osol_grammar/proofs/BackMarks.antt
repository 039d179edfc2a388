-- The marks of a written document say the options that it was written of.
use Rattle.std.proofs.Common.{◌≡◌, ◌∙◌, inr, inl, ℕ, zero, suc, ◌+◌, ◌<◌, ◌≤◌, ◌==◌, Bool, true, false, not, ap, eqb-true, Option, None, Some, List, [], ◌∷◌, ◌++◌, length, length-append, append_assoc, append-nil, leb, refl, sym, subst, arith}
use Rattle.std.proofs.lemmas.Bool.{not-false}
use Rattle.std.specs.Prelude.{codes, map, filter, ◌||◌}
use Rattle.std.specs.Fmt.{decimal}
use Rattle.tree_grammar.specs.Elements.{Attribute, Nodes, Event, Close, nodes_events}
use Rattle.doc_tree.specs.Marks.{Mark, Start, Char, Finish, spread}
use Rattle.std.proofs.lemmas.Bool.{leb-true}
use Rattle.fraction.specs.Frac.{ratio}
use Rattle.fraction.specs.declared.frac.Frac.{Frac}
use Rattle.decimal_text.specs.Count.{IsCount, most_count}
use Rattle.decimal_text.specs.Exact.{ratio_text}
use Rattle.decimal_text.proofs.RoundTrips.{count_read}
use Rattle.document_tags.specs.Elements.{unless_empty}
use Rattle.tree_grammar.specs.Elements as tree
use Rattle.document_tags.specs.Writing.{with_attribute, leaf, group, bare_root}
use Rattle.tag_tests.specs.Forms.{AreTaken}
use Rattle.tag_tests.proofs.Forms.{taken_both}
use Rattle.tag_tests.proofs.Characters.{chars_taken}
use Rattle.osol_grammar.specs.declared.gaps.Gap.{Gap}
use Rattle.osol_grammar.specs.declared.limit.Limit.{Limit}
use Rattle.osol_grammar.specs.declared.limit.Limit.TheVariants as limits
use Rattle.osol_grammar.specs.declared.limit.Limit.TheVariants.{Rounds, Names, Form, Bound}
use Rattle.osol_grammar.specs.declared.options.Options.{Options}
use Rattle.osol_grammar.specs.declared.place.Place.{Place}
use Rattle.osol_grammar.specs.declared.place.Place.TheVariants.{Outside, Osol, General, JobId, Job, MaxTime, Optimization, Variables, InitialValues, Var, SolverOptions, SolverOption}
use Rattle.osol_grammar.specs.declared.parse_state.ParseState.{ParseState as State}
use Rattle.osol_grammar.specs.Limits.{limit_row, amount_text}
use Rattle.osol_grammar.specs.Options.{made, amount, with_amount, no_options, IsOption, IsGapOption, IsAmountText, SaysAmount}
use Rattle.osol_grammar.specs.Marked.{osol}
use Rattle.osol_grammar.specs.Meaning.{IsOptions, IsOptionsText}
use Rattle.osol_grammar.specs.Gaps.{SaysGap, gap_text}
use Rattle.osol_grammar.specs.Writing.{is_told, told_limits, option_nodes, time_nodes, values_nodes, first_nodes, gap_nodes, options_nodes, options_text}
use Rattle.osol_grammar.specs.Back.{IsJobName, IsNameOrNone, IsTimeOrNone, AreFirstOrNone, IsGapOrNone, ComesBack}
use Rattle.osol_grammar.specs.Times.{SaysTime}
use Rattle.osol_grammar.specs.FirstValues.{most_variables, SaysIndex, SaysValue, HasFirst, more_first}
use Rattle.osol_grammar.proofs.SaidTimes.{amount_read, time_read}
use Rattle.osol_grammar.proofs.SaidGaps.{gap_read}
use Rattle.osol_grammar.proofs.SaidValues.{index_once, cut_values, cut_more, cut_some, cut_none, cut_all, not_yet}
use Rattle.osol_grammar.proofs.LimitTable.{rest_with, each_passes, option_once, not_gap}
use Rattle.osol_grammar.proofs.WrittenText.{told_nodes, optimization, text_document, text_not_blank}

abbrev at : Place → ℕ → ℕ → ℕ → ℕ → List ℕ → Options → State
at p n j i u t o = record { place = p; depth = 0; count = n; job_at = j; time_at = i; unit = u; text = t; options = o }

-- from this state on these marks say these options in the end
abbrev Say : State → List Mark → Options → Type 0
Say s ms o = (z : State) × AreTaken osol s ms z × (o ≡ z.options)

-- ---- the options of limits

abbrev AreWithin : Options → Type 0
AreWithin o = (l : Limit) → ((limit_row l).least ≤ amount o l) × (amount o l ≤ (limit_row l).most)

abbrev named_option : (name value : List ℕ) → List Attribute
named_option name value = with_attribute (codes "name") name (with_attribute (codes "value") value (with_attribute (codes "solver") (codes "os_cert") []))

abbrev option_of : Limit → ℕ → List Attribute
option_of l n = named_option (limit_row l).name (amount_text l n)

option_is : (l : Limit) (n : ℕ) → IsOption l (option_of l n)
option_is l n = record { named = refl; meant = refl }

amount_said : (l : Limit) (n : ℕ) → n ≤ (limit_row l).most → IsCount (decimal n) n → IsAmountText l (amount_text l n) n
amount_said Form zero few count = refl
amount_said Form (suc zero) few count = refl
amount_said Form (suc (suc n)) few count = omega (arith, few)
amount_said limits.Nodes n few count = count
amount_said limits.Turns n few count = count
amount_said Rounds n few count = count
amount_said Names n few count = count
amount_said Bound n few count = count

amount_is : (l : Limit) (n : ℕ) → (limit_row l).least ≤ n → n ≤ (limit_row l).most → SaysAmount l (option_of l n) n
amount_is l n above below =
    let most = leb-true (limit_row l).most most_count (each_passes (λ m. leb (limit_row m).most most_count) refl l) in
    (amount_said l n below (count_read n (omega (arith, below, most))), above, below)

-- options when those of these limits were read
abbrev with_amounts : Options → Options → List Limit → Options
with_amounts q o [] = q
with_amounts q o (l ∷ ls) = with_amounts (with_amount q l (amount o l)) o ls

limits_say : (ls : List Limit) (n j i u : ℕ) (t : List ℕ) (o q : Options) (behind : tree.Nodes) (es : List Event) → AreWithin o → ((k : ℕ) → Say (at SolverOptions k j i u t (with_amounts q o ls)) (spread (nodes_events behind es)) o)
    → Say (at SolverOptions n j i u t q) (spread (nodes_events (option_nodes o ls behind) es)) o
limits_say [] n j i u t o q behind es within more = more n
limits_say (l ∷ ls) n j i u t o q behind es within more =
    let a = amount o l in
    let as' = option_of l a in
    let p = with_amount q l a in
    let is = option_is l a in
    let says = amount_is l a (within l).0 (within l).1 in
    let pass = λ (bad : (k : Limit) × IsOption k as' × ((m : ℕ) → SaysAmount k as' m → ⊥)). bad.2 a (subst (λ (k : Limit). SaysAmount k as' a) (sym (option_once bad.0 l as' bad.1 is)) says) in
    let rest = limits_say ls (n + 1) j i u t o p behind es within more in
    (rest.0, (at SolverOption (n + 1) j i u t p, ((pass, ((λ bad. not_gap l as' is bad.0), tt)), (p, inl (l, a, is, says, refl), refl)), (at SolverOptions (n + 1) j i u t p, (tt, refl), rest.1)), rest.2)

-- they leave the gap
gap_stays : (q o : Options) (ls : List Limit) → (with_amounts q o ls).gap ≡ q.gap
gap_stays q o [] = refl
gap_stays q o (l ∷ ls) = gap_stays (with_amount q l (amount o l)) o ls ∙ (rest_with q l (amount o l)).3

-- ---- the gap, behind them

gap_says : (gap : Option Gap) (n j i u : ℕ) (t : List ℕ) (o q : Options) (es : List Event) → q.gap ≡ None → IsGapOrNone gap → ((k : ℕ) → Say (at SolverOptions k j i u t (record q { gap = gap })) (spread es) o)
    → Say (at SolverOptions n j i u t q) (spread (nodes_events (gap_nodes gap tree.none) es)) o
gap_says None n j i u t o q es none is more = subst (λ (g : Option Gap). Say (at SolverOptions n j i u t (record q { gap = g })) (spread es) o) (sym none) (more n)
gap_says (Some g) n j i u t o q es none is more =
    let as' = named_option (codes "gap") (gap_text g) in
    let own : IsGapOption as' = record { named = refl; meant = refl } in
    let says : SaysGap as' g = gap_read g is in
    let p = record q { gap = Some g } in
    let rest = more (n + 1) in
    (rest.0, (at SolverOption (n + 1) j i u t p, (((λ bad. not_gap bad.0 as' bad.1 own), ((λ bad. bad.1 g says), tt)), (p, inr (inl (g, own, says, refl)), refl)), (at SolverOptions (n + 1) j i u t p, (tt, refl), rest.1)), rest.2)

abbrev named : Option (List ℕ) → Options
named job = record no_options { job = job }

abbrev timed : Option (List ℕ) → Option Frac → Options
timed job seconds = record no_options { job = job; seconds = seconds }

abbrev begun : Option (List ℕ) → Option Frac → Option (List (Option Frac)) → Options
begun job seconds first = record no_options { job = job; seconds = seconds; first = first }

-- a limit whose option isn't told has the amount that it has without it
untold : (always : Bool) (n d : ℕ) → (always || not (n == d)) ≡ false → n ≡ d
untold true n d e = absurd (cc)
untold false n d e = eqb-true n d (not-false (n == d) e)

told_or_not : (o q : Options) (l : Limit) (ls : List Limit) → with_amount q l (limit_row l).default ≡ q → with_amounts q o (filter (is_told o) (l ∷ ls)) ≡ with_amounts (with_amount q l (amount o l)) o (filter (is_told o) ls)
told_or_not o q l ls same = by (is_told o l) refl
  where
    by : (b : Bool) → is_told o l ≡ b → with_amounts q o (filter (is_told o) (l ∷ ls)) ≡ with_amounts (with_amount q l (amount o l)) o (filter (is_told o) ls)
    by true e = rw e refl
    by false e =
        rw e (ap (λ (p : Options). with_amounts p o (filter (is_told o) ls))
        (sym same ∙ ap (λ (n : ℕ). with_amount q l n) (sym (untold (limit_row l).always (amount o l) (limit_row l).default e))))

-- so all that is told says the options
all_said : (job : Option (List ℕ)) (seconds : Option Frac) (first : Option (List (Option Frac))) (gap : Option Gap) (amounts : Limit → ℕ) → made job seconds first gap amounts ≡ record (with_amounts (begun job seconds first) (made job seconds first gap amounts) (told_limits (made job seconds first gap amounts))) { gap = gap }
all_said job seconds first gap amounts =
    let o = made job seconds first gap amounts in
    let limited = with_amount (with_amount (begun job seconds first) limits.Nodes o.nodes) limits.Turns o.turns in
    let rounded = with_amount limited Rounds o.rounds in
    let labelled = with_amount rounded Names o.names in
    let formed = with_amount labelled Form o.form in
    let told = told_or_not o limited Rounds (Names ∷ Form ∷ Bound ∷ []) refl ∙ told_or_not o rounded Names (Form ∷ Bound ∷ []) refl ∙ told_or_not o labelled Form (Bound ∷ []) refl ∙ told_or_not o formed Bound [] refl in
    ap (λ (p : Options). let z : Options = record p { gap = gap } in z) (sym told)

-- ---- the first values

abbrev value_of_var : ℕ → Frac → List Attribute
value_of_var n x = with_attribute (codes "idx") (decimal n) (with_attribute (codes "value") (ratio_text (ratio x)) [])

-- options with the values so far
abbrev with_cut : Options → List (Option Frac) → Options
with_cut q us = record q { first = cut_values us }

index_is : (n : ℕ) (x : Frac) → n < most_variables → SaysIndex (value_of_var n x) n
index_is n x low = (count_read n (omega (arith, low)), low)

value_is : (n : ℕ) (x : Frac) → SaysValue (value_of_var n x) x
value_is n x = amount_read x

-- behind the values us the values vs are read
values_say : (vs us : List (Option Frac)) (d n j i u : ℕ) (t : List ℕ) (o q : Options) (es : List Event) → d ≡ length us → length us + length vs ≤ most_variables → ((k : ℕ) → Say (at InitialValues k j i u t (with_cut q (us ++ vs))) (spread es) o)
    → Say (at InitialValues n j i u t (with_cut q us)) (spread (nodes_events (values_nodes d vs) es)) o
values_say [] us d n j i u t o q es e few more = subst (λ (l : List (Option Frac)). Say (at InitialValues n j i u t (with_cut q l)) (spread es) o) (append-nil us) (more n)
values_say (None ∷ vs) us d n j i u t o q es e few more =
    let long = length-append us (None ∷ []) in
    let rest = values_say vs (us ++ None ∷ []) (d + 1) n j i u t o q es (omega (arith, e, long)) (omega (arith, few, long))
    (λ k. subst (λ (l : List (Option Frac)). Say (at InitialValues k j i u t (with_cut q l)) (spread es) o) (sym (append_assoc us (None ∷ []) vs)) (more k)) in
    subst (λ (f : Option (List (Option Frac))). Say (at InitialValues n j i u t (record q { first = f })) (spread (nodes_events (values_nodes (d + 1) vs) es)) o) (cut_none us) rest
values_say (Some x ∷ vs) us d n j i u t o q es e few more =
    let long = length-append us (Some x ∷ []) in
    let low : d < most_variables = omega (arith, e, few) in
    let rest = values_say vs (us ++ Some x ∷ []) (d + 1) (n + 1) j i u t o q es (omega (arith, e, long)) (omega (arith, few, long))
    (λ k. subst (λ (l : List (Option Frac)). Say (at InitialValues k j i u t (with_cut q l)) (spread es) o) (sym (append_assoc us (Some x ∷ []) vs)) (more k)) in
    let same : more_first (cut_values us) d x ≡ cut_values (us ++ Some x ∷ []) = ap (λ (k : ℕ). more_first (cut_values us) k x) e ∙ cut_more us x ∙ sym (cut_some us x) in
    let there = subst (λ (f : Option (List (Option Frac))). Say (at InitialValues (n + 1) j i u t (record q { first = f })) (spread (nodes_events (values_nodes (d + 1) vs) es)) o) (sym same) rest in
    let as' = value_of_var d x in
    let index = index_is d x low in
    let twice = λ (bad : (m : ℕ) × SaysIndex as' m × HasFirst (cut_values us) m). not_yet us (subst (λ (m : ℕ). HasFirst (cut_values us) m) (index_once as' bad.0 d bad.1 index ∙ e) bad.2) in
    let p = record q { first = more_first (cut_values us) d x } in
    (there.0, (at Var (n + 1) j i u t p, ((λ bad. bad d index, (twice, (λ bad. bad x (value_is d x), tt))), (d, x, index, value_is d x, refl)), (at InitialValues (n + 1) j i u t p, (tt, refl), there.1)), there.2)

-- all of them, if there are any, and then more
first_says : (first : Option (List (Option Frac))) (n j i u : ℕ) (t : List ℕ) (o q : Options) (behind : tree.Nodes) (es : List Event) → AreFirstOrNone first → ((k : ℕ) → Say (at Optimization k j i u t (record q { first = first })) (spread (nodes_events behind es)) o)
    → Say (at Optimization n j i u t (record q { first = None })) (spread (nodes_events (first_nodes first behind) es)) o
first_says None n j i u t o q behind es are more = more n
first_says (Some vs) n j i u t o q behind es are more =
    let few = are.few in
    let rest = values_say vs [] 0 (n + 1 + 1) j i u t o q (Close (codes "initialVariableValues") ∷ Close (codes "variables") ∷ nodes_events behind es) refl (omega (arith, few))
    (λ k.
    let tail = subst (λ (f : Option (List (Option Frac))). Say (at Optimization k j i u t (record q { first = f })) (spread (nodes_events behind es)) o) (sym (cut_all vs are.some are.last)) (more k) in
    (tail.0, (at Variables k j i u t (with_cut q vs), (tt, refl), (at Optimization k j i u t (with_cut q vs), (tt, refl), tail.1)), tail.2)) in
    (rest.0, (at Variables (n + 1) j i u t (record q { first = None }), (tt, refl), (at InitialValues (n + 1 + 1) j i u t (record q { first = None }), (tt, refl), rest.1)), rest.2)

-- and what stands round them
optimization_says : (n j i u : ℕ) (t : List ℕ) (o q : Options) → q.gap ≡ None → AreFirstOrNone o.first → IsGapOrNone o.gap → AreWithin o → o ≡ record (with_amounts (record q { first = o.first }) o (told_limits o)) { gap = o.gap }
    → Say (at Osol n j i u t (record q { first = None })) (spread (nodes_events (optimization o) (Close (codes "osol") ∷ []))) o
optimization_says n j i u t o q none are above within is =
    let r = record q { first = o.first } in
    let p = with_amounts r o (told_limits o) in
    let z : Options = record p { gap = o.gap } in
    let ends = Close (codes "solverOptions") ∷ Close (codes "optimization") ∷ Close (codes "osol") ∷ [] in
    let gap = λ (m : ℕ). gap_says o.gap m j i u t o p ends (gap_stays r o (told_limits o) ∙ none) above
    (λ k. (at Outside k j i u t z, (at Optimization k j i u t z, (tt, refl), (at Osol k j i u t z, (tt, refl), (at Outside k j i u t z, (tt, refl), refl))), is)) in
    let limits = λ (m : ℕ). limits_say (told_limits o) (m + 1) j i u t o r (gap_nodes o.gap tree.none) ends within gap in
    let rest = first_says o.first (n + 1) j i u t o q (group (codes "solverOptions") (told_nodes o) tree.none) (Close (codes "optimization") ∷ Close (codes "osol") ∷ []) are
    (λ k. let told = limits k in (told.0, (at SolverOptions (k + 1) j i u t r, (tt, refl), told.1), told.2)) in
    (rest.0, (at Optimization (n + 1) j i u t (record q { first = None }), (tt, refl), rest.1), rest.2)

-- ---- the time

-- the marks of a text in a `maxTime`, and of what stands behind it
abbrev after_time : Options → List Event
after_time o = nodes_events (optimization o) (Close (codes "osol") ∷ [])

timed_says : (text : List ℕ) (s : Frac) (n j : ℕ) (t : List ℕ) (o q : Options) (es : List Event) → SaysTime 1 text s → Say (at Osol (n + 1 + 1) j (n + 1 + 1) 1 text (record q { seconds = Some s })) (spread es) o
    → Say (at Osol n j 0 1 t q) (spread (nodes_events (group (codes "job") (leaf (codes "maxTime") text tree.none) tree.none) es)) o
timed_says text s n j t o q es says more = by text says more
  where
    ended : (text : List ℕ) → SaysTime 1 text s → Say (at Osol (n + 1 + 1) j (n + 1 + 1) 1 text (record q { seconds = Some s })) (spread es) o → Say (at MaxTime (n + 1 + 1) j (n + 1 + 1) 1 text q) (Finish (codes "maxTime") ∷ Finish (codes "job") ∷ spread es) o
    ended text says more = (more.0, (at Job (n + 1 + 1) j (n + 1 + 1) 1 text (record q { seconds = Some s }), ((λ bad. bad s says, tt), (s, says, refl)), (at Osol (n + 1 + 1) j (n + 1 + 1) 1 text (record q { seconds = Some s }), (tt, refl), more.1)), more.2)

    heard_says : (text : List ℕ) → SaysTime 1 text s → Say (at Osol (n + 1 + 1) j (n + 1 + 1) 1 text (record q { seconds = Some s })) (spread es) o → Say (at MaxTime (n + 1 + 1) j (n + 1 + 1) 1 [] q) (map Char text ++ (Finish (codes "maxTime") ∷ Finish (codes "job") ∷ spread es)) o
    heard_says text says more =
        let rest = ended text says more in
        (rest.0, taken_both osol (at MaxTime (n + 1 + 1) j (n + 1 + 1) 1 [] q) (at MaxTime (n + 1 + 1) j (n + 1 + 1) 1 text q) rest.0 (map Char text) (Finish (codes "maxTime") ∷ Finish (codes "job") ∷ spread es) (chars_taken osol (λ (t : List ℕ). at MaxTime (n + 1 + 1) j (n + 1 + 1) 1 t q) true (λ t c. (tt, refl)) [] text) rest.1, rest.2)

    opened : (ms : List Mark) → Say (at MaxTime (n + 1 + 1) j (n + 1 + 1) 1 [] q) ms o → Say (at Osol n j 0 1 t q) (Start (codes "job") [] ∷ Start (codes "maxTime") [] ∷ ms) o
    opened ms rest = (rest.0, (at Job (n + 1) j 0 1 t q, (tt, refl), (at MaxTime (n + 1 + 1) j (n + 1 + 1) 1 [] q, ((λ twice. omega (arith, twice), (λ other. cc, tt)), (1, refl, refl)), rest.1)), rest.2)

    by : (text : List ℕ) → SaysTime 1 text s → Say (at Osol (n + 1 + 1) j (n + 1 + 1) 1 text (record q { seconds = Some s })) (spread es) o → Say (at Osol n j 0 1 t q) (spread (nodes_events (group (codes "job") (leaf (codes "maxTime") text tree.none) tree.none) es)) o
    by [] says more = opened (Finish (codes "maxTime") ∷ Finish (codes "job") ∷ spread es) (heard_says [] says more)
    by (c ∷ cs) says more = opened (map Char (c ∷ cs) ++ (Finish (codes "maxTime") ∷ Finish (codes "job") ∷ spread es)) (heard_says (c ∷ cs) says more)

-- what stands behind the job's name says the time, if there is one, and the rest
rest_says : (job : Option (List ℕ)) (seconds : Option Frac) (first : Option (List (Option Frac))) (gap : Option Gap) (amounts : Limit → ℕ) (n j : ℕ) (t : List ℕ) → IsTimeOrNone seconds → AreFirstOrNone first → IsGapOrNone gap → AreWithin (made job seconds first gap amounts)
    → Say (at Osol n j 0 1 t (named job)) (spread (nodes_events (time_nodes seconds (optimization (made job seconds first gap amounts))) (Close (codes "osol") ∷ []))) (made job seconds first gap amounts)
rest_says job None first gap amounts n j t is are above within = optimization_says n j 0 1 t (made job None first gap amounts) (named job) refl are above within (all_said job None first gap amounts)
rest_says job (Some s) first gap amounts n j t is are above within =
    let o = made job (Some s) first gap amounts in
    let text = ratio_text (ratio s) in
    timed_says text s n j t o (named job) (after_time o) (time_read s is) (optimization_says (n + 1 + 1) j (n + 1 + 1) 1 text o (timed job (Some s)) refl are above within (all_said job (Some s) first gap amounts))

-- ---- the job's name

end_job : (name : List ℕ) (q o : Options) (ms : List Mark) → IsJobName name → Say (at General 3 3 0 1 name (record q { job = unless_empty name })) ms o → Say (at JobId 3 3 0 1 name q) (Finish (codes "jobID") ∷ ms) o
end_job name q o ms is more =
    let short = subst (λ (t : List ℕ). length t ≤ 256) (sym is.bare) is.short in
    let rest = subst (λ (t : List ℕ). Say (at General 3 3 0 1 name (record q { job = unless_empty t })) ms o) (sym is.bare) more in
    (rest.0, (_, (((λ long. omega (arith, short, long)), tt), refl), rest.1), rest.2)

named_says : (name : List ℕ) (q o : Options) (more : List Event) → IsJobName name → Say (at Osol 3 3 0 1 name (record q { job = unless_empty name })) (spread more) o
    → Say (at JobId 3 3 0 1 [] q) (map Char name ++ (Finish (codes "jobID") ∷ Finish (codes "general") ∷ spread more)) o
named_says name q o more is says =
    let rest = end_job name q o (Finish (codes "general") ∷ spread more) is (says.0, (at Osol 3 3 0 1 name (record q { job = unless_empty name }), (tt, refl), says.1), says.2) in
    (rest.0, taken_both osol (at JobId 3 3 0 1 [] q) (at JobId 3 3 0 1 name q) rest.0 (map Char name) (Finish (codes "jobID") ∷ Finish (codes "general") ∷ spread more) (chars_taken osol (λ (t : List ℕ). at JobId 3 3 0 1 t q) true (λ t c. (tt, refl)) [] name) rest.1, rest.2)

-- ---- the whole document

root_says : (job : Option (List ℕ)) (seconds : Option Frac) (first : Option (List (Option Frac))) (gap : Option Gap) (amounts : Limit → ℕ) → IsNameOrNone job → IsTimeOrNone seconds → AreFirstOrNone first → IsGapOrNone gap → AreWithin (made job seconds first gap amounts)
    → IsOptions (bare_root (codes "osol") (options_nodes (made job seconds first gap amounts))) (made job seconds first gap amounts)
root_says None seconds first gap amounts is time are above within =
    let rest = rest_says None seconds first gap amounts 1 0 [] time are above within in
    (rest.0, (at Osol 1 0 0 1 [] no_options, (tt, refl), rest.1), rest.2)
root_says (Some []) seconds first gap amounts is time are above within = absurd (is.some refl)
root_says (Some (c ∷ cs)) seconds first gap amounts is time are above within =
    let name = c ∷ cs in
    let o = made (Some name) seconds first gap amounts in
    let rest = named_says name no_options o (nodes_events (time_nodes seconds (optimization o)) (Close (codes "osol") ∷ [])) is (rest_says (Some name) seconds first gap amounts 3 3 name time are above within) in
    (rest.0, (at Osol 1 0 0 1 [] no_options, (tt, refl), (at General 2 0 0 1 [] no_options, (tt, refl), (at JobId 3 3 0 1 [] no_options, (((λ twice. omega (arith, twice)), tt), refl), rest.1))), rest.2)

pub text_says : (o : Options) → ComesBack o → IsOptionsText (options_text o) o
text_says o back = inr (
  text_not_blank o,
  record {
    root = bare_root (codes "osol") (options_nodes o);
    document = text_document o back;
    is = root_says o.job o.seconds o.first o.gap (amount o) back.job back.seconds back.first back.gap (λ l. (back.above l, back.below l));
  },
)
