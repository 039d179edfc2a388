-- The document that a report is written as reports it.
use Rattle.osrl_grammar.proofs.Names.{◌≡◌, ◌∙◌, ℕ, ◌+◌, Bool, true, false, ◌||◌, cond, Option, None, Some, List, [], ◌∷◌, ◌++◌, map, refl, ap, sym, subst, append-nil, append_assoc, codes, bytes_eq, is_some, length, AllZip, false≢true, Nodes, none, element, chars, Close, Start, Finish, trimmed, unless_empty, leaf, group, typed, TakesMark, Frac, Node, Cert, ProvedBound, Claim, Optimal, Infeasible, Unbounded, BestSoFar, Unsure, JobStatus, Report, Held, To, Part, Claiming, part_name, claiming_text, status_text, IsFraction, IsRound, IsCause, IsOutOfOrder, BadItem, next_level, cert, inl, inr, ◌⊎◌, ◌≤◌, ◌<◌, ◌^◌, ap₂, arith, lit≤, Ok, All, RoundComesBack, MayHaveTrees, TreesComeBack, State, nothing_held, start, has, items, status_of, report_with, nonempty, report_of, MayHoldItems, with_part, AddsItem, osrl, IsReport, IsReportText, row_values, values_part_unless_none, variable_values, values_part, point_values, goal_values, tree_values, dual_values, node_text, round_text, level_texts, cause_text, item_nodes, certificate_part, fraction_texts, point_parts, ray_part, rounds_part, tree_parts, trees_parts, bound_parts, cause_part, solution, claim_nodes, leaf_of, optimization, general_type, general_nodes, status_nodes, Labels, NameLists, AreXmlNames, no_names, named_element, named_text, report_text, told_text, document_limit, IsBareOrNone, BoundComesBack, CauseComesBack, ClaimComesBack, ComesBack, keeps, Round}
use Rattle.document_tags.specs.Writing.{only}
use Rattle.certificate.specs.declared.nodes.Node.TheVariants as nodes
use Rattle.certificate.specs.declared.causes.Cause as why
use Rattle.osrl_grammar.specs.declared.elements.Place.{Place}
use Rattle.osrl_grammar.specs.declared.elements.Place.TheVariants as places
use Rattle.osrl_writing.specs.declared.parts.Part.TheVariants as parts
use Rattle.osrl_writing.specs.declared.parts.Claiming.TheVariants as claiming
use Rattle.std.specs.Prelude.{IsSome}
use Rattle.std.proofs.lemmas.List.{length-append}
use Rattle.certificate.specs.Nodes.{certs_of}
use Rattle.osrl_grammar.specs.Adding.{first_level}
use Rattle.osrl_grammar.specs.Saying.{has_one_level, told_claim}
use Rattle.osrl_grammar.specs.Table.{part_led}
use Rattle.osrl_grammar.proofs.WordValues.{each_status}
use Rattle.osrl_grammar.proofs.SoundStates.{may_have, certs_in}
use Rattle.osrl_grammar.proofs.TreeTexts.{item_added, IsSilent, never_noted, Adds, holding, before_last, last_nodes, trees_add, trees_are}
use Rattle.osrl_grammar.proofs.FewLevels.{levels_few}
use Rattle.osrl_grammar.proofs.Steps.{start_in}
use Rattle.osrl_grammar.proofs.Goings.{at, Goes, goes_none, goes_element, goes_leaf, goes_past}
use Rattle.osrl_grammar.proofs.BackItems.{cause_back, fractions_back, rounds_back}
use Rattle.osrl_grammar.proofs.BackText.{root_of, named_document, text_document}
use Rattle.std.proofs.lemmas.Bool.{leb-true}
use Rattle.std.specs.Prelude.{nat_le}

-- those of a list, in whatever part it is held
adds_all : {X : Type 0} (type : Option (List ℕ)) (p : Part) (put : List X → Held) (Is : List ℕ → X → Type 0) → ((text : List ℕ) (h : Held) → IsOutOfOrder (next_level h) p text → ⊥) → ((text : List ℕ) → IsSilent type p text) → ((before : List X) (text : List ℕ) (x : X) → Is text x → AddsItem p text (put before) (put (before ++ x ∷ []))) → (texts : List (List ℕ)) (xs : List X) → AllZip Is texts xs → (before : List X) → Adds type p texts (put before) (put (before ++ xs))
adds_all type p put Is order silent one [] [] each before = ap put (append-nil before)
adds_all type p put Is order silent one [] (x ∷ xs) each before = absurd each
adds_all type p put Is order silent one (t ∷ ts) [] each before = absurd each
adds_all {X} type p put Is order silent one (t ∷ ts) (x ∷ xs) each before = (
  put (before ++ x ∷ []),
  item_added p t (put before) (put (before ++ x ∷ [])) (order t (put before)) (one before t x each.0),
  silent t,
  subst (λ (l : List X). Adds type p ts (put (before ++ x ∷ [])) (put l)) (append_assoc before (x ∷ []) xs) (adds_all type p put Is order silent one ts xs each.1 (before ++ x ∷ [])),
)

-- in a solution whose status has this type and whose parts hold so much
abbrev solving : State → Place → Option (List ℕ) → Held → State
solving s p type h = record s { place = p; depth = 0; claiming = type; has_solution = true; twice = false; level = None; bad = None; held = h }

items_go : (p : Part) (texts : List (List ℕ)) (s : State) (type : Option (List ℕ)) (h k : Held) → Adds type p texts h k → Goes (item_nodes texts) (solving s (places.Result p) type h) (solving s (places.Result p) type k)
items_go p [] s type h k adds = subst (λ (x : Held). Goes none (solving s (places.Result p) type h) (solving s (places.Result p) type x)) (sym adds) (goes_none (solving s (places.Result p) type h))
items_go p (text ∷ more) s type h k (m, one, silent, rest) =
    let inside : State = solving s (places.Item p) type h in
    let behind : State = solving s (places.Result p) type m in
    goes_leaf (codes "item") text (item_nodes more) (solving s (places.Result p) type h) inside behind (solving s (places.Result p) type k) (λ n t. (n + 1, (tt, refl))) refl
    (λ n. (tt, (Ok m, one, ap (λ (b : Bool). let y : State = record (at behind n text) { level = first_level b None n } in y) (sym silent)))) (items_go p more s type m k rest)

-- a part that holds a list
part_leads : (p : Part) → part_led (part_name p) ≡ To (places.Result p)
part_leads parts.Point = refl
part_leads parts.Value = refl
part_leads parts.Ray = refl
part_leads parts.Cause = refl
part_leads parts.Bound = refl
part_leads parts.Rounds = refl
part_leads parts.Tree = refl

part_adds : (p : Part) (texts : List (List ℕ)) (s : State) (type : Option (List ℕ)) (h k : Held) (more : Nodes) (z : State) → has h p ≡ false → Adds type p texts (with_part p h) k → Goes more (solving s places.Results type k) z → Goes (certificate_part p texts more) (solving s places.Results type h) z
part_adds p texts s type h k more z first adds behind =
    let name = codes "otherSolutionResult" in
    let as' = only (codes "name") (part_name p) in
    let old : State = solving s places.Results type h in
    let inside : State = solving s (places.Result p) type (with_part p h) in
    goes_element name as' (item_nodes texts) more old inside (solving s (places.Result p) type k) (solving s places.Results type k) z
    (λ n t. (n, [], start_in (at old n t) name as' (places.Result p) (part_leads p) (at inside n []) (ap (λ (b : Bool). let y : State = record (at inside n []) { twice = b || false } in y) (sym first))))
    (items_go p texts s type (with_part p h) k adds) (λ n t. (tt, refl)) behind

module _ {X : Type 0} (p : Part) (put : List X → Held) (Is : List ℕ → X → Type 0) (order : (text : List ℕ) (h : Held) → IsOutOfOrder (next_level h) p text → ⊥) (silent : (type : Option (List ℕ)) (text : List ℕ) → IsSilent type p text) (one : (before : List X) (text : List ℕ) (x : X) → Is text x → AddsItem p text (put before) (put (before ++ x ∷ []))) where
  part_goes : (texts : List (List ℕ)) (xs : List X) → AllZip Is texts xs → (s : State) (type : Option (List ℕ)) (h : Held) (more : Nodes) (z : State) → has h p ≡ false → with_part p h ≡ put [] → Goes more (solving s places.Results type (put xs)) z → Goes (certificate_part p texts more) (solving s places.Results type h) z
  part_goes texts xs each s type h more z first begins behind =
      part_adds p texts s type h (put xs) more z first (subst (λ (k : Held). Adds type p texts k (put xs)) (sym begins) (adds_all type p put Is order (silent type) one texts xs each [])) behind

-- what the parts of a claim hold
abbrev held_point : List Frac → List Frac → Held
held_point x vs = record nothing_held { has_point = true; has_value = true; point = x; values = vs }

abbrev are_some : List Round → Bool
are_some [] = false
are_some (r ∷ rs) = true

abbrev with_tree : Cert → List Cert → Held → Held
with_tree c cs h = record h { has_rounds = are_some c.rounds; rounds = c.rounds; has_tree = true; levels = before_last [] c.nodes cs; tree = last_nodes c.nodes cs }

abbrev with_trees : List Cert → Held → Held
with_trees [] h = h
with_trees (c ∷ cs) h = with_tree c cs h

abbrev with_ray : List Frac → Held → Held
with_ray r h = record h { has_ray = true; ray = r }

abbrev with_cause : why.Cause → Held → Held
with_cause c h = record h { has_cause = true; causes = c ∷ [] }

abbrev with_bound : Option ProvedBound → Held → Held
with_bound None h = h
with_bound (Some b) h = with_tree b.cert [] (record h { has_bound = true; bounds = b.number ∷ [] })

abbrev held_of : Claim → Held
held_of (Optimal x vs cs) = with_trees cs (held_point x vs)
held_of (Infeasible c) = with_tree c [] nothing_held
held_of (Unbounded x vs cs r) = with_trees cs (with_ray r (held_point x vs))
held_of (BestSoFar x vs c b) = with_bound b (with_cause c (held_point x vs))
held_of (Unsure c b) = with_bound b (with_cause c nothing_held)

module _ (s : State) (type : Option (List ℕ)) where
  fractions_go : (p : Part) (put : List Frac → Held) → ((text : List ℕ) (h : Held) → IsOutOfOrder (next_level h) p text → ⊥) → ((t : Option (List ℕ)) (text : List ℕ) → IsSilent t p text) → ((before : List Frac) (text : List ℕ) (x : Frac) → IsFraction text x → AddsItem p text (put before) (put (before ++ x ∷ []))) → (xs : List Frac) (h : Held) (more : Nodes) (z : State) → has h p ≡ false → with_part p h ≡ put [] → Goes more (solving s places.Results type (put xs)) z → Goes (certificate_part p (fraction_texts xs) more) (solving s places.Results type h) z
  fractions_go p put order silent one xs h more z first begins behind = part_goes p put IsFraction order silent one (fraction_texts xs) xs (fractions_back xs) s type h more z first begins behind

  points_go : (x vs : List Frac) (more : Nodes) (z : State) → Goes more (solving s places.Results type (held_point x vs)) z → Goes (point_parts x vs more) (solving s places.Results type nothing_held) z
  points_go x vs more z behind =
      let points : List Frac → Held = λ l. record nothing_held { has_point = true; point = l } in
      let values : List Frac → Held = λ l. record (points x) { has_value = true; values = l } in
      fractions_go parts.Point points (λ text h bad. bad) (λ t text. never_noted (has_one_level true true t)) (λ before t y is. (y, is, refl)) x nothing_held (certificate_part parts.Value (fraction_texts vs) more) z refl refl
      (fractions_go parts.Value values (λ text h bad. bad) (λ t text. never_noted (has_one_level true true t)) (λ before t y is. (y, is, refl)) vs (points x) more z refl refl behind)

  ray_goes : (x vs r : List Frac) (more : Nodes) (z : State) → Goes more (solving s places.Results type (with_ray r (held_point x vs))) z → Goes (ray_part r more) (solving s places.Results type (held_point x vs)) z
  ray_goes x vs r more z behind = fractions_go parts.Ray (λ l. with_ray l (held_point x vs)) (λ text h bad. bad) (λ t text. never_noted (has_one_level true true t)) (λ before t y is. (y, is, refl)) r (held_point x vs) more z refl refl behind

  rounds_go : (rs : List Round) (h : Held) (more : Nodes) (z : State) → All RoundComesBack rs → h.has_rounds ≡ false → h.rounds ≡ [] → Goes more (solving s places.Results type (record h { has_rounds = are_some rs; rounds = rs })) z → Goes (rounds_part rs more) (solving s places.Results type h) z
  rounds_go [] h more z back first empty behind = subst (λ (g : Held). Goes more (solving s places.Results type g) z) (ap₂ (λ (b : Bool) (rs : List Round). let g : Held = record h { has_rounds = b; rounds = rs } in g) (sym first) (sym empty)) behind
  rounds_go (r ∷ rs) h more z back first empty behind =
      part_goes parts.Rounds (λ l. record h { has_rounds = true; rounds = l }) IsRound (λ text g bad. bad) (λ t text. never_noted (has_one_level true true t)) (λ before t y is. (y, is, refl)) (map round_text (r ∷ rs)) (r ∷ rs) (rounds_back (r ∷ rs) back) s type h more z first (ap (λ (l : List Round). let g : Held = record h { has_rounds = true; rounds = l } in g) empty) behind

  tree_goes : (h : Held) (c : Cert) (cs : List Cert) → h.has_rounds ≡ false → h.rounds ≡ [] → h.has_tree ≡ false → h.levels ≡ [] → h.tree ≡ [] → (has_one_level true true type ≡ false) ⊎ (cs ≡ []) → 2 + length cs ≤ 2 ^ 32 → TreesComeBack c cs → Goes (tree_parts c cs) (solving s places.Results type h) (solving s places.Results type (with_tree c cs h))
  tree_goes h c cs first empty begun before latest quiet few back =
      let own : Held = record h { has_rounds = are_some c.rounds; rounds = c.rounds } in
      let last : State = solving s places.Results type (with_tree c cs h) in
      let texts = map node_text c.nodes ++ level_texts 2 cs in
      let adds = trees_add type own c cs quiet few back.first back.levels in
      let as_begun = subst (λ (g : Held). Adds type parts.Tree texts g (with_tree c cs h)) (ap₂ (λ (ls : List Cert) (ns : List Node). holding own ls ns) (sym before) (sym latest)) adds in
      rounds_go c.rounds h (certificate_part parts.Tree texts none) last back.rounds first empty (part_adds parts.Tree texts s type own (with_tree c cs h) none last begun as_begun (goes_none last))

  trees_go : (h : Held) (cs : List Cert) → h.has_rounds ≡ false → h.rounds ≡ [] → h.has_tree ≡ false → h.levels ≡ [] → h.tree ≡ [] → has_one_level true true type ≡ false → 2 + length cs ≤ 2 ^ 32 → MayHaveTrees cs → Goes (trees_parts cs) (solving s places.Results type h) (solving s places.Results type (with_trees cs h))
  trees_go h [] first empty begun before latest quiet few back = goes_none (solving s places.Results type h)
  trees_go h (c ∷ cs) first empty begun before latest quiet few back = tree_goes h c cs first empty begun before latest (inl quiet) (omega (arith, few)) back

  cause_goes : (h : Held) (c : why.Cause) (more : Nodes) (z : State) → h.has_cause ≡ false → h.causes ≡ [] → CauseComesBack c → Goes more (solving s places.Results type (with_cause c h)) z → Goes (cause_part c more) (solving s places.Results type h) z
  cause_goes h c more z first empty back behind =
      let put : List why.Cause → Held = λ l. record h { has_cause = true; causes = l } in
      part_goes parts.Cause put IsCause (λ text g bad. bad) (λ t text. never_noted (has_one_level true true t)) (λ before t y is. (y, is, refl)) (cause_text c ∷ []) (c ∷ []) (cause_back c back, tt) s type h more z first (ap put empty) behind

  bound_goes : (h : Held) (b : Option ProvedBound) → h.has_bound ≡ false → h.bounds ≡ [] → h.has_rounds ≡ false → h.rounds ≡ [] → h.has_tree ≡ false → h.levels ≡ [] → h.tree ≡ [] → BoundComesBack b → Goes (bound_parts b) (solving s places.Results type h) (solving s places.Results type (with_bound b h))
  bound_goes h None first empty unrounded no_round begun before latest back = goes_none (solving s places.Results type h)
  bound_goes h (Some b) first empty unrounded no_round begun before latest back =
      let put : List Frac → Held = λ l. record h { has_bound = true; bounds = l } in
      fractions_go parts.Bound put (λ text g bad. bad) (λ t text. never_noted (has_one_level true true t)) (λ before t y is. (y, is, refl)) (b.number ∷ []) h (tree_parts b.cert []) (solving s places.Results type (with_bound (Some b) h)) first (ap put empty)
      (tree_goes (put (b.number ∷ [])) b.cert [] unrounded no_round begun before latest (inr refl) (lit≤ tt) back)

  -- numbers for people are passed over
  abbrev Passes : (Nodes → Nodes) → Type 0
  Passes values = (more : Nodes) (z : State) → Goes more (solving s places.Solution type nothing_held) z → Goes (values more) (solving s places.Solution type nothing_held) z

  point_passes : (ls : Labels) (x vs : List Frac) → Passes (point_values ls x vs)
  point_passes ls x vs = λ more z behind.
      let here : State = solving s places.Solution type nothing_held in
      let objectives = values_part (codes "objectives") (codes "values") (goal_values 1 vs) more in
      goes_past (codes "variables") [] (group (codes "values") (variable_values ls 0 x) none) objectives here z refl
      (goes_past (codes "objectives") [] (group (codes "values") (goal_values 1 vs) none) more here z refl behind)

  rows_pass : (rows : Nodes) → Passes (values_part_unless_none (codes "constraints") (codes "dualValues") rows)
  rows_pass none = λ more z behind. behind
  rows_pass (element n as' children rest) = λ more z behind. goes_past (codes "constraints") [] (group (codes "dualValues") (element n as' children rest) none) more (solving s places.Solution type nothing_held) z refl behind
  rows_pass (chars text rest) = λ more z behind. goes_past (codes "constraints") [] (group (codes "dualValues") (chars text rest) none) more (solving s places.Solution type nothing_held) z refl behind

  tree_passes : (ls : Labels) (n : ℕ) (rs : List Round) (ns : List Node) → Passes (tree_values ls n rs ns)
  tree_passes ls n (r ∷ rs) ns = λ more z behind. behind
  tree_passes ls n [] [] = λ more z behind. behind
  tree_passes ls n [] (nodes.Split j k ∷ ns) = λ more z behind. behind
  tree_passes ls n [] (nodes.Zero j ∷ ns) = λ more z behind. behind
  tree_passes ls n [] (nodes.Clash c ∷ ns) = λ more z behind. behind
  tree_passes ls n [] (nodes.Farkas ms ∷ ns) = λ more z behind. behind
  tree_passes ls n [] (nodes.Grid g ms ∷ ns) = λ more z behind. behind
  tree_passes ls n [] (nodes.FarkasRows ms ∷ ns) = λ more z behind. behind
  tree_passes ls n [] (nodes.GridRows g ms ∷ ns) = λ more z behind. behind
  tree_passes ls n [] (nodes.Bound ms ∷ []) = rows_pass (row_values ls n ms)
  tree_passes ls n [] (nodes.Bound ms ∷ m ∷ ns) = λ more z behind. behind
  tree_passes ls n [] (nodes.BoundRows ms ∷ []) = rows_pass (row_values ls n ms)
  tree_passes ls n [] (nodes.BoundRows ms ∷ m ∷ ns) = λ more z behind. behind

  duals_pass : (ls : Labels) (n : ℕ) (vs : List Frac) (cs : List Cert) → Passes (dual_values ls n vs cs)
  duals_pass ls n [] cs = λ more z behind. behind
  duals_pass ls n (v ∷ w ∷ vs) cs = λ more z behind. behind
  duals_pass ls n (v ∷ []) [] = λ more z behind. behind
  duals_pass ls n (v ∷ []) (c ∷ []) = tree_passes ls n c.rounds c.nodes
  duals_pass ls n (v ∷ []) (c ∷ d ∷ cs) = λ more z behind. behind

-- A SOLUTION, from its status on
solution_goes : (s : State) (c : Claiming) (certificate : Nodes) (values : Nodes → Nodes) (h : Held) → Passes s (Some (claiming_text c)) values → Goes certificate (solving s places.Results (Some (claiming_text c)) nothing_held) (solving s places.Results (Some (claiming_text c)) h) → Goes (solution c certificate values) (solving s places.Solution None nothing_held) (solving s places.Solution (Some (claiming_text c)) h)
solution_goes s c certificate values h shows holds =
    let type : Option (List ℕ) = Some (claiming_text c) in
    let results = group (codes "otherSolutionResults") certificate none in
    let said : State = solving s places.SolutionStatus type nothing_held in
    let last : State = solving s places.Solution type h in
    goes_element (codes "status") (only (codes "type") (claiming_text c)) none (values results) (solving s places.Solution None nothing_held) said said (solving s places.Solution type nothing_held) last (λ n t. (n, [], (tt, refl))) (goes_none said) (λ n t. (tt, refl))
    (shows results last (goes_element (codes "otherSolutionResults") [] certificate none (solving s places.Solution type nothing_held) (solving s places.Results type nothing_held) (solving s places.Results type h) last last (λ n t. (n, [], (tt, refl))) holds (λ n t. (tt, refl)) (goes_none last)))

abbrev claimed_as : Claim → Claiming
claimed_as (Optimal x vs cs) = claiming.Optimal
claimed_as (Infeasible c) = claiming.Infeasible
claimed_as (Unbounded x vs cs r) = claiming.Unbounded
claimed_as (BestSoFar x vs c b) = claiming.BestSoFar
claimed_as (Unsure c b) = claiming.Unsure

claim_goes : (s : State) (ns : NameLists) (c : Claim) → ClaimComesBack (Some c) → 2 + length (certs_of c) ≤ 2 ^ 32 → Goes (claim_nodes ns c) (solving s places.Solution None nothing_held) (solving s places.Solution (Some (claiming_text (claimed_as c))) (held_of c))
claim_goes s ns (Optimal x vs cs) back few =
    let type : Option (List ℕ) = Some (claiming_text claiming.Optimal) in
    let last : Held = held_of (Optimal x vs cs) in
    solution_goes s claiming.Optimal (point_parts x vs (trees_parts cs)) (λ more. point_values ns.variables x vs (dual_values ns.rows (length x) vs cs more)) last (λ more z behind. point_passes s type ns.variables x vs (dual_values ns.rows (length x) vs cs more) z (duals_pass s type ns.rows (length x) vs cs more z behind))
    (points_go s type x vs (trees_parts cs) (solving s places.Results type last) (trees_go s type (held_point x vs) cs refl refl refl refl refl refl few (may_have cs back.1)))
claim_goes s ns (Infeasible c) back few = solution_goes s claiming.Infeasible (tree_parts c []) (λ more. more) (held_of (Infeasible c)) (λ more z behind. behind) (tree_goes s (Some (claiming_text claiming.Infeasible)) nothing_held c [] refl refl refl refl refl (inr refl) (omega (arith, few)) back)
claim_goes s ns (Unbounded x vs cs r) back few =
    let type : Option (List ℕ) = Some (claiming_text claiming.Unbounded) in
    let last : Held = held_of (Unbounded x vs cs r) in
    solution_goes s claiming.Unbounded (point_parts x vs (ray_part r (trees_parts cs))) (point_values ns.variables x vs) last (point_passes s type ns.variables x vs)
    (points_go s type x vs (ray_part r (trees_parts cs)) (solving s places.Results type last) (ray_goes s type x vs r (trees_parts cs) (solving s places.Results type last) (trees_go s type (with_ray r (held_point x vs)) cs refl refl refl refl refl refl few back.1)))
claim_goes s ns (BestSoFar x vs c b) back few =
    let type : Option (List ℕ) = Some (claiming_text claiming.BestSoFar) in
    let last : Held = held_of (BestSoFar x vs c b) in
    let rest = cause_part c (bound_parts b) in
    let bounds = bound_goes s type (with_cause c (held_point x vs)) b refl refl refl refl refl refl refl back.2 in
    solution_goes s claiming.BestSoFar (point_parts x vs rest) (point_values ns.variables x vs) last (point_passes s type ns.variables x vs) (points_go s type x vs rest (solving s places.Results type last) (cause_goes s type (held_point x vs) c (bound_parts b) (solving s places.Results type last) refl refl back.1 bounds))
claim_goes s ns (Unsure c b) back few =
    let type : Option (List ℕ) = Some (claiming_text claiming.Unsure) in
    let last : Held = held_of (Unsure c b) in
    let bounds = bound_goes s type (with_cause c nothing_held) b refl refl refl refl refl refl refl back.1 in
    solution_goes s claiming.Unsure (cause_part c (bound_parts b)) (λ more. more) last (λ more z behind. behind) (cause_goes s type nothing_held c (bound_parts b) (solving s places.Results type last) refl refl back.0 bounds)

-- the claim, if there is one
abbrev type_in : Option Claim → Option (List ℕ)
type_in None = None
type_in (Some c) = Some (claiming_text (claimed_as c))

abbrev held_in : Option Claim → Held
held_in None = nothing_held
held_in (Some c) = held_of c

abbrev claimed : State → Option Claim → State
claimed s o = record s { place = places.Osrl; depth = 0; claiming = type_in o; has_solution = is_some o; twice = false; level = None; bad = None; held = held_in o }

optimization_goes : (s : State) (ns : NameLists) (o : Option Claim) → ClaimComesBack o → 2 + length (certs_in o) ≤ 2 ^ 32 → Goes (optimization ns o) (claimed s None) (claimed s o)
optimization_goes s ns None back few = goes_none (claimed s None)
optimization_goes s ns (Some c) back few =
    let type : Option (List ℕ) = Some (claiming_text (claimed_as c)) in
    let before : State = record (claimed s None) { place = places.Optimization } in
    let behind : State = solving s places.Optimization type (held_of c) in
    let last : State = claimed s (Some c) in
    goes_element (codes "optimization") [] (group (codes "solution") (claim_nodes ns c) none) none (claimed s None) before behind last last (λ n t. (n, [], (tt, refl)))
    (goes_element (codes "solution") [] (claim_nodes ns c) none before (solving s places.Solution None nothing_held) (solving s places.Solution type (held_of c)) behind behind (λ n t. (n, [], (tt, refl))) (claim_goes s ns c back few) (λ n t. (tt, refl)) (goes_none behind)) (λ n t. (tt, refl)) (goes_none last)

-- WHAT IS SAID IN GENERAL, and of the job
abbrev told : Bool → (job message status : Option (List ℕ)) → Place → State
told error job message status p = record start { place = p; general = Some (general_type error); job = job; message = message; status = status }

said_goes : (name : List ℕ) (p : Place) (put : Option (List ℕ) → State) → keeps (put None).depth p ≡ true → ((n : ℕ) (t : List ℕ) → (i : ℕ) × TakesMark osrl (at (put None) n t) (Start name []) (at (record (put None) { place = p }) i [])) → ((n : ℕ) (text : List ℕ) → TakesMark osrl (at (record (put None) { place = p }) n text) (Finish name) (at (put (Some (trimmed text))) n text)) → (o : Option (List ℕ)) → IsBareOrNone o → (more : Nodes) (z : State) → Goes more (put o) z → Goes (leaf_of name o more) (put None) z
said_goes name p put on begin end None bare more z behind = behind
said_goes name p put on begin end (Some text) bare more z behind =
    let inside : State = record (put None) { place = p } in
    goes_leaf name text more (put None) inside (put (Some text)) z begin on (λ n. subst (λ (w : List ℕ). TakesMark osrl (at inside n text) (Finish name) (at (put (Some w)) n text)) bare.bare (end n text)) behind

general_goes : (error : Bool) (job message : Option (List ℕ)) → IsBareOrNone job → IsBareOrNone message → Goes (typed (codes "generalStatus") (general_type error) (leaf_of (codes "jobID") job (leaf_of (codes "message") message none))) (record start { place = places.General }) (told error job message None places.General)
general_goes error job message bare plain =
    let last : State = told error job message None places.General in
    let said : State = told error None None None places.GeneralStatus in
    goes_element (codes "generalStatus") (only (codes "type") (general_type error)) none (leaf_of (codes "jobID") job (leaf_of (codes "message") message none)) (record start { place = places.General }) said said (told error None None None places.General) last (λ n t. (n, [], (tt, refl))) (goes_none said) (λ n t. (tt, refl))
    (said_goes (codes "jobID") places.JobId (λ j. told error j None None places.General) refl (λ n t. (n, (tt, refl))) (λ n text. (tt, refl)) job bare (leaf_of (codes "message") message none) last
    (said_goes (codes "message") places.Message (λ m. told error job m None places.General) refl (λ n t. (n, (tt, refl))) (λ n text. (tt, refl)) message plain none last (goes_none last)))

-- before the end of the root
abbrev reported : Report → State
reported r = claimed (told r.error r.job r.message (Some (status_text r.status)) places.Osrl) r.claim

children_go : (ns : NameLists) (r : Report) → ComesBack r → Goes (named_element ns r).children (record start { place = places.Osrl }) (reported r)
children_go ns r back =
    let with_status : Option (List ℕ) → Place → State = told r.error r.job r.message in
    let status : Option (List ℕ) = Some (status_text r.status) in
    goes_element (codes "general") [] (general_nodes r) (status_nodes r.status (optimization ns r.claim)) (record start { place = places.Osrl }) (record start { place = places.General }) (with_status None places.General) (with_status None places.Osrl) (reported r) (λ n t. (n, [], (tt, refl))) (general_goes r.error r.job r.message back.job back.message) (λ n t. (tt, refl))
    (goes_element (codes "job") [] (leaf (codes "status") (status_text r.status) none) (optimization ns r.claim) (with_status None places.Osrl) (with_status None places.Job) (with_status status places.Job) (with_status status places.Osrl) (reported r) (λ n t. (n, [], (tt, refl)))
    (goes_leaf (codes "status") (status_text r.status) none (with_status None places.Job) (with_status None places.JobStatus) (with_status status places.Job) (with_status status places.Job) (λ n t. (n, (tt, refl))) refl (λ n. (tt, refl)) (goes_none (with_status status places.Job))) (λ n t. (tt, refl)) (optimization_goes (with_status status places.Osrl) ns r.claim back.claim (levels_few r back)))

-- THE REPORT: no part is miscounted, and all are there
abbrev Miscounted : Held → Part → Type 0
Miscounted h p = (has h p ≡ true) × (MayHoldItems p (items h p) → ⊥)

value_counted : (o : Option Claim) → ClaimComesBack o → Miscounted (held_in o) parts.Value → ⊥
value_counted (Some (Optimal x vs [])) back m = back.1
value_counted (Some (Optimal x vs (c ∷ cs))) back m = m.1 back.0
value_counted (Some (Unbounded x vs [] r)) back m = m.1 back.0
value_counted (Some (Unbounded x vs (c ∷ cs) r)) back m = m.1 back.0
value_counted (Some (BestSoFar x vs c None)) back m = m.1 back.0
value_counted (Some (BestSoFar x vs c (Some b))) back m = m.1 back.0
value_counted (Some (Infeasible c)) back m = false≢true m.0
value_counted (Some (Unsure c None)) back m = false≢true m.0
value_counted (Some (Unsure c (Some b))) back m = false≢true m.0
value_counted None back m = false≢true m.0

-- a level before the last, or a node of the last
before_long : (ls : List Cert) (ns : List Node) (cs : List Cert) → length ls + length cs ≤ length (before_last ls ns cs)
before_long ls ns [] = omega arith
before_long ls ns (c ∷ cs) = let more = before_long (ls ++ cert [] ns ∷ []) c.nodes cs in let long = length-append ls (cert [] ns ∷ []) in omega (arith, more, long)

tree_some : (c : Cert) (cs : List Cert) → TreesComeBack c cs → 0 < length (before_last [] c.nodes cs) + length (last_nodes c.nodes cs)
tree_some c [] back = let some = back.some in omega (arith, some)
tree_some c (d ∷ cs) back = let long = before_long [] c.nodes (d ∷ cs) in omega (arith, long)

tree_counted : (o : Option Claim) → ClaimComesBack o → Miscounted (held_in o) parts.Tree → ⊥
tree_counted (Some (Optimal x vs [])) back m = back.1
tree_counted (Some (Optimal x vs (c ∷ cs))) back m = m.1 (tree_some c cs back.1)
tree_counted (Some (Infeasible c)) back m = m.1 (tree_some c [] back)
tree_counted (Some (Unbounded x vs [] r)) back m = false≢true m.0
tree_counted (Some (Unbounded x vs (c ∷ cs) r)) back m = m.1 (tree_some c cs back.1)
tree_counted (Some (BestSoFar x vs c None)) back m = false≢true m.0
tree_counted (Some (BestSoFar x vs c (Some b))) back m = m.1 (tree_some b.cert [] back.2)
tree_counted (Some (Unsure c None)) back m = false≢true m.0
tree_counted (Some (Unsure c (Some b))) back m = m.1 (tree_some b.cert [] back.1)
tree_counted None back m = false≢true m.0

cause_counted : (o : Option Claim) → Miscounted (held_in o) parts.Cause → ⊥
cause_counted (Some (BestSoFar x vs c None)) m = m.1 refl
cause_counted (Some (BestSoFar x vs c (Some b))) m = m.1 refl
cause_counted (Some (Unsure c None)) m = m.1 refl
cause_counted (Some (Unsure c (Some b))) m = m.1 refl
cause_counted (Some (Optimal x vs [])) m = false≢true m.0
cause_counted (Some (Optimal x vs (c ∷ cs))) m = false≢true m.0
cause_counted (Some (Infeasible c)) m = false≢true m.0
cause_counted (Some (Unbounded x vs [] r)) m = false≢true m.0
cause_counted (Some (Unbounded x vs (c ∷ cs) r)) m = false≢true m.0
cause_counted None m = false≢true m.0

bound_counted : (o : Option Claim) → Miscounted (held_in o) parts.Bound → ⊥
bound_counted (Some (BestSoFar x vs c (Some b))) m = m.1 refl
bound_counted (Some (Unsure c (Some b))) m = m.1 refl
bound_counted (Some (BestSoFar x vs c None)) m = false≢true m.0
bound_counted (Some (Unsure c None)) m = false≢true m.0
bound_counted (Some (Optimal x vs [])) m = false≢true m.0
bound_counted (Some (Optimal x vs (c ∷ cs))) m = false≢true m.0
bound_counted (Some (Infeasible c)) m = false≢true m.0
bound_counted (Some (Unbounded x vs [] r)) m = false≢true m.0
bound_counted (Some (Unbounded x vs (c ∷ cs) r)) m = false≢true m.0
bound_counted None m = false≢true m.0

error_said : (b : Bool) → bytes_eq (general_type b) (codes "error") ≡ b
error_said true = refl
error_said false = refl

unempty : (text : List ℕ) → (text ≡ [] → ⊥) → unless_empty text ≡ Some text
unempty [] some = absurd (some refl)
unempty (c ∷ cs) some = refl

bare_said : (o : Option (List ℕ)) → IsBareOrNone o → nonempty o ≡ o
bare_said None bare = refl
bare_said (Some text) bare = unempty text bare.some

claim_said : (s : State) (o : Option Claim) → ClaimComesBack o → told_claim (claimed s o) ≡ Some o
claim_said s None back = refl
claim_said s (Some (Optimal x vs [])) back = absurd back.1
claim_said s (Some (Optimal x vs (c ∷ cs))) back = ap (λ (l : List Cert). let o : Option (Option Claim) = Some (Some (Optimal x vs l)) in o) (trees_are c cs back.1.levels)
claim_said s (Some (Infeasible c)) back = refl
claim_said s (Some (Unbounded x vs [] r)) back = refl
claim_said s (Some (Unbounded x vs (c ∷ cs) r)) back = ap (λ (l : List Cert). let o : Option (Option Claim) = Some (Some (Unbounded x vs l r)) in o) (trees_are c cs back.1.levels)
claim_said s (Some (BestSoFar x vs c None)) back = refl
claim_said s (Some (BestSoFar x vs c (Some b))) back = refl
claim_said s (Some (Unsure c None)) back = refl
claim_said s (Some (Unsure c (Some b))) back = refl

all_said : (type : List ℕ) (e : Bool) (j k m l : Option (List ℕ)) (t : Option JobStatus) (s : JobStatus) (c : Option (Option Claim)) (o : Option Claim) → bytes_eq type (codes "error") ≡ e → j ≡ k → m ≡ l → t ≡ Some s → c ≡ Some o → report_with (Some type) j m t c ≡ Some (record { error = e; job = k; message = l; status = s; claim = o })
all_said type e j k m l t s c o error job message status claim = rw (status, claim, error, job, message) refl

report_said : (r : Report) → ComesBack r → report_of (reported r) ≡ Some r
report_said r back =
    let s : State = reported r in
    all_said (general_type r.error) r.error (nonempty r.job) r.job (nonempty r.message) r.message (status_of s) r.status (told_claim s) r.claim (error_said r.error) (bare_said r.job back.job) (bare_said r.message back.message) (each_status r.status) (claim_said (told r.error r.job r.message (Some (status_text r.status)) places.Osrl) r.claim back.claim)

-- and no item isn't read
none_bad : (b : Bool) → IsSome {T = BadItem} (cond b None None) → ⊥
none_bad true some = false≢true some
none_bad false some = false≢true some

root_ends : (r : Report) → ComesBack r → (n : ℕ) (t : List ℕ) → TakesMark osrl (at (reported r) n t) (Finish (codes "osrl")) (record start { report = r })
root_ends r back n t =
    let says : report_of (at (reported r) n t) ≡ Some r = report_said r back in
    ((none_bad (has_one_level false (held_in r.claim).has_bound (type_in r.claim)), (false≢true, (value_counted r.claim back.claim, (tree_counted r.claim back.claim, (cause_counted r.claim, (bound_counted r.claim, ((λ none. let clash : Some r ≡ None = sym says ∙ none in absurd (cc)), tt))))))), (r, says, refl))

root_reports : (ns : NameLists) (r : Report) → ComesBack r → IsReport (root_of ns r) r
root_reports ns r back =
    let last : State = record start { report = r } in
    let inside : State = record start { place = places.Osrl } in
    (last, (inside, (tt, refl), children_go ns r back (Close (codes "osrl") ∷ []) last (λ n t. (last, root_ends r back n t, refl)) 0 []), refl)

-- so does its text
pub text_comes_back : (r : Report) → ComesBack r → IsReportText (report_text r) r
text_comes_back r back = record { root = root_of no_names r; document = text_document r back; is = root_reports no_names r back }

-- and its text with names, where that is told
pub told_comes_back : (ns : NameLists) → AreXmlNames ns → (r : Report) → ComesBack r → IsReportText (told_text ns r) r
told_comes_back ns xml r back = go (nat_le (length (named_text ns r)) document_limit) refl
  where
    go : (b : Bool) → nat_le (length (named_text ns r)) document_limit ≡ b → IsReportText (cond b (named_text ns r) (report_text r)) r
    go true short = record { root = root_of ns r; document = named_document ns xml r back (leb-true (length (named_text ns r)) document_limit short); is = root_reports ns r back }
    go false long = text_comes_back r back
