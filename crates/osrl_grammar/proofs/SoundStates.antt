-- What the marks of a document leave comes back from what is written of it: its texts are of characters of XML, its nodes and causes hold numbers of their types, and there are at most as many nodes as elements.
use Rattle.osrl_grammar.proofs.Names.{◌≡◌, ◌∙◌, ℕ, zero, suc, ◌+◌, ◌-◌, ◌^◌, ◌<◌, ◌≤◌, inl, inr, Bool, true, false, cond, Option, None, Some, List, [], ◌∷◌, ◌++◌, map, length, refl, ap, sym, subst, arith, option_map, flat_map, append-nil, false≢true, true≢false, ◌&&◌, worded, claiming_text, Result, Ok, Err, Misread, NoShape, Field, bytes_eq, codes, All, AllZip, All-nil, All-cons, All-head, All-tail, All-append, IsXmlText, Attribute, Event, Close, Element, Nodes, none, element, chars, nodes_events, Char, spread, elements_in, trimmed, AllPass, AreTaken, Frac, nodes_of, Mult, Cert, Node, Split, Zero, Clash, Farkas, Bound, Grid, FarkasRows, BoundRows, GridRows, ProvedBound, Claim, Infeasible, JobStatus, Report, Held, Led, Part, Claiming, pieces, Pair, parted, node_word, cause_word, IsMultOf, IsMult, IsOne, SaysNode, TreeItem, tree_head, SaysTree, cause_head, SaysCause, BeginsWithWord, IsTreeItem, IsRound, IsCause, item_fields, ReadsTexts, IsItemRead, AfterItem, BadItem, noted, with_read, with_tree_item, bad_item, cert, certs, State, start, emptied, nothing_held, claim_as, report_with, report_of, nonempty, status_of, begins, ends, around, tests, leads, Fails, with_part, begun, first, AddsItem, Ends, Leaves, osrl, IsReport, TextsAreOfCharacters, HaveColumns, NodeComesBack, CauseComesBack, LevelComesBack, HasTrees, MayHaveTrees, TreesComeBack, BoundComesBack, ClaimComesBack, IsBareOrNone, end_kind, led_from, keeps, Round, RoundComesBack, SaysRound, round_head, round_word}
use Rattle.std.specs.Prelude.{option_and_then, IsSome}
use Rattle.std.proofs.lemmas.List.{length-append}
use Rattle.std.proofs.lemmas.List.Elements.{All-weaker}
use Rattle.std.proofs.lemmas.Grind.{flat_map-append}
use Rattle.std.proofs.lemmas.Slice.Eq.{bytes_eq-Decides}
use Rattle.certificate.specs.Nodes.{cert_of, certs_of}
use Rattle.doc_tree.proofs.Utf8.{no_text}
use Rattle.document_tags.specs.Characters.{NodesOfCharacters, IsOfCharacters}
use Rattle.certificate.specs.declared.nodes.Round.TheVariants as rounds
use Rattle.certificate.specs.declared.causes.Cause as why
use Rattle.certificate.specs.declared.causes.Cause.TheVariants as causes
use Rattle.tag_tests.specs.declared.places.Led.TheVariants as led
use Rattle.osrl_grammar.specs.declared.elements.Place.{Place}
use Rattle.osrl_grammar.specs.declared.elements.Place.TheVariants as places
use Rattle.osrl_writing.specs.declared.parts.Part.TheVariants as parts
use Rattle.osrl_writing.specs.declared.parts.Claiming.TheVariants as claiming
use Rattle.osrl_grammar.specs.declared.parts.TreeItem.TheVariants as trees
use Rattle.osrl_grammar.specs.Items.{begins_level, is_level}
use Rattle.osrl_grammar.specs.Adding.{first_level}
use Rattle.osrl_grammar.specs.Saying.{when, only, with_rounds, optimal, unbounded, bounded, bound_of, best_so_far, unsure, is_of_one_level, has_one_level, level_or, type_of, claiming_of}
use Rattle.osrl_grammar.specs.Words.{all_claimings}
use Rattle.osrl_grammar.proofs.BareTexts.{bare_of}
use Rattle.tag_tests.proofs.Forms.{taken_parts}
use Rattle.tag_tests.proofs.Characters.{chars_leave}
use Rattle.tag_tests.proofs.KeptTexts.{kept_xml}

-- THE NODES, ROUNDS AND CAUSES that are held come back, and of the nodes of all levels, and of the rounds, there are at most so many
abbrev level_nodes : List Cert → List Node
level_nodes cs = flat_map (λ (c : Cert). c.nodes) cs

pub record HeldFits (n : ℕ) (h : Held) : Type 0 where
  few : length (level_nodes h.levels) + length h.tree ≤ n
  rounds : length h.rounds ≤ n
  levels : All LevelComesBack h.levels
  tree : All NodeComesBack h.tree
  columns : All RoundComesBack h.rounds
  causes : All CauseComesBack h.causes

mults_back : (ps : List (List ℕ)) (ms : List Mult) → AllZip IsMult ps ms → HaveColumns ms
mults_back [] [] h = All-nil (λ (m : Mult). m.col < 2 ^ 32)
mults_back [] (m ∷ ms) h = absurd h
mults_back (p ∷ ps) [] h = absurd h
mults_back (p ∷ ps) (m ∷ ms) h = All-cons (λ (m : Mult). m.col < 2 ^ 32) m ms (col_back (parted p) m h.0) (mults_back ps ms h.1)
  where
    col_back : (o : Option Pair) (m : Mult) → IsMultOf o m → m.col < 2 ^ 32
    col_back None m h = absurd h
    col_back (Some p) m h = h.0.1

one_back : (ps : List (List ℕ)) (n : ℕ) → IsOne ps n → n < 2 ^ 32
one_back [] n h = absurd h
one_back (t ∷ []) n h = h.1
one_back (t ∷ s ∷ ps) n h = absurd h

said_back : (n : Node) (ps : List (List ℕ)) → SaysNode n ps → NodeComesBack n
said_back (Split j k) [] h = absurd h
said_back (Split j k) (c ∷ []) h = absurd h
said_back (Split j k) (c ∷ b ∷ []) h = (h.0.1, h.1.1.0)
said_back (Split j k) (c ∷ b ∷ d ∷ ps) h = absurd h
said_back (Zero j) ps h = one_back ps j h
said_back (Clash c) ps h = one_back ps c h
said_back (Farkas ms) ps h = mults_back ps ms h
said_back (Bound ms) ps h = mults_back ps ms h
said_back (Grid g ms) [] h = absurd h
said_back (Grid g ms) (s ∷ ps) h = mults_back ps ms h.1
said_back (FarkasRows ms) ps h = mults_back ps ms h
said_back (BoundRows ms) ps h = mults_back ps ms h
said_back (GridRows g ms) [] h = absurd h
said_back (GridRows g ms) (s ∷ ps) h = mults_back ps ms h.1

why_back : (c : why.Cause) (ps : List (List ℕ)) → SaysCause c ps → CauseComesBack c
why_back (causes.NodeLimit n) ps h = one_back ps n h
why_back (causes.TurnLimit n) ps h = one_back ps n h
why_back causes.Gap ps h = tt
why_back (causes.TimeLimit x) ps h = tt
why_back (causes.Wide p) [] h = absurd h
why_back (causes.Wide p) (n ∷ []) h = absurd h
why_back (causes.Wide p) (n ∷ t ∷ []) h = absurd h
why_back (causes.Wide p) (n ∷ t ∷ s ∷ []) h = (h.0.1, h.1.1)
why_back (causes.Wide p) (n ∷ t ∷ s ∷ r ∷ ps) h = absurd h
why_back causes.Killed ps h = tt
why_back causes.Length ps h = tt
why_back causes.Memory ps h = tt

node_back : (text : List ℕ) (n : Node) → IsTreeItem text (trees.Node n) → NodeComesBack n
node_back text n h = begun_says (pieces text) n h
  where
    begun_says : (ps : List (List ℕ)) (n : Node) → BeginsWithWord node_word tree_head SaysTree ps (trees.Node n) → NodeComesBack n
    begun_says [] n h = absurd h
    begun_says (p ∷ ps) n h = said_back n ps h.1

turn_back : (r : Round) (ps : List (List ℕ)) → SaysRound r ps → RoundComesBack r
turn_back (rounds.Whole ms) ps h = mults_back ps ms h
turn_back (rounds.OfRows ms) ps h = mults_back ps ms h

round_back : (text : List ℕ) (r : Round) → IsRound text r → RoundComesBack r
round_back text r h = begun_says (pieces text) r h
  where
    begun_says : (ps : List (List ℕ)) (r : Round) → BeginsWithWord round_word round_head SaysRound ps r → RoundComesBack r
    begun_says [] r h = absurd h
    begun_says (p ∷ ps) r h = turn_back r ps h.1

cause_back : (text : List ℕ) (c : why.Cause) → IsCause text c → CauseComesBack c
cause_back text c h = begun_says (pieces text) c h
  where
    begun_says : (ps : List (List ℕ)) (c : why.Cause) → BeginsWithWord cause_word cause_head SaysCause ps c → CauseComesBack c
    begun_says [] c h = absurd h
    begun_says (p ∷ ps) c h = why_back c ps h.1

one_more : {X : Type 0} (P : X → Type 0) (xs : List X) (x : X) → All P xs → P x → All P (xs ++ x ∷ [])
one_more P xs x all here = All-append P xs (x ∷ []) all (All-cons P x [] here (All-nil P))

held_more : (n m : ℕ) (h : Held) → n ≤ m → HeldFits n h → HeldFits m h
held_more n m h less f = let few = f.few in let rounds = f.rounds in record { few = omega (arith, few, less); rounds = omega (arith, rounds, less); levels = f.levels; tree = f.tree; columns = f.columns; causes = f.causes }

-- one node more, or the nodes of one level more
node_added : (n : ℕ) (h : Held) (m : Node) → NodeComesBack m → HeldFits n h → HeldFits (suc n) (with_tree_item (trees.Node m) h)
node_added n h m back f =
    let few = f.few in let rounds = f.rounds in let long = length-append h.tree (m ∷ []) in
    record { few = omega (arith, few, long); rounds = omega (arith, rounds); levels = f.levels; tree = one_more NodeComesBack h.tree m f.tree back; columns = f.columns; causes = f.causes }

level_added : (n : ℕ) (h : Held) (l : ℕ) → HeldFits n h → HeldFits (suc n) (with_tree_item (trees.Level l) h)
level_added n h l f =
    let few = f.few in let rounds = f.rounds in
    let long = ap length (flat_map-append (λ (c : Cert). c.nodes) h.levels (cert [] h.tree ∷ [])) ∙ length-append (level_nodes h.levels) (h.tree ++ []) in
    let own = ap length (append-nil h.tree) in
    record { few = omega (arith, few, long, own); rounds = omega (arith, rounds); levels = one_more LevelComesBack h.levels (cert [] h.tree) f.levels (refl, f.tree); tree = All-nil NodeComesBack; columns = f.columns; causes = f.causes }

item_added : (said : List ℕ) (n : ℕ) (h : Held) (i : TreeItem) → IsTreeItem said i → HeldFits n h → HeldFits (suc n) (with_tree_item i h)
item_added said n h (trees.Node m) is f = node_added n h m (node_back said m is) f
item_added said n h (trees.Level l) is f = level_added n h l f

same_fits : (n : ℕ) (h k : Held) → k.levels ≡ h.levels → k.tree ≡ h.tree → k.rounds ≡ h.rounds → k.causes ≡ h.causes → HeldFits n h → HeldFits (suc n) k
same_fits n h k levels tree rounds causes f =
    let few = f.few in let short = f.rounds in
    record { few = rw (levels, tree) (omega (arith, few)); rounds = rw rounds (omega (arith, short)); levels = rw levels f.levels; tree = rw tree f.tree; columns = rw rounds f.columns; causes = rw causes f.causes }

added_fits : (p : Part) (said : List ℕ) (n : ℕ) (h k : Held) → AddsItem p said h k → HeldFits n h → HeldFits (suc n) k
added_fits parts.Tree said n h k a f = subst (HeldFits (suc n)) (sym a.2) (item_added said n h a.0 a.1 f)
added_fits parts.Rounds said n h k a f =
    let few = f.few in let rounds = f.rounds in let long = length-append h.rounds (a.0 ∷ []) in
    subst (HeldFits (suc n)) (sym a.2) (record { few = omega (arith, few); rounds = omega (arith, rounds, long); levels = f.levels; tree = f.tree; columns = one_more RoundComesBack h.rounds a.0 f.columns (round_back said a.0 a.1); causes = f.causes })
added_fits parts.Cause said n h k a f =
    let few = f.few in let rounds = f.rounds in
    subst (HeldFits (suc n)) (sym a.2) (record { few = omega (arith, few); rounds = omega (arith, rounds); levels = f.levels; tree = f.tree; columns = f.columns; causes = one_more CauseComesBack h.causes a.0 f.causes (cause_back said a.0 a.1) })
added_fits parts.Point said n h k a f = subst (HeldFits (suc n)) (sym a.2) (same_fits n h _ refl refl refl refl f)
added_fits parts.Value said n h k a f = subst (HeldFits (suc n)) (sym a.2) (same_fits n h _ refl refl refl refl f)
added_fits parts.Ray said n h k a f = subst (HeldFits (suc n)) (sym a.2) (same_fits n h _ refl refl refl refl f)
added_fits parts.Bound said n h k a f = subst (HeldFits (suc n)) (sym a.2) (same_fits n h _ refl refl refl refl f)

part_fits : (p : Part) (n : ℕ) (h : Held) → HeldFits n h → HeldFits n (with_part p h)
part_fits parts.Point n h f = record { few = f.few; rounds = f.rounds; levels = f.levels; tree = f.tree; columns = f.columns; causes = f.causes }
part_fits p n h f = record { few = f.few; rounds = f.rounds; levels = f.levels; tree = f.tree; columns = f.columns; causes = f.causes }

-- THE CLAIM that is made of them
abbrev pub nodes_in : Option Claim → List Node
nodes_in None = []
nodes_in (Some c) = nodes_of c

abbrev pub certs_in : Option Claim → List Cert
certs_in None = []
certs_in (Some c) = certs_of c

-- a certificate has at most so many rounds
abbrev pub HasFew : ℕ → Cert → Type 0
HasFew n c = length c.rounds ≤ n

abbrev pub ClaimFits : ℕ → Option Claim → Type 0
ClaimFits n o = (length (nodes_in o) ≤ n) × All (HasFew n) (certs_in o) × ClaimComesBack o

-- and so has that of a bound
abbrev BoundFits : ℕ → Option (Option ProvedBound) → Type 0
BoundFits n None = Unit {0}
BoundFits n (Some b) = (length (level_nodes (cert_of b)) ≤ n) × All (HasFew n) (cert_of b) × BoundComesBack b

none_fits : (n : ℕ) → ClaimFits n None
none_fits n = (omega arith, All-nil (HasFew n), tt)

only_back : (cs : List why.Cause) (c : why.Cause) → only cs ≡ Some c → All CauseComesBack cs → CauseComesBack c
only_back (x ∷ []) c is all = let same : x ≡ c = cc in subst CauseComesBack same (All-head CauseComesBack x [] all)
only_back [] c is all = absurd (cc)
only_back (x ∷ y ∷ cs) c is all = absurd (cc)

-- the trees of all levels: their nodes, their rounds, and that they come back
nodes_kept : (rs : List Round) (cs : List Cert) → level_nodes (with_rounds rs cs) ≡ level_nodes cs
nodes_kept rs [] = refl
nodes_kept rs (c ∷ cs) = refl

bare_few : (n : ℕ) (cs : List Cert) → All LevelComesBack cs → All (HasFew n) cs
bare_few n [] all = All-nil (HasFew n)
bare_few n (c ∷ cs) all =
    let none = ap length (All-head LevelComesBack c cs all).0 in
    All-cons (HasFew n) c cs (omega (arith, none)) (bare_few n cs (All-tail LevelComesBack c cs all))

with_few : (n : ℕ) (rs : List Round) (cs : List Cert) → length rs ≤ n → All LevelComesBack cs → All (HasFew n) (with_rounds rs cs)
with_few n rs [] few all = All-nil (HasFew n)
with_few n rs (c ∷ cs) few all = All-cons (HasFew n) (cert rs c.nodes) cs few (bare_few n cs (All-tail LevelComesBack c cs all))

levels_back : (rs : List Round) (ls : List Cert) (ns : List Node) → All RoundComesBack rs → All LevelComesBack ls → All NodeComesBack ns → 0 < length ls + length ns → HasTrees (certs rs ls ns)
levels_back rs [] ns columns levels tree some = record { some = omega (arith, some); rounds = columns; first = tree; levels = All-nil LevelComesBack }
levels_back rs (l ∷ ls) ns columns levels tree some =
    let long = length-append ls (cert [] ns ∷ []) in
    record { some = omega (arith, long); rounds = columns; first = (All-head LevelComesBack l ls levels).1; levels = one_more LevelComesBack ls (cert [] ns) (All-tail LevelComesBack l ls levels) (refl, tree) }

pub may_have : (cs : List Cert) → HasTrees cs → MayHaveTrees cs
may_have [] h = tt
may_have (c ∷ cs) h = h

abbrev all_of : Held → List Cert
all_of h = certs h.rounds h.levels h.tree

module _ (n : ℕ) (h : Held) (f : HeldFits n h) (some : h.has_tree ≡ true → 0 < length h.levels + length h.tree) (values : h.has_value ≡ true → 0 < length h.values) where
  all_back : h.has_tree ≡ true → HasTrees (all_of h)
  all_back is = levels_back h.rounds h.levels h.tree f.columns f.levels f.tree (some is)

  all_few : length (level_nodes (all_of h)) ≤ n
  all_few =
      let kept = ap length (nodes_kept h.rounds (h.levels ++ cert [] h.tree ∷ [])) in
      let long = ap length (flat_map-append (λ (c : Cert). c.nodes) h.levels (cert [] h.tree ∷ [])) ∙ length-append (level_nodes h.levels) (h.tree ++ []) in
      let own = ap length (append-nil h.tree) in
      let few = f.few in
      omega (arith, kept, long, own, few)

  all_rounds : All (HasFew n) (all_of h)
  all_rounds = with_few n h.rounds (h.levels ++ cert [] h.tree ∷ []) f.rounds (one_more LevelComesBack h.levels (cert [] h.tree) f.levels (refl, f.tree))

  optimal_fits : (x : Option (List Frac)) (a b : Bool) → h.has_value ≡ a → h.has_tree ≡ b → ClaimFits n (optimal x (when a h.values) (when b (cond b (all_of h) [])))
  optimal_fits (Some x) true true value is = (all_few, all_rounds, (values value, all_back is))
  optimal_fits (Some x) true false value is = none_fits n
  optimal_fits (Some x) false b value is = none_fits n
  optimal_fits None a b value is = none_fits n

  -- the only tree, where there is one level
  one_fits : h.has_tree ≡ true → h.levels ≡ [] → (length (h.tree ++ []) ≤ n) × All (HasFew n) (cert h.rounds h.tree ∷ []) × TreesComeBack (cert h.rounds h.tree) []
  one_fits is flat =
      let few = f.few in let up = some is in let here = ap length flat in let own = ap length (append-nil h.tree) in
      (omega (arith, few, own), All-cons (HasFew n) (cert h.rounds h.tree) [] f.rounds (All-nil (HasFew n)), record { some = omega (arith, up, here); rounds = f.columns; first = f.tree; levels = All-nil LevelComesBack })

  infeasible_fits : (b : Bool) → h.has_tree ≡ b → h.levels ≡ [] → ClaimFits n (option_map Infeasible (when b (cert h.rounds h.tree)))
  infeasible_fits true is flat = one_fits is flat
  infeasible_fits false is flat = none_fits n

  bound_fits : (a b : Bool) (v : Option Frac) → h.has_tree ≡ b → (a ≡ true → h.levels ≡ []) → BoundFits n (cond a (bounded v (when b (cert h.rounds h.tree))) (Some None))
  bound_fits true true (Some v) is flat = one_fits is (flat refl)
  bound_fits true true None is flat = tt
  bound_fits true false (Some v) is flat = tt
  bound_fits true false None is flat = tt
  bound_fits false b v is flat = (omega arith, All-nil (HasFew n), tt)

  unbounded_fits : (x : Option (List Frac)) (a b : Bool) (r : Option (List Frac)) → h.has_value ≡ a → h.has_tree ≡ b → ClaimFits n (unbounded x (when a h.values) (cond b (all_of h) []) r)
  unbounded_fits (Some x) true true (Some r) value is = (all_few, all_rounds, (values value, may_have (all_of h) (all_back is)))
  unbounded_fits (Some x) true false (Some r) value is = (omega arith, All-nil (HasFew n), (values value, tt))
  unbounded_fits x a b r value is = none_fits n

  best_fits : (x : Option (List Frac)) (a : Bool) (c : Option why.Cause) (b : Option (Option ProvedBound)) → h.has_value ≡ a → only h.causes ≡ c → BoundFits n b → ClaimFits n (best_so_far x (when a h.values) c b)
  best_fits (Some x) true (Some c) (Some b) value is fits = (fits.0, fits.1, (values value, only_back h.causes c is f.causes, fits.2))
  best_fits x a c b value is fits = none_fits n

  unsure_fits : (c : Option why.Cause) (b : Option (Option ProvedBound)) → only h.causes ≡ c → BoundFits n b → ClaimFits n (unsure c b)
  unsure_fits (Some c) (Some b) is fits = (fits.0, fits.1, (only_back h.causes c is f.causes, fits.2))
  unsure_fits c b is fits = none_fits n

  -- where a claim that speaks of one level has one
  claim_fits : (k : Claiming) → (is_of_one_level h.has_bound (Some k) ≡ true → h.levels ≡ []) → ClaimFits n (claim_as h k)
  claim_fits claiming.Optimal flat = optimal_fits (when h.has_point h.point) h.has_value h.has_tree refl refl
  claim_fits claiming.Infeasible flat = infeasible_fits h.has_tree refl (flat refl)
  claim_fits claiming.Unbounded flat = unbounded_fits (when h.has_point h.point) h.has_value h.has_tree (when h.has_ray h.ray) refl refl
  claim_fits claiming.BestSoFar flat = best_fits (when h.has_point h.point) h.has_value (only h.causes) (bound_of h) refl refl (bound_fits h.has_bound h.has_tree (only h.bounds) refl flat)
  claim_fits claiming.Unsure flat = unsure_fits (only h.causes) (bound_of h) refl (bound_fits h.has_bound h.has_tree (only h.bounds) refl flat)

  claimed_fits : (k : Option Claiming) → (is_of_one_level h.has_bound k ≡ true → h.levels ≡ []) → ClaimFits n (option_and_then (claim_as h) k)
  claimed_fits None flat = none_fits n
  claimed_fits (Some k) flat = claim_fits k flat

-- THE REPORT, and all that the marks leave
pub record ReportFits (n : ℕ) (r : Report) : Type 0 where
  pub job : IsBareOrNone r.job
  pub message : IsBareOrNone r.message
  pub claim : ClaimFits n r.claim

-- where the solution may speak of one level, and no item begins with the word of a level, there is one
abbrev pub IsNoted : State → Type 0
IsNoted s = has_one_level true true s.claiming ≡ true → s.level ≡ None → s.held.levels ≡ []

abbrev pub Sound : ℕ → State → Type 0
Sound n s = IsXmlText s.text × IsBareOrNone (nonempty s.job) × IsBareOrNone (nonempty s.message) × HeldFits n s.held × ReportFits n s.report × IsNoted s

said_claim : (n : ℕ) (b : Bool) (o p : Option Claim) → ClaimFits n o → cond b (option_map Some o) (Some None) ≡ Some p → ClaimFits n p
said_claim n true (Some c) p fits is = let same : Some c ≡ p = cc in subst (ClaimFits n) same fits
said_claim n true None p fits is = absurd (cc)
said_claim n false o p fits is = let same : None ≡ p = cc in subst (ClaimFits n) same (none_fits n)

reported_fits : (n : ℕ) (type job message : Option (List ℕ)) (status : Option JobStatus) (claim : Option (Option Claim)) (r : Report) → report_with type job message status claim ≡ Some r → IsBareOrNone job → IsBareOrNone message → ((o : Option Claim) → claim ≡ Some o → ClaimFits n o) → ReportFits n r
reported_fits n (Some type) job message (Some status) (Some claim) r is bare plain fits =
    let made : Report = record { error = bytes_eq type (codes "error"); job = job; message = message; status = status; claim = claim } in
    let same : made ≡ r = cc in
    subst (ReportFits n) same (record { job = bare; message = plain; claim = fits claim refl })
reported_fits n (Some type) job message (Some status) None r is bare plain fits = absurd (cc)
reported_fits n (Some type) job message None claim r is bare plain fits = absurd (cc)
reported_fits n None job message status claim r is bare plain fits = absurd (cc)

-- where all items are read, a claim that speaks of one level has one
said_one : (unknown b : Bool) (type : Option (List ℕ)) → is_of_one_level b (option_and_then (worded claiming_text all_claimings) type) ≡ true → has_one_level unknown b type ≡ true
said_one unknown b None is = absurd (false≢true is)
said_one unknown b (Some type) is = is

may_be_one : (b : Bool) (k : Option Claiming) → is_of_one_level b k ≡ true → is_of_one_level true k ≡ true
may_be_one b (Some claiming.BestSoFar) is = refl
may_be_one b (Some claiming.Unsure) is = refl
may_be_one b k is = is

none_noted : (b : Bool) (level : Option ℕ) (bad : Option BadItem) → (IsSome (cond b (level_or level bad) bad) → ⊥) → b ≡ true → level ≡ None
none_noted b None bad read is = refl
none_noted true (Some n) bad read is = absurd (read refl)
none_noted false (Some n) bad read is = absurd (false≢true is)

report_fits : (n : ℕ) (s : State) (r : Report) → Sound n s → (IsSome (bad_item s) → ⊥) → (s.held.has_tree ≡ true → 0 < length s.held.levels + length s.held.tree) → (s.held.has_value ≡ true → 0 < length s.held.values) → report_of s ≡ Some r → ReportFits n r
report_fits n s r f read some values is =
    let b = s.held.has_bound in
    let flat = λ (one : is_of_one_level b (claiming_of s) ≡ true). f.5 (said_one true true s.claiming (may_be_one b (claiming_of s) one)) (none_noted (has_one_level false b s.claiming) s.level s.bad read (said_one false b s.claiming one)) in
    reported_fits n s.general (nonempty s.job) (nonempty s.message) (status_of s) _ r is f.1 f.2 (λ o. said_claim n s.has_solution (option_and_then (claim_as s.held) (claiming_of s)) o (claimed_fits n s.held f.3 some values (claiming_of s) flat))

report_more : (n m : ℕ) (r : Report) → n ≤ m → ReportFits n r → ReportFits m r
report_more n m r less f = let few = f.claim.0 in record { job = f.job; message = f.message; claim = (omega (arith, few, less), All-weaker (HasFew n) (HasFew m) (λ (c : Cert) short. omega (arith, short, less)) (certs_in r.claim) f.claim.1, f.claim.2) }

-- where no item is held
none_held : (n : ℕ) (h : Held) → HeldFits n (emptied h)
none_held n h = record { few = omega arith; rounds = omega arith; levels = All-nil LevelComesBack; tree = All-nil NodeComesBack; columns = All-nil RoundComesBack; causes = All-nil CauseComesBack }

pub start_sound : Sound 0 start
start_sound = (no_text, tt, tt, none_held 0 nothing_held, record { job = tt; message = tt; claim = none_fits 0 }, (λ may none. refl))

may_before : (old : Option (List ℕ)) (type : List ℕ) → has_one_level true true (first old type) ≡ true → has_one_level true true old ≡ true
may_before None type may = refl
may_before (Some t) type may = may

part_levels : (p : Part) (h : Held) → (with_part p h).levels ≡ h.levels
part_levels parts.Point h = refl
part_levels p h = refl

-- START TAGS AND CHARACTERS
begun_sound : (n : ℕ) (s : State) (as' : List Attribute) (p : Place) → Sound n s → Sound n (begun s as' p)
begun_sound n s as' (places.Result p) f = (no_text, f.1, f.2, part_fits p n s.held f.3, f.4, (λ may none. part_levels p s.held ∙ f.5 may none))
begun_sound n s as' places.SolutionStatus f = (no_text, f.1, f.2, f.3, f.4, (λ may none. f.5 (may_before s.claiming (type_of as') may) none))
begun_sound n s as' p f = (no_text, f.1, f.2, f.3, f.4, f.5)

led_sound : (n : ℕ) (s z : State) (as' : List Attribute) (l : Led Place) → Leaves s (begins l as') z → Sound n s → Sound n z
led_sound n s z as' (led.To p) h f = subst (Sound n) (sym h) (begun_sound n s as' p f)
led_sound n s z as' led.Over h f = subst (Sound n) (sym h) f
led_sound n s z as' led.OtherRoot h f = absurd h

chars_sound : (n : ℕ) (s z : State) (cs : List ℕ) → AreTaken osrl s (map Char cs) z → IsXmlText cs → Sound n s → Sound n z
chars_sound n s z cs taken xml f =
    subst (Sound n) (sym (chars_leave osrl (λ (t : List ℕ). record s { text = t }) (keeps s.depth s.place) (λ t c m takes. takes.1) s.text cs z taken)) (kept_xml (keeps s.depth s.place) s.text cs f.0 xml, f.1, f.2, f.3, f.4, f.5)

-- what was added of an item that was read
reads_adds : (o : Option (List Field)) (k : Held) (P : Held → Type 0) → ReadsTexts o (Ok k) P → P k
reads_adds None k P h = absurd (cc)
reads_adds (Some fs) k P h = h.2

-- an item that begins a level begins with its word
level_noted : (ps : List (List ℕ)) (l : ℕ) → BeginsWithWord node_word tree_head SaysTree ps (trees.Level l) → begins_level ps ≡ true
level_noted [] l h = absurd h
level_noted (p ∷ ps) l h = (bytes_eq-Decides p (codes "level")).1 h.0

first_none : (b : Bool) (old : Option ℕ) (n : ℕ) → first_level b old n ≡ None → (b ≡ false) × (old ≡ None)
first_none true None n is = absurd (let e : Some n ≡ None = is in cc)
first_none false None n is = (refl, refl)
first_none true (Some m) n is = absurd (let e : Some m ≡ None = is in cc)
first_none false (Some m) n is = absurd (let e : Some m ≡ None = is in cc)

both_so : (a b : Bool) → a ≡ true → a && b ≡ false → b ≡ true → ⊥
both_so true true so not is = true≢false not
both_so true false so not is = false≢true is
both_so false b so not is = false≢true so

added_noted : (p : Part) (text : List ℕ) (may : Bool) (level : Option ℕ) (n : ℕ) (h k : Held) → AddsItem p text h k → (may ≡ true → level ≡ None → h.levels ≡ []) → may ≡ true → first_level (may && is_level p text) level n ≡ None → k.levels ≡ []
added_noted parts.Tree text may level n h k (trees.Level l, is, e) before so empty = absurd (both_so may (is_level parts.Tree text) so (first_none (may && is_level parts.Tree text) level n empty).0 (level_noted (pieces text) l is))
added_noted parts.Tree text may level n h k (trees.Node m, is, e) before so empty = ap (λ (g : Held). g.levels) e ∙ before so (first_none (may && is_level parts.Tree text) level n empty).1
added_noted parts.Point text may level n h k a before so empty = ap (λ (g : Held). g.levels) a.2 ∙ before so (first_none (may && false) level n empty).1
added_noted parts.Value text may level n h k a before so empty = ap (λ (g : Held). g.levels) a.2 ∙ before so (first_none (may && false) level n empty).1
added_noted parts.Ray text may level n h k a before so empty = ap (λ (g : Held). g.levels) a.2 ∙ before so (first_none (may && false) level n empty).1
added_noted parts.Bound text may level n h k a before so empty = ap (λ (g : Held). g.levels) a.2 ∙ before so (first_none (may && false) level n empty).1
added_noted parts.Rounds text may level n h k a before so empty = ap (λ (g : Held). g.levels) a.2 ∙ before so (first_none (may && false) level n empty).1
added_noted parts.Cause text may level n h k a before so empty = ap (λ (g : Held). g.levels) a.2 ∙ before so (first_none (may && false) level n empty).1

-- END TAGS: one node more at most, and what is reported has those before
some_of : (n : ℕ) → ((0 < n → ⊥) → ⊥) → 0 < n
some_of zero not = absurd (not (λ up. omega (arith, up)))
some_of (suc n) not = omega arith

module _ (ground : TextsAreOfCharacters) where
  kept_bare : (o : Option (List ℕ)) (text : List ℕ) → IsBareOrNone (nonempty o) → IsXmlText text → IsBareOrNone (nonempty (first o (trimmed text)))
  kept_bare None text old xml = bare_of ground text (trimmed text) refl xml
  kept_bare (Some t) text old xml = old

  abbrev Ended : ℕ → State → Type 0
  Ended n z = Sound (suc n) z × ReportFits n z.report

  -- what only goes on
  on : (n : ℕ) (s z : State) → Sound n s → z ≡ s → Ended n z
  on n s z f is = subst (Ended n) (sym is) ((f.0, f.1, f.2, held_more n (suc n) s.held (omega arith) f.3, report_more n (suc n) s.report (omega arith) f.4, f.5), f.4)

  -- an item, read or not
  item_sound : (n : ℕ) (s z : State) (p : Part) (o : Option BadItem) → AfterItem o s p z → Sound n s → Ended n z
  item_sound n s z p (Some b) h f = on n s z f h
  item_sound n s z p None h f = subst (Ended n) (sym h.2) (added_sound h.0 h.1)
    where
      added_sound : (r : Result Held Misread) → IsItemRead p s.text s.held r → Ended n (with_read (noted s p) r)
      added_sound (Err u) is = ((f.0, f.1, f.2, none_held (suc n) s.held, report_more n (suc n) s.report (omega arith) f.4, (λ may none. refl)), f.4)
      added_sound (Ok k) (inl early) = absurd (let e : Ok k ≡ Err NoShape = early.1 in cc)
      added_sound (Ok k) (inr reads) =
          let adds = reads_adds (item_fields p s.text) k (λ (g : Held). AddsItem p s.text s.held g) reads.1 in
          ((f.0, f.1, f.2, added_fits p s.text n s.held k adds f.3, report_more n (suc n) s.report (omega arith) f.4, added_noted p s.text (has_one_level true true s.claiming) s.level s.count s.held k adds f.5), f.4)

  end_sound : (n : ℕ) (s z : State) (p : Place) → AllPass (Fails s) (tests (ends p)) → Ends s p z → Sound n s → Ended n z
  end_sound n s z (places.Item p) pass h f = item_sound n (record s { place = around (places.Item p) }) z p s.bad h f
  end_sound n s z places.Osrl pass h f =
      let r = report_fits n s h.0 f pass.0 (λ is. some_of (length s.held.levels + length s.held.tree) (λ none. pass.1.1.1.0 (is, none))) (λ is. some_of (length s.held.values) (λ none. pass.1.1.0 (is, none))) h.1 in
      subst (Ended n) (sym h.2) ((no_text, tt, tt, none_held (suc n) nothing_held, report_more n (suc n) h.0 (omega arith) r, (λ may none. refl)), r)
  end_sound n s z places.JobId pass h f = on n (record s { place = around places.JobId; job = first s.job (trimmed s.text) }) z (f.0, kept_bare s.job s.text f.1 f.0, f.2, f.3, f.4, f.5) h
  end_sound n s z places.Message pass h f = on n (record s { place = around places.Message; message = first s.message (trimmed s.text) }) z (f.0, f.1, kept_bare s.message s.text f.2 f.0, f.3, f.4, f.5) h
  end_sound n s z places.JobStatus pass h f = on n (record s { place = around places.JobStatus; status = first s.status s.text }) z f h
  end_sound n s z p pass h f = on n (record s { place = around p }) z f h

  close_sound : (n : ℕ) (s z : State) (d : ℕ) → AllPass (Fails s) (tests (end_kind d s.place)) → Leaves s (end_kind d s.place) z → Sound n s → Ended n z
  close_sound n s z zero pass h f = end_sound n s z s.place pass h f
  close_sound n s z (suc d) pass h f = on n (record s { depth = s.depth - 1 }) z f h

  -- ALL NODES
  nodes_sound : (ns : Nodes) → NodesOfCharacters ns → (k : List Event) (y : State) (n : ℕ) (s : State) → Sound n s → AreTaken osrl s (spread (nodes_events ns k)) y → (m : State) × Sound (elements_in ns + n) m × AreTaken osrl m (spread k) y
  nodes_sound none is k y n s f h = let same : n ≡ 0 + n = omega arith in (s, subst (λ (i : ℕ). Sound i s) same f, h)
  nodes_sound (element name as' children more) is k y n s f h =
      let inside = nodes_sound children is.2 (Close name ∷ nodes_events more k) y n h.0 (led_sound n s h.0 as' (led_from s.depth (leads s.place name as')) h.1.1 f) h.2 in
      let i = elements_in children + n in
      let ended = close_sound i inside.0 inside.2.0 inside.0.depth inside.2.1.0 inside.2.1.1 inside.1 in
      let behind = nodes_sound more is.3 k y (suc i) inside.2.0 ended.0 inside.2.2 in
      let same : elements_in more + suc i ≡ suc (elements_in children + elements_in more) + n = omega arith in
      (behind.0, subst (λ (j : ℕ). Sound j behind.0) same behind.1, behind.2)
  nodes_sound (chars cs more) is k y n s f h =
      let parts = taken_parts osrl s y (map Char cs) (spread (nodes_events more k)) h in
      nodes_sound more is.1 k y n parts.0 (chars_sound n s parts.0 cs parts.1 is.0 f) parts.2

  -- what a root reports has at most as many nodes as elements stand in the root
  pub root_fits : (root : Element) (r : Report) → IsOfCharacters root → IsReport root r → ReportFits (elements_in root.children) r
  root_fits root r is (z, taken, reports) =
      let inside = nodes_sound root.children is.children (Close root.name ∷ []) z 0 taken.0 (led_sound 0 start taken.0 root.attributes (leads places.Outside root.name root.attributes) taken.1.1 start_sound) taken.2 in
      let i = elements_in root.children + 0 in
      let ended = close_sound i inside.0 inside.2.0 inside.0.depth inside.2.1.0 inside.2.1.1 inside.1 in
      let same : i ≡ elements_in root.children = omega arith in
      subst (λ (n : ℕ). ReportFits n r) same (subst (ReportFits i) (sym (reports ∙ ap (λ (y : State). y.report) inside.2.2)) ended.1)
