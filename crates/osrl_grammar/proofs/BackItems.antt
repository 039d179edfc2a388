-- Written items are read as what they say.
use Rattle.osrl_grammar.proofs.Names.{◌≡◌, ◌∙◌, ℕ, ◌^◌, ◌<◌, true, Option, List, [], ◌∷◌, ◌++◌, map, refl, ap, sym, subst, arith, append-nil, codes, decimal, flat_map, signed_decimal, All, AllZip, All-head, All-tail, ratio, Frac, ratio_text, Mult, Node, Step, IsFree, pieces, Pair, step_text, node_word, IsMultOf, IsMult, IsOne, IsOneFraction, IsPlace, IsFraction, SaysNode, tree_head, SaysTree, BeginsWithWord, IsTreeItem, Round, round_word, round_head, SaysRound, IsRound, IsCause, round_text, level_text, mult_text, node_text, cause_text, fraction_texts, HaveColumns, NodeComesBack, RoundComesBack, CauseComesBack}
use Rattle.certificate.specs.declared.nodes.Node.TheVariants as nodes
use Rattle.certificate.specs.declared.nodes.Round.TheVariants as rounds
use Rattle.osrl_grammar.specs.declared.parts.TreeItem.TheVariants as trees
use Rattle.certificate.specs.declared.causes.Cause as why
use Rattle.certificate.specs.declared.causes.Cause.TheVariants as causes
use Rattle.certificate.specs.declared.causes.Step.TheVariants as steps
use Rattle.osrl_grammar.proofs.Wholes.{free_cons, free_append}
use Rattle.osrl_grammar.proofs.PieceTexts.{pieces_free, pieces_cut, parted_cut, is_without, seen_free}
use Rattle.osrl_grammar.proofs.BackNumbers.{fraction_back, whole_back, index_back, turn_back, decimal_spaceless, decimal_colonless, signed_spaceless, ratio_spaceless}

-- the piece that a multiplier is written as
abbrev piece_of : Mult → List ℕ
piece_of m = decimal m.col ++ 58 ∷ ratio_text (ratio m.value)

piece_free : (m : Mult) → IsFree 32 (piece_of m)
piece_free m = free_append 32 (decimal m.col) (58 ∷ ratio_text (ratio m.value)) (decimal_spaceless m.col) (free_cons 32 58 (ratio_text (ratio m.value)) (λ e. omega (arith, e)) (ratio_spaceless (ratio m.value)))

mults_pieces : (w : List ℕ) (ms : List Mult) → IsFree 32 w → pieces (w ++ flat_map mult_text ms) ≡ w ∷ map piece_of ms
mults_pieces w [] free = ap pieces (append-nil w) ∙ pieces_free w free
mults_pieces w (m ∷ ms) free = pieces_cut w (piece_of m ++ flat_map mult_text ms) free ∙ ap (λ (l : List (List ℕ)). w ∷ l) (mults_pieces (piece_of m) ms (piece_free m))

mults_back : (ms : List Mult) → HaveColumns ms → AllZip IsMult (map piece_of ms) ms
mults_back [] columns = tt
mults_back (m ∷ ms) columns = (
  subst (λ (o : Option Pair). IsMultOf o m) (sym (parted_cut (decimal m.col) (ratio_text (ratio m.value)) (decimal_colonless m.col))) (index_back m.col (All-head (λ (m : Mult). m.col < 2 ^ 32) m ms columns), fraction_back m.value),
  mults_back ms (All-tail (λ (m : Mult). m.col < 2 ^ 32) m ms columns),
)

pub node_back : (n : Node) → NodeComesBack n → IsTreeItem (node_text n) (trees.Node n)
node_back (nodes.Split j k) back =
    let behind = pieces_cut (decimal j) (signed_decimal k) (decimal_spaceless j) ∙ ap (λ (l : List (List ℕ)). decimal j ∷ l) (pieces_free (signed_decimal k) (signed_spaceless k)) in
    (refl, subst (SaysNode (nodes.Split j k)) (sym behind) (index_back j back.0, whole_back k back.1))
node_back (nodes.Zero j) back = (refl, subst (SaysNode (nodes.Zero j)) (sym (pieces_free (decimal j) (decimal_spaceless j))) (index_back j back))
node_back (nodes.Clash c) back = (refl, subst (SaysNode (nodes.Clash c)) (sym (pieces_free (decimal c) (decimal_spaceless c))) (index_back c back))
node_back (nodes.Farkas ms) back = subst (λ (l : List (List ℕ)). BeginsWithWord node_word tree_head SaysTree l (trees.Node (nodes.Farkas ms))) (sym (mults_pieces (codes "farkas") ms (seen_free 32 (codes "farkas") refl))) (refl, mults_back ms back)
node_back (nodes.Bound ms) back = subst (λ (l : List (List ℕ)). BeginsWithWord node_word tree_head SaysTree l (trees.Node (nodes.Bound ms))) (sym (mults_pieces (codes "bound") ms (seen_free 32 (codes "bound") refl))) (refl, mults_back ms back)
node_back (nodes.Grid g ms) back =
    let cut = mults_pieces (ratio_text (ratio g)) ms (ratio_spaceless (ratio g)) in
    (refl, subst (SaysNode (nodes.Grid g ms)) (sym cut) (fraction_back g, mults_back ms back))
node_back (nodes.FarkasRows ms) back = subst (λ (l : List (List ℕ)). BeginsWithWord node_word tree_head SaysTree l (trees.Node (nodes.FarkasRows ms))) (sym (mults_pieces (codes "farkasRows") ms (seen_free 32 (codes "farkasRows") refl))) (refl, mults_back ms back)
node_back (nodes.BoundRows ms) back = subst (λ (l : List (List ℕ)). BeginsWithWord node_word tree_head SaysTree l (trees.Node (nodes.BoundRows ms))) (sym (mults_pieces (codes "boundRows") ms (seen_free 32 (codes "boundRows") refl))) (refl, mults_back ms back)
node_back (nodes.GridRows g ms) back =
    let cut = mults_pieces (ratio_text (ratio g)) ms (ratio_spaceless (ratio g)) in
    (refl, subst (SaysNode (nodes.GridRows g ms)) (sym cut) (fraction_back g, mults_back ms back))

step_spaceless : (s : Step) → IsFree 32 (step_text s)
step_spaceless s = seen_free 32 (step_text s) (elim s as (λ (r : Step). is_without 32 (step_text r) ≡ true) [ steps.Values ↦ refl | steps.Ratio ↦ refl | steps.Pivot ↦ refl | steps.Point ↦ refl | steps.Ray ↦ refl | steps.Round ↦ refl | steps.Check ↦ refl ])

pub cause_back : (c : why.Cause) → CauseComesBack c → IsCause (cause_text c) c
cause_back causes.Killed back = (refl, refl)
cause_back (causes.NodeLimit n) back = (refl, subst (λ (l : List (List ℕ)). IsOne l n) (sym (pieces_free (decimal n) (decimal_spaceless n))) (index_back n back))
cause_back (causes.TurnLimit n) back = (refl, subst (λ (l : List (List ℕ)). IsOne l n) (sym (pieces_free (decimal n) (decimal_spaceless n))) (index_back n back))
cause_back causes.Gap back = (refl, refl)
cause_back (causes.TimeLimit x) back = (refl, subst (λ (l : List (List ℕ)). IsOneFraction l x) (sym (pieces_free (ratio_text (ratio x)) (ratio_spaceless (ratio x)))) (fraction_back x))
cause_back (causes.Wide p) back =
    let last = ap (λ (l : List (List ℕ)). decimal p.turn ∷ l) (pieces_free (step_text p.step) (step_spaceless p.step)) in
    let turn = pieces_cut (decimal p.turn) (step_text p.step) (decimal_spaceless p.turn) ∙ last in
    let behind = pieces_cut (decimal p.node) (decimal p.turn ++ (32 ∷ step_text p.step)) (decimal_spaceless p.node) ∙ ap (λ (l : List (List ℕ)). decimal p.node ∷ l) turn in
    (refl, subst (λ (l : List (List ℕ)). IsPlace l p) (sym behind) (index_back p.node back.0, turn_back p.turn back.1, refl))
cause_back causes.Length back = (refl, refl)
cause_back causes.Memory back = (refl, refl)

pub fractions_back : (xs : List Frac) → AllZip IsFraction (fraction_texts xs) xs
fractions_back [] = tt
fractions_back (x ∷ xs) = (fraction_back x, fractions_back xs)

-- what begins a level, and rounds
pub level_back : (k : ℕ) → k < 2 ^ 32 → IsTreeItem (level_text k) (trees.Level k)
level_back k back = (refl, subst (λ (l : List (List ℕ)). IsOne l k) (sym (pieces_free (decimal k) (decimal_spaceless k))) (index_back k back))

round_back : (r : Round) → RoundComesBack r → IsRound (round_text r) r
round_back (rounds.Whole ms) back = subst (λ (l : List (List ℕ)). BeginsWithWord round_word round_head SaysRound l (rounds.Whole ms)) (sym (mults_pieces (codes "round") ms (seen_free 32 (codes "round") refl))) (refl, mults_back ms back)
round_back (rounds.OfRows ms) back = subst (λ (l : List (List ℕ)). BeginsWithWord round_word round_head SaysRound l (rounds.OfRows ms)) (sym (mults_pieces (codes "roundRows") ms (seen_free 32 (codes "roundRows") refl))) (refl, mults_back ms back)

pub rounds_back : (rs : List Round) → All RoundComesBack rs → AllZip IsRound (map round_text rs) rs
rounds_back [] back = tt
rounds_back (r ∷ rs) back = (round_back r (All-head RoundComesBack r rs back), rounds_back rs (All-tail RoundComesBack r rs back))
