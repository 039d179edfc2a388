-- The texts of numbers, items and statuses are characters of XML.
use Rattle.osrl_grammar.proofs.Names.{ℕ, ◌+◌, ◌/◌, ◌%◌, ◌^◌, ◌==◌, Bool, true, false, cond, List, [], ◌∷◌, ◌++◌, map, drop, reverse, refl, sym, subst, lit≤, codes, decimal, flat_map, signed_decimal, All, reverse-append, All-nil, All-cons, All-append, IsXmlText, Each, Printable, list_printable, Ratio, ratio, Frac, optional, point_text, ratio_text, Mult, Cert, round_text, level_text, level_texts, Node, Split, Zero, Clash, Farkas, Bound, Grid, FarkasRows, BoundRows, GridRows, Step, without_zeros, decimals, cut_size, has_sign, cut_text, step_text, mult_text, node_text, cause_text, fraction_texts, decimal_each, signed_each, decimal_printable, printable_text, Round}
use Rattle.certificate.specs.declared.nodes.Round.TheVariants.{Whole, OfRows}
use Rattle.std.proofs.Common.{lit<}
use Rattle.tree_grammar.proofs.XmlTexts.{each_append}
use Rattle.decimal_text.specs.Exact.{denominator_text}
use Rattle.certificate.specs.declared.causes.Cause.{Cause}
use Rattle.certificate.specs.declared.causes.Cause.TheVariants as causes
use Rattle.certificate.specs.declared.causes.Step.TheVariants as steps
use Rattle.document_tags.proofs.PrintableTexts.{HoldsOfDigits, digits_printable, signed_printable}

denominator_each : (P : ℕ → Type 0) → HoldsOfDigits P → P 47 → (b : Bool) (d : ℕ) → Each P (cond b [] (47 ∷ decimal d))
denominator_each P of_digits over true d = tt
denominator_each P of_digits over false d = (over, decimal_each P of_digits d)

pub ratio_each : (P : ℕ → Type 0) → HoldsOfDigits P → P 45 → P 47 → (x : Ratio) → Each P (ratio_text x)
ratio_each P of_digits minus over x = each_append P (signed_decimal x.num) (denominator_text x.den) (signed_each P of_digits minus x.num) (denominator_each P of_digits over (x.den == 1) x.den)

ratio_printable : (x : Ratio) → Each Printable (ratio_text x)
ratio_printable x = ratio_each Printable digits_printable (lit≤ tt, lit< tt) (lit≤ tt, lit< tt) x

-- numbers for people
kept_printable : (b : Bool) (c : ℕ) (cs rest : List ℕ) → Each Printable (c ∷ cs) → Each Printable rest → Each Printable (cond b rest (c ∷ cs))
kept_printable true c cs rest h k = k
kept_printable false c cs rest h k = h

zeros_printable : (cs : List ℕ) → Each Printable cs → Each Printable (without_zeros cs)
zeros_printable [] h = tt
zeros_printable (c ∷ cs) h = kept_printable (c == 48) c cs (without_zeros cs) h (zeros_printable cs h.1)

turned_printable : (cs : List ℕ) → Each Printable cs → Each Printable (reverse cs)
turned_printable [] h = tt
turned_printable (c ∷ cs) h = subst (Each Printable) (sym (reverse-append (c ∷ []) cs)) (each_append Printable (reverse cs) (c ∷ []) (turned_printable cs h.1) (h.0, tt))

behind_printable : (cs : List ℕ) → Each Printable cs → Each Printable (drop 1 cs)
behind_printable [] h = tt
behind_printable (c ∷ cs) h = h.1

decimals_printable : (n : ℕ) → Each Printable (decimals n)
decimals_printable n =
    let ds = drop 1 (decimal (10 ^ 12 + n)) in
    turned_printable (without_zeros (reverse ds)) (zeros_printable (reverse ds) (turned_printable ds (behind_printable (decimal (10 ^ 12 + n)) (decimal_printable (10 ^ 12 + n)))))

point_printable : (ds : List ℕ) → Each Printable ds → Each Printable (point_text ds)
point_printable [] h = tt
point_printable (d ∷ ds) h = ((lit≤ tt, lit< tt), h)

sign_printable : (negative : Bool) → Each Printable (optional 45 negative)
sign_printable true = ((lit≤ tt, lit< tt), tt)
sign_printable false = tt

pub cut_printable : (x : Ratio) → Each Printable (cut_text x)
cut_printable x =
    let front = decimal (cut_size x / 10 ^ 12) in
    let behind = point_text (decimals (cut_size x % 10 ^ 12)) in
    each_append Printable (optional 45 (has_sign x.num (cut_size x))) (front ++ behind) (sign_printable (has_sign x.num (cut_size x)))
    (each_append Printable front behind (decimal_printable (cut_size x / 10 ^ 12)) (point_printable (decimals (cut_size x % 10 ^ 12)) (decimals_printable (cut_size x % 10 ^ 12))))

-- items
mult_printable : (m : Mult) → Each Printable (mult_text m)
mult_printable m = ((lit≤ tt, lit< tt), each_append Printable (decimal m.col) (58 ∷ ratio_text (ratio m.value)) (decimal_printable m.col) ((lit≤ tt, lit< tt), ratio_printable (ratio m.value)))

mults_printable : (ms : List Mult) → Each Printable (flat_map mult_text ms)
mults_printable [] = tt
mults_printable (m ∷ ms) = each_append Printable (mult_text m) (flat_map mult_text ms) (mult_printable m) (mults_printable ms)

pub node_printable : (n : Node) → Each Printable (node_text n)
node_printable (Split j k) = each_append Printable (codes "split ") (decimal j ++ (32 ∷ signed_decimal k)) (list_printable (codes "split ") refl) (each_append Printable (decimal j) (32 ∷ signed_decimal k) (decimal_printable j) ((lit≤ tt, lit< tt), signed_printable k))
node_printable (Zero j) = each_append Printable (codes "zero ") (decimal j) (list_printable (codes "zero ") refl) (decimal_printable j)
node_printable (Clash c) = each_append Printable (codes "clash ") (decimal c) (list_printable (codes "clash ") refl) (decimal_printable c)
node_printable (Farkas ms) = each_append Printable (codes "farkas") (flat_map mult_text ms) (list_printable (codes "farkas") refl) (mults_printable ms)
node_printable (Bound ms) = each_append Printable (codes "bound") (flat_map mult_text ms) (list_printable (codes "bound") refl) (mults_printable ms)
node_printable (Grid g ms) = each_append Printable (codes "grid ") (ratio_text (ratio g) ++ flat_map mult_text ms) (list_printable (codes "grid ") refl) (each_append Printable (ratio_text (ratio g)) (flat_map mult_text ms) (ratio_printable (ratio g)) (mults_printable ms))
node_printable (FarkasRows ms) = each_append Printable (codes "farkasRows") (flat_map mult_text ms) (list_printable (codes "farkasRows") refl) (mults_printable ms)
node_printable (BoundRows ms) = each_append Printable (codes "boundRows") (flat_map mult_text ms) (list_printable (codes "boundRows") refl) (mults_printable ms)
node_printable (GridRows g ms) = each_append Printable (codes "gridRows ") (ratio_text (ratio g) ++ flat_map mult_text ms) (list_printable (codes "gridRows ") refl) (each_append Printable (ratio_text (ratio g)) (flat_map mult_text ms) (ratio_printable (ratio g)) (mults_printable ms))

step_printable : (s : Step) → Each Printable (step_text s)
step_printable steps.Values = list_printable (codes "values") refl
step_printable s = list_printable (step_text s) refl

pub cause_printable : (c : Cause) → Each Printable (cause_text c)
cause_printable causes.Killed = list_printable (codes "killed") refl
cause_printable (causes.NodeLimit n) = each_append Printable (codes "nodeLimit ") (decimal n) (list_printable (codes "nodeLimit ") refl) (decimal_printable n)
cause_printable (causes.TurnLimit n) = each_append Printable (codes "turnLimit ") (decimal n) (list_printable (codes "turnLimit ") refl) (decimal_printable n)
cause_printable causes.Gap = list_printable (codes "gap") refl
cause_printable (causes.TimeLimit x) = each_append Printable (codes "timeLimit ") (ratio_text (ratio x)) (list_printable (codes "timeLimit ") refl) (ratio_printable (ratio x))
cause_printable (causes.Wide p) =
    let step : Each Printable (32 ∷ step_text p.step) = ((lit≤ tt, lit< tt), step_printable p.step) in
    let turn : Each Printable (32 ∷ (decimal p.turn ++ (32 ∷ step_text p.step))) = ((lit≤ tt, lit< tt), each_append Printable (decimal p.turn) (32 ∷ step_text p.step) (decimal_printable p.turn) step) in
    each_append Printable (codes "wide ") (decimal p.node ++ (32 ∷ (decimal p.turn ++ (32 ∷ step_text p.step)))) (list_printable (codes "wide ") refl) (each_append Printable (decimal p.node) (32 ∷ (decimal p.turn ++ (32 ∷ step_text p.step))) (decimal_printable p.node) turn)
cause_printable causes.Length = list_printable (codes "length") refl
cause_printable causes.Memory = list_printable (codes "memory") refl

pub fractions_xml : (xs : List Frac) → All IsXmlText (fraction_texts xs)
fractions_xml [] = All-nil IsXmlText
fractions_xml (x ∷ xs) = All-cons IsXmlText (ratio_text (ratio x)) (fraction_texts xs) (printable_text (ratio_text (ratio x)) (ratio_printable (ratio x))) (fractions_xml xs)

pub nodes_xml : (ns : List Node) → All IsXmlText (map node_text ns)
nodes_xml [] = All-nil IsXmlText
nodes_xml (n ∷ ns) = All-cons IsXmlText (node_text n) (map node_text ns) (printable_text (node_text n) (node_printable n)) (nodes_xml ns)

round_printable : (r : Round) → Each Printable (round_text r)
round_printable (Whole ms) = each_append Printable (codes "round") (flat_map mult_text ms) (list_printable (codes "round") refl) (mults_printable ms)
round_printable (OfRows ms) = each_append Printable (codes "roundRows") (flat_map mult_text ms) (list_printable (codes "roundRows") refl) (mults_printable ms)

pub rounds_xml : (rs : List Round) → All IsXmlText (map round_text rs)
rounds_xml [] = All-nil IsXmlText
rounds_xml (r ∷ rs) = All-cons IsXmlText (round_text r) (map round_text rs) (printable_text (round_text r) (round_printable r)) (rounds_xml rs)

-- of the levels from the k-th on
pub levels_xml : (k : ℕ) (cs : List Cert) → All IsXmlText (level_texts k cs)
levels_xml k [] = All-nil IsXmlText
levels_xml k (c ∷ cs) =
    All-cons IsXmlText (level_text k) (map node_text c.nodes ++ level_texts (k + 1) cs) (printable_text (level_text k) (each_append Printable (codes "level ") (decimal k) (list_printable (codes "level ") refl) (decimal_printable k)))
    (All-append IsXmlText (map node_text c.nodes) (level_texts (k + 1) cs) (nodes_xml c.nodes) (levels_xml (k + 1) cs))
