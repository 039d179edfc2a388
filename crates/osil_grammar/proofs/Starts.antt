-- How many entries stand before a row, found by halving.
use Rattle.osil_grammar.proofs.Words.{◌≡◌, ℕ, suc, ◌+◌, ◌≤◌, true, false, nat_lt, List, [], ◌∷◌, ◌++◌, length, take, drop, arith, refl, sym, ◌∙◌, ap, subst, All, IsPartitionPoint, length-take-le, take-append-drop, All-head, All-tail, Entry, Event, nodes_events, counts_nodes, entries_below, row_starts, Wrote}
use Rattle.tree_writing.specs.Awaiting.{Awaits}
use Rattle.tree_writing.specs.declared.text_writer.TextWriter.{TextWriter}
use Rattle.instance.proofs.Partition.{within_take, within_drop}

-- the entries of the rows before it all count
all_below : (i : ℕ) (xs ys : List Entry) → All (λ e. nat_lt e.row i ≡ true) xs → entries_below i (xs ++ ys) ≡ entries_below i ys + length xs
all_below i [] ys before = omega arith
all_below i (x ∷ xs) ys before =
    let here = All-head (λ (e : Entry). nat_lt e.row i ≡ true) x xs before in
    let rest = all_below i xs ys (All-tail (λ (e : Entry). nat_lt e.row i ≡ true) x xs before) in
    rw here (omega (arith, rest))

-- and none of the others
pub none_below : (i : ℕ) (ys : List Entry) → All (λ e. nat_lt e.row i ≡ false) ys → entries_below i ys ≡ 0
none_below i [] after = refl
none_below i (y ∷ ys) after =
    let here = All-head (λ (e : Entry). nat_lt e.row i ≡ false) y ys after in
    rw here (none_below i ys (All-tail (λ (e : Entry). nat_lt e.row i ≡ false) y ys after))

-- where the rows before this one end, so many entries stand before it
pub below_point : (es : List Entry) (i at : ℕ) → at ≤ length es → IsPartitionPoint (λ e. nat_lt e.row i ≡ true) (λ e. nat_lt e.row i ≡ false) es at → at ≡ entries_below i es
below_point es i at inside point =
    let split : entries_below i (take at es ++ drop at es) ≡ entries_below i es = ap (entries_below i) (take-append-drop at es) in
    let low : entries_below i (take at es ++ drop at es) ≡ entries_below i (drop at es) + length (take at es) = all_below i (take at es) (drop at es) (within_take (λ (e : Entry). nat_lt e.row i ≡ true) es at point.0) in
    let high : entries_below i (drop at es) ≡ 0 = none_below i (drop at es) (within_drop (λ (e : Entry). nat_lt e.row i ≡ false) es at point.1) in
    let long : length (take at es) ≡ at = length-take-le at es inside in
    omega (arith, split, low, high, long)

-- one row less is still to be written
pub start_told : (es : List Entry) (a b : TextWriter) (row left next here : ℕ) (behind : List Event) (text : List ℕ) → left ≡ suc next → here ≡ entries_below row es → Wrote a b (nodes_events (counts_nodes (here ∷ []))) → Awaits a (nodes_events (counts_nodes (row_starts es row left)) behind) text → Awaits b (nodes_events (counts_nodes (row_starts es (row + 1) next)) behind) text
start_told es a b row left next here behind text count is tells before =
    let rest : List Event = nodes_events (counts_nodes (row_starts es (row + 1) next)) behind in
    let first : Awaits a (nodes_events (counts_nodes (entries_below row es ∷ [])) rest) text = subst (λ (n : ℕ). Awaits a (nodes_events (counts_nodes (row_starts es row n)) behind) text) count before in
    tells rest text (subst (λ (n : ℕ). Awaits a (nodes_events (counts_nodes (n ∷ [])) rest) text) (sym is) first)

-- none is left but the last one's end
pub last_start : (es : List Entry) (a b : TextWriter) (rows row left here : ℕ) (behind : List Event) (text : List ℕ) → rows ≡ row → left ≡ 0 → here ≡ entries_below rows es → Wrote a b (nodes_events (counts_nodes (here ∷ []))) → Awaits a (nodes_events (counts_nodes (row_starts es row left)) behind) text → Awaits b behind text
last_start es a b rows row left here behind text over none is tells before =
    let first : Awaits a (nodes_events (counts_nodes (entries_below row es ∷ [])) behind) text = subst (λ (n : ℕ). Awaits a (nodes_events (counts_nodes (row_starts es row n)) behind) text) none before in
    tells behind text (subst (λ (n : ℕ). Awaits a (nodes_events (counts_nodes (n ∷ [])) behind) text) (sym (is ∙ ap (λ (n : ℕ). entries_below n es) over)) first)
