-- Nodes of a written report are gone past, whatever was counted before and whatever text was heard last: elements that are passed over, texts that are read, and elements with what stands in them.
use Rattle.osrl_grammar.proofs.Names.{◌≡◌, ℕ, ◌+◌, ◌-◌, ◌<◌, true, List, [], ◌∷◌, map, refl, subst, arith, Attribute, Event, Close, Nodes, none, element, chars, nodes_events, Start, Char, Finish, spread, text_nodes, leaf, AreTaken, TakesMark, Over, State, keeps, osrl}
use Rattle.tag_tests.proofs.Forms.{taken_both}
use Rattle.tag_tests.proofs.Characters.{chars_kept, chars_passed}
use Rattle.osrl_grammar.proofs.Steps.{led_at, led_over, start_over, end_over, over_keeps}

-- the same state with this count and this text
abbrev pub at : State → ℕ → List ℕ → State
at s n t = record s { count = n; text = t }

-- from one state to the other these nodes are gone past, whatever follows
abbrev pub Goes : Nodes → State → State → Type 0
Goes ns s z = (k : List Event) (y : State) → ((n : ℕ) (t : List ℕ) → AreTaken osrl (at z n t) (spread k) y) → (n : ℕ) (t : List ℕ) → AreTaken osrl (at s n t) (spread (nodes_events ns k)) y

pub goes_none : (s : State) → Goes none s s
goes_none s = λ k y h. h

-- a start tag is taken, and an end tag
abbrev pub Opens : State → List ℕ → List Attribute → State → Type 0
Opens s name as' a = (n : ℕ) (t : List ℕ) → (i : ℕ) × (u : List ℕ) × TakesMark osrl (at s n t) (Start name as') (at a i u)

abbrev pub Closes : State → List ℕ → State → Type 0
Closes m name b = (n : ℕ) (t : List ℕ) → TakesMark osrl (at m n t) (Finish name) (at b n t)

pub goes_element : (name : List ℕ) (as' : List Attribute) (children more : Nodes) (s a m b z : State) → Opens s name as' a → Goes children a m → Closes m name b → Goes more b z → Goes (element name as' children more) s z
goes_element name as' children more s a m b z begin inside end behind =
    λ k y h n t. let o = begin n t in (at a o.0 o.1, o.2, inside (Close name ∷ nodes_events more k) y (λ i u. (at b i u, end i u, behind k y h i u)) o.0 o.1)

-- characters
goes_text : (text : List ℕ) (k : List Event) (y s : State) → keeps s.depth s.place ≡ true → (n : ℕ) → AreTaken osrl (at s n text) (spread k) y → AreTaken osrl (at s n []) (spread (nodes_events (text_nodes text) k)) y
goes_text [] k y s on n h = h
goes_text (c ∷ cs) k y s on n h = taken_both osrl (at s n []) (at s n (c ∷ cs)) y (map Char (c ∷ cs)) (spread k) (chars_kept osrl (at s n) (keeps s.depth s.place) (λ t b. (tt, refl)) [] (c ∷ cs) (c ∷ cs) on refl) h

-- an element whose text is read
pub goes_leaf : (name text : List ℕ) (more : Nodes) (s a b z : State) → ((n : ℕ) (t : List ℕ) → (i : ℕ) × TakesMark osrl (at s n t) (Start name []) (at a i [])) → keeps a.depth a.place ≡ true → ((n : ℕ) → TakesMark osrl (at a n text) (Finish name) (at b n text)) → Goes more b z → Goes (leaf name text more) s z
goes_leaf name text more s a b z begin on end behind =
    λ k y h n t. let o = begin n t in (at a o.0 [], o.1, goes_text text (Close name ∷ nodes_events more k) y a on o.0 (at b o.0 text, end o.0, behind k y h o.0 text))

-- in an element that is passed over all is
is_over : (n : ℕ) → 0 < n + 1
is_over n = omega arith

over_ends : (s : State) (name : List ℕ) → TakesMark osrl (record s { depth = s.depth + 1 }) (Finish name) s
over_ends s name =
    let in_it : State = record s { depth = s.depth + 1 } in
    let same : s.depth + 1 - 1 ≡ s.depth = omega arith in
    subst (λ (n : ℕ). TakesMark osrl in_it (Finish name) (record s { depth = n })) same (end_over in_it name (is_over s.depth))

-- an element that isn't read, and all that stands in it
pub goes_over : (ns : Nodes) (s : State) → 0 < s.depth → Goes ns s s
goes_over none s over = goes_none s
goes_over (element name as' children more) s over =
    let in_it : State = record s { depth = s.depth + 1 } in
    goes_element name as' children more s in_it in_it s s (λ n t. (n, t, start_over (at s n t) name as' (led_over (at s n t) name as' over))) (goes_over children in_it (is_over s.depth)) (λ n t. over_ends (at s n t) name) (goes_over more s over)
goes_over (chars cs more) s over = λ k y h n t. taken_both osrl (at s n t) (at s n t) y (map Char cs) (spread (nodes_events more k)) (chars_passed osrl (at s n) (keeps s.depth s.place) (λ u b. (tt, refl)) t cs (over_keeps s.depth s.place over)) (goes_over more s over k y h n t)

pub goes_past : (name : List ℕ) (as' : List Attribute) (children more : Nodes) (s z : State) → led_at s name as' ≡ Over → Goes more s z → Goes (element name as' children more) s z
goes_past name as' children more s z over behind =
    let in_it : State = record s { depth = s.depth + 1 } in
    goes_element name as' children more s in_it in_it s z (λ n t. (n, t, start_over (at s n t) name as' over)) (goes_over children in_it (is_over s.depth)) (λ n t. over_ends (at s n t) name) behind
