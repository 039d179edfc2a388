-- Elements of a tree passed event by event.
use Rattle.std.proofs.Common.{◌≡◌, ◌∙◌, ℕ, suc, ◌+◌, ◌-◌, ◌<◌, ◌≤◌, List, [], ◌∷◌, length, drop, drop-cons, refl, ap, sym, subst, arith}
use Rattle.std.proofs.lemmas.List.{drop_all}
use Rattle.tree_grammar.specs.Elements.{Attribute, Nodes, none, element, chars, Event, Open, Chars, Close, nodes_events}
use Rattle.document_tags.specs.Rests.{child_elements}
use Rattle.element_tree.specs.Items.{event_at}
use Rattle.document_tags.specs.Passages.{Pending, IsChild, Remains}

-- what is behind the first event
abbrev tail : List Event → List Event
tail [] = []
tail (e ∷ es) = es

pub same_heads : (e : Event) (es : List Event) (d : Event) (ds : List Event) → e ∷ es ≡ d ∷ ds → (e ≡ d) × (es ≡ ds)
same_heads e es d ds h = let h1 : e ≡ d = cc in let h2 : es ≡ ds = cc in (h1, h2)

-- an element begins
pub opened : (d : ℕ) (name : List ℕ) (attributes : List Attribute) (es rest : List Event) → Pending (suc d) (Open name attributes ∷ es) rest → Pending (suc (suc d)) es rest
opened d name attributes es rest (none, n, after, e, p) = absurd (let h : Open name attributes ≡ Close n = (same_heads _ _ _ _ e).0 in cc)
opened d name attributes es rest (element m a children more, n, after, e, p) = (children, m, nodes_events more (Close n ∷ after), (same_heads _ _ _ _ e).1, (more, n, after, refl, p))
opened d name attributes es rest (chars text more, n, after, e, p) = absurd (let h : Open name attributes ≡ Chars text = (same_heads _ _ _ _ e).0 in cc)

-- characters
pub spoken : (d : ℕ) (text : List ℕ) (es rest : List Event) → Pending (suc d) (Chars text ∷ es) rest → Pending (suc d) es rest
spoken d text es rest (none, n, after, e, p) = absurd (let h : Chars text ≡ Close n = (same_heads _ _ _ _ e).0 in cc)
spoken d text es rest (element m a children more, n, after, e, p) = absurd (let h : Chars text ≡ Open m a = (same_heads _ _ _ _ e).0 in cc)
spoken d text es rest (chars t more, n, after, e, p) = (more, n, after, (same_heads _ _ _ _ e).1, p)

-- an element ends
pub closed : (d : ℕ) (name : List ℕ) (es rest : List Event) → Pending (suc d) (Close name ∷ es) rest → Pending d es rest
closed d name es rest (none, n, after, e, p) = subst (λ (l : List Event). Pending d l rest) (sym ((same_heads _ _ _ _ e).1)) p
closed d name es rest (element m a children more, n, after, e, p) = absurd (let h : Close name ≡ Open m a = (same_heads _ _ _ _ e).0 in cc)
closed d name es rest (chars text more, n, after, e, p) = absurd (let h : Close name ≡ Chars text = (same_heads _ _ _ _ e).0 in cc)

-- one element is still to be ended
pub one_pending : (content : Nodes) (name : List ℕ) (events rest : List Event) → events ≡ nodes_events content (Close name ∷ rest) → Pending 1 events rest
one_pending content name events rest e = (content, name, rest, e, refl)

-- an end is still to come
pub not_over : (d : ℕ) (rest : List Event) → Pending (suc d) [] rest → ⊥
not_over d rest (none, n, after, e, p) = cc
not_over d rest (element m a children more, n, after, e, p) = cc
not_over d rest (chars text more, n, after, e, p) = cc

-- the event at an index, and those behind it
pub from_event : (es : List Event) (at : ℕ) (e : Event) → at < length es → event_at es at ≡ e → drop at es ≡ e ∷ drop (at + 1) es
from_event es at e inside is =
    let one : suc at ≡ at + 1 = omega arith in
    drop-cons es at (Close []) inside ∙ (ap (λ d. d ∷ drop (suc at) es) is ∙ ap (λ n. e ∷ drop n es) one)

-- so many elements are still to be ended, at an event and behind it
at_event : (es rest : List Event) (at depth d : ℕ) (e : Event) → at < length es → depth ≡ suc d → event_at es at ≡ e → Pending depth (drop at es) rest → Pending (suc d) (e ∷ drop (at + 1) es) rest
at_event es rest at depth d e inside is shows p =
    subst (λ (l : List Event). Pending (suc d) l rest) (from_event es at e inside shows) (subst (λ n. Pending n (drop at es) rest) is p)

pub step_open : (es rest : List Event) (at depth : ℕ) (name : List ℕ) (attributes : List Attribute) → at < length es → 0 < depth → event_at es at ≡ Open name attributes → Pending depth (drop at es) rest → Pending (depth + 1) (drop (at + 1) es) rest
step_open es rest at depth name attributes inside some shows p =
    let is : depth ≡ suc (depth - 1) = omega (arith, some) in
    let more : suc (suc (depth - 1)) ≡ depth + 1 = omega (arith, some) in
    subst (λ n. Pending n (drop (at + 1) es) rest) more (opened (depth - 1) name attributes (drop (at + 1) es) rest (at_event es rest at depth (depth - 1) (Open name attributes) inside is shows p))

pub step_chars : (es rest : List Event) (at depth : ℕ) (text : List ℕ) → at < length es → 0 < depth → event_at es at ≡ Chars text → Pending depth (drop at es) rest → Pending depth (drop (at + 1) es) rest
step_chars es rest at depth text inside some shows p =
    let is : depth ≡ suc (depth - 1) = omega (arith, some) in
    subst (λ n. Pending n (drop (at + 1) es) rest) (sym is) (spoken (depth - 1) text (drop (at + 1) es) rest (at_event es rest at depth (depth - 1) (Chars text) inside is shows p))

pub step_close : (es rest : List Event) (at depth : ℕ) (name : List ℕ) → at < length es → 0 < depth → event_at es at ≡ Close name → Pending depth (drop at es) rest → Pending (depth - 1) (drop (at + 1) es) rest
step_close es rest at depth name inside some shows p =
    let is : depth ≡ suc (depth - 1) = omega (arith, some) in
    closed (depth - 1) name (drop (at + 1) es) rest (at_event es rest at depth (depth - 1) (Close name) inside is shows p)

-- nothing was passed yet
pub all_remains : (content : Nodes) (name : List ℕ) (rest events : List Event) → events ≡ nodes_events content (Close name ∷ rest) → Remains content name rest events
all_remains content name rest events e = record { more = content; same = refl; here = e }

-- a child element begins
child_from : (content more : Nodes) (name : List ℕ) (rest es : List Event) (n : List ℕ) (attributes : List Attribute) → child_elements more ≡ child_elements content → Open n attributes ∷ es ≡ nodes_events more (Close name ∷ rest) → IsChild content name rest (Open n attributes ∷ es)
child_from content none name rest es n attributes same e = absurd (let h : Open n attributes ≡ Close name = (same_heads _ _ _ _ e).0 in cc)
child_from content (element m a children more) name rest es n attributes same e = record { child = record { name = m; attributes = a; children = children }; more = more; first = sym same; here = e }
child_from content (chars text more) name rest es n attributes same e = absurd (let h : Open n attributes ≡ Chars text = (same_heads _ _ _ _ e).0 in cc)

pub child_begins : (content : Nodes) (name : List ℕ) (rest es events : List Event) (n : List ℕ) (attributes : List Attribute) → Remains content name rest events → events ≡ Open n attributes ∷ es → IsChild content name rest events
child_begins content name rest es events n attributes r e = subst (λ (l : List Event). IsChild content name rest l) (sym e) (child_from content r.more name rest es n attributes r.same (sym e ∙ r.here))

-- the content ends
none_from : (content more : Nodes) (name : List ℕ) (rest es : List Event) (n : List ℕ) → child_elements more ≡ child_elements content → Close n ∷ es ≡ nodes_events more (Close name ∷ rest) → child_elements content ≡ []
none_from content none name rest es n same e = sym same
none_from content (element m a children more) name rest es n same e = absurd (let h : Close n ≡ Open m a = (same_heads _ _ _ _ e).0 in cc)
none_from content (chars text more) name rest es n same e = absurd (let h : Close n ≡ Chars text = (same_heads _ _ _ _ e).0 in cc)

pub content_ends : (content : Nodes) (name : List ℕ) (rest es events : List Event) (n : List ℕ) → Remains content name rest events → events ≡ Close n ∷ es → child_elements content ≡ []
content_ends content name rest es events n r e = none_from content r.more name rest es n r.same (sym e ∙ r.here)

-- characters are passed
past_from : (content more : Nodes) (name : List ℕ) (rest es : List Event) (text : List ℕ) → child_elements more ≡ child_elements content → Chars text ∷ es ≡ nodes_events more (Close name ∷ rest) → Remains content name rest es
past_from content none name rest es text same e = absurd (let h : Chars text ≡ Close name = (same_heads _ _ _ _ e).0 in cc)
past_from content (element m a children more) name rest es text same e = absurd (let h : Chars text ≡ Open m a = (same_heads _ _ _ _ e).0 in cc)
past_from content (chars t more) name rest es text same e = record { more = more; same = same; here = (same_heads _ _ _ _ e).1 }

pub past_chars : (content : Nodes) (name : List ℕ) (rest es events : List Event) (text : List ℕ) → Remains content name rest events → events ≡ Chars text ∷ es → Remains content name rest es
past_chars content name rest es events text r e = past_from content r.more name rest es text r.same (sym e ∙ r.here)

-- an end tag is still to come
pub never : (more : Nodes) (name : List ℕ) (rest : List Event) → [] ≡ nodes_events more (Close name ∷ rest) → ⊥
never none name rest e = cc
never (element m a children more) name rest e = cc
never (chars text more) name rest e = cc

pub remains_some : (content : Nodes) (name : List ℕ) (rest events : List Event) → Remains content name rest events → events ≡ [] → ⊥
remains_some content name rest events r e = never r.more name rest (sym e ∙ r.here)

-- there are no events behind the last
pub over_end : (es rest : List Event) (at depth : ℕ) → 0 < depth → length es ≤ at → Pending depth (drop at es) rest → ⊥
over_end es rest at depth some past p =
    let is : depth ≡ suc (depth - 1) = omega (arith, some) in
    not_over (depth - 1) rest (subst (λ (l : List Event). Pending (suc (depth - 1)) l rest) (drop_all at es past) (subst (λ n. Pending n (drop at es) rest) is p))
