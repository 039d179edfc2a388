-- What the machine takes together, step by step.
use Rattle.doc_tree.proofs.Words.{Attribute, BehindKey, Between, Char, Each, Finish, FollowsByte, Good, GoodTag, InBody, InElement, IsAmong, IsName, IsNameChar, IsNameRest, IsPlainText, IsPlainValue, IsPrintable, IsQuote, IsQuoted, IsTrue, List, Mark, ReachesState, RestsAt, MachineState, TagFirst, TreeTerms, Walks, [], ap, append-nil, append_assoc, arith, drop, get_or, inl, inr, length, local_part, map, nat_eq, pointwise, refl, slice_eq-Decides, subst, sym, take, take-append-drop, true, unsigned_Decides, ℕ, ◌++◌, ◌+◌, ◌-◌, ◌<◌, ◌↔◌, ◌∙◌, ◌∷◌, ◌≡◌, ◌≢◌}
use Rattle.doc_tree.specs.declared.names.Part.TheVariants as parts
use Rattle.doc_tree.specs.declared.machine.Goal.TheVariants as goals
use Rattle.doc_tree.specs.declared.machine.Place.TheVariants as places
use Rattle.doc_tree.proofs.ByteGrammar.{char_range, content_less, first_printable, no_brackets, not_space, part_high, quote_range, start_range, tag_plain}
use Rattle.doc_tree.proofs.MachineSteps.{at_place, content_said, content_tag_any, end_moves, end_over, follows_from, key_begins, key_equals, key_more, key_named, moves, quote_goes, reach_place, tag_begun, tag_more, tag_named, value_said, word_goes, word_reaches}
use Rattle.doc_tree.proofs.Walking.Pieces.{take_cons, quoted_taken}

-- bytes before others
pub walks_both : (s m t : MachineState) (xs ys : List ℕ) → Walks s xs m → Walks m ys t → Walks s (xs ++ ys) t
walks_both s m t [] ys w v = subst (λ z. Walks z ys t) w v
walks_both s m t (b ∷ xs) ys (mid, a, f, w) v = (mid, a, f, walks_both mid m t xs ys w v)

pub walks_good : (s t : MachineState) (xs : List ℕ) → Walks s xs t → Good s.place s → Good t.place t
walks_good s t [] w g = subst (λ z. Good z.place z) (sym w) g
walks_good s t (b ∷ xs) (mid, a, f, w) g = walks_good mid t xs w f.good

-- where the place is known
from_place : (s : MachineState) (b : ℕ) (t : MachineState) (p : _) → s.place ≡ p → FollowsByte s.marks (RestsAt p s) b t → FollowsByte s.marks (RestsAt s.place s) b t
from_place s b t p e f = at_place (λ z. FollowsByte s.marks (RestsAt z s) b t) s.place p e f

-- a run of characters of content
abbrev said : MachineState → List ℕ → MachineState
said s run = record s { count = 0; marks = s.marks ++ map Char run }

one_said : (s : MachineState) (b : ℕ) → s.place ≡ places.Content → InElement s.names s.kept → IsPlainText b → FollowsByte s.marks (RestsAt s.place s) b (said s (b ∷ []))
one_said s b p g (l, h, less, ampersand, bracket, greater) = from_place s b (said s (b ∷ [])) places.Content p (content_said s b 0 (s.marks ++ Char b ∷ []) s.kept refl (sym (no_brackets s.count b bracket)) g p less ampersand (λ _. greater))

all_said : (s : MachineState) (b : ℕ) (run : List ℕ) → s.place ≡ places.Content → InElement s.names s.kept → Each IsPlainText (b ∷ run) → Walks s (b ∷ run) (said s (b ∷ run))
all_said s b [] p g i = (said s (b ∷ []), (i.0.0, i.0.1), one_said s b p g i.0, refl)
all_said s b (c ∷ run) p g i =
    let mid = said s (b ∷ []) in
    (mid, (i.0.0, i.0.1), one_said s b p g i.0, subst (Walks mid (c ∷ run)) (ap {A = List Mark} {B = MachineState} (λ z. record s { count = 0; marks = z }) (append_assoc s.marks (Char b ∷ []) (map Char (c ∷ run)))) (all_said mid c run p g i.1))

pub text_walks : (s : MachineState) (run : List ℕ) (kept : List Attribute) (marks : List Mark) → s.place ≡ places.Content → InElement s.names s.kept → Each IsPlainText run → run ≢ [] → kept ≡ s.kept → marks ≡ s.marks ++ map Char run → Walks s run (record s { count = 0; kept = kept; marks = marks })
text_walks s [] kept marks p g i n e f = absurd (n refl)
text_walks s (b ∷ run) kept marks p g i n e f =
    subst (λ z. Walks s (b ∷ run) (record s { count = 0; kept = z; marks = marks })) (sym e) (subst (λ z. Walks s (b ∷ run) (record s { count = 0; marks = z })) (sym f) (all_said s b run p g i))

-- a run of characters of a value
pub value_walks : (s : MachineState) (run v : List ℕ) → s.place ≡ places.Value → Good places.Value s → Each (IsPlainValue s.quote) run → v ≡ s.value ++ run → Walks s run (record s { value = v })
value_walks s [] v p g i e = ap {A = List ℕ} {B = MachineState} (λ z. record s { value = z }) (e ∙ append-nil s.value)
value_walks s (b ∷ run) v p g ((l, h, quote, less, ampersand), more) e =
    let mid : MachineState = record s { value = s.value ++ b ∷ [] } in
    (mid, (omega arith, h), from_place s b mid places.Value p (value_said s b (s.value ++ b ∷ []) refl p g quote less ampersand (not_space b (omega arith))), value_walks mid run v p g more (e ∙ sym (append_assoc s.value (b ∷ []) run)))

-- `<` of a tag
abbrev less : MachineState → MachineState
less s = record s { place = places.ContentLess }

tag_less : (s : MachineState) → s.place ≡ places.Content → InElement s.names s.kept → FollowsByte s.marks (RestsAt s.place s) 60 (less s)
tag_less s p g = from_place s 60 (less s) places.Content p (moves s.marks (RestsAt places.Content s) 60 (less s) refl (λ l h. h) g (λ u d x es. content_less u s.count s.names x es))

-- a start tag's name
abbrev named : MachineState → List ℕ → MachineState
named s name = record s { place = places.TagName; name = name; keys = []; part = parts.First }

name_goes : (b : ℕ) (run : List ℕ) → IsNameChar b → b ≢ 58 → IsNameRest parts.First (b ∷ run) ↔ IsNameRest parts.First run
name_goes b run i n = ((λ h. elim h [ inl p ↦ p.1 | inr p ↦ absurd (n p.0) ]), (λ h. inl (i, h)))

name_stops : (run : List ℕ) → IsNameRest parts.First (62 ∷ run) → ⊥
name_stops run h = let k = part_high parts.First 62 run h in grind arith

chars_walk : (s : MachineState) (name chars : List ℕ) → Good places.TagName (named s name) → Each IsNameChar chars → Walks (named s name) chars (named s (name ++ chars))
chars_walk s name [] g i = ap (named s) (append-nil name)
chars_walk s name (b ∷ chars) g (i, more) =
    let mid : MachineState = named s (name ++ b ∷ []) in
    let r = char_range b i in
    let f = tag_more (named s name) b (name ++ b ∷ []) parts.First refl refl g (λ run. name_goes b run i r.2) in
    (mid, (omega arith, omega arith), f, subst (Walks mid chars) (ap (named s) (append_assoc name (b ∷ []) chars)) (chars_walk s (name ++ b ∷ []) chars f.good more))

name_walks : (s : MachineState) (name : List ℕ) → s.place ≡ places.Content → InElement s.names s.kept → IsName name → length s.names < 32 → Walks s (60 ∷ name) (named s name)
name_walks s [] p g i l = absurd i
name_walks s (b ∷ chars) p g (i, more) l =
    let r = start_range b i in
    let f = follows_from s.marks (RestsAt places.ContentLess (less s)) (TagFirst s.names) b (named s (b ∷ [])) (λ u d x es. content_tag_any u s.names b x es g.1 (λ e. omega arith) (λ e. omega arith) (λ e. omega arith)) (tag_begun (less s) b (b ∷ []) [] refl refl g.0 g.2 i l) in
    (less s, (omega arith, omega arith), tag_less s p g, (named s (b ∷ []), (omega arith, omega arith), f, chars_walk s (b ∷ []) chars f.good more))

-- the same where the state's parts are known by equations
abbrev given : MachineState → List ℕ → List (List ℕ) → MachineState
given s name keys = record s { place = places.TagName; name = name; keys = keys; part = parts.First }

pub start_walks : (s : MachineState) (name new : List ℕ) (keys : List (List ℕ)) → s.place ≡ places.Content → InElement s.names s.kept → IsName name → length s.names < 32 → new ≡ name → keys ≡ [] → Walks s (60 ∷ name) (given s new keys)
start_walks s name new keys p g i l e f = subst (λ z. Walks s (60 ∷ name) (given s z keys)) (sym e) (subst (λ z. Walks s (60 ∷ name) (given s name z)) (sym f) (name_walks s name p g i l))

pub start_taken : (s : MachineState) (n : ℕ) (rest new : List ℕ) (keys : List (List ℕ)) → Walks s (60 ∷ take n rest) (given s new keys) → Walks s (take (n + 1) (60 ∷ rest)) (given s new keys)
start_taken s n rest new keys w = subst (λ z. Walks s z (given s new keys)) (sym (take_cons n (n + 1) 60 rest refl)) w

pub start_good : (s m : MachineState) (name : List ℕ) → s.place ≡ places.Content → InElement s.names s.kept → m.place ≡ places.TagName → Walks s (60 ∷ name) m → GoodTag m
start_good s m name p g q w = let k : Good places.TagName m = subst (λ z. Good z m) q (walks_good s m (60 ∷ name) w (at_place (λ z. Good z s) s.place places.Content p g)) in k.2

-- the whole start tag
over_name : (m : MachineState) (u : TreeTerms) (x : List ℕ) (es : List Mark) → m.part ≡ parts.First → RestsAt places.TagName m u (62 ∷ x) es ↔ InBody m u (62 ∷ x) es
over_name m u x es e =
    let a = tag_named u m 62 x es (λ c. let d = sym e ∙ c in absurd (cc)) (λ run h. name_stops run (subst (λ z. IsNameRest z (62 ∷ run)) e h)) in
    let c = tag_plain u m 62 x es (not_space 62 (omega arith)) in
    (λ h. c.0 (a.0 h), λ h. a.1 (c.1 h))

pub opened_walks : (s : MachineState) (name new : List ℕ) (keys : List (List ℕ)) (t : MachineState) → Walks s (60 ∷ name) (given s new keys) → FollowsByte s.marks (InBody (given s new keys)) 62 t → Walks s (60 ∷ (name ++ 62 ∷ [])) t
opened_walks s name new keys t w f =
    let m : MachineState = given s new keys in
    walks_both s m t (60 ∷ name) (62 ∷ []) w (t, (omega arith, omega arith), follows_from s.marks (RestsAt places.TagName m) (InBody m) 62 t (λ u d x es. over_name m u x es refl) f, refl)

-- an end tag
abbrev word : MachineState → List ℕ → MachineState
word s left = record s { place = places.Word; left = left; goal = goals.EndName }

abbrev over : MachineState → MachineState
over s = record s { place = places.EndSpace; left = []; goal = goals.EndName }

spelled : (s : MachineState) (b : ℕ) (more : List ℕ) → InElement s.names s.kept → Each IsPrintable (b ∷ more) → Walks (word s (b ∷ more)) (b ∷ more) (over s)
spelled s b [] g i =
    let r = reach_place (word s []) goals.EndName places.EndSpace refl g (λ o. o) (λ h. h) (λ u x es. (λ h. h, λ h. h)) in
    (over s, (i.0.0, omega (arith, i.0.1)), word_reaches (word s (b ∷ [])) b [] (over s) refl refl r, refl)
spelled s b (c ∷ more) g i = (word s (c ∷ more), (i.0.0, omega (arith, i.0.1)), word_goes (word s (b ∷ c ∷ more)) b (c ∷ more) refl (λ e. cc) refl i g, spelled s c more g i.1)

named_walks : (s : MachineState) (name : List ℕ) → name ≢ [] → InElement s.names s.kept → Each IsPrintable name → Walks (word s name) name (over s)
named_walks s [] n g i = absurd (n refl)
named_walks s (b ∷ more) n g i = spelled s b more g i

pub end_walks : (s : MachineState) (name : List ℕ) (outer : List (List ℕ)) (l : List ℕ) (marks : List Mark) (t : MachineState) → s.place ≡ places.Content → InElement s.names s.kept → s.names ≡ name ∷ outer → name ≢ [] → l ≡ local_part name → marks ≡ s.marks ++ (Finish l ∷ []) → ReachesState marks (Between 0 outer) t → Walks s (60 ∷ 47 ∷ (name ++ 62 ∷ [])) t
end_walks s name outer l marks t p g e n f m r =
    let printable : Each IsPrintable name = (first_printable s.names name outer e g.2).0 in
    let slash = end_moves (less s) name outer name (word s name) e refl n g refl in
    let closes = end_over (over s) 62 name outer l marks t refl e f m r in
    let rest : Walks (word s name) (name ++ 62 ∷ []) t = walks_both (word s name) (over s) t name (62 ∷ []) (named_walks s name n g printable) (t, (omega arith, omega arith), closes, refl) in
    (less s, (omega arith, omega arith), tag_less s p g, (word s name, (omega arith, omega arith), slash, rest))

-- a prefix, and a byte behind it
pub behind_prefix : (xs name rest more : List ℕ) (b : ℕ) → pointwise nat_eq (take (length name) xs) name ≡ true → rest ≡ drop (length name) xs → rest ≡ b ∷ more → IsTrue (nat_eq b 62) → xs ≡ name ++ (62 ∷ more)
behind_prefix xs name rest more b e f g h =
    let n : take (length name) xs ≡ name = (slice_eq-Decides unsigned_Decides (take (length name) xs) name true (sym e)).0 refl in
    let m : b ≡ 62 = (unsigned_Decides b 62).0 h in
    sym (take-append-drop (length name) xs) ∙ ap (λ z. z ++ drop (length name) xs) n ∙ ap (λ z. name ++ z) (sym f ∙ g ∙ ap (λ z. z ∷ more) m)

-- an attribute's name, with `=` and the quote behind it
abbrev keyed : MachineState → List ℕ → MachineState
keyed s key = record s { key = key; part = parts.First; place = places.Key }

keys_walk : (s : MachineState) (key chars : List ℕ) → GoodTag s → Each IsNameChar chars → Walks (keyed s key) chars (keyed s (key ++ chars))
keys_walk s key [] g i = ap (keyed s) (append-nil key)
keys_walk s key (b ∷ chars) g (i, more) =
    let mid : MachineState = keyed s (key ++ b ∷ []) in
    let r = char_range b i in
    (mid, (omega arith, omega arith), key_more (keyed s key) b (key ++ b ∷ []) parts.First refl refl g (λ run. name_goes b run i r.2), subst (Walks mid chars) (ap (keyed s) (append_assoc key (b ∷ []) chars)) (keys_walk s (key ++ b ∷ []) chars g more))

abbrev equal : MachineState → MachineState
equal m = record m { place = places.KeyQuote }

abbrev valued : MachineState → List ℕ → ℕ → MachineState
valued s key quote = record s { key = key; part = parts.First; quote = quote; value = []; place = places.Value }

equals_stops : (run : List ℕ) → IsNameRest parts.First (61 ∷ run) → ⊥
equals_stops run h = let k = part_high parts.First 61 run h in grind arith

quoted_walks : (s : MachineState) (key : List ℕ) (quote : ℕ) → GoodTag s → (IsAmong key s.keys → ⊥) → IsQuote quote → Walks (keyed s key) (61 ∷ quote ∷ []) (valued s key quote)
quoted_walks s key quote g n i =
    let m : MachineState = keyed s key in
    let e = follows_from m.marks (RestsAt places.Key m) (BehindKey m) 61 (equal m) (λ u d x es. key_named u m 61 x es (λ c. absurd (cc)) equals_stops) (key_equals m 61 refl g n) in
    (equal m, (omega arith, omega arith), e, (valued s key quote, (let q = quote_range quote i in (omega arith, omega arith)), quote_goes (equal m) places.Value quote [] (inr (refl, refl, n, g)) i refl, refl))

key_walks : (s : MachineState) (name : List ℕ) (quote : ℕ) → s.place ≡ places.TagSpace → GoodTag s → IsName name → (IsAmong name s.keys → ⊥) → IsQuote quote → Walks s (name ++ (61 ∷ quote ∷ [])) (valued s name quote)
key_walks s [] quote p g i n q = absurd i
key_walks s (b ∷ chars) quote p g (i, more) n q =
    let r = start_range b i in
    let f = from_place s b (keyed s (b ∷ [])) places.TagSpace p (key_begins s b (b ∷ []) refl g (not_space b (omega arith)) i) in
    (keyed s (b ∷ []), (omega arith, omega arith), f, walks_both (keyed s (b ∷ [])) (keyed s (b ∷ chars)) (valued s (b ∷ chars) quote) chars (61 ∷ quote ∷ []) (keys_walk s (b ∷ []) chars g more) (quoted_walks s (b ∷ chars) quote g n q))

-- the same where the state's parts are known by equations
pub attribute_walks : (s : MachineState) (n d : ℕ) (bytes key value : List ℕ) (quote : ℕ) (keys : List (List ℕ)) → s.place ≡ places.TagSpace → GoodTag s → IsName (take n bytes) → (IsAmong (take n bytes) s.keys → ⊥) → IsQuoted (take (length bytes - n) (drop n bytes)) → keys ≡ s.keys → key ≡ take n bytes → value ≡ [] → quote ≡ get_or bytes (n + 1) d → Walks s (take (n + 2) bytes) (record s { keys = keys; key = key; part = parts.First; quote = quote; value = value; place = places.Value })
attribute_walks s n d bytes key value quote keys p g i m (q, more, is, text) k e f h =
    let (first, second) = quoted_taken n d bytes q more text in
    subst (λ z. Walks s (take (n + 2) bytes) (record s { keys = z; key = key; part = parts.First; quote = quote; value = value; place = places.Value })) (sym k)
    (subst (λ z. Walks s (take (n + 2) bytes) (record s { key = z; part = parts.First; quote = quote; value = value; place = places.Value })) (sym e)
    (subst (λ z. Walks s (take (n + 2) bytes) (record s { key = take n bytes; part = parts.First; quote = quote; value = z; place = places.Value })) (sym f)
    (subst (λ z. Walks s (take (n + 2) bytes) (valued s (take n bytes) z)) (sym (h ∙ second))
    (subst (λ z. Walks s z (valued s (take n bytes) q)) (sym first) (key_walks s (take n bytes) q p g i m is)))))
