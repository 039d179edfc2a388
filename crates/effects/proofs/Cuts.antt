-- Bytes are cut into fields and records in one way.
use Rattle.std.proofs.Common.{◌≡◌, ◌≢◌, ℕ, ◌<◌, ◌≤◌, ◌^◌, List, [], ◌∷◌, ◌++◌, length, get_or, take, drop, refl, sym, ◌∙◌, ap, arith, append_assoc}
use Rattle.std.specs.Prelude.{Option, Some, None}
use Rattle.std.specs.Int.{w32, w64, to_be_bytes, from_be_bytes}
use Rattle.std.proofs.lemmas.List.{take_at, drop_at}
use Rattle.std.proofs.lemmas.Nat.{from_be_bytes-to_be_bytes_4, from_be_bytes-to_be_bytes_8}
use Rattle.effects.specs.Records.{Deed, Issue, Send, Enter, Finish, Killed, Marked, GivenUp, Begin, number, text, document, body, records, Fits, FitsPaper, AllFit, most_text, CutInOneWay}

-- two cuts behind fronts of one length
pub front_of : (a b r s : List ℕ) (n : ℕ) → length a ≡ n → length b ≡ n → a ++ r ≡ b ++ s → a ≡ b
front_of a b r s n la lb e = sym (take_at a r n la) ∙ ap (λ (l : List ℕ). take n l) e ∙ take_at b s n lb

pub rest_of : (a b r s : List ℕ) (n : ℕ) → length a ≡ n → length b ≡ n → a ++ r ≡ b ++ s → r ≡ s
rest_of a b r s n la lb e = sym (drop_at a r n la) ∙ ap (λ (l : List ℕ). drop n l) e ∙ drop_at b s n lb

pub number_cut : (n m : ℕ) (r s : List ℕ) → n < 2 ^ 64 → m < 2 ^ 64 → number n ++ r ≡ number m ++ s → (n ≡ m) × (r ≡ s)
number_cut n m r s fits_n fits_m e = (
  sym (from_be_bytes-to_be_bytes_8 n fits_n) ∙ ap (λ (l : List ℕ). from_be_bytes w64 l) (front_of (number n) (number m) r s 8 refl refl e) ∙ from_be_bytes-to_be_bytes_8 m fits_m,
  rest_of (number n) (number m) r s 8 refl refl e,
)

pub text_cut : (t u r s : List ℕ) → length t < 2 ^ 32 → length u < 2 ^ 32 → text t ++ r ≡ text u ++ s → (t ≡ u) × (r ≡ s)
text_cut t u r s fits_t fits_u e =
    let lead : to_be_bytes w32 (length t) ++ (t ++ r) ≡ to_be_bytes w32 (length u) ++ (u ++ s) = e in
    let same_lead = front_of (to_be_bytes w32 (length t)) (to_be_bytes w32 (length u)) (t ++ r) (u ++ s) 4 refl refl lead in
    let behind : t ++ r ≡ u ++ s = rest_of (to_be_bytes w32 (length t)) (to_be_bytes w32 (length u)) (t ++ r) (u ++ s) 4 refl refl lead in
    let lengths : length t ≡ length u = sym (from_be_bytes-to_be_bytes_4 (length t) fits_t) ∙ ap (λ (l : List ℕ). from_be_bytes w32 l) same_lead ∙ from_be_bytes-to_be_bytes_4 (length u) fits_u in
    (front_of t u r s (length u) lengths refl behind, rest_of t u r s (length u) lengths refl behind)

pub below : (n : ℕ) → n ≤ most_text → n < 2 ^ 32
below n le = omega arith

pub document_cut : (d e : Option (List ℕ)) (r s : List ℕ) → FitsPaper d → FitsPaper e → document d ++ r ≡ document e ++ s → (d ≡ e) × (r ≡ s)
document_cut None None r s fits_d fits_e e = (refl, ap (λ (l : List ℕ). drop 1 l) e)
document_cut (Some t) (Some u) r s fits_d fits_e e =
    let cut = text_cut t u r s (below (length t) fits_d) (below (length u) fits_e) (ap (λ (l : List ℕ). drop 1 l) e) in
    (ap (λ (x : List ℕ). Some x) cut.0, cut.1)
document_cut None (Some u) r s fits_d fits_e e = absurd (omega (arith, ap (λ (l : List ℕ). get_or l 0 0) e))
document_cut (Some t) None r s fits_d fits_e e = absurd (omega (arith, ap (λ (l : List ℕ). get_or l 0 0) e))

pub texts_cut : (t v u w r s : List ℕ) → length t ≤ most_text → length v ≤ most_text → length u ≤ most_text → length w ≤ most_text
    → (text t ++ text v) ++ r ≡ (text u ++ text w) ++ s → (t ≡ u) × (v ≡ w) × (r ≡ s)
texts_cut t v u w r s ft fv fu fw e =
    let whole : text t ++ (text v ++ r) ≡ text u ++ (text w ++ s) = sym (append_assoc (text t) (text v) r) ∙ e ∙ append_assoc (text u) (text w) s in
    let first = text_cut t u (text v ++ r) (text w ++ s) (below (length t) ft) (below (length u) fu) whole in
    let second = text_cut v w r s (below (length v) fv) (below (length w) fw) first.1 in
    (first.0, second.0, second.1)

pub body_cut : (d e : Deed) (r s : List ℕ) → Fits d → Fits e → body d ++ r ≡ body e ++ s → (d ≡ e) × (r ≡ s)
body_cut Issue Issue r s fits_d fits_e e = (refl, ap (λ (l : List ℕ). drop 1 l) e)
body_cut (Send n t v) (Send m u w) r s fits_d fits_e e =
    let behind : number n ++ ((text t ++ text v) ++ r) ≡ number m ++ ((text u ++ text w) ++ s) = ap (λ (l : List ℕ). drop 1 l) e in
    let first = number_cut n m ((text t ++ text v) ++ r) ((text u ++ text w) ++ s) fits_d.0 fits_e.0 behind in
    let second = texts_cut t v u w r s fits_d.1 fits_d.2 fits_e.1 fits_e.2 first.1 in
    ((λ i. Send (first.0 i) (second.0 i) (second.1 i)), second.2)
body_cut (Enter t v) (Enter u w) r s fits_d fits_e e =
    let behind : (text t ++ text v) ++ r ≡ (text u ++ text w) ++ s = ap (λ (l : List ℕ). drop 1 l) e in
    let second = texts_cut t v u w r s fits_d.0 fits_d.1 fits_e.0 fits_e.1 behind in
    ((λ i. Enter (second.0 i) (second.1 i)), second.2)
body_cut (Finish n d) (Finish m f) r s fits_d fits_e e =
    let behind : number n ++ (document d ++ r) ≡ number m ++ (document f ++ s) = ap (λ (l : List ℕ). drop 1 l) e in
    let first = number_cut n m (document d ++ r) (document f ++ s) fits_d.0 fits_e.0 behind in
    let second = document_cut d f r s fits_d.1 fits_e.1 first.1 in
    ((λ i. Finish (first.0 i) (second.0 i)), second.1)
body_cut (Killed n) (Killed m) r s fits_d fits_e e =
    let first = number_cut n m r s fits_d fits_e (ap (λ (l : List ℕ). drop 1 l) e) in
    ((λ i. Killed (first.0 i)), first.1)
body_cut (Marked n) (Marked m) r s fits_d fits_e e =
    let first = number_cut n m r s fits_d fits_e (ap (λ (l : List ℕ). drop 1 l) e) in
    ((λ i. Marked (first.0 i)), first.1)
body_cut (GivenUp n) (GivenUp m) r s fits_d fits_e e =
    let first = number_cut n m r s fits_d fits_e (ap (λ (l : List ℕ). drop 1 l) e) in
    ((λ i. GivenUp (first.0 i)), first.1)
body_cut (Begin n) (Begin m) r s fits_d fits_e e =
    let first = number_cut n m r s fits_d fits_e (ap (λ (l : List ℕ). drop 1 l) e) in
    ((λ i. Begin (first.0 i)), first.1)
body_cut d f r s fits_d fits_e e = absurd (omega (arith, ap (λ (l : List ℕ). get_or l 0 0) e))

pub records_cut : (one other : List Deed) (g h : ℕ) (r s : List ℕ) → AllFit one → AllFit other → g ≢ 1 → h ≢ 1
    → records one ++ g ∷ r ≡ records other ++ h ∷ s → one ≡ other
records_cut [] [] g h r s fo ft ng nh e = refl
records_cut [] (d ∷ other) g h r s fo ft ng nh e = absurd (ng (ap (λ (l : List ℕ). get_or l 0 0) e))
records_cut (d ∷ one) [] g h r s fo ft ng nh e = absurd (nh (sym (ap (λ (l : List ℕ). get_or l 0 0) e)))
records_cut (d ∷ one) (f ∷ other) g h r s fo ft ng nh e =
    let behind : (body d ++ records one) ++ g ∷ r ≡ (body f ++ records other) ++ h ∷ s = ap (λ (l : List ℕ). drop 1 l) e in
    let whole : body d ++ (records one ++ g ∷ r) ≡ body f ++ (records other ++ h ∷ s) =
    sym (append_assoc (body d) (records one) (g ∷ r)) ∙ behind ∙ append_assoc (body f) (records other) (h ∷ s) in
    let cut = body_cut d f (records one ++ g ∷ r) (records other ++ h ∷ s) fo.0 ft.0 whole in
    let more = records_cut one other g h r s fo.1 ft.1 ng nh cut.1 in
    λ i. cut.0 i ∷ more i

pub cut_in_one_way : CutInOneWay
cut_in_one_way file one other fits_one fits_other a b =
    records_cut one other a.gate b.gate a.after b.after fits_one fits_other a.shut b.shut (sym a.is ∙ b.is)
