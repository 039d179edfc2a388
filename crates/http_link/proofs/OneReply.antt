-- The bytes that come decide which of them a client reads, and which reply they are.
use Rattle.std.proofs.Common.{◌≡◌, ℕ, ◌≤◌, inl, inr, true, false, List, [], ◌++◌, length, Option, Some, None, sym, ap, ◌∙◌, subst, arith, append_assoc, append-nil, length-append}
use Rattle.std.proofs.lemmas.Bool.{cases_lt}
use Rattle.httparse.proofs.GrammarLemmas.{response_unique}
use Rattle.http_link.specs.declared.replies.ReplyHead.{ReplyHead}
use Rattle.http_link.specs.Lines.{print_head}
use Rattle.http_link.specs.Requests.{IsHeadBegun, IsHeadPart}
use Rattle.http_link.specs.Replies.{says_of, ReadsReply, HeadSays, most_of, is_whole, IsReply, IsReadWhole, IsReplyBegun, IsReplyPart, EndsReading}
use Rattle.http_link.proofs.Extents.{IsHeadExtent, extents_same, begun_extent, whole_once, longer, front_same, regroup, append_cancel}

-- ---- one head

reply_extent : (a : List ℕ) (s : Option ReplyHead) → HeadSays a s → IsHeadExtent a
reply_extent a s (inl (full, none, is)) = inl (full, none)
reply_extent a s (inr (h, are, is, fits, reads)) = inr (h, are, is, fits)

reads_same : (a : List ℕ) (s t : Option ReplyHead) → ReadsReply a s → ReadsReply a t → s ≡ t
reads_same a s t (inl (none, is)) (inl (none', is')) = is ∙ sym is'
reads_same a s t (inl (none, is)) (inr (h, reads, few, is')) = absurd (omega (arith, none h reads, few))
reads_same a s t (inr (h, reads, few, is)) (inl (none, is')) = absurd (omega (arith, none h reads, few))
reads_same a s t (inr (h, reads, few, is)) (inr (k, reads', few', is')) =
    is ∙ ap says_of (response_unique a h k [] [] reads reads').0 ∙ sym is'

says_same : (a : List ℕ) (s t : Option ReplyHead) → HeadSays a s → HeadSays a t → s ≡ t
says_same a s t (inl (full, none, is)) (inl (full', none', is')) = is ∙ sym is'
says_same a s t (inl (full, none, is)) (inr (h, are, is', fits, reads)) =
    absurd (none h [] are (is' ∙ sym (append-nil (print_head h))))
says_same a s t (inr (h, are, is', fits, reads)) (inl (full, none, is)) =
    absurd (none h [] are (is' ∙ sym (append-nil (print_head h))))
says_same a s t (inr (h, are, is, fits, reads)) (inr (k, are', is', fits', reads')) = reads_same a s t reads reads'

-- the same bytes begin with one head, which says one thing
says_once : (a b x y : List ℕ) (s t : Option ReplyHead) → HeadSays a s → HeadSays b t → a ++ x ≡ b ++ y → (a ≡ b) × (s ≡ t)
says_once a b x y s t p q e =
    let same = extents_same a b x y (reply_extent a s p) (reply_extent b t q) e in
    (same, says_same b s t (subst (λ (c : List ℕ). HeadSays c s) same p) q)

never_both : (says : ReplyHead) → None ≡ Some says → ⊥
never_both says e = cc

some_same : (s t : ReplyHead) → Some s ≡ Some t → s ≡ t
some_same s t e = cc

-- one head with what stands behind it
pub behind_once : (a b x y : List ℕ) (s t : ReplyHead) → HeadSays a (Some s) → HeadSays b (Some t) → a ++ x ≡ b ++ y
    → (a ≡ b) × (s ≡ t) × (x ≡ y)
behind_once a b x y s t p q e =
    let once = says_once a b x y (Some s) (Some t) p q e in
    (once.0, some_same s t once.1, append_cancel a x y (e ∙ ap (λ h. h ++ y) (sym once.0)))

-- ---- a reply

-- the bytes of a refused head are none
pub refused_no_reply : (bytes : List ℕ) → HeadSays bytes None → (status : ℕ) (body : List ℕ) → IsReply bytes status body → ⊥
refused_no_reply bytes refused status body (head, says, heads, is, code, whole) =
    never_both says (says_once bytes head [] body None (Some says) refused heads (append-nil bytes ∙ is)).1

-- nor are those that have only begun with a head
pub begun_no_reply : (bytes : List ℕ) → IsHeadBegun bytes → (status : ℕ) (body : List ℕ) → IsReply bytes status body → ⊥
begun_no_reply bytes begun status body (head, says, heads, is, code, whole) =
    begun_extent bytes head body begun (reply_extent head (Some says) heads) is

-- bytes are one reply
pub reply_once : (bytes body other : List ℕ) (status code : ℕ) → IsReply bytes status body → IsReply bytes code other
    → (status ≡ code) × (body ≡ other)
reply_once bytes body other status code (head, says, heads, is, stands, whole) (head', says', heads', is', stands', whole') =
    let once = behind_once head head' body other says says' heads heads' (sym is ∙ is') in
    (stands ∙ ap (λ (s : ReplyHead). s.status) once.1 ∙ sym stands', once.2)

-- a head with what isn't its body behind it is none
pub short_no_reply : (bytes head body : List ℕ) (says : ReplyHead) (count : ℕ) → bytes ≡ head ++ body → HeadSays head (Some says)
    → count ≡ length body → is_whole says count ≡ false → (status : ℕ) (other : List ℕ) → IsReply bytes status other → ⊥
short_no_reply bytes head body says count joined heads size short status other (head', says', heads', is, stands, whole) =
    let once = behind_once head head' body other says says' heads heads' (sym joined ∙ is) in
    let same : is_whole says' (length other) ≡ false = (λ i. sym (is_whole_at says says' count (length other) once.1 (size ∙ ap length once.2)) i) ∙ short in
    let never : true ≡ false = sym whole ∙ same in
    cc
  where
    is_whole_at : (s t : ReplyHead) (n m : ℕ) → s ≡ t → n ≡ m → is_whole s n ≡ is_whole t m
    is_whole_at s t n m e f = λ i. is_whole (e i) (f i)

-- ---- which bytes are read

behind_regroup : (a head body x : List ℕ) → a ≡ head ++ body → head ++ (body ++ x) ≡ a ++ x
behind_regroup a head body x is = sym (regroup a head body x is)

-- where nothing follows, the bytes themselves
alone : (b y : List ℕ) → y ≡ [] → b ++ y ≡ b
alone b y none = ap (λ t. b ++ t) none ∙ append-nil b

done_done : (a b x y : List ℕ) → IsReadWhole a → IsReadWhole b → a ++ x ≡ b ++ y → a ≡ b
done_done a b x y (inl p) (inl q) e = (says_once a b x y None None p q e).0
done_done a b x y (inl p) (inr (head, body, says, heads, is, all)) e =
    absurd (never_both says (says_once a head x (body ++ y) None (Some says) p heads (e ∙ regroup b head body y is)).1)
done_done a b x y (inr (head, body, says, heads, is, all)) (inl q) e =
    absurd (never_both says (says_once b head y (body ++ x) None (Some says) q heads (sym e ∙ regroup a head body x is)).1)
done_done a b x y (inr (head, body, says, heads, is, all)) (inr (head', body', says', heads', is', all')) e =
    let once = behind_once head head' (body ++ x) (body' ++ y) says says' heads heads'
    (behind_regroup a head body x is ∙ e ∙ regroup b head' body' y is') in
    let same = front_same body body' x y (all ∙ ap most_of once.1 ∙ sym all') once.2 in
    is ∙ (λ i. once.0 i ++ same i) ∙ sym is'

-- bytes after which more is read don't hold some after which nothing is
done_begun : (a b x : List ℕ) → IsReadWhole a → IsReplyBegun b → b ≡ a ++ x → ⊥
done_begun a b x (inl p) (inl begun) e = begun_extent b a x begun (reply_extent a None p) e
done_begun a b x (inl p) (inr (head, body, says, heads, is, less)) e =
    never_both says (says_once a head x body None (Some says) p heads (sym e ∙ is)).1
done_begun a b x (inr (head, body, says, heads, is, all)) (inl begun) e =
    begun_extent b head (body ++ x) begun (reply_extent head (Some says) heads) (e ∙ regroup a head body x is)
done_begun a b x (inr (head, body, says, heads, is, all)) (inr (head', body', says', heads', is', less)) e =
    let once = behind_once head' head body' (body ++ x) says' says heads' heads (sym is' ∙ e ∙ regroup a head body x is) in
    omega (arith, less, all, ap most_of once.1, ap length once.2, length-append body x)

pub came_once : (a b x y : List ℕ) → EndsReading a (x ≡ []) → EndsReading b (y ≡ []) → a ++ x ≡ b ++ y → a ≡ b
came_once a b x y (inl p) (inl q) e = done_done a b x y p q e
came_once a b x y (inl p) (inr (q, none)) e = absurd (done_begun a b x p q (sym (e ∙ alone b y none)))
came_once a b x y (inr (p, none)) (inl q) e = absurd (done_begun b a y q p (sym (alone a x none) ∙ e))
came_once a b x y (inr (p, none)) (inr (q, none')) e = sym (alone a x none) ∙ e ∙ alone b y none'

-- ---- parts

whole_part : (bytes : List ℕ) → IsHeadExtent bytes → IsHeadPart bytes
whole_part bytes (inl (full, none)) = record {
  fits = omega (arith, full);
  nothing_past = λ h rest are e. absurd (none h rest are e);
}
whole_part bytes (inr (h, are, is, fits)) = record {
  fits = fits;
  nothing_past = λ k rest are' e. whole_once k h rest are' are (sym is ∙ e);
}

pub done_part : (bytes : List ℕ) → IsReadWhole bytes → IsReplyPart bytes
done_part bytes (inl refused) = inl (whole_part bytes (reply_extent bytes None refused))
done_part bytes (inr (head, body, says, heads, is, all)) = inr (head, body, says, heads, is, omega (arith, all))

pub begun_part : (bytes : List ℕ) → IsReplyBegun bytes → IsReplyPart bytes
begun_part bytes (inl begun) = inl (record {
  fits = omega (arith, begun.fits);
  nothing_past = λ h rest are e. absurd (begun.no_head h rest are e);
})
begun_part bytes (inr (head, body, says, heads, is, less)) = inr (head, body, says, heads, is, omega (arith, less))

-- a part of a head has no more bytes than the head at the front of the same bytes
head_within : (part a x y : List ℕ) → IsHeadPart part → IsHeadExtent a → part ++ x ≡ a ++ y → length part ≤ length a
head_within part a x y p q e =
    elim (cases_lt (length a) (length part)) [
      | inl less ↦ within q (longer a part y x (sym e) (omega (arith, less)))
      | inr less ↦ less
    ]
  where
    within : IsHeadExtent a → (z : List ℕ) × (part ≡ a ++ z) → length part ≤ length a
    within (inl (full, none)) more = omega (arith, p.fits, full)
    within (inr (h, are, is, fits)) more =
        omega (arith, ap length more.1, length-append a more.0, ap length (p.nothing_past h more.0 are (more.1 ∙ ap (λ t. t ++ more.0) is)))

-- nor has a part of what a client reads than all of it
within_done : (part came x y : List ℕ) → IsReplyPart part → IsReadWhole came → part ++ x ≡ came ++ y → length part ≤ length came
within_done part came x y (inl p) (inl q) e = head_within part came x y p (reply_extent came None q) e
within_done part came x y (inl p) (inr (head, body, says, heads, is, all)) e =
    omega (arith, head_within part head x (body ++ y) p (reply_extent head (Some says) heads) (e ∙ regroup came head body y is), ap length is, length-append head body)
within_done part came x y (inr (head, body, says, heads, is, less)) (inl q) e =
    absurd (never_both says (says_once came head y (body ++ x) None (Some says) q heads (sym e ∙ regroup part head body x is)).1)
within_done part came x y (inr (head', body', says', heads', is', less)) (inr (head, body, says, heads, is, all)) e =
    let once = behind_once head' head (body' ++ x) (body ++ y) says' says heads' heads
    (behind_regroup part head' body' x is' ∙ e ∙ regroup came head body y is) in
    omega (arith, less, all, ap most_of once.1, ap length once.0, ap length is, ap length is', length-append head body, length-append head' body')

part_front : (part came x y : List ℕ) → part ++ x ≡ came ++ y → length part ≤ length came
    → (behind : List ℕ) × (came ≡ part ++ behind) × (x ≡ behind ++ y)
part_front part came x y e less =
    let more = longer part came x y e less in
    (more.0, more.1, append_cancel part x (more.0 ++ y) (e ∙ ap (λ t. t ++ y) more.1 ∙ append_assoc part more.0 y))

pub part_once : (part came x y : List ℕ) → IsReplyPart part → EndsReading came (y ≡ []) → part ++ x ≡ came ++ y
    → (behind : List ℕ) × (came ≡ part ++ behind) × (x ≡ behind ++ y)
part_once part came x y p (inl done) e = part_front part came x y e (within_done part came x y p done e)
part_once part came x y p (inr (begun, none)) e =
    part_front part came x y e (omega (arith, ap length e, length-append part x, length-append came y, ap length none))
