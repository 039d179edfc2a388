-- What a list of moves does to a seat: its own moves grow by exactly these, they stand once each in what it has seen, in their
-- order, and it may have seen others in between. Where a move was made, what it has seen is legal.
use Rattle.std.specs.Prelude.{◌≡◌, ◌≢◌, ℕ, List, [], ◌∷◌, ◌++◌, Bool, Option}
use Rattle.std.proofs.Common.{refl, sym, ◌∙◌, ap, subst, append_assoc, append-nil}
use Rattle.std.proofs.lemmas.List.{map-append}
use Rattle.job_table.specs.History.{MoveEntry}
use Rattle.desk.specs.declared.view.SeatEntry.{SeatEntry}
use Rattle.desk.specs.declared.view.View.{View}
use Rattle.desk.specs.History.{IsLegal, StartsWith, entry_of_seat, by, entries_by}
use Rattle.desk.specs.Rule.{HasMet}
use Rattle.desk.specs.SeatMoves.{Stays}

-- moves of one seat after others of it, as they are listed
by_then : (m n : ℕ) (a b : List MoveEntry) → n ≡ m → by m a ++ by n b ≡ by m (a ++ b)
by_then m n a b same = ap (λ (k : ℕ). by m a ++ by k b) same ∙ sym (map-append (λ s. entry_of_seat m s.table_move s.reply) a b)

abbrev IsFull : List MoveEntry → Type 0
IsFull [] = ⊥
IsFull (x ∷ xs) = Unit {0}

-- where moves were made, the first ones or the last ones were
legal_then : (before after : Type 0) (a b : List MoveEntry) → (a ≢ [] → before) → (before → after) → (b ≢ [] → after) → a ++ b ≢ [] → after
legal_then before after a [] first still last some = still (first (λ none. some (append-nil a ∙ none)))
legal_then before after a (y ∷ ys) first still last some = last (λ none. subst IsFull none tt)

module _ (is_legal : List SeatEntry → Type 0) where
  pub record AskedBy (v w : View) (said : List MoveEntry) : Type 0 where
    pub mine : w.mine ≡ v.mine ++ by v.number said
    pub seen : StartsWith w.seen v.seen
    pub stand : entries_by w.number w.seen ≡ entries_by v.number v.seen ++ by v.number said
    pub legal : is_legal v.seen → is_legal w.seen
    pub made_legal : said ≢ [] → is_legal w.seen
    pub known : HasMet v.seen v.met → HasMet w.seen w.met
    pub stays : Stays v w

  -- no move
  pub made_none : (v : View) → AskedBy v v []
  made_none v = record {
    mine = sym (append-nil v.mine);
    seen = ([], sym (append-nil v.seen));
    stand = sym (append-nil (entries_by v.number v.seen));
    legal = λ before. before;
    made_legal = λ some. absurd (some refl);
    known = λ before. before;
    stays = record { number = refl; given = refl; met = refl };
  }

  -- moves after moves are both
  pub made_then : (v w x : View) (a b : List MoveEntry) → AskedBy v w a → AskedBy w x b → AskedBy v x (a ++ b)
  made_then v w x a b p q =
      let both : (m m' m'' : List SeatEntry) → m' ≡ m ++ by v.number a → m'' ≡ m' ++ by w.number b → m'' ≡ m ++ by v.number (a ++ b) = λ m m' m'' first last.
      last ∙ ap (λ l. l ++ by w.number b) first ∙ append_assoc m (by v.number a) (by w.number b)
      ∙ ap (λ l. m ++ l) (by_then v.number w.number a b p.stays.number) in record {
        mine = both v.mine w.mine x.mine p.mine q.mine;
        seen = (p.seen.0 ++ q.seen.0, q.seen.1 ∙ ap (λ s. s ++ q.seen.0) p.seen.1 ∙ append_assoc v.seen p.seen.0 q.seen.0);
        stand = both (entries_by v.number v.seen) (entries_by w.number w.seen) (entries_by x.number x.seen) p.stand q.stand;
        legal = λ before. q.legal (p.legal before);
        made_legal = legal_then (is_legal w.seen) (is_legal x.seen) a b p.made_legal q.legal q.made_legal;
        known = λ before. q.known (p.known before);
        stays = record {
          number = q.stays.number ∙ p.stays.number;
          given = q.stays.given ∙ p.stays.given;
          met = q.stays.met ∙ p.stays.met;
        };
      }

-- the same where which histories are legal goes by what was told, and the same was told
pub then_by : {T : Type 0} (legal : T → List SeatEntry → Type 0) (told other : T) (v w x : View) (a b : List MoveEntry) → other ≡ told → AskedBy (legal told) v w a → AskedBy (legal other) w x b
    → AskedBy (legal told) v x (a ++ b)
then_by legal told other v w x a b same p q = made_then (legal told) v w x a b p (subst (λ t. AskedBy (legal t) w x b) same q)

-- the same where a history is legal from some empty table on
module _ (right : List ℕ → List ℕ → Bool → Option (List ℕ) → Type 0) where
  abbrev pub Asked : View → View → List MoveEntry → Type 0
  Asked v w said = AskedBy (IsLegal right) v w said

  pub asked_none : (v : View) → Asked v v []
  asked_none v = made_none (IsLegal right) v

  pub asked_then : (v w x : View) (a b : List MoveEntry) → Asked v w a → Asked w x b → Asked v x (a ++ b)
  asked_then v w x a b p q = made_then (IsLegal right) v w x a b p q
