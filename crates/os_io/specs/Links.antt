-- What a listener tells: links in the order in which they come and are given back, and the hosts and ports that were reached.
use Rattle.std.specs.Prelude.{◌≡◌, ℕ, List, ◌∷◌, ◌++◌, [], Option, Result, Ok, Err}
use Rattle.os_io.specs.Streams.{Tells, BothTold}

-- where links come from or go to: a host, as its text, and a port; of those that come from there, for how many seconds their reads
-- and writes wait for the peer at most
pub data Reached : Type 0 where
  ListenedAt : (host : List ℕ) → (port : ℕ) → (patience : ℕ) → Reached
  ConnectedTo : (host : List ℕ) → (port : ℕ) → Reached

-- what a listener tells: the links to come, those given back, and what was reached, in order, each where told; and how often a call
-- of it has failed, at most 2^64 - 1
pub record NetTells : Type 0 where
  pub coming : Option (List Tells)
  pub given_back : Option (List Tells)
  pub reached : Option (List Reached)
  pub faults : ℕ

-- the link is the first of those to come, and comes no more
abbrev pub Comes : Option (List Tells) → Option (List Tells) → Tells → Type 0
Comes old new link = BothTold old new (λ before after. before ≡ link ∷ after)

-- the link is the last of those given back
abbrev pub IsGivenBack : Option (List Tells) → Option (List Tells) → Tells → Type 0
IsGivenBack old new link = BothTold old new (λ before after. after ≡ before ++ link ∷ [])

-- this was reached, and nothing else
abbrev pub IsReached : Option (List Reached) → Option (List Reached) → Reached → Type 0
IsReached old new one = BothTold old new (λ before after. after ≡ before ++ one ∷ [])

-- this was reached, and nothing where the call failed
abbrev pub Reaches : {X E : Type 0} → Result X E → Reached → Option (List Reached) → Option (List Reached) → Type 0
Reaches (Ok x) one old new = IsReached old new one
Reaches (Err e) one old new = new ≡ old

-- no link came, and none was given back
pub record SameLinks (old new : NetTells) : Type 0 where
  pub coming : new.coming ≡ old.coming
  pub given_back : new.given_back ≡ old.given_back
