-- The refusals of OSiL documents. Of several that are decided at one tag the first of this list is told.
use Rattle.std.specs.Prelude.{ℕ, List}

pub data Refusal : Type 0 where
  Root : Refusal
  Missing : Refusal
  Beyond : (name : List ℕ) → Refusal
  Attribute : (name : List ℕ) → Refusal
  Number : Refusal
  Wide : Refusal
  Count : Refusal
  Index : Refusal
  Start : Refusal
  VarType : Refusal
  Bound : Refusal
  ManyObjectives : Refusal
  TooBig : Refusal

-- its place in the list
abbrev pub number : Refusal → ℕ
number Root = 1
number Missing = 2
number (Beyond name) = 3
number (Attribute name) = 4
number Number = 5
number Wide = 6
number Count = 7
number Index = 8
number Start = 9
number VarType = 10
number Bound = 11
number ManyObjectives = 12
number TooBig = 13
