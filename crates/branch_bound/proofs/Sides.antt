-- Where a column stands, by what the memory of a run tells.
use Rattle.std.proofs.Common.{◌≡◌, true, false, Option, None, Some, refl, sym, ◌∙◌, ap}
use Rattle.std.specs.Option.{is_some}
use Rattle.simplex_rules.specs.declared.columns.Status.{Status}
use Rattle.simplex_rules.specs.declared.columns.Status.TheVariants.{Basic, Lower, Upper, Zero}
use Rattle.simplex_rules.specs.Statuses.{is_basic}
use Rattle.simplex.specs.declared.answer.Side.{Side}
use Rattle.simplex.specs.declared.answer.Side.TheVariants as Sides
use Rattle.simplex.specs.Answers.{side_of}
use Rattle.branch_bound.specs.Trials.{status_of}

pub side_status : (s : Status) (side : Side) → Some side ≡ side_of s → s ≡ status_of side
side_status Basic side e = let f : Some side ≡ None = e in absurd (cc)
side_status Lower side e = let f : Some side ≡ Some Sides.Lower = e in let g : Sides.Lower ≡ side = cc in ap status_of g
side_status Upper side e = let f : Some side ≡ Some Sides.Upper = e in let g : Sides.Upper ≡ side = cc in ap status_of g
side_status Zero side e = let f : Some side ≡ Some Sides.Zero = e in let g : Sides.Zero ≡ side = cc in ap status_of g

pub side_other : (s : Status) (side : Side) → Some side ≡ side_of s → is_basic s ≡ false
side_other Basic side e = let f : Some side ≡ None = e in absurd (cc)
side_other Lower side e = refl
side_other Upper side e = refl
side_other Zero side e = refl

pub none_basic : (s : Status) → None ≡ side_of s → s ≡ Basic
none_basic Basic e = refl
none_basic Lower e = let f : None ≡ Some Sides.Lower = e in absurd (cc)
none_basic Upper e = let f : None ≡ Some Sides.Upper = e in absurd (cc)
none_basic Zero e = let f : None ≡ Some Sides.Zero = e in absurd (cc)

pub some_side : (s : Status) (o : Option Side) → o ≡ side_of s → is_some {T = Side} o ≡ true → is_basic s ≡ false
some_side Basic o e h = let f : false ≡ true = ap (λ (q : Option Side). is_some {T = Side} q) (sym e) ∙ h in absurd (cc)
some_side Lower o e h = refl
some_side Upper o e h = refl
some_side Zero o e h = refl

pub no_side : (s : Status) (o : Option Side) → o ≡ side_of s → is_some {T = Side} o ≡ false → is_basic s ≡ true
no_side Basic o e h = refl
no_side Lower o e h = let f : true ≡ false = ap (λ (q : Option Side). is_some {T = Side} q) (sym e) ∙ h in absurd (cc)
no_side Upper o e h = let f : true ≡ false = ap (λ (q : Option Side). is_some {T = Side} q) (sym e) ∙ h in absurd (cc)
no_side Zero o e h = let f : true ≡ false = ap (λ (q : Option Side). is_some {T = Side} q) (sym e) ∙ h in absurd (cc)
