-- Numbers that words are.
use Rattle.std.proofs.Common.{◌≡◌, ◌∙◌, ◌≤◌, ◌<◌, ◌^◌, ℕ, Bool, true, false, cond, Some, None, Result, Ok, Err, arith, refl, sym, ap, subst}
use Rattle.std.specs.Str.Parse.{ParsesUnsigned, digits_value, without_leading_plus}
use Rattle.clap.specs.Words.{IsUnsignedIn, Text}
use Rattle.clap.specs.ValueTests.{is_unsigned_in}
use Rattle.clap.specs.declared.builder.value_parser.ValueParser.TheVariants as parsers
use Rattle.clap.proofs.ValueTestLemmas.{Accepts-accepts, accepts-Accepts}
use Rattle.command_line.specs.Numbers.{number_between}

module _ (least most : ℕ) (word : Text) where
  -- the word is such a number
  pub is_number : IsUnsignedIn least most word → Some (digits_value 10 (without_leading_plus word)) ≡ number_between least most word
  is_number within = ap (λ (b : Bool). cond b (Some (digits_value 10 (without_leading_plus word))) None) (sym (Accepts-accepts false (parsers.Unsigned least most) word within))

  -- or it is none
  pub no_number : (IsUnsignedIn least most word → ⊥) → None ≡ number_between least most word
  no_number without = go (is_unsigned_in least most word) refl
    where
      go : (b : Bool) → is_unsigned_in least most word ≡ b → None ≡ cond b (Some (digits_value 10 (without_leading_plus word))) None
      go true is = absurd (without (accepts-Accepts false (parsers.Unsigned least most) word is))
      go false is = refl

  module _ {E : Type 0} (read : Result ℕ E) (fits : most < 2 ^ 64) (parses : ParsesUnsigned 64 10 word read) where
    pub read_within : (n : ℕ) → read ≡ Ok n → least ≤ n → n ≤ most → Some n ≡ number_between least most word
    read_within n is low high =
        let parsed = subst (ParsesUnsigned 64 10 word) is parses in
        ap (λ (m : ℕ). Some m) parsed.1 ∙ is_number (parsed.0.0, omega (arith, parsed.0.1), omega (arith, parsed.1, low), omega (arith, parsed.1, high))

    pub read_refused : (e : E) → read ≡ Err e → None ≡ number_between least most word
    read_refused e is = no_number (λ within. subst (ParsesUnsigned 64 10 word) is parses (within.0, omega (arith, within.3, fits)))
