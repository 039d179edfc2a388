use Rattle.std.proofs.Common.{ℕ}
use Rattle.rational.specs.Ratio.{IsNumber}
use Rattle.bases.proofs.Lists.{entry-number}
use Rattle.bases.proofs.Forms.{forms_are_sums, lists_are_sums, forms_on, lists_back}
use Rattle.bases.proofs.laws.dictionaries_have_forms.Goals as goal

pub returns-clause-forms : goal.returns-clause-forms
returns-clause-forms c n m A basic u pa d = (forms_are_sums n m A pa basic u (entry-number d) d, lists_are_sums n m A pa basic u (entry-number d) d)

pub returns-clause-back : goal.returns-clause-back
returns-clause-back c n m A basic u pa entries f l =
    let pu : (b d : ℕ) → IsNumber (u b d) = λ b d. let r = entries.reduced b d in r.0 in
    record {
      entries = entries;
      on = λ w p s. forms_on n m A pa basic u pu w p f s;
      back = λ w p s. lists_back n m A pa basic u pu w p entries.at_basic l s;
    }
