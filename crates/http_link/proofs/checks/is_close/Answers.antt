use Rattle.std.proofs.Common.{◌≡◌, ℕ, List, refl, subst, codes, rules, tests}
use Rattle.std.specs.Str.{str_eq_ignore_ascii_case}
use Rattle.std.proofs.lemmas.Str.Ascii.{trim_ascii_is}
use Rattle.http_link.proofs.checks.is_close.Goals as goal

pub returns : goal.returns
returns c =
    let told : c.eq_ignore_ascii_case.result ≡ str_eq_ignore_ascii_case c.trim_ascii.result.now (codes "close") = first_of (search rules, search (rules, tests)) in
    subst (λ (s : List ℕ). c.eq_ignore_ascii_case.result ≡ str_eq_ignore_ascii_case s (codes "close"))
    (trim_ascii_is c.args.item.now _ _ refl c.trim_ascii.ensures.value) told
