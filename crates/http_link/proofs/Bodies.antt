-- A body that is written part by part: what stands before its length, its length, what stands behind it and the body.
use Rattle.std.proofs.Common.{List, ℕ, ◌≡◌, ◌++◌, length, ap}
use Rattle.std.specs.Prelude.{decimal}
use Rattle.http_link.specs.Responses.{behind}

-- the parts, where these are the digits of its length
pub behind_parts : (front gap body digits : List ℕ) → digits ≡ decimal (length body) → front ++ (digits ++ (gap ++ body)) ≡ behind front gap body
behind_parts front gap body digits e = ap (λ d. front ++ (d ++ (gap ++ body))) e
