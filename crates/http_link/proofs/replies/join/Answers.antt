use Rattle.std.proofs.Common.{◌≡◌, ◌++◌, arith, rules, sym, ◌∙◌}
use Rattle.http_link.proofs.OneReply.{short_no_reply}
use Rattle.http_link.proofs.replies.join.Goals as goal

pub returns-else-is_whole-clause-reply : goal.returns-else-is_whole-clause-reply
returns-else-is_whole-clause-reply c =
    let bytes : c.extend.new.self ≡ c.args.head ++ c.args.body = first_of (search rules, grind arith) in
    short_no_reply _ c.args.head c.args.body c.args.says c.len.result bytes c.requires c.len.ensures (sym c.is_whole.ensures ∙ c.if-is_whole.false)
