use Rattle.os_app.proofs.timed.timed_options.Goals as goal

pub returns-in-Err-Tree : goal.returns-in-Err-Tree
returns-in-Err-Tree c = (_, (λ e. cc), c.in-Err-Tree.ensures.err)

pub returns-in-Err-Refused : goal.returns-in-Err-Refused
returns-in-Err-Refused c = (_, (λ e. cc), c.in-Err-Refused.ensures.err)

pub returns : goal.returns
returns c = record { options = c.in-Ok.options; said = c.in-Ok.ensures.ok; seconds = c.whole_seconds.result; are = c.whole_seconds.ensures; is = c.in_ok-encode.ensures }
