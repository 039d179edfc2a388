-- How much is read.
use Rattle.std.specs.Prelude.{ℕ}

-- a document has at most so many bytes, and so has the body of a request
abbrev pub most_bytes : ℕ
most_bytes = 4194304

-- the body of a response has at most so many bytes
abbrev pub most_reply : ℕ
most_reply = 25165824
