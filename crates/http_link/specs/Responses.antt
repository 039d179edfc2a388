-- The bytes of responses (RFC 9112, section 4; RFC 9110, sections 8.3, 8.6, 10.2.1 and 15; RFC 6585, section 5).
use Rattle.std.specs.Prelude.{ℕ, List, [], ◌++◌, length, codes, decimal}
use Rattle.http_link.specs.declared.refusal.Refusal.{Refusal}
use Rattle.http_link.specs.declared.refusal.Refusal.TheVariants.{BadRequest, MethodNotAllowed, LengthRequired, ContentTooLarge, HeadTooLarge, NotImplemented, ServiceUnavailable}

-- a body behind its length, with what stands before the length and behind it
abbrev pub behind : (front gap body : List ℕ) → List ℕ
behind front gap body = front ++ (decimal (length body) ++ (gap ++ body))

-- the end of a head's last line, and the empty line
abbrev pub head_end : List ℕ
head_end = codes "\r\n\r\n"

-- an answer with this body
abbrev pub answer_text : List ℕ → List ℕ
answer_text body = behind (codes "HTTP/1.1 200 OK\r\nContent-Type: text/xml; charset=utf-8\r\nContent-Length: ") head_end body

-- a fault of a call, told by this body
abbrev pub fault_answer_text : List ℕ → List ℕ
fault_answer_text body = behind (codes "HTTP/1.1 500 Internal Server Error\r\nContent-Type: text/xml; charset=utf-8\r\nContent-Length: ") head_end body

-- the status code and its phrase
abbrev pub code_and_phrase : Refusal → List ℕ
code_and_phrase BadRequest = codes "400 Bad Request"
code_and_phrase MethodNotAllowed = codes "405 Method Not Allowed"
code_and_phrase LengthRequired = codes "411 Length Required"
code_and_phrase ContentTooLarge = codes "413 Content Too Large"
code_and_phrase HeadTooLarge = codes "431 Request Header Fields Too Large"
code_and_phrase NotImplemented = codes "501 Not Implemented"
code_and_phrase ServiceUnavailable = codes "503 Service Unavailable"

-- 405 says which methods are allowed
abbrev pub allowed_by : Refusal → List ℕ
allowed_by MethodNotAllowed = codes "Allow: POST\r\n"
allowed_by BadRequest = []
allowed_by LengthRequired = []
allowed_by ContentTooLarge = []
allowed_by HeadTooLarge = []
allowed_by NotImplemented = []
allowed_by ServiceUnavailable = []

-- a refusal, which has no body and closes the connection
abbrev pub refusal_bytes : Refusal → List ℕ
refusal_bytes refusal =
    codes "HTTP/1.1 " ++ (code_and_phrase refusal ++ (codes "\r\n" ++ (allowed_by refusal ++ codes "Connection: close\r\nContent-Length: 0\r\n\r\n")))
