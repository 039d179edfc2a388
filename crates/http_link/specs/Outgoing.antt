-- The bytes of a client's request (RFC 9112, section 3; RFC 9110, sections 7.2, 7.6.1, 8.3 and 8.6; SOAP 1.1, section 6.1.1).
use Rattle.std.specs.Prelude.{ℕ, List, codes}
use Rattle.http_link.specs.Responses.{behind}

-- what stands before the length of the body
abbrev pub request_front : List ℕ
request_front = codes "POST /os HTTP/1.1\r\nHost: os\r\nSOAPAction: \"\"\r\nContent-Type: text/xml; charset=utf-8\r\nContent-Length: "

-- what stands between the length and the body
abbrev pub request_end : List ℕ
request_end = codes "\r\nConnection: close\r\n\r\n"

-- a request with this body
abbrev pub request_text : List ℕ → List ℕ
request_text body = behind request_front request_end body
