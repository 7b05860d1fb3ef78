-- The octets of a reply over HTTP/1.1 (RFC 9112, 4 to 6).
use Rattle.std.specs.Prelude.{ℕ, List, ◌++◌, length, codes, decimal}
use Rattle.http_page.specs.declared.reply.Status.{Status}
use Rattle.http_page.specs.declared.reply.Status.TheVariants as status
use Rattle.http_page.specs.declared.reply.Content.{Content}
use Rattle.http_page.specs.declared.reply.Content.TheVariants as content

-- the code and the reason of a status (RFC 9110, 15), and after 405 the methods that are allowed (RFC 9110, 15.5.6)
abbrev pub status_line : Status → List ℕ
status_line status.Ok = codes "200 OK"
status_line status.BadRequest = codes "400 Bad Request"
status_line status.NotFound = codes "404 Not Found"
status_line status.MethodNotAllowed = codes "405 Method Not Allowed\r\nAllow: GET"
status_line status.Unavailable = codes "503 Service Unavailable"

-- the type of a body (RFC 9110, 8.3)
abbrev pub content_type : Content → List ℕ
content_type content.Metrics = codes "text/plain; version=0.0.4"
content_type content.Text = codes "text/plain; charset=utf-8"
content_type content.Page = codes "text/html; charset=utf-8"

-- what stands before the length of a body
unfoldable pub length_field : List ℕ
length_field = codes "\r\nContent-Length: "

-- what stands after it: no cache keeps the reply (RFC 9111, 5.2.2.5), and the connection is closed after it (RFC 9112, 9.6)
unfoldable pub last_fields : List ℕ
last_fields = codes "\r\nCache-Control: no-store\r\nConnection: close\r\n\r\n"

-- the status line (RFC 9112, 4)
abbrev pub status_text : Status → List ℕ
status_text status = codes "HTTP/1.1 " ++ (status_line status ++ codes "\r\n")

-- what stands before the type of a body
unfoldable pub type_field : List ℕ
type_field = codes "Content-Type: "

-- the field of a body's type (RFC 9110, 8.3)
abbrev pub type_text : Content → List ℕ
type_text content = type_field ++ content_type content

-- the fields of a body's length and after it (RFC 9110, 8.6)
abbrev pub length_text : ℕ → List ℕ
length_text len = length_field ++ (decimal len ++ last_fields)

-- the fields before a body of so many octets (RFC 9112, 5)
abbrev pub fields_text : Content → ℕ → List ℕ
fields_text content len = type_text content ++ length_text len

-- the fields and the body (RFC 9112, 6)
abbrev pub body_text : Content → List ℕ → List ℕ
body_text content body = fields_text content (length body) ++ body

-- a reply with a body
abbrev pub reply_octets : Status → Content → List ℕ → List ℕ
reply_octets status content body = status_text status ++ body_text content body
