-- What is asked over HTTP (RFC 9112, 3).
use Rattle.std.specs.Prelude.{◌≡◌, ℕ, ◌<◌, ◌≤◌, ◌⊎◌, List, length, codes, bytes_eq, not, if◌then◌else◌}
use Rattle.httparse.specs.Grammar.{RequestHead, ReadsRequest, HasNoRequest}
use Rattle.http_page.specs.declared.page_request.PageRequest.{PageRequest}
use Rattle.http_page.specs.declared.page_request.PageRequest.TheVariants.{More, Page, Metrics, Health, Unknown, OtherMethod, Bad}

-- what a method and a target ask for
abbrev pub asked_of : List ℕ → List ℕ → PageRequest
asked_of method target =
    if not (bytes_eq method (codes "GET")) then OtherMethod
    else if bytes_eq target (codes "/") then Page
    else if bytes_eq target (codes "/metrics") then Metrics
    else if bytes_eq target (codes "/healthz") then Health
    else Unknown

-- they begin with a request, and what its method and its target ask for is this
abbrev pub Asks : List ℕ → PageRequest → Type 0
Asks octets asked = (head : RequestHead) × (rest : List ℕ) × ReadsRequest octets head rest × (asked ≡ asked_of head.method head.target)

-- they begin with no request, and there are as many as a head may have; or each that they begin with has too many fields
abbrev pub IsBad : List ℕ → Type 0
IsBad octets =
    (HasNoRequest octets × (4096 ≤ length octets))
    ⊎ ((head : RequestHead) (rest : List ℕ) → ReadsRequest octets head rest → 64 < length head.fields)

-- what octets ask for: more of them, where they begin with no request and are fewer than a head may have; nothing; or what the request
-- asks for that they begin with
abbrev pub IsAsked : List ℕ → PageRequest → Type 0
IsAsked octets More = HasNoRequest octets × (length octets < 4096)
IsAsked octets Bad = IsBad octets
IsAsked octets asked = Asks octets asked
