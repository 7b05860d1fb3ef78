-- RCODEs that are counted by themselves (RFC 6895, 2.3).
use Rattle.std.specs.Prelude.{ℕ, ◌==◌, List, [], ◌∷◌, codes, if◌then◌else◌}
use Rattle.counters.specs.declared.rcode.Rcode.{Rcode}
use Rattle.counters.specs.declared.rcode.Rcode.TheVariants.{NoError, FormErr, ServFail, NxDomain, NotImp, Refused, YxDomain, YxRrset, NxRrset, NotAuth, NotZone, BadVers, Other}

-- all, in the order of their places
abbrev pub all_rcodes : List Rcode
all_rcodes = NoError ∷ (FormErr ∷ (ServFail ∷ (NxDomain ∷ (NotImp ∷ (Refused ∷ (YxDomain ∷ (YxRrset ∷ (NxRrset ∷ (NotAuth ∷ (NotZone ∷ (BadVers ∷ (Other ∷ []))))))))))))

-- the place of each
abbrev pub rcode_index : Rcode → ℕ
rcode_index NoError = 0
rcode_index FormErr = 1
rcode_index ServFail = 2
rcode_index NxDomain = 3
rcode_index NotImp = 4
rcode_index Refused = 5
rcode_index YxDomain = 6
rcode_index YxRrset = 7
rcode_index NxRrset = 8
rcode_index NotAuth = 9
rcode_index NotZone = 10
rcode_index BadVers = 11
rcode_index Other = 12

-- the word of each in a label
abbrev pub rcode_word : Rcode → List ℕ
rcode_word NoError = codes "NOERROR"
rcode_word FormErr = codes "FORMERR"
rcode_word ServFail = codes "SERVFAIL"
rcode_word NxDomain = codes "NXDOMAIN"
rcode_word NotImp = codes "NOTIMP"
rcode_word Refused = codes "REFUSED"
rcode_word YxDomain = codes "YXDOMAIN"
rcode_word YxRrset = codes "YXRRSET"
rcode_word NxRrset = codes "NXRRSET"
rcode_word NotAuth = codes "NOTAUTH"
rcode_word NotZone = codes "NOTZONE"
rcode_word BadVers = codes "BADVERS"
rcode_word Other = codes "other"

-- the RCODE of a number
abbrev pub rcode_of : ℕ → Rcode
rcode_of n =
    if n == 0 then NoError
    else if n == 1 then FormErr
    else if n == 2 then ServFail
    else if n == 3 then NxDomain
    else if n == 4 then NotImp
    else if n == 5 then Refused
    else if n == 6 then YxDomain
    else if n == 7 then YxRrset
    else if n == 8 then NxRrset
    else if n == 9 then NotAuth
    else if n == 10 then NotZone
    else if n == 16 then BadVers
    else Other
