-- Types of questions that are counted by themselves: those that are asked for most (own).
use Rattle.std.specs.Prelude.{ℕ, ◌==◌, List, [], ◌∷◌, codes, if◌then◌else◌}
use Rattle.counters.specs.declared.qtype.Qtype.{Qtype}
use Rattle.counters.specs.declared.qtype.Qtype.TheVariants.{A, Ns, Cname, Soa, Ptr, Mx, Txt, Aaaa, Srv, Naptr, Ds, Sshfp, Dnskey, Tlsa, Svcb, Https, Ixfr, Axfr, Any, Caa, Other}

-- all, in the order of their places
abbrev pub all_qtypes : List Qtype
all_qtypes = A ∷ (Ns ∷ (Cname ∷ (Soa ∷ (Ptr ∷ (Mx ∷ (Txt ∷ (Aaaa ∷ (Srv ∷ (Naptr ∷ (Ds ∷ (Sshfp ∷ (Dnskey ∷ (Tlsa ∷ (Svcb ∷ (Https ∷ (Ixfr ∷ (Axfr ∷ (Any ∷ (Caa ∷ (Other ∷ []))))))))))))))))))))

-- the place of each
abbrev pub qtype_index : Qtype → ℕ
qtype_index A = 0
qtype_index Ns = 1
qtype_index Cname = 2
qtype_index Soa = 3
qtype_index Ptr = 4
qtype_index Mx = 5
qtype_index Txt = 6
qtype_index Aaaa = 7
qtype_index Srv = 8
qtype_index Naptr = 9
qtype_index Ds = 10
qtype_index Sshfp = 11
qtype_index Dnskey = 12
qtype_index Tlsa = 13
qtype_index Svcb = 14
qtype_index Https = 15
qtype_index Ixfr = 16
qtype_index Axfr = 17
qtype_index Any = 18
qtype_index Caa = 19
qtype_index Other = 20

-- the word of each in a label
abbrev pub qtype_word : Qtype → List ℕ
qtype_word A = codes "A"
qtype_word Ns = codes "NS"
qtype_word Cname = codes "CNAME"
qtype_word Soa = codes "SOA"
qtype_word Ptr = codes "PTR"
qtype_word Mx = codes "MX"
qtype_word Txt = codes "TXT"
qtype_word Aaaa = codes "AAAA"
qtype_word Srv = codes "SRV"
qtype_word Naptr = codes "NAPTR"
qtype_word Ds = codes "DS"
qtype_word Sshfp = codes "SSHFP"
qtype_word Dnskey = codes "DNSKEY"
qtype_word Tlsa = codes "TLSA"
qtype_word Svcb = codes "SVCB"
qtype_word Https = codes "HTTPS"
qtype_word Ixfr = codes "IXFR"
qtype_word Axfr = codes "AXFR"
qtype_word Any = codes "ANY"
qtype_word Caa = codes "CAA"
qtype_word Other = codes "other"

-- the type of a number
abbrev pub qtype_of : ℕ → Qtype
qtype_of n =
    if n == 1 then A
    else if n == 2 then Ns
    else if n == 5 then Cname
    else if n == 6 then Soa
    else if n == 12 then Ptr
    else if n == 15 then Mx
    else if n == 16 then Txt
    else if n == 28 then Aaaa
    else if n == 33 then Srv
    else if n == 35 then Naptr
    else if n == 43 then Ds
    else if n == 44 then Sshfp
    else if n == 48 then Dnskey
    else if n == 52 then Tlsa
    else if n == 64 then Svcb
    else if n == 65 then Https
    else if n == 251 then Ixfr
    else if n == 252 then Axfr
    else if n == 255 then Any
    else if n == 257 then Caa
    else Other
