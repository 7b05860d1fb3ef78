-- The OPT of a reply is read where it was written.
use Rattle.std.proofs.Common.{◌≡◌, ℕ, zero, suc, ◌+◌, ◌*◌, ◌/◌, ◌<◌, ◌≤◌, ◌^◌, Bool, true, false, if◌then◌else◌, List, [], ◌∷◌, ◌++◌, length, Option, Some, None, Ok, refl, sym, ap, ◌∙◌, arith, lit<, length-append, append_assoc}
use Rattle.std.proofs.lemmas.List.Elements.{All-nil}
use Rattle.std.specs.Int.{to_be_bytes, w16, w32}
use Rattle.dns_name.specs.Name.{IsName}
use Rattle.dns_rdata.specs.Numbers.{type_OPT, extended_bits}
use Rattle.dns_rdata.specs.declared.numbers.Rcode.{Rcode}
use Rattle.dns_rdata.specs.declared.numbers.Rcode.TheVariants.{NoError, FormErr, ServFail, NxDomain, NotImp, Refused, YXDomain, YXRRSet, NXRRSet, NotAuth, NotZone, BadVers}
use Rattle.wire_names.specs.Table.{Table}
use Rattle.dns_message.specs.Message.{Entry}
use Rattle.dns_message.specs.Opt.{max_udp, opt_ttl, opt_octets, opt_part, opt_count, opt_entries, said_by}
use Rattle.dns_message.specs.Reads.{record_of, record_at, records_at}
use Rattle.dns_message.specs.declared.edns.Opt.{Opt}
use Rattle.message_laws.proofs.AgainLemmas.{name_again, record_numbers, none_more, one_more}
use Rattle.dns_message.proofs.KeepsLemmas.{Stands}
use Rattle.dns_message.proofs.TrueLemmas.{IsTrueOf-nothing}

-- the upper bits of a code are few, so that an OPT's TTL has 32 bits
few_bits : (code : Rcode) → extended_bits code ≤ 1
few_bits NoError = omega arith
few_bits FormErr = omega arith
few_bits ServFail = omega arith
few_bits NxDomain = omega arith
few_bits NotImp = omega arith
few_bits Refused = omega arith
few_bits YXDomain = omega arith
few_bits YXRRSet = omega arith
few_bits NXRRSet = omega arith
few_bits NotAuth = omega arith
few_bits NotZone = omega arith
few_bits BadVers = omega arith

do_short : (dnssec_ok : Bool) → (if dnssec_ok then 2 ^ 15 else 0) ≤ 2 ^ 15
do_short true = omega arith
do_short false = omega arith

ttl_short : (code : Rcode) (opt : Opt) → opt_ttl code opt < 2 ^ 32
ttl_short code opt = let bits = few_bits code in let more = do_short opt.dnssec_ok in omega arith

-- the root is a name
root_lawful : IsName []
root_lawful = record { labels = All-nil _; short = omega arith }

-- an OPT whose owner ends at a position
abbrev opt_to : ℕ → ℕ → Entry
opt_to ttl end = record { owner = []; rtype = type_OPT; class = max_udp; ttl = ttl; at = end + 10; size = 0 }

opt_read : (code : Rcode) (opt : Opt) (front whole : List ℕ) (n : ℕ) → n ≡ length front → whole ≡ front ++ opt_octets code opt → record_at whole n ≡ Some (record { owner = []; rtype = type_OPT; class = max_udp; ttl = opt_ttl code opt; at = n + 11; size = 0 }, n + 11)
opt_read code opt front whole n at is =
    let ttl = opt_ttl code opt in
    let rest = to_be_bytes w16 type_OPT ++ (to_be_bytes w16 max_udp ++ (to_be_bytes w32 ttl ++ to_be_bytes w16 0)) in
    let to_numbers : whole ≡ (front ++ 0 ∷ []) ++ rest = is ∙ sym (append_assoc front (0 ∷ []) rest) in
    let there : n + 1 ≡ length (front ++ 0 ∷ []) = omega (arith, length-append front (0 ∷ [])) in
    ap (record_of whole) (name_again false front rest whole [] n [] at is (IsTrueOf-nothing front) root_lawful)
    ∙ ap (λ o. record_of o (Ok ([], n + 1))) to_numbers
    ∙ ap (λ k. record_of ((front ++ 0 ∷ []) ++ rest) (Ok ([], k))) there
    ∙ record_numbers (front ++ 0 ∷ []) [] [] [] type_OPT max_udp ttl (lit< tt) (lit< tt) (ttl_short code opt) (lit< tt)
    ∙ ap (λ k. Some (opt_to ttl k, k + 10 + 0)) (sym there)
    ∙ ap (λ k. Some (record { owner = []; rtype = type_OPT; class = max_udp; ttl = ttl; at = k; size = 0 }, n + 1 + 10 + 0)) (omega arith)
    ∙ ap (λ k. Some (record { owner = []; rtype = type_OPT; class = max_udp; ttl = ttl; at = n + 11; size = 0 }, k)) (omega arith)

pub opt_again : (code : Rcode) (o : Option Opt) (whole front : List ℕ) (table : Table) (n : ℕ) → Stands whole front (opt_part code o) table n → records_at (opt_count o) whole n ≡ Some (opt_entries code o n, length whole)
opt_again code None whole front table n s =
    let at = s.at in
    none_more whole n ∙ ap (λ k. Some ([], k)) (omega (arith, ap length s.is, length-append front []))
opt_again code (Some opt) whole front table n s =
    let at = s.at in
    let end : n + 11 ≡ length whole = omega (arith, ap length s.is, length-append front (opt_octets code opt)) in
    one_more 0 whole n (n + 11) (n + 11) _ [] (opt_read code opt front whole n s.at s.is) (none_more whole (n + 11))
    ∙ ap (λ k. Some (opt_entries code (Some opt) n, k)) end

-- by the upper bits of the code, which are 0 or 1, and DO
abbrev ttl_by : ℕ → Bool → ℕ
ttl_by bits dnssec_ok = 2 ^ 24 * bits + (if dnssec_ok then 2 ^ 15 else 0)

said_again : (bits : ℕ) (dnssec_ok : Bool) (at : ℕ) → bits ≤ 1 → said_by (record { owner = []; rtype = type_OPT; class = max_udp; ttl = ttl_by bits dnssec_ok; at = at; size = 0 } ∷ []) ≡ Ok (Some (record { size = max_udp; dnssec_ok = dnssec_ok }))
said_again zero true at h = refl
said_again zero false at h = refl
said_again (suc zero) true at h = refl
said_again (suc zero) false at h = refl
said_again (suc (suc bits)) dnssec_ok at h = absurd (omega arith)

code_again : (bits : ℕ) (dnssec_ok : Bool) → bits ≤ 1 → ttl_by bits dnssec_ok / 2 ^ 24 ≡ bits
code_again zero true h = refl
code_again zero false h = refl
code_again (suc zero) true h = refl
code_again (suc zero) false h = refl
code_again (suc (suc bits)) dnssec_ok h = absurd (omega arith)

pub opt_said_again : (code : Rcode) (opt : Opt) (at : ℕ) → said_by (opt_entries code (Some opt) at) ≡ Ok (Some (record { size = max_udp; dnssec_ok = opt.dnssec_ok }))
opt_said_again code opt at = said_again (extended_bits code) opt.dnssec_ok (at + 11) (few_bits code)

pub opt_code_again : (code : Rcode) (opt : Opt) → opt_ttl code opt / 2 ^ 24 ≡ extended_bits code
opt_code_again code opt = code_again (extended_bits code) opt.dnssec_ok (few_bits code)
