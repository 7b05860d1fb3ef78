-- Records whose data name no hosts.
use Rattle.std.proofs.Common.{◌≡◌, refl, ap, ◌∙◌, ℕ, Bool, true, false, ◌||◌, ◌==◌, List, [], ◌∷◌, ◌++◌, Option, map}
use Rattle.std.specs.List.{list_any, flat_map}
use Rattle.std.specs.Option.{option_map}
use Rattle.std.proofs.lemmas.List.Folds.{list_any-append}
use Rattle.dns_rdata.specs.declared.shown.Shown.{Shown}
use Rattle.dns_rdata.specs.Numbers.{type_NS, type_MX, type_SRV}
use Rattle.dns_rdata.specs.Record.{Record, shown_as}
use Rattle.dns_rdata.specs.Shown.{records_shown}
use Rattle.lookup_core.specs.Additional.{has_hosts, hosts_of, additional_of}
use Rattle.lookup_core.proofs.FirstLemmas.{neither, no_host, no_additional}

-- a test of two of three
regroup : (a b c x y z : Bool) → (((a || b) || c) || ((x || y) || z)) ≡ (((a || x) || (b || y)) || (c || z))
regroup true b c x y z = refl
regroup false true c true y z = refl
regroup false true c false y z = refl
regroup false false true true y z = refl
regroup false false true false true z = refl
regroup false false true false false z = refl
regroup false false false x y z = refl

-- whether records are of such a type, type by type
any_by_type : (owner : List (List ℕ)) (ttl : Option ℕ) (rs : List Record) → list_any (λ r. has_hosts r.rtype) (map (shown_as owner ttl) rs)
    ≡ ((list_any (λ r. r.rtype == type_NS) rs || list_any (λ r. r.rtype == type_MX) rs) || list_any (λ r. r.rtype == type_SRV) rs)
any_by_type owner ttl [] = refl
any_by_type owner ttl (r ∷ rs) =
    ap (λ b. has_hosts r.rtype || b) (any_by_type owner ttl rs)
    ∙ regroup (r.rtype == type_NS) (r.rtype == type_MX) (r.rtype == type_SRV) (list_any (λ r. r.rtype == type_NS) rs) (list_any (λ r. r.rtype == type_MX) rs) (list_any (λ r. r.rtype == type_SRV) rs)

pub any_shown : (shown : Shown) → list_any (λ r. has_hosts r.rtype) (records_shown shown)
    ≡ ((list_any (λ r. r.rtype == type_NS) (flat_map (λ set. set) shown.sets.now) || list_any (λ r. r.rtype == type_MX) (flat_map (λ set. set) shown.sets.now)) || list_any (λ r. r.rtype == type_SRV) (flat_map (λ set. set) shown.sets.now))
any_shown shown = any_by_type shown.owner (option_map (λ ttl. ttl.0) shown.ttl) (flat_map (λ set. set) shown.sets.now)

-- records of other types name no hosts
none_named : (rs : List Record) → list_any (λ r. has_hosts r.rtype) rs ≡ false → hosts_of rs ≡ []
none_named [] none = refl
none_named (r ∷ rs) none =
    let both = neither (has_hosts r.rtype) (list_any (λ r. has_hosts r.rtype) rs) none in
    ap (λ hosts. hosts ++ hosts_of rs) (no_host r both.0) ∙ none_named rs both.1

-- and no address comes along for them
pub without_hosts : (zone answer authority : List Record) → list_any (λ r. has_hosts r.rtype) answer ≡ false → list_any (λ r. has_hosts r.rtype) authority ≡ false → additional_of zone answer authority ≡ []
without_hosts zone answer authority none others =
    no_additional zone answer authority
    (none_named (answer ++ authority) (list_any-append (λ r. has_hosts r.rtype) answer authority ∙ ap (λ b. b || list_any (λ r. has_hosts r.rtype) authority) none ∙ others))
