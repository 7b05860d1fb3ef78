use Rattle.std.proofs.Common.{◌≡◌, ◌<◌, length, insert, true, false, not, Result, Ok, Err, OnOk, is_ok, refl, sym, ap, ◌∙◌, arith, rules}
use Rattle.std.proofs.lemmas.List.{length-map}
use Rattle.dns_rdata.specs.Record.{with_data, has_data, records_with, rtype_of}
use Rattle.dns_rdata.proofs.SetLemmas.{rtype_of-records_with}
use Rattle.dns_rdata.proofs.InsertLemmas.{has-from_same, has_not-from_insert, records_with-with_data, IsSet-with_data}
use Rattle.dns_rdata.proofs.rrset.RRset.insert.Goals as goal

-- what is so where there is a value
reported : {T E P : Type 0} (r : Result T E) → OnOk r P → is_ok r ≡ true → P
reported (Ok v) is ok = is
reported (Err e) is ok = absurd (let wrong : false ≡ true = ok in cc)

pub returns-in_default-clause-ok : goal.returns-in_default-clause-ok
returns-in_default-clause-ok c =
    let set = c.self.inside in
    let found : with_data c.args.rdata set.rdata.items ≡ set.rdata.items = rw c.deref.ensures at c.in_default.ensures.place in
    let typed : c.args.rdata.rtype ≡ rtype_of (records_with set.owner set.rtype.0 set.ttl.0 set.rdata.items) = rw (← c.self.view_is) at c.requires in
    let more = records_with-with_data set.owner set.rtype.0 set.ttl.0 c.args.rdata set.rdata.items c.self.invariant.some typed in
    rw (← c.self.view_is) (ap (records_with set.owner set.rtype.0 set.ttl.0) (sym found) ∙ more)

pub returns-in_default-clause-fresh : goal.returns-in_default-clause-fresh
returns-in_default-clause-fresh c =
    let set = c.self.inside in
    let found : with_data c.args.rdata set.rdata.items ≡ set.rdata.items = rw c.deref.ensures at c.in_default.ensures.place in
    let there = has-from_same set.owner set.rtype.0 set.ttl.0 c.args.rdata set.rdata.items found in
    rw (← c.self.view_is) (ap not (sym there))

pub returns-in_default-clause-limit : goal.returns-in_default-clause-limit
returns-in_default-clause-limit c =
    let set = c.self.inside in
    let found : with_data c.args.rdata set.rdata.items ≡ set.rdata.items = rw c.deref.ensures at c.in_default.ensures.place in
    let there = has-from_same set.owner set.rtype.0 set.ttl.0 c.args.rdata set.rdata.items found in
    let is : has_data c.args.self.now c.args.rdata.octets ≡ true = rw (← c.self.view_is) there in
    (λ e. cc, λ h. let isnt = h.1 in cc)

pub returns-then-len-eq-MAX_SET-clause-limit : goal.returns-then-len-eq-MAX_SET-clause-limit
returns-then-len-eq-MAX_SET-clause-limit c =
    let set = c.self.inside in
    let place = rw c.deref.ensures at c.in-Err.ensures.place in
    let missing = has_not-from_insert set.owner set.rtype.0 set.ttl.0 c.args.rdata set.rdata.items c.in-Err.place c.self.invariant.ascending place.0 place.1 in
    let isnt : has_data c.args.self.now c.args.rdata.octets ≡ false = rw (← c.self.view_is) missing in
    let size : length c.args.self.now ≡ length set.rdata.items = rw (← c.self.view_is) (length-map set.rdata.items _) in
    let count : c.len.result ≡ length set.rdata.items = search rules in
    (λ _. (omega arith, isnt), λ _. refl)

pub returns-in_err-map_err-clause-no_memory : goal.returns-in_err-map_err-clause-no_memory
returns-in_err-map_err-clause-no_memory c =
    let set = c.self.inside in
    let place = rw c.deref.ensures at c.in-Err.ensures.place in
    let missing = has_not-from_insert set.owner set.rtype.0 set.ttl.0 c.args.rdata set.rdata.items c.in-Err.place c.self.invariant.ascending place.0 place.1 in
    let isnt : has_data c.args.self.now c.args.rdata.octets ≡ false = rw (← c.self.view_is) missing in
    let size : length c.args.self.now ≡ length set.rdata.items = rw (← c.self.view_is) (length-map set.rdata.items _) in
    let count : c.len.result ≡ length set.rdata.items = search rules in
    let few = c.self.invariant.few in
    (λ _. (isnt, omega arith))

pub invariant_of-self-2 : goal.invariant_of-self-2
invariant_of-self-2 c =
    let set = c.self.inside in
    let place = rw c.deref.ensures at c.in-Err.ensures.place in
    let ok : is_ok c.insert.result ≡ true = sym c.in_ok-map_err.ensures.variant in
    let items : c.insert.new.self.items ≡ insert set.rdata.items c.in-Err.place c.args.rdata = reported c.insert.result c.insert.ensures.ok ok in
    let typed : c.args.rdata.rtype ≡ rtype_of (records_with set.owner set.rtype.0 set.ttl.0 set.rdata.items) = rw (← c.self.view_is) at c.requires in
    let own = rtype_of-records_with set.owner set.rtype.0 set.ttl.0 set.rdata.items c.self.invariant.some in
    let count : c.len.result ≡ length set.rdata.items = search rules in
    let few = c.self.invariant.few in
    let room : length set.rdata.items < 256 = omega arith in
    rw items (IsSet-with_data set.owner set.rtype.0 set.ttl.0 c.args.rdata set.rdata.items c.in-Err.place c.self.invariant (typed ∙ own) c.in-Err.ensures.lawful room place.0 place.1)

pub returns-clause-ok : goal.returns-clause-ok
returns-clause-ok c =
    let set = c.self.inside in
    let place = rw c.deref.ensures at c.in-Err.ensures.place in
    let ok : is_ok c.insert.result ≡ true = sym c.in_ok-map_err.ensures.variant in
    let items : c.insert.new.self.items ≡ insert set.rdata.items c.in-Err.place c.args.rdata = reported c.insert.result c.insert.ensures.ok ok in
    let typed : c.args.rdata.rtype ≡ rtype_of (records_with set.owner set.rtype.0 set.ttl.0 set.rdata.items) = rw (← c.self.view_is) at c.requires in
    let more = records_with-with_data set.owner set.rtype.0 set.ttl.0 c.args.rdata set.rdata.items c.self.invariant.some typed in
    rw (items, ← c.self.view_is) (ap (records_with set.owner set.rtype.0 set.ttl.0) (sym place.1) ∙ more)

pub returns-clause-fresh : goal.returns-clause-fresh
returns-clause-fresh c =
    let set = c.self.inside in
    let place = rw c.deref.ensures at c.in-Err.ensures.place in
    let missing = has_not-from_insert set.owner set.rtype.0 set.ttl.0 c.args.rdata set.rdata.items c.in-Err.place c.self.invariant.ascending place.0 place.1 in
    rw (← c.self.view_is) (ap not (sym missing))
