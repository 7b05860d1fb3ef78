-- What an update comes to, by what is told of it.
use Rattle.std.proofs.Common.{◌≡◌, ◌≢◌, refl, sym, ap, ◌∙◌, subst, ℕ, ◌+◌, ◌^◌, Bool, true, false, ◌⊎◌, inl, inr, List, Option, Some, None, MatchOption}
use Rattle.std.specs.Prelude.{◌==◌, ◌&&◌, bytes_eq, nat_lt, if◌then◌else◌}
use Rattle.std.specs.Bool.{Decides}
use Rattle.std.specs.Cmp.Lexicographic.{pointwise}
use Rattle.std.specs.Option.{option_or}
use Rattle.std.proofs.lemmas.Bool.{cases_Bool}
use Rattle.std.proofs.lemmas.Bool.Decides.{Decides-eqb}
use Rattle.std.proofs.lemmas.Slice.Eq.{bytes_eq-Decides, slice_eq-Decides}
use Rattle.dns_rdata.specs.declared.numbers.Rcode.{Rcode}
use Rattle.dns_rdata.specs.declared.numbers.Rcode.TheVariants.{NoError}
use Rattle.dns_rdata.specs.Record.{Record}
use Rattle.serve_core.specs.Heading.{header_alone, heading_of_update, heading_of_bad}
use Rattle.serve_core.specs.declared.heading.Heading.{Heading}
use Rattle.dns_message.specs.declared.query.Parsed.{Parsed}
use Rattle.dns_message.specs.declared.query.Parsed.TheVariants as parsed
use Rattle.dns_message.specs.declared.update.Update.{Update as DynamicUpdate}
use Rattle.dns_message.specs.Message.{opcode_UPDATE}
use Rattle.dns_message.specs.Request.{reads}
use Rattle.update_core.specs.Act.{act}
use Rattle.update_core.specs.Applied.{IsTold, code_of, code_told}
use Rattle.update_core.specs.declared.outcome.Outcome.{Outcome}
use Rattle.update_core.specs.declared.outcome.Outcome.TheVariants.{Refused, Unchanged, Next}
use Rattle.update_core.specs.Verdict.{verdict}
use Rattle.zone_tree.specs.Version.{Version as Numbered, Changes, AreChanges, KnowsChanges}
use Rattle.zone_tree.specs.Change.{left_out}
use Rattle.zone_tree.specs.Zone.{soa_of}
use Rattle.world_run.specs.Numbered.{changes_between}
use Rattle.world_run.specs.declared.judged.Judged.{Judged}
use Rattle.world_run.specs.declared.judged.Judged.TheVariants.{Code, Makes}
use Rattle.world_run.specs.Judgements.{is_equal_record, is_equal_zone, made_of, judged_by, judged_said, judged}

both : (a b : Bool) → (a && b) ≡ true → (a ≡ true) × (b ≡ true)
both true b e = (refl, e)
both false b e = absurd (let wrong = e in cc)

owners_told : (one two : List (List ℕ)) → Decides (pointwise bytes_eq one two) (one ≡ two)
owners_told one two = slice_eq-Decides bytes_eq-Decides one two (pointwise bytes_eq one two) refl

same_fields : (r s : Record) → is_equal_record r s ≡ true → r ≡ s
same_fields r s t =
    let first = both (pointwise bytes_eq r.owner s.owner && r.rtype == s.rtype && r.ttl == s.ttl) (bytes_eq r.rdata s.rdata) t in
    let second = both (pointwise bytes_eq r.owner s.owner && r.rtype == s.rtype) (r.ttl == s.ttl) first.0 in
    let third = both (pointwise bytes_eq r.owner s.owner) (r.rtype == s.rtype) second.0 in
    let owner : r.owner ≡ s.owner = (owners_told r.owner s.owner).0 third.0 in
    let rtype : r.rtype ≡ s.rtype = (Decides-eqb r.rtype s.rtype).0 third.1 in
    let ttl : r.ttl ≡ s.ttl = (Decides-eqb r.ttl s.ttl).0 second.1 in
    let rdata : r.rdata ≡ s.rdata = (bytes_eq-Decides r.rdata s.rdata).0 first.1 in
    ap (λ o. record r { owner = o }) owner ∙ ap (λ t. record r { owner = s.owner; rtype = t }) rtype ∙ ap (λ t. record s { ttl = t; rdata = r.rdata }) ttl ∙ ap (λ d. record s { rdata = d }) rdata

itself : (r : Record) → is_equal_record r r ≡ true
itself r =
    let owner : pointwise bytes_eq r.owner r.owner ≡ true = (owners_told r.owner r.owner).1 refl in
    let rtype : (r.rtype == r.rtype) ≡ true = (Decides-eqb r.rtype r.rtype).1 refl in
    let ttl : (r.ttl == r.ttl) ≡ true = (Decides-eqb r.ttl r.ttl).1 refl in
    let rdata : bytes_eq r.rdata r.rdata ≡ true = (bytes_eq-Decides r.rdata r.rdata).1 refl in
    rw (owner, rtype, ttl, rdata) refl

records_told : (r s : Record) → Decides (is_equal_record r s) (r ≡ s)
records_told r s = (same_fields r s, λ e. subst (λ x. is_equal_record r x ≡ true) e (itself r))

pub zones_told : (zone other : List Record) → Decides (is_equal_zone zone other) (zone ≡ other)
zones_told zone other = slice_eq-Decides records_told zone other (is_equal_zone zone other) refl

zones_apart : (zone other : List Record) → other ≢ zone → is_equal_zone zone other ≡ false
zones_apart zone other apart =
    elim (cases_Bool (is_equal_zone zone other)) [
      | inl same ↦ absurd (apart (sym ((zones_told zone other).0 same)))
      | inr other_is ↦ other_is
    ]

no_code : (zone next : List Record) (update : DynamicUpdate) → verdict zone update true ≡ None → act zone update ≡ Some next → code_of zone update true ≡ None
no_code zone next update passed made = rw (passed, made) refl

let_through : (last : Numbered) (next : List Record) (update : DynamicUpdate) → verdict last.zone update true ≡ None → act last.zone update ≡ Some next → judged_by last update (code_of last.zone update true) ≡ made_of last (heading_of_update update) (Some next)
let_through last next update passed made = ap (judged_by last update) (no_code last.zone next update passed made) ∙ ap (made_of last (heading_of_update update)) made

-- an update that changes nothing is told NOERROR
told_unchanged : (version : Numbered) (update : DynamicUpdate) → verdict version.zone update true ≡ None → act version.zone update ≡ Some version.zone → Some (Code (heading_of_update update) NoError) ≡ judged_by version update (code_of version.zone update true)
told_unchanged version update passed made =
    let same : is_equal_zone version.zone version.zone ≡ true = (zones_told version.zone version.zone).1 refl in
    sym (let_through version version.zone update passed made ∙ rw same refl)

-- an update that is refused, or changes nothing, is told its code
pub told_by_code : (version : Numbered) (update : DynamicUpdate) (outcome : Outcome) (code : Rcode) → IsTold version update true outcome → code ≡ code_told outcome → ((said : Rcode) × outcome ≡ Refused said) ⊎ outcome ≡ Unchanged
    → Some (Code (heading_of_update update) code) ≡ judged_by version update (code_of version.zone update true)
told_by_code version update outcome code reported is (inl refused) =
    let coded : code_of version.zone update true ≡ Some refused.0 = subst (λ o. IsTold version update true o) refused.1 reported in
    ap (λ c. Some (Code (heading_of_update update) c)) (is ∙ ap code_told refused.1) ∙ sym (ap (judged_by version update) coded)
told_by_code version update outcome code reported is (inr unchanged) =
    let passed : (verdict version.zone update true ≡ None) × act version.zone update ≡ Some version.zone = subst (λ o. IsTold version update true o) unchanged reported in
    ap (λ c. Some (Code (heading_of_update update) c)) (is ∙ ap code_told unchanged) ∙ told_unchanged version update passed.0 passed.1

-- changes that are those between two zones
same_changes : (before after : List Record) (changes : Changes) → AreChanges changes before after → changes ≡ changes_between before after
same_changes before after changes are =
    ap (λ o. record changes { old_soa = o }) are.old_soa
    ∙ ap (λ d. record changes { old_soa = soa_of before; deletions = d }) are.deletions
    ∙ ap (λ a. record changes { old_soa = soa_of before; deletions = left_out before after; additions = a }) are.additions

-- a version that knows them
same_known : (before after : List Record) (o : Option Changes) → MatchOption o ⊥ (λ changes. AreChanges changes before after) → o ≡ Some (changes_between before after)
same_known before after None known = absurd known
same_known before after (Some changes) known = ap Some (same_changes before after changes known)

same_version : (before : List Record) (number : ℕ) (made : Numbered) → made.number ≡ number → KnowsChanges before made → made ≡ record { number = number; zone = made.zone; changes = Some (changes_between before made.zone) }
same_version before number made counted known =
    ap (λ n. record made { number = n }) counted ∙ ap (λ c. record made { number = number; changes = c }) (same_known before made.zone made.changes known)

-- one that makes another zone makes the version of the next number
pub told_next : (version made : Numbered) (update : DynamicUpdate) (outcome : Outcome) → IsTold version update true outcome → outcome ≡ Next made
    → Some (Makes (heading_of_update update) made) ≡ judged_by version update (code_of version.zone update true)
told_next version made update outcome reported is =
    let next : IsTold version update true (Next made) = subst (λ o. IsTold version update true o) is reported in
    let other : is_equal_zone version.zone made.zone ≡ false = zones_apart version.zone made.zone next.2 in
    let made_so : made_of version (heading_of_update update) (Some made.zone) ≡ Some (Makes (heading_of_update update) (record { number = version.number + 1; zone = made.zone; changes = Some (changes_between version.zone made.zone) })) = rw other refl in
    sym (let_through version made.zone update next.0 next.1 ∙ made_so ∙ ap (λ m. Some (Makes (heading_of_update update) m)) (sym (same_version version.zone (version.number + 1) made next.3 next.4)))

-- what makes a version
pub record MadeBy (last : Numbered) (request : List ℕ) (head : Heading) (version : Numbered) : Type 0 where
  pub update : DynamicUpdate
  pub headed : (heading_of_update update) ≡ head
  pub read : reads request ≡ parsed.Update update
  pub passed : verdict last.zone update true ≡ None
  pub made : act last.zone update ≡ Some version.zone
  pub changes : version.zone ≢ last.zone
  pub number : version.number ≡ last.number + 1
  pub knows : KnowsChanges last.zone version

abbrev version_of : Numbered → Option Judged → Numbered
version_of other None = other
version_of other (Some (Code head code)) = other
version_of other (Some (Makes head version)) = version

abbrev head_in : Heading → Option Judged → Heading
head_in other None = other
head_in other (Some (Code head code)) = head
head_in other (Some (Makes head version)) = head

passed_by : (zone : List Record) (update : DynamicUpdate) (v : Option Rcode) (rest : Option Rcode) → option_or v rest ≡ None → v ≡ None
passed_by zone update None rest e = refl
passed_by zone update (Some code) rest e = absurd (let wrong = e in cc)

makes_if : (last : Numbered) (zone : List Record) (head other : Heading) (version : Numbered) (test : Bool) → is_equal_zone last.zone zone ≡ test
    → (if test then Some (Code head NoError) else Some (Makes head (record { number = last.number + 1; zone = zone; changes = Some (changes_between last.zone zone) }))) ≡ Some (Makes other version)
    → (record { number = last.number + 1; zone = zone; changes = Some (changes_between last.zone zone) } ≡ version) × (zone ≢ last.zone) × (head ≡ other)
makes_if last zone head other version true t e = absurd (let wrong = e in cc)
makes_if last zone head other version false t e =
    (ap (version_of version) e, (λ same. let yes = (zones_told last.zone zone).1 (sym same) in absurd (let wrong : true ≡ false = sym yes ∙ t in cc)), ap (head_in other) e)

makes_made : (last : Numbered) (request : List ℕ) (update : DynamicUpdate) (head : Heading) (version : Numbered) (o : Option (List Record)) → act last.zone update ≡ o → reads request ≡ parsed.Update update → verdict last.zone update true ≡ None
    → made_of last (heading_of_update update) o ≡ Some (Makes head version) → MadeBy last request head version
makes_made last request update head version None is read passed e = absurd (let wrong = e in cc)
makes_made last request update head version (Some zone) is read passed e =
    let m = makes_if last zone (heading_of_update update) head version (is_equal_zone last.zone zone) refl e in
    record {
      update = update;
      headed = m.2;
      read = read;
      passed = passed;
      made = is ∙ ap (λ (v : Numbered). Some v.zone) m.0;
      changes = subst (λ (v : Numbered). v.zone ≢ last.zone) m.0 m.1;
      number = ap (λ (v : Numbered). v.number) (sym m.0);
      knows = subst (λ (v : Numbered). KnowsChanges last.zone v) m.0 (record { old_soa = refl; deletions = refl; additions = refl });
    }

makes_by : (last : Numbered) (request : List ℕ) (update : DynamicUpdate) (head : Heading) (version : Numbered) (code : Option Rcode) → code_of last.zone update true ≡ code → reads request ≡ parsed.Update update → judged_by last update code ≡ Some (Makes head version) → MadeBy last request head version
makes_by last request update head version (Some code) is read e = absurd (let wrong = e in cc)
makes_by last request update head version None is read e =
    makes_made last request update head version (act last.zone update) refl read (passed_by last.zone update (verdict last.zone update true) _ is) e

makes_fault : (head other : Heading) (code : Rcode) (version : Numbered) (test : Bool) → (if test then Some (Code head code) else None) ≡ Some (Makes other version) → ⊥
makes_fault head other code version true e = let wrong = e in cc
makes_fault head other code version false e = let wrong = e in cc

makes_said : (last : Numbered) (request : List ℕ) (head : Heading) (version : Numbered) (said : Parsed) → reads request ≡ said → judged_said last said ≡ Some (Makes head version) → MadeBy last request head version
makes_said last request head version parsed.Silent read e = absurd (let wrong = e in cc)
makes_said last request head version (parsed.Fault other code) read e = absurd (makes_fault (header_alone other) head code version (other.opcode == opcode_UPDATE) e)
makes_said last request head version (parsed.BadOpt other question code dnssec_ok) read e = absurd (makes_fault (heading_of_bad other question dnssec_ok) head code version (other.opcode == opcode_UPDATE) e)
makes_said last request head version (parsed.Query query) read e = absurd (let wrong = e in cc)
makes_said last request head version (parsed.Update update) read e = makes_by last request update head version (code_of last.zone update true) refl read e
makes_said last request head version (parsed.NoMemory other) read e = absurd (let wrong = e in cc)

makes_numbered : (last : Numbered) (request : List ℕ) (head : Heading) (version : Numbered) (test : Bool) → (if test then judged_said last (reads request) else None) ≡ Some (Makes head version) → MadeBy last request head version
makes_numbered last request head version true e = makes_said last request head version (reads request) refl e
makes_numbered last request head version false e = absurd (let wrong = e in cc)

-- a version is made by an update that was read, that no rule refuses, and that changes the zone
pub made_by : (last : Numbered) (request : List ℕ) (head : Heading) (version : Numbered) → judged last request ≡ Some (Makes head version) → MadeBy last request head version
made_by last request head version e = makes_numbered last request head version (nat_lt (last.number + 1) (2 ^ 64)) e
