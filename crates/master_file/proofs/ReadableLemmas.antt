-- The records of a text of octets are such as a zone may have.
use Rattle.std.proofs.Common.{◌≡◌, refl, sym, ℕ, ◌<◌, ◌^◌, Bool, true, false, cond, bytes_eq, List, [], ◌∷◌, ◌++◌, codes, All, Option, Some, None, Result, Ok, Err, ok_or}
use Rattle.std.specs.Prelude.{IfSome}
use Rattle.std.specs.Option.{option_or}
use Rattle.std.specs.List.{AllByRecursion}
use Rattle.dns_name.specs.Name.{IsName, fold_name}
use Rattle.dns_name.proofs.LabelLemmas.{AreOctets-fold}
use Rattle.dns_name.proofs.LawLemmas.{fold-IsName}
use Rattle.dns_name.proofs.NamedLemmas.{IsNamed}
use Rattle.dns_rdata.proofs.NameLemmas.{fold_name-fold_name}
use Rattle.dns_rdata.specs.declared.numbers.Ttl.{Ttl}
use Rattle.zone_lexing.specs.Entries.{Entry, entries_of}
use Rattle.zone_lexing.specs.Items.{begins_with}
use Rattle.zone_lexing.specs.Word.{Written}
use Rattle.zone_lexing.specs.Word.Written.{Plain, Quoted, Unclosed}
use Rattle.zone_lexing.proofs.OctetLemmas.{AreOfOctets, EachEntry, entries_of_octets}
use Rattle.record_text.specs.declared.cause.Cause.{Cause}
use Rattle.record_text.specs.declared.cause.Cause.TheVariants.{Directive, NoTtl, NoOwner}
use Rattle.record_text.specs.Data.{data_of_words}
use Rattle.record_text.specs.Front.{Front, ttl_of, front_of}
use Rattle.record_text.specs.NameWord.{owner_of}
use Rattle.record_text.specs.Reading.{on_ok, and_then}
use Rattle.record_text.proofs.DataLemmas.{IsData-words}
use Rattle.record_text.proofs.OctetLemmas.{GivesOctets, data_gives, GivesName, owner_gives, GivesTtl, ttl_gives, IsFront, GivesFront, front_of_gives}
use Rattle.master_file.specs.declared.context.Context.{Context}
use Rattle.master_file.specs.declared.record_entry.RecordEntry.{RecordEntry}
use Rattle.master_file.specs.Records.{alone, argument_of, directed, directive_of, owned_of, ttl_in, rr_of, record_of, behind, judged, words_of, fault_at, Read, faulty, in_front, records_from, start, records_of}
use Rattle.master_file.proofs.IsZoneLemmas.{IsReadable}

-- an owner
pub record IsOwner (owner : List (List ℕ)) : Type 0 where
  pub named : IsNamed owner
  pub folded : owner ≡ fold_name owner

-- the TTLs in force last at most 2^31 - 1 seconds
pub record AreLasting (context : Context) : Type 0 where
  pub default_ttl : IfSome context.default_ttl (λ ttl. ttl.0 < 2 ^ 31)
  pub ttl : IfSome context.ttl (λ ttl. ttl.0 < 2 ^ 31)

-- what is in force
pub record IsContext (context : Context) : Type 0 where
  pub origin : IsNamed context.origin
  pub owner : IfSome context.owner IsOwner
  pub lasting : AreLasting context

fold_owner : (name : List (List ℕ)) → IsNamed name → IsOwner (fold_name name)
fold_owner name h = record {
  named = record { is = (fold-IsName name h.is).0; octets = AreOctets-fold name h.octets };
  folded = sym (fold_name-fold_name name);
}

-- the owner and the words behind it
abbrev GivesOwned : Result (List (List ℕ) × List Written) Cause → Type 0
GivesOwned (Ok owned) = IsOwner owned.0 × AreOfOctets owned.1
GivesOwned (Err cause) = Unit {0}

left_out : (owner : Option (List (List ℕ))) (words : List Written) → IfSome owner IsOwner → AreOfOctets words → GivesOwned (on_ok (λ (o : List (List ℕ)). (o, words)) (ok_or owner NoOwner))
left_out None words h k = tt
left_out (Some owner) words h k = (h, k)

written_owner : (r : Result (List (List ℕ)) Cause) (words : List Written) → GivesName r → AreOfOctets words → GivesOwned (on_ok (λ (o : List (List ℕ)). (fold_name o, words)) r)
written_owner (Ok name) words h k = (fold_owner name h, k)
written_owner (Err cause) words h k = tt

owned_gives : (context : Context) (indented : Bool) (words : List Written) → IsContext context → AreOfOctets words → GivesOwned (owned_of context indented words)
owned_gives context true words h k = left_out context.owner words h.owner k
owned_gives context false [] h k = tt
owned_gives context false (word ∷ words) h k = written_owner (owner_of context.origin word) words (owner_gives context.origin word h.origin k.0) k.1

-- the record
abbrev GivesRecord : Result RecordEntry Cause → Type 0
GivesRecord (Ok rr) = IsReadable rr
GivesRecord (Err cause) = Unit {0}

ttl_small : (own default ttl : Option Ttl) → IfSome own (λ t. t.0 < 2 ^ 31) → IfSome default (λ t. t.0 < 2 ^ 31) → IfSome ttl (λ t. t.0 < 2 ^ 31) → GivesTtl (ok_or (option_or own (option_or default ttl)) NoTtl)
ttl_small (Some own) default ttl h k l = h
ttl_small None (Some default) ttl h k l = k
ttl_small None None (Some ttl) h k l = l
ttl_small None None None h k l = tt

data_placed : (line : ℕ) (owner : List (List ℕ)) (ttl : Ttl) (rtype : ℕ) (origin : List (List ℕ)) (words : List Written) (r : Result (List ℕ) Cause) → data_of_words rtype origin words ≡ r → GivesOctets r → IsOwner owner → ttl.0 < 2 ^ 31 → GivesRecord (on_ok (λ octets. record { line = line; owner = owner; ttl = ttl; rdata = record { rtype = rtype; octets = octets } }) r)
data_placed line owner ttl rtype origin words (Err cause) e h k l = tt
data_placed line owner ttl rtype origin words (Ok octets) e h k l = record {
  lawful = record { name = k.named.is; owner_octets = k.named.octets; folded = k.folded; lasts = l; form = (IsData-words rtype origin words octets e).form; octets = h };
  short = (IsData-words rtype origin words octets e).short;
}

timed_placed : (context : Context) (line : ℕ) (owner : List (List ℕ)) (front : Front) (t : Result Ttl Cause) → GivesTtl t → IsContext context → IsOwner owner → IsFront front → GivesRecord (and_then t (λ ttl. on_ok (λ octets. record { line = line; owner = owner; ttl = ttl; rdata = record { rtype = front.rtype; octets = octets } }) (data_of_words front.rtype context.origin front.words)))
timed_placed context line owner front (Err cause) h k l m = tt
timed_placed context line owner front (Ok ttl) h k l m =
    data_placed line owner ttl front.rtype context.origin front.words (data_of_words front.rtype context.origin front.words) refl (data_gives front.rtype context.origin front.words k.origin m.words) l h

front_placed : (context : Context) (line : ℕ) (owner : List (List ℕ)) (f : Result Front Cause) → GivesFront f → IsContext context → IsOwner owner → GivesRecord (and_then f (λ front. and_then (ttl_in context front.ttl) (λ ttl.
    on_ok (λ octets. record { line = line; owner = owner; ttl = ttl; rdata = record { rtype = front.rtype; octets = octets } }) (data_of_words front.rtype context.origin front.words))))
front_placed context line owner (Err cause) h k l = tt
front_placed context line owner (Ok front) h k l =
    timed_placed context line owner front (ttl_in context front.ttl) (ttl_small front.ttl context.default_ttl context.ttl h.ttl k.lasting.default_ttl k.lasting.ttl) k l h

placed_gives : (context : Context) (line : ℕ) (owner : List (List ℕ)) (words : List Written) → IsContext context → IsOwner owner → AreOfOctets words → GivesRecord (rr_of context line owner words)
placed_gives context line owner words h k l = front_placed context line owner (front_of words) (front_of_gives words l) h k

owned_placed : (context : Context) (line : ℕ) (o : Result (List (List ℕ) × List Written) Cause) → GivesOwned o → IsContext context → GivesRecord (and_then o (λ owned. rr_of context line owned.0 owned.1))
owned_placed context line (Err cause) h k = tt
owned_placed context line (Ok owned) h k = placed_gives context line owned.0 owned.1 k h.0 h.1

record_gives : (context : Context) (line : ℕ) (indented : Bool) (words : List Written) → IsContext context → AreOfOctets words → GivesRecord (record_of context line indented words)
record_gives context line indented words h k = owned_placed context line (owned_of context indented words) (owned_gives context indented words h k) h

-- directives
abbrev GivesContext : Result Context Cause → Type 0
GivesContext (Ok context) = IsContext context
GivesContext (Err cause) = Unit {0}

name_alone : (context : Context) (r : Result (List (List ℕ)) Cause) (words : List Written) → GivesName r → IsContext context → GivesContext (on_ok (λ name. record context { origin = name }) (and_then r (λ x. alone x words)))
name_alone context (Err cause) words h k = tt
name_alone context (Ok name) [] h k = record { origin = h; owner = k.owner; lasting = record { default_ttl = k.lasting.default_ttl; ttl = k.lasting.ttl } }
name_alone context (Ok name) (word ∷ words) h k = tt

name_argument : (context : Context) (arguments : List Written) → IsContext context → AreOfOctets arguments → GivesContext (on_ok (λ name. record context { origin = name }) (argument_of (owner_of context.origin) arguments))
name_argument context [] h k = tt
name_argument context (word ∷ words) h k = name_alone context (owner_of context.origin word) words (owner_gives context.origin word h.origin k.0) h

ttl_alone : (context : Context) (r : Result Ttl Cause) (words : List Written) → GivesTtl r → IsContext context → GivesContext (on_ok (λ ttl. record context { default_ttl = Some ttl }) (and_then r (λ x. alone x words)))
ttl_alone context (Err cause) words h k = tt
ttl_alone context (Ok ttl) [] h k = record { origin = k.origin; owner = k.owner; lasting = record { default_ttl = h; ttl = k.lasting.ttl } }
ttl_alone context (Ok ttl) (word ∷ words) h k = tt

ttl_argument : (context : Context) (arguments : List Written) → IsContext context → AreOfOctets arguments → GivesContext (on_ok (λ ttl. record context { default_ttl = Some ttl }) (argument_of ttl_of arguments))
ttl_argument context [] h k = tt
ttl_argument context (word ∷ words) h k = ttl_alone context (ttl_of word) words (ttl_gives word) h

either_context : (b : Bool) (r s : Result Context Cause) → GivesContext r → GivesContext s → GivesContext (cond b r s)
either_context true r s h k = h
either_context false r s h k = k

directed_gives : (context : Context) (directive : List ℕ) (arguments : List Written) → IsContext context → AreOfOctets arguments → GivesContext (directed context directive arguments)
unfolding directed
directed_gives context directive arguments h k =
    either_context (bytes_eq directive (codes "$ORIGIN")) (on_ok (λ name. record context { origin = name }) (argument_of (owner_of context.origin) arguments)) (cond (bytes_eq directive (codes "$TTL")) (on_ok (λ ttl. record context { default_ttl = Some ttl }) (argument_of ttl_of arguments)) (Err Directive)) (name_argument context arguments h k)
    (either_context (bytes_eq directive (codes "$TTL")) (on_ok (λ ttl. record context { default_ttl = Some ttl }) (argument_of ttl_of arguments)) (Err Directive) (ttl_argument context arguments h k) tt)

-- an entry
abbrev GivesEntry : Result (Context × Option RecordEntry) Cause → Type 0
GivesEntry (Ok judged) = IsContext judged.0 × IfSome judged.1 IsReadable
GivesEntry (Err cause) = Unit {0}

abbrev IsDirective : Option (List ℕ × List Written) → Type 0
IsDirective None = Unit {0}
IsDirective (Some directive) = AreOfOctets directive.1

directive_if : (b : Bool) (text : List ℕ) (words : List Written) → AreOfOctets words → IsDirective (cond b (Some (text, words)) None)
directive_if true text words h = h
directive_if false text words h = tt

directive_small : (indented : Bool) (words : List Written) → AreOfOctets words → IsDirective (directive_of indented words)
directive_small true words h = tt
directive_small false [] h = tt
directive_small false (Plain text ∷ words) h = directive_if (begins_with 36 text) text words h.1
directive_small false (Quoted text ∷ words) h = tt
directive_small false (Unclosed ∷ words) h = tt

put_in_force : (r : Result Context Cause) → GivesContext r → GivesEntry (on_ok (λ (next : Context). (next, None)) r)
put_in_force (Ok context) h = (h, tt)
put_in_force (Err cause) h = tt

record_read : (context : Context) (r : Result RecordEntry Cause) → IsContext context → GivesRecord r → GivesEntry (on_ok (λ (p : RecordEntry). (behind context p, Some p)) r)
record_read context (Err cause) h k = tt
record_read context (Ok rr) h k = (
  record {
    origin = h.origin;
    owner = record { named = record { is = k.lawful.name; octets = k.lawful.owner_octets }; folded = k.lawful.folded };
    lasting = record { default_ttl = h.lasting.default_ttl; ttl = k.lawful.lasts };
  },
  k,
)

entry_by : (context : Context) (d : Option (List ℕ × List Written)) (r : Result RecordEntry Cause) → IsContext context → IsDirective d → GivesRecord r → GivesEntry (elim d as (λ _. Result (Context × Option RecordEntry) Cause) [
  | Some directive ↦ on_ok (λ next. (next, None)) (directed context directive.0 directive.1)
  | None ↦ on_ok (λ rr. (behind context rr, Some rr)) r
])
entry_by context None r h k l = record_read context r h l
entry_by context (Some directive) r h k l = put_in_force (directed context directive.0 directive.1) (directed_gives context directive.0 directive.1 h k)

judged_gives : (context : Context) (line : ℕ) (indented : Bool) (words : List Written) → IsContext context → AreOfOctets words → GivesEntry (judged context line indented words)
judged_gives context line indented words h k = entry_by context (directive_of indented words) (record_of context line indented words) h (directive_small indented words k) (record_gives context line indented words h k)

behind_words : (unclosed : Option ℕ) (words : List Written) → AreOfOctets words → AreOfOctets (elim unclosed as (λ _. List Written) [ None ↦ words | Some line ↦ words ++ Unclosed ∷ [] ])
behind_words None words h = h
behind_words (Some line) words h = more words h
  where
    more : (ws : List Written) → AreOfOctets ws → AreOfOctets (ws ++ Unclosed ∷ [])
    more [] k = (tt, tt)
    more (w ∷ ws) k = (k.0, more ws k.1)

-- the records of entries
abbrev EachReadable : Read → Type 0
EachReadable read = AllByRecursion IsReadable read.rrs

then_readable : (line : ℕ) (unclosed : Option ℕ) (entries : List Entry) (r : Result (Context × Option RecordEntry) Cause) → GivesEntry r → ((next : Context) → IsContext next → EachReadable (records_from next entries)) → EachReadable (elim r as (λ _. Read) [
  | Err cause ↦ faulty (fault_at line unclosed cause)
  | Ok (next, None) ↦ records_from next entries
  | Ok (next, Some rr) ↦ in_front rr (records_from next entries)
])
then_readable line unclosed entries (Err cause) h k = tt
then_readable line unclosed entries (Ok (next, None)) h k = k next h.0
then_readable line unclosed entries (Ok (next, Some rr)) h k = (h.1, k next h.0)

from_readable : (context : Context) (entries : List Entry) → IsContext context → EachEntry entries → EachReadable (records_from context entries)
from_readable context [] h k = tt
from_readable context (entry ∷ entries) h k =
    then_readable entry.line entry.unclosed entries (judged context entry.line entry.indented (words_of entry)) (judged_gives context entry.line entry.indented (words_of entry) h (behind_words entry.unclosed entry.words k.0))
    (λ next l. from_readable next entries l k.1)

-- the records of a text
pub records_readable : (origin : List (List ℕ)) (text : List ℕ) → IsName origin → All (All (λ c. c < 256)) origin → All (λ c. c < 256) text → AllByRecursion IsReadable (records_of origin text).rrs
records_readable origin text is octets h =
    from_readable (start origin) (entries_of text) (record { origin = record { is = is; octets = octets }; owner = tt; lasting = record { default_ttl = tt; ttl = tt } }) (entries_of_octets text h)
