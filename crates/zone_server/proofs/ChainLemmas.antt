-- What a server's history tells an asker of what changed.
use Rattle.std.proofs.Common.{◌≡◌, refl, ℕ, Bool, true, false, not, ◌==◌, List, [], ◌∷◌, ◌++◌, length, Option, None, Some, ◌⊎◌, inl, inr, sym, ap, ◌∙◌, subst, append-nil, Result, Ok, Err, IfOk, OnErr}
use Rattle.dns_rdata.specs.Numbers.{type_IXFR}
use Rattle.dns_rdata.specs.Record.{Record}
use Rattle.dns_rdata.specs.SerialOrder.{serial_less}
use Rattle.dns_rdata.proofs.SerialLemmas.{less-same}
use Rattle.dns_rdata.specs.declared.numbers.Serial.{Serial}
use Rattle.dns_message.specs.declared.query.Query.{Query as QueryAsked}
use Rattle.zone_tree.specs.Zone.{soa_of}
use Rattle.zone_tree.specs.Version.{Version, zone_serial}
use Rattle.transfer_core.specs.Chain.{reported}
use Rattle.cell_core.specs.declared.words.Version.{Version as Numbered}
use Rattle.counted_handles.specs.History.{IsHistory}
use Rattle.counted_handles.specs.Ruled.{Begins}
use Rattle.snapshot_cell.specs.Tokens.{ReaderState, IsUpgraded}
use Rattle.weak_history.specs.History.{Entered, versions_in}
use Rattle.weak_history.specs.Owned.{less, AreOwned, HasGone, IsChain}
use Rattle.weak_history.specs.declared.chain.Chain.{Chain}
use Rattle.weak_history.specs.declared.chain.Chain.TheVariants.{Whole, Gone, Unknown, Spent}
use Rattle.dns_engine.specs.Versions.{IsFirst, IsNext}
use Rattle.dns_engine.specs.Held.{IsLatest}
use Rattle.dns_engine.specs.Owned.{versions_of}
use Rattle.dns_engine.specs.Entries.{entries_of}
use Rattle.dns_engine.specs.Chain.{ChainState, IsPublished, TellsSince, changes_told, changes_by, IsCopied, HasBroken}
use Rattle.dns_engine.proofs.ChainLemmas.{IsBehind, run_of, versions_entered, told_unknown, told_behind, told_gone, found_behind}
use Rattle.serve_core.specs.Transfers.{is_current, list_for}
use Rattle.requests.specs.Served.{EndsWith}
use Rattle.zone_server.specs.Known.{learned_by, HasTooFew, MeetsAndAsks}
use Rattle.zone_server.specs.Replied.{TellsBy, IsChained}
use Rattle.requests.proofs.TurnLemmas.{grows_itself}

-- who holds the served version's serial gets its SOA alone
list_current : (zone : List Record) (a b : Option (List Record)) (query : QueryAsked) (serial : Serial) → query.serial ≡ Some serial → zone_serial zone ≡ serial.0 → list_for zone a query ≡ list_for zone b query
list_current zone a b query serial asks same =
    let current : is_current zone query.serial ≡ true =
    ap (is_current zone) asks ∙ ap (λ (n : ℕ). not (serial_less serial.0 n)) same ∙ ap not (less-same serial.0) in
    rw current refl

-- who is given owners of all of some entries has seen nothing more
owned_seen : (entries : List (Entered Version)) (before after : ReaderState Version) (owners : List (Numbered Version)) → AreOwned entries before after owners → after.seen ≡ before.seen
owned_seen entries before after owners o = ap (λ (r : ReaderState Version). r.seen) o.spent

sunk_seen : (before after : ReaderState Version) (version : Numbered Version) → IsUpgraded before after version None → after.seen ≡ before.seen
sunk_seen before after version (inl is) = ap (λ (r : ReaderState Version). r.seen) is
sunk_seen before after version (inr is) = ap (λ (r : ReaderState Version). r.seen) is

-- nor any number more buried
owned_gone : (entries : List (Entered Version)) (before after : ReaderState Version) (owners : List (Numbered Version)) → AreOwned entries before after owners → EndsWith after.gone before.gone
owned_gone entries before after owners o = ([], ap (λ (r : ReaderState Version). r.gone) o.spent)

-- who is given none has seen a number more buried
sunk_gone : (before after : ReaderState Version) (version : Numbered Version) → IsUpgraded before after version None → EndsWith after.gone before.gone
sunk_gone before after version (inl is) = (version.number ∷ [], ap (λ (r : ReaderState Version). r.gone) is)
sunk_gone before after version (inr is) = (version.number ∷ [], ap (λ (r : ReaderState Version). r.gone) is)

no_rest : {X : Type 0} (front : List X) (x : X) (rest : List X) → [] ≡ front ++ x ∷ rest → ⊥
no_rest [] x rest e = cc
no_rest (y ∷ front) x rest e = cc

module _ (first : List Record) (query : QueryAsked) (serial : Serial) (version : Version) (before : ReaderState Version) (asks : query.serial ≡ Some serial) (latest : IsLatest first before.seen version)
    (published : List Version) (history : IsHistory (IsFirst first) IsNext published) (begun : Begins before.seen published) where
  abbrev met : ReaderState Version
  met = record before { seen = published }

  place : published ≡ (latest.before ++ version ∷ []) ++ begun.0
  place = sym begun.1 ∙ ap (λ l. l ++ begun.0) latest.ends

  abbrev here : IsPublished first published version
  here = record { before = latest.before; newer = begun.0; history = history; place = place; number = latest.number }

  -- what is told, once the reader has seen what is published
  told_by : (after : ReaderState Version) (chain : ChainState) (changes : Option (List Record)) → after.seen ≡ published → EndsWith after.gone before.gone
      → (changes ≡ changes_told (latest.before ++ version ∷ []) begun.0 query.serial) ⊎ ((own : Serial) × (query.serial ≡ Some own) × (changes ≡ None) × HasBroken (latest.before ++ version ∷ []) begun.0 version.number own.0 after.gone)
      → list_for version.zone (changes_by (soa_of version.zone) chain) query ≡ list_for version.zone changes query → TellsBy first query version before after chain
  told_by after chain changes saw sunk tells list = record {
    grown = record { published = (begun.0, saw ∙ sym begun.1); buried = sunk };
    changes = changes;
    reported = subst (λ (l : List Version). TellsSince first l after.gone version query.serial changes) (sym saw) (record { here = here; reported = tells });
    list = list;
  }

  none_list : (chain : ChainState) → chain ≡ record { whole = false; versions = [] } → list_for version.zone (changes_by (soa_of version.zone) chain) query ≡ list_for version.zone None query
  none_list chain none = ap (λ (c : ChainState). list_for version.zone (changes_by (soa_of version.zone) c) query) none

  abbrev IsAfter : List (Entered Version) → Type 0
  IsAfter later = ((zone_serial version.zone ≡ serial.0) × (later ≡ [])) ⊎ IsBehind serial.0 (run_of 16 begun.0 (latest.before ++ version ∷ [])) later

  whole_tells : (after : ReaderState Version) (owners : List (Numbered Version)) (chain : ChainState) (later : List (Entered Version)) → AreOwned later met after owners → chain ≡ record { whole = true; versions = versions_of owners } → IsAfter later
      → TellsBy first query version before after chain
  whole_tells after owners chain later owned copied (inl current) =
      let changes = changes_told (latest.before ++ version ∷ []) begun.0 query.serial in
      told_by after chain changes (owned_seen later met after owners owned) (owned_gone later met after owners owned) (inl refl) (list_current version.zone (changes_by (soa_of version.zone) chain) changes query serial asks current.0)
  whole_tells after owners chain later owned copied (inr b) =
      let versions : versions_of owners ≡ b.behind = ap versions_of (owned.versions ∙ ap versions_in b.entries) ∙ versions_entered b.behind in
      let by : changes_by (soa_of version.zone) chain ≡ Some (reported (soa_of version.zone) b.behind) =
      ap (changes_by (soa_of version.zone)) copied ∙ ap (λ (l : List Version). Some (reported (soa_of version.zone) l)) versions in
      told_by after chain (Some (reported (soa_of version.zone) b.behind)) (owned_seen later met after owners owned) (owned_gone later met after owners owned)
      (inl (sym (ap (changes_told (latest.before ++ version ∷ []) begun.0) asks ∙ told_behind first published latest.before begun.0 version history place latest.number serial.0 later b)))
      (ap (λ (c : Option (List Record)). list_for version.zone c query) by)

  gone_tells : (after : ReaderState Version) (number : ℕ) (chain : ChainState) (later : List (Entered Version)) → HasGone later met after number → chain ≡ record { whole = false; versions = [] } → IsAfter later → TellsBy first query version before after chain
  gone_tells after number chain later gone copied (inl current) = absurd (no_rest gone.front gone.entry gone.rest (sym current.1 ∙ gone.split))
  gone_tells after number chain later gone copied (inr b) =
      told_by after chain None (sunk_seen (less (length gone.front) met) after gone.entry.version gone.sunk) (sunk_gone (less (length gone.front) met) after gone.entry.version gone.sunk)
      (inr (serial, asks, refl, told_gone first published latest.before begun.0 version history place latest.number serial.0 later b met after number gone)) (none_list chain copied)

  pub chain_tells : {C N : Type 0} (after : ReaderState Version) (asked : Chain Version C N) (chain : ChainState) → IsChain (entries_of published) serial.0 version.number met after asked → IsCopied asked chain → TellsBy first query version before after chain
  chain_tells after (Whole owners) chain is copied =
      whole_tells after owners chain is.0 is.2 copied (found_behind first published latest.before begun.0 version history place latest.number serial.0 is.0 is.1)
  chain_tells after (Gone number) chain is copied =
      gone_tells after number chain is.0 is.2 copied (found_behind first published latest.before begun.0 version history place latest.number serial.0 is.0 is.1)
  chain_tells after Unknown chain is copied =
      told_by after chain None (ap (λ (r : ReaderState Version). r.seen) is.1) ([], ap (λ (r : ReaderState Version). r.gone) is.1)
      (inl (sym (ap (changes_told (latest.before ++ version ∷ []) begun.0) asks ∙ told_unknown first published latest.before begun.0 version history place latest.number serial.0 is.0))) (none_list chain copied)
  chain_tells after Spent chain is copied = absurd copied

-- an asker that tells no serial is told nothing
pub none_tells : (first : List Record) (query : QueryAsked) (version : Version) (reader : ReaderState Version) (chain : ChainState) → query.serial ≡ None → IsLatest first reader.seen version → chain ≡ record { whole = false; versions = [] } → TellsBy first query version reader reader chain
none_tells first query version reader chain none latest copied = record {
  grown = grows_itself (learned_by reader);
  changes = None;
  reported = record {
    here = record { before = latest.before; newer = []; history = latest.history; place = latest.ends ∙ sym (append-nil (latest.before ++ version ∷ [])); number = latest.number };
    reported = inl (sym (ap (changes_told (latest.before ++ version ∷ []) []) none));
  };
  list = ap (λ (c : ChainState). list_for version.zone (changes_by (soa_of version.zone) c) query) copied;
}

-- a chain for an IXFR
pub chained_of : {C N E : Type 0} (result : Result ChainState E) (first : List Record) (query : QueryAsked) (serial : Serial) (version : Version) (number : ℕ) (before after : ReaderState Version) (asked : Chain Version C N) → query.serial ≡ Some serial → (query.question.rtype.0 == type_IXFR) ≡ true
    → IsLatest first before.seen version → number ≡ version.number → MeetsAndAsks first serial.0 number before after asked → IfOk result (λ chain. IsCopied asked chain) → IfOk result (λ chain. IsChained first query version before after chain)
chained_of (Ok chain) first query serial version number before after asked asks ixfr latest same m copied =
    let met = subst (λ (n : ℕ). MeetsAndAsks first serial.0 n before after asked) same m in (
      λ e. chain_tells first query serial version before asks latest met.0 met.1 met.2 after asked chain met.3 copied,
      λ other. absurd (no_both (query.question.rtype.0 == type_IXFR) ixfr other),
    )
  where
    no_both : (b : Bool) → b ≡ true → b ≡ false → ⊥
    no_both b is other = cc
chained_of (Err e) first query serial version number before after asked asks ixfr latest same m copied = tt

-- and where grants are wanted for it
pub few_of : {C N E T : Type 0} (result : Result T E) (first : List Record) (query : QueryAsked) (serial : Serial) (version : Version) (number : ℕ) (before after : ReaderState Version) (asked : Chain Version C N) → query.serial ≡ Some serial → (query.question.rtype.0 == type_IXFR) ≡ true
    → number ≡ version.number → MeetsAndAsks first serial.0 number before after asked → OnErr result (asked ≡ Spent) → OnErr result (HasTooFew first query version before after)
few_of (Ok chain) first query serial version number before after asked asks ixfr same m spent = tt
few_of {C = C} {N = N} (Err e) first query serial version number before after asked asks ixfr same m spent =
    let met = subst (λ (n : ℕ). MeetsAndAsks {C = C} {N = N} first serial.0 n before after Spent) same (subst (λ (c : Chain Version C N). MeetsAndAsks first serial.0 number before after c) spent m) in
    record {
      asks = ixfr;
      serial = serial;
      held = asks;
      published = met.0;
      history = met.1;
      begun = met.2;
      since = met.3.0;
      found = met.3.1;
      few = met.3.2;
    }
