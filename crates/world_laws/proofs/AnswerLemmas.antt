-- How updates are answered.
use Rattle.std.proofs.Common.{◌≡◌, refl, sym, ap, subst, ℕ, ◌+◌, ◌^◌, Bool, true, false, inl, inr, List, [], ◌∷◌, Option, Some, None}
use Rattle.std.specs.Prelude.{◌==◌, is_some, nat_lt, if◌then◌else◌}
use Rattle.cell_core.specs.Words.{State}
use Rattle.cell_core.specs.declared.words.WordEvent.{WordEvent}
use Rattle.cell_core.specs.declared.words.WordEvent.TheVariants as reported
use Rattle.serve_core.specs.Heading.{header_alone, heading_of_update, heading_of_bad}
use Rattle.serve_core.specs.declared.heading.Heading.{Heading}
use Rattle.dns_message.specs.declared.query.Parsed.{Parsed}
use Rattle.dns_message.specs.declared.query.Parsed.TheVariants as parsed
use Rattle.dns_message.specs.declared.update.Update.{Update as DynamicUpdate}
use Rattle.dns_message.specs.Message.{opcode_UPDATE}
use Rattle.dns_message.specs.Request.{reads}
use Rattle.dns_rdata.specs.declared.numbers.Rcode.{Rcode}
use Rattle.dns_rdata.specs.declared.numbers.Rcode.TheVariants.{NoError}
use Rattle.dns_rdata.specs.declared.numbers.Serial.{Serial}
use Rattle.dns_rdata.specs.Record.{Record}
use Rattle.serve_core.specs.declared.transport.Transport.TheVariants.{Udp}
use Rattle.serve_core.specs.Served.{Got, ForNothing, answered, got, got_for}
use Rattle.update_core.specs.Act.{act}
use Rattle.update_core.specs.Applied.{code_of}
use Rattle.world_run.specs.declared.judged.Judged.{Judged}
use Rattle.world_run.specs.declared.judged.Judged.TheVariants.{Code, Makes}
use Rattle.world_run.specs.declared.entries.Entry.{Entry}
use Rattle.world_run.specs.declared.phase.Keeping.{Keeping}
use Rattle.world_run.specs.declared.phase.Phase.{Phase}
use Rattle.world_run.specs.declared.phase.Phase.TheVariants as phase
use Rattle.world_run.specs.declared.phase.Purpose.{Purpose}
use Rattle.world_run.specs.declared.phase.Purpose.TheVariants as purpose
use Rattle.world_run.specs.declared.phase.Progress.TheVariants.{On}
use Rattle.world_run.specs.declared.step.Answer.{Answer}
use Rattle.world_run.specs.declared.step.Answer.TheVariants as answer
use Rattle.world_run.specs.Judgements.{is_equal_zone, made_of, judged_by, judged_said, judged}
use Rattle.zone_tree.specs.Version.{Version as Numbered}
use Rattle.world_run.specs.Numbered.{changes_between}
use Rattle.world_run.specs.Phases.{after, past, gone, leaving_after, oldest_after}
use Rattle.world_laws.specs.UpdateAnswers.{heading_for, heading_of, KeepsHeading, got_alone}
use Rattle.world_run.proofs.JudgeLemmas.{zones_told}

leaving_told : (head : Heading) (event : WordEvent) (kept : ℕ) (entry : Option Entry) (leaving : List ℕ) → KeepsHeading head event (leaving_after head kept entry leaving)
leaving_told head event kept entry [] = inr (kept, entry, refl)
leaving_told head event kept entry (owner ∷ leaving) = refl

oldest_told : (head : Heading) (event : WordEvent) (kept : ℕ) (entry : Option Entry) (leaving : List ℕ) (oldest : Option ℕ) → KeepsHeading head event (oldest_after head kept entry leaving oldest)
oldest_told head event kept entry leaving None = leaving_told head event kept entry leaving
oldest_told head event kept entry leaving (Some owner) = refl

past_told : (head : Heading) (event : WordEvent) (for : Purpose) (given : Answer) → heading_for for ≡ Some head → KeepsHeading head event (past for given)
past_told head event purpose.Drop given e = absurd (let wrong = e in cc)
past_told head event (purpose.Sent sending owners) given e = absurd (let wrong = e in cc)
past_told head event (purpose.Publish keeping kept entry) given e =
    let same : keeping.heading ≡ head = (let f = e in cc) in
    subst (λ h. KeepsHeading h event (oldest_after keeping.heading kept entry keeping.leaving keeping.oldest)) same (oldest_told keeping.heading event kept entry keeping.leaving keeping.oldest)
past_told head event (purpose.Oldest other kept entry leaving) given e =
    let same : other ≡ head = (let f = e in cc) in
    subst (λ h. KeepsHeading h event (leaving_after other kept entry leaving)) same (leaving_told other event kept entry leaving)
past_told head event (purpose.Leaves other kept entry leaving) given e =
    let same : other ≡ head = (let f = e in cc) in
    subst (λ h. KeepsHeading h event (leaving_after other kept entry leaving)) same (leaving_told other event kept entry leaving)

probe_told : (words : State Numbered) (version : Numbered) (keeping : Keeping) (event : WordEvent) → KeepsHeading keeping.heading event (after words (phase.Probe version keeping) event)
probe_told words version keeping (reported.Loaded owner number) = refl
probe_told words version keeping reported.Passed = refl
probe_told words version keeping reported.Taken = refl
probe_told words version keeping reported.NoSlot = inl (refl, refl)
probe_told words version keeping reported.Prepared = refl
probe_told words version keeping (reported.Swapped number) = refl
probe_told words version keeping (reported.Settled owner number) = refl
probe_told words version keeping reported.Left = refl
probe_told words version keeping reported.Emptied = refl
probe_told words version keeping (reported.Buried number) = refl
probe_told words version keeping reported.Kept = refl
probe_told words version keeping reported.Freed = refl
probe_told words version keeping reported.Alive = refl
probe_told words version keeping reported.Dead = refl
probe_told words version keeping (reported.Raised owner number) = refl
probe_told words version keeping (reported.Noted owner number) = refl
probe_told words version keeping reported.Faded = refl
probe_told words version keeping reported.Closed = refl
probe_told words version keeping reported.Restored = refl

settle_told : (words : State Numbered) (keeping : Keeping) (event : WordEvent) → KeepsHeading keeping.heading event (after words (phase.Settle keeping) event)
settle_told words keeping (reported.Loaded owner number) = refl
settle_told words keeping reported.Passed = refl
settle_told words keeping reported.Taken = refl
settle_told words keeping reported.NoSlot = refl
settle_told words keeping reported.Prepared = refl
settle_told words keeping (reported.Swapped number) = refl
settle_told words keeping (reported.Settled owner number) = refl
settle_told words keeping reported.Left = refl
settle_told words keeping reported.Emptied = refl
settle_told words keeping (reported.Buried number) = refl
settle_told words keeping reported.Kept = refl
settle_told words keeping reported.Freed = refl
settle_told words keeping reported.Alive = refl
settle_told words keeping reported.Dead = refl
settle_told words keeping (reported.Raised owner number) = refl
settle_told words keeping (reported.Noted owner number) = refl
settle_told words keeping reported.Faded = refl
settle_told words keeping reported.Closed = refl
settle_told words keeping reported.Restored = refl

entered_told : (given : ℕ) (keeping : Keeping) (owner : ℕ) (event : WordEvent) (o : Option Serial) → keeping.enters ≡ o
    → KeepsHeading keeping.heading event (if is_some keeping.enters then On (phase.Enter given owner keeping) else On (phase.Release given (purpose.Publish keeping owner None)))
entered_told given keeping owner event None e = rw e refl
entered_told given keeping owner event (Some serial) e = rw e refl

keep_told : (words : State Numbered) (given : ℕ) (keeping : Keeping) (event : WordEvent) → KeepsHeading keeping.heading event (after words (phase.Keep given keeping) event)
keep_told words given keeping (reported.Loaded owner number) = entered_told given keeping owner (reported.Loaded owner number) keeping.enters refl
keep_told words given keeping reported.Passed = refl
keep_told words given keeping reported.Taken = refl
keep_told words given keeping reported.NoSlot = refl
keep_told words given keeping reported.Prepared = refl
keep_told words given keeping (reported.Swapped number) = refl
keep_told words given keeping (reported.Settled owner number) = refl
keep_told words given keeping reported.Left = refl
keep_told words given keeping reported.Emptied = refl
keep_told words given keeping (reported.Buried number) = refl
keep_told words given keeping reported.Kept = refl
keep_told words given keeping reported.Freed = refl
keep_told words given keeping reported.Alive = refl
keep_told words given keeping reported.Dead = refl
keep_told words given keeping (reported.Raised owner number) = refl
keep_told words given keeping (reported.Noted owner number) = refl
keep_told words given keeping reported.Faded = refl
keep_told words given keeping reported.Closed = refl
keep_told words given keeping reported.Restored = refl

enter_told : (words : State Numbered) (given kept : ℕ) (keeping : Keeping) (event : WordEvent) → KeepsHeading keeping.heading event (after words (phase.Enter given kept keeping) event)
enter_told words given kept keeping (reported.Loaded owner number) = refl
enter_told words given kept keeping reported.Passed = refl
enter_told words given kept keeping reported.Taken = refl
enter_told words given kept keeping reported.NoSlot = refl
enter_told words given kept keeping reported.Prepared = refl
enter_told words given kept keeping (reported.Swapped number) = refl
enter_told words given kept keeping (reported.Settled owner number) = refl
enter_told words given kept keeping reported.Left = refl
enter_told words given kept keeping reported.Emptied = refl
enter_told words given kept keeping (reported.Buried number) = refl
enter_told words given kept keeping reported.Kept = refl
enter_told words given kept keeping reported.Freed = refl
enter_told words given kept keeping reported.Alive = refl
enter_told words given kept keeping reported.Dead = refl
enter_told words given kept keeping (reported.Raised owner number) = refl
enter_told words given kept keeping (reported.Noted owner number) = refl
enter_told words given kept keeping reported.Faded = refl
enter_told words given kept keeping reported.Closed = refl
enter_told words given kept keeping reported.Restored = refl

release_told : (words : State Numbered) (at : ℕ) (for : Purpose) (head : Heading) → heading_for for ≡ Some head → (event : WordEvent) → KeepsHeading head event (after words (phase.Release at for) event)
release_told words at for head e (reported.Loaded owner number) = past_told head _ for answer.Left e
release_told words at for head e reported.Passed = past_told head _ for answer.Left e
release_told words at for head e reported.Taken = past_told head _ for answer.Left e
release_told words at for head e reported.NoSlot = past_told head _ for answer.Left e
release_told words at for head e reported.Prepared = past_told head _ for answer.Left e
release_told words at for head e (reported.Swapped number) = past_told head _ for answer.Left e
release_told words at for head e (reported.Settled owner number) = past_told head _ for answer.Left e
release_told words at for head e reported.Left = past_told head _ for answer.Left e
release_told words at for head e reported.Emptied = e
release_told words at for head e (reported.Buried number) = past_told head _ for answer.Left e
release_told words at for head e reported.Kept = past_told head _ for answer.Left e
release_told words at for head e reported.Freed = past_told head _ for answer.Left e
release_told words at for head e reported.Alive = past_told head _ for answer.Left e
release_told words at for head e reported.Dead = past_told head _ for answer.Left e
release_told words at for head e (reported.Raised owner number) = past_told head _ for answer.Left e
release_told words at for head e (reported.Noted owner number) = past_told head _ for answer.Left e
release_told words at for head e reported.Faded = past_told head _ for answer.Left e
release_told words at for head e reported.Closed = past_told head _ for answer.Left e
release_told words at for head e reported.Restored = past_told head _ for answer.Left e

bury_told : (words : State Numbered) (at : ℕ) (for : Purpose) (head : Heading) → heading_for for ≡ Some head → (event : WordEvent) → KeepsHeading head event (after words (phase.Bury at for) event)
bury_told words at for head e (reported.Loaded owner number) = past_told head _ for answer.Left e
bury_told words at for head e reported.Passed = past_told head _ for answer.Left e
bury_told words at for head e reported.Taken = past_told head _ for answer.Left e
bury_told words at for head e reported.NoSlot = past_told head _ for answer.Left e
bury_told words at for head e reported.Prepared = past_told head _ for answer.Left e
bury_told words at for head e (reported.Swapped number) = past_told head _ for answer.Left e
bury_told words at for head e (reported.Settled owner number) = past_told head _ for answer.Left e
bury_told words at for head e reported.Left = past_told head _ for answer.Left e
bury_told words at for head e reported.Emptied = past_told head _ for answer.Left e
bury_told words at for head e (reported.Buried number) = e
bury_told words at for head e reported.Kept = past_told head _ for answer.Left e
bury_told words at for head e reported.Freed = past_told head _ for answer.Left e
bury_told words at for head e reported.Alive = past_told head _ for answer.Left e
bury_told words at for head e reported.Dead = past_told head _ for answer.Left e
bury_told words at for head e (reported.Raised owner number) = past_told head _ for answer.Left e
bury_told words at for head e (reported.Noted owner number) = past_told head _ for answer.Left e
bury_told words at for head e reported.Faded = past_told head _ for answer.Left e
bury_told words at for head e reported.Closed = past_told head _ for answer.Left e
bury_told words at for head e reported.Restored = past_told head _ for answer.Left e

fade_told : (words : State Numbered) (at : ℕ) (number : Option ℕ) (for : Purpose) (head : Heading) → heading_for for ≡ Some head → (event : WordEvent) → KeepsHeading head event (after words (phase.Fade at number for) event)
fade_told words at number for head e reported.Closed = e
fade_told words at number for head e event = past_told head event for (gone number) e

under : (words : State Numbered) (at : Phase) (event : WordEvent) (one head : Heading) → Some one ≡ Some head → KeepsHeading one event (after words at event) → KeepsHeading head event (after words at event)
under words at event one head e k = let same : one ≡ head = (let f = e in cc) in subst (λ h. KeepsHeading h event (after words at event)) same k

-- an update under way keeps its header up to its end
pub keeps_head : (words : State Numbered) (at : Phase) (event : WordEvent) (head : Heading) → heading_of at ≡ Some head → KeepsHeading head event (after words at event)
keeps_head words (phase.Load name) event head e = absurd (let wrong = e in cc)
keeps_head words (phase.Look name owner) event head e = absurd (let wrong = e in cc)
keeps_head words (phase.Raise name owner) event head e = absurd (let wrong = e in cc)
keeps_head words (phase.Note name owner) event head e = absurd (let wrong = e in cc)
keeps_head words (phase.Probe version keeping) event head e = under words (phase.Probe version keeping) event keeping.heading head e (probe_told words version keeping event)
keeps_head words (phase.Prepare version keeping) event head e = e
keeps_head words (phase.Swap keeping) event head e = e
keeps_head words (phase.Settle keeping) event head e = under words (phase.Settle keeping) event keeping.heading head e (settle_told words keeping event)
keeps_head words (phase.Keep given keeping) event head e = under words (phase.Keep given keeping) event keeping.heading head e (keep_told words given keeping event)
keeps_head words (phase.Enter given kept keeping) event head e = under words (phase.Enter given kept keeping) event keeping.heading head e (enter_told words given kept keeping event)
keeps_head words (phase.Seek owner seeking) event head e = absurd (let wrong = e in cc)
keeps_head words (phase.Gain owner seeking) event head e = absurd (let wrong = e in cc)
keeps_head words (phase.Release at for) event head e = release_told words at for head e event
keeps_head words (phase.Bury at for) event head e = bury_told words at for head e event
keeps_head words (phase.Fade at number for) event head e = fade_told words at number for head e event
keeps_head words (phase.Reset at number for) event head e = e
keeps_head words (phase.Free at number for) event head e = past_told head event for (gone number) e

-- what a judgement says that is got
abbrev GotBy : Numbered → Got → Option Judged → Type 0
GotBy last given None = Unit {0}
GotBy last given (Some (Code head code)) = given ≡ got_alone head code last.zone
GotBy last given (Some (Makes head version)) = given ≡ got_alone head NoError version.zone

made_if : (last : Numbered) (head : Heading) (zone : List Record) (test : Bool) → is_equal_zone last.zone zone ≡ test
    → GotBy last (got_alone head NoError zone) (if test then Some (Code head NoError) else Some (Makes head (record { number = last.number + 1; zone = zone; changes = Some (changes_between last.zone zone) })))
made_if last head zone true t = ap (got_alone head NoError) (sym ((zones_told last.zone zone).0 t))
made_if last head zone false t = refl

made_got : (last : Numbered) (head : Heading) (o : Option (List Record)) → GotBy last (answered Udp head last.zone o None) (made_of last head o)
made_got last head None = tt
made_got last head (Some zone) = made_if last head zone (is_equal_zone last.zone zone) refl

by_got : (last : Numbered) (update : DynamicUpdate) (code : Option Rcode) → GotBy last (answered Udp (heading_of_update update) last.zone (act last.zone update) code) (judged_by last update code)
by_got last update (Some code) = refl
by_got last update None = made_got last (heading_of_update update) (act last.zone update)

fault_got : (last : Numbered) (head : Heading) (code : Rcode) (test : Bool) → GotBy last (got_alone head code last.zone) (if test then Some (Code head code) else None)
fault_got last head code true = refl
fault_got last head code false = tt

said_got : (last : Numbered) (said : Parsed) → GotBy last (got_for Udp true last.zone said) (judged_said last said)
said_got last parsed.Silent = tt
said_got last (parsed.Fault head code) = fault_got last (header_alone head) code (head.opcode == opcode_UPDATE)
said_got last (parsed.BadOpt head question code dnssec_ok) = fault_got last (heading_of_bad head question dnssec_ok) code (head.opcode == opcode_UPDATE)
said_got last (parsed.Query query) = tt
said_got last (parsed.Update update) = by_got last update (code_of last.zone update true)
said_got last (parsed.NoMemory head) = tt

numbered_got : (last : Numbered) (request : List ℕ) (test : Bool) → GotBy last (got_for Udp true last.zone (reads request)) (if test then judged_said last (reads request) else None)
numbered_got last request true = said_got last (reads request)
numbered_got last request false = tt

judged_got : (last : Numbered) (request : List ℕ) (j : Option Judged) → judged last request ≡ j → GotBy last (got_for Udp true last.zone (reads request)) j
judged_got last request j e = subst (λ o. GotBy last (got_for Udp true last.zone (reads request)) o) e (numbered_got last request (nat_lt (last.number + 1) (2 ^ 64)))

pub told_got : (last : Numbered) (request : List ℕ) (head : Heading) (code : Rcode) → judged last request ≡ Some (Code head code) → got Udp true ForNothing last.zone request ≡ got_alone head code last.zone
unfolding got
told_got last request head code e = judged_got last request (Some (Code head code)) e

pub made_is_got : (last : Numbered) (request : List ℕ) (head : Heading) (version : Numbered) → judged last request ≡ Some (Makes head version) → got Udp true ForNothing last.zone request ≡ got_alone head NoError version.zone
unfolding got
made_is_got last request head version e = judged_got last request (Some (Makes head version)) e
