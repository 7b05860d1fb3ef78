-- What is told stays so as more is published, and tickets keep what is told.
use Rattle.std.proofs.Common.{◌≡◌, ℕ, ◌+◌, ◌≤◌, Bool, List, [], ◌∷◌, ◌++◌, length, Option, None, Some, sym, ap, ◌∙◌, subst, inl, inr, append_assoc, append-nil, length-append, arith}
use Rattle.std.specs.Prelude.{slice_get, slice_set}
use Rattle.std.specs.List.{All}
use Rattle.std.proofs.lemmas.List.{length_push}
use Rattle.std.proofs.lemmas.List.Elements.{All-set, All-push, All-weaker}
use Rattle.std.proofs.lemmas.Option.{slice_get_within, get_or_from_slice_get}
use Rattle.dns_rdata.specs.Record.{Record}
use Rattle.dns_rdata.specs.declared.numbers.Rcode.{Rcode}
use Rattle.dns_message.specs.declared.update.Update.{Update}
use Rattle.zone_tree.specs.Version.{Version}
use Rattle.counted_handles.specs.History.{IsHistory}
use Rattle.counted_handles.specs.Ruled.{Begins}
use Rattle.dns_engine.specs.Versions.{IsFirst, IsNext}
use Rattle.dns_engine.specs.Held.{EngineState, IsLatest, state_with}
use Rattle.dns_engine.specs.Chain.{IsPublished}
use Rattle.dns_engine.specs.Outcomes.{IsTold, made, refused, unchanged, full, starved}
use Rattle.zone_server.specs.declared.update_result.UpdateResult.{UpdateResult}
use Rattle.zone_server.specs.declared.update_result.Poll.{Poll}
use Rattle.zone_server.specs.declared.pending_replies.Ticket.{Ticket}
use Rattle.zone_server.specs.declared.pending_replies.Ticket.TheVariants.{Free, Pending, Abandoned, Ready}
use Rattle.zone_server.specs.PendingReplies.{IsFreed, IsOpened, FetchesOf, LeavesOf, ClosesOf, TellsOf}
use Rattle.zone_server.specs.UpdateResult.{IsMadeBehind, IsToldIn, IsDone, IsTicketDone, IsFetched}

module _ (first : List Record) (published more : List Version) (history : IsHistory (IsFirst first) IsNext (published ++ more)) where
  -- a version that is published stays so, and more may stand behind it
  still_published : (version : Version) → IsPublished first published version → IsPublished first (published ++ more) version
  still_published version here = record {
    before = here.before;
    newer = here.newer ++ more;
    history = history;
    place = ap (λ (l : List Version). l ++ more) here.place ∙ append_assoc (here.before ++ version ∷ []) here.newer more;
    number = here.number;
  }

  still_behind : (version : Version) (newer : List Version) (update : Update) (may : Bool) → IsMadeBehind newer version update may → IsMadeBehind (newer ++ more) version update may
  still_behind version newer update may behind zone taken acts changed =
      let next = behind zone taken acts changed in (next.0, next.1 ++ more, ap (λ (l : List Version). l ++ more) next.2, next.3)

  still_told : (version : Version) (newer : List Version) (update : Update) (may : Bool) (code : Rcode) → IsToldIn version newer update may code → IsToldIn version (newer ++ more) update may code
  still_told version newer update may code (inl reported) = inl (reported.0, still_behind version newer update may reported.1)
  still_told version newer update may code (inr failed) = inr failed

  -- what is told about it
  pub done_grows : (done : UpdateResult) → IsDone first published done → IsDone first (published ++ more) done
  unfolding still_published
  done_grows done is = record {
    version = is.version;
    replayed = is.replayed;
    least = is.least;
    here = still_published is.version is.here;
    reported = still_told is.version is.here.newer done.asked.update done.asked.may done.code is.reported;
    own = is.own;
  }

  ticket_grows : (ticket : Ticket) → IsTicketDone first published ticket → IsTicketDone first (published ++ more) ticket
  ticket_grows (Free next) is = tt
  ticket_grows Pending is = tt
  ticket_grows Abandoned is = tt
  ticket_grows (Ready done) is = done_grows done is

  -- and at each ticket
  pub tickets_grow : (tickets : List Ticket) → All (IsTicketDone first published) tickets → All (IsTicketDone first (published ++ more)) tickets
  tickets_grow tickets all = All-weaker (IsTicketDone first published) (IsTicketDone first (published ++ more)) ticket_grows tickets all

-- what an engine has published stays so
tickets_on : (first : List Record) (old new : EngineState) (more : List Version) (tickets : List Ticket) → new.held.published ≡ old.held.published ++ more → IsLatest first new.held.published new.held.last
    → All (IsTicketDone first old.held.published) tickets → All (IsTicketDone first new.held.published) tickets
tickets_on first old new more tickets same latest all =
    let history : IsHistory (IsFirst first) IsNext (old.held.published ++ more) = subst (λ (l : List Version). IsHistory (IsFirst first) IsNext l) same latest.history in
    subst (λ (l : List Version). All (IsTicketDone first l) tickets) (sym same) (tickets_grow first old.held.published more history tickets all)

-- an engine that stays as it was
pub tickets_same : (first : List Record) (old new : EngineState) (tickets : List Ticket) → new ≡ old → All (IsTicketDone first old.held.published) tickets → All (IsTicketDone first new.held.published) tickets
tickets_same first old new tickets same all = subst (λ (s : EngineState). All (IsTicketDone first s.held.published) tickets) (sym same) all

-- an engine that has published one version more
pub tickets_with : (first : List Record) (old new : EngineState) (version : Version) (tickets : List Ticket) → new ≡ state_with old version → IsLatest first new.held.published new.held.last
    → All (IsTicketDone first old.held.published) tickets → All (IsTicketDone first new.held.published) tickets
tickets_with first old new version tickets same latest all = tickets_on first old new (version ∷ []) tickets (ap (λ (s : EngineState). s.held.published) same) latest all

-- an engine that was handed an update
pub tickets_updated : (first : List Record) (old new : EngineState) (update : Update) (may : Bool) (code : Rcode) (tickets : List Ticket) → IsTold old update may code new → IsLatest first new.held.published new.held.last
    → All (IsTicketDone first old.held.published) tickets → All (IsTicketDone first new.held.published) tickets
tickets_updated first old new update may code tickets (made next taken makes noerror grant same) latest all = tickets_with first old new next tickets same latest all
tickets_updated first old new update may code tickets (refused coded same) latest all = tickets_same first old new tickets same all
tickets_updated first old new update may code tickets (unchanged taken acts noerror same) latest all = tickets_same first old new tickets same all
tickets_updated first old new update may code tickets (full last servfail same) latest all = tickets_same first old new tickets same all
tickets_updated first old new update may code tickets (starved taken servfail same) latest all = tickets_same first old new tickets same all

module _ (first : List Record) (published : List Version) where
  freed : (old : List Ticket) (at : ℕ) (new : List Ticket) → IsFreed old at new → All (IsTicketDone first published) old → All (IsTicketDone first published) new
  freed old at new is all = subst (All (IsTicketDone first published)) (sym is.1) (All-set (IsTicketDone first published) old at (Free is.0) tt all)

  stays : (old new : List Ticket) → new ≡ old → All (IsTicketDone first published) old → All (IsTicketDone first published) new
  stays old new is all = subst (All (IsTicketDone first published)) (sym is) all

  puts : (old : List Ticket) (at : ℕ) (ticket : Ticket) (new : List Ticket) → IsTicketDone first published ticket → new ≡ slice_set old at ticket → All (IsTicketDone first published) old → All (IsTicketDone first published) new
  puts old at ticket new done is all = subst (All (IsTicketDone first published)) (sym is) (All-set (IsTicketDone first published) old at ticket done all)

  pub opened : (old : List Ticket) (at : Option ℕ) (new : List Ticket) → IsOpened old at new → All (IsTicketDone first published) old → All (IsTicketDone first published) new
  opened old None new is all = stays old new is all
  opened old (Some at) new (inl is) all = puts old at Pending new tt is.2 all
  opened old (Some at) new (inr is) all = subst (All (IsTicketDone first published)) (sym is.1) (All-push (IsTicketDone first published) old Pending all tt)

  pub fetched : (ticket : Option Ticket) (old : List Ticket) (at : ℕ) (result : Poll) (new : List Ticket) → FetchesOf ticket old at result new → All (IsTicketDone first published) old → All (IsTicketDone first published) new
  fetched (Some (Ready done)) old at result new is all = freed old at new is.1 all
  fetched (Some Pending) old at result new is all = stays old new is.1 all
  fetched (Some Abandoned) old at result new is all = stays old new is.1 all
  fetched (Some (Free next)) old at result new is all = stays old new is.1 all
  fetched None old at result new is all = stays old new is.1 all

  -- what is at a ticket is so
  at_ticket : (tickets : List Ticket) (at : ℕ) (ticket : Ticket) → slice_get tickets at ≡ Some ticket → All (IsTicketDone first published) tickets → IsTicketDone first published ticket
  at_ticket tickets at ticket here all = subst (IsTicketDone first published) (get_or_from_slice_get tickets at ticket ticket here) (all at ticket (slice_get_within tickets at ticket here))

  pub fetched_told : (ticket : Option Ticket) (old : List Ticket) (at : ℕ) (result : Poll) (new : List Ticket) → slice_get old at ≡ ticket → FetchesOf ticket old at result new → All (IsTicketDone first published) old
      → IsFetched first published result
  fetched_told (Some (Ready done)) old at result new here is all = subst (IsFetched first published) (sym is.0) (at_ticket old at (Ready done) here all)
  fetched_told (Some Pending) old at result new here is all = subst (IsFetched first published) (sym is.0) tt
  fetched_told (Some Abandoned) old at result new here is all = subst (IsFetched first published) (sym is.0) tt
  fetched_told (Some (Free next)) old at result new here is all = subst (IsFetched first published) (sym is.0) tt
  fetched_told None old at result new here is all = subst (IsFetched first published) (sym is.0) tt

  pub left : (ticket : Option Ticket) (old : List Ticket) (at : ℕ) (new : List Ticket) → LeavesOf ticket old at new → All (IsTicketDone first published) old → All (IsTicketDone first published) new
  left (Some (Ready done)) old at new is all = freed old at new is all
  left (Some Pending) old at new is all = puts old at Abandoned new tt is all
  left (Some Abandoned) old at new is all = stays old new is all
  left (Some (Free next)) old at new is all = stays old new is all
  left None old at new is all = stays old new is all

  pub closed : (ticket : Option Ticket) (old : List Ticket) (at : ℕ) (new : List Ticket) → ClosesOf ticket old at new → All (IsTicketDone first published) old → All (IsTicketDone first published) new
  closed (Some (Ready done)) old at new is all = stays old new is all
  closed (Some Pending) old at new is all = freed old at new is all
  closed (Some Abandoned) old at new is all = stays old new is all
  closed (Some (Free next)) old at new is all = stays old new is all
  closed None old at new is all = stays old new is all

  pub told_at : (ticket : Option Ticket) (old : List Ticket) (at : ℕ) (done : UpdateResult) (new : List Ticket) → TellsOf ticket old at done new → IsDone first published done → All (IsTicketDone first published) old
      → All (IsTicketDone first published) new
  told_at (Some (Ready other)) old at done new is so all = stays old new is all
  told_at (Some Pending) old at done new is so all = puts old at (Ready done) new so is all
  told_at (Some Abandoned) old at done new is so all = freed old at new is all
  told_at (Some (Free next)) old at done new is so all = stays old new is all
  told_at None old at done new is so all = stays old new is all

-- a list of which all is known is that list
pub all_known : (seen published : List Version) → Begins seen published → length published ≤ length seen → published ≡ seen
all_known seen published begun long = nothing_more begun.0 begun.1 (omega (arith, length-append seen begun.0, ap length begun.1))
  where
    nothing_more : (more : List Version) → seen ++ more ≡ published → length more ≤ 0 → published ≡ seen
    nothing_more [] is none = sym is ∙ append-nil seen
    nothing_more (version ∷ more) is none = absurd (omega arith)

pub latest_length : (first : List Record) (published : List Version) (version : Version) → IsLatest first published version → length published ≡ version.number + 1
latest_length first published version latest = ap length latest.ends ∙ length_push latest.before version ∙ ap (λ n. n + 1) latest.number
