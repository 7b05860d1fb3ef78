-- What becomes of a connection over several shares, of it and of others.
use Rattle.std.proofs.Common.{◌≡◌, ◌≢◌, refl, ℕ, List, Option, None, Some, Result, Ok, Err, OnOk, IfErr, option_map, sym, ◌∙◌, subst, inl, inr}
use Rattle.std.proofs.lemmas.Bool.{cases_eq}
use Rattle.std.specs.declared.net.socket_addr.SocketAddr.{SocketAddr}
use Rattle.tcp_connections.specs.Served.{Knowledge, Extends}
use Rattle.tcp_connections.specs.Requests.{EachGrows}
use Rattle.tcp_connections.proofs.TurnLemmas.{extends_more}
use Rattle.requests.specs.declared.stream_end.StreamEnd.{StreamEnd}
use Rattle.tcp_connections.specs.Going.{Keeps, Goes, Stops}
use Rattle.tcp_connections.specs.Kept.{Kept, told_by}
use Rattle.tcp_connections.specs.StreamOctets.{Stays, EndsTold}
use Rattle.tcp_connections.proofs.StreamOctetLemmas.{writes_itself, writes_more}
use Rattle.tcp_connections.proofs.GoingLemmas.{goes_seen, goes_more, goes_stays, stops_more, stops_told}
use Rattle.tcp_connections.proofs.BegunLemmas.{begun_more}
use Rattle.tcp_connections.specs.Connections.{Seen, told_of, HasGone, HasEnded, OwnServed}

-- what follows from what holds where a result is Ok, and where it is Err
pub ok_follows : {A E P Q : Type 0} (result : Result A E) → (P → Q) → OnOk result P → OnOk result Q
ok_follows (Ok value) step holds = step holds
ok_follows (Err fault) step holds = tt

pub err_follows : {A E : Type 0} {P Q : E → Type 0} (result : Result A E) → ((fault : E) → P fault → Q fault) → IfErr result P → IfErr result Q
err_follows (Ok value) step holds = tt
err_follows (Err fault) step holds = step fault holds

module _ {T : Type 0} (IsReply : SocketAddr → Knowledge T → Knowledge T → List ℕ → List (List ℕ) → Type 0) where
  -- a connection isn't served, and maybe more is known
  pub own_same : (now : ℕ) (seen later : Knowledge T) (connection : Option Seen) → Extends later seen → OwnServed IsReply now seen connection later connection
  own_same now seen later None grows = tt
  own_same now seen later (Some a) grows = record {
    from = refl;
    group = refl;
    window = refl;
    goes = goes_seen (IsReply a.from) seen later (told_of a) grows;
    written = writes_itself a.octets;
    begun = inr (refl, refl);
  }

  gone_more : (now : ℕ) (seen mid later : Knowledge T) (a b c : Seen) → HasGone IsReply now seen a mid b → HasGone IsReply now mid b later c → HasGone IsReply now seen a later c
  gone_more now seen mid later a b c first then = record {
    from = then.from ∙ first.from;
    group = then.group ∙ first.group;
    window = then.window ∙ first.window;
    goes = goes_more (IsReply a.from) seen mid later (told_of a) (told_of b) (told_of c) first.goes (subst (λ (from : SocketAddr). Goes (IsReply from) mid (told_of b) later (told_of c)) first.from then.goes);
    written = writes_more a.octets b.octets c.octets first.written then.written;
    begun = begun_more now a.kept.passed a.begun b.kept.passed b.begun c.kept.passed c.begun first.begun then.begun;
  }

  ended_more : (now : ℕ) (seen mid later : Knowledge T) (a b : Seen) → HasGone IsReply now seen a mid b → HasEnded IsReply mid b later → HasEnded IsReply seen a later
  ended_more now seen mid later a b first then = record {
    end = then.end;
    known = then.known;
    octets = then.octets;
    grown = then.grown;
    stops = stops_more (IsReply a.from) then.end seen mid then.known (told_of a) (told_of b) then.octets first.goes (subst (λ (from : SocketAddr). Stops (IsReply from) then.end mid (told_of b) then.known then.octets) first.from then.stops);
    written = writes_more a.octets b.octets then.octets first.written then.written;
  }

  ended_seen : (seen mid later : Knowledge T) (a : Seen) → Extends later mid → HasEnded IsReply seen a mid → HasEnded IsReply seen a later
  ended_seen seen mid later a grows first = record {
    end = first.end;
    known = first.known;
    octets = first.octets;
    grown = extends_more first.known mid later first.grown grows;
    stops = first.stops;
    written = first.written;
  }

  -- one share behind the other
  pub own_more : (now : ℕ) (seen mid later : Knowledge T) (a b c : Option Seen) → Extends later mid → OwnServed IsReply now seen a mid b → OwnServed IsReply now mid b later c → OwnServed IsReply now seen a later c
  own_more now seen mid later None None None grows first then = tt
  own_more now seen mid later None None (Some c) grows first then = absurd then
  own_more now seen mid later None (Some b) c grows first then = absurd first
  own_more now seen mid later (Some a) None None grows first then = ended_seen seen mid later a grows first
  own_more now seen mid later (Some a) None (Some c) grows first then = absurd then
  own_more now seen mid later (Some a) (Some b) None grows first then = ended_more now seen mid later a b first then
  own_more now seen mid later (Some a) (Some b) (Some c) grows first then = gone_more now seen mid later a b c first then

  module _ {L : Type 0} (seen_as : L → Seen) where
    -- the connection under a key goes on
    pub own_gone : (now : ℕ) (seen later : Knowledge T) (old new : Option L) (a b : L) → Some a ≡ old → new ≡ Some b → HasGone IsReply now seen (seen_as a) later (seen_as b) → OwnServed IsReply now seen (option_map seen_as old) later (option_map seen_as new)
    own_gone now seen later old new a b was is gone =
        subst (λ (n : Option L). OwnServed IsReply now seen (option_map seen_as old) later (option_map seen_as n)) (sym is) (subst (λ (o : Option L). OwnServed IsReply now seen (option_map seen_as o) later (Some (seen_as b))) was gone)

    -- the connection under a key has ended
    pub own_ended : (now : ℕ) (seen later : Knowledge T) (old new : Option L) (a : L) → Some a ≡ old → new ≡ None → HasEnded IsReply seen (seen_as a) later → OwnServed IsReply now seen (option_map seen_as old) later (option_map seen_as new)
    own_ended now seen later old new a was is ended =
        subst (λ (n : Option L). OwnServed IsReply now seen (option_map seen_as old) later (option_map seen_as n)) (sym is) (subst (λ (o : Option L). OwnServed IsReply now seen (option_map seen_as o) later None) was ended)

    -- the connection under one key more is served
    pub own_each : (now : ℕ) (seen mid later : ℕ → Knowledge T) (old before after : ℕ → Option L) (key : ℕ) → EachGrows later mid → ((k : ℕ) → OwnServed IsReply now (seen k) (option_map seen_as (old k)) (mid k) (option_map seen_as (before k)))
        → OwnServed IsReply now (mid key) (option_map seen_as (before key)) (later key) (option_map seen_as (after key)) → ((other : ℕ) → other ≢ key → after other ≡ before other) → (k : ℕ) → OwnServed IsReply now (seen k) (option_map seen_as (old k)) (later k) (option_map seen_as (after k))
    own_each now seen mid later old before after key grows so_far own others = λ k.
        let here : OwnServed IsReply now (mid k) (option_map seen_as (before k)) (later k) (option_map seen_as (after k)) = elim (cases_eq k key) [
          | inl same ↦ subst (λ (j : ℕ). OwnServed IsReply now (mid j) (option_map seen_as (before j)) (later j) (option_map seen_as (after j))) (sym same) own
          | inr differs ↦ subst (λ (o : Option L). OwnServed IsReply now (mid k) (option_map seen_as (before k)) (later k) (option_map seen_as o)) (sym (others k differs)) (own_same now (mid k) (later k) (option_map seen_as (before k)) (grows k))
        ] in
        own_more now (seen k) (mid k) (later k) (option_map seen_as (old k)) (option_map seen_as (before k)) (option_map seen_as (after k)) (grows k) (so_far k) here

module _ {T : Type 0} (IsReply : Knowledge T → Knowledge T → List ℕ → List (List ℕ) → Type 0) where
  -- a connection goes on, or ends, once it is turned to
  pub goes_as : (seen known later : Knowledge T) (a b : Option (List ℕ × List ℕ)) → Extends known seen → Goes IsReply known a later b → Goes IsReply seen a later b
  goes_as seen known later a b grows goes = goes_more IsReply seen known later a a b (goes_seen IsReply seen known a grows) goes

  pub stops_as : (end : StreamEnd) (seen known later : Knowledge T) (a b : Option (List ℕ × List ℕ)) → Extends known seen → Stops IsReply end known a later b → Stops IsReply end seen a later b
  stops_as end seen known later a b grows stops = stops_more IsReply end seen known later a a b (goes_seen IsReply seen known a grows) stops

  -- requests are answered, and octets are then moved; or the connection ends
  pub goes_turned : (key own : ℕ) (seen later : ℕ → Knowledge T) (k m : Kept) (a b : Option (List ℕ × List ℕ)) → own ≡ key → Keeps IsReply (seen own) k (later own) m → Stays (told_by m a) b → Goes IsReply (seen key) (told_by k a) (later key) b
  goes_turned key own seen later k m a b here keeps stays =
      let kept : Goes IsReply (seen key) (told_by k a) (later key) (told_by m a) = subst (λ (n : ℕ). Goes IsReply (seen n) (told_by k a) (later n) (told_by m a)) here (keeps a) in
      goes_more IsReply (seen key) (later key) (later key) (told_by k a) (told_by m a) b kept (goes_stays IsReply (later key) (told_by m a) b stays)

  pub stops_turned : (end : StreamEnd) (key own : ℕ) (seen later : ℕ → Knowledge T) (k m : Kept) (a b : Option (List ℕ × List ℕ)) → own ≡ key → Keeps IsReply (seen own) k (later own) m → EndsTold end (told_by m a) b → Stops IsReply end (seen key) (told_by k a) (later key) b
  stops_turned end key own seen later k m a b here keeps ends =
      let kept : Goes IsReply (seen key) (told_by k a) (later key) (told_by m a) = subst (λ (n : ℕ). Goes IsReply (seen n) (told_by k a) (later n) (told_by m a)) here (keeps a) in
      stops_told IsReply end (seen key) (later key) (told_by k a) (told_by m a) b kept ends
