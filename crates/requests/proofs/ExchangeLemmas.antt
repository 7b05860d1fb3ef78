-- Datagrams that are answered one after another.
use Rattle.std.proofs.Common.{◌≡◌, refl, ℕ, ◌+◌, ◌<◌, List, [], ◌∷◌, ◌++◌, length, Option, None, Some, IfSome, inl, inr, sym, ap, ◌∙◌, subst, append_assoc, append-nil, length-append, arith}
use Rattle.rights.specs.declared.rule.Rule.{Rule}
use Rattle.std.specs.declared.net.socket_addr.SocketAddr.{SocketAddr}
use Rattle.serve_core.specs.declared.peer.Peer.{Peer}
use Rattle.serve_core.specs.declared.transport.Transport.TheVariants.{Udp}
use Rattle.requests.specs.Datagrams.{Datagram, Receives, Sends, SendsOrFails, none, sent, failed, count_of}
use Rattle.requests.specs.Exchanged.{RepliesTo, AnswersFrom, Exchanged, TurnMade, TurnsBy, EndsBy}
use Rattle.requests.specs.Exchanged.{none as no_exchange, next}
use Rattle.requests.specs.Datagrams.{by_datagram}
use Rattle.requests.specs.Served.{Learned, Grows}
use Rattle.requests.specs.declared.udp.DatagramsEnd.{DatagramsEnd}
use Rattle.requests.specs.declared.udp.DatagramsEnd.TheVariants.{Done, Device, Spent}
use Rattle.requests.proofs.TurnLemmas.{grows_itself, grows_more}

-- a peer that asks by datagrams is itself as one that does
pub datagram_same : (peer : Peer) → peer.transport ≡ Udp → by_datagram peer ≡ peer
datagram_same peer e = λ i. let own : Peer = record { may_update = peer.may_update; may_transfer = peer.may_transfer; transport = sym e i } in own

count_none : (faults : ℕ) → faults ≡ count_of faults 0
count_none faults = omega arith

count_more : (faults a b mid more : ℕ) → mid ≡ count_of faults a → more ≡ count_of mid b → more ≡ count_of faults (a + b)
count_more faults a b mid more first then = omega arith

pub sends_nothing : (old new : Option (List Datagram × List Datagram)) → new ≡ old → Sends old new []
sends_nothing None new same = tt
sends_nothing (Some o) new same = same ∙ ap (λ l. Some (o.0, l)) (sym (append-nil o.1))

module _ {T : Type 0} (IsReply : Peer → Learned T → Learned T → List ℕ → List (List ℕ) → Type 0) where
  -- a reply of one message
  pub replied_one : (peer : Peer) (seen : Learned T) (request : List ℕ) (from : SocketAddr) (later : Learned T) (old : Option (List Datagram × List Datagram)) (faults : ℕ) (new : Option (List Datagram × List Datagram)) (more : ℕ) (message : List ℕ) → IsReply peer seen later request (message ∷ [])
      → SendsOrFails old faults new more (message, from) → RepliesTo IsReply peer seen request from later old faults new more
  replied_one peer seen request from later old faults new more message is (inl out) = record {
    messages = message ∷ [];
    reply = is;
    datagrams = (message, from) ∷ [];
    failed = 0;
    sent = sent message none;
    output = out.0;
    counted = out.1 ∙ count_none faults;
  }
  replied_one peer seen request from later old faults new more message is (inr not) = record {
    messages = message ∷ [];
    reply = is;
    datagrams = [];
    failed = 1;
    sent = failed message none (omega arith);
    output = sends_nothing old new not.0;
    counted = not.1;
  }

  -- a reply of none
  pub replied_none : (peer : Peer) (seen : Learned T) (request : List ℕ) (from : SocketAddr) (later : Learned T) (old : Option (List Datagram × List Datagram)) (faults : ℕ) → IsReply peer seen later request [] → RepliesTo IsReply peer seen request from later old faults old faults
  replied_none peer seen request from later old faults is = record {
    messages = [];
    reply = is;
    datagrams = [];
    failed = 0;
    sent = none;
    output = sends_nothing old old refl;
    counted = count_none faults;
  }

module _ {T : Type 0} (IsReply : Peer → Learned T → Learned T → List ℕ → List (List ℕ) → Type 0) (rules : List Rule) where
  -- no datagram is answered yet
  pub exchanged_none : (start : Learned T) (old : List Datagram × List Datagram) (faults : ℕ) → Exchanged IsReply rules start old faults 0 start old faults
  exchanged_none start old faults = record {
    received = [];
    datagrams = [];
    failed = 0;
    last = start;
    exchanges = no_exchange;
    grown = grows_itself start;
    input = refl;
    output = sym (append-nil old.1);
    number = refl;
    counted = count_none faults;
  }

  -- one datagram more is answered
  pub exchanged_more : (start seen later : Learned T) (old mid new : List Datagram × List Datagram) (faults done before more : ℕ) → Exchanged IsReply rules start old faults done seen mid before → TurnMade IsReply rules seen mid before later new more
      → Exchanged IsReply rules start old faults (done + 1) later new more
  exchanged_more start seen later old mid new faults done before more s t =
      let one : List Datagram = (t.request, t.from) ∷ [] in
      let long : length (s.received ++ one) ≡ length s.received + length one = length-append s.received one in
      let number : length s.received ≡ done = s.number in
      let only : length one ≡ 1 = refl in
      record {
        received = s.received ++ one;
        datagrams = s.datagrams ++ t.datagrams;
        failed = s.failed + t.failed;
        last = later;
        exchanges = next s.exchanges (grows_more s.last seen t.before s.grown t.begun) t.grows t.asks t.reply t.sent refl refl refl;
        grown = grows_itself later;
        input = s.input ∙ ap (λ l. s.received ++ l) t.input ∙ sym (append_assoc s.received one new.0);
        output = t.output ∙ ap (λ l. l ++ t.datagrams) s.output ∙ append_assoc old.1 s.datagrams t.datagrams;
        number = omega (arith, long, number, only);
        counted = count_more faults s.failed t.failed before more s.counted t.counted;
      }

  exchanged_seen : (start seen later : Learned T) (old new : List Datagram × List Datagram) (faults done more : ℕ) → Exchanged IsReply rules start old faults done seen new more → Grows later seen → Exchanged IsReply rules start old faults done later new more
  exchanged_seen start seen later old new faults done more s grows = record {
    received = s.received;
    datagrams = s.datagrams;
    failed = s.failed;
    last = s.last;
    exchanges = s.exchanges;
    grown = grows_more s.last seen later s.grown grows;
    input = s.input;
    output = s.output;
    number = s.number;
    counted = s.counted;
  }

  -- what is known once some datagrams are answered, where they tell themselves
  abbrev pub Known : Learned T → Option (List Datagram × List Datagram) → ℕ → ℕ → Learned T → Option (List Datagram × List Datagram) → ℕ → Type 0
  Known start old faults done seen new more = IfSome old (λ o. (mid : List Datagram × List Datagram) × (new ≡ Some mid) × Exchanged IsReply rules start o faults done seen mid more)

  pub known_first : (start : Learned T) (old : Option (List Datagram × List Datagram)) (faults : ℕ) → Known start old faults 0 start old faults
  known_first start None faults = tt
  known_first start (Some o) faults = (o, refl, exchanged_none start o faults)

  pub known_more : (start seen later : Learned T) (a b c : Option (List Datagram × List Datagram)) (faults done before more : ℕ) → Known start a faults done seen b before → IfSome b (λ o. TurnsBy IsReply rules None seen o before later c more)
      → Known start a faults (done + 1) later c more
  known_more start seen later None b c faults done before more known turns = tt
  known_more start seen later (Some o) b c faults done before more known turns =
      let t = subst (λ m. IfSome m (λ o. TurnsBy IsReply rules None seen o before later c more)) known.1 turns in
      (t.0, t.1, exchanged_more start seen later o known.0 t.0 faults done before more known.2 t.2)

  ends_by : (end : DatagramsEnd) (start seen later : Learned T) (old mid : List Datagram × List Datagram) (new : Option (List Datagram × List Datagram)) (faults done before more most : ℕ) → done < most
      → Exchanged IsReply rules start old faults done seen mid before → TurnsBy IsReply rules (Some end) seen mid before later new more → EndsBy IsReply rules end start old faults most later new more
  ends_by Done start seen later old mid new faults done before more most small s t = absurd t
  ends_by Device start seen later old mid new faults done before more most small s t =
      (mid, done, before, t.0, small, subst (λ (l : Learned T). Exchanged IsReply rules start old faults done l mid before) (sym t.1) s, t.2)
  ends_by Spent start seen later old mid new faults done before more most small s t =
      let got = subst (λ l. Exchanged IsReply rules start old faults done later (l, mid.1) before) t.2.1 (exchanged_seen start seen later old mid faults done before s t.0) in
      ((t.2.0, mid.1), done, t.1, t.2.2, small, subst (λ (n : ℕ). Exchanged IsReply rules start old faults done later (t.1 ∷ t.2.0, mid.1) n) (sym t.3) got)

  pub known_ends : (end : DatagramsEnd) (start seen later : Learned T) (a b c : Option (List Datagram × List Datagram)) (faults done before more most : ℕ) → done < most → Known start a faults done seen b before
      → IfSome b (λ o. TurnsBy IsReply rules (Some end) seen o before later c more) → IfSome a (λ o. EndsBy IsReply rules end start o faults most later c more)
  known_ends end start seen later None b c faults done before more most small known turns = tt
  known_ends end start seen later (Some o) b c faults done before more most small known turns =
      ends_by end start seen later o known.0 c faults done before more most small known.2 (subst (λ m. IfSome m (λ o. TurnsBy IsReply rules (Some end) seen o before later c more)) known.1 turns)

  -- as many are answered as may be
  pub known_done : (start seen : Learned T) (a b : Option (List Datagram × List Datagram)) (faults done more most : ℕ) → done ≡ most → Known start a faults done seen b more → IfSome a (λ o. EndsBy IsReply rules Done start o faults most seen b more)
  known_done start seen None b faults done more most all known = tt
  known_done start seen (Some o) b faults done more most all known =
      (known.0, known.1, subst (λ (n : ℕ). Exchanged IsReply rules start o faults n seen known.0 more) all known.2)

  -- what is held back is sent
  ends_flushed : (end : DatagramsEnd) (start later : Learned T) (o : List Datagram × List Datagram) (c d : Option (List Datagram × List Datagram)) (faults most more all : ℕ) → d ≡ c → IfSome c (λ _. all ≡ more)
      → EndsBy IsReply rules end start o faults most later c more → EndsBy IsReply rules end start o faults most later d all
  ends_flushed Done start later o c d faults most more all same counted e =
      (e.0, same ∙ e.1, subst (λ (n : ℕ). Exchanged IsReply rules start o faults most later e.0 n) (sym (subst (λ m. IfSome m (λ _. all ≡ more)) e.1 counted)) e.2)
  ends_flushed Device start later o c d faults most more all same counted e =
      (e.0, e.1, e.2, same ∙ e.3, e.4, e.5, subst (λ m. IfSome m (λ _. all ≡ more)) e.3 counted ∙ e.6)
  ends_flushed Spent start later o c d faults most more all same counted e =
      (e.0, e.1, e.2, same ∙ e.3, e.4, subst (λ (n : ℕ). Exchanged IsReply rules start o faults e.1 later (e.2 ∷ e.0.0, e.0.1) n) (sym (subst (λ m. IfSome m (λ _. all ≡ more)) e.3 counted)) e.5)

  pub all_flushed : (end : DatagramsEnd) (start later : Learned T) (a c d : Option (List Datagram × List Datagram)) (faults most more all : ℕ) → d ≡ c → IfSome c (λ _. all ≡ more)
      → IfSome a (λ o. EndsBy IsReply rules end start o faults most later c more) → IfSome a (λ o. EndsBy IsReply rules end start o faults most later d all)
  all_flushed end start later None c d faults most more all same counted e = tt
  all_flushed end start later (Some o) c d faults most more all same counted e = ends_flushed end start later o c d faults most more all same counted e

  -- a datagram that is received and answered
  pub turn_made : (seen later : Learned T) (request : List ℕ) (from : SocketAddr) (a b c : Option (List Datagram × List Datagram)) (faults mid more : ℕ) → Receives a b (request, from) → mid ≡ faults → AnswersFrom IsReply rules seen request from later b mid c more
      → IfSome a (λ o. TurnsBy IsReply rules None seen o faults later c more)
  turn_made seen later request from None b c faults mid more gives same answers = tt
  turn_made seen later request from (Some o) b c faults mid more gives same answers =
      let r = answers.5 in
      let out = subst (λ m. Sends m c r.datagrams) gives.2 r.output in (
        (gives.0, o.1 ++ r.datagrams),
        out,
        record {
          request = request;
          from = from;
          peer = answers.0;
          messages = r.messages;
          datagrams = r.datagrams;
          failed = r.failed;
          before = answers.1;
          begun = answers.2;
          grows = answers.3;
          asks = answers.4;
          reply = r.reply;
          sent = r.sent;
          input = gives.1;
          output = refl;
          counted = r.counted ∙ ap (λ (n : ℕ). count_of n r.failed) same;
        },
      )

  -- a datagram that is received and gets no reply, since no version can be loaded
  pub turn_spent : (seen later : Learned T) (datagram : Datagram) (a b c : Option (List Datagram × List Datagram)) (faults mid more : ℕ) → Grows later seen → Receives a b datagram → mid ≡ faults → c ≡ b → more ≡ mid
      → IfSome a (λ o. TurnsBy IsReply rules (Some Spent) seen o faults later c more)
  turn_spent seen later datagram None b c faults mid more grows gives first same then = tt
  turn_spent seen later datagram (Some o) b c faults mid more grows gives first same then =
      (grows, datagram, subst (λ m. Receives (Some o) m datagram) (sym same) gives, then ∙ first)

  -- no datagram is received
  pub turn_fails : (seen : Learned T) (a b : Option (List Datagram × List Datagram)) (faults more : ℕ) → b ≡ a → more ≡ count_of faults 1 → IfSome a (λ o. TurnsBy IsReply rules (Some Device) seen o faults seen b more)
  turn_fails seen None b faults more same counted = tt
  turn_fails seen (Some o) b faults more same counted = (same, refl, counted)
