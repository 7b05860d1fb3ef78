-- Turns one after another.
use Rattle.std.proofs.Common.{◌≡◌, refl, ℕ, List, [], ◌∷◌, ◌++◌, Option, None, Some, IfSome, sym, ap, ◌∙◌, append_assoc, append-nil}
use Rattle.dns_message.specs.Frame.{frame_of}
use Rattle.requests.specs.Octets.{frames_of}
use Rattle.requests.proofs.TurnLemmas.{grows_itself, grows_more}
use Rattle.tcp_connections.specs.Served.{Knowledge, Extends, none, next, Served}
use Rattle.tcp_connections.specs.Exchange.{Exchange}

pub frames_push : (messages : List (List ℕ)) (message : List ℕ) → frames_of (messages ++ message ∷ []) ≡ frames_of messages ++ frame_of message
frames_push [] message = append-nil (frame_of message)
frames_push (first ∷ messages) message = ap (λ l. frame_of first ++ l) (frames_push messages message) ∙ sym (append_assoc (frame_of first) (frames_of messages) (frame_of message))

pub extends_itself : {T : Type 0} (known : Knowledge T) → Extends known known
extends_itself known = record { asked = grows_itself known.asked; latest = grows_itself known.latest }

pub extends_more : {T : Type 0} (a b c : Knowledge T) → Extends b a → Extends c b → Extends c a
extends_more a b c first then = record { asked = grows_more a.asked b.asked c.asked first.asked then.asked; latest = grows_more a.latest b.latest c.latest first.latest then.latest }

module _ {T : Type 0} (IsReply : Knowledge T → Knowledge T → List ℕ → List (List ℕ) → Type 0) where
  -- no request is answered yet
  pub served_none : (start : Knowledge T) (old : List ℕ × List ℕ) → Served IsReply start old start old
  served_none start old = record { requests = []; octets = []; last = start; answers = none; grown = extends_itself start; input = refl; output = sym (append-nil old.1) }

  -- one request more is answered
  pub served_more : (start seen later : Knowledge T) (old mid new : List ℕ × List ℕ) → Served IsReply start old seen mid → Exchange IsReply seen mid later new → Served IsReply start old later new
  served_more start seen later old mid new s t = record {
    requests = s.requests ++ t.request ∷ [];
    octets = s.octets ++ frames_of t.messages;
    last = later;
    answers = next s.answers s.grown t.grows t.reply refl refl;
    grown = extends_itself later;
    input = s.input ∙ ap (λ l. frames_of s.requests ++ l) t.input ∙ sym (append_assoc (frames_of s.requests) (frame_of t.request) new.0) ∙ ap (λ l. l ++ new.0) (sym (frames_push s.requests t.request));
    output = t.output ∙ ap (λ l. l ++ frames_of t.messages) s.output ∙ append_assoc old.1 s.octets (frames_of t.messages);
  }

  -- what is known once some requests are answered, where the stream tells its octets
  abbrev pub Known : Knowledge T → Option (List ℕ × List ℕ) → Knowledge T → Option (List ℕ × List ℕ) → Type 0
  Known start old seen new = IfSome old (λ o. (mid : List ℕ × List ℕ) × (new ≡ Some mid) × Served IsReply start o seen mid)

  pub known_first : (start : Knowledge T) (old : Option (List ℕ × List ℕ)) → Known start old start old
  known_first start None = tt
  known_first start (Some o) = (o, refl, served_none start o)
