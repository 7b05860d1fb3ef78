-- A store that is changed to a zone: its journal's frames under another head, and why it isn't changed.
use Rattle.std.proofs.Common.{◌≡◌, ◌≢◌, ℕ, zero, suc, ◌+◌, ◌<◌, ◌≤◌, true, true≢false, List, [], ◌∷◌, ◌++◌, length, take, map, get_or, refl, sym, ap, ◌∙◌, subst, append_assoc, append-nil, length-append, arith, Bor}
use Rattle.std.proofs.lemmas.List.{take_more, take_all, map_push, length-map, length-take, get_or-map}
use Rattle.journal.specs.declared.heads.Head.{Head}
use Rattle.journal.specs.declared.heads.HeadFault.{HeadFault}
use Rattle.journal.specs.Batch.{Messages, batch_of, request_octets}
use Rattle.journal.specs.Frame.{body_limit, framed, frames_of, Fit, IsRead}
use Rattle.journal.specs.Head.{head_of, salt_of, IsHead, IsHeadFault}
use Rattle.journal.specs.Log.{octets_of}
use Rattle.journal.specs.Recovered.{IsOpened}
use Rattle.journal.proofs.HeadLemmas.{one_head, no_fault}
use Rattle.journal.proofs.FramesLemmas.{read_once, frames_push}
use Rattle.dns_name.specs.Name.{is_same}
use Rattle.dns_name.specs.Order.{is_same_equiv}
use Rattle.dns_rdata.specs.Record.{Record}
use Rattle.zone_tree.specs.Zone.{apex_of}
use Rattle.zone_change.specs.declared.fault.ChangeFault.TheVariants.{OtherApex as other_apex, NoRoom, TooLong, NoMemory as lacking}
use Rattle.update_messages.specs.declared.prepare_fault.PrepareFault.{PrepareFault}
use Rattle.update_messages.specs.declared.prepare_fault.PrepareFault.TheVariants.{Change as no_change, TooLarge as large, NoMemory as missing}
use Rattle.update_messages.specs.Prepared.{IsPrepareFault}
use Rattle.store_server.specs.declared.refusal.Refusal.{Refusal}
use Rattle.store_server.specs.declared.refusal.Refusal.TheVariants.{Held, NoJournal, NoText, NoStart, Newer, NoChange, TooLarge, OtherApex, Text, NoMemory, Device}
use Rattle.store_server.specs.Private.{of_prepare, of_again, IsNotAgain}
use Rattle.zone_change.specs.Change.{HasRoom}
use Rattle.store_recovery.specs.declared.fault.StartFault.{StartFault}
use Rattle.store_recovery.specs.declared.fault.StartFault.TheVariants.{Journal, Text as ZoneText, OtherSerial, Update, NoMemory as Starved}
use Rattle.store_recovery.specs.Start.{IsStartFault}
use Rattle.store_server.specs.Started.{IsOwnFault, IsNotTaken}

-- a journal that opens has a head
pub has_head : (journal : List ℕ) (before : Head) (bodies : List (List ℕ)) (rest : List ℕ) (fault : HeadFault) → IsOpened journal before bodies rest → IsHeadFault journal fault → ⊥
has_head journal before bodies rest fault opened wrong =
    no_fault before opened.behind fault opened.begins.is_head (subst (λ (o : List ℕ). IsHeadFault o fault) opened.begins.spelt wrong)

-- and is read in one way
pub read_as : (journal : List ℕ) (before head : Head) (bodies : List (List ℕ)) (rest behind salt : List ℕ) (lent : List (List ℕ)) (left : List ℕ) → IsOpened journal before bodies rest
    → IsHead head × (salt ≡ salt_of head) × (journal ≡ head_of head ++ behind) → IsRead salt 0 behind lent left → lent ≡ bodies
read_as journal before head bodies rest behind salt lent left opened is read =
    let same = one_head head before behind opened.behind is.0 opened.begins.is_head (sym is.2 ∙ opened.begins.spelt) in
    let here : IsRead (salt_of before) 0 opened.behind lent left =
    subst (λ (h : Head). IsRead (salt_of h) 0 opened.behind lent left) same.0
    (subst (λ (o : List ℕ). IsRead (salt_of head) 0 o lent left) same.1 (subst (λ (s : List ℕ). IsRead s 0 behind lent left) is.1 read)) in
    (read_once (salt_of before) 0 opened.behind lent left bodies rest here opened.read).0

-- each body is within the limit
body_short : (number : ℕ) (bodies : List (List ℕ)) (k : ℕ) (d : List ℕ) → Fit number bodies → k < length bodies → length (get_or bodies k d) < body_limit
body_short number [] k d fit within = absurd (omega (arith, within))
body_short number (body ∷ bodies) zero d fit within = fit.0
body_short number (body ∷ bodies) (suc k) d fit within = body_short (number + 1) bodies k d fit.2 (omega (arith, within))

abbrev pub now_of : List (Bor (List ℕ)) → List (List ℕ)
now_of lent = map (λ (body : Bor (List ℕ)). body.now) lent

pub lent_short : (lent : List (Bor (List ℕ))) (k : ℕ) (d : Bor (List ℕ)) → Fit 0 (now_of lent) → k < length lent → length (get_or lent k d).now < body_limit
lent_short lent k d fit within =
    subst (λ (o : List ℕ). length o < body_limit) (get_or-map (λ (body : Bor (List ℕ)). body.now) lent k d [] within)
    (body_short 0 (now_of lent) k [] fit (omega (arith, within, length-map lent (λ (body : Bor (List ℕ)). body.now))))

-- a journal with one frame more
pub octets_push : (head : Head) (bodies : List (List ℕ)) (body : List ℕ) (number : ℕ) → number ≡ length bodies
    → octets_of head (bodies ++ body ∷ []) ≡ octets_of head bodies ++ framed (salt_of head) number body
octets_push head bodies body number is =
    ap (λ (o : List ℕ). head_of head ++ o) (frames_push (salt_of head) number bodies body is)
    ∙ sym (append_assoc (head_of head) (frames_of (salt_of head) 0 bodies) (framed (salt_of head) number body))

-- frames are written, one after the other
pub frame_more : (head : Head) (octets all frame : List ℕ) (lent : List (Bor (List ℕ))) (k : ℕ) (d : Bor (List ℕ)) → k < length lent
    → octets ≡ octets_of head (now_of (take k lent)) → frame ≡ framed (salt_of head) k (get_or lent k d).now → all ≡ octets ++ frame
    → all ≡ octets_of head (now_of (take (k + 1) lent))
frame_more head octets all frame lent k d within so_far framed_is all_is =
    let body : List ℕ = (get_or lent k d).now in
    let more : now_of (take (k + 1) lent) ≡ now_of (take k lent) ++ body ∷ [] =
    ap now_of (take_more lent k d within) ∙ map_push (λ (b : Bor (List ℕ)). b.now) (take k lent) (get_or lent k d) in
    let count : k ≡ length (now_of (take k lent)) = omega (arith, within, length-map (take k lent) (λ (b : Bor (List ℕ)). b.now), length-take k lent) in
    all_is
    ∙ (ap (λ (o : List ℕ). o ++ frame) so_far
    ∙ (ap (λ (o : List ℕ). octets_of head (now_of (take k lent)) ++ o) framed_is
    ∙ (sym (octets_push head (now_of (take k lent)) body k count) ∙ ap (octets_of head) (sym more))))

pub frames_none : (head : Head) (octets : List ℕ) → octets ≡ head_of head → octets ≡ octets_of head []
frames_none head octets is = is ∙ sym (append-nil (head_of head))

pub frames_all : (head : Head) (octets : List ℕ) (lent : List (Bor (List ℕ))) (k : ℕ) (bodies : List (List ℕ)) → octets ≡ octets_of head (now_of (take k lent)) → length lent ≤ k
    → now_of lent ≡ bodies → octets ≡ octets_of head bodies
frames_all head octets lent k bodies so_far end same =
    so_far ∙ ap (octets_of head) (ap now_of (take_all k lent end) ∙ same)

-- the change comes after them, as a batch of its own
pub change_put : (head : Head) (octets all frame body salt : List ℕ) (bodies : List (List ℕ)) (messages : Messages) (number : ℕ)
    → (octets ≡ octets_of head bodies) × (salt ≡ salt_of head) × (number ≡ length bodies) → body ≡ request_octets messages → frame ≡ framed salt number body → all ≡ octets ++ frame
    → all ≡ octets_of head (bodies ++ map batch_of ((messages ∷ []) ∷ []))
change_put head octets all frame body salt bodies messages number under is framed_is all_is =
    let batch : body ≡ batch_of (messages ∷ []) = is ∙ sym (append-nil (request_octets messages)) in
    let one : frame ≡ framed (salt_of head) number (batch_of (messages ∷ [])) =
    framed_is ∙ (ap (λ (s : List ℕ). framed s number body) under.1 ∙ ap (framed (salt_of head) number) batch) in
    all_is
    ∙ (ap (λ (o : List ℕ). o ++ frame) under.0
    ∙ (ap (λ (o : List ℕ). octets_of head bodies ++ o) one
    ∙ sym (octets_push head bodies (batch_of (messages ∷ [])) number under.2)))

-- why no update is made that takes one zone to another of its apex
pub not_prepared : (last zone : List Record) (fault : PrepareFault) (refusal : Refusal) → is_same (apex_of zone) (apex_of last) ≡ true → IsPrepareFault last zone fault
    → refusal ≡ of_prepare fault → IsNotTaken last zone refusal
not_prepared last zone fault refusal same why is = subst (IsNotTaken last zone) (sym is) (as_refusal fault why)
  where
    as_refusal : (f : PrepareFault) → IsPrepareFault last zone f → IsNotTaken last zone (of_prepare f)
    as_refusal (no_change other_apex) other = absurd (true≢false (sym same ∙ (is_same_equiv.symm (apex_of zone) (apex_of last) ∙ other)))
    as_refusal (no_change NoRoom) none = (refl, none)
    as_refusal (no_change TooLong) never = absurd never
    as_refusal (no_change lacking) any = tt
    as_refusal large why = why
    as_refusal missing any = tt

-- want of memory and a device's fault
pub own_taken : (last zone : List Record) (refusal : Refusal) → IsOwnFault refusal → IsNotTaken last zone refusal
own_taken last zone Held own = absurd own
own_taken last zone (NoJournal number) own = absurd own
own_taken last zone (NoText number) own = absurd own
own_taken last zone (NoStart fault) own = absurd own
own_taken last zone (Newer has serial) own = absurd own
own_taken last zone (NoChange fault) own = absurd own
own_taken last zone TooLarge own = absurd own
own_taken last zone (OtherApex has other) own = absurd own
own_taken last zone (Text fault) own = absurd own
own_taken last zone NoMemory own = tt
own_taken last zone (Device fault) own = tt

-- nothing is recovered from the journal that a change gives, which happens only where there is no room
pub again_taken : (text octets : List ℕ) (last zone : List Record) (refusal : Refusal) → IsNotAgain text octets refusal
    → ((fault : StartFault) → IsStartFault text octets fault → fault ≢ Starved → HasRoom last zone → ⊥) → IsNotTaken last zone refusal
again_taken text octets last zone Held none starts = absurd none
again_taken text octets last zone (NoJournal number) none starts = absurd none
again_taken text octets last zone (NoText number) none starts = absurd none
again_taken text octets last zone (NoStart fault) none starts = absurd none
again_taken text octets last zone (Newer has serial) none starts = absurd none
again_taken text octets last zone (NoChange fault) none starts = (none.0, starts none.1.0 none.1.1 none.1.2)
again_taken text octets last zone TooLarge none starts = absurd none
again_taken text octets last zone (OtherApex has other) none starts = absurd none
again_taken text octets last zone (Text fault) none starts = absurd none
again_taken text octets last zone NoMemory none starts = tt
again_taken text octets last zone (Device fault) none starts = tt

-- a fault of a start, as a refusal
pub again_from : (text octets : List ℕ) (fault : StartFault) (refusal : Refusal) → refusal ≡ of_again fault → IsStartFault text octets fault → IsNotAgain text octets refusal
again_from text octets fault refusal is why = subst (IsNotAgain text octets) (sym is) (as_refusal fault why)
  where
    as_refusal : (f : StartFault) → IsStartFault text octets f → IsNotAgain text octets (of_again f)
    as_refusal (Journal damage) why = (refl, (Journal damage, why, λ e. cc e))
    as_refusal (ZoneText fault) why = (refl, (ZoneText fault, why, λ e. cc e))
    as_refusal OtherSerial why = (refl, (OtherSerial, why, λ e. cc e))
    as_refusal (Update place fault) why = (refl, (Update place fault, why, λ e. cc e))
    as_refusal Starved why = tt
