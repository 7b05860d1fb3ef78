-- Messages that are signed one after another.
use Rattle.std.proofs.Common.{◌≡◌, ℕ, false, List, [], ◌∷◌, Option, None, Some, inl, inr, refl, ap, ◌∙◌}
use Rattle.std.specs.Prelude.{option_map}
use Rattle.tsig.specs.Keys.{SharedKey}
use Rattle.tsig.specs.declared.request_tsig.RequestTsig.{RequestTsig}
use Rattle.tsig.specs.declared.stamp.Stamp.{Stamp}
use Rattle.tsig.specs.declared.tsig_error.TsigError.TheVariants.{NoError}
use Rattle.signed_replies.specs.Signed.{stamp_at}
use Rattle.signed_replies.specs.Stream.{SignerState, signer_after, sent_as, sent_by, signed_stream, stream_by, AreSignedInOrder}

-- none are left where none were
pub stream_none : (s : Option SignerState) → stream_by s [] ≡ []
unfolding signed_stream
stream_none None = refl
stream_none (Some s) = refl

-- the first of them, and those after it
pub stream_next : (s : Option SignerState) (plain : List ℕ) (more : List (List ℕ)) → stream_by s (plain ∷ more) ≡ sent_by s plain ∷ stream_by (option_map (λ o. signer_after o plain) s) more
unfolding signed_stream
stream_next None plain more = refl
stream_next (Some s) plain more = refl

-- how the first message of a reply is signed
abbrev pub signer_by : SharedKey → Stamp → RequestTsig → SignerState
signer_by key stamp tsig = record { key = key; stamp = stamp; prior = tsig.mac.items; begun = false }

abbrev pub first_signer : SharedKey → ℕ → RequestTsig → ℕ → SignerState
first_signer key now tsig fudge = signer_by key (record { time = now; fudge = fudge; error = NoError }) tsig

-- of one message
pub signer_of_one : (key : SharedKey) (now : ℕ) (tsig : RequestTsig) (stamp : Stamp) (signer : SignerState) → signer ≡ signer_by key stamp tsig → stamp ≡ stamp_at now → signer ≡ first_signer key now tsig 300
signer_of_one key now tsig stamp signer is stamped = is ∙ ap (λ (s : Stamp). signer_by key s tsig) stamped

-- of some
pub signer_of_many : (key : SharedKey) (now : ℕ) (tsig : RequestTsig) (stamp : Stamp) (signer : SignerState) → signer ≡ signer_by key (record { time = stamp.time; fudge = 14400; error = stamp.error }) tsig → stamp ≡ stamp_at now
    → signer ≡ first_signer key now tsig 14400
signer_of_many key now tsig stamp signer is stamped = is ∙ ap (λ (s : Stamp). signer_by key (record { time = s.time; fudge = 14400; error = s.error }) tsig) stamped

-- no message is signed
pub signed_none : (key : SharedKey) (now : ℕ) (tsig : RequestTsig) (limit : ℕ) → AreSignedInOrder key now tsig limit [] []
unfolding signed_stream
signed_none key now tsig limit = (300, inl refl, refl)

-- one is
pub signed_one : (key : SharedKey) (now : ℕ) (tsig : RequestTsig) (limit : ℕ) (signer : SignerState) (plain sent : List ℕ) → signer ≡ first_signer key now tsig 300
    → sent ≡ sent_as signer plain → AreSignedInOrder key now tsig limit (plain ∷ []) (sent ∷ [])
unfolding signed_stream
signed_one key now tsig limit signer plain sent first is = (300, inl refl, ap (λ l. l ∷ []) is ∙ ap (λ (s : SignerState). sent_as s plain ∷ []) first)

-- some are, one after another
pub signed_many : (key : SharedKey) (now : ℕ) (tsig : RequestTsig) (limit : ℕ) (signer : SignerState) (plains messages : List (List ℕ)) → signer ≡ first_signer key now tsig 14400
    → messages ≡ signed_stream signer plains → AreSignedInOrder key now tsig limit plains messages
signed_many key now tsig limit signer plains messages first is = (14400, inr refl, is ∙ ap (λ (s : SignerState). signed_stream s plains) first)
