-- The version that an owner claims.
use Rattle.std.proofs.Common.{◌≡◌, sym, ap, ◌∙◌, Option, None, Some}
use Rattle.counted_handles.specs.declared.view.Mark.{Mark}
use Rattle.counted_handles.specs.Ruled.{stake_of, version_of}
use Rattle.counted_handles.specs.Owned.{Claim, IsHeld}

abbrev got_or : {A : Type 0} → A → Option A → A
got_or a None = a
got_or a (Some x) = x

-- what two options are of is one where they are
pub one_some : {A : Type 0} (a b : A) → Some a ≡ Some b → a ≡ b
one_some a b e = ap (got_or a) e

module _ {T : Type 0} (mark : Mark T) (held : Option (Claim T)) (is : IsHeld mark held) (claim : Claim T) (same : held ≡ Some claim) where
  pub its : is.it ≡ claim
  its = one_some is.it claim (sym is.held_is ∙ same)

  pub its_stake : claim.stake ≡ stake_of mark
  its_stake = ap (λ (h : Claim T). h.stake) (sym its) ∙ is.stake_is

  pub its_value : claim.value ≡ Some (version_of mark)
  its_value = ap (λ (h : Claim T). h.value) (sym its) ∙ is.value_is
