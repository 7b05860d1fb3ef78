-- The data fields of a `Place`, a `Held` and a `Row`. Assumes `Logic`.
use Rattle.std.proofs.Common.{◌≡◌, T, List, [], ◌∷◌, ◌++◌, refl, ap, ◌∙◌}
use seplogic.Ra.Ura.{Ura}
use mir.Syntax.{Ty, ty_ptr, ty_struct, tcons, tnil}
use mir.Val.{Val, vstruct, vcons, vnil, of_list, has_ty, WT}
use base.Logic.{ent, emp}
use types.Logic.{Logic, sem}
use denote.RattleType.{RattleType}
use denote.Laws.{Is}
use denote.Opens.{Opens}
use denote.Copied.{Struct-Copied}
use denote.RawPtr.{Ptr, block_ptr, null_ptr, ptr_val}
use denote.Shadow.{makes_shadow}
use denote.Struct.Laws.{RawPtr-copy, field_copy}
use denote.Struct.Struct.{Struct}
use denote.Struct.Owning.{shape}
use lib.Dec.{lit<}
use Rattle.core.specs.contracts.marker.PhantomData as marker
use Rattle.raw_slots.specs.contracts.place.Place as place
use Rattle.raw_slots.specs.contracts.place.Held as held
use Rattle.raw_slots.specs.contracts.row.Row as row

-- a pointer and a marker
abbrev pub word : Ptr → Val
word p = vstruct (vcons (ptr_val p) (vcons (vstruct vnil) vnil))

abbrev pub word_ty : Ty
word_ty = ty_struct [] (tcons ty_ptr (tcons (ty_struct [] tnil) tnil))

pub word_good : (p : Ptr) → T (has_ty word_ty (word p)) × WT (word p)
word_good (block_ptr b o) = (tt, (tt, (tt, tt)))
word_good null_ptr = (tt, (record { fits = lit< tt }, (tt, tt)))

-- a pointer alone
abbrev pub lone_word : Ptr → Val
lone_word p = vstruct (vcons (ptr_val p) vnil)

pub lone_good : (p : Ptr) → T (has_ty (ty_struct [] (tcons ty_ptr tnil)) (lone_word p)) × WT (lone_word p)
lone_good (block_ptr b o) = (tt, (tt, tt))
lone_good null_ptr = (tt, (record { fits = lit< tt }, tt))

module _ (R U : RattleType) where
  abbrev pub PlaceData : RattleType
  PlaceData = Struct (shape (place.the_type R U))

  pub place_told : (p : Ptr) (vs : List Val) → Is PlaceData (p, (tt, tt)) vs → vs ≡ word p ∷ []
  place_told p vs is = is.1.0 ∙ ap (λ (ws : List Val). vstruct (of_list (ws ++ (is.0.1.0 ++ []))) ∷ []) is.1.1.0
      ∙ ap (λ (ws : List Val). vstruct (of_list (ptr_val p ∷ (ws ++ []))) ∷ []) is.1.1.1.0.1.0

  pub place_made : {M : Type 1} {𝓤 : Ura M} (𝓛 : Logic 𝓤) (p : Ptr) → ent 𝓤 (emp 𝓤) (sem 𝓛 (PlaceData.own_val (p, (tt, tt)) (word p ∷ [])))
  place_made 𝓛 p = makes_shadow 𝓛 (PlaceData.own_val (p, (tt, tt)) (word p ∷ [])) (λ vss. (tt, (tt, ((λ uss. (tt, tt)), tt))))
      ((ptr_val p ∷ [], (vstruct vnil ∷ [], tt)), (refl, (refl, ((tt, (refl, tt)), tt))))

  abbrev pub HeldData : RattleType
  HeldData = Struct (shape (held.the_type R U))

  pub held_told : (p : Ptr) (vs : List Val) → Is HeldData (p, (tt, tt)) vs → vs ≡ word p ∷ []
  held_told p vs is = is.1.0 ∙ ap (λ (ws : List Val). vstruct (of_list (ws ++ (is.0.1.0 ++ []))) ∷ []) is.1.1.0
      ∙ ap (λ (ws : List Val). vstruct (of_list (ptr_val p ∷ (ws ++ []))) ∷ []) is.1.1.1.0.1.0

  pub held_made : {M : Type 1} {𝓤 : Ura M} (𝓛 : Logic 𝓤) (p : Ptr) → ent 𝓤 (emp 𝓤) (sem 𝓛 (HeldData.own_val (p, (tt, tt)) (word p ∷ [])))
  held_made 𝓛 p = makes_shadow 𝓛 (HeldData.own_val (p, (tt, tt)) (word p ∷ [])) (λ vss. (tt, (tt, ((λ uss. (tt, tt)), tt))))
      ((ptr_val p ∷ [], (vstruct vnil ∷ [], tt)), (refl, (refl, ((tt, (refl, tt)), tt))))

  pub held_opens : {M : Type 1} {𝓤 : Ura M} (𝓛 : Logic 𝓤) → Opens 𝓛 HeldData
  held_opens {M} {𝓤 = 𝓤} 𝓛 = (Struct-Copied 𝓛 (shape (held.the_type R U)) (refl, (refl, tt)) (RawPtr-copy.copied M 𝓤 𝓛, ((field_copy (marker.the_type U) tt).copied M 𝓤 𝓛, tt))).opens

module _ (R : RattleType) where
  abbrev pub RowData : RattleType
  RowData = Struct (shape (row.the_type R))

  pub row_told : (p : Ptr) (vs : List Val) → Is RowData (p, tt) vs → vs ≡ lone_word p ∷ []
  row_told p vs is = is.1.0 ∙ ap (λ (ws : List Val). vstruct (of_list (ws ++ [])) ∷ []) is.1.1.0

  pub row_made : {M : Type 1} {𝓤 : Ura M} (𝓛 : Logic 𝓤) (p : Ptr) → ent 𝓤 (emp 𝓤) (sem 𝓛 (RowData.own_val (p, tt) (lone_word p ∷ [])))
  row_made 𝓛 p = makes_shadow 𝓛 (RowData.own_val (p, tt) (lone_word p ∷ [])) (λ vss. (tt, (tt, tt))) ((ptr_val p ∷ [], tt), (refl, (refl, tt)))
