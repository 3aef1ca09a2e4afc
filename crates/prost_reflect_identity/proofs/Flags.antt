-- An identity in memory is its flag: what is owned tells which words these are, and the words are all that is to be owned.
use Rattle.std.proofs.Common.{◌≡◌, List, [], ◌∷◌, ◌++◌, refl, ◌∙◌, Bool}
use seplogic.Ra.Ura.{Ura}
use mir.Syntax.{Ty, ty_bool, ty_struct, tcons, tnil}
use mir.Val.{Val, vbool, vstruct, vcons, vnil, of_list}
use base.Logic.{ent, emp}
use base.Fml.{Fml}
use types.Logic.{Logic, sem}
use denote.RattleType.{RattleType}
use denote.Builtin.{bool}
use denote.Shadow.{shadow, makes_shadow}
use denote.Struct.Struct.{Struct}
use Rattle.core.proofs.cell.Inside.{Good}

-- the struct of these fields, whatever its name: what it owns depends on the fields alone
abbrev unnamed : List RattleType → RattleType
unnamed fields = Struct (record { name = []; args = []; types = []; fields = fields })

abbrev pub flag_type : Ty
flag_type = ty_struct [] (tcons ty_bool (tcons (ty_struct [] tnil) tnil))

abbrev pub flag_word : Bool → Val
flag_word flag = vstruct (vcons (vbool flag) (vcons (vstruct vnil) vnil))

abbrev pub owns_flag : Bool → List Val → Fml
owns_flag flag = (unnamed (bool ∷ unnamed [] ∷ [])).own_val (flag, (tt, tt))

pub flag_shown : (flag : Bool) (words : List Val) → shadow (owns_flag flag words) → words ≡ flag_word flag ∷ []
flag_shown flag words shown = shown.1.0 ∙ (λ i. vstruct (of_list (shown.1.1.0 i ++ (shown.1.1.1.0.1.0 i ++ []))) ∷ [])

pub flag_made : {M : Type 1} {𝓤 : Ura M} (𝓛 : Logic 𝓤) (flag : Bool) → ent 𝓤 (emp 𝓤) (sem 𝓛 (owns_flag flag (flag_word flag ∷ [])))
flag_made 𝓛 flag = makes_shadow 𝓛 (owns_flag flag (flag_word flag ∷ [])) (λ _. (tt, (tt, ((λ _. (tt, tt)), tt))))
    ((vbool flag ∷ [], (vstruct vnil ∷ [], tt)), (refl, (refl, ((tt, (refl, tt)), tt))))

pub flag_typed : (flag : Bool) → Good flag_type (flag_word flag)
flag_typed flag = (tt, (tt, (tt, tt)))
