-- The machine values of what is handed out.
use Rattle.std.proofs.Common.{◌≡◌, ℤ, List, [], ◌∷◌, ◌++◌, refl, ◌∙◌, lit<, w32}
use seplogic.Ra.Ura.{Ura}
use mir.Syntax.{ty_int, ty_ptr, ty_struct, tcons, tnil}
use mir.Val.{Val, vint, vstruct, vcons, vnil, of_list, of_z}
use mir.ValLaws.{of_z_fits}
use Rattle.std.proofs.ResultValues.{and_tt}
use base.Logic.{ent, emp}
use base.Fml.{Fml}
use types.Logic.{Logic, sem}
use denote.Builtin.{i32}
use denote.Laws.{Is}
use denote.Signed.{sint_vals}
use denote.RawPtr.{Ptr, RawPtr, block_ptr, null_ptr, ptr_val}
use denote.Shadow.{shadow, makes_shadow}
use denote.Struct.Struct.{Struct}
use Rattle.std.proofs.cell.Inside.{Good}

pub ptr_typed : (p : Ptr) → Good ty_ptr (ptr_val p)
ptr_typed (block_ptr b o) = (tt, tt)
ptr_typed null_ptr = (tt, record { fits = lit< tt })

abbrev pub word : Ptr → ℤ → Val
word p n = vstruct (vcons (ptr_val p) (vcons (vint w32 (of_z w32 n)) vnil))

abbrev pub word_own : Ptr → ℤ → List Val → Fml
word_own p n = (Struct (record { name = []; args = []; types = []; fields = RawPtr ∷ i32 ∷ [] })).own_val (p, (n, tt))

module _ (p : Ptr) (n : ℤ) where
  pub word_told : (vs : List Val) → shadow (word_own p n vs) → (vs ≡ word p n ∷ []) × Is i32 n (sint_vals w32 n)
  word_told vs s = (s.1.0 ∙ (λ i. vstruct (of_list (s.1.1.0 i ++ (s.1.1.1.0.0 i ++ []))) ∷ []), (refl, s.1.1.1.0.1))

  pub word_made : {M : Type 1} {𝓤 : Ura M} (𝓛 : Logic 𝓤) → Is i32 n (sint_vals w32 n) → ent 𝓤 (emp 𝓤) (sem 𝓛 (word_own p n (word p n ∷ [])))
  word_made 𝓛 f = makes_shadow 𝓛 (word_own p n (word p n ∷ [])) (λ _. (tt, (tt, ((tt, tt), tt)))) ((ptr_val p ∷ [], (sint_vals w32 n, tt)), (refl, (refl, ((refl, f.1), tt))))

  pub word_typed : Is i32 n (sint_vals w32 n) → Good (ty_struct [] (tcons ty_ptr (tcons (ty_int w32) tnil))) (word p n)
  word_typed f = (and_tt _ ((ptr_typed p).0), ((ptr_typed p).1, (of_z_fits w32 n (record { sfits = f.1 }), tt)))
