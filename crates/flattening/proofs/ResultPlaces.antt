-- The place of kind Result among the places of a body is that of its result, and the first that has it.
use Rattle.std.proofs.Common.{◌≡◌, ℕ, zero, suc, Bool, true, false, List, [], ◌∷◌, ◌++◌, Option, Some, None, refl, sym, ap, ◌∙◌}
use Rattle.std.specs.Prelude.{if◌then◌else◌}
use Rattle.nim_types.specs.Types.{Ty, same}
use Rattle.nim_types.specs.Table.{type_at}
use Rattle.nim_types.proofs.ForCallers.{same_sound, same_refl}
use Rattle.nim_program.specs.declared.program.Mode.{Mode}
use Rattle.nim_program.specs.Program.{Declared, Param, Body}
use Rattle.nim_program.specs.Folds.{lists, total_of, own_places}
use Rattle.nim_meaning.specs.Values.{Slot, Holds, default_of}
use Rattle.nim_meaning.specs.Meaning.{result_slots}
use Rattle.flat_code.specs.declared.place.PlaceKind.{PlaceKind}
use Rattle.flat_code.specs.declared.place.PlaceKind.TheVariants as K
use Rattle.flat_code.specs.declared.place.FlatPlace.{FlatPlace}
use Rattle.flat_code.specs.Fits.{is_declared}
use Rattle.flat_code.specs.Scene.{Known}
use Rattle.flat_code.specs.Codes.{if_result, result_in}
use Rattle.flattening.specs.Numbering.{type_number}
use Rattle.flattening.specs.Places.{own_declared, param_places, result_places, block_places, body_places}
use Rattle.flattening.proofs.Declared.{is_block, Likes, block_like}
use Rattle.flattening.proofs.Parts.{Each}
use Rattle.flattening.proofs.PlaceNumbers.{block_numbers}
use Rattle.flattening.proofs.Simple.{never}

-- ---- types by number

found_or : (t : Ty) (ts : List Ty) (ty : Ty) (i : ℕ) → ty ≡ type_at (t ∷ ts) i → ((j : ℕ) → ty ≡ type_at ts j → type_at ts (type_number ts ty) ≡ ty) →
    (b : Bool) → same t ty ≡ b → type_at (t ∷ ts) (if b then zero else suc (type_number ts ty)) ≡ ty
found_or t ts ty i e rest true s = same_sound t ty s
found_or t ts ty zero e rest false s =
    let h : true ≡ false = sym (same_refl t) ∙ ap (same t) (sym e) ∙ s in
    absurd cc
found_or t ts ty (suc i) e rest false s = rest i e

-- a type of the table has a number by which it is found
pub listed : (ts : List Ty) (ty : Ty) (i : ℕ) → ty ≡ type_at ts i → type_at ts (type_number ts ty) ≡ ty
listed [] ty i e = sym e
listed (t ∷ ts) ty i e = found_or t ts ty i e (listed ts ty) (same t ty) refl

-- ---- places among which none is a result

temporary_slots : (kind : PlaceKind) (slots rest : List Slot) → is_declared kind ≡ false → if_result kind slots rest ≡ rest
temporary_slots K.Result slots rest h = never (sym h)
temporary_slots kind slots rest h = refl

block_slots : (kind : PlaceKind) (slots rest : List Slot) → is_block kind ≡ true → if_result kind slots rest ≡ rest
block_slots K.Result slots rest h = never h
block_slots kind slots rest h = refl

module _ (known : Known) where
  none_temporary : (ps : List FlatPlace) → Each (λ (p : FlatPlace). is_declared p.kind ≡ false) ps → result_in known ps ≡ []
  none_temporary [] h = refl
  none_temporary (p ∷ ps) h = temporary_slots p.kind _ (result_in known ps) h.0 ∙ none_temporary ps h.1

  none_declared : (types : List Ty) (ps rest : List FlatPlace) (ds : List Declared) → Likes types ps ds → result_in known rest ≡ [] →
      result_in known (ps ++ rest) ≡ []
  none_declared types [] rest ds h e = e
  none_declared types (p ∷ ps) rest [] h e = absurd h
  none_declared types (p ∷ ps) rest (d ∷ ds) h e = block_slots p.kind _ (result_in known (ps ++ rest)) h.0.block ∙ none_declared types ps rest ds h.1 e

-- ---- the result

module _ (known : Known) (modes : (proc position : ℕ) → Mode) (sinks : List ℕ) where
  -- the place of a result as the program has it
  slots_of : (params : List Param) (result : Option Declared) (rest : List FlatPlace) →
      ((place : Declared) → result ≡ Some place → type_at known.types (type_number known.types place.of) ≡ place.of) → result_in known rest ≡ [] →
      result_in known (param_places known.types known.facts modes sinks params ++ (result_places known.types known.facts modes result ++ rest))
      ≡ result_slots known.facts result
  slots_of [] None rest same e = e
  slots_of [] (Some place) rest same e = ap (λ ty. Holds (default_of known.facts ty) ∷ []) (same place refl)
  slots_of (param ∷ params) result rest same e = slots_of params result rest same e

  pub result_is : (globals : List Declared) (params : List Param) (body : Body) →
      ((place : Declared) → body.result ≡ Some place → type_at known.types (type_number known.types place.of) ≡ place.of) →
      result_in known (body_places known.types known.facts modes sinks globals params body) ≡ result_slots known.facts body.result
  result_is globals params body same =
      let temporaries = block_places known.types known.facts modes body.stmts 0 in
      let none = none_temporary known temporaries (block_numbers known.types known.facts modes body.stmts 0).undeclared in
      slots_of params body.result (total_of lists (own_declared known.types known.facts modes globals) body.stmts ++ temporaries) same
      (none_declared known known.types (total_of lists (own_declared known.types known.facts modes globals) body.stmts) temporaries
      (total_of lists own_places body.stmts) (block_like known.types known.facts modes globals body.stmts) none)
