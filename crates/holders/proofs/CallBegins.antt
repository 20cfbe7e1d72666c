-- A call begins: its body starts with cells for what was handed over and for its result; and which of them end with the call.
use Rattle.std.proofs.Common.{◌≡◌, refl, sym, ap, subst, arith, append_assoc, ℕ, suc, ◌≤◌, Bool, true, List, [], ◌∷◌, ◌++◌}
use Rattle.std.proofs.Common.{length}
use Rattle.std.specs.Prelude.{map, nat_eq, Option, Some, None}
use Rattle.std.proofs.lemmas.Bool.{eqb-true, and_parts}
use Rattle.std.proofs.lemmas.Option.{none-some, same_Some}
use Rattle.nim_types.specs.Types.{Facts}
use Rattle.nim_types.specs.Forms.{Form, form_of}
use Rattle.nim_program.specs.Program.{Declared, Param, Body}
use Rattle.nim_program.specs.Folds.{param_places, if_declared}
use Rattle.nim_program.specs.Numbering.{follow, numbers_of}
use Rattle.nim_program.specs.Scopes.{Placed, placed}
use Rattle.nim_program.specs.Typed.{param_declared, type_of_place}
use Rattle.nim_meaning.specs.Values.{Value, Slot, Holds, Stands, Standing, Made, Location, at_base, default_of}
use Rattle.nim_meaning.specs.State.{World}
use Rattle.nim_meaning.specs.Here.{Here}
use Rattle.nim_meaning.specs.Meaning.{result_slots}
use Rattle.holders.specs.Owned.{Full, IsName, HasBlocksAlone}
use Rattle.holders.specs.Territory.{Owner, Among, first_owner, later_owner}
use Rattle.holders.specs.Handing.{UnderWay}
use Rattle.holders.specs.Running.{Region}
use Rattle.holders.specs.Called.{param_cell, ParamsEnd, no_params, own_param, other_param, Result, gives_none, gives_one}
use Rattle.holders.specs.Entering.{Handed, nothing_more, a_value, a_name, own_cells}
use Rattle.holders.specs.Claimed.{body_region}
use Rattle.holders.specs.Procedures.{form_given, Arrives, none_arrive, value_arrives, cell_arrives, constant_arrives}
use Rattle.holders.proofs.Owning.{has_stays}
use Rattle.holders.proofs.PlainRows.{none_clear}
use Rattle.holders.proofs.ElementLists.{blank_has}
use Rattle.holders.proofs.Working.{among_second, without_second}
use Rattle.holders.proofs.FrameOfCall.{begun, own_at, FromNumber, slot_first, slots_next, name_there, own_first, name_first}
use Rattle.holders.proofs.Spots.{SpotsOf, no_spots, spots_own, spots_name, spots_constant}

-- the forms of parameters, and of a result
abbrev pub forms_if : Facts → Option Declared → List Form
forms_if facts None = []
forms_if facts (Some place) = form_of facts place.of ∷ []

abbrev pub forms_of : Facts → List Param → Option Declared → List Form
forms_of facts [] result = forms_if facts result
forms_of facts (param ∷ params) result = form_of facts param.place.of ∷ forms_of facts params result

abbrev pub places_of : List Param → Option Declared → List Placed
places_of params result = map placed (param_declared params ++ if_declared result)

abbrev pub result_cell : Facts → (level : ℕ) → Declared → Owner
result_cell facts level place = record { form = form_of facts place.of; at = at_base (Standing level place.number) }

abbrev pub result_cells : Facts → (level : ℕ) → Option Declared → List Owner
result_cells facts level None = []
result_cells facts level (Some place) = result_cell facts level place ∷ []

-- they are numbered from a number on
abbrev pub Follow : ℕ → List Param → Option Declared → Type 0
Follow n params result = follow n (numbers_of (param_places params ++ if_declared result)) ≡ true

follow_first : (n : ℕ) (param : Param) (params : List Param) (result : Option Declared) → Follow n (param ∷ params) result → n ≡ param.place.number
follow_first n param params result e =
    eqb-true n param.place.number
    (and_parts (nat_eq n param.place.number) (follow (suc n) (numbers_of (param_places params ++ if_declared result))) e).0

follow_next : (n : ℕ) (param : Param) (params : List Param) (result : Option Declared) → Follow n (param ∷ params) result → Follow (suc n) params result
follow_next n param params result e =
    (and_parts (nat_eq n param.place.number) (follow (suc n) (numbers_of (param_places params ++ if_declared result))) e).1

follow_result : (n : ℕ) (place : Declared) → Follow n [] (Some place) → n ≡ place.number
follow_result n place e = eqb-true n place.number (and_parts (nat_eq n place.number) true e).0

abbrev pub IfAlone : Facts → Option Declared → Type 0
IfAlone facts None = Unit {0}
IfAlone facts (Some place) = HasBlocksAlone (form_of facts place.of)

-- what the caller gets
pub result_so : (here : Here) (r : Option Declared) → here.result ≡ r →
    Result here (result_cells here.facts here.level r) (form_given here.facts (type_of_place r))
result_so here None e = gives_none e
result_so here (Some place) e = gives_one place e

module _ (here : Here) (kept : ℕ → Bool) (gs : List Owner) (blocks : List ℕ) (world : World) (count : ℕ) (body : Body) (slots0 : List Slot)
    (frames : length world.frames ≡ here.level) where
  abbrev B : World
  B = begun world here.facts body slots0 here.level frames

  abbrev Own : ℕ → Bool
  Own = own_at world here.facts body slots0 here.level frames

  abbrev From_number : ℕ → List Slot → Type 0
  From_number n rest = FromNumber world here.facts body slots0 here.level frames n rest

  abbrev Come : List Param → List Slot → List ℕ → ℕ → Type 0
  Come params slots given top = Arrives here.facts kept gs blocks world count params slots given top

  abbrev results : List Slot
  results = result_slots here.facts body.result

  abbrev cells : ℕ → List Param → List Slot → List Owner
  cells n params slots = own_cells here.level n (forms_of here.facts params body.result) (slots ++ results)

  own_slot : (n : ℕ) (x : Value) (rest : List Slot) → From_number n (Holds x ∷ rest) → Own n ≡ true
  own_slot n x rest h = own_first world here.facts body slots0 here.level frames n x rest h

  next : (n : ℕ) (x : Slot) (rest : List Slot) → From_number n (x ∷ rest) → From_number (suc n) rest
  next n x rest h = slots_next world here.facts body slots0 here.level frames n x rest h

  name_at : (n : ℕ) (l : Location) (rest : List Slot) → body.first ≤ n → From_number n (Stands l ∷ rest) → (m : ℕ) → n ≡ m →
      IsName B.frames here.level m l
  name_at n l rest le h m e =
      subst (λ k. IsName B.frames here.level k l) e
      (name_there world here.facts body slots0 here.level frames n l le (slot_first world here.facts body slots0 here.level frames n (Stands l) rest h))

  not_own : (n : ℕ) (l : Location) (rest : List Slot) → From_number n (Stands l ∷ rest) → (m : ℕ) → n ≡ m → Own m ≡ true → ⊥
  not_own n l rest h m e o = name_first world here.facts body slots0 here.level frames n l rest h (subst (λ k. Own k ≡ true) (sym e) o)

  -- ---- positions

  result_spots : (r : Option Declared) (n : ℕ) → Follow n [] r →
      SpotsOf here.facts kept B here.level (own_cells here.level n (forms_if here.facts r) (result_slots here.facts r)) gs (map placed (if_declared r)) count
      count
  result_spots None n f = record { rs = []; spots = no_spots; part = tt; within = tt; least = omega arith }
  result_spots (Some place) n f =
      let none : SpotsOf here.facts kept B here.level [] gs [] count count =
      record { rs = []; spots = no_spots; part = tt; within = tt; least = omega arith } in
      subst (λ m. SpotsOf here.facts kept B here.level (record { form = form_of here.facts place.of; at = at_base (Standing here.level m) } ∷ []) gs
      (placed place ∷ []) count count) (sym (follow_result n place f)) (spots_own (placed place) none)

  pub spots_so : {params : List Param} {slots : List Slot} {given : List ℕ} {top : ℕ} (n : ℕ) → body.first ≤ n → Come params slots given top →
      Follow n params body.result → From_number n (slots ++ results) →
      SpotsOf here.facts kept B here.level (cells n params slots) gs (places_of params body.result) count top
  spots_so n le none_arrive f h = result_spots body.result n f
  spots_so n le (value_arrives {param = param} {params = params} {x = x} {slots = slots} {top = top} u more apart) f h =
      subst (λ m. SpotsOf here.facts kept B here.level
      (record { form = form_of here.facts param.place.of; at = at_base (Standing here.level m) } ∷ cells (suc n) params slots) gs
      (placed param.place ∷ places_of params body.result) count top) (sym (follow_first n param params body.result f))
      (spots_own (placed param.place)
      (spots_so (suc n) (omega (arith, le)) more (follow_next n param params body.result f) (next n (Holds x) (slots ++ results) h)))
  spots_so n le (cell_arrives {param = param} {params = params} {l = l} {slots = slots} i e more) f h =
      spots_name (placed param.place) (name_at n l (slots ++ results) le h param.place.number (follow_first n param params body.result f)) i e
      (spots_so (suc n) (omega (arith, le)) more (follow_next n param params body.result f) (next n (Stands l) (slots ++ results) h))
  spots_so n le (constant_arrives {param = param} {params = params} {v = v} {slots = slots} is_kept has more) f h =
      spots_constant (placed param.place) is_kept
      (name_at n (at_base (Made v)) (slots ++ results) le h param.place.number (follow_first n param params body.result f))
      (has_stays world B (λ k x m is. elim m [ ]) has)
      (spots_so (suc n) (omega (arith, le)) more (follow_next n param params body.result f) (next n (Stands (at_base (Made v))) (slots ++ results) h))

  -- ---- what is handed over, and the result

  handed_result : (r : Option Declared) → IfAlone here.facts r → Handed gs blocks world (forms_if here.facts r) (result_slots here.facts r) []
  handed_result None alone = nothing_more
  handed_result (Some place) alone =
      let u : UnderWay (form_of here.facts place.of) (default_of here.facts place.of) gs blocks world = record {
        given = [];
        has = blank_has world Full (form_of here.facts place.of) alone;
        distinct = tt;
        strange = λ k m n. elim m [ ];
        clear = none_clear gs;
      } in
      a_value u nothing_more (λ k m n. elim m [ ])

  pub handed_so : {params : List Param} {slots : List Slot} {given : List ℕ} {top : ℕ} → IfAlone here.facts body.result → Come params slots given top →
      Handed gs blocks world (forms_of here.facts params body.result) (slots ++ results) given
  handed_so alone none_arrive = handed_result body.result alone
  handed_so alone (value_arrives u more apart) = a_value u (handed_so alone more) apart
  handed_so alone (cell_arrives i e more) = a_name (handed_so alone more)
  handed_so alone (constant_arrives is_kept has more) = a_name (handed_so alone more)

  -- ---- what ends

  result_same : (r : Option Declared) (n : ℕ) → Follow n [] r →
      own_cells here.level n (forms_if here.facts r) (result_slots here.facts r) ≡ result_cells here.facts here.level r
  result_same None n f = refl
  result_same (Some place) n f =
      ap (λ (m : ℕ). record { form = form_of here.facts place.of; at = at_base (Standing here.level m) } ∷ []) (follow_result n place f)

  abbrev R : Region
  R = body_region here.level Own (λ n. true)

  abbrev the_result : List Owner
  the_result = result_cells here.facts here.level body.result

  abbrev Ending : List Param → List Owner → List Owner → Type 0
  Ending params before after = ParamsEnd R here B params before after

  pub ends_so : {params : List Param} {slots : List Slot} {given : List ℕ} {top : ℕ} (before : List Owner) (n : ℕ) → body.first ≤ n →
      Come params slots given top → Follow n params body.result → From_number n (slots ++ results) →
      Ending params (before ++ cells n params slots) (before ++ the_result)
  ends_so before n le none_arrive f h =
      subst (λ (os : List Owner). Ending [] (before ++ os) (before ++ the_result)) (sym (result_same body.result n f)) no_params
  ends_so before n le (value_arrives {param = param} {params = params} {x = x} {slots = slots} u more apart) f h =
      let e = follow_first n param params body.result f in
      let c : Owner = param_cell here param in
      let rest : List Owner = cells (suc n) params slots in
      let one = ends_so (before ++ c ∷ []) (suc n) (omega (arith, le)) more (follow_next n param params body.result f)
      (next n (Holds x) (slots ++ results) h) in
      let two = subst (λ (os : List Owner). Ending params os ((before ++ c ∷ []) ++ the_result)) (append_assoc before (c ∷ []) rest) one in
      let three = subst (λ (os : List Owner). Ending params (before ++ c ∷ rest) os) (append_assoc before (c ∷ []) the_result) two in
      let own : Own param.place.number ≡ true = subst (λ m. Own m ≡ true) e (own_slot n x (slots ++ results) h) in
      let i : Among (before ++ c ∷ the_result) c = among_second before first_owner in
      let four = subst (λ (os : List Owner). Ending (param ∷ params) (before ++ c ∷ rest) os) (without_second before (first_owner {o = c} {os = the_result}))
      (own_param three own i) in
      subst (λ m. Ending (param ∷ params) (before ++ record { form = form_of here.facts param.place.of; at = at_base (Standing here.level m) } ∷ rest)
      (before ++ the_result)) (sym e) four
  ends_so before n le (cell_arrives {param = param} {params = params} {l = l} {slots = slots} i e more) f h =
      let same = follow_first n param params body.result f in
      other_param
      (ends_so before (suc n) (omega (arith, le)) more (follow_next n param params body.result f) (next n (Stands l) (slots ++ results) h))
      (not_own n l (slots ++ results) h param.place.number same) (name_at n l (slots ++ results) le h param.place.number same)
  ends_so before n le (constant_arrives {param = param} {params = params} {v = v} {slots = slots} is_kept has more) f h =
      let same = follow_first n param params body.result f in
      other_param
      (ends_so before (suc n) (omega (arith, le)) more (follow_next n param params body.result f) (next n (Stands (at_base (Made v))) (slots ++ results) h))
      (not_own n (at_base (Made v)) (slots ++ results) h param.place.number same)
      (name_at n (at_base (Made v)) (slots ++ results) le h param.place.number same)

  -- ---- the result's place

  result_there : (r : Option Declared) (n : ℕ) (place : Declared) → r ≡ Some place → Follow n [] r → From_number n (result_slots here.facts r) →
      (Own place.number ≡ true) × Among (own_cells here.level n (forms_if here.facts r) (result_slots here.facts r)) (result_cell here.facts here.level place)
  result_there None n place e f h = absurd (none-some place e)
  result_there (Some p) n place e f h =
      let same = follow_result n p f in
      subst (λ (q : Declared). (Own q.number ≡ true)
      × Among (record { form = form_of here.facts p.of; at = at_base (Standing here.level n) } ∷ []) (result_cell here.facts here.level q))
      (same_Some p place e) (
        subst (λ m. Own m ≡ true) same (own_slot n (default_of here.facts p.of) [] h),
        subst (λ m. Among (record { form = form_of here.facts p.of; at = at_base (Standing here.level n) } ∷ [])
            (record { form = form_of here.facts p.of; at = at_base (Standing here.level m) })) same first_owner,
      )

  pub result_place : {params : List Param} {slots : List Slot} {given : List ℕ} {top : ℕ} (n : ℕ) (place : Declared) → body.result ≡ Some place →
      Come params slots given top → Follow n params body.result → From_number n (slots ++ results) →
      (Own place.number ≡ true) × Among (cells n params slots) (result_cell here.facts here.level place)
  result_place n place e none_arrive f h = result_there body.result n place e f h
  result_place n place e (value_arrives {param = param} {params = params} {x = x} {slots = slots} u more apart) f h =
      let r = result_place (suc n) place e more (follow_next n param params body.result f) (next n (Holds x) (slots ++ results) h) in (r.0, later_owner r.1)
  result_place n place e (cell_arrives {param = param} {params = params} {l = l} {slots = slots} i q more) f h =
      result_place (suc n) place e more (follow_next n param params body.result f) (next n (Stands l) (slots ++ results) h)
  result_place n place e (constant_arrives {param = param} {params = params} {v = v} {slots = slots} is_kept has more) f h =
      result_place (suc n) place e more (follow_next n param params body.result f) (next n (Stands (at_base (Made v))) (slots ++ results) h)

  -- ---- how many

  result_count : (r : Option Declared) → length (result_slots here.facts r) ≡ length (map placed (if_declared r))
  result_count None = refl
  result_count (Some place) = refl

  pub counts_so : {params : List Param} {slots : List Slot} {given : List ℕ} {top : ℕ} → Come params slots given top →
      length (slots ++ results) ≡ length (places_of params body.result)
  counts_so none_arrive = result_count body.result
  counts_so (value_arrives u more apart) = ap suc (counts_so more)
  counts_so (cell_arrives i e more) = ap suc (counts_so more)
  counts_so (constant_arrives is_kept has more) = ap suc (counts_so more)
