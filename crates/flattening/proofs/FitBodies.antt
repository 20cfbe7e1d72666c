-- The places of a body: its parameters and its result come first, and each place in scope is found by its number.
use Rattle.std.proofs.Common.{◌≡◌, ℕ, suc, ◌+◌, inl, inr, Bool, true, false, List, [], ◌∷◌, ◌++◌, Option, Some, None, refl, sym, ap, ap₂, ◌∙◌, subst}
use Rattle.std.proofs.Common.{append_assoc, arith}
use Rattle.std.specs.Prelude.{nat_eq, nat_le, ◌&&◌, ◌||◌, if◌then◌else◌, map, length}
use Rattle.std.proofs.lemmas.Bool.{and_parts, and_from, eqb-true, eq-eqb}
use Rattle.nim_types.specs.Types.{Ty, Facts}
use Rattle.nim_types.specs.Table.{type_at}
use Rattle.nim_program.specs.declared.nodes.TheConstants.{MOST_NODES}
use Rattle.nim_program.specs.declared.program.Mode.{Mode}
use Rattle.nim_program.specs.declared.program.Mode.TheVariants as M
use Rattle.nim_program.specs.Program.{Declared, Param, Body, Proc}
use Rattle.nim_program.specs.Folds.{lists, total_of, own_places, if_declared}
use Rattle.nim_program.specs.Folds as folds
use Rattle.nim_program.specs.Numbering as numbering
use Rattle.nim_program.specs.Scopes.{Placed, placed, look}
use Rattle.nim_program.specs.Typed.{own_types, param_declared, type_of_place}
use Rattle.nim_program.specs.Uses.{use_for}
use Rattle.nim_meaning.specs.Here.{is_hooked}
use Rattle.nim_meaning.specs.Shapes.{is_lent, is_sink, mode_of, mode_in}
use Rattle.flat_code.specs.declared.place.PlaceKind.{PlaceKind}
use Rattle.flat_code.specs.declared.place.PlaceKind.TheVariants as K
use Rattle.flat_code.specs.declared.place.FlatPlace.{FlatPlace}
use Rattle.flat_code.specs.Scene.{Known}
use Rattle.flat_code.specs.Fits.{Taken, Signature, is_lent_by, is_value, is_location, is_declared, is_own, place_named, place_type, if_type_of, taken_by}
use Rattle.flat_code.specs.Fits.{given_by, result_at}
use Rattle.flat_code.specs.Fits.{params_at, results_at, and_param, and_number, and_result, or_result}
use Rattle.flat_code.specs.Fits.{is_var, follow, are_within, same_place}
use Rattle.flat_code.specs.Leads.{fills_kind, stands_kind, is_filled, is_stood, may_fill, may_stand}
use Rattle.flattening.specs.Formed.{IsListed}
use Rattle.flattening.specs.Numbering.{type_number}
use Rattle.flattening.specs.Places.{taken_as, kind_of_param, of_declared, own_declared, param_places, result_places, block_places, body_places}
use Rattle.flattening.specs.StmtLines.{number_of}
use Rattle.flattening.proofs.Declared.{is_block, block_own, block_declared, declared_type, Likes, block_like, block_listed, numbers, Member, member_first}
use Rattle.flattening.proofs.Declared.{member_second}
use Rattle.flattening.proofs.Declared.{found_by, rise_within}
use Rattle.flattening.proofs.Declaring.{declares}
use Rattle.flattening.proofs.StoodPlaces.{Mark, marks_of, stood_by, AllMarked, all_marked, all_own, rise_behind}
use Rattle.flattening.proofs.FitParts.{never}
use Rattle.flattening.proofs.FitParts as parts
use Rattle.flattening.proofs.Numbered.{named_past, named_behind, Owns}
use Rattle.flattening.proofs.Parts.{Each, both}
use Rattle.flattening.proofs.PlaceNumbers.{block_numbers}

-- ---- what isn't a parameter or a result

abbrev pub is_other : PlaceKind → Bool
is_other (K.Param mode) = false
is_other K.Result = false
is_other kind = true

block_other : (kind : PlaceKind) → is_block kind ≡ true → is_other kind ≡ true
block_other (K.Param mode) h = never h
block_other K.Result h = never h
block_other kind h = refl

temporary_other : (kind : PlaceKind) → is_declared kind ≡ false → is_other kind ≡ true
temporary_other (K.Param mode) h = never (sym h)
temporary_other K.Result h = never (sym h)
temporary_other kind h = refl

abbrev pub Others : List FlatPlace → Type 0
Others = Each (λ (p : FlatPlace). is_other p.kind ≡ true)

no_number : (kind : PlaceKind) (n : ℕ) (rest : List ℕ) → is_other kind ≡ true → (and_number kind n rest ≡ rest) × (and_result kind n rest ≡ rest)
no_number (K.Param mode) n rest h = never h
no_number K.Result n rest h = never h
no_number kind n rest h = (refl, refl)

no_param : (facts : Facts) (kind : PlaceKind) (ty : Ty) (rest : List Taken) → is_other kind ≡ true → and_param facts kind ty rest ≡ rest
no_param facts (K.Param mode) ty rest h = never h
no_param facts K.Result ty rest h = never h
no_param facts kind ty rest h = refl

no_result : {A : Type 0} (kind : PlaceKind) (x : A) (rest : Option A) → is_other kind ≡ true → or_result kind x rest ≡ rest
no_result (K.Param mode) x rest h = never h
no_result K.Result x rest h = never h
no_result kind x rest h = refl

params_none : (ps : List FlatPlace) → Others ps → params_at ps ≡ []
params_none [] h = refl
params_none (p ∷ ps) h = (no_number p.kind p.number (params_at ps) h.0).0 ∙ params_none ps h.1

results_none : (ps : List FlatPlace) → Others ps → results_at ps ≡ []
results_none [] h = refl
results_none (p ∷ ps) h = (no_number p.kind p.number (results_at ps) h.0).1 ∙ results_none ps h.1

module _ (known : Known) where
  takes_none : (ps : List FlatPlace) → Others ps → taken_by known ps ≡ []
  takes_none [] h = refl
  takes_none (p ∷ ps) h = no_param known.facts p.kind (place_type known p) (taken_by known ps) h.0 ∙ takes_none ps h.1

  gives_none : (ps : List FlatPlace) → Others ps → given_by known ps ≡ None
  gives_none [] h = refl
  gives_none (p ∷ ps) h = no_result p.kind (place_type known p) (given_by known ps) h.0 ∙ gives_none ps h.1

  result_none : (ps : List FlatPlace) → Others ps → result_at known ps ≡ None
  result_none [] h = refl
  result_none (p ∷ ps) h = no_result p.kind p.number (result_at known ps) h.0 ∙ result_none ps h.1

not_temporary : (kind : PlaceKind) → is_declared kind ≡ true → (is_value kind ≡ false) × (is_location kind ≡ false)
not_temporary K.Temp h = never h
not_temporary K.Counter h = never h
not_temporary K.Location h = never h
not_temporary K.Within h = never h
not_temporary kind h = (refl, refl)

-- ---- parameters and the result, before others

abbrev numbers_of : List Declared → List ℕ
numbers_of ds = map (λ (d : Declared). d.number) ds

module _ (types : List Ty) (facts : Facts) (modes : (proc position : ℕ) → Mode) (sinks : List ℕ) where
  pub head_numbers : (params : List Param) (result : Option Declared) (others : List FlatPlace) → Others others →
      params_at (param_places types facts modes sinks params ++ (result_places types facts modes result ++ others))
      ++ results_at (param_places types facts modes sinks params ++ (result_places types facts modes result ++ others))
      ≡ numbers_of (folds.param_places params ++ if_declared result)
  head_numbers [] None others h = ap₂ (λ xs ys. xs ++ ys) (params_none others h) (results_none others h)
  head_numbers [] (Some d) others h = ap₂ (λ xs ys. xs ++ d.number ∷ ys) (params_none others h) (results_none others h)
  head_numbers (p ∷ params) result others h = ap (λ ns. p.place.number ∷ ns) (head_numbers params result others h)

  one_result : (params : List Param) (result : Option Declared) (others : List FlatPlace) → Others others →
      results_at (param_places types facts modes sinks params ++ (result_places types facts modes result ++ others)) ≡ numbers_of (if_declared result)
  one_result [] None others h = results_none others h
  one_result [] (Some d) others h = ap (λ ns. d.number ∷ ns) (results_none others h)
  one_result (p ∷ params) result others h = one_result params result others h

  at_most_one : (result : Option Declared) → nat_le (length (numbers_of (if_declared result))) 1 ≡ true
  at_most_one None = refl
  at_most_one (Some d) = refl

  abbrev known : Known
  known = record { types = types; facts = facts }

  abbrev Listed : List Declared → Type 0
  Listed = Each (λ (d : Declared). IsListed types d.of)

  -- what parameters take, under the plan
  abbrev mode_at : Param → Mode
  mode_at p = taken_as p.mode (mode_of sinks p)

  abbrev pub taken_of : Param → Taken
  taken_of p = record {
    by_location = is_var (mode_at p) || is_lent_by (mode_at p) (is_hooked facts p.place.of);
    written = is_var (mode_at p);
    of = p.place.of;
  }

  abbrev pub takes_of : List Param → List Taken
  takes_of [] = []
  takes_of (p ∷ params) = taken_of p ∷ takes_of params

  pub takes : (params : List Param) (result : Option Declared) (others : List FlatPlace) → Others others → Listed (param_declared params) →
      taken_by known (param_places types facts modes sinks params ++ (result_places types facts modes result ++ others)) ≡ takes_of params
  takes [] None others h listed = takes_none known others h
  takes [] (Some d) others h listed = takes_none known others h
  takes (p ∷ params) result others h listed =
      ap₂
      (λ ty rest. record { by_location = is_var (mode_at p) || is_lent_by (mode_at p) (is_hooked facts ty); written = is_var (mode_at p); of = ty } ∷ rest)
      listed.0 (takes params result others h listed.1)

  pub gives : (params : List Param) (result : Option Declared) (others : List FlatPlace) → Others others → Listed (if_declared result) →
      given_by known (param_places types facts modes sinks params ++ (result_places types facts modes result ++ others)) ≡ type_of_place result
  gives [] None others h listed = gives_none known others h
  gives [] (Some d) others h listed = ap Some listed.0
  gives (p ∷ params) result others h listed = gives params result others h listed

  pub returns : (params : List Param) (result : Option Declared) (others : List FlatPlace) → Others others →
      same_place (number_of result) (result_at known (param_places types facts modes sinks params ++ (result_places types facts modes result ++ others))) ≡ true
  returns [] None others h = ap (same_place None) (result_none known others h)
  returns [] (Some d) others h = eq-eqb d.number d.number refl
  returns (p ∷ params) result others h = returns params result others h

  -- ---- arguments go by the modes of parameters

  none_lent : (hooked : Bool) → false ≡ hooked && false
  none_lent true = refl
  none_lent false = refl

  all_lent : (hooked : Bool) → hooked ≡ hooked && true
  all_lent true = refl
  all_lent false = refl

  by_value : (declared : Mode) (sink hooked : Bool) → is_var declared ≡ false →
      is_var (taken_as declared (if sink then M.Sink else declared)) || is_lent_by (taken_as declared (if sink then M.Sink else declared)) hooked
      ≡ hooked && is_lent (use_for (if sink then M.Sink else declared))
  by_value M.Plain true hooked h = none_lent hooked
  by_value M.Plain false hooked h = all_lent hooked
  by_value M.Sink true hooked h = none_lent hooked
  by_value M.Sink false hooked h = none_lent hooked
  by_value M.Var sink hooked h = never (sym h)

  unwritten : (declared : Mode) (sink : Bool) → is_var declared ≡ false → is_var (taken_as declared (if sink then M.Sink else declared)) ≡ false
  unwritten M.Plain true h = refl
  unwritten M.Plain false h = refl
  unwritten M.Sink true h = refl
  unwritten M.Sink false h = refl
  unwritten M.Var sink h = never (sym h)

  by_path : (declared planned : Mode) (hooked : Bool) → is_var declared ≡ true →
      is_var (taken_as declared planned) || is_lent_by (taken_as declared planned) hooked ≡ true
  by_path M.Plain planned hooked h = never h
  by_path M.Sink planned hooked h = never h
  by_path M.Var planned hooked h = refl

  module _ (procs : List Proc) (globals : List Placed) (sigs : List Signature) (start whole : List FlatPlace) (stands_for : ℕ → Bool) where
    is_taken : (p : Param) → parts.IsTaken types facts modes procs globals sigs start whole stands_for (mode_of sinks p) p (taken_of p)
    is_taken p = record {
      of = refl;
      by_path = λ h. by_path p.mode (mode_of sinks p) (is_hooked facts p.place.of) h;
      by_value = λ h. by_value p.mode (is_sink sinks p.place.number) (is_hooked facts p.place.of) h;
      kept = λ h. unwritten p.mode (is_sink sinks p.place.number) h;
    }

    pub are_taken : (proc i : ℕ) (params : List Param) → ((j : ℕ) → modes proc (j + i) ≡ mode_in sinks params j) →
        parts.AreTaken types facts modes procs globals sigs start whole stands_for proc i params (takes_of params)
    are_taken proc i [] same = tt
    are_taken proc i (p ∷ params) same = (
      subst (λ mode. parts.IsTaken types facts modes procs globals sigs start whole stands_for mode p (taken_of p)) (sym (ap (modes proc) at_first ∙ same 0))
          (is_taken p),
      are_taken proc (suc i) params (λ j. ap (modes proc) (next j) ∙ same (suc j)),
    )
      where
        at_first : i ≡ 0 + i
        at_first = omega arith

        next : (j : ℕ) → j + suc i ≡ suc j + i
        next j = omega arith

-- numbers one after another
pub followed : (from : ℕ) (ns : List ℕ) → numbering.follow from ns ≡ true → follow from ns ≡ true
followed from [] h = refl
followed from (n ∷ ns) h =
    let k = and_parts (nat_eq from n) (numbering.follow (suc from) ns) h in
    and_from _ _ (eq-eqb n from (sym (eqb-true from n k.0))) (followed (suc from) ns k.1)

-- ---- a body

module _ (types : List Ty) (facts : Facts) (modes : (proc position : ℕ) → Mode) (sinks : List ℕ) (globals : List Declared) (params : List Param)
    (body : Body) where
  abbrev known' : Known
  known' = record { types = types; facts = facts }

  abbrev pub declared : List FlatPlace
  declared = total_of lists (own_declared types facts modes globals) body.stmts

  abbrev pub temporaries : List FlatPlace
  temporaries = block_places types facts modes body.stmts 0

  abbrev pub whole : List FlatPlace
  whole = body_places types facts modes sinks globals params body

  -- all that is declared
  abbrev pub front : List FlatPlace
  front = param_places types facts modes sinks params ++ (result_places types facts modes body.result ++ declared)

  pub split : front ++ temporaries ≡ whole
  split =
      append_assoc (param_places types facts modes sinks params) (result_places types facts modes body.result ++ declared) temporaries
      ∙ ap (λ rest. param_places types facts modes sinks params ++ rest) (append_assoc (result_places types facts modes body.result) declared temporaries)

  -- what is known of a place that is filled, or stands for others
  pub record IsPlaced (m : Mark) : Type 0 where
    pub fills : m.stands ≡ false → may_fill known' whole (stood_by (marks_of facts body.stmts)) m.place.number ≡ true
    pub stands : m.stands ≡ true → IsListed types m.place.of → may_stand known' whole (stood_by (marks_of facts body.stmts)) m.place.number ≡ true

  pub undeclared : Each (λ (p : FlatPlace). is_declared p.kind ≡ false) temporaries
  undeclared = (block_numbers types facts modes body.stmts 0).undeclared

  others_of : (holds : FlatPlace → Type 0) → ((p : FlatPlace) → holds p → is_other p.kind ≡ true) → (ps : List FlatPlace) → Each holds ps → Others ps
  others_of holds to [] h = tt
  others_of holds to (p ∷ ps) h = (to p h.0, others_of holds to ps h.1)

  like_blocks : (ps : List FlatPlace) (ds : List Declared) → Likes types ps ds → Each (λ (p : FlatPlace). is_block p.kind ≡ true) ps
  like_blocks [] [] h = tt
  like_blocks [] (d ∷ ds) h = tt
  like_blocks (p ∷ ps) [] h = absurd h
  like_blocks (p ∷ ps) (d ∷ ds) h = (h.0.block, like_blocks ps ds h.1)

  blocks : Each (λ (p : FlatPlace). is_block p.kind ≡ true) declared
  blocks = like_blocks declared (total_of lists own_places body.stmts) (block_like types facts modes globals body.stmts)

  pub others : Others (declared ++ temporaries)
  others = both (λ (p : FlatPlace). is_other p.kind ≡ true) declared temporaries
      (others_of (λ (p : FlatPlace). is_block p.kind ≡ true) (λ p h. block_other p.kind h) declared blocks)
      (others_of (λ (p : FlatPlace). is_declared p.kind ≡ false) (λ p h. temporary_other p.kind h) temporaries undeclared)

  of_blocks : (ps : List FlatPlace) → Each (λ (p : FlatPlace). is_block p.kind ≡ true) ps → Each (λ (p : FlatPlace). is_declared p.kind ≡ true) ps
  of_blocks [] h = tt
  of_blocks (p ∷ ps) h = (block_declared p.kind h.0, of_blocks ps h.1)

  of_result : (result : Option Declared) → Each (λ (p : FlatPlace). is_declared p.kind ≡ true) (result_places types facts modes result ++ declared)
  of_result None = of_blocks declared blocks
  of_result (Some d) = (refl, of_blocks declared blocks)

  of_params : (ps : List Param) → Each (λ (p : FlatPlace). is_declared p.kind ≡ true)
      (param_places types facts modes sinks ps ++ (result_places types facts modes body.result ++ declared))
  of_params [] = of_result body.result
  of_params (p ∷ ps) = (refl, of_params ps)

  -- ---- temporaries

  -- none of what is declared is one
  no_temporary : (ps : List FlatPlace) (n : ℕ) → Each (λ (p : FlatPlace). is_declared p.kind ≡ true) ps →
      (place_named is_value ps n ≡ None) × (place_named is_location ps n ≡ None)
  no_temporary [] n h = (refl, refl)
  no_temporary (p ∷ ps) n h =
      let k = not_temporary p.kind h.0 in
      let r = no_temporary ps n h.1 in
      (named_past is_value p ps n k.0 ∙ r.0, named_past is_location p ps n k.1 ∙ r.1)

  pub owned : (behind : ℕ) → Owns whole temporaries 0 0 behind
  owned behind = subst (λ ps. Owns ps temporaries 0 0 behind) split (record {
    values = λ n low high. named_behind is_value front temporaries n (no_temporary front n (of_params params)).0;
    locations = λ n low high. named_behind is_location front temporaries n (no_temporary front n (of_params params)).1;
  })

  -- ---- numbers

  like_numbers : (ps : List FlatPlace) (ds : List Declared) → Likes types ps ds → numbers ps ≡ numbers_of ds
  like_numbers [] [] h = refl
  like_numbers [] (d ∷ ds) h = absurd h
  like_numbers (p ∷ ps) [] h = absurd h
  like_numbers (p ∷ ps) (d ∷ ds) h = ap₂ (λ n ns. n ∷ ns) h.0.number (like_numbers ps ds h.1)

  same_numbers : numbers declared ≡ numbers_of (total_of lists own_places body.stmts)
  same_numbers = like_numbers declared (total_of lists own_places body.stmts) (block_like types facts modes globals body.stmts)

  result_numbers : (result : Option Declared) →
      numbers (result_places types facts modes result ++ declared) ≡ numbers_of (if_declared result ++ folds.block_places body.stmts)
  result_numbers None = same_numbers
  result_numbers (Some d) = ap (λ ns. d.number ∷ ns) same_numbers

  front_numbers : (ps : List Param) → numbers (param_places types facts modes sinks ps ++ (result_places types facts modes body.result ++ declared))
      ≡ numbers_of (folds.param_places ps ++ (if_declared body.result ++ folds.block_places body.stmts))
  front_numbers [] = result_numbers body.result
  front_numbers (p ∷ ps) = ap (λ ns. p.place.number ∷ ns) (front_numbers ps)

  -- ---- in order

  module _ (numbered : numbering.is_numbered params body ≡ true) where
    two : (numbering.follow body.first (numbers_of (folds.param_places params ++ if_declared body.result)) ≡ true)
        × (numbering.rise_to body.first (body.first + body.places) (numbers_of (folds.body_places params body)) ≡ true)
    two = and_parts _ _ (and_parts (numbering.rise_to body.before MOST_NODES (folds.block_nodes body.stmts)) _ numbered).1

    pub rise : numbering.rise_to body.first (body.first + body.places) (numbers front) ≡ true
    rise = ap (numbering.rise_to body.first (body.first + body.places)) (front_numbers params) ∙ two.1

    pub ordered : nat_le (length (results_at whole)) 1
        && (follow body.first (params_at whole ++ results_at whole) && are_within body.first (body.first + body.places) whole) ≡ true
    ordered =
        and_from _ _
        (ap (λ ns. nat_le (length ns) 1) (one_result types facts modes sinks params body.result (declared ++ temporaries) others)
        ∙ at_most_one types facts modes sinks body.result)
        (and_from _ _
        (ap (follow body.first) (head_numbers types facts modes sinks params body.result (declared ++ temporaries) others)
        ∙ followed body.first (numbers_of (folds.param_places params ++ if_declared body.result)) two.0)
        (ap (are_within body.first (body.first + body.places)) (sym split)
        ∙ rise_within body.first (body.first + body.places) front temporaries (of_params params) undeclared rise))

    -- ---- places by number

    pub found : (is_kind : PlaceKind → Bool) (p : FlatPlace) → Member p front → is_kind p.kind ≡ true → place_named is_kind whole p.number ≡ Some p
    found is_kind p m is =
        subst (λ ps. place_named is_kind ps p.number ≡ Some p) split (found_by is_kind body.first (body.first + body.places) front temporaries p rise m is)

    -- of a declared place, by its number and its type
    pub type_found : (is_kind : PlaceKind → Bool) (p : FlatPlace) (d : Declared) → Member p front → is_kind p.kind ≡ true → is_declared p.kind ≡ true →
        p.number ≡ d.number → p.ty ≡ type_number types d.of → IsListed types d.of → if_type_of known' (place_named is_kind whole d.number) ≡ Some d.of
    type_found is_kind p d m is is_declared number of listed =
        subst (λ n. if_type_of known' (place_named is_kind whole n) ≡ Some d.of) number
        (ap (if_type_of known') (found is_kind p m is)
        ∙ ap Some (declared_type p.kind (type_at types p.ty) is_declared ∙ ap (type_at types) of ∙ listed))

    abbrev Named : Declared → Type 0
    Named d = if_type_of known' (place_named is_declared whole d.number) ≡ Some d.of

    abbrev OwnPlace : Declared → Type 0
    OwnPlace d = if_type_of known' (place_named is_own whole d.number) ≡ Some d.of

    likes_held : (ps : List FlatPlace) (ds : List Declared) → Likes types ps ds → Each (λ (d : Declared). IsListed types d.of) ds →
        ((p : FlatPlace) → Member p ps → Member p front) → Each (λ (d : Declared). OwnPlace d × Named d) ds
    likes_held ps [] h listed in_front = tt
    likes_held [] (d ∷ ds) h listed in_front = absurd h
    likes_held (p ∷ ps) (d ∷ ds) h listed in_front =
        let m = in_front p (inl refl) in
        let b = block_declared p.kind h.0.block in (
          (
            type_found is_own p d m (block_own p.kind h.0.block) b h.0.number h.0.of listed.0,
            type_found is_declared p d m b b h.0.number h.0.of listed.0,
          ),
          likes_held ps ds h.1 listed.1 (λ q k. in_front q (inr k)),
        )

    pub in_blocks : (p : FlatPlace) → Member p declared → Member p front
    in_blocks p m =
        member_second p (param_places types facts modes sinks params) (result_places types facts modes body.result ++ declared)
        (member_second p (result_places types facts modes body.result) declared m)

    pub held : Each (IsListed types) (total_of lists own_types body.stmts) →
        Each (λ (d : Declared). OwnPlace d × Named d) (total_of lists own_places body.stmts)
    held listed =
        likes_held declared (total_of lists own_places body.stmts) (block_like types facts modes globals body.stmts) (block_listed types body.stmts listed)
        in_blocks

    -- the result
    result_at_front : (result : Option Declared) (d : Declared) → result ≡ Some d →
        Member (of_declared types facts modes K.Result d) (result_places types facts modes result ++ declared)
    result_at_front None d e = none e
      where
        none : {A : Type 0} → None ≡ Some d → A
        none e = cc
    result_at_front (Some c) d e = inl (ap (of_declared types facts modes K.Result) (one e))
      where
        one : Some c ≡ Some d → d ≡ c
        one e = cc

    pub result_found : (d : Declared) → body.result ≡ Some d → IsListed types d.of → OwnPlace d × Named d
    result_found d e listed =
        let m = member_second (of_declared types facts modes K.Result d) (param_places types facts modes sinks params)
        (result_places types facts modes body.result ++ declared)
        (result_at_front body.result d e) in (
          type_found is_own (of_declared types facts modes K.Result d) d m refl refl refl refl listed,
          type_found is_declared (of_declared types facts modes K.Result d) d m refl refl refl refl listed,
        )

    pub result_filled : (stood : ℕ → Bool) (d : Declared) → body.result ≡ Some d → may_fill known' whole stood d.number ≡ true
    result_filled stood d e =
        let m = member_second (of_declared types facts modes K.Result d) (param_places types facts modes sinks params)
        (result_places types facts modes body.result ++ declared)
        (result_at_front body.result d e) in
        ap (is_filled known' whole stood) (found is_own (of_declared types facts modes K.Result d) m refl)

    -- ---- places that stand for others

    fills_block : (kind : PlaceKind) → is_block kind ≡ true → fills_kind kind false ≡ true
    fills_block K.Local h = refl
    fills_block K.Cursor h = refl
    fills_block K.ForVar h = refl
    fills_block K.Caught h = refl
    fills_block K.Global h = refl
    fills_block kind h = never h

    abbrev pub stood : ℕ → Bool
    stood = stood_by (marks_of facts body.stmts)

    marked_found : (ps : List FlatPlace) (ms : List Mark) → AllMarked types facts ps ms → Each (λ (m : Mark). stood m.place.number ≡ m.stands) ms →
        ((p : FlatPlace) → Member p ps → Member p front) → Each IsPlaced ms
    marked_found [] [] h own in_front = tt
    marked_found [] (m ∷ ms) h own in_front = absurd h
    marked_found (p ∷ ps) [] h own in_front = absurd h
    marked_found (p ∷ ps) (m ∷ ms) h own in_front =
        let at = in_front p (inl refl) in
        let same = ap stood h.0.number ∙ own.0 in (
          record {
            fills = λ unstood. subst (λ n. may_fill known' whole stood n ≡ true) h.0.number
                (ap (is_filled known' whole stood) (found is_own p at (block_own p.kind h.0.block))
                ∙ ap (fills_kind p.kind) (same ∙ unstood) ∙ fills_block p.kind h.0.block);
            stands = λ stands listed. subst (λ n. may_stand known' whole stood n ≡ true) h.0.number
                (ap (is_stood known' whole stood) (found is_declared p at (block_declared p.kind h.0.block))
                ∙ and_from _ _ (ap stands_kind (h.0.of_loop stands))
                (and_from _ _ (ap (λ n. is_hooked facts (type_at types n)) h.0.of ∙ ap (is_hooked facts) listed ∙ h.0.hooked stands) (same ∙ stands)));
          },
          marked_found ps ms h.1 own.1 (λ q k. in_front q (inr k)),
        )

    pub marks_found : Each IsPlaced (marks_of facts body.stmts)
    marks_found =
        let marked = subst (λ ps. AllMarked types facts ps (marks_of facts body.stmts)) (sym (declares types facts modes globals body.stmts))
        (all_marked types facts modes globals body.stmts) in
        let behind = rise_behind body.first (body.first + body.places) (param_places types facts modes sinks params)
        (result_places types facts modes body.result ++ declared) rise in
        let least = rise_behind behind.0 (body.first + body.places) (result_places types facts modes body.result) declared behind.1 in
        marked_found declared (marks_of facts body.stmts) marked
        (all_own types facts least.0 (body.first + body.places) declared (marks_of facts body.stmts) marked least.1) in_blocks

    params_found : (ps : List Param) → Each (λ (d : Declared). IsListed types d.of) (param_declared ps) →
        ((p : FlatPlace) → Member p (param_places types facts modes sinks ps) → Member p front) → Each Named (param_declared ps)
    params_found [] listed in_front = tt
    params_found (p ∷ ps) listed in_front = (
      type_found is_declared (of_declared types facts modes (kind_of_param sinks p) p.place) p.place (in_front _ (inl refl)) refl refl refl refl listed.0,
      params_found ps listed.1 (λ q k. in_front q (inr k)),
    )

    if_found : (result : Option Declared) → body.result ≡ result → Each (λ (d : Declared). IsListed types d.of) (if_declared result) →
        Each Named (if_declared result)
    if_found None e listed = tt
    if_found (Some d) e listed = ((result_found d e listed.0).1, tt)

    -- parameters and the result are in scope at first
    pub head_found : Each (λ (d : Declared). IsListed types d.of) (param_declared params) →
        Each (λ (d : Declared). IsListed types d.of) (if_declared body.result) →
        Each Named (param_declared params ++ if_declared body.result)
    head_found listed given = both Named (param_declared params) (if_declared body.result)
        (params_found params listed (λ p m. member_first p (param_places types facts modes sinks params)
        (result_places types facts modes body.result ++ declared) m))
        (if_found body.result refl given)

-- places in scope, by what holds of each
pub look_each : (f : ℕ → Option Ty) (ps : List Placed) (n : ℕ) (ty : Ty) → Each (λ (p : Placed). f p.number ≡ Some p.of) ps → look ps n ≡ Some ty →
    f n ≡ Some ty
look_each f [] n ty h e = none e
  where
    none : {A : Type 0} → None ≡ Some ty → A
    none e = cc
look_each f (p ∷ ps) n ty h e = at (nat_eq p.number n) refl e (look_each f ps n ty h.1)
  where
    at : (b : Bool) → nat_eq p.number n ≡ b → (if b then Some p.of else look ps n) ≡ Some ty → (look ps n ≡ Some ty → f n ≡ Some ty) → f n ≡ Some ty
    at true same e rest = ap f (sym (eqb-true p.number n same)) ∙ h.0 ∙ e
    at false same e rest = rest e

pub each_placed : (f : ℕ → Option Ty) (ds : List Declared) → Each (λ (d : Declared). f d.number ≡ Some d.of) ds →
    Each (λ (p : Placed). f p.number ≡ Some p.of) (map placed ds)
each_placed f [] h = tt
each_placed f (d ∷ ds) h = (h.0, each_placed f ds h.1)
