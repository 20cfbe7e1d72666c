-- From operands that were taken to what is handed over to a procedure.
use Rattle.std.proofs.Common.{◌≡◌, refl, sym, ap, ap₂, subst, ◌∙◌, arith, ℕ, suc, ◌+◌, ◌<◌, inl, inr, ◌⊎◌, Bool, true, false, not, List, [], ◌∷◌, ◌++◌, length}
use Rattle.std.proofs.Common.{Option, Some}
use Rattle.std.specs.Prelude.{◌&&◌, nat_eq, if◌then◌else◌}
use Rattle.std.proofs.lemmas.Bool.{and_parts, and_left, and_right, eqb-true, false≢true}
use Rattle.std.proofs.lemmas.Option.{none-some, same_Some}
use Rattle.nim_types.specs.Types.{Ty, Tys, no_types, types}
use Rattle.nim_types.specs.Types as T
use Rattle.nim_types.specs.Forms.{Form, hooked, form_of}
use Rattle.nim_program.specs.declared.operation.Use.{Use}
use Rattle.nim_program.specs.declared.operation.Use.TheVariants.{Owned, Given as ToPlace, Held, Lent, Looked}
use Rattle.nim_program.specs.declared.program.Mode.{Mode}
use Rattle.nim_program.specs.declared.program.Mode.TheVariants as M
use Rattle.nim_program.specs.Program.{Expr, Path, Args, ByValue, ByPath, Param, type_of, type_at, node_of, is_written}
use Rattle.nim_program.specs.Kinds.{is_of}
use Rattle.nim_program.specs.Scopes.{Placed, look, given, all_given, is_var, are_taken}
use Rattle.nim_meaning.specs.Values.{Value, Waiting, Location, at_base, Operand, Given, At, Slot, slot_for, slots_for}
use Rattle.nim_meaning.specs.State.{World}
use Rattle.nim_meaning.specs.Here.{Here, gives_hooked, form_for}
use Rattle.nim_meaning.specs.Aims.{handed_over, is_lent_literal, standing}
use Rattle.nim_meaning.specs.Shapes.{is_lent, is_text}
use Rattle.holders.specs.Owned.{Full, Has}
use Rattle.holders.specs.Territory.{Owner}
use Rattle.holders.specs.Becoming.{Strange}
use Rattle.holders.specs.Working.{Works}
use Rattle.holders.specs.Ways.{targets_of}
use Rattle.holders.specs.Finding.{PlaceOf, own_place, a_name_of}
use Rattle.holders.specs.Handing.{UnderWay}
use Rattle.holders.specs.Asked.{Limits}
use Rattle.holders.specs.Evaluating.{IsBare, Bare, root_at, path_steps, seen_of}
use Rattle.holders.specs.Procedures.{Arrives, none_arrive, value_arrives, cell_arrives, constant_arrives, GlobalsSo}
use Rattle.holders.proofs.PlainRows.{none_clear}
use Rattle.holders.proofs.Owning.{plain_anywhere}
use Rattle.holders.proofs.Constants.{hooked_is}
use Rattle.holders.proofs.FormKinds.{same_type}
use Rattle.holders.proofs.ScenesOfBodies.{look_seen}
use Rattle.holders.proofs.WaitingTaken.{Taken, none_taken, bare_taken, held_taken, lent_taken, place_taken, Second}
use Rattle.holders.proofs.Targets.{TargetIn, owner_at, target_back, targets_in, lent_target, place_target, AllPlaced, GlobalAt, global_target, global_targets}
use Rattle.holders.proofs.Targets.{count_globals}

abbrev use_number : Use → ℕ
use_number Owned = 0
use_number ToPlace = 1
use_number Held = 2
use_number Lent = 3
use_number Looked = 4

-- ---- types of parameters, where no types are given

mutual
  pub given_none : (ty : Ty) → given [] ty ≡ ty
  given_none T.int = refl
  given_none T.bool = refl
  given_none T.char = refl
  given_none T.text = refl
  given_none (T.sequence of) = ap (λ (t : Ty). T.sequence t) (given_none of)
  given_none (T.array n of) = ap (λ (t : Ty). T.array n t) (given_none of)
  given_none (T.tuple names parts) = ap (λ (ts : Tys). T.tuple names ts) (all_given_none parts)
  given_none (T.parameter n) = refl
  given_none (T.enum key) = refl
  given_none (T.object key arguments) = ap (λ (ts : Tys). T.object key ts) (all_given_none arguments)
  given_none (T.distinct key) = refl
  given_none (T.ref name to) = ap (λ (t : Ty). T.ref name t) (given_none to)
  given_none (T.exception key) = refl

  all_given_none : (ts : Tys) → all_given [] ts ≡ ts
  all_given_none no_types = refl
  all_given_none (types first rest) = ap₂ (λ (t : Ty) (ts : Tys). types t ts) (given_none first) (all_given_none rest)

-- ---- modes

-- a parameter that is neither `var` nor `sink` isn't written
abbrev pub AllKept : (kept : ℕ → Bool) → List Param → Type 0
AllKept kept [] = Unit {0}
AllKept kept (param ∷ params) = (param.mode ≡ M.Plain → kept param.place.number ≡ true) × AllKept kept params

-- nor is one, at its position, whose argument is lent and is no `var`
abbrev pub KeptAt : (uses : (position : ℕ) → Use) (kept : ℕ → Bool) → (position : ℕ) → List Param → Type 0
KeptAt uses kept i [] = Unit {0}
KeptAt uses kept i (param ∷ params) = (is_var param.mode ≡ false → uses i ≡ Lent → kept param.place.number ≡ true) × KeptAt uses kept (suc i) params

-- ---- positions of places, the last one first

abbrev pub position_back : List Placed → ℕ → ℕ
position_back [] g = 0
position_back (p ∷ ps) g = if nat_eq p.number g then length ps else position_back ps g

back_below : (ps : List Placed) (g : ℕ) (ty : Ty) → look ps g ≡ Some ty → position_back ps g < length ps
back_below [] g ty e = absurd (none-some ty e)
back_below (p ∷ ps) g ty e = by (nat_eq p.number g) e (λ q. back_below ps g ty q)
  where
    by : (b : Bool) → (if b then Some p.of else look ps g) ≡ Some ty → (look ps g ≡ Some ty → position_back ps g < length ps) →
        (if b then length ps else position_back ps g) < suc (length ps)
    by true e rest = omega arith
    by false e rest = omega (arith, rest e)

back_two : (ps : List Placed) (g k : ℕ) (ty other : Ty) → look ps g ≡ Some ty → look ps k ≡ Some other → position_back ps g ≡ position_back ps k → g ≡ k
back_two [] g k ty other e f q = absurd (none-some ty e)
back_two (p ∷ ps) g k ty other e f q =
    by (nat_eq p.number g) (nat_eq p.number k) refl refl e f q (λ a b c. back_two ps g k ty other a b c)
  where
    by : (u v : Bool) → nat_eq p.number g ≡ u → nat_eq p.number k ≡ v → (if u then Some p.of else look ps g) ≡ Some ty →
        (if v then Some p.of else look ps k) ≡ Some other → (if u then length ps else position_back ps g) ≡ (if v then length ps else position_back ps k) →
        (look ps g ≡ Some ty → look ps k ≡ Some other → position_back ps g ≡ position_back ps k → g ≡ k) → g ≡ k
    by true true is also e f q rest = sym (eqb-true p.number g is) ∙ eqb-true p.number k also
    by true false is also e f q rest = absurd (omega (arith, q, back_below ps k other f))
    by false true is also e f q rest = absurd (omega (arith, q, back_below ps g ty e))
    by false false is also e f q rest = rest e f q

-- ---- what arrives

module _ (here : Here) (limits : Limits) (root : (global : Bool) → ℕ → ℕ) (uses : (position : ℕ) → Use) (ms os : List Owner) (blocks : List ℕ)
    (world : World) where
  module _ (kept : ℕ → Bool) (ts : List (TargetIn here.level ms os world)) (w : Works (ms ++ os) (targets_of (owner_at ts) (length ts)) blocks world)
      (gl : List (TargetIn here.level ms os world)) where
    abbrev gs : List Owner
    gs = targets_of (owner_at ts) (length ts)

    -- the last ones of all targets, from a number on
    abbrev pub FromTarget : ℕ → List (TargetIn here.level ms os world) → Type 0
    FromTarget d rest = ((i : ℕ) → owner_at ts (d + i) ≡ owner_at rest i) × (d + length rest ≡ length ts)

    pub target_first : (d : ℕ) (t : TargetIn here.level ms os world) (rest : List (TargetIn here.level ms os world)) → FromTarget d (t ∷ rest) →
        Second gs t.owner (length rest)
    target_first d t rest h =
        let count : length ts ≡ suc (d + length rest) = omega (arith, h.1) in
        let same : d + 0 ≡ d = omega arith in
        let is : owner_at ts d ≡ t.owner = subst (λ i. owner_at ts i ≡ t.owner) same (h.0 0) in
        subst (λ o. Second gs o (length rest)) is (target_back (owner_at ts) (length ts) d (length rest) count)

    pub targets_next : (d : ℕ) (t : TargetIn here.level ms os world) (rest : List (TargetIn here.level ms os world)) → FromTarget d (t ∷ rest) →
        FromTarget (suc d) rest
    targets_next d t rest h = (λ i. next i, omega (arith, h.1))
      where
        next : (i : ℕ) → owner_at ts (suc d + i) ≡ owner_at rest i
        next i = let same : d + suc i ≡ suc d + i = omega arith in subst (λ j. owner_at ts j ≡ owner_at rest i) same (h.0 (suc i))

    abbrev Come : List Param → List Slot → List ℕ → ℕ → Type 0
    Come params slots given top = Arrives here.facts kept gs w.territory.blocks world (length gl) params slots given top

    -- one without hooks
    bare_arrives : {param : Param} {params : List Param} {v : Value} {slots : List Slot} {given : List ℕ} {top : ℕ} →
        hooked (form_of here.facts param.place.of) ≡ false → Bare (form_of here.facts param.place.of) v → Come params slots given top →
        Come (param ∷ params) (slot_for (Given v) ∷ slots) given top
    bare_arrives {param} {v = v} unhooked b more =
        let u : UnderWay (form_of here.facts param.place.of) v gs w.territory.blocks world = record {
          given = [];
          has = plain_anywhere world Full unhooked (b world);
          distinct = tt;
          strange = λ k m n. elim m [ ];
          clear = none_clear gs;
        } in
        value_arrives u more (λ k m n. elim m [ ])

    held_arrives : {param : Param} {params : List Param} {v : Value} {slots : List Slot} {given : List ℕ} {top : ℕ}
        (u : UnderWay (form_of here.facts param.place.of) v (ms ++ os) blocks world) → Come params slots given top → Strange u.given given →
        Come (param ∷ params) (slot_for (Given v) ∷ slots) (u.given ++ given) top
    held_arrives {param} {v = v} u more apart =
        let x : UnderWay (form_of here.facts param.place.of) v gs w.territory.blocks world = record {
          given = u.given;
          has = u.has;
          distinct = u.distinct;
          strange = λ k m n. u.strange k m (w.within k n);
          clear = w.clear u.given u.strange u.clear;
        } in
        value_arrives x more apart

    abbrev under_as : {f g : Form} {v : Value} → f ≡ g → UnderWay f v (ms ++ os) blocks world → UnderWay g v (ms ++ os) blocks world
    under_as {v = v} same u = record {
      given = u.given;
      has = subst (λ f. Has world Full f v u.given) same u.has;
      distinct = u.distinct;
      strange = u.strange;
      clear = u.clear;
    }

    -- ---- an argument is of the type of its parameter

    argument_form : (param : Param) (ty : Option Ty) → is_of ty (Some (given [] param.place.of)) ≡ true →
        form_for here.facts ty ≡ form_of here.facts param.place.of
    argument_form param ty e = ap (form_for here.facts) (same_type e) ∙ ap (form_of here.facts) (given_none param.place.of)

    value_parts : (param : Param) (params : List Param) (value : Expr) (rest : Args) → are_taken [] (param ∷ params) (ByValue value rest) ≡ true →
        (not (is_var param.mode) ≡ true) × ((is_of (type_of value) (Some (given [] param.place.of)) ≡ true) × (are_taken [] params rest ≡ true))
    value_parts param params value rest e =
        let q = and_parts (not (is_var param.mode)) (is_of (type_of value) (Some (given [] param.place.of)) && are_taken [] params rest) e in
        (q.0, and_parts (is_of (type_of value) (Some (given [] param.place.of))) (are_taken [] params rest) q.1)

    path_parts : (param : Param) (params : List Param) (path : Path) (rest : Args) → are_taken [] (param ∷ params) (ByPath path rest) ≡ true →
        (is_of (type_at path) (Some (given [] param.place.of)) ≡ true) × (are_taken [] params rest ≡ true)
    path_parts param params path rest e =
        and_parts (is_of (type_at path) (Some (given [] param.place.of))) (are_taken [] params rest)
        (and_parts (is_var param.mode && is_written path) (is_of (type_at path) (Some (given [] param.place.of)) && are_taken [] params rest) e).1

    not_var : (mode : Mode) → not (is_var mode) ≡ true → is_var mode ≡ false
    not_var M.Plain e = refl
    not_var M.Sink e = refl
    not_var M.Var e = absurd (false≢true e)

    -- ---- a value that is bare: one without hooks, or a literal text

    abbrev Goal : (param : Param) (params : List Param) (v : Value) (slots : List Slot) (given : List ℕ) (top : ℕ) (literal : Bool) → Type 0
    Goal param params v slots given top literal = Come (param ∷ params) (slot_for (standing literal (Given v)) ∷ slots) given top

    bare_comes : (param : Param) (params : List Param) (value : Expr) (rest : Args) (i : ℕ) (v : Value) (xs : List Operand) {given : List ℕ} {top : ℕ} →
        ((j : ℕ) → (uses j ≡ Held) ⊎ (uses j ≡ Lent)) → (is_var param.mode ≡ false → uses i ≡ Lent → kept param.place.number ≡ true) →
        is_var param.mode ≡ false → form_for here.facts (type_of value) ≡ form_of here.facts param.place.of → IsBare here.facts (uses i) value →
        Bare (form_for here.facts (type_of value)) v → Come params (slots_for (handed_over here.facts rest uses (suc i) xs)) given top →
        Come (param ∷ params) (slots_for (handed_over here.facts (ByValue value rest) uses i (Given v ∷ xs))) given top
    bare_comes param params value rest i v xs {given} {top} lent keeps no_var same which b more = by which
      where
        here_bare : Bare (form_of here.facts param.place.of) v
        here_bare = subst (λ f. Bare f v) same b

        unhooked_so : hooked (form_for here.facts (type_of value)) ≡ false →
            Goal param params v (slots_for (handed_over here.facts rest uses (suc i) xs)) given top (is_lent_literal here.facts (uses i) value)
        unhooked_so unhooked =
            subst (λ c. Goal param params v (slots_for (handed_over here.facts rest uses (suc i) xs)) given top c)
            (sym (and_left (gives_hooked here.facts (type_of value)) (is_lent (uses i) && is_text value)
            (hooked_is here.facts (type_of value) ∙ unhooked)))
            (bare_arrives (sym (ap hooked same) ∙ unhooked) here_bare more)

        literal : (c : Bool) → gives_hooked here.facts (type_of value) ≡ c → uses i ≡ Lent → is_text value ≡ true →
            Goal param params v (slots_for (handed_over here.facts rest uses (suc i) xs)) given top (is_lent_literal here.facts (uses i) value)
        literal false e purpose text = unhooked_so (sym (hooked_is here.facts (type_of value)) ∙ e)
        literal true e purpose text =
            subst (λ c. Goal param params v (slots_for (handed_over here.facts rest uses (suc i) xs)) given top c)
            (sym (ap₂ (λ m n. m && n) e (ap₂ (λ m n. m && n) (ap is_lent purpose) text)))
            (constant_arrives (keeps no_var purpose) (here_bare world) more)

        looked_at : {A : Type 0} → (uses i ≡ Held) ⊎ (uses i ≡ Lent) → uses i ≡ Looked → A
        looked_at (inl e) q = absurd (omega (arith, ap use_number (sym e ∙ q)))
        looked_at (inr e) q = absurd (omega (arith, ap use_number (sym e ∙ q)))

        by : (hooked (form_for here.facts (type_of value)) ≡ false) ⊎ (((uses i ≡ Lent) × (is_text value ≡ true)) ⊎ (uses i ≡ Looked)) →
            Goal param params v (slots_for (handed_over here.facts rest uses (suc i) xs)) given top (is_lent_literal here.facts (uses i) value)
        by (inl unhooked) = unhooked_so unhooked
        by (inr (inl e)) = literal (gives_hooked here.facts (type_of value)) refl e.0 e.1
        by (inr (inr q)) = looked_at (lent i) q

    -- ---- all of them

    pub arrive_so : (params : List Param) {args : Args} {i : ℕ} {xs : List Operand} {given : List ℕ} (d : ℕ) → ((j : ℕ) → (uses j ≡ Held) ⊎ (uses j ≡ Lent)) →
        KeptAt uses kept i params → are_taken [] params args ≡ true →
        (t : Taken here limits root uses ms os blocks world args i xs given) → FromTarget d (targets_in t ++ gl) →
        Come params (slots_for (handed_over here.facts args uses i xs)) given (length (targets_in t ++ gl))
    arrive_so [] d lent keeps typed none_taken h = none_arrive
    arrive_so [] d lent keeps typed (bare_taken which b more) h = absurd (false≢true typed)
    arrive_so [] d lent keeps typed (held_taken purpose u more apart) h = absurd (false≢true typed)
    arrive_so [] d lent keeps typed (lent_taken purpose hooks own a more) h = absurd (false≢true typed)
    arrive_so [] d lent keeps typed (place_taken f e more) h = absurd (false≢true typed)
    arrive_so (param ∷ params) d lent keeps typed none_taken h = absurd (false≢true typed)
    arrive_so (param ∷ params) d lent keeps typed (bare_taken {value = value} {rest = rest} {i = i} {v = v} {xs = xs} which b more) h =
        let q = value_parts param params value rest typed in
        bare_comes param params value rest i v xs lent keeps.0 (not_var param.mode q.0) (argument_form param (type_of value) q.1.0) which b
        (arrive_so params d lent keeps.1 q.1.1 more h)
    arrive_so (param ∷ params) d lent keeps typed (held_taken {value = value} {rest = rest} {i = i} {v = v} {xs = xs} {given = given} purpose u more apart) h =
        let q = value_parts param params value rest typed in
        let same = argument_form param (type_of value) q.1.0 in
        subst (λ c. Come (param ∷ params) (slot_for (standing c (Given v)) ∷ slots_for (handed_over here.facts rest uses (suc i) xs)) (u.given ++ given)
        (length (targets_in more ++ gl)))
        (sym (and_right (gives_hooked here.facts (type_of value)) (is_lent (uses i) && is_text value)
        (and_left (is_lent (uses i)) (is_text value) (ap is_lent purpose))))
        (held_arrives (under_as same u) (arrive_so params d lent keeps.1 q.1.1 more h) apart)
    arrive_so (param ∷ params) d lent keeps typed (lent_taken {value = value} {rest = rest} {i = i} {xs = xs} {given = given} purpose hooks own a more) h =
        let q = value_parts param params value rest typed in
        let same = argument_form param (type_of value) q.1.0 in
        let l : Location = at_base (Waiting here.level (node_of value).number) in
        let first = target_first d (lent_target here.level ms os world (form_for here.facts (type_of value)) (node_of value).number a)
        (targets_in more ++ gl) h in
        let there = subst (λ f. Second gs (record { form = f; at = l }) (length (targets_in more ++ gl))) same first in
        subst (λ c. Come (param ∷ params) (slot_for (standing c (At l)) ∷ slots_for (handed_over here.facts rest uses (suc i) xs)) given
        (suc (length (targets_in more ++ gl))))
        (sym (ap₂ (λ m n. m && n) hooks (and_right (is_lent (uses i)) (is_text value) own)))
        (cell_arrives there.at there.is (arrive_so params (suc d) lent keeps.1 q.1.1 more (targets_next d
        (lent_target here.level ms os world (form_for here.facts (type_of value)) (node_of value).number a) (targets_in more ++ gl) h)))
    arrive_so (param ∷ params) d lent keeps typed (place_taken {path = path} {rest = rest} {i = i} {l = l} {xs = xs} f e more) h =
        let q = path_parts param params path rest typed in
        let same = argument_form param (type_at path) q.0 in
        let first = target_first d (place_target here.level ms os world (root_at root path) (path_steps path) f e)
        (targets_in more ++ gl) h in
        let there = subst (λ g. Second gs (record { form = g; at = l }) (length (targets_in more ++ gl))) same first in
        cell_arrives there.at there.is (arrive_so params (suc d) lent keeps.1 q.1 more (targets_next d
        (place_target here.level ms os world (root_at root path) (path_steps path) f e) (targets_in more ++ gl) h))

    -- ---- the globals

    module _ (root_of : ℕ → ℕ) where
      abbrev Globals : List Placed → Type 0
      Globals ps = AllPlaced (GlobalAt here.facts root_of os world) ps

      abbrev gl_of : (ps : List Placed) → Globals ps → List (TargetIn here.level ms os world)
      gl_of ps all = global_targets here.level here.facts root_of ms os world ps all

      name_there : {n k : ℕ} {f : Form} {r : ℕ} (there : PlaceOf os world 0 n f true r) → Second gs (global_target here.level ms os world there).owner k →
          PlaceOf gs world 0 n f true k
      name_there {n} {f = f} (own_place i) found = subst (λ m. PlaceOf gs world 0 n f true m) found.is (own_place found.at)
      name_there {n} {f = f} (a_name_of name i) found = subst (λ m. PlaceOf gs world 0 n f true m) found.is (a_name_of name found.at)

      global_found : (ps : List Placed) (all : Globals ps) (d : ℕ) → FromTarget d (gl_of ps all) → (g : ℕ) (ty : Ty) → look ps g ≡ Some ty →
          PlaceOf gs world 0 g (form_of here.facts ty) true (position_back ps g)
      global_found [] all d h g ty e = absurd (none-some ty e)
      global_found (p ∷ ps) all d h g ty e =
          by (nat_eq p.number g) refl e (λ q. global_found ps all.1 (suc d)
          (targets_next d (global_target here.level ms os world all.0) (gl_of ps all.1) h) g ty q)
        where
          first : PlaceOf gs world 0 p.number (form_of here.facts p.of) true (length ps)
          first = subst (λ n. PlaceOf gs world 0 p.number (form_of here.facts p.of) true n) (count_globals here.level here.facts root_of ms os world ps all.1)
              (name_there all.0 (target_first d (global_target here.level ms os world all.0) (gl_of ps all.1) h))

          by : (b : Bool) → nat_eq p.number g ≡ b → (if b then Some p.of else look ps g) ≡ Some ty →
              (look ps g ≡ Some ty → PlaceOf gs world 0 g (form_of here.facts ty) true (position_back ps g)) →
              PlaceOf gs world 0 g (form_of here.facts ty) true (if b then length ps else position_back ps g)
          by true is e rest = subst (λ t. PlaceOf gs world 0 g (form_of here.facts t) true (length ps)) (same_Some p.of ty e)
              (subst (λ m. PlaceOf gs world 0 m (form_of here.facts p.of) true (length ps)) (eqb-true p.number g is) first)
          by false is e rest = rest e

      pub globals_so : (named : ℕ → Bool) (globals : List Placed) (all : Globals (seen_of named globals)) (d : ℕ) →
          FromTarget d (gl_of (seen_of named globals) all) → length gl ≡ length (seen_of named globals) →
          GlobalsSo here.facts named globals gs world (length gl)
      globals_so named globals all d h count = record {
        root = λ g. position_back (seen_of named globals) g;
        place = λ g ty is e. global_found (seen_of named globals) all d h g ty (look_seen named g ty is globals e);
        below = λ g ty is e. subst (λ n. position_back (seen_of named globals) g < n) (sym count)
            (back_below (seen_of named globals) g ty (look_seen named g ty is globals e));
        two = λ g k ty other a b e f q. back_two (seen_of named globals) g k ty other (look_seen named g ty a globals e)
            (look_seen named k other b globals f) q;
      }
