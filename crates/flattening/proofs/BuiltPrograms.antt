-- Flat code of a typed program of which nothing is left out: its procedures are of what is built, and small where its sums are.
use Rattle.std.proofs.Common.{◌≡◌, ℕ, suc, ◌+◌, ◌≤◌, ◌<◌, Bool, true, false, List, [], ◌∷◌, ◌++◌, length, Option, Some, None, refl, sym, ap, ◌∙◌, subst}
use Rattle.std.proofs.Common.{arith}
use Rattle.std.specs.Prelude.{nat_eq, nat_lt, nat_le, ◌&&◌, ◌||◌, not, if◌then◌else◌, map}
use Rattle.std.proofs.lemmas.Bool.{and_parts, and_from, eqb-true, leb-true, ltb-true, ltb-false, both_ways}
use Rattle.nim_types.specs.Types.{Ty, Facts}
use Rattle.nim_plan.specs.declared.plan.Plan.{Plan}
use Rattle.nim_program.specs.declared.expr.Node.{Node}
use Rattle.nim_program.specs.declared.program.HookOf.{HookOf}
use Rattle.nim_program.specs.declared.program.Mode.{Mode}
use Rattle.nim_program.specs.Folds.{lists, total_of, if_declared}
use Rattle.nim_program.specs.Kinds.{is_among_types, is_there, are_among_types, are_declared}
use Rattle.nim_program.specs.Numbering.{is_numbered, is_numbered_if, are_numbered, is_numbered_program}
use Rattle.nim_program.specs.Program.{Declared, Param, Body, Proc, Program}
use Rattle.nim_program.specs.Scopes.{Placed, placed, count_below, one_more}
use Rattle.nim_program.specs.Sizes.{is_global, body_sum}
use Rattle.nim_program.specs.Typed.{own_types, place_types, param_declared, body_types, type_of_place, are_held, before, is_typed_if, dest_of}
use Rattle.nim_program.specs.Typed.{hook_fits, is_typed_proc, are_typed_procs, is_typed_start, IsTyped}
use Rattle.nim_program.specs.Kinds.{same_value}
use Rattle.nim_meaning.specs.LeftOut.{◌or_then◌, out_if, left_out_in_head, left_out_in_block, left_out_in_body, left_out_in_proc, left_out_in_procs, first_of}
use Rattle.nim_meaning.specs.LeftOut.{IsBuilt}
use Rattle.nim_meaning.specs.Unbuilt.{is_unbuilt}
use Rattle.flat_code.specs.declared.code.CodeProc.{CodeProc}
use Rattle.flat_code.specs.declared.line.Line.{Line}
use Rattle.flat_code.specs.declared.place.FlatPlace.{FlatPlace}
use Rattle.flat_code.specs.declared.place.PlaceKind.{PlaceKind}
use Rattle.flat_code.specs.declared.place.PlaceKind.TheVariants as K
use Rattle.flat_code.specs.Fits.{is_declared, are_within, follow, params_at, results_at, is_global as is_global_kind}
use Rattle.flat_code.specs.Sizes.{places_bytes}
use Rattle.flat_code.proofs.ForCallers.{AreSorted}
use Rattle.flattening.specs.Flattened.{known_of, modes_of}
use Rattle.flattening.specs.Given.{flat_body, flat_proc, flat_procs}
use Rattle.flattening.specs.Places.{param_places, result_places, own_declared, block_places, body_places}
use Rattle.flat_code.specs.BuiltCode.{AreBuiltPlaces, no_globals, is_none, IsBuiltProc, AreBuiltProcs}
use Rattle.flattening.specs.BodySums.{sum_if, SumsWithin}
use Rattle.flattening.specs.StmtLines.{outermost, returned, param_ends}
use Rattle.flattening.specs.Shallow.{IsShallowBody, IsShallowIf, AreShallowProcs, IsShallow}
use Rattle.flattening.proofs.SimplePrograms.{among_all, all_listed, proc_simple, start_simple}
use Rattle.flattening.proofs.FitPrograms.{none_mapped}
use Rattle.flattening.proofs.Covers.{bytes_both, built_both}
use Rattle.flattening.proofs.CoversStmts.{block, ends, all_returned}
use Rattle.flattening.proofs.Declaring.{declares}
use Rattle.flattening.proofs.FitBodies as bodies
use Rattle.flattening.proofs.GlobalSizes.{IsAmong, block_told}
use Rattle.flattening.proofs.Parts.{Each, apart}
use Rattle.flattening.proofs.Plain.{kept, neither, none_earlier}
use Rattle.flattening.proofs.PlaceNumbers.{block_numbers}
use Rattle.flattening.proofs.BuiltBodies.{block_small, params_small, result_small, others_none, result_none, params_first, params_are, others_apart}
use Rattle.flattening.proofs.BuiltBodies.{handed_first, handed_are}
use Rattle.flattening.proofs.BuiltWaits.{body_waits}
use Rattle.flattening.proofs.Simple.{IsListed, IsFine, AreSimpleStmts}

-- ---- declared places are within those of the call

within_each : (least behind : ℕ) (ps : List FlatPlace) → are_within least behind ps ≡ true →
    Each (λ (p : FlatPlace). is_declared p.kind ≡ true → (least ≤ p.number) × (p.number < behind)) ps
within_each least behind [] h = tt
within_each least behind (p ∷ ps) h = at (is_declared p.kind) refl h (λ from e. within_each from behind ps e)
  where
    later : (from : ℕ) → least ≤ from → (qs : List FlatPlace) →
        Each (λ (p : FlatPlace). is_declared p.kind ≡ true → (from ≤ p.number) × (p.number < behind)) qs →
        Each (λ (p : FlatPlace). is_declared p.kind ≡ true → (least ≤ p.number) × (p.number < behind)) qs
    later from le [] k = tt
    later from le (q ∷ qs) k = ((λ d. let j = k.0 d in let i = j.0 in (omega (arith, i, le), j.1)), later from le qs k.1)

    at : (b : Bool) → is_declared p.kind ≡ b →
        (if b then nat_le least p.number && (nat_lt p.number behind && are_within (suc p.number) behind ps) else are_within least behind ps) ≡ true →
        ((from : ℕ) → are_within from behind ps ≡ true →
        Each (λ (p : FlatPlace). is_declared p.kind ≡ true → (from ≤ p.number) × (p.number < behind)) ps) →
        Each (λ (p : FlatPlace). is_declared p.kind ≡ true → (least ≤ p.number) × (p.number < behind)) (p ∷ ps)
    at true e k rest =
        let q = and_parts (nat_le least p.number) _ k in
        let r = and_parts (nat_lt p.number behind) _ q.1 in
        let low = leb-true least p.number q.0 in
        ((λ d. (low, ltb-true p.number behind r.0)), later (suc p.number) (omega (arith, low)) ps (rest (suc p.number) r.1))
    at false e k rest = ((λ d. absurd (both_ways (is_declared p.kind) e d)), rest least k)

-- ---- no global is among the places of a procedure

more_below : (a b : ℕ) → a ≤ b → (gs : List Placed) → count_below a gs ≤ count_below b gs
more_below a b le [] = omega arith
more_below a b le (g ∷ gs) = at (nat_lt g.number a) refl (nat_lt g.number b) refl (more_below a b le gs)
  where
    at : (x : Bool) → nat_lt g.number a ≡ x → (y : Bool) → nat_lt g.number b ≡ y → count_below a gs ≤ count_below b gs →
        one_more x (count_below a gs) ≤ one_more y (count_below b gs)
    at true e true f h = omega (arith, h)
    at true e false f h = let i = ltb-true g.number a e in let j = ltb-false g.number b f in absurd (omega (arith, i, j, le))
    at false e true f h = omega (arith, h)
    at false e false f h = h

some_between : (n a b : ℕ) → a ≤ n → n < b → (ds : List Declared) → is_global ds n ≡ true → count_below a (map placed ds) < count_below b (map placed ds)
some_between n a b low high [] h = absurd (both_ways false refl h)
some_between n a b low high (d ∷ ds) h = at (nat_eq d.number n) refl (nat_lt d.number a) refl (nat_lt d.number b) refl h
    (more_below a b (omega (arith, low, high)) (map placed ds)) (λ k. some_between n a b low high ds k)
  where
    at : (e : Bool) → nat_eq d.number n ≡ e → (x : Bool) → nat_lt d.number a ≡ x → (y : Bool) → nat_lt d.number b ≡ y → (e || is_global ds n) ≡ true →
        count_below a (map placed ds) ≤ count_below b (map placed ds) →
        (is_global ds n ≡ true → count_below a (map placed ds) < count_below b (map placed ds)) →
        one_more x (count_below a (map placed ds)) < one_more y (count_below b (map placed ds))
    at true e true x y f h more rest = let i = eqb-true d.number n e in let j = ltb-true d.number a x in absurd (omega (arith, i, j, low))
    at true e false x true f h more rest = omega (arith, more)
    at true e false x false f h more rest = let i = eqb-true d.number n e in let j = ltb-false d.number b f in absurd (omega (arith, i, j, high))
    at false e true x true f h more rest = let k = rest h in omega (arith, k)
    at false e true x false f h more rest =
        let i = ltb-true d.number a x in let j = ltb-false d.number b f in absurd (omega (arith, i, j, low, high))
    at false e false x true f h more rest = omega (arith, more)
    at false e false x false f h more rest = rest h

module _ (types : List Ty) (facts : Facts) (modes : (proc position : ℕ) → Mode) (sinks : List ℕ) where
  params_no_globals : (params : List Param) (ps : List FlatPlace) → no_globals ps ≡ true →
      no_globals (param_places types facts modes sinks params ++ ps) ≡ true
  params_no_globals [] ps h = h
  params_no_globals (p ∷ params) ps h = params_no_globals params ps h

  result_no_globals : (result : Option Declared) (ps : List FlatPlace) → no_globals ps ≡ true →
      no_globals (result_places types facts modes result ++ ps) ≡ true
  result_no_globals None ps h = h
  result_no_globals (Some d) ps h = h

temporaries_no_globals : (ps : List FlatPlace) → Each (λ (p : FlatPlace). is_declared p.kind ≡ false) ps → no_globals ps ≡ true
temporaries_no_globals [] h = refl
temporaries_no_globals (p ∷ ps) h = and_from _ _ (other p.kind h.0) (temporaries_no_globals ps h.1)
  where
    other : (kind : PlaceKind) → is_declared kind ≡ false → not (is_global_kind kind) ≡ true
    other K.Global e = absurd (both_ways true e refl)
    other (K.Param mode) e = refl
    other K.Result e = refl
    other K.Local e = refl
    other K.Cursor e = refl
    other K.ForVar e = refl
    other K.Caught e = refl
    other K.Temp e = refl
    other K.Location e = refl
    other K.Within e = refl
    other K.Counter e = refl

declared_no_globals : (globals : List Declared) (a b : ℕ) (ps qs : List FlatPlace) → count_below a (map placed globals) ≡ count_below b (map placed globals) →
    Each (IsAmong globals) ps → Each (λ (p : FlatPlace). is_declared p.kind ≡ true → (a ≤ p.number) × (p.number < b)) ps → no_globals qs ≡ true →
    no_globals (ps ++ qs) ≡ true
declared_no_globals globals a b [] qs same told within h = h
declared_no_globals globals a b (p ∷ ps) qs same told within h =
    and_from _ _ (at (is_global_kind p.kind) refl) (declared_no_globals globals a b ps qs same told.1 within.1 h)
  where
    declared : (kind : PlaceKind) → is_global_kind kind ≡ true → is_declared kind ≡ true
    declared K.Global e = refl
    declared (K.Param mode) e = absurd (both_ways false refl e)
    declared K.Result e = absurd (both_ways false refl e)
    declared K.Local e = absurd (both_ways false refl e)
    declared K.Cursor e = absurd (both_ways false refl e)
    declared K.ForVar e = absurd (both_ways false refl e)
    declared K.Caught e = absurd (both_ways false refl e)
    declared K.Temp e = absurd (both_ways false refl e)
    declared K.Location e = absurd (both_ways false refl e)
    declared K.Within e = absurd (both_ways false refl e)
    declared K.Counter e = absurd (both_ways false refl e)

    at : (x : Bool) → is_global_kind p.kind ≡ x → not x ≡ true
    at true e =
        let w = within.0 (declared p.kind e) in
        let l = some_between p.number a b w.0 w.1 globals (told.0 e) in
        absurd (omega (arith, l, same))
    at false e = refl

-- ---- bodies

fine_of : (types : List Ty) (facts : Facts) (number : ℕ) (ds : List Declared) → left_out_in_head facts number ds ≡ None →
    Each (IsListed types facts) (place_types ds) → Each (λ (d : Declared). IsFine types facts d.of) ds
fine_of types facts number [] p h = tt
fine_of types facts number (d ∷ ds) p h =
    let node : Node = record { number = number; at = d.at } in
    let q = neither (out_if (is_unbuilt facts d.of) node) (left_out_in_head facts number ds) p in
    ((h.0, kept (is_unbuilt facts d.of) node q.0), fine_of types facts number ds q.1 h.1)

module _ (program : Program) (plan : Plan) where
  abbrev types : List Ty
  types = program.types

  abbrev facts : Facts
  facts = program.facts

  abbrev modes : (proc position : ℕ) → Mode
  modes = modes_of program plan

  body_built : (most : ℕ) (start : Bool) (hook : Option HookOf) (params : List Param) (body : Body) → AreSimpleStmts types facts body.stmts →
      Each (λ (d : Declared). IsFine types facts d.of) (param_declared params) → Each (λ (d : Declared). IsFine types facts d.of) (if_declared body.result) →
      is_numbered params body ≡ true → (start ≡ false → before program body.first ≡ before program (body.first + body.places)) →
      body_sum facts program.globals params body ≤ most → IsBuiltProc (known_of program) most start (flat_body program plan hook params body)
  body_built most start hook params body s taken given numbered same sum =
      let covers = block types facts modes program.globals body.result body.stmts
      (outermost (λ k. param_ends types facts params (returned body.result k))) 0 s (ends types facts modes program.globals body.result params) in
      let temps = block_places types facts modes body.stmts 0 in
      let declared = total_of lists (own_declared types facts modes program.globals) body.stmts in
      let small = block_small types facts modes plan.sinks program.globals body.stmts s in
      let e = declares types facts modes program.globals body.stmts in
      let ps = params_small types facts modes plan.sinks program.globals params taken in
      let rs = result_small types facts modes plan.sinks program.globals body.result given in
      let mine = param_places types facts modes plan.sinks params in
      let back = result_places types facts modes body.result in
      let free = bodies.others types facts modes plan.sinks program.globals params body in
      let others = result_none types facts modes plan.sinks program.globals body.result (declared ++ temps)
      (others_none types facts modes plan.sinks program.globals (declared ++ temps) free) in
      let are = params_are types facts modes plan.sinks program.globals params (back ++ (declared ++ temps)) others in
      let b0 = bytes_both types facts mine (back ++ (declared ++ temps)) in
      let b1 = bytes_both types facts back (declared ++ temps) in
      let b2 = bytes_both types facts declared temps in
      let b3 : places_bytes (known_of program) declared ≡ places_bytes (known_of program) _ = ap (places_bytes (known_of program)) e in
      let b4 = ap (places_bytes (known_of program)) are in
      let apart_others = others_apart types facts modes plan.sinks program.globals (declared ++ temps) free in
      let handed_over = handed_are types facts modes plan.sinks program.globals params body.result (declared ++ temps) apart_others in
      let b6 = bytes_both types facts mine back in
      let p1 = ps.1 in
      let r1 = rs.1 in
      let d1 = small.1 in
      let t1 = covers.bytes in
      record {
        places = built_both types facts mine (back ++ (declared ++ temps)) ps.0
            (built_both types facts back (declared ++ temps) rs.0
            (built_both types facts declared temps (subst (λ qs. AreBuiltPlaces (known_of program) qs) (sym e) small.0) covers.built));
        lines = covers.lines _ ((all_returned types facts modes program.globals body.result params).lines [] tt);
        lead = params_first types facts modes plan.sinks program.globals params (back ++ (declared ++ temps)) others;
        globals = λ n. no_globals_of params body numbered (same n);
        params_bytes = omega (arith, b4, p1, sum);
        handed = handed_first types facts modes plan.sinks program.globals params body.result (declared ++ temps) apart_others;
        handed_bytes = (let b5 = ap (places_bytes (known_of program)) handed_over in omega (arith, b5, b6, p1, r1, sum));
        bytes = omega (arith, b0, b1, b2, b3, p1, r1, d1, t1, sum);
        waiting = (let w = body_waits types facts modes plan.sinks program.globals params body s in omega (arith, b0, b1, b2, b3, p1, r1, t1, w, sum));
      }
    where
      no_globals_of : (params : List Param) (body : Body) → is_numbered params body ≡ true →
          before program body.first ≡ before program (body.first + body.places) →
          no_globals (body_places types facts modes plan.sinks program.globals params body) ≡ true
      no_globals_of params body numbered same =
          let declared = total_of lists (own_declared types facts modes program.globals) body.stmts in
          let temps = block_places types facts modes body.stmts 0 in
          let whole = body_places types facts modes plan.sinks program.globals params body in
          let holds : FlatPlace → Type 0 = λ p. is_declared p.kind ≡ true → (body.first ≤ p.number) × (p.number < body.first + body.places) in
          let order = and_parts (follow body.first (params_at whole ++ results_at whole)) (are_within body.first (body.first + body.places) whole)
          (and_parts (nat_le (length (results_at whole)) 1)
          (follow body.first (params_at whole ++ results_at whole) && are_within body.first (body.first + body.places) whole)
          (bodies.ordered types facts modes plan.sinks program.globals params body numbered)).1 in
          let all = within_each body.first (body.first + body.places) whole order.1 in
          let mine = param_places types facts modes plan.sinks params in
          let back = result_places types facts modes body.result in
          let behind = apart holds mine (back ++ (declared ++ temps)) all in
          let later = apart holds back (declared ++ temps) behind.1 in
          let own = apart holds declared temps later.1 in
          params_no_globals types facts modes plan.sinks params (back ++ (declared ++ temps))
          (result_no_globals types facts modes plan.sinks body.result (declared ++ temps)
          (declared_no_globals program.globals body.first (body.first + body.places) declared temps same
          (block_told types facts modes program.globals body.stmts) own.0
          (temporaries_no_globals temps (block_numbers types facts modes body.stmts 0).undeclared)))

  module _ (typed : IsTyped program) (sorted : AreSorted facts) (most : ℕ) where
    -- types of a head's places
    head_among : (params : List Param) (body : Body) → are_among_types types (body_types params body) ≡ true → IsShallowBody facts params body →
        Each (IsListed types facts) (place_types (param_declared params)) × Each (IsListed types facts) (place_types (if_declared body.result))
    head_among params body h few =
        let q = apart (λ (t : Ty). is_among_types types t ≡ true) (place_types (param_declared params))
        (place_types (if_declared body.result) ++ total_of lists own_types body.stmts) (among_all types (body_types params body) h) in
        let r = apart (λ (t : Ty). is_among_types types t ≡ true) (place_types (if_declared body.result)) (total_of lists own_types body.stmts) q.1 in (
          all_listed types facts (place_types (param_declared params)) q.0 few.taken,
          all_listed types facts (place_types (if_declared body.result)) r.0 few.given,
        )

    head_fine : (params : List Param) (body : Body) → are_among_types types (body_types params body) ≡ true → IsShallowBody facts params body →
        left_out_in_body facts params body ≡ None →
        Each (λ (d : Declared). IsFine types facts d.of) (param_declared params) × Each (λ (d : Declared). IsFine types facts d.of) (if_declared body.result)
    head_fine params body h few p =
        let a = head_among params body h few in
        let o = (neither (left_out_in_head facts (first_of body.stmts) (param_declared params ++ if_declared body.result))
        (left_out_in_block facts body.stmts) p).0 in
        let q = head_apart (first_of body.stmts) (param_declared params) (if_declared body.result) o in
        (fine_of types facts (first_of body.stmts) (param_declared params) q.0 a.0, fine_of types facts (first_of body.stmts) (if_declared body.result) q.1 a.1)
      where
        head_apart : (n : ℕ) (ds es : List Declared) → left_out_in_head facts n (ds ++ es) ≡ None →
            (left_out_in_head facts n ds ≡ None) × (left_out_in_head facts n es ≡ None)
        head_apart n [] es p = (refl, p)
        head_apart n (d ∷ ds) es p =
            let node : Node = record { number = n; at = d.at } in
            let q = neither (out_if (is_unbuilt facts d.of) node) (left_out_in_head facts n (ds ++ es)) p in
            let r = head_apart n ds es q.1 in
            (ap (λ b. out_if b node or_then left_out_in_head facts n ds) (kept (is_unbuilt facts d.of) node q.0) ∙ r.0, r.1)

    proc_built : (start : Bool) (hook : Option HookOf) (params : List Param) (gives : Option Ty) (body : Option Body) →
        is_typed_if program (dest_of hook params) params gives body ≡ true → is_numbered_if params body ≡ true →
        left_out_in_proc facts params body ≡ None → IsShallowIf facts params body → sum_if program params body ≤ most →
        IsBuiltProc (known_of program) most start (flat_proc program plan hook params body)
    proc_built start hook params gives None h n p few sum =
        record {
          places = tt;
          lines = tt;
          lead = refl;
          globals = λ e. refl;
          params_bytes = omega arith;
          handed = refl;
          handed_bytes = omega arith;
          bytes = omega arith;
          waiting = omega arith;
        }
    proc_built start hook params gives (Some body) h n p few sum =
        let q = and_parts (are_among_types types (body_types params body) && _) _ h in
        let r = and_parts (are_among_types types (body_types params body)) _ q.0 in
        let s = (and_parts (are_held facts (param_declared params ++ if_declared body.result) && same_value (type_of_place body.result) gives)
        (nat_eq (before program body.first) (before program (body.first + body.places))) r.1).1 in
        let f = head_fine params body r.0 few p in
        body_built most start hook params body (proc_simple program sorted (dest_of hook params) params gives body h p few.parts) f.0 f.1 n
        (λ e. eqb-true (before program body.first) (before program (body.first + body.places)) s) sum

    procs_built : (procs : List Proc) (more : List (CodeProc Line)) → are_typed_procs program procs ≡ true → are_numbered procs ≡ true →
        left_out_in_procs facts procs ≡ None → AreShallowProcs facts procs → SumsWithin most program procs →
        (body_sum facts program.globals [] program.start ≤ most → AreBuiltProcs (known_of program) most more) →
        AreBuiltProcs (known_of program) most (map (λ (p : Proc). flat_proc program plan p.hook p.params p.body) procs ++ more)
    procs_built [] more h n p few sums rest = rest sums
    procs_built (q ∷ procs) more h n p few sums rest =
        let t = and_parts (is_typed_proc program q) (are_typed_procs program procs) h in
        let u = and_parts (hook_fits program q.hook q.params q.gives q.body) _ t.0 in
        let m = and_parts (is_numbered_if q.params q.body) (are_numbered procs) n in
        let o = none_earlier (left_out_in_proc facts q.params q.body) (left_out_in_procs facts procs) p in (
          proc_built (is_none (map (λ (p : Proc). flat_proc program plan p.hook p.params p.body) procs ++ more)) q.hook q.params q.gives q.body u.1 m.0 o.0
              few.0 sums.0,
          procs_built procs more t.1 m.1 o.1 few.1 sums.1 rest,
        )

    pub all_built : is_numbered_program program ≡ true → IsBuilt program → IsShallow program → SumsWithin most program program.procs →
        AreBuiltProcs (known_of program) most (flat_procs program plan)
    all_built numbered built few sums =
        let t = and_parts (are_typed_procs program program.procs) (is_typed_start program program.start)
        (and_parts (are_declared facts types) _ typed.typed).1 in
        let n = and_parts (are_numbered program.procs) (is_numbered [] program.start) numbered in
        let p = none_earlier (left_out_in_procs facts program.procs) (left_out_in_body facts [] program.start) (none_mapped _ built) in
        let q = and_parts (are_among_types types (body_types [] program.start) && not (is_there (type_of_place program.start.result))) _ t.1 in
        let r = and_parts (are_among_types types (body_types [] program.start)) _ q.0 in
        let f = head_fine [] program.start r.0 few.1 p.1 in
        procs_built program.procs (flat_body program plan None [] program.start ∷ []) t.0 n.0 p.0 few.0 sums
        (λ sum. (
          body_built most true None [] program.start (start_simple program sorted t.1 p.1 few.1.parts) tt f.1 n.1 (λ e. absurd (both_ways true e refl))
              sum,
          tt,
        ))
