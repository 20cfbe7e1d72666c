-- The declared places of a body: they have types that are built, and few bytes.
use Rattle.std.proofs.Common.{◌≡◌, ℕ, ◌+◌, ◌≤◌, Bool, true, false, List, [], ◌∷◌, ◌++◌, Option, Some, None, refl, ap}
use Rattle.std.proofs.Common.{arith}
use Rattle.std.specs.Prelude.{◌&&◌, not, if◌then◌else◌}
use Rattle.std.proofs.lemmas.Bool.{and_from, both_ways}
use Rattle.nim_types.specs.Types.{Ty, Facts}
use Rattle.nim_program.specs.declared.program.Mode.{Mode}
use Rattle.nim_program.specs.declared.program.Mode.TheVariants.{Plain, Sink, Var}
use Rattle.nim_program.specs.Folds.{numbers, total_in, total_of, if_declared}
use Rattle.nim_program.specs.Program.{Declared, While, Count, Each, Stmt, Do, Idle, Give, Leave, Select, Loop, Raise, Try}
use Rattle.nim_program.specs.Program.{Stmts, Empty, Then, Declare, Defer, Blocks, Otherwise, Block, Param}
use Rattle.nim_program.specs.Sizes.{type_bytes, own_bytes, is_global, params_sum, if_place_bytes}
use Rattle.nim_program.specs.Typed.{param_declared}
use Rattle.nim_program.proofs.ForCallers.{sum_of_blocks, in_turn_sum}
use Rattle.nim_meaning.specs.Here.{is_hooked}
use Rattle.nim_meaning.specs.Shapes.{mode_of}
use Rattle.flat_code.specs.declared.place.FlatPlace.{FlatPlace}
use Rattle.flat_code.specs.declared.place.PlaceKind.{PlaceKind}
use Rattle.flat_code.specs.declared.place.PlaceKind.TheVariants as K
use Rattle.flat_code.specs.Sizes.{lent_bytes, places_bytes}
use Rattle.flattening.specs.PlaceViews.{kind_declared, declared_by, declared_in, declared_in_blocks}
use Rattle.flattening.specs.Places.{taken_as, kind_of_param, of_declared, param_places, result_places}
use Rattle.flat_code.specs.BuiltCode.{AreBuiltPlaces, is_param, params_among, no_params, params_lead, is_handed, handed_among, none_handed, handed_lead}
use Rattle.flattening.proofs.FitBodies as bodies
use Rattle.flattening.proofs.Parts.{Each as EachOf}
use Rattle.flattening.proofs.Simple.{IsFine, IsSimpleStmt, AreSimpleStmts, AreSimpleBlocks}
use Rattle.flattening.proofs.Covers.{known, bytes_least, bytes_both, built_both, place_built, value_bytes as bytes_same}

module _ (types : List Ty) (facts : Facts) (modes : (proc position : ℕ) → Mode) (sinks : List ℕ) (globals : List Declared) where
  abbrev bytes : List FlatPlace → ℕ
  bytes places = places_bytes (known types facts) places

  -- ---- declared places

  abbrev WS : Stmt → ℕ
  WS s = total_in numbers (own_bytes facts globals) s

  abbrev WB : Stmts → ℕ
  WB b = total_of numbers (own_bytes facts globals) b

  abbrev WBs : Blocks → ℕ
  WBs blocks = sum_of_blocks numbers (own_bytes facts globals) blocks

  -- they are of what is built, and take no more than counts
  abbrev pub Small : List FlatPlace → (most : ℕ) → Type 0
  Small places most = AreBuiltPlaces (known types facts) places × (bytes places ≤ most)

  both_small : (xs ys : List FlatPlace) (m n most : ℕ) → Small xs m → Small ys n → m + n ≤ most → Small (xs ++ ys) most
  both_small xs ys m n most p q le =
      let e = bytes_both types facts xs ys in
      let h = p.1 in
      let i = q.1 in
      (built_both types facts xs ys p.0 q.0, omega (arith, e, h, i, le))

  none_small : (most : ℕ) → Small [] most
  none_small most = (tt, omega arith)

  one_small : (kind : PlaceKind) (d : Declared) (rest : List FlatPlace) (m n most : ℕ) → IsFine types facts d.of →
      lent_bytes kind (is_hooked facts d.of) (type_bytes facts d.of) ≤ m → Small rest n → m + n ≤ most →
      Small (of_declared types facts modes kind d ∷ rest) most
  one_small kind d rest m n most f l q le =
      let e = ap (lent_bytes kind (is_hooked facts d.of)) (bytes_same types facts d.of f.0.0) in
      let j = q.1 in
      ((place_built types facts modes None d.number (record { number = 0; at = d.at }) kind d.of f, q.0), omega (arith, e, l, j, le))

  -- what is no parameter isn't lent
  local_bytes : (b c hooked : Bool) (n : ℕ) → lent_bytes (if b then K.Global else if c then K.Cursor else K.Local) hooked n ≤ (if b then 0 else n)
  local_bytes true c hooked n = omega arith
  local_bytes false true hooked n = omega arith
  local_bytes false false hooked n = omega arith

  mutual
    stmt_small : (s : Stmt) → IsSimpleStmt types facts s → Small (declared_by types facts modes (is_global globals) s) (WS s)
    stmt_small (Do value) s = none_small _
    stmt_small (Idle node parts) s = none_small _
    stmt_small (Give node back value) s = none_small _
    stmt_small (Leave node leaving parts) s = none_small _
    stmt_small (Select node chooser tests blocks) s =
        let h = blocks_small blocks s.2 in
        let i = h.1 in
        let j = in_turn_sum (own_bytes facts globals) tests blocks in
        (h.0, omega (arith, i, j))
    stmt_small (Loop node While head body) s = let h = block_small body s.3 in let i = h.1 in (h.0, omega (arith, i))
    stmt_small (Loop node (Count variable inclusive) head body) s =
        one_small K.ForVar variable (declared_in types facts modes (is_global globals) body) (type_bytes facts variable.of) (WB body) _ s.1 (omega arith)
        (block_small body s.3) (omega arith)
    stmt_small (Loop node (Each variable) head body) s =
        one_small K.ForVar variable (declared_in types facts modes (is_global globals) body) (type_bytes facts variable.of) (WB body) _ s.1 (omega arith)
        (block_small body s.3) (omega arith)
    stmt_small (Raise node exception message) s = absurd s
    stmt_small (Try node body handlers last) s = absurd s

    pub block_small : (b : Stmts) → AreSimpleStmts types facts b → Small (declared_in types facts modes (is_global globals) b) (WB b)
    block_small Empty s = none_small _
    block_small (Then first rest) s =
        both_small (declared_by types facts modes (is_global globals) first) (declared_in types facts modes (is_global globals) rest) (WS first) (WB rest) _
        (stmt_small first s.0) (block_small rest s.1) (omega arith)
    block_small (Declare node d cursor value rest) s =
        one_small (kind_declared (is_global globals) d.number cursor) d (declared_in types facts modes (is_global globals) rest)
        (if is_global globals d.number then 0 else type_bytes facts d.of) (WB rest) _ s.0
        (local_bytes (is_global globals d.number) cursor (is_hooked facts d.of) (type_bytes facts d.of)) (block_small rest s.2) (omega arith)
    block_small (Defer node last rest) s = absurd s

    pub blocks_small : (blocks : Blocks) → AreSimpleBlocks types facts blocks →
        Small (declared_in_blocks types facts modes (is_global globals) blocks) (WBs blocks)
    blocks_small (Otherwise b) s = block_small b s
    blocks_small (Block first rest) s =
        both_small (declared_in types facts modes (is_global globals) first) (declared_in_blocks types facts modes (is_global globals) rest) (WB first)
        (WBs rest) _
        (block_small first s.0) (blocks_small rest s.1) (omega arith)

  -- ---- parameters and the result

  param_bytes : (mode : Mode) (hooked : Bool) (n : ℕ) → 4 ≤ n → lent_bytes (K.Param mode) hooked n ≤ n
  param_bytes Plain true n l = l
  param_bytes Plain false n l = omega arith
  param_bytes Sink hooked n l = omega arith
  param_bytes Var hooked n l = l

  pub params_small : (params : List Param) → EachOf (λ (d : Declared). IsFine types facts d.of) (param_declared params) →
      Small (param_places types facts modes sinks params) (params_sum facts params)
  params_small [] f = none_small _
  params_small (p ∷ params) f =
      let mode = taken_as p.mode (mode_of sinks p) in
      let l = param_bytes mode (is_hooked facts p.place.of) (type_bytes facts p.place.of) (bytes_least facts p.place.of) in
      one_small (K.Param mode) p.place (param_places types facts modes sinks params) (type_bytes facts p.place.of) (params_sum facts params) _
      f.0 l (params_small params f.1) (omega arith)

  pub result_small : (result : Option Declared) → EachOf (λ (d : Declared). IsFine types facts d.of) (if_declared result) →
      Small (result_places types facts modes result) (if_place_bytes facts result)
  result_small None f = none_small _
  result_small (Some d) f = one_small K.Result d [] (type_bytes facts d.of) 0 _ f.0 (omega arith) (none_small 0) (omega arith)

  -- ---- which are parameters

  pub others_none : (ps : List FlatPlace) → bodies.Others ps → no_params ps ≡ true
  others_none [] h = refl
  others_none (p ∷ ps) h = and_from _ _ (other p.kind h.0) (others_none ps h.1)
    where
      other : (kind : PlaceKind) → bodies.is_other kind ≡ true → not (is_param kind) ≡ true
      other (K.Param mode) e = absurd (both_ways false refl e)
      other K.Result e = refl
      other K.Local e = refl
      other K.Cursor e = refl
      other K.ForVar e = refl
      other K.Caught e = refl
      other K.Global e = refl
      other K.Temp e = refl
      other K.Location e = refl
      other K.Within e = refl
      other K.Counter e = refl

  pub result_none : (result : Option Declared) (ps : List FlatPlace) → no_params ps ≡ true → no_params (result_places types facts modes result ++ ps) ≡ true
  result_none None ps h = h
  result_none (Some d) ps h = h

  lead_none : (ps : List FlatPlace) → no_params ps ≡ true → params_lead ps ≡ true
  lead_none [] h = refl
  lead_none (p ∷ ps) h = at (is_param p.kind) h
    where
      at : (b : Bool) → not b && no_params ps ≡ true → (if b then params_lead ps else no_params ps) ≡ true
      at true e = absurd (both_ways false refl e)
      at false e = e

  among_none : (ps : List FlatPlace) → no_params ps ≡ true → params_among ps ≡ []
  among_none [] h = refl
  among_none (p ∷ ps) h = at (is_param p.kind) h (λ e. among_none ps e)
    where
      at : (b : Bool) → not b && no_params ps ≡ true → (no_params ps ≡ true → params_among ps ≡ []) →
          (if b then p ∷ params_among ps else params_among ps) ≡ []
      at true e rest = absurd (both_ways false refl e)
      at false e rest = rest e

  pub params_first : (params : List Param) (ps : List FlatPlace) → no_params ps ≡ true → params_lead (param_places types facts modes sinks params ++ ps) ≡ true
  params_first [] ps h = lead_none ps h
  params_first (p ∷ params) ps h = params_first params ps h

  pub params_are : (params : List Param) (ps : List FlatPlace) → no_params ps ≡ true →
      params_among (param_places types facts modes sinks params ++ ps) ≡ param_places types facts modes sinks params
  params_are [] ps h = among_none ps h
  params_are (p ∷ params) ps h = ap (λ qs. of_declared types facts modes (kind_of_param sinks p) p.place ∷ qs) (params_are params ps h)

  -- ---- which a call hands on and back

  pub others_apart : (ps : List FlatPlace) → bodies.Others ps → none_handed ps ≡ true
  others_apart [] h = refl
  others_apart (p ∷ ps) h = and_from _ _ (other p.kind h.0) (others_apart ps h.1)
    where
      other : (kind : PlaceKind) → bodies.is_other kind ≡ true → not (is_handed kind) ≡ true
      other (K.Param mode) e = absurd (both_ways false refl e)
      other K.Result e = absurd (both_ways false refl e)
      other K.Local e = refl
      other K.Cursor e = refl
      other K.ForVar e = refl
      other K.Caught e = refl
      other K.Global e = refl
      other K.Temp e = refl
      other K.Location e = refl
      other K.Within e = refl
      other K.Counter e = refl

  none_lead : (ps : List FlatPlace) → none_handed ps ≡ true → handed_lead ps ≡ true
  none_lead [] h = refl
  none_lead (p ∷ ps) h = at (is_handed p.kind) h
    where
      at : (b : Bool) → not b && none_handed ps ≡ true → (if b then handed_lead ps else none_handed ps) ≡ true
      at true e = absurd (both_ways false refl e)
      at false e = e

  none_among : (ps : List FlatPlace) → none_handed ps ≡ true → handed_among ps ≡ []
  none_among [] h = refl
  none_among (p ∷ ps) h = at (is_handed p.kind) h (λ e. none_among ps e)
    where
      at : (b : Bool) → not b && none_handed ps ≡ true → (none_handed ps ≡ true → handed_among ps ≡ []) →
          (if b then p ∷ handed_among ps else handed_among ps) ≡ []
      at true e rest = absurd (both_ways false refl e)
      at false e rest = rest e

  pub handed_first : (params : List Param) (result : Option Declared) (ps : List FlatPlace) → none_handed ps ≡ true →
      handed_lead (param_places types facts modes sinks params ++ (result_places types facts modes result ++ ps)) ≡ true
  handed_first [] None ps h = none_lead ps h
  handed_first [] (Some d) ps h = none_lead ps h
  handed_first (p ∷ params) result ps h = handed_first params result ps h

  pub handed_are : (params : List Param) (result : Option Declared) (ps : List FlatPlace) → none_handed ps ≡ true →
      handed_among (param_places types facts modes sinks params ++ (result_places types facts modes result ++ ps))
      ≡ param_places types facts modes sinks params ++ result_places types facts modes result
  handed_are [] None ps h = none_among ps h
  handed_are [] (Some d) ps h = ap (λ qs. of_declared types facts modes K.Result d ∷ qs) (none_among ps h)
  handed_are (p ∷ params) result ps h = ap (λ qs. of_declared types facts modes (kind_of_param sinks p) p.place ∷ qs) (handed_are params result ps h)
