-- Bodies of a typed program are simple where nothing is left out.
use Rattle.std.proofs.Common.{◌≡◌, ℕ, true, List, [], ◌∷◌, ◌++◌, Option, Some, None}
use Rattle.std.specs.Prelude.{◌&&◌, not, map}
use Rattle.std.proofs.lemmas.Bool.{and_parts}
use Rattle.nim_types.specs.Types.{Ty, Facts}
use Rattle.nim_program.specs.declared.expr.Node.{Node}
use Rattle.nim_program.specs.Program.{Declared, Param, Body, Program}
use Rattle.nim_program.specs.Folds.{lists, total_of, if_declared}
use Rattle.nim_program.specs.Kinds.{is_among_types, is_there, are_among_types}
use Rattle.nim_program.specs.Scopes.{Placed, placed}
use Rattle.nim_program.specs.Typed.{own_types, type_if, part_types, place_types, param_declared, body_types, type_of_place, is_empty, is_typed_body, before}
use Rattle.nim_program.specs.Typed.{procedure}
use Rattle.nim_program.specs.Typed.{is_typed_start}
use Rattle.nim_meaning.specs.LeftOut.{left_out_in_head, left_out_in_block, left_out_in_body, first_of}
use Rattle.flat_code.proofs.ForCallers.{AreSorted}
use Rattle.nim_program.proofs.ForCallers.{Relates, related_of}
use Rattle.flattening.specs.Shallow.{shown_by, shown_types, AreShallow}
use Rattle.flattening.proofs.Parts.{Each, apart, both}
use Rattle.flattening.proofs.Plain.{neither}
use Rattle.flattening.proofs.Simple.{IsListed, AreSimpleStmts}
use Rattle.flattening.proofs.Simples.{block_simple, code_simple}

pub among_all : (types tys : List Ty) → are_among_types types tys ≡ true → Each (λ (t : Ty). is_among_types types t ≡ true) tys
among_all types [] h = tt
among_all types (ty ∷ tys) h =
    let q = and_parts (is_among_types types ty) (are_among_types types tys) h in (q.0, among_all types tys q.1)

pub all_listed : (types : List Ty) (facts : Facts) (tys : List Ty) → Each (λ (t : Ty). is_among_types types t ≡ true) tys → AreShallow facts tys →
    Each (IsListed types facts) tys
all_listed types facts [] h few = tt
all_listed types facts (ty ∷ tys) h few = ((h.0, few.0), all_listed types facts tys h.1 few.1)

module _ (program : Program) (sorted : AreSorted program.facts) where
  abbrev types : List Ty
  types = program.types

  abbrev facts : Facts
  facts = program.facts

  abbrev globals : List Placed
  globals = map placed program.globals

  -- of all types that stand there those of which there are places
  abbrev Shows : List Ty → List Ty → Type 0
  Shows tys shown = Each (λ (t : Ty). is_among_types types t ≡ true) tys → Each (λ (t : Ty). is_among_types types t ≡ true) shown

  own_shown : (ty : Option Ty) (places : List Declared) (node : Option Node) (more : List Ty) →
      Shows (place_types places ++ (type_if ty ++ more)) (shown_by ty places node)
  own_shown ty places None more h = tt
  own_shown ty [] (Some node) more h = (apart (λ (t : Ty). is_among_types types t ≡ true) (type_if ty) more h).0
  own_shown ty (place ∷ places) (Some node) more h =
      (apart (λ (t : Ty). is_among_types types t ≡ true) (place_types (place ∷ places)) (type_if ty ++ more) h).0

  shows : Relates lists lists own_types shown_types Shows
  shows = record {
    none = λ h. tt;
    plus = λ xs ys us vs h k all.
        let q = apart (λ (t : Ty). is_among_types types t ≡ true) xs ys all in both (λ (t : Ty). is_among_types types t ≡ true) us vs (h q.0) (k q.1);
    own = λ seen. own_shown seen.ty seen.places seen.node (part_types seen.part);
  }

  among_stmts : (params : List Param) (body : Body) → are_among_types types (body_types params body) ≡ true →
      Each (λ (t : Ty). is_among_types types t ≡ true) (total_of lists own_types body.stmts)
  among_stmts params body h =
      (apart (λ (t : Ty). is_among_types types t ≡ true) (place_types (if_declared body.result)) (total_of lists own_types body.stmts)
      (apart (λ (t : Ty). is_among_types types t ≡ true) (place_types (param_declared params))
      (place_types (if_declared body.result) ++ total_of lists own_types body.stmts) (among_all types (body_types params body) h)).1).1

  listed_stmts : (params : List Param) (body : Body) → are_among_types types (body_types params body) ≡ true →
      AreShallow facts (total_of lists shown_types body.stmts) → Each (IsListed types facts) (total_of lists shown_types body.stmts)
  listed_stmts params body h few =
      all_listed types facts (total_of lists shown_types body.stmts)
      (related_of lists lists own_types shown_types Shows shows body.stmts (among_stmts params body h)) few

  pub proc_simple : (dest : Option ℕ) (params : List Param) (gives : Option Ty) (body : Body) → is_typed_body program dest params gives body ≡ true →
      left_out_in_body facts params body ≡ None → AreShallow facts (total_of lists shown_types body.stmts) → AreSimpleStmts types facts body.stmts
  proc_simple dest params gives body h p few =
      let q = and_parts (are_among_types types (body_types params body) && _) _ h in
      let r = and_parts (are_among_types types (body_types params body)) _ q.0 in
      let b = (and_parts (not (is_empty body.stmts)) _ q.1).1 in
      block_simple types facts sorted program.procs globals (before program body.first) dest
      (map placed (param_declared params ++ if_declared body.result)) (procedure gives) body.stmts b
      (neither (left_out_in_head facts (first_of body.stmts) (map (λ (p : Param). p.place) params ++ if_declared body.result))
      (left_out_in_block facts body.stmts) p).1
      (listed_stmts params body r.0 few)

  pub start_simple : is_typed_start program program.start ≡ true → left_out_in_body facts [] program.start ≡ None →
      AreShallow facts (total_of lists shown_types program.start.stmts) → AreSimpleStmts types facts program.start.stmts
  start_simple h p few =
      let q = and_parts (are_among_types types (body_types [] program.start) && not (is_there (type_of_place program.start.result))) _ h in
      let r = and_parts (are_among_types types (body_types [] program.start)) _ q.0 in
      code_simple types facts sorted program.procs globals 0 (map placed (if_declared program.start.result)) None program.start.stmts q.1
      (neither (left_out_in_head facts (first_of program.start.stmts) (if_declared program.start.result)) (left_out_in_block facts program.start.stmts) p).1
      (listed_stmts [] program.start r.0 few)
