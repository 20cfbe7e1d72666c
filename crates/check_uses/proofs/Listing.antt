-- What occurs in procedures, by their lists.
use Rattle.std.proofs.Common.{◌≡◌, ℕ, ◌+◌, ◌<◌, List, [], ◌∷◌, ◌++◌, length, drop, get_or, refl, sym, ap, ◌∙◌}
use Rattle.std.proofs.Common.{append_assoc, add-one, Option, Some, None, map}
use Rattle.std.proofs.lemmas.List.{map-append}
use Rattle.std.specs.Prelude.{option_map, slice_get}
use Rattle.std.proofs.lemmas.Option.{slice_get-map}
use Rattle.nim_program.specs.declared.program.Proc.{Proc as RustProc}
use Rattle.nim_program.specs.declared.program.Body.{Body as RustBody}
use Rattle.nim_program.specs.View.{proc_of, body_of}
use Rattle.decl_rules.specs.Occurrences.{Occurrence, in_block}
use Rattle.decl_rules.specs.Whole.{in_body, in_proc, occurring}
use Rattle.check_uses.specs.declared.uses.Occurrence.{Occurrence as RustOccurrence}
use Rattle.check_uses.specs.Uses.{seen, in_procedure, uses_at, AreListed}
use Rattle.check_uses.proofs.Adding.{drop_at, at_index}
use Rattle.check_uses.specs.View.{block_of, block_at}

abbrev or_none : Option (List Occurrence) → List Occurrence
or_none None = []
or_none (Some all) = all

uses_are : (found : Option (List RustOccurrence)) → uses_at found ≡ or_none (option_map seen found)
uses_are None = refl
uses_are (Some uses) = refl

procs_are : (found : Option RustProc) → or_none (option_map in_procedure found) ≡ in_proc (option_map (proc_of []) found)
procs_are None = refl
procs_are (Some p) = refl

-- of the procedure with a number
pub listed_at : (procs : List RustProc) (uses : List (List RustOccurrence)) (p : ℕ) → AreListed procs uses →
    uses_at (slice_get uses p) ≡ occurring (map (proc_of []) procs) p
listed_at procs uses p h =
    uses_are (slice_get uses p) ∙ ap or_none (sym (slice_get-map seen uses p) ∙ ap (λ l. slice_get l p) h ∙ slice_get-map in_procedure procs p) ∙
    procs_are (slice_get procs p) ∙ ap in_proc (sym (slice_get-map (proc_of []) procs p))

body_is : (body : Option RustBody) → in_body (option_map (body_of []) body) ≡ in_block (block_of [] body)
body_is None = refl
body_is (Some body) = refl

block_is : (found : Option RustProc) → in_proc (option_map (proc_of []) found) ≡ in_block (block_at [] found)
block_is None = refl
block_is (Some p) = body_is p.body

-- of a body that the text comes to
pub body_listed : (procs : List RustProc) (uses : List (List RustOccurrence)) (p : ℕ) → AreListed procs uses →
    uses_at (slice_get uses p) ≡ in_block (block_at [] (slice_get procs p))
body_listed procs uses p h = listed_at procs uses p h ∙ ap in_proc (slice_get-map (proc_of []) procs p) ∙ block_is (slice_get procs p)

-- one more procedure
pub procs_next : (old new : List (List RustOccurrence)) (uses : List RustOccurrence) (procs : List RustProc) (i : ℕ) (p : RustProc)
    (whole : List (List Occurrence)) → i < length procs → p ≡ get_or procs i p → map seen old ++ map in_procedure (drop i procs) ≡ whole →
    new ≡ old ++ uses ∷ [] → seen uses ≡ in_procedure p → map seen new ++ map in_procedure (drop (i + 1) procs) ≡ whole
procs_next old new uses procs i p whole l e h f k =
    let rest = map in_procedure (drop (i + 1) procs) in
    let next = drop_at procs i p (at_index procs i p l e) ∙ ap (λ n. p ∷ drop n procs) (sym (add-one i)) in
    ap (λ z. map seen z ++ rest) f ∙ ap (λ z. z ++ rest) (map-append seen old (uses ∷ [])) ∙ append_assoc (map seen old) (seen uses ∷ []) rest ∙
    ap (λ u. map seen old ++ u ∷ rest) k ∙ sym (ap (λ z. map seen old ++ map in_procedure z) next) ∙ h
