-- Where no procedure is too large, the sum of each body is at most the most; and where data isn't either, it is as much as counts.
use Rattle.std.proofs.Common.{◌≡◌, ◌≤◌, Bool, true, false, List, [], ◌∷◌, Option, Some, None, Result, Ok, Err, refl, arith}
use Rattle.std.specs.Prelude.{nat_lt, nat_le, if◌then◌else◌, option_map}
use Rattle.std.proofs.lemmas.Bool.{ltb-false, leb-true}
use Rattle.arc_base.specs.declared.place.Place.{Place}
use Rattle.arc_base.specs.Refusal.{Refusal, and_then}
use Rattle.nim_types.specs.Types.{Facts}
use Rattle.nim_program.specs.declared.expr.Node.{Node}
use Rattle.nim_program.specs.Program.{Declared, Param, Body, Proc, Program}
use Rattle.nim_program.specs.Sizes.{body_sum}
use Rattle.nim_meaning.specs.LeftOut.{◌or_then◌, out_if, earlier, first_left_out}
use Rattle.flattening.specs.BodySums.{sum_if, SumsWithin}
use Rattle.program_limits.specs.Data.{data_counted}
use Rattle.program_limits.specs.Frames.{body_fault, proc_fault, procs_fault, start_fault, frame_fault, unless_fault, frame_limits}
use Rattle.program_limits.specs.Limits.{unless_left_out, unless_large, data_limits, tree_limits}

pub found : {A : Type 0} (node : Node) → Some node ≡ None → A
found node e = cc

refused : {A : Type 0} {r : Refusal} → ◌≡◌ {A = Result (Unit {0}) Refusal} (Err r) (Ok tt) → A
refused e = cc

pub none_first : (a b : Option Node) → earlier a b ≡ None → (a ≡ None) × (b ≡ None)
none_first None b e = (refl, e)
none_first (Some node) None e = found node e
none_first (Some node) (Some other) e = by (nat_lt node.number other.number) e
  where
    by : {A : Type 0} (b : Bool) → out_if b node or_then Some other ≡ None → A
    by true e = found node e
    by false e = found other e

small : (facts : Facts) (globals : List Declared) (params : List Param) (whole : Node) (body : Body) → body_fault facts globals params whole body ≡ None →
    body_sum facts globals params body ≤ 16384
small facts globals params whole body e = by _ (nat_lt 16384 (body_sum facts globals params body)) refl e
  where
    by : (rest : Option Node) (b : Bool) → nat_lt 16384 (body_sum facts globals params body) ≡ b → (if b then Some whole else rest) ≡ None →
        body_sum facts globals params body ≤ 16384
    by rest true n e = found whole e
    by rest false n e = ltb-false 16384 (body_sum facts globals params body) n

module _ (program : Program) where
  proc_small : (params : List Param) (at : Place) (body : Option Body) → proc_fault program.facts program.globals params at body ≡ None →
      sum_if program params body ≤ 16384
  proc_small params at None e = zero_most
    where
      zero_most : 0 ≤ 16384
      zero_most = omega arith
  proc_small params at (Some body) e = small program.facts program.globals params _ body e

  procs_small : (procs : List Proc) → procs_fault program.facts program.globals procs ≡ None →
      start_fault program.facts program.globals program.start ≡ None → SumsWithin 16384 program procs
  procs_small [] e s = small program.facts program.globals [] _ program.start s
  procs_small (p ∷ procs) e s =
      let q = none_first (proc_fault program.facts program.globals p.params p.at p.body) (procs_fault program.facts program.globals procs) e in
      (proc_small p.params p.at p.body q.0, procs_small procs q.1 s)

  -- what is said of the tree, one after another
  rest_ok : (out : Option Place) (rest : Result (Unit {0}) Refusal) → and_then (unless_left_out out) (λ built. rest) ≡ Ok tt → rest ≡ Ok tt
  rest_ok None rest e = e
  rest_ok (Some at) rest e = refused e

  both_ok : (fault : Option Place) (rest : Result (Unit {0}) Refusal) → and_then (unless_fault fault) (λ small. rest) ≡ Ok tt →
      (fault ≡ None) × (rest ≡ Ok tt)
  both_ok None rest e = (refl, e)
  both_ok (Some at) rest e = refused e

  pub unmapped : (o : Option Node) → option_map (λ (node : Node). node.at) o ≡ None → o ≡ None
  unmapped None e = refl
  unmapped (Some node) e = cc

  pub within : tree_limits program ≡ Ok tt → (frame_fault program ≡ None) × (data_limits program ≡ Ok tt)
  within e = both_ok (frame_fault program) (data_limits program)
      (rest_ok (first_left_out program) (and_then (frame_limits program) (λ small. data_limits program)) e)

  pub sums_within : tree_limits program ≡ Ok tt → SumsWithin 16384 program program.procs
  sums_within e =
      let q = none_first (procs_fault program.facts program.globals program.procs) (start_fault program.facts program.globals program.start)
      (unmapped _ (within e).0) in
      procs_small program.procs q.0 q.1

  pub data_few : tree_limits program ≡ Ok tt → data_counted program ≤ 1040384
  data_few e = by (nat_le (data_counted program) 1040384) refl (within e).1
    where
      by : (b : Bool) → nat_le (data_counted program) 1040384 ≡ b → unless_large b ≡ Ok tt → data_counted program ≤ 1040384
      by true n e = leb-true (data_counted program) 1040384 n
      by false n e = refused e
