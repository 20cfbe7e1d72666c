-- A value with hooks is passed on: its bits are moved, and then it is handed on or waits.
use Rattle.std.proofs.Common.{◌≡◌, ◌≤◌, inl, ℕ, ◌+◌, ◌<◌, List, Some, true, false, refl, sym, ap, ◌∙◌, arith}
use Rattle.std.specs.Prelude.{◌&&◌}
use Rattle.std.proofs.lemmas.Bool.{and_parts}
use Rattle.nim_types.specs.Table.{facts_in, type_at}
use Rattle.nim_types.specs.Types.{Ty}
use Rattle.nim_program.specs.Kinds.{same_value}
use Rattle.nim_meaning.specs.Deeds.{costs, give}
use Rattle.nim_meaning.specs.Here.{gives_hooked}
use Rattle.nim_meaning.specs.Shapes.{waits}
use Rattle.nim_meaning.specs.Steps.{handed_by}
use Rattle.nim_meaning.specs.Values.{bytes}
use Rattle.flat_code.specs.declared.block.BlockLine.{BlockLine}
use Rattle.flat_code.specs.declared.line.Line.TheVariants as L
use Rattle.flat_code.specs.declared.line.UseAt.{UseAt}
use Rattle.flat_code.specs.Fits.{is_value}
use Rattle.flat_code.specs.Lines.{gives}
use Rattle.flat_code.specs.Running.{scene_of}
use Rattle.flat_code.specs.Shapes.{shape_of}
use Rattle.word_lowering.specs.LineCode.{value}
use Rattle.word_lowering.specs.WaitingCode.{kept_if}
use Rattle.word_lowering.proofs.AllOperands.{using_completes}
use Rattle.word_lowering.proofs.ControlLines.{plain}
use Rattle.word_lowering.proofs.HookedMoves.{bits_read, bits_target, bits_to_value}
use Rattle.word_lowering.proofs.HouseHooks.{hooks_as}
use Rattle.word_lowering.proofs.LineFits.{same_type}
use Rattle.word_lowering.proofs.Lines.{Basis, bound_for, fits_here, known, starts, Whole}
use Rattle.word_lowering.proofs.MadeValues.{made_completes}
use Rattle.word_lowering.proofs.Related.{Both, body_of, high}
use Rattle.word_lowering.proofs.Scenes.{house, looked, of_value}
use Rattle.word_lowering.proofs.Settling.{code_next}
use Rattle.word_lowering.proofs.Sites.{around, is_one_word}
use Rattle.word_lowering.proofs.SitesApart.{houses}
use Rattle.word_lowering.proofs.StoredLater.{shape_some}
use Rattle.word_lowering.proofs.Moves.{passes_there}
use Rattle.word_lowering.proofs.Targets.{home_of_value}
use Rattle.word_lowering.proofs.UsedValues.{used_there}
use Rattle.word_lowering.proofs.ValueFacts.{has_type, look_of, type_in}

module _ (x : Basis) (g : Both) (rest : List BlockLine) (to from : ℕ) (how : UseAt) (ty : ℕ) where
  abbrev passing : BlockLine
  passing = plain (L.Pass to from how (Some ty))

  abbrev of : Ty
  of = type_at (known x).types ty

  pub pass_hooked : gives_hooked (facts_in x.table) (Some of) ≡ true → Whole x g rest passing
  pass_hooked hooks y =
      let f = and_parts (same_value (type_in x is_value (body_of g) to) (type_in x is_value (body_of g) from))
      (same_value (type_in x is_value (body_of g) to) (Some of)) (fits_here x.table x.blocks (body_of g) passing rest y.stands) in
      let typed : type_in x is_value (body_of g) to ≡ Some of = same_type (type_in x is_value (body_of g) to) (Some of) f.1 in
      let from_typed : type_in x is_value (body_of g) from ≡ Some of
      = sym (same_type (type_in x is_value (body_of g) to) (type_in x is_value (body_of g) from) f.0) ∙ typed in
      let n = has_type x g.call.site (of_value to) of y.linked.0 typed in
      let m = has_type x g.call.site (of_value from) of y.linked.0 from_typed in
      let many : is_one_word (shape_of (facts_in x.table) of) ≡ false
      = sym (ap is_one_word (look_of x g.call.site (of_value to) of n))
      ∙ (y.linked.0.built (house g.call.site (of_value to)) n.named.among (hooks_as x g.call.site y.linked.0 (of_value to) of typed ∙ hooks)).1 in
      let there = home_of_value x g passing rest y from (inl refl) m.named in
      let target = bits_target x g passing rest y to of refl refl typed many in
      let some : 4 ≤ (house g.call.site (of_value from)).bytes
      = (let s = shape_some (looked x.table g.call.site (of_value from)) in
      let h = (houses x.table x.blocks g.call.site (of_value from) y.linked.0 there).bytes in omega (arith, s, h)) in
      using_completes x (starts g passing rest) rest g.call.temps (g.call.temps.values from)
      (λ v. gives (scene_of (high x.table x.blocks (starts g passing rest))) to (costs 1 (handed_by (facts_in x.table) (bound_for g how) (Some of) v)))
      (λ v e. made_completes x g passing rest y g.call.temps to how (gives_hooked (facts_in x.table) (Some of))
      (ap (λ b. b && waits how.how) (x.hooks ty))
      (λ b k. ap (λ c. kept_if x.table b.own.waiters (value (around x.table x.blocks b)) (c && waits how.how) how.node to k) (x.hooks ty))
      (λ h w. used_there x g passing rest y (waits how.how) to how ty refl refl refl typed h w)
      (costs 1 (costs (bytes v) (give v)))
      (bits_to_value x g passing rest y to (shape_of (facts_in x.table) of) v target (house g.call.site (of_value from))
      (bits_read x g passing rest y from v of from_typed there many e)
      (passes_there (house g.call.site (of_value from)).bytes (house g.call.site (of_value to)) (house g.call.site (of_value from))
      (code_next x g passing rest y) some)
      (1 + (bytes v + 0)) (omega arith)))
