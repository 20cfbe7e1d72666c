-- A line of an operation with hooks, from what its row does with operands that are there: its value is handed on, or waits where it is used.
use Rattle.std.proofs.Common.{◌≡◌, ℕ, List, [], Option, Some, None, Bool, true, false, refl, sym, ap, subst, ◌∙◌}
use Rattle.std.specs.Prelude.{◌&&◌, ◌||◌}
use Rattle.std.proofs.lemmas.Bool.{and_parts}
use Rattle.nim_types.specs.Table.{facts_in}
use Rattle.nim_program.specs.Kinds.{same_value}
use Rattle.nim_program.specs.View.{if_type}
use Rattle.nim_program.specs.declared.operation.Operation.{Operation}
use Rattle.nim_meaning.specs.Deeds.{Deed, branch, costs, give, looks, perform, unless_gone, ◌>>=◌}
use Rattle.nim_meaning.specs.Here.{any_hooked, gives_hooked}
use Rattle.nim_meaning.specs.OwnedRows.{owned}
use Rattle.nim_meaning.specs.Places.{kept_if}
use Rattle.nim_meaning.specs.Shapes.{waits}
use Rattle.nim_meaning.specs.Table.{does}
use Rattle.nim_meaning.specs.Texts.{are_seen}
use Rattle.nim_meaning.specs.Values.{Operand, Value}
use Rattle.flat_code.specs.declared.block.BlockLine.{BlockLine}
use Rattle.flat_code.specs.declared.line.From.{From}
use Rattle.flat_code.specs.declared.line.UseAt.{UseAt}
use Rattle.flat_code.specs.Fits.{is_value}
use Rattle.flat_code.specs.Codes.{block_does}
use Rattle.flat_code.specs.Lines.{gives, traded, using_all, without_all}
use Rattle.flat_code.specs.Waits.{used_at}
use Rattle.nim_types.specs.Types.{Ty}
use Rattle.flat_code.specs.Running.{scene_of}
use Rattle.flat_code.specs.Scene.{Did, Passes, with_value}
use Rattle.word_lowering.specs.LineCode.{value}
use Rattle.word_lowering.specs.WaitingCode as code
use Rattle.word_lowering.specs.declared.homes.Waiter.{Waiter}
use Rattle.word_lowering.proofs.AllOperands.{Have, using_all_completes}
use Rattle.word_lowering.proofs.ApplyFits.{apply_line, gets_type, of_types}
use Rattle.word_lowering.proofs.HouseHooks.{gives_as}
use Rattle.word_lowering.proofs.KeptLines.{WaitsAt}
use Rattle.word_lowering.proofs.LineFits.{same_type}
use Rattle.word_lowering.proofs.Lines.{Basis, Completes, IsGood, Settles, bound_for, fits_here, known, starts}
use Rattle.word_lowering.proofs.MadeValues.{made_completes}
use Rattle.word_lowering.proofs.OwnedFits.{OwnedRow}
use Rattle.word_lowering.proofs.Related.{Both, body_of, high}
use Rattle.word_lowering.proofs.RowSettles.{perform_on}
use Rattle.word_lowering.proofs.ShapeFacts.{never}
use Rattle.word_lowering.proofs.Sites.{around}
use Rattle.word_lowering.proofs.UsedValues.{used_there}
use Rattle.word_lowering.proofs.ValueFacts.{type_in}

module _ (x : Basis) (g : Both) (rest : List BlockLine) (to : ℕ) (how : UseAt) (operation : Operation) (ty : Option ℕ) (of : List (Option ℕ))
    (from : List From) where
  abbrev line : BlockLine
  line = apply_line x g rest to operation how ty of from

  abbrev here : Both
  here = starts g line rest

  abbrev given : Option Ty
  given = gets_type x g rest to operation how ty of from

  abbrev types : List (Option Ty)
  types = of_types x g rest to operation how ty of from

  abbrev row_of : List Operand → Deed Value
  row_of xs = owned operation (facts_in x.table) given types xs (does operation (facts_in x.table) given types xs)

  -- what the line does, by what it hands over and whether a type of it has hooks
  abbrev does_so : List From → (any : Bool) → List Operand → Did
  does_so over any xs = gives (without_all over (scene_of (high x.table x.blocks here))) to
      (costs 1 (branch any (looks (λ world. unless_gone (are_seen world xs) (row_of xs))) (does operation (facts_in x.table) given types xs))
      >>= kept_if (gives_hooked (facts_in x.table) given) (bound_for g how))

  either : (a b : Bool) → (a || b) ≡ true → (b || a) ≡ true
  either true true h = refl
  either true false h = refl
  either false true h = refl
  either false false h = never h

  module _ (row : OwnedRow x g rest to how operation ty of from) (y : IsGood x here) where
    waits_there : gives_hooked (facts_in x.table) given ≡ true → waits how.how ≡ true → (w : Waiter) × WaitsAt x g.call.site to how.node w
    waits_there h w = by ty refl
      where
        f : same_value (type_in x is_value (body_of g) to) given ≡ true
        f = (and_parts _ (same_value (type_in x is_value (body_of g) to) given) (fits_here x.table x.blocks (body_of g) line rest y.stands)).1

        by : (o : Option ℕ) → ty ≡ o → (w : Waiter) × WaitsAt x g.call.site to how.node w
        by None e = never (sym (ap (λ o. gives_hooked (facts_in x.table) (if_type (known x).types o)) e) ∙ h)
        by (Some n) e =
            used_there x g line rest y (waits how.how) to how n (ap (used_at (known x) (body_of g).proc.places (waits how.how) to how) e) refl refl
            (same_type (type_in x is_value (body_of g) to) given f ∙ ap (if_type (known x).types) e)
            (sym (ap (λ o. gives_hooked (facts_in x.table) (if_type (known x).types o)) e) ∙ h) w

    one : (xs : List Operand) → Have g.call.temps from xs → (b : Bool) → are_seen g.world xs ≡ b
        → Completes x here rest (Passes (perform ((costs 1 (unless_gone b (row_of xs)) >>= kept_if (gives_hooked (facts_in x.table) given) (bound_for g how))
        >>= (λ v. give (with_value to g.call.temps v))) g.world))
    one xs have false e = λ before. tt
    one xs have true e =
        made_completes x g line rest y g.call.temps to how (gives_hooked (facts_in x.table) given)
        (ap (λ b. b && waits how.how) (gives_as x ty))
        (λ b k. ap (λ c. code.kept_if x.table b.own.waiters (value (around x.table x.blocks b)) (c && waits how.how) how.node to k) (gives_as x ty))
        waits_there (costs 1 (row_of xs))
        (subst (λ done. Settles x here rest (Passes done)) (perform_on (costs 1 (row_of xs)) (λ v. give v) (λ v. give (with_value to g.call.temps v)) g.world)
        (row y xs have e))

    -- all of the line, which hands nothing over
    pub owned_completes : (any_hooked (facts_in x.table) types || gives_hooked (facts_in x.table) given) ≡ true
        → traded (any_hooked (facts_in x.table) types) operation from ≡ []
        → Completes x here rest (block_does (known x) (scene_of (high x.table x.blocks here)) line)
    owned_completes h none =
        subst (λ b. Completes x here rest (using_all g.call.temps from (does_so (traded (any_hooked (facts_in x.table) types) operation from) b)))
        (sym (either (any_hooked (facts_in x.table) types) (gives_hooked (facts_in x.table) given) h))
        (subst (λ over. Completes x here rest (using_all g.call.temps from (does_so over true))) (sym none)
        (using_all_completes x here rest g.call.temps from (does_so [] true) (λ xs have. one xs have (are_seen g.world xs) refl)))
