use Rattle.std.proofs.Common.{[], ◌∷◌, ap, sym, refl, ◌∙◌, Some, None}
use Rattle.std.specs.Prelude.{option_map}
use Rattle.nim_types.specs.Types as type
use Rattle.nim_types.specs.Table.{IsBelow}
use Rattle.nim_program.specs.declared.operation.Measure.TheVariants as measure
use Rattle.nim_program.specs.declared.operation.Operation.TheVariants as operation
use Rattle.nim_program.specs.declared.operation.Operator.TheVariants as operator
use Rattle.nim_program.specs.Nodes.{one_path}
use Rattle.nim_program.specs.Program.{Apply, Doing}
use Rattle.expr_operations.specs.declared.built_in.Hand.TheVariants as hand
use Rattle.expr_operations.specs.declared.built_in.Makes.{Makes}
use Rattle.expr_rules.specs.Answers.{value}
use Rattle.expr_rules.specs.Builtins.{done, first_row, has_length, is_int, is_ordinal, is_shown, popped}
use Rattle.expr_rules.specs.Paths.{path_of}
use Rattle.expr_operations.specs.ViewOperations.{rows_of, done_by}
use Rattle.expr_operations.proofs.Written.{row_if, pop_row, some_if, pop_within}
use Rattle.expr_operations.proofs.built_in.makes_of_value.Goals as goal

pub returns-in-Len-clause-makes : goal.returns-in-Len-clause-makes
returns-in-Len-clause-makes c = λ ts v k e t n.
    let m : Makes = record { hand = hand.InPlace; ty = Some c.args.kinds.int; operation = operation.Measure measure.Len } in
    ap (λ o. first_row n (rows_of o) (value v ∷ [])) c.in-Len.is
    ∙ row_if ts n v m (Some type.int) (has_length v.of) c.has_length.result c.made_if.result (ap has_length e ∙ c.has_length.ensures ts)
    (ap Some (sym k.int)) c.made_if.ensures

pub returns-in-Len-clause-within : goal.returns-in-Len-clause-within
returns-in-Len-clause-within c = λ n k w t.
    let m : Makes = record { hand = hand.InPlace; ty = Some c.args.kinds.int; operation = operation.Measure measure.Len } in
    some_if (λ m. IsBelow n m.ty) c.has_length.result m c.made_if.result c.made_if.ensures k.int

pub returns-in-High-clause-makes : goal.returns-in-High-clause-makes
returns-in-High-clause-makes c = λ ts v k e t n.
    let m : Makes = record { hand = hand.InPlace; ty = Some c.args.kinds.int; operation = operation.Measure measure.High } in
    ap (λ o. first_row n (rows_of o) (value v ∷ [])) c.in-High.is
    ∙ row_if ts n v m (Some type.int) (has_length v.of) c.has_length-in-High.result c.made_if-in-High.result
    (ap has_length e ∙ c.has_length-in-High.ensures ts) (ap Some (sym k.int)) c.made_if-in-High.ensures

pub returns-in-High-clause-within : goal.returns-in-High-clause-within
returns-in-High-clause-within c = λ n k w t.
    let m : Makes = record { hand = hand.InPlace; ty = Some c.args.kinds.int; operation = operation.Measure measure.High } in
    some_if (λ m. IsBelow n m.ty) c.has_length-in-High.result m c.made_if-in-High.result c.made_if-in-High.ensures k.int

pub returns-in-Ord-clause-makes : goal.returns-in-Ord-clause-makes
returns-in-Ord-clause-makes c = λ ts v k e t n.
    let m : Makes = record { hand = hand.AsValue; ty = Some c.args.kinds.int; operation = operation.Convert } in
    ap (λ o. first_row n (rows_of o) (value v ∷ [])) c.in-Ord.is
    ∙ row_if ts n v m (Some type.int) (is_ordinal v.of) c.is_ordinal.result c.made_if-in-Ord.result (ap is_ordinal e ∙ c.is_ordinal.ensures ts)
    (ap Some (sym k.int)) c.made_if-in-Ord.ensures

pub returns-in-Ord-clause-within : goal.returns-in-Ord-clause-within
returns-in-Ord-clause-within c = λ n k w t.
    let m : Makes = record { hand = hand.AsValue; ty = Some c.args.kinds.int; operation = operation.Convert } in
    some_if (λ m. IsBelow n m.ty) c.is_ordinal.result m c.made_if-in-Ord.result c.made_if-in-Ord.ensures k.int

pub returns-in-Chr-clause-makes : goal.returns-in-Chr-clause-makes
returns-in-Chr-clause-makes c = λ ts v k e t n.
    let m : Makes = record { hand = hand.AsValue; ty = Some c.args.kinds.char; operation = operation.Convert } in
    ap (λ o. first_row n (rows_of o) (value v ∷ [])) c.in-Chr.is
    ∙ row_if ts n v m (Some type.char) (is_int v.of) c.is_int.result c.made_if-in-Chr.result (ap is_int e ∙ c.is_int.ensures ts)
    (ap Some (sym k.char)) c.made_if-in-Chr.ensures

pub returns-in-Chr-clause-within : goal.returns-in-Chr-clause-within
returns-in-Chr-clause-within c = λ n k w t.
    let m : Makes = record { hand = hand.AsValue; ty = Some c.args.kinds.char; operation = operation.Convert } in
    some_if (λ m. IsBelow n m.ty) c.is_int.result m c.made_if-in-Chr.result c.made_if-in-Chr.ensures k.char

pub returns-in-Dollar-clause-makes : goal.returns-in-Dollar-clause-makes
returns-in-Dollar-clause-makes c = λ ts v k e t n.
    let m : Makes = record { hand = hand.AsValue; ty = Some c.args.kinds.text; operation = operation.Show } in
    ap (λ o. first_row n (rows_of o) (value v ∷ [])) c.in-Dollar.is
    ∙ row_if ts n v m (Some type.text) (is_shown v.of) c.is_shown.result c.made_if-in-Dollar.result (ap is_shown e ∙ c.is_shown.ensures ts)
    (ap Some (sym k.text)) c.made_if-in-Dollar.ensures

pub returns-in-Dollar-clause-within : goal.returns-in-Dollar-clause-within
returns-in-Dollar-clause-within c = λ n k w t.
    let m : Makes = record { hand = hand.AsValue; ty = Some c.args.kinds.text; operation = operation.Show } in
    some_if (λ m. IsBelow n m.ty) c.is_shown.result m c.made_if-in-Dollar.result c.made_if-in-Dollar.ensures k.text

pub returns-in-Quit-clause-makes : goal.returns-in-Quit-clause-makes
returns-in-Quit-clause-makes c = λ ts v k e t n.
    let m : Makes = record { hand = hand.AsValue; ty = None; operation = operation.Quit } in
    ap (λ o. first_row n (rows_of o) (value v ∷ [])) c.in-Quit.is
    ∙ row_if ts n v m None (is_int v.of) c.is_int-in-Quit.result c.made_if-in-Quit.result
    (ap is_int e ∙ c.is_int-in-Quit.ensures ts) refl c.made_if-in-Quit.ensures

pub returns-in-Quit-clause-within : goal.returns-in-Quit-clause-within
returns-in-Quit-clause-within c = λ n k w t.
    let m : Makes = record { hand = hand.AsValue; ty = None; operation = operation.Quit } in
    some_if (λ m. IsBelow n m.ty) c.is_int-in-Quit.result m c.made_if-in-Quit.result c.made_if-in-Quit.ensures tt

pub returns-in-Inc-clause-makes : goal.returns-in-Inc-clause-makes
returns-in-Inc-clause-makes c = λ ts v k e t n.
    let m : Makes = record { hand = hand.ToWrite; ty = None; operation = operation.Update operator.Add } in
    ap (λ o. first_row n (rows_of o) (value v ∷ [])) c.in-Inc.is
    ∙ row_if ts n v m None (is_int v.of) c.is_int-in-Inc.result c.made_if-in-Inc.result (ap is_int e ∙ c.is_int-in-Inc.ensures ts) refl c.made_if-in-Inc.ensures

pub returns-in-Inc-clause-within : goal.returns-in-Inc-clause-within
returns-in-Inc-clause-within c = λ n k w t.
    let m : Makes = record { hand = hand.ToWrite; ty = None; operation = operation.Update operator.Add } in
    some_if (λ m. IsBelow n m.ty) c.is_int-in-Inc.result m c.made_if-in-Inc.result c.made_if-in-Inc.ensures tt

pub returns-in-Dec-clause-makes : goal.returns-in-Dec-clause-makes
returns-in-Dec-clause-makes c = λ ts v k e t n.
    let m : Makes = record { hand = hand.ToWrite; ty = None; operation = operation.Update operator.Subtract } in
    ap (λ o. first_row n (rows_of o) (value v ∷ [])) c.in-Dec.is
    ∙ row_if ts n v m None (is_int v.of) c.is_int-in-Dec.result c.made_if-in-Dec.result (ap is_int e ∙ c.is_int-in-Dec.ensures ts) refl c.made_if-in-Dec.ensures

pub returns-in-Dec-clause-within : goal.returns-in-Dec-clause-within
returns-in-Dec-clause-within c = λ n k w t.
    let m : Makes = record { hand = hand.ToWrite; ty = None; operation = operation.Update operator.Subtract } in
    some_if (λ m. IsBelow n m.ty) c.is_int-in-Dec.result m c.made_if-in-Dec.result c.made_if-in-Dec.ensures tt

pub returns-in-Move-clause-makes : goal.returns-in-Move-clause-makes
returns-in-Move-clause-makes c = λ ts v k e t n.
    ap (λ o. first_row n (rows_of o) (value v ∷ [])) c.in-Move.is
    ∙ ap (λ ty. Some (done (v ∷ []) (Apply n (Some ty) (Doing operation.Move) (one_path (path_of v.expr))))) t

pub returns-in-Pop-clause-makes : goal.returns-in-Pop-clause-makes
returns-in-Pop-clause-makes c = λ ts v k e t n.
    ap (λ o. first_row n (rows_of o) (value v ∷ [])) c.in-Pop.is
    ∙ pop_row ts n v c.popped.result (ap popped e ∙ c.popped.ensures.types ts) ∙ ap (option_map (done_by ts n v)) (sym c.pop_of.ensures)

pub returns-in-Pop-clause-within : goal.returns-in-Pop-clause-within
returns-in-Pop-clause-within c = λ n k w t. pop_within n c.popped.result c.pop_of.result c.pop_of.ensures (c.popped.ensures.within n w)
