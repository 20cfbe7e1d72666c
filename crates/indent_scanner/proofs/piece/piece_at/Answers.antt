use Rattle.std.proofs.Common.{◌≤◌, get_or, ◌+◌, ◌-◌, length, sym, subst, ◌∙◌, arith, take, drop}
use Rattle.std.proofs.lemmas.List.{take_rest}
use Rattle.indent_scanner.specs.ByForm.{IsWithin}
use Rattle.indent_scanner.specs.declared.piece.Piece.TheVariants.{Refused}
use Rattle.indent_scanner.proofs.Beginnings.{ByForm, opens_flat, known_within, piece_within, begins_known, begins_whole, begins_open, inside_run}
use Rattle.indent_scanner.proofs.Rows.{begins_so}
use Rattle.indent_scanner.proofs.piece.piece_at.Goals as goal

pub run-len-requires : goal.run-len-requires
run-len-requires c =
    let bytes = c.args.bytes.now in
    opens_flat (get_or bytes 0 0) (take (length bytes - 1) (drop 1 bytes)) c.in-Shaped.shape (sym c.opening_of.ensures ∙ c.in-Shaped.is)

pub returns-in-Known-clause-begins : goal.returns-in-Known-clause-begins
returns-in-Known-clause-begins c = begins_so c.args.bytes.now c.in-Known.piece
    (begins_known c.args.bytes.now _ c.in-Known.piece c.requires (take_rest c.args.bytes.now 1) (sym c.opening_of.ensures ∙ c.in-Known.is))

pub returns-in-Known-clause-within : goal.returns-in-Known-clause-within
returns-in-Known-clause-within c = known_within c.args.bytes.now _ c.in-Known.piece c.requires (take_rest c.args.bytes.now 1)
    (sym c.opening_of.ensures ∙ c.in-Known.is)

pub returns-then-is_whole-clause-begins : goal.returns-then-is_whole-clause-begins
returns-then-is_whole-clause-begins c =
    begins_so c.args.bytes.now c.piece_of.result (subst (ByForm c.args.bytes.now) (sym c.piece_of.ensures)
    (begins_whole c.args.bytes.now _ c.in-Shaped.shape c.run-len.result.1 c.run-len.result.0 c.requires (take_rest c.args.bytes.now 1)
    (sym c.opening_of.ensures ∙ c.in-Shaped.is) c.run-len.ensures.reached c.run-len.ensures.stuck (sym c.is_whole.ensures ∙ c.if-is_whole.true)))

pub returns-then-is_whole-clause-within : goal.returns-then-is_whole-clause-within
returns-then-is_whole-clause-within c =
    let one : 1 ≤ c.run-len.result.0 + 1 = omega arith in
    let inside : c.run-len.result.0 + 1 ≤ length c.args.bytes.now = inside_run c.args.bytes.now c.run-len.result.0 c.requires c.run-len.ensures.within in
    subst (IsWithin c.args.bytes.now) (sym c.piece_of.ensures) (piece_within c.run-len.result.1 (c.run-len.result.0 + 1) c.args.bytes.now one inside)

pub returns-else-is_whole-clause-begins : goal.returns-else-is_whole-clause-begins
returns-else-is_whole-clause-begins c =
    begins_so c.args.bytes.now (Refused c.code_of.result 0) (subst (λ x. ByForm c.args.bytes.now (Refused x 0)) (sym c.code_of.ensures)
    (begins_open c.args.bytes.now _ c.in-Shaped.shape c.run-len.result.1 c.run-len.result.0 c.requires (take_rest c.args.bytes.now 1)
    (sym c.opening_of.ensures ∙ c.in-Shaped.is) c.run-len.ensures.reached c.run-len.ensures.stuck (sym c.is_whole.ensures ∙ c.if-is_whole.false)))
