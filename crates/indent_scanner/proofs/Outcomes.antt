-- A source has tokens or is refused.
use Rattle.std.proofs.Common.{◌≡◌, ℕ, zero, suc, ◌≤◌, ◌⊎◌, inl, inr, List, [], ◌∷◌, length, take, drop, get_or, Bool, true, refl, ap, subst, ◌∙◌, arith}
use Rattle.std.proofs.Common.{add-one, length-drop}
use Rattle.std.specs.Prelude.{Option, Some, None}
use Rattle.arc_base.specs.declared.place.Code.{Code}
use Rattle.arc_base.specs.declared.place.Place.{Place}
use Rattle.indent_scanner.specs.declared.token.Tok.{Tok}
use Rattle.indent_scanner.specs.declared.token.Token.{Token}
use Rattle.indent_scanner.specs.declared.here.Here.{Here}
use Rattle.indent_scanner.specs.declared.shape.Shape.{Shape}
use Rattle.indent_scanner.specs.declared.piece.Piece.{Piece}
use Rattle.indent_scanner.specs.declared.piece.Piece.TheVariants.{Gap, Found, Refused}
use Rattle.indent_scanner.specs.declared.piece.Opening.{Opening}
use Rattle.indent_scanner.specs.declared.piece.Opening.TheVariants.{Known, Shaped}
use Rattle.indent_scanner.specs.Shape.{step, is_whole, and_then, form}
use Rattle.indent_scanner.specs.ByForm.{opening_of, piece_of, code_of, Takes, IsWithin}
use Rattle.indent_scanner.specs.Pieces.{Begins}
use Rattle.indent_scanner.specs.Tokens.{over_gap, over_token, token_at, TokensFrom, ends, gap, token, RefusedFrom, here_it_is, behind_gap, behind_token}
use Rattle.indent_scanner.specs.Tokens.{mark_length, first_place, Tokens, IsRefused}
use Rattle.indent_scanner.proofs.Bools.{by_test}
use Rattle.indent_scanner.proofs.Fronts.{then_form, longest_at, no_front_at}
use Rattle.indent_scanner.proofs.Beginnings.{takes_within, opening_sound}
use Rattle.indent_scanner.proofs.Rows.{begins_so, begins_once}

-- ---- each form goes so far and no further

record Stuck (s : Shape) (bytes : List ℕ) : Type 0 where
  far : ℕ
  reaches : Shape
  reached : form s far bytes ≡ Some reaches
  stuck : form s (suc far) bytes ≡ None

stuck_here : (s : Shape) (b : ℕ) (bytes : List ℕ) → step s b (get_or bytes 0 0) ≡ None → Stuck s (b ∷ bytes)
stuck_here s b bytes e = record { far = 0; reaches = s; reached = refl; stuck = ap (λ o. and_then o (λ t. form t 0 bytes)) e }

stuck_later : (s u : Shape) (b : ℕ) (bytes : List ℕ) → step s b (get_or bytes 0 0) ≡ Some u → Stuck u bytes → Stuck s (b ∷ bytes)
stuck_later s u b bytes e r = record {
  far = suc r.far;
  reaches = r.reaches;
  reached = then_form s u r.far b bytes e ∙ r.reached;
  stuck = then_form s u (suc r.far) b bytes e ∙ r.stuck;
}

stuck_after : (s : Shape) (b : ℕ) (bytes : List ℕ) (o : Option Shape) → step s b (get_or bytes 0 0) ≡ o → ((u : Shape) → Stuck u bytes) → Stuck s (b ∷ bytes)
stuck_after s b bytes None e on = stuck_here s b bytes e
stuck_after s b bytes (Some u) e on = stuck_later s u b bytes e (on u)

stuck_at : (bytes : List ℕ) (s : Shape) → Stuck s bytes
stuck_at [] s = record { far = 0; reaches = s; reached = refl; stuck = refl }
stuck_at (b ∷ bytes) s = stuck_after s b bytes (step s b (get_or bytes 0 0)) refl (λ u. stuck_at bytes u)

-- ---- bytes begin with a piece

takes_some : (o : Opening) (b : ℕ) (bytes : List ℕ) → (p : Piece) × Takes o b bytes p
takes_some (Known known) b bytes = (known, refl)
takes_some (Shaped s) b bytes =
    let r = stuck_at bytes s in let stuck = ap (λ k. form s k bytes) (add-one r.far) ∙ r.stuck in
    by_test ((p : Piece) × Takes (Shaped s) b bytes p) (is_whole r.reaches)
    (λ e. (piece_of r.reaches (suc r.far) (b ∷ bytes), inl (r.far, r.reaches, longest_at s r.reaches bytes r.far r.reached stuck e, refl)))
    (λ e. (Refused (code_of s) 0, inr (no_front_at s r.reaches bytes r.far r.reached stuck e, refl)))

record Begun (bytes : List ℕ) : Type 0 where
  piece : Piece
  begins : Begins bytes piece
  within : IsWithin bytes piece

begun : (b : ℕ) (rest : List ℕ) → Begun (b ∷ rest)
begun b rest =
    let x = takes_some (opening_of b rest) b rest in
    record { piece = x.0; begins = begins_so (b ∷ rest) x.0 x.1; within = takes_within (opening_of b rest) b rest x.0 (opening_sound b rest) x.1 }

pub begins_within : (bytes : List ℕ) (p : Piece) → Begins bytes p → IsWithin bytes p
begins_within [] p x = absurd x
begins_within (b ∷ rest) p x = let y = begun b rest in subst (IsWithin (b ∷ rest)) (begins_once (b ∷ rest) y.piece p y.begins x) y.within

-- ---- piece by piece to the end or to a refusal

abbrev Outcome : Here → List ℕ → Type 0
Outcome here bytes = ((tokens : List Token) × TokensFrom here bytes tokens) ⊎ ((code : Code) × (at : Here) × RefusedFrom here bytes code at)

past_gap : (here : Here) (bytes : List ℕ) (comment : Bool) (n : ℕ) → Begins bytes (Gap comment n) → Outcome (over_gap comment here (take n bytes))
    (drop n bytes) → Outcome here bytes
past_gap here bytes comment n b (inl x) = inl (x.0, gap comment n b x.1)
past_gap here bytes comment n b (inr x) = inr (x.0, x.1, behind_gap comment n b x.2)

past_token : (here : Here) (bytes : List ℕ) (kind : Tok) (n : ℕ) → Begins bytes (Found kind n) → Outcome (over_token here n) (drop n bytes) → Outcome here bytes
past_token here bytes kind n b (inl x) = inl (token_at here kind n (drop n bytes) ∷ x.0, token kind n b x.1)
past_token here bytes kind n b (inr x) = inr (x.0, x.1, behind_token kind n b x.2)

shorter : (bytes : List ℕ) (n size : ℕ) → 1 ≤ n → length bytes ≤ suc size → length (drop n bytes) ≤ size
shorter bytes n size one le = let e = length-drop n bytes in omega (arith, e, one, le)

past : (size : ℕ) (here : Here) (bytes : List ℕ) (p : Piece) → ((next : Here) (rest : List ℕ) → length rest ≤ size → Outcome next rest)
    → length bytes ≤ suc size → Begins bytes p → IsWithin bytes p → Outcome here bytes
past size here bytes (Gap comment n) on le b w =
    past_gap here bytes comment n b (on (over_gap comment here (take n bytes)) (drop n bytes) (shorter bytes n size w.0 le))
past size here bytes (Found kind n) on le b w = past_token here bytes kind n b (on (over_token here n) (drop n bytes) (shorter bytes n size w.0 le))
past size here bytes (Refused code k) on le b w = inr (code, over_gap true here (take k bytes), here_it_is code k b)

outcome : (size : ℕ) (here : Here) (bytes : List ℕ) → length bytes ≤ size → Outcome here bytes
outcome size here [] le = inl (_, ends)
outcome zero here (b ∷ rest) le = (let f : ⊥ = omega arith in absurd f)
outcome (suc size) here (b ∷ rest) le =
    let x = begun b rest in
    past size here (b ∷ rest) x.piece (λ next left short. outcome size next left short) le x.begins x.within

pub tokens_or_refused : (source : List ℕ) (number : ℕ) → ((tokens : List Token) × Tokens source tokens)
    ⊎ ((code : Code) × (at : Place) × IsRefused source number code at)
tokens_or_refused source number = on (outcome (length (drop (mark_length source) source)) (first_place (mark_length source)) (drop (mark_length source) source)
    (omega arith))
  where
    on : Outcome (first_place (mark_length source)) (drop (mark_length source) source) → ((tokens : List Token) × Tokens source tokens)
        ⊎ ((code : Code) × (at : Place) × IsRefused source number code at)
    on (inl x) = inl x
    on (inr x) =
        let here = x.1 in
        inr (
          x.0,
          record { «module» = number; line = here.line; column = here.column },
          record {
            here = here;
            stops = x.2;
            in_module = refl;
            on_line = refl;
            at_column = refl;
          },
        )
