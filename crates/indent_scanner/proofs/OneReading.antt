-- A source has one reading.
use Rattle.std.proofs.Common.{◌≡◌, ℕ, List, [], ◌∷◌, take, drop, refl, sym, ap, subst, ◌∙◌}
use Rattle.std.specs.Prelude.{Bool, true}
use Rattle.arc_base.specs.declared.place.Code.{Code}
use Rattle.arc_base.specs.declared.place.Place.{Place}
use Rattle.indent_scanner.specs.declared.token.Tok.{Tok}
use Rattle.indent_scanner.specs.declared.token.Token.{Token}
use Rattle.indent_scanner.specs.declared.here.Here.{Here}
use Rattle.indent_scanner.specs.declared.piece.Piece.TheVariants.{Gap, Found, Refused}
use Rattle.indent_scanner.specs.Pieces.{Begins}
use Rattle.indent_scanner.specs.Tokens.{over_gap, over_token, token_at, TokensFrom, ends, gap, token, RefusedFrom, here_it_is, behind_gap, behind_token, Tokens}
use Rattle.indent_scanner.specs.Tokens.{IsRefused}
use Rattle.indent_scanner.proofs.Rows.{begins_once}
use Rattle.indent_scanner.proofs.Reading.{reads_gap, reads_token, reads_none, reads_end}

reads_unique : (here : Here) (bytes : List ℕ) (tokens others : List Token) → TokensFrom here bytes tokens → TokensFrom here bytes others → tokens ≡ others
reads_unique here bytes _ others ends other = sym (reads_end here [] others refl other)
reads_unique here bytes tokens others (gap comment n b r) other = reads_unique (over_gap comment here (take n bytes)) (drop n bytes) tokens others r
    (reads_gap here bytes others comment n b other)
reads_unique here bytes _ others (token {tokens = tail} kind n b r) other =
    let f = reads_token here bytes others kind n b other in
    ap (λ x. token_at here kind n (drop n bytes) ∷ x) (reads_unique (over_token here n) (drop n bytes) tail f.0 r f.2) ∙ sym f.1

reads_apart : (here at : Here) (bytes : List ℕ) (code : Code) (tokens : List Token) → RefusedFrom here bytes code at → TokensFrom here bytes tokens → ⊥
reads_apart here _ bytes code tokens (here_it_is c k b) r = reads_none here bytes tokens c k b r
reads_apart here at bytes code tokens (behind_gap comment n b s) r = reads_apart (over_gap comment here (take n bytes)) at (drop n bytes) code tokens s
    (reads_gap here bytes tokens comment n b r)
reads_apart here at bytes code tokens (behind_token kind n b s) r =
    let f = reads_token here bytes tokens kind n b r in
    reads_apart (over_token here n) at (drop n bytes) code f.0 s f.2

-- ---- refusals

stops_here : (here at : Here) (bytes : List ℕ) (code other : Code) (k : ℕ) → Begins bytes (Refused code k) → RefusedFrom here bytes other at
    → (code ≡ other) × (over_gap true here (take k bytes) ≡ at)
stops_here here _ bytes code _ k b (here_it_is c m d) =
    let e = begins_once bytes (Refused code k) (Refused c m) b d in
    let codes : code ≡ c = cc in
    let lengths : k ≡ m = cc in
    (codes, ap (λ x. over_gap true here (take x bytes)) lengths)
stops_here here at bytes code other k b (behind_gap comment n d s) =
    let e = begins_once bytes (Refused code k) (Gap comment n) b d in
    (let f : ⊥ = cc in absurd f)
stops_here here at bytes code other k b (behind_token kind n d s) =
    let e = begins_once bytes (Refused code k) (Found kind n) b d in
    (let f : ⊥ = cc in absurd f)

stops_gap : (here at : Here) (bytes : List ℕ) (code : Code) (comment : Bool) (n : ℕ) → Begins bytes (Gap comment n) → RefusedFrom here bytes code at
    → RefusedFrom (over_gap comment here (take n bytes)) (drop n bytes) code at
stops_gap here _ bytes _ comment n b (here_it_is c m d) = let e = begins_once bytes (Gap comment n) (Refused c m) b d in (let f : ⊥ = cc in absurd f)
stops_gap here at bytes code comment n b (behind_gap other m d s) =
    let e = begins_once bytes (Gap other m) (Gap comment n) d b in
    let comments : other ≡ comment = cc in let lengths : m ≡ n = cc in
    subst (λ x. RefusedFrom (over_gap x here (take n bytes)) (drop n bytes) code at) comments
    (subst (λ x. RefusedFrom (over_gap other here (take x bytes)) (drop x bytes) code at) lengths s)
stops_gap here at bytes code comment n b (behind_token kind m d s) =
    let e = begins_once bytes (Gap comment n) (Found kind m) b d in
    (let f : ⊥ = cc in absurd f)

stops_token : (here at : Here) (bytes : List ℕ) (code : Code) (kind : Tok) (n : ℕ) → Begins bytes (Found kind n) → RefusedFrom here bytes code at
    → RefusedFrom (over_token here n) (drop n bytes) code at
stops_token here _ bytes _ kind n b (here_it_is c m d) = let e = begins_once bytes (Found kind n) (Refused c m) b d in (let f : ⊥ = cc in absurd f)
stops_token here at bytes code kind n b (behind_gap other m d s) = let e = begins_once bytes (Found kind n) (Gap other m) b d in (let f : ⊥ = cc in absurd f)
stops_token here at bytes code kind n b (behind_token other m d s) =
    let e = begins_once bytes (Found other m) (Found kind n) d b in let lengths : m ≡ n = cc in
    subst (λ x. RefusedFrom (over_token here x) (drop x bytes) code at) lengths s

stops_unique : (here at elsewhere : Here) (bytes : List ℕ) (code other : Code) → RefusedFrom here bytes code at → RefusedFrom here bytes other elsewhere
    → (code ≡ other) × (at ≡ elsewhere)
stops_unique here _ elsewhere bytes _ other (here_it_is c k b) s = stops_here here elsewhere bytes c other k b s
stops_unique here at elsewhere bytes code other (behind_gap comment n b r) s = stops_unique (over_gap comment here (take n bytes)) at elsewhere
    (drop n bytes) code other r (stops_gap here elsewhere bytes other comment n b s)
stops_unique here at elsewhere bytes code other (behind_token kind n b r) s = stops_unique (over_token here n) at elsewhere (drop n bytes) code other r
    (stops_token here elsewhere bytes other kind n b s)

-- ---- sources

pub once : (source : List ℕ) (tokens others : List Token) → Tokens source tokens → Tokens source others → tokens ≡ others
once source tokens others x y = reads_unique _ _ tokens others x y

pub apart : (source : List ℕ) (number : ℕ) (code : Code) (at : Place) (tokens : List Token) → IsRefused source number code at → Tokens source tokens → ⊥
apart source number code at tokens x y = reads_apart _ x.here _ code tokens x.stops y

same_place : (p q : Place) → p.«module» ≡ q.«module» → p.line ≡ q.line → p.column ≡ q.column → p ≡ q
same_place p q a b c =
    ap (λ k. let r : Place = record { «module» = k; line = p.line; column = p.column } in r) a
    ∙ ap (λ k. let r : Place = record { «module» = q.«module»; line = k; column = p.column } in r) b
    ∙ ap (λ k. let r : Place = record { «module» = q.«module»; line = q.line; column = k } in r) c

pub refused_once : (source : List ℕ) (number : ℕ) (code other : Code) (at elsewhere : Place) → IsRefused source number code at
    → IsRefused source number other elsewhere → (code ≡ other) × (at ≡ elsewhere)
refused_once source number code other at elsewhere x y =
    let e = stops_unique _ x.here y.here _ code other x.stops y.stops in (
      e.0,
      same_place at elsewhere (x.in_module ∙ sym y.in_module) (x.on_line ∙ ap (λ h. h.line) e.1 ∙ sym y.on_line)
          (x.at_column ∙ ap (λ h. h.column) e.1 ∙ sym y.at_column),
    )
