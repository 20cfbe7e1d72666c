-- How a source is read, piece by piece.
use Rattle.std.proofs.Common.{◌≡◌, ◌≢◌, ℕ, ◌+◌, ◌≤◌, List, [], ◌∷◌, ◌++◌, length, take, drop, refl, sym, ap, subst, ◌∙◌, arith, append_assoc, length-append}
use Rattle.std.proofs.Common.{length-drop, length-take-le}
use Rattle.std.specs.Prelude.{Bool, true, All, ◌==◌}
use Rattle.std.proofs.lemmas.List.Elements.{All-push}
use Rattle.std.proofs.lemmas.Bool.{eqb-true}
use Rattle.std.proofs.lemmas.List.{nil_from_length}
use Rattle.arc_base.specs.declared.place.Code.{Code}
use Rattle.arc_base.specs.declared.place.Stop.{Stop}
use Rattle.arc_base.specs.Stops.{OnRefusal}
use Rattle.indent_scanner.specs.declared.token.Tok.{Tok}
use Rattle.indent_scanner.specs.declared.token.Tok.TheVariants.{End}
use Rattle.indent_scanner.specs.declared.token.Token.{Token}
use Rattle.indent_scanner.specs.declared.here.Here.{Here}
use Rattle.indent_scanner.specs.declared.piece.Piece.TheVariants.{Gap, Found, Refused}
use Rattle.indent_scanner.specs.Pieces.{Begins}
use Rattle.indent_scanner.specs.Tokens.{over_gap, over_token, token_at, TokensFrom, ends, gap, token, RefusedFrom, here_it_is, behind_gap, behind_token, LiesIn}
use Rattle.indent_scanner.specs.Tokens.{Fits, IsInner, HasByte, PlaceFits, mark_length, first_place, refusal, Tokens, IsRefused, IsEnded}
use Rattle.indent_scanner.proofs.Rows.{begins_once}

-- ---- what tokens from here on say of the piece here

pub reads_gap : (here : Here) (bytes : List ℕ) (tokens : List Token) (comment : Bool) (n : ℕ) → Begins bytes (Gap comment n) → TokensFrom here bytes tokens
    → TokensFrom (over_gap comment here (take n bytes)) (drop n bytes) tokens
reads_gap here bytes tokens comment n b ends = absurd b
reads_gap here bytes tokens comment n b (gap other m c r) =
    let e = begins_once bytes (Gap other m) (Gap comment n) c b in
    let comments : other ≡ comment = cc in let lengths : m ≡ n = cc in
    subst (λ x. TokensFrom (over_gap x here (take n bytes)) (drop n bytes) tokens) comments
    (subst (λ x. TokensFrom (over_gap other here (take x bytes)) (drop x bytes) tokens) lengths r)
reads_gap here bytes _ comment n b (token kind m c r) = let e = begins_once bytes (Found kind m) (Gap comment n) c b in (let f : ⊥ = cc in absurd f)

pub reads_token : (here : Here) (bytes : List ℕ) (tokens : List Token) (kind : Tok) (n : ℕ) → Begins bytes (Found kind n) → TokensFrom here bytes tokens
    → (tail : List Token) × (tokens ≡ token_at here kind n (drop n bytes) ∷ tail) × TokensFrom (over_token here n) (drop n bytes) tail
reads_token here bytes tokens kind n b ends = absurd b
reads_token here bytes tokens kind n b (gap other m c r) = let e = begins_once bytes (Gap other m) (Found kind n) c b in (let f : ⊥ = cc in absurd f)
reads_token here bytes _ kind n b (token {tokens = tail} other m c r) =
    let e = begins_once bytes (Found other m) (Found kind n) c b in
    let kinds : other ≡ kind = cc in let lengths : m ≡ n = cc in (
      tail,
      ap (λ k. token_at here k m (drop m bytes) ∷ tail) kinds ∙ ap (λ x. token_at here kind x (drop x bytes) ∷ tail) lengths,
      subst (λ x. TokensFrom (over_token here x) (drop x bytes) tail) lengths r,
    )

pub reads_none : (here : Here) (bytes : List ℕ) (tokens : List Token) (code : Code) (k : ℕ) → Begins bytes (Refused code k) → TokensFrom here bytes tokens → ⊥
reads_none here bytes tokens code k b ends = b
reads_none here bytes tokens code k b (gap other m c r) = let e = begins_once bytes (Gap other m) (Refused code k) c b in (let f : ⊥ = cc in f)
reads_none here bytes _ code k b (token kind m c r) = let e = begins_once bytes (Found kind m) (Refused code k) c b in (let f : ⊥ = cc in f)

pub reads_end : (here : Here) (bytes : List ℕ) (tokens : List Token) → bytes ≡ [] → TokensFrom here bytes tokens → tokens ≡ token_at here End 0 [] ∷ []
reads_end here bytes tokens e ends = refl
reads_end here bytes tokens e (gap other m c r) = absurd (subst (λ x. Begins x (Gap other m)) e c)
reads_end here bytes _ e (token kind m c r) = absurd (subst (λ x. Begins x (Found kind m)) e c)

-- ---- the tokens so far

pub record SoFar (first here : Here) (all rest : List ℕ) (done : List Token) : Type 0 where
  pub leads : (tail : List Token) → TokensFrom here rest tail → TokensFrom first all (done ++ tail)
  pub only : (tokens : List Token) → TokensFrom first all tokens → (tail : List Token) × (tokens ≡ done ++ tail) × TokensFrom here rest tail
  pub stops : (code : Code) (at : Here) → RefusedFrom here rest code at → RefusedFrom first all code at

pub over_a_gap : (first here : Here) (all rest : List ℕ) (done : List Token) (comment : Bool) (n : ℕ) → SoFar first here all rest done
    → Begins rest (Gap comment n) → SoFar first (over_gap comment here (take n rest)) all (drop n rest) done
over_a_gap first here all rest done comment n h b = record {
  leads = λ tail r. h.leads tail (gap comment n b r);
  only = λ tokens r. let a = h.only tokens r in (a.0, a.1, reads_gap here rest a.0 comment n b a.2);
  stops = λ code at s. h.stops code at (behind_gap comment n b s);
}

pub over_a_token : (first here : Here) (all rest : List ℕ) (done : List Token) (kind : Tok) (n : ℕ) → SoFar first here all rest done
    → Begins rest (Found kind n) → SoFar first (over_token here n) all (drop n rest) (done ++ token_at here kind n (drop n rest) ∷ [])
over_a_token first here all rest done kind n h b =
    let t = token_at here kind n (drop n rest) in
    record {
      leads = λ tail r. subst (TokensFrom first all) (sym (append_assoc done (t ∷ []) tail)) (h.leads (t ∷ tail) (token kind n b r));
      only = λ tokens r. let a = h.only tokens r in let c = reads_token here rest a.0 kind n b a.2 in
          (c.0, a.1 ∙ ap (λ x. done ++ x) c.1 ∙ sym (append_assoc done (t ∷ []) c.0), c.2);
      stops = λ code at s. h.stops code at (behind_token kind n b s);
    }

pub whole : (first here : Here) (all rest : List ℕ) (done : List Token) → SoFar first here all rest done → rest ≡ []
    → TokensFrom first all (done ++ token_at here End 0 rest ∷ [])
whole first here all rest done h e = h.leads (token_at here End 0 rest ∷ []) (subst (λ x. TokensFrom here x (token_at here End 0 x ∷ [])) (sym e) ends)

pub whole_once : (first here : Here) (all rest : List ℕ) (done : List Token) → SoFar first here all rest done → rest ≡ [] → (others : List Token)
    → TokensFrom first all others → others ≡ done ++ token_at here End 0 rest ∷ []
whole_once first here all rest done h e others r =
    let a = h.only others r in
    a.1 ∙ ap (λ x. done ++ x) (reads_end here rest a.0 e a.2 ∙ ap (λ x. token_at here End 0 x ∷ []) (sym e))

pub refused_here : (first here : Here) (all rest : List ℕ) (done : List Token) (code : Code) (k : ℕ) → SoFar first here all rest done
    → Begins rest (Refused code k) → RefusedFrom first all code (over_gap true here (take k rest))
refused_here first here all rest done code k h b = h.stops code (over_gap true here (take k rest)) (here_it_is code k b)

pub none_here : (first here : Here) (all rest : List ℕ) (done : List Token) (code : Code) (k : ℕ) → SoFar first here all rest done
    → Begins rest (Refused code k) → (tokens : List Token) → TokensFrom first all tokens → ⊥
none_here first here all rest done code k h b tokens r = let a = h.only tokens r in reads_none here rest a.0 code k b a.2

-- ---- one turn of the scanner

pub gap_turn : (first here new : Here) (all rest text left : List ℕ) (done : List Token) (comment : Bool) (n : ℕ) → SoFar first here all rest done
    → Begins rest (Gap comment n) → new ≡ over_gap comment here text → text ≡ take n rest → left ≡ drop n rest → SoFar first new all left done
gap_turn first here new all rest text left done comment n h b place text_is left_is =
    subst (λ x. SoFar first x all left done) (sym (place ∙ ap (over_gap comment here) text_is))
    (subst (λ x. SoFar first (over_gap comment here (take n rest)) all x done) (sym left_is) (over_a_gap first here all rest done comment n h b))

pub token_turn : (first here new : Here) (all rest left : List ℕ) (done more : List Token) (t : Token) (kind : Tok) (n : ℕ) → SoFar first here all rest done
    → Begins rest (Found kind n) → left ≡ drop n rest → t ≡ token_at here kind n left → more ≡ done ++ t ∷ [] → new ≡ over_token here n
    → SoFar first new all left more
token_turn first here new all rest left done more t kind n h b left_is token_is more_is place =
    let is : more ≡ done ++ token_at here kind n (drop n rest) ∷ [] = more_is ∙ ap (λ x. done ++ x ∷ []) (token_is ∙ ap (token_at here kind n) left_is) in
    subst (λ x. SoFar first x all left more) (sym place)
    (subst (λ x. SoFar first (over_token here n) all x more) (sym left_is)
    (subst (SoFar first (over_token here n) all (drop n rest)) (sym is) (over_a_token first here all rest done kind n h b)))

pub gap_size : (rest left : List ℕ) (n start next size : ℕ) → n ≤ length rest → left ≡ drop n rest → next ≡ start + length (take n rest)
    → start + length rest ≡ size → next + length left ≡ size
gap_size rest left n start next size le left_is next_is total =
    let e = ap length left_is ∙ length-drop n rest in
    let f = length-take-le n rest le in
    omega (arith, e, f, next_is, total)

pub token_size : (rest left : List ℕ) (n start next size : ℕ) → n ≤ length rest → left ≡ drop n rest → next ≡ start + n → start + length rest ≡ size
    → next + length left ≡ size
token_size rest left n start next size le left_is next_is total = let e = ap length left_is ∙ length-drop n rest in omega (arith, e, next_is, total)

-- ---- what is so of the tokens before a place

pub record Kept (source : List ℕ) (start : ℕ) (done : List Token) : Type 0 where
  pub count : length done ≤ start
  pub inside : All (LiesIn source) done
  pub inner : All IsInner done
  pub some : All HasByte done
  pub placed : All PlaceFits done

pub kept_further : (source : List ℕ) (start next : ℕ) (done : List Token) → start ≤ next → Kept source start done → Kept source next done
kept_further source start next done le k = record {
  count = omega (arith, le, k.count);
  inside = k.inside;
  inner = k.inner;
  some = k.some;
  placed = k.placed;
}

module _ (source : List ℕ) (done more : List Token) (t : Token) (here : Here) (kind : Tok) (n : ℕ) (left : List ℕ) (more_is : more ≡ done ++ t ∷ [])
    (token_is : t ≡ token_at here kind n left) where
  pub one_more : (P : Token → Type 0) → All P done → P (token_at here kind n left) → All P more
  one_more P all one = subst (All P) (sym more_is) (All-push P done t all (subst P (sym token_is) one))

  pub more_count : (count : ℕ) → length done ≤ count → length more ≤ count + 1
  more_count count le = let e = ap length more_is ∙ length-append done (t ∷ []) in omega (arith, e, le)

  pub place_fits : Fits here → PlaceFits (token_at here kind n left)
  place_fits f = record { first_line = f.first_line; first_column = f.first_column; line = f.line; column = f.column; indent = f.spaces }

  -- a token behind those before it
  pub kept_token : (next : ℕ) → next ≡ here.start + n → Kept source here.start done → Fits here → kind ≢ End → 1 ≤ n → here.start + n ≤ length source
      → Kept source next more
  kept_token next is k f inner one room =
      let count = more_count here.start k.count in
      record {
        count = omega (arith, count, one, is);
        inside = one_more (LiesIn source) k.inside (record { inside = room });
        inner = one_more IsInner k.inner inner;
        some = one_more HasByte k.some (λ e. one);
        placed = one_more PlaceFits k.placed (place_fits f);
      }

-- ---- the ends

pub nothing_left : (rest : List ℕ) → (length rest == 0) ≡ true → rest ≡ []
nothing_left rest e = nil_from_length rest (eqb-true (length rest) 0 e)

pub tokens_are : (first here : Here) (all rest : List ℕ) (done more : List Token) (t : Token) → SoFar first here all rest done → rest ≡ []
    → t ≡ token_at here End 0 rest → more ≡ done ++ t ∷ [] → TokensFrom first all more
tokens_are first here all rest done more t h e token_is more_is = subst (TokensFrom first all) (sym (more_is ∙ ap (λ x. done ++ x ∷ []) token_is))
    (whole first here all rest done h e)

pub is_refused : (source : List ℕ) (number : ℕ) (here place : Here) (rest text : List ℕ) (done : List Token) (code : Code) (k : ℕ) (stop : Stop)
    → SoFar (first_place (mark_length source)) here (drop (mark_length source) source) rest done → Begins rest (Refused code k)
    → place ≡ over_gap true here text → text ≡ take k rest → stop ≡ refusal number place code → OnRefusal stop (IsRefused source number)
is_refused source number here place rest text done code k stop h b place_is text_is stop_is =
    subst (λ x. OnRefusal x (IsRefused source number)) (sym stop_is)
    (record {
      here = place;
      stops = subst (RefusedFrom (first_place (mark_length source)) (drop (mark_length source) source) code) (sym (place_is ∙ ap (over_gap true here) text_is))
          (refused_here (first_place (mark_length source)) here (drop (mark_length source) source) rest done code k h b);
      in_module = refl;
      on_line = refl;
      at_column = refl;
    })

pub no_tokens : (source : List ℕ) (number : ℕ) (here place : Here) (rest : List ℕ) (done : List Token) (code : Code) (k : ℕ) (stop : Stop)
    → SoFar (first_place (mark_length source)) here (drop (mark_length source) source) rest done → Begins rest (Refused code k)
    → stop ≡ refusal number place code → OnRefusal stop (λ _ _. (tokens : List Token) → Tokens source tokens → ⊥)
no_tokens source number here place rest done code k stop h b stop_is =
    subst (λ x. OnRefusal x (λ _ _. (tokens : List Token) → Tokens source tokens → ⊥)) (sym stop_is)
    (none_here (first_place (mark_length source)) here (drop (mark_length source) source) rest done code k h b)

pub ends_so : (here : Here) (rest : List ℕ) (done more : List Token) (t : Token) → t ≡ token_at here End 0 rest → more ≡ done ++ t ∷ [] → All IsInner done
    → IsEnded more
ends_so here rest done more t token_is more_is inner = record { others = done; last = t; split = more_is; inner = inner; ends = ap (λ x. x.kind) token_is }
