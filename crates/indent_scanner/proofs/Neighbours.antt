-- What tokens that follow each other say of the spaces between them.
use Rattle.std.proofs.Common.{◌≡◌, ◌≢◌, ℕ, suc, ◌+◌, ◌≤◌, List, [], ◌∷◌, ◌++◌, take, drop, Bool, true, false, refl, sym, ap, subst, ◌∙◌, arith, length-take-le}
use Rattle.std.specs.Prelude.{Option, Some, None, not, ◌==◌, ◌||◌, ◌&&◌}
use Rattle.std.proofs.lemmas.Bool.{eqb-true, eqb-false}
use Rattle.indent_scanner.specs.declared.token.Tok.{Tok}
use Rattle.indent_scanner.specs.declared.token.Tok.TheVariants.{End}
use Rattle.indent_scanner.specs.declared.token.Token.{Token}
use Rattle.indent_scanner.specs.declared.here.Here.{Here}
use Rattle.indent_scanner.specs.declared.piece.Piece.TheVariants.{Gap, Found}
use Rattle.indent_scanner.specs.Tokens.{mark_length, first_place, one_space, spaces_over, over_byte, over_gap, over_token, is_apart, token_at, TokensFrom, ends}
use Rattle.indent_scanner.specs.Tokens.{gap, token, Tokens}
use Rattle.indent_scanner.specs.Spacing.{is_end, touches, Beside, IsFirst, IsSpaced}
use Rattle.indent_scanner.proofs.Bools.{by_test, by_cond, or_right, are_false}
use Rattle.indent_scanner.proofs.Firsts.{begins_tells}
use Rattle.indent_scanner.proofs.Outcomes.{begins_within}
use Rattle.indent_scanner.proofs.Standing.{gap_start}

eqb_self : (n : ℕ) → (n == n) ≡ true
eqb_self n = by_test _ (n == n) (λ e. e) (λ e. absurd (eqb-false n n e refl))

beyond : (a b : ℕ) → suc b ≤ a → (a == b) ≡ false
beyond a b lt = by_test _ (a == b) (λ e. let f = eqb-true a b e in let g : ⊥ = omega (arith, f, lt) in absurd g) (λ e. e)

-- ---- the first token of a list

abbrev HeadIs : (Token → Type 0) → List Token → Type 0
HeadIs P [] = Unit {0}
HeadIs P (t ∷ tokens) = P t

head_map : (P Q : Token → Type 0) → ((t : Token) → P t → Q t) → (tokens : List Token) → HeadIs P tokens → HeadIs Q tokens
head_map P Q f [] h = tt
head_map P Q f (t ∷ tokens) h = f t h

head_both : (P Q R : Token → Type 0) → ((t : Token) → P t → Q t → R t) → (tokens : List Token) → HeadIs P tokens → HeadIs Q tokens → HeadIs R tokens
head_both P Q R f [] g h = tt
head_both P Q R f (t ∷ tokens) g h = f t g h

-- ---- spaces of a line

spaces_none : (comment : Bool) (b : ℕ) (o : Option ℕ) → o ≡ None → spaces_over comment b o ≡ None
spaces_none comment b o e = by_cond (λ x. x ≡ None) (b == 32 && not comment) (one_space o) o (λ f. ap one_space e) (λ f. e)

one_some : (o : Option ℕ) → o ≢ None → one_space o ≢ None
one_some None h e = h refl
one_some (Some k) h e = cc

spaces_some : (comment : Bool) (b : ℕ) (o : Option ℕ) → o ≢ None → spaces_over comment b o ≢ None
spaces_some comment b o h = by_cond (λ x. x ≢ None) (b == 32 && not comment) (one_space o) o (λ f. one_some o h) (λ f. h)

some_zero : ◌≢◌ {A = Option ℕ} (Some 0) None
some_zero e = cc

-- ---- a place behind a token, with gaps between them

record Behind (t : Token) (here : Here) : Type 0 where
  start : t.start + t.len ≤ here.start
  apart : here.apart ≡ not (here.start == t.start + t.len)
  line : t.line ≤ here.line
  same : here.line ≡ t.line → here.spaces ≡ None
  new : here.line ≢ t.line → here.spaces ≢ None

behind_token : (here : Here) (kind : Tok) (n : ℕ) (bytes : List ℕ) → Behind (token_at here kind n bytes) (over_token here n)
behind_token here kind n bytes = record {
  start = omega arith;
  apart = sym (ap not (eqb_self (here.start + n)));
  line = omega arith;
  same = λ e. refl;
  new = λ e. absurd (e refl);
}

behind_byte : (comment : Bool) (t : Token) (here : Here) (b : ℕ) → Behind t here → Behind t (over_byte comment here b)
behind_byte comment t here b h =
    let before = h.start in let line = h.line in
    let apart : true ≡ not (here.start + 1 == t.start + t.len) = sym (ap not (beyond (here.start + 1) (t.start + t.len) (omega (arith, before)))) in
    by_cond (Behind t) (b == 10) _ _
    (λ e. record {
      start = omega (arith, before);
      apart = apart;
      line = omega (arith, line);
      same = λ f. (let g : ⊥ = omega (arith, f, line) in absurd g);
      new = λ f. some_zero;
    })
    (λ e. record {
      start = omega (arith, before);
      apart = apart;
      line = line;
      same = λ f. spaces_none comment b here.spaces (h.same f);
      new = λ f. spaces_some comment b here.spaces (h.new f);
    })

behind_gap : (comment : Bool) (t : Token) (bytes : List ℕ) (here : Here) → Behind t here → Behind t (over_gap comment here bytes)
behind_gap comment t [] here h = h
behind_gap comment t (b ∷ bytes) here h = behind_gap comment t bytes (over_byte comment here b) (behind_byte comment t here b h)

record Next (t u : Token) : Type 0 where
  before : u.space_before ≡ not (touches t u)
  same : u.line ≡ t.line → u.indent ≡ None
  new : u.line ≢ t.line → u.indent ≢ None

next_is : (t : Token) (here : Here) (bytes : List ℕ) (tokens : List Token) → Behind t here → TokensFrom here bytes tokens → HeadIs (Next t) tokens
next_is t here _ _ h ends = record { before = h.apart; same = h.same; new = h.new }
next_is t here bytes tokens h (gap comment n b r) = next_is t (over_gap comment here (take n bytes)) (drop n bytes) tokens
    (behind_gap comment t (take n bytes) here h) r
next_is t here bytes _ h (token kind n b r) = record { before = h.apart; same = h.same; new = h.new }

-- ---- what follows a token

reads_from : (here : Here) (bytes : List ℕ) (tokens : List Token) → TokensFrom here bytes tokens → HeadIs (λ u. here.start ≤ u.start) tokens
reads_from here _ _ ends = omega arith
reads_from here bytes tokens (gap comment n b r) =
    let e = gap_start comment (take n bytes) here in
    head_map _ _ (λ u le. omega (arith, e, le)) tokens (reads_from (over_gap comment here (take n bytes)) (drop n bytes) tokens r)
reads_from here bytes _ (token kind n b r) = omega arith

not_end : (kind : Tok) → kind ≢ End → is_end kind ≡ false
not_end End h = absurd (h refl)
not_end _ h = refl

after_is : (here : Here) (bytes : List ℕ) (tokens : List Token) → TokensFrom here bytes tokens
    → HeadIs (λ u. is_apart bytes ≡ (is_end u.kind || not (u.start == here.start))) tokens
after_is here _ _ ends = refl
after_is here bytes tokens (gap comment n b r) =
    let e = gap_start comment (take n bytes) here in let w = begins_within bytes (Gap comment n) b in let long = length-take-le n bytes w.1 in let one = w.0 in
    head_map (λ u. (over_gap comment here (take n bytes)).start ≤ u.start) _
    (λ u le. begins_tells bytes (Gap comment n) b ∙ sym (or_right (is_end u.kind) _ (ap not (beyond u.start here.start (omega (arith, e, long, one, le))))))
    tokens (reads_from (over_gap comment here (take n bytes)) (drop n bytes) tokens r)
after_is here bytes _ (token kind n b r) =
    let w = begins_within bytes (Found kind n) b in
    begins_tells bytes (Found kind n) b ∙ sym (are_false (is_end kind) _ (not_end kind w.2) (ap not (eqb_self here.start)))

-- ---- all tokens

abbrev Chain : List Token → Type 0
Chain [] = Unit {0}
Chain (t ∷ tokens) = HeadIs (Beside t) tokens × Chain tokens

chain : (here : Here) (bytes : List ℕ) (tokens : List Token) → TokensFrom here bytes tokens → Chain tokens
chain here _ _ ends = (tt, tt)
chain here bytes tokens (gap comment n b r) = chain (over_gap comment here (take n bytes)) (drop n bytes) tokens r
chain here bytes _ (token {tokens = tail} kind n b r) =
    let t = token_at here kind n (drop n bytes) in let next = over_token here n in (
      head_both (Next t) (λ u. is_apart (drop n bytes) ≡ (is_end u.kind || not (u.start == next.start))) (Beside t)
          (λ u x y. record { before = x.before; after = y; same_line = x.same; new_line = x.new })
          tail (next_is t next (drop n bytes) tail (behind_token here kind n (drop n bytes)) r) (after_is next (drop n bytes) tail r),
      chain next (drop n bytes) tail r,
    )

beside_at : (left right : List Token) (t u : Token) → Chain (left ++ t ∷ u ∷ right) → Beside t u
beside_at [] right t u c = c.0
beside_at (x ∷ left) right t u c = beside_at left right t u c.1

-- ---- the first token

record Fresh (here : Here) : Type 0 where
  apart : here.apart ≡ true
  some : here.spaces ≢ None

fresh_byte : (comment : Bool) (here : Here) (b : ℕ) → Fresh here → Fresh (over_byte comment here b)
fresh_byte comment here b f = by_cond Fresh (b == 10) _ _ (λ e. record { apart = refl; some = some_zero })
    (λ e. record { apart = refl; some = spaces_some comment b here.spaces f.some })

fresh_gap : (comment : Bool) (bytes : List ℕ) (here : Here) → Fresh here → Fresh (over_gap comment here bytes)
fresh_gap comment [] here f = f
fresh_gap comment (b ∷ bytes) here f = fresh_gap comment bytes (over_byte comment here b) (fresh_byte comment here b f)

first_is : (here : Here) (bytes : List ℕ) (tokens : List Token) → Fresh here → TokensFrom here bytes tokens → HeadIs IsFirst tokens
first_is here _ _ f ends = record { before = f.apart; indented = f.some }
first_is here bytes tokens f (gap comment n b r) = first_is (over_gap comment here (take n bytes)) (drop n bytes) tokens
    (fresh_gap comment (take n bytes) here f) r
first_is here bytes _ f (token kind n b r) = record { before = f.apart; indented = f.some }

-- ---- the last token

not_empty : (here : Here) (bytes : List ℕ) (tokens : List Token) → TokensFrom here bytes tokens → tokens ≢ []
not_empty here _ _ ends e = cc
not_empty here bytes tokens (gap comment n b r) e = not_empty (over_gap comment here (take n bytes)) (drop n bytes) tokens r e
not_empty here bytes _ (token kind n b r) e = cc

abbrev LastIs : List Token → Type 0
LastIs [] = Unit {0}
LastIs (t ∷ []) = t.space_after ≡ true
LastIs (t ∷ u ∷ tokens) = LastIs (u ∷ tokens)

last_cons : (t : Token) (tail : List Token) → tail ≢ [] → LastIs tail → LastIs (t ∷ tail)
last_cons t [] h l = absurd (h refl)
last_cons t (u ∷ tail) h l = l

last_is : (here : Here) (bytes : List ℕ) (tokens : List Token) → TokensFrom here bytes tokens → LastIs tokens
last_is here _ _ ends = refl
last_is here bytes tokens (gap comment n b r) = last_is (over_gap comment here (take n bytes)) (drop n bytes) tokens r
last_is here bytes _ (token {tokens = tail} kind n b r) =
    last_cons (token_at here kind n (drop n bytes)) tail (not_empty (over_token here n) (drop n bytes) tail r)
    (last_is (over_token here n) (drop n bytes) tail r)

last_at : (left : List Token) (t : Token) → LastIs (left ++ t ∷ []) → t.space_after ≡ true
last_at [] t l = l
last_at (x ∷ []) t l = l
last_at (x ∷ y ∷ left) t l = last_at (y ∷ left) t l

pub tokens_spaced : (source : List ℕ) (tokens : List Token) → Tokens source tokens → IsSpaced tokens
tokens_spaced source tokens r =
    let here = first_place (mark_length source) in let bytes = drop (mark_length source) source in
    record {
      first = λ t right e. subst (HeadIs IsFirst) e (first_is here bytes tokens (record { apart = refl; some = some_zero }) r);
      beside = λ left right t u e. beside_at left right t u (subst Chain e (chain here bytes tokens r));
      last = λ left t e. last_at left t (subst LastIs e (last_is here bytes tokens r));
    }
