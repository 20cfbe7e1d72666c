-- Indents count the spaces outside comments.
use Rattle.std.proofs.Common.{◌≡◌, ℕ, suc, ◌+◌, ◌-◌, ◌<◌, ◌≤◌, List, [], ◌∷◌, ◌++◌, length, take, drop, Bool, true, false, refl, sym, ap, subst, ◌∙◌, arith}
use Rattle.std.proofs.Common.{append_assoc, append-nil, length-append, length-take-le}
use Rattle.std.specs.Prelude.{Option, Some, None, All, cond, not, nat_le, nat_lt, ◌==◌, ◌||◌, ◌&&◌}
use Rattle.std.proofs.lemmas.List.Elements.{All-nil, All-cons}
use Rattle.std.proofs.lemmas.Bool.{leb-true, ltb-true}
use Rattle.indent_scanner.specs.declared.token.Tok.TheVariants.{End}
use Rattle.indent_scanner.specs.declared.token.Token.{Token}
use Rattle.indent_scanner.specs.declared.here.Here.{Here}
use Rattle.indent_scanner.specs.declared.piece.Piece.TheVariants.{Gap, Found}
use Rattle.indent_scanner.specs.Tokens.{mark_length, first_place, one_space, over_byte, over_gap, over_token, token_at, TokensFrom, ends, gap, token, Tokens}
use Rattle.indent_scanner.specs.Tokens.{line_feeds}
use Rattle.indent_scanner.specs.Spacing.{comments, is_inside, spaces_outside, last_bytes, line_before, IsIndented}
use Rattle.indent_scanner.proofs.Bools.{by_test, by_cond, both_true, are_false}
use Rattle.indent_scanner.proofs.Outcomes.{begins_within}
use Rattle.indent_scanner.proofs.Spelling.{begins_holds}
use Rattle.indent_scanner.proofs.Standing.{feed_more, plain_more, no_zero, start_one, gap_start, Reached, bytes_before, over_the_gap, over_the_token, mark_is}
use Rattle.indent_scanner.proofs.Standing.{begun}

-- ---- the last line, with one byte more

feed_ends : (text : List ℕ) (b : ℕ) → (b == 10) ≡ true → last_bytes (text ++ b ∷ []) ≡ []
feed_ends [] b e = ap (λ v. cond (cond v 1 0 == 0) (b ∷ []) []) e
feed_ends (c ∷ text) b e =
    let whole = c ∷ (text ++ b ∷ []) in let rest = last_bytes (text ++ b ∷ []) in
    ap (λ n. cond (n == 0) whole rest) (feed_more (c ∷ text) b e) ∙ ap (λ v. cond v whole rest) (no_zero (line_feeds (c ∷ text))) ∙ feed_ends text b e

push_cond : (v : Bool) (xs ys zs : List ℕ) (b : ℕ) → zs ≡ ys ++ b ∷ [] → cond v (xs ++ b ∷ []) zs ≡ cond v xs ys ++ b ∷ []
push_cond true xs ys zs b e = refl
push_cond false xs ys zs b e = e

plain_ends : (text : List ℕ) (b : ℕ) → (b == 10) ≡ false → last_bytes (text ++ b ∷ []) ≡ last_bytes text ++ b ∷ []
plain_ends [] b e = ap (λ v. cond (cond v 1 0 == 0) (b ∷ []) []) e
plain_ends (c ∷ text) b e =
    ap (λ n. cond (n == 0) (c ∷ (text ++ b ∷ [])) (last_bytes (text ++ b ∷ []))) (plain_more (c ∷ text) b e)
    ∙ push_cond (line_feeds (c ∷ text) == 0) (c ∷ text) (last_bytes text) (last_bytes (text ++ b ∷ [])) b (plain_ends text b e)

short_cond : (v : Bool) (n : ℕ) (xs ys : List ℕ) → length xs ≤ n → length ys ≤ n → length (cond v xs ys) ≤ n
short_cond true n xs ys x y = x
short_cond false n xs ys x y = y

last_short : (text : List ℕ) → length (last_bytes text) ≤ length text
last_short [] = omega arith
last_short (b ∷ text) =
    let le = last_short text in
    short_cond (line_feeds (b ∷ text) == 0) (suc (length text)) (b ∷ text) (last_bytes text) (omega arith) (omega (arith, le))

-- ---- counting one byte more

count_cond : (v w : Bool) (m : ℕ) → cond v (suc (cond w (suc m) m)) (cond w (suc m) m) ≡ cond w (suc (cond v (suc m) m)) (cond v (suc m) m)
count_cond true true m = refl
count_cond true false m = refl
count_cond false true m = refl
count_cond false false m = refl

count_more : (cs : List (ℕ × ℕ)) (p q b : ℕ) (text : List ℕ) → q ≡ p + length text
    → spaces_outside cs p (text ++ b ∷ []) ≡ cond (b == 32 && not (is_inside cs q)) (suc (spaces_outside cs p text)) (spaces_outside cs p text)
count_more cs p q b [] e = let same : p ≡ q = omega (arith, e) in ap (λ k. cond (b == 32 && not (is_inside cs k)) 1 0) same
count_more cs p q b (c ∷ text) e =
    ap (λ k. cond (c == 32 && not (is_inside cs p)) (suc k) k) (count_more cs (suc p) q b text (omega (arith, e)))
    ∙ count_cond (c == 32 && not (is_inside cs p)) (b == 32 && not (is_inside cs q)) (spaces_outside cs (suc p) text)

-- ---- a place behind bytes

module _ (cs : List (ℕ × ℕ)) where
  abbrev counted : List ℕ → Here → ℕ
  counted done here = spaces_outside cs (here.start - length (last_bytes done)) (last_bytes done)

  abbrev Counts : List ℕ → Here → Type 0
  Counts done here = (k : ℕ) → here.spaces ≡ Some k → k ≡ counted done here

  space_more : (v : Bool) (o : Option ℕ) (m k : ℕ) → ((j : ℕ) → o ≡ Some j → j ≡ m) → cond v (one_space o) o ≡ Some k → k ≡ cond v (suc m) m
  space_more true None m k h e = cc
  space_more true (Some j) m k h e = let f : j + 1 ≡ k = cc in let g = h j refl in omega (arith, f, g)
  space_more false o m k h e = h k e

  count_one : (comment : Bool) (done : List ℕ) (here : Here) (b : ℕ) → length (last_bytes done) ≤ here.start → is_inside cs here.start ≡ comment
      → Counts done here → Counts (done ++ b ∷ []) (over_byte comment here b)
  count_one comment done here b le inside h =
      by_cond {A = Here} (λ x. (k : ℕ) → x.spaces ≡ Some k → k ≡ counted (done ++ b ∷ []) x) (b == 10) _ _
      (λ e k f. let none = feed_ends done b e in let zero_is : 0 ≡ k = cc in sym zero_is ∙ sym (ap (λ x. spaces_outside cs (here.start + 1 - length x) x) none))
      (λ e k f.
      let last = last_bytes done in let more = plain_ends done b e in let long = length-append last (b ∷ []) in
      let same : here.start + 1 - length (last ++ b ∷ []) ≡ here.start - length last = omega (arith, long, le) in
      let place : here.start ≡ (here.start - length last) + length last = omega (arith, le) in
      let m = spaces_outside cs (here.start - length last) last in
      space_more (b == 32 && not comment) here.spaces m k h f
      ∙ sym (ap (λ x. spaces_outside cs (here.start + 1 - length x) x) more ∙ ap (λ x. spaces_outside cs x (last ++ b ∷ [])) same
      ∙ count_more cs (here.start - length last) here.start b last place ∙ ap (λ v. cond (b == 32 && not v) (suc m) m) inside))

  last_at : (comment : Bool) (done : List ℕ) (here : Here) (b : ℕ) → length (last_bytes done) ≤ here.start → length (last_bytes (done ++ b ∷ []))
      ≤ (over_byte comment here b).start
  last_at comment done here b le =
      let start = start_one comment here b in
      by_test _ (b == 10)
      (λ e. let f = ap length (feed_ends done b e) in omega (arith, f))
      (λ e. let f = ap length (plain_ends done b e) in let g = length-append (last_bytes done) (b ∷ []) in omega (arith, f, g, le, start))

  count_gap : (comment : Bool) (text done : List ℕ) (here : Here) → length (last_bytes done) ≤ here.start
      → ((k : ℕ) → here.start ≤ k → k < here.start + length text → is_inside cs k ≡ comment) → Counts done here
      → Counts (done ++ text) (over_gap comment here text)
  count_gap comment [] done here le inside h = subst (λ x. Counts x here) (sym (append-nil done)) h
  count_gap comment (b ∷ text) done here le inside h =
      let start = start_one comment here b in
      subst (λ x. Counts x (over_gap comment here (b ∷ text))) (append_assoc done (b ∷ []) text)
      (count_gap comment text (done ++ b ∷ []) (over_byte comment here b) (last_at comment done here b le)
      (λ k low high. inside k (omega (arith, low, start)) (omega (arith, high, start)))
      (count_one comment done here b le (inside here.start (omega arith) (omega arith)) h))

-- ---- comments from here on

not_within : (a n k : ℕ) → ((a ≤ k) → (k < a + n) → ⊥) → (nat_le a k && nat_lt k (a + n)) ≡ false
not_within a n k h = by_test _ (nat_le a k && nat_lt k (a + n))
    (λ e. let f = both_true (nat_le a k) _ e in absurd (h (leb-true a k f.0) (ltb-true k (a + n) f.1))) (λ e. e)

is_within : (a n k : ℕ) → a ≤ k → k < a + n → (nat_le a k && nat_lt k (a + n)) ≡ true
is_within a n k low high = grind (arith, low, high)

none_before : (here : Here) (bytes : List ℕ) (tokens : List Token) (r : TokensFrom here bytes tokens) (k : ℕ) → k < here.start
    → is_inside (comments r) k ≡ false
none_before here _ _ ends k lt = refl
none_before here bytes tokens (gap true n b r) k lt =
    let e = gap_start true (take n bytes) here in
    are_false _ _ (not_within here.start n k (λ low high. omega (arith, low, lt)))
    (none_before (over_gap true here (take n bytes)) (drop n bytes) tokens r k (omega (arith, e, lt)))
none_before here bytes tokens (gap false n b r) k lt =
    let e = gap_start false (take n bytes) here in
    none_before (over_gap false here (take n bytes)) (drop n bytes) tokens r k (omega (arith, e, lt))
none_before here bytes _ (token {tokens = tail} kind n b r) k lt = none_before (over_token here n) (drop n bytes) tail r k (omega (arith, lt))

-- ---- all tokens

module _ (source mark : List ℕ) (is_mark : length mark ≡ mark_length source) (cs : List (ℕ × ℕ)) where
  short : (done bytes : List ℕ) (here : Here) → Reached source mark done bytes here → length (last_bytes done) ≤ here.start
  short done bytes here h = let e = h.start in let f = length-append mark done in let le = last_short done in omega (arith, e, f, le)

  counts_here : (done bytes : List ℕ) (here : Here) → Reached source mark done bytes here → Counts cs done here → (k : ℕ) → here.spaces ≡ Some k
      → k ≡ spaces_outside cs (here.start - length (line_before source here.start)) (line_before source here.start)
  counts_here done bytes here h counts k e = counts k e
      ∙ sym (ap (λ x. spaces_outside cs (here.start - length (last_bytes x)) (last_bytes x)) (bytes_before source mark is_mark done bytes here h))

  all_indented : (done bytes : List ℕ) (here : Here) (tokens : List Token) → Reached source mark done bytes here → Counts cs done here
      → (r : TokensFrom here bytes tokens) → ((k : ℕ) → here.start ≤ k → is_inside cs k ≡ is_inside (comments r) k) → All (IsIndented source cs) tokens
  all_indented done _ here _ h counts ends same = All-cons (IsIndented source cs) (token_at here End 0 []) [] (counts_here done [] here h counts)
      (All-nil (IsIndented source cs))
  all_indented done bytes here tokens h counts (gap true n b r) same =
      let w = begins_within bytes (Gap true n) b in let long = length-take-le n bytes w.1 in let start = gap_start true (take n bytes) here in
      all_indented (done ++ take n bytes) (drop n bytes) (over_gap true here (take n bytes)) tokens (over_the_gap source mark is_mark true n done bytes here h)
      (count_gap cs true (take n bytes) done here (short done bytes here h)
      (λ k low high. same k low ∙ ap (λ v. v || is_inside (comments r) k) (is_within here.start n k low (omega (arith, high, long)))) counts)
      r (λ k low. same k (omega (arith, low, start)) ∙ ap (λ v. v || is_inside (comments r) k)
      (not_within here.start n k (λ l high. omega (arith, low, start, long, high))))
  all_indented done bytes here tokens h counts (gap false n b r) same =
      let w = begins_within bytes (Gap false n) b in let long = length-take-le n bytes w.1 in let start = gap_start false (take n bytes) here in
      all_indented (done ++ take n bytes) (drop n bytes) (over_gap false here (take n bytes)) tokens
      (over_the_gap source mark is_mark false n done bytes here h)
      (count_gap cs false (take n bytes) done here (short done bytes here h)
      (λ k low high. same k low ∙ none_before (over_gap false here (take n bytes)) (drop n bytes) tokens r k (omega (arith, high, start))) counts)
      r (λ k low. same k (omega (arith, low, start)))
  all_indented done bytes here _ h counts (token {tokens = tail} kind n b r) same =
      All-cons (IsIndented source cs) (token_at here kind n (drop n bytes)) tail (counts_here done bytes here h counts)
      (all_indented (done ++ take n bytes) (drop n bytes) (over_token here n) tail
      (over_the_token source mark is_mark kind n done bytes here (begins_holds bytes (Found kind n) b) h)
      (λ k e. cc) r (λ k low. same k (omega (arith, low))))

pub tokens_indented : (source : List ℕ) (tokens : List Token) (r : Tokens source tokens) → All (IsIndented source (comments r)) tokens
tokens_indented source tokens r =
    all_indented source (take (mark_length source) source) (mark_is source) (comments r) [] (drop (mark_length source) source)
    (first_place (mark_length source)) tokens (begun source)
    (λ k e. let f : 0 ≡ k = cc in sym f) r (λ k low. refl)
