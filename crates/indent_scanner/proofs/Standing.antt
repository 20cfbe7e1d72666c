-- Where tokens stand, and what their bytes are.
use Rattle.std.proofs.Common.{◌≡◌, ℕ, suc, ◌+◌, ◌≤◌, List, [], ◌∷◌, ◌++◌, length, take, drop, Bool, true, false, refl, sym, ap, subst, ◌∙◌, arith, append_assoc}
use Rattle.std.proofs.Common.{append-nil, length-append, length-take-le}
use Rattle.std.specs.Prelude.{cond, ◌==◌, ◌&&◌, All}
use Rattle.std.proofs.Math.Seq.{take-append_seam, drop-append_seam}
use Rattle.std.proofs.lemmas.List.{take-append-drop}
use Rattle.std.proofs.lemmas.List.Elements.{All-nil, All-cons}
use Rattle.std.proofs.lemmas.Bool.{eqb-true}
use Rattle.arc_base.specs.declared.place.Code.{Code}
use Rattle.arc_base.specs.declared.place.Place.{Place}
use Rattle.indent_scanner.specs.declared.token.Tok.{Tok}
use Rattle.indent_scanner.specs.declared.token.Tok.TheVariants as T
use Rattle.indent_scanner.specs.declared.token.Token.{Token}
use Rattle.indent_scanner.specs.declared.here.Here.{Here}
use Rattle.indent_scanner.specs.declared.piece.Piece.TheVariants.{Found}
use Rattle.indent_scanner.specs.Bytes.{byte_at}
use Rattle.indent_scanner.specs.Meaning.{IsSpelled, IsSpelledIn}
use Rattle.indent_scanner.specs.Tokens.{mark_length, first_place, over_byte, over_gap, over_token, token_at, TokensFrom, ends, gap, token, RefusedFrom}
use Rattle.indent_scanner.specs.Tokens.{here_it_is, behind_gap, behind_token, Tokens, IsRefused, before, line_feeds, last_line, StandsAt, StandsIn}
use Rattle.indent_scanner.proofs.Bools.{by_test, by_cond, both_true}
use Rattle.indent_scanner.proofs.Feeds.{NoFeed}
use Rattle.indent_scanner.proofs.Spelling.{IsToken, begins_holds}

-- ---- one byte more

feeds_cons : (c : ℕ) (m n : ℕ) → m ≡ suc n → cond (c == 10) (suc m) m ≡ suc (cond (c == 10) (suc n) n)
feeds_cons c m n e = by_test _ (c == 10)
    (λ f. ap (λ v. cond v (suc m) m) f ∙ ap (λ x. suc x) e ∙ sym (ap (λ v. suc (cond v (suc n) n)) f))
    (λ f. ap (λ v. cond v (suc m) m) f ∙ e ∙ sym (ap (λ v. suc (cond v (suc n) n)) f))

pub feed_more : (text : List ℕ) (b : ℕ) → (b == 10) ≡ true → line_feeds (text ++ b ∷ []) ≡ suc (line_feeds text)
feed_more [] b e = ap (λ v. cond v 1 0) e
feed_more (c ∷ text) b e = feeds_cons c (line_feeds (text ++ b ∷ [])) (line_feeds text) (feed_more text b e)

pub plain_more : (text : List ℕ) (b : ℕ) → (b == 10) ≡ false → line_feeds (text ++ b ∷ []) ≡ line_feeds text
plain_more [] b e = ap (λ v. cond v 1 0) e
plain_more (c ∷ text) b e = ap (λ n. cond (c == 10) (suc n) n) (plain_more text b e)

pub no_zero : (n : ℕ) → (suc n == 0) ≡ false
no_zero n = by_test _ (suc n == 0) (λ f. let g = eqb-true (suc n) 0 f in let h : ⊥ = omega (arith, g) in absurd h) (λ f. f)

feed_last : (text : List ℕ) (b : ℕ) → (b == 10) ≡ true → last_line (text ++ b ∷ []) ≡ 0
feed_last [] b e = ap (λ v. cond (cond v 1 0 == 0) 1 0) e
feed_last (c ∷ text) b e =
    let one = suc (length (text ++ b ∷ [])) in let rest = last_line (text ++ b ∷ []) in
    ap (λ n. cond (n == 0) one rest) (feed_more (c ∷ text) b e) ∙ ap (λ v. cond v one rest) (no_zero (line_feeds (c ∷ text))) ∙ feed_last text b e

last_cons : (v : Bool) (m n k l : ℕ) → m ≡ suc n → k ≡ suc l → cond v m k ≡ suc (cond v n l)
last_cons true m n k l e f = e
last_cons false m n k l e f = f

plain_last : (text : List ℕ) (b : ℕ) → (b == 10) ≡ false → last_line (text ++ b ∷ []) ≡ suc (last_line text)
plain_last [] b e = ap (λ v. cond (cond v 1 0 == 0) 1 0) e
plain_last (c ∷ text) b e =
    let longer : suc (length (text ++ b ∷ [])) ≡ suc (suc (length text)) = (let n = length-append text (b ∷ []) in omega (arith, n)) in
    ap (λ n. cond (n == 0) (suc (length (text ++ b ∷ []))) (last_line (text ++ b ∷ []))) (plain_more (c ∷ text) b e)
    ∙ last_cons (line_feeds (c ∷ text) == 0) _ _ _ _ longer (plain_last text b e)

-- ---- a place behind bytes

pub record At (done : List ℕ) (here : Here) : Type 0 where
  pub line : here.line ≡ suc (line_feeds done)
  pub column : here.column ≡ suc (last_line done)

over_one : (comment : Bool) (here : Here) (done : List ℕ) (b : ℕ) → At done here → At (done ++ b ∷ []) (over_byte comment here b)
over_one comment here done b at =
    by_cond (At (done ++ b ∷ [])) (b == 10) _ _
    (λ e. record { line = (let f = feed_more done b e in let g = at.line in omega (arith, f, g)); column = (let f = feed_last done b e in omega (arith, f)) })
    (λ e. record {
      line = at.line ∙ ap (λ x. suc x) (sym (plain_more done b e));
      column = (let f = plain_last done b e in let g = at.column in omega (arith, f, g));
    })

pub start_one : (comment : Bool) (here : Here) (b : ℕ) → (over_byte comment here b).start ≡ here.start + 1
start_one comment here b = by_cond {A = Here} (λ h. h.start ≡ here.start + 1) (b == 10) _ _ (λ e. refl) (λ e. refl)

gap_at : (comment : Bool) (text done : List ℕ) (here : Here) → At done here → At (done ++ text) (over_gap comment here text)
gap_at comment [] done here at = subst (λ x. At x here) (sym (append-nil done)) at
gap_at comment (b ∷ text) done here at = subst (λ x. At x (over_gap comment here (b ∷ text))) (append_assoc done (b ∷ []) text)
    (gap_at comment text (done ++ b ∷ []) (over_byte comment here b) (over_one comment here done b at))

pub gap_start : (comment : Bool) (text : List ℕ) (here : Here) → (over_gap comment here text).start ≡ here.start + length text
gap_start comment [] here = omega arith
gap_start comment (b ∷ text) here = let e = gap_start comment text (over_byte comment here b) in let f = start_one comment here b in omega (arith, e, f)

feeds_none : (text done : List ℕ) → NoFeed text → (line_feeds (done ++ text) ≡ line_feeds done) × (last_line (done ++ text) ≡ last_line done + length text)
feeds_none [] done n = (ap line_feeds (append-nil done), (let e = ap last_line (append-nil done) in omega (arith, e)))
feeds_none (b ∷ text) done n =
    let r = feeds_none text (done ++ b ∷ []) n.1 in let same = append_assoc done (b ∷ []) text in (
      ap line_feeds (sym same) ∙ r.0 ∙ plain_more done b n.0,
      (let e = ap last_line (sym same) in let f = plain_last done b n.0 in let g = r.1 in
          omega (arith, e, f, g)),
    )

token_behind : (text done : List ℕ) (here : Here) (n : ℕ) → length text ≡ n → NoFeed text → At done here → At (done ++ text) (over_token here n)
token_behind text done here n is none at =
    let f = feeds_none text done none in
    record { line = at.line ∙ ap (λ x. suc x) (sym f.0); column = (let e = at.column in let g = f.1 in omega (arith, e, g, is)) }

-- ---- a place of a source

pub record Reached (source mark done bytes : List ℕ) (here : Here) : Type 0 where
  pub whole : source ≡ (mark ++ done) ++ bytes
  pub start : here.start ≡ length (mark ++ done)
  pub at : At done here

further : (source mark done bytes text left : List ℕ) (here next : Here) → Reached source mark done bytes here → text ++ left ≡ bytes
    → next.start ≡ here.start + length text → At (done ++ text) next → Reached source mark (done ++ text) left next
further source mark done bytes text left here next r split start at = record {
  whole = r.whole ∙ ap (λ x. (mark ++ done) ++ x) (sym split) ∙ sym (append_assoc (mark ++ done) text left) ∙ ap (λ x. x ++ left) (append_assoc mark done text);
  start = (let e = r.start in let f = ap length (append_assoc mark done text) in let g = length-append (mark ++ done) text in omega (arith, e, f, g, start));
  at = at;
}

module _ (source mark : List ℕ) (is_mark : length mark ≡ mark_length source) where
  pub bytes_before : (done bytes : List ℕ) (here : Here) → Reached source mark done bytes here → before source here.start ≡ done
  bytes_before done bytes here r =
      ap (λ x. drop x (take here.start source)) (sym is_mark) ∙ ap (λ x. drop (length mark) (take x source)) r.start
      ∙ ap (λ x. drop (length mark) (take (length (mark ++ done)) x)) r.whole
      ∙ ap (drop (length mark)) (take-append_seam (mark ++ done) bytes) ∙ drop-append_seam mark done

  bytes_behind : (done bytes : List ℕ) (here : Here) → Reached source mark done bytes here → drop here.start source ≡ bytes
  bytes_behind done bytes here r = ap (λ x. drop x source) r.start ∙ ap (drop (length (mark ++ done))) r.whole ∙ drop-append_seam (mark ++ done) bytes

  stands : (done bytes : List ℕ) (here : Here) → Reached source mark done bytes here → StandsAt source here.start here.line here.column
  stands done bytes here r =
      let e = sym (bytes_before done bytes here r) in
      let at = r.at in
      record { line_is = at.line ∙ ap (λ x. suc (line_feeds x)) e; column_is = at.column ∙ ap (λ x. suc (last_line x)) e }

  pub over_the_gap : (comment : Bool) (n : ℕ) (done bytes : List ℕ) (here : Here) → Reached source mark done bytes here
      → Reached source mark (done ++ take n bytes) (drop n bytes) (over_gap comment here (take n bytes))
  over_the_gap comment n done bytes here r = further source mark done bytes (take n bytes) (drop n bytes) here (over_gap comment here (take n bytes)) r
      (take-append-drop n bytes) (gap_start comment (take n bytes) here) (gap_at comment (take n bytes) done here r.at)

  pub over_the_token : (kind : Tok) (n : ℕ) (done bytes : List ℕ) (here : Here) → IsToken kind n bytes → Reached source mark done bytes here
      → Reached source mark (done ++ take n bytes) (drop n bytes) (over_token here n)
  over_the_token kind n done bytes here t r =
      let long = length-take-le n bytes t.inside in
      further source mark done bytes (take n bytes) (drop n bytes) here (over_token here n) r (take-append-drop n bytes) (omega (arith, long))
      (token_behind (take n bytes) done here n long t.no_feed r.at)

-- what is so of a token of the source
record Known (source : List ℕ) (t : Token) : Type 0 where
  standing : StandsIn source t
  spelling : IsSpelledIn source t

spelled_in : (source mark : List ℕ) → length mark ≡ mark_length source → (kind : Tok) (n : ℕ) (done bytes : List ℕ) (here : Here)
    → Reached source mark done bytes here → IsSpelled kind (take n bytes) → IsSpelled kind (take n (drop here.start source))
spelled_in source mark is_mark kind n done bytes here r s = subst (λ x. IsSpelled kind (take n x)) (sym (bytes_behind source mark is_mark done bytes here r)) s

reads_known : (source mark : List ℕ) → length mark ≡ mark_length source → (done bytes : List ℕ) (here : Here) (tokens : List Token)
    → Reached source mark done bytes here → TokensFrom here bytes tokens → All (Known source) tokens
reads_known source mark is_mark done _ here _ r ends = All-cons (Known source) (token_at here T.End 0 []) []
    (record { standing = stands source mark is_mark done [] here r; spelling = refl }) (All-nil (Known source))
reads_known source mark is_mark done bytes here tokens r (gap comment n b reads) = reads_known source mark is_mark (done ++ take n bytes) (drop n bytes)
    (over_gap comment here (take n bytes)) tokens (over_the_gap source mark is_mark comment n done bytes here r) reads
reads_known source mark is_mark done bytes here _ r (token {tokens = tail} kind n b reads) =
    let t = begins_holds bytes (Found kind n) b in
    All-cons (Known source) (token_at here kind n (drop n bytes)) tail
    (record { standing = stands source mark is_mark done bytes here r; spelling = spelled_in source mark is_mark kind n done bytes here r t.spelled })
    (reads_known source mark is_mark (done ++ take n bytes) (drop n bytes) (over_token here n) tail
    (over_the_token source mark is_mark kind n done bytes here t r) reads)

stops_stand : (source mark : List ℕ) → length mark ≡ mark_length source → (done bytes : List ℕ) (here at : Here) (code : Code)
    → Reached source mark done bytes here → RefusedFrom here bytes code at → StandsAt source at.start at.line at.column
stops_stand source mark is_mark done bytes here _ code r (here_it_is _ k b) = stands source mark is_mark (done ++ take k bytes) (drop k bytes)
    (over_gap true here (take k bytes)) (over_the_gap source mark is_mark true k done bytes here r)
stops_stand source mark is_mark done bytes here at code r (behind_gap comment n b stops) = stops_stand source mark is_mark (done ++ take n bytes) (drop n bytes)
    (over_gap comment here (take n bytes)) at code (over_the_gap source mark is_mark comment n done bytes here r) stops
stops_stand source mark is_mark done bytes here at code r (behind_token kind n b stops) = stops_stand source mark is_mark (done ++ take n bytes) (drop n bytes)
    (over_token here n) at code (over_the_token source mark is_mark kind n done bytes here (begins_holds bytes (Found kind n) b) r) stops

-- ---- sources

mark_there : (source : List ℕ) → (byte_at source 0 == 239 && (byte_at source 1 == 187 && byte_at source 2 == 191)) ≡ true → 3 ≤ length source
mark_there [] e = (let f : ⊥ = cc in absurd f)
mark_there (a ∷ []) e = (let f = both_true (a == 239) _ e in let g = f.1 in let h : ⊥ = cc in absurd h)
mark_there (a ∷ b ∷ []) e = (let f = both_true (a == 239) _ e in let g = both_true (b == 187) _ f.1 in let h = g.1 in let k : ⊥ = cc in absurd k)
mark_there (a ∷ b ∷ c ∷ source) e = omega arith

mark_inside : (source : List ℕ) → mark_length source ≤ length source
mark_inside source = by_cond (λ k. k ≤ length source) _ 3 0 (mark_there source) (λ e. omega arith)

pub mark_is : (source : List ℕ) → length (take (mark_length source) source) ≡ mark_length source
mark_is source = length-take-le (mark_length source) source (mark_inside source)

pub begun : (source : List ℕ) → Reached source (take (mark_length source) source) [] (drop (mark_length source) source) (first_place (mark_length source))
begun source =
    let mark = take (mark_length source) source in
    record {
      whole = sym (ap (λ x. x ++ drop (mark_length source) source) (append-nil mark) ∙ take-append-drop (mark_length source) source);
      start = sym (ap length (append-nil mark) ∙ mark_is source);
      at = record { line = refl; column = refl };
    }

tokens_known : (source : List ℕ) (tokens : List Token) → Tokens source tokens → All (Known source) tokens
tokens_known source tokens t = reads_known source (take (mark_length source) source) (mark_is source) [] (drop (mark_length source) source)
    (first_place (mark_length source)) tokens (begun source) t

pub tokens_stand : (source : List ℕ) (tokens : List Token) → Tokens source tokens → All (StandsIn source) tokens
tokens_stand source tokens t k d lt = let all = tokens_known source tokens t k d lt in all.standing

pub tokens_spelled : (source : List ℕ) (tokens : List Token) → Tokens source tokens → All (IsSpelledIn source) tokens
tokens_spelled source tokens t k d lt = let all = tokens_known source tokens t k d lt in all.spelling

pub refused_stands : (source : List ℕ) (number : ℕ) (code : Code) (at : Place) (r : IsRefused source number code at)
    → StandsAt source r.here.start at.line at.column
refused_stands source number code at r =
    let s = stops_stand source (take (mark_length source) source) (mark_is source) [] (drop (mark_length source) source) (first_place (mark_length source))
    r.here code (begun source) r.stops in
    record { line_is = r.on_line ∙ s.line_is; column_is = r.at_column ∙ s.column_is }
