-- How pieces begin, and how long they are.
use Rattle.std.proofs.Common.{◌≡◌, ◌≢◌, ℕ, zero, suc, ◌+◌, ◌-◌, ◌≤◌, inl, inr, List, [], ◌∷◌, length, get_or, take, drop, Bool, true, false, refl, sym, ap}
use Rattle.std.proofs.Common.{subst, ◌∙◌, arith, add-one}
use Rattle.std.specs.Prelude.{Option, Some, None, cond, not, nat_lt, ◌&&◌, ◌==◌, if◌then◌else◌, pos}
use Rattle.indent_scanner.specs.declared.token.Tok.TheVariants as T
use Rattle.indent_scanner.specs.declared.shape.Quote.TheVariants as Q
use Rattle.indent_scanner.specs.declared.shape.Last.TheVariants as L
use Rattle.arc_base.specs.declared.place.Code.TheVariants.{BadByte, BadLiteral, IntTooLarge}
use Rattle.indent_scanner.specs.declared.token.Key.{Key}
use Rattle.indent_scanner.specs.declared.token.Tok.{Tok}
use Rattle.indent_scanner.specs.declared.shape.Shape.{Shape}
use Rattle.indent_scanner.specs.declared.shape.Shape.TheVariants.{Word, WordUnder, BrokenWord, Zero, Number, NumberUnder, BrokenNumber, Inside, Escaped, Hex}
use Rattle.indent_scanner.specs.declared.shape.Shape.TheVariants.{Decimal, CharWhole, TextWhole, Quoted, QuotedWhole, Line, Nested, NestedWhole, Single}
use Rattle.indent_scanner.specs.declared.shape.Shape.TheVariants.{StarColon, Run}
use Rattle.indent_scanner.specs.declared.piece.Piece.{Piece}
use Rattle.indent_scanner.specs.declared.piece.Piece.TheVariants.{Gap, Found, Refused}
use Rattle.indent_scanner.specs.declared.piece.Opening.{Opening}
use Rattle.indent_scanner.specs.declared.piece.Opening.TheVariants.{Known, Shaped}
use Rattle.indent_scanner.specs.Bytes.{byte_at, is_blank, is_letter, is_digit, is_bracket, is_operator, is_mark}
use Rattle.indent_scanner.specs.Words.{key_of}
use Rattle.indent_scanner.specs.Shape.{depth_of, is_whole, form, LongestForm, NoForm}
use Rattle.indent_scanner.specs.Pieces.{word_kind, int_piece}
use Rattle.indent_scanner.specs.ByForm.{open_comment, open_text, open_brace, open_digit, open_mark, opening_of, may_hold, one_more, stray_in, if_clean}
use Rattle.indent_scanner.specs.ByForm.{piece_of, code_of, Takes, IsWithin}
use Rattle.std.proofs.lemmas.Bool.{eqb-true}
use Rattle.std.proofs.lemmas.List.{take_rest}
use Rattle.indent_scanner.proofs.Fronts.{longest_at, no_front_at, longest_once, longest_or_none, form_inside}
use Rattle.indent_scanner.proofs.Bools.{both_true}

abbrev IsOfBytes : Tok → Type 0
IsOfBytes T.End = ⊥
IsOfBytes _ = Unit {0}

word_of_bytes : (key : Option Key) → IsOfBytes (word_kind key)
word_of_bytes None = tt
word_of_bytes (Some key) = tt

-- ---- openings: a form with no comment open, or a piece that is there

abbrev pub IsSound : List ℕ → Opening → Type 0
IsSound bytes (Known piece) = IsWithin bytes piece
IsSound bytes (Shaped s) = depth_of s ≡ 0

if_sound : (bytes : List ℕ) (v : Bool) (a b : Opening) → (v ≡ true → IsSound bytes a) → IsSound bytes b → IsSound bytes (cond v a b)
if_sound bytes true a b x y = x refl
if_sound bytes false a b x y = y

-- a byte that is not 0 is there
some_more : (bytes : List ℕ) (k : ℕ) → (get_or bytes 0 0 == suc k) ≡ true → 2 ≤ suc (length bytes)
some_more [] k e = (let n = eqb-true 0 (suc k) e in let f : ⊥ = omega (arith, n) in absurd f)
some_more (b ∷ bytes) k e = omega arith

one_there : (n : ℕ) → 1 ≤ suc n
one_there n = omega arith

none_there : (n : ℕ) → 0 ≤ n
none_there n = omega arith

-- no token of the bytes is the end of the source
no_end : (kind : Tok) → IsOfBytes kind → kind ≢ T.End
no_end kind of e = subst IsOfBytes e of

comment_sound : (bytes : List ℕ) (next : ℕ) → IsSound bytes (open_comment next)
comment_sound bytes next = if_sound bytes (next == 91) (Shaped (Nested 0 L.Hash)) (Shaped Line) (λ e. refl) refl

text_sound : (bytes : List ℕ) (next third : ℕ) → IsSound bytes (open_text next third)
text_sound bytes next third = if_sound bytes _ (Known (Refused BadLiteral 0)) (Shaped (Inside Q.Text None)) (λ e. none_there (length bytes)) refl

brace_sound : (b : ℕ) (bytes : List ℕ) (third : ℕ) → IsSound (b ∷ bytes) (open_brace (get_or bytes 0 0) third)
brace_sound b bytes third = if_sound (b ∷ bytes) (get_or bytes 0 0 == 46 && not (third == 46)) (Known (Found T.PragmaOpen 2)) (Known (Found (T.Punct 123) 1))
    (λ e. (one_there 1, some_more bytes 45 (both_true _ _ e).0, no_end T.PragmaOpen tt)) (one_there 0, one_there (length bytes), no_end (T.Punct 123) tt)

digit_sound : (bytes : List ℕ) (b : ℕ) → IsSound bytes (open_digit b)
digit_sound bytes b = if_sound bytes (b == 48) (Shaped Zero) (Shaped (Number 10 (b - 48))) (λ e. refl) refl

mark_sound : (b : ℕ) (bytes : List ℕ) → IsSound (b ∷ bytes) (open_mark b)
mark_sound b bytes = if_sound (b ∷ bytes) (is_bracket b) (Known (Found (T.Punct b) 1)) (if is_operator b then Shaped (Single b) else Known (Refused BadByte 0))
    (λ e. (one_there 0, one_there (length bytes), no_end (T.Punct b) tt)) (if_sound (b ∷ bytes) (is_operator b) (Shaped (Single b)) (Known (Refused BadByte 0))
    (λ e. refl) (none_there (suc (length bytes))))

pub opening_sound : (b : ℕ) (bytes : List ℕ) → IsSound (b ∷ bytes) (opening_of b bytes)
opening_sound b bytes =
    let all = b ∷ bytes in
    if_sound all (is_letter b) (Shaped Word) _ (λ e. refl)
    (if_sound all (is_digit b) (open_digit b) _ (λ e. digit_sound all b)
    (if_sound all (is_blank b) (Known (Gap false 1)) _ (λ e. (one_there 0, one_there (length bytes)))
    (if_sound all (b == 13 && byte_at bytes 0 == 10) (Known (Gap false 2)) _ (λ e. (one_there 1, some_more bytes 9 (both_true _ _ e).1))
    (if_sound all (b == 35) (open_comment (byte_at bytes 0)) _ (λ e. comment_sound all (byte_at bytes 0))
    (if_sound all (b == 39) (Shaped (Inside Q.Char None)) _ (λ e. refl)
    (if_sound all (b == 34) (open_text (byte_at bytes 0) (byte_at bytes 1)) _ (λ e. text_sound all (byte_at bytes 0) (byte_at bytes 1))
    (if_sound all (b == 96) (Shaped (Quoted false)) _ (λ e. refl)
    (if_sound all (b == 123) (open_brace (byte_at bytes 0) (byte_at bytes 1)) _ (λ e. brace_sound b bytes (byte_at bytes 1))
    (if_sound all (b == 46 && byte_at bytes 0 == 125) (Known (Found T.PragmaClose 2)) (open_mark b)
    (λ e. (one_there 1, some_more bytes 124 (both_true _ _ e).1, no_end T.PragmaClose tt))
    (mark_sound b bytes))))))))))

-- ---- forms

abbrev IsBelow : ℕ → Option ℕ → Type 0
IsBelow n None = Unit {0}
IsBelow n (Some k) = k ≤ n

below_more : (n : ℕ) (o : Option ℕ) → IsBelow n o → IsBelow (suc n) (one_more o)
below_more n None h = tt
below_more n (Some k) h = omega arith

if_below : (n : ℕ) (v : Bool) (o : Option ℕ) → IsBelow n o → IsBelow n (cond v o (Some 0))
if_below n true o h = h
if_below n false o h = none_there n

stray_below : (s : Shape) (n : ℕ) (bytes : List ℕ) → IsBelow n (stray_in s n bytes)
stray_below s zero bytes = tt
stray_below s (suc n) [] = tt
stray_below s (suc n) (b ∷ bytes) = if_below (suc n) (may_hold s b (byte_at bytes 0)) (one_more (stray_in s n bytes))
    (below_more n (stray_in s n bytes) (stray_below s n bytes))

if_within : (bytes : List ℕ) (v : Bool) (p q : Piece) → IsWithin bytes p → IsWithin bytes q → IsWithin bytes (cond v p q)
if_within bytes true p q x y = x
if_within bytes false p q x y = y

clean_within : (bytes : List ℕ) (n : ℕ) (o : Option ℕ) (p : Piece) → n ≤ length bytes → IsBelow n o → IsWithin bytes p → IsWithin bytes (if_clean o p)
clean_within bytes n None p le h x = x
clean_within bytes n (Some k) p le h x = omega arith

int_within : (value n : ℕ) (bytes : List ℕ) → 1 ≤ n → n ≤ length bytes → IsWithin bytes (int_piece value n bytes)
int_within value n bytes one le = if_within bytes _ (Refused BadLiteral 0) (if nat_lt 2147483647 value then Refused IntTooLarge 0
    else Found (T.Int (pos value)) n) (none_there (length bytes))
    (if_within bytes (nat_lt 2147483647 value) (Refused IntTooLarge 0) (Found (T.Int (pos value)) n) (none_there (length bytes))
    (one, le, no_end (T.Int (pos value)) tt))

pub piece_within : (t : Shape) (n : ℕ) (bytes : List ℕ) → 1 ≤ n → n ≤ length bytes → IsWithin bytes (piece_of t n bytes)
piece_within Word n bytes one le = if_within bytes _ (Refused BadLiteral n) (Found (word_kind (key_of (take n bytes))) n) le
    (one, le, no_end (word_kind (key_of (take n bytes))) (word_of_bytes (key_of (take n bytes))))
piece_within WordUnder n bytes one le = none_there (length bytes)
piece_within BrokenWord n bytes one le = none_there (length bytes)
piece_within Zero n bytes one le = int_within 0 n bytes one le
piece_within (Number base value) n bytes one le = int_within value n bytes one le
piece_within (NumberUnder base value) n bytes one le = none_there (length bytes)
piece_within BrokenNumber n bytes one le = none_there (length bytes)
piece_within (Inside q o) n bytes one le = none_there (length bytes)
piece_within (Escaped q) n bytes one le = none_there (length bytes)
piece_within (Hex q h) n bytes one le = none_there (length bytes)
piece_within (Decimal q v) n bytes one le = none_there (length bytes)
piece_within (CharWhole v) n bytes one le = clean_within bytes n (stray_in (CharWhole v) n bytes) (Found (T.Char v) n) le (stray_below (CharWhole v) n bytes)
    (one, le, no_end (T.Char v) tt)
piece_within TextWhole n bytes one le = clean_within bytes n (stray_in TextWhole n bytes) (Found T.Text n) le (stray_below TextWhole n bytes)
    (one, le, no_end T.Text tt)
piece_within (Quoted some) n bytes one le = none_there (length bytes)
piece_within QuotedWhole n bytes one le = (one, le, no_end T.Quoted tt)
piece_within Line n bytes one le = (one, le)
piece_within (Nested depth last) n bytes one le = none_there (length bytes)
piece_within NestedWhole n bytes one le = clean_within bytes n (stray_in NestedWhole n bytes) (Gap true n) le (stray_below NestedWhole n bytes) (one, le)
piece_within (Single b) n bytes one le =
    let z : 1 ≤ length bytes = omega arith in
    if_within bytes (is_mark b) (Found (T.Punct b) 1) (Found T.Op 1) (one_there 0, z, no_end (T.Punct b) tt) (one_there 0, z, no_end T.Op tt)
piece_within StarColon n bytes one le = let z : 1 ≤ length bytes = omega arith in (one_there 0, z, no_end T.Op tt)
piece_within (Run dot) n bytes one le = (one, le, no_end T.Op tt)

-- ---- pieces

-- the piece that a form tells
abbrev pub ByForm : List ℕ → Piece → Type 0
ByForm [] piece = ⊥
ByForm (b ∷ bytes) piece = Takes (opening_of b bytes) b bytes piece

pub takes_once : (o : Opening) (b : ℕ) (bytes : List ℕ) (p q : Piece) → Takes o b bytes p → Takes o b bytes q → p ≡ q
takes_once (Known known) b bytes p q x y = x ∙ sym y
takes_once (Shaped s) b bytes p q (inl x) (inl y) =
    let e = longest_once s x.1 y.1 bytes x.0 y.0 x.2 y.2 in
    x.3 ∙ ap (λ n. piece_of x.1 (suc n) (b ∷ bytes)) e.0 ∙ ap (λ t. piece_of t (suc y.0) (b ∷ bytes)) e.1 ∙ sym y.3
takes_once (Shaped s) b bytes p q (inl x) (inr y) = absurd (longest_or_none s x.1 bytes x.0 x.2 y.0)
takes_once (Shaped s) b bytes p q (inr x) (inl y) = absurd (longest_or_none s y.1 bytes y.0 y.2 x.0)
takes_once (Shaped s) b bytes p q (inr x) (inr y) = x.1 ∙ sym y.1

pub takes_within : (o : Opening) (b : ℕ) (bytes : List ℕ) (p : Piece) → IsSound (b ∷ bytes) o → Takes o b bytes p → IsWithin (b ∷ bytes) p
takes_within (Known known) b bytes p sound x = subst (IsWithin (b ∷ bytes)) (sym x) sound
takes_within (Shaped s) b bytes p sound (inl x) =
    let le = form_inside x.0 bytes s x.1 x.2.reached in
    subst (IsWithin (b ∷ bytes)) (sym x.3) (piece_within x.1 (suc x.0) (b ∷ bytes) (one_there x.0) (omega (arith, le)))
takes_within (Shaped s) b bytes p sound (inr x) = subst (IsWithin (b ∷ bytes)) (sym x.1) (none_there (suc (length bytes)))

-- the byte that is first, and those behind it
opens_so : (b : ℕ) (bytes rest : List ℕ) (o : Opening) → rest ≡ bytes → opening_of b rest ≡ o → opening_of b bytes ≡ o
opens_so b bytes rest o same e = ap (opening_of b) (sym same) ∙ e

pub opens_flat : (b : ℕ) (bytes : List ℕ) (s : Shape) → opening_of b bytes ≡ Shaped s → depth_of s ≡ 0
opens_flat b bytes s e = subst (IsSound (b ∷ bytes)) e (opening_sound b bytes)

pub known_within : (bytes rest : List ℕ) (piece : Piece) → bytes ≢ [] → rest ≡ drop 1 bytes → opening_of (get_or bytes 0 0) rest ≡ Known piece
    → IsWithin bytes piece
known_within [] rest piece some same e = absurd (some refl)
known_within (b ∷ bytes) rest piece some same e = subst (IsSound (b ∷ bytes)) (opens_so b bytes rest (Known piece) same e) (opening_sound b bytes)

pub begins_known : (bytes rest : List ℕ) (piece : Piece) → bytes ≢ [] → rest ≡ drop 1 bytes → opening_of (get_or bytes 0 0) rest ≡ Known piece
    → ByForm bytes piece
begins_known [] rest piece some same e = absurd (some refl)
begins_known (b ∷ bytes) rest piece some same e = subst (λ x. Takes x b bytes piece) (sym (opens_so b bytes rest (Known piece) same e)) refl

pub begins_whole : (bytes rest : List ℕ) (s t : Shape) (n : ℕ) → bytes ≢ [] → rest ≡ drop 1 bytes → opening_of (get_or bytes 0 0) rest ≡ Shaped s
    → form s n rest ≡ Some t → form s (n + 1) rest ≡ None → is_whole t ≡ true → ByForm bytes (piece_of t (n + 1) bytes)
begins_whole [] rest s t n some same e reached stuck whole = absurd (some refl)
begins_whole (b ∷ bytes) rest s t n some same e reached stuck whole =
    subst (λ x. Takes x b bytes (piece_of t (n + 1) (b ∷ bytes))) (sym (opens_so b bytes rest (Shaped s) same e))
    (inl (n, t, subst (λ x. LongestForm s x n t) same (longest_at s t rest n reached stuck whole), ap (λ k. piece_of t k (b ∷ bytes)) (add-one n)))

pub begins_open : (bytes rest : List ℕ) (s t : Shape) (n : ℕ) → bytes ≢ [] → rest ≡ drop 1 bytes → opening_of (get_or bytes 0 0) rest ≡ Shaped s
    → form s n rest ≡ Some t → form s (n + 1) rest ≡ None → is_whole t ≡ false → ByForm bytes (Refused (code_of s) 0)
begins_open [] rest s t n some same e reached stuck lacks = absurd (some refl)
begins_open (b ∷ bytes) rest s t n some same e reached stuck lacks =
    subst (λ x. Takes x b bytes (Refused (code_of s) 0)) (sym (opens_so b bytes rest (Shaped s) same e))
    (inr (subst (NoForm s) same (no_front_at s t rest n reached stuck lacks), refl))

-- what is read behind the first byte lies in the bytes
pub inside_run : (bytes : List ℕ) (n : ℕ) → bytes ≢ [] → n ≤ length (take (length bytes - 1) (drop 1 bytes)) → n + 1 ≤ length bytes
inside_run [] n some le = absurd (some refl)
inside_run (b ∷ bytes) n some le = let e = ap length (take_rest (b ∷ bytes) 1) in omega (arith, le, e)
