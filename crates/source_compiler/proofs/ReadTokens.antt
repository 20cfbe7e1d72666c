-- Tokens as they are spelled, and what is left of them.
use Rattle.std.proofs.Common.{◌≡◌, ℕ, suc, ◌≤◌, Bool, true, false, List, [], ◌∷◌, length, Some, None, refl, sym, ap, subst, ◌∙◌, arith}
use Rattle.std.specs.Prelude.{All, pos, codes, nat_eq, nat_le, ◌-◌, ◌==◌, ◌&&◌, ◌||◌, if◌then◌else◌}
use Rattle.std.specs.Cmp.Lexicographic.{pointwise}
use Rattle.std.specs.List.{AllPass}
use Rattle.std.proofs.lemmas.Bool.{and_parts, le-leb, leb-true, lt-ltb, eqb-true, both_ways}
use Rattle.indent_scanner.specs.declared.token.Tok.{Tok}
use Rattle.indent_scanner.specs.declared.token.Tok.TheVariants as T
use Rattle.indent_scanner.specs.declared.token.Token.{Token}
use Rattle.indent_scanner.specs.Bytes.{is_letter, is_digit, is_in, in_char, simple_escape, hex_value}
use Rattle.indent_scanner.specs.Grammar as G
use Rattle.indent_scanner.specs.Grammar.{IsName, Character, IsChar}
use Rattle.indent_scanner.specs.Words.{folded, normal}
use Rattle.indent_scanner.specs.Meaning.{IsSpelled, IsSpelledIn}
use Rattle.nim_types.specs.Types.{same_text}
use Rattle.nim_program.specs.Kinds as kind
use Rattle.nim_program.specs.Kinds.{is_value}
use Rattle.parse_exprs.specs.declared.layout.Layout.{Layout}
use Rattle.parse_exprs.specs.Look.{Origin, spelling, goes_on, is_punct, past_colon}
use Rattle.parse_decls.specs.Look.{behind}
use Rattle.typing_laws.specs.Sound.{has_bytes}

pub some_one : {A : Type 0} {a b : A} → Some a ≡ Some b → a ≡ b
some_one e = cc

pub none_some : {A B : Type 0} {a : A} → None ≡ Some a → B
none_some e = cc

pub never : {A : Type 0} → false ≡ true → A
never e = absurd (both_ways false refl e)

-- an int and a char are values of their types, and a name has bytes and isn't `$`
abbrev pub KindRead : Tok → List ℕ → Type 0
KindRead (T.Int value) bytes = is_value kind.int value ≡ true
KindRead (T.Char value) bytes = is_value kind.char (pos value) ≡ true
KindRead T.Name bytes = (has_bytes bytes ≡ true) × (same_text (normal bytes) (codes "$") ≡ false)
KindRead other bytes = Unit {0}

-- ---- what a token is by its bytes

digit_small : (b d : ℕ) → hex_value b ≡ Some d → d ≤ 15
digit_small b d e = by_digit (is_digit b) refl e
  where
    in_range : (low high : ℕ) → is_in low high b ≡ true → b ≤ high
    in_range low high h = leb-true b high (and_parts (nat_le low b) (nat_le b high) h).1

    by_upper : (c : Bool) → is_in 65 70 b ≡ c → (if c then Some (b - 55) else None) ≡ Some d → d ≤ 15
    by_upper true h e = let l = in_range 65 70 h in let s = some_one e in omega (arith, l, s)
    by_upper false h e = none_some e

    by_lower : (c : Bool) → is_in 97 102 b ≡ c → (if c then Some (b - 87) else (if is_in 65 70 b then Some (b - 55) else None)) ≡ Some d → d ≤ 15
    by_lower true h e = let l = in_range 97 102 h in let s = some_one e in omega (arith, l, s)
    by_lower false h e = by_upper (is_in 65 70 b) refl e

    by_digit : (c : Bool) → is_digit b ≡ c
        → (if c then Some (b - 48) else (if is_in 97 102 b then Some (b - 87) else (if is_in 65 70 b then Some (b - 55) else None))) ≡ Some d → d ≤ 15
    by_digit true h e = let l = in_range 48 57 h in let s = some_one e in omega (arith, l, s)
    by_digit false h e = by_lower (is_in 97 102 b) refl e

above : (b : ℕ) → in_char b ≡ true → b ≤ 126
above b h = leb-true b 126 (and_parts (nat_le 32 b) (nat_le b 126) h).1

escape_small : (b v : ℕ) → b ≤ 126 → simple_escape b ≡ Some v → v ≤ 126
escape_small b v l e = by_feed (b == 110 || b == 108) e
  where
    by_itself : (c : Bool) → (if c then Some b else None) ≡ Some v → v ≤ 126
    by_itself true e = let s = some_one e in omega (arith, l, s)
    by_itself false e = none_some e

    by_e : (c : Bool) → (if c then Some 27 else (if b == 92 || (b == 34 || b == 39) then Some b else None)) ≡ Some v → v ≤ 126
    by_e true e = let s = some_one e in omega (arith, s)
    by_e false e = by_itself (b == 92 || (b == 34 || b == 39)) e

    by_tab : (c : Bool)
        → (if c then Some 9 else (if b == 101 then Some 27 else (if b == 92 || (b == 34 || b == 39) then Some b else None))) ≡ Some v → v ≤ 126
    by_tab true e = let s = some_one e in omega (arith, s)
    by_tab false e = by_e (b == 101) e

    by_return : (c : Bool)
        → (if c then Some 13 else (if b == 116 then Some 9 else (if b == 101 then Some 27 else (if b == 92 || (b == 34 || b == 39) then Some b else None))))
        ≡ Some v → v ≤ 126
    by_return true e = let s = some_one e in omega (arith, s)
    by_return false e = by_tab (b == 116) e

    by_feed : (c : Bool)
        → (if c then Some 10 else (if b == 114 || b == 99 then Some 13 else
        (if b == 116 then Some 9 else (if b == 101 then Some 27 else (if b == 92 || (b == 34 || b == 39) then Some b else None)))))
        ≡ Some v → v ≤ 126
    by_feed true e = let s = some_one e in omega (arith, s)
    by_feed false e = by_return (b == 114 || b == 99) e

pass_tail : (p : ℕ → Bool) (b : ℕ) (bytes : List ℕ) → AllPass p (b ∷ bytes) → AllPass p bytes
pass_tail p b bytes h k d l = h (suc k) d (omega (arith, l))

pass_head : (p : ℕ → Bool) (b : ℕ) (bytes : List ℕ) → AllPass p (b ∷ bytes) → p b ≡ true
pass_head p b bytes h = h 0 b (omega arith)

character_small : {quote : ℕ} {bytes behind : List ℕ} {v : ℕ} → Character quote bytes v behind → AllPass in_char bytes → v ≤ 255
character_small (G.plain b behind p q r) h = let l = above b (pass_head in_char b behind h) in omega (arith, l)
character_small (G.escape b v behind e) h =
    let l = above b (pass_head in_char b behind (pass_tail in_char 92 (b ∷ behind) h)) in
    let m = escape_small b v l e in omega (arith, m)
character_small (G.hex_escape b c high low behind e f) h =
    let l = digit_small b high e in
    let m = digit_small c low f in omega (arith, l, m)
character_small (G.decimal_escape v bytes behind d l) h = l

char_small : {bytes : List ℕ} {v : ℕ} → IsChar bytes v → AllPass in_char bytes → v ≤ 255
char_small (G.a_char v bytes c) h = character_small c (pass_tail in_char 39 bytes h)

pub both : {x y : Bool} → x ≡ true → y ≡ true → (x && y) ≡ true
both {x} {y} e f = ap (λ b. b && y) e ∙ f

name_apart : (bytes : List ℕ) → IsName bytes → same_text (normal bytes) (codes "$") ≡ false
name_apart [] h = absurd h
name_apart (b ∷ bytes) h = by_test (nat_eq b 36) refl
  where
    by_test : (c : Bool) → nat_eq b 36 ≡ c → same_text (normal (b ∷ bytes)) (codes "$") ≡ false
    by_test true e = never (subst (λ b. is_letter b ≡ true) (eqb-true b 36 e) h.0)
    by_test false e = ap (λ c. c && pointwise nat_eq (folded bytes) []) e

name_some : (bytes : List ℕ) → IsName bytes → has_bytes bytes ≡ true
name_some [] h = absurd h
name_some (b ∷ bytes) h = refl

pub kind_read : (kind : Tok) (bytes : List ℕ) → IsSpelled kind bytes → KindRead kind bytes
kind_read (T.Int value) bytes h =
    subst (λ z. is_value kind.int z ≡ true) (sym h.3) (both (le-leb h.0 2147483647 h.2) refl)
kind_read (T.Char value) bytes h =
    let l = char_small h.0 h.1 in
    both (le-leb value 2147483647 (omega (arith, l))) (both (le-leb 0 value (omega arith)) (lt-ltb value 256 (omega (arith, l))))
kind_read T.Name bytes h = (name_some bytes h.0, name_apart bytes h.0)
kind_read other bytes h = tt

-- ---- what is left of tokens

module _ (x : Origin) where
  abbrev pub AllRead : List Token → Type 0
  AllRead [] = Unit {0}
  AllRead (tok ∷ ts) = KindRead tok.kind (spelling x tok) × AllRead ts

  pub all_read : (ts : List Token) → All (IsSpelledIn x.source) ts → AllRead ts
  all_read [] h = tt
  all_read (tok ∷ ts) h = (
    kind_read tok.kind (spelling x tok) (h 0 tok (omega arith)),
    all_read ts (λ k d l. h (suc k) d (omega (arith, l))),
  )

  -- they are read, and few
  pub record Good (ts : List Token) : Type 0 where
    pub read : AllRead ts
    pub few : length ts ≤ 2147483647

  pub tail : {tok : Token} {ts : List Token} → Good (tok ∷ ts) → Good ts
  tail {tok} {ts} h = let l = h.few in record { read = h.read.1; few = omega (arith, l) }

  pub behind_good : (ts : List Token) → Good ts → Good (behind ts)
  behind_good [] h = h
  behind_good (tok ∷ ts) h = tail h

  pub past_colon_good : (i : Layout) (ts : List Token) → Good ts → Good (past_colon i ts)
  past_colon_good i [] h = h
  past_colon_good i (tok ∷ ts) h = by_test (goes_on i tok.indent && is_punct 58 tok.kind)
    where
      by_test : (b : Bool) → Good (if b then ts else tok ∷ ts)
      by_test true = tail h
      by_test false = h
