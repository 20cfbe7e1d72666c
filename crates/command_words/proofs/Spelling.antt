-- Numbers and options as words spell them: what the computation finds is what is spelled.
use Rattle.std.proofs.Common.{◌≡◌, ℕ, suc, ◌<◌, ◌≤◌, Bool, true, false, cond, List, [], ◌∷◌, ◌++◌, length, get_or, Option, Some, None, Result}
use Rattle.std.proofs.Common.{Ok, Err, OkIff, refl, sym, ap, ◌∙◌, subst, arith, codes, bytes_eq, nat_le, nat_lt, ◌^◌, ◌==◌}
use Rattle.std.proofs.lemmas.Bool.{and_parts, and_from, leb-true, ltb-true, le-leb, lt-ltb, eqb-true, ne_eqb}
use Rattle.std.proofs.lemmas.Option.{cond_some}
use Rattle.std.proofs.lemmas.Slice.Eq.{bytes_eq-Decides}
use Rattle.std.proofs.lemmas.Str.Parse.{IsNumeralModel, numerals_by_value, tells_all_ascii_digits, parse_plain}
use Rattle.std.specs.Str.{all_ascii_digits}
use Rattle.std.specs.Str.Parse.{digits_value, ParsesUnsigned}
use Rattle.command_words.specs.Command.{IsNumber, is_option}
use Rattle.command_words.specs.Walk.{is_number, number, name_of, key_of, longer, cut, Kind, end, positional, named, valued, unknown, option_kind, kind_of}
use Rattle.command_words.specs.declared.number.TheConstants.{MOST_DIGITS}
use Rattle.command_words.specs.declared.word.Key.{Key}
use Rattle.command_words.specs.declared.word.Key.TheVariants.{Heap, Steps}

-- ---- numbers

pub number_is : (least most : ℕ) (text : List ℕ) (n : ℕ) → number least most text ≡ Some n → IsNumber least most text n
number_is least most text n e =
    let got = cond_some (is_number least most text) (digits_value 10 text) n e in
    let one = and_parts (all_ascii_digits text) _ got.0 in
    let two = and_parts (nat_lt 0 (length text)) _ one.1 in
    let three = and_parts (nat_le (length text) MOST_DIGITS) _ two.1 in
    let four = and_parts (nat_le least (digits_value 10 text)) _ three.1 in
    record {
      digits = one.0;
      some = ltb-true _ _ two.0;
      short = leb-true _ _ three.0;
      value = sym got.1;
      from = subst (λ (m : ℕ). least ≤ m) got.1 (leb-true _ _ four.0);
      to = subst (λ (m : ℕ). m ≤ most) got.1 (leb-true _ _ four.1);
    }

pub number_said : (least most : ℕ) (text : List ℕ) (n : ℕ) → IsNumber least most text n → number least most text ≡ Some n
number_said least most text n h =
    let from = subst (λ (m : ℕ). least ≤ m) h.value h.from in
    let to = subst (λ (m : ℕ). m ≤ most) h.value h.to in
    let test : is_number least most text ≡ true =
    and_from _ _ h.digits (and_from _ _ (lt-ltb _ _ h.some) (and_from _ _ (le-leb _ _ h.short) (and_from _ _ (le-leb _ _ from) (le-leb _ _ to)))) in
    ap (λ b. cond b (Some (digits_value 10 text)) None) test ∙ ap (λ m. Some m) (sym h.value)

-- texts of digits, and what they write
pub numerals : IsNumeralModel (λ text. all_ascii_digits text ≡ true) (digits_value 10)
numerals = numerals_by_value (λ text. all_ascii_digits text ≡ true) tells_all_ascii_digits

abbrev pub Parsed : List ℕ → Type 0
Parsed text = (all_ascii_digits text ≡ true) × (0 < length text) × (digits_value 10 text < 2 ^ 32)

pub parsed_ok : {E : Type 0} (text : List ℕ) (r : Result ℕ E) (n : ℕ) → (get_or text 0 0 ≡ 43 → ⊥) → ParsesUnsigned 32 10 text r → r ≡ Ok n →
    Parsed text × (n ≡ digits_value 10 text)
parsed_ok {E} text r n plain h e = subst (λ (s : Result ℕ E). OkIff s (Parsed text) (digits_value 10 text)) e (parse_plain numerals 32 text r h plain)

pub parsed_err : {E : Type 0} (text : List ℕ) (r : Result ℕ E) (why : E) → (get_or text 0 0 ≡ 43 → ⊥) → ParsesUnsigned 32 10 text r → r ≡ Err why →
    Parsed text → ⊥
parsed_err {E} text r why plain h e = subst (λ (s : Result ℕ E). OkIff s (Parsed text) (digits_value 10 text)) e (parse_plain numerals 32 text r h plain)

pub number_ok : (least most : ℕ) (text : List ℕ) (n : ℕ) → Parsed text → n ≡ digits_value 10 text → length text ≤ MOST_DIGITS → least ≤ n → n ≤ most →
    Some n ≡ number least most text
number_ok least most text n p e short from to =
    sym (number_said least most text n (record { digits = p.0; some = p.1; short = short; value = e; from = from; to = to }))

number_none_at : (least most : ℕ) (text : List ℕ) (b : Bool) → is_number least most text ≡ b → (is_number least most text ≡ true → ⊥) →
    cond b (Some (digits_value 10 text)) None ≡ None
number_none_at least most text true e h = absurd (h e)
number_none_at least most text false e h = refl

pub number_err : (least most : ℕ) (text : List ℕ) → most < 2 ^ 32 → (Parsed text → ⊥) → None ≡ number least most text
number_err least most text fits no_number =
    sym (number_none_at least most text _ refl (λ test.
    let is = number_is least most text (digits_value 10 text) (ap (λ b. cond b (Some (digits_value 10 text)) None) test) in
    let to = is.to in
    no_number (is.digits, is.some, omega arith)))

-- ---- names of options

key_is_at : (name : List ℕ) (a b : Bool) (key : Key) → bytes_eq name (codes "--heap") ≡ a → bytes_eq name (codes "--steps") ≡ b →
    cond a (Some Heap) (cond b (Some Steps) None) ≡ Some key → name ≡ name_of key
key_is_at name true b Heap e f h = (bytes_eq-Decides name (codes "--heap")).0 e
key_is_at name true b Steps e f h = cc
key_is_at name false true Heap e f h = cc
key_is_at name false true Steps e f h = (bytes_eq-Decides name (codes "--steps")).0 f
key_is_at name false false key e f h = cc

pub key_is : (name : List ℕ) (key : Key) → key_of name ≡ Some key → name ≡ name_of key
key_is name key h = key_is_at name _ _ key refl refl h

-- ---- the first `=`

-- the two parts, joined again
abbrev pub whole : List ℕ × Option (List ℕ) → List ℕ
whole (name, None) = name
whole (name, Some value) = name ++ 61 ∷ value

longer_whole : (byte : ℕ) (parts : List ℕ × Option (List ℕ)) → whole (longer byte parts) ≡ byte ∷ whole parts
longer_whole byte (name, None) = refl
longer_whole byte (name, Some value) = refl

cut_at : (byte : ℕ) (bytes : List ℕ) (b : Bool) → (byte == 61) ≡ b → whole (cut bytes) ≡ bytes →
    whole (cond b ([], Some bytes) (longer byte (cut bytes))) ≡ byte ∷ bytes
cut_at byte bytes true e h = ap (λ c. c ∷ bytes) (sym (eqb-true byte 61 e))
cut_at byte bytes false e h = longer_whole byte (cut bytes) ∙ ap (λ l. byte ∷ l) h

pub cut_whole : (bytes : List ℕ) → whole (cut bytes) ≡ bytes
cut_whole [] = refl
cut_whole (byte ∷ bytes) = cut_at byte bytes _ refl (cut_whole bytes)

other_byte : (byte : ℕ) (bytes : List ℕ) → (byte ≡ 61 → ⊥) → cut (byte ∷ bytes) ≡ longer byte (cut bytes)
other_byte byte bytes other = ap (λ b. cond b ([], Some bytes) (longer byte (cut bytes))) (ne_eqb byte 61 other)

-- where no `=` stands in the name
pub cut_parts : (name value : List ℕ) → ((i : ℕ) → i < length name → get_or name i 0 ≡ 61 → ⊥) → cut (name ++ 61 ∷ value) ≡ (name, Some value)
cut_parts [] value none = refl
cut_parts (byte ∷ name) value none =
    other_byte byte (name ++ 61 ∷ value) (none 0 (omega arith))
    ∙ ap (longer byte) (cut_parts name value (λ i within. none (suc i) (omega arith)))

pub cut_said : (bytes name value : List ℕ) → bytes ≡ name ++ 61 ∷ value → ((i : ℕ) → i < length name → get_or name i 0 ≡ 61 → ⊥) →
    cut bytes ≡ (name, Some value)
cut_said bytes name value e none = ap cut e ∙ cut_parts name value none

pub cut_none : (name : List ℕ) → ((i : ℕ) → i < length name → get_or name i 0 ≡ 61 → ⊥) → cut name ≡ (name, None)
cut_none [] none = refl
cut_none (byte ∷ name) none =
    other_byte byte name (none 0 (omega arith)) ∙ ap (longer byte) (cut_none name (λ i within. none (suc i) (omega arith)))

-- ---- kinds of words

abbrev pub KindIs : List ℕ → Kind → Type 0
KindIs word end = word ≡ codes "--"
KindIs word positional = is_option word ≡ false
KindIs word (named key) = word ≡ name_of key
KindIs word (valued key value) = word ≡ name_of key ++ codes "=" ++ value
KindIs word unknown = Unit {0}

with_equals : (name value : List ℕ) → name ++ codes "=" ++ value ≡ name ++ 61 ∷ value
with_equals [] value = refl
with_equals (byte ∷ name) value = ap (λ l. byte ∷ l) (with_equals name value)

option_means : (word : List ℕ) (key : Option Key) (parts : List ℕ × Option (List ℕ)) → key_of parts.0 ≡ key → whole parts ≡ word →
    KindIs word (option_kind key parts.1)
option_means word None parts e h = tt
option_means word (Some key) (name, None) e h = sym h ∙ key_is name key e
option_means word (Some key) (name, Some value) e h = sym h ∙ ap (λ l. l ++ 61 ∷ value) (key_is name key e) ∙ sym (with_equals (name_of key) value)

kind_at : (word : List ℕ) (a b : Bool) → bytes_eq word (codes "--") ≡ a → is_option word ≡ b →
    KindIs word (cond a end (cond b (option_kind (key_of (cut word).0) (cut word).1) positional))
kind_at word true b e f = (bytes_eq-Decides word (codes "--")).0 e
kind_at word false true e f = option_means word (key_of (cut word).0) (cut word) refl (cut_whole word)
kind_at word false false e f = f

pub kind_is : (word : List ℕ) → KindIs word (kind_of word)
kind_is word = kind_at word _ _ refl refl

place_at : (word : List ℕ) (a : Bool) → bytes_eq word (codes "--") ≡ a → is_option word ≡ false →
    cond a end (cond (is_option word) (option_kind (key_of (cut word).0) (cut word).1) positional) ≡ positional
place_at word true e h = let clash : true ≡ false = sym (ap is_option ((bytes_eq-Decides word (codes "--")).0 e)) ∙ h in cc
place_at word false e h = ap (λ b. cond b (option_kind (key_of (cut word).0) (cut word).1) positional) h

pub place_kind : (word : List ℕ) → is_option word ≡ false → kind_of word ≡ positional
place_kind word h = place_at word _ refl h

pub named_kind : (key : Key) → kind_of (name_of key) ≡ named key
named_kind Heap = refl
named_kind Steps = refl

pub valued_kind : (key : Key) (value : List ℕ) → kind_of (name_of key ++ codes "=" ++ value) ≡ valued key value
valued_kind Heap value = refl
valued_kind Steps value = refl
