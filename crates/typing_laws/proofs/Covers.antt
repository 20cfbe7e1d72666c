-- Labels that are enough cover each value.
use Rattle.std.proofs.Common.{◌≡◌, ℕ, zero, suc, ◌^◌, Bool, true, false, List, [], ◌∷◌, length, Option, Some, None, refl, sym, ap, subst, ◌∙◌, arith}
use Rattle.std.specs.Prelude.{ℤ, pos, ◌+ℤ◌, ◌-ℤ◌, int_le, int_lt, ◌&&◌, ◌||◌}
use Rattle.std.proofs.lemmas.Bool.{and_parts}
use Rattle.nim_types.specs.Types as type
use Rattle.nim_types.specs.Types.{Ty, Facts, fact_of, members_in}
use Rattle.nim_program.specs.Program.{Label, Ordinals, Exactly}
use Rattle.nim_program.specs.Ints.{low, high}
use Rattle.nim_program.specs.Kinds as kind
use Rattle.nim_program.specs.Kinds.{TypeKind, kind_of, declared_kind, is_text, is_there, value_count, first_value, behind_last}
use Rattle.nim_program.specs.Fitting.{joined, last_if, last_with, goes_on, reaches, cover, are_enough}
use Rattle.expr_rules.specs.Choices.{has_any, Span, span_of}
use Rattle.expr_rules.specs.Covered.{HasOrdinal, within_span, AreEnough, no_text_needed, each_ordinal}
use Rattle.expr_rules.specs.Demands.{is_selector}
use Rattle.typing_laws.specs.Sound.{Sound, of_int, of_bool, of_char, of_text, of_sequence, of_array, of_tuple, of_enum, of_object, of_distinct}
use Rattle.typing_laws.proofs.Tests.{never, ever}

-- ---- from label to label

pub record HasLast (z : ℤ) (labels : List Label) : Type 0 where
  pub last : ℤ
  pub is : last_with z labels ≡ Some last
  pub reached : int_le z last ≡ true

last_some : (z : ℤ) (labels : List Label) → has_any z labels ≡ true → HasLast z labels
last_some z [] h = never h
last_some z (Exactly t ∷ rest) h = let r = last_some z rest h in record { last = r.last; is = r.is; reached = r.reached }
last_some z (Ordinals a b ∷ rest) h = by_test (int_le a z && int_le z b) refl h (λ h. last_some z rest h)
  where
    by_test : (c : Bool) → (int_le a z && int_le z b) ≡ c → (c || has_any z rest) ≡ true → (has_any z rest ≡ true → HasLast z rest)
        → HasLast z (Ordinals a b ∷ rest)
    by_test true e h more =
        record { last = b; is = ap (λ c. last_if c b (last_with z rest)) e; reached = (and_parts (int_le a z) (int_le z b) e).1 }
    by_test false e h more =
        let r = more h in record { last = r.last; is = ap (λ c. last_if c b (last_with z rest)) e ∙ r.is; reached = r.reached }

pub reach : (n : ℕ) (from behind : ℤ) (labels : List Label) → int_le behind (from +ℤ pos n) ≡ true
    → ((z : ℤ) → int_le from z ≡ true → int_lt z behind ≡ true → has_any z labels ≡ true) → reaches n from behind labels ≡ true
reach zero from behind labels l h = at_end from behind l
  where
    at_end : (from behind : ℤ) → int_le behind (from +ℤ pos 0) ≡ true → int_le behind from ≡ true
    at_end from behind l = grind arith
reach (suc n) from behind labels l h = by_test (int_le behind from) refl (λ last is further r. reach n (last +ℤ pos 1) behind labels further r)
  where
    itself : (z : ℤ) → int_le z z ≡ true
    itself z = grind arith

    before : (z w : ℤ) → int_le w z ≡ false → int_lt z w ≡ true
    before z w e = grind arith

    further : (from last behind : ℤ) (n : ℕ) → int_le behind (from +ℤ pos (suc n)) ≡ true → int_le from last ≡ true
        → int_le behind (last +ℤ pos 1 +ℤ pos n) ≡ true
    further from last behind n l r = grind arith

    later : (from last z : ℤ) → int_le from last ≡ true → int_le (last +ℤ pos 1) z ≡ true → int_le from z ≡ true
    later from last z r e = grind arith

    by_test : (c : Bool) → int_le behind from ≡ c
        → ((last : ℤ) → last_with from labels ≡ Some last → int_le behind (last +ℤ pos 1 +ℤ pos n) ≡ true
        → ((z : ℤ) → int_le (last +ℤ pos 1) z ≡ true → int_lt z behind ≡ true → has_any z labels ≡ true) → reaches n (last +ℤ pos 1) behind labels ≡ true)
        → (c || goes_on (last_with from labels) (λ next. reaches n next behind labels)) ≡ true
    by_test true e more = refl
    by_test false e more =
        let r = last_some from labels (h from (itself from) (before from behind e)) in
        ap (λ o. goes_on o (λ next. reaches n next behind labels)) r.is
        ∙ more r.last r.is (further from r.last behind n l r.reached) (λ z f g. h z (later from r.last z r.reached f) g)

-- ---- the values of a type

-- each ordinal is one of the span
abbrev Within : TypeKind → Span → Type 0
Within k s = (z : ℤ) → int_le (first_value k) z ≡ true → int_lt z (behind_last k) ≡ true → (int_le s.from z ≡ true) × (int_le z s.to ≡ true)

covered : (facts : Facts) (ty : Ty) (k : TypeKind) (s : Span) (labels : List Label) → span_of facts ty ≡ Some s → Within k s
    → int_le (behind_last k) (first_value k +ℤ pos (value_count k)) ≡ true
    → ((z : ℤ) → HasOrdinal facts ty z → has_any z labels ≡ true) → cover k labels ≡ true
covered facts ty k s labels e w l h =
    reach (value_count k) (first_value k) (behind_last k) labels l (λ z f g. let q = w z f g in h z (within_span e q.0 q.1))

below_one : (z : ℤ) (n : ℕ) → int_lt z (pos (suc n)) ≡ true → int_le z (pos (suc n) -ℤ pos 1) ≡ true
below_one z n h = grind arith

below_next : (z w : ℤ) → int_lt z (w +ℤ pos 1) ≡ true → int_le z w ≡ true
below_next z w h = grind arith

not_text : (k : TypeKind) (gives : Option Ty) (rows : List (List Label)) → is_text k ≡ false → cover k (joined rows) ≡ true → are_enough k gives rows ≡ true
not_text kind.text gives rows e h = ever e
not_text kind.int gives rows e h = h
not_text kind.bool gives rows e h = h
not_text kind.char gives rows e h = h
not_text (kind.enum n) gives rows e h = h
not_text (kind.sequence t) gives rows e h = h
not_text (kind.array n t) gives rows e h = h
not_text (kind.tuple ts) gives rows e h = h
not_text (kind.object resource ts) gives rows e h = h
not_text (kind.distinct t) gives rows e h = h
not_text (kind.ref t) gives rows e h = h
not_text kind.exception gives rows e h = h
not_text kind.parameter gives rows e h = h
not_text kind.other gives rows e h = h

int_span : (z : ℤ) → int_le low z ≡ true → int_lt z (pos (2 ^ 31)) ≡ true → (int_le low z ≡ true) × (int_le z high ≡ true)
int_span z f g = (f, below_next z high g)

bool_span : (z : ℤ) → int_le (pos 0) z ≡ true → int_lt z (pos 2) ≡ true → (int_le (pos 0) z ≡ true) × (int_le z (pos 1) ≡ true)
bool_span z f g = (f, below_next z (pos 1) g)

char_span : (z : ℤ) → int_le (pos 0) z ≡ true → int_lt z (pos 256) ≡ true → (int_le (pos 0) z ≡ true) × (int_le z (pos 255) ≡ true)
char_span z f g = (f, below_next z (pos 255) g)

itself : (z : ℤ) → int_le z (pos 0 +ℤ z) ≡ true
itself z = grind arith

-- the kind is that of the program, and the span that of the declarations
pub enough : (facts own : Facts) (ty : Ty) (gives : Option Ty) (rows : List (List Label)) → kind_of facts ty ≡ kind_of own ty → Sound own ty
    → is_selector ty ≡ true → AreEnough own ty gives (joined rows) → are_enough (kind_of facts ty) gives rows ≡ true
enough facts own type.text None rows k s t no_text_needed = refl
enough facts own ty gives rows k of_int t (each_ordinal n h) =
    not_text kind.int gives rows refl (covered own type.int kind.int (record { from = low; to = high }) (joined rows) refl int_span refl h)
enough facts own ty gives rows k of_bool t (each_ordinal n h) =
    not_text kind.bool gives rows refl (covered own type.bool kind.bool (record { from = pos 0; to = pos 1 }) (joined rows) refl bool_span refl h)
enough facts own ty gives rows k of_char t (each_ordinal n h) =
    not_text kind.char gives rows refl (covered own type.char kind.char (record { from = pos 0; to = pos 255 }) (joined rows) refl char_span refl h)
enough facts own ty gives rows k of_text t (each_ordinal n h) = ever n
enough facts own ty gives rows k (of_sequence s) t (each_ordinal n h) = never t
enough facts own ty gives rows k (of_array l s) t (each_ordinal n h) = never t
enough facts own ty gives rows k (of_tuple s) t (each_ordinal n h) = never t
enough facts own ty gives rows k (of_object f) t (each_ordinal n h) = never t
enough facts own ty gives rows k (of_distinct f) t (each_ordinal n h) = never t
enough facts own ty gives rows k (of_enum {key = key} {first = first} {rest = rest} f) t (each_ordinal n h) =
    let e : kind_of own (type.enum key) ≡ kind.enum (suc (length rest)) = ap declared_kind f in
    subst (λ k. are_enough k gives rows ≡ true) (sym (k ∙ e))
    (not_text (kind.enum (suc (length rest))) gives rows refl
    (covered own (type.enum key) (kind.enum (suc (length rest))) (record { from = pos 0; to = pos (suc (length rest)) -ℤ pos 1 }) (joined rows)
    (ap (λ o. Some (record { from = pos 0; to = pos (length (members_in o)) -ℤ pos 1 })) f) (λ z a b. (a, below_one z (length rest) b))
    (itself (pos (suc (length rest)))) h))
